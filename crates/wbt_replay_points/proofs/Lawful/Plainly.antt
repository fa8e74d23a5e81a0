-- The same walk for a law that reads nothing of what a turn still does: a CPU may change in that at any place.
use Rattle.std.proofs.Common.{◌⊎◌, ◌≡◌, ◌≢◌, ℕ, ◌<◌, List, [], ◌∷◌, length, Option, Some, ◌+◌, false, refl}
use Rattle.wbt_replay_order.proofs.Common.{Counter, update_of, Estimate, domains, context_of, group_of, page_of, Scan, Trace, decide_for, fold, log_at, estimate_to, sample_of, complete_page, share_now, make_step, make_move, begin_turn, claim_now, fly, State, cpu_of, with_cpu, task_of, with_task, flusher_of, with_flusher, writeback_of, plain_step, with_waiting, passed_page, dirty_fresh, end_now, Actor, Cpu, ReplayWork, Stretch, Whose, Silent, Step, Todo, Facts, IsPageOf, Sound, IsCounter, WaitMove}
use Rattle.wbt_grant.specs.declared.who.StepKind.TheVariants as kind
use Rattle.wbt_journal.specs.declared.entry.Entry.TheVariants as entry
use Rattle.wbt_replay_moves.specs.declared.todo.Todo.TheVariants as todo
use Rattle.wbt_replay_points.proofs.Lawful.Items as items
use Rattle.wbt_replay_points.proofs.Lawful.Now.{WritesNow, DecidesNow, EndsNow, ScansNow, CompletesNow, EstimatesNow, entry_of, ListsNow, Starts}
use Rattle.wbt_replay_points.proofs.Lawful.Same.{log_of, Hidden, GoesOn}
use Rattle.wbt_replay_order.proofs.Walk.{turned}
use Rattle.wbt_expiry.specs.Waiting.{Waiting as Wheel}

module _ (trace : Trace) (facts : Facts trace) (R : State → State → Type 0) (hide : (s u : State) → Hidden s u → R s u) (thens : (s u v : State) → R s u → R u v → R s v)
    (quiet : (cpu : ℕ) (c : Cpu) (s : State) → log_of c ≡ log_of (cpu_of cpu s) → c.local ≡ (cpu_of cpu s).local → R s (with_cpu cpu c s))
    (folds : (cpu : ℕ) (x : Counter) (s : State) → cpu < length s.cpus → IsCounter trace x → R s (fold cpu x s))
    (known : (cpu task inode page pages : ℕ) (works : List ReplayWork) (s : State) → WritesNow trace cpu task inode page pages works s
    → R s (plain_step cpu kind.Dirty (log_at cpu (entry.Write task page false) (with_task task (passed_page inode page pages works (task_of task s)) s))))
    (fresh : (cpu task inode page pages : ℕ) (works : List ReplayWork) (s : State) → WritesNow trace cpu task inode page pages works s
    → R s (dirty_fresh trace cpu task inode page (with_task task (passed_page inode page pages works (task_of task s)) s)))
    (claims : (cpu f : ℕ) (scan : Scan) (s : State) → ScansNow trace cpu f scan s → IsPageOf trace scan.inode (page_of scan) → R s (claim_now cpu f scan s))
    (flies : (cpu f : ℕ) (scan : Scan) (until : ℕ) (s : State) → ScansNow trace cpu f scan s → length (flusher_of f s).batch ≢ 0
    → R s (fly cpu f scan.inode (length (flusher_of f s).batch) until s))
    (completes : (cpu f inode page : ℕ) (pages : List ℕ) (s : State) → CompletesNow trace cpu f inode page pages s
    → R s (complete_page trace cpu f (context_of trace inode) page (with_flusher f (record (flusher_of f s) { batch = pages }) s)))
    (lists : (cpu f : ℕ) (move : WaitMove) (list : Wheel) (s : State) → ListsNow trace cpu f move list s → R s (log_at cpu (entry_of f move) (with_waiting f list s)))
    (shares : (cpu domain context n : ℕ) (s : State) → cpu < length s.cpus → domain < domains trace → context < length trace.contexts → (domain ≡ 0) ⊎ (domain ≡ group_of trace context) → R s (share_now cpu domain context n s))
    (ends : (cpu task : ℕ) (s : State) → EndsNow trace cpu task s → R s (end_now cpu task s))
    (decides : (cpu task : ℕ) (s : State) → DecidesNow trace cpu task s → R s (decide_for trace cpu task (task_of task s).context s))
    (estimates : (cpu f context : ℕ) (e : Estimate) (s : State) → EstimatesNow trace cpu f context s
    → update_of (writeback_of context s).estimate (sample_of trace context (cpu_of cpu s).turn s) ≡ Some e → R s (estimate_to cpu context (Some e) s)) where
  pub see_turn : (cpu : ℕ) (w : Whose) (c : Cpu) (s : State) → log_of c ≡ log_of (cpu_of cpu s) → c.local ≡ (cpu_of cpu s).local → GoesOn (cpu_of cpu s) c → c.todo ≡ [] → (cpu_of cpu s).todo ≡ []
      → Starts trace cpu w s → R s (begin_turn trace cpu w (with_cpu cpu c s))
  see_turn =
      items.see_turn trace facts R hide thens (λ cpu w s none. quiet cpu _ s refl refl) folds
      (λ cpu task inode page pages works c s its now. thens s (with_cpu cpu c s) _ (quiet cpu c s its.told its.local) (known cpu task inode page pages works (with_cpu cpu c s) now))
      (λ cpu task inode page pages works c s its now. thens s (with_cpu cpu c s) _ (quiet cpu c s its.told its.local) (fresh cpu task inode page pages works (with_cpu cpu c s) now))
      claims flies completes lists shares (λ cpu task c s its more. quiet cpu c s its.told its.local)
      (λ cpu task c s its now. thens s (with_cpu cpu c s) _ (quiet cpu c s its.told its.local) (ends cpu task (with_cpu cpu c s) now))
      (λ cpu task c s its now. thens s (with_cpu cpu c s) _ (quiet cpu c s its.told its.local) (decides cpu task (with_cpu cpu c s) now))
      estimates

  module _ (s0 : State) (sound : Sound trace s0) (orders : List Stretch) (rotation : Option Actor) (i : ℕ) (below : i < length s0.cpus) (ts : List Todo) where
    abbrev m : State
    m = turned orders rotation s0

    pub steps_seen : (x : Step) → (cpu_of i s0).todo ≡ todo.Step x ∷ ts → R m (make_step trace i x (with_cpu i (record (cpu_of i m) { todo = ts; made = (cpu_of i m).made + 1 }) m))
    steps_seen =
        items.steps_seen trace facts R hide thens (λ cpu w s none. quiet cpu _ s refl refl) folds
        (λ cpu task inode page pages works c s its now. thens s (with_cpu cpu c s) _ (quiet cpu c s its.told its.local) (known cpu task inode page pages works (with_cpu cpu c s) now))
        (λ cpu task inode page pages works c s its now. thens s (with_cpu cpu c s) _ (quiet cpu c s its.told its.local) (fresh cpu task inode page pages works (with_cpu cpu c s) now))
        claims flies completes lists shares (λ cpu task c s its more. quiet cpu c s its.told its.local)
        (λ cpu task c s its now. thens s (with_cpu cpu c s) _ (quiet cpu c s its.told its.local) (ends cpu task (with_cpu cpu c s) now))
        (λ cpu task c s its now. thens s (with_cpu cpu c s) _ (quiet cpu c s its.told its.local) (decides cpu task (with_cpu cpu c s) now))
        estimates s0 sound orders rotation i below ts

    pub moves_seen : (x : Silent) → (cpu_of i s0).todo ≡ todo.Silent x ∷ ts → R m (make_move trace i x (with_cpu i (record (cpu_of i m) { todo = ts }) m))
    moves_seen =
        items.moves_seen trace facts R hide thens (λ cpu w s none. quiet cpu _ s refl refl) folds
        (λ cpu task inode page pages works c s its now. thens s (with_cpu cpu c s) _ (quiet cpu c s its.told its.local) (known cpu task inode page pages works (with_cpu cpu c s) now))
        (λ cpu task inode page pages works c s its now. thens s (with_cpu cpu c s) _ (quiet cpu c s its.told its.local) (fresh cpu task inode page pages works (with_cpu cpu c s) now))
        claims flies completes lists shares (λ cpu task c s its more. quiet cpu c s its.told its.local)
        (λ cpu task c s its now. thens s (with_cpu cpu c s) _ (quiet cpu c s its.told its.local) (ends cpu task (with_cpu cpu c s) now))
        (λ cpu task c s its now. thens s (with_cpu cpu c s) _ (quiet cpu c s its.told its.local) (decides cpu task (with_cpu cpu c s) now))
        estimates s0 sound orders rotation i below ts
