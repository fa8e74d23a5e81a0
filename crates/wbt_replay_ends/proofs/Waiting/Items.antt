-- Each item of a CPU's turn keeps it that what is still to be cleaned waits, from a sound state.
use Rattle.std.proofs.Common.{◌≡◌, ℕ, ◌+◌, ◌<◌, ◌≤◌, false, cond, List, [], ◌∷◌, length, All, refl, sym, ◌∙◌, ap, subst, arith}
use Rattle.std.proofs.lemmas.List.Elements.{All-head, All-tail}
use Rattle.std.proofs.lemmas.List.Sums.{get_or-le-sum_by}
use Rattle.std.specs.List.{list_any}
use Rattle.wbt_replay_order.proofs.Common.{Trace, complete_by, land_by, test_by, unmark_by, make_step, make_move, look_by, claim_by, close_by, hand_over_by, State, no_task, cpu_of, task_of, flusher_of, with_cpu, device_of, dirty_by, Cpu, ReplayTask, Whose, ReplayWork, Silent, Step, Todo, Facts, IsFlusherOn, IsPageOf, IsTaskOn, IsAt, IsWhose, WorkFits, is_running, Agrees, ItemFits, is_mark_of, is_end, is_hand_over, IsServed, Waiting}
use Rattle.wbt_replay_moves.specs.declared.state.Whose.TheVariants as whose
use Rattle.wbt_replay_moves.specs.declared.state.ReplayWork.TheVariants as work
use Rattle.wbt_replay_moves.specs.declared.todo.Silent.TheVariants as silent
use Rattle.wbt_replay_moves.specs.declared.todo.Step.TheVariants as step
use Rattle.wbt_replay_moves.specs.declared.todo.Todo.TheVariants as todo
use Rattle.wbt_replay_ends.proofs.Waiting.Closing.{close_waits, hand_over_waits}
use Rattle.wbt_replay_ends.proofs.Waiting.Flights.{complete_waits, land_waits}
use Rattle.wbt_replay_ends.proofs.Waiting.Idles.{tested_waits, unmark_waits}
use Rattle.wbt_replay_ends.proofs.Waiting.Needs.{Needs}
use Rattle.wbt_replay_ends.proofs.Waiting.Marks.{mark_waits}
use Rattle.wbt_replay_ends.proofs.Waiting.Quiet.{add_waits, fold_waits, clear_waits, first_waits, middle_waits, limits_waits, count_waits, decide_waits, end_waits, estimate_waits, weigh_waits}
use Rattle.wbt_replay_ends.proofs.Waiting.Scans.{look_waits, claim_waits}
use Rattle.wbt_replay_ends.proofs.Waiting.Writes.{dirty_waits}
use Rattle.wbt_replay_ends.proofs.Waiting.Performs.{an_end, a_hand_over, none_later, scanning_works, one_runs, mine, agree, in_order, before, seats_left, whose_is, todo_is, left_waits, by_owner}

module _ (trace : Trace) (facts : Facts trace) (i : ℕ) (less : i < trace.cpus) (s : State) (needs : Needs trace s) (w : Waiting trace s) (rest : List Todo) where
  -- a flusher isn't finished where a task runs
  task_serves : (task d : ℕ) → task < length trace.tasks → (task_of task s).ended ≡ false → d < length trace.devices → IsServed trace s d
  task_serves task d known ended there =
      let found = facts.manned d there in
      let runs : 1 ≤ s.running = omega (
        arith,
        needs.running,
        one_runs (task_of task s) ended,
        get_or-le-sum_by (λ (t : ReplayTask). cond (is_running t) 1 0) s.tasks task no_task (omega (arith, known, needs.tasks.many)),
      ) in
      record { flusher = found.0; there = found.1; ours = found.2; works = w.going runs found.0 found.1 }

  mark_serves : (n : ℕ) → (cpu_of i s).todo ≡ todo.Step (step.Mark n) ∷ rest → n < length trace.inodes → IsServed trace s (device_of trace n)
  mark_serves n is fits = by_whose (cpu_of i s).turn.whose refl (mine trace facts i less s needs w (todo.Step (step.Mark n)) rest is)
    where
      by_whose : (x : Whose) → (cpu_of i s).turn.whose ≡ x → IsWhose trace i x → IsServed trace s (device_of trace n)
      by_whose (whose.Task task) of on =
          task_serves task (device_of trace n) on.there
          (an_end trace s.tasks s.flushers task rest (before trace facts i less s needs w (todo.Step (step.Mark n)) rest is (whose.Task task) of).0
          (All-tail (Agrees trace s.tasks s.flushers (whose.Task task)) (todo.Step (step.Mark n)) rest (agree trace facts i less s needs w (todo.Step (step.Mark n)) rest is (whose.Task task) of)))
          (facts.inode_device n fits)
      by_whose (whose.Flusher f) of on =
          let comes = (before trace facts i less s needs w (todo.Step (step.Mark n)) rest is (whose.Flusher f) of).0 in
          record {
            flusher = f;
            there = on.there;
            ours = sym comes.0;
            works = scanning_works (flusher_of f s).phase (a_hand_over trace s.tasks s.flushers f rest comes.1
                (All-tail (Agrees trace s.tasks s.flushers (whose.Flusher f)) (todo.Step (step.Mark n)) rest (agree trace facts i less s needs w (todo.Step (step.Mark n)) rest is (whose.Flusher f) of)));
          }

  -- a page that is written next is one of its inode's
  page_next : (task : ℕ) → task < length trace.tasks → (works : List ReplayWork) → (task_of task s).works ≡ works → (n q pages : ℕ) (more : List ReplayWork) → works ≡ work.Write n q pages ∷ more → IsPageOf trace n q
  page_next task known works at n q pages more first =
      (All-head (WorkFits trace task) (work.Write n q pages) more (subst (All (WorkFits trace task)) (at ∙ first) (needs.tasks.each task known).works)).first

  -- ---- a step

  abbrev stepped : Cpu
  stepped = record (cpu_of i s) { todo = rest; made = (cpu_of i s).made + 1 }

  abbrev stepping : State
  stepping = with_cpu i stepped s

  module _ (x : Step) (is : (cpu_of i s).todo ≡ todo.Step x ∷ rest) where
    gone : ((n : ℕ) → is_mark_of n (todo.Step x) ≡ false) → Waiting trace stepping
    gone none = left_waits trace facts i less s needs w (todo.Step x) rest is stepped refl refl none

    owner : (F : Whose → State) → ((task : ℕ) → (cpu_of i s).turn.whose ≡ whose.Task task → IsTaskOn trace i task → Waiting trace (F (whose.Task task)))
        → ((f : ℕ) → (cpu_of i s).turn.whose ≡ whose.Flusher f → IsFlusherOn trace i f → Waiting trace (F (whose.Flusher f))) → Waiting trace (F (cpu_of i stepping).turn.whose)
    owner F task flusher = by_owner trace facts i less s needs w (todo.Step x) rest is stepped refl refl F task flusher

    seated : length stepping.cpus ≡ trace.cpus
    seated = seats_left trace facts i less s needs w (todo.Step x) rest is stepped refl refl

    listed : (cpu_of i stepping).todo ≡ rest
    listed = todo_is trace facts i less s needs w (todo.Step x) rest is stepped refl refl

  pub step_waits : (x : Step) → (cpu_of i s).todo ≡ todo.Step x ∷ rest → Waiting trace (make_step trace i x stepping)
  unfolding make_step
  step_waits step.Dirty is =
      owner step.Dirty is (λ (y : Whose). dirty_by trace i y stepping)
      (λ task of on. dirty_waits trace facts i task less (task_of task s).works stepping (seated step.Dirty is) (gone step.Dirty is (λ n. refl))
      (whose_is trace facts i less s needs w (todo.Step step.Dirty) rest is stepped refl refl ∙ of)
      (ap (λ (l : List Todo). list_any is_end l) (listed step.Dirty is) ∙ (before trace facts i less s needs w (todo.Step step.Dirty) rest is (whose.Task task) of).0)
      (page_next task on.there (task_of task s).works refl))
      (λ f of on. gone step.Dirty is (λ n. refl))
  step_waits (step.Add x change) is = add_waits trace i stepping (gone (step.Add x change) is (λ n. refl)) x change
  step_waits (step.Fold x) is = fold_waits trace i stepping (gone (step.Fold x) is (λ n. refl)) x
  step_waits (step.Clear x) is = clear_waits trace i stepping (gone (step.Clear x) is (λ n. refl)) x
  step_waits (step.Mark n) is =
      let fits : n < length trace.inodes = All-head (ItemFits trace) (todo.Step (step.Mark n)) rest (subst (All (ItemFits trace)) is (needs.cpus.each i less).todo) in
      mark_waits trace facts i less s needs.cpus.many w needs.queues needs.marks n rest ((cpu_of i s).made + 1) is fits (mark_serves n is fits)
  step_waits (step.First d) is = first_waits trace i stepping (gone (step.First d) is (λ n. refl)) d
  step_waits (step.Middle d) is = middle_waits trace i stepping (gone (step.Middle d) is (λ n. refl))
  step_waits (step.Limits d) is = limits_waits trace i stepping (gone (step.Limits d) is (λ n. refl)) d
  step_waits (step.Count x) is = count_waits trace i stepping (gone (step.Count x) is (λ n. refl)) x
  step_waits step.Unmark is =
      owner step.Unmark is (λ (y : Whose). unmark_by trace i y stepping)
      (λ task of on. gone step.Unmark is (λ n. refl))
      (λ f of on. unmark_waits trace facts i f less on stepping (seated step.Unmark is) needs.flushers.many (gone step.Unmark is (λ n. refl)) (flusher_of f s).phase refl
      (λ n at. let is_at : (((flusher_of f s).batch ≡ []) × (n < length trace.inodes)) = subst (IsAt trace (flusher_of f s).batch) at (needs.flushers.each f).phase in
      (omega (arith, is_at.1, needs.marks), ((needs.flushers.each f).places on.there).below n is_at.1))
      (ap (λ (l : List Todo). list_any is_hand_over l) (listed step.Unmark is) ∙ none_later rest (in_order trace facts i less s needs w (todo.Step step.Unmark) rest is).0))
  step_waits step.Look is =
      owner step.Look is (λ (y : Whose). look_by i y stepping)
      (λ task of on. gone step.Look is (λ n. refl))
      (λ f of on. look_waits trace i f less on stepping (seated step.Look is) needs.flushers.many (gone step.Look is (λ n. refl)) (flusher_of f s).phase refl)
  step_waits (step.Claim word) is =
      owner (step.Claim word) is (λ (y : Whose). claim_by i word y stepping)
      (λ task of on. gone (step.Claim word) is (λ n. refl))
      (λ f of on. claim_waits trace i f less on stepping (seated (step.Claim word) is) needs.flushers.many (gone (step.Claim word) is (λ n. refl)) word (flusher_of f s).phase refl)
  step_waits step.Complete is =
      owner step.Complete is (λ (y : Whose). complete_by trace i y stepping)
      (λ task of on. gone step.Complete is (λ n. refl))
      (λ f of on. complete_waits trace i f less on stepping (seated step.Complete is) needs.flushers.many (gone step.Complete is (λ n. refl)) (flusher_of f s).phase refl)

  -- ---- a silent move

  abbrev still : Cpu
  still = record (cpu_of i s) { todo = rest }

  abbrev popped : State
  popped = with_cpu i still s

  module _ (x : Silent) (is : (cpu_of i s).todo ≡ todo.Silent x ∷ rest) where
    left_here : Waiting trace popped
    left_here = left_waits trace facts i less s needs w (todo.Silent x) rest is still refl refl (λ n. refl)

    its_owner : (F : Whose → State) → ((task : ℕ) → (cpu_of i s).turn.whose ≡ whose.Task task → IsTaskOn trace i task → Waiting trace (F (whose.Task task)))
        → ((f : ℕ) → (cpu_of i s).turn.whose ≡ whose.Flusher f → IsFlusherOn trace i f → Waiting trace (F (whose.Flusher f))) → Waiting trace (F (cpu_of i popped).turn.whose)
    its_owner F task flusher = by_owner trace facts i less s needs w (todo.Silent x) rest is still refl refl F task flusher

    seated_here : length popped.cpus ≡ trace.cpus
    seated_here = seats_left trace facts i less s needs w (todo.Silent x) rest is still refl refl

  pub move_waits : (x : Silent) → (cpu_of i s).todo ≡ todo.Silent x ∷ rest → Waiting trace (make_move trace i x popped)
  unfolding make_move
  move_waits silent.Decide is = decide_waits trace i popped (left_here silent.Decide is)
  move_waits silent.End is = end_waits trace i popped (left_here silent.End is)
  move_waits (silent.Estimate k) is = estimate_waits trace i popped (left_here (silent.Estimate k) is) k
  move_waits (silent.Weigh k) is = weigh_waits trace i popped (left_here (silent.Weigh k) is) k
  move_waits silent.Test is =
      its_owner silent.Test is (λ (y : Whose). test_by trace i (cpu_of i popped).turn y popped)
      (λ task of on. left_here silent.Test is)
      (λ f of on. tested_waits trace facts i f less on popped (seated_here silent.Test is) needs.flushers.many (left_here silent.Test is) (cpu_of i popped).turn (cpu_of i popped).turn.global.limits.hard (flusher_of f popped).wheel needs.queues
      (All-head (Agrees trace s.tasks s.flushers (whose.Flusher f)) (todo.Silent silent.Test) rest (agree trace facts i less s needs w (todo.Silent silent.Test) rest is (whose.Flusher f) of)))
  move_waits silent.Close is =
      its_owner silent.Close is (λ (y : Whose). close_by trace i y popped)
      (λ task of on. left_here silent.Close is)
      (λ f of on. close_waits trace i f less on popped (seated_here silent.Close is) needs.flushers.many (left_here silent.Close is)
      (whose_is trace facts i less s needs w (todo.Silent silent.Close) rest is still refl refl ∙ of) (flusher_of f s).phase refl)
  move_waits silent.HandOver is =
      its_owner silent.HandOver is (λ (y : Whose). hand_over_by trace i y popped)
      (λ task of on. left_here silent.HandOver is)
      (λ f of on. hand_over_waits trace i f less on s needs.cpus.many needs.flushers.many w of rest is (flusher_of f s).phase refl)
  move_waits silent.Land is =
      its_owner silent.Land is (λ (y : Whose). land_by trace i y popped)
      (λ task of on. left_here silent.Land is)
      (λ f of on. land_waits trace i f less on popped (seated_here silent.Land is) needs.flushers.many (left_here silent.Land is) (flusher_of f s).phase refl)
