-- Moves whose entries a CPU's side doesn't see: of flushers, folds and estimates; and those that aren't told.
use Rattle.std.proofs.Common.{◌≡◌, ◌≢◌, ℕ, zero, suc, ◌+◌, ◌<◌, false, eqb, ℤ, negsuc, List, [], ◌∷◌, ◌++◌, length, get_or, Some, None, refl, sym, ◌∙◌, ap, subst}
use Rattle.std.proofs.Math.ListN.{set}
use Rattle.std.proofs.lemmas.List.{get_or-set_same, get_or-set_other}
use Rattle.wbt_book.specs.declared.event.Event.TheVariants as event
use Rattle.wbt_replay_order.proofs.Common.{Counter, update_of, Estimate, context_of, group_of, page_of, Scan, Trace, effect, WaitMove, notices, ages, takes_first, Told, told, told_entry, Entry, EstEntry, then_do, logged, log_at, own_of, owed_to, estimate_to, sample_of, complete_page, share_now, claim_now, fly, State, no_cpu, no_task, cpu_of, flusher_of, with_flusher, writeback_of, count_of, with_event, with_waiting, Cpu, Flusher, ReplayTask, Todo, Facts, IsPageOf}
use Rattle.wbt_counter.specs.declared.counter.Counter.TheVariants.{Domain as ofDomain, Context as ofContext}
use Rattle.wbt_journal.specs.Told.{folded as folded_told, claimed as claimed_told, batch as batch_told, done as done_told, share as share_told, estimated as est_told, noticed as noticed_told, aged as aged_told, took as took_told}
use Rattle.wbt_journal.specs.declared.entry.Entry.TheVariants as entry
use Rattle.wbt_replay_moves.specs.Definition.Counters.{fold as fold_at}
use Rattle.wbt_replay_moves.specs.Definition.Cpu.{estimated as estimated_in}
use Rattle.wbt_replay_moves.specs.declared.state.ReplayPhase.TheVariants as phase
use Rattle.wbt_replay_moves.specs.declared.todo.Silent.TheVariants as silent
use Rattle.wbt_replay_moves.specs.declared.todo.Todo.TheVariants as todo
use Rattle.wbt_replay_order.proofs.Facts.Lists.{either}
use Rattle.wbt_replay_points.proofs.Lawful.Estimated as estimated
use Rattle.wbt_replay_points.proofs.Lawful.Estimated.{HasEstimates}
use Rattle.wbt_replay_points.proofs.Lawful.Logs.{told_logged, told_estimated}
use Rattle.wbt_replay_points.proofs.Lawful.Now.{ScansNow, CompletesNow, EstimatesNow, entry_of, ListsNow}
use Rattle.wbt_replay_points.proofs.Lawful.Same.{told_of, told_same, task_view, Hidden, hide_cpu, is_told, GoesOn, AreUntold, same_turn, untold_turn}
use Rattle.wbt_replay_points.proofs.Lawful.Sides.{HasSides, sides_stay, entered}
use Rattle.wbt_expiry.specs.Waiting.{Waiting as Wheel}

abbrev pub Both : (trace : Trace) (s : State) → Type 0
Both trace s = HasEstimates trace s × HasSides trace s

abbrev pub Goes : (trace : Trace) (s u : State) → Type 0
Goes trace s u = Both trace s → Both trace u

module _ (trace : Trace) (facts : Facts trace) where
  -- ---- what is hidden

  pub quietly_sides : (s u : State) → Hidden s u → HasSides trace s → HasSides trace u
  quietly_sides s u hidden h =
      sides_stay trace s u hidden.3 (λ i. told_same (cpu_of i u) (cpu_of i s) (hidden.0.parts i)) hidden.0.locals hidden.0.tasks_are hidden.0.turns h

  pub hide : (s u : State) → Hidden s u → Goes trace s u
  hide s u hidden h = (estimated.hide trace facts s u hidden h.0, quietly_sides s u hidden h.1)

  pub thens : (s u v : State) → Goes trace s u → Goes trace u v → Goes trace s v
  thens s u v p q h = q (p h)

  -- CPUs and tasks are the same
  pub as_is : (s u : State) → u.ratelimit_pages ≡ s.ratelimit_pages → u.cpus ≡ s.cpus → u.tasks ≡ s.tasks → HasSides trace s → HasSides trace u
  as_is s u rate cpus tasks h =
      sides_stay trace s u rate (λ i. ap (λ (l : List Cpu). told_of (get_or l i no_cpu)) cpus) (λ i. ap (λ (l : List Cpu). (get_or l i no_cpu).local) cpus)
      (λ t. ap (λ (l : List ReplayTask). task_view (get_or l t no_task)) tasks)
      (λ i. subst (λ (l : List Cpu). GoesOn (cpu_of i s) (get_or l i no_cpu)) (sym cpus) (same_turn (cpu_of i s) (cpu_of i s) refl refl)) h

  -- a CPU does more first
  pub pushed : (cpu : ℕ) (items : List Todo) (s : State) → AreUntold items → HasSides trace s → HasSides trace (then_do cpu items s)
  pushed cpu items s none h = quietly_sides s (then_do cpu items s) (hide_cpu cpu _ s refl refl (untold_turn items (cpu_of cpu s) _ none refl refl)) h

  -- ---- entries that a side doesn't see

  pub told_by : (cpu : ℕ) (d : Cpu) (tale : Told) (s u : State) → cpu < length s.cpus → (effect tale).write ≡ None → (effect tale).check ≡ None → u.ratelimit_pages ≡ s.ratelimit_pages
      → u.cpus ≡ set s.cpus cpu d → told_of d ≡ told_of (cpu_of cpu s) ++ tale ∷ [] → d.local ≡ (cpu_of cpu s).local → GoesOn (cpu_of cpu s) d → u.tasks ≡ s.tasks → HasSides trace s → HasSides trace u
  told_by cpu d tale s u there write check rate cpus told local goes_on tasks h =
      let here : cpu_of cpu u ≡ d = ap (λ (l : List Cpu). get_or l cpu no_cpu) cpus ∙ get_or-set_same s.cpus cpu d no_cpu there in
      entered trace cpu tale write check s u rate (ap told_of here ∙ told) (λ i other. ap (λ (l : List Cpu). get_or l i no_cpu) cpus ∙ get_or-set_other s.cpus cpu i d no_cpu other)
      (ap (λ (c : Cpu). c.local) here ∙ local) (subst (GoesOn (cpu_of cpu s)) (sym here) goes_on) (λ t. ap (λ (l : List ReplayTask). task_view (get_or l t no_task)) tasks) h

  pub logs : (cpu : ℕ) (e : Entry) (tale : Told) (s u : State) → cpu < length s.cpus → told_entry (cpu_of cpu s).checks (cpu_of cpu s).estimates e ≡ tale ∷ [] → (effect tale).write ≡ None → (effect tale).check ≡ None
      → u.ratelimit_pages ≡ s.ratelimit_pages → u.cpus ≡ set s.cpus cpu (logged e (cpu_of cpu s)) → u.tasks ≡ s.tasks → HasSides trace s → HasSides trace u
  logs cpu e tale s u there is write check rate cpus tasks h =
      told_by cpu (logged e (cpu_of cpu s)) tale s u there write check rate cpus (told_logged e (cpu_of cpu s) ∙ ap (λ (l : List Told). told_of (cpu_of cpu s) ++ l) is) refl
      (same_turn (cpu_of cpu s) (logged e (cpu_of cpu s)) refl refl) tasks h

  pub folds : (cpu : ℕ) (x : Counter) (s : State) → cpu < length s.cpus → Goes trace s (fold_at cpu x s)
  folds cpu (ofDomain d) s there h = (
    estimated.folds trace facts cpu (ofDomain d) s there h.0,
    logs cpu (entry.Folded (record { counter = ofDomain d; version = (count_of (ofDomain d) s).version + 1; delta = own_of (ofDomain d) (cpu_of cpu s) })) (folded_told _) s (fold_at cpu (ofDomain d) s) there refl refl refl refl refl refl h.1,
  )
  folds cpu (ofContext k) s there h = (
    estimated.folds trace facts cpu (ofContext k) s there h.0,
    logs cpu (entry.Folded (record { counter = ofContext k; version = (count_of (ofContext k) s).version + 1; delta = own_of (ofContext k) (cpu_of cpu s) })) (folded_told _) s (fold_at cpu (ofContext k) s) there refl refl refl refl refl refl h.1,
  )

  pub claims : (cpu f : ℕ) (scan : Scan) (s : State) → ScansNow trace cpu f scan s → IsPageOf trace scan.inode (page_of scan) → Goes trace s (claim_now cpu f scan s)
  claims cpu f scan s now page h =
      let v : Flusher = record (flusher_of f s) { phase = phase.Scanning (record scan { passed = scan.passed + 1 }); batch = (flusher_of f s).batch ++ page_of scan ∷ [] } in
      let w : State = log_at cpu (entry.Claimed f (page_of scan)) (with_flusher f v (with_event (event.Claim (page_of scan)) (page_of scan) s)) in (
        estimated.claims trace facts cpu f scan s now page h.0,
        pushed cpu (todo.Silent silent.Close ∷ []) w (refl, tt) (logs cpu (entry.Claimed f (page_of scan)) (claimed_told f (page_of scan)) s w now.there refl refl refl refl refl refl h.1),
      )

  pub flies_off : (cpu f : ℕ) (scan : Scan) (until : ℕ) (s : State) → ScansNow trace cpu f scan s → length (flusher_of f s).batch ≢ 0 → Goes trace s (fly cpu f scan.inode (length (flusher_of f s).batch) until s)
  flies_off cpu f scan until s now some h =
      let n : ℕ = length (flusher_of f s).batch in (
        estimated.flies_off trace facts cpu f scan until s now some h.0,
        logs cpu (entry.Batch f n s.now until) (batch_told f n s.now until) s (fly cpu f scan.inode n until s) now.there refl refl refl refl refl refl h.1,
      )

  pub owed_untold : (change : ℤ) (context group : ℕ) (last : Todo) → is_told last ≡ false → AreUntold (owed_to change context group last)
  owed_untold change context group last none = either AreUntold (eqb group 0) _ _ (λ is. (refl, (refl, (none, tt)))) (λ is. (refl, (refl, (refl, (none, tt)))))

  pub completes : (cpu f inode page : ℕ) (pages : List ℕ) (s : State) → CompletesNow trace cpu f inode page pages s
      → Goes trace s (complete_page trace cpu f (context_of trace inode) page (with_flusher f (record (flusher_of f s) { batch = pages }) s))
  completes cpu f inode page pages s now h =
      let k : ℕ = context_of trace inode in
      let u : State = with_event (event.Complete page) page (with_flusher f (record (flusher_of f s) { batch = pages }) s) in
      let w : State = log_at cpu (entry.Done f page) u in
      let items : List Todo = owed_to (negsuc 0) k (group_of trace k) (todo.Silent silent.Land) in (
        estimated.completes trace facts cpu f inode page pages s now h.0,
        as_is (then_do cpu items w) _ refl refl refl
            (pushed cpu items w (owed_untold (negsuc 0) k (group_of trace k) (todo.Silent silent.Land) refl)
            (logs cpu (entry.Done f page) (done_told f page) s w now.there refl refl refl refl refl refl h.1)),
      )

  pub lists : (cpu f : ℕ) (move : WaitMove) (list : Wheel) (s : State) → ListsNow trace cpu f move list s → Goes trace s (log_at cpu (entry_of f move) (with_waiting f list s))
  lists cpu f move list s now h = (estimated.lists trace facts cpu f move list s now h.0, by_move move)
    where
      by_move : (move : WaitMove) → HasSides trace (log_at cpu (entry_of f move) (with_waiting f list s))
      by_move (notices inode since) = logs cpu (entry.Noticed f inode since) (noticed_told f inode since) s _ now.there refl refl refl refl refl refl h.1
      by_move (ages inode moment aged_at) = logs cpu (entry.Aged f inode moment aged_at) (aged_told f inode moment aged_at) s _ now.there refl refl refl refl refl refl h.1
      by_move (takes_first inode) = logs cpu (entry.Taken f inode) (took_told f inode) s _ now.there refl refl refl refl refl refl h.1

  pub shares : (cpu d k n : ℕ) (s : State) → cpu < length s.cpus → Goes trace s (share_now cpu d k n s)
  shares cpu zero k n s there h = (
    estimated.shares trace facts cpu zero k n s there h.0,
    logs cpu (entry.Share 0 k n) (share_told 0 k n) s (share_now cpu zero k n s) there refl refl refl refl refl refl h.1,
  )
  shares cpu (suc c) k n s there h = (
    estimated.shares trace facts cpu (suc c) k n s there h.0,
    logs cpu (entry.Share (suc c) k n) (share_told (suc c) k n) s (share_now cpu (suc c) k n s) there refl refl refl refl refl refl h.1,
  )

  pub estimates : (cpu f k : ℕ) (e : Estimate) (s : State) → EstimatesNow trace cpu f k s → update_of (writeback_of k s).estimate (sample_of trace k (cpu_of cpu s).turn s) ≡ Some e → Goes trace s (estimate_to cpu k (Some e) s)
  estimates cpu f k e s now is h =
      let est : EstEntry = record { context = k; estimate = e } in
      let c : Cpu = cpu_of cpu s in (
        estimated.estimates trace facts cpu f k e s now is h.0,
        told_by cpu (estimated_in est c) (est_told est) s (estimate_to cpu k (Some e) s) now.there refl refl refl refl (told_estimated est c (h.0.order cpu)) refl (same_turn c (estimated_in est c) refl refl) refl h.1,
      )
