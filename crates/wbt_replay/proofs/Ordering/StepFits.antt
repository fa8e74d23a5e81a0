-- What a sound state gives each step of a CPU.
use Rattle.std.proofs.Common.{◌≡◌, ℕ, ◌+◌, ◌<◌, ◌≤◌, false, ℤ, unsigned_abs, List, [], ◌∷◌, length, All, refl, sym, subst, arith, ◌^◌, Option, None, Some, IfSome}
use Rattle.std.proofs.Math.ListN.{set}
use Rattle.std.proofs.lemmas.List.Elements.{All-head}
use Rattle.wbt_replay_order.proofs.Common.{Count, Counter, Context, new_writer, IsPace, Pace, Trace, batch_of, domains, own_of, State, cpu_of, with_cpu, task_of, flusher_of, domain_of, writeback_of, count_of, page_of, context_of, HasOwn, HasCount, FlyingFits, Cpu, ReplayPhase, Whose, ReplayWork, Step, Todo, Facts, Sound, HasRoom, IsAt, IsCount, IsWhose, WorkFits, IsCounter, Agrees, FlusherAgrees, IsOpenAt, settles_next}
use Rattle.wbt_counter.specs.declared.counter.Counter.TheVariants.{Domain}
use Rattle.wbt_replay_moves.specs.Kept.Fit.{CanStep, IsOwn, CanFold, DirtyFits, WriteFits, TakenFits, LookFits, OfFlusher}
use Rattle.wbt_replay_moves.specs.declared.state.ReplayPhase.TheVariants as phase
use Rattle.wbt_replay_moves.specs.declared.state.Whose.TheVariants as whose
use Rattle.wbt_replay_moves.specs.declared.state.ReplayWork.TheVariants as work
use Rattle.wbt_replay_moves.specs.declared.todo.Step.TheVariants as step
use Rattle.wbt_replay_moves.specs.declared.todo.Todo.TheVariants as todo
use Rattle.wbt_replay_order.specs.Kept.Sound.{SinceFits}
use Rattle.wbt_replay_ranges.proofs.Sound.Counters.{batch_few}
use Rattle.wbt_replay.proofs.Ordering.PopFits.{kept, after, same, whose_is, fits_is, agrees_is, owner_fits}
use Rattle.wbt_replay_order.proofs.Facts.Scans.{scan_page}
use Rattle.wbt_replay_order.proofs.Facts.Things.{cpus_fit, end_few, page_fits, inode_fits, flusher_there, taken_fits, flying_fits}

module _ (trace : Trace) (facts : Facts trace) (s : State) (sound : Sound trace s) where
  count_fits : (count : Count) (n : ℤ) → IsCount s.most (length s.steps) count → unsigned_abs n ≤ 512 → CanFold n count
  count_fits count n h few = record {
    version = omega (arith, h.version, sound.holds.few, sound.holds.long);
    own = omega (arith, few);
    value = omega (arith, h.value);
  }

  -- ---- what a task writes next

  since_fits : (pace : Option Pace) (since : ℕ) → IfSome pace IsPace → SinceFits pace since → since + 1 < 2 ^ 32
  since_fits None since its h = omega (arith, h)
  since_fits (Some pace) since its h = omega (arith, h, its.pages.1)

  write_fits : (task : ℕ) → task < length trace.tasks → (c : Cpu) → c.local.since_check ≤ length s.steps
      → (works : List ReplayWork) → All (WorkFits trace task) works → WriteFits trace s.pages (task_of task s) c works
  write_fits task less c since [] all = tt
  write_fits task less c since (work.Rest ticks ∷ more) all = tt
  write_fits task less c since (work.Write n page pages ∷ more) all =
      let h = sound.holds.tasks.each task less in
      let w = All-head (WorkFits trace task) (work.Write n page pages) more all in
      let there = w.first.there in
      let here : context_of trace n < length trace.contexts = facts.inode_context n there in
      let writer : context_of trace n < length (task_of task s).writers = omega (arith, here, h.writers) in
      let fit = h.fit (context_of trace n) (new_writer 0) writer in (
        record {
          some = w.some;
          there = there;
          context = here;
          inside = page_fits trace facts s sound n page w.first;
          next = omega (arith, w.first.before_end, end_few trace facts s sound n there);
        },
        record {
          there = writer;
          dirtied = omega (arith, fit.dirtied, sound.holds.few, sound.holds.long);
          since = omega (arith, since, sound.holds.few, sound.holds.long);
        },
        since_fits (task_of task s).pace (task_of task s).since h.pace h.since,
      )

  -- ---- the items of a list

  module _ (room : HasRoom trace s) (i : ℕ) (less : i < trace.cpus) (item : Step) (ts : List Todo) (first : (cpu_of i s).todo ≡ todo.Step item ∷ ts) where
    abbrev made : ℕ
    made = (cpu_of i s).made + 1

    abbrev t : Todo
    t = todo.Step item

    -- the CPU and the state that the step gets
    abbrev has : Cpu
    has = kept trace facts s sound i less t ts first made

    abbrev from : State
    from = after trace facts s sound i less t ts first made

    is : cpu_of i from ≡ has
    is = same trace facts s sound i less t ts first made

    dirty_of : (w : Whose) → IsWhose trace i w → DirtyFits trace i from w
    dirty_of (whose.Flusher f) on = tt
    dirty_of (whose.Task task) on = (
      omega (arith, on.there, sound.holds.tasks.many),
      write_fits task on.there (cpu_of i from) (subst (λ (c : Cpu). c.local.since_check ≤ length s.steps) (sym is) (sound.holds.cpus.each i less).since)
          (task_of task s).works (sound.holds.tasks.each task on.there).works,
    )

    dirty_fits : DirtyFits trace i from (cpu_of i from).turn.whose
    dirty_fits = subst (λ (c : Cpu). DirtyFits trace i from c.turn.whose) (sym is) (dirty_of (cpu_of i s).turn.whose (whose_is trace facts s sound i less t ts first made))

    own_is : (x : Counter) → own_of x has ≡ own_of x (cpu_of i s)
    own_is (Domain d) = refl
    own_is (Context k) = refl

    own_there : (x : Counter) → IsCounter trace x → HasOwn x (cpu_of i from)
    own_there (Domain d) fits = subst (λ (c : Cpu). d < length c.own_domains) (sym is) (omega (arith, fits, (sound.holds.cpus.each i less).own_domains))
    own_there (Context k) fits = subst (λ (c : Cpu). k < length c.own_contexts) (sym is) (omega (arith, fits, (sound.holds.cpus.each i less).own_contexts))

    held_there : domains trace ≤ length (cpu_of i from).held
    held_there = subst (λ (c : Cpu). domains trace ≤ length c.held) (sym is) (let many = (sound.holds.cpus.each i less).many_held in omega (arith, many))

    count_there : (x : Counter) → IsCounter trace x → HasCount x from
    count_there (Domain d) fits = omega (arith, fits, sound.holds.domains.many)
    count_there (Context k) fits = omega (arith, fits, sound.holds.contexts.many)

    own_few : (x : Counter) → unsigned_abs (own_of x (cpu_of i from)) ≤ 512
    own_few x = subst (λ (c : Cpu). unsigned_abs (own_of x c) ≤ 512) (sym is) (subst (λ (n : ℤ). unsigned_abs n ≤ 512) (sym (own_is x)) (omega (arith, (room.own i less).most x, batch_few trace facts x)))

    fold_room : (x : Counter) → IsCounter trace x → CanFold (own_of x (cpu_of i from)) (count_of x from)
    fold_room (Domain d) fits = count_fits (domain_of d s).count (own_of (Domain d) (cpu_of i from)) (sound.holds.domains.each d).count (own_few (Domain d))
    fold_room (Context k) fits = count_fits (writeback_of k s).count (own_of (Context k) (cpu_of i from)) (sound.holds.contexts.each k fits).count (own_few (Context k))

    own_below : (x : Counter) → settles_next x (todo.Step item ∷ ts) ≡ false → IsOwn (batch_of trace x) (own_of x (cpu_of i from))
    own_below x none = subst (λ (c : Cpu). IsOwn (batch_of trace x) (own_of x c)) (sym is) (subst (λ (n : ℤ). IsOwn (batch_of trace x) n) (sym (own_is x))
        ((room.own i less).room x (subst (λ (todos : List Todo). settles_next x todos ≡ false) (sym first) none)))

    owned : (Fits : (f : ℕ) (p : ReplayPhase) → Type 0) → ((f : ℕ) → f < length trace.flushers → Fits f (flusher_of f s).phase) → OfFlusher Fits from (cpu_of i from).turn.whose
    owned = owner_fits trace facts s sound i less t ts first made

    -- the page of a scan that goes on
    scan_of : (Fits : (f : ℕ) (p : ReplayPhase) → Type 0) → (w : Whose) → IsWhose trace i w → Agrees trace s.tasks s.flushers w t
        → ((f : ℕ) → f < length trace.flushers → FlusherAgrees trace (flusher_of f s) t → Fits f (flusher_of f s).phase) → OfFlusher Fits from w
    scan_of Fits (whose.Task task) on agrees all = tt
    scan_of Fits (whose.Flusher f) on agrees all = (flusher_there trace facts s sound f on.there, all f on.there agrees)

    scans : ((f : ℕ) → FlusherAgrees trace (flusher_of f s) t → IsOpenAt trace (flusher_of f s).batch (flusher_of f s).phase)
        → OfFlusher (λ f p. LookFits from p) from (cpu_of i from).turn.whose
    scans opens = subst (λ (c : Cpu). OfFlusher (λ f p. LookFits from p) from c.turn.whose) (sym is)
        (scan_of (λ f p. LookFits from p) (cpu_of i s).turn.whose (whose_is trace facts s sound i less t ts first made) (agrees_is trace facts s sound i less t ts first made)
        (λ f there agrees. look (flusher_of f s).batch (flusher_of f s).phase (sound.holds.flushers.each f).phase (opens f agrees)))
      where
        look : (batch : List ℕ) (p : ReplayPhase) → IsAt trace batch p → IsOpenAt trace batch p → LookFits from p
        look batch (phase.Idle until noted) at opened = tt
        look batch (phase.Taken n) at opened = tt
        look batch (phase.Scanning scan) at opened = record {
          start = at.start;
          passed = opened.0;
          fits = omega (arith, at.first_is, at.pages_is, end_few trace facts s sound scan.inode at.there);
          page = page_fits trace facts s sound scan.inode (page_of scan) (scan_page trace scan at.there at.first_is at.pages_is at.start);
        }
        look batch (phase.Flying n pages until) at opened = tt
        look batch phase.Finished at opened = tt

  -- ---- each step

  pub step_fits : (i : ℕ) → i < trace.cpus → HasRoom trace s → (item : Step) (ts : List Todo) → (cpu_of i s).todo ≡ todo.Step item ∷ ts
      → CanStep trace i item (with_cpu i (record (cpu_of i s) { todo = ts; made = (cpu_of i s).made + 1 }) s)
  unfolding CanStep
  step_fits i less room step.Dirty ts first = dirty_fits room i less step.Dirty ts first
  step_fits i less room (step.Add x change) ts first =
      let fits = fits_is trace facts s sound i less (todo.Step (step.Add x change)) ts first ((cpu_of i s).made + 1) in
      record {
        cpus = cpus_fit trace facts s sound;
        own = own_there room i less (step.Add x change) ts first x fits.0;
        below = own_below room i less (step.Add x change) ts first x refl;
        one = fits.1;
      }
  step_fits i less room (step.Fold x) ts first =
      let fits = fits_is trace facts s sound i less (todo.Step (step.Fold x)) ts first ((cpu_of i s).made + 1) in
      record {
        own = own_there room i less (step.Fold x) ts first x fits;
        count = count_there room i less (step.Fold x) ts first x fits;
        room = fold_room room i less (step.Fold x) ts first x fits;
      }
  step_fits i less room (step.Clear x) ts first =
      own_there room i less (step.Clear x) ts first x (fits_is trace facts s sound i less (todo.Step (step.Clear x)) ts first ((cpu_of i s).made + 1))
  step_fits i less room (step.Mark n) ts first = inode_fits trace facts s sound n (fits_is trace facts s sound i less (todo.Step (step.Mark n)) ts first ((cpu_of i s).made + 1))
  step_fits i less room (step.First d) ts first =
      let fits = fits_is trace facts s sound i less (todo.Step (step.First d)) ts first ((cpu_of i s).made + 1) in omega (arith, fits, sound.holds.domains.many)
  step_fits i less room (step.Middle d) ts first = tt
  step_fits i less room (step.Limits d) ts first =
      let fits = fits_is trace facts s sound i less (todo.Step (step.Limits d)) ts first ((cpu_of i s).made + 1) in
      let held = held_there room i less (step.Limits d) ts first in
      (omega (arith, fits, sound.holds.domains.many), omega (arith, fits, held))
  step_fits i less room (step.Count x) ts first =
      count_there room i less (step.Count x) ts first x (fits_is trace facts s sound i less (todo.Step (step.Count x)) ts first ((cpu_of i s).made + 1))
  step_fits i less room step.Unmark ts first = owned room i less step.Unmark ts first (λ f p. TakenFits trace f (from room i less step.Unmark ts first) p)
      (λ f there. taken_fits trace facts s sound (set s.cpus i (has room i less step.Unmark ts first)) f there (flusher_of f s).phase (sound.holds.flushers.each f).phase)
  step_fits i less room step.Look ts first = scans room i less step.Look ts first (λ f agrees. agrees.1)
  step_fits i less room (step.Claim word) ts first = scans room i less (step.Claim word) ts first (λ f agrees. agrees.1)
  step_fits i less room step.Complete ts first = owned room i less step.Complete ts first (λ f p. FlyingFits trace f (from room i less step.Complete ts first) p)
      (λ f there. flying_fits trace facts s sound (set s.cpus i (has room i less step.Complete ts first)) f there (flusher_of f s).phase (sound.holds.flushers.each f).phase)
