-- Each item of a CPU's turn keeps the state sound.
use Rattle.std.proofs.Common.{◌≡◌, ℕ, ◌+◌, ◌<◌, ◌≤◌, false, List, [], ◌∷◌, length, refl, sym, subst, arith}
use Rattle.std.proofs.Math.ListN.{set}
use Rattle.wbt_replay_order.proofs.Common.{is_same, Counter, Context, Trace, decide_by, complete_by, land_by, test_by, unmark_by, make_step, make_move, look_by, claim_by, close_by, hand_over_by, State, cpu_of, task_of, flusher_of, count_of, dirty_by, end_by, Cpu, Whose, Silent, Step, Todo, Facts, silent_ticks, credit_in, Sound, HasRoom, IsClosed, IsCount, IsWhose, IsCounter, AreFrom, AreOthers, Settles, settles_next, is_settling, floor_of, Agrees}
use Rattle.wbt_counter.specs.declared.counter.Counter.TheVariants.{Domain}
use Rattle.wbt_replay_moves.specs.declared.state.Whose.TheVariants as whose
use Rattle.wbt_replay_moves.specs.declared.todo.Silent.TheVariants as silent
use Rattle.wbt_replay_moves.specs.declared.todo.Step.TheVariants as step
use Rattle.wbt_replay_moves.specs.declared.todo.Todo.TheVariants as todo
use Rattle.wbt_replay_order.specs.Kept.Turns.{StepFits, Clears}
use Rattle.wbt_replay_ranges.proofs.Sound.Checks.{decide_done}
use Rattle.wbt_replay_ranges.proofs.Sound.Counters.{Ready, ReadyToWrite, credit_few, add_done, fold_done, clear_done, first_done, middle_done, limits_done, count_done}
use Rattle.wbt_replay_ranges.proofs.Sound.Estimates.{estimate_done}
use Rattle.wbt_replay_ranges.proofs.Sound.Flights.{complete_at, land_at}
use Rattle.wbt_replay_ranges.proofs.Sound.FlusherTurn.{credit_none}
use Rattle.wbt_replay_ranges.proofs.Sound.Going.{Going}
use Rattle.wbt_replay_ranges.proofs.Sound.Idles.{unmark_at, test_at}
use Rattle.wbt_replay_ranges.proofs.Sound.Own.{Free, Done, from_less}
use Rattle.wbt_replay_ranges.proofs.Sound.Pops.{item_fits, pop_ready, pop_ready_to_write, pop_silent, pop_is_whose, pop_agrees, pop_since, pop_free, pop_closed, pop_room, pop_own, pop_settles, pop_todo, same}
use Rattle.wbt_replay_ranges.proofs.Sound.Scans.{look_at, claim_at, close_at, hand_over_at}
use Rattle.wbt_replay_ranges.proofs.Sound.TaskEnds.{end_done, mark_done}
use Rattle.wbt_replay_ranges.proofs.Sound.Weighs.{weigh_done}
use Rattle.wbt_replay_ranges.proofs.Sound.Writes.{write_at}

-- ---- by whose turn it is

module _ (trace : Trace) (facts : Facts trace) (i : ℕ) (less : i < trace.cpus) (s : State) (w : Whose) (turn : (cpu_of i s).turn.whose ≡ w) (on : IsWhose trace i w) where
  dirty_item : ReadyToWrite trace i s → Free trace i 2 s → (cpu_of i s).local.since_check ≤ length s.steps → Agrees trace s.tasks s.flushers w (todo.Step step.Dirty) → Done trace i (dirty_by trace i w s)
  dirty_item ready free since agree = by_whose w turn on agree
    where
      by_whose : (v : Whose) → (cpu_of i s).turn.whose ≡ v → IsWhose trace i v → Agrees trace s.tasks s.flushers v (todo.Step step.Dirty) → Done trace i (dirty_by trace i v s)
      by_whose (whose.Task k) e on' a = write_at trace facts i less k s on' e (task_of k s).works refl a.0 a.1 a.2 ready free since
      by_whose (whose.Flusher f) e on' a = absurd a

  unmark_item : Ready trace i s → Free trace i 2 s → Agrees trace s.tasks s.flushers w (todo.Step step.Unmark) → Done trace i (unmark_by trace i w s)
  unmark_item ready free agree = by_whose w turn on agree
    where
      by_whose : (v : Whose) → (cpu_of i s).turn.whose ≡ v → IsWhose trace i v → Agrees trace s.tasks s.flushers v (todo.Step step.Unmark) → Done trace i (unmark_by trace i v s)
      by_whose (whose.Task k) e on' a = absurd a
      by_whose (whose.Flusher f) e on' a = unmark_at trace facts i less s f on' e (flusher_of f s).phase refl ready free a

  look_item : Ready trace i s → Free trace i 2 s → Agrees trace s.tasks s.flushers w (todo.Step step.Look) → Done trace i (look_by i w s)
  look_item ready free agree = by_whose w turn on agree
    where
      by_whose : (v : Whose) → (cpu_of i s).turn.whose ≡ v → IsWhose trace i v → Agrees trace s.tasks s.flushers v (todo.Step step.Look) → Done trace i (look_by i v s)
      by_whose (whose.Task k) e on' a = absurd a
      by_whose (whose.Flusher f) e on' a = look_at trace facts i less s f on' e (flusher_of f s).phase refl ready free a.0 a.1

  claim_item : (word : ℕ) → Ready trace i s → Free trace i 2 s → Agrees trace s.tasks s.flushers w (todo.Step (step.Claim word)) → Done trace i (claim_by i word w s)
  claim_item word ready free agree = by_whose w turn on agree
    where
      by_whose : (v : Whose) → (cpu_of i s).turn.whose ≡ v → IsWhose trace i v → Agrees trace s.tasks s.flushers v (todo.Step (step.Claim word)) → Done trace i (claim_by i word v s)
      by_whose (whose.Task k) e on' a = absurd a
      by_whose (whose.Flusher f) e on' a = claim_at trace facts i less s f on' e (flusher_of f s).phase refl word ready free a.0 a.1

  complete_item : Ready trace i s → Free trace i 2 s → Agrees trace s.tasks s.flushers w (todo.Step step.Complete) → Done trace i (complete_by trace i w s)
  complete_item ready free agree = by_whose w turn on agree
    where
      by_whose : (v : Whose) → (cpu_of i s).turn.whose ≡ v → IsWhose trace i v → Agrees trace s.tasks s.flushers v (todo.Step step.Complete) → Done trace i (complete_by trace i v s)
      by_whose (whose.Task k) e on' a = absurd a
      by_whose (whose.Flusher f) e on' a = complete_at trace facts i less s f on' e (flusher_of f s).phase refl ready free a.0 a.1

  -- ---- silent moves

  decide_item : Going trace i 0 silent_ticks s → Free trace i 2 s → Agrees trace s.tasks s.flushers w (todo.Silent silent.Decide) → Done trace i (decide_by trace i w s)
  decide_item g free agree = by_whose w turn on agree
    where
      by_whose : (v : Whose) → (cpu_of i s).turn.whose ≡ v → IsWhose trace i v → Agrees trace s.tasks s.flushers v (todo.Silent silent.Decide) → Done trace i (decide_by trace i v s)
      by_whose (whose.Task k) e on' a = decide_done trace facts i less k s on' e a g free
      by_whose (whose.Flusher f) e on' a = absurd a

  end_item : Going trace i 0 0 s → Free trace i 3 s → Agrees trace s.tasks s.flushers w (todo.Silent silent.End) → Done trace i (end_by i w s)
  end_item g free agree = by_whose w turn on agree
    where
      by_whose : (v : Whose) → (cpu_of i s).turn.whose ≡ v → IsWhose trace i v → Agrees trace s.tasks s.flushers v (todo.Silent silent.End) → Done trace i (end_by i v s)
      by_whose (whose.Task k) e on' a = end_done trace facts i less k s on' e a g free
      by_whose (whose.Flusher f) e on' a = absurd a

  test_item : Going trace i 0 silent_ticks s → Free trace i 2 s → Agrees trace s.tasks s.flushers w (todo.Silent silent.Test) → Done trace i (test_by trace i (cpu_of i s).turn w s)
  test_item g free agree = by_whose w turn on agree
    where
      by_whose : (v : Whose) → (cpu_of i s).turn.whose ≡ v → IsWhose trace i v → Agrees trace s.tasks s.flushers v (todo.Silent silent.Test) → Done trace i (test_by trace i (cpu_of i s).turn v s)
      by_whose (whose.Task k) e on' a = absurd a
      by_whose (whose.Flusher f) e on' a = let h = (g.holds.cpus.each i less).turn in
          test_at trace facts i less s f on' e (cpu_of i s).turn (flusher_of f s).phase refl h.began h.global.hard_in_range g free a

  close_item : Going trace i 0 silent_ticks s → Free trace i 2 s → Agrees trace s.tasks s.flushers w (todo.Silent silent.Close) → Done trace i (close_by trace i w s)
  close_item g free agree = by_whose w turn on agree
    where
      by_whose : (v : Whose) → (cpu_of i s).turn.whose ≡ v → IsWhose trace i v → Agrees trace s.tasks s.flushers v (todo.Silent silent.Close) → Done trace i (close_by trace i v s)
      by_whose (whose.Task k) e on' a = absurd a
      by_whose (whose.Flusher f) e on' a = close_at trace facts i less s f on' e (flusher_of f s).phase refl g free a

  hand_over_item : Going trace i 0 silent_ticks s → Free trace i 2 s → Agrees trace s.tasks s.flushers w (todo.Silent silent.HandOver) → Done trace i (hand_over_by trace i w s)
  hand_over_item g free agree = by_whose w turn on agree
    where
      by_whose : (v : Whose) → (cpu_of i s).turn.whose ≡ v → IsWhose trace i v → Agrees trace s.tasks s.flushers v (todo.Silent silent.HandOver) → Done trace i (hand_over_by trace i v s)
      by_whose (whose.Task k) e on' a = absurd a
      by_whose (whose.Flusher f) e on' a = hand_over_at trace facts i less s f on' e (flusher_of f s).phase refl g free a

  land_item : Going trace i 0 silent_ticks s → Free trace i 2 s → Agrees trace s.tasks s.flushers w (todo.Silent silent.Land) → Done trace i (land_by trace i w s)
  land_item g free agree = by_whose w turn on agree
    where
      by_whose : (v : Whose) → (cpu_of i s).turn.whose ≡ v → IsWhose trace i v → Agrees trace s.tasks s.flushers v (todo.Silent silent.Land) → Done trace i (land_by trace i v s)
      by_whose (whose.Task k) e on' a = absurd a
      by_whose (whose.Flusher f) e on' a = land_at trace facts i less s f on' e (flusher_of f s).phase refl g free a

-- ---- the first item

settles_clears : (x y : Counter) (ts : List Todo) → Clears y ts → settles_next x ts ≡ false → is_same x y ≡ false
settles_clears x y [] h e = absurd h
settles_clears x y (t ∷ ts) h e = subst (λ (u : Todo). settles_next x (u ∷ ts) ≡ false) h.0 e

clears_settles : (y : Counter) (ts : List Todo) → Clears y ts → Settles ts
clears_settles y [] h = absurd h
clears_settles y (t ∷ ts) h = subst (λ (u : Todo). Settles (u ∷ ts)) (sym h.0) h.1

module _ (trace : Trace) (facts : Facts trace) (i : ℕ) (less : i < trace.cpus) (s : State) (sound : Sound trace s) (room : HasRoom trace s) (live : (cpu_of i s).stopped ≡ false) where
  count_fits : (x : Counter) (cs : List Cpu) → IsCounter trace x → IsCount s.most (length s.steps) (count_of x (record s { cpus = cs }))
  count_fits (Domain d) cs fits = (sound.holds.domains.each d).count
  count_fits (Context k) cs fits = (sound.holds.contexts.each k fits).count

  -- the state in which the first item is done
  abbrev behind : (ts : List Todo) (made : ℕ) → State
  behind ts made = record s { cpus = set s.cpus i (record (cpu_of i s) { todo = ts; made = made }) }

  module _ (item : Step) (ts : List Todo) (first : (cpu_of i s).todo ≡ todo.Step item ∷ ts) (few : length s.steps < s.most) where
    abbrev now : State
    now = behind ts ((cpu_of i s).made + 1)

    ready_to_write : ReadyToWrite trace i now
    ready_to_write = pop_ready_to_write trace facts i less s sound room live (todo.Step item) ts first few

    ready : Ready trace i now
    ready = pop_ready trace facts i less s sound room live (todo.Step item) ts first few

    fits : StepFits trace item
    fits = item_fits trace facts i less s sound room live (todo.Step item) ts first

    on : IsWhose trace i (cpu_of i now).turn.whose
    on = pop_is_whose trace facts i less s sound room live (todo.Step item) ts first ((cpu_of i s).made + 1)

    agrees : Agrees trace s.tasks s.flushers (cpu_of i now).turn.whose (todo.Step item)
    agrees = pop_agrees trace facts i less s sound room live (todo.Step item) ts first ((cpu_of i s).made + 1)

    free : is_settling (todo.Step item) ≡ false → Free trace i (floor_of (todo.Step item)) now
    free other = pop_free trace facts i less s sound room live (todo.Step item) ts first ((cpu_of i s).made + 1) other

    closed : IsClosed trace s.flushers i (cpu_of i now)
    closed = pop_closed trace facts i less s sound room live (todo.Step item) ts first ((cpu_of i s).made + 1) refl

    since : (cpu_of i now).local.since_check ≤ length s.steps
    since = pop_since trace facts i less s sound room live (todo.Step item) ts first ((cpu_of i s).made + 1)

  pub step_done : (item : Step) (ts : List Todo) → (cpu_of i s).todo ≡ todo.Step item ∷ ts → length s.steps < s.most → Done trace i (make_step trace i item (behind ts ((cpu_of i s).made + 1)))
  unfolding make_step
  step_done step.Dirty ts first few = let x : State = behind ts ((cpu_of i s).made + 1) in
      dirty_item trace facts i less x (cpu_of i x).turn.whose refl (on step.Dirty ts first few) (ready_to_write step.Dirty ts first few) (free step.Dirty ts first few refl) (since step.Dirty ts first few) (agrees step.Dirty ts first few)
  step_done (step.Add counter change) ts first few = let x : State = behind ts ((cpu_of i s).made + 1) in let q : Step = step.Add counter change in
      add_done trace facts i less x (ready q ts first few) (on q ts first few) (closed q ts first few) counter change (free q ts first few refl) (fits q ts first few).0 (fits q ts first few).1
  step_done (step.Fold counter) ts first few = let x : State = behind ts ((cpu_of i s).made + 1) in let q : Step = step.Fold counter in
      let clears : Clears counter ts = pop_settles trace facts i less s sound room live (todo.Step q) ts first ((cpu_of i s).made + 1) in
      fold_done trace facts i less x (ready q ts first few) (on q ts first few) (closed q ts first few) counter (fits q ts first few)
      (pop_room trace facts i less s sound room live (todo.Step q) ts first ((cpu_of i s).made + 1) (λ y e. settles_clears y counter ts clears e) (clears_settles counter ts clears))
      (count_fits counter x.cpus (fits q ts first few))
  step_done (step.Clear counter) ts first few = let x : State = behind ts ((cpu_of i s).made + 1) in let q : Step = step.Clear counter in
      clear_done trace facts i less x (ready q ts first few) (on q ts first few) (closed q ts first few) counter (fits q ts first few)
      (pop_todo trace facts i less s sound room live (todo.Step q) ts first ((cpu_of i s).made + 1) AreOthers (pop_settles trace facts i less s sound room live (todo.Step q) ts first ((cpu_of i s).made + 1)))
      (λ y e. pop_own trace facts i less s sound room live (todo.Step q) ts first ((cpu_of i s).made + 1) y e)
  step_done (step.Mark inode) ts first few = let x : State = behind ts ((cpu_of i s).made + 1) in let q : Step = step.Mark inode in
      mark_done trace facts i less inode x (fits q ts first few) (ready q ts first few) (free q ts first few refl) (closed q ts first few)
  step_done (step.First domain) ts first few = let x : State = behind ts ((cpu_of i s).made + 1) in let q : Step = step.First domain in
      first_done trace facts i less x (ready q ts first few) (on q ts first few) (closed q ts first few) domain (free q ts first few refl)
  step_done (step.Middle domain) ts first few = let x : State = behind ts ((cpu_of i s).made + 1) in let q : Step = step.Middle domain in
      middle_done trace facts i less x (ready q ts first few) (on q ts first few) (closed q ts first few) (free q ts first few refl)
  step_done (step.Limits domain) ts first few = let x : State = behind ts ((cpu_of i s).made + 1) in let q : Step = step.Limits domain in
      limits_done trace facts i less x (ready q ts first few) (on q ts first few) (closed q ts first few) domain (free q ts first few refl)
  step_done (step.Count counter) ts first few = let x : State = behind ts ((cpu_of i s).made + 1) in let q : Step = step.Count counter in
      count_done trace facts i less x (ready q ts first few) (on q ts first few) (closed q ts first few) counter (fits q ts first few) (free q ts first few refl)
  step_done step.Unmark ts first few = let x : State = behind ts ((cpu_of i s).made + 1) in
      unmark_item trace facts i less x (cpu_of i x).turn.whose refl (on step.Unmark ts first few) (ready step.Unmark ts first few) (free step.Unmark ts first few refl) (agrees step.Unmark ts first few)
  step_done step.Look ts first few = let x : State = behind ts ((cpu_of i s).made + 1) in
      look_item trace facts i less x (cpu_of i x).turn.whose refl (on step.Look ts first few) (ready step.Look ts first few) (free step.Look ts first few refl) (agrees step.Look ts first few)
  step_done (step.Claim word) ts first few = let x : State = behind ts ((cpu_of i s).made + 1) in let q : Step = step.Claim word in
      claim_item trace facts i less x (cpu_of i x).turn.whose refl (on q ts first few) word (ready q ts first few) (free q ts first few refl) (agrees q ts first few)
  step_done step.Complete ts first few = let x : State = behind ts ((cpu_of i s).made + 1) in
      complete_item trace facts i less x (cpu_of i x).turn.whose refl (on step.Complete ts first few) (ready step.Complete ts first few) (free step.Complete ts first few refl) (agrees step.Complete ts first few)

  -- ---- silent moves

  module _ (item : Silent) (ts : List Todo) (first : (cpu_of i s).todo ≡ todo.Silent item ∷ ts) where
    abbrev then : State
    then = behind ts (cpu_of i s).made

    going : (ticks : ℕ) → credit_in ts + ticks ≤ credit_in (todo.Silent item ∷ ts) → Going trace i 0 ticks then
    going ticks credit = pop_silent trace facts i less s sound room live (todo.Silent item) ts first ticks credit

    of : IsWhose trace i (cpu_of i then).turn.whose
    of = pop_is_whose trace facts i less s sound room live (todo.Silent item) ts first (cpu_of i s).made

    agreed : Agrees trace s.tasks s.flushers (cpu_of i then).turn.whose (todo.Silent item)
    agreed = pop_agrees trace facts i less s sound room live (todo.Silent item) ts first (cpu_of i s).made

    freed : Free trace i (floor_of (todo.Silent item)) then
    freed = pop_free trace facts i less s sound room live (todo.Silent item) ts first (cpu_of i s).made refl

    from : AreFrom (floor_of (todo.Silent item)) ts
    from = subst (λ (c : Cpu). AreFrom (floor_of (todo.Silent item)) c.todo) (same trace facts i less s sound room live (todo.Silent item) ts first (cpu_of i s).made) freed.fits.from

  pub silent_done : (item : Silent) (ts : List Todo) → (cpu_of i s).todo ≡ todo.Silent item ∷ ts → Done trace i (make_move trace i item (behind ts (cpu_of i s).made))
  unfolding make_move
  silent_done silent.Decide ts first = let x : State = behind ts (cpu_of i s).made in let q : Silent = silent.Decide in let none = credit_none ts (from q ts first) in
      decide_item trace facts i less x (cpu_of i x).turn.whose refl (of q ts first) (going q ts first silent_ticks (omega (arith, none))) (freed q ts first) (agreed q ts first)
  silent_done silent.End ts first = let x : State = behind ts (cpu_of i s).made in let q : Silent = silent.End in let none = credit_none ts (from_less 2 3 ts (omega arith) (from q ts first)) in
      end_item trace facts i less x (cpu_of i x).turn.whose refl (of q ts first) (going q ts first 0 (omega (arith, none))) (freed q ts first) (agreed q ts first)
  silent_done (silent.Estimate context) ts first = let x : State = behind ts (cpu_of i s).made in let q : Silent = silent.Estimate context in let few = credit_few ts in
      estimate_done trace facts i less context x (item_fits trace facts i less s sound room live (todo.Silent q) ts first) (going q ts first 0 (omega (arith, few))) (freed q ts first)
      (pop_closed trace facts i less s sound room live (todo.Silent q) ts first (cpu_of i s).made refl)
  silent_done (silent.Weigh context) ts first = let x : State = behind ts (cpu_of i s).made in let q : Silent = silent.Weigh context in let few = credit_few ts in
      weigh_done trace facts i less context x (going q ts first 0 (omega (arith, few))) (freed q ts first)
      (pop_closed trace facts i less s sound room live (todo.Silent q) ts first (cpu_of i s).made refl)
  silent_done silent.Test ts first = let x : State = behind ts (cpu_of i s).made in let q : Silent = silent.Test in let none = credit_none ts (from q ts first) in
      test_item trace facts i less x (cpu_of i x).turn.whose refl (of q ts first) (going q ts first silent_ticks (omega (arith, none))) (freed q ts first) (agreed q ts first)
  silent_done silent.Close ts first = let x : State = behind ts (cpu_of i s).made in let q : Silent = silent.Close in let none = credit_none ts (from q ts first) in
      close_item trace facts i less x (cpu_of i x).turn.whose refl (of q ts first) (going q ts first silent_ticks (omega (arith, none))) (freed q ts first) (agreed q ts first)
  silent_done silent.HandOver ts first = let x : State = behind ts (cpu_of i s).made in let q : Silent = silent.HandOver in let none = credit_none ts (from q ts first) in
      hand_over_item trace facts i less x (cpu_of i x).turn.whose refl (of q ts first) (going q ts first silent_ticks (omega (arith, none))) (freed q ts first) (agreed q ts first)
  silent_done silent.Land ts first = let x : State = behind ts (cpu_of i s).made in let q : Silent = silent.Land in let none = credit_none ts (from q ts first) in
      land_item trace facts i less x (cpu_of i x).turn.whose refl (of q ts first) (going q ts first silent_ticks (omega (arith, none))) (freed q ts first) (agreed q ts first)
