-- A move of a CPU's turn leaves less to be done, whichever it is, and keeps what is kept.
use Rattle.std.proofs.Common.{◌≡◌, ℕ, ◌+◌, ◌*◌, ◌<◌, ◌≤◌, Bool, false, cond, List, ◌∷◌, length, get_or, All, ⊎_elim, refl, sym, ◌∙◌, ap, subst, arith}
use Rattle.std.proofs.Math.ListN.{set}
use Rattle.std.proofs.lemmas.Bool.{cases_lt}
use Rattle.std.proofs.lemmas.List.{length-set, get_or-set_same, get_or-set_other, set-set, get_or_past}
use Rattle.std.proofs.lemmas.List.Elements.{All-head}
use Rattle.std.proofs.lemmas.List.Sums.{sum_by-set}
use Rattle.wbt_replay_order.proofs.Common.{domains, StepEntry, Trace, decision_at, decide_by, sample_of, update_of, complete_by, land_by, unmark_by, test_by, make_step, make_move, look_by, claim_by, close_by, hand_over_by, State, no_cpu, cpu_of, task_of, flusher_of, writeback_of, with_cpu, dirty_by, end_by, Cpu, ReplayTurn, Whose, Silent, Step, Todo, is_halted, task_cpu, ahead_cost, IsPaid, is_last, cpu_cost, parts_cost, timer_cost, timer_silent_cost, work_left, ArePaced, Ending, IsTaskOn, IsWhose, Agrees}
use Rattle.wbt_replay_moves.specs.declared.state.Whose.TheVariants as whose
use Rattle.wbt_replay_moves.specs.declared.todo.Silent.TheVariants as silent
use Rattle.wbt_replay_moves.specs.declared.todo.Step.TheVariants as step
use Rattle.wbt_replay_moves.specs.declared.todo.Todo.TheVariants as todo
use Rattle.wbt_replay_order.specs.Kept.Ending.{cpus_cost}
use Rattle.wbt_replay_order.proofs.Facts.Lists.{set_each}
use Rattle.wbt_replay_order.proofs.Growth.Growing.{grew_step, silent_move}
use Rattle.wbt_replay_ends.proofs.Ends.Flushes.{Quietly, estimate_goes, weigh_goes, test_goes, close_goes, hand_over_goes}
use Rattle.wbt_replay_ends.proofs.Ends.Goes.{Outside, Pace, pace, Goes, goes_costs}
use Rattle.wbt_replay_ends.proofs.Ends.Lands.{land_goes}
use Rattle.wbt_replay_ends.proofs.Ends.Paces.{paced_step, paced_quietly, unspent}
use Rattle.wbt_replay_ends.proofs.Ends.Steps.{Pays, Steps, add_goes, fold_goes, clear_goes, mark_goes, first_goes, middle_goes, limits_goes, count_goes, unmark_goes, look_goes, claim_goes, complete_goes}
use Rattle.wbt_replay_ends.proofs.Ends.Turning.{Turning}
use Rattle.wbt_replay_ends.proofs.Ends.Writes.{IsOther, IsAlone, dirty_goes, decide_goes, end_goes}

-- The run goes on with less to be done.
pub record Ahead (trace : Trace) (s r : State) : Type 0 where
  pub less : work_left r + 1 ≤ work_left s
  pub kept : Ending trace r

-- ---- a CPU of which an item was taken out

module _ (trace : Trace) (i : ℕ) (b : State) (there : i < length b.cpus) (d : Cpu) (turn : d.turn ≡ (cpu_of i b).turn) (stopped : d.stopped ≡ (cpu_of i b).stopped) where
  pub taken_here : cpu_of i (with_cpu i d b) ≡ d
  taken_here = get_or-set_same b.cpus i d no_cpu there

  pub taken_there : i < length (with_cpu i d b).cpus
  taken_there = omega (arith, there, length-set b.cpus i d)

  module _ (made most : ℕ) (r : State) (goes : Goes i made most (with_cpu i d b) r) where
    cpus_are : r.cpus ≡ set b.cpus i goes.cpu
    cpus_are = goes.cpus ∙ set-set b.cpus i d goes.cpu

    taken_kept : Ending trace b → b.spent ≡ false → ArePaced trace.halt r.steps (set b.cpus i goes.cpu) → Ending trace r
    taken_kept h live paced = record {
      paid = λ j. subst (λ (l : List Cpu). IsPaid (get_or l j no_cpu).todo) (sym cpus_are)
          (set_each (λ k (c : Cpu). IsPaid c.todo) b.cpus i goes.cpu no_cpu there goes.todo (λ k n. h.paid k) j);
      timer_paid = subst (λ (o : Outside). timer_silent_cost o.timer.todo ≤ 2 + domains trace) (sym goes.same) h.timer_paid;
      paced = subst (ArePaced trace.halt r.steps) (sym cpus_are) paced;
      spent = unspent trace r (ap (λ (o : Outside). o.spent) goes.same ∙ live);
    }

    -- what of the CPU is the same as where the item was taken out
    taken_pace : pace goes.cpu ≡ pace d
    taken_pace = goes.paces ∙ ap pace taken_here

    -- what it costs, beside what the turn's first item cost
    taken_costs : cpus_cost r + parts_cost r + 1 + ahead_cost (is_last b.tasks (cpu_of i b).turn.whose) (cpu_of i b).todo ≤ cpus_cost b + parts_cost b + most
    taken_costs =
        let costs = goes_costs i made most (with_cpu i d b) r taken_there goes in
        let own = ap (λ (c : Cpu). ahead_cost (is_last b.tasks c.turn.whose) c.todo) taken_here in
        let set = sum_by-set (cpu_cost b.tasks) b.cpus i d no_cpu there in
        let stop = ap {A = Bool} {B = ℕ} (λ x. cond x 0 1) stopped in
        omega (arith, costs, own, set, stop)

    taken_work : length b.steps + made ≤ b.most → most ≤ 16 * made + ahead_cost (is_last b.tasks (cpu_of i b).turn.whose) (cpu_of i b).todo → work_left r + 1 ≤ work_left b
    unfolding work_left
    taken_work room paid =
        let orders = ap (λ (o : Outside). length o.orders) goes.same in
        let spent = ap {A = Outside} {B = ℕ} (λ o. cond o.spent 0 1) goes.same in
        let timer = ap (λ (o : Outside). timer_cost o.now o.timer) goes.same in
        let limit = ap (λ (o : Outside). o.most) goes.same in
        omega (arith, taken_costs, orders, spent, timer, limit, goes.steps, room, paid)

    pub taken_ahead : Ending trace b → b.spent ≡ false → ArePaced trace.halt r.steps (set b.cpus i goes.cpu) → length b.steps + made ≤ b.most → most ≤ 16 * made + ahead_cost (is_last b.tasks (cpu_of i b).turn.whose) (cpu_of i b).todo → Ahead trace b r
    taken_ahead h live paced room paid = record { less = taken_work room paid; kept = taken_kept h live paced }

-- ---- whose turn it is

module _ (trace : Trace) (i : ℕ) (b : State) (there : i < length b.cpus) (turning : Turning trace b) where
  -- no other CPU is in a turn of a task of this one
  pub task_alone : (t : ℕ) → IsTaskOn trace i t → (d : Cpu) → IsAlone i t (with_cpu i d b)
  task_alone t on d j n some =
      let is : cpu_of j (with_cpu i d b) ≡ cpu_of j b = get_or-set_other b.cpus i j d no_cpu n in
      let busy : 1 ≤ length (cpu_of j b).todo = omega (arith, some, ap (λ (c : Cpu). length c.todo) is) in
      let here : j < length b.cpus = ⊎_elim (λ less. less)
      (λ past. let none = ap (λ (c : Cpu). length c.todo) (get_or_past b.cpus j no_cpu past) in absurd (omega (arith, none, busy))) (cases_lt j (length b.cpus)) in
      subst (λ (c : Cpu). IsOther t c.turn.whose) (sym is) (by_whose (cpu_of j b).turn.whose (turning.whose j here busy))
    where
      by_whose : (w : Whose) → IsWhose trace j w → IsOther t w
      by_whose (whose.Task k) theirs = λ e. n (sym theirs.cpu_is ∙ ap (task_cpu trace) e ∙ on.cpu_is)
      by_whose (whose.Flusher f) theirs = tt

-- ---- a step

module _ (trace : Trace) (i : ℕ) (b : State) (there : i < length b.cpus) (turning : Turning trace b) (h : Ending trace b) (live : b.spent ≡ false) (d : Cpu) (turn : d.turn ≡ (cpu_of i b).turn)
    (stopped : d.stopped ≡ (cpu_of i b).stopped) (running : (cpu_of i b).stopped ≡ false) where
  at_whose : (w : Whose) → (cpu_of i b).turn.whose ≡ w → (cpu_of i (with_cpu i d b)).turn.whose ≡ w
  at_whose w is = ap (λ (c : Cpu). c.turn.whose) (taken_here trace i b there d turn stopped) ∙ (ap (λ (t : ReplayTurn). t.whose) turn ∙ is)

  one_there : (t : ℕ) → IsTaskOn trace i t → t < length b.tasks
  one_there t on = omega (arith, on.there, turning.tasks)

  step_does : (item : Step) (w : Whose) → (cpu_of i b).turn.whose ≡ w → IsWhose trace i w → Agrees trace b.tasks b.flushers w (todo.Step item)
      → Pays item (cpu_of i (with_cpu i d b)).todo → Steps i (with_cpu i d b) (make_step trace i item (with_cpu i d b))
  unfolding make_step
  step_does step.Dirty (whose.Task t) at on agrees pays =
      subst (λ (w : Whose). Steps i (with_cpu i d b) (dirty_by trace i w (with_cpu i d b))) (sym (at_whose (whose.Task t) at))
      (dirty_goes trace i (with_cpu i d b) (taken_there trace i b there d turn stopped) t (one_there t on) (task_alone trace i b there turning t on d) (task_of t b).works refl agrees.0 pays)
  step_does step.Dirty (whose.Flusher f) at on agrees pays = absurd agrees
  step_does (step.Add x change) w at on agrees pays = add_goes trace i (with_cpu i d b) (taken_there trace i b there d turn stopped) x change pays
  step_does (step.Fold x) w at on agrees pays = fold_goes trace i (with_cpu i d b) (taken_there trace i b there d turn stopped) x pays
  step_does (step.Clear x) w at on agrees pays = clear_goes trace i (with_cpu i d b) (taken_there trace i b there d turn stopped) x pays
  step_does (step.Mark n) w at on agrees pays = mark_goes trace i (with_cpu i d b) (taken_there trace i b there d turn stopped) n pays
  step_does (step.First x) w at on agrees pays = first_goes trace i (with_cpu i d b) (taken_there trace i b there d turn stopped) x pays
  step_does (step.Middle x) w at on agrees pays = middle_goes trace i (with_cpu i d b) (taken_there trace i b there d turn stopped) x pays
  step_does (step.Limits x) w at on agrees pays = limits_goes trace i (with_cpu i d b) (taken_there trace i b there d turn stopped) x pays
  step_does (step.Count x) w at on agrees pays = count_goes trace i (with_cpu i d b) (taken_there trace i b there d turn stopped) x pays
  step_does step.Unmark (whose.Task t) at on agrees pays = absurd agrees
  step_does step.Unmark (whose.Flusher f) at on agrees pays =
      subst (λ (w : Whose). Steps i (with_cpu i d b) (unmark_by trace i w (with_cpu i d b))) (sym (at_whose (whose.Flusher f) at))
      (unmark_goes trace i (with_cpu i d b) (taken_there trace i b there d turn stopped) f (flusher_of f b).phase refl agrees pays)
  step_does step.Look (whose.Task t) at on agrees pays = absurd agrees
  step_does step.Look (whose.Flusher f) at on agrees pays =
      subst (λ (w : Whose). Steps i (with_cpu i d b) (look_by i w (with_cpu i d b))) (sym (at_whose (whose.Flusher f) at))
      (look_goes trace i (with_cpu i d b) (taken_there trace i b there d turn stopped) f (flusher_of f b).phase refl agrees.0 pays)
  step_does (step.Claim word) (whose.Task t) at on agrees pays = absurd agrees
  step_does (step.Claim word) (whose.Flusher f) at on agrees pays =
      subst (λ (w : Whose). Steps i (with_cpu i d b) (claim_by i word w (with_cpu i d b))) (sym (at_whose (whose.Flusher f) at))
      (claim_goes trace i (with_cpu i d b) (taken_there trace i b there d turn stopped) f word (flusher_of f b).phase refl agrees.0 pays)
  step_does step.Complete (whose.Task t) at on agrees pays = absurd agrees
  step_does step.Complete (whose.Flusher f) at on agrees pays =
      subst (λ (w : Whose). Steps i (with_cpu i d b) (complete_by trace i w (with_cpu i d b))) (sym (at_whose (whose.Flusher f) at))
      (complete_goes trace i (with_cpu i d b) (taken_there trace i b there d turn stopped) f (flusher_of f b).phase refl agrees.0 agrees.1 pays)

  -- The turn's first step is made.
  pub step_ahead : (item : Step) → (cpu_of i b).todo ≡ todo.Step item ∷ d.todo → d.made ≡ (cpu_of i b).made + 1 → is_halted trace.halt (cpu_of i b).made ≡ false
      → length b.steps + 1 ≤ b.most → Ahead trace b (make_step trace i item (with_cpu i d b))
  step_ahead item is more free room =
      let some : 1 ≤ length (cpu_of i b).todo = omega (arith, ap (λ (l : List Todo). length l) is) in
      let agrees = All-head (Agrees trace b.tasks b.flushers (cpu_of i b).turn.whose) (todo.Step item) d.todo (subst (All (Agrees trace b.tasks b.flushers (cpu_of i b).turn.whose)) is (turning.agrees i there)) in
      let paid : IsPaid (todo.Step item ∷ d.todo) = subst IsPaid is (h.paid i) in
      let pays : Pays item (cpu_of i (with_cpu i d b)).todo = subst (λ (e : Cpu). Pays item e.todo) (sym (taken_here trace i b there d turn stopped)) paid.1 in
      let cost = ap (ahead_cost (is_last b.tasks (cpu_of i b).turn.whose)) is in
      let r = make_step trace i item (with_cpu i d b) in
      let does = step_does item (cpu_of i b).turn.whose refl (turning.whose i there some) agrees pays in
      let same = taken_pace trace i b there d turn stopped 1 16 r does in
      let paced : ArePaced trace.halt r.steps (set b.cpus i does.cpu) = ⊎_elim
      (λ none. absurd (omega (arith, does.steps, ap (λ (l : List StepEntry). length l) none)))
      (λ one. paced_step trace.halt b.steps b.cpus h.paced i there does.cpu r.steps one.entry one.is one.who
      (ap (λ (p : Pace). p.made) same ∙ more) (ap (λ (p : Pace). p.stopped) same ∙ (stopped ∙ running)) free)
      (grew_step trace i item (with_cpu i d b)) in
      taken_ahead trace i b there d turn stopped 1 16 r does h live paced room (omega (arith, cost))

  -- ---- a silent move

  silent_does : (item : Silent) (w : Whose) → (cpu_of i b).turn.whose ≡ w → IsWhose trace i w → Agrees trace b.tasks b.flushers w (todo.Silent item)
      → IsPaid (todo.Silent item ∷ (cpu_of i (with_cpu i d b)).todo) → Quietly i item (with_cpu i d b) (make_move trace i item (with_cpu i d b))
  unfolding make_move
  silent_does silent.Decide (whose.Task t) at on agrees paid =
      subst (λ (w : Whose). Quietly i silent.Decide (with_cpu i d b) (decide_by trace i w (with_cpu i d b))) (sym (at_whose (whose.Task t) at))
      (decide_goes trace i (with_cpu i d b) (taken_there trace i b there d turn stopped) t (one_there t on) (task_alone trace i b there turning t on d) (task_of t b).context
      (decision_at trace (task_of t b).context (task_of t b) (cpu_of i (with_cpu i d b)).turn (with_cpu i d b)) paid)
  silent_does silent.Decide (whose.Flusher f) at on agrees paid = absurd agrees
  silent_does silent.End (whose.Task t) at on agrees paid =
      subst (λ (w : Whose). Quietly i silent.End (with_cpu i d b) (end_by i w (with_cpu i d b))) (sym (at_whose (whose.Task t) at))
      (end_goes trace i (with_cpu i d b) (taken_there trace i b there d turn stopped) t (one_there t on) (task_alone trace i b there turning t on d) (at_whose (whose.Task t) at) agrees paid)
  silent_does silent.End (whose.Flusher f) at on agrees paid = absurd agrees
  silent_does (silent.Estimate k) (whose.Task t) at on agrees paid = absurd agrees
  silent_does (silent.Estimate k) (whose.Flusher f) at on agrees paid =
      estimate_goes trace i (with_cpu i d b) (taken_there trace i b there d turn stopped) k
      (update_of (writeback_of k b).estimate (sample_of trace k (cpu_of i (with_cpu i d b)).turn (with_cpu i d b))) paid
  silent_does (silent.Weigh k) (whose.Task t) at on agrees paid = absurd agrees
  silent_does (silent.Weigh k) (whose.Flusher f) at on agrees paid = weigh_goes trace i (with_cpu i d b) (taken_there trace i b there d turn stopped) k paid
  silent_does silent.Test (whose.Task t) at on agrees paid = absurd agrees
  silent_does silent.Test (whose.Flusher f) at on agrees paid =
      subst (λ (w : Whose). Quietly i silent.Test (with_cpu i d b) (test_by trace i (cpu_of i (with_cpu i d b)).turn w (with_cpu i d b))) (sym (at_whose (whose.Flusher f) at))
      (test_goes trace i (with_cpu i d b) (taken_there trace i b there d turn stopped) f (cpu_of i (with_cpu i d b)).turn agrees paid)
  silent_does silent.Close (whose.Task t) at on agrees paid = absurd agrees
  silent_does silent.Close (whose.Flusher f) at on agrees paid =
      subst (λ (w : Whose). Quietly i silent.Close (with_cpu i d b) (close_by trace i w (with_cpu i d b))) (sym (at_whose (whose.Flusher f) at))
      (close_goes trace i (with_cpu i d b) (taken_there trace i b there d turn stopped) f (flusher_of f b).phase refl agrees paid)
  silent_does silent.HandOver (whose.Task t) at on agrees paid = absurd agrees
  silent_does silent.HandOver (whose.Flusher f) at on agrees paid =
      subst (λ (w : Whose). Quietly i silent.HandOver (with_cpu i d b) (hand_over_by trace i w (with_cpu i d b))) (sym (at_whose (whose.Flusher f) at))
      (hand_over_goes trace i (with_cpu i d b) (taken_there trace i b there d turn stopped) f (flusher_of f b).phase refl agrees paid)
  silent_does silent.Land (whose.Task t) at on agrees paid = absurd agrees
  silent_does silent.Land (whose.Flusher f) at on agrees paid =
      subst (λ (w : Whose). Quietly i silent.Land (with_cpu i d b) (land_by trace i w (with_cpu i d b))) (sym (at_whose (whose.Flusher f) at))
      (land_goes trace i (with_cpu i d b) (taken_there trace i b there d turn stopped) f (flusher_of f b).phase refl agrees paid)

  -- The turn's first silent move is made.
  pub silent_ahead : (item : Silent) → (cpu_of i b).todo ≡ todo.Silent item ∷ d.todo → d.made ≡ (cpu_of i b).made → Ahead trace b (make_move trace i item (with_cpu i d b))
  silent_ahead item is none =
      let some : 1 ≤ length (cpu_of i b).todo = omega (arith, ap (λ (l : List Todo). length l) is) in
      let agrees = All-head (Agrees trace b.tasks b.flushers (cpu_of i b).turn.whose) (todo.Silent item) d.todo (subst (All (Agrees trace b.tasks b.flushers (cpu_of i b).turn.whose)) is (turning.agrees i there)) in
      let here = taken_here trace i b there d turn stopped in
      let paid : IsPaid (todo.Silent item ∷ d.todo) = subst IsPaid is (h.paid i) in
      let still : IsPaid (todo.Silent item ∷ (cpu_of i (with_cpu i d b)).todo) = subst (λ (e : Cpu). IsPaid (todo.Silent item ∷ e.todo)) (sym here) paid in
      let cost = ap (ahead_cost (is_last b.tasks (cpu_of i b).turn.whose)) is in
      let most = ap (λ (e : Cpu). ahead_cost (is_last b.tasks e.turn.whose) (todo.Silent item ∷ e.todo)) here in
      let whose = ap (λ (t : ReplayTurn). ahead_cost (is_last b.tasks t.whose) (todo.Silent item ∷ d.todo)) turn in
      let before = ahead_cost (is_last b.tasks (cpu_of i (with_cpu i d b)).turn.whose) (todo.Silent item ∷ (cpu_of i (with_cpu i d b)).todo) in
      let r = make_move trace i item (with_cpu i d b) in
      let does = silent_does item (cpu_of i b).turn.whose refl (turning.whose i there some) agrees still in
      let same = taken_pace trace i b there d turn stopped 0 before r does in
      let paced : ArePaced trace.halt r.steps (set b.cpus i does.cpu) =
      subst (λ (l : List StepEntry). ArePaced trace.halt l (set b.cpus i does.cpu)) (sym (silent_move trace i item (with_cpu i d b)))
      (paced_quietly trace.halt b.steps b.cpus h.paced i there does.cpu (ap (λ (p : Pace). p.made) same ∙ none) (ap (λ (p : Pace). p.stopped) same ∙ (stopped ∙ running))) in
      taken_ahead trace i b there d turn stopped 0 before r does h live paced (omega (arith, turning.steps)) (omega (arith, cost, most, whose))
