-- At each moment of a run the timer's steps, with those that are left of its turn, are those of whole turns.
use Rattle.std.proofs.Common.{◌≡◌, ℕ, zero, suc, ◌+◌, ◌<◌, ◌≤◌, List, [], ◌∷◌, ◌++◌, length, Option, Some, None, ⊎_elim, refl, sym, ◌∙◌, ap, subst, arith}
use Rattle.std.proofs.lemmas.Bool.{cases_lt}
use Rattle.std.proofs.lemmas.List.{append-nil, append_assoc, get_or_past}
use Rattle.wbt_replay_order.proofs.Common.{after_period, Half, StepKind, domains, StepEntry, Trace, make_timer_step, make_timer_move, State, no_cpu, cpu_of, domain_of, with_timer, period_to, is_time, periods, domain_turns, domain_periods, turn_items, begin_timer, Actor, Cpu, TimerSilent, TimerStep, TimerTodo, Todo, opening, is_full, spend, cpu_on, timer_on, go_on, begin, most_moves, last_state, StaysInRange}
use Rattle.wbt_grant.specs.declared.who.StepKind.TheVariants as kind
use Rattle.wbt_turns.specs.Words.{publications, repeated}
use Rattle.wbt_replay_moves.specs.declared.state.Actor.TheVariants as who
use Rattle.wbt_replay_moves.specs.declared.todo.TimerSilent.TheVariants as timer_silent
use Rattle.wbt_replay_moves.specs.declared.todo.TimerStep.TheVariants as timer_step
use Rattle.wbt_replay_moves.specs.declared.todo.TimerTodo.TheVariants as timer_todo
use Rattle.wbt_replay_order.proofs.Facts.Lists.{either}
use Rattle.wbt_replay_turns.specs.Laws.{EndsWell}
use Rattle.wbt_replay_turns.specs.Words.{kinds_by, TimerTakesTurns}
use Rattle.wbt_replay_turns.proofs.Kept.Actors.{apart_cpu}
use Rattle.wbt_replay_turns.proofs.Kept.Items.{Outside}
use Rattle.wbt_replay_turns.proofs.Kept.Turns.{apart_begin}
use Rattle.wbt_replay_turns.proofs.Lines.Moves.{begins_silently}
use Rattle.wbt_replay_turns.proofs.Lines.Runs.{journal_steps}
use Rattle.wbt_replay_turns.proofs.Lines.Steps.{quiet_timer_move}
use Rattle.wbt_replay_turns.proofs.Rotation.{grown_cpu}
use Rattle.wbt_replay_turns.proofs.Words.Advancing.{Ready, always}
use Rattle.wbt_replay_turns.proofs.Words.Moves.{kinds_own, kinds_other}

-- ---- the steps that are left of a turn

timer_kind : (item : TimerStep) → StepKind
timer_kind (timer_step.Count domain) = kind.Count
timer_kind (timer_step.Peak domain) = kind.Peak
timer_kind (timer_step.Unseal domain) = kind.Unseal
timer_kind (timer_step.Thresh domain) = kind.Thresh
timer_kind (timer_step.Publish domain) = kind.Publish

abbrev left_of : (todos : List TimerTodo) → List StepKind
left_of [] = []
left_of (timer_todo.Step item ∷ more) = timer_kind item ∷ left_of more
left_of (timer_todo.Silent item ∷ more) = left_of more

left_parts : (xs ys : List TimerTodo) → left_of (xs ++ ys) ≡ left_of xs ++ left_of ys
left_parts [] ys = refl
left_parts (timer_todo.Step item ∷ xs) ys = ap (λ (l : List StepKind). timer_kind item ∷ l) (left_parts xs ys)
left_parts (timer_todo.Silent item ∷ xs) ys = left_parts xs ys

left_domains : (n d : ℕ) → left_of (domain_turns n d) ≡ publications n
unfolding domain_turns timer_kind
left_domains zero d = refl
left_domains (suc n) d = ap (λ (l : List StepKind). kind.Count ∷ kind.Peak ∷ kind.Unseal ∷ kind.Thresh ∷ kind.Publish ∷ l) (left_domains n (d + 1))

left_periods : (n d : ℕ) → left_of (domain_periods n d) ≡ []
unfolding domain_periods
left_periods zero d = refl
left_periods (suc n) d = left_periods n (d + 1)

left_turn : (n : ℕ) → left_of (turn_items n) ≡ publications n
left_turn n =
    left_parts (domain_turns n 0 ++ domain_periods n 0) (timer_todo.Silent timer_silent.Rest ∷ []) ∙ (append-nil (left_of (domain_turns n 0 ++ domain_periods n 0))
    ∙ (left_parts (domain_turns n 0) (domain_periods n 0) ∙ (ap (λ (l : List StepKind). left_of (domain_turns n 0) ++ l) (left_periods n 0)
    ∙ (append-nil (left_of (domain_turns n 0)) ∙ left_domains n 0))))

-- ---- a step of the timer

-- one step of its kind, which leaves the rest of the turn
record OneKind (item : TimerStep) (s u : State) : Type 0 where
  pub entry : StepEntry
  pub is : u.steps ≡ s.steps ++ entry ∷ []
  pub by : entry.who ≡ length s.cpus
  pub kind : entry.kind ≡ timer_kind item
  pub left : u.timer.todo ≡ s.timer.todo

one_kind : (trace : Trace) (item : TimerStep) (s : State) → OneKind item s (make_timer_step trace item s)
unfolding make_timer_step timer_kind
one_kind trace (timer_step.Count zero) s = record { entry = _; is = refl; by = refl; kind = refl; left = refl }
one_kind trace (timer_step.Count (suc domain)) s = record { entry = _; is = refl; by = refl; kind = refl; left = refl }
one_kind trace (timer_step.Peak domain) s = record { entry = _; is = refl; by = refl; kind = refl; left = refl }
one_kind trace (timer_step.Unseal domain) s = record { entry = _; is = refl; by = refl; kind = refl; left = refl }
one_kind trace (timer_step.Thresh domain) s = record { entry = _; is = refl; by = refl; kind = refl; left = refl }
one_kind trace (timer_step.Publish domain) s = record { entry = _; is = refl; by = refl; kind = refl; left = refl }

period_left : (domain k : ℕ) (found : Option Half) (s : State) → (period_to domain k found s).timer.todo ≡ s.timer.todo
period_left domain k None s = refl
period_left domain k (Some events) s = refl

silent_left : (item : TimerSilent) (s : State) → (make_timer_move item s).timer.todo ≡ s.timer.todo
unfolding make_timer_move
silent_left (timer_silent.Period domain) s =
    either (λ (u : State). u.timer.todo ≡ s.timer.todo) (is_time s.timer) (period_to domain (periods s.timer) (after_period (domain_of domain s).events (periods s.timer)) s) s
    (λ time. period_left domain (periods s.timer) (after_period (domain_of domain s).events (periods s.timer)) s) (λ early. refl)
silent_left timer_silent.Rest s = refl

-- ---- what holds at each moment

-- by the steps made, and by what is left of the timer's turn
abbrev TimesIn : (trace : Trace) (steps : List StepEntry) (todos : List TimerTodo) → Type 0
TimesIn trace steps todos = (turns : ℕ) × (kinds_by trace.cpus steps ++ left_of todos ≡ repeated turns (publications (domains trace)))
    × (length (left_of todos) ≤ length (publications (domains trace)))

abbrev TimerParses : (trace : Trace) (s : State) → Type 0
TimerParses trace s = TimesIn trace s.steps s.timer.todo

module _ (trace : Trace) (s : State) (ready : Ready trace s) (h : TimerParses trace s) where
  -- the timer's steps and its turn stay
  stays : (u : State) → kinds_by trace.cpus u.steps ≡ kinds_by trace.cpus s.steps → u.timer.todo ≡ s.timer.todo → TimerParses trace u
  stays u kinds todos = (
    h.0,
    ap (λ (l : List StepKind). l ++ left_of u.timer.todo) kinds
        ∙ (ap (λ (l : List TimerTodo). kinds_by trace.cpus s.steps ++ left_of l) todos ∙ h.1),
    omega (arith, h.2, ap (λ (l : List TimerTodo). length (left_of l)) todos),
  )

  -- a step of a CPU
  by_cpu : (i : ℕ) → i < length s.cpus → TimerParses trace (cpu_on trace i (cpu_of i s).todo s)
  by_cpu i there =
      let u = cpu_on trace i (cpu_of i s).todo s in
      stays u
      (⊎_elim (λ same. ap (kinds_by trace.cpus) same)
      (λ one. kinds_other i trace.cpus s.steps u.steps one.0 one.1 one.2 (λ e. omega (arith, e, there, ready.many)))
      (grown_cpu trace i (cpu_of i s).todo s))
      (ap (λ (o : Outside). o.timer.todo) (apart_cpu trace i (cpu_of i s).todo s))

  by_timer : (todos : List TimerTodo) → s.timer.todo ≡ todos → TimerParses trace (timer_on trace todos s)
  by_timer [] is = h
  by_timer (timer_todo.Step item ∷ rest) is =
      either (TimerParses trace) (is_full s) (spend s) _ (λ full. h)
      (λ room.
      let t = with_timer (record s.timer { todo = rest }) s in
      let u = make_timer_step trace item t in
      let one = one_kind trace item t in
      let own = kinds_own trace.cpus s.steps u.steps one.entry (timer_kind item) one.is (one.by ∙ ready.many) one.kind in
      let left : left_of u.timer.todo ≡ left_of rest = ap left_of one.left in
      let before : kinds_by trace.cpus s.steps ++ (timer_kind item ∷ left_of rest) ≡ repeated h.0 (publications (domains trace)) =
      ap (λ (l : List TimerTodo). kinds_by trace.cpus s.steps ++ left_of l) (sym is) ∙ h.1 in (
        h.0,
        ap (λ (l : List StepKind). l ++ left_of u.timer.todo) own ∙ (ap (λ (l : List StepKind). kinds_by trace.cpus s.steps ++ timer_kind item ∷ [] ++ l) left
            ∙ (append_assoc (kinds_by trace.cpus s.steps) (timer_kind item ∷ []) (left_of rest) ∙ before)),
        omega (arith, h.2, ap (λ (l : List StepKind). length l) left, ap (λ (l : List TimerTodo). length (left_of l)) is),
      ))
  by_timer (timer_todo.Silent item ∷ rest) is =
      let t = with_timer (record s.timer { todo = rest }) s in
      let u = make_timer_move item t in (
        h.0,
        ap (λ (l : List StepEntry). kinds_by trace.cpus l ++ left_of u.timer.todo) (quiet_timer_move item t)
            ∙ (ap (λ (l : List TimerTodo). kinds_by trace.cpus s.steps ++ left_of l) (silent_left item t)
            ∙ (ap (λ (l : List TimerTodo). kinds_by trace.cpus s.steps ++ left_of l) (sym is) ∙ h.1)),
        omega (arith, h.2, ap (λ (l : List TimerTodo). length (left_of l)) (silent_left item t), ap (λ (l : List TimerTodo). length (left_of l)) is),
      )

  by_actor : (a : Actor) → TimerParses trace (go_on trace a s)
  by_actor (who.Cpu i) = ⊎_elim (by_cpu i)
      (λ past. subst (TimerParses trace) (sym (ap (λ (l : List Todo). cpu_on trace i l s) (ap (λ (c : Cpu). c.todo) (get_or_past s.cpus i no_cpu past)))) h)
      (cases_lt i (length s.cpus))
  by_actor who.Timer = by_timer s.timer.todo refl

  by_begin : (i job place : ℕ) → TimerParses trace (begin trace (who.Cpu i) job place s)
  by_begin i job place =
      stays (begin trace (who.Cpu i) job place s) (ap (kinds_by trace.cpus) (begins_silently trace (who.Cpu i) job place s))
      (ap (λ (o : Outside). o.timer.todo) (apart_begin trace (who.Cpu i) job place s))

  -- a turn more
  by_times : s.timer.todo ≡ [] → TimerParses trace (begin_timer s)
  by_times none =
      let items : List TimerTodo = turn_items (length s.domains) in
      let more : left_of (s.timer.todo ++ items) ≡ left_of items = ap (λ (l : List TimerTodo). left_of (l ++ items)) none in
      let turn : left_of items ≡ publications (domains trace) = left_turn (length s.domains) ∙ ap publications ready.domains_many in
      let before : kinds_by trace.cpus s.steps ≡ repeated h.0 (publications (domains trace)) =
      sym (append-nil (kinds_by trace.cpus s.steps)) ∙ (ap (λ (l : List TimerTodo). kinds_by trace.cpus s.steps ++ left_of l) (sym none) ∙ h.1) in (
        suc h.0,
        ap (λ (l : List StepKind). kinds_by trace.cpus s.steps ++ l) (more ∙ turn) ∙ ap (λ (l : List StepKind). l ++ publications (domains trace)) before,
        omega (arith, ap (λ (l : List StepKind). length l) (more ∙ turn)),
      )

-- ---- the run

opens_so : (trace : Trace) → TimerParses trace (opening trace)
unfolding opening
opens_so trace = (0, refl, omega arith)

pub timer_turns : (trace : Trace) → StaysInRange trace → EndsWell trace → TimerTakesTurns trace
timer_turns trace in_range h =
    let s : State = last_state trace in
    let along = always trace (TimerParses trace) (λ s now orders rotation k. k) (λ a s ready k ending. by_actor trace s ready k a)
    (λ i job place s ready k there free. by_begin trace s ready k i job place) (λ s ready k free. by_times trace s ready k free) in_range h (opens_so trace) in
    let at : TimerParses trace s = along most_moves in
    record {
      turns = at.0;
      left = left_of s.timer.todo;
      last = at.2;
      steps = ap (λ (l : List StepEntry). kinds_by trace.cpus l ++ left_of s.timer.todo) (journal_steps trace) ∙ at.1;
    }
