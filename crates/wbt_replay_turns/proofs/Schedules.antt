-- A schedule's choices as order lines are those of a lawful trace, and its run makes its steps in this order.
use Rattle.std.proofs.Common.{◌≡◌, ◌⊎◌, inl, inr, ℕ, ◌+◌, List, [], ◌∷◌, map, All, ⊎_elim, subst, arith}
use Rattle.std.proofs.lemmas.Bool.{cases_lt}
use Rattle.std.proofs.lemmas.List.{length-map}
use Rattle.std.proofs.lemmas.List.Elements.{All-nil, All-cons, All-head, All-tail}
use Rattle.wbt_replay_order.proofs.Common.{IsLawful, Trace, Actor}
use Rattle.wbt_trace.specs.Lawful.{IsOrder}
use Rattle.wbt_replay_moves.specs.declared.state.Actor.TheVariants as who
use Rattle.wbt_replay_turns.specs.Lines.{IsMadeBy, Stops, Fulfils, Obeys, ObeysOrder}
use Rattle.wbt_replay_turns.specs.Schedules.{Choice, step, tick, IsChoice, IsSchedule, line_of, scheduled, lines_of, MakesSteps, IsShown}

-- ---- the trace of a schedule is lawful

choice_order : (trace : Trace) (choice : Choice) → IsChoice trace choice → IsOrder trace.cpus (line_of choice)
choice_order trace (step (who.Cpu cpu)) h = (h, (omega arith, omega arith))
choice_order trace (step who.Timer) h = (omega arith, omega arith)
choice_order trace (tick ticks) h = h

choices_order : (trace : Trace) (choices : List Choice) → All (IsChoice trace) choices → All (IsOrder trace.cpus) (map line_of choices)
choices_order trace [] all = All-nil (IsOrder trace.cpus)
choices_order trace (choice ∷ more) all =
    All-cons (IsOrder trace.cpus) (line_of choice) (map line_of more) (choice_order trace choice (All-head (IsChoice trace) choice more all))
    (choices_order trace more (All-tail (IsChoice trace) choice more all))

pub scheduled_lawful : (trace : Trace) → IsLawful trace → (choices : List Choice) → IsSchedule trace choices → IsLawful (scheduled trace choices)
scheduled_lawful trace lawful choices h =
    let w = lawful.within in
    record {
      within = record {
        cpus = w.cpus;
        cap = w.cap;
        settings = w.settings;
        avail = w.avail;
        few_avail = w.few_avail;
        devices = w.devices;
        cgroups = w.cgroups;
        few_cgroups = w.few_cgroups;
        contexts = w.contexts;
        few_contexts = w.few_contexts;
        inodes = w.inodes;
        tasks = w.tasks;
        few_tasks = w.few_tasks;
        paces = w.paces;
        flushers = w.flushers;
        few_flushers = w.few_flushers;
        actions = w.actions;
        few_actions = w.few_actions;
        few_writers = w.few_writers;
        order = choices_order trace choices h.each;
        few_orders = omega (arith, h.few, length-map choices line_of);
        halt = w.halt;
      };
      whole = record { cpus = lawful.whole.cpus; avail = lawful.whole.avail; flushers = lawful.whole.flushers };
    }

-- ---- its run

module _ (trace : Trace) where
  -- a line that asks for one step
  one_step : (a : Actor) (more : List Choice) (from : ℕ) → ((n : ℕ) → Obeys trace (lines_of trace more) n → MakesSteps trace more n)
      → ((made : ℕ) × Fulfils trace a 1 (lines_of trace more) from made × Obeys trace (lines_of trace more) (from + made))
      → Stops trace a (lines_of trace more) from ⊎ (IsMadeBy trace a from × MakesSteps trace more (from + 1))
  one_step a more from behind h =
      let made : ℕ = h.0 in
      let f : Fulfils trace a 1 (lines_of trace more) from made = h.1 in
      ⊎_elim
      (λ fewer.
      let none : from + made ≡ from = omega (arith, fewer) in
      inl (subst (Stops trace a (lines_of trace more)) none (f.stops fewer)))
      (λ all.
      let one : made ≡ 1 = omega (arith, f.within, all) in
      inr (f.by from (omega arith) (omega (arith, one)), behind (from + 1) (subst (λ (n : ℕ). Obeys trace (lines_of trace more) (from + n)) one h.2)))
      (cases_lt made 1)

  steps_so : (choices : List Choice) (from : ℕ) → Obeys trace (lines_of trace choices) from → MakesSteps trace choices from
  steps_so [] from h = tt
  steps_so (step (who.Cpu cpu) ∷ more) from h = one_step (who.Cpu cpu) more from (steps_so more) h.1
  steps_so (step who.Timer ∷ more) from h = one_step who.Timer more from (steps_so more) h.1
  steps_so (tick ticks ∷ more) from h = steps_so more from h.1

pub is_shown : (trace : Trace) → IsLawful trace → (choices : List Choice) → IsSchedule trace choices → ObeysOrder (scheduled trace choices) → IsShown trace choices
is_shown trace lawful choices h obeys = record { lawful = scheduled_lawful trace lawful choices h; steps = steps_so (scheduled trace choices) choices 0 obeys.steps }
