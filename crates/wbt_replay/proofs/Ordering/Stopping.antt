-- A CPU that has a step to make and makes none.
use Rattle.std.proofs.Common.{◌≡◌, ℕ, ◌+◌, true, false, cond, Some, List, [], ◌∷◌, drop, sym, ◌∙◌, ap}
use Rattle.std.proofs.lemmas.Bool.{cond-true, cond-false}
use Rattle.wbt_num.specs.Front.{first}
use Rattle.wbt_replay_order.proofs.Common.{Trace, make_step, State, cpu_of, with_cpu, Step, Todo, cpu_on, step_or_stop, is_halted, is_full, stop, spend}
use Rattle.wbt_replay_moves.specs.declared.todo.Todo.TheVariants as todo

module _ (trace : Trace) (cpu : ℕ) (step : Step) (s : State) where
  step_next : (todos : List Todo) → first todos ≡ Some (todo.Step step) → cpu_on trace cpu todos s ≡ step_or_stop trace cpu step (drop 1 todos) s
  step_next [] is = absurd (cc is)
  step_next (t ∷ more) is = let same : t ≡ todo.Step step = cc is in ap (λ (v : Todo). cpu_on trace cpu (v ∷ more) s) same

  module _ (next : first (cpu_of cpu s).todo ≡ Some (todo.Step step)) where
    abbrev made_step : State
    made_step = make_step trace cpu step (with_cpu cpu (record (cpu_of cpu s) { todo = drop 1 (cpu_of cpu s).todo; made = (cpu_of cpu s).made + 1 }) s)

    pub halted : is_halted trace.halt (cpu_of cpu s).made ≡ true → stop cpu s ≡ cpu_on trace cpu (cpu_of cpu s).todo s
    halted is = sym (step_next (cpu_of cpu s).todo next
        ∙ cond-true (is_halted trace.halt (cpu_of cpu s).made) (stop cpu s) (cond (is_full s) (spend s) made_step) is)

    pub full : is_halted trace.halt (cpu_of cpu s).made ≡ false → is_full s ≡ true → spend s ≡ cpu_on trace cpu (cpu_of cpu s).todo s
    full going is = sym (step_next (cpu_of cpu s).todo next
        ∙ cond-false (is_halted trace.halt (cpu_of cpu s).made) (stop cpu s) (cond (is_full s) (spend s) made_step) going
        ∙ cond-true (is_full s) (spend s) made_step is)
