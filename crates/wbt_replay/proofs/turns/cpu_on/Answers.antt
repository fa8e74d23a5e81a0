use Rattle.std.proofs.Common.{◌≡◌, ◌<◌, Some, List, [], ◌∷◌, length, sym, ◌∙◌, ap, subst, arith}
use Rattle.std.proofs.lemmas.List.{get_or_default}
use Rattle.wbt_num.specs.Front.{first}
use Rattle.wbt_replay_order.proofs.Common.{cpu_of, no_cpu, with_cpu, seen, Cpu, Todo, cpu_on}
use Rattle.wbt_replay_moves.specs.Kept.Fit.{CanMove}
use Rattle.wbt_replay_moves.specs.declared.todo.Todo.TheVariants as todo
use Rattle.wbt_replay.proofs.Ordering.Fitting.{move_fits}
use Rattle.wbt_replay.proofs.Ordering.Queues.{is_empty, taken}
use Rattle.wbt_replay.proofs.turns.cpu_on.Goals as goal

pub make_move-requires-clause-fits : goal.make_move-requires-clause-fits
make_move-requires-clause-fits c =
    let trace = c.args.trace.now in
    let s = seen c.args.machine.now in
    let i = c.args.cpu in
    let item = c.in-Some-Silent.item in
    let there : i < length s.cpus = omega (arith, c.requires.cpu, c.requires.sound.holds.cpus.many) in
    let read : c.index.result.now ≡ cpu_of i s = c.index.ensures ∙ get_or_default s.cpus i c.index.result.now no_cpu there in
    let its : c.index_mut.result.now ≡ cpu_of i s = c.index_mut.ensures.value ∙ get_or_default s.cpus i c.index_mut.result.now no_cpu there in
    let ts = c.pop_front-item.new.self in
    let next : first (cpu_of i s).todo ≡ Some (todo.Silent item) = ap (λ (x : Cpu). first x.todo) (sym read) ∙ sym c.front.ensures ∙ c.in-Some-Silent.is ∙ ap Some c.in-Some-Silent.field-0-is in
    let front : (cpu_of i s).todo ≡ todo.Silent item ∷ ts =
    sym (ap (λ (x : Cpu). x.todo) its) ∙ taken c.index_mut.result.now.todo ts c.pop_front-item.result (todo.Silent item) c.pop_front-item.ensures (ap (λ (x : Cpu). first x.todo) its ∙ next) in
    subst (CanMove trace i item) (sym (ap (λ (x : Cpu). with_cpu i (record x { todo = ts }) s) its))
    (move_fits trace c.requires.facts s c.requires.sound i c.requires.cpu item ts front)

pub returns-in-None : goal.returns-in-None
returns-in-None c =
    let trace = c.args.trace.now in
    let s = seen c.args.machine.now in
    let i = c.args.cpu in
    let there : i < length s.cpus = omega (arith, c.requires.cpu, c.requires.sound.holds.cpus.many) in
    let read : c.index.result.now ≡ cpu_of i s = c.index.ensures ∙ get_or_default s.cpus i c.index.result.now no_cpu there in
    let none : (cpu_of i s).todo ≡ [] = is_empty (cpu_of i s).todo (ap (λ (x : Cpu). first x.todo) (sym read) ∙ sym c.front.ensures ∙ c.in-None.is) in
    sym (ap (λ (l : List Todo). cpu_on trace i l s) none)
