use Rattle.std.proofs.Common.{◌≡◌, ◌+◌, ◌<◌, ◌∷◌, true, false, length, sym, ◌∙◌, ap, subst, arith}
use Rattle.std.proofs.lemmas.List.{get_or_default}
use Rattle.wbt_num.specs.Front.{first}
use Rattle.wbt_replay_order.proofs.Common.{cpu_of, no_cpu, with_cpu, seen, Cpu, is_halted}
use Rattle.wbt_replay_moves.specs.Kept.Fit.{CanStep}
use Rattle.wbt_replay_moves.specs.declared.todo.Todo.TheVariants as todo
use Rattle.wbt_replay.proofs.Ordering.Fitting.{step_fits}
use Rattle.wbt_replay.proofs.Ordering.Queues.{taken}
use Rattle.wbt_replay.proofs.Ordering.Stopping.{halted, full}
use Rattle.wbt_replay.proofs.turns.step_or_stop.Goals as goal

pub make_step-requires-clause-fits : goal.make_step-requires-clause-fits
make_step-requires-clause-fits c =
    let trace = c.args.trace.now in
    let s = seen c.args.machine.now in
    let i = c.args.cpu in
    let there : i < length s.cpus = omega (arith, c.requires.cpu, c.requires.sound.holds.cpus.many) in
    let its : c.index_mut-at.result.now ≡ cpu_of i s = c.index_mut-at.ensures.value ∙ get_or_default s.cpus i c.index_mut-at.result.now no_cpu there in
    let ts = c.pop_front-item.new.self in
    let front : (cpu_of i s).todo ≡ todo.Step c.args.step ∷ ts =
    sym (ap (λ (x : Cpu). x.todo) its) ∙ taken c.index_mut-at.result.now.todo ts c.pop_front-item.result (todo.Step c.args.step) c.pop_front-item.ensures (ap (λ (x : Cpu). first x.todo) its ∙ c.requires.next) in
    subst (CanStep trace i c.args.step) (sym (ap (λ (x : Cpu). with_cpu i (record x { todo = ts; made = x.made + 1 }) s) its))
    (step_fits trace c.requires.facts s c.requires.sound i c.requires.cpu c.requires.room c.args.step ts front)

pub returns-then-is_halted : goal.returns-then-is_halted
returns-then-is_halted c =
    let trace = c.args.trace.now in
    let s = seen c.args.machine.now in
    let i = c.args.cpu in
    let there : i < length s.cpus = omega (arith, c.requires.cpu, c.requires.sound.holds.cpus.many) in
    let read : c.index.result.now ≡ cpu_of i s = c.index.ensures ∙ get_or_default s.cpus i c.index.result.now no_cpu there in
    let is : is_halted trace.halt (cpu_of i s).made ≡ true = sym (c.is_halted.ensures ∙ ap (λ (x : Cpu). is_halted trace.halt x.made) read) ∙ c.if-is_halted.true in
    c.stop.ensures ∙ halted trace i c.args.step s c.requires.next is

pub returns-then-is_full : goal.returns-then-is_full
returns-then-is_full c =
    let trace = c.args.trace.now in
    let s = seen c.args.machine.now in
    let i = c.args.cpu in
    let there : i < length s.cpus = omega (arith, c.requires.cpu, c.requires.sound.holds.cpus.many) in
    let read : c.index.result.now ≡ cpu_of i s = c.index.ensures ∙ get_or_default s.cpus i c.index.result.now no_cpu there in
    let going : is_halted trace.halt (cpu_of i s).made ≡ false = sym (c.is_halted.ensures ∙ ap (λ (x : Cpu). is_halted trace.halt x.made) read) ∙ c.if-is_halted.false in
    full trace i c.args.step s c.requires.next going (sym c.is_full.ensures ∙ c.if-is_full.true)
