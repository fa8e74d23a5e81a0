use Rattle.std.proofs.Common.{◌∷◌, [], ap, sym, ◌∙◌, arith, length, subst, List}
use Rattle.std.proofs.lemmas.List.{with_items_is}
use Rattle.wbt_task.specs.History.{Along, Cpu, HasRoom, cpu_step}
use Rattle.wbt_audit_walk.proofs.Common.{Writer}
use Rattle.wbt_task.proofs.Keeping.{same_writers}
use Rattle.wbt_audit_turns.proofs.Siding.{one_room, one_event}
use Rattle.wbt_audit_turns.proofs.side.Side.count.Goals as goal

pub run-requires-clause-room : goal.run-requires-clause-room
run-requires-clause-room c = subst (λ (ws : List Writer). Along HasRoom c.args.machine.now.ratelimit_pages c.args.machine.now.cap (record { local = c.args.self.now.local; writers = ws }) (c.args.event ∷ []))
    (sym c.deref_mut.ensures.value) (one_room _ _ _ _ c.requires.room)

pub returns-clause-cpu : goal.returns-clause-cpu
returns-clause-cpu c =
    let e = c.run.ensures ∙ one_event _ _ _ c.args.event in
    let long = ap (λ (cpu : Cpu). length cpu.writers) e ∙ same_writers _ _ _ c.args.event in
    let len = c.deref_mut.ensures.len in
    ap (λ (ws : List Writer). record { local = c.run.new.local; writers = ws }) (with_items_is c.args.self.now.writers c.run.new.writers (omega (arith, long, len)))
    ∙ e ∙ ap (λ (ws : List Writer). cpu_step c.args.machine.now.ratelimit_pages c.args.machine.now.cap (record { local = c.args.self.now.local; writers = ws }) c.args.event) c.deref_mut.ensures.value
