use Rattle.std.proofs.Common.{None, Some, refl, sym, ◌∙◌}
use Rattle.wbt_audit_reads.proofs.Counted.{saw_at}
use Rattle.wbt_audit_reads.proofs.counts.Counts.see.Goals as goal

pub returns-in-None : goal.returns-in-None
returns-in-None c = saw_at c.args.self.now c.args.self.now.newest c.args.counter c.args.version None (sym c.counter.ensures ∙ c.in-None.is) refl

pub returns-in-Some : goal.returns-in-Some
returns-in-Some c =
    saw_at c.args.self.now c.see.new.self c.args.counter c.args.version (Some c.in-Some.place) (sym c.counter.ensures ∙ c.in-Some.is) c.see.ensures
