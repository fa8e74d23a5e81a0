use Rattle.std.proofs.Common.{None, Some, refl, sym, ◌∙◌}
use Rattle.wbt_audit_reads.proofs.Tripled.{saw_at}
use Rattle.wbt_audit_reads.proofs.triples.Triples.see.Goals as goal

pub returns-in-None : goal.returns-in-None
returns-in-None c = saw_at c.args.self.now c.args.self.now.newest c.args.read.now None (sym c.domain.ensures ∙ c.in-None.is) refl

pub returns-in-Some : goal.returns-in-Some
returns-in-Some c = saw_at c.args.self.now c.see.new.self c.args.read.now (Some c.in-Some.place) (sym c.domain.ensures ∙ c.in-Some.is) c.see.ensures
