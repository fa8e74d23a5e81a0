use Rattle.std.proofs.Common.{suc}
use Rattle.wbt_fraction.specs.declared.domain.note.Note.TheVariants.{Added}
use Rattle.wbt_fraction.proofs.Answering.{two_made}
use Rattle.wbt_fraction.proofs.domain.words.Words.add_both.Goals as goal

pub returns-clause-made : goal.returns-clause-made
returns-clause-made c =
    two_made (Added (suc c.args.part) c.add_part-in_part.result c.args.n) (Added 0 c.add_domain-in_domain.result c.args.n)
    c.args.place.now.me.0.trail c.add_part-in_part.new.place.me.0.trail c.add_domain-in_domain.new.place.me.0.trail
    c.add_part-in_part.ensures.made c.add_domain-in_domain.ensures.made
