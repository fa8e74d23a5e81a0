use Rattle.std.proofs.Common.{◌≡◌, ◌<◌, ℕ, Bool, true, false, List, length, get_or, refl, sym, ◌∙◌, arith}
use Rattle.wbt_kit.proofs.Common.{same_default}
use Rattle.wbt_writer.specs.Exact.{is_next}
use Rattle.wbt_writer.proofs.work.WriterWork.put_next.Goals as goal

waits : (all : List Bool) (inode : ℕ) (found : Bool) → found ≡ get_or all inode found → found ≡ true → inode < length all → get_or all inode false ≡ true
waits all inode found at is there = sym (at ∙ same_default all inode found false there) ∙ is

pub returns-then-not-index-clause-only : goal.returns-then-not-index-clause-only
returns-then-not-index-clause-only g c = record { tasks = refl; fractions = refl; cpu = refl; share = refl; est = refl; queues = λ device. refl }

pub returns-clause-next : goal.returns-clause-next
returns-clause-next g c =
    is_next (waits c.args.self.now.waiting.items c.args.inode c.index.result.now c.index.ensures c.if-not-index.false (let long = c.requires.at_kit.is_work.waiting in let there = c.requires.inode in omega arith)) c.put.ensures.puts
