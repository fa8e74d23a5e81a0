use Rattle.std.proofs.Common.{ℕ, ◌+◌, ◌^◌, ◌<◌, sym, subst}
use Rattle.wbt_expiry.specs.Kept.{reach}
use Rattle.wbt_audit_turns.proofs.Dues.{due_near}
use Rattle.wbt_audit_turns.proofs.waits.due_of.Goals as goal

pub returns-clause-near : goal.returns-clause-near
returns-clause-near c =
    subst (λ (due : ℕ). due < 2 ^ 62 + reach) (sym c.due_after.ensures.value) (due_near c.args.trace.now c.requires.lawful c.args.inode c.args.since c.requires.there c.requires.since)
