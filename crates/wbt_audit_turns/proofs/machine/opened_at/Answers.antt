use Rattle.std.proofs.Common.{◌≡◌, ◌<◌, ◌+◌, ℕ, List, ◌∷◌, length, get_or, drop, sym, ap, ◌∙◌, refl, add-one, drop-cons}
use Rattle.wbt_audit_walk.proofs.Common.{opened_at, TimerEntry}
use Rattle.wbt_journal.specs.declared.timer.TimerEntry.TheVariants as timer
use Rattle.wbt_audit_turns.proofs.machine.opened_at.Goals as goal

drop_is : (entries : List TimerEntry) (i : ℕ) (d : TimerEntry) → i < length entries → drop i entries ≡ get_or entries i d ∷ drop (i + 1) entries
drop_is entries i d less = rw (add-one, drop-cons entries i d) refl

pub returns-in-Limits : goal.returns-in-Limits
returns-in-Limits c =
    let entries = c.args.timer.now in
    let i = c.loop-entry.entry-index in
    let none : TimerEntry = timer.Limits 0 0 (record { thresh = 0; bg = 0; hard = 0 }) in
    sym (ap (λ (e : TimerEntry). opened_at (e ∷ drop (i + 1) entries)) c.in-Limits.is)
    ∙ sym (ap opened_at (drop_is entries i none c.loop-entry-test.true)) ∙ c.loop-entry.invariant
