-- Turns of a flusher on seats that were joined: what they note may be taken as noted by the flusher's CPU.
use Rattle.std.specs.Prelude.{◌≡◌, ℕ, false, None, List, ◌++◌}
use Rattle.wbt_estimate.specs.declared.estimate.Estimate.{Estimate}
use Rattle.wbt_fraction.specs.declared.domain.note.Note.{Note}
use Rattle.wbt_journal.specs.Each.{Each}
use Rattle.wbt_journal.specs.Effects.{effect}
use Rattle.wbt_journal.specs.Told.{Told}
use Rattle.wbt_run_laws.specs.Entries.{is_check}
use Rattle.wbt_run_laws.specs.Notes.{Notes, SharesGrew, EstimatesGrew}

-- these notes more, by domain
abbrev pub with_shares : (base : Notes) (more : (domain : ℕ) → List Note) → Notes
with_shares base more = record { shares = λ domain. more domain ++ base.shares domain; kept = base.kept; estimates = base.estimates }

-- Without a check among the entries, what the shares of one CPU's notes got on a seat that was joined they get on its own too.
abbrev pub SharesMayMove : Type 0
SharesMayMove = (cpu : ℕ) (added : List Told) (old new base : Notes) → (grew : SharesGrew cpu added old new)
    → Each (λ (e : Told). is_check e ≡ false) added
    → SharesGrew cpu added base (with_shares base (λ domain. (grew.longer domain).more))

-- entries that tell neither a check nor an estimate
pub record IsPlain (entry : Told) : Type 0 where
  pub no_check : (effect entry).check ≡ None
  pub no_estimate : (effect entry).estimate ≡ None

-- such entries leave what a pass knows of estimates, whatever its shares became
abbrev pub PlainEstimates : Type 0
PlainEstimates = (firsts : List Estimate) (cpu : ℕ) (added : List Told) (old new : Notes) → Each IsPlain added
    → ((context : ℕ) → new.estimates context ≡ old.estimates context) → EstimatesGrew firsts cpu added old new
