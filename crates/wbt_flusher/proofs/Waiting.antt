-- Entries that tell nothing of waiting lists leave the flusher's.
use Rattle.std.proofs.Common.{◌≡◌, ℕ, cond, eqb, None, List}
use Rattle.wbt_flusher.proofs.Common.{Due, Trace, Each, effect, Told, Waited, IsSilent}
use Rattle.wbt_kit.proofs.Common.{Wait, MayWait, waited}
use Rattle.wbt_run_laws.specs.Waits.{WaitsInTurn, list_after}
use Rattle.wbt_run_laws.proofs.Effects.{if_none, part_none}
use Rattle.wbt_run_laws.proofs.Lists.{each_weaker}
use Rattle.wbt_run_laws.proofs.Turning.{list_stays}

abbrev pub TellsNoWait : (e : Told) → Type 0
TellsNoWait e = (effect e).wait ≡ None

silent_wait : (trace : Trace) (flusher : ℕ) (e : Told) → TellsNoWait e → IsSilent (WaitsInTurn trace flusher) (list_after trace flusher) e
silent_wait trace flusher e none s = (
  if_none (λ (wait : Wait). wait.flusher ≡ flusher → MayWait trace flusher wait.move s) (effect e).wait none,
  part_none s (λ (wait : Wait). cond (eqb wait.flusher flusher) (waited trace wait.move s) s) (effect e).wait none,
)

pub list_kept : (trace : Trace) (flusher : ℕ) (added : List Told) (old new : List Due) → Each TellsNoWait added → new ≡ old → Waited trace flusher old added new
list_kept trace flusher added old new none same =
    list_stays trace flusher old new added (each_weaker TellsNoWait (IsSilent (WaitsInTurn trace flusher) (list_after trace flusher)) (silent_wait trace flusher) added none) same
