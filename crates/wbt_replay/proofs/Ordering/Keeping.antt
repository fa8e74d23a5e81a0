-- Each move of a run keeps what is in range.
use Rattle.std.proofs.Common.{◌≡◌, false}
use Rattle.wbt_replay_order.proofs.Common.{Trace, State, advance, is_ended, Facts, HasRoom, Sound}
use Rattle.wbt_replay_ranges.proofs.Sound.Advances as advances

pub sound_kept : (trace : Trace) (s : State) → Facts trace → Sound trace s → HasRoom trace s → is_ended s ≡ false → Sound trace (advance trace s) × HasRoom trace (advance trace s)
sound_kept trace s facts sound room going = advances.sound_kept trace facts s sound room
