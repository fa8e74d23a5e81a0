-- The claims of a lawful trace's run, where it is sound at each moment and followed by the step relation.
use Rattle.std.proofs.Common.{◌≡◌, ℕ, ◌<◌, length}
use Rattle.wbt_replay_order.proofs.Common.{IsLawful, Trace, HasEnded, IsBounded, IsBoundedCloser, IsCounted, PeaksArePrinted, PrintsBound, AreCleaned, FoundWereDirtied, pages_of_task, AreDecided, TellsLeft, IsFollowed, NeverFails, IsWhole, most_moves, state_at, last_state, journal_of, Sound}
use Rattle.wbt_journal.specs.Lawful.{CountsStayFresh, CountsSumFolds}
use Rattle.wbt_journal.specs.declared.journal.Ending.TheVariants as ending
use Rattle.wbt_replay_order.specs.Claims.Complete.{written_by}
use Rattle.wbt_replay_points.proofs.Claims.Checks.{checks_fit}
use Rattle.wbt_replay_points.proofs.Claims.Cleaned as ledger
use Rattle.wbt_replay_points.proofs.Claims.Counted as columns
use Rattle.wbt_replay_points.proofs.Claims.Decided as checks
use Rattle.wbt_replay_points.proofs.Claims.Found as found
use Rattle.wbt_replay_points.proofs.Claims.Fresh.{counts_stay}
use Rattle.wbt_replay_points.proofs.Claims.Left.{tells_left}
use Rattle.wbt_replay_points.proofs.Claims.Peaks as peaks
use Rattle.wbt_replay_points.proofs.Claims.Sums.{counts_sum}
use Rattle.wbt_replay_points.proofs.Claims.Wholes as wholes
use Rattle.wbt_replay_order.proofs.Written.End.{all_written}
use Rattle.wbt_replay_order.proofs.Facts.Facts.{facts}
use Rattle.wbt_replay_order.proofs.Facts.Settings.{setting_is}

module _ (trace : Trace) (lawful : IsLawful trace) (sound : (moves : ℕ) → Sound trace (state_at trace moves)) (followed : IsFollowed trace) where
  pub counted : IsCounted trace
  counted = columns.counted trace (setting_is trace lawful) followed

  pub bounded : IsBounded (journal_of trace)
  bounded = columns.bounded trace (setting_is trace lawful) followed

  pub bounded_closer : IsBoundedCloser trace
  bounded_closer = columns.bounded_closer trace (setting_is trace lawful) followed

  pub prints_bound : PrintsBound trace
  prints_bound = columns.prints_bound trace (setting_is trace lawful) followed

  pub peaks_printed : PeaksArePrinted trace
  peaks_printed = peaks.peaks_are_printed trace

  pub cleaned : NeverFails trace → AreCleaned trace
  cleaned never = ledger.cleaned trace (setting_is trace lawful) followed never

  pub decided : AreDecided trace
  decided = checks.are_decided trace (λ moves. checks_fit trace (state_at trace moves) (sound moves))

  pub fresh : CountsStayFresh (journal_of trace)
  fresh = counts_stay trace (setting_is trace lawful) followed sound

  pub sums : CountsSumFolds trace (journal_of trace)
  sums = counts_sum trace (facts trace lawful) (setting_is trace lawful) followed decided (sound most_moves).holds.cpus.many

  pub found_were_dirtied : FoundWereDirtied (journal_of trace)
  found_were_dirtied = found.found_were_dirtied trace (setting_is trace lawful) followed (sound most_moves).holds.cpus.many

  pub left : TellsLeft trace
  left = tells_left trace (sound most_moves)

  pub whole : IsWhole (journal_of trace)
  whole = wholes.whole trace sound (facts trace lawful) (setting_is trace lawful) followed

  -- where the run ends and isn't cut off, every page of every write is told
  pub written : HasEnded trace → (journal_of trace).ending ≡ ending.Done → (task : ℕ) → task < length trace.tasks
      → written_by task (last_state trace) trace ≡ pages_of_task trace task
  written ended done = all_written trace (facts trace lawful) sound ended done
