-- What holds of the run of every lawful trace.
use Rattle.std.proofs.Common.{◌≡◌, ℕ, length}
use Rattle.wbt_replay_order.proofs.Common.{IsLawful, Trace, FlushersAreInTurn, FoundWereDirtied, LedgerIsEven, LeftIsBounded, LeftPagesAreThere, WritesAreInOrder, WaitsAreOwn, IsBounded, IsBoundedCloser, IsCounted, PeaksArePrinted, PrintsBound, HasEnded, AreCleaned, AreDecided, TellsLeft, IsFollowed, NeverFails, IsWhole, most_moves, state_at, last_state, journal_of, Sound, HasRoom, ChecksFit, CompletesAll, AgedWereDue, StaysInRange}
use Rattle.wbt_journal.specs.Lawful as law
use Rattle.wbt_journal.specs.declared.journal.Ending.TheVariants as ending
use Rattle.wbt_replay_order.specs.Claims.Ending.{EndsSo}
use Rattle.wbt_replay_order.specs.Claims.Strict.{StaysWithinStrict}
use Rattle.wbt_replay_points.proofs.Claims.Endings.{ends_so as so_ends}
use Rattle.wbt_replay_points.proofs.Claims.Together as claims
use Rattle.wbt_replay_order.proofs.Facts.Facts.{facts}
use Rattle.wbt_replay_order.proofs.Facts.Settings.{setting_is}
use Rattle.wbt_replay_points.proofs.Lawful.Journal as points
use Rattle.wbt_replay_points.proofs.StrictLines.Fitting.{checks_fit as fit}
use Rattle.wbt_replay_points.proofs.StrictLines.Within.{stays_within}
use Rattle.wbt_replay.specs.Claims.{AreAccounted, EndsByItself, GoesInOrder, HasPoints, StaysWithin}
use Rattle.wbt_replay_ranges.proofs.InRange.{stays_in_range}
use Rattle.wbt_replay_path.proofs.Following.{is_followed}
use Rattle.wbt_replay_ends.proofs.Ended.{runs_end, ending_at, runs_complete}
use Rattle.wbt_replay_points.proofs.Legally as legally
use Rattle.wbt_replay_turns.specs.Clock.{ClockIsRight}
use Rattle.wbt_replay_turns.specs.Lines.{ObeysOrder}
use Rattle.wbt_replay_turns.specs.Rotation.{TurnsAreFair}
use Rattle.wbt_replay_turns.specs.Schedules.{scheduled, ShowsSchedules}
use Rattle.wbt_replay_turns.specs.Words.{TakesTurns}
use Rattle.wbt_replay_turns.proofs.Clock.{keeps_time}
use Rattle.wbt_replay_turns.proofs.Lines.Runs.{obeys_order}
use Rattle.wbt_replay_turns.proofs.Rotation.{turns_fair}
use Rattle.wbt_replay_turns.proofs.Schedules.{scheduled_lawful, is_shown}
use Rattle.wbt_replay_turns.proofs.Words.Whole.{all_take_turns}

module _ (trace : Trace) (lawful : IsLawful trace) where
  stays : StaysInRange trace
  stays = stays_in_range trace lawful

  -- Each moment's state is in range, and the own numbers have room.
  pub sound : (moves : ℕ) → Sound trace (state_at trace moves)
  sound = stays.sound

  pub room : (moves : ℕ) → HasRoom trace (state_at trace moves)
  room = stays.room

  -- The run ends by itself.
  pub ended : HasEnded trace
  ended = runs_end trace lawful stays

  -- It is told why.
  pub ends_so : EndsSo trace
  ends_so = so_ends trace (sound most_moves) ended (ending_at trace lawful stays most_moves)

  -- The step relation is followed.
  pub followed : IsFollowed trace
  followed = is_followed trace lawful stays ended

  -- ---- what is claimed

  pub counted : IsCounted trace
  counted = claims.counted trace lawful sound followed

  pub bounded : IsBounded (journal_of trace)
  bounded = claims.bounded trace lawful sound followed

  pub bounded_closer : IsBoundedCloser trace
  bounded_closer = claims.bounded_closer trace lawful sound followed

  pub prints_bound : PrintsBound trace
  prints_bound = claims.prints_bound trace lawful sound followed

  pub peaks_printed : PeaksArePrinted trace
  peaks_printed = claims.peaks_printed trace lawful sound followed

  pub decided : AreDecided trace
  decided = claims.decided trace lawful sound followed

  pub unfailing : NeverFails trace
  unfailing = points.never_fails trace lawful sound followed decided

  pub cleaned : AreCleaned trace
  cleaned = claims.cleaned trace lawful sound followed unfailing

  pub found_were_dirtied : FoundWereDirtied (journal_of trace)
  found_were_dirtied = claims.found_were_dirtied trace lawful sound followed

  pub left : TellsLeft trace
  left = claims.left trace lawful sound followed

  pub whole : IsWhole (journal_of trace)
  whole = claims.whole trace lawful sound followed

  -- What each check read fits, and each context of a strict device stays within its bound.
  pub checks_fit : ChecksFit trace (last_state trace).cpus
  checks_fit = fit trace (facts trace lawful) sound decided

  pub stays_strict : StaysWithinStrict trace
  stays_strict = stays_within trace (setting_is trace lawful) followed ended.0

  -- A run that isn't cut off has told every page of every write, and leaves nothing.
  pub complete : CompletesAll trace
  complete = runs_complete trace lawful stays

  -- The clock moves as it should, order lines are obeyed, and turns come in the order of the rotation.
  pub clock_right : ClockIsRight trace
  clock_right = keeps_time trace lawful stays ended

  pub obeyed : ObeysOrder trace
  obeyed = obeys_order trace lawful stays ended (ending_at trace lawful stays)

  pub fair : TurnsAreFair trace
  fair = turns_fair trace lawful stays ended

  -- The steps of each CPU and of the timer are those of turns.
  pub turns : TakesTurns trace
  turns = all_take_turns trace stays (ending_at trace lawful stays)

  -- ---- the points of a lawful journal

  pub parts : length (journal_of trace).cpus ≡ trace.cpus
  parts = points.parts trace lawful sound followed decided

  pub writes_in_order : WritesAreInOrder trace (journal_of trace)
  writes_in_order = points.writes trace lawful sound followed decided

  pub flights : FlushersAreInTurn trace (journal_of trace)
  flights = points.flights trace lawful sound followed decided

  pub own_waits : WaitsAreOwn trace (journal_of trace)
  own_waits = points.own_waits trace lawful sound followed decided

  pub ages : AgedWereDue trace (journal_of trace)
  ages = points.ages trace lawful sound followed decided

  pub ledger_even : LedgerIsEven trace (journal_of trace)
  ledger_even = points.even trace lawful sound followed decided cleaned left

  pub left_pages : LeftPagesAreThere trace (journal_of trace)
  left_pages = points.left_pages trace lawful sound followed decided

  pub left_bounded : LeftIsBounded trace (journal_of trace)
  left_bounded = points.left_bounded trace lawful sound followed decided

  -- those of a legal journal, however the run ended
  pub is_legal : law.IsLegal trace (journal_of trace)
  is_legal = legally.is_legal trace lawful sound followed ended

  -- all of them
  pub is_lawful : ((journal_of trace).ending ≡ ending.Spent → ⊥) → law.IsLawful trace (journal_of trace)
  is_lawful unspent = legally.is_lawful trace lawful sound followed ended complete unspent

-- Each schedule is that of a lawful trace, whose run obeys it.
pub shows_schedules : (trace : Trace) → IsLawful trace → ShowsSchedules trace
shows_schedules trace lawful choices h = is_shown trace lawful choices h (obeyed (scheduled trace choices) (scheduled_lawful trace lawful choices h))

-- ---- by subject

module _ (trace : Trace) (lawful : IsLawful trace) where
  pub accounted : AreAccounted trace
  accounted = record { cleaned = cleaned trace lawful; unfailing = unfailing trace lawful; found_were_dirtied = found_were_dirtied trace lawful; left = left trace lawful }

  pub within : StaysWithin trace
  within = record {
    counted = counted trace lawful;
    bound = prints_bound trace lawful;
    peaks = peaks_printed trace lawful;
    bounded = bounded trace lawful;
    bounded_closer = bounded_closer trace lawful;
    strict = stays_strict trace lawful;
  }

  pub points_are : HasPoints trace (journal_of trace)
  points_are = record {
    legal = is_legal trace lawful;
    parts = parts trace lawful;
    writes = writes_in_order trace lawful;
    left_pages = left_pages trace lawful;
    ledger = ledger_even trace lawful;
    flights = flights trace lawful;
    own_waits = own_waits trace lawful;
    left_bounded = left_bounded trace lawful;
    ages = ages trace lawful;
  }

  pub ends_itself : EndsByItself trace
  ends_itself = record { ended = ended trace lawful; ends = ends_so trace lawful; complete = complete trace lawful }

  pub in_order : GoesInOrder trace
  in_order = record {
    clock = clock_right trace lawful;
    obeyed = obeyed trace lawful;
    fair = fair trace lawful;
    turns = turns trace lawful;
    schedules = shows_schedules trace lawful;
  }
