-- The points of a lawful journal that hold of the journal of each lawful trace's run.
use Rattle.std.proofs.Common.{◌≡◌, ℕ, ◌<◌, true, length, Some, ◌∙◌, ap, arith}
use Rattle.std.proofs.lemmas.List.{length-map}
use Rattle.wbt_replay_order.proofs.Common.{IsLawful, Trace, has_page, WritesAreInOrder, LeftPagesAreThere, LedgerIsEven, FlushersAreInTurn, LeftIsBounded, WaitsAreOwn, page_context, pages, each_weaker, context_of, cpu_of, HasEnded, AreCleaned, CompletesAll, AreDecided, TellsLeft, IsFollowed, TellsNoFailure, NeverFails, most_moves, part_of, state_at, last_state, journal_of, Facts, IsPageOf, Sound, AgedWereDue}
use Rattle.wbt_journal.specs.Lawful.{ChecksAreRight, FoldsAreUp, TriplesAreOfTimer, TriplesStayNew, FractionsAreOfShares, PeriodsStayNew, EstimatesAreUp, NamesAreOfEstimates, NamesStayNew, TimerFollows, TimerHasOpened, EndingIsRight, WaitsAreInOrder}
use Rattle.wbt_journal.specs.declared.journal.Ending.TheVariants as ending
use Rattle.wbt_replay_order.proofs.Facts.Facts as facts
use Rattle.wbt_replay_order.proofs.Facts.Settings.{setting_is}
use Rattle.wbt_replay_points.proofs.Lawful.Bounded as bounded
use Rattle.wbt_replay_points.proofs.Lawful.Checked as checked
use Rattle.wbt_replay_points.proofs.Lawful.Estimated as estimated
use Rattle.wbt_replay_points.proofs.Lawful.Folds as folded
use Rattle.wbt_replay_points.proofs.Lawful.Ledger as ledger
use Rattle.wbt_replay_points.proofs.Lawful.Logged as logged
use Rattle.wbt_replay_points.proofs.Lawful.Logs.{IsTold}
use Rattle.wbt_replay_points.proofs.Lawful.Points as points
use Rattle.wbt_replay_points.proofs.Lawful.Same.{told_of}
use Rattle.wbt_replay_points.proofs.Lawful.Shared as shared
use Rattle.wbt_replay_points.proofs.Lawful.Timed as timed
use Rattle.wbt_replay_points.proofs.Lawful.Triples as printed
use Rattle.wbt_replay_order.proofs.Outset.Tasks.{works_fit}
use Rattle.wbt_replay_order.proofs.Written.End.{all_ended, ending_is, writes_fit}
use Rattle.wbt_replay_order.proofs.Written.Whole.{all_there}
use Rattle.wbt_replay_points.proofs.Lawful.Lists as listed

module _ (trace : Trace) (lawful : IsLawful trace) (sound : (moves : ℕ) → Sound trace (state_at trace moves)) (followed : IsFollowed trace) (decided : AreDecided trace) where
  its : Facts trace
  its = facts.facts trace lawful

  seats : length (last_state trace).cpus ≡ trace.cpus
  seats = (sound most_moves).holds.cpus.many

  -- a page of an inode is one that there is
  page_there : (inode page : ℕ) → IsPageOf trace inode page → has_page (page_context trace page) ≡ true
  page_there inode page of =
      let less : page < pages trace = (let end = its.inode_end inode of.there in omega (arith, end, of.before_end)) in
      ap has_page (ledger.page_context_is trace lawful page less)

  -- and it is of its inode's context
  page_of : (inode page : ℕ) → IsPageOf trace inode page → page_context trace page ≡ Some (context_of trace inode)
  page_of inode page of =
      let less : page < pages trace = (let end = its.inode_end inode of.there in omega (arith, end, of.before_end)) in
      ledger.page_context_is trace lawful page less ∙ ap (λ (n : ℕ). Some (context_of trace n)) (its.inode_is inode page of)

  all_logs : (moves : ℕ) → logged.HasLogs trace (state_at trace moves)
  all_logs moves = logged.logged_at trace its page_there sound moves

  logs : logged.HasLogs trace (last_state trace)
  logs = all_logs most_moves

  pub never_fails : NeverFails trace
  never_fails moves i =
      each_weaker (IsTold trace i) TellsNoFailure (λ e is. is.1) (told_of (cpu_of i (state_at trace moves))) ((all_logs moves).own i)

  shares : shared.HasShares trace (last_state trace)
  shares = shared.shared_at trace its sound most_moves

  estimates : estimated.HasEstimates trace (last_state trace)
  estimates = estimated.estimated_at trace its sound most_moves

  lists : listed.HasLists trace (last_state trace)
  lists = listed.waited_at trace its sound most_moves

  pub folds : FoldsAreUp trace (journal_of trace)
  folds = folded.folds_up trace its (setting_is trace lawful) followed decided (sound most_moves)

  pub triples : TriplesAreOfTimer (journal_of trace)
  triples = printed.triples_of_timer trace its (setting_is trace lawful) followed decided seats

  pub triples_stay : TriplesStayNew (journal_of trace)
  triples_stay = printed.triples_stay_new trace its (setting_is trace lawful) followed decided seats sound

  pub fractions : FractionsAreOfShares trace (journal_of trace)
  fractions = shared.fractions_right trace shares logs seats

  pub periods : PeriodsStayNew (journal_of trace)
  periods = shared.periods_new trace shares logs seats

  pub estimates_up : EstimatesAreUp trace (journal_of trace)
  estimates_up = estimated.estimates_up trace its estimates logs seats

  pub named : NamesAreOfEstimates trace (journal_of trace)
  named = estimated.named_right trace its estimates logs seats

  pub names_stay : NamesStayNew (journal_of trace)
  names_stay = estimated.names_new trace its estimates logs seats

  pub checks_right : HasEnded trace → ChecksAreRight trace (journal_of trace)
  checks_right ended =
      checked.checks_right trace its (checked.sides_at trace (works_fit trace lawful) its page_of sound most_moves) estimates logs seats
      (λ done task less. all_ended trace its sound ended (ending_is trace ∙ done) task less)

  pub timer : TimerFollows trace (journal_of trace)
  timer = timed.timer_follows trace its sound

  pub opened : TimerHasOpened trace (journal_of trace)
  opened = timed.timer_has_opened trace its sound

  pub parts : length (journal_of trace).cpus ≡ trace.cpus
  unfolding journal_of
  parts = length-map (last_state trace).cpus part_of ∙ seats

  pub writes : WritesAreInOrder trace (journal_of trace)
  writes = points.writes_in_order trace logs seats (λ task less. all_there trace (λ moves. writes_fit trace (state_at trace moves) (sound moves)) most_moves task less)

  pub left_pages : LeftPagesAreThere trace (journal_of trace)
  left_pages = ledger.left_there trace lawful (sound most_moves)

  pub even : AreCleaned trace → TellsLeft trace → LedgerIsEven trace (journal_of trace)
  even cleaned left = ledger.ledger_even trace seats cleaned never_fails left

  pub flights : FlushersAreInTurn trace (journal_of trace)
  flights = points.flushers_in_turn trace logs seats

  pub left_bounded : LeftIsBounded trace (journal_of trace)
  left_bounded = bounded.left_bounded trace lawful (setting_is trace lawful) followed (sound most_moves)

  pub ending_right : CompletesAll trace → ((journal_of trace).ending ≡ ending.Spent → ⊥) → EndingIsRight trace (journal_of trace)
  ending_right complete unspent =
      points.ending_right trace logs seats (λ task less. all_there trace (λ moves. writes_fit trace (state_at trace moves) (sound moves)) most_moves task less)
      its.task_cpu_is complete unspent

  pub waits : WaitsAreInOrder trace (journal_of trace)
  waits = listed.waits_in_order trace logs lists seats

  pub own_waits : WaitsAreOwn trace (journal_of trace)
  own_waits = listed.waits_own trace logs lists seats

  pub ages : AgedWereDue trace (journal_of trace)
  ages = listed.aged_due trace logs lists seats
