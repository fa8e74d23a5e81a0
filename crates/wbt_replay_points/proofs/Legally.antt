-- The journal of a run that is in range, follows the step relation and ends is legal, and lawful where the run isn't spent.
use Rattle.std.proofs.Common.{◌≡◌, ℕ}
use Rattle.wbt_replay_order.proofs.Common.{IsLawful, Trace, HasEnded, AreCleaned, CompletesAll, AreDecided, IsFollowed, IsWhole, state_at, journal_of, Sound}
use Rattle.wbt_journal.specs.Lawful as law
use Rattle.wbt_journal.specs.declared.journal.Ending.TheVariants as ending
use Rattle.wbt_replay_points.proofs.Claims.Together as claims
use Rattle.wbt_replay_points.proofs.Lawful.Journal as points

module _ (trace : Trace) (lawful : IsLawful trace) (sound : (moves : ℕ) → Sound trace (state_at trace moves)) (followed : IsFollowed trace) (ended : HasEnded trace) where
  decided : AreDecided trace
  decided = claims.decided trace lawful sound followed

  whole : IsWhole (journal_of trace)
  whole = claims.whole trace lawful sound followed

  cleaned : AreCleaned trace
  cleaned = claims.cleaned trace lawful sound followed (points.never_fails trace lawful sound followed decided)

  pub is_legal : law.IsLegal trace (journal_of trace)
  is_legal = record {
    names = whole.named;
    folds = points.folds trace lawful sound followed decided;
    counts = claims.sums trace lawful sound followed;
    fresh = claims.fresh trace lawful sound followed;
    triples = points.triples trace lawful sound followed decided;
    triples_go_on = points.triples_stay trace lawful sound followed decided;
    fractions = points.fractions trace lawful sound followed decided;
    periods = points.periods trace lawful sound followed decided;
    estimates = points.estimates_up trace lawful sound followed decided;
    named = points.named trace lawful sound followed decided;
    names_go_on = points.names_stay trace lawful sound followed decided;
    checks = points.checks_right trace lawful sound followed decided ended;
    timer = points.timer trace lawful sound followed decided;
    opened = points.opened trace lawful sound followed decided;
    waits = points.waits trace lawful sound followed decided;
  }

  pub is_lawful : CompletesAll trace → ((journal_of trace).ending ≡ ending.Spent → ⊥) → law.IsLawful trace (journal_of trace)
  is_lawful complete unspent = record {
    legal = is_legal;
    parts = points.parts trace lawful sound followed decided;
    writes = points.writes trace lawful sound followed decided;
    left_pages = points.left_pages trace lawful sound followed decided;
    left = whole.left;
    ledger = points.even trace lawful sound followed decided cleaned (claims.left trace lawful sound followed);
    flights = points.flights trace lawful sound followed decided;
    own_waits = points.own_waits trace lawful sound followed decided;
    bounded = points.left_bounded trace lawful sound followed decided;
    ending = points.ending_right trace lawful sound followed decided complete unspent;
  }
