-- What calls did, one after another.
use Rattle.std.proofs.Common.{◌≡◌, ℕ, List, ◌++◌, refl, ◌∙◌}
use Rattle.wbt_writer.proofs.Common.{Told, Trace, Seats, Notes, Sight, notes_of, IsTimed, Did, Does, Keeps, apart_more}
use Rattle.wbt_run_laws.specs.Noted.{NotedWriterTurn, NotedSince}
use Rattle.wbt_run_laws.specs.Owns.{IsOfWriters}
use Rattle.wbt_run_laws.specs.Shown.{Shown}
use Rattle.wbt_run_laws.proofs.Lists.{each_append}
use Rattle.wbt_run_laws.proofs.Logging.{logged_both}
use Rattle.wbt_run_laws.proofs.Noting.{noted_of_writers, noted_more}
use Rattle.wbt_writer.specs.Desk.{shown_of}

pub keeps_more : (cpu : ℕ) (old mid new : Seats) → Keeps cpu old mid → Keeps cpu mid new → Keeps cpu old new
keeps_more cpu old mid new p q = record {
  apart = apart_more cpu old.cpu mid.cpu new.cpu p.apart q.apart;
  held = q.held ∙ p.held;
  rescans = λ page owes. p.rescans page (q.rescans page owes);
  stakes = λ d. q.stakes d ∙ p.stakes d;
  rooms = λ d. q.rooms d ∙ p.rooms d;
  totals = q.totals ∙ p.totals;
  queues = λ d. q.queues d ∙ p.queues d;
  few = λ low. q.few (p.few low);
}

module _ (trace : Trace) (opened cpu : ℕ) where
  turn_more : (a b : List Told) (old mid new : Shown) (before between behind : Notes) → ((flusher : ℕ) → new.flushers flusher ≡ old.flushers flusher)
      → NotedWriterTurn trace opened cpu a old mid before between → NotedWriterTurn trace opened cpu b mid new between behind
      → NotedWriterTurn trace opened cpu (a ++ b) old new before behind
  turn_more a b old mid new before between behind stays p q =
      let first : NotedSince trace opened cpu a old mid before between = noted_of_writers trace opened cpu a old mid before between p in
      let second : NotedSince trace opened cpu b mid new between behind = noted_of_writers trace opened cpu b mid new between behind q in
      let both : NotedSince trace opened cpu (a ++ b) old new before behind = noted_more trace opened cpu a b old mid new before between behind first second in
      record {
        turn = record {
          grew = both.since.grew;
          held = both.since.held;
          firsts_stay = both.since.firsts_stay;
          side = both.since.side;
          wrote = both.since.wrote;
          own = both.since.own;
          of_writers = each_append IsOfWriters a b p.turn.of_writers q.turn.of_writers;
          flushers_stay = stays;
        };
        shares = both.shares;
        estimates = both.estimates;
        decided = both.decided;
      }

  pub did_more : (told : List ℕ) (a b : List Told) (old mid new : Sight) → Did trace opened cpu told a old mid → Did trace opened cpu told b mid new → Did trace opened cpu told (a ++ b) old new
  did_more told a b old mid new p q = record {
    logged = logged_both a b old.log mid.log new.log p.logged q.logged;
    turn = λ flushers. turn_more a b (shown_of cpu flushers old) (shown_of cpu flushers mid) (shown_of cpu flushers new) (notes_of trace old) (notes_of trace mid) (notes_of trace new) (λ flusher. refl) (p.turn flushers) (q.turn flushers);
    moments = each_append (IsTimed told) a b p.moments q.moments;
    keeps = keeps_more cpu old.seats mid.seats new.seats p.keeps q.keeps;
  }

  pub does_more : (a b : List Told) (old mid new : Sight) → Does trace opened cpu a old mid → Does trace opened cpu b mid new → Does trace opened cpu (a ++ b) old new
  does_more a b old mid new p q told = did_more told a b old mid new (p told) (q told)
