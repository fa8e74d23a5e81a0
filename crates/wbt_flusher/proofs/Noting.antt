-- What calls did, one after another, and how what they noted is told.
use Rattle.std.proofs.Common.{◌≡◌, ℕ, suc, ◌+◌, ◌≤◌, List, ◌++◌, Option, Some, None, inl, inr, ⊎_elim, sym, refl, ◌∙◌, subst, arith}
use Rattle.std.proofs.lemmas.List.Sums.{sum_by-append}
use Rattle.std.specs.Prelude.{sum_by}
use Rattle.wbt_flusher.proofs.Common.{begun, added_at, Note, Grows, Trace, Each, effect, added_to, Told, NotedFlusherTurn, Longer, SharesGrew, IsOfFlusher, items_told, Worker, IsSilent, walks_silent, Kit, Moments, IsTimed, handed, Did, Sight, shown_of, notes_of}
use Rattle.wbt_kit.proofs.Common.{Fraction, reads_of, tells, CheckEntry}
use Rattle.wbt_fraction.specs.Sums.{total as weigh}
use Rattle.wbt_journal.specs.Reads.{PeriodsGoOn, periods_after}
use Rattle.wbt_run_laws.specs.Notes.{Notes, IsKept, TellsKept, KeepsPeriods}
use Rattle.wbt_run_laws.proofs.Effects.{if_none}
use Rattle.wbt_run_laws.proofs.Entering.{periods_silent}
use Rattle.wbt_run_laws.proofs.Lists.{each_append, each_weaker, each_map}
use Rattle.wbt_run_laws.proofs.Logging.{logged_both}
use Rattle.wbt_run_laws.proofs.Noting.{kept_longer, noted_of_flusher, noted_more}
use Rattle.wbt_run_steps.proofs.Changing.{apart_more}
use Rattle.wbt_flusher.specs.declared.plan.FlusherPlan.{FlusherPlan}

-- ---- what flushers' entries never tell

keeps_none : (flusher : ℕ) (shares : ℕ → List Note) (e : Told) → IsOfFlusher flusher e → TellsKept shares e
keeps_none flusher shares e of = if_none (λ (check : CheckEntry). Each (λ read. IsKept (shares read.domain) check.context read.share) (reads_of check)) (effect e).check of.no_check

-- entries of a flusher, with what their calls noted of shares
pub shares_by : (flusher cpu : ℕ) (added : List Told) (old new : Notes) → Each (IsOfFlusher flusher) added → ((domain context : ℕ) → new.kept domain context ≡ old.kept domain context)
    → ((domain : ℕ) → Longer (old.shares domain) (new.shares domain))
    → ((domain context : ℕ) → weigh (added_at (suc context)) (new.shares domain) ≡ weigh (added_at (suc context)) (old.shares domain) + added_to domain context added)
    → ((domain : ℕ) → begun (new.shares domain) ≡ begun (old.shares domain)) → SharesGrew cpu added old new
shares_by flusher cpu added old new of same longer adds begins = record {
  longer = longer;
  adds = adds;
  begins_none = begins;
  kept = λ kept domain context. subst (λ (f : Fraction). IsKept (new.shares domain) context f) (sym (same domain context)) (kept_longer (old.shares domain) (new.shares domain) context (old.kept domain context) (longer domain) (kept domain context));
  fractions = λ kept. each_weaker (IsOfFlusher flusher) (TellsKept new.shares) (keeps_none flusher new.shares) added of;
  periods = walks_silent KeepsPeriods PeriodsGoOn periods_after old.kept new.kept (items_told cpu added)
      (each_map (IsSilent PeriodsGoOn periods_after) (tells cpu) added (each_weaker (IsOfFlusher flusher) (λ (e : Told). IsSilent PeriodsGoOn periods_after (tells cpu e)) (λ e of. periods_silent cpu e of.no_check) added of))
      (λ s keeps domain context period low. keeps domain context period (subst (λ (f : Fraction). f.period ≤ period) (same domain context) low));
}

-- ---- one after another

pub grows_none : (written : Option ℕ) → Grows (Some 0) written written
grows_none None = tt
grows_none (Some n) = (0, n, refl, refl, omega arith)

pub grows_more : (a b : ℕ) (x y z : Option ℕ) → Grows (Some a) x y → Grows (Some b) y z → Grows (Some (a + b)) x z
grows_more a b x y None p q = tt
grows_more a b x None (Some t) p (m, e, is, was, sum) = absurd cc
grows_more a b x (Some u) (Some t) (k, d, is', was', sum') (m, e, is, was, sum) =
    (a + b, d, refl, was', (let one : k ≡ a = cc in let two : m ≡ b = cc in let at : u ≡ e = cc in omega arith))

module _ (plan : FlusherPlan) (kit : Kit) (told : Moments) where
  turn_more : (trace : Trace) (base : Worker) (old mid new : Sight) (a b : List Told)
      → NotedFlusherTurn trace kit.published.moment plan.cpu plan.flusher a (shown_of plan base old) (shown_of plan base mid) (notes_of base old) (notes_of base mid)
      → NotedFlusherTurn trace kit.published.moment plan.cpu plan.flusher b (shown_of plan base mid) (shown_of plan base new) (notes_of base mid) (notes_of base new)
      → NotedFlusherTurn trace kit.published.moment plan.cpu plan.flusher (a ++ b) (shown_of plan base old) (shown_of plan base new) (notes_of base old) (notes_of base new)
  turn_more trace base old mid new a b p q =
      let opened = kit.published.moment in
      let first = noted_of_flusher trace opened plan.cpu plan.flusher a (shown_of plan base old) (shown_of plan base mid) (notes_of base old) (notes_of base mid) p in
      let second = noted_of_flusher trace opened plan.cpu plan.flusher b (shown_of plan base mid) (shown_of plan base new) (notes_of base mid) (notes_of base new) q in
      let both = noted_more trace opened plan.cpu a b (shown_of plan base old) (shown_of plan base mid) (shown_of plan base new) (notes_of base old) (notes_of base mid) (notes_of base new) first second in
      record {
        turn = record {
          grew = both.since.grew;
          flew = both.since.flew plan.flusher;
          waited = both.since.waited plan.flusher;
          own = both.since.own;
          of_flusher = each_append (IsOfFlusher plan.flusher) a b p.turn.of_flusher q.turn.of_flusher;
          firsts_stay = q.turn.firsts_stay ∙ p.turn.firsts_stay;
          others_stay = λ g other. q.turn.others_stay g other ∙ p.turn.others_stay g other;
          side_stays = q.turn.side_stays ∙ p.turn.side_stays;
          written_stays = λ task. q.turn.written_stays task ∙ p.turn.written_stays task;
        };
        shares = both.shares;
        estimates = both.estimates;
      }

  pub did_more : (old mid new : Sight) → Did plan kit told old mid → Did plan kit told mid new → Did plan kit told old new
  did_more old mid new p q = record {
    added = p.added ++ q.added;
    logged = logged_both p.added q.added old.log mid.log new.log p.logged q.logged;
    turn = λ trace is base. turn_more trace base old mid new p.added q.added (p.turn trace is base) (q.turn trace is base);
    moments = each_append (IsTimed told) p.added q.added p.moments q.moments;
    pages = subst (λ (n : ℕ). Grows (Some n) old.written new.written) (sym (sum_by-append handed p.added q.added))
        (grows_more (sum_by handed p.added) (sum_by handed q.added) old.written mid.written new.written p.pages q.pages);
    apart = apart_more plan.cpu old.seats.cpu mid.seats.cpu new.seats.cpu p.apart q.apart;
    writers = q.writers ∙ p.writers;
    held = λ page. let first = p.held page in let second = q.held page in omega arith;
    rescans = λ page owes. ⊎_elim (λ own. inl own)
        (λ before. ⊎_elim (λ own. absurd (before.1 own)) (λ first. inr first) (p.rescans page before.0)) (q.rescans page owes);
    marks = λ inode owes. ⊎_elim (λ own. inl own)
        (λ before. ⊎_elim (λ own. absurd (before.1 own)) (λ first. inr first) (p.marks inode before.0)) (q.marks inode owes);
    rooms = λ domain is. let first = p.rooms domain is in let second = q.rooms domain is in omega arith;
    totals = λ context is. let first = p.totals context is in let second = q.totals context is in omega arith;
    stakes = λ domain. q.stakes domain ∙ p.stakes domain;
    total_stakes = q.total_stakes ∙ p.total_stakes;
  }
