-- What single calls did that read neither shares nor estimates: they told writes and folds, or nothing.
use Rattle.std.proofs.Common.{◌≡◌, ℕ, List, [], ◌∷◌, None, Contains, refl, sym, ap, subst, arith}
use Rattle.std.proofs.lemmas.List.Sums.{sum_by-cons}
use Rattle.wbt_writer.proofs.Common.{Estimate, reads_of, Each, tells, Side, side_after, Told, CheckEntry, known_of, setting, Trace, Grew, Logged, Notes, SharesGrew, EstimatesGrew, IsOwn, SideWalked, Wrote, each_map, longer_none, side_of, written_of, Sight, no_fractions, notes_of, record_in, Does, IsTimed, Keeps}
use Rattle.wbt_kit.proofs.Common.{Note, effect, added_to, Known, first_estimates, Layout}
use Rattle.wbt_fraction.specs.Several as fraction
use Rattle.std.specs.Prelude.{get_or, slice_index_or}
use Rattle.wbt_journal.specs.Reads.{added_by, PeriodsGoOn, periods_after}
use Rattle.wbt_journal.specs.Side.{Event}
use Rattle.wbt_published.specs.Passes as est
use Rattle.wbt_run_steps.specs.Records.{firsts_of}
use Rattle.wbt_run_laws.specs.Elsewhere.{IsPlain}
use Rattle.wbt_run_laws.specs.Noted.{DecidesAlong}
use Rattle.wbt_run_laws.specs.Notes.{IsKept, TellsKept, KeepsPeriods}
use Rattle.wbt_run_laws.specs.Owns.{IsOfWriters}
use Rattle.wbt_run_laws.specs.Walks.{items_told}
use Rattle.wbt_run_laws.proofs.Effects.{if_none, part_none}
use Rattle.wbt_run_laws.proofs.Entering.{periods_silent}
use Rattle.wbt_run_laws.proofs.Holding.{others_tell_none}
use Rattle.wbt_run_laws.proofs.Lists.{each_weaker}
use Rattle.wbt_run_laws.proofs.Moving.{plain_estimates}
use Rattle.wbt_run_laws.proofs.Walking.{IsSilent, walks_silent, along_any}
use Rattle.wbt_writer.specs.Desk.{fraction_in}
use Rattle.wbt_writer.specs.declared.work.Fractions.{Fractions}

-- entries of writers that are no checks
pub record IsQuietEntry (e : Told) : Type 0 where
  pub of_writers : IsOfWriters e
  pub no_check : (effect e).check ≡ None

is_plain : (e : Told) → IsQuietEntry e → IsPlain e
is_plain e q = record { no_check = q.no_check; no_estimate = q.of_writers.no_estimate }

is_timed : (told : List ℕ) (e : Told) → IsQuietEntry e → IsTimed told e
is_timed told e q = if_none (λ (check : CheckEntry). Contains told check.now) (effect e).check q.no_check

tells_kept : (shares : ℕ → List Note) (e : Told) → IsQuietEntry e → TellsKept shares e
tells_kept shares e q = if_none (λ (check : CheckEntry). Each (λ read. IsKept (shares read.domain) check.context read.share) (reads_of check)) (effect e).check q.no_check

adds_none : (domain context : ℕ) (added : List Told) → Each IsQuietEntry added → added_to domain context added ≡ 0
adds_none domain context [] quiet = refl
adds_none domain context (e ∷ more) quiet =
    let first : added_by domain context e ≡ 0 = part_none 0 _ (effect e).share quiet.0.of_writers.no_share in
    let rest = adds_none domain context more quiet.1 in
    let sum = sum_by-cons (added_by domain context) e more in omega arith

-- ---- notes stay

abbrev pub notes_with : (trace : Trace) (fractions : List Fractions) (parts : fraction.Seats) (pass : est.Seats) → Notes
notes_with trace fractions parts pass = record {
  shares = λ domain. (slice_index_or parts.domains domain fraction.no_seat).notes;
  kept = λ domain context. fraction_in trace domain context (get_or fractions context no_fractions);
  estimates = λ context. known_of context pass;
}

shares_stay : (cpu : ℕ) (added : List Told) (notes : Notes) → Each IsQuietEntry added → SharesGrew cpu added notes notes
shares_stay cpu added notes quiet = record {
  longer = λ domain. longer_none (notes.shares domain);
  adds = λ domain context. let none = adds_none domain context added quiet in omega arith;
  begins_none = λ domain. refl;
  kept = λ kept. kept;
  fractions = λ kept. each_weaker IsQuietEntry (TellsKept notes.shares) (tells_kept notes.shares) added quiet;
  periods = walks_silent KeepsPeriods PeriodsGoOn periods_after notes.kept notes.kept (items_told cpu added)
      (each_map (IsSilent PeriodsGoOn periods_after) (tells cpu) added (each_weaker IsQuietEntry (λ (e : Told). IsSilent PeriodsGoOn periods_after (tells cpu e)) (λ e q. periods_silent cpu e q.no_check) added quiet))
      (λ s keeps. keeps);
}

estimates_stay : (firsts : List Estimate) (cpu : ℕ) (added : List Told) (notes : Notes) → Each IsQuietEntry added → EstimatesGrew firsts cpu added notes notes
estimates_stay firsts cpu added notes quiet = plain_estimates firsts cpu added notes notes (each_weaker IsQuietEntry IsPlain is_plain added quiet) (λ context. refl)

-- ---- one call

-- events without a check decide nothing
abbrev pub IsQuietEvent : (event : Event) → Type 0
IsQuietEvent event = (trace : Trace) (opened : ℕ) (known : ℕ → Known) (s : Side) → DecidesAlong trace opened known s event

pub record Act (trace : Trace) (opened cpu : ℕ) (added : List Told) (old new : Sight) : Type 0 where
  pub quiet : Each IsQuietEntry added
  pub logged : Logged added old.log new.log
  pub grew : Grew added (record_in cpu old.seats) (record_in cpu new.seats)
  pub side : SideWalked trace opened cpu (side_of old.work.tasks) added (side_of new.work.tasks)
  pub events_quiet : Each IsQuietEvent side.events
  pub wrote : Wrote trace cpu (written_of old.work.tasks) added (written_of new.work.tasks)
  pub own : Each (IsOwn trace cpu) added
  pub share : new.seats.share ≡ old.seats.share
  pub est : new.seats.est ≡ old.seats.est
  pub fractions : new.work.fractions.items ≡ old.work.fractions.items
  pub keeps : Keeps cpu old.seats new.seats

module _ (trace : Trace) (opened cpu : ℕ) (added : List Told) (old new : Sight) (act : Act trace opened cpu added old new) where
  notes_stay : notes_of trace new ≡ notes_of trace old
  notes_stay = ap (λ (z : List Fractions × fraction.Seats × est.Seats). notes_with trace z.0 z.1 z.2) (λ i. (act.fractions i, act.share i, act.est i))

  pub does_act : Does trace opened cpu added old new
  does_act told = record {
    logged = act.logged;
    turn = λ flushers. record {
      turn = record {
        grew = act.grew;
        held = others_tell_none (firsts_of old.seats) added (record_in cpu old.seats).triples (record_in cpu new.seats).triples
            (each_weaker IsQuietEntry (λ (e : Told). (effect e).check ≡ None) (λ e q. q.no_check) added act.quiet) act.grew.triples;
        firsts_stay = ap (λ (l : Layout). (setting l).firsts) act.keeps.apart.layout;
        side = act.side;
        wrote = act.wrote;
        own = act.own;
        of_writers = each_weaker IsQuietEntry IsOfWriters (λ e q. q.of_writers) added act.quiet;
        flushers_stay = λ flusher. refl;
      };
      shares = subst (λ (n : Notes). SharesGrew cpu added (notes_of trace old) n) (sym notes_stay) (shares_stay cpu added (notes_of trace old) act.quiet);
      estimates = subst (λ (n : Notes). EstimatesGrew (first_estimates trace opened) cpu added (notes_of trace old) n) (sym notes_stay) (estimates_stay (first_estimates trace opened) cpu added (notes_of trace old) act.quiet);
      decided = along_any (DecidesAlong trace opened (notes_of trace new).estimates) (side_after trace opened) (side_of old.work.tasks) act.side.events
          (each_weaker IsQuietEvent (λ (event : Event). (s : Side) → DecidesAlong trace opened (notes_of trace new).estimates s event) (λ event quiet s. quiet trace opened (notes_of trace new).estimates s) act.side.events act.events_quiet);
    };
    moments = each_weaker IsQuietEntry (IsTimed told) (is_timed told) added act.quiet;
    keeps = act.keeps;
  }
