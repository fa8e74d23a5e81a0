-- Turns with their notes and decisions, one after another.
use Rattle.std.proofs.Common.{ℕ, List, [], ◌++◌, Contains, inl, inr, ⊎_elim, sym, refl, ap, ◌∙◌, subst, arith, append_assoc, append-nil}
use Rattle.std.proofs.lemmas.List.Sums.{sum_by-append}
use Rattle.wbt_run_laws.proofs.Common.{Estimate, Fraction, Note, first_in, Known, first_estimates, Trace, reads_of, Each, effect, Follows, NamesGoOn, names_after, estimates_of, begins, tells, PeriodsGoOn, periods_after, Event, item, Side, side_after, Told, Along, CheckEntry, DomainLine, along_more, Longer, IsKept, TellsKept, KeepsPeriods, SharesGrew, newer, IsNewest, HasNamed, IsTold, EstimatesGrew}
use Rattle.wbt_journal.specs.Estimates.{estimate_in}
use Rattle.wbt_journal.specs.Reads.{added_by}
use Rattle.wbt_journal.specs.Side.{ends}
use Rattle.wbt_run_laws.specs.Noted.{DecidesByRead, DecidesAlong, NotedWriterTurnIsSince, NotedFlusherTurnIsSince, NotedNow, NotedMore}
use Rattle.wbt_run_laws.specs.Notes.{Notes, WasRead}
use Rattle.wbt_run_laws.specs.Owns.{IsOfFlusher}
use Rattle.wbt_run_laws.proofs.Effects.{if_none, if_weaker}
use Rattle.wbt_run_laws.proofs.Lists.{each_append, each_weaker, each_map, longer_none, longer_more, longer_has, flat_append}
use Rattle.wbt_run_laws.proofs.Turning.{as_events, turn_of_writers, turn_of_flusher, since_now, since_more}
use Rattle.wbt_run_laws.proofs.Walking.{along_weaker, along_any, walks_none, walks_more, told_more}

-- ---- shares

pub kept_longer : (old new : List Note) (context : ℕ) (fraction : Fraction) → Longer old new → IsKept old context fraction → IsKept new context fraction
kept_longer old new context fraction longer kept = ⊎_elim (λ none. inl none) (λ read. inr (still old new context fraction longer read)) kept
  where
    still : (old new : List Note) (context : ℕ) (fraction : Fraction) → Longer old new → WasRead old context fraction → WasRead new context fraction
    still old new context fraction longer read = record {
      part = read.part;
      whole = read.whole;
      found_part = longer_has old new longer _ read.found_part;
      found_whole = longer_has old new longer _ read.found_whole;
      behind = read.behind;
      value = read.value;
    }

-- the fractions of a check
abbrev pub AreReadsKept : (shares : ℕ → List Note) (check : CheckEntry) → Type 0
AreReadsKept shares check = Each (λ (read : DomainLine). IsKept (shares read.domain) check.context read.share) (reads_of check)

tells_longer : (old new : ℕ → List Note) → ((domain : ℕ) → Longer (old domain) (new domain)) → (e : Told) → TellsKept old e → TellsKept new e
tells_longer old new longer e = if_weaker (AreReadsKept old) (AreReadsKept new)
    (λ check. each_weaker (λ (read : DomainLine). IsKept (old read.domain) check.context read.share) (λ (read : DomainLine). IsKept (new read.domain) check.context read.share)
    (λ read kept. kept_longer (old read.domain) (new read.domain) check.context read.share (longer read.domain) kept) (reads_of check)) (effect e).check

shares_none : (cpu : ℕ) (notes : Notes) → SharesGrew cpu [] notes notes
shares_none cpu notes = record {
  longer = λ domain. longer_none (notes.shares domain);
  adds = λ domain context. omega arith;
  begins_none = λ domain. refl;
  kept = λ kept. kept;
  fractions = λ kept. tt;
  periods = walks_none KeepsPeriods PeriodsGoOn periods_after notes.kept;
}

shares_more : (cpu : ℕ) (a b : List Told) (old mid new : Notes) → SharesGrew cpu a old mid → SharesGrew cpu b mid new → SharesGrew cpu (a ++ b) old new
shares_more cpu a b old mid new p q = record {
  longer = λ domain. longer_more (old.shares domain) (mid.shares domain) (new.shares domain) (p.longer domain) (q.longer domain);
  adds = λ domain context. let both = sum_by-append (added_by domain context) a b in let first = p.adds domain context in let second = q.adds domain context in omega arith;
  begins_none = λ domain. q.begins_none domain ∙ p.begins_none domain;
  kept = λ kept. q.kept (p.kept kept);
  fractions = λ kept. each_append (TellsKept new.shares) a b
      (each_weaker (TellsKept mid.shares) (TellsKept new.shares) (tells_longer mid.shares new.shares q.longer) a (p.fractions kept)) (q.fractions (p.kept kept));
  periods = told_more KeepsPeriods PeriodsGoOn periods_after cpu old.kept mid.kept new.kept a b p.periods q.periods;
}

-- ---- estimates

pub told_none : (first : Estimate) (known : Known) → IsTold first [] known known
told_none first known = record {
  right = refl;
  published = λ is. sym (append-nil known.all);
  silent = λ is. refl;
  follow = walks_none (IsNewest first) Follows newer known;
  reads = λ note has. has;
}

told_both : (first : Estimate) (a b : List Estimate) (old mid new : Known) → IsTold first a old mid → IsTold first b mid new → IsTold first (a ++ b) old new
told_both first a b old mid new p q = record {
  right = q.right ∙ p.right;
  published = λ is. q.published (p.right ∙ is) ∙ ap (λ (l : List Estimate). l ++ b) (p.published is) ∙ append_assoc old.all a b;
  silent = λ is. ap (λ (l : List Estimate). l ++ b) (p.silent is) ∙ q.silent (p.right ∙ is);
  follow = walks_more (IsNewest first) Follows newer old mid new a b p.follow q.follow;
  reads = λ note has. q.reads note (p.reads note has);
}

estimates_none : (firsts : List Estimate) (cpu : ℕ) (notes : Notes) → EstimatesGrew firsts cpu [] notes notes
estimates_none firsts cpu notes = record {
  each = λ context. told_none (first_in firsts context) (notes.estimates context);
  names = walks_none HasNamed NamesGoOn names_after notes.estimates;
}

estimates_more : (firsts : List Estimate) (cpu : ℕ) (a b : List Told) (old mid new : Notes) → EstimatesGrew firsts cpu a old mid → EstimatesGrew firsts cpu b mid new → EstimatesGrew firsts cpu (a ++ b) old new
estimates_more firsts cpu a b old mid new p q = record {
  each = λ context. subst (λ (l : List Estimate). IsTold (first_in firsts context) l (old.estimates context) (new.estimates context)) (sym (flat_append (estimate_in context) a b))
      (told_both (first_in firsts context) (estimates_of context a) (estimates_of context b) (old.estimates context) (mid.estimates context) (new.estimates context) (p.each context) (q.each context));
  names = told_more HasNamed NamesGoOn names_after cpu old.estimates mid.estimates new.estimates a b p.names q.names;
}

-- ---- decisions

-- what was read stays read
decides_longer : (trace : Trace) (opened : ℕ) (old new : ℕ → Known) → ((context : ℕ) (note : Estimate) → Contains (old context).reads note → Contains (new context).reads note)
    → (s : Side) (event : Event) → DecidesAlong trace opened old s event → DecidesAlong trace opened new s event
decides_longer trace opened old new more s (ends task) by = tt
decides_longer trace opened old new more s (item (begins cpu)) by = tt
decides_longer trace opened old new more s (item (tells cpu e)) by =
    if_weaker (λ (check : CheckEntry). DecidesByRead trace opened (old check.context) s check) (λ (check : CheckEntry). DecidesByRead trace opened (new check.context) s check)
    (λ check is. record {
      estimate = is.estimate;
      named = is.named;
      was_read = more check.context _ is.was_read;
      first = is.first;
      in_range = is.in_range;
      decision = is.decision;
    }) (effect e).check by

flusher_decides_none : (trace : Trace) (opened cpu flusher : ℕ) (known : ℕ → Known) (e : Told) → IsOfFlusher flusher e → (s : Side) → DecidesAlong trace opened known s (item (tells cpu e))
flusher_decides_none trace opened cpu flusher known e of s = if_none (λ (check : CheckEntry). DecidesByRead trace opened (known check.context) s check) (effect e).check of.no_check

-- ---- turns

pub noted_of_writers : NotedWriterTurnIsSince
noted_of_writers trace opened cpu added old new before behind noted = record {
  since = turn_of_writers trace opened cpu added old new noted.turn;
  shares = noted.shares;
  estimates = noted.estimates;
  decided = noted.decided;
}

pub noted_of_flusher : NotedFlusherTurnIsSince
noted_of_flusher trace opened cpu flusher added old new before behind noted = record {
  since = turn_of_flusher trace opened cpu flusher added old new noted.turn;
  shares = noted.shares;
  estimates = noted.estimates;
  decided = along_any (DecidesAlong trace opened behind.estimates) (side_after trace opened) old.side (as_events cpu added)
      (each_map (λ (event : Event). (s : Side) → DecidesAlong trace opened behind.estimates s event) (λ (e : Told). item (tells cpu e)) added
      (each_weaker (IsOfFlusher flusher) (λ (e : Told). (s : Side) → DecidesAlong trace opened behind.estimates s (item (tells cpu e)))
      (flusher_decides_none trace opened cpu flusher behind.estimates) added noted.turn.of_flusher));
}

pub noted_now : NotedNow
noted_now trace opened cpu shown notes = record {
  since = since_now trace opened cpu shown;
  shares = shares_none cpu notes;
  estimates = estimates_none (first_estimates trace opened) cpu notes;
  decided = tt;
}

pub noted_more : NotedMore
noted_more trace opened cpu a b old mid new before between behind p q =
    let P = DecidesAlong trace opened behind.estimates in
    let next = side_after trace opened in
    record {
      since = since_more trace opened cpu a b old mid new p.since q.since;
      shares = shares_more cpu a b before between behind p.shares q.shares;
      estimates = estimates_more (first_estimates trace opened) cpu a b before between behind p.estimates q.estimates;
      decided = along_more P next old.side p.since.side.events q.since.side.events
          (along_weaker (DecidesAlong trace opened between.estimates) P next
          (decides_longer trace opened between.estimates behind.estimates (λ context. (q.estimates.each context).reads)) old.side p.since.side.events p.decided)
          (subst (λ (s : Side). Along P next s q.since.side.events) (sym p.since.side.walked.reached) q.decided);
    }
