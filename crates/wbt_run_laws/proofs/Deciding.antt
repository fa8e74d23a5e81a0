-- Checks stand where they are due, and decide by an estimate of the journal.
use Rattle.std.proofs.Common.{◌≡◌, ℕ, ◌<◌, true, Some, Option, List, [], ◌∷◌, sym, subst}
use Rattle.std.proofs.lemmas.Bool.{ltb-true}
use Rattle.wbt_run_laws.proofs.Common.{Estimate, Trace, Each, effect, estimates_of, Item, begins, tells, parts_of, all_told, contexts, Event, item, Side, first_side, is_own_task, side_after, Told, Along, CheckEntry, Journal, IsOwn, IsOwnCheck, items_told, part_at, Run, Worked}
use Rattle.wbt_rules.specs.First.{first_estimate}
use Rattle.wbt_journal.specs.Checks.{named_estimate, nth_estimate, DecidesBy, NoneDue}
use Rattle.wbt_journal.specs.Estimates.{opened_at, NamesEstimate, ChecksNameEstimates}
use Rattle.wbt_journal.specs.Lawful.{item_of_event, items_among, DecidesEvent, HasChecks}
use Rattle.wbt_journal.specs.Side.{ends}
use Rattle.wbt_run_laws.specs.Laws.{WorkedChecksAreRight, WorkedNamesAreOfEstimates}
use Rattle.wbt_run_laws.specs.Noted.{DecidesByRead, DecidesAlong}
use Rattle.wbt_run_laws.proofs.Counting.{in_parts, own_part}
use Rattle.wbt_run_laws.proofs.Effects.{if_both, if_weaker}
use Rattle.wbt_run_laws.proofs.Estimating.{read_is_told, nth_within}
use Rattle.wbt_run_laws.proofs.Lists.{each_map, each_unmap, each_flat, each_into}
use Rattle.wbt_run_laws.proofs.Parts.{each_cpu, each_item}
use Rattle.wbt_run_laws.proofs.Timing.{opened_is}
use Rattle.wbt_run_laws.proofs.Walking.{along_each}

-- a walk whose items have something besides
along_with : {S A : Type 0} (P R : S → A → Type 0) (Q : A → Type 0) (next : S → A → S) → ((s : S) (a : A) → P s a → Q a → R s a) → (s : S) (xs : List A) → Along P next s xs → Each Q xs → Along R next s xs
along_with P R Q next h s [] along each = tt
along_with P R Q next h s (x ∷ xs) along each = (h s x along.0 each.0, along_with P R Q next h (next s x) xs along.1 each.1)

-- what is the CPU's own
abbrev IsOwnItem : (trace : Trace) (cpu : ℕ) (i : Item) → Type 0
IsOwnItem trace cpu (begins of) = ⊥
IsOwnItem trace cpu (tells of e) = IsOwn trace cpu e

own_events : (trace : Trace) (cpu : ℕ) (events : List Event) (part : List Told) → items_among events ≡ items_told cpu part → Each (IsOwn trace cpu) part → Each (λ (event : Event). Each (IsOwnItem trace cpu) (item_of_event event)) events
own_events trace cpu events part are own = each_flat (IsOwnItem trace cpu) item_of_event events (subst (Each (IsOwnItem trace cpu)) (sym are) (each_map (IsOwnItem trace cpu) (tells cpu) part own))

module _ (trace : Trace) (j : Journal) (r : Run) (w : Worked trace j r) (c : ℕ) (there : c < trace.cpus) where
  abbrev all : List Told
  all = all_told j

  -- the estimate that a check names is the one by which it decides
  names_it : (s : Side) (check : CheckEntry) → check.context < contexts trace → (by : DecidesByRead trace r.opened ((r.notes c).estimates check.context) s check)
      → named_estimate trace r.opened all check ≡ Some by.estimate
  names_it s check low by = subst (λ (n : ℕ). nth_estimate n (first_estimate trace check.context r.opened ∷ estimates_of check.context all) ≡ Some by.estimate) by.named
      (read_is_told trace j r w c check.context there low by.estimate by.first by.was_read)

  decides : (s : Side) (event : Event) → DecidesAlong trace r.opened (r.notes c).estimates s event → Each (IsOwnItem trace c) (item_of_event event) → DecidesEvent trace r.opened all s event
  decides s (ends task) by own = tt
  decides s (item (begins cpu)) by own = absurd own.0
  decides s (item (tells cpu e)) by own =
      let ByRead = λ (check : CheckEntry). DecidesByRead trace r.opened ((r.notes c).estimates check.context) s check in
      if_weaker (λ (check : CheckEntry). ByRead check × IsOwnCheck trace c check) (λ (check : CheckEntry). is_own_task trace cpu check.task ≡ true → DecidesBy trace s check (named_estimate trace r.opened all check))
      (λ check both is_own. subst (λ (which : Option Estimate). DecidesBy trace s check which)
      (sym (names_it s check (ltb-true check.context (contexts trace) both.1.context) both.0)) (record { in_range = both.0.in_range; asked = both.0.decision }))
      (effect e).check (if_both ByRead (IsOwnCheck trace c) (effect e).check by own.0.check)

  has_checks : HasChecks trace r.opened all j.ending c (part_at j c)
  has_checks =
      let noted = w.since c there in
      let events : List Event = noted.since.side.events in (
        events,
        record {
          are = noted.since.side.are;
          decide = along_with (DecidesAlong trace r.opened (r.notes c).estimates) (DecidesEvent trace r.opened all) (λ (event : Event). Each (IsOwnItem trace c) (item_of_event event)) (side_after trace r.opened)
              decides (first_side trace) events noted.decided (own_events trace c events (part_at j c) noted.since.side.are (own_part trace j r w c there));
          stand = noted.since.side.walked.allowed;
          none_missing = subst (NoneDue j.ending) (sym noted.since.side.walked.reached) (w.none_due c there);
        },
      )

  -- ---- names

  abbrev Names : (event : Event) → Type 0
  Names event = Each (λ (i : Item). IsOwnItem trace c i → ChecksNameEstimates trace all i) (item_of_event event)

  names : (s : Side) (event : Event) → DecidesAlong trace r.opened (r.notes c).estimates s event → Names event
  names s (ends task) by = tt
  names s (item (begins cpu)) by = (λ own. tt, tt)
  names s (item (tells cpu e)) by =
      let ByRead = λ (check : CheckEntry). DecidesByRead trace r.opened ((r.notes c).estimates check.context) s check in (
        λ own. if_weaker (λ (check : CheckEntry). ByRead check × IsOwnCheck trace c check) (NamesEstimate trace all)
            (λ check both. record {
              named = both.1.context;
              within = nth_within check.estimate (first_estimate trace check.context r.opened) (estimates_of check.context all) both.0.estimate (names_it s check (ltb-true check.context (contexts trace) both.1.context) both.0);
            })
            (effect e).check (if_both ByRead (IsOwnCheck trace c) (effect e).check by own.check),
        tt,
      )

  part_names : Each (λ (e : Told). ChecksNameEstimates trace all (tells c e)) (part_at j c)
  part_names =
      let noted = w.since c there in
      let events : List Event = noted.since.side.events in
      let P = λ (i : Item). IsOwnItem trace c i → ChecksNameEstimates trace all i in
      let each = each_into P item_of_event events (along_each (DecidesAlong trace r.opened (r.notes c).estimates) Names (side_after trace r.opened) names (first_side trace) events noted.decided) in
      let told = each_unmap P (tells c) (part_at j c) (subst (Each P) noted.since.side.are each) in
      with_own (part_at j c) told (own_part trace j r w c there)
    where
      with_own : (es : List Told) → Each (λ (e : Told). IsOwn trace c e → ChecksNameEstimates trace all (tells c e)) es → Each (IsOwn trace c) es → Each (λ (e : Told). ChecksNameEstimates trace all (tells c e)) es
      with_own [] each own = tt
      with_own (e ∷ es) each own = (each.0 own.0, with_own es each.1 own.1)

pub checks_right : WorkedChecksAreRight
checks_right trace j r w = each_cpu (HasChecks trace (opened_at j.timer) (all_told j) j.ending) (parts_of j)
    (λ c less. subst (λ (n : ℕ). HasChecks trace n (all_told j) j.ending c (part_at j c)) (sym (opened_is trace j r w)) (has_checks trace j r w c (in_parts trace j r w c less)))

pub names_of_estimates : WorkedNamesAreOfEstimates
names_of_estimates trace j r w = each_item (ChecksNameEstimates trace (all_told j)) (λ c. tt) 0 (parts_of j)
    (each_cpu (λ c part. Each (λ (e : Told). ChecksNameEstimates trace (all_told j) (tells c e)) part) (parts_of j) (λ c less. part_names trace j r w c (in_parts trace j r w c less)))
