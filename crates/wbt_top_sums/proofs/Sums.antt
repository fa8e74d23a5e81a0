-- The sums of a lawful journal: what was completed was handed to disks, and where no page is left each dirtying was completed or absorbed.
use Rattle.std.proofs.Common.{◌≡◌, ℕ, zero, suc, ◌+◌, ◌<◌, ◌≤◌, inl, inr, Bool, true, false, cond, eqb, Option, Some, None, IfSome, List, [], ◌∷◌, ◌++◌, map, sum_by, count_by, flat_map, refl, sym, ◌∙◌, ap, subst, arith}
use Rattle.std.proofs.lemmas.Bool.{cases_eq}
use Rattle.std.proofs.lemmas.Bool.Decides.{nat_tests}
use Rattle.std.proofs.lemmas.List.Sums.{sum_by-cons, sum_by-append}
use Rattle.std.specs.List.{slice_get}
use Rattle.wbt_book.specs.declared.event.Event.{Event}
use Rattle.wbt_book.specs.declared.event.Event.TheVariants.{Dirty, Claim, Complete, Redirty, Absorb}
use Rattle.wbt_counter.specs.Sums.{total, one_if}
use Rattle.wbt_counter.proofs.Sums.{total_same, total_sum, total_nothing}
use Rattle.wbt_trace.specs.Lawful.{IsLawful}
use Rattle.wbt_trace.specs.declared.trace.Trace.{Trace}
use Rattle.wbt_journal.specs.Each.{Each}
use Rattle.wbt_journal.specs.Effects.{event_of, of_part}
use Rattle.wbt_journal.specs.Items.{all_told, parts_of}
use Rattle.wbt_journal.specs.Lawful.{IsLawful as IsLawfulFor}
use Rattle.wbt_journal.specs.Leaves.{absorbs, claims, completes, dirties, redirties, is_absorbing, is_claim as is_claim_of, is_completing, is_dirtying, is_redirtying as is_redirtying_of, IsEvenBelow}
use Rattle.wbt_journal.specs.Machine.{pages}
use Rattle.wbt_journal.specs.Flights.{first_flushers}
use Rattle.wbt_journal.specs.Text.{is_fresh, is_done, fresh_of, done_of}
use Rattle.wbt_journal.specs.Told.{Told, checked, estimated, told, told_entry, one_checked, one_estimated}
use Rattle.wbt_journal.specs.declared.entry.CheckEntry.{CheckEntry}
use Rattle.wbt_journal.specs.declared.entry.CpuJournal.{CpuJournal}
use Rattle.wbt_journal.specs.declared.entry.Entry.{Entry}
use Rattle.wbt_journal.specs.declared.entry.Entry.TheVariants as entry
use Rattle.wbt_journal.specs.declared.entry.EstEntry.{EstEntry}
use Rattle.wbt_journal.specs.declared.journal.Journal.{Journal}
use Rattle.wbt_journal.specs.declared.journal.Left.{Left}
use Rattle.wbt_flusher.specs.Did.{handed}
use Rattle.wbt_run_drain.specs.Teams.{handed_over}
use Rattle.wbt_top_sums.specs.Sums.{AddsUp, absorbed_of, absorbs_one, is_absorption}
use Rattle.wbt_top_sums.proofs.Handing.{all_handed, claims_one, completes_one, is_claim, is_completion, is_redirtying, redirties_one}
use Rattle.wbt_top_sums.proofs.Pages.{HasPages, page_in, all_have_pages}

abbrev pub dirties_one : (event : Event) → Bool
dirties_one (Dirty page) = true
dirties_one other = false

abbrev pub is_fresh_write : (entry : Told) → Bool
is_fresh_write entry = of_part false dirties_one (event_of entry)

-- ---- a part's entries, and what they tell

module _ (test : Entry → Bool) (of : Told → Bool) (none_checked : (check : CheckEntry) → of (checked check) ≡ false) (none_estimated : (est : EstEntry) → of (estimated est) ≡ false) where
  one_check : (which : Option CheckEntry) → count_by of (one_checked which) ≡ 0
  one_check None = refl
  one_check (Some check) = ap (λ (b : Bool). 0 + one_if b) (none_checked check)

  one_estimate : (which : Option EstEntry) → count_by of (one_estimated which) ≡ 0
  one_estimate None = refl
  one_estimate (Some est) = ap (λ (b : Bool). 0 + one_if b) (none_estimated est)

  module _ (part : CpuJournal) (same : (e : Entry) → one_if (test e) ≡ count_by of (told_entry part.checks part.estimates e)) where
    told_same : (entries : List Entry) → count_by test entries ≡ count_by of (flat_map (told_entry part.checks part.estimates) entries)
    told_same [] = refl
    told_same (e ∷ entries) =
        let rest = told_same entries in
        let first = same e in
        let counted = sum_by-cons (λ (x : Entry). cond (test x) 1 0) e entries in
        let both = sum_by-append (λ (x : Told). cond (of x) 1 0) (told_entry part.checks part.estimates e) (flat_map (told_entry part.checks part.estimates) entries) in
        omega (arith, rest, first, counted, both)

fresh_same : (part : CpuJournal) (e : Entry) → one_if (is_fresh e) ≡ count_by is_fresh_write (told_entry part.checks part.estimates e)
fresh_same part (entry.Write task page true) = refl
fresh_same part (entry.Write task page false) = refl
fresh_same part (entry.Check place) = sym (one_check is_fresh is_fresh_write (λ _. refl) (λ _. refl) (slice_get part.checks place))
fresh_same part (entry.Est place) = sym (one_estimate is_fresh is_fresh_write (λ _. refl) (λ _. refl) (slice_get part.estimates place))
fresh_same part (entry.Back flusher page true) = refl
fresh_same part (entry.Back flusher page false) = refl
fresh_same part other = refl

done_same : (part : CpuJournal) (e : Entry) → one_if (is_done e) ≡ count_by is_completion (told_entry part.checks part.estimates e)
done_same part (entry.Write task page true) = refl
done_same part (entry.Write task page false) = refl
done_same part (entry.Check place) = sym (one_check is_done is_completion (λ _. refl) (λ _. refl) (slice_get part.checks place))
done_same part (entry.Est place) = sym (one_estimate is_done is_completion (λ _. refl) (λ _. refl) (slice_get part.estimates place))
done_same part (entry.Back flusher page true) = refl
done_same part (entry.Back flusher page false) = refl
done_same part other = refl

-- ---- all parts

-- the sum over parts is the sum over all that they tell
joined : (weight : Told → ℕ) (own : CpuJournal → ℕ) → ((part : CpuJournal) → own part ≡ sum_by weight (told part)) → (parts : List CpuJournal)
    → (sum_by own parts ≡ sum_by (sum_by weight) (map told parts)) × (sum_by own parts ≡ sum_by weight (flat_map told parts))
joined weight own same [] = (refl, refl)
joined weight own same (part ∷ parts) =
    let rest = joined weight own same parts in
    let first = same part in
    let a = sum_by-cons own part parts in
    let b = sum_by-cons (sum_by weight) (told part) (map told parts) in
    let c = sum_by-append weight (told part) (flat_map told parts) in
    (omega (arith, rest.0, first, a, b), omega (arith, rest.1, first, a, c))

-- ---- numbers, one by one

none_from : (n page : ℕ) → n ≤ page → total n (λ p. one_if (eqb page p)) ≡ 0
none_from zero page low = refl
none_from (suc n) page low =
    let rest = none_from n page (omega arith) in
    let other : one_if (eqb page n) ≡ 0 = ap one_if (let e : eqb page n ≡ false = grind (arith, nat_tests) in e) in
    omega (arith, rest, other)

pub one_of : (n page : ℕ) → page < n → total n (λ p. one_if (eqb page p)) ≡ 1
one_of zero page low = absurd (omega arith)
one_of (suc n) page low = elim (cases_eq page n) [
  | inl same ↦
      let rest = none_from n page (omega arith) in
      let here : one_if (eqb page n) ≡ 1 = ap one_if (let e : eqb page n ≡ true = grind (arith, nat_tests) in e) in
      omega (arith, rest, here)
  | inr other ↦
      let below : page < n = grind arith in
      let rest = one_of n page below in
      let here : one_if (eqb page n) ≡ 0 = ap one_if (let e : eqb page n ≡ false = grind (arith, nat_tests) in e) in
      omega (arith, rest, here)
]

-- the sum over numbers of how often each comes is how often any comes
pub by_number : (n : ℕ) (Has : Told → Type 0) (at : ℕ → Told → Bool) (of : Told → Bool) → ((e : Told) → Has e → total n (λ p. one_if (at p e)) ≡ one_if (of e))
    → (entries : List Told) → Each Has entries → total n (λ p. count_by (at p) entries) ≡ count_by of entries
by_number n Has at of same [] each = total_nothing n (λ p. 0) (λ p. refl)
by_number n Has at of same (e ∷ entries) each =
    let rest = by_number n Has at of same entries each.1 in
    let first = same e each.0 in
    let counted = sum_by-cons (λ (x : Told). cond (of x) 1 0) e entries in
    let split = total_same n (λ p. count_by (at p) (e ∷ entries)) (λ p. one_if (at p e) + count_by (at p) entries) (λ p less. sum_by-cons (λ (x : Told). cond (at p x) 1 0) e entries) in
    let both = total_sum n (λ p. one_if (at p e)) (λ p. count_by (at p) entries) in
    omega (arith, rest, first, counted, split, both)

pub nothing : (n : ℕ) → total n (λ p. 0) ≡ 0
nothing n = total_nothing n (λ p. 0) (λ p. refl)

-- whether an event is of one page, and of which
dirtied_by : (n : ℕ) (event : Option Event) → IfSome event (λ (v : Event). page_in v < n) → total n (λ p. one_if (of_part false (is_dirtying p) event)) ≡ one_if (of_part false dirties_one event)
dirtied_by n None low = nothing n
dirtied_by n (Some (Dirty page)) low = one_of n page low
dirtied_by n (Some (Claim page)) low = nothing n
dirtied_by n (Some (Complete page)) low = nothing n
dirtied_by n (Some (Redirty page)) low = nothing n
dirtied_by n (Some (Absorb page)) low = nothing n

claimed_by : (n : ℕ) (event : Option Event) → IfSome event (λ (v : Event). page_in v < n) → total n (λ p. one_if (of_part false (is_claim_of p) event)) ≡ one_if (of_part false claims_one event)
claimed_by n None low = nothing n
claimed_by n (Some (Dirty page)) low = nothing n
claimed_by n (Some (Claim page)) low = one_of n page low
claimed_by n (Some (Complete page)) low = nothing n
claimed_by n (Some (Redirty page)) low = nothing n
claimed_by n (Some (Absorb page)) low = nothing n

completed_by : (n : ℕ) (event : Option Event) → IfSome event (λ (v : Event). page_in v < n) → total n (λ p. one_if (of_part false (is_completing p) event)) ≡ one_if (of_part false completes_one event)
completed_by n None low = nothing n
completed_by n (Some (Dirty page)) low = nothing n
completed_by n (Some (Claim page)) low = nothing n
completed_by n (Some (Complete page)) low = one_of n page low
completed_by n (Some (Redirty page)) low = nothing n
completed_by n (Some (Absorb page)) low = nothing n

redirtied_by : (n : ℕ) (event : Option Event) → IfSome event (λ (v : Event). page_in v < n) → total n (λ p. one_if (of_part false (is_redirtying_of p) event)) ≡ one_if (of_part false redirties_one event)
redirtied_by n None low = nothing n
redirtied_by n (Some (Dirty page)) low = nothing n
redirtied_by n (Some (Claim page)) low = nothing n
redirtied_by n (Some (Complete page)) low = nothing n
redirtied_by n (Some (Redirty page)) low = one_of n page low
redirtied_by n (Some (Absorb page)) low = nothing n

absorbed_by : (n : ℕ) (event : Option Event) → IfSome event (λ (v : Event). page_in v < n) → total n (λ p. one_if (of_part false (is_absorbing p) event)) ≡ one_if (of_part false absorbs_one event)
absorbed_by n None low = nothing n
absorbed_by n (Some (Dirty page)) low = nothing n
absorbed_by n (Some (Claim page)) low = nothing n
absorbed_by n (Some (Complete page)) low = nothing n
absorbed_by n (Some (Redirty page)) low = nothing n
absorbed_by n (Some (Absorb page)) low = one_of n page low

pub dirtied_once : (n : ℕ) (e : Told) → HasPages n e → total n (λ p. one_if (dirties p e)) ≡ one_if (is_fresh_write e)
dirtied_once n e low = dirtied_by n (event_of e) low

claimed_once : (n : ℕ) (e : Told) → HasPages n e → total n (λ p. one_if (claims p e)) ≡ one_if (is_claim e)
claimed_once n e low = claimed_by n (event_of e) low

pub completed_once : (n : ℕ) (e : Told) → HasPages n e → total n (λ p. one_if (completes p e)) ≡ one_if (is_completion e)
completed_once n e low = completed_by n (event_of e) low

redirtied_once : (n : ℕ) (e : Told) → HasPages n e → total n (λ p. one_if (redirties p e)) ≡ one_if (is_redirtying e)
redirtied_once n e low = redirtied_by n (event_of e) low

absorbed_once : (n : ℕ) (e : Told) → HasPages n e → total n (λ p. one_if (absorbs p e)) ≡ one_if (is_absorption e)
absorbed_once n e low = absorbed_by n (event_of e) low

pub joined_each : (P : Told → Type 0) (parts : List CpuJournal) → Each (Each P) (map told parts) → Each P (flat_map told parts)
joined_each P [] each = tt
joined_each P (part ∷ parts) each = both (told part) (flat_map told parts) each.0 (joined_each P parts each.1)
  where
    both : (a b : List Told) → Each P a → Each P b → Each P (a ++ b)
    both [] b first second = second
    both (x ∷ a) b first second = (first.0, both a b first.1 second)

-- ---- the sums

module _ (trace : Trace) (there : IsLawful trace) (j : Journal) (lawful : IsLawfulFor trace j) where
  pub fresh_is : fresh_of j.cpus ≡ count_by is_fresh_write (all_told j)
  fresh_is = (joined (λ e. one_if (is_fresh_write e)) (λ part. count_by is_fresh part.entries)
      (λ part. told_same is_fresh is_fresh_write (λ _. refl) (λ _. refl) part (fresh_same part) part.entries) j.cpus).1

  pub done_is : (done_of j.cpus ≡ sum_by (count_by is_completion) (parts_of j)) × (done_of j.cpus ≡ count_by is_completion (all_told j))
  done_is = joined (λ e. one_if (is_completion e)) (λ part. count_by is_done part.entries)
      (λ part. told_same is_done is_completion (λ _. refl) (λ _. refl) part (done_same part) part.entries) j.cpus

  handed_is : handed_over j.cpus ≡ sum_by (sum_by handed) (parts_of j)
  handed_is = (joined handed (λ part. sum_by handed (told part)) (λ part. refl) j.cpus).0

  -- of what all parts tell
  all_parts : (of : Told → Bool) → (sum_by (λ (part : CpuJournal). count_by of (told part)) j.cpus ≡ count_by of (all_told j)) × (sum_by (count_by of) (parts_of j) ≡ count_by of (all_told j))
  all_parts of = let own = joined (λ e. one_if (of e)) (λ part. count_by of (told part)) (λ part. refl) j.cpus in (own.1, sym own.0 ∙ own.1)

  pub each_page : Each (HasPages (pages trace)) (all_told j)
  each_page = joined_each (HasPages (pages trace)) j.cpus (all_have_pages trace there 0 [] (parts_of j) lawful.writes)

  -- Where no page is left each page was claimed as often as it was dirtied, also by giving it back; and completed or given back as often as it
  -- was claimed.
  pub record AllClean : Type 0 where
    pub claimed : count_by is_fresh_write (all_told j) + count_by is_redirtying (all_told j) ≡ count_by is_claim (all_told j)
    pub released : count_by is_claim (all_told j) ≡ count_by is_completion (all_told j) + count_by is_redirtying (all_told j) + count_by is_absorption (all_told j)

  all_clean : j.left ≡ [] → AllClean
  all_clean none =
      let even = subst (λ (l : List Left). IsEvenBelow (all_told j) l (pages trace)) none lawful.ledger in
      let n = pages trace in
      let D = λ (p : ℕ). count_by (dirties p) (all_told j) in
      let R = λ (p : ℕ). count_by (redirties p) (all_told j) in
      let T = λ (p : ℕ). count_by (claims p) (all_told j) in
      let C = λ (p : ℕ). count_by (completes p) (all_told j) in
      let A = λ (p : ℕ). count_by (absorbs p) (all_told j) in
      let dirtied = by_number n (HasPages n) dirties is_fresh_write (dirtied_once n) (all_told j) each_page in
      let again = by_number n (HasPages n) redirties is_redirtying (redirtied_once n) (all_told j) each_page in
      let taken = by_number n (HasPages n) claims is_claim (claimed_once n) (all_told j) each_page in
      let given = by_number n (HasPages n) completes is_completion (completed_once n) (all_told j) each_page in
      let absorbed = by_number n (HasPages n) absorbs is_absorption (absorbed_once n) (all_told j) each_page in
      let a = total_same n (λ p. D p + R p) T (λ p less. let e = (even p less).claimed_all in omega (arith, e)) in
      let b = total_same n T (λ p. C p + R p + A p) (λ p less. let e = (even p less).released_all in omega (arith, e)) in
      let c = total_sum n D R in
      let d = total_sum n (λ p. C p + R p) A in
      let f = total_sum n C R in
      record {
        claimed = omega (arith, a, c, dirtied, again, taken);
        released = omega (arith, b, d, f, given, again, absorbed, taken);
      }

  pub adds_up : AddsUp j
  adds_up =
      let flights = all_handed trace 0 (first_flushers trace.flushers) (parts_of j) lawful.flights in
      let absorbed = all_parts is_absorption in
      let again = all_parts is_redirtying in
      let taken = all_parts is_claim in
      record {
        handed = omega (arith, done_is.0, handed_is, flights.completed);
        cleaned = λ none. let clean = all_clean none in omega (arith, clean.claimed, clean.released, done_is.1, fresh_is, absorbed.0);
        no_more = λ none. let clean = all_clean none in
            omega (arith, clean.released, done_is.0, done_is.1, handed_is, taken.1, absorbed.1, again.1, flights.completed, flights.handed_over);
      }
