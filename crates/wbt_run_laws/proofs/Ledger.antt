-- The ledger of each page, and pages that writes found dirty.
use Rattle.std.proofs.Common.{◌≡◌, ℕ, ◌+◌, ◌<◌, ◌≤◌, Bool, false, cond, List, [], ◌∷◌, ◌++◌, flat_map, Option, None, Some, All, sum_by, count_by, sym, refl, ap, ◌∙◌, subst, arith}
use Rattle.std.proofs.lemmas.List.Elements.{All-weaker}
use Rattle.std.proofs.lemmas.List.Sums.{sum_by-cons, sum_by-append}
use Rattle.wbt_book.specs.Ledger.{dirties, claims, completes, redirties, absorbs, times, all_times}
use Rattle.wbt_book.specs.declared.event.Event.{Event}
use Rattle.wbt_book.specs.declared.event.Event.TheVariants.{Dirty, Claim, Complete, Redirty, Absorb}
use Rattle.wbt_run_laws.proofs.Common.{one_if, total_same, Trace, Each, of_part, parts_of, all_told, pages, Told, Journal, onto, left_from, Run, Worked, part_at}
use Rattle.wbt_grant.specs.Rule as was
use Rattle.wbt_grant.specs.State.{deeds_of}
use Rattle.wbt_journal.specs.Effects.{event_of, found_of, listed}
use Rattle.wbt_journal.specs.Leaves as leaves
use Rattle.wbt_journal.specs.Leaves.{IsEven, WasCompleted, WasDirtied}
use Rattle.wbt_journal.specs.declared.journal.Left.{Left}
use Rattle.wbt_run_laws.specs.Grew.{event_in, found_in}
use Rattle.wbt_run_laws.specs.Laws.{WorkedDirtiedWereCompleted, WorkedFoundWereDirtied, WorkedLedgerIsEven}
use Rattle.wbt_run_laws.proofs.Counting.{many, all_is, below, in_parts, record_grew}
use Rattle.wbt_run_laws.proofs.Effects.{if_listed}
use Rattle.wbt_run_laws.proofs.Lefts.{eqb_turned, left_dirty_is, left_writeback_is}
use Rattle.wbt_run_laws.proofs.Parts.{each_joined, joined, records_sum}
use Rattle.wbt_run_laws.proofs.Lists.{all_front, all_rest, each_of_all, each_weaker}

abbrev one_for : (is : Event → Bool) → Event → ℕ
one_for is event = cond (is event) 1 0

times_is : (is : Event → Bool) (events : List Event) → times is events ≡ sum_by (one_for is) events
times_is is [] = refl
times_is is (event ∷ older) = let rest = times_is is older in let counted = sum_by-cons (one_for is) event older in omega arith

-- a test of entries that says what one of their events does
entries_are : (is : Event → Bool) (test : Told → Bool) → ((e : Told) → cond (test e) 1 0 ≡ sum_by (one_for is) (event_in e)) → (es : List Told) → count_by test es ≡ sum_by (one_for is) (flat_map event_in es)
entries_are is test same [] = refl
entries_are is test same (e ∷ es) =
    let rest = entries_are is test same es in
    let first = same e in
    let counted = sum_by-cons (λ (x : Told). cond (test x) 1 0) e es in
    let both = sum_by-append (one_for is) (event_in e) (flat_map event_in es) in omega arith

one_same : (a b : Bool) → a ≡ b → one_if a ≡ 0 + one_if b
one_same a b is = let same = ap one_if is in omega arith

-- the page event of an entry, by a test of the journal's that says what one of the book's does
of_event : (is test : Event → Bool) → ((event : Event) → test event ≡ is event) → (part : Option Event) → cond (of_part false test part) 1 0 ≡ sum_by (one_for is) (listed part)
of_event is test same None = refl
of_event is test same (Some event) = one_same (test event) (is event) (same event)

is_dirtying : (page : ℕ) (event : Event) → leaves.is_dirtying page event ≡ dirties page event
is_dirtying page (Dirty of) = eqb_turned of page
is_dirtying page (Claim of) = refl
is_dirtying page (Complete of) = refl
is_dirtying page (Redirty of) = refl
is_dirtying page (Absorb of) = refl

is_claim : (page : ℕ) (event : Event) → leaves.is_claim page event ≡ claims page event
is_claim page (Dirty of) = refl
is_claim page (Claim of) = eqb_turned of page
is_claim page (Complete of) = refl
is_claim page (Redirty of) = refl
is_claim page (Absorb of) = refl

is_completing : (page : ℕ) (event : Event) → leaves.is_completing page event ≡ completes page event
is_completing page (Dirty of) = refl
is_completing page (Claim of) = refl
is_completing page (Complete of) = eqb_turned of page
is_completing page (Redirty of) = refl
is_completing page (Absorb of) = refl

is_redirtying : (page : ℕ) (event : Event) → leaves.is_redirtying page event ≡ redirties page event
is_redirtying page (Dirty of) = refl
is_redirtying page (Claim of) = refl
is_redirtying page (Complete of) = refl
is_redirtying page (Redirty of) = eqb_turned of page
is_redirtying page (Absorb of) = refl

is_absorbing : (page : ℕ) (event : Event) → leaves.is_absorbing page event ≡ absorbs page event
is_absorbing page (Dirty of) = refl
is_absorbing page (Claim of) = refl
is_absorbing page (Complete of) = refl
is_absorbing page (Redirty of) = refl
is_absorbing page (Absorb of) = eqb_turned of page

dirties_same : (page : ℕ) (e : Told) → cond (leaves.dirties page e) 1 0 ≡ sum_by (one_for (dirties page)) (event_in e)
dirties_same page e = of_event (dirties page) (leaves.is_dirtying page) (is_dirtying page) (event_of e)

claims_same : (page : ℕ) (e : Told) → cond (leaves.claims page e) 1 0 ≡ sum_by (one_for (claims page)) (event_in e)
claims_same page e = of_event (claims page) (leaves.is_claim page) (is_claim page) (event_of e)

completes_same : (page : ℕ) (e : Told) → cond (leaves.completes page e) 1 0 ≡ sum_by (one_for (completes page)) (event_in e)
completes_same page e = of_event (completes page) (leaves.is_completing page) (is_completing page) (event_of e)

redirties_same : (page : ℕ) (e : Told) → cond (leaves.redirties page e) 1 0 ≡ sum_by (one_for (redirties page)) (event_in e)
redirties_same page e = of_event (redirties page) (leaves.is_redirtying page) (is_redirtying page) (event_of e)

absorbs_same : (page : ℕ) (e : Told) → cond (leaves.absorbs page e) 1 0 ≡ sum_by (one_for (absorbs page)) (event_in e)
absorbs_same page e = of_event (absorbs page) (leaves.is_absorbing page) (is_absorbing page) (event_of e)

-- ---- pages that were found dirty

-- what holds of all that entries tell holds of what each tells
each_told : {E A : Type 0} (P : A → Type 0) (tells : E → List A) (es : List E) (older : List A) → All P (onto tells es older) → Each (λ e. Each P (tells e)) es × All P older
each_told P tells [] older all = (tt, all)
each_told P tells (e ∷ es) older all =
    let rest = each_told P tells es (tells e ++ older) all in
    ((each_of_all P (tells e) (all_front P (tells e) older rest.1), rest.0), all_rest P (tells e) older rest.1)

was_dirtied : (entries : List Told) (e : Told) → Each (λ (page : ℕ). 1 ≤ count_by (leaves.dirties page) entries) (found_in e) → WasDirtied entries e
was_dirtied entries e each = if_listed (λ (page : ℕ). 1 ≤ count_by (leaves.dirties page) entries) (found_of e) each

-- ---- the journal of a run

module _ (trace : Trace) (j : Journal) (r : Run) (w : Worked trace j r) where
  -- the journal's events of a kind are those of all records
  events_are : (is : Event → Bool) (test : Told → Bool) → ((e : Told) → cond (test e) 1 0 ≡ sum_by (one_for is) (event_in e))
      → count_by test (all_told j) ≡ all_times r.set.cpus is (λ c. deeds_of (r.closed.cpu c))
  events_are is test same =
      ap (count_by test) (all_is trace j r w)
      ∙ entries_are is test same (joined (parts_of j))
      ∙ records_sum event_in (one_for is) r.set.cpus (parts_of j) (λ c. (r.closed.cpu c).events) (many trace j r w) (λ c less. (record_grew trace j r w c (below trace j r w c less)).events)
      ∙ total_same r.set.cpus (λ c. sum_by (one_for is) (r.closed.cpu c).events) (λ c. times is (r.closed.cpu c).events) (λ c less. sym (times_is is (r.closed.cpu c).events))

  even : (page : ℕ) → page < pages trace → IsEven (all_told j) (left_from r.closed.book 0 (pages trace)) page
  even page less =
      let ledger = w.closed.holds.ledger_even page in
      let a = ledger.dirtyings in
      let b = ledger.claimings in
      let made = events_are (dirties page) (leaves.dirties page) (dirties_same page) in
      let taken = events_are (claims page) (leaves.claims page) (claims_same page) in
      let cleaned = events_are (completes page) (leaves.completes page) (completes_same page) in
      let again = events_are (redirties page) (leaves.redirties page) (redirties_same page) in
      let absorbed = events_are (absorbs page) (leaves.absorbs page) (absorbs_same page) in
      let dirty = left_dirty_is r.closed.book (pages trace) page less in
      let writeback = left_writeback_is r.closed.book (pages trace) page less in
      record { claimed_all = omega arith; released_all = omega arith }

  completed : (page : ℕ) → page < pages trace → WasCompleted (all_told j) (left_from r.closed.book 0 (pages trace)) page
  completed page less some =
      let ledger = w.closed.holds.ledger_even page in
      let made = events_are (dirties page) (leaves.dirties page) (dirties_same page) in
      let cleaned = events_are (completes page) (leaves.completes page) (completes_same page) in
      let dirty = left_dirty_is r.closed.book (pages trace) page less in
      let writeback = left_writeback_is r.closed.book (pages trace) page less in
      let one = ledger.some_completed (omega arith) in omega arith

  -- what a CPU's record found dirty was dirtied, and its part tells just that
  found_dirtied : (c : ℕ) → c < trace.cpus → Each (WasDirtied (all_told j)) (part_at j c)
  found_dirtied c less =
      let P = λ (page : ℕ). 1 ≤ count_by (leaves.dirties page) (all_told j) in
      let held : All P (r.closed.cpu c).found_dirty = All-weaker (was.WasDirtied r.set r.closed.cpu) P
      (λ page dirtied. let made = events_are (dirties page) (leaves.dirties page) (dirties_same page) in omega arith)
      (r.closed.cpu c).found_dirty (w.closed.holds.found_dirtied c) in
      let told = subst (All P) (record_grew trace j r w c less).found_dirty held in
      each_weaker (λ (e : Told). Each P (found_in e)) (WasDirtied (all_told j)) (was_dirtied (all_told j)) (part_at j c)
      (each_told P found_in (part_at j c) [] told).0

pub ledger_is_even : WorkedLedgerIsEven
ledger_is_even trace j r w page less = subst (λ (l : List Left). IsEven (all_told j) l page) (sym w.closed.left_is) (even trace j r w page less)

pub found_were_dirtied : WorkedFoundWereDirtied
found_were_dirtied trace j r w = subst (Each (WasDirtied (all_told j))) (sym (all_is trace j r w))
    (each_joined (WasDirtied (all_told j)) (parts_of j) (λ c less. found_dirtied trace j r w c (in_parts trace j r w c less)))

pub dirtied_were_completed : WorkedDirtiedWereCompleted
dirtied_were_completed trace j r w page less = subst (λ (l : List Left). WasCompleted (all_told j) l page) (sym w.closed.left_is) (completed trace j r w page less)
