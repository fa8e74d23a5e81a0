-- What was written in a journal: each page that a task wrote was dirtied, by that write or by another.
use Rattle.std.proofs.Common.{◌≡◌, ◌≢◌, ℕ, zero, suc, ◌+◌, ◌<◌, ◌≤◌, ◌⊎◌, inl, inr, Bool, true, false, cond, if◌then◌else◌, eqb, ltb, ◌==◌, Option, Some, None, IfSome, List, [], ◌∷◌, ◌++◌, map, length, count_by, flat_map, refl, sym, ◌∙◌, ap, subst, arith, eq-eqb, ne_eqb, eqb-true, true≢false}
use Rattle.std.proofs.lemmas.Bool.{cases_Bool, cases_eq, ltb-true, ltb-false}
use Rattle.std.proofs.lemmas.List.Sums.{sum_by-cons, sum_by-append}
use Rattle.std.proofs.lemmas.Option.{slice_get_within}
use Rattle.std.specs.List.{slice_get}
use Rattle.wbt_book.specs.declared.event.Event.{Event}
use Rattle.wbt_book.specs.declared.event.Event.TheVariants.{Dirty}
use Rattle.wbt_counter.specs.Sums.{one_if}
use Rattle.wbt_trace.specs.Lawful.{IsLawful}
use Rattle.wbt_trace.specs.declared.trace.Trace.{Trace}
use Rattle.wbt_journal.specs.Each.{Each}
use Rattle.wbt_journal.specs.Effects.{Flight, Write, effect, event_by, found_by, of_part}
use Rattle.wbt_journal.specs.Items.{Item, tells, items_from, all_told}
use Rattle.wbt_journal.specs.Lawful.{FoundWereDirtied, IsLawful as IsLawfulFor}
use Rattle.wbt_journal.specs.Leaves.{dirties, is_dirtying, writes_of, WasDirtied}
use Rattle.wbt_journal.specs.Machine.{pages_of_task, task_cpu}
use Rattle.wbt_journal.specs.Pages.{PagesAreNext, Writes, writes_after}
use Rattle.wbt_journal.specs.Side.{is_on, is_own_task}
use Rattle.wbt_journal.specs.Told.{Told, told}
use Rattle.wbt_journal.specs.Walk.{Along}
use Rattle.wbt_journal.specs.declared.entry.CpuJournal.{CpuJournal}
use Rattle.wbt_journal.specs.declared.journal.Journal.{Journal}
use Rattle.wbt_top_sums.proofs.Pages.{Walked, walk}

-- ---- writes, one by one

abbrev pub IsDirtied : (all : List Told) (page : ℕ) → Type 0
IsDirtied all page = 1 ≤ count_by (dirties page) all

abbrev WriteIsDirtied : (all : List Told) (entry : Told) → Type 0
WriteIsDirtied all entry = IfSome (effect entry).write (λ (write : Write). IsDirtied all write.page)

-- entries that are among all
abbrev AreAmong : (all entries : List Told) → Type 0
AreAmong all entries = (page : ℕ) → count_by (dirties page) entries ≤ count_by (dirties page) all

dirties_one : (page : ℕ) (e : Told) (entries : List Told) → count_by (dirties page) (e ∷ entries) ≡ one_if (dirties page e) + count_by (dirties page) entries
dirties_one page e entries = sum_by-cons (λ (x : Told). cond (dirties page x) 1 0) e entries

-- a write dirtied its page, or found it dirty, and then another had dirtied it
module _ (all : List Told) where
  -- so much an event of an entry among all counts
  abbrev Counts : (event : Option Event) (page : ℕ) → Type 0
  Counts event page = one_if (of_part false (is_dirtying page) event) ≤ count_by (dirties page) all

  by_fresh : (page : ℕ) (fresh : Bool) → Counts (if fresh then Some (Dirty page) else None) page → IfSome (if fresh then None else Some page) (IsDirtied all) → IsDirtied all page
  by_fresh page true counts found = let one : one_if (eqb page page) ≡ 1 = ap one_if (eq-eqb page page refl) in omega (arith, counts, one)
  by_fresh page false counts found = found

  by_write : (write : Option Write) (flight : Option Flight) → ((page : ℕ) → Counts (event_by write flight) page) → IfSome (found_by write) (IsDirtied all) → IfSome write (λ (w : Write). IsDirtied all w.page)
  by_write None flight counts found = tt
  by_write (Some write) flight counts found = by_fresh write.page write.fresh (counts write.page) found

  write_is_dirtied : (entries : List Told) (e : Told) → AreAmong all (e ∷ entries) → WasDirtied all e → WriteIsDirtied all e
  write_is_dirtied entries e among found = by_write (effect e).write (effect e).flight (λ page. omega (arith, among page, dirties_one page e entries)) found

each_dirtied : (all entries : List Told) → AreAmong all entries → Each (WasDirtied all) entries → Each (WriteIsDirtied all) entries
each_dirtied all [] among found = tt
each_dirtied all (e ∷ entries) among found = (
  write_is_dirtied all entries e among found.0,
  each_dirtied all entries (λ page. omega (arith, among page, dirties_one page e entries)) found.1,
)

each_split : (P : Told → Type 0) (a b : List Told) → Each P (a ++ b) → Each P a × Each P b
each_split P [] b each = (tt, each)
each_split P (x ∷ a) b each = let rest = each_split P a b each.1 in ((each.0, rest.0), rest.1)

-- ---- the writes of a task

-- how often a task is among these
abbrev times : (task : ℕ) (tasks : List ℕ) → ℕ
times task tasks = count_by (λ by. by == task) tasks

-- the page at this place, which was dirtied
abbrev pub Reached : (all : List Told) (pages : List ℕ) (k : ℕ) → Type 0
Reached all pages k = (page : ℕ) × (slice_get pages k ≡ Some page) × IsDirtied all page

-- a CPU after that of a task isn't its own
other_cpu : (which : Option ℕ) (cpu c : ℕ) → is_on cpu which ≡ true → cpu + 1 ≤ c → is_on c which ≡ false
other_cpu None cpu c own low = refl
other_cpu (Some at) cpu c own low = let is = eqb-true at cpu own in ne_eqb at c (λ same. omega (arith, is, same, low))

module _ (trace : Trace) (task : ℕ) where
  one_more : (e : Told) (part : List Told) → count_by (writes_of task) (e ∷ part) ≡ one_if (writes_of task e) + count_by (writes_of task) part
  one_more e part = sum_by-cons (λ (x : Told). cond (writes_of task x) 1 0) e part

  times_more : (by : ℕ) (tasks : List ℕ) → times task (by ∷ tasks) ≡ one_if (eqb by task) + times task tasks
  times_more by tasks = sum_by-cons (λ (x : ℕ). cond (eqb x task) 1 0) by tasks

  -- the parts of other CPUs have no writes of the task
  not_own : (cpu : ℕ) (tasks : List ℕ) → is_own_task trace cpu task ≡ false → (write : Option Write) → IfSome write (λ (w : Write). Writes trace tasks cpu w.task w.page)
      → one_if (of_part false (λ (w : Write). eqb w.task task) write) ≡ 0
  not_own cpu tasks other None next = refl
  not_own cpu tasks other (Some write) next =
      let differs : write.task ≢ task = λ same. true≢false (sym (subst (λ (t : ℕ). is_own_task trace cpu t ≡ true) same next.own) ∙ other) in
      ap one_if (ne_eqb write.task task differs)

  none_in : (cpu : ℕ) (tasks : List ℕ) (part : List Told) (rest : List Item) → is_own_task trace cpu task ≡ false
      → Along (PagesAreNext trace) writes_after tasks (map (tells cpu) part ++ rest) → count_by (writes_of task) part ≡ 0
  none_in cpu tasks [] rest other along = refl
  none_in cpu tasks (e ∷ part) rest other along =
      let first = not_own cpu tasks other (effect e).write along.0.write in
      omega (arith, one_more e part, first, none_in cpu (writes_after tasks (tells cpu e)) part rest other along.1)

  -- a place is that of a write, or of one after it
  here_or_later : (all : List Told) (cpu : ℕ) (tasks : List ℕ) (write : Option Write) → IfSome write (λ (w : Write). Writes trace tasks cpu w.task w.page)
      → IfSome write (λ (w : Write). IsDirtied all w.page) → (k more : ℕ) → times task tasks ≤ k → k < times task tasks + (one_if (of_part false (λ (w : Write). eqb w.task task) write) + more)
      → Reached all (pages_of_task trace task) k
      ⊎ ((times task (of_part tasks (λ (w : Write). w.task ∷ tasks) write) ≤ k) × (k < times task (of_part tasks (λ (w : Write). w.task ∷ tasks) write) + more))
  here_or_later all cpu tasks None next dirtied k more low high = inr (low, omega (arith, high))
  here_or_later all cpu tasks (Some write) next dirtied k more low high =
      let so_far = times_more write.task tasks in
      elim (cases_eq write.task task) [
        | inl same ↦
            let one : one_if (eqb write.task task) ≡ 1 = ap one_if (eq-eqb write.task task same) in
            elim (cases_eq k (times task tasks)) [
              | inl here ↦ inl (
                write.page,
                ap (slice_get (pages_of_task trace task)) here ∙ subst (λ (t : ℕ). slice_get (pages_of_task trace t) (times t tasks) ≡ Some write.page) same next.next,
                dirtied,
              )
              | inr later ↦ inr (omega (arith, low, later, one, so_far), omega (arith, high, one, so_far))
            ]
        | inr other ↦
            let none : one_if (eqb write.task task) ≡ 0 = ap one_if (ne_eqb write.task task other) in
            inr (omega (arith, low, none, so_far), omega (arith, high, none, so_far))
      ]

  -- as many as a part tells, each at its place
  reach : (all : List Told) (cpu : ℕ) (tasks : List ℕ) (part : List Told) (rest : List Item) → Along (PagesAreNext trace) writes_after tasks (map (tells cpu) part ++ rest)
      → Each (WriteIsDirtied all) part → (k : ℕ) → times task tasks ≤ k → k < times task tasks + count_by (writes_of task) part → Reached all (pages_of_task trace task) k
  reach all cpu tasks [] rest along each k low high = absurd (omega (arith, low, high))
  reach all cpu tasks (e ∷ part) rest along each k low high =
      elim (here_or_later all cpu tasks (effect e).write along.0.write each.0 k (count_by (writes_of task) part) low (omega (arith, high, one_more e part))) [
        | inl found ↦ found
        | inr later ↦ reach all cpu (writes_after tasks (tells cpu e)) part rest along.1 each.1 k later.0 later.1
      ]

  -- ---- all parts

  module _ (lawful : IsLawful trace) where
    both_parts : (part : CpuJournal) (parts : List CpuJournal)
        → count_by (writes_of task) (flat_map told (part ∷ parts)) ≡ count_by (writes_of task) (told part) + count_by (writes_of task) (flat_map told parts)
    both_parts part parts = sum_by-append (λ (x : Told). cond (writes_of task x) 1 0) (told part) (flat_map told parts)

    none_after : (cpu : ℕ) (tasks : List ℕ) (parts : List CpuJournal) → ((c : ℕ) → cpu ≤ c → is_own_task trace c task ≡ false)
        → Along (PagesAreNext trace) writes_after tasks (items_from cpu (map told parts)) → count_by (writes_of task) (flat_map told parts) ≡ 0
    none_after cpu tasks [] others along = refl
    none_after cpu tasks (part ∷ parts) others along =
        let more = items_from (cpu + 1) (map told parts) in
        let w = walk trace lawful cpu [] (told part) more along.1 in
        let first = none_in cpu [] (told part) more (others cpu (omega arith)) along.1 in
        let rest = none_after (cpu + 1) w.last parts (λ c low. others c (omega (arith, low))) w.goes_on in
        omega (arith, both_parts part parts, first, rest)

    reach_all : (all : List Told) (cpu : ℕ) (tasks : List ℕ) (parts : List CpuJournal) → Along (PagesAreNext trace) writes_after tasks (items_from cpu (map told parts))
        → Each (WriteIsDirtied all) (flat_map told parts) → (k : ℕ) → k < count_by (writes_of task) (flat_map told parts) → Reached all (pages_of_task trace task) k
    reach_all all cpu tasks [] along each k less = absurd (omega (arith, less))
    reach_all all cpu tasks (part ∷ parts) along each k less =
        let more = items_from (cpu + 1) (map told parts) in
        let w = walk trace lawful cpu [] (told part) more along.1 in
        let split = each_split (WriteIsDirtied all) (told part) (flat_map told parts) each in
        let both = both_parts part parts in
        elim (cases_Bool (is_own_task trace cpu task)) [
          | inl own ↦
              let none = none_after (cpu + 1) w.last parts (λ c low. other_cpu (task_cpu trace task) cpu c own low) w.goes_on in
              reach all cpu [] (told part) more along.1 split.0 k (omega arith) (omega (arith, less, both, none))
          | inr other ↦
              let none = none_in cpu [] (told part) more other along.1 in
              reach_all all (cpu + 1) w.last parts w.goes_on split.1 k (omega (arith, less, both, none))
        ]

-- ---- the journal

module _ (trace : Trace) (there : IsLawful trace) (j : Journal) (lawful : IsLawfulFor trace j) (found : FoundWereDirtied j) where
  -- each page that a task wrote was dirtied
  pub reached : (task k : ℕ) → k < count_by (writes_of task) (all_told j) → Reached (all_told j) (pages_of_task trace task) k
  reached task k less = reach_all trace task there (all_told j) 0 [] j.cpus lawful.writes (each_dirtied (all_told j) (all_told j) (λ page. omega arith) found) k less

  -- and it wrote no more than its pages
  pub no_more : (task : ℕ) → count_by (writes_of task) (all_told j) ≤ length (pages_of_task trace task)
  no_more task =
      let long = length (pages_of_task trace task) in
      elim (cases_Bool (ltb long (count_by (writes_of task) (all_told j)))) [
        | inl over ↦
            let r = reached task long (ltb-true long (count_by (writes_of task) (all_told j)) over) in
            absurd (omega (arith, slice_get_within (pages_of_task trace task) long r.0 r.1))
        | inr not ↦ ltb-false long (count_by (writes_of task) (all_told j)) not
      ]
