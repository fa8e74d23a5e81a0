-- A bulk run that is done dirtied just its pages, each once.
use Rattle.std.proofs.Common.{◌≡◌, ℕ, zero, suc, ◌+◌, ◌-◌, ◌<◌, ◌≤◌, inl, inr, Bool, true, false, cond, if◌then◌else◌, eqb, ltb, Option, Some, None, is_some, IfSome, List, [], ◌∷◌, ◌++◌, length, map, sum_by, count_by, flat_map, refl, sym, ◌∙◌, ap, subst, arith, append-nil}
use Rattle.std.proofs.lemmas.Bool.{cases_Bool, ltb-true, ltb-false}
use Rattle.std.proofs.lemmas.List.Sums.{sum_by-cons}
use Rattle.std.specs.List.{slice_get}
use Rattle.wbt_book.specs.declared.event.Event.TheVariants.{Absorb, Dirty, Redirty}
use Rattle.wbt_counter.specs.Sums.{total, one_if}
use Rattle.wbt_counter.proofs.Sums.{total_le}
use Rattle.wbt_io.specs.Pages.{Grows}
use Rattle.wbt_trace.specs.Bulk.{bulk_trace, pages_of}
use Rattle.wbt_trace.specs.Lawful.{IsLawful}
use Rattle.wbt_trace.specs.Sofar.{pages_in}
use Rattle.wbt_journal.specs.Each.{Each}
use Rattle.wbt_journal.specs.Effects.{Flight, Move, Write, takes, flies, lands, fails, gives_back, effect, event_by, event_of_flight, event_of_move, of_part}
use Rattle.wbt_journal.specs.Items.{all_told, parts_of}
use Rattle.wbt_journal.specs.Lawful.{DirtiedWereCompleted, FoundWereDirtied, IsLawful as IsLawfulFor}
use Rattle.wbt_journal.specs.Leaves.{WasCompleted, WroteAll, completes, dirties, writes_of}
use Rattle.wbt_journal.specs.Machine.{numbers, pages_of_task}
use Rattle.wbt_journal.specs.Text.{done_of, fresh_of}
use Rattle.wbt_journal.specs.Told.{Told}
use Rattle.wbt_journal.specs.declared.journal.Journal.{Journal}
use Rattle.wbt_journal.specs.declared.journal.Left.{Left}
use Rattle.wbt_run.specs.Running.{IsDone, IsRunOf}
use Rattle.wbt_top_plain.specs.Bulk.{bulk_line, bulk_text}
use Rattle.wbt_top_plain.specs.Written.{IsWritten}
use Rattle.wbt_top.specs.Threads.{IsBulkDone}
use Rattle.wbt_top_sums.proofs.Pages.{HasPages, HasTask, all_have_tasks}
use Rattle.wbt_top_sums.proofs.Handing.{is_completion}
use Rattle.wbt_top_sums.proofs.Sums.{adds_up, by_number, completed_once, dirties_one, dirtied_once, done_is, each_page, fresh_is, is_fresh_write, joined_each, nothing, one_of}
use Rattle.wbt_top_sums.proofs.Written.{IsDirtied, Reached, no_more, reached}

-- ---- numbers from one on

numbers_long : (from count : ℕ) → length (numbers from count) ≡ count
numbers_long from zero = refl
numbers_long from (suc count) = ap suc (numbers_long (from + 1) count)

number_at : (from count k page : ℕ) → slice_get (numbers from count) k ≡ Some page → page ≡ from + k
number_at from zero k page is = absurd (cc is)
number_at from (suc count) zero page is = let same : from ≡ page = cc is in omega (arith, same)
number_at from (suc count) (suc k) page is = let rest = number_at (from + 1) count k page is in omega (arith, rest)

-- ---- the pages of the four tasks

-- the first page of the i-th inode
abbrev first : (n i : ℕ) → ℕ
first n zero = 0
first n (suc i) = first n i + pages_of n i

pages_are : (n task : ℕ) → task < 4 → pages_of_task (bulk_trace n) task ≡ numbers (first n task) (pages_of n task)
pages_are n zero less = append-nil (numbers 0 (pages_of n 0))
pages_are n (suc zero) less =
    append-nil (numbers (pages_of n 0 + 0) (pages_of n 1)) ∙ ap (λ (from : ℕ). numbers from (pages_of n 1)) (let e : pages_of n 0 + 0 ≡ 0 + pages_of n 0 = omega arith in e)
pages_are n (suc (suc zero)) less =
    append-nil (numbers (pages_of n 0 + pages_of n 1 + 0) (pages_of n 2))
    ∙ ap (λ (from : ℕ). numbers from (pages_of n 2)) (let e : pages_of n 0 + pages_of n 1 + 0 ≡ 0 + pages_of n 0 + pages_of n 1 = omega arith in e)
pages_are n (suc (suc (suc zero))) less =
    append-nil (numbers (pages_of n 0 + pages_of n 1 + pages_of n 2 + 0) (pages_of n 3))
    ∙ ap (λ (from : ℕ). numbers from (pages_of n 3)) (let e : pages_of n 0 + pages_of n 1 + pages_of n 2 + 0 ≡ 0 + pages_of n 0 + pages_of n 1 + pages_of n 2 = omega arith in e)
pages_are n (suc (suc (suc (suc task)))) less = absurd (omega (arith, less))

-- a page is one of some task's
record IsOf (n page : ℕ) : Type 0 where
  task : ℕ
  there : task < 4
  k : ℕ
  less : k < pages_of n task
  is : page ≡ first n task + k

task_of : (n page : ℕ) → pages_in (bulk_trace n).inodes ≡ n → page < n → IsOf n page
task_of n page together less = elim (cases_Bool (ltb page (first n 1))) [
  | inl is ↦ record { task = 0; there = omega arith; k = page; less = omega (arith, ltb-true page (first n 1) is); is = omega arith }
  | inr not ↦
      let after_first = ltb-false page (first n 1) not in
      elim (cases_Bool (ltb page (first n 2))) [
        | inl is ↦ record { task = 1; there = omega arith; k = page - first n 1; less = omega (arith, ltb-true page (first n 2) is, after_first); is = omega (arith, after_first) }
        | inr not' ↦
            let after_second = ltb-false page (first n 2) not' in
            elim (cases_Bool (ltb page (first n 3))) [
              | inl is ↦ record { task = 2; there = omega arith; k = page - first n 2; less = omega (arith, ltb-true page (first n 3) is, after_second); is = omega (arith, after_second) }
              | inr not'' ↦
                  let after_third = ltb-false page (first n 3) not'' in
                  record { task = 3; there = omega arith; k = page - first n 3; less = omega (arith, less, together, after_third); is = omega (arith, after_third) }
            ]
      ]
]

-- ---- writes

abbrev is_write : (entry : Told) → Bool
is_write entry = is_some (effect entry).write

written_by : (write : Option Write) → IfSome write (λ (w : Write). w.task < 4) → total 4 (λ t. one_if (of_part false (λ (w : Write). eqb w.task t) write)) ≡ one_if (is_some write)
written_by None less = nothing 4
written_by (Some write) less = one_of 4 write.task less

written_once : (e : Told) → HasTask 4 e → total 4 (λ t. one_if (writes_of t e)) ≡ one_if (is_write e)
written_once e less = written_by (effect e).write less

-- what a flusher does dirties no page
move_dirties : (move : Move) → one_if (of_part false dirties_one (event_of_move move)) ≡ 0
move_dirties (takes page) = refl
move_dirties (lands page) = refl
move_dirties (flies count now until) = refl
move_dirties (fails count) = refl
move_dirties (gives_back page true) = refl
move_dirties (gives_back page false) = refl

flight_dirties : (flight : Option Flight) → one_if (of_part false dirties_one (event_of_flight flight)) ≡ 0
flight_dirties None = refl
flight_dirties (Some flight) = move_dirties flight.move

-- a fresh write is a write
fresh_by : (write : Option Write) (flight : Option Flight) → one_if (of_part false dirties_one (event_by write flight)) ≤ one_if (is_some write)
fresh_by None flight = omega (arith, flight_dirties flight)
fresh_by (Some write) flight = by_fresh write.fresh
  where
    by_fresh : (fresh : Bool) → one_if (of_part false dirties_one (if fresh then Some (Dirty write.page) else None)) ≤ 1
    by_fresh true = omega arith
    by_fresh false = omega arith

fresh_least : (e : Told) → one_if (is_fresh_write e) ≤ one_if (is_write e)
fresh_least e = fresh_by (effect e).write (effect e).flight

fresh_few : (entries : List Told) → count_by is_fresh_write entries ≤ count_by is_write entries
fresh_few [] = omega arith
fresh_few (e ∷ entries) =
    let a = sum_by-cons (λ (x : Told). cond (is_fresh_write x) 1 0) e entries in
    let b = sum_by-cons (λ (x : Told). cond (is_write x) 1 0) e entries in
    omega (arith, a, b, fresh_least e, fresh_few entries)

ones : (n : ℕ) → total n (λ p. 1) ≡ n
ones zero = refl
ones (suc n) = omega (arith, ones n)

-- ---- the run

module _ (n : ℕ) (there : IsLawful (bulk_trace n)) (j : Journal) (lawful : IsLawfulFor (bulk_trace n) j) (found : FoundWereDirtied j)
    (written : WroteAll (bulk_trace n) (all_told j) 0 (bulk_trace n).tasks) (many : pages_in (bulk_trace n).inodes ≡ n) where
  abbrev all : List Told
  all = all_told j

  long : (task : ℕ) → task < 4 → length (pages_of_task (bulk_trace n) task) ≡ pages_of n task
  long task less = ap length (pages_are n task less) ∙ numbers_long (first n task) (pages_of n task)

  -- each task wrote just its pages
  least : (task : ℕ) → task < 4 → length (pages_of_task (bulk_trace n) task) ≤ count_by (writes_of task) all
  least zero less = written.0
  least (suc zero) less = written.1.0
  least (suc (suc zero)) less = written.1.1.0
  least (suc (suc (suc zero))) less = written.1.1.1.0
  least (suc (suc (suc (suc task)))) less = absurd (omega (arith, less))

  each_task : (task : ℕ) → task < 4 → count_by (writes_of task) all ≡ pages_of n task
  each_task task less = omega (arith, least task less, no_more (bulk_trace n) there j lawful found task, long task less)

  -- and each of them was dirtied
  dirtied : (page : ℕ) → page < n → IsDirtied all page
  dirtied page less =
      let of = task_of n page many less in
      let r = reached (bulk_trace n) there j lawful found of.task of.k (omega (arith, of.less, each_task of.task of.there)) in
      let at = subst (λ (l : List ℕ). slice_get l of.k ≡ Some r.0) (pages_are n of.task of.there) r.1 in
      let same : r.0 ≡ page = number_at (first n of.task) (pages_of n of.task) of.k r.0 at ∙ sym of.is in
      subst (IsDirtied all) same r.2

  by_task : total 4 (λ t. count_by (writes_of t) all) ≡ count_by is_write all
  by_task = by_number 4 (HasTask 4) writes_of is_write written_once all (joined_each (HasTask 4) j.cpus (all_have_tasks (bulk_trace n) there 0 [] (parts_of j) lawful.writes))

  by_page : total n (λ p. count_by (dirties p) all) ≡ count_by is_fresh_write all
  by_page = by_number n (HasPages n) dirties is_fresh_write (dirtied_once n) all
      (subst (λ (m : ℕ). Each (HasPages m) all) many (each_page (bulk_trace n) there j lawful))

  pub all_are_fresh : fresh_of j.cpus ≡ n
  all_are_fresh =
      let one_each = total_le n (λ p. 1) (λ p. count_by (dirties p) all) dirtied in
      omega (arith, fresh_is (bulk_trace n) there j lawful, by_page, one_each, ones n, fresh_few all, by_task, each_task 0 (omega arith), each_task 1 (omega arith), each_task 2 (omega arith), each_task 3 (omega arith), many)

  -- each of them was completed then, where none is left
  pub all_are_completed : DirtiedWereCompleted (bulk_trace n) j → j.left ≡ [] → n ≤ done_of j.cpus
  all_are_completed completed none =
      let each : (page : ℕ) → page < n → 1 ≤ count_by (completes page) all
      = λ page less. let once = dirtied page less in
      let was : 1 ≤ count_by (completes page) all + 0 + 0
      = subst (λ (l : List Left). WasCompleted all l page) none (completed page (subst (λ (m : ℕ). page < m) (sym many) less)) once in omega (arith, was) in
      let by = by_number n (HasPages n) completes is_completion (completed_once n) all
      (subst (λ (m : ℕ). Each (HasPages m) all) many (each_page (bulk_trace n) there j lawful)) in
      let least = total_le n (λ p. 1) (λ p. count_by (completes p) all) each in
      omega (arith, by, least, ones n, (done_is (bulk_trace n) there j lawful).1)

-- what its line says then
pub bulk_done : (n : ℕ) → IsLawful (bulk_trace n) → pages_in (bulk_trace n).inodes ≡ n → (told : ℕ → Type 0) (pages pages' : Option ℕ) (faults faults' : ℕ) (j : Journal)
    → IsRunOf told (bulk_trace n) pages pages' faults faults' j → IsDone (bulk_trace n) j → (before now : Option (List ℕ)) → IsWritten before now (bulk_text n j) → IsBulkDone n pages pages' before now
bulk_done n there many told pages pages' faults faults' j run ended before now bytes =
    let fresh = all_are_fresh n there j run.lawful run.found ended.written many in
    let sums = adds_up (bulk_trace n) there j run.lawful in
    let least = all_are_completed n there j run.lawful run.found ended.written many run.completed ended.none_left in
    let all = sums.cleaned ended.none_left in
    let cleaned : done_of j.cpus ≡ n = omega (arith, fresh, least, all) in
    let handed = sums.no_more ended.none_left ∙ cleaned in
    record {
      disks = subst (λ (m : ℕ). Grows (Some m) pages pages') handed run.disks;
      wrote = subst (IsWritten before now) (λ i. bulk_line n (fresh i) (cleaned i) (length (ended.none_left i))) bytes;
    }
