-- Loops that count entries and checks in one after another, and what one of them changes.
use Rattle.std.proofs.Common.{◌≡◌, ℕ, zero, suc, ◌+◌, ◌<◌, ◌≤◌, max, Bool, true, false, ◌&&◌, ◌==◌, nat_lt, cond, Some, None, List, [], ◌∷◌, ◌++◌, length, map, take, drop, get_or, All, refl, sym, ap, subst, ◌∙◌, arith, append_assoc}
use Rattle.std.proofs.Math.ListN.{set}
use Rattle.std.proofs.lemmas.Bool.Decides.{nat_tests}
use Rattle.std.proofs.lemmas.List.{take_more, take_all, take_more_set, drop-set-lt, drop_more}
use Rattle.std.proofs.lemmas.List.Elements.{All-append, All-cons}
use Rattle.wbt_replay_order.proofs.Common.{Trace, page_context, is_some_of, CheckEntry, Entry}
use Rattle.wbt_journal.specs.declared.entry.Entry.TheVariants as entry
use Rattle.wbt_forecast_rows.specs.Counts.{is_dirtied_in, is_written_in, is_write_by}
use Rattle.wbt_forecast_rows.specs.Tally.{by_number, context_after, task_after_entries, task_after_checks}
use Rattle.wbt_forecast_rows.specs.declared.tally.ContextTally.{ContextTally}
use Rattle.wbt_forecast_rows.specs.declared.tally.TaskTally.{TaskTally}
use Rattle.wbt_forecast_rows.proofs.Counting.{same_context, same_task, context_more, context_none, count_by-is, task_more_entries, task_no_entry, task_more_checks, task_one_check}
use Rattle.wbt_forecast_rows.proofs.Numbered.{none_by_number, same_by_number, twice_by_number, at_none, at_past, at_some}

short_take : {A : Type 0} (i : ℕ) (xs : List A) → length (take i xs) ≤ length xs
short_take zero xs = omega arith
short_take (suc i) [] = omega arith
short_take (suc i) (x ∷ xs) = let rest = short_take i xs in omega (arith, rest)

pub front_is_short : {A : Type 0} (i : ℕ) (xs : List A) (most : ℕ) → length xs ≤ most → length (take i xs) ≤ most
front_is_short i xs most few = omega (arith, few, short_take i xs)

same_number : (n : ℕ) → (n == n) ≡ true
same_number n = grind (arith, nat_tests)

-- ---- contexts

pub contexts_first : (trace : Trace) (xs : List ContextTally) → xs ≡ by_number (context_after trace []) 0 xs
contexts_first trace xs = sym (none_by_number (context_after trace []) 0 xs (λ c t low high. same_context _ _ (omega arith) (omega arith)))

pub contexts_next : (trace : Trace) (entries : List Entry) (i : ℕ) (d : Entry) (old now new : List ContextTally) → i < length entries
    → now ≡ by_number (context_after trace (take i entries)) 0 old
    → new ≡ by_number (context_after trace (get_or entries i d ∷ [])) 0 now
    → new ≡ by_number (context_after trace (take (i + 1) entries)) 0 old
contexts_next trace entries i d old now new less so one =
    one ∙ ap (by_number (context_after trace (get_or entries i d ∷ [])) 0) so
    ∙ twice_by_number (context_after trace (take i entries)) (context_after trace (get_or entries i d ∷ [])) 0 old
    ∙ same_by_number _ _ 0 old (λ c t. context_more trace (take i entries) (get_or entries i d ∷ []) c t)
    ∙ ap (λ (told : List Entry). by_number (context_after trace told) 0 old) (sym (take_more entries i d less))

pub contexts_end : (trace : Trace) (entries : List Entry) (i : ℕ) (old now : List ContextTally) → length entries ≤ i
    → now ≡ by_number (context_after trace (take i entries)) 0 old → now ≡ by_number (context_after trace entries) 0 old
contexts_end trace entries i old now past so = so ∙ ap (λ (told : List Entry). by_number (context_after trace told) 0 old) (take_all i entries past)

-- a write that finds its page clean
module _ (trace : Trace) (task page : ℕ) (xs : List ContextTally) where
  dirtied_others : (j : ℕ) (x : ContextTally) → is_some_of j (page_context trace page) ≡ false
      → context_after trace (entry.Write task page true ∷ []) j x ≡ x
  dirtied_others j x other = context_none trace (entry.Write task page true) j x other refl

  pub dirtied_none : page_context trace page ≡ None → xs ≡ by_number (context_after trace (entry.Write task page true ∷ [])) 0 xs
  dirtied_none is = sym (at_none (context_after trace (entry.Write task page true ∷ [])) xs (page_context trace page) dirtied_others is)

  pub dirtied_past : (k : ℕ) → page_context trace page ≡ Some k → length xs ≤ k → xs ≡ by_number (context_after trace (entry.Write task page true ∷ [])) 0 xs
  dirtied_past k is past = sym (at_past (context_after trace (entry.Write task page true ∷ [])) xs (page_context trace page) dirtied_others k is past)

  pub dirtied_at : (k : ℕ) (d : ContextTally) → page_context trace page ≡ Some k → k < length xs
      → set xs k (record (get_or xs k d) { dirtied = (get_or xs k d).dirtied + 1 }) ≡ by_number (context_after trace (entry.Write task page true ∷ [])) 0 xs
  dirtied_at k d is less =
      let e = entry.Write task page true in
      let one = count_by-is (is_dirtied_in trace k) e true (ap (is_some_of k) is ∙ same_number k) in
      let none = count_by-is (is_written_in trace k) e false refl in
      let value : record (get_or xs k d) { dirtied = (get_or xs k d).dirtied + 1 } ≡ context_after trace (e ∷ []) k (get_or xs k d) =
      same_context _ _ (omega (arith, one)) (omega (arith, none)) in
      ap (set xs k) value ∙ sym (at_some (context_after trace (e ∷ [])) xs (page_context trace page) dirtied_others k d is less)

-- the end of a page's writeback
module _ (trace : Trace) (flusher page : ℕ) (xs : List ContextTally) where
  written_others : (j : ℕ) (x : ContextTally) → is_some_of j (page_context trace page) ≡ false
      → context_after trace (entry.Done flusher page ∷ []) j x ≡ x
  written_others j x other = context_none trace (entry.Done flusher page) j x refl other

  pub written_none : page_context trace page ≡ None → xs ≡ by_number (context_after trace (entry.Done flusher page ∷ [])) 0 xs
  written_none is = sym (at_none (context_after trace (entry.Done flusher page ∷ [])) xs (page_context trace page) written_others is)

  pub written_past : (k : ℕ) → page_context trace page ≡ Some k → length xs ≤ k → xs ≡ by_number (context_after trace (entry.Done flusher page ∷ [])) 0 xs
  written_past k is past = sym (at_past (context_after trace (entry.Done flusher page ∷ [])) xs (page_context trace page) written_others k is past)

  pub written_at : (k : ℕ) (d : ContextTally) → page_context trace page ≡ Some k → k < length xs
      → set xs k (record (get_or xs k d) { written = (get_or xs k d).written + 1 }) ≡ by_number (context_after trace (entry.Done flusher page ∷ [])) 0 xs
  written_at k d is less =
      let e = entry.Done flusher page in
      let none = count_by-is (is_dirtied_in trace k) e false refl in
      let one = count_by-is (is_written_in trace k) e true (ap (is_some_of k) is ∙ same_number k) in
      let value : record (get_or xs k d) { written = (get_or xs k d).written + 1 } ≡ context_after trace (e ∷ []) k (get_or xs k d) =
      same_context _ _ (omega (arith, none)) (omega (arith, one)) in
      ap (set xs k) value ∙ sym (at_some (context_after trace (e ∷ [])) xs (page_context trace page) written_others k d is less)

-- an entry that tells no page's dirtying or end of writeback
pub nothing_of : (trace : Trace) (e : Entry) (xs : List ContextTally)
    → ((j : ℕ) → is_dirtied_in trace j e ≡ false) → ((j : ℕ) → is_written_in trace j e ≡ false) → xs ≡ by_number (context_after trace (e ∷ [])) 0 xs
nothing_of trace e xs dirtied written =
    sym (none_by_number (context_after trace (e ∷ [])) 0 xs (λ j x low high. context_none trace e j x (dirtied j) (written j)))

not_fresh : (fresh : Bool) (place : Bool) → fresh ≡ false → (fresh && place) ≡ false
not_fresh true place is = cc
not_fresh false place is = refl

pub found_dirty : (trace : Trace) (task page : ℕ) (fresh : Bool) (xs : List ContextTally) → fresh ≡ false
    → xs ≡ by_number (context_after trace (entry.Write task page fresh ∷ [])) 0 xs
found_dirty trace task page fresh xs is =
    nothing_of trace (entry.Write task page fresh) xs (λ j. not_fresh fresh (is_some_of j (page_context trace page)) is) (λ j. refl)

no_write_dirties : (trace : Trace) (e : Entry) → ((task page : ℕ) (fresh : Bool) → e ≡ entry.Write task page fresh → ⊥) → (j : ℕ) → is_dirtied_in trace j e ≡ false
no_write_dirties trace (entry.Write task page fresh) other j = absurd (other task page fresh refl)
no_write_dirties trace e other j = refl

no_done_writes : (trace : Trace) (e : Entry) → ((flusher page : ℕ) → e ≡ entry.Done flusher page → ⊥) → (j : ℕ) → is_written_in trace j e ≡ false
no_done_writes trace (entry.Done flusher page) other j = absurd (other flusher page refl)
no_done_writes trace e other j = refl

pub tells_no_page : (trace : Trace) (e : Entry) (xs : List ContextTally) → ((task page : ℕ) (fresh : Bool) → e ≡ entry.Write task page fresh → ⊥)
    → ((flusher page : ℕ) → e ≡ entry.Done flusher page → ⊥) → xs ≡ by_number (context_after trace (e ∷ [])) 0 xs
tells_no_page trace e xs not_write not_done = nothing_of trace e xs (no_write_dirties trace e not_write) (no_done_writes trace e not_done)

-- ---- tasks

pub tasks_first : (xs : List TaskTally) → xs ≡ by_number (task_after_entries []) 0 xs
tasks_first xs = sym (none_by_number (task_after_entries []) 0 xs (λ j t low high. same_task _ _ (omega arith) refl refl refl refl))

pub tasks_next : (entries : List Entry) (i : ℕ) (d : Entry) (old now new : List TaskTally) → i < length entries
    → now ≡ by_number (task_after_entries (take i entries)) 0 old → new ≡ by_number (task_after_entries (get_or entries i d ∷ [])) 0 now
    → new ≡ by_number (task_after_entries (take (i + 1) entries)) 0 old
tasks_next entries i d old now new less so one =
    one ∙ ap (by_number (task_after_entries (get_or entries i d ∷ [])) 0) so
    ∙ twice_by_number (task_after_entries (take i entries)) (task_after_entries (get_or entries i d ∷ [])) 0 old
    ∙ same_by_number _ _ 0 old (λ j t. task_more_entries (take i entries) (get_or entries i d ∷ []) j t)
    ∙ ap (λ (told : List Entry). by_number (task_after_entries told) 0 old) (sym (take_more entries i d less))

pub tasks_end : (entries : List Entry) (i : ℕ) (old now : List TaskTally) → length entries ≤ i
    → now ≡ by_number (task_after_entries (take i entries)) 0 old → now ≡ by_number (task_after_entries entries) 0 old
tasks_end entries i old now past so = so ∙ ap (λ (told : List Entry). by_number (task_after_entries told) 0 old) (take_all i entries past)

-- a write
module _ (task page : ℕ) (fresh : Bool) (xs : List TaskTally) where
  wrote_others : (j : ℕ) (x : TaskTally) → is_some_of j (Some task) ≡ false → task_after_entries (entry.Write task page fresh ∷ []) j x ≡ x
  wrote_others j x other = task_no_entry (entry.Write task page fresh) j x other

  pub wrote_past : length xs ≤ task → xs ≡ by_number (task_after_entries (entry.Write task page fresh ∷ [])) 0 xs
  wrote_past past = sym (at_past (task_after_entries (entry.Write task page fresh ∷ [])) xs (Some task) wrote_others task refl past)

  pub wrote_at : (d : TaskTally) → task < length xs
      → set xs task (record (get_or xs task d) { pages = (get_or xs task d).pages + 1 }) ≡ by_number (task_after_entries (entry.Write task page fresh ∷ [])) 0 xs
  wrote_at d less =
      let e = entry.Write task page fresh in
      let one = count_by-is (is_write_by task) e true (same_number task) in
      let value : record (get_or xs task d) { pages = (get_or xs task d).pages + 1 } ≡ task_after_entries (e ∷ []) task (get_or xs task d) =
      same_task _ _ (omega (arith, one)) refl refl refl refl in
      ap (set xs task) value ∙ sym (at_some (task_after_entries (e ∷ [])) xs (Some task) wrote_others task d refl less)

no_write_by : (e : Entry) → ((task page : ℕ) (fresh : Bool) → e ≡ entry.Write task page fresh → ⊥) → (j : ℕ) → is_write_by j e ≡ false
no_write_by (entry.Write task page fresh) other j = absurd (other task page fresh refl)
no_write_by e other j = refl

pub tells_no_write : (e : Entry) (xs : List TaskTally) → ((task page : ℕ) (fresh : Bool) → e ≡ entry.Write task page fresh → ⊥)
    → xs ≡ by_number (task_after_entries (e ∷ [])) 0 xs
tells_no_write e xs other = sym (none_by_number (task_after_entries (e ∷ [])) 0 xs (λ j x low high. task_no_entry e j x (no_write_by e other j)))

pub checks_first : (xs : List TaskTally) → xs ≡ by_number (task_after_checks []) 0 xs
checks_first xs =
    sym (none_by_number (task_after_checks []) 0 xs (λ j t low high. same_task _ _ refl (omega arith) (omega arith) (omega arith) (omega arith)))

pub checks_next : (checks : List CheckEntry) (i : ℕ) (d : CheckEntry) (old now new : List TaskTally) → i < length checks
    → now ≡ by_number (task_after_checks (take i checks)) 0 old → new ≡ by_number (task_after_checks (get_or checks i d ∷ [])) 0 now
    → new ≡ by_number (task_after_checks (take (i + 1) checks)) 0 old
checks_next checks i d old now new less so one =
    one ∙ ap (by_number (task_after_checks (get_or checks i d ∷ [])) 0) so
    ∙ twice_by_number (task_after_checks (take i checks)) (task_after_checks (get_or checks i d ∷ [])) 0 old
    ∙ same_by_number _ _ 0 old (λ j t. task_more_checks (take i checks) (get_or checks i d ∷ []) j t)
    ∙ ap (λ (told : List CheckEntry). by_number (task_after_checks told) 0 old) (sym (take_more checks i d less))

-- a check
module _ (check : CheckEntry) (xs : List TaskTally) where
  checked_others : (j : ℕ) (x : TaskTally) → is_some_of j (Some check.task) ≡ false → task_after_checks (check ∷ []) j x ≡ x
  checked_others j x other =
      task_one_check check j x false other ∙ same_task _ _ refl (omega arith) (omega arith) (omega arith) (omega arith)

  pub checked_past : length xs ≤ check.task → xs ≡ by_number (task_after_checks (check ∷ [])) 0 xs
  checked_past past = sym (at_past (task_after_checks (check ∷ [])) xs (Some check.task) checked_others check.task refl past)

  pub checked_at : (d t : TaskTally) → check.task < length xs
      → t ≡ record (get_or xs check.task d) {
        checks = (get_or xs check.task d).checks + 1;
        pauses = (get_or xs check.task d).pauses + cond (nat_lt 0 check.decision.pause) 1 0;
        ticks = (get_or xs check.task d).ticks + check.decision.pause;
        longest = max (get_or xs check.task d).longest check.decision.pause;
      }
      → set xs check.task t ≡ by_number (task_after_checks (check ∷ [])) 0 xs
  checked_at d t less is =
      ap (set xs check.task) (is ∙ sym (task_one_check check check.task (get_or xs check.task d) true (same_number check.task)))
      ∙ sym (at_some (task_after_checks (check ∷ [])) xs (Some check.task) checked_others check.task d refl less)

-- ---- lists that are cleared

pub cleared_next : {A : Type 0} (f : A → A) (xs : List A) (i : ℕ) (x d : A) → i < length xs → x ≡ f (get_or xs i d)
    → take (i + 1) (set xs i x) ++ map f (drop (i + 1) (set xs i x)) ≡ take i xs ++ map f (drop i xs)
cleared_next f xs i x d less is =
    ap (λ front. front ++ map f (drop (i + 1) (set xs i x))) (take_more_set xs i x less)
    ∙ ap (λ back. take i xs ++ x ∷ [] ++ map f back) (drop-set-lt (i + 1) xs i x (omega arith))
    ∙ append_assoc (take i xs) (x ∷ []) (map f (drop (i + 1) xs))
    ∙ ap (λ y. take i xs ++ y ∷ map f (drop (i + 1) xs)) is
    ∙ ap (λ back. take i xs ++ map f back) (sym (drop_more xs i d less))

pub done_next : {A : Type 0} (P : A → Type 0) (xs : List A) (i : ℕ) (x : A) → i < length xs → P x → All P (take i xs) → All P (take (i + 1) (set xs i x))
done_next P xs i x less here done =
    subst (All P) (sym (take_more_set xs i x less))
    (All-append P (take i xs) (x ∷ []) done (All-cons P x [] here (λ k d low. absurd (omega (arith, low)))))
