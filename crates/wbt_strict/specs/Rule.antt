-- The rule by which a context of a strict device is bounded: how many pages it has beyond what its writers have left to use up.
use Rattle.std.specs.Prelude.{◌≡◌, ℕ, ◌+◌, ◌-◌, ◌≤◌, true, cond, ◌==◌, List, [], ◌∷◌}
use Rattle.wbt_counter.specs.Sums.{total, one_if}
use Rattle.wbt_counter.specs.Batch.{stat_error}
use Rattle.wbt_counter.specs.Through.{fits}
use Rattle.wbt_book.specs.Book.{Book}
use Rattle.wbt_grant.specs.declared.record.WriterRecord.{WriterRecord}
use Rattle.wbt_grant.specs.Setting.{Setting}
use Rattle.wbt_grant.specs.State.{State, context_count, writer_at}
use Rattle.wbt_grant.specs.Kinds.{Step, grant, after}

-- how many pages a writer may dirty with what it has now: a grant gives at most cap, and needs a kept reading of the context of at most
-- `most` pages
abbrev pub strict_pot : (set : Setting) (most : ℕ) (x : WriterRecord) → ℕ
strict_pot set most x = cond (fits most x.context_reading) set.cap x.left

-- how much less than cap the writers of the context k may dirty together
abbrev pub strict_slack : (set : Setting) (k most : ℕ) (writers : ℕ → WriterRecord) → ℕ
strict_slack set k most writers = total set.writers (λ w. cond (set.works_in w == k) (set.cap - strict_pot set most (writers w)) 0)

-- the context's count, less that, is at most `most` and a batch for each CPU
abbrev pub IsStrictlyWithin : (set : Setting) (k most : ℕ) (book : Book) (writers : ℕ → WriterRecord) → Type 0
IsStrictlyWithin set k most book writers = context_count set book k ≤ most + stat_error set.cpus + strict_slack set k most writers

-- the strict rule of the context k in a state
abbrev pub StrictRule : (set : Setting) (k most : ℕ) (s : State) → Type 0
StrictRule set k most s = IsStrictlyWithin set k most s.book (writer_at set s.cpu)

-- a grant to a writer of the context k has a kept reading of the context of at most `most` pages; every other step is as it may be
abbrev pub IsStrict : (set : Setting) (k most : ℕ) (step : Step) (s : State) → Type 0
IsStrict set k most (grant w pages) s = set.works_in w ≡ k → fits most (writer_at set s.cpu w).context_reading ≡ true
IsStrict set k most other s = Unit {0}

-- each step of a list is strict in the state that the ones before it lead to
abbrev pub AreStrict : (set : Setting) (k most : ℕ) (steps : List Step) (s : State) → Type 0
AreStrict set k most [] s = Unit {0}
AreStrict set k most (step ∷ rest) s = IsStrict set k most step s × AreStrict set k most rest (after set step s)

-- how many writers a context has
abbrev pub writers_in_context : (set : Setting) (k : ℕ) → ℕ
writers_in_context set k = total set.writers (λ w. one_if (set.works_in w == k))
