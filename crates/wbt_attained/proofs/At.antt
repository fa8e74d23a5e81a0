-- Where such a list has come to: what stands in the state, and how a step that changes one CPU's record leaves it.
use Rattle.std.proofs.Common.{◌≡◌, ℕ, ◌<◌, ◌≤◌, List, [], ◌∷◌, pos, sym, ap, ◌∙◌, arith}
use Rattle.wbt_counter.specs.declared.counter.Counter.TheVariants.{Domain}
use Rattle.wbt_counter.specs.declared.record.Owed.{Owed}
use Rattle.wbt_counter.specs.Sums.{put}
use Rattle.wbt_counter.specs.History.{sum_of}
use Rattle.wbt_counter.proofs.Sums.{put_same, put_other, put_each}
use Rattle.wbt_book.specs.Book.{clean}
use Rattle.wbt_grant.specs.declared.record.CpuRecord.{CpuRecord}
use Rattle.wbt_grant.specs.declared.record.WriterRecord.{WriterRecord}
use Rattle.wbt_grant.specs.Setting.{Setting}
use Rattle.wbt_grant.specs.State.{State, domain_count, writer_at, opening}
use Rattle.wbt_grant.specs.Record
use Rattle.wbt_grant.specs.Kinds.{Step, Allowed, AreAllowed, after, run, with_record}
use Rattle.wbt_grant.specs.Rule.{Rule}
use Rattle.wbt_grant.proofs.Entries.{writers_same, writers_changed}

-- an allowed list leads from the state to one of which P holds
abbrev pub Goes : (set : Setting) (P : State → Type 0) (s : State) → Type 0
Goes set P s = (steps : List Step) × AreAllowed set steps s × P (run set steps s)

pub stays : (set : Setting) (P : State → Type 0) (s : State) → P s → Goes set P s
stays set P s h = ([], tt, h)

pub step_on : (set : Setting) (P : State → Type 0) (s : State) (step : Step) → Allowed set step s → Goes set P (after set step s) → Goes set P s
step_on set P s step may more = (step ∷ more.0, (may, more.1), more.2)

-- n pages are dirty, the first ones. Each CPU's own number of the domain's counter is a, and f pages are folded into it; each writer has l pages left,
-- and o is owed to counters
pub record At (set : Setting) (n f : ℕ) (a l : ℕ → ℕ) (o : ℕ → List Owed) (s : State) : Type 0 where
  pub rule : Rule set s
  pub fresh : (p : ℕ) → n ≤ p → s.book p ≡ clean
  pub counted : domain_count set s.book 0 ≡ n
  pub own : (i : ℕ) → i < set.cpus → s.own (Domain 0) i ≡ pos (a i)
  pub folded : sum_of (s.folds (Domain 0)) ≡ pos f
  pub left : (w : ℕ) → w < set.cpus → (writer_at set s.cpu w).left ≡ l w
  pub owed : (i : ℕ) → i < set.cpus → (s.cpu i).debts ≡ o i
  pub steps : (i : ℕ) → (s.cpu i).page_steps ≤ n
  pub timer : s.timer ≡ (opening set).timer

-- the same, said by other functions
pub same_at : (set : Setting) (n f : ℕ) (a l : ℕ → ℕ) (o : ℕ → List Owed) (s : State) (b m : ℕ → ℕ) (q : ℕ → List Owed)
    → ((i : ℕ) → i < set.cpus → a i ≡ b i) → ((i : ℕ) → i < set.cpus → l i ≡ m i) → ((i : ℕ) → i < set.cpus → o i ≡ q i)
    → At set n f a l o s → At set n f b m q s
same_at set n f a l o s b m q ea el eo at = record {
  rule = at.rule;
  fresh = at.fresh;
  counted = at.counted;
  own = λ i less. at.own i less ∙ ap pos (ea i less);
  folded = at.folded;
  left = λ w less. at.left w less ∙ el w less;
  owed = λ i less. at.owed i less ∙ eo i less;
  steps = at.steps;
  timer = at.timer;
}

module _ (set : Setting) (n f : ℕ) (a l : ℕ → ℕ) (o : ℕ → List Owed) (s : State) (at : At set n f a l o s) (i : ℕ) (r : CpuRecord) where
  -- the CPU's record changes, and owes what it owed
  silent : (m : ℕ → ℕ) → Rule set (with_record i r s) → r.debts ≡ (s.cpu i).debts → r.page_steps ≡ (s.cpu i).page_steps
      → ((w : ℕ) → w < set.cpus → (writer_at set (put s.cpu i r) w).left ≡ m w) → At set n f a m o (with_record i r s)
  silent m rule debts steps left = record {
    rule = rule;
    fresh = at.fresh;
    counted = at.counted;
    own = at.own;
    folded = at.folded;
    left = left;
    owed = put_each s.cpu i r (λ j y. j < set.cpus → y.debts ≡ o j) (λ less. debts ∙ at.owed i less) (λ j other. at.owed j);
    steps = put_each s.cpu i r (λ j y. y.page_steps ≤ n) (let few = at.steps i in omega arith) (λ j other. at.steps j);
    timer = at.timer;
  }

  -- and none of its writers changes
  pub recorded : Rule set (with_record i r s) → r.debts ≡ (s.cpu i).debts → r.page_steps ≡ (s.cpu i).page_steps → r.writers ≡ (s.cpu i).writers
      → At set n f a l o (with_record i r s)
  recorded rule debts steps writers = silent l rule debts steps
      (λ w less. ap (λ (g : ℕ → WriterRecord). (g w).left) (writers_same set s.cpu i r writers) ∙ at.left w less)

  -- one of its writers changes, and has k pages left
  pub rewritten : (w k : ℕ) (x : WriterRecord) → Rule set (with_record i r s) → r.debts ≡ (s.cpu i).debts → r.page_steps ≡ (s.cpu i).page_steps
      → set.seat w ≡ i → x.writer ≡ w → r.writers ≡ Record.with_writer x (s.cpu i).writers → x.left ≡ k
      → At set n f a (put l w k) o (with_record i r s)
  rewritten w k x rule debts steps seat its writers is = silent (put l w k) rule debts steps
      (λ v less. ap (λ (g : ℕ → WriterRecord). (g v).left) (writers_changed set s.cpu i r w x seat its writers)
      ∙ put_each (writer_at set s.cpu) w x (λ j y. j < set.cpus → y.left ≡ put l w k j) (λ fits. is ∙ sym (put_same l w k))
      (λ j other fits. at.left j fits ∙ sym (put_other l w k j other)) v less)
