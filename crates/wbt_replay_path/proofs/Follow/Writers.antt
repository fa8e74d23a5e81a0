-- The pages left of a CPU's writers, where one writer of one task changes.
use Rattle.std.proofs.Common.{◌≡◌, ◌≢◌, ℕ, ◌<◌, ◌⊎◌, inl, inr, min, true, cond, eqb, ℤ, List, length, get_or, refl, sym, ◌∙◌, ap, subst}
use Rattle.std.proofs.Math.ListN.{set}
use Rattle.std.proofs.lemmas.List.{get_or-set_same, get_or-set_other}
use mathlib.Core.Logic.{dite}
use native.Mathlib.Decide.{ℕ_discrete}
use Rattle.wbt_replay_order.proofs.Common.{is_writer, Trace, Counter, CpuRecord, WriterRecord, Setting, holding, new_writer, Due, Writer, writer_in, writer_of, no_task, Cpu, Flusher, ReplayTask, writers_in, writer_at, task_cpu, IsTaskOn, Suits, FollowsCpu}
use Rattle.wbt_grant.specs.Record as made
use Rattle.wbt_grant.specs.State.{writer_in as record_of}
use Rattle.wbt_grant.proofs.Entries.{entry_of-with}
use Rattle.wbt_task.specs.declared.allowance.Due.TheVariants as due

pub due_cases : (d : Due) → (d ≡ due.No) ⊎ (d ≡ due.Check)
due_cases due.No = inl refl
due_cases due.Check = inr refl

-- the record of a writer in a list, after that of one became another
pub writer_with : (setting : Setting) (v : ℕ) (x : WriterRecord) (writers : List WriterRecord)
    → record_of setting v (made.with_writer x writers) ≡ cond (eqb v x.writer) x (record_of setting v writers)
writer_with setting v x writers = entry_of-with (λ (y : WriterRecord). y.writer) (holding v (min 32 setting.cap)) v x writers

-- a task of another CPU is another task
pub tasks_elsewhere : (trace : Trace) (i j task : ℕ) (tasks : List ReplayTask) (v : ReplayTask) → task_cpu trace task ≡ i → j ≢ i → (k : ℕ) → task_cpu trace k ≡ j
    → get_or (set tasks task v) k no_task ≡ get_or tasks k no_task
tasks_elsewhere trace i j task tasks v on other k at = get_or-set_other tasks task k v no_task (λ e. other (sym at ∙ (ap (task_cpu trace) e ∙ on)))

module _ (trace : Trace) (setting : Setting) (suits : Suits trace setting) (i : ℕ) (c : Cpu) (tasks : List ReplayTask) (flushers : List Flusher) (r : CpuRecord)
    (own : Counter → ℤ) (h : FollowsCpu trace setting i c tasks flushers r own) (task k w : ℕ) (v : ReplayTask) (x : Writer) (less : task < length tasks)
    (writers : v.writers ≡ set (get_or tasks task no_task).writers k x) (k_less : k < length (get_or tasks task no_task).writers)
    (known : w < setting.writers) (task_is : (writer_at trace w).task ≡ task) (context_is : (writer_at trace w).context ≡ k) where
  -- the writer itself, and another one
  here_is : writer_in (writer_at trace w).context (get_or (set tasks task v) (writer_at trace w).task no_task) ≡ x
  here_is =
      ap (λ (n : ℕ). writer_in (writer_at trace w).context (get_or (set tasks task v) n no_task)) task_is
      ∙ (ap (writer_in (writer_at trace w).context) (get_or-set_same tasks task v no_task less)
      ∙ (ap (λ (n : ℕ). writer_in n v) context_is ∙ (ap (λ (l : List Writer). get_or l k (new_writer 0)) writers
      ∙ get_or-set_same (get_or tasks task no_task).writers k x (new_writer 0) k_less)))

  elsewhere_is : (u : ℕ) → u < setting.writers → u ≢ w
      → writer_in (writer_at trace u).context (get_or (set tasks task v) (writer_at trace u).task no_task)
      ≡ writer_in (writer_at trace u).context (get_or tasks (writer_at trace u).task no_task)
  elsewhere_is u inside n = dite (ℕ_discrete (writer_at trace u).task task)
      (λ e.
      let k_other : (writer_at trace u).context ≢ k = λ c. n (suits.once u w inside known (e ∙ sym task_is) (c ∙ sym context_is)) in
      ap (λ (m : ℕ). writer_in (writer_at trace u).context (get_or (set tasks task v) m no_task)) e
      ∙ (ap (writer_in (writer_at trace u).context) (get_or-set_same tasks task v no_task less)
      ∙ (ap (λ (l : List Writer). get_or l (writer_at trace u).context (new_writer 0)) writers
      ∙ (get_or-set_other (get_or tasks task no_task).writers k (writer_at trace u).context x (new_writer 0) k_other
      ∙ ap (λ (m : ℕ). writer_in (writer_at trace u).context (get_or tasks m no_task)) (sym e)))))
      (λ m. ap (writer_in (writer_at trace u).context) (get_or-set_other tasks task (writer_at trace u).task v no_task m))

  -- Where the writer's record has the pages that are left to it, each record of the CPU's writers has.
  pub left_changed : (records : List WriterRecord) → ((u : ℕ) → u ≢ w → record_of setting u records ≡ record_of setting u r.writers)
      → (x.due ≡ due.No → (record_of setting w records).left ≡ x.left)
      → (u : ℕ) → u < setting.writers → setting.seat u ≡ i
      → (writer_in (writer_at trace u).context (get_or (set tasks task v) (writer_at trace u).task no_task)).due ≡ due.No
      → (record_of setting u records).left ≡ (writer_in (writer_at trace u).context (get_or (set tasks task v) (writer_at trace u).task no_task)).left
  left_changed records others here u inside at free = dite (ℕ_discrete u w)
      (λ e.
      let same : writer_in (writer_at trace u).context (get_or (set tasks task v) (writer_at trace u).task no_task) ≡ x =
      ap (λ (n : ℕ). writer_in (writer_at trace n).context (get_or (set tasks task v) (writer_at trace n).task no_task)) e ∙ here_is in
      ap (λ (n : ℕ). (record_of setting n records).left) e ∙ (here (ap (λ (q : Writer). q.due) (sym same) ∙ free) ∙ ap (λ (q : Writer). q.left) (sym same)))
      (λ n.
      let same = elsewhere_is u inside n in
      ap (λ (q : WriterRecord). q.left) (others u n)
      ∙ (h.left u inside at (ap (λ (q : Writer). q.due) (sym same) ∙ free) ∙ ap (λ (q : Writer). q.left) (sym same)))

  pub checked_changed : v.context ≡ k → is_writer task k (writers_in trace) ≡ true → (n : ℕ) → IsTaskOn trace i n
      → (writer_of (get_or (set tasks task v) n no_task)).due ≡ due.Check → is_writer n (get_or (set tasks task v) n no_task).context (writers_in trace) ≡ true
  checked_changed last writer n at check = dite (ℕ_discrete n task)
      (λ e. subst (λ (m : ℕ). is_writer m (get_or (set tasks task v) m no_task).context (writers_in trace) ≡ true) (sym e)
      (ap (λ (q : ReplayTask). is_writer task q.context (writers_in trace)) (get_or-set_same tasks task v no_task less)
      ∙ (ap (λ (m : ℕ). is_writer task m (writers_in trace)) last ∙ writer)))
      (λ other.
      let same = get_or-set_other tasks task n v no_task other in
      ap (λ (q : ReplayTask). is_writer n q.context (writers_in trace)) same
      ∙ h.checked n at (ap (λ (q : ReplayTask). (writer_of q).due) (sym same) ∙ check))
