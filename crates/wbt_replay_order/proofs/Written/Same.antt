-- Moves that write no page: what each part tells as written stays, and so do the pages that each task still has to write.
use Rattle.std.proofs.Common.{◌≡◌, ℕ, List, [], ◌∷◌, ◌++◌, get_or, flat_map, refl, sym, ◌∙◌, ap, append_assoc}
use Rattle.std.proofs.lemmas.List.{append-nil}
use Rattle.wbt_replay_order.proofs.Common.{numbers, Entry, State, no_cpu, no_task, cpu_of, with_cpu, task_of, with_task, Cpu, ReplayTask, ReplayWork, written_in}
use Rattle.wbt_replay_moves.specs.declared.state.ReplayWork.TheVariants as work
use Rattle.wbt_replay_order.proofs.Growth.Quiet.{same_at}

-- the pages that are still to be written
abbrev pub pages_of : (w : ReplayWork) → List ℕ
pages_of (work.Write inode page pages) = numbers page pages
pages_of (work.Rest ticks) = []

abbrev pub to_write : (t : ReplayTask) → List ℕ
to_write t = flat_map pages_of t.works

-- what a CPU's part tells as written by a task
abbrev pub told_by : (task : ℕ) (c : Cpu) → List ℕ
told_by task c = flat_map (written_in task) c.entries

pub record WroteIn (cpus cpus' : List Cpu) (tasks tasks' : List ReplayTask) : Type 0 where
  pub told : (i t : ℕ) → told_by t (get_or cpus' i no_cpu) ≡ told_by t (get_or cpus i no_cpu)
  pub ahead : (t : ℕ) → to_write (get_or tasks' t no_task) ≡ to_write (get_or tasks t no_task)

abbrev pub Wrote : (s u : State) → Type 0
Wrote s u = WroteIn s.cpus u.cpus s.tasks u.tasks

pub unwritten : (s : State) → Wrote s s
unwritten s = record { told = λ i t. refl; ahead = λ t. refl }

pub then_unwritten : (s u v : State) → Wrote s u → Wrote u v → Wrote s v
then_unwritten s u v h k = record { told = λ i t. k.told i t ∙ h.told i t; ahead = λ t. k.ahead t ∙ h.ahead t }

pub wrote_cpu : (cpu : ℕ) (c : Cpu) (s : State) → ((t : ℕ) → told_by t c ≡ told_by t (cpu_of cpu s)) → Wrote s (with_cpu cpu c s)
wrote_cpu cpu c s same = record { told = λ i t. same_at (told_by t) s.cpus cpu c no_cpu (same t) i; ahead = λ t. refl }

pub wrote_task : (task : ℕ) (t : ReplayTask) (s : State) → to_write t ≡ to_write (task_of task s) → Wrote s (with_task task t s)
wrote_task task t s same = record { told = λ i k. refl; ahead = same_at to_write s.tasks task t no_task same }

pub flat_push : (t : ℕ) (entries : List Entry) (e : Entry) → flat_map (written_in t) (entries ++ e ∷ []) ≡ flat_map (written_in t) entries ++ written_in t e
flat_push t [] e = append-nil (written_in t e)
flat_push t (x ∷ entries) e =
    ap (λ (l : List ℕ). written_in t x ++ l) (flat_push t entries e) ∙ sym (append_assoc (written_in t x) (flat_map (written_in t) entries) (written_in t e))

-- an entry that tells no write
pub unlogged : (e : Entry) (c : Cpu) → ((t : ℕ) → written_in t e ≡ []) → (t : ℕ) → flat_map (written_in t) (c.entries ++ e ∷ []) ≡ told_by t c
unlogged e c none t =
    flat_push t c.entries e ∙ ap (λ (l : List ℕ). flat_map (written_in t) c.entries ++ l) (none t) ∙ append-nil (flat_map (written_in t) c.entries)
