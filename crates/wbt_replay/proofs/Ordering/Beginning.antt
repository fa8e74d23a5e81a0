-- A CPU that begins a turn: the job is taken first, then its turn begins.
use Rattle.std.proofs.Common.{◌≡◌, ℕ, ◌<◌, length, get_or, ◌∙◌, ap}
use Rattle.std.proofs.lemmas.List.{get_or-set_same, set-set}
use Rattle.std.specs.Prelude.{OnOk, Result, Ok, Err}
use Rattle.std.specs.declared.alloc.AllocError.{AllocError}
use Rattle.wbt_replay_order.proofs.Common.{Trace, begin_turn, State, cpu_of, no_cpu, with_cpu, Cpu, ReplayJob, after, begin, begin_job, job_at}
use Rattle.wbt_replay_moves.specs.declared.state.Actor.TheVariants as who
use Rattle.wbt_replay_moves.specs.declared.state.ReplayJob.TheVariants as job
use Rattle.wbt_replay_moves.specs.declared.state.Whose.TheVariants as whose

twice : (cpu : ℕ) (a b : Cpu) (s : State) → with_cpu cpu b (with_cpu cpu a s) ≡ with_cpu cpu b s
twice cpu a b s = ap (λ cs. record s { cpus = cs }) (set-set s.cpus cpu a b)

-- the CPU's record is there already, so that it is put there twice
same_begin : (trace : Trace) (cpu place : ℕ) (j : ReplayJob) (c : Cpu) (s : State) → begin_job trace cpu place j c (with_cpu cpu c s) ≡ begin_job trace cpu place j c s
same_begin trace cpu place job.Writer c s =
    ap (begin_turn trace cpu (whose.Task (get_or c.tasks place 0))) (twice cpu c (record c { next_task = after (length c.tasks) place }) s)
same_begin trace cpu place (job.Flusher flusher) c s = ap (begin_turn trace cpu (whose.Flusher flusher)) (twice cpu c c s)

module _ (trace : Trace) (s : State) (cpu which place : ℕ) (less : cpu < length s.cpus) where
  abbrev pub turned : Cpu
  turned = record (cpu_of cpu s) { next = after (length (cpu_of cpu s).jobs) which }

  after_is : (j : ReplayJob) → j ≡ job_at which (cpu_of cpu s) → (t : State) → t ≡ with_cpu cpu turned s
      → begin_job trace cpu place j (cpu_of cpu t) t ≡ begin trace (who.Cpu cpu) which place s
  after_is j is t next =
      let here : cpu_of cpu t ≡ turned = ap (cpu_of cpu) next ∙ get_or-set_same s.cpus cpu turned no_cpu less in
      ap (λ (c : Cpu). begin_job trace cpu place j c t) here ∙ ap (begin_job trace cpu place j turned) next ∙ same_begin trace cpu place j turned s
      ∙ ap (λ (k : ReplayJob). begin_job trace cpu place k turned s) is

  pub begun : (j : ReplayJob) → j ≡ job_at which (cpu_of cpu s) → (t : State) → t ≡ with_cpu cpu turned s → (r : Result (Unit {0}) AllocError) (u : State)
      → OnOk r (u ≡ begin_job trace cpu place j (cpu_of cpu t) t) → OnOk r (u ≡ begin trace (who.Cpu cpu) which place s)
  begun j is t next (Ok x) u same = same ∙ after_is j is t next
  begun j is t next (Err e) u same = tt
