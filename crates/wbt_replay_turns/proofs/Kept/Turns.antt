-- The beginning of a CPU's turn leaves the clock, the order lines, the rotation and the timer alone.
use Rattle.std.proofs.Common.{ℕ, length, get_or, refl, ap}
use Rattle.wbt_replay_order.proofs.Common.{Trace, State, cpu_of, with_cpu, Actor, Cpu, ReplayJob, after, job_at, begin_job, begin}
use Rattle.wbt_replay_moves.specs.declared.state.Actor.TheVariants as who
use Rattle.wbt_replay_moves.specs.declared.state.ReplayJob.TheVariants as job
use Rattle.wbt_replay_moves.specs.declared.state.Whose.TheVariants as whose
use Rattle.wbt_replay_turns.proofs.Kept.Items.{Outside, Kept, Apart, apart_turn}

apart_job : (trace : Trace) (cpu place : ℕ) (j : ReplayJob) (c : Cpu) (s : State) → Apart s (begin_job trace cpu place j c s)
apart_job trace cpu place job.Writer c s =
    apart_turn trace cpu (whose.Task (get_or c.tasks place 0)) (with_cpu cpu (record c { next_task = after (length c.tasks) place }) s)
apart_job trace cpu place (job.Flusher flusher) c s = apart_turn trace cpu (whose.Flusher flusher) (with_cpu cpu c s)

pub apart_begin : (trace : Trace) (actor : Actor) (job place : ℕ) (s : State) → Apart s (begin trace actor job place s)
apart_begin trace (who.Cpu i) job place s =
    apart_job trace i place (job_at job (cpu_of i s)) (record (cpu_of i s) { next = after (length (cpu_of i s).jobs) job }) s
apart_begin trace who.Timer job place s = refl

pub kept_begin : (trace : Trace) (actor : Actor) (job place : ℕ) (s : State) → Kept s (begin trace actor job place s)
kept_begin trace actor job place s = ap (λ (o : Outside). o.order) (apart_begin trace actor job place s)
