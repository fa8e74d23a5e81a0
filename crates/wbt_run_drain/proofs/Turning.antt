-- A flusher of one of all sides took a turn: the sides stand as before, and only flushers went on.
use Rattle.std.proofs.Common.{◌≡◌, ℕ, ◌<◌, Bool, List, get_or, set, Option, refl, sym, ap, ◌∙◌, subst, length-set}
use Rattle.std.proofs.lemmas.List.{get_or-set_other, get_or-set_same, map-set, set-get_or}
use mathlib.Core.Logic.{dite}
use native.Mathlib.Decide.{ℕ_discrete}
use Rattle.wbt_run_worker.proofs.Common.{Kit, Seats, puts_none, StepsInTurn, job_by, HoldsAll, Has, Trace, Desk}
use Rattle.wbt_queue.specs.Passes.{known_of}
use Rattle.wbt_run_steps.proofs.Queues.{puts_each, puts_then}
use Rattle.wbt_run_worker.specs.declared.round.JobOutcome.{JobOutcome}
use Rattle.wbt_run_worker.specs.declared.round.JobOutcome.TheVariants as job
use Rattle.wbt_run_worker.specs.declared.side.CpuSide.{CpuSide}
use Rattle.wbt_run_worker.specs.declared.side.End.{End}
use Rattle.wbt_run_worker.specs.declared.side.End.TheVariants.{Ended, Halted, Faulted, Spent, Refused, Stopped}
use Rattle.wbt_run_worker.proofs.Lists.{map_at}
use Rattle.wbt_table.specs.Layout.{domains as limits_of}
use Rattle.wbt_run_drain.specs.Standing.{AreStanding, NoneStopped, SideStands, TellTurns, WentOn}
use Rattle.wbt_run_drain.specs.Teams.{desks_of}
use Rattle.wbt_run_drain.specs.Turned.{end_by}
use Rattle.wbt_run_drain.specs.Words.{TellsTurns}
use Rattle.wbt_run_drain.proofs.Elsewhere.{keeps_side, side_still}
use Rattle.wbt_run_drain.proofs.Here.{side_now}
use Rattle.wbt_run_drain.proofs.Queued.{queued_now}
use Rattle.wbt_run_drain.proofs.Showing.{cleaned_now, in_sides, told_now}
use Rattle.wbt_run_drain.proofs.Summing.{backed_now, disks_now, moments_now}
use Rattle.wbt_run_drain.proofs.Taking.{TakesTurn, d, has_now, mine, others_keep, went}
use Rattle.wbt_run_drain.proofs.Wording.{others_stay, tells_else, timer_stays, turned_more}

-- ---- one turn after another

pub went_nowhere : {D : Type 0} (trace : Trace) (sides : List (CpuSide D)) (seats : Seats) → WentOn trace sides sides seats seats
went_nowhere trace sides seats = record { desks = refl; timer = refl; timer_log = refl; stakes = λ domain. refl; total_stakes = refl; cleaned = λ page cleaned. cleaned; stopped = λ none_stopped. none_stopped; puts = λ device. puts_none (known_of device seats.queue) (known_of device seats.queue) refl }

pub went_more : {D : Type 0} (trace : Trace) (a b c : List (CpuSide D)) (s t u : Seats) → WentOn trace a b s t → WentOn trace b c t u → WentOn trace a c s u
went_more trace a b c s t u p q = record {
  desks = q.desks ∙ p.desks;
  timer = q.timer ∙ p.timer;
  timer_log = q.timer_log ∙ p.timer_log;
  stakes = λ domain. q.stakes domain ∙ p.stakes domain;
  total_stakes = q.total_stakes ∙ p.total_stakes;
  cleaned = λ page cleaned. q.cleaned page (p.cleaned page cleaned);
  stopped = λ none_stopped. q.stopped (p.stopped none_stopped);
  puts = λ device. puts_then (known_of device s.queue) (known_of device t.queue) (known_of device u.queue) (p.puts device) (q.puts device);
}

-- ---- a turn

-- no turn in the drain tells a side to stop
was_stopped : (answer : JobOutcome) (end : End) → end_by answer end ≡ Stopped → end ≡ Stopped
was_stopped job.Stepped end is = is
was_stopped (job.Resting ticks) end is = is
was_stopped job.Over end is = is
was_stopped (job.Ends Ended) end is = is
was_stopped (job.Ends Halted) end is = absurd (let no : Halted ≡ Stopped = is in cc)
was_stopped (job.Ends Faulted) end is = is
was_stopped (job.Ends Spent) end is = is
was_stopped (job.Ends Refused) end is = absurd (let no : Refused ≡ Stopped = is in cc)
was_stopped (job.Ends Stopped) end is = is

module _ {D : Type 0} {told : ℕ → Type 0} {said : ℕ → ℕ → Bool → Type 0} {written : D → Option ℕ} {faults : D → ℕ} {trace : Trace} {kit : Kit} {sides : List (CpuSide D)}
    {c at : ℕ} {answer : JobOutcome} {side side' : CpuSide D} {seats seats' : Seats} (t : TakesTurn told said written faults trace kit sides c at answer side side' seats seats') where
  abbrev sides' : List (CpuSide D)
  sides' = set sides c side'

  holds_now : HoldsAll seats'.cpu
  holds_now = record {
    cpus = λ cpu less. dite (ℕ_discrete cpu c)
        (λ same. ((has_now t).0, subst (λ (n : ℕ). Has seats'.cpu.cpus n (has_now t).0) (sym same) (has_now t).1))
        (λ ne.
        let layout = (went t).fits.seats_are.cpu.layout ∙ sym t.standing.seats_are.cpu.layout in
        let was = t.standing.all_held.cpus cpu (subst (λ l. cpu < l.cpus) layout less) in
        (was.0, (went t).did.apart.others cpu was.0 (λ e. ne (e ∙ (mine t).cpu_is)) was.1));
    timer = (t.standing.all_held.timer.0, (went t).did.apart.timer ∙ t.standing.all_held.timer.1);
  }

  each_now : (cpu : ℕ) (default : CpuSide D) → cpu < trace.cpus → SideStands said written faults trace cpu kit (get_or sides' cpu default) seats'
  each_now cpu default less = dite (ℕ_discrete cpu c)
      (λ same. subst (λ (n : ℕ). SideStands said written faults trace n kit (get_or sides' n default) seats') (sym same)
      (subst (λ (s : CpuSide D). SideStands said written faults trace c kit s seats') (sym (get_or-set_same sides c side' default (in_sides t))) (side_now t)))
      (λ ne. subst (λ (s : CpuSide D). SideStands said written faults trace cpu kit s seats') (sym (get_or-set_other sides c cpu side' default ne))
      (side_still said written faults trace cpu kit (get_or sides cpu default) seats seats' (keeps_side cpu kit seats seats' (others_keep t cpu less ne)) (t.standing.each cpu default less)))

  -- the CPU's log tells a turn more, and those of others stay
  steps_now : StepsInTurn (limits_of kit.throttle.layout) c t.turned.turn seats seats'
  steps_now = subst (λ (n : ℕ). StepsInTurn (limits_of kit.throttle.layout) n t.turned.turn seats seats') (mine t).cpu_is t.turned.steps

  here_now : TellsTurns (limits_of kit.throttle.layout) c side'.end seats'
  here_now =
      let n : ℕ = limits_of kit.throttle.layout in
      let end_was : (get_or sides c side).end ≡ Ended = ap (λ (s : CpuSide D). s.end) t.side_is ∙ t.ended in
      let tells : TellsTurns n c Ended seats = subst (λ (e : End). TellsTurns n c e seats) end_was (t.standing.turns c side t.cpu_there) in
      let end_is : end_by (job_by t.turned.turn) Ended ≡ side'.end =
      ap (λ (a : JobOutcome). end_by a Ended) (sym t.turned.answer_is) ∙ ap (λ (e : End). end_by answer e) (sym t.ended) ∙ sym t.turned.ends in
      subst (λ (e : End). TellsTurns n c e seats') end_is (turned_more n c seats seats' tells t.turned.turn steps_now)

  turns_now : TellTurns kit trace.cpus sides' seats'
  turns_now cpu default less = let n : ℕ = limits_of kit.throttle.layout in dite (ℕ_discrete cpu c)
      (λ same. subst (λ (k : ℕ). TellsTurns n k (get_or sides' k default).end seats') (sym same)
      (subst (λ (s : CpuSide D). TellsTurns n c s.end seats') (sym (get_or-set_same sides c side' default (in_sides t))) here_now))
      (λ ne. subst (λ (s : CpuSide D). TellsTurns n cpu s.end seats') (sym (get_or-set_other sides c cpu side' default ne))
      (tells_else n cpu (get_or sides cpu default).end seats seats' (others_stay n c t.turned.turn seats seats' steps_now cpu ne) (t.standing.turns cpu default less)))

  pub stands_behind : AreStanding told said written faults trace kit sides' seats'
  stands_behind = record {
    many = length-set sides c side' ∙ t.standing.many;
    seats_are = (went t).fits.seats_are;
    all_held = holds_now;
    told_all = told_now t;
    each = each_now;
    backed = backed_now t;
    moments = moments_now t;
    disks = disks_now t;
    queued = queued_now t;
    turns = turns_now;
  }

  desks_same : desks_of sides' ≡ desks_of sides
  desks_same =
      let its : get_or (desks_of sides) c side.writers ≡ side.writers = map_at (λ (s : CpuSide D). s.writers) sides c side ∙ ap (λ (s : CpuSide D). s.writers) t.side_is in
      map-set (λ (s : CpuSide D). s.writers) sides c side'
      ∙ ap (λ (desk : Desk). set (desks_of sides) c desk) (t.turned.writers ∙ sym its) ∙ set-get_or (desks_of sides) c side.writers

  stopped_now : NoneStopped sides → NoneStopped sides'
  stopped_now none_stopped cpu other less is = dite (ℕ_discrete cpu c)
      (λ same.
      let here : get_or sides' cpu other ≡ side' = ap (λ (n : ℕ). get_or sides' n other) same ∙ get_or-set_same sides c side' other (in_sides t) in
      let ends : end_by answer side.end ≡ Stopped = sym t.turned.ends ∙ ap (λ (s : CpuSide D). s.end) (sym here) ∙ is in
      none_stopped c side (in_sides t) (ap (λ (s : CpuSide D). s.end) t.side_is ∙ was_stopped answer side.end ends))
      (λ ne. none_stopped cpu other (subst (λ (n : ℕ). cpu < n) (length-set sides c side') less)
      (ap (λ (s : CpuSide D). s.end) (sym (get_or-set_other sides c cpu side' other ne)) ∙ is))

  pub went_behind : WentOn trace sides sides' seats seats'
  went_behind = record {
    desks = desks_same;
    timer = (went t).did.apart.timer;
    timer_log = timer_stays (limits_of kit.throttle.layout) c t.turned.turn seats seats' steps_now;
    stakes = (went t).did.stakes;
    total_stakes = (went t).did.total_stakes;
    cleaned = cleaned_now t;
    stopped = stopped_now;
    puts = puts_each (d t).plan.device seats.queue seats'.queue (went t).queue;
  }
