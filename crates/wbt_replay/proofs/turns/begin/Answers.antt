use Rattle.std.proofs.Common.{◌≡◌, ◌<◌, length, sym, ◌∙◌, ap, subst, arith}
use Rattle.std.proofs.lemmas.List.{length-set}
use Rattle.std.specs.Prelude.{OnOk}
use Rattle.wbt_replay_order.proofs.Common.{State, cpu_of, seen, Actor, ReplayJob, after, begin, turn_at}
use Rattle.wbt_replay_moves.specs.declared.state.Actor.TheVariants as who
use Rattle.wbt_replay_order.specs.Kept.Seeks.{JobBegins}
use Rattle.wbt_replay_order.specs.declared.chance.Chance.TheVariants as chance
use Rattle.wbt_replay_order.proofs.Facts.Actors.{there_by_turn}
use Rattle.wbt_replay.proofs.Ordering.Fitting.{begin_fits, turned_to}
use Rattle.wbt_replay.proofs.Ordering.Beginning.{begun}
use Rattle.wbt_replay.proofs.turns.begin.Goals as goal

pub take_job-taken-requires-clause-cpu : goal.take_job-taken-requires-clause-cpu
take_job-taken-requires-clause-cpu c =
    let s = seen c.args.machine.now in
    there_by_turn s c.in-Cpu.cpu c.args.job c.args.place (ap (λ (a : Actor). turn_at a s) (sym c.in-Cpu.is) ∙ c.requires.found)

pub take_job-taken-requires-clause-place : goal.take_job-taken-requires-clause-place
take_job-taken-requires-clause-place c =
    let s = seen c.args.machine.now in
    let i = c.in-Cpu.cpu in
    let found : turn_at (who.Cpu i) s ≡ chance.Begins c.args.job c.args.place = ap (λ (a : Actor). turn_at a s) (sym c.in-Cpu.is) ∙ c.requires.found in
    let there = there_by_turn s i c.args.job c.args.place found in
    (begin_fits c.args.trace.now c.requires.facts s c.requires.sound i there c.args.job c.args.place found).job

pub begin_job-requires-clause-cpu : goal.begin_job-requires-clause-cpu
begin_job-requires-clause-cpu c =
    let s = seen c.args.machine.now in
    let i = c.in-Cpu.cpu in
    let there = there_by_turn s i c.args.job c.args.place (ap (λ (a : Actor). turn_at a s) (sym c.in-Cpu.is) ∙ c.requires.found) in
    let many = length-set s.cpus i (record (cpu_of i s) { next = after (length (cpu_of i s).jobs) c.args.job }) in
    subst (λ (x : State). i < length x.cpus) (sym c.take_job-taken.ensures.next) (omega (arith, there, many))

pub begin_job-requires-clause-fits : goal.begin_job-requires-clause-fits
begin_job-requires-clause-fits c =
    let trace = c.args.trace.now in
    let s = seen c.args.machine.now in
    let i = c.in-Cpu.cpu in
    let found : turn_at (who.Cpu i) s ≡ chance.Begins c.args.job c.args.place = ap (λ (a : Actor). turn_at a s) (sym c.in-Cpu.is) ∙ c.requires.found in
    let there = there_by_turn s i c.args.job c.args.place found in
    let fits = (begin_fits trace c.requires.facts s c.requires.sound i there c.args.job c.args.place found).fits in
    subst (λ (x : State). JobBegins trace i c.args.place c.take_job-taken.result x) (sym c.take_job-taken.ensures.next)
    (subst (λ (j : ReplayJob). JobBegins trace i c.args.place j (turned_to trace c.requires.facts s c.requires.sound i c.args.job)) (sym c.take_job-taken.ensures.job) fits)

pub returns-in-Cpu : goal.returns-in-Cpu
returns-in-Cpu c =
    let trace = c.args.trace.now in
    let s = seen c.args.machine.now in
    let i = c.in-Cpu.cpu in
    let found : turn_at (who.Cpu i) s ≡ chance.Begins c.args.job c.args.place = ap (λ (a : Actor). turn_at a s) (sym c.in-Cpu.is) ∙ c.requires.found in
    let there = there_by_turn s i c.args.job c.args.place found in
    subst (λ (a : Actor). OnOk c.begin_job.result (seen c.begin_job.new.machine ≡ begin trace a c.args.job c.args.place s)) (sym c.in-Cpu.is)
    (begun trace s i c.args.job c.args.place there _ c.take_job-taken.ensures.job (seen c.take_job-taken.new.machine) c.take_job-taken.ensures.next
    c.begin_job.result (seen c.begin_job.new.machine) c.begin_job.ensures)
