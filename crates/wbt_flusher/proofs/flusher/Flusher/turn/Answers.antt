-- Memory was taken, inodes that waited were put, and then it took its turn.
use Rattle.wbt_flusher.proofs.Common.{asked_more, asked_none, CpuJournal, FlusherAnswers, Went, Moments, sight, IsWithinQuota, PutsBefore, NoMemory, none_as}
use Rattle.std.proofs.Common.{◌≡◌, ℕ, Bool, List, ⊎_elim, length, refl, sym, ◌∙◌, subst}
use Rattle.wbt_kit.proofs.Common.{HasRisen}
use Rattle.wbt_flusher.specs.Answers.{IsLeft}
use Rattle.wbt_flusher.specs.Cut.{DoesNothing, FailsTook, FindsNothing, StopsTook}
use Rattle.wbt_flusher.specs.Took.{Took}
use Rattle.wbt_flusher.specs.declared.work.Phase.{Phase}
use Rattle.wbt_flusher.proofs.Aged.{wheel_order, writes_in_time, writes_what_is_due}
use Rattle.wbt_flusher.proofs.Cutting.{after_puts}
use Rattle.wbt_flusher.proofs.Ending.{answers_after, as_answers, left_more}
use Rattle.wbt_flusher.proofs.Going.{goes_kept, went_more}
use Rattle.wbt_flusher.proofs.Keeping.{kept_by}
use Rattle.wbt_flusher.proofs.Quotas.{steady_within}
use Rattle.wbt_run_steps.specs.Kinds.{StepsInTurn}
use Rattle.wbt_table.specs.Layout.{domains}
use Rattle.wbt_run_steps.proofs.Logging.{turn_behind}
use Rattle.wbt_flusher.proofs.Turning.{turn_rests}
use Rattle.wbt_flusher.proofs.flusher.Flusher.turn.Goals as goal

pub returns-in-Err-clause-answers : goal.returns-in-Err-clause-answers
returns-in-Err-clause-answers g c =
    let s = c.reserve.ensures.same in
    record {
      left = record { phase = s.phase; batch = s.batch; faults = s.faults; hard = s.hard; tallies = s.tallies; wheel = s.wheel; places = s.places; cpu = refl; share = refl; est = refl; log = c.close.ensures ∙ c.reserve.ensures.log ∙ c.open-pen.ensures };
      queue = refl;
      waiting = s.waiting;
      some_wait = s.some_wait;
      written = refl;
    }

pub returns-in-Err-clause-asked : goal.returns-in-Err-clause-asked
returns-in-Err-clause-asked g c = asked_none c.args.self.now.plan.cpu (g.G.Gate.said c.args.hands.now.gate.now) c.args.seats.now c.args.seats.now refl

pub returns-in-Ok-clause-asked : goal.returns-in-Ok-clause-asked
returns-in-Ok-clause-asked g c =
    asked_more c.args.self.now.plan.cpu (g.G.Gate.said c.args.hands.now.gate.now) c.args.seats.now c.put_waiting.new.seats c.turn_on-answer.new.seats
    (asked_none c.args.self.now.plan.cpu (g.G.Gate.said c.args.hands.now.gate.now) c.args.seats.now c.put_waiting.new.seats c.put_waiting.ensures.only_queue.cpu) c.turn_on-answer.ensures.asked

pub returns-in-Ok-clause-answers : goal.returns-in-Ok-clause-answers
returns-in-Ok-clause-answers g c =
    let plan = c.args.self.now.plan in
    let kit = c.args.hands.now.kit.now in
    let drain = c.args.drain in
    let told = g.C.Clock.told c.args.hands.now.clock.now in
    let said = g.G.Gate.said c.args.hands.now.gate.now in
    let t = c.turn_on-answer in
    let risen = HasRisen (g.D.Disk.faults c.args.self.now.disk) (g.D.Disk.faults t.new.self.disk) in
    let written = g.D.Disk.written c.args.self.now.disk in
    let behind = g.D.Disk.written t.new.self.disk in
    let was = c.args.self.now.work in
    let is = c.reserve.new.work in
    let seats = c.args.seats.now in
    let pen = c.reserve.new.pen.log in
    let log : pen ≡ c.args.log.now = c.reserve.ensures.log ∙ c.open-pen.ensures in
    let s = c.reserve.ensures.same in
    let o = c.put_waiting.ensures.only_waiting in
    let q = c.put_waiting.ensures.only_queue in
    let old = sight was seats c.args.log.now written in
    let mid = sight is seats pen written in
    let put = sight c.put_waiting.new.work c.put_waiting.new.seats pen written in
    let goes = goes_kept plan kit seats was is c.requires.ready.fits (kept_by plan seats was is s.phase s.batch s.faults (λ i. (s.tallies i).items) s.wheel) in
    let reserved : (moments : Moments) → Went plan kit moments old mid =
    λ moments. subst (λ (l : CpuJournal). Went plan kit moments old (sight is seats l written)) (sym log) (goes moments c.args.log.now written) in
    let first : (moments : Moments) → Went plan kit moments old put =
    λ moments. went_more plan kit moments old mid put (reserved moments) (c.put_waiting.ensures.goes moments pen written) in
    let left : IsLeft old put = left_more old mid put
    (record { phase = s.phase; batch = s.batch; faults = s.faults; hard = s.hard; tallies = s.tallies; wheel = s.wheel; places = s.places; cpu = refl; share = refl; est = refl; log = log })
    (record { phase = o.phase; batch = λ i. (o.batch i).items; faults = o.faults; hard = o.hard; tallies = o.tallies; wheel = o.wheel; places = o.places; cpu = q.cpu; share = q.share; est = q.est; log = refl }) in
    let new = sight t.new.self.work t.new.seats t.new.pen.log behind in
    subst (λ (l : CpuJournal). FlusherAnswers plan kit drain told said risen t.result old (sight t.new.self.work t.new.seats l behind)) (sym c.close-in-Ok.ensures)
    (as_answers plan kit drain told said risen t.result old new (answers_after plan kit drain told said risen old put new first left t.result t.ensures.answers))

pub returns-in-Ok-clause-took : goal.returns-in-Ok-clause-took
returns-in-Ok-clause-took g c is =
    let plan = c.args.self.now.plan in
    let kit = c.args.hands.now.kit.now in
    let t = c.turn_on-answer in
    let written = g.D.Disk.written c.args.self.now.disk in
    let seats = c.args.seats.now in
    let pen = c.reserve.new.pen.log in
    let s = c.reserve.ensures.same in
    let o = c.put_waiting.ensures.only_waiting in
    let q = c.put_waiting.ensures.only_queue in
    let p = c.put_waiting.new in
    let put = sight p.work p.seats pen written in
    record {
      put = put;
      left = left_more (sight c.args.self.now.work seats c.args.log.now written) (sight c.reserve.new.work seats pen written) put
          (record { phase = s.phase; batch = s.batch; faults = s.faults; hard = s.hard; tallies = s.tallies; wheel = s.wheel; places = s.places; cpu = refl; share = refl; est = refl; log = c.reserve.ensures.log ∙ c.open-pen.ensures })
          (record { phase = o.phase; batch = λ i. (o.batch i).items; faults = o.faults; hard = o.hard; tallies = o.tallies; wheel = o.wheel; places = o.places; cpu = q.cpu; share = q.share; est = q.est; log = refl });
      puts = subst (λ (l : List Bool). PutsBefore plan kit (length plan.inodes) seats.queue p.seats.queue l p.work.waiting.items p.work.some_wait)
          (λ i. (s.waiting i).items) c.put_waiting.ensures.puts;
      took = subst (λ (l : CpuJournal). Took plan kit c.args.drain (g.C.Clock.told c.args.hands.now.clock.now) (g.G.Gate.said c.args.hands.now.gate.now) put
          (sight t.new.self.work t.new.seats l (g.D.Disk.written t.new.self.disk))) (sym c.close-in-Ok.ensures) (t.ensures.took is);
    }

pub returns-in-Ok-clause-halts : goal.returns-in-Ok-clause-halts
returns-in-Ok-clause-halts g c is =
    let plan = c.args.self.now.plan in
    let kit = c.args.hands.now.kit.now in
    let t = c.turn_on-answer in
    let p = c.put_waiting in
    let written = g.D.Disk.written c.args.self.now.disk in
    let put = sight p.new.work p.new.seats c.reserve.new.pen.log written in
    let Does = StopsTook plan kit c.args.drain (g.C.Clock.told c.args.hands.now.clock.now) (g.G.Gate.said c.args.hands.now.gate.now) in
    after_puts plan kit Does c.args.self.now.work c.reserve.new.work p.new.work c.args.seats.now p.new.seats c.args.log.now c.reserve.new.pen.log written
    (sight t.new.self.work t.new.seats c.close-in-Ok.new.log (g.D.Disk.written t.new.self.disk)) c.reserve.ensures.same (c.reserve.ensures.log ∙ c.open-pen.ensures) p.ensures.only_waiting p.ensures.only_queue p.ensures.puts
    (subst (λ (l : CpuJournal). Does put (sight t.new.self.work t.new.seats l (g.D.Disk.written t.new.self.disk))) (sym c.close-in-Ok.ensures) (t.ensures.halts is))

pub returns-in-Ok-clause-fails : goal.returns-in-Ok-clause-fails
returns-in-Ok-clause-fails g c is =
    let plan = c.args.self.now.plan in
    let kit = c.args.hands.now.kit.now in
    let t = c.turn_on-answer in
    let p = c.put_waiting in
    let written = g.D.Disk.written c.args.self.now.disk in
    let put = sight p.new.work p.new.seats c.reserve.new.pen.log written in
    after_puts plan kit (FailsTook plan kit) c.args.self.now.work c.reserve.new.work p.new.work c.args.seats.now p.new.seats c.args.log.now c.reserve.new.pen.log written
    (sight t.new.self.work t.new.seats c.close-in-Ok.new.log (g.D.Disk.written t.new.self.disk)) c.reserve.ensures.same (c.reserve.ensures.log ∙ c.open-pen.ensures) p.ensures.only_waiting p.ensures.only_queue p.ensures.puts
    (subst (λ (l : CpuJournal). FailsTook plan kit put (sight t.new.self.work t.new.seats l (g.D.Disk.written t.new.self.disk))) (sym c.close-in-Ok.ensures) (t.ensures.fails is))

pub returns-in-Err-clause-within_quota : goal.returns-in-Err-clause-within_quota
returns-in-Err-clause-within_quota g c =
    let plan = c.args.self.now.plan in
    let phase = c.args.self.now.work.phase in
    let was = c.args.self.now.work.batch.items in
    subst (λ (l : List ℕ). IsWithinQuota phase l) (sym c.reserve.ensures.same.batch) (steady_within plan was phase c.requires.ready.steady.phase)

pub returns-in-Ok-clause-within_quota : goal.returns-in-Ok-clause-within_quota
returns-in-Ok-clause-within_quota g c =
    let same = c.put_waiting.ensures.only_waiting.phase ∙ c.reserve.ensures.same.phase in
    subst (λ (p : Phase). IsWithinQuota p c.turn_on-answer.new.self.work.batch.items) same c.turn_on-answer.ensures.within_quota

pub returns-in-Ok-clause-waits : goal.returns-in-Ok-clause-waits
returns-in-Ok-clause-waits g c n u is =
    let plan = c.args.self.now.plan in
    let kit = c.args.hands.now.kit.now in
    let t = c.turn_on-answer in
    let p = c.put_waiting in
    let written = g.D.Disk.written c.args.self.now.disk in
    let put = sight p.new.work p.new.seats c.reserve.new.pen.log written in
    after_puts plan kit DoesNothing c.args.self.now.work c.reserve.new.work p.new.work c.args.seats.now p.new.seats c.args.log.now c.reserve.new.pen.log written
    (sight t.new.self.work t.new.seats c.close-in-Ok.new.log (g.D.Disk.written t.new.self.disk)) c.reserve.ensures.same (c.reserve.ensures.log ∙ c.open-pen.ensures) p.ensures.only_waiting p.ensures.only_queue p.ensures.puts
    (subst (λ (l : CpuJournal). DoesNothing put (sight t.new.self.work t.new.seats l (g.D.Disk.written t.new.self.disk))) (sym c.close-in-Ok.ensures) (⊎_elim (t.ensures.waits n u) t.ensures.spends is))

pub returns-in-Ok-clause-done : goal.returns-in-Ok-clause-done
returns-in-Ok-clause-done g c is =
    let plan = c.args.self.now.plan in
    let kit = c.args.hands.now.kit.now in
    let t = c.turn_on-answer in
    let p = c.put_waiting in
    let written = g.D.Disk.written c.args.self.now.disk in
    let put = sight p.new.work p.new.seats c.reserve.new.pen.log written in
    after_puts plan kit (FindsNothing plan) c.args.self.now.work c.reserve.new.work p.new.work c.args.seats.now p.new.seats c.args.log.now c.reserve.new.pen.log written
    (sight t.new.self.work t.new.seats c.close-in-Ok.new.log (g.D.Disk.written t.new.self.disk)) c.reserve.ensures.same (c.reserve.ensures.log ∙ c.open-pen.ensures) p.ensures.only_waiting p.ensures.only_queue p.ensures.puts
    (subst (λ (l : CpuJournal). FindsNothing plan put (sight t.new.self.work t.new.seats l (g.D.Disk.written t.new.self.disk))) (sym c.close-in-Ok.ensures) (t.ensures.done is))

-- ---- writeback by age

pub returns-in-Err-clause-in_time : goal.returns-in-Err-clause-in_time
returns-in-Err-clause-in_time g c =
    let plan = c.args.self.now.plan in
    let written = g.D.Disk.written c.args.self.now.disk in
    writes_in_time plan c.args.hands.now.kit.now (g.C.Clock.told c.args.hands.now.clock.now) (sight c.args.self.now.work c.args.seats.now c.args.log.now written) (sight c.reserve.new.work c.args.seats.now c.close.new.log written)
    (wheel_order plan c.args.self.now.work.wheel c.requires.ready.steady.lists.wheel) c.args.drain (g.G.Gate.said c.args.hands.now.gate.now) ⊥ NoMemory (returns-in-Err-clause-answers g c)

pub returns-in-Ok-clause-in_time : goal.returns-in-Ok-clause-in_time
returns-in-Ok-clause-in_time g c =
    let plan = c.args.self.now.plan in
    let t = c.turn_on-answer in
    writes_in_time plan c.args.hands.now.kit.now (g.C.Clock.told c.args.hands.now.clock.now) (sight c.args.self.now.work c.args.seats.now c.args.log.now (g.D.Disk.written c.args.self.now.disk))
    (sight t.new.self.work t.new.seats c.close-in-Ok.new.log (g.D.Disk.written t.new.self.disk)) (wheel_order plan c.args.self.now.work.wheel c.requires.ready.steady.lists.wheel) c.args.drain (g.G.Gate.said c.args.hands.now.gate.now)
    (HasRisen (g.D.Disk.faults c.args.self.now.disk) (g.D.Disk.faults t.new.self.disk)) t.result (returns-in-Ok-clause-answers g c)

pub returns-in-Ok-clause-ages : goal.returns-in-Ok-clause-ages
returns-in-Ok-clause-ages g c is idle =
    let t = c.turn_on-answer in
    writes_what_is_due c.args.self.now.plan c.args.hands.now.kit.now (g.C.Clock.told c.args.hands.now.clock.now) c.args.drain (g.G.Gate.said c.args.hands.now.gate.now)
    (sight c.args.self.now.work c.args.seats.now c.args.log.now (g.D.Disk.written c.args.self.now.disk)) (sight t.new.self.work t.new.seats c.close-in-Ok.new.log (g.D.Disk.written t.new.self.disk))
    (returns-in-Ok-clause-took g c is) idle

-- ---- kinds of steps

pub returns-in-Err-clause-kinds : goal.returns-in-Err-clause-kinds
returns-in-Err-clause-kinds g c = turn_rests c.args.self.now.plan.cpu (domains c.args.hands.now.kit.now.throttle.layout) NoMemory c.args.seats.now c.args.seats.now refl

pub returns-in-Ok-clause-kinds : goal.returns-in-Ok-clause-kinds
returns-in-Ok-clause-kinds g c =
    let plan = c.args.self.now.plan in
    let t = c.turn_on-answer in
    subst (λ (n : ℕ). StepsInTurn n plan.cpu t.result c.args.seats.now t.new.seats) c.requires.suits.domains_are
    (turn_behind plan.domains plan.cpu t.result c.args.seats.now c.put_waiting.new.seats t.new.seats
    (none_as plan.cpu c.args.seats.now c.put_waiting.new.seats c.put_waiting.ensures.only_queue.cpu) t.ensures.kinds)
