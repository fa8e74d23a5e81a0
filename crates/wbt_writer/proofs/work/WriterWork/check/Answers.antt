use Rattle.std.proofs.Common.{[], ◌≡◌, ◌<◌, ℕ, arith, length, refl, set, sym, ap, ◌∙◌, subst}
use Rattle.wbt_writer.proofs.Common.{context_domain, contexts, CheckEntry, CpuJournal, setting, Seated, MakesEach, MakesSome, record_of, domains, given_by, Checks, KeepsFixed, OthersStay, cpu_of, is_due_at, rest_after, task_at, fractions_after, IsGoing, fractions_of, sight, IsGroup, asked_more, none_as}
use Rattle.wbt_rules.specs.Things.{group_of}
use Rattle.wbt_trace.specs.declared.writers.Writer.{Writer as Name}
use Rattle.wbt_writer.specs.Checks.{LoadsAlone}
use Rattle.std.proofs.Common.{true}
use Rattle.wbt_writer.specs.Exact.{ChecksSome}
use Rattle.wbt_writer.specs.declared.tasks.Tasks.{Tasks}
use Rattle.wbt_writer.specs.Loads.{check_steps}
use Rattle.wbt_writer.specs.declared.task.TaskPlace.{TaskPlace}
use Rattle.wbt_writer.specs.declared.work.WriterWork.{WriterWork}
use Rattle.wbt_writer.proofs.Alone.{loads_alone}
use Rattle.wbt_writer.proofs.Ended.{checked_by, checked_stands, leaves, may_give_by, stays_small}
use Rattle.wbt_writer.proofs.Erring.{on_err}
use Rattle.wbt_writer.proofs.Facts.{among, context_there, its_own}
use Rattle.wbt_writer.proofs.Standing.{group_below, in_contexts, seat_is, works_there, writer_there}
use Rattle.wbt_writer.proofs.work.WriterWork.check.Goals as goal
use Rattle.wbt_run_steps.proofs.Gating.{asked_still, same_steps}
use Rattle.wbt_writer.proofs.Giving.{given_steps}
use Rattle.wbt_run_steps.proofs.Logging.{as_more}
use Rattle.wbt_writer.proofs.Turning.{check_cuts, check_takes}

pub group_of-group-requires : goal.group_of-group-requires
group_of-group-requires g c = subst (λ (t : TaskPlace). t.context < contexts c.args.place.now.trace.now) (sym c.task-at.ensures) (context_there c.args.place.now.trace.now c.args.place.now.cpu c.args.hands.now.kit.now c.args.self.now c.args.seats.now c.requires.at_kit c.args.task c.requires.task c.requires.due)

pub load_all-requires-clause-writer : goal.load_all-requires-clause-writer
load_all-requires-clause-writer g c =
    subst (λ (t : TaskPlace). (t.writer < length c.args.hands.now.kit.now.throttle.layout.writers) × ((setting c.args.hands.now.kit.now.throttle.layout).seat t.writer ≡ c.args.place.now.cpu)) (sym c.task-at.ensures) (
      writer_there c.args.place.now.trace.now c.args.place.now.cpu c.args.hands.now.kit.now c.args.self.now c.args.seats.now c.requires.at_kit c.args.task c.requires.task c.requires.due,
      seat_is c.args.place.now.trace.now c.args.place.now.cpu c.args.hands.now.kit.now c.args.self.now c.args.seats.now c.requires.at_kit c.args.task c.requires.task (task_at c.args.self.now.tasks c.args.task).writer (among c.args.place.now.trace.now c.args.place.now.cpu c.args.hands.now.kit.now c.args.self.now c.args.seats.now c.requires.at_kit c.args.task c.requires.task c.requires.due)
          (ap (λ (n : Name). n.task) (its_own c.args.place.now.trace.now c.args.place.now.cpu c.args.hands.now.kit.now c.args.self.now c.args.seats.now c.requires.at_kit c.args.task c.requires.task c.requires.due)),
    )

pub load_all-requires-clause-context : goal.load_all-requires-clause-context
load_all-requires-clause-context g c =
    subst (λ (t : TaskPlace). (t.context < length c.args.hands.now.kit.now.throttle.layout.contexts) × ((setting c.args.hands.now.kit.now.throttle.layout).works_in t.writer ≡ t.context)) (sym c.task-at.ensures)
    (in_contexts c.args.place.now.trace.now c.args.place.now.cpu c.args.hands.now.kit.now c.args.self.now c.args.seats.now c.requires.at_kit c.args.task c.requires.task c.requires.due, works_there c.args.place.now.trace.now c.args.place.now.cpu c.args.hands.now.kit.now c.args.self.now c.args.seats.now c.requires.at_kit c.args.task c.requires.task c.requires.due)

pub load_all-requires-clause-group : goal.load_all-requires-clause-group
load_all-requires-clause-group g c =
    let is = c.group_of-group.ensures ∙ ap (λ (t : TaskPlace). group_of c.args.place.now.trace.now t.context) c.task-at.ensures in
    let low = group_below c.args.place.now.trace.now c.args.place.now.cpu c.args.hands.now.kit.now c.args.self.now c.args.seats.now c.requires.at_kit c.args.task c.requires.task c.requires.due in omega arith

pub returns-in_err-loads-clause-loads_alone : goal.returns-in_err-loads-clause-loads_alone
returns-in_err-loads-clause-loads_alone g c =
    let alone : LoadsAlone c.args.place.now.trace.now c.args.hands.now.kit.now c.args.place.now.cpu (sight c.args.self.now c.args.seats.now c.args.pen.now.log) (sight c.args.self.now c.load_all.new.seats c.args.pen.now.log) =
    (record { does = loads_alone c.args.place.now.trace.now c.args.hands.now.kit.now.published.moment c.args.place.now.cpu (setting c.args.hands.now.kit.now.throttle.layout) c.args.self.now c.args.seats.now c.load_all.new.seats c.args.pen.now.log c.in_err-loads.ensures.some_loaded }) in on_err _ _ alone

pub ask-check-requires-clause-group : goal.ask-check-requires-clause-group
ask-check-requires-clause-group g c =
    let is = c.group_of-group.ensures ∙ ap (λ (t : TaskPlace). group_of c.args.place.now.trace.now t.context) c.task-at.ensures in
    subst (λ (n : ℕ). IsGroup n c.in_ok-loads.loads.group) is c.in_ok-loads.ensures.loaded.group_is

pub give-requires-clause-seat : goal.give-requires-clause-seat
give-requires-clause-seat g c = subst (λ (t : TaskPlace). (setting c.args.hands.now.kit.now.throttle.layout).seat t.writer ≡ c.args.place.now.cpu) (sym c.task-at.ensures)
    (seat_is c.args.place.now.trace.now c.args.place.now.cpu c.args.hands.now.kit.now c.args.self.now c.args.seats.now c.requires.at_kit c.args.task c.requires.task (task_at c.args.self.now.tasks c.args.task).writer (among c.args.place.now.trace.now c.args.place.now.cpu c.args.hands.now.kit.now c.args.self.now c.args.seats.now c.requires.at_kit c.args.task c.requires.task c.requires.due) (ap (λ (n : Name). n.task) (its_own c.args.place.now.trace.now c.args.place.now.cpu c.args.hands.now.kit.now c.args.self.now c.args.seats.now c.requires.at_kit c.args.task c.requires.task c.requires.due)))

pub give-requires-clause-may : goal.give-requires-clause-may
give-requires-clause-may g c = λ goes. may_give_by c.args.place.now.trace.now c.args.place.now.cpu c.args.hands.now.kit.now c.args.self.now c.args.seats.now c.requires.at_kit c.args.task c.requires.task c.requires.due c.task-at.result c.group_of-group.result c.told_moment-now.result c.in_ok-loads.loads c.ask-check.result _ _ _ c.task-at.ensures c.group_of-group.ensures c.in_ok-loads.ensures.loaded c.ask-check.ensures.asked goes

pub checked-requires-clause-leaves : goal.checked-requires-clause-leaves
checked-requires-clause-leaves g c = leaves c.args.place.now.trace.now c.args.hands.now.kit.now c.args.task _ _ _ c.in_ok-loads.loads c.ask-check.result _ _ _ _ c.requires.at_kit.is_work.lawful c.ask-check.ensures.asked

pub checked-requires-clause-small : goal.checked-requires-clause-small
checked-requires-clause-small g c = stays_small c.args.place.now.trace.now c.args.place.now.cpu c.args.hands.now.kit.now c.args.self.now c.args.seats.now c.requires.at_kit c.args.task c.requires.task c.requires.due c.told_moment-now.result c.in_ok-loads.loads c.ask-check.result _ _ _ c.ask-check.ensures.asked

pub returns-clause-at_kit : goal.returns-clause-at_kit
returns-clause-at_kit g c =
    let same = c.ask-check.ensures.asked.tasks in
    checked_stands c.args.place.now.trace.now c.args.place.now.cpu c.args.hands.now.kit.now c.ask-check.new.self (record { tasks = c.checked.new.self; fractions = c.ask-check.new.self.fractions; waiting = c.ask-check.new.self.waiting }) c.ask-check.new.seats c.give.new.seats c.args.task c.ask-check.result.decision c.ask-check.ensures.at_kit
    (subst (λ (s : Tasks). IsGoing c.args.place.now.trace.now s c.args.task) (sym same) c.requires.task)
    (subst (λ (s : Tasks). is_due_at (cpu_of s) (task_at s c.args.task).writer ≡ true) (sym same) c.requires.due)
    (c.checked.ensures.side c.args.hands.now.kit.now.published.moment (ap (λ (s : Tasks). s.ratelimit_pages) same ∙ c.requires.at_kit.its.ratelimit))
    c.checked.ensures.tasks c.checked.ensures.fixed c.checked.ensures.others
    (ap (λ (t : TaskPlace). t.own) c.checked.ensures.own) refl refl c.give.ensures.fits

pub returns-clause-checks : goal.returns-clause-checks
returns-clause-checks g c =
    let is : WriterWork = record { tasks = c.checked.new.self; fractions = c.ask-check.new.self.fractions; waiting = c.ask-check.new.self.waiting } in
    subst (λ (l : CpuJournal). Checks (g.C.Clock.told c.args.hands.now.clock.now) c.args.place.now.trace.now c.args.hands.now.kit.now c.args.place.now.cpu c.args.task (sight c.args.self.now c.args.seats.now c.args.pen.now.log) (sight is c.give.new.seats l)) (sym c.tell_check.ensures.log)
    (checked_by c.args.place.now.trace.now c.args.place.now.cpu c.args.hands.now.kit.now c.args.self.now c.args.seats.now c.requires.at_kit c.args.task c.requires.task c.requires.due c.told_moment-now.result c.group_of-group.result c.task-at.result c.ask-check.new.self is c.load_all.new.seats c.ask-check.new.seats c.give.new.seats c.args.pen.now.log c.in_ok-loads.loads c.ask-check.result
    (g.C.Clock.told c.args.hands.now.clock.now) c.told_moment-now.ensures.told c.task-at.ensures c.group_of-group.ensures c.in_ok-loads.ensures.loaded c.ask-check.ensures.asked c.give.ensures.gives refl
    c.checked.ensures.side c.checked.ensures.own c.checked.ensures.others c.requires.have_read c.requires.owes c.requires.lefts)

pub returns-clause-asked : goal.returns-clause-asked
returns-clause-asked g c =
    asked_more c.args.place.now.cpu (g.G.Gate.said c.args.hands.now.gate.now) c.args.seats.now c.load_all.new.seats c.give.new.seats c.load_all.ensures.asked
    (asked_still c.args.place.now.cpu (g.G.Gate.said c.args.hands.now.gate.now) c.load_all.new.seats c.give.new.seats
    (given_steps c.args.place.now.cpu _ c.ask-check.result.decision c.ask-check.new.seats c.give.new.seats c.give.ensures.gives
    ∙ same_steps c.args.place.now.cpu c.load_all.new.seats c.ask-check.new.seats c.ask-check.ensures.asked.cpu))

pub returns-in_err-loads-clause-took_some : goal.returns-in_err-loads-clause-took_some
returns-in_err-loads-clause-took_some g c =
    let at = c.task-at.ensures in
    let group = c.group_of-group.ensures ∙ ap (λ (t : TaskPlace). context_domain c.args.place.now.trace.now t.context) at in
    let part = subst (λ (z : TaskPlace × ℕ). MakesSome c.args.hands.now.kit.now c.args.place.now.cpu (check_steps c.args.place.now.cpu z.0.writer z.0.context z.1) c.args.seats.now c.load_all.new.seats) (λ i. (at i, group i)) c.in_err-loads.ensures.part in
    let some : ChecksSome c.args.place.now.trace.now c.args.hands.now.kit.now c.args.place.now.cpu c.args.task (sight c.args.self.now c.args.seats.now c.args.pen.now.log) (sight c.args.self.now c.load_all.new.seats c.args.pen.now.log) =
    (record { due = c.requires.due; some = part; loaded = c.in_err-loads.ensures.some_loaded; work = refl; told = refl }) in on_err _ _ some

pub returns-clause-took : goal.returns-clause-took
returns-clause-took g c =
    let asked = c.ask-check.ensures.asked in
    let check = c.ask-check.result in
    let ended = (task_at c.checked.new.self c.args.task).ended in
    let at = c.task-at.ensures in
    let group = c.group_of-group.ensures ∙ ap (λ (t : TaskPlace). context_domain c.args.place.now.trace.now t.context) at in
    record {
      loaded = c.load_all.new.seats;
      loads = subst (λ (z : TaskPlace × ℕ). MakesEach c.args.hands.now.kit.now c.args.place.now.cpu (check_steps c.args.place.now.cpu z.0.writer z.0.context z.1) c.args.seats.now c.load_all.new.seats) (λ i. (at i, group i)) c.in_ok-loads.ensures.made;
      gives = c.give.ensures.gives.becomes
          ∙ ap (λ (z : TaskPlace × Seated). given_by check.decision.kind z.0.writer check.decision.left (record_of c.args.place.now.cpu z.1.cpus)) (λ i. (at i, asked.cpu i));
      due = c.requires.due;
      check = check;
      told = c.tell_check.ensures.log;
      its_task = ap (λ (k : CheckEntry). k.task) asked.check_is;
      its_context = ap (λ (k : CheckEntry). k.context) asked.check_is;
      place = c.checked.ensures.own ∙ ap (λ (z : Tasks × ℕ). record (task_at z.0 c.args.task) { rest = rest_after check.decision z.1 (task_at z.0 c.args.task); ended = ended })
          (λ i. (asked.tasks i, sym (ap (λ (k : CheckEntry). k.now) asked.check_is) i));
      only = record {
        others = subst (λ (s : Tasks). OthersStay c.args.task s c.checked.new.self) asked.tasks c.checked.ensures.others;
        fixed = subst (λ (s : Tasks). KeepsFixed s c.checked.new.self) asked.tasks c.checked.ensures.fixed;
      };
      fractions = asked.fractions ∙ ap (λ (k : CheckEntry). set c.args.self.now.fractions.items k.context (fractions_after (record { global = k.global; cgroup = k.cgroup }) (fractions_of k.context c.args.self.now)))
          (sym asked.check_is);
      waiting = asked.waiting;
      queue = c.give.ensures.gives.on.queue ∙ asked.queue ∙ c.in_ok-loads.ensures.loaded.loaded.on.queue;
    }

pub returns-in_err-loads-clause-cut : goal.returns-in_err-loads-clause-cut
returns-in_err-loads-clause-cut g c = on_err _ _
    (check_cuts (domains c.args.hands.now.kit.now.throttle.layout) c.args.hands.now.kit.now c.args.place.now.cpu c.task-at.result.writer c.task-at.result.context c.group_of-group.result c.args.seats.now c.load_all.new.seats
    c.in_err-loads.ensures.part)

pub returns-clause-kinds : goal.returns-clause-kinds
returns-clause-kinds g c =
    check_takes (domains c.args.hands.now.kit.now.throttle.layout) c.args.hands.now.kit.now c.args.place.now.cpu c.task-at.result.writer c.task-at.result.context c.group_of-group.result c.args.seats.now c.load_all.new.seats
    c.give.new.seats c.in_ok-loads.ensures.made
    (as_more c.args.place.now.cpu [] [] c.load_all.new.seats c.ask-check.new.seats c.give.new.seats
    (none_as c.args.place.now.cpu c.load_all.new.seats c.ask-check.new.seats c.ask-check.ensures.asked.cpu) c.give.ensures.kinds)
