use Rattle.std.proofs.Common.{◌≡◌, ◌<◌, ◌≤◌, arith, length, refl, sym, ap, ◌∙◌, subst}
use Rattle.std.specs.Prelude.{IfSome}
use Rattle.std.proofs.lemmas.List.{length-set}
use Rattle.wbt_fraction.specs.Several.{HasShare}
use Rattle.wbt_writer.proofs.Common.{contexts, IsCounted, context_at, writer_of, Seats, cpu_of, task_at, AreProper, fractions_of, no_fractions, DomainLoad}
use Rattle.wbt_kit.proofs.Common.{same_default}
use Rattle.wbt_pause.specs.Reads.{EachDomain}
use Rattle.wbt_pause.specs.declared.reads.Reads.{Reads}
use Rattle.wbt_published.specs.Passes.{Seats as EstPass}
use Rattle.wbt_writer.proofs.Asking.{asked_by_parts, parts_within}
use Rattle.wbt_writer.specs.declared.task.TaskPlace.{TaskPlace}
use Rattle.wbt_writer.proofs.Standing.{at_asked, counted, group_load, in_fractions, in_homes, in_published}
use Rattle.wbt_writer.proofs.Facts.{context_there, device_below}
use Rattle.wbt_writer.proofs.work.WriterWork.ask.Goals as goal

pub index-kept-requires : goal.index-kept-requires
index-kept-requires g c = let low = in_fractions c.args.place.now.trace.now c.args.place.now.cpu c.args.hands.now.kit.now c.args.self.now c.args.seats.now c.requires.at_kit c.args.task c.requires.task c.requires.due in let at = ap (λ (t : TaskPlace). t.context) c.task-at.ensures in omega arith

pub read-estimate-requires-clause-context : goal.read-estimate-requires-clause-context
read-estimate-requires-clause-context g c = subst (λ (t : TaskPlace). t.context < length c.args.hands.now.kit.now.published.names) (sym c.task-at.ensures)
    (in_published c.args.place.now.trace.now c.args.place.now.cpu c.args.hands.now.kit.now c.args.self.now c.args.seats.now c.requires.at_kit c.args.task c.requires.task c.requires.due)

pub read_lines-lines-requires-clause-context : goal.read_lines-lines-requires-clause-context
read_lines-lines-requires-clause-context g c = subst (λ (t : TaskPlace). t.context < length c.args.hands.now.kit.now.shares.homes) (sym c.task-at.ensures)
    (in_homes c.args.place.now.trace.now c.args.place.now.cpu c.args.hands.now.kit.now c.args.self.now c.args.seats.now c.requires.at_kit c.args.task c.requires.task c.requires.due)

pub read_lines-lines-requires-clause-group : goal.read_lines-lines-requires-clause-group
read_lines-lines-requires-clause-group g c =
    subst (λ (t : TaskPlace). IfSome c.args.loads.now.group (λ (l : DomainLoad). (l.domain < length c.args.hands.now.kit.now.shares.domains) × HasShare c.args.hands.now.kit.now.shares.homes l.domain t.context)) (sym c.task-at.ensures)
    (group_load c.args.place.now.trace.now c.args.place.now.cpu c.args.hands.now.kit.now c.args.self.now c.args.seats.now c.requires.at_kit c.args.task c.requires.task c.requires.due c.args.loads.now.group c.requires.group)

pub read_lines-lines-requires-clause-kept : goal.read_lines-lines-requires-clause-kept
read_lines-lines-requires-clause-kept g c =
    let low : c.task-at.result.context < length c.args.self.now.fractions.items = subst (λ (t : TaskPlace). t.context < length c.args.self.now.fractions.items) (sym c.task-at.ensures)
    (in_fractions c.args.place.now.trace.now c.args.place.now.cpu c.args.hands.now.kit.now c.args.self.now c.args.seats.now c.requires.at_kit c.args.task c.requires.task c.requires.due) in
    let is : c.index-kept.result.now ≡ fractions_of c.task-at.result.context c.args.self.now =
    c.index-kept.ensures ∙ same_default c.args.self.now.fractions.items c.task-at.result.context c.index-kept.result.now no_fractions low in
    subst AreProper (sym is) (c.requires.at_kit.is_work.proper c.task-at.result.context)

pub index_mut-requires : goal.index_mut-requires
index_mut-requires g c = let low = in_fractions c.args.place.now.trace.now c.args.place.now.cpu c.args.hands.now.kit.now c.args.self.now c.args.seats.now c.requires.at_kit c.args.task c.requires.task c.requires.due in let at = ap (λ (t : TaskPlace). t.context) c.task-at.ensures in omega arith

pub reads_of-reads-requires-clause-context : goal.reads_of-reads-requires-clause-context
reads_of-reads-requires-clause-context g c = subst (λ (t : TaskPlace). t.context < contexts c.args.place.now.trace.now) (sym c.task-at.ensures)
    (context_there c.args.place.now.trace.now c.args.place.now.cpu c.args.hands.now.kit.now c.args.self.now c.args.seats.now c.requires.at_kit c.args.task c.requires.task c.requires.due)

pub is_strict-strict-requires-clause-context : goal.is_strict-strict-requires-clause-context
is_strict-strict-requires-clause-context g c = subst (λ (t : TaskPlace). t.context < contexts c.args.place.now.trace.now) (sym c.task-at.ensures)
    (context_there c.args.place.now.trace.now c.args.place.now.cpu c.args.hands.now.kit.now c.args.self.now c.args.seats.now c.requires.at_kit c.args.task c.requires.task c.requires.due)

pub is_strict-strict-requires-clause-device : goal.is_strict-strict-requires-clause-device
is_strict-strict-requires-clause-device g c = subst (λ (t : TaskPlace). (context_at c.args.place.now.trace.now t.context).device < length c.args.place.now.trace.now.devices) (sym c.task-at.ensures)
    (device_below c.args.place.now.trace.now c.requires.at_kit.is_work.lawful (task_at c.args.self.now.tasks c.args.task).context
    (context_there c.args.place.now.trace.now c.args.place.now.cpu c.args.hands.now.kit.now c.args.self.now c.args.seats.now c.requires.at_kit c.args.task c.requires.task c.requires.due))

pub decide_for-requires-clause-parts : goal.decide_for-requires-clause-parts
decide_for-requires-clause-parts g c =
    subst (λ (r : Reads). EachDomain (λ domain. domain.wb_thresh ≤ domain.limits.thresh) r) (sym c.reads_of-reads.ensures.value)
    (parts_within c.args.place.now.trace.now c.task-at.result.context c.read_lines-lines.result c.args.loads.now.count c.requires.at_kit.is_work.lawful
    (subst (λ (t : TaskPlace). (context_at c.args.place.now.trace.now t.context).device < length c.args.place.now.trace.now.devices) (sym c.task-at.ensures)
    (device_below c.args.place.now.trace.now c.requires.at_kit.is_work.lawful (task_at c.args.self.now.tasks c.args.task).context
    (context_there c.args.place.now.trace.now c.args.place.now.cpu c.args.hands.now.kit.now c.args.self.now c.args.seats.now c.requires.at_kit c.args.task c.requires.task c.requires.due))))

pub decide_for-requires-clause-counted : goal.decide_for-requires-clause-counted
decide_for-requires-clause-counted g c =
    subst IsCounted (sym (c.numbers-numbers.ensures ∙ ap (λ (t : TaskPlace). (writer_of (cpu_of c.args.self.now.tasks) t.writer).task) c.task-at.ensures))
    (counted c.args.place.now.trace.now c.args.place.now.cpu c.args.hands.now.kit.now c.args.self.now c.args.seats.now c.requires.at_kit c.args.task c.requires.task c.requires.due)

pub returns-clause-at_kit : goal.returns-clause-at_kit
returns-clause-at_kit g c =
    let new : Seats = record { cpu = c.args.seats.now.cpu; share = c.read_lines-lines.new.seat; est = c.read-estimate.new.pass; queue = c.args.seats.now.queue } in
    let low : c.task-at.result.context < length c.args.self.now.fractions.items = subst (λ (t : TaskPlace). t.context < length c.args.self.now.fractions.items) (sym c.task-at.ensures)
    (in_fractions c.args.place.now.trace.now c.args.place.now.cpu c.args.hands.now.kit.now c.args.self.now c.args.seats.now c.requires.at_kit c.args.task c.requires.task c.requires.due) in
    let proper : AreProper c.fractions_after.result = subst AreProper (sym c.fractions_after.ensures) c.read_lines-lines.ensures.proper in
    at_asked c.args.place.now.trace.now c.args.place.now.cpu c.args.hands.now.kit.now c.args.self.now _ c.args.seats.now new c.task-at.result.context c.fractions_after.result c.requires.at_kit refl refl
    proper low refl refl c.read_lines-lines.ensures.seat
    (ap (λ (p : EstPass). p.names) c.read-estimate.ensures.noted ∙ c.requires.at_kit.fits.seats_are.est)
    (ap (λ (p : EstPass). length p.known) c.read-estimate.ensures.noted ∙ length-set c.args.seats.now.est.known c.task-at.result.context _) refl

pub returns-clause-asked : goal.returns-clause-asked
returns-clause-asked g c =
    let new : Seats = record { cpu = c.args.seats.now.cpu; share = c.read_lines-lines.new.seat; est = c.read-estimate.new.pass; queue = c.args.seats.now.queue } in
    let low : c.task-at.result.context < length c.args.self.now.fractions.items = subst (λ (t : TaskPlace). t.context < length c.args.self.now.fractions.items) (sym c.task-at.ensures)
    (in_fractions c.args.place.now.trace.now c.args.place.now.cpu c.args.hands.now.kit.now c.args.self.now c.args.seats.now c.requires.at_kit c.args.task c.requires.task c.requires.due) in
    let kept_is : c.index-kept.result.now ≡ fractions_of c.task-at.result.context c.args.self.now =
    c.index-kept.ensures ∙ same_default c.args.self.now.fractions.items c.task-at.result.context c.index-kept.result.now no_fractions low in
    asked_by_parts c.args.place.now.trace.now c.args.hands.now.kit.now c.args.task c.args.now c.args.self.now _ c.args.seats.now new c.args.loads.now c.read_lines-lines.result c.read-estimate.result c.task-at.result c.index-kept.result.now
    c.fractions_after.result c.numbers-numbers.result c.is_strict-strict.result c.reads_of-reads.result c.decide_for.result c.task-at.ensures kept_is c.numbers-numbers.ensures c.is_strict-strict.ensures c.fractions_after.ensures c.reads_of-reads.ensures.value
    c.read_lines-lines.ensures.lines c.read_lines-lines.ensures.read c.read-estimate.ensures.noted c.read-estimate.ensures.first c.read-estimate.ensures.sound c.read-estimate.ensures.fresh.0
    refl refl refl refl refl c.decide_for.ensures.value c.decide_for.ensures.at_most_200 c.decide_for.ensures.granted
    c.decide_for.ensures.numbers (subst AreProper (sym c.fractions_after.ensures) c.read_lines-lines.ensures.proper) c.requires.in_range
    (subst IsCounted (sym (c.numbers-numbers.ensures ∙ ap (λ (t : TaskPlace). (writer_of (cpu_of c.args.self.now.tasks) t.writer).task) c.task-at.ensures))
    (counted c.args.place.now.trace.now c.args.place.now.cpu c.args.hands.now.kit.now c.args.self.now c.args.seats.now c.requires.at_kit c.args.task c.requires.task c.requires.due))
    c.requires.moment
