use Rattle.std.proofs.Common.{ap, ◌∙◌, arith}
use Rattle.wbt_run_worker.proofs.Common.{Known}
use Rattle.wbt_run_together.proofs.Parting.{at_head, at_tail, came_first, sides_first, with_first}
use Rattle.wbt_run_together.proofs.Voicing.{theirs_so, voice_so}
use Rattle.wbt_run_together.proofs.gather.part_workers.Goals as goal

pub part_others-requires-clause-seats : goal.part_others-requires-clause-seats
part_others-requires-clause-seats g c =
    let are = with_first c.args.kit.now c.args.workers.items c.into_iter-others.result.rest.items c.remove-seats.result (omega (arith, c.requires.some, c.args.workers.ok.0))
    c.remove-seats.ensures.value (c.into_iter-others.ensures.rest ∙ c.remove-seats.ensures.by_index.2) in
    at_head c.args.kit.now c.args.workers.items c.into_iter-others.result.rest.items c.remove-seats.result are c.requires.seats

pub part_others-requires-clause-others : goal.part_others-requires-clause-others
part_others-requires-clause-others g c =
    let are = with_first c.args.kit.now c.args.workers.items c.into_iter-others.result.rest.items c.remove-seats.result (omega (arith, c.requires.some, c.args.workers.ok.0))
    c.remove-seats.ensures.value (c.into_iter-others.ensures.rest ∙ c.remove-seats.ensures.by_index.2) in
    at_tail c.args.kit.now c.args.workers.items c.into_iter-others.result.rest.items c.remove-seats.result are c.requires.seats

pub returns-clause-sides : goal.returns-clause-sides
returns-clause-sides g c =
    let are = with_first c.args.kit.now c.args.workers.items c.into_iter-others.result.rest.items c.remove-seats.result (omega (arith, c.requires.some, c.args.workers.ok.0))
    c.remove-seats.ensures.value (c.into_iter-others.ensures.rest ∙ c.remove-seats.ensures.by_index.2) in
    sides_first c.args.kit.now c.args.workers.items c.into_iter-others.result.rest.items c.remove-seats.result c.args.sides.now.items c.push_reserved.new.self.items c.part_others.new.sides.items are
    c.push_reserved.ensures.items c.part_others.ensures.sides

pub returns-clause-together : goal.returns-clause-together
returns-clause-together g c =
    let are = with_first c.args.kit.now c.args.workers.items c.into_iter-others.result.rest.items c.remove-seats.result (omega (arith, c.requires.some, c.args.workers.ok.0))
    c.remove-seats.ensures.value (c.into_iter-others.ensures.rest ∙ c.remove-seats.ensures.by_index.2) in
    came_first c.args.kit.now c.args.workers.items c.into_iter-others.result.rest.items c.remove-seats.result c.part_others.result are c.part_others.ensures.together

pub take_in-requires : goal.take_in-requires
take_in-requires g c =
    let are = with_first c.args.kit.now c.args.workers.items c.into_iter-others.result.rest.items c.remove-seats.result (omega (arith, c.requires.some, c.args.workers.ok.0))
    c.remove-seats.ensures.value (c.into_iter-others.ensures.rest ∙ c.remove-seats.ensures.by_index.2) in
    record { voices = (c.requires.voices.0, (theirs_so c.args.condition.now.signals c.args.workers.items c.into_iter-others.result.rest.items c.remove-seats.result are c.requires.voices.1).0) }

pub part_others-requires-clause-voices : goal.part_others-requires-clause-voices
part_others-requires-clause-voices g c =
    let are = with_first c.args.kit.now c.args.workers.items c.into_iter-others.result.rest.items c.remove-seats.result (omega (arith, c.requires.some, c.args.workers.ok.0))
    c.remove-seats.ensures.value (c.into_iter-others.ensures.rest ∙ c.remove-seats.ensures.by_index.2) in
    (ap (λ (v : Known). v.signals) c.take_in.ensures ∙ c.requires.voices.0, (theirs_so c.args.condition.now.signals c.args.workers.items c.into_iter-others.result.rest.items c.remove-seats.result are c.requires.voices.1).1)

pub returns-clause-voice : goal.returns-clause-voice
returns-clause-voice g c =
    let are = with_first c.args.kit.now c.args.workers.items c.into_iter-others.result.rest.items c.remove-seats.result (omega (arith, c.requires.some, c.args.workers.ok.0))
    c.remove-seats.ensures.value (c.into_iter-others.ensures.rest ∙ c.remove-seats.ensures.by_index.2) in
    c.part_others.ensures.voice
    ∙ voice_so c.args.condition.now.signals c.args.workers.items c.into_iter-others.result.rest.items c.remove-seats.result are c.args.voice.now c.take_in.new.voice c.take_in.ensures
