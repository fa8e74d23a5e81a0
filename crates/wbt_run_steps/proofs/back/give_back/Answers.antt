-- What giving a page back came to, by its answer.
use Rattle.std.proofs.Common.{refl}
use Rattle.wbt_kit.specs.declared.kit.Seats.{Seats}
use Rattle.wbt_run_steps.specs.Records.{OnlyCpu}
use Rattle.wbt_run_steps.proofs.Backing.{answers_by, asked_by, kinds_by, seats_after}
use Rattle.wbt_run_steps.proofs.back.give_back.Goals as goal

pub returns-clause-seats : goal.returns-clause-seats
returns-clause-seats g c =
    let a = c.args in
    let new : Seats = record { cpu = c.give_back.new.seat; share = a.seats.now.share; est = a.seats.now.est; queue = a.seats.now.queue } in
    let only : OnlyCpu a.seats.now new = record { share = refl; est = refl; queue = refl } in
    seats_after a.kit.now a.cpu a.flusher a.page (g.G.Gate.said a.gate.now) a.seats.now new a.pen.now.log c.tell_back.new.pen.log c.requires.may only c.in_ok-back.back c.requires.seats
    c.in_ok-back.ensures.gives

pub returns-clause-answers : goal.returns-clause-answers
returns-clause-answers g c =
    let a = c.args in
    let new : Seats = record { cpu = c.give_back.new.seat; share = a.seats.now.share; est = a.seats.now.est; queue = a.seats.now.queue } in
    let only : OnlyCpu a.seats.now new = record { share = refl; est = refl; queue = refl } in
    answers_by a.kit.now a.cpu a.flusher a.page (g.G.Gate.said a.gate.now) a.seats.now new a.pen.now.log c.tell_back.new.pen.log c.requires.may only c.in_ok-back.back
    c.in_ok-back.ensures.gives c.tell_back.ensures.log

pub returns-clause-asked : goal.returns-clause-asked
returns-clause-asked g c =
    let a = c.args in
    let new : Seats = record { cpu = c.give_back.new.seat; share = a.seats.now.share; est = a.seats.now.est; queue = a.seats.now.queue } in
    let only : OnlyCpu a.seats.now new = record { share = refl; est = refl; queue = refl } in
    asked_by a.kit.now a.cpu a.flusher a.page (g.G.Gate.said a.gate.now) a.seats.now new a.pen.now.log c.tell_back.new.pen.log c.requires.may only c.in_ok-back.back
    c.in_ok-back.ensures.gives

pub returns-clause-kinds : goal.returns-clause-kinds
returns-clause-kinds g c =
    let a = c.args in
    let new : Seats = record { cpu = c.give_back.new.seat; share = a.seats.now.share; est = a.seats.now.est; queue = a.seats.now.queue } in
    let only : OnlyCpu a.seats.now new = record { share = refl; est = refl; queue = refl } in
    kinds_by a.kit.now a.cpu a.flusher a.page (g.G.Gate.said a.gate.now) a.seats.now new a.pen.now.log c.tell_back.new.pen.log c.requires.may only c.in_ok-back.back
    c.in_ok-back.ensures.gives
