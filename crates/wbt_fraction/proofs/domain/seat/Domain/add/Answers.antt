use Rattle.std.proofs.Common.{◌∙◌, List, subst}
use Rattle.wbt_fraction.specs.declared.domain.note.Note.{Note}
use Rattle.wbt_fraction.specs.Seat.{Seated, Adds, Missed, Looks}
use Rattle.wbt_fraction.proofs.Answering.{seat_of, adds_are, looks_are}
use Rattle.wbt_fraction.proofs.domain.seat.Domain.add.Goals as goal

pub returns-in-Ok-clause-told : goal.returns-in-Ok-clause-told
returns-in-Ok-clause-told c =
    let t = c.in-Ok.ensures in
    let old = c.seat.inside.place in
    let mid = c.make_ready.new.place in
    let new = c.add_both.new.place in
    subst (λ (s : Seated). Adds c.args.part c.args.n s (seat_of new.table_id new.me)) c.seat.view_is
    (adds_are c.args.part c.args.n old.table_id new.table_id c.add_both.result t.made.0 old.me mid.me new.me (c.add_both.ensures.seat.0 ∙ t.seat.0)
    t.made.1 t.made.2 t.made.3 t.same c.add_both.ensures.made c.add_both.ensures.same c.add_both.ensures.complete)

pub returns-in-Err-clause-told : goal.returns-in-Err-clause-told
returns-in-Err-clause-told c =
    let t = c.in-Err.ensures in
    let old = c.seat.inside.place in
    let new = c.make_ready.new.place in
    subst (λ (s : Seated). (more : List Note) × Missed c.args.part c.in-Err.again more × Looks more s (seat_of new.table_id new.me)) c.seat.view_is
    (t.made.0, t.made.1, looks_are t.made.0 old.table_id new.table_id old.me new.me t.seat.0 t.made.2 t.same t.complete)
