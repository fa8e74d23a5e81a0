use Rattle.std.proofs.Common.{List, MatchResult, arith}
use Rattle.wbt_fraction.specs.declared.domain.note.Note.{Note}
use Rattle.wbt_fraction.specs.Seat.{Seated, Adds, Missed, Looks}
use Rattle.wbt_fraction.proofs.AtOne.{in_items, meets, still_fits, changes, keeps, room_after}
use Rattle.wbt_fraction.proofs.several.Domains.add.Goals as goal

pub index_mut-mine-requires : goal.index_mut-mine-requires
index_mut-mine-requires c = let less = in_items c.args.self.now c.args.seat.now c.seat.inside.seats.items c.args.domain c.requires.seats c.requires.domain c.seat.view_is in omega arith

pub add-requires-clause-seat : goal.add-requires-clause-seat
add-requires-clause-seat c = meets c.args.self.now c.args.seat.now c.seat.inside.seats.items c.args.domain c.requires.seats c.requires.domain c.seat.view_is c.index_mut-mine.result.now c.index_mut-mine.ensures.value
    c.self.inside.domains.items c.index.result.now c.index.ensures c.self.view_is

pub returns-clause-seats : goal.returns-clause-seats
returns-clause-seats c = still_fits c.args.self.now c.args.seat.now c.seat.inside.seats.items c.args.domain c.requires.seats c.requires.domain c.seat.view_is c.index_mut-mine.result.now c.index_mut-mine.ensures.value c.add.new.seat c.add.ensures.same.0

pub returns-clause-told : goal.returns-clause-told
returns-clause-told c = changes c.args.self.now c.args.seat.now c.seat.inside.seats.items c.args.domain c.requires.seats c.requires.domain c.seat.view_is c.index_mut-mine.result.now c.index_mut-mine.ensures.value
    (λ s mid. MatchResult c.add.result (λ _. Adds c.args.part c.args.n s mid) (λ again. (more : List Note) × Missed c.args.part again more × Looks more s mid)) c.add.new.seat c.add.ensures.told

pub returns-clause-stakes : goal.returns-clause-stakes
returns-clause-stakes c = keeps c.args.self.now c.args.seat.now c.seat.inside.seats.items c.args.domain c.requires.seats c.requires.domain c.seat.view_is c.index_mut-mine.result.now c.index_mut-mine.ensures.value (λ (s : Seated). s.stakes) c.add.new.seat c.add.ensures.same.1

pub returns-clause-room : goal.returns-clause-room
returns-clause-room c = room_after c.args.self.now c.args.seat.now c.seat.inside.seats.items c.args.domain c.requires.seats c.requires.domain c.seat.view_is c.index_mut-mine.result.now c.index_mut-mine.ensures.value c.add.result c.args.part c.args.n c.add.new.seat c.add.ensures.told
