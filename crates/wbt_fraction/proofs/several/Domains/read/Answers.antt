use Rattle.std.proofs.Common.{MatchResult, arith}
use Rattle.wbt_fraction.specs.Seat.{Seated, Reads, Between}
use Rattle.wbt_fraction.proofs.AtOne.{in_items, meets, still_fits, changes, keeps}
use Rattle.wbt_fraction.proofs.several.Domains.read.Goals as goal

pub index_mut-mine-requires : goal.index_mut-mine-requires
index_mut-mine-requires c = let less = in_items c.args.self.now c.args.seat.now c.seat.inside.seats.items c.args.domain c.requires.seats c.requires.domain c.seat.view_is in omega arith

pub read-requires-clause-seat : goal.read-requires-clause-seat
read-requires-clause-seat c = meets c.args.self.now c.args.seat.now c.seat.inside.seats.items c.args.domain c.requires.seats c.requires.domain c.seat.view_is c.index_mut-mine.result.now c.index_mut-mine.ensures.value
    c.self.inside.domains.items c.index.result.now c.index.ensures c.self.view_is

pub returns-clause-seats : goal.returns-clause-seats
returns-clause-seats c = still_fits c.args.self.now c.args.seat.now c.seat.inside.seats.items c.args.domain c.requires.seats c.requires.domain c.seat.view_is c.index_mut-mine.result.now c.index_mut-mine.ensures.value c.read.new.seat c.read.ensures.same.0

pub returns-clause-told : goal.returns-clause-told
returns-clause-told c = changes c.args.self.now c.args.seat.now c.seat.inside.seats.items c.args.domain c.requires.seats c.requires.domain c.seat.view_is c.index_mut-mine.result.now c.index_mut-mine.ensures.value
    (λ s mid. MatchResult c.read.result (λ fraction. Reads c.args.part fraction s mid) (λ again. Between c.args.part again s mid)) c.read.new.seat c.read.ensures.told

pub returns-clause-same : goal.returns-clause-same
returns-clause-same c = (
  keeps c.args.self.now c.args.seat.now c.seat.inside.seats.items c.args.domain c.requires.seats c.requires.domain c.seat.view_is c.index_mut-mine.result.now c.index_mut-mine.ensures.value (λ (s : Seated). s.stakes) c.read.new.seat c.read.ensures.same.1,
  keeps c.args.self.now c.args.seat.now c.seat.inside.seats.items c.args.domain c.requires.seats c.requires.domain c.seat.view_is c.index_mut-mine.result.now c.index_mut-mine.ensures.value (λ (s : Seated). s.room) c.read.new.seat c.read.ensures.same.2,
)
