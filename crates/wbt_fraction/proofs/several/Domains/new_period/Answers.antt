use Rattle.std.proofs.Common.{MatchResult, arith}
use Rattle.wbt_fraction.specs.Seat.{Seated, Begins, Lost}
use Rattle.wbt_fraction.proofs.AtOne.{in_items, meets, still_fits, changes, keeps}
use Rattle.wbt_fraction.proofs.several.Domains.new_period.Goals as goal

pub index_mut-mine-requires : goal.index_mut-mine-requires
index_mut-mine-requires c = let less = in_items c.args.self.now c.args.seat.now c.seat.inside.seats.items c.args.domain c.requires.seats c.requires.domain c.seat.view_is in omega arith

pub new_period-requires-clause-seat : goal.new_period-requires-clause-seat
new_period-requires-clause-seat c = meets c.args.self.now c.args.seat.now c.seat.inside.seats.items c.args.domain c.requires.seats c.requires.domain c.seat.view_is c.index_mut-mine.result.now c.index_mut-mine.ensures.value
    c.self.inside.domains.items c.index.result.now c.index.ensures c.self.view_is

pub returns-clause-seats : goal.returns-clause-seats
returns-clause-seats c = still_fits c.args.self.now c.args.seat.now c.seat.inside.seats.items c.args.domain c.requires.seats c.requires.domain c.seat.view_is c.index_mut-mine.result.now c.index_mut-mine.ensures.value c.new_period.new.seat c.new_period.ensures.same.0

pub returns-clause-told : goal.returns-clause-told
returns-clause-told c = changes c.args.self.now c.args.seat.now c.seat.inside.seats.items c.args.domain c.requires.seats c.requires.domain c.seat.view_is c.index_mut-mine.result.now c.index_mut-mine.ensures.value
    (λ s mid. MatchResult c.new_period.result (λ begun. Begins c.args.k begun s mid) (λ again. Lost c.args.k again s mid)) c.new_period.new.seat c.new_period.ensures.told

pub returns-clause-same : goal.returns-clause-same
returns-clause-same c = (
  keeps c.args.self.now c.args.seat.now c.seat.inside.seats.items c.args.domain c.requires.seats c.requires.domain c.seat.view_is c.index_mut-mine.result.now c.index_mut-mine.ensures.value (λ (s : Seated). s.stakes) c.new_period.new.seat c.new_period.ensures.same.1,
  keeps c.args.self.now c.args.seat.now c.seat.inside.seats.items c.args.domain c.requires.seats c.requires.domain c.seat.view_is c.index_mut-mine.result.now c.index_mut-mine.ensures.value (λ (s : Seated). s.room) c.new_period.new.seat c.new_period.ensures.same.2,
)
