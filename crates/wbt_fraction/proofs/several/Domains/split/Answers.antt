use Rattle.std.proofs.Common.{◌≡◌, ◌≤◌, ◌++◌, ◌∷◌, [], ℕ, length, List, get_or, set, sym, ap, ap₂, ◌∙◌, subst, arith}
use Rattle.wbt_fraction.specs.Seat.{Seated, Shape}
use Rattle.wbt_fraction.specs.Several.{Fits, left_of, right_of, no_seat, no_shape}
use Rattle.wbt_fraction.proofs.Fitting.{fits_length, fits_at, read_at, within, split_mine, split_first, rights, split_more, rights_more, split_length, rights_length, split_all, rights_all, lefts_fit, rights_fit, room_at, is_left, is_right}
use Rattle.wbt_fraction.proofs.several.Domains.split.Goals as goal

pub loop-i-init : goal.loop-i-init
unfolding split_first rights
loop-i-init c = record {
  mine = c.seat.view_is;
  others = c.in_ok-seats.ensures.items;
  place = let cap = c.in_ok-seats.ensures.capacity in let a = c.len.ensures in let b = c.len-i-end.ensures in omega arith;
  bound = omega arith;
  domains = c.self.view_is;
  last = let b = c.len-i-end.ensures in let s = ap length c.self.view_is in omega arith;
}

pub index_mut-mine-requires : goal.index_mut-mine-requires
index_mut-mine-requires c =
    let v = c.loop-i.invariant in
    let long = fits_length c.args.self.now c.args.seat.now c.requires.seats in
    let same = ap length v.mine ∙ split_length c.loop-i.i c.args.seat.now in
    let less = c.loop-i-test.true in
    let last = v.last in
    omega arith

pub split-other-requires-clause-seat : goal.split-other-requires-clause-seat
split-other-requires-clause-seat c =
    let v = c.loop-i.invariant in
    let low = within c.args.self.now c.args.seat.now c.loop-i.i _ c.requires.seats v.last c.loop-i-test.true in
    let mine = split_mine c.loop-i.seat-inside.seats.items c.args.seat.now c.loop-i.i c.index_mut-mine.result.now v.mine c.index_mut-mine.ensures.value low in
    let long = fits_length c.args.self.now c.args.seat.now c.requires.seats in
    let theirs = read_at c.self.inside.domains.items c.args.self.now c.loop-i.i c.index.result.now no_shape c.index.ensures c.self.view_is (omega arith) in
    ap (λ (s : Seated). s.table) mine ∙ fits_at c.args.self.now c.args.seat.now c.loop-i.i c.requires.seats (omega arith) ∙ sym (ap (λ (s : Shape). s.table) theirs)

pub split-other-requires-clause-stakes : goal.split-other-requires-clause-stakes
split-other-requires-clause-stakes c =
    let v = c.loop-i.invariant in
    let low = within c.args.self.now c.args.seat.now c.loop-i.i _ c.requires.seats v.last c.loop-i-test.true in
    let mine = split_mine c.loop-i.seat-inside.seats.items c.args.seat.now c.loop-i.i c.index_mut-mine.result.now v.mine c.index_mut-mine.ensures.value low in
    subst (λ (s : Seated). 2 ≤ s.stakes) (sym mine) (room_at c.args.seat.now c.loop-i.i c.requires.room low).0

pub split-other-requires-clause-room : goal.split-other-requires-clause-room
split-other-requires-clause-room c =
    let v = c.loop-i.invariant in
    let low = within c.args.self.now c.args.seat.now c.loop-i.i _ c.requires.seats v.last c.loop-i-test.true in
    let mine = split_mine c.loop-i.seat-inside.seats.items c.args.seat.now c.loop-i.i c.index_mut-mine.result.now v.mine c.index_mut-mine.ensures.value low in
    subst (λ (s : Seated). 8589934592 ≤ s.room) (sym mine) (room_at c.args.seat.now c.loop-i.i c.requires.room low).1

pub push_reserved-requires : goal.push_reserved-requires
push_reserved-requires c =
    let v = c.loop-i.invariant in
    let i : ℕ = c.loop-i.i in
    let long = fits_length c.args.self.now c.args.seat.now c.requires.seats in
    let less = c.loop-i-test.true in
    let last = v.last in
    let place = v.place in
    let count = ap length v.others ∙ rights_length i c.args.seat.now (omega arith) in
    omega arith

pub loop-i-preserved : goal.loop-i-preserved
loop-i-preserved c =
    let v = c.loop-i.invariant in
    let i : ℕ = c.loop-i.i in
    let all : List Seated = c.args.seat.now in
    let long = fits_length c.args.self.now all c.requires.seats in
    let same = split_length i all in
    let less = c.loop-i-test.true in
    let last = v.last in
    let low = within c.args.self.now all i _ c.requires.seats last less in
    let mine = split_mine c.loop-i.seat-inside.seats.items all i c.index_mut-mine.result.now v.mine c.index_mut-mine.ensures.value low in
    let old = c.split-other.ensures.old in
    let new = c.split-other.ensures.new in
    let left : c.split-other.new.seat ≡ left_of (get_or all i no_seat) = is_left c.index_mut-mine.result.now c.split-other.new.seat old.0 old.1 old.2 old.3 old.4 ∙ ap left_of mine in
    let right : c.split-other.result ≡ right_of (get_or all i no_seat) = is_right c.index_mut-mine.result.now c.split-other.result new.0 new.1 new.2 new.3 new.4 ∙ ap right_of mine in record {
      mine = ap₂ (λ (l : List Seated) (s : Seated). set l i s) v.mine left ∙ split_more i all (omega arith);
      others = c.push_reserved.ensures.items ∙ ap₂ (λ (l : List Seated) (s : Seated). l ++ s ∷ []) v.others right ∙ rights_more i all (omega arith);
      place = let cap = c.push_reserved.ensures.capacity in let place = v.place in omega arith;
      bound = omega arith;
      domains = c.self.view_is;
      last = last;
    }

pub returns-clause-ok : goal.returns-clause-ok
returns-clause-ok c =
    let v = c.loop-i.invariant in
    let all : List Seated = c.args.seat.now in
    let long = fits_length c.args.self.now all c.requires.seats in
    let last = v.last in
    let bound = v.bound in
    let done = c.loop-i-test.false in
    let is : c.loop-i.i ≡ length all = omega arith in
    let mine = v.mine ∙ split_all c.loop-i.i all is in
    let others = v.others ∙ rights_all c.loop-i.i all is in (
      subst (λ (l : List Seated). Fits c.args.self.now l) (sym others) (rights_fit c.args.self.now all c.requires.seats),
      subst (λ (l : List Seated). Fits c.args.self.now l) (sym mine) (lefts_fit c.args.self.now all c.requires.seats),
      mine,
      others,
    )
