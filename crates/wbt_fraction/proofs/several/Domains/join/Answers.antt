use Rattle.std.proofs.Common.{◌≡◌, ◌<◌, length, ℕ, ◌^◌, List, get_or, sym, refl, ap, ◌∙◌, subst, arith, rules}
use Rattle.wbt_fraction.specs.Seat.{Seated, Shape}
use Rattle.wbt_fraction.specs.Several.{IsJoined, no_shape, no_seat}
use Rattle.wbt_fraction.proofs.Fitting.{fits_length, read_at}
use Rattle.wbt_fraction.proofs.Joining.{Joining, next_at, joined_next, all_joined, joined_fits, none_left}
use Rattle.wbt_fraction.proofs.several.Domains.join.Goals as goal

pub loop-seat-init : goal.loop-seat-init
unfolding Joining
loop-seat-init c =
    let rest : c.into_iter-seat-iterator.result.rest.items ≡ c.from.inside.seats.items = search rules in
    record { can = tt; finite = tt; joining = (c.into.view_is, rest ∙ c.from.view_is); domains = c.self.view_is }

pub index_mut-mine-requires : goal.index_mut-mine-requires
index_mut-mine-requires c =
    let now : List Seated = c.loop-seat.into-inside.seats.items in
    let t = next_at c.loop-seat.i c.args.self.now c.args.into.now c.args.from now c.loop-seat.seat-iterator.rest.items c.next.new.self.rest.items c.in-Some.seat c.in-Some.ensures.steps.0 c.loop-seat.invariant.joining c.requires.seats.0 c.requires.seats.1 in
    let less = t.less in
    let long = t.long in
    omega arith

pub index-requires : goal.index-requires
index-requires c =
    let now : List Seated = c.loop-seat.into-inside.seats.items in
    let t = next_at c.loop-seat.i c.args.self.now c.args.into.now c.args.from now c.loop-seat.seat-iterator.rest.items c.next.new.self.rest.items c.in-Some.seat c.in-Some.ensures.steps.0 c.loop-seat.invariant.joining c.requires.seats.0 c.requires.seats.1 in
    let less = t.less in
    let same = ap length c.self.view_is in
    omega arith

pub join-requires : goal.join-requires
join-requires c =
    let now : List Seated = c.loop-seat.into-inside.seats.items in
    let i : ℕ = c.loop-seat.i in
    let t = next_at i c.args.self.now c.args.into.now c.args.from now c.loop-seat.seat-iterator.rest.items c.next.new.self.rest.items c.in-Some.seat c.in-Some.ensures.steps.0 c.loop-seat.invariant.joining c.requires.seats.0 c.requires.seats.1 in
    let less = t.less in
    let long = t.long in
    let mine = read_at now now i c.index_mut-mine.result.now no_seat c.index_mut-mine.ensures.value refl (omega arith) in
    let theirs = read_at c.self.inside.domains.items c.args.self.now i c.index.result.now no_shape c.index.ensures c.self.view_is less in
    let shape = sym (ap (λ (s : Shape). s.table) theirs) in
    record { seats = (ap (λ (s : Seated). s.table) mine ∙ t.mine ∙ shape, t.theirs ∙ shape) }

pub overflow_add-i : goal.overflow_add-i
overflow_add-i c =
    let now : List Seated = c.loop-seat.into-inside.seats.items in
    let t = next_at c.loop-seat.i c.args.self.now c.args.into.now c.args.from now c.loop-seat.seat-iterator.rest.items c.next.new.self.rest.items c.in-Some.seat c.in-Some.ensures.steps.0 c.loop-seat.invariant.joining c.requires.seats.0 c.requires.seats.1 in
    let less : c.loop-seat.i < length c.args.self.now = t.less in
    let same = ap length c.self.view_is in
    let small : length c.self.inside.domains.items < 2 ^ 64 = search rules in
    omega arith

pub loop-seat-preserved : goal.loop-seat-preserved
loop-seat-preserved c =
    let now : List Seated = c.loop-seat.into-inside.seats.items in
    let i : ℕ = c.loop-seat.i in
    let j = subst (λ (l : List Seated). Joining i c.args.into.now c.args.from now l) c.in-Some.ensures.steps.0 c.loop-seat.invariant.joining in
    let t = next_at i c.args.self.now c.args.into.now c.args.from now c.loop-seat.seat-iterator.rest.items c.next.new.self.rest.items c.in-Some.seat c.in-Some.ensures.steps.0 c.loop-seat.invariant.joining c.requires.seats.0 c.requires.seats.1 in
    let less = t.less in
    let long = t.long in
    let first = fits_length c.args.self.now c.args.into.now c.requires.seats.0 in
    let mine = read_at now now i c.index_mut-mine.result.now no_seat c.index_mut-mine.ensures.value refl (omega arith) in
    let e = c.join.ensures in
    let is : IsJoined (get_or now i no_seat) c.in-Some.seat c.join.new.into =
    subst (λ (s : Seated). IsJoined s c.in-Some.seat c.join.new.into) mine record { table = e.table; notes = e.notes; trail = e.trail; stakes = e.stakes; room = e.room; complete = e.complete; whole = e.whole } in
    record {
      can = tt;
      finite = tt;
      joining = joined_next i c.args.into.now c.args.from now c.next.new.self.rest.items c.in-Some.seat c.join.new.into j (omega arith) is;
      domains = c.self.view_is;
    }

pub returns-clause-seats : goal.returns-clause-seats
returns-clause-seats c =
    let now : List Seated = c.loop-seat.into-inside.seats.items in
    let rest : length c.loop-seat.seat-iterator.rest.items ≡ 0 = search rules in
    let j = subst (λ (l : List Seated). Joining c.loop-seat.i c.args.into.now c.args.from now l) (none_left c.loop-seat.seat-iterator.rest.items rest) c.loop-seat.invariant.joining in
    let first = fits_length c.args.self.now c.args.into.now c.requires.seats.0 in
    let second = fits_length c.args.self.now c.args.from c.requires.seats.1 in
    joined_fits c.args.self.now c.args.into.now c.args.from now c.requires.seats.0 (all_joined c.loop-seat.i c.args.into.now c.args.from now j (omega arith))

pub returns-clause-joined : goal.returns-clause-joined
returns-clause-joined c =
    let now : List Seated = c.loop-seat.into-inside.seats.items in
    let rest : length c.loop-seat.seat-iterator.rest.items ≡ 0 = search rules in
    let j = subst (λ (l : List Seated). Joining c.loop-seat.i c.args.into.now c.args.from now l) (none_left c.loop-seat.seat-iterator.rest.items rest) c.loop-seat.invariant.joining in
    let first = fits_length c.args.self.now c.args.into.now c.requires.seats.0 in
    let second = fits_length c.args.self.now c.args.from c.requires.seats.1 in
    all_joined c.loop-seat.i c.args.into.now c.args.from now j (omega arith)
