use Rattle.std.proofs.Common.{◌≡◌, ℕ, List, [], Option, None, sym, ap, ◌∙◌, subst, arith, ⊎_elim}
use Rattle.wbt_table.specs.declared.layout.Layout.{Layout}
use Rattle.wbt_table.specs.declared.seat.CpuSeat.TheInside.{Inside}
use Rattle.wbt_table.proofs.Common.{Sat, or_else, merged, both_of, Shape, Seated, States, seated, IsKept}
use Rattle.wbt_table.specs.declared.answer.Triple.{Triple}
use Rattle.wbt_table.specs.declared.held.HeldLimits.{HeldLimits}
use Rattle.wbt_table.specs.Calls.{joined_seat}
use Rattle.wbt_table.proofs.Living.{joins}
use Rattle.wbt_table.proofs.Bringing.{TriplesTaken, kept_joined, sequences_by}
use Rattle.wbt_table.proofs.Joining.{Taken, seen_joined, either_is}
use Rattle.wbt_table.proofs.seat.Throttle.join.Goals as goal
use Rattle.wbt_table.proofs.seat.Throttle.join.Goals.{Joined-timer, After-join_seat, in-Some, in_default}

-- once the timer is brought over, each other part of the seat is as the calls left it
brought : (c : Joined-timer) → (c.match-timer.into-inside.place ≡ c.into.inside.place) × (c.match-timer.into-inside.cpus ≡ c.take_over.new.into)
    × (c.match-timer.into-inside.lefts ≡ c.take_lefts.new.into) × (c.match-timer.into-inside.timer ≡ or_else c.into.inside.timer c.from.inside.timer)
    × (c.match-timer.into-inside.held.triples ≡ c.take_triples.new.into)
    × (c.match-timer.into-inside.held.sequences.items ≡ sequences_by c.from.inside.timer c.into.inside.held.sequences.items c.from.inside.held.sequences.items)
brought c = let a = c.into.inside in let b = c.from.inside in elim c.match-timer.branch [
  | in-Some w ↦ let e = w.into-inside-is in (
    ap (λ (z : Inside). z.place) e,
    ap (λ (z : Inside). z.cpus) e,
    ap (λ (z : Inside). z.lefts) e,
    ap (λ (z : Inside). z.timer) e ∙ sym (ap (λ (t : Option ℕ). or_else a.timer t) w.in-Some.is),
    ap (λ (z : Inside). z.held.triples) e,
    ap (λ (z : Inside). z.held.sequences.items) e ∙ w.take_numbers.ensures ∙ w.deref-in-Some.ensures.value
        ∙ sym (ap (λ (t : Option ℕ). sequences_by t a.held.sequences.items b.held.sequences.items) w.in-Some.is),
  )
  | in_default w ↦ let e = w.into-inside-is in let none : b.timer ≡ None = ⊎_elim (λ h. h) (λ h. absurd (w.in_default.not-Some h.0 h.1)) (either_is b.timer) in (
    ap (λ (z : Inside). z.place) e,
    ap (λ (z : Inside). z.cpus) e,
    ap (λ (z : Inside). z.lefts) e,
    ap (λ (z : Inside). z.timer) e ∙ sym (ap (λ (t : Option ℕ). or_else a.timer t) none),
    ap (λ (z : Inside). z.held.triples) e,
    ap (λ (z : Inside). z.held.sequences.items) e ∙ sym (ap (λ (t : Option ℕ). sequences_by t a.held.sequences.items b.held.sequences.items) none),
  )
]

-- both seats are of the throttle's layout
layouts : (c : After-join_seat) → (c.into.inside.place.me.0.layout ≡ c.args.self.now.layout) × (c.from.inside.place.me.0.layout ≡ c.args.self.now.layout)
layouts c = (
  ap (λ (z : Seated). z.layout) c.into.view_is ∙ c.requires.seats.0.layout,
  ap (λ (z : Seated). z.layout) c.from.view_is ∙ c.requires.seats.1.layout,
)

-- what is kept of both, and what both know
states_both : (c : After-join_seat) → c.match-timer.into-inside.cpus ≡ c.take_over.new.into
    → c.match-timer.into-inside.cpus.items ≡ merged c.into.inside.cpus.items c.from.inside.cpus.items
states_both c same = ap (λ v. v.items) same ∙ c.take_over.ensures ∙ ap (merged c.into.inside.cpus.items) c.deref-5.ensures.value

view_both : (c : After-join_seat) → c.match-timer.into-inside.place ≡ c.into.inside.place
    → c.join_seat.new.seat.me ≡ (both_of c.into.inside.place.me.0 c.from.inside.place.me.0, [])
view_both c same = let b = c.from.inside in c.join_seat.ensures.2 ∙ (λ i. (both_of (same i).me.0 b.place.me.0, (same i).me.1))
    ∙ ap (λ l. (both_of c.into.inside.place.me.0 b.place.me.0, l)) c.into.invariant.seat.slots

pub join_seat-requires : goal.join_seat-requires
join_seat-requires c =
    let e = ap (λ (t : Shape). t.table) c.self.view_is in
    let wide = c.self.inside.words.wide in
    let x = ap (λ (s : Seated). s.table) c.into.view_is in
    let y = ap (λ (s : Seated). s.table) c.from.view_is in
    let now : Inside = c.match-timer.into-inside in
    let parts = brought (goal.at.join_seat-requires c).Joined-timer in (
      ap (λ z. z.table_id) parts.0 ∙ x ∙ c.requires.seats.0.table ∙ sym e,
      y ∙ c.requires.seats.1.table ∙ sym e,
      c.from.invariant.seat.slots,
      omega arith,
      λ s kept at ne there. joins c.self.inside.words.table.shared.key s kept now.place.id c.from.inside.place.id now.place.me.0 c.from.inside.place.me.0 at ne there,
    )

pub invariant_of-into : goal.invariant_of-into
invariant_of-into c =
    let a = c.into.inside in
    let b = c.from.inside in
    let d = (goal.at.invariant_of-into c).After-join_seat in
    let parts = brought (goal.at.invariant_of-into c).Joined-timer in
    let key : Layout = c.args.self.now.layout in
    let theirs : c.deref.result.now ≡ b.cpus.items = c.deref.ensures.value in
    let lefts : c.deref-2.result.now ≡ b.lefts.items = c.deref-2.ensures.value in
    let t = c.take_lefts.ensures in
    let taken : Taken key b.cpus.items a.lefts.items b.lefts.items c.take_lefts.new.into.items =
    subst (λ (z : States × List ℕ). Taken key z.0 a.lefts.items z.1 c.take_lefts.new.into.items) (λ i. (theirs i, lefts i)) (record { long = t.long; taken = t.taken; others = t.others }) in
    let now : HeldLimits = c.match-timer.into-inside.held in
    let their_states : c.deref-3.result.now ≡ b.cpus.items = c.deref-3.ensures.value in
    let their_triples : c.deref-4.result.now ≡ b.held.triples.items = c.deref-4.ensures.value in
    let u = c.take_triples.ensures in
    let triples : TriplesTaken key b.cpus.items a.held.triples.items b.held.triples.items now.triples.items =
    subst (λ (z : States × List Triple × List Triple). TriplesTaken key z.0 a.held.triples.items z.1 z.2) (λ i. (their_states i, their_triples i, sym (ap (λ v. v.items) parts.4) i))
    (record { long = u.long; taken = u.taken; others = u.others }) in
    subst (λ (z : Sat × States × List ℕ × Option ℕ). IsKept z.0 z.1 z.2 now z.3)
    (λ i. (sym (view_both d parts.0) i, sym (states_both d parts.1) i, sym (ap (λ v. v.items) parts.2) i, sym parts.3 i))
    (kept_joined key a.place.me b.place.me a.cpus.items b.cpus.items a.lefts.items b.lefts.items c.take_lefts.new.into.items a.held b.held now a.timer b.timer (layouts d).0 (layouts d).1
    c.into.invariant c.from.invariant taken triples parts.5)

pub returns : goal.returns
returns c =
    let a = c.into.inside in
    let b = c.from.inside in
    let d = (goal.at.returns c).After-join_seat in
    let parts = brought (goal.at.returns c).Joined-timer in
    let table : c.join_seat.new.seat.table_id ≡ a.place.table_id = c.join_seat.ensures.0 ∙ ap (λ z. z.table_id) parts.0 in
    (λ i. seated (table i) (view_both d parts.0 i) (states_both d parts.1 i))
    ∙ seen_joined c.args.self.now.layout a.place.me b.place.me a.cpus.items b.cpus.items a.lefts.items b.lefts.items b.lefts.items a.timer b.timer (layouts d).0 (layouts d).1 c.into.invariant.seat c.from.invariant.seat a.place.table_id b.place.table_id
    ∙ (λ i. joined_seat (c.into.view_is i) (c.from.view_is i))
