use Rattle.std.proofs.Common.{◌≡◌, ⊎_elim, ℕ, ◌+◌, List, length, Option, Some, None, sym, refl, ap, ◌∙◌, subst, arith}
use mathlib.Core.Option.{some, some-injective}
use lib.ListN.{get_elem?}
use Rattle.atomic_table.proofs.Lists.{at_index}
use Rattle.wbt_table.specs.declared.layout.Layout.{Layout}
use Rattle.wbt_table.specs.declared.state.CpuState.{CpuState}
use Rattle.wbt_table.proofs.Common.{setting, Cpus, Has, given, MayGive, put_record, Kept, Shape, Seated, States, Knows, with_grant, OwnFits}
use Rattle.wbt_table.specs.Census.{Closes}
use Rattle.wbt_table.proofs.Seating.{some_is}
use Rattle.wbt_table.proofs.Joining.{followed_yet, one_follows, none_follows, either_is}
use Rattle.wbt_table.proofs.Logging.{GivenTo, one_given, none_given_now}
use Rattle.wbt_table.proofs.Closing.{all_given, own_fits, closes}
use Rattle.wbt_table.proofs.seat.Throttle.close.Goals as goal
use Rattle.wbt_table.proofs.seat.Throttle.close.Goals.{in-Some, in_default}

pub give-requires-clause-may : goal.give-requires-clause-may
give-requires-clause-may c =
    let b = c.seat.inside in
    let i : ℕ = c.loop-i.i in
    let l = c.len-i-end.ensures in
    let less = c.loop-i-test.true in
    let knows : Knows b.cpus.items i c.in-Some.state = at_index b.cpus.items i c.index.result.now (omega arith) c.index.ensures ∙ ap some c.in-Some.is in
    let q = c.seat.invariant.seat.agrees.known i c.in-Some.state knows in
    let k = c.seat.invariant.seat.agrees.kept i q.0 q.1 in
    let at : b.place.me.0.layout ≡ c.self.inside.words.layout = ap (λ (z : Seated). z.layout) c.seat.view_is ∙ c.requires.seat.layout ∙ sym (ap (λ (z : Shape). z.layout) c.self.view_is) in
    let same : k.0 ≡ c.in-Some.state = some_is k.0 c.in-Some.state (some-injective (Some k.0) (Some c.in-Some.state) (sym k.1 ∙ knows)) in
    let has : Has c.loop-i.place.me.0.cpus i q.0 = subst (λ (l : Cpus). Has l i q.0) (sym c.loop-i.invariant.3) (followed_yet with_grant i b.cpus.items b.place.me.0.cpus i (omega arith) ∙ q.1) in
    (q.0, has, subst (λ (z : Layout × CpuState). MayGive (setting z.0) i z.1.grants q.0) (λ j. (at j, same j)) k.2.grants)

pub loop-i-preserved : goal.loop-i-preserved
loop-i-preserved c =
    let b = c.seat.inside in
    let i : ℕ = c.loop-i.i in
    let l = c.len-i-end.ensures in
    let less = c.loop-i-test.true in
    let inv = c.loop-i.invariant in
    let states : States = b.cpus.items in
    let ys : Cpus = b.place.me.0.cpus in
    let x : Option CpuState = c.index.result.now in
    let at : get_elem? states i ≡ some x = at_index states i x (omega arith) c.index.ensures in
    elim c.match-index.branch [
      | in-Some w ↦ let knows : Knows states i w.in-Some.state = at ∙ ap some w.in-Some.is in
          let q = c.seat.invariant.seat.agrees.known i w.in-Some.state knows in
          let has : Has c.loop-i.place.me.0.cpus i q.0 = subst (λ (l : Cpus). Has l i q.0) (sym inv.3) (followed_yet with_grant i states ys i (omega arith) ∙ q.1) in
          let e = w.give.ensures in (
            ap (λ p. p.table_id) w.place-is ∙ e.seat.0 ∙ inv.0,
            ap (λ p. p.me.0.layout) w.place-is ∙ e.others.0 ∙ inv.1,
            ap (λ p. p.me.0.timer) w.place-is ∙ e.others.1 ∙ inv.2,
            ap (λ p. p.me.0.cpus) w.place-is ∙ e.given q.0 has ∙ ap (put_record i (given w.in-Some.state.grants q.0)) inv.3
                ∙ one_follows with_grant i states ys (Some w.in-Some.state) (Some q.0) knows q.1,
            ap (λ p. p.me.0.timer_log) w.place-is ∙ e.timer_log ∙ inv.4,
            subst (GivenTo (i + 1) b.place.me.0.logs) (ap (λ p. p.me.0.logs) (sym w.place-is))
                (one_given i w.in-Some.state.grants b.place.me.0.logs c.loop-i.place.me.0.logs w.give.new.place.me.0.logs inv.5 e.logs),
          )
      | in_default w ↦ let none : x ≡ None = ⊎_elim (λ h. h) (λ h. absurd (w.in_default.not-Some h.0 h.1)) (either_is x) in (
        ap (λ p. p.table_id) w.place-is ∙ inv.0,
        ap (λ p. p.me.0.layout) w.place-is ∙ inv.1,
        ap (λ p. p.me.0.timer) w.place-is ∙ inv.2,
        ap (λ p. p.me.0.cpus) w.place-is ∙ inv.3 ∙ none_follows with_grant i states ys None (at ∙ ap some none) (λ y. refl),
        ap (λ p. p.me.0.timer_log) w.place-is ∙ inv.4,
        subst (GivenTo (i + 1) b.place.me.0.logs) (ap (λ p. p.me.0.logs) (sym w.place-is)) (none_given_now i b.place.me.0.logs c.loop-i.place.me.0.logs inv.5),
      )
    ]

pub returns : goal.returns
returns c =
    let b = c.seat.inside in
    let l = c.len-i-end.ensures in
    let more = c.loop-i-test.false in
    let inv = c.loop-i.invariant in
    let key : Layout = c.args.seat.layout in
    let is : c.self.inside.words.layout ≡ key = ap (λ (z : Shape). z.layout) c.self.view_is ∙ sym c.requires.seat.layout in
    let same : c.self.inside.words.table.shared.key ≡ key = c.self.inside.words.key ∙ is in
    let final = c.close_with.ensures.values.2 in
    let st = final.0 in
    let kept : Kept key st = subst (λ (k : Layout). Kept k st) same final.1.0 in
    let cpus = inv.3 ∙ all_given b.cpus.items b.place.me.0.cpus c.loop-i.i c.seat.invariant.seat.agrees.as_long (omega arith) in
    let words = final.2 in
    let told = closes c.args.seat b.place.table_id b.place.me b.cpus.items b.lefts.items b.timer c.seat.view_is c.seat.invariant.seat st kept c.loop-i.place.id c.loop-i.place.me.0 final.1.1 cpus inv.2 (c.loop-i.i, inv.5) inv.4 in
    subst (λ (z : Layout × List ℕ). Closes c.args.seat (record { layout = z.0; words = z.1; states = b.cpus.items })) (λ j. (sym is j, words j)) told

pub invariant_of-result : goal.invariant_of-result
invariant_of-result c =
    let e = c.close_with.ensures in
    let final = e.values.2 in
    let st = final.0 in
    let key : Layout = c.self.inside.words.layout in
    let kept : Kept key st = subst (λ (k : Layout). Kept k st) c.self.inside.words.key final.1.0 in
    let words = final.2 in
    let at : c.seat.inside.place.me.0.layout ≡ key = ap (λ (z : Seated). z.layout) c.seat.view_is ∙ c.requires.seat.layout ∙ sym (ap (λ (z : Shape). z.layout) c.self.view_is) in (
      e.values.0,
      e.counts.1 ∙ c.self.inside.words.bare,
      c.self.inside.words.placed,
      ap (λ (l : List ℕ). length l) (sym words) ∙ kept.long,
      c.seat.invariant.seat.agrees.long ∙ ap (λ (k : Layout). k.cpus) at,
      subst (OwnFits key) words (own_fits key st kept),
    )
