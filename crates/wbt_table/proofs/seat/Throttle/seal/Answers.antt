use Rattle.std.proofs.Common.{◌≡◌, ℕ, suc, ◌+◌, ◌*◌, ◌<◌, ◌≤◌, not, refl, sym, ap, ◌∙◌, subst, arith}
use Rattle.wbt_table.proofs.Common.{LAST_SEQUENCE, one_if, publish, is_sealed, version_of, sequence_of, timer_after, domains, Shape}
use Rattle.wbt_grant.specs.declared.record.Stage.{Stage}
use Rattle.wbt_grant.proofs.Sequences.{sequence_published}
use Rattle.wbt_table.specs.declared.layout.Layout.{Layout}
use Rattle.wbt_table.proofs.Triples.{kept_ticked, sequence_known, sequences_set}
use Rattle.wbt_table.proofs.seat.Throttle.seal.Goals as goal

pub invariant_of-seat : goal.invariant_of-seat
invariant_of-seat c =
    let s = c.seat.inside in
    let may = c.requires.may in
    let key : Layout = c.self.inside.words.layout in
    let same : key ≡ c.args.self.now.layout = ap (λ (t : Shape). t.layout) c.self.view_is in
    let at = c.requires.seat.layout ∙ sym same in
    let known = sequence_known key c.seat.invariant c.seat.view_is at may.0 may.1 in
    let there = subst (λ (k : Layout). c.args.domain < domains k) (sym same) c.requires.there in
    let odd : sequence_of may.0 c.args.domain ≡ 2 * version_of c.args.domain may.0.published + 1 =
    ap (λ (stage : Stage). 2 * version_of c.args.domain may.0.published + one_if (not (is_sealed stage))) may.2.in_hand in
    let less = c.requires.room may.0 may.1 in
    let room : suc (sequence_of may.0 c.args.domain) ≤ LAST_SEQUENCE = omega (arith, odd, less) in
    let next = sequence_published (λ d. c.args.limits) may.0 c.args.domain c.args.limits (ap is_sealed may.2.in_hand) in
    kept_ticked key (publish c.args.domain c.args.limits) c.seat.invariant c.seat.view_is at c.publish.ensures.ticked may.0 may.1 refl _ refl
    (sequences_set key s.held.sequences.items c.args.domain c.index.result.now may.0 (timer_after (publish c.args.domain c.args.limits) c.publish.result may.0) known.0 known.1 known.2 room there c.index.ensures next)
    c.ticked-seat-inside.result c.ticked-seat-inside.ensures
