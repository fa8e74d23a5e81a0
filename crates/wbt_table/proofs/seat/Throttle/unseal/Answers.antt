use Rattle.std.proofs.Common.{◌≡◌, ℕ, ◌<◌, refl, sym, ap, ◌∙◌, subst}
use Rattle.wbt_table.proofs.Common.{unseal, stage_of, is_sealed, timer_after, domains, Shape}
use Rattle.wbt_grant.proofs.Sequences.{sequence_unsealed}
use Rattle.wbt_table.specs.declared.layout.Layout.{Layout}
use Rattle.wbt_table.proofs.Triples.{kept_ticked, sequence_known, sequences_set}
use Rattle.wbt_table.proofs.seat.Throttle.unseal.Goals as goal

pub invariant_of-seat : goal.invariant_of-seat
invariant_of-seat c =
    let s = c.seat.inside in
    let may = c.requires.may in
    let key : Layout = c.self.inside.words.layout in
    let same : key ≡ c.args.self.now.layout = ap (λ (t : Shape). t.layout) c.self.view_is in
    let at = c.requires.seat.layout ∙ sym same in
    let known = sequence_known key c.seat.invariant c.seat.view_is at may.0 may.1 in
    let there = subst (λ (k : Layout). c.args.domain < domains k) (sym same) c.requires.there in
    let next = sequence_unsealed (λ d. record { thresh = 0; bg = 0; hard = 0 }) may.0 c.args.domain may.2.sealed in
    kept_ticked key (unseal c.args.domain) c.seat.invariant c.seat.view_is at c.unseal.ensures.ticked may.0 may.1 refl _ refl
    (sequences_set key s.held.sequences.items c.args.domain c.index_mut.result.now may.0 (timer_after (unseal c.args.domain) c.unseal.result may.0) known.0 known.1 known.2 may.2.room there c.index_mut.ensures.value next)
    c.ticked-seat-inside.result c.ticked-seat-inside.ensures
