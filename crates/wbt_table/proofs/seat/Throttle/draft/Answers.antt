use Rattle.std.proofs.Common.{◌≡◌, ℕ, ◌≤◌, refl, sym, ap, ◌∙◌, subst}
use Rattle.wbt_table.proofs.Common.{LAST_SEQUENCE, thresh, timer_after, Shape}
use Rattle.wbt_grant.proofs.Sequences.{sequence_drafted}
use Rattle.wbt_table.specs.declared.layout.Layout.{Layout}
use Rattle.wbt_table.proofs.Triples.{kept_ticked, sequence_known, sequences_after}
use Rattle.wbt_table.proofs.seat.Throttle.draft.Goals as goal

pub invariant_of-seat : goal.invariant_of-seat
invariant_of-seat c =
    let s = c.seat.inside in
    let may = c.requires.may in
    let key : Layout = c.self.inside.words.layout in
    let at = c.requires.seat.layout ∙ sym (ap (λ (t : Shape). t.layout) c.self.view_is) in
    let known = sequence_known key c.seat.invariant c.seat.view_is at may.0 may.1 in
    let same = sequence_drafted (λ d. c.args.limits) may.0 c.args.domain c.args.limits may.2.unsealed in
    kept_ticked key (thresh c.args.domain c.args.limits) c.seat.invariant c.seat.view_is at c.thresh.ensures.ticked may.0 may.1 refl s.held refl
    (sequences_after key s.held.sequences.items (timer_after (thresh c.args.domain c.args.limits) c.thresh.result may.0) known.0
    (λ d less. known.1 d less ∙ sym (ap (λ (f : ℕ → ℕ). f d) same))
    (λ d less. subst (λ (f : ℕ → ℕ). f d ≤ LAST_SEQUENCE) (sym same) (known.2 d less)))
    c.ticked-seat-inside.result c.ticked-seat-inside.ensures
