use Rattle.std.proofs.Common.{◌≡◌, ℕ, List, ◌-◌, arith, ap, ◌∙◌, subst, take, drop, length}
use Rattle.std.proofs.Math.Seq.{take-add}
use Rattle.std.proofs.lemmas.List.{length-drop, take_all}
use Rattle.std.specs.Io.KnownBytes.{append_known}
use Rattle.wbt_io.proofs.Told.{append_known-append}
use Rattle.wbt_io.proofs.sink.write_all.Goals as goal

pub pieces-preserved : goal.pieces-preserved
pieces-preserved g c =
    let bytes = c.args.bytes.now in
    let done = c.pieces.done in
    let count = c.in_ok-count.count in
    let long = length-drop done bytes in
    let piece = take_all (length bytes - done) (drop done bytes) (omega (arith, long)) in
    let takes = subst (λ (l : List ℕ). g.K.Sink.held c.write.new.self ≡ append_known (g.K.Sink.held c.pieces.sink) (take count l)) piece c.in_ok-count.ensures.takes in
    record {
      held = rw take-add (takes ∙ ap (λ o. append_known o (take count (drop done bytes))) c.pieces.invariant.held ∙ append_known-append (g.K.Sink.held c.args.sink.now) (take done bytes) (take count (drop done bytes)));
      within = omega (arith, c.in_ok-count.ensures.within, long, c.pieces.invariant.within);
      later = omega (arith, c.write.ensures.later, c.pieces.invariant.later);
    }
