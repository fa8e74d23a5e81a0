use Rattle.std.proofs.Common.{rules, ◌≡◌, ◌+◌, [], ◌∷◌, ◌++◌, List, length, ap, sym, subst, arith, ◌∙◌, length-append}
use Rattle.wbt_expiry.specs.Waiting.{Waiting}
use Rattle.wbt_audit_turns.specs.Waited.{wheel_at}
use Rattle.wbt_audit_turns.proofs.Waiting.{pushed}
use Rattle.wbt_audit_turns.proofs.waits.wheels_of.Goals as goal

pub loop-flusher-preserved : goal.loop-flusher-preserved
loop-flusher-preserved c =
    let ws : List Waiting = c.loop-flusher.wheels.items in
    let w : Waiting = c.in_ok-make.field-0 in
    let inv = c.loop-flusher.invariant in
    let is : c.push.new.self.items ≡ ws ++ w ∷ [] = search rules in
    let inodes : w.inodes ≡ length c.args.trace.now.inodes = search rules in
    let pairs : w.pairs ≡ [] = search rules in
    let more : length c.push.new.self.items ≡ length ws + 1 = ap length is ∙ length-append ws (w ∷ []) in
    record {
      long = omega (arith, more, inv.long);
      inodes = λ k less. subst (λ (xs : List Waiting). (wheel_at xs k).inodes ≡ length c.args.trace.now.inodes) (sym is)
          (pushed (λ (x : Waiting). x.inodes ≡ length c.args.trace.now.inodes) ws w (λ j l. inv.inodes j (omega (arith, inv.long, l))) inodes k (omega (arith, inv.long, less)));
      empty = λ k less. subst (λ (xs : List Waiting). (wheel_at xs k).pairs ≡ []) (sym is)
          (pushed (λ (x : Waiting). x.pairs ≡ []) ws w (λ j l. inv.empty j (omega (arith, inv.long, l))) pairs k (omega (arith, inv.long, less)));
    }
