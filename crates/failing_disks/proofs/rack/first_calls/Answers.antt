use Rattle.std.proofs.Common.{◌+◌, ◌++◌, ◌∙◌, ℕ, List, [], ◌∷◌, ap}
use Rattle.failing_disks.proofs.FirstWrites.{one_write_more}
use Rattle.failing_disks.proofs.rack.first_calls.Goals as goal

pub loop-call-preserved : goal.loop-call-preserved
loop-call-preserved c =
    c.in_ok-push.ensures.items
    ∙ ap (λ (calls : List ℕ). calls ++ (c.loop-call.call + 1) ∷ []) c.loop-call.invariant
    ∙ one_write_more c.loop-call.call
