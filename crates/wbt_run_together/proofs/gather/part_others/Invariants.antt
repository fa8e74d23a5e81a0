use Rattle.std.proofs.Common.{◌≡◌, ◌+◌, ◌≤◌, length}
use Rattle.std.specs.Vec.{vec_capacity}
use Rattle.wbt_run_worker.proofs.Common.{Each, Known}
use Rattle.wbt_run_together.specs.Gather.{AllAtKit}
use Rattle.wbt_run_first.specs.Voiced.{all_voices, voices_of}
use Rattle.wbt_run_together.proofs.Parting.{Parted}
use Rattle.wbt_run_together.proofs.gather.part_others.Given as goal

abbrev pub invariant-loop-worker : goal.invariant-loop-worker
invariant-loop-worker g l = record {
  sofar : Parted l.kit l.fn.seats l.fn.rest.rest.items l.fn.sides.items l.rest.rest.items l.all l.sides.items;
  others : AllAtKit l.kit l.rest.rest.items;
  many : l.rest.rest.len ≡ length l.rest.rest.items;
  its : l.voice.signals ≡ l.condition.signals;
  theirs : Each (λ (known : Known). known.signals ≡ l.condition.signals) (voices_of l.rest.rest.items);
  voice : all_voices l.voice (voices_of l.rest.rest.items) ≡ all_voices l.fn.voice (voices_of l.fn.rest.rest.items);
  room : length l.sides.items + length l.rest.rest.items ≤ vec_capacity l.sides;
}

abbrev pub decreases-loop-worker : goal.decreases-loop-worker
decreases-loop-worker g l = l.rest.rest.len
