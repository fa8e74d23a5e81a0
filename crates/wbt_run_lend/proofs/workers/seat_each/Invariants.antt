use Rattle.std.proofs.Common.{◌≡◌, ◌+◌, ◌≤◌, ◌++◌, length, map}
use Rattle.std.specs.Vec.{vec_capacity, vec_len}
use Rattle.wbt_run_worker.proofs.Common.{Each}
use Rattle.wbt_run_worker.specs.declared.worker.Worker.{Worker}
use Rattle.wbt_run_first.specs.Voiced.{IsVoiced, handed_out}
use Rattle.wbt_run_lend.proofs.workers.seat_each.Given as goal

abbrev pub invariant-loop-seats : goal.invariant-loop-seats
invariant-loop-seats g l = record {
  can : (goal.iterator-loop-seats g).can_next l.seats-iterator;
  finite : (goal.iterator-loop-seats g).is_finite l.seats-iterator;
  parts : map (λ (worker : Worker g.row.D.Denot). worker.seats) l.workers.items ++ l.seats-iterator.rest.items ≡ l.fn.parts.items;
  sides : map (λ (worker : Worker g.row.D.Denot). worker.side) l.workers.items ++ l.rest.rest.items ≡ l.fn.sides.items;
  many : l.rest.rest.len ≡ l.seats-iterator.rest.len;
  left : length l.workers.items + l.seats-iterator.rest.len ≡ vec_len l.fn.parts;
  voiced : Each (IsVoiced l.condition.signals) l.workers.items;
  voice : l.voice ≡ handed_out (length l.workers.items) l.fn.voice;
  room : length l.workers.items + l.seats-iterator.rest.len ≤ vec_capacity l.workers;
}
