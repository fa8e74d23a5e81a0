use Rattle.std.proofs.Common.{◌≡◌, ◌≤◌, vec_len}
use Rattle.std.specs.Vec.{vec_capacity}
use Rattle.wbt_run_seats.specs.Parts.{rest_of, parts_of}
use Rattle.wbt_run_seats.proofs.split.split_each.Given as goal

abbrev pub invariant-loop-cpu : goal.invariant-loop-cpu
invariant-loop-cpu g l = record {
  seats_are : l.seats ≡ rest_of l.kit l.cpu l.fn.seats;
  parts_are : l.parts.items ≡ parts_of l.kit l.cpu l.fn.seats;
  many : vec_len l.parts ≡ l.cpu;
  room : l.cpus ≤ vec_capacity l.parts;
}
