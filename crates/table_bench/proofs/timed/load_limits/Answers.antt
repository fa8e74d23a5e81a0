use Rattle.std.proofs.Common.{◌≡◌, true}
use Rattle.table_bench.proofs.Loading.{after_a_load}
use Rattle.table_bench.proofs.timed.load_limits.Goals as goal

pub returns-in-Fresh : goal.returns-in-Fresh
returns-in-Fresh c = after_a_load c.args.throttle.now c.args.cpu c.args.writer 0 (λ steps answer. answer ≡ true) c.load_limits.result c.args.seat.now c.load_limits.new.seat c.requires.writer.seat c.requires.seat c.load_limits.ensures

pub returns-in-Again : goal.returns-in-Again
returns-in-Again c = after_a_load c.args.throttle.now c.args.cpu c.args.writer 0 (λ steps answer. answer ≡ true) c.load_limits.result c.args.seat.now c.load_limits.new.seat c.requires.writer.seat c.requires.seat c.load_limits.ensures
