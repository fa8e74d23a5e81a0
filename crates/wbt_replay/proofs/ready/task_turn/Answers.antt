use Rattle.std.proofs.Common.{◌≡◌, ℕ, List, ◌+◌, ◌-◌, ◌<◌, true, false, length, get_or, sym, ◌∙◌, ap, arith}
use Rattle.std.proofs.lemmas.List.{get_or_default}
use Rattle.wbt_replay_order.proofs.Common.{task_of, seen, after, is_task_ready, task_turn}
use Rattle.wbt_replay.proofs.Ordering.Seeking.{after_below, task_hit, task_miss, task_none}
use Rattle.wbt_replay.proofs.ready.task_turn.Goals as goal

pub returns-then-is_task_ready : goal.returns-then-is_task_ready
returns-then-is_task_ready c =
    let s = seen c.args.machine.now in
    let tasks = c.args.at.now.tasks in
    let list = c.as_slice-tasks.result.now in
    let is : list ≡ tasks = c.as_slice-tasks.ensures in
    let many : length list ≡ length tasks = ap length is in
    let less : c.loop.place < length tasks = c.loop.invariant.there (omega (arith, c.loop-test.true, many)) in
    let yes : is_task_ready s.now (task_of (get_or tasks c.loop.place 0) s) ≡ true =
    ap (λ (t : ℕ). is_task_ready s.now (task_of t s)) (ap (λ (l : List ℕ). get_or l c.loop.place 0) (sym is) ∙ get_or_default list c.loop.place 0 _ (omega (arith, less, many))) ∙ sym c.is_task_ready.ensures ∙ c.if-is_task_ready.true in
    sym (task_hit c.args.job tasks s (length tasks - c.loop.counter) c.loop.place (omega (arith, c.loop-test.true, many)) yes) ∙ c.loop.invariant.same

pub loop-preserved : goal.loop-preserved
loop-preserved c =
    let s = seen c.args.machine.now in
    let tasks = c.args.at.now.tasks in
    let list = c.as_slice-tasks.result.now in
    let is : list ≡ tasks = c.as_slice-tasks.ensures in
    let many : length list ≡ length tasks = ap length is in
    let next = c.after-place.ensures ∙ ap (λ (n : ℕ). after n c.loop.place) many in
    let less : c.loop.place < length tasks = c.loop.invariant.there (omega (arith, c.loop-test.true, many)) in
    let no : is_task_ready s.now (task_of (get_or tasks c.loop.place 0) s) ≡ false =
    ap (λ (t : ℕ). is_task_ready s.now (task_of t s)) (ap (λ (l : List ℕ). get_or l c.loop.place 0) (sym is) ∙ get_or_default list c.loop.place 0 _ (omega (arith, less, many))) ∙ sym c.is_task_ready.ensures ∙ c.if-is_task_ready.false in
    record {
      same = ap (task_turn c.args.job tasks s (length tasks - (c.loop.counter + 1))) next
          ∙ sym (task_miss c.args.job tasks s (length tasks - c.loop.counter) (length tasks - (c.loop.counter + 1)) c.loop.place (omega (arith, c.loop-test.true, many)) no)
          ∙ c.loop.invariant.same;
      there = λ some. omega (arith, next, after_below (length tasks) c.loop.place some);
    }

pub returns : goal.returns
returns c =
    let tasks = c.args.at.now.tasks in
    let list = c.as_slice-tasks.result.now in
    let is : list ≡ tasks = c.as_slice-tasks.ensures in
    let many : length list ≡ length tasks = ap length is in
    sym (task_none c.args.job tasks (seen c.args.machine.now) (length tasks - c.loop.counter) c.loop.place (omega (arith, c.loop-test.false, many))) ∙ c.loop.invariant.same
