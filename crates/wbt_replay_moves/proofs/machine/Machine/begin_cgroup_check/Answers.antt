use Rattle.std.proofs.Common.{◌≡◌, OnOk, List, subst}
use Rattle.wbt_replay_moves.specs.Definition.Cpu.{then_do}
use Rattle.wbt_replay_moves.specs.Seen.{seen}
use Rattle.wbt_replay_moves.specs.declared.todo.Todo.{Todo}
use Rattle.wbt_replay_moves.proofs.Writing.{check_of_group}
use Rattle.wbt_replay_moves.proofs.machine.Machine.begin_cgroup_check.Goals as goal

pub returns : goal.returns
returns c =
    subst (λ (items : List Todo). OnOk c.then_do.result (seen c.then_do.new.self ≡ then_do c.args.cpu items (seen c.args.self.now)))
    (check_of_group c.args.context c.args.group c.requires.cgroup) c.then_do.ensures
