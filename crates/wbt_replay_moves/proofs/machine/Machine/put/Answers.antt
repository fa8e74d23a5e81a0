use Rattle.std.proofs.Common.{◌≡◌, ◌∙◌}
use Rattle.std.proofs.lemmas.Bool.{OnFalse_at, OnFalse_from}
use Rattle.std.proofs.lemmas.List.{get_or_default}
use Rattle.wbt_replay_moves.specs.Definition.State.{flusher_of, no_flusher}
use Rattle.wbt_replay_moves.specs.Seen.{seen}
use Rattle.wbt_replay_moves.proofs.Ageing.{same_wheel}
use Rattle.wbt_replay_moves.proofs.machine.Machine.put.Goals as goal

pub returns-in-Some-clause-refused : goal.returns-in-Some-clause-refused
returns-in-Some-clause-refused c =
    let s = seen c.args.self.now in
    let at : c.index_mut.result.now ≡ flusher_of c.args.flusher s =
    c.index_mut.ensures.value ∙ get_or_default s.flushers c.args.flusher c.index_mut.result.now no_flusher c.requires.flusher in
    OnFalse_from c.put.result _ (λ waits. same_wheel c.args.flusher s c.index_mut.result.now c.in-Some.wheel c.put.new.self at c.in-Some.is
    (OnFalse_at waits c.put.ensures.refused) c.put.ensures.told c.put.ensures.inodes)
