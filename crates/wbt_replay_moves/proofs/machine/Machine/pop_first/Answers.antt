use Rattle.std.proofs.Common.{◌≡◌, ap, sym, ◌∙◌}
use Rattle.std.proofs.lemmas.List.{get_or_default}
use Rattle.wbt_expiry.specs.Waiting.{Waiting}
use Rattle.wbt_replay_moves.specs.Definition.State.{flusher_of, waiting_of, no_flusher}
use Rattle.wbt_replay_moves.specs.Seen.{seen}
use Rattle.wbt_replay_moves.proofs.Ageing.{if_none, same_wheel, stood_for}
use Rattle.wbt_replay_moves.proofs.machine.Machine.pop_first.Goals as goal

pub returns-in-Some-clause-none : goal.returns-in-Some-clause-none
returns-in-Some-clause-none c =
    let s = seen c.args.self.now in
    let at : c.index_mut.result.now ≡ flusher_of c.args.flusher s =
    c.index_mut.ensures.value ∙ get_or_default s.flushers c.args.flusher c.index_mut.result.now no_flusher c.requires.flusher in
    let stood : waiting_of c.args.flusher s ≡ c.in-Some.wheel = stood_for c.args.flusher s c.index_mut.result.now c.in-Some.wheel at c.in-Some.is in
    if_none _ c.first.result
    (λ taken. (
      ap (λ (w : Waiting). w.pairs) stood ∙ taken.0,
      same_wheel c.args.flusher s c.index_mut.result.now c.in-Some.wheel c.first.new.self at c.in-Some.is (taken.1 ∙ sym taken.0)
          c.first.ensures.told c.first.ensures.inodes,
    ))
    c.first.ensures.taken
