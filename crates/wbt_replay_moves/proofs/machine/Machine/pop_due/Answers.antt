use Rattle.std.proofs.Common.{◌≡◌, ◌≤◌, sym, subst, ◌∙◌}
use Rattle.std.proofs.Math.Nat.{max-eq_left}
use Rattle.std.proofs.lemmas.List.{get_or_default}
use Rattle.wbt_expiry.specs.Kept.{NoneDue}
use Rattle.wbt_expiry.specs.Waiting.{Waiting}
use Rattle.wbt_replay_moves.specs.Definition.State.{flusher_of, waiting_of, no_flusher}
use Rattle.wbt_replay_moves.specs.Seen.{seen}
use Rattle.wbt_replay_moves.proofs.Ageing.{if_none, same_wheel, stood_for}
use Rattle.wbt_replay_moves.proofs.machine.Machine.pop_due.Goals as goal

pub returns-in-Some-clause-none : goal.returns-in-Some-clause-none
returns-in-Some-clause-none c =
    let s = seen c.args.self.now in
    let at : c.index_mut.result.now ≡ flusher_of c.args.flusher s =
    c.index_mut.ensures.value ∙ get_or_default s.flushers c.args.flusher c.index_mut.result.now no_flusher c.requires.flusher in
    let stood : waiting_of c.args.flusher s ≡ c.in-Some.wheel = stood_for c.args.flusher s c.index_mut.result.now c.in-Some.wheel at c.in-Some.is in
    let told : c.args.now ≤ c.in-Some.wheel.told = subst (λ (w : Waiting). c.args.now ≤ w.told) stood c.requires.told in
    if_none _ c.next.result
    (λ taken. (
      subst (λ (w : Waiting). NoneDue c.args.now w.pairs) (sym stood) taken.0,
      same_wheel c.args.flusher s c.index_mut.result.now c.in-Some.wheel c.next.new.self at c.in-Some.is taken.1
          (c.next.ensures.told ∙ max-eq_left told) c.next.ensures.inodes,
    ))
    c.next.ensures.taken
