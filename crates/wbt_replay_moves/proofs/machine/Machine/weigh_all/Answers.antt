use Rattle.std.proofs.Common.{ℕ, List, ◌≡◌, ◌∙◌, ap}
use Rattle.std.proofs.lemmas.List.{get_or_default}
use Rattle.std.proofs.lemmas.Result.{on_ok_weaker}
use Rattle.wbt_replay_moves.specs.Definition.Cpu.{do_last}
use Rattle.wbt_replay_moves.specs.Definition.Idle.{weighs_of}
use Rattle.wbt_replay_moves.specs.Definition.State.{cpu_of, with_cpu, flusher_of, no_cpu, no_flusher}
use Rattle.wbt_replay_moves.specs.declared.state.Cpu.{Cpu}
use Rattle.wbt_replay_moves.specs.declared.state.Flusher.{Flusher}
use Rattle.wbt_replay_moves.specs.Seen.{seen}
use Rattle.wbt_replay_moves.proofs.machine.Machine.weigh_all.Goals as goal

pub returns : goal.returns
returns c =
    let s = seen c.args.self.now in
    let at : c.index_mut.result.now ≡ cpu_of c.args.cpu s =
    c.index_mut.ensures.value ∙ get_or_default s.cpus c.args.cpu c.index_mut.result.now no_cpu c.requires.cpu in
    let weighs : c.as_slice-weighs.result.now ≡ (flusher_of c.args.flusher s).weighs =
    c.as_slice-weighs.ensures ∙ ap (λ (f : Flusher). f.weighs)
    (c.index.ensures ∙ get_or_default s.flushers c.args.flusher c.index.result.now no_flusher c.requires.flusher) in
    on_ok_weaker c.put_weighs.result (λ put. ap (λ (cpu : Cpu). with_cpu c.args.cpu cpu s)
    (put ∙ ap (do_last (weighs_of c.as_slice-weighs.result.now)) at
    ∙ ap (λ (ks : List ℕ). do_last (weighs_of ks) (cpu_of c.args.cpu s)) weighs))
    c.put_weighs.ensures
