use Rattle.std.proofs.Common.{◌∙◌, ap, List, [], ◌∷◌, length}
use Rattle.std.proofs.lemmas.Result.{on_ok_weaker}
use Rattle.wbt_replay_moves.specs.Definition.Cpu.{do_last_at}
use Rattle.wbt_replay_moves.specs.Definition.Idle.{domain_loads, measures_of, weighs_of}
use Rattle.wbt_replay_moves.specs.Definition.State.{State, flusher_of}
use Rattle.wbt_replay_moves.specs.declared.todo.Silent.TheVariants as silent
use Rattle.wbt_replay_moves.specs.declared.todo.Todo.{Todo}
use Rattle.wbt_replay_moves.specs.declared.todo.Todo.TheVariants as todo
use Rattle.wbt_replay_moves.specs.Seen.{seen}
use Rattle.wbt_replay_moves.proofs.Loads.{measures_same}
use Rattle.wbt_replay_moves.proofs.machine.Machine.begin_test.Goals as goal

pub returns : goal.returns
returns c =
    let s = seen c.args.self.now in
    let cpu = c.args.cpu in
    let loaded = do_last_at cpu (domain_loads (length s.domains) 0) s in
    on_ok_weaker c.do_last.result (λ last. last ∙ ap (do_last_at cpu (todo.Silent silent.Test ∷ []))
    (c.in_ok-weigh_all.ensures
    ∙ ap (λ (at : State). do_last_at cpu (weighs_of (flusher_of c.args.flusher at).weighs) at)
    (c.in_ok-measure_all.ensures
    ∙ ap (λ (at : State). do_last_at cpu (measures_of (flusher_of c.args.flusher at).measures at) at) c.in_ok-load_domains.ensures
    ∙ ap (λ (ts : List Todo). do_last_at cpu ts loaded) (measures_same (flusher_of c.args.flusher s).measures s loaded.cpus))))
    c.do_last.ensures
