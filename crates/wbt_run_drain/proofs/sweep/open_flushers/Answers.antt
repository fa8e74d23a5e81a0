use Rattle.std.proofs.Common.{◌<◌, ℕ, length, get_or, map, refl, sym, ap, ◌∙◌, subst}
use Rattle.std.specs.Vec.{with_items}
use Rattle.std.proofs.lemmas.List.{with_items_is}
use Rattle.wbt_run_worker.specs.declared.side.CpuSide.{CpuSide}
use Rattle.wbt_kit.proofs.Common.{same_default}
use Rattle.wbt_run_drain.specs.Swept.{IsReopened, reopened}
use Rattle.wbt_run_drain.proofs.Opened.{opened_all, opened_next, opened_none}
use Rattle.wbt_run_drain.proofs.sweep.open_flushers.Goals as goal

pub loop-cpu-init : goal.loop-cpu-init
loop-cpu-init g c = opened_none c.args.device c.args.sides.now

pub loop-cpu-preserved : goal.loop-cpu-preserved
loop-cpu-preserved g c =
    let there : c.loop-cpu.cpu < length c.loop-cpu.sides = subst (λ (n : ℕ). c.loop-cpu.cpu < n) (sym c.loop-cpu.auto.sides) c.loop-cpu-test.true in
    let was = get_or c.loop-cpu.sides c.loop-cpu.cpu c.index-sides-cpu.result in
    let is : CpuSide g.row.D.Denot = record was { posts = with_items was.posts c.open_posts.new.posts } in
    opened_next c.args.device c.args.sides.now c.loop-cpu.sides c.loop-cpu.cpu is there c.loop-cpu.invariant
    (λ other. subst (λ (side : CpuSide g.row.D.Denot). IsReopened c.args.device side is) (same_default c.loop-cpu.sides c.loop-cpu.cpu c.index-sides-cpu.result other there)
    (record {
      writers = refl;
      posts = with_items_is was.posts c.open_posts.new.posts (c.open_posts.auto.posts ∙ c.deref_mut.ensures.len) ∙ c.open_posts.ensures ∙ ap (λ posts. map (reopened c.args.device) posts) c.deref_mut.ensures.value;
      log = refl;
      end = refl;
    }))

pub returns : goal.returns
returns g c = opened_all c.args.device c.args.sides.now c.loop-cpu.sides c.loop-cpu.cpu c.loop-cpu-test.false c.loop-cpu.invariant
