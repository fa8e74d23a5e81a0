use Rattle.std.proofs.Common.{◌+◌, true≢false, List, set, vec_len, sym, subst, ap, refl, arith}
use Rattle.wbt_run_worker.proofs.Common.{Seats}
use Rattle.wbt_run_worker.specs.declared.side.CpuSide.{CpuSide}
use Rattle.wbt_run_drain.specs.declared.drain.Pass.{Pass}
use Rattle.wbt_run_drain.proofs.Passing.{PassesSide, by_here, may_here, on_here, over_now, passes_first}
use Rattle.wbt_run_drain.proofs.drain.pass_side.Goals as goal
use Rattle.wbt_run_drain.proofs.drain.pass_side.Goals.{then-is_open, else-is_open}

pub posts-init : goal.posts-init
posts-init g c = passes_first (g.C.Clock.told c.args.hands.now.clock.now) (g.G.Gate.said c.args.hands.now.gate.now) g.D.Disk.written g.D.Disk.faults c.args.trace.now c.args.hands.now.kit.now c.args.cpu
    c.len-at-end.result c.args.sides.now c.index-sides-cpu.result c.args.seats.now c.args.before.again c.requires.standing c.index-sides-cpu.is
    (let len = c.index-sides-cpu.result.posts.ok.0 in
    let e = c.len-at-end.ensures in
    let same = ap (λ (s : CpuSide g.row.D.Denot). vec_len s.posts) c.index-sides-cpu.is in
    omega arith)

pub turn_post-job-requires : goal.turn_post-job-requires
turn_post-job-requires g c = record {
  may = may_here (g.C.Clock.told c.args.hands.now.clock.now) (g.G.Gate.said c.args.hands.now.gate.now) g.D.Disk.written g.D.Disk.faults c.args.trace.now c.args.hands.now.kit.now c.args.cpu
      c.posts.at c.len-at-end.result c.args.sides.now c.posts.sides c.args.seats.now c.posts.seats c.args.before.again c.posts.pass.again c.requires.there c.posts.invariant
      c.index-sides-cpu-then-is_open.result c.index-sides-cpu-in-posts.result c.index-sides-cpu-in-posts-2.result c.index.result.now c.index.ensures c.posts-test.true
      (c.goes_on.ensures.0 c.if-not-goes_on.false) (c.if-is_open.ensures.0 refl);
}

pub posts-preserved : goal.posts-preserved
posts-preserved g c =
    let told = g.C.Clock.told c.args.hands.now.clock.now in
    let said = g.G.Gate.said c.args.hands.now.gate.now in
    let So = λ (sides : List (CpuSide g.row.D.Denot)) (seats : Seats) (pass : Pass). PassesSide told said g.D.Disk.written g.D.Disk.faults c.args.trace.now c.args.hands.now.kit.now c.args.cpu
    (c.posts.at + 1) c.len-at-end.result c.args.sides.now sides c.args.seats.now seats c.args.before.again pass.again in
    elim c.if-is_open.branch [
      | then-is_open w ↦
          subst (λ (sides : List (CpuSide g.row.D.Denot)). So sides c.if-is_open.seats c.if-is_open.pass) (sym w.sides-is)
          (subst (λ (seats : Seats). So (set c.posts.sides c.args.cpu w.turn_post-job.new.side) seats c.if-is_open.pass) (sym w.seats-is)
          (subst (λ (pass : Pass). So (set c.posts.sides c.args.cpu w.turn_post-job.new.side) w.turn_post-job.new.seats pass) (sym w.pass-is)
          (on_here told said g.D.Disk.written g.D.Disk.faults c.args.trace.now c.args.hands.now.kit.now c.args.cpu
          c.posts.at c.len-at-end.result c.args.sides.now c.posts.sides c.args.seats.now c.posts.seats c.args.before.again c.posts.pass.again c.requires.there c.posts.invariant
          w.index-sides-cpu-then-is_open.result c.index-sides-cpu-in-posts.result c.index-sides-cpu-in-posts-2.result c.index.result.now c.index.ensures
          w.turn_post-job.result w.turn_post-job.new.side w.turn_post-job.new.seats w.with-pass.result.again c.posts-test.true
          (c.goes_on.ensures.0 c.if-not-goes_on.false) (w.if-is_open.ensures.0 refl) w.turn_post-job.ensures.turned w.with-pass.ensures.last)))
      | else-is_open w ↦
          subst (λ (sides : List (CpuSide g.row.D.Denot)). So sides c.if-is_open.seats c.if-is_open.pass) (sym w.sides-is)
          (subst (λ (seats : Seats). So c.posts.sides seats c.if-is_open.pass) (sym w.seats-is)
          (subst (λ (pass : Pass). So c.posts.sides c.posts.seats pass) (sym w.pass-is)
          (by_here told said g.D.Disk.written g.D.Disk.faults c.args.trace.now c.args.hands.now.kit.now c.args.cpu
          c.posts.at c.len-at-end.result c.args.sides.now c.posts.sides c.args.seats.now c.posts.seats c.args.before.again c.posts.pass.again c.requires.there c.posts.invariant
          c.index-sides-cpu-in-posts.result c.index-sides-cpu-in-posts.result c.index-sides-cpu-in-posts-2.result c.index.result.now c.index.ensures c.posts-test.true
          (λ is_open. true≢false (sym (w.if-is_open.ensures.1 is_open))))))
    ]

pub returns-clause-over : goal.returns-clause-over
returns-clause-over g c = over_now (g.C.Clock.told c.args.hands.now.clock.now) (g.G.Gate.said c.args.hands.now.gate.now) g.D.Disk.written g.D.Disk.faults c.args.trace.now c.args.hands.now.kit.now c.args.cpu
    c.posts.at c.len-at-end.result c.args.sides.now c.posts.sides c.args.seats.now c.posts.seats c.args.before.again c.posts.pass.again c.requires.there c.posts.invariant c.posts-test.false
