use Rattle.std.proofs.Common.{ℕ, ◌+◌, ◌<◌, [], ◌∷◌, List, length, get_or, sym, ap, subst, arith, length-append}
use Rattle.wbt_run_worker.proofs.Common.{Each, Team, written_by}
use Rattle.wbt_run_worker.specs.declared.side.CpuSide.{CpuSide}
use Rattle.wbt_run_drain.specs.Teams.{teams_of, written_by_all}
use Rattle.wbt_run_first.specs.Back.{IsNothing}
use Rattle.wbt_run_first.specs.Lent.{IsFirstSide}
use Rattle.wbt_run_first.proofs.Giving.{fallen_given, fallen_none, grows_nothing, grows_still, teams_nothing}
use Rattle.wbt_run_lend.proofs.Posting.{at_push, push_side}
use Rattle.wbt_run_lend.proofs.lend.make_sides.Goals as goal

pub returns-in-Err-clause-written : goal.returns-in-Err-clause-written
returns-in-Err-clause-written g c =
    let i = c.loop-cpu.invariant in
    let teams = teams_of g.R.D.Disk.written g.R.D.Disk.faults c.loop-cpu.sides.items in
    grows_still (g.R.Rack.written c.args.rack.now) (g.R.Rack.written c.make_side.new.rack) (g.R.Rack.written c.give_all.new.rack)
    (grows_still (g.R.Rack.written c.args.rack.now) (g.R.Rack.written c.loop-cpu.rack) (g.R.Rack.written c.make_side.new.rack) i.written c.make_side.ensures.written)
    (grows_nothing (written_by_all teams) (g.R.Rack.written c.make_side.new.rack) (g.R.Rack.written c.give_all.new.rack)
    (teams_nothing teams i.unwritten) c.give_all.ensures.given.written)

pub returns-in-Err-clause-fallen : goal.returns-in-Err-clause-fallen
returns-in-Err-clause-fallen g c =
    fallen_none _ _ _ (fallen_none _ _ _ c.loop-cpu.invariant.fallen c.make_side.ensures.fallen) (fallen_given _ _ _ c.give_all.ensures.given.risen)

pub loop-cpu-preserved : goal.loop-cpu-preserved
loop-cpu-preserved g c =
    let i = c.loop-cpu.invariant in
    let w = g.R.D.Disk.written in
    let f = g.R.D.Disk.faults in
    let items = c.push_reserved.ensures.items in
    let side = c.in-Ok.side in
    let sides = c.loop-cpu.sides.items in
    let long = ap (λ (l : List (CpuSide g.row.R-D.Denot)). length l) items in
    record {
      each = λ now thresh.
          subst (λ (l : List (CpuSide g.row.R-D.Denot)). (cpu : ℕ) (other : CpuSide g.row.R-D.Denot) → cpu < c.loop-cpu.cpu + 1 → IsFirstSide w f c.args.trace.now now cpu (get_or l cpu other)) (sym items)
          (at_push (λ (cpu : ℕ) (s : CpuSide g.row.R-D.Denot). IsFirstSide w f c.args.trace.now now cpu s) sides side c.loop-cpu.cpu i.many (i.each now thresh) (c.in-Ok.ensures.made now thresh));
      unwritten =
          subst (λ (l : List (CpuSide g.row.R-D.Denot)). Each (λ (team : Team). IsNothing (written_by team.posts)) (teams_of w f l)) (sym items)
          (push_side w f (λ (team : Team). IsNothing (written_by team.posts)) sides side i.unwritten c.in-Ok.ensures.unwritten);
      many = omega (arith, long, i.many, length-append sides (side ∷ []));
      room = omega (arith, i.room, c.push_reserved.ensures.capacity);
      written = grows_still (g.R.Rack.written c.args.rack.now) (g.R.Rack.written c.loop-cpu.rack) (g.R.Rack.written c.make_side.new.rack) i.written c.make_side.ensures.written;
      fallen = fallen_none (g.R.Rack.faults c.args.rack.now) (g.R.Rack.faults c.loop-cpu.rack) (g.R.Rack.faults c.make_side.new.rack) i.fallen c.make_side.ensures.fallen;
    }

pub returns-clause-made : goal.returns-clause-made
returns-clause-made g c = λ now thresh.
    let i = c.loop-cpu.invariant in
    record {
      many = omega (arith, i.many);
      each = λ cpu other less. i.each now thresh cpu other (omega (arith, c.loop-cpu-test.false));
    }

pub returns-clause-unwritten : goal.returns-clause-unwritten
returns-clause-unwritten g c = teams_nothing (teams_of g.R.D.Disk.written g.R.D.Disk.faults c.loop-cpu.sides.items) c.loop-cpu.invariant.unwritten
