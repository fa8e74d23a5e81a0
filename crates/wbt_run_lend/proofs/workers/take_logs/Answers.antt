use Rattle.std.proofs.Common.{◌≡◌, ◌++◌, List, [], ◌∷◌, length, sym, ap, ◌∙◌, append_assoc, arith, length-append, rules}
use Rattle.wbt_run_worker.proofs.Common.{CpuJournal}
use Rattle.wbt_run_worker.specs.declared.side.CpuSide.{CpuSide}
use Rattle.wbt_run_drain.specs.Teams.{logs_of}
use Rattle.wbt_run_first.proofs.Giving.{given_side, no_sides}
use Rattle.wbt_run_lend.proofs.workers.take_logs.Goals as goal

pub loop-side-preserved : goal.loop-side-preserved
loop-side-preserved g c =
    let i = c.loop-side.invariant in
    let items = c.in-Some.ensures.items in
    let many = ap (λ (l : List (CpuSide g.row.R-D.Denot)). length l) items in
    let pushed = ap (λ (l : List CpuJournal). length l) c.push_reserved.ensures.items in
    record {
      given = λ pages faults rest.
          i.given pages faults
          (given_side g.R.D.Disk.written g.R.D.Disk.faults c.in-Some.side c.loop-side.rest.rest.items c.next.new.self.rest.items
          (g.R.Rack.written c.loop-side.rack) (g.R.Rack.written c.give_posts.new.rack) pages (g.R.Rack.faults c.loop-side.rack) (g.R.Rack.faults c.give_posts.new.rack) faults
          items c.give_posts.ensures.given rest);
      logs =
          ap (λ (l : List CpuJournal). l ++ logs_of c.next.new.self.rest.items) c.push_reserved.ensures.items
          ∙ append_assoc c.loop-side.logs.items (c.in-Some.side.log ∷ []) (logs_of c.next.new.self.rest.items)
          ∙ ap (λ (l : List (CpuSide g.row.R-D.Denot)). c.loop-side.logs.items ++ logs_of l) (sym items)
          ∙ i.logs;
      room = omega (arith, i.room, many, pushed, length-append c.loop-side.logs.items (c.in-Some.side.log ∷ []), c.push_reserved.ensures.capacity);
    }

pub returns-clause-given : goal.returns-clause-given
returns-clause-given g c =
    let none : length c.loop-side.rest.rest.items ≡ 0 = search rules in
    c.loop-side.invariant.given (g.R.Rack.written c.loop-side.rack) (g.R.Rack.faults c.loop-side.rack)
    (no_sides g.R.D.Disk.written g.R.D.Disk.faults c.loop-side.rest.rest.items (g.R.Rack.written c.loop-side.rack) (g.R.Rack.faults c.loop-side.rack) none)
