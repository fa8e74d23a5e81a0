use Rattle.std.proofs.Common.{◌≡◌, length, rules}
use Rattle.wbt_run_first.proofs.Giving.{given_side, no_sides}
use Rattle.wbt_run_lend.proofs.lend.give_all.Goals as goal

pub loop-side-preserved : goal.loop-side-preserved
loop-side-preserved g c = λ pages faults rest.
    c.loop-side.invariant pages faults
    (given_side g.R.D.Disk.written g.R.D.Disk.faults c.in-Some.side c.loop-side.rest.rest.items c.next.new.self.rest.items
    (g.R.Rack.written c.loop-side.rack) (g.R.Rack.written c.give_posts.new.rack) pages (g.R.Rack.faults c.loop-side.rack) (g.R.Rack.faults c.give_posts.new.rack) faults
    c.in-Some.ensures.items c.give_posts.ensures.given rest)

pub returns : goal.returns
returns g c =
    let none : length c.loop-side.rest.rest.items ≡ 0 = search rules in
    record {
      given = c.loop-side.invariant (g.R.Rack.written c.loop-side.rack) (g.R.Rack.faults c.loop-side.rack)
          (no_sides g.R.D.Disk.written g.R.D.Disk.faults c.loop-side.rest.rest.items (g.R.Rack.written c.loop-side.rack) (g.R.Rack.faults c.loop-side.rack) none);
    }
