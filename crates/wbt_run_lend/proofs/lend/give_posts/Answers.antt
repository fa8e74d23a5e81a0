use Rattle.std.proofs.Common.{◌≡◌, length, subst, rules}
use Rattle.wbt_io.specs.Faults.{more}
use Rattle.wbt_run_worker.proofs.Common.{Grows}
use Rattle.wbt_run_first.proofs.Giving.{given_post, no_posts}
use Rattle.wbt_run_lend.proofs.lend.give_posts.Goals as goal

pub loop-post-preserved : goal.loop-post-preserved
loop-post-preserved g c = λ pages faults rest.
    let w = g.R.D.Disk.written in
    let f = g.R.D.Disk.faults in
    c.loop-post.invariant pages faults
    (given_post w f c.in-Some.post c.loop-post.rest.rest.items c.next.new.self.rest.items
    (g.R.Rack.written c.loop-post.rack) (g.R.Rack.written c.give.new.self) pages (g.R.Rack.faults c.loop-post.rack) (g.R.Rack.faults c.give.new.self) faults
    c.in-Some.ensures.items
    (subst (λ (disk : g.row.R-D.Denot). Grows (w disk) (g.R.Rack.written c.loop-post.rack) (g.R.Rack.written c.give.new.self)) c.into_disk.ensures c.give.ensures.written)
    (subst (λ (disk : g.row.R-D.Denot). g.R.Rack.faults c.give.new.self ≡ more (f disk) (g.R.Rack.faults c.loop-post.rack)) c.into_disk.ensures c.give.ensures.faults)
    rest)

pub returns : goal.returns
returns g c =
    let none : length c.loop-post.rest.rest.items ≡ 0 = search rules in
    record {
      given = c.loop-post.invariant (g.R.Rack.written c.loop-post.rack) (g.R.Rack.faults c.loop-post.rack)
          (no_posts g.R.D.Disk.written g.R.D.Disk.faults c.loop-post.rest.rest.items (g.R.Rack.written c.loop-post.rack) (g.R.Rack.faults c.loop-post.rack) none);
    }
