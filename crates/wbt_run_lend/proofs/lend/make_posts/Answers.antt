use Rattle.std.proofs.Common.{Vec, Global, ℕ, ◌≡◌, ◌+◌, ◌<◌, ◌++◌, [], ◌∷◌, List, Some, length, drop, get_or, sym, ap, ◌∙◌, subst, arith, length-append}
use Rattle.std.specs.Vec.{vec_capacity}
use Rattle.wbt_run_worker.proofs.Common.{Grows, FlusherLine, Each, seen, written_by}
use Rattle.wbt_run_worker.specs.declared.side.Post.{Post}
use Rattle.wbt_run_drain.specs.Teams.{posts_of}
use Rattle.wbt_run_first.specs.Back.{NotFallen}
use Rattle.wbt_run_first.specs.Lent.{IsFirstPost, IsOpen, numbers_on}
use Rattle.wbt_run_first.proofs.Giving.{fallen_given, fallen_none, grows_nothing, grows_still, posts_nothing}
use Rattle.wbt_run_lend.proofs.Posting.{each_push, its_cpu, line_at, more_numbers, numbers_in, numbers_stay, push_post}
use Rattle.wbt_run_lend.proofs.lend.make_posts.Goals as goal
use Rattle.wbt_run_lend.proofs.lend.make_posts.Goals.{then-as_slice-number+in-Ok, else-as_slice-number}

pub returns-in-Err-clause-written : goal.returns-in-Err-clause-written
returns-in-Err-clause-written g c =
    let i = c.loop-number.invariant in
    let posts = posts_of g.R.D.Disk.written g.R.D.Disk.faults c.loop-number.posts.items in
    grows_still (g.R.Rack.written c.args.rack.now) (g.R.Rack.written c.make_post.new.rack) (g.R.Rack.written c.give_posts.new.rack)
    (grows_still (g.R.Rack.written c.args.rack.now) (g.R.Rack.written c.loop-number.rack) (g.R.Rack.written c.make_post.new.rack) i.written c.make_post.ensures.written)
    (grows_nothing (written_by posts) (g.R.Rack.written c.make_post.new.rack) (g.R.Rack.written c.give_posts.new.rack)
    (posts_nothing c.args.trace.now c.args.cpu posts i.each) c.give_posts.ensures.given.written)

pub returns-in-Err-clause-fallen : goal.returns-in-Err-clause-fallen
returns-in-Err-clause-fallen g c =
    fallen_none _ _ _ (fallen_none _ _ _ c.loop-number.invariant.fallen c.make_post.ensures.fallen) (fallen_given _ _ _ c.give_posts.ensures.given.risen)

abbrev no_line : FlusherLine
no_line = record { device = 0; cpu = 0 }

pub loop-number-preserved : goal.loop-number-preserved
loop-number-preserved g c =
    let i = c.loop-number.invariant in
    let written = g.R.D.Disk.written in
    let faults = g.R.D.Disk.faults in
    let trace = c.args.trace.now in
    let cpu = c.args.cpu in
    let n = c.loop-number.number in
    let old = c.loop-number.posts.items in
    let line = get_or c.args.trace.now.flushers c.loop-number.number no_line in
    let there : c.loop-number.number < length c.args.trace.now.flushers =
    subst (λ (l : List FlusherLine). c.loop-number.number < length l) c.as_slice-flushers.ensures c.loop-number-test.true in
    let line_is : get_or c.args.trace.now.flushers c.loop-number.number no_line ≡ get_or c.args.trace.now.flushers c.loop-number.number (get_or c.args.trace.now.flushers c.loop-number.number no_line) =
    line_at c.args.trace.now.flushers c.loop-number.number no_line (get_or c.args.trace.now.flushers c.loop-number.number no_line) there in
    elim c.if-as_slice-number.branch [
      | then-as_slice-number+in-Ok w ↦
          let post = w.in-Ok.post in
          let same : (get_or c.args.trace.now.flushers c.loop-number.number no_line).cpu ≡ c.args.cpu =
          subst (λ (l : List FlusherLine). (get_or l c.loop-number.number no_line).cpu ≡ c.args.cpu) c.as_slice.ensures w.if-as_slice-number.true in
          let items : c.if-as_slice-number.posts.items ≡ c.loop-number.posts.items ++ w.in-Ok.post ∷ [] = ap (λ (v : Vec (Post g.row.R-D.Denot) Global). v.items) w.posts-is ∙ w.push_reserved.ensures.items in
          let long : length c.if-as_slice-number.posts.items ≡ length (c.loop-number.posts.items ++ w.in-Ok.post ∷ []) = ap (λ (l : List (Post g.row.R-D.Denot)). length l) items in
          let room = ap (λ (v : Vec (Post g.row.R-D.Denot) Global). vec_capacity v) w.posts-is ∙ w.push_reserved.ensures.capacity in
          let made = its_cpu trace cpu n line (seen written faults post) line_is same w.in-Ok.ensures.number w.in-Ok.ensures.made in
          record {
            each = subst (λ (l : List (Post g.row.R-D.Denot)). Each (IsFirstPost c.args.trace.now c.args.cpu) (posts_of g.R.D.Disk.written g.R.D.Disk.faults l)) (sym items)
                (push_post written faults (IsFirstPost c.args.trace.now c.args.cpu) old post i.each made);
            numbers = subst (λ (l : List (Post g.row.R-D.Denot)). numbers_in g.R.D.Disk.written g.R.D.Disk.faults l ++ numbers_on c.args.cpu (c.loop-number.number + 1) (drop (c.loop-number.number + 1) c.args.trace.now.flushers)
                ≡ numbers_on c.args.cpu 0 c.args.trace.now.flushers) (sym items)
                (more_numbers written faults cpu n c.args.trace.now.flushers line old post (numbers_on c.args.cpu 0 c.args.trace.now.flushers) line_is there same w.in-Ok.ensures.number i.numbers);
            opens = subst (λ (l : List (Post g.row.R-D.Denot)). Each IsOpen l) (sym items) (each_push IsOpen old post i.opens w.in-Ok.ensures.opens);
            few = omega (arith, i.few, long, length-append c.loop-number.posts.items (w.in-Ok.post ∷ []));
            room = omega (arith, i.room, room);
            written = subst (λ (r : g.row.R.Denot). Grows (Some 0) (g.R.Rack.written c.args.rack.now) (g.R.Rack.written r)) (sym w.rack-is)
                (grows_still (g.R.Rack.written c.args.rack.now) (g.R.Rack.written c.loop-number.rack) (g.R.Rack.written w.make_post.new.rack) i.written w.make_post.ensures.written);
            fallen = subst (λ (r : g.row.R.Denot). NotFallen (g.R.Rack.faults c.args.rack.now) (g.R.Rack.faults r)) (sym w.rack-is)
                (fallen_none (g.R.Rack.faults c.args.rack.now) (g.R.Rack.faults c.loop-number.rack) (g.R.Rack.faults w.make_post.new.rack) i.fallen w.make_post.ensures.fallen);
          }
      | else-as_slice-number w ↦
          let other : (get_or c.args.trace.now.flushers c.loop-number.number no_line).cpu ≡ c.args.cpu → ⊥ =
          subst (λ (l : List FlusherLine). (get_or l c.loop-number.number no_line).cpu ≡ c.args.cpu → ⊥) c.as_slice.ensures w.if-as_slice-number.false in
          let items : c.if-as_slice-number.posts.items ≡ c.loop-number.posts.items = ap (λ (v : Vec (Post g.row.R-D.Denot) Global). v.items) w.posts-is in
          let long : length c.if-as_slice-number.posts.items ≡ length c.loop-number.posts.items = ap (λ (l : List (Post g.row.R-D.Denot)). length l) items in
          let room = ap (λ (v : Vec (Post g.row.R-D.Denot) Global). vec_capacity v) w.posts-is in
          record {
            each = subst (λ (l : List (Post g.row.R-D.Denot)). Each (IsFirstPost c.args.trace.now c.args.cpu) (posts_of g.R.D.Disk.written g.R.D.Disk.faults l)) (sym items) i.each;
            numbers = subst (λ (l : List (Post g.row.R-D.Denot)). numbers_in g.R.D.Disk.written g.R.D.Disk.faults l ++ numbers_on c.args.cpu (c.loop-number.number + 1) (drop (c.loop-number.number + 1) c.args.trace.now.flushers)
                ≡ numbers_on c.args.cpu 0 c.args.trace.now.flushers) (sym items)
                (ap (λ (l : List ℕ). numbers_in g.R.D.Disk.written g.R.D.Disk.faults c.loop-number.posts.items ++ l) (sym (numbers_stay cpu n c.args.trace.now.flushers line line_is there other)) ∙ i.numbers);
            opens = subst (λ (l : List (Post g.row.R-D.Denot)). Each IsOpen l) (sym items) i.opens;
            few = omega (arith, i.few, long);
            room = omega (arith, i.room, room);
            written = subst (λ (r : g.row.R.Denot). Grows (Some 0) (g.R.Rack.written c.args.rack.now) (g.R.Rack.written r)) (sym w.rack-is) i.written;
            fallen = subst (λ (r : g.row.R.Denot). NotFallen (g.R.Rack.faults c.args.rack.now) (g.R.Rack.faults r)) (sym w.rack-is) i.fallen;
          }
    ]
