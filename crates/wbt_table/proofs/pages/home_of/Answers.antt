use Rattle.std.proofs.Common.{ℕ, ◌+◌, ◌-◌, ◌/◌, arith}
use Rattle.wbt_table.proofs.Common.{no_place}
use Rattle.wbt_table.proofs.Searching.{is_inside, not_after, after_it, end_before}
use Rattle.wbt_table.proofs.pages.home_of.Goals as goal
use Rattle.wbt_table.proofs.pages.home_of.Goals.{then-page-inodes, else-page-inodes}

pub loop-i-init : goal.loop-i-init
loop-i-init c = let inside = is_inside c.args.inodes.now 0 c.args.page c.requires.in_order (omega arith) (let page = c.requires.page in omega arith) in record {
  not_below = omega arith;
  not_above = omega arith;
  inside = omega arith;
  near = omega arith;
}

pub overflow_add-inodes : goal.overflow_add-inodes
overflow_add-inodes c = let i = c.loop-i.invariant in let inside = i.inside in let apart = c.if-low-high.false in let few = c.requires.few in
    let middle : ℕ = c.loop-i.low + (c.loop-i.high - c.loop-i.low) / 2 in
    let ends = end_before c.args.inodes.now 0 middle no_place c.requires.in_order (omega arith) in omega arith

pub loop-i-preserved : goal.loop-i-preserved
loop-i-preserved c = let i = c.loop-i.invariant in let inside = i.inside in let near = i.near in let apart = c.if-low-high.false in
    let below = i.not_below in let above = i.not_above in
    let middle : ℕ = c.loop-i.low + (c.loop-i.high - c.loop-i.low) / 2 in
    elim c.if-page-inodes.branch [
      | then-page-inodes w ↦ let less = w.if-page-inodes.true in let low = w.low-is in let high = w.high-is in
          let found = not_after c.args.inodes.now 0 c.args.page middle no_place c.requires.in_order (omega arith) less in record {
            not_below = omega arith;
            not_above = omega arith;
            inside = omega arith;
            near = omega arith;
          }
      | else-page-inodes w ↦ let more = w.if-page-inodes.false in let low = w.low-is in let high = w.high-is in
          let found = after_it c.args.inodes.now 0 c.args.page middle no_place c.requires.in_order (omega arith) more in record {
            not_below = omega arith;
            not_above = omega arith;
            inside = omega arith;
            near = omega arith;
          }
    ]
