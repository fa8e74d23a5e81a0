use Rattle.std.proofs.Common.{rules, ◌≡◌, ◌+◌, ◌*◌, ◌<◌, pos, ◌+ℤ◌, unsigned_abs, ℤ, w64, sym, subst, arith}
use Rattle.std.proofs.lemmas.Int.{to_z-of_z, ints}
use Rattle.count_on_cpus.proofs.shared_count.Goals as goal

pub loop-page-preserved : goal.loop-page-preserved
loop-page-preserved c = let first = c.add.ensures in let second = c.add-in-loop-page.ensures in let before = c.loop-page.invariant in
    let shared = to_z-of_z w64 c.add-in-loop-page.result.0 (search rules) in
    let one = to_z-of_z w64 c.add.result.1 (search rules) in
    let two = to_z-of_z w64 c.add-in-loop-page.result.1 (search rules) in
    let between = to_z-of_z w64 c.add.result.0 (search rules) in
    let all = before.0 in let more = first.one_more in let last = second.one_more in
    let was = c.loop-page.shared-is in let mine = c.loop-page.one-is in let other = c.loop-page.two-is in (
      omega (arith, ints),
      subst (λ (z : ℤ). unsigned_abs z < 32) (sym one) first.below_batch,
      subst (λ (z : ℤ). unsigned_abs z < 32) (sym two) second.below_batch,
    )
