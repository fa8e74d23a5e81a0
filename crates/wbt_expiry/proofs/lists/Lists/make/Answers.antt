use Rattle.std.proofs.Common.{◌≡◌, replicate}
use Rattle.wbt_expiry.proofs.Homes.{none_is_in}
use Rattle.wbt_expiry.proofs.Marking.{told_at_first}
use Rattle.wbt_expiry.proofs.lists.Lists.make.Goals as goal

pub invariant_of-result : goal.invariant_of-result
invariant_of-result c =
    let firsts : c.in_ok-firsts.firsts.items ≡ replicate 258 c.args.numbers = c.in_ok-firsts.ensures.items_if_clones_equal (λ y same. same) in
    let nexts : c.in_ok-nexts.nexts.items ≡ replicate c.args.numbers c.args.numbers = c.in_ok-nexts.ensures.items_if_clones_equal (λ y same. same) in
    let homes : c.in_ok-homes.homes.items ≡ replicate c.args.numbers 258 = c.in_ok-homes.ensures.items_if_clones_equal (λ y same. same) in
    rw (firsts, nexts, homes) record { sound = none_is_in c.args.numbers; told = told_at_first c.none.result c.args.numbers c.none.ensures }
