use Rattle.std.proofs.Common.{◌≡◌, ◌≢◌, ◌<◌, ℕ, set, sym, subst}
use Rattle.wbt_expiry.specs.Lists.{home, no_list, due_of}
use Rattle.wbt_expiry.proofs.Moving.{new_home_below, one_fewer, moving_step, apart_now}
use Rattle.wbt_expiry.proofs.moves.move_list.Goals as goal

pub push-requires-clause-list : goal.push-requires-clause-list
push-requires-clause-list c = let below = new_home_below c.args.base (due_of c.args.dues.now c.in-Some.inode) in subst (λ (n : ℕ). n < no_list) (sym c.new_home-home.ensures) below

pub pairs-smaller : goal.pairs-smaller
pairs-smaller c =
    let taken : (home c.pairs.lists c.in-Some.inode ≡ c.args.list) × (c.pop.new.self ≡ set c.pairs.lists c.in-Some.inode no_list) = c.in-Some.ensures in
    one_fewer c.args.list c.pairs.lists c.pop.new.self c.push.new.self c.in-Some.inode c.new_home-home.result c.requires.list taken.0 taken.1 c.push.ensures
    (subst (λ (n : ℕ). n ≢ c.args.list) (sym c.new_home-home.ensures)
    (apart_now c.args.dues.now c.args.base c.args.list c.args.lists.now c.pairs.lists c.pairs.invariant c.requires.apart c.in-Some.inode taken.0))

pub pairs-preserved : goal.pairs-preserved
pairs-preserved c =
    let taken : (home c.pairs.lists c.in-Some.inode ≡ c.args.list) × (c.pop.new.self ≡ set c.pairs.lists c.in-Some.inode no_list) = c.in-Some.ensures in
    moving_step c.args.dues.now c.args.base c.args.list c.args.lists.now c.pairs.lists c.pop.new.self c.push.new.self c.in-Some.inode c.new_home-home.result c.pairs.invariant c.requires.list taken.0 taken.1 c.push.ensures c.new_home-home.ensures
