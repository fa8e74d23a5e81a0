use Rattle.std.proofs.Common.{◌<◌, ◌≤◌, length, arith, ap}
use Rattle.wbt_expiry.specs.Lists.{home, no_list}
use Rattle.wbt_expiry.proofs.Homes.{first_read, number_put}
use Rattle.wbt_expiry.proofs.Marking.{told_filled}
use Rattle.wbt_expiry.proofs.lists.Lists.push.Goals as goal

pub invariant_of-self : goal.invariant_of-self
invariant_of-self c =
    let below : c.args.number < length c.self.inside.nexts.items = omega (arith, c.requires.number, c.self.invariant.sound.long, ap length c.self.view_is) in
    let out : no_list ≤ home c.self.inside.homes.items c.args.number = rw c.self.view_is c.requires.out in
    record {
      sound = number_put c.self.inside.firsts.items c.self.inside.nexts.items c.self.inside.homes.items c.self.invariant.sound
          c.args.list c.requires.list c.args.number c.index.result.now below out
          (first_read c.self.inside.firsts.items c.self.inside.nexts.items c.self.inside.homes.items c.self.invariant.sound
          c.args.list c.index.result.now c.requires.list c.index.ensures);
      told = told_filled c.self.inside.marks c.put.new.self c.self.inside.firsts.items c.self.inside.nexts.items c.args.list c.args.number c.index.result.now
          c.self.invariant.told c.self.invariant.sound.count c.requires.list c.put.ensures below;
    }
