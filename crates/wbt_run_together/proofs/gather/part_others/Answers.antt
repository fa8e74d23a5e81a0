use Rattle.std.proofs.Common.{refl, ap, ◌∙◌, arith}
use Rattle.wbt_run_worker.proofs.Common.{Known}
use Rattle.wbt_run_together.proofs.Parting.{at_head, at_tail, one_less, one_pushed, parted_first, parted_more}
use Rattle.wbt_run_together.proofs.Voicing.{theirs_so, voice_so}
use Rattle.wbt_run_together.proofs.gather.part_others.Goals as goal

pub loop-worker-init : goal.loop-worker-init
loop-worker-init g c = record {
  sofar = parted_first c.args.kit.now c.args.seats c.args.rest.rest.items c.args.sides.now.items c.requires.seats;
  others = c.requires.others;
  many = c.requires.many;
  its = c.requires.voices.0;
  theirs = c.requires.voices.1;
  voice = refl;
  room = omega (arith, c.requires.room, c.requires.many);
}

pub join-requires : goal.join-requires
join-requires g c = record {
  seats = (
    c.loop-worker.invariant.sofar.together.seats_are,
    at_head c.args.kit.now c.loop-worker.rest.rest.items c.next.new.self.rest.items c.in-Some.worker c.in-Some.ensures.items c.loop-worker.invariant.others,
  );
}

pub loop-worker-preserved : goal.loop-worker-preserved
loop-worker-preserved g c =
    let i = c.loop-worker.invariant in
    let items = c.in-Some.ensures.items in
    let many = one_less c.loop-worker.rest.rest.items c.next.new.self.rest.items c.in-Some.worker items in
    let pushed = one_pushed c.loop-worker.sides.items c.push_reserved.new.self.items c.in-Some.worker.side c.push_reserved.ensures.items in
    record {
      sofar = parted_more c.args.kit.now c.args.seats c.args.rest.rest.items c.args.sides.now.items c.loop-worker.rest.rest.items c.next.new.self.rest.items c.in-Some.worker
          c.loop-worker.all c.join.new.into c.loop-worker.sides.items c.push_reserved.new.self.items i.sofar items
          (at_head c.args.kit.now c.loop-worker.rest.rest.items c.next.new.self.rest.items c.in-Some.worker items i.others) c.join.ensures.seats c.join.ensures.joined
          c.push_reserved.ensures.items;
      others = at_tail c.args.kit.now c.loop-worker.rest.rest.items c.next.new.self.rest.items c.in-Some.worker items i.others;
      many = omega (arith, i.many, many, c.in-Some.ensures.len);
      its = ap (λ (v : Known). v.signals) c.take_in.ensures ∙ i.its;
      theirs = (theirs_so c.args.condition.now.signals c.loop-worker.rest.rest.items c.next.new.self.rest.items c.in-Some.worker items i.theirs).1;
      voice = voice_so c.args.condition.now.signals c.loop-worker.rest.rest.items c.next.new.self.rest.items c.in-Some.worker items c.loop-worker.voice c.take_in.new.voice c.take_in.ensures ∙ i.voice;
      room = omega (arith, i.room, many, pushed, c.push_reserved.ensures.capacity);
    }

pub take_in-requires : goal.take_in-requires
take_in-requires g c = record {
  voices = (
    c.loop-worker.invariant.its,
    (theirs_so c.args.condition.now.signals c.loop-worker.rest.rest.items c.next.new.self.rest.items c.in-Some.worker c.in-Some.ensures.items c.loop-worker.invariant.theirs).0,
  );
}
