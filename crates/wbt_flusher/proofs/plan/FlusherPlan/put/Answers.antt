use Rattle.std.proofs.Common.{true≢false, refl, arith}
use Rattle.wbt_flusher.proofs.Keeping.{fits_queue, lists_put, queue_goes, waits_alone}
use Rattle.wbt_flusher.proofs.plan.FlusherPlan.put.Goals as goal

pub put_or_wait-requires : goal.put_or_wait-requires
put_or_wait-requires g c = record {
  seats = c.requires.fits.seats_are;
  device = c.requires.suits.device;
  inode = let long = c.requires.lists.waiting in let there = c.requires.inode in omega arith;
}

pub returns-then-put_or_wait-clause-fits : goal.returns-then-put_or_wait-clause-fits
returns-then-put_or_wait-clause-fits g c =
    let e = c.put_or_wait.ensures in
    fits_queue c.args.self.now c.args.hands.now.kit.now c.args.seats.now c.put_or_wait.new.seats c.requires.fits e.seats e.only

pub returns-then-put_or_wait-clause-lists : goal.returns-then-put_or_wait-clause-lists
returns-then-put_or_wait-clause-lists g c =
    lists_put c.args.self.now c.args.work.now _ c.args.inode c.put_or_wait.result c.requires.lists refl refl refl c.put_or_wait.ensures.waiting (λ none. absurd (true≢false none))

pub returns-then-put_or_wait-clause-goes : goal.returns-then-put_or_wait-clause-goes
returns-then-put_or_wait-clause-goes g c =
    let e = c.put_or_wait.ensures in
    queue_goes c.args.self.now c.args.hands.now.kit.now c.args.seats.now c.put_or_wait.new.seats c.args.work.now _
    (fits_queue c.args.self.now c.args.hands.now.kit.now c.args.seats.now c.put_or_wait.new.seats c.requires.fits e.seats e.only) e.only e.device
    (waits_alone c.args.self.now c.args.work.now _ c.args.inode c.put_or_wait.result refl refl refl refl refl refl refl e.waiting)

pub returns-then-put_or_wait-clause-only_waiting : goal.returns-then-put_or_wait-clause-only_waiting
returns-then-put_or_wait-clause-only_waiting g c =
    waits_alone c.args.self.now c.args.work.now _ c.args.inode c.put_or_wait.result refl refl refl refl refl refl refl c.put_or_wait.ensures.waiting

pub returns-else-put_or_wait-clause-fits : goal.returns-else-put_or_wait-clause-fits
returns-else-put_or_wait-clause-fits g c =
    let e = c.put_or_wait.ensures in
    fits_queue c.args.self.now c.args.hands.now.kit.now c.args.seats.now c.put_or_wait.new.seats c.requires.fits e.seats e.only

pub returns-else-put_or_wait-clause-lists : goal.returns-else-put_or_wait-clause-lists
returns-else-put_or_wait-clause-lists g c =
    lists_put c.args.self.now c.args.work.now _ c.args.inode c.put_or_wait.result c.requires.lists refl refl refl c.put_or_wait.ensures.waiting (λ none. (none, c.if-put_or_wait.false))

pub returns-else-put_or_wait-clause-goes : goal.returns-else-put_or_wait-clause-goes
returns-else-put_or_wait-clause-goes g c =
    let e = c.put_or_wait.ensures in
    queue_goes c.args.self.now c.args.hands.now.kit.now c.args.seats.now c.put_or_wait.new.seats c.args.work.now _
    (fits_queue c.args.self.now c.args.hands.now.kit.now c.args.seats.now c.put_or_wait.new.seats c.requires.fits e.seats e.only) e.only e.device
    (waits_alone c.args.self.now c.args.work.now _ c.args.inode c.put_or_wait.result refl refl refl refl refl refl refl e.waiting)

pub returns-else-put_or_wait-clause-only_waiting : goal.returns-else-put_or_wait-clause-only_waiting
returns-else-put_or_wait-clause-only_waiting g c =
    waits_alone c.args.self.now c.args.work.now _ c.args.inode c.put_or_wait.result refl refl refl refl refl refl refl c.put_or_wait.ensures.waiting
