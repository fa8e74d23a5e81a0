use Rattle.std.proofs.Common.{◌≡◌, ◌<◌, ℕ, Bool, true, false, ◌||◌, List, length, get_or, refl, sym, ap, ◌∙◌, arith}
use Rattle.wbt_flusher.proofs.Common.{same_default, only_same}
use Rattle.wbt_flusher.specs.Turns.{is_next}
use Rattle.wbt_flusher.proofs.Keeping.{fits_queue, waits_alone}
use Rattle.wbt_flusher.proofs.plan.FlusherPlan.put_next.Goals as goal

waits : (all : List Bool) (inode : ℕ) (found : Bool) → found ≡ get_or all inode found → found ≡ true → inode < length all → get_or all inode false ≡ true
waits all inode found at is there = sym (at ∙ same_default all inode found false there) ∙ is

pub put_or_wait-requires : goal.put_or_wait-requires
put_or_wait-requires g c = record {
  seats = c.requires.fits.seats_are;
  device = c.requires.suits.device;
  inode = let long = c.requires.long in let there = c.requires.inode in omega arith;
}

pub returns-then-put_or_wait-clause-fits : goal.returns-then-put_or_wait-clause-fits
returns-then-put_or_wait-clause-fits g c =
    let e = c.put_or_wait.ensures in
    fits_queue c.args.self.now c.args.hands.now.kit.now c.args.seats.now c.put_or_wait.new.seats c.requires.fits e.seats e.only

pub returns-then-put_or_wait-clause-only_waiting : goal.returns-then-put_or_wait-clause-only_waiting
returns-then-put_or_wait-clause-only_waiting g c =
    waits_alone c.args.self.now c.args.work.now _ c.args.inode c.put_or_wait.result refl refl refl refl refl refl refl c.put_or_wait.ensures.waiting

pub returns-then-put_or_wait-clause-next : goal.returns-then-put_or_wait-clause-next
returns-then-put_or_wait-clause-next g c =
    let e = c.put_or_wait.ensures in
    is_next c.put_or_wait.result (waits c.args.work.now.waiting.items c.args.inode c.index.result.now c.index.ensures c.if-not-index.false (let long = c.requires.long in let there = c.requires.inode in omega arith)) e.puts e.waiting (sym (ap (λ (b : Bool). b || c.args.some_before) c.if-put_or_wait.true))

pub returns-clause-fits : goal.returns-clause-fits
returns-clause-fits g c =
    let e = c.put_or_wait.ensures in
    fits_queue c.args.self.now c.args.hands.now.kit.now c.args.seats.now c.put_or_wait.new.seats c.requires.fits e.seats e.only

pub returns-clause-only_waiting : goal.returns-clause-only_waiting
returns-clause-only_waiting g c =
    waits_alone c.args.self.now c.args.work.now _ c.args.inode c.put_or_wait.result refl refl refl refl refl refl refl c.put_or_wait.ensures.waiting

pub returns-clause-next : goal.returns-clause-next
returns-clause-next g c =
    let e = c.put_or_wait.ensures in
    is_next c.put_or_wait.result (waits c.args.work.now.waiting.items c.args.inode c.index.result.now c.index.ensures c.if-not-index.false (let long = c.requires.long in let there = c.requires.inode in omega arith)) e.puts e.waiting (sym (ap (λ (b : Bool). b || c.args.some_before) c.if-put_or_wait.false))

pub returns-then-not-index-clause-device : goal.returns-then-not-index-clause-device
returns-then-not-index-clause-device g c = only_same c.args.self.now.device c.args.seats.now.queue c.args.seats.now.queue refl
