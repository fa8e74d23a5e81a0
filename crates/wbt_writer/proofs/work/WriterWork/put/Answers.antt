use Rattle.std.proofs.Common.{◌≡◌, ℕ, ◌<◌, ◌⊎◌, inl, inr, Bool, true, false, List, length, get_or, set, refl, sym, ap, ◌∙◌, subst}
use Rattle.std.proofs.lemmas.List.{get_or-set_same, length-set}
use Rattle.wbt_writer.proofs.Common.{Kit, Has, Seated}
use Rattle.wbt_kit.proofs.Common.{HasPut}
use Rattle.wbt_queue.specs.Passes as queue
use Rattle.wbt_run_steps.specs.Inodes.{PutsWhere, was_full, was_put}
use Rattle.wbt_run_steps.specs.Queues.{OnlyDevice}
use Rattle.wbt_writer.proofs.work.WriterWork.put.Goals as goal

-- it was put, or it waits
is_put : (kit : Kit) (device inode : ℕ) (full : Bool) (old new : queue.Seats) (was is : List Bool) → inode < length was → is ≡ set was inode full → PutsWhere kit device inode full old new
    → HasPut (queue.known_of device old) inode (queue.known_of device new) ⊎ (get_or is inode false ≡ true)
is_put kit device inode full old new was is there waiting (was_put at has) = inl has
is_put kit device inode full old new was is there waiting (was_full at same held) = inr (ap (λ (l : List Bool). get_or l inode false) waiting ∙ get_or-set_same was inode full false there ∙ at)

pub returns-clause-at_kit : goal.returns-clause-at_kit
returns-clause-at_kit g c =
    let e = c.put_or_wait.ensures in
    let at = c.requires.at_kit in
    let w = at.is_work in
    record {
      is_work = record {
        lawful = w.lawful;
        tasks = w.tasks;
        next = w.next;
        fractions = w.fractions;
        proper = w.proper;
        waiting = ap (λ (l : List Bool). length l) e.waiting ∙ length-set c.args.self.now.waiting.items c.args.inode c.put_or_wait.result ∙ w.waiting;
        over = w.over;
      };
      suits = at.suits;
      its = at.its;
      fits = record {
        seats_are = e.seats;
        held = (at.fits.held.0, subst (λ (s : Seated). Has s.cpus c.args.place.now.cpu at.fits.held.0) (sym e.only.cpu) at.fits.held.1);
      };
    }

pub returns-clause-put : goal.returns-clause-put
returns-clause-put g c =
    let e = c.put_or_wait.ensures in
    let old = c.args.seats.now.queue in
    let new = c.put_or_wait.new.seats.queue in
    let waiting = c.put_or_wait.new.waiting.items in
    let there : c.args.inode < length c.args.self.now.waiting.items = subst (λ (n : ℕ). c.args.inode < n) (sym c.requires.at_kit.is_work.waiting) c.requires.inode in
    subst (λ (d : ℕ). HasPut (queue.known_of d old) c.args.inode (queue.known_of d new) ⊎ (get_or waiting c.args.inode false ≡ true)) c.device_of-device.ensures
    (is_put c.args.hands.now.kit.now c.device_of-device.result c.args.inode c.put_or_wait.result old new c.args.self.now.waiting.items waiting there e.waiting e.puts)

pub returns-clause-only : goal.returns-clause-only
returns-clause-only g c =
    let e = c.put_or_wait.ensures in
    record { tasks = refl; fractions = refl; cpu = e.only.cpu; share = e.only.share; est = e.only.est; queues = e.device.stakes }

pub returns-clause-puts : goal.returns-clause-puts
returns-clause-puts g c =
    let e = c.put_or_wait.ensures in
    let old = c.args.seats.now.queue in
    let new = c.put_or_wait.new.seats.queue in
    record {
      full = c.put_or_wait.result;
      puts = subst (λ (d : ℕ). PutsWhere c.args.hands.now.kit.now d c.args.inode c.put_or_wait.result old new) c.device_of-device.ensures e.puts;
      only = subst (λ (d : ℕ). OnlyDevice d old new) c.device_of-device.ensures e.device;
      waiting = e.waiting;
    }
