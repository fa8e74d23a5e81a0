use Rattle.std.proofs.Common.{ℕ, length, replicate, sym, ap, ◌∙◌}
use Rattle.std.proofs.lemmas.List.{length-map, length-replicate}
use Rattle.wbt_kit.proofs.Common.{Layout, Cpus, opening, no_record}
use Rattle.wbt_published.specs.Passes.{Seats as EstPass}
use Rattle.wbt_queue.specs.Known.{opening as empty}
use Rattle.wbt_queue.specs.Passes.{Seats as QueuePass}
use Rattle.std.specs.Prelude.{Some}
use Rattle.wbt_kit.proofs.kit.Kit.make.Goals as goal

pub returns-clause-seats : goal.returns-clause-seats
returns-clause-seats c =
    let seat = c.in_ok-throttle.ensures.seat in
    let pass = c.in_ok-published.ensures.pass in
    let numbers = c.in_ok-queues.ensures.pass in
    record {
      cpu = seat.0;
      each_cpu = ap (λ (l : Cpus). length l) seat.1.cpus ∙ length-replicate _ (Some no_record) ∙ ap (λ (l : Layout). l.cpus) seat.0.layout;
      share = c.in_ok-shares.ensures.seat;
      est = ap (λ (p : EstPass). p.names) pass;
      each_context = ap (λ (p : EstPass). length p.known) pass ∙ length-replicate _ opening ∙ sym c.in_ok-published.ensures.cells.2;
      queue = ap (λ (p : QueuePass). p.names) numbers;
      each_device = ap (λ (p : QueuePass). length p.known) numbers ∙ length-map _ (λ (size : ℕ). empty);
    }

pub returns-clause-first : goal.returns-clause-first
returns-clause-first c =
    let made = c.in_ok-shares.ensures in
    let pass = c.in_ok-published.ensures.pass in
    record {
      cpu = c.in_ok-throttle.ensures.seat.1;
      shares = made.first.0;
      totals = (made.first.1, made.first.2);
      rooms = made.rooms;
      est = ap (λ (p : EstPass). p.known) pass ∙ ap (λ (n : ℕ). replicate n opening) (sym c.in_ok-published.ensures.cells.2);
      queue = ap (λ (p : QueuePass). p.known) c.in_ok-queues.ensures.pass;
      shares_room = made.shares_room;
      splits = made.splits;
    }
