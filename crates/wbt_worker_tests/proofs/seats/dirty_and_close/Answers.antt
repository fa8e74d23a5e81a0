use Rattle.std.proofs.Common.{sym, ◌∙◌, subst}
use Rattle.wbt_grant.specs.Kinds.{dirty}
use Rattle.wbt_grant.specs.Seats.{record_after}
use Rattle.wbt_table.specs.Calls.{CanDirty, Dirties}
use Rattle.wbt_table.specs.Layout.{setting}
use Rattle.wbt_table.specs.Rule.{Holds}
use Rattle.wbt_table.specs.declared.layout.Layout.{Layout}
use Rattle.wbt_run_seats.proofs.Closing.{one_writer, may_dirty, changed_holds_all}
use Rattle.wbt_worker_tests.proofs.seats.dirty_and_close.Goals as goal

pub dirty-requires-clause-may : goal.dirty-requires-clause-may
dirty-requires-clause-may c =
    let seat = c.requires.seat in
    subst (λ (l : Layout). Holds c.args.seat.cpus ((setting l).seat 0) (CanDirty (setting l) 0 1)) (sym c.requires.layout) (may_dirty c.args.seat seat.1 (seat.0.layout ∙ c.requires.layout))

pub close-requires-clause-all : goal.close-requires-clause-all
close-requires-clause-all c =
    let seat = c.requires.seat in
    let done = subst (λ (l : Layout). Dirties (setting l) 0 1 c.in-Ok.field-0 c.args.seat c.dirty.new.seat) c.requires.layout c.in-Ok.ensures.dirtied in
    changed_holds_all (record_after (setting one_writer) (dirty 0 1) done.found) c.args.seat c.dirty.new.seat seat.1 (seat.0.layout ∙ c.requires.layout) done.makes.changes
