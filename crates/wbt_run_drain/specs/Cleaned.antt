-- What the sweep finds of an inode that was clean.
use Rattle.std.specs.Prelude.{◌≡◌, ℕ, ◌<◌}
use Rattle.wbt_book.specs.Ledger.{times_in}
use Rattle.wbt_kit.specs.Kit.{HasCpu}
use Rattle.wbt_kit.specs.declared.kit.Kit.{Kit}
use Rattle.wbt_kit.specs.declared.kit.Seats.{Seats}
use Rattle.wbt_table.specs.Calls.{HasNoDirtyPage}
use Rattle.wbt_table.specs.Layout.{setting}
use Rattle.wbt_trace.specs.declared.trace.Trace.{Trace}
use Rattle.wbt_run_laws.specs.Shown.{Shown}
use Rattle.wbt_run_laws.specs.Throttle.{IsThrottleOf}
use Rattle.wbt_run_drain.specs.Whole.{IsCleaned}

-- Of an inode without a dirty page each page that no CPU holds was cleaned: each dirtying of it was completed or absorbed, by the records that
-- the seats have of all CPUs.
abbrev pub CleanIsCleaned : Type 0
CleanIsCleaned = (trace : Trace) (kit : Kit) (last : ℕ → Shown) (seats : Seats) (inode page : ℕ) → IsThrottleOf trace (setting kit.throttle.layout)
    → ((cpu : ℕ) → cpu < trace.cpus → HasCpu cpu (last cpu).held seats) → HasNoDirtyPage (setting kit.throttle.layout) inode seats.cpu
    → page < (setting kit.throttle.layout).pages → (setting kit.throttle.layout).inode page ≡ inode
    → ((cpu : ℕ) → cpu < trace.cpus → times_in page (last cpu).held.held ≡ 0) → IsCleaned trace last page
