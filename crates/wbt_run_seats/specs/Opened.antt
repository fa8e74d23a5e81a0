-- What a trace gives its kit at the opening: the throttle's setting, the owners, and what the parts of the first seats have.
use Rattle.std.specs.Prelude.{◌≡◌, ◌≢◌, ℕ, ◌+◌, ◌<◌, ◌≤◌, true, false, Some, [], ◌∷◌, length}
use Rattle.wbt_fraction.specs.Several.{CanSplit}
use Rattle.wbt_flex.specs.declared.share.Fraction.{Fraction}
use Rattle.wbt_grant.specs.State.{no_record}
use Rattle.wbt_grant.specs.declared.record.CpuRecord.{CpuRecord}
use Rattle.wbt_grant.specs.declared.record.TimerRecord.{TimerRecord}
use Rattle.wbt_published.specs.Known.{first_one}
use Rattle.wbt_published.specs.Passes.{known_of}
use Rattle.wbt_num.specs.declared.most.TheConstants.{MOST_PAGE_STEPS}
use Rattle.wbt_table.specs.Layout as table
use Rattle.wbt_table.specs.Layout.{setting}
use Rattle.wbt_trace.specs.Lawful.{IsLawful}
use Rattle.wbt_trace.specs.Sofar.{inode_at}
use Rattle.wbt_trace.specs.declared.trace.Trace.{Trace}
use Rattle.wbt_journal.specs.Machine.{domains, contexts, pages, task_cpu}
use Rattle.wbt_journal.specs.Side.{all_writers}
use Rattle.wbt_run_laws.specs.Closed.{OpensWith, NotedNothing, opening_lines}
use Rattle.wbt_run_laws.specs.Notes.{Notes, no_fraction}
use Rattle.wbt_run_laws.specs.Throttle.{IsThrottleOf, writer_at}
use Rattle.wbt_run_laws.specs.Worked.{Run, OpensTimer}
use Rattle.wbt_kit.specs.Kit.{IsKitOf, AreSeatsOf, AreFirst, HasCpu, HasTimer}
use Rattle.wbt_kit.specs.Opening.{cpu_of}
use Rattle.wbt_rules.specs.Thresholds.{first_limits}
use Rattle.wbt_kit.specs.declared.kit.Kit.{Kit}
use Rattle.wbt_kit.specs.declared.kit.Seats.{Seats}
use Rattle.wbt_timer.specs.Side.{Side, IsFirstSide, ticked}
use Rattle.wbt_flusher.specs.Did.{HasRooms, Fits}
use Rattle.wbt_flusher.specs.Plans.{IsPlanOf, IsWork, Suits}
use Rattle.wbt_flusher.specs.Sights.{owing, owing_total}
use Rattle.wbt_flusher.specs.declared.plan.FlusherPlan.{FlusherPlan}
use Rattle.wbt_flusher.specs.declared.work.FlusherWork.{FlusherWork}
use Rattle.wbt_run_seats.specs.Parts.{noted, owner_of, IsPart, IsLeft}

-- ---- the kit of a trace

-- a writer of the throttle steps on its task's CPU
pub record IsSeated (trace : Trace) (kit : Kit) (w : ℕ) : Type 0 where
  pub cpu : task_cpu trace (writer_at trace w).task ≡ Some ((setting kit.throttle.layout).seat w)
  pub same_cpu : (setting kit.throttle.layout).seat w ≡ cpu_of trace (writer_at trace w).task
  pub on_cpu : (setting kit.throttle.layout).seat w < trace.cpus
  pub in_context : (setting kit.throttle.layout).works_in w ≡ (writer_at trace w).context
  pub there : (writer_at trace w).context < contexts trace

-- a page of an inode lies in its inode and context
pub record IsPageOf (trace : Trace) (kit : Kit) (inode page : ℕ) : Type 0 where
  pub there : page < pages trace
  pub inode_is : (setting kit.throttle.layout).inode page ≡ inode
  pub home : (setting kit.throttle.layout).home page ≡ (inode_at inode trace.inodes).context

-- the kit has what the trace names, and begins as its timer's first lines tell
pub record IsOpened (trace : Trace) (now : ℕ) (kit : Kit) : Type 0 where
  pub throttle : IsThrottleOf trace (setting kit.throttle.layout)
  pub opens : OpensWith trace now (setting kit.throttle.layout).firsts
  pub lines : opening_lines trace now (first_limits trace now) ≡ opening_lines trace now (setting kit.throttle.layout).firsts
  pub cpus : kit.throttle.layout.cpus ≡ trace.cpus
  pub page_steps : kit.throttle.layout.page_steps ≤ MOST_PAGE_STEPS
  pub limits_are : table.domains kit.throttle.layout ≡ domains trace
  pub domains_are : length kit.shares.domains ≡ domains trace
  pub contexts_are : length kit.published.names ≡ contexts trace
  pub homes_are : length kit.shares.homes ≡ contexts trace
  pub inodes_are : length kit.throttle.layout.inodes ≡ length trace.inodes
  pub devices_are : length kit.queues.sizes ≡ length trace.devices
  pub owners : (context : ℕ) → context < contexts trace → owner_of kit context < trace.cpus
  pub writers : (w : ℕ) → w < length (all_writers trace) → IsSeated trace kit w
  pub inodes : (inode page : ℕ) → inode < length trace.inodes → (inode_at inode trace.inodes).first ≤ page
      → page < (inode_at inode trace.inodes).first + (inode_at inode trace.inodes).pages → IsPageOf trace kit inode page

-- the kit of a lawful trace is opened as the trace says
abbrev pub KitIsOpened : Type 0
KitIsOpened = (trace : Trace) (now : ℕ) (kit : Kit) → IsLawful trace → IsKitOf trace now kit → IsOpened trace now kit

-- each flusher's plan suits the kit
abbrev pub PlanSuits : Type 0
PlanSuits = (trace : Trace) (now : ℕ) (kit : Kit) (first : Seats) (plan : FlusherPlan) → IsLawful trace → IsKitOf trace now kit → AreSeatsOf kit first → AreFirst kit first
    → IsPlanOf trace plan → plan.pages ≡ pages trace → Suits plan kit × IsWork trace plan kit

-- the first seats can be split for each CPU
abbrev pub FirstCanSplit : Type 0
FirstCanSplit = (trace : Trace) (kit : Kit) (first : Seats) → IsLawful trace → AreFirst kit first → CanSplit trace.cpus kit.shares first.share

-- ---- a CPU's part of the first seats

-- what a CPU notes of shares and estimates, by its seats, and the fractions that its writers keep
abbrev pub notes_by : (kept : (domain context : ℕ) → Fraction) (seats : Seats) → Notes
notes_by kept seats = record { shares = λ domain. noted seats.share domain; kept = kept; estimates = λ context. known_of context seats.est }

-- before its first turn
abbrev pub first_notes : (seats : Seats) → Notes
first_notes seats = notes_by (λ domain context. no_fraction) seats

-- a part is at the kit's throttle, with the record of a CPU that did nothing; it noted nothing, and knows the first estimate of each context for which it publishes
pub record IsFirstPart (kit : Kit) (cpu : ℕ) (part : Seats) : Type 0 where
  pub layout : part.cpu.layout ≡ kit.throttle.layout
  pub held : HasCpu cpu no_record part
  pub nothing : NotedNothing (first_notes part)
  pub publishes : (context : ℕ) → context < length kit.published.names → owner_of kit context ≡ cpu
      → ((known_of context part.est).publishes ≡ true) × ((known_of context part.est).all ≡ first_one ∷ [])
  pub no_other : (context : ℕ) → context < length kit.published.names → owner_of kit context ≢ cpu → (known_of context part.est).publishes ≡ false

-- a CPU's part of the first seats did nothing and noted nothing
abbrev pub PartIsFirst : Type 0
PartIsFirst = (trace : Trace) (now : ℕ) (kit : Kit) (first part : Seats) (cpu : ℕ) → IsLawful trace → IsKitOf trace now kit → AreSeatsOf kit first
    → AreFirst kit first → cpu < trace.cpus → IsPart kit cpu first part → IsFirstPart kit cpu part

-- a flusher fits the part of its CPU, and has rooms there where it owes nothing yet
abbrev pub FlusherFits : Type 0
FlusherFits = (trace : Trace) (now : ℕ) (kit : Kit) (first part : Seats) (plan : FlusherPlan) → IsLawful trace → IsKitOf trace now kit → AreFirst kit first
    → IsPlanOf trace plan → IsPart kit plan.cpu first part → Fits plan kit part

-- it owes nothing to any domain or written total
pub record OwesNothing (plan : FlusherPlan) (work : FlusherWork) : Type 0 where
  pub shares : (domain : ℕ) → domain < plan.domains → owing plan domain work ≡ 0
  pub totals : (context : ℕ) → context < length plan.contexts → owing_total plan context work ≡ 0

-- a flusher that owes nothing has its rooms in the part of its CPU
abbrev pub FlusherHasRooms : Type 0
FlusherHasRooms = (trace : Trace) (now : ℕ) (kit : Kit) (first part : Seats) (plan : FlusherPlan) (work : FlusherWork) → IsLawful trace → IsKitOf trace now kit
    → AreSeatsOf kit first → AreFirst kit first → IsPlanOf trace plan → IsPart kit plan.cpu first part
    → OwesNothing plan work → HasRooms plan work part

-- ---- the timer's, which are left

-- what is left holds the timer, which did nothing and noted nothing, and publishes no estimates
pub record IsFirstLeft (trace : Trace) (kit : Kit) (left : Seats) : Type 0 where
  pub timer : (r : TimerRecord) × HasTimer r left × (r.published ≡ [])
  pub no_cpu : (c : ℕ) (r : CpuRecord) → HasCpu c r left → ⊥
  pub nothing : (domain : ℕ) → noted left.share domain ≡ []
  pub publishes_none : (context : ℕ) → context < length kit.published.names → (known_of context left.est).publishes ≡ false

-- what is left of the first seats holds the timer, which did nothing
abbrev pub LeftIsFirst : Type 0
LeftIsFirst = (trace : Trace) (now : ℕ) (kit : Kit) (first left : Seats) → IsLawful trace → IsKitOf trace now kit → AreFirst kit first
    → IsLeft kit trace.cpus first left → IsFirstLeft trace kit left

-- a run whose timer begins with what is left opens its timer
abbrev pub TimerOpens : Type 0
TimerOpens = (trace : Trace) (now : ℕ) (kit : Kit) (left : Seats) (side : Side) (held : TimerRecord) (run : Run) → IsLawful trace → IsKitOf trace now kit
    → IsFirstLeft trace kit left → HasTimer held left → IsFirstSide trace now side → run.opened ≡ now → run.set ≡ setting kit.throttle.layout
    → run.timer_first ≡ ticked held side left.share → OpensTimer trace run
