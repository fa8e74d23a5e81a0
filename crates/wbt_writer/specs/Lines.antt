-- What a check reads of its domains.
use Rattle.std.specs.Prelude.{◌≡◌, ℕ, Option, Some, None, slice_set, slice_index_or}
use Rattle.wbt_flex.specs.declared.share.Fraction.{Fraction}
use Rattle.wbt_fraction.specs.Seat.{Seated as ShareSeat}
use Rattle.wbt_fraction.specs.Several.{no_seat, KeepsStakes, KeepsRooms, Seats as ShareSeats}
use Rattle.wbt_journal.specs.declared.entry.DomainLine.{DomainLine}
use Rattle.wbt_run_steps.specs.Reads.{IsReadOrHeld}
use Rattle.wbt_writer.specs.declared.lines.Lines.{Lines}
use Rattle.wbt_run_steps.specs.declared.loads.DomainLoad.{DomainLoad}
use Rattle.wbt_writer.specs.declared.loads.Loads.{Loads}
use Rattle.wbt_writer.specs.declared.work.Fractions.{Fractions}

-- ---- the lines, by what was loaded

-- a line tells the limits and the count that were loaded of its domain
pub record HasLine (load : DomainLoad) (line : DomainLine) : Type 0 where
  pub domain : line.domain ≡ load.domain
  pub version : line.triple ≡ load.version
  pub limits : line.limits ≡ load.limits
  pub count : line.count ≡ load.count

-- there is a line of the cgroup exactly where it was loaded, and it tells the load
abbrev pub HasGroupLine : (load : Option DomainLoad) (line : Option DomainLine) → Type 0
HasGroupLine None None = Unit {0}
HasGroupLine (Some load) (Some line) = HasLine load line
HasGroupLine load line = ⊥

-- the lines of a check tell what it loaded
pub record HasLines (loads : Loads) (lines : Lines) : Type 0 where
  pub domain : lines.global.domain ≡ 0
  pub version : lines.global.triple ≡ loads.global.version
  pub limits : lines.global.limits ≡ loads.global.limits
  pub count : lines.global.count ≡ loads.global.count
  pub group : HasGroupLine loads.group lines.cgroup

-- ---- fractions

-- a fraction of one context was read in a domain, or held
pub record ReadsShare (domain context : ℕ) (fraction kept : Fraction) (old new : ShareSeats) : Type 0 where
  pub mid : ShareSeat
  pub comes : IsReadOrHeld context fraction kept (slice_index_or old.domains domain no_seat) mid
  pub domains_are : new.domains ≡ slice_set old.domains domain mid
  pub stakes : KeepsStakes old.domains new.domains
  pub rooms : KeepsRooms old.domains new.domains
  pub totals : new.totals ≡ old.totals

-- the fraction in the cgroup's domain was read, where the context has one
abbrev pub ReadsGroup : (context : ℕ) (line : Option DomainLine) (kept : Fraction) (old new : ShareSeats) → Type 0
ReadsGroup context None kept old new = new ≡ old
ReadsGroup context (Some line) kept old new = ReadsShare line.domain context line.share kept old new

-- first that of the global domain, then that of the cgroup
pub record LinesRead (context : ℕ) (lines : Lines) (kept : Fractions) (old new : ShareSeats) : Type 0 where
  pub between : ShareSeats
  pub global : ReadsShare 0 context lines.global.share kept.global old between
  pub group : ReadsGroup context lines.cgroup kept.group between new

-- what is kept then
abbrev pub share_after : (line : Option DomainLine) (kept : Fraction) → Fraction
share_after None kept = kept
share_after (Some line) kept = line.share

-- the fractions that are kept after a check
abbrev pub fractions_after : (lines : Lines) (kept : Fractions) → Fractions
fractions_after lines kept = record { global = lines.global.share; group = share_after lines.cgroup kept.group }
