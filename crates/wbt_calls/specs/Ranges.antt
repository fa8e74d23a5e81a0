-- Which checks are taken: by which status one is refused, that of the first test that fails, and what holds of one that is answered.
use Rattle.std.specs.Prelude.{ℕ, ◌^◌, ◌<◌, ◌≤◌, Bool, ◌&&◌, ◌||◌, if◌then◌else◌, ◌==◌, nat_lt}
use Rattle.wbt_num.specs.declared.limits.TheConstants.{MAX_LIMIT}
use Rattle.wbt_num.specs.declared.most.TheConstants.{MOST_CPUS}
use Rattle.wbt_pause.specs.Reads.{IsCounted, IsReadable, IsUsable}
use Rattle.wbt_strict.specs.Claims.{ArePartsWithin}
use Rattle.wbt_calls.specs.Crossing.{rates_of, reads_of, task_of}
use Rattle.wbt_calls.specs.declared.ranges.TheConstants.{MOST_LEFT, MOST_DIRTIED, MOST_DIRTY, MOST_MOMENT, MOST_RATE}
use Rattle.wbt_calls.specs.declared.status.TheConstants.{OK, BAD_CPUS, BAD_CAP, BAD_NOW, BAD_WRITER, BAD_ESTIMATE, BAD_CONTEXT, BAD_DOMAIN, BAD_FLAG, BAD_CGROUP, BAD_PART}
use Rattle.wbt_calls.specs.declared.types.Check.{Check}
use Rattle.wbt_calls.specs.declared.types.Domain.{Domain}
use Rattle.wbt_calls.specs.declared.types.Writer.{Writer}

-- whether a number isn't 1 to so many
abbrev pub is_out : (n most : ℕ) → Bool
is_out n most = n == 0 || nat_lt most n

-- whether the limits of a domain aren't lawful
abbrev pub is_unlawful : (domain : Domain) → Bool
is_unlawful domain = nat_lt domain.thresh domain.bg || nat_lt domain.hard domain.thresh || nat_lt MAX_LIMIT domain.hard

-- whether a writer's counts leave no room
abbrev pub is_overfull : (writer : Writer) → Bool
is_overfull writer = nat_lt MOST_DIRTIED writer.nr_dirtied || nat_lt MOST_DIRTIED writer.nr_dirtied_pause

-- of the writer, the rates and the moment of a check
abbrev pub status_of_rest : (check : Check) → ℕ
status_of_rest check =
    if is_overfull check.writer then BAD_WRITER
    else if is_out check.avg MOST_RATE || check.ratelimit == 0 then BAD_ESTIMATE
    else if nat_lt MOST_MOMENT check.moment then BAD_NOW
    else OK

-- of its machine and its domains
abbrev pub status_of_reads : (check : Check) → ℕ
status_of_reads check =
    if is_out check.cpus MOST_CPUS then BAD_CPUS
    else if is_out check.cap MOST_LEFT then BAD_CAP
    else if nat_lt MOST_DIRTY check.wb_dirty then BAD_CONTEXT
    else if is_unlawful check.global then BAD_DOMAIN
    else if nat_lt 1 check.has_cgroup then BAD_FLAG
    else if check.has_cgroup == 1 && is_unlawful check.cgroup then BAD_CGROUP
    else OK

-- of a check: of the machine and its domains, and else of the rest
abbrev pub status_of : (check : Check) → ℕ
status_of check = if status_of_reads check == OK then status_of_rest check else status_of_reads check

-- whether the context's threshold is above its domain's, in some domain
abbrev pub is_part_above : (check : Check) → Bool
is_part_above check =
    nat_lt check.global.thresh check.global.wb_thresh || nat_lt 0 check.has_cgroup && nat_lt check.cgroup.thresh check.cgroup.wb_thresh

-- of a check in a context of a strict device
abbrev pub strict_status_of : (check : Check) → ℕ
strict_status_of check = if is_part_above check then BAD_PART else status_of check

-- a check whose machine and domains are taken: such reads as a decision requires, a cap in range, and a flag
pub record AreReadsTaken (check : Check) : Type 0 where
  pub readable : IsReadable (reads_of check)
  pub cap : check.cap ≤ MOST_LEFT
  pub flag : check.has_cgroup ≤ 1

-- one whose writer, rates and moment are such as a decision requires
pub record IsRestTaken (check : Check) : Type 0 where
  pub usable : IsUsable (rates_of check.avg check.ratelimit)
  pub counted : IsCounted (task_of check.writer)
  pub moment : check.moment < 2 ^ 62

-- one that is answered, and one that is answered in a context of a strict device
pub record IsTaken (check : Check) : Type 0 where
  pub reads : AreReadsTaken check
  pub rest : IsRestTaken check

-- one that is answered in a context of a strict device, whose thresholds are no greater than those of its domains
pub record IsStrictlyTaken (check : Check) : Type 0 where
  pub taken : IsTaken check
  pub parts : ArePartsWithin (reads_of check)
