-- Which writes and ends are counted, the statuses of others, and a page that is counted.
use Rattle.std.specs.Prelude.{ℕ, ◌-◌, ◌^◌, ◌<◌, ◌≤◌, if◌then◌else◌, ◌==◌, nat_lt}
use Rattle.wbt_task.specs.Allowance.{Page, page_after}
use Rattle.wbt_calls.specs.Crossing.{local_of, task_of}
use Rattle.wbt_calls.specs.declared.ranges.TheConstants.{MOST_DIRTIED}
use Rattle.wbt_calls.specs.declared.status.TheConstants.{OK, BAD_FLAG, BAD_WRITER}
use Rattle.wbt_calls.specs.declared.types.Counts.{Counts}
use Rattle.wbt_calls.specs.declared.types.Writer.{Writer}

-- of a fresh write
abbrev pub status_of_page : (counts : Counts) (writer : Writer) (exceeded : ℕ) → ℕ
status_of_page counts writer exceeded =
    if nat_lt MOST_DIRTIED writer.nr_dirtied then BAD_WRITER
    else if nat_lt MOST_DIRTIED counts.since_check then BAD_WRITER
    else if nat_lt 1 exceeded then BAD_FLAG
    else OK

-- one that is counted: counts that leave room, and a flag
pub record IsPageTaken (counts : Counts) (writer : Writer) (exceeded : ℕ) : Type 0 where
  pub dirtied : writer.nr_dirtied < 2 ^ 52
  pub since : counts.since_check < 2 ^ 52
  pub flag : exceeded ≤ 1

-- what becomes of it
abbrev pub page_of : (counts : Counts) (writer : Writer) (left exceeded ratelimit_pages : ℕ) → Page
page_of counts writer left exceeded ratelimit_pages = page_after (local_of counts) (task_of writer) left (exceeded == 1) ratelimit_pages

-- of a writer's end
abbrev pub status_of_end : (counts : Counts) (writer : Writer) → ℕ
status_of_end counts writer =
    if nat_lt MOST_DIRTIED counts.leaks then BAD_WRITER
    else if nat_lt (MOST_DIRTIED - counts.leaks) writer.nr_dirtied then BAD_WRITER
    else OK
