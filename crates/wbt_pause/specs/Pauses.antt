-- How long a writer pauses at most and at least. Pauses are in ticks of a millisecond, rates in pages a second.
use Rattle.std.specs.Prelude.{ℕ, ◌+◌, ◌-◌, ◌*◌, ◌/◌, ◌^◌, min, nat_lt, nat_le, if◌then◌else◌}
use Rattle.wbt_num.specs.Arithmetic.{log2}
use Rattle.wbt_pause.specs.declared.pauses.Aim.{Aim}
use Rattle.wbt_pause.specs.declared.pauses.MinPause.{MinPause}
use Rattle.wbt_pause.specs.declared.pauses.TheConstants.{FEW_PAGES, LONGEST_PAUSE}

-- about an eighth of the time in which the device writes what the context has; at most `LONGEST_PAUSE`
unfoldable pub longest_pause : (wb_dirty avg : ℕ) → ℕ
longest_pause wb_dirty avg = min (wb_dirty / (1 + avg / 128) + 1) LONGEST_PAUSE

-- pages in so many ticks
abbrev pub pages_in : (rate ticks : ℕ) → ℕ
pages_in rate ticks = rate * ticks / 1024

-- 10 ticks, and about 10 more for each halving from the bandwidth to the rate limit; at most about half the longest pause
abbrev pub aimed_ticks : (longest avg ratelimit : ℕ) → ℕ
aimed_ticks longest avg ratelimit = min (10 + (log2 avg - log2 ratelimit) * 10000 / 1024) (1 + longest / 2)

-- an aim is what a writer is to dirty between two pauses, and the ticks that this takes
abbrev pub first_aim : (longest avg ratelimit : ℕ) → Aim
first_aim longest avg ratelimit =
    let ticks : ℕ = aimed_ticks longest avg ratelimit in
    record { pages = pages_in ratelimit ticks; ticks = ticks }

-- `FEW_PAGES`, or what the longest pause gives where that is fewer
abbrev pub few_pages : (longest ratelimit : ℕ) → Aim
few_pages longest ratelimit =
    if nat_lt FEW_PAGES (pages_in ratelimit longest) then record { pages = FEW_PAGES; ticks = 1000 * FEW_PAGES / ratelimit }
    else record { pages = pages_in ratelimit longest; ticks = longest }

-- that, where the aim is fewer than `FEW_PAGES`
abbrev pub enough_pages : (longest ratelimit : ℕ) (aim : Aim) → Aim
enough_pages longest ratelimit aim = if nat_lt aim.pages FEW_PAGES then few_pages longest ratelimit else aim

-- where the writer would take longer than the longest pause, what it dirties in that
abbrev pub in_time : (longest task : ℕ) (aim : Aim) → Aim
in_time longest task aim =
    if nat_lt longest (1000 * aim.pages / (task + 1))
    then record { pages = pages_in task longest; ticks = longest }
    else aim

-- a writer pauses at least for half of what it aims at, or for all where that is fewer than `FEW_PAGES`
unfoldable pub least_pause : (longest avg ratelimit task : ℕ) → MinPause
least_pause longest avg ratelimit task =
    let aim : Aim = in_time longest task (enough_pages longest ratelimit (first_aim longest avg ratelimit)) in
    record { pages = aim.pages; pause = if nat_le FEW_PAGES aim.pages then 1 + aim.ticks / 2 else aim.ticks }

-- pages that a free writer dirties before its next check: the square root of what is free, as a power of two
abbrev pub poll_pages : (thresh dirty : ℕ) → ℕ
poll_pages thresh dirty = if nat_lt dirty thresh then 2 ^ (log2 (thresh - dirty) / 2) else 1
