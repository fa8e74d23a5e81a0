-- The limits that a turn finds are such as a line of the journal may have.
use Rattle.std.proofs.Common.{◌≡◌, ℕ, zero, suc, ◌<◌, ◌≤◌, Bool, true, false, leb, Option, Some, None, refl, sym, ◌∙◌, subst, arith}
use Rattle.std.proofs.lemmas.Bool.{leb-true, leb-false}
use Rattle.std.proofs.lemmas.Option.{slice_get-get_or}
use Rattle.wbt_kit.proofs.Common.{Limits, MAX_LIMIT, Count, Cgroup, Trace, domains, thresholds_at}
use Rattle.wbt_num.specs.declared.limits.Settings.{Settings}
use Rattle.wbt_num.specs.Limits.{IsLawful as AreLawful}
use Rattle.wbt_limits.specs.Cgroup.{available_to_cgroup}
use Rattle.wbt_limits.specs.Thresholds.{thresholds_of, followed_limit, hard_limit}
use Rattle.wbt_limits.specs.declared.domain.Pair.{Pair}
use Rattle.wbt_limits.proofs.Rising.{limits_are_lawful, cgroup_thresh_is_between, following_is_hard, following_stays_in_range, following_rises_at_once, following_falls_slowly}
use Rattle.wbt_rules.specs.Thresholds.{avail_at, limits_after, cgroup_of}
use Rattle.wbt_journal.specs.Timer.{IsCgroup, HasThresholds, HardBy, HardFollows}
use Rattle.wbt_timer.specs.Turn.{limits_by, pages_read}

-- ---- lawful

after_lawful : (avail before reading : ℕ) (settings : Settings) (o : Option ℕ) → before ≤ MAX_LIMIT → AreLawful (limits_after (thresholds_of avail settings o) before reading)
after_lawful avail before reading settings o h =
    let pair = thresholds_of avail settings o in
    let first = limits_are_lawful avail settings o 0 (omega arith) in
    let thresh : pair.thresh ≤ MAX_LIMIT = omega (arith, first.thresh_below_hard, first.hard_in_range) in
    limits_are_lawful avail settings o (followed_limit before pair.thresh reading) (following_stays_in_range before pair.thresh reading thresh h)

pub found_lawful : (trace : Trace) (now domain global before : ℕ) (count : Count) → before ≤ MAX_LIMIT → AreLawful (limits_by trace now domain global before count)
found_lawful trace now zero global before count h = after_lawful _ before (pages_read count) trace.settings None h
found_lawful trace now (suc cgroup) global before count h = after_lawful _ before (pages_read count) trace.settings (Some _) h

-- ---- thresholds of the moment

background : (avail : ℕ) (settings : Settings) (o : Option ℕ) → (thresholds_of avail settings o).bg ≤ (thresholds_of avail settings o).thresh
background avail settings o = (limits_are_lawful avail settings o 0 (omega arith)).bg_below_thresh

pub has_thresholds : (trace : Trace) (now domain global reading : ℕ) (limits : Limits) → domain < domains trace
    → limits.thresh ≡ (thresholds_at trace now domain global reading).thresh → limits.bg ≡ (thresholds_at trace now domain global reading).bg
    → HasThresholds trace now domain limits
has_thresholds trace now zero global reading limits less thresh bg = record { thresh = thresh; background = bg }
has_thresholds trace now (suc cgroup) global reading limits less thresh bg =
    let g : Cgroup = cgroup_of trace cgroup in
    let avail = available_to_cgroup g.filepages g.headroom reading (avail_at trace now) global in
    let lies = cgroup_thresh_is_between g.filepages g.headroom reading (avail_at trace now) global trace.settings (Some (avail_at trace now)) in
    let low = background avail trace.settings (Some (avail_at trace now)) in
    subst (λ (o : Option Cgroup). IsCgroup trace now o limits) (sym (slice_get-get_or trace.cgroups cgroup (record { filepages = 0; headroom = 0 }) (omega (arith, less))))
    (record { at_least = omega (arith, thresh, lies.0); at_most = omega (arith, thresh, lies.1); background = omega (arith, thresh, bg, low) })

-- ---- the hard limit

hard_from : (b : Bool) (before thresh reading : ℕ) → leb thresh before ≡ b
    → HardBy b before thresh (hard_limit thresh (followed_limit before thresh reading))
hard_from true before thresh reading is =
    let least : thresh ≤ before = leb-true thresh before is in
    let falls = following_falls_slowly before thresh reading least in
    let same = (following_is_hard before thresh reading).1 in
    (omega (arith, same, falls.0), omega (arith, same, falls.1))
hard_from false before thresh reading is =
    let less : before < thresh = leb-false thresh before is in
    (following_is_hard before thresh reading).1 ∙ following_rises_at_once before thresh reading less

pub hard_follows : (before : ℕ) (pair : Pair) (reading : ℕ) → HardFollows before (limits_after pair before reading)
hard_follows before pair reading = hard_from (leb pair.thresh before) before pair.thresh reading refl
