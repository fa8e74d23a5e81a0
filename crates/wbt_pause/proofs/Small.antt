-- A decision keeps its writer's allowance small.
use Rattle.std.proofs.Common.{◌≡◌, ℕ, zero, suc, ◌+◌, ◌-◌, ◌*◌, ◌/◌, ◌^◌, ◌<◌, ◌≤◌, min, Bool, true, false, cond, eqb, leb, ltb, ℤ, pos, unsigned_abs, Option, Some, None, refl, sym, arith, eq-eqb, true≢false}
use Rattle.std.specs.Prelude.{int_lt, neg_ℤ}
use Rattle.std.specs.Option.{option_map_or}
use Rattle.std.proofs.lemmas.Bool.Decides.{nat_tests}
use Rattle.std.proofs.lemmas.Nat.{mul-le}
use Rattle.std.proofs.Math.Nat.{pow-le-pow_right, two-pow-succ}
use Rattle.wbt_num.specs.Arithmetic.{halvings, log2}
use Rattle.wbt_num.specs.Limits.{IsLawful}
use Rattle.wbt_num.specs.declared.limits.TheConstants.{MAX_LIMIT}
use Rattle.wbt_estimate.specs.declared.estimate.Estimate.{Estimate}
use Rattle.wbt_pause.specs.declared.pauses.TheConstants.{FEW_PAGES}
use Rattle.wbt_pause.specs.declared.decision.Decision.{Decision}
use Rattle.wbt_pause.specs.declared.pauses.Aim.{Aim}
use Rattle.wbt_pause.specs.declared.pauses.MinPause.{MinPause}
use Rattle.wbt_pause.specs.declared.reads.Reads.{Reads}
use Rattle.wbt_pause.specs.declared.reads.Task.{Task}
use Rattle.wbt_pause.specs.declared.rule.Rule.{Rule}
use Rattle.wbt_pause.specs.Decision.{cut_decision, decided, decision_of, domain_rule, due_pause, finished, go_decision, period_of, rate_of, throttled, unpaused}
use Rattle.wbt_pause.specs.Pauses.{aimed_ticks, enough_pages, few_pages, first_aim, in_time, least_pause, longest_pause, pages_in, poll_pages}
use Rattle.wbt_position.specs.declared.ratio.DomainRead.{DomainRead}

-- ---- logarithms

one_halving : (b : Bool) (m k : ℕ) → m ≤ k → elim b [ true ↦ 0 | false ↦ 1 + m ] ≤ suc k
one_halving true m k h = omega arith
one_halving false m k h = omega arith

no_halving : (b : Bool) (m : ℕ) → b ≡ true → elim b [ true ↦ 0 | false ↦ 1 + m ] ≤ 0
no_halving true m e = omega arith
no_halving false m e = absurd (true≢false (sym e))

halvings_fit : (most n k : ℕ) → n < 2 ^ (suc k) → halvings most n ≤ k
unfolding halvings
halvings_fit zero n k h = omega arith
halvings_fit (suc most) n zero h = no_halving (eqb (n / 2) 0) (halvings most (n / 2)) (eq-eqb (n / 2) 0 (omega (arith, two-pow-succ 0)))
halvings_fit (suc most) n (suc k) h = one_halving (eqb (n / 2) 0) (halvings most (n / 2)) k
    (halvings_fit most (n / 2) k (omega (arith, two-pow-succ (suc k))))

log2_fits : (n : ℕ) → n < 2 ^ 32 → log2 n ≤ 31
unfolding log2
log2_fits n h = halvings_fit n n 31 (omega arith)

-- ---- pages

pub poll_small : (thresh dirty : ℕ) → thresh ≤ MAX_LIMIT → poll_pages thresh dirty ≤ 2 ^ 42
poll_small thresh dirty h = cut (ltb dirty thresh)
  where
    power : 2 ^ (log2 (thresh - dirty) / 2) ≤ 2 ^ 15
    power = let l = log2_fits (thresh - dirty) (omega (arith, h)) in let half : log2 (thresh - dirty) / 2 ≤ 15 = omega (arith, l) in let two : 0 < 2 = omega arith in pow-le-pow_right {n = 2} two half

    cut : (b : Bool) → cond b (2 ^ (log2 (thresh - dirty) / 2)) 1 ≤ 2 ^ 42
    cut true = omega (arith, power)
    cut false = omega arith

pages_small : (rate ticks : ℕ) → rate < 2 ^ 44 → ticks ≤ 200 → pages_in rate ticks ≤ 2 ^ 42
pages_small rate ticks h k = let l : rate * ticks ≤ 2 ^ 44 * 200 = mul-le rate ticks (2 ^ 44) 200 (omega arith) k in omega (arith, l)

abbrev AimSmall : Aim → Type 0
AimSmall aim = aim.pages ≤ 2 ^ 42

either_aim : (b : Bool) (x y : Aim) → AimSmall x → AimSmall y → AimSmall (cond b x y)
either_aim true x y h k = h
either_aim false x y h k = k

first_small : (longest avg ratelimit : ℕ) → longest ≤ 200 → ratelimit < 2 ^ 44 → AimSmall (first_aim longest avg ratelimit)
first_small longest avg ratelimit l r = pages_small ratelimit (aimed_ticks longest avg ratelimit) r (omega (arith, l))

few_small : (longest ratelimit : ℕ) → longest ≤ 200 → ratelimit < 2 ^ 44 → AimSmall (few_pages longest ratelimit)
few_small longest ratelimit l r = either_aim (ltb FEW_PAGES (pages_in ratelimit longest)) _ _ (omega arith) (pages_small ratelimit longest r l)

enough_small : (longest ratelimit : ℕ) (aim : Aim) → longest ≤ 200 → ratelimit < 2 ^ 44 → AimSmall aim → AimSmall (enough_pages longest ratelimit aim)
enough_small longest ratelimit aim l r h = either_aim (ltb aim.pages FEW_PAGES) (few_pages longest ratelimit) aim (few_small longest ratelimit l r) h

quotient : (a b : ℕ) → 0 < b → a / b * b ≤ a
quotient a b h = grind arith

products : (task longest : ℕ) → task * longest ≤ longest * (task + 1)
products task longest = grind arith

-- where the rate makes the writer slow, the longest pause gives fewer pages than the aim
slow : (longest task pages : ℕ) → longest < 1000 * pages / (task + 1) → pages_in task longest ≤ pages
slow longest task pages h =
    let n : ℕ = 1000 * pages / (task + 1) in
    let below : n * (task + 1) ≤ 1000 * pages = omega (arith, quotient (1000 * pages) (task + 1) (omega arith)) in
    let most : longest * (task + 1) ≤ n * (task + 1) = mul-le longest (task + 1) n (task + 1) (omega (arith, h)) (omega arith) in
    let less : task * longest ≤ longest * (task + 1) = products task longest in
    omega (arith, below, most, less)

in_time_small : (longest task : ℕ) (aim : Aim) → AimSmall aim → AimSmall (in_time longest task aim)
in_time_small longest task aim h = cut (ltb longest (1000 * aim.pages / (task + 1))) (λ t. grind (arith, nat_tests))
  where
    cut : (b : Bool) → (b ≡ true → longest < 1000 * aim.pages / (task + 1)) → AimSmall (cond b (record { pages = pages_in task longest; ticks = longest }) aim)
    cut true f = let l = slow longest task aim.pages (f refl) in omega (arith, l, h)
    cut false f = h

least_small : (longest avg ratelimit task : ℕ) → longest ≤ 200 → ratelimit < 2 ^ 44 → (least_pause longest avg ratelimit task).pages ≤ 2 ^ 42
unfolding least_pause
least_small longest avg ratelimit task l r = in_time_small longest task (enough_pages longest ratelimit (first_aim longest avg ratelimit))
    (enough_small longest ratelimit (first_aim longest avg ratelimit) l r (first_small longest avg ratelimit l r))

-- ---- decisions

abbrev LeavesSmall : (decision : Decision) → Type 0
LeavesSmall decision = decision.task.nr_dirtied_pause ≤ 2 ^ 42

either : (test : Bool) (left right : Decision) → LeavesSmall left → LeavesSmall right → LeavesSmall (cond test left right)
either true left right h g = h
either false left right h g = g

one_of : (test : Bool) (left right : Task) → (test ≡ true → left.nr_dirtied_pause ≤ 2 ^ 42) → right.nr_dirtied_pause ≤ 2 ^ 42 → (cond test left right).nr_dirtied_pause ≤ 2 ^ 42
one_of true left right h g = h refl
one_of false left right h g = g

unpaused_small : (due : ℤ) (period now : ℕ) (task : Task) → task.nr_dirtied ≤ 2 ^ 22 → task.nr_dirtied_pause ≤ 2 ^ 42 → (unpaused due period now task).nr_dirtied_pause ≤ 2 ^ 42
unpaused_small due period now task few small =
    one_of (int_lt due (neg_ℤ (pos 1000))) _ _ (λ t. small)
    (one_of (ltb 0 period) _ _ (λ t. small)
    (one_of (leb task.nr_dirtied_pause task.nr_dirtied) _ _ (λ t. let l : task.nr_dirtied_pause ≤ task.nr_dirtied = grind (arith, nat_tests) in omega (arith, l, few)) small))

cut_small : (rule : Rule) (cap due longest pages now : ℕ) → pages ≤ 2 ^ 42 → LeavesSmall (cut_decision rule cap due longest pages now)
unfolding cut_decision decided
cut_small rule cap due longest pages now h = either (ltb longest due) _ _ h h

go_small : (rule : Rule) (cap rate longest : ℕ) (least : MinPause) (task : Task) (now : ℕ) → least.pages ≤ 2 ^ 42 → task.nr_dirtied ≤ 2 ^ 22 → task.nr_dirtied_pause ≤ 2 ^ 42
    → LeavesSmall (go_decision rule cap rate longest least task now)
unfolding go_decision decided
go_small rule cap rate longest least task now h few small =
    let period : ℕ = period_of rate task in
    let due : ℤ = due_pause period task.paused_when now in
    either (int_lt due (pos least.pause)) _ _ (unpaused_small due period now task few small) (cut_small rule cap (unsigned_abs due) longest least.pages now h)

longest_small : (wb_dirty avg : ℕ) → longest_pause wb_dirty avg ≤ 200
unfolding longest_pause
longest_small wb_dirty avg = omega arith

throttled_small : (rule : Rule) (wb_dirty cpus cap : ℕ) (estimate : Estimate) (task : Task) (now : ℕ) → estimate.ratelimit < 2 ^ 44 → task.nr_dirtied ≤ 2 ^ 22 → task.nr_dirtied_pause ≤ 2 ^ 42
    → LeavesSmall (throttled rule wb_dirty cpus cap estimate task now)
unfolding throttled decided
throttled_small rule wb_dirty cpus cap estimate task now r few small =
    let rate : ℕ = rate_of rule.ratio estimate in
    let longest : ℕ = longest_pause wb_dirty estimate.avg in
    let least : MinPause = least_pause longest estimate.avg estimate.ratelimit rate in
    let pages : least.pages ≤ 2 ^ 42 = least_small longest estimate.avg estimate.ratelimit rate (longest_small wb_dirty estimate.avg) r in
    either (eqb rate 0) _ _ pages (go_small rule cap rate longest least task now pages few small)

-- A decision by any rule with a small allowance leaves its writer an allowance of at most 2 ^ 42 pages, where it had one.
pub finished_small : (rule : Rule) (wb_dirty cpus cap : ℕ) (estimate : Estimate) (task : Task) (now : ℕ) → rule.poll ≤ 2 ^ 42 → estimate.ratelimit < 2 ^ 44 → task.nr_dirtied ≤ 2 ^ 22 → task.nr_dirtied_pause ≤ 2 ^ 42
    → (finished rule wb_dirty cpus cap estimate task now).task.nr_dirtied_pause ≤ 2 ^ 42
unfolding decided
finished_small rule wb_dirty cpus cap estimate task now poll r few small =
    either rule.free _ _ poll (throttled_small rule wb_dirty cpus cap estimate task now r few small)

-- the least of each domain's intervals is small where the global domain's is
pub least_poll_small : (number : DomainRead → ℕ) (global : ℕ) (cgroup : Option DomainRead) → global ≤ 2 ^ 42
    → option_map_or (λ domain. min global (number domain)) cgroup global ≤ 2 ^ 42
least_poll_small number global None h = h
least_poll_small number global (Some domain) h = omega (arith, h)

-- A decision leaves its writer an allowance of at most 2 ^ 42 pages, where it had one.
pub decision_small : (reads : Reads) (estimate : Estimate) (task : Task) (now : ℕ) → IsLawful reads.global.limits → estimate.ratelimit < 2 ^ 44 → task.nr_dirtied ≤ 2 ^ 22 → task.nr_dirtied_pause ≤ 2 ^ 42
    → (decision_of reads estimate task now).task.nr_dirtied_pause ≤ 2 ^ 42
unfolding decision_of
decision_small reads estimate task now lawful r few small =
    let poll : DomainRead → ℕ = λ domain. poll_pages domain.limits.thresh domain.dirty in
    let global : poll reads.global ≤ 2 ^ 42 = poll_small reads.global.limits.thresh reads.global.dirty (omega (arith, lawful.thresh_below_hard, lawful.hard_in_range)) in
    finished_small (domain_rule reads estimate) reads.wb_dirty reads.cpus reads.cap estimate task now
    (least_poll_small poll (poll reads.global) reads.cgroup global) r few small
