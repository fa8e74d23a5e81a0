-- The greatest part of a threshold that the checks of each context use, check by check.
use Rattle.std.proofs.Common.{◌≡◌, ℕ, zero, suc, ◌+◌, ◌<◌, ◌≤◌, max, List, [], ◌∷◌, ◌++◌, length, take, set, get_or, All, Bool, true, false, cond, eqb, Option, Some, None, refl, sym, ◌∙◌, ap, subst, arith, eq-eqb, ne_eqb}
use Rattle.std.specs.Prelude.{IfSome}
use Rattle.std.specs.Option.{option_map_or}
use Rattle.std.proofs.lemmas.Bool.{cond-true, cond-false}
use Rattle.std.proofs.lemmas.List.Elements.{All-head, All-tail}
use Rattle.std.proofs.lemmas.List.{get_or-set_same, get_or-set_other, get_or_default, length-set, take_more}
use mathlib.Core.Logic.{dite}
use native.Mathlib.Decide.{ℕ_discrete}
use Rattle.wbt_replay_order.proofs.Common.{MAX_LIMIT, context_at, device_at, Trace, at_least_zero, CheckEntry, DomainLine, no_cpu, Cpu, part_used, Facts, ChecksFit}
use Rattle.wbt_rules.proofs.Parts.{part_is_within}
use Rattle.wbt_trace.specs.Sofar.{least_shares}
use Rattle.wbt_strict.specs.Decision.{greatest_part}
use Rattle.wbt_journal.specs.Checks.{domain_read, cgroup_read, reads_by}
use Rattle.wbt_replay_moves.specs.Kept.Fit.{IsLine}
use Rattle.wbt_replay_order.specs.Definition.Strict.{part_in, part_among}
use Rattle.wbt_replay_order.specs.Kept.Strict.{AreParts, CheckFits, WithChecks}

-- ---- one check more at the end

pub among_more : (trace : Trace) (k : ℕ) (checks : List CheckEntry) (check : CheckEntry)
    → part_among trace k (checks ++ check ∷ []) ≡ max (part_among trace k checks) (part_in trace k check)
among_more trace k [] check = omega arith
among_more trace k (c ∷ checks) check = omega (arith, among_more trace k checks check)

pub used_more : (trace : Trace) (k : ℕ) (cpus : List Cpu) (c : Cpu) → part_used trace k (cpus ++ c ∷ []) ≡ max (part_used trace k cpus) (part_among trace k c.checks)
used_more trace k [] c = omega arith
used_more trace k (x ∷ cpus) c = omega (arith, used_more trace k cpus c)

-- a row with a check noted has the greatest part with it
pub noted : (trace : Trace) (before now : List ℕ) (checks : List CheckEntry) (check : CheckEntry) → check.context < length before
    → WithChecks trace checks before now
    → WithChecks trace (checks ++ check ∷ []) before (set now check.context (max (greatest_part (reads_by trace check)) (get_or now check.context 0)))
noted trace before now checks check there h =
    let part : ℕ = greatest_part (reads_by trace check) in
    let new : ℕ = max part (get_or now check.context 0) in (
      length-set now check.context new ∙ h.0,
      λ k. dite (ℕ_discrete k check.context)
          (λ same.
          let here : part_in trace k check ≡ part = cond-true (eqb check.context k) part 0 (eq-eqb check.context k (sym same)) in
          let old : get_or now check.context 0 ≡ max (get_or before k 0) (part_among trace k checks) = ap (λ (n : ℕ). get_or now n 0) (sym same) ∙ h.1 k in
          ap (λ (n : ℕ). get_or (set now check.context new) n 0) same
          ∙ get_or-set_same now check.context new 0 (omega (arith, there, h.0))
          ∙ omega (arith, here, old, among_more trace k checks check))
          (λ apart.
          let none : part_in trace k check ≡ 0 = cond-false (eqb check.context k) part 0 (ne_eqb check.context k (λ e. apart (sym e))) in
          get_or-set_other now check.context k new 0 apart ∙ omega (arith, none, h.1 k, among_more trace k checks check)),
    )

-- the next of some checks is noted
pub noted_next : (trace : Trace) (checks : List CheckEntry) (i : ℕ) (d : CheckEntry) (before now new : List ℕ) (part got greater : ℕ) → i < length checks
    → CheckFits trace (get_or checks i d) → length before ≡ length trace.contexts → WithChecks trace (take i checks) before now
    → part ≡ greatest_part (reads_by trace (get_or checks i d)) → got ≡ get_or now (get_or checks i d).context 0 → greater ≡ max part got
    → new ≡ set now (get_or checks i d).context greater → WithChecks trace (take (i + 1) checks) before new
noted_next trace checks i d before now new part got greater less fits many h part_is got_is greater_is new_is =
    let check : CheckEntry = get_or checks i d in
    let number : greater ≡ max (greatest_part (reads_by trace check)) (get_or now check.context 0) = omega (arith, part_is, got_is, greater_is) in
    subst (λ (l : List CheckEntry). WithChecks trace l before new) (sym (take_more checks i d less))
    (subst (WithChecks trace (take i checks ++ check ∷ []) before) (sym (new_is ∙ ap (set now check.context) number))
    (noted trace before now (take i checks) check (omega (arith, fits.context, many)) h))

-- ---- the greatest is within the limits

line_within : (trace : Trace) (facts : Facts trace) (context : ℕ) (line : DomainLine) → context < length trace.contexts → IsLine line
    → (domain_read trace context line).wb_thresh ≤ MAX_LIMIT
line_within trace facts context line there fits =
    let shares = facts.shares (context_at trace context).device (facts.context_device context there) in
    let part = part_is_within (device_at trace (context_at trace context).device) (least_shares trace.devices) line.limits line.share (at_least_zero line.count.value)
    (omega (arith, shares.1)) in
    omega (arith, part, fits.limits.thresh_below_hard, fits.limits.hard_in_range)

group_within : (trace : Trace) (facts : Facts trace) (context : ℕ) (global : ℕ) (which : Option DomainLine) → context < length trace.contexts → IfSome which IsLine
    → global ≤ MAX_LIMIT → option_map_or (λ cgroup. max global cgroup.wb_thresh) (cgroup_read trace context which) global ≤ MAX_LIMIT
group_within trace facts context global None there fits small = small
group_within trace facts context global (Some line) there fits small = omega (arith, small, line_within trace facts context line there fits)

pub check_within : (trace : Trace) (facts : Facts trace) (check : CheckEntry) → CheckFits trace check → greatest_part (reads_by trace check) ≤ MAX_LIMIT
check_within trace facts check fits =
    group_within trace facts check.context (domain_read trace check.context check.global).wb_thresh check.cgroup fits.context fits.cgroup
    (line_within trace facts check.context check.global fits.context fits.global)

in_within : (trace : Trace) (facts : Facts trace) (k : ℕ) (check : CheckEntry) → CheckFits trace check → part_in trace k check ≤ MAX_LIMIT
in_within trace facts k check fits = either_within (eqb check.context k) (check_within trace facts check fits)
  where
    either_within : (b : Bool) → greatest_part (reads_by trace check) ≤ MAX_LIMIT → cond b (greatest_part (reads_by trace check)) 0 ≤ MAX_LIMIT
    either_within true small = small
    either_within false small = omega arith

among_within : (trace : Trace) (facts : Facts trace) (k : ℕ) (checks : List CheckEntry) → All (CheckFits trace) checks → part_among trace k checks ≤ MAX_LIMIT
among_within trace facts k [] fits = omega arith
among_within trace facts k (check ∷ checks) fits =
    let first = in_within trace facts k check (All-head (CheckFits trace) check checks fits) in
    let rest = among_within trace facts k checks (All-tail (CheckFits trace) check checks fits) in omega (arith, first, rest)

pub used_within : (trace : Trace) (facts : Facts trace) (k : ℕ) (cpus : List Cpu) → ChecksFit trace cpus → part_used trace k cpus ≤ MAX_LIMIT
used_within trace facts k [] fits = omega arith
used_within trace facts k (c ∷ cpus) fits =
    let first = among_within trace facts k c.checks (All-head (λ (x : Cpu). All (CheckFits trace) x.checks) c cpus fits) in
    let rest = used_within trace facts k cpus (All-tail (λ (x : Cpu). All (CheckFits trace) x.checks) c cpus fits) in omega (arith, first, rest)

-- ---- a list of CPUs in which one is changed

pub used_grows : (trace : Trace) (k : ℕ) (cpus : List Cpu) (i : ℕ) (c : Cpu) → part_among trace k (get_or cpus i no_cpu).checks ≤ part_among trace k c.checks
    → part_used trace k cpus ≤ part_used trace k (set cpus i c)
used_grows trace k [] i c more = omega arith
used_grows trace k (x ∷ cpus) zero c more = omega (arith, more)
used_grows trace k (x ∷ cpus) (suc i) c more = let rest = used_grows trace k cpus i c more in omega (arith, rest)

pub used_same : (trace : Trace) (k : ℕ) (xs ys : List Cpu) → length ys ≡ length xs → ((i : ℕ) → (get_or ys i no_cpu).checks ≡ (get_or xs i no_cpu).checks)
    → part_used trace k ys ≡ part_used trace k xs
used_same trace k [] [] many same = refl
used_same trace k [] (y ∷ ys) many same = absurd (omega (arith, many))
used_same trace k (x ∷ xs) [] many same = absurd (omega (arith, many))
used_same trace k (x ∷ xs) (y ∷ ys) many same =
    let first : part_among trace k y.checks ≡ part_among trace k x.checks = ap (part_among trace k) (same 0) in
    let rest = used_same trace k xs ys (omega (arith, many)) (λ i. same (suc i)) in omega (arith, first, rest)

used_at : (trace : Trace) (k : ℕ) (cpus : List Cpu) (i : ℕ) → i < length cpus → part_among trace k (get_or cpus i no_cpu).checks ≤ part_used trace k cpus
used_at trace k [] i less = absurd (omega (arith, less))
used_at trace k (c ∷ cpus) zero less = omega arith
used_at trace k (c ∷ cpus) (suc i) less = let rest = used_at trace k cpus i (omega (arith, less)) in omega (arith, rest)

-- the part that a CPU's last check reads is used
pub last_used : (trace : Trace) (cpus : List Cpu) (i : ℕ) (c : Cpu) (older : List CheckEntry) (check : CheckEntry) → i < length cpus
    → c.checks ≡ older ++ check ∷ [] → greatest_part (reads_by trace check) ≤ part_used trace check.context (set cpus i c)
last_used trace cpus i c older check there is =
    let k : ℕ = check.context in
    let all = used_at trace k (set cpus i c) i (omega (arith, there, length-set cpus i c)) in
    let here : part_among trace k (get_or (set cpus i c) i no_cpu).checks ≡ part_among trace k (older ++ check ∷ []) =
    ap (λ (x : Cpu). part_among trace k x.checks) (get_or-set_same cpus i c no_cpu there) ∙ ap (part_among trace k) is in
    let its : part_in trace k check ≡ greatest_part (reads_by trace check) = cond-true (eqb k k) (greatest_part (reads_by trace check)) 0 (eq-eqb k k refl) in
    omega (arith, all, here, its, among_more trace k older check)

-- ---- a CPU's checks noted after those of others

pub parts_more : (trace : Trace) (cpus : List Cpu) (i : ℕ) (c : Cpu) (checks : List CheckEntry) (old new : List ℕ) → i < length cpus → c ≡ get_or cpus i c
    → checks ≡ c.checks → AreParts trace (take i cpus) old → WithChecks trace checks old new → AreParts trace (take (i + 1) cpus) new
parts_more trace cpus i c checks old new less here its h more = (
  more.0 ∙ h.0,
  λ k.
      let is : c ≡ get_or cpus i no_cpu = here ∙ get_or_default cpus i c no_cpu less in
      let same : part_among trace k checks ≡ part_among trace k c.checks = ap (part_among trace k) its in
      let all : part_used trace k (take (i + 1) cpus) ≡ max (part_used trace k (take i cpus)) (part_among trace k c.checks) =
      ap (part_used trace k) (take_more cpus i no_cpu less) ∙ ap (λ (x : Cpu). part_used trace k (take i cpus ++ x ∷ [])) (sym is) ∙ used_more trace k (take i cpus) c in
      omega (arith, all, same, h.1 k, more.1 k),
)
