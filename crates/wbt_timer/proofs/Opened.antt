-- The timer at the opening.
use Rattle.std.proofs.Common.{◌≡◌, ℕ, zero, suc, ◌+◌, ◌-◌, ◌*◌, ◌^◌, ◌<◌, ◌≤◌, List, [], ◌∷◌, ◌++◌, All, get_or, length, refl, sym, ap, ◌∙◌, subst, arith, append_assoc, length-append}
use Rattle.std.proofs.lemmas.List.Elements.{All-nil}
use Rattle.wbt_kit.proofs.Common.{Limits, MAX_LIMIT, IsLawful, Cgroup, Trace, domains, TimerEntry, first_lawful}
use Rattle.wbt_journal.specs.declared.timer.TimerEntry.TheVariants.{Limits as LimitsLine}
use Rattle.wbt_rules.specs.declared.moments.TheConstants.{PERIOD_TICKS}
use Rattle.wbt_rules.specs.Thresholds.{DomainFits}
use Rattle.wbt_run_laws.specs.Closed.{first_lines}
use Rattle.wbt_kit.proofs.Laid.{all_pushed, domain_fits}
use Rattle.wbt_timer.specs.Side.{IsSide, first_side, first_sides}
use Rattle.wbt_timer.specs.declared.side.DomainSide.{DomainSide}

-- the first lines of one domain more
pub lines_more : (firsts : ℕ → Limits) (opened d n : ℕ) (log : List TimerEntry) → d < n
    → (log ++ LimitsLine d opened (firsts d) ∷ []) ++ first_lines firsts opened (d + 1) (n - (d + 1)) ≡ log ++ first_lines firsts opened d (n - d)
lines_more firsts opened d n log less =
    let next : d + 1 ≡ suc d = omega arith in
    let left : n - d ≡ suc (n - suc d) = omega arith in
    ap (λ (k : ℕ). (log ++ LimitsLine d opened (firsts d) ∷ []) ++ first_lines firsts opened k (n - k)) next
    ∙ append_assoc log (LimitsLine d opened (firsts d) ∷ []) (first_lines firsts opened (suc d) (n - suc d))
    ∙ ap (λ (k : ℕ). log ++ first_lines firsts opened d k) (sym left)

pub sides_long : (trace : Trace) (now n : ℕ) → length (first_sides trace now n) ≡ n
sides_long trace now zero = refl
sides_long trace now (suc n) = let before = sides_long trace now n in omega (arith, length-append (first_sides trace now n) (first_side trace now n ∷ []))

sides_hard : (trace : Trace) (now n : ℕ) → All (λ (s : DomainSide). s.hard ≤ MAX_LIMIT) (first_sides trace now n)
sides_hard trace now zero = All-nil (λ (s : DomainSide). s.hard ≤ MAX_LIMIT)
sides_hard trace now (suc n) =
    all_pushed (λ (s : DomainSide). s.hard ≤ MAX_LIMIT) (first_sides trace now n) (first_side trace now n) (sides_hard trace now n) (first_lawful trace now n).hard_in_range

sides_at : (trace : Trace) (now n : ℕ) → All (λ (s : DomainSide). s.at ≤ now) (first_sides trace now n)
sides_at trace now zero = All-nil (λ (s : DomainSide). s.at ≤ now)
sides_at trace now (suc n) = all_pushed (λ (s : DomainSide). s.at ≤ now) (first_sides trace now n) (first_side trace now n) (sides_at trace now n) (omega arith)

sides_owe : (trace : Trace) (now n period : ℕ) → All (λ (s : DomainSide). PERIOD_TICKS * s.owed ≤ period) (first_sides trace now n)
sides_owe trace now zero period = All-nil (λ (s : DomainSide). PERIOD_TICKS * s.owed ≤ period)
sides_owe trace now (suc n) period =
    all_pushed (λ (s : DomainSide). PERIOD_TICKS * s.owed ≤ period) (first_sides trace now n) (first_side trace now n) (sides_owe trace now n period) (omega arith)

fits_same : (machine trace : Trace) (d : ℕ) → machine.cgroups ≡ trace.cgroups → DomainFits trace d → DomainFits machine d
fits_same machine trace zero same fits = tt
fits_same machine trace (suc g) same fits =
    subst (λ (l : List Cgroup). (g < length l) × ((get_or l g (record { filepages = 0; headroom = 0 })).filepages ≤ 2 ^ 40) × ((get_or l g (record { filepages = 0; headroom = 0 })).headroom ≤ 2 ^ 40)) (sym same) fits

pub first_is_side : (trace machine : Trace) (now : ℕ) (sides : List DomainSide) → IsLawful trace → now < 2 ^ 62 → machine.cgroups ≡ trace.cgroups → sides ≡ first_sides trace now (domains trace)
    → IsSide (record { machine = machine; last = now; period = now + PERIOD_TICKS; domains = sides })
first_is_side trace machine now sides lawful early same is =
    let long : length sides ≡ domains trace = ap (λ (l : List DomainSide). length l) is ∙ sides_long trace now (domains trace) in
    let many : domains machine ≡ domains trace = ap (λ (l : List Cgroup). suc (length l)) same in
    record {
      fits = λ d less. fits_same machine trace d same (domain_fits trace lawful d (omega (arith, less, many)));
      many = long ∙ sym many;
      few = omega (arith, long, lawful.within.few_cgroups);
      last_in_range = early;
      period_near = omega arith;
      hards = subst (All (λ (s : DomainSide). s.hard ≤ MAX_LIMIT)) (sym is) (sides_hard trace now (domains trace));
      published = subst (All (λ (s : DomainSide). s.at ≤ now)) (sym is) (sides_at trace now (domains trace));
      owed = subst (All (λ (s : DomainSide). PERIOD_TICKS * s.owed ≤ now + PERIOD_TICKS)) (sym is) (sides_owe trace now (domains trace) (now + PERIOD_TICKS));
    }
