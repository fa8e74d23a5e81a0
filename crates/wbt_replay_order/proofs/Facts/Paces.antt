-- When a task rests for its pace, and for how long.
use Rattle.std.proofs.Common.{◌≡◌, ℕ, ◌+◌, ◌<◌, ◌≤◌, Bool, true, false, cond, eqb, leb, Option, None, Some, IfSome, refl, arith}
use Rattle.std.proofs.lemmas.Bool.Decides.{nat_tests}
use Rattle.wbt_replay_order.proofs.Common.{IsPace, MOST_COUNT, Pace, pause_of}
use Rattle.wbt_rules.specs.Pace.{since_after}
use Rattle.wbt_replay_order.specs.Kept.Horizon.{pause_ticks}
use Rattle.wbt_replay_order.specs.Kept.Sound.{SinceFits}

-- where it has written no page since
pub none_since : (pace : Option Pace) → IfSome pace IsPace → SinceFits pace 0
none_since None is = refl
none_since (Some pace) is = omega arith

pub none_ticks : (pace : Option Pace) → pause_ticks pace 0 ≡ 0
none_ticks None = refl
none_ticks (Some pace) = refl

-- after a page more, before which it doesn't rest
pub since_fits : (pace : Option Pace) (since : ℕ) → pause_of pace since ≡ None → SinceFits pace (since_after pace since)
since_fits None since none = refl
since_fits (Some pace) since none = cut (leb pace.pages since) none (λ e. grind (arith, nat_tests))
  where
    cut : (b : Bool) → cond b (Some pace.ticks) None ≡ None → (b ≡ false → since < pace.pages) → since + 1 ≤ pace.pages
    cut true e f = absurd (cc e)
    cut false e f = let l = f refl in omega (arith, l)

-- the rest that comes next is at most a step's ticks away from none
pub pause_more : (pace : Option Pace) (since : ℕ) → IfSome pace IsPace → pause_ticks pace (since_after pace since) ≤ pause_ticks pace since + MOST_COUNT
pause_more None since is = omega arith
pause_more (Some pace) since is = cut (eqb (since + 1) 0)
  where
    cut : (b : Bool) → cond b 0 pace.ticks ≤ pause_ticks (Some pace) since + MOST_COUNT
    cut true = omega arith
    cut false = let most = is.ticks.1 in omega (arith, most)

-- a rest for the pace was paid
pub pause_paid : (pace : Option Pace) (since ticks : ℕ) → IfSome pace IsPace → pause_of pace since ≡ Some ticks → pause_ticks pace 0 + ticks ≤ pause_ticks pace since
pause_paid None since ticks is rests = absurd (cc rests)
pause_paid (Some pace) since ticks is rests = cut (leb pace.pages since) rests (λ e. grind (arith, nat_tests)) (eqb since 0) (λ e. grind (arith, nat_tests))
  where
    same : (a b : ℕ) → Some a ≡ Some b → a ≡ b
    same a b e = cc

    cut : (b : Bool) → cond b (Some pace.ticks) None ≡ Some ticks → (b ≡ true → pace.pages ≤ since) → (c : Bool) → (c ≡ true → since ≡ 0) → 0 + ticks ≤ cond c 0 pace.ticks
    cut true e f true z = let some = is.pages.0 in let l = f refl in let none = z refl in absurd (omega (arith, some, l, none))
    cut true e f false z = let ticks_are = same pace.ticks ticks e in omega (arith, ticks_are)
    cut false e f c z = absurd (cc e)
