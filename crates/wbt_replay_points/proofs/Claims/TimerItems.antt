-- The items of the timer's turns: the steps that publish limits come just after their peak, and nowhere else.
use Rattle.std.proofs.Common.{◌≡◌, ℕ, zero, suc, ◌+◌, max, Bool, true, false, cond, eqb, List, [], ◌∷◌, ◌++◌, refl, sym, ap, subst, arith, append_assoc}
use Rattle.wbt_replay_order.proofs.Common.{Limits, TimerEntry, domain_turns, domain_periods, turn_items, TimerTodo}
use Rattle.wbt_journal.specs.declared.timer.TimerEntry.TheVariants as entry
use Rattle.wbt_replay_moves.specs.declared.todo.TimerSilent.TheVariants as silent
use Rattle.wbt_replay_moves.specs.declared.todo.TimerStep.TheVariants as step
use Rattle.wbt_replay_moves.specs.declared.todo.TimerTodo.TheVariants as todo
use Rattle.wbt_replay_order.specs.Claims.Bound.{greatest_printed, greatest_ahead}

-- ---- what comes next to what

-- the next step is one of those that publish limits, of this domain; and it is none
abbrev pub PublishesNow : (domain : ℕ) (todos : List TimerTodo) → Type 0
PublishesNow domain [] = ⊥
PublishesNow domain (todo.Step (step.Unseal of) ∷ more) = of ≡ domain
PublishesNow domain (todo.Step (step.Thresh of) ∷ more) = of ≡ domain
PublishesNow domain (todo.Step (step.Publish of) ∷ more) = of ≡ domain
PublishesNow domain (todo.Step (step.Count of) ∷ more) = ⊥
PublishesNow domain (todo.Step (step.Peak of) ∷ more) = ⊥
PublishesNow domain (todo.Silent item ∷ more) = ⊥

abbrev pub PublishesNone : (todos : List TimerTodo) → Type 0
PublishesNone [] = Unit {0}
PublishesNone (todo.Step (step.Unseal of) ∷ more) = ⊥
PublishesNone (todo.Step (step.Thresh of) ∷ more) = ⊥
PublishesNone (todo.Step (step.Publish of) ∷ more) = ⊥
PublishesNone (todo.Step (step.Count of) ∷ more) = Unit {0}
PublishesNone (todo.Step (step.Peak of) ∷ more) = Unit {0}
PublishesNone (todo.Silent item ∷ more) = Unit {0}

-- The steps that publish limits come just after their peak, and nowhere else.
abbrev pub AreRaised : (todos : List TimerTodo) → Type 0
AreRaised [] = Unit {0}
AreRaised (todo.Step (step.Peak domain) ∷ more) = PublishesNow domain more × AreRaised more
AreRaised (todo.Step (step.Unseal domain) ∷ more) = PublishesNow domain more × AreRaised more
AreRaised (todo.Step (step.Thresh domain) ∷ more) = PublishesNow domain more × AreRaised more
AreRaised (todo.Step (step.Publish domain) ∷ more) = PublishesNone more × AreRaised more
AreRaised (todo.Step (step.Count domain) ∷ more) = PublishesNone more × AreRaised more
AreRaised (todo.Silent item ∷ more) = PublishesNone more × AreRaised more

pub none_ahead : (d hard : ℕ) (todos : List TimerTodo) → PublishesNone todos → greatest_ahead d hard todos ≡ 0
none_ahead d hard [] none = refl
none_ahead d hard (todo.Step (step.Unseal of) ∷ more) none = absurd none
none_ahead d hard (todo.Step (step.Thresh of) ∷ more) none = absurd none
none_ahead d hard (todo.Step (step.Publish of) ∷ more) none = absurd none
none_ahead d hard (todo.Step (step.Count of) ∷ more) none = refl
none_ahead d hard (todo.Step (step.Peak of) ∷ more) none = refl
none_ahead d hard (todo.Silent item ∷ more) none = refl

pub this_ahead : (domain d hard : ℕ) (todos : List TimerTodo) → PublishesNow domain todos → greatest_ahead d hard todos ≡ cond (eqb domain d) hard 0
this_ahead domain d hard [] now = absurd now
this_ahead domain d hard (todo.Step (step.Unseal of) ∷ more) now = ap (λ (n : ℕ). cond (eqb n d) hard 0) now
this_ahead domain d hard (todo.Step (step.Thresh of) ∷ more) now = ap (λ (n : ℕ). cond (eqb n d) hard 0) now
this_ahead domain d hard (todo.Step (step.Publish of) ∷ more) now = ap (λ (n : ℕ). cond (eqb n d) hard 0) now
this_ahead domain d hard (todo.Step (step.Count of) ∷ more) now = absurd now
this_ahead domain d hard (todo.Step (step.Peak of) ∷ more) now = absurd now
this_ahead domain d hard (todo.Silent item ∷ more) now = absurd now

-- ---- a further turn

none_behind : (xs ys : List TimerTodo) → PublishesNone xs → PublishesNone ys → PublishesNone (xs ++ ys)
none_behind [] ys none behind = behind
none_behind (todo.Step (step.Unseal of) ∷ more) ys none behind = none
none_behind (todo.Step (step.Thresh of) ∷ more) ys none behind = none
none_behind (todo.Step (step.Publish of) ∷ more) ys none behind = none
none_behind (todo.Step (step.Count of) ∷ more) ys none behind = tt
none_behind (todo.Step (step.Peak of) ∷ more) ys none behind = tt
none_behind (todo.Silent item ∷ more) ys none behind = tt

now_behind : (domain : ℕ) (xs ys : List TimerTodo) → PublishesNow domain xs → PublishesNow domain (xs ++ ys)
now_behind domain [] ys now = absurd now
now_behind domain (todo.Step (step.Unseal of) ∷ more) ys now = now
now_behind domain (todo.Step (step.Thresh of) ∷ more) ys now = now
now_behind domain (todo.Step (step.Publish of) ∷ more) ys now = now
now_behind domain (todo.Step (step.Count of) ∷ more) ys now = now
now_behind domain (todo.Step (step.Peak of) ∷ more) ys now = now
now_behind domain (todo.Silent item ∷ more) ys now = now

pub raised_behind : (xs ys : List TimerTodo) → AreRaised xs → PublishesNone ys → AreRaised ys → AreRaised (xs ++ ys)
raised_behind [] ys raised none behind = behind
raised_behind (todo.Step (step.Peak domain) ∷ more) ys raised none behind = (now_behind domain more ys raised.0, raised_behind more ys raised.1 none behind)
raised_behind (todo.Step (step.Unseal domain) ∷ more) ys raised none behind = (now_behind domain more ys raised.0, raised_behind more ys raised.1 none behind)
raised_behind (todo.Step (step.Thresh domain) ∷ more) ys raised none behind = (now_behind domain more ys raised.0, raised_behind more ys raised.1 none behind)
raised_behind (todo.Step (step.Publish domain) ∷ more) ys raised none behind = (none_behind more ys raised.0 none, raised_behind more ys raised.1 none behind)
raised_behind (todo.Step (step.Count domain) ∷ more) ys raised none behind = (none_behind more ys raised.0 none, raised_behind more ys raised.1 none behind)
raised_behind (todo.Silent item ∷ more) ys raised none behind = (none_behind more ys raised.0 none, raised_behind more ys raised.1 none behind)

pub ahead_behind : (d hard : ℕ) (xs ys : List TimerTodo) → PublishesNone ys → greatest_ahead d hard (xs ++ ys) ≡ greatest_ahead d hard xs
ahead_behind d hard [] ys none = none_ahead d hard ys none
ahead_behind d hard (todo.Step (step.Unseal of) ∷ more) ys none = refl
ahead_behind d hard (todo.Step (step.Thresh of) ∷ more) ys none = refl
ahead_behind d hard (todo.Step (step.Publish of) ∷ more) ys none = refl
ahead_behind d hard (todo.Step (step.Count of) ∷ more) ys none = refl
ahead_behind d hard (todo.Step (step.Peak of) ∷ more) ys none = refl
ahead_behind d hard (todo.Silent item ∷ more) ys none = refl

periods_raised : (n domain : ℕ) → AreRaised (domain_periods n domain ++ todo.Silent silent.Rest ∷ []) × PublishesNone (domain_periods n domain ++ todo.Silent silent.Rest ∷ [])
unfolding domain_periods
periods_raised zero domain = ((tt, tt), tt)
periods_raised (suc n) domain = let rest = periods_raised n (domain + 1) in ((rest.1, rest.0), tt)

turns_raised : (n domain : ℕ) (behind : List TimerTodo) → AreRaised behind → PublishesNone behind
    → AreRaised (domain_turns n domain ++ behind) × PublishesNone (domain_turns n domain ++ behind)
unfolding domain_turns
turns_raised zero domain behind raised none = (raised, none)
turns_raised (suc n) domain behind raised none =
    let rest = turns_raised n (domain + 1) behind raised none in
    ((tt, (refl, (refl, (refl, (rest.1, rest.0))))), tt)

pub items_raised : (n : ℕ) → AreRaised (turn_items n) × PublishesNone (turn_items n)
items_raised n =
    let behind = periods_raised n 0 in
    let last = todo.Silent silent.Rest ∷ [] in
    subst (λ (ts : List TimerTodo). AreRaised ts × PublishesNone ts) (sym (append_assoc (domain_turns n 0) (domain_periods n 0) last))
    (turns_raised n 0 (domain_periods n 0 ++ last) behind.0 behind.1)

-- ---- what was printed

pub printed_more : (d : ℕ) (entries : List TimerEntry) (of now : ℕ) (limits : Limits)
    → greatest_printed d (entries ++ entry.Limits of now limits ∷ []) ≡ max (greatest_printed d entries) (cond (eqb of d) limits.hard 0)
printed_more d [] of now limits = by_domain (eqb of d)
  where
    by_domain : (b : Bool) → cond b (max limits.hard 0) 0 ≡ max 0 (cond b limits.hard 0)
    by_domain true = omega arith
    by_domain false = omega arith
printed_more d (entry.Limits first at these ∷ entries) of now limits = by_domain (eqb first d) (printed_more d entries of now limits)
  where
    by_domain : (b : Bool) → greatest_printed d (entries ++ entry.Limits of now limits ∷ []) ≡ max (greatest_printed d entries) (cond (eqb of d) limits.hard 0)
        → cond b (max these.hard (greatest_printed d (entries ++ entry.Limits of now limits ∷ []))) (greatest_printed d (entries ++ entry.Limits of now limits ∷ []))
        ≡ max (cond b (max these.hard (greatest_printed d entries)) (greatest_printed d entries)) (cond (eqb of d) limits.hard 0)
    by_domain true more = omega (arith, more)
    by_domain false more = more
printed_more d (entry.Period first k ∷ entries) of now limits = printed_more d entries of now limits

pub printed_period : (d : ℕ) (entries : List TimerEntry) (of k : ℕ) → greatest_printed d (entries ++ entry.Period of k ∷ []) ≡ greatest_printed d entries
printed_period d [] of k = refl
printed_period d (entry.Limits first at these ∷ entries) of k =
    ap (λ (n : ℕ). cond (eqb first d) (max these.hard n) n) (printed_period d entries of k)
printed_period d (entry.Period first m ∷ entries) of k = printed_period d entries of k
