-- How a log goes on: what a CPU or the timer makes stands in its own log, and in no other.
use Rattle.std.proofs.Common.{◌≡◌, ◌≢◌, ℕ, zero, suc, ◌+◌, ◌≤◌, ◌⊎◌, ◌&&◌, not, true, false, eqb, List, [], ◌∷◌, ◌++◌, length, Option, Some, None, sym, refl, ap, ◌∙◌, subst, inl, inr, ⊎_elim, arith, eq-eqb, ne_eqb}
use mathlib.Core.Option.{some-injective, some-ne-none}
use mathlib.Core.Logic.{dite}
use native.Mathlib.Decide.{ℕ_discrete}
use lib.ListN.{get_elem?}
use Rattle.std.proofs.lemmas.Bool.{cond-true, cond-false}
use Rattle.wbt_table.proofs.Common.{Setting, State, opening, Step, Allowed, after, is_by_timer, maker_of, Logs, HasLog, put_log, LogChanges, Made, Past, state_after, logged, log_of, timer_log_of, LogsGrant}
use Rattle.wbt_grant.specs.Kinds.{AreAllowed, run}
use Rattle.wbt_table.specs.declared.rule.Granted.{Granted}
use Rattle.wbt_table.specs.declared.rule.Logged.{Logged}
use Rattle.wbt_table.specs.History.{AreMade, steps_of}

module _ (set' : Setting) (made : Made) (past : Past) where
  -- of a CPU
  module _ (by : is_by_timer made.step ≡ false) where
    is_ones : (d : ℕ) (b : _) → eqb (maker_of set' made.step) d ≡ b → (not (is_by_timer made.step) && eqb (maker_of set' made.step) d) ≡ b
    is_ones d b e = λ i. not (by i) && e i

    pub in_own : log_of set' (maker_of set' made.step) (made ∷ past) ≡ logged (length past) made ∷ log_of set' (maker_of set' made.step) past
    in_own = let c : ℕ = maker_of set' made.step in let older : List Logged = log_of set' c past in
        cond-true (not (is_by_timer made.step) && eqb c c) (logged (length past) made ∷ older) older (is_ones c true (eq-eqb c c refl))

    pub in_no_other : (d : ℕ) → d ≢ maker_of set' made.step → log_of set' d (made ∷ past) ≡ log_of set' d past
    in_no_other d ne = let older : List Logged = log_of set' d past in
        cond-false (not (is_by_timer made.step) && eqb (maker_of set' made.step) d) (logged (length past) made ∷ older) older
        (is_ones d false (ne_eqb (maker_of set' made.step) d (λ e. ne (sym e))))

    pub in_no_timers : timer_log_of (made ∷ past) ≡ timer_log_of past
    in_no_timers = cond-false (is_by_timer made.step) (logged (length past) made ∷ timer_log_of past) (timer_log_of past) by

  -- of the timer
  module _ (by : is_by_timer made.step ≡ true) where
    pub in_timers : timer_log_of (made ∷ past) ≡ logged (length past) made ∷ timer_log_of past
    in_timers = cond-true (is_by_timer made.step) (logged (length past) made ∷ timer_log_of past) (timer_log_of past) by

    pub in_no_cpus : (d : ℕ) → log_of set' d (made ∷ past) ≡ log_of set' d past
    in_no_cpus d = let older : List Logged = log_of set' d past in
        cond-false (not (is_by_timer made.step) && eqb (maker_of set' made.step) d) (logged (length past) made ∷ older) older
        (λ i. not (by i) && eqb (maker_of set' made.step) d)

-- the log of a CPU becomes another, and no other does
pub put_log_cases : (c d : ℕ) (log now : List Logged) (logs : Logs) → HasLog (put_log c log logs) d now
    → ((d ≡ c) × (log ≡ now) × ((old : List Logged) × HasLog logs c old)) ⊎ ((d ≢ c) × HasLog logs d now)
put_log_cases c d log now [] has = absurd (some-ne-none (Some now) (sym has))
put_log_cases zero zero log now (None ∷ logs) has = let e : None ≡ Some now = some-injective None (Some now) has in absurd (cc e)
put_log_cases zero zero log now (Some x ∷ logs) has = let e : Some log ≡ Some now = some-injective (Some log) (Some now) has in inl (refl, cc e, (x, refl))
put_log_cases zero (suc d) log now (None ∷ logs) has = inr ((λ e. omega arith), has)
put_log_cases zero (suc d) log now (Some x ∷ logs) has = inr ((λ e. omega arith), has)
put_log_cases (suc c) zero log now (x ∷ logs) has = inr ((λ e. omega arith), has)
put_log_cases (suc c) (suc d) log now (x ∷ logs) has = ⊎_elim
    (λ t. inl (ap suc t.0, t.1, t.2))
    (λ t. let n = t.0 in inr ((λ e. n (omega arith)), t.1))
    (put_log_cases c d log now logs has)

pub put_log_here : (c : ℕ) (log old : List Logged) (logs : Logs) → HasLog logs c old → HasLog (put_log c log logs) c log
put_log_here c log old [] has = absurd (some-ne-none (Some old) (sym has))
put_log_here zero log old (None ∷ logs) has = let e : None ≡ Some old = some-injective None (Some old) has in absurd (cc e)
put_log_here zero log old (Some x ∷ logs) has = refl
put_log_here (suc c) log old (x ∷ logs) has = put_log_here c log old logs has

pub put_log_else : (c d : ℕ) (log : List Logged) (logs : Logs) → d ≢ c → get_elem? (put_log c log logs) d ≡ get_elem? logs d
put_log_else c d log [] ne = refl
put_log_else zero zero log (x ∷ logs) ne = absurd (ne refl)
put_log_else zero (suc d) log (None ∷ logs) ne = refl
put_log_else zero (suc d) log (Some x ∷ logs) ne = refl
put_log_else (suc c) zero log (x ∷ logs) ne = refl
put_log_else (suc c) (suc d) log (x ∷ logs) ne = put_log_else c d log logs (λ e. ne (ap suc e))

pub put_log_twice : (c : ℕ) (first second : List Logged) (logs : Logs) → put_log c second (put_log c first logs) ≡ put_log c second logs
put_log_twice c first second [] = refl
put_log_twice zero first second (None ∷ logs) = refl
put_log_twice zero first second (Some x ∷ logs) = refl
put_log_twice (suc c) first second (x ∷ logs) = ap (λ (l : Logs). x ∷ l) (put_log_twice c first second logs)

-- a log that is put where it is
pub put_itself : (c : ℕ) (logs : Logs) → (log : List Logged) × (logs ≡ put_log c log logs) × ((old : List Logged) → HasLog logs c old → log ≡ old)
put_itself c [] = ([], refl, (λ old has. absurd (some-ne-none (Some old) (sym has))))
put_itself zero (None ∷ logs) = ([], refl, (λ old has. let e : None ≡ Some old = some-injective None (Some old) has in absurd (cc e)))
put_itself zero (Some x ∷ logs) = (x, refl, (λ old has. let e : Some x ≡ Some old = some-injective (Some x) (Some old) has in cc e))
put_itself (suc c) (x ∷ logs) = let t = put_itself c logs in (t.0, ap (λ (l : Logs). x ∷ l) t.1, t.2)

-- all that was made, the first first, leads to the same state
pub run_append : (set' : Setting) (xs ys : List Step) (s : State) → run set' (xs ++ ys) s ≡ run set' ys (run set' xs s)
run_append set' [] ys s = refl
run_append set' (x ∷ xs) ys s = run_append set' xs ys (after set' x s)

pub allowed_append : (set' : Setting) (xs ys : List Step) (s : State) → AreAllowed set' xs s → AreAllowed set' ys (run set' xs s) → AreAllowed set' (xs ++ ys) s
allowed_append set' [] ys s a b = b
allowed_append set' (x ∷ xs) ys s a b = (a.0, allowed_append set' xs ys (after set' x s) a.1 b)

pub runs_to : (set' : Setting) (past : Past) → run set' (steps_of past) (opening set') ≡ state_after set' past
runs_to set' [] = refl
runs_to set' (made ∷ older) = run_append set' (steps_of older) (made.step ∷ []) (opening set') ∙ ap (after set' made.step) (runs_to set' older)

pub are_allowed : (set' : Setting) (past : Past) → AreMade set' past → AreAllowed set' (steps_of past) (opening set')
are_allowed set' [] made = tt
are_allowed set' (one ∷ older) made = allowed_append set' (steps_of older) (one.step ∷ []) (opening set') (are_allowed set' older made.2)
    (subst (Allowed set' one.step) (sym (runs_to set' older)) made.0, tt)

-- the logs of the first n CPUs have the grants that were given at last
pub record GivenTo (n : ℕ) (old now : Logs) : Type 0 where
  pub given : (c : ℕ) (log : List Logged) → HasLog old c log → (now_log : List Logged) × HasLog now c now_log × ((g : Option Granted) × LogsGrant g log now_log)
  pub yet : (c : ℕ) → n ≤ c → get_elem? now c ≡ get_elem? old c

pub none_given_yet : (old : Logs) → GivenTo 0 old old
none_given_yet old = record { given = λ c log has. (log, has, (None, (0, refl))); yet = λ c more. refl }

pub one_given : (n : ℕ) (grants : Option Granted) (old now next : Logs) → GivenTo n old now → LogChanges n (LogsGrant grants) now next → GivenTo (n + 1) old next
one_given n grants old now next to change = record {
  given = λ c log has. dite (ℕ_discrete c n)
      (λ e. let here : HasLog old n log = subst (λ (i : ℕ). HasLog old i log) e has in
      let then_ : HasLog now n log = to.yet n (omega arith) ∙ here in (
        change.0,
        subst (λ (z : Logs × ℕ). HasLog z.0 z.1 change.0) (λ i. (sym change.1 i, sym e i)) (put_log_here n change.0 log now then_),
        (grants, change.2 log then_),
      ))
      (λ ne. let t = to.given c log has in (t.0, subst (λ (l : Logs). HasLog l c t.0) (sym change.1) (put_log_else n c change.0 now ne ∙ t.1), t.2));
  yet = λ c more. ap (λ (l : Logs). get_elem? l c) change.1 ∙ put_log_else n c change.0 now (λ e. omega arith) ∙ to.yet c (omega arith);
}

pub none_given_now : (n : ℕ) (old now : Logs) → GivenTo n old now → GivenTo (n + 1) old now
none_given_now n old now to = record { given = to.given; yet = λ c more. to.yet c (omega arith) }
