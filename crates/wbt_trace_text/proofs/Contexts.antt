-- Contexts, and after how long their inodes are due.
use Rattle.std.proofs.Common.{◌≡◌, ℕ, zero, suc, Some, None, List, [], ◌∷◌, ◌++◌, length, refl, sym, ap}
use Rattle.wbt_trace.specs.Sofar.{context_at, with_expire, with_estimate}
use Rattle.wbt_trace.specs.declared.trace.Context.{Context}
use Rattle.wbt_trace.specs.declared.trace.FirstEstimate.{FirstEstimate}

pub same_length : (w centi : ℕ) (contexts : List Context) → length (with_expire w centi contexts) ≡ length contexts
same_length w centi [] = refl
same_length zero centi (x ∷ xs) = refl
same_length (suc w) centi (x ∷ xs) = ap suc (same_length w centi xs)

pub estimate_length : (w : ℕ) (estimate : FirstEstimate) (contexts : List Context) → length (with_estimate w estimate contexts) ≡ length contexts
estimate_length w estimate [] = refl
estimate_length zero estimate (x ∷ xs) = refl
estimate_length (suc w) estimate (x ∷ xs) = ap suc (estimate_length w estimate xs)

-- a context as its own line says it, and as that and the line of when its inodes are due say it
abbrev pub plain : Context → Context
plain c = record c { expire = None; estimate = None }

abbrev pub unestimated : Context → Context
unestimated c = record c { estimate = None }

pub plain_is : (x : Context) → x.expire ≡ None → plain x ≡ unestimated x
plain_is x is = λ i. record x { expire = sym is i; estimate = None }

pub unestimated_is : (x : Context) → x.estimate ≡ None → unestimated x ≡ x
unestimated_is x is = λ i. record x { estimate = sym is i }

pub at_front : (front : List Context) (x : Context) (more : List Context) → context_at (length front) (front ++ x ∷ more) ≡ x
at_front [] x more = refl
at_front (y ∷ front) x more = at_front front x more

-- the line of when its inodes are due makes it what it was
pub made_due : (front : List Context) (x : Context) (more : List Context) (centi : ℕ) → x.expire ≡ Some centi → with_expire (length front) centi (front ++ plain x ∷ more) ≡ front ++ unestimated x ∷ more
made_due [] x more centi is = λ i. record x { expire = sym is i; estimate = None } ∷ more
made_due (y ∷ front) x more centi is = ap (λ (l : List Context). y ∷ l) (made_due front x more centi is)

-- and the line of its first estimate
pub made_estimate : (front : List Context) (x : Context) (more : List Context) (estimate : FirstEstimate) → x.estimate ≡ Some estimate → with_estimate (length front) estimate (front ++ unestimated x ∷ more) ≡ front ++ x ∷ more
made_estimate [] x more estimate is = λ i. record x { estimate = sym is i } ∷ more
made_estimate (y ∷ front) x more estimate is = ap (λ (l : List Context). y ∷ l) (made_estimate front x more estimate is)
