-- A CPU's flushers, of which one changes.
use Rattle.std.proofs.Common.{◌≡◌, ◌≢◌, ◌⊎◌, inl, inr, ⊎_elim, ℕ, zero, suc, ◌+◌, ◌-◌, ◌<◌, ◌≤◌, Bool, true, false, ◌==◌, if◌then◌else◌, List, [], ◌∷◌, length, set, get_or, Option, Some, None, refl, sym, ap, ◌∙◌, subst, arith, eq-eqb, ne_eqb}
use Rattle.std.proofs.lemmas.List.Sums.{sum_by-set}
use Rattle.wbt_run_worker.proofs.Common.{shown_by, FlusherPlan, HasRisen, HasRisenBy, Grows, Each, ShownFlusher, Seen, AnyOf, AreApart, both_told, failed_in, flusher_at, written_by, AreStill, IsFaulted, IsStill}
use Rattle.wbt_flusher.specs.Turns.{FaultsRise}
use Rattle.wbt_run_worker.specs.Went.{AnyFaulted}
use Rattle.wbt_run_worker.proofs.Lists.{each_at, each_set}

-- ---- where they stand

abbrev pub stand_at : (p : Seen) → ShownFlusher
stand_at p = shown_by p.work

pub chosen : (b : Bool) (p q : ShownFlusher) → b ≡ true → (if b then p else q) ≡ p
chosen b p q e = ap (λ (c : Bool). if c then p else q) e

pub other : (b : Bool) (p q : ShownFlusher) → b ≡ false → (if b then p else q) ≡ q
other b p q e = ap (λ (c : Bool). if c then p else q) e

pub flushers_own : (xs : List Seen) (k : ℕ) (d : Seen) → k < length xs → AreApart xs → flusher_at xs (get_or xs k d).plan.flusher ≡ stand_at (get_or xs k d)
flushers_own [] k d less apart = absurd (omega arith)
flushers_own (x ∷ xs) zero d less apart = chosen (x.plan.flusher == x.plan.flusher) (stand_at x) (flusher_at xs x.plan.flusher) (eq-eqb x.plan.flusher x.plan.flusher refl)
flushers_own (x ∷ xs) (suc k) d less apart =
    let there : k < length xs = omega arith in
    let ne = each_at (λ (q : Seen). q.plan.flusher ≢ x.plan.flusher) xs k d there apart.0 in
    let n = (get_or xs k d).plan.flusher in
    other (n == x.plan.flusher) (stand_at x) (flusher_at xs n) (ne_eqb n x.plan.flusher ne) ∙ flushers_own xs k d there apart.1

pub flushers_other : (xs : List Seen) (k : ℕ) (d q : Seen) (g : ℕ) → q.plan ≡ (get_or xs k d).plan → g ≢ (get_or xs k d).plan.flusher → flusher_at (set xs k q) g ≡ flusher_at xs g
flushers_other [] k d q g same ne = refl
flushers_other (x ∷ xs) zero d q g same ne =
    let ne' : g ≢ q.plan.flusher = λ e. ne (e ∙ ap (λ p. p.flusher) same) in
    other (g == q.plan.flusher) (stand_at q) (flusher_at xs g) (ne_eqb g q.plan.flusher ne')
    ∙ sym (other (g == x.plan.flusher) (stand_at x) (flusher_at xs g) (ne_eqb g x.plan.flusher ne))
flushers_other (x ∷ xs) (suc k) d q g same ne =
    ap (λ (rest : ShownFlusher). if g == x.plan.flusher then stand_at x else rest) (flushers_other xs k d q g same ne)

pub apart_set : (xs : List Seen) (k : ℕ) (d q : Seen) → k < length xs → q.plan ≡ (get_or xs k d).plan → AreApart xs → AreApart (set xs k q)
apart_set [] k d q less same apart = tt
apart_set (x ∷ xs) zero d q less same apart =
    (subst (λ (n : ℕ). Each (λ (r : Seen). r.plan.flusher ≢ n) xs) (sym (ap (λ p. p.flusher) same)) apart.0, apart.1)
apart_set (x ∷ xs) (suc k) d q less same apart =
    let there : k < length xs = omega arith in
    let was = each_at (λ (r : Seen). r.plan.flusher ≢ x.plan.flusher) xs k d there apart.0 in
    (each_set (λ (r : Seen). r.plan.flusher ≢ x.plan.flusher) xs k q apart.0 (λ e. was (sym (ap (λ p. p.flusher) same) ∙ e)), apart_set xs k d q there same apart.1)

-- ---- one of them

pub any_here : (P : Seen → Type 0) (xs : List Seen) (k : ℕ) (q : Seen) → k < length xs → P q → AnyOf P (set xs k q)
any_here P [] k q less one = absurd (omega arith)
any_here P (x ∷ xs) zero q less one = inl one
any_here P (x ∷ xs) (suc k) q less one = inr (any_here P xs k q (omega arith) one)

-- one that was such still is, or it is the one that changed
pub any_still : (P : Seen → Type 0) (xs : List Seen) (k : ℕ) (d q : Seen) → AnyOf P xs → AnyOf P (set xs k q) ⊎ P (get_or xs k d)
any_still P [] k d q any = absurd any
any_still P (x ∷ xs) zero d q any = ⊎_elim (λ (here : P x). inr here) (λ (there : AnyOf P xs). inl (inr there)) any
any_still P (x ∷ xs) (suc k) d q any =
    ⊎_elim (λ (here : P x). inl (inl here))
    (λ (there : AnyOf P xs). ⊎_elim (λ (more : AnyOf P (set xs k q)). inl (inr more)) (λ (it : P (get_or xs k d)). inr it) (any_still P xs k d q there)) any

-- ---- plans and faults

-- a count has risen by what was counted, in one turn or in more
risen_by_none : (n a : ℕ) → HasRisenBy (n - n) a a
risen_by_none n a = omega arith

risen_by_both : (m n o a b c : ℕ) → m ≤ n → n ≤ o → HasRisenBy (n - m) a b → HasRisenBy (o - n) b c → HasRisenBy (o - m) a c
risen_by_both m n o a b c less more first next = omega (arith, less, more, first, next)

risen_by_one : (was is a b : ℕ) → FaultsRise was is a b → a ≤ b → (was ≤ is) × HasRisenBy (is - was) a b
risen_by_one was is a b counted later = ⊎_elim
    (λ (same : is ≡ was). (omega (arith, same), omega (arith, same, later)))
    (λ (one : (is ≡ was + 1) × HasRisen a b). (omega (arith, one.0), omega (arith, one.0, one.1))) counted

-- a flusher's counts after a turn: of its disk, and its own
pub record IsLater (d q : Seen) : Type 0 where
  pub faults : d.faults ≤ q.faults
  pub counted : FaultsRise d.work.faults q.work.faults d.faults q.faults

pub later_now : (x : Seen) → IsLater x x
later_now x = record { faults = omega arith; counted = inl refl }

still_now : (x : Seen) → IsStill x x
still_now x = record { plan = refl; faults = omega arith; failed = omega arith; risen = risen_by_none x.work.faults x.faults }

pub still_by : (d q : Seen) → q.plan ≡ d.plan → IsLater d q → IsStill d q
still_by d q same later =
    let both = risen_by_one d.work.faults q.work.faults d.faults q.faults later.counted later.faults in
    record { plan = same; faults = later.faults; failed = both.0; risen = both.1 }

pub still_same : (xs : List Seen) → AreStill xs xs
still_same [] = tt
still_same (x ∷ xs) = (still_now x, still_same xs)

pub still_set : (xs : List Seen) (k : ℕ) (d q : Seen) → IsStill (get_or xs k d) q → AreStill xs (set xs k q)
still_set [] k d q one = tt
still_set (x ∷ xs) zero d q one = (one, still_same xs)
still_set (x ∷ xs) (suc k) d q one = (still_now x, still_set xs k d q one)

pub still_more : (xs ys zs : List Seen) → AreStill xs ys → AreStill ys zs → AreStill xs zs
still_more [] [] [] a b = tt
still_more [] [] (z ∷ zs) a b = absurd b
still_more [] (y ∷ ys) zs a b = absurd a
still_more (x ∷ xs) [] zs a b = absurd a
still_more (x ∷ xs) (y ∷ ys) [] a b = absurd b
still_more (x ∷ xs) (y ∷ ys) (z ∷ zs) a b = (
  record {
    plan = b.0.plan ∙ a.0.plan;
    faults = let f = a.0.faults in let g = b.0.faults in omega arith;
    failed = let f = a.0.failed in let g = b.0.failed in omega arith;
    risen = risen_by_both x.work.faults y.work.faults z.work.faults x.faults y.faults z.faults a.0.failed b.0.failed a.0.risen b.0.risen;
  },
  still_more xs ys zs a.1 b.1,
)

-- a disk that counted as many faults as its flusher failures does so still
pub counted_on : (was is a b : ℕ) → FaultsRise was is a b → a ≤ b → HasRisenBy was 0 a → HasRisenBy is 0 b
counted_on was is a b counted later before = ⊎_elim
    (λ (same : is ≡ was). omega (arith, same, later, before))
    (λ (one : (is ≡ was + 1) × HasRisen a b). omega (arith, one.0, one.1, before)) counted

-- ---- what they count of failures

pub failed_set : (by : ℕ) (xs : List Seen) (k : ℕ) (d q : Seen) → k < length xs → q.work.faults ≡ (get_or xs k d).work.faults + by
    → failed_in (set xs k q) ≡ failed_in xs + by
failed_set by xs k d q less more =
    let sums = sum_by-set (λ (p : Seen). p.work.faults) xs k q d less in
    omega (arith, sums, more)

pub faulted_here : (xs : List Seen) (k : ℕ) (d q : Seen) → k < length xs → IsFaulted (get_or xs k d) q → AnyFaulted xs (set xs k q)
faulted_here [] k d q less one = absurd (omega arith)
faulted_here (x ∷ xs) zero d q less one = inl one
faulted_here (x ∷ xs) (suc k) d q less one = inr (faulted_here xs k d q (omega arith) one)

risen_since : (a b c : ℕ) → a ≤ b → HasRisen b c → HasRisen a c
risen_since a b c less risen = omega arith

-- it rose since any earlier moment too
pub faulted_since : (xs ys zs : List Seen) → AreStill xs ys → AnyFaulted ys zs → AnyFaulted xs zs
faulted_since [] [] zs a b = absurd b
faulted_since [] (y ∷ ys) zs a b = absurd a
faulted_since (x ∷ xs) [] zs a b = absurd b
faulted_since (x ∷ xs) (y ∷ ys) [] a b = absurd b
faulted_since (x ∷ xs) (y ∷ ys) (z ∷ zs) a b =
    ⊎_elim (λ (it : IsFaulted y z). inl (record { risen = risen_since x.faults y.faults z.faults a.0.faults it.risen; failed = it.failed; eighth = it.eighth }))
    (λ (more : AnyFaulted ys zs). inr (faulted_since xs ys zs a.1 more)) b

-- ---- pages written

pub grows_left : (by a b c : Option ℕ) → Grows by a b → Grows by (both_told a c) (both_told b c)
grows_left by a None c grows = tt
grows_left by a (Some t) None grows = tt
grows_left by a (Some t) (Some r) grows =
    (grows.0, grows.1 + r, grows.2, ap (λ (o : Option ℕ). both_told o (Some r)) grows.3, let e = grows.4 in omega arith)

pub grows_right : (by a b c : Option ℕ) → Grows by a b → Grows by (both_told c a) (both_told c b)
grows_right by a b None grows = tt
grows_right by a None (Some r) grows = tt
grows_right by a (Some t) (Some r) grows =
    (grows.0, r + grows.1, grows.2, ap (λ (o : Option ℕ). both_told (Some r) o) grows.3, let e = grows.4 in omega arith)

pub grows_nothing : (a : Option ℕ) → Grows (Some 0) a a
grows_nothing None = tt
grows_nothing (Some t) = (0, t, refl, refl, omega arith)

pub grows_more : (m n : ℕ) (a b c : Option ℕ) → Grows (Some m) a b → Grows (Some n) b c → Grows (Some (m + n)) a c
grows_more m n a b None one two = tt
grows_more m n a b (Some t) one two =
    let first = subst (λ (o : Option ℕ). Grows (Some m) a o) two.3 one in
    let em : Some m ≡ Some first.0 = first.2 in
    let en : Some n ≡ Some two.0 = two.2 in
    let m_is : m ≡ first.0 = cc in
    let n_is : n ≡ two.0 = cc in
    (m + n, first.1, refl, first.3, let e = first.4 in let f = two.4 in omega arith)

pub written_set : (by : Option ℕ) (xs : List Seen) (k : ℕ) (d q : Seen) → k < length xs → Grows by (get_or xs k d).written q.written
    → Grows by (written_by xs) (written_by (set xs k q))
written_set by [] k d q less grows = absurd (omega arith)
written_set by (x ∷ xs) zero d q less grows = grows_left by x.written q.written (written_by xs) grows
written_set by (x ∷ xs) (suc k) d q less grows =
    grows_right by (written_by xs) (written_by (set xs k q)) x.written (written_set by xs k d q (omega arith) grows)

-- ---- where they stand, of which one changes

pub flushers_now : (xs : List Seen) (k : ℕ) (d q : Seen) → k < length xs → q.plan ≡ (get_or xs k d).plan → AreApart xs
    → flusher_at (set xs k q) (get_or xs k d).plan.flusher ≡ stand_at q
flushers_now [] k d q less same apart = absurd (omega arith)
flushers_now (x ∷ xs) zero d q less same apart =
    chosen (x.plan.flusher == q.plan.flusher) (stand_at q) (flusher_at xs x.plan.flusher) (eq-eqb x.plan.flusher q.plan.flusher (sym (ap (λ p. p.flusher) same)))
flushers_now (x ∷ xs) (suc k) d q less same apart =
    let there : k < length xs = omega arith in
    let ne = each_at (λ (r : Seen). r.plan.flusher ≢ x.plan.flusher) xs k d there apart.0 in
    let n = (get_or xs k d).plan.flusher in
    other (n == x.plan.flusher) (stand_at x) (flusher_at (set xs k q) n) (ne_eqb n x.plan.flusher ne) ∙ flushers_now xs k d q there same apart.1

-- one that stands where it stood
pub flushers_same : (xs : List Seen) (k : ℕ) (d q : Seen) (g : ℕ) → q.plan ≡ (get_or xs k d).plan → stand_at q ≡ stand_at (get_or xs k d)
    → flusher_at (set xs k q) g ≡ flusher_at xs g
flushers_same [] k d q g same stands = refl
flushers_same (x ∷ xs) zero d q g same stands =
    ap (λ (p : ShownFlusher). if g == q.plan.flusher then p else flusher_at xs g) stands
    ∙ ap (λ (plan : FlusherPlan). if g == plan.flusher then stand_at x else flusher_at xs g) same
flushers_same (x ∷ xs) (suc k) d q g same stands =
    ap (λ (rest : ShownFlusher). if g == x.plan.flusher then stand_at x else rest) (flushers_same xs k d q g same stands)
