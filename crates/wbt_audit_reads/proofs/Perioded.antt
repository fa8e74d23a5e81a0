-- The periods that each domain has had, line by line; they rise, so that a search finds each.
use Rattle.std.proofs.Common.{◌≡◌, ℕ, zero, suc, ◌+◌, ◌-◌, ◌<◌, ◌≤◌, Bool, true, false, ◌==◌, ◌||◌, if◌then◌else◌, Option, Some, None, Result, Ok, Err, is_ok, List, [], ◌∷◌, ◌++◌, length, get_or, replicate, take, refl, ap, sym, ◌∙◌, arith, tests, ◌⊎◌, inl, inr, append-nil}
use Rattle.std.specs.List.{list_any}
use Rattle.std.proofs.lemmas.Bool.{cases_eq, cases_lt}
use Rattle.std.specs.Result.{MatchResult}
use Rattle.std.proofs.lemmas.List.{get_or-replicate, length-set, take_more}
use Rattle.wbt_audit_walk.proofs.Common.{periods_from, TimerEntry, below, row_of}
use Rattle.wbt_journal.specs.declared.timer.TimerEntry.TheVariants as timer
use Rattle.wbt_audit_reads.specs.Periods.{ArePeriods, IsRising, last_in, period_more_at, one_period_more}
use Rattle.wbt_audit_walk.specs.declared.places.Places.{Places}
use Rattle.wbt_audit_walk.proofs.Placing.{numbers_apart, below_is}
use Rattle.wbt_audit_walk.proofs.Rowing.{row-set_same, row-set_other}

is_eq : (p q : ℕ) → p ≡ q → (p == q) ≡ true
is_eq p q e = grind (arith, tests, e)

is_apart : (p q : ℕ) → (p ≡ q → ⊥) → (p == q) ≡ false
is_apart p q e = grind (arith, tests, e)

-- ---- a search

or_right : (a b : Bool) → b ≡ true → (a || b) ≡ true
or_right true b is = refl
or_right false b is = is

any_at : (x : ℕ) (xs : List ℕ) (i : ℕ) → i < length xs → get_or xs i 0 ≡ x → list_any (λ y. y == x) xs ≡ true
any_at x [] i lt is = absurd (omega (arith, lt))
any_at x (y ∷ xs) zero lt is = ap (λ b. b || list_any (λ z. z == x) xs) (is_eq y x is)
any_at x (y ∷ xs) (suc i) lt is = or_right (y == x) (list_any (λ z. z == x) xs) (any_at x xs i (omega (arith, lt)) is)

none_at : (x : ℕ) (xs : List ℕ) → ((k : ℕ) → k < length xs → get_or xs k 0 ≡ x → ⊥) → list_any (λ y. y == x) xs ≡ false
none_at x [] never = refl
none_at x (y ∷ xs) never =
    ap (λ b. b || list_any (λ z. z == x) xs) (is_apart y x (never 0 (omega arith)))
    ∙ none_at x xs (λ k lt is. never (suc k) (omega (arith, lt)) is)

outside : (x : ℕ) (xs : List ℕ) (i k : ℕ) → ((k : ℕ) → k < i → get_or xs k 0 < x) → ((k : ℕ) → i ≤ k → k < length xs → x < get_or xs k 0)
    → (k < i) ⊎ (i ≤ k) → k < length xs → get_or xs k 0 ≡ x → ⊥
outside x xs i k lower upper (inl lt) within is = let l = lower k lt in omega (arith, l, is)
outside x xs i k lower upper (inr le) within is = let u = upper k le within in omega (arith, u, is)

pub found_is : (x : ℕ) (xs : List ℕ) (r : Result ℕ ℕ)
    → MatchResult r (λ i. (i < length xs) × (get_or xs i 0 ≡ x)) (λ i. (i ≤ length xs) × ((k : ℕ) → k < i → get_or xs k 0 < x) × ((k : ℕ) → i ≤ k → k < length xs → x < get_or xs k 0))
    → is_ok r ≡ list_any (λ y. y == x) xs
found_is x xs (Ok i) found = sym (any_at x xs i found.0 found.1)
found_is x xs (Err i) found = sym (none_at x xs (λ k lt is. outside x xs i k found.1 found.2 (cases_lt k i) lt is))

-- ---- periods rise

-- what a period line leaves
abbrev go_on : (domain period k : ℕ) (more : List TimerEntry) (b : Bool) → List ℕ
go_on domain period k more b = if b then period ∷ periods_from domain (period + k) more else periods_from domain period more

abbrev AllFrom : (least : ℕ) (periods : List ℕ) → Type 0
AllFrom least periods = (i : ℕ) → i < length periods → least ≤ get_or periods i 0

least_by : (domain period k : ℕ) (more : List TimerEntry) (b : Bool) → AllFrom period (periods_from domain period more) → AllFrom (period + k) (periods_from domain (period + k) more)
    → AllFrom period (go_on domain period k more b)
least_by domain period k more true one two zero lt = omega arith
least_by domain period k more true one two (suc i) lt = let later = two i (omega (arith, lt)) in omega (arith, later)
least_by domain period k more false one two i lt = one i lt

from_least : (domain period : ℕ) (entries : List TimerEntry) → AllFrom period (periods_from domain period entries)
from_least domain period [] zero lt = omega arith
from_least domain period [] (suc i) lt = absurd (omega (arith, lt))
from_least domain period (timer.Limits of now limits ∷ more) i lt = from_least domain period more i lt
from_least domain period (timer.Period of k ∷ more) i lt =
    least_by domain period k more (of == domain) (from_least domain period more) (from_least domain (period + k) more) i lt

rise_by : (domain period k : ℕ) (more : List TimerEntry) (b : Bool) → IsRising (periods_from domain period more) → IsRising (periods_from domain (period + k) more)
    → AllFrom (period + k) (periods_from domain (period + k) more) → IsRising (go_on domain period k more b)
rise_by domain period k more true one two least zero zero le lt = omega arith
rise_by domain period k more true one two least zero (suc j) le lt = let later = least j (omega (arith, lt)) in omega (arith, later)
rise_by domain period k more true one two least (suc i) zero le lt = absurd (omega (arith, le))
rise_by domain period k more true one two least (suc i) (suc j) le lt = two i j (omega (arith, le)) (omega (arith, lt))
rise_by domain period k more false one two least i j le lt = one i j le lt

one_rises : (period : ℕ) → IsRising (period ∷ [])
one_rises period zero zero le lt = omega arith
one_rises period zero (suc j) le lt = absurd (omega (arith, lt))
one_rises period (suc i) zero le lt = absurd (omega (arith, le))
one_rises period (suc i) (suc j) le lt = absurd (omega (arith, lt))

pub rising : (domain period : ℕ) (entries : List TimerEntry) → IsRising (periods_from domain period entries)
rising domain period [] = one_rises period
rising domain period (timer.Limits of now limits ∷ more) = rising domain period more
rising domain period (timer.Period of k ∷ more) =
    rise_by domain period k more (of == domain) (rising domain period more) (rising domain (period + k) more) (from_least domain (period + k) more)

-- ---- a period more

any_by : (domain period k : ℕ) (more : List TimerEntry) (b : Bool) → 1 ≤ length (periods_from domain period more) → 1 ≤ length (go_on domain period k more b)
any_by domain period k more true one = omega arith
any_by domain period k more false one = one

any_of : (domain period : ℕ) (entries : List TimerEntry) → 1 ≤ length (periods_from domain period entries)
any_of domain period [] = omega arith
any_of domain period (timer.Limits of now limits ∷ more) = any_of domain period more
any_of domain period (timer.Period of k ∷ more) = any_by domain period k more (of == domain) (any_of domain period more)

more_of : (domain : ℕ) (entry : TimerEntry) (last : ℕ) → List ℕ
more_of domain (timer.Limits of now limits) last = []
more_of domain (timer.Period of k) last = if of == domain then (last + k) ∷ [] else []

last_cons : (x : ℕ) (xs : List ℕ) → 1 ≤ length xs → last_in (x ∷ xs) ≡ last_in xs
last_cons x [] some = absurd (omega (arith, some))
last_cons x (y ∷ ys) some =
    let here : suc (suc (length ys)) - 1 ≡ suc (length ys) = omega arith in
    let there : length ys ≡ suc (length ys) - 1 = omega arith in
    ap (λ n. get_or (x ∷ y ∷ ys) n 0) here ∙ ap (λ n. get_or (y ∷ ys) n 0) there

first_more : (domain period k : ℕ) (b : Bool)
    → (if b then period ∷ periods_from domain (period + k) [] else periods_from domain period []) ≡ (period ∷ []) ++ (if b then (period + k) ∷ [] else [])
first_more domain period k true = refl
first_more domain period k false = refl

more_by : (domain period k : ℕ) (xs : List TimerEntry) (entry : TimerEntry) (b : Bool)
    → periods_from domain period (xs ++ entry ∷ []) ≡ periods_from domain period xs ++ more_of domain entry (last_in (periods_from domain period xs))
    → periods_from domain (period + k) (xs ++ entry ∷ []) ≡ periods_from domain (period + k) xs ++ more_of domain entry (last_in (periods_from domain (period + k) xs))
    → go_on domain period k (xs ++ entry ∷ []) b ≡ go_on domain period k xs b ++ more_of domain entry (last_in (go_on domain period k xs b))
more_by domain period k xs entry true one two =
    ap (λ ps. period ∷ ps) two
    ∙ ap (λ l. period ∷ (periods_from domain (period + k) xs ++ more_of domain entry l)) (sym (last_cons period (periods_from domain (period + k) xs) (any_of domain (period + k) xs)))
more_by domain period k xs entry false one two = one

periods_more : (domain period : ℕ) (xs : List TimerEntry) (entry : TimerEntry)
    → periods_from domain period (xs ++ entry ∷ []) ≡ periods_from domain period xs ++ more_of domain entry (last_in (periods_from domain period xs))
unfolding more_of
periods_more domain period [] (timer.Limits of now limits) = refl
periods_more domain period [] (timer.Period of k) = first_more domain period k (of == domain)
periods_more domain period (timer.Limits of now limits ∷ xs) entry = periods_more domain period xs entry
periods_more domain period (timer.Period of k ∷ xs) entry =
    more_by domain period k xs entry (of == domain) (periods_more domain period xs entry) (periods_more domain (period + k) xs entry)

module _ (places : Places) where
  pub periods_first : ArePeriods places [] (replicate places.domains (0 ∷ []))
  periods_first domain p is = get_or-replicate {A = List ℕ} places.domains p (0 ∷ []) [] ((numbers_apart places.domains).within domain p is)

  at_place : (periods : List (List ℕ)) (front : List ℕ) (of k domain p q : ℕ) → length periods ≡ places.domains
      → below places.domains domain ≡ Some p → below places.domains of ≡ Some q → row_of periods p ≡ front → (p ≡ q) ⊎ (p ≡ q → ⊥)
      → row_of (period_more_at (Some q) k periods) p ≡ front ++ more_of domain (timer.Period of k) (last_in front)
  unfolding more_of
  at_place periods front of k domain p q room there here is (inl e) =
      ap (row_of (period_more_at (Some q) k periods)) e
      ∙ row-set_same periods q (row_of periods q ++ (last_in (row_of periods q) + k) ∷ []) (rw room ((numbers_apart places.domains).within of q here))
      ∙ ap (λ r. r ++ (last_in r + k) ∷ []) (ap (row_of periods) (sym e) ∙ is)
      ∙ ap (λ b. front ++ (if b then (last_in front + k) ∷ [] else []))
      (sym (is_eq of domain ((below_is places.domains of q here).0 ∙ sym e ∙ sym (below_is places.domains domain p there).0)))
  at_place periods front of k domain p q room there here is (inr apart) =
      row-set_other periods q p (row_of periods q ++ (last_in (row_of periods q) + k) ∷ []) apart
      ∙ is
      ∙ sym (append-nil front)
      ∙ ap (λ b. front ++ (if b then (last_in front + k) ∷ [] else []))
      (sym (is_apart of domain (λ e. apart (sym (below_is places.domains domain p there).0 ∙ sym e ∙ (below_is places.domains of q here).0))))

  by_place : (periods : List (List ℕ)) (front : List ℕ) (of k domain p : ℕ) (place : Option ℕ) → length periods ≡ places.domains
      → below places.domains domain ≡ Some p → below places.domains of ≡ place → row_of periods p ≡ front
      → row_of (period_more_at place k periods) p ≡ front ++ more_of domain (timer.Period of k) (last_in front)
  unfolding more_of
  by_place periods front of k domain p None room there here is =
      is ∙ sym (append-nil front)
      ∙ ap (λ b. front ++ (if b then (last_in front + k) ∷ [] else [])) (sym ((numbers_apart places.domains).other domain of p there here))
  by_place periods front of k domain p (Some q) room there here is = at_place periods front of k domain p q room there here is (cases_eq p q)

  one_begun : (periods : List (List ℕ)) (front : List ℕ) (entry : TimerEntry) (domain p : ℕ) → length periods ≡ places.domains
      → below places.domains domain ≡ Some p → row_of periods p ≡ front → row_of (one_period_more places entry periods) p ≡ front ++ more_of domain entry (last_in front)
  unfolding more_of
  one_begun periods front (timer.Limits of now limits) domain p room there is = is ∙ sym (append-nil front)
  one_begun periods front (timer.Period of k) domain p room there is = by_place periods front of k domain p (below places.domains of) room there refl is

  room_at : (place : Option ℕ) (k : ℕ) (periods : List (List ℕ)) → length (period_more_at place k periods) ≡ length periods
  room_at None k periods = refl
  room_at (Some p) k periods = length-set periods p (row_of periods p ++ (last_in (row_of periods p) + k) ∷ [])

  room_kept : (entry : TimerEntry) (periods : List (List ℕ)) → length (one_period_more places entry periods) ≡ length periods
  room_kept (timer.Limits of now limits) periods = refl
  room_kept (timer.Period of k) periods = room_at (below places.domains of) k periods

  pub periods_on : (d : TimerEntry) (entries : List TimerEntry) (periods new : List (List ℕ)) (i : ℕ)
      → new ≡ one_period_more places (get_or entries i d) periods
      → i < length entries → length periods ≡ places.domains → ArePeriods places (take i entries) periods
      → (length new ≡ places.domains) × ArePeriods places (take (i + 1) entries) new
  periods_on d entries periods new i is lt room are = (
    ap length is ∙ room_kept (get_or entries i d) periods ∙ room,
    λ domain p there.
        ap (λ m. row_of m p) is
        ∙ one_begun periods (periods_from domain 0 (take i entries)) (get_or entries i d) domain p room there (are domain p there)
        ∙ sym (periods_more domain 0 (take i entries) (get_or entries i d))
        ∙ ap (periods_from domain 0) (sym (take_more entries i d lt)),
  )
