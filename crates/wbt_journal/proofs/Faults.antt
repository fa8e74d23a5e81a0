-- What a fault tells of a test, of a list and of a walk.
use Rattle.std.proofs.Common.{◌≡◌, ℕ, ◌+◌, ◌<◌, ◌≤◌, Bool, true, false, not, ◌||◌, nat_le, nat_lt, List, [], ◌∷◌, Option, Some, None, IfSome, refl, sym, ◌∙◌, ap, arith}
use Rattle.std.specs.Bool.{Decides}
use Rattle.std.specs.List.{list_all}
use Rattle.std.proofs.lemmas.Bool.Decides.{nat_tests, Decides-and}
use Rattle.wbt_journal.specs.Each.{Each}
use Rattle.wbt_journal.specs.Effects.{of_part}
use Rattle.wbt_journal.specs.Walk.{Along, Tells, unless, first_of, first_failed, first_fault}

-- ---- tests

pub like : {P Q : Type 0} (r : Bool) → Decides r P → (P → Q) → (Q → P) → Decides r Q
like r decides there back = (λ is. there (decides.0 is), λ q. decides.1 (back q))

pub is_true : (b : Bool) → Decides b (b ≡ true)
is_true b = (λ is. is, λ is. is)

not_true : (b : Bool) → not b ≡ true → b ≡ false
not_true true is = cc
not_true false is = refl

true_not : (b : Bool) → b ≡ false → not b ≡ true
true_not true is = cc
true_not false is = refl

pub is_false : (b : Bool) → Decides (not b) (b ≡ false)
is_false b = (not_true b, true_not b)

le_test : (a b : ℕ) → nat_le a b ≡ true → a ≤ b
le_test a b is = grind (arith, nat_tests)

le_back : (a b : ℕ) → a ≤ b → nat_le a b ≡ true
le_back a b less = grind (arith, nat_tests)

pub is_le : (a b : ℕ) → Decides (nat_le a b) (a ≤ b)
is_le a b = (le_test a b, le_back a b)

less_test : (a b : ℕ) → nat_lt a b ≡ true → a < b
less_test a b is = grind (arith, nat_tests)

less_back : (a b : ℕ) → a < b → nat_lt a b ≡ true
less_back a b less = grind (arith, nat_tests)

pub is_less : (a b : ℕ) → Decides (nat_lt a b) (a < b)
is_less a b = (less_test a b, less_back a b)

imp_there : {P : Type 0} (a b : Bool) → Decides b P → (not a || b) ≡ true → a ≡ true → P
imp_there true b decides is given = decides.0 is
imp_there false b decides is given = cc

imp_back : {P : Type 0} (a b : Bool) → Decides b P → (a ≡ true → P) → (not a || b) ≡ true
imp_back true b decides gives = decides.1 (gives refl)
imp_back false b decides gives = refl

-- where a is so, P holds
pub is_given : {P : Type 0} (a b : Bool) → Decides b P → Decides (not a || b) (a ≡ true → P)
is_given a b decides = (imp_there a b decides, imp_back a b decides)

-- ---- faults

some_none : (line : ℕ) → Some line ≡ None → ⊥
some_none line is = cc

false_true : false ≡ true → ⊥
false_true is = cc

-- nothing to be told
pub always : Tells None (Unit {0})
always = record { holds = λ is. tt; none = λ p. refl }

unless_holds : (b : Bool) (line : ℕ) → unless b line ≡ None → b ≡ true
unless_holds true line is = refl
unless_holds false line is = absurd (some_none line is)

pub test_tells : {P : Type 0} (b : Bool) (line : ℕ) → Decides b P → Tells (unless b line) P
test_tells b line decides = record {
  holds = λ is. decides.0 (unless_holds b line is);
  none = λ p. ap (λ x. unless x line) (decides.1 p);
}

pub tells_like : {P Q : Type 0} (o : Option ℕ) → Tells o P → (P → Q) → (Q → P) → Tells o Q
tells_like o tells there back = record { holds = λ is. there (tells.holds is); none = λ q. tells.none (back q) }

first_none : (o q : Option ℕ) → first_of o q ≡ None → o ≡ None
first_none None q is = refl
first_none (Some line) q is = absurd (some_none line is)

second_none : (o q : Option ℕ) → o ≡ None → first_of o q ≡ q
second_none o q is = ap (λ x. first_of x q) is

pub both_tell : {P Q : Type 0} (o q : Option ℕ) → Tells o P → Tells q Q → Tells (first_of o q) (P × Q)
both_tell o q first second = record {
  holds = λ is. (first.holds (first_none o q is), second.holds (sym (second_none o q (first_none o q is)) ∙ is));
  none = λ both. second_none o q (first.none both.0) ∙ second.none both.1;
}

-- ---- parts of an entry

-- a part that isn't there has no fault
pub part_tells : {A : Type 0} (fault : A → Option ℕ) (P : A → Type 0) → ((a : A) → Tells (fault a) (P a)) → (part : Option A) → Tells (of_part None fault part) (IfSome part P)
part_tells fault P tells None = always
part_tells fault P tells (Some a) = tells a

pub part_decides : {A : Type 0} (test : A → Bool) (P : A → Type 0) → ((a : A) → Decides (test a) (P a)) → (part : Option A) → Decides (of_part true test part) (IfSome part P)
part_decides test P decides None = ((λ is. tt), λ p. refl)
part_decides test P decides (Some a) = decides a

pub some_both : {A : Type 0} (P Q : A → Type 0) (part : Option A) → IfSome part (λ a. P a × Q a) → IfSome part P × IfSome part Q
some_both P Q None both = (tt, tt)
some_both P Q (Some a) both = both

pub both_some : {A : Type 0} (P Q : A → Type 0) (part : Option A) → IfSome part P → IfSome part Q → IfSome part (λ a. P a × Q a)
both_some P Q None p q = tt
both_some P Q (Some a) p q = (p, q)

-- what holds of a part where something else does, and that else
pub some_gives : {A : Type 0} (P Q : A → Type 0) (part : Option A) → IfSome part (λ a. P a → Q a) → IfSome part P → IfSome part Q
some_gives P Q None gives p = tt
some_gives P Q (Some a) gives p = gives p

pub some_weaker : {A : Type 0} (P Q : A → Type 0) → ((a : A) → P a → Q a) → (part : Option A) → IfSome part P → IfSome part Q
some_weaker P Q gives None p = tt
some_weaker P Q gives (Some a) p = gives a p

-- ---- lists

abbrev failed_by : {A : Type 0} → (A → Bool) → (line : ℕ) → List A → Bool → Option ℕ
failed_by test line xs true = first_failed test (line + 1) xs
failed_by test line xs false = Some line

one_failed : {A : Type 0} (test : A → Bool) (line : ℕ) (x : A) (xs : List A) (b : Bool) → test x ≡ b → first_failed test line (x ∷ xs) ≡ failed_by test line xs b
one_failed test line x xs true is = ap (λ b. elim b as (λ c. Option ℕ) [ true ↦ first_failed test (line + 1) xs | false ↦ Some line ]) is
one_failed test line x xs false is = ap (λ b. elim b as (λ c. Option ℕ) [ true ↦ first_failed test (line + 1) xs | false ↦ Some line ]) is

list_by : {A : Type 0} (test : A → Bool) (P : A → Type 0) (line : ℕ) (x : A) (xs : List A) (b : Bool) → Decides (test x) (P x) → test x ≡ b
    → Tells (first_failed test (line + 1) xs) (Each P xs) → Tells (first_failed test line (x ∷ xs)) (Each P (x ∷ xs))
list_by test P line x xs true decides is rest = record {
  holds = λ none. (decides.0 is, rest.holds (sym (one_failed test line x xs true is) ∙ none));
  none = λ all. one_failed test line x xs true is ∙ rest.none all.1;
}
list_by test P line x xs false decides is rest = record {
  holds = λ none. absurd (some_none line (sym (one_failed test line x xs false is) ∙ none));
  none = λ all. absurd (false_true (sym is ∙ decides.1 all.0));
}

pub list_tells : {A : Type 0} (test : A → Bool) (P : A → Type 0) → ((a : A) → Decides (test a) (P a)) → (line : ℕ) (xs : List A) → Tells (first_failed test line xs) (Each P xs)
list_tells test P decides line [] = always
list_tells test P decides line (x ∷ xs) = list_by test P line x xs (test x) (decides x) refl (list_tells test P decides (line + 1) xs)

-- ---- walks

abbrev fault_by : {S A : Type 0} → (S → A → Option ℕ) → (S → A → S) → (A → ℕ) → (line : ℕ) → S → A → List A → Option ℕ → Option ℕ
fault_by fault next size line s a xs None = first_fault fault next size (line + size a) (next s a) xs
fault_by fault next size line s a xs (Some at) = Some (line + at)

one_fault : {S A : Type 0} (fault : S → A → Option ℕ) (next : S → A → S) (size : A → ℕ) (line : ℕ) (s : S) (a : A) (xs : List A) (o : Option ℕ) → fault s a ≡ o
    → first_fault fault next size line s (a ∷ xs) ≡ fault_by fault next size line s a xs o
one_fault fault next size line s a xs None is =
    ap (λ o. elim o as (λ c. Option ℕ) [ None ↦ first_fault fault next size (line + size a) (next s a) xs | Some at ↦ Some (line + at) ]) is
one_fault fault next size line s a xs (Some at) is =
    ap (λ o. elim o as (λ c. Option ℕ) [ None ↦ first_fault fault next size (line + size a) (next s a) xs | Some at ↦ Some (line + at) ]) is

walk_by : {S A : Type 0} (fault : S → A → Option ℕ) (Ok : S → A → Type 0) (next : S → A → S) (size : A → ℕ) (line : ℕ) (s : S) (a : A) (xs : List A) (o : Option ℕ)
    → Tells (fault s a) (Ok s a) → fault s a ≡ o → Tells (first_fault fault next size (line + size a) (next s a) xs) (Along Ok next (next s a) xs)
    → Tells (first_fault fault next size line s (a ∷ xs)) (Along Ok next s (a ∷ xs))
walk_by fault Ok next size line s a xs None tells is rest = record {
  holds = λ none. (tells.holds is, rest.holds (sym (one_fault fault next size line s a xs None is) ∙ none));
  none = λ all. one_fault fault next size line s a xs None is ∙ rest.none all.1;
}
walk_by fault Ok next size line s a xs (Some at) tells is rest = record {
  holds = λ none. absurd (some_none (line + at) (sym (one_fault fault next size line s a xs (Some at) is) ∙ none));
  none = λ all. absurd (some_none at (sym is ∙ tells.none all.0));
}

-- a walk's first fault is none exactly where every item is allowed
pub walk_tells : {S A : Type 0} (fault : S → A → Option ℕ) (Ok : S → A → Type 0) (next : S → A → S) (size : A → ℕ) → ((s : S) (a : A) → Tells (fault s a) (Ok s a))
    → (line : ℕ) (s : S) (xs : List A) → Tells (first_fault fault next size line s xs) (Along Ok next s xs)
walk_tells fault Ok next size tells line s [] = always
walk_tells fault Ok next size tells line s (a ∷ xs) =
    walk_by fault Ok next size line s a xs (fault s a) (tells s a) refl (walk_tells fault Ok next size tells (line + size a) (next s a) xs)

-- ---- walks of two parts

pub along_both : {S A : Type 0} (P Q : S → A → Type 0) (next : S → A → S) (s : S) (xs : List A) → Along (λ t a. P t a × Q t a) next s xs → Along P next s xs × Along Q next s xs
along_both P Q next s [] all = (tt, tt)
along_both P Q next s (x ∷ xs) all = let rest = along_both P Q next (next s x) xs all.1 in ((all.0.0, rest.0), (all.0.1, rest.1))

pub along_one : {S A : Type 0} (P Q : S → A → Type 0) (next : S → A → S) (s : S) (xs : List A) → Along P next s xs → Along Q next s xs → Along (λ t a. P t a × Q t a) next s xs
along_one P Q next s [] first second = tt
along_one P Q next s (x ∷ xs) first second = ((first.0, second.0), along_one P Q next (next s x) xs first.1 second.1)

-- a walk that doesn't look at its state
pub along_each : {S A : Type 0} (P : A → Type 0) (next : S → A → S) (s : S) (xs : List A) → Along (λ t. P) next s xs → Each P xs
along_each P next s [] all = tt
along_each P next s (x ∷ xs) all = (all.0, along_each P next (next s x) xs all.1)

pub each_along : {S A : Type 0} (P : A → Type 0) (next : S → A → S) (s : S) (xs : List A) → Each P xs → Along (λ t. P) next s xs
each_along P next s [] all = tt
each_along P next s (x ∷ xs) all = (all.0, each_along P next (next s x) xs all.1)

-- what holds of each item in both ways
pub each_both : {A : Type 0} (P Q : A → Type 0) (xs : List A) → Each (λ a. P a × Q a) xs → Each P xs × Each Q xs
each_both P Q [] all = (tt, tt)
each_both P Q (x ∷ xs) all = let rest = each_both P Q xs all.1 in ((all.0.0, rest.0), (all.0.1, rest.1))

pub each_one : {A : Type 0} (P Q : A → Type 0) (xs : List A) → Each P xs → Each Q xs → Each (λ a. P a × Q a) xs
each_one P Q [] first second = tt
each_one P Q (x ∷ xs) first second = ((first.0, second.0), each_one P Q xs first.1 second.1)

-- lists of which every item passes a test
pub all_decides : {A : Type 0} (test : A → Bool) (P : A → Type 0) → ((a : A) → Decides (test a) (P a)) → (xs : List A) → Decides (list_all test xs) (Each P xs)
all_decides test P decides [] = (λ is. tt, λ p. refl)
all_decides test P decides (x ∷ xs) = Decides-and (test x) (list_all test xs) (decides x) (all_decides test P decides xs)
