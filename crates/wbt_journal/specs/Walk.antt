-- Lists of items that are judged one by one, each with what stands before it; and the first of them that is at fault.
use Rattle.std.specs.Prelude.{◌≡◌, ℕ, ◌+◌, Bool, true, false, List, [], ◌∷◌, Option, Some, None}

-- each item is allowed after those before it
abbrev pub Along : {S A : Type 0} → (S → A → Type 0) → (S → A → S) → S → List A → Type 0
Along Ok next s [] = Unit {0}
Along Ok next s (a ∷ more) = Ok s a × Along Ok next (next s a) more

-- what stands after the items
abbrev pub after : {S A : Type 0} (next : S → A → S) (s : S) (items : List A) → S
after next s [] = s
after next s (a ∷ more) = after next (next s a) more

-- ---- faults: each is told by a line, counted from a first one

-- the line, where a test fails
abbrev pub unless : (test : Bool) (line : ℕ) → Option ℕ
unless true line = None
unless false line = Some line

-- the first fault, and the second where there is none
abbrev pub first_of : (found other : Option ℕ) → Option ℕ
first_of None other = other
first_of (Some line) other = Some line

-- the first of a list's items, a line each, that fails a test
abbrev pub first_failed : {A : Type 0} (test : A → Bool) (line : ℕ) (items : List A) → Option ℕ
first_failed test line [] = None
first_failed test line (a ∷ more) = elim (test a) [ true ↦ first_failed test (line + 1) more | false ↦ Some line ]

-- The first fault of a walk. Each item tells its own, counted from the item's first line, and has so many lines.
abbrev pub first_fault : {S A : Type 0} (fault : S → A → Option ℕ) (next : S → A → S) (size : A → ℕ) (line : ℕ) (s : S)
    (items : List A) → Option ℕ
first_fault fault next size line s [] = None
first_fault fault next size line s (a ∷ more) =
    elim (fault s a) [ None ↦ first_fault fault next size (line + size a) (next s a) more | Some at ↦ Some (line + at) ]

-- ---- what a fault says

-- a fault is told exactly where this doesn't hold
pub record Tells (fault : Option ℕ) (P : Type 0) : Type 0 where
  pub holds : fault ≡ None → P
  pub none : P → fault ≡ None
