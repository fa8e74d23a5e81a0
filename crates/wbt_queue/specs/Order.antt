-- First in, first out: one list of all puts and one of all takes of a device's queue, and whose each entry is.
use Rattle.std.specs.Prelude.{◌≡◌, ◌<◌, ◌≤◌, ◌⊎◌, ◌+◌, ◌^◌, ℕ, Bool, true, cond, ◌==◌, ◌&&◌, List, [], ◌∷◌, ◌++◌, map, length, sum_by}
use mathlib.Core.Option.{some}
use lib.ListN.{get_elem?}
use Rattle.wbt_queue.specs.declared.known.Part.{Part}
use Rattle.wbt_queue.specs.declared.known.Known.{Known}
use Rattle.wbt_queue.specs.Known.{parts_of, puts_by, takes_by, after_put, after_take}

-- an inode number that was put or taken, with the pass that knows it and the part of that pass in which it stands
pub record Entry : Type 0 where
  pub inode : ℕ
  pub pass : ℕ
  pub part : ℕ

-- the inode numbers alone
abbrev pub inodes_of : (entries : List Entry) → List ℕ
inodes_of entries = map (λ (entry : Entry). entry.inode) entries

-- the entry stands in this part of this pass
abbrev pub stands_in : (pass part : ℕ) (entry : Entry) → Bool
stands_in pass part entry = (pass == entry.pass) && (part == entry.part)

-- the inode numbers of one part of one pass, in their order
abbrev pub those_of : (pass part : ℕ) (entries : List Entry) → List ℕ
those_of pass part [] = []
those_of pass part (entry ∷ entries) = cond (stands_in pass part entry) (entry.inode ∷ those_of pass part entries) (those_of pass part entries)

-- this pass knows this part
abbrev pub HasPart : (views : List Known) (pass part : ℕ) (what : Part) → Type 0
HasPart views pass part what = (known : Known) × (get_elem? views pass ≡ some known) × (get_elem? (parts_of known) part ≡ some what)

-- each entry stands in a part that a pass knows
abbrev pub AllKnown : (views : List Known) (entries : List Entry) → Type 0
AllKnown views entries = (place : ℕ) (entry : Entry) → get_elem? entries place ≡ some entry → (what : Part) × HasPart views entry.pass entry.part what

-- what a part says are its entries of all puts and of all takes
abbrev pub Tells : (puts takes : List Entry) (pass part : ℕ) (what : Part) → Type 0
Tells puts takes pass part what = (those_of pass part puts ≡ what.puts) × (those_of pass part takes ≡ what.takes)

-- the stakes of all passes
abbrev pub all_stakes : (views : List Known) → ℕ
all_stakes views = sum_by (λ (known : Known). known.stakes) views

-- stakes were lost, or this pass was taken in by another and knows nothing
abbrev pub IsPoor : (views : List Known) (known : Known) → Type 0
IsPoor views known = (all_stakes views < 2 ^ 32) ⊎ ((known.gone ≡ true) × (puts_by known ≡ []) × (takes_by known ≡ []))

-- There are 2^32 stakes at most, and who has none knows nothing, where none was lost. Of any weight of the numbers, what all passes put
-- weighs as much as all puts do, and so with the takes: each number is there just as often.
pub record AreStaked (views : List Known) (puts takes : List Entry) : Type 0 where
  pub most : all_stakes views ≤ 2 ^ 32
  pub poor : (pass : ℕ) (known : Known) → get_elem? views pass ≡ some known → known.stakes ≡ 0 → IsPoor views known
  pub all_puts : (weight : ℕ → ℕ) → sum_by (λ (known : Known). sum_by weight (puts_by known)) views ≡ sum_by weight (inodes_of puts)
  pub all_takes : (weight : ℕ → ℕ) → sum_by (λ (known : Known). sum_by weight (takes_by known)) views ≡ sum_by weight (inodes_of takes)

-- the rule of a device's queue, between any two steps of any threads
pub record IsInOrder (waiting : List ℕ) (views : List Known) : Type 0 where
  pub puts : List Entry
  pub takes : List Entry
  pub first_in_first_out : inodes_of puts ≡ inodes_of takes ++ waiting
  pub told : (pass part : ℕ) (what : Part) → HasPart views pass part what → Tells puts takes pass part what
  pub puts_known : AllKnown views puts
  pub takes_known : AllKnown views takes
  pub lone : (pass : ℕ) (known : Known) → get_elem? views pass ≡ some known → known.alone ≡ true → (length views ≡ 1) × (known.joined ≡ [])
  pub staked : AreStaked views puts takes

-- As far as the pass knows, these numbers were put and not taken: of any weight of the numbers, what it knows to be put weighs as much
-- as what it knows to be taken and these. So each number was put just as often as it was taken and waits.
abbrev pub AreLeft : (known : Known) (waiting : List ℕ) → Type 0
AreLeft known waiting = (weight : ℕ → ℕ) → sum_by weight (puts_by known) ≡ sum_by weight (takes_by known) + sum_by weight waiting

-- These numbers waited at a moment: of all puts and takes, the pass knows its own, and it knows all of them where it is alone. The lists
-- of all puts and all takes are those of the rule at that moment, of all passes. A pass with all stakes knows each put and each take.
pub record Waits (known : Known) (waiting : List ℕ) : Type 0 where
  pub pass : ℕ
  pub puts : List Entry
  pub takes : List Entry
  pub first_in_first_out : inodes_of puts ≡ inodes_of takes ++ waiting
  pub told : (part : ℕ) (what : Part) → get_elem? (parts_of known) part ≡ some what → Tells puts takes pass part what
  pub lone : known.alone ≡ true → known.own.puts ≡ known.own.takes ++ waiting
  pub views : List Known
  pub among : get_elem? views pass ≡ some known
  pub of_all : (rule : IsInOrder waiting views) × (rule.puts ≡ puts) × (rule.takes ≡ takes)
  pub whole : known.stakes ≡ 2 ^ 32 → AreLeft known waiting

-- the pass put this number behind all that waited
abbrev pub HasPut : (old : Known) (inode : ℕ) (new : Known) → Type 0
HasPut old inode new = (new ≡ after_put inode old) × (before : List ℕ) × Waits new (before ++ inode ∷ [])

-- the pass took the number that waited longest
abbrev pub HasTaken : (old : Known) (inode : ℕ) (new : Known) → Type 0
HasTaken old inode new = (new ≡ after_take inode old) × (behind : List ℕ) × Waits old (inode ∷ behind)
