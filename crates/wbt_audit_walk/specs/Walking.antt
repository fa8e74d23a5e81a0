-- How the code of a point goes through the CPUs' parts of a journal: it keeps what the point's definition has seen, and the first fault
-- of what is still to come is that of the whole.
use Rattle.std.specs.Prelude.{◌≡◌, ℕ, Option, None}
use Rattle.wbt_journal.specs.Items.{Item, item_size}
use Rattle.wbt_journal.specs.Walk.{first_fault}
use Rattle.wbt_audit_walk.specs.declared.walk.Walk.{Walk}
use Rattle.wbt_audit_walk.specs.Walks.{rest}

-- the code's answer on an item is its fault, and where that is none the code goes on with what stands after the item
pub record IsJudged {S : Type 0} (fault : S → Item → Option ℕ) (next : S → Item → S) (after : S → Type 0) (s : S) (item : Item) (found : Option ℕ) : Type 0 where
  pub answer : fault s item ≡ found
  pub goes_on : found ≡ None → after (next s item)

-- What stands before an item is kept by the code. The code's answer is then the item's fault, and where that is none, it keeps what
-- stands after the item.
abbrev pub Judges : {S : Type 0} (fault : S → Item → Option ℕ) (next : S → Item → S) (before after : S → Type 0) (item : Item)
    (found : Option ℕ) → Type 0
Judges {S = S} fault next before after item found = (s : S) → before s → IsJudged fault next after s item found

-- so far no item was at fault
pub record Goes {S : Type 0} (fault : S → Item → Option ℕ) (next : S → Item → S) (kept : S → Type 0) (whole : Option ℕ) (walk : Walk) : Type 0 where
  pub so_far : S
  pub keeps : kept so_far
  pub to_come : first_fault fault next item_size walk.line so_far (rest walk) ≡ whole
