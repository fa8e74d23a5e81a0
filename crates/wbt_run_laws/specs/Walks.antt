-- What a value shows of a walk of the journal before some entries and after them.
use Rattle.std.specs.Prelude.{◌≡◌, ℕ, List, map}
use Rattle.wbt_journal.specs.Items.{Item, tells}
use Rattle.wbt_journal.specs.Told.{Told}
use Rattle.wbt_journal.specs.Walk.{Along, after}

-- entries of a CPU's part as items of the journal
abbrev pub items_told : (cpu : ℕ) (added : List Told) → List Item
items_told cpu added = map (tells cpu) added

-- where the value is the walk's state: the items are allowed from the old one, and lead to the new one
pub record Walked {S A : Type 0} (Ok : S → A → Type 0) (next : S → A → S) (old : S) (items : List A) (new : S) : Type 0 where
  pub allowed : Along Ok next old items
  pub reached : after next old items ≡ new

-- Where the value stands for states of the walk: from each state that the old one stands for the items are allowed, and lead to
-- one that the new one stands for.
pub record Walks {O S A : Type 0} (stands : O → S → Type 0) (Ok : S → A → Type 0) (next : S → A → S) (old : O)
    (items : List A) (new : O) : Type 0 where
  pub allowed : (s : S) → stands old s → Along Ok next s items
  pub reached : (s : S) → stands old s → stands new (after next s items)
