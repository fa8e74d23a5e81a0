-- All estimates of a context, by version, and what each pass knows of them.
use Rattle.std.specs.Prelude.{◌≡◌, ℕ, ◌≤◌, true, List, [], ◌∷◌, ◌++◌, All}
use mathlib.Core.Option.{some}
use lib.ListN.{get_elem?}
use Rattle.wbt_estimate.specs.declared.estimate.Estimate.{Estimate}
use Rattle.wbt_estimate.specs.Estimate.{IsSound}
use Rattle.wbt_published.specs.declared.known.Known.{Known}
use Rattle.wbt_published.specs.declared.rule.Stored.{Stored}
use Rattle.wbt_published.specs.Known.{first_one, after_read, after_publish}

-- an estimate as the words of a cell
abbrev pub words_of : (estimate : Estimate) → List ℕ
words_of estimate = estimate.version ∷ estimate.bw ∷ estimate.avg ∷ estimate.ratelimit ∷ estimate.balanced ∷ estimate.written_stamp ∷ estimate.dirtied_stamp ∷ estimate.at ∷ []

-- the first estimate and those published after it, each sound and at the place of its version
pub record IsRising (all : List Estimate) : Type 0 where
  pub first : get_elem? all 0 ≡ some first_one
  pub by_version : (place : ℕ) (estimate : Estimate) → get_elem? all place ≡ some estimate → estimate.version ≡ place
  pub sound : (place : ℕ) (estimate : Estimate) → get_elem? all place ≡ some estimate → IsSound estimate

-- the estimate stands among these, at the place of its version
abbrev pub IsAmong : (all : List Estimate) (estimate : Estimate) → Type 0
IsAmong all estimate = get_elem? all estimate.version ≡ some estimate

-- what one pass knows of them: all, where it is the one that publishes; and each note is among them
pub record Knows (all : List Estimate) (stored : Stored) (publisher pass : ℕ) (known : Known) : Type 0 where
  pub publishes : known.publishes ≡ true → (pass ≡ publisher) × (known.all ≡ all)
  pub read : All (IsAmong all) known.reads
  pub seen : known.seen ≤ stored.estimate.version

-- the rule of a context's cell, between any two steps of any threads
pub record IsPublished (stored : Stored) (views : List Known) : Type 0 where
  pub all : List Estimate
  pub before : List Estimate
  pub newest : all ≡ before ++ stored.estimate ∷ []
  pub rising : IsRising all
  pub publisher : ℕ
  pub knows : (pass : ℕ) (known : Known) → get_elem? views pass ≡ some known → Knows all stored publisher pass known

-- the pass knows all that was published, and whatever it read is of these
pub record IsComplete (known : Known) : Type 0 where
  pub rising : IsRising known.all
  pub read : All (IsAmong known.all) known.reads

-- the pass publishes, and the estimate is the newest that it published
abbrev pub IsNewest : (known : Known) (estimate : Estimate) → Type 0
IsNewest known estimate = (before : List Estimate) × (known.all ≡ before ++ estimate ∷ [])

-- the pass read this estimate whole, and it saw none with a greater version before
pub record HasRead (old : Known) (found kept : Stored) (new : Known) : Type 0 where
  pub noted : new ≡ after_read found.estimate old
  pub first : found.estimate.version ≡ 0 → found.estimate ≡ first_one
  pub sound : IsSound found.estimate
  pub fresh : old.seen ≤ found.estimate.version
  pub fresh_notes : All (λ (e : Estimate). e.version ≤ found.estimate.version) old.reads
  pub newest : old.publishes ≡ true → IsNewest old found.estimate
  pub complete : new.publishes ≡ true → IsComplete new

-- the pass published this estimate
pub record HasPublished (old : Known) (found kept : Stored) (new : Known) : Type 0 where
  pub noted : new ≡ after_publish kept.estimate old
  pub complete : new.publishes ≡ true → IsComplete new

-- nothing changed, and what the pass knows is complete where it publishes
pub record HasLearned (old : Known) (found kept : Stored) (new : Known) : Type 0 where
  pub same : new ≡ old
  pub complete : new.publishes ≡ true → IsComplete new
