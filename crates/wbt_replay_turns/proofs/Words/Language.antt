-- What steps a list of items can come to.
use Rattle.std.proofs.Common.{◌≡◌, ◌⊎◌, inl, inr, ℕ, suc, eqb, ℤ, List, [], ◌∷◌, ◌++◌, refl, sym, ◌∙◌, ap, subst, ⊎_elim}
use Rattle.std.proofs.lemmas.List.{append-nil, append_assoc}
use Rattle.wbt_replay_order.proofs.Common.{StepKind, Trace, owed_to, Silent, Step, Todo, Counter, Context}
use Rattle.wbt_grant.specs.declared.who.StepKind.TheVariants as kind
use Rattle.wbt_replay_moves.specs.declared.todo.Silent.TheVariants as silent
use Rattle.wbt_replay_moves.specs.declared.todo.Step.TheVariants as step
use Rattle.wbt_replay_moves.specs.declared.todo.Todo.TheVariants as todo
use Rattle.wbt_counter.specs.declared.counter.Counter.TheVariants.{Domain}
use Rattle.wbt_replay_order.proofs.Facts.Lists.{either}
use Rattle.wbt_turns.specs.Words.{AreCut, IsAdded, IsSettled, MayClaim, MayMark, MayTake}
use Rattle.wbt_replay_turns.specs.Words.{IsOrderedTurn}

-- ---- items

-- the steps that a step comes to, with those that it puts down
abbrev pub StepRuns : (item : Step) (word : List StepKind) → Type 0
StepRuns step.Dirty word = (word ≡ kind.Dirty ∷ []) ⊎ ((settled : List StepKind) × IsSettled settled × (word ≡ kind.Dirty ∷ settled ++ kind.Mark ∷ []))
StepRuns (step.Add counter change) word = (word ≡ kind.Add ∷ []) ⊎ (word ≡ kind.Add ∷ kind.Fold ∷ kind.Clear ∷ [])
StepRuns (step.Fold counter) word = word ≡ kind.Fold ∷ []
StepRuns (step.Clear counter) word = word ≡ kind.Clear ∷ []
StepRuns (step.Mark inode) word = word ≡ kind.Mark ∷ []
StepRuns (step.First domain) word = word ≡ kind.First ∷ []
StepRuns (step.Middle domain) word = word ≡ kind.Middle ∷ []
StepRuns (step.Limits domain) word = word ≡ kind.Limits ∷ []
StepRuns (step.Count counter) word = word ≡ kind.Count ∷ []
StepRuns step.Unmark word = word ≡ kind.Unmark ∷ []
StepRuns step.Look word = (rest : List StepKind) × MayClaim rest × (word ≡ kind.Look ∷ rest)
StepRuns (step.Claim page_word) word = (rest : List StepKind) × MayMark rest × (word ≡ kind.Claim ∷ rest)
StepRuns step.Complete word = (settled : List StepKind) × IsSettled settled × (word ≡ kind.Complete ∷ settled)

abbrev pub SilentRuns : (item : Silent) (word : List StepKind) → Type 0
SilentRuns silent.Decide word = word ≡ []
SilentRuns silent.End word = word ≡ []
SilentRuns (silent.Estimate context) word = word ≡ []
SilentRuns (silent.Weigh context) word = word ≡ []
SilentRuns silent.Test word = MayTake word
SilentRuns silent.Close word = MayMark word
SilentRuns silent.HandOver word = word ≡ []
SilentRuns silent.Land word = word ≡ []

abbrev pub ItemRuns : (item : Todo) (word : List StepKind) → Type 0
ItemRuns (todo.Step item) word = StepRuns item word
ItemRuns (todo.Silent item) word = SilentRuns item word

-- and a list of items, one after another
abbrev pub Runs : (todos : List Todo) (word : List StepKind) → Type 0
Runs [] word = word ≡ []
Runs (item ∷ more) word = (first : List StepKind) × (rest : List StepKind) × ItemRuns item first × Runs more rest × (word ≡ first ++ rest)

-- in two parts
pub runs_parts : (xs ys : List Todo) (word : List StepKind) → Runs (xs ++ ys) word
    → (a : List StepKind) × (b : List StepKind) × Runs xs a × Runs ys b × (word ≡ a ++ b)
runs_parts [] ys word h = ([], word, refl, h, refl)
runs_parts (x ∷ xs) ys word h =
    let more = runs_parts xs ys h.1 h.3 in (
      h.0 ++ more.0,
      more.1,
      (h.0, more.0, h.2, more.2, refl),
      more.3,
      h.4 ∙ (ap (λ (l : List StepKind). h.0 ++ l) more.4 ∙ sym (append_assoc h.0 more.0 more.1)),
    )

-- each list comes to some steps
some_step : (item : Step) → (word : List StepKind) × StepRuns item word
some_step step.Dirty = (kind.Dirty ∷ [], inl refl)
some_step (step.Add counter change) = (kind.Add ∷ [], inl refl)
some_step (step.Fold counter) = (kind.Fold ∷ [], refl)
some_step (step.Clear counter) = (kind.Clear ∷ [], refl)
some_step (step.Mark inode) = (kind.Mark ∷ [], refl)
some_step (step.First domain) = (kind.First ∷ [], refl)
some_step (step.Middle domain) = (kind.Middle ∷ [], refl)
some_step (step.Limits domain) = (kind.Limits ∷ [], refl)
some_step (step.Count counter) = (kind.Count ∷ [], refl)
some_step step.Unmark = (kind.Unmark ∷ [], refl)
some_step step.Look = (kind.Look ∷ [], ([], inl (inl refl), refl))
some_step (step.Claim page_word) = (kind.Claim ∷ [], ([], inl refl, refl))
some_step step.Complete =
    (kind.Complete ∷ kind.Add ∷ kind.Add ∷ [], (kind.Add ∷ kind.Add ∷ [], inl (kind.Add ∷ [], ([], refl, inl refl), inl refl), refl))

some_silent : (item : Silent) → SilentRuns item []
some_silent silent.Decide = refl
some_silent silent.End = refl
some_silent (silent.Estimate context) = refl
some_silent (silent.Weigh context) = refl
some_silent silent.Test = inl refl
some_silent silent.Close = inl refl
some_silent silent.HandOver = refl
some_silent silent.Land = refl

some_item : (item : Todo) → (word : List StepKind) × ItemRuns item word
some_item (todo.Step item) = some_step item
some_item (todo.Silent item) = ([], some_silent item)

pub some_word : (todos : List Todo) → (word : List StepKind) × Runs todos word
some_word [] = ([], refl)
some_word (item ∷ more) =
    let first = some_item item in
    let rest = some_word more in
    (first.0 ++ rest.0, (first.0, rest.0, first.1, rest.1, refl))

-- ---- an item is done

-- What an item puts down, after the steps that it has made, comes to what the item could.
abbrev pub Yields : (item : Todo) (items : List Todo) (made : List StepKind) → Type 0
Yields item items made = (word : List StepKind) → Runs items word → ItemRuns item (made ++ word)

pub runs_on : (item : Todo) (items more : List Todo) (made word : List StepKind) → Yields item items made → Runs (items ++ more) word → Runs (item ∷ more) (made ++ word)
runs_on item items more made word yields h =
    let parts = runs_parts items more word h in (
      made ++ parts.0,
      parts.1,
      yields parts.0 parts.2,
      parts.3,
      ap (λ (l : List StepKind). made ++ l) parts.4 ∙ sym (append_assoc made parts.0 parts.1),
    )

-- ---- one item of a list

-- The first item makes one step of a kind.
pub one_of : (item : Todo) (k : StepKind) → ((w : List StepKind) → ItemRuns item w → w ≡ k ∷ []) → (more : List Todo) (word : List StepKind) → Runs (item ∷ more) word
    → (rest : List StepKind) × Runs more rest × (word ≡ k ∷ rest)
one_of item k only more word h = (h.1, h.3, h.4 ∙ ap (λ (l : List StepKind). l ++ h.1) (only h.0 h.2))

-- or none
pub none_of : (item : Todo) → ((w : List StepKind) → ItemRuns item w → w ≡ []) → (more : List Todo) (word : List StepKind) → Runs (item ∷ more) word → Runs more word
none_of item only more word h =
    let same : word ≡ h.1 = h.4 ∙ ap (λ (l : List StepKind). l ++ h.1) (only h.0 h.2) in
    subst (Runs more) (sym same) h.3

-- a single item
pub single : (item : Todo) (word : List StepKind) → Runs (item ∷ []) word → ItemRuns item word
single item word h =
    let same : word ≡ h.0 = h.4 ∙ (ap (λ (l : List StepKind). h.0 ++ l) h.3 ∙ append-nil h.0) in
    subst (ItemRuns item) (sym same) h.2

-- ---- events of a page

-- so many events, and then what an item comes to
abbrev pub IsSplit : (n : ℕ) (last : Todo) (word : List StepKind) → Type 0
IsSplit n last word = (settled : List StepKind) × (rest : List StepKind) × IsAdded n settled × ItemRuns last rest × (word ≡ settled ++ rest)

split_add : (x : Counter) (change : ℤ) (n : ℕ) (last : Todo) (more : List Todo) → ((rest : List StepKind) → Runs more rest → IsSplit n last rest)
    → (word : List StepKind) → Runs (todo.Step (step.Add x change) ∷ more) word → IsSplit (suc n) last word
split_add x change n last more behind word h =
    let rest = behind h.1 h.3 in
    ⊎_elim
    (λ plain. (
      kind.Add ∷ rest.0,
      rest.1,
      (rest.0, rest.2, inl refl),
      rest.3,
      h.4 ∙ (ap (λ (l : List StepKind). l ++ h.1) plain ∙ ap (λ (l : List StepKind). kind.Add ∷ l) rest.4),
    ))
    (λ folded. (
      kind.Add ∷ kind.Fold ∷ kind.Clear ∷ rest.0,
      rest.1,
      (rest.0, rest.2, inr refl),
      rest.3,
      h.4 ∙ (ap (λ (l : List StepKind). l ++ h.1) folded ∙ ap (λ (l : List StepKind). kind.Add ∷ kind.Fold ∷ kind.Clear ∷ l) rest.4),
    ))
    h.2

split_none : (last : Todo) (word : List StepKind) → Runs (last ∷ []) word → IsSplit 0 last word
split_none last word h = ([], word, refl, single last word h, refl)

pub split_owed : (change : ℤ) (context group : ℕ) (last : Todo) (word : List StepKind) → Runs (owed_to change context group last) word → IsSplit 2 last word ⊎ IsSplit 3 last word
split_owed change context group last word =
    either (λ (l : List Todo). Runs l word → IsSplit 2 last word ⊎ IsSplit 3 last word) (eqb group 0) _ _
    (λ none h. inl (split_add (Context context) change 1 last (todo.Step (step.Add (Domain 0) change) ∷ last ∷ [])
    (split_add (Domain 0) change 0 last (last ∷ []) (split_none last)) word h))
    (λ some h. inr (split_add (Context context) change 2 last (todo.Step (step.Add (Domain 0) change) ∷ todo.Step (step.Add (Domain group) change) ∷ last ∷ [])
    (split_add (Domain 0) change 1 last (todo.Step (step.Add (Domain group) change) ∷ last ∷ []) (split_add (Domain group) change 0 last (last ∷ []) (split_none last)))
    word h))

-- ---- whole turns, and one under way

-- The word is that of whole turns, and of one of which these items are left.
abbrev pub AreThen : (trace : Trace) (turns : List (List StepKind)) (todos : List Todo) (word : List StepKind) → Type 0
AreThen trace [] todos word = (more : List StepKind) → Runs todos more → IsOrderedTurn trace (word ++ more)
AreThen trace (turn ∷ turns) todos word = IsOrderedTurn trace turn × ((rest : List StepKind) × (word ≡ turn ++ rest) × AreThen trace turns todos rest)

abbrev pub Parses : (trace : Trace) (todos : List Todo) (word : List StepKind) → Type 0
Parses trace todos word = (turns : List (List StepKind)) × AreThen trace turns todos word

grows : (trace : Trace) (item : Todo) (items more : List Todo) (made : List StepKind) → Yields item items made → (turns : List (List StepKind)) (word : List StepKind)
    → AreThen trace turns (item ∷ more) word → AreThen trace turns (items ++ more) (word ++ made)
grows trace item items more made yields [] word h = λ rest runs.
    subst (IsOrderedTurn trace) (sym (append_assoc word made rest)) (h (made ++ rest) (runs_on item items more made rest yields runs))
grows trace item items more made yields (turn ∷ turns) word h =
    (h.0, (h.1.0 ++ made, ap (λ (l : List StepKind). l ++ made) h.1.1 ∙ append_assoc turn h.1.0 made, grows trace item items more made yields turns h.1.0 h.1.2))

-- An item of the turn is done.
pub parses_on : (trace : Trace) (item : Todo) (items more : List Todo) (made word : List StepKind) → Yields item items made → Parses trace (item ∷ more) word
    → Parses trace (items ++ more) (word ++ made)
parses_on trace item items more made word yields h = (h.0, grows trace item items more made yields h.0 word h.1)

begins : (trace : Trace) (todos : List Todo) → ((w : List StepKind) → Runs todos w → IsOrderedTurn trace w) → (turns : List (List StepKind)) (word : List StepKind)
    → AreThen trace turns [] word → Parses trace todos word
begins trace todos fits [] word h =
    (word ∷ [], (subst (IsOrderedTurn trace) (append-nil word) (h [] refl), ([], sym (append-nil word), fits)))
begins trace todos fits (turn ∷ turns) word h =
    let more = begins trace todos fits turns h.1.0 h.1.2 in
    (turn ∷ more.0, (h.0, (h.1.0, h.1.1, more.1)))

-- A turn is over, and another one begins with these items.
pub parses_begun : (trace : Trace) (todos : List Todo) (word : List StepKind) → ((w : List StepKind) → Runs todos w → IsOrderedTurn trace w) → Parses trace [] word → Parses trace todos word
parses_begun trace todos word fits h = begins trace todos fits h.0 word h.1

closes : (trace : Trace) (todos : List Todo) (turns : List (List StepKind)) (word : List StepKind) → AreThen trace turns todos word → AreCut (IsOrderedTurn trace) turns word
closes trace todos [] word h = let left = some_word todos in (left.0, h left.0 left.1)
closes trace todos (turn ∷ turns) word h = (h.0, (h.1.0, h.1.1, closes trace todos turns h.1.0 h.1.2))

pub parses_cut : (trace : Trace) (todos : List Todo) (word : List StepKind) → Parses trace todos word → (turns : List (List StepKind)) × AreCut (IsOrderedTurn trace) turns word
parses_cut trace todos word h = (h.0, closes trace todos h.0 word h.1)
