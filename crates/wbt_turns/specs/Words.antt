-- The steps of a turn are a word over their kinds. Each turn is a check, a write, a test, or some work of a flusher on its inode.
use Rattle.std.specs.Prelude.{◌≡◌, ◌⊎◌, ℕ, zero, suc, Bool, true, false, Option, Some, None, List, [], ◌∷◌, ◌++◌, length}
use Rattle.wbt_grant.specs.declared.record.LastStep.{LastStep}
use Rattle.wbt_grant.specs.declared.who.StepKind.{StepKind}
use Rattle.wbt_grant.specs.declared.who.StepKind.TheVariants as kind

-- ---- parts of a turn

-- An event of a page is added to so many counters. Where the own number reaches the batch it is folded and cleared at once.
abbrev pub IsAdded : (counters : ℕ) (word : List StepKind) → Type 0
IsAdded zero word = word ≡ []
IsAdded (suc counters) word = (rest : List StepKind) × IsAdded counters rest
    × ((word ≡ kind.Add ∷ rest) ⊎ (word ≡ kind.Add ∷ kind.Fold ∷ kind.Clear ∷ rest))

-- to the context's counter, the global domain's, and that of the cgroup where there is one
abbrev pub IsSettled : (word : List StepKind) → Type 0
IsSettled word = IsAdded 2 word ⊎ IsAdded 3 word

-- The limits of so many domains are loaded, each in three steps, and after them its count.
abbrev pub loads : (domains : ℕ) → List StepKind
loads zero = []
loads (suc domains) = kind.First ∷ kind.Middle ∷ kind.Limits ∷ kind.Count ∷ loads domains

-- counts of so many contexts
abbrev pub counts : (contexts : ℕ) → List StepKind
counts zero = []
counts (suc contexts) = kind.Count ∷ counts contexts

-- An inode is marked, or not.
abbrev pub MayMark : (word : List StepKind) → Type 0
MayMark word = (word ≡ []) ⊎ (word ≡ kind.Mark ∷ [])

-- A claim of the page comes next, where it can be claimed. Then the inode may be marked.
abbrev pub MayClaim : (word : List StepKind) → Type 0
MayClaim word = MayMark word ⊎ ((rest : List StepKind) × MayMark rest × (word ≡ kind.Claim ∷ rest))

-- Events of the page are settled, or none are.
abbrev pub MaySettle : (word : List StepKind) → Type 0
MaySettle word = (word ≡ []) ⊎ IsSettled word

-- The page is given back next. Where it was dirty again its events are settled, and after a batch's last page the inode is marked.
abbrev pub GivesBack : (word : List StepKind) → Type 0
GivesBack word = (settled : List StepKind) × (marked : List StepKind) × MaySettle settled × MayMark marked × (word ≡ kind.Back ∷ settled ++ marked)

-- The mark of an inode that is taken is cleared.
abbrev pub MayTake : (word : List StepKind) → Type 0
MayTake word = (word ≡ []) ⊎ (word ≡ kind.Unmark ∷ [])

-- ---- turns

-- the steps of a turn of a CPU, where there are so many domains
pub data IsTurn (domains : ℕ) (word : List StepKind) : Type 0 where
  -- a task rests or ends; or a flusher finishes, or takes an inode
  rests : MayTake word → IsTurn domains word
  -- a check loads the global domain, the cgroup where there is one, and the context's count
  checks : (loaded : ℕ) → (loaded ≡ 1) ⊎ (loaded ≡ 2) → word ≡ loads loaded ++ kind.Count ∷ [] → IsTurn domains word
  -- a task writes a page that is dirty already, or that is fresh
  writes_again : word ≡ kind.Dirty ∷ [] → IsTurn domains word
  writes : (settled : List StepKind) → IsSettled settled → word ≡ kind.Dirty ∷ settled ++ kind.Mark ∷ [] → IsTurn domains word
  -- a flusher tests all domains, and contexts for their estimates or as strict ones; it may take an inode then
  tests : (contexts : ℕ) (taken : List StepKind) → MayTake taken → word ≡ loads domains ++ counts contexts ++ taken → IsTurn domains word
  -- it looks at a page of its inode
  looks : (rest : List StepKind) → MayClaim rest → word ≡ kind.Look ∷ rest → IsTurn domains word
  -- it completes a page of its batch
  completes : (settled : List StepKind) → IsSettled settled → word ≡ kind.Complete ∷ settled → IsTurn domains word
  -- it looks at a page of a batch that its disk failed to write, and gives it back
  gives_back : (rest : List StepKind) → GivesBack rest → word ≡ kind.Look ∷ rest → IsTurn domains word

-- It isn't the turn that gives a page back: no disk failed.
abbrev pub KeepsPages : (domains : ℕ) (word : List StepKind) (turn : IsTurn domains word) → Type 0
KeepsPages domains word (gives_back rest back is) = ⊥
KeepsPages domains word other = Unit {0}

-- ---- words one after another

-- A word of this kind was cut off: some of it may be left to be made.
abbrev pub IsCut : (IsWord : List StepKind → Type 0) (word : List StepKind) → Type 0
IsCut IsWord word = (left : List StepKind) × IsWord (word ++ left)

-- The word is these words of a kind, one after another.
abbrev pub AreWhole : (IsWord : List StepKind → Type 0) (words : List (List StepKind)) (word : List StepKind) → Type 0
AreWhole IsWord [] word = word ≡ []
AreWhole IsWord (first ∷ words) word = IsWord first × ((rest : List StepKind) × (word ≡ first ++ rest) × AreWhole IsWord words rest)

-- It is these, and then one of the kind that may be cut off.
abbrev pub AreCut : (IsWord : List StepKind → Type 0) (words : List (List StepKind)) (word : List StepKind) → Type 0
AreCut IsWord [] word = IsCut IsWord word
AreCut IsWord (first ∷ words) word = IsWord first × ((rest : List StepKind) × (word ≡ first ++ rest) × AreCut IsWord words rest)

-- It is some words of a kind, none of which was cut off.
pub record IsWhole (IsWord : List StepKind → Type 0) (word : List StepKind) : Type 0 where
  pub words : List (List StepKind)
  pub are : AreWhole IsWord words word

-- It is some, of which the last may be cut off.
pub record IsCutOff (IsWord : List StepKind → Type 0) (word : List StepKind) : Type 0 where
  pub words : List (List StepKind)
  pub are : AreCut IsWord words word

-- The steps of a turn that was cut off.
abbrev pub IsCutTurn : (domains : ℕ) (word : List StepKind) → Type 0
IsCutTurn domains word = IsCut (IsTurn domains) word

-- These are the steps of whole turns, one after another, and of a last one that may be cut off.
abbrev pub AreTurns : (domains : ℕ) (turns : List (List StepKind)) (word : List StepKind) → Type 0
AreTurns domains turns word = AreCut (IsTurn domains) turns word

-- ---- the timer

-- A turn of the timer: for each domain it loads the count, raises the peak, and publishes the limits in three steps.
abbrev pub publications : (domains : ℕ) → List StepKind
publications zero = []
publications (suc domains) = kind.Count ∷ kind.Peak ∷ kind.Unseal ∷ kind.Thresh ∷ kind.Publish ∷ publications domains

-- The same, where the last version of some domains stands already: it publishes no limits of these.
abbrev pub publications_but : (lasts : List Bool) → List StepKind
publications_but [] = []
publications_but (false ∷ lasts) = kind.Count ∷ kind.Peak ∷ kind.Unseal ∷ kind.Thresh ∷ kind.Publish ∷ publications_but lasts
publications_but (true ∷ lasts) = kind.Count ∷ kind.Peak ∷ publications_but lasts

-- the steps of a turn of the timer, where there are so many domains
abbrev pub IsTimerTurn : (domains : ℕ) (word : List StepKind) → Type 0
IsTimerTurn domains word = (lasts : List Bool) × (length lasts ≡ domains) × (word ≡ publications_but lasts)

-- a word so many times
abbrev pub repeated : (times : ℕ) (word : List StepKind) → List StepKind
repeated zero word = []
repeated (suc times) word = repeated times word ++ word

-- ---- steps that were made

-- the kind of a step, where it is one
abbrev pub kind_of : (made : Option LastStep) → List StepKind
kind_of None = []
kind_of (Some step) = step.kind ∷ []

-- the kinds of these, of which the newest comes first, in the order in which they were made
abbrev pub kinds_of : (log : List (Option LastStep)) → List StepKind
kinds_of [] = []
kinds_of (made ∷ older) = kinds_of older ++ kind_of made
