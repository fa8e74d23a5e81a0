-- What a text tells that is read line by line: its one answer, which is made of all its lines, or of the first that is at
-- fault.
use Rattle.std.specs.Prelude.{◌≡◌, ◌≢◌, ◌⊎◌, ℕ, ◌+◌, List, [], ◌∷◌, ◌++◌, length, Result, Ok, Err}
use Rattle.wbt_text.specs.Cut.{Without}

-- How the texts of one format are read. A state is what the lines so far have said.
pub record Format (State Line Refusal Answer : Type 0) : Type 1 where
  -- after what has been said, this text, which has no line feed, is that of the line
  pub spells : (s : State) (text : List ℕ) (l : Line) → Type 0
  -- what has been said after the line, or why the line is refused
  pub accept : (l : Line) (s : State) → Result State Refusal
  -- the answer where the text is over after so many lines
  pub ended : (count : ℕ) (s : State) → Answer
  -- the answer where what comes as the line of this number is no line
  pub unread : (number : ℕ) → Answer
  -- the answer where the line of this number is refused
  pub refused : (number : ℕ) (why : Refusal) → Answer

-- These lines are taken one by one, each with a line feed at its end. They lead from the state s to t, and from the text
-- to the rest.
abbrev pub Lead : {State Line Refusal Answer : Type 0} (format : Format State Line Refusal Answer) (lines : List Line) (s : State) (text : List ℕ) (t : State) (rest : List ℕ) → Type 0
Lead format [] s text t rest = (s ≡ t) × (text ≡ rest)
Lead {State} format (l ∷ lines) s text t rest =
    (first more : List ℕ) × (u : State) × (text ≡ first ++ 10 ∷ more) × format.spells s first l × (format.accept l s ≡ Ok u) × Lead format lines u more t rest

-- No line stands at the front of the text.
abbrev pub HasNoLine : {State Line Refusal Answer : Type 0} (format : Format State Line Refusal Answer) (s : State) (text : List ℕ) → Type 0
HasNoLine {State} {Line} format s text = (first more : List ℕ) (l : Line) → text ≡ first ++ 10 ∷ more → format.spells s first l → ⊥

-- Reading ends here, after so many lines, with this answer: the text is over,
abbrev pub EndsWhole : {State Line Refusal Answer : Type 0} (format : Format State Line Refusal Answer) (count : ℕ) (s : State) (rest : List ℕ) (answer : Answer) → Type 0
EndsWhole format count s rest answer = (rest ≡ []) × (answer ≡ format.ended count s)

-- or what comes is no line,
abbrev pub EndsUnread : {State Line Refusal Answer : Type 0} (format : Format State Line Refusal Answer) (count : ℕ) (s : State) (rest : List ℕ) (answer : Answer) → Type 0
EndsUnread format count s rest answer = (rest ≢ []) × HasNoLine format s rest × (answer ≡ format.unread (count + 1))

-- or the line that comes is refused.
abbrev pub EndsRefused : {State Line Refusal Answer : Type 0} (format : Format State Line Refusal Answer) (count : ℕ) (s : State) (rest : List ℕ) (answer : Answer) → Type 0
EndsRefused {State} {Line} {Refusal} format count s rest answer =
    (first more : List ℕ) × (l : Line) × (why : Refusal) × (rest ≡ first ++ 10 ∷ more) × format.spells s first l × (format.accept l s ≡ Err why) × (answer ≡ format.refused (count + 1) why)

-- reading ends in one of these three ways, with this answer
abbrev pub Ends : {State Line Refusal Answer : Type 0} (format : Format State Line Refusal Answer) (count : ℕ) (s : State) (rest : List ℕ) (answer : Answer) → Type 0
Ends format count s rest answer = EndsWhole format count s rest answer ⊎ (EndsUnread format count s rest answer ⊎ EndsRefused format count s rest answer)

-- The text has this answer, where reading starts with this state.
abbrev pub HasAnswer : {State Line Refusal Answer : Type 0} (format : Format State Line Refusal Answer) (start : State) (text : List ℕ) (answer : Answer) → Type 0
HasAnswer {State} {Line} format start text answer =
    (lines : List Line) × (s : State) × (rest : List ℕ) × Lead format lines start text s rest × Ends format (length lines) s rest answer

-- What was read of the text is its answer, unless it is this one, which says that memory ran out.
abbrev pub Tells : {State Line Refusal Answer : Type 0} (format : Format State Line Refusal Answer) (start : State) (no_memory : Answer) (text : List ℕ) (read : Answer) → Type 0
Tells format start no_memory text read = (read ≡ no_memory) ⊎ HasAnswer format start text read

-- Each text has an answer,
abbrev pub EachHasAnswer : {State Line Refusal Answer : Type 0} (format : Format State Line Refusal Answer) (start : State) → Type 0
EachHasAnswer {State} {Line} {Refusal} {Answer} format start = (text : List ℕ) → (answer : Answer) × HasAnswer format start text answer

-- and one at most.
abbrev pub EachHasOne : {State Line Refusal Answer : Type 0} (format : Format State Line Refusal Answer) (start : State) → Type 0
EachHasOne {State} {Line} {Refusal} {Answer} format start =
    (text : List ℕ) (one other : Answer) → HasAnswer format start text one → HasAnswer format start text other → one ≡ other

-- A line is spelled in one way, and holds no line feed.
pub record IsClear {State Line Refusal Answer : Type 0} (format : Format State Line Refusal Answer) : Type 0 where
  pub once : (s : State) (text : List ℕ) (k l : Line) → format.spells s text k → format.spells s text l → k ≡ l
  pub no_feed : (s : State) (text : List ℕ) (l : Line) → format.spells s text l → Without 10 text
