-- The seats' log of a CPU tells of which kinds the steps are that the CPU made.
use Rattle.std.proofs.Common.{◌≡◌, ◌≢◌, ℕ, List, [], ◌∷◌, ◌++◌, map, Option, Some, None, Result, Ok, Err, inl, refl, sym, ap, ◌∙◌, subst, append_assoc, append-nil}
use Rattle.std.specs.Prelude.{IfOk, OnErr, OnOk}
use lib.ListN.{get_elem?}
use Rattle.wbt_kit.proofs.Common.{Count, Counter, Step, mark, cpu_for, maker_of, Setting, StepKind, Who, IsCutLoad, Made, at_once, after_first, after_middle, LogsSteps, setting, HasLog, Logs, LogComes, Makes, Seated, Triple, Granted, Logged}
use Rattle.wbt_grant.specs.Effects.{Access, effect}
use Rattle.wbt_grant.specs.declared.who.StepKind.TheVariants as kind
use Rattle.wbt_kit.specs.declared.kit.Kit.{Kit}
use Rattle.wbt_kit.specs.declared.kit.Seats.{Seats}
use Rattle.wbt_kit.specs.declared.turn.Turn.{Turn}
use Rattle.wbt_kit.specs.declared.turn.Turn.TheVariants.{Stepped, Resting, Done, Halted, Faulted, Spent, NoMemory}
use Rattle.wbt_table.specs.Calls.{IsCutBack}
use Rattle.wbt_table.specs.Calls.IsCutBack.{at_once as before_look, after_look}
use Rattle.wbt_table.specs.History.{LogsGrant, LogsStep, Past, log_granted, log_of, step_told}
use Rattle.wbt_table.specs.Seat.{LogsOne}
use Rattle.wbt_table.proofs.Logging.{put_log_else, put_log_here}
use Rattle.wbt_turns.specs.Words.{IsCut, IsCutTurn, IsTurn, counts, kind_of}
use Rattle.wbt_turns.specs.Words.IsTurn.{rests}
use Rattle.wbt_run_steps.specs.Inodes.{MarksInode}
use Rattle.wbt_run_steps.specs.Kinds.{CutsTurn, Steps, StepsAs, StepsInTurn, StepsPart, TakesTurn, kinds_in, loads_of_limits, marking}
use Rattle.wbt_run_steps.specs.Loads.{LoadsCount, LoadsLimits, LoadsSome}
use Rattle.wbt_run_steps.specs.Made.{MakesEach, MakesSome, MakesThese}
use Rattle.wbt_run_steps.proofs.Making.{step_in}

-- ---- the kinds of steps that are listed

-- of one; a grant is no step, and has none
abbrev pub kind_at : (access : Option Access) → List StepKind
kind_at None = []
kind_at (Some access) = access.kind ∷ []

abbrev pub kind_in : (step : Step) → List StepKind
kind_in step = kind_at (effect step).access

abbrev pub kinds_listed : (steps : List Step) → List StepKind
kinds_listed [] = []
kinds_listed (step ∷ steps) = kind_in step ++ kinds_listed steps

abbrev pub kinds_made : (made : List Made) → List StepKind
kinds_made made = kinds_listed (map step_in made)

pub listed_both : (a b : List Step) → kinds_listed (a ++ b) ≡ kinds_listed a ++ kinds_listed b
listed_both [] b = refl
listed_both (step ∷ a) b = ap (λ (l : List StepKind). kind_in step ++ l) (listed_both a b) ∙ sym (append_assoc (kind_in step) (kinds_listed a) (kinds_listed b))

-- ---- what a log tells

kind_told : (access : Option Access) (n : ℕ) → kind_of (step_told access n) ≡ kind_at access
kind_told None n = refl
kind_told (Some access) n = refl

granted_kinds : (moment : ℕ) (grants : Option Granted) (log : List Logged) → kinds_in (log_granted moment grants log) ≡ kinds_in log
granted_kinds moment None log = refl
granted_kinds moment (Some g) log = append-nil (kinds_in log)

grant_kinds : (grants : Option Granted) (old new : List Logged) → LogsGrant grants old new → kinds_in new ≡ kinds_in old
grant_kinds grants old new logs = ap kinds_in logs.1 ∙ granted_kinds logs.0 grants old

step_kinds : (set : Setting) (own : Past → List Logged) (grants : Option Granted) (step : Step) (n : ℕ) (old new : List Logged) → LogsStep set own grants step n old new
    → kinds_in new ≡ kinds_in old ++ kind_in step
step_kinds set own grants step n old new logs =
    ap kinds_in logs.log
    ∙ ap (λ (l : List StepKind). kinds_in (own logs.past) ++ l) (kind_told (effect step).access n)
    ∙ ap (λ (l : List StepKind). l ++ kind_in step) (grant_kinds grants old (own logs.past) logs.granted)

steps_kinds : (set : Setting) (own : Past → List Logged) (made : List Made) (old new : List Logged) → LogsSteps set own made old new → kinds_in new ≡ kinds_in old ++ kinds_made made
steps_kinds set own [] old new logs = ap kinds_in logs ∙ sym (append-nil (kinds_in old))
steps_kinds set own (m ∷ made) old new logs =
    steps_kinds set own made logs.1 new logs.3
    ∙ ap (λ (l : List StepKind). l ++ kinds_made made) (step_kinds set own logs.0 m.step m.found old logs.1 logs.2)
    ∙ append_assoc (kinds_in old) (kind_in m.step) (kinds_made made)

-- ---- what seats tell

module _ (cpu : ℕ) where
  comes_as : (P : List Logged → List Logged → Type 0) (word : List StepKind) (old new : Seats) → ((was is : List Logged) → P was is → kinds_in is ≡ kinds_in was ++ word)
      → LogComes cpu P old.cpu new.cpu → StepsAs cpu word old new
  comes_as P word old new so comes = record {
    logs = λ log has. let change = comes.logs in
        (change.0, subst (λ (l : Logs). HasLog l cpu change.0) (sym change.1) (put_log_here cpu change.0 log old.cpu.logs has), so log change.0 (change.2 log has));
    others = λ other ne. let change = comes.logs in ap (λ (l : Logs). get_elem? l other) change.1 ∙ put_log_else cpu other change.0 old.cpu.logs ne;
    timer = comes.timer_log;
  }

  -- one step
  pub one_as : (set : Setting) (step : Step) (n : ℕ) (old new : Seats) → LogComes cpu (LogsOne set cpu step n) old.cpu new.cpu → StepsAs cpu (kind_in step) old new
  one_as set step n old new = comes_as (LogsOne set cpu step n) (kind_in step) old new (λ was is t. step_kinds set (log_of set cpu) t.0 step n was is t.1)

  pub makes_as : (set : Setting) (step : Step) (n : ℕ) (old new : Seats) → maker_of set step ≡ cpu → Makes set step n old.cpu new.cpu → StepsAs cpu (kind_in step) old new
  makes_as set step n old new its makes = one_as set step n old new (subst (λ (c : ℕ). LogComes c (LogsOne set c step n) old.cpu new.cpu) its makes.logs)

  -- steps one after another
  pub made_as : (set : Setting) (made : List Made) (old new : Seats) → LogComes cpu (LogsSteps set (log_of set cpu) made) old.cpu new.cpu → StepsAs cpu (kinds_made made) old new
  made_as set made old new = comes_as (LogsSteps set (log_of set cpu) made) (kinds_made made) old new (λ was is t. steps_kinds set (log_of set cpu) made was is t)

  -- a grant is no step
  pub grant_as : (old new : Seats) → LogComes cpu (λ was is. (grants : Option Granted) × LogsGrant grants was is) old.cpu new.cpu → StepsAs cpu [] old new
  grant_as old new = comes_as (λ was is. (grants : Option Granted) × LogsGrant grants was is) [] old new
      (λ was is t. grant_kinds t.0 was is t.1 ∙ sym (append-nil (kinds_in was)))

  -- nothing was made
  pub none_as : (old new : Seats) → new.cpu ≡ old.cpu → StepsAs cpu [] old new
  none_as old new same = record {
    logs = λ log has. (log, subst (λ (s : Seated). HasLog s.logs cpu log) (sym same) has, sym (append-nil (kinds_in log)));
    others = λ other ne. ap (λ (s : Seated). get_elem? s.logs other) same;
    timer = ap (λ (s : Seated). s.timer_log) same;
  }

  -- ---- one after another

  pub as_more : (a b : List StepKind) (old mid new : Seats) → StepsAs cpu a old mid → StepsAs cpu b mid new → StepsAs cpu (a ++ b) old new
  as_more a b old mid new p q = record {
    logs = λ log has.
        let first = p.logs log has in
        let second = q.logs first.0 first.1 in
        (second.0, second.1, second.2 ∙ ap (λ (l : List StepKind). l ++ b) first.2 ∙ append_assoc (kinds_in log) a b);
    others = λ other ne. q.others other ne ∙ p.others other ne;
    timer = q.timer ∙ p.timer;
  }

  pub as_still : (a : List StepKind) (old mid new : Seats) → StepsAs cpu a old mid → StepsAs cpu [] mid new → StepsAs cpu a old new
  as_still a old mid new p q = subst (λ (word : List StepKind). StepsAs cpu word old new) (append-nil a) (as_more a [] old mid new p q)

  -- words of two calls are a word of both
  pub steps_more : (A B C : List StepKind → Type 0) (old mid new : Seats) → ((a b : List StepKind) → A a → B b → C (a ++ b)) → Steps cpu A old mid → Steps cpu B mid new → Steps cpu C old new
  steps_more A B C old mid new both p q = (p.0 ++ q.0, both p.0 q.0 p.1 q.1, as_more p.0 q.0 old mid new p.2 q.2)

  pub steps_behind : (A : List StepKind → Type 0) (old mid new : Seats) → StepsAs cpu [] old mid → Steps cpu A mid new → Steps cpu A old new
  steps_behind A old mid new p q = (q.0, q.1, as_more [] q.0 old mid new p q.2)

  pub steps_still : (A : List StepKind → Type 0) (old mid new : Seats) → Steps cpu A old mid → StepsAs cpu [] mid new → Steps cpu A old new
  steps_still A old mid new p q = (p.0, p.1, as_still p.0 old mid new p.2 q)

  -- such words are others too
  pub steps_so : (A B : List StepKind → Type 0) (old new : Seats) → ((word : List StepKind) → A word → B word) → Steps cpu A old new → Steps cpu B old new
  steps_so A B old new so p = (p.0, so p.0 p.1, p.2)

  -- ---- first parts

  -- of the second call's, after the whole of the first
  pub cut_after : (A B C : List StepKind → Type 0) (old mid new : Seats) → ((a b : List StepKind) → A a → B b → C (a ++ b)) → Steps cpu A old mid → Steps cpu (IsCut B) mid new
      → Steps cpu (IsCut C) old new
  cut_after A B C old mid new both = steps_more A (IsCut B) (IsCut C) old mid new
      (λ a b is cut. (cut.0, subst C (sym (append_assoc a b cut.0)) (both a (b ++ cut.0) is cut.1)))

  -- where words of one kind begin those of another
  pub cut_so : (A B : List StepKind → Type 0) (old new : Seats) → ((word : List StepKind) → A word → (more : List StepKind) × B (word ++ more)) → Steps cpu (IsCut A) old new
      → Steps cpu (IsCut B) old new
  cut_so A B old new so = steps_so (IsCut A) (IsCut B) old new
      (λ word cut. let longer = so (word ++ cut.0) cut.1 in (cut.0 ++ longer.0, subst B (append_assoc word cut.0 longer.0) longer.1))

  -- where nothing is left to be made
  pub cut_whole : (A : List StepKind → Type 0) (old new : Seats) → Steps cpu A old new → Steps cpu (IsCut A) old new
  cut_whole A old new = steps_so A (IsCut A) old new (λ word is. ([], subst A (sym (append-nil word)) is))

  -- of a word that is given
  pub part_first : (a b : List StepKind) (old new : Seats) → StepsAs cpu a old new → StepsPart cpu (a ++ b) old new
  part_first a b old new steps = (a, (b, refl), steps)

  pub part_longer : (a b : List StepKind) (old new : Seats) → StepsPart cpu a old new → StepsPart cpu (a ++ b) old new
  part_longer a b old new = cut_so (λ word. word ≡ a) (λ word. word ≡ a ++ b) old new (λ word is. (b, ap (λ (l : List StepKind). l ++ b) is))

  pub part_after : (a b : List StepKind) (old mid new : Seats) → StepsAs cpu a old mid → StepsPart cpu b mid new → StepsPart cpu (a ++ b) old new
  part_after a b old mid new p = cut_after (λ word. word ≡ a) (λ word. word ≡ b) (λ word. word ≡ a ++ b) old mid new (λ x y is are. (λ i. is i ++ are i)) (a, refl, p)

-- ---- turns

module _ (domains cpu : ℕ) where
  -- where nothing was made, a task or a flusher rests
  pub takes_none : (old new : Seats) → StepsAs cpu [] old new → TakesTurn domains cpu old new
  takes_none old new steps = ([], rests (inl refl), steps)

  -- or it was cut off before its first step
  pub cuts_none : (old new : Seats) → StepsAs cpu [] old new → CutsTurn domains cpu old new
  cuts_none old new steps = cut_whole cpu (IsTurn domains) old new (takes_none old new steps)

  -- a turn before which nothing was made
  pub turn_behind : (answer : Turn) (old mid new : Seats) → StepsAs cpu [] old mid → StepsInTurn domains cpu answer mid new → StepsInTurn domains cpu answer old new
  turn_behind Stepped old mid new p q = steps_behind cpu (IsTurn domains) old mid new p q
  turn_behind (Resting now until) old mid new p q = steps_behind cpu (IsTurn domains) old mid new p q
  turn_behind Done old mid new p q = steps_behind cpu (IsTurn domains) old mid new p q
  turn_behind Halted old mid new p q = steps_behind cpu (IsCutTurn domains) old mid new p q
  turn_behind Faulted old mid new p q = steps_behind cpu (IsTurn domains) old mid new p q
  turn_behind Spent old mid new p q = steps_behind cpu (IsTurn domains) old mid new p q
  turn_behind NoMemory old mid new p q = steps_behind cpu (IsTurn domains) old mid new p q

-- ---- steps that are listed

module _ (kit : Kit) (cpu : ℕ) where
  pub these_as : (made : List Made) (old new : Seats) → MakesThese kit cpu made old new → StepsAs cpu (kinds_made made) old new
  these_as made old new makes = made_as cpu (setting kit.throttle.layout) made old new makes.logs

  pub each_as : (steps : List Step) (old new : Seats) → MakesEach kit cpu steps old new → StepsAs cpu (kinds_listed steps) old new
  each_as steps old new makes = subst (λ (l : List Step). StepsAs cpu (kinds_listed l) old new) makes.steps_are (these_as makes.made old new makes.makes)

  pub some_as : (steps : List Step) (old new : Seats) → MakesSome kit cpu steps old new → StepsPart cpu (kinds_listed steps) old new
  some_as steps old new makes = (
    kinds_listed makes.made,
    (kinds_listed makes.left, sym (listed_both makes.made makes.left) ∙ ap kinds_listed (sym makes.whole)),
    each_as makes.made old new makes.makes,
  )

  -- ---- single calls

  pub count_as : (who : Who) (counter : Counter) (load : Count) (old new : Seats) → cpu_for (setting kit.throttle.layout) who ≡ cpu → LoadsCount kit who counter load old new
      → StepsAs cpu (counts 1) old new
  count_as who counter load old new its loads = makes_as cpu (setting kit.throttle.layout) _ loads.found old new its loads.makes

  pub mark_as : (inode : ℕ) (clear : _) (old new : Seats) → MarksInode kit cpu inode clear old new → StepsAs cpu marking old new
  mark_as inode clear old new marks = makes_as cpu (setting kit.throttle.layout) (mark cpu inode) marks.found old new refl marks.makes

  -- the limits of a domain were loaded
  pub limits_as : (who : Who) (domain : ℕ) (triple : Triple) (old new : Seats) → LoadsLimits kit cpu who domain triple old new → StepsAs cpu loads_of_limits old new
  limits_as who domain triple old new loads = these_as _ old new loads.makes

  -- or a first part of these steps was made
  cut_load_left : (domain : ℕ) (made : List Made) → IsCutLoad cpu domain made → IsCut (λ word. word ≡ loads_of_limits) (kinds_made made)
  cut_load_left domain made (at_once is) = (loads_of_limits, ap (λ (l : List Made). kinds_made l ++ loads_of_limits) is)
  cut_load_left domain made (after_first n is) = (kind.Middle ∷ kind.Limits ∷ [], ap (λ (l : List Made). kinds_made l ++ kind.Middle ∷ kind.Limits ∷ []) is)
  cut_load_left domain made (after_middle n m is) = (kind.Limits ∷ [], ap (λ (l : List Made). kinds_made l ++ kind.Limits ∷ []) is)

  pub some_limits_as : (domain : ℕ) (old new : Seats) → LoadsSome kit cpu domain old new → StepsPart cpu loads_of_limits old new
  some_limits_as domain old new some = (kinds_made some.made, cut_load_left domain some.made some.cut, these_as some.made old new some.makes)

  -- by answer
  pub limits_loaded : {E : Type 0} (who : Who) (domain : ℕ) (held : Result Triple E) (old new : Seats) → IfOk held (λ triple. LoadsLimits kit cpu who domain triple old new)
      → OnOk held (StepsAs cpu loads_of_limits old new)
  limits_loaded who domain (Ok triple) old new loads = limits_as who domain triple old new loads
  limits_loaded who domain (Err stopped) old new loads = tt

  pub limits_cut : {E : Type 0} (domain : ℕ) (held : Result Triple E) (old new : Seats) → OnErr held (LoadsSome kit cpu domain old new) → OnErr held (StepsPart cpu loads_of_limits old new)
  limits_cut domain (Ok triple) old new some = tt
  limits_cut domain (Err stopped) old new some = some_limits_as domain old new some

-- a look at a page that is to be given back, or that and the exchange
pub cut_back_left : (cpu page : ℕ) (made : List Made) → IsCutBack cpu page made → IsCut (λ word. word ≡ kind.Look ∷ kind.Back ∷ []) (kinds_made made)
cut_back_left cpu page made (before_look is) = (kind.Look ∷ kind.Back ∷ [], ap (λ (l : List Made). kinds_made l ++ kind.Look ∷ kind.Back ∷ []) is)
cut_back_left cpu page made (after_look n writeback is) = (kind.Back ∷ [], ap (λ (l : List Made). kinds_made l ++ kind.Back ∷ []) is)
