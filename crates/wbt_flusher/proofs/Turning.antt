-- Words of steps: of calls that may be cut off, and of a flusher's turns.
use Rattle.std.proofs.Common.{◌≡◌, ℕ, zero, suc, ◌+◌, ◌-◌, ◌<◌, ◌≤◌, inl, inr, List, [], ◌∷◌, ◌++◌, refl, sym, ap, ◌∙◌, subst, arith, append_assoc, append-nil, Option, Some, None, Bool}
use Rattle.std.specs.Prelude.{IfNone, IfSome}
use Rattle.wbt_flusher.proofs.Common.{claim, look, Setting, Seats, Turn, Stepped, Resting, Done, Halted, Faulted, Spent, NoMemory, Steps, none_as, IsSettled, MayTake, AreCounts}
use Rattle.wbt_kit.proofs.Common.{StepKind, Halts}
use Rattle.wbt_grant.specs.declared.who.StepKind.TheVariants as kind
use Rattle.wbt_table.specs.Calls.{LogsLook, LogsTry}
use Rattle.wbt_table.specs.Calls.Halts.{after_its_look, before_its_look}
use Rattle.wbt_run_steps.specs.Kinds.{StepsAs, StepsInTurn, StepsPart, marking}
use Rattle.wbt_run_steps.proofs.Logging.{as_more, cut_after, cut_whole, made_as, one_as, part_after, part_longer, steps_behind, steps_more, steps_so, steps_still, takes_none}
use Rattle.wbt_turns.specs.Words as turn
use Rattle.wbt_turns.specs.Words.{IsCut, IsTurn, MayMark, MaySettle, counts, loads}
use Rattle.wbt_flusher.specs.Kinds.{ComesAfter, IsLook, StepsBy}

abbrev Words : Type 1
Words = List StepKind → Type 0

-- just this word
abbrev Is : (whole word : List StepKind) → Type 0
Is whole word = word ≡ whole

-- ---- answers that may be none

pub some_so : {A : Type 0} (which : Option A) (P Q : Type 0) → (P → Q) → IfSome which (λ _. P) → IfSome which (λ _. Q)
some_so (Some x) P Q so is = so is
some_so None P Q so is = is

pub none_so : {A : Type 0} (which : Option A) (P Q : Type 0) → (P → Q) → IfNone which P → IfNone which Q
none_so (Some x) P Q so is = is
none_so None P Q so is = so is

-- ---- loads and counts

loads_append : (a b : ℕ) → loads (a + b) ≡ loads a ++ loads b
loads_append zero b = ap loads (let is : zero + b ≡ b = omega arith in is)
loads_append (suc a) b =
    ap loads (let is : suc a + b ≡ suc (a + b) = omega arith in is)
    ∙ ap (λ (l : List StepKind). kind.First ∷ kind.Middle ∷ kind.Limits ∷ kind.Count ∷ l) (loads_append a b)

counts_append : (a b : ℕ) → counts (a + b) ≡ counts a ++ counts b
counts_append zero b = ap counts (let is : zero + b ≡ b = omega arith in is)
counts_append (suc a) b =
    ap counts (let is : suc a + b ≡ suc (a + b) = omega arith in is) ∙ ap (λ (l : List StepKind). kind.Count ∷ l) (counts_append a b)

-- one domain more was loaded
loads_next : (domain : ℕ) → 1 ≤ domain → loads (domain - 1) ++ loads 1 ≡ loads (domain + 1 - 1)
loads_next domain some = sym (loads_append (domain - 1) 1) ∙ ap loads (let is : domain - 1 + 1 ≡ domain + 1 - 1 = omega arith in is)

-- the global one, and then the others
loads_all : (domains : ℕ) → 1 ≤ domains → loads 1 ++ loads (domains - 1) ≡ loads domains
loads_all domains some = sym (loads_append 1 (domains - 1)) ∙ ap loads (let is : 1 + (domains - 1) ≡ domains = omega arith in is)

-- some, one more, and the others after it
loads_later : (before later all : ℕ) → before + 1 + later ≡ all → loads before ++ (loads 1 ++ loads later) ≡ loads all
loads_later before later all is =
    ap (λ (l : List StepKind). loads before ++ l) (sym (loads_append 1 later)) ∙ sym (loads_append before (1 + later))
    ∙ ap loads (let same : before + (1 + later) ≡ all = omega arith in same)

counts_more : (a b : List StepKind) → AreCounts a → AreCounts b → AreCounts (a ++ b)
counts_more a b p q = (p.0 + q.0, (λ i. p.1 i ++ q.1 i) ∙ sym (counts_append p.0 q.0))

-- ---- words of turns

is_test : (domains : ℕ) (a b : List StepKind) → AreCounts a → MayTake b → IsTurn domains (loads domains ++ (a ++ b))
is_test domains a b all takes =
    turn.tests all.0 b takes (sym (append_assoc (loads domains) a b) ∙ ap (λ (l : List StepKind). loads domains ++ l ++ b) all.1)

cut_test : (domains : ℕ) (word : List StepKind) → IsCut (Is (loads domains)) word → IsCut (IsTurn domains) word
cut_test domains word cut = (cut.0, turn.tests 0 [] (inl refl) (cut.1 ∙ sym (append-nil (loads domains)) ∙ sym (append-nil (loads domains ++ []))))

is_scan : (domains : ℕ) (a b : List StepKind) → IsLook a → MayMark b → IsTurn domains (a ++ b)
is_scan domains a b (inl is) marks = turn.looks b (inl marks) (ap (λ (l : List StepKind). l ++ b) is)
is_scan domains a b (inr is) marks = turn.looks (kind.Claim ∷ b) (inr (b, marks, refl)) (ap (λ (l : List StepKind). l ++ b) is)

is_look : (domains : ℕ) (word : List StepKind) → IsLook word → IsTurn domains word
is_look domains word looks = subst (IsTurn domains) (append-nil word) (is_scan domains word [] looks (inl refl))

is_flight : (domains : ℕ) (a b : List StepKind) → Is (kind.Complete ∷ []) a → IsSettled b → IsTurn domains (a ++ b)
is_flight domains a b is settled = turn.completes b settled (ap (λ (l : List StepKind). l ++ b) is)

is_return : (domains : ℕ) (a b : List StepKind) → Is (kind.Look ∷ kind.Back ∷ []) a → ComesAfter b → IsTurn domains (a ++ b)
is_return domains a b is comes =
    turn.gives_back (kind.Back ∷ b) (comes.0, comes.1, comes.2, comes.3, ap (λ (l : List StepKind). kind.Back ∷ l) comes.4) (ap (λ (l : List StepKind). l ++ b) is)

is_missed : (domains : ℕ) (word : List StepKind) → Is (kind.Look ∷ kind.Back ∷ []) word → IsTurn domains word
is_missed domains word is = turn.gives_back (kind.Back ∷ []) ([], [], inl refl, inl refl, refl) is

comes_settled : (word : List StepKind) → MaySettle word → ComesAfter word
comes_settled word settled = (word, [], settled, inl refl, sym (append-nil word))

comes_marked : (a b : List StepKind) → MaySettle a → MayMark b → ComesAfter (a ++ b)
comes_marked a b settled marks = (a, b, settled, marks, refl)

module _ (cpu : ℕ) where
  as_word : (word : List StepKind) (old new : Seats) → StepsAs cpu word old new → Steps cpu (Is word) old new
  as_word word old new steps = (word, refl, steps)

  -- ---- calls that make no step

  no_steps : (P : Words) (old new : Seats) → P [] → new.cpu ≡ old.cpu → Steps cpu P old new
  no_steps P old new empty same = ([], empty, none_as cpu old new same)

  -- after one
  pub still_after : (P : Words) (old mid new : Seats) → Steps cpu P old mid → new.cpu ≡ mid.cpu → Steps cpu P old new
  still_after P old mid new steps same = steps_still cpu P old mid new steps (none_as cpu mid new same)

  -- before one
  pub still_before : (P : Words) (old mid new : Seats) → mid.cpu ≡ old.cpu → Steps cpu P mid new → Steps cpu P old new
  still_before P old mid new same steps = steps_behind cpu P old mid new (none_as cpu old mid same) steps

  -- ---- by an answer

  pub by_whole : (P : Words) (answer : Turn) (old new : Seats) → Steps cpu P old new → StepsBy cpu P answer old new
  by_whole P Stepped old new steps = steps
  by_whole P Done old new steps = steps
  by_whole P Halted old new steps = cut_whole cpu P old new steps
  by_whole P Faulted old new steps = steps
  by_whole P Spent old new steps = steps
  by_whole P (Resting now until) old new steps = steps
  by_whole P NoMemory old new steps = steps

  module _ (P Q R : Words) (old mid new : Seats) (both : (a b : List StepKind) → P a → Q b → R (a ++ b)) (first : Steps cpu P old mid) where
    -- a call that may be cut off comes after one that isn't
    pub by_after : (answer : Turn) → StepsBy cpu Q answer mid new → StepsBy cpu R answer old new
    by_after Stepped steps = steps_more cpu P Q R old mid new both first steps
    by_after Done steps = steps_more cpu P Q R old mid new both first steps
    by_after Halted steps = cut_after cpu P Q R old mid new both first steps
    by_after Faulted steps = steps_more cpu P Q R old mid new both first steps
    by_after Spent steps = steps_more cpu P Q R old mid new both first steps
    by_after (Resting now until) steps = steps_more cpu P Q R old mid new both first steps
    by_after NoMemory steps = steps_more cpu P Q R old mid new both first steps

  -- ---- loads

  pub loads_one : (domain : ℕ) (old mid new : Seats) → 1 ≤ domain → StepsAs cpu (loads (domain - 1)) old mid → StepsAs cpu (loads 1) mid new
      → StepsAs cpu (loads (domain + 1 - 1)) old new
  loads_one domain old mid new some before one =
      subst (λ (word : List StepKind). StepsAs cpu word old new) (loads_next domain some) (as_more cpu (loads (domain - 1)) (loads 1) old mid new before one)

  pub loads_each : (domains : ℕ) (old mid new : Seats) → 1 ≤ domains → StepsAs cpu (loads 1) old mid → StepsAs cpu (loads (domains - 1)) mid new
      → StepsAs cpu (loads domains) old new
  loads_each domains old mid new some first others =
      subst (λ (word : List StepKind). StepsAs cpu word old new) (loads_all domains some) (as_more cpu (loads 1) (loads (domains - 1)) old mid new first others)

  -- the load of one of the others was cut off
  pub others_cut : (domain domains : ℕ) (old mid new : Seats) → 1 ≤ domain → domain < domains → StepsAs cpu (loads (domain - 1)) old mid → StepsPart cpu (loads 1) mid new
      → StepsPart cpu (loads (domains - 1)) old new
  others_cut domain domains old mid new some less before cut =
      let later = domains - 1 - domain in
      subst (λ (whole : List StepKind). StepsPart cpu whole old new) (loads_later (domain - 1) later (domains - 1) (omega arith))
      (part_after cpu (loads (domain - 1)) (loads 1 ++ loads later) old mid new before (part_longer cpu (loads 1) (loads later) mid new cut))

  -- that of the global one was
  pub global_cut : (domains : ℕ) (old new : Seats) → 1 ≤ domains → StepsPart cpu (loads 1) old new → StepsPart cpu (loads domains) old new
  global_cut domains old new some cut =
      subst (λ (whole : List StepKind). StepsPart cpu whole old new) (loads_all domains some) (part_longer cpu (loads 1) (loads (domains - 1)) old new cut)

  -- or of one after it
  pub later_cut : (domains : ℕ) (old mid new : Seats) → 1 ≤ domains → StepsAs cpu (loads 1) old mid → StepsPart cpu (loads (domains - 1)) mid new → StepsPart cpu (loads domains) old new
  later_cut domains old mid new some first cut =
      subst (λ (whole : List StepKind). StepsPart cpu whole old new) (loads_all domains some) (part_after cpu (loads 1) (loads (domains - 1)) old mid new first cut)

  -- ---- counts, marks, and inodes that are taken

  pub no_counts : (old new : Seats) → new.cpu ≡ old.cpu → Steps cpu AreCounts old new
  no_counts old new same = no_steps AreCounts old new (0, refl) same

  pub one_count : (old new : Seats) → StepsAs cpu (counts 1) old new → Steps cpu AreCounts old new
  one_count old new steps = (counts 1, (1, refl), steps)

  pub counts_after : (old mid new : Seats) → Steps cpu AreCounts old mid → Steps cpu AreCounts mid new → Steps cpu AreCounts old new
  counts_after old mid new = steps_more cpu AreCounts AreCounts AreCounts old mid new counts_more

  pub no_take : (old new : Seats) → new.cpu ≡ old.cpu → Steps cpu MayTake old new
  no_take old new same = no_steps MayTake old new (inl refl) same

  pub one_take : (old new : Seats) → StepsAs cpu (kind.Unmark ∷ []) old new → Steps cpu MayTake old new
  one_take old new steps = (kind.Unmark ∷ [], inr refl, steps)

  pub no_mark : (old new : Seats) → new.cpu ≡ old.cpu → Steps cpu MayMark old new
  no_mark old new same = no_steps MayMark old new (inl refl) same

  pub one_mark : (old new : Seats) → StepsAs cpu marking old new → Steps cpu MayMark old new
  one_mark old new steps = (marking, inr refl, steps)

  -- ---- a look at a page

  module _ (set : Setting) (page : ℕ) where
    pub looked_as : (n : ℕ) (old new : Seats) → LogsLook set cpu page n old.cpu new.cpu → Steps cpu IsLook old new
    looked_as n old new logs = (kind.Look ∷ [], inl refl, one_as cpu set (look cpu page) n old new logs)

    pub claimed_as : (n m : ℕ) (old new : Seats) → LogsTry set cpu page n m old.cpu new.cpu → Steps cpu IsLook old new
    claimed_as n m old new logs = (kind.Look ∷ kind.Claim ∷ [], inr refl, made_as cpu set (record { step = look cpu page; found = n } ∷ record { step = claim cpu page; found = m } ∷ []) old new logs)

    pub halted_as : (said : ℕ → Bool → Type 0) (old new : Seats) → Halts set cpu page said old.cpu new.cpu → Steps cpu (IsCut IsLook) old new
    halted_as said old new (before_its_look same) = ([], (kind.Look ∷ [], inl refl), none_as cpu old new same)
    halted_as said old new (after_its_look n claimable change logs asked) = (kind.Look ∷ [], ([], inl refl), one_as cpu set (look cpu page) n old new logs)

  -- ---- a page that was given back

  pub comes_back : (old new : Seats) → Steps cpu MaySettle old new → Steps cpu ComesAfter old new
  comes_back old new = steps_so cpu MaySettle ComesAfter old new comes_settled

  pub comes_back_cut : (old new : Seats) → Steps cpu (IsCut MaySettle) old new → Steps cpu (IsCut ComesAfter) old new
  comes_back_cut old new = steps_so cpu (IsCut MaySettle) (IsCut ComesAfter) old new (λ word cut. (cut.0, comes_settled (word ++ cut.0) cut.1))

  pub comes_back_last : (old mid new : Seats) → Steps cpu MaySettle old mid → Steps cpu MayMark mid new → Steps cpu ComesAfter old new
  comes_back_last old mid new = steps_more cpu MaySettle MayMark ComesAfter old mid new comes_marked

  -- ---- turns

  module _ (domains : ℕ) where
    in_turn : (answer : Turn) (old new : Seats) → StepsBy cpu (IsTurn domains) answer old new → StepsInTurn domains cpu answer old new
    in_turn Stepped old new steps = steps
    in_turn Done old new steps = steps
    in_turn Halted old new steps = steps
    in_turn Faulted old new steps = steps
    in_turn Spent old new steps = steps
    in_turn (Resting now until) old new steps = steps
    in_turn NoMemory old new steps = steps

    whole_turn : (answer : Turn) (old new : Seats) → Steps cpu (IsTurn domains) old new → StepsInTurn domains cpu answer old new
    whole_turn answer old new steps = in_turn answer old new (by_whole (IsTurn domains) answer old new steps)

    -- no step was made
    pub turn_rests : (answer : Turn) (old new : Seats) → new.cpu ≡ old.cpu → StepsInTurn domains cpu answer old new
    turn_rests answer old new same = whole_turn answer old new (takes_none domains cpu old new (none_as cpu old new same))

    pub turn_takes : (answer : Turn) (old new : Seats) → Steps cpu MayTake old new → StepsInTurn domains cpu answer old new
    turn_takes answer old new steps = whole_turn answer old new (steps_so cpu MayTake (IsTurn domains) old new (λ word may. turn.rests may) steps)

    -- a test was cut off among its loads
    pub test_cut : (old new : Seats) → StepsPart cpu (loads domains) old new → StepsInTurn domains cpu Halted old new
    test_cut old new = steps_so cpu (IsCut (Is (loads domains))) (IsCut (IsTurn domains)) old new (cut_test domains)

    -- or came to its counts, and maybe further
    pub turn_tests : (answer : Turn) (old read counted new : Seats) → StepsAs cpu (loads domains) old read → Steps cpu AreCounts read counted → Steps cpu MayTake counted new
        → StepsInTurn domains cpu answer old new
    turn_tests answer old read counted new reads all takes = whole_turn answer old new (
      loads domains ++ (all.0 ++ takes.0),
      is_test domains all.0 takes.0 all.1 takes.1,
      as_more cpu (loads domains) (all.0 ++ takes.0) old read new reads (as_more cpu all.0 takes.0 read counted new all.2 takes.2),
    )

    pub turn_looks : (answer : Turn) (old new : Seats) → Steps cpu IsLook old new → StepsInTurn domains cpu answer old new
    turn_looks answer old new steps = whole_turn answer old new (steps_so cpu IsLook (IsTurn domains) old new (is_look domains) steps)

    pub look_cut : (old new : Seats) → Steps cpu (IsCut IsLook) old new → StepsInTurn domains cpu Halted old new
    look_cut old new = steps_so cpu (IsCut IsLook) (IsCut (IsTurn domains)) old new (λ word cut. (cut.0, is_look domains (word ++ cut.0) cut.1))

    pub turn_scans : (answer : Turn) (old mid new : Seats) → Steps cpu IsLook old mid → Steps cpu MayMark mid new → StepsInTurn domains cpu answer old new
    turn_scans answer old mid new looks marks = whole_turn answer old new (steps_more cpu IsLook MayMark (IsTurn domains) old mid new (is_scan domains) looks marks)

    pub turn_completes : (answer : Turn) (old mid new : Seats) → StepsAs cpu (kind.Complete ∷ []) old mid → StepsBy cpu IsSettled answer mid new
        → StepsInTurn domains cpu answer old new
    turn_completes answer old mid new completes lands =
        in_turn answer old new
        (by_after (Is (kind.Complete ∷ [])) IsSettled (IsTurn domains) old mid new (is_flight domains) (as_word (kind.Complete ∷ []) old mid completes) answer lands)

    pub turn_gives : (answer : Turn) (old mid new : Seats) → StepsAs cpu (kind.Look ∷ kind.Back ∷ []) old mid → StepsBy cpu ComesAfter answer mid new
        → StepsInTurn domains cpu answer old new
    turn_gives answer old mid new gives comes =
        in_turn answer old new
        (by_after (Is (kind.Look ∷ kind.Back ∷ [])) ComesAfter (IsTurn domains) old mid new (is_return domains) (as_word (kind.Look ∷ kind.Back ∷ []) old mid gives) answer comes)

    pub turn_misses : (answer : Turn) (old new : Seats) → StepsAs cpu (kind.Look ∷ kind.Back ∷ []) old new → StepsInTurn domains cpu answer old new
    turn_misses answer old new steps =
        whole_turn answer old new
        (steps_so cpu (Is (kind.Look ∷ kind.Back ∷ [])) (IsTurn domains) old new (is_missed domains) (as_word (kind.Look ∷ kind.Back ∷ []) old new steps))

    pub back_cut : (old new : Seats) → StepsPart cpu (kind.Look ∷ kind.Back ∷ []) old new → StepsInTurn domains cpu Halted old new
    back_cut old new =
        steps_so cpu (IsCut (Is (kind.Look ∷ kind.Back ∷ []))) (IsCut (IsTurn domains)) old new (λ word cut. (cut.0, is_missed domains (word ++ cut.0) cut.1))
