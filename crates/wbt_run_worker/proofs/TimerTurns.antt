-- The timer's turns so far, one after another.
use Rattle.std.proofs.Common.{◌≡◌, ℕ, ◌+◌, ◌≤◌, ◌||◌, ◌⊎◌, inl, inr, Bool, true, false, not, cond, List, [], ◌∷◌, ◌++◌, length, refl, sym, ap, ◌∙◌, subst, arith, length-append}
use Rattle.wbt_run_worker.proofs.Common.{Known, Each, StepKind, Kit, Seats, Turn, IsTimerTurn, IsWhole}
use Rattle.wbt_kit.specs.declared.turn.Turn.TheVariants.{Stepped, Resting, Done, Halted, Faulted, Spent, NoMemory}
use Rattle.std.proofs.lemmas.List.{append-nil}
use Rattle.wbt_table.specs.Layout.{domains}
use Rattle.wbt_timer.specs.Kinds.{HasSealed, Steps, StepsAs, StepsBy}
use Rattle.wbt_timer.proofs.Made.{steps_more as timer_more, turns_follow}
use Rattle.wbt_run_worker.specs.TimerTurns.{AreTurns, TurnsEndBy, GoesOnAfter, HasTakenTurns, HasTurned, HasTurnedOnce, IsOneTurn, StepsSo, HasTurnedToTheEnd, IsTurn, TakesATurn, TimerTakesTurn, TimerStance, is_refused, is_stopped, timer_stance}
use Rattle.wbt_run_worker.specs.Voices.{LeavesFor}
use Rattle.wbt_run_worker.specs.declared.ticking.TimerWorker.{TimerWorker}

pub goes_after : (answer : Turn) → (answer ≡ NoMemory → ⊥) → (answer ≡ Halted → ⊥) → GoesOnAfter answer
goes_after Stepped out stopped = tt
goes_after (Resting now until) out stopped = tt
goes_after Done out stopped = tt
goes_after Halted out stopped = stopped refl
goes_after Faulted out stopped = tt
goes_after Spent out stopped = tt
goes_after NoMemory out stopped = out refl

pub goes_by : (answer : Turn) → (answer ≡ NoMemory → ⊥) → (answer ≡ Halted → ⊥) → true ≡ not (is_refused answer || is_stopped answer)
goes_by Stepped out stopped = refl
goes_by (Resting now until) out stopped = refl
goes_by Done out stopped = refl
goes_by Halted out stopped = absurd (stopped refl)
goes_by Faulted out stopped = refl
goes_by Spent out stopped = refl
goes_by NoMemory out stopped = absurd (out refl)

-- a turn that was neither refused memory nor stopped
pub goes_so : (answer : Turn) → GoesOnAfter answer → (is_refused answer ≡ false) × (is_stopped answer ≡ false)
goes_so Stepped goes = (refl, refl)
goes_so (Resting now until) goes = (refl, refl)
goes_so Done goes = (refl, refl)
goes_so Halted goes = absurd goes
goes_so Faulted goes = (refl, refl)
goes_so Spent goes = (refl, refl)
goes_so NoMemory goes = absurd goes

pub may_go : (answer : Turn) → not (is_refused answer || is_stopped answer) ≡ true → GoesOnAfter answer
may_go Stepped so = tt
may_go (Resting now until) so = tt
may_go Done so = tt
may_go Halted so = absurd (let no : false ≡ true = so in cc)
may_go Faulted so = tt
may_go Spent so = tt
may_go NoMemory so = absurd (let no : false ≡ true = so in cc)

pub rang_once : (a b : Known) → b ≡ record a { rings = a.rings + 1; notes = b.notes } → b.rings ≡ a.rings + 1
rang_once a b is = ap (λ (v : Known). v.rings) is

-- where no step was made after whole turns
none_more : (n : ℕ) (a b c : Seats) → Steps (IsWhole (IsTimerTurn n)) a b → StepsAs [] b c → HasSealed c → StepsSo n false a c
none_more n a b c all none has = ((all.0, all.1, subst (λ (w : List StepKind). StepsAs w a c) (append-nil all.0) (timer_more all.0 [] a b c all.2 none)), has)

module _ (told : ℕ → Type 0) (said : ℕ → ℕ → Bool → Type 0) (kit : Kit) where
  turn_more : (turns : List Turn) (last : Turn) (a b c : TimerStance) → AreTurns told said kit turns a b → IsTurn told said kit last b c → AreTurns told said kit (turns ++ last ∷ []) a c
  turn_more [] last a b c are one = (c, subst (λ (s : TimerStance). IsTurn told said kit last s c) are one, refl)
  turn_more (t ∷ turns) last a b c are one = (are.0, are.1, turn_more turns last are.0 b c are.2 one)

  each_more : (turns : List Turn) (last : Turn) → Each GoesOnAfter turns → GoesOnAfter last → Each GoesOnAfter (turns ++ last ∷ [])
  each_more [] last each one = (one, tt)
  each_more (t ∷ turns) last each one = (each.0, each_more turns last each.1 one)

  -- turns, after each of which it goes on
  pub record SoManyTurns (old new : TimerStance) : Type 0 where
    pub turns : List Turn
    pub are : AreTurns told said kit turns old new
    pub each : Each GoesOnAfter turns

  pub no_turn_yet : (s : TimerStance) → SoManyTurns s s
  no_turn_yet s = record { turns = []; are = refl; each = tt }

  module _ (old new : TimerWorker) (seats seats' : Seats) where
    -- turns, of which the last had no memory
    pub turned_out : (mid : TimerStance) → SoManyTurns (timer_stance old seats) mid → IsTurn told said kit NoMemory mid (timer_stance new seats') → new.refused ≡ true → new.halted ≡ old.halted
        → new.voice.rings ≡ old.voice.rings + 1 → HasTurnedToTheEnd told said kit old new seats seats'
    turned_out mid many one refused halted rings = record {
      turned = record {
        turns = many.turns ++ NoMemory ∷ [];
        are = turn_more many.turns NoMemory (timer_stance old seats) mid (timer_stance new seats') many.are one;
        out = true;
        stopped = false;
        ends = (many.turns, refl, many.each);
        refused = refused;
        halted = halted;
        rings = rings;
      };
      some = omega (arith, length-append many.turns (NoMemory ∷ []));
      cause = tt;
    }

    -- or was stopped
    pub turned_stopped : (mid : TimerStance) → SoManyTurns (timer_stance old seats) mid → IsTurn told said kit Halted mid (timer_stance new seats') → new.refused ≡ old.refused → new.halted ≡ true
        → new.voice.rings ≡ old.voice.rings → HasTurnedToTheEnd told said kit old new seats seats'
    turned_stopped mid many one refused halted rings = record {
      turned = record {
        turns = many.turns ++ Halted ∷ [];
        are = turn_more many.turns Halted (timer_stance old seats) mid (timer_stance new seats') many.are one;
        out = false;
        stopped = true;
        ends = (many.turns, refl, many.each);
        refused = refused;
        halted = halted;
        rings = omega (arith, rings);
      };
      some = omega (arith, length-append many.turns (Halted ∷ []));
      cause = tt;
    }

  -- ---- turns as the worker takes them

  -- a turn that it goes on after, of which it says nothing
  pub takes_on : (answer : Turn) (old new : TimerWorker) (s t : Seats) → IsTurn told said kit answer (timer_stance old s) (timer_stance new t) → GoesOnAfter answer
      → new.refused ≡ old.refused → new.halted ≡ old.halted → new.voice.rings ≡ old.voice.rings → TimerTakesTurn told said kit answer old new s t
  takes_on answer old new s t one goes refused halted rings =
      let none = goes_so answer goes in record {
        is = one;
        refused = subst (λ (b : Bool). new.refused ≡ (b || old.refused)) (sym none.0) refused;
        halted = subst (λ (b : Bool). new.halted ≡ (b || old.halted)) (sym none.1) halted;
        rings = subst (λ (b : Bool). new.voice.rings ≡ old.voice.rings + cond b 1 0) (sym none.0) (omega (arith, rings));
      }

  -- so far it turned, and goes on: it says so of nothing, and rang no bell
  pub record HasGoneOn (old new : TimerWorker) (seats seats' : Seats) : Type 0 where
    pub many : SoManyTurns (timer_stance old seats) (timer_stance new seats')
    pub refused : new.refused ≡ old.refused
    pub halted : new.halted ≡ old.halted
    pub rings : new.voice.rings ≡ old.voice.rings

  pub gone_nowhere : (worker : TimerWorker) (seats : Seats) → HasGoneOn worker worker seats seats
  gone_nowhere worker seats = record { many = no_turn_yet (timer_stance worker seats); refused = refl; halted = refl; rings = refl }

  -- so it did, and took a turn at least
  pub record HasGoneFurther (old new : TimerWorker) (seats seats' : Seats) : Type 0 where
    pub gone : HasGoneOn old new seats seats'
    pub some : 1 ≤ length gone.many.turns

  -- a turn that it goes on after
  pub gone_further : (answer : Turn) (old mid new : TimerWorker) (s t u : Seats) → HasGoneOn old mid s t → TimerTakesTurn told said kit answer mid new t u → GoesOnAfter answer
      → HasGoneFurther old new s u
  gone_further answer old mid new s t u gone takes goes =
      let none = goes_so answer goes in
      let rung : new.voice.rings ≡ mid.voice.rings + cond false 1 0 = subst (λ (b : Bool). new.voice.rings ≡ mid.voice.rings + cond b 1 0) none.0 takes.rings in
      let many = gone.many in
      record {
        gone = record {
          many = record {
            turns = many.turns ++ answer ∷ [];
            are = turn_more many.turns answer (timer_stance old s) (timer_stance mid t) (timer_stance new u) many.are takes.is;
            each = each_more many.turns answer many.each goes;
          };
          refused = subst (λ (b : Bool). new.refused ≡ (b || mid.refused)) none.0 takes.refused ∙ gone.refused;
          halted = subst (λ (b : Bool). new.halted ≡ (b || mid.halted)) none.1 takes.halted ∙ gone.halted;
          rings = let before = gone.rings in omega (arith, rung, before);
        };
        some = omega (arith, length-append many.turns (answer ∷ []));
      }

  -- it looked whether it is to leave
  pub gone_looked : (old mid new : TimerWorker) (s t : Seats) → timer_stance new t ≡ timer_stance mid t → new.refused ≡ mid.refused → new.halted ≡ mid.halted → new.voice.rings ≡ mid.voice.rings
      → HasGoneOn old mid s t → HasGoneOn old new s t
  gone_looked old mid new s t stance refused halted rings gone = record {
    many = subst (λ (stance : TimerStance). SoManyTurns (timer_stance old s) stance) (sym stance) gone.many;
    refused = refused ∙ gone.refused;
    halted = halted ∙ gone.halted;
    rings = rings ∙ gone.rings;
  }

  -- it was cut off by its last turn
  cut_by : (answer : Turn) (old mid new : TimerWorker) (s t u : Seats) → HasGoneOn old mid s t → TimerTakesTurn told said kit answer mid new t u
      → false ≡ not (is_refused answer || is_stopped answer) → HasTurnedToTheEnd told said kit old new s u
  cut_by Halted old mid new s t u gone takes so =
      let rung : new.voice.rings ≡ mid.voice.rings + 0 = takes.rings in let before = gone.rings in
      turned_stopped old new s u (timer_stance mid t) gone.many takes.is (takes.refused ∙ gone.refused) takes.halted (omega (arith, rung, before))
  cut_by NoMemory old mid new s t u gone takes so =
      let rung : new.voice.rings ≡ mid.voice.rings + 1 = takes.rings in let before = gone.rings in
      turned_out old new s u (timer_stance mid t) gone.many takes.is takes.refused (takes.halted ∙ gone.halted) (omega (arith, rung, before))
  cut_by Stepped old mid new s t u gone takes so = absurd (let no : false ≡ true = so in cc)
  cut_by (Resting now until) old mid new s t u gone takes so = absurd (let no : false ≡ true = so in cc)
  cut_by Done old mid new s t u gone takes so = absurd (let no : false ≡ true = so in cc)
  cut_by Faulted old mid new s t u gone takes so = absurd (let no : false ≡ true = so in cc)
  cut_by Spent old mid new s t u gone takes so = absurd (let no : false ≡ true = so in cc)

  left_by : (answer : Turn) (old new : TimerWorker) (s t : Seats) → TimerTakesTurn told said kit answer old new s t → false ≡ not (is_refused answer || is_stopped answer)
      → LeavesFor new.refused new.halted new.in_turn new.voice
  left_by Halted old new s t takes so = inr (inl takes.halted)
  left_by NoMemory old new s t takes so = inl takes.refused
  left_by Stepped old new s t takes so = absurd (let no : false ≡ true = so in cc)
  left_by (Resting now until) old new s t takes so = absurd (let no : false ≡ true = so in cc)
  left_by Done old new s t takes so = absurd (let no : false ≡ true = so in cc)
  left_by Faulted old new s t takes so = absurd (let no : false ≡ true = so in cc)
  left_by Spent old new s t takes so = absurd (let no : false ≡ true = so in cc)

  pub leaves_cut : (old new : TimerWorker) (s t : Seats) → TakesATurn told said kit false old new s t → LeavesFor new.refused new.halted new.in_turn new.voice
  leaves_cut old new s t took = left_by took.answer old new s t took.takes took.goes

  module _ (old mid new : TimerWorker) (s t u : Seats) (gone : HasGoneOn old mid s t) where
    pub cut_off : TakesATurn told said kit false mid new t u → HasTurnedToTheEnd told said kit old new s u
    cut_off took = cut_by took.answer old mid new s t u gone took.takes took.goes

    pub turned_on : TakesATurn told said kit true mid new t u → HasGoneFurther old new s u
    turned_on took = gone_further took.answer old mid new s t u gone took.takes (may_go took.answer (sym took.goes))

  -- after a turn it found that it is to leave
  pub to_the_end : (old new last : TimerWorker) (s u : Seats) → HasGoneFurther old new s u → timer_stance last u ≡ timer_stance new u → last.refused ≡ new.refused → last.halted ≡ new.halted
      → last.voice.rings ≡ new.voice.rings → (last.in_turn ≡ true) ⊎ (last.voice.gone ≡ true) → HasTurnedToTheEnd told said kit old last s u
  to_the_end old new last s u further stance refused halted rings cause =
      let all = further.gone in record {
        turned = record {
          turns = all.many.turns;
          are = subst (λ (stance : TimerStance). AreTurns told said kit all.many.turns (timer_stance old s) stance) (sym stance) all.many.are;
          out = false;
          stopped = false;
          ends = all.many.each;
          refused = refused ∙ all.refused;
          halted = halted ∙ all.halted;
          rings = let now = rings ∙ all.rings in omega (arith, now);
        };
        some = further.some;
        cause = cause;
      }

  -- ---- one thread for all

  module _ (old new : TimerWorker) (seats seats' : Seats) where
    pub no_turn : timer_stance new seats' ≡ timer_stance old seats → new.refused ≡ old.refused → new.halted ≡ old.halted → new.voice.rings ≡ old.voice.rings
        → (new.voice.quiet ≡ true) ⊎ (old.halted ≡ true) → HasTurnedOnce told said kit old new seats seats'
    no_turn same refused halted rings none = record {
      turned = record { turns = []; are = same; out = false; stopped = false; ends = tt; refused = refused; halted = halted; rings = omega (arith, rings) };
      once = none;
    }

    pub one_turn : (answer : Turn) → IsTurn told said kit answer (timer_stance old seats) (timer_stance new seats') → GoesOnAfter answer → new.refused ≡ old.refused → new.halted ≡ old.halted
        → new.voice.rings ≡ old.voice.rings → old.halted ≡ false → HasTurnedOnce told said kit old new seats seats'
    one_turn answer one goes refused halted rings on = record {
      turned = record {
        turns = answer ∷ [];
        are = (timer_stance new seats', one, refl);
        out = false;
        stopped = false;
        ends = (goes, tt);
        refused = refused;
        halted = halted;
        rings = omega (arith, rings);
      };
      once = on;
    }

    pub out_at_once : IsTurn told said kit NoMemory (timer_stance old seats) (timer_stance new seats') → new.refused ≡ true → new.halted ≡ old.halted → new.voice.rings ≡ old.voice.rings + 1
        → old.halted ≡ false → HasTurnedOnce told said kit old new seats seats'
    out_at_once one refused halted rings on = record {
      turned = record {
        turns = NoMemory ∷ [];
        are = (timer_stance new seats', one, refl);
        out = true;
        stopped = false;
        ends = ([], refl, tt);
        refused = refused;
        halted = halted;
        rings = rings;
      };
      once = on;
    }

    pub stopped_at_once : IsTurn told said kit Halted (timer_stance old seats) (timer_stance new seats') → new.refused ≡ old.refused → new.halted ≡ true → new.voice.rings ≡ old.voice.rings
        → old.halted ≡ false → HasTurnedOnce told said kit old new seats seats'
    stopped_at_once one refused halted rings on = record {
      turned = record {
        turns = Halted ∷ [];
        are = (timer_stance new seats', one, refl);
        out = false;
        stopped = true;
        ends = ([], refl, tt);
        refused = refused;
        halted = halted;
        rings = omega (arith, rings);
      };
      once = on;
    }

    once_so : (answer : Turn) → GoesOnAfter answer → TimerTakesTurn told said kit answer old new seats seats' → old.halted ≡ false → HasTurnedOnce told said kit old new seats seats'
    once_so answer goes takes on =
        let all = (gone_further answer old old new seats seats seats' (gone_nowhere old seats) takes goes).gone in one_turn answer takes.is goes all.refused all.halted all.rings on

    taken_once : (answer : Turn) → TimerTakesTurn told said kit answer old new seats seats' → old.halted ≡ false
        → HasTurnedOnce told said kit old new seats seats'
    taken_once Halted takes on = let rung : new.voice.rings ≡ old.voice.rings + 0 = takes.rings in stopped_at_once takes.is takes.refused takes.halted (omega (arith, rung)) on
    taken_once NoMemory takes on = out_at_once takes.is takes.refused takes.halted takes.rings on
    taken_once Stepped takes on = once_so Stepped tt takes on
    taken_once (Resting now until) takes on = once_so (Resting now until) tt takes on
    taken_once Done takes on = once_so Done tt takes on
    taken_once Faulted takes on = once_so Faulted tt takes on
    taken_once Spent takes on = once_so Spent tt takes on

    -- after a look, by which it rang no bell
    pub looked_once : (voice : Known) (answer : Turn) → old.halted ≡ false → voice.rings ≡ old.voice.rings → TimerTakesTurn told said kit answer (record old { voice = voice }) new seats seats' → HasTurnedOnce told said kit old new seats seats'
    looked_once voice answer on same takes = taken_once answer (record {
      is = takes.is;
      refused = takes.refused;
      halted = takes.halted;
      rings = subst (λ (n : ℕ). new.voice.rings ≡ n + cond (is_refused answer) 1 0) same takes.rings;
    }) on

  -- ---- the kinds of their steps

  abbrev pub n : ℕ
  n = domains kit.throttle.layout

  -- a turn that it goes on after was whole, or made no step
  steps_more : (answer : Turn) (a b c : Seats) → GoesOnAfter answer → StepsSo n false a b → StepsBy n answer b c → StepsSo n false a c
  steps_more Stepped a b c goes so steps = ((turns_follow n).more a b c so.0 steps, steps.sealed)
  steps_more (Resting now until) a b c goes so steps = none_more n a b c so.0 steps.0 steps.1
  steps_more Done a b c goes so steps = none_more n a b c so.0 steps.0 steps.1
  steps_more Halted a b c goes so steps = absurd goes
  steps_more Faulted a b c goes so steps = none_more n a b c so.0 steps.0 steps.1
  steps_more Spent a b c goes so steps = none_more n a b c so.0 steps.0 steps.1
  steps_more NoMemory a b c goes so steps = absurd goes

  all_whole : (turns : List Turn) (first : Seats) (a c : TimerStance) → AreTurns told said kit turns a c → Each GoesOnAfter turns → StepsSo n false first a.seats → StepsSo n false first c.seats
  all_whole [] first a c are each so = subst (λ (s : TimerStance). StepsSo n false first s.seats) (sym are) so
  all_whole (t ∷ turns) first a c are each so =
      all_whole turns first are.0 c are.2 each.1 (steps_more t first a.seats are.0.seats each.0 so (are.1.steps so.1))

  parted : (before : List Turn) (last : Turn) (a c : TimerStance) → AreTurns told said kit (before ++ last ∷ []) a c
      → (mid : TimerStance) × AreTurns told said kit before a mid × IsTurn told said kit last mid c
  parted [] last a c are = (a, refl, subst (λ (s : TimerStance). IsTurn told said kit last a s) (sym are.2) are.1)
  parted (t ∷ before) last a c are = let rest = parted before last are.0 c are.2 in (rest.0, (are.0, are.1, rest.1), rest.2)

  or_not : (halted : Bool) (a b : Seats) → StepsSo n false a b → StepsSo n halted a b
  or_not false a b so = so
  or_not true a b so = (turns_follow n).ended a b so.0

  turns_steps : (out stopped : Bool) (turns : List Turn) (first : Seats) (a c : TimerStance) → AreTurns told said kit turns a c → TurnsEndBy out stopped turns → StepsSo n false first a.seats
      → StepsSo n stopped first c.seats
  turns_steps false false turns first a c are ends so = all_whole turns first a c are ends so
  turns_steps false true turns first a c are ends so =
      let all = parted ends.0 Halted a c (subst (λ (l : List Turn). AreTurns told said kit l a c) ends.1 are) in
      let whole = all_whole ends.0 first a all.0 all.1 ends.2 so in
      (turns_follow n).cut first all.0.seats c.seats whole.0 (all.2.steps whole.1)
  turns_steps true stopped turns first a c are ends so =
      let all = parted ends.0 NoMemory a c (subst (λ (l : List Turn). AreTurns told said kit l a c) ends.1 are) in
      let whole = all_whole ends.0 first a all.0 all.1 ends.2 so in
      let none = all.2.steps whole.1 in
      or_not stopped first c.seats (none_more n first all.0.seats c.seats whole.0 none.0 none.1)

  or_false : (a b : Bool) → b ≡ false → (a || b) ≡ a
  or_false a b is = ap (λ (c : Bool). a || c) is ∙ by a
    where
      by : (a : Bool) → (a || false) ≡ a
      by true = refl
      by false = refl

  or_true : (a b : Bool) → b ≡ true → (a || b) ≡ true
  or_true a b is = ap (λ (c : Bool). a || c) is ∙ by a
    where
      by : (a : Bool) → (a || true) ≡ true
      by true = refl
      by false = refl

  turned_steps : (old new : TimerWorker) (first s t : Seats) → HasTurned told said kit old new s t → old.halted ≡ false → StepsSo n false first s → StepsSo n new.halted first t
  turned_steps old new first s t turned on so =
      subst (λ (h : Bool). StepsSo n h first t) (sym (turned.halted ∙ or_false turned.stopped old.halted on))
      (turns_steps turned.out turned.stopped turned.turns first (timer_stance old s) (timer_stance new t) turned.are turned.ends so)

  first_steps : (seats : Seats) → HasSealed seats → StepsSo n false seats seats
  first_steps seats has = ((turns_follow n).none seats, has)

  -- where it was halted it takes no turn
  no_seats : (turns : List Turn) (halted : Bool) (voice : Known) (a c : TimerStance) → IsOneTurn turns halted voice → halted ≡ true → AreTurns told said kit turns a c → c.seats ≡ a.seats
  no_seats [] halted voice a c one was are = ap (λ (s : TimerStance). s.seats) are
  no_seats (t ∷ []) halted voice a c one was are = absurd (let no : false ≡ true = sym one ∙ was in cc)
  no_seats (t ∷ u ∷ turns) halted voice a c one was are = absurd one

  once_more : (was : Bool) (old new : TimerWorker) (first s t : Seats) → HasTurnedOnce told said kit old new s t → old.halted ≡ was → StepsSo n was first s → StepsSo n new.halted first t
  once_more false old new first s t once is so = turned_steps old new first s t once.turned is so
  once_more true old new first s t once is so =
      let same = no_seats once.turned.turns old.halted new.voice (timer_stance old s) (timer_stance new t) once.once is once.turned.are in
      subst (λ (h : Bool). StepsSo n h first t) (sym (once.turned.halted ∙ or_true once.turned.stopped old.halted is))
      (subst (λ (seats : Seats). StepsSo n true first seats) (sym same) so)

  -- ---- turns beside others, and then in turn

  turns_more : (some more : List Turn) (a b c : TimerStance) → AreTurns told said kit some a b → AreTurns told said kit more b c → AreTurns told said kit (some ++ more) a c
  turns_more [] more a b c are then = subst (λ (s : TimerStance). AreTurns told said kit more s c) are then
  turns_more (t ∷ some) more a b c are then = (are.0, are.1, turns_more some more are.0 b c are.2 then)

  pub turned_some : (old new : TimerWorker) (s t : Seats) → HasTurnedToTheEnd told said kit old new s t → HasTakenTurns told said kit old new s t
  turned_some old new s t turned = record { turns = turned.turned.turns; are = turned.turned.are; some = turned.some; steps = λ on has. turned_steps old new s s t turned.turned on (first_steps s has) }

  pub turned_more : (old mid new : TimerWorker) (s t u : Seats) → HasTakenTurns told said kit old mid s t → HasTurnedOnce told said kit mid new t u → HasTakenTurns told said kit old new s u
  turned_more old mid new s t u before once = record {
    turns = before.turns ++ once.turned.turns;
    are = turns_more before.turns once.turned.turns (timer_stance old s) (timer_stance mid t) (timer_stance new u) before.are once.turned.are;
    some = let many = before.some in omega (arith, many, length-append before.turns once.turned.turns);
    steps = λ on has. once_more mid.halted mid new s t u once refl (before.steps on has);
  }
