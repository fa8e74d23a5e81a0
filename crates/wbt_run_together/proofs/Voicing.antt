-- The voices of all workers together: who was told to stop has another's cause.
use Rattle.std.proofs.Common.{◌≡◌, ◌⊎◌, inl, inr, ⊎_elim, ℕ, zero, suc, ◌+◌, ◌^◌, ◌<◌, ◌≤◌, Bool, true, false, cond, ◌||◌, List, [], ◌∷◌, length, get_or, Option, Some, None, refl, sym, ap, ◌∙◌, subst, arith}
use Rattle.wbt_run_worker.proofs.Common.{TableId, Each, Kit, Known, HasSpoken, TimerSpeaks}
use Rattle.wbt_signals.specs.Signals.{both_voices}
use Rattle.wbt_run_worker.specs.Voices.{HasLeft, HasWritten, rings_for}
use Rattle.wbt_run_worker.specs.declared.side.CpuSide.{CpuSide}
use Rattle.wbt_run_worker.specs.declared.side.End.{End}
use Rattle.wbt_run_worker.specs.declared.side.End.TheVariants.{Ended, Halted, Faulted, Spent, Refused, Stopped}
use Rattle.wbt_run_worker.specs.declared.worker.Worker.{Worker}
use Rattle.wbt_run_drain.specs.Ends.{SomeEnds}
use Rattle.wbt_run_drain.specs.Standing.{NoneStopped}
use Rattle.wbt_run_beside.specs.Beside.{AllHaveWorked, HasWorked}
use Rattle.wbt_run_together.specs.Gather.{sides_of}
use Rattle.wbt_run_first.specs.Voiced.{AreVoiced, IsVoiced, StopsForCause, all_voices, voices_of}

-- ---- one after another

module _ {D : Type 0} (signals : TableId) (items rest : List (Worker D)) (worker : Worker D) (are : items ≡ worker ∷ rest) where
  pub theirs_so : Each (λ (known : Known). known.signals ≡ signals) (voices_of items)
      → (worker.voice.signals ≡ signals) × Each (λ (known : Known). known.signals ≡ signals) (voices_of rest)
  theirs_so all = subst (λ (l : List (Worker D)). Each (λ (known : Known). known.signals ≡ signals) (voices_of l)) are all

  pub voice_so : (voice joined : Known) → joined ≡ both_voices voice worker.voice → all_voices joined (voices_of rest) ≡ all_voices voice (voices_of items)
  voice_so voice joined is =
      ap (λ (known : Known). all_voices known (voices_of rest)) is ∙ sym (ap (λ (l : List (Worker D)). all_voices voice (voices_of l)) are)

pub signals_of : {D : Type 0} (workers : List (Worker D)) (into : Known) → (all_voices into (voices_of workers)).signals ≡ into.signals
signals_of [] into = refl
signals_of (worker ∷ more) into = signals_of more (both_voices into worker.voice)

-- ---- what each said

-- what it said stays where it leaves
record IsLast (old new : Known) : Type 0 where
  its : new.signals ≡ old.signals
  stakes : new.stakes ≡ old.stakes
  rings : new.rings ≡ old.rings
  heard : new.heard ≡ old.heard
  writes : new.writes ≡ old.writes

left_so : (end : Option End) (old new : Known) → HasLeft end old new → IsLast old new
left_so None old new is = record {
  its = ap (λ (known : Known). known.signals) is;
  stakes = ap (λ (known : Known). known.stakes) is;
  rings = ap (λ (known : Known). known.rings) is;
  heard = ap (λ (known : Known). known.heard) is;
  writes = ap (λ (known : Known). known.writes) is;
}
left_so (Some end) old new left = record {
  its = ap (λ (known : Known). known.signals) left.0;
  stakes = ap (λ (known : Known). known.stakes) left.0;
  rings = ap (λ (known : Known). known.rings) left.0;
  heard = ap (λ (known : Known). known.heard) left.0;
  writes = ap (λ (known : Known). known.writes) left.0;
}

its_still : {signals : TableId} {writes : Bool} {end : Option End} {old new : Known} → HasSpoken signals writes end old new → new.signals ≡ signals
its_still {signals} {writes} {end} {old} {new} spoken = (left_so end spoken.last new spoken.left).its ∙ spoken.speaks.may.its

record IsSpoken {D : Type 0} (worker : Worker D) : Type 0 where
  stakes : worker.voice.stakes ≡ 1
  rings : worker.voice.rings ≡ rings_for worker.side.end
  heard : worker.side.end ≡ Stopped → worker.voice.heard ≡ true
  there : worker.voice.there ≡ 0
  writes : (worker.side.end ≡ Stopped → ⊥) → worker.voice.writes ≡ 0

-- a worker that wasn't told to stop has said that it writes no more
wrote_all : (end : End) (writes : Bool) → HasWritten (Some end) writes → (end ≡ Stopped → ⊥) → writes ≡ false
wrote_all Ended writes said so = said
wrote_all Halted writes said so = said
wrote_all Faulted writes said so = said
wrote_all Spent writes said so = said
wrote_all Refused writes said so = said
wrote_all Stopped writes said so = absurd (so refl)

abbrev all_rings : {D : Type 0} (workers : List (Worker D)) → ℕ
all_rings [] = 0
all_rings (worker ∷ more) = worker.voice.rings + all_rings more

or_right : (a b : Bool) → b ≡ true → (a || b) ≡ true
or_right true b is = refl
or_right false b is = is

or_left : (a b : Bool) → a ≡ true → (a || b) ≡ true
or_left a b is = ap (λ (c : Bool). c || b) is

zero_or_more : {A : Type 0} → (n : ℕ) → (n ≡ 0 → A) → (1 ≤ n → A) → A
zero_or_more zero none some = none refl
zero_or_more (suc n) none some = some (omega arith)

module _ {D : Type 0} where
  stakes_together : (workers : List (Worker D)) (into : Known) → Each IsSpoken workers → (all_voices into (voices_of workers)).stakes ≡ into.stakes + length workers
  stakes_together [] into all = omega arith
  stakes_together (worker ∷ more) into all =
      let rest = stakes_together more (both_voices into worker.voice) all.1 in let one = all.0.stakes in omega (arith, rest, one)

  rings_together : (workers : List (Worker D)) (into : Known) → (all_voices into (voices_of workers)).rings ≡ into.rings + all_rings workers
  rings_together [] into = omega arith
  rings_together (worker ∷ more) into = let rest = rings_together more (both_voices into worker.voice) in omega (arith, rest)

  there_together : (workers : List (Worker D)) (into : Known) → Each IsSpoken workers → (all_voices into (voices_of workers)).there ≡ into.there
  there_together [] into all = refl
  there_together (worker ∷ more) into all =
      let rest = there_together more (both_voices into worker.voice) all.1 in let one = all.0.there in omega (arith, rest, one)

  writes_together : (workers : List (Worker D)) (into : Known) → Each IsSpoken workers → Each (λ (worker : Worker D). worker.side.end ≡ Stopped → ⊥) workers
      → (all_voices into (voices_of workers)).writes ≡ into.writes
  writes_together [] into all none = refl
  writes_together (worker ∷ more) into all none =
      let rest = writes_together more (both_voices into worker.voice) all.1 none.1 in let one = all.0.writes none.0 in omega (arith, rest, one)

  each_goes : (workers : List (Worker D)) → NoneStopped (sides_of workers) → Each (λ (worker : Worker D). worker.side.end ≡ Stopped → ⊥) workers
  each_goes [] none = tt
  each_goes (worker ∷ more) none = (none 0 worker.side (omega arith), each_goes more (λ cpu other less. none (suc cpu) other (omega arith)))

  heard_still : (workers : List (Worker D)) (into : Known) → into.heard ≡ true → (all_voices into (voices_of workers)).heard ≡ true
  heard_still [] into heard = heard
  heard_still (worker ∷ more) into heard = heard_still more (both_voices into worker.voice) (or_left into.heard worker.voice.heard heard)

  heard_together : (workers : List (Worker D)) (into : Known) → Each IsSpoken workers → (cpu : ℕ) (other : CpuSide D) → cpu < length (sides_of workers)
      → (get_or (sides_of workers) cpu other).end ≡ Stopped → (all_voices into (voices_of workers)).heard ≡ true
  heard_together [] into all cpu other less is = absurd (omega arith)
  heard_together (worker ∷ more) into all zero other less is =
      heard_still more (both_voices into worker.voice) (or_right into.heard worker.voice.heard (all.0.heard is))
  heard_together (worker ∷ more) into all (suc cpu) other less is = heard_together more (both_voices into worker.voice) all.1 cpu other (omega arith) is

  abbrev SomeCause : (sides : List (CpuSide D)) → Type 0
  SomeCause sides = SomeEnds Refused sides ⊎ (SomeEnds Faulted sides ⊎ SomeEnds Spent sides)

  cause_here : (end : End) (side : CpuSide D) (more : List (CpuSide D)) → side.end ≡ end → 1 ≤ rings_for end → SomeCause (side ∷ more)
  cause_here Ended side more is rang = absurd (omega arith)
  cause_here Halted side more is rang = absurd (omega arith)
  cause_here Faulted side more is rang = inr (inl (inl (inl is)))
  cause_here Spent side more is rang = inr (inr (inl (inl is)))
  cause_here Refused side more is rang = inl (inl (inl is))
  cause_here Stopped side more is rang = absurd (omega arith)

  cause_there : (side : CpuSide D) (more : List (CpuSide D)) → SomeCause more → SomeCause (side ∷ more)
  cause_there side more some = ⊎_elim (λ (r : SomeEnds Refused more). inl (inr r))
      (λ (other : SomeEnds Faulted more ⊎ SomeEnds Spent more). inr (⊎_elim (λ (f : SomeEnds Faulted more). inl (inr f)) (λ (s : SomeEnds Spent more). inr (inr s)) other)) some

  some_rang : (workers : List (Worker D)) → Each IsSpoken workers → 1 ≤ all_rings workers → SomeCause (sides_of workers)
  some_rang [] all rang = absurd (omega arith)
  some_rang (worker ∷ more) all rang = zero_or_more worker.voice.rings
      (λ silent. cause_there worker.side (sides_of more) (some_rang more all.1 (omega (arith, rang, silent))))
      (λ some. cause_here worker.side.end worker.side (sides_of more) refl (subst (λ (n : ℕ). 1 ≤ n) all.0.rings some))

-- ---- all of them

module _ {D : Type 0} (told : ℕ → Type 0) (said : ℕ → ℕ → Bool → Type 0) (written : D → Option ℕ) (faults : D → ℕ) (kit : Kit) (signals : TableId) where
  spoken : (old new : Worker D) → IsVoiced signals old → HasWorked told said written faults kit old new → IsSpoken new
  spoken old new voiced worked =
      let says = worked.speaks.speaks.says in
      let same = left_so (Some new.side.end) worked.speaks.last new.voice worked.speaks.left in
      let silent : old.voice.rings ≡ 0 = ap (λ (known : Known). known.rings) voiced.voice in record {
        stakes = same.stakes ∙ worked.speaks.speaks.stakes ∙ ap (λ (known : Known). known.stakes) voiced.voice;
        rings = let said = says.0 in let last = same.rings in omega (arith, said, silent, last);
        heard = λ stopped. same.heard ∙ says.1 stopped;
        there = let may = worked.speaks.speaks.may.there in let left = ap (λ (known : Known). known.there) worked.speaks.left.0 in omega (arith, may, left);
        writes = λ so. same.writes ∙ worked.speaks.speaks.may.leave ∙ ap (λ (b : Bool). cond b 1 0) (wrote_all new.side.end new.writes worked.speaks.speaks.written so);
      }

  all_spoken : (old new : List (Worker D)) → length new ≡ length old → Each (IsVoiced signals) old → AllHaveWorked told said written faults kit old new → Each IsSpoken new
  all_spoken [] [] many voiced worked = tt
  all_spoken [] (w ∷ new) many voiced worked = absurd (omega arith)
  all_spoken (o ∷ old) [] many voiced worked = absurd (omega arith)
  all_spoken (o ∷ old) (w ∷ new) many voiced worked = (
    spoken o w voiced.0 (worked 0 o (omega arith)),
    all_spoken old new (omega arith) voiced.1 (λ n other less. worked (suc n) other (omega arith)),
  )

  pub signals_stay : (old new : List (Worker D)) → length new ≡ length old → Each (IsVoiced signals) old → AllHaveWorked told said written faults kit old new
      → Each (λ (known : Known). known.signals ≡ signals) (voices_of new)
  signals_stay [] [] many voiced worked = tt
  signals_stay [] (w ∷ new) many voiced worked = absurd (omega arith)
  signals_stay (o ∷ old) [] many voiced worked = absurd (omega arith)
  signals_stay (o ∷ old) (w ∷ new) many voiced worked = (
    its_still (worked 0 o (omega arith)).speaks ∙ ap (λ (known : Known). known.signals) voiced.0.voice,
    signals_stay old new (omega arith) voiced.1 (λ n other less. worked (suc n) other (omega arith)),
  )

  pub stops_for : (first mid last : Known) (old new : List (Worker D)) (refused : Bool) (sides : List (CpuSide D)) → AreVoiced signals first old → length new ≡ length old
      → AllHaveWorked told said written faults kit old new → TimerSpeaks signals false refused first mid → last ≡ all_voices mid (voices_of new)
      → (last.heard ≡ true → last.stakes ≡ 2 ^ 32 → 1 ≤ last.rings) → sides ≡ sides_of new → StopsForCause refused sides
  stops_for first mid last old new refused sides voiced many worked timer is cause are = λ cpu other less stopped.
      let all = all_spoken old new many voiced.each worked in
      let heard : last.heard ≡ true = ap (λ (known : Known). known.heard) is
      ∙ heard_together new mid all cpu other (subst (λ (l : List (CpuSide D)). cpu < length l) are less) (ap (λ (l : List (CpuSide D)). (get_or l cpu other).end) (sym are) ∙ stopped) in
      let whole : last.stakes ≡ 2 ^ 32 = ap (λ (known : Known). known.stakes) is ∙ stakes_together new mid all
      ∙ ap (λ (n : ℕ). n + length new) timer.stakes ∙ ap (λ (n : ℕ). first.stakes + n) many ∙ voiced.stakes in
      let rang = cause heard whole in
      let sum : last.rings ≡ mid.rings + all_rings new = ap (λ (known : Known). known.rings) is ∙ rings_together new mid in
      ⊎_elim
      (λ (silent : (mid.rings ≡ first.rings) × (refused ≡ false)).
      inr (subst (λ (l : List (CpuSide D)). SomeCause l) (sym are) (some_rang new all (let none_first = voiced.rings in omega (arith, rang, sum, silent.0, none_first)))))
      (λ (was_refused : refused ≡ true). inl was_refused) timer.rings

  -- the voices together speak for no worker any more, as each spoke for itself
  module _ (first mid last : Known) (old new : List (Worker D)) (refused : Bool) (voiced : Each (IsVoiced signals) old) (many : length new ≡ length old)
      (worked : AllHaveWorked told said written faults kit old new) (timer : TimerSpeaks signals false refused first mid) (is : last ≡ all_voices mid (voices_of new)) where
    pub all_left : first.there ≡ 0 → last.there ≡ 0
    all_left none = ap (λ (known : Known). known.there) is ∙ there_together new mid (all_spoken old new many voiced worked) ∙ timer.there ∙ none

    pub all_written : first.writes ≡ 0 → (sides : List (CpuSide D)) → sides ≡ sides_of new → NoneStopped sides → last.writes ≡ 0
    all_written none sides are goes = ap (λ (known : Known). known.writes) is
        ∙ writes_together new mid (all_spoken old new many voiced worked) (each_goes new (subst (λ (l : List (CpuSide D)). NoneStopped l) are goes)) ∙ timer.writes ∙ none
