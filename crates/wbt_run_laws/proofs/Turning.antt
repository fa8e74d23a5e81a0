-- Turns of writers and of flushers, one after another.
use Rattle.std.proofs.Common.{◌≡◌, ◌≢◌, ℕ, true, cond, Option, None, Some, IfSome, List, [], ◌∷◌, ◌++◌, map, flat_map, eqb, sym, refl, ap, ◌∙◌, subst, ne_eqb}
use Rattle.std.proofs.lemmas.List.{map-append}
use Rattle.std.proofs.lemmas.Bool.{cond-false}
use mathlib.Core.Logic.{dite}
use native.Mathlib.Decide.{ℕ_discrete}
use Rattle.wbt_run_laws.proofs.Common.{Limits, DomainLimits, Due, Trace, Each, Flight, Write, effect, of_part, ToldFlusher, MayMove, moved, Item, tells, writes_after, Event, item, Side, is_own_task, side_after, Told, CheckEntry, limits_in, WereHeld, IsOwn, flusher_after, FliesInTurn, HaveWritten, SideWalked, list_after, WaitsInTurn, items_told}
use Rattle.wbt_journal.specs.Checks.{IsQuiet, MayCheck, Stands, is_judged}
use Rattle.wbt_journal.specs.Effects.{Wait}
use Rattle.wbt_journal.specs.Lawful.{item_of_event, items_among}
use Rattle.wbt_journal.specs.Pages.{PagesAreNext}
use Rattle.wbt_journal.specs.Side.{side_after_check, side_after_write}
use Rattle.wbt_journal.specs.Waits.{MayWait, waited}
use Rattle.wbt_run_laws.specs.Owns.{IsOfWriters, IsOfFlusher}
use Rattle.wbt_run_laws.specs.Phases.{Flew}
use Rattle.wbt_run_laws.specs.Shown.{ShownFlusher, WriterTurnIsSince, FlusherTurnIsSince, SinceNow, SinceMore}
use Rattle.wbt_run_laws.specs.Waits.{Waited}
use Rattle.wbt_run_laws.specs.Walks.{Walked}
use Rattle.wbt_run_laws.proofs.Effects.{if_none, part_none}
use Rattle.wbt_run_laws.proofs.Entering.{writes_silent}
use Rattle.wbt_run_laws.proofs.Growing.{by_nothing, by_both}
use Rattle.wbt_run_laws.proofs.Holding.{held_more, others_tell_none}
use Rattle.wbt_run_laws.proofs.Lists.{each_append, each_weaker, each_both, each_map, flat_append, longer_none}
use Rattle.wbt_run_laws.proofs.Walking.{IsSilent, walked_none, walked_more, walked_silent, walks_none, walks_silent, told_more}

-- ---- entries as events

abbrev pub as_events : (cpu : ℕ) (added : List Told) → List Event
as_events cpu added = map (λ (e : Told). item (tells cpu e)) added

pub as_items : (cpu : ℕ) (added : List Told) → items_among (as_events cpu added) ≡ items_told cpu added
as_items cpu [] = refl
as_items cpu (e ∷ added) = ap (λ (l : List Item). tells cpu e ∷ l) (as_items cpu added)

-- ---- a flusher's entries are not seen by the walks of tasks

pub flusher_silent : (trace : Trace) (opened cpu flusher : ℕ) (e : Told) → IsOfFlusher flusher e → IsSilent (Stands trace) (side_after trace opened) (item (tells cpu e))
flusher_silent trace opened cpu flusher e of s = (
  record {
    write = if_none (λ (write : Write). is_judged trace cpu write.task write.page ≡ true → IsQuiet trace s write.task) (effect e).write of.no_write;
    check = if_none (λ (check : CheckEntry). is_own_task trace cpu check.task ≡ true → MayCheck trace s check) (effect e).check of.no_check;
  },
  part_none (of_part s (side_after_check trace opened cpu s) (effect e).check) (side_after_write trace opened cpu s) (effect e).write of.no_write
      ∙ part_none s (side_after_check trace opened cpu s) (effect e).check of.no_check,
)

-- ---- and entries of writers, or of other flushers, not by the walk of a flusher

pub writers_fly_none : (flusher : ℕ) (e : Told) → IsOfWriters e → IsSilent (FliesInTurn flusher) (flusher_after flusher) e
writers_fly_none flusher e of s = (
  if_none (λ (flight : Flight). flight.flusher ≡ flusher → MayMove flight.move s.phase) (effect e).flight of.no_flight,
  part_none s (λ (flight : Flight). cond (eqb flight.flusher flusher) (moved flight.move s) s) (effect e).flight of.no_flight,
)

-- the entry of another flusher
other_by : {A : Type 0} (by g flusher : ℕ) (a b : A) → by ≡ flusher → g ≢ flusher → cond (eqb by g) a b ≡ b
other_by by g flusher a b is other = cond-false (eqb by g) a b (ne_eqb by g (λ e. other (sym e ∙ is)))

other_flies : (flusher g : ℕ) → g ≢ flusher → (s : ToldFlusher) (part : Option Flight) → IfSome part (λ (flight : Flight). flight.flusher ≡ flusher)
    → IfSome part (λ (flight : Flight). flight.flusher ≡ g → MayMove flight.move s.phase) × (of_part s (λ (flight : Flight). cond (eqb flight.flusher g) (moved flight.move s) s) part ≡ s)
other_flies flusher g other s None of = (tt, refl)
other_flies flusher g other s (Some flight) of = (λ e. absurd (other (sym e ∙ of)), other_by flight.flusher g flusher (moved flight.move s) s of other)

pub others_fly_none : (flusher g : ℕ) → g ≢ flusher → (e : Told) → IsOfFlusher flusher e → IsSilent (FliesInTurn g) (flusher_after g) e
others_fly_none flusher g other e of s = other_flies flusher g other s (effect e).flight of.flight

-- nor by the walk of its waiting list

pub writers_wait_none : (trace : Trace) (flusher : ℕ) (e : Told) → IsOfWriters e → IsSilent (WaitsInTurn trace flusher) (list_after trace flusher) e
writers_wait_none trace flusher e of s = (
  if_none (λ (wait : Wait). wait.flusher ≡ flusher → MayWait trace flusher wait.move s) (effect e).wait of.no_wait,
  part_none s (λ (wait : Wait). cond (eqb wait.flusher flusher) (waited trace wait.move s) s) (effect e).wait of.no_wait,
)

other_waits : (trace : Trace) (flusher g : ℕ) → g ≢ flusher → (s : List Due) (part : Option Wait) → IfSome part (λ (wait : Wait). wait.flusher ≡ flusher)
    → IfSome part (λ (wait : Wait). wait.flusher ≡ g → MayWait trace g wait.move s) × (of_part s (λ (wait : Wait). cond (eqb wait.flusher g) (waited trace wait.move s) s) part ≡ s)
other_waits trace flusher g other s None of = (tt, refl)
other_waits trace flusher g other s (Some wait) of = (λ e. absurd (other (sym e ∙ of)), other_by wait.flusher g flusher (waited trace wait.move s) s of other)

pub others_wait_none : (trace : Trace) (flusher g : ℕ) → g ≢ flusher → (e : Told) → IsOfFlusher flusher e → IsSilent (WaitsInTurn trace g) (list_after trace g) e
others_wait_none trace flusher g other e of s = other_waits trace flusher g other s (effect e).wait of.wait

-- ---- turns

pub stays : (flusher : ℕ) (old new : ToldFlusher) (added : List Told) → Each (IsSilent (FliesInTurn flusher) (flusher_after flusher)) added → new ≡ old → Flew flusher old added new
stays flusher old new added silent same = subst (λ (p : ToldFlusher). Flew flusher old added p) (sym same) (walked_silent (FliesInTurn flusher) (flusher_after flusher) old added silent)

pub list_stays : (trace : Trace) (flusher : ℕ) (old new : List Due) (added : List Told) → Each (IsSilent (WaitsInTurn trace flusher) (list_after trace flusher)) added → new ≡ old
    → Waited trace flusher old added new
list_stays trace flusher old new added silent same = subst (λ (pairs : List Due). Waited trace flusher old added pairs) (sym same) (walked_silent (WaitsInTurn trace flusher) (list_after trace flusher) old added silent)

abbrev told_stays : (a b : ShownFlusher) → a ≡ b → a.told ≡ b.told
told_stays a b same = ap (λ (is : ShownFlusher). is.told) same

abbrev waits_stay : (a b : ShownFlusher) → a ≡ b → a.waits ≡ b.waits
waits_stay a b same = ap (λ (is : ShownFlusher). is.waits) same

abbrev pub turn_of_writers : WriterTurnIsSince
turn_of_writers trace opened cpu added old new turn = record {
  grew = turn.grew;
  held = turn.held;
  firsts_stay = turn.firsts_stay;
  side = turn.side;
  wrote = turn.wrote;
  flew = λ flusher. stays flusher (old.flushers flusher).told (new.flushers flusher).told added
      (each_weaker IsOfWriters (IsSilent (FliesInTurn flusher) (flusher_after flusher)) (writers_fly_none flusher) added turn.of_writers)
      (told_stays (new.flushers flusher) (old.flushers flusher) (turn.flushers_stay flusher));
  waited = λ flusher. list_stays trace flusher (old.flushers flusher).waits (new.flushers flusher).waits added
      (each_weaker IsOfWriters (IsSilent (WaitsInTurn trace flusher) (list_after trace flusher)) (writers_wait_none trace flusher) added turn.of_writers)
      (waits_stay (new.flushers flusher) (old.flushers flusher) (turn.flushers_stay flusher));
  own = turn.own;
}

-- a flusher's entries leave the side of its CPU's tasks
abbrev pub side_stays : (trace : Trace) (opened cpu flusher : ℕ) (added : List Told) (old new : Side) → Each (IsOfFlusher flusher) added → new ≡ old → SideWalked trace opened cpu old added new
side_stays trace opened cpu flusher added old new of same = record {
  events = as_events cpu added;
  are = as_items cpu added;
  walked = subst (λ (s : Side). Walked (Stands trace) (side_after trace opened) old (as_events cpu added) s) (sym same)
      (walked_silent (Stands trace) (side_after trace opened) old (as_events cpu added)
      (each_map (IsSilent (Stands trace) (side_after trace opened)) (λ (e : Told). item (tells cpu e)) added
      (each_weaker (IsOfFlusher flusher) (λ (e : Told). IsSilent (Stands trace) (side_after trace opened) (item (tells cpu e))) (flusher_silent trace opened cpu flusher) added of)));
}

abbrev pub turn_of_flusher : FlusherTurnIsSince
turn_of_flusher trace opened cpu flusher added old new turn = record {
  grew = turn.grew;
  held = others_tell_none old.firsts added old.held.triples new.held.triples
      (each_weaker (IsOfFlusher flusher) (λ (e : Told). (effect e).check ≡ None) (λ e of. of.no_check) added turn.of_flusher) turn.grew.triples;
  firsts_stay = turn.firsts_stay;
  side = side_stays trace opened cpu flusher added old.side new.side turn.of_flusher turn.side_stays;
  wrote = walks_silent HaveWritten (PagesAreNext trace) writes_after old.written new.written (items_told cpu added)
      (each_map (IsSilent (PagesAreNext trace) writes_after) (tells cpu) added
      (each_weaker (λ (e : Told). IsOfFlusher flusher e × IsOwn trace cpu e) (λ (e : Told). IsSilent (PagesAreNext trace) writes_after (tells cpu e)) (λ e both. writes_silent trace cpu e both.0.no_write both.1) added
      (each_both (IsOfFlusher flusher) (IsOwn trace cpu) added turn.of_flusher turn.own)))
      (λ tasks have task. have task ∙ sym (turn.written_stays task));
  flew = λ g. dite (ℕ_discrete g flusher)
      (λ is. subst (λ (f : ℕ). Flew f (old.flushers f).told added (new.flushers f).told) (sym is) turn.flew)
      (λ other. stays g (old.flushers g).told (new.flushers g).told added
      (each_weaker (IsOfFlusher flusher) (IsSilent (FliesInTurn g) (flusher_after g)) (others_fly_none flusher g other) added turn.of_flusher)
      (told_stays (new.flushers g) (old.flushers g) (turn.others_stay g other)));
  waited = λ g. dite (ℕ_discrete g flusher)
      (λ is. subst (λ (f : ℕ). Waited trace f (old.flushers f).waits added (new.flushers f).waits) (sym is) turn.waited)
      (λ other. list_stays trace g (old.flushers g).waits (new.flushers g).waits added
      (each_weaker (IsOfFlusher flusher) (IsSilent (WaitsInTurn trace g) (list_after trace g)) (others_wait_none trace flusher g other) added turn.of_flusher)
      (waits_stay (new.flushers g) (old.flushers g) (turn.others_stay g other)));
  own = turn.own;
}

-- ---- one after another

abbrev pub since_now : SinceNow
since_now trace opened cpu shown = record {
  grew = by_nothing shown.held;
  held = longer_none shown.held.triples;
  firsts_stay = refl;
  side = record { events = []; are = refl; walked = walked_none (Stands trace) (side_after trace opened) shown.side };
  wrote = walks_none HaveWritten (PagesAreNext trace) writes_after shown.written;
  flew = λ flusher. walked_none (FliesInTurn flusher) (flusher_after flusher) (shown.flushers flusher).told;
  waited = λ flusher. walked_none (WaitsInTurn trace flusher) (list_after trace flusher) (shown.flushers flusher).waits;
  own = tt;
}

abbrev pub side_more : (trace : Trace) (opened cpu : ℕ) (a b : List Told) (old mid new : Side) → SideWalked trace opened cpu old a mid → SideWalked trace opened cpu mid b new → SideWalked trace opened cpu old (a ++ b) new
side_more trace opened cpu a b old mid new p q = record {
  events = p.events ++ q.events;
  are = flat_append item_of_event p.events q.events ∙ ap (λ (l : List Item). l ++ items_among q.events) p.are
      ∙ ap (λ (l : List Item). items_told cpu a ++ l) q.are ∙ sym (map-append (tells cpu) a b);
  walked = walked_more (Stands trace) (side_after trace opened) old mid new p.events q.events p.walked q.walked;
}

abbrev pub since_more : SinceMore
since_more trace opened cpu a b old mid new p q = record {
  grew = by_both a b old.held mid.held new.held p.grew q.grew;
  held = subst (λ (l : List DomainLimits). WereHeld old.firsts l old.held.triples new.held.triples) (sym (flat_append limits_in a b))
      (held_more old.firsts (flat_map limits_in a) (flat_map limits_in b) old.held.triples mid.held.triples new.held.triples p.held
      (subst (λ (f : ℕ → Limits). WereHeld f (flat_map limits_in b) mid.held.triples new.held.triples) p.firsts_stay q.held));
  firsts_stay = q.firsts_stay ∙ p.firsts_stay;
  side = side_more trace opened cpu a b old.side mid.side new.side p.side q.side;
  wrote = told_more HaveWritten (PagesAreNext trace) writes_after cpu old.written mid.written new.written a b p.wrote q.wrote;
  flew = λ flusher. walked_more (FliesInTurn flusher) (flusher_after flusher) (old.flushers flusher).told (mid.flushers flusher).told (new.flushers flusher).told a b (p.flew flusher) (q.flew flusher);
  waited = λ flusher. walked_more (WaitsInTurn trace flusher) (list_after trace flusher) (old.flushers flusher).waits (mid.flushers flusher).waits (new.flushers flusher).waits a b (p.waited flusher) (q.waited flusher);
  own = each_append (IsOwn trace cpu) a b p.own q.own;
}
