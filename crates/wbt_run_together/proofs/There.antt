-- A CPU's turns, where numbers that no flusher of the trace has stay as they are at first.
use Rattle.std.proofs.Common.{◌≡◌, ◌≢◌, ⊎_elim, ℕ, ◌≤◌, Bool, true, false, ◌==◌, nat_lt, if◌then◌else◌, List, [], ◌∷◌, length, Option, Some, None, IfSome, refl, sym, ap, ◌∙◌, subst, ne_eqb}
use Rattle.std.proofs.lemmas.Bool.{cases_lt, lt-ltb, le-ltb}
use Rattle.wbt_run_worker.proofs.Common.{Each, Flight, Wait, effect, Told, after, Trace, Flew, ShownFlusher, none_shown, Waited, Worker, if_weaker, each_weaker}
use Rattle.wbt_kit.proofs.Common.{of_part, is_on, MayWait, waited, Due}
use Rattle.wbt_journal.specs.Flights.{MayMove, ToldFlusher, is_own_flusher, moved}
use Rattle.wbt_rules.specs.Things.{flusher_cpu}
use Rattle.wbt_journal.specs.Walk.{Along}
use Rattle.wbt_run_laws.specs.Owns.{IsOwn, IsOwnFlight}
use Rattle.wbt_run_laws.specs.Phases.{FliesInTurn, flusher_after}
use Rattle.wbt_run_laws.specs.Waits.{list_after, WaitsInTurn}
use Rattle.wbt_run_laws.specs.Worker.{Went}
use Rattle.wbt_run_laws.proofs.Walking.{IsSilent, walked_silent}
use Rattle.wbt_run_drain.specs.Teams.{worker_there}

-- an own flusher has a number of the trace
other_number : (trace : Trace) (cpu flusher by : ℕ) → length trace.flushers ≤ flusher → is_own_flusher trace cpu by ≡ true → by ≢ flusher
other_number trace cpu flusher by past own same =
    let none = ap (λ (b : Bool). is_on cpu (if b then Some (flusher_cpu trace flusher) else None)) (le-ltb flusher (length trace.flushers) past) in
    let it = ap (λ (n : ℕ). is_own_flusher trace cpu n) (sym same) in
    absurd (let e : true ≡ false = sym own ∙ sym it ∙ none in cc)

stays : (flusher by : ℕ) (at changed : ToldFlusher) → by ≢ flusher → (if by == flusher then changed else at) ≡ at
stays flusher by at changed ne = ap (λ (b : Bool). if b then changed else at) (ne_eqb by flusher ne)

module _ (trace : Trace) (cpu flusher : ℕ) (past : length trace.flushers ≤ flusher) where
  -- it stays as it is along an entry, whatever it is
  record Silent (at : ToldFlusher) (entry : Told) : Type 0 where
    allowed : FliesInTurn flusher at entry
    stays_so : flusher_after flusher at entry ≡ at

  others_move : (at : ToldFlusher) (flight : Flight) → IsOwnFlight trace cpu flight → flight.flusher ≡ flusher → MayMove flight.move at.phase
  others_move at flight own same = absurd (other_number trace cpu flusher flight.flusher past own.own same)

  stays_by : (at : ToldFlusher) (flight : Option Flight) → IfSome flight (IsOwnFlight trace cpu)
      → of_part at (λ (f : Flight). if f.flusher == flusher then moved f.move at else at) flight ≡ at
  stays_by at None own = refl
  stays_by at (Some flight) own = stays flusher flight.flusher at (moved flight.move at) (other_number trace cpu flusher flight.flusher past own.own)

  silent : (at : ToldFlusher) (entry : Told) → IsOwn trace cpu entry → Silent at entry
  silent at entry own = record {
    allowed = if_weaker (IsOwnFlight trace cpu) (λ (flight : Flight). flight.flusher ≡ flusher → MayMove flight.move at.phase) (others_move at) (effect entry).flight own.flight;
    stays_so = stays_by at (effect entry).flight own.flight;
  }

  silent_all : (at : ToldFlusher) (added : List Told) → Each (IsOwn trace cpu) added → Flew flusher at added at
  silent_all at [] own = record { allowed = tt; reached = refl }
  silent_all at (e ∷ added) own =
      let one = silent at e own.0 in
      let rest = silent_all at added own.1 in
      record {
        allowed = (one.allowed, subst (λ (p : ToldFlusher). Along (FliesInTurn flusher) (flusher_after flusher) p added) (sym one.stays_so) rest.allowed);
        reached = ap (λ (p : ToldFlusher). after (flusher_after flusher) p added) one.stays_so ∙ rest.reached;
      }

  -- and so does its list
  one_waits_not : (pairs : List Due) (part : Option Wait) → IfSome part (λ (wait : Wait). is_own_flusher trace cpu wait.flusher ≡ true)
      → IfSome part (λ (wait : Wait). wait.flusher ≡ flusher → MayWait trace flusher wait.move pairs)
      × (of_part pairs (λ (wait : Wait). if wait.flusher == flusher then waited trace wait.move pairs else pairs) part ≡ pairs)
  one_waits_not pairs None own = (tt, refl)
  one_waits_not pairs (Some wait) own =
      let ne = other_number trace cpu flusher wait.flusher past own in
      (λ same. absurd (ne same), ap (λ (b : Bool). if b then waited trace wait.move pairs else pairs) (ne_eqb wait.flusher flusher ne))

  waits_not : (entry : Told) → IsOwn trace cpu entry → IsSilent (WaitsInTurn trace flusher) (list_after trace flusher) entry
  waits_not entry own pairs = one_waits_not pairs (effect entry).wait own.wait

  none_wait : (pairs : List Due) (added : List Told) → Each (IsOwn trace cpu) added → Waited trace flusher pairs added pairs
  none_wait pairs added own = walked_silent (WaitsInTurn trace flusher) (list_after trace flusher) pairs added
      (each_weaker (IsOwn trace cpu) (IsSilent (WaitsInTurn trace flusher) (list_after trace flusher)) waits_not added own)

-- one that is there, or else none
abbrev there_or : (is_there : Bool) (flusher : ShownFlusher) → ShownFlusher
there_or is_there flusher = if is_there then flusher else none_shown

module _ (trace : Trace) (cpu flusher : ℕ) (old new : ShownFlusher) (added : List Told) (own : Each (IsOwn trace cpu) added) where
  abbrev is_there : Bool
  is_there = nat_lt flusher (length trace.flushers)

  flew_there : Flew flusher old.told added new.told → Flew flusher (there_or is_there old).told added (there_or is_there new).told
  flew_there flew = ⊎_elim
      (λ low. subst (λ (b : Bool). Flew flusher (there_or b old).told added (there_or b new).told) (sym (lt-ltb flusher (length trace.flushers) low)) flew)
      (λ high. subst (λ (b : Bool). Flew flusher (there_or b old).told added (there_or b new).told) (sym (le-ltb flusher (length trace.flushers) high))
      (silent_all trace cpu flusher high none_shown.told added own))
      (cases_lt flusher (length trace.flushers))

  waited_there : Waited trace flusher old.waits added new.waits → Waited trace flusher (there_or is_there old).waits added (there_or is_there new).waits
  waited_there walked = ⊎_elim
      (λ low. subst (λ (b : Bool). Waited trace flusher (there_or b old).waits added (there_or b new).waits) (sym (lt-ltb flusher (length trace.flushers) low)) walked)
      (λ high. subst (λ (b : Bool). Waited trace flusher (there_or b old).waits added (there_or b new).waits) (sym (le-ltb flusher (length trace.flushers) high))
      (none_wait trace cpu flusher high [] added own))
      (cases_lt flusher (length trace.flushers))

pub went_there : (trace : Trace) (opened cpu : ℕ) (old new : Worker) → Went trace opened cpu old new → Went trace opened cpu (worker_there trace old) (worker_there trace new)
went_there trace opened cpu old new went = record {
  added = went.added;
  logged = went.logged;
  since = record {
    since = record {
      grew = went.since.since.grew;
      held = went.since.since.held;
      firsts_stay = went.since.since.firsts_stay;
      side = went.since.since.side;
      wrote = went.since.since.wrote;
      flew = λ flusher. flew_there trace cpu flusher (old.shown.flushers flusher) (new.shown.flushers flusher) went.added went.since.since.own (went.since.since.flew flusher);
      waited = λ flusher. waited_there trace cpu flusher (old.shown.flushers flusher) (new.shown.flushers flusher) went.added went.since.since.own (went.since.since.waited flusher);
      own = went.since.since.own;
    };
    shares = went.since.shares;
    estimates = went.since.estimates;
    decided = went.since.decided;
  };
}
