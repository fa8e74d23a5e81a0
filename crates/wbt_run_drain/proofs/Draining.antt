-- A flusher's turn on seats that were brought together.
use Rattle.std.proofs.Common.{◌≡◌, ◌≢◌, ℕ, zero, suc, ◌<◌, ◌≤◌, Bool, true, false, cond, eq-eqb, ne_eqb, Option, Some, None, is_some, List, [], ◌∷◌, ◌++◌, length, set, refl, sym, ap, ◌∙◌, subst, arith, if◌then◌else◌, ◌==◌}
use Rattle.std.proofs.lemmas.List.{length-set}
use mathlib.Core.Logic.{dite}
use native.Mathlib.Decide.{ℕ_discrete}
use Rattle.wbt_run_worker.proofs.Common.{absorbs, all_times, completes, dirties, times, total_same, deeds_of, CpuRecord, Each, Flight, effect, Told, CheckEntry, CpuJournal, HasCpu, first_estimates, Cpus, Has, Trace, Event, Write, Kit, Seats, firsts_of, record_of, record_is, Grew, NotedFlusherTurn, NotedSince, Notes, IsOfFlusher, Flew, Waited, Shown, ShownFlusher, first_shown, Worker, each_weaker, noted_more, Went, Moments, Sight, shown_by, FlusherPlan, AreGathered, first_notes, owner_of}
use Rattle.wbt_kit.proofs.Common.{put, Note}
use Rattle.wbt_book.specs.declared.event.Event.TheVariants.{Absorb, Redirty}
use Rattle.wbt_counter.proofs.Sums.{total_le}
use Rattle.wbt_journal.specs.Effects.{Move, takes, flies, lands, fails, gives_back, event_by, event_of, event_of_flight, event_of_move, listed}
use Rattle.wbt_journal.specs.Told.{told as told_by}
use Rattle.wbt_run_laws.specs.Elsewhere.{IsPlain, with_shares}
use Rattle.wbt_run_laws.specs.Entries.{is_check}
use Rattle.wbt_run_laws.specs.Grew.{event_in, onto}
use Rattle.wbt_run_laws.specs.Shown.{FlusherTurn}
use Rattle.wbt_run_laws.proofs.Moving.{shares_may_move, plain_estimates}
use Rattle.wbt_run_laws.proofs.Noting.{noted_of_flusher}
use Rattle.wbt_flusher.specs.Sights.{notes_of, record_in, shown_of}
use Rattle.wbt_run_seats.proofs.Gathering.{moved_are_gathered}
use Rattle.wbt_run_drain.specs.Drained.{AreTogether, DrainGoesOn, IsThere}
use Rattle.wbt_run_drain.specs.Whole.{CpuWorked, CpusWorked, log_at}

-- ---- lists and places

there : (l : Cpus) (c : ℕ) (r q : CpuRecord) → Has l c r → record_of c l ≡ q → Has l c q
there l c r q has is = subst (λ (x : CpuRecord). Has l c x) (sym (record_is l c r has) ∙ is) has

put_here : {A : Type 0} (f : ℕ → A) (i : ℕ) (v : A) → put f i v i ≡ v
put_here f i v = ap (λ (b : Bool). cond b v (f i)) (eq-eqb i i refl)

put_other : {A : Type 0} (f : ℕ → A) (i : ℕ) (v : A) (j : ℕ) → j ≢ i → put f i v j ≡ f j
put_other f i v j other = ap (λ (b : Bool). cond b v (f j)) (ne_eqb j i other)

set_at_place : (logs : List CpuJournal) (i : ℕ) (v : CpuJournal) → i < length logs → log_at (set logs i v) i ≡ v
set_at_place [] i v less = absurd (omega arith)
set_at_place (x ∷ xs) zero v less = refl
set_at_place (x ∷ xs) (suc i) v less = set_at_place xs i v (omega arith)

set_elsewhere : (logs : List CpuJournal) (i j : ℕ) (v : CpuJournal) → j ≢ i → log_at (set logs i v) j ≡ log_at logs j
set_elsewhere [] i j v other = refl
set_elsewhere (x ∷ xs) zero zero v other = absurd (other refl)
set_elsewhere (x ∷ xs) zero (suc j) v other = refl
set_elsewhere (x ∷ xs) (suc i) zero v other = refl
set_elsewhere (x ∷ xs) (suc i) (suc j) v other = set_elsewhere xs i j v (λ e. other (ap suc e))

no_check : (e : Told) → IsPlain e → is_check e ≡ false
no_check e plain = ap (λ (check : Option CheckEntry). is_some check) plain.no_check

-- ---- events

-- what a flusher does dirties no page
move_dirties : (p : ℕ) (move : Move) (older : List Event) → times (dirties p) (listed (event_of_move move) ++ older) ≡ times (dirties p) older
move_dirties p (takes page) older = omega arith
move_dirties p (lands page) older = omega arith
move_dirties p (flies pages now until) older = refl
move_dirties p (fails pages) older = refl
move_dirties p (gives_back page absorbed) older = given absorbed
  where
    given : (b : Bool) → times (dirties p) (listed (Some (if b then Absorb page else Redirty page)) ++ older) ≡ times (dirties p) older
    given true = omega arith
    given false = omega arith

flight_dirties : (p : ℕ) (flight : Option Flight) (older : List Event) → times (dirties p) (listed (event_of_flight flight) ++ older) ≡ times (dirties p) older
flight_dirties p None older = refl
flight_dirties p (Some flight) older = move_dirties p flight.move older

dirties_none : (flusher p : ℕ) (es : List Told) (older : List Event) → Each (IsOfFlusher flusher) es → times (dirties p) (onto event_in es older) ≡ times (dirties p) older
dirties_none flusher p [] older own = refl
dirties_none flusher p (e ∷ es) older own =
    dirties_none flusher p es (event_in e ++ older) own.1
    ∙ ap (λ (write : Option Write). times (dirties p) (listed (event_by write (effect e).flight) ++ older)) own.0.no_write
    ∙ flight_dirties p (effect e).flight older

-- no events get less
more_by : (is : Event → Bool) (event : Option Event) (older : List Event) → times is older ≤ times is (listed event ++ older)
more_by is None older = omega arith
more_by is (Some event) older = omega arith

times_grow : (is : Event → Bool) (es : List Told) (older : List Event) → times is older ≤ times is (onto event_in es older)
times_grow is [] older = omega arith
times_grow is (e ∷ es) older =
    let first = more_by is (event_of e) older in
    let rest = times_grow is es (event_in e ++ older) in
    omega (arith, first, rest)

-- ---- the turn

module _ (trace : Trace) (opened : ℕ) (kit : Kit) (first : ℕ → Seats) (timer : (domain : ℕ) → List Note) (logs : List CpuJournal) (last : ℕ → Shown)
    (notes : ℕ → Notes) (plan : FlusherPlan) (told : Moments) (old new : Sight) (before : AreTogether trace opened kit first timer logs last notes old.seats)
    (here : IsThere trace opened kit plan logs last old) (went : Went plan kit told old new) (plain : Each IsPlain went.did.added) where
  abbrev c : ℕ
  c = plan.cpu

  abbrev added : List Told
  added = went.did.added

  abbrev base : Worker
  base = record { shown = last c; notes = notes c; log = log_at logs c }

  abbrev shown : Shown
  shown = shown_of plan base new

  raw : NotedFlusherTurn trace kit.published.moment c plan.flusher added (shown_of plan base old) shown (notes_of base old) (notes_of base new)
  raw = went.did.turn trace here.work base

  -- where it stood
  stood : (if plan.flusher == plan.flusher then shown_by old.work else (last c).flushers plan.flusher) ≡ (last c).flushers plan.flusher
  stood = ap (λ (b : Bool). if b then shown_by old.work else (last c).flushers plan.flusher) (eq-eqb plan.flusher plan.flusher refl) ∙ sym here.shows

  turn : FlusherTurn trace opened c plan.flusher added (last c) shown
  turn = record {
    grew = subst (λ (r : CpuRecord). Grew added r (record_in plan new)) (record_is old.seats.cpu.cpus c (last c).held (before.cpus.held c here.cpu)) raw.turn.grew;
    flew = subst (λ (f : ShownFlusher). Flew plan.flusher f.told added (shown.flushers plan.flusher).told) stood raw.turn.flew;
    waited = subst (λ (f : ShownFlusher). Waited trace plan.flusher f.waits added (shown.flushers plan.flusher).waits) stood raw.turn.waited;
    own = raw.turn.own;
    of_flusher = raw.turn.of_flusher;
    firsts_stay = refl;
    others_stay = λ g other. ap (λ (b : Bool). if b then shown_by new.work else (last c).flushers g) (ne_eqb g plan.flusher other);
    side_stays = refl;
    written_stays = λ task. refl;
  }

  abbrev behind : Notes
  behind = with_shares (notes c) (λ domain. (raw.shares.longer domain).more)

  noted : NotedSince trace opened c added (last c) shown (notes c) behind
  noted = noted_of_flusher trace opened c plan.flusher added (last c) shown (notes c) behind (record {
    turn = turn;
    shares = shares_may_move c added (notes_of base old) (notes_of base new) (notes c) raw.shares (each_weaker IsPlain (λ (e : Told). is_check e ≡ false) no_check added plain);
    estimates = plain_estimates (first_estimates trace opened) c added (notes c) behind plain (λ context. refl);
  })

  was : CpuWorked trace opened c (first c) old.log (last c) (notes c)
  was = subst (λ (l : CpuJournal). CpuWorked trace opened c (first c) l (last c) (notes c)) here.logs_are (before.cpus.each c here.cpu)

  worked : CpuWorked trace opened c (first c) new.log shown behind
  worked = record {
    names = went.did.logged.names was.names;
    since = subst (λ (es : List Told). NotedSince trace opened c es (first_shown trace (firsts_of (first c))) shown (first_notes (first c)) behind) (sym (went.did.logged.tells was.names))
        (noted_more trace opened c (told_by old.log) added (first_shown trace (firsts_of (first c))) (last c) shown (first_notes (first c)) (notes c) behind was.since noted);
  }

  at_cpu : CpuWorked trace opened c (first c) (log_at (set logs c new.log) c) (put last c shown c) (put notes c behind c)
  at_cpu =
      subst (λ (l : CpuJournal). CpuWorked trace opened c (first c) l (put last c shown c) (put notes c behind c)) (sym (set_at_place logs c new.log (omega (arith, here.cpu, before.cpus.many))))
      (subst (λ (s : Shown). CpuWorked trace opened c (first c) new.log s (put notes c behind c)) (sym (put_here last c shown))
      (subst (λ (n : Notes). CpuWorked trace opened c (first c) new.log shown n) (sym (put_here notes c behind)) worked))

  elsewhere : (cpu : ℕ) → cpu < trace.cpus → cpu ≢ c → CpuWorked trace opened cpu (first cpu) (log_at (set logs c new.log) cpu) (put last c shown cpu) (put notes c behind cpu)
  elsewhere cpu less other =
      subst (λ (l : CpuJournal). CpuWorked trace opened cpu (first cpu) l (put last c shown cpu) (put notes c behind cpu)) (sym (set_elsewhere logs c cpu new.log other))
      (subst (λ (s : Shown). CpuWorked trace opened cpu (first cpu) (log_at logs cpu) s (put notes c behind cpu)) (sym (put_other last c shown cpu other))
      (subst (λ (n : Notes). CpuWorked trace opened cpu (first cpu) (log_at logs cpu) (last cpu) n) (sym (put_other notes c behind cpu other)) (before.cpus.each cpu less)))

  cpus : CpusWorked trace opened kit (set logs c new.log) first (put last c shown) (put notes c behind) new.seats
  cpus = record {
    many = length-set logs c new.log ∙ before.cpus.many;
    each = λ cpu less. dite (ℕ_discrete cpu c)
        (λ same. subst (λ (k : ℕ). CpuWorked trace opened k (first k) (log_at (set logs c new.log) k) (put last c shown k) (put notes c behind k)) (sym same) at_cpu)
        (λ other. elsewhere cpu less other);
    firsts = before.cpus.firsts;
    held = λ cpu less. dite (ℕ_discrete cpu c)
        (λ same. subst (λ (k : ℕ). HasCpu k (put last c shown k).held new.seats) (sym same)
        (subst (λ (s : Shown). HasCpu c s.held new.seats) (sym (put_here last c shown)) (there new.seats.cpu.cpus c went.fits.held.0 (record_in plan new) went.fits.held.1 refl)))
        (λ other. subst (λ (s : Shown). HasCpu cpu s.held new.seats) (sym (put_other last c shown cpu other))
        (went.did.apart.others cpu (last cpu).held other (before.cpus.held cpu less)));
  }

  gathered : AreGathered trace trace.cpus (owner_of kit) (put notes c behind) timer new.seats
  gathered = moved_are_gathered trace (first_estimates trace kit.published.moment) trace.cpus c (owner_of kit) notes timer old.seats new.seats added (notes_of base old) (notes_of base new)
      before.gathered here.cpu raw.shares raw.estimates plain (λ domain. refl) (λ domain. refl) (λ context. refl) (λ context. refl)

  dirtied_same : (page : ℕ) → all_times trace.cpus (dirties page) (λ cpu. deeds_of (put last c shown cpu).held) ≡ all_times trace.cpus (dirties page) (λ cpu. deeds_of (last cpu).held)
  dirtied_same page = total_same trace.cpus (λ cpu. times (dirties page) (put last c shown cpu).held.events) (λ cpu. times (dirties page) (last cpu).held.events)
      (λ cpu less. dite (ℕ_discrete cpu c)
      (λ same. subst (λ (k : ℕ). times (dirties page) (put last c shown k).held.events ≡ times (dirties page) (last k).held.events) (sym same)
      (ap (λ (s : Shown). times (dirties page) s.held.events) (put_here last c shown)
      ∙ ap (λ (es : List Event). times (dirties page) es) turn.grew.events ∙ dirties_none plan.flusher page added (last c).held.events turn.of_flusher))
      (λ other. ap (λ (s : Shown). times (dirties page) s.held.events) (put_other last c shown cpu other)))

  no_less : (is : Event → Bool) → all_times trace.cpus is (λ cpu. deeds_of (last cpu).held) ≤ all_times trace.cpus is (λ cpu. deeds_of (put last c shown cpu).held)
  no_less is = total_le trace.cpus (λ cpu. times is (last cpu).held.events) (λ cpu. times is (put last c shown cpu).held.events)
      (λ cpu less. dite (ℕ_discrete cpu c)
      (λ same. subst (λ (k : ℕ). times is (last k).held.events ≤ times is (put last c shown k).held.events) (sym same)
      (let a = ap (λ (s : Shown). times is s.held.events) (put_here last c shown)
      ∙ ap (λ (es : List Event). times is es) turn.grew.events in
      let b = times_grow is added (last c).held.events in omega arith))
      (λ other. let a = ap (λ (s : Shown). times is s.held.events) (put_other last c shown cpu other) in omega arith))

pub drain_goes_on : DrainGoesOn
drain_goes_on trace opened kit first timer logs last notes plan told old new before here went plain = record {
  behind = behind trace opened kit first timer logs last notes plan told old new before here went plain;
  together = record {
    cpus = cpus trace opened kit first timer logs last notes plan told old new before here went plain;
    gathered = gathered trace opened kit first timer logs last notes plan told old new before here went plain;
  };
  cleaned = λ page was_cleaned.
      let a = dirtied_same trace opened kit first timer logs last notes plan told old new before here went plain page in
      let b = no_less trace opened kit first timer logs last notes plan told old new before here went plain (completes page) in
      let c = no_less trace opened kit first timer logs last notes plan told old new before here went plain (absorbs page) in omega arith;
}
