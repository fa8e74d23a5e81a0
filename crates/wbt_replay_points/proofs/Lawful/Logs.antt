-- Each entry of a CPU's part is its own, and each of its flushers claims, hands over and completes in turn: with one entry more.
use Rattle.std.proofs.Common.{◌≡◌, ◌≢◌, ℕ, ◌+◌, ◌<◌, true, false, cond, eqb, ltb, List, [], ◌∷◌, ◌++◌, length, get_or, Option, Some, None, IfSome, refl, sym, ◌∙◌, ap, subst, arith, eq-eqb, ne_eqb, length-append}
use Rattle.std.proofs.Math.ListN.{set}
use Rattle.std.proofs.lemmas.Bool.{cond-true, cond-false, lt-ltb}
use Rattle.std.proofs.lemmas.List.{get_or-set_same, get_or-set_other}
use Rattle.std.proofs.lemmas.Option.{slice_get-get_or}
use mathlib.Core.Logic.{dite}
use native.Mathlib.Decide.{ℕ_discrete}
use Rattle.wbt_replay_order.proofs.Common.{TaskLine, Trace, Each, Flight, Move, effect, of_part, ToldPhase, ToldFlusher, new_flusher, MayMove, is_own_flusher, cpu_of_task, is_on, is_own_task, Told, InOrder, one_checked, one_estimated, told_entry, CheckEntry, Entry, EstEntry, IsOwn, each_append, walked_more, logged, checked, estimated, no_cpu, no_flusher, Cpu, Flusher, TellsNoFailure, IsFlusherOn, IsTaskOn}
use Rattle.wbt_journal.specs.Effects.{Effect, of_flight}
use Rattle.wbt_journal.specs.Flights.{moved}
use Rattle.wbt_journal.specs.Told.{checked as check_told, estimated as est_told}
use Rattle.wbt_journal.specs.declared.entry.Entry.TheVariants as entry
use Rattle.wbt_run_laws.specs.Phases.{flusher_after, FliesInTurn, Flew}
use Rattle.wbt_rules.specs.Things as things
use Rattle.wbt_replay_order.specs.Definition.Tasks as tasks
use Rattle.wbt_replay_order.proofs.Growth.Afresh.{told_in, told_more, told_same, slice_more, slice_last}
use Rattle.wbt_replay_points.proofs.Claims.Named.{names_check, names_est}
use Rattle.wbt_replay_order.proofs.Growth.Quiet.{is_name, names_stay}
use Rattle.wbt_replay_points.proofs.Lawful.Same.{log_of, told_of, told_phase, unfailed, told_flusher}

-- ---- who is whose

pub own_flusher : (trace : Trace) (cpu f : ℕ) → IsFlusherOn trace cpu f → is_own_flusher trace cpu f ≡ true
own_flusher trace cpu f on =
    ap (is_on cpu) (cond-true (ltb f (length trace.flushers)) (Some (things.flusher_cpu trace f)) None (lt-ltb f (length trace.flushers) on.there))
    ∙ eq-eqb (things.flusher_cpu trace f) cpu on.cpu_is

pub own_task : (trace : Trace) (cpu task : ℕ) → IsTaskOn trace cpu task → is_own_task trace cpu task ≡ true
own_task trace cpu task on =
    ap (λ (o : Option TaskLine). is_on cpu (cpu_of_task o)) (slice_get-get_or trace.tasks task (record { cpu = 0; pace = None }) on.there)
    ∙ eq-eqb (tasks.task_cpu trace task) cpu on.cpu_is

-- ---- what a part tells with one entry more

-- the entries name checks and estimates in order
abbrev pub IsInOrder : (c : Cpu) → Type 0
IsInOrder c = InOrder (length c.checks) (length c.estimates) 0 0 c.entries

pub told_logged : (e : Entry) (c : Cpu) → told_of (logged e c) ≡ told_of c ++ told_entry c.checks c.estimates e
told_logged e c = told_more c.checks c.estimates c.entries e

pub order_logged : (e : Entry) (c : Cpu) → is_name e ≡ false → IsInOrder c → IsInOrder (logged e c)
order_logged e c none order = names_stay (length c.checks) (length c.estimates) 0 0 c.entries e none order

pub told_checked : (check : CheckEntry) (c : Cpu) → IsInOrder c → told_of (checked check c) ≡ told_of c ++ check_told check ∷ []
told_checked check c order =
    let longer : List CheckEntry = c.checks ++ check ∷ [] in
    told_more longer c.estimates c.entries (entry.Check (length c.checks))
    ∙ ap (λ (which : Option CheckEntry). told_in longer c.estimates c.entries ++ one_checked which) (slice_last c.checks check)
    ∙ ap (λ (l : List Told). l ++ check_told check ∷ []) (told_same c.checks longer c.estimates c.estimates (slice_more c.checks (check ∷ [])) (λ i less. refl) 0 0 c.entries order)

pub order_checked : (check : CheckEntry) (c : Cpu) → IsInOrder c → IsInOrder (checked check c)
order_checked check c order =
    subst (λ (n : ℕ). InOrder n (length c.estimates) 0 0 (c.entries ++ entry.Check (length c.checks) ∷ []))
    (let long : length c.checks + 1 ≡ length (c.checks ++ check ∷ []) = omega (arith, length-append c.checks (check ∷ [])) in long)
    (names_check (length c.checks) (length c.estimates) 0 0 c.entries order)

pub told_estimated : (est : EstEntry) (c : Cpu) → IsInOrder c → told_of (estimated est c) ≡ told_of c ++ est_told est ∷ []
told_estimated est c order =
    let longer : List EstEntry = c.estimates ++ est ∷ [] in
    told_more c.checks longer c.entries (entry.Est (length c.estimates))
    ∙ ap (λ (which : Option EstEntry). told_in c.checks longer c.entries ++ one_estimated which) (slice_last c.estimates est)
    ∙ ap (λ (l : List Told). l ++ est_told est ∷ []) (told_same c.checks c.checks c.estimates longer (λ i less. refl) (slice_more c.estimates (est ∷ [])) 0 0 c.entries order)

pub order_estimated : (est : EstEntry) (c : Cpu) → IsInOrder c → IsInOrder (estimated est c)
order_estimated est c order =
    subst (λ (n : ℕ). InOrder (length c.checks) n 0 0 (c.entries ++ entry.Est (length c.estimates) ∷ []))
    (let long : length c.estimates + 1 ≡ length (c.estimates ++ est ∷ []) = omega (arith, length-append c.estimates (est ∷ [])) in long)
    (names_est (length c.checks) (length c.estimates) 0 0 c.entries order)

-- ---- the state of the logs

-- an entry is its CPU's own, and tells no failure
abbrev pub IsTold : (trace : Trace) (cpu : ℕ) (e : Told) → Type 0
IsTold trace cpu e = IsOwn trace cpu e × TellsNoFailure e

-- the flusher's moves that a CPU's part tells lead to where the flusher is
abbrev pub IsFlown : (f : ℕ) (c : Cpu) (v : Flusher) → Type 0
IsFlown f c v = Flew f new_flusher (told_of c) (told_flusher v)

pub record AreLogged (trace : Trace) (cpus : List Cpu) (flushers : List Flusher) : Type 0 where
  pub order : (i : ℕ) → IsInOrder (get_or cpus i no_cpu)
  pub own : (i : ℕ) → Each (IsTold trace i) (told_of (get_or cpus i no_cpu))
  pub flown : (i f : ℕ) → IsFlusherOn trace i f → IsFlown f (get_or cpus i no_cpu) (get_or flushers f no_flusher)

-- the same logs and phases
pub logs_stay : (trace : Trace) (cpus cpus2 : List Cpu) (flushers flushers2 : List Flusher) → ((i : ℕ) → log_of (get_or cpus2 i no_cpu) ≡ log_of (get_or cpus i no_cpu))
    → ((f : ℕ) → told_phase (get_or flushers2 f no_flusher) ≡ told_phase (get_or flushers f no_flusher)) → AreLogged trace cpus flushers → AreLogged trace cpus2 flushers2
logs_stay trace cpus cpus2 flushers flushers2 logs phases h = record {
  order = λ i. subst (λ (q : List Entry × List CheckEntry × List EstEntry). InOrder (length q.1) (length q.2) 0 0 q.0) (sym (logs i)) (h.order i);
  own = λ i. subst (λ (q : List Entry × List CheckEntry × List EstEntry). Each (IsTold trace i) (told_in q.1 q.2 q.0)) (sym (logs i)) (h.own i);
  flown = λ i f on.
      subst (λ (p : ToldPhase). Flew f new_flusher (told_of (get_or cpus2 i no_cpu)) (unfailed p)) (sym (phases f))
      (subst (λ (q : List Entry × List CheckEntry × List EstEntry). Flew f new_flusher (told_in q.1 q.2 q.0) (told_flusher (get_or flushers f no_flusher))) (sym (logs i)) (h.flown i f on));
}

-- one CPU tells more
pub logs_more : (trace : Trace) (cpus : List Cpu) (flushers flushers2 : List Flusher) (cpu : ℕ) (c : Cpu) (added : List Told) → cpu < length cpus
    → told_of c ≡ told_of (get_or cpus cpu no_cpu) ++ added → IsInOrder c → Each (IsTold trace cpu) added
    → ((f : ℕ) → IsFlusherOn trace cpu f → Flew f (told_flusher (get_or flushers f no_flusher)) added (told_flusher (get_or flushers2 f no_flusher)))
    → ((i f : ℕ) → i ≢ cpu → IsFlusherOn trace i f → told_flusher (get_or flushers2 f no_flusher) ≡ told_flusher (get_or flushers f no_flusher))
    → AreLogged trace cpus flushers → AreLogged trace (set cpus cpu c) flushers2
logs_more trace cpus flushers flushers2 cpu c added there told order own flew others h = record {
  order = λ i. dite (ℕ_discrete i cpu)
      (λ same. subst (λ (n : ℕ). IsInOrder (get_or (set cpus cpu c) n no_cpu)) (sym same) (subst IsInOrder (sym (get_or-set_same cpus cpu c no_cpu there)) order))
      (λ apart. subst IsInOrder (sym (get_or-set_other cpus cpu i c no_cpu apart)) (h.order i));
  own = λ i. dite (ℕ_discrete i cpu)
      (λ same. subst (λ (n : ℕ). Each (IsTold trace n) (told_of (get_or (set cpus cpu c) n no_cpu))) (sym same)
      (subst (λ (x : Cpu). Each (IsTold trace cpu) (told_of x)) (sym (get_or-set_same cpus cpu c no_cpu there))
      (subst (Each (IsTold trace cpu)) (sym told) (each_append (IsTold trace cpu) (told_of (get_or cpus cpu no_cpu)) added (h.own cpu) own))))
      (λ apart. subst (λ (x : Cpu). Each (IsTold trace i) (told_of x)) (sym (get_or-set_other cpus cpu i c no_cpu apart)) (h.own i));
  flown = λ i f on. dite (ℕ_discrete i cpu)
      (λ same.
      let here : IsFlusherOn trace cpu f = subst (λ (n : ℕ). IsFlusherOn trace n f) same on in
      subst (λ (n : ℕ). IsFlown f (get_or (set cpus cpu c) n no_cpu) (get_or flushers2 f no_flusher)) (sym same)
      (subst (λ (x : Cpu). IsFlown f x (get_or flushers2 f no_flusher)) (sym (get_or-set_same cpus cpu c no_cpu there))
      (subst (λ (l : List Told). Flew f new_flusher l (told_flusher (get_or flushers2 f no_flusher))) (sym told)
      (walked_more (FliesInTurn f) (flusher_after f) new_flusher (told_flusher (get_or flushers f no_flusher)) (told_flusher (get_or flushers2 f no_flusher)) (told_of (get_or cpus cpu no_cpu)) added
      (h.flown cpu f here) (flew f here)))))
      (λ apart.
      subst (λ (x : Cpu). IsFlown f x (get_or flushers2 f no_flusher)) (sym (get_or-set_other cpus cpu i c no_cpu apart))
      (subst (λ (p : ToldFlusher). Flew f new_flusher (told_of (get_or cpus i no_cpu)) p) (sym (others i f apart on)) (h.flown i f on)));
}

-- ---- a flusher's move

-- its own walk goes on, and the others' don't see it
pub one_flight : (f g : ℕ) (move : Move) (e : Told) (old new : ToldFlusher) → effect e ≡ of_flight f move → MayMove move old.phase → new ≡ moved move old
    → (other_old other_new : ToldFlusher) → (g ≡ f → (other_old ≡ old) × (other_new ≡ new)) → (g ≢ f → other_new ≡ other_old)
    → Flew g other_old (e ∷ []) other_new
one_flight f g move e old new is may becomes other_old other_new own apart = record {
  allowed = (
    subst (λ (o : Option Flight). IfSome o (λ (flight : Flight). flight.flusher ≡ g → MayMove flight.move other_old.phase)) (sym (ap (λ (q : Effect). q.flight) is))
        (λ same. subst (λ (p : ToldFlusher). MayMove move p.phase) (sym (own (sym same)).0) may),
    tt,
  );
  reached = ap (λ (q : Effect). of_flight_after q.flight) is ∙ dite (ℕ_discrete g f)
      (λ same. cond-true (eqb f g) (moved move other_old) other_old (eq-eqb f g (sym same)) ∙ ap (moved move) (own same).0 ∙ sym becomes ∙ sym (own same).1)
      (λ other. cond-false (eqb f g) (moved move other_old) other_old (ne_eqb f g (λ e2. other (sym e2))) ∙ sym (apart other));
}
  where
    of_flight_after : (which : Option Flight) → ToldFlusher
    of_flight_after which = of_part other_old (λ (flight : Flight). cond (eqb flight.flusher g) (moved flight.move other_old) other_old) which
