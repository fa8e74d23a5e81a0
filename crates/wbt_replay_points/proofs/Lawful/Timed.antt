-- At each moment of a run each line of the timer may follow those before it.
use Rattle.std.proofs.Common.{◌≡◌, ℕ, zero, suc, ◌+◌, ◌<◌, max, true, leb, List, [], ◌∷◌, length, get_or, All, Option, Some, None, refl, sym, ◌∙◌, ap, subst, arith, length-append, ⊎_elim}
use Rattle.std.proofs.Math.ListN.{set}
use Rattle.std.proofs.Math.Path.{fun_ext}
use Rattle.std.proofs.lemmas.Bool.{cases_Bool, leb-true, le-ltb}
use Rattle.std.proofs.lemmas.List.{get_or-set_same, get_or-set_other, length-set}
use Rattle.std.proofs.lemmas.List.Elements.{All-head}
use Rattle.wbt_replay_order.proofs.Common.{Limits, at_least_zero, Counter, after_period, Half, Trace, opened_at, domains, Along, fold, counted, own_of, share_now, make_timer_step, make_timer_move, State, no_domain, cpu_of, domain_of, with_domain, count_of, with_timer, load, peak, unseal, thresh, publish, period, period_to, periods, is_time, begin_timer, Domain, Timer, Actor, Stretch, TimerSilent, TimerStep, TimerTodo, opening, first_limits, first_domain, first_domains, opening_moment, advance, is_ended, most_moves, state_at, last_state, journal_of, Facts, Sound, TimerItemFits}
use Rattle.wbt_counter.specs.declared.counter.Counter.TheVariants.{Domain as ofDomain, Context as ofContext}
use Rattle.wbt_flex.specs.Proportions.{added}
use Rattle.wbt_journal.specs.Lawful.{TimerFollows, TimerHasOpened}
use Rattle.wbt_journal.specs.Timer.{TimerGoesOn, LastLine, lines_after}
use Rattle.wbt_replay_moves.specs.Definition.Timer.{rested}
use Rattle.wbt_replay_moves.specs.declared.todo.TimerSilent.TheVariants as silent
use Rattle.wbt_replay_moves.specs.declared.todo.TimerStep.TheVariants as step
use Rattle.wbt_replay_moves.specs.declared.todo.TimerTodo.TheVariants as todo
use Rattle.wbt_replay_points.proofs.Claims.Peaks.{first_domain_of, peaks_at}
use Rattle.wbt_replay_order.proofs.Growth.Quiet.{same_at}
use Rattle.wbt_replay_order.proofs.Growth.Runs.{run_none, run_last, run_stays}
use Rattle.wbt_replay_order.proofs.Facts.Lists.{either}
use Rattle.wbt_replay_points.proofs.Lawful.Plainly.{steps_seen, moves_seen, see_turn}
use Rattle.wbt_replay_points.proofs.Lawful.Same.{Hidden}
use Rattle.wbt_replay_points.proofs.Lawful.Timing.{IsTimedIn, lines_of, loaded, raised, unsealed, drafted, published, unbegun, begun, rests, turns, AreFirst, are_first, opened_first}
use Rattle.wbt_replay_order.proofs.Walk.{turned}
use Rattle.wbt_replay_points.proofs.Lawful.Walk.{advance_seen, starts_of}

fun_same : (f g : ℕ → ℕ) → ((n : ℕ) → f n ≡ g n) → f ≡ g
fun_same f g same = fun_ext same

-- the domains' hard limits
abbrev hard_in : (ds : List Domain) (d : ℕ) → ℕ
hard_in ds d = (get_or ds d no_domain).limits.hard

abbrev pub IsTimed : (trace : Trace) (s : State) → Type 0
IsTimed trace s = IsTimedIn trace s.timer (length s.domains) (hard_in s.domains)

module _ (trace : Trace) where
  -- the timer and the domains' hard limits are the same
  stays : (s u : State) → u.timer ≡ s.timer → length u.domains ≡ length s.domains → ((d : ℕ) → hard_in u.domains d ≡ hard_in s.domains d) → IsTimed trace s → IsTimed trace u
  stays s u timer many hard h =
      subst (λ (t : Timer). IsTimedIn trace t (length u.domains) (hard_in u.domains)) (sym timer)
      (subst (λ (n : ℕ). IsTimedIn trace s.timer n (hard_in u.domains)) (sym many)
      (subst (λ (f : ℕ → ℕ). IsTimedIn trace s.timer (length s.domains) f) (fun_same (hard_in s.domains) (hard_in u.domains) (λ d. sym (hard d))) h))

  abbrev Goes : (s u : State) → Type 0
  Goes s u = IsTimed trace s → IsTimed trace u

  hide : (s u : State) → Hidden s u → Goes s u
  hide s u hidden h = stays s u hidden.1 hidden.0.many (λ d. ap (λ (l : Limits). l.hard) (hidden.2 d)) h

  thens : (s u v : State) → Goes s u → Goes u v → Goes s v
  thens s u v p q h = q (p h)

  one_domain : (d : ℕ) (v : Domain) (s : State) → v.limits.hard ≡ (domain_of d s).limits.hard → Goes s (with_domain d v s)
  one_domain d v s same h = stays s (with_domain d v s) refl (length-set s.domains d v) (same_at (λ (x : Domain). x.limits.hard) s.domains d v no_domain same) h

  folds : (cpu : ℕ) (x : Counter) (s : State) → Goes s (fold cpu x s)
  folds cpu (ofDomain d) s h = one_domain d (record (domain_of d s) { count = counted (own_of (ofDomain d) (cpu_of cpu s)) (count_of (ofDomain d) s) }) s refl h
  folds cpu (ofContext k) s h = h

  -- ---- the timer's moves

  module _ (s0 : State) (sound : Sound trace s0) where
    module _ (orders : List Stretch) (rotation : Option Actor) (ts : List TimerTodo) where
      abbrev m : State
      m = with_timer (record s0.timer { todo = ts }) (turned orders rotation s0)

      there : (d : ℕ) → d < domains trace → d < length s0.domains
      there d less = omega (arith, less, sound.holds.domains.many)

      fits : (x : TimerTodo) → s0.timer.todo ≡ x ∷ ts → TimerItemFits trace x
      fits x is = All-head (TimerItemFits trace) x ts (subst (All (TimerItemFits trace)) is sound.holds.timer.todo)

      loads : (d : ℕ) → s0.timer.todo ≡ todo.Step (step.Count d) ∷ ts → Goes s0 (load trace d m)
      loads zero is h = loaded trace s0.timer (length s0.domains) (hard_in s0.domains) h 0 ts (at_least_zero (domain_of 0 s0).count.value) (at_least_zero (domain_of 0 s0).count.value) is (fits (todo.Step (step.Count 0)) is)
      loads (suc c) is h = loaded trace s0.timer (length s0.domains) (hard_in s0.domains) h (suc c) ts s0.timer.global (at_least_zero (domain_of (suc c) s0).count.value) is (fits (todo.Step (step.Count (suc c))) is)

      peaks : (d : ℕ) → s0.timer.todo ≡ todo.Step (step.Peak d) ∷ ts → Goes s0 (peak d m)
      peaks d is h = one_domain d (record (domain_of d s0) { peak = max (domain_of d s0).peak s0.timer.limits.hard }) m refl (raised trace s0.timer (length s0.domains) (hard_in s0.domains) h d ts is)

      unseals : (d : ℕ) → s0.timer.todo ≡ todo.Step (step.Unseal d) ∷ ts → Goes s0 (unseal d m)
      unseals d is h = one_domain d (record (domain_of d s0) { sequence = (domain_of d s0).sequence + 1 }) m refl (unsealed trace s0.timer (length s0.domains) (hard_in s0.domains) h d ts is)

      threshes : (d : ℕ) → s0.timer.todo ≡ todo.Step (step.Thresh d) ∷ ts → Goes s0 (thresh m)
      threshes d is h = drafted trace s0.timer (length s0.domains) (hard_in s0.domains) h d ts is

      publishes : (d : ℕ) → s0.timer.todo ≡ todo.Step (step.Publish d) ∷ ts → Goes s0 (publish d m)
      publishes d is h =
          let less = fits (todo.Step (step.Publish d)) is in
          let v : Domain = record (domain_of d s0) { limits = s0.timer.limits; sequence = (domain_of d s0).sequence + 1 } in
          subst (λ (n : ℕ). IsTimedIn trace (publish d m).timer n (hard_in (publish d m).domains)) (sym (length-set s0.domains d v))
          (published trace s0.timer (length s0.domains) (hard_in s0.domains) h d ts (hard_in (set s0.domains d v)) is less
          (ap (λ (q : Domain). q.limits.hard) (get_or-set_same s0.domains d v no_domain (there d less)))
          (λ e apart. ap (λ (q : Domain). q.limits.hard) (get_or-set_other s0.domains d e v no_domain apart)))

      times : (x : TimerStep) → s0.timer.todo ≡ todo.Step x ∷ ts → Goes s0 (make_timer_step trace x m)
      unfolding make_timer_step
      times (step.Count d) is = loads d is
      times (step.Peak d) is = peaks d is
      times (step.Unseal d) is = unseals d is
      times (step.Thresh d) is = threshes d is
      times (step.Publish d) is = publishes d is

      periods_on : (d : ℕ) → s0.timer.todo ≡ todo.Silent (silent.Period d) ∷ ts → Goes s0 (period d m)
      periods_on d is h =
          either (IsTimed trace) (is_time m.timer) (period_to d (periods m.timer) (after_period (domain_of d m).events (periods m.timer)) m) m
          (λ time. by_found (after_period (domain_of d m).events (periods m.timer))) (λ early. unbegun trace s0.timer (length s0.domains) (hard_in s0.domains) h d ts is)
        where
          by_found : (found : Option Half) → IsTimed trace (period_to d (periods m.timer) found m)
          by_found None = unbegun trace s0.timer (length s0.domains) (hard_in s0.domains) h d ts is
          by_found (Some events) =
              let v : Domain = record (domain_of d s0) { events = events } in
              let t : Timer = (period_to d (periods m.timer) (Some events) m).timer in
              one_domain d v (with_timer t m) refl
              (begun trace s0.timer (length s0.domains) (hard_in s0.domains) h d (periods m.timer) ts is (fits (todo.Silent (silent.Period d)) is))

      passes : (x : TimerSilent) → s0.timer.todo ≡ todo.Silent x ∷ ts → Goes s0 (make_timer_move x m)
      unfolding make_timer_move
      passes (silent.Period d) is = periods_on d is
      passes silent.Rest is = λ h. rests trace s0.timer (length s0.domains) (hard_in s0.domains) h (rested m.timer).period ts is

    begins : (orders : List Stretch) (rotation : Option Actor) → s0.timer.todo ≡ [] → leb s0.timer.next s0.now ≡ true → Goes s0 (begin_timer (turned orders rotation s0))
    begins orders rotation none late h = turns trace s0.timer (length s0.domains) (hard_in s0.domains) h s0.now none (leb-true s0.timer.next s0.now late)

    goes_on : Facts trace → Goes s0 (advance trace s0)
    goes_on facts =
        advance_seen trace Goes hide thens s0 (starts_of trace facts s0 sound)
        (λ orders rotation i below ts x is. steps_seen trace facts Goes hide thens (λ cpu c s told local h. h) (λ cpu x s there fit. folds cpu x s) (λ cpu task inode page pages works s now h. h) (λ cpu task inode page pages works s now h. h)
        (λ cpu f scan s now page h. h) (λ cpu f scan until s now some h. h) (λ cpu f inode page pages s now h. h) (λ cpu f move list s now h. h) (λ cpu d k n s there inside known its. shared cpu d k n s) (λ cpu task s now h. h) (λ cpu task s now h. h)
        (λ cpu f k e s now is h. h) s0 sound orders rotation i below ts x is)
        (λ orders rotation i below ts x is. moves_seen trace facts Goes hide thens (λ cpu c s told local h. h) (λ cpu x s there fit. folds cpu x s) (λ cpu task inode page pages works s now h. h) (λ cpu task inode page pages works s now h. h)
        (λ cpu f scan s now page h. h) (λ cpu f scan until s now some h. h) (λ cpu f inode page pages s now h. h) (λ cpu f move list s now h. h) (λ cpu d k n s there inside known its. shared cpu d k n s) (λ cpu task s now h. h) (λ cpu task s now h. h)
        (λ cpu f k e s now is h. h) s0 sound orders rotation i below ts x is)
        (see_turn trace facts Goes hide thens (λ cpu c s told local h. h) (λ cpu x s there fit. folds cpu x s) (λ cpu task inode page pages works s now h. h) (λ cpu task inode page pages works s now h. h)
        (λ cpu f scan s now page h. h) (λ cpu f scan until s now some h. h) (λ cpu f inode page pages s now h. h) (λ cpu f move list s now h. h) (λ cpu d k n s there inside known its. shared cpu d k n s) (λ cpu task s now h. h) (λ cpu task s now h. h)
        (λ cpu f k e s now is h. h))
        (λ orders rotation ts x is. times orders rotation ts x is)
        (λ orders rotation ts x is. passes orders rotation ts x is)
        begins
      where
        shared : (cpu d k n : ℕ) (s : State) → Goes s (share_now cpu d k n s)
        shared cpu d k n s h = one_domain d (record (domain_of d s) { events = added (domain_of d s).events n }) s refl h

  -- ---- the opening, and each moment

  many_first : (n : ℕ) → length (first_domains trace n) ≡ n
  many_first zero = refl
  many_first (suc n) = omega (arith, length-append (first_domains trace n) (first_domain (first_limits trace n) ∷ []), many_first n)

  first_timed : IsTimed trace (opening trace)
  unfolding opening
  first_timed =
      let n : ℕ = domains trace in
      let first : AreFirst trace n = are_first trace n (omega arith) in
      record {
        many_are = many_first n;
        walk = first.walk;
        all_there = first.many;
        hards = λ d less. ap (λ (l : LastLine). l.hard) (first.each d less) ∙ sym (ap (λ (q : Domain). q.limits.hard) (first_domain_of trace n d less));
        least = n;
        goes = tt;
        ready = λ d less later. absurd (omega (arith, less, later));
        not_later = λ d less. (let now_is = ap (λ (l : LastLine). l.now) (first.each d less) in omega (arith, now_is));
        rested = λ none. omega arith;
      }

  module _ (facts : Facts trace) (sound : (moves : ℕ) → Sound trace (state_at trace moves)) where
    timed_at : (moves : ℕ) → IsTimed trace (state_at trace moves)
    timed_at zero = subst (IsTimed trace) (sym (run_none trace 0 (opening trace) refl)) first_timed
    timed_at (suc m) = ⊎_elim
        (λ over. subst (IsTimed trace) (sym (run_stays trace m (suc m) (opening trace) (omega arith) over)) (timed_at m))
        (λ going. subst (IsTimed trace) (sym (run_last trace m (suc m) (opening trace) (omega arith) going)) (goes_on (state_at trace m) (sound m) facts (timed_at m)))
        (cases_Bool (is_ended (state_at trace m)))

    opened_is : opened_at (last_state trace).timer.entries ≡ opening_moment
    opened_is =
        let begun = (peaks_at trace most_moves).begun in
        ap opened_at begun.is ∙ opened_first trace (length trace.cgroups) begun.rest

    pub timer_follows : TimerFollows trace (journal_of trace)
    unfolding journal_of
    timer_follows = subst (λ (n : ℕ). Along (TimerGoesOn trace n) lines_after [] (last_state trace).timer.entries) (sym opened_is) (timed_at most_moves).walk

    pub timer_has_opened : TimerHasOpened trace (journal_of trace)
    unfolding journal_of
    timer_has_opened =
        let all = (timed_at most_moves).all_there in
        le-ltb (length (lines_of (last_state trace).timer.entries)) (domains trace) (omega (arith, all))
