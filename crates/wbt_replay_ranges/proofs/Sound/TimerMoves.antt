-- Silent moves of the timer, and its turn that begins.
use Rattle.std.proofs.Common.{◌≡◌, ℕ, zero, suc, ◌+◌, ◌-◌, ◌*◌, ◌/◌, ◌^◌, ◌<◌, ◌≤◌, Bool, true, false, cond, ltb, Option, Some, None, List, [], ◌∷◌, ◌++◌, length, get_or, All, refl, sym, ◌∙◌, ap, subst, arith, append_assoc}
use Rattle.std.proofs.Math.ListN.{set}
use Rattle.std.proofs.lemmas.Bool.Decides.{nat_tests}
use Rattle.std.proofs.lemmas.Nat.{shr_le}
use Rattle.std.proofs.lemmas.List.Elements.{All-nil, All-cons}
use Rattle.wbt_flex.specs.declared.half.TheConstants.{LAST_PERIOD}
use Rattle.wbt_replay_order.proofs.Common.{after_period, Half, domains, TimerEntry, Trace, make_timer_move, State, domain_of, no_domain, with_timer, is_time, periods, period_to, period, rest, domain_turns, domain_periods, turn_items, begin_timer, Domain, Timer, TimerSilent, TimerTodo, Facts, silent_ticks, timer_credit, Sound, HasRoom, TimerItemFits, PublishesNext}
use Rattle.wbt_flex.specs.Proportions.{may_age}
use Rattle.wbt_journal.specs.declared.timer.TimerEntry.TheVariants as entry
use Rattle.wbt_replay_moves.specs.Definition.Timer.{rested}
use Rattle.wbt_rules.specs.declared.moments.TheConstants.{PERIOD_TICKS}
use Rattle.wbt_replay_moves.specs.declared.todo.TimerSilent.TheVariants as silent
use Rattle.wbt_replay_moves.specs.declared.todo.TimerStep.TheVariants as step
use Rattle.wbt_replay_moves.specs.declared.todo.TimerTodo.TheVariants as todo
use Rattle.wbt_replay_order.specs.Kept.Sound.{IsTimer, AreTimerItems}
use Rattle.wbt_replay_order.proofs.Facts.Lists.{either}
use Rattle.wbt_replay_ranges.proofs.Sound.Going.{Going}
use Rattle.wbt_replay_ranges.proofs.Sound.Things.{domain_going, timer_going}
use Rattle.wbt_replay_ranges.proofs.Sound.Timers.{nobody_going, nobody_sound, next_any, credit_small, g0, fits, order}

half_less : (p q : ℕ) → p / 2 ^ q ≤ p
half_less p q = shr_le p q

-- ---- periods

-- a domain after some periods
record IsLater (before after : Half) : Type 0 where
  pub period : before.period ≤ after.period
  pub early : after.period ≤ LAST_PERIOD
  pub events : after.events ≤ before.events

later_is : (half : Half) (k : ℕ) (found : Half) → after_period half k ≡ Some found → IsLater half found
later_is half k found is = by_age (may_age half.events half.period k) (λ t. grind (arith, nat_tests)) is
  where
    by_age : (b : Bool) → (b ≡ true → half.period + k ≤ LAST_PERIOD) → cond b (Some (record { period = half.period + k; events = half.events / 2 ^ k })) None ≡ Some found → IsLater half found
    by_age true f e =
        let same : record { period = half.period + k; events = half.events / 2 ^ k } ≡ found = cc e in
        subst (IsLater half) same (record { period = omega arith; early = f refl; events = half_less half.events k })
    by_age false f e = absurd (cc e)

time_moves : (began at : ℕ) → at ≤ began → at + 3000 * ((began - at) / 3000 + 1) ≤ began + 3000
time_moves began at h = omega (arith, h)

module _ (trace : Trace) (facts : Facts trace) (s : State) (sound : Sound trace s) (room : HasRoom trace s) where
  -- the item leaves the list
  popped_going : (item : TimerSilent) (ts : List TimerTodo) → s.timer.todo ≡ todo.Silent item ∷ ts → (es : List TimerEntry) (y : State) → Going trace trace.cpus 0 0 y → y.timer ≡ s.timer → y.now ≡ s.now
      → IsTimer trace y.now y.domains (record s.timer { todo = ts; entries = es }) → Going trace trace.cpus 0 0 (record y { timer = record s.timer { todo = ts; entries = es } })
  popped_going item ts first es y g same moment is =
      let small = credit_small ts in
      let was : timer_credit y.timer.todo ≡ timer_credit (todo.Silent item ∷ ts) = ap (λ (tm : Timer). timer_credit tm.todo) same ∙ ap timer_credit first in
      let next : y.timer.next ≡ s.timer.next = ap (λ (tm : Timer). tm.next) same in
      timer_going trace trace.cpus 0 0 (record s.timer { todo = ts; entries = es }) 0 0 y g is (omega (arith, next)) (omega (arith, small, was))

  early_kept : (d : ℕ) (ts : List TimerTodo) → s.timer.todo ≡ todo.Silent (silent.Period d) ∷ ts → Sound trace (with_timer (record s.timer { todo = ts }) s) × HasRoom trace (with_timer (record s.timer { todo = ts }) s)
  early_kept d ts first =
      let o = order trace facts s sound room (todo.Silent (silent.Period d)) ts first in
      let item = fits trace facts s sound room (todo.Silent (silent.Period d)) ts first in
      let h = sound.holds.timer in
      nobody_sound trace 0 0 (with_timer (record s.timer { todo = ts }) s) (popped_going (silent.Period d) ts first s.timer.entries s (g0 trace facts s sound room) refl refl
      (record { todo = item.1; in_order = o.1; under_peak = next_any s.domains s.timer.limits ts o.0; began = h.began; limits = h.limits; period = h.period }))

  to_kept : (d k : ℕ) (ts : List TimerTodo) (found : Option Half) → s.timer.todo ≡ todo.Silent (silent.Period d) ∷ ts → after_period (domain_of d s).events k ≡ found
      → Sound trace (period_to d k found (with_timer (record s.timer { todo = ts }) s)) × HasRoom trace (period_to d k found (with_timer (record s.timer { todo = ts }) s))
  to_kept d k ts None first is = early_kept d ts first
  to_kept d k ts (Some found) first is =
      let o = order trace facts s sound room (todo.Silent (silent.Period d)) ts first in
      let item = fits trace facts s sound room (todo.Silent (silent.Period d)) ts first in
      let h = sound.holds.timer in
      let g = g0 trace facts s sound room in
      let at = sound.holds.domains.each d in
      let later = later_is (domain_of d s).events k found is in
      let events = sound.holds.written.events d in
      let y : Domain = record (domain_of d s) { events = found } in
      let g1 = domain_going trace trace.cpus 0 0 d y s g (omega (arith, item.0, sound.holds.domains.many)) (record { limits = at.limits; sequence = at.sequence; under_peak = at.under_peak; peak = at.peak; count = at.count; period = later.early })
      later.period (omega arith) (omega (arith, later.events, events)) in
      let es = s.timer.entries ++ entry.Period d k ∷ [] in
      nobody_sound trace 0 0 (record s { domains = set s.domains d y; timer = record s.timer { todo = ts; entries = es } })
      (popped_going (silent.Period d) ts first es (record s { domains = set s.domains d y }) g1 refl refl
      (record { todo = item.1; in_order = o.1; under_peak = next_any (set s.domains d y) s.timer.limits ts o.0; began = h.began; limits = h.limits; period = h.period }))

  period_kept : (d : ℕ) (ts : List TimerTodo) → s.timer.todo ≡ todo.Silent (silent.Period d) ∷ ts → Sound trace (period d (with_timer (record s.timer { todo = ts }) s)) × HasRoom trace (period d (with_timer (record s.timer { todo = ts }) s))
  period_kept d ts first =
      let x : State = with_timer (record s.timer { todo = ts }) s in
      let k : ℕ = periods s.timer in
      either (λ y. Sound trace y × HasRoom trace y) (is_time s.timer) (period_to d k (after_period (domain_of d s).events k) x) x
      (λ time. to_kept d k ts (after_period (domain_of d s).events k) first refl)
      (λ early. early_kept d ts first)

  rest_kept : (ts : List TimerTodo) → s.timer.todo ≡ todo.Silent silent.Rest ∷ ts → Sound trace (rest (with_timer (record s.timer { todo = ts }) s)) × HasRoom trace (rest (with_timer (record s.timer { todo = ts }) s))
  rest_kept ts first =
      let none : ts ≡ [] = order trace facts s sound room (todo.Silent silent.Rest) ts first in
      let h = sound.holds.timer in
      let tm : Timer = rested (record s.timer { todo = ts }) in
      let was : timer_credit s.timer.todo ≡ silent_ticks = ap timer_credit first in
      let now : timer_credit ts ≡ 0 = ap timer_credit none in
      let began = h.began in
      let period = h.period in
      nobody_sound trace 0 0 (record s { timer = tm }) (timer_going trace trace.cpus 0 0 tm 0 200 s (g0 trace facts s sound room)
      (record {
        todo = subst (All (TimerItemFits trace)) (sym none) (All-nil (TimerItemFits trace));
        in_order = subst AreTimerItems (sym none) tt;
        under_peak = subst (PublishesNext (λ d. s.timer.limits.hard ≤ (get_or s.domains d no_domain).peak)) (sym none) tt;
        began = h.began;
        limits = h.limits;
        period = moved (ltb s.timer.began s.timer.period) (λ t. grind (arith, nat_tests));
      })
      (omega (arith, began)) (omega (arith, was, now)))
    where
      moved : (b : Bool) → (b ≡ false → s.timer.period ≤ s.timer.began)
          → s.timer.period + PERIOD_TICKS * cond b 0 ((s.timer.began - s.timer.period) / PERIOD_TICKS + 1) ≤ s.now + PERIOD_TICKS
      moved true f = omega (arith, sound.holds.timer.period)
      moved false f = let began = sound.holds.timer.began in let l = time_moves s.timer.began s.timer.period (f refl) in omega (arith, l, began)

  pub timer_move_kept : (item : TimerSilent) (ts : List TimerTodo) → s.timer.todo ≡ todo.Silent item ∷ ts → Sound trace (make_timer_move item (with_timer (record s.timer { todo = ts }) s)) × HasRoom trace (make_timer_move item (with_timer (record s.timer { todo = ts }) s))
  unfolding make_timer_move
  timer_move_kept (silent.Period d) ts first = period_kept d ts first
  timer_move_kept silent.Rest ts first = rest_kept ts first

-- ---- a turn begins

record AreItems (trace : Trace) (ts : List TimerTodo) : Type 0 where
  pub fit : All (TimerItemFits trace) ts
  pub order : AreTimerItems ts
  pub none : PublishesNext (λ d. ⊥) ts

rest_items : (trace : Trace) → AreItems trace (todo.Silent silent.Rest ∷ [])
rest_items trace = record { fit = All-cons (TimerItemFits trace) (todo.Silent silent.Rest) [] tt (All-nil (TimerItemFits trace)); order = refl; none = tt }

period_items : (trace : Trace) (count d : ℕ) (ts : List TimerTodo) → d + count ≤ domains trace → AreItems trace ts → AreItems trace (domain_periods count d ++ ts)
unfolding domain_periods
period_items trace zero d ts l h = h
period_items trace (suc count) d ts l h =
    let rest = period_items trace count (d + 1) ts (omega (arith, l)) h in
    record { fit = All-cons (TimerItemFits trace) (todo.Silent (silent.Period d)) (domain_periods count (d + 1) ++ ts) (omega (arith, l)) rest.fit; order = (rest.none, rest.order); none = tt }

turns_items : (trace : Trace) (count d : ℕ) (ts : List TimerTodo) → d + count ≤ domains trace → AreItems trace ts → AreItems trace (domain_turns count d ++ ts)
unfolding domain_turns
turns_items trace zero d ts l h = h
turns_items trace (suc count) d ts l h =
    let rest = turns_items trace count (d + 1) ts (omega (arith, l)) h in
    let more : List TimerTodo = domain_turns count (d + 1) ++ ts in
    let there : d < domains trace = omega (arith, l) in
    let a = All-cons (TimerItemFits trace) (todo.Step (step.Publish d)) more there rest.fit in
    let last : List TimerTodo = todo.Step (step.Publish d) ∷ more in
    let b = All-cons (TimerItemFits trace) (todo.Step (step.Thresh d)) last there a in
    let c = All-cons (TimerItemFits trace) (todo.Step (step.Unseal d)) (todo.Step (step.Thresh d) ∷ last) there b in
    let publishing : List TimerTodo = todo.Step (step.Unseal d) ∷ todo.Step (step.Thresh d) ∷ last in
    let e = All-cons (TimerItemFits trace) (todo.Step (step.Peak d)) publishing there c in
    record { fit = All-cons (TimerItemFits trace) (todo.Step (step.Count d)) (todo.Step (step.Peak d) ∷ publishing) there e; order = (tt, (refl, (refl, (refl, (rest.none, rest.order))))); none = tt }

turns_first : (count d : ℕ) (ts : List TimerTodo) → 1 ≤ count → timer_credit (domain_turns count d ++ ts) ≡ 0
unfolding domain_turns
turns_first zero d ts l = absurd (omega (arith, l))
turns_first (suc count) d ts l = refl

apart : (a b c : List TimerTodo) → a ++ (b ++ c) ≡ (a ++ b) ++ c
apart a b c = simp append_assoc

nil_first : (a b : List TimerTodo) → a ≡ [] → b ≡ a ++ b
nil_first [] b e = refl
nil_first (x ∷ a) b e = absurd (cc e)

pub timer_begins : (trace : Trace) (facts : Facts trace) (s : State) → Sound trace s → HasRoom trace s → s.timer.todo ≡ [] → Sound trace (begin_timer s) × HasRoom trace (begin_timer s)
timer_begins trace facts s sound room idle =
    let n : ℕ = length s.domains in
    let many = sound.holds.domains.many in
    let last : List TimerTodo = domain_periods n 0 ++ todo.Silent silent.Rest ∷ [] in
    let items = turns_items trace n 0 last (omega (arith, many)) (period_items trace n 0 (todo.Silent silent.Rest ∷ []) (omega (arith, many)) (rest_items trace)) in
    let same : domain_turns n 0 ++ last ≡ s.timer.todo ++ turn_items n = apart (domain_turns n 0) (domain_periods n 0) (todo.Silent silent.Rest ∷ []) ∙ nil_first s.timer.todo (turn_items n) idle in
    let now = subst (AreItems trace) same items in
    let credit = subst (λ (ts : List TimerTodo). timer_credit ts ≡ 0) same (turns_first n 0 last (omega (arith, many))) in
    let tm : Timer = record s.timer { todo = s.timer.todo ++ turn_items n; began = s.now } in
    let h = sound.holds.timer in
    nobody_sound trace 0 0 (record s { timer = tm }) (timer_going trace trace.cpus 0 0 tm 0 0 s (nobody_going trace s sound room)
    (record { todo = now.fit; in_order = now.order; under_peak = next_any s.domains s.timer.limits tm.todo now.none; began = omega arith; limits = h.limits; period = h.period }) (omega arith) (omega (arith, credit)))
