-- Moves of the timer.
use Rattle.std.proofs.Common.{◌≡◌, ℕ, zero, suc, ◌+◌, ◌<◌, ◌≤◌, max, pos, Option, Some, None, List, [], ◌∷◌, ◌++◌, length, get_or, All, sym, ap, subst, arith, length-append}
use Rattle.std.proofs.Math.ListN.{set}
use Rattle.std.proofs.lemmas.List.{get_or-set_same, get_or_past}
use Rattle.std.proofs.lemmas.List.Elements.{All-head, All-tail}
use Rattle.wbt_num.specs.Limits.{IsLawful}
use Rattle.wbt_replay_order.proofs.Common.{Limits, MAX_LIMIT, at_least_zero, StepEntry, thresholds_of, Trace, make_timer_step, State, domain_of, no_cpu, no_domain, with_timer, load, peak, unseal, thresh, publish, Cpu, Domain, Timer, TimerStep, TimerTodo, Facts, silent_ticks, step_ticks, timer_credit, Sound, HasRoom, TimerItemFits, PublishesNext}
use Rattle.wbt_grant.specs.declared.who.StepKind.TheVariants as kind
use Rattle.wbt_journal.specs.declared.timer.TimerEntry.TheVariants as entry
use Rattle.wbt_limits.proofs.Rising.{limits_are_lawful, following_stays_in_range}
use Rattle.wbt_limits.specs.Thresholds.{followed_limit}
use Rattle.wbt_replay_moves.specs.Definition.Timer.{reads_global, finds, timer_logged}
use Rattle.wbt_rules.specs.Thresholds.{limits_after}
use Rattle.wbt_replay_moves.specs.declared.todo.TimerStep.TheVariants as step
use Rattle.wbt_replay_moves.specs.declared.todo.TimerTodo.TheVariants as todo
use Rattle.wbt_replay_order.specs.Kept.Sound.{AreTimerItems}
use Rattle.wbt_replay_ranges.proofs.Sound.Counters.{with_step, plain_entry}
use Rattle.wbt_replay_ranges.proofs.Sound.Going.{Going, step_going, spare_going}
use Rattle.wbt_replay_ranges.proofs.Sound.Things.{domain_going, timer_going}

-- ---- nobody's move: no CPU's part is left out

pub nobody_going : (trace : Trace) (s : State) → Sound trace s → HasRoom trace s → Going trace trace.cpus 0 0 s
nobody_going trace s sound room = record {
  holds = sound.holds;
  live = ap (λ (c : Cpu). c.stopped) (get_or_past s.cpus trace.cpus no_cpu (omega (arith, sound.holds.cpus.many)));
  closed = λ j n l. sound.closed j l;
  room = λ j n l. room.own j l;
}

pub nobody_sound : (trace : Trace) (e t : ℕ) (s : State) → Going trace trace.cpus e t s → Sound trace s × HasRoom trace s
nobody_sound trace e t s g =
    let g' = spare_going trace trace.cpus e 0 t 0 s (omega arith) (omega arith) g in
    (record { holds = g'.holds; closed = λ j l. g.closed j (λ e. absurd (omega (arith, l, e))) l }, record { own = λ j l. g.room j (λ e. absurd (omega (arith, l, e))) l })

-- ---- limits

found_lawful : (avail before reading : ℕ) (trace : Trace) (o : Option ℕ) → before ≤ MAX_LIMIT → IsLawful (limits_after (thresholds_of avail trace.settings o) before reading)
found_lawful avail before reading trace o h =
    let pair = thresholds_of avail trace.settings o in
    let first = limits_are_lawful avail trace.settings o 0 (omega arith) in
    let thresh : pair.thresh ≤ MAX_LIMIT = omega (arith, first.thresh_below_hard, first.hard_in_range) in
    limits_are_lawful avail trace.settings o (followed_limit before pair.thresh reading) (following_stays_in_range before pair.thresh reading thresh h)

finds_lawful : (trace : Trace) (domain before reading : ℕ) (timer : Timer) → before ≤ MAX_LIMIT → IsLawful (finds trace domain before reading timer).limits
finds_lawful trace zero before reading timer h = found_lawful _ before reading trace None h
finds_lawful trace (suc cgroup) before reading timer h = found_lawful _ before reading trace (Some _) h

pub credit_small : (todos : List TimerTodo) → timer_credit todos ≤ silent_ticks
credit_small [] = omega arith
credit_small (todo.Step item ∷ more) = omega arith
credit_small (todo.Silent item ∷ more) = omega arith

pub none_next : (P Q : ℕ → Type 0) (ts : List TimerTodo) → ((d : ℕ) → P d → Q d) → PublishesNext P ts → PublishesNext Q ts
none_next P Q [] f h = tt
none_next P Q (todo.Step (step.Count domain) ∷ more) f h = tt
none_next P Q (todo.Step (step.Peak domain) ∷ more) f h = tt
none_next P Q (todo.Step (step.Unseal domain) ∷ more) f h = f domain h
none_next P Q (todo.Step (step.Thresh domain) ∷ more) f h = f domain h
none_next P Q (todo.Step (step.Publish domain) ∷ more) f h = f domain h
none_next P Q (todo.Silent item ∷ more) f h = tt

-- where none is published next, the peak doesn't matter
pub next_any : (ds : List Domain) (limits : Limits) (ts : List TimerTodo) → PublishesNext (λ d. ⊥) ts → PublishesNext (λ d. limits.hard ≤ (get_or ds d no_domain).peak) ts
next_any ds limits ts h = none_next (λ d. ⊥) (λ d. limits.hard ≤ (get_or ds d no_domain).peak) ts (λ d b. absurd b) h

module _ (trace : Trace) (facts : Facts trace) (s : State) (sound : Sound trace s) (room : HasRoom trace s) where
  pub g0 : Going trace trace.cpus 0 0 s
  g0 = nobody_going trace s sound room

  -- ---- the first item

  module _ (t : TimerTodo) (ts : List TimerTodo) (first : s.timer.todo ≡ t ∷ ts) where
    pub fits : TimerItemFits trace t × All (TimerItemFits trace) ts
    fits = let h = subst (All (TimerItemFits trace)) first sound.holds.timer.todo in (All-head (TimerItemFits trace) t ts h, All-tail (TimerItemFits trace) t ts h)

    pub order : AreTimerItems (t ∷ ts)
    order = subst AreTimerItems first sound.holds.timer.in_order

    pub peaks : PublishesNext (λ d. s.timer.limits.hard ≤ (get_or s.domains d no_domain).peak) (t ∷ ts)
    peaks = subst (PublishesNext (λ d. s.timer.limits.hard ≤ (get_or s.domains d no_domain).peak)) first sound.holds.timer.under_peak

    pub credit : timer_credit s.timer.todo ≡ timer_credit (t ∷ ts)
    credit = ap timer_credit first

    stepped_going : (x : StepEntry) → length s.steps < s.most → Going trace trace.cpus 1 step_ticks (with_step x s)
    stepped_going x few = let one : length (s.steps ++ x ∷ []) ≡ length s.steps + 1 = length-append s.steps (x ∷ []) in step_going trace trace.cpus 0 0 (s.steps ++ x ∷ []) s g0 one (omega (arith, one, few))

  load_kept : (d : ℕ) (ts : List TimerTodo) → s.timer.todo ≡ todo.Step (step.Count d) ∷ ts → length s.steps < s.most → Sound trace (load trace d (with_timer (record s.timer { todo = ts }) s)) × HasRoom trace (load trace d (with_timer (record s.timer { todo = ts }) s))
  load_kept d ts first few =
      let x : StepEntry = plain_entry (length s.cpus) kind.Count in
      let g = stepped_going (todo.Step (step.Count d)) ts first x few in
      let reading : ℕ = at_least_zero (domain_of d s).count.value in
      let at = sound.holds.domains.each d in
      let small = credit_small ts in
      nobody_sound trace 1 0 (record (with_step x s) { timer = finds trace d (domain_of d s).limits.hard reading (reads_global d reading (record s.timer { todo = ts })) }) (by_domain d reading ts first x g at.limits.hard_in_range small)
    where
      by_domain : (n reading : ℕ) (ts : List TimerTodo) → s.timer.todo ≡ todo.Step (step.Count d) ∷ ts → (x : StepEntry) → Going trace trace.cpus 1 step_ticks (with_step x s) → (domain_of d s).limits.hard ≤ MAX_LIMIT → timer_credit ts ≤ silent_ticks
          → Going trace trace.cpus 1 0 (record (with_step x s) { timer = finds trace n (domain_of d s).limits.hard reading (reads_global n reading (record s.timer { todo = ts })) })
      by_domain zero reading ts first x g hard small =
          let tm : Timer = finds trace 0 (domain_of d s).limits.hard reading (reads_global 0 reading (record s.timer { todo = ts })) in
          let o = order (todo.Step (step.Count d)) ts first in
          let h = sound.holds.timer in
          timer_going trace trace.cpus 1 step_ticks tm 0 0 (with_step x s) g
          (record {
            todo = (fits (todo.Step (step.Count d)) ts first).1;
            in_order = o.1;
            under_peak = next_any s.domains tm.limits ts o.0;
            began = h.began;
            limits = finds_lawful trace 0 (domain_of d s).limits.hard reading (reads_global 0 reading (record s.timer { todo = ts })) hard;
            period = h.period;
          }) (omega arith) (omega (arith, small))
      by_domain (suc cgroup) reading ts first x g hard small =
          let tm : Timer = finds trace (suc cgroup) (domain_of d s).limits.hard reading (reads_global (suc cgroup) reading (record s.timer { todo = ts })) in
          let o = order (todo.Step (step.Count d)) ts first in
          let h = sound.holds.timer in
          timer_going trace trace.cpus 1 step_ticks tm 0 0 (with_step x s) g
          (record {
            todo = (fits (todo.Step (step.Count d)) ts first).1;
            in_order = o.1;
            under_peak = next_any s.domains tm.limits ts o.0;
            began = h.began;
            limits = finds_lawful trace (suc cgroup) (domain_of d s).limits.hard reading (reads_global (suc cgroup) reading (record s.timer { todo = ts })) hard;
            period = h.period;
          }) (omega arith) (omega (arith, small))

  peak_kept : (d : ℕ) (ts : List TimerTodo) → s.timer.todo ≡ todo.Step (step.Peak d) ∷ ts → length s.steps < s.most → Sound trace (peak d (with_timer (record s.timer { todo = ts }) s)) × HasRoom trace (peak d (with_timer (record s.timer { todo = ts }) s))
  peak_kept d ts first few =
      let x : StepEntry = record { who = length s.cpus; kind = kind.Peak; context = 0; change = pos 0; domain = d; peak = s.timer.limits.hard } in
      let g = stepped_going (todo.Step (step.Peak d)) ts first x few in
      let item = fits (todo.Step (step.Peak d)) ts first in
      let o = order (todo.Step (step.Peak d)) ts first in
      let at = g.holds.domains.each d in
      let there : d < length s.domains = omega (arith, item.0, sound.holds.domains.many) in
      let y : Domain = record (domain_of d s) { peak = max (domain_of d s).peak s.timer.limits.hard } in
      let hard = sound.holds.timer.limits.hard_in_range in
      let g1 = domain_going trace trace.cpus 1 step_ticks d y (with_step x s) g there (record { limits = at.limits; sequence = at.sequence; under_peak = omega (arith, at.under_peak); peak = omega (arith, at.peak, hard); count = at.count; period = at.period })
      (omega arith) (omega arith) (g.holds.written.events d) in
      let z : State = record (with_step x s) { domains = set s.domains d y } in
      let tm : Timer = record s.timer { todo = ts } in
      let h = sound.holds.timer in
      let small = credit_small ts in
      let mine : s.timer.limits.hard ≤ (get_or (set s.domains d y) d no_domain).peak = subst (λ (q : Domain). s.timer.limits.hard ≤ q.peak) (sym (get_or-set_same s.domains d y no_domain there)) (omega arith) in
      let g2 = timer_going trace trace.cpus 1 step_ticks tm 0 0 z g1
      (record {
        todo = item.1;
        in_order = o.1;
        under_peak = none_next (λ n. n ≡ d) (λ n. s.timer.limits.hard ≤ (get_or (set s.domains d y) n no_domain).peak) ts (λ n e. subst (λ (m : ℕ). s.timer.limits.hard ≤ (get_or (set s.domains d y) m no_domain).peak) (sym e) mine) o.0;
        began = h.began;
        limits = h.limits;
        period = h.period;
      }) (omega arith) (omega (arith, small)) in
      nobody_sound trace 1 0 (record z { timer = tm }) g2

  -- a step more, and a sequence one further on
  next_sequence : (d : ℕ) (x : StepEntry) → (domain_of d s).sequence + 1 ≤ length (s.steps ++ x ∷ [])
  next_sequence d x =
      let one : length (s.steps ++ x ∷ []) ≡ length s.steps + 1 = length-append s.steps (x ∷ []) in
      let was = (sound.holds.domains.each d).sequence in
      omega (arith, one, was)

  -- of a domain whose limits are published next the peak isn't below them
  next_under : (d : ℕ) (ds : List Domain) (ts : List TimerTodo) → s.timer.limits.hard ≤ (get_or ds d no_domain).peak → PublishesNext (λ n. n ≡ d) ts
      → PublishesNext (λ n. s.timer.limits.hard ≤ (get_or ds n no_domain).peak) ts
  next_under d ds ts mine next = none_next (λ n. n ≡ d) (λ n. s.timer.limits.hard ≤ (get_or ds n no_domain).peak) ts
      (λ n e. subst (λ (m : ℕ). s.timer.limits.hard ≤ (get_or ds m no_domain).peak) (sym e) mine) next

  unseal_kept : (d : ℕ) (ts : List TimerTodo) → s.timer.todo ≡ todo.Step (step.Unseal d) ∷ ts → length s.steps < s.most → Sound trace (unseal d (with_timer (record s.timer { todo = ts }) s)) × HasRoom trace (unseal d (with_timer (record s.timer { todo = ts }) s))
  unseal_kept d ts first few =
      let x : StepEntry = plain_entry (length s.cpus) kind.Unseal in
      let g = stepped_going (todo.Step (step.Unseal d)) ts first x few in
      let item = fits (todo.Step (step.Unseal d)) ts first in
      let o = order (todo.Step (step.Unseal d)) ts first in
      let at = g.holds.domains.each d in
      let there : d < length s.domains = omega (arith, item.0, sound.holds.domains.many) in
      let y : Domain = record (domain_of d s) { sequence = (domain_of d s).sequence + 1 } in
      let g1 = domain_going trace trace.cpus 1 step_ticks d y (with_step x s) g there (record { limits = at.limits; sequence = next_sequence d x; under_peak = at.under_peak; peak = at.peak; count = at.count; period = at.period })
      (omega arith) (omega arith) (g.holds.written.events d) in
      let z : State = record (with_step x s) { domains = set s.domains d y } in
      let tm : Timer = record s.timer { todo = ts } in
      let h = sound.holds.timer in
      let small = credit_small ts in
      let mine : s.timer.limits.hard ≤ (get_or (set s.domains d y) d no_domain).peak = subst (λ (q : Domain). s.timer.limits.hard ≤ q.peak) (sym (get_or-set_same s.domains d y no_domain there)) (peaks (todo.Step (step.Unseal d)) ts first) in
      let g2 = timer_going trace trace.cpus 1 step_ticks tm 0 0 z g1
      (record { todo = item.1; in_order = o.1; under_peak = next_under d (set s.domains d y) ts mine o.0; began = h.began; limits = h.limits; period = h.period }) (omega arith) (omega (arith, small)) in
      nobody_sound trace 1 0 (record z { timer = tm }) g2

  thresh_kept : (d : ℕ) (ts : List TimerTodo) → s.timer.todo ≡ todo.Step (step.Thresh d) ∷ ts → length s.steps < s.most → Sound trace (thresh (with_timer (record s.timer { todo = ts }) s)) × HasRoom trace (thresh (with_timer (record s.timer { todo = ts }) s))
  thresh_kept d ts first few =
      let x : StepEntry = plain_entry (length s.cpus) kind.Thresh in
      let g = stepped_going (todo.Step (step.Thresh d)) ts first x few in
      let item = fits (todo.Step (step.Thresh d)) ts first in
      let o = order (todo.Step (step.Thresh d)) ts first in
      let tm : Timer = record s.timer { todo = ts } in
      let h = sound.holds.timer in
      let small = credit_small ts in
      let g2 = timer_going trace trace.cpus 1 step_ticks tm 0 0 (with_step x s) g
      (record { todo = item.1; in_order = o.1; under_peak = next_under d s.domains ts (peaks (todo.Step (step.Thresh d)) ts first) o.0; began = h.began; limits = h.limits; period = h.period }) (omega arith) (omega (arith, small)) in
      nobody_sound trace 1 0 (record (with_step x s) { timer = tm }) g2

  publish_kept : (d : ℕ) (ts : List TimerTodo) → s.timer.todo ≡ todo.Step (step.Publish d) ∷ ts → length s.steps < s.most → Sound trace (publish d (with_timer (record s.timer { todo = ts }) s)) × HasRoom trace (publish d (with_timer (record s.timer { todo = ts }) s))
  publish_kept d ts first few =
      let x : StepEntry = plain_entry (length s.cpus) kind.Publish in
      let g = stepped_going (todo.Step (step.Publish d)) ts first x few in
      let item = fits (todo.Step (step.Publish d)) ts first in
      let o = order (todo.Step (step.Publish d)) ts first in
      let at = g.holds.domains.each d in
      let there : d < length s.domains = omega (arith, item.0, sound.holds.domains.many) in
      let y : Domain = record (domain_of d s) { limits = s.timer.limits; sequence = (domain_of d s).sequence + 1 } in
      let g1 = domain_going trace trace.cpus 1 step_ticks d y (with_step x s) g there (record { limits = sound.holds.timer.limits; sequence = next_sequence d x; under_peak = peaks (todo.Step (step.Publish d)) ts first; peak = at.peak; count = at.count; period = at.period })
      (omega arith) (omega arith) (g.holds.written.events d) in
      let z : State = record (with_step x s) { domains = set s.domains d y } in
      let tm : Timer = timer_logged (entry.Limits d s.timer.began s.timer.limits) (record s.timer { todo = ts }) in
      let h = sound.holds.timer in
      let small = credit_small ts in
      let g2 = timer_going trace trace.cpus 1 step_ticks tm 0 0 z g1
      (record { todo = item.1; in_order = o.1; under_peak = next_any (set s.domains d y) s.timer.limits ts o.0; began = h.began; limits = h.limits; period = h.period }) (omega arith) (omega (arith, small)) in
      nobody_sound trace 1 0 (record z { timer = tm }) g2

  pub timer_step_kept : (item : TimerStep) (ts : List TimerTodo) → s.timer.todo ≡ todo.Step item ∷ ts → length s.steps < s.most
      → Sound trace (make_timer_step trace item (with_timer (record s.timer { todo = ts }) s)) × HasRoom trace (make_timer_step trace item (with_timer (record s.timer { todo = ts }) s))
  unfolding make_timer_step
  timer_step_kept (step.Count d) ts first few = load_kept d ts first few
  timer_step_kept (step.Peak d) ts first few = peak_kept d ts first few
  timer_step_kept (step.Unseal d) ts first few = unseal_kept d ts first few
  timer_step_kept (step.Thresh d) ts first few = thresh_kept d ts first few
  timer_step_kept (step.Publish d) ts first few = publish_kept d ts first few
