-- Each peak is the greatest hard limit that the timer has printed for its domain or prints next.
use Rattle.std.proofs.Common.{◌≡◌, ◌≢◌, ℕ, zero, suc, ◌+◌, ◌<◌, ◌≤◌, max, false, cond, eqb, List, [], ◌∷◌, ◌++◌, length, get_or, refl, sym, ◌∙◌, ap, subst, arith, Option, Some, None, eq-eqb, ne_eqb, length-append, append_assoc, ⊎_elim}
use Rattle.std.proofs.lemmas.Bool.{cases_lt, cond-true, cond-false}
use Rattle.std.proofs.lemmas.List.{get_or-set_same, get_or-set_other, get_or_append_left, get_or_push, length-set, append-nil}
use mathlib.Core.Logic.{dite}
use native.Mathlib.Decide.{ℕ_discrete}
use Rattle.wbt_replay_order.proofs.Common.{Trace, Estimate, update_of, after_period, Half, domains, TimerEntry, decide_for, estimate, estimate_to, sample_of, make_timer_step, make_timer_move, State, no_domain, with_cpu, task_of, cpu_of, domain_of, writeback_of, begin_timer, with_timer, period_to, is_time, periods, turn_items, load, peak, unseal, thresh, publish, period, rest, Domain, Timer, Todo, TimerSilent, TimerStep, TimerTodo, PeaksArePrinted, opening, first_limits, first_entries, first_domain, first_domains, opening_moment, state_at}
use Rattle.wbt_journal.specs.declared.timer.TimerEntry.TheVariants as entry
use Rattle.wbt_replay_moves.specs.declared.state.Whose.TheVariants as whose
use Rattle.wbt_replay_moves.specs.declared.todo.Silent.TheVariants as move
use Rattle.wbt_replay_moves.specs.declared.todo.Todo.TheVariants as any
use Rattle.wbt_replay_moves.specs.declared.todo.TimerSilent.TheVariants as silent
use Rattle.wbt_replay_moves.specs.declared.todo.TimerStep.TheVariants as step
use Rattle.wbt_replay_moves.specs.declared.todo.TimerTodo.TheVariants as todo
use Rattle.wbt_replay_order.specs.Claims.Bound.{greatest_printed, greatest_ahead}
use Rattle.wbt_replay_order.proofs.Facts.Lists.{either}
use Rattle.wbt_replay_points.proofs.Claims.TimerItems.{PublishesNow, PublishesNone, AreRaised, none_ahead, this_ahead, raised_behind, ahead_behind, items_raised, printed_more, printed_period}
use Rattle.wbt_replay_order.proofs.Growth.Advancing.{advance_keeps}
use Rattle.wbt_replay_order.proofs.Growth.Quiet.{Quiet, quiet_domain}
use Rattle.wbt_replay_order.proofs.Growth.Runs.{along}

-- ---- the peaks

-- the peak of a domain, by what is printed and what is about to be
abbrev pub IsPeak : (s : State) (d : ℕ) → Type 0
IsPeak s d = (domain_of d s).peak ≡ max (greatest_printed d s.timer.entries) (greatest_ahead d s.timer.limits.hard s.timer.todo)

-- entries after the first ones
pub record BeginsWith (first entries : List TimerEntry) : Type 0 where
  pub rest : List TimerEntry
  pub is : entries ≡ first ++ rest

pub record ArePeaks (trace : Trace) (s : State) : Type 0 where
  pub many : length s.domains ≡ domains trace
  pub begun : BeginsWith (first_entries trace (domains trace)) s.timer.entries
  pub raised : AreRaised s.timer.todo
  pub peaks : (d : ℕ) → d < domains trace → IsPeak s d

begun_more : (first entries : List TimerEntry) (e : TimerEntry) → BeginsWith first entries → BeginsWith first (entries ++ e ∷ [])
begun_more first entries e h = record { rest = h.rest ++ e ∷ []; is = ap (λ (l : List TimerEntry). l ++ e ∷ []) h.is ∙ append_assoc first h.rest (e ∷ []) }

module _ (trace : Trace) where
  framed : (s u : State) → Quiet s u → ArePeaks trace s → ArePeaks trace u
  framed s u quiet h = record {
    many = quiet.many ∙ h.many;
    begun = subst (λ (t : Timer). BeginsWith (first_entries trace (domains trace)) t.entries) (sym quiet.timer) h.begun;
    raised = subst (λ (t : Timer). AreRaised t.todo) (sym quiet.timer) h.raised;
    peaks = λ d less. quiet.peaks d ∙ subst (λ (t : Timer). (domain_of d s).peak ≡ max (greatest_printed d t.entries) (greatest_ahead d t.limits.hard t.todo)) (sym quiet.timer) (h.peaks d less);
  }

  -- An item that publishes nothing is done, after which nothing is published at once; no peak is raised and no limits are printed.
  passed : (s u : State) (item : TimerTodo) (rest : List TimerTodo) → s.timer.todo ≡ item ∷ rest → length u.domains ≡ length s.domains
      → ((d : ℕ) → (domain_of d u).peak ≡ (domain_of d s).peak) → BeginsWith (first_entries trace (domains trace)) u.timer.entries
      → ((d : ℕ) → greatest_printed d u.timer.entries ≡ greatest_printed d s.timer.entries)
      → u.timer.todo ≡ rest → PublishesNone (item ∷ []) → PublishesNone rest × AreRaised rest → ArePeaks trace s → ArePeaks trace u
  passed s u item rest was many same begun printed now none raised h = record {
    many = many ∙ h.many;
    begun = begun;
    raised = subst AreRaised (sym now) raised.1;
    peaks = λ d less.
        let before : greatest_ahead d s.timer.limits.hard s.timer.todo ≡ 0 = ap (greatest_ahead d s.timer.limits.hard) was ∙ first_none d s.timer.limits.hard item rest none in
        let ahead : greatest_ahead d u.timer.limits.hard u.timer.todo ≡ 0 = ap (greatest_ahead d u.timer.limits.hard) now ∙ none_ahead d u.timer.limits.hard rest raised.0 in
        omega (arith, same d, before, ahead, printed d, h.peaks d less);
  }
    where
      first_none : (d hard : ℕ) (item : TimerTodo) (rest : List TimerTodo) → PublishesNone (item ∷ []) → greatest_ahead d hard (item ∷ rest) ≡ 0
      first_none d hard (todo.Step (step.Unseal of)) rest none = absurd none
      first_none d hard (todo.Step (step.Thresh of)) rest none = absurd none
      first_none d hard (todo.Step (step.Publish of)) rest none = absurd none
      first_none d hard (todo.Step (step.Count of)) rest none = refl
      first_none d hard (todo.Step (step.Peak of)) rest none = refl
      first_none d hard (todo.Silent item) rest none = refl

  -- neither the timer nor a domain is another
  unmoved : (s u : State) → u.domains ≡ s.domains → u.timer ≡ s.timer → ArePeaks trace s → ArePeaks trace u
  unmoved s u same timer h = record {
    many = ap (λ (ds : List Domain). length ds) same ∙ h.many;
    begun = subst (λ (t : Timer). BeginsWith (first_entries trace (domains trace)) t.entries) (sym timer) h.begun;
    raised = subst (λ (t : Timer). AreRaised t.todo) (sym timer) h.raised;
    peaks = λ d less.
        ap (λ (ds : List Domain). (get_or ds d no_domain).peak) same
        ∙ subst (λ (t : Timer). (domain_of d s).peak ≡ max (greatest_printed d t.entries) (greatest_ahead d t.limits.hard t.todo)) (sym timer) (h.peaks d less);
  }

  decided : (cpu task : ℕ) (rest : List Todo) (s : State) → cpu < length s.cpus → (cpu_of cpu s).todo ≡ any.Silent move.Decide ∷ rest
      → (cpu_of cpu s).turn.whose ≡ whose.Task task → Unit {0} → ArePeaks trace s
      → ArePeaks trace (decide_for trace cpu task (task_of task s).context (with_cpu cpu (record (cpu_of cpu s) { todo = rest }) s))
  decided cpu task rest s there is of can h =
      unmoved s (decide_for trace cpu task (task_of task s).context (with_cpu cpu (record (cpu_of cpu s) { todo = rest }) s)) refl refl h

  estimated : (cpu context : ℕ) (s : State) → cpu < length s.cpus → ArePeaks trace s → ArePeaks trace (estimate trace cpu context s)
  estimated cpu context s there h = by_found (update_of (writeback_of context s).estimate (sample_of trace context (cpu_of cpu s).turn s))
    where
      by_found : (found : Option Estimate) → ArePeaks trace (estimate_to cpu context found s)
      by_found None = h
      by_found (Some e) = unmoved s (estimate_to cpu context (Some e) s) refl refl h

  -- ---- the timer's moves

  raised_of : (s : State) (todos : List TimerTodo) → s.timer.todo ≡ todos → ArePeaks trace s → AreRaised todos
  raised_of s todos is h = subst AreRaised is h.raised

  of_count : (domain : ℕ) (rest : List TimerTodo) (s : State) → s.timer.todo ≡ todo.Step (step.Count domain) ∷ rest → ArePeaks trace s
      → ArePeaks trace (load trace domain (with_timer (record s.timer { todo = rest }) s))
  of_count domain rest s is h =
      passed s (load trace domain (with_timer (record s.timer { todo = rest }) s)) (todo.Step (step.Count domain)) rest is refl (λ d. refl) (by_number domain)
      (λ d. by_reading d domain) (after_it domain) tt (raised_of s (todo.Step (step.Count domain) ∷ rest) is h) h
    where
      by_number : (n : ℕ) → BeginsWith (first_entries trace (domains trace)) (load trace n (with_timer (record s.timer { todo = rest }) s)).timer.entries
      by_number zero = h.begun
      by_number (suc n) = h.begun

      by_reading : (d n : ℕ) → greatest_printed d (load trace n (with_timer (record s.timer { todo = rest }) s)).timer.entries ≡ greatest_printed d s.timer.entries
      by_reading d zero = refl
      by_reading d (suc n) = refl

      after_it : (n : ℕ) → (load trace n (with_timer (record s.timer { todo = rest }) s)).timer.todo ≡ rest
      after_it zero = refl
      after_it (suc n) = refl

  of_peak : (domain : ℕ) (rest : List TimerTodo) (s : State) → s.timer.todo ≡ todo.Step (step.Peak domain) ∷ rest → ArePeaks trace s
      → ArePeaks trace (peak domain (with_timer (record s.timer { todo = rest }) s))
  of_peak domain rest s is h =
      let hard = s.timer.limits.hard in
      let next = raised_of s (todo.Step (step.Peak domain) ∷ rest) is h in
      record {
        many = length-set s.domains domain _ ∙ h.many;
        begun = h.begun;
        raised = next.1;
        peaks = λ d less.
            let before : greatest_ahead d hard s.timer.todo ≡ 0 = ap (greatest_ahead d hard) is in
            let ahead : greatest_ahead d hard rest ≡ cond (eqb domain d) hard 0 = this_ahead domain d hard rest next.0 in
            let was = h.peaks d less in
            dite (ℕ_discrete d domain)
            (λ here.
            let there : domain < length s.domains = omega (arith, here, less, h.many) in
            let new : (domain_of d (peak domain (with_timer (record s.timer { todo = rest }) s))).peak ≡ max (domain_of domain s).peak hard =
            ap (λ (n : ℕ). (domain_of n (peak domain (with_timer (record s.timer { todo = rest }) s))).peak) here
            ∙ ap (λ (x : Domain). x.peak) (get_or-set_same s.domains domain (record (domain_of domain s) { peak = max (domain_of domain s).peak hard }) no_domain there) in
            let old : (domain_of domain s).peak ≡ (domain_of d s).peak = ap (λ (n : ℕ). (domain_of n s).peak) (sym here) in
            let this : cond (eqb domain d) hard 0 ≡ hard = cond-true (eqb domain d) hard 0 (eq-eqb domain d (sym here)) in
            omega (arith, before, ahead, was, new, old, this))
            (λ apart.
            let new : (domain_of d (peak domain (with_timer (record s.timer { todo = rest }) s))).peak ≡ (domain_of d s).peak =
            ap (λ (x : Domain). x.peak) (get_or-set_other s.domains domain d (record (domain_of domain s) { peak = max (domain_of domain s).peak hard }) no_domain apart) in
            let this : cond (eqb domain d) hard 0 ≡ 0 = cond-false (eqb domain d) hard 0 (ne_eqb domain d (λ e. apart (sym e))) in
            omega (arith, before, ahead, was, new, this));
      }

  -- A step goes before another of those that publish.
  stays_ahead : (s u : State) (item : TimerStep) (domain : ℕ) (rest : List TimerTodo) → s.timer.todo ≡ todo.Step item ∷ rest
      → ((d : ℕ) → greatest_ahead d s.timer.limits.hard (todo.Step item ∷ rest) ≡ cond (eqb domain d) s.timer.limits.hard 0)
      → length u.domains ≡ length s.domains → ((d : ℕ) → (domain_of d u).peak ≡ (domain_of d s).peak) → u.timer ≡ record s.timer { todo = rest }
      → PublishesNow domain rest × AreRaised rest → ArePeaks trace s → ArePeaks trace u
  stays_ahead s u item domain rest was first many same timer next h = record {
    many = many ∙ h.many;
    begun = subst (λ (t : Timer). BeginsWith (first_entries trace (domains trace)) t.entries) (sym timer) h.begun;
    raised = subst (λ (t : Timer). AreRaised t.todo) (sym timer) next.1;
    peaks = λ d less.
        let hard = s.timer.limits.hard in
        let before : greatest_ahead d hard s.timer.todo ≡ cond (eqb domain d) hard 0 = ap (greatest_ahead d hard) was ∙ first d in
        let ahead : greatest_ahead d u.timer.limits.hard u.timer.todo ≡ cond (eqb domain d) hard 0 =
        ap (λ (t : Timer). greatest_ahead d t.limits.hard t.todo) timer ∙ this_ahead domain d hard rest next.0 in
        let printed : greatest_printed d u.timer.entries ≡ greatest_printed d s.timer.entries = ap (λ (t : Timer). greatest_printed d t.entries) timer in
        omega (arith, same d, before, ahead, printed, h.peaks d less);
  }

  of_unseal : (domain : ℕ) (rest : List TimerTodo) (s : State) → s.timer.todo ≡ todo.Step (step.Unseal domain) ∷ rest → ArePeaks trace s
      → ArePeaks trace (unseal domain (with_timer (record s.timer { todo = rest }) s))
  of_unseal domain rest s is h =
      let quiet = quiet_domain domain (record (domain_of domain s) { sequence = (domain_of domain s).sequence + 1 }) s refl in
      stays_ahead s (unseal domain (with_timer (record s.timer { todo = rest }) s)) (step.Unseal domain) domain rest is (λ d. refl) quiet.many quiet.peaks refl
      (raised_of s (todo.Step (step.Unseal domain) ∷ rest) is h) h

  of_thresh : (domain : ℕ) (rest : List TimerTodo) (s : State) → s.timer.todo ≡ todo.Step (step.Thresh domain) ∷ rest → ArePeaks trace s
      → ArePeaks trace (thresh (with_timer (record s.timer { todo = rest }) s))
  of_thresh domain rest s is h =
      stays_ahead s (thresh (with_timer (record s.timer { todo = rest }) s)) (step.Thresh domain) domain rest is (λ d. refl) refl (λ d. refl) refl
      (raised_of s (todo.Step (step.Thresh domain) ∷ rest) is h) h

  of_publish : (domain : ℕ) (rest : List TimerTodo) (s : State) → s.timer.todo ≡ todo.Step (step.Publish domain) ∷ rest → ArePeaks trace s
      → ArePeaks trace (publish domain (with_timer (record s.timer { todo = rest }) s))
  of_publish domain rest s is h =
      let limits = s.timer.limits in
      let next = raised_of s (todo.Step (step.Publish domain) ∷ rest) is h in
      let quiet = quiet_domain domain (record (domain_of domain s) { limits = limits; sequence = (domain_of domain s).sequence + 1 }) s refl in
      record {
        many = quiet.many ∙ h.many;
        begun = begun_more (first_entries trace (domains trace)) s.timer.entries (entry.Limits domain s.timer.began limits) h.begun;
        raised = next.1;
        peaks = λ d less.
            let before : greatest_ahead d limits.hard s.timer.todo ≡ cond (eqb domain d) limits.hard 0 = ap (greatest_ahead d limits.hard) is in
            let ahead : greatest_ahead d limits.hard rest ≡ 0 = none_ahead d limits.hard rest next.0 in
            let printed = printed_more d s.timer.entries domain s.timer.began limits in
            let same = quiet.peaks d in
            let was = h.peaks d less in
            omega (arith, before, ahead, printed, same, was);
      }

  by_step : (item : TimerStep) (rest : List TimerTodo) (s : State) → s.timer.todo ≡ todo.Step item ∷ rest → ArePeaks trace s
      → ArePeaks trace (make_timer_step trace item (with_timer (record s.timer { todo = rest }) s))
  unfolding make_timer_step
  by_step (step.Count domain) rest s is h = of_count domain rest s is h
  by_step (step.Peak domain) rest s is h = of_peak domain rest s is h
  by_step (step.Unseal domain) rest s is h = of_unseal domain rest s is h
  by_step (step.Thresh domain) rest s is h = of_thresh domain rest s is h
  by_step (step.Publish domain) rest s is h = of_publish domain rest s is h

  of_period : (domain : ℕ) (more : List TimerTodo) (s : State) → s.timer.todo ≡ todo.Silent (silent.Period domain) ∷ more → ArePeaks trace s
      → ArePeaks trace (period domain (with_timer (record s.timer { todo = more }) s))
  of_period domain more s is h =
      let u = with_timer (record s.timer { todo = more }) s in
      either (ArePeaks trace) (is_time u.timer) (period_to domain (periods u.timer) (after_period (domain_of domain u).events (periods u.timer)) u) u
      (λ time. by_found (after_period (domain_of domain u).events (periods u.timer))) (λ early. not_now)
    where
      next : AreRaised (todo.Silent (silent.Period domain) ∷ more)
      next = raised_of s (todo.Silent (silent.Period domain) ∷ more) is h

      not_now : ArePeaks trace (with_timer (record s.timer { todo = more }) s)
      not_now = passed s (with_timer (record s.timer { todo = more }) s) (todo.Silent (silent.Period domain)) more is refl (λ d. refl) h.begun (λ d. refl) refl tt next h

      by_found : (found : Option Half) → ArePeaks trace (period_to domain (periods s.timer) found (with_timer (record s.timer { todo = more }) s))
      by_found None = not_now
      by_found (Some events) =
          let quiet = quiet_domain domain (record (domain_of domain s) { events = events }) s refl in
          let k : ℕ = periods s.timer in
          passed s (period_to domain k (Some events) (with_timer (record s.timer { todo = more }) s)) (todo.Silent (silent.Period domain)) more is
          quiet.many quiet.peaks (begun_more (first_entries trace (domains trace)) s.timer.entries (entry.Period domain k) h.begun)
          (λ d. printed_period d s.timer.entries domain k) refl tt next h

  of_rest : (more : List TimerTodo) (s : State) → s.timer.todo ≡ todo.Silent silent.Rest ∷ more → ArePeaks trace s
      → ArePeaks trace (rest (with_timer (record s.timer { todo = more }) s))
  of_rest more s is h =
      passed s (rest (with_timer (record s.timer { todo = more }) s)) (todo.Silent silent.Rest) more is refl (λ d. refl) h.begun (λ d. refl) refl tt
      (raised_of s (todo.Silent silent.Rest ∷ more) is h) h

  by_silent : (item : TimerSilent) (more : List TimerTodo) (s : State) → s.timer.todo ≡ todo.Silent item ∷ more → ArePeaks trace s
      → ArePeaks trace (make_timer_move item (with_timer (record s.timer { todo = more }) s))
  unfolding make_timer_move
  by_silent (silent.Period domain) more s is h = of_period domain more s is h
  by_silent silent.Rest more s is h = of_rest more s is h

  begun : (s : State) → ArePeaks trace s → ArePeaks trace (begin_timer s)
  begun s h =
      let items = items_raised (length s.domains) in
      record {
        many = h.many;
        begun = h.begun;
        raised = raised_behind s.timer.todo (turn_items (length s.domains)) h.raised items.1 items.0;
        peaks = λ d less.
            h.peaks d less ∙ ap (λ (n : ℕ). max (greatest_printed d s.timer.entries) n)
            (sym (ahead_behind d s.timer.limits.hard s.timer.todo (turn_items (length s.domains)) items.1));
      }

  -- ---- the opening, and each moment

  many_first : (n : ℕ) → length (first_domains trace n) ≡ n
  many_first zero = refl
  many_first (suc n) = omega (arith, length-append (first_domains trace n) (first_domain (first_limits trace n) ∷ []), many_first n)

  pub first_domain_of : (n d : ℕ) → d < n → get_or (first_domains trace n) d no_domain ≡ first_domain (first_limits trace d)
  first_domain_of zero d less = absurd (omega (arith, less))
  first_domain_of (suc n) d less = ⊎_elim
      (λ before. get_or_append_left (first_domains trace n) (first_domain (first_limits trace n) ∷ []) no_domain d (omega (arith, before, many_first n)) ∙ first_domain_of n d before)
      (λ last.
      let same : n ≡ d = omega (arith, last, less) in
      get_or_push (first_domains trace n) (first_domain (first_limits trace n)) no_domain d (many_first n ∙ same) ∙ ap (λ (k : ℕ). first_domain (first_limits trace k)) same)
      (cases_lt d n)

  -- none of the first entries is of a later domain
  none_printed : (n d : ℕ) → n ≤ d → greatest_printed d (first_entries trace n) ≡ 0
  none_printed zero d later = refl
  none_printed (suc n) d later =
      let apart : eqb n d ≡ false = ne_eqb n d (λ e. omega (arith, later, e)) in
      let this : cond (eqb n d) (first_limits trace n).hard 0 ≡ 0 = cond-false (eqb n d) (first_limits trace n).hard 0 apart in
      omega (arith, printed_more d (first_entries trace n) n opening_moment (first_limits trace n), none_printed n d (omega (arith, later)), this)

  first_printed : (n d : ℕ) → d < n → greatest_printed d (first_entries trace n) ≡ (first_limits trace d).hard
  first_printed zero d less = absurd (omega (arith, less))
  first_printed (suc n) d less = dite (ℕ_discrete d n)
      (λ here.
      let this : cond (eqb n d) (first_limits trace n).hard 0 ≡ (first_limits trace n).hard = cond-true (eqb n d) (first_limits trace n).hard 0 (eq-eqb n d (sym here)) in
      let same : (first_limits trace n).hard ≡ (first_limits trace d).hard = ap (λ (k : ℕ). (first_limits trace k).hard) (sym here) in
      omega (arith, printed_more d (first_entries trace n) n opening_moment (first_limits trace n), none_printed n d (omega (arith, here)), this, same))
      (λ apart.
      let this : cond (eqb n d) (first_limits trace n).hard 0 ≡ 0 = cond-false (eqb n d) (first_limits trace n).hard 0 (ne_eqb n d (λ e. apart (sym e))) in
      omega (arith, printed_more d (first_entries trace n) n opening_moment (first_limits trace n), first_printed n d (let other : d ≢ n = apart in omega (arith, less, other)), this))

  opening_peaks : ArePeaks trace (opening trace)
  unfolding opening
  opening_peaks = record {
    many = many_first (domains trace);
    begun = record { rest = []; is = sym (append-nil (first_entries trace (domains trace))) };
    raised = tt;
    peaks = λ d less.
        let peak_is : (get_or (first_domains trace (domains trace)) d no_domain).peak ≡ (first_limits trace d).hard = ap (λ (x : Domain). x.peak) (first_domain_of (domains trace) d less) in
        omega (arith, peak_is, first_printed (domains trace) d less);
  }

  pub peaks_at : (moves : ℕ) → ArePeaks trace (state_at trace moves)
  peaks_at = along (ArePeaks trace) trace opening_peaks (λ s going h. advance_keeps trace (ArePeaks trace) framed (λ now domains cpus tasks contexts. Unit {0}) decided estimated by_step by_silent begun s tt h)

  pub peaks_are_printed : PeaksArePrinted trace
  peaks_are_printed moves d less = (peaks_at moves).peaks d less
