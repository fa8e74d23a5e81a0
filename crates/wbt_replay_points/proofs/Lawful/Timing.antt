-- Each line of the timer may follow those before it.
use Rattle.std.proofs.Common.{◌≡◌, ◌≢◌, ℕ, zero, suc, ◌+◌, ◌<◌, ◌≤◌, Bool, true, false, leb, ltb, List, [], ◌∷◌, ◌++◌, length, get_or, Option, Some, refl, sym, ◌∙◌, ap, subst, arith, append_assoc, length-append, ⊎_elim}
use Rattle.std.proofs.Math.ListN.{set}
use Rattle.std.specs.List.{slice_get}
use Rattle.std.proofs.lemmas.Bool.{cond-true, cond-false, lt-ltb, le-ltb, leb-true, leb-false, cases_lt}
use Rattle.std.proofs.lemmas.List.{get_or-set_same, get_or-set_other, get_or_append_left, get_or_push, length-set}
use Rattle.std.proofs.lemmas.Option.{slice_get-get_or}
use mathlib.Core.Logic.{dite}
use native.Mathlib.Decide.{ℕ_discrete}
use Rattle.wbt_replay_order.proofs.Common.{Limits, thresholds_of, Trace, opened_at, domains, Along, TimerEntry, domain_turns, domain_periods, turn_items, Timer, TimerSilent, TimerTodo, first_limits, first_entries, opening_moment}
use Rattle.wbt_num.specs.declared.limits.Settings.{Settings}
use Rattle.wbt_limits.specs.Cgroup.{available_to_cgroup}
use Rattle.wbt_limits.specs.Thresholds.{followed_limit, hard_limit}
use Rattle.wbt_limits.specs.declared.domain.Pair.{Pair}
use Rattle.wbt_limits.proofs.Rising.{limits_are_lawful, cgroup_thresh_is_between, following_is_hard, following_rises_at_once, following_falls_slowly}
use Rattle.wbt_rules.specs.Thresholds.{avail_at, thresholds_at, limits_after, cgroup_of}
use Rattle.wbt_rules.specs.declared.moments.TheConstants.{TIMER_REST}
use Rattle.wbt_trace.specs.declared.trace.Cgroup.{Cgroup}
use Rattle.wbt_journal.specs.Timer.{IsCgroup, HasThresholds, HardBy, HardFollows, LastLine, LimitsBy, LineFollows, TimerGoesOn, lines_after}
use Rattle.wbt_journal.specs.Walk.{after}
use Rattle.wbt_journal.specs.declared.timer.TimerEntry.TheVariants as timer
use Rattle.wbt_journal.proofs.Parting.{along_more}
use Rattle.wbt_run_laws.proofs.Walking.{after_append}
use Rattle.wbt_replay_moves.specs.declared.todo.TimerSilent.TheVariants as silent
use Rattle.wbt_replay_moves.specs.declared.todo.TimerStep.TheVariants as step
use Rattle.wbt_replay_moves.specs.declared.todo.TimerTodo.TheVariants as todo

-- ---- the limits that a turn finds

background : (avail : ℕ) (settings : Settings) (o : Option ℕ) → (thresholds_of avail settings o).bg ≤ (thresholds_of avail settings o).thresh
background avail settings o = (limits_are_lawful avail settings o 0 (omega arith)).bg_below_thresh

-- they are such as a line of the moment may have
has_thresholds : (trace : Trace) (now d global reading : ℕ) (limits : Limits) → d < domains trace
    → limits.thresh ≡ (thresholds_at trace now d global reading).thresh → limits.bg ≡ (thresholds_at trace now d global reading).bg → HasThresholds trace now d limits
has_thresholds trace now zero global reading limits less thresh bg = record { thresh = thresh; background = bg }
has_thresholds trace now (suc cgroup) global reading limits less thresh bg =
    let g : Cgroup = cgroup_of trace cgroup in
    let lies = cgroup_thresh_is_between g.filepages g.headroom reading (avail_at trace now) global trace.settings (Some (avail_at trace now)) in
    let low = background (available_to_cgroup g.filepages g.headroom reading (avail_at trace now) global) trace.settings (Some (avail_at trace now)) in
    subst (λ (o : Option Cgroup). IsCgroup trace now o limits) (sym (slice_get-get_or trace.cgroups cgroup (record { filepages = 0; headroom = 0 }) (omega (arith, less))))
    (record { at_least = omega (arith, thresh, lies.0); at_most = omega (arith, thresh, lies.1); background = omega (arith, thresh, bg, low) })

hard_from : (b : Bool) (before thresh reading : ℕ) → leb thresh before ≡ b → HardBy b before thresh (hard_limit thresh (followed_limit before thresh reading))
hard_from true before thresh reading is =
    let falls = following_falls_slowly before thresh reading (leb-true thresh before is) in
    let same = (following_is_hard before thresh reading).1 in
    (omega (arith, same, falls.0), omega (arith, same, falls.1))
hard_from false before thresh reading is = (following_is_hard before thresh reading).1 ∙ following_rises_at_once before thresh reading (leb-false thresh before is)

hard_follows : (before : ℕ) (pair : Pair) (reading : ℕ) → HardFollows before (limits_after pair before reading)
hard_follows before pair reading = hard_from (leb pair.thresh before) before pair.thresh reading refl

-- ---- what the timer still has to do

-- whole publications in order of their domains, from a least one on
abbrev pub Whole : (least : ℕ) (todos : List TimerTodo) → Type 0
Whole least [] = Unit {0}
Whole least (todo.Step (step.Count d) ∷ todo.Step (step.Peak e) ∷ todo.Step (step.Unseal f) ∷ todo.Step (step.Thresh g) ∷ todo.Step (step.Publish k) ∷ more) =
    (least ≤ d) × (e ≡ d) × (f ≡ d) × (g ≡ d) × (k ≡ d) × Whole (d + 1) more
Whole least (todo.Silent x ∷ more) = Whole least more
Whole least other = ⊥

-- the first of which may be under way, with limits that were found
abbrev pub Goes : (Ok : ℕ → Type 0) (least : ℕ) (todos : List TimerTodo) → Type 0
Goes Ok least (todo.Step (step.Peak d) ∷ todo.Step (step.Unseal e) ∷ todo.Step (step.Thresh f) ∷ todo.Step (step.Publish g) ∷ more) =
    (least ≤ d) × (e ≡ d) × (f ≡ d) × (g ≡ d) × Ok d × Whole (d + 1) more
Goes Ok least (todo.Step (step.Unseal d) ∷ todo.Step (step.Thresh e) ∷ todo.Step (step.Publish f) ∷ more) =
    (least ≤ d) × (e ≡ d) × (f ≡ d) × Ok d × Whole (d + 1) more
Goes Ok least (todo.Step (step.Thresh d) ∷ todo.Step (step.Publish e) ∷ more) = (least ≤ d) × (e ≡ d) × Ok d × Whole (d + 1) more
Goes Ok least (todo.Step (step.Publish d) ∷ more) = (least ≤ d) × Ok d × Whole (d + 1) more
Goes Ok least other = Whole least other

goes_whole : (Ok : ℕ → Type 0) (least : ℕ) (todos : List TimerTodo) → Whole least todos → Goes Ok least todos
goes_whole Ok least (todo.Step (step.Peak d) ∷ more) h = absurd h
goes_whole Ok least (todo.Step (step.Unseal d) ∷ more) h = absurd h
goes_whole Ok least (todo.Step (step.Thresh d) ∷ more) h = absurd h
goes_whole Ok least (todo.Step (step.Publish d) ∷ more) h = absurd h
goes_whole Ok least other h = h

whole_silent : (least n d : ℕ) → Whole least (domain_periods n d ++ todo.Silent silent.Rest ∷ [])
unfolding domain_periods
whole_silent least zero d = tt
whole_silent least (suc n) d = whole_silent least n (d + 1)

whole_turns : (n d : ℕ) (behind : List TimerTodo) → ((least : ℕ) → Whole least behind) → Whole d (domain_turns n d ++ behind)
unfolding domain_turns
whole_turns zero d behind h = h d
whole_turns (suc n) d behind h = (omega arith, refl, refl, refl, refl, whole_turns n (d + 1) behind h)

pub whole_items : (n : ℕ) → Whole 0 (turn_items n)
whole_items n =
    subst (Whole 0) (sym (append_assoc (domain_turns n 0) (domain_periods n 0) (todo.Silent silent.Rest ∷ [])))
    (whole_turns n 0 (domain_periods n 0 ++ todo.Silent silent.Rest ∷ []) (λ least. whole_silent least n 0))

abbrev pub has_rest : (todos : List TimerTodo) → Bool
has_rest [] = false
has_rest (todo.Silent silent.Rest ∷ more) = true
has_rest (other ∷ more) = has_rest more

rest_behind : (xs ys : List TimerTodo) → has_rest ys ≡ true → has_rest (xs ++ ys) ≡ true
rest_behind [] ys is = is
rest_behind (todo.Silent silent.Rest ∷ more) ys is = refl
rest_behind (other ∷ more) ys is = rest_behind more ys is

pub items_rest : (n : ℕ) → has_rest (turn_items n) ≡ true
items_rest n =
    ap has_rest (append_assoc (domain_turns n 0) (domain_periods n 0) (todo.Silent silent.Rest ∷ []))
    ∙ rest_behind (domain_turns n 0) (domain_periods n 0 ++ todo.Silent silent.Rest ∷ []) (rest_behind (domain_periods n 0) (todo.Silent silent.Rest ∷ []) refl)

-- ---- lines

abbrev pub no_line : LastLine
no_line = record { now = 0; hard = 0 }

abbrev pub lines_of : (entries : List TimerEntry) → List LastLine
lines_of entries = after lines_after [] entries

abbrev pub line_at : (d : ℕ) (entries : List TimerEntry) → LastLine
line_at d entries = get_or (lines_of entries) d no_line

-- What holds of the timer between two moves, where so many domains have these hard limits.
pub record IsTimedIn (trace : Trace) (t : Timer) (many : ℕ) (hard : ℕ → ℕ) : Type 0 where
  pub many_are : many ≡ domains trace
  pub walk : Along (TimerGoesOn trace opening_moment) lines_after [] t.entries
  pub all_there : length (lines_of t.entries) ≡ domains trace
  pub hards : (d : ℕ) → d < domains trace → (line_at d t.entries).hard ≡ hard d
  pub least : ℕ
  pub goes : Goes (λ d. HasThresholds trace t.began d t.limits × HardFollows (hard d) t.limits) least t.todo
  pub ready : (d : ℕ) → d < domains trace → least ≤ d → (line_at d t.entries).now + TIMER_REST ≤ t.began
  pub not_later : (d : ℕ) → d < domains trace → (line_at d t.entries).now ≤ t.began
  pub rested : has_rest t.todo ≡ false → t.began + TIMER_REST ≤ t.next

-- a line comes to a domain that has one
lines_more : (entries : List TimerEntry) (d now : ℕ) (limits : Limits) → d < length (lines_of entries)
    → lines_of (entries ++ timer.Limits d now limits ∷ []) ≡ set (lines_of entries) d (record { now = now; hard = limits.hard })
lines_more entries d now limits less =
    after_append lines_after [] entries (timer.Limits d now limits ∷ [])
    ∙ cond-true (ltb d (length (lines_of entries))) _ _ (lt-ltb d (length (lines_of entries)) less)

module _ (trace : Trace) (t : Timer) (many : ℕ) (hard : ℕ → ℕ) (h : IsTimedIn trace t many hard) where
  not_opening : ltb (length (lines_of t.entries)) (domains trace) ≡ false
  not_opening = le-ltb (length (lines_of t.entries)) (domains trace) (omega (arith, h.all_there))

  -- ---- a domain's limits are found

  counted : (least d : ℕ) (ts : List TimerTodo) (Old New : ℕ → Type 0) → New d → Goes Old least (todo.Step (step.Count d) ∷ ts) → Goes New least ts
  counted least d (todo.Step (step.Peak e) ∷ todo.Step (step.Unseal f) ∷ todo.Step (step.Thresh g) ∷ todo.Step (step.Publish k) ∷ more) Old New found goes = (
    omega (arith, goes.0, goes.1),
    goes.2 ∙ sym goes.1,
    goes.3 ∙ sym goes.1,
    goes.4 ∙ sym goes.1,
    subst New (sym goes.1) found,
    subst (λ (n : ℕ). Whole (n + 1) more) (sym goes.1) goes.5,
  )
  counted least d other Old New found goes = absurd goes

  pub loaded : (d : ℕ) (ts : List TimerTodo) (global reading : ℕ) → t.todo ≡ todo.Step (step.Count d) ∷ ts → d < domains trace
      → IsTimedIn trace (record t { todo = ts; global = global; limits = limits_after (thresholds_at trace t.began d global reading) (hard d) reading }) many hard
  loaded d ts global reading is less = record {
    many_are = h.many_are;
    walk = h.walk;
    all_there = h.all_there;
    hards = h.hards;
    least = h.least;
    goes =
        counted h.least d ts (λ e. HasThresholds trace t.began e t.limits × HardFollows (hard e) t.limits)
        (λ e. HasThresholds trace t.began e (limits_after (thresholds_at trace t.began d global reading) (hard d) reading)
        × HardFollows (hard e) (limits_after (thresholds_at trace t.began d global reading) (hard d) reading)) (
          has_thresholds trace t.began d global reading (limits_after (thresholds_at trace t.began d global reading) (hard d) reading) less refl refl,
          hard_follows (hard d) (thresholds_at trace t.began d global reading) reading,
        ) (subst (Goes (λ e. HasThresholds trace t.began e t.limits × HardFollows (hard e) t.limits) h.least) is h.goes);
    ready = h.ready;
    not_later = h.not_later;
    rested = λ none. h.rested (ap has_rest is ∙ none);
  }

  -- ---- its peak is raised, its sequence is odd, its thresh word is written

  raised_on : (least d : ℕ) (ts : List TimerTodo) (Ok : ℕ → Type 0) → Goes Ok least (todo.Step (step.Peak d) ∷ ts) → Goes Ok least ts
  raised_on least d (todo.Step (step.Unseal e) ∷ todo.Step (step.Thresh f) ∷ todo.Step (step.Publish g) ∷ more) Ok goes = (
    omega (arith, goes.0, goes.1),
    goes.2 ∙ sym goes.1,
    goes.3 ∙ sym goes.1,
    subst Ok (sym goes.1) goes.4,
    subst (λ (n : ℕ). Whole (n + 1) more) (sym goes.1) goes.5,
  )
  raised_on least d other Ok goes = absurd goes

  unsealed_on : (least d : ℕ) (ts : List TimerTodo) (Ok : ℕ → Type 0) → Goes Ok least (todo.Step (step.Unseal d) ∷ ts) → Goes Ok least ts
  unsealed_on least d (todo.Step (step.Thresh e) ∷ todo.Step (step.Publish f) ∷ more) Ok goes =
      (omega (arith, goes.0, goes.1), goes.2 ∙ sym goes.1, subst Ok (sym goes.1) goes.3, subst (λ (n : ℕ). Whole (n + 1) more) (sym goes.1) goes.4)
  unsealed_on least d other Ok goes = absurd goes

  drafted_on : (least d : ℕ) (ts : List TimerTodo) (Ok : ℕ → Type 0) → Goes Ok least (todo.Step (step.Thresh d) ∷ ts) → Goes Ok least ts
  drafted_on least d (todo.Step (step.Publish e) ∷ more) Ok goes = (omega (arith, goes.0, goes.1), subst Ok (sym goes.1) goes.2, subst (λ (n : ℕ). Whole (n + 1) more) (sym goes.1) goes.3)
  drafted_on least d other Ok goes = absurd goes

  passed : (ts : List TimerTodo) → has_rest t.todo ≡ has_rest ts → Goes (λ d. HasThresholds trace t.began d t.limits × HardFollows (hard d) t.limits) h.least ts
      → IsTimedIn trace (record t { todo = ts }) many hard
  passed ts rest goes = record {
    many_are = h.many_are;
    walk = h.walk;
    all_there = h.all_there;
    hards = h.hards;
    least = h.least;
    goes = goes;
    ready = h.ready;
    not_later = h.not_later;
    rested = λ none. h.rested (rest ∙ none);
  }

  pub raised : (d : ℕ) (ts : List TimerTodo) → t.todo ≡ todo.Step (step.Peak d) ∷ ts → IsTimedIn trace (record t { todo = ts }) many hard
  raised d ts is = passed ts (ap has_rest is) (raised_on h.least d ts _ (subst (Goes _ h.least) is h.goes))

  pub unsealed : (d : ℕ) (ts : List TimerTodo) → t.todo ≡ todo.Step (step.Unseal d) ∷ ts → IsTimedIn trace (record t { todo = ts }) many hard
  unsealed d ts is = passed ts (ap has_rest is) (unsealed_on h.least d ts _ (subst (Goes _ h.least) is h.goes))

  pub drafted : (d : ℕ) (ts : List TimerTodo) → t.todo ≡ todo.Step (step.Thresh d) ∷ ts → IsTimedIn trace (record t { todo = ts }) many hard
  drafted d ts is = passed ts (ap has_rest is) (drafted_on h.least d ts _ (subst (Goes _ h.least) is h.goes))

  -- ---- they are published

  pub published : (d : ℕ) (ts : List TimerTodo) (hard2 : ℕ → ℕ) → t.todo ≡ todo.Step (step.Publish d) ∷ ts → d < domains trace
      → hard2 d ≡ t.limits.hard → ((e : ℕ) → e ≢ d → hard2 e ≡ hard e)
      → IsTimedIn trace (record t { todo = ts; entries = t.entries ++ timer.Limits d t.began t.limits ∷ [] }) many hard2
  published d ts hard2 is less here others =
      let goes = subst (Goes _ h.least) is h.goes in
      let known : d < length (lines_of t.entries) = omega (arith, less, h.all_there) in
      let line : LastLine = record { now = t.began; hard = t.limits.hard } in
      let entries2 : List TimerEntry = t.entries ++ timer.Limits d t.began t.limits ∷ [] in
      let lines : lines_of entries2 ≡ set (lines_of t.entries) d line = lines_more t.entries d t.began t.limits known in
      let at_d : line_at d entries2 ≡ line = ap (λ (l : List LastLine). get_or l d no_line) lines ∙ get_or-set_same (lines_of t.entries) d line no_line known in
      let at_other : (e : ℕ) → e ≢ d → line_at e entries2 ≡ line_at e t.entries =
      λ e apart. ap (λ (l : List LastLine). get_or l e no_line) lines ∙ get_or-set_other (lines_of t.entries) d e line no_line apart in
      let follows : LineFollows trace (slice_get (lines_of t.entries) d) d t.began t.limits =
      subst (λ (o : Option LastLine). LineFollows trace o d t.began t.limits) (sym (slice_get-get_or (lines_of t.entries) d no_line known))
      (h.ready d less goes.0, goes.1.0, subst (λ (n : ℕ). HardFollows n t.limits) (sym (h.hards d less)) goes.1.1) in
      record {
        many_are = h.many_are;
        walk = along_more (TimerGoesOn trace opening_moment) lines_after [] t.entries (timer.Limits d t.began t.limits ∷ []) h.walk
            (subst (λ (b : Bool). LimitsBy b trace opening_moment (lines_of t.entries) d t.began t.limits) (sym not_opening) follows, tt);
        all_there = ap (λ (l : List LastLine). length l) lines ∙ length-set (lines_of t.entries) d line ∙ h.all_there;
        hards = λ e low. dite (ℕ_discrete e d)
            (λ same. ap (λ (n : ℕ). (line_at n entries2).hard) same ∙ ap (λ (l : LastLine). l.hard) at_d ∙ sym here ∙ ap hard2 (sym same))
            (λ apart. ap (λ (l : LastLine). l.hard) (at_other e apart) ∙ h.hards e low ∙ sym (others e apart));
        least = d + 1;
        goes = goes_whole _ (d + 1) ts goes.2;
        ready = λ e low later.
            let apart : e ≢ d = λ (same : e ≡ d). omega (arith, later, same) in
            let now_is : (line_at e entries2).now ≡ (line_at e t.entries).now = ap (λ (l : LastLine). l.now) (at_other e apart) in
            omega (arith, now_is, h.ready e low (omega (arith, later, goes.0)));
        not_later = λ e low. dite (ℕ_discrete e d)
            (λ same.
            let now_is : (line_at e entries2).now ≡ t.began = ap (λ (n : ℕ). (line_at n entries2).now) same ∙ ap (λ (l : LastLine). l.now) at_d in
            omega (arith, now_is))
            (λ apart.
            let now_is : (line_at e entries2).now ≡ (line_at e t.entries).now = ap (λ (l : LastLine). l.now) (at_other e apart) in
            omega (arith, now_is, h.not_later e low));
        rested = λ none. h.rested (ap has_rest is ∙ none);
      }

  -- ---- periods, and the rest

  not_rest_gone : (x : TimerSilent) (ts : List TimerTodo) → (x ≡ silent.Rest → ⊥) → has_rest (todo.Silent x ∷ ts) ≡ has_rest ts
  not_rest_gone silent.Rest ts other = absurd (other refl)
  not_rest_gone (silent.Period d) ts other = refl

  pub unbegun : (d : ℕ) (ts : List TimerTodo) → t.todo ≡ todo.Silent (silent.Period d) ∷ ts → IsTimedIn trace (record t { todo = ts }) many hard
  unbegun d ts is = record {
    many_are = h.many_are;
    walk = h.walk;
    all_there = h.all_there;
    hards = h.hards;
    least = h.least;
    goes = goes_whole _ h.least ts (subst (Goes _ h.least) is h.goes);
    ready = h.ready;
    not_later = h.not_later;
    rested = λ none. h.rested (ap has_rest is ∙ none);
  }

  pub begun : (d k : ℕ) (ts : List TimerTodo) → t.todo ≡ todo.Silent (silent.Period d) ∷ ts → d < domains trace
      → IsTimedIn trace (record t { todo = ts; entries = t.entries ++ timer.Period d k ∷ [] }) many hard
  begun d k ts is less =
      let lines : lines_of (t.entries ++ timer.Period d k ∷ []) ≡ lines_of t.entries = after_append lines_after [] t.entries (timer.Period d k ∷ []) in
      record {
        many_are = h.many_are;
        walk = along_more (TimerGoesOn trace opening_moment) lines_after [] t.entries (timer.Period d k ∷ []) h.walk
            (record { opened = not_opening; named = lt-ltb d (domains trace) less }, tt);
        all_there = ap (λ (l : List LastLine). length l) lines ∙ h.all_there;
        hards = λ e low. ap (λ (l : List LastLine). (get_or l e no_line).hard) lines ∙ h.hards e low;
        least = h.least;
        goes = goes_whole _ h.least ts (subst (Goes _ h.least) is h.goes);
        ready = λ e low later.
            let now_is = ap (λ (l : List LastLine). (get_or l e no_line).now) lines in omega (arith, now_is, h.ready e low later);
        not_later = λ e low. let now_is = ap (λ (l : List LastLine). (get_or l e no_line).now) lines in omega (arith, now_is, h.not_later e low);
        rested = λ none. h.rested (ap has_rest is ∙ none);
      }

  pub rests : (period : ℕ) (ts : List TimerTodo) → t.todo ≡ todo.Silent silent.Rest ∷ ts → IsTimedIn trace (record t { todo = ts; next = t.began + TIMER_REST; period = period }) many hard
  rests period ts is = record {
    many_are = h.many_are;
    walk = h.walk;
    all_there = h.all_there;
    hards = h.hards;
    least = h.least;
    goes = goes_whole _ h.least ts (subst (Goes _ h.least) is h.goes);
    ready = h.ready;
    not_later = h.not_later;
    rested = λ none. omega arith;
  }

  pub turns : (now : ℕ) → t.todo ≡ [] → t.next ≤ now → IsTimedIn trace (record t { todo = t.todo ++ turn_items many; began = now }) many hard
  turns now none late =
      let over = h.rested (ap has_rest none) in
      let items : t.todo ++ turn_items many ≡ turn_items many = ap (λ (l : List TimerTodo). l ++ turn_items many) none in
      record {
        many_are = h.many_are;
        walk = h.walk;
        all_there = h.all_there;
        hards = h.hards;
        least = 0;
        goes = subst (Goes _ 0) (sym items) (goes_whole _ 0 (turn_items many) (whole_items many));
        ready = λ e low later. omega (arith, over, late, h.not_later e low);
        not_later = λ e low. omega (arith, over, late, h.not_later e low);
        rested = λ without. absurd (cc (sym (items_rest many) ∙ ap has_rest (sym items) ∙ without));
      }

-- ---- the opening

module _ (trace : Trace) where
  -- the first lines of so many domains
  pub record AreFirst (n : ℕ) : Type 0 where
    pub walk : Along (TimerGoesOn trace opening_moment) lines_after [] (first_entries trace n)
    pub many : length (lines_of (first_entries trace n)) ≡ n
    pub each : (d : ℕ) → d < n → line_at d (first_entries trace n) ≡ record { now = opening_moment; hard = (first_limits trace d).hard }

  pub are_first : (n : ℕ) → n ≤ domains trace → AreFirst n
  are_first zero few = record { walk = tt; many = refl; each = λ d less. absurd (omega (arith, less)) }
  are_first (suc n) few =
      let h = are_first n (omega (arith, few)) in
      let before : List TimerEntry = first_entries trace n in
      let lines : List LastLine = lines_of before in
      let line : LastLine = record { now = opening_moment; hard = (first_limits trace n).hard } in
      let low : n < domains trace = omega (arith, few) in
      let last : TimerEntry = timer.Limits n opening_moment (first_limits trace n) in
      let more : lines_of (before ++ last ∷ []) ≡ lines ++ line ∷ [] =
      after_append lines_after [] before (last ∷ []) ∙ cond-false (ltb n (length lines)) _ _ (le-ltb n (length lines) (omega (arith, h.many))) in
      record {
        walk = along_more (TimerGoesOn trace opening_moment) lines_after [] before (last ∷ []) h.walk (
          subst (λ (b : Bool). LimitsBy b trace opening_moment lines n opening_moment (first_limits trace n)) (sym (lt-ltb (length lines) (domains trace) (omega (arith, h.many, low))))
              (record { next = sym h.many; at_once = refl; thresholds = has_thresholds trace opening_moment n 0 0 (first_limits trace n) low refl refl; hard = refl }),
          tt,
        );
        many = ap (λ (l : List LastLine). length l) more ∙ length-append lines (line ∷ []) ∙ (let m = h.many in omega (arith, m));
        each = λ d less. ⊎_elim
            (λ earlier. ap (λ (l : List LastLine). get_or l d no_line) more ∙ get_or_append_left lines (line ∷ []) no_line d (omega (arith, earlier, h.many)) ∙ h.each d earlier)
            (λ at_last.
            let same : n ≡ d = omega (arith, less, at_last) in
            ap (λ (l : List LastLine). get_or l d no_line) more ∙ get_or_push lines line no_line d (h.many ∙ same) ∙ ap (λ (k : ℕ). record { now = opening_moment; hard = (first_limits trace k).hard }) same)
            (cases_lt d n);
      }

  -- the moment of the first line
  pub opened_first : (n : ℕ) (rest : List TimerEntry) → opened_at (first_entries trace (suc n) ++ rest) ≡ opening_moment
  opened_first zero rest = refl
  opened_first (suc n) rest =
      let last : TimerEntry = timer.Limits (suc n) opening_moment (first_limits trace (suc n)) in
      ap opened_at (append_assoc (first_entries trace (suc n)) (last ∷ []) rest) ∙ opened_first n (last ∷ rest)
