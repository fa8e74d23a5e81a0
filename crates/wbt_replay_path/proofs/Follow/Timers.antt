-- The timer's moves follow the step relation.
use Rattle.std.proofs.Common.{◌≡◌, ◌≢◌, ℕ, zero, suc, ◌+◌, ◌<◌, ◌≤◌, max, Bool, true, false, cond, eqb, IsSomeAnd, Option, Some, None, pos, List, [], ◌∷◌, ◌++◌, length, get_or, refl, sym, ◌∙◌, ap, subst, append_assoc, arith, eq-eqb, ne_eqb}
use Rattle.std.proofs.Math.ListN.{set}
use Rattle.std.proofs.lemmas.Bool.{cond-true, cond-false}
use Rattle.std.proofs.lemmas.List.{get_or-set_same, get_or-set_other}
use mathlib.Core.Logic.{dite}
use native.Mathlib.Decide.{ℕ_discrete}
use Rattle.wbt_replay_order.proofs.Common.{Trace, Limits, Count, Counter, put, after_period, Half, TimerRecord, Setting, stage_of, version_of, sequence_of, domains, StepEntry, State, no_domain, domain_of, with_timer, load, peak, unseal, thresh, publish, period, period_to, periods, is_time, rest, begin_timer, domain_turns, domain_periods, turn_items, Domain, Timer, Writeback, TimerTodo, TimerEntry, DomainLimits, plain_entry, Suits, heights_of, count_in, Follows, Moves, silently, by, first_entries, Ranges}
use Rattle.wbt_counter.specs.declared.counter.Counter.TheVariants.{Domain as ofDomain, Context as ofContext}
use Rattle.wbt_grant.specs.declared.record.Draft.{Draft}
use Rattle.wbt_grant.specs.declared.record.Raised.{Raised}
use Rattle.wbt_grant.specs.declared.record.Stage.{Stage}
use Rattle.wbt_grant.specs.declared.record.Stage.TheVariants as stage
use Rattle.wbt_grant.specs.declared.who.StepKind.TheVariants as kind
use Rattle.wbt_grant.specs.declared.who.Who.TheVariants as who
use Rattle.wbt_grant.specs.State as throttle
use Rattle.wbt_grant.specs.State.{is_sealed}
use Rattle.wbt_grant.specs.Record.{with_stage}
use Rattle.wbt_grant.specs.Kinds as relation
use Rattle.wbt_grant.specs.Kinds.{last_raised}
use Rattle.wbt_grant.proofs.Sequences.{stage_here, stage_there, sequence_unsealed, sequence_drafted, sequence_published}
use Rattle.wbt_replay_moves.specs.Definition.Timer.{timer_number}
use Rattle.wbt_replay_moves.specs.declared.todo.TimerSilent.TheVariants as silent
use Rattle.wbt_replay_moves.specs.declared.todo.TimerStep.TheVariants as item
use Rattle.wbt_replay_moves.specs.declared.todo.TimerTodo.TheVariants as todo
use Rattle.wbt_journal.specs.declared.timer.TimerEntry.TheVariants as entry
use Rattle.wbt_run_laws.specs.Ticks.{published_after}
use Rattle.wbt_run_laws.proofs.Walking.{after_append}
use Rattle.wbt_replay_order.specs.Claims.Path.{LinesArePublished}
use Rattle.wbt_replay_order.specs.Kept.Following.{stage_in, MayUnsealNext, IsThreshNext, IsPublishedNext, PublishesLater, RaisesFirst, HasRaised}
use Rattle.wbt_replay_order.proofs.Facts.Lists.{either}
use Rattle.wbt_replay_order.proofs.Lists.Places.{cond_ap, get_set}
use Rattle.wbt_replay_order.proofs.Lists.Places.{still}

-- ---- what the timer still has to do

pub nothing_raised : (ts : List TimerTodo) (hard : ℕ) (raised : List Raised) → PublishesLater ts → HasRaised ts hard raised
nothing_raised [] hard raised later = tt
nothing_raised (todo.Step (item.Unseal d) ∷ ts) hard raised later = absurd later
nothing_raised (todo.Step (item.Thresh d) ∷ ts) hard raised later = absurd later
nothing_raised (todo.Step (item.Publish d) ∷ ts) hard raised later = absurd later
nothing_raised (todo.Step step ∷ ts) hard raised later = tt
nothing_raised (todo.Silent move ∷ ts) hard raised later = tt

just_raised : (d hard : ℕ) (ts : List TimerTodo) (older : List Raised) → MayUnsealNext d ts → HasRaised ts hard ((record { domain = d; hard = hard }) ∷ older)
just_raised d hard [] older next = tt
just_raised d hard (todo.Step (item.Unseal e) ∷ ts) older next = cond-true (eqb e d) (Some hard) (last_raised e older) (eq-eqb e d next)
just_raised d hard (todo.Step (item.Thresh e) ∷ ts) older next = absurd next
just_raised d hard (todo.Step (item.Publish e) ∷ ts) older next = absurd next
just_raised d hard (todo.Step step ∷ ts) older next = tt
just_raised d hard (todo.Silent move ∷ ts) older next = tt

thresh_raised : (d hard : ℕ) (ts : List TimerTodo) (raised : List Raised) → IsThreshNext d ts → last_raised d raised ≡ Some hard → HasRaised ts hard raised
thresh_raised d hard [] raised next is = absurd next
thresh_raised d hard (todo.Step (item.Thresh e) ∷ ts) raised next is = ap (λ (n : ℕ). last_raised n raised) next ∙ is
thresh_raised d hard (todo.Step (item.Count e) ∷ ts) raised next is = absurd next
thresh_raised d hard (todo.Step (item.Peak e) ∷ ts) raised next is = absurd next
thresh_raised d hard (todo.Step (item.Unseal e) ∷ ts) raised next is = absurd next
thresh_raised d hard (todo.Step (item.Publish e) ∷ ts) raised next is = absurd next
thresh_raised d hard (todo.Silent move ∷ ts) raised next is = absurd next

published_raised : (d hard : ℕ) (ts : List TimerTodo) (raised : List Raised) → IsPublishedNext d ts → last_raised d raised ≡ Some hard → HasRaised ts hard raised
published_raised d hard [] raised next is = absurd next
published_raised d hard (todo.Step (item.Publish e) ∷ ts) raised next is = ap (λ (n : ℕ). last_raised n raised) next ∙ is
published_raised d hard (todo.Step (item.Count e) ∷ ts) raised next is = absurd next
published_raised d hard (todo.Step (item.Peak e) ∷ ts) raised next is = absurd next
published_raised d hard (todo.Step (item.Unseal e) ∷ ts) raised next is = absurd next
published_raised d hard (todo.Step (item.Thresh e) ∷ ts) raised next is = absurd next
published_raised d hard (todo.Silent move ∷ ts) raised next is = absurd next

-- ---- how far a publication has come

later_sealed : (e : ℕ) (ts : List TimerTodo) (limits : Limits) → PublishesLater ts → stage_in e ts limits ≡ stage.Sealed
later_sealed e [] limits later = refl
later_sealed e (todo.Step (item.Thresh d) ∷ ts) limits later = absurd later
later_sealed e (todo.Step (item.Publish d) ∷ ts) limits later = absurd later
later_sealed e (todo.Step (item.Count d) ∷ ts) limits later = refl
later_sealed e (todo.Step (item.Peak d) ∷ ts) limits later = refl
later_sealed e (todo.Step (item.Unseal d) ∷ ts) limits later = refl
later_sealed e (todo.Silent move ∷ ts) limits later = refl

next_sealed : (e d : ℕ) (ts : List TimerTodo) (limits : Limits) → MayUnsealNext d ts → stage_in e ts limits ≡ stage.Sealed
next_sealed e d [] limits next = refl
next_sealed e d (todo.Step (item.Thresh f) ∷ ts) limits next = absurd next
next_sealed e d (todo.Step (item.Publish f) ∷ ts) limits next = absurd next
next_sealed e d (todo.Step (item.Count f) ∷ ts) limits next = refl
next_sealed e d (todo.Step (item.Peak f) ∷ ts) limits next = refl
next_sealed e d (todo.Step (item.Unseal f) ∷ ts) limits next = refl
next_sealed e d (todo.Silent move ∷ ts) limits next = refl

thresh_next : (e d : ℕ) (ts : List TimerTodo) (limits : Limits) → IsThreshNext d ts → stage_in e ts limits ≡ cond (eqb e d) stage.Unsealed stage.Sealed
thresh_next e d [] limits next = absurd next
thresh_next e d (todo.Step (item.Thresh f) ∷ ts) limits next = ap (λ (n : ℕ). cond (eqb e n) stage.Unsealed stage.Sealed) next
thresh_next e d (todo.Step (item.Count f) ∷ ts) limits next = absurd next
thresh_next e d (todo.Step (item.Peak f) ∷ ts) limits next = absurd next
thresh_next e d (todo.Step (item.Unseal f) ∷ ts) limits next = absurd next
thresh_next e d (todo.Step (item.Publish f) ∷ ts) limits next = absurd next
thresh_next e d (todo.Silent move ∷ ts) limits next = absurd next

published_next : (e d : ℕ) (ts : List TimerTodo) (limits : Limits) → IsPublishedNext d ts → stage_in e ts limits ≡ cond (eqb e d) (stage.Drafted limits) stage.Sealed
published_next e d [] limits next = absurd next
published_next e d (todo.Step (item.Publish f) ∷ ts) limits next = ap (λ (n : ℕ). cond (eqb e n) (stage.Drafted limits) stage.Sealed) next
published_next e d (todo.Step (item.Count f) ∷ ts) limits next = absurd next
published_next e d (todo.Step (item.Peak f) ∷ ts) limits next = absurd next
published_next e d (todo.Step (item.Unseal f) ∷ ts) limits next = absurd next
published_next e d (todo.Step (item.Thresh f) ∷ ts) limits next = absurd next
published_next e d (todo.Silent move ∷ ts) limits next = absurd next

-- one stage changes
stage_put : (d e : ℕ) (new : Stage) (drafts : List Draft) → stage_of e (with_stage d new drafts) ≡ cond (eqb e d) new (stage_of e drafts)
stage_put d e new drafts = dite (ℕ_discrete e d)
    (λ is. subst (λ (n : ℕ). stage_of n (with_stage d new drafts) ≡ cond (eqb n d) new (stage_of n drafts)) (sym is)
    (stage_here d new drafts ∙ sym (cond-true (eqb d d) new (stage_of d drafts) (eq-eqb d d refl))))
    (λ n. stage_there d e new drafts n ∙ sym (cond-false (eqb e d) new (stage_of e drafts) (ne_eqb e d n)))

replaced : (b : Bool) (x y z : Stage) → cond b x (cond b y z) ≡ cond b x z
replaced true x y z = refl
replaced false x y z = refl

all_sealed : (b : Bool) (y : Stage) → cond b stage.Sealed (cond b y stage.Sealed) ≡ stage.Sealed
all_sealed true y = refl
all_sealed false y = refl

-- items of which none publishes first
pub record IsOrdered (ts : List TimerTodo) : Type 0 where
  pub raises : RaisesFirst ts
  pub later : PublishesLater ts

periods_ordered : (n d : ℕ) → IsOrdered (domain_periods n d ++ todo.Silent silent.Rest ∷ [])
unfolding domain_periods
periods_ordered zero d = record { raises = (tt, tt); later = tt }
periods_ordered (suc n) d = let more = periods_ordered n (d + 1) in record { raises = (more.later, more.raises); later = tt }

turns_ordered : (n d : ℕ) (ts : List TimerTodo) → IsOrdered ts → IsOrdered (domain_turns n d ++ ts)
unfolding domain_turns
turns_ordered zero d ts more = more
turns_ordered (suc n) d ts more =
    let rest = turns_ordered n (d + 1) ts more in
    record { raises = (tt, (refl, (refl, (refl, (rest.later, rest.raises))))); later = tt }

pub turn_ordered : (n : ℕ) → IsOrdered (turn_items n)
turn_ordered n = subst IsOrdered (sym (append_assoc (domain_turns n 0) (domain_periods n 0) (todo.Silent silent.Rest ∷ [])))
    (turns_ordered n 0 (domain_periods n 0 ++ todo.Silent silent.Rest ∷ []) (periods_ordered n 0))

-- ---- one domain changes

-- Its count stays.
counts_stay : (all : List Domain) (contexts : List Writeback) (d : ℕ) (v : Domain) → v.count ≡ (get_or all d no_domain).count
    → (x : Counter) → count_in x (set all d v) contexts ≡ count_in x all contexts
counts_stay all contexts d v same (ofDomain e) = still (λ (q : Domain). q.count) all d v no_domain same e
counts_stay all contexts d v same (ofContext k) = refl

module _ (trace : Trace) (setting : Setting) (suits : Suits trace setting) (s : State) (t : throttle.State) (ranges : Ranges trace setting s) (h : Follows trace setting s t) where
  number_is : timer_number s ≡ setting.cpus
  number_is = ranges.cpus ∙ sym suits.cpus

  -- The timer and domains change.
  timer_follows : (all : List Domain) (timer : Timer) (steps : List StepEntry) (r : TimerRecord) (published : ℕ → Limits) (peaks : ℕ → ℕ)
      → ((x : Counter) → count_in x all s.contexts ≡ count_in x s.domains s.contexts)
      → ((d : ℕ) → d < domains trace → published d ≡ (get_or all d no_domain).limits)
      → ((d : ℕ) → d < domains trace → ◌≡◌ {A = ℕ × ℕ} (peaks d, sequence_of r d) (heights_of (get_or all d no_domain)))
      → RaisesFirst timer.todo → HasRaised timer.todo timer.limits.hard r.raised
      → ((d : ℕ) → stage_of d r.drafts ≡ stage_in d timer.todo timer.limits) → LinesArePublished trace timer.entries r.published
      → Follows trace setting (record s { domains = all; timer = timer; steps = steps }) (record t { timer = r; published = published; peak = peaks })
  timer_follows all timer steps r published peaks counts publishes raising raises raised stages lines = record {
    book = h.book;
    marks = h.marks;
    versions = λ x. h.versions x ∙ ap (λ (q : Count). q.version) (sym (counts x));
    values = λ x. h.values x ∙ ap (λ (q : Count). q.value) (sym (counts x));
    published = publishes;
    peak = raising;
    cpu = h.cpu;
    raises = raises;
    raised = raised;
    stages = stages;
    lines = lines;
  }

  module _ (ts : List TimerTodo) where
    abbrev s1 : State
    s1 = with_timer (record s.timer { todo = ts }) s

    order : (first : TimerTodo) → s.timer.todo ≡ first ∷ ts → RaisesFirst (first ∷ ts)
    order first is = subst RaisesFirst is h.raises

    stages_are : (first : TimerTodo) → s.timer.todo ≡ first ∷ ts → (e : ℕ) → stage_of e t.timer.drafts ≡ stage_in e (first ∷ ts) s.timer.limits
    stages_are first is e = h.stages e ∙ ap (λ (l : List TimerTodo). stage_in e l s.timer.limits) is

    -- ---- steps

    module _ (d : ℕ) (inside : d < domains trace) where
      there : d < length s.domains
      there = omega (arith, inside, ranges.domains_are)

      pub timer_load_moves : s.timer.todo ≡ todo.Step (item.Count d) ∷ ts → Moves trace setting s.steps (load trace d s1) t
      timer_load_moves is =
          let o = order (todo.Step (item.Count d)) is in
          by (relation.count who.Timer (ofDomain d)) refl tt (ap (λ (n : ℕ). s.steps ++ plain_entry n kind.Count ∷ []) number_is)
          (loaded d o)
        where
          stays_sealed : (limits : Limits) → PublishesLater ts → (e : ℕ) → stage_of e t.timer.drafts ≡ stage_in e ts limits
          stays_sealed limits later e = stages_are (todo.Step (item.Count d)) is e ∙ sym (later_sealed e ts limits later)

          loaded : (e : ℕ) → RaisesFirst (todo.Step (item.Count d) ∷ ts) → Follows trace setting (load trace e s1) (relation.after setting (relation.count who.Timer (ofDomain d)) t)
          loaded zero o = timer_follows s.domains (load trace 0 s1).timer (load trace 0 s1).steps (relation.after setting (relation.count who.Timer (ofDomain d)) t).timer t.published t.peak (λ x. refl) h.published h.peak o.1 (nothing_raised ts _ t.timer.raised o.0) (stays_sealed (load trace 0 s1).timer.limits o.0) h.lines
          loaded (suc e) o = timer_follows s.domains (load trace (suc e) s1).timer (load trace (suc e) s1).steps (relation.after setting (relation.count who.Timer (ofDomain d)) t).timer t.published t.peak (λ x. refl) h.published h.peak o.1 (nothing_raised ts _ t.timer.raised o.0) (stays_sealed (load trace (suc e) s1).timer.limits o.0) h.lines

      -- the domain's heights are these, and those of all others stay
      heights_put : (v : Domain) (peaks : ℕ → ℕ) (r : TimerRecord) → ◌≡◌ {A = ℕ × ℕ} (peaks d, sequence_of r d) (heights_of v)
          → ((e : ℕ) → e ≢ d → ◌≡◌ {A = ℕ × ℕ} (peaks e, sequence_of r e) (t.peak e, sequence_of t.timer e))
          → (e : ℕ) → e < domains trace → ◌≡◌ {A = ℕ × ℕ} (peaks e, sequence_of r e) (heights_of (get_or (set s.domains d v) e no_domain))
      heights_put v peaks r here others e known = dite (ℕ_discrete e d)
          (λ is. subst (λ (n : ℕ). ◌≡◌ {A = ℕ × ℕ} (peaks n, sequence_of r n) (heights_of (get_or (set s.domains d v) n no_domain))) (sym is)
          (here ∙ ap (λ (q : Domain). heights_of q) (sym (get_or-set_same s.domains d v no_domain there))))
          (λ n. others e n ∙ (h.peak e known ∙ ap (λ (q : Domain). heights_of q) (sym (get_or-set_other s.domains d e v no_domain n))))

      -- the sequence is one further on, and those of all others stay
      sequence_put : (r : TimerRecord) → ◌≡◌ {A = ℕ → ℕ} (sequence_of r) (put (sequence_of t.timer) d (suc (sequence_of t.timer d)))
          → (◌≡◌ {A = ℕ × ℕ} (t.peak d, sequence_of r d) ((domain_of d s).peak, (domain_of d s).sequence + 1))
          × ((e : ℕ) → e ≢ d → ◌≡◌ {A = ℕ × ℕ} (t.peak e, sequence_of r e) (t.peak e, sequence_of t.timer e))
      sequence_put r is = (
        ap (λ (f : ℕ → ℕ). (t.peak d, f d)) is ∙ (ap (λ (n : ℕ). (t.peak d, n)) (cond-true (eqb d d) (suc (sequence_of t.timer d)) _ (eq-eqb d d refl))
            ∙ (ap (λ (k : ℕ × ℕ). (k.0, suc k.1)) (h.peak d inside) ∙ ap (λ (n : ℕ). ((domain_of d s).peak, n)) (let one : suc (domain_of d s).sequence ≡ (domain_of d s).sequence + 1 = omega arith in one))),
        λ e n. ap (λ (f : ℕ → ℕ). (t.peak e, f e)) is ∙ ap (λ (k : ℕ). (t.peak e, k)) (cond-false (eqb e d) _ (sequence_of t.timer e) (ne_eqb e d n)),
      )

      pub peak_moves : s.timer.todo ≡ todo.Step (item.Peak d) ∷ ts → Moves trace setting s.steps (peak d s1) t
      peak_moves is =
          let o = order (todo.Step (item.Peak d)) is in
          let hard : ℕ = s.timer.limits.hard in
          let v : Domain = record (domain_of d s) { peak = max (domain_of d s).peak hard } in
          let peaks : ℕ → ℕ = put t.peak d (max (t.peak d) hard) in
          let r : TimerRecord = (relation.after setting (relation.peak d hard) t).timer in
          by (relation.peak d hard) refl tt
          (ap (λ (n : ℕ). s.steps ++ (record { who = n; kind = kind.Peak; context = 0; change = pos 0; domain = d; peak = hard }) ∷ []) number_is)
          (timer_follows (set s.domains d v) (peak d s1).timer (peak d s1).steps r t.published peaks (counts_stay s.domains s.contexts d v refl)
          (λ e known. h.published e known ∙ sym (still (λ (q : Domain). q.limits) s.domains d v no_domain refl e))
          (heights_put v peaks r
          (ap (λ (n : ℕ). (n, sequence_of t.timer d)) (cond-true (eqb d d) (max (t.peak d) hard) (t.peak d) (eq-eqb d d refl)) ∙ ap (λ (k : ℕ × ℕ). (max k.0 hard, k.1)) (h.peak d inside))
          (λ e n. ap (λ (m : ℕ). (m, sequence_of t.timer e)) (cond-false (eqb e d) (max (t.peak d) hard) (t.peak e) (ne_eqb e d n))))
          o.1 (just_raised d hard ts t.timer.raised o.0)
          (λ e. stages_are (todo.Step (item.Peak d)) is e ∙ sym (next_sealed e d ts s.timer.limits o.0)) h.lines)

      pub unseal_moves : s.timer.todo ≡ todo.Step (item.Unseal d) ∷ ts → Moves trace setting s.steps (unseal d s1) t
      unseal_moves is =
          let o = order (todo.Step (item.Unseal d)) is in
          let v : Domain = record (domain_of d s) { sequence = (domain_of d s).sequence + 1 } in
          let r : TimerRecord = (relation.after setting (relation.unseal d) t).timer in
          let raised : last_raised d t.timer.raised ≡ Some s.timer.limits.hard = subst (λ (l : List TimerTodo). HasRaised l s.timer.limits.hard t.timer.raised) is h.raised in
          let sealed : is_sealed (stage_of d t.timer.drafts) ≡ true = ap is_sealed (stages_are (todo.Step (item.Unseal d)) is d) in
          let tells : sequence_of t.timer d ≡ (domain_of d s).sequence = ap (λ (k : ℕ × ℕ). k.1) (h.peak d inside) in
          let few = ranges.sequences d inside in
          let sequences = sequence_put r (sequence_unsealed t.published t.timer d sealed) in
          by (relation.unseal d) refl (record { sealed = sealed; room = omega (arith, tells, few, ranges.last_sequence) })
          (ap (λ (n : ℕ). s.steps ++ plain_entry n kind.Unseal ∷ []) number_is)
          (timer_follows (set s.domains d v) (unseal d s1).timer (unseal d s1).steps r t.published t.peak (counts_stay s.domains s.contexts d v refl)
          (λ e known. h.published e known ∙ sym (still (λ (q : Domain). q.limits) s.domains d v no_domain refl e))
          (heights_put v t.peak r sequences.0 sequences.1)
          o.1 (thresh_raised d s.timer.limits.hard ts t.timer.raised o.0 raised)
          (λ e. stage_put d e stage.Unsealed t.timer.drafts ∙ (ap (cond (eqb e d) stage.Unsealed) (stages_are (todo.Step (item.Unseal d)) is e)
          ∙ sym (thresh_next e d ts s.timer.limits o.0))) h.lines)

      pub thresh_moves : s.timer.todo ≡ todo.Step (item.Thresh d) ∷ ts → Moves trace setting s.steps (thresh s1) t
      thresh_moves is =
          let o = order (todo.Step (item.Thresh d)) is in
          let triple : Limits = s.timer.limits in
          let r : TimerRecord = (relation.after setting (relation.thresh d triple) t).timer in
          let raised : last_raised d t.timer.raised ≡ Some triple.hard = subst (λ (l : List TimerTodo). HasRaised l triple.hard t.timer.raised) is h.raised in
          let at : stage_of d t.timer.drafts ≡ stage.Unsealed = stages_are (todo.Step (item.Thresh d)) is d ∙ cond-true (eqb d d) stage.Unsealed stage.Sealed (eq-eqb d d refl) in
          let unsealed : is_sealed (stage_of d t.timer.drafts) ≡ false = ap is_sealed at in
          by (relation.thresh d triple) refl
          (record { unsealed = unsealed; lawful = ranges.timer_limits; raised_before = subst (λ (q : Option ℕ). IsSomeAnd q (λ hard. triple.hard ≤ hard)) (sym raised) (omega arith) })
          (ap (λ (n : ℕ). s.steps ++ plain_entry n kind.Thresh ∷ []) number_is)
          (timer_follows s.domains (thresh s1).timer (thresh s1).steps r t.published t.peak (λ x. refl) h.published
          (λ e known. ap (λ (f : ℕ → ℕ). (t.peak e, f e)) (sequence_drafted t.published t.timer d triple unsealed) ∙ h.peak e known)
          o.1 (published_raised d triple.hard ts t.timer.raised o.0 raised)
          (λ e. stage_put d e (stage.Drafted triple) t.timer.drafts ∙ (ap (cond (eqb e d) (stage.Drafted triple)) (stages_are (todo.Step (item.Thresh d)) is e)
          ∙ (replaced (eqb e d) (stage.Drafted triple) stage.Unsealed stage.Sealed ∙ sym (published_next e d ts triple o.0)))) h.lines)

      pub publish_moves : s.timer.todo ≡ todo.Step (item.Publish d) ∷ ts → Moves trace setting s.steps (publish d s1) t
      publish_moves is =
          let o = order (todo.Step (item.Publish d)) is in
          let triple : Limits = s.timer.limits in
          let v : Domain = record (domain_of d s) { limits = triple; sequence = (domain_of d s).sequence + 1 } in
          let r : TimerRecord = (relation.after setting (relation.publish d triple) t).timer in
          let line : TimerEntry = entry.Limits d s.timer.began triple in
          let newest : List DomainLimits → List DomainLimits = λ (l : List DomainLimits). (record { domain = d; version = suc (version_of d l); limits = triple }) ∷ l in
          let in_hand : stage_of d t.timer.drafts ≡ stage.Drafted triple = stages_are (todo.Step (item.Publish d)) is d ∙ cond-true (eqb d d) (stage.Drafted triple) stage.Sealed (eq-eqb d d refl) in
          let sequences = sequence_put r (sequence_published t.published t.timer d triple (ap is_sealed in_hand)) in
          by (relation.publish d triple) refl (record { in_hand = in_hand })
          (ap (λ (n : ℕ). s.steps ++ plain_entry n kind.Publish ∷ []) number_is)
          (timer_follows (set s.domains d v) (publish d s1).timer (publish d s1).steps r (put t.published d triple) t.peak (counts_stay s.domains s.contexts d v refl)
          (λ e known.
          ap (cond (eqb e d) triple) (h.published e known)
          ∙ (sym (cond_ap (λ (q : Domain). q.limits) (eqb e d) v (domain_of e s)) ∙ ap (λ (q : Domain). q.limits) (sym (get_set s.domains d e v no_domain there))))
          (heights_put v t.peak r sequences.0 sequences.1)
          o.1 (nothing_raised ts _ t.timer.raised o.0)
          (λ e. stage_put d e stage.Sealed t.timer.drafts ∙ (ap (cond (eqb e d) stage.Sealed) (stages_are (todo.Step (item.Publish d)) is e)
          ∙ (all_sealed (eqb e d) (stage.Drafted triple) ∙ sym (later_sealed e ts triple o.0))))
          (record {
            later = h.lines.later ++ line ∷ [];
            entries_are = ap (λ (l : List TimerEntry). l ++ line ∷ []) h.lines.entries_are ∙ append_assoc (first_entries trace (domains trace)) h.lines.later (line ∷ []);
            published_are = ap newest h.lines.published_are ∙ sym (after_append published_after [] h.lines.later (line ∷ []));
          }))

    -- ---- silent moves

    quiet : (timer : Timer) → timer.todo ≡ ts → timer.entries ≡ s.timer.entries → PublishesLater ts → RaisesFirst ts → ((e : ℕ) → stage_of e t.timer.drafts ≡ stage.Sealed)
        → Follows trace setting (with_timer timer s) t
    quiet timer same told later raises sealed =
        timer_follows s.domains timer s.steps t.timer t.published t.peak (λ x. refl) h.published h.peak
        (subst RaisesFirst (sym same) raises) (subst (λ (l : List TimerTodo). HasRaised l timer.limits.hard t.timer.raised) (sym same) (nothing_raised ts timer.limits.hard t.timer.raised later))
        (λ e. sealed e ∙ (sym (later_sealed e ts timer.limits later) ∙ ap (λ (l : List TimerTodo). stage_in e l timer.limits) (sym same)))
        (subst (λ (es : List TimerEntry). LinesArePublished trace es t.timer.published) (sym told) h.lines)

    pub period_moves : (d : ℕ) → s.timer.todo ≡ todo.Silent (silent.Period d) ∷ ts → Moves trace setting s.steps (period d s1) t
    period_moves d is =
        let o = order (todo.Silent (silent.Period d)) is in
        either (λ (u : State). Moves trace setting s.steps u t) (is_time s1.timer) (period_to d (periods s1.timer) (after_period (domain_of d s1).events (periods s1.timer)) s1) s1
        (λ yes. found o (periods s1.timer) (after_period (domain_of d s1).events (periods s1.timer)))
        (λ no. silently refl (quiet s1.timer refl refl o.0 o.1 (stages_are (todo.Silent (silent.Period d)) is)))
      where
        found : RaisesFirst (todo.Silent (silent.Period d) ∷ ts) → (k : ℕ) (events : Option Half) → Moves trace setting s.steps (period_to d k events s1) t
        found o k None = silently refl (quiet s1.timer refl refl o.0 o.1 (stages_are (todo.Silent (silent.Period d)) is))
        found o k (Some events) =
            let v : Domain = record (domain_of d s) { events = events } in
            silently refl
            (timer_follows (set s.domains d v) (period_to d k (Some events) s1).timer s.steps t.timer t.published t.peak (counts_stay s.domains s.contexts d v refl)
            (λ e known. h.published e known ∙ sym (still (λ (q : Domain). q.limits) s.domains d v no_domain refl e))
            (λ e known. h.peak e known ∙ sym (still (λ (q : Domain). heights_of q) s.domains d v no_domain refl e))
            o.1 (nothing_raised ts _ t.timer.raised o.0)
            (λ e. stages_are (todo.Silent (silent.Period d)) is e ∙ sym (later_sealed e ts s.timer.limits o.0))
            (record {
              later = h.lines.later ++ entry.Period d k ∷ [];
              entries_are = ap (λ (l : List TimerEntry). l ++ entry.Period d k ∷ []) h.lines.entries_are ∙ append_assoc (first_entries trace (domains trace)) h.lines.later (entry.Period d k ∷ []);
              published_are = h.lines.published_are ∙ sym (after_append published_after [] h.lines.later (entry.Period d k ∷ []));
            }))

    pub rest_moves : s.timer.todo ≡ todo.Silent silent.Rest ∷ ts → Moves trace setting s.steps (rest s1) t
    rest_moves is =
        let o = order (todo.Silent silent.Rest) is in
        silently refl (quiet (rest s1).timer refl refl o.0 o.1 (stages_are (todo.Silent silent.Rest) is))

  -- ---- a turn begins

  pub begin_timer_moves : s.timer.todo ≡ [] → Moves trace setting s.steps (begin_timer s) t
  begin_timer_moves is =
      let o = turn_ordered (length s.domains) in
      silently refl (quiet (turn_items (length s.domains)) (begin_timer s).timer (ap (λ (l : List TimerTodo). l ++ turn_items (length s.domains)) is) refl o.later o.raises
      (λ e. h.stages e ∙ ap (λ (l : List TimerTodo). stage_in e l s.timer.limits) is))
