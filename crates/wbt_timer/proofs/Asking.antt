-- The gate was asked before each step that publishes: where no step was made, where one was, in a publication, and where calls follow one another.
use Rattle.std.proofs.Common.{◌≡◌, ℕ, Bool, true, Some, None, List, [], ◌∷◌, ◌++◌, refl, sym, ap, ◌∙◌, subst}
use Rattle.wbt_kit.proofs.Common.{Limits, Domain, Step, count, timer_after, Setting, TimerRecord, Timer, Made, Puts, timer_of, LogsSteps, setting, Seated, Put, Done, Stopped, Last, Logged}
use Rattle.wbt_kit.specs.declared.kit.Kit.{Kit}
use Rattle.wbt_kit.specs.declared.kit.Seats.{Seats}
use Rattle.wbt_table.specs.Calls.{AskedTimer, TimesAll}
use Rattle.wbt_table.specs.History.{timer_log_of}
use Rattle.wbt_table.specs.Seat.{Times}
use Rattle.wbt_timer.specs.Gate.{AskedBeforePublishing, AskedToPublish, LoadsCount, is_publishing}

-- ---- steps one after another

timer_append : (a b : List Made) (r : TimerRecord) → timer_of (a ++ b) r ≡ timer_of b (timer_of a r)
timer_append [] b r = refl
timer_append (m ∷ a) b r = timer_append a b (timer_after m.step m.found r)

logs_append : (set : Setting) (a b : List Made) (was mid is : List Logged) → LogsSteps set timer_log_of a was mid → LogsSteps set timer_log_of b mid is
    → LogsSteps set timer_log_of (a ++ b) was is
logs_append set [] b was mid is first second = subst (λ (z : List Logged). LogsSteps set timer_log_of b z is) first second
logs_append set (m ∷ a) b was mid is first second = (first.0, first.1, first.2, logs_append set a b first.1 mid is first.3 second)

asked_append : (said : ℕ → Bool → Type 0) (a b : List Made) (r : TimerRecord) → AskedToPublish said a r → AskedToPublish said b (timer_of a r) → AskedToPublish said (a ++ b) r
asked_append said [] b r first second = second
asked_append said (m ∷ a) b r first second = (first.0, asked_append said a b (timer_after m.step m.found r) first.1 second)

-- where the gate was asked before each step
asked_all : (said : ℕ → Bool → Type 0) (made : List Made) (r : TimerRecord) → AskedTimer said made r → AskedToPublish said made r
asked_all said [] r asked = tt
asked_all said (m ∷ more) r asked = (λ is. asked.0, asked_all said more (timer_after m.step m.found r) asked.1)

-- ---- of the seats

module _ (kit : Kit) (said : ℕ → Bool → Type 0) where
  -- nothing of the CPU's seat changed
  pub asked_none : (old new : Seats) → new.cpu ≡ old.cpu → AskedBeforePublishing kit said old new
  asked_none old new same = record {
    made = [];
    became = λ r has. ap (λ (s : Seated). s.timer) same ∙ has;
    logged = λ log is. (log, refl, ap (λ (s : Seated). s.timer_log) same ∙ is);
    asked = λ r has. tt;
  }

  -- a step that is none of a publication
  pub asked_beside : (step : Step) (n : ℕ) (old new : Seats) → (is_publishing step ≡ true → ⊥) → Times (setting kit.throttle.layout) step n old.cpu new.cpu
      → AskedBeforePublishing kit said old new
  asked_beside step n old new beside times = record {
    made = record { step = step; found = n } ∷ [];
    became = times.timer;
    logged = λ log is. let t = times.timer_log log is in (t.0, (None, t.0, t.1, refl), t.2);
    asked = λ r has. (λ is. absurd (beside is), tt);
  }

  pub asked_count : (domain : ℕ) (old new : Seats) → LoadsCount kit domain old new → AskedBeforePublishing kit said old new
  asked_count domain old new loads = asked_beside (count Timer (Domain domain)) loads.0 old new (λ is. absurd (let e = is in cc)) loads.1

  -- steps before each of which the gate was asked
  asked_these : (made : List Made) (old new : Seats) → TimesAll (setting kit.throttle.layout) said made old.cpu new.cpu → AskedBeforePublishing kit said old new
  asked_these made old new times = record {
    made = made;
    became = λ r has. (times.timer r has).0;
    logged = times.timer_log;
    asked = λ r has. asked_all said made r (times.timer r has).1;
  }

  -- a publication
  pub asked_put : (d : ℕ) (l : Limits) (put : Put) (old new : Seats) → Puts (setting kit.throttle.layout) d l said put old.cpu new.cpu → AskedBeforePublishing kit said old new
  asked_put d l Done old new p = asked_these p.0 old new p.1
  asked_put d l Stopped old new p = asked_these p.0 old new p.1
  asked_put d l Last old new p = asked_none old new p.0

  -- one call after another
  pub asked_more : (old mid new : Seats) → AskedBeforePublishing kit said old mid → AskedBeforePublishing kit said mid new → AskedBeforePublishing kit said old new
  asked_more old mid new a b = record {
    made = a.made ++ b.made;
    became = λ r has. b.became (timer_of a.made r) (a.became r has) ∙ ap (λ (q : TimerRecord). Some q) (sym (timer_append a.made b.made r));
    logged = λ log is.
        let first = a.logged log is in
        let second = b.logged first.0 first.2 in
        (second.0, logs_append (setting kit.throttle.layout) a.made b.made log first.0 second.0 first.1 second.1, second.2);
    asked = λ r has. asked_append said a.made b.made r (a.asked r has) (b.asked (timer_of a.made r) (a.became r has));
  }
