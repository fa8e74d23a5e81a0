-- The timer's entries, from the opening on.
use Rattle.std.proofs.Common.{◌≡◌, ℕ, zero, suc, ◌+◌, ◌<◌, ◌≤◌, Bool, true, false, cond, nat_lt, ltb, List, [], ◌∷◌, ◌++◌, length, set, sym, refl, ap, ◌∙◌, subst, arith}
use Rattle.std.proofs.lemmas.Bool.{cond-false, le-ltb, lt-ltb}
use Rattle.wbt_run_laws.proofs.Common.{Limits, Trace, domains, TimerGoesOn, lines_after, Along, after, TimerEntry, Journal, along_more, first_lines, Run, Worked}
use Rattle.wbt_journal.specs.Timer.{LastLine, LimitsBy, put_line}
use Rattle.wbt_journal.specs.declared.timer.TimerEntry.TheVariants as timer
use Rattle.wbt_journal.specs.Estimates.{opened_at}
use Rattle.wbt_run_laws.specs.Closed.{opening_lines, OpensWith}
use Rattle.wbt_run_laws.specs.Laws.{WorkedTimerFollows, WorkedTimerHasOpened}
use Rattle.wbt_run_laws.proofs.Walking.{after_append}
use Rattle.wbt_run_laws.proofs.Logging.{one_longer}

-- a line of a domain that has none yet is put after the others
put_next : (d : ℕ) (line : LastLine) (lines : List LastLine) → d ≡ length lines → put_line d line lines ≡ lines ++ line ∷ []
put_next d line lines next = cond-false (ltb d (length lines)) _ (lines ++ line ∷ []) (le-ltb d (length lines) (omega arith))

-- the first lines open one domain after another
opens : (trace : Trace) (opened : ℕ) (firsts : ℕ → Limits) → OpensWith trace opened firsts → (d n : ℕ) (lines : List LastLine) → d ≡ length lines → d + n ≡ domains trace
    → Along (TimerGoesOn trace opened) lines_after lines (first_lines firsts opened d n)
opens trace opened firsts with' d zero lines next all = tt
opens trace opened firsts with' d (suc n) lines next all =
    let low : d < domains trace = omega arith in
    let line : LastLine = record { now = opened; hard = (firsts d).hard } in (
      subst (λ (b : Bool). LimitsBy b trace opened lines d opened (firsts d)) (sym (lt-ltb (length lines) (domains trace) (omega arith)))
          (record { next = next; at_once = refl; thresholds = with'.thresholds d low; hard = with'.hards d low }),
      subst (λ (l : List LastLine). Along (TimerGoesOn trace opened) lines_after l (first_lines firsts opened (suc d) n)) (sym (put_next d line lines next))
          (opens trace opened firsts with' (suc d) n (lines ++ line ∷ []) (let more = one_longer lines line in omega arith) (omega arith)),
    )

-- and each gives one line
opened_lines : (firsts : ℕ → Limits) (opened d n : ℕ) (lines : List LastLine) → d ≡ length lines → length (after lines_after lines (first_lines firsts opened d n)) ≡ d + n
opened_lines firsts opened d zero lines next = omega arith
opened_lines firsts opened d (suc n) lines next =
    let line : LastLine = record { now = opened; hard = (firsts d).hard } in
    ap (λ (l : List LastLine). length (after lines_after l (first_lines firsts opened (suc d) n))) (put_next d line lines next)
    ∙ opened_lines firsts opened (suc d) n (lines ++ line ∷ []) (let more = one_longer lines line in omega arith)
    ∙ (omega arith)

-- no line goes away
set_length : {A : Type 0} (xs : List A) (i : ℕ) (a : A) → length (set xs i a) ≡ length xs
set_length [] i a = refl
set_length (x ∷ xs) zero a = refl
set_length (x ∷ xs) (suc i) a = ap suc (set_length xs i a)

put_by : (is_there : Bool) (d : ℕ) (line : LastLine) (lines : List LastLine) → length lines ≤ length (cond is_there (set lines d line) (lines ++ line ∷ []))
put_by true d line lines = let same = set_length lines d line in omega arith
put_by false d line lines = let more = one_longer lines line in omega arith

more_lines : (entries : List TimerEntry) (lines : List LastLine) → length lines ≤ length (after lines_after lines entries)
more_lines [] lines = omega arith
more_lines (timer.Limits d now limits ∷ entries) lines =
    let line : LastLine = record { now = now; hard = limits.hard } in
    let first = put_by (nat_lt d (length lines)) d line lines in
    let rest = more_lines entries (put_line d line lines) in omega arith
more_lines (timer.Period d k ∷ entries) lines = more_lines entries lines

pub opened_is : (trace : Trace) (j : Journal) (r : Run) → Worked trace j r → opened_at j.timer ≡ r.opened
opened_is trace j r w = ap opened_at w.timer_is

pub timer_follows : WorkedTimerFollows
timer_follows trace j r w =
    let opening : List TimerEntry = opening_lines trace r.opened r.set.firsts in
    subst (λ (n : ℕ). Along (TimerGoesOn trace n) lines_after [] j.timer) (sym (opened_is trace j r w))
    (subst (λ (l : List TimerEntry). Along (TimerGoesOn trace r.opened) lines_after [] l) (sym w.timer_is)
    (along_more (TimerGoesOn trace r.opened) lines_after [] opening r.ticked
    (opens trace r.opened r.set.firsts w.opens 0 (domains trace) [] refl (omega arith))
    (subst (λ (l : List LastLine). Along (TimerGoesOn trace r.opened) lines_after l r.ticked) w.timer_opens.lines w.timer_since.follow.allowed)))

pub timer_has_opened : WorkedTimerHasOpened
timer_has_opened trace j r w =
    let opening : List TimerEntry = opening_lines trace r.opened r.set.firsts in
    let all = ap (after lines_after []) w.timer_is ∙ after_append lines_after [] opening r.ticked in
    let first = opened_lines r.set.firsts r.opened 0 (domains trace) [] refl in
    let more = more_lines r.ticked (after lines_after [] opening) in
    let as_many = ap length all in
    le-ltb (length (after lines_after [] j.timer)) (domains trace) (omega arith)
