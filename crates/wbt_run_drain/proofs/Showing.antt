-- What all CPUs told, showed and noted, after a flusher's turn.
use Rattle.std.proofs.Common.{◌≡◌, ◌≢◌, ℕ, ◌<◌, ◌==◌, nat_lt, if◌then◌else◌, Bool, true, List, [], ◌∷◌, length, get_or, set, Option, refl, sym, ap, ◌∙◌, subst, arith, eq-eqb, ne_eqb, lt-ltb}
use Rattle.std.proofs.Math.Path.{fun_ext}
use Rattle.std.proofs.lemmas.List.{get_or-map, get_or-set_other, get_or-set_same, map-set}
use Rattle.std.proofs.lemmas.Option.{slice_get_within}
use mathlib.Core.Logic.{dite}
use native.Mathlib.Decide.{ℕ_discrete}
use Rattle.wbt_run_worker.proofs.Common.{absorbs, all_times, completes, dirties, times, total_same, deeds_of, CpuRecord, CpuJournal, HasCpu, setting, Layout, Trace, Event, shown_by, Kit, Seats, Seen, Team, flusher_at, team_of, record_of, record_is, Shown, ShownFlusher, none_shown, empty_log, Desk}
use Rattle.wbt_kit.proofs.Common.{put}
use Rattle.wbt_counter.proofs.Sums.{put_each}
use Rattle.wbt_run_worker.specs.declared.round.JobOutcome.{JobOutcome}
use Rattle.wbt_run_worker.specs.declared.side.CpuSide.{CpuSide}
use Rattle.wbt_run_worker.proofs.Posts.{chosen, other, stand_at, flushers_own, flushers_now, flushers_other}
use Rattle.wbt_run_drain.specs.Drained.{AreTogether, TurnGoesOn as DrainGoesOn, IsThere, shown_behind}
use Rattle.wbt_run_drain.specs.Whole.{IsCleaned, log_at}
use Rattle.wbt_run_drain.proofs.Draining.{drain_goes_on}
use Rattle.wbt_writer.specs.Counted.{side_of, written_of}
use Rattle.wbt_run_drain.specs.Standing.{HaveTold, IsCleanedIn}
use Rattle.wbt_run_drain.specs.Teams.{logs_of, posts_of, shown_at, teams_of}
use Rattle.wbt_run_drain.proofs.Ready.{team_is}
use Rattle.wbt_run_drain.proofs.Taking.{TakesTurn, added, before, behind, behind_is, d, drained, is_seen, mine, new, noted, old, others_keep, q, same_plan, stands, there, went}
use Rattle.wbt_run_drain.proofs.Telling.{all_plain}

-- ---- records that are shown, and those that the seats have

record_shown : (trace : Trace) (last : ℕ → Shown) (seats : Seats) → ((cpu : ℕ) → cpu < trace.cpus → HasCpu cpu (last cpu).held seats) → (cpu : ℕ) → cpu < trace.cpus
    → record_of cpu seats.cpu.cpus ≡ (last cpu).held
record_shown trace last seats held cpu less = record_is seats.cpu.cpus cpu (last cpu).held (held cpu less)

times_shown : (trace : Trace) (last : ℕ → Shown) (seats : Seats) (is : Event → Bool) → ((cpu : ℕ) → cpu < trace.cpus → HasCpu cpu (last cpu).held seats)
    → all_times trace.cpus is (λ cpu. deeds_of (record_of cpu seats.cpu.cpus)) ≡ all_times trace.cpus is (λ cpu. deeds_of (last cpu).held)
times_shown trace last seats is held =
    total_same trace.cpus (λ cpu. times is (record_of cpu seats.cpu.cpus).events) (λ cpu. times is (last cpu).held.events)
    (λ cpu less. ap (λ (r : CpuRecord). times is r.events) (record_shown trace last seats held cpu less))

pub cleaned_shown : (trace : Trace) (last : ℕ → Shown) (seats : Seats) → ((cpu : ℕ) → cpu < trace.cpus → HasCpu cpu (last cpu).held seats) → (page : ℕ)
    → IsCleanedIn trace seats page → IsCleaned trace last page
cleaned_shown trace last seats held page cleaned =
    let a = times_shown trace last seats (dirties page) held in
    let b = times_shown trace last seats (completes page) held in
    let c = times_shown trace last seats (absorbs page) held in
    omega arith

pub shown_cleaned : (trace : Trace) (last : ℕ → Shown) (seats : Seats) → ((cpu : ℕ) → cpu < trace.cpus → HasCpu cpu (last cpu).held seats) → (page : ℕ)
    → IsCleaned trace last page → IsCleanedIn trace seats page
shown_cleaned trace last seats held page cleaned =
    let a = times_shown trace last seats (dirties page) held in
    let b = times_shown trace last seats (completes page) held in
    let c = times_shown trace last seats (absorbs page) held in
    omega arith

-- ---- the turn

if_so : (b : Bool) (p q : ShownFlusher) → b ≡ true → (if b then p else q) ≡ p
if_so b p q e = ap (λ (x : Bool). if x then p else q) e

module _ {D : Type 0} {told : ℕ → Type 0} {said : ℕ → ℕ → Bool → Type 0} {written : D → Option ℕ} {faults : D → ℕ} {trace : Trace} {kit : Kit} {sides : List (CpuSide D)}
    {c at : ℕ} {answer : JobOutcome} {side side' : CpuSide D} {seats seats' : Seats} (t : TakesTurn told said written faults trace kit sides c at answer side side' seats seats') where
  abbrev h : HaveTold trace kit (teams_of written faults sides) (logs_of sides) seats
  h = t.standing.told_all

  abbrev team : Team
  team = team_of written faults side

  abbrev team' : Team
  team' = team_of written faults side'

  abbrev sides' : List (CpuSide D)
  sides' = set sides c side'

  abbrev number : ℕ
  number = (d t).plan.flusher

  pub in_sides : c < length sides
  in_sides = let many = t.standing.many in let less = t.cpu_there in omega arith

  -- what its CPU showed
  last_is : h.last (d t).plan.cpu ≡ shown_at trace c team seats
  last_is = ap h.last (mine t).cpu_is ∙ h.shows c team t.cpu_there ∙ ap (λ (x : Team). shown_at trace c x seats) (team_is t.standing c side t.cpu_there t.side_is)

  number_there : nat_lt number (length trace.flushers) ≡ true
  number_there = lt-ltb number (length trace.flushers)
      (slice_get_within trace.flushers number (record { device = (d t).plan.device; cpu = (d t).plan.cpu }) (mine t).its.plan_is.line)

  was_at : flusher_at (before t) number ≡ stand_at (d t)
  was_at = subst (λ (p : Seen). flusher_at (before t) p.plan.flusher ≡ stand_at p) (is_seen t) (flushers_own (before t) at (d t) (there t) (stands t).posted.apart)

  log_is : log_at (logs_of sides) (d t).plan.cpu ≡ side.log
  log_is = ap (λ (n : ℕ). log_at (logs_of sides) n) (mine t).cpu_is
      ∙ get_or-map (λ (s : CpuSide D). s.log) sides c side empty_log in_sides ∙ ap (λ (s : CpuSide D). s.log) t.side_is

  is_there : IsThere trace kit.published.moment kit (d t).plan (logs_of sides) h.last (old t)
  is_there = record {
    work = (mine t).its;
    cpu = subst (λ (n : ℕ). n < trace.cpus) (sym (mine t).cpu_is) t.cpu_there;
    moment = refl;
    shows = ap (λ (s : Shown). s.flushers number) last_is ∙ if_so (nat_lt number (length trace.flushers)) (flusher_at (before t) number) none_shown number_there ∙ was_at;
    logs_are = log_is;
  }

  goes_on : DrainGoesOn trace kit.published.moment kit h.first (λ domain. []) (logs_of sides) h.last h.notes (d t).plan (new t)
  goes_on = drain_goes_on trace kit.published.moment kit h.first (λ domain. []) (logs_of sides) h.last h.notes (d t).plan (drained t).moments (old t) (new t) h.together is_there (went t)
      (all_plain (drained t).moments number (added t) (drained t).none_estimated (noted t).turn.of_flusher (went t).did.moments)

  abbrev shown : Shown
  shown = shown_behind (d t).plan (logs_of sides) h.last h.notes (new t)

  abbrev last : (cpu : ℕ) → Shown
  last = put h.last (d t).plan.cpu shown

  -- ---- what is shown after it

  now_at : flusher_at (behind t) number ≡ stand_at (q t)
  now_at = subst (λ (p : Seen). flusher_at (behind t) p.plan.flusher ≡ stand_at (q t)) (is_seen t)
      (flushers_now (before t) at (d t) (q t) (there t) (same_plan t) (stands t).posted.apart)

  other_at : (flusher : ℕ) → flusher ≢ number → flusher_at (behind t) flusher ≡ flusher_at (before t) flusher
  other_at flusher ne = flushers_other (before t) at (d t) (q t) flusher (same_plan t) (subst (λ (p : Seen). flusher ≢ p.plan.flusher) (sym (is_seen t)) ne)

  abbrev flusher_there : (posts : List Seen) (flusher : ℕ) → ShownFlusher
  flusher_there posts flusher = if nat_lt flusher (length trace.flushers) then flusher_at posts flusher else none_shown

  abbrev flusher_shown : (flusher : ℕ) → ShownFlusher
  flusher_shown flusher = if flusher == number then shown_by (new t).work else (h.last (d t).plan.cpu).flushers flusher

  flusher_by_number : (flusher : ℕ) → flusher_shown flusher ≡ flusher_there (behind t) flusher
  flusher_by_number flusher = dite (ℕ_discrete flusher number)
      (λ same. chosen (flusher == number) (shown_by (new t).work) ((h.last (d t).plan.cpu).flushers flusher) (eq-eqb flusher number same)
      ∙ sym (ap (flusher_there (behind t)) same ∙ if_so (nat_lt number (length trace.flushers)) (flusher_at (behind t) number) none_shown number_there ∙ now_at))
      (λ ne. other (flusher == number) (shown_by (new t).work) ((h.last (d t).plan.cpu).flushers flusher) (ne_eqb flusher number ne)
      ∙ ap (λ (s : Shown). s.flushers flusher) last_is
      ∙ ap (λ (p : ShownFlusher). if nat_lt flusher (length trace.flushers) then p else none_shown) (sym (other_at flusher ne)))

  layout_same : seats.cpu.layout ≡ seats'.cpu.layout
  layout_same = sym (went t).did.apart.layout

  shown_is : shown ≡ shown_at trace c team' seats'
  shown_is =
      let side_same : (h.last (d t).plan.cpu).side ≡ side_of side'.writers.work.tasks = ap (λ (s : Shown). s.side) last_is ∙ ap (λ (desk : Desk). side_of desk.work.tasks) (sym t.turned.writers) in
      let written_same : (h.last (d t).plan.cpu).written ≡ written_of side'.writers.work.tasks
      = ap (λ (s : Shown). s.written) last_is ∙ ap (λ (desk : Desk). written_of desk.work.tasks) (sym t.turned.writers) in
      let firsts_same : (h.last (d t).plan.cpu).firsts ≡ (setting seats'.cpu.layout).firsts = ap (λ (s : Shown). s.firsts) last_is ∙ ap (λ (l : Layout). (setting l).firsts) layout_same in
      let flushers_same : flusher_shown ≡ flusher_there (posts_of written faults side'.posts.items)
      = fun_ext flusher_by_number ∙ ap flusher_there (sym (behind_is t)) in
      λ i. record { held = record_of ((mine t).cpu_is i) seats'.cpu.cpus; firsts = firsts_same i; side = side_same i; written = written_same i; flushers = flushers_same i }

  pub teams_are : teams_of written faults sides' ≡ set (teams_of written faults sides) c team'
  teams_are = map-set (λ (s : CpuSide D). team_of written faults s) sides c side'

  long_teams : length (teams_of written faults sides) ≡ length sides
  long_teams = long sides
    where
      long : (xs : List (CpuSide D)) → length (teams_of written faults xs) ≡ length xs
      long [] = refl
      long (x ∷ xs) = let rest = long xs in omega arith

  here_shows : (default : Team) → shown ≡ shown_at trace c (get_or (teams_of written faults sides') c default) seats'
  here_shows default = shown_is
      ∙ ap (λ (x : Team). shown_at trace c x seats')
      (sym (ap (λ (all : List Team). get_or all c default) teams_are
      ∙ get_or-set_same (teams_of written faults sides) c team' default (let e = long_teams in let less = in_sides in omega arith)))

  others_show : (cpu : ℕ) → cpu ≢ c → (default : Team) → cpu < trace.cpus → h.last cpu ≡ shown_at trace cpu (get_or (teams_of written faults sides') cpu default) seats'
  others_show cpu ne default less =
      let same : get_or (teams_of written faults sides') cpu default ≡ get_or (teams_of written faults sides) cpu default
      = ap (λ (all : List Team). get_or all cpu default) teams_are ∙ get_or-set_other (teams_of written faults sides) c cpu team' default ne in
      h.shows cpu default less
      ∙ ap (λ (r : CpuRecord). record (shown_at trace cpu (get_or (teams_of written faults sides) cpu default) seats) { held = r }) (sym (others_keep t cpu less ne).same)
      ∙ ap (λ (l : Layout). record (shown_at trace cpu (get_or (teams_of written faults sides) cpu default) seats') { firsts = (setting l).firsts }) layout_same
      ∙ ap (λ (x : Team). shown_at trace cpu x seats') (sym same)

  shows_now : (cpu : ℕ) (default : Team) → cpu < trace.cpus → last cpu ≡ shown_at trace cpu (get_or (teams_of written faults sides') cpu default) seats'
  shows_now cpu = put_each h.last (d t).plan.cpu shown
      (λ (n : ℕ) (s : Shown). (default : Team) → n < trace.cpus → s ≡ shown_at trace n (get_or (teams_of written faults sides') n default) seats')
      (λ default less. subst (λ (n : ℕ). shown ≡ shown_at trace n (get_or (teams_of written faults sides') n default) seats') (sym (mine t).cpu_is) (here_shows default))
      (λ n ne default less. others_show n (λ e. ne (e ∙ sym (mine t).cpu_is)) default less) cpu

  logs_now : set (logs_of sides) (d t).plan.cpu side'.log ≡ logs_of sides'
  logs_now = ap (λ (n : ℕ). set (logs_of sides) n side'.log) (mine t).cpu_is ∙ sym (map-set (λ (s : CpuSide D). s.log) sides c side')

  pub told_now : HaveTold trace kit (teams_of written faults sides') (logs_of sides') seats'
  told_now = record {
    first = h.first;
    last = last;
    notes = put h.notes (d t).plan.cpu goes_on.behind;
    shows = shows_now;
    together = subst (λ (logs : List CpuJournal). AreTogether trace kit.published.moment kit h.first (λ domain. []) logs last (put h.notes (d t).plan.cpu goes_on.behind) seats')
        logs_now goes_on.together;
  }

  pub cleaned_now : (page : ℕ) → IsCleanedIn trace seats page → IsCleanedIn trace seats' page
  unfolding told_now
  cleaned_now page cleaned = shown_cleaned trace last seats' told_now.together.cpus.held page
      (goes_on.cleaned page (cleaned_shown trace h.last seats h.together.cpus.held page cleaned))
