-- No count that a check prints is older than what its CPU had printed or folded before.
use Rattle.std.proofs.Common.{inl, inr, ◌≡◌, ℕ, zero, suc, ◌+◌, ◌<◌, ◌≤◌, true, List, [], ◌∷◌, ◌++◌, map, All, refl, sym, subst, arith}
use Rattle.wbt_replay_order.proofs.Common.{Trace, is_same, Counter, Fold, Reading, is_same-true, is_same-itself, IsSetting, Load, Version, fold_in, loads_in, is_fresh_count, CountsAreFresh, versions_after, Each, tells, OfPart, EachPart, Told, told, Along, parts_back, group_of, onto, all_rest, each_of_all, each_weaker, State, cpu_of, task_of, Cpu, ReplayTurn, AreAmong, readings_told, folds_told, FoldsBehind, IsFollowed, setting_of, most_moves, state_at, last_state, part_of, journal_of, Sound}
use Rattle.wbt_counter.specs.declared.counter.Counter.TheVariants as counter
use Rattle.wbt_grant.specs.Rule.{NewestFirst}
use Rattle.wbt_journal.specs.Lawful.{CountsStayFresh}
use Rattle.wbt_run_laws.specs.Grew.{reading_of}
use Rattle.wbt_run_laws.proofs.Lists.{all_front}
use Rattle.wbt_replay_order.specs.Claims.Path.{turn_loads}
use Rattle.wbt_replay_order.proofs.Growth.Afresh.{told_in, seen_in, FoldBehind, LoadBehind, all_behind}
use Rattle.wbt_replay_points.proofs.Claims.Counted.{rule_at}
use Rattle.wbt_replay_points.proofs.Claims.Named.{AllNamed, MayDecide, check_loads, named_at}
use Rattle.wbt_replay_points.proofs.Claims.Sums.{told_folds, told_loads, of_checks}
use Rattle.wbt_replay_order.proofs.Lists.Places.{among_all}

among_newest : (these those : List Reading) → AreAmong these those → NewestFirst those → NewestFirst these
among_newest [] those among newest = tt
among_newest (x ∷ these) [] among newest = absurd among
among_newest (x ∷ these) (y ∷ those) (inl here) newest = (
  subst (λ (r : Reading). All (λ (q : Reading). is_same q.counter r.counter ≡ true → q.version ≤ r.version) these) (sym here.0)
      (among_all (λ (q : Reading). is_same q.counter y.counter ≡ true → q.version ≤ y.version) these those here.1 newest.0),
  among_newest these those here.1 newest.1,
)
among_newest (x ∷ these) (y ∷ those) (inr behind) newest = among_newest (x ∷ these) those behind newest.1

-- ---- what a part has told is behind

turned : (x y : Counter) → is_same x y ≡ true → is_same y x ≡ true
turned x y same = subst (λ (z : Counter). is_same z x ≡ true) (is_same-true x y same) (is_same-itself x)

-- what holds of all folds that a part tells holds of those of each entry
each_fold : (P : Fold → Type 0) (es : List Told) (older : List Fold) → All P (onto fold_in es older) → Each (λ (e : Told). Each P (fold_in e)) es × All P older
each_fold P [] older all = (tt, all)
each_fold P (e ∷ es) older all =
    let rest = each_fold P es (fold_in e ++ older) all in
    ((each_of_all P (fold_in e) (all_front P (fold_in e) older rest.1), rest.0), all_rest P (fold_in e) older rest.1)

-- an earlier reading isn't ahead of this one
abbrev ReadBefore : (q r : Reading) → Type 0
ReadBefore q r = is_same r.counter q.counter ≡ true → r.version ≤ q.version

-- a load is no older than what the CPU has seen
load_fresh : (c : Cpu) (load : Load) → FoldsBehind (folds_told [] c.entries) (reading_of load) → All (ReadBefore (reading_of load)) (readings_told [] c.checks)
    → is_fresh_count (seen_in (told_in c.checks c.estimates c.entries)) load ≡ true
load_fresh c load folds readings =
    let x : Counter = load.counter in
    let version : ℕ = load.count.version in
    let made = (each_fold (FoldBehind x version) (told_in c.checks c.estimates c.entries) []
    (subst (All (FoldBehind x version)) (told_folds c.checks c.estimates [] c.entries) folds)).0 in
    let read = (of_checks (ReadBefore (reading_of load)) [] c.checks (each_of_all (ReadBefore (reading_of load)) (readings_told [] c.checks) readings)).0 in
    let loads = told_loads (λ (l : Load). ReadBefore (reading_of load) (reading_of l)) c.checks c.estimates c.entries read in
    all_behind x version (told_in c.checks c.estimates c.entries) [] refl made
    (each_weaker (λ (e : Told). Each (λ (l : Load). ReadBefore (reading_of load) (reading_of l)) (loads_in e)) (λ (e : Told). Each (LoadBehind x version) (loads_in e))
    (λ e each. each_weaker (λ (l : Load). ReadBefore (reading_of load) (reading_of l)) (LoadBehind x version) (λ l before same. before (turned x l.counter same)) (loads_in e) each)
    (told_in c.checks c.estimates c.entries) loads)

-- each of a turn's loads, by what is before it
loads_fresh : (c : Cpu) (group context : ℕ) (turn : ReplayTurn) → Each (FoldsBehind (folds_told [] c.entries)) (turn_loads context group turn)
    → NewestFirst (turn_loads context group turn ++ readings_told [] c.checks)
    → Each (λ (load : Load). is_fresh_count (seen_in (told_in c.checks c.estimates c.entries)) load ≡ true) (check_loads group context turn)
loads_fresh c zero context turn folds newest =
    let older : List Reading = readings_told [] c.checks in
    let all : Load = record { counter = counter.Domain 0; count = turn.global.count } in
    let own : Load = record { counter = counter.Context context; count = turn.context } in (
      load_fresh c all folds.1.0 newest.1.0,
      (load_fresh c own folds.0 (all_rest (ReadBefore (reading_of own)) (reading_of all ∷ []) older newest.0), tt),
    )
loads_fresh c (suc cgroup) context turn folds newest =
    let older : List Reading = readings_told [] c.checks in
    let all : Load = record { counter = counter.Domain 0; count = turn.global.count } in
    let group : Load = record { counter = counter.Domain (suc cgroup); count = turn.cgroup.count } in
    let own : Load = record { counter = counter.Context context; count = turn.context } in (
      load_fresh c all folds.1.1.0 newest.1.1.0,
      (
        load_fresh c group folds.1.0 (all_rest (ReadBefore (reading_of group)) (reading_of all ∷ []) older newest.1.0),
        (load_fresh c own folds.0 (all_rest (ReadBefore (reading_of own)) (reading_of group ∷ reading_of all ∷ []) older newest.0), tt),
      ),
    )

-- ---- at each moment

pub may_decide : (trace : Trace) → IsSetting (setting_of trace) → IsFollowed trace → ((moves : ℕ) → Sound trace (state_at trace moves)) → (moves : ℕ)
    → MayDecide trace (state_at trace moves).cpus (state_at trace moves).tasks
may_decide trace ok followed sound moves cpu task rest there next of =
    let s : State = state_at trace moves in
    let less : cpu < trace.cpus = omega (arith, there, (sound moves).holds.cpus.many) in
    let k : ℕ = (task_of task s).context in
    let shows = (followed.made moves).1.shows in
    let turn : ReplayTurn = (cpu_of cpu s).turn in
    let folds = each_of_all (FoldsBehind (folds_told [] (cpu_of cpu s).entries)) (turn_loads k (group_of trace k) turn) (shows.behind cpu task rest less of next) in
    let newest = among_newest _ _ (shows.loaded cpu task rest less of next) ((rule_at trace ok followed moves).readings cpu).newest_first in
    loads_fresh (cpu_of cpu s) (group_of trace k) k turn folds newest

-- ---- the journal

by_cpu : (cpu : ℕ) (seen : List Version) (es : List Told) → Along CountsAreFresh versions_after seen (map (tells 0) es) → Along CountsAreFresh versions_after seen (map (tells cpu) es)
by_cpu cpu seen [] h = tt
by_cpu cpu seen (e ∷ es) h = (h.0, by_cpu cpu (versions_after seen (tells cpu e)) es h.1)

parts_fresh : (cpus : List Cpu) (cpu : ℕ) → AllNamed cpus → EachPart (OfPart CountsAreFresh versions_after []) cpu (map told (map part_of cpus))
parts_fresh [] cpu all = tt
parts_fresh (c ∷ cpus) cpu all = (by_cpu cpu [] (told (part_of c)) (all 0).1, parts_fresh cpus (cpu + 1) (λ i. all (suc i)))

pub counts_stay : (trace : Trace) → IsSetting (setting_of trace) → IsFollowed trace → ((moves : ℕ) → Sound trace (state_at trace moves)) → CountsStayFresh (journal_of trace)
unfolding journal_of
counts_stay trace ok followed sound =
    let cpus : List Cpu = (last_state trace).cpus in
    parts_back CountsAreFresh versions_after [] (λ seen cpu. refl) (λ seen cpu. tt) [] 0 (map told (map part_of cpus))
    (parts_fresh cpus 0 (named_at trace (may_decide trace ok followed sound) most_moves))
