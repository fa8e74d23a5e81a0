-- Each count that a check prints is the sum of the folds of its counter, as the journal tells them, up to its version.
use Rattle.std.proofs.Common.{◌≡◌, ℕ, zero, suc, ◌+◌, ◌<◌, true, List, [], ◌∷◌, ◌++◌, length, map, flat_map, get_or, take, Option, Some, None, IfSome, sym, refl, ap, ◌∙◌, subst, arith}
use Rattle.std.proofs.lemmas.Bool.{lt-ltb}
use Rattle.std.proofs.lemmas.List.{length-map}
use Rattle.wbt_replay_order.proofs.Common.{Trace, Count, Fold, Reading, IsSetting, always_holds, Load, fold_in, loads_in, loads_of, of_part, effect, read_loads, cgroup_reads, Each, tells, items_from, Told, told_entry, told, CheckEntry, DomainLine, Entry, EstEntry, group_of, onto, each_weaker, each_both, each_of_all, joined, told_is, each_cpu, each_item, global_line, cgroup_line, State, no_cpu, cpu_of, Cpu, ReplayTurn, IsDecided, EachFrom, AreDecided, folds_told, readings_with, readings_told, IsFollowed, setting_of, most_moves, part_of, last_state, journal_of, Facts}
use Rattle.wbt_counter.specs.declared.counter.Counter.TheVariants as counter
use Rattle.wbt_grant.specs.Laws.{RecordsTell}
use Rattle.wbt_grant.specs.SeatLaws.{IsRecordedSum}
use Rattle.wbt_grant.specs.State as throttle
use Rattle.wbt_grant.proofs.Seats.{readings_are_sums}
use Rattle.wbt_journal.specs.Counts.{folds_in, IsSum, CountsAreSums}
use Rattle.wbt_journal.specs.Lawful.{CountsSumFolds}
use Rattle.wbt_journal.specs.Machine as machine
use Rattle.wbt_run_laws.specs.Grew.{reading_of}
use Rattle.wbt_run_laws.proofs.Folding.{many_folds, sums_are}
use Rattle.wbt_replay_order.specs.Claims.Path.{line_readings}
use Rattle.wbt_replay_points.proofs.Claims.Alone.{told_alone}
use Rattle.wbt_replay_points.proofs.Claims.Counted.{state_of, rule_at}
use Rattle.wbt_replay_points.proofs.Lawful.Told.{OfCheck, told_checks}
use Rattle.wbt_replay_order.proofs.Lists.Places.{among_all}

-- ---- what a part tells

-- its folds, by its entries and by what they tell
pub told_folds : (checks : List CheckEntry) (ests : List EstEntry) (older : List Fold) (entries : List Entry)
    → folds_told older entries ≡ onto fold_in (flat_map (told_entry checks ests) entries) older
told_folds checks ests older entries = told_alone fold_in (λ check. refl) (λ est. refl) checks ests older entries

-- what holds of the loads of each check holds of those of each entry
pub told_loads : (P : Load → Type 0) (checks : List CheckEntry) (ests : List EstEntry) (entries : List Entry) → Each (λ (check : CheckEntry). Each P (loads_of check)) checks
    → Each (λ (e : Told). Each P (loads_in e)) (flat_map (told_entry checks ests) entries)
told_loads P checks ests entries each =
    each_weaker (OfCheck (λ (check : CheckEntry). Each P (loads_of check))) (λ (e : Told). Each P (loads_in e)) (λ e has. of_loads (effect e).check has)
    (flat_map (told_entry checks ests) entries) (told_checks (λ (check : CheckEntry). Each P (loads_of check)) checks ests entries each)
  where
    of_loads : (which : Option CheckEntry) → IfSome which (λ (check : CheckEntry). Each P (loads_of check)) → Each P (of_part [] loads_of which)
    of_loads None has = tt
    of_loads (Some check) has = has

-- ---- what holds of all readings holds of each check's loads

module _ (P : Reading → Type 0) where
  abbrev pub IsLoad : (load : Load) → Type 0
  IsLoad load = P (reading_of load)

  of_check : (check : CheckEntry) (older : List Reading) → Each P (readings_with check older) → Each IsLoad (loads_of check) × Each P older
  of_check check older = by_group check.cgroup
    where
      by_group : (group : Option DomainLine)
          → Each P (record { counter = counter.Context check.context; version = check.count.version; value = check.count.value } ∷ line_readings group ++ line_readings (Some check.global) ++ older)
          → Each IsLoad (read_loads (check.global ∷ cgroup_reads group) ++ record { counter = counter.Context check.context; count = check.count } ∷ []) × Each P older
      by_group None each = ((each.1.0, (each.0, tt)), each.1.1)
      by_group (Some line) each = ((each.1.1.0, (each.1.0, (each.0, tt))), each.1.1.1)

  pub of_checks : (older : List Reading) (checks : List CheckEntry) → Each P (readings_told older checks) → Each (λ (check : CheckEntry). Each IsLoad (loads_of check)) checks × Each P older
  of_checks older [] each = (tt, each)
  of_checks older (check ∷ checks) each =
      let rest = of_checks (readings_with check older) checks each in
      let one = of_check check older rest.1 in ((one.0, rest.0), one.1)

-- ---- the counters of a check are there

abbrev pub IsNamed : (trace : Trace) (load : Load) → Type 0
IsNamed trace load = machine.has_counter trace load.counter ≡ true

named_in : (trace : Trace) (group context : ℕ) (turn : ReplayTurn) (s : State) (count : Count) → group < machine.domains trace → context < length trace.contexts
    → Each (IsNamed trace) (read_loads (global_line context turn s ∷ cgroup_reads (cgroup_line group context turn s)) ++ record { counter = counter.Context context; count = count } ∷ [])
named_in trace zero context turn s count inside there = (lt-ltb 0 (machine.domains trace) inside, (lt-ltb context (length trace.contexts) there, tt))
named_in trace (suc cgroup) context turn s count inside there =
    let first : 0 < machine.domains trace = omega (arith, inside) in
    (lt-ltb 0 (machine.domains trace) first, (lt-ltb (suc cgroup) (machine.domains trace) inside, (lt-ltb context (length trace.contexts) there, tt)))

named_check : (trace : Trace) → Facts trace → (s : State) (cpu place : ℕ) (check : CheckEntry) → IsDecided trace s cpu place check → Each (IsNamed trace) (loads_of check)
named_check trace facts s cpu place check h =
    let group : group_of trace check.context < machine.domains trace = omega (arith, facts.context_group check.context h.context) in
    subst (λ (c : CheckEntry). Each (IsNamed trace) (loads_of c)) (sym h.asked.printed) (named_in trace (group_of trace check.context) check.context _ _ _ group h.context)

pub named_from : (trace : Trace) → Facts trace → (s : State) (cpu place : ℕ) (checks : List CheckEntry) → EachFrom (IsDecided trace s cpu) place checks
    → Each (λ (check : CheckEntry). Each (IsNamed trace) (loads_of check)) checks
named_from trace facts s cpu place [] all = tt
named_from trace facts s cpu place (check ∷ checks) all = (named_check trace facts s cpu place check all.0, named_from trace facts s cpu (place + 1) checks all.1)

-- ---- the journal

pub part_at : (cpus : List Cpu) (c : ℕ) → c < length cpus → get_or (map told (map part_of cpus)) c [] ≡ told (part_of (get_or cpus c no_cpu))
part_at [] c less = absurd (omega (arith, less))
part_at (cpu ∷ cpus) zero less = refl
part_at (cpu ∷ cpus) (suc c) less = part_at cpus c (omega (arith, less))

pub cpus_are : (trace : Trace) → (setting_of trace).cpus ≡ trace.cpus
unfolding setting_of
cpus_are trace = refl

module _ (trace : Trace) (facts : Facts trace) (ok : IsSetting (setting_of trace)) (followed : IsFollowed trace) (decided : AreDecided trace)
    (seats : length (last_state trace).cpus ≡ trace.cpus) where
  abbrev s : State
  s = last_state trace

  abbrev t : throttle.State
  t = state_of trace followed most_moves

  abbrev pub parts : List (List Told)
  parts = map told (map part_of s.cpus)

  pub tell : RecordsTell (setting_of trace) t
  tell = let made = followed.made most_moves in (always_holds (setting_of trace) (take made.0 followed.steps) ok made.1.allowed).records_tell

  pub many : length parts ≡ (setting_of trace).cpus
  many = length-map (map part_of s.cpus) told ∙ length-map s.cpus part_of ∙ seats ∙ sym (cpus_are trace)

  pub inside : (c : ℕ) → c < (setting_of trace).cpus → c < trace.cpus
  inside c less = subst (λ (n : ℕ). c < n) (cpus_are trace) less

  pub folds_are : (c : ℕ) → c < (setting_of trace).cpus → (t.cpu c).folds ≡ onto fold_in (get_or parts c []) []
  folds_are c less =
      let cpu : Cpu = cpu_of c s in
      let here : c < length s.cpus = omega (arith, inside c less, seats) in
      (followed.made most_moves).1.shows.folds c (inside c less) ∙ told_folds cpu.checks cpu.estimates [] cpu.entries ∙ ap (λ (l : List Told). onto fold_in l []) (sym (part_at s.cpus c here))

  abbrev all : List Fold
  all = folds_in (joined parts)

  abbrev IsSumOf : (q : Reading) → Type 0
  IsSumOf q = IsRecordedSum (setting_of trace) t.cpu q

  sum_is : (load : Load) → IsSumOf (reading_of load) × IsNamed trace load → IsSum trace all load
  sum_is load is = record {
    named = is.1;
    within = let bound = is.0.version in let folds = many_folds (setting_of trace) t tell (rule_at trace ok followed most_moves) parts many folds_are load.counter in omega (arith, bound, folds);
    sum = is.0.value ∙ sums_are (setting_of trace) t tell (rule_at trace ok followed most_moves) parts many folds_are load.counter load.count.version;
  }

  checks_sum : (c : ℕ) → c < trace.cpus → Each (λ (check : CheckEntry). Each (IsSum trace all) (loads_of check)) (cpu_of c s).checks
  checks_sum c less =
      let checks : List CheckEntry = (cpu_of c s).checks in
      let readings = among_all IsSumOf (readings_told [] checks) (t.cpu c).readings ((followed.made most_moves).1.shows.readings c less) ((readings_are_sums (setting_of trace) t (rule_at trace ok followed most_moves)).0 c) in
      let sums = (of_checks IsSumOf [] checks (each_of_all IsSumOf (readings_told [] checks) readings)).0 in
      let named = named_from trace facts s c 0 checks (decided c less) in
      each_weaker (λ (check : CheckEntry). Each (λ (load : Load). IsSumOf (reading_of load)) (loads_of check) × Each (IsNamed trace) (loads_of check)) (λ (check : CheckEntry). Each (IsSum trace all) (loads_of check))
      (λ check both. each_weaker (λ (load : Load). IsSumOf (reading_of load) × IsNamed trace load) (IsSum trace all) sum_is (loads_of check)
      (each_both (λ (load : Load). IsSumOf (reading_of load)) (IsNamed trace) (loads_of check) both.0 both.1))
      checks (each_both (λ (check : CheckEntry). Each (λ (load : Load). IsSumOf (reading_of load)) (loads_of check)) (λ (check : CheckEntry). Each (IsNamed trace) (loads_of check)) checks sums named)

  pub counts_sum : CountsSumFolds trace (journal_of trace)
  unfolding journal_of
  counts_sum =
      subst (λ (es : List Told). Each (CountsAreSums trace (folds_in es)) (items_from 0 parts)) (sym (told_is (map part_of s.cpus)))
      (each_item (CountsAreSums trace all) (λ c. tt) 0 parts
      (each_cpu (λ c part. Each (λ (e : Told). CountsAreSums trace all (tells c e)) part) parts (λ c less.
      let low : c < trace.cpus = inside c (subst (λ (n : ℕ). c < n) many less) in
      let cpu : Cpu = cpu_of c s in
      subst (λ (part : List Told). Each (λ (e : Told). CountsAreSums trace all (tells c e)) part) (sym (part_at s.cpus c (omega (arith, low, seats))))
      (told_loads (IsSum trace all) cpu.checks cpu.estimates cpu.entries (checks_sum c low)))))
