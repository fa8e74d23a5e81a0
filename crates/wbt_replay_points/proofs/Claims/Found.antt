-- Each page that a write found dirty was dirtied by a write that the journal tells.
use Rattle.std.proofs.Common.{◌≡◌, ℕ, ◌+◌, ◌<◌, ◌≤◌, Bool, false, cond, List, [], ◌∷◌, ◌++◌, length, map, flat_map, get_or, take, All, Option, Some, None, sum_by, count_by, sym, refl, ap, ◌∙◌, subst, arith}
use Rattle.std.proofs.lemmas.List.{length-map}
use Rattle.std.proofs.lemmas.List.Elements.{All-weaker}
use Rattle.std.proofs.lemmas.List.Sums.{sum_by-cons, sum_by-append}
use Rattle.wbt_replay_order.proofs.Common.{Trace, one_if, total_same, dirties, times, all_times, Event, Dirty, Claim, Complete, IsSetting, deeds_of, always_holds, Each, event_of, of_part, FoundWereDirtied, Told, told_entry, told, CheckEntry, Entry, EstEntry, event_in, onto, eqb_turned, all_rest, each_of_all, each_weaker, each_joined, joined, told_is, State, cpu_of, Cpu, events_told, founds_told, IsFollowed, setting_of, most_moves, part_of, last_state, journal_of}
use Rattle.wbt_book.specs.declared.event.Event.TheVariants.{Redirty, Absorb}
use Rattle.wbt_grant.specs.Laws.{Holds}
use Rattle.wbt_grant.specs.Rule as was
use Rattle.wbt_grant.specs.State as throttle
use Rattle.wbt_journal.specs.Effects.{found_of, listed}
use Rattle.wbt_journal.specs.Leaves as leaves
use Rattle.wbt_journal.specs.Leaves.{WasDirtied}
use Rattle.wbt_run_laws.specs.Grew.{found_in}
use Rattle.wbt_run_laws.proofs.Effects.{if_listed}
use Rattle.wbt_run_laws.proofs.Lists.{all_front}
use Rattle.wbt_run_laws.proofs.Parts.{records_sum}
use Rattle.wbt_replay_points.proofs.Claims.Alone.{told_alone}
use Rattle.wbt_replay_points.proofs.Claims.Counted.{state_of}
use Rattle.wbt_replay_points.proofs.Claims.Sums.{part_at, cpus_are}

-- ---- what a part tells, by its entries and by what they tell

pub told_events : (checks : List CheckEntry) (ests : List EstEntry) (older : List Event) (entries : List Entry)
    → events_told older entries ≡ onto event_in (flat_map (told_entry checks ests) entries) older
told_events checks ests older entries = told_alone event_in (λ check. refl) (λ est. refl) checks ests older entries

told_founds : (checks : List CheckEntry) (ests : List EstEntry) (older : List ℕ) (entries : List Entry)
    → founds_told older entries ≡ onto found_in (flat_map (told_entry checks ests) entries) older
told_founds checks ests older entries = told_alone found_in (λ check. refl) (λ est. refl) checks ests older entries

-- ---- dirtyings, by entries and by events

abbrev one_for : (page : ℕ) (event : Event) → ℕ
one_for page event = cond (dirties page event) 1 0

times_is : (page : ℕ) (events : List Event) → times (dirties page) events ≡ sum_by (one_for page) events
times_is page [] = refl
times_is page (event ∷ older) = let rest = times_is page older in let counted = sum_by-cons (one_for page) event older in omega (arith, rest, counted)

one_same : (a b : Bool) → a ≡ b → one_if a ≡ 0 + one_if b
one_same a b is = let same = ap one_if is in omega (arith, same)

same_test : (page : ℕ) (event : Event) → leaves.is_dirtying page event ≡ dirties page event
same_test page (Dirty of) = eqb_turned of page
same_test page (Claim of) = refl
same_test page (Complete of) = refl
same_test page (Redirty of) = refl
same_test page (Absorb of) = refl

of_event : (page : ℕ) (part : Option Event) → cond (of_part false (leaves.is_dirtying page) part) 1 0 ≡ sum_by (one_for page) (listed part)
of_event page None = refl
of_event page (Some event) = one_same (leaves.is_dirtying page event) (dirties page event) (same_test page event)

entries_are : (page : ℕ) (es : List Told) → count_by (leaves.dirties page) es ≡ sum_by (one_for page) (flat_map event_in es)
entries_are page [] = refl
entries_are page (e ∷ es) =
    let rest = entries_are page es in
    let first = of_event page (event_of e) in
    let counted = sum_by-cons (λ (x : Told). cond (leaves.dirties page x) 1 0) e es in
    let both = sum_by-append (one_for page) (event_in e) (flat_map event_in es) in omega (arith, rest, first, counted, both)

-- what holds of all that entries tell holds of what each tells
each_told : (P : ℕ → Type 0) (es : List Told) (older : List ℕ) → All P (onto found_in es older) → Each (λ (e : Told). Each P (found_in e)) es × All P older
each_told P [] older all = (tt, all)
each_told P (e ∷ es) older all =
    let rest = each_told P es (found_in e ++ older) all in
    ((each_of_all P (found_in e) (all_front P (found_in e) older rest.1), rest.0), all_rest P (found_in e) older rest.1)

-- ---- the journal

module _ (trace : Trace) (ok : IsSetting (setting_of trace)) (followed : IsFollowed trace) (seats : length (last_state trace).cpus ≡ trace.cpus) where
  abbrev s : State
  s = last_state trace

  abbrev t : throttle.State
  t = state_of trace followed most_moves

  abbrev parts : List (List Told)
  parts = map told (map part_of s.cpus)

  holds : Holds (setting_of trace) t
  holds = let made = followed.made most_moves in always_holds (setting_of trace) (take made.0 followed.steps) ok made.1.allowed

  many : length parts ≡ (setting_of trace).cpus
  many = length-map (map part_of s.cpus) told ∙ length-map s.cpus part_of ∙ seats ∙ sym (cpus_are trace)

  inside : (c : ℕ) → c < (setting_of trace).cpus → c < trace.cpus
  inside c less = subst (λ (n : ℕ). c < n) (cpus_are trace) less

  its_part : (c : ℕ) → c < trace.cpus → get_or parts c [] ≡ told (part_of (cpu_of c s))
  its_part c less = part_at s.cpus c (omega (arith, less, seats))

  events_are : (c : ℕ) → c < (setting_of trace).cpus → (t.cpu c).events ≡ onto event_in (get_or parts c []) []
  events_are c less =
      let cpu : Cpu = cpu_of c s in
      (followed.made most_moves).1.shows.events c (inside c less) ∙ told_events cpu.checks cpu.estimates [] cpu.entries
      ∙ ap (λ (l : List Told). onto event_in l []) (sym (its_part c (inside c less)))

  founds_are : (c : ℕ) → c < trace.cpus → (t.cpu c).found_dirty ≡ onto found_in (get_or parts c []) []
  founds_are c less =
      let cpu : Cpu = cpu_of c s in
      (followed.made most_moves).1.shows.founds c less ∙ told_founds cpu.checks cpu.estimates [] cpu.entries
      ∙ ap (λ (l : List Told). onto found_in l []) (sym (its_part c less))

  dirtied : (page : ℕ) → count_by (leaves.dirties page) (joined parts) ≡ all_times (setting_of trace).cpus (dirties page) (λ c. deeds_of (t.cpu c))
  dirtied page =
      entries_are page (joined parts)
      ∙ records_sum event_in (one_for page) (setting_of trace).cpus parts (λ c. (t.cpu c).events) many events_are
      ∙ total_same (setting_of trace).cpus (λ c. sum_by (one_for page) (t.cpu c).events) (λ c. times (dirties page) (t.cpu c).events) (λ c less. sym (times_is page (t.cpu c).events))

  abbrev WasTold : (page : ℕ) → Type 0
  WasTold page = 1 ≤ count_by (leaves.dirties page) (joined parts)

  part_found : (c : ℕ) → c < trace.cpus → Each (WasDirtied (joined parts)) (get_or parts c [])
  part_found c less =
      let held : All WasTold (t.cpu c).found_dirty = All-weaker (was.WasDirtied (setting_of trace) t.cpu) WasTold
      (λ page was_dirtied. let count = dirtied page in omega (arith, count, was_dirtied)) (t.cpu c).found_dirty (holds.found_dirtied c) in
      each_weaker (λ (e : Told). Each WasTold (found_in e)) (WasDirtied (joined parts)) (λ e each. if_listed WasTold (found_of e) each) (get_or parts c [])
      (each_told WasTold (get_or parts c []) [] (subst (All WasTold) (founds_are c less) held)).0

  pub found_were_dirtied : FoundWereDirtied (journal_of trace)
  unfolding journal_of
  found_were_dirtied =
      subst (λ (es : List Told). Each (WasDirtied es) es) (sym (told_is (map part_of s.cpus)))
      (each_joined (WasDirtied (joined parts)) parts (λ c less. part_found c (inside c (subst (λ (n : ℕ). c < n) many less))))
