-- What a machine that has forgotten keeps is what was told since.
use Rattle.std.proofs.Common.{◌≡◌, ℕ, suc, ◌+◌, ◌≤◌, Bool, cond, List, [], ◌∷◌, ◌++◌, length, map, drop, get_or, refl, ◌∙◌, ap, arith, length-append, length-drop}
use Rattle.std.specs.List.{sum_by, count_by}
use Rattle.std.proofs.lemmas.List.{length-map}
use Rattle.std.proofs.lemmas.List.Sums.{sum_by-cons, count_by-le-length}
use Rattle.wbt_replay_order.proofs.Common.{Trace, is_fresh, is_done, Entry, State, no_cpu, Cpu, part_of}
use Rattle.wbt_journal.specs.declared.entry.Entry.TheVariants as entry
use Rattle.wbt_forecast_rows.specs.Between.{IsAfter, HasGrown, HaveGrown, all_gained, checks_between, checks_of, entries_between, entries_of, gained, steps_between}
use Rattle.wbt_forecast_rows.specs.Counts.{is_dirtied_in, is_written_in, is_write_by}
use Rattle.wbt_forecast_rows.specs.Small.{AreSmallTotals}
use Rattle.wbt_forecast_rows.specs.Forecast.{totals_of}
use Rattle.wbt_forecast_rows.specs.Tally.{Tallies, after_all, after_checks, after_entries, after_steps, by_number, context_after, task_after_entries, totals_after}
use Rattle.wbt_forecast_rows.specs.declared.forecast.Totals.{Totals}
use Rattle.wbt_forecast_rows.proofs.Counting.{count_by-append, count_by-cons, same_context, same_task}
use Rattle.wbt_forecast_rows.proofs.Numbered.{same_by_number}
use Rattle.wbt_replay_cut.specs.Cut.{Told, all_of, cut, cut_cpu, cut_cpus, of_others, renamed, IsWithin}
use Rattle.wbt_replay_cut.proofs.Whole.{others_stand}
use Rattle.wbt_forecast.specs.Kept.{all_checks, all_entries, counted_in, told_by, told_in, told_since}

-- ---- entries

-- a test of entries that doesn't look at the places that they name
abbrev pub IsBlind : (p : Entry → Bool) → Type 0
IsBlind p = (checks estimates : ℕ) (e : Entry) → p (renamed checks estimates e) ≡ p e

blind_dirtied : (trace : Trace) (context : ℕ) → IsBlind (is_dirtied_in trace context)
blind_dirtied trace context checks estimates (entry.Check place) = refl
blind_dirtied trace context checks estimates (entry.Est place) = refl
blind_dirtied trace context checks estimates other = refl

blind_written : (trace : Trace) (context : ℕ) → IsBlind (is_written_in trace context)
blind_written trace context checks estimates (entry.Check place) = refl
blind_written trace context checks estimates (entry.Est place) = refl
blind_written trace context checks estimates other = refl

blind_write : (task : ℕ) → IsBlind (is_write_by task)
blind_write task checks estimates (entry.Check place) = refl
blind_write task checks estimates (entry.Est place) = refl
blind_write task checks estimates other = refl

blind_fresh : IsBlind is_fresh
blind_fresh checks estimates (entry.Check place) = refl
blind_fresh checks estimates (entry.Est place) = refl
blind_fresh checks estimates other = refl

blind_done : IsBlind is_done
blind_done checks estimates (entry.Check place) = refl
blind_done checks estimates (entry.Est place) = refl
blind_done checks estimates other = refl

count_renamed : (p : Entry → Bool) → IsBlind p → (checks estimates : ℕ) (xs : List Entry) → count_by p (map (renamed checks estimates) xs) ≡ count_by p xs
count_renamed p blind checks estimates [] = refl
count_renamed p blind checks estimates (x ∷ xs) =
    let rest = count_renamed p blind checks estimates xs in
    let here : ◌≡◌ {A = ℕ} (cond (p (renamed checks estimates x)) 1 0) (cond (p x) 1 0) = ap (λ (b : Bool). cond b 1 0) (blind checks estimates x) in
    omega (arith, rest, here, count_by-cons p x xs, count_by-cons p (renamed checks estimates x) (map (renamed checks estimates) xs))

-- so much is cut of each CPU's lists as these CPUs have
pub record CutsAll (told : Told) (ms : List Cpu) : Type 0 where
  pub entries : (i : ℕ) → told.entries i ≡ length (get_or ms i no_cpu).entries
  pub checks : (i : ℕ) → told.checks i ≡ length (get_or ms i no_cpu).checks

cuts_others : (told : Told) (m : Cpu) (ms : List Cpu) → CutsAll told (m ∷ ms) → CutsAll (of_others told) ms
cuts_others told m ms h = record { entries = λ i. h.entries (suc i); checks = λ i. h.checks (suc i) }

cuts_state : (s : State) → CutsAll (all_of s) s.cpus
cuts_state s = record { entries = λ i. refl; checks = λ i. refl }

-- a test finds as many entries as were told since
kept_entries : (p : Entry → Bool) → IsBlind p → (told : Told) (ms cs : List Cpu) → CutsAll told ms → HaveGrown (entries_of ms) (entries_of cs)
    → count_by p (all_entries (cut_cpus told cs)) ≡ count_by p (all_gained (entries_of ms) (entries_of cs))
kept_entries p blind told [] [] all grown = refl
kept_entries p blind told [] (c ∷ cs) all grown = absurd grown
kept_entries p blind told (m ∷ ms) [] all grown = refl
kept_entries p blind told (m ∷ ms) (c ∷ cs) all grown =
    let rest = kept_entries p blind (of_others told) ms cs (cuts_others told m ms all) grown.1 in
    let here : count_by p (cut_cpu told 0 c).entries ≡ count_by p (gained m.entries c.entries) =
    count_renamed p blind (told.checks 0) (told.estimates 0) (drop (told.entries 0) c.entries)
    ∙ ap (λ (n : ℕ). count_by p (drop n c.entries)) (all.entries 0) in
    omega (
      arith,
      rest,
      here,
      count_by-append p (cut_cpu told 0 c).entries (all_entries (cut_cpus (of_others told) cs)),
      count_by-append p (gained m.entries c.entries) (all_gained (entries_of ms) (entries_of cs)),
    )

-- ---- checks

kept_checks : (told : Told) (ms cs : List Cpu) → CutsAll told ms → HaveGrown (checks_of ms) (checks_of cs)
    → all_checks (cut_cpus told cs) ≡ all_gained (checks_of ms) (checks_of cs)
kept_checks told [] [] all grown = refl
kept_checks told [] (c ∷ cs) all grown = absurd grown
kept_checks told (m ∷ ms) [] all grown = refl
kept_checks told (m ∷ ms) (c ∷ cs) all grown =
    ap (λ (n : ℕ). drop n c.checks ++ all_checks (cut_cpus (of_others told) cs)) (all.checks 0)
    ∙ ap (λ l. gained m.checks c.checks ++ l) (kept_checks (of_others told) ms cs (cuts_others told m ms all) grown.1)

-- ---- how much

grown_length : {A : Type 0} (xs ys : List A) → HasGrown xs ys → length xs ≤ length ys
grown_length xs ys grown = let long = ap length grown in omega (arith, long, length-append xs (gained xs ys))

kept_told : (told : Told) (ms cs : List Cpu) → CutsAll told ms → HaveGrown (entries_of ms) (entries_of cs) → HaveGrown (checks_of ms) (checks_of cs)
    → sum_by told_by ms + sum_by told_by (cut_cpus told cs) ≡ sum_by told_by cs
kept_told told [] [] all entries checks = refl
kept_told told [] (c ∷ cs) all entries checks = absurd entries
kept_told told (m ∷ ms) [] all entries checks = absurd entries
kept_told told (m ∷ ms) (c ∷ cs) all entries checks =
    let rest = kept_told (of_others told) ms cs (cuts_others told m ms all) entries.1 checks.1 in
    let cut_entries = length-map (drop (told.entries 0) c.entries) (renamed (told.checks 0) (told.estimates 0)) in
    omega (
      arith,
      rest,
      cut_entries,
      all.entries 0,
      all.checks 0,
      length-drop (told.entries 0) c.entries,
      length-drop (told.checks 0) c.checks,
      grown_length m.entries c.entries entries.0,
      grown_length m.checks c.checks checks.0,
      sum_by-cons told_by m ms,
      sum_by-cons told_by c cs,
      sum_by-cons told_by (cut_cpu told 0 c) (cut_cpus (of_others told) cs),
    )

module _ (mid last : State) (since : IsAfter mid last) (within : IsWithin (all_of mid) last) where
  pub cut_steps_are : drop (length mid.steps) (cut (all_of mid) last).steps ≡ steps_between mid last
  cut_steps_are = (others_stand (all_of mid) last within).steps

  pub many_steps : length (cut (all_of mid) last).steps ≡ length last.steps
  many_steps = (others_stand (all_of mid) last within).many_steps

  pub steps_grow : length mid.steps ≤ length last.steps
  steps_grow = grown_length mid.steps last.steps since.steps

  pub cut_checks_are : all_checks (cut (all_of mid) last).cpus ≡ checks_between mid last
  cut_checks_are = kept_checks (all_of mid) mid.cpus last.cpus (cuts_state mid) since.checks

  pub cut_count : (p : Entry → Bool) → IsBlind p → count_by p (all_entries (cut (all_of mid) last).cpus) ≡ count_by p (entries_between mid last)
  cut_count p blind = kept_entries p blind (all_of mid) mid.cpus last.cpus (cuts_state mid) since.entries

  -- as much was told up to the last state as up to the one in the middle, and since
  pub told_more : told_in mid + told_since (length mid.steps) (cut (all_of mid) last) ≡ told_in last
  told_more =
      let kept = kept_told (all_of mid) mid.cpus last.cpus (cuts_state mid) since.entries since.checks in
      omega (arith, kept, many_steps, steps_grow)

  -- the machine has told no more
  pub told_less : told_in (cut (all_of mid) last) ≤ told_in last
  told_less =
      let kept = kept_told (all_of mid) mid.cpus last.cpus (cuts_state mid) since.entries since.checks in
      omega (arith, kept, many_steps)

  -- ---- what is counted in

  entries_in : (trace : Trace) (t : Tallies) → after_entries trace (all_entries (cut (all_of mid) last).cpus) t ≡ after_entries trace (entries_between mid last) t
  entries_in trace t =
      ap (λ l. record t { contexts = l; tasks = by_number (task_after_entries (all_entries (cut (all_of mid) last).cpus)) 0 t.tasks })
      (same_by_number (context_after trace (all_entries (cut (all_of mid) last).cpus)) (context_after trace (entries_between mid last)) 0 t.contexts
      (λ k x. same_context _ _
      (omega (arith, cut_count (is_dirtied_in trace k) (blind_dirtied trace k)))
      (omega (arith, cut_count (is_written_in trace k) (blind_written trace k)))))
      ∙ ap (λ l. record t { contexts = by_number (context_after trace (entries_between mid last)) 0 t.contexts; tasks = l })
      (same_by_number (task_after_entries (all_entries (cut (all_of mid) last).cpus)) (task_after_entries (entries_between mid last)) 0 t.tasks
      (λ k x. same_task _ _ (omega (arith, cut_count (is_write_by k) (blind_write k))) refl refl refl refl))

  pub counted_is : (trace : Trace) (t : Tallies) → counted_in trace (length mid.steps) (cut (all_of mid) last) t ≡ after_all trace mid last t
  counted_is trace t =
      ap (λ l. after_checks (all_checks (cut (all_of mid) last).cpus) (after_entries trace (all_entries (cut (all_of mid) last).cpus) (after_steps trace l t))) cut_steps_are
      ∙ (ap (after_checks (all_checks (cut (all_of mid) last).cpus)) (entries_in trace (after_steps trace (steps_between mid last) t))
      ∙ ap (λ l. after_checks l (after_entries trace (entries_between mid last) (after_steps trace (steps_between mid last) t))) cut_checks_are)

  same_totals : (a b : Totals) → a.dirtied ≡ b.dirtied → a.cleaned ≡ b.cleaned → a ≡ b
  same_totals a b dirtied cleaned = λ i. record { dirtied = dirtied i; cleaned = cleaned i }

  pub summed_is : (t : Totals) → totals_after (all_entries (cut (all_of mid) last).cpus) t ≡ totals_after (entries_between mid last) t
  summed_is t = same_totals _ _ (omega (arith, cut_count is_fresh blind_fresh)) (omega (arith, cut_count is_done blind_done))

-- ---- sums are small

few_found : (p : Entry → Bool) (cs : List Cpu) → sum_by (λ c. count_by p c.entries) (map part_of cs) ≤ sum_by told_by cs
few_found p [] = omega arith
few_found p (c ∷ cs) =
    let rest = few_found p cs in
    omega (arith, rest, count_by-le-length p c.entries, sum_by-cons told_by c cs, sum_by-cons (λ part. count_by p part.entries) (part_of c) (map part_of cs))

pub totals_small : (s : State) → AreSmallTotals (told_in s) (totals_of s)
totals_small s = record {
  dirtied = let few = few_found is_fresh s.cpus in omega (arith, few);
  cleaned = let few = few_found is_done s.cpus in omega (arith, few);
}
