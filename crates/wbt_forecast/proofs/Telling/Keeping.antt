-- What a teller keeps from move to move, where what is kept is counted in, and where the next interval begins.
use Rattle.std.proofs.Common.{◌≡◌, ℕ, zero, suc, ◌+◌, ◌^◌, ◌<◌, ◌≤◌, List, [], ◌∷◌, ◌++◌, length, map, replicate, get_or, All, pos, refl, sym, ◌∙◌, ap, ap₂, subst, arith}
use Rattle.std.proofs.lemmas.List.{length-map}
use Rattle.std.proofs.lemmas.List.Elements.{All-cons, All-nil}
use Rattle.wbt_replay_order.proofs.Common.{Trace, domains, numbers, forgotten, State, seen, Cpu, opening, bases_of, base_of, IsInRange}
use Rattle.wbt_forecast_rows.specs.Between.{IsAfter, entries_between, checks_between, steps_between}
use Rattle.wbt_forecast_rows.specs.Counts.{homes_of}
use Rattle.wbt_forecast_rows.specs.Small.{AreSmall, AreSmallTotals, IsSmallContext, IsSmallDomain, IsSmallTask}
use Rattle.wbt_forecast_rows.specs.Tally.{Tallies, after_all, after_checks, after_entries, after_steps, cleared, context_after, domain_after, first_tallies, no_pages, no_work, tallied, tallies_at, totals_after}
use Rattle.wbt_forecast_rows.specs.declared.forecast.Totals.{Totals}
use Rattle.wbt_forecast_rows.proofs.Gaining.{all_gained_none, gained_none}
use Rattle.wbt_forecast_rows.proofs.Going.{tallies_on, tallies_again, tallies_first, totals_on}
use Rattle.wbt_forecast_rows.proofs.Numbered.{length-by_number}
use Rattle.wbt_replay_cut.specs.Cut.{all_of, cut, IsWithin}
use Rattle.wbt_replay_cut.proofs.Whole.{forgotten_is_cut}
use Rattle.wbt_replay_order.specs.Kept.Round.{IsRound}
use Rattle.wbt_forecast.specs.Kept.{all_entries, counted_in, told_in, told_since, TakesMore}
use Rattle.wbt_forecast_run.specs.Run.{moved, state_after}
use Rattle.wbt_forecast.specs.Telling.{HasRow, Keeps}
use Rattle.wbt_forecast.specs.declared.teller.Teller.{Teller}
use Rattle.wbt_forecast_run.proofs.Runs.Ends.{first_state, next_state}
use Rattle.wbt_forecast.proofs.Telling.Cutting as cutting
use Rattle.wbt_forecast.proofs.Telling.Few.{first_told}
use Rattle.wbt_forecast.proofs.Telling.Laws.{Laws}
use Rattle.wbt_forecast.proofs.Telling.Lists.{checks_none, entries_none, steps_none}

-- ---- where an interval begins

-- nothing is counted where nothing was told
none_counted : (trace : Trace) (t : Tallies) → after_checks [] (after_entries trace [] (after_steps trace [] t)) ≡ t
none_counted trace t =
    checks_none (after_entries trace [] (after_steps trace [] t)) ∙ (entries_none trace (after_steps trace [] t) ∙ steps_none trace t)

pub tallied_none : (trace : Trace) (s : State) → tallied trace s s ≡ tallies_at trace s
tallied_none trace s =
    ap (λ l. after_checks (checks_between s s) (after_entries trace (entries_between s s) (after_steps trace l (tallies_at trace s)))) (gained_none s.steps)
    ∙ (ap₂ (λ checks entries. after_checks checks (after_entries trace entries (after_steps trace [] (tallies_at trace s))))
    (all_gained_none (map (λ (c : Cpu). c.checks) s.cpus)) (all_gained_none (map (λ (c : Cpu). c.entries) s.cpus))
    ∙ none_counted trace (tallies_at trace s))

all_copies : {A : Type 0} (P : A → Type 0) (x : A) (n : ℕ) → P x → All P (replicate n x)
all_copies P x zero is = All-nil P
all_copies P x (suc n) is = All-cons P x (replicate n x) is (all_copies P x n is)

first_small : (trace : Trace) (most : ℕ) → AreSmall most (first_tallies trace)
first_small trace most = record {
  domains = all_copies (IsSmallDomain most) (record { count = pos 0; most = 0 }) (domains trace) (record { count = omega arith });
  contexts = all_copies (IsSmallContext most) no_pages (length trace.contexts) (record { dirtied = omega arith; written = omega arith });
  tasks = all_copies (IsSmallTask most) no_work (length trace.tasks)
      (record { pages = omega arith; checks = omega arith; pauses = omega arith; ticks = omega arith });
}

same_totals : (a b : Totals) → a.dirtied ≡ b.dirtied → a.cleaned ≡ b.cleaned → a ≡ b
same_totals a b dirtied cleaned = λ i. record { dirtied = dirtied i; cleaned = cleaned i }

module _ (trace : Trace) (laws : Laws trace) where
  abbrev at : (n : ℕ) → State
  at n = state_after trace n

  -- ---- before the first move

  pub keeps_first : (t : Teller) → seen t.machine ≡ forgotten (opening trace) → IsRound trace t.round → t.bases ≡ bases_of trace (domains trace)
      → ((domain : ℕ) → get_or t.bases domain 0 < 2 ^ 23) → t.interval ≡ first_tallies trace → t.totals ≡ record { dirtied = 0; cleaned = 0 }
      → t.counted ≡ 0 → t.before ≡ 0 → Keeps trace 0 0 0 t
  keeps_first t machine round bases small interval totals counted before =
      let none = first_told trace in
      let all = forgotten_is_cut (at 0) in
      let few = cutting.totals_small (at 0) in
      let forgets : seen t.machine ≡ forgotten (at 0) = machine ∙ ap forgotten (sym (first_state trace)) in
      record {
        begun = omega arith;
        since = omega arith;
        machine = forgets ∙ all.first;
        within = all.within;
        range = subst (IsInRange trace) (sym forgets) (laws.sound.forgets (at 0) (laws.sound.at 0));
        round = round;
        bases = bases;
        small_bases = small;
        interval = interval ∙ sym (tallied_none trace (at 0) ∙ tallies_first trace (at 0) (λ d less. laws.counts.first d));
        small = subst (AreSmall (told_in (at 0))) (sym interval) (first_small trace (told_in (at 0)));
        totals = totals ∙ same_totals _ _ (omega (arith, few.dirtied, none)) (omega (arith, few.cleaned, none));
        counted = counted ∙ (let e : 0 ≡ length (at 0).steps = omega (arith, none) in e);
        before = before ∙ (let e : 0 ≡ length (at 0).steps = omega (arith, none) in e);
      }

  -- ---- a move

  pub keeps_move : (first mid n : ℕ) (t u : Teller) → Keeps trace first mid n t → u ≡ record t { machine = u.machine }
      → seen u.machine ≡ moved trace (seen t.machine) → Keeps trace first mid (n + 1) u
  keeps_move first mid n t u k others move =
      let whole = laws.cuts (all_of (at mid)) (at n) k.within in
      let next : at (n + 1) ≡ moved trace (at n) = next_state trace n (n + 1) refl in
      record {
        begun = k.begun;
        since = omega (arith, k.since);
        machine = move ∙ (ap (moved trace) k.machine ∙ (whole.move ∙ ap (cut (all_of (at mid))) (sym next)));
        within = subst (IsWithin (all_of (at mid))) (sym next) whole.within;
        range = subst (IsInRange trace) (sym move) (laws.sound.on (seen t.machine) k.range);
        round = subst (IsRound trace) (sym (ap (λ (v : Teller). v.round) others)) k.round;
        bases = ap (λ (v : Teller). v.bases) others ∙ k.bases;
        small_bases = subst (λ (l : List ℕ). (d : ℕ) → get_or l d 0 < 2 ^ 23) (sym (ap (λ (v : Teller). v.bases) others)) k.small_bases;
        interval = ap (λ (v : Teller). v.interval) others ∙ k.interval;
        small = subst (AreSmall (told_in (at mid))) (sym (ap (λ (v : Teller). v.interval) others)) k.small;
        totals = ap (λ (v : Teller). v.totals) others ∙ k.totals;
        counted = ap (λ (v : Teller). v.counted) others ∙ k.counted;
        before = ap (λ (v : Teller). v.before) others ∙ k.before;
      }

  -- ---- what is kept is counted in

  module _ (first mid n : ℕ) (t : Teller) (k : Keeps trace first mid n t) where
    since : IsAfter (at mid) (at n)
    since = laws.order.after mid n k.since

    -- no more steps were counted than the machine has made
    pub counted_within : t.counted ≤ length (seen t.machine).steps
    counted_within =
        let made = ap (λ (s : State). length s.steps) k.machine in
        omega (arith, k.counted, made, cutting.many_steps (at mid) (at n) since k.within, cutting.steps_grow (at mid) (at n) since k.within)

    -- what the machine has told can be counted in
    pub takes_more : TakesMore (told_in (seen t.machine)) t.interval t.totals
    takes_more =
        let told = ap told_in k.machine in
        record {
          most = told_in (at mid);
          tallies = k.small;
          totals = subst (AreSmallTotals (told_in (at mid))) (sym k.totals) (cutting.totals_small (at mid));
          room = omega (arith, told, laws.few mid, laws.few n, cutting.told_less (at mid) (at n) since k.within);
        }

    pub keeps_counted : (u : Teller) → seen u.machine ≡ forgotten (seen t.machine) → u.interval ≡ counted_in trace t.counted (seen t.machine) t.interval
        → ((most : ℕ) → AreSmall most t.interval → AreSmall (most + told_since t.counted (seen t.machine)) u.interval)
        → u.totals ≡ totals_after (all_entries (seen t.machine).cpus) t.totals → u.counted ≡ length (seen t.machine).steps
        → u ≡ record t { machine = u.machine; interval = u.interval; totals = u.totals; counted = u.counted } → Keeps trace first n n u
    keeps_counted u machine interval small totals counted others =
        let all = forgotten_is_cut (at n) in
        let whole = cut (all_of (at mid)) (at n) in
        let forgets : seen u.machine ≡ forgotten whole = machine ∙ ap forgotten k.machine in
        let more = cutting.told_more (at mid) (at n) since k.within in
        let told : told_in (at mid) + told_since t.counted (seen t.machine) ≡ told_in (at n) =
        ap₂ (λ c s. told_in (at mid) + told_since c s) k.counted k.machine ∙ more in
        record {
          begun = omega (arith, k.begun, k.since);
          since = omega arith;
          machine = forgets ∙ all.again (all_of (at mid)) k.within;
          within = all.within;
          range = subst (IsInRange trace) (sym machine) (laws.sound.forgets (seen t.machine) k.range);
          round = subst (IsRound trace) (sym (ap (λ (v : Teller). v.round) others)) k.round;
          bases = ap (λ (v : Teller). v.bases) others ∙ k.bases;
          small_bases = subst (λ (l : List ℕ). (d : ℕ) → get_or l d 0 < 2 ^ 23) (sym (ap (λ (v : Teller). v.bases) others)) k.small_bases;
          interval = interval
              ∙ (ap₂ (λ c s. counted_in trace c s t.interval) k.counted k.machine
              ∙ (cutting.counted_is (at mid) (at n) since k.within trace t.interval
              ∙ (ap (after_all trace (at mid) (at n)) k.interval
              ∙ sym (tallies_on trace (at first) (at mid) (at n) (laws.order.after first mid k.begun) since))));
          small = subst (λ (most : ℕ). AreSmall most u.interval) told (small (told_in (at mid)) k.small);
          totals = totals
              ∙ (ap (λ (s : State). totals_after (all_entries s.cpus) t.totals) k.machine
              ∙ (cutting.summed_is (at mid) (at n) since k.within t.totals
              ∙ (ap (totals_after (entries_between (at mid) (at n))) k.totals ∙ sym (totals_on (at mid) (at n) since))));
          counted = counted ∙ (ap (λ (s : State). length s.steps) k.machine ∙ cutting.many_steps (at mid) (at n) since k.within);
          before = ap (λ (v : Teller). v.before) others ∙ k.before;
        }

  -- ---- the next interval begins

  pub keeps_begun : (first n : ℕ) (t u : Teller) → Keeps trace first n n t → u ≡ record t { interval = cleared t.interval; before = t.counted }
      → ((most : ℕ) → AreSmall most t.interval → AreSmall most u.interval) → Keeps trace n n n u
  keeps_begun first n t u k value small = record {
    begun = omega arith;
    since = omega arith;
    machine = ap (λ (v : Teller). seen v.machine) value ∙ k.machine;
    within = k.within;
    range = subst (IsInRange trace) (sym (ap (λ (v : Teller). seen v.machine) value)) k.range;
    round = subst (IsRound trace) (sym (ap (λ (v : Teller). v.round) value)) k.round;
    bases = ap (λ (v : Teller). v.bases) value ∙ k.bases;
    small_bases = subst (λ (l : List ℕ). (d : ℕ) → get_or l d 0 < 2 ^ 23) (sym (ap (λ (v : Teller). v.bases) value)) k.small_bases;
    interval = ap (λ (v : Teller). v.interval) value
        ∙ (ap cleared k.interval
        ∙ (tallies_again trace (at first) (at n) (at n) (laws.counts.between first n k.begun) refl ∙ sym (tallied_none trace (at n))));
    small = small (told_in (at n)) k.small;
    totals = ap (λ (v : Teller). v.totals) value ∙ k.totals;
    counted = ap (λ (v : Teller). v.counted) value ∙ k.counted;
    before = ap (λ (v : Teller). v.before) value ∙ k.counted;
  }

  -- only the text has changed
  pub keeps_text : (first mid n : ℕ) (t u : Teller) → Keeps trace first mid n t → u ≡ record t { text = u.text } → Keeps trace first mid n u
  keeps_text first mid n t u k value = record {
    begun = k.begun;
    since = k.since;
    machine = ap (λ (v : Teller). seen v.machine) value ∙ k.machine;
    within = k.within;
    range = subst (IsInRange trace) (sym (ap (λ (v : Teller). seen v.machine) value)) k.range;
    round = subst (IsRound trace) (sym (ap (λ (v : Teller). v.round) value)) k.round;
    bases = ap (λ (v : Teller). v.bases) value ∙ k.bases;
    small_bases = subst (λ (l : List ℕ). (d : ℕ) → get_or l d 0 < 2 ^ 23) (sym (ap (λ (v : Teller). v.bases) value)) k.small_bases;
    interval = ap (λ (v : Teller). v.interval) value ∙ k.interval;
    small = subst (AreSmall (told_in (at mid))) (sym (ap (λ (v : Teller). v.interval) value)) k.small;
    totals = ap (λ (v : Teller). v.totals) value ∙ k.totals;
    counted = ap (λ (v : Teller). v.counted) value ∙ k.counted;
    before = ap (λ (v : Teller). v.before) value ∙ k.before;
  }

  -- ---- a row

  many_numbers : (n count : ℕ) → length (numbers n count) ≡ count
  many_numbers n zero = refl
  many_numbers n (suc count) = let rest = many_numbers (n + 1) count in omega (arith, rest)

  many_bases : (n : ℕ) → length (bases_of trace n) ≡ n
  many_bases zero = refl
  many_bases (suc n) = let rest = many_bases n in omega (arith, rest, pushed (bases_of trace n) (base_of trace n))
    where
      pushed : (xs : List ℕ) (x : ℕ) → length (xs ++ x ∷ []) ≡ length xs + 1
      pushed [] x = refl
      pushed (y ∷ xs) x = let rest = pushed xs x in omega (arith, rest)

  module _ (first mid n : ℕ) (t : Teller) (k : Keeps trace first mid n t) where
    many_domains : length t.interval.domains ≡ domains trace
    many_domains =
        ap (λ (i : Tallies). length i.domains) k.interval
        ∙ (length-by_number (domain_after (homes_of trace) (steps_between (at first) (at mid))) 0 (tallies_at trace (at first)).domains
        ∙ (length-map (numbers 0 (domains trace)) _ ∙ many_numbers 0 (domains trace)))

    many_contexts : length t.interval.contexts ≡ length trace.contexts
    many_contexts =
        ap (λ (i : Tallies). length i.contexts) k.interval
        ∙ (length-by_number (context_after trace (entries_between (at first) (at mid))) 0 (tallies_at trace (at first)).contexts
        ∙ (length-map (numbers 0 (length trace.contexts)) _ ∙ many_numbers 0 (length trace.contexts)))

    pub has_row : HasRow t
    has_row = record {
      bases = ap (λ (l : List ℕ). length l) k.bases ∙ (many_bases (domains trace) ∙ sym many_domains);
      domains = k.range.0.holds.domains.many ∙ sym many_domains;
      contexts = k.range.0.holds.contexts.many ∙ sym many_contexts;
      bounds = λ d less. (
          let peak = (k.range.0.holds.domains.each d).peak in
          let base = k.small_bases d in
          omega (arith, peak, base)
          );
    }
