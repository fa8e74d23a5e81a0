-- What the calls that a teller's turn makes ensure, and what becomes of the teller by them.
use Rattle.std.proofs.Common.{◌≡◌, ◌≢◌, ◌⊎◌, inl, inr, ℕ, ◌+◌, ◌/◌, ◌<◌, ◌≤◌, true, false, not, ◌==◌, true≢false, List, [], ◌++◌, length, Option, sym, ◌∙◌, ap, arith}
use Rattle.std.proofs.lemmas.Bool.{cases_lt}
use Rattle.std.proofs.lemmas.Bool.Decides.{nat_tests}
use Rattle.std.specs.Io.KnownBytes.{append_known}
use Rattle.wbt_replay_order.proofs.Common.{GainsPart, Trace, forgotten, State, seen, is_ended, ending_of}
use Rattle.wbt_journal.specs.declared.journal.Ending.{Ending}
use Rattle.wbt_forecast_rows.specs.Rows.{interval_of}
use Rattle.wbt_forecast_rows.specs.Small.{AreSmall}
use Rattle.wbt_forecast_rows.specs.Tally.{cleared, totals_after}
use Rattle.wbt_forecast_rows.specs.Text.{end_text}
use Rattle.wbt_replay_cut.specs.Cut.{all_of}
use Rattle.wbt_forecast.specs.Kept.{all_entries, counted_in, told_in, told_since, TakesMore}
use Rattle.wbt_forecast_run.specs.Run.{forecast, foretold, moved, most_moves, state_after}
use Rattle.wbt_forecast.specs.Telling.{HasRow, IsLeaving, IsOver, IsTelling, Keeps, rest_text, told_row}
use Rattle.wbt_forecast.specs.declared.teller.Teller.{Teller}
use Rattle.wbt_forecast_run.proofs.Runs.Ends.{runs_end}
use Rattle.wbt_forecast.proofs.Telling.Keeping.{counted_within, has_row, keeps_begun, keeps_counted, keeps_move, keeps_text, takes_more}
use Rattle.wbt_forecast.proofs.Telling.Laws.{Laws}
use Rattle.wbt_forecast.proofs.Telling.Steps as steps
use Rattle.wbt_forecast.proofs.Telling.Texts.{Wrote, part_of_it, wrote_all}

-- ---- what calls ensure

-- what the machine has told is counted in, and forgotten
abbrev pub CountsIn : (trace : Trace) (t u : Teller) → Type 0
CountsIn trace t u = record {
  machine : seen u.machine ≡ forgotten (seen t.machine);
  interval : u.interval ≡ counted_in trace t.counted (seen t.machine) t.interval;
  small : (most : ℕ) → AreSmall most t.interval → AreSmall (most + told_since t.counted (seen t.machine)) u.interval;
  totals : u.totals ≡ totals_after (all_entries (seen t.machine).cpus) t.totals;
  counted : u.counted ≡ length (seen t.machine).steps;
  others : u ≡ record t { machine = u.machine; interval = u.interval; totals = u.totals; counted = u.counted };
}

-- the interval's row is put behind the text
abbrev pub PutsRow : (number : ℕ) (t u : Teller) → Type 0
PutsRow number t u = record {
  text : u.text.items ≡ t.text.items ++ told_row number t;
  others : u ≡ record t { text = u.text };
}

-- the next interval begins
abbrev pub Begins : (t u : Teller) → Type 0
Begins t u = record {
  value : u ≡ record t { interval = cleared t.interval; before = t.counted };
  small : (most : ℕ) → AreSmall most t.interval → AreSmall most u.interval;
}

module _ (trace : Trace) (laws : Laws trace) where
  abbrev at : (n : ℕ) → State
  at n = state_after trace n

  -- what was told is counted in
  pub keeps_in : (first mid n : ℕ) (t u : Teller) → Keeps trace first mid n t → CountsIn trace t u → Keeps trace first n n u
  keeps_in first mid n t u k e = keeps_counted trace laws first mid n t k u e.machine e.interval e.small e.totals e.counted e.others

  -- ---- the clock

  clock_is : (every first mid n : ℕ) (t : Teller) → Keeps trace first mid n t → (seen t.machine).now / every ≡ interval_of every (at n)
  clock_is every first mid n t k = ap (λ (s : State). s.now / every) k.machine

  is_same : (n m : ℕ) → false ≡ not (n == m) → n ≡ m
  is_same n m e = grind (arith, nat_tests)

  is_other : (n m : ℕ) → true ≡ not (n == m) → n ≢ m
  is_other n m e = grind (arith, nat_tests)

  -- ---- a move

  module _ (every : ℕ) where
    -- a run that goes on hasn't made the most moves
    pub goes_on : (moves : ℕ) (start held : Option (List ℕ)) (t : Teller) → IsTelling trace every moves start held t
        → is_ended (seen t.machine) ≡ false → moves < most_moves
    goes_on moves start held t tells going = by_last (cases_lt moves most_moves)
      where
        by_last : (moves < most_moves) ⊎ (most_moves ≤ moves) → moves < most_moves
        by_last (inl less) = less
        by_last (inr late) =
            let all : moves ≡ most_moves = omega (arith, late, tells.few) in
            let over : is_ended (seen t.machine) ≡ true =
            ap is_ended tells.keeps.machine
            ∙ ((laws.cuts (all_of (at tells.mid)) (at moves) tells.keeps.within).ends ∙ (ap (λ n. is_ended (at n)) all ∙ runs_end trace laws.lawful)) in
            absurd (true≢false (sym over ∙ going))

    module _ (moves : ℕ) (start held : Option (List ℕ)) (t u : Teller) (less : moves < most_moves) (tells : IsTelling trace every moves start held t)
        (state : seen u.machine ≡ moved trace (seen t.machine)) (others : u ≡ record t { machine = u.machine }) where
      abbrev pub kept_move : Keeps trace tells.first tells.mid (moves + 1) u
      kept_move = keeps_move trace laws tells.first tells.mid moves t u tells.keeps others state

      same_text : u.text.items ≡ t.text.items
      same_text = ap (λ (v : Teller). v.text.items) others

      -- the move stays in the interval
      pub moves_on : false ≡ not (((seen u.machine).now / every) == ((seen t.machine).now / every)) → IsTelling trace every (moves + 1) start held u
      moves_on stays = steps.tells_on trace laws every moves start held t u less tells tells.mid kept_move same_text
          (sym (clock_is every tells.first tells.mid (moves + 1) u kept_move) ∙ (is_same _ _ stays ∙ clock_is every tells.first tells.mid moves t tells.keeps))

      -- and what was told is counted in
      pub moves_counted : (v : Teller) → CountsIn trace u v → false ≡ not (((seen u.machine).now / every) == ((seen t.machine).now / every))
          → IsTelling trace every (moves + 1) start held v
      moves_counted v e stays = steps.tells_on trace laws every moves start held t v less tells (moves + 1)
          (keeps_in tells.first tells.mid (moves + 1) u v kept_move e)
          (ap (λ (x : Teller). x.text.items) e.others ∙ same_text)
          (sym (clock_is every tells.first tells.mid (moves + 1) u kept_move) ∙ (is_same _ _ stays ∙ clock_is every tells.first tells.mid moves t tells.keeps))

      -- the move leaves it
      pub moves_off : true ≡ not (((seen u.machine).now / every) == ((seen t.machine).now / every))
          → IsLeaving trace every moves ((seen t.machine).now / every) start held u
      moves_off leaves = steps.leaving trace laws every moves ((seen t.machine).now / every) start held t u less tells kept_move same_text
          (clock_is every tells.first tells.mid moves t tells.keeps)
          (λ same. is_other _ _ leaves
          (clock_is every tells.first tells.mid (moves + 1) u kept_move ∙ (same ∙ sym (clock_is every tells.first tells.mid moves t tells.keeps))))

      -- what the machine has told can be counted in
      pub move_counts : u.counted ≤ length (seen u.machine).steps
      move_counts = counted_within trace laws tells.first tells.mid (moves + 1) u kept_move

      pub move_takes : TakesMore (told_in (seen u.machine)) u.interval u.totals
      move_takes = takes_more trace laws tells.first tells.mid (moves + 1) u kept_move

    -- ---- the interval is left

    module _ (moves number : ℕ) (start held : Option (List ℕ)) (t : Teller) (leaves : IsLeaving trace every moves number start held t)
        (u : Teller) (e : CountsIn trace t u) where
      abbrev kept : Keeps trace leaves.first (moves + 1) (moves + 1) u
      kept = keeps_in leaves.first leaves.mid (moves + 1) t u leaves.keeps e

      pub leaves_row : HasRow u
      leaves_row = has_row trace laws leaves.first (moves + 1) (moves + 1) u kept

      module _ (p v : Teller) (puts : PutsRow number u p) (begins : Begins p v) where
        kept_next : Keeps trace (moves + 1) (moves + 1) (moves + 1) v
        kept_next = keeps_begun trace laws leaves.first (moves + 1) p v
            (keeps_text trace laws leaves.first (moves + 1) (moves + 1) u p kept puts.others) begins.value begins.small

        wrote_next : Wrote (foretold trace every) (rest_text trace every (at (moves + 1)) (moves + 1)) v.text.items start held
        wrote_next = steps.wrote_row trace laws every moves number start held t leaves u kept v.text.items
            (ap (λ (x : Teller). x.text.items) e.others) (ap (λ (x : Teller). x.text.items) begins.value ∙ puts.text)

        -- the next interval has begun
        pub leaves_on : IsTelling trace every (moves + 1) start held v
        leaves_on = steps.tells_next trace laws every moves number start held t leaves u kept v held kept_next wrote_next

        -- and what was kept is written
        pub leaves_sent : (w : Teller) (now : Option (List ℕ)) → now ≡ append_known held v.text.items → w.text.items ≡ [] → w ≡ record v { text = w.text }
            → IsTelling trace every (moves + 1) start now w
        leaves_sent w now sent gone others = steps.tells_next trace laws every moves number start held t leaves u kept w now
            (keeps_text trace laws (moves + 1) (moves + 1) (moves + 1) v w kept_next others)
            (wrote_all (foretold trace every) (rest_text trace every (at (moves + 1)) (moves + 1)) v.text.items start held wrote_next now w.text.items sent gone)

        -- or a part of it
        pub leaves_part : (now : Option (List ℕ)) → GainsPart held now v.text.items → GainsPart start now (foretold trace every)
        leaves_part now part =
            part_of_it (foretold trace every) (rest_text trace every (at (moves + 1)) (moves + 1)) v.text.items start held wrote_next now part

    -- ---- the run is over

    module _ (moves : ℕ) (start held : Option (List ℕ)) (t : Teller) (tells : IsTelling trace every moves start held t) (over : IsOver moves (seen t.machine))
        (u : Teller) (e : CountsIn trace t u) where
      abbrev kept_last : Keeps trace tells.first moves moves u
      kept_last = keeps_in tells.first tells.mid moves t u tells.keeps e

      module _ (p : Teller) (puts : PutsRow ((seen t.machine).now / every) u p) where
        ending_last : ending_of (seen p.machine) ≡ ending_of (at moves)
        ending_last = ap (λ (x : Teller). ending_of (seen x.machine)) puts.others ∙ steps.ending_at trace laws every moves start held t tells over u kept_last

        -- how the machine has ended is how the run has
        pub ends_so : (ending : Ending) → ending ≡ ending_of (seen p.machine) → ending ≡ (forecast trace every).ending
        ends_so ending is = is ∙ (ending_last ∙ steps.ending_told trace laws every moves start held t tells over)

        module _ (text : List ℕ) (grown : text ≡ p.text.items ++ end_text p.totals (ending_of (seen p.machine))) where
          wrote_whole : Wrote (foretold trace every) [] text start held
          wrote_whole =
              let number : ℕ = (seen t.machine).now / every in
              let number_is = clock_is every tells.first tells.mid moves t tells.keeps in
              let last = steps.wrote_last trace laws every moves start held t tells over number u kept_last number_is p.text.items
              (ap (λ (x : Teller). x.text.items) e.others) puts.text in
              steps.wrote_end trace laws every moves start held t tells over number u kept_last number_is p.text.items text (ending_of (seen p.machine)) p.totals last
              grown (ap (λ (x : Teller). x.totals) puts.others ∙ kept_last.totals) ending_last

          -- all is written
          pub ends_sent : (now : Option (List ℕ)) → now ≡ append_known held text → now ≡ append_known start (foretold trace every)
          ends_sent now sent = steps.all_written trace laws every moves start held t tells over text [] now wrote_whole sent

          -- or a part of it
          pub ends_part : (now : Option (List ℕ)) → GainsPart held now text → GainsPart start now (foretold trace every)
          ends_part now part = part_of_it (foretold trace every) [] text start held wrote_whole now part

    -- the row of the last interval
    pub last_row : (moves : ℕ) (start held : Option (List ℕ)) (t u : Teller) → IsTelling trace every moves start held t → CountsIn trace t u → HasRow u
    last_row moves start held t u tells e =
        has_row trace laws tells.first moves moves u (keeps_in tells.first tells.mid moves t u tells.keeps e)
