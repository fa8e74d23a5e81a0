-- Where a replay isn't spent the run goes through its states, and what intervals count adds up to what its journal tells.
use Rattle.std.proofs.Common.{◌≡◌, ◌≢◌, ℕ, zero, suc, ◌+◌, ◌-◌, ◌≤◌, ◌==◌, ◌&&◌, ◌||◌, nat_lt, Bool, true, false, cond, List, [], ◌∷◌, ◌++◌, length, map, drop, count_by, sum_by, flat_map, refl, sym, ◌∙◌, ap, arith, ⊎_elim}
use Rattle.std.proofs.lemmas.Bool.{cases_Bool}
use Rattle.wbt_replay_order.proofs.Common.{MOST_STEPS, Trace, extended, State, Cpu, opening, first_cpu, first_cpus, advance, is_ended, is_full, state_at, last_state, journal_of, part_of, ending_of, fits_further}
use Rattle.wbt_journal.specs.Text.{fresh_of, done_of}
use Rattle.wbt_journal.specs.declared.entry.CpuJournal.{CpuJournal}
use Rattle.wbt_journal.specs.declared.journal.Ending.TheVariants as ending
use Rattle.wbt_replay_order.specs.Definition.Run as replayed
use Rattle.wbt_replay_order.proofs.Facts.Lists.{either}
use Rattle.wbt_replay_order.proofs.Growth.Most.{most_kept}
use Rattle.wbt_replay_order.proofs.Growth.Runs.{run_none, run_ended, run_last, run_stays}
use Rattle.wbt_replay_ranges.proofs.InRange.{stays_in_range}
use Rattle.wbt_replay_ends.proofs.Ended as ends
use Rattle.wbt_replay_turns.proofs.Runs.{run_further}
use Rattle.wbt_forecast_rows.specs.Between.{all_gained, entries_of, checks_of, entries_between, checks_between}
use Rattle.wbt_forecast_rows.specs.Counts.{is_dirtied_in, is_written_in, is_write_by, is_check_of, is_pause_of, pause_after}
use Rattle.wbt_forecast_rows.specs.Forecast.{spans}
use Rattle.wbt_forecast_rows.specs.Laws.{RunsSumUp, SumUp}
use Rattle.wbt_forecast_run.specs.Claims.{entries_in, checks_in, SumsAreTold, AsReplayed}
use Rattle.wbt_forecast_run.specs.Run.{most_moves, let_on, moved, state_after, forecast}
use Rattle.wbt_forecast_run.proofs.Replayed.Most.{with_most}
use Rattle.wbt_forecast_run.proofs.Replayed.Order.{advance_alike}
use Rattle.wbt_forecast_run.proofs.Runs.Ends.{over_stays, going_moves, next_state, first_state, stays_over}
use Rattle.wbt_forecast_run.proofs.Runs.Growing.{runs_tell_in_order}

-- ---- the states

-- the run may make at least as many steps, and all else is the same
pub record IsLike (s u : State) : Type 0 where
  pub most : ℕ
  pub more : s.most ≤ most
  pub is : u ≡ with_most most s

let_like : (u : State) → IsLike u (let_on u)
let_like u = either (IsLike u) (is_full u && fits_further u) (extended u) u
    (λ yes. record { most = u.most + MOST_STEPS; more = omega arith; is = refl })
    (λ no. record { most = u.most; more = omega arith; is = refl })

spent_ends : (s : State) → s.spent ≡ true → is_ended s ≡ true
spent_ends s is = by_test s.spent (s.stopped == length s.cpus || (s.running == 0 && s.working == 0)) is
  where
    by_test : (b c : Bool) → b ≡ true → (b || c) ≡ true
    by_test true c e = refl
    by_test false c e = absurd (cc e)

module _ (trace : Trace) where
  move_like : (s u : State) → IsLike s u → is_ended s ≡ false → (advance trace s).spent ≡ false → IsLike (advance trace s) (moved trace u)
  move_like s u like going unspent =
      let m = like.most in
      let here : is_ended u ≡ false = ap is_ended like.is ∙ going in
      let further = let_like (with_most m s) in
      let low : s.most ≤ further.most = omega (arith, like.more, further.more) in
      record {
        most = further.most;
        more = omega (arith, low, most_kept trace s);
        is = going_moves trace u here ∙ (ap (λ (v : State). advance trace (let_on v)) like.is
            ∙ (ap (advance trace) further.is ∙ advance_alike trace further.most s low unspent));
      }

  module _ (unspent : (last_state trace).spent ≡ false) where
    unspent_at : (n : ℕ) → n ≤ replayed.most_moves → (state_at trace n).spent ≡ false
    unspent_at n le = ⊎_elim
        (λ yes.
        let s = state_at trace n in
        let last = run_further trace n replayed.most_moves (replayed.most_moves - n) (opening trace) (omega (arith, le))
        ∙ run_ended trace (replayed.most_moves - n) s (spent_ends s yes) in
        absurd (cc (sym unspent ∙ (ap (λ (v : State). v.spent) last ∙ yes))))
        (λ no. no)
        (cases_Bool (state_at trace n).spent)

    like_at : (n : ℕ) → n ≤ replayed.most_moves → IsLike (state_at trace n) (state_after trace n)
    like_at zero le = record {
      most = (state_at trace 0).most;
      more = omega arith;
      is = first_state trace ∙ sym (run_none trace 0 (opening trace) refl);
    }
    like_at (suc n) le =
        let s = state_at trace n in
        let u = state_after trace n in
        let before = like_at n (omega (arith, le)) in
        let next = next_state trace n (suc n) (omega arith) in
        ⊎_elim
        (λ over.
        let same = run_stays trace n (suc n) (opening trace) (omega arith) over in
        let ended : is_ended u ≡ true = ap is_ended before.is ∙ over in
        record {
          most = before.most;
          more = omega (arith, before.more, ap (λ (v : State). v.most) same);
          is = next ∙ (over_stays trace u ended ∙ (before.is ∙ ap (with_most before.most) (sym same)));
        })
        (λ going.
        let made = run_last trace n (suc n) (opening trace) (omega arith) going in
        let after = move_like s u before going (ap (λ (v : State). v.spent) (sym made) ∙ unspent_at (suc n) le) in
        record {
          most = after.most;
          more = omega (arith, after.more, ap (λ (v : State). v.most) made);
          is = next ∙ (after.is ∙ ap (with_most after.most) (sym made));
        })
        (cases_Bool (is_ended s))

    alike_at : (n : ℕ) → n ≤ replayed.most_moves → record (state_after trace n) { most = (state_at trace n).most } ≡ state_at trace n
    alike_at n le = ap (λ (u : State). record u { most = (state_at trace n).most }) (like_at n le).is

    last_like : is_ended (last_state trace) ≡ true → IsLike (last_state trace) (state_after trace most_moves)
    last_like over =
        let like = like_at replayed.most_moves (omega arith) in
        let ended : is_ended (state_after trace replayed.most_moves) ≡ true = ap is_ended like.is ∙ over in
        record {
          most = like.most;
          more = like.more;
          is = stays_over trace replayed.most_moves (most_moves - replayed.most_moves) most_moves (omega arith) ended ∙ like.is;
        }

-- ---- what is counted from the opening on

-- none of the lists has an item
abbrev AreEmpty : {A : Type 0} (lists : List (List A)) → Type 0
AreEmpty [] = Unit {0}
AreEmpty (list ∷ lists) = (list ≡ []) × AreEmpty lists

empty_push : {A : Type 0} (f : Cpu → List A) (cs : List Cpu) (c : Cpu) → AreEmpty (map f cs) → f c ≡ [] → AreEmpty (map f (cs ++ c ∷ []))
empty_push f [] c all here = (here, tt)
empty_push f (d ∷ cs) c all here = (all.0, empty_push f cs c all.1 here)

gained_all : {A : Type 0} (before after : List (List A)) → AreEmpty before → all_gained before after ≡ flat_map (λ l. l) after
gained_all [] [] empty = refl
gained_all (x ∷ before) [] empty = refl
gained_all [] (list ∷ after) empty = ap (λ l. list ++ l) (gained_all [] after tt)
gained_all (x ∷ before) (list ∷ after) empty =
    ap (λ y. drop (length y) list ++ all_gained before after) empty.0 ∙ ap (λ l. list ++ l) (gained_all before after empty.1)

of_parts : {A : Type 0} (f : Cpu → List A) (g : CpuJournal → List A) → ((c : Cpu) → f c ≡ g (part_of c)) → (cs : List Cpu)
    → flat_map (λ l. l) (map f cs) ≡ flat_map g (map part_of cs)
of_parts f g same [] = refl
of_parts f g same (c ∷ cs) = ap (λ l. l ++ flat_map (λ k. k) (map f cs)) (same c) ∙ ap (λ l. g (part_of c) ++ l) (of_parts f g same cs)

module _ (trace : Trace) where
  no_entries : (n : ℕ) → AreEmpty (entries_of (first_cpus trace n))
  no_entries zero = tt
  no_entries (suc n) = empty_push (λ c. c.entries) (first_cpus trace n) (first_cpu trace n) (no_entries n) refl

  no_checks : (n : ℕ) → AreEmpty (checks_of (first_cpus trace n))
  no_checks zero = tt
  no_checks (suc n) = empty_push (λ c. c.checks) (first_cpus trace n) (first_cpu trace n) (no_checks n) refl

  opening_entries : AreEmpty (entries_of (opening trace).cpus)
  unfolding opening
  opening_entries = no_entries trace.cpus

  opening_checks : AreEmpty (checks_of (opening trace).cpus)
  unfolding opening
  opening_checks = no_checks trace.cpus

  journal_cpus : (journal_of trace).cpus ≡ map part_of (last_state trace).cpus
  unfolding journal_of
  journal_cpus = refl

  journal_ending : (journal_of trace).ending ≡ ending_of (last_state trace)
  unfolding journal_of
  journal_ending = refl

  module _ (cpus : (state_after trace most_moves).cpus ≡ (last_state trace).cpus) where
    told_entries : entries_between (state_after trace 0) (state_after trace most_moves) ≡ entries_in (journal_of trace)
    told_entries =
        ap (λ (s : State). entries_between s (state_after trace most_moves)) (first_state trace)
        ∙ (gained_all (entries_of (opening trace).cpus) (entries_of (state_after trace most_moves).cpus) opening_entries
        ∙ (ap (λ (cs : List Cpu). flat_map (λ l. l) (entries_of cs)) cpus
        ∙ (of_parts (λ c. c.entries) (λ part. part.entries) (λ c. refl) (last_state trace).cpus
        ∙ ap (λ (parts : List CpuJournal). flat_map (λ part. part.entries) parts) (sym journal_cpus))))

    told_checks : checks_between (state_after trace 0) (state_after trace most_moves) ≡ checks_in (journal_of trace)
    told_checks =
        ap (λ (s : State). checks_between s (state_after trace most_moves)) (first_state trace)
        ∙ (gained_all (checks_of (opening trace).cpus) (checks_of (state_after trace most_moves).cpus) opening_checks
        ∙ (ap (λ (cs : List Cpu). flat_map (λ l. l) (checks_of cs)) cpus
        ∙ (of_parts (λ c. c.checks) (λ part. part.checks) (λ c. refl) (last_state trace).cpus
        ∙ ap (λ (parts : List CpuJournal). flat_map (λ part. part.checks) parts) (sym journal_cpus))))

    sums_told : (every : ℕ) → SumUp trace (spans every (state_after trace) most_moves) (state_after trace 0) (state_after trace most_moves)
        → SumsAreTold trace (spans every (state_after trace) most_moves) (journal_of trace)
    sums_told every sums = record {
      dirtied = λ k. sums.dirtied k ∙ ap (count_by (is_dirtied_in trace k)) told_entries;
      written = λ k. sums.written k ∙ ap (count_by (is_written_in trace k)) told_entries;
      pages = λ t. sums.pages t ∙ ap (count_by (is_write_by t)) told_entries;
      checks = λ t. sums.checks t ∙ ap (count_by (is_check_of t)) told_checks;
      pauses = λ t. sums.pauses t ∙ ap (count_by (is_pause_of t)) told_checks;
      ticks = λ t. sums.ticks t ∙ ap (sum_by (pause_after t)) told_checks;
    }

sums_up : RunsSumUp → (trace : Trace) (every : ℕ) → SumUp trace (spans every (state_after trace) most_moves) (state_after trace 0) (state_after trace most_moves)
unfolding RunsSumUp
sums_up up trace every = up trace every (state_after trace) most_moves ((runs_tell_in_order trace).told every most_moves)

forecast_dirtied : (trace : Trace) (every : ℕ) → (forecast trace every).totals.dirtied ≡ fresh_of (map part_of (state_after trace most_moves).cpus)
unfolding forecast
forecast_dirtied trace every = refl

forecast_cleaned : (trace : Trace) (every : ℕ) → (forecast trace every).totals.cleaned ≡ done_of (map part_of (state_after trace most_moves).cpus)
unfolding forecast
forecast_cleaned trace every = refl

forecast_ending : (trace : Trace) (every : ℕ) → (forecast trace every).ending ≡ ending_of (state_after trace most_moves)
unfolding forecast
forecast_ending trace every = refl

not_spent : (s : State) → ending_of s ≢ ending.Spent → s.spent ≡ false
not_spent s other = by_test s.spent refl
  where
    by_test : (b : Bool) → s.spent ≡ b → s.spent ≡ false
    by_test true is = absurd (other (ap (λ (b : Bool). cond b ending.Spent (cond (nat_lt 0 s.stopped) ending.Halted ending.Done)) is))
    by_test false is = is

pub as_replayed : RunsSumUp → AsReplayed
as_replayed up = λ trace lawful other.
    let unspent = not_spent (last_state trace) (λ e. other (journal_ending trace ∙ e)) in
    let over = (ends.runs_end trace lawful (stays_in_range trace lawful)).0 in
    let like = last_like trace unspent over in
    let cpus : (state_after trace most_moves).cpus ≡ (last_state trace).cpus = ap (λ (s : State). s.cpus) like.is in
    record {
      at = alike_at trace unspent;
      last = ap (λ (u : State). record u { most = (last_state trace).most }) like.is;
      sums = λ every. sums_told trace cpus every (sums_up up trace every);
      dirtied = λ every. forecast_dirtied trace every
          ∙ (ap (λ (cs : List Cpu). fresh_of (map part_of cs)) cpus ∙ ap fresh_of (sym (journal_cpus trace)));
      cleaned = λ every. forecast_cleaned trace every
          ∙ (ap (λ (cs : List Cpu). done_of (map part_of cs)) cpus ∙ ap done_of (sym (journal_cpus trace)));
      ending = λ every. forecast_ending trace every ∙ (ap ending_of like.is ∙ sym (journal_ending trace));
    }
