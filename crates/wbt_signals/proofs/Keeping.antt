-- Each step keeps the rule of signals.
use Rattle.std.proofs.Common.{◌≡◌, ◌≢◌, ℕ, suc, ◌+◌, ◌-◌, ◌%◌, ◌^◌, ◌<◌, ◌≤◌, ◌==◌, Bool, true, false, not, ◌||◌, true≢false, List, [], ◌∷◌, length, get_or, set, sym, refl, ap, ◌∙◌, subst, arith, length-set, eq-eqb, ne_eqb}
use Rattle.std.proofs.lemmas.Bool.{eqb-true}
use Rattle.std.proofs.lemmas.List.{set-get_or}
use mathlib.Core.Option.{none, some}
use mathlib.Core.Logic.{dite}
use native.Mathlib.Decide.{ℕ_discrete}
use lib.ListN.{get_elem?}
use Rattle.atomic_table.proofs.Lists.{set_again, set_else}
use Rattle.atomic_table.specs.Table.{State, step, keeps, opening, stepped, Allows, Joins, Splits}
use Rattle.wbt_signals.specs.declared.rule.Act.{Act}
use Rattle.wbt_signals.specs.declared.rule.Act.TheVariants.{Ring, Listen, Stop, Count, Leave, Look}
use Rattle.wbt_signals.specs.declared.rule.Note.{Note}
use Rattle.wbt_signals.specs.declared.rule.View.{View}
use Rattle.wbt_signals.specs.History.{IsHistory, IsNoted, history_of, leaves as leaves_of, many, rings as rings_of, stops as stops_of}
use Rattle.wbt_signals.specs.Signals.{AllFit, Counted, Fits, HasHistory, Kept, Learned, Left, Listened, Looked, Rang, Sat, Stopped, all_rings, all_there, all_writes, first_view, joined, left_view, right_view, spent, total}
use Rattle.wbt_signals.proofs.Histories.{has_all, some_at}
use Rattle.wbt_signals.proofs.Sums.{at_most, fits_at, fits_moved, fits_one, fits_set, others_poor, own_rings, own_there, own_writes, total_one, total_set}
use Rattle.wbt_signals.proofs.Telling.{its_notes, noted, nothing_told, told, told_parts, told_together}

abbrev St : Type 0
St = State (Unit {0}) View

abbrev bell_of : (s : St) → ℕ
bell_of s = get_or s.words 0 0

abbrev writers_of : (s : St) → ℕ
writers_of s = get_or s.words 1 0

abbrev there_of : (s : St) → ℕ
there_of s = get_or s.words 2 0

-- what fits the words of a state
abbrev FitsIn : (workers : ℕ) (s : St) (view : View) → Type 0
FitsIn workers s view = Fits workers (bell_of s) (writers_of s) (there_of s) view

-- nobody has rung, and all write
pub opened : (workers : ℕ) → Kept workers (opening (0 ∷ workers ∷ workers ∷ []) [] (first_view workers))
unfolding total
opened workers = record {
  three = refl;
  rung = λ rung. absurd (rung refl);
  rang = λ some_rang. absurd (omega (arith, some_rang));
  writers = omega arith;
  there = omega arith;
  staked = refl;
  fits = (
    record {
      poor = λ none. absurd (omega (arith, none));
      known = λ _. refl;
      heard = λ heard. absurd (true≢false (sym heard));
      quiet = λ quiet. absurd (true≢false (sym quiet));
      gone = λ gone. absurd (true≢false (sym gone));
    },
    tt,
  );
  history = nothing_told workers;
}

-- ---- answers

not_zero : (n : ℕ) → not (n == 0) ≡ true → n ≢ 0
not_zero n is zeroed = true≢false (sym is ∙ ap not (eq-eqb n 0 zeroed))

is_not_zero : (n : ℕ) → n ≢ 0 → not (n == 0) ≡ true
is_not_zero n ne = ap not (ne_eqb n 0 ne)

some_or_none : (a b : ℕ) → (a ≢ 0 → 1 ≤ b) → (1 ≤ b → a ≢ 0) → not (a == 0) ≡ not (b == 0)
some_or_none a b one other = dite (ℕ_discrete a 0)
    (λ e. dite (ℕ_discrete b 0) (λ f. ap (λ (n : ℕ). not (n == 0)) (e ∙ sym f)) (λ ne. absurd (other (omega (arith, ne)) e)))
    (λ ne. let some_ = one ne in is_not_zero a ne ∙ sym (is_not_zero b (λ f. omega (arith, some_, f))))

all_or_not : (word said workers : ℕ) → word + said ≡ workers → (word == 0) ≡ (said == workers)
all_or_not word said workers sum = dite (ℕ_discrete word 0)
    (λ e. eq-eqb word 0 e ∙ sym (eq-eqb said workers (omega (arith, sum, e))))
    (λ ne. ne_eqb word 0 ne ∙ sym (ne_eqb said workers (λ e. ne (omega (arith, sum, e)))))

module _ (workers : ℕ) (s : St) (kept : Kept workers s) where
  abbrev all : List Note
  all = history_of kept.history.past

  heard_then : not (bell_of s == 0) ≡ not (many rings_of all == 0)
  heard_then = let same = kept.history.rings in some_or_none (bell_of s) (many rings_of all)
      (λ rung. let some_ = kept.rung rung in omega (arith, some_, same))
      (λ some_. kept.rang (omega (arith, some_, same)))

  quiet_then : (writers_of s == 0) ≡ (many stops_of all == workers)
  quiet_then = let count = kept.writers in let sum = kept.history.stops in all_or_not (writers_of s) (many stops_of all) workers (omega (arith, count, sum))

  gone_then : (there_of s == 0) ≡ (many leaves_of all == workers)
  gone_then = let count = kept.there in let sum = kept.history.leaves in all_or_not (there_of s) (many leaves_of all) workers (omega (arith, count, sum))

-- ---- steps

-- where the words become these, and one view another with as many stakes
record Places (workers : ℕ) (s : St) (id : ℕ) (me : Sat) (words : List ℕ) (w : View) : Type 0 where
  long : length words ≡ length s.words
  at : get_elem? s.views id ≡ some me.0
  same : w.stakes ≡ me.0.stakes
  rings : get_or words 0 0 ≢ 0 → 1 ≤ all_rings (set s.views id w)
  rang : 1 ≤ all_rings (set s.views id w) → get_or words 0 0 ≢ 0
  writers : get_or words 1 0 ≡ all_writes (set s.views id w)
  there : get_or words 2 0 ≡ all_there (set s.views id w)
  fits : AllFit workers (get_or words 0 0) (get_or words 1 0) (get_or words 2 0) (set s.views id w)
  history : HasHistory workers (set s.views id w)

placed : (workers : ℕ) (s : St) (id : ℕ) (me : Sat) (words : List ℕ) (w : View) → Kept workers s → Places workers s id me words w
    → Kept workers (record s { words = words; views = set s.views id w })
placed workers s id me words w kept p =
    let sums = total_set (λ v. v.stakes) s.views id me.0 w p.at in
    let all = kept.staked in
    let same = p.same in record {
      three = p.long ∙ kept.three;
      rung = p.rings;
      rang = p.rang;
      writers = p.writers;
      there = p.there;
      staked = omega arith;
      fits = p.fits;
      history = p.history;
    }

-- a view that says as much as another
record AsMuch (me w : View) : Type 0 where
  stakes : w.stakes ≡ me.stakes
  rings : w.rings ≡ me.rings
  writes : w.writes ≡ me.writes
  there : w.there ≡ me.there

-- a step that leaves all words
unmoved : (workers : ℕ) (s : St) (id i : ℕ) (me : Sat) (w : View) → Kept workers s → get_elem? s.views id ≡ some me.0 → i < 3 → AsMuch me.0 w
    → FitsIn workers s w → HasHistory workers (set s.views id w) → Kept workers (stepped s i (get_or s.words i 0) id me.1 w keeps)
unmoved workers s id i me w kept at low much fits history =
    let same : set s.words i (get_or s.words i 0) ≡ s.words = set-get_or s.words i 0 in
    let by_rings = total_set (λ v. v.rings) s.views id me.0 w at in
    let by_writes = total_set (λ v. v.writes) s.views id me.0 w at in
    let by_there = total_set (λ v. v.there) s.views id me.0 w at in
    let rings = much.rings in
    let writes = much.writes in
    let there = much.there in
    let count = kept.writers in
    let left = kept.there in
    subst (λ (words : List ℕ). Kept workers (record s { words = words; views = set s.views id w })) (sym same) (placed workers s id me s.words w kept (record {
      long = refl;
      at = at;
      same = much.stakes;
      rings = λ rung. let some_rang = kept.rung rung in omega (arith, some_rang, by_rings, rings);
      rang = λ some_rang. kept.rang (omega (arith, some_rang, by_rings, rings));
      writers = omega (arith, by_writes, writes, count);
      there = omega (arith, by_there, there, left);
      fits = fits_set workers (bell_of s) (writers_of s) (there_of s) s.views id w kept.fits fits;
      history = history;
    }))

one_is_not : suc 0 ≢ 0
one_is_not e = omega arith

module _ (words : List ℕ) (n : ℕ) where
  abbrev AreWords : (i bell writers there : ℕ) → Type 0
  AreWords i bell writers there = (get_or (set words i n) 0 0 ≡ bell) × (get_or (set words i n) 1 0 ≡ writers) × (get_or (set words i n) 2 0 ≡ there)

first_set : (words : List ℕ) (n : ℕ) → length words ≡ 3 → AreWords words n 0 n (get_or words 1 0) (get_or words 2 0)
first_set [] n three = absurd (omega arith)
first_set (x ∷ words) n three = (refl, refl, refl)

second_set : (words : List ℕ) (n : ℕ) → length words ≡ 3 → AreWords words n 1 (get_or words 0 0) n (get_or words 2 0)
second_set [] n three = absurd (omega arith)
second_set (x ∷ []) n three = absurd (omega arith)
second_set (x ∷ y ∷ words) n three = (refl, refl, refl)

third_set : (words : List ℕ) (n : ℕ) → length words ≡ 3 → AreWords words n 2 (get_or words 0 0) (get_or words 1 0) n
third_set [] n three = absurd (omega arith)
third_set (x ∷ []) n three = absurd (omega arith)
third_set (x ∷ y ∷ []) n three = absurd (omega arith)
third_set (x ∷ y ∷ z ∷ words) n three = (refl, refl, refl)

-- the notes of a voice with a stake are of as many workers as the signals
of_all : (workers : ℕ) (s : St) (me : View) → FitsIn workers s me → 1 ≤ me.stakes → workers ≡ me.workers
of_all workers s me fits stake = sym (fits.known stake)

module _ (workers slots id : ℕ) (me : Sat) (stake : 1 ≤ me.0.stakes) where
  pub rings : Allows (Kept workers) slots id me 0 (λ _. 1) (λ _. Rang (step slots 0 1 0 none) me 1)
  rings s kept _ at small =
      let own = fits_at workers (bell_of s) (writers_of s) (there_of s) s.views id me.0 kept.fits at in
      let notes = its_notes workers s.views id me.0 Ring kept.history at tt in
      let w : View = record me.0 { rings = me.0.rings + 1; notes = notes } in
      let by_rings = total_set (λ v. v.rings) s.views id me.0 w at in
      let by_writes = total_set (λ v. v.writes) s.views id me.0 w at in
      let by_there = total_set (λ v. v.there) s.views id me.0 w at in
      let words = first_set s.words 1 kept.three in
      let count = kept.writers in
      let left = kept.there in (
        w,
        keeps,
        tt,
        placed workers s id me (set s.words 0 1) w kept (record {
          long = length-set s.words 0 1;
          at = at;
          same = refl;
          rings = λ _. omega (arith, by_rings);
          rang = λ _ none. one_is_not (sym words.0 ∙ none);
          writers = words.1 ∙ count ∙ omega (arith, by_writes);
          there = words.2 ∙ left ∙ omega (arith, by_there);
          fits = fits_set workers (get_or (set s.words 0 1) 0 0) (get_or (set s.words 0 1) 1 0) (get_or (set s.words 0 1) 2 0) s.views id w
              (fits_moved workers (bell_of s) (writers_of s) (there_of s) (get_or (set s.words 0 1) 0 0) (get_or (set s.words 0 1) 1 0) (get_or (set s.words 0 1) 2 0) s.views
              (λ _ none. one_is_not (sym words.0 ∙ none)) (λ none. words.1 ∙ none) (λ none. words.2 ∙ none) kept.fits)
              (record {
                poor = λ none. absurd (omega (arith, none, stake));
                known = own.known;
                heard = λ _ none. one_is_not (sym words.0 ∙ none);
                quiet = λ quiet. words.1 ∙ own.quiet quiet;
                gone = λ gone. words.2 ∙ own.gone gone;
              });
          history = told workers s.views id me.0 Ring kept.history at tt w (record { rings = refl; stops = omega arith; leaves = omega arith; noted = refl });
        }),
        (refl, subst (λ (n : ℕ). IsNoted n Ring me.0.notes notes) (of_all workers s me.0 own stake) (noted workers s.views id me.0 Ring kept.history at tt)),
      )

  pub listens : Allows (Kept workers) slots id me 0 (λ n. n) (Listened (step slots 0 0 0 none) me)
  listens s kept _ at small =
      let n : ℕ = bell_of s in
      let own = fits_at workers n (writers_of s) (there_of s) s.views id me.0 kept.fits at in
      let act : Act = Listen (not (n == 0)) in
      let then = heard_then workers s kept in
      let notes = its_notes workers s.views id me.0 act kept.history at then in
      let w : View = record me.0 { heard = not (n == 0); notes = notes } in
      let mine = at_most (λ v. v.rings) s.views id me.0 at in (
        w,
        keeps,
        tt,
        unmoved workers s id 0 me w kept at (omega arith) (record { stakes = refl; rings = refl; writes = refl; there = refl })
            (record { poor = λ none. absurd (omega (arith, none, stake)); known = own.known; heard = not_zero n; quiet = own.quiet; gone = own.gone })
            (told workers s.views id me.0 act kept.history at then w (record { rings = omega arith; stops = omega arith; leaves = omega arith; noted = refl })),
        (
          refl,
          subst (λ (k : ℕ). IsNoted k act me.0.notes notes) (of_all workers s me.0 own stake) (noted workers s.views id me.0 act kept.history at then),
          (λ heard. is_not_zero n (own.heard heard)),
          (λ rang. is_not_zero n (kept.rang (omega (arith, rang, mine)))),
          λ rung whole.
              let some_rang = kept.rung (not_zero n rung) in
              let all = own_rings workers n (writers_of s) (there_of s) s.views id me.0 kept.fits at (kept.staked ∙ sym whole) in
              omega (arith, some_rang, all),
        ),
      )

  pub counts : Allows (Kept workers) slots id me 1 (λ n. n) (Counted (step slots 1 0 0 none) me)
  counts s kept _ at small =
      let n : ℕ = writers_of s in
      let own = fits_at workers (bell_of s) n (there_of s) s.views id me.0 kept.fits at in
      let act : Act = Count (n == 0) in
      let then = quiet_then workers s kept in
      let notes = its_notes workers s.views id me.0 act kept.history at then in
      let w : View = record me.0 { quiet = n == 0; notes = notes } in
      let mine = at_most (λ v. v.writes) s.views id me.0 at in
      let count = kept.writers in (
        w,
        keeps,
        tt,
        unmoved workers s id 1 me w kept at (omega arith) (record { stakes = refl; rings = refl; writes = refl; there = refl })
            (record { poor = λ none. absurd (omega (arith, none, stake)); known = own.known; heard = own.heard; quiet = eqb-true n 0; gone = own.gone })
            (told workers s.views id me.0 act kept.history at then w (record { rings = omega arith; stops = omega arith; leaves = omega arith; noted = refl })),
        (
          refl,
          subst (λ (k : ℕ). IsNoted k act me.0.notes notes) (of_all workers s me.0 own stake) (noted workers s.views id me.0 act kept.history at then),
          (λ quiet. eq-eqb n 0 (own.quiet quiet)),
          (λ none. let zero_ = eqb-true n 0 none in omega (arith, mine, count, zero_)),
          λ whole none.
              let all = own_writes workers (bell_of s) n (there_of s) s.views id me.0 kept.fits at (kept.staked ∙ sym whole) in
              eq-eqb n 0 (omega (arith, all, count, none)),
        ),
      )

  pub looks : Allows (Kept workers) slots id me 2 (λ n. n) (Looked (step slots 2 0 0 none) me)
  looks s kept _ at small =
      let n : ℕ = there_of s in
      let own = fits_at workers (bell_of s) (writers_of s) n s.views id me.0 kept.fits at in
      let act : Act = Look (n == 0) in
      let then = gone_then workers s kept in
      let notes = its_notes workers s.views id me.0 act kept.history at then in
      let w : View = record me.0 { gone = n == 0; notes = notes } in
      let mine = at_most (λ v. v.there) s.views id me.0 at in
      let count = kept.there in (
        w,
        keeps,
        tt,
        unmoved workers s id 2 me w kept at (omega arith) (record { stakes = refl; rings = refl; writes = refl; there = refl })
            (record { poor = λ none. absurd (omega (arith, none, stake)); known = own.known; heard = own.heard; quiet = own.quiet; gone = eqb-true n 0 })
            (told workers s.views id me.0 act kept.history at then w (record { rings = omega arith; stops = omega arith; leaves = omega arith; noted = refl })),
        (
          refl,
          subst (λ (k : ℕ). IsNoted k act me.0.notes notes) (of_all workers s me.0 own stake) (noted workers s.views id me.0 act kept.history at then),
          (λ gone. eq-eqb n 0 (own.gone gone)),
          (λ none. let zero_ = eqb-true n 0 none in omega (arith, mine, count, zero_)),
          λ whole none.
              let all = own_there workers (bell_of s) (writers_of s) n s.views id me.0 kept.fits at (kept.staked ∙ sym whole) in
              eq-eqb n 0 (omega (arith, all, count, none)),
        ),
      )

  fallen : (n : ℕ) → 1 ≤ n → n < 18446744073709551616 → (n + (2 ^ 64 - 1)) % 2 ^ 64 + 1 ≡ n
  fallen n some_ small = omega arith

  pub stops : 1 ≤ me.0.writes → Allows (Kept workers) slots id me 1 (λ n. (n + (2 ^ 64 - 1)) % 2 ^ 64) (Stopped (step slots 1 1 0 none) me)
  stops some_left s kept _ at small =
      let n : ℕ = writers_of s in
      let fits : n < 18446744073709551616 = small in
      let own = fits_at workers (bell_of s) n (there_of s) s.views id me.0 kept.fits at in
      let notes = its_notes workers s.views id me.0 Stop kept.history at tt in
      let w : View = record me.0 { writes = me.0.writes - 1; notes = notes } in
      let m : ℕ = (n + (2 ^ 64 - 1)) % 2 ^ 64 in
      let by_rings = total_set (λ v. v.rings) s.views id me.0 w at in
      let by_writes = total_set (λ v. v.writes) s.views id me.0 w at in
      let by_there = total_set (λ v. v.there) s.views id me.0 w at in
      let mine = at_most (λ v. v.writes) s.views id me.0 at in
      let words = second_set s.words m kept.three in
      let count = kept.writers in
      let left = kept.there in
      let one_less : m + 1 ≡ n = fallen n (omega (arith, mine, count)) fits in
      let now_none : n ≡ 0 → m ≡ 0 = λ none. omega (arith, one_less, none) in (
        w,
        keeps,
        tt,
        placed workers s id me (set s.words 1 m) w kept (record {
          long = length-set s.words 1 m;
          at = at;
          same = refl;
          rings = λ rung. let some_rang = kept.rung (λ none. rung (words.0 ∙ none)) in omega (arith, some_rang, by_rings);
          rang = λ some_rang none. kept.rang (omega (arith, some_rang, by_rings)) (sym words.0 ∙ none);
          writers = words.1 ∙ omega (arith, by_writes, count, one_less);
          there = words.2 ∙ left ∙ omega (arith, by_there);
          fits = fits_set workers (get_or (set s.words 1 m) 0 0) (get_or (set s.words 1 m) 1 0) (get_or (set s.words 1 m) 2 0) s.views id w
              (fits_moved workers (bell_of s) n (there_of s) (get_or (set s.words 1 m) 0 0) (get_or (set s.words 1 m) 1 0) (get_or (set s.words 1 m) 2 0) s.views
              (λ rung none. rung (sym words.0 ∙ none)) (λ none. words.1 ∙ now_none none) (λ none. words.2 ∙ none) kept.fits)
              (record {
                poor = λ none. absurd (omega (arith, none, stake));
                known = own.known;
                heard = λ heard none. own.heard heard (sym words.0 ∙ none);
                quiet = λ quiet. words.1 ∙ now_none (own.quiet quiet);
                gone = λ gone. words.2 ∙ own.gone gone;
              });
          history = told workers s.views id me.0 Stop kept.history at tt w (record { rings = omega arith; stops = omega (arith, some_left); leaves = omega arith; noted = refl });
        }),
        (refl, subst (λ (k : ℕ). IsNoted k Stop me.0.notes notes) (of_all workers s me.0 own stake) (noted workers s.views id me.0 Stop kept.history at tt)),
      )

  pub leaves : 1 ≤ me.0.there → Allows (Kept workers) slots id me 2 (λ n. (n + (2 ^ 64 - 1)) % 2 ^ 64) (Left (step slots 2 1 0 none) me)
  leaves some_left s kept _ at small =
      let n : ℕ = there_of s in
      let fits : n < 18446744073709551616 = small in
      let own = fits_at workers (bell_of s) (writers_of s) n s.views id me.0 kept.fits at in
      let notes = its_notes workers s.views id me.0 Leave kept.history at tt in
      let w : View = record me.0 { there = me.0.there - 1; notes = notes } in
      let m : ℕ = (n + (2 ^ 64 - 1)) % 2 ^ 64 in
      let by_rings = total_set (λ v. v.rings) s.views id me.0 w at in
      let by_writes = total_set (λ v. v.writes) s.views id me.0 w at in
      let by_there = total_set (λ v. v.there) s.views id me.0 w at in
      let mine = at_most (λ v. v.there) s.views id me.0 at in
      let words = third_set s.words m kept.three in
      let count = kept.writers in
      let left = kept.there in
      let one_less : m + 1 ≡ n = fallen n (omega (arith, mine, left)) fits in
      let now_none : n ≡ 0 → m ≡ 0 = λ none. omega (arith, one_less, none) in (
        w,
        keeps,
        tt,
        placed workers s id me (set s.words 2 m) w kept (record {
          long = length-set s.words 2 m;
          at = at;
          same = refl;
          rings = λ rung. let some_rang = kept.rung (λ none. rung (words.0 ∙ none)) in omega (arith, some_rang, by_rings);
          rang = λ some_rang none. kept.rang (omega (arith, some_rang, by_rings)) (sym words.0 ∙ none);
          writers = words.1 ∙ count ∙ omega (arith, by_writes);
          there = words.2 ∙ omega (arith, by_there, left, one_less);
          fits = fits_set workers (get_or (set s.words 2 m) 0 0) (get_or (set s.words 2 m) 1 0) (get_or (set s.words 2 m) 2 0) s.views id w
              (fits_moved workers (bell_of s) (writers_of s) n (get_or (set s.words 2 m) 0 0) (get_or (set s.words 2 m) 1 0) (get_or (set s.words 2 m) 2 0) s.views
              (λ rung none. rung (sym words.0 ∙ none)) (λ none. words.1 ∙ none) (λ none. words.2 ∙ now_none none) kept.fits)
              (record {
                poor = λ none. absurd (omega (arith, none, stake));
                known = own.known;
                heard = λ heard none. own.heard heard (sym words.0 ∙ none);
                quiet = λ quiet. words.1 ∙ own.quiet quiet;
                gone = λ gone. words.2 ∙ now_none (own.gone gone);
              });
          history = told workers s.views id me.0 Leave kept.history at tt w (record { rings = omega arith; stops = omega arith; leaves = omega (arith, some_left); noted = refl });
        }),
        (refl, subst (λ (k : ℕ). IsNoted k Leave me.0.notes notes) (of_all workers s me.0 own stake) (noted workers s.views id me.0 Leave kept.history at tt)),
      )

  -- what a voice with all stakes has noted is the history
  all_noted : (s : St) → Kept workers s → get_elem? s.views id ≡ some me.0 → me.0.stakes ≡ 2 ^ 32 → IsHistory me.0.workers me.0.notes
  all_noted s kept at whole =
      let own = fits_at workers (bell_of s) (writers_of s) (there_of s) s.views id me.0 kept.fits at in
      let h = kept.history in
      let is : me.0.notes ≡ history_of h.past = h.theirs id me.0 at ∙ has_all (length s.views) id h.past h.owned
      (λ j less apart.
      let one = some_at s.views j less in
      let poor = others_poor s.views id j me.0 one.0 at one.1 apart (kept.staked ∙ sym whole) in
      sym (h.theirs j one.0 one.1) ∙ ((fits_at workers (bell_of s) (writers_of s) (there_of s) s.views j one.0 kept.fits one.1).poor poor).3) in
      subst (λ (k : ℕ). IsHistory k me.0.notes) (of_all workers s me.0 own stake) (subst (λ (l : List Note). IsHistory workers l) (sym is) h.lawful)

  pub learns : Allows (Kept workers) slots id me 0 (λ n. n) (Learned (step slots 0 0 0 none) me)
  learns s kept _ at small =
      let n : ℕ = bell_of s in
      let own = fits_at workers n (writers_of s) (there_of s) s.views id me.0 kept.fits at in
      let my_writes = at_most (λ v. v.writes) s.views id me.0 at in
      let my_there = at_most (λ v. v.there) s.views id me.0 at in
      let count = kept.writers in
      let left = kept.there in (
        me.0,
        keeps,
        tt,
        unmoved workers s id 0 me me.0 kept at (omega arith) (record { stakes = refl; rings = refl; writes = refl; there = refl }) own
            (subst (λ (views : List View). HasHistory workers views) (sym (set_again s.views id me.0 at)) kept.history),
        (
          refl,
          (λ heard whole.
              let some_rang = kept.rung (own.heard heard) in
              let all = own_rings workers n (writers_of s) (there_of s) s.views id me.0 kept.fits at (kept.staked ∙ sym whole) in
              omega (arith, some_rang, all)),
          (λ quiet. let none = own.quiet quiet in omega (arith, my_writes, count, none)),
          (λ gone. let none = own.gone gone in omega (arith, my_there, left, none)),
          λ whole. all_noted s kept at whole,
        ),
      )

-- ---- splits and joins

pub splits : (workers id : ℕ) (v : View) → 2 ≤ v.stakes → 1 ≤ v.writes → 1 ≤ v.there → Splits (Kept workers) id v (left_view v) (right_view v)
splits workers id v stakes some_write some_there s kept at =
    let own = fits_at workers (bell_of s) (writers_of s) (there_of s) s.views id v kept.fits at in
    let mid = set s.views id (left_view v) in
    let one = total_set (λ u. u.stakes) s.views id v (left_view v) at in
    let two = total_one (λ u. u.stakes) mid (right_view v) in
    let rings_one = total_set (λ u. u.rings) s.views id v (left_view v) at in
    let rings_two = total_one (λ u. u.rings) mid (right_view v) in
    let writes_one = total_set (λ u. u.writes) s.views id v (left_view v) at in
    let writes_two = total_one (λ u. u.writes) mid (right_view v) in
    let there_one = total_set (λ u. u.there) s.views id v (left_view v) at in
    let there_two = total_one (λ u. u.there) mid (right_view v) in
    let all = kept.staked in
    let count = kept.writers in
    let left = kept.there in record {
      three = kept.three;
      rung = λ rung. let some_rang = kept.rung rung in omega (arith, some_rang, rings_one, rings_two);
      rang = λ some_rang. kept.rang (omega (arith, some_rang, rings_one, rings_two));
      writers = omega (arith, count, writes_one, writes_two, some_write);
      there = omega (arith, left, there_one, there_two, some_there);
      staked = omega (arith, all, one, two, stakes);
      fits = fits_one workers (bell_of s) (writers_of s) (there_of s) mid (right_view v)
          (fits_set workers (bell_of s) (writers_of s) (there_of s) s.views id (left_view v) kept.fits (record {
            poor = λ none. absurd (omega (arith, none, stakes));
            known = λ _. own.known (omega arith);
            heard = own.heard;
            quiet = own.quiet;
            gone = own.gone;
          }))
          (record {
            poor = λ none. absurd (omega (arith, none));
            known = λ _. own.known (omega arith);
            heard = λ heard. absurd (true≢false (sym heard));
            quiet = λ quiet. absurd (true≢false (sym quiet));
            gone = λ gone. absurd (true≢false (sym gone));
          });
      history = told_parts workers s.views id v kept.history at some_write some_there;
    }

either_is : {P : Type 0} → (a b : Bool) → (a ≡ true → P) → (b ≡ true → P) → (a || b) ≡ true → P
either_is true b one other is = one refl
either_is false b one other is = other is

pub joins : (workers id : ℕ) (v : View) (other : ℕ) (w : View) → 1 ≤ v.stakes → Joins (Kept workers) id v other w (joined v w) spent
joins workers id v other w stake s kept at apart there =
    let mid = set s.views id (joined v w) in
    let own = fits_at workers (bell_of s) (writers_of s) (there_of s) s.views id v kept.fits at in
    let its = fits_at workers (bell_of s) (writers_of s) (there_of s) s.views other w kept.fits (sym (set_else s.views id other (joined v w) apart) ∙ there) in
    let one = total_set (λ u. u.stakes) s.views id v (joined v w) at in
    let two = total_set (λ u. u.stakes) mid other w spent there in
    let rings_one = total_set (λ u. u.rings) s.views id v (joined v w) at in
    let rings_two = total_set (λ u. u.rings) mid other w spent there in
    let writes_one = total_set (λ u. u.writes) s.views id v (joined v w) at in
    let writes_two = total_set (λ u. u.writes) mid other w spent there in
    let there_one = total_set (λ u. u.there) s.views id v (joined v w) at in
    let there_two = total_set (λ u. u.there) mid other w spent there in
    let all = kept.staked in
    let count = kept.writers in
    let left = kept.there in record {
      three = kept.three;
      rung = λ rung. let some_rang = kept.rung rung in omega (arith, some_rang, rings_one, rings_two);
      rang = λ some_rang. kept.rang (omega (arith, some_rang, rings_one, rings_two));
      writers = omega (arith, count, writes_one, writes_two);
      there = omega (arith, left, there_one, there_two);
      staked = omega (arith, all, one, two);
      fits = fits_set workers (bell_of s) (writers_of s) (there_of s) mid other spent
          (fits_set workers (bell_of s) (writers_of s) (there_of s) s.views id (joined v w) kept.fits (record {
            poor = λ none. absurd (omega (arith, none, stake));
            known = λ _. own.known stake;
            heard = either_is v.heard w.heard own.heard its.heard;
            quiet = either_is v.quiet w.quiet own.quiet its.quiet;
            gone = either_is v.gone w.gone own.gone its.gone;
          }))
          (record {
            poor = λ _. (refl, refl, refl, refl);
            known = λ some_. absurd (omega (arith, some_));
            heard = λ heard. absurd (true≢false (sym heard));
            quiet = λ quiet. absurd (true≢false (sym quiet));
            gone = λ gone. absurd (true≢false (sym gone));
          });
      history = told_together workers s.views id v other w kept.history at apart there;
    }
