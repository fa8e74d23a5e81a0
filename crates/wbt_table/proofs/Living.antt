-- How a table begins, and what splits and joins do to the views.
use Rattle.std.proofs.Common.{◌≡◌, ◌≢◌, ℕ, zero, suc, cond, eqb, List, [], ◌∷◌, ◌++◌, length, replicate, set, Some, sym, refl, ap, ◌∙◌, subst}
use mathlib.Core.Option.{some, some-injective, some-ne-none}
use lib.ListN.{get_elem?}
use Rattle.atomic_table.specs.Table as table
use Rattle.atomic_table.specs.Table.{State}
use Rattle.wbt_table.proofs.Common.{CpuRecord, TimerRecord, no_record, opening, setting, IsLayout, Has, HasLog, Kept, first_view, both_of, log_of, timer_log_of}
use Rattle.wbt_grant.proofs.Whole.{opening_keeps}
use Rattle.wbt_table.specs.declared.layout.Layout.{Layout}
use Rattle.wbt_table.specs.declared.rule.View.{View}
use Rattle.wbt_table.specs.declared.rule.Logged.{Logged}
use Rattle.wbt_table.specs.Layout.{opening_words}
use Rattle.wbt_table.specs.Rule.{without, alone, without_timer, timer_alone, spent_view}
use Rattle.wbt_table.proofs.Seating.{some_is}
use Rattle.wbt_table.proofs.Holding.{AreHeld, IsHeldOnce, held_apart, held_alone, held_together, timer_stays, timer_goes, timer_together}
use Rattle.wbt_table.proofs.Opening.{lawful_setting, words_fit, long_opening, opening_shown}

module _ (key : Layout) (s : State (Unit {0}) View) (k : Kept key s) where
  abbrev cpu_at : (c : ℕ) → CpuRecord
  cpu_at c = k.state.cpu c

  abbrev log_at : (c : ℕ) → List Logged
  log_at c = log_of (setting key) c k.past

  -- the same words, records and logs in other views
  in_views : (views : List View) (owner : ℕ → ℕ) (timer_owner : ℕ) → AreHeld (λ (w : View). w.cpus) cpu_at views owner → AreHeld (λ (w : View). w.logs) log_at views owner
      → IsHeldOnce (λ (w : View). w.timer) k.state.timer views timer_owner → IsHeldOnce (λ (w : View). w.timer_log) (timer_log_of k.past) views timer_owner
      → Kept key record { words = s.words; homes = s.homes; views = views }
  in_views views owner timer_owner seated told timed timer_told = record {
    state = k.state;
    lawful = k.lawful;
    fits = k.fits;
    past = k.past;
    are_made = k.are_made;
    state_is = k.state_is;
    shows = k.shows;
    rule = k.rule;
    long = k.long;
    owner = owner;
    seated = seated;
    told = told;
    timer_owner = timer_owner;
    timed = timed;
    timer_told = timer_told;
  }

  -- a CPU goes to a new view
  pub splits : (id c : ℕ) (v : View) (r : CpuRecord) → get_elem? s.views id ≡ some v → Has v.cpus c r
      → Kept key record { words = s.words; homes = s.homes; views = set s.views id (without c v) ++ alone c v ∷ [] }
  splits id c v r at has = let here = k.seated id c v r at has in
      in_views (set s.views id (without c v) ++ alone c v ∷ []) (λ d. cond (eqb d c) (length s.views) (k.owner d)) k.timer_owner
      (held_apart (λ (w : View). w.cpus) cpu_at s.views k.owner k.seated id c v (without c v) (alone c v) at here.0 refl refl)
      (held_apart (λ (w : View). w.logs) log_at s.views k.owner k.told id c v (without c v) (alone c v) at here.0 refl refl)
      (timer_stays (λ (w : View). w.timer) k.state.timer s.views k.timer_owner k.timed id v (without c v) (alone c v) at refl refl)
      (timer_stays (λ (w : View). w.timer_log) (timer_log_of k.past) s.views k.timer_owner k.timer_told id v (without c v) (alone c v) at refl refl)

  -- the timer does
  pub timer_splits : (id : ℕ) (v : View) (r : TimerRecord) → get_elem? s.views id ≡ some v → v.timer ≡ Some r
      → Kept key record { words = s.words; homes = s.homes; views = set s.views id (without_timer v) ++ timer_alone v ∷ [] }
  timer_splits id v r at has = let here = k.timed id v r at has in
      in_views (set s.views id (without_timer v) ++ timer_alone v ∷ []) k.owner (length s.views)
      (held_alone (λ (w : View). w.cpus) cpu_at s.views k.owner k.seated id (length v.cpus) v (without_timer v) (timer_alone v) at refl refl)
      (held_alone (λ (w : View). w.logs) log_at s.views k.owner k.told id (length v.logs) v (without_timer v) (timer_alone v) at refl refl)
      (timer_goes (λ (w : View). w.timer) k.state.timer s.views k.timer_owner k.timed id v (without_timer v) (timer_alone v) at here.0 refl refl)
      (timer_goes (λ (w : View). w.timer_log) (timer_log_of k.past) s.views k.timer_owner k.timer_told id v (without_timer v) (timer_alone v) at here.0 refl refl)

  -- one view gets what another had
  pub joins : (id other : ℕ) (v w : View) → get_elem? s.views id ≡ some v → other ≢ id → get_elem? (set s.views id (both_of v w)) other ≡ some w
      → Kept key record { words = s.words; homes = s.homes; views = set (set s.views id (both_of v w)) other spent_view }
  joins id other v w at ne there =
      in_views (set (set s.views id (both_of v w)) other spent_view) (λ d. cond (eqb (k.owner d) other) id (k.owner d)) (cond (eqb k.timer_owner other) id k.timer_owner)
      (held_together (λ (x : View). x.cpus) cpu_at s.views k.owner k.seated id other v w (both_of v w) spent_view at ne there refl refl)
      (held_together (λ (x : View). x.logs) log_at s.views k.owner k.told id other v w (both_of v w) spent_view at ne there refl refl)
      (timer_together (λ (x : View). x.timer) k.state.timer s.views k.timer_owner k.timed id other v w (both_of v w) spent_view at ne there refl refl)
      (timer_together (λ (x : View). x.timer_log) (timer_log_of k.past) s.views k.timer_owner k.timer_told id other v w (both_of v w) spent_view at ne there refl refl)

only_view : (v w : View) (j : ℕ) → get_elem? (v ∷ []) j ≡ some w → (j ≡ 0) × (v ≡ w)
only_view v w zero e = (refl, some-injective v w e)
only_view v w (suc j) e = absurd (some-ne-none w (sym e))

pub at_replicate : {A : Type 0} (n : ℕ) (x y : A) (i : ℕ) → get_elem? (replicate n x) i ≡ some y → x ≡ y
at_replicate zero x y i e = absurd (some-ne-none y (sym e))
at_replicate (suc n) x y zero e = some-injective x y e
at_replicate (suc n) x y (suc i) e = at_replicate n x y i e

-- the rule holds when the table is made
pub opened : (key : Layout) → IsLayout key → Kept key (table.opening (opening_words key) [] (first_view key))
opened key ok = record {
  state = opening (setting key);
  lawful = lawful_setting key ok;
  fits = words_fit key ok;
  past = [];
  are_made = tt;
  state_is = refl;
  shows = opening_shown key ok;
  rule = opening_keeps (setting key) (lawful_setting key ok);
  long = long_opening key;
  owner = λ c. 0;
  seated = λ j c v r at has. let t = only_view (first_view key) v j at in
      let has' : Has (replicate key.cpus (Some no_record)) c r = subst (λ (z : View). Has z.cpus c r) (sym t.1) has in
      (sym t.0, some_is no_record r (at_replicate key.cpus (Some no_record) (Some r) c has'));
  told = λ j c v log at has. let t = only_view (first_view key) v j at in
      let has' : HasLog (replicate key.cpus (Some [])) c log = subst (λ (z : View). HasLog z.logs c log) (sym t.1) has in
      (sym t.0, some_is [] log (at_replicate key.cpus (Some []) (Some log) c has'));
  timer_owner = 0;
  timed = λ j v r at is. let t = only_view (first_view key) v j at in (sym t.0, some_is (opening (setting key)).timer r (ap (λ (z : View). z.timer) t.1 ∙ is));
  timer_told = λ j v log at is. let t = only_view (first_view key) v j at in (sym t.0, some_is [] log (ap (λ (z : View). z.timer_log) t.1 ∙ is));
}
