-- A step of the timer keeps the table's rule where the relation allows it and the word follows.
use Rattle.std.proofs.Common.{◌≡◌, ℕ, true, List, ◌∷◌, length, get_or, set, Option, Some, None, sym, refl, ap, ◌∙◌, subst, ⊎_elim, length-set}
use Rattle.atomic_table.specs.Table.{keeps, Allows}
use Rattle.wbt_table.proofs.Common.{at_set, CpuRecord, TimerRecord, Setting, IsSetting, FitsWords, State, Step, Allowed, after, Rule, is_by_timer, maker_of, timer_after, step_keeps, setting, width, Shows, Has, HasLog, Kept, GrantedStep, Sat, turn, Made, state_after, logged, timer_log_of}
use Rattle.wbt_grant.specs.Seats.{found_by, TimerAllows}
use Rattle.wbt_grant.proofs.Seats.{timer_may_is_known, timer_is_known}
use Rattle.wbt_table.specs.declared.layout.Layout.{Layout}
use Rattle.wbt_table.specs.declared.rule.View.{View}
use Rattle.wbt_table.specs.declared.rule.Logged.{Logged}
use Rattle.wbt_table.specs.Rule.{TimerFound, Ticked}
use Rattle.wbt_table.proofs.Logging.{in_timers, in_no_cpus}
use Rattle.wbt_table.proofs.Turning.{Moves}
use Rattle.wbt_table.proofs.Seating.{some_is}

-- what a kind of step of the timer owes: its word holds what the step finds, and becomes what shows the state after it
-- r is the timer's record
abbrev pub TimerMoves : (key : Layout) (t : Step) (r : TimerRecord) (k : ℕ) (f : ℕ → ℕ) → Type 0
TimerMoves key t r k f = (words : List ℕ) (s : State) → IsSetting (setting key) → FitsWords (setting key) → Rule (setting key) s → Shows key words s
    → length words ≡ width key → Allowed (setting key) t s → s.timer ≡ r
    → (found_by (setting key) t s ≡ get_or words k 0) × Shows key (set words k (f (get_or words k 0))) (after (setting key) t s)

-- a kind that owes the same whatever the record is
pub whatever_record : (key : Layout) (t : Step) (q : TimerRecord) (k : ℕ) (f : ℕ → ℕ) → ((r : CpuRecord) → Moves key t r k f) → TimerMoves key t q k f
whatever_record key t q k f moves words s ok fit rule shows long may at = moves (s.cpu (maker_of (setting key) t)) words s ok fit rule shows long may refl

-- a log that is there becomes another
abbrev log_instead : (log : List Logged) (old : Option (List Logged)) → Option (List Logged)
log_instead log None = None
log_instead log (Some old) = Some log

instead_is : (log now : List Logged) (old : Option (List Logged)) → log_instead log old ≡ Some now → log ≡ now
instead_is log now None e = absurd (cc e)
instead_is log now (Some old) e = some_is log now e

module _ (key : Layout) (slots id : ℕ) (me : Sat) (t : Step) (r : TimerRecord) where
  pub ticks : is_by_timer t ≡ true → me.0.timer ≡ Some r → TimerAllows (setting key) t r → (k : ℕ) (f : ℕ → ℕ) → TimerMoves key t r k f
      → Allows (Kept key) slots id me k f (λ n m'. Ticked (turn key t None) n me m')
  ticks by has can k f moves s kept slots_are at small =
      let set' : Setting = setting key in
      let n : ℕ = get_or s.words k 0 in
      let here = kept.timed id me.0 r at has in
      let old : State = kept.state in
      let allowed : Allowed set' t old = (timer_may_is_known set' t old by).0 (subst (TimerAllows set' t) (sym here.1) can) in
      let moved = moves s.words old kept.lawful kept.fits kept.rule kept.shows kept.long allowed here.1 in
      let known = timer_is_known set' t old kept.lawful kept.rule by in
      let new : TimerRecord = timer_after t n r in
      let one : Made = record { step = t; found = n } in
      let log : List Logged = logged (length kept.past) one ∷ timer_log_of kept.past in
      let then_allowed : Allowed set' t (state_after set' kept.past) = subst (Allowed set' t) kept.state_is allowed in
      let then_found : n ≡ found_by set' t (state_after set' kept.past) = sym moved.0 ∙ ap (found_by set' t) kept.state_is in
      let is : (after set' t old).timer ≡ new = known.timer ∙ (λ i. timer_after t (moved.0 i) (here.1 i)) in
      let v' : View = record { layout = me.0.layout; cpus = me.0.cpus; timer = Some new; logs = me.0.logs; timer_log = log_instead log me.0.timer_log } in
      let found : TimerFound (turn key t None) n r me.0 = record {
        state = old;
        lawful = kept.lawful;
        rule = kept.rule;
        record_is = here.1;
        others = λ j q has_q. (kept.seated id j me.0 q at has_q).1;
        found_is = moved.0;
      } in (
        v',
        keeps,
        tt,
        record {
          state = after set' t old;
          lawful = kept.lawful;
          fits = kept.fits;
          past = one ∷ kept.past;
          are_made = (then_allowed, then_found, kept.are_made);
          state_is = ap (after set' t) kept.state_is;
          shows = moved.1;
          rule = step_keeps set' t old kept.lawful kept.rule allowed;
          long = length-set s.words k (f n) ∙ kept.long;
          owner = kept.owner;
          seated = λ j d u x at_u has_d. ⊎_elim
              (λ e. let was = kept.seated id d me.0 x at (subst (λ (z : View). Has z.cpus d x) (sym e.1) has_d) in (was.0 ∙ sym e.0, (λ i. known.cpus i d) ∙ was.1))
              (λ e. let was = kept.seated j d u x e.1 has_d in (was.0, (λ i. known.cpus i d) ∙ was.1))
              (at_set s.views id j v' u at_u);
          told = λ j d u x at_u has_d. let same = in_no_cpus set' one kept.past by d in ⊎_elim
              (λ e. let was = kept.told id d me.0 x at (subst (λ (z : View). HasLog z.logs d x) (sym e.1) has_d) in (was.0 ∙ sym e.0, same ∙ was.1))
              (λ e. let was = kept.told j d u x e.1 has_d in (was.0, same ∙ was.1))
              (at_set s.views id j v' u at_u);
          timer_owner = kept.timer_owner;
          timer_told = λ j u x at_u told. ⊎_elim
              (λ e. (here.0 ∙ sym e.0, in_timers set' one kept.past by ∙ instead_is log x me.0.timer_log (ap (λ (z : View). z.timer_log) e.1 ∙ told)))
              (λ e. absurd (e.0 (sym (kept.timer_told j u x e.1 told).0 ∙ here.0)))
              (at_set s.views id j v' u at_u);
          timed = λ j u x at_u timed. ⊎_elim
              (λ e. (here.0 ∙ sym e.0, is ∙ some_is new x (ap (λ (z : View). z.timer) e.1 ∙ timed)))
              (λ e. absurd (e.0 (sym (kept.timed j u x e.1 timed).0 ∙ here.0)))
              (at_set s.views id j v' u at_u);
        },
        record {
          timer = λ q has_q. ap (λ (x : TimerRecord). Some (timer_after t n x)) (some_is r q (sym has ∙ has_q));
          layout = refl;
          cpus = refl;
          timer_log = λ was has_log. (
            log,
            record {
              past = kept.past;
              are_made = kept.are_made;
              allowed = then_allowed;
              found_then = then_found;
              granted = (0, (kept.timer_told id me.0 was at has_log).1);
              log = refl;
            },
            ap (log_instead log) has_log,
          );
          logs = refl;
          slots = refl;
          found = λ q has_q. subst (λ (x : TimerRecord). TimerFound (turn key t None) n x me.0) (some_is r q (sym has ∙ has_q)) found;
        },
      )

-- the same under the names that a play has, and with the word and the operation as the code has them
pub ticks_renamed : (slots id : ℕ) (me : Sat) (k k' : ℕ) (f f' : ℕ → ℕ) (key key' : Layout) (a b : GrantedStep) → k' ≡ k → ◌≡◌ {A = ℕ → ℕ} f' f → key' ≡ key → b ≡ a
    → Allows (Kept key) slots id me k f (λ n m'. Ticked a n me m') → Allows (Kept key') slots id me k' f' (λ n m'. Ticked b n me m')
ticks_renamed slots id me k k' f f' key key' a b ek ef ekey eturn h =
    subst (λ (z : ℕ × (ℕ → ℕ) × Layout × GrantedStep). Allows (Kept z.2) slots id me z.0 z.1 (λ n m'. Ticked z.3 n me m')) (λ j. (sym ek j, sym ef j, sym ekey j, sym eturn j)) h

pub ticked_back : (me me' : Sat) (n : ℕ) (a b : GrantedStep) → b ≡ a → Ticked b n me me' → Ticked a n me me'
ticked_back me me' n a b e h = subst (λ (z : GrantedStep). Ticked z n me me') e h
