-- A step of a CPU, or of the timer, keeps the table's rule where the relation allows it and the word follows.
use Rattle.std.proofs.Common.{◌≡◌, ◌≢◌, ℕ, false, List, ◌∷◌, length, get_or, set, Option, Some, None, sym, refl, ap, ◌∙◌, subst, ⊎_elim, length-set}
use mathlib.Core.Option.{some, some-injective}
use lib.ListN.{get_elem?}
use Rattle.atomic_table.specs.Table as table
use Rattle.atomic_table.specs.Table.{keeps, Allows}
use Rattle.wbt_table.proofs.Common.{at_set, put, put_same, CpuRecord, Setting, IsSetting, FitsWords, State, granted, Step, MayGrant, Allowed, after, Rule, is_by_timer, maker_of, record_after, RecordAllows, step_keeps, setting, width, Shows, Cpus, Has, put_record, HasLog, put_log, Kept, given, MayGive, GrantedStep, Sat, Found, Turned, turn, Made, Past, state_after, logged, log_of, timer_log_of, LogsGrant}
use Rattle.wbt_counter.proofs.Sums.{put_other}
use Rattle.wbt_grant.specs.Kinds as kinds
use Rattle.wbt_grant.specs.Seats.{found_by}
use Rattle.wbt_grant.proofs.Seats.{may_is_known, record_is_known}
use Rattle.wbt_table.specs.declared.layout.Layout.{Layout}
use Rattle.wbt_table.specs.declared.rule.View.{View}
use Rattle.wbt_table.specs.declared.rule.Granted.{Granted}
use Rattle.wbt_table.specs.declared.rule.Logged.{Logged}
use Rattle.wbt_table.specs.History.{AreMade}
use Rattle.wbt_table.proofs.Logging.{in_own, in_no_other, in_no_timers, put_log_cases}
use Rattle.wbt_table.proofs.Showing.{put_again, shows_parts}

-- What a kind of step owes: its word holds what the step finds, and becomes what shows the state after it. r is the record of the
-- CPU that makes it
abbrev pub Moves : (key : Layout) (t : Step) (r : CpuRecord) (k : ℕ) (f : ℕ → ℕ) → Type 0
Moves key t r k f = (words : List ℕ) (s : State) → IsSetting (setting key) → FitsWords (setting key) → Rule (setting key) s → Shows key words s
    → length words ≡ width key → Allowed (setting key) t s → s.cpu (maker_of (setting key) t) ≡ r
    → (found_by (setting key) t s ≡ get_or words k 0) × Shows key (set words k (f (get_or words k 0))) (after (setting key) t s)

pub one_record : (l : Cpus) (c : ℕ) (r q : CpuRecord) → Has l c r → Has l c q → r ≡ q
one_record l c r q a b = let e : Some r ≡ Some q = some-injective (Some r) (Some q) (sym a ∙ b) in cc

-- the state with a grant, and what was made until then
pub record Gave (key : Layout) (words : List ℕ) (c : ℕ) (grants : Option Granted) (r : CpuRecord) (s : State) (past : Past) : Type 0 where
  pub state : State
  pub rule : Rule (setting key) state
  pub shows : Shows key words state
  pub cpus : ◌≡◌ {A = ℕ → CpuRecord} state.cpu (put s.cpu c (given grants r))
  pub timer : state.timer ≡ s.timer
  pub until : Past
  pub are_made : AreMade (setting key) until
  pub state_is : state ≡ state_after (setting key) until
  pub own : LogsGrant grants (log_of (setting key) c past) (log_of (setting key) c until)
  pub others : (d : ℕ) → d ≢ c → log_of (setting key) d until ≡ log_of (setting key) d past
  pub no_timers : timer_log_of until ≡ timer_log_of past

pub gives : (key : Layout) (words : List ℕ) (c : ℕ) (grants : Option Granted) (r : CpuRecord) (s : State) (past : Past) → IsSetting (setting key)
    → Rule (setting key) s → Shows key words s → AreMade (setting key) past → s ≡ state_after (setting key) past
    → s.cpu c ≡ r → MayGive (setting key) c grants r → Gave key words c grants r s past
gives key words c None r s past ok rule shows made is at may = record {
  state = s;
  rule = rule;
  shows = shows;
  cpus = sym (put_again s.cpu c r (sym at));
  timer = refl;
  until = past;
  are_made = made;
  state_is = is;
  own = (0, refl);
  others = λ d ne. refl;
  no_timers = refl;
}
gives key words c (Some g) r s past ok rule shows made is at may =
    let set' : Setting = setting key in
    let here : s.cpu (set'.seat g.writer) ≡ r = ap s.cpu may.0 ∙ at in
    let t : Step = kinds.grant g.writer g.left in
    let one : Made = record { step = t; found = 0 } in
    let allowed : MayGrant set' g.writer g.left (s.cpu (set'.seat g.writer)) = subst (MayGrant set' g.writer g.left) (sym here) may.1 in record {
      state = after set' t s;
      rule = step_keeps set' t s ok rule allowed;
      shows = shows_parts key words s (after set' t s) shows refl refl refl refl refl refl;
      cpus = λ j. put s.cpu (may.0 j) (granted g.writer g.left (here j));
      timer = refl;
      until = one ∷ past;
      are_made = (subst (Allowed set' t) is allowed, refl, made);
      state_is = ap (after set' t) is;
      own = (length past, subst (λ (i : ℕ). log_of set' i (one ∷ past) ≡ logged (length past) one ∷ log_of set' i past) may.0 (in_own set' one past refl));
      others = λ d ne. in_no_other set' one past refl d (λ e. ne (e ∙ may.0));
      no_timers = in_no_timers set' one past refl;
    }

module _ (key : Layout) (slots id : ℕ) (me : Sat) (t : Step) (grants : Option Granted) (r : CpuRecord) where
  -- the view after a step of a CPU
  abbrev view_after : (c : ℕ) (new : CpuRecord) (log : List Logged) → View
  view_after c new log = record {
    layout = me.0.layout;
    cpus = put_record c new me.0.cpus;
    timer = me.0.timer;
    logs = put_log c log me.0.logs;
    timer_log = me.0.timer_log;
  }

  -- the step's CPU, and the views after its record became another
  seated_after : (c : ℕ) (s : table.State (Unit {0}) View) (kept : Kept key s) → get_elem? s.views id ≡ some me.0 → Has me.0.cpus c r
      → (new : CpuRecord) (log : List Logged) (cpu : ℕ → CpuRecord) → cpu c ≡ new → ((d : ℕ) → d ≢ c → cpu d ≡ kept.state.cpu d) → (j d : ℕ) (u : View) (x : CpuRecord)
      → get_elem? (set s.views id (view_after c new log)) j ≡ some u
      → Has u.cpus d x → (kept.owner d ≡ j) × (cpu d ≡ x)
  seated_after c s kept at has new log cpu is others j d u x atu hasd =
      let v' : View = view_after c new log in
      let here = kept.seated id c me.0 r at has in ⊎_elim
      (λ t. let hasd' : Has v'.cpus d x = subst (λ (z : View). Has z.cpus d x) (sym t.1) hasd in ⊎_elim
      (λ e. let q : Some new ≡ Some x = e.1 in let same : new ≡ x = cc in (ap kept.owner e.0 ∙ here.0 ∙ sym t.0, ap cpu e.0 ∙ is ∙ same))
      (λ n. let there = kept.seated id d me.0 x at n.1 in (there.0 ∙ sym t.0, others d n.0 ∙ there.1))
      (at_set me.0.cpus c d (Some new) (Some x) hasd'))
      (λ t. let there = kept.seated j d u x t.1 hasd in
      (there.0, others d (λ e. t.0 (sym there.0 ∙ ap kept.owner e ∙ here.0)) ∙ there.1))
      (at_set s.views id j v' u atu)

  -- and after its log did
  told_after : (c : ℕ) (s : table.State (Unit {0}) View) (kept : Kept key s) → get_elem? s.views id ≡ some me.0 → Has me.0.cpus c r
      → (new : CpuRecord) (log : List Logged) (logs : ℕ → List Logged) → logs c ≡ log → ((d : ℕ) → d ≢ c → logs d ≡ log_of (setting key) d kept.past)
      → (j d : ℕ) (u : View) (x : List Logged) → get_elem? (set s.views id (view_after c new log)) j ≡ some u
      → HasLog u.logs d x → (kept.owner d ≡ j) × (logs d ≡ x)
  told_after c s kept at has new log logs is others j d u x atu hasd =
      let v' : View = view_after c new log in
      let here = kept.seated id c me.0 r at has in ⊎_elim
      (λ t. let hasd' : HasLog v'.logs d x = subst (λ (z : View). HasLog z.logs d x) (sym t.1) hasd in ⊎_elim
      (λ e. (ap kept.owner e.0 ∙ here.0 ∙ sym t.0, ap logs e.0 ∙ is ∙ e.1))
      (λ n. let there = kept.told id d me.0 x at n.1 in (there.0 ∙ sym t.0, others d n.0 ∙ there.1))
      (put_log_cases c d log x me.0.logs hasd'))
      (λ t. let there = kept.told j d u x t.1 hasd in
      (there.0, others d (λ e. t.0 (sym there.0 ∙ ap kept.owner e ∙ here.0)) ∙ there.1))
      (at_set s.views id j v' u atu)

  pub turns : is_by_timer t ≡ false → Has me.0.cpus (maker_of (setting key) t) r → MayGive (setting key) (maker_of (setting key) t) grants r
      → RecordAllows (setting key) t (given grants r) → (k : ℕ) (f : ℕ → ℕ) → Moves key t (given grants r) k f
      → Allows (Kept key) slots id me k f (λ n m'. Turned (turn key t grants) n me m')
  turns by has may can k f moves s kept slots_are at small =
      let set' : Setting = setting key in
      let c : ℕ = maker_of set' t in
      let n : ℕ = get_or s.words k 0 in
      let here = kept.seated id c me.0 r at has in
      let gave = gives key s.words c grants r kept.state kept.past kept.lawful kept.rule kept.shows kept.are_made kept.state_is here.1 may in
      let old : State = gave.state in
      let at1 : old.cpu c ≡ given grants r = (λ i. gave.cpus i c) ∙ put_same kept.state.cpu c (given grants r) in
      let others1 : (d : ℕ) → d ≢ c → old.cpu d ≡ kept.state.cpu d = λ d ne. (λ i. gave.cpus i d) ∙ put_other kept.state.cpu c (given grants r) d ne in
      let allowed : Allowed set' t old = (may_is_known set' t old by).0 (subst (RecordAllows set' t) (sym at1) can) in
      let moved = moves s.words old kept.lawful kept.fits gave.rule gave.shows kept.long allowed at1 in
      let known = record_is_known set' t old kept.lawful gave.rule allowed by in
      let new : CpuRecord = record_after set' t n (given grants r) in
      let is : (after set' t old).cpu c ≡ new = (λ i. known.cpus i c) ∙ put_same old.cpu c (record_after set' t (found_by set' t old) (old.cpu c))
      ∙ (λ i. record_after set' t (moved.0 i) (at1 i)) in
      let others : (d : ℕ) → d ≢ c → (after set' t old).cpu d ≡ kept.state.cpu d = λ d ne. (λ i. known.cpus i d)
      ∙ put_other old.cpu c (record_after set' t (found_by set' t old) (old.cpu c)) d ne ∙ others1 d ne in
      let one : Made = record { step = t; found = n } in
      let log : List Logged = logged (length gave.until) one ∷ log_of set' c gave.until in
      let v' : View = view_after c new log in
      let then_allowed : Allowed set' t (state_after set' gave.until) = subst (Allowed set' t) gave.state_is allowed in
      let then_found : n ≡ found_by set' t (state_after set' gave.until) = sym moved.0 ∙ ap (found_by set' t) gave.state_is in
      let found : Found (turn key t grants) n r me.0 = record {
        state = old;
        lawful = kept.lawful;
        rule = gave.rule;
        record_is = at1;
        others = λ j q ne hasq. others1 j ne ∙ (kept.seated id j me.0 q at hasq).1;
        timer = λ q is. gave.timer ∙ (kept.timed id me.0 q at is).1;
        allowed = allowed;
        found_is = moved.0;
      } in (
        v',
        keeps,
        tt,
        record {
          state = after set' t old;
          lawful = kept.lawful;
          fits = kept.fits;
          past = one ∷ gave.until;
          are_made = (then_allowed, then_found, gave.are_made);
          state_is = ap (after set' t) gave.state_is;
          shows = moved.1;
          rule = step_keeps set' t old kept.lawful gave.rule allowed;
          long = length-set s.words k (f n) ∙ kept.long;
          owner = kept.owner;
          seated = seated_after c s kept at has new log (after set' t old).cpu is others;
          told = told_after c s kept at has new log (λ d. log_of set' d (one ∷ gave.until)) (in_own set' one gave.until by)
              (λ d ne. in_no_other set' one gave.until by d ne ∙ gave.others d ne);
          timer_owner = kept.timer_owner;
          timed = λ j u x atu timed. ⊎_elim
              (λ e. let was = kept.timed id me.0 x at (ap (λ (z : View). z.timer) e.1 ∙ timed) in (was.0 ∙ sym e.0, known.timer ∙ gave.timer ∙ was.1))
              (λ e. let was = kept.timed j u x e.1 timed in (was.0, known.timer ∙ gave.timer ∙ was.1))
              (at_set s.views id j v' u atu);
          timer_told = λ j u x atu told. let same = in_no_timers set' one gave.until by ∙ gave.no_timers in ⊎_elim
              (λ e. let was = kept.timer_told id me.0 x at (ap (λ (z : View). z.timer_log) e.1 ∙ told) in (was.0 ∙ sym e.0, same ∙ was.1))
              (λ e. let was = kept.timer_told j u x e.1 told in (was.0, same ∙ was.1))
              (at_set s.views id j v' u atu);
        },
        record {
          cpus = λ q hasq. ap (λ (x : CpuRecord). put_record c (record_after set' t n (given grants x)) me.0.cpus) (one_record me.0.cpus c r q has hasq);
          layout = refl;
          timer = refl;
          logs = (
            log,
            refl,
            (λ was has_log. record {
              past = gave.until;
              are_made = gave.are_made;
              allowed = then_allowed;
              found_then = then_found;
              granted = subst (λ (z : List Logged). LogsGrant grants z (log_of set' c gave.until)) (kept.told id c me.0 was at has_log).1 gave.own;
              log = refl;
            }),
          );
          timer_log = refl;
          slots = refl;
          found = λ q hasq. subst (λ (x : CpuRecord). Found (turn key t grants) n x me.0) (one_record me.0.cpus c r q has hasq) found;
        },
      )

-- the same under the names that a play has, and with the word and the operation as the code has them
pub renamed : (slots id : ℕ) (me : Sat) (k k' : ℕ) (f f' : ℕ → ℕ) (key key' : Layout) (a b : GrantedStep) → k' ≡ k → ◌≡◌ {A = ℕ → ℕ} f' f → key' ≡ key → b ≡ a
    → Allows (Kept key) slots id me k f (λ n m'. Turned a n me m') → Allows (Kept key') slots id me k' f' (λ n m'. Turned b n me m')
renamed slots id me k k' f f' key key' a b ek ef ekey eturn h =
    subst (λ (z : ℕ × (ℕ → ℕ) × Layout × GrantedStep). Allows (Kept z.2) slots id me z.0 z.1 (λ n m'. Turned z.3 n me m')) (λ j. (sym ek j, sym ef j, sym ekey j, sym eturn j)) h

pub named_back : (me me' : Sat) (n : ℕ) (a b : GrantedStep) → b ≡ a → Turned b n me me' → Turned a n me me'
named_back me me' n a b e h = subst (λ (z : GrantedStep). Turned z n me me') e h
