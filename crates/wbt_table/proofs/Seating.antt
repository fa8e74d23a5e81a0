-- What a seat keeps, and what it shows after a step.
use Rattle.std.proofs.Common.{◌≡◌, ℕ, zero, suc, ◌<◌, ◌^◌, List, [], ◌∷◌, length, get_or, set, Option, Some, None, sym, refl, ap, ◌∙◌, subst, arith, length-set, ⊎_elim}
use mathlib.Core.Option.{some, some-injective, some-ne-none}
use Rattle.wbt_table.proofs.Common.{TableId, at_set, set_here, set_else, CpuRecord, writer_in, Step, look, claim, Setting, maker_of, record_after, setting, Cpus, Has, put_record, Logs, HasLog, put_log, given, Sat, Turned, turn, log_of, Shape, Seated, Changes, LogComes, LogsOne, Makes, Keeps, States, Knows, Agrees, with_grant, with_grants, KeepsLefts, KeepsTimer, IsSeat, seated, put_state}
use Rattle.wbt_table.specs.declared.layout.Layout.{Layout}
use Rattle.wbt_table.specs.declared.state.CpuState.{CpuState}
use Rattle.wbt_table.specs.declared.rule.Logged.{Logged}
use Rattle.wbt_table.specs.History.{LogsSteps}
use Rattle.wbt_table.specs.Calls.{LogsTry}
use Rattle.wbt_table.specs.Seat.{IsAt}
use Rattle.wbt_table.proofs.Lists.{at_less, at_read, set_set}
use Rattle.wbt_table.proofs.Logging.{put_log_here, put_log_twice}
use Rattle.wbt_table.proofs.Turning.{one_record}

pub none_some : {A : Type 0} (r : A) → None ≡ Some r → ⊥
none_some r e = cc

pub some_is : {A : Type 0} (x y : A) → Some x ≡ Some y → x ≡ y
some_is x y e = cc

-- what is kept of a CPU, read in its place
module _ (l : States) (c : ℕ) (s : CpuState) (d : Option CpuState) (knows : Knows l c s) (read : d ≡ get_or l c d) where
  pub some_kept : d ≡ None → ⊥
  some_kept is = none_some s (sym is ∙ read ∙ at_read l c (Some s) knows d)

  pub kept_there : (t : CpuState) → d ≡ Some t → t ≡ s
  kept_there t is = some_is t s (sym is ∙ read ∙ at_read l c (Some s) knows d)

  -- so it has a page step left where that has
  pub has_page_step : (t : CpuState) → d ≡ Some t → s.page_steps < 2 ^ 63 → t.page_steps < 2 ^ 63
  has_page_step t is less = let told = ap (λ (z : CpuState). z.page_steps) (kept_there t is) in omega arith

  -- and changed there
  pub puts : (f : CpuState → CpuState) (t u : CpuState) → d ≡ Some t → u ≡ f t → put_state c u l ≡ put_state c (f s) l
  puts f t u is made = ap (λ (z : CpuState). put_state c z l) (made ∙ ap f (kept_there t is))

-- what the code knows of a CPU, and the record that the view has of it
pub record KnownAt (states : States) (l : Cpus) (c : ℕ) (r : CpuRecord) : Type 0 where
  pub state : CpuState
  pub record' : CpuRecord
  pub knows : Knows states c state
  pub has : Has l c record'
  pub with_it : given state.grants record' ≡ r

at_first : (x : Option CpuState) (y : Option CpuRecord) (xs : States) (ys : Cpus) (r : CpuRecord) → ((q : CpuRecord) → y ≡ Some q → (s : CpuState) × (x ≡ Some s))
    → with_grant x y ≡ Some r → KnownAt (x ∷ xs) (y ∷ ys) 0 r
at_first None None xs ys r known e = absurd (none_some r e)
at_first None (Some q) xs ys r known e = let t = known q refl in absurd (none_some t.0 t.1)
at_first (Some s) None xs ys r known e = absurd (none_some r e)
at_first (Some s) (Some q) xs ys r known e = record { state = s; record' = q; knows = refl; has = refl; with_it = some_is (given s.grants q) r e }

pub known_at : (xs : States) (ys : Cpus) (c : ℕ) (r : CpuRecord) → ((d : ℕ) (q : CpuRecord) → Has ys d q → (s : CpuState) × Knows xs d s)
    → Has (with_grants xs ys) c r → KnownAt xs ys c r
known_at [] ys c r known has = let t = known c r has in absurd (some-ne-none (Some t.0) (sym t.1))
known_at (x ∷ xs) [] c r known has = absurd (some-ne-none (Some r) (sym has))
known_at (x ∷ xs) (y ∷ ys) zero r known has = at_first x y xs ys r
    (λ q e. let t = known 0 q (ap some e) in (t.0, some-injective x (Some t.0) t.1))
    (some-injective (with_grant x y) (Some r) has)
known_at (x ∷ xs) (y ∷ ys) (suc c) r known has = let t = known_at xs ys c r (λ d q h. known (suc d) q h) has in
    record { state = t.state; record' = t.record'; knows = t.knows; has = t.has; with_it = t.with_it }

-- a record that the view has is shown with its grant
pub shown_at : (xs : States) (ys : Cpus) (c : ℕ) (s : CpuState) (q : CpuRecord) → Knows xs c s → Has ys c q → Has (with_grants xs ys) c (given s.grants q)
shown_at [] ys c s q knows has = absurd (some-ne-none (Some s) (sym knows))
shown_at (x ∷ xs) [] c s q knows has = absurd (some-ne-none (Some q) (sym has))
shown_at (x ∷ xs) (y ∷ ys) zero s q knows has = (λ i. some (with_grant (some-injective x (Some s) knows i) (some-injective y (Some q) has i)))
shown_at (x ∷ xs) (y ∷ ys) (suc c) s q knows has = shown_at xs ys c s q knows has

-- one place changes in both lists
pub shown_set : (xs : States) (ys : Cpus) (c : ℕ) (s : CpuState) (r : CpuRecord) → length ys ≡ length xs
    → with_grants (set xs c (Some s)) (set ys c (Some r)) ≡ set (with_grants xs ys) c (Some (given s.grants r))
shown_set [] [] c s r long = refl
shown_set [] (y ∷ ys) c s r long = absurd (omega arith)
shown_set (x ∷ xs) [] c s r long = absurd (omega arith)
shown_set (x ∷ xs) (y ∷ ys) zero s r long = refl
shown_set (x ∷ xs) (y ∷ ys) (suc c) s r long = ap (λ (l : Cpus). with_grant x y ∷ l) (shown_set xs ys c s r (omega arith))

-- what is kept of one CPU becomes another, as its record does
pub agrees_set : (key : Layout) (xs : States) (ys : Cpus) (c : ℕ) (s : CpuState) (r : CpuRecord) → Agrees key xs ys → c < length xs → Keeps key c s r
    → Agrees key (set xs c (Some s)) (put_record c r ys)
agrees_set key xs ys c s r old less keeps = let as_long = old.as_long in record {
  long = length-set xs c (Some s) ∙ old.long;
  as_long = length-set ys c (Some r) ∙ old.as_long ∙ sym (length-set xs c (Some s));
  kept = λ d q has. ⊎_elim
      (λ e. let same : r ≡ q = some_is r q e.1 in (
        s,
        subst (λ (i : ℕ). Knows (set xs c (Some s)) i s) (sym e.0) (set_here xs c (Some s) less),
        subst (λ (z : ℕ × CpuRecord). Keeps key z.0 s z.1) (λ i. (sym e.0 i, same i)) keeps,
      ))
      (λ n. let t = old.kept d q n.1 in (t.0, set_else xs c d (Some s) n.0 ∙ t.1, t.2))
      (at_set ys c d (Some r) (Some q) has);
  known = λ d q knows. ⊎_elim
      (λ e. (r, subst (λ (i : ℕ). Has (put_record c r ys) i r) (sym e.0) (set_here ys c (Some r) (omega arith))))
      (λ n. let t = old.known d q n.1 in (t.0, set_else ys c d (Some r) n.0 ∙ t.1))
      (at_set xs c d (Some s) (Some q) knows);
}

-- what each writer has left stays where one CPU's record changes and its writers have what they had
pub lefts_stay : (key : Layout) (lefts : List ℕ) (l : Cpus) (c : ℕ) (r r' : CpuRecord) → KeepsLefts key lefts l → Has l c r
    → ((w : ℕ) → (writer_in (setting key) w r'.writers).left ≡ (writer_in (setting key) w r.writers).left)
    → KeepsLefts key lefts (put_record c r' l)
lefts_stay key lefts l c r r' old has same = record {
  long = old.long;
  each = λ w q less hasq. ⊎_elim
      (λ e. let is : r' ≡ q = some_is r' q e.1 in
      old.each w r less (subst (λ (i : ℕ). Has l i r) (sym e.0) has) ∙ sym (same w) ∙ ap (λ (x : CpuRecord). (writer_in (setting key) w x.writers).left) is)
      (λ n. old.each w q less n.1)
      (at_set l c ((setting key).seat w) (Some r') (Some q) hasq);
}

module _ (key : Layout) (me me' : Sat) (states : States) (lefts : List ℕ) (timer : Option ℕ) (at : me.0.layout ≡ key) (seat : IsSeat me states lefts timer)
    (step : Step) (n c : ℕ) (is : c ≡ maker_of (setting key) step) (s : CpuState) (q : CpuRecord) (knows : Knows states c s) (has : Has me.0.cpus c q)
    (turned : Turned (turn key step s.grants) n me me') (s' : CpuState) (bare : s'.grants ≡ None) where
  after : CpuRecord
  after = record_after (setting key) step n (given s.grants q)

  cpus_after : me'.0.cpus ≡ put_record c after me.0.cpus
  unfolding after
  cpus_after = turned.cpus q (subst (λ (i : ℕ). Has me.0.cpus i q) is has) ∙ ap (λ (i : ℕ). put_record i after me.0.cpus) (sym is)

  shown_after : with_grants (set states c (Some s')) me'.0.cpus ≡ put_record c after (with_grants states me.0.cpus)
  shown_after = ap (with_grants (set states c (Some s'))) cpus_after ∙ shown_set states me.0.cpus c s' after seat.agrees.as_long
      ∙ ap (λ (g : Option _). put_record c (given g after) (with_grants states me.0.cpus)) bare

  -- the seat after a step of one of its CPUs
  pub seat_after : Keeps key c s' (record_after (setting key) step n (given s.grants q)) → (lefts' : List ℕ)
      → KeepsLefts key lefts' (put_record c (record_after (setting key) step n (given s.grants q)) (with_grants states me.0.cpus))
      → IsSeat me' (set states c (Some s')) lefts' timer
  unfolding after
  seat_after keeps lefts' left = record {
    slots = turned.slots ∙ seat.slots;
    agrees = subst (λ (z : Layout × Cpus). Agrees z.0 (set states c (Some s')) z.1) (λ i. (sym (turned.layout ∙ at) i, sym cpus_after i))
        (agrees_set key states me.0.cpus c s' after (subst (λ (k : Layout). Agrees k states me.0.cpus) at seat.agrees) (at_less states c (Some s) knows) keeps);
    keeps_timer = subst (KeepsTimer timer) (sym turned.timer) seat.keeps_timer;
    keeps_lefts = subst (λ (z : Layout × Cpus). KeepsLefts z.0 lefts' z.1) (λ i. (sym (turned.layout ∙ at) i, sym shown_after i)) left;
  }

  -- and what contracts see of it
  pub changes_after : (table table' : TableId) → table' ≡ table
      → Changes c (record_after (setting key) step n) (seated table me states) (seated table' me' (set states c (Some s')))
  unfolding after
  changes_after table table' same = record {
    table = same;
    layout = turned.layout;
    timer = turned.timer;
    cpus = λ r hasr. shown_after ∙ ap (λ (x : CpuRecord). put_record c (record_after (setting key) step n x) (with_grants states me.0.cpus))
        (one_record (with_grants states me.0.cpus) c (given s.grants q) r (shown_at states me.0.cpus c s q knows has) hasr);
  }

  -- and of what was logged
  pub makes_after : (table table' : TableId) → table' ≡ table → Makes (setting key) step n (seated table me states) (seated table' me' (set states c (Some s')))
  makes_after table table' same = record {
    changes = subst (λ (i : ℕ). Changes i (record_after (setting key) step n) (seated table me states) (seated table' me' (set states c (Some s')))) is
        (changes_after table table' same);
    logs = record {
      timer_log = turned.timer_log;
      logs = let a = turned.logs in (a.0, a.1, (λ log has_log. (s.grants, a.2 log has_log)));
    };
  }

-- a change of what one sees is one of what the other sees
pub changes_seen : (c : ℕ) (f : CpuRecord → CpuRecord) (old old' new new' : Seated) → old ≡ old' → new ≡ new' → Changes c f old new → Changes c f old' new'
changes_seen c f old old' new new' e h t = subst (λ (z : Seated × Seated). Changes c f z.0 z.1) (λ i. (e i, h i)) t

-- the changed record stands in the seat
pub has_changed : (c : ℕ) (f : CpuRecord → CpuRecord) (old new : Seated) (r : CpuRecord) → Changes c f old new → Has old.cpus c r → Has new.cpus c (f r)
has_changed c f old new r change has = subst (λ (l : Cpus). Has l c (f r)) (sym (change.cpus r has)) (set_here old.cpus c (Some (f r)) (at_less old.cpus c (Some r) has))

-- two changes of one CPU, one after another
pub changes_twice : (c : ℕ) (f g : CpuRecord → CpuRecord) (old mid new : Seated) → Changes c f old mid → Changes c g mid new → Changes c (λ r. g (f r)) old new
changes_twice c f g old mid new first second = record {
  table = second.table ∙ first.table;
  layout = second.layout ∙ first.layout;
  timer = second.timer ∙ first.timer;
  cpus = λ r has. second.cpus (f r) (has_changed c f old mid r first has)
      ∙ ap (λ (l : Cpus). put_record c (g (f r)) l) (first.cpus r has) ∙ set_set old.cpus c (Some (f r)) (Some (g (f r)));
}

-- two changes of one log
pub logs_twice : (c : ℕ) (P Q : List Logged → List Logged → Type 0) (old mid new : Seated) → LogComes c P old mid → LogComes c Q mid new
    → LogComes c (λ was is. (between : List Logged) × P was between × Q between is) old new
logs_twice c P Q old mid new first second = record {
  timer_log = second.timer_log ∙ first.timer_log;
  logs = let a = first.logs in let b = second.logs in (
    b.0,
    b.1 ∙ ap (put_log c b.0) a.1 ∙ put_log_twice c a.0 b.0 old.logs,
    (λ log has. (a.0, a.2 log has, b.2 a.0 (subst (λ (l : Logs). HasLog l c a.0) (sym a.1) (put_log_here c a.0 log old.logs has)))),
  );
}

-- what is said of a change of a log may be said otherwise
pub logs_weaker : (c : ℕ) (P Q : List Logged → List Logged → Type 0) (old new : Seated) → ((was is : List Logged) → P was is → Q was is)
    → LogComes c P old new → LogComes c Q old new
logs_weaker c P Q old new so comes = record {
  timer_log = comes.timer_log;
  logs = let a = comes.logs in (a.0, a.1, (λ log has. so log a.0 (a.2 log has)));
}

-- a look and a claim
pub logs_try : (set' : Setting) (c p n m : ℕ) (old mid new : Seated) → LogComes c (LogsOne set' c (look c p) n) old mid
    → LogComes c (LogsOne set' c (claim c p) m) mid new → LogsTry set' c p n m old new
logs_try set' c p n m old mid new first second =
    logs_weaker c (λ was is. (between : List Logged) × LogsOne set' c (look c p) n was between × LogsOne set' c (claim c p) m between is)
    (LogsSteps set' (log_of set' c) (record { step = look c p; found = n } ∷ record { step = claim c p; found = m } ∷ [])) old new
    (λ was is t. (t.1.0, t.0, t.1.1, (t.2.0, is, t.2.1, refl)))
    (logs_twice c (LogsOne set' c (look c p) n) (LogsOne set' c (claim c p) m) old mid new first second)

-- and the seat is still the throttle's
pub still_at : (throttle : Shape) (c : ℕ) (f : CpuRecord → CpuRecord) (old new : Seated) → IsAt throttle old → Changes c f old new → IsAt throttle new
still_at throttle c f old new at change = record { table = change.table ∙ at.table; layout = change.layout ∙ at.layout }
