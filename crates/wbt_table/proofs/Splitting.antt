-- What a seat keeps and shows where a CPU, or the timer, has gone to a seat of its own, and what that one does.
use Rattle.std.proofs.Common.{◌≡◌, ◌≢◌, ℕ, zero, suc, ◌/◌, ◌<◌, ◌≤◌, true≢false, List, [], ◌∷◌, length, replicate, set, Option, Some, None, sym, refl, ap, ◌∙◌, subst, ⊎_elim, arith, length-set, eqb, eq-eqb, ne_eqb}
use mathlib.Core.Option.{some, some-injective}
use lib.ListN.{get_elem?}
use Rattle.std.proofs.lemmas.Bool.{cond-true, cond-false}
use Rattle.std.proofs.lemmas.List.{length-replicate}
use Rattle.std.specs.Bool.{IsTrue}
use Rattle.std.specs.Option.{is_some}
use Rattle.wbt_table.proofs.Common.{TableId, at_set, set_here, set_else, CpuRecord, TimerRecord, KeepsTriples, KeepsSequences, IsKept, setting, domains, Cpus, Has, given, Sat, Seated, as_timer, Keeps, States, Knows, Agrees, with_grant, with_grants, KeepsLefts, KeepsTimer, IsSeat, seated}
use Rattle.wbt_table.specs.declared.answer.Triple.{Triple}
use Rattle.wbt_table.specs.declared.held.HeldLimits.{HeldLimits}
use Rattle.wbt_table.specs.declared.layout.Layout.{Layout}
use Rattle.wbt_table.specs.declared.state.CpuState.{CpuState}
use Rattle.wbt_table.specs.Rule.{without, without_cpu, alone, apart, without_timer, timer_alone}
use Rattle.wbt_table.specs.Seat.{IsHeld, as_cpu}
use Rattle.wbt_table.specs.Calls.{left_seat, right_seat}
use Rattle.wbt_table.proofs.Lists.{at_less, at_read}
use Rattle.wbt_table.proofs.Seating.{none_some, some_is, shown_at}
use Rattle.wbt_table.proofs.Holding.{nones-at, apart-at}
use Rattle.wbt_table.proofs.Calling.{state_here, record_here}
use Rattle.wbt_table.proofs.Joining.{length-shown}
use Rattle.wbt_table.proofs.Triples.{kept_same}

-- a place that is set to a record is the one that was set
one_at : {A : Type 0} (n c d : ℕ) (x y : A) → get_elem? (set (replicate n None) c (Some x)) d ≡ some (Some y) → (d ≡ c) × (x ≡ y)
one_at n c d x y e = ⊎_elim (λ t. (t.0, some_is x y t.1)) (λ t. absurd (nones-at n d y t.1)) (at_set (replicate n None) c d (Some x) (Some y) e)

-- a place that was set to None has no record
other_at : {A : Type 0} (l : List (Option A)) (c d : ℕ) (y : A) → get_elem? (set l c None) d ≡ some (Some y) → (d ≢ c) × (get_elem? l d ≡ some (Some y))
other_at l c d y e = ⊎_elim (λ t. absurd (none_some y t.1)) (λ t. t) (at_set l c d None (Some y) e)

shown_without : (xs : States) (ys : Cpus) (c : ℕ) → length ys ≡ length xs → with_grants (set xs c None) (set ys c None) ≡ set (with_grants xs ys) c None
shown_without [] [] c long = refl
shown_without [] (y ∷ ys) c long = absurd (omega arith)
shown_without (x ∷ xs) [] c long = absurd (omega arith)
shown_without (x ∷ xs) (y ∷ ys) zero long = refl
shown_without (x ∷ xs) (y ∷ ys) (suc c) long = ap (λ (l : Cpus). with_grant x y ∷ l) (shown_without xs ys c (omega arith))

pub shown_nones : (n : ℕ) → with_grants (replicate n None) (replicate n None) ≡ replicate n None
shown_nones zero = refl
shown_nones (suc n) = ap (λ (l : Cpus). None ∷ l) (shown_nones n)

shown_one : (n c : ℕ) (x : Option CpuState) (y : Option CpuRecord)
    → with_grants (set (replicate n None) c x) (set (replicate n None) c y) ≡ set (replicate n None) c (with_grant x y)
shown_one zero c x y = refl
shown_one (suc n) zero x y = ap (λ (l : Cpus). with_grant x y ∷ l) (shown_nones n)
shown_one (suc n) (suc c) x y = ap (λ (l : Cpus). None ∷ l) (shown_one n c x y)

module _ (key : Layout) (me : Sat) (states : States) (lefts : List ℕ) (timer : Option ℕ) (at : me.0.layout ≡ key) (seat : IsSeat me states lefts timer) where
  agrees : Agrees key states me.0.cpus
  agrees = subst (λ (k : Layout). Agrees k states me.0.cpus) at seat.agrees

  keeps_lefts : KeepsLefts key lefts (with_grants states me.0.cpus)
  keeps_lefts = subst (λ (k : Layout). KeepsLefts k lefts (with_grants states me.0.cpus)) at seat.keeps_lefts

  -- the timer has gone
  pub timer_left : IsSeat (without_timer me.0, me.1) states lefts None
  timer_left = record { slots = seat.slots; agrees = seat.agrees; keeps_timer = tt; keeps_lefts = seat.keeps_lefts }

  shown_none : with_grants (replicate (length states) None) (replicate (length me.0.cpus) None) ≡ replicate (length (with_grants states me.0.cpus)) None
  shown_none = ap (λ (n : ℕ). with_grants (replicate (length states) None) (replicate n None)) agrees.as_long ∙ shown_nones (length states)
      ∙ ap (λ (n : ℕ). replicate n None) (sym (length-shown states me.0.cpus agrees.as_long ∙ agrees.as_long))

  pub timer_shown : with_grants (replicate (length states) None) (timer_alone me.0).cpus ≡ replicate (length (with_grants states me.0.cpus)) None
  timer_shown = shown_none

  -- and stands alone
  pub timer_right : IsSeat (timer_alone me.0, []) (replicate (length states) None) lefts timer
  timer_right = record {
    slots = refl;
    agrees = subst (λ (k : Layout). Agrees k (replicate (length states) None) (replicate (length me.0.cpus) None)) (sym at) (record {
      long = length-replicate {A = Option CpuState} (length states) None ∙ agrees.long;
      as_long = length-replicate {A = Option CpuRecord} (length me.0.cpus) None ∙ agrees.as_long ∙ sym (length-replicate {A = Option CpuState} (length states) None);
      kept = λ c r has. absurd (nones-at (length me.0.cpus) c r has);
      known = λ c s knows. absurd (nones-at (length states) c s knows);
    });
    keeps_timer = seat.keeps_timer;
    keeps_lefts = subst (λ (z : Layout × Cpus). KeepsLefts z.0 lefts z.1) (λ i. (sym at i, sym shown_none i)) (record {
      long = keeps_lefts.long;
      each = λ w r less has. absurd (nones-at (length (with_grants states me.0.cpus)) ((setting key).seat w) r has);
    });
  }

  module _ (c : ℕ) (s : CpuState) (q : CpuRecord) (knows : Knows states c s) (has : Has me.0.cpus c q) where
    pub cpu_left_shown : with_grants (set states c None) (without c me.0).cpus ≡ without_cpu c (with_grants states me.0.cpus)
    cpu_left_shown = shown_without states me.0.cpus c agrees.as_long

    -- the CPU has gone
    pub cpu_left : IsSeat (without c me.0, me.1) (set states c None) lefts timer
    cpu_left = record {
      slots = seat.slots;
      agrees = subst (λ (k : Layout). Agrees k (set states c None) (set me.0.cpus c None)) (sym at) (record {
        long = length-set states c None ∙ agrees.long;
        as_long = length-set me.0.cpus c None ∙ agrees.as_long ∙ sym (length-set states c None);
        kept = λ d r hasr. let t = other_at me.0.cpus c d r hasr in let k = agrees.kept d r t.1 in (k.0, set_else states c d None t.0 ∙ k.1, k.2);
        known = λ d x knowsx. let t = other_at states c d x knowsx in let k = agrees.known d x t.1 in (k.0, set_else me.0.cpus c d None t.0 ∙ k.1);
      });
      keeps_timer = seat.keeps_timer;
      keeps_lefts = subst (λ (z : Layout × Cpus). KeepsLefts z.0 lefts z.1) (λ i. (sym at i, sym cpu_left_shown i)) (record {
        long = keeps_lefts.long;
        each = λ w r less hasr. keeps_lefts.each w r less (other_at (with_grants states me.0.cpus) c ((setting key).seat w) r hasr).1;
      });
    }

    here : Has (with_grants states me.0.cpus) c (given s.grants q)
    here = shown_at states me.0.cpus c s q knows has

    cut : Cpus
    cut = set (replicate (length me.0.cpus) None) c (Some q)

    apart_is : apart c me.0.cpus ≡ cut
    unfolding cut
    apart_is = ap (set (replicate (length me.0.cpus) None) c) (at_read me.0.cpus c (Some q) has None)

    pub cpu_right_shown : with_grants (set (replicate (length states) None) c (Some s)) (alone c me.0).cpus ≡ apart c (with_grants states me.0.cpus)
    unfolding cut
    cpu_right_shown = ap (with_grants (set (replicate (length states) None) c (Some s))) apart_is
        ∙ ap (λ (n : ℕ). with_grants (set (replicate (length states) None) c (Some s)) (set (replicate n None) c (Some q))) agrees.as_long
        ∙ shown_one (length states) c (Some s) (Some q)
        ∙ ap (λ (n : ℕ). set (replicate n None) c (Some (given s.grants q))) (sym (length-shown states me.0.cpus agrees.as_long ∙ agrees.as_long))
        ∙ ap (set (replicate (length (with_grants states me.0.cpus)) None) c) (sym (at_read (with_grants states me.0.cpus) c (Some (given s.grants q)) here None))

    keeps_it : Keeps key c s q
    keeps_it = let k = agrees.kept c q has in let e : Some k.0 ≡ Some s = some-injective (Some k.0) (Some s) (sym k.1 ∙ knows) in subst (λ (z : CpuState). Keeps key c z q) (some_is k.0 s e) k.2

    shown_apart : with_grants (set (replicate (length states) None) c (Some s)) cut ≡ set (replicate (length (with_grants states me.0.cpus)) None) c (Some (given s.grants q))
    unfolding cut
    shown_apart = ap (λ (n : ℕ). with_grants (set (replicate (length states) None) c (Some s)) (set (replicate n None) c (Some q))) agrees.as_long
        ∙ shown_one (length states) c (Some s) (Some q)
        ∙ ap (λ (n : ℕ). set (replicate n None) c (Some (given s.grants q))) (sym (length-shown states me.0.cpus agrees.as_long ∙ agrees.as_long))

    agrees_alone : Agrees key (set (replicate (length states) None) c (Some s)) cut
    unfolding cut
    agrees_alone =
        let less = at_less states c (Some s) knows in
        let less' = at_less me.0.cpus c (Some q) has in
        let long = length-replicate {A = Option CpuState} (length states) None in
        let long' = length-replicate {A = Option CpuRecord} (length me.0.cpus) None in
        let xs : States = replicate (length states) None in
        let ys : Cpus = replicate (length me.0.cpus) None in record {
          long = length-set xs c (Some s) ∙ long ∙ agrees.long;
          as_long = length-set ys c (Some q) ∙ long' ∙ agrees.as_long ∙ sym long ∙ sym (length-set xs c (Some s));
          kept = λ d r hasr. let t = one_at (length me.0.cpus) c d q r hasr in (
            s,
            subst (λ (i : ℕ). Knows (set xs c (Some s)) i s) (sym t.0) (set_here xs c (Some s) (omega arith)),
            subst (λ (z : ℕ × CpuRecord). Keeps key z.0 s z.1) (λ i. (sym t.0 i, t.1 i)) keeps_it,
          );
          known = λ d x knowsx. let t = one_at (length states) c d s x knowsx in (q, subst (λ (i : ℕ). Has (set ys c (Some q)) i q) (sym t.0) (set_here ys c (Some q) (omega arith)));
        }

    -- and stands alone
    pub cpu_right : IsSeat (alone c me.0, []) (set (replicate (length states) None) c (Some s)) lefts None
    unfolding cut
    cpu_right = record {
      slots = refl;
      agrees = subst (λ (z : Layout × Cpus). Agrees z.0 (set (replicate (length states) None) c (Some s)) z.1) (λ i. (sym at i, sym apart_is i)) agrees_alone;
      keeps_timer = tt;
      keeps_lefts = subst (λ (z : Layout × Cpus). KeepsLefts z.0 lefts z.1) (λ i. (sym at i, sym cpu_right_shown i)) (record {
        long = keeps_lefts.long;
        each = λ w r less hasr. let shown : Has (set (replicate (length (with_grants states me.0.cpus)) None) c (Some (given s.grants q))) ((setting key).seat w) r =
            subst (λ (l : Cpus). Has l ((setting key).seat w) r) (ap (set (replicate (length (with_grants states me.0.cpus)) None) c) (at_read (with_grants states me.0.cpus) c (Some (given s.grants q)) here None)) hasr in
            let t = one_at (length (with_grants states me.0.cpus)) c ((setting key).seat w) (given s.grants q) r shown in
            keeps_lefts.each w r less (subst (λ (z : ℕ × CpuRecord). Has (with_grants states me.0.cpus) z.0 z.1) (λ i. (sym t.0 i, t.1 i)) here);
      });
    }

-- what is held
pub timer_of : (old : Seated) (c : ℕ) → old.layout.cpus ≤ c → length old.cpus ≡ old.layout.cpus → IsHeld old c → (r : TimerRecord) × (old.timer ≡ Some r)
timer_of old c is long (as_cpu r has) = let less = at_less old.cpus c (Some r) has in absurd (omega arith)
timer_of old c is long (as_timer r same timer) = (r, timer)

pub cpu_of : (old : Seated) (c : ℕ) → c ≢ old.layout.cpus → IsHeld old c → (r : CpuRecord) × Has old.cpus c r
cpu_of old c ne (as_cpu r has) = (r, has)
cpu_of old c ne (as_timer r same timer) = absurd (ne same)

pub no_timer : (timer : Option ℕ) (x : Option TimerRecord) → KeepsTimer timer x → (IsTrue (is_some timer) → (r : TimerRecord) × (x ≡ Some r)) × ((r : TimerRecord) → x ≡ Some r → IsTrue (is_some timer))
no_timer None None keeps = ((λ t. absurd (true≢false (sym t))), (λ r e. absurd (none_some r e)))
no_timer None (Some r) keeps = absurd keeps
no_timer (Some n) None keeps = absurd keeps
no_timer (Some n) (Some r) keeps = ((λ t. (r, refl)), (λ q e. refl))

some_true : {A : Type 0} (x : Option A) (y : A) → x ≡ Some y → IsTrue (is_some x)
some_true x y e = ap is_some e

true_some : {A : Type 0} (x : Option A) → IsTrue (is_some x) → (y : A) × (x ≡ Some y)
true_some None t = absurd (true≢false (sym t))
true_some (Some y) t = (y, refl)

module _ (table : TableId) (me : Sat) (states : States) (lefts : List ℕ) (timer : Option ℕ) (old : Seated) (view : seated table me states ≡ old)
    (seat : IsSeat me states lefts timer) (c : ℕ) where
  pub long_here : length states ≡ old.layout.cpus
  long_here = seat.agrees.long ∙ ap (λ (z : Seated). z.layout.cpus) view

  pub shown_long : length old.cpus ≡ old.layout.cpus
  shown_long = ap (λ (z : Seated). length z.cpus) (sym view) ∙ length-shown states me.0.cpus seat.agrees.as_long ∙ seat.agrees.as_long ∙ long_here

  timer_seen : (r : TimerRecord) → old.timer ≡ Some r → me.0.timer ≡ Some r
  timer_seen r is = ap (λ (z : Seated). z.timer) view ∙ is

  -- what is held, as the code tests it
  pub holds_timer : c ≡ length states → (IsTrue (is_some timer) → IsHeld old c) × (IsHeld old c → IsTrue (is_some timer))
  holds_timer is = let t = no_timer timer me.0.timer seat.keeps_timer in let l = long_here in (
    (λ some. let r = t.0 some in as_timer r.0 (is ∙ long_here) (ap (λ (z : Seated). z.timer) (sym view) ∙ r.1)),
    (λ held. let r = timer_of old c (omega arith) shown_long held in t.1 r.0 (timer_seen r.0 r.1)),
  )

  pub holds_none : length states < c → IsHeld old c → ⊥
  holds_none more (as_cpu r has) = let less = at_less old.cpus c (Some r) has in let l = long_here in let m = shown_long in omega arith
  holds_none more (as_timer r same timer) = let l = long_here in omega arith

  pub holds_cpu : (x : Option CpuState) → get_elem? states c ≡ some x → (IsTrue (is_some x) → IsHeld old c) × (IsHeld old c → IsTrue (is_some x))
  holds_cpu x at = let less = at_less states c x at in let l = long_here in (
    (λ t. let s = true_some x t in let knows : Knows states c s.0 = at ∙ ap some s.1 in let q = seat.agrees.known c s.0 knows in
        as_cpu (given s.0.grants q.0) (subst (λ (z : Seated). Has z.cpus c (given s.0.grants q.0)) view (shown_at states me.0.cpus c s.0 q.0 knows q.1))),
    (λ held. let r = cpu_of old c (λ e. omega arith) held in let s = state_here old.layout table me states lefts timer old view refl seat c r.0 r.1 in
        some_true x s.0 (some-injective x (Some s.0) (sym at ∙ s.1))),
  )

  -- a CPU, or the timer
  pub cpu_there : c < length states → IsHeld old c → (r : CpuRecord) × Has old.cpus c r
  cpu_there less held = let l = long_here in cpu_of old c (λ e. omega arith) held

  pub timer_there : length states ≤ c → timer ≡ None → IsHeld old c → ⊥
  timer_there more none held = let l = long_here in let t = timer_of old c (omega arith) shown_long held in
      true≢false (sym ((no_timer timer me.0.timer seat.keeps_timer).1 t.0 (timer_seen t.0 t.1)) ∙ ap is_some none)

  pub no_cpu : length states ≤ c → (r : CpuRecord) → Has old.cpus c r → ⊥
  no_cpu more r has = let less = at_less old.cpus c (Some r) has in let l = long_here in let m = shown_long in omega arith

module _ (table : TableId) (me : Sat) (states : States) (lefts : List ℕ) (timer : Option ℕ) (old : Seated) (view : seated table me states ≡ old)
    (seat : IsSeat me states lefts timer) (c : ℕ) (held : IsHeld old c) where
  here_long : length states ≡ old.layout.cpus
  here_long = long_here table me states lefts timer old view seat c

  -- the timer is taken
  module _ (is : c ≡ length states) where
    pub timer_held : (r : TimerRecord) × (me.0.timer ≡ Some r)
    timer_held = let l = here_long in let t = timer_of old c (omega arith) (shown_long table me states lefts timer old view seat c) held in (t.0, ap (λ (z : Seated). z.timer) view ∙ t.1)

    pub timer_left_seen : seated table (without_timer me.0, me.1) states ≡ left_seat c old
    timer_left_seen = (λ i. record (view i) { timer = None; timer_log = None })
        ∙ sym (cond-true (eqb c old.layout.cpus) (record old { timer = None; timer_log = None }) (record old { cpus = without_cpu c old.cpus; logs = without_cpu c old.logs }) (eq-eqb c old.layout.cpus (is ∙ here_long)))

    pub timer_right_seen : seated table (timer_alone me.0, []) (replicate (length states) None) ≡ right_seat c old
    timer_right_seen =
        (λ i. record { table = table; layout = me.0.layout; cpus = timer_shown me.0.layout me states lefts timer refl seat i; timer = me.0.timer; logs = (timer_alone me.0).logs; timer_log = me.0.timer_log })
        ∙ (λ i. record (view i) { cpus = replicate (length (view i).cpus) None; logs = replicate (length (view i).logs) None })
        ∙ sym (cond-true (eqb c old.layout.cpus) (record old { cpus = replicate (length old.cpus) None; logs = replicate (length old.logs) None }) (record old { cpus = apart c old.cpus; timer = None; logs = apart c old.logs; timer_log = None })
        (eq-eqb c old.layout.cpus (is ∙ here_long)))

  -- a CPU is taken
  module _ (ne : c ≢ length states) where
    other : c ≢ old.layout.cpus
    other e = ne (e ∙ sym here_long)

    pub cpu_state : (s : CpuState) × Knows states c s
    cpu_state = let t = cpu_of old c other held in state_here old.layout table me states lefts timer old view refl seat c t.0 t.1

    pub cpu_record : (q : CpuRecord) × Has me.0.cpus c q
    cpu_record = let t = cpu_of old c other held in
        let k = record_here old.layout table me states lefts timer old view refl seat c t.0 t.1 cpu_state.0 cpu_state.1 in (k.record', k.has)

    pub cpu_left_seen : seated table (without c me.0, me.1) (set states c None) ≡ left_seat c old
    cpu_left_seen =
        (λ i. record { table = table; layout = me.0.layout; cpus = cpu_left_shown me.0.layout me states lefts timer refl seat c cpu_state.0 cpu_record.0 cpu_state.1 cpu_record.1 i; timer = me.0.timer; logs = without_cpu c me.0.logs; timer_log = me.0.timer_log })
        ∙ (λ i. record (view i) { cpus = without_cpu c (view i).cpus; logs = without_cpu c (view i).logs })
        ∙ sym (cond-false (eqb c old.layout.cpus) (record old { timer = None; timer_log = None }) (record old { cpus = without_cpu c old.cpus; logs = without_cpu c old.logs }) (ne_eqb c old.layout.cpus other))

    pub cpu_right_seen : seated table (alone c me.0, []) (set (replicate (length states) None) c (Some cpu_state.0)) ≡ right_seat c old
    cpu_right_seen =
        (λ i. record { table = table; layout = me.0.layout; cpus = cpu_right_shown me.0.layout me states lefts timer refl seat c cpu_state.0 cpu_record.0 cpu_state.1 cpu_record.1 i; timer = None; logs = apart c me.0.logs; timer_log = None })
        ∙ (λ i. record (view i) { cpus = apart c (view i).cpus; timer = None; logs = apart c (view i).logs; timer_log = None })
        ∙ sym (cond-false (eqb c old.layout.cpus) (record old { cpus = replicate (length old.cpus) None; logs = replicate (length old.logs) None }) (record old { cpus = apart c old.cpus; timer = None; logs = apart c old.logs; timer_log = None }) (ne_eqb c old.layout.cpus other))

    pub cpu_left_seat : IsSeat (without c me.0, me.1) (set states c None) lefts timer
    cpu_left_seat = cpu_left me.0.layout me states lefts timer refl seat c cpu_state.0 cpu_record.0 cpu_state.1 cpu_record.1

    pub cpu_right_seat : IsSeat (alone c me.0, []) (set (replicate (length states) None) c (Some cpu_state.0)) lefts None
    cpu_right_seat = cpu_right me.0.layout me states lefts timer refl seat c cpu_state.0 cpu_record.0 cpu_state.1 cpu_record.1

-- what is kept of limits goes with both seats, where it tells of what each has
module _ (me : Sat) (states : States) (lefts : List ℕ) (held : HeldLimits) (timer : Option ℕ) (old : IsKept me states lefts held timer) where
  no_sequences : KeepsSequences me.0.layout held.sequences.items None
  no_sequences = record { long = old.sequences.long; each = λ d r less is. absurd (none_some r is); few = old.sequences.few }

  pub timer_left_kept : IsKept (without_timer me.0, me.1) states lefts held None
  timer_left_kept = record { seat = timer_left me.0.layout me states lefts timer refl old.seat; triples = old.triples; sequences = no_sequences }

  pub cpu_left_kept : (c : ℕ) (states' : States) → IsSeat (without c me.0, me.1) states' lefts timer → IsKept (without c me.0, me.1) states' lefts held timer
  cpu_left_kept c states' seat = record {
    seat = seat;
    triples = kept_same me.0.layout held.triples.items me.0.cpus (without_cpu c me.0.cpus) (λ d r has. (r, (other_at me.0.cpus c d r has).1, refl)) old.triples;
    sequences = old.sequences;
  }

  module _ (held' : HeldLimits) (same : held'.triples.items ≡ held.triples.items) (same' : held'.sequences.items ≡ held.sequences.items) where
    pub timer_right_kept : IsKept (timer_alone me.0, []) (replicate (length states) None) lefts held' timer
    timer_right_kept = record {
      seat = timer_right me.0.layout me states lefts timer refl old.seat;
      triples = subst (λ (l : List Triple). KeepsTriples me.0.layout l (timer_alone me.0).cpus) (sym same)
          (record { long = old.triples.long; each = λ k r less has. absurd (nones-at (length me.0.cpus) (k / domains me.0.layout) r has); lawful = old.triples.lawful });
      sequences = subst (λ (l : List ℕ). KeepsSequences me.0.layout l me.0.timer) (sym same') old.sequences;
    }

    pub cpu_right_kept : (c : ℕ) (states' : States) → IsSeat (alone c me.0, []) states' lefts None → IsKept (alone c me.0, []) states' lefts held' None
    cpu_right_kept c states' seat = record {
      seat = seat;
      triples = subst (λ (l : List Triple). KeepsTriples me.0.layout l (apart c me.0.cpus)) (sym same)
          (kept_same me.0.layout held.triples.items me.0.cpus (apart c me.0.cpus) (λ d r has. (r, (apart-at me.0.cpus c d r has).1, refl)) old.triples);
      sequences = subst (λ (l : List ℕ). KeepsSequences me.0.layout l None) (sym same') no_sequences;
    }
