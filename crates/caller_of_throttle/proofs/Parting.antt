-- A CPU goes to a seat of its own, and comes back.
use Rattle.std.proofs.Common.{◌≡◌, ℕ, zero, suc, ◌+◌, ◌<◌, Bool, false, cond, eqb, length, replicate, get_or, Option, Some, None, sym, refl, ap, ◌∙◌, subst, arith, length-set, ne_eqb, ⊎_elim}
use mathlib.Core.Option.{some}
use lib.ListN.{get_elem?}
use Rattle.std.proofs.lemmas.List.{length-replicate}
use Rattle.atomic_table.proofs.Lists.{set_here, set_else}
use Rattle.wbt_grant.specs.declared.record.CpuRecord.{CpuRecord}
use Rattle.wbt_grant.specs.declared.record.TimerRecord.{TimerRecord}
use Rattle.wbt_grant.specs.State.{opening, no_record}
use Rattle.wbt_table.specs.declared.layout.Layout.{Layout}
use Rattle.wbt_table.specs.Layout.{setting}
use Rattle.wbt_table.specs.Rule.{Cpus, Has, or_else, merged, without_cpu, apart}
use Rattle.wbt_table.specs.Seat.{Shape, Seated, IsAt, IsHeld, as_cpu}
use Rattle.wbt_table.specs.Calls.{left_seat, right_seat, joined_seat, IsFirst}
use Rattle.wbt_table.proofs.Lists.{at_less, at_read}
use Rattle.wbt_table.proofs.Joining.{there, either_is, merged_there, merged_else}
use Rattle.caller_of_throttle.specs.Machine.{machine_of}
use Rattle.caller_of_throttle.specs.Work.{HoldsFirst, IsSplit, IsPair, IsBack, Worked}

module _ (t : Shape) (c : ℕ) (old : Seated) (holds : HoldsFirst t (c + 1) old) (less : c < t.layout.cpus) where
  abbrev r : CpuRecord
  r = (holds.each c (omega arith)).0

  has : Has old.cpus c r
  has = (holds.each c (omega arith)).1

  no_timer : eqb c old.layout.cpus ≡ false
  no_timer = ne_eqb c old.layout.cpus (λ e. let k = ap (λ (l : Layout). l.cpus) holds.at.layout in omega arith)

  pub is_held : IsHeld old c
  is_held = as_cpu r has

  abbrev left : Seated
  left = record old { cpus = without_cpu c old.cpus; logs = without_cpu c old.logs }

  abbrev right : Seated
  right = record old { cpus = apart c old.cpus; timer = None; logs = apart c old.logs; timer_log = None }

  left_is : left_seat c old ≡ left
  left_is = ap (λ (b : Bool). cond b (record old { timer = None; timer_log = None }) left) no_timer

  right_is : right_seat c old ≡ right
  right_is = ap (λ (b : Bool). cond b (record old { cpus = replicate (length old.cpus) None; logs = replicate (length old.logs) None }) right) no_timer

  nones_long : (none : Option CpuRecord) → length (replicate (length old.cpus) none) ≡ length old.cpus
  nones_long none = length-replicate {A = Option CpuRecord} (length old.cpus) none

  right_has : Has (apart c old.cpus) c r
  right_has = set_here (replicate (length old.cpus) None) c (get_or old.cpus c None) (let l = at_less old.cpus c (Some r) has in let n = nones_long None in omega arith)
      ∙ ap some (at_read old.cpus c (Some r) has None)

  at_old : IsAt t old
  at_old = holds.at

  pub split_gives : (new other : Seated) → new ≡ left_seat c old → other ≡ right_seat c old → IsSplit t c old new other
  split_gives new other is is' = subst (λ (z : Seated × Seated). IsSplit t c old z.0 z.1) (λ i. (sym (is ∙ left_is) i, sym (is' ∙ right_is) i)) (record {
    left = record {
      at = record { table = at_old.table; layout = at_old.layout };
      long = length-set old.cpus c None ∙ holds.long;
      each = λ i l. let one = holds.each i (omega arith) in (one.0, set_else old.cpus c i None (λ e. omega arith) ∙ one.1);
    };
    timer = refl;
    right = record { at = record { table = at_old.table; layout = at_old.layout }; held = (r, right_has) };
    long = length-set (replicate (length old.cpus) None) c (get_or old.cpus c None) ∙ nones_long None ∙ holds.long;
    no_timer = refl;
  })

-- the first seat holds all
all_first : (n i : ℕ) → i < n → get_elem? (replicate n (Some no_record)) i ≡ some (Some no_record)
all_first zero i less = absurd (omega arith)
all_first (suc n) zero less = refl
all_first (suc n) (suc i) less = all_first n i (omega arith)

pub first_holds : (t : Shape) (n : ℕ) (seat : Seated) → t.layout.cpus ≡ n → IsAt t seat → IsFirst seat → HoldsFirst t n seat
first_holds t n seat count at is = let same : seat.layout.cpus ≡ t.layout.cpus = ap (λ (l : Layout). l.cpus) at.layout in record {
  at = at;
  long = ap (λ (l : Cpus). length l) is.cpus ∙ length-replicate {A = Option CpuRecord} seat.layout.cpus (Some no_record) ∙ same;
  each = λ i l. (no_record, subst (λ (l : Cpus). Has l i no_record) (sym is.cpus) (all_first seat.layout.cpus i (omega arith)));
}

-- what the first of two seats has is there after the join
joined_has : (xs ys : Cpus) (i : ℕ) (r : CpuRecord) → length xs ≡ length ys → Has xs i r → (q : CpuRecord) × Has (merged xs ys) i q
joined_has xs ys i r same has = let l = at_less xs i (Some r) has in let y = there ys i (omega arith) in ⊎_elim
    (λ e. (r, merged_else xs ys i (y.1 ∙ ap some e) ∙ has))
    (λ s. (s.0, merged_there xs ys i s.0 same (y.1 ∙ ap some s.1)))
    (either_is y.0)

two_cases : (P : ℕ → Type 0) (i : ℕ) → i < 2 → P 0 → P 1 → P i
two_cases P zero less a b = a
two_cases P (suc zero) less a b = b
two_cases P (suc (suc i)) less a b = absurd (omega arith)

joined_timer : (x y : Option TimerRecord) (r : TimerRecord) → y ≡ None → x ≡ Some r → or_else x y ≡ Some r
joined_timer x y r none is = ap (λ (z : Option TimerRecord). or_else x z) none ∙ is

-- both CPUs of a pair come back
pub both_back : (t : Shape) (one two first second : Seated) → IsPair t one two → Worked t 0 one first → Worked t 1 two second → IsBack t (joined_seat first second)
both_back t one two first second pair low high =
    let a = low.steps.at in
    let long : length first.cpus ≡ length second.cpus = let l = low.long in let l' = high.long in let f = pair.first_long in let s = pair.second_long in omega arith in
    let key : first.layout ≡ machine_of 2 1 4096 = a.layout ∙ pair.layout in
    let none : second.timer ≡ None = high.timer ∙ pair.second_timer in
    let timer = low.timer ∙ pair.first_timer in
    record {
      at = record { table = a.table; layout = a.layout };
      layout = pair.layout;
      all = record {
        cpus = λ i l. let n : first.layout.cpus ≡ 2 = ap (λ (k : Layout). k.cpus) key in
            two_cases (λ j. (q : CpuRecord) × Has (merged first.cpus second.cpus) j q) i (omega arith)
            (joined_has first.cpus second.cpus 0 low.steps.held.0 long low.steps.held.1)
            (high.steps.held.0, merged_there first.cpus second.cpus 1 high.steps.held.0 long high.steps.held.1);
        timer = ((opening (setting (machine_of 2 1 4096))).timer, joined_timer first.timer second.timer (opening (setting (machine_of 2 1 4096))).timer none timer);
      };
      timer = joined_timer first.timer second.timer (opening (setting (machine_of 2 1 4096))).timer none timer;
    }
