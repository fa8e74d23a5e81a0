-- CPUs that went to a seat of their own and came back, and who is held after a split and after a join.
use Rattle.std.proofs.Common.{◌≡◌, ◌≢◌, ⊎_elim, ℕ, zero, suc, ◌<◌, Bool, true, false, cond, eqb, List, [], ◌∷◌, length, replicate, set, get_or, Option, Some, None, refl, sym, ap, ap₂, ◌∙◌, subst, arith, length-set, ne_eqb, eq-eqb}
use mathlib.Core.Option.{some, some-ne-none}
use lib.ListN.{get_elem?}
use Rattle.std.proofs.lemmas.List.{length-replicate}
use Rattle.wbt_kit.proofs.Common.{CpuRecord, left_seat, right_seat, joined_seat, Cpus, Has, or_else, merged, without_cpu, apart, Seated, at_less}
use Rattle.wbt_table.proofs.Joining.{merged_there, merged_else, either_is, there}
use Rattle.wbt_kit.specs.Kit.{CpusSplit}

module _ {A : Type 0} where
  came_back : (x : Option A) → or_else None x ≡ x
  came_back (Some r) = refl
  came_back None = refl

  none_came : (xs : List (Option A)) → merged xs (replicate (length xs) None) ≡ xs
  none_came [] = refl
  none_came (x ∷ xs) = ap (λ (l : List (Option A)). x ∷ l) (none_came xs)

  one_came_back : (xs : List (Option A)) (c : ℕ) → merged (set xs c None) (set (replicate (length xs) None) c (get_or xs c None)) ≡ xs
  one_came_back [] c = refl
  one_came_back (x ∷ xs) zero = ap₂ (λ (y : Option A) (l : List (Option A)). y ∷ l) (came_back x) (none_came xs)
  one_came_back (x ∷ xs) (suc c) = ap (λ (l : List (Option A)). x ∷ l) (one_came_back xs c)

  has_gone : (l : List (Option A)) (c : ℕ) (r : A) → get_elem? l c ≡ some (Some r)
      → get_elem? (set (replicate (length l) None) c (get_or l c None)) c ≡ some (Some r)
  has_gone [] c r e = absurd (some-ne-none (Some r) (sym e))
  has_gone (x ∷ xs) zero r e = e
  has_gone (x ∷ xs) (suc c) r e = has_gone xs c r e

  has_stayed : (l : List (Option A)) (c n : ℕ) (r : A) → n ≢ c → get_elem? l n ≡ some (Some r) → get_elem? (set l c None) n ≡ some (Some r)
  has_stayed [] c n r ne e = e
  has_stayed (x ∷ xs) zero zero r ne e = absurd (ne refl)
  has_stayed (x ∷ xs) zero (suc n) r ne e = e
  has_stayed (x ∷ xs) (suc c) zero r ne e = e
  has_stayed (x ∷ xs) (suc c) (suc n) r ne e = has_stayed xs c n r (λ q. ne (ap suc q)) e

-- a seat that was split, and then takes in the new one again, is what it was
pub split_is_undone : (n : ℕ) (s : Seated) → joined_seat (left_seat n s) (right_seat n s) ≡ s
split_is_undone n s = by (eqb n s.layout.cpus)
  where
    by : (b : Bool) → joined_seat (cond b (record s { timer = None; timer_log = None }) (record s { cpus = without_cpu n s.cpus; logs = without_cpu n s.logs }))
        (cond b (record s { cpus = replicate (length s.cpus) None; logs = replicate (length s.logs) None }) (record s { cpus = apart n s.cpus; timer = None; logs = apart n s.logs; timer_log = None })) ≡ s
    by true = λ i. record { table = s.table; layout = s.layout; cpus = none_came s.cpus i; timer = came_back s.timer i; logs = none_came s.logs i; timer_log = came_back s.timer_log i }
    by false = λ i. record { table = s.table; layout = s.layout; cpus = one_came_back s.cpus n i; timer = s.timer; logs = one_came_back s.logs n i; timer_log = s.timer_log }

-- what a split says of records
pub cpus_split : (n : ℕ) (s : Seated) → length s.cpus ≡ s.layout.cpus → CpusSplit n s (left_seat n s) (right_seat n s)
cpus_split n s long = record {
  left_is = refl;
  new_is = refl;
  gone = λ r has. subst (λ (b : Bool). Has (cond b (record s { cpus = replicate (length s.cpus) None; logs = replicate (length s.logs) None }) (record s { cpus = apart n s.cpus; timer = None; logs = apart n s.logs; timer_log = None })).cpus n r)
      (sym (ne_eqb n s.layout.cpus (is_cpu r has))) (has_gone s.cpus n r has);
  timer_gone = λ is. ap (λ (b : Bool). (cond b (record s { cpus = replicate (length s.cpus) None; logs = replicate (length s.logs) None }) (record s { cpus = apart n s.cpus; timer = None; logs = apart n s.logs; timer_log = None })).timer) (eq-eqb n s.layout.cpus is);
  others = λ m r ne has. stays (eqb n s.layout.cpus) m r ne has;
  timer_stayed = λ ne. ap (λ (b : Bool). (cond b (record s { timer = None; timer_log = None }) (record s { cpus = without_cpu n s.cpus; logs = without_cpu n s.logs })).timer) (ne_eqb n s.layout.cpus ne);
}
  where
    is_cpu : (r : CpuRecord) → Has s.cpus n r → n ≢ s.layout.cpus
    is_cpu r has e = let less : n < length s.cpus = at_less s.cpus n (Some r) has in absurd (omega arith)

    stays : (b : Bool) (m : ℕ) (r : CpuRecord) → m ≢ n → Has s.cpus m r
        → Has (cond b (record s { timer = None; timer_log = None }) (record s { cpus = without_cpu n s.cpus; logs = without_cpu n s.logs })).cpus m r
    stays true m r ne has = has
    stays false m r ne has = has_stayed s.cpus n m r ne has

-- a split leaves as many places
pub left_long : (n : ℕ) (s : Seated) → length (left_seat n s).cpus ≡ length s.cpus
left_long n s = by (eqb n s.layout.cpus)
  where
    by : (b : Bool) → length (cond b (record s { timer = None; timer_log = None }) (record s { cpus = without_cpu n s.cpus; logs = without_cpu n s.logs })).cpus ≡ length s.cpus
    by true = refl
    by false = length-set s.cpus n None

pub right_long : (n : ℕ) (s : Seated) → length (right_seat n s).cpus ≡ length s.cpus
right_long n s = by (eqb n s.layout.cpus)
  where
    by : (b : Bool) → length (cond b (record s { cpus = replicate (length s.cpus) None; logs = replicate (length s.logs) None }) (record s { cpus = apart n s.cpus; timer = None; logs = apart n s.logs; timer_log = None })).cpus ≡ length s.cpus
    by true = length-replicate (length s.cpus) None
    by false = length-set (replicate (length s.cpus) None) n (get_or s.cpus n None) ∙ length-replicate (length s.cpus) None

-- who came by a join, and who was there before
pub has_come : (xs ys : Cpus) (n : ℕ) (r : CpuRecord) → length xs ≡ length ys → Has ys n r → Has (merged xs ys) n r
has_come xs ys n r long has = merged_there xs ys n r long has

pub was_there : (xs ys : Cpus) (n : ℕ) (r : CpuRecord) → length xs ≡ length ys → ((q : CpuRecord) → Has ys n q → ⊥) → Has xs n r → Has (merged xs ys) n r
was_there xs ys n r long none has =
    let less : n < length xs = at_less xs n (Some r) has in
    let at = there ys n (omega arith) in
    let nothing : at.0 ≡ None = ⊎_elim (λ h. h) (λ h. absurd (none h.0 (at.1 ∙ ap some h.1))) (either_is at.0) in
    merged_else xs ys n (at.1 ∙ ap some nothing) ∙ has
