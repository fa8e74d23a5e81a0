-- Who is held by seats of which one CPU went, and after a join.
use Rattle.std.proofs.Common.{◌≡◌, ◌≢◌, ⊎_elim, ℕ, zero, suc, ◌<◌, ◌⊎◌, inl, inr, Bool, false, cond, eqb, List, [], ◌∷◌, length, replicate, set, get_or, Option, Some, None, refl, sym, ap, ◌∙◌, subst, arith, ne_eqb}
use mathlib.Core.Option.{some, some-injective, some-ne-none}
use lib.ListN.{get_elem?}
use Rattle.wbt_kit.proofs.Common.{CpuRecord, left_seat, right_seat, joined_seat, Has, HasLog, or_else, merged, without_cpu, apart, Seated, Logged, none_some}
use Rattle.wbt_table.proofs.Joining.{merged_cases}

-- ---- lists

module _ {A : Type 0} where
  -- after one place was emptied, what is there was there, at another place
  pub was_other : (l : List (Option A)) (n c : ℕ) (r : A) → get_elem? (set l n None) c ≡ some (Some r) → (c ≢ n) × (get_elem? l c ≡ some (Some r))
  was_other [] n c r e = absurd (some-ne-none (Some r) (sym e))
  was_other (x ∷ xs) zero zero r e = absurd (none_some r (some-injective None (Some r) e))
  was_other (x ∷ xs) zero (suc c) r e = ((λ q. omega arith), e)
  was_other (x ∷ xs) (suc n) zero r e = ((λ q. omega arith), e)
  was_other (x ∷ xs) (suc n) (suc c) r e = let before = was_other xs n c r e in ((λ q. before.0 (omega arith)), before.1)

  none_at : (n c : ℕ) (r : A) → get_elem? (replicate n None) c ≡ some (Some r) → ⊥
  none_at zero c r e = some-ne-none (Some r) (sym e)
  none_at (suc n) zero r e = none_some r (some-injective None (Some r) e)
  none_at (suc n) (suc c) r e = none_at n c r e

  -- where one place alone was filled, what is there is at that place
  pub is_only : (l n : ℕ) (x : Option A) (c : ℕ) (r : A) → get_elem? (set (replicate l None) n x) c ≡ some (Some r) → c ≡ n
  is_only zero n x c r e = absurd (some-ne-none (Some r) (sym e))
  is_only (suc l) zero x zero r e = refl
  is_only (suc l) zero x (suc c) r e = absurd (none_at l c r e)
  is_only (suc l) (suc n) x zero r e = absurd (none_some r (some-injective None (Some r) e))
  is_only (suc l) (suc n) x (suc c) r e = ap suc (is_only l n x c r e)

  -- emptying a place leaves what is at another, and where one place alone is filled nothing is at another
  pub emptied : (l : List (Option A)) (n : ℕ) (x : Option A) → get_elem? l n ≡ some x → get_elem? (set l n None) n ≡ some None
  emptied [] n x e = absurd (some-ne-none x (sym e))
  emptied (y ∷ l) zero x e = refl
  emptied (y ∷ l) (suc n) x e = emptied l n x e

  pub others_there : (l : List (Option A)) (n c : ℕ) (x : Option A) → c ≢ n → get_elem? l c ≡ some x → get_elem? (set l n None) c ≡ some x
  others_there [] n c x ne e = absurd (some-ne-none x (sym e))
  others_there (y ∷ l) zero zero x ne e = absurd (ne refl)
  others_there (y ∷ l) zero (suc c) x ne e = e
  others_there (y ∷ l) (suc n) zero x ne e = e
  others_there (y ∷ l) (suc n) (suc c) x ne e = others_there l n c x (λ q. ne (ap suc q)) e

  pub own_there : (l : List (Option A)) (c : ℕ) (r : A) → get_elem? l c ≡ some (Some r) → get_elem? (set (replicate (length l) None) c (get_or l c None)) c ≡ some (Some r)
  own_there [] c r e = absurd (some-ne-none (Some r) (sym e))
  own_there (x ∷ l) zero r e = e
  own_there (x ∷ l) (suc c) r e = own_there l c r e

  none_of : (l : List (Option A)) (c : ℕ) (x : Option A) → get_elem? l c ≡ some x → get_elem? (replicate {A = Option A} (length l) None) c ≡ some None
  none_of [] c x e = absurd (some-ne-none x (sym e))
  none_of (y ∷ l) zero x e = refl
  none_of (y ∷ l) (suc c) x e = none_of l c x e

  pub none_else : (l : List (Option A)) (n c : ℕ) (y x : Option A) → c ≢ n → get_elem? l c ≡ some x → get_elem? (set (replicate (length l) None) n y) c ≡ some None
  none_else [] n c y x ne e = absurd (some-ne-none x (sym e))
  none_else (z ∷ l) zero zero y x ne e = absurd (ne refl)
  none_else (z ∷ l) zero (suc c) y x ne e = none_of l c x e
  none_else (z ∷ l) (suc n) zero y x ne e = refl
  none_else (z ∷ l) (suc n) (suc c) y x ne e = none_else l n c y x (λ q. ne (ap suc q)) e

  -- where two lists come together: what the second has comes, and what the first has stays where the second has nothing
  pub comes_in : (xs ys : List (Option A)) (c : ℕ) (x : Option A) (s : A) → get_elem? xs c ≡ some x → get_elem? ys c ≡ some (Some s) → get_elem? (merged xs ys) c ≡ some (Some s)
  comes_in [] ys c x s e f = absurd (some-ne-none x (sym e))
  comes_in (z ∷ xs) [] c x s e f = absurd (some-ne-none (Some s) (sym f))
  comes_in (z ∷ xs) (y ∷ ys) zero x s e f = ap (λ (o : Option A). some (or_else z o)) (some-injective y (Some s) f)
  comes_in (z ∷ xs) (y ∷ ys) (suc c) x s e f = comes_in xs ys c x s e f

  pub stays_there : (xs ys : List (Option A)) (c : ℕ) (x : Option A) → get_elem? xs c ≡ some x → get_elem? ys c ≡ some None → get_elem? (merged xs ys) c ≡ some x
  stays_there [] ys c x e f = absurd (some-ne-none x (sym e))
  stays_there (z ∷ xs) [] c x e f = e
  stays_there (z ∷ xs) (y ∷ ys) zero x e f = ap (λ (o : Option A). some (or_else z o)) (some-injective y None f) ∙ e
  stays_there (z ∷ xs) (y ∷ ys) (suc c) x e f = stays_there xs ys c x e f

-- ---- a CPU goes

module _ (n : ℕ) (s : Seated) (less : n < s.layout.cpus) where
  not_timer : eqb n s.layout.cpus ≡ false
  not_timer = ne_eqb n s.layout.cpus (λ e. omega arith)

  pub left_is : left_seat n s ≡ record s { cpus = without_cpu n s.cpus; logs = without_cpu n s.logs }
  left_is = ap (λ (b : Bool). cond b (record s { timer = None; timer_log = None }) (record s { cpus = without_cpu n s.cpus; logs = without_cpu n s.logs })) not_timer

  pub right_is : right_seat n s ≡ record s { cpus = apart n s.cpus; timer = None; logs = apart n s.logs; timer_log = None }
  right_is = ap (λ (b : Bool). cond b (record s { cpus = replicate (length s.cpus) None; logs = replicate (length s.logs) None }) (record s { cpus = apart n s.cpus; timer = None; logs = apart n s.logs; timer_log = None })) not_timer

  pub left_has : (c : ℕ) (r : CpuRecord) → Has (left_seat n s).cpus c r → (c ≢ n) × Has s.cpus c r
  left_has c r has = was_other s.cpus n c r (subst (λ (t : Seated). Has t.cpus c r) left_is has)

  pub right_has : (c : ℕ) (r : CpuRecord) → Has (right_seat n s).cpus c r → c ≡ n
  right_has c r has = is_only (length s.cpus) n (get_or s.cpus n None) c r (subst (λ (t : Seated). Has t.cpus c r) right_is has)

  pub left_log_gone : (x : Option (List Logged)) → get_elem? s.logs n ≡ some x → get_elem? (left_seat n s).logs n ≡ some None
  left_log_gone x e = ap (λ (t : Seated). get_elem? t.logs n) left_is ∙ emptied s.logs n x e

  pub left_log_there : (c : ℕ) (x : Option (List Logged)) → c ≢ n → get_elem? s.logs c ≡ some x → get_elem? (left_seat n s).logs c ≡ some x
  left_log_there c x ne e = ap (λ (t : Seated). get_elem? t.logs c) left_is ∙ others_there s.logs n c x ne e

  pub right_log : (log : List Logged) → HasLog s.logs n log → HasLog (right_seat n s).logs n log
  right_log log e = ap (λ (t : Seated). get_elem? t.logs n) right_is ∙ own_there s.logs n log e

  pub right_no_log : (c : ℕ) (x : Option (List Logged)) → c ≢ n → get_elem? s.logs c ≡ some x → get_elem? (right_seat n s).logs c ≡ some None
  right_no_log c x ne e = ap (λ (t : Seated). get_elem? t.logs c) right_is ∙ none_else s.logs n c (get_or s.logs n None) x ne e

  pub right_timer_log : (right_seat n s).timer_log ≡ None
  right_timer_log = ap (λ (t : Seated). t.timer_log) right_is

  pub left_timer_log : (left_seat n s).timer_log ≡ s.timer_log
  left_timer_log = ap (λ (t : Seated). t.timer_log) left_is

  pub left_timer : (left_seat n s).timer ≡ s.timer
  left_timer = ap (λ (t : Seated). t.timer) left_is

  pub right_timer : (right_seat n s).timer ≡ None
  right_timer = ap (λ (t : Seated). t.timer) right_is

-- ---- a join

-- who is held after it was held before
pub joined_had : (s t : Seated) (c : ℕ) (r : CpuRecord) → length s.cpus ≡ length t.cpus → Has (joined_seat s t).cpus c r → Has t.cpus c r ⊎ Has s.cpus c r
joined_had s t c r long has = ⊎_elim (λ h. inl h) (λ h. inr h.1) (merged_cases s.cpus t.cpus c r long has)
