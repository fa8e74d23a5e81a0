-- The bound of a life.
use Rattle.std.proofs.Common.{◌≡◌, ℕ, ◌<◌, ◌≤◌, [], ℤ, pos, unsigned_abs, to_z, of_z, sym, refl, ap, ◌∙◌, subst, arith}
use Rattle.std.specs.Int.{w128}
use Rattle.std.proofs.lemmas.Int.{to_z_pos}
use Rattle.wbt_num.specs.Arithmetic.{log2, halvings}
use Rattle.wbt_counter.specs.Batch.{domain_batch, context_batch}
use Rattle.wbt_counter.specs.declared.counter.Counter.TheVariants.{Domain}
use Rattle.wbt_grant.specs.State.{State, domain_count, opening}
use Rattle.wbt_grant.specs.Bound.{bound, greatest_hard}
use Rattle.wbt_table.specs.declared.layout.Layout.{Layout}
use Rattle.wbt_table.specs.Layout.{setting, HasCounter}
use Rattle.wbt_table.specs.Seat.{Shape, Seated}
use Rattle.wbt_table.specs.Census.{Counted, Closes, found_count}
use Rattle.caller_of_throttle.specs.Machine.{machine_of}
use Rattle.caller_of_throttle.specs.Work.{IsBack}

most : bound (setting (machine_of 2 1 4096)) (greatest_hard (setting (machine_of 2 1 4096)) []) 0 ≡ 292
unfolding domain_batch context_batch log2 halvings
most = refl

-- the count that is found is that of the pages, which is at most the bound
pub found_is_bounded : (t : Shape) (seat : Seated) (census : Counted) → IsBack t seat → Closes seat census → (n : ℕ) × (pos n ≡ found_count census (Domain 0)) × (n ≤ 292)
found_is_bounded t seat census back closes =
    let key : Layout = seat.layout in
    let s : State = closes.state in
    let is : key ≡ machine_of 2 1 4096 = back.at.layout ∙ back.layout in
    let timer : s.timer ≡ (opening (setting (machine_of 2 1 4096))).timer = closes.records.timer (opening (setting (machine_of 2 1 4096))).timer back.timer in
    let there : HasCounter key (Domain 0) = subst (λ (k : Layout). HasCounter k (Domain 0)) (sym is) (omega arith) in
    let hard : bound (setting key) (greatest_hard (setting key) s.timer.published) 0 ≡ bound (setting (machine_of 2 1 4096)) (greatest_hard (setting (machine_of 2 1 4096)) []) 0 = (λ i. bound (setting (is i)) (greatest_hard (setting (is i)) (timer i).published) 0) in
    let within = closes.holds.bounded 0 in
    let limit : bound (setting key) (greatest_hard (setting key) s.timer.published) 0 ≡ 292 = hard ∙ most in
    (domain_count (setting key) s.book 0, closes.exact back.all.cpus (Domain 0) there, omega arith)

-- a small number, as the code has it
its_size : (n : ℕ) → n ≤ 292 → unsigned_abs (to_z w128 (of_z w128 (pos n))) ≡ n
its_size n few = let small : n < 170141183460469231731687303715884105728 = omega arith in ap unsigned_abs (to_z_pos w128 n small)

pub left_is_bounded : (t : Shape) (seat : Seated) (census : Counted) (z : ℤ) (x : ℕ) → IsBack t seat → Closes seat census → z ≡ found_count census (Domain 0)
    → x ≡ unsigned_abs (to_z w128 (of_z w128 z)) → x ≤ 292
left_is_bounded t seat census z x back closes is value = let b = found_is_bounded t seat census back closes in
    let e : x ≡ b.0 = value ∙ ap (λ (y : ℤ). unsigned_abs (to_z w128 (of_z w128 y))) (is ∙ sym b.1) ∙ its_size b.0 b.2 in
    let l : b.0 ≤ 292 = b.2 in omega arith
