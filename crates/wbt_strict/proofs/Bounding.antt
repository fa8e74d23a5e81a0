-- The strict rule holds from the opening on, and bounds the context.
use Rattle.std.proofs.Common.{◌≡◌, ℕ, zero, suc, ◌*◌, ◌-◌, ◌≤◌, Bool, true, false, cond, eqb, List, [], ◌∷◌, ◌++◌, refl, arith, add-mul, one-mul}
use Rattle.wbt_counter.specs.Sums.{total, one_if}
use Rattle.wbt_counter.proofs.Sums.{total_nothing}
use Rattle.wbt_grant.specs.declared.record.WriterRecord.{WriterRecord}
use Rattle.wbt_grant.specs.Setting.{Setting, IsSetting}
use Rattle.wbt_grant.specs.State.{State, context_count, writer_at, opening}
use Rattle.wbt_grant.specs.Kinds.{Step, after, run, AreAllowed}
use Rattle.wbt_grant.specs.Rule.{Rule}
use Rattle.wbt_grant.proofs.Bounding.{if_nothing}
use Rattle.wbt_grant.proofs.Whole.{opening_keeps, step_keeps}
use Rattle.wbt_strict.specs.Bound.{greatest_reading}
use Rattle.wbt_strict.specs.Rule.{strict_pot, StrictRule, AreStrict}
use Rattle.wbt_strict.specs.Laws.{StrictIsBounded}
use Rattle.wbt_strict.proofs.Steps.{step_keeps_strict}

-- n writers of a context have a cap each at most
at_most_cap : (b : Bool) (cap v : ℕ) → cond b (cap - v) 0 ≤ one_if b * cap
at_most_cap true cap v = let e = one-mul cap in omega arith
at_most_cap false cap v = omega arith

slack_below : (set : Setting) (k most : ℕ) (writers : ℕ → WriterRecord) (n : ℕ)
    → total n (λ w. cond (eqb (set.works_in w) k) (set.cap - strict_pot set most (writers w)) 0) ≤ total n (λ w. one_if (eqb (set.works_in w) k)) * set.cap
slack_below set k most writers zero = omega arith
slack_below set k most writers (suc n) =
    let b : Bool = eqb (set.works_in n) k in
    let rest = slack_below set k most writers n in
    let mine = at_most_cap b set.cap (strict_pot set most (writers n)) in
    let e = add-mul (total n (λ w. one_if (eqb (set.works_in w) k))) (one_if b) set.cap in omega arith

opening_is_strict : (set : Setting) (k most : ℕ) → StrictRule set k most (opening set)
opening_is_strict set k most =
    let none = total_nothing set.pages (λ p. cond (eqb (set.home p) k) 0 0) (λ p. if_nothing (eqb (set.home p) k) 0 refl) in
    let e : context_count set (opening set).book k ≡ 0 = none in omega arith

run_is_strict : (set : Setting) (k most : ℕ) (before rest : List Step) (s : State) → IsSetting set → Rule set s → StrictRule set k most s
    → AreAllowed set (before ++ rest) s → AreStrict set k most (before ++ rest) s → StrictRule set k most (run set before s)
run_is_strict set k most [] rest s ok rule within allowed strict = within
run_is_strict set k most (step ∷ before) rest s ok rule within allowed strict =
    run_is_strict set k most before rest (after set step s) ok (step_keeps set step s ok rule allowed.0)
    (step_keeps_strict set k most step s ok rule allowed.0 strict.0 within) allowed.1 strict.1

pub strict_is_bounded : StrictIsBounded
strict_is_bounded set k most before rest ok allowed strict =
    let m : ℕ = greatest_reading most set.cpus in
    let s : State = run set before (opening set) in
    let within = run_is_strict set k m before rest (opening set) ok (opening_keeps set ok) (opening_is_strict set k m) allowed strict in
    let slack = slack_below set k m (writer_at set s.cpu) set.writers in omega arith
