use Rattle.std.proofs.Common.{◌≡◌, ℕ, ◌+◌, ◌*◌, ◌^◌, ◌≤◌, ℤ, unsigned_abs, w64, ap, ◌∙◌, sym, subst, arith, rules}
use Rattle.std.specs.Int.{w128}
use Rattle.std.proofs.lemmas.Int.{to_z-of_z}
use Rattle.wbt_counter.specs.declared.counter.Count.{Count}
use Rattle.wbt_counter.specs.Account.{amount, to_clear}
use Rattle.wbt_counter.specs.Addends.{local_in}
use Rattle.wbt_counter.specs.Word.{count_in}
use Rattle.wbt_table.specs.Layout.{own_at, shared_at}
use Rattle.wbt_table.specs.Census.{word_at, debt_at}
use Rattle.caller_of_throttle.proofs.Summing.{counted_on, all_counted}
use Rattle.caller_of_throttle.proofs.count.exact.Goals as goal

pub loop-cpu-preserved : goal.loop-cpu-preserved
loop-cpu-preserved c = let census = c.args.census.now in let x = c.args.counter in let n : ℕ = c.loop-cpu.cpu in let so_far = c.loop-cpu.invariant in
    let local = to_z-of_z w128 c.and-local.result (search rules) in
    let events = to_z-of_z w128 c.and-events.result (search rules) in
    let clears = to_z-of_z w128 c.and-clears.result (search rules) in (
      counted_on n (λ i. local_in (word_at census (own_at census.layout x i))) _ _ _ c.local.result c.and-local.result local c.and-local.ensures.sum
          (to_z-of_z w64 c.local.result (search rules)) c.local.ensures so_far.0,
      counted_on n (λ i. amount (debt_at census i x)) _ _ _ c.owed-owed.result.event c.and-events.result events c.and-events.ensures.sum
          (to_z-of_z w64 c.owed-owed.result.event (search rules)) c.owed-owed.ensures.event so_far.1,
      counted_on n (λ i. to_clear (debt_at census i x)) _ _ _ c.owed-owed.result.clear c.and-clears.result clears c.and-clears.ensures.sum
          (to_z-of_z w64 c.owed-owed.result.clear (search rules)) c.owed-owed.ensures.clear so_far.2,
      subst (λ (z : ℤ). unsigned_abs z ≤ (n + 1) * 2 ^ 63) (sym local) c.and-local.ensures.small,
      subst (λ (z : ℤ). unsigned_abs z ≤ (n + 1) * 2 ^ 63) (sym events) c.and-events.ensures.small,
      subst (λ (z : ℤ). unsigned_abs z ≤ (n + 1) * 2 ^ 63) (sym clears) c.and-clears.ensures.small,
    )

pub returns : goal.returns
returns c = let census = c.args.census.now in let x = c.args.counter in let so_far = c.loop-cpu.invariant in
    let more = c.loop-cpu-test.false in let end = c.loop-cpu.auto.cpu-end in let cpus = c.requires.cpus.0 in
    let all : c.loop-cpu.cpu ≡ census.layout.cpus = omega arith in
    all_counted c.loop-cpu.cpu census.layout.cpus (λ i. local_in (word_at census (own_at census.layout x i))) (λ i. amount (debt_at census i x)) (λ i. to_clear (debt_at census i x))
    _ _ (count_in (word_at census (shared_at census.layout x))) _ _ _ c.found.result (to_z-of_z w128 c.found.result (search rules)) c.found.ensures
    (to_z-of_z w64 c.shared.result.value (search rules) ∙ ap (λ (k : Count). k.value) c.shared.ensures) so_far.0 so_far.1 so_far.2 all
