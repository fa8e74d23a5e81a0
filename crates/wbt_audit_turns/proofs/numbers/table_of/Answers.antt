use Rattle.std.proofs.Common.{◌≡◌, ℕ, ◌+◌, ◌-◌, ◌*◌, length, drop, sym, ap, ◌∙◌, arith}
use Rattle.std.proofs.lemmas.List.{length-set, drop_all}
use Rattle.wbt_audit_walk.proofs.Common.{MOST_CONTEXTS, number_from}
use Rattle.wbt_audit_turns.proofs.Numbering.{numbered}
use Rattle.wbt_audit_turns.proofs.numbers.table_of.Goals as goal

pub loop-number-init : goal.loop-number-init
loop-number-init c =
    let names = c.args.names.now in
    record {
      low = omega arith;
      long = c.in_ok-table.ensures.long;
      each = λ task context task_less context_less. c.in_ok-table.ensures.each (MOST_CONTEXTS * task + context) (omega arith)
          ∙ sym (ap (number_from task context (length names)) (drop_all (length names) names (omega arith)));
    }

pub loop-number-preserved : goal.loop-number-preserved
loop-number-preserved c =
    let n = c.loop-number.number in
    let k : ℕ = n - 1 in
    let inv = c.loop-number.invariant in
    let names = c.args.names.now in
    let some = c.loop-number-test.true in
    let next : n ≡ k + 1 = omega (arith, some) in
    let low = inv.low in
    let range = c.requires.range k (omega (arith, some, low)) in
    record {
      low = omega (arith, low);
      long = length-set c.loop-number.table.items _ _ ∙ inv.long;
      each = λ task context task_less context_less.
          numbered c.loop-number.table.items task context k names inv.long (omega (arith, some, low)) task_less context_less range.0 range.1
          (inv.each task context task_less context_less ∙ ap (λ (m : ℕ). number_from task context m (drop m names)) next);
    }
