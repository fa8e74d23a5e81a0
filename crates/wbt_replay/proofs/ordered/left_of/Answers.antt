use Rattle.std.proofs.Common.{◌≡◌, ◌+◌, ◌-◌, ◌<◌, List, ◌++◌, true, false, eqb, ◌∙◌, ap, arith}
use Rattle.std.proofs.lemmas.Bool.Decides.{nat_tests}
use Rattle.wbt_replay_order.proofs.Common.{Left, left_from}
use Rattle.wbt_replay_moves.specs.Pages.{book_of}
use Rattle.wbt_replay_ends.proofs.Names.Left.{passed, pushed}
use Rattle.wbt_replay.proofs.ordered.left_of.Goals as goal
use Rattle.wbt_replay.proofs.ordered.left_of.Goals.{then-word-ne0+in_ok-push, else-word-ne0}

pub loop-page-preserved : goal.loop-page-preserved
loop-page-preserved c =
    let pages = c.args.pages.now.count in
    let book = book_of c.args.pages.now.words in
    let page = c.loop-page.page in
    let word = c.bits_of-word.result in
    let less : page < pages = omega (arith, c.loop-page-test.true, c.count-page-end.ensures) in
    let rest = left_from (pages - (page + 1)) (page + 1) book in
    elim c.if-word-ne0.branch [
      | then-word-ne0+in_ok-push w ↦
          let some : eqb word 0 ≡ false = grind (arith, nat_tests, w.if-word-ne0.true) in
          ap (λ (v : List Left). v ++ rest) (ap (λ v. v.items) w.left-is ∙ w.in_ok-push.ensures.items)
          ∙ pushed pages page word book c.loop-page.left.items _ less c.bits_of-word.ensures some c.loop-page.invariant
      | else-word-ne0 w ↦
          let none : eqb word 0 ≡ true = grind (arith, nat_tests, w.if-word-ne0.false) in
          ap (λ (v : List Left). v ++ rest) (ap (λ v. v.items) w.left-is)
          ∙ passed pages page word book c.loop-page.left.items _ less c.bits_of-word.ensures none c.loop-page.invariant
    ]
