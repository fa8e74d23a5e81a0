use Rattle.std.proofs.Common.{◌+◌, ◌-◌, ◌++◌, List, ap, ◌∙◌, ne_eqb, eq-eqb}
use Rattle.wbt_kit.proofs.Common.{Left}
use Rattle.wbt_run_laws.specs.Throttle.{left_from}
use Rattle.wbt_run_seats.specs.Left.{book_of}
use Rattle.wbt_run_seats.proofs.Lefts.{found_one, found_none}
use Rattle.wbt_run_seats.proofs.left.left_in.Goals as goal
use Rattle.wbt_run_seats.proofs.left.left_in.Goals.{then-word-ne0+in_ok-push, else-word-ne0}

pub loop-page-preserved : goal.loop-page-preserved
loop-page-preserved c =
    let book = book_of c.args.census.now in
    let page = c.loop-page.page in
    let count = c.args.pages in
    elim c.if-word-ne0.branch [
      | then-word-ne0+in_ok-push w ↦ ap (λ (l : List Left). l ++ left_from book (page + 1) (count - (page + 1))) (w.left-is ∙ w.in_ok-push.ensures)
          ∙ found_one book c.loop-page.left page count c.page-word.result c.loop-page-test.true c.page-word.ensures.bits (ne_eqb c.page-word.result 0 w.if-word-ne0.true) ∙ c.loop-page.invariant
      | else-word-ne0 w ↦ ap (λ (l : List Left). l ++ left_from book (page + 1) (count - (page + 1))) w.left-is
          ∙ found_none book c.loop-page.left page count c.page-word.result c.loop-page-test.true c.page-word.ensures.bits (eq-eqb c.page-word.result 0 w.if-word-ne0.false) ∙ c.loop-page.invariant
    ]
