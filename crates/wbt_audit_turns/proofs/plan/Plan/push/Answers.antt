use Rattle.std.proofs.Common.{rules, ◌≡◌, ◌++◌, List, drop, ap, sym, ◌∙◌}
use Rattle.wbt_audit_walk.proofs.Common.{numbers}
use Rattle.wbt_audit_turns.specs.Planned.{TaskPages, pages_of_spans}
use Rattle.wbt_audit_turns.specs.declared.plan.Span.{Span}
use Rattle.wbt_audit_turns.proofs.Planning.{spans-push, plan-push}
use Rattle.wbt_audit_turns.proofs.plan.Plan.push.Goals as goal

pub returns : goal.returns
returns c =
    let spans = c.self.inside.spans.items in
    let last : Span = record { first = c.args.first; pages = c.args.pages } in
    let more = numbers c.args.first c.args.pages in
    let is : c.args.self.now ≡ record { all = pages_of_spans spans; left = drop c.self.inside.written (pages_of_spans (drop c.self.inside.span spans)) } = search rules in
    ap (λ (l : List Span). record { all = pages_of_spans l; left = drop c.self.inside.written (pages_of_spans (drop c.self.inside.span l)) }) c.in_ok-push.ensures.items
    ∙ (λ i. record { all = spans-push spans last i; left = plan-push spans c.self.inside.span c.self.inside.written last c.self.invariant i })
    ∙ ap (λ (p : TaskPages). record { all = p.all ++ more; left = p.left ++ more }) (sym is)
