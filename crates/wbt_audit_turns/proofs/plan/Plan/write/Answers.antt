use Rattle.std.proofs.Common.{rules, ◌≡◌, ℕ, ◌+◌, List, drop, sym, ap, ◌∙◌}
use Rattle.wbt_audit_turns.specs.Planned.{pages_of_spans}
use Rattle.wbt_audit_turns.proofs.Planning.{sees, left_is, last_is, next_no, next_yes, pages_are}
use Rattle.wbt_audit_turns.proofs.plan.Plan.write.Goals as goal

pub returns-then-first-self-clause-next : goal.returns-then-first-self-clause-next
returns-then-first-self-clause-next c =
    let spans = c.self.inside.spans.items in
    let at = sees spans c.as_slice.result.now c.self.inside.span c.self.inside.written c.in-Some.span.now c.as_slice.ensures.value c.in-Some.ensures.lookup.0 c.in-Some.ensures.lookup.1 c.self.invariant.within in
    let is : c.args.self.now.left ≡ drop c.self.inside.written (pages_of_spans (drop c.self.inside.span spans)) = search rules in
    next_no c.args.page (c.in-Some.span.now.first + c.self.inside.written) c.args.self.now.left (drop (c.self.inside.written + 1) (pages_of_spans (drop c.self.inside.span spans)))
    (is ∙ left_is spans c.self.inside.span c.self.inside.written c.in-Some.span.now at) c.if-first-self.true

pub returns-then-self-pages-clause-next : goal.returns-then-self-pages-clause-next
returns-then-self-pages-clause-next c =
    let spans = c.self.inside.spans.items in
    let at = sees spans c.as_slice.result.now c.self.inside.span c.self.inside.written c.in-Some.span.now c.as_slice.ensures.value c.in-Some.ensures.lookup.0 c.in-Some.ensures.lookup.1 c.self.invariant.within in
    let is : c.args.self.now.left ≡ drop c.self.inside.written (pages_of_spans (drop c.self.inside.span spans)) = search rules in
    next_yes c.args.page (c.in-Some.span.now.first + c.self.inside.written) c.args.self.now.left (drop (c.self.inside.written + 1) (pages_of_spans (drop c.self.inside.span spans)))
    (is ∙ left_is spans c.self.inside.span c.self.inside.written c.in-Some.span.now at) c.if-first-self.false

pub returns-then-self-pages-clause-left : goal.returns-then-self-pages-clause-left
returns-then-self-pages-clause-left c =
    let spans = c.self.inside.spans.items in
    let at = sees spans c.as_slice.result.now c.self.inside.span c.self.inside.written c.in-Some.span.now c.as_slice.ensures.value c.in-Some.ensures.lookup.0 c.in-Some.ensures.lookup.1 c.self.invariant.within in
    let all : pages_of_spans spans ≡ c.args.self.now.all = search rules in
    let is : c.args.self.now.left ≡ drop c.self.inside.written (pages_of_spans (drop c.self.inside.span spans)) = search rules in
    pages_are (pages_of_spans spans) c.args.self.now.all (pages_of_spans (drop (c.self.inside.span + 1) spans)) (drop 1 c.args.self.now.left) all
    (sym (ap (λ (l : List ℕ). drop 1 l) (is ∙ left_is spans c.self.inside.span c.self.inside.written c.in-Some.span.now at)
    ∙ last_is spans c.self.inside.span c.self.inside.written c.in-Some.span.now at c.if-self-pages.true))

pub returns-else-self-pages-clause-next : goal.returns-else-self-pages-clause-next
returns-else-self-pages-clause-next c =
    let spans = c.self.inside.spans.items in
    let at = sees spans c.as_slice.result.now c.self.inside.span c.self.inside.written c.in-Some.span.now c.as_slice.ensures.value c.in-Some.ensures.lookup.0 c.in-Some.ensures.lookup.1 c.self.invariant.within in
    let is : c.args.self.now.left ≡ drop c.self.inside.written (pages_of_spans (drop c.self.inside.span spans)) = search rules in
    next_yes c.args.page (c.in-Some.span.now.first + c.self.inside.written) c.args.self.now.left (drop (c.self.inside.written + 1) (pages_of_spans (drop c.self.inside.span spans)))
    (is ∙ left_is spans c.self.inside.span c.self.inside.written c.in-Some.span.now at) c.if-first-self.false

pub returns-else-self-pages-clause-left : goal.returns-else-self-pages-clause-left
returns-else-self-pages-clause-left c =
    let spans = c.self.inside.spans.items in
    let at = sees spans c.as_slice.result.now c.self.inside.span c.self.inside.written c.in-Some.span.now c.as_slice.ensures.value c.in-Some.ensures.lookup.0 c.in-Some.ensures.lookup.1 c.self.invariant.within in
    let all : pages_of_spans spans ≡ c.args.self.now.all = search rules in
    let is : c.args.self.now.left ≡ drop c.self.inside.written (pages_of_spans (drop c.self.inside.span spans)) = search rules in
    pages_are (pages_of_spans spans) c.args.self.now.all (drop (c.self.inside.written + 1) (pages_of_spans (drop c.self.inside.span spans))) (drop 1 c.args.self.now.left) all
    (sym (ap (λ (l : List ℕ). drop 1 l) (is ∙ left_is spans c.self.inside.span c.self.inside.written c.in-Some.span.now at)))
