use Rattle.std.proofs.Common.{◌≡◌, ◌<◌, ◌+◌, ℕ, List, ◌∷◌, length, get_or, set, drop, flat_map, sym, ap, ◌∙◌, subst, refl, add-one, drop-cons}
use Rattle.std.proofs.lemmas.List.{length-set, get_or_read}
use Rattle.wbt_trace.specs.Lawful.{IsAction}
use Rattle.wbt_audit_walk.proofs.Common.{Action, Inode, pages_of_action, rests_after}
use Rattle.wbt_trace.specs.declared.trace.Action.TheVariants as action
use Rattle.wbt_audit_turns.specs.Plans.{by_of, seen_more}
use Rattle.wbt_audit_turns.specs.Sides.{no_plan}
use Rattle.wbt_audit_turns.specs.declared.machine.TaskPlan.{TaskPlan}
use Rattle.wbt_audit_turns.proofs.Foreseen.{pages_seen, rests_seen}
use Rattle.wbt_audit_turns.proofs.machine.task_plans.Goals as goal

task_there : (tasks : ℕ) (inodes : List Inode) (a : Action) → IsAction tasks inodes a → by_of a < tasks
task_there tasks inodes (action.Write task inode from pages) is = is.0
task_there tasks inodes (action.Rest task ticks) is = is.0

drop_is : (actions : List Action) (i : ℕ) (d : Action) → i < length actions → drop i actions ≡ get_or actions i d ∷ drop (i + 1) actions
drop_is actions i d less = rw (add-one, drop-cons actions i d) refl

pub loop-action-preserved : goal.loop-action-preserved
loop-action-preserved c =
    let inv = c.loop-action.invariant in
    let trace = c.args.trace.now in
    let plans = c.loop-action.plans.items in
    let i = c.loop-action.action-index in
    let none : Action = action.Write 0 0 0 0 in
    let actions : List Action = trace.actions in
    let same : c.as_slice-action-items.result.now ≡ actions = c.as_slice-action-items.ensures in
    let less : i < length actions = subst (λ (xs : List Action). i < length xs) same c.loop-action-test.true in
    let a : Action = get_or actions i none in
    let task = c.task_of-task.result in
    let at : task ≡ by_of a = c.task_of-task.ensures ∙ ap (λ (xs : List Action). by_of (get_or xs i none)) same in
    let own : by_of a < length trace.tasks = task_there (length trace.tasks) trace.inodes a (c.requires.lawful.within.actions i none less) in
    let there : by_of a < length plans = subst (λ (n : ℕ). by_of a < n) (sym inv.long) own in
    let task_less : task < length plans = subst (λ (n : ℕ). n < length plans) (sym at) there in
    let new : TaskPlan = c.in_ok-plan.plan in
    let is : new ≡ seen_more (get_or plans (by_of a) no_plan) a =
    c.in_ok-plan.ensures ∙ ap (λ (xs : List Action). seen_more c.index.result.now (get_or xs i none)) same
    ∙ ap (λ (p : TaskPlan). seen_more p a) (get_or_read plans task c.index.result.now task_less c.index.ensures no_plan ∙ ap (λ (t : ℕ). get_or plans t no_plan) at) in
    let next : drop i actions ≡ a ∷ drop (i + 1) actions = drop_is actions i none less in
    record {
      long = length-set plans task new ∙ inv.long;
      pages = λ t t_less.
          ap (λ (k : ℕ). (get_or (set plans k new) t no_plan).pages + length (flat_map (pages_of_action trace.inodes t) (drop (i + 1) actions))) at
          ∙ pages_seen trace.inodes plans a (drop (i + 1) actions) new there is t
          ∙ ap (λ (xs : List Action). (get_or plans t no_plan).pages + length (flat_map (pages_of_action trace.inodes t) xs)) (sym next) ∙ inv.pages t t_less;
      rests = λ t t_less.
          ap (λ (k : ℕ). rests_after t (get_or (set plans k new) t no_plan).rests_last (drop (i + 1) actions)) at
          ∙ rests_seen trace.inodes plans a (drop (i + 1) actions) new there is t
          ∙ ap (λ (xs : List Action). rests_after t (get_or plans t no_plan).rests_last xs) (sym next) ∙ inv.rests t t_less;
    }
