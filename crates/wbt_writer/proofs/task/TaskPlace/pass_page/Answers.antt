use Rattle.std.proofs.Common.{Option, arith, refl, ap, ◌∙◌}
use Rattle.wbt_writer.proofs.Common.{since_after, Write, Pace}
use Rattle.wbt_writer.specs.Exact.{goes_on, was_last}
use Rattle.wbt_writer.proofs.Along.{is_there, within, over, some_left, ahead_write, not_over, pages_found, no_rest_behind}
use Rattle.std.proofs.lemmas.Option.{slice_get_within}
use Rattle.wbt_writer.proofs.task.TaskPlace.pass_page.Goals as goal

pub overflow_sub-self : goal.overflow_sub-self
overflow_sub-self c =
    let n = c.requires.next in
    let a = ahead_write c.args.trace.now c.args.task c.args.self.now c.requires.along n.0 n.1 n.2 n.3 in
    let one = some_left c.args.trace.now c.args.task c.args.self.now c.requires.along _ _ a in omega arith

pub returns-then-self-pages-clause-todo : goal.returns-then-self-pages-clause-todo
returns-then-self-pages-clause-todo c =
    let n = c.requires.next in
    let a = ahead_write c.args.trace.now c.args.task c.args.self.now c.requires.along n.0 n.1 n.2 n.3 in
    let one = some_left c.args.trace.now c.args.task c.args.self.now c.requires.along _ _ a in omega arith

pub returns-clause-todo : goal.returns-clause-todo
returns-clause-todo c =
    let n = c.requires.next in
    let a = ahead_write c.args.trace.now c.args.task c.args.self.now c.requires.along n.0 n.1 n.2 n.3 in
    let one = some_left c.args.trace.now c.args.task c.args.self.now c.requires.along _ _ a in omega arith

pub overflow_add-self-2 : goal.overflow_add-self-2
overflow_add-self-2 c =
    let n = c.requires.next in
    let less = not_over c.args.trace.now c.args.task c.args.self.now c.requires.along n.0 n.1 n.2 n.3 in
    let is = pages_found _ _ c.as_slice-actions.ensures c.args.self.now.at c.args.task n.0 n.1 n.2 c.pages_of-pages.result n.3 c.pages_of-pages.ensures in
    omega (arith, c)

pub returns-then-self-pages-clause-along : goal.returns-then-self-pages-clause-along
returns-then-self-pages-clause-along c =
    let n = c.requires.next in
    let is = pages_found _ _ c.as_slice-actions.ensures c.args.self.now.at c.args.task n.0 n.1 n.2 c.pages_of-pages.result n.3 c.pages_of-pages.ensures in
    within c.args.trace.now c.args.task c.args.self.now c.requires.along c.requires.lawful n.0 n.1 n.2 c.since_after-self.result n.3 c.requires.no_pause
    (c.since_after-self.ensures ∙ ap (λ (pace : Option Pace). since_after pace c.args.self.now.since) c.pace_of.ensures) (omega (arith, c))

pub action_from-self-requires : goal.action_from-self-requires
action_from-self-requires c = let less = slice_get_within c.args.trace.now.actions c.args.self.now.at _ c.requires.next.3 in omega arith

pub returns-clause-along : goal.returns-clause-along
returns-clause-along c =
    let n = c.requires.next in let e = c.action_from-self.ensures in
    let is = pages_found _ _ c.as_slice-actions.ensures c.args.self.now.at c.args.task n.0 n.1 n.2 c.pages_of-pages.result n.3 c.pages_of-pages.ensures in
    over c.args.trace.now c.args.task c.args.self.now c.requires.along c.requires.lawful n.0 n.1 n.2 c.action_from-self.result c.since_after-self.result n.3 c.requires.no_pause
    (c.since_after-self.ensures ∙ ap (λ (pace : Option Pace). since_after pace c.args.self.now.since) c.pace_of.ensures) (omega (arith, c)) e.within e.own e.skips

pub returns-then-self-pages-clause-past : goal.returns-then-self-pages-clause-past
returns-then-self-pages-clause-past c = λ past. let less = slice_get_within c.args.trace.now.actions c.args.self.now.at _ c.requires.next.3 in absurd (omega arith)

pub returns-clause-past : goal.returns-clause-past
returns-clause-past c = λ past. let n = c.requires.next in
    no_rest_behind c.args.trace.now c.args.task c.args.self.now c.requires.along n.0 n.1 n.2 c.action_from-self.result n.3 c.action_from-self.ensures.skips past

pub returns-then-self-pages-clause-stands : goal.returns-then-self-pages-clause-stands
returns-then-self-pages-clause-stands c =
    let n = c.requires.next in
    let is = pages_found _ _ c.as_slice-actions.ensures c.args.self.now.at c.args.task n.0 n.1 n.2 c.pages_of-pages.result n.3 c.pages_of-pages.ensures in
    goes_on (Write c.args.task n.0 n.1 n.2) n.3 (omega (arith, c)) refl refl

pub returns-clause-stands : goal.returns-clause-stands
returns-clause-stands c =
    let n = c.requires.next in let e = c.action_from-self.ensures in
    let less = not_over c.args.trace.now c.args.task c.args.self.now c.requires.along n.0 n.1 n.2 n.3 in
    let is = pages_found _ _ c.as_slice-actions.ensures c.args.self.now.at c.args.task n.0 n.1 n.2 c.pages_of-pages.result n.3 c.pages_of-pages.ensures in
    was_last (Write c.args.task n.0 n.1 n.2) n.3 (omega (arith, c)) (record { within = e.within; own = e.own; skips = e.skips }) refl

pub pace_of-requires : goal.pace_of-requires
pace_of-requires c =
    let n = c.requires.next in
    is_there c.args.trace.now c.requires.lawful c.args.task c.args.self.now c.requires.along c.args.task n.0 n.1 n.2 n.3

pub since_after-self-requires : goal.since_after-self-requires
since_after-self-requires c = let few = c.requires.along.since in omega (arith, few)
