use Rattle.std.proofs.Common.{◌∙◌, ap}
use Rattle.wbt_trace_text.specs.Lines.{line_from}
use Rattle.wbt_trace_text.proofs.LineLaws.{line_parts, line_found, line_none}
use Rattle.wbt_trace_text.proofs.line.line_of.Goals as goal

pub returns-in-None-clause-none : goal.returns-in-None-clause-none
returns-in-None-clause-none c = λ l is.
    let cut = c.front_of.ensures in
    c.in-None.ensures.none _ (line_parts _ _ _ l cut.whole cut.front cut.rest is).0

pub returns-in-None-2-clause-none : goal.returns-in-None-2-clause-none
returns-in-None-2-clause-none c = λ l is.
    let cut = c.front_of.ensures in
    let none = rw c.in-None-2.is at c.in_ok-numbers-in-Some.ensures.none in
    none _ (line_parts _ _ _ l cut.whole cut.front cut.rest is).1

pub returns-in-Some-2-clause-found : goal.returns-in-Some-2-clause-found
returns-in-Some-2-clause-found c =
    let cut = c.front_of.ensures in
    let are = rw c.in-Some-2.is at c.in_ok-numbers-in-Some.ensures.found in
    line_found c.line_from.result _ c.in-Some-2.found.items _ _ _ (c.line_from.ensures ∙ ap (line_from c.in-Some.kind) c.as_slice.ensures.value) cut.whole c.in-Some.ensures.found are

pub returns-in-Some-2-clause-none : goal.returns-in-Some-2-clause-none
returns-in-Some-2-clause-none c =
    let cut = c.front_of.ensures in
    let are = rw c.in-Some-2.is at c.in_ok-numbers-in-Some.ensures.found in
    line_none c.line_from.result _ c.in-Some-2.found.items _ _ _ (c.line_from.ensures ∙ ap (line_from c.in-Some.kind) c.as_slice.ensures.value) cut.whole cut.front cut.rest c.in-Some.ensures.found are
