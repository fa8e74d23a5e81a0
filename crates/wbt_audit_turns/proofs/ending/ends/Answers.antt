use Rattle.std.proofs.Common.{List, sym, ap, ◌∙◌}
use Rattle.std.specs.List.{list_any}
use Rattle.wbt_audit_walk.proofs.Common.{CpuJournal, Left, all_told, parts_of, has_all_steps, is_nothing, told}
use Rattle.wbt_audit_turns.proofs.Working.{some_zero, all_zero, ends_failed, ends_done, ends_halted, ends_spent, ends_faulted, and_first, and_none}
use Rattle.wbt_audit_turns.proofs.ending.ends.Goals as goal

pub returns-then-failed : goal.returns-then-failed
returns-then-failed c =
    let trace = c.args.trace.now in
    let j = c.args.journal.now in
    let failed = sym (c.has_zero-failed.ensures ∙ some_zero trace c.work.new.chances (all_told j) c.in_ok-work.ensures.chances) ∙ c.if-failed.true in
    c.is_faulted.ensures ∙ ends_failed trace (parts_of j) (all_told j) j.left j.ending failed

pub returns-then-wrote_all : goal.returns-then-wrote_all
returns-then-wrote_all c =
    let trace = c.args.trace.now in
    let j = c.args.journal.now in
    let failed = sym (c.has_zero-failed.ensures ∙ some_zero trace c.work.new.chances (all_told j) c.in_ok-work.ensures.chances) ∙ c.if-failed.false in
    let wrote = c.are_zero-wrote_all.ensures ∙ all_zero trace c.work.new.pages (all_told j) c.in_ok-work.ensures.pages in
    let nothing = c.is_nothing-nothing.ensures ∙ ap (λ (l : List Left). is_nothing l) c.as_slice.ensures in
    and_first c.are_zero-wrote_all.result c.is_nothing-nothing.result c.if-wrote_all.true
    ∙ ends_done trace (parts_of j) (all_told j) j.left j.ending c.are_zero-wrote_all.result c.is_nothing-nothing.result failed wrote nothing c.in-Done.is

pub returns-else-wrote_all : goal.returns-else-wrote_all
returns-else-wrote_all c =
    let trace = c.args.trace.now in
    let j = c.args.journal.now in
    let failed = sym (c.has_zero-failed.ensures ∙ some_zero trace c.work.new.chances (all_told j) c.in_ok-work.ensures.chances) ∙ c.if-failed.false in
    let wrote = c.are_zero-wrote_all.ensures ∙ all_zero trace c.work.new.pages (all_told j) c.in_ok-work.ensures.pages in
    let nothing = c.is_nothing-nothing.ensures ∙ ap (λ (l : List Left). is_nothing l) c.as_slice.ensures in
    and_none c.are_zero-wrote_all.result c.is_nothing-nothing.result c.if-wrote_all.false
    ∙ ends_done trace (parts_of j) (all_told j) j.left j.ending c.are_zero-wrote_all.result c.is_nothing-nothing.result failed wrote nothing c.in-Done.is

pub returns-in-Halted : goal.returns-in-Halted
returns-in-Halted c =
    let trace = c.args.trace.now in
    let j = c.args.journal.now in
    let failed = sym (c.has_zero-failed.ensures ∙ some_zero trace c.work.new.chances (all_told j) c.in_ok-work.ensures.chances) ∙ c.if-failed.false in
    ends_halted trace (parts_of j) (all_told j) j.left j.ending failed c.in-Halted.is

pub returns-in-Spent : goal.returns-in-Spent
returns-in-Spent c =
    let trace = c.args.trace.now in
    let j = c.args.journal.now in
    let failed = sym (c.has_zero-failed.ensures ∙ some_zero trace c.work.new.chances (all_told j) c.in_ok-work.ensures.chances) ∙ c.if-failed.false in
    c.is_spent.ensures ∙ ap (λ (l : List CpuJournal). list_any (λ part. has_all_steps (told part)) l) c.as_slice-in-Spent.ensures
    ∙ ends_spent trace j.cpus (all_told j) j.left j.ending failed c.in-Spent.is

pub returns-in-Faulted : goal.returns-in-Faulted
returns-in-Faulted c =
    let trace = c.args.trace.now in
    let j = c.args.journal.now in
    let failed = sym (c.has_zero-failed.ensures ∙ some_zero trace c.work.new.chances (all_told j) c.in_ok-work.ensures.chances) ∙ c.if-failed.false in
    ends_faulted trace (parts_of j) (all_told j) j.left j.ending failed c.in-Faulted.is
