use Rattle.std.proofs.Common.{ℕ, ◌∙◌, List, ap, arith}
use Rattle.wbt_journal.specs.Lawful.{DirtiedWereCompleted, FoundWereDirtied, IsLawful}
use Rattle.wbt_run_worker.proofs.Common.{Layout, kit_is_opened}
use Rattle.wbt_kit.proofs.Common.{pages_in, Inode}
use Rattle.wbt_trace.specs.Sofar.{pages_in as pages_of_inodes}
use Rattle.wbt_run_laws.specs.Laws.{NoneWaitsWhenDone}
use Rattle.wbt_run_laws.specs.Throttle.{left_from}
use Rattle.wbt_run_seats.specs.Left.{book_of}
use Rattle.wbt_run_close.proofs.Ended.{of_parts}
use Rattle.wbt_run_close.proofs.closing.close.Goals as goal

pub left_in-requires : goal.left_in-requires
left_in-requires c =
    let opened = kit_is_opened c.args.trace.now c.args.now c.args.kit c.requires.lawful c.requires.kit in
    let layout = c.close.ensures.layout ∙ c.requires.seats.cpu.layout in
    let many = opened.throttle.pages_are in
    let same = ap (λ (l : Layout). pages_in l.inodes) layout in
    let told = c.pages_of-pages.ensures ∙ ap (λ (l : List Inode). pages_of_inodes l) c.as_slice.ensures in
    record { pages = omega (arith, told, many, same) }

pub returns-clause-lawful : goal.returns-clause-lawful
returns-clause-lawful c =
    let left_is = c.in_ok-left.ensures ∙ ap (λ (n : ℕ). left_from (book_of c.close.result) 0 n) (c.pages_of-pages.ensures ∙ ap (λ (l : List Inode). pages_of_inodes l) c.as_slice.ensures) in
    of_parts (IsLawful c.args.trace.now) c.merge.result c.args.worked.cpus c.into_vec.result.items c.args.worked.timer c.into_vec-2.result.items c.in_ok-left.left c.into_vec-3.result.items c.args.worked.ending
    c.merge.ensures c.into_vec.ensures c.into_vec-2.ensures c.into_vec-3.ensures
    (c.work_is_lawful.ensures.lawful c.args.trace.now c.args.now c.args.kit c.args.seats c.close.result c.args.worked.cpus c.args.worked.timer c.in_ok-left.left c.args.worked.ending
    c.requires.lawful c.requires.kit c.requires.seats c.requires.worked c.close.ensures left_is)

pub returns-clause-found : goal.returns-clause-found
returns-clause-found c =
    let left_is = c.in_ok-left.ensures ∙ ap (λ (n : ℕ). left_from (book_of c.close.result) 0 n) (c.pages_of-pages.ensures ∙ ap (λ (l : List Inode). pages_of_inodes l) c.as_slice.ensures) in
    of_parts FoundWereDirtied c.merge.result c.args.worked.cpus c.into_vec.result.items c.args.worked.timer c.into_vec-2.result.items c.in_ok-left.left c.into_vec-3.result.items c.args.worked.ending
    c.merge.ensures c.into_vec.ensures c.into_vec-2.ensures c.into_vec-3.ensures
    (c.work_is_lawful.ensures.found c.args.trace.now c.args.now c.args.kit c.args.seats c.close.result c.args.worked.cpus c.args.worked.timer c.in_ok-left.left c.args.worked.ending
    c.requires.lawful c.requires.kit c.requires.seats c.requires.worked c.close.ensures left_is)

pub returns-clause-completed : goal.returns-clause-completed
returns-clause-completed c =
    let left_is = c.in_ok-left.ensures ∙ ap (λ (n : ℕ). left_from (book_of c.close.result) 0 n) (c.pages_of-pages.ensures ∙ ap (λ (l : List Inode). pages_of_inodes l) c.as_slice.ensures) in
    of_parts (DirtiedWereCompleted c.args.trace.now) c.merge.result c.args.worked.cpus c.into_vec.result.items c.args.worked.timer c.into_vec-2.result.items c.in_ok-left.left c.into_vec-3.result.items c.args.worked.ending
    c.merge.ensures c.into_vec.ensures c.into_vec-2.ensures c.into_vec-3.ensures
    (c.work_is_lawful.ensures.completed c.args.trace.now c.args.now c.args.kit c.args.seats c.close.result c.args.worked.cpus c.args.worked.timer c.in_ok-left.left c.args.worked.ending
    c.requires.lawful c.requires.kit c.requires.seats c.requires.worked c.close.ensures left_is)

pub returns-clause-none_waits : goal.returns-clause-none_waits
returns-clause-none_waits c =
    let left_is = c.in_ok-left.ensures ∙ ap (λ (n : ℕ). left_from (book_of c.close.result) 0 n) (c.pages_of-pages.ensures ∙ ap (λ (l : List Inode). pages_of_inodes l) c.as_slice.ensures) in
    of_parts (NoneWaitsWhenDone c.args.trace.now) c.merge.result c.args.worked.cpus c.into_vec.result.items c.args.worked.timer c.into_vec-2.result.items c.in_ok-left.left c.into_vec-3.result.items c.args.worked.ending
    c.merge.ensures c.into_vec.ensures c.into_vec-2.ensures c.into_vec-3.ensures
    (c.work_is_lawful.ensures.none_waits c.args.trace.now c.args.now c.args.kit c.args.seats c.close.result c.args.worked.cpus c.args.worked.timer c.in_ok-left.left c.args.worked.ending
    c.requires.lawful c.requires.kit c.requires.seats c.requires.worked c.close.ensures left_is)
