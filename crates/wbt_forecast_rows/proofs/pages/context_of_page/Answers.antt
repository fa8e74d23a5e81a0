use Rattle.std.proofs.Common.{rules, of_calls, ◌∙◌, sym, subst, ap}
use Rattle.std.proofs.lemmas.Fn.{always_returns_same}
use Rattle.wbt_replay_order.proofs.Common.{context_among, AreFirsts}
use Rattle.wbt_forecast_rows.proofs.Paging.{are_parted, ends_by, found_none, found_some}
use Rattle.wbt_forecast_rows.proofs.pages.context_of_page.Goals as goal

pub returns-in-Some : goal.returns-in-Some
returns-in-Some c =
    let page = c.args.page in
    let inodes = c.as_slice-inodes.result.now in
    let firsts = subst (AreFirsts 0) (sym c.as_slice-inodes.ensures) c.requires in
    let point = c.partition_point-place.ensures.partitioned (ends_by page) (always_returns_same _ _ _ (λ a r f k. search (rules, of_calls)))
    (are_parted page inodes firsts) in
    found_some page inodes c.partition_point-place.result c.in-Some.inode.now firsts point c.in-Some.ensures.lookup.0 c.in-Some.ensures.lookup.1
    ∙ ap (context_among page) c.as_slice-inodes.ensures

pub returns-in-None : goal.returns-in-None
returns-in-None c =
    let page = c.args.page in
    let inodes = c.as_slice-inodes.result.now in
    let firsts = subst (AreFirsts 0) (sym c.as_slice-inodes.ensures) c.requires in
    let point = c.partition_point-place.ensures.partitioned (ends_by page) (always_returns_same _ _ _ (λ a r f k. search (rules, of_calls)))
    (are_parted page inodes firsts) in
    found_none page inodes c.partition_point-place.result firsts point c.in-None.ensures.lookup.0
    ∙ ap (context_among page) c.as_slice-inodes.ensures
