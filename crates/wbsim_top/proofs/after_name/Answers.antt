use Rattle.std.proofs.Common.{◌≡◌, ◌∙◌, ap, length, Ok}
use Rattle.std.proofs.lemmas.Iterator.Adapters.{YieldsList-from_skip, YieldsList-from_vec, fact_from_collect}
use Rattle.std.specs.Vec.{vec_len}
use Rattle.std.specs.declared.alloc.AllocError.{AllocError}
use Rattle.std.specs.Vec.Iter.{into_iter_items, into_iter_len}
use Rattle.wbsim_top.proofs.after_name.Goals as goal

pub returns : goal.returns
returns c =
    let args = c.args.args in
    let from = c.skip.ensures.source in
    let road = YieldsList-from_skip 1 (YieldsList-from_vec (into_iter_items args) (ap into_iter_items from) (ap into_iter_len from ∙ args.rest.ok.0)) c.skip.ensures.count in
    c.from_vec.ensures ∙ (fact_from_collect {E = AllocError} (λ xs v. (v.items ≡ xs) × (vec_len v ≡ length xs)) (Ok c.in_ok-list.list) c.in_ok-list.ensures.ran road).0
