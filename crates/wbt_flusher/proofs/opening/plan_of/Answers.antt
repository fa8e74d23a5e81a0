use Rattle.std.proofs.Common.{◌≡◌, ◌+◌, ◌<◌, List, length, sym, ap, ◌∙◌, subst, arith, false}
use Rattle.std.specs.Prelude.{None, slice_index_or}
use Rattle.wbt_flusher.proofs.Common.{Device, FlusherLine}
use Rattle.wbt_kit.proofs.Common.{least_shares}
use Rattle.wbt_flusher.proofs.Founding.{lawful_plan, traced_plan}
use Rattle.wbt_flusher.proofs.opening.plan_of.Goals as goal

pub returns-clause-plan : goal.returns-clause-plan
returns-clause-plan c =
    let trace = c.args.trace.now in
    let d : FlusherLine = record { device = 0; cpu = 0 } in
    let e : Device = record { rate = 0; min = 0; max = 0; strict = false; chunk = None; cyclic = false } in
    let line = slice_index_or c.as_slice.result.now c.args.flusher d in
    let of : line.device < length trace.devices =
    subst (λ (l : List FlusherLine). (slice_index_or l c.args.flusher d).device < length trace.devices) (sym c.as_slice.ensures) (c.requires.lawful.within.flushers c.args.flusher d c.requires.there).0 in
    lawful_plan trace _ c.requires.lawful (c.from_vec.ensures ∙ c.in_ok-to_vec.ensures.items_if_clones_equal (λ x y same. same) ∙ c.as_slice-2.ensures)
    (c.from_vec-2.ensures ∙ c.in_ok-to_vec-2.ensures.items_if_clones_equal (λ x y same. same) ∙ c.as_slice-3.ensures)
    (let many : c.domains_of.result ≡ length trace.cgroups + 1 = omega (arith, c.domains_of.ensures) in many) (c.least_shares.ensures ∙ ap least_shares c.as_slice-5.ensures)
    e of (ap (λ (l : List Device). slice_index_or l line.device e) c.as_slice-4.ensures) c.pages_of.ensures

pub returns-clause-of : goal.returns-clause-of
returns-clause-of c =
    let trace = c.args.trace.now in
    let d : FlusherLine = record { device = 0; cpu = 0 } in
    let e : Device = record { rate = 0; min = 0; max = 0; strict = false; chunk = None; cyclic = false } in
    let line = slice_index_or c.as_slice.result.now c.args.flusher d in
    let of : line.device < length trace.devices =
    subst (λ (l : List FlusherLine). (slice_index_or l c.args.flusher d).device < length trace.devices) (sym c.as_slice.ensures) (c.requires.lawful.within.flushers c.args.flusher d c.requires.there).0 in
    traced_plan trace _ c.requires.lawful (c.from_vec.ensures ∙ c.in_ok-to_vec.ensures.items_if_clones_equal (λ x y same. same) ∙ c.as_slice-2.ensures)
    (c.from_vec-2.ensures ∙ c.in_ok-to_vec-2.ensures.items_if_clones_equal (λ x y same. same) ∙ c.as_slice-3.ensures)
    (let many : c.domains_of.result ≡ length trace.cgroups + 1 = omega (arith, c.domains_of.ensures) in many) (c.least_shares.ensures ∙ ap least_shares c.as_slice-5.ensures)
    d e c.requires.there (ap (λ (l : List FlusherLine). (slice_index_or l c.args.flusher d).device) c.as_slice.ensures) (ap (λ (l : List FlusherLine). (slice_index_or l c.args.flusher d).cpu) c.as_slice.ensures)
    c.leads.ensures c.is_ageing.ensures
    of (ap (λ (l : List Device). slice_index_or l line.device e) c.as_slice-4.ensures)
