use Rattle.std.proofs.Common.{◌≡◌, ◌<◌, ℕ, length, Contains, refl, sym, ap, ◌∙◌, subst, arith, set}
use Rattle.wbt_flusher.proofs.Common.{Estimate, first_in, known_of, Known, CpuJournal, Seats, Went, sight}
use Rattle.wbt_published.specs.Known.{after_publish}
use Rattle.wbt_journal.specs.Estimates.{Follows}
use Rattle.wbt_run_laws.specs.Log.{with_estimate}
use Rattle.wbt_run_laws.proofs.Calling.{publish_is_told}
use Rattle.wbt_flusher.proofs.Measuring.{publish_goes, updated_follows}
use Rattle.wbt_flusher.proofs.plan.FlusherPlan.publish.Goals as goal

pub publish-requires-clause-next : goal.publish-requires-clause-next
publish-requires-clause-next g c =
    let is = c.next_estimate-estimate.ensures.value in
    let f = updated_follows c.args.old c.args.sample.now c.requires.age in
    let version = ap (λ (e : Estimate). e.version) is ∙ f.0.version in
    let last = c.requires.last in omega arith

pub returns-clause-goes : goal.returns-clause-goes
returns-clause-goes g c work told written has =
    let old = c.args.seats.now in
    let plan = c.args.self.now in
    let kit = c.args.hands.now.kit.now in
    let k = c.args.context in
    let estimate = c.next_estimate-estimate.result in
    let known : Known = known_of k old.est in
    let now : Known = after_publish estimate known in
    let new : Seats = record { cpu = old.cpu; share = old.share; est = c.publish.new.pass; queue = old.queue } in
    let fits = c.requires.fits in
    let there : k < length old.est.known = (let a = fits.seats_are.each_context in let b = c.requires.suits.published in omega arith) in
    let publishes = fits.publishes k c.requires.measured in
    let is = c.next_estimate-estimate.ensures.value in
    let f = updated_follows c.args.old c.args.sample.now c.requires.age in
    let follows : Follows c.args.old estimate = subst (λ (e : Estimate). Follows c.args.old e) (sym is) f.0 in
    let at : estimate.at ≡ c.args.sample.now.now = ap (λ (e : Estimate). e.at) is ∙ f.1 in
    let version = follows.version in
    let seen = c.requires.seen in
    subst (λ (l : CpuJournal). Went plan kit told (sight work old c.args.pen.now.log written) (sight work new l written)) (sym c.tell_estimate.ensures.log)
    (publish_goes plan kit old new k now fits (record { cpu = refl; share = refl; queue = refl }) c.publish.ensures there refl estimate c.requires.suits c.requires.context
    (omega arith) (publish_is_told (first_in kit.published.firsts k) known c.args.old estimate publishes c.requires.newest follows)
    told work c.args.pen.now.log written (subst (λ (m : ℕ). Contains told.estimates m) (sym at) has))

pub returns-clause-published : goal.returns-clause-published
returns-clause-published g c =
    let old = c.args.seats.now.est in
    c.publish.ensures ∙ ap (λ (e : Estimate). record old { known = set old.known c.args.context (after_publish e (known_of c.args.context old)) }) c.next_estimate-estimate.ensures.value

pub returns-clause-told : goal.returns-clause-told
returns-clause-told g c =
    c.tell_estimate.ensures.log ∙ ap (λ (e : Estimate). with_estimate (record { context = c.args.context; estimate = e }) c.args.pen.now.log) c.next_estimate-estimate.ensures.value
