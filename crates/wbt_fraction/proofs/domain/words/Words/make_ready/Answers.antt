use Rattle.std.proofs.Common.{ℕ, suc, ◌∷◌, [], sym, subst, arith}
use Rattle.wbt_fraction.specs.declared.domain.note.Note.TheVariants.{Found}
use Rattle.wbt_fraction.specs.Words.{period_of}
use Rattle.wbt_fraction.specs.Notes.{IsReached}
use Rattle.wbt_fraction.specs.History.{notes_of}
use Rattle.wbt_fraction.proofs.Answering.{now_ready, aged_ready, domain_reached, two_made, made_notes}
use Rattle.wbt_fraction.proofs.domain.words.Words.make_ready.Goals as goal

pub returns-then-first-period-clause-made : goal.returns-then-first-period-clause-made
returns-then-first-period-clause-made c =
    let domain : ℕ = c.load_domain-domain.result in
    let first : ℕ = c.load_part-first.result in
    let a = c.args.place.now.me.0.trail in
    let b = c.load_domain-domain.new.place.me.0.trail in
    let d = c.load_part-first.new.place.me.0.trail in
    now_ready c.args.part domain first a d c.if-first-period.true
    (two_made (Found 0 domain) (Found (suc c.args.part) first) a b d c.load_domain-domain.ensures.made c.load_part-first.ensures.made)

pub age_part-requires-clause-reached : goal.age_part-requires-clause-reached
age_part-requires-clause-reached c =
    let domain : ℕ = c.load_domain-domain.result in
    let first : ℕ = c.load_part-first.result in
    let a = c.args.place.now.me.0.trail in
    let b = c.load_domain-domain.new.place.me.0.trail in
    let d = c.load_part-first.new.place.me.0.trail in
    let made = two_made (Found 0 domain) (Found (suc c.args.part) first) a b d c.load_domain-domain.ensures.made c.load_part-first.ensures.made in
    subst (IsReached (period_of domain)) (sym (made_notes (Found (suc c.args.part) first ∷ Found 0 domain ∷ []) a d made)) (domain_reached c.args.part first domain (notes_of a.own))

pub returns-clause-made : goal.returns-clause-made
returns-clause-made c =
    let domain : ℕ = c.load_domain-domain.result in
    let first : ℕ = c.load_part-first.result in
    let a = c.args.place.now.me.0.trail in
    let b = c.load_domain-domain.new.place.me.0.trail in
    let d = c.load_part-first.new.place.me.0.trail in
    let behind = c.if-first-period.false in
    aged_ready c.args.part domain first a d c.age_part.new.place.me.0.trail c.age_part.result (omega arith)
    (two_made (Found 0 domain) (Found (suc c.args.part) first) a b d c.load_domain-domain.ensures.made c.load_part-first.ensures.made)
    c.age_part.ensures.made
