use Rattle.std.proofs.Common.{List, [], length, ◌∙◌, ap}
use Rattle.std.proofs.lemmas.List.{length-replicate, take_all}
use Rattle.wbt_journal.specs.Reads.{triples_of}
use Rattle.wbt_audit_walk.proofs.Common.{Limits, row_of}
use Rattle.wbt_audit_reads.proofs.Tripled.{none_published, published_on}
use Rattle.wbt_audit_reads.proofs.triples.published_by.Goals as goal

pub loop-entry-init : goal.loop-entry-init
loop-entry-init c =
    let places = c.args.places in
    let none : List Limits = [] in record {
      room = ap length c.in_ok-published.ensures ∙ length-replicate places.domains none;
      are = λ domain p is. ap (λ m. row_of m p) c.in_ok-published.ensures ∙ none_published places domain p is;
    }

pub loop-entry-preserved : goal.loop-entry-preserved
loop-entry-preserved c =
    let made = published_on c.args.places _ c.args.timer.now c.loop-entry.published c.publish.new.published c.loop-entry.entry-index c.in_ok-publish.ensures
    c.loop-entry-test.true c.loop-entry.invariant.room c.loop-entry.invariant.are in
    record { room = made.0; are = made.1 }

pub returns : goal.returns
returns c = λ domain p is.
    c.loop-entry.invariant.are domain p is ∙ ap (triples_of domain) (take_all c.loop-entry.entry-index c.args.timer.now c.loop-entry-test.false)
