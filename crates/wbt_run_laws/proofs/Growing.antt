-- Growth over one turn after another.
use Rattle.std.proofs.Common.{cond, List, [], flat_map, sym, refl, ap, ◌∙◌, subst, arith}
use Rattle.std.proofs.lemmas.List.Sums.{sum_by-append}
use Rattle.wbt_run_laws.proofs.Common.{Reading, fold_in, CountsAreFresh, versions_after, Told, onto, Gained, HasSeen}
use Rattle.wbt_journal.specs.Leaves.{is_page_step}
use Rattle.wbt_run_laws.specs.Grew.{event_in, found_in, readings_in, GrewByNothing, GrewByBoth, GrewIsFresh, GrewServesOnce}
use Rattle.wbt_run_laws.proofs.Lists.{gained_none, gained_more, gained_count, longer_none, longer_more, onto_append, flat_append}
use Rattle.wbt_run_laws.proofs.Walking.{walks_none, told_more}

pub by_nothing : GrewByNothing
by_nothing r = record {
  folds = refl;
  events = refl;
  found_dirty = refl;
  readings = gained_none r.readings;
  triples = longer_none r.triples;
  fresh = λ cpu. walks_none HasSeen CountsAreFresh versions_after r;
  page_steps = omega arith;
}

pub by_both : GrewByBoth
by_both a b old mid new p q = record {
  folds = q.folds ∙ ap (onto fold_in b) p.folds ∙ sym (onto_append fold_in a b old.folds);
  events = q.events ∙ ap (onto event_in b) p.events ∙ sym (onto_append event_in a b old.events);
  found_dirty = q.found_dirty ∙ ap (onto found_in b) p.found_dirty ∙ sym (onto_append found_in a b old.found_dirty);
  readings = subst (λ (l : List Reading). Gained l old.readings new.readings) (sym (flat_append readings_in a b))
      (gained_more (flat_map readings_in a) (flat_map readings_in b) old.readings mid.readings new.readings p.readings q.readings);
  triples = longer_more old.triples mid.triples new.triples p.triples q.triples;
  fresh = λ cpu. told_more HasSeen CountsAreFresh versions_after cpu old mid new a b (p.fresh cpu) (q.fresh cpu);
  page_steps = let both = sum_by-append (λ (e : Told). cond (is_page_step e) 1 0) a b in let first = p.page_steps in let second = q.page_steps in omega arith;
}

pub is_fresh : GrewIsFresh
is_fresh added r grew cpu = (grew.fresh cpu).allowed [] (λ version x none. refl)

pub serves_once : GrewServesOnce
serves_once added old new grew which = gained_count which (flat_map readings_in added) old.readings new.readings grew.readings
