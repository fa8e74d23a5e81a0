use Rattle.std.proofs.Common.{◌≡◌, ◌<◌, ◌≤◌, ◌∷◌, ◌++◌, [], All, List, true, get_or, length, refl, sym, ap, ◌∙◌, subst, arith, length-append, length-set}
use Rattle.std.proofs.lemmas.List.{get_or_default}
use Rattle.std.proofs.lemmas.List.Elements.{All-set}
use Rattle.wbt_num.specs.Limits.{IsLawful}
use Rattle.wbt_kit.proofs.Common.{MAX_LIMIT, Domain, Timer, setting, Put, Stopped}
use Rattle.wbt_grant.specs.Kinds.{count as count_step}
use Rattle.wbt_run_laws.proofs.Lists.{each_append}
use Rattle.wbt_timer.specs.Kinds.{PutSteps}
use Rattle.wbt_timer.specs.Turn.{IsLastPut, Outcome, PublishedEach, global_in, is_through, limits_by, no_side}
use Rattle.wbt_timer.specs.declared.side.DomainSide.{DomainSide}
use Rattle.wbt_timer.proofs.Asking.{asked_count, asked_more, asked_none}
use Rattle.wbt_timer.proofs.Found.{found_lawful}
use Rattle.wbt_timer.proofs.Made.{not_stopped, sealed_on, steps_one, turn_cut, turn_more, turn_none}
use Rattle.wbt_timer.proofs.Lines.{global_first, global_stays}
use Rattle.wbt_timer.proofs.Stepping.{hard_after, not_through, published_more, published_none}
use Rattle.wbt_timer.proofs.limits.publish_each.Goals as goal
use Rattle.wbt_timer.proofs.limits.publish_each.Goals.{then-domain-eq0, else-domain-eq0}

pub loop-domain-init : goal.loop-domain-init
loop-domain-init g c = record {
  each = published_none c.args.machine.now c.args.now c.args.sides.now.items c.args.seats.now c.args.log.now.items;
  asked = asked_none c.args.kit.now (g.G.Gate.said c.args.gate.now c.args.kit.now.throttle.layout.cpus) c.args.seats.now c.args.seats.now refl;
  taken = turn_none c.args.seats.now;
  seats = c.requires.seats;
  timer = c.requires.timer;
  many = refl;
  hards = c.requires.hards;
  count = omega arith;
  capacity = refl;
}

pub publish-put-requires-clause-lawful : goal.publish-put-requires-clause-lawful
publish-put-requires-clause-lawful g c =
    let items = c.loop-domain.sides.items in
    let i = c.loop-domain.domain in
    let less : i < length items = omega (arith, c.loop-domain-test.true, c.len-domain-end.ensures, c.loop-domain.invariant.many) in
    let hard : c.index.result.now.hard ≤ MAX_LIMIT =
    subst (λ (s : DomainSide). s.hard ≤ MAX_LIMIT) (sym c.index.ensures) (c.loop-domain.invariant.hards i c.index.result.now less) in
    subst IsLawful (sym c.limits_by-limits.ensures) (found_lawful c.args.machine.now c.args.now i c.if-domain-eq0.global c.index.result.now.hard c.read-count.result hard)

pub publish-put-requires-clause-timer : goal.publish-put-requires-clause-timer
publish-put-requires-clause-timer g c =
    let t = c.loop-domain.invariant.timer in
    let b = c.read-count.ensures.counted.became t.0 t.1 in (b.held, b.has)

pub loop-domain-preserved : goal.loop-domain-preserved
loop-domain-preserved g c =
    let machine = c.args.machine.now in
    let now = c.args.now in
    let items = c.loop-domain.sides.items in
    let i = c.loop-domain.domain in
    let f = c.loop-domain.invariant.each in
    let p = f.published in
    let g2 = c.if-domain-eq0.global in
    let count = c.read-count.result in
    let o : Outcome = record { limits = c.limits_by-limits.result; put = c.publish-put.result } in
    let less : i < length items = omega (arith, c.loop-domain-test.true, c.len-domain-end.ensures, c.loop-domain.invariant.many) in
    let few : i < length c.args.sides.now.items = omega (arith, less, c.loop-domain.invariant.many) in
    let read : c.index.result.now ≡ get_or items i no_side = c.index.ensures ∙ get_or_default items i _ no_side less in
    let hard : c.index.result.now.hard ≤ MAX_LIMIT =
    subst (λ (s : DomainSide). s.hard ≤ MAX_LIMIT) (sym c.index.ensures) (c.loop-domain.invariant.hards i c.index.result.now less) in
    let lawful = subst IsLawful (sym c.limits_by-limits.ensures) (found_lawful machine now i g2 c.index.result.now.hard count hard) in
    let its : o.limits ≡ limits_by machine now i g2 (get_or items i no_side).hard count = c.limits_by-limits.ensures ∙ ap (λ (s : DomainSide). limits_by machine now i g2 s.hard count) read in
    let global : g2 ≡ global_in (p.counts ++ count ∷ []) = elim c.if-domain-eq0.branch [
      | then-domain-eq0 w ↦ w.global-is ∙ w.reading-global.ensures ∙ sym (global_first p.counts count (p.each_domain ∙ f.each_domain ∙ w.if-domain-eq0.true))
      | else-domain-eq0 w ↦ w.global-is ∙ p.global_is ∙ sym (global_stays p.counts count (omega (arith, p.each_domain, f.each_domain, w.if-domain-eq0.false)))
    ] in
    let next = published_more machine now i c.loop-domain.global f.outcomes c.args.sides.now.items items c.note.new.sides.items c.args.seats.now c.loop-domain.seats c.read-count.new.seats c.publish-put.new.seats
    c.args.log.now.items c.loop-domain.log.items c.note.new.log.items g2 count o p f.each_domain few c.read-count.ensures.counted global its c.publish-put.ensures.published c.note.ensures.side c.note.ensures.line in
    let t = c.loop-domain.invariant.timer in
    let one = c.read-count.ensures.counted.became t.0 t.1 in
    let two = c.publish-put.ensures.published.became one.held one.has in
    record {
      each = record {
        outcomes = f.outcomes ++ o ∷ [];
        each_domain = omega (arith, length-append f.outcomes (o ∷ []), f.each_domain);
        through = each_append (λ (x : Outcome). is_through x.put ≡ true) f.outcomes (o ∷ []) f.through (sym c.is_through.ensures ∙ c.if-not-is_through.false, tt);
        published = next;
      };
      asked =
          let kit = c.args.kit.now in
          let said = g.G.Gate.said c.args.gate.now kit.throttle.layout.cpus in
          let old = c.args.seats.now in
          let mid = c.read-count.new.seats in
          asked_more kit said old mid c.publish-put.new.seats (asked_more kit said old c.loop-domain.seats mid c.loop-domain.invariant.asked (asked_count kit said c.loop-domain.domain c.loop-domain.seats mid c.read-count.ensures.step)) c.publish-put.ensures.asked;
      taken = λ sealed.
          let taken = c.loop-domain.invariant.taken sealed in
          let s1 = c.loop-domain.seats in
          let s2 = c.read-count.new.seats in
          let load = c.read-count.ensures.step in
          let set' = setting c.args.kit.now.throttle.layout in
          turn_more _ i o.put f.outcomes c.args.seats.now s1 s2 c.publish-put.new.seats refl (not_stopped o.put (sym c.is_through.ensures ∙ c.if-not-is_through.false)) taken
          (steps_one set' (count_step Timer (Domain i)) load.0 s1 s2 load.1)
          (c.publish-put.ensures.steps (sealed_on (count_step Timer (Domain i)) load.0 set' s1 s2 (λ r. refl) load.1 taken.sealed)) f.each_domain
          (λ r has.
          let before = p.became r has in
          let after = c.read-count.ensures.counted.became before.held before.has in
          subst (IsLastPut o.put i) (after.published_are ∙ before.published_are) (c.publish-put.ensures.published.last after.held after.has));
      seats = c.publish-put.ensures.seats;
      timer = (two.held, two.has);
      many = ap (λ (l : List DomainSide). length l) c.note.ensures.side ∙ length-set items i _ ∙ c.loop-domain.invariant.many;
      hards = subst (λ (l : List DomainSide). All (λ (s : DomainSide). s.hard ≤ MAX_LIMIT) l) (sym c.note.ensures.side)
          (All-set (λ (s : DomainSide). s.hard ≤ MAX_LIMIT) items i _ (hard_after o.put now o.limits (get_or items i no_side) lawful.hard_in_range (c.loop-domain.invariant.hards i no_side less)) c.loop-domain.invariant.hards);
      count = omega (arith, c.note.ensures.room.0, c.loop-domain.invariant.count);
      capacity = c.note.ensures.room.1 ∙ c.loop-domain.invariant.capacity;
    }

-- where the gate stopped a publication, which was the last then
pub returns-then-not-is_through-clause-some : goal.returns-then-not-is_through-clause-some
returns-then-not-is_through-clause-some g c is =
    let machine = c.args.machine.now in
    let now = c.args.now in
    let items = c.loop-domain.sides.items in
    let i = c.loop-domain.domain in
    let f = c.loop-domain.invariant.each in
    let p = f.published in
    let g2 = c.if-domain-eq0.global in
    let count = c.read-count.result in
    let o : Outcome = record { limits = c.limits_by-limits.result; put = c.publish-put.result } in
    let less : i < length items = omega (arith, c.loop-domain-test.true, c.len-domain-end.ensures, c.loop-domain.invariant.many) in
    let few : i < length c.args.sides.now.items = omega (arith, less, c.loop-domain.invariant.many) in
    let read : c.index.result.now ≡ get_or items i no_side = c.index.ensures ∙ get_or_default items i _ no_side less in
    let its : o.limits ≡ limits_by machine now i g2 (get_or items i no_side).hard count = c.limits_by-limits.ensures ∙ ap (λ (s : DomainSide). limits_by machine now i g2 s.hard count) read in
    let global : g2 ≡ global_in (p.counts ++ count ∷ []) = elim c.if-domain-eq0.branch [
      | then-domain-eq0 w ↦ w.global-is ∙ w.reading-global.ensures ∙ sym (global_first p.counts count (p.each_domain ∙ f.each_domain ∙ w.if-domain-eq0.true))
      | else-domain-eq0 w ↦ w.global-is ∙ p.global_is ∙ sym (global_stays p.counts count (omega (arith, p.each_domain, f.each_domain, w.if-domain-eq0.false)))
    ] in
    let next = published_more machine now i c.loop-domain.global f.outcomes c.args.sides.now.items items c.note.new.sides.items c.args.seats.now c.loop-domain.seats c.read-count.new.seats c.publish-put.new.seats
    c.args.log.now.items c.loop-domain.log.items c.note.new.log.items g2 count o p f.each_domain few c.read-count.ensures.counted global its c.publish-put.ensures.published c.note.ensures.side c.note.ensures.line in
    let stopped : o.put ≡ Stopped = not_through o.put (sym c.is_through.ensures ∙ c.if-not-is_through.true) in (
      g2,
      record {
        outcomes = f.outcomes;
        some = omega (arith, f.each_domain, few);
        through = f.through;
        limits = o.limits;
        published = subst (λ (z : Put). PublishedEach machine now g2 (f.outcomes ++ record { limits = o.limits; put = z } ∷ []) c.args.sides.now.items c.note.new.sides.items c.args.seats.now c.publish-put.new.seats
            c.args.log.now.items c.note.new.log.items) stopped next;
      },
    )

pub returns-then-not-is_through-clause-asked : goal.returns-then-not-is_through-clause-asked
returns-then-not-is_through-clause-asked g c =
    let kit = c.args.kit.now in
    let said = g.G.Gate.said c.args.gate.now kit.throttle.layout.cpus in
    let old = c.args.seats.now in
    let mid = c.read-count.new.seats in
    asked_more kit said old mid c.publish-put.new.seats (asked_more kit said old c.loop-domain.seats mid c.loop-domain.invariant.asked (asked_count kit said c.loop-domain.domain c.loop-domain.seats mid c.read-count.ensures.step)) c.publish-put.ensures.asked

pub returns-then-not-is_through-clause-cuts_turn : goal.returns-then-not-is_through-clause-cuts_turn
returns-then-not-is_through-clause-cuts_turn g c is sealed =
    let i = c.loop-domain.domain in
    let taken = c.loop-domain.invariant.taken sealed in
    let s1 = c.loop-domain.seats in
    let s2 = c.read-count.new.seats in
    let s3 = c.publish-put.new.seats in
    let load = c.read-count.ensures.step in
    let set' = setting c.args.kit.now.throttle.layout in
    let less : i < length c.args.sides.now.items = omega (arith, c.loop-domain-test.true, c.len-domain-end.ensures, c.loop-domain.invariant.many) in
    let stopped : c.publish-put.result ≡ Stopped = not_through c.publish-put.result (sym c.is_through.ensures ∙ c.if-not-is_through.true) in
    turn_cut (length c.args.sides.now.items) i c.args.seats.now s1 s2 s3 less taken (steps_one set' (count_step Timer (Domain i)) load.0 s1 s2 load.1)
    (subst (λ (put : Put). PutSteps put s2 s3) stopped
    (c.publish-put.ensures.steps (sealed_on (count_step Timer (Domain i)) load.0 set' s1 s2 (λ r. refl) load.1 taken.sealed)))
