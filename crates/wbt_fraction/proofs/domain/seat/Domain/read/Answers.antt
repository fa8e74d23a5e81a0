use Rattle.std.proofs.Common.{◌≡◌, ◌≤◌, ℕ, suc, ◌∷◌, [], sym, ap, ap₂, ◌∙◌, subst, arith}
use Rattle.wbt_flex.specs.declared.half.Half.{Half}
use Rattle.wbt_flex.specs.Proportions.{fraction_of}
use Rattle.wbt_fraction.specs.declared.domain.note.Note.TheVariants.{Found}
use Rattle.wbt_fraction.specs.Words.{period_of}
use Rattle.wbt_fraction.specs.Notes.{NoneAfter}
use Rattle.wbt_fraction.specs.History.{notes_of}
use Rattle.wbt_fraction.specs.Steps.{with_trail}
use Rattle.wbt_fraction.specs.Seat.{Seated, Reads, Between}
use Rattle.wbt_fraction.proofs.Answering.{two_behind, two_made, next_made, made_notes, seat_of, looks_are}
use Rattle.wbt_fraction.proofs.domain.seat.Domain.read.Goals as goal

pub fraction-requires : goal.fraction-requires
fraction-requires c =
    let first : ℕ = c.load_domain-first.result in
    let word : ℕ = c.load_part-word.result in
    let second : ℕ = c.load_domain-second.result in
    let t0 = c.seat.inside.place.me.0.trail in
    let t1 = c.load_domain-first.new.place.me.0.trail in
    let t2 = c.load_part-word.new.place.me.0.trail in
    let is = made_notes (Found (suc c.args.part) word ∷ Found 0 first ∷ []) t0 t2
    (two_made (Found 0 first) (Found (suc c.args.part) word) t0 t1 t2 c.load_domain-first.ensures.made c.load_part-word.ensures.made) in
    let t = two_behind (period_of second) c.args.part word first (notes_of t0.own) (subst (NoneAfter (period_of second)) is c.load_domain-second.ensures.newest) in
    let same = c.if-first-second.false in
    let a = ap (λ (h : Half). h.period) c.unpack.ensures in
    let b = ap (λ (h : Half). h.period) c.unpack-2.ensures in
    let behind : period_of word ≤ period_of second = t.0 in
    omega arith

pub returns-then-first-second-clause-told : goal.returns-then-first-second-clause-told
returns-then-first-second-clause-told c =
    let part : ℕ = c.args.part in
    let first : ℕ = c.load_domain-first.result in
    let word : ℕ = c.load_part-word.result in
    let second : ℕ = c.load_domain-second.result in
    let old = c.seat.inside.place in
    let new = c.load_domain-second.new.place in
    let t1 = c.load_domain-first.new.place.me.0.trail in
    let t2 = c.load_part-word.new.place.me.0.trail in
    let same = c.load_domain-second.ensures.same ∙ ap (with_trail new.me.0.trail) (c.load_part-word.ensures.same ∙ ap (with_trail t2) c.load_domain-first.ensures.same) in
    let made = next_made (Found 0 second) (Found (suc part) word ∷ Found 0 first ∷ []) old.me.0.trail t2 new.me.0.trail
    (two_made (Found 0 first) (Found (suc part) word) old.me.0.trail t1 t2 c.load_domain-first.ensures.made c.load_part-word.ensures.made) c.load_domain-second.ensures.made in
    subst (λ (s : Seated). Between part record { first = first; second = second } s (seat_of new.table_id new.me)) c.seat.view_is (
      c.if-first-second.true,
      (
        word,
        looks_are (Found 0 second ∷ Found (suc part) word ∷ Found 0 first ∷ []) old.table_id new.table_id old.me new.me
            (c.load_domain-second.ensures.seat.0 ∙ c.load_part-word.ensures.seat.0 ∙ c.load_domain-first.ensures.seat.0) made same c.load_domain-second.ensures.complete,
      ),
    )

pub returns-clause-told : goal.returns-clause-told
returns-clause-told c =
    let part : ℕ = c.args.part in
    let first : ℕ = c.load_domain-first.result in
    let word : ℕ = c.load_part-word.result in
    let second : ℕ = c.load_domain-second.result in
    let old = c.seat.inside.place in
    let new = c.load_domain-second.new.place in
    let t1 = c.load_domain-first.new.place.me.0.trail in
    let t2 = c.load_part-word.new.place.me.0.trail in
    let all = c.load_domain-second.ensures.same ∙ ap (with_trail new.me.0.trail) (c.load_part-word.ensures.same ∙ ap (with_trail t2) c.load_domain-first.ensures.same) in
    let looked = two_made (Found 0 first) (Found (suc part) word) old.me.0.trail t1 t2 c.load_domain-first.ensures.made c.load_part-word.ensures.made in
    let made = next_made (Found 0 second) (Found (suc part) word ∷ Found 0 first ∷ []) old.me.0.trail t2 new.me.0.trail looked c.load_domain-second.ensures.made in
    let is = made_notes (Found (suc part) word ∷ Found 0 first ∷ []) old.me.0.trail t2 looked in
    let t = two_behind (period_of second) part word first (notes_of old.me.0.trail.own) (subst (NoneAfter (period_of second)) is c.load_domain-second.ensures.newest) in
    let same : period_of first ≡ period_of second = c.if-first-second.false in
    let period : c.fraction.result.period ≡ period_of second = c.fraction.ensures.period_is ∙ ap (λ (h : Half). h.period) c.unpack-2.ensures ∙ same in
    subst (λ (s : Seated). Reads part c.fraction.result s (seat_of new.table_id new.me)) c.seat.view_is (record {
      first = first;
      word = word;
      second = second;
      looks = looks_are (Found 0 second ∷ Found (suc part) word ∷ Found 0 first ∷ []) old.table_id new.table_id old.me new.me
          (c.load_domain-second.ensures.seat.0 ∙ c.load_part-word.ensures.seat.0 ∙ c.load_domain-first.ensures.seat.0) made all c.load_domain-second.ensures.complete;
      same_period = same;
      behind = subst (λ p. period_of word ≤ p) (sym same) t.0;
      value = c.fraction.ensures.value ∙ ap₂ fraction_of c.unpack.ensures c.unpack-2.ensures;
      newest = subst (λ p. NoneAfter p (notes_of old.me.0.trail.own)) (sym period) t.1;
    })
