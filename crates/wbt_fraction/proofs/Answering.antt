-- From the notes of steps to what the calls answer.
use Rattle.std.proofs.Common.{◌≡◌, ◌≢◌, ℕ, suc, ◌+◌, ◌-◌, ◌/◌, ◌^◌, ◌<◌, ◌≤◌, Bool, cond, eqb, inl, inr, List, [], ◌∷◌, ◌++◌, Some, Result, Ok, Err, MatchResult, sym, refl, ap, ◌∙◌, subst, arith, eq-eqb, ne_eqb}
use Rattle.wbt_flex.specs.Eager.{halved}
use Rattle.wbt_flex.specs.declared.half.Half.{Half}
use Rattle.wbt_flex.specs.Proportions.{aged, after_period}
use Rattle.std.proofs.lemmas.Bool.Decides.{nat_tests}
use Rattle.wbt_flex.proofs.Halving.{halved_is}
use Rattle.wbt_fraction.specs.declared.domain.note.Note.{Note}
use Rattle.wbt_fraction.specs.declared.domain.note.Note.TheVariants.{Found, Added, Period}
use Rattle.wbt_fraction.specs.declared.domain.note.Trail.{Trail}
use Rattle.atomic_table.specs.Seated.{TableId}
use Rattle.wbt_fraction.specs.Words.{period_of, events_of, word_of}
use Rattle.wbt_fraction.specs.Notes.{NoneAfter, IsReached}
use Rattle.wbt_fraction.specs.History.{notes_of, left_by, aged_to, Makes, AreMade}
use Rattle.wbt_fraction.specs.Steps.{Sat, KnowsAll, with_trail}
use Rattle.wbt_fraction.specs.declared.domain.words.Again.{Again}
use Rattle.wbt_fraction.specs.Words.{half_of}
use Rattle.wbt_fraction.specs.Seat.{Seated, Ready, MakesReady, Missed, Looks, Adds}
use Rattle.wbt_fraction.proofs.Numbers.{halved_le, made_period}

pub aged_is : (word period : ℕ) → word_of (aged (half_of word) period).period (aged (half_of word) period).events ≡ word_of period (halved (period - period_of word) (events_of word))
aged_is word period = ap (word_of period) (sym (halved_is (period - period_of word) (events_of word)))

pub begun_gap : (old new k : ℕ) → new ≡ word_of (period_of old + k) (halved k (events_of old)) → period_of new - period_of old ≡ k
begun_gap old new k new_is =
    let small = halved_le k (events_of old) in
    let is : period_of new ≡ period_of old + k = ap period_of new_is ∙ made_period (period_of old + k) (halved k (events_of old)) (omega arith) in
    omega arith

pub two_behind : (period part word first : ℕ) (notes : List Note) → NoneAfter period (Found (suc part) word ∷ Found 0 first ∷ notes)
    → (period_of word ≤ period) × NoneAfter period notes
unfolding NoneAfter
two_behind period part word first notes h = (h.0, h.1.1)

pub domain_reached : (part word domain : ℕ) (notes : List Note) → IsReached (period_of domain) (Found (suc part) word ∷ Found 0 domain ∷ notes)
unfolding IsReached
domain_reached part word domain notes = inr (inl refl)

pub none_made : (trail : Trail) → AreMade [] trail trail
unfolding AreMade
none_made trail = refl

pub next_made : (note : Note) (earlier : List Note) (old mid new : Trail) → AreMade earlier old mid → Makes note (left_by note) mid new → AreMade (note ∷ earlier) old new
unfolding AreMade
next_made note earlier old mid new made makes = (mid, made, makes)

pub one_made : (a : Note) (old new : Trail) → Makes a (left_by a) old new → AreMade (a ∷ []) old new
one_made a old new makes = next_made a [] old old new (none_made old) makes

pub two_made : (a b : Note) (old mid new : Trail) → Makes a (left_by a) old mid → Makes b (left_by b) mid new → AreMade (b ∷ a ∷ []) old new
two_made a b old mid new first second = next_made b (a ∷ []) old mid new (one_made a old mid first) second

pub made_notes : (more : List Note) (old new : Trail) → AreMade more old new → notes_of new.own ≡ more ++ notes_of old.own
unfolding AreMade
made_notes [] old new made = ap (λ (t : Trail). notes_of t.own) made
made_notes (note ∷ earlier) old new made = ap (λ (t : Trail). notes_of t.own) made.2.is ∙ ap (λ (l : List Note). note ∷ l) (made_notes earlier old made.0 made.1)

-- the seat as contracts see it
abbrev pub seat_of : (table : TableId) (me : Sat) → Seated
seat_of table me = record { table = table; notes = notes_of me.0.trail.own; trail = me.0.trail; stakes = me.0.stakes; room = me.0.domain_room }

pub looks_are : (more : List Note) (t u : TableId) (old new : Sat) → u ≡ t → AreMade more old.0.trail new.0.trail → new ≡ with_trail new.0.trail old → KnowsAll new
    → Looks more (seat_of t old) (seat_of u new)
looks_are more t u old new table made same knows = record {
  table = table;
  notes = made_notes more old.0.trail new.0.trail made;
  made = made;
  noted = refl;
  whole = λ all. (knows all).1;
  stakes = ap (λ (x : Sat). x.0.stakes) same;
  room = ap (λ (x : Sat). x.0.domain_room) same;
  complete = λ all. (knows all).0;
}

pub adds_are : (part n : ℕ) (t u : TableId) (r : ℕ × ℕ) (looks : List Note) (old mid new : Sat) → u ≡ t → Ready part looks → notes_of mid.0.trail.own ≡ looks ++ notes_of old.0.trail.own
    → MakesReady part old.0.trail mid.0.trail → mid ≡ with_trail mid.0.trail old → AreMade (Added 0 r.1 n ∷ Added (suc part) r.0 n ∷ []) mid.0.trail new.0.trail
    → new ≡ (record { trail = new.0.trail; stakes = mid.0.stakes; domain_room = mid.0.domain_room - n; part_room = mid.0.part_room - n }, mid.1) → KnowsAll new
    → Adds part n (seat_of t old) (seat_of u new)
adds_are part n t u r looks old mid new table ready notes makes same made less knows = record {
  looks = looks;
  ready = ready;
  in_part = r.0;
  in_domain = r.1;
  table = table;
  notes = made_notes (Added 0 r.1 n ∷ Added (suc part) r.0 n ∷ []) mid.0.trail new.0.trail made ∙ ap (λ (l : List Note). Added 0 r.1 n ∷ Added (suc part) r.0 n ∷ l) notes;
  looked = mid.0.trail;
  makes_ready = makes;
  made = made;
  noted = refl;
  whole = λ all. (knows all).1;
  stakes = ap (λ (x : Sat). x.0.stakes) less ∙ ap (λ (x : Sat). x.0.stakes) same;
  room = ap (λ (x : Sat). x.0.domain_room) less ∙ ap (λ (x : Sat). x.0.domain_room - n) same;
  complete = λ all. (knows all).0;
}

pub now_ready : (part domain first : ℕ) (old new : Trail) → period_of domain ≤ period_of first → AreMade (Found (suc part) first ∷ Found 0 domain ∷ []) old new
    → (more : List Note) × Ready part more × (notes_of new.own ≡ more ++ notes_of old.own) × MakesReady part old new
now_ready part domain first old new there made = (
  Found (suc part) first ∷ Found 0 domain ∷ [],
  (domain, first, inl (there, refl)),
  made_notes (Found (suc part) first ∷ Found 0 domain ∷ []) old new made,
  (domain, first, new, made, inl (there, refl)),
)

pub aged_ready : {A : Type 0} (part domain first : ℕ) (old mid new : Trail) (result : Result A Again) → period_of first < period_of domain
    → AreMade (Found (suc part) first ∷ Found 0 domain ∷ []) old mid
    → MatchResult result (λ _. Makes (Found (suc part) first) (aged_to (period_of domain) first) mid new)
    (λ again. (again.first ≡ first) × (again.first ≢ again.second) × Makes (Found (suc part) again.second) again.second mid new)
    → MatchResult result (λ _. (more : List Note) × Ready part more × (notes_of new.own ≡ more ++ notes_of old.own) × MakesReady part old new)
    (λ again. (more : List Note) × Missed part again more × AreMade more old new)
aged_ready part domain first old mid new (Ok a) behind made told = (
  Found (suc part) first ∷ Found (suc part) first ∷ Found 0 domain ∷ [],
  (domain, first, inr (behind, refl)),
  ap (λ (t : Trail). notes_of t.own) told.is ∙ ap (λ (l : List Note). Found (suc part) first ∷ l) (made_notes (Found (suc part) first ∷ Found 0 domain ∷ []) old mid made),
  (domain, first, mid, made, inr (behind, told)),
)
aged_ready part domain first old mid new (Err again) behind made told = (
  Found (suc part) again.second ∷ Found (suc part) again.first ∷ Found 0 domain ∷ [],
  (domain, subst (λ x. period_of x < period_of domain) (sym told.0) behind, told.1, refl),
  next_made (Found (suc part) again.second) (Found (suc part) again.first ∷ Found 0 domain ∷ []) old mid new
      (subst (λ x. AreMade (Found (suc part) x ∷ Found 0 domain ∷ []) old mid) (sym told.0) made) told.2,
)

pub begun_made : (r first new k : ℕ) (a b : Trail) → Makes (cond (eqb r first) (Period r k) (Found 0 r)) (cond (eqb r first) new r) a b
    → r ≡ first → new ≡ left_by (Period first k) → Makes (Period first k) (left_by (Period first k)) a b
begun_made r first new k a b makes same is =
    subst (λ (z : Bool × ℕ × ℕ). Makes (cond z.0 (Period z.1 k) (Found 0 z.1)) (cond z.0 z.2 z.1) a b) (λ i. (eq-eqb r first same i, same i, is i)) makes

pub lost_made : (r first new k : ℕ) (a b : Trail) → Makes (cond (eqb r first) (Period r k) (Found 0 r)) (cond (eqb r first) new r) a b
    → r ≢ first → Makes (Found 0 r) r a b
lost_made r first new k a b makes ne = subst (λ (z : Bool). Makes (cond z (Period r k) (Found 0 r)) (cond z new r) a b) (ne_eqb r first ne) makes

pub begun_is : (global after : Half) (k : ℕ) → Some after ≡ after_period global k
    → (1 < global.events) × (global.period + k < 2 ^ 24) × (after ≡ record { period = global.period + k; events = global.events / 2 ^ k })
begun_is global after k is = grind (arith, nat_tests)
