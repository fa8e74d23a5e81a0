-- What a seat keeps of limits, through steps, splits and joins.
use Rattle.std.proofs.Common.{◌≡◌, ◌≢◌, ℕ, zero, suc, ◌+◌, ◌*◌, ◌/◌, ◌%◌, ◌<◌, ◌≤◌, Bool, true, false, cond, not, eqb, List, [], ◌∷◌, All, length, get_or, set, Option, Some, None, sym, refl, ap, ◌∙◌, subst, arith, ⊎_elim, get_or-set_same, get_or-set_other, length-set, eq-eqb, ne_eqb}
use Rattle.std.proofs.lemmas.Bool.{cond_both, cond-true, cond-false}
use Rattle.std.proofs.lemmas.Nat.{div-mul-add, div-add-mod'}
use mathlib.Core.Logic.{dite}
use native.Mathlib.Decide.{ℕ_discrete}
use Rattle.wbt_table.proofs.Common.{TableId, at_set, put, one_if, IsLawful, LAST_SEQUENCE, sequence_in, Who, DomainLimits, Words, CpuRecord, TimerRecord, State, held_of, found_of, version_of, is_sealed, sequence_of, Step, limits, sequence_now, last_found, claimed, Setting, cpu_for, maker_of, record_after, timer_after, look_record, KeepsTriples, KeepsSequences, IsKept, no_triple, triple_of, triple_number, setting, domains, Cpus, Has, put_record, given, Sat, Found, Turned, Seated, States, Knows, Agrees, with_grants, KeepsTimer, KeepsLefts, IsSeat, seated, is_whole_load, triple_in, turn}
use Rattle.wbt_grant.specs.declared.record.Stage.{Stage}
use Rattle.wbt_grant.specs.declared.record.Stage.TheVariants.{Sealed, Unsealed, Drafted}
use Rattle.wbt_counter.proofs.Sums.{put_each}
use Rattle.wbt_limits.specs.Words.{limits_in}
use Rattle.wbt_grant.specs.declared.record.Finding.{Finding}
use Rattle.wbt_grant.proofs.Reading.{limits_are_whole}
use Rattle.wbt_grant.specs.Record.{one_more as one_step_more, is_whole, read_triple, page_stepped, absorbed, redirtied, given_back, found_already, dirtied}
use Rattle.wbt_grant.specs.Seats.{claim_record, back_record, dirty_record}
use Rattle.wbt_table.specs.declared.answer.Triple.{Triple}
use Rattle.wbt_table.specs.declared.held.HeldLimits.{HeldLimits}
use Rattle.wbt_table.specs.declared.layout.Layout.{Layout}
use Rattle.wbt_table.specs.declared.rule.Granted.{Granted}
use Rattle.wbt_table.specs.declared.rule.View.{View}
use Rattle.wbt_table.specs.declared.state.CpuState.{CpuState}
use Rattle.wbt_table.specs.Rule.{Ticked}
use Rattle.wbt_table.specs.Calls.{ticked}
use Rattle.wbt_table.proofs.Seating.{some_is, none_some}
use Rattle.wbt_table.proofs.Keeping.{looked_each}
use Rattle.wbt_table.proofs.Places.{row_less}

-- a grant leaves what was loaded
pub given_triples : (grants : Option Granted) (r : CpuRecord) → (given grants r).triples ≡ r.triples
given_triples None r = refl
given_triples (Some g) r = refl

module _ (key : Layout) (me me' : Sat) (step : Step) (grants : Option Granted) (n : ℕ) (at : me.0.layout ≡ key)
    (turned : Turned (turn key step grants) n me me') (q : CpuRecord) (has : Has me.0.cpus (maker_of (setting key) step) q)
    (same : (record_after (setting key) step n (given grants q)).triples ≡ (given grants q).triples) where
  triples_turned : (triples : List Triple) → KeepsTriples key triples me.0.cpus → KeepsTriples key triples me'.0.cpus
  triples_turned triples old =
      let c : ℕ = maker_of (setting key) step in
      let new : CpuRecord = record_after (setting key) step n (given grants q) in
      subst (KeepsTriples key triples) (sym (turned.cpus q has)) record {
        long = old.long;
        each = λ k r less has_r. ⊎_elim
            (λ e. let is : new ≡ r = some_is new r e.1 in
            old.each k q less (subst (λ (i : ℕ). Has me.0.cpus i q) (sym e.0) has)
            ∙ ap (λ (l : List _). triple_of (held_of (setting key) (k % domains key) l))
            (sym (same ∙ given_triples grants q) ∙ ap (λ (x : CpuRecord). x.triples) is))
            (λ e. old.each k r less e.1)
            (at_set me.0.cpus c (k / domains key) (Some new) (Some r) has_r);
        lawful = old.lawful;
      }

  -- a step of a CPU that loads no limits leaves what the seat keeps of them
  pub kept_turned : (states states' : States) (lefts lefts' : List ℕ) (held : HeldLimits) (timer timer' : Option ℕ)
      → IsKept me states lefts held timer → IsSeat me' states' lefts' timer' → IsKept me' states' lefts' held timer'
  kept_turned states states' lefts lefts' held timer timer' old seat = record {
    seat = seat;
    triples = subst (λ (k : Layout). KeepsTriples k held.triples.items me'.0.cpus) (sym (turned.layout ∙ at))
        (triples_turned held.triples.items (subst (λ (k : Layout). KeepsTriples k held.triples.items me.0.cpus) at old.triples));
    sequences = subst (λ (z : Layout × Option TimerRecord). KeepsSequences z.0 held.sequences.items z.1)
        (λ i. (sym turned.layout i, sym turned.timer i)) old.sequences;
  }

-- ---- joins

one_more : (P : ℕ → Type 0) (i k : ℕ) → ((j : ℕ) → j < i → P j) → P i → k < suc i → P k
one_more P i k below here h = dite (ℕ_discrete k i) (λ e. subst P (sym e) here) (λ n. below k (omega arith))

-- the first numbers are taken over
pub record TriplesTakenTo (key : Layout) (i : ℕ) (states : States) (first from now : List Triple) : Type 0 where
  pub long : length now ≡ length first
  pub taken : (k : ℕ) → k < i → (s : CpuState) → get_or states (k / domains key) None ≡ Some s → get_or now k no_triple ≡ get_or from k no_triple
  pub others : (k : ℕ) → k < i → get_or states (k / domains key) None ≡ None → get_or now k no_triple ≡ get_or first k no_triple
  pub rest : (k : ℕ) → i ≤ k → get_or now k no_triple ≡ get_or first k no_triple

module _ (key : Layout) (states : States) (first from : List Triple) where
  pub no_triples_taken : TriplesTakenTo key 0 states first from first
  no_triples_taken = record {
    long = refl;
    taken = λ k less s e. absurd (omega arith);
    others = λ k less e. absurd (omega arith);
    rest = λ k more. refl;
  }

  pub takes_one_triple : (i : ℕ) (now : List Triple) (s : CpuState) → i < length first → get_or states (i / domains key) None ≡ Some s
      → TriplesTakenTo key i states first from now → TriplesTakenTo key (suc i) states first from (set now i (get_or from i no_triple))
  takes_one_triple i now s less is t = let long = t.long in let now' : List Triple = set now i (get_or from i no_triple) in
      let here : get_or now' i no_triple ≡ get_or from i no_triple = get_or-set_same now i (get_or from i no_triple) no_triple (omega arith) in
      let else_ : (k : ℕ) → k ≢ i → get_or now' k no_triple ≡ get_or now k no_triple = λ k ne. get_or-set_other now i k (get_or from i no_triple) no_triple ne in record {
        long = length-set now i (get_or from i no_triple) ∙ t.long;
        taken = λ k l. one_more (λ v. (s : CpuState) → get_or states (v / domains key) None ≡ Some s → get_or now' v no_triple ≡ get_or from v no_triple) i k
            (λ v m s e. else_ v (λ q. omega arith) ∙ t.taken v m s e) (λ s e. here) l;
        others = λ k l. one_more (λ v. get_or states (v / domains key) None ≡ None → get_or now' v no_triple ≡ get_or first v no_triple) i k
            (λ v m e. else_ v (λ q. omega arith) ∙ t.others v m e) (λ e. absurd (none_some s (sym e ∙ is))) l;
        rest = λ k l. else_ k (λ q. omega arith) ∙ t.rest k (omega arith);
      }

  pub passes_one_triple : (i : ℕ) (now : List Triple) → get_or states (i / domains key) None ≡ None → TriplesTakenTo key i states first from now
      → TriplesTakenTo key (suc i) states first from now
  passes_one_triple i now is t = record {
    long = t.long;
    taken = λ k l. one_more (λ v. (s : CpuState) → get_or states (v / domains key) None ≡ Some s → get_or now v no_triple ≡ get_or from v no_triple) i k
        t.taken (λ s e. absurd (none_some s (sym is ∙ e))) l;
    others = λ k l. one_more (λ v. get_or states (v / domains key) None ≡ None → get_or now v no_triple ≡ get_or first v no_triple) i k t.others (λ e. t.rest i (omega arith)) l;
    rest = λ k l. t.rest k (omega arith);
  }

-- ---- calls

pub look_triples : (set' : Setting) (p n : ℕ) (r : CpuRecord) → (look_record set' p n r).triples ≡ r.triples
look_triples set' p n r = looked_each set' p (set'.coding.page_bits n p) r (λ z. z.triples ≡ r.triples) refl refl refl

pub claim_triples : (p n : ℕ) (r : CpuRecord) → (claim_record p n r).triples ≡ r.triples
claim_triples p n r = cond_both (eqb n (last_found r.last)) (claimed p r) r (λ (z : CpuRecord). z.triples ≡ r.triples) (λ t. refl) (λ t. refl)

pub back_triples : (set' : Setting) (p n : ℕ) (r : CpuRecord) → (back_record set' p n r).triples ≡ r.triples
back_triples set' p n r = cond_both (eqb n (last_found r.last)) (page_stepped (given_back set' p (set'.coding.page_bits n p).dirty r)) r
    (λ (z : CpuRecord). z.triples ≡ r.triples)
    (λ t. cond_both (set'.coding.page_bits n p).dirty (absorbed set' p r) (redirtied set' p r) (λ (z : CpuRecord). z.triples ≡ r.triples) (λ u. refl) (λ u. refl))
    (λ t. refl)

pub dirty_triples : (set' : Setting) (w p n : ℕ) (r : CpuRecord) → (dirty_record set' w p n r).triples ≡ r.triples
dirty_triples set' w p n r = cond_both (set'.coding.page_bits n p).dirty (found_already p r) (dirtied set' w p r) (λ (z : CpuRecord). z.triples ≡ r.triples)
    (λ t. refl) (λ t. refl)

-- a step of a CPU that the seat holds, which loads no limits
pub kept_by : {me me' : Sat} {grants : Option Granted} {n : ℕ} {states states' : States} {lefts lefts' : List ℕ} {held : HeldLimits} {timer timer' : Option ℕ}
    {table : TableId} {now : Seated} (key : Layout) (step : Step) (old : IsKept me states lefts held timer) (view : seated table me states ≡ now) (at : now.layout ≡ key)
    (c : ℕ) (s : CpuState) (knows : Knows states c s) (is : c ≡ maker_of (setting key) step) (turned : Turned (turn key step grants) n me me')
    (same : (r : CpuRecord) → (record_after (setting key) step n r).triples ≡ r.triples) (seat : IsSeat me' states' lefts' timer')
    → IsKept me' states' lefts' held timer'
kept_by {me} {me'} {grants} {n} {states} {states'} {lefts} {lefts'} {held} {timer} {timer'} {table} {now} key step old view at c s knows is turned same seat =
    let q = old.seat.agrees.known c s knows in
    kept_turned key me me' step grants n (ap (λ (z : Seated). z.layout) view ∙ at) turned q.0 (subst (λ (i : ℕ). Has me.0.cpus i q.0) is q.1) (same (given grants q.0))
    states states' lefts lefts' held timer timer' old seat

-- where the view has the same records, or those that a grant changed
pub kept_same : (key : Layout) (triples : List Triple) (cpus cpus' : Cpus) → ((c : ℕ) (r : CpuRecord) → Has cpus' c r → (q : CpuRecord) × Has cpus c q × (r.triples ≡ q.triples))
    → KeepsTriples key triples cpus → KeepsTriples key triples cpus'
kept_same key triples cpus cpus' from old = record {
  long = old.long;
  each = λ k r less has. let f = from (k / domains key) r has in
      old.each k f.0 less f.1 ∙ ap (λ (l : List _). triple_of (held_of (setting key) (k % domains key) l)) (sym f.2);
  lawful = old.lawful;
}

-- ---- the timer

ticked_timer : (timer : Option ℕ) (r r' : TimerRecord) → KeepsTimer timer (Some r) → r'.steps ≡ one_step_more r.steps → KeepsTimer (ticked timer) (Some r')
ticked_timer None r r' keeps e = absurd keeps
ticked_timer (Some m) r r' keeps e = ap one_step_more keeps ∙ sym e

-- what the sequences are after a step that makes of the timer's record another
pub sequences_after : (key : Layout) (sequences : List ℕ) (r : TimerRecord) → length sequences ≡ domains key
    → ((d : ℕ) → d < domains key → get_or sequences d 0 ≡ sequence_of r d) → ((d : ℕ) → d < domains key → sequence_of r d ≤ LAST_SEQUENCE)
    → KeepsSequences key sequences (Some r)
sequences_after key sequences r long each few = record {
  long = long;
  each = λ d q less is. each d less ∙ ap (λ (t : TimerRecord). sequence_of t d) (some_is r q is);
  few = λ d less. subst (λ (n : ℕ). n ≤ LAST_SEQUENCE) (sym (each d less)) (few d less);
}

-- a step of the timer
pub kept_ticked : {me me' : Sat} {n : ℕ} {states : States} {lefts : List ℕ} {held : HeldLimits} {timer : Option ℕ} {table : TableId} {now : Seated}
    (key : Layout) (step : Step) (old : IsKept me states lefts held timer) (view : seated table me states ≡ now) (at : now.layout ≡ key)
    (ticks : Ticked (turn key step None) n me me') (r : TimerRecord) (has : now.timer ≡ Some r) (steps : (timer_after step n r).steps ≡ one_step_more r.steps)
    (held' : HeldLimits) (same : held'.triples.items ≡ held.triples.items) (sequences : KeepsSequences key held'.sequences.items (Some (timer_after step n r)))
    (timer' : Option ℕ) → timer' ≡ ticked timer → IsKept me' states lefts held' timer'
kept_ticked {me} {me'} {n} {states} {lefts} {held} {timer} {table} {now} key step old view at ticks r has steps held' same sequences timer' is =
    let here : me.0.timer ≡ Some r = ap (λ (z : Seated). z.timer) view ∙ has in
    let layout : me.0.layout ≡ key = ap (λ (z : Seated). z.layout) view ∙ at in
    let new : me'.0.timer ≡ Some (timer_after step n r) = ticks.timer r here in
    record {
      seat = record {
        slots = ticks.slots ∙ old.seat.slots;
        agrees = subst (λ (z : Layout × Cpus). Agrees z.0 states z.1) (λ i. (sym ticks.layout i, sym ticks.cpus i)) old.seat.agrees;
        keeps_timer = subst (λ (z : Option ℕ × Option TimerRecord). KeepsTimer z.0 z.1) (λ i. (sym is i, sym new i))
            (ticked_timer timer r (timer_after step n r) (subst (KeepsTimer timer) here old.seat.keeps_timer) steps);
        keeps_lefts = subst (λ (z : Layout × Cpus). KeepsLefts z.0 lefts (with_grants states z.1)) (λ i. (sym ticks.layout i, sym ticks.cpus i)) old.seat.keeps_lefts;
      };
      triples = subst (λ (z : Layout × List Triple × Cpus). KeepsTriples z.0 z.1 z.2) (λ i. (sym ticks.layout i, sym same i, sym ticks.cpus i)) old.triples;
      sequences = subst (λ (z : Layout × Option TimerRecord). KeepsSequences z.0 held'.sequences.items z.1)
          (λ i. (sym (ticks.layout ∙ layout) i, sym new i)) sequences;
    }

-- what the sequences were
pub sequence_known : {me : Sat} {states : States} {lefts : List ℕ} {held : HeldLimits} {timer : Option ℕ} {table : TableId} {now : Seated}
    (key : Layout) (old : IsKept me states lefts held timer) (view : seated table me states ≡ now) (at : now.layout ≡ key) (r : TimerRecord) (has : now.timer ≡ Some r)
    → (length held.sequences.items ≡ domains key) × ((d : ℕ) → d < domains key → get_or held.sequences.items d 0 ≡ sequence_of r d)
    × ((d : ℕ) → d < domains key → sequence_of r d ≤ LAST_SEQUENCE)
sequence_known {me} {states} {lefts} {held} {timer} {table} {now} key old view at r has =
    let layout : me.0.layout ≡ key = ap (λ (z : Seated). z.layout) view ∙ at in
    let kept : KeepsSequences key held.sequences.items me.0.timer = subst (λ (k : Layout). KeepsSequences k held.sequences.items me.0.timer) layout old.sequences in
    let each : (d : ℕ) → d < domains key → get_or held.sequences.items d 0 ≡ sequence_of r d = λ d less. kept.each d r less (ap (λ (z : Seated). z.timer) view ∙ has) in
    (kept.long, each, λ d less. subst (λ (n : ℕ). n ≤ LAST_SEQUENCE) (each d less) (kept.few d less))

any_default : {A : Type 0} (xs : List A) (i : ℕ) (a b : A) → i < length xs → get_or xs i a ≡ get_or xs i b
any_default [] i a b less = absurd (omega arith)
any_default (x ∷ xs) zero a b less = refl
any_default (x ∷ xs) (suc i) a b less = any_default xs i a b (omega arith)

-- one sequence becomes the next
pub sequences_set : (key : Layout) (sequences : List ℕ) (d v : ℕ) (r r' : TimerRecord) → length sequences ≡ domains key
    → ((e : ℕ) → e < domains key → get_or sequences e 0 ≡ sequence_of r e) → ((e : ℕ) → e < domains key → sequence_of r e ≤ LAST_SEQUENCE)
    → suc (sequence_of r d) ≤ LAST_SEQUENCE → d < domains key → v ≡ get_or sequences d v → ◌≡◌ {A = ℕ → ℕ} (sequence_of r') (put (sequence_of r) d (suc (sequence_of r d))) → KeepsSequences key (set sequences d (v + 1)) (Some r')
sequences_set key sequences d v r r' long each few room there is next = sequences_after key (set sequences d (v + 1)) r' (length-set sequences d (v + 1) ∙ long)
    (λ e less. put_each (sequence_of r) d (suc (sequence_of r d)) (λ i y. i < domains key → get_or (set sequences d (v + 1)) i 0 ≡ y)
    (λ l. let known = each d there in let same = any_default sequences d v 0 (omega arith) in
    get_or-set_same sequences d (v + 1) 0 (omega arith) ∙ omega arith)
    (λ i n l. get_or-set_other sequences d i (v + 1) 0 n ∙ each i l) e less ∙ sym (ap (λ (f : ℕ → ℕ). f e) next))
    (λ e less. subst (λ (f : ℕ → ℕ). f e ≤ LAST_SEQUENCE) (sym next) (put_each (sequence_of r) d (suc (sequence_of r d)) (λ i y. i < domains key → y ≤ LAST_SEQUENCE)
    (λ l. room) (λ i n l. few i l) e less))

-- ---- a load of limits

mod_number : (c d n : ℕ) → d < n → (c * n + d) % n ≡ d
mod_number c d n less = let a = div-add-mod' (c * n + d) n in let b = div-mul-add c n d less in
    let e : (c * n + d) / n * n ≡ c * n = ap (λ (m : ℕ). m * n) b in omega (arith, a, e)

module _ (key : Layout) (who : Who) (d n first thresh : ℕ) (whole : Bool) (is : is_whole_load first n ≡ whole) (g : CpuRecord)
    (found : found_of d g.loading ≡ Words first thresh) where
  new_limits : DomainLimits
  new_limits = record { domain = d; version = sequence_in n / 2; limits = limits_in n thresh }

  pub loaded_are : (record_after (setting key) (limits who d) n g).triples ≡ cond whole (record { domain = d; version = sequence_in n / 2; limits = limits_in n thresh } ∷ g.triples) g.triples
  loaded_are = ap (λ (f : Finding). cond (is_whole (setting key) f n) (read_triple (setting key) d f n ∷ g.triples) g.triples) found
      ∙ ap (λ (b : Bool). cond b (record { domain = d; version = sequence_in n / 2; limits = limits_in n thresh } ∷ g.triples) g.triples) is

-- limits that were read whole take the place of those that the CPU held of the domain
pub triples_loaded : (key : Layout) (me me' : Sat) (who : Who) (d n first thresh : ℕ) (grants : Option Granted)
    (turned : Turned (turn key (limits who d) grants) n me me') (q : CpuRecord) (has : Has me.0.cpus (cpu_for (setting key) who) q)
    → found_of d (given grants q).loading ≡ Words first thresh → is_whole_load first n ≡ true → IsLawful (limits_in n thresh) → d < domains key → cpu_for (setting key) who < key.cpus
    → (triples : List Triple) → KeepsTriples key triples me.0.cpus → KeepsTriples key (set triples (triple_number key (cpu_for (setting key) who) d) (triple_in n thresh)) me'.0.cpus
triples_loaded key me me' who d n first thresh grants turned q has found is lawful there cpu triples old =
    let c : ℕ = cpu_for (setting key) who in
    let k' : ℕ = triple_number key c d in
    let new : CpuRecord = record_after (setting key) (limits who d) n (given grants q) in
    let limits' : DomainLimits = record { domain = d; version = sequence_in n / 2; limits = limits_in n thresh } in
    let loaded : new.triples ≡ limits' ∷ q.triples = loaded_are key who d n first thresh true is (given grants q) found ∙ ap (λ (l : List DomainLimits). limits' ∷ l) (given_triples grants q) in
    let inside : k' < length triples = let long = old.long in let row = row_less c key.cpus (domains key) d cpu there in omega arith in
    let other : (k : ℕ) → k ≢ k' → get_or (set triples k' (triple_in n thresh)) k no_triple ≡ get_or triples k no_triple
    = λ k ne. get_or-set_other triples k' k (triple_in n thresh) no_triple ne in
    subst (KeepsTriples key (set triples k' (triple_in n thresh))) (sym (turned.cpus q has)) record {
      long = length-set triples k' (triple_in n thresh) ∙ old.long;
      each = λ k r less has_r. ⊎_elim
          (λ e. let same : new ≡ r = some_is new r e.1 in
          let theirs : triple_of (held_of (setting key) (k % domains key) (limits' ∷ q.triples)) ≡ triple_of (held_of (setting key) (k % domains key) r.triples)
          = ap (λ (l : List DomainLimits). triple_of (held_of (setting key) (k % domains key) l)) (sym loaded ∙ ap (λ (x : CpuRecord). x.triples) same) in
          dite (ℕ_discrete (k % domains key) d)
          (λ here. let at_it : k ≡ k' = sym (div-add-mod' k (domains key)) ∙ (λ i. e.0 i * domains key + here i) in
          ap (λ (m : ℕ). get_or (set triples k' (triple_in n thresh)) m no_triple) at_it ∙ (get_or-set_same triples k' (triple_in n thresh) no_triple inside
          ∙ (sym (ap triple_of (cond-true (eqb (k % domains key) d) limits' (held_of (setting key) (k % domains key) q.triples) (eq-eqb (k % domains key) d here))) ∙ theirs)))
          (λ ne. other k (λ is_it. ne (ap (λ (m : ℕ). m % domains key) is_it ∙ mod_number c d (domains key) there))
          ∙ (old.each k q less (subst (λ (i : ℕ). Has me.0.cpus i q) (sym e.0) has)
          ∙ (sym (ap triple_of (cond-false (eqb (k % domains key) d) limits' (held_of (setting key) (k % domains key) q.triples) (ne_eqb (k % domains key) d ne))) ∙ theirs))))
          (λ e. other k (λ is_it. e.0 (ap (λ (m : ℕ). m / domains key) is_it ∙ div-mul-add c (domains key) d there)) ∙ old.each k r less e.1)
          (at_set me.0.cpus c (k / domains key) (Some new) (Some r) has_r);
      lawful = λ k less. dite (ℕ_discrete k k')
          (λ here. subst (λ (t : Triple). IsLawful t.limits)
          (sym (ap (λ (m : ℕ). get_or (set triples k' (triple_in n thresh)) m no_triple) here ∙ get_or-set_same triples k' (triple_in n thresh) no_triple inside)) lawful)
          (λ ne. subst (λ (t : Triple). IsLawful t.limits) (sym (other k ne)) (old.lawful k less));
    }

-- they are lawful, and no version of the domain that the CPU has loaded is later
pub whole_loaded : (key : Layout) (who : Who) (d n first thresh : ℕ) (grants : Option Granted) (q r : CpuRecord) (v : View) → given grants q ≡ r
    → found_of d r.loading ≡ Words first thresh → is_whole_load first n ≡ true → Found (turn key (limits who d) grants) n q v
    → IsLawful (limits_in n thresh) × All (λ t. t.domain ≡ d → t.version ≤ sequence_in n / 2) r.triples
whole_loaded key who d n first thresh grants q r v with_it is whole found =
    let s : State = found.state in
    let i : ℕ = cpu_for (setting key) who in
    let its : s.cpu i ≡ r = found.record_is ∙ with_it in
    let f : found_of d (s.cpu i).loading ≡ Words first thresh = ap (λ (x : CpuRecord). found_of d x.loading) its ∙ is in
    let word : sequence_now (setting key) d s ≡ n = found.found_is in
    let t : is_whole (setting key) (found_of d (s.cpu i).loading) (sequence_now (setting key) d s) ≡ true = (λ j. is_whole (setting key) (f j) (word j)) ∙ whole in
    let w = limits_are_whole (setting key) s found.lawful found.rule i d t in
    let told : read_triple (setting key) d (Words first thresh) n ≡ record { domain = d; version = version_of d s.timer.published; limits = s.published d }
    = sym (λ j. read_triple (setting key) d (f j) (word j)) ∙ w.published in
    let triple : limits_in n thresh ≡ s.published d = ap (λ (x : DomainLimits). x.limits) told in
    let version : sequence_in n / 2 ≡ version_of d s.timer.published = ap (λ (x : DomainLimits). x.version) told in (
      subst IsLawful (sym triple) (found.rule.limits.lawful d),
      subst (λ (z : ℕ × CpuRecord). All (λ t. t.domain ≡ d → t.version ≤ z.0) z.1.triples) (λ j. (sym version j, its j)) w.fresh,
    )

-- the sequences stay with a step of a CPU
pub sequences_turned : {me me' : Sat} {grants : Option Granted} {n : ℕ} (key : Layout) (step : Step) (sequences : List ℕ) (turned : Turned (turn key step grants) n me me')
    → KeepsSequences me.0.layout sequences me.0.timer → KeepsSequences me'.0.layout sequences me'.0.timer
sequences_turned key step sequences turned old =
    subst (λ (z : Layout × Option TimerRecord). KeepsSequences z.0 sequences z.1) (λ i. (sym turned.layout i, sym turned.timer i)) old

-- what is kept of a CPU and a domain
pub triple_kept : (key : Layout) (triples : List Triple) (cpus : Cpus) (c d : ℕ) (q : CpuRecord) → c < key.cpus → d < domains key → KeepsTriples key triples cpus
    → Has cpus c q → (x : Triple) → get_or triples (triple_number key c d) x ≡ triple_of (held_of (setting key) d q.triples)
triple_kept key triples cpus c d q cpu there old has x =
    let row = row_less c key.cpus (domains key) d cpu there in
    let long = old.long in
    any_default triples (triple_number key c d) x no_triple (omega arith)
    ∙ (old.each (triple_number key c d) q row (subst (λ (i : ℕ). Has cpus i q) (sym (div-mul-add c (domains key) d there)) has)
    ∙ ap (λ (e : ℕ). triple_of (held_of (setting key) e q.triples)) (mod_number c d (domains key) there))

-- and that is lawful
pub triple_lawful : (key : Layout) (triples : List Triple) (cpus : Cpus) (c d : ℕ) → c < key.cpus → d < domains key → KeepsTriples key triples cpus
    → (x : Triple) → IsLawful (get_or triples (triple_number key c d) x).limits
triple_lawful key triples cpus c d cpu there old x =
    let row = row_less c key.cpus (domains key) d cpu there in
    let long = old.long in
    subst (λ (t : Triple). IsLawful t.limits) (sym (any_default triples (triple_number key c d) x no_triple (omega arith))) (old.lawful (triple_number key c d) row)

-- the sequence that is read of a domain
pub sequence_read : (key : Layout) (sequences : List ℕ) (d v : ℕ) (r : TimerRecord) → length sequences ≡ domains key
    → ((e : ℕ) → e < domains key → get_or sequences e 0 ≡ sequence_of r e) → d < domains key → v ≡ get_or sequences d v → v ≡ sequence_of r d
sequence_read key sequences d v r long each there is = is ∙ (any_default sequences d v 0 (omega arith) ∙ each d there)

pub odd_is_unsealed : (stage : Stage) (version : ℕ) → (2 * version + one_if (not (is_sealed stage))) % 2 ≡ 1 → is_sealed stage ≡ false
odd_is_unsealed Sealed version odd = absurd (omega (arith, odd))
odd_is_unsealed Unsealed version odd = refl
odd_is_unsealed (Drafted l) version odd = refl

-- one record becomes another with the same loaded limits
pub triples_put : (key : Layout) (triples : List Triple) (cpus cpus' : Cpus) (c : ℕ) (new q : CpuRecord) → cpus' ≡ put_record c new cpus → Has cpus c q
    → new.triples ≡ q.triples → KeepsTriples key triples cpus → KeepsTriples key triples cpus'
triples_put key triples cpus cpus' c new q puts has same old = subst (KeepsTriples key triples) (sym puts) record {
  long = old.long;
  each = λ k r less has_r. ⊎_elim
      (λ e. old.each k q less (subst (λ (i : ℕ). Has cpus i q) (sym e.0) has)
      ∙ ap (λ (l : List DomainLimits). triple_of (held_of (setting key) (k % domains key) l)) (sym same ∙ ap (λ (x : CpuRecord). x.triples) (some_is new r e.1)))
      (λ e. old.each k r less e.1)
      (at_set cpus c (k / domains key) (Some new) (Some r) has_r);
  lawful = old.lawful;
}
