-- Each kind of step on a domain may be made: it keeps the rule, and tells its seat what it promises.
use Rattle.std.proofs.Common.{◌≡◌, ◌≢◌, ℕ, zero, suc, ◌+◌, ◌-◌, ◌%◌, ◌^◌, ◌<◌, ◌≤◌, Bool, true, false, cond, eqb, ◌⊎◌, inl, inr, List, ◌∷◌, get_or, sym, refl, ap, ◌∙◌, subst, arith, eq-eqb, ne_eqb}
use mathlib.Core.Logic.{dite}
use mathlib.Core.Option.{some, none}
use native.Mathlib.Decide.{ℕ_discrete}
use prog.Atomic.{either}
use lib.ListN.{get_elem?}
use Rattle.std.proofs.lemmas.List.{set-get_or}
use Rattle.atomic_table.specs.Table.{State, Act, Valid, step, stepped, keeps, carried_after, Allows}
use Rattle.atomic_table.proofs.Lists.{set_again}
use Rattle.wbt_flex.specs.Eager.{halved}
use Rattle.wbt_fraction.specs.declared.domain.note.Note.{Note}
use Rattle.wbt_fraction.specs.declared.domain.note.Note.TheVariants.{Found, Added, Period}
use Rattle.wbt_fraction.specs.declared.domain.note.Made.{Made}
use Rattle.wbt_fraction.specs.declared.domain.rule.View.{View}
use Rattle.wbt_fraction.specs.declared.domain.rule.Layout.{Layout}
use Rattle.wbt_fraction.specs.Words.{period_of, events_of, word_of}
use Rattle.wbt_fraction.specs.Notes.{periods, added_domain, added_part, Shows, InTime, MayStand, IsPast, IsReached, IsComplete}
use Rattle.wbt_fraction.specs.History.{notes_of, left_by, aged_to, IsAged, Makes, IsWhole, went_on}
use Rattle.wbt_fraction.specs.Rule.{Kept}
use Rattle.wbt_fraction.specs.Steps.{Sat, KnowsAll, with_trail, Loaded, Aged, PartAdded, DomainAdded, Begun, Told}
use Rattle.wbt_fraction.proofs.Numbers.{plus_fits, made_period, halved_le}
use Rattle.wbt_fraction.proofs.Sums.{set_there}
use Rattle.wbt_fraction.proofs.Histories.{shows_found, shows_other, shows_part_later, shows_added, shows_aged, shows_begun}
use Rattle.wbt_fraction.proofs.Keeping.{none_newer, was_past, complete, makes, note_kept, domain_fits, part_fits}

decided : (n old : ℕ) (F : Bool → Type 0) → (n ≡ old → F true) → (n ≢ old → F false) → F (eqb n old)
decided n old F hit miss = dite (ℕ_discrete n old) (λ e. subst F (sym (eq-eqb n old e)) (hit e)) (λ ne. subst F (sym (ne_eqb n old ne)) (miss ne))

plus_none : (n : ℕ) → n + 0 ≡ n
plus_none n = omega arith

now_is : (history : List Note) (i word : ℕ) → i ≡ 0 → Shows history i word → periods history ≤ period_of word
unfolding InTime
now_is history zero word z shows = let is : period_of word ≡ periods history = shows.in_time in omega arith
now_is history (suc i) word z shows = absurd (omega arith)

part_later : (history : List Note) (a word x k : ℕ) → a ≢ 0 → Shows history a word → Shows (Period x k ∷ history) a word
part_later history zero word x k ne shows = absurd (ne refl)
part_later history (suc part) word x k ne shows = shows_part_later history part word x k shows

no_room : (b : Bool) → b ≡ false → (room n : ℕ) → room + cond b n 0 ≡ room
no_room true e room n = absurd (let z : true ≡ false = e in cc)
no_room false e room n = omega arith

less_room : (b : Bool) → b ≡ false → (room n : ℕ) → n ≤ room → (room - n) + cond b 0 n ≡ room
less_room true e room n h = absurd (let z : true ≡ false = e in cc)
less_room false e room n h = omega arith

aged_leaves : (part word left period : ℕ) (history : List Made) → IsPast period (notes_of history) → period_of word ≤ period → left ≡ aged_to period word
    → (left ≡ word) ⊎ IsAged (Found (suc part) word) left history
unfolding IsAged
aged_leaves part word left period history past later is = inr (period, past, later, is)

module _ (key : Layout) (slots id : ℕ) (me : Sat) (some_stake : 1 ≤ me.0.stakes) where
  -- the view after a step that takes no room
  abbrev on_trail : (history : List Made) (note : Note) (left : ℕ) → View
  on_trail history note left = (with_trail (went_on history note left me.0.trail) me).0

  found_kept : (i : ℕ) → i ≤ key.parts → (s : State (Unit {0}) View) (k : Kept key s) → get_elem? s.views id ≡ some me.0
      → (x : ℕ) → (x ≡ get_or s.words i 0) ⊎ IsAged (Found i (get_or s.words i 0)) x k.history → Shows (notes_of k.history) i x
      → Kept key (stepped s i x id me.1 (on_trail k.history (Found i (get_or s.words i 0)) x) keeps)
  unfolding MayStand
  found_kept i h s k at x leaves here = let n : ℕ = get_or s.words i 0 in
      note_kept key s k id me.0 at (Found i n) x (on_trail k.history (Found i n) x) refl refl some_stake
      (plus_none me.0.domain_room) (plus_none me.0.part_room) h refl leaves tt
      (shows_found (notes_of k.history) i x i n here)
      (λ a less ne. shows_found (notes_of k.history) a (get_or s.words a 0) i n (k.words a less))

  now_complete : (s : State (Unit {0}) View) → get_elem? s.views id ≡ some me.0 → (i x : ℕ) (v' : View) → Kept key (stepped s i x id me.1 v' keeps)
      → v'.stakes ≡ 2 ^ 32 → IsComplete (notes_of v'.trail.own) × IsWhole v'.trail
  now_complete s at i x v' k all = complete key (stepped s i x id me.1 v' keeps) k id v' (set_there s.views id me.0 v' at) all

  pub loads : (i : ℕ) → i ≤ key.parts → Allows (Kept key) slots id me i (λ n. n) (Loaded (step slots i 0 0 none) me)
  loads i h s k bare at small = let n : ℕ = get_or s.words i 0 in
      let v' : View = on_trail k.history (Found i n) n in
      let kept = found_kept i h s k at n (inl refl) (k.words i h) in (
        v',
        keeps,
        tt,
        kept,
        (
          makes key s k id me.0 at (Found i n) n h refl (inl refl),
          refl,
          (λ z. none_newer key s k id me.0 at (period_of n) (now_is (notes_of k.history) i n z (k.words i h))),
          now_complete s at i n v' kept,
        ),
      )

  pub ages : (part old new period : ℕ) → suc part ≤ key.parts → new ≡ word_of period (halved (period - period_of old) (events_of old))
      → period_of old ≤ period → IsReached period (notes_of me.0.trail.own)
      → Allows (Kept key) slots id me (suc part) (λ n. either (eqb n old) new n) (Aged (step slots (suc part) old new none) me)
  ages part old new period h new_is later reached s k bare at small = let i : ℕ = suc part in let n : ℕ = get_or s.words i 0 in
      let was = was_past key s k id me.0 at period reached in
      let leaves : (n ≡ old) → (new ≡ n) ⊎ IsAged (Found i n) new k.history = λ hit. aged_leaves part n new period k.history was
      (subst (λ x. period_of x ≤ period) (sym hit) later) (new_is ∙ ap (aged_to period) (sym hit)) in
      decided n old (λ b. (w : View) × (a : Act (Unit {0})) × Valid s.homes me.1 a × Kept key (stepped s i (either b new n) id me.1 w a)
      × (Makes (Found i n) (cond b new n) me.0.trail w.trail × ((w, carried_after me.1 a) ≡ with_trail w.trail me) × KnowsAll (w, carried_after me.1 a)))
      (λ hit. let v' : View = on_trail k.history (Found i n) new in
      let kept = found_kept i h s k at new (leaves hit)
      (subst (λ x. Shows (notes_of k.history) i x) (sym new_is) (shows_aged (notes_of k.history) part old period (subst (λ x. Shows (notes_of k.history) i x) hit (k.words i h)) later was)) in (
        v',
        keeps,
        tt,
        kept,
        (makes key s k id me.0 at (Found i n) new h refl (leaves hit), refl, now_complete s at i new v' kept),
      ))
      (λ miss. let v' : View = on_trail k.history (Found i n) n in
      let kept = found_kept i h s k at n (inl refl) (k.words i h) in (
        v',
        keeps,
        tt,
        kept,
        (makes key s k id me.0 at (Found i n) n h refl (inl refl), refl, now_complete s at i n v' kept),
      ))

  pub adds_part : (part n : ℕ) → suc part ≤ key.parts → n ≤ me.0.part_room
      → Allows (Kept key) slots id me (suc part) (λ w. (w + n) % 2 ^ 64) (PartAdded (step slots (suc part) n 0 none) me)
  unfolding MayStand
  adds_part part n h room s k bare at small = let i : ℕ = suc part in let w : ℕ = get_or s.words i 0 in
      let v' : View = record { trail = went_on k.history (Added i w n) (w + n) me.0.trail; stakes = me.0.stakes; domain_room = me.0.domain_room; part_room = me.0.part_room - n } in
      let fits = part_fits key s k id me.0 at part n room h in
      let kept : Kept key (stepped s i ((w + n) % 2 ^ 64) id me.1 v' keeps) =
      subst (λ x. Kept key (stepped s i x id me.1 v' keeps)) (sym (plus_fits w n small fits))
      (note_kept key s k id me.0 at (Added i w n) (w + n) v' refl refl some_stake
      (no_room (eqb i 0) (ne_eqb i 0 (λ z. omega arith)) me.0.domain_room n)
      (less_room (eqb i 0) (ne_eqb i 0 (λ z. omega arith)) me.0.part_room n room)
      h refl (inl refl) tt
      (shows_added (notes_of k.history) i w n fits (k.words i h))
      (λ a less ne. shows_other (notes_of k.history) a (get_or s.words a 0) i w n (λ e. ne (sym e)) (k.words a less))) in (
        v',
        keeps,
        tt,
        kept,
        (makes key s k id me.0 at (Added i w n) (w + n) h refl (inl refl), refl, now_complete s at i ((w + n) % 2 ^ 64) v' kept),
      )

  pub adds_domain : (n : ℕ) → 0 ≤ key.parts → n ≤ me.0.domain_room
      → Allows (Kept key) slots id me 0 (λ w. (w + n) % 2 ^ 64) (DomainAdded (step slots 0 n 0 none) me)
  unfolding MayStand
  adds_domain n h room s k bare at small = let w : ℕ = get_or s.words 0 0 in
      let v' : View = record { trail = went_on k.history (Added 0 w n) (w + n) me.0.trail; stakes = me.0.stakes; domain_room = me.0.domain_room - n; part_room = me.0.part_room } in
      let fits = domain_fits key s k id me.0 at n room h in
      let added : added_domain (Added 0 w n) ≡ n = refl in
      let part : added_part (Added 0 w n) ≡ 0 = refl in
      let kept : Kept key (stepped s 0 ((w + n) % 2 ^ 64) id me.1 v' keeps) =
      subst (λ x. Kept key (stepped s 0 x id me.1 v' keeps)) (sym (plus_fits w n small fits))
      (note_kept key s k id me.0 at (Added 0 w n) (w + n) v' refl refl some_stake
      (omega arith)
      (omega arith)
      h refl (inl refl) tt
      (shows_added (notes_of k.history) 0 w n fits (k.words 0 h))
      (λ a less ne. shows_other (notes_of k.history) a (get_or s.words a 0) 0 w n (λ e. ne (sym e)) (k.words a less))) in (
        v',
        keeps,
        tt,
        kept,
        (makes key s k id me.0 at (Added 0 w n) (w + n) h refl (inl refl), refl, now_complete s at 0 ((w + n) % 2 ^ 64) v' kept),
      )

  pub begins : (old new count : ℕ) → 0 ≤ key.parts → new ≡ word_of (period_of old + count) (halved count (events_of old))
      → 1 ≤ count → 1 < events_of old → period_of old + count < 2 ^ 24
      → Allows (Kept key) slots id me 0 (λ n. either (eqb n old) new n) (Begun (step slots 0 old new none) me)
  unfolding MayStand
  begins old new count h new_is some_count some_events in_range s k bare at small = let n : ℕ = get_or s.words 0 0 in
      let gap : ℕ = period_of new - period_of old in
      let gap_is : gap ≡ count =
      let small_events = halved_le count (events_of old) in
      let is : period_of new ≡ period_of old + count = ap period_of new_is ∙ made_period (period_of old + count) (halved count (events_of old)) (omega arith) in
      omega arith in
      decided n old (λ b. (w : View) × (a : Act (Unit {0})) × Valid s.homes me.1 a × Kept key (stepped s 0 (either b new n) id me.1 w a)
      × (Makes (cond b (Period n gap) (Found 0 n)) (cond b new n) me.0.trail w.trail × ((w, carried_after me.1 a) ≡ with_trail w.trail me) × KnowsAll (w, carried_after me.1 a)))
      (λ hit. let v' : View = on_trail k.history (Period n gap) new in
      let may : (1 ≤ gap) × (1 < events_of n) × (period_of n + gap < 2 ^ 24) =
      (omega arith, subst (λ x. 1 < events_of x) (sym hit) some_events, subst (λ (z : ℕ × ℕ). period_of z.0 + z.1 < 2 ^ 24) (λ x. (sym hit x, sym gap_is x)) in_range) in
      let is : new ≡ left_by (Period n gap) = new_is ∙ sym (ap (λ (z : ℕ × ℕ). word_of (period_of z.0 + z.1) (halved z.1 (events_of z.0))) (λ x. (hit x, gap_is x))) in
      let kept = note_kept key s k id me.0 at (Period n gap) new v' refl refl some_stake
      (plus_none me.0.domain_room) (plus_none me.0.part_room) h refl (inl is) may
      (subst (Shows (Period n gap ∷ notes_of k.history) 0) (sym is) (shows_begun (notes_of k.history) n gap (k.words 0 h)))
      (λ a less ne. part_later (notes_of k.history) a (get_or s.words a 0) n gap ne (k.words a less)) in (
        v',
        keeps,
        tt,
        kept,
        (makes key s k id me.0 at (Period n gap) new h refl (inl is), refl, now_complete s at 0 new v' kept),
      ))
      (λ miss. let v' : View = on_trail k.history (Found 0 n) n in
      let kept = found_kept 0 h s k at n (inl refl) (k.words 0 h) in (
        v',
        keeps,
        tt,
        kept,
        (makes key s k id me.0 at (Found 0 n) n h refl (inl refl), refl, now_complete s at 0 n v' kept),
      ))

module _ (key : Layout) (slots id : ℕ) (me : Sat) where
  pub tells : 0 ≤ key.parts → Allows (Kept key) slots id me 0 (λ n. n) (Told (step slots 0 0 0 none) me)
  tells h s k bare at small = (
    me.0,
    keeps,
    tt,
    subst (λ (z : List ℕ × List View). Kept key record { words = z.0; homes = s.homes; views = z.1 })
        (λ x. (sym (set-get_or s.words 0 0) x, sym (set_again s.views id me.0 at) x)) k,
    (refl, complete key s k id me.0 at),
  )
