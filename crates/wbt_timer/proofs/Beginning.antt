-- Periods of one domain more.
use Rattle.std.proofs.Common.{◌≡◌, ◌≢◌, ◌⊎◌, ⊎_elim, inl, inr, ℕ, suc, ◌+◌, ◌<◌, ◌≤◌, Bool, true, false, eqb, if◌then◌else◌, List, [], ◌∷◌, ◌++◌, map, flat_map, length, get_or, set, refl, sym, ap, ◌∙◌, subst, arith, append_assoc, eq-eqb, ne_eqb, length-set}
use Rattle.std.proofs.lemmas.Bool.{lt-ltb, eqb-true, eqb-false}
use Rattle.std.proofs.lemmas.List.{append-nil, get_or-set_same, get_or-set_other}
use Rattle.wbt_kit.proofs.Common.{begun, added_at, no_seat, Note, TimerRecord, Trace, domains, LastLine, is_opening, lines_after, TimerEntry, AreSeatsOf, Each, after}
use Rattle.wbt_fraction.specs.Laws.{Falls}
use Rattle.wbt_fraction.specs.Seat.{Seated as ShareSeat, Shape, Looks}
use Rattle.wbt_fraction.specs.Several.{Fits}
use Rattle.wbt_fraction.specs.Sums.{total as weigh}
use Rattle.wbt_fraction.specs.declared.domain.note.Note.TheVariants.{Found, Period}
use Rattle.wbt_journal.specs.Timer.{TimerGoesOn}
use Rattle.wbt_journal.specs.declared.timer.TimerEntry.TheVariants.{Period as PeriodLine}
use Rattle.wbt_kit.specs.declared.kit.Kit.{Kit}
use Rattle.wbt_kit.specs.declared.kit.Seats.{Seats}
use Rattle.wbt_run_laws.specs.Grew.{onto}
use Rattle.wbt_run_laws.specs.Ticks.{TimerSince, AreInOrder, begun_at_once, peak_for, period_line, published_after}
use Rattle.wbt_run_laws.specs.Walks.{Walked}
use Rattle.wbt_run_laws.proofs.Calling.{looks_add_none, begin_is_noted}
use Rattle.wbt_run_laws.proofs.Ticking.{ticked_now, ticked_more}
use Rattle.wbt_run_laws.proofs.Walking.{walked_none}
use Rattle.wbt_timer.specs.Turn.{Tries, Tried, TriedEach, seat_at, noted, no_side}
use Rattle.wbt_timer.specs.Turn.Tries.{none, begun as began, refused, came_between}
use Rattle.wbt_timer.specs.declared.side.DomainSide.{DomainSide}

-- ---- one domain's notes

-- what a try makes of the notes of its domain
record OneNoted (domain : ℕ) (old new : List Note) (added : List TimerEntry) : Type 0 where
  begun_are : (of : ℕ) → of ≡ domain → begun_at_once new ≡ onto (period_line of) added (begun_at_once old)
  elsewhere : (of : ℕ) → of ≢ domain → (older : List ℕ) → onto (period_line of) added older ≡ older
  in_order : AreInOrder old → AreInOrder new
  adds_none : (context : ℕ) → weigh (added_at (suc context)) new ≡ weigh (added_at (suc context)) old

period_weigh : (context word other k : ℕ) (older : List Note) → weigh (added_at (suc context)) (Period word k ∷ Found 0 other ∷ older) ≡ weigh (added_at (suc context)) older
unfolding weigh
period_weigh context word other k older = omega arith

same_notes : (domain : ℕ) (notes new : List Note) → new ≡ notes → OneNoted domain notes new []
same_notes domain notes new is = record {
  begun_are = λ of e. ap begun_at_once is;
  elsewhere = λ of ne older. refl;
  in_order = λ order. subst AreInOrder (sym is) order;
  adds_none = λ context. ap (weigh (added_at (suc context))) is;
}

looked_notes : (domain : ℕ) (more : List Note) (old new : ShareSeat) → Looks more old new → begun new.notes ≡ begun old.notes
    → ((context : ℕ) → weigh (added_at (suc context)) new.notes ≡ weigh (added_at (suc context)) old.notes) → OneNoted domain old.notes new.notes []
looked_notes domain more old new looks same adds = record {
  begun_are = λ of e. ap (λ (l : List (ℕ × ℕ)). map (λ (b : ℕ × ℕ). b.1) l) same;
  elsewhere = λ of ne older. refl;
  in_order = λ order. record {
    some = subst (λ (l : List (ℕ × ℕ)). Each (λ (k : ℕ). 1 ≤ k) (map (λ (b : ℕ × ℕ). b.1) l)) (sym same) order.some;
    falls = subst Falls (sym same) order.falls;
  };
  adds_none = adds;
}

one_noted : (domain k : ℕ) (old new : ShareSeat) (owed : ℕ) (added : List TimerEntry) → Tries domain k old new owed added → OneNoted domain old.notes new.notes added
one_noted domain k old new owed added (none zero_is new_is owed_is added_is) =
    subst (λ (l : List TimerEntry). OneNoted domain old.notes new.notes l) (sym added_is) (same_notes domain old.notes new.notes (ap (λ (s : ShareSeat). s.notes) new_is))
one_noted domain k old new owed added (began some begins owed_is added_is) =
    let gives = begin_is_noted k old new some begins in
    subst (λ (l : List TimerEntry). OneNoted domain old.notes new.notes l) (sym added_is) (record {
      begun_are = λ of e. gives.begun_are ∙ sym (ap (λ (b : Bool). (if b then k ∷ [] else []) ++ begun_at_once old.notes) (eq-eqb domain of (sym e)));
      elsewhere = λ of ne older. ap (λ (b : Bool). (if b then k ∷ [] else []) ++ older) (ne_eqb domain of (λ e. ne (sym e)));
      in_order = gives.in_order;
      adds_none = λ context. ap (weigh (added_at (suc context))) begins.told.1.notes ∙ period_weigh context begins.first begins.first k old.notes;
    })
one_noted domain k old new owed added (refused some begins owed_is added_is) =
    let grew = looks_add_none (Found 0 begins.first ∷ []) old new tt begins.told.1 in
    subst (λ (l : List TimerEntry). OneNoted domain old.notes new.notes l) (sym added_is)
    (looked_notes domain (Found 0 begins.first ∷ []) old new begins.told.1 grew.begins_none (λ context. omega (arith, grew.adds context)))
one_noted domain k old new owed added (came_between again some lost owed_is added_is) =
    let more = Found 0 again.second ∷ Found 0 again.first ∷ [] in
    let grew = looks_add_none more old new tt lost.2 in
    subst (λ (l : List TimerEntry). OneNoted domain old.notes new.notes l) (sym added_is) (looked_notes domain more old new lost.2 grew.begins_none (λ context. omega (arith, grew.adds context)))

-- ---- lines

-- a try logs its period, or nothing
tries_line : (domain k : ℕ) (old new : ShareSeat) (owed : ℕ) (added : List TimerEntry) → Tries domain k old new owed added
    → (added ≡ []) ⊎ (added ≡ PeriodLine domain k ∷ [])
tries_line domain k old new owed added (none a b c d) = inl d
tries_line domain k old new owed added (began a b c d) = inr d
tries_line domain k old new owed added (refused a b c d) = inl d
tries_line domain k old new owed added (came_between again a b c d) = inl d

module _ (trace : Trace) (opened : ℕ) (r : TimerRecord) (lines : List LastLine) (opens : is_opening trace lines ≡ false) where
  -- periods of one domain, which change the notes of no other
  one_since : (domain k : ℕ) (old new : ℕ → List Note) (added : List TimerEntry) → domain < domains trace → (added ≡ []) ⊎ (added ≡ PeriodLine domain k ∷ [])
      → OneNoted domain (old domain) (new domain) added → ((of : ℕ) → of ≢ domain → new of ≡ old of)
      → TimerSince trace opened 0 added (record { held = r; lines = lines; shares = old }) (record { held = r; lines = lines; shares = new })
  one_since domain k old new added less line one others = record {
    published = ⊎_elim (λ is. ap (after published_after r.published) (sym is)) (λ is. ap (after published_after r.published) (sym is)) line;
    peaks = [];
    raised = refl;
    told_are = ⊎_elim (λ is. ap (flat_map peak_for) (sym is)) (λ is. ap (flat_map peak_for) (sym is)) line;
    stops_are = refl;
    causes = tt;
    follow = ⊎_elim (λ is. subst (λ (l : List TimerEntry). Walked (TimerGoesOn trace opened) lines_after lines l lines) (sym is) (walked_none (TimerGoesOn trace opened) lines_after lines))
        (λ is. subst (λ (l : List TimerEntry). Walked (TimerGoesOn trace opened) lines_after lines l lines) (sym is)
        (record { allowed = (record { opened = opens; named = lt-ltb domain (domains trace) less }, tt); reached = refl })) line;
    begun_are = λ of. by of (eqb of domain) refl;
    in_order = λ of. order of (eqb of domain) refl;
    adds_none = λ of context. adds of context (eqb of domain) refl;
  }
    where
      by : (of : ℕ) (b : Bool) → eqb of domain ≡ b → begun_at_once (new of) ≡ onto (period_line of) added (begun_at_once (old of))
      by of true is = let e = eqb-true of domain is in
          subst (λ (d : ℕ). begun_at_once (new d) ≡ onto (period_line d) added (begun_at_once (old d))) (sym e) (one.begun_are domain refl)
      by of false is = let ne = eqb-false of domain is in ap begun_at_once (others of ne) ∙ sym (one.elsewhere of ne (begun_at_once (old of)))

      order : (of : ℕ) (b : Bool) → eqb of domain ≡ b → AreInOrder (old of) → AreInOrder (new of)
      order of true is = let e = eqb-true of domain is in subst (λ (d : ℕ). AreInOrder (old d) → AreInOrder (new d)) (sym e) one.in_order
      order of false is = λ old_order. subst AreInOrder (sym (others of (eqb-false of domain is))) old_order

      adds : (of context : ℕ) (b : Bool) → eqb of domain ≡ b → weigh (added_at (suc context)) (new of) ≡ weigh (added_at (suc context)) (old of)
      adds of context true is = let e = eqb-true of domain is in
          subst (λ (d : ℕ). weigh (added_at (suc context)) (new d) ≡ weigh (added_at (suc context)) (old d)) (sym e) (one.adds_none context)
      adds of context false is = ap (weigh (added_at (suc context))) (others of (eqb-false of domain is))

-- a seat at each domain of the kit
fits_long : (xs : List Shape) (ys : List ShareSeat) → Fits xs ys → length ys ≡ length xs
fits_long [] [] fits = refl
fits_long [] (y ∷ ys) fits = absurd fits
fits_long (x ∷ xs) [] fits = absurd fits
fits_long (x ∷ xs) (y ∷ ys) fits = ap suc (fits_long xs ys fits.1)

pub seats_long : (kit : Kit) (seats : Seats) → AreSeatsOf kit seats → length seats.share.domains ≡ length kit.shares.domains
seats_long kit seats are = fits_long kit.shares.domains seats.share.domains are.share.0

-- ---- one domain more

pub tried_none : (come : ℕ) (sides : List DomainSide) (s : Seats) (log : List TimerEntry) → TriedEach come 0 sides sides s s log log
tried_none come sides s log = record {
  kept = record { cpu = refl; totals = refl; stakes = λ d. refl; rooms = λ d. refl; est = refl; queue = refl };
  periods = [];
  logged = sym (append-nil log);
  many = refl;
  hards = λ d. refl;
  ats = λ d. refl;
  each = λ d less. absurd (omega arith);
  later = λ d less. (refl, refl);
  since = λ trace opened r lines opens few. ticked_now trace opened _;
}

pub tried_more : (come i : ℕ) (sides sides1 : List DomainSide) (s0 s1 s2 : Seats) (log0 log1 log2 : List TimerEntry) (k owed : ℕ) → TriedEach come i sides sides1 s0 s1 log0 log1
    → i < length sides → i < length s1.share.domains → k ≡ (get_or sides i no_side).owed + come → Tried i k owed s1 s2 log1 log2
    → TriedEach come (i + 1) sides (set sides1 i (record (get_or sides1 i no_side) { owed = owed })) s0 s2 log0 log2
tried_more come i sides sides1 s0 s1 s2 log0 log1 log2 k owed p less there is t =
    let x : DomainSide = record (get_or sides1 i no_side) { owed = owed } in
    let inside : i < length sides1 = omega (arith, less, p.many) in
    let mid_at : seat_at i s2.share ≡ t.mid = ap (λ (l : List ShareSeat). get_or l i no_seat) t.domains_are ∙ get_or-set_same s1.share.domains i t.mid no_seat there in
    let seat_else : (d : ℕ) → d ≢ i → seat_at d s2.share ≡ seat_at d s1.share =
    λ d ne. ap (λ (l : List ShareSeat). get_or l d no_seat) t.domains_are ∙ get_or-set_other s1.share.domains i d t.mid no_seat ne in
    let side_here : get_or (set sides1 i x) i no_side ≡ x = get_or-set_same sides1 i x no_side inside in
    let side_else : (d : ℕ) → d ≢ i → get_or (set sides1 i x) d no_side ≡ get_or sides1 d no_side = λ d ne. get_or-set_other sides1 i d x no_side ne in
    let mine : Tries i k (seat_at i s1.share) (seat_at i s2.share) owed t.added =
    subst (λ (m : ShareSeat). Tries i k (seat_at i s1.share) m owed t.added) (sym mid_at) t.tries in
    record {
      kept = record {
        cpu = t.kept.cpu ∙ p.kept.cpu;
        totals = t.kept.totals ∙ p.kept.totals;
        stakes = λ d. t.kept.stakes d ∙ p.kept.stakes d;
        rooms = λ d. t.kept.rooms d ∙ p.kept.rooms d;
        est = t.kept.est ∙ p.kept.est;
        queue = t.kept.queue ∙ p.kept.queue;
      };
      periods = p.periods ++ t.added;
      logged = t.logged ∙ ap (λ (l : List TimerEntry). l ++ t.added) p.logged ∙ append_assoc log0 p.periods t.added;
      many = length-set sides1 i x ∙ p.many;
      hards = λ d. hards_by d (eqb d i) refl;
      ats = λ d. ats_by d (eqb d i) refl;
      each = λ d few. each_by mine side_here seat_else side_else d (eqb d i) refl (omega (arith, few));
      later = λ d few. let ne : d ≢ i = λ e. absurd (omega (arith, e, few)) in
          (seat_else d ne ∙ (p.later d (omega (arith, few))).0, side_else d ne ∙ (p.later d (omega (arith, few))).1);
      since = λ trace opened r lines opens few.
          ticked_more trace opened 0 0 p.periods t.added (record { held = r; lines = lines; shares = noted s0.share }) (record { held = r; lines = lines; shares = noted s1.share })
          (record { held = r; lines = lines; shares = noted s2.share })
          (p.since trace opened r lines opens (omega (arith, few)))
          (one_since trace opened r lines opens i k (noted s1.share) (noted s2.share) t.added (omega (arith, few)) (tries_line i k (seat_at i s1.share) (seat_at i s2.share) owed t.added mine)
          (one_noted i k (seat_at i s1.share) (seat_at i s2.share) owed t.added mine) (λ of ne. ap (λ (s : ShareSeat). s.notes) (seat_else of ne)));
    }
  where
    x' : DomainSide
    x' = record (get_or sides1 i no_side) { owed = owed }

    hards_by : (d : ℕ) (b : Bool) → eqb d i ≡ b → (get_or (set sides1 i x') d no_side).hard ≡ (get_or sides d no_side).hard
    hards_by d true same =
        let e = eqb-true d i same in
        let inside' : i < length sides1 = omega (arith, less, p.many) in
        subst (λ (n : ℕ). (get_or (set sides1 i x') n no_side).hard ≡ (get_or sides n no_side).hard) (sym e)
        (ap (λ (s : DomainSide). s.hard) (get_or-set_same sides1 i x' no_side inside') ∙ p.hards i)
    hards_by d false same = ap (λ (s : DomainSide). s.hard) (get_or-set_other sides1 i d x' no_side (eqb-false d i same)) ∙ p.hards d

    ats_by : (d : ℕ) (b : Bool) → eqb d i ≡ b → (get_or (set sides1 i x') d no_side).at ≡ (get_or sides d no_side).at
    ats_by d true same =
        let e = eqb-true d i same in
        let inside' : i < length sides1 = omega (arith, less, p.many) in
        subst (λ (n : ℕ). (get_or (set sides1 i x') n no_side).at ≡ (get_or sides n no_side).at) (sym e)
        (ap (λ (s : DomainSide). s.at) (get_or-set_same sides1 i x' no_side inside') ∙ p.ats i)
    ats_by d false same = ap (λ (s : DomainSide). s.at) (get_or-set_other sides1 i d x' no_side (eqb-false d i same)) ∙ p.ats d

    each_by : Tries i k (seat_at i s1.share) (seat_at i s2.share) owed t.added → get_or (set sides1 i x') i no_side ≡ x'
        → ((d : ℕ) → d ≢ i → seat_at d s2.share ≡ seat_at d s1.share) → ((d : ℕ) → d ≢ i → get_or (set sides1 i x') d no_side ≡ get_or sides1 d no_side)
        → (d : ℕ) (b : Bool) → eqb d i ≡ b → d < i + 1
        → (added : List TimerEntry) × Tries d ((get_or sides d no_side).owed + come) (seat_at d s0.share) (seat_at d s2.share) (get_or (set sides1 i x') d no_side).owed added
    each_by mine here seats_else sides_else d true same few =
        let e = eqb-true d i same in
        let before = p.later i (omega arith) in
        subst (λ (n : ℕ). (added : List TimerEntry) × Tries n ((get_or sides n no_side).owed + come) (seat_at n s0.share) (seat_at n s2.share) (get_or (set sides1 i x') n no_side).owed added) (sym e) (
          t.added,
          subst (λ (o : ℕ). Tries i ((get_or sides i no_side).owed + come) (seat_at i s0.share) (seat_at i s2.share) o t.added) (sym (ap (λ (s : DomainSide). s.owed) here))
              (subst (λ (n : ℕ). Tries i n (seat_at i s0.share) (seat_at i s2.share) owed t.added) is
              (subst (λ (s : ShareSeat). Tries i k s (seat_at i s2.share) owed t.added) before.0 mine)),
        )
    each_by mine here seats_else sides_else d false same few =
        let ne = eqb-false d i same in
        let was = p.each d (omega (arith, few, ne)) in (
          was.0,
          subst (λ (s : ShareSeat). Tries d ((get_or sides d no_side).owed + come) (seat_at d s0.share) s (get_or (set sides1 i x') d no_side).owed was.0) (sym (seats_else d ne))
              (subst (λ (y : DomainSide). Tries d ((get_or sides d no_side).owed + come) (seat_at d s0.share) (seat_at d s1.share) y.owed was.0) (sym (sides_else d ne)) was.1),
        )
