use Rattle.std.proofs.Common.{[], ◌∷◌, ◌<◌, refl, sym, ◌∙◌, subst, inl, inr, ℕ, List, length, ap}
use Rattle.wbt_flusher.proofs.Common.{here, Moments, no_moments, sight, Halted, Stepped, MOST_FAULTS, IsPhase}
use Rattle.wbt_flusher.proofs.Faulting.{not_last, rise_from, turned_back}
use Rattle.wbt_flusher.specs.declared.work.FlusherWork.{FlusherWork}
use Rattle.wbt_flusher.specs.declared.work.Phase.{Phase}
use Rattle.wbt_flusher.proofs.Ending.{scan_stands, told_none, kept_open, stepped_ends, steps_from}
use Rattle.wbt_flusher.proofs.Going.{went_more, holds_went, rooms_went, owes_still}
use Rattle.std.proofs.lemmas.Bool.{eqb-true}
use Rattle.wbt_flusher.proofs.Flown.{none_there, some_there}
use Rattle.wbt_flusher.proofs.plan.FlusherPlan.close.Goals as goal

pub returns-then-not-mark_again-clause-ends : goal.returns-then-not-mark_again-clause-ends
returns-then-not-mark_again-clause-ends g c = record {
  moments = no_moments;
  all_told = told_none (g.C.Clock.told c.args.hands.now.clock.now);
  estimates_none = refl;
  does = record { went = c.mark_again.ensures.goes no_moments c.args.pen.now.log (g.D.Disk.written c.args.disk.now); stands = scan_stands c.mark_again.new.work.phase c.args.scan (c.mark_again.ensures.only_waiting.phase ∙ c.requires.open.phase); stopped = c.mark_again.ensures.stopped c.if-not-mark_again.true };
}

pub returns-then-is_empty-clause-ends : goal.returns-then-is_empty-clause-ends
returns-then-is_empty-clause-ends g c =
    let written = g.D.Disk.written c.args.disk.now in
    let log = c.args.pen.now.log in
    let m = c.mark_again in
    let k = c.keep_place in
    let kept = kept_open c.args.self.now c.args.hands.now.kit.now c.args.scan c.args.seats.now m.new.seats c.args.work.now m.new.work k.new.work c.requires.open m.ensures.goes m.ensures.lists m.ensures.only_waiting m.ensures.debts k.ensures.keeps k.ensures.lists in
    record {
      moments = no_moments;
      all_told = told_none (g.C.Clock.told c.args.hands.now.clock.now);
      estimates_none = refl;
      does = stepped_ends c.args.self.now c.args.hands.now.kit.now no_moments (g.G.Gate.said c.args.hands.now.gate.now) _ c.close_empty.result
          (sight c.args.work.now c.args.seats.now log written) (sight k.new.work m.new.seats log written) (sight c.close_empty.new.work m.new.seats log written) c.close_empty.ensures.stepped
          (kept.goes no_moments log written) (c.close_empty.ensures.steps c.args.hands.now.kit.now m.new.seats kept.opened (m.ensures.paid c.if-not-mark_again.false) no_moments log written);
    }

pub returns-in-Flies-clause-ends : goal.returns-in-Flies-clause-ends
returns-in-Flies-clause-ends g c =
    let plan = c.args.self.now in
    let kit = c.args.hands.now.kit.now in
    let was = c.args.work.now in
    let log = c.args.pen.now.log in
    let m = c.mark_again in
    let k = c.keep_place in
    let kept = kept_open plan kit c.args.scan c.args.seats.now m.new.seats was m.new.work k.new.work c.requires.open m.ensures.goes m.ensures.lists m.ensures.only_waiting m.ensures.debts k.ensures.keeps k.ensures.lists in
    let h = c.hand_over in
    let now = c.told_moment.result in
    let moments : Moments = record { batches = now ∷ []; estimates = [] } in
    let w = g.D.Disk.written c.args.disk.now in
    let w' = g.D.Disk.written h.new.disk in
    let paid = m.ensures.paid c.if-not-mark_again.false in
    let flies = h.ensures.flies c.in-Flies.is in
    let old = sight was c.args.seats.now log w in
    let mid = sight k.new.work m.new.seats log w in
    let new = sight h.new.work m.new.seats h.new.pen.log w' in
    let went = went_more plan kit moments old mid new (kept.goes moments log w) (h.ensures.goes kit m.new.seats c.requires.suits m.ensures.fits paid moments (here now [])) in
    let open' = c.requires.open in
    record {
      moments = moments;
      all_told = record { batches = (c.told_moment.ensures.told, tt); estimates = tt };
      estimates_none = refl;
      does = steps_from plan kit moments old new went open'.holds open'.rooms
          (record {
            lists = h.ensures.lists;
            phase = subst (λ (p : Phase). IsPhase plan h.new.work.batch.items p) (sym flies.1) flies.2;
            few_faults = subst (λ (n : ℕ). n < MOST_FAULTS) (sym (ap (λ (w : FlusherWork). w.faults) (h.ensures.hands c.in-Flies.is).work ∙ kept.faults)) open'.few_faults;
          })
          (owes_still plan c.args.seats.now m.new.seats m.ensures.debts open'.owes_none);
    }

pub returns-in-Returns-clause-ends : goal.returns-in-Returns-clause-ends
returns-in-Returns-clause-ends g c =
    let plan = c.args.self.now in
    let kit = c.args.hands.now.kit.now in
    let was = c.args.work.now in
    let log = c.args.pen.now.log in
    let m = c.mark_again in
    let k = c.keep_place in
    let kept = kept_open plan kit c.args.scan c.args.seats.now m.new.seats was m.new.work k.new.work c.requires.open m.ensures.goes m.ensures.lists m.ensures.only_waiting m.ensures.debts k.ensures.keeps k.ensures.lists in
    let h = c.hand_over in
    let now = c.told_moment.result in
    let moments : Moments = record { batches = now ∷ []; estimates = [] } in
    let w = g.D.Disk.written c.args.disk.now in
    let w' = g.D.Disk.written h.new.disk in
    let paid = m.ensures.paid c.if-not-mark_again.false in
    let back = h.ensures.returns c.in-Returns.is in
    let old = sight was c.args.seats.now log w in
    let mid = sight k.new.work m.new.seats log w in
    let new = sight h.new.work m.new.seats h.new.pen.log w' in
    let went = went_more plan kit moments old mid new (kept.goes moments log w) (h.ensures.goes kit m.new.seats c.requires.suits m.ensures.fits paid moments (here now [])) in
    let open' = c.requires.open in
    record {
      moments = moments;
      all_told = record { batches = (c.told_moment.ensures.told, tt); estimates = tt };
      estimates_none = refl;
      does = steps_from plan kit moments old new went open'.holds open'.rooms
          (turned_back plan c.args.scan k.new.work h.new.work log h.new.pen.log c.requires.suits.plan_is h.ensures.lists kept.opened.stands
          (subst (λ (l : List ℕ). 0 < length l) c.as_slice.ensures.value (some_there c.as_slice.result.now (sym c.is_empty.ensures ∙ c.if-is_empty.false))) back)
          (owes_still plan c.args.seats.now m.new.seats m.ensures.debts open'.owes_none);
    }

pub returns-in-Fails-clause-ends : goal.returns-in-Fails-clause-ends
returns-in-Fails-clause-ends g c =
    let plan = c.args.self.now in
    let kit = c.args.hands.now.kit.now in
    let was = c.args.work.now in
    let log = c.args.pen.now.log in
    let m = c.mark_again in
    let k = c.keep_place in
    let kept = kept_open plan kit c.args.scan c.args.seats.now m.new.seats was m.new.work k.new.work c.requires.open m.ensures.goes m.ensures.lists m.ensures.only_waiting m.ensures.debts k.ensures.keeps k.ensures.lists in
    let h = c.hand_over in
    let now = c.told_moment.result in
    let moments : Moments = record { batches = now ∷ []; estimates = [] } in
    let w = g.D.Disk.written c.args.disk.now in
    let w' = g.D.Disk.written h.new.disk in
    let paid = m.ensures.paid c.if-not-mark_again.false in
    let failed = h.ensures.fails c.in-Fails.is in
    let old = sight was c.args.seats.now log w in
    let mid = sight k.new.work m.new.seats log w in
    let new = sight h.new.work m.new.seats h.new.pen.log w' in
    let went = went_more plan kit moments old mid new (kept.goes moments log w) (h.ensures.goes kit m.new.seats c.requires.suits m.ensures.fits paid moments (here now [])) in
    let open' = c.requires.open in
    record {
      moments = moments;
      all_told = record { batches = (c.told_moment.ensures.told, tt); estimates = tt };
      estimates_none = refl;
      does = record {
        went = went;
        cause = h.ensures.risen c.in-Fails.is;
        failed = failed.phase;
        eighth = failed.faults;
        holds = holds_went plan kit moments old new went open'.holds;
        rooms = rooms_went plan kit moments old new went open'.rooms;
        owes_none = owes_still plan c.args.seats.now m.new.seats m.ensures.debts open'.owes_none;
      };
    }

pub returns-then-is_empty-clause-closes : goal.returns-then-is_empty-clause-closes
returns-then-is_empty-clause-closes g c is =
    let m = c.mark_again.ensures in
    record {
      marked = c.mark_again.new.work;
      only = m.only_waiting;
      marks = m.marks c.if-not-mark_again.false;
      kept = c.keep_place.new.work;
      keeps = c.keep_place.ensures.keeps;
      ends = inl (none_there c.keep_place.new.work.batch.items (sym (ap (λ (l : List ℕ). length l) c.as_slice.ensures.value) ∙ eqb-true (length c.as_slice.result.now) 0 (sym c.is_empty.ensures ∙ c.if-is_empty.true)), refl, c.close_empty.ensures.ends_empty);
    }

pub returns-in-Flies-clause-closes : goal.returns-in-Flies-clause-closes
returns-in-Flies-clause-closes g c is =
    let m = c.mark_again.ensures in
    record {
      marked = c.mark_again.new.work;
      only = m.only_waiting;
      marks = m.marks c.if-not-mark_again.false;
      kept = c.keep_place.new.work;
      keeps = c.keep_place.ensures.keeps;
      ends = inr (inl (subst (λ (l : List ℕ). 0 < length l) c.as_slice.ensures.value (some_there c.as_slice.result.now (sym c.is_empty.ensures ∙ c.if-is_empty.false)), (c.told_moment.result, c.told_moment.ensures.told, c.hand_over.ensures.hands c.in-Flies.is)));
    }

pub returns-in-Returns-clause-closes : goal.returns-in-Returns-clause-closes
returns-in-Returns-clause-closes g c is =
    let m = c.mark_again.ensures in
    record {
      marked = c.mark_again.new.work;
      only = m.only_waiting;
      marks = m.marks c.if-not-mark_again.false;
      kept = c.keep_place.new.work;
      keeps = c.keep_place.ensures.keeps;
      ends = inr (inr (subst (λ (l : List ℕ). 0 < length l) c.as_slice.ensures.value (some_there c.as_slice.result.now (sym c.is_empty.ensures ∙ c.if-is_empty.false)), c.hand_over.ensures.returns c.in-Returns.is));
    }

pub returns-then-not-mark_again-clause-halts : goal.returns-then-not-mark_again-clause-halts
returns-then-not-mark_again-clause-halts g c is =
    let m = c.mark_again.ensures.stays c.if-not-mark_again.true in
    (m.0, record { seats = m.1; work = m.2; told = refl })

pub returns-in-Fails-clause-fails : goal.returns-in-Fails-clause-fails
returns-in-Fails-clause-fails g c is =
    let m = c.mark_again.ensures in
    record {
      marked = c.mark_again.new.work;
      only = m.only_waiting;
      marks = m.marks c.if-not-mark_again.false;
      kept = c.keep_place.new.work;
      keeps = c.keep_place.ensures.keeps;
      fails = c.hand_over.ensures.fails c.in-Fails.is;
    }

-- a scan without a batch steps
pub returns-then-is_empty-clause-halts : goal.returns-then-is_empty-clause-halts
returns-then-is_empty-clause-halts g c is = absurd (let e = sym c.close_empty.ensures.stepped ∙ is in cc)

pub returns-then-is_empty-clause-fails : goal.returns-then-is_empty-clause-fails
returns-then-is_empty-clause-fails g c is = absurd (let e = sym c.close_empty.ensures.stepped ∙ is in cc)

pub returns-then-is_empty-clause-unspent : goal.returns-then-is_empty-clause-unspent
returns-then-is_empty-clause-unspent g c is = let e = sym c.close_empty.ensures.stepped ∙ is in cc

-- ---- the batch

pub returns-then-not-mark_again-clause-batch : goal.returns-then-not-mark_again-clause-batch
returns-then-not-mark_again-clause-batch g c = λ i. (c.mark_again.ensures.only_waiting.batch i).items

pub returns-then-is_empty-clause-batch : goal.returns-then-is_empty-clause-batch
returns-then-is_empty-clause-batch g c = c.close_empty.ensures.batch ∙ (λ i. (c.keep_place.ensures.keeps.batch i).items) ∙ (λ i. (c.mark_again.ensures.only_waiting.batch i).items)

pub returns-in-Flies-clause-batch : goal.returns-in-Flies-clause-batch
returns-in-Flies-clause-batch g c = ap (λ (w : FlusherWork). w.batch.items) (c.hand_over.ensures.hands c.in-Flies.is).work ∙ (λ i. (c.keep_place.ensures.keeps.batch i).items) ∙ (λ i. (c.mark_again.ensures.only_waiting.batch i).items)

pub returns-in-Returns-clause-batch : goal.returns-in-Returns-clause-batch
returns-in-Returns-clause-batch g c = ap (λ (w : FlusherWork). w.batch.items) (c.hand_over.ensures.returns c.in-Returns.is).work ∙ (λ i. (c.keep_place.ensures.keeps.batch i).items) ∙ (λ i. (c.mark_again.ensures.only_waiting.batch i).items)

pub returns-in-Fails-clause-batch : goal.returns-in-Fails-clause-batch
returns-in-Fails-clause-batch g c = (λ i. ((c.hand_over.ensures.fails c.in-Fails.is).batch i).items) ∙ (λ i. (c.keep_place.ensures.keeps.batch i).items) ∙ (λ i. (c.mark_again.ensures.only_waiting.batch i).items)

-- ---- faults

pub returns-then-not-mark_again-clause-counted : goal.returns-then-not-mark_again-clause-counted
returns-then-not-mark_again-clause-counted g c = inl c.mark_again.ensures.only_waiting.faults

pub returns-then-is_empty-clause-counted : goal.returns-then-is_empty-clause-counted
returns-then-is_empty-clause-counted g c = inl (c.close_empty.ensures.faults ∙ c.keep_place.ensures.keeps.faults ∙ c.mark_again.ensures.only_waiting.faults)

pub returns-in-Flies-clause-counted : goal.returns-in-Flies-clause-counted
returns-in-Flies-clause-counted g c = rise_from _ _ _ _ _ (c.keep_place.ensures.keeps.faults ∙ c.mark_again.ensures.only_waiting.faults) c.hand_over.ensures.counted

pub returns-in-Returns-clause-counted : goal.returns-in-Returns-clause-counted
returns-in-Returns-clause-counted g c = rise_from _ _ _ _ _ (c.keep_place.ensures.keeps.faults ∙ c.mark_again.ensures.only_waiting.faults) c.hand_over.ensures.counted

pub returns-in-Fails-clause-counted : goal.returns-in-Fails-clause-counted
returns-in-Fails-clause-counted g c = rise_from _ _ _ _ _ (c.keep_place.ensures.keeps.faults ∙ c.mark_again.ensures.only_waiting.faults) c.hand_over.ensures.counted

pub returns-then-not-mark_again-clause-eighth : goal.returns-then-not-mark_again-clause-eighth
returns-then-not-mark_again-clause-eighth g c = not_last Halted _ _ (λ f. let e = f in cc) c.mark_again.ensures.only_waiting.faults c.requires.open.few_faults

pub returns-then-is_empty-clause-eighth : goal.returns-then-is_empty-clause-eighth
returns-then-is_empty-clause-eighth g c =
    not_last c.close_empty.result _ _ (λ f. let e = sym c.close_empty.ensures.stepped ∙ f in cc) (c.close_empty.ensures.faults ∙ c.keep_place.ensures.keeps.faults ∙ c.mark_again.ensures.only_waiting.faults) c.requires.open.few_faults

pub returns-in-Flies-clause-eighth : goal.returns-in-Flies-clause-eighth
returns-in-Flies-clause-eighth g c =
    not_last Stepped _ _ (λ f. let e = f in cc) (ap (λ (w : FlusherWork). w.faults) (c.hand_over.ensures.hands c.in-Flies.is).work ∙ c.keep_place.ensures.keeps.faults ∙ c.mark_again.ensures.only_waiting.faults) c.requires.open.few_faults

pub returns-in-Returns-clause-eighth : goal.returns-in-Returns-clause-eighth
returns-in-Returns-clause-eighth g c =
    let back = c.hand_over.ensures.returns c.in-Returns.is in
    not_last Stepped c.hand_over.new.work.faults c.hand_over.new.work.faults (λ f. let e = f in cc) refl (subst (λ (w : FlusherWork). w.faults < MOST_FAULTS) (sym back.work) back.not_last)

pub returns-in-Fails-clause-eighth : goal.returns-in-Fails-clause-eighth
returns-in-Fails-clause-eighth g c = (λ _. (c.hand_over.ensures.fails c.in-Fails.is).faults, λ _. refl)
