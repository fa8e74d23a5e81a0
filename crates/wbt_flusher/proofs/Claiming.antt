-- A look at a page of a scan, and a claim on it.
use Rattle.std.proofs.Common.{◌≡◌, ◌≢◌, ℕ, ◌+◌, ◌/◌, ◌%◌, ◌≤◌, ◌⊎◌, Bool, true, false, not, ◌&&◌, ◌||◌, cond, eqb, List, [], ◌∷◌, ◌++◌, filter, inl, inr, ⊎_elim, sym, refl, ap, ◌∙◌, subst, arith, eq-eqb, ne_eqb, true≢false}
use Rattle.std.proofs.lemmas.Bool.{cond-true, cond-false}
use mathlib.Core.Logic.{dite}
use native.Mathlib.Decide.{ℕ_discrete}
use Rattle.wbt_book.specs.Book.{is_claimable}
use Rattle.wbt_flusher.proofs.Common.{times_in, look, claim, record_after, Setting, CpuRecord, IsAhead, page_of, Scan, Grew, untold_grows, steps_grow, Sight, pages_in, OwesRescan, OwesMark, all_completions, completions, owing, owing_total}
use Rattle.wbt_grant.specs.Record
use Rattle.wbt_grant.specs.declared.who.StepKind.TheVariants as kind
use Rattle.wbt_grant.specs.declared.who.Word.TheVariants as word
use Rattle.wbt_journal.specs.Told.{claimed}
use Rattle.wbt_run_laws.proofs.Growing.{by_both}
use Rattle.wbt_flusher.specs.declared.plan.FlusherPlan.{FlusherPlan}
use Rattle.wbt_flusher.specs.declared.work.Phase.{Phase}
use Rattle.wbt_flusher.specs.declared.work.Phase.TheVariants.{Scanning}
use Rattle.wbt_rules.proofs.Places.{next_or_ahead}
use Rattle.wbt_flusher.proofs.Acting.{OnRecord, rescan_or, mark_or}
use Rattle.wbt_flusher.proofs.Listing.{passed, times_append, one_of}

-- ---- what the steps make of the record

looked_claimable : (d w : Bool) (a b r : CpuRecord) → (d && not w) ≡ true → cond (d && w) a (cond (not d || w) b r) ≡ r
looked_claimable true false a b r is = refl
looked_claimable true true a b r is = absurd (true≢false (sym is))
looked_claimable false w a b r is = absurd (true≢false (sym is))

looked_other : (d w : Bool) (a b r : CpuRecord) → (d && not w) ≡ false → cond (d && w) a (cond (not d || w) b r) ≡ cond (d && w) a b
looked_other true true a b r is = refl
looked_other true false a b r is = absurd (true≢false is)
looked_other false w a b r is = refl

module _ (set : Setting) (c p n : ℕ) (r : CpuRecord) where
  abbrev pub after_look : CpuRecord
  after_look = Record.stepped kind.Look (word.Page p) n r

  pub look_is : is_claimable (set.coding.page_bits n p) ≡ true → record_after set (look c p) n r ≡ after_look
  look_is claimable = let bits = set.coding.page_bits n p in
      ap (λ (q : CpuRecord). Record.stepped kind.Look (word.Page p) n q)
      (looked_claimable bits.dirty bits.writeback (Record.owing_mark (set.inode p) (Record.passed p r)) (Record.passed p r) r claimable)

  abbrev pub after_pass : (both : Bool) → CpuRecord
  after_pass both = cond both (Record.owing_mark (set.inode p) (Record.passed p r)) (Record.passed p r)

  pub pass_is : is_claimable (set.coding.page_bits n p) ≡ false
      → record_after set (look c p) n r ≡ Record.stepped kind.Look (word.Page p) n (after_pass ((set.coding.page_bits n p).dirty && (set.coding.page_bits n p).writeback))
  pass_is other = let bits = set.coding.page_bits n p in
      ap (λ (q : CpuRecord). Record.stepped kind.Look (word.Page p) n q)
      (looked_other bits.dirty bits.writeback (Record.owing_mark (set.inode p) (Record.passed p r)) (Record.passed p r) r other)

  abbrev pub after_claim : CpuRecord
  after_claim = Record.stepped kind.Claim (word.Page p) n (Record.claimed p after_look)

  pub claim_is : is_claimable (set.coding.page_bits n p) ≡ true → record_after set (claim c p) n (record_after set (look c p) n r) ≡ after_claim
  claim_is claimable = ap (λ (q : CpuRecord). record_after set (claim c p) n q) (look_is claimable)
      ∙ ap (λ (q : CpuRecord). Record.stepped kind.Claim (word.Page p) n q) (cond-true (eqb n n) (Record.claimed p after_look) after_look (eq-eqb n n refl))

  pub grew_claim : (flusher : ℕ) → Grew (claimed flusher p ∷ []) r (record_after set (claim c p) n (record_after set (look c p) n r))
  grew_claim flusher =
      let mid = record_after set (look c p) n r in
      by_both [] (claimed flusher p ∷ []) r mid (record_after set (claim c p) n mid)
      (untold_grows [] r mid ((steps_grow set n r).untold (look c p) refl)) ((steps_grow set n mid).claims c flusher p (eq-eqb n n refl))

  -- where another number was found
  abbrev pub after_miss : (m : ℕ) → CpuRecord
  after_miss m = Record.stepped kind.Claim (word.Page p) m after_look

  pub miss_is : (m : ℕ) → is_claimable (set.coding.page_bits n p) ≡ true → n ≢ m → record_after set (claim c p) m (record_after set (look c p) n r) ≡ after_miss m
  miss_is m claimable other = ap (λ (q : CpuRecord). record_after set (claim c p) m q) (look_is claimable)
      ∙ ap (λ (q : CpuRecord). Record.stepped kind.Claim (word.Page p) m q) (cond-false (eqb m n) (Record.claimed p after_look) after_look (ne_eqb m n (λ same. other (sym same))))

-- ---- of a page that was claimed

page_or : (p q : ℕ) (l : List ℕ) → 1 ≤ times_in q (filter (λ k. not (eqb k p)) l) → (1 ≤ times_in q l) × (q ≢ p)
page_or p q l some = let pass = passed (λ k. not (eqb k p)) q l some in
    (pass.there, λ same. true≢false (sym pass.kept ∙ ap not (eq-eqb q p same)))

-- what is owed of pages after the one that was passed
module _ (plan : FlusherPlan) (scan next : Scan) (next_is : next ≡ record scan { passed = scan.passed + 1; noted = next.noted }) where
  pub rescans_pass : (q : ℕ) (l : List ℕ) → 1 ≤ times_in q (filter (λ k. not (eqb k (page_of scan))) l)
      → OwesRescan plan (Scanning next) q ⊎ ((1 ≤ times_in q l) × (OwesRescan plan (Scanning scan) q → ⊥))
  rescans_pass q l some =
      let both = page_or (page_of scan) q l some in
      ⊎_elim (λ own. ⊎_elim (λ here. absurd (both.1 (sym here))) (λ still. inl (subst (λ (s : Scan). IsAhead s q) (sym next_is) still)) (next_or_ahead scan q own))
      (λ none. inr (both.0, none)) (rescan_or plan (Scanning scan) q)

  pub marks_pass : (i : ℕ) → (scan.noted ≡ true → next.noted ≡ true) → (some : Type 0) → some → OwesMark (Scanning next) i ⊎ (some × (OwesMark (Scanning scan) i → ⊥))
  marks_pass i noted some is =
      ⊎_elim (λ own. inl (noted own.0, own.1 ∙ sym (ap (λ (s : Scan). s.inode) next_is))) (λ none. inr (is, none)) (mark_or (Scanning scan) i)

module _ (plan : FlusherPlan) (set : Setting) (old new : Sight) (n : ℕ) (r : CpuRecord) (scan next : Scan)
    (was_at : old.work.phase ≡ Scanning scan) (is_at : new.work.phase ≡ Scanning next)
    (next_is : next ≡ record scan { passed = scan.passed + 1; noted = next.noted }) (noted : scan.noted ≡ true → next.noted ≡ true)
    (owing_same : (domain : ℕ) → owing plan domain new.work ≡ owing plan domain old.work)
    (total_same : (context : ℕ) → owing_total plan context new.work ≡ owing_total plan context old.work) where
  at_phase : (P : Phase → Phase → Type 0) → P (Scanning scan) (Scanning next) → P old.work.phase new.work.phase
  at_phase P p = subst (λ (z : Phase × Phase). P z.0 z.1) (λ i. (sym was_at i, sym is_at i)) p

  pub claimed_on : is_claimable (set.coding.page_bits n (page_of scan)) ≡ true → pages_in new ≡ pages_in old ++ page_of scan ∷ []
      → all_completions new.seats.cpu.cpus + completions r ≡ all_completions old.seats.cpu.cpus + completions (after_claim set plan.cpu (page_of scan) n r)
      → OnRecord plan (claimed plan.flusher (page_of scan) ∷ []) old new r (record_after set (claim plan.cpu (page_of scan)) n (record_after set (look plan.cpu (page_of scan)) n r))
  claimed_on claimable pages completed =
      subst (λ (q : CpuRecord). OnRecord plan (claimed plan.flusher (page_of scan) ∷ []) old new r q) (sym (claim_is set plan.cpu (page_of scan) n r claimable)) (record {
        grew = subst (λ (q : CpuRecord). Grew (claimed plan.flusher (page_of scan) ∷ []) r q) (claim_is set plan.cpu (page_of scan) n r claimable) (grew_claim set plan.cpu (page_of scan) n r plan.flusher);
        writers = refl;
        held = λ q. let same = ap (times_in q) pages in let both = times_append q (pages_in old) (page_of scan ∷ []) in omega arith;
        rescans = λ q owes. at_phase (λ was is. OwesRescan plan is q ⊎ ((1 ≤ times_in q r.owed_rescans) × (OwesRescan plan was q → ⊥)))
            (rescans_pass plan scan next next_is q r.owed_rescans owes);
        marks = λ i owes. at_phase (λ was is. OwesMark is i ⊎ ((1 ≤ times_in i r.owed_marks) × (OwesMark was i → ⊥)))
            (marks_pass plan scan next next_is i noted (1 ≤ times_in i r.owed_marks) owes);
        completed = completed;
        owing_is = λ domain is. let same = owing_same domain in omega arith;
        total_is = λ context is. let same = total_same context in omega arith;
      })

  -- of a page that was passed
  pub passed_on : (both : Bool) → both ≡ ((set.coding.page_bits n (page_of scan)).dirty && (set.coding.page_bits n (page_of scan)).writeback)
      → is_claimable (set.coding.page_bits n (page_of scan)) ≡ false → (both ≡ true → next.noted ≡ true) → set.inode (page_of scan) ≡ scan.inode → pages_in new ≡ pages_in old
      → all_completions new.seats.cpu.cpus + completions r ≡ all_completions old.seats.cpu.cpus + completions r
      → OnRecord plan [] old new r (record_after set (look plan.cpu (page_of scan)) n r)
  passed_on both is_both other notes at pages completed =
      let is = pass_is set plan.cpu (page_of scan) n r other ∙ ap (λ (b : Bool). Record.stepped kind.Look (word.Page (page_of scan)) n (after_pass set plan.cpu (page_of scan) n r b)) (sym is_both) in
      subst (λ (q : CpuRecord). OnRecord plan [] old new r q) (sym is)
      (by both notes (subst (λ (q : CpuRecord). Grew [] r q) is (untold_grows [] r (record_after set (look plan.cpu (page_of scan)) n r) ((steps_grow set n r).untold (look plan.cpu (page_of scan)) refl))))
    where
      by : (b : Bool) → (b ≡ true → next.noted ≡ true) → Grew [] r (Record.stepped kind.Look (word.Page (page_of scan)) n (after_pass set plan.cpu (page_of scan) n r b))
          → OnRecord plan [] old new r (Record.stepped kind.Look (word.Page (page_of scan)) n (after_pass set plan.cpu (page_of scan) n r b))
      by false notes grew = record {
        grew = grew;
        writers = refl;
        held = λ q. let same = ap (times_in q) pages in omega arith;
        rescans = λ q owes. at_phase (λ was is. OwesRescan plan is q ⊎ ((1 ≤ times_in q r.owed_rescans) × (OwesRescan plan was q → ⊥)))
            (rescans_pass plan scan next next_is q r.owed_rescans owes);
        marks = λ i owes. at_phase (λ was is. OwesMark is i ⊎ ((1 ≤ times_in i r.owed_marks) × (OwesMark was i → ⊥)))
            (marks_pass plan scan next next_is i noted (1 ≤ times_in i r.owed_marks) owes);
        completed = completed;
        owing_is = λ domain is. let same = owing_same domain in omega arith;
        total_is = λ context is. let same = total_same context in omega arith;
      }
      by true notes grew = record {
        grew = grew;
        writers = refl;
        held = λ q. let same = ap (times_in q) pages in omega arith;
        rescans = λ q owes. at_phase (λ was is. OwesRescan plan is q ⊎ ((1 ≤ times_in q r.owed_rescans) × (OwesRescan plan was q → ⊥)))
            (rescans_pass plan scan next next_is q r.owed_rescans owes);
        marks = λ i owes. at_phase (λ was is. OwesMark is i ⊎ ((1 ≤ times_in i r.owed_marks) × (OwesMark was i → ⊥)))
            (⊎_elim (λ here. inl (notes refl, here ∙ at ∙ sym (ap (λ (s : Scan). s.inode) next_is)))
            (λ more. marks_pass plan scan next next_is i noted (1 ≤ times_in i r.owed_marks) more) (one_of i (set.inode (page_of scan)) r.owed_marks owes));
        completed = completed;
        owing_is = λ domain is. let same = owing_same domain in omega arith;
        total_is = λ context is. let same = total_same context in omega arith;
      }

-- ---- the two bits of a page as a number

pub both_bits : (x : ℕ) → eqb (x % 4) 3 ≡ (eqb (x % 2) 1 && eqb (x / 2 % 2) 1)
both_bits x = dite (ℕ_discrete (x % 2) 1)
    (λ low. dite (ℕ_discrete (x / 2 % 2) 1)
    (λ high. eq-eqb (x % 4) 3 (omega arith) ∙ sym (ap (λ (b : Bool). b && eqb (x / 2 % 2) 1) (eq-eqb (x % 2) 1 low) ∙ eq-eqb (x / 2 % 2) 1 high))
    (λ high. ne_eqb (x % 4) 3 (λ is. high (omega arith)) ∙ sym (ap (λ (b : Bool). b && eqb (x / 2 % 2) 1) (eq-eqb (x % 2) 1 low) ∙ ne_eqb (x / 2 % 2) 1 high)))
    (λ low. ne_eqb (x % 4) 3 (λ is. low (omega arith)) ∙ sym (ap (λ (b : Bool). b && eqb (x / 2 % 2) 1) (ne_eqb (x % 2) 1 low)))
