-- The mark of a scan's inode is set, or cleared where a scan begins.
use Rattle.std.proofs.Common.{◌≡◌, ℕ, zero, suc, ◌+◌, ◌<◌, ◌≤◌, Bool, not, ◌==◌, eqb, List, [], ◌∷◌, inl, inr, ⊎_elim, sym, refl, ap, ◌∙◌, subst, arith, eqb-true}
use Rattle.std.proofs.lemmas.Bool.{cond_both, cases_lt}
use Rattle.wbt_flusher.proofs.Common.{times_in, mark, unmark, record_after, Setting, CpuRecord, IsAhead, Scan, untold_grows, steps_grow, inode_at, end_of, Sight, pages_in, OwesRescan, OwesMark, all_completions, completions, owing, owing_total}
use Rattle.wbt_grant.specs.Setting.{pages_of}
use Rattle.wbt_flusher.specs.declared.plan.FlusherPlan.{FlusherPlan}
use Rattle.wbt_flusher.specs.declared.work.Phase.{Phase}
use Rattle.wbt_flusher.specs.declared.work.Phase.TheVariants.{Idle, Scanning}
use Rattle.wbt_rules.proofs.Places.{all_ahead}
use Rattle.wbt_flusher.proofs.Acting.{OnRecord, rescan_or, mark_or}
use Rattle.wbt_flusher.proofs.Listing.{passed, times_append, one_of}

-- the pages of an inode
pub of_inode : (set : Setting) (n most p : ℕ) → 1 ≤ times_in p (pages_of set n most) → (set.inode p ≡ n) × (p < most)
of_inode set n zero p some = absurd (omega arith)
of_inode set n (suc q) p some = cond_both (eqb (set.inode q) n) (q ∷ pages_of set n q) (pages_of set n q)
    (λ (l : List ℕ). 1 ≤ times_in p l → (set.inode p ≡ n) × (p < suc q))
    (λ is low. ⊎_elim (λ same. (ap set.inode same ∙ eqb-true (set.inode q) n is, omega arith))
    (λ before. let rest = of_inode set n q p before in let less = rest.1 in (rest.0, omega arith)) (one_of p q (pages_of set n q) low))
    (λ is_not low. let rest = of_inode set n q p low in let less = rest.1 in (rest.0, omega arith)) some

-- a scan that has passed no page of its inode
pub record IsAtBegin (plan : FlusherPlan) (scan : Scan) : Type 0 where
  pub first_is : scan.first ≡ (inode_at plan scan.inode).first
  pub pages_are : scan.pages ≡ (inode_at plan scan.inode).pages
  pub start : scan.start < scan.pages
  pub none : scan.passed ≡ 0

-- has each ahead
ahead_of : (plan : FlusherPlan) (scan : Scan) (page : ℕ) → IsAtBegin plan scan → (inode_at plan scan.inode).first ≤ page → page < end_of plan scan.inode → IsAhead scan page
ahead_of plan scan page at from within =
    let first = at.first_is in
    let pages = at.pages_are in
    all_ahead scan page at.start at.none (omega arith) (omega arith)

module _ (plan : FlusherPlan) (set : Setting) (old new : Sight) (n : ℕ) (r : CpuRecord)
    (completed : all_completions new.seats.cpu.cpus + completions r ≡ all_completions old.seats.cpu.cpus + completions r)
    (owing_same : (domain : ℕ) → owing plan domain new.work ≡ owing plan domain old.work)
    (total_same : (context : ℕ) → owing_total plan context new.work ≡ owing_total plan context old.work)
    (pages_same : pages_in new ≡ pages_in old) where
  pub marked_on : (inode : ℕ) → new.work.phase ≡ old.work.phase → OnRecord plan [] old new r (record_after set (mark plan.cpu inode) n r)
  marked_on inode phase = record {
    grew = untold_grows [] r (record_after set (mark plan.cpu inode) n r) ((steps_grow set n r).untold (mark plan.cpu inode) refl);
    writers = refl;
    held = λ p. let same = ap (times_in p) pages_same in omega arith;
    rescans = λ p owes. ⊎_elim (λ own. inl (subst (λ (f : Phase). OwesRescan plan f p) (sym phase) own))
        (λ other. inr ((passed (λ q. not (set.inode q == inode)) p r.owed_rescans owes).there, other)) (rescan_or plan old.work.phase p);
    marks = λ i owes. ⊎_elim (λ own. inl (subst (λ (f : Phase). OwesMark f i) (sym phase) own))
        (λ other. inr ((passed (λ m. not (m == inode)) i r.owed_marks owes).there, other)) (mark_or old.work.phase i);
    completed = completed;
    owing_is = λ domain is. let same = owing_same domain in omega arith;
    total_is = λ context is. let same = total_same context in omega arith;
  }

  pub begun_on : (until : ℕ) (kept : Bool) (scan : Scan) → old.work.phase ≡ Idle until kept → new.work.phase ≡ Scanning scan
      → IsAtBegin plan scan
      → ((p : ℕ) → p < set.pages → set.inode p ≡ scan.inode → ((inode_at plan scan.inode).first ≤ p) × (p < end_of plan scan.inode))
      → OnRecord plan [] old new r (record_after set (unmark plan.cpu scan.inode) n r)
  begun_on until kept scan was_at is_at begun its = record {
    grew = untold_grows [] r (record_after set (unmark plan.cpu scan.inode) n r) ((steps_grow set n r).untold (unmark plan.cpu scan.inode) refl);
    writers = refl;
    held = λ p. let same = ap (times_in p) pages_same in omega arith;
    rescans = λ p owes.
        let both = times_append p (pages_of set scan.inode set.pages) r.owed_rescans in
        ⊎_elim (λ none. inr ((omega arith), λ own. subst (λ (f : Phase). OwesRescan plan f p) was_at own))
        (λ some. inl (subst (λ (f : Phase). OwesRescan plan f p) (sym is_at)
        (let at = of_inode set scan.inode set.pages p some in let within = its p at.1 at.0 in ahead_of plan scan p begun within.0 within.1)))
        (cases_lt (times_in p (pages_of set scan.inode set.pages)) 1);
    marks = λ i owes. inr (owes, λ own. subst (λ (f : Phase). OwesMark f i) was_at own);
    completed = completed;
    owing_is = λ domain is. let same = owing_same domain in omega arith;
    total_is = λ context is. let same = total_same context in omega arith;
  }
