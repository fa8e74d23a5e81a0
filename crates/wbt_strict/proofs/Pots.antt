-- What one page, or one writer, changes in a strict context.
use Rattle.std.proofs.Common.{◌≡◌, ℕ, ◌+◌, ◌*◌, ◌-◌, ◌<◌, ◌≤◌, Bool, true, false, cond, eqb, leb, Some, sym, ap, ◌∙◌, arith, ⊎_elim, eq-eqb, ne_eqb, eqb-true, leb-true}
use mathlib.Core.Logic.{dite}
use native.Mathlib.Decide.{ℕ_discrete}
use Rattle.std.proofs.lemmas.Bool.{cases_Bool, cond_both, cond-true, cond-false}
use Rattle.wbt_counter.specs.declared.counter.Counter.{Counter}
use Rattle.wbt_counter.specs.declared.counter.Counter.TheVariants.{Domain, Context}
use Rattle.wbt_counter.specs.Sums.{put}
use Rattle.wbt_counter.specs.Through.{fits}
use Rattle.wbt_counter.proofs.Sums.{put_same, put_other, put_each, total_le, total_change}
use Rattle.wbt_book.specs.Book.{Bits, Book}
use Rattle.wbt_book.specs.Counts.{places}
use Rattle.wbt_grant.specs.declared.record.WriterRecord.{WriterRecord}
use Rattle.wbt_grant.specs.Setting.{Setting, batch_of}
use Rattle.wbt_grant.specs.State.{context_count, exact_count, holding}
use Rattle.wbt_grant.specs.Record.{keeping_reading}
use Rattle.wbt_grant.proofs.Frames.{when_true, when_false, if_le, count_shift}
use Rattle.wbt_strict.specs.Rule.{strict_pot, strict_slack, IsStrictlyWithin}

pot_between : (b : Bool) (cap left : ℕ) → left ≤ cap → (left ≤ cond b cap left) × (cond b cap left ≤ cap)
pot_between true cap left h = (h, omega arith)
pot_between false cap left h = (omega arith, h)

-- a page's bits become no more
pub fewer : (set : Setting) (k : ℕ) (book : Book) (p : ℕ) (b : Bits) → p < set.pages → places b ≤ places (book p)
    → context_count set (put book p b) k ≤ context_count set book k
fewer set k book p b less h =
    let t = count_shift set book p b less k in
    let q = if_le (eqb (set.home p) k) (places b) (places (book p)) (λ e. h) in omega arith

module _ (set : Setting) (k most : ℕ) where
  -- where no pot of a writer of the context rises, the slack doesn't fall
  slack_le : (writers writers' : ℕ → WriterRecord)
      → ((w : ℕ) → set.works_in w ≡ k → strict_pot set most (writers' w) ≤ strict_pot set most (writers w))
      → strict_slack set k most writers ≤ strict_slack set k most writers'
  slack_le writers writers' h = total_le set.writers (λ w. cond (eqb (set.works_in w) k) (set.cap - strict_pot set most (writers w)) 0)
      (λ w. cond (eqb (set.works_in w) k) (set.cap - strict_pot set most (writers' w)) 0)
      (λ w l. if_le (eqb (set.works_in w) k) (set.cap - strict_pot set most (writers w)) (set.cap - strict_pot set most (writers' w))
      (λ t. let u = h w (eqb-true (set.works_in w) k t) in omega arith))

  pub keeps : (book book' : Book) (writers writers' : ℕ → WriterRecord) → context_count set book' k ≤ context_count set book k
      → ((w : ℕ) → set.works_in w ≡ k → strict_pot set most (writers' w) ≤ strict_pot set most (writers w))
      → IsStrictlyWithin set k most book writers → IsStrictlyWithin set k most book' writers'
  keeps book book' writers writers' less pots within = let q = slack_le writers writers' pots in omega arith

  module _ (book : Book) (writers : ℕ → WriterRecord) (within : IsStrictlyWithin set k most book writers) (w : ℕ) where
    -- one writer changes, and its pot doesn't rise
    pub one_writer : (x : WriterRecord) → (set.works_in w ≡ k → strict_pot set most x ≤ strict_pot set most (writers w))
        → IsStrictlyWithin set k most book (put writers w x)
    one_writer x h = keeps book book writers (put writers w x) (omega arith)
        (put_each writers w x (λ v y. set.works_in v ≡ k → strict_pot set most y ≤ strict_pot set most (writers v)) h (λ v n e. omega arith)) within

    -- a page more in the writer's context, and one less that the writer has left
    pub one_page : (p : ℕ) (b : Bits) → p < set.pages → w < set.writers → set.home p ≡ set.works_in w → 0 < (writers w).left
        → (writers w).left ≤ set.cap → places b ≡ places (book p) + 1
        → IsStrictlyWithin set k most (put book p b) (put writers w (holding w ((writers w).left - 1)))
    one_page p b page here its some_left fits_cap more =
        let x : WriterRecord = holding w ((writers w).left - 1) in
        let pots = pot_between (fits most (writers w).context_reading) set.cap (writers w).left fits_cap in
        let low = pots.0 in
        let high = pots.1 in
        let shift = count_shift set book p b page k in
        dite (ℕ_discrete (set.works_in w) k)
        (λ e. let f = λ (j : ℕ). cond (eqb (set.works_in j) k) (set.cap - strict_pot set most (writers j)) 0 in
        let g = λ (j : ℕ). cond (eqb (set.works_in j) k) (set.cap - strict_pot set most (put writers w x j)) 0 in
        let t = total_change set.writers g f w here
        (λ j n. ap (λ (y : WriterRecord). cond (eqb (set.works_in j) k) (set.cap - strict_pot set most y) 0) (put_other writers w x j n)) in
        let same : g w ≡ cond (eqb (set.works_in w) k) (set.cap - strict_pot set most x) 0 = ap
        (λ (y : WriterRecord). cond (eqb (set.works_in w) k) (set.cap - strict_pot set most y) 0) (put_same writers w x) in
        let yes = eq-eqb (set.works_in w) k e in
        let a = cond-true (eqb (set.works_in w) k) (set.cap - strict_pot set most x) 0 yes in
        let b' = cond-true (eqb (set.works_in w) k) (set.cap - strict_pot set most (writers w)) 0 yes in
        let c = when_true (eqb (set.home p) k) (context_count set (put book p b) k) (context_count set book k) (places (book p)) (places b)
        (eq-eqb (set.home p) k (its ∙ e)) shift in
        omega arith)
        (λ n. let c = when_false (eqb (set.home p) k) (context_count set (put book p b) k) (context_count set book k) (places (book p)) (places b)
        (ne_eqb (set.home p) k (λ e. n (sym its ∙ e))) shift in
        keeps book (put book p b) writers (put writers w x) (omega arith)
        (put_each writers w x (λ v y. set.works_in v ≡ k → strict_pot set most y ≤ strict_pot set most (writers v)) (λ e. absurd (n e)) (λ v m e. omega arith)) within)

    -- a reading n of the counter y, which is near its exact count
    pub reading : (y : Counter) (n : ℕ) → exact_count set book y ≤ n + set.cpus * batch_of set y → (writers w).left ≤ set.cap
        → IsStrictlyWithin set k most book (put writers w (keeping_reading set w y n (writers w)))
    reading (Domain d) n near fits_cap = one_writer (keeping_reading set w (Domain d) n (writers w)) (λ e. omega arith)
    reading (Context c) n near fits_cap =
        let old : WriterRecord = writers w in
        let new : WriterRecord = record old { context_reading = Some n } in
        let pots = pot_between (fits most old.context_reading) set.cap old.left fits_cap in
        let low = pots.0 in
        cond_both (eqb (set.works_in w) c) new old (λ (z : WriterRecord). IsStrictlyWithin set k most book (put writers w z))
        (λ here. dite (ℕ_discrete (set.works_in w) k)
        (λ e. ⊎_elim
        (λ t. let m = leb-true n most t in
        let its : context_count set book k ≡ context_count set book c = ap (context_count set book) (sym e ∙ eqb-true (set.works_in w) c here) in
        omega arith)
        (λ t. let none = cond-false (leb n most) set.cap old.left t in one_writer new (λ i. omega arith))
        (cases_Bool (leb n most)))
        (λ ne. one_writer new (λ e. absurd (ne e))))
        (λ others. one_writer old (λ e. omega arith))

    -- a grant of at most cap pages to a writer that keeps a small reading
    pub granting : (n : ℕ) → n ≤ set.cap → (set.works_in w ≡ k → fits most (writers w).context_reading ≡ true)
        → IsStrictlyWithin set k most book (put writers w (holding w n))
    granting n small strict = one_writer (holding w n)
        (λ e. let full = cond-true (fits most (writers w).context_reading) set.cap (writers w).left (strict e) in omega arith)
