-- Each kind of step keeps the strict rule.
use Rattle.std.proofs.Common.{◌≡◌, ℕ, ◌+◌, ◌*◌, ◌-◌, ◌≤◌, Bool, true, false, cond, not, eqb, ◌&&◌, ◌||◌, sym, refl, ap, ◌∙◌, subst, arith, eqb-true}
use Rattle.std.proofs.lemmas.Bool.{cond_both}
use Rattle.wbt_counter.specs.declared.counter.Counter.{Counter}
use Rattle.wbt_counter.specs.Sums.{put, one_if}
use Rattle.wbt_counter.specs.Word.{count_in}
use Rattle.wbt_counter.specs.History.{at_least_zero}
use Rattle.wbt_counter.proofs.Counting.{count_is_near}
use Rattle.wbt_book.specs.declared.event.Event.TheVariants as event
use Rattle.wbt_book.specs.Book.{Bits, Book, is_claimable, given_back, bits_after}
use Rattle.wbt_book.proofs.Ledgers as ledgers
use Rattle.wbt_grant.specs.declared.who.Who.TheVariants.{Writer, Cpu, Timer}
use Rattle.wbt_grant.specs.declared.record.WriterRecord.{WriterRecord}
use Rattle.wbt_grant.specs.declared.record.CpuRecord.{CpuRecord}
use Rattle.wbt_grant.specs.Setting.{Setting, IsSetting, batch_of}
use Rattle.wbt_grant.specs.State.{State, context_count, exact_count, account_of, deeds_of, holding, writer_at, held_of}
use Rattle.wbt_grant.specs.Record
use Rattle.wbt_grant.specs.Kinds.{Step, add, fold, clear, count, dirty, look, claim, complete, back, peak, unseal, thresh, publish, first, middle, limits, mark, unmark, grant, shared_now, sequence_now, page_now, with_record, with_event, dirty_step, claim_step, back_step, event_back, last_found, MayDirty, MayClaim, MayGiveBack, Allowed, after}
use Rattle.wbt_grant.specs.Rule.{Rule}
use Rattle.wbt_grant.specs.Seats.{is_by_timer, maker_of, found_by, record_after, look_record, claim_record, back_record}
use Rattle.wbt_grant.proofs.Entries.{writer_number, writers_same, writers_changed}
use Rattle.wbt_grant.proofs.Writers.{reading_number}
use Rattle.wbt_grant.proofs.Known.{of_cpu}
use Rattle.wbt_grant.proofs.Told.{words_are_read}
use Rattle.wbt_strict.specs.Rule.{IsStrictlyWithin, StrictRule}
use Rattle.wbt_strict.specs.Laws.{StepKeepsStrict}
use Rattle.wbt_strict.proofs.Pots as pots

-- steps that leave what writers have

look_writers : (set : Setting) (p found : ℕ) (r : CpuRecord) → (look_record set p found r).writers ≡ r.writers
look_writers set p found r = let bits : Bits = set.coding.page_bits found p in
    cond_both (bits.dirty && bits.writeback) (Record.owing_mark (set.inode p) (Record.passed p r))
    (cond (not bits.dirty || bits.writeback) (Record.passed p r) r) (λ (z : CpuRecord). z.writers ≡ r.writers) (λ t. refl)
    (λ t. cond_both (not bits.dirty || bits.writeback) (Record.passed p r) r (λ (z : CpuRecord). z.writers ≡ r.writers) (λ u. refl) (λ u. refl))

claim_writers : (p found : ℕ) (r : CpuRecord) → (claim_record p found r).writers ≡ r.writers
claim_writers p found r = cond_both (eqb found (last_found r.last)) (Record.claimed p r) r (λ (z : CpuRecord). z.writers ≡ r.writers) (λ t. refl) (λ t. refl)

back_writers : (set : Setting) (p found : ℕ) (r : CpuRecord) → (back_record set p found r).writers ≡ r.writers
back_writers set p found r = let was : Bool = (set.coding.page_bits found p).dirty in
    cond_both (eqb found (last_found r.last)) (Record.page_stepped (Record.given_back set p was r)) r (λ (z : CpuRecord). z.writers ≡ r.writers)
    (λ t. cond_both was (Record.absorbed set p r) (Record.redirtied set p r) (λ (z : CpuRecord). z.writers ≡ r.writers) (λ u. refl) (λ u. refl))
    (λ t. refl)

module _ (set : Setting) (k most : ℕ) (s : State) (ok : IsSetting set) (rule : Rule set s) (within : StrictRule set k most s) where
  -- the record of one CPU changes, but for its writers, and the context has no more pages
  same : (i : ℕ) (r : CpuRecord) → r.writers ≡ (s.cpu i).writers → (book : Book) → context_count set book k ≤ context_count set s.book k
      → IsStrictlyWithin set k most book (writer_at set (put s.cpu i r))
  same i r e book less = subst (λ (f : ℕ → WriterRecord). IsStrictlyWithin set k most book f) (sym (writers_same set s.cpu i r e))
      (pots.keeps set k most s.book book (writer_at set s.cpu) (writer_at set s.cpu) less (λ w t. omega arith) within)

  -- one of its writers changes
  changed : (i : ℕ) (r : CpuRecord) (w : ℕ) (x : WriterRecord) → set.seat w ≡ i → x.writer ≡ w → r.writers ≡ Record.with_writer x (s.cpu i).writers
      → (book : Book) → IsStrictlyWithin set k most book (put (writer_at set s.cpu) w x)
      → IsStrictlyWithin set k most book (writer_at set (put s.cpu i r))
  changed i r w x seat its e book h = subst (λ (f : ℕ → WriterRecord). IsStrictlyWithin set k most book f)
      (sym (writers_changed set s.cpu i r w x seat its e)) h

  -- a step of a CPU, by what it makes of the CPU's record
  by_cpu : (step : Step) → is_by_timer step ≡ false → Allowed set step s
      → ((found : ℕ) (r : CpuRecord) → (record_after set step found r).writers ≡ r.writers)
      → context_count set (after set step s).book k ≤ context_count set s.book k → StrictRule set k most (after set step s)
  by_cpu step by may writers less =
      let its = of_cpu set step s by in
      let i : ℕ = maker_of set step in
      subst (λ (f : ℕ → CpuRecord). IsStrictlyWithin set k most (after set step s).book (writer_at set f)) (sym its.cpus)
      (same i its.new (ap (λ (r : CpuRecord). r.writers) (its.becomes ok rule may) ∙ writers (found_by set step s) (s.cpu i)) (after set step s).book less)

  by_writer : (step : Step) → is_by_timer step ≡ false → Allowed set step s → (w : ℕ) (x : WriterRecord) → set.seat w ≡ maker_of set step → x.writer ≡ w
      → (record_after set step (found_by set step s) (s.cpu (maker_of set step))).writers ≡ Record.with_writer x (s.cpu (maker_of set step)).writers
      → IsStrictlyWithin set k most (after set step s).book (put (writer_at set s.cpu) w x) → StrictRule set k most (after set step s)
  by_writer step by may w x seat its_number writers h =
      let its = of_cpu set step s by in
      let i : ℕ = maker_of set step in
      subst (λ (f : ℕ → CpuRecord). IsStrictlyWithin set k most (after set step s).book (writer_at set f)) (sym its.cpus)
      (changed i its.new w x seat its_number (ap (λ (r : CpuRecord). r.writers) (its.becomes ok rule may) ∙ writers) (after set step s).book h)

  near : (x : Counter) → exact_count set s.book x ≤ at_least_zero (count_in (shared_now x s)) + set.cpus * batch_of set x
  near x = subst (λ (n : ℕ). exact_count set s.book x ≤ n + set.cpus * batch_of set x)
      (ap at_least_zero (sym ((words_are_read set s ok rule).sums x)))
      (count_is_near (batch_of set x) set.cpus (exact_count set s.book x) (s.folds x) (s.own x) (λ i. account_of set x (s.cpu i)) (rule.counted.each x))

  counted : (w : ℕ) (x : Counter) → Allowed set (count (Writer w) x) s → StrictRule set k most (after set (count (Writer w) x) s)
  counted w x may =
      let n : ℕ = at_least_zero (count_in (shared_now x s)) in
      let z : WriterRecord = Record.keeping_reading set w x n (writer_at set s.cpu w) in
      by_writer (count (Writer w) x) refl may w z refl (reading_number set w x n (writer_at set s.cpu w) ∙ writer_number set w (s.cpu (set.seat w)).writers) refl
      (pots.reading set k most s.book (writer_at set s.cpu) within w x n (near x) (rule.within.left_fits w))

  limited : (w d : ℕ) → Allowed set (limits (Writer w) d) s → StrictRule set k most (after set (limits (Writer w) d) s)
  limited w d may =
      let i : ℕ = set.seat w in
      let z : WriterRecord = Record.keeping_limits d (held_of set d (Record.triples_after set d (sequence_now set d s) (s.cpu i))).limits (writer_at set s.cpu w) in
      by_writer (limits (Writer w) d) refl may w z refl (writer_number set w (s.cpu i).writers) refl
      (pots.one_writer set k most s.book (writer_at set s.cpu) within w z (λ e. omega arith))

  dirtied : (w p : ℕ) → MayDirty set w p (s.cpu (set.seat w)) → StrictRule set k most (after set (dirty w p) s)
  dirtied w p may =
      let i : ℕ = set.seat w in
      let b : Bits = bits_after (event.Dirty p) (s.book p) in
      let was : CpuRecord = dirty_step set i p s (Record.found_already p (s.cpu i)) in
      let new : CpuRecord = dirty_step set i p s (Record.dirtied set w p (s.cpu i)) in
      let x : WriterRecord = holding w ((writer_at set s.cpu w).left - 1) in
      cond_both (s.book p).dirty (with_record i was s) (with_event (event.Dirty p) p (with_record i new s)) (λ (z : State). StrictRule set k most z)
      (λ t. same i was refl s.book (omega arith))
      (λ t. let none : one_if (s.book p).dirty ≡ 0 = ap one_if t in
      changed i new w x refl refl refl (put s.book p b)
      (pots.one_page set k most s.book (writer_at set s.cpu) within w p b may.page_is may.writer_is may.its_context may.some_left (rule.within.left_fits w) (omega arith)))

  claimed : (i p : ℕ) → MayClaim set i p (s.cpu i) → StrictRule set k most (after set (claim i p) s)
  claimed i p may =
      let b : Bits = bits_after (event.Claim p) (s.book p) in
      let r : CpuRecord = claim_step set p s (Record.claimed p (s.cpu i)) in
      let miss : CpuRecord = claim_step set p s (s.cpu i) in
      cond_both (eqb (page_now set p s) (last_found (s.cpu i).last)) (with_event (event.Claim p) p (with_record i r s)) (with_record i miss s)
      (λ (z : State). StrictRule set k most z)
      (λ t. let as_found = eqb-true (page_now set p s) (last_found (s.cpu i).last) t in
      let is : set.coding.page_bits (last_found (s.cpu i).last) p ≡ s.book p = ap (λ (n : ℕ). set.coding.page_bits n p)
      (sym as_found) ∙ ok.words_hold s.book p may.page_is in
      let both = ledgers.claimable_bits (s.book p).dirty (s.book p).writeback (ap is_claimable (sym is) ∙ may.found_claimable) in
      let one = both.0 in
      same i r refl (put s.book p b) (pots.fewer set k s.book p b may.page_is (omega arith)))
      (λ t. same i miss refl s.book (omega arith))

  back_bits : (p : ℕ) (was_dirty : Bool) → bits_after (cond was_dirty (event.Absorb p) (event.Redirty p)) (s.book p) ≡ given_back
  back_bits p true = refl
  back_bits p false = refl

  given_writers : (p : ℕ) (was_dirty : Bool) (r : CpuRecord) → (Record.given_back set p was_dirty r).writers ≡ r.writers
  given_writers p true r = refl
  given_writers p false r = refl

  returned : (i p : ℕ) → MayGiveBack set i p (s.cpu i) → StrictRule set k most (after set (back i p) s)
  returned i p may =
      let was : Bool = (s.book p).dirty in
      let r : CpuRecord = back_step set p s (Record.page_stepped (Record.given_back set p was (s.cpu i))) in
      let miss : CpuRecord = back_step set p s (s.cpu i) in
      let under : one_if (s.book p).writeback ≡ 1 = ap one_if
      (ledgers.held_is_under_writeback set.cpus s.book (λ j. deeds_of (s.cpu j)) i p rule.ledger may.cpu_is may.holds_it) in
      cond_both (eqb (page_now set p s) (last_found (s.cpu i).last)) (with_event (event_back p (s.book p)) p (with_record i r s)) (with_record i miss s)
      (λ (z : State). StrictRule set k most z)
      (λ t. same i r (given_writers p was (s.cpu i)) (put s.book p (bits_after (event_back p (s.book p)) (s.book p)))
      (subst (λ (b : Bits). context_count set (put s.book p b) k ≤ context_count set s.book k) (sym (back_bits p was))
      (pots.fewer set k s.book p given_back may.page_is (omega arith))))
      (λ t. same i miss refl s.book (omega arith))

pub step_keeps_strict : StepKeepsStrict
step_keeps_strict set k most (add i x) s ok rule may strict within = by_cpu set k most s ok rule within (add i x) refl may (λ found r. refl) (omega arith)
step_keeps_strict set k most (fold i x) s ok rule may strict within = by_cpu set k most s ok rule within (fold i x) refl may (λ found r. refl) (omega arith)
step_keeps_strict set k most (clear i x) s ok rule may strict within = by_cpu set k most s ok rule within (clear i x) refl may (λ found r. refl) (omega arith)
step_keeps_strict set k most (count (Writer w) x) s ok rule may strict within = counted set k most s ok rule within w x may
step_keeps_strict set k most (count (Cpu i) x) s ok rule may strict within =
    by_cpu set k most s ok rule within (count (Cpu i) x) refl may (λ found r. refl) (omega arith)
step_keeps_strict set k most (count Timer x) s ok rule may strict within = within
step_keeps_strict set k most (dirty w p) s ok rule may strict within = dirtied set k most s ok rule within w p may
step_keeps_strict set k most (look i p) s ok rule may strict within =
    by_cpu set k most s ok rule within (look i p) refl may (λ found r. look_writers set p found r) (omega arith)
step_keeps_strict set k most (claim i p) s ok rule may strict within = claimed set k most s ok rule within i p may
step_keeps_strict set k most (complete i p) s ok rule may strict within =
    by_cpu set k most s ok rule within (complete i p) refl may (λ found r. refl)
    (pots.fewer set k s.book p (bits_after (event.Complete p) (s.book p)) may.page_is (omega arith))
step_keeps_strict set k most (back i p) s ok rule may strict within = returned set k most s ok rule within i p may
step_keeps_strict set k most (peak d hard) s ok rule may strict within = within
step_keeps_strict set k most (unseal d) s ok rule may strict within = within
step_keeps_strict set k most (thresh d triple) s ok rule may strict within = within
step_keeps_strict set k most (publish d triple) s ok rule may strict within = within
step_keeps_strict set k most (first i d) s ok rule may strict within = by_cpu set k most s ok rule within (first i d) refl may (λ found r. refl) (omega arith)
step_keeps_strict set k most (middle i d) s ok rule may strict within = by_cpu set k most s ok rule within (middle i d) refl may (λ found r. refl) (omega arith)
step_keeps_strict set k most (limits (Writer w) d) s ok rule may strict within = limited set k most s ok rule within w d may
step_keeps_strict set k most (limits (Cpu i) d) s ok rule may strict within =
    by_cpu set k most s ok rule within (limits (Cpu i) d) refl may (λ found r. refl) (omega arith)
step_keeps_strict set k most (limits Timer d) s ok rule may strict within = within
step_keeps_strict set k most (mark i n) s ok rule may strict within = by_cpu set k most s ok rule within (mark i n) refl may (λ found r. refl) (omega arith)
step_keeps_strict set k most (unmark i n) s ok rule may strict within = by_cpu set k most s ok rule within (unmark i n) refl may (λ found r. refl) (omega arith)
step_keeps_strict set k most (grant w pages) s ok rule may strict within =
    by_writer set k most s ok rule within (grant w pages) refl may w (holding w pages) refl refl refl
    (pots.granting set k most s.book (writer_at set s.cpu) within w pages may.at_most_cap strict)
