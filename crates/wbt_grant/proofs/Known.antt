-- What is known of each kind of step: one row a kind, from which the laws over all kinds follow.
use Rattle.std.proofs.Common.{◌≡◌, ℕ, suc, ◌+◌, Bool, true, false, cond, eqb, not, ◌&&◌, ◌||◌, length, ℤ, ◌+ℤ◌, sym, refl, ap, ◌∙◌, arith, true≢false}
use Rattle.std.proofs.lemmas.Bool.{cond_both}
use Rattle.wbt_counter.specs.declared.counter.Counter.{Counter}
use Rattle.wbt_counter.specs.Sums.{put}
use Rattle.wbt_counter.specs.Word.{version_in, count_in}
use Rattle.wbt_counter.specs.Account.{amount}
use Rattle.wbt_counter.specs.History.{sum_of}
use Rattle.wbt_counter.specs.Counters.{debt_to}
use Rattle.wbt_book.specs.Book.{Bits, is_claimable}
use Rattle.wbt_book.specs.Ledger.{times_in}
use Rattle.wbt_grant.specs.declared.who.StepKind.{StepKind}
use Rattle.wbt_grant.specs.declared.who.StepKind.TheVariants as kind
use Rattle.wbt_grant.specs.declared.who.Word.TheVariants as word
use Rattle.wbt_grant.specs.declared.who.Who.{Who}
use Rattle.wbt_grant.specs.declared.who.Who.TheVariants.{Writer, Cpu, Timer}
use Rattle.wbt_grant.specs.declared.record.CpuRecord.{CpuRecord}
use Rattle.wbt_grant.specs.Setting.{Setting, IsSetting, batch_of}
use Rattle.wbt_grant.specs.State.{State, writer_at, found_of, stage_of, is_sealed, sequence_of}
use Rattle.wbt_grant.specs.Bound.{is_let_through}
use Rattle.wbt_grant.specs.Record
use Rattle.wbt_grant.specs.Kinds.{Step, add, fold, clear, count, dirty, look, claim, complete, back, peak, unseal, thresh, publish, first, middle, limits, mark, unmark, grant, own_now, shared_now, page_now, last_found, last_raised, has_sequence, has_both, Allowed, after}
use Rattle.wbt_grant.specs.Rule.{Rule}
use Rattle.wbt_grant.specs.Effects.{effect}
use Rattle.wbt_grant.specs.Seats.{is_by_timer, maker_of, found_by, record_after, timer_after, RecordAllows, TimerAllows, told_in, is_untold}
use Rattle.wbt_grant.specs.SeatLaws.{WordsTell}
use Rattle.wbt_grant.specs.Conditions.{looked_at}
use Rattle.wbt_grant.specs.Tests.{may}
use Rattle.wbt_grant.specs.Refused.{is_step, looks_at}
use Rattle.wbt_grant.specs.Laws.{Keeps}
use Rattle.wbt_grant.proofs.Conditions.{Decides, both, said, itself, less, no_more, equal, event_is_owed, fold_is_owed, clear_is_owed, ready, who_is, looked, at_most_some, drafted, fails, lawful, in_each}
use Rattle.wbt_grant.proofs.Told.{words_are_read, own_is_told}
use Rattle.wbt_grant.proofs.CounterSteps as counters
use Rattle.wbt_grant.proofs.PageSteps as pages
use Rattle.wbt_grant.proofs.LimitSteps as of_limits
use Rattle.wbt_grant.proofs.InodeSteps as inodes

-- a step of a CPU: whatever the state, the CPU's record becomes a new one and no other changes; the new one names the step as its
-- last; by the rule it is what the old one and the found number say; and where the step may be made its record says
pub record CpuStep (set : Setting) (step : Step) (s : State) : Type 0 where
  pub new : CpuRecord
  pub cpus : ◌≡◌ {A = ℕ → CpuRecord} (after set step s).cpu (put s.cpu (maker_of set step) new)
  pub timer : (after set step s).timer ≡ s.timer
  pub named : (p : ℕ) → is_step (effect step).access ≡ true → looked_at p new.last ≡ looks_at p step
  pub becomes : IsSetting set → Rule set s → Allowed set step s
      → new ≡ record_after set step (found_by set step s) (s.cpu (maker_of set step))
  pub allowed : (RecordAllows set step (s.cpu (maker_of set step)) → Allowed set step s)
      × (Allowed set step s → RecordAllows set step (s.cpu (maker_of set step)))

-- and one of the timer
pub record TimerStep (set : Setting) (step : Step) (s : State) : Type 0 where
  pub cpus : ◌≡◌ {A = ℕ → CpuRecord} (after set step s).cpu s.cpu
  pub becomes : IsSetting set → Rule set s → (after set step s).timer ≡ timer_after step (found_by set step s) s.timer
  pub allowed : (TimerAllows set step s.timer → Allowed set step s) × (Allowed set step s → TimerAllows set step s.timer)

pub data Made (set : Setting) (step : Step) : Type 0 where
  by_cpu : is_by_timer step ≡ false → ((s : State) → CpuStep set step s) → Made set step
  by_timer : is_by_timer step ≡ true → ((s : State) → TimerStep set step s) → Made set step

pub record Known (set : Setting) (step : Step) : Type 0 where
  pub made : Made set step
  pub decided : (s : State) → Decides (may set step s) (Allowed set step s)
  pub untold : (found : ℕ) (r : CpuRecord) → is_untold step found r ≡ true → told_in (record_after set step found r) ≡ told_in r
  pub keeps : Keeps set step

-- how each kind of step is made

module _ (set : Setting) (s : State) where
  words : IsSetting set → Rule set s → WordsTell set s
  words ok rule = words_are_read set s ok rule

  add_made : (i : ℕ) (x : Counter) → CpuStep set (add i x) s
  add_made i x = record {
    new = _;
    cpus = refl;
    timer = refl;
    named = λ p t. refl;
    becomes = λ ok rule can. ap (λ (z : ℤ). Record.stepped kind.Add (word.Own x) (own_now x i s)
        (Record.added (batch_of set x) x (z +ℤ amount (debt_to x (s.cpu i).debts)) (s.cpu i))) (sym ((words ok rule).own x i));
    allowed = (λ h. h, λ h. h);
  }

  fold_made : (i : ℕ) (x : Counter) → CpuStep set (fold i x) s
  fold_made i x = record {
    new = _;
    cpus = refl;
    timer = refl;
    named = λ p t. refl;
    becomes = λ ok rule can.
        let n : ℕ = shared_now x s in
        let is = (words ok rule).versions x in
        let version : suc (length (s.folds x)) ≡ version_in n + 1 = omega arith in
        ap (λ (v : ℕ). Record.stepped kind.Fold (word.Shared x) n (Record.folded x v (s.own x i) (s.cpu i))) version
        ∙ ap (λ (z : ℤ). Record.stepped kind.Fold (word.Shared x) n (Record.folded x (version_in n + 1) z (s.cpu i)))
        (own_is_told set s rule i x).told;
    allowed = (λ h. h, λ h. h);
  }

  counted_known : (who : Who) (x : Counter) (r : CpuRecord) → IsSetting set → Rule set s
      → Record.counted set who x (length (s.folds x)) (sum_of (s.folds x)) r
      ≡ Record.counted set who x (version_in (shared_now x s)) (count_in (shared_now x s)) r
  counted_known who x r ok rule =
      ap (λ (v : ℕ). Record.counted set who x v (sum_of (s.folds x)) r) (sym ((words ok rule).versions x))
      ∙ ap (λ (z : ℤ). Record.counted set who x (version_in (shared_now x s)) z r) (sym ((words ok rule).sums x))

  dirty_made : (w p : ℕ) → CpuStep set (dirty w p) s
  dirty_made w p =
      let i : ℕ = set.seat w in
      let n : ℕ = page_now set p s in
      let r : CpuRecord = s.cpu i in
      let by_bit = λ (b : Bool). Record.stepped kind.Dirty (word.Page p) n (Record.page_stepped (cond b (Record.found_already p r) (Record.dirtied set w p r))) in
      let both_are = cond_both (s.book p).dirty _ _ (λ (z : State). (◌≡◌ {A = ℕ → CpuRecord} z.cpu (put s.cpu i (by_bit (s.book p).dirty))) × (z.timer ≡ s.timer))
      (λ t. (ap (λ (b : Bool). put s.cpu i (by_bit b)) (sym t), refl)) (λ t. (ap (λ (b : Bool). put s.cpu i (by_bit b)) (sym t), refl)) in
      record {
        new = by_bit (s.book p).dirty;
        cpus = both_are.0;
        timer = both_are.1;
        named = λ q t. refl;
        becomes = λ ok rule can. ap by_bit (sym (ap (λ (b : Bits). b.dirty) ((words ok rule).pages p can.page_is)));
        allowed = (λ h. h, λ h. h);
      }

  look_made : (i p : ℕ) → CpuStep set (look i p) s
  look_made i p = record {
    new = _;
    cpus = refl;
    timer = refl;
    named = λ q t. refl;
    becomes = λ ok rule can. ap (λ (b : Bits). Record.stepped kind.Look (word.Page p) (page_now set p s) (Record.looked set p b (s.cpu i)))
        (sym ((words ok rule).pages p can.page_is));
    allowed = (λ h. h, λ h. h);
  }

  claim_made : (i p : ℕ) → CpuStep set (claim i p) s
  claim_made i p =
      let n : ℕ = page_now set p s in
      let r : CpuRecord = s.cpu i in
      let hits : Bool = eqb n (last_found r.last) in
      let by_test = λ (b : Bool). Record.stepped kind.Claim (word.Page p) n (cond b (Record.claimed p r) r) in
      let both_are = cond_both hits _ _ (λ (z : State). (◌≡◌ {A = ℕ → CpuRecord} z.cpu (put s.cpu i (by_test hits))) × (z.timer ≡ s.timer))
      (λ t. (ap (λ (b : Bool). put s.cpu i (by_test b)) (sym t), refl)) (λ t. (ap (λ (b : Bool). put s.cpu i (by_test b)) (sym t), refl)) in
      record {
        new = by_test hits;
        cpus = both_are.0;
        timer = both_are.1;
        named = λ q t. refl;
        becomes = λ ok rule can. refl;
        allowed = (λ h. h, λ h. h);
      }

  back_made : (i p : ℕ) → CpuStep set (back i p) s
  back_made i p =
      let n : ℕ = page_now set p s in
      let r : CpuRecord = s.cpu i in
      let hits : Bool = eqb n (last_found r.last) in
      let by_test = λ (b was_dirty : Bool). Record.stepped kind.Back (word.Page p) n (cond b (Record.page_stepped (Record.given_back set p was_dirty r)) r) in
      let by_hit = λ (b : Bool). put s.cpu i (by_test b (s.book p).dirty) in
      let both_are = cond_both hits _ _ (λ (z : State). (◌≡◌ {A = ℕ → CpuRecord} z.cpu (by_hit hits)) × (z.timer ≡ s.timer))
      (λ t. (ap by_hit (sym t), refl)) (λ t. (ap by_hit (sym t), refl)) in
      record {
        new = by_test hits (s.book p).dirty;
        cpus = both_are.0;
        timer = both_are.1;
        named = λ q t. refl;
        becomes = λ ok rule can. ap (by_test hits) (sym (ap (λ (b : Bits). b.dirty) ((words ok rule).pages p can.page_is)));
        allowed = (λ h. h, λ h. h);
      }

  -- where the new record is just what the old one and the found number say
  plainly : (step : Step) → ◌≡◌ {A = ℕ → CpuRecord} (after set step s).cpu
      (put s.cpu (maker_of set step) (record_after set step (found_by set step s) (s.cpu (maker_of set step))))
      → (after set step s).timer ≡ s.timer
      → ((p : ℕ) → is_step (effect step).access ≡ true
      → looked_at p (record_after set step (found_by set step s) (s.cpu (maker_of set step))).last ≡ looks_at p step)
      → (RecordAllows set step (s.cpu (maker_of set step)) → Allowed set step s)
      × (Allowed set step s → RecordAllows set step (s.cpu (maker_of set step))) → CpuStep set step s
  plainly step cpus timer named allowed = record {
    new = record_after set step (found_by set step s) (s.cpu (maker_of set step));
    cpus = cpus;
    timer = timer;
    named = named;
    becomes = λ ok rule can. refl;
    allowed = allowed;
  }

count_made : (set : Setting) (who : Who) (x : Counter) → Made set (count who x)
count_made set (Writer w) x = by_cpu refl (λ s. record {
  new = _;
  cpus = refl;
  timer = refl;
  named = λ p t. refl;
  becomes = λ ok rule can. ap (Record.stepped kind.Count (word.Shared x) (shared_now x s)) (counted_known set s (Writer w) x (s.cpu (set.seat w)) ok rule);
  allowed = (λ h. h, λ h. h);
})
count_made set (Cpu i) x = by_cpu refl (λ s. record {
  new = _;
  cpus = refl;
  timer = refl;
  named = λ p t. refl;
  becomes = λ ok rule can. ap (Record.stepped kind.Count (word.Shared x) (shared_now x s)) (counted_known set s (Cpu i) x (s.cpu i) ok rule);
  allowed = (λ h. h, λ h. h);
})
count_made set Timer x = by_timer refl (λ s. record {
  cpus = refl;
  becomes = λ ok rule.
      let n : ℕ = shared_now x s in
      let step = Record.timer_stepped kind.Count (word.Shared x) n in
      ap (λ (v : ℕ). step (Record.timer_counted x v (sum_of (s.folds x)) s.timer)) (sym ((words set s ok rule).versions x))
      ∙ ap (λ (z : ℤ). step (Record.timer_counted x (version_in n) z s.timer)) (sym ((words set s ok rule).sums x));
  allowed = (λ h. tt, λ h. refl);
})

limits_made : (set : Setting) (who : Who) (d : ℕ) → Made set (limits who d)
limits_made set (Writer w) d = by_cpu refl (λ s. plainly set s (limits (Writer w) d) refl refl (λ p t. refl) (λ h. h, λ h. h))
limits_made set (Cpu i) d = by_cpu refl (λ s. plainly set s (limits (Cpu i) d) refl refl (λ p t. refl) (λ h. h, λ h. h))
limits_made set Timer d = by_timer refl (λ s. record { cpus = refl; becomes = λ ok rule. refl; allowed = (λ h. h, λ h. h) })

-- where each kind of step may be made

module _ (set : Setting) (s : State) where
  dirty_decided : (w p : ℕ) → Decides (may set (dirty w p) s) (Allowed set (dirty w p) s)
  dirty_decided w p = said
      (λ h. record { writer_is = h.0; page_is = h.1.0; its_context = h.1.1.0; some_left = h.1.1.1.0; ready = h.1.1.1.1 })
      (λ h. (h.writer_is, (h.page_is, (h.its_context, (h.some_left, h.ready)))))
      (both (less w set.writers) (both (less p set.pages) (both (equal (set.home p) (set.works_in w))
      (both (less 0 (writer_at set s.cpu w).left) (ready set (set.seat w) s)))))

  claim_decided : (i p : ℕ) → Decides (may set (claim i p) s) (Allowed set (claim i p) s)
  claim_decided i p = said (λ h. record { cpu_is = h.0; page_is = h.1.0; looked = h.1.1.0; found_claimable = h.1.1.1 })
      (λ h. (h.cpu_is, (h.page_is, (h.looked, h.found_claimable))))
      (both (less i set.cpus) (both (less p set.pages) (both (looked p (s.cpu i).last)
      (itself (is_claimable (set.coding.page_bits (last_found (s.cpu i).last) p))))))

  complete_decided : (i p : ℕ) → Decides (may set (complete i p) s) (Allowed set (complete i p) s)
  complete_decided i p = said (λ h. record { cpu_is = h.0; page_is = h.1.0; holds_it = h.1.1.0; ready = h.1.1.1 })
      (λ h. (h.cpu_is, (h.page_is, (h.holds_it, h.ready))))
      (both (less i set.cpus) (both (less p set.pages) (both (less 0 (times_in p (s.cpu i).held)) (ready set i s))))

  back_decided : (i p : ℕ) → Decides (may set (back i p) s) (Allowed set (back i p) s)
  back_decided i p = said (λ h. record { cpu_is = h.0; page_is = h.1.0; looked = h.1.1.0; holds_it = h.1.1.1.0; ready = h.1.1.1.1 })
      (λ h. (h.cpu_is, (h.page_is, (h.looked, (h.holds_it, h.ready)))))
      (both (less i set.cpus) (both (less p set.pages) (both (looked p (s.cpu i).last)
      (both (less 0 (times_in p (s.cpu i).held)) (ready set i s)))))

  limits_decided : (who : Who) (d : ℕ) → Decides (may set (limits who d) s) (Allowed set (limits who d) s)
  limits_decided (Writer w) d = said (λ h. record { loader = h.0; both_found = h.1 }) (λ h. (h.loader, h.both_found))
      (both (less w set.writers) (itself (has_both (found_of d (s.cpu (set.seat w)).loading))))
  limits_decided (Cpu i) d = said (λ h. record { loader = h.0; both_found = h.1 }) (λ h. (h.loader, h.both_found))
      (both (less i set.cpus) (itself (has_both (found_of d (s.cpu i).loading))))
  limits_decided Timer d = record { holds = λ t. true≢false (sym t); passes = λ h. absurd h }

  grant_decided : (w pages : ℕ) → Decides (may set (grant w pages) s) (Allowed set (grant w pages) s)
  grant_decided w pages = said
      (λ h. record { writer_is = h.0; at_least_one = h.1.0; at_most_cap = h.1.1.0; let_through = h.1.1.1 })
      (λ h. (h.writer_is, (h.at_least_one, (h.at_most_cap, h.let_through))))
      (both (less w set.writers) (both (no_more 1 pages) (both (no_more pages set.cap)
      (in_each set (set.works_in w) (λ d. is_let_through set d (writer_at set s.cpu w))))))

-- what each kind of step leaves untold

look_untold : (set : Setting) (p found : ℕ) (r : CpuRecord) (bits : Bits)
    → told_in (Record.stepped kind.Look (word.Page p) found (Record.looked set p bits r)) ≡ told_in r
look_untold set p found r bits = cond_both (bits.dirty && bits.writeback) _ _ (λ (z : CpuRecord). told_in z ≡ told_in r) (λ t. refl)
    (λ t. cond_both (not bits.dirty || bits.writeback) _ _ (λ (z : CpuRecord). told_in z ≡ told_in r) (λ u. refl) (λ u. refl))

miss_untold : (kind : StepKind) (p found : ℕ) (hit r : CpuRecord) (hits : Bool) → not hits ≡ true
    → told_in (Record.stepped kind (word.Page p) found (cond hits hit r)) ≡ told_in r
miss_untold kind p found hit r true misses = absurd (true≢false (sym misses))
miss_untold kind p found hit r false misses = refl

-- the table of all kinds

pub known : (set : Setting) (step : Step) → Known set step
known set (add i x) = record {
  made = by_cpu refl (λ s. add_made set s i x);
  decided = λ s. said (λ h. record { cpu_is = h.0; event_owed = h.1 }) (λ h. (h.cpu_is, h.event_owed))
      (both (less i set.cpus) (event_is_owed (debt_to x (s.cpu i).debts)));
  untold = λ found r t. refl;
  keeps = counters.add_keeps set i x;
}
known set (fold i x) = record {
  made = by_cpu refl (λ s. fold_made set s i x);
  decided = λ s. said (λ h. record { cpu_is = h.0; fold_owed = h.1 }) (λ h. (h.cpu_is, h.fold_owed))
      (both (less i set.cpus) (fold_is_owed (debt_to x (s.cpu i).debts)));
  untold = λ found r t. absurd (true≢false (sym t));
  keeps = counters.fold_keeps set i x;
}
known set (clear i x) = record {
  made = by_cpu refl (λ s. plainly set s (clear i x) refl refl (λ p t. refl) (λ h. h, λ h. h));
  decided = λ s. said (λ h. record { cpu_is = h.0; clear_owed = h.1 }) (λ h. (h.cpu_is, h.clear_owed))
      (both (less i set.cpus) (clear_is_owed (debt_to x (s.cpu i).debts)));
  untold = λ found r t. refl;
  keeps = counters.clear_keeps set i x;
}
known set (count who x) = record {
  made = count_made set who x;
  decided = λ s. who_is set who;
  untold = λ found r t. absurd (true≢false (sym t));
  keeps = counters.count_keeps set who x;
}
known set (dirty w p) = record {
  made = by_cpu refl (λ s. dirty_made set s w p);
  decided = λ s. dirty_decided set s w p;
  untold = λ found r t. absurd (true≢false (sym t));
  keeps = pages.dirty_keeps set w p;
}
known set (look i p) = record {
  made = by_cpu refl (λ s. look_made set s i p);
  decided = λ s. said (λ h. record { cpu_is = h.0; page_is = h.1 }) (λ h. (h.cpu_is, h.page_is)) (both (less i set.cpus) (less p set.pages));
  untold = λ found r t. look_untold set p found r (set.coding.page_bits found p);
  keeps = pages.look_keeps set i p;
}
known set (claim i p) = record {
  made = by_cpu refl (λ s. claim_made set s i p);
  decided = λ s. claim_decided set s i p;
  untold = λ found r t. miss_untold kind.Claim p found (Record.claimed p r) r (eqb found (last_found r.last)) t;
  keeps = pages.claim_keeps set i p;
}
known set (complete i p) = record {
  made = by_cpu refl (λ s. plainly set s (complete i p) refl refl (λ q t. refl) (λ h. h, λ h. h));
  decided = λ s. complete_decided set s i p;
  untold = λ found r t. absurd (true≢false (sym t));
  keeps = pages.complete_keeps set i p;
}
known set (back i p) = record {
  made = by_cpu refl (λ s. back_made set s i p);
  decided = λ s. back_decided set s i p;
  untold = λ found r t. miss_untold kind.Back p found
      (Record.page_stepped (Record.given_back set p (set.coding.page_bits found p).dirty r)) r (eqb found (last_found r.last)) t;
  keeps = pages.back_keeps set i p;
}
known set (peak d hard) = record {
  made = by_timer refl (λ s. record { cpus = refl; becomes = λ ok rule. refl; allowed = (λ h. h, λ h. h) });
  decided = λ s. record { holds = λ t. tt; passes = λ h. refl };
  untold = λ found r t. refl;
  keeps = of_limits.peak_keeps set d hard;
}
known set (unseal d) = record {
  made = by_timer refl (λ s. record { cpus = refl; becomes = λ ok rule. refl; allowed = (λ h. h, λ h. h) });
  decided = λ s. said (λ h. record { sealed = h.0; room = h.1 }) (λ h. (h.sealed, h.room))
      (both (itself (is_sealed (stage_of d s.timer.drafts))) (less (sequence_of s.timer d) set.last_sequence));
  untold = λ found r t. refl;
  keeps = of_limits.unseal_keeps set d;
}
known set (thresh d triple) = record {
  made = by_timer refl (λ s. record { cpus = refl; becomes = λ ok rule. refl; allowed = (λ h. h, λ h. h) });
  decided = λ s. said (λ h. record { unsealed = h.0; lawful = h.1.0; raised_before = h.1.1 }) (λ h. (h.unsealed, (h.lawful, h.raised_before)))
      (both (fails (is_sealed (stage_of d s.timer.drafts))) (both (lawful triple) (at_most_some triple.hard (last_raised d s.timer.raised))));
  untold = λ found r t. refl;
  keeps = of_limits.thresh_keeps set d triple;
}
known set (publish d triple) = record {
  made = by_timer refl (λ s. record { cpus = refl; becomes = λ ok rule. refl; allowed = (λ h. h, λ h. h) });
  decided = λ s. said (λ h. record { in_hand = h }) (λ h. h.in_hand) (drafted triple (stage_of d s.timer.drafts));
  untold = λ found r t. refl;
  keeps = of_limits.publish_keeps set d triple;
}
known set (first i d) = record {
  made = by_cpu refl (λ s. plainly set s (first i d) refl refl (λ p t. refl) (λ h. h, λ h. h));
  decided = λ s. said (λ h. record { cpu_is = h }) (λ h. h.cpu_is) (less i set.cpus);
  untold = λ found r t. refl;
  keeps = of_limits.first_keeps set i d;
}
known set (middle i d) = record {
  made = by_cpu refl (λ s. plainly set s (middle i d) refl refl (λ p t. refl) (λ h. h, λ h. h));
  decided = λ s. said (λ h. record { cpu_is = h.0; first_found = h.1 }) (λ h. (h.cpu_is, h.first_found))
      (both (less i set.cpus) (itself (has_sequence (found_of d (s.cpu i).loading))));
  untold = λ found r t. refl;
  keeps = of_limits.middle_keeps set i d;
}
known set (limits who d) = record {
  made = limits_made set who d;
  decided = λ s. limits_decided set s who d;
  untold = λ found r t. absurd (true≢false (sym t));
  keeps = of_limits.limits_keep set who d;
}
known set (mark i n) = record {
  made = by_cpu refl (λ s. plainly set s (mark i n) refl refl (λ p t. refl) (λ h. h, λ h. h));
  decided = λ s. said (λ h. record { cpu_is = h }) (λ h. h.cpu_is) (less i set.cpus);
  untold = λ found r t. refl;
  keeps = inodes.mark_keeps set i n;
}
known set (unmark i n) = record {
  made = by_cpu refl (λ s. plainly set s (unmark i n) refl refl (λ p t. refl) (λ h. h, λ h. h));
  decided = λ s. said (λ h. record { cpu_is = h }) (λ h. h.cpu_is) (less i set.cpus);
  untold = λ found r t. refl;
  keeps = inodes.unmark_keeps set i n;
}
known set (grant w pages) = record {
  made = by_cpu refl (λ s. plainly set s (grant w pages) refl refl (λ p t. absurd (true≢false (sym t))) (λ h. h, λ h. h));
  decided = λ s. grant_decided set s w pages;
  untold = λ found r t. refl;
  keeps = of_limits.grant_keeps set w pages;
}

-- who makes a step, its effect says

pub of_cpu : (set : Setting) (step : Step) (s : State) → is_by_timer step ≡ false → CpuStep set step s
of_cpu set step s by = elim (known set step).made as (λ m. CpuStep set step s)
    [ by_cpu its of ↦ of s | by_timer its of ↦ absurd (true≢false (sym its ∙ by)) ]

pub of_timer : (set : Setting) (step : Step) (s : State) → is_by_timer step ≡ true → TimerStep set step s
of_timer set step s by = elim (known set step).made as (λ m. TimerStep set step s)
    [ by_cpu its of ↦ absurd (true≢false (sym by ∙ its)) | by_timer its of ↦ of s ]
