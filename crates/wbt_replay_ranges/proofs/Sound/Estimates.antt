-- The update of an estimate.
use Rattle.std.proofs.Common.{◌≡◌, ℕ, ◌-◌, ◌^◌, ◌<◌, ◌≤◌, min, Bool, true, false, cond, ltb, leb, ℤ, pos, negsuc, unsigned_abs, [], ◌∷◌, ◌++◌, length, Option, Some, None, refl, sym, ◌∙◌, ap, subst, arith}
use Rattle.std.specs.Prelude.{unwrap_or}
use Rattle.std.proofs.Math.ListN.{set}
use Rattle.std.proofs.lemmas.List.Elements.{All-nil, All-cons}
use Rattle.wbt_replay_order.proofs.Common.{at_least_zero, update_of, updated, Estimate, EstEntry, position_ratio, Trace, sample_of, estimate_to, estimate, State, cpu_of, writeback_of, no_context, ReplayTurn, Writeback, Facts, IsClosed, most_counted, written_of}
use Rattle.wbt_estimate.specs.Estimate.{IsSound, IsInRange, estimate_after, elapsed_since}
use Rattle.wbt_estimate.specs.declared.estimate.Sample.{Sample}
use Rattle.wbt_estimate.proofs.Folding.{stays_sound}
use Rattle.wbt_journal.specs.declared.entry.Entry.TheVariants as entry
use Rattle.wbt_position.specs.declared.ratio.DomainRead.{DomainRead}
use Rattle.wbt_replay_moves.specs.Definition.Estimates.{global_read}
use Rattle.wbt_replay_ranges.proofs.Sound.Going.{Going}
use Rattle.wbt_replay_order.proofs.Lists.Numbered.{sum_part}
use Rattle.wbt_replay_ranges.proofs.Sound.Own.{Free, Done, done_free, logged_going, logged_free, is_set}
use Rattle.wbt_replay_ranges.proofs.Sound.Things.{context_going}

-- ---- what an update makes

ratio_fits : (read : DomainRead) (wb_dirty avg : ℕ) → position_ratio read wb_dirty avg < 2 ^ 32
unfolding position_ratio
ratio_fits read wb_dirty avg = cut (leb read.limits.hard read.dirty) _
  where
    cut : (b : Bool) (n : ℕ) → cond b 0 (min n (2 ^ 32 - 1)) < 2 ^ 32
    cut true n = omega arith
    cut false n = omega arith

update_sound : (old : Estimate) (sample : Sample) (new : Estimate) → update_of old sample ≡ Some new → IsSound old → IsInRange sample → IsSound new
unfolding estimate_after
update_sound old sample new is sound range = subst (λ (o : Option Estimate). IsSound (unwrap_or o old)) is (stays_sound old (sample ∷ []) sound (All-cons IsInRange sample [] range (All-nil IsInRange)))

update_at : (old : Estimate) (sample : Sample) (new : Estimate) → update_of old sample ≡ Some new → new.at ≡ sample.now
unfolding update_of updated
update_at old sample new is = by_age (ltb (elapsed_since old sample) 200) (updated old sample) is refl
  where
    by_age : (b : Bool) (made : Estimate) → cond b None (Some made) ≡ Some new → made.at ≡ sample.now → new.at ≡ sample.now
    by_age true made e at = absurd (cc e)
    by_age false made e at = let same : made ≡ new = cc e in ap (λ (x : Estimate). x.at) (sym same) ∙ at

reading_small : (n : ℤ) → unsigned_abs n ≤ most_counted → at_least_zero n ≤ most_counted
reading_small (pos n) h = h
reading_small (negsuc n) h = omega arith

module _ (trace : Trace) (facts : Facts trace) (i : ℕ) (less : i < trace.cpus) where
  sample_fits : (k : ℕ) (s : State) → Going trace i 0 0 s → k < length trace.contexts → IsInRange (sample_of trace k (cpu_of i s).turn s)
  sample_fits k s g there =
      let t : ReplayTurn = (cpu_of i s).turn in
      let h = (g.holds.cpus.each i less).turn in
      let part = sum_part written_of s.contexts k no_context (omega (arith, there, g.holds.contexts.many)) in
      let total = g.holds.written.total in
      let few = g.holds.few in
      let long = g.holds.long in
      let reading = reading_small t.context.value h.context_count in
      let clock = g.holds.horizon.clock in
      record {
        written = omega (arith, part, total, few, long);
        dirtied = omega (arith, part, total, few, long, reading);
        ratio = ratio_fits (global_read trace k t s) (at_least_zero t.context.value) (writeback_of k s).estimate.avg;
        moment = omega (arith, h.began, clock);
      }

  to_done : (k : ℕ) (found : Option Estimate) (s : State) → update_of (writeback_of k s).estimate (sample_of trace k (cpu_of i s).turn s) ≡ found → k < length trace.contexts → Going trace i 0 0 s → Free trace i 0 s
      → IsClosed trace s.flushers i (cpu_of i s) → Done trace i (estimate_to i k found s)
  to_done k None s is there g free closed = done_free trace i 0 s g closed free
  to_done k (Some new) s is there g free closed =
      let w : Writeback = writeback_of k s in
      let old = g.holds.contexts.each k there in
      let w' : Writeback = record w { estimate = new } in
      let h = (g.holds.cpus.each i less).turn in
      let sample = sample_of trace k (cpu_of i s).turn s in
      let at = update_at w.estimate sample new is in
      let g1 = context_going trace i 0 0 k w' s g (omega (arith, there, g.holds.contexts.many))
      (record { count = old.count; estimate = update_sound w.estimate sample new is old.estimate (sample_fits k s g there); estimated = omega (arith, at, h.began); part = old.part; cgroup_part = old.cgroup_part })
      refl (g.holds.written.part k) (g.holds.written.cgroup_part k) in
      let x : State = record s { contexts = set s.contexts k w' } in
      let est : EstEntry = record { context = k; estimate = new } in
      let es = (cpu_of i s).entries ++ entry.Est (length (cpu_of i s).estimates) ∷ [] in
      let xs = (cpu_of i s).estimates ++ est ∷ [] in
      let logged = logged_going trace facts i less es (cpu_of i s).checks xs 0 0 x g1 in
      let lfree = logged_free trace facts i less es (cpu_of i s).checks xs 0 0 0 x g1 (record { whose = free.whose; fits = free.fits; room = free.room }) in
      done_free trace i 0 (record x { cpus = set x.cpus i (record (cpu_of i s) { entries = es; estimates = xs }) }) logged
      (subst (IsClosed trace s.flushers i) (sym (is_set trace facts i less (record (cpu_of i s) { entries = es; estimates = xs }) 0 0 x g1)) closed) lfree

  pub estimate_done : (k : ℕ) (s : State) → k < length trace.contexts → Going trace i 0 0 s → Free trace i 0 s → IsClosed trace s.flushers i (cpu_of i s) → Done trace i (estimate trace i k s)
  estimate_done k s there g free closed = to_done k (update_of (writeback_of k s).estimate (sample_of trace k (cpu_of i s).turn s)) s refl there g free closed
