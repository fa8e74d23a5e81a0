-- A run that has ended and isn't cut off leaves nothing, and has told every page of every write.
use Rattle.std.proofs.Common.{◌≡◌, ℕ, suc, ◌+◌, ◌<◌, ◌≤◌, Bool, false, List, [], ◌∷◌, length, get_or, ◌∙◌, ap, arith, ⊎_elim}
use Rattle.std.proofs.lemmas.Bool.{cases_lt}
use Rattle.std.proofs.lemmas.List.Sums.{sum_by-cons}
use Rattle.wbt_replay_order.proofs.Common.{AreFirsts, IsLawful, pages_in, Inode, Trace, Bits, State, HasEnded, CompletesAll, most_moves, state_at, last_state, journal_of, IsPageOf, Sound}
use Rattle.wbt_journal.specs.declared.journal.Ending.TheVariants as ending
use Rattle.wbt_replay_order.proofs.Facts.Facts.{facts}
use Rattle.wbt_replay_order.proofs.Facts.Inodes.{no_inode}
use Rattle.wbt_replay_order.proofs.Facts.Over.{not_cut, all_over}
use Rattle.wbt_replay_ends.proofs.Waiting.Ends.{none_left, none_dirty, none_flying}
use Rattle.wbt_replay_ends.proofs.Waiting.Whole.{waits_at}
use Rattle.wbt_replay_order.proofs.Written.End.{all_written}

-- each page is one of an inode's
covered : (n page : ℕ) (is : List Inode) → AreFirsts n is → n ≤ page → page < n + pages_in is
    → (k : ℕ) × (k < length is) × ((get_or is k no_inode).first ≤ page) × (page < (get_or is k no_inode).first + (get_or is k no_inode).pages)
covered n page [] firsts low high = absurd (omega (arith, low, high))
covered n page (i ∷ is) firsts low high = ⊎_elim
    (λ inside. (0, omega arith, omega (arith, firsts.0, low), omega (arith, firsts.0, inside)))
    (λ past.
    let rest = covered (n + i.pages) page is firsts.1 past (omega (arith, high, sum_by-cons (λ (x : Inode). x.pages) i is)) in
    (suc rest.0, omega (arith, rest.1), rest.2, rest.3))
    (cases_lt page (n + i.pages))

module _ (trace : Trace) (lawful : IsLawful trace) (sound : (moves : ℕ) → Sound trace (state_at trace moves)) (ended : HasEnded trace) where
  pub nothing_left : (journal_of trace).ending ≡ ending.Done → (journal_of trace).left ≡ []
  unfolding journal_of
  nothing_left done =
      let known = facts trace lawful in
      let s : State = last_state trace in
      let here = sound most_moves in
      let waits = waits_at trace known sound most_moves in
      let cut = not_cut s done in
      let over = all_over s ended.0 cut.0 (λ all. omega (arith, all, cut.1, here.holds.cpus.many, known.some_cpu)) in
      none_left s.pages 0 s.book (λ p low high.
      let at = covered 0 p trace.inodes lawful.within.inodes.firsts (omega arith) (omega (arith, high, here.holds.pages)) in
      let page : IsPageOf trace at.0 p = record { there = at.1; after_first = at.2; before_end = at.3 } in
      let dirty : (s.book p).dirty ≡ false = none_dirty trace known s here waits over.0 over.1 cut.1 at.0 p page in
      let flying : (s.book p).writeback ≡ false = none_flying trace known s here waits over.0 over.1 cut.1 p in
      ap {B = Bits} (λ (b : Bool). record { dirty = b; writeback = (s.book p).writeback }) dirty ∙ ap {B = Bits} (λ (b : Bool). record { dirty = false; writeback = b }) flying)

  pub completes_all : CompletesAll trace
  completes_all done = record { left = nothing_left done; written = all_written trace (facts trace lawful) sound ended done }
