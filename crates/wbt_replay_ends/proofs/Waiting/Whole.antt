-- At each moment of a run that is sound at each, what is still to be cleaned waits.
use Rattle.std.proofs.Common.{ℕ, zero, suc, true, false, List, [], length, ⊎_elim, refl, sym, ◌∙◌, ap, subst, arith, ◌≡◌}
use Rattle.std.proofs.lemmas.Bool.{cases_Bool}
use Rattle.std.proofs.lemmas.List.{get_or-replicate}
use Rattle.wbt_replay_order.proofs.Common.{Trace, no_cpu, no_flusher, Cpu, Flusher, opening, first_cpu, first_cpus, first_flusher, first_flushers, is_ended, is_finished, state_at, Facts, Sound, AreBefore, IsPlaced, pairs_in, AreListed, Waiting}
use Rattle.wbt_replay_order.proofs.Growth.Runs.{run_none, run_last, run_stays}
use Rattle.wbt_replay_order.proofs.Outset.Numbered.{numbered_all, numbered_at}
use Rattle.wbt_replay_ends.proofs.Waiting.Moves.{advance_waits}
use Rattle.wbt_replay_ends.proofs.Waiting.Needs.{needs_of}
use Rattle.wbt_replay_order.proofs.Outset.Wheels.{first_empty, first_listed}

opening_waits : (trace : Trace) → Waiting trace (opening trace)
unfolding opening
opening_waits trace = record {
  marked = λ n less is. absurd (cc (sym is ∙ get_or-replicate (length trace.inodes) n false true less));
  dirty = λ n p here is. absurd (cc is);
  flying = λ p is. absurd (cc is);
  turns = λ i less. numbered_all (first_cpus trace) (first_cpu trace) no_cpu refl (λ n. refl) (λ j (c : Cpu). AreBefore trace c.turn.whose c.todo) (λ j. tt) (λ j. tt) trace.cpus i;
  places = λ f less. numbered_all (first_flushers trace) (first_flusher trace) no_flusher refl (λ n. refl) (λ g (x : Flusher). IsPlaced trace g x.phase) (λ g. tt) (λ g. tt) (length trace.flushers) f;
  lists = λ f less. numbered_all (first_flushers trace) (first_flusher trace) no_flusher refl (λ n. refl) (λ g (x : Flusher). AreListed trace g (pairs_in x)) (λ g. first_listed trace g) (λ g. tt) (length trace.flushers) f;
  emptied = λ f less over. numbered_all (first_flushers trace) (first_flusher trace) no_flusher refl (λ n. refl) (λ g (x : Flusher). pairs_in x ≡ []) (λ g. first_empty trace g) (λ g. refl) (length trace.flushers) f;
  served = λ d less some. absurd (omega (arith, some, ap (λ (l : List ℕ). length l) (get_or-replicate (length trace.devices) d [] [] less)));
  going = λ runs f less. ap (λ (x : Flusher). is_finished x.phase) (numbered_at (first_flushers trace) (first_flusher trace) no_flusher refl (λ n. refl) (length trace.flushers) f less);
}

module _ (trace : Trace) (facts : Facts trace) (sound : (moves : ℕ) → Sound trace (state_at trace moves)) where
  pub waits_at : (moves : ℕ) → Waiting trace (state_at trace moves)
  waits_at zero = subst (Waiting trace) (sym (run_none trace 0 (opening trace) refl)) (opening_waits trace)
  waits_at (suc m) = ⊎_elim
      (λ over. subst (Waiting trace) (sym (run_stays trace m (suc m) (opening trace) (omega arith) over)) (waits_at m))
      (λ going.
      subst (Waiting trace) (sym (run_last trace m (suc m) (opening trace) (omega arith) going))
      (advance_waits trace facts (state_at trace m) (needs_of trace (state_at trace m) (sound m)) (waits_at m)))
      (cases_Bool (is_ended (state_at trace m)))
