-- Behind a gate that stops nobody what finishes is done.
use Rattle.std.proofs.Common.{inl, inr, ◌≡◌, ℕ, Bool, true, List, Option}
use Rattle.wbt_journal.specs.declared.journal.Journal.{Journal}
use Rattle.wbt_run.specs.Running.{IsDone, NeverStops}
use Rattle.wbt_trace.specs.declared.trace.Trace.{Trace}
use Rattle.wbt_top.specs.Threads.{Finishes, OfCommand, Ran}
use Rattle.wbt_top_plain.specs.declared.status.Words.{Words}

-- such a gate says only true
abbrev says_true : (cpu steps : ℕ) (answer : Bool) → Type 0
says_true cpu steps answer = answer ≡ true

pub never_stops : NeverStops says_true
never_stops cpu steps is = absurd (cc is)

is_done : (trace : Trace) (j : Journal) → Finishes says_true trace j → IsDone trace j
is_done trace j (inl done) = done
is_done trace j (inr halted) = let stopped = halted.halted.stopped in absurd (never_stops halted.halted.cpu stopped.steps stopped.answer)

module _ (told : ℕ → Type 0) (pages pages' : Option ℕ) (faults faults' : ℕ) (Wrote : List ℕ → Type 0) where
  run_is_done : (trace : Trace) (text : Journal → List ℕ) → Ran told trace pages pages' faults faults' (Finishes says_true trace) text Wrote → Ran told trace pages pages' faults faults' (IsDone trace) text Wrote
  run_is_done trace text r = record { journal = r.journal; run = r.run; sums = r.sums; cause = is_done trace r.journal r.cause; wrote = r.wrote }

  pub all_is_done : (words : Words) (left : Option (List ℕ)) → OfCommand words left (λ trace text. Ran told trace pages pages' faults faults' (Finishes says_true trace) text Wrote)
      → OfCommand words left (λ trace text. Ran told trace pages pages' faults faults' (IsDone trace) text Wrote)
  all_is_done words left of = record {
    run = λ is. let read = of.run is in (read.0, read.1, run_is_done read.0 _ read.2);
    bulk = λ n is. run_is_done _ _ (of.bulk n is);
  }
