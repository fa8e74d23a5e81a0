-- What an entry of a CPU's part names: it is there, and it is the CPU's own.
use Rattle.std.specs.Prelude.{◌≡◌, ℕ, true, nat_lt, None, IfSome}
use Rattle.wbt_trace.specs.declared.trace.Trace.{Trace}
use Rattle.wbt_counter.specs.declared.record.Fold.{Fold}
use Rattle.wbt_journal.specs.Counts.{reads_of}
use Rattle.wbt_journal.specs.Each.{Each}
use Rattle.wbt_journal.specs.Effects.{Flight, Share, Wait, Write, effect}
use Rattle.wbt_journal.specs.Flights.{MeetsChunk, is_own_flusher}
use Rattle.wbt_journal.specs.Machine.{domains, contexts, has_counter}
use Rattle.wbt_journal.specs.Pages.{NamesPage}
use Rattle.wbt_journal.specs.Reads.{IsShare}
use Rattle.wbt_journal.specs.Side.{is_own_task}
use Rattle.wbt_journal.specs.Told.{Told}
use Rattle.wbt_journal.specs.declared.entry.CheckEntry.{CheckEntry}
use Rattle.wbt_journal.specs.declared.entry.EstEntry.{EstEntry}
use Rattle.wbt_rules.specs.Flusher.{chunk_at}

-- a check of a task of the CPU, in a context and of domains that there are
pub record IsOwnCheck (trace : Trace) (cpu : ℕ) (check : CheckEntry) : Type 0 where
  pub own : is_own_task trace cpu check.task ≡ true
  pub context : nat_lt check.context (contexts trace) ≡ true
  pub each_domain : Each (λ read. nat_lt read.domain (domains trace) ≡ true) (reads_of check)

-- a flusher of the CPU, with a page that there is, if its move names one, and no more pages than its device's line says
pub record IsOwnFlight (trace : Trace) (cpu : ℕ) (flight : Flight) : Type 0 where
  pub own : is_own_flusher trace cpu flight.flusher ≡ true
  pub page : NamesPage trace flight.move
  pub chunk : MeetsChunk (chunk_at trace flight.flusher) flight.move

-- what an entry names is there, and its task or its flusher is the CPU's own
pub record IsOwn (trace : Trace) (cpu : ℕ) (entry : Told) : Type 0 where
  pub write : IfSome (effect entry).write (λ (write : Write). is_own_task trace cpu write.task ≡ true)
  pub fold : IfSome (effect entry).fold (λ (fold : Fold). has_counter trace fold.counter ≡ true)
  pub check : IfSome (effect entry).check (IsOwnCheck trace cpu)
  pub flight : IfSome (effect entry).flight (IsOwnFlight trace cpu)
  pub share : IfSome (effect entry).share (λ (share : Share). IsShare trace share.domain share.context)
  pub estimate : IfSome (effect entry).estimate (λ (est : EstEntry). nat_lt est.context (contexts trace) ≡ true)
  pub wait : IfSome (effect entry).wait (λ (wait : Wait). is_own_flusher trace cpu wait.flusher ≡ true)

-- entries that a turn of the CPU's writers may log: writes, folds and checks
pub record IsOfWriters (entry : Told) : Type 0 where
  pub no_flight : (effect entry).flight ≡ None
  pub no_share : (effect entry).share ≡ None
  pub no_estimate : (effect entry).estimate ≡ None
  pub no_wait : (effect entry).wait ≡ None

-- entries that a turn of this flusher may log: its own moves and those of its waiting list, folds, shares and estimates
pub record IsOfFlusher (flusher : ℕ) (entry : Told) : Type 0 where
  pub no_write : (effect entry).write ≡ None
  pub no_check : (effect entry).check ≡ None
  pub flight : IfSome (effect entry).flight (λ (flight : Flight). flight.flusher ≡ flusher)
  pub wait : IfSome (effect entry).wait (λ (wait : Wait). wait.flusher ≡ flusher)
