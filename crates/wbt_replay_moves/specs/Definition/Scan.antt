-- A turn of a flusher that scans: it looks at a page, claims it where it can be claimed, and closes the scan where it is over.
use Rattle.std.specs.Prelude.{ℕ, ◌+◌, Bool, true, false, ◌||◌, ◌&&◌, if◌then◌else◌, ◌==◌, nat_lt, nat_le, List, [], ◌∷◌, ◌++◌, length, set}
use Rattle.wbt_trace.specs.declared.trace.Trace.{Trace}
use Rattle.wbt_book.specs.Book.{Bits, is_claimable}
use Rattle.wbt_book.specs.PageWords.{shared_word}
use Rattle.wbt_book.specs.declared.event.Event.TheVariants as event
use Rattle.wbt_grant.specs.declared.who.StepKind.TheVariants as kind
use Rattle.wbt_io.specs.Moments.{done_at}
use Rattle.wbt_journal.specs.declared.entry.Entry.TheVariants as entry
use Rattle.wbt_replay_moves.specs.Definition.Cpu.{then_do, log_at}
use Rattle.wbt_rules.specs.declared.moments.TheConstants.{FLUSHER_REST}
use Rattle.wbt_replay_moves.specs.Definition.State.{State, cpu_of, flusher_of, with_flusher, plain_step, with_event, in_phase}
use Rattle.wbt_rules.specs.declared.scan.Scan.{Scan}
use Rattle.wbt_rules.specs.Places.{place_after, page_of}
use Rattle.wbt_rules.specs.Things.{device_at, flusher_device, rate_of}
use Rattle.wbt_replay_moves.specs.declared.state.ReplayPhase.{ReplayPhase}
use Rattle.wbt_replay_moves.specs.declared.state.ReplayPhase.TheVariants as phase
use Rattle.wbt_replay_moves.specs.declared.state.Whose.{Whose}
use Rattle.wbt_replay_moves.specs.declared.state.Whose.TheVariants as whose
use Rattle.wbt_replay_moves.specs.declared.todo.Todo.{Todo}
use Rattle.wbt_replay_moves.specs.declared.todo.Todo.TheVariants as todo
use Rattle.wbt_replay_moves.specs.declared.todo.Silent.TheVariants as silent
use Rattle.wbt_replay_moves.specs.declared.todo.Step.TheVariants as step

-- ---- a look

-- A page that can be claimed is claimed next, if its word is still this one. Any other is passed; one that is dirty again under
-- writeback is noted, so that its inode is marked again.
abbrev pub looked_at : (cpu flusher : ℕ) (scan : Scan) (bits : Bits) (s : State) → State
looked_at cpu flusher scan bits s =
    if is_claimable bits
    then then_do cpu (todo.Step (step.Claim (shared_word s.book (page_of scan))) ∷ []) s
    else then_do cpu (todo.Silent silent.Close ∷ [])
    (in_phase flusher (phase.Scanning (record scan { passed = scan.passed + 1; noted = scan.noted || (bits.dirty && bits.writeback) })) s)

-- a flusher that scans looks at the next page of its scan
abbrev pub look_in : (cpu flusher : ℕ) (phase : ReplayPhase) (s : State) → State
look_in cpu flusher (phase.Scanning scan) s =
    plain_step cpu kind.Look (looked_at cpu flusher scan (s.book (page_of scan)) s)
look_in cpu flusher other s = s

-- the turn's flusher looks at a page
abbrev pub look_by : (cpu : ℕ) (whose : Whose) (s : State) → State
look_by cpu (whose.Flusher flusher) s = look_in cpu flusher (flusher_of flusher s).phase s
look_by cpu (whose.Task task) s = s

-- the step that looks at a page
abbrev pub look : (cpu : ℕ) (s : State) → State
look cpu s = look_by cpu (cpu_of cpu s).turn.whose s

-- ---- a claim

-- The page goes into the batch, and is passed.
abbrev pub claim_now : (cpu flusher : ℕ) (scan : Scan) (s : State) → State
claim_now cpu flusher scan s =
    then_do cpu (todo.Silent silent.Close ∷ []) (log_at cpu (entry.Claimed flusher (page_of scan))
    (with_flusher flusher (record (flusher_of flusher s) {
      phase = phase.Scanning (record scan { passed = scan.passed + 1 });
      batch = (flusher_of flusher s).batch ++ page_of scan ∷ [];
    }) (with_event (event.Claim (page_of scan)) (page_of scan) s)))

-- A claim is missed where the page's word isn't the one that the look found, and the flusher's next turn looks again.
abbrev pub claim_in : (cpu flusher word : ℕ) (phase : ReplayPhase) (s : State) → State
claim_in cpu flusher word (phase.Scanning scan) s =
    plain_step cpu kind.Claim
    (if shared_word s.book (page_of scan) == word then claim_now cpu flusher scan s else s)
claim_in cpu flusher word other s = s

-- the turn's flusher claims a page by the word that it found
abbrev pub claim_by : (cpu word : ℕ) (whose : Whose) (s : State) → State
claim_by cpu word (whose.Flusher flusher) s = claim_in cpu flusher word (flusher_of flusher s).phase s
claim_by cpu word (whose.Task task) s = s

-- the step that claims a page by the word that was found
abbrev pub claim : (cpu word : ℕ) (s : State) → State
claim cpu word s = claim_by cpu word (cpu_of cpu s).turn.whose s

-- ---- the close

-- The inode is marked again where pages of it weren't passed, or where that was noted.
abbrev pub close_items : (inode : ℕ) (again : Bool) → List Todo
close_items inode again =
    if again then todo.Step (step.Mark inode) ∷ todo.Silent silent.HandOver ∷ [] else todo.Silent silent.HandOver ∷ []

-- The scan is over where it has passed as many pages as the inode has, or the batch has its quota.
abbrev pub is_scan_over : (scan : Scan) (pages : ℕ) → Bool
is_scan_over scan pages = nat_le scan.pages scan.passed || nat_le scan.quota pages

-- The next scan of the inode begins at the place to which this one has come, where the flusher's device is cyclic.
abbrev pub places_after : (trace : Trace) (flusher : ℕ) (scan : Scan) (places : List ℕ) → List ℕ
places_after trace flusher scan places =
    if (device_at trace (flusher_device trace flusher)).cyclic
    then set places scan.inode (place_after scan.pages scan.start scan.passed)
    else places

-- the state in which the flusher keeps the place at which its next scan of the inode begins
abbrev pub keep_place : (trace : Trace) (flusher : ℕ) (scan : Scan) (s : State) → State
keep_place trace flusher scan s =
    with_flusher flusher (record (flusher_of flusher s) { places = places_after trace flusher scan (flusher_of flusher s).places }) s

-- a scan that is over closes: its place is kept, the inode may be marked again, and the batch goes to the disk
abbrev pub close_in : (trace : Trace) (cpu flusher : ℕ) (phase : ReplayPhase) (s : State) → State
close_in trace cpu flusher (phase.Scanning scan) s =
    if is_scan_over scan (length (flusher_of flusher s).batch)
    then then_do cpu (close_items scan.inode (scan.noted || nat_lt scan.passed scan.pages)) (keep_place trace flusher scan s)
    else s
close_in trace cpu flusher other s = s

-- the scan of the turn's flusher closes where it is over
abbrev pub close_by : (trace : Trace) (cpu : ℕ) (whose : Whose) (s : State) → State
close_by trace cpu (whose.Flusher flusher) s = close_in trace cpu flusher (flusher_of flusher s).phase s
close_by trace cpu (whose.Task task) s = s

-- the silent move at which a scan may close
abbrev pub close : (trace : Trace) (cpu : ℕ) (s : State) → State
close trace cpu s = close_by trace cpu (cpu_of cpu s).turn.whose s

-- ---- the batch goes to the disk

-- The batch flies until the disk has written it.
abbrev pub fly : (cpu flusher inode pages until : ℕ) (s : State) → State
fly cpu flusher inode pages until s =
    log_at cpu (entry.Batch flusher pages s.now until) (in_phase flusher (phase.Flying inode pages until) s)

-- Without a batch the flusher is idle; where a mark was noted it rests, in the drain too, so that no two flushers of a device
-- take the inode again and again at one moment.
abbrev pub land_empty : (flusher : ℕ) (noted : Bool) (s : State) → State
land_empty flusher noted s = in_phase flusher (if noted then phase.Idle (s.now + FLUSHER_REST) true else phase.Idle 0 false) s

-- a scan's batch goes to the disk, which writes as many pages a second as the device's rate; without a page nothing goes
abbrev pub hand_over_in : (trace : Trace) (cpu flusher : ℕ) (phase : ReplayPhase) (s : State) → State
hand_over_in trace cpu flusher (phase.Scanning scan) s =
    let pages = length (flusher_of flusher s).batch in
    if pages == 0
    then land_empty flusher scan.noted s
    else fly cpu flusher scan.inode pages (done_at s.now pages (rate_of trace (flusher_device trace flusher))) s
hand_over_in trace cpu flusher other s = s

-- the turn's flusher hands its batch over
abbrev pub hand_over_by : (trace : Trace) (cpu : ℕ) (whose : Whose) (s : State) → State
hand_over_by trace cpu (whose.Flusher flusher) s = hand_over_in trace cpu flusher (flusher_of flusher s).phase s
hand_over_by trace cpu (whose.Task task) s = s

-- the silent move that hands a batch to the disk
abbrev pub hand_over : (trace : Trace) (cpu : ℕ) (s : State) → State
hand_over trace cpu s = hand_over_by trace cpu (cpu_of cpu s).turn.whose s
