-- The changes of a flusher's turn that scans or flies.
use Rattle.std.specs.Prelude.{ℕ, zero, suc, ◌+◌, ◌&&◌, ◌||◌, Bool, true, false, if◌then◌else◌, ◌==◌, nat_lt, List, [], ◌∷◌, length}
use Rattle.wbt_trace.specs.declared.trace.Trace.{Trace}
use Rattle.wbt_book.specs.Book.{Bits, is_claimable}
use Rattle.wbt_book.specs.PageWords.{shared_word}
use Rattle.wbt_flex.specs.Proportions.{fraction_of, may_be_added}
use Rattle.wbt_grant.specs.declared.who.StepKind.TheVariants as kind
use Rattle.wbt_io.specs.Moments.{done_at}
use Rattle.wbt_rules.specs.Places.{page_of}
use Rattle.wbt_rules.specs.Things.{context_of, flusher_device, group_of, max_share, rate_of}
use Rattle.wbt_rules.specs.declared.moments.TheConstants.{FLUSHER_REST}
use Rattle.wbt_rules.specs.declared.scan.Scan.{Scan}
use Rattle.wbt_replay_moves.specs.Definition.Flight.{part_in}
use Rattle.wbt_replay_moves.specs.Definition.Scan.{close_items, is_scan_over}
use Rattle.wbt_replay_moves.specs.Definition.State.{State, flusher_of, domain_of, writeback_of}
use Rattle.wbt_replay_moves.specs.declared.todo.Silent.TheVariants as silent
use Rattle.wbt_replay_moves.specs.declared.todo.Step.TheVariants as step
use Rattle.wbt_replay_moves.specs.declared.todo.Todo.TheVariants as todo
use Rattle.wbt_replay_changes.specs.Apply.{apply}
use Rattle.wbt_replay_changes.specs.Change.{Change}
use Rattle.wbt_replay_changes.specs.Change as change
use Rattle.wbt_replay_changes.specs.Change.Cpu as cpu_change
use Rattle.wbt_replay_changes.specs.Change.Flusher as flusher_change
use Rattle.wbt_replay_changes.specs.ChangeOf.Where.{then_changes}

-- ---- a scan

-- a page with these bits is claimed next, or passed
abbrev pub bits_changes : (cpu flusher : ℕ) (scan : Scan) (bits : Bits) (s : State) → List Change
bits_changes cpu flusher scan bits s =
    if is_claimable bits
    then change.of_cpu cpu (cpu_change.planned (todo.Step (step.Claim (shared_word s.book (page_of scan))) ∷ []))
    ∷ change.stepped cpu kind.Look ∷ []
    else change.of_flusher flusher (flusher_change.passed scan (bits.dirty && bits.writeback))
    ∷ change.of_cpu cpu (cpu_change.planned (todo.Silent silent.Close ∷ [])) ∷ change.stepped cpu kind.Look ∷ []

-- the look at the scan's next page
abbrev pub look_changes : (cpu flusher : ℕ) (scan : Scan) (s : State) → List Change
look_changes cpu flusher scan s = bits_changes cpu flusher scan (s.book (page_of scan)) s

-- the page is claimed where its word is the one that was found
abbrev pub claim_changes : (cpu word flusher : ℕ) (scan : Scan) (s : State) → List Change
claim_changes cpu word flusher scan s =
    if shared_word s.book (page_of scan) == word
    then change.claimed cpu flusher scan
    ∷ change.of_cpu cpu (cpu_change.planned (todo.Silent silent.Close ∷ [])) ∷ change.stepped cpu kind.Claim ∷ []
    else change.stepped cpu kind.Claim ∷ []

-- a scan that is over closes
abbrev pub close_changes : (cpu flusher : ℕ) (scan : Scan) (s : State) → List Change
close_changes cpu flusher scan s =
    if is_scan_over scan (length (flusher_of flusher s).batch)
    then change.of_flusher flusher (flusher_change.placed scan)
    ∷ change.of_cpu cpu (cpu_change.planned (close_items scan.inode (scan.noted || nat_lt scan.passed scan.pages))) ∷ []
    else []

-- without a batch the flusher is idle, and rests where a mark was noted
abbrev pub empty_changes : (flusher : ℕ) (noted : Bool) (s : State) → List Change
empty_changes flusher noted s =
    change.of_flusher flusher (if noted then flusher_change.idled (s.now + FLUSHER_REST) true else flusher_change.idled 0 false) ∷ []

-- the scan's batch goes to the disk
abbrev pub hand_over_changes : (trace : Trace) (cpu flusher : ℕ) (scan : Scan) (s : State) → List Change
hand_over_changes trace cpu flusher scan s =
    let pages = length (flusher_of flusher s).batch in
    if pages == 0
    then empty_changes flusher scan.noted s
    else change.flew cpu flusher scan.inode pages (done_at s.now pages (rate_of trace (flusher_device trace flusher))) ∷ []

-- ---- a flight

-- the first page of a batch is completed
abbrev pub batch_changes : (cpu flusher context : ℕ) (batch : List ℕ) → List Change
batch_changes cpu flusher context [] = []
batch_changes cpu flusher context (page ∷ pages) = change.completed cpu flusher context page pages ∷ []

-- the flusher completes the next page of its batch
abbrev pub complete_changes : (trace : Trace) (cpu flusher inode pages : ℕ) (s : State) → List Change
complete_changes trace cpu flusher inode pages s = batch_changes cpu flusher (context_of trace inode) (flusher_of flusher s).batch

-- the pages are counted in for the context in one domain, up to the device's greatest share
abbrev pub share_changes : (trace : Trace) (cpu domain context pages : ℕ) (s : State) → List Change
share_changes trace cpu domain context pages s =
    if may_be_added (fraction_of (part_in domain (writeback_of context s)) (domain_of domain s).events) (max_share trace context)
    then change.shared cpu domain context pages ∷ []
    else []

-- in its cgroup, where it has one
abbrev pub group_changes : (trace : Trace) (cpu group context pages : ℕ) (s : State) → List Change
group_changes trace cpu zero context pages s = []
group_changes trace cpu (suc cgroup) context pages s = share_changes trace cpu (suc cgroup) context pages s

-- in the global domain, and then in its cgroup
abbrev pub shares_changes : (trace : Trace) (cpu context pages : ℕ) (s : State) → List Change
shares_changes trace cpu context pages s =
    then_changes trace (share_changes trace cpu 0 context pages s) (group_changes trace cpu (group_of trace context) context pages) s

-- the flight is over, and its pages are counted in
abbrev pub landed_changes : (trace : Trace) (cpu flusher context pages : ℕ) (s : State) → List Change
landed_changes trace cpu flusher context pages s =
    change.landed flusher context pages ∷ shares_changes trace cpu context pages (apply trace (change.landed flusher context pages) s)

-- a flight lands once no page of its batch is left
abbrev pub land_changes : (trace : Trace) (cpu flusher inode pages : ℕ) (s : State) → List Change
land_changes trace cpu flusher inode pages s =
    if length (flusher_of flusher s).batch == 0 then landed_changes trace cpu flusher (context_of trace inode) pages s else []
