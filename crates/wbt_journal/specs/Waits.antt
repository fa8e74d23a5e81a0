-- Waiting lists: a flusher of an ageing device keeps the inodes that it noticed, each with the moment from which on it is due, and takes
-- the first of them, for its age or as it stands first.
use Rattle.std.specs.Prelude.{◌≡◌, ℕ, ◌^◌, ◌<◌, ◌≤◌, Bool, true, false, not, ◌&&◌, ◌||◌, ◌==◌, nat_lt, nat_le, Option, None, IfSome, List, [], ◌∷◌, length, get_or, set, map}
use Rattle.wbt_expiry.specs.declared.due.Due.{Due}
use Rattle.wbt_expiry.specs.Waiting.{with_pair, has_inode}
use Rattle.wbt_rules.specs.Age.{is_ageing, due_after}
use Rattle.wbt_rules.specs.Things.{device_of, flusher_device}
use Rattle.wbt_trace.specs.declared.trace.FlusherLine.{FlusherLine}
use Rattle.wbt_trace.specs.declared.trace.Trace.{Trace}
use Rattle.wbt_journal.specs.Effects.{Wait, WaitMove, notices, ages, takes_first, effect, of_part}
use Rattle.wbt_journal.specs.Flights.{is_own_flusher}
use Rattle.wbt_journal.specs.Items.{Item, begins, tells}
use Rattle.wbt_journal.specs.Told.{Told}
use Rattle.wbt_journal.specs.Walk.{unless}

-- ---- what a move makes of the list

-- the list without its first pair
abbrev pub without_first : (pairs : List Due) → List Due
without_first [] = []
without_first (pair ∷ pairs) = pairs

-- the pair of an inode that was noticed at a moment
abbrev pub noticed_pair : (trace : Trace) (inode since : ℕ) → Due
noticed_pair trace inode since = record { due = due_after trace inode since; inode = inode }

-- a waiting list after a move
abbrev pub waited : (trace : Trace) (move : WaitMove) (pairs : List Due) → List Due
waited trace (notices inode since) pairs = with_pair (noticed_pair trace inode since) pairs
waited trace (ages inode due now) pairs = without_first pairs
waited trace (takes_first inode) pairs = without_first pairs

-- ---- what a move asks of the list

-- an inode is noticed by a flusher of its device, which is ageing, before the moment 2 ^ 62, and where it doesn't wait yet
pub record MayNotice (trace : Trace) (flusher inode since : ℕ) (pairs : List Due) : Type 0 where
  pub there : inode < length trace.inodes
  pub device : device_of trace inode ≡ flusher_device trace flusher
  pub ageing : is_ageing trace (flusher_device trace flusher) ≡ true
  pub moment : since < 2 ^ 62
  pub new : has_inode inode pairs ≡ false

-- decides whether a flusher may notice an inode at a moment
abbrev pub may_notice : (trace : Trace) (flusher inode since : ℕ) (pairs : List Due) → Bool
may_notice trace flusher inode since pairs =
    nat_lt inode (length trace.inodes) && (device_of trace inode == flusher_device trace flusher
    && (is_ageing trace (flusher_device trace flusher) && (nat_lt since (2 ^ 62) && not (has_inode inode pairs))))

-- the inode stands first
abbrev pub StandsFirst : (inode : ℕ) (pairs : List Due) → Type 0
StandsFirst inode [] = ⊥
StandsFirst inode (pair ∷ pairs) = pair.inode ≡ inode

-- decides whether the inode stands first
abbrev pub stands_first : (inode : ℕ) (pairs : List Due) → Bool
stands_first inode [] = false
stands_first inode (pair ∷ pairs) = pair.inode == inode

-- the first inode is due from this moment on
abbrev pub FirstIsDue : (due : ℕ) (pairs : List Due) → Type 0
FirstIsDue due [] = ⊥
FirstIsDue due (pair ∷ pairs) = pair.due ≡ due

-- decides whether the first inode is due from this moment on
abbrev pub first_is_due : (due : ℕ) (pairs : List Due) → Bool
first_is_due due [] = false
first_is_due due (pair ∷ pairs) = pair.due == due

-- an inode is taken for its age where it stands first and is due by now
pub record MayAge (inode due now : ℕ) (pairs : List Due) : Type 0 where
  pub first : StandsFirst inode pairs
  pub moment : FirstIsDue due pairs
  pub by_now : due ≤ now

-- decides whether an inode may be taken for its age
abbrev pub may_age : (inode due now : ℕ) (pairs : List Due) → Bool
may_age inode due now pairs = stands_first inode pairs && (first_is_due due pairs && nat_le due now)

-- what each move asks of the waiting list
abbrev pub MayWait : (trace : Trace) (flusher : ℕ) (move : WaitMove) (pairs : List Due) → Type 0
MayWait trace flusher (notices inode since) pairs = MayNotice trace flusher inode since pairs
MayWait trace flusher (ages inode due now) pairs = MayAge inode due now pairs
MayWait trace flusher (takes_first inode) pairs = StandsFirst inode pairs

-- decides whether the waiting list allows a move
abbrev pub may_wait : (trace : Trace) (flusher : ℕ) (move : WaitMove) (pairs : List Due) → Bool
may_wait trace flusher (notices inode since) pairs = may_notice trace flusher inode since pairs
may_wait trace flusher (ages inode due now) pairs = may_age inode due now pairs
may_wait trace flusher (takes_first inode) pairs = stands_first inode pairs

-- ---- the lists of all flushers, by number

-- at first no inode waits
abbrev pub first_lists : (lines : List FlusherLine) → List (List Due)
first_lists lines = map (λ (line : FlusherLine). []) lines

-- a flusher's waiting list by its number
abbrev pub list_of : (lists : List (List Due)) (flusher : ℕ) → List Due
list_of lists flusher = get_or lists flusher []

-- the waiting lists after a move of one of them
abbrev pub lists_by : (trace : Trace) (lists : List (List Due)) (wait : Wait) → List (List Due)
lists_by trace lists wait = set lists wait.flusher (waited trace wait.move (list_of lists wait.flusher))

-- the waiting lists after an entry
abbrev pub lists_after_told : (trace : Trace) (lists : List (List Due)) (entry : Told) → List (List Due)
lists_after_told trace lists entry = of_part lists (lists_by trace lists) (effect entry).wait

-- a CPU's flushers begin with its part
abbrev pub lists_after : (trace : Trace) (lists : List (List Due)) (item : Item) → List (List Due)
lists_after trace lists (begins cpu) = first_lists trace.flushers
lists_after trace lists (tells cpu entry) = lists_after_told trace lists entry

-- ---- what may come

-- a flusher's move is judged where it stands in the part of the flusher's CPU
abbrev pub WaitsBy : (trace : Trace) (cpu : ℕ) (lists : List (List Due)) (wait : Wait) → Type 0
WaitsBy trace cpu lists wait = is_own_flusher trace cpu wait.flusher ≡ true → MayWait trace wait.flusher wait.move (list_of lists wait.flusher)

-- an entry's move of a waiting list, if it has one, is one that may come
abbrev pub WaitsTold : (trace : Trace) (cpu : ℕ) (lists : List (List Due)) (entry : Told) → Type 0
WaitsTold trace cpu lists entry = IfSome (effect entry).wait (WaitsBy trace cpu lists)

-- decides whether a move of a waiting list may come
abbrev pub waits_by : (trace : Trace) (cpu : ℕ) (lists : List (List Due)) (wait : Wait) → Bool
waits_by trace cpu lists wait = not (is_own_flusher trace cpu wait.flusher) || may_wait trace wait.flusher wait.move (list_of lists wait.flusher)

-- decides whether an entry's move of a waiting list may come
abbrev pub waits_told : (trace : Trace) (cpu : ℕ) (lists : List (List Due)) (entry : Told) → Bool
waits_told trace cpu lists entry = of_part true (waits_by trace cpu lists) (effect entry).wait

-- an item's move of a waiting list, if it has one, is one that may come
abbrev pub Waits : (trace : Trace) (lists : List (List Due)) (item : Item) → Type 0
Waits trace lists (begins cpu) = Unit {0}
Waits trace lists (tells cpu entry) = WaitsTold trace cpu lists entry

-- the fault of an item whose move of a waiting list may not come
abbrev pub wait_fault : (trace : Trace) (lists : List (List Due)) (item : Item) → Option ℕ
wait_fault trace lists (begins cpu) = None
wait_fault trace lists (tells cpu entry) = unless (waits_told trace cpu lists entry) 0

-- and it stands there
abbrev pub WaitsOnOwn : (trace : Trace) (item : Item) → Type 0
WaitsOnOwn trace (begins cpu) = Unit {0}
WaitsOnOwn trace (tells cpu entry) = IfSome (effect entry).wait (λ (wait : Wait). is_own_flusher trace cpu wait.flusher ≡ true)

-- decides whether an entry's move of a waiting list stands in the part of its flusher's CPU
abbrev pub waits_on_own : (trace : Trace) (cpu : ℕ) (entry : Told) → Bool
waits_on_own trace cpu entry = of_part true (λ (wait : Wait). is_own_flusher trace cpu wait.flusher) (effect entry).wait

-- the fault of an item that moves the waiting list of another CPU's flusher
abbrev pub stranger_fault : (trace : Trace) (item : Item) → Option ℕ
stranger_fault trace (begins cpu) = None
stranger_fault trace (tells cpu entry) = unless (waits_on_own trace cpu entry) 0
