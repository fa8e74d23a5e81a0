-- What each call answers, and what it makes of the seat.
use Rattle.std.specs.Prelude.{◌≡◌, ◌≢◌, ℕ, ◌/◌, ◌%◌, ◌<◌, ◌≤◌, ◌⊎◌, All, Bool, true, false, cond, ◌==◌, ◌&&◌, not, List, [], ◌∷◌, ◌++◌, length, replicate, IsSomeAnd, Option, Some, None, ℤ}
use Rattle.wbt_num.specs.declared.limits.Limits.{Limits}
use Rattle.wbt_num.specs.declared.limits.TheConstants.{LAST_SEQUENCE}
use Rattle.wbt_num.specs.Limits.{IsLawful}
use Rattle.wbt_limits.specs.Words.{sequence_in, limits_in}
use Rattle.wbt_counter.specs.declared.counter.Counter.{Counter}
use Rattle.wbt_counter.specs.declared.counter.Counter.TheVariants.{Domain, Context}
use Rattle.wbt_counter.specs.declared.counter.Count.{Count}
use Rattle.wbt_counter.specs.declared.record.Debt.TheVariants.{Free, Event, FoldDue, ClearDue}
use Rattle.wbt_counter.specs.declared.record.Fold.{Fold}
use Rattle.wbt_counter.specs.declared.record.Owed.{Owed}
use Rattle.wbt_counter.specs.Word.{version_in, count_in}
use Rattle.wbt_book.specs.Book.{is_claimable}
use Rattle.wbt_book.specs.PageWords.{bits_at, bits_of}
use Rattle.wbt_book.specs.Ledger.{times_in}
use Rattle.wbt_grant.specs.declared.record.CpuRecord.{CpuRecord}
use Rattle.wbt_grant.specs.declared.record.TimerRecord.{TimerRecord}
use Rattle.wbt_grant.specs.declared.who.Who.{Who}
use Rattle.wbt_grant.specs.declared.who.Who.TheVariants.{Writer, Cpu, Timer}
use Rattle.wbt_grant.specs.Setting.{Setting}
use Rattle.wbt_grant.specs.State.{State, writer_in, held_of, stage_of, is_sealed, sequence_of, opening, no_record}
use Rattle.wbt_grant.specs.Kinds.{Step, add, fold, clear, dirty, look, claim, back, unseal, thresh, publish, first, middle, limits, IsLookAt, last_found, last_raised}
use Rattle.wbt_grant.specs.Laws.{NoneAhead, AreBehind}
use Rattle.wbt_grant.specs.Record.{one_more}
use Rattle.wbt_grant.specs.Rule.{Rule}
use Rattle.wbt_grant.specs.Seats.{cpu_for, record_after, timer_after}
use Rattle.wbt_table.specs.declared.state.CpuState.{CpuState}
use Rattle.wbt_table.specs.declared.answer.Settled.{Settled}
use Rattle.wbt_table.specs.declared.answer.Dirtied.{Dirtied}
use Rattle.wbt_table.specs.declared.answer.Dirtied.TheVariants.{Fresh, Already}
use Rattle.wbt_table.specs.declared.answer.Claim.{Claim}
use Rattle.wbt_table.specs.declared.answer.Loaded.{Loaded}
use Rattle.wbt_table.specs.declared.answer.Loaded.TheVariants as loaded
use Rattle.wbt_table.specs.declared.answer.Triple.{Triple}
use Rattle.wbt_table.specs.declared.answer.Put.{Put}
use Rattle.wbt_table.specs.declared.answer.Put.TheVariants as put
use Rattle.wbt_table.specs.Held.{triple_of}
use Rattle.wbt_table.specs.declared.answer.Claim.TheVariants.{Mine, NotDirty, Missed, Stopped}
use Rattle.wbt_table.specs.declared.answer.Back.{Back}
use Rattle.wbt_table.specs.declared.answer.Back.TheVariants as returned
use Rattle.wbt_table.specs.Layout.{setting}
pub use Rattle.wbt_table.specs.History.{Made}
use Rattle.wbt_table.specs.declared.rule.Logged.{Logged}
use Rattle.wbt_table.specs.History.{log_of, timer_log_of, LogsSteps}
use Rattle.wbt_table.specs.Rule.{Has, Holds, put_record, or_else, merged, without_cpu, apart}
use Rattle.wbt_table.specs.Seat.{Seated, Changes, LogComes, LogsOne, Makes, Times, owing_events}

-- make: nothing is done yet

-- what is kept of a CPU that did nothing
abbrev pub no_state : CpuState
no_state = record { steps = 0; page_steps = 0; context = 0; group = 0; first = None; second = None; third = None; grants = None }

-- the seat holds every CPU and the timer, with the records of the opening and empty logs
pub record IsFirst (seat : Seated) : Type 0 where
  pub cpus : seat.cpus ≡ replicate seat.layout.cpus (Some no_record)
  pub timer : seat.timer ≡ Some (opening (setting seat.layout)).timer
  pub logs : seat.logs ≡ replicate seat.layout.cpus (Some [])
  pub timer_log : seat.timer_log ≡ Some []

-- split: the seat without the CPU of this number, or without the timer, and a seat with that alone

-- the seat that was split; the number after the last CPU's is the timer's
abbrev pub left_seat : (n : ℕ) (seat : Seated) → Seated
left_seat n seat = cond (n == seat.layout.cpus) (record seat { timer = None; timer_log = None })
    (record seat { cpus = without_cpu n seat.cpus; logs = without_cpu n seat.logs })

-- the new seat, which holds the CPU n, or the timer, and nothing else
abbrev pub right_seat : (n : ℕ) (seat : Seated) → Seated
right_seat n seat = cond (n == seat.layout.cpus)
    (record seat { cpus = replicate (length seat.cpus) None; logs = replicate (length seat.logs) None })
    (record seat { cpus = apart n seat.cpus; timer = None; logs = apart n seat.logs; timer_log = None })

-- join: where the second seat has something, it is taken
abbrev pub joined_seat : (into from : Seated) → Seated
joined_seat into from = record into {
  cpus = merged into.cpus from.cpus;
  timer = or_else into.timer from.timer;
  logs = merged into.logs from.logs;
  timer_log = or_else into.timer_log from.timer_log;
}

-- dirty

-- what a record must say where a writer dirties a page, but for page steps
pub record CanDirty (set : Setting) (w p : ℕ) (r : CpuRecord) : Type 0 where
  pub writer_is : w < set.writers
  pub page_is : p < set.pages
  pub its_context : set.home p ≡ set.works_in w
  pub some_left : 0 < (writer_in set w r.writers).left
  pub owes_none : r.debts ≡ []

-- the page was dirty in the word that was found exactly where the answer says so
abbrev pub TellsDirty : (answer : Dirtied) (was_dirty : Bool) → Type 0
TellsDirty Fresh was_dirty = was_dirty ≡ false
TellsDirty Already was_dirty = was_dirty ≡ true

-- a writer dirties a page, and the answer says whether it found the page dirty
pub record Dirties (set : Setting) (w p : ℕ) (answer : Dirtied) (old new : Seated) : Type 0 where
  pub found : ℕ
  pub tells : TellsDirty answer (bits_at found p).dirty
  pub makes : Makes set (dirty w p) found old new

-- a CPU has page steps left, or has made as many as it may
abbrev pub HasPageSteps : (set : Setting) (c : ℕ) (seat : Seated) → Type 0
HasPageSteps set c seat = Holds seat.cpus c (λ r. r.page_steps < set.page_steps)

-- the seat holds the CPU, which has made as many page steps as it may
abbrev pub HasNoPageSteps : (set : Setting) (c : ℕ) (seat : Seated) → Type 0
HasNoPageSteps set c seat = Holds seat.cpus c (λ r. set.page_steps ≤ r.page_steps)

-- what the code keeps after a page step of a context: an event is owed to each of its counters
abbrev pub owing_event : (set : Setting) (k : ℕ) (a : ℤ) (state : CpuState) → CpuState
owing_event set k a state = owing_events k (set.group k) a state

-- complete

-- what a record must say where a page is completed or given back, but for page steps
pub record CanComplete (set : Setting) (p : ℕ) (r : CpuRecord) : Type 0 where
  pub page_is : p < set.pages
  pub holds_it : 0 < times_in p r.held
  pub owes_none : r.debts ≡ []

-- settle

-- what steps make of their CPU's record, one after another
abbrev pub record_of : (set : Setting) (made : List Made) (r : CpuRecord) → CpuRecord
record_of set [] r = r
record_of set (m ∷ more) r = record_of set more (record_after set m.step m.found r)

-- the step that the first debt of a CPU asks for
abbrev pub Pays : (c : ℕ) (step : Step) (debts : List Owed) → Type 0
Pays c step [] = ⊥
Pays c step (owed ∷ more) = elim owed.debt [
  | Free ↦ ⊥
  | Event a ↦ step ≡ add c owed.counter
  | FoldDue ↦ step ≡ fold c owed.counter
  | ClearDue d ↦ step ≡ clear c owed.counter
]

-- each step is the one that is due first where it is made
abbrev pub PayInOrder : (set : Setting) (c : ℕ) (made : List Made) (r : CpuRecord) → Type 0
PayInOrder set c [] r = Unit {0}
PayInOrder set c (m ∷ more) r = Pays c m.step r.debts × PayInOrder set c more (record_after set m.step m.found r)

-- the gate was asked before each step, by the steps that the record had, and said true
abbrev pub Asked : (set : Setting) (said : ℕ → Bool → Type 0) (made : List Made) (r : CpuRecord) → Type 0
Asked set said [] r = Unit {0}
Asked set said (m ∷ more) r = said r.steps true × Asked set said more (record_after set m.step m.found r)

-- the folds of a call, the newest first
abbrev pub told_fold : (told : Option Fold) → List Fold
told_fold None = []
told_fold (Some one) = one ∷ []

-- all folds of a call, of the cgroup's, the global domain's and the context's counter: the newest first
abbrev pub told_folds : (settled : Settled) → List Fold
told_folds settled = told_fold settled.third ++ told_fold settled.second ++ told_fold settled.first

-- a fold that is told is of such a counter
abbrev pub IsOf : (is : Counter → Bool) (told : Option Fold) → Type 0
IsOf is None = Unit {0}
IsOf is (Some one) = is one.counter ≡ true

-- a context's own counter
abbrev pub is_context : (x : Counter) → Bool
is_context (Domain d) = false
is_context (Context k) = true

-- the global domain's counter
abbrev pub is_global : (x : Counter) → Bool
is_global (Domain d) = d == 0
is_global (Context k) = false

-- the counter of a cgroup's domain
abbrev pub is_group : (x : Counter) → Bool
is_group (Domain d) = not (d == 0)
is_group (Context k) = false

-- the CPU pays what it owes in order, until nothing is owed or the gate says false, and each fold is told
pub record Settles (set : Setting) (c : ℕ) (said : ℕ → Bool → Type 0) (settled : Settled) (r new : CpuRecord) : Type 0 where
  pub made : List Made
  pub becomes : new ≡ record_of set made r
  pub in_order : PayInOrder set c made r
  pub asked : Asked set said made r
  pub all_paid : settled.all ≡ true → new.debts ≡ []
  pub stopped : settled.all ≡ false → said new.steps false
  pub left : settled.all ≡ false → new.debts ≢ []
  pub folds : new.folds ≡ told_folds settled ++ r.folds
  pub first : IsOf is_context settled.first
  pub second : IsOf is_global settled.second
  pub third : IsOf is_group settled.third

-- and the log has each step with what it found
abbrev pub SettlesLogged : (set : Setting) (c : ℕ) (said : ℕ → Bool → Type 0) (settled : Settled) (before after : Seated) (r new : CpuRecord) → Type 0
SettlesLogged set c said settled before after r new =
    (settles : Settles set c said settled r new) × LogComes c (LogsSteps set (log_of set c) settles.made) before after

-- the record of one CPU comes to one that P tells of, and no other record changes
pub record Comes (c : ℕ) (P : CpuRecord → CpuRecord → Type 0) (old new : Seated) : Type 0 where
  pub table : new.table ≡ old.table
  pub layout : new.layout ≡ old.layout
  pub timer : new.timer ≡ old.timer
  pub cpus : (r : CpuRecord) → Has old.cpus c r → (r' : CpuRecord) × P r r' × (new.cpus ≡ put_record c r' old.cpus)

-- claim

-- what a record must say where a page is claimed: the last step was a look that found it claimable in this word
pub record CanClaim (set : Setting) (p found : ℕ) (r : CpuRecord) : Type 0 where
  pub page_is : p < set.pages
  pub looked : IsLookAt p r.last
  pub found_is : last_found r.last ≡ found
  pub claimable : is_claimable (bits_at found p) ≡ true

-- a record comes to another by a look that found a word, or by that and a claim that found one
abbrev pub looked_at : (set : Setting) (c p n : ℕ) (r : CpuRecord) → CpuRecord
looked_at set c p n r = record_after set (look c p) n r

-- the record after a look that found n and a claim that found m
abbrev pub tried : (set : Setting) (c p n m : ℕ) (r : CpuRecord) → CpuRecord
tried set c p n m r = record_after set (claim c p) m (looked_at set c p n r)

-- a page was looked at, or that and claimed; each step found what then stood in the word
abbrev pub LogsLook : (set : Setting) (c p n : ℕ) (old new : Seated) → Type 0
LogsLook set c p n old new = LogComes c (LogsOne set c (look c p) n) old new

-- the log has both steps, with the numbers n and m that they found
abbrev pub LogsTry : (set : Setting) (c p n m : ℕ) (old new : Seated) → Type 0
LogsTry set c p n m old new = LogComes c (LogsSteps set (log_of set c) (record { step = look c p; found = n } ∷ record { step = claim c p; found = m } ∷ [])) old new

-- the gate was asked before the look, and before the claim, and said true
abbrev pub AskedToLook : (c : ℕ) (said : ℕ → Bool → Type 0) (old : Seated) → Type 0
AskedToLook c said old = (r : CpuRecord) → Has old.cpus c r → said r.steps true

-- the gate was asked before the claim, by the steps that the record had after the look, and said true
abbrev pub AskedToClaim : (set : Setting) (c p n : ℕ) (said : ℕ → Bool → Type 0) (old : Seated) → Type 0
AskedToClaim set c p n said old = (r : CpuRecord) → Has old.cpus c r → said (looked_at set c p n r).steps true

-- a claim that was stopped changed nothing, or looked at a page that it could have claimed
pub data Halts (set : Setting) (c p : ℕ) (said : ℕ → Bool → Type 0) (old new : Seated) : Type 0 where
  before_its_look : new ≡ old → Halts set c p said old new
  after_its_look : (n : ℕ) → is_claimable (bits_at n p) ≡ true → Changes c (looked_at set c p n) old new → LogsLook set c p n old new
      → AskedToLook c said old → Halts set c p said old new

-- the CPU didn't hold the page
abbrev pub IsUnheld : (c p : ℕ) (seat : Seated) → Type 0
IsUnheld c p seat = (r : CpuRecord) → Has seat.cpus c r → times_in p r.held ≡ 0

-- Mine: the claim found what the look had found. Missed: it found another word. NotDirty: the page wasn't claimable. Stopped: the gate said false
abbrev pub Claims : (set : Setting) (c p : ℕ) (said : ℕ → Bool → Type 0) (answer : Claim) (old new : Seated) → Type 0
Claims set c p said Mine old new = (n : ℕ) × (is_claimable (bits_at n p) ≡ true) × Changes c (tried set c p n n) old new × IsUnheld c p old
    × LogsTry set c p n n old new × AskedToLook c said old × AskedToClaim set c p n said old
Claims set c p said (NotDirty bits) old new = (n : ℕ) × (bits ≡ bits_of n p) × (is_claimable (bits_at n p) ≡ false)
    × Changes c (looked_at set c p n) old new × LogsLook set c p n old new × AskedToLook c said old
Claims set c p said (Missed n m) old new = (is_claimable (bits_at n p) ≡ true) × (n ≢ m)
    × Changes c (tried set c p n m) old new × LogsTry set c p n m old new
    × AskedToLook c said old × AskedToClaim set c p n said old
Claims set c p said Stopped old new = Holds new.cpus c (λ r. said r.steps false) × Halts set c p said old new

-- loads

-- a step of a CPU, or of the timer
abbrev pub Loads : (set : Setting) (who : Who) (step : Step) (n : ℕ) (old new : Seated) → Type 0
Loads set (Writer w) step n old new = Makes set step n old new
Loads set (Cpu i) step n old new = Makes set step n old new
Loads set Timer step n old new = Times set step n old new

-- steps of a CPU one after another, and what each found; the gate was asked before each
abbrev pub MakesAll : (set : Setting) (c : ℕ) (said : ℕ → Bool → Type 0) (made : List Made) (old new : Seated) → Type 0
MakesAll set c said made old new = Changes c (record_of set made) old new × LogComes c (LogsSteps set (log_of set c) made) old new
    × ((r : CpuRecord) → Has old.cpus c r → Asked set said made r)

-- give_back

-- what a record must say where a page is given back: the last step was a look that found this word
pub record CanGiveBack (set : Setting) (p found : ℕ) (r : CpuRecord) : Type 0 where
  pub can : CanComplete set p r
  pub looked : IsLookAt p r.last
  pub found_is : last_found r.last ≡ found
  pub step_left : r.page_steps < set.page_steps

-- a word in which a page that the CPU holds is under writeback
abbrev pub FindsWriteback : (c p n : ℕ) (seat : Seated) → Type 0
FindsWriteback c p n seat = (r : CpuRecord) → Has seat.cpus c r → 0 < times_in p r.held → (bits_at n p).writeback ≡ true

-- its two steps, and what each found
abbrev pub back_steps : (c p first_word second_word : ℕ) → List Made
back_steps c p n m = record { step = look c p; found = n } ∷ record { step = back c p; found = m } ∷ []

-- one that was stopped made none of them, or the look alone
pub data IsCutBack (c p : ℕ) (made : List Made) : Type 0 where
  at_once : made ≡ [] → IsCutBack c p made
  after_look : (n : ℕ) → (bits_at n p).writeback ≡ true → made ≡ record { step = look c p; found = n } ∷ [] → IsCutBack c p made

-- Redirtied where the word was found twice, with the page not dirty, and Absorbed where with the page dirty. Missed where two words were
-- found. Stopped where the gate said false
abbrev pub GivesBack : (set : Setting) (c p : ℕ) (said : ℕ → Bool → Type 0) (answer : Back) (old new : Seated) → Type 0
GivesBack set c p said returned.Redirtied old new = (n : ℕ) × ((bits_at n p).dirty ≡ false) × ((bits_at n p).writeback ≡ true)
    × MakesAll set c said (back_steps c p n n) old new
GivesBack set c p said returned.Absorbed old new = (n : ℕ) × ((bits_at n p).dirty ≡ true) × ((bits_at n p).writeback ≡ true)
    × MakesAll set c said (back_steps c p n n) old new
GivesBack set c p said (returned.Missed n m) old new = (n ≢ m) × ((bits_at n p).writeback ≡ true)
    × MakesAll set c said (back_steps c p n m) old new
GivesBack set c p said returned.Stopped old new = (made : List Made) × IsCutBack c p made
    × Holds new.cpus c (λ r. said r.steps false) × MakesAll set c said made old new

-- a load of limits: its three steps, which find the sequence word, the thresh word, and the sequence word again
abbrev pub whole_load : (who : Who) (c d first_word thresh_word second_word : ℕ) → List Made
whole_load who c d n m k = record { step = first c d; found = n } ∷ record { step = middle c d; found = m }
    ∷ record { step = limits who d; found = k } ∷ []

-- a load that was stopped made none of its steps, its first, or its first two
pub data IsCutLoad (c d : ℕ) (made : List Made) : Type 0 where
  at_once : made ≡ [] → IsCutLoad c d made
  after_first : (n : ℕ) → made ≡ record { step = first c d; found = n } ∷ [] → IsCutLoad c d made
  after_middle : (n m : ℕ) → made ≡ record { step = first c d; found = n } ∷ record { step = middle c d; found = m } ∷ [] → IsCutLoad c d made

-- a sequence word that was found twice, with an even sequence
abbrev pub is_whole_load : (first_word second_word : ℕ) → Bool
is_whole_load n k = (n == k) && (sequence_in k % 2 == 0)

-- the limits in two words, of which the first has an even sequence
abbrev pub triple_in : (sequence_word thresh_word : ℕ) → Triple
triple_in n m = record { version = sequence_in n / 2; limits = limits_in n m }

-- the CPU has loaded no later version of the domain
abbrev pub IsNewestVersion : (c d version : ℕ) (seat : Seated) → Type 0
IsNewestVersion c d version seat = (r : CpuRecord) → Has seat.cpus c r → All (λ t. t.domain ≡ d → t.version ≤ version) r.triples

-- Fresh where the sequence word is found twice, with an even sequence: then the limits are lawful, and no older than what the CPU had.
-- Again where it isn't: then the answer is what the CPU's record holds, before as after, and lawful. Stopped where the gate said false
abbrev pub LoadsFor : (set : Setting) (who : Who) (c d : ℕ) (said : ℕ → Bool → Type 0) (answer : Loaded) (old new : Seated) → Type 0
LoadsFor set who c d said (loaded.Fresh triple) old new = (n m : ℕ) × (is_whole_load n n ≡ true) × (triple ≡ triple_in n m) × IsLawful triple.limits
    × IsNewestVersion c d triple.version old × MakesAll set c said (whole_load who c d n m n) old new
LoadsFor set who c d said (loaded.Again held n k) old new = (m : ℕ) × (is_whole_load n k ≡ false)
    × Holds new.cpus c (λ r. held ≡ triple_of (held_of set d r.triples)) × IsLawful held.limits × MakesAll set c said (whole_load who c d n m k) old new
LoadsFor set who c d said loaded.Stopped old new = (made : List Made) × IsCutLoad c d made
    × Holds new.cpus c (λ r. said r.steps false) × MakesAll set c said made old new

-- by the CPU that steps for who loads
abbrev pub LoadsLimits : (set : Setting) (who : Who) (d : ℕ) (said : ℕ → Bool → Type 0) (answer : Loaded) (old new : Seated) → Type 0
LoadsLimits set who d said answer old new = LoadsFor set who (cpu_for set who) d said answer old new

-- the seat holds who loads limits, which isn't the timer
abbrev pub HoldsLoader : (set : Setting) (who : Who) (seat : Seated) → Type 0
HoldsLoader set (Writer w) seat = (w < set.writers) × ((r : CpuRecord) × Has seat.cpus (set.seat w) r)
HoldsLoader set (Cpu i) seat = (i < set.cpus) × ((r : CpuRecord) × Has seat.cpus i r)
HoldsLoader set Timer seat = ⊥

-- the seat holds who loads
abbrev pub HoldsWho : (set : Setting) (who : Who) (seat : Seated) → Type 0
HoldsWho set (Writer w) seat = (w < set.writers) × ((r : CpuRecord) × Has seat.cpus (set.seat w) r)
HoldsWho set (Cpu i) seat = (i < set.cpus) × ((r : CpuRecord) × Has seat.cpus i r)
HoldsWho set Timer seat = (r : TimerRecord) × (seat.timer ≡ Some r)

-- no version of the counter that who loads has recorded is after this one
abbrev pub IsNewest : (set : Setting) (who : Who) (x : Counter) (version : ℕ) (seat : Seated) → Type 0
IsNewest set (Writer w) x version seat = (r : CpuRecord) → Has seat.cpus (set.seat w) r → NoneAhead version x r
IsNewest set (Cpu i) x version seat = (r : CpuRecord) → Has seat.cpus i r → NoneAhead version x r
IsNewest set Timer x version seat = (r : TimerRecord) → seat.timer ≡ Some r → AreBehind version x r.readings

-- publish

-- steps of the timer one after another, and what each found; the gate was asked before each
abbrev pub timer_of : (made : List Made) (r : TimerRecord) → TimerRecord
timer_of [] r = r
timer_of (m ∷ more) r = timer_of more (timer_after m.step m.found r)

-- the gate was asked before each step of the timer, by the steps that its record had, and said true
abbrev pub AskedTimer : (said : ℕ → Bool → Type 0) (made : List Made) (r : TimerRecord) → Type 0
AskedTimer said [] r = Unit {0}
AskedTimer said (m ∷ more) r = said r.steps true × AskedTimer said more (timer_after m.step m.found r)

-- the timer, where the seat holds it, made these steps, and its log has each; no CPU's record or log changes
pub record TimesAll (set : Setting) (said : ℕ → Bool → Type 0) (made : List Made) (old new : Seated) : Type 0 where
  pub table : new.table ≡ old.table
  pub layout : new.layout ≡ old.layout
  pub cpus : new.cpus ≡ old.cpus
  pub timer : (r : TimerRecord) → old.timer ≡ Some r → (new.timer ≡ Some (timer_of made r)) × AskedTimer said made r
  pub logs : new.logs ≡ old.logs
  pub timer_log : (log : List Logged) → old.timer_log ≡ Some log
      → (log' : List Logged) × LogsSteps set timer_log_of made log log' × (new.timer_log ≡ Some log')

-- lawful limits whose hard limit is at most the peak that was raised last for their domain
pub record MayPut (d : ℕ) (triple : Limits) (r : TimerRecord) : Type 0 where
  pub lawful : IsLawful triple
  pub raised_before : IsSomeAnd (last_raised d r.raised) (λ hard. triple.hard ≤ hard)

-- the sequence of the domain is odd
abbrev pub IsUnsealed : (d : ℕ) (r : TimerRecord) → Type 0
IsUnsealed d r = is_sealed (stage_of d r.drafts) ≡ false

-- the steps of a publication: the first is left out where the sequence was odd
abbrev pub unsealing_step : (d n : ℕ) → Made
unsealing_step d n = record { step = unseal d; found = n }

-- the step that changes the thresh word, and what it found there
abbrev pub drafting_step : (d : ℕ) (triple : Limits) (n : ℕ) → Made
drafting_step d triple n = record { step = thresh d triple; found = n }

-- the step that publishes and makes the sequence even again, and what it found in the sequence word
abbrev pub sealing_step : (d : ℕ) (triple : Limits) (n : ℕ) → Made
sealing_step d triple n = record { step = publish d triple; found = n }

-- all steps of a publication, for a sequence that was even before, or odd
abbrev pub IsWholePut : (d : ℕ) (triple : Limits) (was_sealed : Bool) (made : List Made) → Type 0
IsWholePut d triple true made = (k n m : ℕ) × (made ≡ unsealing_step d k ∷ drafting_step d triple n ∷ sealing_step d triple m ∷ [])
IsWholePut d triple false made = (n m : ℕ) × (made ≡ drafting_step d triple n ∷ sealing_step d triple m ∷ [])

-- the first of them, or none
pub data IsCutPut (d : ℕ) (triple : Limits) (was_sealed : Bool) (made : List Made) : Type 0 where
  at_once : made ≡ [] → IsCutPut d triple was_sealed made
  after_unseal : (k : ℕ) → was_sealed ≡ true → made ≡ unsealing_step d k ∷ [] → IsCutPut d triple was_sealed made
  after_thresh : (n : ℕ) → was_sealed ≡ false → made ≡ drafting_step d triple n ∷ [] → IsCutPut d triple was_sealed made
  after_both : (k n : ℕ) → was_sealed ≡ true → made ≡ unsealing_step d k ∷ drafting_step d triple n ∷ [] → IsCutPut d triple was_sealed made

-- Done where all steps were made. Stopped where the gate said false after some of them. Last where the sequence is the last one
abbrev pub Puts : (set : Setting) (d : ℕ) (triple : Limits) (said : ℕ → Bool → Type 0) (answer : Put) (old new : Seated) → Type 0
Puts set d triple said put.Done old new = (made : List Made) × TimesAll set said made old new
    × ((r : TimerRecord) → old.timer ≡ Some r → IsWholePut d triple (is_sealed (stage_of d r.drafts)) made)
Puts set d triple said put.Stopped old new = (made : List Made) × TimesAll set said made old new
    × ((r : TimerRecord) → old.timer ≡ Some r → IsCutPut d triple (is_sealed (stage_of d r.drafts)) made)
    × ((r : TimerRecord) → new.timer ≡ Some r → said r.steps false)
Puts set d triple said put.Last old new = (new ≡ old) × ((r : TimerRecord) → old.timer ≡ Some r → sequence_of r d ≡ LAST_SEQUENCE)

-- the kept steps of the timer, after one more
abbrev pub ticked : (timer : Option ℕ) → Option ℕ
ticked None = None
ticked (Some steps) = Some (one_more steps)

-- a shared word as a version and a count of pages
abbrev pub count_of : (word : ℕ) → Count
count_of word = record { version = version_in word; value = count_in word }

-- all seats together

-- the seat holds each CPU and the timer
pub record HoldsAll (seat : Seated) : Type 0 where
  pub cpus : (i : ℕ) → i < seat.layout.cpus → (r : CpuRecord) × Has seat.cpus i r
  pub timer : (r : TimerRecord) × (seat.timer ≡ Some r)

-- the state has the seat's records
pub record HasRecords (seat : Seated) (s : State) : Type 0 where
  pub cpus : (i : ℕ) (r : CpuRecord) → Has seat.cpus i r → s.cpu i ≡ r
  pub timer : (r : TimerRecord) → seat.timer ≡ Some r → s.timer ≡ r

-- nobody owes the inode a mark or one of its pages a rescan
pub record OwesInodeNothing (set : Setting) (n : ℕ) (seat : Seated) : Type 0 where
  pub no_mark : (i : ℕ) (r : CpuRecord) → Has seat.cpus i r → times_in n r.owed_marks ≡ 0
  pub no_rescan : (i p : ℕ) (r : CpuRecord) → Has seat.cpus i r → set.inode p ≡ n → times_in p r.owed_rescans ≡ 0

-- in a state with the seat's records, which meets the rule, no page of the inode is dirty
pub record HasNoDirtyPage (set : Setting) (n : ℕ) (seat : Seated) : Type 0 where
  pub state : State
  pub rule : Rule set state
  pub records : HasRecords seat state
  pub clean : (p : ℕ) → p < set.pages → set.inode p ≡ n → (state.book p).dirty ≡ false
