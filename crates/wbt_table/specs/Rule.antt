-- The rule of the table: there is a state of the step relation that words and views show, and it meets the relation's rule.
use Rattle.std.specs.Prelude.{◌≡◌, ◌≢◌, ℕ, zero, suc, ◌<◌, List, [], ◌∷◌, replicate, length, get_or, slice_set, slice_index_or, Bool, Option, Some, None, ℤ}
use mathlib.Core.Option.{some}
use lib.ListN.{get_elem?}
use Rattle.atomic_table.specs.Table as table
use Rattle.atomic_table.specs.Table.{Me}
use Rattle.wbt_counter.specs.declared.counter.Counter.{Counter}
use Rattle.wbt_counter.specs.Sums.{one_if}
use Rattle.wbt_counter.specs.Word.{packed, own_word}
use Rattle.wbt_counter.specs.History.{History, sum_of}
use Rattle.wbt_book.specs.Book.{Book}
use Rattle.wbt_book.specs.PageWords.{shared_word}
use Rattle.wbt_grant.specs.declared.record.CpuRecord.{CpuRecord}
use Rattle.wbt_grant.specs.declared.record.TimerRecord.{TimerRecord}
use Rattle.wbt_grant.specs.Setting.{Setting, IsSetting, FitsWords}
use Rattle.wbt_grant.specs.State.{State, opening, no_record}
use Rattle.wbt_grant.specs.Kinds.{Step, MayGrant, sequence_now, thresh_now, Allowed}
use Rattle.wbt_grant.specs.Record.{granted}
use Rattle.wbt_grant.specs.Rule as grant
use Rattle.wbt_grant.specs.Seats.{maker_of, found_by, record_after, timer_after}
use Rattle.wbt_table.specs.declared.layout.Layout.{Layout}
use Rattle.wbt_table.specs.declared.rule.View.{View}
use Rattle.wbt_table.specs.declared.rule.Granted.{Granted}
use Rattle.wbt_table.specs.declared.rule.Logged.{Logged}
use Rattle.wbt_table.specs.History.{Past, state_after, AreMade, log_of, timer_log_of, LogsStep}
use Rattle.wbt_table.specs.Layout.{setting, domains, HasCounter, page_at, mark_at, shared_at, own_at, sequence_at, thresh_at, peak_at, width}

-- what the words show, by parts of the state

-- the page words have the bits of all pages
pub record ShowsPages (key : Layout) (words : List ℕ) (book : Book) : Type 0 where
  pub each : (p : ℕ) → p < (setting key).pages → get_or words (page_at p) 0 ≡ shared_word book p

-- an inode's word is 1 where the inode is marked, else 0
pub record ShowsMarks (key : Layout) (words : List ℕ) (marked : ℕ → Bool) : Type 0 where
  pub each : (n : ℕ) → n < length key.inodes → get_or words (mark_at key n) 0 ≡ one_if (marked n)

-- each shared word has the version and the sum of its counter's folds
pub record ShowsShared (key : Layout) (words : List ℕ) (folds : Counter → History) : Type 0 where
  pub each : (x : Counter) → HasCounter key x → get_or words (shared_at key x) 0 ≡ packed (length (folds x)) (sum_of (folds x))

-- each own word has its CPU's own number
pub record ShowsOwn (key : Layout) (words : List ℕ) (own : Counter → ℕ → ℤ) : Type 0 where
  pub each : (x : Counter) (i : ℕ) → HasCounter key x → i < key.cpus → get_or words (own_at key x i) 0 ≡ own_word (own x i)

-- the two words of a domain's limits
pub record LimitWords : Type 0 where
  pub sequence_word : ℕ
  pub thresh_word : ℕ

-- the two words of the domain d in a state
abbrev pub limit_words : (key : Layout) (s : State) (d : ℕ) → LimitWords
limit_words key s d = record { sequence_word = sequence_now (setting key) d s; thresh_word = thresh_now (setting key) d s }

-- the words of limits are these
pub record ShowsLimits (key : Layout) (words : List ℕ) (now : ℕ → LimitWords) : Type 0 where
  pub sequence_words : (d : ℕ) → d < domains key → get_or words (sequence_at key d) 0 ≡ (now d).sequence_word
  pub thresh_words : (d : ℕ) → d < domains key → get_or words (thresh_at key d) 0 ≡ (now d).thresh_word

-- the peaks are these, in pages
pub record ShowsPeaks (key : Layout) (words : List ℕ) (peak : ℕ → ℕ) : Type 0 where
  pub each : (d : ℕ) → d < domains key → get_or words (peak_at key d) 0 ≡ peak d

-- the words are those of a state
pub record Shows (key : Layout) (words : List ℕ) (s : State) : Type 0 where
  pub first : get_or words 0 0 ≡ 0  -- nothing stands in the word of split and join
  pub pages : ShowsPages key words s.book
  pub marks : ShowsMarks key words s.marked
  pub shared : ShowsShared key words s.folds
  pub own : ShowsOwn key words s.own
  pub limits : ShowsLimits key words (limit_words key s)
  pub peaks : ShowsPeaks key words s.peak

-- the records of the CPUs that a seat holds, by number
abbrev pub Cpus : Type 0
Cpus = List (Option CpuRecord)

-- the CPU c is among these, with the record r
abbrev pub Has : (cpus : Cpus) (c : ℕ) (r : CpuRecord) → Type 0
Has cpus c r = get_elem? cpus c ≡ some (Some r)

-- the CPU c is among these, with a record that meets P
abbrev pub Holds : (cpus : Cpus) (c : ℕ) (P : CpuRecord → Type 0) → Type 0
Holds cpus c P = (r : CpuRecord) × Has cpus c r × P r

-- with another record of the CPU c
abbrev pub put_record : (c : ℕ) (r : CpuRecord) (cpus : Cpus) → Cpus
put_record c r cpus = slice_set cpus c (Some r)

-- the logs of these CPUs, by number
abbrev pub Logs : Type 0
Logs = List (Option (List Logged))

-- the CPU c is among these, with this log
abbrev pub HasLog : (logs : Logs) (c : ℕ) (log : List Logged) → Type 0
HasLog logs c log = get_elem? logs c ≡ some (Some log)

-- that of the CPU c, where there is one, becomes another
abbrev pub put_log : (c : ℕ) (log : List Logged) (logs : Logs) → Logs
put_log c log [] = []
put_log zero log (None ∷ logs) = None ∷ logs
put_log zero log (Some old ∷ logs) = Some log ∷ logs
put_log (suc c) log (old ∷ logs) = old ∷ put_log c log logs

-- what the first seat knows: every CPU and the timer, of which none did anything yet
abbrev pub first_view : (key : Layout) → View
first_view key = record {
  layout = key;
  cpus = replicate key.cpus (Some no_record);
  timer = Some (opening (setting key)).timer;
  logs = replicate key.cpus (Some []);
  timer_log = Some [];
}

-- What holds between any two steps of any threads: words, records and logs are those of all that was made since the opening, in one
-- order
pub record Kept (key : Layout) (s : table.State (Unit {0}) View) : Type 0 where
  pub state : State
  pub lawful : IsSetting (setting key)
  pub fits : FitsWords (setting key)
  pub past : Past
  pub are_made : AreMade (setting key) past
  pub state_is : state ≡ state_after (setting key) past
  pub shows : Shows key s.words state
  pub rule : grant.Rule (setting key) state
  pub long : length s.words ≡ width key
  -- each CPU's record stands in at most one view, and is that of the state; so does its log, and has all that it made
  pub owner : ℕ → ℕ
  pub seated : (j c : ℕ) (v : View) (r : CpuRecord) → get_elem? s.views j ≡ some v → Has v.cpus c r → (owner c ≡ j) × (state.cpu c ≡ r)
  pub told : (j c : ℕ) (v : View) (log : List Logged) → get_elem? s.views j ≡ some v → HasLog v.logs c log
      → (owner c ≡ j) × (log_of (setting key) c past ≡ log)
  -- and so do the timer's
  pub timer_owner : ℕ
  pub timed : (j : ℕ) (v : View) (r : TimerRecord) → get_elem? s.views j ≡ some v → v.timer ≡ Some r → (timer_owner ≡ j) × (state.timer ≡ r)
  pub timer_told : (j : ℕ) (v : View) (log : List Logged) → get_elem? s.views j ≡ some v → v.timer_log ≡ Some log
      → (timer_owner ≡ j) × (timer_log_of past ≡ log)

-- a grant that its CPU's record hasn't yet
abbrev pub given : (grants : Option Granted) (r : CpuRecord) → CpuRecord
given None r = r
given (Some g) r = granted g.writer g.left r

-- it is one to a writer of this CPU, and may be made
abbrev pub MayGive : (set : Setting) (c : ℕ) (grants : Option Granted) (r : CpuRecord) → Type 0
MayGive set c None r = Unit {0}
MayGive set c (Some g) r = (set.seat g.writer ≡ c) × MayGrant set g.writer g.left r

-- what a step is, and the grant that its CPU's record gets with it
pub record GrantedStep : Type 0 where
  pub setting : Setting
  pub step : Step
  pub grants : Option Granted

-- a seat's view and slots
abbrev pub Sat : Type 0
Sat = Me (Unit {0}) View

-- the number n was found by a step of a CPU in a state that meets the rule and has the records that the seat had: r, with the
-- grant, for the CPU
pub record Found (turn : GrantedStep) (n : ℕ) (r : CpuRecord) (v : View) : Type 0 where
  pub state : State
  pub lawful : IsSetting turn.setting
  pub rule : grant.Rule turn.setting state
  pub record_is : state.cpu (maker_of turn.setting turn.step) ≡ given turn.grants r
  pub others : (j : ℕ) (q : CpuRecord) → j ≢ maker_of turn.setting turn.step → Has v.cpus j q → state.cpu j ≡ q
  pub timer : (t : TimerRecord) → v.timer ≡ Some t → state.timer ≡ t
  pub allowed : Allowed turn.setting turn.step state
  pub found_is : found_by turn.setting turn.step state ≡ n

-- the log of one CPU comes to one that P tells of, and no other changes
abbrev pub LogChanges : (c : ℕ) (P : List Logged → List Logged → Type 0) (old new : Logs) → Type 0
LogChanges c P old new = (log' : List Logged) × (new ≡ put_log c log' old) × ((log : List Logged) → HasLog old c log → P log log')

-- a step of a CPU that the seat holds found n
pub record Turned (turn : GrantedStep) (n : ℕ) (old new : Sat) : Type 0 where
  pub cpus : (r : CpuRecord) → Has old.0.cpus (maker_of turn.setting turn.step) r
      → new.0.cpus ≡ put_record (maker_of turn.setting turn.step) (record_after turn.setting turn.step n (given turn.grants r)) old.0.cpus
  pub layout : new.0.layout ≡ old.0.layout
  pub timer : new.0.timer ≡ old.0.timer
  pub logs : LogChanges (maker_of turn.setting turn.step) (LogsStep turn.setting (log_of turn.setting (maker_of turn.setting turn.step)) turn.grants turn.step n) old.0.logs new.0.logs
  pub timer_log : new.0.timer_log ≡ old.0.timer_log
  pub slots : new.1 ≡ old.1
  pub found : (r : CpuRecord) → Has old.0.cpus (maker_of turn.setting turn.step) r → Found turn n r old.0

-- the same for a step of the timer
pub record TimerFound (turn : GrantedStep) (n : ℕ) (r : TimerRecord) (v : View) : Type 0 where
  pub state : State
  pub lawful : IsSetting turn.setting
  pub rule : grant.Rule turn.setting state
  pub record_is : state.timer ≡ r
  pub others : (j : ℕ) (q : CpuRecord) → Has v.cpus j q → state.cpu j ≡ q
  pub found_is : found_by turn.setting turn.step state ≡ n

-- a step of the timer, which the seat holds, found n
pub record Ticked (turn : GrantedStep) (n : ℕ) (old new : Sat) : Type 0 where
  pub timer : (r : TimerRecord) → old.0.timer ≡ Some r → new.0.timer ≡ Some (timer_after turn.step n r)
  pub layout : new.0.layout ≡ old.0.layout
  pub cpus : new.0.cpus ≡ old.0.cpus
  pub timer_log : (log : List Logged) → old.0.timer_log ≡ Some log
      → (log' : List Logged) × LogsStep turn.setting timer_log_of None turn.step n log log' × (new.0.timer_log ≡ Some log')
  pub logs : new.0.logs ≡ old.0.logs
  pub slots : new.1 ≡ old.1
  pub found : (r : TimerRecord) → old.0.timer ≡ Some r → TimerFound turn n r old.0

-- how a view is cut: one CPU goes with its log, or the timer does
module _ {A : Type 0} where
  abbrev pub without_cpu : (c : ℕ) (cpus : List (Option A)) → List (Option A)
  without_cpu c cpus = slice_set cpus c None

  abbrev pub apart : (c : ℕ) (cpus : List (Option A)) → List (Option A)
  apart c cpus = slice_set (replicate (length cpus) None) c (slice_index_or cpus c None)

-- the old view, without the CPU c and its log
abbrev pub without : (c : ℕ) (v : View) → View
without c v = record { layout = v.layout; cpus = without_cpu c v.cpus; timer = v.timer; logs = without_cpu c v.logs; timer_log = v.timer_log }

-- the new view, with the CPU c and its log alone
abbrev pub alone : (c : ℕ) (v : View) → View
alone c v = record { layout = v.layout; cpus = apart c v.cpus; timer = None; logs = apart c v.logs; timer_log = None }

-- the old view, without the timer and its log
abbrev pub without_timer : (v : View) → View
without_timer v = record { layout = v.layout; cpus = v.cpus; timer = None; logs = v.logs; timer_log = None }

-- the new view, with the timer and its log alone
abbrev pub timer_alone : (v : View) → View
timer_alone v = record {
  layout = v.layout;
  cpus = replicate (length v.cpus) None;
  timer = v.timer;
  logs = replicate (length v.logs) None;
  timer_log = v.timer_log;
}

-- how two views are made one: where the second has something, it is taken
module _ {A : Type 0} where
  abbrev pub or_else : (x y : Option A) → Option A
  or_else x (Some r) = Some r
  or_else x None = x

  abbrev pub merged : (xs ys : List (Option A)) → List (Option A)
  merged [] ys = []
  merged (x ∷ xs) [] = x ∷ xs
  merged (x ∷ xs) (y ∷ ys) = or_else x y ∷ merged xs ys

-- one view that has what two had
abbrev pub both_of : (v w : View) → View
both_of v w = record {
  layout = v.layout;
  cpus = merged v.cpus w.cpus;
  timer = or_else v.timer w.timer;
  logs = merged v.logs w.logs;
  timer_log = or_else v.timer_log w.timer_log;
}

-- a layout of nothing
abbrev pub no_layout : Layout
no_layout = record { cpus = 0; cap = 0; firsts = []; contexts = []; inodes = []; writers = []; page_steps = 0 }

-- what is left of a view that went to another
abbrev pub spent_view : View
spent_view = record { layout = no_layout; cpus = []; timer = None; logs = []; timer_log = None }
