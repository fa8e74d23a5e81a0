-- What a line with a word and fields says, if a plain journal may have it.
use Rattle.std.specs.Prelude.{ℕ, ℤ, pos, negsuc, ◌^◌, Bool, true, false, nat_lt, if◌then◌else◌, List, [], ◌∷◌, Option, Some, None}
use Rattle.wbt_counter.specs.declared.counter.Counter.{Counter}
use Rattle.wbt_counter.specs.declared.counter.Counter.TheVariants as counter
use Rattle.wbt_pause.specs.declared.decision.Kind.{Kind}
use Rattle.wbt_pause.specs.declared.decision.Kind.TheVariants as kind
use Rattle.wbt_journal.specs.declared.entry.Entry.TheVariants as entry
use Rattle.wbt_journal.specs.declared.field.Field.{Field}
use Rattle.wbt_journal.specs.declared.field.Field.TheVariants.{Name, Int, Domain, Context}
use Rattle.wbt_journal.specs.declared.journal.Ending.{Ending}
use Rattle.wbt_journal.specs.declared.journal.Ending.TheVariants as ending
use Rattle.wbt_journal_reader.specs.declared.row.Row.{Row}
use Rattle.wbt_journal_reader.specs.declared.row.Row.TheVariants as row
use Rattle.wbt_journal.specs.declared.timer.TimerEntry.TheVariants as timed
use Rattle.wbt_journal.specs.declared.word.Word.{Word}
use Rattle.wbt_journal.specs.declared.word.Word.TheVariants as word

-- ---- what a field tells, of those that its line may have at its place

-- a number of 32 bits
abbrev pub small_of : (field : Field) → Option ℕ
small_of (Int (pos n)) = if nat_lt n (2 ^ 32) then Some n else None
small_of other = None

-- a number of 64 bits
abbrev pub big_of : (field : Field) → Option ℕ
big_of (Int (pos n)) = if nat_lt n (2 ^ 64) then Some n else None
big_of other = None

-- a number of 64 bits that may be below zero
abbrev pub signed_of : (field : Field) → Option ℤ
signed_of (Int (pos n)) = if nat_lt n (2 ^ 63) then Some (pos n) else None
signed_of (Int (negsuc n)) = if nat_lt n (2 ^ 63) then Some (negsuc n) else None
signed_of other = None

-- the name of a counter
abbrev pub counter_of : (field : Field) → Option Counter
counter_of (Domain domain) = Some (counter.Domain domain)
counter_of (Context context) = Some (counter.Context context)
counter_of other = None

-- the word that says whether a page was clean
abbrev pub fresh_of : (field : Field) → Option Bool
fresh_of (Name word.Fresh) = Some true
fresh_of (Name word.Already) = Some false
fresh_of other = None

-- the word of a decision's kind
abbrev pub kind_of : (field : Field) → Option Kind
kind_of (Name word.Free) = Some kind.Free
kind_of (Name word.Go) = Some kind.Go
kind_of (Name word.Exempt) = Some kind.Exempt
kind_of (Name word.Wait) = Some kind.Wait
kind_of other = None

-- the word that says whether a page was absorbed or is dirty again
abbrev pub absorbed_of : (field : Field) → Option Bool
absorbed_of (Name word.Absorbed) = Some true
absorbed_of (Name word.Dirty) = Some false
absorbed_of other = None

-- bit 0 is dirty, bit 1 is under writeback
abbrev pub bits_of : (field : Field) → Option ℕ
bits_of (Name word.Dirty) = Some 1
bits_of (Name word.Writeback) = Some 2
bits_of (Name word.Both) = Some 3
bits_of other = None

-- the word of an ending
abbrev pub ending_of : (field : Field) → Option Ending
ending_of (Name word.Done) = Some ending.Done
ending_of (Name word.Halted) = Some ending.Halted
ending_of (Name word.Spent) = Some ending.Spent
ending_of (Name word.Faulted) = Some ending.Faulted
ending_of other = None

-- ---- the kinds of fields

-- what a field of a line tells
pub data FieldKind : Type 0 where
  -- a number of 32 bits: a thing, or a batch's pages
  small : FieldKind
  -- a number of 64 bits: pages, ticks, a version, a CPU
  big : FieldKind
  -- a number of 64 bits that may be below zero
  signed : FieldKind
  -- the name of a counter
  counted : FieldKind
  -- the word that says whether a page was clean
  fresh : FieldKind
  -- the word of a decision's kind
  decided : FieldKind
  -- the word that says whether a page was absorbed
  absorbed : FieldKind
  -- the word of a page that is left
  bits : FieldKind
  -- the word of an ending
  ended : FieldKind

-- the values that fields of a kind tell
abbrev pub Value : (field_kind : FieldKind) → Type 0
Value small = ℕ
Value big = ℕ
Value signed = ℤ
Value counted = Counter
Value fresh = Bool
Value decided = Kind
Value absorbed = Bool
Value bits = ℕ
Value ended = Ending

-- the value that a field of a kind tells
abbrev pub value_of : (field_kind : FieldKind) (field : Field) → Option (Value field_kind)
value_of small field = small_of field
value_of big field = big_of field
value_of signed field = signed_of field
value_of counted field = counter_of field
value_of fresh field = fresh_of field
value_of decided field = kind_of field
value_of absorbed field = absorbed_of field
value_of bits field = bits_of field
value_of ended field = ending_of field

-- ---- the table of lines: for each word the kinds of its fields, and the row of their values

-- a row of a value for each kind
abbrev pub RowWith : (kinds : List FieldKind) → Type 0
RowWith [] = Row
RowWith (field_kind ∷ kinds) = Value field_kind → RowWith kinds

-- the kinds of a line's fields, and the row of what they tell
pub record Shape : Type 0 where
  pub kinds : List FieldKind
  pub row_with : RowWith kinds

-- the shape of a line that a plain journal may have
abbrev pub shape : (kinds : List FieldKind) (row_with : RowWith kinds) → Option Shape
shape kinds row_with = Some (record { kinds = kinds; row_with = row_with })

-- the shape of a word's lines; none where a plain journal has no such line
abbrev pub shape_of : (word : Word) → Option Shape
-- the beginning of the timer's entries
shape_of word.Timer = shape [] row.Timer
-- limits of a domain: moment, threshold, background threshold and hard limit
shape_of word.Limits =
    shape (small ∷ big ∷ big ∷ big ∷ big ∷ [])
    (λ domain now thresh bg hard.
    row.Timed (timed.Limits domain now (record { thresh = thresh; bg = bg; hard = hard })))
-- periods of a domain that began at once
shape_of word.Period = shape (small ∷ big ∷ []) (λ domain k. row.Timed (timed.Period domain k))
-- the beginning of a CPU's part
shape_of word.Cpu = shape (big ∷ []) row.Cpu
-- a task's write of a page
shape_of word.Write = shape (small ∷ small ∷ fresh ∷ []) (λ task page was_clean. row.Entry (entry.Write task page was_clean))
-- a fold of a counter under its version
shape_of word.Fold =
    shape (counted ∷ big ∷ signed ∷ [])
    (λ counter version delta.
    row.Entry (entry.Folded (record { counter = counter; version = version; delta = delta })))
-- what a check read of a domain
shape_of word.Read =
    shape (small ∷ big ∷ big ∷ big ∷ big ∷ big ∷ signed ∷ big ∷ big ∷ big ∷ [])
    (λ domain triple thresh bg hard version value period num den.
    row.Read (record { domain = domain; triple = triple; limits = record { thresh = thresh; bg = bg; hard = hard }; count = record { version = version; value = value }; share = record { period = period; num = num; den = den } }))
-- the count of its context that a check loaded
shape_of word.Count = shape (small ∷ big ∷ signed ∷ []) (λ context version value. row.Count context (record { version = version; value = value }))
-- a check's decision
shape_of word.Check =
    shape (small ∷ small ∷ big ∷ big ∷ decided ∷ big ∷ big ∷ big ∷ big ∷ big ∷ [])
    (λ task context now estimate kind pause left nr allowance when.
    row.Check (record { task = task; context = context; now = now; estimate = estimate; decision = record { kind = kind; pause = pause; left = left; task = record { nr_dirtied = nr; nr_dirtied_pause = allowance; paused_when = when }; exceeded = false } }))
-- a flusher's claim of a page
shape_of word.Claim = shape (small ∷ small ∷ []) (λ flusher page. row.Entry (entry.Claimed flusher page))
-- a flusher's batch, with the moments at which it went to the disk and was written
shape_of word.Batch = shape (small ∷ small ∷ big ∷ big ∷ []) (λ flusher pages now until. row.Entry (entry.Batch flusher pages now until))
-- a flusher's completion of a page
shape_of word.Done = shape (small ∷ small ∷ []) (λ flusher page. row.Entry (entry.Done flusher page))
-- what was added for a context in a domain
shape_of word.Share = shape (small ∷ small ∷ big ∷ []) (λ domain context n. row.Entry (entry.Share domain context n))
-- an estimate of a context
shape_of word.Est =
    shape (small ∷ big ∷ big ∷ big ∷ big ∷ big ∷ big ∷ big ∷ big ∷ [])
    (λ context version bw avg ratelimit balanced written dirtied moment.
    row.Estimate (record { context = context; estimate = record { version = version; bw = bw; avg = avg; ratelimit = ratelimit; balanced = balanced; written_stamp = written; dirtied_stamp = dirtied; at = moment } }))
-- a batch that a flusher's disk failed to write
shape_of word.Fault = shape (small ∷ small ∷ []) (λ flusher pages. row.Entry (entry.Fault flusher pages))
-- a page that a flusher gave back
shape_of word.Back = shape (small ∷ small ∷ absorbed ∷ []) (λ flusher page was_absorbed. row.Entry (entry.Back flusher page was_absorbed))
-- an inode that a flusher noticed at a moment
shape_of word.Notice = shape (small ∷ small ∷ big ∷ []) (λ flusher inode since. row.Entry (entry.Noticed flusher inode since))
-- an inode that a flusher took for its age
shape_of word.Age = shape (small ∷ small ∷ big ∷ big ∷ []) (λ flusher inode due now. row.Entry (entry.Aged flusher inode due now))
-- an inode that a flusher took, due or not
shape_of word.Take = shape (small ∷ small ∷ []) (λ flusher inode. row.Entry (entry.Taken flusher inode))
-- a page that is left
shape_of word.Left = shape (small ∷ bits ∷ []) (λ page left_bits. row.Left (record { page = page; word = left_bits }))
-- how many pages are left dirty, and how many under writeback
shape_of word.Census = shape (big ∷ big ∷ []) row.Census
-- how many writes were fresh, and how many pages were done
shape_of word.Totals = shape (big ∷ big ∷ []) row.Totals
-- how the run ended
shape_of word.End = shape (ended ∷ []) row.End
shape_of other = None

-- ---- reading by the table

-- whether there is one field for each kind
abbrev pub as_many : (kinds : List FieldKind) (fields : List Field) → Bool
as_many [] [] = true
as_many (field_kind ∷ kinds) (field ∷ fields) = as_many kinds fields
as_many kinds fields = false

-- the row where the field tells a value; none where it doesn't
abbrev pub with_value : {A : Type 0} (told : Option A) (row_with : A → Option Row) → Option Row
with_value None row_with = None
with_value (Some value) row_with = row_with value

-- the row of the values that the fields tell, one for each kind
abbrev pub told_by : (kinds : List FieldKind) (row_with : RowWith kinds) (fields : List Field) → Option Row
told_by [] row_with fields = Some row_with
told_by (field_kind ∷ kinds) row_with [] = None
told_by (field_kind ∷ kinds) row_with (field ∷ fields) = with_value (value_of field_kind field) (λ value. told_by kinds (row_with value) fields)

-- the row of the fields of a line that has a shape
abbrev pub row_by : (which : Option Shape) (fields : List Field) → Option Row
row_by None fields = None
row_by (Some s) fields = if as_many s.kinds fields then told_by s.kinds s.row_with fields else None

-- the row of a line by its word
abbrev pub row_of : (word : Word) (fields : List Field) → Option Row
row_of word fields = row_by (shape_of word) fields

-- the first field of a line is its word
abbrev pub row_from : (fields : List Field) → Option Row
row_from (Name word ∷ fields) = row_of word fields
row_from other = None
