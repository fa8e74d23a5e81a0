-- The lines of a trace, and how they are spelled.
use Rattle.std.specs.Prelude.{◌≡◌, ℕ, List, [], ◌∷◌, ◌++◌, codes, Option, Some, None, ⊤}
use Rattle.wbt_text.specs.Numbers.{AreNumbers}
use Rattle.wbt_trace_text.specs.declared.kind.Kind.{Kind}
use Rattle.wbt_trace_text.specs.declared.kind.Kind.TheVariants as kind
use Rattle.wbt_trace_text.specs.declared.line.Line.{Line}
use Rattle.wbt_trace_text.specs.declared.line.Line.TheVariants as line

-- what a line of the kind begins with
abbrev pub kind_text : (k : Kind) → List ℕ
kind_text kind.Cpus = codes "cpus"
kind_text kind.Cap = codes "cap"
kind_text kind.DirtyRatio = codes "set dirty_ratio"
kind_text kind.BackgroundRatio = codes "set dirty_background_ratio"
kind_text kind.DirtyBytes = codes "set dirty_bytes"
kind_text kind.BackgroundBytes = codes "set dirty_background_bytes"
kind_text kind.Avail = codes "avail"
kind_text kind.Device = codes "device"
kind_text kind.Strict = codes "strict"
kind_text kind.Chunk = codes "chunk"
kind_text kind.Cyclic = codes "cyclic"
kind_text kind.Cgroup = codes "cgroup"
kind_text kind.Context = codes "context"
kind_text kind.Expire = codes "expire"
kind_text kind.Estimate = codes "estimate"
kind_text kind.Inode = codes "inode"
kind_text kind.Task = codes "task"
kind_text kind.Pace = codes "pace"
kind_text kind.Flusher = codes "flusher"
kind_text kind.Write = codes "write"
kind_text kind.Rest = codes "rest"
kind_text kind.Order = codes "order"
kind_text kind.OrderTimer = codes "order timer"
kind_text kind.Tick = codes "tick"
kind_text kind.Halt = codes "halt"

-- what a line is about
abbrev pub kind_of : (l : Line) → Kind
kind_of (line.Cpus a) = kind.Cpus
kind_of (line.Cap a) = kind.Cap
kind_of (line.DirtyRatio a) = kind.DirtyRatio
kind_of (line.BackgroundRatio a) = kind.BackgroundRatio
kind_of (line.DirtyBytes a) = kind.DirtyBytes
kind_of (line.BackgroundBytes a) = kind.BackgroundBytes
kind_of (line.Avail a b) = kind.Avail
kind_of (line.Device a b c d) = kind.Device
kind_of (line.Strict a) = kind.Strict
kind_of (line.Chunk a b) = kind.Chunk
kind_of (line.Cyclic a) = kind.Cyclic
kind_of (line.Cgroup a b c) = kind.Cgroup
kind_of (line.Context a b c) = kind.Context
kind_of (line.Expire a b) = kind.Expire
kind_of (line.Estimate a b c d) = kind.Estimate
kind_of (line.Inode a b c) = kind.Inode
kind_of (line.Task a b) = kind.Task
kind_of (line.Pace a b c) = kind.Pace
kind_of (line.Flusher a b c) = kind.Flusher
kind_of (line.Write a b c d) = kind.Write
kind_of (line.Rest a b) = kind.Rest
kind_of (line.Order a b) = kind.Order
kind_of (line.OrderTimer a) = kind.OrderTimer
kind_of (line.Tick a) = kind.Tick
kind_of (line.Halt a) = kind.Halt

-- a line of a device: its rate and shares, that it is strict, its chunk, or that its scans go round
abbrev pub IsOfDevice : (l : Line) → Type 0
IsOfDevice (line.Device a b c d) = ⊤
IsOfDevice (line.Strict a) = ⊤
IsOfDevice (line.Chunk a b) = ⊤
IsOfDevice (line.Cyclic a) = ⊤
IsOfDevice other = ⊥

-- a line of a context: its device and domain, after how long its inodes are due, or its first estimate
abbrev pub IsOfContext : (l : Line) → Type 0
IsOfContext (line.Context a b c) = ⊤
IsOfContext (line.Expire a b) = ⊤
IsOfContext (line.Estimate a b c d) = ⊤
IsOfContext other = ⊥

-- a line that says what happens: an action of a task, or an order that is forced on a replay
abbrev pub SaysWhatHappens : (l : Line) → Type 0
SaysWhatHappens (line.Write a b c d) = ⊤
SaysWhatHappens (line.Rest a b) = ⊤
SaysWhatHappens (line.Order a b) = ⊤
SaysWhatHappens (line.OrderTimer a) = ⊤
SaysWhatHappens (line.Tick a) = ⊤
SaysWhatHappens other = ⊥

-- the numbers of a line, in their order
abbrev pub numbers_of : (l : Line) → List ℕ
numbers_of (line.Cpus a) = a ∷ []
numbers_of (line.Cap a) = a ∷ []
numbers_of (line.DirtyRatio a) = a ∷ []
numbers_of (line.BackgroundRatio a) = a ∷ []
numbers_of (line.DirtyBytes a) = a ∷ []
numbers_of (line.BackgroundBytes a) = a ∷ []
numbers_of (line.Avail a b) = a ∷ b ∷ []
numbers_of (line.Device a b c d) = a ∷ b ∷ c ∷ d ∷ []
numbers_of (line.Strict a) = a ∷ []
numbers_of (line.Chunk a b) = a ∷ b ∷ []
numbers_of (line.Cyclic a) = a ∷ []
numbers_of (line.Cgroup a b c) = a ∷ b ∷ c ∷ []
numbers_of (line.Context a b c) = a ∷ b ∷ c ∷ []
numbers_of (line.Expire a b) = a ∷ b ∷ []
numbers_of (line.Estimate a b c d) = a ∷ b ∷ c ∷ d ∷ []
numbers_of (line.Inode a b c) = a ∷ b ∷ c ∷ []
numbers_of (line.Task a b) = a ∷ b ∷ []
numbers_of (line.Pace a b c) = a ∷ b ∷ c ∷ []
numbers_of (line.Flusher a b c) = a ∷ b ∷ c ∷ []
numbers_of (line.Write a b c d) = a ∷ b ∷ c ∷ d ∷ []
numbers_of (line.Rest a b) = a ∷ b ∷ []
numbers_of (line.Order a b) = a ∷ b ∷ []
numbers_of (line.OrderTimer a) = a ∷ []
numbers_of (line.Tick a) = a ∷ []
numbers_of (line.Halt a) = a ∷ []

-- the line of a kind that has one number, two, three or four
abbrev pub of_one : (k : Kind) (a : ℕ) → Option Line
of_one kind.Cpus a = Some (line.Cpus a)
of_one kind.Cap a = Some (line.Cap a)
of_one kind.DirtyRatio a = Some (line.DirtyRatio a)
of_one kind.BackgroundRatio a = Some (line.BackgroundRatio a)
of_one kind.DirtyBytes a = Some (line.DirtyBytes a)
of_one kind.BackgroundBytes a = Some (line.BackgroundBytes a)
of_one kind.Strict a = Some (line.Strict a)
of_one kind.Cyclic a = Some (line.Cyclic a)
of_one kind.OrderTimer a = Some (line.OrderTimer a)
of_one kind.Tick a = Some (line.Tick a)
of_one kind.Halt a = Some (line.Halt a)
of_one other a = None

-- the line of a kind that has two numbers
abbrev pub of_two : (k : Kind) (a b : ℕ) → Option Line
of_two kind.Avail a b = Some (line.Avail a b)
of_two kind.Chunk a b = Some (line.Chunk a b)
of_two kind.Expire a b = Some (line.Expire a b)
of_two kind.Task a b = Some (line.Task a b)
of_two kind.Rest a b = Some (line.Rest a b)
of_two kind.Order a b = Some (line.Order a b)
of_two other a b = None

-- the line of a kind that has three numbers
abbrev pub of_three : (k : Kind) (a b c : ℕ) → Option Line
of_three kind.Cgroup a b c = Some (line.Cgroup a b c)
of_three kind.Context a b c = Some (line.Context a b c)
of_three kind.Inode a b c = Some (line.Inode a b c)
of_three kind.Pace a b c = Some (line.Pace a b c)
of_three kind.Flusher a b c = Some (line.Flusher a b c)
of_three other a b c = None

-- the line of a kind that has four numbers
abbrev pub of_four : (k : Kind) (a b c d : ℕ) → Option Line
of_four kind.Device a b c d = Some (line.Device a b c d)
of_four kind.Estimate a b c d = Some (line.Estimate a b c d)
of_four kind.Write a b c d = Some (line.Write a b c d)
of_four other a b c d = None

-- the line of a kind with these numbers
abbrev pub line_from : (k : Kind) (ns : List ℕ) → Option Line
line_from k (a ∷ []) = of_one k a
line_from k (a ∷ b ∷ []) = of_two k a b
line_from k (a ∷ b ∷ c ∷ []) = of_three k a b c
line_from k (a ∷ b ∷ c ∷ d ∷ []) = of_four k a b c d
line_from k ns = None

-- The text is that of the line.
abbrev pub IsLine : (text : List ℕ) (l : Line) → Type 0
IsLine text l = (rest : List ℕ) × (text ≡ kind_text (kind_of l) ++ 32 ∷ rest) × AreNumbers rest (numbers_of l)
