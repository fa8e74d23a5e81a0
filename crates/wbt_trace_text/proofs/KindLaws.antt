-- Kinds of lines: each has its own words, without a digit or a line feed.
use Rattle.std.proofs.Common.{◌≡◌, ℕ, ◌<◌, List, [], ◌∷◌, ◌++◌, get_or, refl, bytes_eq, if◌then◌else◌, Option, Some, None, sym, ◌∙◌, ap, lit<}
use Rattle.wbt_text.specs.Cut.{Without, HasNoDigit}
use Rattle.wbt_text.proofs.Cuts.{from_lacks, from_lacks_digits}
use Rattle.wbt_trace_text.specs.Lines.{kind_text}
use Rattle.wbt_trace_text.specs.declared.kind.Kind.{Kind}
use Rattle.wbt_trace_text.specs.declared.kind.Kind.TheVariants as kind
use Rattle.wbt_trace_text.specs.declared.kind.TheConstants.{KINDS}

-- where the kind stands in the table of kinds
abbrev pub place_of : Kind → ℕ
place_of kind.Write = 0
place_of kind.Rest = 1
place_of kind.Order = 2
place_of kind.OrderTimer = 3
place_of kind.Tick = 4
place_of kind.Inode = 5
place_of kind.Task = 6
place_of kind.Pace = 7
place_of kind.Avail = 8
place_of kind.Context = 9
place_of kind.Expire = 10
place_of kind.Estimate = 11
place_of kind.Flusher = 12
place_of kind.Device = 13
place_of kind.Strict = 14
place_of kind.Chunk = 15
place_of kind.Cyclic = 16
place_of kind.Cgroup = 17
place_of kind.Cpus = 18
place_of kind.Cap = 19
place_of kind.DirtyRatio = 20
place_of kind.BackgroundRatio = 21
place_of kind.DirtyBytes = 22
place_of kind.BackgroundBytes = 23
place_of kind.Halt = 24

pub place_in : (k : Kind) → place_of k < 25
place_in kind.Write = lit< tt
place_in kind.Rest = lit< tt
place_in kind.Order = lit< tt
place_in kind.OrderTimer = lit< tt
place_in kind.Tick = lit< tt
place_in kind.Inode = lit< tt
place_in kind.Task = lit< tt
place_in kind.Pace = lit< tt
place_in kind.Avail = lit< tt
place_in kind.Context = lit< tt
place_in kind.Expire = lit< tt
place_in kind.Estimate = lit< tt
place_in kind.Flusher = lit< tt
place_in kind.Device = lit< tt
place_in kind.Strict = lit< tt
place_in kind.Chunk = lit< tt
place_in kind.Cyclic = lit< tt
place_in kind.Cgroup = lit< tt
place_in kind.Cpus = lit< tt
place_in kind.Cap = lit< tt
place_in kind.DirtyRatio = lit< tt
place_in kind.BackgroundRatio = lit< tt
place_in kind.DirtyBytes = lit< tt
place_in kind.BackgroundBytes = lit< tt
place_in kind.Halt = lit< tt

pub at_place : (k : Kind) → get_or KINDS (place_of k) kind.Cpus ≡ k
at_place kind.Write = refl
at_place kind.Rest = refl
at_place kind.Order = refl
at_place kind.OrderTimer = refl
at_place kind.Tick = refl
at_place kind.Inode = refl
at_place kind.Task = refl
at_place kind.Pace = refl
at_place kind.Avail = refl
at_place kind.Context = refl
at_place kind.Expire = refl
at_place kind.Estimate = refl
at_place kind.Flusher = refl
at_place kind.Device = refl
at_place kind.Strict = refl
at_place kind.Chunk = refl
at_place kind.Cyclic = refl
at_place kind.Cgroup = refl
at_place kind.Cpus = refl
at_place kind.Cap = refl
at_place kind.DirtyRatio = refl
at_place kind.BackgroundRatio = refl
at_place kind.DirtyBytes = refl
at_place kind.BackgroundBytes = refl
at_place kind.Halt = refl

pub kind_no_digit : (k : Kind) → HasNoDigit (kind_text k ++ 32 ∷ [])
kind_no_digit kind.Write = from_lacks_digits (kind_text kind.Write ++ 32 ∷ []) refl
kind_no_digit kind.Rest = from_lacks_digits (kind_text kind.Rest ++ 32 ∷ []) refl
kind_no_digit kind.Order = from_lacks_digits (kind_text kind.Order ++ 32 ∷ []) refl
kind_no_digit kind.OrderTimer = from_lacks_digits (kind_text kind.OrderTimer ++ 32 ∷ []) refl
kind_no_digit kind.Tick = from_lacks_digits (kind_text kind.Tick ++ 32 ∷ []) refl
kind_no_digit kind.Inode = from_lacks_digits (kind_text kind.Inode ++ 32 ∷ []) refl
kind_no_digit kind.Task = from_lacks_digits (kind_text kind.Task ++ 32 ∷ []) refl
kind_no_digit kind.Pace = from_lacks_digits (kind_text kind.Pace ++ 32 ∷ []) refl
kind_no_digit kind.Avail = from_lacks_digits (kind_text kind.Avail ++ 32 ∷ []) refl
kind_no_digit kind.Context = from_lacks_digits (kind_text kind.Context ++ 32 ∷ []) refl
kind_no_digit kind.Expire = from_lacks_digits (kind_text kind.Expire ++ 32 ∷ []) refl
kind_no_digit kind.Estimate = from_lacks_digits (kind_text kind.Estimate ++ 32 ∷ []) refl
kind_no_digit kind.Flusher = from_lacks_digits (kind_text kind.Flusher ++ 32 ∷ []) refl
kind_no_digit kind.Device = from_lacks_digits (kind_text kind.Device ++ 32 ∷ []) refl
kind_no_digit kind.Strict = from_lacks_digits (kind_text kind.Strict ++ 32 ∷ []) refl
kind_no_digit kind.Chunk = from_lacks_digits (kind_text kind.Chunk ++ 32 ∷ []) refl
kind_no_digit kind.Cyclic = from_lacks_digits (kind_text kind.Cyclic ++ 32 ∷ []) refl
kind_no_digit kind.Cgroup = from_lacks_digits (kind_text kind.Cgroup ++ 32 ∷ []) refl
kind_no_digit kind.Cpus = from_lacks_digits (kind_text kind.Cpus ++ 32 ∷ []) refl
kind_no_digit kind.Cap = from_lacks_digits (kind_text kind.Cap ++ 32 ∷ []) refl
kind_no_digit kind.DirtyRatio = from_lacks_digits (kind_text kind.DirtyRatio ++ 32 ∷ []) refl
kind_no_digit kind.BackgroundRatio = from_lacks_digits (kind_text kind.BackgroundRatio ++ 32 ∷ []) refl
kind_no_digit kind.DirtyBytes = from_lacks_digits (kind_text kind.DirtyBytes ++ 32 ∷ []) refl
kind_no_digit kind.BackgroundBytes = from_lacks_digits (kind_text kind.BackgroundBytes ++ 32 ∷ []) refl
kind_no_digit kind.Halt = from_lacks_digits (kind_text kind.Halt ++ 32 ∷ []) refl

pub kind_no_feed : (k : Kind) → Without 10 (kind_text k)
kind_no_feed kind.Write = from_lacks 10 (kind_text kind.Write) refl
kind_no_feed kind.Rest = from_lacks 10 (kind_text kind.Rest) refl
kind_no_feed kind.Order = from_lacks 10 (kind_text kind.Order) refl
kind_no_feed kind.OrderTimer = from_lacks 10 (kind_text kind.OrderTimer) refl
kind_no_feed kind.Tick = from_lacks 10 (kind_text kind.Tick) refl
kind_no_feed kind.Inode = from_lacks 10 (kind_text kind.Inode) refl
kind_no_feed kind.Task = from_lacks 10 (kind_text kind.Task) refl
kind_no_feed kind.Pace = from_lacks 10 (kind_text kind.Pace) refl
kind_no_feed kind.Avail = from_lacks 10 (kind_text kind.Avail) refl
kind_no_feed kind.Context = from_lacks 10 (kind_text kind.Context) refl
kind_no_feed kind.Expire = from_lacks 10 (kind_text kind.Expire) refl
kind_no_feed kind.Estimate = from_lacks 10 (kind_text kind.Estimate) refl
kind_no_feed kind.Flusher = from_lacks 10 (kind_text kind.Flusher) refl
kind_no_feed kind.Device = from_lacks 10 (kind_text kind.Device) refl
kind_no_feed kind.Strict = from_lacks 10 (kind_text kind.Strict) refl
kind_no_feed kind.Chunk = from_lacks 10 (kind_text kind.Chunk) refl
kind_no_feed kind.Cyclic = from_lacks 10 (kind_text kind.Cyclic) refl
kind_no_feed kind.Cgroup = from_lacks 10 (kind_text kind.Cgroup) refl
kind_no_feed kind.Cpus = from_lacks 10 (kind_text kind.Cpus) refl
kind_no_feed kind.Cap = from_lacks 10 (kind_text kind.Cap) refl
kind_no_feed kind.DirtyRatio = from_lacks 10 (kind_text kind.DirtyRatio) refl
kind_no_feed kind.BackgroundRatio = from_lacks 10 (kind_text kind.BackgroundRatio) refl
kind_no_feed kind.DirtyBytes = from_lacks 10 (kind_text kind.DirtyBytes) refl
kind_no_feed kind.BackgroundBytes = from_lacks 10 (kind_text kind.BackgroundBytes) refl
kind_no_feed kind.Halt = from_lacks 10 (kind_text kind.Halt) refl

-- the kind of a word, by which no two kinds have one word
abbrev first_kind : List ℕ → List Kind → Option Kind
first_kind word [] = None
first_kind word (k ∷ ks) = if bytes_eq word (kind_text k) then Some k else first_kind word ks

again : (k : Kind) → first_kind (kind_text k) KINDS ≡ Some k
again kind.Write = refl
again kind.Rest = refl
again kind.Order = refl
again kind.OrderTimer = refl
again kind.Tick = refl
again kind.Inode = refl
again kind.Task = refl
again kind.Pace = refl
again kind.Avail = refl
again kind.Context = refl
again kind.Expire = refl
again kind.Estimate = refl
again kind.Flusher = refl
again kind.Device = refl
again kind.Strict = refl
again kind.Chunk = refl
again kind.Cyclic = refl
again kind.Cgroup = refl
again kind.Cpus = refl
again kind.Cap = refl
again kind.DirtyRatio = refl
again kind.BackgroundRatio = refl
again kind.DirtyBytes = refl
again kind.BackgroundBytes = refl
again kind.Halt = refl

some_once : {A : Type 0} (a b : A) → Some a ≡ Some b → a ≡ b
some_once a b is = cc

pub kind_once : (a b : Kind) → kind_text a ≡ kind_text b → a ≡ b
kind_once a b is = some_once a b (sym (again a) ∙ ap (λ word. first_kind word KINDS) is ∙ again b)
