-- Which devices' inodes are written for their age, and when an inode is due.
use Rattle.std.specs.Prelude.{ℕ, ◌+◌, ◌*◌, Bool, false, ◌&&◌, ◌||◌, ◌==◌, is_some, unwrap_or, List, [], ◌∷◌}
use Rattle.wbt_rules.specs.Things.{context_at, context_of}
use Rattle.wbt_rules.specs.declared.age.TheConstants.{DEFAULT_EXPIRE, EXPIRE_TICKS}
use Rattle.wbt_trace.specs.declared.trace.Context.{Context}
use Rattle.wbt_trace.specs.declared.trace.Trace.{Trace}

-- a context of the device says after how long its inodes are due
unfoldable pub ages_in : (device : ℕ) (contexts : List Context) → Bool
ages_in device [] = false
ages_in device (context ∷ more) = (context.device == device && is_some context.expire) || ages_in device more

-- the device's inodes are written for their age
abbrev pub is_ageing : (trace : Trace) (device : ℕ) → Bool
is_ageing trace device = ages_in device trace.contexts

-- after how many ticks an inode of the context is due
abbrev pub expire_of : (context : Context) → ℕ
expire_of context = EXPIRE_TICKS * unwrap_or context.expire DEFAULT_EXPIRE

-- and of that of a trace
unfoldable pub expire_ticks : (trace : Trace) (context : ℕ) → ℕ
expire_ticks trace context = expire_of (context_at trace context)

-- the moment at which an inode is due that was noticed at one, in ticks
abbrev pub due_after : (trace : Trace) (inode since : ℕ) → ℕ
due_after trace inode since = since + expire_ticks trace (context_of trace inode)
