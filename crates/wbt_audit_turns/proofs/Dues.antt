-- An inode is due so soon after it was noticed as a wheel reaches.
use Rattle.std.proofs.Common.{ℕ, ◌+◌, ◌*◌, ◌^◌, ◌<◌, ◌≤◌, Option, Some, None, IfSome, length, unwrap_or, arith}
use Rattle.wbt_expiry.specs.Kept.{reach}
use Rattle.wbt_rules.specs.Age.{due_after, expire_ticks}
use Rattle.wbt_rules.specs.Things.{context_at, context_of}
use Rattle.wbt_audit_walk.proofs.Common.{IsLawful, Trace}
use Rattle.wbt_trace.specs.Lawful.{IsExpire}

by_line : (expire : Option ℕ) → IfSome expire IsExpire → 10 * unwrap_or expire 3000 ≤ reach
by_line None fits = omega arith
by_line (Some centi) fits = omega (arith, fits.1)

due_soon : (trace : Trace) (context : ℕ) → IfSome (context_at trace context).expire IsExpire → expire_ticks trace context ≤ reach
unfolding expire_ticks
due_soon trace context fits = by_line (context_at trace context).expire fits

pub due_near : (trace : Trace) → IsLawful trace → (inode since : ℕ) → inode < length trace.inodes → since < 2 ^ 62 → due_after trace inode since < 2 ^ 62 + reach
due_near trace lawful inode since there before =
    let its = lawful.within.inodes.each inode (record { first = 0; pages = 0; context = 0 }) there in
    let fits = lawful.within.contexts (context_of trace inode) (record { device = 0; domain = 0; expire = None; estimate = None }) its.0 in
    let soon = due_soon trace (context_of trace inode) fits.2 in
    omega (arith, soon, before)
