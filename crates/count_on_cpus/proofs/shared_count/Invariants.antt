use Rattle.std.proofs.Common.{◌≡◌, ◌*◌, ◌<◌, pos, ◌+ℤ◌, unsigned_abs}
use Rattle.count_on_cpus.proofs.shared_count.Given as goal

abbrev pub invariant-loop-page : goal.invariant-loop-page
invariant-loop-page l = ((l.shared +ℤ l.one) +ℤ l.two ≡ pos (2 * l._page)) × (unsigned_abs l.one < 32) × (unsigned_abs l.two < 32)
