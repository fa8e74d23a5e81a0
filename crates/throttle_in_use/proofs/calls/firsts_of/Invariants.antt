use Rattle.std.proofs.Common.{◌≡◌, ◌<◌, All, length}
use Rattle.wbt_table.specs.declared.layout.Writer.{Writer}
use Rattle.throttle_in_use.proofs.calls.firsts_of.Given as goal

abbrev pub invariant-loop-writer : goal.invariant-loop-writer
invariant-loop-writer l = (length l.writers ≡ l.writer) × All (λ (w : Writer). w.cpu < l.cpus) l.writers × All (λ (w : Writer). w.context < 1) l.writers
