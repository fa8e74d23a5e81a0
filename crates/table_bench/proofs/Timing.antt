-- The parts of the CPUs whose calls are timed.
use Rattle.std.proofs.Common.{◌≡◌, ℕ, ◌*◌, ◌≤◌, sym, subst, arith}
use Rattle.wbt_table.specs.declared.layout.Layout.{Layout}
use Rattle.caller_of_throttle.specs.declared.worker.Part.{Part}
use Rattle.caller_of_throttle.specs.Machine.{machine_of}
use Rattle.caller_of_throttle.specs.Work.{IsPart, IsLoader}
use Rattle.caller_of_throttle.proofs.Machines.{is_part, is_loader}

-- the part of a CPU whose calls are timed
pub timed_part : (key : Layout) (part : Part) (c : ℕ) → key ≡ machine_of 4 256 2097152 → part ≡ record { cpu = c; writer = c * 256; first = c * 524288; pages = 8192 } → c ≤ 3
    → IsPart key part × IsLoader key part.cpu part.writer
timed_part key part c is is' small = subst (λ (z : Layout × Part). IsPart z.0 z.1 × IsLoader z.0 z.1.cpu z.1.writer) (λ i. (sym is i, sym is' i))
    (is_part 4 256 2097152 c (omega arith) (omega arith) (c * 524288) 8192 (omega arith) (omega arith) (omega arith) (omega arith), is_loader 4 256 2097152 c (omega arith) (omega arith))
