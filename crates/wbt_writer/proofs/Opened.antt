-- Pages left before the first turn.
use Rattle.std.proofs.Common.{◌≡◌, ℕ, zero, suc, ◌<◌, min, List, [], length, get_or, replicate, sym, ap, ◌∙◌, subst, arith}
use Rattle.std.proofs.lemmas.List.{get_or-replicate, length-replicate}
use Rattle.wbt_writer.proofs.Common.{writer_in, WriterRecord, Side, all_writers, first_side, setting, new_cpu, new_writer, writer_of, Writer, Trace, contexts, IsLawful, Kit, Seats, first, AreTasksOf, side_of, AreProper, HaveLefts, no_fractions, record_in, own_of}
use Rattle.wbt_writer.specs.Desk.{IsWork}
use Rattle.wbt_writer.specs.declared.work.Fractions.{Fractions}
use Rattle.wbt_writer.specs.declared.work.WriterWork.{WriterWork}
use Rattle.wbt_writer.proofs.Over.{first_over}
use Rattle.wbt_writer.specs.declared.tasks.Tasks.{Tasks}

new_left : (cap count w : ℕ) → w < count → (writer_of (new_cpu cap count) w).left ≡ min 32 cap
unfolding new_cpu new_writer first
new_left cap count w low = ap (λ (x : Writer). x.left) (get_or-replicate count w (new_writer cap) (new_writer 0) low)

pub first_lefts : (trace : Trace) (cpu : ℕ) (tasks : Tasks) → side_of tasks ≡ first_side trace → (kit : Kit) (seats : Seats) → (setting kit.throttle.layout).cap ≡ trace.cap → (record_in cpu seats).writers ≡ []
    → HaveLefts trace cpu kit tasks seats
first_lefts trace cpu tasks side kit seats cap none = record {
  each = λ w low seat ended quiet.
      ap (λ (l : List WriterRecord). (writer_in (setting kit.throttle.layout) w l).left) none ∙ ap (λ (n : ℕ). min 32 n) cap
      ∙ sym (ap (λ (s : Side). (writer_of s.cpu w).left) side ∙ new_left trace.cap (length (all_writers trace)) w low);
}

-- ---- the writers that were made

first_proper : AreProper no_fractions
first_proper = ((omega arith, omega arith, omega arith), (omega arith, omega arith, omega arith))

proper_at : (n k : ℕ) → AreProper (get_or (replicate n no_fractions) k no_fractions)
proper_at zero k = first_proper
proper_at (suc n) zero = first_proper
proper_at (suc n) (suc k) = proper_at n k

pub opened_work : (trace : Trace) (work : WriterWork) → IsLawful trace → AreTasksOf trace work.tasks → work.tasks.next ≡ 0 → side_of work.tasks ≡ first_side trace → work.fractions.items ≡ replicate (contexts trace) no_fractions
    → length work.waiting.items ≡ length trace.inodes → IsWork trace work
opened_work trace work lawful tasks next side fractions waiting = record {
  lawful = lawful;
  tasks = tasks;
  next = omega arith;
  fractions = ap (λ (l : List Fractions). length l) fractions ∙ length-replicate (contexts trace) no_fractions;
  proper = λ k. subst (λ (l : List Fractions). AreProper (get_or l k no_fractions)) (sym fractions) (proper_at (contexts trace) k);
  waiting = waiting;
  over = first_over trace (own_of work.tasks) (side_of work.tasks) side;
}
