-- The first seats hold all CPUs and the timer; and a list that was lent as a slice.
use Rattle.std.proofs.Common.{◌≡◌, ℕ, ◌<◌, ◌++◌, List, drop, length, take, ap, ◌∙◌, subst, sym}
use Rattle.std.proofs.Math.Seq.{take-append_seam}
use Rattle.wbt_run_seats.specs.Parts.{AreBack}
use Rattle.wbt_run_worker.proofs.Common.{first_held, no_record, AreFirst, AreSeatsOf, IsKitOf, HoldsAll, setting, Seated, Layout, Trace, Kit, Seats}
use Rattle.wbt_grant.specs.State.{opening}

pub first_holds : (trace : Trace) (now : ℕ) (kit : Kit) (seats : Seats) → IsKitOf trace now kit → AreSeatsOf kit seats → AreFirst kit seats → HoldsAll seats.cpu
first_holds trace now kit seats is at are = record {
  cpus = λ i less. (no_record, first_held trace now kit seats is at are i (subst (λ (l : Layout). i < l.cpus) (at.cpu.layout ∙ is.layout) less));
  timer = ((opening (setting seats.cpu.layout)).timer, are.cpu.timer);
}

-- and so do seats that are as these were
pub back_holds : (trace : Trace) (now : ℕ) (kit : Kit) (old new : Seats) → IsKitOf trace now kit → AreSeatsOf kit old → AreFirst kit old → AreBack old new → HoldsAll new.cpu
back_holds trace now kit old new is at are back = subst (λ (s : Seated). HoldsAll s) (sym back.cpu) (first_holds trace now kit old is at are)

-- what comes back of a list that was lent whole is what the slice became
pub whole_again : {A : Type 0} (n : ℕ) (xs ys : List A) → n ≡ length ys → length xs ≡ length ys → take n (xs ++ drop (length xs) ys) ≡ xs
whole_again n xs ys all same = ap (λ (m : ℕ). take m (xs ++ drop (length xs) ys)) (all ∙ sym same) ∙ take-append_seam xs (drop (length xs) ys)
