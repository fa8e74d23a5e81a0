-- Rooms stay backed.
use Rattle.std.proofs.Common.{◌≡◌, ℕ, ◌*◌, ◌^◌, ◌≤◌, sym, ap, ◌∙◌, subst, arith}
use mathlib.Core.Logic.{dite}
use mathlib.Core.Option.{some-injective}
use native.Mathlib.Decide.{ℕ_discrete}
use Rattle.wbt_flusher.proofs.Common.{CpuRecord, MOST_PAGE_STEPS, Cpus, Has, Kit, Moments, Did, AreCounted, HasRooms, Sight, completions, held_cpus}
use Rattle.wbt_table.specs.Seat as table
use Rattle.wbt_flusher.specs.declared.plan.FlusherPlan.{FlusherPlan}
use Rattle.wbt_flusher.proofs.Changing.{Changed}

same_record : (l : Cpus) (c : ℕ) (q r : CpuRecord) → Has l c q → Has l c r → q ≡ r
same_record l c q r hasq hasr = let e = some-injective _ _ (sym hasq ∙ hasr) in cc

-- no CPU completed more than it may
pub counted_by : (c : ℕ) (r r' : CpuRecord) (old new : table.Seated) → Changed c r r' old new → AreCounted old.cpus → completions r' ≤ r'.page_steps → r'.page_steps ≤ MOST_PAGE_STEPS → AreCounted new.cpus
counted_by c r r' old new change counted each few = record {
  each = λ d q has. dite (ℕ_discrete d c)
      (λ same. subst (λ (x : CpuRecord). completions x ≤ x.page_steps) (same_record new.cpus c r' q change.has (subst (λ (j : ℕ). Has new.cpus j q) same has)) each)
      (λ other. counted.each d q (change.apart.no_more d q other has));
  few = λ d q has. dite (ℕ_discrete d c)
      (λ same. subst (λ (x : CpuRecord). x.page_steps ≤ MOST_PAGE_STEPS) (same_record new.cpus c r' q change.has (subst (λ (j : ℕ). Has new.cpus j q) same has)) few)
      (λ other. counted.few d q (change.apart.no_more d q other has));
}

pub rooms_by : (plan : FlusherPlan) (kit : Kit) (told : Moments) (old new : Sight) → Did plan kit told old new → held_cpus new.seats.cpu.cpus ≡ held_cpus old.seats.cpu.cpus → AreCounted new.seats.cpu.cpus
    → HasRooms plan old.work old.seats → HasRooms plan new.work new.seats
rooms_by plan kit told old new did many counted rooms = record {
  counted = counted;
  rooms = λ domain there. let grew = did.rooms domain there in let had = rooms.rooms domain there in
      let same : held_cpus new.seats.cpu.cpus * 2 ^ 33 ≡ held_cpus old.seats.cpu.cpus * 2 ^ 33 = ap (λ n. n * 2 ^ 33) many in omega arith;
  totals = λ context there. let grew = did.totals context there in let had = rooms.totals context there in
      let same : held_cpus new.seats.cpu.cpus * 2 ^ 33 ≡ held_cpus old.seats.cpu.cpus * 2 ^ 33 = ap (λ n. n * 2 ^ 33) many in omega arith;
}
