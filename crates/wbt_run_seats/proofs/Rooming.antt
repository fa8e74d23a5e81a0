-- Rooms and completions of seats that come together.
use Rattle.std.proofs.Common.{◌≡◌, ⊎_elim, ℕ, suc, ◌+◌, ◌*◌, ◌^◌, ◌<◌, ◌≤◌, List, [], ◌∷◌, length, get_or, Some, None, refl, sym, ◌∙◌, subst, arith, ap}
use Rattle.std.specs.List.{sum_by}
use Rattle.std.proofs.lemmas.List.Sums.{sum_by-cons}
use Rattle.wbt_kit.proofs.Common.{total, room_in, room_of, CpuRecord, joined_seat, Cpus, Has, merged, Seated, length-merged}
use Rattle.wbt_run_laws.proofs.Parts.{total_front}
use Rattle.wbt_fraction.specs.Several.{Seats as ShareSeats}
use Rattle.wbt_kit.specs.declared.kit.Kit.{Kit}
use Rattle.wbt_kit.specs.declared.kit.Seats.{Seats}
use Rattle.wbt_flusher.specs.Did.{AreCounted}
use Rattle.wbt_flusher.specs.Sights.{all_completions, held_cpus}
use Rattle.wbt_run_seats.specs.Rooms.{BackedHasRooms, TogetherAreBacked, TakenAreBacked}
use Rattle.wbt_run_seats.specs.Together.{cpus_with, InOrder}
use Rattle.wbt_run_seats.proofs.Cpus.{joined_had}

-- ---- one join

-- no CPU is held by both
abbrev Apart : (xs ys : Cpus) → Type 0
Apart xs ys = (c : ℕ) (r q : CpuRecord) → Has xs c r → Has ys c q → ⊥

held_both : (xs ys : Cpus) → length xs ≡ length ys → Apart xs ys → held_cpus (merged xs ys) ≡ held_cpus xs + held_cpus ys
held_both [] [] long apart = refl
held_both [] (y ∷ ys) long apart = absurd (omega arith)
held_both (x ∷ xs) [] long apart = absurd (omega arith)
held_both (None ∷ xs) (None ∷ ys) long apart = held_both xs ys (omega arith) (λ c r q. apart (suc c) r q)
held_both (None ∷ xs) (Some q ∷ ys) long apart = let rest = held_both xs ys (omega arith) (λ c r q. apart (suc c) r q) in omega arith
held_both (Some r ∷ xs) (None ∷ ys) long apart = let rest = held_both xs ys (omega arith) (λ c r q. apart (suc c) r q) in omega arith
held_both (Some r ∷ xs) (Some q ∷ ys) long apart = absurd (apart 0 r q refl refl)

completed_both : (xs ys : Cpus) → length xs ≡ length ys → Apart xs ys → all_completions (merged xs ys) ≡ all_completions xs + all_completions ys
completed_both [] [] long apart = refl
completed_both [] (y ∷ ys) long apart = absurd (omega arith)
completed_both (x ∷ xs) [] long apart = absurd (omega arith)
completed_both (None ∷ xs) (None ∷ ys) long apart = completed_both xs ys (omega arith) (λ c r q. apart (suc c) r q)
completed_both (None ∷ xs) (Some q ∷ ys) long apart = let rest = completed_both xs ys (omega arith) (λ c r q. apart (suc c) r q) in omega arith
completed_both (Some r ∷ xs) (None ∷ ys) long apart = let rest = completed_both xs ys (omega arith) (λ c r q. apart (suc c) r q) in omega arith
completed_both (Some r ∷ xs) (Some q ∷ ys) long apart = absurd (apart 0 r q refl refl)

counted_both : (s t : Seated) → length s.cpus ≡ length t.cpus → AreCounted s.cpus → AreCounted t.cpus → AreCounted (joined_seat s t).cpus
counted_both s t long one two = record {
  each = λ c r has. ⊎_elim (λ theirs. two.each c r theirs) (λ mine. one.each c r mine) (joined_had s t c r long has);
  few = λ c r has. ⊎_elim (λ theirs. two.few c r theirs) (λ mine. one.few c r mine) (joined_had s t c r long has);
}

-- ---- several

record Sums (old : Seated) (parts : List Seats) (new : Seated) : Type 0 where
  pub held : held_cpus new.cpus ≡ held_cpus old.cpus + sum_by (λ (part : Seats). held_cpus part.cpu.cpus) parts
  pub completed : all_completions new.cpus ≡ all_completions old.cpus + sum_by (λ (part : Seats). all_completions part.cpu.cpus) parts
  pub counted : AreCounted new.cpus

all_sums : (kit : Kit) (cpu : ℕ) (parts : List Seats) (old : Seated) → length old.cpus ≡ kit.throttle.layout.cpus
    → ((k : ℕ) (other : Seats) → k < length parts → length (get_or parts k other).cpu.cpus ≡ kit.throttle.layout.cpus) → InOrder cpu parts
    → ((c : ℕ) (r : CpuRecord) → Has old.cpus c r → c < cpu) → AreCounted old.cpus → ((k : ℕ) (other : Seats) → k < length parts → AreCounted (get_or parts k other).cpu.cpus)
    → Sums old parts (cpus_with parts old)
all_sums kit cpu [] old long all order none counted each = record { held = omega arith; completed = omega arith; counted = counted }
all_sums kit cpu (part ∷ parts) old long all order none counted each =
    let same : length old.cpus ≡ length part.cpu.cpus = long ∙ sym (all 0 part (omega arith)) in
    let mid = joined_seat old part.cpu in
    let apart : Apart old.cpus part.cpu.cpus = λ c r q mine theirs. let low = none c r mine in let is = order.0.alone c q theirs in absurd (omega arith) in
    let rest = all_sums kit (suc cpu) parts mid (length-merged old.cpus part.cpu.cpus ∙ long) (λ k other less. all (suc k) other (omega arith)) order.1
    (λ c r has. ⊎_elim (λ theirs. let is = order.0.alone c r theirs in omega arith) (λ mine. let low = none c r mine in omega arith) (joined_had old part.cpu c r same has))
    (counted_both old part.cpu same counted (each 0 part (omega arith))) (λ k other less. each (suc k) other (omega arith)) in
    let held = held_both old.cpus part.cpu.cpus same apart in
    let completed = completed_both old.cpus part.cpu.cpus same apart in
    let first = sum_by-cons (λ (p : Seats). held_cpus p.cpu.cpus) part parts in
    let second = sum_by-cons (λ (p : Seats). all_completions p.cpu.cpus) part parts in
    let sums = rest.held in
    let all_of = rest.completed in
    record { held = omega arith; completed = omega arith; counted = rest.counted }

-- what is backed part by part is backed together
sum_backed : (parts : List Seats) (owed : (n : ℕ) → ℕ) (room : Seats → ℕ)
    → ((n : ℕ) (other : Seats) → n < length parts → owed n + held_cpus (get_or parts n other).cpu.cpus * 2 ^ 33 ≤ room (get_or parts n other) + all_completions (get_or parts n other).cpu.cpus)
    → total (length parts) owed + sum_by (λ (part : Seats). held_cpus part.cpu.cpus) parts * 2 ^ 33
    ≤ sum_by room parts + sum_by (λ (part : Seats). all_completions part.cpu.cpus) parts
sum_backed [] owed room each = omega arith
sum_backed (part ∷ parts) owed room each =
    let here = each 0 part (omega arith) in
    let rest = sum_backed parts (λ n. owed (suc n)) room (λ n other less. each (suc n) other (omega arith)) in
    let front = total_front (length parts) owed in
    let held = sum_by-cons (λ (p : Seats). held_cpus p.cpu.cpus) part parts in
    let rooms = sum_by-cons room part parts in
    let completed = sum_by-cons (λ (p : Seats). all_completions p.cpu.cpus) part parts in
    omega arith

-- ---- the laws

pub together_are_backed : TogetherAreBacked
together_are_backed kit domains contexts cpus owed owed_totals old_owed old_totals old new parts all mine theirs order none backed each =
    let sums = subst (Sums old.cpu parts) (sym all.cpu) (all_sums kit cpus parts old.cpu mine.each_cpu (λ k other less. (theirs k other less).each_cpu) order none backed.counted (λ k other less. (each k other less).counted)) in
    let held = sums.held in
    let completed = sums.completed in
    record {
      counted = sums.counted;
      rooms = λ domain less.
          let here = backed.rooms domain less in
          let there = sum_backed parts (λ n. owed n domain) (λ (part : Seats). room_in domain part.share.domains) (λ n other low. (each n other low).rooms domain less) in
          let rooms = all.rooms domain in
          omega arith;
      totals = λ context less.
          let here = backed.totals context less in
          let there = sum_backed parts (λ n. owed_totals n context) (λ (part : Seats). room_of context part.share.totals.rooms) (λ n other low. (each n other low).totals context less) in
          let rooms = all.totals context in
          omega arith;
    }

pub backed_has_rooms : BackedHasRooms
backed_has_rooms plan work owed owed_totals seats backed low few = record {
  counted = backed.counted;
  rooms = λ domain less. let here = backed.rooms domain less in let at_most = low domain less in omega arith;
  totals = λ context less. let here = backed.totals context less in let at_most = few context less in omega arith;
}

none_held : (l : Cpus) → ((c : ℕ) (r : CpuRecord) → Has l c r → ⊥) → held_cpus l ≡ 0
none_held [] none = refl
none_held (None ∷ l) none = none_held l (λ c r has. none (suc c) r has)
none_held (Some q ∷ l) none = absurd (none 0 q refl)

none_counted : (l : Cpus) → ((c : ℕ) (r : CpuRecord) → Has l c r → ⊥) → AreCounted l
none_counted l none = record { each = λ c r has. absurd (none c r has); few = λ c r has. absurd (none c r has) }

pub taken_are_backed : TakenAreBacked
taken_are_backed kit domains contexts owed owed_totals old from new mine theirs none backed cpu share =
    let long = mine.each_cpu ∙ sym theirs.each_cpu in
    let apart : Apart old.cpu.cpus from.cpu.cpus = λ c r q has had. none c r has in
    let nobody = none_held old.cpu.cpus none in
    let held = ap (λ (s : Seated). held_cpus s.cpus) cpu ∙ held_both old.cpu.cpus from.cpu.cpus long apart in
    let completed = ap (λ (s : Seated). all_completions s.cpus) cpu ∙ completed_both old.cpu.cpus from.cpu.cpus long apart in
    record {
      counted = subst (λ (s : Seated). AreCounted s.cpus) (sym cpu) (counted_both old.cpu from.cpu long (none_counted old.cpu.cpus none) backed.counted);
      rooms = λ domain less.
          let here = backed.rooms domain less in
          let same = ap (λ (s : ShareSeats). room_in domain s.domains) share in
          omega arith;
      totals = λ context less.
          let here = backed.totals context less in
          let same = ap (λ (s : ShareSeats). room_of context s.totals.rooms) share in
          omega arith;
    }
