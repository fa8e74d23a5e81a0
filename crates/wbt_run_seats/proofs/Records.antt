-- Seats of CPUs in order come together: whom they hold then.
use Rattle.std.proofs.Common.{◌≡◌, ⊎_elim, ℕ, zero, suc, ◌+◌, ◌<◌, List, [], ◌∷◌, length, get_or, Option, None, refl, sym, ap, ◌∙◌, subst, arith}
use Rattle.wbt_kit.proofs.Common.{CpuRecord, TimerRecord, joined_seat, Has, or_else, Seated, length-merged}
use Rattle.wbt_kit.specs.declared.kit.Kit.{Kit}
use Rattle.wbt_kit.specs.declared.kit.Seats.{Seats}
use Rattle.wbt_kit.proofs.Joining.{has_come, was_there}
use Rattle.wbt_run_seats.specs.Together.{cpus_with, InOrder, RecordsComeTogether}
use Rattle.wbt_run_seats.proofs.Cpus.{joined_had}

-- the seats have places for so many CPUs each
pub AreLong : (cpus : ℕ) (parts : List Seats) → Type 0
AreLong cpus parts = (k : ℕ) (other : Seats) → k < length parts → length (get_or parts k other).cpu.cpus ≡ cpus

record Comes (cpu : ℕ) (old : Seated) (parts : List Seats) (new : Seated) : Type 0 where
  pub came : (n : ℕ) (other : Seats) (r : CpuRecord) → n < length parts → Has (get_or parts n other).cpu.cpus (cpu + n) r → Has new.cpus (cpu + n) r
  pub stayed : (c : ℕ) (r : CpuRecord) → Has old.cpus c r → Has new.cpus c r
  pub no_more : (c : ℕ) (r : CpuRecord) → Has new.cpus c r → c < cpu + length parts
  pub timer : new.timer ≡ old.timer

-- a first CPU more
comes_first : (cpu : ℕ) (old mid new : Seated) (part : Seats) (parts : List Seats) → length old.cpus ≡ length part.cpu.cpus
    → ((c : ℕ) (r : CpuRecord) → Has old.cpus c r → c < cpu) → ((c : ℕ) (r : CpuRecord) → Has part.cpu.cpus c r → c ≡ cpu) → part.cpu.timer ≡ None
    → mid ≡ joined_seat old part.cpu → Comes (suc cpu) mid parts new → Comes cpu old (part ∷ parts) new
comes_first cpu old mid new part parts long none alone no_timer is comes =
    let into = λ (c : ℕ) (r : CpuRecord) (has : Has (joined_seat old part.cpu).cpus c r). comes.stayed c r (subst (λ (s : Seated). Has s.cpus c r) (sym is) has) in
    record {
      came = λ n other r less has. by n other r less has;
      stayed = λ c r has. into c r (was_there old.cpus part.cpu.cpus c r long (λ q theirs. let a = none c r has in let b = alone c q theirs in absurd (omega arith)) has);
      no_more = λ c r has. let low = comes.no_more c r has in omega arith;
      timer = comes.timer ∙ ap (λ (s : Seated). s.timer) is ∙ ap (λ (t : Option TimerRecord). or_else old.timer t) no_timer;
    }
  where
    by : (n : ℕ) (other : Seats) (r : CpuRecord) → n < suc (length parts) → Has (get_or (part ∷ parts) n other).cpu.cpus (cpu + n) r → Has new.cpus (cpu + n) r
    by zero other r less has = comes.stayed (cpu + 0) r (subst (λ (s : Seated). Has s.cpus (cpu + 0) r) (sym is) (has_come old.cpus part.cpu.cpus (cpu + 0) r long has))
    by (suc n) other r less has =
        let next : cpu + suc n ≡ suc cpu + n = omega arith in
        subst (λ (k : ℕ). Has new.cpus k r) (sym next) (comes.came n other r (omega arith) (subst (λ (k : ℕ). Has (get_or parts n other).cpu.cpus k r) next has))

all_come : (kit : Kit) (cpu : ℕ) (parts : List Seats) (old : Seated) → length old.cpus ≡ kit.throttle.layout.cpus → AreLong kit.throttle.layout.cpus parts
    → InOrder cpu parts → ((c : ℕ) (r : CpuRecord) → Has old.cpus c r → c < cpu) → Comes cpu old parts (cpus_with parts old)
unfolding AreLong
all_come kit cpu [] old long all order none = record {
  came = λ n other r less has. absurd (omega arith);
  stayed = λ c r has. has;
  no_more = λ c r has. let low = none c r has in omega arith;
  timer = refl;
}
all_come kit cpu (part ∷ parts) old long all order none =
    let same : length old.cpus ≡ length part.cpu.cpus = long ∙ sym (all 0 part (omega arith)) in
    comes_first cpu old (joined_seat old part.cpu) (cpus_with parts (joined_seat old part.cpu)) part parts same none order.0.alone order.0.no_timer refl
    (all_come kit (suc cpu) parts (joined_seat old part.cpu) (length-merged old.cpus part.cpu.cpus ∙ long) (λ k other less. all (suc k) other (omega arith)) order.1
    (λ c r has. ⊎_elim (λ theirs. let is = order.0.alone c r theirs in omega arith) (λ mine. let low = none c r mine in omega arith) (joined_had old part.cpu c r same has)))

pub records_come_together : RecordsComeTogether
unfolding AreLong
records_come_together kit cpu old new parts all order none are mine =
    let comes = subst (Comes cpu old.cpu parts) (sym all.cpu)
    (all_come kit cpu parts old.cpu mine.each_cpu (λ k other less. (are other k less).each_cpu) order none) in
    record { came = comes.came; stayed = comes.stayed; no_more = comes.no_more; timer = comes.timer }
