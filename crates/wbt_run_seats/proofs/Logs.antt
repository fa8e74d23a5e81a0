-- The logs of CPUs whose seats come together.
use Rattle.std.proofs.Common.{◌≡◌, ◌≢◌, ℕ, zero, suc, ◌+◌, ◌<◌, ◌≤◌, List, [], ◌∷◌, length, get_or, Option, Some, None, sym, ap, ◌∙◌, subst, arith}
use mathlib.Core.Logic.{dite}
use mathlib.Core.Option.{some-injective, some-ne-none}
use native.Mathlib.Decide.{ℕ_discrete}
use Rattle.wbt_kit.specs.declared.kit.Seats.{Seats}
use Rattle.wbt_kit.proofs.Common.{joined_seat, HasLog, Logs, or_else, Seated, Logged}
use Rattle.wbt_run_seats.specs.Parts.{HasNoLog}
use Rattle.wbt_run_seats.specs.Together.{cpus_with}
use Rattle.wbt_run_seats.proofs.Cpus.{comes_in, stays_there}

-- the log of a CPU, where there is one
held_log : (which : Option (List Logged)) → List Logged
held_log None = []
held_log (Some log) = log

pub log_at : (logs : Logs) (cpu : ℕ) → List Logged
log_at [] cpu = []
log_at (which ∷ logs) zero = held_log which
log_at (which ∷ logs) (suc cpu) = log_at logs cpu

pub log_held : (logs : Logs) (cpu : ℕ) (log : List Logged) → HasLog logs cpu log → log_at logs cpu ≡ log
unfolding held_log log_at
log_held [] cpu log has = absurd (some-ne-none (Some log) (sym has))
log_held (which ∷ logs) zero log has = ap held_log (some-injective which (Some log) has)
log_held (which ∷ logs) (suc cpu) log has = log_held logs cpu log has

module _ (logs : ℕ → List Logged) (cpus : ℕ) where
  -- the seat has this log of the CPU, places for those of all others, and none of the timer
  pub record IsOwnLog (cpu : ℕ) (seat : Seated) : Type 0 where
    pub own : HasLog seat.logs cpu (logs cpu)
    pub none : (c : ℕ) → c ≢ cpu → c < cpus → HasNoLog c seat.logs
    pub no_timer : seat.timer_log ≡ None

  -- it has those of the first so many
  pub record HasLogs (many : ℕ) (seat : Seated) : Type 0 where
    pub has : (c : ℕ) → c < many → HasLog seat.logs c (logs c)
    pub none : (c : ℕ) → many ≤ c → c < cpus → HasNoLog c seat.logs
    pub no_timer : seat.timer_log ≡ None

  pub first_log : (seat : Seated) → IsOwnLog 0 seat → HasLogs 1 seat
  first_log seat own = record {
    has = λ c low. let here : 0 ≡ c = omega arith in subst (λ (n : ℕ). HasLog seat.logs n (logs n)) here own.own;
    none = λ c high low. own.none c (λ e. omega arith) low;
    no_timer = own.no_timer;
  }

  one_log : (many : ℕ) (into from : Seated) → many < cpus → HasLogs many into → IsOwnLog many from → HasLogs (suc many) (joined_seat into from)
  one_log many into from low have own = record {
    has = λ c less. dite (ℕ_discrete c many)
        (λ here. subst (λ (n : ℕ). HasLog (joined_seat into from).logs n (logs n)) (sym here)
        (comes_in into.logs from.logs many None (logs many) (have.none many (omega arith) low) own.own))
        (λ other. stays_there into.logs from.logs c (Some (logs c)) (have.has c (let ne : c ≢ many = other in omega arith)) (own.none c other (omega arith)));
    none = λ c high less. stays_there into.logs from.logs c None (have.none c (omega arith) less) (own.none c (λ e. omega arith) less);
    no_timer = ap (λ (o : Option (List Logged)). or_else into.timer_log o) own.no_timer ∙ have.no_timer;
  }

  pub all_logs : (parts : List Seats) (many : ℕ) (into : Seated) → many + length parts ≤ cpus → HasLogs many into
      → ((n : ℕ) (other : Seats) → n < length parts → IsOwnLog (many + n) (get_or parts n other).cpu) → HasLogs (many + length parts) (cpus_with parts into)
  all_logs [] many into few have each = let same : many ≡ many + 0 = omega arith in subst (λ (n : ℕ). HasLogs n into) same have
  all_logs (part ∷ parts) many into few have each =
      let first : many + 0 ≡ many = omega arith in
      let own : IsOwnLog many part.cpu = subst (λ (n : ℕ). IsOwnLog n part.cpu) first (each 0 part (omega arith)) in
      let rest : suc many + length parts ≡ many + suc (length parts) = omega arith in
      subst (λ (n : ℕ). HasLogs n (cpus_with parts (joined_seat into part.cpu))) rest
      (all_logs parts (suc many) (joined_seat into part.cpu) (omega arith) (one_log many into part.cpu (omega arith) have own)
      (λ n other less.
      let next : many + suc n ≡ suc many + n = omega arith in
      subst (λ (k : ℕ). IsOwnLog k (get_or parts n other).cpu) next (each (suc n) other (omega arith))))

  -- seats of the timer that take them in have them
  pub logs_taken : (timer all : Seated) → ((c : ℕ) → c < cpus → HasNoLog c timer.logs) → HasLogs cpus all → (c : ℕ) → c < cpus → HasLog (joined_seat timer all).logs c (logs c)
  logs_taken timer all none have c low = comes_in timer.logs all.logs c None (logs c) (none c low) (have.has c low)

  pub timer_log_stays : (timer all : Seated) → HasLogs cpus all → (joined_seat timer all).timer_log ≡ timer.timer_log
  timer_log_stays timer all have = ap (λ (o : Option (List Logged)). or_else timer.timer_log o) have.no_timer
