-- The gate was asked before each step: where none was made, where one was, and where calls follow one another.
use Rattle.std.proofs.Common.{◌≡◌, ℕ, ◌+◌, ◌-◌, ◌^◌, ◌≤◌, Bool, true, not, ◌&&◌, ◌||◌, cond, ◌==◌, List, [], ◌∷◌, refl, sym, ap, ◌∙◌, subst, arith, ⊎_elim}
use Rattle.std.proofs.Math.Nat.{min-le_left}
use Rattle.std.proofs.lemmas.Bool.{cases_lt, cond_both}
use Rattle.wbt_kit.proofs.Common.{CpuRecord, Step, add, fold, clear, count, dirty, look, claim, complete, first, middle, limits, mark, unmark, maker_of, record_after, Setting, Halts, Made, Has, Changes, Makes, Seated, has_changed}
use Rattle.wbt_grant.specs.Kinds.{back, peak, unseal, thresh, publish, grant, last_found}
use Rattle.wbt_grant.specs.Record
use Rattle.wbt_grant.specs.Record.{one_more}
use Rattle.wbt_table.specs.Calls as table
use Rattle.wbt_table.specs.Calls.{Asked, AskedToClaim, AskedToLook, after_its_look, before_its_look}
use Rattle.wbt_kit.specs.declared.kit.Seats.{Seats}
use Rattle.wbt_run_steps.specs.Gate.{AskedBeforeEach, StepsOnce, WasLetOn, steps_of}
use Rattle.wbt_run_steps.specs.Records.{record_of}
use Rattle.wbt_run_steps.specs.Steps.{IsAnswered}
use Rattle.wbt_run_steps.proofs.Changing.{record_is}

-- ---- what a step counts

counts_least : (n : ℕ) → one_more n ≤ n + 1
counts_least n = min-le_left (n + 1) (2 ^ 64 - 1)

-- whichever of two records it is, of which both have the same count
one_of : (b : Bool) (x y : CpuRecord) (n : ℕ) → one_more x.steps ≤ n → one_more y.steps ≤ n → one_more (cond b x y).steps ≤ n
one_of b x y n p q = cond_both b x y (λ (r : CpuRecord). one_more r.steps ≤ n) (λ is. p) (λ is. q)

counts_looked : (set : Setting) (p n : ℕ) (r : CpuRecord) → one_more (Record.looked set p (set.coding.page_bits n p) r).steps ≤ r.steps + 1
counts_looked set p n r =
    let dirty = (set.coding.page_bits n p).dirty in
    let writeback = (set.coding.page_bits n p).writeback in
    one_of (dirty && writeback) (Record.owing_mark (set.inode p) (Record.passed p r)) (cond (not dirty || writeback) (Record.passed p r) r) (r.steps + 1)
    (counts_least r.steps) (one_of (not dirty || writeback) (Record.passed p r) r (r.steps + 1) (counts_least r.steps) (counts_least r.steps))

counts_back : (set : Setting) (p n : ℕ) (r : CpuRecord)
    → one_more (cond (n == last_found r.last) (Record.page_stepped (Record.given_back set p (set.coding.page_bits n p).dirty r)) r).steps ≤ r.steps + 1
counts_back set p n r = one_of (n == last_found r.last) (Record.page_stepped (Record.given_back set p (set.coding.page_bits n p).dirty r)) r (r.steps + 1)
    (one_of (set.coding.page_bits n p).dirty (Record.absorbed set p r) (Record.redirtied set p r) (r.steps + 1) (counts_least r.steps) (counts_least r.steps)) (counts_least r.steps)

-- a step makes the count of its CPU's record one more, if it counts at all
pub counts_once : (set : Setting) (step : Step) (n : ℕ) (r : CpuRecord) → (record_after set step n r).steps ≤ r.steps + 1
counts_once set (add i x) n r = counts_least r.steps
counts_once set (fold i x) n r = counts_least r.steps
counts_once set (clear i x) n r = counts_least r.steps
counts_once set (count who x) n r = counts_least r.steps
counts_once set (dirty w p) n r =
    one_of (set.coding.page_bits n p).dirty (Record.found_already p r) (Record.dirtied set w p r) (r.steps + 1) (counts_least r.steps) (counts_least r.steps)
counts_once set (look i p) n r = counts_looked set p n r
counts_once set (claim i p) n r = one_of (n == last_found r.last) (Record.claimed p r) r (r.steps + 1) (counts_least r.steps) (counts_least r.steps)
counts_once set (complete i p) n r = counts_least r.steps
counts_once set (back i p) n r = counts_back set p n r
counts_once set (peak d hard) n r = omega arith
counts_once set (unseal d) n r = omega arith
counts_once set (thresh d triple) n r = omega arith
counts_once set (publish d triple) n r = omega arith
counts_once set (first i d) n r = counts_least r.steps
counts_once set (middle i d) n r = counts_least r.steps
counts_once set (limits who d) n r = counts_least r.steps
counts_once set (mark i m) n r = counts_least r.steps
counts_once set (unmark i m) n r = counts_least r.steps
counts_once set (grant w pages) n r = omega arith

-- ---- the record that the seats hold

steps_is : (cpu : ℕ) (seats : Seats) (r : CpuRecord) → Has seats.cpu.cpus cpu r → steps_of cpu seats ≡ r.steps
steps_is cpu seats r has = ap (λ (q : CpuRecord). q.steps) (record_is seats.cpu.cpus cpu r has)

-- one step of the CPU
pub once_changed : (cpu : ℕ) (f : CpuRecord → CpuRecord) (old new : Seats) → ((r : CpuRecord) → (f r).steps ≤ r.steps + 1)
    → (held : (r : CpuRecord) × Has old.cpu.cpus cpu r) → Changes cpu f old.cpu new.cpu → StepsOnce cpu old new
once_changed cpu f old new counts held change =
    let r = held.0 in
    let was = steps_is cpu old r held.1 in
    let is = steps_is cpu new (f r) (has_changed cpu f old.cpu new.cpu r change held.1) in
    let most = counts r in omega arith

pub once_made : (set : Setting) (step : Step) (n cpu : ℕ) (old new : Seats) → maker_of set step ≡ cpu
    → (held : (r : CpuRecord) × Has old.cpu.cpus cpu r) → Makes set step n old.cpu new.cpu → StepsOnce cpu old new
once_made set step n cpu old new its held makes =
    once_changed cpu (record_after set step n) old new (counts_once set step n) held
    (subst (λ (c : ℕ). Changes c (record_after set step n) old.cpu new.cpu) its makes.changes)

pub same_steps : (cpu : ℕ) (old new : Seats) → new.cpu ≡ old.cpu → steps_of cpu new ≡ steps_of cpu old
same_steps cpu old new same = ap (λ (s : Seated). (record_of cpu s.cpus).steps) same

pub once_none : (cpu : ℕ) (old new : Seats) → new.cpu ≡ old.cpu → StepsOnce cpu old new
once_none cpu old new same = let is = same_steps cpu old new same in omega arith

-- ---- the gate

module _ (cpu : ℕ) (said : ℕ → ℕ → Bool → Type 0) where
  let_on_none : (from to : ℕ) → to ≤ from → WasLetOn cpu said from to
  let_on_none from to less = λ k low high. absurd (omega arith)

  let_on_once : (from to : ℕ) → said cpu from true → to ≤ from + 1 → WasLetOn cpu said from to
  let_on_once from to so most = λ k low high. let is : from ≡ k = omega arith in subst (λ (n : ℕ). said cpu n true) is so

  let_on_more : (a b c : ℕ) → WasLetOn cpu said a b → WasLetOn cpu said b c → WasLetOn cpu said a c
  let_on_more a b c p q = λ k low high. ⊎_elim (λ before. p k low before) (λ behind. q k behind high) (cases_lt k b)

  -- no step was made
  pub asked_still : (old new : Seats) → steps_of cpu new ≡ steps_of cpu old → AskedBeforeEach cpu said old new
  asked_still old new same = record { let_on = let_on_none (steps_of cpu old) (steps_of cpu new) (omega arith) }

  pub asked_none : (old new : Seats) → new.cpu ≡ old.cpu → AskedBeforeEach cpu said old new
  asked_none old new same = asked_still old new (same_steps cpu old new same)

  -- one step was made where the gate had said true
  pub asked_once : (answer : Bool) (old new : Seats) → IsAnswered cpu said answer old → answer ≡ true → StepsOnce cpu old new → AskedBeforeEach cpu said old new
  asked_once answer old new answered is once = record {
    let_on = let_on_once (steps_of cpu old) (steps_of cpu new)
        (subst (λ (z : ℕ × Bool). said cpu z.0 z.1) (λ i. (sym (steps_is cpu old answered.0 answered.1) i, is i)) answered.2) once;
  }

  -- one call after another
  pub asked_more : (old mid new : Seats) → AskedBeforeEach cpu said old mid → AskedBeforeEach cpu said mid new → AskedBeforeEach cpu said old new
  asked_more old mid new a b = record { let_on = let_on_more (steps_of cpu old) (steps_of cpu mid) (steps_of cpu new) a.let_on b.let_on }

  -- steps one after another, each of which the gate let the CPU make
  let_on_each : (set : Setting) (made : List Made) (r : CpuRecord) → Asked set (said cpu) made r → WasLetOn cpu said r.steps (table.record_of set made r).steps
  let_on_each set [] r asked = let_on_none r.steps r.steps (omega arith)
  let_on_each set (m ∷ made) r asked =
      let next = record_after set m.step m.found r in
      let_on_more r.steps next.steps (table.record_of set made next).steps (let_on_once r.steps next.steps asked.0 (counts_once set m.step m.found r)) (let_on_each set made next asked.1)

  pub asked_each : (set : Setting) (made : List Made) (r new : CpuRecord) (before after : Seats) → Has before.cpu.cpus cpu r → Has after.cpu.cpus cpu new
      → new ≡ table.record_of set made r → Asked set (said cpu) made r → AskedBeforeEach cpu said before after
  asked_each set made r new before after had has is asked = record {
    let_on = subst (λ (z : ℕ × ℕ). WasLetOn cpu said z.0 z.1)
        (λ i. (sym (steps_is cpu before r had) i, sym (steps_is cpu after new has ∙ ap (λ (q : CpuRecord). q.steps) is) i)) (let_on_each set made r asked);
  }

  -- steps that the seats show
  pub asked_these : (set : Setting) (made : List Made) (old new : Seats) → (held : (r : CpuRecord) × Has old.cpu.cpus cpu r)
      → Changes cpu (table.record_of set made) old.cpu new.cpu → ((r : CpuRecord) → Has old.cpu.cpus cpu r → Asked set (said cpu) made r) → AskedBeforeEach cpu said old new
  asked_these set made old new held change asked =
      let r = held.0 in
      asked_each set made r (table.record_of set made r) old new held.1 (has_changed cpu (table.record_of set made) old.cpu new.cpu r change held.1) refl (asked r held.1)

  -- ---- a claim

  pub asked_look : (set : Setting) (p n : ℕ) (old new : Seats) → (held : (r : CpuRecord) × Has old.cpu.cpus cpu r) → AskedToLook cpu (said cpu) old.cpu
      → Changes cpu (table.looked_at set cpu p n) old.cpu new.cpu → AskedBeforeEach cpu said old new
  asked_look set p n old new held looks change =
      let r = held.0 in
      asked_each set (record { step = look cpu p; found = n } ∷ []) r (table.looked_at set cpu p n r) old new held.1
      (has_changed cpu (table.looked_at set cpu p n) old.cpu new.cpu r change held.1) refl (looks r held.1, tt)

  pub asked_try : (set : Setting) (p n m : ℕ) (old new : Seats) → (held : (r : CpuRecord) × Has old.cpu.cpus cpu r) → AskedToLook cpu (said cpu) old.cpu
      → AskedToClaim set cpu p n (said cpu) old.cpu → Changes cpu (table.tried set cpu p n m) old.cpu new.cpu → AskedBeforeEach cpu said old new
  asked_try set p n m old new held looks claims change =
      let r = held.0 in
      asked_each set (record { step = look cpu p; found = n } ∷ record { step = claim cpu p; found = m } ∷ []) r (table.tried set cpu p n m r) old new held.1
      (has_changed cpu (table.tried set cpu p n m) old.cpu new.cpu r change held.1) refl (looks r held.1, (claims r held.1, tt))

  pub asked_halt : (set : Setting) (p : ℕ) (old new : Seats) → (held : (r : CpuRecord) × Has old.cpu.cpus cpu r) → Halts set cpu p (said cpu) old.cpu new.cpu
      → AskedBeforeEach cpu said old new
  asked_halt set p old new held (before_its_look same) = asked_none old new same
  asked_halt set p old new held (after_its_look n claimable change logs looks) = asked_look set p n old new held looks change
