-- Rooms and completions after a turn of the writers.
use Rattle.std.proofs.Common.{◌≡◌, ◌≢◌, ℕ, zero, suc, ◌+◌, ◌≤◌, Bool, true, false, cond, List, [], ◌∷◌, ◌++◌, length, Option, Some, None, eqb, eqb-true, false-eqb, refl, sym, ap, ◌∙◌, subst, arith}
use mathlib.Core.Option.{some-injective, some-ne-none}
use Rattle.wbt_run_worker.proofs.Common.{times, one_if, CpuRecord, Each, Flight, effect, is_fault, Told, MOST_PAGE_STEPS, Cpus, Has, Event, AreBacked, handed, Write, Seats, IsApart, record_of, record_is, Grew}
use Rattle.wbt_kit.proofs.Common.{room_of, TotalSeated, none_some}
use Rattle.wbt_book.specs.declared.event.Event.TheVariants.{Dirty}
use Rattle.wbt_flusher.specs.Did.{AreCounted}
use Rattle.wbt_flusher.specs.Sights.{all_completions, completions, held_cpus, is_completion}
use Rattle.wbt_fraction.specs.Several.{KeepsRooms}
use Rattle.wbt_journal.specs.Effects.{event_by, handed_by, listed}
use Rattle.wbt_journal.specs.Leaves.{is_failure}
use Rattle.std.specs.List.{count_by, sum_by}
use Rattle.std.proofs.lemmas.Bool.{cond_both}
use Rattle.std.proofs.lemmas.List.Sums.{sum_by-cons}
use Rattle.wbt_run_laws.specs.Grew.{event_in, onto}
use Rattle.wbt_run_laws.specs.Owns.{IsOfWriters}
use Rattle.wbt_run_laws.proofs.Effects.{part_none}

-- ---- what the writers' entries tell

-- no completion
none_more : (write : Option Write) (flight : Option Flight) (older : List Event) → flight ≡ None → times is_completion (listed (event_by write flight) ++ older) ≡ times is_completion older
none_more write flight older none = subst (λ (f : Option Flight). times is_completion (listed (event_by write f) ++ older) ≡ times is_completion older) (sym none) (by write)
  where
    by : (write : Option Write) → times is_completion (listed (event_by write None) ++ older) ≡ times is_completion older
    by None = refl
    by (Some w) = cond_both w.fresh (Some (Dirty w.page)) None (λ (e : Option Event). times is_completion (listed e ++ older) ≡ times is_completion older) (λ is. omega arith) (λ not. refl)

pub none_completed : (added : List Told) (older : List Event) → Each IsOfWriters added → times is_completion (onto event_in added older) ≡ times is_completion older
none_completed [] older each = refl
none_completed (e ∷ added) older each = none_completed added (event_in e ++ older) each.1 ∙ none_more (effect e).write (effect e).flight older each.0.no_flight

-- and no batch
none_here : (entry : Told) → IsOfWriters entry → handed entry ≡ 0
none_here entry of = part_none 0 (λ (flight : Flight). handed_by flight.move) (effect entry).flight of.no_flight

pub none_handed : (added : List Told) → Each IsOfWriters added → sum_by handed added ≡ 0
none_handed [] each = refl
none_handed (e ∷ added) each = sum_by-cons handed e added ∙ (let a = none_here e each.0 in let b = none_handed added each.1 in omega arith)

-- and no fault
no_fault : (entry : Told) → IsOfWriters entry → one_if (is_fault entry) ≡ 0
no_fault entry of = ap one_if (part_none false (λ (flight : Flight). is_failure flight.move) (effect entry).flight of.no_flight)

pub no_faults : (added : List Told) → Each IsOfWriters added → count_by is_fault added ≡ 0
no_faults [] each = refl
no_faults (e ∷ added) each = sum_by-cons (λ (x : Told). cond (is_fault x) 1 0) e added ∙ (let a = no_fault e each.0 in let b = no_faults added each.1 in omega arith)

-- ---- records of which one changed

no_some : (q : CpuRecord) (xs ys : Cpus) → Has (None ∷ xs) 0 q → ⊥
no_some q xs ys has = none_some q (some-injective None (Some q) has)

record Sums (xs ys : Cpus) (more less : ℕ) : Type 0 where
  pub held : held_cpus ys ≡ held_cpus xs
  pub completed : all_completions ys + less ≡ all_completions xs + more

-- none of them
same_all : (xs ys : Cpus) → length xs ≡ length ys → ((c : ℕ) (q : CpuRecord) → Has xs c q → Has ys c q) → ((c : ℕ) (q : CpuRecord) → Has ys c q → Has xs c q)
    → Sums xs ys 0 0
same_all [] [] long there back = record { held = refl; completed = refl }
same_all [] (y ∷ ys) long there back = absurd (omega arith)
same_all (x ∷ xs) [] long there back = absurd (omega arith)
same_all (None ∷ xs) (None ∷ ys) long there back =
    let rest = same_all xs ys (omega arith) (λ c q. there (suc c) q) (λ c q. back (suc c) q) in
    record { held = rest.held; completed = rest.completed }
same_all (None ∷ xs) (Some q ∷ ys) long there back = absurd (no_some q xs ys (back 0 q refl))
same_all (Some r ∷ xs) (None ∷ ys) long there back = absurd (no_some r ys xs (there 0 r refl))
same_all (Some r ∷ xs) (Some q ∷ ys) long there back =
    let rest = same_all xs ys (omega arith) (λ c p. there (suc c) p) (λ c p. back (suc c) p) in
    let is : Some q ≡ Some r = some-injective (Some q) (Some r) (there 0 r refl) in
    let same : q ≡ r = cc in
    let e : completions q ≡ completions r = ap completions same in
    let h = rest.held in let k = rest.completed in
    record { held = omega arith; completed = omega arith }

-- one of them
same_but : (xs ys : Cpus) (cpu : ℕ) (r r' : CpuRecord) → length xs ≡ length ys → Has xs cpu r → Has ys cpu r'
    → ((c : ℕ) (q : CpuRecord) → c ≢ cpu → Has xs c q → Has ys c q) → ((c : ℕ) (q : CpuRecord) → c ≢ cpu → Has ys c q → Has xs c q)
    → Sums xs ys (completions r') (completions r)
same_but [] ys cpu r r' long has has' there back = absurd (some-ne-none (Some r) (sym has))
same_but (x ∷ xs) [] cpu r r' long has has' there back = absurd (omega arith)
same_but (x ∷ xs) (y ∷ ys) zero r r' long has has' there back =
    let rest = same_all xs ys (omega arith) (λ c q. there (suc c) q (λ e. omega arith)) (λ c q. back (suc c) q (λ e. omega arith)) in
    let x_is : x ≡ Some r = some-injective x (Some r) has in
    let y_is : y ≡ Some r' = some-injective y (Some r') has' in
    subst (λ (o : Option CpuRecord). Sums (o ∷ xs) (y ∷ ys) (completions r') (completions r)) (sym x_is)
    (subst (λ (o : Option CpuRecord). Sums (Some r ∷ xs) (o ∷ ys) (completions r') (completions r)) (sym y_is)
    (let h = rest.held in let k = rest.completed in record { held = omega arith; completed = omega arith }))
same_but (None ∷ xs) (None ∷ ys) (suc cpu) r r' long has has' there back =
    let rest = same_but xs ys cpu r r' (omega arith) has has' (λ c q ne. there (suc c) q (λ e. ne (omega arith))) (λ c q ne. back (suc c) q (λ e. ne (omega arith))) in
    record { held = rest.held; completed = rest.completed }
same_but (None ∷ xs) (Some q ∷ ys) (suc cpu) r r' long has has' there back = absurd (no_some q xs ys (back 0 q (λ e. omega arith) refl))
same_but (Some p ∷ xs) (None ∷ ys) (suc cpu) r r' long has has' there back = absurd (no_some p ys xs (there 0 p (λ e. omega arith) refl))
same_but (Some p ∷ xs) (Some q ∷ ys) (suc cpu) r r' long has has' there back =
    let rest = same_but xs ys cpu r r' (omega arith) has has' (λ c o ne. there (suc c) o (λ e. ne (omega arith))) (λ c o ne. back (suc c) o (λ e. ne (omega arith))) in
    let is : Some q ≡ Some p = some-injective (Some q) (Some p) (there 0 p (λ e. omega arith) refl) in
    let same : q ≡ p = cc in
    let e : completions q ≡ completions p = ap completions same in
    let h = rest.held in let k = rest.completed in
    record { held = omega arith; completed = omega arith }

-- ---- the whole

-- the record of a CPU grew by entries of its writers
pub record Grown (cpu : ℕ) (added : List Told) (old new : Seats) : Type 0 where
  pub long : length old.cpu.cpus ≡ length new.cpu.cpus
  pub had : (r : CpuRecord) × Has old.cpu.cpus cpu r
  pub has : (r : CpuRecord) × Has new.cpu.cpus cpu r
  pub apart : IsApart cpu old.cpu new.cpu
  pub of_writers : Each IsOfWriters added
  pub grew : Grew added (record_of cpu old.cpu.cpus) (record_of cpu new.cpu.cpus)
  pub few : (record_of cpu old.cpu.cpus).page_steps ≤ MOST_PAGE_STEPS → (record_of cpu new.cpu.cpus).page_steps ≤ MOST_PAGE_STEPS
  pub rooms : KeepsRooms old.share.domains new.share.domains
  pub totals : new.share.totals ≡ old.share.totals

module _ (cpu : ℕ) (added : List Told) (old new : Seats) (grown : Grown cpu added old new) where
  completed_same : completions (record_of cpu new.cpu.cpus) ≡ completions (record_of cpu old.cpu.cpus)
  completed_same = ap (times is_completion) grown.grew.events ∙ none_completed added (record_of cpu old.cpu.cpus).events grown.of_writers

  sums : Sums old.cpu.cpus new.cpu.cpus (completions grown.has.0) (completions grown.had.0)
  sums = same_but old.cpu.cpus new.cpu.cpus cpu grown.had.0 grown.has.0 grown.long grown.had.1 grown.has.1 grown.apart.others grown.apart.no_more

  all_same : all_completions new.cpu.cpus ≡ all_completions old.cpu.cpus
  all_same =
      let s = sums.completed in
      let a : completions grown.has.0 ≡ completions grown.had.0 =
      ap completions (sym (record_is new.cpu.cpus cpu grown.has.0 grown.has.1)) ∙ completed_same ∙ ap completions (record_is old.cpu.cpus cpu grown.had.0 grown.had.1) in
      omega arith

  counted_one : AreCounted old.cpu.cpus → (q : CpuRecord) → Has new.cpu.cpus cpu q → (completions q ≤ q.page_steps) × (q.page_steps ≤ MOST_PAGE_STEPS)
  counted_one counted q has =
      let is = record_is new.cpu.cpus cpu q has in
      let was = record_is old.cpu.cpus cpu grown.had.0 grown.had.1 in
      let one : completions (record_of cpu old.cpu.cpus) ≤ (record_of cpu old.cpu.cpus).page_steps =
      subst (λ (p : CpuRecord). completions p ≤ p.page_steps) (sym was) (counted.each cpu grown.had.0 grown.had.1) in
      let steps = grown.grew.page_steps in
      let same = completed_same in
      let few = grown.few (subst (λ (p : CpuRecord). p.page_steps ≤ MOST_PAGE_STEPS) (sym was) (counted.few cpu grown.had.0 grown.had.1)) in
      subst (λ (p : CpuRecord). (completions p ≤ p.page_steps) × (p.page_steps ≤ MOST_PAGE_STEPS)) is ((omega arith), few)

  counted_by : AreCounted old.cpu.cpus → (c : ℕ) (q : CpuRecord) → Has new.cpu.cpus c q → (b : Bool) → eqb c cpu ≡ b
      → (completions q ≤ q.page_steps) × (q.page_steps ≤ MOST_PAGE_STEPS)
  counted_by counted c q has true is = counted_one counted q (subst (λ (n : ℕ). Has new.cpu.cpus n q) (eqb-true c cpu is) has)
  counted_by counted c q has false is =
      let there = grown.apart.no_more c q (false-eqb c cpu (sym is)) has in
      (counted.each c q there, counted.few c q there)

  pub backed_still : (domains contexts : ℕ) (owed totals : ℕ → ℕ) → AreBacked domains contexts owed totals old → AreBacked domains contexts owed totals new
  backed_still domains contexts owed totals was = record {
    counted = record {
      each = λ c q has. (counted_by was.counted c q has (eqb c cpu) refl).0;
      few = λ c q has. (counted_by was.counted c q has (eqb c cpu) refl).1;
    };
    rooms = λ domain less.
        let before = was.rooms domain less in
        let room = grown.rooms domain in
        let h = sums.held in let k = all_same in
        omega arith;
    totals = λ context less.
        let before = was.totals context less in
        let room : room_of context new.share.totals.rooms ≡ room_of context old.share.totals.rooms = ap (λ (t : TotalSeated). room_of context t.rooms) grown.totals in
        let h = sums.held in let k = all_same in
        omega arith;
  }
