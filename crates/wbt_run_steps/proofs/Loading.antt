-- Who loads is a CPU that the seats hold, and what its loads of limits come to.
use Rattle.std.proofs.Common.{◌≡◌, ℕ, Bool, false, List, Result, Ok, Err, true≢false, sym, ap, ◌∙◌, subst}
use Rattle.std.specs.Prelude.{IfOk, OnErr}
use Rattle.wbt_num.specs.Limits.{IsLawful}
use Rattle.wbt_kit.proofs.Common.{Step, cpu_for, Setting, held_of, CpuRecord, Who, Timer, Made, record_of, whole_load, setting, Has, Holds, Changes, Makes, Seated, Triple, has_changed, AreSeatsOf}
use Rattle.wbt_grant.specs.Seats.{is_timer}
use Rattle.wbt_grant.specs.declared.who.Who.TheVariants.{Writer, Cpu}
use Rattle.wbt_kit.specs.declared.kit.Kit.{Kit}
use Rattle.wbt_kit.specs.declared.kit.Seats.{Seats}
use Rattle.wbt_table.specs.Calls.{Asked, HoldsWho, Loads, MakesAll}
use Rattle.wbt_table.specs.Calls.{HoldsLoader as MayLoad, LoadsLimits as Answers}
use Rattle.wbt_table.specs.declared.answer.Loaded.{Loaded}
use Rattle.wbt_table.specs.declared.answer.Loaded.TheVariants as loaded
use Rattle.wbt_run_steps.specs.Loads.{HoldsLoader, HoldsNow, LoadsLimits, LoadsSome, TellsHeld, held_as}
use Rattle.wbt_run_steps.specs.Made.{MakesThese}
use Rattle.wbt_run_steps.specs.Records.{OnlyCpu}
use Rattle.wbt_run_steps.specs.Gate.{AskedBeforeEach}
use Rattle.wbt_run_steps.proofs.Changing.{seats_stay}
use Rattle.wbt_run_steps.proofs.Gating.{asked_these}
use Rattle.wbt_run_steps.proofs.Held.{again_held, fresh_held}

pub on_err : {A E : Type 0} (r : Result A E) (P : Type 0) → P → OnErr r P
on_err (Ok a) P p = tt
on_err (Err e) P p = p

pub loader_held : (set : Setting) (who : Who) (seat : Seated) → is_timer who ≡ false → HoldsWho set who seat → (r : CpuRecord) × Has seat.cpus (cpu_for set who) r
loader_held set (Writer w) seat cpus held = held.1
loader_held set (Cpu i) seat cpus held = held.1
loader_held set Timer seat cpus held = absurd (true≢false cpus)

pub made_by : (set : Setting) (who : Who) (step : Step) (found : ℕ) (old new : Seated) → is_timer who ≡ false → Loads set who step found old new → Makes set step found old new
made_by set (Writer w) step found old new cpus loads = loads
made_by set (Cpu i) step found old new cpus loads = loads
made_by set Timer step found old new cpus loads = absurd (true≢false cpus)

-- and still is after steps of its own
still_held : (set : Setting) (who : Who) (f : CpuRecord → CpuRecord) (old new : Seated) → is_timer who ≡ false → HoldsWho set who old → Changes (cpu_for set who) f old new → HoldsWho set who new
still_held set (Writer w) f old new cpus held change = (held.0, (f held.1.0, has_changed (set.seat w) f old new held.1.0 change held.1.1))
still_held set (Cpu i) f old new cpus held change = (held.0, (f held.1.0, has_changed i f old new held.1.0 change held.1.1))
still_held set Timer f old new cpus held change = absurd (true≢false cpus)

-- the CPU may load limits
pub may_load : (set : Setting) (who : Who) (seat : Seated) → is_timer who ≡ false → HoldsWho set who seat → MayLoad set who seat
may_load set (Writer w) seat cpus held = held
may_load set (Cpu i) seat cpus held = held
may_load set Timer seat cpus held = absurd (true≢false cpus)

module _ (kit : Kit) (who : Who) where
  abbrev set' : Setting
  set' = setting kit.throttle.layout

  pub held_cpu : (cpu : ℕ) (seats : Seats) → cpu_for set' who ≡ cpu → HoldsLoader kit who seats → (r : CpuRecord) × Has seats.cpu.cpus cpu r
  held_cpu cpu seats its held =
      let here = loader_held set' who seats.cpu held.no_timer held.held in (here.0, subst (λ (i : ℕ). Has seats.cpu.cpus i here.0) its here.1)

  module _ (cpu : ℕ) (its : cpu_for set' who ≡ cpu) where
    pub holds_after : (domain : ℕ) (triple : Triple) (old new : Seats) → HoldsLoader kit who old → LoadsLimits kit cpu who domain triple old new → HoldsLoader kit who new
    holds_after domain triple old new held loads =
        let f = record_of set' (whole_load who cpu domain loads.first loads.thresh loads.second) in
        record {
          no_timer = held.no_timer;
          held = still_held set' who f old.cpu new.cpu held.no_timer held.held (subst (λ (c : ℕ). Changes c f old.cpu new.cpu) (sym its) loads.makes.becomes);
        }

    -- ---- what a load came to, by its answer

    module _ (domain : ℕ) (said : ℕ → Bool → Type 0) (old new : Seats) (held : HoldsLoader kit who old) (only : OnlyCpu old new) where
      abbrev c' : ℕ
      c' = cpu_for set' who

      these_by : (made : List Made) → MakesAll set' c' said made old.cpu new.cpu → MakesThese kit c' made old new
      these_by made makes = record { becomes = makes.0; logs = makes.1; only = only }

      now_by : (made : List Made) (d : ℕ) (triple : Triple) → MakesAll set' c' said made old.cpu new.cpu
          → ((r : CpuRecord) → Has old.cpu.cpus c' r → held_of set' d (record_of set' made r).triples ≡ held_as d triple) → HoldsNow kit c' d triple new
      now_by made d triple makes is =
          let here = loader_held set' who old.cpu held.no_timer held.held in
          (record_of set' made here.0, has_changed c' (record_of set' made) old.cpu new.cpu here.0 makes.0 here.1, is here.0 here.1)

      its_own : (P : ℕ → Type 0) → P c' → P cpu
      its_own P p = subst P its p

      -- read whole
      pub loads_fresh : (triple : Triple) → Answers set' who domain said (loaded.Fresh triple) old.cpu new.cpu → LoadsLimits kit cpu who domain triple old new
      loads_fresh triple t = its_own (λ (c : ℕ). LoadsLimits kit c who domain triple old new) (record {
        first = t.0;
        thresh = t.1;
        second = t.0;
        makes = these_by (whole_load who c' domain t.0 t.1 t.0) t.6;
        held = now_by (whole_load who c' domain t.0 t.1 t.0) domain triple t.6
            (λ r has. fresh_held kit.throttle.layout who c' domain t.0 t.1 t.0 r t.2 ∙ ap (held_as domain) (sym t.3));
      })

      -- or not: the answer is what was held
      pub loads_again : (triple : Triple) (n k : ℕ) → Answers set' who domain said (loaded.Again triple n k) old.cpu new.cpu → LoadsLimits kit cpu who domain triple old new
      loads_again triple n k t = its_own (λ (c : ℕ). LoadsLimits kit c who domain triple old new) (record {
        first = n;
        thresh = t.0;
        second = k;
        makes = these_by (whole_load who c' domain n t.0 k) t.4;
        held = (t.2.0, t.2.1, again_held set' domain triple t.2.0 t.2.2);
      })

      -- or stopped
      pub loads_some : Answers set' who domain said loaded.Stopped old.cpu new.cpu → LoadsSome kit cpu domain old new
      loads_some t = its_own (λ (c : ℕ). LoadsSome kit c domain old new) (record { made = t.0; cut = t.1; makes = these_by t.0 t.3 })

      -- what was made, with the gate asked before it
      made_by_all : (answer : Loaded) → Answers set' who domain said answer old.cpu new.cpu → (made : List Made) × MakesAll set' c' said made old.cpu new.cpu
      made_by_all (loaded.Fresh triple) t = (whole_load who c' domain t.0 t.1 t.0, t.6)
      made_by_all (loaded.Again triple n k) t = (whole_load who c' domain n t.0 k, t.4)
      made_by_all loaded.Stopped t = (t.0, t.3)

      pub seats_after : (answer : Loaded) → AreSeatsOf kit old → Answers set' who domain said answer old.cpu new.cpu → AreSeatsOf kit new
      seats_after answer at t =
          let m = made_by_all answer t in
          let here = loader_held set' who old.cpu held.no_timer held.held in
          seats_stay kit c' (record_of set' m.0) old new here.0 at here.1 m.1.0 only

      pub asked_by : (tells : ℕ → ℕ → Bool → Type 0) (answer : Loaded) → said ≡ tells c' → Answers set' who domain said answer old.cpu new.cpu → AskedBeforeEach cpu tells old new
      asked_by tells answer is t =
          let m = made_by_all answer t in
          its_own (λ (c : ℕ). AskedBeforeEach c tells old new) (asked_these c' tells set' m.0 old new (loader_held set' who old.cpu held.no_timer held.held) m.1.0
          (λ r has. subst (λ (s : ℕ → Bool → Type 0). Asked set' s m.0 r) is (m.1.2 r has)))

      -- all that an answer tells
      pub loads_by : {E : Type 0} (answer : Loaded) (told : Result Triple E) → TellsHeld answer told → Answers set' who domain said answer old.cpu new.cpu
          → IfOk told (λ (t : Triple). IsLawful t.limits × LoadsLimits kit cpu who domain t old new)
      loads_by {E} (loaded.Fresh triple) told is t =
          subst (λ (z : Result Triple E). IfOk z (λ (t : Triple). IsLawful t.limits × LoadsLimits kit cpu who domain t old new)) (sym is) (t.4, loads_fresh triple t)
      loads_by {E} (loaded.Again triple n k) told is t =
          subst (λ (z : Result Triple E). IfOk z (λ (t : Triple). IsLawful t.limits × LoadsLimits kit cpu who domain t old new)) (sym is) (t.3, loads_again triple n k t)
      loads_by loaded.Stopped (Ok triple) is t = absurd is
      loads_by loaded.Stopped (Err e) is t = tt

      pub some_by : {E : Type 0} (answer : Loaded) (told : Result Triple E) → TellsHeld answer told → Answers set' who domain said answer old.cpu new.cpu
          → OnErr told (LoadsSome kit cpu domain old new × Holds new.cpu.cpus c' (λ r. said r.steps false))
      some_by {E} (loaded.Fresh triple) told is t =
          subst (λ (z : Result Triple E). OnErr z (LoadsSome kit cpu domain old new × Holds new.cpu.cpus c' (λ r. said r.steps false))) (sym is) tt
      some_by {E} (loaded.Again triple n k) told is t =
          subst (λ (z : Result Triple E). OnErr z (LoadsSome kit cpu domain old new × Holds new.cpu.cpus c' (λ r. said r.steps false))) (sym is) tt
      some_by loaded.Stopped (Ok triple) is t = tt
      some_by loaded.Stopped (Err e) is t = (loads_some t, t.2)
