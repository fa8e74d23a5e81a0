-- Steps of a CPU one after another, with what the gate said before each.
use Rattle.std.proofs.Common.{◌≡◌, ℕ, zero, suc, ◌/◌, ◌<◌, ◌≤◌, Bool, true, false, List, [], ◌∷◌, All, get_or, set, Option, Some, None, sym, refl, ap, ◌∙◌, subst}
use mathlib.Core.Option.{some, some-injective}
use lib.ListN.{get_elem?}
use Rattle.wbt_table.proofs.Common.{CpuRecord, TimerRecord, Setting, Step, cpu_for, maker_of, record_after, timer_after, RecordAllows, TableId, set_here, IsLawful, sequence_in, Who, DomainLimits, Words, limits, found_of, held_of, KeepsTriples, IsKept, triple_of, triple_number, setting, domains, turn, IsReady, Made, Has, given, Sat, Turned, Seated, Changes, LogComes, LogsOne, Makes, States, Knows, IsSeat, seated, put_state, stepped, with_grants, MakesAll, is_whole_load, triple_in}
use Rattle.wbt_limits.specs.Words.{limits_in}
use Rattle.wbt_table.specs.declared.answer.Triple.{Triple}
use Rattle.wbt_table.specs.declared.held.HeldLimits.{HeldLimits}
use Rattle.wbt_table.specs.declared.layout.Layout.{Layout}
use Rattle.wbt_table.specs.declared.state.CpuState.{CpuState}
use Rattle.wbt_table.specs.Seat.{Times}
use Rattle.wbt_table.specs.Calls.{record_of, TimesAll}
use Rattle.wbt_table.proofs.Seating.{has_changed, changes_twice}
use Rattle.wbt_table.proofs.Paying.{still_logged, one_logged, answered_at}
use Rattle.wbt_table.proofs.Lists.{at_less}
use Rattle.wbt_table.proofs.Keeping.{KnownRecord, given_steps}
use Rattle.wbt_table.proofs.Calling.{Quiet, record_here, cpu_here, ready_by, quiet_seat, quiet_makes}
use Rattle.wbt_table.proofs.Triples.{given_triples, kept_by, loaded_are, kept_turned, whole_loaded, triples_loaded, triple_kept, triple_lawful}

set_itself : {A : Type 0} (xs : List A) (i : ℕ) (x : A) → get_elem? xs i ≡ some x → set xs i x ≡ xs
set_itself [] i x has = refl
set_itself (y ∷ ys) zero x has = ap (λ z. z ∷ ys) (sym (some-injective y x has))
set_itself (y ∷ ys) (suc i) x has = ap (λ (l : List _). y ∷ l) (set_itself ys i x has)

module _ (set' : Setting) (c : ℕ) (said : ℕ → Bool → Type 0) where
  pub makes_none : (s : Seated) → MakesAll set' c said [] s s
  makes_none s = (
    record { table = refl; layout = refl; timer = refl; cpus = λ r has. sym (set_itself s.cpus c (Some r) has) },
    still_logged set' c s,
    λ r has. tt,
  )

  pub makes_then : (step : Step) (n : ℕ) (made : List Made) (old mid new : Seated) → maker_of set' step ≡ c → Makes set' step n old mid
      → ((r : CpuRecord) → Has old.cpus c r → said r.steps true) → MakesAll set' c said made mid new
      → MakesAll set' c said (record { step = step; found = n } ∷ made) old new
  makes_then step n made old mid new is makes asked rest =
      let change = subst (λ (i : ℕ). Changes i (record_after set' step n) old mid) is makes.changes in
      let logs = subst (λ (i : ℕ). LogComes i (LogsOne set' i step n) old mid) is makes.logs in (
        changes_twice c (record_after set' step n) (record_of set' made) old mid new change rest.0,
        one_logged set' c step n made old mid new logs rest.1,
        λ r has. (asked r has, rest.2 (record_after set' step n r) (has_changed c (record_after set' step n) old mid r change has)),
      )

-- ---- steps of the timer

module _ (set' : Setting) (said : ℕ → Bool → Type 0) where
  pub times_none : (s : Seated) → TimesAll set' said [] s s
  times_none s = record { table = refl; layout = refl; cpus = refl; timer = λ r is. (is, tt); logs = refl; timer_log = λ log is. (log, refl, is) }

  pub times_then : (step : Step) (n : ℕ) (made : List Made) (old mid new : Seated) → Times set' step n old mid
      → ((r : TimerRecord) → old.timer ≡ Some r → said r.steps true) → TimesAll set' said made mid new
      → TimesAll set' said (record { step = step; found = n } ∷ made) old new
  times_then step n made old mid new times asked rest = record {
    table = rest.table ∙ times.table;
    layout = rest.layout ∙ times.layout;
    cpus = rest.cpus ∙ times.cpus;
    timer = λ r is. let t = rest.timer (timer_after step n r) (times.timer r is) in (t.0, (asked r is, t.1));
    logs = rest.logs ∙ times.logs;
    timer_log = λ log is. let one = times.timer_log log is in let more = rest.timer_log one.0 one.2 in (more.0, (None, one.0, one.1, more.1), more.2);
  }

-- ---- a CPU between its steps

-- what a seat keeps, one of its CPUs, the record that is shown of it, and what is kept of it
pub record Stands (key : Layout) (me : Sat) (states : States) (lefts : List ℕ) (held : HeldLimits) (timer : Option ℕ) (c : ℕ) (r : CpuRecord) (s : CpuState) : Type 0 where
  pub kept : IsKept me states lefts held timer
  pub at : me.0.layout ≡ key
  pub has : Has (with_grants states me.0.cpus) c r
  pub knows : Knows states c s

-- at the begin of a call
pub stood : (key : Layout) (table : TableId) (me : Sat) (states : States) (lefts : List ℕ) (held : HeldLimits) (timer : Option ℕ) (now : Seated)
    → seated table me states ≡ now → now.layout ≡ key → IsKept me states lefts held timer → (c : ℕ) (r : CpuRecord) → Has now.cpus c r
    → (s : CpuState) → Knows states c s → Stands key me states lefts held timer c r s
stood key table me states lefts held timer now view at kept c r has s knows = record {
  kept = kept;
  at = ap (λ (z : Seated). z.layout) view ∙ at;
  has = subst (λ (z : Seated). Has z.cpus c r) (sym view) has;
  knows = knows;
}

-- steps are kept once for more than one step
pub kept_once : (s t u : CpuState) → u ≡ t → record s { steps = t.steps; grants = None } ≡ t → record s { steps = u.steps; grants = None } ≡ u
kept_once s t u e is = ap (λ (z : CpuState). record s { steps = z.steps; grants = None }) e ∙ is ∙ sym e

module _ (key : Layout) (table : TableId) (me : Sat) (states : States) (lefts : List ℕ) (held : HeldLimits) (timer : Option ℕ) (c : ℕ) (r : CpuRecord) (s : CpuState)
    (stands : Stands key me states lefts held timer c r s) where
  pub record_there : KnownRecord key me c s r
  record_there = record_here key table me states lefts timer (seated table me states) refl stands.at stands.kept.seat c r stands.has s stands.knows

  pub cpu_there : c < key.cpus
  cpu_there = cpu_here key table me states lefts timer (seated table me states) refl stands.at stands.kept.seat c r stands.has s stands.knows

  pub steps_there : s.steps ≡ r.steps
  steps_there = let k = record_there in k.keeps.steps ∙ sym (given_steps s.grants k.record') ∙ ap (λ (x : CpuRecord). x.steps) k.with_it

  pub ready_there : (step : Step) → c ≡ maker_of (setting key) step → RecordAllows (setting key) step r → IsReady key step s.grants me.0.cpus
  ready_there step is allows = ready_by key table me states lefts timer (seated table me states) refl stands.at stands.kept.seat c r stands.has s stands.knows step is allows

  -- what the gate said
  pub asked_there : (said : ℕ → Bool → Type 0) (answer told : Bool) → answer ≡ told → said s.steps answer
      → (q : CpuRecord) → Has (with_grants states me.0.cpus) c q → said q.steps told
  asked_there said answer told is says = answered_at said (with_grants states me.0.cpus) c s.steps answer told r stands.has steps_there is says

  -- the limits that are held
  pub held_there : (d at : ℕ) → d < domains key → at ≡ triple_number key c d → (x : Triple) → x ≡ get_or held.triples.items at x
      → (x ≡ triple_of (held_of (setting key) d r.triples)) × IsLawful x.limits
  held_there d at there is x read =
      let k = record_there in
      let kept : KeepsTriples key held.triples.items me.0.cpus = subst (λ (z : Layout). KeepsTriples z held.triples.items me.0.cpus) stands.at stands.kept.triples in
      let here : x ≡ get_or held.triples.items (triple_number key c d) x = read ∙ ap (λ (n : ℕ). get_or held.triples.items n x) is in (
        here ∙ (triple_kept key held.triples.items me.0.cpus c d k.record' cpu_there there kept k.has x
            ∙ ap (λ (l : List DomainLimits). triple_of (held_of (setting key) d l)) (sym (given_triples s.grants k.record') ∙ ap (λ (y : CpuRecord). y.triples) k.with_it)),
        subst (λ (t : Triple). IsLawful t.limits) (sym here) (triple_lawful key held.triples.items me.0.cpus c d cpu_there there kept x),
      )

  -- a quiet step
  module _ (me' : Sat) (step : Step) (n : ℕ) (s' : CpuState) (is : c ≡ maker_of (setting key) step) (turned : Turned (turn key step s.grants) n me me')
      (steps : s' ≡ stepped s) (quiet : (x : CpuRecord) → Quiet (setting key) x (record_after (setting key) step n x)) where
    pub seat_then : IsSeat me' (put_state c s' states) lefts timer
    seat_then = quiet_seat key table me states lefts timer (seated table me states) refl stands.at stands.kept.seat c r stands.has me' step n is s (put_state c s' states)
        stands.knows turned (ap (λ (z : CpuState). put_state c z states) steps) quiet

    pub makes_there : Makes (setting key) step n (seated table me states) (seated table me' (put_state c s' states))
    makes_there = quiet_makes key table me states lefts timer (seated table me states) refl stands.at stands.kept.seat c r stands.has me' step n is s (put_state c s' states)
        stands.knows turned (ap (λ (z : CpuState). put_state c z states) steps) quiet key refl table refl

    -- which loads no limits
    pub kept_then : ((x : CpuRecord) → (record_after (setting key) step n x).triples ≡ x.triples) → IsKept me' (put_state c s' states) lefts held timer
    kept_then same = kept_by key step stands.kept (λ i. seated table me states) stands.at c s stands.knows is turned same seat_then

    pub goes_on : IsKept me' (put_state c s' states) lefts held timer → Stands key me' (put_state c s' states) lefts held timer c (record_after (setting key) step n r) s'
    goes_on kept = record {
      kept = kept;
      at = turned.layout ∙ stands.at;
      has = has_changed c (record_after (setting key) step n) (seated table me states) (seated table me' (put_state c s' states)) r
          (subst (λ (i : ℕ). Changes i (record_after (setting key) step n) (seated table me states) (seated table me' (put_state c s' states))) (sym is) makes_there.changes)
          stands.has;
      knows = set_here states c (Some s') (at_less states c (Some s) stands.knows);
    }

  -- the last step of a load of limits
  module _ (me' : Sat) (who : Who) (d n k m : ℕ) (is : c ≡ cpu_for (setting key) who) (turned : Turned (turn key (limits who d) s.grants) k me me')
      (found : found_of d r.loading ≡ Words n m) where
    has_there : let q = record_there in Has me.0.cpus (cpu_for (setting key) who) q.record'
    has_there = let q = record_there in subst (λ (i : ℕ). Has me.0.cpus i q.record') is q.has

    found_there : let q = record_there in found_of d (given s.grants q.record').loading ≡ Words n m
    found_there = let q = record_there in ap (λ (x : CpuRecord). found_of d x.loading) q.with_it ∙ found

    pub whole_there : is_whole_load n k ≡ true → IsLawful (limits_in k m) × All (λ t. t.domain ≡ d → t.version ≤ sequence_in k / 2) r.triples
    whole_there whole = let q = record_there in
        whole_loaded key who d k n m s.grants q.record' r me.0 q.with_it found whole (turned.found q.record' has_there)

    pub triples_then : is_whole_load n k ≡ true → d < domains key → (at : ℕ) → at ≡ triple_number key c d → (x : Triple) → x ≡ triple_in k m
        → KeepsTriples me'.0.layout (set held.triples.items at x) me'.0.cpus
    triples_then whole there at at_is x x_is = let q = record_there in
        subst (λ (z : Layout × ℕ × Triple). KeepsTriples z.0 (set held.triples.items z.1 z.2) me'.0.cpus)
        (λ i. (sym (turned.layout ∙ stands.at) i, sym (at_is ∙ ap (λ (j : ℕ). triple_number key j d) is) i, sym x_is i))
        (triples_loaded key me me' who d k n m s.grants turned q.record' has_there found_there whole (whole_there whole).0 there
        (subst (λ (i : ℕ). i < key.cpus) is cpu_there) held.triples.items
        (subst (λ (z : Layout). KeepsTriples z held.triples.items me.0.cpus) stands.at stands.kept.triples))

    pub kept_again : is_whole_load n k ≡ false → (states' : States) → IsSeat me' states' lefts timer → IsKept me' states' lefts held timer
    kept_again whole states' seat = let q = record_there in
        kept_turned key me me' (limits who d) s.grants k stands.at turned q.record' has_there
        (loaded_are key who d k n m false whole (given s.grants q.record') found_there) states states' lefts lefts held timer timer stands.kept seat

-- steps as the call's contract tells them
pub made_all : (key key' : Layout) (table table' : TableId) (me me' : Sat) (states states' states'' : States) (now : Seated) (c : ℕ) (said : ℕ → Bool → Type 0) (made : List Made)
    → key ≡ key' → seated table me states ≡ now → table' ≡ table → states'' ≡ states'
    → MakesAll (setting key) c said made (seated table me states) (seated table me' states') → MakesAll (setting key') c said made now (seated table' me' states'')
made_all key key' table table' me me' states states' states'' now c said made same view tables puts all =
    subst (λ (z : Layout × Seated × TableId × States). MakesAll (setting z.0) c said made z.1 (seated z.2 me' z.3)) (λ i. (same i, view i, sym tables i, sym puts i)) all
