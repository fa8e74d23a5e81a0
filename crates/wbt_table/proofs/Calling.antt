-- What a call of a throttle knows of the seat that it is handed, and what it leaves of it.
use Rattle.std.proofs.Common.{◌≡◌, ℕ, ◌<◌, List, set, Option, Some, None, sym, refl, ap, ◌∙◌, subst, arith}
use Rattle.wbt_table.proofs.Common.{TableId, Counter, CpuRecord, Setting, writer_in, Step, one_more, maker_of, own_told, record_after, RecordAllows, setting, Cpus, Has, Holds, put_record, given, MayGive, Sat, Turned, turn, IsReady, Seated, Changes, Makes, Keeps, States, Knows, KeepsLefts, with_grants, IsSeat, seated, put_state, stepped}
use Rattle.wbt_table.specs.declared.layout.Layout.{Layout}
use Rattle.wbt_table.specs.declared.state.CpuState.{CpuState}
use Rattle.wbt_table.proofs.Lists.{at_less}
use Rattle.wbt_table.proofs.Seating.{known_at, shown_at, lefts_stay, seat_after, changes_after, makes_after, changes_seen}
use Rattle.wbt_table.proofs.Keeping.{KnownRecord, known_record, given_same, given_steps, own_same, keeps_step}

-- A step that leaves debts and page steps as they were, each own number that the record tells, and what each writer has left
pub record Quiet (set' : Setting) (r r' : CpuRecord) : Type 0 where
  pub steps : r'.steps ≡ one_more r.steps
  pub page_steps : r'.page_steps ≡ r.page_steps
  pub debts : r'.debts ≡ r.debts
  pub own : (x : Counter) → own_told set' x r' ≡ own_told set' x r
  pub lefts : (w : ℕ) → (writer_in set' w r'.writers).left ≡ (writer_in set' w r.writers).left

module _ (key : Layout) (table : TableId) (me : Sat) (states : States) (lefts : List ℕ) (timer : Option ℕ) (old : Seated)
    (view : seated table me states ≡ old) (at : old.layout ≡ key) (seat : IsSeat me states lefts timer) (c : ℕ) (r : CpuRecord) (has : Has old.cpus c r) where
  pub layout_here : me.0.layout ≡ key
  layout_here = ap (λ (z : Seated). z.layout) view ∙ at

  pub shown_here : Has (with_grants states me.0.cpus) c r
  shown_here = subst (λ (z : Seated). Has z.cpus c r) (sym view) has

  -- something is kept of the CPU
  pub state_here : (s : CpuState) × Knows states c s
  state_here = let t = known_at states me.0.cpus c r (λ d q h. let k = seat.agrees.kept d q h in (k.0, k.1)) shown_here in (t.state, t.knows)

  pub record_here : (s : CpuState) → Knows states c s → KnownRecord key me c s r
  record_here s knows = known_record key me states lefts timer c s r layout_here seat shown_here knows

  pub cpu_here : (s : CpuState) → Knows states c s → c < key.cpus
  cpu_here s knows = let l = at_less states c (Some s) knows in let long = seat.agrees.long in let e = ap (λ (z : Layout). z.cpus) layout_here in omega arith

  -- a step of this CPU may be made where the record that is shown allows it
  pub ready_by : (s : CpuState) → Knows states c s → (step : Step) → c ≡ maker_of (setting key) step → RecordAllows (setting key) step r → IsReady key step s.grants me.0.cpus
  ready_by s knows step is allows = let k = record_here s knows in
      subst (λ (i : ℕ). Holds me.0.cpus i (λ q. MayGive (setting key) i s.grants q × RecordAllows (setting key) step (given s.grants q))) is
      (k.record', k.has, (k.keeps.grants, subst (RecordAllows (setting key) step) (sym k.with_it) allows))

  -- a quiet step of this CPU
  module _ (me' : Sat) (step : Step) (n : ℕ) (is : c ≡ maker_of (setting key) step) (s : CpuState) (states' : States) (knows : Knows states c s)
      (turned : Turned (turn key step s.grants) n me me') (puts : states' ≡ put_state c (stepped s) states)
      (quiet : (x : CpuRecord) → Quiet (setting key) x (record_after (setting key) step n x)) where
    pub quiet_seat : IsSeat me' states' lefts timer
    quiet_seat =
        let set' : Setting = setting key in
        let k = record_here s knows in
        let q : CpuRecord = k.record' in
        let g : CpuRecord = given s.grants q in
        let after : CpuRecord = record_after set' step n g in
        let calm = quiet g in
        let same = given_same s.grants q in
        let keeps : Keeps key c (stepped s) after = keeps_step key c s q after k.keeps (calm.steps ∙ ap one_more (given_steps s.grants q)) (calm.page_steps ∙ same.page_steps)
        (calm.debts ∙ same.debts) (λ x. calm.own x ∙ own_same set' x q g same) in
        subst (λ (l : States). IsSeat me' l lefts timer) (sym puts)
        (seat_after key me me' states lefts timer layout_here seat step n c is s q knows k.has turned (stepped s) refl keeps lefts
        (lefts_stay key lefts (with_grants states me.0.cpus) c g after (subst (λ (z : Layout). KeepsLefts z lefts (with_grants states me.0.cpus)) layout_here seat.keeps_lefts)
        (shown_at states me.0.cpus c s q knows k.has) calm.lefts))

    -- which is what the step makes of the throttle's seat
    pub quiet_makes : (key' : Layout) → key ≡ key' → (table' : TableId) → table' ≡ table → Makes (setting key') step n old (seated table' me' states')
    quiet_makes key' its table' same =
        let k = record_here s knows in
        subst (λ (z : Layout × Seated × States). Makes (setting z.0) step n z.1 (seated table' me' z.2)) (λ i. (its i, view i, sym puts i))
        (makes_after key me me' states lefts timer layout_here seat step n c is s k.record' knows k.has turned (stepped s) refl table table' same)

  -- what is kept of what is shown
  pub lefts_here : KeepsLefts key lefts old.cpus
  lefts_here = subst (λ (z : Layout × Cpus). KeepsLefts z.0 lefts z.1) (λ i. (layout_here i, ap (λ (z : Seated). z.cpus) view i)) seat.keeps_lefts

  -- any step of this CPU, by the record that is shown
  module _ (me' : Sat) (step : Step) (n : ℕ) (is : c ≡ maker_of (setting key) step) (s s' : CpuState) (knows : Knows states c s)
      (turned : Turned (turn key step s.grants) n me me') (bare : s'.grants ≡ None) where
    pub step_seat : Keeps key c s' (record_after (setting key) step n r) → (lefts' : List ℕ)
        → KeepsLefts key lefts' (put_record c (record_after (setting key) step n r) old.cpus) → IsSeat me' (set states c (Some s')) lefts' timer
    step_seat keeps lefts' left =
        let k = record_here s knows in
        seat_after key me me' states lefts timer layout_here seat step n c is s k.record' knows k.has turned s' bare
        (subst (λ (z : CpuRecord). Keeps key c s' (record_after (setting key) step n z)) (sym k.with_it) keeps) lefts'
        (subst (λ (z : CpuRecord × Cpus). KeepsLefts key lefts' (put_record c (record_after (setting key) step n z.0) z.1))
        (λ i. (sym k.with_it i, sym (ap (λ (z : Seated). z.cpus) view) i)) left)

    pub step_makes : (table' : TableId) → table' ≡ table → Makes (setting key) step n old (seated table' me' (set states c (Some s')))
    step_makes table' same =
        let k = record_here s knows in
        let new : Seated = seated table' me' (set states c (Some s')) in
        subst (λ (z : Seated). Makes (setting key) step n z new) view
        (makes_after key me me' states lefts timer layout_here seat step n c is s k.record' knows k.has turned s' bare table table' same)

    pub step_changes : (table' : TableId) → table' ≡ table → Changes c (record_after (setting key) step n) old (seated table' me' (set states c (Some s')))
    step_changes table' same =
        let k = record_here s knows in
        let new : Seated = seated table' me' (set states c (Some s')) in
        changes_seen c (record_after (setting key) step n) (seated table me states) old new new view refl
        (changes_after key me me' states lefts timer layout_here seat step n c is s k.record' knows k.has turned s' bare table table' same)
