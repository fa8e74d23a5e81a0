-- Grants: how one enters its CPU's record, and what the code keeps of one.
use Rattle.std.proofs.Common.{◌≡◌, ℕ, zero, suc, List, [], ◌∷◌, length, set, Option, Some, None, sym, refl, ap, ◌∙◌, subst}
use mathlib.Core.Option.{some-injective, some-ne-none}
use Rattle.wbt_table.proofs.Common.{TableId, Counter, Domain, Context, CpuRecord, grant, MayGrant, after, granted, Setting, own_told, setting, Cpus, Has, put_record, Logs, LogChanges, given, MayGive, Sat, Past, logged, LogsGrant, Seated, Changes, Keeps, States, Knows, Agrees, KeepsLefts, KeepsTimer, with_grants, IsSeat, seated}
use Rattle.wbt_table.specs.declared.layout.Layout.{Layout}
use Rattle.wbt_table.specs.declared.rule.Granted.{Granted}
use Rattle.wbt_table.specs.declared.rule.Logged.{Logged}
use Rattle.wbt_table.specs.declared.state.CpuState.{CpuState}
use Rattle.wbt_table.specs.History.{log_granted, LogsStep}
use Rattle.wbt_table.proofs.Lists.{at_less}
use Rattle.wbt_table.proofs.Showing.{load_shown}
use Rattle.wbt_table.proofs.Logging.{put_itself}
use Rattle.wbt_table.proofs.Turning.{Moves, one_record}
use Rattle.wbt_table.proofs.Seating.{shown_set, agrees_set}
use Rattle.wbt_table.proofs.Keeping.{own_same, given_same, given_steps, due_follows}
use Rattle.wbt_table.proofs.Owing.{lefts_change}
use Rattle.wbt_table.proofs.Calling.{layout_here, record_here, lefts_here}

-- a load of the first word, in which nothing stands
pub grant_moves : (key : Layout) (w pages : ℕ) (r : CpuRecord) → Moves key (grant w pages) r 0 (λ n. n)
grant_moves key w pages r words s ok fit rule shows long may at = (
  sym shows.first,
  load_shown key words s (after (setting key) (grant w pages) s) 0 shows refl refl refl refl refl refl,
)

-- a record that is there may be put again
pub put_there : (l : Cpus) (c : ℕ) (r : CpuRecord) → Has l c r → l ≡ put_record c r l
put_there [] c r has = absurd (some-ne-none (Some r) (sym has))
put_there (x ∷ l) zero r has = ap (λ (y : Option CpuRecord). y ∷ l) (some-injective x (Some r) has)
put_there (x ∷ l) (suc c) r has = ap (λ (m : Cpus). x ∷ m) (put_there l c r has)

-- where none is given, the log is as it was
pub none_logged : (c : ℕ) (grants : Option Granted) (logs : Logs) → grants ≡ None → LogChanges c (LogsGrant grants) logs logs
none_logged c grants logs bare = let t = put_itself c logs in
    (t.0, t.1, (λ log has. (0, t.2 log has ∙ ap (λ (g : Option Granted). log_granted 0 g log) (sym bare))))

-- one that is given is logged
pub grant_logged : (set' : Setting) (own : Past → List Logged) (c w pages n : ℕ) (grants : Option Granted) (logs logs' : Logs)
    → grants ≡ Some (record { writer = w; left = pages }) → LogChanges c (LogsStep set' own None (grant w pages) n) logs logs' → LogChanges c (LogsGrant grants) logs logs'
grant_logged set' own c w pages n grants logs logs' is change = (
  change.0,
  change.1,
  (λ log has. let a = change.2 log has in (
    length a.past,
    a.log ∙ ap (λ (l : List Logged). logged (length a.past) (record { step = grant w pages; found = 0 }) ∷ l) a.granted.1
        ∙ ap (λ (g : Option Granted). log_granted (length a.past) g log) (sym is),
  )),
)

-- where no grant is pending, nothing enters the record
pub none_given : (l : Cpus) (c : ℕ) (grants : Option Granted) (r : CpuRecord) → grants ≡ None → Has l c r → l ≡ put_record c (given grants r) l
none_given l c grants r bare has = put_there l c r has ∙ ap (λ (g : Option Granted). put_record c (given g r) l) (sym bare)

-- what the code keeps of a CPU whose pending grant is in the record, and another is pending
keeps_granted : (key : Layout) (c : ℕ) (s : CpuState) (q : CpuRecord) (g : Granted) → Keeps key c s q → MayGive (setting key) c (Some g) (given s.grants q)
    → Keeps key c (record s { grants = Some g }) (given s.grants q)
keeps_granted key c s q g old may =
    let r : CpuRecord = given s.grants q in
    let same = given_same s.grants q in
    let own : (x : Counter) → own_told (setting key) x r ≡ own_told (setting key) x q = λ x. own_same (setting key) x q r same in record {
      steps = old.steps ∙ sym (given_steps s.grants q);
      page_steps = old.page_steps ∙ sym same.page_steps;
      debts = same.debts ∙ old.debts;
      first = due_follows key q r own (Context s.context) s.first old.first;
      second = due_follows key q r own (Domain 0) s.second old.second;
      third = due_follows key q r own (Domain s.group) s.third old.third;
      no_group = old.no_group;
      grants = may;
    }

module _ (key : Layout) (table : TableId) (me : Sat) (states : States) (lefts : List ℕ) (timer : Option ℕ) (old : Seated)
    (view : seated table me states ≡ old) (at : old.layout ≡ key) (seat : IsSeat me states lefts timer) (w pages : ℕ)
    (r : CpuRecord) (has : Has old.cpus ((setting key).seat w) r) (can : MayGrant (setting key) w pages r) (s : CpuState) (knows : Knows states ((setting key).seat w) s) where
  -- the earlier grant is in the view, and the new one is pending
  module _ (me' : Sat) (s' : CpuState) (is : s' ≡ record s { grants = Some (record { writer = w; left = pages }) })
      (gave : (q : CpuRecord) → Has me.0.cpus ((setting key).seat w) q → me'.0.cpus ≡ put_record ((setting key).seat w) (given s.grants q) me.0.cpus)
      (layout : me'.0.layout ≡ me.0.layout) (timers : me'.0.timer ≡ me.0.timer) (slots : me'.1 ≡ me.1) where
    cpus_given : me'.0.cpus ≡ put_record ((setting key).seat w) r me.0.cpus
    cpus_given = let k = record_here key table me states lefts timer old view at seat ((setting key).seat w) r has s knows in
        gave k.record' k.has ∙ ap (λ (z : CpuRecord). put_record ((setting key).seat w) z me.0.cpus) k.with_it

    shown_granted : with_grants (set states ((setting key).seat w) (Some s')) me'.0.cpus ≡ put_record ((setting key).seat w) (granted w pages r) old.cpus
    shown_granted = let c : ℕ = (setting key).seat w in
        ap (with_grants (set states c (Some s'))) cpus_given
        ∙ shown_set states me.0.cpus c s' r seat.agrees.as_long
        ∙ ap (λ (z : CpuState). put_record c (given z.grants r) (with_grants states me.0.cpus)) is
        ∙ ap (λ (z : Seated). put_record c (granted w pages r) z.cpus) view

    layout_after : me'.0.layout ≡ key
    layout_after = layout ∙ layout_here key table me states lefts timer old view at seat ((setting key).seat w) r has

    pub granted_seat : (lefts' : List ℕ) → lefts' ≡ set lefts w pages → IsSeat me' (set states ((setting key).seat w) (Some s')) lefts' timer
    granted_seat lefts' left =
        let c : ℕ = (setting key).seat w in
        let here = layout_here key table me states lefts timer old view at seat c r has in
        let k = record_here key table me states lefts timer old view at seat c r has s knows in
        let g : Granted = record { writer = w; left = pages } in
        let keeps : Keeps key c (record s { grants = Some g }) r = subst (λ (z : CpuRecord). Keeps key c (record s { grants = Some g }) z) k.with_it
        (keeps_granted key c s k.record' g k.keeps (refl, subst (MayGrant (setting key) w pages) (sym k.with_it) can)) in
        let agrees : Agrees key (set states c (Some s')) (put_record c r me.0.cpus) = agrees_set key states me.0.cpus c s' r
        (subst (λ (z : Layout). Agrees z states me.0.cpus) here seat.agrees) (at_less states c (Some s) knows)
        (subst (λ (z : CpuState). Keeps key c z r) (sym is) keeps) in
        let lefts_now : KeepsLefts key (set lefts w pages) (put_record c (granted w pages r) old.cpus) = lefts_change key lefts old.cpus c w pages r (granted w pages r)
        (lefts_here key table me states lefts timer old view at seat c r has) has refl can.writer_is refl in record {
          slots = slots ∙ seat.slots;
          agrees = subst (λ (z : Layout × Cpus). Agrees z.0 (set states c (Some s')) z.1) (λ i. (sym layout_after i, sym cpus_given i)) agrees;
          keeps_timer = subst (KeepsTimer timer) (sym timers) seat.keeps_timer;
          keeps_lefts = subst (λ (z : Layout × List ℕ × Cpus). KeepsLefts z.0 z.1 z.2) (λ i. (sym layout_after i, sym left i, sym shown_granted i)) lefts_now;
        }

    pub granted_changes : (table' : TableId) → table' ≡ table
        → Changes ((setting key).seat w) (granted w pages) old (seated table' me' (set states ((setting key).seat w) (Some s')))
    granted_changes table' same = let c : ℕ = (setting key).seat w in record {
      table = same ∙ ap (λ (z : Seated). z.table) view;
      layout = layout ∙ ap (λ (z : Seated). z.layout) view;
      timer = timers ∙ ap (λ (z : Seated). z.timer) view;
      cpus = λ q has_q. shown_granted ∙ ap (λ (z : CpuRecord). put_record c (granted w pages z) old.cpus) (one_record old.cpus c r q has has_q);
    }
