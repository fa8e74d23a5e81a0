use Rattle.std.proofs.Common.{◌≡◌, ℕ, Option, Some, get_or, set, refl, sym, ap, ◌∙◌, subst}
use Rattle.wbt_table.proofs.Common.{MayGrant, granted, setting, no_writer, CpuRecord, LogsGrant, Has, Logs, LogChanges, put_record, given, Seated, Shape, Changes, LogComes, Knows, States, IsSeat, seated, KeepsTriples, KeepsSequences, TimerRecord}
use Rattle.wbt_table.specs.declared.layout.Layout.{Layout}
use Rattle.wbt_table.specs.declared.state.CpuState.{CpuState}
use Rattle.wbt_table.specs.declared.rule.Granted.{Granted}
use Rattle.wbt_table.proofs.Calling.{state_here}
use Rattle.wbt_table.proofs.Seating.{logs_weaker}
use Rattle.wbt_table.proofs.Granting.{granted_seat, granted_changes}
use Rattle.wbt_table.proofs.Triples.{given_triples, triples_put}
use Rattle.wbt_table.proofs.seat.Throttle.grant.Goals as goal

pub state_of-requires : goal.state_of-requires
state_of-requires c = let s = c.seat.inside in let h = c.requires.may in
    let same : c.self.inside.words.layout ≡ c.args.self.now.layout = ap (λ (t : Shape). t.layout) c.self.view_is in
    let cpu : ℕ = (get_or c.as_slice.result.now c.args.writer no_writer).cpu in
    let its : (setting c.args.self.now.layout).seat c.args.writer ≡ cpu =
    (λ i. (get_or (sym same i).writers c.args.writer no_writer).cpu) ∙ (λ i. (get_or (sym c.as_slice.ensures i) c.args.writer no_writer).cpu) in
    state_here c.args.self.now.layout s.place.table_id s.place.me s.cpus.items s.lefts.items s.timer c.args.seat.now c.seat.view_is c.requires.seat.layout c.seat.invariant.seat
    cpu h.0 (subst (λ (i : ℕ). Has c.args.seat.now.cpus i h.0) its h.1)

pub invariant_of-seat : goal.invariant_of-seat
invariant_of-seat c = let s = c.seat.inside in let h = c.requires.may in
    let key : Layout = c.self.inside.words.layout in
    let same : key ≡ c.args.self.now.layout = ap (λ (t : Shape). t.layout) c.self.view_is in
    let at = c.requires.seat.layout ∙ sym same in
    let w : ℕ = c.args.writer in
    let n : ℕ = c.args.decision.now.left in
    let has = subst (λ (k : Layout). Has c.args.seat.now.cpus ((setting k).seat w) h.0) (sym same) h.1 in
    let can = subst (λ (k : Layout). MayGrant (setting k) w n h.0) (sym same) h.2 in
    let st : CpuState = c.state_of.result.now in
    let cpu : ℕ = (get_or c.as_slice.result.now w no_writer).cpu in
    let its : cpu ≡ (setting key).seat w = λ i. (get_or (c.as_slice.ensures i) w no_writer).cpu in
    let knows = subst (λ (i : ℕ). Knows s.cpus.items i st) its c.state_of.ensures in
    let s' : CpuState = record st { grants = Some (record { writer = w; left = n }) } in
    let gave = subst (λ (i : ℕ). (q : CpuRecord) → Has s.place.me.0.cpus i q → c.give.new.place.me.0.cpus ≡ put_record i (given st.grants q) s.place.me.0.cpus) its c.give.ensures.given in
    let others = c.give.ensures.others in
    let known = c.seat.invariant.seat.agrees.known ((setting key).seat w) st knows in
    record {
      seat = subst (λ (l : States). IsSeat c.give.new.place.me l (set s.lefts.items w n) s.timer) (sym (c.hold_grant.ensures st c.state_of.ensures))
          (subst (λ (i : ℕ). IsSeat c.give.new.place.me (set s.cpus.items i (Some s')) (set s.lefts.items w n) s.timer) (sym its)
          (granted_seat key s.place.table_id s.place.me s.cpus.items s.lefts.items s.timer c.args.seat.now c.seat.view_is at c.seat.invariant.seat w n h.0 has can st knows
          c.give.new.place.me s' refl gave others.0 others.1 others.2 (set s.lefts.items w n) refl));
      triples = subst (λ (k : Layout). KeepsTriples k s.held.triples.items c.give.new.place.me.0.cpus) (sym others.0)
          (triples_put s.place.me.0.layout s.held.triples.items s.place.me.0.cpus c.give.new.place.me.0.cpus ((setting key).seat w) (given st.grants known.0) known.0 (gave known.0 known.1) known.1
          (given_triples st.grants known.0) c.seat.invariant.triples);
      sequences = subst (λ (z : Layout × Option TimerRecord). KeepsSequences z.0 s.held.sequences.items z.1) (λ i. (sym others.0 i, sym others.1 i)) c.seat.invariant.sequences;
    }

pub returns-clause-changes : goal.returns-clause-changes
returns-clause-changes c = let s = c.seat.inside in let h = c.requires.may in
    let key : Layout = c.self.inside.words.layout in
    let same : key ≡ c.args.self.now.layout = ap (λ (t : Shape). t.layout) c.self.view_is in
    let at = c.requires.seat.layout ∙ sym same in
    let w : ℕ = c.args.writer in
    let n : ℕ = c.args.decision.now.left in
    let has = subst (λ (k : Layout). Has c.args.seat.now.cpus ((setting k).seat w) h.0) (sym same) h.1 in
    let can = subst (λ (k : Layout). MayGrant (setting k) w n h.0) (sym same) h.2 in
    let st : CpuState = c.state_of.result.now in
    let cpu : ℕ = (get_or c.as_slice.result.now w no_writer).cpu in
    let its : cpu ≡ (setting key).seat w = λ i. (get_or (c.as_slice.ensures i) w no_writer).cpu in
    let knows = subst (λ (i : ℕ). Knows s.cpus.items i st) its c.state_of.ensures in
    let s' : CpuState = record st { grants = Some (record { writer = w; left = n }) } in
    let gave = subst (λ (i : ℕ). (q : CpuRecord) → Has s.place.me.0.cpus i q → c.give.new.place.me.0.cpus ≡ put_record i (given st.grants q) s.place.me.0.cpus) its c.give.ensures.given in
    let others = c.give.ensures.others in
    let new : Seated = seated c.give.new.place.table_id c.give.new.place.me (set s.cpus.items cpu (Some s')) in
    subst (λ (l : States). Changes ((setting c.args.self.now.layout).seat w) (granted w n) c.args.seat.now (seated c.give.new.place.table_id c.give.new.place.me l)) (sym (c.hold_grant.ensures st c.state_of.ensures)) (
    subst (λ (k : Layout). Changes ((setting k).seat w) (granted w n) c.args.seat.now new) same
    (subst (λ (i : ℕ). Changes ((setting key).seat w) (granted w n) c.args.seat.now (seated c.give.new.place.table_id c.give.new.place.me (set s.cpus.items i (Some s')))) (sym its)
    (granted_changes key s.place.table_id s.place.me s.cpus.items s.lefts.items s.timer c.args.seat.now c.seat.view_is at c.seat.invariant.seat w n h.0 has can st knows
    c.give.new.place.me s' refl gave others.0 others.1 others.2 c.give.new.place.table_id c.give.ensures.seat.0)))

pub returns-clause-logs : goal.returns-clause-logs
returns-clause-logs c = let s = c.seat.inside in
    let key : Layout = c.self.inside.words.layout in
    let same : key ≡ c.args.self.now.layout = ap (λ (t : Shape). t.layout) c.self.view_is in
    let w : ℕ = c.args.writer in
    let st : CpuState = c.state_of.result.now in
    let cpu : ℕ = (get_or c.as_slice.result.now w no_writer).cpu in
    let its : cpu ≡ (setting c.args.self.now.layout).seat w = (λ i. (get_or (c.as_slice.ensures i) w no_writer).cpu) ∙ (λ i. (get_or (same i).writers w no_writer).cpu) in
    let new : Seated = seated c.give.new.place.table_id c.give.new.place.me c.hold_grant.new.cpus.items in
    let logs : LogComes cpu (LogsGrant st.grants) c.args.seat.now new = record {
      timer_log = c.give.ensures.timer_log ∙ ap (λ (z : Seated). z.timer_log) c.seat.view_is;
      logs = subst (λ (l : Logs). LogChanges cpu (LogsGrant st.grants) l c.give.new.place.me.0.logs) (ap (λ (z : Seated). z.logs) c.seat.view_is) c.give.ensures.logs;
    } in
    subst (λ (i : ℕ). LogComes i (λ old now. (g : Option Granted) × LogsGrant g old now) c.args.seat.now new) its
    (logs_weaker cpu (LogsGrant st.grants) (λ old now. (g : Option Granted) × LogsGrant g old now) c.args.seat.now new (λ was is given. (st.grants, given)) logs)
