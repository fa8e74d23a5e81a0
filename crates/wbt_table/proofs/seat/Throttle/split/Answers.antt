use Rattle.std.proofs.Common.{◌≡◌, ◌≢◌, ℕ, List, length, replicate, set, Option, Some, None, sym, refl, ap, ◌∙◌, subst, arith}
use Rattle.std.proofs.lemmas.List.{length-replicate}
use Rattle.wbt_table.specs.declared.state.CpuState.{CpuState}
use Rattle.wbt_table.proofs.Common.{Sat, IsKept, Shape, Seated, States, seated}
use Rattle.wbt_table.proofs.Lists.{at_less, at_read}
use Rattle.wbt_table.proofs.Living.{timer_splits}
use Rattle.wbt_table.proofs.Splitting.{timer_held, timer_left_seen, timer_right_seen, cpu_state, cpu_record, cpu_left_seen, cpu_right_seen, cpu_left_seat, cpu_right_seat, timer_right_kept, cpu_left_kept, cpu_right_kept}
use Rattle.wbt_table.proofs.seat.Throttle.split.Goals as goal

pub index-requires : goal.index-requires
index-requires c = let s = c.seat.inside in
    let ne : c.args.cpu ≢ length s.cpus.items = λ e. let l = c.len-2.ensures in c.if-cpu-len.false (omega arith) in
    let t = cpu_state s.place.table_id s.place.me s.cpus.items s.lefts.items s.timer c.args.seat.now c.seat.view_is c.seat.invariant.seat c.args.cpu c.requires.held ne in
    let less = at_less s.cpus.items c.args.cpu (Some t.0) t.1 in omega arith

pub split_seat-place-requires : goal.split_seat-place-requires
split_seat-place-requires c = let s = c.seat.inside in
    let e = ap (λ (t : Shape). t.table) c.self.view_is in
    let at = ap (λ (t : Seated). t.table) c.seat.view_is in
    let wide = c.self.inside.words.wide in
    let l = c.len-2.ensures in
    let is = c.if-cpu-len.true in
    let t = timer_held s.place.table_id s.place.me s.cpus.items s.lefts.items s.timer c.args.seat.now c.seat.view_is c.seat.invariant.seat c.args.cpu c.requires.held (omega arith) in (
      at ∙ c.requires.seat.table ∙ sym e,
      omega arith,
      λ st kept here. timer_splits c.self.inside.words.table.shared.key st kept s.place.id s.place.me.0 t.0 here t.1,
    )

pub invariant_of-result : goal.invariant_of-result
invariant_of-result c = let s = c.seat.inside in
    let l : c.len.result ≡ length s.cpus.items = let e = c.len.ensures in omega arith in
    let cpus : c.in_ok-cpus.cpus.items ≡ replicate (length s.cpus.items) None = c.in_ok-cpus.ensures ∙ ap (λ (n : ℕ). replicate n None) l in
    let lefts : c.in_ok-lefts.lefts.items ≡ s.lefts.items = c.in_ok-lefts.ensures ∙ c.deref.ensures.value in
    let me = c.split_seat-place.ensures.4 in
    let held = c.in_ok-held.ensures in
    subst (λ (z : Sat × States × List ℕ). IsKept z.0 z.1 z.2 c.in_ok-held.held s.timer) (λ i. (sym me i, sym cpus i, sym lefts i))
    (timer_right_kept s.place.me s.cpus.items s.lefts.items s.held s.timer c.seat.invariant c.in_ok-held.held held.0 held.1)

pub returns-then-cpu-len-clause-ok : goal.returns-then-cpu-len-clause-ok
returns-then-cpu-len-clause-ok c = let s = c.seat.inside in
    let l : c.len.result ≡ length s.cpus.items = let e = c.len.ensures in omega arith in
    let l' = c.len-2.ensures in
    let t = c.if-cpu-len.true in
    let is : c.args.cpu ≡ length s.cpus.items = omega arith in
    let cpus : c.in_ok-cpus.cpus.items ≡ replicate (length s.cpus.items) None = c.in_ok-cpus.ensures ∙ ap (λ (n : ℕ). replicate n None) l in
    let table : c.split_seat-place.new.seat.table_id ≡ s.place.table_id = c.split_seat-place.ensures.0 in
    let table' : c.split_seat-place.result.table_id ≡ s.place.table_id = c.split_seat-place.ensures.3 in
    let me = c.split_seat-place.ensures.2 in
    let me' = c.split_seat-place.ensures.4 in (
      (λ i. seated (table i) (me i) s.cpus.items) ∙ timer_left_seen s.place.table_id s.place.me s.cpus.items s.lefts.items s.timer c.args.seat.now c.seat.view_is c.seat.invariant.seat c.args.cpu c.requires.held is,
      (λ i. seated (table' i) (me' i) (cpus i)) ∙ timer_right_seen s.place.table_id s.place.me s.cpus.items s.lefts.items s.timer c.args.seat.now c.seat.view_is c.seat.invariant.seat c.args.cpu c.requires.held is,
    )

pub index_mut-requires : goal.index_mut-requires
index_mut-requires c = let s = c.seat.inside in
    let l : c.len.result ≡ length s.cpus.items = let e = c.len.ensures in omega arith in
    let ne : c.args.cpu ≢ length s.cpus.items = λ e. let l = c.len-2.ensures in c.if-cpu-len.false (omega arith) in
    let t = cpu_state s.place.table_id s.place.me s.cpus.items s.lefts.items s.timer c.args.seat.now c.seat.view_is c.seat.invariant.seat c.args.cpu c.requires.held ne in
    let less = at_less s.cpus.items c.args.cpu (Some t.0) t.1 in
    let cpus : c.in_ok-cpus.cpus.items ≡ replicate (length s.cpus.items) None = c.in_ok-cpus.ensures ∙ ap (λ (n : ℕ). replicate n None) l in
    let long : length c.in_ok-cpus.cpus.items ≡ length s.cpus.items = ap (λ (x : States). length x) cpus ∙ length-replicate {A = Option CpuState} (length s.cpus.items) None in omega arith

pub index_mut-requires-2 : goal.index_mut-requires-2
index_mut-requires-2 c = let s = c.seat.inside in
    let ne : c.args.cpu ≢ length s.cpus.items = λ e. let l = c.len-2.ensures in c.if-cpu-len.false (omega arith) in
    let t = cpu_state s.place.table_id s.place.me s.cpus.items s.lefts.items s.timer c.args.seat.now c.seat.view_is c.seat.invariant.seat c.args.cpu c.requires.held ne in
    let less = at_less s.cpus.items c.args.cpu (Some t.0) t.1 in omega arith

pub split_place-place-requires-clause-held : goal.split_place-place-requires-clause-held
split_place-place-requires-clause-held c = let s = c.seat.inside in
    cpu_record s.place.table_id s.place.me s.cpus.items s.lefts.items s.timer c.args.seat.now c.seat.view_is c.seat.invariant.seat c.args.cpu c.requires.held
    (λ e. let l = c.len-2.ensures in c.if-cpu-len.false (omega arith))

pub invariant_of-result-2 : goal.invariant_of-result-2
invariant_of-result-2 c = let s = c.seat.inside in
    let l : c.len.result ≡ length s.cpus.items = let e = c.len.ensures in omega arith in
    let ne : c.args.cpu ≢ length s.cpus.items = λ e. let l = c.len-2.ensures in c.if-cpu-len.false (omega arith) in
    let t = cpu_state s.place.table_id s.place.me s.cpus.items s.lefts.items s.timer c.args.seat.now c.seat.view_is c.seat.invariant.seat c.args.cpu c.requires.held ne in
    let read : c.index.result.now ≡ Some t.0 = c.index.ensures ∙ at_read s.cpus.items c.args.cpu (Some t.0) t.1 c.index.result.now in
    let empty : c.in_ok-cpus.cpus.items ≡ replicate (length s.cpus.items) None = c.in_ok-cpus.ensures ∙ ap (λ (n : ℕ). replicate n None) l in
    let cpus : set c.in_ok-cpus.cpus.items c.args.cpu c.index.result.now ≡ set (replicate (length s.cpus.items) None) c.args.cpu (Some t.0) = λ i. set (empty i) c.args.cpu (read i) in
    let lefts : c.in_ok-lefts.lefts.items ≡ s.lefts.items = c.in_ok-lefts.ensures ∙ c.deref.ensures.value in
    let me = c.split_place-place.ensures.right in
    let held = c.in_ok-held.ensures in
    subst (λ (z : Sat × States × List ℕ). IsKept z.0 z.1 z.2 c.in_ok-held.held None) (λ i. (sym me i, sym cpus i, sym lefts i))
    (cpu_right_kept s.place.me s.cpus.items s.lefts.items s.held s.timer c.seat.invariant c.in_ok-held.held held.0 held.1 c.args.cpu (set (replicate (length s.cpus.items) None) c.args.cpu (Some t.0))
    (cpu_right_seat s.place.table_id s.place.me s.cpus.items s.lefts.items s.timer c.args.seat.now c.seat.view_is c.seat.invariant.seat c.args.cpu c.requires.held ne))

pub invariant_of-seat-2 : goal.invariant_of-seat-2
invariant_of-seat-2 c = let s = c.seat.inside in
    let ne : c.args.cpu ≢ length s.cpus.items = λ e. let l = c.len-2.ensures in c.if-cpu-len.false (omega arith) in
    subst (λ (z : Sat). IsKept z (set s.cpus.items c.args.cpu None) s.lefts.items s.held s.timer) (sym c.split_place-place.ensures.left)
    (cpu_left_kept s.place.me s.cpus.items s.lefts.items s.held s.timer c.seat.invariant c.args.cpu (set s.cpus.items c.args.cpu None)
    (cpu_left_seat s.place.table_id s.place.me s.cpus.items s.lefts.items s.timer c.args.seat.now c.seat.view_is c.seat.invariant.seat c.args.cpu c.requires.held ne))

pub returns-clause-ok : goal.returns-clause-ok
returns-clause-ok c = let s = c.seat.inside in
    let l : c.len.result ≡ length s.cpus.items = let e = c.len.ensures in omega arith in
    let ne : c.args.cpu ≢ length s.cpus.items = λ e. let l = c.len-2.ensures in c.if-cpu-len.false (omega arith) in
    let t = cpu_state s.place.table_id s.place.me s.cpus.items s.lefts.items s.timer c.args.seat.now c.seat.view_is c.seat.invariant.seat c.args.cpu c.requires.held ne in
    let read : c.index.result.now ≡ Some t.0 = c.index.ensures ∙ at_read s.cpus.items c.args.cpu (Some t.0) t.1 c.index.result.now in
    let empty : c.in_ok-cpus.cpus.items ≡ replicate (length s.cpus.items) None = c.in_ok-cpus.ensures ∙ ap (λ (n : ℕ). replicate n None) l in
    let cpus : set c.in_ok-cpus.cpus.items c.args.cpu c.index.result.now ≡ set (replicate (length s.cpus.items) None) c.args.cpu (Some t.0) = λ i. set (empty i) c.args.cpu (read i) in
    let table : c.split_place-place.new.place.table_id ≡ s.place.table_id = c.split_place-place.ensures.seats.0 in
    let table' : c.split_place-place.result.table_id ≡ s.place.table_id = c.split_place-place.ensures.seats.2 in
    let me = c.split_place-place.ensures.left in
    let me' = c.split_place-place.ensures.right in (
      (λ i. seated (table i) (me i) (set s.cpus.items c.args.cpu None)) ∙ cpu_left_seen s.place.table_id s.place.me s.cpus.items s.lefts.items s.timer c.args.seat.now c.seat.view_is c.seat.invariant.seat c.args.cpu c.requires.held ne,
      (λ i. seated (table' i) (me' i) (cpus i)) ∙ cpu_right_seen s.place.table_id s.place.me s.cpus.items s.lefts.items s.timer c.args.seat.now c.seat.view_is c.seat.invariant.seat c.args.cpu c.requires.held ne,
    )
