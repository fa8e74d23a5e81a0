use Rattle.std.proofs.Common.{◌≡◌, ℕ, ◌+◌, ◌-◌, true, false, slice_index_or, Some, sym, ◌∙◌, ap, arith}
use Rattle.wbt_replay_order.proofs.Common.{seen, Actor, actor_at, after, chance_of, is_nothing, seek_actor}
use Rattle.wbt_replay_order.specs.Kept.Round.{CanPass}
use Rattle.wbt_replay_order.specs.Kept.Seeks.{found_at}
use Rattle.wbt_replay_order.specs.declared.chance.Chance.{Chance}
use Rattle.wbt_replay.proofs.Ordering.Passing.{passed_all, passed_to}
use Rattle.wbt_replay.proofs.Ordering.Seeking.{actor_hit, actor_miss, actor_none, after_below}
use Rattle.wbt_replay.proofs.ready.seek_actor.Goals as goal

pub returns-then-passed-left : goal.returns-then-passed-left
returns-then-passed-left c =
    let s = seen c.args.machine.now in
    let to : ℕ = slice_index_or c.args.round.now c.loop.place 0 in
    let can : CanPass s c.loop.place to = c.requires.passes.each c.loop.place (omega (arith, c.loop.invariant.there, c.requires.count)) in
    sym (passed_all s c.loop.left c.loop.place to can (omega (arith, can.after, c.if-passed-left.true))) ∙ c.loop.invariant.same

pub returns-then-not-is_nothing : goal.returns-then-not-is_nothing
returns-then-not-is_nothing c =
    let s = seen c.args.machine.now in
    let to : ℕ = slice_index_or c.args.round.now c.loop.place 0 in
    let left : ℕ = c.loop.left - (to - c.loop.place) in
    let can : CanPass s c.loop.place to = c.requires.passes.each c.loop.place (omega (arith, c.loop.invariant.there, c.requires.count)) in
    let here : chance_of (actor_at to s) s ≡ c.chance_of-chance.result = ap (λ (a : Actor). chance_of a s) (sym c.actor_at-actor.ensures) ∙ sym c.chance_of-chance.ensures in
    let yes : is_nothing (chance_of (actor_at to s) s) ≡ false = ap is_nothing here ∙ sym c.is_nothing.ensures ∙ c.if-not-is_nothing.true in
    ap (λ (x : Chance). Some (record { actor = c.actor_at-actor.result; chance = x })) c.chance_of-chance.ensures ∙ ap (λ (a : Actor). Some (found_at a s)) c.actor_at-actor.ensures
    ∙ sym (actor_hit s left to (omega (arith, c.if-passed-left.false)) yes)
    ∙ sym (passed_to s c.loop.left left c.loop.place to can (omega (arith, can.after, c.if-passed-left.false)))
    ∙ c.loop.invariant.same

pub loop-preserved : goal.loop-preserved
loop-preserved c =
    let s = seen c.args.machine.now in
    let to : ℕ = slice_index_or c.args.round.now c.loop.place 0 in
    let left : ℕ = c.loop.left - (to - c.loop.place) in
    let less : ℕ = c.loop.left - (to - c.loop.place + 1) in
    let can : CanPass s c.loop.place to = c.requires.passes.each c.loop.place (omega (arith, c.loop.invariant.there, c.requires.count)) in
    let here : chance_of (actor_at to s) s ≡ c.chance_of-chance.result = ap (λ (a : Actor). chance_of a s) (sym c.actor_at-actor.ensures) ∙ sym c.chance_of-chance.ensures in
    let no : is_nothing (chance_of (actor_at to s) s) ≡ true = ap is_nothing here ∙ sym c.is_nothing.ensures ∙ c.if-not-is_nothing.false in
    let next = c.after-place.ensures in
    record {
      same = ap (seek_actor s less) (next ∙ ap (λ (n : ℕ). after n to) c.requires.count)
          ∙ sym (actor_miss s left less to (omega (arith, c.if-passed-left.false)) no)
          ∙ sym (passed_to s c.loop.left left c.loop.place to can (omega (arith, can.after, c.if-passed-left.false)))
          ∙ c.loop.invariant.same;
      there = omega (arith, next, after_below c.args.count to (omega (arith, c.loop.invariant.there)));
      fewer = omega (arith, c.loop.invariant.fewer, c.if-passed-left.false);
    }

pub returns : goal.returns
returns c =
    sym (actor_none (seen c.args.machine.now) c.loop.left c.loop.place (omega (arith, c.loop.invariant.fewer, c.loop-test.false))) ∙ c.loop.invariant.same
