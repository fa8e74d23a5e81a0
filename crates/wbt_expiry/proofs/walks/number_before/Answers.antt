use Rattle.std.proofs.Common.{◌≤◌, ℕ, length, List, arith, ap, sym}
use Rattle.wbt_expiry.specs.Paths.{next_of, path_of, times_in}
use Rattle.wbt_expiry.proofs.Paths.{ends_on, begins, first_stands}
use Rattle.wbt_expiry.proofs.Times.{times_other, times_more}
use Rattle.wbt_expiry.proofs.walks.number_before.Goals as goal

pub walk-init : goal.walk-init
walk-init c = record {
  ends = c.requires.ends;
  ahead = c.requires.on;
  differs = c.requires.after;
  on = first_stands c.args.nexts.now c.args.first c.requires.ends (begins c.args.nexts.now c.args.first c.args.number c.requires.on);
  part = λ x. omega arith;
}

pub bounds-nexts-before : goal.bounds-nexts-before
bounds-nexts-before c = begins c.args.nexts.now c.walk.before c.args.number c.walk.invariant.ahead

pub bounds-nexts-before-in-walk : goal.bounds-nexts-before-in-walk
bounds-nexts-before-in-walk c = begins c.args.nexts.now c.walk.before c.args.number c.walk.invariant.ahead

pub walk-smaller : goal.walk-smaller
walk-smaller c =
    let within = begins c.args.nexts.now c.walk.before c.args.number c.walk.invariant.ahead in
    omega (arith, ap (λ (l : List ℕ). length l) (ends_on c.args.nexts.now c.walk.before c.walk.invariant.ends within).0)

pub walk-preserved : goal.walk-preserved
walk-preserved c =
    let within = begins c.args.nexts.now c.walk.before c.args.number c.walk.invariant.ahead in
    let goes = ends_on c.args.nexts.now c.walk.before c.walk.invariant.ends within in
    let next : ℕ = next_of c.args.nexts.now c.walk.before in
    let rest : List ℕ = path_of c.args.nexts.now next in
    let ahead : 1 ≤ times_in c.args.number rest =
    omega (
      arith,
      c.walk.invariant.ahead,
      ap (times_in c.args.number) goes.0,
      times_other c.args.number c.walk.before rest (λ same. c.walk.invariant.differs (sym same)),
    ) in
    let part : (x : ℕ) → times_in x rest ≤ times_in x (path_of c.args.nexts.now c.args.first) =
    λ x. omega (arith, c.walk.invariant.part x, ap (times_in x) goes.0, times_more x c.walk.before rest) in
    record {
      ends = goes.1;
      ahead = ahead;
      differs = c.walk-test.true;
      on = omega (arith, part next, first_stands c.args.nexts.now next goes.1 (begins c.args.nexts.now next c.args.number ahead));
      part = part;
    }
