use Rattle.std.proofs.Common.{arith, ◌∙◌, ◌<◌, ◌+◌, ◌^◌, subst, length, pos}
use Rattle.std.proofs.lemmas.List.{take_all}
use Rattle.wbt_journal.specs.declared.columns.Column.{Column}
use Rattle.wbt_journal.specs.Near.{AreNear}
use Rattle.wbt_journal.proofs.Columned.{near_at, near_done, near_left, written, all_written}
use Rattle.wbt_journal.proofs.columns.advance.Goals as goal

-- what no place has
abbrev first : Column
first = record { count = pos 0; base = 0; peak = 0 }

pub after-requires : goal.after-requires
after-requires c = omega (arith, near_at c.args.most c.loop-domain.columns c.loop-domain.domain first (omega arith) c.loop-domain.invariant.left, c.requires.room)

pub loop-domain-preserved : goal.loop-domain-preserved
loop-domain-preserved c =
    let columns = c.loop-domain.columns in
    let i = c.loop-domain.domain in
    let less : i < length columns = omega arith in
    record {
      written = written c.args.homes.now c.args.step.now columns i c.after.result first less c.after.ensures.value ∙ c.loop-domain.invariant.written;
      done = near_done (c.args.most + 2 ^ 31) (c.args.most + 2 ^ 31) columns i c.after.result less (omega (arith, c.after.ensures.near, near_at c.args.most columns i first less c.loop-domain.invariant.left)) (omega arith) c.loop-domain.invariant.done;
      left = near_left _ columns i c.after.result first less c.loop-domain.invariant.left;
    }

pub returns-clause-value : goal.returns-clause-value
returns-clause-value c = all_written c.args.homes.now c.args.step.now c.loop-domain.columns _ c.loop-domain.domain (omega arith) c.loop-domain.invariant.written

pub returns-clause-near : goal.returns-clause-near
returns-clause-near c = subst (AreNear _) (take_all c.loop-domain.domain c.loop-domain.columns (omega arith)) c.loop-domain.invariant.done
