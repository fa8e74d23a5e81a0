use Rattle.std.proofs.Common.{ℕ, sym, subst}
use Rattle.wbt_grant.specs.declared.record.CpuRecord.{CpuRecord}
use Rattle.wbt_table.specs.Layout.{setting}
use Rattle.wbt_table.specs.Rule.{Has}
use Rattle.wbt_table.specs.Callers.{StepsFor}
use Rattle.wbt_table.proofs.Trying.{after_its_changes}
use Rattle.table_bench.proofs.timed.loads.Goals as goal

pub load_count-domain-requires-clause-held : goal.load_count-domain-requires-clause-held
load_count-domain-requires-clause-held c = (
  c.requires.writer.there,
  subst (λ (i : ℕ). (r : CpuRecord) × Has c.load_limits-limits.new.seat.cpus i r) (sym c.requires.writer.seat)
      c.load_limits-limits.ensures.held,
)

pub load_count-context-requires-clause-held : goal.load_count-context-requires-clause-held
load_count-context-requires-clause-held c = let w : ℕ = c.args.writer in let t = c.args.throttle.now in
    let two : StepsFor t c.args.cpu c.load_count-domain.new.seat = after_its_changes t ((setting t.layout).seat w) c.args.cpu _ c.load_limits-limits.new.seat c.load_count-domain.new.seat
    c.requires.writer.seat c.load_limits-limits.ensures c.load_count-domain.ensures.loads.2.changes in
    (c.requires.writer.there, subst (λ (i : ℕ). (r : CpuRecord) × Has c.load_count-domain.new.seat.cpus i r) (sym c.requires.writer.seat) two.held)

pub returns : goal.returns
returns c = let w : ℕ = c.args.writer in let t = c.args.throttle.now in
    let two : StepsFor t c.args.cpu c.load_count-domain.new.seat = after_its_changes t ((setting t.layout).seat w) c.args.cpu _ c.load_limits-limits.new.seat c.load_count-domain.new.seat
    c.requires.writer.seat c.load_limits-limits.ensures c.load_count-domain.ensures.loads.2.changes in
    after_its_changes t ((setting t.layout).seat w) c.args.cpu _ c.load_count-domain.new.seat c.load_count-context.new.seat c.requires.writer.seat two c.load_count-context.ensures.loads.2.changes
