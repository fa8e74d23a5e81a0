use Rattle.std.proofs.Common.{◌≡◌, List, ap, ◌∙◌, subst, ℕ, ◌*◌, ◌%◌, ◌<◌, get_or, replicate, length, Some}
use Rattle.wbt_table.proofs.Common.{Limits, first_triple, no_triple, no_limits}
use Rattle.wbt_table.specs.declared.layout.Writer.{Writer}
use Rattle.wbt_table.specs.declared.state.CpuState.{CpuState}
use Rattle.wbt_table.proofs.life.first_kept.Goals as goal

pub returns-clause-cpus : goal.returns-clause-cpus
returns-clause-cpus c = c.in_ok-cpus.ensures ∙ ap (λ (s : CpuState). replicate c.args.layout.now.cpus (Some s)) c.first_state.ensures

pub returns-clause-lefts : goal.returns-clause-lefts
returns-clause-lefts c =
    c.in_ok-lefts.ensures ∙ ap (λ (l : List Writer). replicate (length l) c.min-left.result) c.as_slice.ensures
    ∙ ap (λ (left : ℕ). replicate (length c.args.layout.now.writers) left) c.min-left.ensures

pub returns-clause-long : goal.returns-clause-long
returns-clause-long c =
    subst (λ (l : List Limits). length c.in_ok-triples.triples.items ≡ c.args.layout.now.cpus * length l) c.as_slice-firsts.ensures c.in_ok-triples.ensures.long

pub returns-clause-first : goal.returns-clause-first
returns-clause-first c =
    let key = c.args.layout.now in
    subst (λ (l : List Limits). (k : ℕ) → k < key.cpus * length l → get_or c.in_ok-triples.triples.items k no_triple ≡ first_triple (get_or l (k % length l) no_limits))
    c.as_slice-firsts.ensures c.in_ok-triples.ensures.first

pub returns-clause-sequences : goal.returns-clause-sequences
returns-clause-sequences c = c.in_ok-sequences.ensures ∙ ap (λ (l : List Limits). replicate (length l) 0) c.as_slice-firsts.ensures
