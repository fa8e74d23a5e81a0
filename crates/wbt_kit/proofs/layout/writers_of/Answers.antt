use Rattle.std.proofs.Common.{◌<◌, All, List, length, sym, ◌∙◌, subst}
use Rattle.wbt_trace.specs.declared.writers.Writer.{Writer}
use Rattle.wbt_kit.proofs.Laid.{pairs}
use Rattle.wbt_kit.proofs.layout.writers_of.Goals as goal

pub seated_each-requires : goal.seated_each-requires
seated_each-requires c =
    let trace = c.args.trace.now in
    subst (λ (l : List Writer). All (λ (w : Writer). w.task < length trace.tasks) l) (sym (c.as_slice.ensures ∙ c.in_ok-pairs.ensures))
    (λ k d low. (pairs trace c.args.trace.now.cpus c.requires k d low).0)
