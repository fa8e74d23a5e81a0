use Rattle.std.proofs.Common.{◌≡◌, arith, ap, sym, ◌∙◌, take, drop, length}
use Rattle.std.proofs.lemmas.Grind.{common_steps}
use Rattle.std.proofs.lemmas.List.{length-take}
use Rattle.wbt_io.specs.Memory.{SourceInMemory}
use Rattle.wbt_io.proofs.Told.{front_and_rest}
use Rattle.wbt_io.proofs.mem_source.MemSourceSource.read.Goals as goal

pub returns-clause-gives : goal.returns-clause-gives
returns-clause-gives c =
    let bytes = c.self.inside.bytes.items in
    let at = c.self.inside.at in
    let count = c.min-count.result in
    let copied : c.copy_from_slice.new.self ≡ take count (drop at bytes) = grind (arith, common_steps) in
    let long : length c.copy_from_slice.new.self ≡ count = omega (arith, c.copy_from_slice.ensures.len, length-take count c.args.buf.now) in
    let was = ap (λ (s : SourceInMemory). s.left) c.self.view_is in
    sym was ∙ front_and_rest bytes c.copy_from_slice.new.self (drop count c.args.buf.now) at count copied long
