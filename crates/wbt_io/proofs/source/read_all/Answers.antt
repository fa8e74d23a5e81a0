use Rattle.std.proofs.Common.{arith, take, refl}
use Rattle.std.proofs.lemmas.List.{length-take}
use Rattle.wbt_io.proofs.Told.{loses_more}
use Rattle.wbt_io.proofs.source.read_all.Goals as goal

pub returns-then-count-room-clause-one_too_many : goal.returns-then-count-room-clause-one_too_many
returns-then-count-room-clause-one_too_many g c = λ is.
    loses_more _ _ _ _ _ (take c.in-Ok.count c.read.new.buf) c.pieces.invariant.taken c.in-Ok.ensures.gives (omega (arith, length-take c.in-Ok.count c.read.new.buf, length-take c.next_piece-asked.result c.pieces.piece, c.in-Ok.ensures.within, c.if-count-room.true))

pub returns-then-is_err-clause-taken : goal.returns-then-is_err-clause-taken
returns-then-is_err-clause-taken g c = λ other. (
  _,
  loses_more _ _ _ _ _ (take c.in-Ok.count c.read.new.buf) c.pieces.invariant.taken c.in-Ok.ensures.gives refl,
  omega (arith, length-take c.in-Ok.count c.read.new.buf, c.in-Ok.ensures.within, c.if-count-room.false),
)
