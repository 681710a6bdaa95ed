use Rattle.std.proofs.Common.{arith}
use Rattle.bee_outside.proofs.ByteLaws.{TookPiece-after_text, within-smaller}
use Rattle.std.proofs.lemmas.List.{length-take}
use Rattle.bee_outside.proofs.reading.read_all.Goals as goal

pub returns-in-Err-read_piece-clause-fault_took_front : goal.returns-in-Err-read_piece-clause-fault_took_front
returns-in-Err-read_piece-clause-fault_took_front g c =
    TookPiece-after_text (g.S.Shelf.left c.args.shelf.now c.args.name.now) (g.S.Shelf.left c.loop-buffer.shelf c.args.name.now) (g.S.Shelf.left c.read_piece.new.shelf c.args.name.now) c.loop-buffer.text.items c.args.limit _ c.room_left-room.result c.loop-buffer.invariant.moved c.in-Err-read_piece.ensures.fault_took_front (simp length-take (omega arith)) (within-smaller c.args.limit _ _ c.room_left-room.ensures.within (omega arith))
