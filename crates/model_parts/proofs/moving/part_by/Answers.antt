use Rattle.std.proofs.Common.{◌≡◌, ◌+◌, false, Bool, List, ◌∷◌, ◌++◌, drop, ap, sym, ◌∙◌, arith}
use Rattle.std.specs.Prelude.{reverse, slice_index_or}
use Rattle.model_parts.specs.Sides.{kept_of, left_of}
use Rattle.model_parts.proofs.Sided.{sided-kept, sided-left, drop-at}
use Rattle.model_parts.proofs.moving.part_by.Goals as goal

pub loop-mark-preserved : goal.loop-mark-preserved
loop-mark-preserved c =
    let marks = c.args.marks.now in
    let i = c.loop-mark.mark-index in
    let more = drop (i + 1) marks in
    let rest = reverse c.loop-mark.stmts.items in
    let now = reverse c.side_next.new.stmts.items in
    let next : drop i marks ≡ slice_index_or marks i false ∷ drop (i + 1) marks = drop-at marks i (omega (arith, c.loop-mark-test.true)) in
    record {
      kept =
          sided-kept (slice_index_or marks i false) more c.loop-mark.kept.items c.loop-mark.left.items rest c.side_next.new.kept.items c.side_next.new.left.items now c.in_ok-side_next.ensures
          ∙ (ap (λ (ms : List Bool). c.loop-mark.kept.items ++ kept_of ms rest) (sym next) ∙ c.loop-mark.invariant.kept);
      left =
          sided-left (slice_index_or marks i false) more c.loop-mark.kept.items c.loop-mark.left.items rest c.side_next.new.kept.items c.side_next.new.left.items now c.in_ok-side_next.ensures
          ∙ (ap (λ (ms : List Bool). c.loop-mark.left.items ++ left_of ms rest) (sym next) ∙ c.loop-mark.invariant.left);
    }
