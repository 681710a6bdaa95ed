use Rattle.std.proofs.Common.{arith, ◌∙◌, ap, reverse, slice_index_or}
use Rattle.bee_outside.specs.MemShelf.{given_file}
use Rattle.bee_outside.specs.MemFiles.{kept_file}
use Rattle.bee_outside.proofs.FileLaws.{map_in_place_more, ahead_more, kept_file-reversed}
use Rattle.bee_outside.proofs.mem_shelf.reverse_texts.Goals as goal

pub loop-file-preserved : goal.loop-file-preserved
loop-file-preserved c =
    let file = slice_index_or c.loop-file.files c.loop-file.file-index c.file-item.result in
    record {
      done = map_in_place_more kept_file given_file c.args.files.now c.loop-file.files c.loop-file.file-index c.file-item.result _ (omega arith) (omega arith) c.loop-file.invariant.done c.loop-file.invariant.ahead (kept_file-reversed file c.reverse.new.self (c.reverse.ensures.after ∙ ap reverse c.as_mut_slice.ensures.value));
      ahead = ahead_more c.args.files.now c.loop-file.files c.loop-file.file-index _ c.loop-file.invariant.ahead;
    }
