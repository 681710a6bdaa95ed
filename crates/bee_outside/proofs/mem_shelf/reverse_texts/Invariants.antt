use Rattle.std.proofs.Common.{◌≡◌, map, take, drop}
use Rattle.bee_outside.specs.MemShelf.{given_file}
use Rattle.bee_outside.specs.MemFiles.{kept_file}
use Rattle.bee_outside.proofs.mem_shelf.reverse_texts.Given as goal

abbrev pub invariant-loop-file : goal.invariant-loop-file
invariant-loop-file l = record {
  done : map kept_file (take l.file-index l.files) ≡ map given_file (take l.file-index l.initial.files);
  ahead : drop l.file-index l.files ≡ drop l.file-index l.initial.files;
}
