use Rattle.std.proofs.Common.{arith, sym, refl, reverse, slice_index_or}
use Rattle.bee_outside.specs.MemFiles.{kept_file}
use Rattle.std.proofs.lemmas.List.{length-reverse, length-take}
use Rattle.bee_outside.proofs.NameLaws.{FirstAt-from_position, left_under-missing}
use Rattle.bee_outside.proofs.GiveLaws.{GivesFront-from_moved}
use Rattle.bee_outside.proofs.mem_shelf.give.Goals as goal

pub returns-in_err-place : goal.returns-in_err-place
returns-in_err-place c = rw c.from_residual.ensures record { gives = record { missing = left_under-missing kept_file c.args.name.now c.args.files.now 0 (sym c.in_err-place.ensures.place); files = refl; slice = refl } }

pub returns : goal.returns
returns c =
    let first = FirstAt-from_position kept_file c.args.name.now c.args.files.now c.in_ok-place.place (sym c.in_ok-place.ensures.place) in
    let file = slice_index_or c.args.files.now c.in_ok-place.place c.index-files-place.result in
    record {
      gives = GivesFront-from_moved kept_file c.args.name.now c.args.files.now c.in_ok-place.place c.args.step c.index-files-place.result (file.0, c.take_last.new.text) c.args.into.now c.take_last.new.into (reverse c.take_last.new.text.items) c.min-size.result first refl refl c.take_last.ensures.moved (omega (arith, c.take_last.auto.into, length-take c.min-size.result c.args.into.now)) (rw length-reverse (omega (arith, file.1.ok.0)));
    }
