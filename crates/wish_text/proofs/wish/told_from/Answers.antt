use Rattle.std.proofs.Common.{◌-◌, length}
use Rattle.wish_text.proofs.Slices.{slice-limits, slice-told}
use Rattle.wish_text.proofs.wish.told_from.Goals as goal

pub find_told-requires : goal.find_told-requires
find_told-requires c = slice-limits (length c.args.decls.now - c.min-from.result) c.min-from.result c.args.decls.now c.requires

pub returns : goal.returns
returns c = slice-told c.args.line.now (length c.args.decls.now - c.min-from.result) c.min-from.result c.args.decls.now c.in_ok-told.ensures
