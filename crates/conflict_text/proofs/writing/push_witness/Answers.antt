use Rattle.std.proofs.Common.{[], ◌∷◌}
use Rattle.name_map.specs.ValueLines.{declared_lines}
use Rattle.conflict_text.specs.ConflictLines.{without_line}
use Rattle.conflict_text.proofs.Written.{two}
use Rattle.conflict_text.proofs.writing.push_witness.Goals as goal

pub returns : goal.returns
returns c =
    two c.args.out.now.items c.push_numbered.new.out.items _ (without_line c.args.number ∷ []) (declared_lines c.args.decls.now c.args.values.now)
    c.in_ok-push_numbered.ensures c.in_ok-push_values.ensures
