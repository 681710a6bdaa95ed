use Rattle.std.proofs.Common.{length, ap, sym, ◌∙◌}
use Rattle.compile_mode.proofs.MapLines.{as_many}
use Rattle.compile_mode.proofs.making.write_compilation.Goals as goal

pub entries_of-requires : goal.entries_of-requires
entries_of-requires c =
    ap length c.into_vec.ensures ∙ as_many _ c.args.compiled.decls c.args.compiled.map.entries c.requires.values ∙ sym (ap length c.into_vec-2.ensures)
