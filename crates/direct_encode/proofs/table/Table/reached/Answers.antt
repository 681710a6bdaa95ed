use Rattle.std.proofs.Common.{sym, ap, ◌∙◌, arith}
use Rattle.direct_encode.proofs.TableLaws.{table_length, read, at_of-place}
use Rattle.direct_encode.proofs.table.Table.reached.Goals as goal

pub index-requires : goal.index-requires
index-requires c =
    let s = c.args.self.now in
    let all = table_length s.int.now s.levels.items s.lists in
    omega (arith, c.requires, s.levels.ok.0, all)

pub returns : goal.returns
returns c =
    let s = c.args.self.now in
    ap (λ l. l.1) (read s.int.now s.levels.items c.args.place c.index.result.now s.lists c.requires c.index.ensures)
    ∙ sym (at_of-place s.int.now c.args.place s.sound.1 c.requires)
