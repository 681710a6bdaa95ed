use Rattle.std.proofs.Common.{arith}
use Rattle.direct_encode.proofs.TableLaws.{table_length}
use Rattle.direct_encode.proofs.table.Table.len.Goals as goal

pub returns : goal.returns
returns c =
    let s = c.args.self.now in
    let all = table_length s.int.now s.levels.items s.lists in
    omega (arith, c.len.ensures, s.levels.ok.0, all)
