use Rattle.std.proofs.Common.{refl, ap, arith}
use Rattle.order_ints.specs.Walk.{value_at}
use Rattle.order_ints.proofs.Wide.{small_bits}
use Rattle.order_ints.proofs.Walks.{value_at-small}
use Rattle.direct_encode.proofs.TableLaws.{table_length, read}
use Rattle.direct_encode.proofs.table.Table.value.Goals as goal

pub index-requires : goal.index-requires
index-requires c =
    let s = c.args.self.now in
    let all = table_length s.int.now s.levels.items s.lists in
    omega (arith, c.requires, s.levels.ok.0, all)

pub returns-clause-value : goal.returns-clause-value
returns-clause-value c =
    let s = c.args.self.now in
    let is = ap (λ l. l.0) (read s.int.now s.levels.items c.args.place c.index.result.now s.lists c.requires c.index.ensures) in
    rw (is, small_bits (value_at s.int.now c.args.place) (value_at-small s.int.now c.args.place s.sound.0)) refl

pub returns-clause-range : goal.returns-clause-range
returns-clause-range c =
    let s = c.args.self.now in
    let is = ap (λ l. l.0) (read s.int.now s.levels.items c.args.place c.index.result.now s.lists c.requires c.index.ensures) in
    rw (is, small_bits (value_at s.int.now c.args.place) (value_at-small s.int.now c.args.place s.sound.0)) (value_at-small s.int.now c.args.place s.sound.0)
