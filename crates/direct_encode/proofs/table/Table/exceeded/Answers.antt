use Rattle.std.proofs.Common.{◌≡◌, ◌+◌, ◌<◌, sym, ap, ◌∙◌, arith}
use Rattle.core_forms.specs.Shapes.{steps_of}
use Rattle.direct_encode.proofs.TableLaws.{table_length, read, at_of-above, at_of-top}
use Rattle.direct_encode.proofs.table.Table.exceeded.Goals as goal

pub overflow_add-next : goal.overflow_add-next
overflow_add-next c =
    let s = c.args.self.now in
    let all = table_length s.int.now s.levels.items s.lists in
    omega (arith, c.requires, c.len-count.ensures, c.len-count.type_inv, s.levels.ok.0, all)

pub returns-then-next-count : goal.returns-then-next-count
returns-then-next-count c =
    let s = c.args.self.now in
    let k = c.args.place in
    let all = table_length s.int.now s.levels.items s.lists in
    let lt : k < steps_of s.int.now = omega (arith, c.if-next-count.true, c.len-count.ensures, s.levels.ok.0, all) in
    ap (λ l. l.1) (read s.int.now s.levels.items (k + 1) c.index.result.now s.lists (omega (arith, lt)) c.index.ensures)
    ∙ sym (at_of-above s.int.now k s.sound.1 lt)

pub returns : goal.returns
returns c =
    let s = c.args.self.now in
    let k = c.args.place in
    let all = table_length s.int.now s.levels.items s.lists in
    let top : k ≡ steps_of s.int.now = omega (arith, c.requires, c.if-next-count.false, c.len-count.ensures, s.levels.ok.0, all) in
    sym (at_of-top s.int.now k top)
