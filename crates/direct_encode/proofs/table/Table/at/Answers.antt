use Rattle.std.proofs.Common.{to_z, of_z, subst, arith}
use mir.Syntax.{w128}
use Rattle.std.proofs.lemmas.Int.{to_z-of_z}
use Rattle.direct_encode.specs.Search.{IsReachedAt}
use Rattle.direct_encode.proofs.TableLaws.{found_in, none_in}
use Rattle.direct_encode.proofs.table.Table.at.Goals as goal

pub returns-then-place-count : goal.returns-then-place-count
returns-then-place-count c =
    let s = c.args.self.now in
    let w = to_z w128 (of_z w128 c.args.v) in
    let at = subst (λ ls. IsReachedAt ls w c.first_reaching-place.result) c.as_slice.ensures.value c.first_reaching-place.ensures in
    found_in s.int.now s.levels.items c.args.v w c.first_reaching-place.result c.index.result.now s.lists at
    (omega (arith, c.if-place-count.true, c.len-count.ensures, s.levels.ok.0)) c.index.ensures (to_z-of_z w128 c.args.v c.ranges.v)

pub returns : goal.returns
returns c =
    let s = c.args.self.now in
    let w = to_z w128 (of_z w128 c.args.v) in
    let at = subst (λ ls. IsReachedAt ls w c.first_reaching-place.result) c.as_slice.ensures.value c.first_reaching-place.ensures in
    none_in s.int.now s.levels.items c.args.v w c.first_reaching-place.result s.lists at
    (omega (arith, c.if-place-count.false, c.len-count.ensures, s.levels.ok.0)) (to_z-of_z w128 c.args.v c.ranges.v)
