use Rattle.std.proofs.Common.{◌<◌, length, get_or, to_z, of_z, ap, ◌∙◌, arith}
use mir.Syntax.{w128}
use Rattle.std.proofs.lemmas.Int.{to_z-of_z}
use Rattle.order_ints.specs.OrderLevels.{at_of}
use Rattle.direct_encode.specs.Walked.{walked}
use Rattle.direct_encode.proofs.WalkedLaws.{walked-set, walked-get, length-walked, put_reaching, done_reaching}
use Rattle.direct_encode.proofs.maxima.push_reaching_atoms.Goals as goal

pub returns-in_err-push-clause-same : goal.returns-in_err-push-clause-same
returns-in_err-push-clause-same c =
    let ws = c.loop-i.walks.items in
    let before = c.loop-i.invariant in
    let many = length-walked ws in
    let all = length-walked c.args.walks.now.items in
    let same = ap length before.same in
    let lt : c.loop-i.i < length ws = omega (arith, many, all, same) in
    walked-set ws c.loop-i.i c.index_mut-walk.result.now c.at-atom.new.self lt c.index_mut-walk.ensures.value c.at-atom.ensures.same ∙ before.same

pub loop-i-preserved : goal.loop-i-preserved
loop-i-preserved c =
    let ws = c.loop-i.walks.items in
    let ints = walked c.args.walks.now.items in
    let old = c.index_mut-walk.result.now in
    let v = to_z w128 (of_z w128 c.args.v) in
    let before = c.loop-i.invariant in
    let many = length-walked ws in
    let all = length-walked c.args.walks.now.items in
    let same = ap length before.same in
    let lt : c.loop-i.i < length ws = omega (arith, many, all, same) in
    let here = walked-get ws c.loop-i.i old old.int.now lt c.index_mut-walk.ensures.value in
    record {
      same = walked-set ws c.loop-i.i old c.at-atom.new.self lt c.index_mut-walk.ensures.value c.at-atom.ensures.same ∙ before.same;
      written = put_reaching ints c.loop-i.i old.int.now v _ _ _ c.at-atom.result (omega (arith, all, lt, many, same))
          (c.at-atom.ensures.atom ∙ ap (λ a. at_of a v) (here ∙ ap (λ xs. get_or xs c.loop-i.i old.int.now) before.same))
          c.in_ok-push.ensures.items before.written;
    }

pub returns-clause-atoms : goal.returns-clause-atoms
returns-clause-atoms c =
    let all = length-walked c.args.walks.now.items in
    done_reaching (walked c.args.walks.now.items) c.loop-i.i c.args.v _ _ _ (omega (arith, all)) c.loop-i.invariant.written (to_z-of_z w128 c.args.v c.ranges.v)
