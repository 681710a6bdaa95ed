use Rattle.std.proofs.Common.{◌≡◌, ◌∙◌, ◌≤◌, [], length, get_or, sym, arith, rules}
use Rattle.std.proofs.lemmas.List.{get_or_default}
use Rattle.fixpoint_queue.proofs.Handings.{some-rest}
use Rattle.fixpoint_queue.proofs.handing.rest_of.Goals as goal

pub returns-then-len-le-FEW : goal.returns-then-len-le-FEW
returns-then-len-le-FEW c =
    let few : length c.in_ok-come.come.items ≤ 64 = omega (arith, c.if-len-le-FEW.true, c.len.ensures, c.in_ok-come.come.ok.0) in
    let listed : c.as_slice.result.now ≡ get_or c.args.lists.now c.longest-place.result [] =
    c.as_slice.ensures ∙ c.index-lists-place.is ∙ get_or_default c.args.lists.now c.longest-place.result c.index-lists-place.result [] c.if-place-lists.true in
    some-rest c.args.state.now c.args.id c.args.lists.now c.longest-place.result c.in_ok-come.come.items c.in-Some.core.now c.as_slice.result.now c.as_slice-in-Some.result.now
    c.if-place-lists.true few (sym c.in-Some.ensures.core) listed c.in_ok-come.ensures.from c.in_ok-come.ensures.all
    (λ v there. (c.in_ok-known.ensures.exact v).0 (search rules))
