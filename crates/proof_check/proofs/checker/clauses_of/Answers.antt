use Rattle.std.proofs.Common.{◌+◌, ◌^◌, ◌++◌, ◌∷◌, [], List, arith, sym, ap, ◌∙◌, subst}
use Rattle.order_ints.specs.declared.literal.Lit.{Lit}
use Rattle.order_ints.specs.Place.{ClauseBelow}
use Rattle.proof_check.proofs.Checks.{clause-at-below, start-more, start-last, alive}
use Rattle.proof_check.proofs.checker.clauses_of.Goals as goal

pub push-requires-clause-last : goal.push-requires-clause-last
push-requires-clause-last c =
    start-last c.args.clauses.now c.loop-i.i c.loop-i.arena (omega arith) c.loop-i.invariant

pub push-requires-clause-below : goal.push-requires-clause-below
push-requires-clause-below c =
    let P : List Lit → Type 0 = λ x. ClauseBelow (2 ^ 27 + 1) x in
    subst P (sym c.as_slice.ensures)
    (clause-at-below (2 ^ 27 + 1) c.args.clauses.now c.loop-i.i c.index-clauses-i.result c.requires c.loop-i-test.true c.index-clauses-i.is)

pub loop-i-preserved : goal.loop-i-preserved
loop-i-preserved c =
    let put = c.in_ok-push.ensures in
    start-more c.args.clauses.now c.loop-i.i c.index-clauses-i.result c.loop-i.arena c.push.new.self c.loop-i-test.true c.index-clauses-i.is c.loop-i.invariant
    (put.ok ∙ ap (λ (x : List Lit). c.loop-i.arena ++ alive (c.loop-i.i + 1) x ∷ []) c.as_slice.ensures)
