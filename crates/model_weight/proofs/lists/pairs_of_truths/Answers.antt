use Rattle.std.proofs.Common.{arith, false}
use Rattle.model_meaning.specs.declared.what.BoolTerm.TheVariants as bool_term
use Rattle.model_weight.proofs.StepLists.{zip-moved, zip-finished}
use Rattle.model_weight.proofs.lists.pairs_of_truths.Goals as goal

pub loop-i-preserved : goal.loop-i-preserved
loop-i-preserved c =
    let none = bool_term.Const false in
    zip-moved (λ _. 1) (λ _. 1) c.args.left.now c.args.right.now c.loop-i.i none none c.loop-i.pairs.items _ c.push.new.self.items
    (omega arith) (omega arith) c.in_ok-push.ensures.items c.loop-i.invariant

pub returns : goal.returns
returns c =
    zip-finished (λ _. 1) (λ _. 1) c.args.left.now c.args.right.now c.loop-i.i c.loop-i.pairs.items _ (omega arith) c.loop-i.invariant
