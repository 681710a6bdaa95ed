use Rattle.std.proofs.lemmas.Result.{IfOk-weaker, IfErr-weaker}
use Rattle.proof_import.proofs.ByKind.{with-hints, without-hints, hints-fault, plain-fault, hints-of, plain-of, hints-fails, plain-fails}
use Rattle.proof_import.proofs.refutation.either.Goals as goal

pub returns-then-is_lrat_text-clause-accepted : goal.returns-then-is_lrat_text-clause-accepted
returns-then-is_lrat_text-clause-accepted c =
    IfOk-weaker c.hinted.result _ _ (λ _ h. with-hints c.args.whole.now c.args.text.now c.is_lrat_text.result c.is_lrat_text.ensures c.if-is_lrat_text.true h) c.hinted.ensures.accepted

pub returns-then-is_lrat_text-clause-fault : goal.returns-then-is_lrat_text-clause-fault
returns-then-is_lrat_text-clause-fault c =
    IfErr-weaker c.hinted.result _ _ (λ f h. hints-fault c.args.whole.now c.args.text.now c.is_lrat_text.result c.is_lrat_text.ensures c.if-is_lrat_text.true f h) c.hinted.ensures.fault

pub returns-else-is_lrat_text-clause-accepted : goal.returns-else-is_lrat_text-clause-accepted
returns-else-is_lrat_text-clause-accepted c =
    IfOk-weaker c.judged.result _ _ (λ _ h. without-hints c.args.whole.now c.args.text.now c.is_lrat_text.result c.is_lrat_text.ensures c.if-is_lrat_text.false h) c.judged.ensures.accepted

pub returns-else-is_lrat_text-clause-fault : goal.returns-else-is_lrat_text-clause-fault
returns-else-is_lrat_text-clause-fault c =
    IfErr-weaker c.judged.result _ _ (λ f h. plain-fault c.args.whole.now c.args.text.now c.is_lrat_text.result c.is_lrat_text.ensures c.if-is_lrat_text.false f h) c.judged.ensures.fault

pub returns-then-is_lrat_text-clause-complete : goal.returns-then-is_lrat_text-clause-complete
returns-then-is_lrat_text-clause-complete c = λ h. c.hinted.ensures.complete (hints-of c.args.whole.now c.args.text.now c.is_lrat_text.result c.is_lrat_text.ensures c.if-is_lrat_text.true h)

pub returns-then-is_lrat_text-clause-exact : goal.returns-then-is_lrat_text-clause-exact
returns-then-is_lrat_text-clause-exact c = λ line h. c.hinted.ensures.exact line (hints-fails c.args.whole.now c.args.text.now c.is_lrat_text.result c.is_lrat_text.ensures c.if-is_lrat_text.true line h)

pub returns-else-is_lrat_text-clause-complete : goal.returns-else-is_lrat_text-clause-complete
returns-else-is_lrat_text-clause-complete c = λ h. c.judged.ensures.complete (plain-of c.args.whole.now c.args.text.now c.is_lrat_text.result c.is_lrat_text.ensures c.if-is_lrat_text.false h)

pub returns-else-is_lrat_text-clause-exact : goal.returns-else-is_lrat_text-clause-exact
returns-else-is_lrat_text-clause-exact c = λ line h. c.judged.ensures.exact line (plain-fails c.args.whole.now c.args.text.now c.is_lrat_text.result c.is_lrat_text.ensures c.if-is_lrat_text.false line h)
