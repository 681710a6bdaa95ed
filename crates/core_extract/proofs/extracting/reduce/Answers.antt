use Rattle.std.proofs.Common.{sym, ap, ◌∙◌}
use Rattle.model_meaning.specs.declared.model.Model.{Model}
use Rattle.model_parts.specs.Only.{numbers_of}
use Rattle.core_extract.proofs.Attempts.{choice-as}
use Rattle.core_extract.proofs.Turns.{spent-of}
use Rattle.core_extract.proofs.Conflicts.{extracts-as, extracted-as}
use Rattle.core_extract.proofs.extracting.reduce.Goals as goal

pub settle_all-requires-clause-reduced : goal.settle_all-requires-clause-reduced
settle_all-requires-clause-reduced g c =
    (choice-as g.F.Oracle.told c.args.asker.now.options c.args.reduction _ _ c.in-Part.is c.in_ok-choice.ensures).0

pub settle_all-requires-clause-count : goal.settle_all-requires-clause-count
settle_all-requires-clause-count g c =
    (choice-as g.F.Oracle.told c.args.asker.now.options c.args.reduction _ _ c.in-Part.is c.in_ok-choice.ensures).1.count ∙ c.requires.count

pub settle_all-requires-clause-numbers : goal.settle_all-requires-clause-numbers
settle_all-requires-clause-numbers g c =
    let h = choice-as g.F.Oracle.told c.args.asker.now.options c.args.reduction _ _ c.in-Part.is c.in_ok-choice.ensures in
    c.requires.numbers ∙ ap (λ (m : Model). numbers_of m.stmts) (sym h.1.whole)

pub returns-in-Part : goal.returns-in-Part
returns-in-Part g c =
    let h = choice-as g.F.Oracle.told c.args.asker.now.options c.args.reduction _ _ c.in-Part.is c.in_ok-choice.ensures in
    extracts-as g.F.Oracle.told c.args.asker.now.options _ _ c.settle_all.result h.1.whole c.settle_all.ensures

pub given_up-requires-clause-spent : goal.given_up-requires-clause-spent
given_up-requires-clause-spent g c =
    let h = choice-as g.F.Oracle.told c.args.asker.now.options c.args.reduction _ _ c.in-Spent.is c.in_ok-choice.ensures in
    spent-of g.F.Oracle.told c.args.asker.now.options _ _ c.in-Spent.spent (sym h.1) h.0

pub returns : goal.returns
returns g c =
    let h = choice-as g.F.Oracle.told c.args.asker.now.options c.args.reduction _ _ c.in-Spent.is c.in_ok-choice.ensures in
    extracted-as g.F.Oracle.told c.args.asker.now.options _ _ c.given_up.result h.1 c.given_up.ensures
