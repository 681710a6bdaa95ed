use Rattle.std.proofs.Common.{ℕ, length, sym, ap, subst, ◌∙◌}
use Rattle.model_meaning.specs.declared.model.Model.{Model}
use Rattle.model_parts.specs.Only.{numbers_of}
use Rattle.core_extract.specs.Extracted.{IsProgress}
use Rattle.core_extract.proofs.Turns.{turn-as, spent-of}
use Rattle.core_extract.proofs.Conflicts.{extracts-as, extracted-as}
use Rattle.core_extract.proofs.extracting.settle_all.Goals as goal

pub conflict_of-requires-clause-progress : goal.conflict_of-requires-clause-progress
conflict_of-requires-clause-progress g c =
    let h = turn-as g.F.Oracle.told c.args.asker.now.options _ c.args.reduction _ _ c.in-Next.is c.in_ok-turn.ensures in
    subst (λ (n : ℕ). IsProgress g.F.Oracle.told c.args.asker.now.options n c.in-Next.progress) (sym h.1.count) h.0

pub conflict_of-requires-clause-count : goal.conflict_of-requires-clause-count
conflict_of-requires-clause-count g c =
    let h = turn-as g.F.Oracle.told c.args.asker.now.options _ c.args.reduction _ _ c.in-Next.is c.in_ok-turn.ensures in
    h.1.count ∙ (c.requires.count ∙ (ap length c.requires.numbers ∙ ap (λ (m : Model). length (numbers_of m.stmts)) (sym h.1.whole)))

pub returns-in-Next : goal.returns-in-Next
returns-in-Next g c =
    let h = turn-as g.F.Oracle.told c.args.asker.now.options _ c.args.reduction _ _ c.in-Next.is c.in_ok-turn.ensures in
    extracts-as g.F.Oracle.told c.args.asker.now.options _ _ c.conflict_of.result h.1.whole c.conflict_of.ensures

pub given_up-requires-clause-spent : goal.given_up-requires-clause-spent
given_up-requires-clause-spent g c =
    let h = turn-as g.F.Oracle.told c.args.asker.now.options _ c.args.reduction _ _ c.in-Spent.is c.in_ok-turn.ensures in
    spent-of g.F.Oracle.told c.args.asker.now.options _ _ c.in-Spent.spent (sym h.1) h.0

pub returns-in-Spent : goal.returns-in-Spent
returns-in-Spent g c =
    let h = turn-as g.F.Oracle.told c.args.asker.now.options _ c.args.reduction _ _ c.in-Spent.is c.in_ok-turn.ensures in
    extracted-as g.F.Oracle.told c.args.asker.now.options _ _ c.given_up.result h.1 c.given_up.ensures
