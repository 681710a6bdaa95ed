use Rattle.std.proofs.Common.{refl, subst, ◌∙◌}
use Rattle.std.specs.Prelude.{Bool, List}
use Rattle.model_meaning.specs.Solutions.{IsSolution}
use Rattle.core_extract.specs.Parts.{whole_of, part_of}
use Rattle.core_extract.proofs.Turns.{attempt-as, left, solved-one}
use Rattle.core_extract.proofs.settling.ask_without.Goals as goal

pub returns-in-Smaller : goal.returns-in-Smaller
returns-in-Smaller g c =
    let p = c.args.progress in
    let h = attempt-as g.F.Oracle.told c.args.asker.now.options p.reduction c.in_ok-out.out.items _ _ c.in-Smaller.is c.in_ok-attempt.ensures in
    left g.F.Oracle.told c.args.asker.now.options c.args.place p c.requires.progress c.requires.place _ h.0 h.1 (h.2 ∙ c.in_ok-out.ensures) refl

pub returns-in_ok-given-in-Solved : goal.returns-in_ok-given-in-Solved
returns-in_ok-given-in-Solved g c =
    let p = c.args.progress in
    let h = attempt-as g.F.Oracle.told c.args.asker.now.options p.reduction c.in_ok-out.out.items _ _ c.in-Solved.is c.in_ok-attempt.ensures in
    let solution = subst (λ (o : List Bool). IsSolution (part_of (whole_of p.reduction.model) o) c.in-Solved.a.values) c.in_ok-out.ensures h.3 in
    solved-one g.F.Oracle.told c.args.asker.now.options c.args.place p c.requires.progress c.requires.place c.requires.kept c.requires.named 0 _ c.in-Solved.a h.0 h.1 h.2 c.in_ok-given-in-Solved.ensures solution

pub returns-in-Spent : goal.returns-in-Spent
returns-in-Spent g c =
    let p = c.args.progress in
    let h = attempt-as g.F.Oracle.told c.args.asker.now.options p.reduction c.in_ok-out.out.items _ _ c.in-Spent.is c.in_ok-attempt.ensures in
    (h.3, h.1)
