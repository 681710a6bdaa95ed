use Rattle.std.proofs.Common.{refl, ap, subst, ◌∙◌}
use Rattle.model_parts.specs.Only.{numbers_of}
use Rattle.core_extract.specs.Parts.{whole_of, part_of}
use Rattle.core_extract.specs.Extracted.{IsReply}
use Rattle.core_extract.proofs.Divisions.{new-whole, new-fit}
use Rattle.core_extract.proofs.Attempts.{anew-as, reply-as, reduced-anew}
use Rattle.core_extract.proofs.Conflicts.{first-spent, first-solved}
use Rattle.core_extract.proofs.extracting.extract_light.Goals as goal

pub question-requires-clause-fit : goal.question-requires-clause-fit
question-requires-clause-fit g c =
    new-fit c.args.model c.new-whole.result c.requires.typed c.requires.limits c.new-whole.ensures.divided c.new-whole.ensures.all

pub reduce-requires-clause-reduced : goal.reduce-requires-clause-reduced
reduce-requires-clause-reduced g c =
    let marks = c.as_slice.ensures.value in
    reduced-anew g.F.Oracle.told c.args.asker.now.options c.new-whole.result _ c.in_ok-out.out.items
    (anew-as c.new-whole.result c.in_ok-asked.asked.model _ c.in_ok-out.out.items marks c.in_ok-asked.ensures.anew) refl
    (reply-as g.F.Oracle.told c.args.asker.now.options (whole_of c.new-whole.result) _ c.in_ok-out.out.items _ _ marks c.in-Refuted.is c.in_ok-asked.ensures.reply)

pub given_up-requires-clause-spent : goal.given_up-requires-clause-spent
given_up-requires-clause-spent g c =
    let same = new-whole c.args.model c.new-whole.result c.new-whole.ensures.divided c.new-whole.ensures.all in
    first-spent g.F.Oracle.told c.args.asker.now.options c.args.model c.new-whole.result c.in_ok-asked.asked.model c.as_slice.result.now _ c.in_ok-asked.ensures.anew
    (c.as_slice.ensures.value ∙ c.in_ok-out.ensures) same _ (c.from_vec.ensures ∙ (c.in_ok-numbers.ensures ∙ ap numbers_of c.as_slice-stmts.ensures))
    (subst (IsReply g.F.Oracle.told (part_of (whole_of c.new-whole.result) c.as_slice.result.now) c.args.asker.now.options) c.in-Spent.is c.in_ok-asked.ensures.reply)

pub returns-in-Solved : goal.returns-in-Solved
returns-in-Solved g c =
    let same = new-whole c.args.model c.new-whole.result c.new-whole.ensures.divided c.new-whole.ensures.all in
    first-solved g.F.Oracle.told c.args.asker.now.options c.args.model c.new-whole.result c.in_ok-asked.asked.model c.as_slice.result.now _ c.in_ok-asked.ensures.anew
    (c.as_slice.ensures.value ∙ c.in_ok-out.ensures) same c.requires.typed c.in-Solved.a c.solved.result
    (subst (IsReply g.F.Oracle.told (part_of (whole_of c.new-whole.result) c.as_slice.result.now) c.args.asker.now.options) c.in-Solved.is c.in_ok-asked.ensures.reply)
    c.solved.ensures.document c.solved.ensures.decls
