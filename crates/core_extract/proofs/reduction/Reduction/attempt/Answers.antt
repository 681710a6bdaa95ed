use Rattle.std.proofs.Common.{refl, ◌∙◌}
use Rattle.core_extract.specs.Parts.{whole_of}
use Rattle.core_extract.proofs.Attempts.{anew-as, anew-behind, reply-as, numbers-as, smaller, solved, spent}
use Rattle.core_extract.proofs.reduction.Reduction.attempt.Goals as goal

pub returns-in-Refuted : goal.returns-in-Refuted
returns-in-Refuted g c =
    let old = c.args.self in
    let at = anew-as old.model c.in_ok-asked.asked.model _ c.args.out.items c.as_slice.ensures.value c.in_ok-asked.ensures.anew in
    smaller g.F.Oracle.told c.args.asker.now.options old _ c.args.out.items at refl
    (reply-as g.F.Oracle.told c.args.asker.now.options (whole_of old.model) _ c.args.out.items _ _ c.as_slice.ensures.value c.in-Refuted.is c.in_ok-asked.ensures.reply)

pub returns-in_ok-model-in-Solved : goal.returns-in_ok-model-in-Solved
returns-in_ok-model-in-Solved g c =
    let old = c.args.self in
    let at = anew-as old.model c.in_ok-asked.asked.model _ c.args.out.items c.as_slice.ensures.value c.in_ok-asked.ensures.anew in
    let back = anew-as old.model c.in_ok-model-in-Solved.model _ old.out.items c.as_slice-in-Solved.ensures.value
    (anew-behind old.model c.in_ok-asked.asked.model c.in_ok-model-in-Solved.model c.args.out.items _ at c.in_ok-model-in-Solved.ensures) in
    let reply = reply-as g.F.Oracle.told c.args.asker.now.options (whole_of old.model) _ c.args.out.items _ _ c.as_slice.ensures.value c.in-Solved.is c.in_ok-asked.ensures.reply in
    solved g.F.Oracle.told c.args.asker.now.options old _ c.args.out.items c.in-Solved.a c.requires.reduced back refl refl reply.0

pub returns-in_ok-model-in-Spent : goal.returns-in_ok-model-in-Spent
returns-in_ok-model-in-Spent g c =
    let old = c.args.self in
    let at = anew-as old.model c.in_ok-asked.asked.model _ c.args.out.items c.as_slice.ensures.value c.in_ok-asked.ensures.anew in
    let back = anew-as old.model c.in_ok-model-in-Spent.model _ old.out.items c.as_slice-in-Spent.ensures.value
    (anew-behind old.model c.in_ok-asked.asked.model c.in_ok-model-in-Spent.model c.args.out.items _ at c.in_ok-model-in-Spent.ensures) in
    let reply = reply-as g.F.Oracle.told c.args.asker.now.options (whole_of old.model) _ c.args.out.items _ _ c.as_slice.ensures.value c.in-Spent.is c.in_ok-asked.ensures.reply in
    let numbers = numbers-as old.model c.in_ok-asked.asked.model c.args.out.items _ at c.in_ok-numbers-in-Spent.ensures in
    spent g.F.Oracle.told c.args.asker.now.options old _ _ c.args.out.items c.requires.reduced back refl refl (c.from_vec.ensures ∙ numbers) reply
