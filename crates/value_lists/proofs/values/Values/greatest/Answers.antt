use Rattle.std.proofs.Common.{w64, FitsSigned, rules, ◌∙◌, ap}
use Rattle.std.proofs.lemmas.Int.{to_z-of_z}
use Rattle.value_lists.specs.ValueLists.{last_of}
use Rattle.value_lists.proofs.Made.{last-is}
use Rattle.value_lists.proofs.values.Values.greatest.Goals as goal

pub returns-in-Some : goal.returns-in-Some
returns-in-Some c =
    let f : FitsSigned w64 c.in-Some.value.now = search rules in
    to_z-of_z w64 c.in-Some.value.now f ∙ (last-is c.as_slice.result.now c.in-Some.value.now c.in-Some.ensures.value ∙ ap last_of c.as_slice.ensures.value)
