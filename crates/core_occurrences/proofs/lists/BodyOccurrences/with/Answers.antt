use Rattle.std.proofs.Common.{◌∙◌, ◌++◌, ◌∷◌, [], List, ℕ, ap}
use Rattle.core_occurrences.proofs.Keeping.{kept-none}
use Rattle.core_occurrences.proofs.lists.BodyOccurrences.with.Goals as goal

pub invariant_of-made : goal.invariant_of-made
invariant_of-made c =
    kept-none c.in_ok-with.field-0 c.new.result.items c.push.new.self.items c.new.ensures.items (c.in_ok-push.ensures.items ∙ ap (λ (l : List ℕ). l ++ 0 ∷ []) c.new-heads.ensures.items) c.in_ok-with.ensures.lists c.in_ok-with.ensures.rings
