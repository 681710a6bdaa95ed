use Rattle.std.proofs.Common.{◌≡◌, ℕ, ◌-◌, ℤ, ◌-ℤ◌, unsigned_abs, List, length, w64, FitsSigned, rules, ◌∙◌, ap, subst}
use Rattle.std.proofs.lemmas.Int.{to_z-of_z}
use Rattle.value_lists.specs.ValueLists.{Ascends, first_of, last_of}
use Rattle.value_lists.proofs.Made.{shape-made, divisor-small}
use Rattle.value_lists.proofs.values.Values.shape.Goals as goal

ascending : (xs vs : List ℤ) → xs ≡ vs → Ascends xs → Ascends vs
ascending xs vs e h = subst (λ (vs : List ℤ). Ascends vs) e h

gap : (vs : List ℤ) (a b : ℤ) (s : ℕ) → a ≡ last_of vs → b ≡ first_of vs → s ≡ unsigned_abs (a -ℤ b) → s ≡ unsigned_abs (last_of vs -ℤ first_of vs)
gap vs a b s p q h = h ∙ (ap (λ a. unsigned_abs (a -ℤ b)) p ∙ ap (λ b. unsigned_abs (last_of vs -ℤ b)) q)

pub returns-clause-shape : goal.returns-clause-shape
returns-clause-shape c =
    let f : FitsSigned w64 c.greatest.result = search rules in
    let g : FitsSigned w64 c.least.result = search rules in
    let span = gap c.args.self.now _ _ c.from.result (to_z-of_z w64 c.greatest.result f ∙ c.greatest.ensures) (to_z-of_z w64 c.least.result g ∙ c.least.ensures) (c.from.ensures ∙ c.abs_diff.ensures) in
    shape-made c.args.self.now c.further.result c.from.result c.divisor.result (ascending _ c.args.self.now c.as_slice.ensures.value c.as_slice.ensures.ascending)
    (c.further.ensures ∙ ap (λ vs. length vs - 1) c.as_slice.ensures.value) span c.divisor.ensures

pub returns-clause-divisor : goal.returns-clause-divisor
returns-clause-divisor c =
    let f : FitsSigned w64 c.greatest.result = search rules in
    let g : FitsSigned w64 c.least.result = search rules in
    let span = gap c.args.self.now _ _ c.abs_diff.result (to_z-of_z w64 c.greatest.result f ∙ c.greatest.ensures) (to_z-of_z w64 c.least.result g ∙ c.least.ensures) c.abs_diff.ensures in
    divisor-small c.args.self.now c.abs_diff.result c.divisor.result (ascending _ c.args.self.now c.as_slice.ensures.value c.as_slice.ensures.ascending) span c.divisor.ensures c.abs_diff.type_inv
