-- What the searches of rows find, one after another, is what the definitions say. Each is said of the values and atoms that
-- the code computes, by equations.
use Rattle.std.proofs.Common.{◌≡◌, ◌<◌, ◌^◌, Bool, not, nat_eq, [], ◌∷◌, ◌++◌, ℤ, pos, ◌+ℤ◌, to_z, of_z, ap, ◌∙◌, arith}
use Rattle.std.specs.Prelude.{Option, unsigned_abs}
use Rattle.std.specs.Option.{option_or}
use Rattle.std.specs.Ordering.{int_eq}
use mir.Syntax.{w128}
use Rattle.std.proofs.lemmas.Int.{ints, fits_signed_from_abs}
use Rattle.order_ints.specs.declared.atom.Atom.{Atom}
use Rattle.order_ints.specs.declared.atom.Atom.TheVariants.{False}
use Rattle.order_ints.specs.declared.order_int.OrdInt.{OrdInt}
use Rattle.order_ints.specs.Truth.{not_atom}
use Rattle.order_ints.specs.OrderRange.{low_of, high_of}
use Rattle.order_ints.specs.OrderLevels.{at_of}
use Rattle.order_ints.specs.Walk.{has_value}
use Rattle.order_ints.specs.Same.{is_false}
use Rattle.order_ints.proofs.Wide.{same_bits}
use Rattle.core_forms.proofs.Bounds.{wide_bits}
use Rattle.rule_base.specs.declared.sought.SoughtEquation.{SoughtEquation}
use Rattle.rule_base.specs.Pairs.{first_sought, only_if}
use Rattle.rule_base.specs.Stated.{at_least, is_below, is_not}
use Rattle.rule_base.proofs.PairLaws.{both-found}
use Rattle.equi_rules.specs.CompareRows.{leq_equations_true, leq_equations_false, eq_equations_value}

-- values back from their bits
pub same_value : (v w : ℤ) → v ≡ w → unsigned_abs w < 2 ^ 100 → to_z w128 (of_z w128 v) ≡ w
same_value v w e small = wide_bits v (omega (arith, ints, e, small)) ∙ e

pub next_value : (v w : ℤ) → v ≡ w → unsigned_abs w < 2 ^ 100 → to_z w128 (of_z w128 (to_z w128 (of_z w128 v) +ℤ pos 1)) ≡ w +ℤ pos 1
next_value v w e small =
    ap (λ x. to_z w128 (of_z w128 (x +ℤ pos 1))) (same_value v w e small) ∙ wide_bits (w +ℤ pos 1) (omega (arith, ints, small))

pub same_test : (v w x : ℤ) → unsigned_abs v < 2 ^ 100 → w ≡ x → unsigned_abs x < 2 ^ 100 → nat_eq (of_z w128 v) (of_z w128 w) ≡ int_eq v x
same_test v w x small e limit = same_bits v w small (fits_signed_from_abs w128 w (omega (arith, ints, e, limit))) ∙ ap (int_eq v) e

module _ (sought : SoughtEquation) (a b : OrdInt) where
  pub leq_true-found : (v w : ℤ) (o p : Option (Atom × Atom)) → v ≡ high_of b +ℤ pos 1 → w ≡ low_of a → o ≡ first_sought sought (is_below a v ∷ []) → p ≡ first_sought sought (at_least b w ∷ []) → option_or o p ≡ first_sought sought (leq_equations_true a b)
  leq_true-found v w o p top bottom first second =
      both-found sought (is_below a (high_of b +ℤ pos 1) ∷ []) (at_least b (low_of a) ∷ []) o p
      (first ∙ ap (λ x. first_sought sought (is_below a x ∷ [])) top) (second ∙ ap (λ x. first_sought sought (at_least b x ∷ [])) bottom)

  pub leq_false-found : (v w : ℤ) (o p : Option (Atom × Atom)) → v ≡ low_of b +ℤ pos 1 → w ≡ high_of a → o ≡ first_sought sought (at_least a v ∷ []) → p ≡ first_sought sought (is_below b w ∷ []) → option_or o p ≡ first_sought sought (leq_equations_false a b)
  leq_false-found v w o p bottom top first second =
      both-found sought (at_least a (low_of b +ℤ pos 1) ∷ []) (is_below b (high_of a) ∷ []) o p
      (first ∙ ap (λ x. first_sought sought (at_least a x ∷ [])) bottom) (second ∙ ap (λ x. first_sought sought (is_below b x ∷ [])) top)

pub value-found : (sought : SoughtEquation) (r : Atom) (v : ℤ) (d : OrdInt) (x y : Atom) (f n l h : Bool) (o p q w : Option (Atom × Atom)) → x ≡ at_of d v → y ≡ at_of d (v +ℤ pos 1) → f ≡ is_false r → n ≡ has_value d v → l ≡ int_eq v (low_of d) → h ≡ int_eq v (high_of d) → o ≡ first_sought sought (only_if f ((x, y) ∷ [])) → p ≡ first_sought sought (only_if (not n) ((r, False) ∷ [])) → q ≡ first_sought sought (only_if l ((r, not_atom y) ∷ [])) → w ≡ first_sought sought (only_if h ((r, x) ∷ [])) → option_or (option_or (option_or o p) q) w ≡ first_sought sought (eq_equations_value r v d)
value-found sought r v d x y f n l h o p q w ex ey ef en el eh first second third fourth =
    let differ = only_if (is_false r) (is_not d v ∷ []) in
    let none = only_if (not (has_value d v)) ((r, False) ∷ []) in
    let least = only_if (int_eq v (low_of d)) ((r, not_atom (at_of d (v +ℤ pos 1))) ∷ []) in
    let greatest = only_if (int_eq v (high_of d)) ((r, at_of d v) ∷ []) in
    let one : first_sought sought (only_if f ((x, y) ∷ [])) ≡ first_sought sought (only_if (is_false r) (is_not d v ∷ [])) =
    λ i. first_sought sought (only_if (ef i) ((ex i, ey i) ∷ [])) in
    let two : first_sought sought (only_if (not n) ((r, False) ∷ [])) ≡ first_sought sought (only_if (not (has_value d v)) ((r, False) ∷ [])) =
    λ i. first_sought sought (only_if (not (en i)) ((r, False) ∷ [])) in
    let three : first_sought sought (only_if l ((r, not_atom y) ∷ [])) ≡ first_sought sought (only_if (int_eq v (low_of d)) ((r, not_atom (at_of d (v +ℤ pos 1))) ∷ [])) =
    λ i. first_sought sought (only_if (el i) ((r, not_atom (ey i)) ∷ [])) in
    let four : first_sought sought (only_if h ((r, x) ∷ [])) ≡ first_sought sought (only_if (int_eq v (high_of d)) ((r, at_of d v) ∷ [])) =
    λ i. first_sought sought (only_if (eh i) ((r, ex i) ∷ [])) in
    both-found sought (differ ++ none ++ least) greatest (option_or (option_or o p) q) w
    (both-found sought (differ ++ none) least (option_or o p) q
    (both-found sought differ none o p (first ∙ one) (second ∙ two)) (third ∙ three)) (fourth ∙ four)
