-- Variables that are added one by one, each its own label.
use Rattle.std.proofs.Common.{◌≡◌, ℕ, zero, suc, ◌+◌, List, [], ◌∷◌, ◌++◌, ap, sym, ◌∙◌, arith}
use Rattle.std.specs.List.{range_with_len}
use Rattle.order_ints.specs.declared.atom.Atom.{Atom}
use Rattle.order_ints.specs.Label.{variable, own_labels}

pub own_labels-more : (first count : ℕ) → own_labels first (count + 1) ≡ own_labels first count ++ variable (first + count) ∷ []
own_labels-more first zero = let e : first ≡ first + 0 = omega arith in ap (λ (v : ℕ). variable v ∷ []) e
own_labels-more first (suc count) =
    let inner : count + 1 ≡ suc count = omega arith in
    let outer : suc count + 1 ≡ suc (suc count) = omega arith in
    let last : first + 1 + count ≡ first + suc count = omega arith in
    ap (own_labels first) outer
    ∙ ap (λ (xs : List Atom). variable first ∷ xs)
    (sym (ap (own_labels (first + 1)) inner)
    ∙ own_labels-more (first + 1) count
    ∙ ap (λ (v : ℕ). own_labels (first + 1) count ++ variable v ∷ []) last)

-- numbers that are added one by one
pub range_with_len-more : (first count : ℕ) → range_with_len first (count + 1) ≡ range_with_len first count ++ (first + count) ∷ []
range_with_len-more first zero = let e : first ≡ first + 0 = omega arith in ap (λ (v : ℕ). v ∷ []) e
range_with_len-more first (suc count) =
    let inner : count + 1 ≡ suc count = omega arith in
    let outer : suc count + 1 ≡ suc (suc count) = omega arith in
    let last : first + 1 + count ≡ first + suc count = omega arith in
    ap (range_with_len first) outer
    ∙ ap (λ (xs : List ℕ). first ∷ xs)
    (sym (ap (range_with_len (first + 1)) inner)
    ∙ range_with_len-more (first + 1) count
    ∙ ap (λ (v : ℕ). range_with_len (first + 1) count ++ v ∷ []) last)
