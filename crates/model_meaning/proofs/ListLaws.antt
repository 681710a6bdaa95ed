-- Differing members and orders of lists, at a list's end.
use Rattle.std.proofs.Common.{◌≡◌, ℕ, ◌+◌, ◌<◌, ℤ, Bool, true, false, not, ◌&&◌, List, [], ◌∷◌, length, get_or, drop, refl, arith}
use Rattle.std.specs.Ordering.{int_eq}
use Rattle.std.proofs.lemmas.List.{drop_more}
use Rattle.model_meaning.specs.declared.what.BoolTerm.{BoolTerm}
use Rattle.model_meaning.specs.declared.what.IntTerm.{IntTerm}
use Rattle.model_meaning.specs.Terms.{truth_of, number_of, truths_of, numbers_of}
use Rattle.model_meaning.specs.Lists.{differs_where, in_order}
use Rattle.model_meaning.proofs.Sums.{no_truth, no_number}

pub in_order-right_ends : (s : Bool) (xs ys : List ℤ) → 0 < length xs → length ys ≡ 0 → in_order s xs ys ≡ false
in_order-right_ends s [] ys h k = absurd (omega arith)
in_order-right_ends s (x ∷ xs) [] h k = refl
in_order-right_ends s (x ∷ xs) (y ∷ ys) h k = absurd (omega arith)

pub in_order-both_end : (s : Bool) (xs ys : List ℤ) → length xs ≡ 0 → length ys ≡ 0 → in_order s xs ys ≡ not s
in_order-both_end s [] [] h k = refl
in_order-both_end s [] (y ∷ ys) h k = absurd (omega arith)
in_order-both_end s (x ∷ xs) ys h k = absurd (omega arith)

pub in_order-left_ends : (s : Bool) (xs ys : List ℤ) → length xs ≡ 0 → 0 < length ys → in_order s xs ys ≡ false
in_order-left_ends s [] [] h k = absurd (omega arith)
in_order-left_ends s [] (y ∷ ys) h k = refl
in_order-left_ends s (x ∷ xs) ys h k = absurd (omega arith)

pub differs_where-end : (x : ℤ) (ys : List ℤ) (cs : List Bool) → length cs ≡ 0 → differs_where x ys cs ≡ true
differs_where-end x [] cs h = refl
differs_where-end x (y ∷ ys) [] h = refl
differs_where-end x (y ∷ ys) (c ∷ cs) h = absurd (omega arith)

pub differs_where-drop : (a : List ℤ) (x : ℤ) (ys : List IntTerm) (cs : List BoolTerm) (i : ℕ) → i < length ys → i < length cs → differs_where x (numbers_of a (drop i ys)) (truths_of a (drop i cs)) ≡ (not (truth_of a (get_or cs i no_truth) && int_eq x (number_of a (get_or ys i no_number))) && differs_where x (numbers_of a (drop (i + 1) ys)) (truths_of a (drop (i + 1) cs)))
differs_where-drop a x ys cs i h k = rw (drop_more ys i no_number h, drop_more cs i no_truth k) refl
