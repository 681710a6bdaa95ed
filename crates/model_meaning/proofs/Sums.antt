-- What sums of a list become one member on.
use Rattle.std.proofs.Common.{◌≡◌, ℕ, ◌+◌, ◌<◌, ◌≤◌, ℤ, pos, ◌+ℤ◌, ◌*ℤ◌, cond, false, List, [], ◌∷◌, length, get_or, drop, refl}
use Rattle.std.proofs.lemmas.List.{at_drop_more, drop_more, drop_all}
use Rattle.model_meaning.specs.declared.what.BoolTerm.{BoolTerm}
use Rattle.model_meaning.specs.declared.what.BoolTerm.TheVariants as bool_term
use Rattle.model_meaning.specs.declared.what.IntTerm.{IntTerm}
use Rattle.model_meaning.specs.declared.what.IntTerm.TheVariants as int_term
use Rattle.model_meaning.specs.Terms.{truth_of, number_of, truths_of, numbers_of}
use Rattle.model_meaning.specs.Integers.{total, weight_of_true, linear_sum}

-- members that are read past a list's end
abbrev pub no_truth : BoolTerm
no_truth = bool_term.Const false

abbrev pub no_number : IntTerm
no_number = int_term.Number (pos 0)

pub total-drop : (a : List ℤ) (xs : List IntTerm) (i : ℕ) → i < length xs → total (numbers_of a (drop i xs)) ≡ number_of a (get_or xs i no_number) +ℤ total (numbers_of a (drop (i + 1) xs))
total-drop a xs i h = at_drop_more (λ ms. total (numbers_of a ms)) xs i no_number h

pub weight_of_true-drop : (a cs : List ℤ) (xs : List BoolTerm) (i : ℕ) → i < length cs → i < length xs → weight_of_true (drop i cs) (truths_of a (drop i xs)) ≡ cond (truth_of a (get_or xs i no_truth)) (get_or cs i (pos 0)) (pos 0) +ℤ weight_of_true (drop (i + 1) cs) (truths_of a (drop (i + 1) xs))
weight_of_true-drop a cs xs i h k = rw (drop_more cs i (pos 0) h, drop_more xs i no_truth k) refl

weight_of_true-nil : (cs : List ℤ) → weight_of_true cs [] ≡ pos 0
weight_of_true-nil [] = refl
weight_of_true-nil (c ∷ cs) = refl

pub weight_of_true-past : (a cs : List ℤ) (xs : List BoolTerm) (i : ℕ) → length xs ≤ i → weight_of_true (drop i cs) (truths_of a (drop i xs)) ≡ pos 0
weight_of_true-past a cs xs i h = rw (drop_all i xs h) (weight_of_true-nil (drop i cs))

pub linear_sum-drop : (a cs : List ℤ) (xs : List IntTerm) (i : ℕ) → i < length cs → i < length xs → linear_sum (drop i cs) (numbers_of a (drop i xs)) ≡ get_or cs i (pos 0) *ℤ number_of a (get_or xs i no_number) +ℤ linear_sum (drop (i + 1) cs) (numbers_of a (drop (i + 1) xs))
linear_sum-drop a cs xs i h k = rw (drop_more cs i (pos 0) h, drop_more xs i no_number k) refl

linear_sum-nil : (cs : List ℤ) → linear_sum cs [] ≡ pos 0
linear_sum-nil [] = refl
linear_sum-nil (c ∷ cs) = refl

pub linear_sum-past : (a cs : List ℤ) (xs : List IntTerm) (i : ℕ) → length xs ≤ i → linear_sum (drop i cs) (numbers_of a (drop i xs)) ≡ pos 0
linear_sum-past a cs xs i h = rw (drop_all i xs h) (linear_sum-nil (drop i cs))
