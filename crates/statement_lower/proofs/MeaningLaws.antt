-- The definitions of statements and those of cores say the same.
use Rattle.std.proofs.Common.{◌≡◌, ℕ, zero, suc, ◌+◌, ◌%◌, ℤ, ◌+ℤ◌, Bool, true, false, not, ◌&&◌, ◌||◌, List, [], ◌∷◌, length, map, arith, refl, sym, ◌∙◌, ap}
use Rattle.std.specs.Prelude.{neg_ℤ, nat_eq, int_le, int_lt, if◌then◌else◌}
use Rattle.std.specs.Ordering.{int_eq}
use Rattle.std.proofs.lemmas.Bool.Decides.{nat_tests, same_from_decides, Decides-int_eq, Decides-like}
use Rattle.std.proofs.lemmas.Int.{ints}
use Rattle.order_ints.specs.declared.atom.Atom.{Atom}
use Rattle.order_ints.specs.Truth.{Valuation, atom_truth}
use Rattle.core_forms.specs.Truths.{true_count, truths, is_odd}
use Rattle.core_forms.specs.Values as cores
use Rattle.order_ints.specs.OrderLevels.{is_among}
use Rattle.model_meaning.specs.Booleans.{count_true}
use Rattle.model_meaning.specs.Integers.{total, is_member, not_exceeded, not_undercut}
use Rattle.model_meaning.specs.Lists.{differs_from, all_differ, differs_where, differ_where, in_order}
use Rattle.model_meaning.proofs.DomainLaws.{Decides-int_le}
use Rattle.statement_lower.specs.SameMeanings.{SameMeanings}

total-same : (xs : List ℤ) → total xs ≡ cores.total xs
total-same [] = refl
total-same (x ∷ xs) = ap (λ t. x +ℤ t) (total-same xs)

member-same : (m : ℤ) (xs : List ℤ) → is_member m xs ≡ is_among m xs
member-same m [] = refl
member-same m (x ∷ xs) = ap (λ t. int_eq x m || t) (member-same m xs)

exceeded-same : (m : ℤ) (xs : List ℤ) → not_exceeded m xs ≡ cores.all_at_most m xs
exceeded-same m [] = refl
exceeded-same m (x ∷ xs) = ap (λ t. int_le x m && t) (exceeded-same m xs)

equal-negated : (x m : ℤ) → int_eq x m ≡ int_eq (neg_ℤ x) (neg_ℤ m)
equal-negated x m =
    same_from_decides _ _ (Decides-int_eq x m) (Decides-like _ (λ e. omega (arith, ints, e)) (λ e. omega (arith, ints, e)) (Decides-int_eq (neg_ℤ x) (neg_ℤ m)))

most-negated : (x m : ℤ) → int_le m x ≡ int_le (neg_ℤ x) (neg_ℤ m)
most-negated x m =
    same_from_decides _ _ (Decides-int_le m x) (Decides-like _ (λ e. omega (arith, ints, e)) (λ e. omega (arith, ints, e)) (Decides-int_le (neg_ℤ x) (neg_ℤ m)))

member-negated : (m : ℤ) (xs : List ℤ) → is_member m xs ≡ is_among (neg_ℤ m) (map neg_ℤ xs)
member-negated m [] = refl
member-negated m (x ∷ xs) = rw (equal-negated x m, member-negated m xs) refl

undercut-negated : (m : ℤ) (xs : List ℤ) → not_undercut m xs ≡ cores.all_at_most (neg_ℤ m) (map neg_ℤ xs)
undercut-negated m [] = refl
undercut-negated m (x ∷ xs) = rw (most-negated x m, undercut-negated m xs) refl

where-same : (x : ℤ) (ys : List ℤ) (cs : List Bool) → differs_where x ys cs ≡ cores.none_equal x ys cs
where-same x [] cs = refl
where-same x (y ∷ ys) [] = refl
where-same x (y ∷ ys) (c ∷ cs) = ap (λ t. not (c && int_eq x y) && t) (where-same x ys cs)

differ_where-same : (xs : List ℤ) (cs : List Bool) → differ_where xs cs ≡ cores.all_differ xs cs
differ_where-same [] cs = refl
differ_where-same (x ∷ xs) [] = refl
differ_where-same (x ∷ xs) (c ∷ cs) = rw (where-same x xs cs, differ_where-same xs cs) refl

from-same : (x : ℤ) (ys : List ℤ) → differs_from x ys ≡ cores.none_equal x ys (map (λ _. true) ys)
from-same x [] = refl
from-same x (y ∷ ys) = ap (λ t. not (int_eq x y) && t) (from-same x ys)

all_differ-same : (xs : List ℤ) → all_differ xs ≡ cores.all_differ xs (map (λ _. true) xs)
all_differ-same [] = refl
all_differ-same (x ∷ xs) = rw (from-same x xs, all_differ-same xs) refl

-- equal members are not in strict order
by_equal : (x y : ℤ) (e rest : Bool) → int_eq x y ≡ e → (int_lt x y || (e && rest)) ≡ (if e then rest else int_lt x y)
by_equal x y true rest h = by_less (int_lt x y) rest (not-less x y ((Decides-int_eq x y).0 h))
  where
    not-less : (x y : ℤ) → x ≡ y → int_lt x y ≡ false
    not-less x y e = grind (arith, ints)

    by_less : (l rest : Bool) → l ≡ false → (l || rest) ≡ rest
    by_less true rest h = cc
    by_less false rest h = refl
by_equal x y false rest h = or_false (int_lt x y)
  where
    or_false : (l : Bool) → (l || false) ≡ l
    or_false true = refl
    or_false false = refl

in_order-same : (strict : Bool) (xs ys : List ℤ) → length xs ≡ length ys → in_order strict xs ys ≡ cores.is_before strict xs ys
in_order-same strict [] [] l = refl
in_order-same strict [] (y ∷ ys) l = absurd (omega arith)
in_order-same strict (x ∷ xs) [] l = absurd (omega arith)
in_order-same strict (x ∷ xs) (y ∷ ys) l =
    rw (in_order-same strict xs ys (omega arith)) (by_equal x y (int_eq x y) (cores.is_before strict xs ys) refl)

by_truth : (t : Bool) (m n : ℕ) → m ≡ n → (if t then suc m else m) ≡ (if t then 1 else 0) + n
by_truth true m n e = omega arith
by_truth false m n e = omega arith

count-same : (σ : Valuation) (ls : List Atom) → true_count σ ls ≡ count_true (truths σ ls)
count-same σ [] = refl
count-same σ (a ∷ ls) = by_truth (atom_truth σ a) (true_count σ ls) (count_true (truths σ ls)) (count-same σ ls)

odd-more : (n : ℕ) → nat_eq (suc n % 2) 1 ≡ not (nat_eq (n % 2) 1)
odd-more n = grind (arith, nat_tests)

odd-same : (n : ℕ) → is_odd n ≡ nat_eq (n % 2) 1
odd-same zero = refl
odd-same (suc n) = ap not (odd-same n) ∙ sym (odd-more n)

pub same_meanings : SameMeanings
same_meanings = record {
  total = total-same;
  greatest = λ m xs. rw (member-same m xs, exceeded-same m xs) refl;
  least = λ m xs. rw (member-negated m xs, undercut-negated m xs) refl;
  all_differ = all_differ-same;
  differ_where = differ_where-same;
  in_order = in_order-same;
  count = count-same;
  odd = odd-same;
}
