-- What the definitions of statements and those of cores say alike: sums, greatest and least members, members that
-- differ, lists in order, and numbers of true members.
use Rattle.std.specs.Prelude.{◌≡◌, ℕ, ◌%◌, ◌==◌, ℤ, neg_ℤ, Bool, true, List, length, map}
use Rattle.order_ints.specs.declared.atom.Atom.{Atom}
use Rattle.order_ints.specs.Truth.{Valuation}
use Rattle.core_forms.specs.Truths.{true_count, truths, is_odd}
use Rattle.core_forms.specs.Values as cores
use Rattle.model_meaning.specs.Booleans.{count_true}
use Rattle.model_meaning.specs.Integers.{total, is_greatest, is_least}
use Rattle.model_meaning.specs.Lists.{all_differ, differ_where, in_order}

pub record SameMeanings : Type 0 where
  pub total : (xs : List ℤ) → total xs ≡ cores.total xs
  pub greatest : (m : ℤ) (xs : List ℤ) → is_greatest m xs ≡ cores.is_greatest m xs
  -- the least member is the greatest of the negated ones
  pub least : (m : ℤ) (xs : List ℤ) → is_least m xs ≡ cores.is_greatest (neg_ℤ m) (map neg_ℤ xs)
  pub all_differ : (xs : List ℤ) → all_differ xs ≡ cores.all_differ xs (map (λ _. true) xs)
  pub differ_where : (xs : List ℤ) (cs : List Bool) → differ_where xs cs ≡ cores.all_differ xs cs
  -- cores compare lists of one length
  pub in_order : (strict : Bool) (xs ys : List ℤ) → length xs ≡ length ys
      → in_order strict xs ys ≡ cores.is_before strict xs ys
  pub count : (σ : Valuation) (ls : List Atom) → true_count σ ls ≡ count_true (truths σ ls)
  pub odd : (n : ℕ) → is_odd n ≡ (n % 2 == 1)
