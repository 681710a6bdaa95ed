-- When an equation of a range holds, and those that link two integers.
use Rattle.std.proofs.Common.{◌≡◌, Bool, true, false, not, cond, List, [], ◌∷◌, map, ℤ, pos, ◌+ℤ◌, ◌≤ℤ◌, refl, sym, ap, ◌∙◌, arith}
use Rattle.std.specs.Prelude.{int_le, filter}
use Rattle.std.proofs.lemmas.Int.{ints}
use Rattle.order_ints.specs.declared.order_int.OrdInt.{OrdInt}
use Rattle.order_ints.specs.Truth.{Valuation, atom_truth, not_atom}
use Rattle.order_ints.specs.OrderValue.{value_of, IsOrdered}
use Rattle.order_ints.specs.OrderLevels.{values_of, at_of}
use Rattle.order_ints.proofs.Truths.{atom_truth-not_atom}
use Rattle.order_ints.proofs.Reaching.{atom_truth-at_of}
use Rattle.rule_base.specs.Pairs.{AreEqual}
use Rattle.rule_base.proofs.PairLaws.{AreEqual-map}
use Rattle.rule_base.proofs.StatedLaws.{at_of-reached, at_of-passed}
use Rattle.arith_rules.specs.Links.{within, linked, opposed, opposed_above, alike_where}

-- an ordered integer is in a range where its value is
pub within-equal : (σ : Valuation) (a : OrdInt) (low high : ℤ) → IsOrdered σ a → low ≤ℤ value_of σ a → value_of σ a ≤ℤ high → AreEqual σ (within a low high)
within-equal σ a low high ordered from to =
    (at_of-reached σ a low ordered from, (at_of-passed σ a (high +ℤ pos 1) ordered (omega (arith, ints, to)), tt))

module _ (σ : Valuation) (a b : OrdInt) (oa : IsOrdered σ a) (ob : IsOrdered σ b) where
  -- two atoms at values are equally true where both integers reach theirs or neither
  linked-at : (v w : ℤ) → int_le v (value_of σ a) ≡ int_le w (value_of σ b) → atom_truth σ (at_of a v) ≡ atom_truth σ (at_of b w)
  linked-at v w same = atom_truth-at_of σ a v oa ∙ same ∙ sym (atom_truth-at_of σ b w ob)

  -- and one is as true as the negation of the other where exactly one of the integers reaches its value
  opposed-at : (v w : ℤ) → int_le v (value_of σ a) ≡ not (int_le w (value_of σ b)) → atom_truth σ (at_of a v) ≡ atom_truth σ (not_atom (at_of b w))
  opposed-at v w same =
      atom_truth-at_of σ a v oa ∙ same ∙ ap not (sym (atom_truth-at_of σ b w ob)) ∙ sym (atom_truth-not_atom σ (at_of b w))

  pub linked-equal : (link : ℤ → ℤ) → ((v : ℤ) → int_le v (value_of σ a) ≡ int_le (link v) (value_of σ b)) → AreEqual σ (linked link a b)
  linked-equal link same = AreEqual-map σ (λ v. (at_of a v, at_of b (link v))) (values_of a) (λ v. linked-at v (link v) (same v))

  pub opposed-equal : (link : ℤ → ℤ) → ((v : ℤ) → int_le v (value_of σ a) ≡ not (int_le (link v) (value_of σ b))) → AreEqual σ (opposed link a b)
  opposed-equal link same = AreEqual-map σ (λ v. (at_of a v, not_atom (at_of b (link v)))) (values_of a) (λ v. opposed-at v (link v) (same v))

  -- of values that pass a test
  pub alike-equal : (test : ℤ → Bool) → ((v : ℤ) → test v ≡ true → int_le v (value_of σ a) ≡ int_le v (value_of σ b)) → AreEqual σ (alike_where test a b)
  alike-equal test same = through (values_of a)
    where
      by : (v : ℤ) (vs : List ℤ) (t : Bool) → test v ≡ t → AreEqual σ (map (λ v. (at_of a v, at_of b v)) (filter test vs)) → AreEqual σ (map (λ v. (at_of a v, at_of b v)) (cond t (v ∷ filter test vs) (filter test vs)))
      by v vs true e rest = (linked-at v v (same v e), rest)
      by v vs false e rest = rest

      through : (vs : List ℤ) → AreEqual σ (map (λ v. (at_of a v, at_of b v)) (filter test vs))
      through [] = tt
      through (v ∷ vs) = by v vs (test v) refl (through vs)

pub opposed_above-equal : (σ : Valuation) (a b : OrdInt) → IsOrdered σ a → IsOrdered σ b → (link : ℤ → ℤ) → ((v : ℤ) → int_le (link v) (value_of σ b) ≡ not (int_le (v +ℤ pos 1) (value_of σ a))) → AreEqual σ (opposed_above link a b)
opposed_above-equal σ a b oa ob link same =
    AreEqual-map σ (λ v. (at_of b (link v), not_atom (at_of a (v +ℤ pos 1)))) (values_of a) (λ v. opposed-at σ b a ob oa (link v) (v +ℤ pos 1) (same v))
