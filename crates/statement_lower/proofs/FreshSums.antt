-- A fresh integer that is the sum of two: its range, and that it takes each sum.
use Rattle.std.proofs.Common.{◌≡◌, ℕ, suc, ◌+◌, ◌-◌, ◌<◌, ◌^◌, ℤ, ◌+ℤ◌, ◌&&◌, List, [], ◌∷◌, length, Contains, refl, sym, ap, subst, ◌∙◌, arith}
use Rattle.std.specs.Ordering.{int_eq}
use Rattle.std.proofs.lemmas.Bool.{and_parts}
use Rattle.std.proofs.lemmas.Bool.Decides.{Decides-int_eq}
use Rattle.order_ints.specs.declared.order_int.OrdInt.{OrdInt}
use Rattle.order_ints.specs.Truth.{Valuation, Agree}
use Rattle.order_ints.specs.OrderMade.{steps_between, integer_of_values}
use Rattle.order_ints.specs.OrderRange.{IntBelow}
use Rattle.order_ints.specs.OrderValue.{value_of, in_order, IsOrdered}
use Rattle.order_ints.specs.Represents.{DependsBelow}
use Rattle.order_ints.proofs.Fresh.{values_of-integer_of_values, atoms-integer_of_values, AreRising-integer_of_values, IsBounded-integer_of_values, StepsBelow-vars, takes_each_value}
use Rattle.order_ints.proofs.Gains.{value_of-agree, IsOrdered-agree, StepsBelow-more}
use Rattle.order_ints.proofs.Reaching.{Contains-value_of}
use Rattle.core_forms.specs.declared.form.Core.TheVariants as core
use Rattle.core_forms.specs.Shapes.{steps_of}
use Rattle.core_forms.specs.Sums.{sums_of}
use Rattle.core_forms.specs.WellFormed.{IsSound, greatest_abs}
use Rattle.core_forms.proofs.CoreLists.{MeetsAll-one}
use Rattle.core_forms.proofs.SumValues.{sums-some, sums-ascend, sums-among, sums-small}
use Rattle.statement_lower.specs.Queue.{fresh_sum, vars_behind_sum}
use Rattle.statement_lower.proofs.IntegerLines.{sum-truth}
use Rattle.statement_lower.proofs.LowersLaws.{Extends, agree-less}

-- How many variables the integer of listed values has.

length-between : (value : ℤ) (values : List ℤ) (first : ℕ) → length (steps_between value values first) ≡ length values
length-between value [] first = refl
length-between value (next ∷ values) first = ap suc (length-between next values (first + 1))

pub steps-of_values : (values : List ℤ) (first : ℕ) → steps_of (integer_of_values values first) ≡ length values - 1
steps-of_values [] first = omega arith
steps-of_values (least ∷ values) first = omega (arith, length-between least values first)

-- the fresh integer is ordered, and it is the sum
abbrev pub AddsUp : ℕ → OrdInt → OrdInt → (Valuation → Type 0) → Valuation → Type 0
AddsUp vars a b C σ = C σ × IsOrdered σ (fresh_sum vars a b) × (value_of σ (fresh_sum vars a b) ≡ value_of σ a +ℤ value_of σ b)

module _ (vars : ℕ) (a b : OrdInt) where
  pub below-sum : IntBelow (vars_behind_sum vars a b + 1) (fresh_sum vars a b)
  below-sum =
      let count = steps-of_values (sums_of a b) (vars + 1) in
      StepsBelow-vars (vars_behind_sum vars a b + 1) (vars + 1) (length (sums_of a b) - 1) (fresh_sum vars a b).steps
      (atoms-integer_of_values (sums_of a b) (vars + 1)) (λ _. omega arith) (omega (arith, count))

  pub sound-sum : greatest_abs a + greatest_abs b < 2 ^ 100 → IsSound (fresh_sum vars a b)
  sound-sum small = (
    IsBounded-integer_of_values (sums_of a b) (vars + 1) (sums-ascend a b) (sums-small a b small),
    AreRising-integer_of_values (sums_of a b) (vars + 1) (sums-ascend a b),
  )

  -- it takes each sum of a value of the one and a value of the other
  takes-sum : (σ : Valuation) → IsOrdered σ a → IsOrdered σ b
      → (τ : Valuation) × Agree (vars + 1) σ τ × (IsOrdered τ (fresh_sum vars a b) × (value_of τ (fresh_sum vars a b) ≡ value_of σ a +ℤ value_of σ b))
  takes-sum σ h k =
      let among : Contains (sums_of a b) (value_of σ a +ℤ value_of σ b) =
      sums-among a b (value_of σ a) (value_of σ b) (Contains-value_of σ a h) (Contains-value_of σ b k) in
      takes_each_value σ (fresh_sum vars a b) (vars + 1) (length (sums_of a b) - 1) (value_of σ a +ℤ value_of σ b) (atoms-integer_of_values (sums_of a b) (vars + 1))
      (subst (λ vs. Contains vs (value_of σ a +ℤ value_of σ b)) (sym (values_of-integer_of_values (sums_of a b) (vars + 1) (sums-some a b) (sums-ascend a b))) among)

  module _ (C : Valuation → Type 0) (ha : IntBelow (vars + 1) a) (hb : IntBelow (vars + 1) b) (keeps : DependsBelow (vars + 1) C) where
    -- what is known of the fresh integer depends on the variables up to its own
    pub depends-sum : DependsBelow (vars_behind_sum vars a b + 1) (AddsUp vars a b C)
    depends-sum σ τ agree d =
        let before : Agree (vars + 1) σ τ = agree-less (vars + 1) (vars_behind_sum vars a b + 1) σ τ (omega arith) agree in (
          keeps σ τ before d.0,
          IsOrdered-agree (vars_behind_sum vars a b + 1) σ τ (fresh_sum vars a b) agree below-sum d.1,
          rw (← value_of-agree (vars_behind_sum vars a b + 1) σ τ (fresh_sum vars a b) agree below-sum, ← value_of-agree (vars + 1) σ τ a before ha, ← value_of-agree (vars + 1) σ τ b before hb) d.2,
        )

    -- the sum of two integers, with a fresh integer for it
    pub extends-sum : IsSound a → IsSound b → greatest_abs a + greatest_abs b < 2 ^ 100 → ((σ : Valuation) → C σ → IsOrdered σ a × IsOrdered σ b)
        → Extends vars (vars_behind_sum vars a b) C (AddsUp vars a b C) (core.Sum3 a b (fresh_sum vars a b) ∷ [])
    extends-sum sa sb small order = record {
      more = omega arith;
      below = ((tt, (StepsBelow-more (vars + 1) (vars_behind_sum vars a b + 1) a.steps (omega arith) ha, (StepsBelow-more (vars + 1) (vars_behind_sum vars a b + 1) b.steps (omega arith) hb, (below-sum, tt)))), tt);
      well_formed = ((sa, sb, sound-sum small, small), tt);
      gives = λ σ c m.
          let p = and_parts (in_order σ a.steps && (in_order σ b.steps && in_order σ (fresh_sum vars a b).steps)) (int_eq (value_of σ a +ℤ value_of σ b) (value_of σ (fresh_sum vars a b)))
          ((MeetsAll-one σ (core.Sum3 a b (fresh_sum vars a b))).0 m) in
          let q = and_parts (in_order σ a.steps) (in_order σ b.steps && in_order σ (fresh_sum vars a b).steps) p.0 in
          let r = and_parts (in_order σ b.steps) (in_order σ (fresh_sum vars a b).steps) q.1 in
          (c, r.1, sym ((Decides-int_eq (value_of σ a +ℤ value_of σ b) (value_of σ (fresh_sum vars a b))).0 p.1));
      extends = λ σ c.
          let o = order σ c in
          let t = takes-sum σ o.0 o.1 in
          let e : value_of t.0 (fresh_sum vars a b) ≡ value_of t.0 a +ℤ value_of t.0 b =
          rw (← value_of-agree (vars + 1) σ t.0 a t.1 ha, ← value_of-agree (vars + 1) σ t.0 b t.1 hb) t.2.1 in (
            t.0,
            t.1,
            (MeetsAll-one t.0 (core.Sum3 a b (fresh_sum vars a b))).1
                (sum-truth t.0 a b (fresh_sum vars a b) (IsOrdered-agree (vars + 1) σ t.0 a t.1 ha o.0) (IsOrdered-agree (vars + 1) σ t.0 b t.1 hb o.1) t.2.0
                ∙ (Decides-int_eq (value_of t.0 (fresh_sum vars a b)) (value_of t.0 a +ℤ value_of t.0 b)).1 e),
          );
    }
