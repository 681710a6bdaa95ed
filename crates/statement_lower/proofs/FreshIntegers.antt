-- Fresh integers from 0 upwards: their ranges, and that they take each of their values.
use Rattle.std.proofs.Common.{◌≡◌, ℕ, zero, suc, ◌+◌, ◌<◌, ◌≤◌, ℤ, pos, ◌+ℤ◌, ◌≤ℤ◌, ◌<ℤ◌, Bool, true, ◌&&◌, [], ◌∷◌, length, Contains, refl, sym, ap, subst, ◌∙◌, arith}
use Rattle.std.specs.Ordering.{int_eq}
use Rattle.std.proofs.lemmas.Bool.{and_parts}
use Rattle.std.proofs.lemmas.Bool.Decides.{Decides-int_eq}
use Rattle.std.proofs.lemmas.Int.{ints, by_lt_z}
use Rattle.order_ints.specs.Truth.{Valuation, Agree}
use Rattle.order_ints.specs.OrderMade.{values_from}
use Rattle.order_ints.specs.OrderRange.{high_of, IsBounded}
use Rattle.order_ints.specs.OrderValue.{value_of, in_order, IsOrdered}
use Rattle.order_ints.specs.Represents.{DependsBelow}
use Rattle.order_ints.proofs.Fresh.{weights-unit_steps, atoms-unit_steps, values_of-unit_range_of, AreRising-unit_steps, StepsBelow-vars, IsBounded-unit_range_of, takes_each_value}
use Rattle.core_forms.specs.declared.form.Core.{Core}
use Rattle.core_forms.specs.Meaning.{core_truth}
use Rattle.core_forms.specs.Place.{CoreBelow}
use Rattle.core_forms.specs.WellFormed.{IsWellFormed}
use Rattle.core_forms.proofs.CoreLists.{MeetsAll-one}
use Rattle.statement_lower.specs.Lines.{fresh_range}
use Rattle.statement_lower.proofs.EntryLaws.{SmallInteger}
use Rattle.statement_lower.proofs.LowersLaws.{Extends}

Contains-values_from : (count : ℕ) (low v : ℤ) → low ≤ℤ v → v <ℤ (low +ℤ pos count) → Contains (values_from low count) v
Contains-values_from zero low v h k = absurd (omega (arith, ints, h, k))
Contains-values_from (suc count) low v h k =
    by_lt_z low v
    (λ l. let c : Contains (values_from (low +ℤ pos 1) count) v = Contains-values_from count (low +ℤ pos 1) v (omega (arith, ints, l)) (omega (arith, ints, k)) in
    let within : c.0 < length (values_from (low +ℤ pos 1) count) = c.1 in
    (suc c.0, omega (arith, within), c.2))
    (λ l. (0, omega arith, (let e : low ≡ v = omega (arith, ints, l, h) in e)))

pub high-fresh : (vars most : ℕ) → high_of (fresh_range vars most) ≡ pos most
high-fresh vars most = ap (λ (n : ℕ). pos 0 +ℤ pos n) (weights-unit_steps (vars + 1) most) ∙ (let e : pos 0 +ℤ pos most ≡ pos most = omega (arith, ints) in e)

-- the range of a fresh integer
pub small-fresh : (vars most : ℕ) → most ≤ 1073741824 → SmallInteger (vars + most + 1) (fresh_range vars most)
small-fresh vars most few =
    let bounded : IsBounded (fresh_range vars most) =
    IsBounded-unit_range_of (pos 0) (vars + 1) most (omega (arith, ints)) (omega (arith, ints, few)) in
    let high = high-fresh vars most in
    record {
      below = StepsBelow-vars (vars + most + 1) (vars + 1) most (fresh_range vars most).steps (atoms-unit_steps (vars + 1) most) (λ _. omega arith) (omega arith);
      sound = (bounded, AreRising-unit_steps (vars + 1) most);
      small = omega (arith, ints, high, few);
    }

-- it takes each of its values
pub takes-fresh : (σ : Valuation) (vars most n : ℕ) → n ≤ most → (τ : Valuation) × Agree (vars + 1) σ τ × (IsOrdered τ (fresh_range vars most) × (value_of τ (fresh_range vars most) ≡ pos n))
takes-fresh σ vars most n le =
    let listed : Contains (values_from (pos 0) (most + 1)) (pos n) = Contains-values_from (most + 1) (pos 0) (pos n) (omega (arith, ints)) (omega (arith, ints, le)) in
    takes_each_value σ (fresh_range vars most) (vars + 1) most (pos n) (atoms-unit_steps (vars + 1) most)
    (subst (λ vs. Contains vs (pos n)) (sym (values_of-unit_range_of (pos 0) (vars + 1) most)) listed)

-- A core says that a fresh integer is a number.

-- the fresh integer is ordered and has the value of a number
abbrev pub Counts : ℕ → ℕ → (Valuation → Type 0) → (Valuation → ℕ) → Valuation → Type 0
Counts vars most C number σ = C σ × IsOrdered σ (fresh_range vars most) × (value_of σ (fresh_range vars most) ≡ pos (number σ))

ordered-test : (o e : Bool) → o ≡ true → e ≡ true → (o && e) ≡ true
ordered-test o e h k = rw (h, k) refl

pub extends-number : (vars most : ℕ) (C : Valuation → Type 0) (core : Core) (number : Valuation → ℕ)
    → CoreBelow (vars + most + 1) core → IsWellFormed core
    → ((σ : Valuation) → C σ → core_truth σ core ≡ (in_order σ (fresh_range vars most).steps && int_eq (value_of σ (fresh_range vars most)) (pos (number σ))))
    → ((σ : Valuation) → number σ ≤ most)
    → ((σ τ : Valuation) → Agree (vars + 1) σ τ → number σ ≡ number τ)
    → DependsBelow (vars + 1) C
    → Extends vars (vars + most) C (Counts vars most C number) (core ∷ [])
extends-number vars most C core number below well_formed says within depends keeps = record {
  more = omega arith;
  below = (below, tt);
  well_formed = (well_formed, tt);
  gives = λ σ c h.
      let p = and_parts (in_order σ (fresh_range vars most).steps) (int_eq (value_of σ (fresh_range vars most)) (pos (number σ))) (sym (says σ c) ∙ (MeetsAll-one σ core).0 h) in
      (c, p.0, (Decides-int_eq (value_of σ (fresh_range vars most)) (pos (number σ))).0 p.1);
  extends = λ σ c.
      let t = takes-fresh σ vars most (number σ) (within σ) in
      let e : value_of t.0 (fresh_range vars most) ≡ pos (number t.0) = t.2.1 ∙ ap pos (depends σ t.0 t.1) in
      (t.0, t.1, (MeetsAll-one t.0 core).1 (says t.0 (keeps σ t.0 t.1 c) ∙ ordered-test _ _ t.2.0 ((Decides-int_eq (value_of t.0 (fresh_range vars most)) (pos (number t.0))).1 e)));
}
