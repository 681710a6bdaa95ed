-- Each equation that a rule states of a well formed core holds under each valuation that meets the core.
use Rattle.std.proofs.Common.{◌≡◌, Bool, true, false, ◌&&◌, pos, ◌+ℤ◌, ◌*ℤ◌, ◌≤ℤ◌, ◌<ℤ◌, ℤ, refl, arith}
use Rattle.std.specs.Prelude.{int_le, int_lt}
use Rattle.std.specs.Ordering.{int_eq}
use Rattle.std.proofs.lemmas.Int.{ints}
use Rattle.order_ints.specs.declared.order_int.OrdInt.{OrdInt}
use Rattle.order_ints.specs.Truth.{Valuation}
use Rattle.order_ints.specs.OrderValue.{value_of}
use Rattle.core_forms.specs.declared.equation.Rule.{Rule}
use Rattle.core_forms.specs.declared.equation.Rule.TheVariants.{Order, Form, Table}
use Rattle.core_forms.specs.declared.form.Core.{Core}
use Rattle.core_forms.specs.declared.form.Core.TheVariants.{Ladder, Clause, Parity, Conj, Comp, LeqR, EqR, Sum3, Count, Sum, Max, AllDiff, Amo, Prod, DivMod, Lex}
use Rattle.core_forms.specs.Truths.{true_count}
use Rattle.core_forms.specs.Values.{all_ordered, values, total, is_greatest}
use Rattle.core_forms.specs.WellFormed.{IsWellFormed}
use Rattle.core_forms.specs.Meaning.{ordered, is_division, Meets}
use Rattle.rule_base.specs.Pairs.{AreEqual}
use Rattle.arith_rules.specs.Instances.{form_equations, equations_of}
use Rattle.arith_rules.proofs.SumSound.{sum3-equal, count-equal, sum-equal}
use Rattle.arith_rules.proofs.MaxSound.{max-equal}
use Rattle.arith_rules.proofs.ProductSound.{prod-equal, div_mod-equal}

and-left : (s t : Bool) → (s && t) ≡ true → s ≡ true
and-left true t h = refl
and-left false t h = absurd (cc)

and-right : (s t : Bool) → (s && t) ≡ true → t ≡ true
and-right true t h = h
and-right false t h = absurd (cc)

eq-true : (v w : ℤ) → int_eq v w ≡ true → v ≡ w
eq-true v w h = grind (arith, ints)

le-true : (v w : ℤ) → int_le v w ≡ true → v ≤ℤ w
le-true v w h = grind (arith, ints)

lt-true : (v w : ℤ) → int_lt v w ≡ true → v <ℤ w
lt-true v w h = grind (arith, ints)

-- three integers, and what their form says besides
module _ (σ : Valuation) (a b c : OrdInt) (t : Bool) (met : ((ordered σ a && (ordered σ b && ordered σ c)) && t) ≡ true) where
  three : (ordered σ a && (ordered σ b && ordered σ c)) ≡ true
  three = and-left (ordered σ a && (ordered σ b && ordered σ c)) t met

  first : ordered σ a ≡ true
  first = and-left (ordered σ a) (ordered σ b && ordered σ c) three

  second : ordered σ b ≡ true
  second = and-left (ordered σ b) (ordered σ c) (and-right (ordered σ a) (ordered σ b && ordered σ c) three)

  third : ordered σ c ≡ true
  third = and-right (ordered σ b) (ordered σ c) (and-right (ordered σ a) (ordered σ b && ordered σ c) three)

  besides : t ≡ true
  besides = and-right (ordered σ a && (ordered σ b && ordered σ c)) t met

division-equal : (σ : Valuation) (a b q r : OrdInt) → IsWellFormed (DivMod a b q r) → Meets σ (DivMod a b q r) → AreEqual σ (form_equations (DivMod a b q r))
division-equal σ a b q r well met =
    let orders = ordered σ a && (ordered σ b && (ordered σ q && ordered σ r)) in
    let four = and-left orders (is_division (value_of σ a) (value_of σ b) (value_of σ q) (value_of σ r)) met in
    let says = and-right orders (is_division (value_of σ a) (value_of σ b) (value_of σ q) (value_of σ r)) met in
    let oa = and-left (ordered σ a) (ordered σ b && (ordered σ q && ordered σ r)) four in
    let last = and-right (ordered σ b) (ordered σ q && ordered σ r) (and-right (ordered σ a) (ordered σ b && (ordered σ q && ordered σ r)) four) in
    let product = int_eq (value_of σ a) (value_of σ b *ℤ value_of σ q +ℤ value_of σ r) in
    let from = int_le (pos 0) (value_of σ r) in
    let to = int_lt (value_of σ r) (value_of σ b) in
    let ends = and-right product (from && to) says in
    div_mod-equal σ a b q r oa (and-left (ordered σ q) (ordered σ r) last) (and-right (ordered σ q) (ordered σ r) last)
    (eq-true (value_of σ a) (value_of σ b *ℤ value_of σ q +ℤ value_of σ r) (and-left product (from && to) says))
    (le-true (pos 0) (value_of σ r) (and-left from to ends)) (lt-true (value_of σ r) (value_of σ b) (and-right from to ends)) well.4 well.5

form-equal : (σ : Valuation) (core : Core) → IsWellFormed core → Meets σ core → AreEqual σ (form_equations core)
form-equal σ (Ladder a) well met = tt
form-equal σ (Clause ls) well met = tt
form-equal σ (Parity ls odd) well met = tt
form-equal σ (Conj r ls) well met = tt
form-equal σ (Comp a b hi lo) well met = tt
form-equal σ (LeqR r a b) well met = tt
form-equal σ (EqR r a b) well met = tt
form-equal σ (Sum3 a b c) well met =
    let t = int_eq (value_of σ a +ℤ value_of σ b) (value_of σ c) in
    sum3-equal σ a b c (first σ a b c t met) (second σ a b c t met) (third σ a b c t met) (eq-true (value_of σ a +ℤ value_of σ b) (value_of σ c) (besides σ a b c t met))
form-equal σ (Count ls c) well met =
    let t = int_eq (value_of σ c) (pos (true_count σ ls)) in
    count-equal σ ls c (and-left (ordered σ c) t met) (eq-true (value_of σ c) (pos (true_count σ ls)) (and-right (ordered σ c) t met))
form-equal σ (Sum xs k) well met =
    let t = int_eq (total (values σ xs)) k in
    sum-equal σ xs k (and-left (all_ordered σ xs) t met) (eq-true (total (values σ xs)) k (and-right (all_ordered σ xs) t met))
form-equal σ (Max xs c) well met =
    let t = is_greatest (value_of σ c) (values σ xs) in
    let orders = and-left (all_ordered σ xs && ordered σ c) t met in
    max-equal σ c xs (and-right (all_ordered σ xs) (ordered σ c) orders) (and-left (all_ordered σ xs) (ordered σ c) orders) (and-right (all_ordered σ xs && ordered σ c) t met)
form-equal σ (AllDiff xs cs) well met = tt
form-equal σ (Amo ls) well met = tt
form-equal σ (Prod a b c) well met =
    let t = int_eq (value_of σ a *ℤ value_of σ b) (value_of σ c) in
    prod-equal σ a b c (first σ a b c t met) (second σ a b c t met) (third σ a b c t met) (eq-true (value_of σ a *ℤ value_of σ b) (value_of σ c) (besides σ a b c t met))
form-equal σ (DivMod a b q r) well met = division-equal σ a b q r well met
form-equal σ (Lex r strict front back) well met = tt

pub equations-equal : (core : Core) (σ : Valuation) (rule : Rule) → IsWellFormed core → Meets σ core → AreEqual σ (equations_of core rule)
equations-equal core σ Order well met = tt
equations-equal core σ Form well met = form-equal σ core well met
equations-equal core σ Table well met = tt
