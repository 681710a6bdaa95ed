-- The atoms of the equations that a rule states are made from the atoms of the core.
use Rattle.std.proofs.Common.{ℕ, Bool, true, false, not, ◌||◌, cond, List, [], ◌∷◌, ◌++◌, map, ℤ, pos, ◌+ℤ◌}
use Rattle.std.specs.Prelude.{int_le, int_lt}
use Rattle.std.specs.Ordering.{int_eq}
use Rattle.order_ints.specs.declared.atom.Atom.{Atom}
use Rattle.order_ints.specs.declared.atom.Atom.TheVariants.{True, False}
use Rattle.order_ints.specs.declared.order_int.OrdInt.{OrdInt}
use Rattle.order_ints.specs.Truth.{not_atom}
use Rattle.order_ints.specs.OrderRange.{low_of, high_of}
use Rattle.order_ints.specs.OrderLevels.{values_of, at_of}
use Rattle.order_ints.specs.Walk.{has_value}
use Rattle.order_ints.specs.Same.{is_true, is_false, same_atom, same_int}
use Rattle.core_forms.specs.declared.equation.Rule.{Rule}
use Rattle.core_forms.specs.declared.equation.Rule.TheVariants.{Order, Form, Table}
use Rattle.core_forms.specs.declared.form.Core.{Core}
use Rattle.core_forms.specs.declared.form.Core.TheVariants.{Ladder, Clause, Parity, Conj, Comp, LeqR, EqR, Sum3, Count, Sum, Max, AllDiff, Amo, Prod, DivMod, Lex}
use Rattle.core_forms.specs.Contents.{ints_of}
use Rattle.core_forms.specs.Each.{EachOf, EachStep, EachInt, EachAtom}
use Rattle.core_forms.specs.Trimmed.{has_true}
use Rattle.rule_base.specs.Pairs.{only_if, EachOfPairs, IsClosed}
use Rattle.rule_base.specs.Stated.{at_least, is_below, is_not, all_equal}
use Rattle.rule_base.proofs.PairLaws.{EachOfPairs-append, EachOfPairs-only_if, EachOfPairs-map}
use Rattle.rule_base.proofs.StatedLaws.{each-at_of, each-at_least, each-is_below, each-is_not, each-all_equal}
use Rattle.equi_rules.specs.OrderRows.{neighbour_equations, equations_above, step_equations, int_equations}
use Rattle.equi_rules.specs.AtomRows.{clause_equations, parity_equations, conjunction_equations, conj_equations, beside_true, amo_equations}
use Rattle.rule_base.specs.Constant.{is_constant}
use Rattle.equi_rules.specs.CompareRows.{leq_equations_true, leq_equations_false, leq_equations_known, leq_equations_decided, leq_equations_constant, leq_equations, equal_at, eq_equations_true, eq_equations_apart, eq_equations_value, eq_equations_constant, eq_equations}
use Rattle.equi_rules.specs.Instances.{form_equations, equations_of}

module _ (P : Atom → Type 0) (closed : IsClosed P) where
  -- one equation, under a test
  each-one : (t : Bool) (x y : Atom) → P x → P y → EachOfPairs P (only_if t ((x, y) ∷ []))
  each-one t x y first second = EachOfPairs-only_if P t ((x, y) ∷ []) ((first, second), tt)

  each-neighbours : (lower upper : Atom) → P lower → P upper → EachOfPairs P (neighbour_equations lower upper)
  each-neighbours lower upper low high =
      let first = only_if (is_true upper) ((lower, True) ∷ []) in
      let second = only_if (is_false lower) ((upper, False) ∷ []) in
      let third = only_if (same_atom upper (not_atom lower)) ((lower, True) ∷ []) in
      EachOfPairs-append P (first ++ second) third
      (EachOfPairs-append P first second
      (each-one (is_true upper) lower True low closed.truth)
      (each-one (is_false lower) upper False high closed.falsehood))
      (each-one (same_atom upper (not_atom lower)) lower True low closed.truth)

  each-above : (lower : Atom) (steps : List (Atom × ℕ)) → P lower → EachStep P steps → EachOfPairs P (equations_above lower steps)
  each-above lower [] low each = tt
  each-above lower (s ∷ steps) low each =
      EachOfPairs-append P (neighbour_equations lower s.0) (equations_above s.0 steps) (each-neighbours lower s.0 low each.0) (each-above s.0 steps each.0 each.1)

  each-steps : (steps : List (Atom × ℕ)) → EachStep P steps → EachOfPairs P (step_equations steps)
  each-steps [] each = tt
  each-steps (s ∷ steps) each = each-above s.0 steps each.0 each.1

  each-ints : (xs : List OrdInt) → EachInt P xs → EachOfPairs P (int_equations xs)
  each-ints [] each = tt
  each-ints (a ∷ xs) each = EachOfPairs-append P (step_equations a.steps) (int_equations xs) (each-steps a.steps each.0) (each-ints xs each.1)

  each-clause : (ls : List Atom) → EachOf P ls → EachOfPairs P (clause_equations ls)
  each-clause [] each = ((closed.truth, closed.falsehood), tt)
  each-clause (l ∷ []) each = ((each.0, closed.truth), tt)
  each-clause (l ∷ m ∷ ls) each = tt

  either : (t : Bool) (x y : Atom) → P x → P y → P (cond t x y)
  either true x y first second = first
  either false x y first second = second

  each-parity : (ls : List Atom) (odd : Bool) → EachOf P ls → EachOfPairs P (parity_equations ls odd)
  each-parity [] odd each = each-one odd True False closed.truth closed.falsehood
  each-parity (l ∷ []) odd each = ((each.0, either odd True False closed.truth closed.falsehood), tt)
  each-parity (l ∷ m ∷ []) odd each = ((each.0, either odd (not_atom m) m (closed.negation m each.1.0) each.1.0), tt)
  each-parity (l ∷ m ∷ n ∷ ls) odd each = tt

  each-conjunction : (r : Atom) (ls : List Atom) → P r → EachOf P ls → EachOfPairs P (conjunction_equations r ls)
  each-conjunction r [] one each = ((one, closed.truth), tt)
  each-conjunction r (l ∷ []) one each = ((one, each.0), tt)
  each-conjunction r (l ∷ m ∷ ls) one each = tt

  each-conj : (r : Atom) (ls : List Atom) → P r → EachOf P ls → EachOfPairs P (conj_equations r ls)
  each-conj r ls one each =
      EachOfPairs-append P (conjunction_equations r ls) (only_if (is_true r) (all_equal ls True)) (each-conjunction r ls one each)
      (EachOfPairs-only_if P (is_true r) (all_equal ls True) (each-all_equal P closed ls True each closed.truth))

  each-beside : (ls : List Atom) → EachOf P ls → EachOf P (beside_true ls)
  each-beside [] each = tt
  each-beside (l ∷ ls) each = by_first (is_true l) (has_true ls) (each-beside ls each.1)
    where
      by_first : (s t : Bool) → EachOf P (beside_true ls) → EachOf P (cond s ls (cond t (l ∷ beside_true ls) []))
      by_first true t rest = each.1
      by_first false true rest = (each.0, rest)
      by_first false false rest = tt

  each-amo : (ls : List Atom) → EachOf P ls → EachOfPairs P (amo_equations ls)
  each-amo ls each = each-all_equal P closed (beside_true ls) False (each-beside ls each) closed.falsehood

  module _ (r : Atom) (a b : OrdInt) (one : P r) (ea : EachStep P a.steps) (eb : EachStep P b.steps) where
    each-leq_true : EachOfPairs P (leq_equations_true a b)
    each-leq_true =
        EachOfPairs-append P (is_below a (high_of b +ℤ pos 1) ∷ []) (at_least b (low_of a) ∷ []) (each-is_below P closed a (high_of b +ℤ pos 1) ea) (each-at_least P closed b (low_of a) eb)

    each-leq_false : EachOfPairs P (leq_equations_false a b)
    each-leq_false =
        EachOfPairs-append P (at_least a (low_of b +ℤ pos 1) ∷ []) (is_below b (high_of a) ∷ []) (each-at_least P closed a (low_of b +ℤ pos 1) ea) (each-is_below P closed b (high_of a) eb)

    each-leq_decided : EachOfPairs P (leq_equations_decided r a b)
    each-leq_decided =
        EachOfPairs-append P (only_if (int_le (high_of a) (low_of b)) ((r, True) ∷ [])) (only_if (int_lt (high_of b) (low_of a)) ((r, False) ∷ []))
        (each-one (int_le (high_of a) (low_of b)) r True one closed.truth) (each-one (int_lt (high_of b) (low_of a)) r False one closed.falsehood)

    each-leq_constant : EachOfPairs P (leq_equations_constant r a b)
    each-leq_constant =
        EachOfPairs-append P (only_if (is_constant a) ((r, at_of b (low_of a)) ∷ [])) (only_if (is_constant b) ((r, not_atom (at_of a (low_of b +ℤ pos 1))) ∷ []))
        (each-one (is_constant a) r (at_of b (low_of a)) one (each-at_of P closed b (low_of a) eb))
        (each-one (is_constant b) r (not_atom (at_of a (low_of b +ℤ pos 1))) one (closed.negation (at_of a (low_of b +ℤ pos 1)) (each-at_of P closed a (low_of b +ℤ pos 1) ea)))

    each-leq_known : EachOfPairs P (leq_equations_known r a b)
    each-leq_known =
        EachOfPairs-append P (only_if (is_true r) (leq_equations_true a b)) (only_if (is_false r) (leq_equations_false a b))
        (EachOfPairs-only_if P (is_true r) (leq_equations_true a b) each-leq_true)
        (EachOfPairs-only_if P (is_false r) (leq_equations_false a b) each-leq_false)

    each-leq : EachOfPairs P (leq_equations r a b)
    each-leq =
        EachOfPairs-append P (leq_equations_known r a b ++ leq_equations_decided r a b) (leq_equations_constant r a b)
        (EachOfPairs-append P (leq_equations_known r a b) (leq_equations_decided r a b) each-leq_known each-leq_decided)
        each-leq_constant

    each-eq_true : EachOfPairs P (eq_equations_true a b)
    each-eq_true =
        let each : (v : ℤ) → P (at_of a v) × P (at_of b v) = λ v. (each-at_of P closed a v ea, each-at_of P closed b v eb) in
        EachOfPairs-append P (map (equal_at a b) (values_of a)) (map (equal_at a b) (values_of b))
        (EachOfPairs-map P (equal_at a b) (values_of a) each) (EachOfPairs-map P (equal_at a b) (values_of b) each)

    each-eq_apart : EachOfPairs P (eq_equations_apart r a b)
    each-eq_apart = each-one (int_lt (high_of a) (low_of b) || int_lt (high_of b) (low_of a)) r False one closed.falsehood

  each-eq_value : (r : Atom) (v : ℤ) (d : OrdInt) → P r → EachStep P d.steps → EachOfPairs P (eq_equations_value r v d)
  each-eq_value r v d one each =
      let differ = only_if (is_false r) (is_not d v ∷ []) in
      let none = only_if (not (has_value d v)) ((r, False) ∷ []) in
      let least = only_if (int_eq v (low_of d)) ((r, not_atom (at_of d (v +ℤ pos 1))) ∷ []) in
      let greatest = only_if (int_eq v (high_of d)) ((r, at_of d v) ∷ []) in
      EachOfPairs-append P (differ ++ none ++ least) greatest
      (EachOfPairs-append P (differ ++ none) least
      (EachOfPairs-append P differ none
      (EachOfPairs-only_if P (is_false r) (is_not d v ∷ []) (each-is_not P closed d v each))
      (each-one (not (has_value d v)) r False one closed.falsehood))
      (each-one (int_eq v (low_of d)) r (not_atom (at_of d (v +ℤ pos 1))) one (closed.negation (at_of d (v +ℤ pos 1)) (each-at_of P closed d (v +ℤ pos 1) each))))
      (each-one (int_eq v (high_of d)) r (at_of d v) one (each-at_of P closed d v each))

  each-eq_constant : (r : Atom) (a d : OrdInt) → P r → EachStep P d.steps → EachOfPairs P (eq_equations_constant r a d)
  each-eq_constant r a d one each =
      EachOfPairs-only_if P (is_constant a) (eq_equations_value r (low_of a) d) (each-eq_value r (low_of a) d one each)

  each-eq : (r : Atom) (a b : OrdInt) → P r → EachStep P a.steps → EachStep P b.steps → EachOfPairs P (eq_equations r a b)
  each-eq r a b one ea eb =
      let known = only_if (is_true r) (eq_equations_true a b) in
      let first = eq_equations_constant r a b in
      let second = eq_equations_constant r b a in
      EachOfPairs-append P (known ++ first ++ second ++ eq_equations_apart r a b) (only_if (same_int a b) ((r, True) ∷ []))
      (EachOfPairs-append P (known ++ first ++ second) (eq_equations_apart r a b)
      (EachOfPairs-append P (known ++ first) second
      (EachOfPairs-append P known first
      (EachOfPairs-only_if P (is_true r) (eq_equations_true a b) (each-eq_true r a b one ea eb))
      (each-eq_constant r a b one eb))
      (each-eq_constant r b a one ea))
      (each-eq_apart r a b one ea eb))
      (each-one (same_int a b) r True one closed.truth)

  each-form : (core : Core) → EachAtom P core → EachOfPairs P (form_equations core)
  each-form (Ladder a) each = tt
  each-form (Clause ls) each = each-clause ls each.0
  each-form (Parity ls odd) each = each-parity ls odd each.0
  each-form (Conj r ls) each = each-conj r ls each.0.0 each.0.1
  each-form (Comp a b hi lo) each = tt
  each-form (LeqR r a b) each = each-leq r a b each.0.0 each.1.0 each.1.1.0
  each-form (EqR r a b) each = each-eq r a b each.0.0 each.1.0 each.1.1.0
  each-form (Sum3 a b c) each = tt
  each-form (Count ls c) each = tt
  each-form (Sum xs k) each = tt
  each-form (Max xs c) each = tt
  each-form (AllDiff xs cs) each = tt
  each-form (Amo ls) each = each-amo ls each.0
  each-form (Prod a b c) each = tt
  each-form (DivMod a b q r) each = tt
  each-form (Lex r strict front back) each = tt

  pub each-equations : (core : Core) → EachAtom P core → (rule : Rule) → EachOfPairs P (equations_of core rule)
  each-equations core each Order = each-ints (ints_of core) each.1
  each-equations core each Form = each-form core each
  each-equations core each Table = tt
