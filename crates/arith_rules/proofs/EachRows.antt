-- What holds of the constants, of negations, and of each atom of a core holds of each atom of its equations.
use Rattle.std.proofs.Common.{Bool, List, [], ◌∷◌, ◌++◌, length, ℤ, pos, neg_ℤ, ◌+ℤ◌, ◌-ℤ◌, ◌*ℤ◌}
use Rattle.std.specs.Prelude.{◌==◌, ◌&&◌, not, filter, int_le, int_lt}
use Rattle.std.specs.Ordering.{int_eq}
use Rattle.order_ints.specs.declared.atom.Atom.{Atom}
use Rattle.order_ints.specs.declared.atom.Atom.TheVariants.{True, False}
use Rattle.order_ints.specs.declared.order_int.OrdInt.{OrdInt}
use Rattle.order_ints.specs.Truth.{not_atom}
use Rattle.order_ints.specs.OrderRange.{low_of, high_of}
use Rattle.order_ints.specs.OrderLevels.{values_of, at_of}
use Rattle.core_forms.specs.declared.equation.Rule.{Rule}
use Rattle.core_forms.specs.declared.equation.Rule.TheVariants.{Order, Form, Table}
use Rattle.core_forms.specs.declared.form.Core.{Core}
use Rattle.core_forms.specs.declared.form.Core.TheVariants.{Ladder, Clause, Parity, Conj, Comp, LeqR, EqR, Sum3, Count, Sum, Max, AllDiff, Amo, Prod, DivMod, Lex}
use Rattle.core_forms.specs.Each.{EachOf, EachStep, EachInt, EachAtom}
use Rattle.core_forms.proofs.EachLaws.{EachInt-left, EachInt-right}
use Rattle.rule_base.specs.Pairs.{only_if, EachOfPairs, IsClosed}
use Rattle.rule_base.specs.Stated.{at_least, is_below, all_equal}
use Rattle.rule_base.specs.Constant.{is_constant}
use Rattle.rule_base.proofs.PairLaws.{EachOfPairs-append, EachOfPairs-only_if, EachOfPairs-map}
use Rattle.rule_base.proofs.StatedLaws.{each-at_of, each-all_equal}
use Rattle.arith_rules.specs.Links.{within, linked, linked_back, opposed, opposed_above, alike_where, alike_back}
use Rattle.arith_rules.specs.SumRows.{sum3_ranges, raised_equations, mirrored_equations, sum3_constants, sum3_equations, count_equations, lows_of, highs_of, shares, sum_equations}
use Rattle.arith_rules.specs.MaxRows.{member_ranges, top_from, top_equations, reaching, is_sole, linked_equations, leader_equations, unreached_equations, max_equations}
use Rattle.arith_rules.specs.ProductRows.{floor_of, ceiling_of, least_product, greatest_product, factor_equations, multiple_equations, negative_equations, scaled_equations, prod_equations, quotient_equations, dividend_equations, div_mod_equations}
use Rattle.arith_rules.specs.Instances.{form_equations, equations_of}

module _ (P : Atom → Type 0) (closed : IsClosed P) where
  each-within : (a : OrdInt) (low high : ℤ) → EachStep P a.steps → EachOfPairs P (within a low high)
  each-within a low high each =
      ((each-at_of P closed a low each, closed.truth), ((each-at_of P closed a (high +ℤ pos 1) each, closed.falsehood), tt))

  -- the links of two integers
  module _ (a b : OrdInt) (ea : EachStep P a.steps) (eb : EachStep P b.steps) where
    each-linked : (link : ℤ → ℤ) → EachOfPairs P (linked link a b)
    each-linked link =
        EachOfPairs-map P (λ v. (at_of a v, at_of b (link v))) (values_of a) (λ v. (each-at_of P closed a v ea, each-at_of P closed b (link v) eb))

    each-linked_back : (link : ℤ → ℤ) → EachOfPairs P (linked_back link a b)
    each-linked_back link =
        EachOfPairs-map P (λ v. (at_of b (link v), at_of a v)) (values_of a) (λ v. (each-at_of P closed b (link v) eb, each-at_of P closed a v ea))

    each-opposed : (link : ℤ → ℤ) → EachOfPairs P (opposed link a b)
    each-opposed link =
        EachOfPairs-map P (λ v. (at_of a v, not_atom (at_of b (link v)))) (values_of a)
        (λ v. (each-at_of P closed a v ea, closed.negation (at_of b (link v)) (each-at_of P closed b (link v) eb)))

    each-opposed_above : (link : ℤ → ℤ) → EachOfPairs P (opposed_above link a b)
    each-opposed_above link =
        EachOfPairs-map P (λ v. (at_of b (link v), not_atom (at_of a (v +ℤ pos 1)))) (values_of a)
        (λ v. (each-at_of P closed b (link v) eb, closed.negation (at_of a (v +ℤ pos 1)) (each-at_of P closed a (v +ℤ pos 1) ea)))

    each-alike : (test : ℤ → Bool) → EachOfPairs P (alike_where test a b)
    each-alike test =
        EachOfPairs-map P (λ v. (at_of a v, at_of b v)) (filter test (values_of a)) (λ v. (each-at_of P closed a v ea, each-at_of P closed b v eb))

    each-alike_back : (test : ℤ → Bool) → EachOfPairs P (alike_back test a b)
    each-alike_back test =
        EachOfPairs-map P (λ v. (at_of b v, at_of a v)) (filter test (values_of a)) (λ v. (each-at_of P closed b v eb, each-at_of P closed a v ea))

  -- ---- sums and counts

  each-raised : (k : ℤ) (b c : OrdInt) → EachStep P b.steps → EachStep P c.steps → EachOfPairs P (raised_equations k b c)
  each-raised k b c eb ec =
      EachOfPairs-append P (linked (λ v. v +ℤ k) b c) (linked_back (λ w. w -ℤ k) c b) (each-linked b c eb ec (λ v. v +ℤ k)) (each-linked_back c b ec eb (λ w. w -ℤ k))

  each-mirrored : (k : ℤ) (a b : OrdInt) → EachStep P a.steps → EachStep P b.steps → EachOfPairs P (mirrored_equations k a b)
  each-mirrored k a b ea eb =
      EachOfPairs-append P (opposed (λ v. k -ℤ v +ℤ pos 1) a b) (opposed_above (λ w. k -ℤ w) b a)
      (each-opposed a b ea eb (λ v. k -ℤ v +ℤ pos 1)) (each-opposed_above b a eb ea (λ w. k -ℤ w))

  each-sum3 : (a b c : OrdInt) → EachStep P a.steps → EachStep P b.steps → EachStep P c.steps → EachOfPairs P (sum3_equations a b c)
  each-sum3 a b c ea eb ec =
      let sum = within c (low_of a +ℤ low_of b) (high_of a +ℤ high_of b) in
      let ahead = within a (low_of c -ℤ high_of b) (high_of c -ℤ low_of b) in
      let first = only_if (is_constant a) (raised_equations (low_of a) b c) in
      let second = only_if (is_constant b) (raised_equations (low_of b) a c) in
      EachOfPairs-append P (sum3_ranges a b c) (sum3_constants a b c)
      (EachOfPairs-append P (sum ++ ahead) (within b (low_of c -ℤ high_of a) (high_of c -ℤ low_of a))
      (EachOfPairs-append P sum ahead (each-within c (low_of a +ℤ low_of b) (high_of a +ℤ high_of b) ec) (each-within a (low_of c -ℤ high_of b) (high_of c -ℤ low_of b) ea))
      (each-within b (low_of c -ℤ high_of a) (high_of c -ℤ low_of a) eb))
      (EachOfPairs-append P (first ++ second) (only_if (is_constant c) (mirrored_equations (low_of c) a b))
      (EachOfPairs-append P first second
      (EachOfPairs-only_if P (is_constant a) (raised_equations (low_of a) b c) (each-raised (low_of a) b c eb ec))
      (EachOfPairs-only_if P (is_constant b) (raised_equations (low_of b) a c) (each-raised (low_of b) a c ea ec)))
      (EachOfPairs-only_if P (is_constant c) (mirrored_equations (low_of c) a b) (each-mirrored (low_of c) a b ea eb)))

  each-count : (ls : List Atom) (c : OrdInt) → EachOf P ls → EachStep P c.steps → EachOfPairs P (count_equations ls c)
  each-count ls c each ec =
      let range = within c (pos 0) (pos (length ls)) in
      let full = only_if (int_eq (low_of c) (pos (length ls))) (all_equal ls True) in
      EachOfPairs-append P (range ++ full) (only_if (int_eq (high_of c) (pos 0)) (all_equal ls False))
      (EachOfPairs-append P range full (each-within c (pos 0) (pos (length ls)) ec)
      (EachOfPairs-only_if P (int_eq (low_of c) (pos (length ls))) (all_equal ls True) (each-all_equal P closed ls True each closed.truth)))
      (EachOfPairs-only_if P (int_eq (high_of c) (pos 0)) (all_equal ls False) (each-all_equal P closed ls False each closed.falsehood))

  each-shares : (k lows highs : ℤ) (xs : List OrdInt) → EachInt P xs → EachOfPairs P (shares k lows highs xs)
  each-shares k lows highs [] each = tt
  each-shares k lows highs (a ∷ xs) each =
      EachOfPairs-append P (within a (k -ℤ (highs -ℤ high_of a)) (k -ℤ (lows -ℤ low_of a))) (shares k lows highs xs)
      (each-within a (k -ℤ (highs -ℤ high_of a)) (k -ℤ (lows -ℤ low_of a)) each.0) (each-shares k lows highs xs each.1)

  each-sum : (xs : List OrdInt) (k : ℤ) → EachInt P xs → EachOfPairs P (sum_equations xs k)
  each-sum [] k each = EachOfPairs-only_if P (not (int_eq k (pos 0))) ((True, False) ∷ []) ((closed.truth, closed.falsehood), tt)
  each-sum (a ∷ xs) k each = each-shares k (lows_of (a ∷ xs)) (highs_of (a ∷ xs)) (a ∷ xs) each

  -- ---- a greatest member

  module _ (c : OrdInt) (ec : EachStep P c.steps) where
    each-ranges : (xs : List OrdInt) → EachInt P xs → EachOfPairs P (member_ranges c xs)
    each-ranges [] each = tt
    each-ranges (a ∷ xs) each =
        ((each-at_of P closed c (low_of a) ec, closed.truth), ((each-at_of P closed a (high_of c +ℤ pos 1) each.0, closed.falsehood), each-ranges xs each.1))

    each-top : (xs : List OrdInt) → EachOfPairs P (top_equations c xs)
    each-top [] = tt
    each-top (a ∷ xs) = ((each-at_of P closed c (top_from (high_of a) xs +ℤ pos 1) ec, closed.falsehood), tt)

    each-leaders : (all xs : List OrdInt) → EachInt P xs → EachOfPairs P (leader_equations c all xs)
    each-leaders all [] each = tt
    each-leaders all (a ∷ xs) each =
        EachOfPairs-append P (only_if (is_sole all (high_of a)) (linked_equations c a all)) (leader_equations c all xs)
        (EachOfPairs-only_if P (is_sole all (high_of a)) (linked_equations c a all)
        (EachOfPairs-append P (alike_where (is_sole all) c a) (alike_back (is_sole all) a c)
        (each-alike c a ec each.0 (is_sole all)) (each-alike_back a c each.0 ec (is_sole all))))
        (each-leaders all xs each.1)

    each-max : (xs : List OrdInt) → EachInt P xs → EachOfPairs P (max_equations xs c)
    each-max xs each =
        EachOfPairs-append P (member_ranges c xs ++ top_equations c xs ++ unreached_equations c xs) (leader_equations c xs xs)
        (EachOfPairs-append P (member_ranges c xs ++ top_equations c xs) (unreached_equations c xs)
        (EachOfPairs-append P (member_ranges c xs) (top_equations c xs) (each-ranges xs each) (each-top xs))
        (EachOfPairs-map P (λ v. (at_of c v, False)) (filter (λ v. reaching v xs == 0) (values_of c)) (λ v. (each-at_of P closed c v ec, closed.falsehood))))
        (each-leaders xs xs each)

  -- ---- products and divisions

  each-factor : (a b c : OrdInt) → EachStep P a.steps → EachOfPairs P (factor_equations a b c)
  each-factor a b c ea =
      EachOfPairs-only_if P (int_le (pos 0) (low_of a) && (int_le (pos 1) (low_of b) && int_le (pos 0) (low_of c)))
      (within a (ceiling_of (low_of c) (high_of b)) (floor_of (high_of c) (low_of b))) (each-within a (ceiling_of (low_of c) (high_of b)) (floor_of (high_of c) (low_of b)) ea)

  each-scaled : (k : ℤ) (b c : OrdInt) → EachStep P b.steps → EachStep P c.steps → EachOfPairs P (scaled_equations k b c)
  each-scaled k b c eb ec =
      EachOfPairs-append P (only_if (int_lt (pos 0) k) (multiple_equations k b c)) (only_if (int_lt k (pos 0)) (negative_equations k b c))
      (EachOfPairs-only_if P (int_lt (pos 0) k) (multiple_equations k b c)
      (EachOfPairs-append P (linked_back (λ v. k *ℤ v) b c) (linked (λ w. ceiling_of w k) c b) (each-linked_back b c eb ec (λ v. k *ℤ v)) (each-linked c b ec eb (λ w. ceiling_of w k))))
      (EachOfPairs-only_if P (int_lt k (pos 0)) (negative_equations k b c)
      (EachOfPairs-append P (opposed_above (λ v. k *ℤ v) b c) (opposed (λ w. floor_of (neg_ℤ w) (neg_ℤ k) +ℤ pos 1) c b)
      (each-opposed_above b c eb ec (λ v. k *ℤ v)) (each-opposed c b ec eb (λ w. floor_of (neg_ℤ w) (neg_ℤ k) +ℤ pos 1))))

  each-prod : (a b c : OrdInt) → EachStep P a.steps → EachStep P b.steps → EachStep P c.steps → EachOfPairs P (prod_equations a b c)
  each-prod a b c ea eb ec =
      let range = within c (least_product a b) (greatest_product a b) in
      let first = only_if (is_constant a) (scaled_equations (low_of a) b c) in
      EachOfPairs-append P (range ++ factor_equations a b c ++ factor_equations b a c ++ first) (only_if (is_constant b) (scaled_equations (low_of b) a c))
      (EachOfPairs-append P (range ++ factor_equations a b c ++ factor_equations b a c) first
      (EachOfPairs-append P (range ++ factor_equations a b c) (factor_equations b a c)
      (EachOfPairs-append P range (factor_equations a b c) (each-within c (least_product a b) (greatest_product a b) ec) (each-factor a b c ea))
      (each-factor b a c eb))
      (EachOfPairs-only_if P (is_constant a) (scaled_equations (low_of a) b c) (each-scaled (low_of a) b c eb ec)))
      (EachOfPairs-only_if P (is_constant b) (scaled_equations (low_of b) a c) (each-scaled (low_of b) a c ea ec))

  each-div_mod : (a b q r : OrdInt) → EachStep P a.steps → EachStep P q.steps → EachStep P r.steps → EachOfPairs P (div_mod_equations a b q r)
  each-div_mod a b q r ea eq er =
      EachOfPairs-append P (quotient_equations a b q r) (dividend_equations a b q r)
      (EachOfPairs-append P (within q (floor_of (low_of a) (high_of b)) (floor_of (high_of a) (low_of b))) (at_least r (pos 0) ∷ is_below r (high_of b) ∷ is_below r (high_of a +ℤ pos 1) ∷ [])
      (each-within q (floor_of (low_of a) (high_of b)) (floor_of (high_of a) (low_of b)) eq)
      ((each-at_of P closed r (pos 0) er, closed.truth), ((each-at_of P closed r (high_of b) er, closed.falsehood), ((each-at_of P closed r (high_of a +ℤ pos 1) er, closed.falsehood), tt))))
      (EachOfPairs-only_if P (int_le (pos 0) (low_of q) && int_le (pos 0) (low_of r)) (within a (low_of q *ℤ low_of b +ℤ low_of r) (high_of q *ℤ high_of b +ℤ high_of r))
      (each-within a (low_of q *ℤ low_of b +ℤ low_of r) (high_of q *ℤ high_of b +ℤ high_of r) ea))

  each-form : (core : Core) → EachAtom P core → EachOfPairs P (form_equations core)
  each-form (Ladder a) each = tt
  each-form (Clause ls) each = tt
  each-form (Parity ls odd) each = tt
  each-form (Conj r ls) each = tt
  each-form (Comp a b hi lo) each = tt
  each-form (LeqR r a b) each = tt
  each-form (EqR r a b) each = tt
  each-form (Sum3 a b c) each = each-sum3 a b c each.1.0 each.1.1.0 each.1.1.1.0
  each-form (Count ls c) each = each-count ls c each.0 each.1.0
  each-form (Sum xs k) each = each-sum xs k each.1
  each-form (Max xs c) each = each-max c (EachInt-right P xs (c ∷ []) each.1).0 xs (EachInt-left P xs (c ∷ []) each.1)
  each-form (AllDiff xs cs) each = tt
  each-form (Amo ls) each = tt
  each-form (Prod a b c) each = each-prod a b c each.1.0 each.1.1.0 each.1.1.1.0
  each-form (DivMod a b q r) each = each-div_mod a b q r each.1.0 each.1.1.1.0 each.1.1.1.1.0
  each-form (Lex r strict front back) each = tt

  pub each-equations : (core : Core) → EachAtom P core → (rule : Rule) → EachOfPairs P (equations_of core rule)
  each-equations core each Order = tt
  each-equations core each Form = each-form core each
  each-equations core each Table = tt
