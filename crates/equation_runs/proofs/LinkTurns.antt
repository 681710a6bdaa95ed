-- Each equation that links two integers that are equal, or that make up a constant or one of whom is the other and a constant, added
-- up, is made or stated in every view.
use Rattle.std.proofs.Common.{◌≡◌, true, List, [], ◌∷◌, ◌++◌, map, ℤ, pos, ◌+ℤ◌, ◌-ℤ◌, subst}
use Rattle.order_ints.specs.declared.atom.Atom.{Atom}
use Rattle.order_ints.specs.declared.atom.Atom.TheVariants.{True}
use Rattle.order_ints.specs.declared.order_int.OrdInt.{OrdInt}
use Rattle.order_ints.specs.Truth.{not_atom}
use Rattle.order_ints.specs.Same.{same_int}
use Rattle.order_ints.specs.OrderRange.{low_of}
use Rattle.order_ints.specs.OrderLevels.{at_of}
use Rattle.core_forms.specs.declared.equation.Rule.TheVariants.{Form}
use Rattle.core_forms.specs.declared.form.Core.TheVariants.{EqR, Sum3}
use Rattle.core_forms.specs.Trimmed.{trimmed_int}
use Rattle.rule_base.specs.Pairs.{is_listed, only_if}
use Rattle.rule_base.specs.Constant.{is_constant}
use Rattle.equi_rules.specs.CompareRows.{eq_equations_true, eq_equations_constant, eq_equations_apart, eq_equations}
use Rattle.arith_rules.specs.SumRows.{sum3_ranges, raised_equations, mirrored_equations, sum3_constants, sum3_equations}
use Rattle.equation_runs.specs.RunRows.{equation_of}
use Rattle.equation_runs.proofs.AtTrimmed.{constant-stays, low-stays}
use Rattle.equation_runs.proofs.LinkLists.{listed-left, listed-right, listed-if, IsOneOrListed, one-within, raised-listed, mirrored-listed, equal-listed, EachPair, each-append, each-if, each-raised, each-mirrored}
use Rattle.equation_runs.proofs.LaterTurns.{AreToldAlways}
use Rattle.equation_runs.proofs.Always.{Told, IsLinked, linked-at, opposed-at, equi_listed, equi-always, arith-always}

-- the equations of two integers that are equal
in-front : (a b : OrdInt) (x y : Atom) → is_listed x y (eq_equations_true a b) ≡ true → is_listed x y (eq_equations True a b) ≡ true
in-front a b x y e =
    let ps = eq_equations_true a b in
    let qs = eq_equations_constant True a b in
    let rs = eq_equations_constant True b a in
    let ts = eq_equations_apart True a b in
    listed-left x y (ps ++ qs ++ rs ++ ts) (only_if (same_int a b) ((True, True) ∷ []))
    (listed-left x y (ps ++ qs ++ rs) ts (listed-left x y (ps ++ qs) rs (listed-left x y ps qs e)))

pub equal-turn : (a b : OrdInt) → AreToldAlways Told (EqR True a b) (map (equation_of Form) (raised_equations (pos 0) a b))
equal-turn a b =
    equi-always (EqR True a b) (raised_equations (pos 0) a b)
    (each-raised (IsLinked (equi_listed (EqR True a b))) (pos 0) a b (λ v. linked-at (equi_listed (EqR True a b)) a b v (v +ℤ pos 0) (at v)))
  where
    at : (v : ℤ) (view : List Atom) → IsOneOrListed (at_of (trimmed_int view a) v) (at_of (trimmed_int view b) (v +ℤ pos 0)) (equi_listed (EqR True a b) view)
    at v view =
        let c = trimmed_int view a in
        let d = trimmed_int view b in
        one-within (at_of c v) (at_of d (v +ℤ pos 0)) (eq_equations_true c d) (equi_listed (EqR True a b) view)
        (in-front c d (at_of c v) (at_of d (v +ℤ pos 0))) (equal-listed c d v)

-- those of a sum of two integers with a constant one among the three
module _ (a b c : OrdInt) where
  abbrev listed_sum : List Atom → List (Atom × Atom)
  listed_sum view = sum3_equations (trimmed_int view a) (trimmed_int view b) (trimmed_int view c)

  first-part : (view : List Atom) (x y : Atom) → is_constant a ≡ true → is_listed x y (raised_equations (low_of (trimmed_int view a)) (trimmed_int view b) (trimmed_int view c)) ≡ true → is_listed x y (listed_sum view) ≡ true
  first-part view x y is e =
      let p = trimmed_int view a in
      let q = trimmed_int view b in
      let r = trimmed_int view c in
      listed-right x y (sum3_ranges p q r) (sum3_constants p q r)
      (listed-left x y (only_if (is_constant p) (raised_equations (low_of p) q r) ++ only_if (is_constant q) (raised_equations (low_of q) p r)) (only_if (is_constant r) (mirrored_equations (low_of r) p q))
      (listed-left x y (only_if (is_constant p) (raised_equations (low_of p) q r)) (only_if (is_constant q) (raised_equations (low_of q) p r))
      (listed-if x y (is_constant p) (raised_equations (low_of p) q r) (constant-stays view a is) e)))

  second-part : (view : List Atom) (x y : Atom) → is_constant b ≡ true → is_listed x y (raised_equations (low_of (trimmed_int view b)) (trimmed_int view a) (trimmed_int view c)) ≡ true → is_listed x y (listed_sum view) ≡ true
  second-part view x y is e =
      let p = trimmed_int view a in
      let q = trimmed_int view b in
      let r = trimmed_int view c in
      listed-right x y (sum3_ranges p q r) (sum3_constants p q r)
      (listed-left x y (only_if (is_constant p) (raised_equations (low_of p) q r) ++ only_if (is_constant q) (raised_equations (low_of q) p r)) (only_if (is_constant r) (mirrored_equations (low_of r) p q))
      (listed-right x y (only_if (is_constant p) (raised_equations (low_of p) q r)) (only_if (is_constant q) (raised_equations (low_of q) p r))
      (listed-if x y (is_constant q) (raised_equations (low_of q) p r) (constant-stays view b is) e)))

  third-part : (view : List Atom) (x y : Atom) → is_constant c ≡ true → is_listed x y (mirrored_equations (low_of (trimmed_int view c)) (trimmed_int view a) (trimmed_int view b)) ≡ true → is_listed x y (listed_sum view) ≡ true
  third-part view x y is e =
      let p = trimmed_int view a in
      let q = trimmed_int view b in
      let r = trimmed_int view c in
      listed-right x y (sum3_ranges p q r) (sum3_constants p q r)
      (listed-right x y (only_if (is_constant p) (raised_equations (low_of p) q r) ++ only_if (is_constant q) (raised_equations (low_of q) p r)) (only_if (is_constant r) (mirrored_equations (low_of r) p q))
      (listed-if x y (is_constant r) (mirrored_equations (low_of r) p q) (constant-stays view c is) e))

  first-linked : is_constant a ≡ true → (v : ℤ) (view : List Atom) → IsOneOrListed (at_of (trimmed_int view b) v) (at_of (trimmed_int view c) (v +ℤ low_of a)) (listed_sum view)
  first-linked is v view =
      let q = trimmed_int view b in
      let r = trimmed_int view c in
      let k = low_of (trimmed_int view a) in
      subst (λ (n : ℤ). IsOneOrListed (at_of q v) (at_of r (v +ℤ n)) (listed_sum view)) (low-stays view a is)
      (one-within (at_of q v) (at_of r (v +ℤ k)) (raised_equations k q r) (listed_sum view) (first-part view (at_of q v) (at_of r (v +ℤ k)) is) (raised-listed k q r v))

  second-linked : is_constant b ≡ true → (v : ℤ) (view : List Atom) → IsOneOrListed (at_of (trimmed_int view a) v) (at_of (trimmed_int view c) (v +ℤ low_of b)) (listed_sum view)
  second-linked is v view =
      let p = trimmed_int view a in
      let r = trimmed_int view c in
      let k = low_of (trimmed_int view b) in
      subst (λ (n : ℤ). IsOneOrListed (at_of p v) (at_of r (v +ℤ n)) (listed_sum view)) (low-stays view b is)
      (one-within (at_of p v) (at_of r (v +ℤ k)) (raised_equations k p r) (listed_sum view) (second-part view (at_of p v) (at_of r (v +ℤ k)) is) (raised-listed k p r v))

  third-linked : is_constant c ≡ true → (v : ℤ) (view : List Atom) → IsOneOrListed (at_of (trimmed_int view a) v) (not_atom (at_of (trimmed_int view b) (low_of c -ℤ v +ℤ pos 1))) (listed_sum view)
  third-linked is v view =
      let p = trimmed_int view a in
      let q = trimmed_int view b in
      let k = low_of (trimmed_int view c) in
      subst (λ (n : ℤ). IsOneOrListed (at_of p v) (not_atom (at_of q (n -ℤ v +ℤ pos 1))) (listed_sum view)) (low-stays view c is)
      (one-within (at_of p v) (not_atom (at_of q (k -ℤ v +ℤ pos 1))) (mirrored_equations k p q) (listed_sum view) (third-part view (at_of p v) (not_atom (at_of q (k -ℤ v +ℤ pos 1))) is) (mirrored-listed k p q v))

  each-constant : EachPair (IsLinked listed_sum) (sum3_constants a b c)
  each-constant =
      each-append (IsLinked listed_sum) (only_if (is_constant a) (raised_equations (low_of a) b c) ++ only_if (is_constant b) (raised_equations (low_of b) a c)) (only_if (is_constant c) (mirrored_equations (low_of c) a b))
      (each-append (IsLinked listed_sum) (only_if (is_constant a) (raised_equations (low_of a) b c)) (only_if (is_constant b) (raised_equations (low_of b) a c))
      (each-if (IsLinked listed_sum) (is_constant a) (raised_equations (low_of a) b c)
      (λ is. each-raised (IsLinked listed_sum) (low_of a) b c (λ v. linked-at listed_sum b c v (v +ℤ low_of a) (first-linked is v))))
      (each-if (IsLinked listed_sum) (is_constant b) (raised_equations (low_of b) a c)
      (λ is. each-raised (IsLinked listed_sum) (low_of b) a c (λ v. linked-at listed_sum a c v (v +ℤ low_of b) (second-linked is v)))))
      (each-if (IsLinked listed_sum) (is_constant c) (mirrored_equations (low_of c) a b)
      (λ is. each-mirrored (IsLinked listed_sum) (low_of c) a b (λ v. opposed-at listed_sum a b v (low_of c -ℤ v +ℤ pos 1) (third-linked is v))))

  pub sum-turn : AreToldAlways Told (Sum3 a b c) (map (equation_of Form) (sum3_constants a b c))
  sum-turn = arith-always (Sum3 a b c) (sum3_constants a b c) each-constant
