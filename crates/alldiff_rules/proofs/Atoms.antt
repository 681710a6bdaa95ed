-- What holds of a core's atoms holds of the atoms of the equations that it states.
use Rattle.std.proofs.Common.{◌≡◌, ℕ, zero, suc, Bool, true, false, cond, inl, inr, List, [], ◌∷◌, ◌++◌, ℤ, pos, ◌+ℤ◌, sym, subst, ⊎_elim}
use Rattle.order_ints.specs.declared.atom.Atom.{Atom}
use Rattle.order_ints.specs.declared.atom.Atom.TheVariants.{True, False, Of}
use Rattle.order_ints.specs.declared.order_int.OrdInt.{OrdInt}
use Rattle.order_ints.specs.Place.{AtomBelow}
use Rattle.order_ints.specs.OrderRange.{low_of, high_of}
use Rattle.order_ints.specs.OrderLevels.{at_of}
use Rattle.order_ints.proofs.Truths.{AtomBelow-not_atom}
use Rattle.core_forms.specs.declared.form.Core.{Core}
use Rattle.core_forms.specs.declared.form.Core.TheVariants.{Ladder, Clause, Parity, Conj, Comp, LeqR, EqR, Sum3, Count, Sum, Max, AllDiff, Amo, Prod, DivMod, Lex}
use Rattle.core_forms.specs.declared.equation.Equation.{Equation}
use Rattle.core_forms.specs.Place.{CoreBelow}
use Rattle.core_forms.specs.Each.{EachOf, EachStep, EachInt, EachAtom}
use Rattle.core_forms.proofs.EachLaws.{each_below}
use Rattle.rule_base.specs.Pairs.{IsClosed}
use Rattle.rule_base.proofs.StatedLaws.{each-at_of}
use Rattle.alldiff_rules.specs.Members.{int_at, condition_at, choice_of}
use Rattle.alldiff_rules.specs.Rows.{IsRow, too_few, needed_elsewhere, equal_constants, opposite_twins, reached_alone, passed_alone, lex_equations}
use Rattle.alldiff_rules.specs.Instances.{IsOneOf, IsStated, IsInstance}

module _ (P : Atom → Type 0) (closed : IsClosed P) where
  each-int_at : (xs : List OrdInt) (i : ℕ) → EachInt P xs → EachStep P (int_at xs i).steps
  each-int_at [] i each = tt
  each-int_at (a ∷ xs) zero each = each.0
  each-int_at (a ∷ xs) (suc i) each = each-int_at xs i each.1

  each-condition_at : (cs : List Atom) (i : ℕ) → EachOf P cs → P (condition_at cs i)
  each-condition_at [] i each = closed.falsehood
  each-condition_at (c ∷ cs) zero each = each.0
  each-condition_at (c ∷ cs) (suc i) each = each-condition_at cs i each.1

  each-at : (xs : List OrdInt) (i : ℕ) (v : ℤ) → EachInt P xs → P (at_of (int_at xs i) v)
  each-at xs i v each = each-at_of P closed (int_at xs i) v (each-int_at xs i each)

  each-choice : (xs : List OrdInt) (i : ℕ) (v : ℤ) (p : Atom) (d : ℕ) → int_at xs i ≡ choice_of v p d → EachInt P xs → P p
  each-choice xs i v p d is each = (subst (λ (a : OrdInt). EachStep P a.steps) is (each-int_at xs i each)).0

  row-each : (xs : List OrdInt) (cs : List Atom) (a b : Atom) → EachOf P cs → EachInt P xs → IsRow xs cs a b → P a × P b
  row-each xs cs a b of_cs of_xs (too_few sure less e f) = (subst P (sym e) closed.truth, subst P (sym f) closed.falsehood)
  row-each xs cs a b of_cs of_xs (needed_elsewhere k v lt sure h e f) = (subst P (sym e) (each-at xs k v of_xs), subst P (sym f) (each-at xs k (v +ℤ pos 1) of_xs))
  row-each xs cs a b of_cs of_xs (equal_constants i j v ne lt sure first second e f) = (subst P (sym e) (each-condition_at cs j of_cs), subst P (sym f) closed.falsehood)
  row-each xs cs a b of_cs of_xs (opposite_twins i j v d p q h e f) = (subst P (sym e) (each-choice xs i v p d h.first of_xs), subst P (sym f) (closed.negation q (each-choice xs j v q d h.second of_xs)))
  row-each xs cs a b of_cs of_xs (reached_alone i v sure as_many h e f) = (subst P (sym e) (each-at xs i v of_xs), subst P (sym f) closed.truth)
  row-each xs cs a b of_cs of_xs (passed_alone i v sure as_many h e f) = (subst P (sym e) (each-at xs i (v +ℤ pos 1) of_xs), subst P (sym f) closed.falsehood)

  each-behind : (front back : List OrdInt) → EachInt P (front ++ back) → EachInt P back
  each-behind [] back each = each
  each-behind (a ∷ front) back each = each-behind front back each.1

  lex-each : (r : Atom) (strict : Bool) (front back : List OrdInt) (a b : Atom) → P r → EachInt P (front ++ back) → IsOneOf a b (lex_equations r strict front back) → P a × P b
  lex-each r strict [] [] a b of_r each (inl q) = (subst P (sym q.0) of_r, subst P (sym q.1) (by strict))
    where
      by : (t : Bool) → P (cond t False True)
      by true = closed.falsehood
      by false = closed.truth
  lex-each r strict [] [] a b of_r each (inr q) = absurd q
  lex-each r strict [] (y ∷ back) a b of_r each q = absurd q
  lex-each r strict (x ∷ front) [] a b of_r each q = absurd q
  lex-each False strict (x ∷ front) (y ∷ back) a b of_r each q = absurd q
  lex-each (Of l) strict (x ∷ front) (y ∷ back) a b of_r each q = absurd q
  lex-each True strict (x ∷ front) (y ∷ back) a b of_r each (inl q) =
      (subst P (sym q.0) (each-at_of P closed x (high_of y +ℤ pos 1) each.0), subst P (sym q.1) closed.falsehood)
  lex-each True strict (x ∷ front) (y ∷ back) a b of_r each (inr (inl q)) =
      (subst P (sym q.0) (each-at_of P closed y (low_of x) (each-behind front (y ∷ back) each.1).0), subst P (sym q.1) closed.truth)
  lex-each True strict (x ∷ front) (y ∷ back) a b of_r each (inr (inr q)) = absurd q

  stated-each : (core : Core) (a b : Atom) → EachAtom P core → IsStated core a b → P a × P b
  stated-each (Ladder c) a b each s = absurd s
  stated-each (Clause ls) a b each s = absurd s
  stated-each (Parity ls odd) a b each s = absurd s
  stated-each (Conj r ls) a b each s = absurd s
  stated-each (Comp x y hi lo) a b each s = absurd s
  stated-each (LeqR r x y) a b each s = absurd s
  stated-each (EqR r x y) a b each s = absurd s
  stated-each (Sum3 x y z) a b each s = absurd s
  stated-each (Count ls c) a b each s = absurd s
  stated-each (Sum xs k) a b each s = absurd s
  stated-each (Max xs c) a b each s = absurd s
  stated-each (AllDiff xs cs) a b each s = row-each xs cs a b each.0 each.1 s
  stated-each (Amo ls) a b each s = absurd s
  stated-each (Prod x y z) a b each s = absurd s
  stated-each (DivMod x y q r) a b each s = absurd s
  stated-each (Lex r strict front back) a b each s = lex-each r strict front back a b each.0.0 each.1 s

  pub instance-each : (core : Core) (e : Equation) → EachAtom P core → IsInstance core e → P e.a × P e.b
  instance-each core e each h =
      ⊎_elim (λ (s : IsStated core e.a e.b). stated-each core e.a e.b each s)
      (λ (s : IsStated core e.b e.a). let p = stated-each core e.b e.a each s in (p.1, p.0)) h.stated

-- where the core's variables are below n, those of an instance are
closed-below : (n : ℕ) → IsClosed (AtomBelow n)
closed-below n = record { truth = tt; falsehood = tt; negation = λ a h. AtomBelow-not_atom n a h }

pub instance-below : (n : ℕ) (core : Core) (e : Equation) → CoreBelow n core → IsInstance core e → AtomBelow n e.a × AtomBelow n e.b
instance-below n core e below h = instance-each (AtomBelow n) (closed-below n) core e (each_below n (AtomBelow n) (λ a b. b) core below) h
