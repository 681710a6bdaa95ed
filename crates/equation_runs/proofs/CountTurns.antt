-- The members of a count that is as great as can be, or is 0, once some of them are True, or False.
use Rattle.std.proofs.Common.{◌≡◌, ℕ, suc, ◌+◌, Bool, true, false, inl, inr, List, [], ◌∷◌, ◌++◌, map, length, ℤ, pos, neg_ℤ, ◌+ℤ◌, refl, sym, ap, ◌∙◌, Contains, arith}
use Rattle.std.specs.Prelude.{if◌then◌else◌}
use Rattle.std.specs.Ordering.{int_eq}
use Rattle.std.proofs.lemmas.Int.{ints}
use Rattle.std.proofs.lemmas.Bool.{false≢true}
use Rattle.std.proofs.lemmas.List.{length-map}
use Rattle.order_ints.specs.declared.atom.Atom.{Atom}
use Rattle.order_ints.specs.declared.atom.Atom.TheVariants.{True, False, Of}
use Rattle.order_ints.specs.declared.order_int.OrdInt.{OrdInt}
use Rattle.order_ints.specs.Same.{is_true, is_false}
use Rattle.order_ints.specs.OrderRange.{low_of, high_of}
use Rattle.order_ints.specs.OrderChange.{shifted_of}
use Rattle.order_ints.specs.View.{resolve}
use Rattle.core_forms.specs.declared.equation.Rule.TheVariants.{Form}
use Rattle.core_forms.specs.declared.form.Core.TheVariants.{Count}
use Rattle.core_forms.specs.Each.{EachOf}
use Rattle.core_forms.specs.Trimmed.{without_constants, constant_trues, trimmed_int}
use Rattle.core_forms.specs.Variables.{atom_vars, core_vars}
use Rattle.core_forms.proofs.VariableLaws.{each_vars}
use Rattle.rule_base.specs.Pairs.{is_listed, only_if}
use Rattle.rule_base.specs.Stated.{all_equal}
use Rattle.arith_rules.specs.Links.{within}
use Rattle.arith_rules.specs.SumRows.{count_equations}
use Rattle.equation_runs.specs.Turns.{IsMadeOrTold, AreToldFrom}
use Rattle.equation_runs.specs.RunRows.{equation_of}
use Rattle.equation_runs.proofs.FreeLaws.{are_apart}
use Rattle.equation_runs.specs.FreeAtoms.{step_atoms}
use Rattle.equation_runs.proofs.LinkLists.{listed-left, listed-right, listed-if, IsOneOrListed}
use Rattle.equation_runs.proofs.Always.{Told, arith_listed, arith-told}
use Rattle.equation_runs.proofs.Behind.{IsIn, in-left, in-right, each-in, each-by, apart-parts, IsLiteral, free-literal, all_made, Stays, told-behind}
use Rattle.equation_runs.proofs.ConjTurns.{in-listed, in-map, mapped-each, stays-not-false, stays-not-true}
use Rattle.equation_runs.proofs.BoundTurns.{steps-each, each-steps, each-both, low-stays-so, high-stays-so}

-- a literal among members is left
in-constants : (x : Atom) (xs : List Atom) → IsLiteral x → IsIn x xs → IsIn x (without_constants xs)
in-constants x [] one is = is
in-constants x (True ∷ xs) one (inl e) = absurd (false≢true (sym (ap is_true (e ∙ one.is))))
in-constants x (True ∷ xs) one (inr is) = in-constants x xs one is
in-constants x (False ∷ xs) one (inl e) = absurd (false≢true (sym (ap is_false (e ∙ one.is))))
in-constants x (False ∷ xs) one (inr is) = in-constants x xs one is
in-constants x (Of l ∷ xs) one (inl e) = inl e
in-constants x (Of l ∷ xs) one (inr is) = inr (in-constants x xs one is)

-- where none is False each member is True or left; where none is True none counts
all-counted : (xs : List Atom) → ((x : Atom) → IsIn x xs → is_false x ≡ false) → length (without_constants xs) + constant_trues xs ≡ length xs
all-counted [] each = refl
all-counted (True ∷ xs) each = let h = all-counted xs (λ x is. each x (inr is)) in omega (arith, h)
all-counted (False ∷ xs) each = absurd (false≢true (sym (each False (inl refl))))
all-counted (Of l ∷ xs) each = let h = all-counted xs (λ x is. each x (inr is)) in omega (arith, h)

none-counted : (xs : List Atom) → ((x : Atom) → IsIn x xs → is_true x ≡ false) → constant_trues xs ≡ 0
none-counted [] each = refl
none-counted (a ∷ xs) each =
    ap (λ (t : Bool). if t then suc (constant_trues xs) else constant_trues xs) (each a (inl refl)) ∙ none-counted xs (λ x is. each x (inr is))

eq-from-test : (v w : ℤ) → int_eq v w ≡ true → v ≡ w
eq-from-test v w h = grind (arith, ints)

full-test : (low now : ℤ) (t m n : ℕ) → low ≡ pos n → now ≡ low → m + t ≡ n → int_eq (now +ℤ neg_ℤ (pos t)) (pos m) ≡ true
full-test low now t m n e f g = test (now +ℤ neg_ℤ (pos t)) (pos m) (omega (arith, ints, e, f, g))
  where
    test : (v w : ℤ) → v ≡ w → int_eq v w ≡ true
    test v w h = grind (arith, ints)

none-test : (high now moved : ℤ) (t : ℕ) → high ≡ pos 0 → now ≡ high → t ≡ 0 → moved ≡ now +ℤ neg_ℤ (pos t) → int_eq moved (pos 0) ≡ true
none-test high now moved t e f g h = test moved (pos 0) (omega (arith, ints, e, f, g, h))
  where
    test : (v w : ℤ) → v ≡ w → int_eq v w ≡ true
    test v w h = grind (arith, ints)

shifted-high : (a : OrdInt) (by : ℤ) → high_of (shifted_of a by) ≡ high_of a +ℤ by
shifted-high a by = omega (arith, ints)

full-listed : (x : Atom) (ls : List Atom) (c : OrdInt) → int_eq (low_of c) (pos (length ls)) ≡ true → IsIn x ls → is_listed x True (count_equations ls c) ≡ true
full-listed x ls c full is =
    listed-left x True (within c (pos 0) (pos (length ls)) ++ only_if (int_eq (low_of c) (pos (length ls))) (all_equal ls True)) (only_if (int_eq (high_of c) (pos 0)) (all_equal ls False))
    (listed-right x True (within c (pos 0) (pos (length ls))) (only_if (int_eq (low_of c) (pos (length ls))) (all_equal ls True))
    (listed-if x True (int_eq (low_of c) (pos (length ls))) (all_equal ls True) full (in-listed True x ls is)))

none-listed : (x : Atom) (ls : List Atom) (c : OrdInt) → int_eq (high_of c) (pos 0) ≡ true → IsIn x ls → is_listed x False (count_equations ls c) ≡ true
none-listed x ls c none is =
    listed-right x False (within c (pos 0) (pos (length ls)) ++ only_if (int_eq (low_of c) (pos (length ls))) (all_equal ls True)) (only_if (int_eq (high_of c) (pos 0)) (all_equal ls False))
    (listed-if x False (int_eq (high_of c) (pos 0)) (all_equal ls False) none (in-listed False x ls is))

module _ (ls : List Atom) (c : OrdInt) (free : are_apart (ls ++ step_atoms c.steps) ≡ true) where
  abbrev all_atoms : List Atom
  all_atoms = ls ++ step_atoms c.steps

  abbrev members : List Atom → List Atom
  members view = map (resolve view) ls

  abbrev moved : List Atom → OrdInt
  moved view = shifted_of (trimmed_int view c) (neg_ℤ (pos (constant_trues (members view))))

  literal-of : (x : Atom) → IsIn x ls → IsLiteral x
  literal-of x is = free-literal all_atoms free x (in-left x ls (step_atoms c.steps) is)

  -- the atoms of c are themselves
  step-itself : (k : Atom) (view done : List Atom) → EachOf (λ y. IsIn y ls) done → ((y : Atom) → IsIn y all_atoms → Stays k done view y) → (y : Atom) → IsIn y (step_atoms c.steps) → resolve view y ≡ y
  step-itself k view done inside stay y there = by (stay y (in-right y ls (step_atoms c.steps) there))
    where
      by : Stays k done view y → resolve view y ≡ y
      by (inl e) = e
      by (inr e) = absurd (apart-parts ls (step_atoms c.steps) free y (each-in (λ z. IsIn z ls) y done inside e.1) there)

  step-literal : (y : Atom) → IsIn y (step_atoms c.steps) → IsLiteral y
  step-literal y there = free-literal all_atoms free y (in-right y ls (step_atoms c.steps) there)

  full-told : int_eq (low_of c) (pos (length ls)) ≡ true → (x : Atom) → IsIn x ls → (view done : List Atom) → EachOf (λ y. IsIn y ls) done → ((y : Atom) → IsIn y all_atoms → Stays True done view y) → IsMadeOrTold Told (Count ls c) view (equation_of Form (x, True))
  full-told full x is view done inside stay = arith-told (Count ls c) view x True (one (stay x (in-left x ls (step_atoms c.steps) is)))
    where
      low : low_of (trimmed_int view c) ≡ low_of c
      low = low-stays-so view c (steps-each (λ y. is_true (resolve view y) ≡ false) c.steps (λ y there. let l = step-literal y there in ap is_true (step-itself True view done inside stay y there ∙ l.is)))

      counted : length (without_constants (members view)) + constant_trues (members view) ≡ length ls
      counted = all-counted (members view) (mapped-each (resolve view) (λ y. is_false y ≡ false) ls (λ y there. stays-not-false done view y (literal-of y there) (stay y (in-left y ls (step_atoms c.steps) there))))
          ∙ length-map ls (resolve view)

      still : int_eq (low_of (moved view)) (pos (length (without_constants (members view)))) ≡ true
      still = full-test (low_of c) (low_of (trimmed_int view c)) (constant_trues (members view)) (length (without_constants (members view))) (length ls) (eq-from-test (low_of c) (pos (length ls)) full) low counted

      one : Stays True done view x → IsOneOrListed (resolve view x) True (arith_listed (Count ls c) view)
      one (inl e) = let l = literal-of x is in inr (full-listed (resolve view x) (without_constants (members view)) (moved view) still (in-constants (resolve view x) (members view) (record { literal = l.literal; is = e ∙ l.is }) (in-map (resolve view) x ls is)))
      one (inr e) = inl e.0

  none-told : int_eq (high_of c) (pos 0) ≡ true → (x : Atom) → IsIn x ls → (view done : List Atom) → EachOf (λ y. IsIn y ls) done → ((y : Atom) → IsIn y all_atoms → Stays False done view y) → IsMadeOrTold Told (Count ls c) view (equation_of Form (x, False))
  none-told none x is view done inside stay = arith-told (Count ls c) view x False (one (stay x (in-left x ls (step_atoms c.steps) is)))
    where
      high : high_of (trimmed_int view c) ≡ high_of c
      high = high-stays-so view c (steps-each (λ y. is_false (resolve view y) ≡ false) c.steps (λ y there. let l = step-literal y there in ap is_false (step-itself False view done inside stay y there ∙ l.is)))

      uncounted : constant_trues (members view) ≡ 0
      uncounted = none-counted (members view) (mapped-each (resolve view) (λ y. is_true y ≡ false) ls (λ y there. stays-not-true done view y (literal-of y there) (stay y (in-left y ls (step_atoms c.steps) there))))

      still : int_eq (high_of (moved view)) (pos 0) ≡ true
      still = none-test (high_of c) (high_of (trimmed_int view c)) (high_of (moved view)) (constant_trues (members view)) (eq-from-test (high_of c) (pos 0) none) high uncounted (shifted-high (trimmed_int view c) (neg_ℤ (pos (constant_trues (members view)))))

      one : Stays False done view x → IsOneOrListed (resolve view x) False (arith_listed (Count ls c) view)
      one (inl e) = let l = literal-of x is in inr (none-listed (resolve view x) (without_constants (members view)) (moved view) still (in-constants (resolve view x) (members view) (record { literal = l.literal; is = e ∙ l.is }) (in-map (resolve view) x ls is)))
      one (inr e) = inl e.0

  own-all : EachOf (λ a. (v : ℕ) → Contains (atom_vars a) v → Contains (core_vars (Count ls c)) v) all_atoms
  own-all =
      let each = each_vars (λ v. Contains (core_vars (Count ls c)) v) (Count ls c) (λ v c. c) in
      each-both _ ls (step_atoms c.steps) each.0 (each-steps _ c.steps each.1.0)

  pub full-turn : int_eq (low_of c) (pos (length ls)) ≡ true → AreToldFrom Told (Count ls c) [] (all_made True ls)
  full-turn full =
      told-behind (Count ls c) True refl (λ _. refl) all_atoms free own-all ls (λ x is. in-left x ls (step_atoms c.steps) is) ls []
      (each-by (λ x. IsIn x ls) ls (λ x is. is)) tt (each-by _ ls (λ x is view done inside stay. full-told full x is view done inside stay))

  pub none-turn : int_eq (high_of c) (pos 0) ≡ true → AreToldFrom Told (Count ls c) [] (all_made False ls)
  none-turn none =
      told-behind (Count ls c) False refl (λ _. refl) all_atoms free own-all ls (λ x is. in-left x ls (step_atoms c.steps) is) ls []
      (each-by (λ x. IsIn x ls) ls (λ x is. is)) tt (each-by _ ls (λ x is view done inside stay. none-told none x is view done inside stay))
