-- The test over the list of equations says what an instance is.
use Rattle.std.proofs.Common.{◌≡◌, ◌≢◌, Bool, true, not, ◌&&◌, ◌⊎◌, inl, inr, List, [], ◌∷◌, refl, sym, subst, ⊎_elim}
use Rattle.std.specs.Prelude.{◌↔◌}
use Rattle.std.proofs.lemmas.Bool.{false≢true}
use Rattle.std.proofs.lemmas.Bool.Decides.{same_from_decides}
use Rattle.order_ints.specs.declared.atom.Atom.{Atom}
use Rattle.order_ints.specs.Same.{same_atom}
use Rattle.order_ints.specs.Equality.{same_atom-tells}
use Rattle.core_forms.specs.declared.equation.Rule.{Rule}
use Rattle.core_forms.specs.declared.equation.Rule.TheVariants.{Order, Form, Table}
use Rattle.core_forms.specs.declared.equation.Equation.{Equation}
use Rattle.core_forms.specs.declared.form.Core.{Core}
use Rattle.core_forms.specs.declared.form.Core.TheVariants.{Ladder, Clause, Parity, Conj, Comp, LeqR, EqR, Sum3, Count, Sum, Max, AllDiff, Amo, Prod, DivMod, Lex}
use Rattle.rule_base.specs.Pairs.{is_pair_of, is_listed}
use Rattle.rule_base.proofs.PairLaws.{by_pair}
use Rattle.alldiff_rules.specs.Instances.{IsOneOf, IsStated, IsInstance, form_equations, equations_of, is_instance_of}
use Rattle.alldiff_rules.proofs.Pigeonhole.{or-left, or-right, or-cases}
use Rattle.alldiff_rules.proofs.TestLaws.{both-true}
use Rattle.alldiff_rules.proofs.Places.{and-left, and-right}
use Rattle.alldiff_rules.proofs.Decided.{decides-not}
use Rattle.alldiff_rules.proofs.InstanceLaws.{IsEither, form-instance}
use Rattle.alldiff_rules.proofs.RowListLaws.{listed-row, row-listed}

-- a pair of two atoms in either order
pair-itself : (a b : Atom) (p : Atom × Atom) → a ≡ p.0 → b ≡ p.1 → is_pair_of a b p ≡ true
pair-itself a b p e f =
    or-left (same_atom p.0 a && same_atom p.1 b) (same_atom p.0 b && same_atom p.1 a)
    (both-true (same_atom p.0 a) (same_atom p.1 b) ((same_atom-tells p.0 a).1 (sym e)) ((same_atom-tells p.1 b).1 (sym f)))

pair-crossed : (a b : Atom) (p : Atom × Atom) → b ≡ p.0 → a ≡ p.1 → is_pair_of a b p ≡ true
pair-crossed a b p e f =
    or-right (same_atom p.0 a && same_atom p.1 b) (same_atom p.0 b && same_atom p.1 a)
    (both-true (same_atom p.0 b) (same_atom p.1 a) ((same_atom-tells p.0 b).1 (sym e)) ((same_atom-tells p.1 a).1 (sym f)))

-- two atoms are listed in either order
module _ (a b : Atom) where
  listed-one : (ps : List (Atom × Atom)) → is_listed a b ps ≡ true → IsOneOf a b ps ⊎ IsOneOf b a ps
  listed-one [] e = absurd (false≢true e)
  listed-one (p ∷ ps) e = ⊎_elim
      (λ (f : is_pair_of a b p ≡ true). by_pair {X = IsOneOf a b (p ∷ ps) ⊎ IsOneOf b a (p ∷ ps)} a b p f (λ g h. inl (inl (sym g, sym h))) (λ g h. inr (inl (sym g, sym h))))
      (λ (f : is_listed a b ps ≡ true). ⊎_elim (λ (g : IsOneOf a b ps). inl (inr g)) (λ (g : IsOneOf b a ps). inr (inr g)) (listed-one ps f))
      (or-cases (is_pair_of a b p) (is_listed a b ps) e)

  one-listed : (ps : List (Atom × Atom)) → IsOneOf a b ps → is_listed a b ps ≡ true
  one-listed [] h = absurd h
  one-listed (p ∷ ps) (inl h) = or-left (is_pair_of a b p) (is_listed a b ps) (pair-itself a b p h.0 h.1)
  one-listed (p ∷ ps) (inr h) = or-right (is_pair_of a b p) (is_listed a b ps) (one-listed ps h)

  one-crossed : (ps : List (Atom × Atom)) → IsOneOf b a ps → is_listed a b ps ≡ true
  one-crossed [] h = absurd h
  one-crossed (p ∷ ps) (inl h) = or-left (is_pair_of a b p) (is_listed a b ps) (pair-crossed a b p h.0 h.1)
  one-crossed (p ∷ ps) (inr h) = or-right (is_pair_of a b p) (is_listed a b ps) (one-crossed ps h)

-- what the list of a form has is stated
listed-stated : (core : Core) (a b : Atom) → IsOneOf a b (form_equations core) → IsStated core a b
listed-stated (Ladder c) a b h = h
listed-stated (Clause ls) a b h = h
listed-stated (Parity ls odd) a b h = h
listed-stated (Conj r ls) a b h = h
listed-stated (Comp x y hi lo) a b h = h
listed-stated (LeqR r x y) a b h = h
listed-stated (EqR r x y) a b h = h
listed-stated (Sum3 x y z) a b h = h
listed-stated (Count ls c) a b h = h
listed-stated (Sum ints k) a b h = h
listed-stated (Max ints c) a b h = h
listed-stated (AllDiff ints cs) a b h = listed-row a b ints cs h
listed-stated (Amo ls) a b h = h
listed-stated (Prod x y z) a b h = h
listed-stated (DivMod x y q r) a b h = h
listed-stated (Lex r strict front back) a b h = h

-- and where the atoms are different, what is stated is in the list
stated-listed : (core : Core) (a b : Atom) → a ≢ b → IsStated core a b → IsOneOf a b (form_equations core)
stated-listed (Ladder c) a b differ h = h
stated-listed (Clause ls) a b differ h = h
stated-listed (Parity ls odd) a b differ h = h
stated-listed (Conj r ls) a b differ h = h
stated-listed (Comp x y hi lo) a b differ h = h
stated-listed (LeqR r x y) a b differ h = h
stated-listed (EqR r x y) a b differ h = h
stated-listed (Sum3 x y z) a b differ h = h
stated-listed (Count ls c) a b differ h = h
stated-listed (Sum ints k) a b differ h = h
stated-listed (Max ints c) a b differ h = h
stated-listed (AllDiff ints cs) a b differ h = row-listed a b ints cs differ h
stated-listed (Amo ls) a b differ h = h
stated-listed (Prod x y z) a b differ h = h
stated-listed (DivMod x y q r) a b differ h = h
stated-listed (Lex r strict front back) a b differ h = h

module _ (core : Core) where
  -- the rule Form alone lists equations
  form-listed : (rule : Rule) (a b : Atom) → is_listed a b (equations_of core rule) ≡ true → rule ≡ Form
  form-listed Order a b h = absurd (false≢true h)
  form-listed Form a b h = refl
  form-listed Table a b h = absurd (false≢true h)

  told-instance : (e : Equation) → is_instance_of core e ≡ true → IsInstance core e
  told-instance e told = record {
    form = form;
    differ = λ same. (decides-not (same_atom e.a e.b) (same_atom-tells e.a e.b)).0 (and-left (not (same_atom e.a e.b)) (is_listed e.a e.b (equations_of core e.rule)) told) same;
    stated = ⊎_elim (λ (h : IsOneOf e.a e.b (form_equations core)). inl (listed-stated core e.a e.b h)) (λ (h : IsOneOf e.b e.a (form_equations core)). inr (listed-stated core e.b e.a h))
        (listed-one e.a e.b (form_equations core) (subst (λ (rule : Rule). is_listed e.a e.b (equations_of core rule) ≡ true) form listed));
  }
    where
      listed : is_listed e.a e.b (equations_of core e.rule) ≡ true
      listed = and-right (not (same_atom e.a e.b)) (is_listed e.a e.b (equations_of core e.rule)) told

      form : e.rule ≡ Form
      form = form-listed e.rule e.a e.b listed

  instance-told : (e : Equation) → IsInstance core e → is_instance_of core e ≡ true
  instance-told e h =
      both-true (not (same_atom e.a e.b)) (is_listed e.a e.b (equations_of core e.rule))
      ((decides-not (same_atom e.a e.b) (same_atom-tells e.a e.b)).1 h.differ)
      (subst (λ (rule : Rule). is_listed e.a e.b (equations_of core rule) ≡ true) (sym h.form)
      (⊎_elim (λ (s : IsStated core e.a e.b). one-listed e.a e.b (form_equations core) (stated-listed core e.a e.b h.differ s))
      (λ (s : IsStated core e.b e.a). one-crossed e.a e.b (form_equations core) (stated-listed core e.b e.a (λ same. h.differ (sym same)) s)) h.stated))

  -- so the answer that tells the one is the other
  pub told-exact : (e : Equation) → e.rule ≡ Form → (told : Bool) → (told ≡ true) ↔ IsEither core e.a e.b → told ≡ is_instance_of core e
  told-exact e form told h =
      same_from_decides {P = IsInstance core e} told (is_instance_of core e)
      (λ t. form-instance core e form (h.0 t), λ is. h.1 (is.differ, is.stated)) (told-instance e, instance-told e)

  pub instance-exact : (e : Equation) → is_instance_of core e ≡ true ↔ IsInstance core e
  instance-exact e = (told-instance e, instance-told e)
