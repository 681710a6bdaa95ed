-- The members of a conjunction that is true, once some of them are True.
use Rattle.std.proofs.Common.{◌≡◌, Bool, true, false, ◌⊎◌, inl, inr, List, [], ◌∷◌, map, refl, sym, ap, subst, ◌∙◌}
use Rattle.std.specs.Prelude.{if◌then◌else◌, Contains}
use Rattle.order_ints.specs.declared.atom.Atom.{Atom}
use Rattle.order_ints.specs.declared.atom.Atom.TheVariants.{True, False}
use Rattle.order_ints.specs.Same.{is_true, is_false}
use Rattle.order_ints.specs.Equality.{is_true-True}
use Rattle.order_ints.specs.View.{resolve}
use Rattle.core_forms.specs.declared.equation.Rule.TheVariants.{Form}
use Rattle.core_forms.specs.declared.form.Core.TheVariants.{Conj}
use Rattle.core_forms.specs.Each.{EachOf}
use Rattle.core_forms.specs.Trimmed.{has_false, without_true, tidied_members}
use Rattle.core_forms.specs.Variables.{core_vars}
use Rattle.core_forms.proofs.Tidied.{by_test}
use Rattle.core_forms.proofs.VariableLaws.{each_vars}
use Rattle.rule_base.specs.Pairs.{is_pair_of, is_listed}
use Rattle.rule_base.specs.Stated.{all_equal}
use Rattle.equi_rules.specs.AtomRows.{conjunction_equations, conj_equations}
use Rattle.equation_runs.specs.Turns.{IsMadeOrTold, AreToldFrom}
use Rattle.equation_runs.proofs.FreeLaws.{are_apart}
use Rattle.equation_runs.proofs.NextValue.{or-right}
use Rattle.equation_runs.proofs.LinkLists.{listed-right, IsOneOrListed}
use Rattle.equation_runs.proofs.Neighbours.{listed-first}
use Rattle.equation_runs.proofs.Always.{Told, equi_listed, equi-told}
use Rattle.equation_runs.proofs.Behind.{IsIn, each-by, IsLiteral, free-literal, all_made, Stays, told-behind}

-- a member is said to be the constant
pub in-listed : (k x : Atom) (xs : List Atom) → IsIn x xs → is_listed x k (all_equal xs k) ≡ true
in-listed k x [] is = absurd is
in-listed k x (a ∷ xs) (inl e) = subst (λ (y : Atom). is_listed x k (all_equal (y ∷ xs) k) ≡ true) (sym e) (listed-first x k (all_equal xs k))
in-listed k x (a ∷ xs) (inr is) = or-right (is_pair_of x k (a, k)) (is_listed x k (all_equal xs k)) (in-listed k x xs is)

pub in-map : (f : Atom → Atom) (x : Atom) (xs : List Atom) → IsIn x xs → IsIn (f x) (map f xs)
in-map f x [] is = is
in-map f x (a ∷ xs) (inl e) = inl (ap f e)
in-map f x (a ∷ xs) (inr is) = inr (in-map f x xs is)

-- a literal in a view that leaves it, or makes it True or False, is neither
pub stays-not-false : (xs view : List Atom) (y : Atom) → IsLiteral y → Stays True xs view y → is_false (resolve view y) ≡ false
stays-not-false xs view y one (inl e) = ap is_false (e ∙ one.is)
stays-not-false xs view y one (inr e) = ap is_false e.0

pub stays-not-true : (xs view : List Atom) (y : Atom) → IsLiteral y → Stays False xs view y → is_true (resolve view y) ≡ false
stays-not-true xs view y one (inl e) = ap is_true (e ∙ one.is)
stays-not-true xs view y one (inr e) = ap is_true e.0

none-false : (xs : List Atom) → ((x : Atom) → IsIn x xs → is_false x ≡ false) → has_false xs ≡ false
none-false [] each = refl
none-false (a ∷ xs) each =
    ap (λ (t : Bool). if t then true else has_false xs) (each a (inl refl)) ∙ none-false xs (λ x is. each x (inr is))

pub mapped-each : (f : Atom → Atom) (P : Atom → Type 0) (xs : List Atom) → ((x : Atom) → IsIn x xs → P (f x)) → (y : Atom) → IsIn y (map f xs) → P y
mapped-each f P [] each y is = absurd is
mapped-each f P (a ∷ xs) each y (inl e) = subst P e (each a (inl refl))
mapped-each f P (a ∷ xs) each y (inr is) = mapped-each f P xs (λ x is. each x (inr is)) y is

-- a member is True, or it is left
in-without : (x : Atom) (xs : List Atom) → IsIn x xs → (x ≡ True) ⊎ IsIn x (without_true xs)
in-without x [] is = absurd is
in-without x (a ∷ xs) (inl e) =
    by_test (is_true a) (without_true xs) (a ∷ without_true xs) (λ ys. (x ≡ True) ⊎ IsIn x ys)
    (λ is. inl (sym e ∙ is_true-True a is)) (λ _. inr (inl e))
in-without x (a ∷ xs) (inr is) =
    by_test (is_true a) (without_true xs) (a ∷ without_true xs) (λ ys. (x ≡ True) ⊎ IsIn x ys)
    (λ _. in-without x xs is) (λ _. later (in-without x xs is))
  where
    later : (x ≡ True) ⊎ IsIn x (without_true xs) → (x ≡ True) ⊎ IsIn x (a ∷ without_true xs)
    later (inl e) = inl e
    later (inr is) = inr (inr is)

module _ (ls : List Atom) (free : are_apart ls ≡ true) where
  member-told : (x : Atom) → IsIn x ls → (view xs : List Atom) → EachOf (λ y. IsIn y ls) xs → ((y : Atom) → IsIn y ls → Stays True xs view y) → IsMadeOrTold Told (Conj True ls) view (record { rule = Form; a = x; b = True })
  member-told x is view xs within stay = equi-told (Conj True ls) view x True (one (in-without (resolve view x) members (in-map (resolve view) x ls is)))
    where
      members : List Atom
      members = map (resolve view) ls

      whole : has_false members ≡ false
      whole = none-false members (mapped-each (resolve view) (λ y. is_false y ≡ false) ls (λ y in_ls. stays-not-false xs view y (free-literal ls free y in_ls) (stay y in_ls)))

      tidied : without_true members ≡ tidied_members members
      tidied = sym (ap (λ (t : Bool). if t then False ∷ [] else without_true members) whole)

      one : (resolve view x ≡ True) ⊎ IsIn (resolve view x) (without_true members) → IsOneOrListed (resolve view x) True (equi_listed (Conj True ls) view)
      one (inl e) = inl e
      one (inr left) = inr (subst (λ (ys : List Atom). is_listed (resolve view x) True (conj_equations True ys) ≡ true) tidied
          (listed-right (resolve view x) True (conjunction_equations True (without_true members)) (all_equal (without_true members) True) (in-listed True (resolve view x) (without_true members) left)))

  pub conj-turn : AreToldFrom Told (Conj True ls) [] (all_made True ls)
  conj-turn =
      told-behind (Conj True ls) True refl (λ _. refl) ls free (each_vars (λ v. Contains (core_vars (Conj True ls)) v) (Conj True ls) (λ v c. c)).0.1
      ls (λ x is. is) ls [] (each-by (λ x. IsIn x ls) ls (λ x is. is)) tt (each-by _ ls (λ x is view xs within stay. member-told x is view xs within stay))
