-- Pairs that are one or listed, however a view has their atoms and the core, are made or told in every view.
use Rattle.std.proofs.Common.{◌≡◌, Bool, true, false, not, ◌&&◌, ◌⊎◌, inl, inr, List, [], ◌∷◌, map, ℤ, refl, sym, ap, subst₂, ◌∙◌}
use Rattle.order_ints.specs.declared.atom.Atom.{Atom}
use Rattle.order_ints.specs.declared.order_int.OrdInt.{OrdInt}
use Rattle.order_ints.specs.Truth.{not_atom}
use Rattle.order_ints.specs.Same.{same_atom}
use Rattle.order_ints.specs.Equality.{same_atom-true}
use Rattle.order_ints.specs.OrderLevels.{at_of}
use Rattle.order_ints.specs.View.{resolve}
use Rattle.order_ints.proofs.Labels.{resolves_negation}
use Rattle.core_forms.specs.declared.equation.Equation.{Equation}
use Rattle.core_forms.specs.declared.equation.Rule.{Rule}
use Rattle.core_forms.specs.declared.equation.Rule.TheVariants.{Form}
use Rattle.core_forms.specs.declared.form.Core.{Core}
use Rattle.core_forms.specs.Trimmed.{trimmed_int, trimmed_core}
use Rattle.rule_base.specs.Pairs.{is_listed}
use Rattle.rule_base.specs.Found.{is_instance_by}
use Rattle.equi_rules.specs.Instances.{form_equations as equi_form_equations, equations_of as equi_equations_of, is_instance_of as is_equi_instance}
use Rattle.arith_rules.specs.Instances.{form_equations as arith_form_equations, equations_of as arith_equations_of, is_instance_of as is_arith_instance}
use Rattle.equation_runs.specs.Turns.{IsMadeOrTold, is_stated}
use Rattle.equation_runs.specs.RunRows.{equation_of}
use Rattle.equation_runs.proofs.LaterTurns.{AreToldAlways}
use Rattle.equation_runs.proofs.AtTrimmed.{at-trimmed}
use Rattle.equation_runs.proofs.Stated.{by-equi, by-arith}
use Rattle.equation_runs.proofs.LinkLists.{IsOneOrListed, EachPair}

-- what is told
abbrev pub Told : Core → Equation → Type 0
Told c e = is_stated c e ≡ true

-- what is listed is an instance, where its atoms are not one
listed-instance : (pairs : Rule → List (Atom × Atom)) (x y : Atom) → IsOneOrListed x y (pairs Form) → (x ≡ y) ⊎ (is_instance_by pairs (equation_of Form (x, y)) ≡ true)
listed-instance pairs x y (inl e) = inl e
listed-instance pairs x y (inr e) = by (same_atom x y) refl
  where
    by : (t : Bool) → same_atom x y ≡ t → (x ≡ y) ⊎ (is_instance_by pairs (equation_of Form (x, y)) ≡ true)
    by true same = inl (same_atom-true x y same)
    by false differ = inr (ap (λ (t : Bool). not t && is_listed x y (pairs Form)) differ ∙ e)

-- pairs that are one or listed in each view
module _ (listed : List Atom → List (Atom × Atom)) where
  abbrev pub IsLinked : Atom → Atom → Type 0
  IsLinked x y = (view : List Atom) → IsOneOrListed (resolve view x) (resolve view y) (listed view)

  -- at two numbers, by the trimmed integers there
  pub linked-at : (a b : OrdInt) (v w : ℤ) → ((view : List Atom) → IsOneOrListed (at_of (trimmed_int view a) v) (at_of (trimmed_int view b) w) (listed view)) → IsLinked (at_of a v) (at_of b w)
  linked-at a b v w each view = subst₂ (λ (x y : Atom). IsOneOrListed x y (listed view)) (at-trimmed view a v) (at-trimmed view b w) (each view)

  pub opposed-at : (a b : OrdInt) (v w : ℤ) → ((view : List Atom) → IsOneOrListed (at_of (trimmed_int view a) v) (not_atom (at_of (trimmed_int view b) w)) (listed view)) → IsLinked (at_of a v) (not_atom (at_of b w))
  opposed-at a b v w each view =
      subst₂ (λ (x y : Atom). IsOneOrListed x y (listed view)) (at-trimmed view a v)
      (ap not_atom (at-trimmed view b w) ∙ sym (resolves_negation view (at_of b w))) (each view)

  -- so they are told, each one in every view
  each-told : (core : Core) (ps : List (Atom × Atom)) → ((view : List Atom) (x y : Atom) → IsOneOrListed (resolve view x) (resolve view y) (listed view) → IsMadeOrTold Told core view (equation_of Form (x, y))) → EachPair IsLinked ps → AreToldAlways Told core (map (equation_of Form) ps)
  each-told core [] by each = tt
  each-told core (p ∷ ps) by each = ((λ view. by view p.0 p.1 (each.0 view)), each-told core ps by each.1)

-- what equi_rules or arith_rules lists of a core as a view has it
abbrev pub equi_listed : Core → List Atom → List (Atom × Atom)
equi_listed core view = equi_form_equations (trimmed_core view core)

abbrev pub arith_listed : Core → List Atom → List (Atom × Atom)
arith_listed core view = arith_form_equations (trimmed_core view core)

pub equi-told : (core : Core) (view : List Atom) (x y : Atom) → IsOneOrListed (resolve view x) (resolve view y) (equi_listed core view) → IsMadeOrTold Told core view (equation_of Form (x, y))
equi-told core view x y one = by (listed-instance (equi_equations_of (trimmed_core view core)) (resolve view x) (resolve view y) one)
  where
    by : (resolve view x ≡ resolve view y) ⊎ (is_equi_instance (trimmed_core view core) (equation_of Form (resolve view x, resolve view y)) ≡ true) → IsMadeOrTold Told core view (equation_of Form (x, y))
    by (inl same) = inl same
    by (inr is) = inr (by-equi (trimmed_core view core) (equation_of Form (resolve view x, resolve view y)) is)

pub arith-told : (core : Core) (view : List Atom) (x y : Atom) → IsOneOrListed (resolve view x) (resolve view y) (arith_listed core view) → IsMadeOrTold Told core view (equation_of Form (x, y))
arith-told core view x y one = by (listed-instance (arith_equations_of (trimmed_core view core)) (resolve view x) (resolve view y) one)
  where
    by : (resolve view x ≡ resolve view y) ⊎ (is_arith_instance (trimmed_core view core) (equation_of Form (resolve view x, resolve view y)) ≡ true) → IsMadeOrTold Told core view (equation_of Form (x, y))
    by (inl same) = inl same
    by (inr is) = inr (by-arith (trimmed_core view core) (equation_of Form (resolve view x, resolve view y)) is)

pub equi-always : (core : Core) (ps : List (Atom × Atom)) → EachPair (IsLinked (equi_listed core)) ps → AreToldAlways Told core (map (equation_of Form) ps)
equi-always core ps each = each-told (equi_listed core) core ps (equi-told core) each

pub arith-always : (core : Core) (ps : List (Atom × Atom)) → EachPair (IsLinked (arith_listed core)) ps → AreToldAlways Told core (map (equation_of Form) ps)
arith-always core ps each = each-told (arith_listed core) core ps (arith-told core) each
