-- Cores trimmed by views whose labels label themselves, one view after another.
use Rattle.std.proofs.Common.{◌≡◌, ℕ, zero, suc, ◌+◌, ◌-◌, ◌≤◌, ◌<◌, List, [], ◌∷◌, length, get_or, Contains, refl, ap, sym, ◌∙◌, subst, arith}
use Rattle.std.specs.Prelude.{◌↔◌}
use Rattle.std.proofs.lemmas.List.{get_or-map, get_or_default, length-map, same_lists}
use Rattle.order_ints.specs.declared.atom.Atom.{Atom}
use Rattle.order_ints.specs.declared.atom.Atom.TheVariants.{True, False, Of}
use Rattle.order_ints.specs.View.{label_of, resolve}
use Rattle.order_ints.specs.Label.{variable, IsOwnLabel, IsLabel, IsLabelled, IsLater}
use Rattle.order_ints.proofs.Labels.{own-stays, stays-own, IsLabel-resolve, resolves_once, resolve-later}
use Rattle.core_forms.specs.declared.form.Core.{Core}
use Rattle.core_forms.specs.Place.{CoreBelow}
use Rattle.core_forms.specs.Each.{EachAtom}
use Rattle.core_forms.specs.Variables.{atom_vars, core_vars}
use Rattle.core_forms.specs.Trimmed.{trimmed_core, composed_view}
use Rattle.core_forms.proofs.EachLaws.{each_below, each_every}
use Rattle.core_forms.proofs.Places.{each_trimmed}
use Rattle.core_forms.proofs.VariableLaws.{none_there, own_var, OfVars, vars_each}
use Rattle.core_forms.proofs.Composed.{Joins, trimmed_joined}

-- what holds of a literal's variable holds of all its variables
only_var : (R : ℕ → Type 0) (w : ℕ) → R w → (v : ℕ) → Contains (w ∷ []) v → R v
only_var R w h v c = at c.0 c.1 c.2
  where
    at : (k : ℕ) → k < 1 → get_or (w ∷ []) k v ≡ v → R v
    at zero lt e = subst R e h
    at (suc k) lt e = absurd (omega (arith, lt))

-- the atoms of a trimmed core resolve to themselves
pub atoms_resolve : (view : List Atom) (core : Core) → IsLabelled view → EachAtom (λ a. resolve view a ≡ a) (trimmed_core view core)
atoms_resolve view core labelled =
    each_trimmed (λ a. resolve view a ≡ a) refl refl view core
    (each_every (λ a. resolve view (resolve view a) ≡ resolve view a) (λ a. resolves_once view a labelled) core)

-- where the core's variables are those of the view, they are labels
pub atoms_label : (view : List Atom) (core : Core) → IsLabelled view → CoreBelow (length view + 1) core → EachAtom (IsLabel view) (trimmed_core view core)
atoms_label view core labelled below =
    each_trimmed (IsLabel view) tt tt view core
    (each_below (length view + 1) (λ a. IsLabel view (resolve view a)) (λ a h. IsLabel-resolve view a labelled h) core below)

-- the variables of an atom that resolves to itself are their own labels, and back
own_vars : (view : List Atom) (a : Atom) → resolve view a ≡ a → OfVars (IsOwnLabel view) a
own_vars view True e = λ v c. absurd (none_there v c)
own_vars view False e = λ v c. absurd (none_there v c)
own_vars view (Of l) e = only_var (IsOwnLabel view) l.var (stays-own view l.var l.positive e)

vars_own : (view : List Atom) (a : Atom) → OfVars (IsOwnLabel view) a → resolve view a ≡ a
vars_own view True h = refl
vars_own view False h = refl
vars_own view (Of l) h = own-stays view l.var l.positive (h l.var (own_var l.var))

-- the variables of a trimmed core are their own labels
pub vars_are_own : (view : List Atom) (core : Core) (v : ℕ) → IsLabelled view → Contains (core_vars (trimmed_core view core)) v → IsOwnLabel view v
vars_are_own view core v labelled =
    vars_each (IsOwnLabel view) (trimmed_core view core)
    (each_trimmed (OfVars (IsOwnLabel view)) (λ v c. absurd (none_there v c)) (λ v c. absurd (none_there v c)) view core
    (each_every (λ a. OfVars (IsOwnLabel view) (resolve view a)) (λ a. own_vars view (resolve view a) (resolves_once view a labelled)) core))
    v

-- and each atom over its variables resolves to itself
pub over_vars_resolve : (view : List Atom) (core : Core) (a : Atom) → IsLabelled view → ((v : ℕ) → Contains (atom_vars a) v → Contains (core_vars (trimmed_core view core)) v) → resolve view a ≡ a
over_vars_resolve view core a labelled h = vars_own view a (λ v c. vars_are_own view core v labelled (h v c))

-- trimming by a view and then by a later one is trimming by the later one
pub trimmed_later : (n : ℕ) (old new : List Atom) (core : Core) → IsLater old new → CoreBelow n core → trimmed_core new (trimmed_core old core) ≡ trimmed_core new core
trimmed_later n old new core later below =
    trimmed_joined old new core (each_below n (Joins (resolve old) (resolve new) (resolve new)) (λ a h. resolve-later old new later n a h) core below)

-- composing a view with a later one of its length gives the later one, and back
pub later_composed : (old new : List Atom) → length old ≡ length new → IsLater old new ↔ (composed_view old new ≡ new)
later_composed old new same = (whole, each)
  where
    at : (v : ℕ) → 1 ≤ v → v ≤ length old → label_of (composed_view old new) v ≡ resolve new (label_of old v)
    at v low high = get_or-map (resolve new) old (v - 1) (variable v) (variable v) (omega arith)

    each : composed_view old new ≡ new → IsLater old new
    each e v low high = sym (at v low high) ∙ ap (λ (view : List Atom). label_of view v) e

    whole : IsLater old new → composed_view old new ≡ new
    whole later = same_lists (composed_view old new) new (length-map old (resolve new) ∙ same) there
      where
        there : (k : ℕ) (d : Atom) → k < length (composed_view old new) → get_or (composed_view old new) k d ≡ get_or new k d
        there k d lt =
            let inside : k < length old = omega (arith, lt, length-map old (resolve new)) in
            let e : suc k - 1 ≡ k = omega arith in
            let moved : label_of (composed_view old new) (suc k) ≡ label_of new (suc k) = at (suc k) (omega arith) (omega arith) ∙ later (suc k) (omega arith) (omega arith) in
            get_or_default (composed_view old new) k d (variable (suc k)) lt
            ∙ sym (ap (λ (i : ℕ). get_or (composed_view old new) i (variable (suc k))) e)
            ∙ moved
            ∙ ap (λ (i : ℕ). get_or new i (variable (suc k))) e
            ∙ get_or_default new k (variable (suc k)) d (omega (arith, inside, same))
