-- Two views that resolve a core's atoms alike trim it alike; and what a further view makes of the cost.
use Rattle.std.proofs.Common.{◌≡◌, ◌+◌, ◌≤◌, cond, length, List, refl, sym, ap, subst, ◌∙◌}
use Rattle.order_ints.specs.declared.atom.Atom.{Atom}
use Rattle.order_ints.specs.declared.atom.Atom.TheVariants.{True, False, Of}
use Rattle.order_ints.specs.Truth.{not_atom}
use Rattle.order_ints.specs.View.{label_of, resolve}
use Rattle.core_forms.specs.declared.form.Core.{Core}
use Rattle.core_forms.specs.Each.{EachAtom}
use Rattle.core_forms.specs.Place.{CoreBelow}
use Rattle.core_forms.specs.Variables.{core_vars, HaveSameLabels}
use Rattle.core_forms.specs.WellFormed.{IsWellFormed}
use Rattle.core_forms.specs.Resolved.{map_core}
use Rattle.core_forms.specs.Trimmed.{tidied_core, trimmed_core, composed_view}
use Rattle.core_forms.specs.Cost.{cost_of}
use Rattle.core_forms.proofs.EachLaws.{each_every, each_weaker}
use Rattle.core_forms.proofs.Composed.{Joins, core_joined, trimmed_twice}
use Rattle.core_forms.proofs.Kept.{IsWellFormed-trimmed}
use Rattle.core_forms.proofs.VariableLaws.{OfVars, each_vars, own_var}
use Rattle.core_forms.proofs.CostLaws.{cost-trimmed}

-- atoms that are replaced alike make one core
pub core_alike : (f g : Atom → Atom) (core : Core) → EachAtom (λ a. f a ≡ g a) core → map_core f core ≡ map_core g core
core_alike f g core alike =
    sym (core_joined (λ a. a) f f core (each_every (Joins (λ a. a) f f) (λ a. refl) core)) ∙ core_joined (λ a. a) f g core alike

-- views that resolve each atom of a core alike trim it alike
pub trimmed_alike : (view next : List Atom) (core : Core) → EachAtom (λ a. resolve view a ≡ resolve next a) core → trimmed_core view core ≡ trimmed_core next core
trimmed_alike view next core alike = ap tidied_core (core_alike (resolve view) (resolve next) core alike)

resolved_alike : (view next : List Atom) (a : Atom) → OfVars (λ v. label_of view v ≡ label_of next v) a → resolve view a ≡ resolve next a
resolved_alike view next True h = refl
resolved_alike view next False h = refl
resolved_alike view next (Of l) h = ap (λ (b : Atom). cond l.positive b (not_atom b)) (h l.var (own_var l.var))

-- and so do views that give each variable of it the same label
pub trimmed_by_labels : (view next : List Atom) (core : Core) → HaveSameLabels (core_vars core) view next → trimmed_core view core ≡ trimmed_core next core
trimmed_by_labels view next core same =
    trimmed_alike view next core
    (each_weaker (OfVars (λ v. label_of view v ≡ label_of next v)) (λ a. resolve view a ≡ resolve next a) (resolved_alike view next) core
    (each_vars (λ v. label_of view v ≡ label_of next v) core same))

-- after a further view a core is still well formed
pub well_formed-further : (first next : List Atom) (core : Core) → IsWellFormed core → IsWellFormed (trimmed_core next (trimmed_core first core))
well_formed-further first next core h = IsWellFormed-trimmed next (trimmed_core first core) (IsWellFormed-trimmed first core h)

-- the cost after a further view is at most the cost before it
pub cost-further : (first next : List Atom) (core : Core) → IsWellFormed core → cost_of (trimmed_core next (trimmed_core first core)) ≤ cost_of (trimmed_core first core)
cost-further first next core h = cost-trimmed next (trimmed_core first core) (IsWellFormed-trimmed first core h)

-- and so by the composed view
pub cost-composed : (first next : List Atom) (core : Core) → IsWellFormed core → CoreBelow (length first + 1) core → cost_of (trimmed_core (composed_view first next) core) ≤ cost_of (trimmed_core first core)
cost-composed first next core h below =
    subst (λ (c : Core). cost_of c ≤ cost_of (trimmed_core first core)) (trimmed_twice first next core below) (cost-further first next core h)
