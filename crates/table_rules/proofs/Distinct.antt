-- The own variables of a core differ.
use Rattle.std.proofs.Common.{◌≡◌, ℕ, ◌<◌, false, ◌||◌, List, [], ◌∷◌, refl, ap, ◌∙◌, arith}
use Rattle.std.proofs.lemmas.Bool.{ne_eqb}
use Rattle.core_forms.specs.declared.form.Core.{Core}
use Rattle.core_forms.specs.OwnVars.{own_vars}
use Rattle.core_forms.proofs.OwnVars.{UpFrom, Up, own_vars-up}
use Rattle.table_rules.specs.Instances.{has_var}
use Rattle.table_rules.proofs.PairLaws.{AreDistinct}

below-all : (v x : ℕ) (vars : List ℕ) → v < x → UpFrom x vars → has_var (x ∷ vars) v ≡ false
below-all v x [] l u = ap (λ t. t || false) (ne_eqb x v (λ e. omega (arith, e)))
below-all v x (w ∷ vars) l u =
    ap (λ t. t || has_var (w ∷ vars) v) (ne_eqb x v (λ e. omega (arith, e))) ∙ below-all v w vars (omega (arith, u.0)) u.1

not-behind : (v : ℕ) (vars : List ℕ) → UpFrom v vars → has_var vars v ≡ false
not-behind v [] u = refl
not-behind v (w ∷ vars) u = below-all v w vars u.0 u.1

from-up : (v : ℕ) (vars : List ℕ) → UpFrom v vars → AreDistinct (v ∷ vars)
from-up v [] u = (refl, tt)
from-up v (w ∷ vars) u = (not-behind v (w ∷ vars) u, from-up w vars u.1)

up-distinct : (vars : List ℕ) → Up vars → AreDistinct vars
up-distinct [] u = tt
up-distinct (v ∷ vars) u = from-up v vars u

pub own_vars-distinct : (core : Core) → AreDistinct (own_vars core)
own_vars-distinct core = up-distinct (own_vars core) (own_vars-up core)
