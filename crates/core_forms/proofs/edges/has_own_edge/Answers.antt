use Rattle.std.proofs.Common.{ℕ, Contains, sym, subst}
use Rattle.core_forms.specs.declared.form.Core.{Core}
use Rattle.core_forms.specs.Edges.{settled_core, listed_vars}
use Rattle.core_forms.specs.Variables.{core_vars}
use Rattle.core_forms.proofs.EdgeVars.{own-last, own-other}
use Rattle.core_forms.proofs.edges.has_own_edge.Goals as goal

pub returns-in-Some : goal.returns-in-Some
returns-in-Some c = λ yes.
    let view = c.args.view.now in
    let e = rw c.as_slice.ensures at c.in-Some.ensures in
    subst (λ (core : Core). (v : ℕ) → Contains (listed_vars (settled_core view core)) v → Contains (core_vars core) v) (sym c.in-Sum.is)
    (own-last view c.in-Sum.ints c.in-Some.last.now c.in-Sum.field-1 e (c.has_own_atoms.ensures yes))

pub returns-in_default : goal.returns-in_default
returns-in_default c = λ yes. own-other c.args.core.now c.in_default.not-Sum c.args.view.now
