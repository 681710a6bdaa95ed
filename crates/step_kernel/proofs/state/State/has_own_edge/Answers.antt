use Rattle.std.proofs.Common.{◌≡◌, ℕ, List, ap, ◌∙◌, subst}
use Rattle.std.specs.Prelude.{Contains}
use Rattle.order_ints.specs.declared.atom.Atom.{Atom}
use Rattle.core_forms.specs.declared.form.Core.{Core}
use Rattle.core_forms.specs.Edges.{settled_core, listed_vars}
use Rattle.core_forms.specs.Variables.{core_vars}
use Rattle.step_kernel.specs.Kernel.{Kernel}
use Rattle.step_kernel.proofs.Holes.{the}
use Rattle.step_kernel.proofs.state.State.has_own_edge.Goals as goal

pub returns-in-Some-clause-own : goal.returns-in-Some-clause-own
returns-in-Some-clause-own c seen core there =
    let view : c.view.result.now ≡ c.args.self.now.view = c.view.ensures.view ∙ ap (λ (k : Kernel). k.view) c.self.view_is in
    let same : c.in-Some.core.now ≡ core = ap (the core) (c.in-Some.ensures.core ∙ there) in
    subst (λ (x : Core). (v : ℕ) → Contains (listed_vars (settled_core c.args.self.now.view x)) v → Contains (core_vars x) v) same
    (subst (λ (w : List Atom). (v : ℕ) → Contains (listed_vars (settled_core w c.in-Some.core.now)) v → Contains (core_vars c.in-Some.core.now) v) view
    (c.has_own_edge.ensures seen))
