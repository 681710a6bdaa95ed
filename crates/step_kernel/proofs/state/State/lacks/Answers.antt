use Rattle.std.proofs.Common.{◌≡◌, ◌+◌, ◌-◌, ◌<◌, false, sym, ap, ◌∙◌, subst, Some, rules}
use Rattle.std.specs.Prelude.{Contains}
use Rattle.core_forms.specs.declared.form.Core.{Core}
use Rattle.core_forms.specs.Edges.{InsideBelow}
use Rattle.core_forms.specs.Variables.{core_vars}
use Rattle.step_kernel.specs.Kernel.{Kernel, core_at}
use Rattle.step_kernel.specs.StableMarks.{IsMarked}
use Rattle.step_kernel.proofs.Holes.{the, place-there}
use Rattle.step_kernel.proofs.state.State.lacks.Goals as goal

pub returns-then-is_above : goal.returns-then-is_above
returns-then-is_above c seen core there has =
    let marked : IsMarked c.self.inside.stable (c.args.id - 1) = search rules in
    let above : c.self.inside.stable.top < c.args.var = search rules in
    let edge : c.has_at_edge.result ≡ false = search rules in
    let same : core ≡ c.in-Some.core.now = ap (the core) (sym (c.in-Some.ensures.core ∙ there)) in
    let at : core_at c.self.inside.cores.items c.args.id ≡ Some core = ap (λ (k : Kernel). core_at k.cores c.args.id) c.self.view_is ∙ there in
    let below = ((c.self.invariant.stable (c.args.id - 1) marked).1 core (place-there c.self.inside.cores.items c.args.id core at)).1 in
    c.has_at_edge.ensures edge c.self.inside.stable.top (subst (InsideBelow (c.self.inside.stable.top + 1)) same below) above
    (subst (λ (x : Core). Contains (core_vars x) c.args.var) same has)
