use Rattle.std.proofs.Common.{◌≡◌, ◌-◌, List, set, sym, ap, ◌∙◌, Option, Some, None}
use Rattle.std.proofs.lemmas.List.{set-set}
use Rattle.core_forms.specs.declared.form.Core.{Core}
use Rattle.core_forms.specs.Edges.{restored}
use Rattle.step_kernel.proofs.Holes.{the, place-there}
use Rattle.step_kernel.proofs.settling.unsettle_at.Goals as goal

pub returns-in-Some-clause-there : goal.returns-in-Some-clause-there
returns-in-Some-clause-there c core there =
    let same : Some c.in-Some.core ≡ Some core = sym c.in-Some.is ∙ c.take_core.ensures.core ∙ place-there c.args.cores.now.items c.args.id core there in
    c.put_core.ensures.cores
    ∙ ap (λ (cs : List (Option Core)). set cs (c.args.id - 1) (Some c.unsettle.new.self)) c.take_core.ensures.cores
    ∙ set-set c.args.cores.now.items (c.args.id - 1) None (Some c.unsettle.new.self)
    ∙ ap (λ (x : Core). set c.args.cores.now.items (c.args.id - 1) (Some x)) (c.unsettle.ensures ∙ ap (λ (x : Core). restored c.args.edge x) (ap (the c.in-Some.core) same))
