use Rattle.std.proofs.Common.{drop}
use Rattle.core_forms.specs.Each.{EachStep}
use Rattle.core_forms.specs.Edges.{HasOwn}
use Rattle.core_forms.proofs.edges.has_own_atoms.Given as goal

-- where the view has so what is left, it has all
abbrev pub invariant-loop-step : goal.invariant-loop-step
invariant-loop-step l = EachStep (HasOwn l.view) (drop l.step-index l.steps) → EachStep (HasOwn l.view) l.steps
