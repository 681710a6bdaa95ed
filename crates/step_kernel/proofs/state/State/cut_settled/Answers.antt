use Rattle.std.proofs.Common.{◌≡◌, sym, ap, ◌∙◌, subst, Some}
use Rattle.core_forms.specs.WellFormed.{IsWellFormed}
use Rattle.step_kernel.proofs.CutSplits.{stable-there, cut-told}
use Rattle.step_kernel.proofs.Holes.{the}
use Rattle.step_kernel.proofs.There.{there-formed}
use Rattle.step_kernel.proofs.state.State.cut_settled.Goals as goal

pub is_compound-requires : goal.is_compound-requires
is_compound-requires c =
    let at = c.requires in
    let formed = there-formed c.args.self.now c.args.id at.core c.core.ensures.kernel (stable-there c.args.self.now c.args.id at.core at.there at.stable) in
    let same : Some at.core ≡ Some c.in-Some.core.now = sym at.there ∙ sym c.in-Some.ensures.core in
    subst IsWellFormed (ap (the at.core) same) formed

pub returns-then-is_compound : goal.returns-then-is_compound
returns-then-is_compound c =
    cut-told c.cut_core.result c.in-Some.core.now c.args.self.now c.args.id (sym c.in-Some.ensures.core) (sym c.is_compound.ensures ∙ c.if-is_compound.true) c.cut_core.ensures
