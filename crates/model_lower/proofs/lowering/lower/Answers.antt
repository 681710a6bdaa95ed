use Rattle.std.proofs.Common.{sym, subst, arith}
use Rattle.std.specs.Prelude.{◌↔◌}
use Rattle.model_meaning.specs.Solutions.{IsSolution}
use Rattle.model_lower.specs.declared.state.Lowered.{Lowered}
use Rattle.model_lower.specs.Decoded.{IsDecoded}
use Rattle.model_lower.specs.Fits.{Fits}
use Rattle.model_lower.proofs.LoweringLaw.{lowering_law}
use Rattle.model_lower.proofs.lowering.lower.Goals as goal

pub lower_items-requires-clause-room : goal.lower_items-requires-clause-room
lower_items-requires-clause-room c =
    omega (arith, (lowering_law c.args.model.now c.requires.typed c.requires.limits c.in_ok-weigh.ensures.light).fits.size)

pub returns-clause-solutions : goal.returns-clause-solutions
returns-clause-solutions c a =
    let model = c.args.model.now in
    subst (λ (l : Lowered). IsSolution model a ↔ IsDecoded l a) (sym c.in_ok-lower_items.ensures) ((lowering_law model c.requires.typed c.requires.limits c.in_ok-weigh.ensures.light).solutions a)

pub returns-clause-fits : goal.returns-clause-fits
returns-clause-fits c =
    let model = c.args.model.now in
    subst (λ (l : Lowered). Fits l model.decls) (sym c.in_ok-lower_items.ensures) (lowering_law model c.requires.typed c.requires.limits c.in_ok-weigh.ensures.light).fits
