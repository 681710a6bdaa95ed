use Rattle.std.proofs.Common.{◌≡◌, sym, subst, arith}
use Rattle.std.specs.Prelude.{◌↔◌}
use Rattle.model_meaning.specs.Solutions.{IsSolution}
use Rattle.model_lower.specs.declared.state.Lowered.{Lowered}
use Rattle.model_lower.specs.Lowering.{lowered_of}
use Rattle.model_lower.specs.Decoded.{IsDecoded}
use Rattle.model_lower.specs.Fits.{Fits}
use Rattle.model_lower.proofs.LoweringLaw.{lowering_law}
use Rattle.model_lower.proofs.owned.lower_owned.Goals as goal

pub lower_each-requires-clause-room : goal.lower_each-requires-clause-room
lower_each-requires-clause-room c =
    rw (c.as_slice.ensures, c.into_vec.ensures)
    (omega (arith, (lowering_law c.args.model c.requires.typed c.requires.limits c.in_ok-weigh.ensures.light).fits.size))

pub returns-clause-solutions : goal.returns-clause-solutions
returns-clause-solutions c a =
    let model = c.args.model in
    let same : c.in_ok-lowered.lowered ≡ lowered_of model = rw (c.as_slice.ensures, c.into_vec.ensures) at c.in_ok-lowered.ensures in
    subst (λ (l : Lowered). IsSolution model a ↔ IsDecoded l a) (sym same) ((lowering_law model c.requires.typed c.requires.limits c.in_ok-weigh.ensures.light).solutions a)

pub returns-clause-fits : goal.returns-clause-fits
returns-clause-fits c =
    let model = c.args.model in
    let same : c.in_ok-lowered.lowered ≡ lowered_of model = rw (c.as_slice.ensures, c.into_vec.ensures) at c.in_ok-lowered.ensures in
    subst (λ (l : Lowered). Fits l model.decls) (sym same) (lowering_law model c.requires.typed c.requires.limits c.in_ok-weigh.ensures.light).fits
