use Rattle.std.proofs.Common.{sym, subst}
use Rattle.bee_compile.specs.Fits.{CompiledFits}
use Rattle.bound_mode.proofs.Headline.{bounded-fits}
use Rattle.bound_mode.proofs.making.write_bound.Goals as goal

pub write_compilation-requires : goal.write_compilation-requires
write_compilation-requires c = subst CompiledFits (sym c.in_ok-whole.ensures) (bounded-fits _ _ c.in_ok-compiled.compiled c.in_ok-compiled.ensures.fits)
