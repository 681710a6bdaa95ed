use Rattle.std.proofs.Common.{ap, arith}
use Rattle.direct_encode.specs.Clauses.{clauses_of}
use Rattle.direct_encode.specs.Literals.{literals}
use Rattle.direct_encode.proofs.Sizes.{literals-append}
use Rattle.step_kernel.proofs.state.State.encode.Goals as goal

pub extend-requires : goal.extend-requires
extend-requires c =
    omega (
      arith,
      c.requires.kernel.small,
      literals-append c.args.self.now.clauses (clauses_of c.args.core.now),
      ap literals c.in_ok-clauses.ensures.shape,
      ap literals c.as_slice.ensures.value,
    )
