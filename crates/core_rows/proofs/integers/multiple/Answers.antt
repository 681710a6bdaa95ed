use Rattle.std.proofs.Common.{arith, to_z, of_z}
use mir.Syntax.{w128}
use Rattle.std.proofs.lemmas.Int.{ints}
use Rattle.order_ints.proofs.Multiples.{IsBounded-scaled_of}
use Rattle.core_rows.proofs.integers.multiple.Goals as goal

pub scaled-requires-clause-after : goal.scaled-requires-clause-after
scaled-requires-clause-after g c =
    IsBounded-scaled_of c.args.a.now (to_z w128 (of_z w128 c.args.by)) 1000 (omega (arith, ints)) (omega (arith, ints)) (omega (arith, ints))
