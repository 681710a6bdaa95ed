use Rattle.std.proofs.Common.{◌≡◌, FitsSigned, rules}
use Rattle.std.specs.Int.{w128}
use Rattle.std.proofs.lemmas.Int.{to_z-of_z}
use Rattle.statement_lower.proofs.LinearLaws.{scaled-bounded}
use Rattle.statement_lower.proofs.summands.scaled.Goals as goal

pub scaled-requires-clause-after : goal.scaled-requires-clause-after
scaled-requires-clause-after c =
    let f : FitsSigned w128 c.from.result = search rules in
    let e : c.from.result ≡ c.args.coefficient = search rules in
    rw (to_z-of_z w128 c.from.result f, e) (scaled-bounded c.args.int.now c.args.coefficient c.requires.int c.requires.coefficient)
