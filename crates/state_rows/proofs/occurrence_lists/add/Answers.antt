use Rattle.std.proofs.Common.{rules, ◌≡◌, true}
use Rattle.state_rows.proofs.occurrence_lists.add.Goals as goal

pub add-requires-clause-fresh : goal.add-requires-clause-fresh
add-requires-clause-fresh g c =
    let new : c.is_new.result ≡ true = search rules in
    λ v listed. c.is_new.ensures.fresh new v
