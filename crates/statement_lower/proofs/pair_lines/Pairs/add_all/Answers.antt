use Rattle.std.proofs.Common.{rules, ◌≡◌, ◌∷◌}
use Rattle.statement_lower.specs.Pairs.{pairs_vars}
use Rattle.statement_lower.proofs.PairRoom.{pairs-room}
use Rattle.statement_lower.proofs.pair_lines.Pairs.add_all.Goals as goal

pub add_each-requires : goal.add_each-requires
add_each-requires c =
    let a = c.in-Some.a.now in
    let later = c.in-Some.later.now in
    let parts : c.loop-a.rest.now ≡ a ∷ later = search (rules, c.in-Some.ensures.cases, c.in-Some.is) in
    record { room = pairs-room c.loop-a.self.vars (pairs_vars c.args.self.now.vars c.args.ints.now) a later c.loop-a.rest.now parts c.loop-a.invariant.vars c.requires.room }
