use Rattle.std.proofs.Common.{rules, ◌≡◌, ◌∷◌}
use Rattle.statement_lower.specs.Pairs.{each_vars}
use Rattle.statement_lower.proofs.PairRoom.{each-room}
use Rattle.statement_lower.proofs.pair_lines.Pairs.add_each.Goals as goal

pub add-requires : goal.add-requires
add-requires c =
    let b = c.in-Some.b.now in
    let later = c.in-Some.later.now in
    let parts : c.loop-b.rest.now ≡ b ∷ later = search (rules, c.in-Some.ensures.cases, c.in-Some.is) in
    record { room = each-room c.loop-b.self.vars (each_vars c.args.self.now.vars c.args.others.now) b later c.loop-b.rest.now parts c.loop-b.invariant.vars c.requires.room }
