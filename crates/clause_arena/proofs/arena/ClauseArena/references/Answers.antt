use Rattle.std.proofs.Common.{◌∙◌, length, ap, sym, subst}
use Rattle.std.specs.Vec.{vec_capacity}
use Rattle.clause_arena.specs.Clauses.{Arena, IsArena}
use Rattle.clause_arena.specs.Layout.{clause_of}
use Rattle.clause_arena.proofs.Seen.{arena-is, length-listed}
use Rattle.clause_arena.proofs.arena.ClauseArena.references.Goals as goal

pub returns-clause-count : goal.returns-clause-count
returns-clause-count c =
    c.nodes.ensures.count ∙ c.self.invariant.0.nodes
    ∙ sym (length-listed (clause_of c.self.inside.codes.items c.self.inside.spans.items c.self.inside.ids.items c.self.inside.order) (length c.self.inside.spans.items))
    ∙ ap (λ (a : Arena). length a.clauses) c.self.view_is

pub returns-clause-arena : goal.returns-clause-arena
returns-clause-arena c = subst IsArena c.self.view_is (arena-is c.self.inside.codes.items c.self.inside.spans.items c.self.inside.ids.items c.self.inside.order c.self.inside.spare c.self.inside.dead (vec_capacity c.self.inside.codes) c.self.invariant.0)
