-- The two literals of the highest ranks come first.
use Rattle.std.proofs.Common.{List, subst, arith}
use Rattle.std.specs.List.{Contains}
use Rattle.order_ints.specs.declared.literal.Lit.{Lit}
use Rattle.clause_arena.specs.Clauses.{lits_of}
use Rattle.clause_rings.specs.Looks.{IsBestFrom}
use Rattle.clause_rings.proofs.Db.{db-range}
use Rattle.clause_rings.proofs.Reordered.{swapped-is, ordered-one, ordered-two}
use Rattle.std.proofs.lemmas.List.Sorted.{Contains-permutation, IsPermutation-sym}
use Rattle.clause_rings.proofs.attach.order.Goals as goal

pub best_place-first-requires-clause-in_range : goal.best_place-first-requires-clause-in_range
best_place-first-requires-clause-in_range c = λ l is_in. db-range c.args.arena.now.clauses c.args.trail.now c.args.c l c.requires.db c.requires.live (subst (λ (ls : List Lit). Contains ls l) c.lits.ensures is_in)

pub best_place-second-requires-clause-in_range : goal.best_place-second-requires-clause-in_range
best_place-second-requires-clause-in_range c = λ l is_in.
    let best : IsBestFrom c.args.trail.now.entries (lits_of c.args.arena.now.clauses c.args.c) 0 c.best_place-first.result = subst (λ (ls : List Lit). IsBestFrom c.args.trail.now.entries ls 0 c.best_place-first.result) c.lits.ensures c.best_place-first.ensures in
    let s = swapped-is c.args.arena.now c.swap.new.self c.args.c 0 c.best_place-first.result c.requires.live (omega arith) best.inside c.swap.ensures.clauses in
    db-range c.args.arena.now.clauses c.args.trail.now c.args.c l c.requires.db c.requires.live (Contains-permutation (lits_of c.swap.new.self.clauses c.args.c) (lits_of c.args.arena.now.clauses c.args.c) l (IsPermutation-sym (lits_of c.args.arena.now.clauses c.args.c) (lits_of c.swap.new.self.clauses c.args.c) s.reordered.here.lits) (subst (λ (ls : List Lit). Contains ls l) c.lits-then-len-gt1.ensures is_in))

pub returns-then-len-gt1-clause-reordered : goal.returns-then-len-gt1-clause-reordered
returns-then-len-gt1-clause-reordered c =
    let best : IsBestFrom c.args.trail.now.entries (lits_of c.args.arena.now.clauses c.args.c) 0 c.best_place-first.result = subst (λ (ls : List Lit). IsBestFrom c.args.trail.now.entries ls 0 c.best_place-first.result) c.lits.ensures c.best_place-first.ensures in
    let next : IsBestFrom c.args.trail.now.entries (lits_of c.swap.new.self.clauses c.args.c) 1 c.best_place-second.result = subst (λ (ls : List Lit). IsBestFrom c.args.trail.now.entries ls 1 c.best_place-second.result) c.lits-then-len-gt1.ensures c.best_place-second.ensures in
    (ordered-two c.args.trail.now.entries c.args.arena.now c.swap.new.self c.swap-then-len-gt1.new.self c.args.c c.best_place-first.result c.best_place-second.result c.requires.live c.swap.ensures.clauses best c.swap-then-len-gt1.ensures.clauses (omega arith) next).0

pub returns-then-len-gt1-clause-ranked : goal.returns-then-len-gt1-clause-ranked
returns-then-len-gt1-clause-ranked c =
    let best : IsBestFrom c.args.trail.now.entries (lits_of c.args.arena.now.clauses c.args.c) 0 c.best_place-first.result = subst (λ (ls : List Lit). IsBestFrom c.args.trail.now.entries ls 0 c.best_place-first.result) c.lits.ensures c.best_place-first.ensures in
    let next : IsBestFrom c.args.trail.now.entries (lits_of c.swap.new.self.clauses c.args.c) 1 c.best_place-second.result = subst (λ (ls : List Lit). IsBestFrom c.args.trail.now.entries ls 1 c.best_place-second.result) c.lits-then-len-gt1.ensures c.best_place-second.ensures in
    (ordered-two c.args.trail.now.entries c.args.arena.now c.swap.new.self c.swap-then-len-gt1.new.self c.args.c c.best_place-first.result c.best_place-second.result c.requires.live c.swap.ensures.clauses best c.swap-then-len-gt1.ensures.clauses (omega arith) next).1

pub returns-else-len-gt1-clause-reordered : goal.returns-else-len-gt1-clause-reordered
returns-else-len-gt1-clause-reordered c =
    let best : IsBestFrom c.args.trail.now.entries (lits_of c.args.arena.now.clauses c.args.c) 0 c.best_place-first.result = subst (λ (ls : List Lit). IsBestFrom c.args.trail.now.entries ls 0 c.best_place-first.result) c.lits.ensures c.best_place-first.ensures in
    (ordered-one c.args.trail.now.entries c.args.arena.now c.swap.new.self c.args.c c.best_place-first.result c.requires.live c.swap.ensures.clauses best (omega arith)).0

pub returns-else-len-gt1-clause-ranked : goal.returns-else-len-gt1-clause-ranked
returns-else-len-gt1-clause-ranked c =
    let best : IsBestFrom c.args.trail.now.entries (lits_of c.args.arena.now.clauses c.args.c) 0 c.best_place-first.result = subst (λ (ls : List Lit). IsBestFrom c.args.trail.now.entries ls 0 c.best_place-first.result) c.lits.ensures c.best_place-first.ensures in
    (ordered-one c.args.trail.now.entries c.args.arena.now c.swap.new.self c.args.c c.best_place-first.result c.requires.live c.swap.ensures.clauses best (omega arith)).1
