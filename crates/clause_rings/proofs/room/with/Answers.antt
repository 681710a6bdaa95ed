-- The clauses of a CNF, one after another.
use Rattle.std.proofs.Common.{ℕ, List, [], ◌≡◌, ◌<◌, ◌+◌, ◌∙◌, length, get_or, sym, subst, ap, arith}
use Rattle.std.specs.List.{Contains}
use Rattle.std.proofs.lemmas.List.{get_or_default}
use Rattle.order_ints.specs.declared.literal.Lit.{Lit}
use Rattle.order_ints.specs.Place.{LitBelow}
use Rattle.literal_trail.specs.Trail.{Trail}
use Rattle.clause_rings.specs.Clauses.{IsApart}
use Rattle.clause_rings.proofs.Widened.{HoldsFirst, holds-next, clause-below, clauses-below}
use Rattle.clause_rings.proofs.room.with.Goals as goal

-- the clause at a place, as the code reads it
clause_is : (clauses : List (List Lit)) (k : ℕ) (item lits : List Lit) → k < length clauses → item ≡ get_or clauses k item → lits ≡ item → lits ≡ get_or clauses k []
clause_is clauses k item lits lt read is = is ∙ (read ∙ get_or_default clauses k item [] lt)

pub add_first-requires-clause-in_range : goal.add_first-requires-clause-in_range
add_first-requires-clause-in_range c = λ l is_in.
    let same : c.as_slice.result.now ≡ get_or c.as_slice-clauses.result.now c.loop-k.k [] = clause_is c.as_slice-clauses.result.now c.loop-k.k c.index-clauses-k.result c.as_slice.result.now (omega arith) c.index-clauses-k.is c.as_slice.ensures in
    let here : get_or c.as_slice-clauses.result.now c.loop-k.k [] ≡ get_or c.args.cnf.now.clauses c.loop-k.k [] = ap (λ (cs : List (List Lit)). get_or cs c.loop-k.k []) c.as_slice-clauses.ensures in
    let lt : c.loop-k.k < length c.args.cnf.now.clauses = omega (arith, ap (length {A = List Lit}) c.as_slice-clauses.ensures) in
    subst (λ (t : Trail). LitBelow (t.vars + 1) l) (sym c.loop-k.invariant.1) (clause-below (c.args.cnf.now.vars + 1) (get_or c.args.cnf.now.clauses c.loop-k.k []) (clauses-below (c.args.cnf.now.vars + 1) c.args.cnf.now.clauses c.loop-k.k c.requires.in_range lt) l (subst (λ (ls : List Lit). Contains ls l) (same ∙ here) is_in))

pub add_first-requires-clause-apart : goal.add_first-requires-clause-apart
add_first-requires-clause-apart c =
    let same : c.as_slice.result.now ≡ get_or c.as_slice-clauses.result.now c.loop-k.k [] = clause_is c.as_slice-clauses.result.now c.loop-k.k c.index-clauses-k.result c.as_slice.result.now (omega arith) c.index-clauses-k.is c.as_slice.ensures in
    let here : get_or c.as_slice-clauses.result.now c.loop-k.k [] ≡ get_or c.args.cnf.now.clauses c.loop-k.k [] = ap (λ (cs : List (List Lit)). get_or cs c.loop-k.k []) c.as_slice-clauses.ensures in
    let lt : c.loop-k.k < length c.args.cnf.now.clauses = omega (arith, ap (length {A = List Lit}) c.as_slice-clauses.ensures) in
    subst IsApart (sym (same ∙ here)) (c.requires.apart c.loop-k.k lt)

pub loop-k-preserved : goal.loop-k-preserved
loop-k-preserved c =
    let same : c.as_slice.result.now ≡ get_or c.as_slice-clauses.result.now c.loop-k.k [] = clause_is c.as_slice-clauses.result.now c.loop-k.k c.index-clauses-k.result c.as_slice.result.now (omega arith) c.index-clauses-k.is c.as_slice.ensures in
    (c.in_ok-add_first.ensures.kept, c.in_ok-add_first.ensures.trail ∙ c.loop-k.invariant.1, holds-next c.as_slice-clauses.result.now c.loop-k.k c.loop-k.watches.arena.clauses c.add_first.new.watches.arena.clauses c.as_slice.result.now same c.loop-k.invariant.2 c.in_ok-add_first.ensures.next)

pub returns-clause-clauses : goal.returns-clause-clauses
returns-clause-clauses c =
    let is : c.as_slice-clauses.result.now ≡ c.args.cnf.now.clauses = c.as_slice-clauses.ensures in
    let end : c.loop-k.k ≡ length c.args.cnf.now.clauses = omega (arith, ap (length {A = List Lit}) is) in
    let h : HoldsFirst c.args.cnf.now.clauses (length c.args.cnf.now.clauses) c.loop-k.watches.arena.clauses = subst (λ (n : ℕ). HoldsFirst c.args.cnf.now.clauses n c.loop-k.watches.arena.clauses) end (subst (λ (cs : List (List Lit)). HoldsFirst cs c.loop-k.k c.loop-k.watches.arena.clauses) is c.loop-k.invariant.2) in
    record { stored = h.stored; alone = h.alone; once = h.once }
