use Rattle.std.proofs.Common.{◌≤◌, ◌<◌, length, sym, subst, arith}
use Rattle.std.proofs.lemmas.List.Elements.{Contains-get_or}
use Rattle.order_ints.specs.declared.literal.Lit.{Lit}
use Rattle.clause_arena.specs.Clauses.{lits_of, lit_in, no_lit}
use Rattle.learning_solver.proofs.bumping.Bumped.put_clause.Goals as goal

pub level_of-requires : goal.level_of-requires
level_of-requires c =
    let s = c.args.db.now in
    let ls = lits_of s.clauses c.args.c in
    let k = c.loop-place.place in
    let P : Lit → Type 0 = λ l. l.var ≤ s.trail.vars in
    let inside : k < length ls = omega (arith, c.len-place-end.ensures) in
    let fits = c.requires.db.in_range c.args.c c.requires.live (lit_in ls k) (Contains-get_or ls k no_lit inside) in
    subst P (sym c.lit_at-var.ensures) (omega (arith, fits.1))
