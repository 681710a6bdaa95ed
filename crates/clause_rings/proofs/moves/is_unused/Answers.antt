use Rattle.std.proofs.Common.{◌≡◌, ◌≤◌, ◌<◌, length, Some, refl, rules, sym, ◌∙◌, subst, arith}
use Rattle.std.proofs.lemmas.Bool.{false≢true}
use Rattle.std.proofs.lemmas.List.Elements.{Contains-get_or}
use Rattle.order_ints.specs.declared.literal.Lit.{Lit}
use Rattle.clause_arena.specs.Clauses.{lits_of, lit_in, no_lit}
use Rattle.clause_rings.proofs.Reasons.{unused-told, used-told}
use Rattle.clause_rings.proofs.moves.is_unused.Goals as goal

pub reason_of-requires : goal.reason_of-requires
reason_of-requires c =
    let w = c.args.watches.now in
    let ls = lits_of w.arena.clauses c.args.c in
    let k = c.loop-place.place in
    let P : Lit → Type 0 = λ l. l.var ≤ w.trail.vars in
    let inside : k < length ls = omega (arith, c.len-place-end.ensures) in
    let fits = c.requires.kept.db.in_range c.args.c c.requires.live (lit_in ls k) (Contains-get_or ls k no_lit inside) in
    subst P (sym c.lit_at.ensures) (omega (arith, fits.1))

pub returns-then-eq : goal.returns-then-eq
returns-then-eq c = (
  (λ no. absurd (false≢true no)),
  (λ unused.
      let same : c.reason_of.result ≡ Some c.args.c = search rules in
      absurd (used-told c.args.watches.now.trail.entries c.lit_at.result.var c.args.c (sym c.reason_of.ensures ∙ same) unused)),
)

pub returns : goal.returns
returns c = (
  (λ _. unused-told c.args.watches.now.arena.clauses c.args.watches.now.trail c.args.c c.requires.kept.db (λ k low. c.loop-place.invariant k (omega (arith, low, c.len-place-end.ensures)))),
  (λ _. refl),
)
