use Rattle.std.proofs.Common.{◌≡◌, ◌+◌, ◌++◌, List, drop, refl, sym, subst, ◌∙◌, arith}
use Rattle.order_ints.specs.declared.literal.Lit.{Lit}
use Rattle.clause_arena.specs.Clauses.{lits_of}
use Rattle.drup_check.proofs.CopiedLists.{copied-more, copied-all}
use Rattle.drup_check.proofs.aside.copied.Goals as goal

pub loop-place-preserved : goal.loop-place-preserved
loop-place-preserved c =
    let ls = lits_of c.args.db.now.clauses c.args.c in
    let P : List Lit → Type 0 = λ xs. xs ++ drop (c.loop-place.place + 1) ls ≡ ls in
    subst P (sym c.in_ok-push.ensures.items)
    (copied-more c.loop-place.lits.items ls c.loop-place.place (c.loop-place.place + 1) c.lit_at.result (omega (arith, c.len-place-end.ensures, c.loop-place-test.true)) refl c.lit_at.ensures c.loop-place.invariant)

pub returns : goal.returns
returns c =
    let ls = lits_of c.args.db.now.clauses c.args.c in
    c.from_vec.ensures ∙ copied-all c.loop-place.lits.items ls c.loop-place.place (omega (arith, c.len-place-end.ensures, c.loop-place-test.false)) c.loop-place.invariant
