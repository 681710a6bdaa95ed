use Rattle.std.proofs.Common.{◌+◌, get_or, sym, subst, arith}
use Rattle.std.specs.Prelude.{ℕ}
use Rattle.order_ints.specs.Place.{LitBelow}
use Rattle.clause_arena.specs.Clauses.{no_lit}
use Rattle.drup_check.proofs.Denials.{denying-both, at-member, next-false}
use Rattle.drup_check.proofs.shown.deny_all.Goals as goal

pub deny-requires-clause-lit : goal.deny-requires-clause-lit
deny-requires-clause-lit c =
    let l = get_or c.args.lits.now c.loop-i.i no_lit in
    subst (λ (v : ℕ). LitBelow (v + 1) l) (sym c.loop-i.invariant.0.vars) (c.requires.lits l (at-member c.args.lits.now c.loop-i.i (omega (arith, c.loop-i-test.true))))

pub returns-then-deny-clause-denying : goal.returns-then-deny-clause-denying
returns-then-deny-clause-denying c =
    denying-both c.args.lits.now c.args.db.now c.loop-i.db c.deny.new.db (get_or c.args.lits.now c.loop-i.i no_lit) (at-member c.args.lits.now c.loop-i.i (omega (arith, c.loop-i-test.true))) c.loop-i.invariant.0 c.deny.ensures.denying

pub loop-i-preserved : goal.loop-i-preserved
loop-i-preserved c =
    let low = at-member c.args.lits.now c.loop-i.i (omega (arith, c.loop-i-test.true)) in
    let d = rw c.if-deny.false at c.deny.ensures.denied in (
      denying-both c.args.lits.now c.args.db.now c.loop-i.db c.deny.new.db (get_or c.args.lits.now c.loop-i.i no_lit) low c.loop-i.invariant.0 c.deny.ensures.denying,
      next-false c.args.lits.now c.loop-i.db c.deny.new.db c.loop-i.i (omega (arith, c.loop-i-test.true)) c.loop-i.invariant.1 c.deny.ensures.denying d.0,
      d.1,
      c.deny.ensures.db,
    )
