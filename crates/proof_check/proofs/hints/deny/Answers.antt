use Rattle.std.proofs.Common.{◌+◌, ◌∙◌, sym, false, List, reverse, take}
use Rattle.std.proofs.lemmas.Bool.{cond-true, cond-false}
use Rattle.std.proofs.lemmas.List.{at_drop_all}
use Rattle.proof_check.specs.Faults.{lits_fault}
use Rattle.order_ints.specs.declared.literal.Lit.{Lit}
use Rattle.proof_check.specs.Assigned.{value_at}
use Rattle.proof_check.proofs.Denied.{fault-at, denied-more, denied-all}
use Rattle.proof_check.proofs.hints.deny.Goals as goal

-- the literal of a place outside
abbrev outside : Lit
outside = record { var = 0; positive = false }

pub returns-then-not-is_open-clause-fault : goal.returns-then-not-is_open-clause-fault
returns-then-not-is_open-clause-fault c =
    sym c.loop-i.invariant.left
    ∙ fault-at c.args.vars (value_at c.loop-i.values) c.args.lits.now c.loop-i.i outside c.loop-i-test.true c.loop-i.invariant.denied
    ∙ cond-false _ _ _ (sym c.is_open.ensures ∙ c.if-not-is_open.true)

pub loop-i-preserved : goal.loop-i-preserved
loop-i-preserved c =
    let made = c.in_ok-make_true.ensures in
    record {
      size = made.size ∙ c.loop-i.invariant.size;
      denied = denied-more (value_at c.loop-i.values) (value_at c.make_true.new.self) c.args.lits.now c.loop-i.i outside c.negated.result c.loop-i-test.true
          c.loop-i.invariant.denied c.negated.ensures.var c.negated.ensures.sign made.ok;
      left =
          sym (cond-true _ _ _ (sym c.is_open.ensures ∙ c.if-not-is_open.false))
          ∙ sym (fault-at c.args.vars (value_at c.loop-i.values) c.args.lits.now c.loop-i.i outside c.loop-i-test.true c.loop-i.invariant.denied)
          ∙ c.loop-i.invariant.left;
    }

pub returns-clause-denied : goal.returns-clause-denied
returns-clause-denied c =
    denied-all c.args.vars (value_at c.loop-i.values) c.args.lits.now c.loop-i.i c.loop-i-test.false c.loop-i.invariant.denied
    (sym c.loop-i.invariant.left ∙ at_drop_all (λ (xs : List Lit). lits_fault c.args.vars (reverse (take c.loop-i.i c.args.lits.now)) xs (c.loop-i.i + 1)) c.args.lits.now c.loop-i.i c.loop-i-test.false)
