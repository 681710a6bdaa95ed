use Rattle.std.proofs.Common.{List, subst, refl, ◌∙◌, append-nil, arith}
use Rattle.std.proofs.lemmas.List.{nil_from_length}
use Rattle.std.specs.Prelude.{Contains}
use Rattle.order_ints.specs.declared.literal.Lit.{Lit}
use Rattle.drup_check.proofs.TwoTiers.{back-refutes, back-goes-on, last-range, same-stands}
use Rattle.drup_check.proofs.tiers.Tiers.bring_back.Goals as goal

pub take_in-requires-clause-lits : goal.take_in-requires-clause-lits
take_in-requires-clause-lits c = λ l has.
    last-range c.loop-clause.self c.pop.new.self.items c.in-Some.clause (rw c.in-Some.is at c.pop.ensures.items) c.requires.stands.0 (c.loop-clause.invariant.0 c.requires.stands.0 c.requires.stands.1) l
    (subst (λ (ls : List Lit). Contains ls l) c.as_slice.ensures has)

pub take_in-requires-clause-bottom : goal.take_in-requires-clause-bottom
take_in-requires-clause-bottom c = (c.loop-clause.invariant.0 c.requires.stands.0 c.requires.stands.1).bottom

pub take_in-requires-clause-complete : goal.take_in-requires-clause-complete
take_in-requires-clause-complete c = (c.loop-clause.invariant.0 c.requires.stands.0 c.requires.stands.1).complete

pub returns-then-branch-clause-stands : goal.returns-then-branch-clause-stands
returns-then-branch-clause-stands c = λ cs st.
    back-refutes c.loop-clause.self (record c.loop-clause.self { gone = c.pop.new.self }) c.take_in.new.self c.in-Some.clause (rw c.in-Some.is at c.pop.ensures.items) refl
    c.in_ok-take_in.ensures.gone c.in_ok-take_in.ensures.vars c.in_ok-take_in.field-0 c.if-branch.true c.as_slice.result.now c.as_slice.ensures c.in_ok-take_in.ensures.taken
    cs (c.loop-clause.invariant.0 cs st)

pub loop-clause-preserved : goal.loop-clause-preserved
loop-clause-preserved c = (
  (λ cs st.
      back-goes-on c.loop-clause.self (record c.loop-clause.self { gone = c.pop.new.self }) c.take_in.new.self c.in-Some.clause (rw c.in-Some.is at c.pop.ensures.items) refl
      c.in_ok-take_in.ensures.gone c.in_ok-take_in.ensures.vars c.in_ok-take_in.field-0 c.if-branch.false c.as_slice.result.now c.as_slice.ensures c.in_ok-take_in.ensures.taken
      cs (c.loop-clause.invariant.0 cs st)),
  c.in_ok-take_in.ensures.vars ∙ c.loop-clause.invariant.1,
)

pub returns-clause-stands : goal.returns-clause-stands
returns-clause-stands c = λ cs st.
    let none = nil_from_length c.pop.new.self.items (omega (arith, c.in_default.ensures.cases.1)) in
    (same-stands c.loop-clause.self (record c.loop-clause.self { gone = c.pop.new.self }) refl (c.in_default.ensures.items ∙ append-nil c.pop.new.self.items) cs (c.loop-clause.invariant.0 cs st), none)
