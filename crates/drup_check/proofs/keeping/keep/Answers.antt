use Rattle.std.proofs.Common.{List, sym, subst}
use Rattle.std.specs.Prelude.{Contains}
use Rattle.std.proofs.lemmas.Result.{IfOk-weaker}
use Rattle.order_ints.specs.declared.literal.Lit.{Lit}
use Rattle.drup_check.specs.Stored.{SameSet}
use Rattle.drup_check.proofs.Additions.{kept-same, idle-takes}
use Rattle.drup_check.proofs.keeping.keep.Goals as goal

pub store-requires-clause-lits : goal.store-requires-clause-lits
store-requires-clause-lits c =
    let both = rw c.in-Some.is at c.in_ok-ordered.ensures in
    λ l has. c.requires.lits l ((both.1 l).0 (subst (λ (ls : List Lit). Contains ls l) c.as_slice.ensures has))

pub returns-in-None-clause-kept : goal.returns-in-None-clause-kept
returns-in-None-clause-kept c = idle-takes c.args.db.now c.args.lits.now (rw c.in-None.is at c.in_ok-ordered.ensures) c.requires.bottom c.requires.complete

pub returns-in-Some-clause-kept : goal.returns-in-Some-clause-kept
returns-in-Some-clause-kept c =
    let both = rw c.in-Some.is at c.in_ok-ordered.ensures in
    let same = subst (λ (ls : List Lit). SameSet ls c.args.lits.now) (sym c.as_slice.ensures) both.1 in
    IfOk-weaker c.store.result _ _ (λ kept h. kept-same c.args.db.now c.store.new.db c.as_slice.result.now c.args.lits.now same kept h) c.store.ensures.kept
