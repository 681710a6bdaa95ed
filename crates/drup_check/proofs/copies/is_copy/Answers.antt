use Rattle.drup_check.proofs.Additions.{copy-stored, lit-equal}
use Rattle.drup_check.proofs.copies.is_copy.Goals as goal

pub returns : goal.returns
returns c = λ same.
    copy-stored c.args.db.now.clauses c.args.c c.args.lits.now c.in-Some.one c.in-Some-2.other (c.is_live.ensures.0 c.if-not-is_live.false) (rw c.in-Some.is at c.in_ok-one.ensures) (rw c.in-Some-2.is at c.in_ok-other.ensures)
    ((c.eq.ensures.equal lit-equal).0 same)
