use Rattle.std.proofs.Common.{refl, sym, ap, ◌∙◌}
use Rattle.std.specs.Prelude.{is_some}
use Rattle.dimacs_read.proofs.Taken.{above_no_problem, most_no_problem}
use Rattle.dimacs_read.proofs.draft.DraftText.take_numbers.Goals as goal
use Rattle.dimacs_read.proofs.draft.DraftText.take_numbers.Goals.{else-vars-le-MOST-via-then-vars-le-MOST+else-is_none, else-vars-le-MOST-via-else-vars-le-MOST}

pub returns-else-vars-le-MOST : goal.returns-else-vars-le-MOST
returns-else-vars-le-MOST c = (
  λ t p. elim c.else-vars-le-MOST.branch [
    | else-vars-le-MOST-via-then-vars-le-MOST+else-is_none w ↦ above_no_problem c.args.self.now t c.args.line.now c.in-Some.field-0.vars c.in-Some.field-0.count w.is_none.result c.in-Some.ensures
        (ap is_some (sym w.first_above.ensures) ∙ w.is_none.ensures) w.if-is_none.false p
    | else-vars-le-MOST-via-else-vars-le-MOST w ↦ most_no_problem c.args.self.now t c.args.line.now c.in-Some.field-0.vars c.in-Some.field-0.count c.in-Some.ensures w.if-vars-le-MOST.false p
  ],
  refl,
)
