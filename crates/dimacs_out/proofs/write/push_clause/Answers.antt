use Rattle.std.proofs.Common.{◌∙◌, ap, ◌++◌, ◌∷◌, []}
use Rattle.dimacs_out.proofs.Written.{clause_written}
use Rattle.dimacs_out.proofs.write.push_clause.Goals as goal

pub returns : goal.returns
returns c =
    clause_written c.args.out.now.items _ _ c.args.clause.now c.in_ok-push_literals.ensures
    (c.in_ok-end_line.ensures.ok ∙ ap (λ l. l ++ 10 ∷ []) c.in_ok-push_bytes.ensures.ok)
