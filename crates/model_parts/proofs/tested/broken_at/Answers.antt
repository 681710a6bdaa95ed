use Rattle.std.proofs.Common.{List, ap}
use Rattle.std.specs.Prelude.{slice_index_or}
use Rattle.model_meaning.specs.declared.model.Stmt.{Stmt}
use Rattle.model_parts.proofs.Broken.{found-at}
use Rattle.model_parts.proofs.tested.broken_at.Goals as goal

pub returns : goal.returns
returns c =
    let d = c.index-stmts-place.result in
    found-at c.args.a.now.values c.args.number c.args.model.now.stmts c.args.place (slice_index_or c.as_slice-stmts.result.now c.args.place d).number d
    c.holds-held.result c.number_of_broken.result c.requires.place c.holds-held.ensures.test
    (ap (λ (ss : List Stmt). (slice_index_or ss c.args.place d).number) c.as_slice-stmts.ensures) c.number_of_broken.ensures
