use Rattle.std.proofs.Common.{◌≡◌, List, ℤ, subst}
use Rattle.std.proofs.lemmas.Result.{IfOk-weaker}
use Rattle.bee_cli.specs.Progress.{block_text}
use Rattle.bee_cli.specs.Telling.{best}
use Rattle.bee_cli.proofs.Told.{as_many}
use Rattle.bee_cli.proofs.progress.ProgressSolutionWatcher.better.Goals as goal

pub best_block-block-requires : goal.best_block-block-requires
best_block-block-requires g c =
    rw c.as_slice.ensures (as_many c.args.decls.now c.args.goal c.args.solution.now.values c.requires)

pub tell-requires-clause-piece : goal.tell-requires-clause-piece
tell-requires-clause-piece g c =
    IfOk-weaker c.best_block-block.result _ _
    (λ piece e. best c.args.decls.now c.args.goal c.args.solution.now.values c.requires
    (subst (λ (vs : List ℤ). piece.items ≡ block_text c.args.decls.now c.args.goal vs c.args.self.now.learned) c.as_slice.ensures e))
    c.best_block-block.ensures
