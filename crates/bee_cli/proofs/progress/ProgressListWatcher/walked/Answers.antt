use Rattle.std.proofs.lemmas.Result.{IfOk-weaker}
use Rattle.bee_cli.specs.Telling.{listed}
use Rattle.bee_cli.proofs.progress.ProgressListWatcher.walked.Goals as goal

pub tell-requires-clause-piece : goal.tell-requires-clause-piece
tell-requires-clause-piece g c = IfOk-weaker c.list_line-line.result _ _ (λ piece e. listed c.args.count e) c.list_line-line.ensures
