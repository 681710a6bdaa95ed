use Rattle.std.proofs.lemmas.Result.{IfOk-weaker}
use Rattle.bee_cli.specs.Telling.{left}
use Rattle.bee_cli.proofs.progress.ProgressConflictWatcher.asked.Goals as goal

pub tell-requires-clause-piece : goal.tell-requires-clause-piece
tell-requires-clause-piece g c = IfOk-weaker c.part_line-line.result _ _ (λ piece e. left c.args.left c.args.questions e) c.part_line-line.ensures
