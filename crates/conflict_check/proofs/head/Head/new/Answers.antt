use Rattle.std.proofs.Common.{ℕ, List, ap}
use Rattle.conflict_text.specs.declared.verdict.CoreVerdict.TheVariants.{Satisfiable}
use Rattle.conflict_check.specs.declared.head.Stage.TheVariants as stage
use Rattle.conflict_check.specs.Heads.{standing_in}
use Rattle.conflict_check.proofs.Walks.{start-marked}
use Rattle.conflict_check.proofs.head.Head.new.Goals as goal

pub returns-clause-start : goal.returns-clause-start
returns-clause-start c = λ model. ap (λ (conflict : List ℕ). standing_in model Satisfiable conflict 0 stage.Version) c.new-conflict.ensures.items

pub returns-clause-walked : goal.returns-clause-walked
returns-clause-walked c = λ model typed. start-marked model c.new-conflict.result.items c.new-out.result.items c.new-conflict.ensures.items c.new-out.ensures.items typed
