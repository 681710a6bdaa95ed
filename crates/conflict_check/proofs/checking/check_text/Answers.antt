use Rattle.conflict_check.proofs.Judging.{ok-judged, ok-complete}
use Rattle.conflict_check.proofs.checking.check_text.Goals as goal

pub returns-clause-judged : goal.returns-clause-judged
returns-clause-judged c = ok-judged c.args.model c.args.text.now c.requires.typed c.requires.limits c.requires.light c.judge_text.result c.judge_text.ensures

pub returns-clause-complete : goal.returns-clause-complete
returns-clause-complete c = λ v is. ok-complete c.args.model c.args.text.now c.requires.typed c.requires.limits c.requires.light v is c.judge_text.result c.judge_text.ensures
