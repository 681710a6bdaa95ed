use Rattle.std.proofs.Common.{[], ◌∷◌, map, codes}
use Rattle.ledger_text.specs.Steps.{step_text}
use Rattle.conflict_text.proofs.Written.{two}
use Rattle.conflict_text.proofs.writing.push_steps.Goals as goal

pub returns : goal.returns
returns c = two c.args.out.now.items c.push_bytes.new.out.items _ (codes "ledger" ∷ []) (map step_text c.args.ledger.now) c.in_ok-push_bytes.ensures.ok c.in_ok-push_ledger.ensures
