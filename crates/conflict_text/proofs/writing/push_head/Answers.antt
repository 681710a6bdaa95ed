use Rattle.std.proofs.Common.{[], ◌∷◌}
use Rattle.conflict_text.specs.ConflictLines.{version_line, verdict_line}
use Rattle.conflict_text.proofs.Written.{two}
use Rattle.conflict_text.proofs.writing.push_head.Goals as goal

pub returns : goal.returns
returns c =
    two c.args.out.now.items c.push_bytes.new.out.items _ (version_line ∷ []) (verdict_line c.args.verdict ∷ []) c.in_ok-push_bytes.ensures.ok c.in_ok-push_verdict_line.ensures
