use Rattle.std.proofs.Common.{ℕ, List, [], ◌∷◌, ◌++◌, codes, ap, ◌∙◌}
use Rattle.bee_text.specs.Lines.{join_lines}
use Rattle.conflict_text.specs.ConflictLines.{version_line, verdict_line}
use Rattle.conflict_text.specs.ConflictDocuments.{behind_lines}
use Rattle.conflict_text.proofs.Written.{three}
use Rattle.conflict_text.proofs.writing.write_core.Goals as goal

pub returns : goal.returns
returns c =
    let d = c.args.d.now in
    let head : List (List ℕ) = version_line ∷ verdict_line d.verdict ∷ [] in
    let behind : List (List ℕ) = behind_lines c.args.decls.now d d.verdict in
    let last : List (List ℕ) = codes "end" ∷ [] in
    three c.new-out.result.items c.push_head.new.out.items c.push_behind.new.out.items c.push_bytes.new.out.items head behind last
    c.in_ok-push_head.ensures c.in_ok-push_behind.ensures c.in_ok-push_bytes.ensures.ok
    ∙ ap (λ (t : List ℕ). t ++ join_lines (head ++ (behind ++ last))) c.new-out.ensures.items
