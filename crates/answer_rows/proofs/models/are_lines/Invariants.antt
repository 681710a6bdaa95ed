use Rattle.std.proofs.Common.{◌≡◌, map, length}
use Rattle.std.specs.List.{list_all}
use Rattle.bee_text.specs.Lines.{lacks}
use Rattle.model_meaning.specs.declared.model.Decl.{Decl}
use Rattle.answer_rows.proofs.models.are_lines.Given as goal

-- what is left tells what all tell
abbrev pub invariant-loop-rest : goal.invariant-loop-rest
invariant-loop-rest l = list_all (lacks 10) (map (λ (d : Decl). d.name) l.rest) ≡ list_all (lacks 10) (map (λ (d : Decl). d.name) l.decls)

abbrev pub decreases-loop-rest : goal.decreases-loop-rest
decreases-loop-rest l = length l.rest
