use Rattle.std.proofs.Common.{◌≡◌, ℕ, ◌==◌, List, ◌∷◌, ◌++◌, length, sym, ap, subst, ◌∙◌}
use Rattle.std.proofs.lemmas.Bool.{true≢false}
use Rattle.bee_text.specs.Lines.{IsLine}
use Rattle.sat_front.proofs.Closing.{closed_line, closed_last}
use Rattle.sat_front.proofs.open_lines.cut_line.Goals as goal

pub returns-in-Some : goal.returns-in-Some
returns-in-Some c =
    let cut : c.args.text.now ≡ c.in-Some.line.bytes.now ++ 10 ∷ c.rest.result.now =
    sym c.new-lines.ensures.rest ∙ c.in-Some.ensures.rest ∙ ap (λ (r : List ℕ). c.in-Some.line.bytes.now ++ 10 ∷ r) (sym c.rest.ensures) in
    (c.in-Some.ensures.line, closed_line c.args.text.now c.in-Some.line.bytes.now c.rest.result.now c.in-Some.ensures.line cut)

pub returns-else-is_empty : goal.returns-else-is_empty
returns-else-is_empty c =
    let is : IsLine c.args.text.now = subst IsLine c.new-lines.ensures.rest c.in-None.ensures.none.0 in
    (is, closed_last c.args.text.now is (λ e. true≢false (sym (c.is_empty.ensures ∙ ap (λ (xs : List ℕ). length xs == 0) e) ∙ c.if-is_empty.false)))
