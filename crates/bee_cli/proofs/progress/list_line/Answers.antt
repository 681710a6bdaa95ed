use Rattle.std.proofs.Common.{ℕ, List, [], ◌∷◌, ◌++◌, codes, append_assoc, sym, ap, ◌∙◌}
use Rattle.std.specs.Fmt.{decimal}
use Rattle.bee_cli.proofs.progress.list_line.Goals as goal

pub returns : goal.returns
returns c =
    let told = codes "bee: " ++ decimal c.args.count ++ codes " solutions, " in
    c.in_ok-push_counted-2.ensures
    ∙ ap (λ (front : List ℕ). front ++ decimal c.args.learned ++ (codes " clauses learned" ++ 10 ∷ []))
    (c.in_ok-push_counted.ensures
    ∙ ap (λ (front : List ℕ). front ++ decimal c.args.count ++ codes " solutions, ")
    (c.in_ok-push_bytes.ensures.ok ∙ ap (λ (front : List ℕ). front ++ codes "bee: ") c.new-out.ensures.items))
    ∙ sym (append_assoc (told ++ decimal c.args.learned) (codes " clauses learned") (10 ∷ []))
