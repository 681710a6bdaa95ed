use Rattle.std.proofs.Common.{◌++◌, List, ℕ, codes, map, ap, ◌∙◌}
use Rattle.std.specs.Fmt.{decimal}
use Rattle.bee_text.specs.Words.{words_behind}
use Rattle.proof_check.proofs.Written.{deletion-text}
use Rattle.proof_check.proofs.write.push_deletion.Goals as goal

pub returns : goal.returns
returns c =
    let number = c.in_ok-push_number.ensures in
    let mark = c.in_ok-push_bytes.ensures in
    let end = c.in_ok-push_bytes-2.ensures in
    let is = map decimal c.args.ids.now in
    end.ok
    ∙ ap (λ (t : List ℕ). t ++ codes " 0\n") (c.in_ok-push_ids.ensures
    ∙ ap (λ (t : List ℕ). t ++ words_behind is) (mark.ok
    ∙ ap (λ (t : List ℕ). t ++ codes " d") (number.ok ∙ ap (λ (n : ℕ). c.args.out.now.items ++ decimal n) c.from.ensures)))
    ∙ deletion-text c.args.out.now.items (decimal c.args.at) is
