use Rattle.std.proofs.Common.{◌++◌, List, ℕ, codes, map, ap, ◌∙◌}
use Rattle.std.specs.Fmt.{decimal, signed_decimal}
use Rattle.bee_text.specs.Words.{words_behind}
use Rattle.proof_check.specs.Lines.{literal_word}
use Rattle.proof_check.proofs.Written.{addition-text}
use Rattle.proof_check.proofs.write.push_addition.Goals as goal

pub returns : goal.returns
returns c =
    let number = c.in_ok-push_number.ensures in
    let zero = c.in_ok-push_bytes.ensures in
    let end = c.in_ok-push_bytes-2.ensures in
    let ls = map literal_word c.args.lits.now in
    let hs = map signed_decimal c.args.hints.now in
    end.ok
    ∙ ap (λ (t : List ℕ). t ++ codes " 0\n") (c.in_ok-push_hints.ensures
    ∙ ap (λ (t : List ℕ). t ++ words_behind hs) (zero.ok
    ∙ ap (λ (t : List ℕ). t ++ codes " 0") (c.in_ok-push_literals.ensures
    ∙ ap (λ (t : List ℕ). t ++ words_behind ls) (number.ok ∙ ap (λ (n : ℕ). c.args.out.now.items ++ decimal n) c.from.ensures))))
    ∙ addition-text c.args.out.now.items (decimal c.args.id) ls hs
