use Rattle.std.proofs.Common.{List, ℕ, ◌++◌, codes, map, ap, ◌∙◌}
use Rattle.bee_text.specs.Words.{words_behind}
use Rattle.ledger_text.specs.Words.{literal_word}
use Rattle.sat_mode.specs.Texts.{literals_from}
use Rattle.sat_mode.proofs.Written.{values-written}
use Rattle.sat_mode.proofs.writing.write_values.Goals as goal

pub returns : goal.returns
returns c =
    let ws = map literal_word (literals_from 1 c.args.values.now) in
    c.in_ok-push_bytes-2.ensures.ok
    ∙ ap (λ (t : List ℕ). t ++ codes " 0\n") (c.in_ok-push_values.ensures
    ∙ ap (λ (t : List ℕ). t ++ words_behind ws) (c.in_ok-push_bytes.ensures.ok ∙ ap (λ (t : List ℕ). t ++ codes "s SATISFIABLE\nv") c.new-out.ensures.items))
    ∙ values-written ws
