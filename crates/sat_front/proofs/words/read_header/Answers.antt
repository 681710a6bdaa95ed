use Rattle.std.proofs.Common.{◌≡◌, ℕ, List, ◌∷◌, drop, sym, ap, subst, ◌∙◌}
use Rattle.bee_text.specs.Gaps.{words_of}
use Rattle.sat_front.specs.CnfLines.{AreNumbers}
use Rattle.sat_front.proofs.words.read_header.Goals as goal

pub returns-in-None : goal.returns-in-None
returns-in-None c = λ vars h.
    let cut = c.in_ok-second.ensures.words in
    let same : h.behind ≡ words_of c.in_ok-second.numbers.now = ap (drop 2) (sym h.words_are ∙ ap (λ (ws : List (List ℕ)). c.args.first.now ∷ ws) cut) in
    c.in-None.ensures vars (subst (λ (ws : List (List ℕ)). AreNumbers ws vars) same h.numbers)
