use Rattle.std.proofs.Common.{◌≡◌, ◌==◌, ℕ, false, not, length, List, [], ◌∷◌, refl, sym, ◌∙◌}
use Rattle.std.specs.List.{list_all}
use Rattle.std.proofs.lemmas.Bool.{true≢false}
use Rattle.bee_text.specs.Words.{is_gap, is_word}
use Rattle.bee_text.proofs.SearchLemmas.{position_is_none}
use Rattle.bee_text.proofs.words.is_word.Goals as goal

is_word_some : (xs : List ℕ) → (length xs == 0) ≡ false → list_all (λ b. not (is_gap b)) xs ≡ is_word xs
is_word_some [] e = absurd (true≢false e)
is_word_some (x ∷ xs) e = refl

pub returns-then-not-is_empty : goal.returns-then-not-is_empty
returns-then-not-is_empty c =
    position_is_none is_gap c.args.text.now c.find_gap.result c.is_none.result c.find_gap.ensures c.is_none.ensures
    ∙ is_word_some c.args.text.now (sym c.is_empty.ensures ∙ c.if-not-is_empty.true)
