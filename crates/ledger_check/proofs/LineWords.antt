-- The pieces of the lines of verdicts and of best solutions' values are their words.
use Rattle.std.proofs.Common.{◌≡◌, ℕ, ◌+◌, ◌<◌, Bool, true, false, not, ◌||◌, ◌==◌, List, [], ◌∷◌, ◌++◌, drop, codes, length, None, refl, ap, ◌∙◌, arith}
use Rattle.std.specs.List.{list_all}
use Rattle.std.proofs.lemmas.Bool.{and_parts, and_from, or_parts, not-true, not_from_false}
use Rattle.bee_text.specs.Lines.{lacks}
use Rattle.bee_text.specs.Words.{IsWord, AreWords, is_gap, is_word, ArePieces, split_blanks}
use Rattle.bee_text.proofs.WordLemmas.{split_blanks-join_words}
use Rattle.answer_document.specs.declared.verdict.Bounds.{Bounds}
use Rattle.answer_document.specs.declared.verdict.Verdict.{Verdict}
use Rattle.answer_document.specs.declared.verdict.Verdict.TheVariants.{Satisfiable, Unsatisfiable, Optimum, Unknown}
use Rattle.answer_document.specs.Verdicts.{bound_words, verdict_words, verdict_text}
use Rattle.answer_document.specs.DocumentText.{best_line}
use Rattle.answer_document.proofs.SpelledWords.{bounds-words, verdict-are-words}
use Rattle.ledger_check.specs.Items.{HaveNumbers, IsVerdictLine}

-- a word has no blank
no-blank : (w : List ℕ) → list_all (λ c. not (is_gap c)) w ≡ true → lacks 32 w ≡ true
no-blank [] h = refl
no-blank (b ∷ w) h =
    let parts = and_parts (not (is_gap b)) (list_all (λ c. not (is_gap c)) w) h in
    and_from _ _ (no-space b (not-true _ parts.0)) (no-blank w parts.1)
  where
    no-space : (b : ℕ) → is_gap b ≡ false → not (b == 32) ≡ true
    no-space b e =
        let first = or_parts (b == 32 || b == 9 || b == 10) (b == 13) e in
        let second = or_parts (b == 32 || b == 9) (b == 10) first.0 in
        not_from_false (b == 32) (or_parts (b == 32) (b == 9) second.0).0

word-piece : (w : List ℕ) → IsWord w → lacks 32 w ≡ true
word-piece [] h = refl
word-piece (b ∷ w) h = no-blank (b ∷ w) h

pub words-pieces : (ws : List (List ℕ)) → AreWords ws → ArePieces ws
words-pieces [] h = refl
words-pieces (w ∷ ws) h =
    let parts = and_parts (is_word w) (list_all is_word ws) h in
    and_from (lacks 32 w) _ (word-piece w parts.0) (words-pieces ws parts.1)

line-are-words : (two : Bool) (v : Verdict) → IsVerdictLine two v → AreWords (verdict_words v)
line-are-words two Satisfiable h = refl
line-are-words two Unsatisfiable h = refl
line-are-words two (Optimum b) h = verdict-are-words (Optimum b) (h.0, h.1) tt
line-are-words two (Unknown n best) h = verdict-are-words (Unknown n None) tt h.0

some-words : (v : Verdict) → 0 < length (verdict_words v)
some-words Satisfiable = omega arith
some-words Unsatisfiable = omega arith
some-words (Optimum b) = omega arith
some-words (Unknown n best) = omega arith

pub pieces-of-verdict : (two : Bool) (line : List ℕ) (v : Verdict) → IsVerdictLine two v → line ≡ verdict_text v → split_blanks line ≡ verdict_words v
pieces-of-verdict two line v h is = ap split_blanks is ∙ split_blanks-join_words (verdict_words v) (some-words v) (words-pieces (verdict_words v) (line-are-words two v h))

pub pieces-of-best : (two : Bool) (line : List ℕ) (b : Bounds) → HaveNumbers two b → line ≡ best_line b → split_blanks line ≡ codes "best" ∷ bound_words b
pieces-of-best two line b h is =
    ap split_blanks is ∙ split_blanks-join_words (codes "best" ∷ bound_words b) (omega arith) (words-pieces (codes "best" ∷ bound_words b) (bounds-words b h.0 h.1))

-- what stands behind equal fronts is equal
pub cancel : (front xs ys : List ℕ) → front ++ xs ≡ front ++ ys → xs ≡ ys
cancel [] xs ys e = e
cancel (b ∷ front) xs ys e = cancel front xs ys (ap (drop 1) e)
