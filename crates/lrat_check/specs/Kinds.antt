-- Which texts are proofs with hints: the first line that says something has two words `0`, or `d` as its second word.
use Rattle.std.specs.Prelude.{ℕ, Bool, true, false, ◌||◌, List, [], ◌∷◌, codes, drop, if◌then◌else◌}
use Rattle.std.specs.Str.{bytes_eq}
use Rattle.bee_text.specs.Gaps.{words_of}
use Rattle.bee_text.specs.Lines.{lines_of}
use Rattle.sat_front.specs.Closed.{closed}
use Rattle.sat_front.specs.CnfLines.{is_skipped}

abbrev pub has_zero : List (List ℕ) → Bool
has_zero [] = false
has_zero (w ∷ ws) = if bytes_eq w (codes "0") then true else has_zero ws

abbrev pub has_two_zeros : List (List ℕ) → Bool
has_two_zeros [] = false
has_two_zeros (w ∷ ws) = if bytes_eq w (codes "0") then has_zero ws else has_two_zeros ws

abbrev pub begins_deletion : List (List ℕ) → Bool
begins_deletion [] = false
begins_deletion (w ∷ ws) = bytes_eq w (codes "d")

-- whether words are those of a line with hints
abbrev pub is_hinted : List (List ℕ) → Bool
is_hinted words = begins_deletion (drop 1 words) || has_two_zeros words

-- of the first line that says something
abbrev pub are_hinted : List (List ℕ) → Bool
are_hinted [] = false
are_hinted (l ∷ ls) = if is_skipped (words_of l) then are_hinted ls else is_hinted (words_of l)

abbrev pub is_lrat_text : List ℕ → Bool
is_lrat_text text = are_hinted (lines_of (closed text))
