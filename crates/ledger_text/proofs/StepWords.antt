-- The words of a line: that a blank stands in none, and what tells them.
use Rattle.std.proofs.Common.{◌≡◌, ℕ, ◌+◌, ◌^◌, ◌<◌, Bool, true, false, not, ◌||◌, ◌==◌, List, [], ◌∷◌, ◌++◌, drop, get_or, codes, length, refl, sym, ap, ◌∙◌, arith}
use Rattle.std.specs.List.{list_all}
use Rattle.std.specs.Fmt.{decimal}
use Rattle.std.proofs.lemmas.Bool.{and_parts, and_from, or_parts, not-true, not_from_false}
use Rattle.bee_text.specs.Lines.{lacks}
use Rattle.bee_text.specs.Words.{IsWord, is_gap, ArePieces, split_blanks}
use Rattle.bee_text.proofs.NumberLemmas.{decimal_word, decimal_unsigned}
use Rattle.bee_text.proofs.WordLemmas.{split_blanks-join_words}
use Rattle.order_ints.specs.declared.atom.Atom.{Atom}
use Rattle.core_forms.specs.declared.equation.Rule.{Rule}
use Rattle.core_forms.specs.declared.equation.Rule.TheVariants.{Order, Form, Table}
use Rattle.core_forms.specs.declared.equation.Equation.{Equation}
use Rattle.ledger_text.specs.declared.line.Line.{Line}
use Rattle.ledger_text.specs.declared.line.Line.TheVariants.{Equate, Split, Encode}
use Rattle.ledger_text.specs.Words.{atom_word, IsReadableAtom}
use Rattle.ledger_text.specs.Steps.{rule_word, equation_words, step_words, step_text, IsReadableStep}
use Rattle.ledger_text.proofs.Spelled.{signed_word, atom_word_word}

-- a word behind a minus sign is that of a negation
pub minus_sign : (word : List ℕ) (positive : Bool) (v : ℕ) → v < 10 ^ 64 → word ≡ 45 ∷ drop 1 word → word ≡ signed_word positive v
    → (positive ≡ false) × (drop 1 word ≡ decimal v)
minus_sign word true v small m e = absurd (decimal_unsigned v (drop 1 word) small (sym e ∙ m))
minus_sign word false v small m e = (refl, ap (drop 1) e)

-- a word has no blank
no_blank : (w : List ℕ) → list_all (λ c. not (is_gap c)) w ≡ true → lacks 32 w ≡ true
no_blank [] h = refl
no_blank (b ∷ w) h =
    let parts = and_parts (not (is_gap b)) (list_all (λ c. not (is_gap c)) w) h in
    and_from _ _ (no_space b (not-true _ parts.0)) (no_blank w parts.1)
  where
    no_space : (b : ℕ) → is_gap b ≡ false → not (b == 32) ≡ true
    no_space b e =
        let first = or_parts (b == 32 || b == 9 || b == 10) (b == 13) e in
        let second = or_parts (b == 32 || b == 9) (b == 10) first.0 in
        not_from_false (b == 32) (or_parts (b == 32) (b == 9) second.0).0

word_piece : (w : List ℕ) → IsWord w → lacks 32 w ≡ true
word_piece [] h = refl
word_piece (b ∷ w) h = no_blank (b ∷ w) h

rule_piece : (r : Rule) → lacks 32 (rule_word r) ≡ true
rule_piece Order = refl
rule_piece Form = refl
rule_piece Table = refl

number_piece : (n : ℕ) → n < 2 ^ 64 → lacks 32 (decimal n) ≡ true
number_piece n small = word_piece (decimal n) (decimal_word n (omega arith))

atom_piece : (a : Atom) → IsReadableAtom a → lacks 32 (atom_word a) ≡ true
atom_piece a h = word_piece (atom_word a) (atom_word_word (2 ^ 27 + 1) a (omega arith) h)

step_pieces : (line : Line) → IsReadableStep line → ArePieces (step_words line)
step_pieces (Equate id e) h =
    and_from (lacks 32 (decimal id)) _ (number_piece id h.0)
    (and_from (lacks 32 (rule_word e.rule)) _ (rule_piece e.rule)
    (and_from (lacks 32 (atom_word e.a)) _ (atom_piece e.a h.1) (and_from (lacks 32 (atom_word e.b)) true (atom_piece e.b h.2) refl)))
step_pieces (Split id) h = and_from (lacks 32 (decimal id)) true (number_piece id h) refl
step_pieces (Encode id) h = and_from (lacks 32 (decimal id)) true (number_piece id h) refl

some_words : (line : Line) → 0 < length (step_words line)
some_words (Equate id e) = omega arith
some_words (Split id) = omega arith
some_words (Encode id) = omega arith

-- the pieces of a line's text are its words
pub pieces_of_step : (text : List ℕ) (line : Line) → IsReadableStep line → text ≡ step_text line → split_blanks text ≡ step_words line
pieces_of_step text line h e = ap split_blanks e ∙ split_blanks-join_words (step_words line) (some_words line) (step_pieces line h)

-- what stands behind the word of an equation
pub record IsEquate (line : Line) (rest : List (List ℕ)) (word : List ℕ) (behind : List (List ℕ)) : Type 0 where
  pub id : ℕ
  pub e : Equation
  pub is : line ≡ Equate id e
  pub id_is : word ≡ decimal id
  pub e_is : behind ≡ equation_words e ++ rest

abbrev second_byte : (ws : List (List ℕ)) → ℕ
second_byte ws = get_or (get_or ws 0 []) 1 0

other_byte : (a b n : ℕ) → a ≡ 113 → b ≡ n → a ≡ b → n < 113 → ⊥
other_byte a b n p q e less = omega arith

pub equate_words : (line : Line) (rest : List (List ℕ)) (word : List ℕ) (behind : List (List ℕ)) → codes "eq" ∷ word ∷ behind ≡ step_words line ++ rest
    → IsEquate line rest word behind
equate_words (Equate id e) rest word behind h = record {
  id = id;
  e = e;
  is = refl;
  id_is = ap (λ ws. get_or ws 1 []) h;
  e_is = ap (drop 2) h;
}
equate_words (Split id) rest word behind h = absurd (other_byte _ _ 112 refl refl (ap second_byte h) (omega arith))
equate_words (Encode id) rest word behind h = absurd (other_byte _ _ 110 refl refl (ap second_byte h) (omega arith))
