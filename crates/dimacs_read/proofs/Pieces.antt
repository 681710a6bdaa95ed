-- The pieces between the blanks of a line that words make.
use Rattle.std.proofs.Common.{◌≡◌, ℕ, ◌+◌, ◌^◌, ◌<◌, ◌≤◌, true, false, not, ◌||◌, ◌==◌, List, [], ◌∷◌, length, map, codes, drop, get_or, refl, sym, ap, ◌∙◌, arith, length-append}
use Rattle.std.specs.List.{list_all}
use Rattle.std.proofs.lemmas.Bool.{and_parts, and_from, or_parts, not-true, not_from_false}
use Rattle.bee_text.specs.Lines.{lacks}
use Rattle.bee_text.specs.Words.{is_gap, is_word, IsWord, AreWords, ArePieces, join_words, split_blanks}
use Rattle.bee_text.proofs.WordLemmas.{split_blanks-join_words}
use Rattle.order_ints.specs.declared.literal.Lit.{Lit}
use Rattle.order_ints.specs.declared.order_int.MapValue.{MapValue}
use Rattle.order_ints.specs.declared.order_int.MapValue.TheVariants.{Bool as OfBool, Int as OfInt}
use Rattle.order_ints.specs.Place.{ClauseBelow}
use Rattle.ledger_text.specs.Words.{literal_word}
use Rattle.name_map.specs.declared.entries.MapEntry.{MapEntry}
use Rattle.dimacs_out.specs.CompiledText.{value_words, entry_line, clause_words, clause_line}
use Rattle.dimacs_out.proofs.SpelledWords.{value_words_words, clause_words_words, numbers_words, numbers_words_words}
use Rattle.dimacs_read.specs.declared.entry.Kind.{Kind}
use Rattle.dimacs_read.specs.Entries.{kind_word, kind_of, tail_words}
use Rattle.dimacs_read.specs.TextLines.{IsReadableEntry}
use Rattle.dimacs_read.specs.TextSteps.{IsNumbers}

-- a word has no blank
no_blank : (w : List ℕ) → list_all (λ c. not (is_gap c)) w ≡ true → lacks 32 w ≡ true
no_blank [] h = refl
no_blank (b ∷ w) h =
    let parts = and_parts (not (is_gap b)) (list_all (λ c. not (is_gap c)) w) h in
    and_from _ _ (no_space b (not-true _ parts.0)) (no_blank w parts.1)
  where
    no_space : (b : ℕ) → is_gap b ≡ false → not (b == 32) ≡ true
    no_space b e =
        let first = or_parts (b == 32 || b == 9 || b == 10) (b == 13) e in
        let second = or_parts (b == 32 || b == 9) (b == 10) first.0 in
        not_from_false (b == 32) (or_parts (b == 32) (b == 9) second.0).0

word_piece : (w : List ℕ) → IsWord w → lacks 32 w ≡ true
word_piece [] h = refl
word_piece (b ∷ w) h = no_blank (b ∷ w) h

words_pieces : (ws : List (List ℕ)) → AreWords ws → ArePieces ws
words_pieces [] h = refl
words_pieces (w ∷ ws) h =
    let parts = and_parts (is_word w) (list_all is_word ws) h in
    and_from (lacks 32 w) (list_all (lacks 32) ws) (word_piece w parts.0) (words_pieces ws parts.1)

pub pieces_of : (ws : List (List ℕ)) (line : List ℕ) → 0 < length ws → AreWords ws → line ≡ join_words ws → split_blanks line ≡ ws
pieces_of ws line some are e = ap split_blanks e ∙ split_blanks-join_words ws some (words_pieces ws are)

-- the line of a name

value_split : (name : List ℕ) (v : MapValue) → value_words name v ≡ codes "c" ∷ kind_word (kind_of v) ∷ name ∷ tail_words v
value_split name (OfBool a) = refl
value_split name (OfInt a) = refl

value_some : (name : List ℕ) (v : MapValue) → 0 < length (value_words name v)
value_some name (OfBool a) = omega arith
value_some name (OfInt a) = omega arith

pub entry_pieces : (line : List ℕ) (e : MapEntry) → IsReadableEntry e → line ≡ entry_line e → split_blanks line ≡ codes "c" ∷ kind_word (kind_of e.value) ∷ e.name ∷ tail_words e.value
entry_pieces line e h same =
    pieces_of (value_words e.name e.value) line (value_some e.name e.value) (value_words_words (2 ^ 27 + 1) e.name e.value (omega arith) h.name.spelled h.value) same
    ∙ value_split e.name e.value

pub entry_spelled : (line : List ℕ) (pieces rest : List (List ℕ)) (k : Kind) (name : List ℕ) (v : MapValue) → join_words pieces ≡ line → pieces ≡ codes "c" ∷ kind_word k ∷ name ∷ rest
    → kind_of v ≡ k → rest ≡ tail_words v → line ≡ join_words (value_words name v)
entry_spelled line pieces rest k name v joined cut kind tail =
    sym joined ∙ ap join_words (cut ∙ ap (λ j. codes "c" ∷ kind_word j ∷ name ∷ rest) (sym kind) ∙ ap (λ r. codes "c" ∷ kind_word (kind_of v) ∷ name ∷ r) tail ∙ sym (value_split name v))

-- a name's line whose pieces are known has this kind, this name and this tail
pub record EntryParts (e : MapEntry) (k : Kind) (name : List ℕ) (rest : List (List ℕ)) : Type 0 where
  pub kind_is : kind_word (kind_of e.value) ≡ kind_word k
  pub name_is : e.name ≡ name
  pub rest_is : rest ≡ tail_words e.value

pub entry_parts : (line : List ℕ) (pieces rest : List (List ℕ)) (k : Kind) (name : List ℕ) (e : MapEntry) → pieces ≡ split_blanks line → pieces ≡ codes "c" ∷ kind_word k ∷ name ∷ rest
    → IsReadableEntry e → line ≡ entry_line e → EntryParts e k name rest
entry_parts line pieces rest k name e split cut h same =
    let both = sym cut ∙ split ∙ entry_pieces line e h same in
    record {
      kind_is = sym (ap (λ ws. get_or ws 1 []) both);
      name_is = sym (ap (λ ws. get_or ws 2 []) both);
      rest_is = ap (drop 3) both;
    }

-- the line of a clause

clause_some : (c : List Lit) → 0 < length (clause_words c)
clause_some c = omega (arith, length-append (map literal_word c) (codes "0" ∷ []))

pub clause_pieces : (n : ℕ) (line : List ℕ) (c : List Lit) → n ≤ 2 ^ 32 → ClauseBelow n c → line ≡ clause_line c → split_blanks line ≡ clause_words c
clause_pieces n line c bound below same = pieces_of (clause_words c) line (clause_some c) (clause_words_words n c bound below) same

-- the line of the numbers

pub numbers_pieces : (line : List ℕ) (vars count : ℕ) → IsNumbers line vars count → split_blanks line ≡ numbers_words vars count
numbers_pieces line vars count h = pieces_of (numbers_words vars count) line (omega arith) (numbers_words_words vars count h.vars_fit h.count_fits) h.spelled
