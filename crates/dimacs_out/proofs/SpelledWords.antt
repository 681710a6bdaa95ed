-- What a compiled text is made of are words, and its lines are lines.
use Rattle.std.proofs.Common.{◌≡◌, ℕ, ◌^◌, ◌<◌, ◌≤◌, true, not, ◌&&◌, List, [], ◌∷◌, ◌++◌, map, codes, refl, ◌∙◌, arith, rules}
use Rattle.std.specs.List.{list_all}
use Rattle.std.specs.Fmt.{decimal, signed_decimal}
use Rattle.std.proofs.lemmas.Bool.{and_parts, and_from, or_left, false≢true}
use Rattle.std.proofs.lemmas.Bool.Decides.{nat_tests}
use Rattle.std.proofs.lemmas.List.Folds.{list_all-append}
use Rattle.bee_text.specs.Lines.{IsLine}
use Rattle.bee_text.specs.Words.{is_gap, is_word, IsWord, AreWords, join_words}
use Rattle.bee_text.proofs.NumberLemmas.{decimal_word, signed_decimal_word}
use Rattle.bee_text.proofs.WordLemmas.{join_words_line}
use Rattle.bee_text.proofs.GapLemmas.{solid, words_lines}
use Rattle.bumblebee_reader.specs.Bytes.{is_letter, is_digit, is_word as is_name_byte}
use Rattle.bumblebee_reader.specs.Names.{IsName}
use Rattle.order_ints.specs.declared.literal.Lit.{Lit}
use Rattle.order_ints.specs.declared.atom.Atom.{Atom}
use Rattle.order_ints.specs.declared.order_int.MapValue.{MapValue}
use Rattle.order_ints.specs.declared.order_int.MapValue.TheVariants.{Bool as OfBool, Int as OfInt}
use Rattle.order_ints.specs.Place.{AtomBelow, StepsBelow, ClauseBelow}
use Rattle.ledger_text.specs.Words.{literal_word, atom_word}
use Rattle.ledger_text.proofs.Spelled.{literal_word_word, atom_word_word}
use Rattle.dimacs_out.specs.CompiledText.{step_word, value_words, clause_words, WeightsCount, ValueBelow}

word_append : (v bs : List ℕ) → IsWord v → solid bs ≡ true → IsWord (v ++ bs)
word_append [] bs h k = absurd (false≢true h)
word_append (b ∷ v) bs h k = list_all-append (λ c. not (is_gap c)) (b ∷ v) bs ∙ and_from (solid (b ∷ v)) (solid bs) h k

word_solid : (w : List ℕ) → IsWord w → solid w ≡ true
word_solid [] h = refl
word_solid (b ∷ w) h = h

step_word_word : (n : ℕ) (s : Atom × ℕ) → n ≤ 2 ^ 32 → AtomBelow n s.0 → s.1 < 2 ^ 128 → IsWord (step_word s)
step_word_word n s bound below weight =
    word_append (atom_word s.0) (58 ∷ decimal s.1) (atom_word_word n s.0 bound below) (word_solid (decimal s.1) (decimal_word s.1 (omega arith)))

steps_words : (n : ℕ) (steps : List (Atom × ℕ)) → n ≤ 2 ^ 32 → StepsBelow n steps → WeightsCount steps → AreWords (map step_word steps)
steps_words n [] bound below weights = refl
steps_words n (s ∷ steps) bound below weights =
    and_from (is_word (step_word s)) (list_all is_word (map step_word steps))
    (step_word_word n s bound below.0 weights.1) (steps_words n steps bound below.1 weights.2)

-- a name is a word
name_word : (name : List ℕ) → IsName name → IsWord name
name_word [] h = absurd (search (rules, h))
name_word (b ∷ bs) h =
    let parts = and_parts (is_letter b) (list_all is_name_byte bs) h in
    and_from (not (is_gap b)) (solid bs) (byte b (or_left (is_letter b) (is_digit b) parts.0)) (bytes bs parts.1)
  where
    high_solid : (b : ℕ) → 48 ≤ b → not (is_gap b) ≡ true
    high_solid b low = grind (arith, nat_tests)

    byte : (b : ℕ) → is_name_byte b ≡ true → not (is_gap b) ≡ true
    byte b h = high_solid b (grind (arith, nat_tests))

    bytes : (bs : List ℕ) → list_all is_name_byte bs ≡ true → solid bs ≡ true
    bytes [] h = refl
    bytes (b ∷ bs) h =
        let parts = and_parts (is_name_byte b) (list_all is_name_byte bs) h in
        and_from (not (is_gap b)) (solid bs) (byte b parts.0) (bytes bs parts.1)

pub value_words_words : (n : ℕ) (name : List ℕ) (v : MapValue) → n ≤ 2 ^ 32 → IsName name → ValueBelow n v → AreWords (value_words name v)
value_words_words n name (OfBool a) bound is_name below =
    and_from (is_word name) (is_word (atom_word a) && true) (name_word name is_name)
    (and_from (is_word (atom_word a)) true (atom_word_word n a bound below) refl)
value_words_words n name (OfInt a) bound is_name below =
    and_from (is_word name) (is_word (signed_decimal a.base) && list_all is_word (map step_word a.steps)) (name_word name is_name)
    (and_from (is_word (signed_decimal a.base)) (list_all is_word (map step_word a.steps))
    (signed_decimal_word a.base (omega (arith, below.0.sfits))) (steps_words n a.steps bound below.1 below.2))

pub clause_literals_words : (n : ℕ) (c : List Lit) → n ≤ 2 ^ 32 → ClauseBelow n c → AreWords (map literal_word c)
clause_literals_words n [] bound below = refl
clause_literals_words n (l ∷ c) bound below =
    and_from (is_word (literal_word l)) (list_all is_word (map literal_word c)) (literal_word_word n l bound below.0) (clause_literals_words n c bound below.1)

pub clause_words_words : (n : ℕ) (c : List Lit) → n ≤ 2 ^ 32 → ClauseBelow n c → AreWords (clause_words c)
clause_words_words n c bound below =
    list_all-append is_word (map literal_word c) (codes "0" ∷ []) ∙ and_from (list_all is_word (map literal_word c)) true (clause_literals_words n c bound below) refl

abbrev pub numbers_words : ℕ → ℕ → List (List ℕ)
numbers_words vars count = codes "p" ∷ codes "cnf" ∷ decimal vars ∷ decimal count ∷ []

pub numbers_words_words : (vars count : ℕ) → vars < 2 ^ 32 → count < 2 ^ 64 → AreWords (numbers_words vars count)
numbers_words_words vars count vs cs =
    and_from (is_word (decimal vars)) (is_word (decimal count) && true) (decimal_word vars (omega arith))
    (and_from (is_word (decimal count)) true (decimal_word count (omega arith)) refl)

-- joined words are a line
pub words_line : (ws : List (List ℕ)) → AreWords ws → IsLine (join_words ws)
words_line ws h = join_words_line ws (words_lines ws h)
