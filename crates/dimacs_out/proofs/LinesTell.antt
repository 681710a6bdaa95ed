-- A line of a compiled text tells the entry, the clause, the numbers that it spells.
use Rattle.std.proofs.Common.{◌≡◌, ℕ, ◌^◌, ◌<◌, ◌≤◌, List, [], ◌∷◌, length, map, codes, drop, get_or, refl, ap, arith}
use Rattle.std.specs.List.{list_all}
use Rattle.std.proofs.lemmas.Bool.{and_from}
use Rattle.std.proofs.lemmas.List.{same_from_push}
use Rattle.bee_text.specs.Lines.{lacks, IsLine, AreLines}
use Rattle.bee_text.specs.Words.{join_words, AreWords}
use Rattle.bee_text.proofs.NumberLemmas.{decimal_injective_wide, signed_decimal_injective_wide}
use Rattle.bee_text.proofs.GapLemmas.{join_words_injective}
use Rattle.bumblebee_reader.specs.Names.{IsName}
use Rattle.order_ints.specs.declared.literal.Lit.{Lit}
use Rattle.order_ints.specs.declared.order_int.MapValue.{MapValue}
use Rattle.order_ints.specs.declared.order_int.MapValue.TheVariants.{Bool as OfBool, Int as OfInt}
use Rattle.order_ints.specs.Place.{ClauseBelow, ClausesBelow}
use Rattle.name_map.specs.declared.entries.MapEntry.{MapEntry}
use Rattle.ledger_text.specs.Words.{literal_word}
use Rattle.ledger_text.proofs.Spelled.{atom_word_tells}
use Rattle.dimacs_out.specs.CompiledText.{value_words, entry_line, clause_words, clause_line, numbers_line, ValueBelow}
use Rattle.dimacs_out.proofs.SpelledWords.{value_words_words, clause_words_words, numbers_words, numbers_words_words, words_line}
use Rattle.dimacs_out.proofs.WordsTell.{step_words_tell, literal_words_tell}

-- the words of a name's line tell the name and what it stands for

pub record SameValue (name other : List ℕ) (v w : MapValue) : Type 0 where
  pub names : name ≡ other
  pub values : v ≡ w

value_words_tell : (n m : ℕ) (name other : List ℕ) (v w : MapValue) → n ≤ 2 ^ 32 → m ≤ 2 ^ 32 → ValueBelow n v → ValueBelow m w
    → value_words name v ≡ value_words other w → SameValue name other v w
value_words_tell n m name other (OfBool a) (OfBool b) bn bm p q e = record {
  names = ap (λ ws. get_or ws 2 []) e;
  values = ap OfBool (atom_word_tells n m a b bn bm p q (ap (λ ws. get_or ws 3 []) e));
}
value_words_tell n m name other (OfBool a) (OfInt b) bn bm p q e = absurd (omega (arith, ap (λ ws. length (get_or ws 1 [])) e))
value_words_tell n m name other (OfInt a) (OfBool b) bn bm p q e = absurd (omega (arith, ap (λ ws. length (get_or ws 1 [])) e))
value_words_tell n m name other (OfInt a) (OfInt b) bn bm p q e =
    let base : a.base ≡ b.base = signed_decimal_injective_wide a.base b.base (omega (arith, p.0.sfits)) (omega (arith, q.0.sfits)) (ap (λ ws. get_or ws 3 []) e) in
    let steps : a.steps ≡ b.steps = step_words_tell n m a.steps b.steps bn bm p.1 q.1 p.2 q.2 (ap (drop 4) e) in
    record {
      names = ap (λ ws. get_or ws 2 []) e;
      values = λ i. OfInt (record { base = base i; steps = steps i });
    }

-- an entry that can be written, with variables below n
pub record IsEntry (n : ℕ) (e : MapEntry) : Type 0 where
  pub bound : n ≤ 2 ^ 32
  pub spelled : IsName e.name
  pub below : ValueBelow n e.value

entry_words : (n : ℕ) (e : MapEntry) → IsEntry n e → AreWords (value_words e.name e.value)
entry_words n e h = value_words_words n e.name e.value h.bound h.spelled h.below

pub entry_line_line : (n : ℕ) (e : MapEntry) → IsEntry n e → IsLine (entry_line e)
entry_line_line n e h = words_line (value_words e.name e.value) (entry_words n e h)

pub entry_line_tells : (n m : ℕ) (e f : MapEntry) → IsEntry n e → IsEntry m f → entry_line e ≡ entry_line f → e ≡ f
entry_line_tells n m e f p q same =
    let words = join_words_injective (value_words e.name e.value) (value_words f.name f.value) (entry_words n e p) (entry_words m f q) same in
    let both = value_words_tell n m e.name f.name e.value f.value p.bound q.bound p.below q.below words in
    λ i. record { name = both.names i; value = both.values i }

-- a name's line begins with `c`, a blank, and `b` or `i`
value_begins : (name : List ℕ) (v : MapValue) → (get_or (join_words (value_words name v)) 0 0 ≡ 99) × (get_or (join_words (value_words name v)) 2 0 ≤ 105)
value_begins name (OfBool a) = (refl, omega arith)
value_begins name (OfInt a) = (refl, omega arith)

pub entry_line_begins : (e : MapEntry) → (get_or (entry_line e) 0 0 ≡ 99) × (get_or (entry_line e) 2 0 ≤ 105)
entry_line_begins e = value_begins e.name e.value

-- the line of a clause tells the clause

pub clause_line_line : (n : ℕ) (c : List Lit) → n ≤ 2 ^ 32 → ClauseBelow n c → IsLine (clause_line c)
clause_line_line n c bound below = words_line (clause_words c) (clause_words_words n c bound below)

pub clause_line_tells : (n m : ℕ) (c d : List Lit) → n ≤ 2 ^ 32 → m ≤ 2 ^ 32 → ClauseBelow n c → ClauseBelow m d → clause_line c ≡ clause_line d → c ≡ d
clause_line_tells n m c d bn bm p q e =
    let words = join_words_injective (clause_words c) (clause_words d) (clause_words_words n c bn p) (clause_words_words m d bm q) e in
    literal_words_tell n m c d bn bm p q (same_from_push (map literal_word c) (map literal_word d) (codes "0") (codes "0") words).0

pub clause_lines_tell : (n m : ℕ) (cs ds : List (List Lit)) → n ≤ 2 ^ 32 → m ≤ 2 ^ 32 → ClausesBelow n cs → ClausesBelow m ds
    → map clause_line cs ≡ map clause_line ds → cs ≡ ds
clause_lines_tell n m [] [] bn bm p q e = refl
clause_lines_tell n m [] (d ∷ ds) bn bm p q e = absurd (cc)
clause_lines_tell n m (c ∷ cs) [] bn bm p q e = absurd (cc)
clause_lines_tell n m (c ∷ cs) (d ∷ ds) bn bm p q e =
    let first = clause_line_tells n m c d bn bm p.0 q.0 (ap (λ ws. get_or ws 0 []) e) in
    let rest = clause_lines_tell n m cs ds bn bm p.1 q.1 (ap (drop 1) e) in
    λ i. first i ∷ rest i

pub clause_lines_lines : (n : ℕ) (cs : List (List Lit)) → n ≤ 2 ^ 32 → ClausesBelow n cs → AreLines (map clause_line cs)
clause_lines_lines n [] bound below = refl
clause_lines_lines n (c ∷ cs) bound below =
    and_from (lacks 10 (clause_line c)) (list_all (lacks 10) (map clause_line cs)) (clause_line_line n c bound below.0) (clause_lines_lines n cs bound below.1)

-- the line of the numbers tells them

pub numbers_line_line : (vars count : ℕ) → vars < 2 ^ 32 → count < 2 ^ 64 → IsLine (numbers_line vars count)
numbers_line_line vars count vs cs = words_line (numbers_words vars count) (numbers_words_words vars count vs cs)

pub record SameNumbers (v w c d : ℕ) : Type 0 where
  pub vars_same : v ≡ w
  pub counts_same : c ≡ d

pub numbers_line_tells : (v w c d : ℕ) → v < 2 ^ 32 → w < 2 ^ 32 → c < 2 ^ 64 → d < 2 ^ 64 → numbers_line v c ≡ numbers_line w d → SameNumbers v w c d
numbers_line_tells v w c d vs ws cs ds e =
    let words = join_words_injective (numbers_words v c) (numbers_words w d) (numbers_words_words v c vs cs) (numbers_words_words w d ws ds) e in
    record {
      vars_same = decimal_injective_wide v w (omega arith) (omega arith) (ap (λ ws. get_or ws 2 []) words);
      counts_same = decimal_injective_wide c d (omega arith) (omega arith) (ap (λ ws. get_or ws 3 []) words);
    }
