-- The words of literals and atoms: their bytes, that they are words, and that a word tells what it spells.
use Rattle.std.proofs.Common.{◌≡◌, ℕ, ◌^◌, ◌<◌, ◌≤◌, Bool, true, false, not, ◌||◌, ◌==◌, List, [], ◌∷◌, drop, get_or, cond, refl, sym, ap, subst, ◌∙◌, ⊎_elim, arith, leb}
use Rattle.std.specs.List.{list_all}
use Rattle.std.specs.Char.{is_ascii_digit}
use Rattle.std.specs.Fmt.{decimal}
use Rattle.std.proofs.lemmas.Bool.{and_parts, and_from, or_cases, or_right, leb-true, eqb-true, false≢true}
use Rattle.std.proofs.lemmas.Bool.Decides.{nat_tests}
use Rattle.bee_text.specs.Lines.{lacks}
use Rattle.bee_text.specs.Words.{is_gap, IsWord}
use Rattle.bee_text.proofs.NumberLemmas.{decimal_word, decimal_digits, decimal_injective_wide, decimal_unsigned}
use Rattle.bee_text.proofs.GapLemmas.{solid}
use Rattle.order_ints.specs.declared.literal.Lit.{Lit}
use Rattle.order_ints.specs.declared.atom.Atom.{Atom}
use Rattle.order_ints.specs.declared.atom.Atom.TheVariants.{True, False, Of}
use Rattle.order_ints.specs.Place.{LitBelow, AtomBelow}
use Rattle.ledger_text.specs.Words.{literal_word, atom_word}

-- a byte of a number with its sign
abbrev pub is_signed_digit : ℕ → Bool
is_signed_digit b = b == 45 || is_ascii_digit b

-- the word of the literal that has this sign and this variable
abbrev pub signed_word : Bool → ℕ → List ℕ
signed_word positive v = cond positive (decimal v) (45 ∷ decimal v)

signed_digit_apart : (b : ℕ) → is_signed_digit b ≡ true → (not (is_gap b) ≡ true) × (not (b == 58) ≡ true)
signed_digit_apart b h = ⊎_elim
    (λ (e : (b == 45) ≡ true). let is : b ≡ 45 = eqb-true b 45 e in rw is (refl, refl))
    (λ (e : is_ascii_digit b ≡ true).
    let range = and_parts (leb 48 b) (leb b 57) e in
    let low : 48 ≤ b = leb-true 48 b range.0 in
    let high : b ≤ 57 = leb-true b 57 range.1 in
    (solid_byte b low, no_colon b high))
    (or_cases (b == 45) (is_ascii_digit b) h)
  where
    solid_byte : (d : ℕ) → 48 ≤ d → not (is_gap d) ≡ true
    solid_byte d low = grind (arith, nat_tests)

    no_colon : (d : ℕ) → d ≤ 57 → not (d == 58) ≡ true
    no_colon d high = grind (arith, nat_tests)

digits_signed : (ds : List ℕ) → list_all is_ascii_digit ds ≡ true → list_all is_signed_digit ds ≡ true
digits_signed [] h = refl
digits_signed (d ∷ ds) h =
    let parts = and_parts (is_ascii_digit d) (list_all is_ascii_digit ds) h in
    and_from (is_signed_digit d) (list_all is_signed_digit ds) (or_right (d == 45) (is_ascii_digit d) parts.0) (digits_signed ds parts.1)

-- a literal is spelled by digits and a sign alone
signed_word_bytes : (positive : Bool) (v : ℕ) → v < 10 ^ 64 → list_all is_signed_digit (signed_word positive v) ≡ true
signed_word_bytes true v small = digits_signed (decimal v) (decimal_digits v small)
signed_word_bytes false v small = digits_signed (decimal v) (decimal_digits v small)

pub literal_bytes : (l : Lit) → l.var < 10 ^ 64 → list_all is_signed_digit (literal_word l) ≡ true
literal_bytes l small = signed_word_bytes l.positive l.var small

signed_no_colon : (bs : List ℕ) → list_all is_signed_digit bs ≡ true → lacks 58 bs ≡ true
signed_no_colon [] h = refl
signed_no_colon (b ∷ bs) h =
    let parts = and_parts (is_signed_digit b) (list_all is_signed_digit bs) h in
    and_from (not (b == 58)) (lacks 58 bs) (signed_digit_apart b parts.0).1 (signed_no_colon bs parts.1)

-- an atom is spelled without a colon
pub atom_no_colon : (n : ℕ) (a : Atom) → n ≤ 2 ^ 32 → AtomBelow n a → lacks 58 (atom_word a) ≡ true
atom_no_colon n True bound below = refl
atom_no_colon n False bound below = refl
atom_no_colon n (Of l) bound below = signed_no_colon (literal_word l) (literal_bytes l (omega (arith, below.1)))

signed_word_word : (positive : Bool) (v : ℕ) → v < 10 ^ 64 → IsWord (signed_word positive v)
signed_word_word true v small = decimal_word v small
signed_word_word false v small = behind 45 (decimal v) refl (decimal_word v small)
  where
    behind : (b : ℕ) (bs : List ℕ) → not (is_gap b) ≡ true → IsWord bs → IsWord (b ∷ bs)
    behind b [] first h = absurd (false≢true h)
    behind b (c ∷ bs) first h = and_from (not (is_gap b)) (solid (c ∷ bs)) first h

pub literal_word_word : (n : ℕ) (l : Lit) → n ≤ 2 ^ 32 → LitBelow n l → IsWord (literal_word l)
literal_word_word n l bound below = signed_word_word l.positive l.var (omega (arith, below.1))

pub atom_word_word : (n : ℕ) (a : Atom) → n ≤ 2 ^ 32 → AtomBelow n a → IsWord (atom_word a)
atom_word_word n True bound below = refl
atom_word_word n False bound below = refl
atom_word_word n (Of l) bound below = literal_word_word n l bound below

signed_word_tells : (p q : Bool) (v w : ℕ) → v < 10 ^ 64 → w < 10 ^ 64 → signed_word p v ≡ signed_word q w → (p ≡ q) × (v ≡ w)
signed_word_tells true true v w sv sw e = (refl, decimal_injective_wide v w sv sw e)
signed_word_tells true false v w sv sw e = absurd (decimal_unsigned v (decimal w) sv e)
signed_word_tells false true v w sv sw e = absurd (decimal_unsigned w (decimal v) sw (sym e))
signed_word_tells false false v w sv sw e = (refl, decimal_injective_wide v w sv sw (ap (drop 1) e))

pub literal_word_tells : (n m : ℕ) (l k : Lit) → n ≤ 2 ^ 32 → m ≤ 2 ^ 32 → LitBelow n l → LitBelow m k → literal_word l ≡ literal_word k → l ≡ k
literal_word_tells n m l k bn bm p q e =
    let both = signed_word_tells l.positive k.positive l.var k.var (omega (arith, p.1)) (omega (arith, q.1)) e in
    λ i. record { var = both.1 i; positive = both.0 i }

-- a literal is none of the constants, whose letters are no digits
no_constant : (b : ℕ) (l : Lit) → l.var < 10 ^ 64 → is_signed_digit b ≡ false → b ∷ [] ≡ literal_word l → ⊥
no_constant b l small letter e =
    let all = subst (λ t. list_all is_signed_digit t ≡ true) (sym e) (literal_bytes l small) in
    let first = and_parts (is_signed_digit b) true all in
    false≢true (sym letter ∙ first.0)

pub atom_word_tells : (n m : ℕ) (a b : Atom) → n ≤ 2 ^ 32 → m ≤ 2 ^ 32 → AtomBelow n a → AtomBelow m b → atom_word a ≡ atom_word b → a ≡ b
atom_word_tells n m True True bn bm p q e = refl
atom_word_tells n m False False bn bm p q e = refl
atom_word_tells n m True False bn bm p q e = absurd (omega (arith, ap (λ t. get_or t 0 0) e))
atom_word_tells n m False True bn bm p q e = absurd (omega (arith, ap (λ t. get_or t 0 0) e))
atom_word_tells n m True (Of k) bn bm p q e = absurd (no_constant 84 k (omega (arith, q.1)) refl e)
atom_word_tells n m False (Of k) bn bm p q e = absurd (no_constant 70 k (omega (arith, q.1)) refl e)
atom_word_tells n m (Of l) True bn bm p q e = absurd (no_constant 84 l (omega (arith, p.1)) refl (sym e))
atom_word_tells n m (Of l) False bn bm p q e = absurd (no_constant 70 l (omega (arith, p.1)) refl (sym e))
atom_word_tells n m (Of l) (Of k) bn bm p q e = ap Of (literal_word_tells n m l k bn bm p q e)
