-- The lines of a derivation tell what they spell.
use Rattle.std.proofs.Common.{◌≡◌, ℕ, ◌+◌, ◌<◌, ◌≤◌, ◌^◌, Bool, true, false, List, [], ◌∷◌, ◌++◌, map, get_or, drop, codes, cond, refl, sym, ap, ◌∙◌, ℤ, pos, negsuc, arith}
use Rattle.std.specs.List.{list_all}
use Rattle.std.specs.Char.{is_ascii_digit}
use Rattle.std.specs.Fmt.{decimal, signed_decimal}
use Rattle.std.proofs.lemmas.Bool.{and_parts, false≢true}
use Rattle.std.proofs.lemmas.Bool.Decides.{nat_tests}
use Rattle.std.proofs.lemmas.Int.{ints}
use Rattle.bee_text.specs.Words.{IsWord, words_behind}
use Rattle.bee_text.proofs.NumberLemmas.{decimal_word, decimal_digits, decimal_leads_by_zero, decimal_injective_wide}
use Rattle.bee_text.proofs.GapLemmas.{join_words_injective}
use Rattle.order_ints.specs.declared.literal.Lit.{Lit}
use Rattle.ledger_text.proofs.Spelled.{literal_word_tells}
use Rattle.proof_check.specs.declared.line.ProofLine.{ProofLine}
use Rattle.proof_check.specs.declared.line.ProofLine.TheVariants.{Add, Delete}
use Rattle.proof_check.specs.Lines.{literal_word, list_words, line_words, line_bytes, Each, IsReadableLit, IsReadableId, IsReadableHint, IsReadable}
use Rattle.answer_document.specs.Valid.{AreReadableLines}
use Rattle.answer_document.proofs.SpelledWords.{line-are-words}
use Rattle.answer_document.proofs.LinesTell.{signed-tells}

-- a number begins with a digit
begins-with-digit : (n : ℕ) (behind : List ℕ) → n < 10 ^ 64 → get_or (decimal n ++ behind) 0 0 ≤ 57
begins-with-digit n behind small = by (decimal n) (decimal_word n small) (decimal_digits n small)
  where
    digit : (b : ℕ) → is_ascii_digit b ≡ true → b ≤ 57
    digit b h = grind (arith, nat_tests)

    by : (w : List ℕ) → IsWord w → list_all is_ascii_digit w ≡ true → get_or (w ++ behind) 0 0 ≤ 57
    by [] some h = absurd (false≢true some)
    by (b ∷ w) some h = digit b (and_parts (is_ascii_digit b) (list_all is_ascii_digit w) h).0

-- no word of a list is 0
id-some : (n : ℕ) → IsReadableId n → decimal n ≡ codes "0" → ⊥
id-some n h e = let zero : n ≡ 0 = decimal_leads_by_zero n (omega (arith, h.1)) (ap (λ (w : List ℕ). get_or w 0 0) e) in omega (arith, zero, h.0)

hint-some : (z : ℤ) → IsReadableHint z → signed_decimal z ≡ codes "0" → ⊥
hint-some (pos n) h e = id-some n (h.1, omega (arith, ints, h.0)) e
hint-some (negsuc n) h e = let first : 45 ≡ 48 = ap (λ (w : List ℕ). get_or w 0 0) e in omega (arith, first)

literal-some : (l : Lit) → IsReadableLit l → literal_word l ≡ codes "0" → ⊥
literal-some l h e = by l.positive e
  where
    by : (p : Bool) → cond p (decimal l.var) (45 ∷ decimal l.var) ≡ codes "0" → ⊥
    by true e = id-some l.var (h.0, omega (arith, h.1)) e
    by false e = let first : 45 ≡ 48 = ap (λ (w : List ℕ). get_or w 0 0) e in omega (arith, first)

-- and no literal is the mark of a deletion
literal-low : (l : Lit) → IsReadableLit l → get_or (literal_word l ++ []) 0 0 ≤ 57
literal-low l h = by l.positive
  where
    by : (p : Bool) → get_or (cond p (decimal l.var) (45 ∷ decimal l.var) ++ []) 0 0 ≤ 57
    by true = begins-with-digit l.var [] (omega (arith, h.1))
    by false = omega arith

no-mark : (lits : List Lit) (behind rest : List (List ℕ)) → Each IsReadableLit lits → list_words literal_word lits behind ≡ codes "d" ∷ rest → ⊥
no-mark [] behind rest h e = let first : 48 ≡ 100 = ap (λ ws. get_or (get_or ws 0 []) 0 0) e in omega (arith, first)
no-mark (l ∷ lits) behind rest h e =
    let first : get_or (literal_word l ++ []) 0 0 ≡ 100 = ap (λ ws. get_or (get_or ws 0 [] ++ []) 0 0) e in omega (arith, first, literal-low l h.0)

-- a list that ends with 0 tells its members and what stands behind it
lists-tell : {X : Type 0} (word : X → List ℕ) (P : X → Type 0) → ((x y : X) → P x → P y → word x ≡ word y → x ≡ y) → ((x : X) → P x → word x ≡ codes "0" → ⊥) → (xs ys : List X) (vs ws : List (List ℕ))
    → Each P xs → Each P ys → list_words word xs vs ≡ list_words word ys ws → (xs ≡ ys) × (vs ≡ ws)
lists-tell word P tells some [] [] vs ws p q e = (refl, ap (drop 1) e)
lists-tell word P tells some [] (y ∷ ys) vs ws p q e = absurd (some y q.0 (sym (ap (λ ls. get_or ls 0 []) e)))
lists-tell word P tells some (x ∷ xs) [] vs ws p q e = absurd (some x p.0 (ap (λ ls. get_or ls 0 []) e))
lists-tell word P tells some (x ∷ xs) (y ∷ ys) vs ws p q e =
    let first = tells x y p.0 q.0 (ap (λ ls. get_or ls 0 []) e) in
    let rest = lists-tell word P tells some xs ys vs ws p.1 q.1 (ap (drop 1) e) in
    (λ i. first i ∷ rest.0 i, rest.1)

id-tells : (m n : ℕ) → IsReadableId m → IsReadableId n → decimal m ≡ decimal n → m ≡ n
id-tells m n p q e = decimal_injective_wide m n (omega (arith, p.1)) (omega (arith, q.1)) e

literal-tells : (l m : Lit) → IsReadableLit l → IsReadableLit m → literal_word l ≡ literal_word m → l ≡ m
literal-tells l m p q e = literal_word_tells (2 ^ 27 + 1) (2 ^ 27 + 1) l m (omega arith) (omega arith) p q e

hint-tells : (y z : ℤ) → IsReadableHint y → IsReadableHint z → signed_decimal y ≡ signed_decimal z → y ≡ z
hint-tells y z p q e = signed-tells y z p.0 q.0 e

words-tell : (l m : ProofLine) → IsReadable l → IsReadable m → line_words l ≡ line_words m → l ≡ m
words-tell (Add id lits hints) (Add n ls hs) p q e =
    let head : id ≡ n = id-tells id n p.0 q.0 (ap (λ (ws : List (List ℕ)). get_or ws 0 []) e) in
    let first = lists-tell literal_word IsReadableLit literal-tells literal-some lits ls _ _ p.1 q.1 (ap (drop 1) e) in
    let second = lists-tell signed_decimal IsReadableHint hint-tells hint-some hints hs [] [] p.2 q.2 first.1 in
    λ i. Add (head i) (first.0 i) (second.0 i)
words-tell (Add id lits hints) (Delete at ids) p q e = absurd (no-mark lits (list_words signed_decimal hints []) (list_words decimal ids []) p.1 (ap (drop 1) e))
words-tell (Delete at ids) (Add n ls hs) p q e = absurd (no-mark ls (list_words signed_decimal hs []) (list_words decimal ids []) q.1 (sym (ap (drop 1) e)))
words-tell (Delete at ids) (Delete n is) p q e =
    let head : at ≡ n = decimal_injective_wide at n (omega (arith, p.0)) (omega (arith, q.0)) (ap (λ (ws : List (List ℕ)). get_or ws 0 []) e) in
    let behind = lists-tell decimal IsReadableId id-tells id-some ids is [] [] p.1 q.1 (ap (drop 2) e) in
    λ i. Delete (head i) (behind.0 i)

pub line-tells : (l m : ProofLine) → IsReadable l → IsReadable m → line_bytes l ≡ line_bytes m → l ≡ m
line-tells l m p q e = words-tell l m p q (join_words_injective (line_words l) (line_words m) (line-are-words l p) (line-are-words m q) e)

-- a line begins with a digit
pub line-begins : (l : ProofLine) → IsReadable l → get_or (line_bytes l) 0 0 ≤ 57
line-begins (Add id lits hints) h = begins-with-digit id (words_behind (list_words literal_word lits (list_words signed_decimal hints []))) (omega (arith, h.0.1))
line-begins (Delete at ids) h = begins-with-digit at (words_behind (codes "d" ∷ list_words decimal ids [])) (omega (arith, h.0))

-- lines of which the first begins with a letter
abbrev pub BeginBehind : List (List ℕ) → Type 0
BeginBehind lines = 58 ≤ get_or (get_or lines 0 []) 0 0

pub no-line : (l : ProofLine) (lines rest : List (List ℕ)) → IsReadable l → BeginBehind lines → line_bytes l ∷ rest ≡ lines → ⊥
no-line l lines rest h b e =
    let same : get_or (line_bytes l) 0 0 ≡ get_or (get_or lines 0 []) 0 0 = ap (λ ls. get_or (get_or ls 0 []) 0 0) e in omega (arith, same, b, line-begins l h)

-- the lines of a derivation and those behind it tell both
pub proof-tells : (ps qs : List ProofLine) (xs ys : List (List ℕ)) → AreReadableLines ps → AreReadableLines qs → BeginBehind xs → BeginBehind ys → map line_bytes ps ++ xs ≡ map line_bytes qs ++ ys
    → (ps ≡ qs) × (xs ≡ ys)
proof-tells [] [] xs ys p q b c e = (refl, e)
proof-tells [] (k ∷ ks) xs ys p q b c e = absurd (no-line k xs (map line_bytes ks ++ ys) q.0 b (sym e))
proof-tells (l ∷ ls) [] xs ys p q b c e = absurd (no-line l ys (map line_bytes ls ++ xs) p.0 c e)
proof-tells (l ∷ ls) (k ∷ ks) xs ys p q b c e =
    let first = line-tells l k p.0 q.0 (ap (λ ls. get_or ls 0 []) e) in
    let rest = proof-tells ls ks xs ys p.1 q.1 b c (ap (drop 1) e) in
    (λ i. first i ∷ rest.0 i, rest.1)
