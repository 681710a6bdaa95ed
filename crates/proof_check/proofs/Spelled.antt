-- The words of literals, hints and ids: they are words, none is 0, and a word tells what it spells.
use Rattle.std.proofs.Common.{◌≡◌, ◌≢◌, ℕ, ◌+◌, ◌^◌, ◌<◌, ◌≤◌, ℤ, pos, negsuc, Bool, true, false, not, ◌||◌, ◌==◌, List, [], ◌∷◌, ◌++◌, suc, drop, get_or, map, codes, length, append_assoc, cond, refl, sym, ap, ◌∙◌, subst, arith}
use Rattle.std.specs.List.{list_all}
use Rattle.std.specs.Fmt.{decimal, signed_decimal}
use Rattle.std.proofs.lemmas.Bool.{and_parts, and_from, or_parts, not-true, not_from_false}
use Rattle.std.proofs.lemmas.Int.{ints}
use Rattle.std.specs.Int.Signed.{mag}
use Rattle.std.proofs.lemmas.List.{append-nil, append_cancel_right, map-append}
use Rattle.bee_text.specs.Lines.{lacks}
use Rattle.bee_text.specs.Words.{is_gap, IsWord, ArePieces, split_blanks}
use Rattle.bee_text.proofs.WordLemmas.{split_blanks-join_words}
use Rattle.std.specs.Char.{is_ascii_digit}
use Rattle.bee_text.proofs.NumberLemmas.{decimal_word, decimal_digits, decimal_leads_by_zero, decimal_injective_wide, decimal_unsigned, signed_decimal_word, signed_decimal_injective_wide}
use Rattle.order_ints.specs.declared.literal.Lit.{Lit}
use Rattle.proof_check.specs.declared.line.ProofLine.{ProofLine}
use Rattle.proof_check.specs.declared.line.ProofLine.TheVariants.{Add, Delete}
use Rattle.proof_check.specs.Lines.{literal_word, list_words, line_words, Each, IsReadableLit, IsReadableHint, IsReadableId, IsReadable, AreBytesOf, line_bytes, line_text}

-- the word of the literal that has this sign and this variable
abbrev pub signed_word : Bool → ℕ → List ℕ
signed_word positive v = cond positive (decimal v) (45 ∷ decimal v)

-- a word behind a minus sign is that of a negation
pub minus_sign : (word : List ℕ) (positive : Bool) (v : ℕ) → v < 10 ^ 64 → word ≡ 45 ∷ drop 1 word → word ≡ signed_word positive v
    → (positive ≡ false) × (drop 1 word ≡ decimal v)
minus_sign word true v small m e = absurd (decimal_unsigned v (drop 1 word) small (sym e ∙ m))
minus_sign word false v small m e = (refl, ap (drop 1) e)

signed_word_tells : (p q : Bool) (v w : ℕ) → v < 10 ^ 64 → w < 10 ^ 64 → signed_word p v ≡ signed_word q w → (p ≡ q) × (v ≡ w)
signed_word_tells true true v w sv sw e = (refl, decimal_injective_wide v w sv sw e)
signed_word_tells true false v w sv sw e = absurd (decimal_unsigned v (decimal w) sv e)
signed_word_tells false true v w sv sw e = absurd (decimal_unsigned w (decimal v) sw (sym e))
signed_word_tells false false v w sv sw e = (refl, decimal_injective_wide v w sv sw (ap (drop 1) e))

-- a word has no blank
no_blank : (w : List ℕ) → list_all (λ c. not (is_gap c)) w ≡ true → lacks 32 w ≡ true
no_blank [] h = refl
no_blank (b ∷ w) h =
    let parts = and_parts (not (is_gap b)) (list_all (λ c. not (is_gap c)) w) h in
    and_from _ _ (no_space b (not-true _ parts.0)) (no_blank w parts.1)
  where
    no_space : (b : ℕ) → is_gap b ≡ false → not (b == 32) ≡ true
    no_space b e =
        let first = or_parts (b == 32 || b == 9 || b == 10) (b == 13) e in
        let second = or_parts (b == 32 || b == 9) (b == 10) first.0 in
        not_from_false (b == 32) (or_parts (b == 32) (b == 9) second.0).0

word_piece : (w : List ℕ) → IsWord w → lacks 32 w ≡ true
word_piece [] h = refl
word_piece (b ∷ w) h = no_blank (b ∷ w) h

-- how members of a list are spelled
pub record Spelling {X : Type 0} (word : X → List ℕ) (Fits : X → Type 0) : Type 0 where
  pub tells : (x y : X) → Fits x → Fits y → word x ≡ word y → x ≡ y
  pub some : (x : X) → Fits x → word x ≢ codes "0"
  pub piece : (x : X) → Fits x → lacks 32 (word x) ≡ true

-- ids
id_zero : (n : ℕ) → 1 ≤ n → n < 2 ^ 64 → decimal n ≢ codes "0"
id_zero n least small e =
    let zero : n ≡ 0 = decimal_leads_by_zero n (omega (arith, small)) (ap (λ (w : List ℕ). get_or w 0 0) e) in omega (arith, zero, least)

pub id_spelling : Spelling decimal IsReadableId
id_spelling = record {
  tells = λ x y p q e. decimal_injective_wide x y (omega (arith, p.1)) (omega (arith, q.1)) e;
  some = λ x p e. id_zero x p.0 p.1 e;
  piece = λ x p. word_piece (decimal x) (decimal_word x (omega (arith, p.1)));
}

-- hints
hint_small : (z : ℤ) → IsReadableHint z → mag z + 1 < 10 ^ 64
hint_small (pos n) p = omega (arith, ints, p.0)
hint_small (negsuc n) p = omega (arith, ints, p.0)

hint_zero : (z : ℤ) → IsReadableHint z → signed_decimal z ≢ codes "0"
hint_zero (pos n) p e = id_zero n p.1 (omega (arith, ints, p.0)) e
hint_zero (negsuc n) p e = let first : 45 ≡ 48 = ap (λ (w : List ℕ). get_or w 0 0) e in omega (arith, first)

pub hint_spelling : Spelling signed_decimal IsReadableHint
hint_spelling = record {
  tells = λ x y p q e. signed_decimal_injective_wide x y (hint_small x p) (hint_small y q) e;
  some = λ x p e. hint_zero x p e;
  piece = λ x p. word_piece (signed_decimal x) (signed_decimal_word x (hint_small x p));
}

-- literals
literal_piece : (p : Bool) (v : ℕ) → v < 10 ^ 64 → lacks 32 (signed_word p v) ≡ true
literal_piece true v small = word_piece (decimal v) (decimal_word v small)
literal_piece false v small = word_piece (decimal v) (decimal_word v small)

literal_some : (p : Bool) (v : ℕ) → 1 ≤ v → v < 2 ^ 32 → signed_word p v ≢ codes "0"
literal_some true v least small e = id_zero v least (omega (arith, small)) e
literal_some false v least small e = absurd (let first : 45 ≡ 48 = ap (λ (w : List ℕ). get_or w 0 0) e in omega (arith, first))

pub literal_spelling : Spelling literal_word IsReadableLit
literal_spelling = record {
  tells = λ l m p q e.
      let both = signed_word_tells l.positive m.positive l.var m.var (omega (arith, p.1)) (omega (arith, q.1)) e in
      λ i. record { var = both.1 i; positive = both.0 i };
  some = λ l p e. literal_some l.positive l.var p.0 (omega (arith, p.1)) e;
  piece = λ l p. literal_piece l.positive l.var (omega (arith, p.1));
}

-- words that end with 0: how they begin tells how many there are
pub record Left {X : Type 0} (word : X → List ℕ) (Fits : X → Type 0) (done xs : List X) (words rest : List (List ℕ)) : Type 0 where
  pub more : List X
  pub is : xs ≡ done ++ more
  pub words_are : words ≡ map word more ++ codes "0" ∷ rest
  pub fits : Each Fits more

pub left : {X : Type 0} (word : X → List ℕ) (Fits : X → Type 0) → Spelling word Fits → (done xs : List X) (words rest : List (List ℕ)) →
    Each Fits done → Each Fits xs → map word done ++ words ≡ map word xs ++ codes "0" ∷ rest → Left word Fits done xs words rest
left word Fits s [] xs words rest all each e = record { more = xs; is = refl; words_are = e; fits = each }
left word Fits s (d ∷ done) [] words rest all each e = absurd (s.some d all.0 (ap (λ (ws : List (List ℕ)). get_or ws 0 []) e))
left word Fits s (d ∷ done) (x ∷ xs) words rest all each e =
    let same : d ≡ x = s.tells d x all.0 each.0 (ap (λ (ws : List (List ℕ)). get_or ws 0 []) e) in
    let behind = left word Fits s done xs words rest all.1 each.1 (ap (drop 1) e) in
    record {
      more = behind.more;
      is = ap (λ (ys : List _). x ∷ ys) behind.is ∙ ap (λ (y : _). y ∷ (done ++ behind.more)) (sym same);
      words_are = behind.words_are;
      fits = behind.fits;
    }

-- at 0 they end
pub at-zero : {X : Type 0} (word : X → List ℕ) (Fits : X → Type 0) (done xs : List X) (words rest : List (List ℕ)) → Spelling word Fits →
    Left word Fits done xs words rest → (w : List ℕ) (behind : List (List ℕ)) → words ≡ w ∷ behind → w ≡ codes "0" → (done ≡ xs) × (behind ≡ rest)
at-zero {X = X} word Fits done xs words rest s l w behind is zero = by_more l.more l.is l.words_are l.fits
  where
    by_more : (more : List X) → xs ≡ done ++ more → words ≡ map word more ++ codes "0" ∷ rest → Each Fits more → (done ≡ xs) × (behind ≡ rest)
    by_more [] e f each = (sym (e ∙ append-nil done), ap (drop 1) (sym is ∙ f))
    by_more (x ∷ more) e f each = absurd (s.some x each.0 (ap (λ (ws : List (List ℕ)). get_or ws 0 []) (sym f ∙ is) ∙ zero))

-- at another word there is one more
pub at-other : {X : Type 0} (word : X → List ℕ) (Fits : X → Type 0) (done xs : List X) (words rest : List (List ℕ)) →
    Left word Fits done xs words rest → (w : List ℕ) (behind : List (List ℕ)) → words ≡ w ∷ behind → w ≢ codes "0" → (x : X) × (Fits x × (w ≡ word x))
at-other {X = X} word Fits done xs words rest l w behind is other = by_more l.more l.words_are l.fits
  where
    by_more : (more : List X) → words ≡ map word more ++ codes "0" ∷ rest → Each Fits more → (x : X) × (Fits x × (w ≡ word x))
    by_more [] f each = absurd (other (ap (λ (ws : List (List ℕ)). get_or ws 0 []) (sym is ∙ f)))
    by_more (x ∷ more) f each = (x, (each.0, ap (λ (ws : List (List ℕ)). get_or ws 0 []) (sym is ∙ f)))

-- there is one
pub at-end : {X : Type 0} (word : X → List ℕ) (Fits : X → Type 0) (done xs : List X) (words rest : List (List ℕ)) →
    Left word Fits done xs words rest → words ≡ [] → ⊥
at-end {X = X} word Fits done xs words rest l none = by_more l.more l.words_are
  where
    by_more : (more : List X) → words ≡ map word more ++ codes "0" ∷ rest → ⊥
    by_more [] f = let size : 0 ≡ suc (length rest) = ap length (sym none ∙ f) in omega (arith, size)
    by_more (x ∷ more) f = let size : 0 ≡ suc (length (map word more ++ codes "0" ∷ rest)) = ap length (sym none ∙ f) in omega (arith, size)

-- one more that was read
pub front-more : {X : Type 0} (word : X → List ℕ) (done : List X) (x : X) (all words : List (List ℕ)) (w : List ℕ) (behind : List (List ℕ)) →
    all ≡ map word done ++ words → words ≡ w ∷ behind → w ≡ word x → all ≡ map word (done ++ x ∷ []) ++ behind
front-more word done x all words w behind front is spelled =
    front ∙ ap (λ (ws : List (List ℕ)). map word done ++ ws) (is ∙ ap (λ (v : List ℕ). v ∷ behind) spelled)
    ∙ sym (append_assoc (map word done) (word x ∷ []) behind)
    ∙ ap (λ (ws : List (List ℕ)). ws ++ behind) (sym (map-append word done (x ∷ [])))

pub each-more : {X : Type 0} (Fits : X → Type 0) (xs : List X) (x : X) → Each Fits xs → Fits x → Each Fits (xs ++ x ∷ [])
each-more Fits [] x all new = (new, tt)
each-more Fits (y ∷ xs) x all new = (all.0, each-more Fits xs x all.1 new)

-- the words of a line have no blank
pieces-append : (vs ws : List (List ℕ)) → ArePieces vs → ArePieces ws → ArePieces (vs ++ ws)
pieces-append [] ws all more = more
pieces-append (v ∷ vs) ws all more =
    let parts = and_parts (lacks 32 v) (list_all (lacks 32) vs) all in and_from _ _ parts.0 (pieces-append vs ws parts.1 more)

words-pieces : {X : Type 0} (word : X → List ℕ) (Fits : X → Type 0) → Spelling word Fits → (xs : List X) → Each Fits xs → ArePieces (map word xs)
words-pieces word Fits s [] all = refl
words-pieces word Fits s (x ∷ xs) all = and_from _ _ (s.piece x all.0) (words-pieces word Fits s xs all.1)

list-pieces : {X : Type 0} (word : X → List ℕ) (Fits : X → Type 0) → Spelling word Fits → (xs : List X) (behind : List (List ℕ)) → Each Fits xs →
    ArePieces behind → ArePieces (list_words word xs behind)
list-pieces word Fits s xs behind all more = pieces-append (map word xs) (codes "0" ∷ behind) (words-pieces word Fits s xs all) more

line-pieces : (line : ProofLine) → IsReadable line → ArePieces (line_words line)
line-pieces (Add id lits hints) h =
    and_from _ _ (id_spelling.piece id h.0)
    (list-pieces literal_word IsReadableLit literal_spelling lits _ h.1 (list-pieces signed_decimal IsReadableHint hint_spelling hints [] h.2 refl))
line-pieces (Delete at ids) h = and_from _ _ (word_piece (decimal at) (decimal_word at (omega (arith, h.0)))) (list-pieces decimal IsReadableId id_spelling ids [] h.1 refl)

some-words : (line : ProofLine) → 0 < length (line_words line)
some-words (Add id lits hints) = omega arith
some-words (Delete at ids) = omega arith

-- the pieces of a line's text are its words
pub pieces-of-line : (bytes : List ℕ) (line : ProofLine) → AreBytesOf line bytes → split_blanks bytes ≡ line_words line
pieces-of-line bytes line h = ap split_blanks h.1 ∙ split_blanks-join_words (line_words line) (some-words line) (line-pieces line h.0)

-- the mark of a deletion is no literal, and not 0
mark-literal : (p : Bool) (v : ℕ) → v < 10 ^ 64 → signed_word p v ≢ codes "d"
mark-literal true v small e =
    let digits : list_all is_ascii_digit (codes "d") ≡ true = subst (λ (w : List ℕ). list_all is_ascii_digit w ≡ true) e (decimal_digits v small) in
    absurd (let f : false ≡ true = digits in cc)
mark-literal false v small e = absurd (let first : 45 ≡ 100 = ap (λ (w : List ℕ). get_or w 0 0) e in omega (arith, first))

pub addition-mark : (lits : List Lit) (behind : List (List ℕ)) → Each IsReadableLit lits → get_or (list_words literal_word lits behind) 0 [] ≢ codes "d"
addition-mark [] behind all e = absurd (let first : 48 ≡ 100 = ap (λ (w : List ℕ). get_or w 0 0) e in omega (arith, first))
addition-mark (l ∷ lits) behind all e = mark-literal l.positive l.var (omega (arith, all.0.1)) e

-- a line whose second word is the mark is a deletion
pub record IsDeletion (line : ProofLine) (id : ℕ) (behind : List (List ℕ)) : Type 0 where
  pub ids : List ℕ
  pub is : line ≡ Delete id ids
  pub each : Each IsReadableId ids
  pub behind_is : behind ≡ list_words decimal ids []

pub deletion-words : (line : ProofLine) (words rest behind : List (List ℕ)) (id : ℕ) (w : List ℕ) → IsReadable line → words ≡ line_words line →
    get_or words 1 [] ≡ codes "d" → words ≡ decimal id ∷ rest → id < 2 ^ 64 → rest ≡ w ∷ behind → IsDeletion line id behind
deletion-words (Add n lits hints) words rest behind id w h e mark first small second =
    absurd (addition-mark lits (list_words signed_decimal hints []) h.1 (sym (ap (λ (ws : List (List ℕ)). get_or ws 1 []) e) ∙ mark))
deletion-words (Delete at ids) words rest behind id w h e mark first small second =
    let same : at ≡ id = decimal_injective_wide at id (omega (arith, h.0)) (omega (arith, small)) (ap (λ (ws : List (List ℕ)). get_or ws 0 []) (sym e ∙ first)) in
    record {
      ids = ids;
      is = ap (λ (n : ℕ). Delete n ids) same;
      each = h.1;
      behind_is = ap (drop 1) (sym second) ∙ ap (drop 1) (ap (drop 1) (sym first ∙ e));
    }

-- lists that end with 0 tell what they are and what stands behind them
lists-tell : {X : Type 0} (word : X → List ℕ) (Fits : X → Type 0) → Spelling word Fits → (xs ys : List X) (vs ws : List (List ℕ)) → Each Fits xs → Each Fits ys →
    list_words word xs vs ≡ list_words word ys ws → (xs ≡ ys) × (vs ≡ ws)
lists-tell word Fits s xs ys vs ws all each e =
    at-zero word Fits xs ys (codes "0" ∷ vs) ws s (left word Fits s xs ys (codes "0" ∷ vs) ws all each e) (codes "0") vs refl refl

-- and the words of a line tell it
pub words-tell : (l m : ProofLine) → IsReadable l → IsReadable m → line_words l ≡ line_words m → l ≡ m
words-tell (Add id lits hints) (Add n ls hs) p q e =
    let head : id ≡ n = id_spelling.tells id n p.0 q.0 (ap (λ (ws : List (List ℕ)). get_or ws 0 []) e) in
    let first = lists-tell literal_word IsReadableLit literal_spelling lits ls _ _ p.1 q.1 (ap (drop 1) e) in
    let second = lists-tell signed_decimal IsReadableHint hint_spelling hints hs [] [] p.2 q.2 first.1 in
    λ i. Add (head i) (first.0 i) (second.0 i)
words-tell (Add id lits hints) (Delete at ids) p q e =
    absurd (addition-mark lits (list_words signed_decimal hints []) p.1 (ap (λ (ws : List (List ℕ)). get_or ws 1 []) e))
words-tell (Delete at ids) (Add n ls hs) p q e =
    absurd (addition-mark ls (list_words signed_decimal hs []) q.1 (sym (ap (λ (ws : List (List ℕ)). get_or ws 1 []) e)))
words-tell (Delete at ids) (Delete n is) p q e =
    let head : at ≡ n = decimal_injective_wide at n (omega (arith, p.0)) (omega (arith, q.0)) (ap (λ (ws : List (List ℕ)). get_or ws 0 []) e) in
    let behind = lists-tell decimal IsReadableId id_spelling ids is [] [] p.1 q.1 (ap (drop 2) e) in
    λ i. Delete (head i) (behind.0 i)

pub bytes-tell : (l m : ProofLine) → IsReadable l → IsReadable m → line_bytes l ≡ line_bytes m → l ≡ m
bytes-tell l m p q e =
    words-tell l m p q (sym (pieces-of-line (line_bytes l) l (p, refl)) ∙ pieces-of-line (line_bytes l) m (q, e))

pub text-tells : (l m : ProofLine) → IsReadable l → IsReadable m → line_text l ≡ line_text m → l ≡ m
text-tells l m p q e = bytes-tell l m p q (append_cancel_right (line_bytes l) (line_bytes m) (10 ∷ []) e)
