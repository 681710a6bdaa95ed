-- The first word of a line.
use Rattle.std.proofs.Common.{◌≡◌, ℕ, ◌<◌, ◌≤◌, Bool, true, false, not, ◌&&◌, ◌||◌, ◌==◌, List, [], ◌∷◌, ◌++◌, length, refl, sym, ap, ◌∙◌, arith, ◌+◌, take, drop, get_or, Option, Some, None, ⊎_elim, position}
use Rattle.std.specs.Prelude.{unwrap_or}
use Rattle.std.proofs.lemmas.List.{append-nil, take_all, drop_all, drop_more, take-append-drop, length-take}
use Rattle.std.specs.List.{list_all}
use Rattle.std.proofs.lemmas.Bool.{and_parts, and_from, not-true, not_from_false, not_from_true, or_parts, false≢true, true≢false, cases_lt, cases_Bool, eqb-true}
use Rattle.bee_text.specs.Words.{is_gap, before_first}
use Rattle.bee_text.proofs.GapLemmas.{hollow}
use Rattle.bee_text.proofs.SearchLemmas.{cut_at, none_at}
use Rattle.opb_front.specs.Words.{ends_word, goes_on, line_words}

twice_not : (xs : List ℕ) → list_all (λ b. not (not (is_gap b))) xs ≡ hollow xs
twice_not [] = refl
twice_not (x ∷ xs) = ap (λ t. t && list_all (λ b. not (not (is_gap b))) xs) (back (is_gap x)) ∙ ap (λ t. is_gap x && t) (twice_not xs)
  where
    back : (t : Bool) → not (not t) ≡ t
    back true = refl
    back false = refl

-- bytes of a word
abbrev pub solid : List ℕ → Bool
solid text = list_all (λ b. not (ends_word b)) text

words-hollow : (gap bs : List ℕ) → hollow gap ≡ true → line_words (gap ++ bs) ≡ line_words bs
words-hollow [] bs h = refl
words-hollow (b ∷ gap) bs h =
    let parts = and_parts (is_gap b) (hollow gap) h in
    rw parts.0 (words-hollow gap bs parts.1)

words-none : (gap : List ℕ) → hollow gap ≡ true → line_words gap ≡ []
words-none [] h = refl
words-none (b ∷ gap) h =
    let parts = and_parts (is_gap b) (hollow gap) h in
    rw parts.0 (words-none gap parts.1)

-- a byte of a word
record Within (b : ℕ) : Type 0 where
  gap : is_gap b ≡ false
  mark : (b == 59) ≡ false

within : (b : ℕ) → not (ends_word b) ≡ true → Within b
within b h =
    let parts = or_parts (is_gap b) (b == 59) (not-true (ends_word b) h) in
    record { gap = parts.0; mark = parts.1 }

words-alone : (b : ℕ) (bs : List ℕ) → Within b → goes_on bs ≡ false → line_words (b ∷ bs) ≡ (b ∷ []) ∷ line_words bs
words-alone b bs h e =
    let p = h.gap in
    let q = h.mark in
    rw (p, q, e)

words-longer : (b : ℕ) (bs : List ℕ) → Within b → goes_on bs ≡ true → line_words (b ∷ bs) ≡ before_first b (line_words bs)
words-longer b bs h e =
    let p = h.gap in
    let q = h.mark in
    rw (p, q, e)

words-word : (b : ℕ) (w bs : List ℕ) → solid (b ∷ w) ≡ true → goes_on bs ≡ false → line_words (b ∷ (w ++ bs)) ≡ (b ∷ w) ∷ line_words bs
words-word b [] bs h e =
    let parts = and_parts (not (ends_word b)) true h in
    words-alone b bs (within b parts.0) e
words-word b (c ∷ w) bs h e =
    let parts = and_parts (not (ends_word b)) (solid (c ∷ w)) h in
    let more = and_parts (not (ends_word c)) (solid w) parts.1 in
    words-longer b (c ∷ (w ++ bs)) (within b parts.0) more.0 ∙ ap (before_first b) (words-word c w bs parts.1 e)

words-begin : (w bs : List ℕ) → 0 < length w → solid w ≡ true → goes_on bs ≡ false → line_words (w ++ bs) ≡ w ∷ line_words bs
words-begin [] bs some h e = absurd (omega arith)
words-begin (b ∷ w) bs some h e = words-word b w bs h e

-- a line of gaps alone
pub words_unfound : (text : List ℕ) → position (λ b. not (is_gap b)) text ≡ None → line_words text ≡ []
words_unfound text e = words-none text (sym (twice_not text) ∙ none_at (λ b. not (is_gap b)) text e)

-- a line without the gap before its first word
pub words_found : (text t : List ℕ) (i : ℕ) → position (λ b. not (is_gap b)) text ≡ Some i → t ≡ drop i text → line_words text ≡ line_words t
words_found text t i found from =
    let cut = cut_at (λ b. not (is_gap b)) text i found in
    let gap : hollow (take i text) ≡ true = sym (twice_not (take i text)) ∙ cut.front in
    let whole : text ≡ take i text ++ t = sym (take-append-drop i text) ∙ ap (λ ys. take i text ++ ys) (sym from) in
    ap line_words whole ∙ words-hollow (take i text) t gap

-- and its first byte
pub first_found : (text t : List ℕ) (i : ℕ) → position (λ b. not (is_gap b)) text ≡ Some i → t ≡ drop i text → (0 < length t) × (is_gap (get_or t 0 0) ≡ false)
first_found text t i found from =
    let cut = cut_at (λ b. not (is_gap b)) text i found in
    let shape : t ≡ get_or text i 0 ∷ drop (i + 1) text = from ∙ drop_more text i 0 cut.inside in
    (omega (arith, ap length shape), ap (λ ys. is_gap (get_or ys 0 0)) shape ∙ not-true _ cut.byte)

-- the first word is `;`
pub mark_cut : (text : List ℕ) → 0 < length text → get_or text 0 0 ≡ 59 → line_words text ≡ take 1 text ∷ line_words (drop 1 text)
mark_cut [] some e = absurd (omega arith)
mark_cut (b ∷ bs) some e = ap (λ c. line_words (c ∷ bs)) e ∙ ap (λ c. (c ∷ []) ∷ line_words bs) (sym e)

-- the first word goes on to a byte that ends it
pub word_cut : (text : List ℕ) (n : ℕ) (o : Option ℕ) → 0 < length text → ends_word (get_or text 0 0) ≡ false → o ≡ position ends_word text → n ≡ unwrap_or o (length text)
    → line_words text ≡ take n text ∷ line_words (drop n text)
word_cut text n None some first is end =
    let all : take n text ≡ text = ap (λ k. take k text) end ∙ take_all (length text) text (omega arith) in
    let none : drop n text ≡ [] = ap (λ k. drop k text) end ∙ drop_all (length text) text (omega arith) in
    let solid_all : solid text ≡ true = none_at ends_word text (sym is) in
    rw (all, none) (ap line_words (sym (append-nil text)) ∙ words-begin text [] some solid_all refl)
word_cut text n (Some j) some first is end =
    let cut = cut_at ends_word text j (sym is) in
    let later : 0 < j = ⊎_elim (λ (l : 0 < j). l) (λ (l : j ≤ 0). let z : j ≡ 0 = omega arith in absurd (false≢true (sym (ap (λ k. ends_word (get_or text k 0)) z ∙ first) ∙ cut.byte))) (cases_lt 0 j) in
    let stop : goes_on (drop j text) ≡ false = ap goes_on (drop_more text j 0 cut.inside) ∙ not_from_true (ends_word (get_or text j 0)) cut.byte in
    let begins : line_words (take j text ++ drop j text) ≡ take j text ∷ line_words (drop j text) =
    words-begin (take j text) (drop j text) (omega (arith, length-take j text, cut.inside)) cut.front stop in
    rw end (ap line_words (sym (take-append-drop j text)) ∙ begins)

pub not_mark : (b : ℕ) → is_gap b ≡ false → (b ≡ 59 → ⊥) → ends_word b ≡ false
not_mark b gap other = ⊎_elim
    (λ (e : (b == 59) ≡ true). absurd (other (eqb-true b 59 e)))
    (λ (e : (b == 59) ≡ false). rw (gap, e))
    (cases_Bool (b == 59))

-- the first word of a line, and what stands behind it
pub word_result : (text t rest : List ℕ) (i e : ℕ) → position (λ b. not (is_gap b)) text ≡ Some i → t ≡ drop i text → line_words t ≡ take e t ∷ line_words (drop e t) → rest ≡ drop e t
    → line_words text ≡ take e t ∷ line_words rest
word_result text t rest i e found from cut is = words_found text t i found from ∙ cut ∙ ap (λ r. take e t ∷ line_words r) (sym is)
