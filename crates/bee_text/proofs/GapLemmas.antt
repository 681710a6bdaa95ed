-- Words with any gaps between them.
use Rattle.std.proofs.Common.{◌≡◌, ℕ, ◌<◌, Bool, true, false, not, ◌&&◌, ◌||◌, ◌==◌, List, [], ◌∷◌, ◌++◌, length, refl, sym, ap, ◌∙◌, arith, ◌+◌, take, drop, get_or, Option, Some, None, ⊎_elim, position, ◌≤◌}
use Rattle.std.specs.Prelude.{unwrap_or}
use Rattle.std.proofs.lemmas.List.{take_all, drop_all, drop_more, take-append-drop, length-take}
use Rattle.bee_text.proofs.SearchLemmas.{cut_at, none_at}
use Rattle.std.specs.List.{list_all}
use Rattle.std.proofs.lemmas.Bool.{and_parts, and_from, not-true, not_from_false, or_parts, false≢true, cases_lt, cases_Bool}
use Rattle.bee_text.specs.Lines.{IsLine, AreLines}
use Rattle.bee_text.specs.Words.{is_gap, is_word, IsWord, AreWords, join_words, words_behind, before_first}
use Rattle.bee_text.specs.Gaps.{after_gap, begins_word, words_of}

-- no byte of a gap
abbrev pub solid : List ℕ → Bool
solid text = list_all (λ b. not (is_gap b)) text

-- only bytes of a gap
abbrev pub hollow : List ℕ → Bool
hollow text = list_all is_gap text

pub words_of-hollow : (gap bs : List ℕ) → hollow gap ≡ true → words_of (gap ++ bs) ≡ words_of bs
words_of-hollow [] bs h = refl
words_of-hollow (b ∷ gap) bs h =
    let parts = and_parts (is_gap b) (hollow gap) h in
    rw parts.0 (words_of-hollow gap bs parts.1)

pub words_of-none : (gap : List ℕ) → hollow gap ≡ true → words_of gap ≡ []
words_of-none [] h = refl
words_of-none (b ∷ gap) h =
    let parts = and_parts (is_gap b) (hollow gap) h in
    rw parts.0 (words_of-none gap parts.1)

pub after_gap-hollow : (gap bs : List ℕ) → hollow gap ≡ true → begins_word bs ≡ true → after_gap (gap ++ bs) ≡ bs
after_gap-hollow [] [] h w = refl
after_gap-hollow [] (b ∷ bs) h w = let solid_b : is_gap b ≡ false = begins b bs w in rw solid_b
  where
    begins : (b : ℕ) (bs : List ℕ) → begins_word (b ∷ bs) ≡ true → is_gap b ≡ false
    begins b bs w = grind arith
after_gap-hollow (b ∷ gap) bs h w =
    let parts = and_parts (is_gap b) (hollow gap) h in
    rw parts.0 (after_gap-hollow gap bs parts.1 w)

-- the words of a text that begins with a word, behind which no byte of a word stands
pub words_of-word : (b : ℕ) (w bs : List ℕ) → solid (b ∷ w) ≡ true → begins_word bs ≡ false → words_of (b ∷ (w ++ bs)) ≡ (b ∷ w) ∷ words_of bs
words_of-word b [] bs h e =
    let parts = and_parts (not (is_gap b)) true h in
    let whole : is_gap b ≡ false = not-true _ parts.0 in
    rw (whole, e)
words_of-word b (c ∷ w) bs h e =
    let parts = and_parts (not (is_gap b)) (solid (c ∷ w)) h in
    let more = and_parts (not (is_gap c)) (solid w) parts.1 in
    let first : is_gap b ≡ false = not-true _ parts.0 in
    let next : is_gap c ≡ false = not-true _ more.0 in
    let rest : words_of (c ∷ (w ++ bs)) ≡ (c ∷ w) ∷ words_of bs = words_of-word c w bs parts.1 e in
    let begins : begins_word (c ∷ (w ++ bs)) ≡ true = rw next in
    words_step b (c ∷ (w ++ bs)) first begins ∙ ap (before_first b) rest
  where
    words_step : (b : ℕ) (bs : List ℕ) → is_gap b ≡ false → begins_word bs ≡ true → words_of (b ∷ bs) ≡ before_first b (words_of bs)
    words_step b bs p q = rw (p, q)

words_of-behind : (w : List ℕ) (ws : List (List ℕ)) → IsWord w → AreWords ws → words_of (w ++ words_behind ws) ≡ w ∷ ws
words_of-behind [] ws h hs = absurd (false≢true h)
words_of-behind (b ∷ w) [] h hs = words_of-word b w [] h refl
words_of-behind (b ∷ w) (v ∷ vs) h hs =
    let parts = and_parts (is_word v) (list_all is_word vs) hs in
    words_of-word b w (words_behind (v ∷ vs)) h refl ∙ ap (λ ws. (b ∷ w) ∷ ws) (words_of-behind v vs parts.0 parts.1)

pub words_of-join_words : (ws : List (List ℕ)) → AreWords ws → words_of (join_words ws) ≡ ws
words_of-join_words [] h = refl
words_of-join_words (w ∷ ws) h =
    let parts = and_parts (is_word w) (list_all is_word ws) h in
    words_of-behind w ws parts.0 parts.1

pub join_words_injective : (vs ws : List (List ℕ)) → AreWords vs → AreWords ws → join_words vs ≡ join_words ws → vs ≡ ws
join_words_injective vs ws p q e = sym (words_of-join_words vs p) ∙ ap words_of e ∙ words_of-join_words ws q

solid_line : (w : List ℕ) → solid w ≡ true → IsLine w
solid_line [] h = refl
solid_line (b ∷ w) h =
    let parts = and_parts (not (is_gap b)) (solid w) h in
    and_from _ _ (no_feed b (not-true _ parts.0)) (solid_line w parts.1)
  where
    no_feed : (b : ℕ) → is_gap b ≡ false → not (b == 10) ≡ true
    no_feed b e =
        let outer = or_parts (b == 32 || b == 9 || b == 10) (b == 13) e in
        let inner = or_parts (b == 32 || b == 9) (b == 10) outer.0 in
        not_from_false (b == 10) inner.1

pub word_line : (w : List ℕ) → IsWord w → IsLine w
word_line [] h = absurd (false≢true h)
word_line (b ∷ w) h = solid_line (b ∷ w) h

pub words_lines : (ws : List (List ℕ)) → AreWords ws → AreLines ws
words_lines [] h = refl
words_lines (w ∷ ws) h =
    let parts = and_parts (is_word w) (list_all is_word ws) h in
    and_from _ _ (word_line w parts.0) (words_lines ws parts.1)

-- the words of a text that begins with a word
pub words_of-begin : (w bs : List ℕ) → IsWord w → begins_word bs ≡ false → words_of (w ++ bs) ≡ w ∷ words_of bs
words_of-begin [] bs h e = absurd (false≢true h)
words_of-begin (b ∷ w) bs h e = words_of-word b w bs h e

solid_word : (w : List ℕ) → solid w ≡ true → 0 < length w → IsWord w
solid_word [] h some = absurd (omega arith)
solid_word (b ∷ w) h some = h

twice_not : (xs : List ℕ) → list_all (λ b. not (not (is_gap b))) xs ≡ hollow xs
twice_not [] = refl
twice_not (x ∷ xs) = ap (λ t. t && list_all (λ b. not (not (is_gap b))) xs) (back (is_gap x)) ∙ ap (λ t. is_gap x && t) (twice_not xs)
  where
    back : (t : Bool) → not (not t) ≡ t
    back true = refl
    back false = refl

-- a text of gaps alone
pub words_of-unfound : (text : List ℕ) → position (λ b. not (is_gap b)) text ≡ None → words_of text ≡ []
words_of-unfound text e = words_of-none text (sym (twice_not text) ∙ none_at (λ b. not (is_gap b)) text e)

-- the first word of a text, and what stands behind it
pub record FirstWord (text w rest : List ℕ) : Type 0 where
  pub words : words_of text ≡ w ∷ words_of rest
  pub parts : after_gap text ≡ w ++ rest
  pub word : IsWord w

-- a word at the start of a text, up to the first gap
pub record Front (text : List ℕ) (e : ℕ) : Type 0 where
  pub word : IsWord (take e text)
  pub behind : begins_word (drop e text) ≡ false

front_to_gap : (text : List ℕ) (e : ℕ) (o : Option ℕ) → 0 < length text → is_gap (get_or text 0 0) ≡ false → o ≡ position is_gap text → e ≡ unwrap_or o (length text) → Front text e
front_to_gap text e None some solid_first is end =
    rw end (record {
      word = rw (take_all (length text) text (omega arith)) (solid_word text (none_at is_gap text (sym is)) some);
      behind = rw (drop_all (length text) text (omega arith));
    })
front_to_gap text e (Some j) some solid_first is end =
    let cut = cut_at is_gap text j (sym is) in
    let later : 0 < j = ⊎_elim (λ (l : 0 < j). l) (λ (l : j ≤ 0). let z : j ≡ 0 = omega arith in absurd (false≢true (sym (ap (λ k. is_gap (get_or text k 0)) z ∙ solid_first) ∙ cut.byte))) (cases_lt 0 j) in
    rw end (record {
      word = solid_word (take j text) cut.front (omega (arith, length-take j text, cut.inside));
      behind = rw (drop_more text j 0 cut.inside, cut.byte);
    })

pub first_word : (text t rest : List ℕ) (i e : ℕ) (o : Option ℕ) → position (λ b. not (is_gap b)) text ≡ Some i → t ≡ drop i text → o ≡ position is_gap t → e ≡ unwrap_or o (length t) → rest ≡ drop e t
    → FirstWord text (take e t) rest
first_word text t rest i e o found from_i is end from_e =
    let cut = cut_at (λ b. not (is_gap b)) text i found in
    let gap : hollow (take i text) ≡ true = sym (twice_not (take i text)) ∙ cut.front in
    let shape : t ≡ get_or text i 0 ∷ drop (i + 1) text = from_i ∙ drop_more text i 0 cut.inside in
    let first : is_gap (get_or text i 0) ≡ false = not-true _ cut.byte in
    let first_t : is_gap (get_or t 0 0) ≡ false = ap (λ ys. is_gap (get_or ys 0 0)) shape ∙ first in
    let begins : begins_word t ≡ true = ap begins_word shape ∙ rw first in
    let whole : text ≡ take i text ++ t = sym (take-append-drop i text) ∙ ap (λ ys. take i text ++ ys) (sym from_i) in
    let front = front_to_gap t e o (omega (arith, ap length shape)) first_t is end in
    let again : t ≡ take e t ++ rest = sym (take-append-drop e t) ∙ ap (λ ys. take e t ++ ys) (sym from_e) in
    record {
      words = ap words_of whole ∙ (words_of-hollow (take i text) t gap ∙ (ap words_of again ∙ words_of-begin (take e t) rest front.word (ap begins_word from_e ∙ front.behind)));
      parts = ap after_gap whole ∙ (after_gap-hollow (take i text) t gap begins ∙ again);
      word = front.word;
    }

pub words_of_words : (text : List ℕ) → AreWords (words_of text)
words_of_words [] = refl
words_of_words (b ∷ bs) = ⊎_elim
    (λ (e : is_gap b ≡ true). rw e (words_of_words bs))
    (λ (e : is_gap b ≡ false). ⊎_elim
    (λ (m : begins_word bs ≡ true). rw (e, m) (longer b (words_of bs) e (words_of_words bs)))
    (λ (m : begins_word bs ≡ false). rw (e, m) (and_from _ _ (alone b e) (words_of_words bs)))
    (cases_Bool (begins_word bs)))
    (cases_Bool (is_gap b))
  where
    alone : (b : ℕ) → is_gap b ≡ false → is_word (b ∷ []) ≡ true
    alone b e = and_from (not (is_gap b)) true (not_from_false (is_gap b) e) refl

    more : (b : ℕ) (w : List ℕ) → is_gap b ≡ false → is_word w ≡ true → is_word (b ∷ w) ≡ true
    more b [] e h = alone b e
    more b (c ∷ w) e h = and_from (not (is_gap b)) (is_word (c ∷ w)) (not_from_false (is_gap b) e) h

    longer : (b : ℕ) (ws : List (List ℕ)) → is_gap b ≡ false → AreWords ws → AreWords (before_first b ws)
    longer b [] e h = and_from (is_word (b ∷ [])) true (alone b e) refl
    longer b (w ∷ ws) e h =
        let parts = and_parts (is_word w) (list_all is_word ws) h in
        and_from (is_word (b ∷ w)) (list_all is_word ws) (more b w e parts.0) parts.1
