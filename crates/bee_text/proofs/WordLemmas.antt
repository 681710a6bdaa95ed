-- Words joined by single blanks, and a text split at its blanks.
use Rattle.std.proofs.Common.{◌≡◌, ℕ, ◌<◌, true, false, not, ◌==◌, List, [], ◌∷◌, ◌++◌, length, refl, sym, ap, ◌∙◌, append_assoc, ⊎_elim, arith}
use Rattle.std.specs.List.{list_all}
use Rattle.std.proofs.lemmas.Bool.{and_parts, and_from, not-true, cases_Bool, eqb-true}
use Rattle.std.proofs.lemmas.List.{append-nil}
use Rattle.std.proofs.lemmas.List.Folds.{list_all-append}
use Rattle.bee_text.specs.Lines.{lacks, AreLines, IsLine}
use Rattle.bee_text.specs.Words.{ArePieces, join_words, words_behind, split_blanks, before_first}

-- a text that begins with a piece and a blank
pub split_blanks-cut : (x bs : List ℕ) → lacks 32 x ≡ true → split_blanks (x ++ 32 ∷ bs) ≡ x ∷ split_blanks bs
split_blanks-cut [] bs h = refl
split_blanks-cut (b ∷ x) bs h =
    let parts = and_parts (not (b == 32)) (lacks 32 x) h in
    let other : (b == 32) ≡ false = not-true _ parts.0 in
    rw other (ap (before_first b) (split_blanks-cut x bs parts.1))

-- a text with no blank is one piece
pub split_blanks-piece : (x : List ℕ) → lacks 32 x ≡ true → split_blanks x ≡ x ∷ []
split_blanks-piece [] h = refl
split_blanks-piece (b ∷ x) h =
    let parts = and_parts (not (b == 32)) (lacks 32 x) h in
    let other : (b == 32) ≡ false = not-true _ parts.0 in
    rw other (ap (before_first b) (split_blanks-piece x parts.1))

split_blanks-behind : (w : List ℕ) (ws : List (List ℕ)) → lacks 32 w ≡ true → ArePieces ws → split_blanks (w ++ words_behind ws) ≡ w ∷ ws
split_blanks-behind w [] h hs = ap split_blanks (append-nil w) ∙ split_blanks-piece w h
split_blanks-behind w (v ∷ vs) h hs =
    let parts = and_parts (lacks 32 v) (list_all (lacks 32) vs) hs in
    split_blanks-cut w (v ++ words_behind vs) h ∙ ap (λ ps. w ∷ ps) (split_blanks-behind v vs parts.0 parts.1)

pub split_blanks-join_words : (ws : List (List ℕ)) → 0 < length ws → ArePieces ws → split_blanks (join_words ws) ≡ ws
split_blanks-join_words [] some h = absurd (omega arith)
split_blanks-join_words (w ∷ ws) some h =
    let parts = and_parts (lacks 32 w) (list_all (lacks 32) ws) h in
    split_blanks-behind w ws parts.0 parts.1

join_words-before_first : (b : ℕ) (ps : List (List ℕ)) → join_words (before_first b ps) ≡ b ∷ join_words ps
join_words-before_first b [] = refl
join_words-before_first b (p ∷ ps) = refl

length-split_blanks : (bs : List ℕ) → 0 < length (split_blanks bs)
length-split_blanks [] = omega arith
length-split_blanks (b ∷ bs) = ⊎_elim
    (λ (e : (b == 32) ≡ true). rw e (omega arith))
    (λ (e : (b == 32) ≡ false). rw e (length-before_first b (split_blanks bs)))
    (cases_Bool (b == 32))
  where
    length-before_first : (b : ℕ) (ps : List (List ℕ)) → 0 < length (before_first b ps)
    length-before_first b [] = omega arith
    length-before_first b (p ∷ ps) = omega arith

words_behind_some : (ps : List (List ℕ)) → 0 < length ps → words_behind ps ≡ 32 ∷ join_words ps
words_behind_some [] some = absurd (omega arith)
words_behind_some (p ∷ ps) some = refl

pub join_words-split_blanks : (bs : List ℕ) → join_words (split_blanks bs) ≡ bs
join_words-split_blanks [] = refl
join_words-split_blanks (b ∷ bs) = ⊎_elim
    (λ (e : (b == 32) ≡ true). rw e (words_behind_some (split_blanks bs) (length-split_blanks bs) ∙ (ap (λ t. 32 ∷ t) (join_words-split_blanks bs) ∙ ap (λ c. c ∷ bs) (sym (eqb-true b 32 e)))))
    (λ (e : (b == 32) ≡ false). rw e (join_words-before_first b (split_blanks bs) ∙ ap (λ t. b ∷ t) (join_words-split_blanks bs)))
    (cases_Bool (b == 32))

pub split_blanks-pieces : (bs : List ℕ) → ArePieces (split_blanks bs)
split_blanks-pieces [] = refl
split_blanks-pieces (b ∷ bs) = ⊎_elim
    (λ (e : (b == 32) ≡ true). rw e (split_blanks-pieces bs))
    (λ (e : (b == 32) ≡ false). rw e (pieces-before_first b (split_blanks bs) e (split_blanks-pieces bs)))
    (cases_Bool (b == 32))
  where
    pieces-before_first : (b : ℕ) (ps : List (List ℕ)) → (b == 32) ≡ false → ArePieces ps → ArePieces (before_first b ps)
    pieces-before_first b [] e h = rw e refl
    pieces-before_first b (p ∷ ps) e h = rw e h

pub words_behind-append : (vs ws : List (List ℕ)) → words_behind (vs ++ ws) ≡ words_behind vs ++ words_behind ws
words_behind-append [] ws = refl
words_behind-append (v ∷ vs) ws =
    ap (λ t. 32 ∷ (v ++ t)) (words_behind-append vs ws) ∙ ap (λ t. 32 ∷ t) (sym (append_assoc v (words_behind vs) (words_behind ws)))

pub join_words-append : (vs ws : List (List ℕ)) → 0 < length vs → 0 < length ws → join_words (vs ++ ws) ≡ join_words vs ++ 32 ∷ join_words ws
join_words-append [] ws p q = absurd (omega arith)
join_words-append (v ∷ vs) ws p q =
    ap (λ t. v ++ t) (words_behind-append vs ws ∙ ap (λ t. words_behind vs ++ t) (words_behind_some ws q)) ∙ sym (append_assoc v (words_behind vs) (32 ∷ join_words ws))

words_behind_line : (ws : List (List ℕ)) → AreLines ws → IsLine (words_behind ws)
words_behind_line [] h = refl
words_behind_line (w ∷ ws) h =
    let parts = and_parts (lacks 10 w) (list_all (lacks 10) ws) h in
    list_all-append (λ b. not (b == 10)) w (words_behind ws) ∙ and_from _ _ parts.0 (words_behind_line ws parts.1)

pub join_words_line : (ws : List (List ℕ)) → AreLines ws → IsLine (join_words ws)
join_words_line [] h = refl
join_words_line (w ∷ ws) h =
    let parts = and_parts (lacks 10 w) (list_all (lacks 10) ws) h in
    list_all-append (λ b. not (b == 10)) w (words_behind ws) ∙ and_from _ _ parts.0 (words_behind_line ws parts.1)
