-- Lines joined, and the lines of a text.
use Rattle.std.proofs.Common.{◌≡◌, ℕ, true, false, not, ◌==◌, List, [], ◌∷◌, ◌++◌, refl, sym, ap, ◌∙◌, append_assoc, ◌<◌, length, arith, ⊎_elim}
use Rattle.std.specs.List.{list_all}
use Rattle.std.proofs.lemmas.Bool.{and_parts, not-true, and_right, cases_Bool, eqb-true, true≢false}
use Rattle.std.proofs.lemmas.List.{append-nil}
use Rattle.std.proofs.lemmas.List.Folds.{list_all-append}
use Rattle.bee_text.specs.Lines.{lacks, IsLine, AreLines, join_lines, lines_of, onto_first, unfinished}

-- the lines of a text that begins with a line and its line feed
pub lines_of-cut : (x bs : List ℕ) → lacks 10 x ≡ true → lines_of (x ++ 10 ∷ bs) ≡ x ∷ lines_of bs
lines_of-cut [] bs h = refl
lines_of-cut (b ∷ x) bs h =
    let parts = and_parts (not (b == 10)) (lacks 10 x) h in
    let other : (b == 10) ≡ false = not-true _ parts.0 in
    rw other (ap (onto_first b) (lines_of-cut x bs parts.1))

-- a text with no line feed has no line
pub lines_of-rest : (x : List ℕ) → lacks 10 x ≡ true → lines_of x ≡ []
lines_of-rest [] h = refl
lines_of-rest (b ∷ x) h =
    let parts = and_parts (not (b == 10)) (lacks 10 x) h in
    let other : (b == 10) ≡ false = not-true _ parts.0 in
    rw other (ap (onto_first b) (lines_of-rest x parts.1))

pub lines_of-join_lines_rest : (xs : List (List ℕ)) (rest : List ℕ) → AreLines xs → IsLine rest → lines_of (join_lines xs ++ rest) ≡ xs
lines_of-join_lines_rest [] rest h line = lines_of-rest rest line
lines_of-join_lines_rest (x ∷ xs) rest h line =
    let parts = and_parts (lacks 10 x) (list_all (lacks 10) xs) h in
    ap lines_of (append_assoc x (10 ∷ join_lines xs) rest) ∙ (lines_of-cut x (join_lines xs ++ rest) parts.0 ∙ ap (λ ys. x ∷ ys) (lines_of-join_lines_rest xs rest parts.1 line))

pub lines_of-join_lines : (xs : List (List ℕ)) → AreLines xs → lines_of (join_lines xs) ≡ xs
lines_of-join_lines xs h = ap lines_of (sym (append-nil (join_lines xs))) ∙ lines_of-join_lines_rest xs [] h refl

pub join_lines_injective : (xs ys : List (List ℕ)) → AreLines xs → AreLines ys → join_lines xs ≡ join_lines ys → xs ≡ ys
join_lines_injective xs ys p q e = sym (lines_of-join_lines xs p) ∙ ap lines_of e ∙ lines_of-join_lines ys q

-- what stands behind the last line feed does not depend on the lines before it
unfinished_feed : (x rest : List ℕ) → unfinished (x ++ 10 ∷ rest) ≡ unfinished rest
unfinished_feed [] rest = refl
unfinished_feed (b ∷ x) rest =
    let feed : lacks 10 (b ∷ (x ++ 10 ∷ rest)) ≡ false = list_all-append (λ c. not (c == 10)) (b ∷ x) (10 ∷ rest) ∙ and_right (lacks 10 (b ∷ x)) false refl in
    rw feed (unfinished_feed x rest)

unfinished_line : (rest : List ℕ) → IsLine rest → unfinished rest ≡ rest
unfinished_line [] h = refl
unfinished_line (b ∷ rest) h = rw h

pub unfinished-join_lines : (xs : List (List ℕ)) (rest : List ℕ) → IsLine rest → unfinished (join_lines xs ++ rest) ≡ rest
unfinished-join_lines [] rest line = unfinished_line rest line
unfinished-join_lines (x ∷ xs) rest line =
    ap unfinished (append_assoc x (10 ∷ join_lines xs) rest) ∙ (unfinished_feed x (join_lines xs ++ rest) ∙ unfinished-join_lines xs rest line)

-- the lines of a text with a byte more before it, where the text has a line feed
join_onto_first : (b : ℕ) (xs : List (List ℕ)) → 0 < length xs → join_lines (onto_first b xs) ≡ b ∷ join_lines xs
join_onto_first b [] some = absurd (omega arith)
join_onto_first b (x ∷ xs) some = refl

lines_of_some : (bs : List ℕ) → lacks 10 bs ≡ false → 0 < length (lines_of bs)
lines_of_some [] h = absurd (true≢false h)
lines_of_some (b ∷ bs) h = ⊎_elim
    (λ (e : (b == 10) ≡ true). rw e (omega arith))
    (λ (e : (b == 10) ≡ false). rw e (some b (lines_of bs) (lines_of_some bs (rw e at h))))
    (cases_Bool (b == 10))
  where
    some : (b : ℕ) (xs : List (List ℕ)) → 0 < length xs → 0 < length (onto_first b xs)
    some b [] h = absurd (omega arith)
    some b (x ∷ xs) h = omega arith

pub join_lines-lines_of : (text : List ℕ) → join_lines (lines_of text) ++ unfinished text ≡ text
join_lines-lines_of [] = refl
join_lines-lines_of (b ∷ bs) = ⊎_elim
    (λ (line : lacks 10 (b ∷ bs) ≡ true). ap (λ xs. join_lines xs ++ unfinished (b ∷ bs)) (lines_of-rest (b ∷ bs) line) ∙ unfinished_line (b ∷ bs) line)
    (λ (feed : lacks 10 (b ∷ bs) ≡ false). ⊎_elim
    (λ (e : (b == 10) ≡ true).
    let first : lines_of (b ∷ bs) ≡ [] ∷ lines_of bs = rw e in
    ap (λ xs. join_lines xs ++ unfinished (b ∷ bs)) first ∙ (ap (λ r. 10 ∷ (join_lines (lines_of bs) ++ r)) (later feed) ∙ (ap (λ t. 10 ∷ t) (join_lines-lines_of bs) ∙ ap (λ c. c ∷ bs) (sym (eqb-true b 10 e)))))
    (λ (e : (b == 10) ≡ false).
    let first : lines_of (b ∷ bs) ≡ onto_first b (lines_of bs) = rw e in
    ap (λ xs. join_lines xs ++ unfinished (b ∷ bs)) first
    ∙ (ap (λ t. t ++ unfinished (b ∷ bs)) (join_onto_first b (lines_of bs) (lines_of_some bs (rw e at feed)))
    ∙ (ap (λ r. b ∷ (join_lines (lines_of bs) ++ r)) (later feed) ∙ ap (λ t. b ∷ t) (join_lines-lines_of bs))))
    (cases_Bool (b == 10)))
    (cases_Bool (lacks 10 (b ∷ bs)))
  where
    later : lacks 10 (b ∷ bs) ≡ false → unfinished (b ∷ bs) ≡ unfinished bs
    later feed = rw feed

pub lines_of_lines : (text : List ℕ) → AreLines (lines_of text)
lines_of_lines [] = refl
lines_of_lines (b ∷ bs) = ⊎_elim
    (λ (e : (b == 10) ≡ true). rw e (lines_of_lines bs))
    (λ (e : (b == 10) ≡ false). rw e (onto b (lines_of bs) e (lines_of_lines bs)))
    (cases_Bool (b == 10))
  where
    onto : (b : ℕ) (xs : List (List ℕ)) → (b == 10) ≡ false → AreLines xs → AreLines (onto_first b xs)
    onto b [] e h = refl
    onto b (x ∷ xs) e h = rw e h

pub join_lines-append : (xs ys : List (List ℕ)) → join_lines (xs ++ ys) ≡ join_lines xs ++ join_lines ys
join_lines-append [] ys = refl
join_lines-append (x ∷ xs) ys =
    ap (λ t. x ++ 10 ∷ t) (join_lines-append xs ys) ∙ sym (append_assoc x (10 ∷ join_lines xs) (join_lines ys))
