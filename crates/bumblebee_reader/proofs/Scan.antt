-- One step of the way through a text.
use Rattle.std.proofs.Common.{◌≡◌, ℕ, zero, suc, ◌+◌, Bool, true, false, cond, Some, None, List, [], ◌∷◌, drop, refl, sym, ap, ◌∙◌, one-add}
use Rattle.std.proofs.lemmas.Bool.{false≢true, eqb-true}
use Rattle.std.specs.Prelude.{nat_eq, ◌||◌, if◌then◌else◌}
use Rattle.std.specs.List.{prefix_len}
use Rattle.bumblebee_reader.specs.Bytes.{is_letter, is_digit, is_word, is_in_comment}
use Rattle.bumblebee_reader.specs.Tokens.{Token, with_token, token_from, length_from, next_line, tokens_behind, tokens_at, last_line_at, begins_gap}

-- bytes that are passed over are left out
pub tokens_behind-is : (n line : ℕ) (bs : List ℕ) → tokens_behind n line bs ≡ tokens_at line (drop n bs)
tokens_behind-is zero line bs = refl
tokens_behind-is (suc n) line [] = refl
tokens_behind-is (suc n) line (b ∷ bs) = tokens_behind-is n line bs

pub tokens_at-cons : (line b : ℕ) (bs : List ℕ) → tokens_at line (b ∷ bs) ≡ with_token (token_from b bs) line (tokens_at (next_line line b) (drop (length_from b bs) bs))
tokens_at-cons line b bs = ap (with_token (token_from b bs) line) (tokens_behind-is (length_from b bs) (next_line line b) bs)

-- a line does not end behind a byte that is no line feed
next_line-other : (line b : ℕ) → nat_eq b 10 ≡ false → next_line line b ≡ line
next_line-other line b other = rw other

other_than : (p : ℕ → Bool) (b c : ℕ) (t : Bool) → nat_eq b c ≡ t → p b ≡ true → p c ≡ false → nat_eq b c ≡ false
other_than p b c true e at_b at_c = absurd (false≢true (sym at_c ∙ ap p (sym (eqb-true b c e)) ∙ at_b))
other_than p b c false e at_b at_c = e

-- bytes of a kind that a line feed has not leave the last line
last_line-prefix_at : (p : ℕ → Bool) (none : p 10 ≡ false) (line b : ℕ) (bs : List ℕ) (t : Bool) → p b ≡ t → last_line_at line (drop (prefix_len p bs) bs) ≡ last_line_at line bs → last_line_at line (drop (cond t (1 + prefix_len p bs) 0) (b ∷ bs)) ≡ last_line_at (next_line line b) bs
last_line-prefix_at p none line b bs true e rest =
    let other = next_line-other line b (other_than p b 10 (nat_eq b 10) refl e none) in
    rw (one-add, other) rest
last_line-prefix_at p none line b bs false e rest = refl

pub last_line-prefix : (p : ℕ → Bool) (none : p 10 ≡ false) (line : ℕ) (bs : List ℕ) → last_line_at line (drop (prefix_len p bs) bs) ≡ last_line_at line bs
last_line-prefix p none line [] = refl
last_line-prefix p none line (b ∷ bs) =
    last_line-prefix_at p none line b bs (p b) refl (last_line-prefix p none line bs)

last_line-cons_at : (line : ℕ) (bs : List ℕ) (letter digit comment : Bool) → last_line_at line (drop (if letter then prefix_len is_word bs else (if digit then prefix_len is_digit bs else (if comment then prefix_len is_in_comment bs else 0))) bs) ≡ last_line_at line bs
last_line-cons_at line bs true digit comment = last_line-prefix is_word refl line bs
last_line-cons_at line bs false true comment = last_line-prefix is_digit refl line bs
last_line-cons_at line bs false false true = last_line-prefix is_in_comment refl line bs
last_line-cons_at line bs false false false = refl

pub last_line-cons : (line b : ℕ) (bs : List ℕ) → last_line_at (next_line line b) (drop (length_from b bs) bs) ≡ last_line_at line (b ∷ bs)
last_line-cons line b bs =
    last_line-cons_at (next_line line b) bs (is_letter b) (is_digit b) (nat_eq b 37)

or_false-left : (x y : Bool) → (x || y) ≡ false → x ≡ false
or_false-left true y h = h
or_false-left false y h = refl

or_false-right : (x y : Bool) → (x || y) ≡ false → y ≡ false
or_false-right true y h = absurd (false≢true (sym h))
or_false-right false y h = h

no_line_feed : (b : ℕ) → begins_gap b ≡ false → nat_eq b 10 ≡ false
no_line_feed b h =
    or_false-right (nat_eq b 32 || nat_eq b 9 || nat_eq b 13) (nat_eq b 10) (or_false-left (nat_eq b 32 || nat_eq b 9 || nat_eq b 13 || nat_eq b 10) (nat_eq b 37) h)

-- a step over the byte or the comment that a gap begins with
pub gap_step : (line line' b : ℕ) (bs rest : List ℕ) → token_from b bs ≡ None → line' ≡ next_line line b → rest ≡ drop (length_from b bs) bs → (tokens_at line' rest ≡ tokens_at line (b ∷ bs)) × (last_line_at line' rest ≡ last_line_at line (b ∷ bs))
gap_step line line' b bs rest gap there behind =
    (sym (tokens_at-cons line b bs ∙ (rw (gap, ← there, ← behind) refl)), rw (there, behind) (last_line-cons line b bs))

-- a step over a comment
pub comment_step : (line b : ℕ) (all bs rest : List ℕ) → all ≡ b ∷ bs → b ≡ 37 → rest ≡ drop (prefix_len is_in_comment bs) bs → (tokens_at line rest ≡ tokens_at line all) × (last_line_at line rest ≡ last_line_at line all)
comment_step line b all bs rest e percent behind =
    rw (e, percent) (gap_step line line 37 bs rest refl refl behind)

-- a step over a token
pub token_step : (line b : ℕ) (all bs rest : List ℕ) (t : Token) → all ≡ b ∷ bs → begins_gap b ≡ false → token_from b bs ≡ Some t → rest ≡ drop (length_from b bs) bs → tokens_at line all ≡ record { token = t; line = line } ∷ tokens_at line rest
token_step line b all bs rest t e gap here there =
    let other = next_line-other line b (no_line_feed b gap) in
    ap (tokens_at line) e ∙ tokens_at-cons line b bs ∙ (rw (here, other, ← there) refl)

pub token_step_line : (line b : ℕ) (all bs rest : List ℕ) → all ≡ b ∷ bs → begins_gap b ≡ false → rest ≡ drop (length_from b bs) bs → last_line_at line rest ≡ last_line_at line all
token_step_line line b all bs rest e gap there =
    let other = next_line-other line b (no_line_feed b gap) in
    ap (last_line_at line) there
    ∙ ap (λ n. last_line_at n (drop (length_from b bs) bs)) (sym other)
    ∙ last_line-cons line b bs
    ∙ ap (last_line_at line) (sym e)
