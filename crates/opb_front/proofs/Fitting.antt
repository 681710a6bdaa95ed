-- The tokens of a text are in their limits, and are no more than its bytes.
use Rattle.std.proofs.Common.{◌≡◌, ℕ, ◌+◌, ◌*◌, ◌-◌, suc, ◌≤◌, ◌==◌, ◌≢◌, ℤ, pos, neg_ℤ, Bool, true, false, ◌&&◌, not, unsigned_abs, nat_le, List, [], ◌∷◌, ◌++◌, map, length, drop, slice_index, codes, refl, sym, ap, subst, ◌∙◌, arith, length-append, zero}
use Rattle.std.specs.Prelude.{Option, Some, None, if◌then◌else◌}
use Rattle.std.specs.Str.{bytes_eq}
use Rattle.std.specs.Char.{is_ascii_digit}
use Rattle.std.specs.List.{list_all}
use Rattle.std.proofs.lemmas.Int.{ints}
use Rattle.std.proofs.lemmas.Bool.{true≢false, and_parts, leb-true, not-true}
use Rattle.std.proofs.lemmas.List.{length-map}
use Rattle.bee_text.specs.Words.{is_gap, before_first}
use Rattle.bee_text.specs.Lines.{join_lines, lines_of, unfinished}
use Rattle.bee_text.proofs.LineLemmas.{join_lines-lines_of}
use Rattle.opb_front.specs.declared.items.Literal.{Literal}
use Rattle.opb_front.specs.declared.items.Term.{Term}
use Rattle.opb_front.specs.declared.items.Constraint.{Constraint}
use Rattle.opb_front.specs.declared.items.Objective.{Objective}
use Rattle.opb_front.specs.declared.items.Opb.{Opb}
use Rattle.opb_front.specs.declared.tokens.Token.{Token}
use Rattle.opb_front.specs.declared.tokens.Token.TheVariants.{Min, Semicolon, Compare, Number, PastNumber, Of, PastIndex, Unknown}
use Rattle.opb_front.specs.Words.{goes_on, line_words, text_lines}
use Rattle.opb_front.specs.Tokens.{most_number, most_index, are_digits, value_of, value_behind, signed, number_token, literal_token, term_token, token_of, is_comment, line_tokens, lines_tokens, text_tokens}
use Rattle.opb_front.specs.Grammar.{terms_tokens, objective_tokens, constraint_tokens, constraints_tokens, opb_tokens, ObjectiveFits, terms_index, objective_index, constraints_index, greatest_index, IsOpbText}
use Rattle.opb_front.specs.Fits.{TermFits, TermsFit, ConstraintsFit, objective_terms, OpbFits, AreShort, ListsFit, ReadFits}
use Rattle.opb_front.proofs.Values.{value_grows}

-- a token in its limits
abbrev Fits : Token → Type 0
Fits (Number z) = unsigned_abs z ≤ most_number
Fits (Of l) = (1 ≤ l.index) × (l.index ≤ most_index)
Fits t = Unit {0}

abbrev AllFit : List Token → Type 0
AllFit [] = Unit {0}
AllFit (t ∷ ts) = Fits t × AllFit ts

either : {X : Type 0} (P : X → Type 0) (b : Bool) (x y : X) → (b ≡ true → P x) → (b ≡ false → P y) → P (if b then x else y)
either P true x y h k = h refl
either P false x y h k = k refl

signed-size : (positive : Bool) (v : ℕ) → unsigned_abs (signed positive v) ≡ v
signed-size true v = refl
signed-size false zero = refl
signed-size false (suc v) = refl

number-fits : (positive : Bool) (ds : List ℕ) → Fits (number_token positive ds)
number-fits positive ds =
    either Fits (are_digits ds) _ Unknown
    (λ _. either Fits (nat_le (value_of ds) most_number) (Number (signed positive (value_of ds))) PastNumber
    (λ small. let s = signed-size positive (value_of ds) in let l = leb-true (value_of ds) most_number small in omega arith)
    (λ _. tt))
    (λ _. tt)

-- digits that don't begin with zero are no zero
some-value : (ds : List ℕ) → (are_digits ds && not (slice_index ds 0 == 48)) ≡ true → 1 ≤ value_of ds
some-value [] h = absurd (true≢false (sym h))
some-value (b ∷ bs) h =
    let parts = and_parts (are_digits (b ∷ bs)) (not (b == 48)) h in
    let digits = and_parts (not (length (b ∷ bs) == 0)) (list_all is_ascii_digit (b ∷ bs)) parts.0 in
    let digit = and_parts (is_ascii_digit b) (list_all is_ascii_digit bs) digits.1 in
    let first = first-value b digit.0 parts.1 in
    omega (arith, first, value_grows (10 * 0 + (b - 48)) bs)
  where
    first-value : (b : ℕ) → is_ascii_digit b ≡ true → not (b == 48) ≡ true → 1 ≤ 10 * 0 + (b - 48)
    first-value b d n =
        let low : 48 ≤ b = leb-true 48 b (and_parts (nat_le 48 b) (nat_le b 57) d).0 in
        let other : b ≢ 48 = λ e. true≢false (sym (ap (λ (c : ℕ). c == 48) e) ∙ not-true (b == 48) n) in
        omega arith

literal-fits : (positive : Bool) (ds : List ℕ) → Fits (literal_token positive ds)
literal-fits positive ds =
    either Fits (are_digits ds && not (slice_index ds 0 == 48)) _ Unknown
    (λ some. either Fits (nat_le (value_of ds) most_index) (Of (record { index = value_of ds; positive = positive })) PastIndex
    (λ small. (some-value ds some, leb-true (value_of ds) most_index small))
    (λ _. tt))
    (λ _. tt)

term-fits : (word : List ℕ) → Fits (term_token word)
term-fits word =
    either Fits (slice_index word 0 == 43) _ _ (λ _. number-fits true (drop 1 word))
    (λ _. either Fits (slice_index word 0 == 45) _ _ (λ _. number-fits false (drop 1 word))
    (λ _. either Fits (slice_index word 0 == 120) _ _ (λ _. literal-fits true (drop 1 word))
    (λ _. either Fits (slice_index word 0 == 126 && slice_index word 1 == 120) _ _ (λ _. literal-fits false (drop 2 word))
    (λ _. number-fits true word))))

token-fits : (word : List ℕ) → Fits (token_of word)
token-fits word =
    either Fits (bytes_eq word (codes ";")) _ _ (λ _. tt)
    (λ _. either Fits (bytes_eq word (codes ">=")) _ _ (λ _. tt)
    (λ _. either Fits (bytes_eq word (codes "<=")) _ _ (λ _. tt)
    (λ _. either Fits (bytes_eq word (codes "=")) _ _ (λ _. tt)
    (λ _. either Fits (bytes_eq word (codes "min:")) _ _ (λ _. tt) (λ _. term-fits word)))))

words-fit : (ws : List (List ℕ)) → AllFit (map token_of ws)
words-fit [] = tt
words-fit (w ∷ ws) = (token-fits w, words-fit ws)

fit-append : (xs ys : List Token) → AllFit xs → AllFit ys → AllFit (xs ++ ys)
fit-append [] ys h k = k
fit-append (x ∷ xs) ys h k = (h.0, fit-append xs ys h.1 k)

line-fits : (line : List ℕ) → AllFit (line_tokens line)
line-fits line = either AllFit (is_comment line) [] (map token_of (line_words line)) (λ _. tt) (λ _. words-fit (line_words line))

lines-fit : (lines : List (List ℕ)) → AllFit (lines_tokens lines)
lines-fit [] = tt
lines-fit (line ∷ lines) = fit-append (line_tokens line) (lines_tokens lines) (line-fits line) (lines-fit lines)

-- what is spelled by them

fit-front : (xs ys : List Token) → AllFit (xs ++ ys) → AllFit xs × AllFit ys
fit-front [] ys h = (tt, h)
fit-front (x ∷ xs) ys h = let r = fit-front xs ys h.1 in ((h.0, r.0), r.1)

terms-fit : (vars : ℕ) (ts : List Term) → AllFit (terms_tokens ts) → terms_index ts ≤ vars → TermsFit vars ts
terms-fit vars [] h k = tt
terms-fit vars (t ∷ ts) h k =
    (record { from_one = h.1.0.0; to_last = omega (arith, k); in_limit = h.0 }, terms-fit vars ts h.1.1 (omega (arith, k)))

constraints-fit : (vars : ℕ) (cs : List Constraint) → AllFit (constraints_tokens cs) → constraints_index cs ≤ vars → ConstraintsFit vars cs
constraints-fit vars [] h k = tt
constraints-fit vars (c ∷ cs) h k =
    let first = fit-front (constraint_tokens c) (constraints_tokens cs) h in
    let parts = fit-front (terms_tokens c.terms) (Compare c.comparison ∷ Number c.bound ∷ Semicolon ∷ []) first.0 in
    ((terms-fit vars c.terms parts.0 (omega (arith, k)), parts.1.1.0), constraints-fit vars cs first.1 (omega (arith, k)))

objective-fits : (vars : ℕ) (o : Option Objective) → AllFit (objective_tokens o) → objective_index o ≤ vars → TermsFit vars (objective_terms o)
objective-fits vars None h k = tt
objective-fits vars (Some o) h k = terms-fit vars o.terms (fit-front (terms_tokens o.terms) (Semicolon ∷ []) h.1).0 k

terms-most : (ts : List Term) → AllFit (terms_tokens ts) → terms_index ts ≤ most_index
terms-most [] h = omega arith
terms-most (t ∷ ts) h = omega (arith, h.1.0.1, terms-most ts h.1.1)

constraints-most : (cs : List Constraint) → AllFit (constraints_tokens cs) → constraints_index cs ≤ most_index
constraints-most [] h = omega arith
constraints-most (c ∷ cs) h =
    let first = fit-front (constraint_tokens c) (constraints_tokens cs) h in
    let parts = fit-front (terms_tokens c.terms) (Compare c.comparison ∷ Number c.bound ∷ Semicolon ∷ []) first.0 in
    omega (arith, terms-most c.terms parts.0, constraints-most cs first.1)

objective-most : (o : Option Objective) → AllFit (objective_tokens o) → objective_index o ≤ most_index
objective-most None h = omega arith
objective-most (Some o) h = terms-most o.terms (fit-front (terms_tokens o.terms) (Semicolon ∷ []) h.1).0

-- how many tokens there are

before-length : (b : ℕ) (ws : List (List ℕ)) → length (before_first b ws) ≤ 1 + length ws
before-length b [] = omega arith
before-length b (w ∷ ws) = omega arith

words-length : (line : List ℕ) → length (line_words line) ≤ length line
words-length [] = omega arith
words-length (b ∷ bs) =
    let rest = words-length bs in
    let P : List (List ℕ) → Type 0 = λ ws. length ws ≤ length (b ∷ bs) in
    either P (is_gap b) _ _ (λ _. omega (arith, rest))
    (λ _. either P (b == 59) _ _ (λ _. omega (arith, rest))
    (λ _. either P (goes_on bs) _ _ (λ _. omega (arith, rest, before-length b (line_words bs))) (λ _. omega (arith, rest))))

line-length : (line : List ℕ) → length (line_tokens line) ≤ length line
line-length line =
    let P : List Token → Type 0 = λ ts. length ts ≤ length line in
    either P (is_comment line) [] (map token_of (line_words line)) (λ _. omega arith) (λ _. omega (arith, length-map (line_words line) token_of, words-length line))

joined-length : (lines : List (List ℕ)) (last : List ℕ) → length (lines_tokens (lines ++ last ∷ [])) ≤ length (join_lines lines ++ last)
joined-length [] last = omega (arith, line-length last, length-append (line_tokens last) [])
joined-length (line ∷ lines) last =
    omega (
      arith,
      line-length line,
      joined-length lines last,
      length-append (line_tokens line) (lines_tokens (lines ++ last ∷ [])),
      length-append (line ++ 10 ∷ join_lines lines) last,
      length-append line (10 ∷ join_lines lines),
      length-append (join_lines lines) last,
    )

text-length : (text : List ℕ) → length (text_tokens text) ≤ length text
text-length text = omega (arith, joined-length (lines_of text) (unfinished text), ap length (join_lines-lines_of text))

terms-length : (ts : List Term) → length (terms_tokens ts) ≡ 2 * length ts
terms-length [] = refl
terms-length (t ∷ ts) = omega (arith, terms-length ts)

constraints-short : (most : ℕ) (cs : List Constraint) → length (constraints_tokens cs) ≤ most → AreShort most cs
constraints-short most [] h = tt
constraints-short most (c ∷ cs) h =
    let all = length-append (constraint_tokens c) (constraints_tokens cs) in
    let one = length-append (terms_tokens c.terms) (Compare c.comparison ∷ Number c.bound ∷ Semicolon ∷ []) in
    (omega (arith, all, one, terms-length c.terms), constraints-short most cs (omega (arith, all)))

objective-short : (o : Option Objective) → 2 * length (objective_terms o) ≤ length (objective_tokens o)
objective-short None = omega arith
objective-short (Some o) = omega (arith, terms-length o.terms, length-append (terms_tokens o.terms) (Semicolon ∷ []))

pub read_fits : ReadFits
read_fits text opb is =
    let o = opb.objective in
    let cs = opb.constraints in
    let parts = fit-front (objective_tokens o) (constraints_tokens cs) (subst AllFit is.tokens (lines-fit (text_lines text))) in
    let most : opb.vars ≤ most_index = omega (arith, is.vars, objective-most o parts.0, constraints-most cs parts.1) in
    let count = length-append (objective_tokens o) (constraints_tokens cs) in
    let all : length (opb_tokens o cs) ≤ length text = omega (arith, text-length text, ap length is.tokens) in (
      record {
        vars = most;
        sums = is.sums;
        objective = objective-fits opb.vars o parts.0 (omega (arith, is.vars));
        constraints = constraints-fit opb.vars cs parts.1 (omega (arith, is.vars));
      },
      record {
        objective = omega (arith, objective-short o, count, all);
        constraints = constraints-short (length text) cs (omega (arith, count, all));
      },
    )
