-- The canonical text of a syntax has the tokens that spell it.
use Rattle.std.proofs.Common.{◌≡◌, ◌≢◌, ℕ, zero, suc, ◌+◌, ◌^◌, ◌≤◌, ◌<◌, Bool, true, false, cond, Option, Some, None, List, [], ◌∷◌, ◌++◌, length, refl, sym, ap, ◌∙◌, subst, inl, inr, one-add, arith, rules, le-ltb, pos, negsuc, neg_ℤ, ℤ, append_assoc, append-nil}
use Rattle.std.specs.Prelude.{codes, ◌&&◌, ◌||◌, not, unsigned_abs}
use Rattle.std.specs.Fmt.{decimal}
use Rattle.std.specs.List.{prefix_len, list_all, flat_map}
use Rattle.std.proofs.Math.Seq.{take-append_seam, drop-append_seam}
use Rattle.std.proofs.lemmas.Bool.{false≢true}
use Rattle.std.proofs.lemmas.Bool.Decides.{nat_tests}
use Rattle.std.proofs.lemmas.Str.Parse.{IsNumeralModel, numerals_by_fold}
use Rattle.std.proofs.lemmas.Fmt.{digits_decimal, digits_value-decimal, decimal_nonempty}
use Rattle.bumblebee_reader.specs.declared.syntax.Item.{Item}
use Rattle.bumblebee_reader.specs.declared.syntax.Item.TheVariants.{Call, Goal}
use Rattle.bumblebee_reader.specs.declared.syntax.Arg.{Arg}
use Rattle.bumblebee_reader.specs.declared.syntax.Arg.TheVariants.{One, Many}
use Rattle.bumblebee_reader.specs.declared.syntax.Term.{Term}
use Rattle.bumblebee_reader.specs.declared.syntax.Term.TheVariants.{Plain, Minus, Number}
use Rattle.bumblebee_reader.specs.declared.syntax.GoalKind.TheVariants.{Satisfy, Minimize, Maximize}
use Rattle.bumblebee_reader.specs.declared.lexeme.Sign.TheVariants.{OpenCall, CloseCall, OpenList, CloseList, Comma, Dash}
use Rattle.bumblebee_reader.specs.Bytes.{is_letter, is_digit, is_word}
use Rattle.bumblebee_reader.specs.Tokens.{Token, TokenAt, Word, Digits, Mark, token_from, length_from, next_line, with_token, tokens_behind, tokens_at}
use Rattle.bumblebee_reader.specs.Numeral.{number_of, number_behind, is_too_great}
use Rattle.bumblebee_reader.specs.Grammar.{SpellsTerm, SpellsTerms, SpellsMembers, SpellsArg, SpellsArgs, SpellsSecond, SpellsItem, Spells, AllWithin, kinds, IsText}
use Rattle.bumblebee_reader.specs.Canonical.{term_text, next_term_text, terms_text, arg_text, next_arg_text, args_text, name_text, item_line, canonical}
use Rattle.bumblebee_reader.specs.Names.{is_name}
use Rattle.bumblebee_reader.specs.Spellable.{IsSpellableTerm, AreSpellableTerms, IsSpellableArg, AreSpellableArgs, IsSpellableSecond, IsSpellableItem, AreSpellableItems}
use Rattle.bumblebee_reader.specs.Laws.{CanonicalIsText, RoundTrip}
use Rattle.bumblebee_reader.proofs.Scan.{tokens_at-cons}
use Rattle.bumblebee_reader.proofs.Shapes.{text_is_spellable_lem}
use Rattle.bumblebee_reader.proofs.Text.{one_syntax_lem}

-- tokens do not depend on the line on which the bytes begin
with_token-kinds : (t : Option Token) (line line' : ℕ) (ts us : List TokenAt) → kinds ts ≡ kinds us → kinds (with_token t line ts) ≡ kinds (with_token t line' us)
with_token-kinds None line line' ts us e = e
with_token-kinds (Some t) line line' ts us e = ap (λ l. t ∷ l) e

kinds_any_line : (bs : List ℕ) (n line line' : ℕ) → kinds (tokens_behind n line bs) ≡ kinds (tokens_behind n line' bs)
kinds_any_line [] n line line' = refl
kinds_any_line (b ∷ bs) zero line line' =
    with_token-kinds (token_from b bs) line line' (tokens_behind (length_from b bs) (next_line line b) bs) (tokens_behind (length_from b bs) (next_line line' b) bs) (kinds_any_line bs (length_from b bs) (next_line line b) (next_line line' b))
kinds_any_line (b ∷ bs) (suc n) line line' = kinds_any_line bs n line line'

-- the kinds of the tokens of bytes
abbrev scan : List ℕ → List Token
scan bs = kinds (tokens_at 1 bs)

scan_line : (line : ℕ) (bs : List ℕ) → kinds (tokens_at line bs) ≡ scan bs
scan_line line bs = kinds_any_line bs 0 line 1

-- no byte of the kind stands at the front
abbrev stops : (ℕ → Bool) → List ℕ → Bool
stops p [] = true
stops p (b ∷ bs) = not (p b)

prefix_all_at : (p : ℕ → Bool) (bs : List ℕ) → stops p bs ≡ true → prefix_len p bs ≡ 0
prefix_all_at p [] h = refl
prefix_all_at p (b ∷ bs) h = stop_at (p b) (1 + prefix_len p bs) h
  where
    stop_at : (t : Bool) (n : ℕ) → not t ≡ true → cond t n 0 ≡ 0
    stop_at true n h = absurd (false≢true h)
    stop_at false n h = refl

and-left : (x y : Bool) → (x && y) ≡ true → x ≡ true
and-left true y h = refl
and-left false y h = absurd (false≢true h)

and-right : (x y : Bool) → (x && y) ≡ true → y ≡ true
and-right true y h = h
and-right false y h = absurd (false≢true h)

prefix_all : (p : ℕ → Bool) (xs bs : List ℕ) → list_all p xs ≡ true → stops p bs ≡ true → prefix_len p (xs ++ bs) ≡ length xs
prefix_all p [] bs h s = prefix_all_at p bs s
prefix_all p (x ∷ xs) bs h s =
    let rest = prefix_all p xs bs (and-right (p x) (list_all p xs) h) s in
    let first = and-left (p x) (list_all p xs) h in
    rw (first, rest, one-add) refl

-- bytes of one kind in a row, and what stands behind it
scan_word : (b : ℕ) (xs bs : List ℕ) → is_letter b ≡ true → list_all is_word xs ≡ true → stops is_word bs ≡ true → scan (b ∷ (xs ++ bs)) ≡ Word (b ∷ xs) ∷ scan bs
scan_word b xs bs letter words s =
    let n = prefix_all is_word xs bs words s in
    ap kinds (tokens_at-cons 1 b (xs ++ bs))
    ∙ (rw (letter, n, take-append_seam, drop-append_seam xs bs) (ap (λ l. Word (b ∷ xs) ∷ l) (scan_line (next_line 1 b) bs)))

pub scan_name : (name bs : List ℕ) → is_name name ≡ true → stops is_word bs ≡ true → scan (name ++ bs) ≡ Word name ∷ scan bs
scan_name [] bs h s = absurd (false≢true h)
scan_name (b ∷ xs) bs h s =
    scan_word b xs bs (and-left (is_letter b) (list_all is_word xs) h) (and-right (is_letter b) (list_all is_word xs) h) s

digit_no_letter : (b : ℕ) → is_digit b ≡ true → is_letter b ≡ false
digit_no_letter b h = grind (arith, nat_tests)

not_or-right : (x y : Bool) → not (x || y) ≡ true → not y ≡ true
not_or-right true y h = absurd (false≢true h)
not_or-right false y h = h

stops_digit : (bs : List ℕ) → stops is_word bs ≡ true → stops is_digit bs ≡ true
stops_digit [] h = refl
stops_digit (b ∷ bs) h = not_or-right (is_letter b) (is_digit b) h

scan_digits : (ds bs : List ℕ) → list_all is_digit ds ≡ true → 0 < length ds → stops is_word bs ≡ true → scan (ds ++ bs) ≡ Digits ds ∷ scan bs
scan_digits [] bs h some s = absurd (omega arith)
scan_digits (b ∷ xs) bs h some s =
    let digit = and-left (is_digit b) (list_all is_digit xs) h in
    let letter = digit_no_letter b digit in
    let n = prefix_all is_digit xs bs (and-right (is_digit b) (list_all is_digit xs) h) (stops_digit bs s) in
    ap kinds (tokens_at-cons 1 b (xs ++ bs))
    ∙ (rw (letter, digit, n, take-append_seam, drop-append_seam xs bs) (ap (λ l. Digits (b ∷ xs) ∷ l) (scan_line (next_line 1 b) bs)))

own : IsNumeralModel (λ ds. list_all is_digit ds ≡ true) (number_behind 0)
own = numerals_by_fold _ (search rules) number_behind (search rules)

number_of-decimal : (n : ℕ) → n < 2 ^ 64 → number_of (decimal n) ≡ n
number_of-decimal n h = digits_value-decimal own n h

scan_decimal : (n : ℕ) (bs : List ℕ) → n < 2 ^ 64 → stops is_word bs ≡ true → scan (decimal n ++ bs) ≡ Digits (decimal n) ∷ scan bs
scan_decimal n bs h s = scan_digits (decimal n) bs (digits_decimal own n h) (decimal_nonempty n h) s

-- the tokens of the canonical text

abbrev term_tokens : Term → List Token
term_tokens (Plain name) = Word name ∷ []
term_tokens (Minus name) = Mark Dash ∷ Word name ∷ []
term_tokens (Number (pos n)) = Digits (decimal n) ∷ []
term_tokens (Number (negsuc n)) = Mark Dash ∷ Digits (decimal (suc n)) ∷ []

abbrev next_term_tokens : Term → List Token
next_term_tokens t = Mark Comma ∷ term_tokens t

abbrev terms_tokens : List Term → List Token
terms_tokens [] = []
terms_tokens (t ∷ terms) = term_tokens t ++ flat_map next_term_tokens terms

abbrev arg_tokens : Arg → List Token
arg_tokens (One t) = term_tokens t
arg_tokens (Many terms) = Mark OpenList ∷ (terms_tokens terms ++ Mark CloseList ∷ [])

abbrev next_arg_tokens : Arg → List Token
next_arg_tokens a = Mark Comma ∷ arg_tokens a

abbrev args_tokens : List Arg → List Token
args_tokens [] = []
args_tokens (a ∷ args) = arg_tokens a ++ flat_map next_arg_tokens args

abbrev second_tokens : Option (List ℕ) → List Token
second_tokens None = []
second_tokens (Some second) = Word (codes "then") ∷ Word second ∷ []

abbrev item_tokens : Item → List Token
item_tokens (Call name args) = Word name ∷ Mark OpenCall ∷ (args_tokens args ++ Mark CloseCall ∷ [])
item_tokens (Goal Satisfy None None) = Word (codes "solve") ∷ Word (codes "satisfy") ∷ []
item_tokens (Goal Satisfy None (Some second)) = []
item_tokens (Goal Satisfy (Some name) second) = []
item_tokens (Goal Minimize None second) = []
item_tokens (Goal Minimize (Some name) second) = Word (codes "solve") ∷ Word (codes "minimize") ∷ Word name ∷ second_tokens second
item_tokens (Goal Maximize None second) = []
item_tokens (Goal Maximize (Some name) second) = Word (codes "solve") ∷ Word (codes "maximize") ∷ Word name ∷ second_tokens second

small : (n : ℕ) → n ≤ 1073741824 → n < 2 ^ 64
small n h = omega arith

scan_term : (t : Term) (bs : List ℕ) → IsSpellableTerm t → stops is_word bs ≡ true → scan (term_text t ++ bs) ≡ term_tokens t ++ scan bs
scan_term (Plain name) bs h s = scan_name name bs h s
scan_term (Minus name) bs h s = ap (λ l. Mark Dash ∷ l) (scan_name name bs h s)
scan_term (Number (pos n)) bs h s = scan_decimal n bs (small n h) s
scan_term (Number (negsuc n)) bs h s = ap (λ l. Mark Dash ∷ l) (scan_decimal (suc n) bs (small (suc n) h) s)

stops_terms : (terms : List Term) (bs : List ℕ) → stops is_word bs ≡ true → stops is_word (flat_map next_term_text terms ++ bs) ≡ true
stops_terms [] bs s = s
stops_terms (t ∷ terms) bs s = refl

scan_next_terms : (terms : List Term) (bs : List ℕ) → AreSpellableTerms terms → stops is_word bs ≡ true → scan (flat_map next_term_text terms ++ bs) ≡ flat_map next_term_tokens terms ++ scan bs
scan_next_terms [] bs h s = refl
scan_next_terms (t ∷ terms) bs h s =
    ap (λ l. scan (44 ∷ l)) (append_assoc (term_text t) (flat_map next_term_text terms) bs)
    ∙ ap (λ l. Mark Comma ∷ l) (scan_term t (flat_map next_term_text terms ++ bs) h.0 (stops_terms terms bs s) ∙ ap (λ l. term_tokens t ++ l) (scan_next_terms terms bs h.1 s) ∙ sym (append_assoc (term_tokens t) (flat_map next_term_tokens terms) (scan bs)))

scan_terms : (terms : List Term) (bs : List ℕ) → AreSpellableTerms terms → stops is_word bs ≡ true → scan (terms_text terms ++ bs) ≡ terms_tokens terms ++ scan bs
scan_terms [] bs h s = refl
scan_terms (t ∷ terms) bs h s =
    ap scan (append_assoc (term_text t) (flat_map next_term_text terms) bs)
    ∙ scan_term t (flat_map next_term_text terms ++ bs) h.0 (stops_terms terms bs s)
    ∙ ap (λ l. term_tokens t ++ l) (scan_next_terms terms bs h.1 s)
    ∙ sym (append_assoc (term_tokens t) (flat_map next_term_tokens terms) (scan bs))

scan_arg : (a : Arg) (bs : List ℕ) → IsSpellableArg a → stops is_word bs ≡ true → scan (arg_text a ++ bs) ≡ arg_tokens a ++ scan bs
scan_arg (One t) bs h s = scan_term t bs h s
scan_arg (Many terms) bs h s =
    ap (λ l. scan (91 ∷ l)) (append_assoc (terms_text terms) (codes "]") bs)
    ∙ ap (λ l. Mark OpenList ∷ l) (scan_terms terms (93 ∷ bs) h refl ∙ sym (append_assoc (terms_tokens terms) (Mark CloseList ∷ []) (scan bs)))

stops_args : (args : List Arg) (bs : List ℕ) → stops is_word bs ≡ true → stops is_word (flat_map next_arg_text args ++ bs) ≡ true
stops_args [] bs s = s
stops_args (a ∷ args) bs s = refl

scan_next_args : (args : List Arg) (bs : List ℕ) → AreSpellableArgs args → stops is_word bs ≡ true → scan (flat_map next_arg_text args ++ bs) ≡ flat_map next_arg_tokens args ++ scan bs
scan_next_args [] bs h s = refl
scan_next_args (a ∷ args) bs h s =
    ap (λ l. scan (44 ∷ l)) (append_assoc (arg_text a) (flat_map next_arg_text args) bs)
    ∙ ap (λ l. Mark Comma ∷ l) (scan_arg a (flat_map next_arg_text args ++ bs) h.0 (stops_args args bs s) ∙ ap (λ l. arg_tokens a ++ l) (scan_next_args args bs h.1 s) ∙ sym (append_assoc (arg_tokens a) (flat_map next_arg_tokens args) (scan bs)))

scan_args : (args : List Arg) (bs : List ℕ) → AreSpellableArgs args → stops is_word bs ≡ true → scan (args_text args ++ bs) ≡ args_tokens args ++ scan bs
scan_args [] bs h s = refl
scan_args (a ∷ args) bs h s =
    ap scan (append_assoc (arg_text a) (flat_map next_arg_text args) bs)
    ∙ scan_arg a (flat_map next_arg_text args ++ bs) h.0 (stops_args args bs s)
    ∙ ap (λ l. arg_tokens a ++ l) (scan_next_args args bs h.1 s)
    ∙ sym (append_assoc (arg_tokens a) (flat_map next_arg_tokens args) (scan bs))

scan_call : (name : List ℕ) (args : List Arg) (bs : List ℕ) → is_name name ≡ true → AreSpellableArgs args → scan (item_line (Call name args) ++ bs) ≡ item_tokens (Call name args) ++ scan bs
scan_call name args bs h hs =
    let whole : item_line (Call name args) ++ bs ≡ name ++ (40 ∷ (args_text args ++ (41 ∷ 10 ∷ bs))) = simp append_assoc in
    ap scan whole
    ∙ scan_name name (40 ∷ (args_text args ++ (41 ∷ 10 ∷ bs))) h refl
    ∙ ap (λ l. Word name ∷ Mark OpenCall ∷ l) (scan_args args (41 ∷ 10 ∷ bs) hs refl ∙ ap (λ l. args_tokens args ++ Mark CloseCall ∷ l) (scan_line 2 bs) ∙ sym (append_assoc (args_tokens args) (Mark CloseCall ∷ []) (scan bs)))

-- a name at the end of a line
scan_last : (name bs : List ℕ) → is_name name ≡ true → scan (name ++ 10 ∷ bs) ≡ Word name ∷ scan bs
scan_last name bs h = scan_name name (10 ∷ bs) h refl ∙ ap (λ l. Word name ∷ l) (scan_line 2 bs)

scan_objective : (name : List ℕ) (second : Option (List ℕ)) (bs : List ℕ) → is_name name ≡ true → IsSpellableSecond second → scan (((name ++ name_text (codes " then ") second) ++ 10 ∷ []) ++ bs) ≡ (Word name ∷ second_tokens second) ++ scan bs
scan_objective name None bs h k =
    let whole : ((name ++ []) ++ 10 ∷ []) ++ bs ≡ name ++ 10 ∷ bs = simp (append_assoc, append-nil) in
    ap scan whole ∙ scan_last name bs h
scan_objective name (Some second) bs h k =
    let whole : ((name ++ (codes " then " ++ second)) ++ 10 ∷ []) ++ bs ≡ name ++ (codes " then " ++ (second ++ 10 ∷ bs)) = simp append_assoc in
    ap scan whole
    ∙ scan_name name (codes " then " ++ (second ++ 10 ∷ bs)) h refl
    ∙ ap (λ l. Word name ∷ Word (codes "then") ∷ l) (scan_last second bs k)

scan_item : (i : Item) (bs : List ℕ) → IsSpellableItem i → scan (item_line i ++ bs) ≡ item_tokens i ++ scan bs
scan_item (Call name args) bs h = scan_call name args bs h.0 h.4
scan_item (Goal Satisfy None None) bs h =
    ap (λ l. Word (codes "solve") ∷ Word (codes "satisfy") ∷ l) (scan_line 2 bs)
scan_item (Goal Satisfy None (Some second)) bs h = absurd h
scan_item (Goal Satisfy (Some name) second) bs h = absurd h
scan_item (Goal Minimize None second) bs h = absurd h
scan_item (Goal Minimize (Some name) second) bs h =
    ap (λ l. Word (codes "solve") ∷ Word (codes "minimize") ∷ l) (scan_objective name second bs h.0 h.1)
scan_item (Goal Maximize None second) bs h = absurd h
scan_item (Goal Maximize (Some name) second) bs h =
    ap (λ l. Word (codes "solve") ∷ Word (codes "maximize") ∷ l) (scan_objective name second bs h.0 h.1)

scan_items : (is : List Item) → AreSpellableItems is → scan (flat_map item_line is) ≡ flat_map item_tokens is
scan_items [] h = refl
scan_items (i ∷ is) h =
    scan_item i (flat_map item_line is) h.0 ∙ ap (λ l. item_tokens i ++ l) (scan_items is h.1)

-- these tokens spell the syntax

spells_number : (z : ℤ) → unsigned_abs z ≤ 1073741824 → SpellsTerm (term_tokens (Number z)) (Number z)
spells_number (pos n) h =
    (decimal n, inl (refl, ap pos (sym (number_of-decimal n (small n h)))))
spells_number (negsuc n) h =
    (decimal (suc n), inr (refl, ap (λ k. neg_ℤ (pos k)) (sym (number_of-decimal (suc n) (small (suc n) h)))))

spells_term : (t : Term) → IsSpellableTerm t → SpellsTerm (term_tokens t) t
spells_term (Plain name) h = refl
spells_term (Minus name) h = refl
spells_term (Number z) h = spells_number z h

spells_terms : (t : Term) (terms : List Term) → IsSpellableTerm t → AreSpellableTerms terms → SpellsTerms (term_tokens t ++ flat_map next_term_tokens terms) (t ∷ terms)
spells_terms t [] h hs = subst (λ l. SpellsTerm l t) (sym (append-nil (term_tokens t))) (spells_term t h)
spells_terms t (t' ∷ terms) h hs =
    (term_tokens t, terms_tokens (t' ∷ terms), refl, spells_term t h, spells_terms t' terms hs.0 hs.1)

spells_members : (terms : List Term) → AreSpellableTerms terms → SpellsMembers (terms_tokens terms) terms
spells_members [] h = refl
spells_members (t ∷ terms) h = spells_terms t terms h.0 h.1

spells_arg : (a : Arg) → IsSpellableArg a → SpellsArg (arg_tokens a) a
spells_arg (One t) h = spells_term t h
spells_arg (Many terms) h = (terms_tokens terms, refl, spells_members terms h)

spells_args : (a : Arg) (args : List Arg) → IsSpellableArg a → AreSpellableArgs args → SpellsArgs (arg_tokens a ++ flat_map next_arg_tokens args) (a ∷ args)
spells_args a [] h hs = subst (λ l. SpellsArg l a) (sym (append-nil (arg_tokens a))) (spells_arg a h)
spells_args a (a' ∷ args) h hs =
    (arg_tokens a, args_tokens (a' ∷ args), refl, spells_arg a h, spells_args a' args hs.0 hs.1)

spells_call : (name : List ℕ) (args : List Arg) → name ≢ codes "solve" → name ≢ codes "then" → args ≢ [] → AreSpellableArgs args → SpellsItem (item_tokens (Call name args)) (Call name args)
spells_call name [] other another some h = absurd (some refl)
spells_call name (a ∷ args) other another some h =
    (other, another, args_tokens (a ∷ args), refl, spells_args a args h.0 h.1)

spells_second : (second : Option (List ℕ)) → SpellsSecond (second_tokens second) second
spells_second None = refl
spells_second (Some second) = (Word second ∷ [], refl, inl refl)

spells_item : (i : Item) → IsSpellableItem i → SpellsItem (item_tokens i) i
spells_item (Call name args) h = spells_call name args h.1 h.2 h.3 h.4
spells_item (Goal Satisfy None None) h = refl
spells_item (Goal Satisfy None (Some second)) h = h
spells_item (Goal Satisfy (Some name) second) h = h
spells_item (Goal Minimize None second) h = h
spells_item (Goal Minimize (Some name) second) h =
    (Word name ∷ second_tokens second, refl, (Word name ∷ [], second_tokens second, refl, inl refl, spells_second second))
spells_item (Goal Maximize None second) h = h
spells_item (Goal Maximize (Some name) second) h =
    (Word name ∷ second_tokens second, refl, (Word name ∷ [], second_tokens second, refl, inl refl, spells_second second))

spells_items : (is : List Item) → AreSpellableItems is → Spells (flat_map item_tokens is) is
spells_items [] h = refl
spells_items (i ∷ is) h =
    (item_tokens i, flat_map item_tokens is, refl, spells_item i h.0, spells_items is h.1)

-- these tokens are within the bound

within_append : (us vs : List Token) → AllWithin us → AllWithin vs → AllWithin (us ++ vs)
within_append [] vs h k = k
within_append (u ∷ us) vs h k = (h.0, within_append us vs h.1 k)

within_decimal : (n : ℕ) → n ≤ 1073741824 → is_too_great (Digits (decimal n)) ≡ false
within_decimal n h = le-ltb 1073741824 (number_of (decimal n)) (omega (arith, number_of-decimal n (small n h)))

within_term : (t : Term) → IsSpellableTerm t → AllWithin (term_tokens t)
within_term (Plain name) h = (refl, tt)
within_term (Minus name) h = (refl, (refl, tt))
within_term (Number (pos n)) h = (within_decimal n h, tt)
within_term (Number (negsuc n)) h = (refl, (within_decimal (suc n) h, tt))

within_next_terms : (terms : List Term) → AreSpellableTerms terms → AllWithin (flat_map next_term_tokens terms)
within_next_terms [] h = tt
within_next_terms (t ∷ terms) h =
    (refl, within_append (term_tokens t) (flat_map next_term_tokens terms) (within_term t h.0) (within_next_terms terms h.1))

within_terms : (terms : List Term) → AreSpellableTerms terms → AllWithin (terms_tokens terms)
within_terms [] h = tt
within_terms (t ∷ terms) h =
    within_append (term_tokens t) (flat_map next_term_tokens terms) (within_term t h.0) (within_next_terms terms h.1)

within_arg : (a : Arg) → IsSpellableArg a → AllWithin (arg_tokens a)
within_arg (One t) h = within_term t h
within_arg (Many terms) h =
    (refl, within_append (terms_tokens terms) (Mark CloseList ∷ []) (within_terms terms h) (refl, tt))

within_next_args : (args : List Arg) → AreSpellableArgs args → AllWithin (flat_map next_arg_tokens args)
within_next_args [] h = tt
within_next_args (a ∷ args) h =
    (refl, within_append (arg_tokens a) (flat_map next_arg_tokens args) (within_arg a h.0) (within_next_args args h.1))

within_args : (args : List Arg) → AreSpellableArgs args → AllWithin (args_tokens args)
within_args [] h = tt
within_args (a ∷ args) h =
    within_append (arg_tokens a) (flat_map next_arg_tokens args) (within_arg a h.0) (within_next_args args h.1)

within_second : (second : Option (List ℕ)) → AllWithin (second_tokens second)
within_second None = tt
within_second (Some second) = (refl, (refl, tt))

within_item : (i : Item) → IsSpellableItem i → AllWithin (item_tokens i)
within_item (Call name args) h =
    (refl, (refl, within_append (args_tokens args) (Mark CloseCall ∷ []) (within_args args h.4) (refl, tt)))
within_item (Goal Satisfy None None) h = (refl, (refl, tt))
within_item (Goal Satisfy None (Some second)) h = tt
within_item (Goal Satisfy (Some name) second) h = tt
within_item (Goal Minimize None second) h = tt
within_item (Goal Minimize (Some name) second) h = (refl, (refl, (refl, within_second second)))
within_item (Goal Maximize None second) h = tt
within_item (Goal Maximize (Some name) second) h = (refl, (refl, (refl, within_second second)))

within_items : (is : List Item) → AreSpellableItems is → AllWithin (flat_map item_tokens is)
within_items [] h = tt
within_items (i ∷ is) h =
    within_append (item_tokens i) (flat_map item_tokens is) (within_item i h.0) (within_items is h.1)

-- laws

pub canonical_is_text_lem : CanonicalIsText
canonical_is_text_lem s h =
    let e = scan_items s.items h in
    record {
      spelled = subst (λ l. Spells l s.items) (sym e) (spells_items s.items h);
      within = subst AllWithin (sym e) (within_items s.items h);
    }

pub round_trip_lem : RoundTrip
round_trip_lem text s h t =
    let printed = canonical_is_text_lem s (text_is_spellable_lem text s h) in
    (λ k. one_syntax_lem (canonical s) t s k printed, λ e. subst (λ u. IsText (canonical s) u) (sym e) printed)
