-- The tokens of a text have the shape of their kind, so what they spell can be spelled.
use Rattle.std.proofs.Common.{◌≡◌, ◌≢◌, ℕ, zero, suc, ◌+◌, ◌≤◌, Bool, true, false, cond, Option, Some, None, List, [], ◌∷◌, ◌++◌, take, refl, ◌∙◌, subst, ⊎_elim, one-add, pos, neg_ℤ}
use Rattle.std.specs.Prelude.{codes, nat_lt, unsigned_abs}
use Rattle.std.specs.List.{prefix_len, take_while, list_all}
use Rattle.std.proofs.lemmas.Bool.{ltb-false}
use Rattle.bumblebee_reader.specs.declared.syntax.Item.{Item}
use Rattle.bumblebee_reader.specs.declared.syntax.Item.TheVariants.{Call, Goal}
use Rattle.bumblebee_reader.specs.declared.syntax.Arg.{Arg}
use Rattle.bumblebee_reader.specs.declared.syntax.Arg.TheVariants.{One, Many}
use Rattle.bumblebee_reader.specs.declared.syntax.Term.{Term}
use Rattle.bumblebee_reader.specs.declared.syntax.Term.TheVariants.{Plain, Minus, Number}
use Rattle.bumblebee_reader.specs.declared.syntax.GoalKind.TheVariants.{Satisfy, Minimize, Maximize}
use Rattle.bumblebee_reader.specs.declared.lexeme.Sign.TheVariants.{OpenCall, CloseCall, OpenList, CloseList, Comma, Dash}
use Rattle.bumblebee_reader.specs.Bytes.{is_letter, is_digit, is_word}
use Rattle.bumblebee_reader.specs.Tokens.{Token, TokenAt, Word, Digits, Mark, Stray, token_from, length_from, next_line, with_token, tokens_behind, tokens, begins_gap, lone_token}
use Rattle.bumblebee_reader.specs.Numeral.{number_of, is_too_great}
use Rattle.bumblebee_reader.specs.Grammar.{SpellsTerm, SpellsTerms, SpellsMembers, SpellsArg, SpellsArgs, SpellsObjective, SpellsSecond, SpellsObjectives, SpellsItem, Spells, AllWithin, kinds}
use Rattle.bumblebee_reader.specs.Names.{is_name}
use Rattle.bumblebee_reader.specs.Spellable.{IsSpellableTerm, AreSpellableTerms, IsSpellableArg, AreSpellableArgs, IsSpellableSecond, IsSpellableItem, AreSpellableItems}
use Rattle.bumblebee_reader.specs.Laws.{TextIsSpellable}

-- a name is a name, and a numeral is within the bound
abbrev IsShaped : Token → Type 0
IsShaped (Word name) = is_name name ≡ true
IsShaped (Digits digits) = Unit {0}
IsShaped (Mark sign) = Unit {0}
IsShaped Stray = Unit {0}

abbrev AllShaped : List Token → Type 0
AllShaped [] = Unit {0}
AllShaped (t ∷ ts) = IsShaped t × AllShaped ts

passes_while_at : (p : ℕ → Bool) (x : ℕ) (xs : List ℕ) (b : Bool) → p x ≡ b → list_all p (take (prefix_len p xs) xs) ≡ true → list_all p (take (cond b (1 + prefix_len p xs) 0) (x ∷ xs)) ≡ true
passes_while_at p x xs true e rest = rw (one-add, e) rest
passes_while_at p x xs false e rest = refl

passes_while : (p : ℕ → Bool) (xs : List ℕ) → list_all p (take_while p xs) ≡ true
passes_while p [] = refl
passes_while p (x ∷ xs) = passes_while_at p x xs (p x) refl (passes_while p xs)

-- the token, if there is one
abbrev IsShapedOption : Option Token → Type 0
IsShapedOption None = Unit {0}
IsShapedOption (Some t) = IsShaped t

shaped_lone : (b : ℕ) (p q r s t u : Bool) → IsShaped (cond p (Mark OpenCall) (cond q (Mark CloseCall) (cond r (Mark OpenList) (cond s (Mark CloseList) (cond t (Mark Comma) (cond u (Mark Dash) Stray))))))
shaped_lone b true q r s t u = tt
shaped_lone b false true r s t u = tt
shaped_lone b false false true s t u = tt
shaped_lone b false false false true t u = tt
shaped_lone b false false false false true u = tt
shaped_lone b false false false false false true = tt
shaped_lone b false false false false false false = tt

shaped_from_at : (b : ℕ) (bs : List ℕ) (letter digit gap : Bool) → is_letter b ≡ letter → IsShapedOption (cond letter (Some (Word (b ∷ take_while is_word bs))) (cond digit (Some (Digits (b ∷ take_while is_digit bs))) (cond gap None (Some (lone_token b)))))
shaped_from_at b bs true digit gap e = rw (e, passes_while is_word bs) refl
shaped_from_at b bs false true gap e = tt
shaped_from_at b bs false false true e = tt
shaped_from_at b bs false false false e = shaped_lone b _ _ _ _ _ _

shaped_from : (b : ℕ) (bs : List ℕ) → IsShapedOption (token_from b bs)
shaped_from b bs = shaped_from_at b bs (is_letter b) (is_digit b) (begins_gap b) refl

shaped_with : (t : Option Token) (line : ℕ) (ts : List TokenAt) → IsShapedOption t → AllShaped (kinds ts) → AllShaped (kinds (with_token t line ts))
shaped_with None line ts h rest = rest
shaped_with (Some t) line ts h rest = (h, rest)

shaped_behind : (bs : List ℕ) (n line : ℕ) → AllShaped (kinds (tokens_behind n line bs))
shaped_behind [] n line = tt
shaped_behind (b ∷ bs) zero line =
    shaped_with (token_from b bs) line (tokens_behind (length_from b bs) (next_line line b) bs) (shaped_from b bs) (shaped_behind bs (length_from b bs) (next_line line b))
shaped_behind (b ∷ bs) (suc n) line = shaped_behind bs n line

-- the tokens of a text: each has its shape and is within the bound
abbrev AllGood : List Token → Type 0
AllGood [] = Unit {0}
AllGood (t ∷ ts) = (IsShaped t × (is_too_great t ≡ false)) × AllGood ts

good : (ts : List Token) → AllShaped ts → AllWithin ts → AllGood ts
good [] shaped within = tt
good (t ∷ ts) shaped within = ((shaped.0, within.0), good ts shaped.1 within.1)

good_left : (us vs : List Token) → AllGood (us ++ vs) → AllGood us
good_left [] vs h = tt
good_left (t ∷ us) vs h = (h.0, good_left us vs h.1)

good_right : (us vs : List Token) → AllGood (us ++ vs) → AllGood vs
good_right [] vs h = h
good_right (t ∷ us) vs h = good_right us vs h.1

good_as : (ts us : List Token) → ts ≡ us → AllGood ts → AllGood us
good_as ts us e h = subst AllGood e h

within_bound : (n : ℕ) (b : Bool) → nat_lt 1073741824 n ≡ b → b ≡ false → n ≤ 1073741824
within_bound n b e f = ltb-false 1073741824 n (e ∙ f)

abs_negated : (n : ℕ) → unsigned_abs (neg_ℤ (pos n)) ≡ n
abs_negated zero = refl
abs_negated (suc n) = refl

spellable_term : (ts : List Token) (t : Term) → SpellsTerm ts t → AllGood ts → IsSpellableTerm t
spellable_term ts (Plain name) h g = (good_as ts (Word name ∷ []) h g).0.0
spellable_term ts (Minus name) h g = (good_as ts (Mark Dash ∷ Word name ∷ []) h g).1.0.0
spellable_term ts (Number z) h g =
    ⊎_elim (λ e. rw e.1 (within_bound (number_of h.0) (nat_lt 1073741824 (number_of h.0)) refl (good_as ts (Digits h.0 ∷ []) e.0 g).0.1)) (λ e. rw (e.1, abs_negated (number_of h.0)) (within_bound (number_of h.0) (nat_lt 1073741824 (number_of h.0)) refl (good_as ts (Mark Dash ∷ Digits h.0 ∷ []) e.0 g).1.0.1)) h.1

spellable_terms : (ts : List Token) (terms : List Term) → SpellsTerms ts terms → AllGood ts → AreSpellableTerms terms
spellable_terms ts [] h g = tt
spellable_terms ts (t ∷ []) h g = (spellable_term ts t h g, tt)
spellable_terms ts (t ∷ t' ∷ terms) h g =
    let k = good_as ts (h.0 ++ Mark Comma ∷ h.1) h.2 g in
    let right = good_right h.0 (Mark Comma ∷ h.1) k in
    (spellable_term h.0 t h.3 (good_left h.0 (Mark Comma ∷ h.1) k), spellable_terms h.1 (t' ∷ terms) h.4 right.1)

spellable_members : (ts : List Token) (terms : List Term) → SpellsMembers ts terms → AllGood ts → AreSpellableTerms terms
spellable_members ts [] h g = tt
spellable_members ts (t ∷ terms) h g = spellable_terms ts (t ∷ terms) h g

spellable_arg : (ts : List Token) (a : Arg) → SpellsArg ts a → AllGood ts → IsSpellableArg a
spellable_arg ts (One t) h g = spellable_term ts t h g
spellable_arg ts (Many terms) h g =
    let k = good_as ts (Mark OpenList ∷ (h.0 ++ Mark CloseList ∷ [])) h.1 g in
    spellable_members h.0 terms h.2 (good_left h.0 (Mark CloseList ∷ []) k.1)

spellable_args : (ts : List Token) (args : List Arg) → SpellsArgs ts args → AllGood ts → AreSpellableArgs args
spellable_args ts [] h g = tt
spellable_args ts (a ∷ []) h g = (spellable_arg ts a h g, tt)
spellable_args ts (a ∷ a' ∷ args) h g =
    let k = good_as ts (h.0 ++ Mark Comma ∷ h.1) h.2 g in
    let right = good_right h.0 (Mark Comma ∷ h.1) k in
    (spellable_arg h.0 a h.3 (good_left h.0 (Mark Comma ∷ h.1) k), spellable_args h.1 (a' ∷ args) h.4 right.1)

some_args : (ts : List Token) (args : List Arg) → SpellsArgs ts args → args ≢ []
some_args ts [] h e = h
some_args ts (a ∷ args) h e = cc

spellable_objective : (ts : List Token) (name : List ℕ) → SpellsObjective ts name → AllGood ts → is_name name ≡ true
spellable_objective ts name h g =
    ⊎_elim (λ e. (good_as ts (Word name ∷ []) e g).0.0) (λ e. (good_as ts (Mark OpenCall ∷ Word name ∷ Mark CloseCall ∷ []) e g).1.0.0) h

spellable_second : (ts : List Token) (second : Option (List ℕ)) → SpellsSecond ts second → AllGood ts → IsSpellableSecond second
spellable_second ts None h g = tt
spellable_second ts (Some second) h g =
    let k = good_as ts (Word (codes "then") ∷ h.0) h.1 g in
    spellable_objective h.0 second h.2 k.1

spellable_objectives : (ts : List Token) (name : List ℕ) (second : Option (List ℕ)) → SpellsObjectives ts name second → AllGood ts → (is_name name ≡ true) × IsSpellableSecond second
spellable_objectives ts name second h g =
    let k = good_as ts (h.0 ++ h.1) h.2 g in
    (spellable_objective h.0 name h.3 (good_left h.0 h.1 k), spellable_second h.1 second h.4 (good_right h.0 h.1 k))

spellable_item : (ts : List Token) (i : Item) → SpellsItem ts i → AllGood ts → IsSpellableItem i
spellable_item ts (Call name args) h g =
    let k = good_as ts (Word name ∷ Mark OpenCall ∷ (h.2 ++ Mark CloseCall ∷ [])) h.3 g in
    (k.0.0, h.0, h.1, some_args h.2 args h.4, spellable_args h.2 args h.4 (good_left h.2 (Mark CloseCall ∷ []) k.1.1))
spellable_item ts (Goal Satisfy None None) h g = tt
spellable_item ts (Goal Satisfy None (Some second)) h g = h
spellable_item ts (Goal Satisfy (Some name) second) h g = h
spellable_item ts (Goal Minimize None second) h g = h
spellable_item ts (Goal Minimize (Some name) second) h g =
    let k = good_as ts (Word (codes "solve") ∷ Word (codes "minimize") ∷ h.0) h.1 g in
    spellable_objectives h.0 name second h.2 k.1.1
spellable_item ts (Goal Maximize None second) h g = h
spellable_item ts (Goal Maximize (Some name) second) h g =
    let k = good_as ts (Word (codes "solve") ∷ Word (codes "maximize") ∷ h.0) h.1 g in
    spellable_objectives h.0 name second h.2 k.1.1

spellable_items : (ts : List Token) (is : List Item) → Spells ts is → AllGood ts → AreSpellableItems is
spellable_items ts [] h g = tt
spellable_items ts (i ∷ is) h g =
    let k = good_as ts (h.0 ++ h.1) h.2 g in
    (spellable_item h.0 i h.3 (good_left h.0 h.1 k), spellable_items h.1 is h.4 (good_right h.0 h.1 k))

pub text_is_spellable_lem : TextIsSpellable
text_is_spellable_lem text s h =
    spellable_items (kinds (tokens text)) s.items h.spelled (good (kinds (tokens text)) (shaped_behind text 0 1) h.within)
