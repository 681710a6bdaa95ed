-- A text has no more terms than bytes.
use Rattle.std.proofs.Common.{◌≡◌, ◌≤◌, ◌⊎◌, inl, inr, ℕ, zero, suc, ◌+◌, List, [], ◌∷◌, length, Option, Some, None, arith}
use Rattle.std.proofs.lemmas.List.{length-append}
use Rattle.bumblebee_reader.specs.Tokens.{Token, TokenAt, Mark, token_from, length_from, with_token, next_line, tokens_behind, tokens}
use Rattle.bumblebee_reader.specs.Grammar.{SpellsTerm, SpellsTerms, SpellsMembers, SpellsArg, SpellsArgs, SpellsItem, Spells, kinds, IsText}
use Rattle.bumblebee_reader.specs.declared.lexeme.Sign.TheVariants.{Comma, CloseList, CloseCall}
use Rattle.bumblebee_reader.specs.declared.syntax.Syntax.{Syntax}
use Rattle.bumblebee_reader.specs.declared.syntax.Term.{Term}
use Rattle.bumblebee_reader.specs.declared.syntax.Term.TheVariants.{Plain, Minus, Number}
use Rattle.bumblebee_reader.specs.declared.syntax.Arg.{Arg}
use Rattle.bumblebee_reader.specs.declared.syntax.Arg.TheVariants.{One, Many}
use Rattle.bumblebee_reader.specs.declared.syntax.Item.{Item}
use Rattle.bumblebee_reader.specs.declared.syntax.Item.TheVariants.{Call, Goal}
use Rattle.typed_model.specs.Sizes.{arg_terms, args_terms, item_terms, terms_of}

-- Terms and tokens.

either : {P Q R : Type 0} → P ⊎ Q → (P → R) → (Q → R) → R
either (inl p) f g = f p
either (inr q) f g = g q

term-size : (ts : List Token) (t : Term) → SpellsTerm ts t → 1 ≤ length ts
term-size ts (Plain name) h = rw h (omega arith)
term-size ts (Minus name) h = rw h (omega arith)
term-size ts (Number z) h = either h.1 (λ k. rw k.0 (omega arith)) (λ k. rw k.0 (omega arith))

terms-size : (ts : List Token) (t : Term) (terms : List Term) → SpellsTerms ts (t ∷ terms) → length (t ∷ terms) ≤ length ts
terms-size ts t [] h = omega (arith, term-size ts t h)
terms-size ts t (u ∷ terms) h =
    rw h.2 (omega (arith, length-append h.0 (Mark Comma ∷ h.1), term-size h.0 t h.3, terms-size h.1 u terms h.4))

members-size : (ts : List Token) (terms : List Term) → SpellsMembers ts terms → length terms ≤ length ts
members-size ts [] h = omega arith
members-size ts (t ∷ terms) h = terms-size ts t terms h

arg-size : (ts : List Token) (a : Arg) → SpellsArg ts a → arg_terms a ≤ length ts
arg-size ts (One t) h = term-size ts t h
arg-size ts (Many terms) h =
    rw h.1 (omega (arith, length-append h.0 (Mark CloseList ∷ []), members-size h.0 terms h.2))

args-size : (ts : List Token) (args : List Arg) → SpellsArgs ts args → args_terms args ≤ length ts
args-size ts [] h = absurd h
args-size ts (a ∷ []) h = omega (arith, arg-size ts a h)
args-size ts (a ∷ b ∷ args) h =
    rw h.2 (omega (arith, length-append h.0 (Mark Comma ∷ h.1), arg-size h.0 a h.3, args-size h.1 (b ∷ args) h.4))

item-size : (ts : List Token) (i : Item) → SpellsItem ts i → item_terms i ≤ length ts
item-size ts (Call name args) h =
    rw h.3 (omega (arith, length-append h.2 (Mark CloseCall ∷ []), args-size h.2 args h.4))
item-size ts (Goal k objective second) h = omega arith

items-size : (ts : List Token) (items : List Item) → Spells ts items → terms_of items ≤ length ts
items-size ts [] h = omega arith
items-size ts (i ∷ items) h =
    rw h.2 (omega (arith, length-append h.0 h.1, item-size h.0 i h.3, items-size h.1 items h.4))

-- Tokens and bytes.

kinds-length : (ts : List TokenAt) → length (kinds ts) ≡ length ts
kinds-length [] = omega arith
kinds-length (t ∷ ts) = omega (arith, kinds-length ts)

with-size : (o : Option Token) (line : ℕ) (ts : List TokenAt) → length (with_token o line ts) ≤ length ts + 1
with-size None line ts = omega arith
with-size (Some t) line ts = omega arith

tokens-size : (n line : ℕ) (bytes : List ℕ) → length (tokens_behind n line bytes) ≤ length bytes
tokens-size n line [] = omega arith
tokens-size zero line (b ∷ bytes) =
    omega (arith, with-size (token_from b bytes) line (tokens_behind (length_from b bytes) (next_line line b) bytes), tokens-size (length_from b bytes) (next_line line b) bytes)
tokens-size (suc n) line (b ∷ bytes) = omega (arith, tokens-size n line bytes)

pub text-size : (text : List ℕ) (s : Syntax) → IsText text s → terms_of s.items ≤ length text
text-size text s h =
    omega (arith, items-size (kinds (tokens text)) s.items h.spelled, kinds-length (tokens text), tokens-size 0 1 text)
