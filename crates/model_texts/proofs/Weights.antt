-- The weight of a model that a text says has 128 bits.
use Rattle.std.proofs.Common.{arith, ◌≡◌, ℕ, zero, suc, ◌+◌, ◌≤◌, ◌<◌, ◌^◌, List, [], ◌∷◌, length, ap, sym, subst, Option, Some, None}
use Rattle.std.proofs.lemmas.List.{length-append}
use Rattle.bumblebee_reader.specs.Tokens.{Token, TokenAt, token_from, length_from, with_token, next_line, tokens_behind, tokens}
use Rattle.bumblebee_reader.specs.Grammar.{SpellsItem, Spells, kinds}
use Rattle.bumblebee_reader.specs.declared.syntax.GoalKind.TheVariants.{Satisfy, Minimize, Maximize}
use Rattle.bumblebee_reader.specs.declared.syntax.Item.{Item}
use Rattle.bumblebee_reader.specs.declared.syntax.Item.TheVariants.{Call, Goal}
use Rattle.model_meaning.specs.declared.model.Model.{Model}
use Rattle.typed_model.specs.Items.{model_of}
use Rattle.model_meaning.specs.Sizes.{members_of}
use Rattle.typed_model.proofs.TextSizes.{text-size}
use Rattle.typed_model.proofs.ModelSizes.{size-model_of}
use Rattle.model_weight.specs.Weight.{weight_of}
use Rattle.model_weight.proofs.WeightBounds.{weight-fits}
use Rattle.model_texts.specs.ModelTexts.{IsModelOf}
use Rattle.model_texts.specs.ModelTexts.{longest_text}
use Rattle.model_texts.proofs.ModelShapes.{limited}

-- Each item has a token, and each token a byte.

item-some : (ts : List Token) (i : Item) → SpellsItem ts i → 1 ≤ length ts
item-some ts (Call name args) h = omega (arith, ap length h.3)
item-some ts (Goal Satisfy None None) h = omega (arith, ap length h)
item-some ts (Goal Satisfy None (Some second)) h = absurd h
item-some ts (Goal Satisfy (Some name) second) h = absurd h
item-some ts (Goal Minimize None second) h = absurd h
item-some ts (Goal Minimize (Some name) second) h = omega (arith, ap length h.1)
item-some ts (Goal Maximize None second) h = absurd h
item-some ts (Goal Maximize (Some name) second) h = omega (arith, ap length h.1)

items-few : (ts : List Token) (items : List Item) → Spells ts items → length items ≤ length ts
items-few ts [] h = omega arith
items-few ts (i ∷ items) h =
    omega (arith, ap length h.2, length-append h.0 h.1, item-some h.0 i h.3, items-few h.1 items h.4)

kinds-few : (ts : List TokenAt) → length (kinds ts) ≡ length ts
kinds-few [] = omega arith
kinds-few (t ∷ ts) = omega (arith, kinds-few ts)

with-few : (o : Option Token) (line : ℕ) (ts : List TokenAt) → length (with_token o line ts) ≤ length ts + 1
with-few None line ts = omega arith
with-few (Some t) line ts = omega arith

tokens-few : (n line : ℕ) (bytes : List ℕ) → length (tokens_behind n line bytes) ≤ length bytes
tokens-few n line [] = omega arith
tokens-few zero line (b ∷ bytes) =
    omega (arith, with-few (token_from b bytes) line (tokens_behind (length_from b bytes) (next_line line b) bytes), tokens-few (length_from b bytes) (next_line line b) bytes)
tokens-few (suc n) line (b ∷ bytes) = omega (arith, tokens-few n line bytes)

pub exact : (text : List ℕ) (m : Model) → length text ≤ longest_text → IsModelOf text m → weight_of m < 2 ^ 128
exact text m short says =
    let items = says.syntax.items in
    let few : length items ≤ length text = omega (arith, items-few (kinds (tokens text)) items says.spelled.spelled, kinds-few (tokens text), tokens-few 0 1 text) in
    let size = size-model_of items in
    let terms = text-size text says.syntax says.spelled in
    let small : length (model_of items).decls + length (model_of items).stmts + members_of (model_of items).stmts < 2 ^ 45 = omega (arith, few, size.0, size.1, size.2, terms, short) in
    weight-fits m (limited text m short says) (subst (λ (n : Model). length n.decls + length n.stmts + members_of n.stmts < 2 ^ 45) (sym says.model_is) small)
