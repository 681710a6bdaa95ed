-- The grammar of model texts: which tokens spell which items.
use Rattle.std.specs.Prelude.{◌≡◌, ◌≢◌, ◌⊎◌, ℕ, false, Option, Some, None, List, [], ◌∷◌}
use Rattle.std.specs.Prelude.{◌++◌, pos, neg_ℤ, codes}
use Rattle.bumblebee_reader.specs.declared.syntax.Syntax.{Syntax}
use Rattle.bumblebee_reader.specs.declared.syntax.Item.{Item}
use Rattle.bumblebee_reader.specs.declared.syntax.Item.TheVariants.{Call, Goal}
use Rattle.bumblebee_reader.specs.declared.syntax.Arg.{Arg}
use Rattle.bumblebee_reader.specs.declared.syntax.Arg.TheVariants.{One, Many}
use Rattle.bumblebee_reader.specs.declared.syntax.Term.{Term}
use Rattle.bumblebee_reader.specs.declared.syntax.Term.TheVariants.{Plain, Minus, Number}
use Rattle.bumblebee_reader.specs.declared.syntax.GoalKind.TheVariants.{Satisfy, Minimize, Maximize}
use Rattle.bumblebee_reader.specs.declared.lexeme.Sign.TheVariants.{OpenCall, CloseCall, OpenList, CloseList, Comma}
use Rattle.bumblebee_reader.specs.declared.lexeme.Sign.TheVariants.{Dash}
use Rattle.bumblebee_reader.specs.Tokens.{Token, TokenAt, Word, Digits, Mark, tokens}
use Rattle.bumblebee_reader.specs.Numeral.{number_of, is_too_great}

-- a term: a name, `-` and a name, digits, or `-` and digits
abbrev pub SpellsTerm : List Token → Term → Type 0
SpellsTerm ts (Plain name) = ts ≡ Word name ∷ []
SpellsTerm ts (Minus name) = ts ≡ Mark Dash ∷ Word name ∷ []
SpellsTerm ts (Number z) =
    (digits : List ℕ)
    × (((ts ≡ Digits digits ∷ []) × (z ≡ pos (number_of digits)))
    ⊎ ((ts ≡ Mark Dash ∷ Digits digits ∷ []) × (z ≡ neg_ℤ (pos (number_of digits)))))

-- one term or more, separated by `,`
abbrev pub SpellsTerms : List Token → List Term → Type 0
SpellsTerms ts [] = ⊥
SpellsTerms ts (t ∷ []) = SpellsTerm ts t
SpellsTerms ts (t ∷ t' ∷ terms) =
    (us : List Token) × (vs : List Token) × (ts ≡ us ++ Mark Comma ∷ vs) × SpellsTerm us t
    × SpellsTerms vs (t' ∷ terms)

-- any number of terms, separated by `,`
abbrev pub SpellsMembers : List Token → List Term → Type 0
SpellsMembers ts [] = ts ≡ []
SpellsMembers ts (t ∷ terms) = SpellsTerms ts (t ∷ terms)

-- an argument: a term, or `[`, any number of terms separated by `,`, and `]`
abbrev pub SpellsArg : List Token → Arg → Type 0
SpellsArg ts (One t) = SpellsTerm ts t
SpellsArg ts (Many terms) =
    (us : List Token) × (ts ≡ Mark OpenList ∷ (us ++ Mark CloseList ∷ [])) × SpellsMembers us terms

-- one argument or more, separated by `,`
abbrev pub SpellsArgs : List Token → List Arg → Type 0
SpellsArgs ts [] = ⊥
SpellsArgs ts (a ∷ []) = SpellsArg ts a
SpellsArgs ts (a ∷ a' ∷ args) =
    (us : List Token) × (vs : List Token) × (ts ≡ us ++ Mark Comma ∷ vs) × SpellsArg us a
    × SpellsArgs vs (a' ∷ args)

-- a name, or a name in parentheses
abbrev pub SpellsObjective : List Token → List ℕ → Type 0
SpellsObjective ts name = (ts ≡ Word name ∷ []) ⊎ (ts ≡ Mark OpenCall ∷ Word name ∷ Mark CloseCall ∷ [])

-- `then` and a second objective, where there is one
abbrev pub SpellsSecond : List Token → Option (List ℕ) → Type 0
SpellsSecond ts None = ts ≡ []
SpellsSecond ts (Some second) = (us : List Token) × (ts ≡ Word (codes "then") ∷ us) × SpellsObjective us second

-- an objective, and `then` and a second one where there is one
abbrev pub SpellsObjectives : List Token → List ℕ → Option (List ℕ) → Type 0
SpellsObjectives ts name second =
    (us : List Token) × (vs : List Token) × (ts ≡ us ++ vs) × SpellsObjective us name × SpellsSecond vs second

-- an item: a name other than `solve` and `then`, `(`, one argument or more separated by `,`, and `)`; or `solve
-- satisfy`; or `solve minimize` or `solve maximize`, an objective, and then optionally `then` and another
abbrev pub SpellsItem : List Token → Item → Type 0
SpellsItem ts (Call name args) =
    (name ≢ codes "solve") × (name ≢ codes "then") × (us : List Token)
    × (ts ≡ Word name ∷ Mark OpenCall ∷ (us ++ Mark CloseCall ∷ [])) × SpellsArgs us args
SpellsItem ts (Goal Satisfy None None) = ts ≡ Word (codes "solve") ∷ Word (codes "satisfy") ∷ []
SpellsItem ts (Goal Satisfy None (Some second)) = ⊥
SpellsItem ts (Goal Satisfy (Some name) second) = ⊥
SpellsItem ts (Goal Minimize None second) = ⊥
SpellsItem ts (Goal Minimize (Some name) second) =
    (us : List Token) × (ts ≡ Word (codes "solve") ∷ Word (codes "minimize") ∷ us) × SpellsObjectives us name second
SpellsItem ts (Goal Maximize None second) = ⊥
SpellsItem ts (Goal Maximize (Some name) second) =
    (us : List Token) × (ts ≡ Word (codes "solve") ∷ Word (codes "maximize") ∷ us) × SpellsObjectives us name second

-- any number of items
abbrev pub Spells : List Token → List Item → Type 0
Spells ts [] = ts ≡ []
Spells ts (i ∷ is) =
    (us : List Token) × (vs : List Token) × (ts ≡ us ++ vs) × SpellsItem us i × Spells vs is

-- some tokens behind these make them spell items, whatever the size of their numerals
abbrev pub Begins : List Token → Type 0
Begins ts = (more : List Token) × (items : List Item) × Spells (ts ++ more) items

-- no numeral is too great
abbrev pub AllWithin : List Token → Type 0
AllWithin [] = Unit {0}
AllWithin (t ∷ ts) = (is_too_great t ≡ false) × AllWithin ts

-- tokens without their lines
abbrev pub kinds : List TokenAt → List Token
kinds [] = []
kinds (t ∷ ts) = t.token ∷ kinds ts

-- the bytes are a text, and this is its syntax
pub record IsText (text : List ℕ) (syntax : Syntax) : Type 0 where
  pub spelled : Spells (kinds (tokens text)) syntax.items
  pub within : AllWithin (kinds (tokens text))
