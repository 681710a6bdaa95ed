-- Why bytes are no text.
use Rattle.std.specs.Prelude.{◌≡◌, ◌≢◌, ◌⊎◌, ℕ, true, Result, Err, List, [], ◌∷◌, ◌++◌}
use Rattle.bumblebee_reader.specs.declared.syntax.Item.{Item}
use Rattle.bumblebee_reader.specs.declared.fault.ReadFault.{ReadFault}
use Rattle.bumblebee_reader.specs.declared.fault.ReadFault.TheVariants.{Memory}
use Rattle.bumblebee_reader.specs.Tokens.{TokenAt, tokens, last_line}
use Rattle.bumblebee_reader.specs.Numeral.{is_too_great}
use Rattle.bumblebee_reader.specs.Grammar.{Spells, Begins, AllWithin, kinds}

-- a token on this line is the first such that the tokens up to it begin no text, and no numeral before it is too great
pub record Misfits (text : List ℕ) (line : ℕ) : Type 0 where
  pub before : List TokenAt
  pub token : TokenAt
  pub behind : List TokenAt
  pub whole : tokens text ≡ before ++ token ∷ behind
  pub begins : Begins (kinds before)
  pub misfit : Begins (kinds (before ++ token ∷ [])) → ⊥
  pub within : AllWithin (kinds before)
  pub line_is : line ≡ token.line

-- all tokens begin a text and spell none, no numeral is too great, and the text ends on this line
pub record EndsEarly (text : List ℕ) (line : ℕ) : Type 0 where
  pub begins : Begins (kinds (tokens text))
  pub early : (items : List Item) → Spells (kinds (tokens text)) items → ⊥
  pub within : AllWithin (kinds (tokens text))
  pub line_is : line ≡ last_line text

-- the first fault is a token that fits nowhere, or an end that comes too early, on this line
abbrev pub IsSyntaxFault : List ℕ → ℕ → Type 0
IsSyntaxFault text line = Misfits text line ⊎ EndsEarly text line

-- the first fault is a numeral that is too great: it stands on this line, and the tokens up to it begin a text
pub record IsNumberFault (text : List ℕ) (line : ℕ) : Type 0 where
  pub before : List TokenAt
  pub token : TokenAt
  pub behind : List TokenAt
  pub whole : tokens text ≡ before ++ token ∷ behind
  pub begins : Begins (kinds (before ++ token ∷ []))
  pub within : AllWithin (kinds before)
  pub too_great : is_too_great token.token ≡ true
  pub line_is : line ≡ token.line

-- the call did not want memory
abbrev pub MemoryFound : {T : Type 0} → Result T ReadFault → Type 0
MemoryFound r = r ≢ Err Memory
