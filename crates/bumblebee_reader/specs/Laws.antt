-- Laws of model texts.
use Rattle.std.specs.Prelude.{◌≡◌, ◌≢◌, ◌⊎◌, ◌↔◌, ℕ, Ok, Err, List}
use Rattle.bumblebee_reader.specs.declared.syntax.Syntax.{Syntax}
use Rattle.bumblebee_reader.specs.declared.syntax.Item.{Item}
use Rattle.bumblebee_reader.specs.declared.fault.ReadFault.TheVariants as fault
use Rattle.bumblebee_reader.specs.Grammar.{IsText}
use Rattle.bumblebee_reader.specs.Faults.{IsSyntaxFault, IsNumberFault}
use Rattle.bumblebee_reader.specs.Unread.{whole_text, unread}
use Rattle.bumblebee_reader.specs.Canonical.{canonical}
use Rattle.bumblebee_reader.specs.Spellable.{IsSpellable}

-- a text has at most one syntax
abbrev pub OneSyntax : Type 0
OneSyntax = (text : List ℕ) (s t : Syntax) → IsText text s → IsText text t → s ≡ t

-- bytes are a text, or they have a first fault
abbrev pub TextOrFault : Type 0
TextOrFault =
    (text : List ℕ) → ((s : Syntax) × IsText text s)
    ⊎ (((line : ℕ) × IsSyntaxFault text line) ⊎ ((line : ℕ) × IsNumberFault text line))

-- what is unread of a whole text is what the grammar says of it: its items, or its first fault
pub record TellsText (text : List ℕ) : Type 0 where
  pub items : (xs : List Item) → (unread (whole_text text) ≡ Ok xs) ↔ IsText text (record { items = xs })
  pub syntax : (line : ℕ) → (unread (whole_text text) ≡ Err (fault.Syntax line)) ↔ IsSyntaxFault text line
  pub number : (line : ℕ) → (unread (whole_text text) ≡ Err (fault.Number line)) ↔ IsNumberFault text line
  pub no_memory : unread (whole_text text) ≢ Err fault.Memory

abbrev pub UnreadTells : Type 0
UnreadTells = (text : List ℕ) → TellsText text

-- the syntax of a text can be spelled
abbrev pub TextIsSpellable : Type 0
TextIsSpellable = (text : List ℕ) (s : Syntax) → IsText text s → IsSpellable s

-- the canonical text of a syntax that can be spelled is a text of it
abbrev pub CanonicalIsText : Type 0
CanonicalIsText = (s : Syntax) → IsSpellable s → IsText (canonical s) s

-- the canonical text of a syntax that some text has is a text of exactly that syntax
abbrev pub RoundTrip : Type 0
RoundTrip = (text : List ℕ) (s : Syntax) → IsText text s → (t : Syntax) → IsText (canonical s) t ↔ (t ≡ s)
