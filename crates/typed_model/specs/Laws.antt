-- Facts about the definitions that crates above may use.
use Rattle.std.specs.Prelude.{◌≡◌, ◌≤◌, ℕ, List, length, None}
use Rattle.bumblebee_reader.specs.declared.syntax.Item.{Item}
use Rattle.bumblebee_reader.specs.declared.syntax.Syntax.{Syntax}
use Rattle.bumblebee_reader.specs.Grammar.{IsText}
use Rattle.typed_model.specs.Items.{first_fault, model_of}
use Rattle.model_meaning.specs.Limits.{InLimits}
use Rattle.typed_model.specs.Limits.{ItemsInLimit}
use Rattle.model_meaning.specs.Sizes.{members_of}
use Rattle.typed_model.specs.Sizes.{terms_of}
use Rattle.model_meaning.specs.WellTyped.{WellTyped}

-- the model of items without a fault is well typed
abbrev pub TypingLaw : Type 0
TypingLaw = (items : List Item) → first_fault items ≡ None → WellTyped (model_of items)

-- where the numerals of the items are in the limit, and the items have no more terms than a text may have bytes, so are
-- the numbers, domains and lists of their model
abbrev pub LimitLaw : Type 0
LimitLaw = (items : List Item) → ItemsInLimit items → terms_of items ≤ 16777216 → InLimits (model_of items)

-- the model of items has at most as many declarations and at most as many statements as there are items, and the
-- lists of its statements have at most as many members as the items have terms
abbrev pub SizeLaw : Type 0
SizeLaw =
    (items : List Item)
    → (length (model_of items).decls ≤ length items) × (length (model_of items).stmts ≤ length items)
    × (members_of (model_of items).stmts ≤ terms_of items)

-- the items of a text have at most as many terms as it has bytes
abbrev pub TextSizeLaw : Type 0
TextSizeLaw = (text : List ℕ) (s : Syntax) → IsText text s → terms_of s.items ≤ length text
