-- What is still to be read of a text, item by item.
use Rattle.std.specs.Prelude.{◌≡◌, ℕ, Option, Some, None, Ok, List, []}
use Rattle.bumblebee_reader.specs.declared.syntax.Item.{Item}
use Rattle.bumblebee_reader.specs.Reading.{AtItem, Outcome, reading, with_item, with_items}

-- what is left of a text: bytes, the first of which stand on this line
pub record Left : Type 0 where
  pub line : ℕ
  pub bytes : List ℕ

-- what is left is the whole text
abbrev pub whole_text : List ℕ → Left
whole_text text = record { line = 1; bytes = text }

-- what is left gives these items, or this first fault
abbrev pub unread : Left → Outcome
unread left = reading AtItem left.line left.bytes

-- an item that was read comes before what is unread behind it; where none came, the text has ended
abbrev pub next_before : Option Item → Outcome → Outcome
next_before None behind = Ok []
next_before (Some item) behind = with_item item behind

-- these items were taken from the front of a text, and this is left of it
abbrev pub IsTaken : List ℕ → List Item → Left → Type 0
IsTaken text items left = unread (whole_text text) ≡ with_items items (unread left)
