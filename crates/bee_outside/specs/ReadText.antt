-- What was read under a name.
use Rattle.std.specs.Prelude.{ℕ, Bool, true, false, List}
use Rattle.bee_outside.specs.declared.reading.ReadText.{ReadText}
use Rattle.bee_outside.specs.declared.reading.ReadText.TheVariants.{Whole, Cut}

-- the bytes that were read
abbrev pub text_of : ReadText → List ℕ
text_of (Whole text) = text.items
text_of (Cut text) = text.items

-- whether the end was seen
abbrev pub is_whole : ReadText → Bool
is_whole (Whole text) = true
is_whole (Cut text) = false
