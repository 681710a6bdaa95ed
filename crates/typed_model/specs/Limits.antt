-- The numerals of a text in their limit.
use Rattle.std.specs.Prelude.{List, [], ◌∷◌}
use Rattle.bumblebee_reader.specs.declared.syntax.Term.{Term}
use Rattle.bumblebee_reader.specs.declared.syntax.Term.TheVariants as term
use Rattle.bumblebee_reader.specs.declared.syntax.Arg.{Arg}
use Rattle.bumblebee_reader.specs.declared.syntax.Arg.TheVariants as arg
use Rattle.bumblebee_reader.specs.declared.syntax.Item.{Item}
use Rattle.bumblebee_reader.specs.declared.syntax.Item.TheVariants as item
use Rattle.model_meaning.specs.Limits.{InLimit}

abbrev pub TextTermInLimit : Term → Type 0
TextTermInLimit (term.Plain name) = Unit {0}
TextTermInLimit (term.Minus name) = Unit {0}
TextTermInLimit (term.Number n) = InLimit n

abbrev pub TextTermsInLimit : List Term → Type 0
TextTermsInLimit [] = Unit {0}
TextTermsInLimit (t ∷ ts) = TextTermInLimit t × TextTermsInLimit ts

abbrev pub ArgInLimit : Arg → Type 0
ArgInLimit (arg.One t) = TextTermInLimit t
ArgInLimit (arg.Many ts) = TextTermsInLimit ts

abbrev pub ArgsInLimit : List Arg → Type 0
ArgsInLimit [] = Unit {0}
ArgsInLimit (a ∷ rest) = ArgInLimit a × ArgsInLimit rest

abbrev pub ItemInLimit : Item → Type 0
ItemInLimit (item.Call name args) = ArgsInLimit args
ItemInLimit (item.Goal k objective second) = Unit {0}

-- each numeral of the items
abbrev pub ItemsInLimit : List Item → Type 0
ItemsInLimit [] = Unit {0}
ItemsInLimit (i ∷ items) = ItemInLimit i × ItemsInLimit items
