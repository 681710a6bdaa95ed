-- How many terms a text has.
use Rattle.std.specs.Prelude.{ℕ, ◌+◌, List, [], ◌∷◌, length}
use Rattle.bumblebee_reader.specs.declared.syntax.Arg.{Arg}
use Rattle.bumblebee_reader.specs.declared.syntax.Arg.TheVariants as arg
use Rattle.bumblebee_reader.specs.declared.syntax.Item.{Item}
use Rattle.bumblebee_reader.specs.declared.syntax.Item.TheVariants as item

-- the terms of an argument, which is one or a list of them
abbrev pub arg_terms : Arg → ℕ
arg_terms (arg.One t) = 1
arg_terms (arg.Many ts) = length ts

abbrev pub args_terms : List Arg → ℕ
args_terms [] = 0
args_terms (a ∷ rest) = arg_terms a + args_terms rest

-- the terms of an item's arguments
abbrev pub item_terms : Item → ℕ
item_terms (item.Call name args) = args_terms args
item_terms (item.Goal k objective second) = 0

-- the terms of the arguments of all items
abbrev pub terms_of : List Item → ℕ
terms_of [] = 0
terms_of (i ∷ items) = item_terms i + terms_of items
