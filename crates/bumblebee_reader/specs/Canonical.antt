-- The canonical text of a syntax: one item a line, no gap but one blank between the words of a goal, no leading zero,
-- no `-0`, and objectives without parentheses.
use Rattle.std.specs.Prelude.{ℕ, Option, Some, None, List, [], ◌∷◌, ◌++◌, codes}
use Rattle.std.specs.List.{flat_map}
use Rattle.std.specs.Fmt.{signed_decimal}
use Rattle.bumblebee_reader.specs.declared.syntax.Syntax.{Syntax}
use Rattle.bumblebee_reader.specs.declared.syntax.Item.{Item}
use Rattle.bumblebee_reader.specs.declared.syntax.Item.TheVariants.{Call, Goal}
use Rattle.bumblebee_reader.specs.declared.syntax.Arg.{Arg}
use Rattle.bumblebee_reader.specs.declared.syntax.Arg.TheVariants.{One, Many}
use Rattle.bumblebee_reader.specs.declared.syntax.Term.{Term}
use Rattle.bumblebee_reader.specs.declared.syntax.Term.TheVariants.{Plain, Minus, Number}
use Rattle.bumblebee_reader.specs.declared.syntax.GoalKind.{GoalKind}
use Rattle.bumblebee_reader.specs.declared.syntax.GoalKind.TheVariants.{Satisfy, Minimize, Maximize}

abbrev pub term_text : Term → List ℕ
term_text (Plain name) = name
term_text (Minus name) = codes "-" ++ name
term_text (Number z) = signed_decimal z

-- a term behind another
abbrev pub next_term_text : Term → List ℕ
next_term_text t = codes "," ++ term_text t

-- terms with `,` between them
abbrev pub terms_text : List Term → List ℕ
terms_text [] = []
terms_text (t ∷ terms) = term_text t ++ flat_map next_term_text terms

abbrev pub arg_text : Arg → List ℕ
arg_text (One t) = term_text t
arg_text (Many terms) = codes "[" ++ (terms_text terms ++ codes "]")

-- an argument behind another
abbrev pub next_arg_text : Arg → List ℕ
next_arg_text a = codes "," ++ arg_text a

-- arguments with `,` between them
abbrev pub args_text : List Arg → List ℕ
args_text [] = []
args_text (a ∷ args) = arg_text a ++ flat_map next_arg_text args

abbrev pub kind_word : GoalKind → List ℕ
kind_word Satisfy = codes "satisfy"
kind_word Minimize = codes "minimize"
kind_word Maximize = codes "maximize"

-- a name behind these bytes, where there is one
abbrev pub name_text : List ℕ → Option (List ℕ) → List ℕ
name_text front None = []
name_text front (Some name) = front ++ name

abbrev pub item_text : Item → List ℕ
item_text (Call name args) = name ++ (codes "(" ++ (args_text args ++ codes ")"))
item_text (Goal kind objective second) =
    codes "solve " ++ (kind_word kind ++ (name_text (codes " ") objective ++ name_text (codes " then ") second))

-- an item on a line of its own
abbrev pub item_line : Item → List ℕ
item_line i = item_text i ++ 10 ∷ []

abbrev pub canonical : Syntax → List ℕ
canonical syntax = flat_map item_line syntax.items
