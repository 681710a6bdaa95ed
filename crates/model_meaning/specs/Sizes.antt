-- How many members the lists of a model have.
use Rattle.std.specs.Prelude.{ℕ, ◌+◌, List, [], ◌∷◌, length}
use Rattle.model_meaning.specs.declared.what.What.{What}
use Rattle.model_meaning.specs.declared.model.Stmt.{Stmt}
use Rattle.model_meaning.specs.Arguments.{Argument, Truth, Number, Truths, Numbers, Numerals, arguments_of}

-- the members of an argument that is a list
abbrev pub argument_members : Argument → ℕ
argument_members (Truth x) = 0
argument_members (Number i) = 0
argument_members (Truths xs) = length xs
argument_members (Numbers is) = length is
argument_members (Numerals cs) = length cs

abbrev pub arguments_members : List Argument → ℕ
arguments_members [] = 0
arguments_members (a ∷ rest) = argument_members a + arguments_members rest

-- the members of a statement's lists
abbrev pub what_members : What → ℕ
what_members w = arguments_members (arguments_of w)

-- the members of the lists of all statements
abbrev pub members_of : List Stmt → ℕ
members_of [] = 0
members_of (s ∷ ss) = what_members s.what + members_of ss
