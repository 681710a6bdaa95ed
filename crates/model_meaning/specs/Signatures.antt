-- Which arguments each declaration and statement takes.
use Rattle.std.specs.Prelude.{List, [], ◌∷◌, if◌then◌else◌}
use Rattle.model_meaning.specs.declared.wanted.Wanted.{Wanted}
use Rattle.model_meaning.specs.declared.wanted.Wanted.TheVariants.{Truth, Number, Numeral, Truths, Numbers, Numerals}
use Rattle.model_meaning.specs.declared.wanted.Wanted.TheVariants.{NewName, NewInteger}
use Rattle.model_meaning.specs.declared.statement.AllDifferent.{AllDifferent}
use Rattle.model_meaning.specs.declared.statement.AllDifferent.TheVariants as all_different
use Rattle.model_meaning.specs.declared.statement.Order.{Order}
use Rattle.model_meaning.specs.declared.statement.Statement.{Statement}
use Rattle.model_meaning.specs.declared.statement.Statement.TheVariants as statement

-- members that differ
abbrev pub all_different_signature : AllDifferent → List Wanted
all_different_signature all_different.Plain = Numbers ∷ []
all_different_signature all_different.Reified = Numbers ∷ Truth ∷ []
all_different_signature all_different.Conditional = Numbers ∷ Truths ∷ []

-- an order of two lists
abbrev pub lex_signature : Order → List Wanted
lex_signature o =
    if o.of_booleans then (if o.reified then Truths ∷ Truths ∷ Truth ∷ [] else Truths ∷ Truths ∷ [])
    else (if o.reified then Numbers ∷ Numbers ∷ Truth ∷ [] else Numbers ∷ Numbers ∷ [])

-- what the arguments are to be, in their order
abbrev pub signature : Statement → List Wanted
signature statement.NewBool = NewName ∷ []
signature statement.NewInt = NewName ∷ Numeral ∷ Numeral ∷ []
signature statement.BoolToInt = Truth ∷ NewInteger ∷ []
signature statement.BoolEq = Truth ∷ Truth ∷ []
signature (statement.BoolOp op) = Truth ∷ Truth ∷ Truth ∷ []
signature (statement.BoolArray op) = Truths ∷ []
signature (statement.BoolArrayReified op) = Truths ∷ Truth ∷ []
signature (statement.Compare rel) = Number ∷ Number ∷ []
signature (statement.CompareReified rel) = Number ∷ Number ∷ Truth ∷ []
signature (statement.BoolSum rel) = Truths ∷ Number ∷ []
signature (statement.BoolLinear rel) = Numerals ∷ Truths ∷ Number ∷ []
signature (statement.IntSum rel) = Numbers ∷ Number ∷ []
signature (statement.IntLinear rel) = Numerals ∷ Numbers ∷ Number ∷ []
signature (statement.IntOp o) = Number ∷ Number ∷ Number ∷ []
signature statement.Absolute = Number ∷ Number ∷ []
signature (statement.IntArray e) = Numbers ∷ Number ∷ []
signature (statement.IntAllDifferent d) = all_different_signature d
signature (statement.Lexicographic o) = lex_signature o
