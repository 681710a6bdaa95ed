-- Which syntaxes some text has.
use Rattle.std.specs.Prelude.{◌≡◌, ◌≢◌, ℕ, ◌≤◌, true, Option, Some, None, List, [], ◌∷◌}
use Rattle.std.specs.Prelude.{unsigned_abs, codes}
use Rattle.bumblebee_reader.specs.declared.syntax.Syntax.{Syntax}
use Rattle.bumblebee_reader.specs.declared.syntax.Item.{Item}
use Rattle.bumblebee_reader.specs.declared.syntax.Item.TheVariants.{Call, Goal}
use Rattle.bumblebee_reader.specs.declared.syntax.Arg.{Arg}
use Rattle.bumblebee_reader.specs.declared.syntax.Arg.TheVariants.{One, Many}
use Rattle.bumblebee_reader.specs.declared.syntax.Term.{Term}
use Rattle.bumblebee_reader.specs.declared.syntax.Term.TheVariants.{Plain, Minus, Number}
use Rattle.bumblebee_reader.specs.declared.syntax.GoalKind.TheVariants.{Satisfy, Minimize, Maximize}
use Rattle.bumblebee_reader.specs.Names.{is_name}

abbrev pub IsSpellableTerm : Term → Type 0
IsSpellableTerm (Plain name) = is_name name ≡ true
IsSpellableTerm (Minus name) = is_name name ≡ true
IsSpellableTerm (Number z) = unsigned_abs z ≤ 1073741824

abbrev pub AreSpellableTerms : List Term → Type 0
AreSpellableTerms [] = Unit {0}
AreSpellableTerms (t ∷ terms) = IsSpellableTerm t × AreSpellableTerms terms

abbrev pub IsSpellableArg : Arg → Type 0
IsSpellableArg (One t) = IsSpellableTerm t
IsSpellableArg (Many terms) = AreSpellableTerms terms

abbrev pub AreSpellableArgs : List Arg → Type 0
AreSpellableArgs [] = Unit {0}
AreSpellableArgs (a ∷ args) = IsSpellableArg a × AreSpellableArgs args

-- a second objective's name, where there is one
abbrev pub IsSpellableSecond : Option (List ℕ) → Type 0
IsSpellableSecond None = Unit {0}
IsSpellableSecond (Some name) = is_name name ≡ true

abbrev pub IsSpellableItem : Item → Type 0
IsSpellableItem (Call name args) =
    (is_name name ≡ true) × (name ≢ codes "solve") × (name ≢ codes "then") × (args ≢ []) × AreSpellableArgs args
IsSpellableItem (Goal Satisfy None None) = Unit {0}
IsSpellableItem (Goal Satisfy None (Some second)) = ⊥
IsSpellableItem (Goal Satisfy (Some name) second) = ⊥
IsSpellableItem (Goal Minimize None second) = ⊥
IsSpellableItem (Goal Minimize (Some name) second) = (is_name name ≡ true) × IsSpellableSecond second
IsSpellableItem (Goal Maximize None second) = ⊥
IsSpellableItem (Goal Maximize (Some name) second) = (is_name name ≡ true) × IsSpellableSecond second

abbrev pub AreSpellableItems : List Item → Type 0
AreSpellableItems [] = Unit {0}
AreSpellableItems (i ∷ is) = IsSpellableItem i × AreSpellableItems is

-- names are names, numbers are within the bound of numerals, a call is called neither `solve` nor `then` and has
-- an argument, and a first objective stands exactly where one is sought, a second only behind a first
abbrev pub IsSpellable : Syntax → Type 0
IsSpellable syntax = AreSpellableItems syntax.items
