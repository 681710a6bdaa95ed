-- What operators make of a list of truth values.
use Rattle.std.specs.Prelude.{ℕ, ◌+◌, ◌%◌, ◌==◌, Bool, true, false, not, ◌&&◌, ◌||◌, List, []}
use Rattle.std.specs.Prelude.{◌∷◌, if◌then◌else◌}
use Rattle.model_meaning.specs.declared.statement.Operator.{Operator}
use Rattle.model_meaning.specs.declared.statement.Operator.TheVariants.{Or, And, Xor, Iff}

-- a member is true
abbrev pub some_true : List Bool → Bool
some_true [] = false
some_true (x ∷ xs) = x || some_true xs

-- all members are true
abbrev pub all_true : List Bool → Bool
all_true [] = true
all_true (x ∷ xs) = x && all_true xs

-- no member is true
abbrev pub none_true : List Bool → Bool
none_true [] = true
none_true (x ∷ xs) = not x && none_true xs

-- the number of true members
abbrev pub count_true : List Bool → ℕ
count_true [] = 0
count_true (x ∷ xs) = (if x then 1 else 0) + count_true xs

-- `or` is true where a member is, `and` where all are, `xor` where an odd number is, and `iff` where all
-- are equal, which is: all are true, or none is
abbrev pub combine : Operator → List Bool → Bool
combine Or xs = some_true xs
combine And xs = all_true xs
combine Xor xs = count_true xs % 2 == 1
combine Iff xs = all_true xs || none_true xs
