-- The lines that tell the numbers of declared names: `NAME = VALUE`, with `true` or `false` for a Boolean and a number
-- for an integer.
use Rattle.std.specs.Prelude.{◌≡◌, ◌≤◌, ◌⊎◌, ℕ, Bool, true, false, List, [], ◌∷◌, ◌++◌}
use Rattle.std.specs.Prelude.{codes, ℤ, pos, unsigned_abs, FitsSigned, if◌then◌else◌}
use Rattle.std.specs.Int.{w128}
use Rattle.std.specs.Fmt.{signed_decimal}
use Rattle.std.specs.Ordering.{int_eq}
use Rattle.model_meaning.specs.declared.model.Kind.{Kind}
use Rattle.model_meaning.specs.declared.model.Decl.{Decl}
use Rattle.name_map.specs.Values.{is_boolean_kind}

-- how the number of a name is told, where the test says whether it is a Boolean: of a Boolean 0 is `false`
abbrev pub number_word : Bool → ℤ → List ℕ
number_word true z = if int_eq z (pos 0) then codes "false" else codes "true"
number_word false z = signed_decimal z

-- a name, and the number that it has
abbrev pub value_line : List ℕ → Bool → ℤ → List ℕ
value_line name boolean z = name ++ (codes " = " ++ number_word boolean z)

-- how the number of a declared name is told
abbrev pub declared_word : Kind → ℤ → List ℕ
declared_word k z = number_word (is_boolean_kind k) z

-- a declared name, and its number
abbrev pub declared_line : Decl → ℤ → List ℕ
declared_line d z = value_line d.name (is_boolean_kind d.kind) z

-- the lines of an assignment to declared names, one for each
abbrev pub declared_lines : List Decl → List ℤ → List (List ℕ)
declared_lines [] a = []
declared_lines (d ∷ ds) [] = []
declared_lines (d ∷ ds) (z ∷ a) = declared_line d z ∷ declared_lines ds a

-- a number that a line can tell, and be read again: 0 or 1 of a Boolean, and of an integer one that is at most `most`
-- in absolute value
abbrev pub IsTellable : Bool → ℕ → ℤ → Type 0
IsTellable true most z = (z ≡ pos 0) ⊎ (z ≡ pos 1)
IsTellable false most z = (unsigned_abs z ≤ most) × FitsSigned w128 z

-- a line tells one number
abbrev pub LineTellsNumber : Type 0
LineTellsNumber =
    (name : List ℕ) (boolean : Bool) (most : ℕ) (y z : ℤ) → IsTellable boolean most y
    → IsTellable boolean most z → value_line name boolean y ≡ value_line name boolean z → y ≡ z
