-- Where a name is declared.
use Rattle.std.specs.Prelude.{ℕ, ℤ, pos, Bool, ◌||◌, List, codes, position, Option, Some, None}
use Rattle.std.specs.Str.{bytes_eq}
use Rattle.model_meaning.specs.declared.model.Kind.{Kind}
use Rattle.model_meaning.specs.declared.model.Decl.{Decl}
use Rattle.model_meaning.specs.Domains.{least}

-- the place of a declared name
abbrev pub place_of : List ℕ → List Decl → Option ℕ
place_of name ds = position (λ d. bytes_eq name d.name) ds

-- the least value of what is declared
abbrev pub low_of : Option Kind → ℤ
low_of None = pos 0
low_of (Some k) = least k

-- `true` and `false` are no names
abbrev pub is_true : List ℕ → Bool
is_true name = bytes_eq name (codes "true")

abbrev pub is_constant : List ℕ → Bool
is_constant name = is_true name || bytes_eq name (codes "false")
