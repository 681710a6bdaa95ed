-- Names. A declared name is none of the two constants.
use Rattle.std.specs.Prelude.{◌≢◌, ℕ, Bool, false, ◌&&◌, List, [], ◌∷◌, codes, IsTrue}
use Rattle.std.specs.List.{list_all}
use Rattle.bumblebee_reader.specs.Bytes.{is_letter, is_word}

-- whether the bytes are a name: a letter or `_`, then letters, digits and `_`
abbrev pub is_name : List ℕ → Bool
is_name [] = false
is_name (b ∷ bs) = is_letter b && list_all is_word bs

-- the bytes are a name
abbrev pub IsName : List ℕ → Type 0
IsName name = IsTrue (is_name name)

-- a name that may be declared: a name other than `true` and `false`
pub record IsDeclarable (name : List ℕ) : Type 0 where
  pub spelled : IsName name
  pub not_true : name ≢ codes "true"
  pub not_false : name ≢ codes "false"

-- a name is none of these
abbrev pub IsNew : List ℕ → List (List ℕ) → Type 0
IsNew name [] = Unit {0}
IsNew name (n ∷ names) = (name ≢ n) × IsNew name names

-- names that are declared one after another: each may be declared, and stands once
abbrev pub AreDeclared : List (List ℕ) → Type 0
AreDeclared [] = Unit {0}
AreDeclared (name ∷ names) = IsDeclarable name × IsNew name names × AreDeclared names
