-- How a shelf over memory keeps its files.
use Rattle.std.specs.Prelude.{◌≡◌, ℕ, List, ◌++◌, reverse, take, drop, length, min, Some, None}
use Rattle.std.specs.Prelude.{string_bytes, String}
use Rattle.bee_outside.specs.MemShelf.{left_under, without_front}
use Rattle.std.specs.Global.{Vec, Global}

-- the name and the bytes left of a file as it is kept: the bytes stand in reverse order
abbrev pub kept_file : String Global × Vec ℕ → List ℕ × List ℕ
kept_file file = (string_bytes file.0, reverse file.1.items)

-- no file has the name, and files and slice stay
pub record GivesNothing (before : List (List ℕ × List ℕ)) (name : List ℕ) (after : List (List ℕ × List ℕ))
    (into_before into_after : List ℕ) : Type 0 where
  pub missing : left_under before name ≡ None
  pub files : after ≡ before
  pub slice : into_after ≡ into_before

-- the first bytes under the name, so many as `size` says, went to the front of the slice
pub record GivesFront (before : List (List ℕ × List ℕ)) (step : ℕ) (name : List ℕ)
    (after : List (List ℕ × List ℕ)) (into_before into_after : List ℕ) (size : ℕ) : Type 0 where
  pub bytes : List ℕ
  pub found : left_under before name ≡ Some bytes
  pub amount : size ≡ min (min (length into_before) step) (length bytes)
  pub files : after ≡ without_front before name size
  pub slice : into_after ≡ take size bytes ++ drop size into_before
