-- A shelf over memory: what it holds, and what its next call does.
use Rattle.std.specs.Prelude.{ℕ, Bool, List, [], ◌∷◌, ◌||◌, ◌==◌, drop, take, ◌++◌, length, min}
use Rattle.std.specs.Prelude.{map, Option, Some, None, is_none, unwrap_or, Result, Ok, Err, if◌then◌else◌}
use Rattle.std.specs.Prelude.{bytes_eq, string_bytes, String}
use Rattle.std.specs.List.{list_any}
use Rattle.std.specs.Global.{Vec, Global}
use Rattle.bee_outside.specs.declared.failed.Failed.{Failed}
use Rattle.bee_outside.specs.Faults.{next_count}

-- what a shelf over memory holds: for each file its name and the bytes that are left, how many bytes a
-- call gives at most, the numbers of the calls that fail, how many calls there were, and the faults
pub record MemShelfState : Type 0 where
  pub files : List (List ℕ × List ℕ)
  pub step : ℕ
  pub failing : List ℕ
  pub calls : ℕ
  pub faults : ℕ

-- the name and the bytes of a file as it is handed in
abbrev pub given_file : String Global × Vec ℕ → List ℕ × List ℕ
given_file file = (string_bytes file.0, file.1.items)

-- the shelf before its first call
abbrev pub fresh_shelf : List (String Global × Vec ℕ) → ℕ → List ℕ → MemShelfState
fresh_shelf files step failing =
    record { files = map given_file files; step = step; failing = failing; calls = 0; faults = 0 }

-- the bytes left under a name: those of the first file of that name, and untold where there is none
abbrev pub left_under : List (List ℕ × List ℕ) → List ℕ → Option (List ℕ)
left_under [] name = None
left_under (file ∷ files) name = if bytes_eq file.0 name then Some file.1 else left_under files name

-- the files once the first bytes under a name are gone, so many as `count` says
abbrev pub without_front : List (List ℕ × List ℕ) → List ℕ → ℕ → List (List ℕ × List ℕ)
without_front [] name count = []
without_front (file ∷ files) name count =
    if bytes_eq file.0 name then (file.0, drop count file.1) ∷ files else file ∷ without_front files name count

-- the next call fails: its number is listed, or no file has the name
abbrev pub next_fails : MemShelfState → List ℕ → Bool
next_fails shelf name =
    list_any (λ number. number == next_count shelf.calls) shelf.failing || is_none (left_under shelf.files name)

-- how many bytes the next call gives, into a slice with room for so many
abbrev pub next_size : MemShelfState → List ℕ → ℕ → ℕ
next_size shelf name room = min (min room shelf.step) (length (unwrap_or (left_under shelf.files name) []))

-- the answer of the next call
abbrev pub next_answer : MemShelfState → List ℕ → ℕ → Result ℕ Failed
next_answer shelf name room = if next_fails shelf name then Err (record {}) else Ok (next_size shelf name room)

-- the slice after the next call
abbrev pub next_slice : MemShelfState → List ℕ → List ℕ → List ℕ
next_slice shelf name into =
    if next_fails shelf name then into else
    take (next_size shelf name (length into)) (unwrap_or (left_under shelf.files name) [])
    ++ drop (next_size shelf name (length into)) into

-- the shelf after the next call
abbrev pub after_next : MemShelfState → List ℕ → ℕ → MemShelfState
after_next shelf name room =
    if next_fails shelf name
    then record shelf { calls = next_count shelf.calls; faults = next_count shelf.faults }
    else record shelf {
      files = without_front shelf.files name (next_size shelf name room);
      calls = next_count shelf.calls;
    }
