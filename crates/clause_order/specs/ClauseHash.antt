-- A hash of clauses that keeps neighbours together, in blocks of 32.
use Rattle.std.specs.Prelude.{ℕ, ◌+◌, ◌-◌, ◌*◌, ◌/◌, ◌%◌, ◌^◌, ◌==◌, List, get_or, length}
use Rattle.std.specs.Prelude.{if◌then◌else◌}
use Rattle.clause_order.specs.declared.hash.ClauseHasher.{ClauseHasher}

-- no literal
abbrev pub no_literal : ClauseHasher
no_literal = record { first = 0; rest = 0 }

-- four bytes as a number, the lowest first
abbrev pub word : List ℕ → ℕ
word bytes = get_or bytes 0 0 + 256 * (get_or bytes 1 0 + 256 * (get_or bytes 2 0 + 256 * get_or bytes 3 0))

-- a number mixed into what is there
abbrev pub mixed : ℕ → ℕ → ℕ
mixed rest x = ((rest + x) % 2 ^ 64 * 11400714819323198485) % 2 ^ 64

-- how far a variable is from the first one
abbrev pub distance : ℕ → ℕ → ℕ
distance first variable = (variable + 2 ^ 64 - first) % 2 ^ 64

-- a variable is taken: the first one as it is, another by its distance
abbrev pub with_variable : ClauseHasher → ℕ → ClauseHasher
with_variable h v = if h.first == 0 then record { first = v; rest = h.rest }
    else record { first = h.first; rest = mixed h.rest (distance h.first v) }

-- a write of four bytes is a variable, and one of a single byte a sign
abbrev pub clause_write : ClauseHasher → List ℕ → ClauseHasher
clause_write h bytes = if length bytes == 4 then with_variable h (word bytes)
    else (if length bytes == 1 then record { first = h.first; rest = mixed h.rest (get_or bytes 0 0) } else h)

-- 24 bits, spread by blocks of the first variable and the rest, with the place in the block; above them 8 bits of both
abbrev pub clause_hash : ClauseHasher → ℕ
clause_hash h = ((h.first * 11400714819323198485) % 2 ^ 64 + h.rest) % 2 ^ 64 / 2 ^ 56 * 2 ^ 24
    + (mixed h.rest (h.first / 32) / 2 ^ 40 + h.first % 32) % 2 ^ 24
