-- Literals as numbers of 32 bits: twice the variable, and one more where it is the variable itself.
use Rattle.std.specs.Prelude.{ℕ, ◌==◌, ◌+◌, ◌*◌, ◌/◌, ◌%◌, List, map, take, drop, slice_index_or}
use Rattle.std.specs.Prelude.{if◌then◌else◌}
use Rattle.order_ints.specs.declared.literal.Lit.{Lit}
use Rattle.clause_arena.specs.declared.codes.Span.{Span}

-- the number of a literal
abbrev pub code_of : Lit → ℕ
code_of l = 2 * l.var + (if l.positive then 1 else 0)

-- the literal of a number
abbrev pub lit_of : ℕ → Lit
lit_of code = record { var = code / 2; positive = code % 2 == 1 }

abbrev pub no_span : Span
no_span = record { start = 0; len = 0 }

-- where a clause's literals stand
abbrev pub span_of : List Span → ℕ → Span
span_of spans c = slice_index_or spans c no_span

-- the literals of a part of the arena
abbrev pub lits_at : List ℕ → Span → List Lit
lits_at codes span = map lit_of (take span.len (drop span.start codes))
