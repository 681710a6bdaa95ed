-- Clauses of atoms put in order: resolved by a view, the literals by variable, nothing twice, and
-- nothing that is always true.
use Rattle.std.specs.Prelude.{◌≡◌, ℕ, ◌<◌, Bool, false, not, ◌||◌, ◌&&◌, ◌==◌, nat_lt, List, []}
use Rattle.std.specs.Prelude.{◌∷◌, Option, None, Some, option_map, option_and_then, filter, filter_map}
use Rattle.std.specs.Prelude.{if◌then◌else◌}
use Rattle.std.specs.Bool.{beq}
use Rattle.std.specs.Cmp.Lexicographic.{pointwise}
use Rattle.std.specs.List.{list_any}
use Rattle.order_ints.specs.declared.literal.Lit.{Lit}
use Rattle.order_ints.specs.declared.atom.Atom.{Atom}
use Rattle.order_ints.specs.declared.atom.Atom.TheVariants.{True, False, Of}
use Rattle.order_ints.specs.Truth.{not_lit}
use Rattle.order_ints.specs.View.{resolve}
use Rattle.order_ints.specs.Placing.{placed_by, in_order_by}

-- the literals have the same variable and the same sign
abbrev pub same_lit : Lit → Lit → Bool
same_lit l m = (l.var == m.var) && beq l.positive m.positive

-- the first literal's variable is smaller; of one variable, the negative literal stands first
abbrev pub stands_before : Lit → Lit → Bool
stands_before l m = nat_lt l.var m.var || ((l.var == m.var) && (not l.positive && m.positive))

-- the literal is one of those
abbrev pub has_lit : Lit → List Lit → Bool
has_lit l = list_any (same_lit l)

-- a literal and its negation are among those
abbrev pub has_opposites : List Lit → Bool
has_opposites [] = false
has_opposites (l ∷ ls) = has_lit (not_lit l) ls || has_opposites ls

-- literals in order with one more at its place, unless it is there
abbrev pub place_lit : Lit → List Lit → List Lit
place_lit l ms = placed_by same_lit stands_before l ms

-- literals by variable, each once
abbrev pub by_variable : List Lit → List Lit
by_variable ls = in_order_by same_lit stands_before ls

-- the literals of a clause with one more atom: True makes it true, False adds nothing
abbrev pub with_atom : Atom → Option (List Lit) → Option (List Lit)
with_atom True lits = None
with_atom False lits = lits
with_atom (Of l) lits = option_map (λ ls. l ∷ ls) lits

-- the literals of a clause, each atom as the view has it; `None` where one is True
abbrev pub resolved_lits : List Atom → List Atom → Option (List Lit)
resolved_lits view [] = Some []
resolved_lits view (a ∷ atoms) = with_atom (resolve view a) (resolved_lits view atoms)

-- literals without a literal and its negation
abbrev pub unless_opposites : List Lit → Option (List Lit)
unless_opposites ls = if has_opposites ls then None else Some ls

-- a clause put in order; `None` where it is always true, for it has True, or a literal and its negation
abbrev pub ordered_clause : List Atom → List Atom → Option (List Lit)
ordered_clause view atoms = option_and_then (λ ls. unless_opposites (by_variable ls)) (resolved_lits view atoms)

-- the clauses have the same literals in the same order
abbrev pub same_clause : List Lit → List Lit → Bool
same_clause = pointwise same_lit

-- each clause once, where it stands first
abbrev pub distinct : List (List Lit) → List (List Lit)
distinct [] = []
distinct (c ∷ cs) = c ∷ filter (λ d. not (same_clause d c)) (distinct cs)

-- clauses put in order
abbrev pub ordered_clauses : List Atom → List (List Atom) → List (List Lit)
ordered_clauses view clauses = distinct (filter_map (ordered_clause view) clauses)

-- each literal's variable is greater
abbrev pub VarsAbove : ℕ → List Lit → Type 0
VarsAbove v [] = Unit {0}
VarsAbove v (l ∷ ls) = (v < l.var) × VarsAbove v ls

-- the variables ascend, so that each occurs once
abbrev pub VarsAscend : List Lit → Type 0
VarsAscend [] = Unit {0}
VarsAscend (l ∷ ls) = VarsAbove l.var ls × VarsAscend ls

-- the variables of each clause ascend
abbrev pub ClausesAscend : List (List Lit) → Type 0
ClausesAscend [] = Unit {0}
ClausesAscend (c ∷ cs) = VarsAscend c × ClausesAscend cs

-- no clause occurs twice
abbrev pub ClausesDiffer : List (List Lit) → Type 0
ClausesDiffer [] = Unit {0}
ClausesDiffer (c ∷ cs) = (list_any (λ d. same_clause d c) cs ≡ false) × ClausesDiffer cs
