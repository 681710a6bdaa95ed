-- Clauses whose variables ascend are in range, and no variable stands twice in one.
use Rattle.std.proofs.Common.{ℕ, zero, suc, ◌+◌, ◌<◌, List, [], ◌∷◌, length, get_or, refl, ap, subst, arith}
use Rattle.std.specs.List.{Contains}
use Rattle.order_ints.specs.declared.literal.Lit.{Lit}
use Rattle.order_ints.specs.declared.cnf.Cnf.{Cnf}
use Rattle.order_ints.specs.Place.{LitBelow, ClauseBelow, ClausesBelow}
use Rattle.clause_arena.specs.Clauses.{lit_in}
use Rattle.clause_rings.specs.Clauses.{IsApart, AreApartIn}
use Rattle.search_rows.specs.Clauses.{Ascends, EachAscends}

pub below : (low vars : ℕ) (ls : List Lit) → Ascends low vars ls → ClauseBelow (vars + 1) ls
below low vars [] h = tt
below low vars (l ∷ ls) h = ((omega (arith, h.0), omega (arith, h.1.0)), below l.var vars ls h.1.1)

above : (low vars : ℕ) (ls : List Lit) (i : ℕ) → Ascends low vars ls → i < length ls → low < (lit_in ls i).var
above low vars [] i h inside = absurd (omega (arith, inside))
above low vars (l ∷ ls) zero h inside = h.0
above low vars (l ∷ ls) (suc i) h inside = omega (arith, h.0, above l.var vars ls i h.1.1 (omega (arith, inside)))

pub apart : (low vars : ℕ) (ls : List Lit) → Ascends low vars ls → IsApart ls
apart low vars [] h i j inside_i inside_j e = absurd (omega (arith, inside_i))
apart low vars (l ∷ ls) h zero zero inside_i inside_j e = refl
apart low vars (l ∷ ls) h zero (suc j) inside_i inside_j e = absurd (omega (arith, above l.var vars ls j h.1.1 (omega (arith, inside_j)), e))
apart low vars (l ∷ ls) h (suc i) zero inside_i inside_j e = absurd (omega (arith, above l.var vars ls i h.1.1 (omega (arith, inside_i)), e))
apart low vars (l ∷ ls) h (suc i) (suc j) inside_i inside_j e = ap suc (apart l.var vars ls h.1.1 i j (omega (arith, inside_i)) (omega (arith, inside_j)) e)

at-place : (low vars : ℕ) (ls : List Lit) (k : ℕ) (d : Lit) → Ascends low vars ls → k < length ls → LitBelow (vars + 1) (get_or ls k d)
at-place low vars [] k d h inside = absurd (omega (arith, inside))
at-place low vars (l ∷ ls) zero d h inside = (omega (arith, h.0), omega (arith, h.1.0))
at-place low vars (l ∷ ls) (suc k) d h inside = at-place l.var vars ls k d h.1.1 (omega (arith, inside))

pub in-range : (low vars : ℕ) (ls : List Lit) (l : Lit) → Ascends low vars ls → Contains ls l → LitBelow (vars + 1) l
in-range low vars ls l h is_in = subst (LitBelow (vars + 1)) is_in.2 (at-place low vars ls is_in.0 l h is_in.1)

pub each-below : (vars : ℕ) (cs : List (List Lit)) → EachAscends vars cs → ClausesBelow (vars + 1) cs
each-below vars [] h = tt
each-below vars (c ∷ cs) h = (below 0 vars c h.0, each-below vars cs h.1)

clauses-apart : (vars : ℕ) (cs : List (List Lit)) → EachAscends vars cs → (k : ℕ) → k < length cs → IsApart (get_or cs k [])
clauses-apart vars [] h k inside = absurd (omega (arith, inside))
clauses-apart vars (c ∷ cs) h zero inside = apart 0 vars c h.0
clauses-apart vars (c ∷ cs) h (suc k) inside = clauses-apart vars cs h.1 k (omega (arith, inside))

pub each-apart : (cnf : Cnf) → EachAscends cnf.vars cnf.clauses → AreApartIn cnf
each-apart cnf h = clauses-apart cnf.vars cnf.clauses h
