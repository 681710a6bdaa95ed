-- Clauses whose variables ascend have no variable twice.
use Rattle.std.proofs.Common.{◌≡◌, ℕ, zero, suc, ◌<◌, List, [], ◌∷◌, length, get_or, refl, ap, arith}
use Rattle.order_ints.specs.declared.literal.Lit.{Lit}
use Rattle.order_ints.specs.declared.cnf.Cnf.{Cnf}
use Rattle.order_ints.specs.OrderedClauses.{VarsAbove, VarsAscend, ClausesAscend}
use Rattle.clause_arena.specs.Clauses.{lit_in}
use Rattle.clause_rings.specs.Clauses.{IsApart, AreApartIn}

above-all : (v : ℕ) (ls : List Lit) (i : ℕ) → VarsAbove v ls → i < length ls → v < (lit_in ls i).var
above-all v [] i h low = absurd (omega (arith, low))
above-all v (l ∷ ls) zero h low = h.0
above-all v (l ∷ ls) (suc i) h low = above-all v ls i h.1 (omega (arith, low))

pub ascend-apart : (ls : List Lit) → VarsAscend ls → IsApart ls
ascend-apart [] h i j low_i low_j e = absurd (omega (arith, low_i))
ascend-apart (l ∷ ls) h zero zero low_i low_j e = refl
ascend-apart (l ∷ ls) h zero (suc j) low_i low_j e = absurd (omega (arith, above-all l.var ls j h.0 (omega (arith, low_j)), e))
ascend-apart (l ∷ ls) h (suc i) zero low_i low_j e = absurd (omega (arith, above-all l.var ls i h.0 (omega (arith, low_i)), e))
ascend-apart (l ∷ ls) h (suc i) (suc j) low_i low_j e = ap suc (ascend-apart ls h.1 i j (omega (arith, low_i)) (omega (arith, low_j)) e)

clauses-apart : (cs : List (List Lit)) → ClausesAscend cs → (k : ℕ) → k < length cs → IsApart (get_or cs k [])
clauses-apart [] h k low = absurd (omega (arith, low))
clauses-apart (c ∷ cs) h zero low = ascend-apart c h.0
clauses-apart (c ∷ cs) h (suc k) low = clauses-apart cs h.1 k (omega (arith, low))

pub ascending-apart : (cnf : Cnf) → ClausesAscend cnf.clauses → AreApartIn cnf
ascending-apart cnf h = clauses-apart cnf.clauses h
