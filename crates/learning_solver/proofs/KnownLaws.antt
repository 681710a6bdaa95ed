-- A clause that stands under an id is known.
use Rattle.std.proofs.Common.{◌≡◌, ℕ, ◌+◌, Bool, true, false, List, [], ◌∷◌, ◌++◌, Some, None, refl, sym, ap, ◌∙◌, subst}
use Rattle.std.specs.Prelude.{◌==◌, ◌||◌, if◌then◌else◌}
use Rattle.std.specs.List.{list_any}
use Rattle.std.proofs.lemmas.Bool.{and_from, and_parts, or_left, or_right}
use Rattle.std.proofs.lemmas.List.{map-append}
use Rattle.order_ints.specs.declared.literal.Lit.{Lit}
use Rattle.order_ints.specs.OrderedClauses.{same_lit, has_lit}
use Rattle.order_ints.proofs.LitOrder.{same_lit-refl}
use Rattle.proof_check.specs.Named.{Named, numbered, literals_of, clause_at}
use Rattle.proof_check.specs.Lrat.{Proof}
use Rattle.proof_check.specs.New.{lies_within}
use Rattle.proof_check.specs.Known.{same_literals, all_clauses, known}
use Rattle.learning_solver.specs.Log.{all_named}

-- a clause lies within a longer one, and within itself
within-more : (m : Lit) (c d : List Lit) → lies_within c d ≡ true → lies_within c (m ∷ d) ≡ true
within-more m [] d e = refl
within-more m (l ∷ c) d e =
    let parts = and_parts (has_lit l d) (lies_within c d) e in
    and_from (has_lit l (m ∷ d)) (lies_within c (m ∷ d)) (or_right (same_lit l m) (has_lit l d) parts.0) (within-more m c d parts.1)

within-itself : (c : List Lit) → lies_within c c ≡ true
within-itself [] = refl
within-itself (l ∷ c) =
    and_from (has_lit l (l ∷ c)) (lies_within c (l ∷ c)) (or_left (same_lit l l) (has_lit l c) (same_lit-refl l)) (within-more l c c (within-itself c))

same-itself : (c : List Lit) → same_literals c c ≡ true
same-itself c = and_from (lies_within c c) (lies_within c c) (within-itself c) (within-itself c)

-- a clause that stands under an id is among the clauses
named-any : (cs : List Named) (id : ℕ) (lits : List Lit) → clause_at cs id ≡ Some lits → list_any (same_literals lits) (literals_of cs) ≡ true
named-any [] id lits e = absurd (none e)
  where
    none : None ≡ Some lits → ⊥
    none e = cc
named-any (c ∷ cs) id lits e = by (c.id == id) e (named-any cs id lits)
  where
    first : c.lits ≡ lits → same_literals lits c.lits ≡ true
    first e = subst (λ (ls : List Lit). same_literals ls c.lits ≡ true) e (same-itself c.lits)

    some : Some c.lits ≡ Some lits → c.lits ≡ lits
    some e = cc

    by : (b : Bool) → (if b then Some c.lits else clause_at cs id) ≡ Some lits → (clause_at cs id ≡ Some lits → list_any (same_literals lits) (literals_of cs) ≡ true)
        → (same_literals lits c.lits || list_any (same_literals lits) (literals_of cs)) ≡ true
    by true e more = or_left (same_literals lits c.lits) (list_any (same_literals lits) (literals_of cs)) (first (some e))
    by false e more = or_right (same_literals lits c.lits) (list_any (same_literals lits) (literals_of cs)) (more e)

literals-numbered : (k : ℕ) (cs : List (List Lit)) → literals_of (numbered k cs) ≡ cs
literals-numbered k [] = refl
literals-numbered k (c ∷ cs) = ap (λ (ds : List (List Lit)). c ∷ ds) (literals-numbered (k + 1) cs)

all-literals : (p : Proof) → literals_of (all_named p) ≡ all_clauses p
all-literals p =
    map-append (λ (c : Named). c.lits) (numbered 1 p.cnf.clauses) p.added
    ∙ ap (λ (cs : List (List Lit)). cs ++ literals_of p.added) (literals-numbered 1 p.cnf.clauses)

pub known-named : (p : Proof) (id : ℕ) (lits : List Lit) → clause_at (all_named p) id ≡ Some lits → known p lits ≡ true
known-named p id lits e = sym (ap (list_any (same_literals lits)) (all-literals p)) ∙ named-any (all_named p) id lits e
