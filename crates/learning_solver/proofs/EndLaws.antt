-- The last clause of a refutation: found among the live ones, or new.
use Rattle.std.proofs.Common.{◌≡◌, ◌≢◌, ℕ, true, false, List, [], ◌∷◌, length, Option, Some, None, Bor, refl, ap, sym, ◌∙◌, subst, arith, ⊎_elim, ◌⊎◌, inl, inr}
use Rattle.std.specs.Prelude.{Contains, IsPermutation}
use Rattle.std.specs.List.{list_any}
use Rattle.std.proofs.lemmas.Bool.{cases_Bool, and_parts, or_cases}
use Rattle.std.proofs.lemmas.List.Sorted.{Contains-permutation, IsPermutation-sym, length_permutation}
use Rattle.order_ints.specs.declared.literal.Lit.{Lit}
use Rattle.order_ints.specs.declared.cnf.Cnf.{Cnf}
use Rattle.order_ints.specs.Truth.{not_lit}
use Rattle.order_ints.specs.OrderedClauses.{same_lit, has_lit}
use Rattle.order_ints.proofs.LitOrder.{same_lit-true}
use Rattle.literal_trail.specs.declared.entry.Entry.{Entry}
use Rattle.literal_trail.specs.Trail.{Trail}
use Rattle.clause_arena.specs.Clauses.{Clause, IsLive, lits_of}
use Rattle.clause_rings.specs.Clauses.{IsComplete, IsApart, AreApart}
use Rattle.proof_check.specs.declared.line.ProofLine.{ProofLine}
use Rattle.proof_check.specs.Named.{Named, clause_at}
use Rattle.proof_check.specs.New.{New, lies_within}
use Rattle.learning_solver.specs.Log.{proof_behind, all_named, IsLog}
use Rattle.learning_solver.specs.Kept.{IsKept}
use Rattle.learning_solver.specs.Outcome.{Refutes, IsRefutation}
use Rattle.learning_solver.specs.declared.search.Search.{Search}
use Rattle.learning_solver.specs.Searching.{Stays}
use Rattle.learning_solver.specs.Ending.{last_lits, IsNamedBy, IsDenied}
use Rattle.learning_solver.proofs.ReasonLaws.{member-first, member-more, member-cases}

pub no-member : (l : Lit) → Contains [] l → ⊥
no-member l has = omega (arith, has.1)

-- a list in another order, where it has one literal at most
pub perm-last : (last : Option Lit) (xs : List Lit) → IsPermutation xs (last_lits last) → xs ≡ last_lits last
perm-last None [] perm = refl
perm-last None (x ∷ xs) perm = absurd (omega (arith, length_permutation (x ∷ xs) [] perm))
perm-last (Some l) [] perm = absurd (omega (arith, length_permutation [] (l ∷ []) perm))
perm-last (Some l) (x ∷ []) perm =
    ⊎_elim
    (λ (same : l ≡ x). ap (λ (y : Lit). y ∷ []) (sym same))
    (λ (has : Contains [] x). absurd (no-member x has))
    (member-cases l [] x (Contains-permutation (x ∷ []) (l ∷ []) x perm (member-first x [])))
perm-last (Some l) (x ∷ y ∷ xs) perm = absurd (omega (arith, length_permutation (x ∷ y ∷ xs) (l ∷ []) perm))

-- a live clause that is the last one wanted
pub refutation-named : (cnf : Cnf) (log : List ProofLine) (cs : List Clause) → IsLog cnf log → IsKept (proof_behind cnf log).live cs → (assumption last : Option Lit) (id : ℕ) → Refutes assumption (last_lits last) → IsNamedBy cs (last_lits last) id → IsRefutation cnf log assumption id
refutation-named cnf log cs is kept assumption last id refutes named =
    let w = kept.named named.reference named.live in
    let d = w.0 in
    let P : List Lit → Type 0 = IsPermutation d.lits in
    let lits : d.lits ≡ last_lits last = perm-last last d.lits (subst P named.same_lits w.2.lits) in
    let same : d.id ≡ id = sym w.2.id ∙ named.same_id in
    record {
      lits = last_lits last;
      stands = ap (λ (i : ℕ). clause_at (all_named (proof_behind cnf log)) i) (sym same) ∙ is.known d w.1 ∙ ap (λ (ls : List Lit). Some ls) lits;
      refutes = refutes;
    }

pub refutes-empty : (assumption : Option Lit) → Refutes assumption []
refutes-empty None = refl
refutes-empty (Some a) = inl refl

pub refutes-denied : (t : Trail) (assumption : Option Lit) (denied : Lit) (reason : ℕ) → IsDenied t assumption denied reason → Refutes assumption (denied ∷ [])
refutes-denied t assumption denied reason is =
    let P : Option Lit → Type 0 = λ a. Refutes a (denied ∷ []) in
    let e : denied ∷ [] ≡ not_lit is.lit ∷ [] = ap (λ (l : Lit). l ∷ []) is.negated in
    let here : Refutes (Some is.lit) (denied ∷ []) = inr e in
    subst P (sym is.is) here

-- the empty clause is new where no live clause is empty
new-of-empty : (live : List Named) (d : Named) → (d.lits ≡ [] → ⊥) → (ls : List Lit) → d.lits ≡ ls → lies_within ls [] ≡ false
new-of-empty live d some [] e = absurd (some e)
new-of-empty live d some (l ∷ ls) e = refl

empty-perm : (xs ys : List Lit) → IsPermutation xs ys → xs ≡ [] → ys ≡ []
empty-perm xs [] perm e = refl
empty-perm xs (y ∷ ys) perm e = absurd (omega (arith, length_permutation xs (y ∷ ys) perm, ap (λ (l : List Lit). length l) e))

pub new-empty : (live : List Named) (cs : List Clause) → IsKept live cs → ((c : ℕ) → IsLive cs c → lits_of cs c ≢ []) → New live []
new-empty live cs kept none d lives =
    let st = kept.stored d lives in
    new-of-empty live d (λ e. none st.0 st.1.live (empty-perm d.lits (lits_of cs st.0) st.1.lits e)) d.lits refl

-- the members of a list that lies within one literal
pub within-one : (l : Lit) (xs : List Lit) → lies_within xs (l ∷ []) ≡ true → (x : Lit) → Contains xs x → x ≡ l
within-one l [] e x has = absurd (no-member x has)
within-one l (y ∷ ys) e x has =
    let both = and_parts (has_lit y (l ∷ [])) (lies_within ys (l ∷ [])) e in
    ⊎_elim
    (λ (same : y ≡ x).
    sym same ∙ ⊎_elim (λ (t : same_lit y l ≡ true). same_lit-true y l t) (λ (f : list_any (same_lit y) [] ≡ true). nothing y f) (or_cases (same_lit y l) (list_any (same_lit y) []) both.0))
    (λ (there : Contains ys x). within-one l ys both.1 x there)
    (member-cases y ys x has)
  where
    nothing : (y : Lit) → list_any (same_lit y) [] ≡ true → y ≡ l
    nothing y f = cc

-- where all literals are one, and variables differ, there is one literal at most
pub one-at-most : (l : Lit) (ls : List Lit) → ((x : Lit) → Contains ls x → x ≡ l) → IsApart ls → (ls ≡ []) ⊎ (ls ≡ l ∷ [])
one-at-most l [] all apart = inl refl
one-at-most l (x ∷ []) all apart = inr (ap (λ (y : Lit). y ∷ []) (all x (member-first x [])))
one-at-most l (x ∷ y ∷ ls) all apart =
    let first = all x (member-first x (y ∷ ls)) in
    let second = all y (member-more x (y ∷ ls) y (member-first y ls)) in
    let vars : x.var ≡ y.var = ap (λ (z : Lit). z.var) (first ∙ sym second) in
    absurd (omega (arith, apart 0 1 (omega arith) (omega arith) vars))

-- one literal alone is new where neither it nor the empty clause lives
pub new-unit : (live : List Named) (cs : List Clause) (entries : List Entry) (l : Lit) → IsKept live cs → IsComplete entries cs → AreApart cs → ((c : ℕ) → IsLive cs c → lits_of cs c ≢ l ∷ []) → New live (l ∷ [])
new-unit live cs entries l kept complete apart none d lives =
    ⊎_elim
    (λ (within : lies_within d.lits (l ∷ []) ≡ true). absurd (never within))
    (λ (outside : lies_within d.lits (l ∷ []) ≡ false). outside)
    (cases_Bool (lies_within d.lits (l ∷ [])))
  where
    never : lies_within d.lits (l ∷ []) ≡ true → ⊥
    never within =
        let st = kept.stored d lives in
        let ls = lits_of cs st.0 in
        ⊎_elim
        (λ (empty : ls ≡ []). (complete st.0 st.1.live).not_false (λ x has. absurd (let P : List Lit → Type 0 = λ xs. Contains xs x in no-member x (subst P empty has))))
        (λ (one : ls ≡ l ∷ []). none st.0 st.1.live one)
        (one-at-most l ls (λ x has. within-one l d.lits within x (Contains-permutation ls d.lits x (IsPermutation-sym d.lits ls st.1.lits) has)) (apart st.0 st.1.live))

-- a log that stays
pub new-stays : (old new : Search) → Stays old new → (ls lits : List Lit) → lits ≡ ls → New (proof_behind old.cnf.now old.lines.items).live ls → New (proof_behind new.cnf.now new.lines.items).live lits
new-stays old new stays ls lits e was =
    let P : List Lit → Type 0 = New (proof_behind old.cnf.now old.lines.items).live in
    let Q : Bor Cnf → Type 0 = λ x. New (proof_behind x.now old.lines.items).live lits in
    let R : List ProofLine → Type 0 = λ x. New (proof_behind new.cnf.now x).live lits in
    subst R (sym stays.lines) (subst Q (sym stays.cnf) (subst P (sym e) was))
