-- Literals that a proof takes: in range, and no variable twice.
use Rattle.std.proofs.Common.{◌≡◌, ℕ, zero, suc, ◌+◌, ◌<◌, Bool, true, false, not, List, [], ◌∷◌, length, Option, Some, None, refl, ap, sym, ◌∙◌, subst, arith}
use Rattle.std.specs.Prelude.{if◌then◌else◌, ◌==◌, ◌&&◌, nat_lt, nat_le, Contains, ℤ}
use Rattle.std.proofs.lemmas.List.{get_or_default}
use Rattle.std.proofs.lemmas.Bool.{and_parts, or_parts, ltb-true, leb-true, not-true, eq-eqb}
use Rattle.order_ints.specs.declared.literal.Lit.{Lit}
use Rattle.order_ints.specs.declared.cnf.Cnf.{Cnf}
use Rattle.order_ints.specs.Place.{LitBelow}
use Rattle.clause_arena.specs.Clauses.{lit_in, no_lit}
use Rattle.clause_rings.specs.Clauses.{IsApart}
use Rattle.proof_check.specs.declared.fault.ProofFault.{ProofFault}
use Rattle.proof_check.specs.declared.fault.ProofFault.TheVariants as fault
use Rattle.proof_check.specs.declared.line.ProofLine.{ProofLine}
use Rattle.proof_check.specs.declared.line.ProofLine.TheVariants.{Add, Delete}
use Rattle.proof_check.specs.Values.{has_var}
use Rattle.proof_check.specs.Faults.{or_else, id_fault, lits_fault, fits, hints_fault, against}
use Rattle.proof_check.specs.Lrat.{Proof, proof_of, after_line, addition_fault}
use Rattle.learning_solver.specs.Log.{after_lines, proof_behind}

-- a test that found no fault was passed
passed : (b : Bool) (behind : Option ProofFault) (e : ProofFault) → (if b then behind else Some e) ≡ None → (b ≡ true) × (behind ≡ None)
passed true behind e none = (refl, none)
passed false behind e none = cc

pub both-none : (a b : Option ProofFault) → or_else a b ≡ None → (a ≡ None) × (b ≡ None)
both-none None b e = (refl, e)
both-none (Some x) b e = cc

pub lits-passed : (p : Proof) (id : ℕ) (lits : List Lit) (hints : List ℤ) → addition_fault p id lits hints ≡ None → lits_fault p.cnf.vars [] lits 1 ≡ None
lits-passed p id lits hints e =
    (both-none (lits_fault p.cnf.vars [] lits 1) (hints_fault p.live (against lits) hints 1)
    (both-none (id_fault p.last id) (or_else (lits_fault p.cnf.vars [] lits 1) (hints_fault p.live (against lits) hints 1)) e).1).0

record Fits (vars : ℕ) (earlier : List Lit) (l : Lit) : Type 0 where
  below : LitBelow (vars + 1) l
  apart : has_var l.var earlier ≡ false

fits-told : (vars : ℕ) (earlier : List Lit) (l : Lit) → fits vars earlier l ≡ true → Fits vars earlier l
fits-told vars earlier l e =
    let both = and_parts (nat_lt 0 l.var && nat_le l.var vars) (not (has_var l.var earlier)) e in
    let range = and_parts (nat_lt 0 l.var) (nat_le l.var vars) both.0 in
    record {
      below = (omega (arith, ltb-true 0 l.var range.0), omega (arith, leb-true l.var vars range.1));
      apart = not-true (has_var l.var earlier) both.1;
    }

pub first-member : (x : Lit) (xs : List Lit) → Contains (x ∷ xs) x
first-member x xs = (0, omega arith, refl)

each-fits : (vars : ℕ) (earlier lits : List Lit) (place : ℕ) → lits_fault vars earlier lits place ≡ None → (j : ℕ) → j < length lits → Fits vars earlier (lit_in lits j)
each-fits vars earlier [] place none j low = absurd (omega arith)
each-fits vars earlier (l ∷ ls) place none zero low =
    fits-told vars earlier l (passed (fits vars earlier l) (lits_fault vars (l ∷ earlier) ls (place + 1)) (fault.Lit place) none).0
each-fits vars earlier (l ∷ ls) place none (suc j) low =
    let inner = each-fits vars (l ∷ earlier) ls (place + 1) (passed (fits vars earlier l) (lits_fault vars (l ∷ earlier) ls (place + 1)) (fault.Lit place) none).1 j (omega arith) in
    record { below = inner.below; apart = (or_parts ((lit_in ls j).var == l.var) (has_var (lit_in ls j).var earlier) inner.apart).1 }

not-first : (vars : ℕ) (earlier lits : List Lit) (l : Lit) (place : ℕ) → lits_fault vars (l ∷ earlier) lits place ≡ None → (j : ℕ) → j < length lits → (lit_in lits j).var ≡ l.var → ⊥
not-first vars earlier lits l place none j low same =
    let inner = each-fits vars (l ∷ earlier) lits place none j low in
    let fails = (or_parts ((lit_in lits j).var == l.var) (has_var (lit_in lits j).var earlier) inner.apart).0 in
    let holds = eq-eqb (lit_in lits j).var l.var same in
    cc

pub lits-apart : (vars : ℕ) (earlier lits : List Lit) (place : ℕ) → lits_fault vars earlier lits place ≡ None → IsApart lits
lits-apart vars earlier [] place none i j first second same = absurd (omega arith)
lits-apart vars earlier (l ∷ ls) place none zero zero first second same = refl
lits-apart vars earlier (l ∷ ls) place none zero (suc j) first second same =
    absurd (not-first vars earlier ls l (place + 1) (passed (fits vars earlier l) (lits_fault vars (l ∷ earlier) ls (place + 1)) (fault.Lit place) none).1 j (omega arith) (sym same))
lits-apart vars earlier (l ∷ ls) place none (suc i) zero first second same =
    absurd (not-first vars earlier ls l (place + 1) (passed (fits vars earlier l) (lits_fault vars (l ∷ earlier) ls (place + 1)) (fault.Lit place) none).1 i (omega arith) same)
lits-apart vars earlier (l ∷ ls) place none (suc i) (suc j) first second same =
    ap suc (lits-apart vars (l ∷ earlier) ls (place + 1) (passed (fits vars earlier l) (lits_fault vars (l ∷ earlier) ls (place + 1)) (fault.Lit place) none).1 i j (omega arith) (omega arith) same)

pub lits-below : (vars : ℕ) (lits : List Lit) (place : ℕ) → lits_fault vars [] lits place ≡ None → (l : Lit) → Contains lits l → LitBelow (vars + 1) l
lits-below vars lits place none l has =
    let P : Lit → Type 0 = LitBelow (vars + 1) in
    subst P (get_or_default lits has.0 no_lit l has.1 ∙ has.2) (each-fits vars [] lits place none has.0 has.1).below

-- no line changes the CNF
pub cnf-behind : (p : Proof) (lines : List ProofLine) → (after_lines p lines).cnf ≡ p.cnf
cnf-behind p [] = refl
cnf-behind p (Add id lits hints ∷ lines) = cnf-behind (after_line p (Add id lits hints)) lines
cnf-behind p (Delete at ids ∷ lines) = cnf-behind (after_line p (Delete at ids)) lines

pub lits-of-addition : (cnf : Cnf) (log : List ProofLine) (vars id : ℕ) (lits : List Lit) (hints : List ℤ) → addition_fault (proof_behind cnf log) id lits hints ≡ None → vars ≡ cnf.vars → ((l : Lit) → Contains lits l → LitBelow (vars + 1) l) × IsApart lits
lits-of-addition cnf log vars id lits hints fault same =
    let p = proof_behind cnf log in
    let none = lits-passed p id lits hints fault in
    let count : p.cnf.vars ≡ vars = ap (λ (c : Cnf). c.vars) (cnf-behind (proof_of cnf) log) ∙ sym same in
    let P : ℕ → Type 0 = λ n. lits_fault n [] lits 1 ≡ None in
    let here = subst P count none in
    (lits-below vars lits 1 here, lits-apart vars [] lits 1 here)
