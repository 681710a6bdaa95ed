-- Lines that are taken one after another, and literals that are tested one after another.
use Rattle.std.proofs.Common.{◌≡◌, ℕ, ◌+◌, ◌<◌, List, ◌∷◌, length, get_or, ap, ◌∙◌, subst, ⊎_elim, arith, Ok}
use Rattle.std.specs.Prelude.{Result, Contains}
use Rattle.std.proofs.lemmas.Bool.{cases_eq}
use Rattle.std.proofs.lemmas.List.{get_or_default}
use Rattle.order_ints.specs.declared.literal.Lit.{Lit}
use Rattle.order_ints.specs.Place.{LitBelow}
use Rattle.clause_arena.specs.Clauses.{no_lit}
use Rattle.proof_check.specs.declared.fault.ProofFault.{ProofFault}
use Rattle.proof_check.specs.declared.line.ProofLine.{ProofLine}
use Rattle.proof_check.specs.Lrat.{Proof, take_line, take_lines, behind}

pub one-taken : (p q : Proof) (line : ProofLine) (lines : List ProofLine) → take_line p line ≡ Ok q → take_lines p (line ∷ lines) ≡ take_lines q lines
one-taken p q line lines e = ap (λ (r : Result Proof ProofFault). behind r (λ x. take_lines x lines)) e

-- the literals before a place are of so many variables
abbrev pub AreBelowBefore : ℕ → List Lit → ℕ → Type 0
AreBelowBefore n ls k = (l : Lit) (j : ℕ) → j < k → get_or ls j l ≡ l → LitBelow n l

pub one-below : (n : ℕ) (ls : List Lit) (i k : ℕ) → i < length ls → k ≡ i + 1 → AreBelowBefore n ls i → LitBelow n (get_or ls i no_lit) → AreBelowBefore n ls k
one-below n ls i k low next before now l j less is =
    ⊎_elim
    (λ (same : j ≡ i).
    let here : get_or ls i no_lit ≡ l = get_or_default ls i no_lit l low ∙ (let P : ℕ → Type 0 = λ m. get_or ls m l ≡ l in subst P same is) in
    subst (LitBelow n) here now)
    (λ (other : j ≡ i → ⊥). before l j (omega (arith, less, other, next)) is)
    (cases_eq j i)

pub all-below : (n : ℕ) (ls : List Lit) (k : ℕ) → k ≡ length ls → AreBelowBefore n ls k → (l : Lit) → Contains ls l → LitBelow n l
all-below n ls k e h l has = h l has.0 (let low = has.1 in omega (arith, low, e)) has.2
