-- What the two watched literals and the others show together.
use Rattle.std.proofs.Common.{◌≡◌, ◌≢◌, ℕ, ◌+◌, ◌≤◌, ◌<◌, false, List, length, ap, sym, ◌∙◌, subst, arith, ⊎_elim, Some, None}
use Rattle.std.specs.List.{Contains}
use Rattle.std.proofs.lemmas.Bool.{cases_eq, cases_lt}
use Rattle.order_ints.specs.declared.literal.Lit.{Lit}
use Rattle.literal_trail.specs.declared.entry.Entry.{Entry}
use Rattle.literal_trail.specs.Trail.{truth_in}
use Rattle.literal_trail.specs.Standing.{IsFalse, IsUnit}
use Rattle.clause_arena.specs.Clauses.{lit_in}
use Rattle.clause_rings.specs.Looks.{AreFalseFrom}
use Rattle.clause_rings.proofs.Literals.{contains-at, place-of}

-- all places but one have false literals
pub record AreFalseBut (es : List Entry) (ls : List Lit) (p : ℕ) : Type 0 where
  pub each : (k : ℕ) → k < length ls → k ≢ p → truth_in es (lit_in ls k) ≡ Some false

-- both watched places and those behind
pub false-but : (es : List Entry) (ls : List Lit) (i j : ℕ) → i < 2 → i + j ≡ 1 → truth_in es (lit_in ls i) ≡ Some false → AreFalseFrom es ls 2 → AreFalseBut es ls j
false-but es ls i j lt other h rest = record { each = λ k inside ne. ⊎_elim (front k ne) (λ (ge : 2 ≤ k). rest k ge inside) (cases_lt k 2) }
  where
    front : (k : ℕ) → k ≢ j → k < 2 → truth_in es (lit_in ls k) ≡ Some false
    front k ne small = let e : i ≡ k = ⊎_elim (λ (s : i ≡ k). s) (λ (d : i ≡ k → ⊥). absurd (omega arith)) (cases_eq i k) in subst (λ (m : ℕ). truth_in es (lit_in ls m) ≡ Some false) e h

-- each literal but that at the place is false
pub false-others : (es : List Entry) (ls : List Lit) (p : ℕ) (l : Lit) → AreFalseBut es ls p → Contains ls l → l ≢ lit_in ls p → truth_in es l ≡ Some false
false-others es ls p l h is_in ne =
    let at = place-of ls l is_in in
    let far : at.0 ≢ p = λ e. ne (sym at.2 ∙ ap (λ (k : ℕ). lit_in ls k) e) in
    subst (λ (x : Lit). truth_in es x ≡ Some false) at.2 (h.each at.0 at.1 far)

pub unit-at : (es : List Entry) (ls : List Lit) (p : ℕ) → p < length ls → truth_in es (lit_in ls p) ≡ None → AreFalseBut es ls p → IsUnit es ls (lit_in ls p)
unit-at es ls p lt free h = record {
  is_in = contains-at ls p lt;
  free = free;
  others = λ l is_in ne. false-others es ls p l h is_in ne;
}

pub false-at : (es : List Entry) (ls : List Lit) (p : ℕ) → truth_in es (lit_in ls p) ≡ Some false → AreFalseBut es ls p → IsFalse es ls
false-at es ls p h others l is_in =
    let at = place-of ls l is_in in
    subst (λ (x : Lit). truth_in es x ≡ Some false) at.2 (⊎_elim (λ (e : at.0 ≡ p). subst (λ (k : ℕ). truth_in es (lit_in ls k) ≡ Some false) (sym e) h) (λ (ne : at.0 ≡ p → ⊥). others.each at.0 at.1 ne) (cases_eq at.0 p))
