-- What the place of the first false clause says.
use Rattle.std.proofs.Common.{◌≡◌, ℕ, zero, suc, ◌+◌, ◌<◌, Bool, true, false, ◌&&◌, cond, List, [], ◌∷◌, ◌↔◌, Option, Some, get_or, IsTrue, IsNone, IfSome, refl, sym, subst, arith}
use Rattle.std.proofs.lemmas.Bool.{true≢false, false≢true}
use Rattle.std.proofs.lemmas.Option.{IfSome_then}
use Rattle.order_ints.specs.declared.literal.Lit.{Lit}
use Rattle.order_ints.specs.Truth.{Valuation}
use Rattle.order_ints.specs.Satisfies.{clause_truth, clauses_truth}
use Rattle.order_ints.specs.FirstFalse.{first_false_from, first_false_place, FirstFalseAt}

module _ (σ : Valuation) where
  -- a place counted from n
  abbrev PlaceFrom : ℕ → List (List Lit) → ℕ → Type 0
  PlaceFrom n cs i = (j : ℕ) × (i ≡ n + j) × FirstFalseAt σ cs j

  none_step : (b : Bool) (n : ℕ) (o : Option ℕ) (rest : Bool) → (IsNone o ↔ IsTrue rest) → (IsNone (cond b o (Some n)) ↔ IsTrue (b && rest))
  none_step true n o rest h = h
  none_step false n o rest h = (λ e. absurd (true≢false e), λ e. absurd (false≢true e))

  first_false_from-none : (n : ℕ) (cs : List (List Lit)) → IsNone (first_false_from n σ cs) ↔ IsTrue (clauses_truth σ cs)
  first_false_from-none n [] = (λ _. refl, λ _. refl)
  first_false_from-none n (c ∷ cs) = none_step (clause_truth σ c) n (first_false_from (n + 1) σ cs) (clauses_truth σ cs) (first_false_from-none (n + 1) cs)

  later : (n : ℕ) (c : List Lit) (cs : List (List Lit)) → clause_truth σ c ≡ true → (i : ℕ) → PlaceFrom (n + 1) cs i → PlaceFrom n (c ∷ cs) i
  later n c cs t i (j, e, f) = (suc j, omega (arith, e), (omega (arith, f.0), f.1, before))
    where
      before : (k : ℕ) → k < suc j → clause_truth σ (get_or (c ∷ cs) k []) ≡ true
      before zero h = t
      before (suc k) h = f.2 k (omega (arith, h))

  first_step : (n : ℕ) (c : List Lit) (cs : List (List Lit)) (b : Bool) → clause_truth σ c ≡ b → IfSome (first_false_from (n + 1) σ cs) (PlaceFrom (n + 1) cs) → IfSome (cond b (first_false_from (n + 1) σ cs) (Some n)) (PlaceFrom n (c ∷ cs))
  first_step n c cs true e h = IfSome_then (first_false_from (n + 1) σ cs) h (later n c cs e)
  first_step n c cs false e h = (0, omega arith, (omega arith, e, λ k l. absurd (omega (arith, l))))

  first_false_from-some : (n : ℕ) (cs : List (List Lit)) → IfSome (first_false_from n σ cs) (PlaceFrom n cs)
  first_false_from-some n [] = tt
  first_false_from-some n (c ∷ cs) = first_step n c cs (clause_truth σ c) refl (first_false_from-some (n + 1) cs)

  -- there is no place exactly where all are true
  pub first_false_place-none : (cs : List (List Lit)) (r : Option ℕ) → r ≡ first_false_place σ cs → IsNone r ↔ IsTrue (clauses_truth σ cs)
  first_false_place-none cs r e = subst (λ o. IsNone o ↔ IsTrue (clauses_truth σ cs)) (sym e) (first_false_from-none 0 cs)

  -- the clause at the place is false, and those before it are true
  pub first_false_place-some : (cs : List (List Lit)) (r : Option ℕ) → r ≡ first_false_place σ cs → IfSome r (FirstFalseAt σ cs)
  first_false_place-some cs r e =
      subst (λ o. IfSome o (FirstFalseAt σ cs)) (sym e) (IfSome_then (first_false_from 0 σ cs) (first_false_from-some 0 cs) (λ i p. subst (FirstFalseAt σ cs) (sym (from_zero i p.0 p.1)) p.2))
    where
      from_zero : (i j : ℕ) → i ≡ 0 + j → i ≡ j
      from_zero i j h = omega (arith, h)
