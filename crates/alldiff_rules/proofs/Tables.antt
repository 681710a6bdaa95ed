-- Tables of up to three different places of which something holds, as places are put into them.
use Rattle.std.proofs.Common.{◌≡◌, ℕ, ◌+◌, ◌≤◌, ◌<◌, true, false, ◌⊎◌, inl, inr, ℤ, refl, ap, sym, ◌∙◌, subst, arith, ⊎_elim, Some}
use Rattle.std.specs.declared.cmp.Ordering.{Ordering}
use Rattle.std.specs.declared.cmp.Ordering.TheVariants.{Less, Equal, Greater}
use Rattle.std.specs.BTreeMap.{BTreeMap, get, Updates}
use Rattle.std.specs.Ordering.{int_cmp, nat_cmp, ordering_then, is_eq}
use Rattle.std.proofs.lemmas.Bool.{false≢true, cases_Bool, cases_lt}
use Rattle.std.proofs.lemmas.Cmp.{tied_itself, int_cmp_total, nat_cmp_total}
use Rattle.std.proofs.lemmas.Map.Lookups.{CmpEqualImpliesEq, exact_signed, exact_unsigned, exact_pairs}
use Rattle.alldiff_rules.specs.declared.table.Places.{Places}
use Rattle.alldiff_rules.specs.Table.{pair_cmp, joined, Shows}
use Rattle.alldiff_rules.proofs.Shown.{joined-shown, same-shown}

tied : (o : Ordering) → is_eq o ≡ true → o ≡ Equal
tied Less e = absurd (false≢true e)
tied Equal e = refl
tied Greater e = absurd (false≢true e)

-- a place is put at a key: of it and of no further one holds more than before
pub put-shown : {K : Type 0} (R : K → K → Ordering) → CmpEqualImpliesEq R → ((v : K) → R v v ≡ Equal) → (P Q : K → ℕ → Type 0) (key : K) (k : ℕ) → Q key k → ((v : K) (i : ℕ) → P v i → Q v i) → ((v : K) (i : ℕ) → Q v i → P v i ⊎ ((v ≡ key) × (i ≡ k))) → (old new : BTreeMap K Places) → Updates R old new key (Some (joined (get R old key) k)) → ((v : K) → Shows (P v) (get R old v)) → (v : K) → Shows (Q v) (get R new v)
put-shown R exact itself P Q key k here more fewer old new updates shown v = ⊎_elim at_key elsewhere (cases_Bool (is_eq (R key v)))
  where
    there : Shows (Q key) (get R new key)
    there = subst (Shows (Q key)) (sym updates.1) (joined-shown (P key) (Q key) k here (more key) (λ i q. ⊎_elim (λ (p : P key i). inl p) (λ (e : (key ≡ key) × (i ≡ k)). inr e.1) (fewer key i q)) (get R old key) (shown key))

    at_key : is_eq (R key v) ≡ true → Shows (Q v) (get R new v)
    at_key e = let same : key ≡ v = exact key v (tied (R key v) e) in subst (λ u. Shows (Q u) (get R new u)) same there

    elsewhere : is_eq (R key v) ≡ false → Shows (Q v) (get R new v)
    elsewhere e = subst (Shows (Q v)) (sym (updates.2 v e)) (same-shown (P v) (Q v) (more v) (λ i q. ⊎_elim (λ (p : P v i). p) (λ (f : (v ≡ key) × (i ≡ k)). absurd (false≢true (sym e ∙ ap (λ u. is_eq (R key u)) f.0 ∙ ap is_eq (itself key)))) (fewer v i q)) (get R old v) (shown v))

pub exact_choices : CmpEqualImpliesEq pair_cmp
exact_choices = exact_pairs int_cmp nat_cmp exact_signed exact_unsigned

-- all members up to one more, of which each has at most one key
module _ {K : Type 0} (R : K → K → Ordering) (exact : CmpEqualImpliesEq R) (itself : (v : K) → R v v ≡ Equal) (P : K → ℕ → Type 0) (k : ℕ) (old : BTreeMap K Places) (shown : (v : K) → Shows (λ i. (i < k) × P v i) (get R old v)) where
  pub next-shown : (key : K) → P key k → ((v : K) → P v k → v ≡ key) → (new : BTreeMap K Places) → Updates R old new key (Some (joined (get R old key) k)) → (v : K) → Shows (λ i. (i < k + 1) × P v i) (get R new v)
  next-shown key here one new updates = put-shown R exact itself (λ v i. (i < k) × P v i) (λ v i. (i < k + 1) × P v i) key k (omega arith, here) (λ v i p. (omega (arith, p.0), p.1)) last old new updates shown
    where
      last : (v : K) (i : ℕ) → (i < k + 1) × P v i → ((i < k) × P v i) ⊎ ((v ≡ key) × (i ≡ k))
      last v i q = ⊎_elim (λ (lt : i < k). inl (lt, q.1)) (λ (le : k ≤ i). let e : i ≡ k = omega (arith, le, q.0) in inr (one v (subst (P v) e q.1), e)) (cases_lt i k)

  pub none-shown : ((v : K) → P v k → ⊥) → (v : K) → Shows (λ i. (i < k + 1) × P v i) (get R old v)
  none-shown none v = same-shown (λ i. (i < k) × P v i) (λ i. (i < k + 1) × P v i) (λ i p. (omega (arith, p.0), p.1)) fewer (get R old v) (shown v)
    where
      fewer : (i : ℕ) → (i < k + 1) × P v i → (i < k) × P v i
      fewer i q = ⊎_elim (λ (lt : i < k). (lt, q.1)) (λ (le : k ≤ i). let e : i ≡ k = omega (arith, le, q.0) in absurd (none v (subst (P v) e q.1))) (cases_lt i k)

pub tied_choice : (key : ℤ × ℕ) → pair_cmp key key ≡ Equal
tied_choice key = ap (λ (o : Ordering). ordering_then o (nat_cmp key.1 key.1)) (tied_itself int_cmp_total key.0) ∙ tied_itself nat_cmp_total key.1
