-- Members of lists.
use Rattle.std.proofs.Common.{◌≡◌, ℕ, zero, suc, ◌<◌, List, [], ◌∷◌, length, get_or, arith, ◌⊎◌, inl, inr, true, false, refl, sym, ◌∙◌, ⊎_elim}
use Rattle.std.specs.Prelude.{Contains, ◌≢◌}
use Rattle.std.proofs.lemmas.Bool.{cases_Bool, false≢true}
use Rattle.order_ints.specs.declared.literal.Lit.{Lit}
use Rattle.order_ints.specs.OrderedClauses.{same_lit}
use Rattle.order_ints.specs.Equality.{same_lit-tells}

pub member-first : {A : Type 0} (m : A) (ls : List A) → Contains (m ∷ ls) m
member-first m ls = (0, omega arith, refl)

pub member-more : {A : Type 0} (m : A) (ls : List A) (l : A) → Contains ls l → Contains (m ∷ ls) l
member-more m ls l has = (suc has.0, omega (arith, has.1), has.2)

pub member-cases : {A : Type 0} (m : A) (ls : List A) (l : A) → Contains (m ∷ ls) l → (m ≡ l) ⊎ Contains ls l
member-cases {A} m ls l has = by-place has.0 has.1 has.2
  where
    by-place : (k : ℕ) → k < length (m ∷ ls) → get_or (m ∷ ls) k l ≡ l → (m ≡ l) ⊎ Contains ls l
    by-place zero low is = inl is
    by-place (suc k) low is = inr (k, omega arith, is)

pub no-member : {A : Type 0} (l : A) → Contains [] l → ⊥
no-member l has = omega (arith, has.1)

-- two literals are the same or not
pub lit-cases : (k l : Lit) → (k ≡ l) ⊎ (k ≢ l)
lit-cases k l =
    ⊎_elim
    (λ (same : same_lit k l ≡ true). inl ((same_lit-tells k l).0 same))
    (λ (other : same_lit k l ≡ false). inr (λ e. false≢true (sym other ∙ (same_lit-tells k l).1 e)))
    (cases_Bool (same_lit k l))
