-- Laws of what searches answer.
use Rattle.std.proofs.Common.{◌≡◌, ℕ, ◌+◌, ◌≤◌, ◌<◌, Bool, true, false, cond, ◌⊎◌, inl, inr, List, [], ◌∷◌, ◌++◌, refl, sym, ◌∙◌, subst, arith, ⊎_elim}
use Rattle.std.specs.Prelude.{Option, None, Some}
use Rattle.std.specs.Option.{option_or, is_some}
use Rattle.std.proofs.lemmas.Bool.{true≢false, false≢true, cases_lt}
use Rattle.order_ints.specs.declared.atom.Atom.{Atom}
use Rattle.rule_base.specs.declared.sought.SoughtEquation.{SoughtEquation}
use Rattle.rule_base.specs.Pairs.{is_sought, first_sought}
use Rattle.alldiff_rules.specs.Instances.{IsOneOf}
use Rattle.alldiff_rules.specs.Finds.{Finds}

-- parts of lists of equations
pub one-left : (a b : Atom) (ps qs : List (Atom × Atom)) → IsOneOf a b ps → IsOneOf a b (ps ++ qs)
one-left a b [] qs h = absurd h
one-left a b (r ∷ ps) qs (inl h) = inl h
one-left a b (r ∷ ps) qs (inr h) = inr (one-left a b ps qs h)

pub one-right : (a b : Atom) (ps qs : List (Atom × Atom)) → IsOneOf a b qs → IsOneOf a b (ps ++ qs)
one-right a b [] qs h = h
one-right a b (r ∷ ps) qs h = inr (one-right a b ps qs h)

pub one-cases : (a b : Atom) (ps qs : List (Atom × Atom)) → IsOneOf a b (ps ++ qs) → IsOneOf a b ps ⊎ IsOneOf a b qs
one-cases a b [] qs h = inr h
one-cases a b (r ∷ ps) qs (inl h) = inl (inl h)
one-cases a b (r ∷ ps) qs (inr h) = ⊎_elim (λ (f : IsOneOf a b ps). inl (inr f)) (λ (f : IsOneOf a b qs). inr f) (one-cases a b ps qs h)

module _ (sought : SoughtEquation) where
  -- the first pair of a list that is looked for
  pub first-finds : (ps : List (Atom × Atom)) → Finds sought (λ a b. IsOneOf a b ps) (first_sought sought ps)
  first-finds [] = λ a b h. absurd h
  first-finds (p ∷ ps) = by (is_sought sought p) refl (first_sought sought ps) (first-finds ps)
    where
      by : (t : Bool) → is_sought sought p ≡ t → (o : Option (Atom × Atom)) → Finds sought (λ a b. IsOneOf a b ps) o → Finds sought (λ a b. IsOneOf a b (p ∷ ps)) (cond t (Some p) o)
      by true is o h = (inl (refl, refl), is)
      by false is None h = λ a b q. ⊎_elim (λ (e : (a ≡ p.0) × (b ≡ p.1)). (λ i. is_sought sought (e.0 i, e.1 i)) ∙ is) (λ (r : IsOneOf a b ps). h a b r) q
      by false is (Some r) h = (inr h.0, h.1)

  pub list-finds : (ps : List (Atom × Atom)) (o : Option (Atom × Atom)) → o ≡ first_sought sought ps → Finds sought (λ a b. IsOneOf a b ps) o
  list-finds ps o e = subst (Finds sought (λ a b. IsOneOf a b ps)) (sym e) (first-finds ps)

  -- the same answer where the same is stated, but for what is not looked for
  pub same-finds : (P Q : Atom → Atom → Type 0) → ((a b : Atom) → P a b → Q a b) → ((a b : Atom) → Q a b → P a b ⊎ (is_sought sought (a, b) ≡ false)) → (o : Option (Atom × Atom)) → Finds sought P o → Finds sought Q o
  same-finds P Q more fewer None h = λ a b q. ⊎_elim (λ (p : P a b). h a b p) (λ (e : is_sought sought (a, b) ≡ false). e) (fewer a b q)
  same-finds P Q more fewer (Some p) h = (more p.0 p.1 h.0, h.1)

  -- one search, and where it finds nothing another one
  pub or-finds : (P Q R : Atom → Atom → Type 0) → ((a b : Atom) → P a b → R a b) → ((a b : Atom) → Q a b → R a b) → ((a b : Atom) → R a b → P a b ⊎ (Q a b ⊎ (is_sought sought (a, b) ≡ false))) → (o p : Option (Atom × Atom)) → Finds sought P o → Finds sought Q p → Finds sought R (option_or o p)
  or-finds P Q R first second each None None h k = λ a b r. ⊎_elim (λ (x : P a b). h a b x) (λ (x : Q a b ⊎ (is_sought sought (a, b) ≡ false)). ⊎_elim (λ (y : Q a b). k a b y) (λ (e : is_sought sought (a, b) ≡ false). e) x) (each a b r)
  or-finds P Q R first second each None (Some p) h k = (second p.0 p.1 k.0, k.1)
  or-finds P Q R first second each (Some o) p h k = (first o.0 o.1 h.0, h.1)

  -- a search along places, each of which has its own equations
  module _ (P : ℕ → Atom → Atom → Type 0) where
    abbrev pub NoneBelow : ℕ → Type 0
    NoneBelow k = (i : ℕ) → i < k → (a b : Atom) → P i a b → is_sought sought (a, b) ≡ false

    abbrev pub AtSome : ℕ → Atom → Atom → Type 0
    AtSome n a b = (i : ℕ) × (i < n) × P i a b

    pub stop-place : (n k : ℕ) (o : Option (Atom × Atom)) → k < n → is_some o ≡ true → Finds sought (P k) o → Finds sought (AtSome n) o
    stop-place n k None lt some h = absurd (true≢false (sym some))
    stop-place n k (Some p) lt some h = ((k, lt, h.0), h.1)

    pub next-place : (k : ℕ) (o : Option (Atom × Atom)) → is_some o ≡ false → Finds sought (P k) o → NoneBelow k → NoneBelow (k + 1)
    next-place k None none h below = λ i lt a b p. ⊎_elim (λ (l : i < k). below i l a b p) (λ (le : k ≤ i). let e : i ≡ k = omega (arith, le, lt) in h a b (subst (λ (j : ℕ). P j a b) e p)) (cases_lt i k)
    next-place k (Some p) none h below = absurd (true≢false none)

    pub all-places : (n k : ℕ) → n ≤ k → NoneBelow k → Finds sought (AtSome n) None
    all-places n k le below = λ a b h. below h.0 (omega (arith, le, h.1)) a b h.2

-- what is found first
pub found-first : (sought : SoughtEquation) (P Q : Atom → Atom → Type 0) → ((a b : Atom) → P a b → Q a b) → (o : Option (Atom × Atom)) → is_some o ≡ true → Finds sought P o → Finds sought Q o
found-first sought P Q more None some h = absurd (false≢true some)
found-first sought P Q more (Some p) some h = (more p.0 p.1 h.0, h.1)

pub none-first : (sought : SoughtEquation) (P : Atom → Atom → Type 0) (o : Option (Atom × Atom)) → is_some o ≡ false → Finds sought P o → (a b : Atom) → P a b → is_sought sought (a, b) ≡ false
none-first sought P None none h = h
none-first sought P (Some p) none h = absurd (true≢false none)
