-- Chains of places, and what joining two places makes of them.
use Rattle.std.proofs.Common.{◌≡◌, ℕ, ◌≤◌, List, [], ◌∷◌, ◌++◌, refl, ap, sym, ◌∙◌, subst, arith}
use Rattle.std.specs.Prelude.{if◌then◌else◌, ◌==◌}
use Rattle.std.proofs.lemmas.Bool.{eq-eqb, ne_eqb, cond-true, cond-false}
use Rattle.index_ring.specs.Lists.{times}
use Rattle.index_ring.specs.Links.{Chain}
use Rattle.index_ring.proofs.Times.{times-same, times-append}

-- from a through a list to b and on through another list to c
pub chain-append : (n p : ℕ → ℕ) (a : ℕ) (xs : List ℕ) (b : ℕ) (ys : List ℕ) (c : ℕ) → Chain n p a xs b → Chain n p b ys c → Chain n p a (xs ++ b ∷ ys) c
chain-append n p a [] b ys c first second = (first.0, first.1, second)
chain-append n p a (x ∷ xs) b ys c first second = (first.0, first.1, chain-append n p x xs b ys c first.2 second)

-- the part in front of a place, and the part behind it
pub chain-front : (n p : ℕ → ℕ) (a : ℕ) (xs : List ℕ) (b : ℕ) (ys : List ℕ) (c : ℕ) → Chain n p a (xs ++ b ∷ ys) c → Chain n p a xs b
chain-front n p a [] b ys c whole = (whole.0, whole.1)
chain-front n p a (x ∷ xs) b ys c whole = (whole.0, whole.1, chain-front n p x xs b ys c whole.2)

pub chain-back : (n p : ℕ → ℕ) (a : ℕ) (xs : List ℕ) (b : ℕ) (ys : List ℕ) (c : ℕ) → Chain n p a (xs ++ b ∷ ys) c → Chain n p b ys c
chain-back n p a [] b ys c whole = whole.2
chain-back n p a (x ∷ xs) b ys c whole = chain-back n p x xs b ys c whole.2

-- the place before the end stands in the chain
pub last-stands : (n p : ℕ → ℕ) (a : ℕ) (xs : List ℕ) (b : ℕ) → Chain n p a xs b → 1 ≤ times (p b) (a ∷ xs)
last-stands n p a [] b h = omega (arith, times-same (p b) a [] (sym h.1))
last-stands n p a (x ∷ xs) b h = omega (arith, last-stands n p x xs b h.2)

-- the place behind the start stands in the chain, or is its end
pub first-stands : (n p : ℕ → ℕ) (a : ℕ) (xs : List ℕ) (b : ℕ) → Chain n p a xs b → 1 ≤ times (n a) (b ∷ xs)
first-stands n p a [] b h = omega (arith, times-same (n a) b [] (sym h.0))
first-stands n p a (x ∷ xs) b h = omega (arith, times-same (n a) x xs (sym h.0))

-- a chain stays where the links of its places do
pub chain-same : (n p n' p' : ℕ → ℕ) (a : ℕ) (xs : List ℕ) (b : ℕ) → ((q : ℕ) → 1 ≤ times q (a ∷ xs) → n' q ≡ n q) → ((q : ℕ) → 1 ≤ times q (b ∷ xs) → p' q ≡ p q) → Chain n p a xs b → Chain n' p' a xs b
chain-same n p n' p' a [] b next previous h = (
  next a (omega (arith, times-same a a [] refl)) ∙ h.0,
  previous b (omega (arith, times-same b b [] refl)) ∙ h.1,
)
chain-same n p n' p' a (x ∷ xs) b next previous h = (
  next a (omega (arith, times-same a a (x ∷ xs) refl)) ∙ h.0,
  previous x (omega (arith, times-same x x xs refl)) ∙ h.1,
  chain-same n p n' p' x xs b (λ q stands. next q (omega arith)) (λ q stands. previous q (omega arith)) h.2,
)

-- two places become neighbours: c, and behind it d
pub record Joins (n p n' p' : ℕ → ℕ) (c d : ℕ) : Type 0 where
  pub next : (q : ℕ) → n' q ≡ (if q == c then d else n q)
  pub previous : (q : ℕ) → p' q ≡ (if q == d then c else p q)

module _ (n p n' p' : ℕ → ℕ) (c d : ℕ) (j : Joins n p n' p' c d) where
  pub next-there : n' c ≡ d
  next-there = j.next c ∙ cond-true (c == c) d (n c) (eq-eqb c c refl)

  pub previous-there : p' d ≡ c
  previous-there = j.previous d ∙ cond-true (d == d) c (p d) (eq-eqb d d refl)

  pub next-elsewhere : (q : ℕ) → (q ≡ c → ⊥) → n' q ≡ n q
  next-elsewhere q ne = j.next q ∙ cond-false (q == c) d (n q) (ne_eqb q c ne)

  pub previous-elsewhere : (q : ℕ) → (q ≡ d → ⊥) → p' q ≡ p q
  previous-elsewhere q ne = j.previous q ∙ cond-false (q == d) c (p q) (ne_eqb q d ne)

  -- a chain that c doesn't leave from and d doesn't end stays
  pub chain-kept : (a : ℕ) (xs : List ℕ) (b : ℕ) → times c (a ∷ xs) ≡ 0 → times d (b ∷ xs) ≡ 0 → Chain n p a xs b → Chain n' p' a xs b
  chain-kept a [] b no_c no_d h = (
    next-elsewhere a (λ e. omega (arith, times-same c a [] e)) ∙ h.0,
    previous-elsewhere b (λ e. omega (arith, times-same d b [] e)) ∙ h.1,
  )
  chain-kept a (x ∷ xs) b no_c no_d h = (
    next-elsewhere a (λ e. omega (arith, times-same c a (x ∷ xs) e)) ∙ h.0,
    previous-elsewhere x (λ e. omega (arith, times-same d x xs e)) ∙ h.1,
    chain-kept x xs b (omega arith) (omega arith) h.2,
  )

  -- a chain whose first place is d starts from c now
  pub chain-from : (a : ℕ) (xs : List ℕ) (b : ℕ) → d ≡ n a → times c xs ≡ 0 → times d (b ∷ xs) ≤ 1 → Chain n p a xs b → Chain n' p' c xs b
  chain-from a [] b first no_c once h =
      let e : d ≡ b = first ∙ h.0 in
      (next-there ∙ e, ap p' (sym e) ∙ previous-there)
  chain-from a (x ∷ xs) b first no_c once h =
      let e : d ≡ x = first ∙ h.0 in
      (next-there ∙ e, ap p' (sym e) ∙ previous-there, chain-kept x xs b no_c (omega (arith, times-same d x xs (sym e))) h.2)

  -- a chain whose last place is c ends at d now
  pub chain-to : (a : ℕ) (xs : List ℕ) (b : ℕ) → c ≡ p b → times c (a ∷ xs) ≤ 1 → times d xs ≡ 0 → Chain n p a xs b → Chain n' p' a xs d
  chain-to a [] b last once no_d h =
      let e : c ≡ a = last ∙ h.1 in
      (ap n' (sym e) ∙ next-there, previous-there ∙ e)
  chain-to a (x ∷ xs) b last once no_d h =
      let stands : 1 ≤ times c (x ∷ xs) = subst (λ (q : ℕ). 1 ≤ times q (x ∷ xs)) (sym last) (last-stands n p x xs b h.2) in (
        next-elsewhere a (λ e. omega (arith, times-same c a (x ∷ xs) e)) ∙ h.0,
        previous-elsewhere x (λ e. omega (arith, times-same d x xs e)) ∙ h.1,
        chain-to x xs b last (omega arith) (omega arith) h.2,
      )

  -- the place between two chains is left out, where its neighbours are c and d
  pub chain-past : (a : ℕ) (xs : List ℕ) (v : ℕ) (ys : List ℕ) (b : ℕ) → c ≡ p v → d ≡ n v → times c (a ∷ (xs ++ ys)) ≤ 1 → times d (b ∷ (xs ++ ys)) ≤ 1 → Chain n p a xs v → Chain n p v ys b → Chain n' p' a (xs ++ ys) b
  chain-past a [] v ys b last first once_c once_d front back =
      let e : c ≡ a = last ∙ front.1 in
      subst (λ (q : ℕ). Chain n' p' q ys b) e (chain-from v ys b first (omega (arith, times-same c a ys (sym e))) once_d back)
  chain-past a (x ∷ xs) v ys b last first once_c once_d front back =
      let in_front : 1 ≤ times c (x ∷ xs) = subst (λ (q : ℕ). 1 ≤ times q (x ∷ xs)) (sym last) (last-stands n p x xs v front.2) in
      let behind : 1 ≤ times d (b ∷ ys) = subst (λ (q : ℕ). 1 ≤ times q (b ∷ ys)) (sym first) (first-stands n p v ys b back) in (
        next-elsewhere a (λ e. omega (arith, times-append c xs ys, times-same c a (x ∷ (xs ++ ys)) e)) ∙ front.0,
        previous-elsewhere x (λ e. omega (arith, times-append d xs ys, times-same d x (xs ++ ys) e)) ∙ front.1,
        chain-past x xs v ys b last first (omega arith) (omega arith) front.2 back,
      )
