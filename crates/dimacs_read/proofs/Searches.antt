-- Whether something holds that is told in a text can be decided: what words tell is bounded, so that it is found by a search, or there is
-- none. The searches are never run.
use Rattle.std.proofs.Common.{◌≡◌, ℕ, zero, suc, ◌+◌, ◌^◌, ◌<◌, ◌≤◌, ◌⊎◌, inl, inr, Bool, true, false, List, [], ◌∷◌, codes, length, map, drop, get_or, Option, Some, None, IsTrue, ℤ, pos, negsuc, refl, sym, ap, ap₂, subst, ⊎_elim, arith}
use Rattle.std.specs.Prelude.{FitsSigned}
use Rattle.std.specs.Int.{w128}
use Rattle.std.specs.Bool.{Decides}
use Rattle.std.specs.Str.{bytes_eq}
use Rattle.std.proofs.lemmas.Bool.{cases_lt, false≢true}
use Rattle.std.proofs.lemmas.Int.{ints}
use Rattle.std.proofs.lemmas.Slice.Eq.{bytes_eq-Decides}
use Rattle.order_ints.specs.declared.literal.Lit.{Lit}
use Rattle.order_ints.specs.declared.atom.Atom.{Atom}
use Rattle.order_ints.specs.declared.atom.Atom.TheVariants.{True, False, Of}
use Rattle.order_ints.specs.Place.{LitBelow, AtomBelow, StepsBelow, ClauseBelow}
use Rattle.ledger_text.specs.Words.{literal_word}
use Rattle.dimacs_out.specs.CompiledText.{step_word, clause_words, WeightsCount}
use Rattle.dimacs_read.proofs.LiteralsRead.{LiteralsLeft}

-- it holds, or it doesn't
abbrev pub Decided : Type 0 → Type 0
Decided P = P ⊎ (P → ⊥)

pub true-decided : (b : Bool) → Decided (IsTrue b)
true-decided true = inl refl
true-decided false = inr (λ e. false≢true e)

by-test : {P : Type 0} (b : Bool) → Decides b P → Decided P
by-test true d = inl (d.0 refl)
by-test false d = inr (λ p. false≢true (d.1 p))

pub and-decided : {P Q : Type 0} → Decided P → Decided Q → Decided (P × Q)
and-decided (inl p) (inl q) = inl (p, q)
and-decided (inl p) (inr q) = inr (λ h. q h.1)
and-decided (inr p) d = inr (λ h. p h.0)

pub or-decided : {P Q : Type 0} → Decided P → Decided Q → Decided (P ⊎ Q)
or-decided (inl p) d = inl (inl p)
or-decided (inr p) (inl q) = inl (inr q)
or-decided (inr p) (inr q) = inr (λ h. ⊎_elim p q h)

pub not-decided : {P : Type 0} → Decided P → Decided (P → ⊥)
not-decided (inl p) = inr (λ n. n p)
not-decided (inr n) = inl n

pub like-decided : {P Q : Type 0} → Decided P → (P → Q) → (Q → P) → Decided Q
like-decided (inl p) to from = inl (to p)
like-decided (inr n) to from = inr (λ q. n (from q))

pub most-decided : (m n : ℕ) → Decided (m ≤ n)
most-decided m n = by (cases_lt n m)
  where
    by : (n < m) ⊎ (m ≤ n) → Decided (m ≤ n)
    by (inl h) = inr (λ k. omega (arith, h, k))
    by (inr h) = inl h

pub less-decided : (m n : ℕ) → Decided (m < n)
less-decided m n = by (cases_lt m n)
  where
    by : (m < n) ⊎ (n ≤ m) → Decided (m < n)
    by (inl h) = inl h
    by (inr h) = inr (λ k. omega (arith, h, k))

pub number-decided : (m n : ℕ) → Decided (m ≡ n)
number-decided m n = by (cases_lt m n) (cases_lt n m)
  where
    by : (m < n) ⊎ (n ≤ m) → (n < m) ⊎ (m ≤ n) → Decided (m ≡ n)
    by (inl h) k = inr (λ e. omega (arith, h, e))
    by (inr h) (inl k) = inr (λ e. omega (arith, k, e))
    by (inr h) (inr k) = inl (omega (arith, h, k))

pub bytes-decided : (xs ys : List ℕ) → Decided (xs ≡ ys)
bytes-decided xs ys = by-test (bytes_eq xs ys) (bytes_eq-Decides xs ys)

pub words-decided : (xs ys : List (List ℕ)) → Decided (xs ≡ ys)
words-decided [] [] = inl refl
words-decided [] (y ∷ ys) = inr (λ e. omega (arith, ap length e))
words-decided (x ∷ xs) [] = inr (λ e. omega (arith, ap length e))
words-decided (x ∷ xs) (y ∷ ys) =
    like-decided (and-decided (bytes-decided x y) (words-decided xs ys)) (λ h. ap₂ (λ (w : List ℕ) (ws : List (List ℕ)). w ∷ ws) h.0 h.1) (λ e. (ap (λ (ws : List (List ℕ)). get_or ws 0 []) e, ap (λ (ws : List (List ℕ)). drop 1 ws) e))

-- Options.

abbrev is_there : {A : Type 0} → Option A → Bool
is_there None = false
is_there (Some a) = true

pub none-decided : (o : Option ℕ) → Decided (o ≡ None)
none-decided None = inl refl
none-decided (Some n) = inr (λ e. false≢true (sym (ap is_there e)))

pub record IsThere (o : Option ℕ) : Type 0 where
  pub number : ℕ
  pub is : o ≡ Some number

pub there-decided : (o : Option ℕ) → Decided (IsThere o)
there-decided None = inr (λ h. false≢true (ap is_there h.is))
there-decided (Some n) = inl (record { number = n; is = refl })

abbrev is_false : Option Bool → Bool
is_false None = false
is_false (Some true) = false
is_false (Some false) = true

pub untold-decided : (o : Option Bool) → Decided (o ≡ Some false)
untold-decided None = inr (λ e. false≢true (ap is_false e))
untold-decided (Some true) = inr (λ e. false≢true (ap is_false e))
untold-decided (Some false) = inl refl

-- A number below another one.

pub record Below (n : ℕ) (P : ℕ → Type 0) : Type 0 where
  pub at : ℕ
  pub less : at < n
  pub holds : P at

pub below-decided : (n : ℕ) (P : ℕ → Type 0) → ((i : ℕ) → Decided (P i)) → Decided (Below n P)
below-decided zero P d = inr (λ h. let l = h.less in omega (arith, l))
below-decided (suc n) P d = by (d n) (below-decided n P d)
  where
    last : (i : ℕ) → i < suc n → P i → (P n → ⊥) → (Below n P → ⊥) → (i < n) ⊎ (n ≤ i) → ⊥
    last i l p none rest (inl h) = rest (record { at = i; less = h; holds = p })
    last i l p none rest (inr h) = let e : i ≡ n = omega (arith, l, h) in none (subst P e p)

    by : Decided (P n) → Decided (Below n P) → Decided (Below (suc n) P)
    by (inl p) rest = inl (record { at = n; less = omega arith; holds = p })
    by (inr p) (inl h) = inl (record { at = h.at; less = (let l = h.less in omega (arith, l)); holds = h.holds })
    by (inr p) (inr q) = inr (λ h. last h.at h.less h.holds p q (cases_lt h.at n))

-- A literal, and an atom.

pub record Literal (n : ℕ) (P : Lit → Type 0) : Type 0 where
  pub at : Lit
  pub below : LitBelow n at
  pub holds : P at

module _ (n : ℕ) (P : Lit → Type 0) (d : (l : Lit) → Decided (P l)) where
  abbrev of : ℕ → Bool → Lit
  of v b = record { var = v; positive = b }

  abbrev Signed : Bool → Type 0
  Signed b = Below n (λ v. (1 ≤ v) × P (of v b))

  signed-decided : (b : Bool) → Decided (Signed b)
  signed-decided b = below-decided n (λ v. (1 ≤ v) × P (of v b)) (λ v. and-decided (most-decided 1 v) (d (of v b)))

  from-signed : (b : Bool) → Signed b → Literal n P
  from-signed b h = record { at = of h.at b; below = (h.holds.0, h.less); holds = h.holds.1 }

  to-signed : (l : Lit) (b : Bool) → LitBelow n l → P l → l.positive ≡ b → Signed b
  to-signed l b below p e = record { at = l.var; less = below.1; holds = (below.0, subst (λ (c : Bool). P (of l.var c)) e p) }

  neither : (l : Lit) (b : Bool) → LitBelow n l → P l → l.positive ≡ b → (Signed true → ⊥) → (Signed false → ⊥) → ⊥
  neither l true below p e first second = first (to-signed l true below p e)
  neither l false below p e first second = second (to-signed l false below p e)

  by-signs : Decided (Signed true) → Decided (Signed false) → Decided (Literal n P)
  by-signs (inl h) k = inl (from-signed true h)
  by-signs (inr h) (inl k) = inl (from-signed false k)
  by-signs (inr h) (inr k) = inr (λ l. neither l.at l.at.positive l.below l.holds refl h k)

  pub literal-decided : Decided (Literal n P)
  literal-decided = by-signs (signed-decided true) (signed-decided false)

pub record Atomic (n : ℕ) (P : Atom → Type 0) : Type 0 where
  pub at : Atom
  pub below : AtomBelow n at
  pub holds : P at

module _ (n : ℕ) (P : Atom → Type 0) (d : (a : Atom) → Decided (P a)) where
  abbrev OfLiteral : Type 0
  OfLiteral = Literal n (λ l. P (Of l))

  none-atomic : (a : Atom) → AtomBelow n a → P a → (P True → ⊥) → (P False → ⊥) → (OfLiteral → ⊥) → ⊥
  none-atomic True below p first second lit = first p
  none-atomic False below p first second lit = second p
  none-atomic (Of l) below p first second lit = lit (record { at = l; below = below; holds = p })

  by-atoms : Decided (P True) → Decided (P False) → Decided OfLiteral → Decided (Atomic n P)
  by-atoms (inl p) f l = inl (record { at = True; below = tt; holds = p })
  by-atoms (inr p) (inl q) l = inl (record { at = False; below = tt; holds = q })
  by-atoms (inr p) (inr q) (inl h) = inl (record { at = Of h.at; below = h.below; holds = h.holds })
  by-atoms (inr p) (inr q) (inr h) = inr (λ a. none-atomic a.at a.below a.holds p q h)

  pub atom-decided : Decided (Atomic n P)
  atom-decided = by-atoms (d True) (d False) (literal-decided n (λ l. P (Of l)) (λ l. d (Of l)))

-- A whole number of 128 bits.

pub record Whole (P : ℤ → Type 0) : Type 0 where
  pub at : ℤ
  pub fits : FitsSigned w128 at
  pub holds : P at

module _ (P : ℤ → Type 0) (d : (z : ℤ) → Decided (P z)) where
  abbrev Plus : Type 0
  Plus = Below (2 ^ 127) (λ n. P (pos n))

  abbrev Minus : Type 0
  Minus = Below (2 ^ 127) (λ n. P (negsuc n))

  plus-fits : (n : ℕ) → n < 2 ^ 127 → FitsSigned w128 (pos n)
  plus-fits n h = omega (arith, ints, h)

  minus-fits : (n : ℕ) → n < 2 ^ 127 → FitsSigned w128 (negsuc n)
  minus-fits n h = omega (arith, ints, h)

  none-whole : (z : ℤ) → FitsSigned w128 z → P z → (Plus → ⊥) → (Minus → ⊥) → ⊥
  none-whole (pos n) fits p plus minus = plus (record { at = n; less = omega (arith, ints, fits.sfits); holds = p })
  none-whole (negsuc n) fits p plus minus = minus (record { at = n; less = omega (arith, ints, fits.sfits); holds = p })

  by-halves : Decided Plus → Decided Minus → Decided (Whole P)
  by-halves (inl h) k = inl (record { at = pos h.at; fits = plus-fits h.at h.less; holds = h.holds })
  by-halves (inr h) (inl k) = inl (record { at = negsuc k.at; fits = minus-fits k.at k.less; holds = k.holds })
  by-halves (inr h) (inr k) = inr (λ z. none-whole z.at z.fits z.holds h k)

  pub whole-decided : Decided (Whole P)
  whole-decided = by-halves (below-decided (2 ^ 127) (λ n. P (pos n)) (λ n. d (pos n))) (below-decided (2 ^ 127) (λ n. P (negsuc n)) (λ n. d (negsuc n)))

-- The steps of an integer.

pub record Steps (n : ℕ) (words : List (List ℕ)) (P : List (Atom × ℕ) → Type 0) : Type 0 where
  pub steps : List (Atom × ℕ)
  pub spelled : words ≡ map step_word steps
  pub below : StepsBelow n steps
  pub count : WeightsCount steps
  pub holds : P steps

record First (n : ℕ) (w : List ℕ) (ws : List (List ℕ)) (P : List (Atom × ℕ) → Type 0) (k : ℕ) (a : Atom) : Type 0 where
  some : 1 ≤ k
  word : w ≡ step_word (a, k)
  rest : Steps n ws (λ steps. P ((a, k) ∷ steps))

module _ (n : ℕ) (w : List ℕ) (ws : List (List ℕ)) (P : List (Atom × ℕ) → Type 0) where
  abbrev Found : Type 0
  Found = Below (2 ^ 128) (λ k. Atomic n (λ a. First n w ws P k a))

  first-decided : (k : ℕ) (a : Atom) → Decided (Steps n ws (λ steps. P ((a, k) ∷ steps))) → Decided (First n w ws P k a)
  first-decided k a rest =
      like-decided (and-decided (most-decided 1 k) (and-decided (bytes-decided w (step_word (a, k))) rest)) (λ h. record { some = h.0; word = h.1.0; rest = h.1.1 }) (λ f. (f.some, (f.word, f.rest)))

  from-found : Found → Steps n (w ∷ ws) P
  from-found h =
      let f = h.holds.holds in
      record {
        steps = (h.holds.at, h.at) ∷ f.rest.steps;
        spelled = ap₂ (λ (v : List ℕ) (vs : List (List ℕ)). v ∷ vs) f.word f.rest.spelled;
        below = (h.holds.below, f.rest.below);
        count = (f.some, h.less, f.rest.count);
        holds = f.rest.holds;
      }

  to-found : (steps : List (Atom × ℕ)) → w ∷ ws ≡ map step_word steps → StepsBelow n steps → WeightsCount steps → P steps → Found
  to-found [] e below count p = absurd (omega (arith, ap length e))
  to-found (s ∷ steps) e below count p = record {
    at = s.1;
    less = count.1;
    holds = record {
      at = s.0;
      below = below.0;
      holds = record {
        some = count.0;
        word = ap (λ (vs : List (List ℕ)). get_or vs 0 []) e;
        rest = record { steps = steps; spelled = ap (λ (vs : List (List ℕ)). drop 1 vs) e; below = below.1; count = count.2; holds = p };
      };
    };
  }

  step-decided : ((k : ℕ) (a : Atom) → Decided (Steps n ws (λ steps. P ((a, k) ∷ steps)))) → Decided (Steps n (w ∷ ws) P)
  step-decided rest =
      like-decided (below-decided (2 ^ 128) (λ k. Atomic n (λ a. First n w ws P k a)) (λ k. atom-decided n (λ a. First n w ws P k a) (λ a. first-decided k a (rest k a)))) from-found (λ s. to-found s.steps s.spelled s.below s.count s.holds)

no-steps-decided : (n : ℕ) (P : List (Atom × ℕ) → Type 0) → Decided (P []) → Decided (Steps n [] P)
no-steps-decided n P (inl p) = inl (record { steps = []; spelled = refl; below = tt; count = tt; holds = p })
no-steps-decided n P (inr none) = inr (λ s. no s.steps s.spelled s.holds)
  where
    no : (steps : List (Atom × ℕ)) → [] ≡ map step_word steps → P steps → ⊥
    no [] e p = none p
    no (s ∷ steps) e p = omega (arith, ap length e)

pub steps-decided : (n : ℕ) (words : List (List ℕ)) (P : List (Atom × ℕ) → Type 0) → ((steps : List (Atom × ℕ)) → Decided (P steps)) → Decided (Steps n words P)
steps-decided n [] P d = no-steps-decided n P (d [])
steps-decided n (w ∷ ws) P d = step-decided n w ws P (λ k a. steps-decided n ws (λ steps. P ((a, k) ∷ steps)) (λ steps. d ((a, k) ∷ steps)))

-- The literals of a clause.

module _ (n : ℕ) (w : List ℕ) (ws : List (List ℕ)) where
  abbrev Last : Type 0
  Last = (w ≡ codes "0") × (ws ≡ [])

  abbrev More : Type 0
  More = Literal n (λ l. w ≡ literal_word l) × LiteralsLeft n ws

  from-either : Last ⊎ More → LiteralsLeft n (w ∷ ws)
  from-either (inl h) = record { left = []; spelled = ap₂ (λ (v : List ℕ) (vs : List (List ℕ)). v ∷ vs) h.0 h.1; below = tt }
  from-either (inr h) = record { left = h.0.at ∷ h.1.left; spelled = ap₂ (λ (v : List ℕ) (vs : List (List ℕ)). v ∷ vs) h.0.holds h.1.spelled; below = (h.0.below, h.1.below) }

  to-either : (left : List Lit) → w ∷ ws ≡ clause_words left → ClauseBelow n left → Last ⊎ More
  to-either [] e below = inl (ap (λ (vs : List (List ℕ)). get_or vs 0 []) e, ap (λ (vs : List (List ℕ)). drop 1 vs) e)
  to-either (l ∷ left) e below =
      inr (record { at = l; below = below.0; holds = ap (λ (vs : List (List ℕ)). get_or vs 0 []) e }, record { left = left; spelled = ap (λ (vs : List (List ℕ)). drop 1 vs) e; below = below.1 })

  word-decided : Decided (LiteralsLeft n ws) → Decided (LiteralsLeft n (w ∷ ws))
  word-decided rest =
      like-decided (or-decided (and-decided (bytes-decided w (codes "0")) (words-decided ws [])) (and-decided (literal-decided n (λ l. w ≡ literal_word l) (λ l. bytes-decided w (literal_word l))) rest)) from-either (λ s. to-either s.left s.spelled s.below)

pub literals-decided : (n : ℕ) (words : List (List ℕ)) → Decided (LiteralsLeft n words)
literals-decided n [] = inr (λ h. none h.left h.spelled)
  where
    none : (left : List Lit) → [] ≡ clause_words left → ⊥
    none [] e = omega (arith, ap length e)
    none (l ∷ left) e = omega (arith, ap length e)
literals-decided n (w ∷ ws) = word-decided n w ws (literals-decided n ws)
