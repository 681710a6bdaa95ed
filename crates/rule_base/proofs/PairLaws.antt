-- Laws of lists of equations: what is found in them, and what holds of an equation that is listed.
use Rattle.std.proofs.Common.{◌≡◌, Bool, true, false, cond, not, ◌&&◌, ◌||◌, List, [], ◌∷◌, ◌++◌, map, refl, sym, ap, ◌∙◌}
use Rattle.std.specs.Prelude.{Option, None, Some}
use Rattle.std.specs.Option.{option_or, is_some}
use Rattle.order_ints.specs.declared.atom.Atom.{Atom}
use Rattle.order_ints.specs.Same.{same_atom}
use Rattle.order_ints.specs.Truth.{Valuation, atom_truth}
use Rattle.order_ints.specs.Equality.{same_atom-true, same_atom-refl}
use Rattle.core_forms.proofs.Tidied.{by_test}
use Rattle.rule_base.specs.declared.sought.SoughtEquation.{SoughtEquation}
use Rattle.rule_base.specs.declared.sought.SoughtEquation.TheVariants.{Apart, Pair}
use Rattle.rule_base.specs.Pairs.{is_pair_of, is_sought, first_sought, is_listed, only_if, AreEqual, EachOfPairs}

-- what is found in a list of two parts is found in the first part, and else in the second
pub first_sought-append : (sought : SoughtEquation) (ps qs : List (Atom × Atom)) → first_sought sought (ps ++ qs) ≡ option_or (first_sought sought ps) (first_sought sought qs)
first_sought-append sought [] qs = refl
first_sought-append sought (p ∷ ps) qs =
    elim (is_sought sought p) as (λ t. cond t (Some p) (first_sought sought (ps ++ qs)) ≡ option_or (cond t (Some p) (first_sought sought ps)) (first_sought sought qs)) [
      | true ↦ refl
      | false ↦ first_sought-append sought ps qs
    ]

-- so it is with one pair in front
pub first_sought-cons : (sought : SoughtEquation) (p : Atom × Atom) (ps : List (Atom × Atom)) → first_sought sought (p ∷ ps) ≡ option_or (first_sought sought (p ∷ [])) (first_sought sought ps)
first_sought-cons sought p ps = first_sought-append sought (p ∷ []) ps

pub first_sought-only_if : (sought : SoughtEquation) (t : Bool) (ps : List (Atom × Atom)) → first_sought sought (only_if t ps) ≡ cond t (first_sought sought ps) None
first_sought-only_if sought true ps = refl
first_sought-only_if sought false ps = refl

-- where there is nothing behind the first part, what is found is found there
pub option_or-None : {X : Type 0} (o : Option X) → option_or o None ≡ o
option_or-None None = refl
option_or-None (Some x) = refl

-- the first of two options, by a test of it
pub option_or-some : {X : Type 0} (o p : Option X) → is_some o ≡ true → option_or o p ≡ o
option_or-some None p h = absurd (cc)
option_or-some (Some x) p h = refl

pub option_or-none : {X : Type 0} (o p : Option X) → is_some o ≡ false → option_or o p ≡ p
option_or-none None p h = refl
option_or-none (Some x) p h = absurd (cc)

-- two searches, one after the other, find what one finds in both lists together
pub both-found : (sought : SoughtEquation) (ps qs : List (Atom × Atom)) (o p : Option (Atom × Atom)) → o ≡ first_sought sought ps → p ≡ first_sought sought qs → option_or o p ≡ first_sought sought (ps ++ qs)
both-found sought ps qs o p first second =
    ap (λ (x : Option (Atom × Atom)). option_or x p) first ∙ ap (option_or (first_sought sought ps)) second ∙ sym (first_sought-append sought ps qs)

-- what is found in the first list, and what is found in the second where there is nothing in the first
pub front-found : (sought : SoughtEquation) (ps qs : List (Atom × Atom)) (o : Option (Atom × Atom)) → o ≡ first_sought sought ps → is_some o ≡ true → o ≡ first_sought sought (ps ++ qs)
front-found sought ps qs o first some =
    sym (option_or-some o (first_sought sought qs) some) ∙ both-found sought ps qs o (first_sought sought qs) first refl

pub back-found : (sought : SoughtEquation) (ps qs : List (Atom × Atom)) (o p : Option (Atom × Atom)) → o ≡ first_sought sought ps → is_some o ≡ false → p ≡ first_sought sought qs → p ≡ first_sought sought (ps ++ qs)
back-found sought ps qs o p first none second = sym (option_or-none o p none) ∙ both-found sought ps qs o p first second

-- the same of three lists
module _ (sought : SoughtEquation) (ps qs rs : List (Atom × Atom)) (o : Option (Atom × Atom)) (first : o ≡ first_sought sought ps) where
  pub first-of-three : is_some o ≡ true → o ≡ first_sought sought (ps ++ qs ++ rs)
  first-of-three some = front-found sought (ps ++ qs) rs o (front-found sought ps qs o first some) some

  pub second-of-three : (p : Option (Atom × Atom)) → is_some o ≡ false → p ≡ first_sought sought qs → is_some p ≡ true → p ≡ first_sought sought (ps ++ qs ++ rs)
  second-of-three p none second some = front-found sought (ps ++ qs) rs p (back-found sought ps qs o p first none second) some

  pub third-of-three : (p q : Option (Atom × Atom)) → is_some o ≡ false → p ≡ first_sought sought qs → is_some p ≡ false → q ≡ first_sought sought rs → q ≡ first_sought sought (ps ++ qs ++ rs)
  third-of-three p q none second neither third = back-found sought (ps ++ qs) rs p q (back-found sought ps qs o p first none second) neither third

-- what is found under a test
pub only_if-found : (sought : SoughtEquation) (t : Bool) (ps : List (Atom × Atom)) (o : Option (Atom × Atom)) → t ≡ true → o ≡ first_sought sought ps → o ≡ first_sought sought (only_if t ps)
only_if-found sought t ps o holds found = found ∙ ap (λ b. first_sought sought (only_if b ps)) (sym holds)

pub only_if-none : (sought : SoughtEquation) (t : Bool) (ps : List (Atom × Atom)) → t ≡ false → None ≡ first_sought sought (only_if t ps)
only_if-none sought t ps fails = ap (λ b. first_sought sought (only_if b ps)) (sym fails)

and-left : (s t : Bool) → (s && t) ≡ true → s ≡ true
and-left true t h = refl
and-left false t h = absurd (cc)

and-right : (s t : Bool) → (s && t) ≡ true → t ≡ true
and-right true t h = h
and-right false t h = absurd (cc)

-- cases on a disjunction
pub by_or : {X : Type 0} (s t : Bool) → (s || t) ≡ true → (s ≡ true → X) → (t ≡ true → X) → X
by_or true t h here there = here refl
by_or false t h here there = there h

-- a pair of two atoms has them in one order or the other
pub by_pair : {X : Type 0} (a b : Atom) (p : Atom × Atom) → is_pair_of a b p ≡ true → (p.0 ≡ a → p.1 ≡ b → X) → (p.0 ≡ b → p.1 ≡ a → X) → X
by_pair a b p h straight crossed =
    by_or (same_atom p.0 a && same_atom p.1 b) (same_atom p.0 b && same_atom p.1 a) h
    (λ e. straight (same_atom-true p.0 a (and-left (same_atom p.0 a) (same_atom p.1 b) e)) (same_atom-true p.1 b (and-right (same_atom p.0 a) (same_atom p.1 b) e)))
    (λ e. crossed (same_atom-true p.0 b (and-left (same_atom p.0 b) (same_atom p.1 a) e)) (same_atom-true p.1 a (and-right (same_atom p.0 b) (same_atom p.1 a) e)))

is_pair_of-itself : (p : Atom × Atom) → is_pair_of p.0 p.1 p ≡ true
is_pair_of-itself p =
    let first = same_atom-refl p.0 in
    let second = same_atom-refl p.1 in
    ap (λ t. (t && same_atom p.1 p.1) || (same_atom p.0 p.1 && same_atom p.1 p.0)) first
    ∙ ap (λ t. t || (same_atom p.0 p.1 && same_atom p.1 p.0)) second

or-right : (s : Bool) → (s || true) ≡ true
or-right true = refl
or-right false = refl

-- what is found is listed, and it is looked for
pub listed-found : (sought : SoughtEquation) (ps : List (Atom × Atom)) (p : Atom × Atom) → first_sought sought ps ≡ Some p → is_listed p.0 p.1 ps ≡ true
listed-found sought [] p e = absurd (cc)
listed-found sought (q ∷ ps) p e =
    by_test (is_sought sought q) (Some q) (first_sought sought ps) (λ o. o ≡ Some p → is_listed p.0 p.1 (q ∷ ps) ≡ true)
    (λ _ is. let same : q ≡ p = cc in
    ap (λ r. is_pair_of p.0 p.1 r || is_listed p.0 p.1 ps) same ∙ ap (λ t. t || is_listed p.0 p.1 ps) (is_pair_of-itself p))
    (λ _ is. ap (λ t. is_pair_of p.0 p.1 q || t) (listed-found sought ps p is) ∙ or-right (is_pair_of p.0 p.1 q)) e

pub sought-found : (sought : SoughtEquation) (ps : List (Atom × Atom)) (p : Atom × Atom) → first_sought sought ps ≡ Some p → is_sought sought p ≡ true
sought-found sought [] p e = absurd (cc)
sought-found sought (q ∷ ps) p e =
    by_test (is_sought sought q) (Some q) (first_sought sought ps) (λ o. o ≡ Some p → is_sought sought p ≡ true)
    (λ here is. let same : q ≡ p = cc in ap (is_sought sought) (sym same) ∙ here)
    (λ _ is. sought-found sought ps p is) e

not-true : (t : Bool) → not t ≡ false → t ≡ true
not-true true h = refl
not-true false h = absurd (cc)

-- where no pair is of two different atoms, the atoms of each equation that is listed are one
pub none-apart : (ps : List (Atom × Atom)) (a b : Atom) → first_sought Apart ps ≡ None → is_listed a b ps ≡ true → same_atom a b ≡ true
none-apart [] a b e listed = absurd (cc)
none-apart (p ∷ ps) a b e listed =
    by_test (not (same_atom p.0 p.1)) (Some p) (first_sought Apart ps) (λ o. o ≡ None → same_atom a b ≡ true)
    (λ _ is. absurd (cc))
    (λ one is. by_or (is_pair_of a b p) (is_listed a b ps) listed
    (λ here. let same = same_atom-true p.0 p.1 (not-true (same_atom p.0 p.1) one) in
    by_pair a b p here
    (λ x y. let both : b ≡ a = sym y ∙ sym same ∙ x in ap (same_atom a) both ∙ same_atom-refl a)
    (λ x y. let both : b ≡ a = sym x ∙ same ∙ y in ap (same_atom a) both ∙ same_atom-refl a))
    (λ there. none-apart ps a b is there)) e

-- an equation that is looked for is found exactly where it is listed
pub first_sought-Pair : (a b : Atom) (ps : List (Atom × Atom)) → is_some (first_sought (Pair a b) ps) ≡ is_listed a b ps
first_sought-Pair a b [] = refl
first_sought-Pair a b (p ∷ ps) =
    elim (is_pair_of a b p) as (λ t. is_some (cond t (Some p) (first_sought (Pair a b) ps)) ≡ (t || is_listed a b ps)) [
      | true ↦ refl
      | false ↦ first_sought-Pair a b ps
    ]

-- the two atoms of a listed equation are equally true where those of each pair are
pub equal-listed : (σ : Valuation) (ps : List (Atom × Atom)) (a b : Atom) → AreEqual σ ps → is_listed a b ps ≡ true → atom_truth σ a ≡ atom_truth σ b
equal-listed σ [] a b equal listed = absurd (cc)
equal-listed σ (p ∷ ps) a b equal listed =
    by_or (is_pair_of a b p) (is_listed a b ps) listed
    (λ here. by_pair a b p here
    (λ x y. sym (ap (atom_truth σ) x) ∙ equal.0 ∙ ap (atom_truth σ) y)
    (λ x y. sym (ap (atom_truth σ) y) ∙ sym equal.0 ∙ ap (atom_truth σ) x))
    (λ there. equal-listed σ ps a b equal.1 there)

pub AreEqual-append : (σ : Valuation) (ps qs : List (Atom × Atom)) → AreEqual σ ps → AreEqual σ qs → AreEqual σ (ps ++ qs)
AreEqual-append σ [] qs first second = second
AreEqual-append σ (p ∷ ps) qs first second = (first.0, AreEqual-append σ ps qs first.1 second)

pub AreEqual-only_if : (σ : Valuation) (t : Bool) (ps : List (Atom × Atom)) → (t ≡ true → AreEqual σ ps) → AreEqual σ (only_if t ps)
AreEqual-only_if σ true ps equal = equal refl
AreEqual-only_if σ false ps equal = tt

-- one equation for each member of a list
pub AreEqual-map : {X : Type 0} (σ : Valuation) (f : X → Atom × Atom) (xs : List X) → ((x : X) → atom_truth σ (f x).0 ≡ atom_truth σ (f x).1) → AreEqual σ (map f xs)
AreEqual-map σ f [] equal = tt
AreEqual-map σ f (x ∷ xs) equal = (equal x, AreEqual-map σ f xs equal)

-- what holds of the atoms of each pair
module _ (P : Atom → Type 0) where
  from : (a b : Atom) → a ≡ b → P a → P b
  from a b e h = rw (← e) h

  pub each-listed : (ps : List (Atom × Atom)) (a b : Atom) → EachOfPairs P ps → is_listed a b ps ≡ true → P a × P b
  each-listed [] a b each listed = absurd (cc)
  each-listed (p ∷ ps) a b each listed =
      by_or (is_pair_of a b p) (is_listed a b ps) listed
      (λ here. by_pair a b p here
      (λ x y. (from p.0 a x each.0.0, from p.1 b y each.0.1))
      (λ x y. (from p.1 a y each.0.1, from p.0 b x each.0.0)))
      (λ there. each-listed ps a b each.1 there)

  pub EachOfPairs-append : (ps qs : List (Atom × Atom)) → EachOfPairs P ps → EachOfPairs P qs → EachOfPairs P (ps ++ qs)
  EachOfPairs-append [] qs first second = second
  EachOfPairs-append (p ∷ ps) qs first second = (first.0, EachOfPairs-append ps qs first.1 second)

  pub EachOfPairs-only_if : (t : Bool) (ps : List (Atom × Atom)) → EachOfPairs P ps → EachOfPairs P (only_if t ps)
  EachOfPairs-only_if true ps each = each
  EachOfPairs-only_if false ps each = tt

  pub EachOfPairs-map : {X : Type 0} (f : X → Atom × Atom) (xs : List X) → ((x : X) → P (f x).0 × P (f x).1) → EachOfPairs P (map f xs)
  EachOfPairs-map f [] each = tt
  EachOfPairs-map f (x ∷ xs) each = (each x, EachOfPairs-map f xs each)
