-- Literals of as many different variables as there are: no two are of one variable.
use Rattle.std.proofs.Common.{◌≡◌, ℕ, suc, ◌≤◌, ◌==◌, Bool, true, false, not, ◌&&◌, ◌||◌, ◌⊎◌, inl, inr, List, [], ◌∷◌, length, ℤ, pos, refl, ap, subst, ◌∙◌, ⊎_elim, arith}
use Rattle.std.specs.Prelude.{int_lt, if◌then◌else◌}
use Rattle.std.specs.Ordering.{int_eq}
use Rattle.std.proofs.lemmas.Bool.{false≢true, or_cases}
use Rattle.std.proofs.lemmas.Bool.Decides.{Decides-eqb}
use Rattle.order_ints.specs.declared.atom.Atom.{Atom}
use Rattle.order_ints.specs.declared.atom.Atom.TheVariants.{True, False, Of}
use Rattle.core_forms.specs.Sums.{placed, ascending}
use Rattle.core_forms.proofs.Ascending.{Among, AreAscending-ascending, Among-ascending, Among-from_ascending, length-ascending, same_from_members}
use Rattle.core_forms.proofs.Tidied.{by_test}
use Rattle.equation_runs.specs.FreeAtoms.{vars_of, are_free}

-- one of the atoms is a literal of the variable
abbrev pub has_var : ℕ → List Atom → Bool
has_var v [] = false
has_var v (True ∷ atoms) = has_var v atoms
has_var v (False ∷ atoms) = has_var v atoms
has_var v (Of l ∷ atoms) = (l.var == v) || has_var v atoms

-- each is a literal whose variable none behind it has
abbrev pub are_apart : List Atom → Bool
are_apart [] = true
are_apart (True ∷ atoms) = false
are_apart (False ∷ atoms) = false
are_apart (Of l ∷ atoms) = not (has_var l.var atoms) && are_apart atoms

length-placed : (v : ℤ) (ws : List ℤ) → length (placed v ws) ≤ suc (length ws)
length-placed v [] = omega arith
length-placed v (w ∷ ws) =
    by_test (int_eq v w) (w ∷ ws) (if int_lt v w then v ∷ w ∷ ws else w ∷ placed v ws) (λ xs. length xs ≤ suc (suc (length ws)))
    (λ _. omega arith)
    (λ _. by_test (int_lt v w) (v ∷ w ∷ ws) (w ∷ placed v ws) (λ xs. length xs ≤ suc (suc (length ws))) (λ _. omega arith) (λ _. let h = length-placed v ws in omega (arith, h)))

-- the first one of different numbers is none of the others, which are different
module _ (v : ℤ) (vs : List ℤ) (whole : length (ascending (v ∷ vs)) ≡ suc (length vs)) where
  different-first : Among v vs → ⊥
  different-first m =
      let same = same_from_members (ascending (v ∷ vs)) (ascending vs) (AreAscending-ascending (v ∷ vs)) (AreAscending-ascending vs) fewer more in
      let short = length-ascending vs in
      let e = ap (λ (xs : List ℤ). length xs) same in
      too-long (length (ascending (v ∷ vs))) (length (ascending vs)) (length vs) whole e short
    where
      fewer : (u : ℤ) → Among u (ascending (v ∷ vs)) → Among u (ascending vs)
      fewer u is = by (Among-from_ascending u (v ∷ vs) is)
        where
          by : (v ≡ u) ⊎ Among u vs → Among u (ascending vs)
          by (inl e) = subst (λ (w : ℤ). Among w (ascending vs)) e (Among-ascending v vs m)
          by (inr n) = Among-ascending u vs n

      more : (u : ℤ) → Among u (ascending vs) → Among u (ascending (v ∷ vs))
      more u is = Among-ascending u (v ∷ vs) (inr (Among-from_ascending u vs is))

      too-long : (k m n : ℕ) → k ≡ suc n → k ≡ m → m ≤ n → ⊥
      too-long k m n e f g = omega (arith, e, f, g)

  different-rest : length (ascending vs) ≡ length vs
  different-rest =
      let most = length-placed v (ascending vs) in
      let short = length-ascending vs in
      as-long (length (ascending (v ∷ vs))) (length (ascending vs)) (length vs) whole most short
    where
      as-long : (k m n : ℕ) → k ≡ suc n → k ≤ suc m → m ≤ n → m ≡ n
      as-long k m n e f g = omega (arith, e, f, g)

var-among : (v : ℕ) (xs : List Atom) → has_var v xs ≡ true → Among (pos v) (vars_of xs)
var-among v [] e = absurd (false≢true e)
var-among v (True ∷ xs) e = inr (inr (var-among v xs e))
var-among v (False ∷ xs) e = inr (inr (var-among v xs e))
var-among v (Of l ∷ xs) e = ⊎_elim
    (λ (h : (l.var == v) ≡ true). inl (ap pos ((Decides-eqb l.var v).0 h)))
    (λ (h : has_var v xs ≡ true). inr (var-among v xs h))
    (or_cases (l.var == v) (has_var v xs) e)

apart-so : (xs : List Atom) → length (ascending (vars_of xs)) ≡ length (vars_of xs) → are_apart xs ≡ true
apart-so [] e = refl
apart-so (True ∷ xs) e = absurd (different-first (pos 0) (pos 0 ∷ vars_of xs) e (inl refl))
apart-so (False ∷ xs) e = absurd (different-first (pos 0) (pos 0 ∷ vars_of xs) e (inl refl))
apart-so (Of l ∷ xs) e = by (apart-so xs (different-rest (pos l.var) (vars_of xs) e)) (has_var l.var xs) refl
  where
    by : are_apart xs ≡ true → (t : Bool) → has_var l.var xs ≡ t → are_apart (Of l ∷ xs) ≡ true
    by rest true had = absurd (different-first (pos l.var) (vars_of xs) e (var-among l.var xs had))
    by rest false none = ap (λ (t : Bool). not t && are_apart xs) none ∙ rest

pub free-apart : (xs : List Atom) → are_free xs ≡ true → are_apart xs ≡ true
free-apart xs e = apart-so xs ((Decides-eqb (length (ascending (vars_of xs))) (length (vars_of xs))).0 e)
