-- Values of objectives, and which of two is better.
use Rattle.std.proofs.Common.{◌≡◌, Bool, true, false, List, [], ◌∷◌, refl, sym, ap, ◌∙◌, ℤ, arith}
use Rattle.std.specs.Prelude.{int_lt, ◌||◌, ◌&&◌, ◌≤ℤ◌}
use Rattle.std.specs.Ordering.{int_eq}
use Rattle.std.proofs.lemmas.Int.{ints}
use Rattle.std.proofs.lemmas.Bool.{true≢false}
use Rattle.model_meaning.specs.Lists.{in_order}

not-less : (v m : ℤ) → m ≤ℤ v → int_lt v m ≡ false
not-less v m h = grind (arith, ints)

equal-values : (v m : ℤ) → int_eq v m ≡ true → v ≡ m
equal-values v m h = grind (arith, ints)

no-more : (a b : Bool) → a ≡ false → (a || (b && false)) ≡ false
no-more true b e = absurd (true≢false e)
no-more false true e = refl
no-more false false e = refl

-- a value that is at least another is not less
pub not-better-one : (v m : ℤ) → m ≤ℤ v → in_order true (v ∷ []) (m ∷ []) ≡ false
not-better-one v m h = no-more (int_lt v m) (int_eq v m) (not-less v m h)

no-more-behind : (a b c : Bool) → a ≡ false → (b ≡ true → c ≡ false) → (a || (b && c)) ≡ false
no-more-behind true b c e f = absurd (true≢false e)
no-more-behind false true c e f = f refl
no-more-behind false false c e f = refl

-- and so are two values where the first is at least another, and the second too where the first are equal
pub not-better-two : (v w m n : ℤ) → m ≤ℤ v → (v ≡ m → n ≤ℤ w) → in_order true (v ∷ w ∷ []) (m ∷ n ∷ []) ≡ false
not-better-two v w m n h k =
    no-more-behind (int_lt v m) (int_eq v m) (in_order true (w ∷ []) (n ∷ [])) (not-less v m h) (λ e. not-better-one w n (k (equal-values v m e)))

-- Values of which none is better are equal.

part-false : (a b : Bool) → (a || b) ≡ false → (a ≡ false) × (b ≡ false)
part-false true b e = absurd (true≢false e)
part-false false b e = (refl, e)

is-equal : (v m : ℤ) → int_lt v m ≡ false → int_lt m v ≡ false → v ≡ m
is-equal v m e f = grind (arith, ints)

pub both-equal : (v m : ℤ) (xs ys : List ℤ) → in_order true (v ∷ xs) (m ∷ ys) ≡ false → in_order true (m ∷ ys) (v ∷ xs) ≡ false
    → (v ≡ m) × (in_order true xs ys ≡ false) × (in_order true ys xs ≡ false)
both-equal v m xs ys e f =
    let a = part-false (int_lt v m) (int_eq v m && in_order true xs ys) e in
    let b = part-false (int_lt m v) (int_eq m v && in_order true ys xs) f in
    let same = is-equal v m a.0 b.0 in
    (same, rest v m same (in_order true xs ys) a.1, rest m v (sym same) (in_order true ys xs) b.1)
  where
    same-itself : (v m : ℤ) → v ≡ m → int_eq v m ≡ true
    same-itself v m e = grind (arith, ints)

    rest : (v m : ℤ) → v ≡ m → (b : Bool) → (int_eq v m && b) ≡ false → b ≡ false
    rest v m e b f = sym (ap (λ t. t && b) (same-itself v m e)) ∙ f
