-- A list whose last member goes to a place, those from there on a place further.
use Rattle.std.proofs.Common.{◌≡◌, ℕ, ◌+◌, ◌-◌, ◌<◌, ◌≤◌, List, [], ◌∷◌, ◌++◌, length, take, drop, set, length-append, length-drop, sym, ap, ap₂, ◌∙◌, refl, arith}
use mathlib.Core.List.{append-nil}
use Rattle.std.proofs.Math.Seq.{drop-append_seam, take-append_seam, take_all}
use Rattle.std.proofs.lemmas.List.{take-append-drop, take-set, take-append-le, drop-append-le, drop_all}
use Rattle.std.proofs.lemmas.Grind.{drop-set_at}
use borrow.Rule.Slice.PartMut.{mid_of, put_mid}

-- the last member is replaced
pub set-last : {X : Type 0} (xs : List X) (v : X) → 0 < length xs → set xs (length xs - 1) v ≡ take (length xs - 1) xs ++ v ∷ []
set-last xs v h =
    sym (take-append-drop (length xs - 1) (set xs (length xs - 1) v))
    ∙ ap₂ (λ p q. p ++ q) (take-set xs (length xs - 1) v)
    (drop-set_at xs (length xs - 1) (length xs - 1) v (refl) (omega arith) ∙ ap (λ q. v ∷ q) (drop_all (length xs - 1 + 1) xs (omega arith)))

turned : {X : Type 0} (tail : List X) (v : X) → drop (length (tail ++ v ∷ []) - 1) (tail ++ v ∷ []) ++ take (length (tail ++ v ∷ []) - 1) (tail ++ v ∷ []) ≡ v ∷ tail
turned tail v =
    let n : length (tail ++ v ∷ []) - 1 ≡ length tail = omega (arith, length-append tail (v ∷ [])) in
    ap (λ m. drop m (tail ++ v ∷ []) ++ take m (tail ++ v ∷ [])) n ∙ ap₂ (λ p q. p ++ q) (drop-append_seam tail (v ∷ [])) (take-append_seam tail (v ∷ []))

-- after `xs[a..].rotate_right(1)`
pub put_mid-turned : {X : Type 0} (xs front : List X) (v : X) (a k : ℕ) (ys : List X) → xs ≡ front ++ v ∷ [] → a ≤ length front → length xs ≤ a + k
    → ys ≡ drop (length (mid_of a k xs) - 1) (mid_of a k xs) ++ take (length (mid_of a k xs) - 1) (mid_of a k xs)
    → put_mid a k xs ys ≡ take a front ++ v ∷ drop a front
put_mid-turned xs front v a k ys e h l r =
    let long = length-drop a xs in
    let part : mid_of a k xs ≡ drop a front ++ v ∷ [] = take_all k (drop a xs) (omega arith) ∙ ap (drop a) e ∙ drop-append-le a front (v ∷ []) h in
    let tail : ys ≡ v ∷ drop a front = r ∙ ap (λ m. drop (length m - 1) m ++ take (length m - 1) m) part ∙ turned (drop a front) v in
    ap₂ (λ p q. p ++ q) (ap (take a) e ∙ take-append-le a front (v ∷ []) h)
    (ap₂ (λ p q. p ++ q) tail (drop_all k (drop a xs) (omega arith)) ∙ append-nil (v ∷ drop a front))
