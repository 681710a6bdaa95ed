-- Pairs of numbers of steps, one by one.
use Rattle.std.proofs.Common.{◌≡◌, ℕ, ◌+◌, ◌<◌, ◌≤◌, List, [], ◌∷◌, ◌++◌, map, length, get_or, drop, min, inl, inr, refl, sym, ap, ◌∙◌, arith}
use Rattle.std.specs.List.{zip}
use Rattle.std.proofs.lemmas.Bool.{cases_lt}
use Rattle.std.proofs.lemmas.List.{append-nil, append_assoc, drop_more, drop_all}

zip-nil : {A B : Type 0} (xs : List A) → zip {K = A} {X = B} xs [] ≡ []
zip-nil [] = refl
zip-nil (x ∷ xs) = refl

-- one pair moves from what is left to what is done
pub zip-moved : {A B : Type 0} (f : A → ℕ) (g : B → ℕ) (xs : List A) (ys : List B) (i : ℕ) (a : A) (b : B) (done all pushed : List (ℕ × ℕ))
    → i < length xs → i < length ys → pushed ≡ done ++ (f (get_or xs i a), g (get_or ys i b)) ∷ []
    → done ++ zip (map f (drop i xs)) (map g (drop i ys)) ≡ all
    → pushed ++ zip (map f (drop (i + 1) xs)) (map g (drop (i + 1) ys)) ≡ all
zip-moved f g xs ys i a b done all pushed h k e l =
    let next = zip (map f (drop (i + 1) xs)) (map g (drop (i + 1) ys)) in
    let pair : ℕ × ℕ = (f (get_or xs i a), g (get_or ys i b)) in
    let left : zip (map f (drop i xs)) (map g (drop i ys)) ≡ pair ∷ next = rw (drop_more xs i a h, drop_more ys i b k) refl in
    rw (e, append_assoc done (pair ∷ []) next) (ap (λ ps. done ++ ps) (sym left) ∙ l)

pub zip-finished : {A B : Type 0} (f : A → ℕ) (g : B → ℕ) (xs : List A) (ys : List B) (i : ℕ) (done all : List (ℕ × ℕ))
    → min (length xs) (length ys) ≤ i → done ++ zip (map f (drop i xs)) (map g (drop i ys)) ≡ all → done ≡ all
zip-finished f g xs ys i done all h l = sym (append-nil done) ∙ (ap (λ ps. done ++ ps) (sym none) ∙ l)
  where
    none : zip (map f (drop i xs)) (map g (drop i ys)) ≡ []
    none = elim (cases_lt i (length xs)) [
      | inl short ↦ ap (λ zs. zip (map f (drop i xs)) (map g zs)) (drop_all i ys (omega arith)) ∙ zip-nil (map f (drop i xs))
      | inr past ↦ ap (λ zs. zip (map f zs) (map g (drop i ys))) (drop_all i xs past)
    ]
