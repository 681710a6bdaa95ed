-- Members with steps, one by one.
use Rattle.std.proofs.Common.{◌≡◌, ℕ, ◌+◌, ◌<◌, ◌≤◌, ℤ, Bool, true, false, List, [], ◌∷◌, ◌++◌, length, get_or, drop, min, inl, inr, refl, sym, ap, ◌∙◌, arith}
use Rattle.std.specs.Prelude.{◌==◌, if◌then◌else◌}
use Rattle.std.proofs.lemmas.Bool.{cases_lt}
use Rattle.std.proofs.lemmas.List.{append-nil, append_assoc, drop_more, drop_all}
use Rattle.core_cost.specs.declared.shape.Shape.{Shape}
use Rattle.core_cost.specs.Sums.{unit_steps}
use Rattle.model_meaning.specs.declared.what.BoolTerm.{BoolTerm}
use Rattle.model_meaning.specs.declared.what.IntTerm.{IntTerm}
use Rattle.model_meaning.specs.declared.model.Decl.{Decl}
use Rattle.model_weight.specs.Shapes.{shape_in}
use Rattle.model_weight.specs.Linear.{scaled, scaled_truths, scaled_numbers, numbers, with_steps}

pub with_steps-append : (xs ys : List Shape) → with_steps (xs ++ ys) ≡ with_steps xs ++ with_steps ys
with_steps-append [] ys = refl
with_steps-append (a ∷ rest) ys = by_test (a.steps == 0) (with_steps-append rest ys)
  where
    by_test : (b : Bool) → with_steps (rest ++ ys) ≡ with_steps rest ++ with_steps ys
        → (if b then with_steps (rest ++ ys) else a ∷ with_steps (rest ++ ys)) ≡ (if b then with_steps rest else a ∷ with_steps rest) ++ with_steps ys
    by_test true e = e
    by_test false e = ap (λ zs. a ∷ zs) e

-- one member moves from what is left to what is done
moved : (done left all pushed next : List Shape) (a : Shape) → left ≡ a ∷ next → pushed ≡ done ++ with_steps (a ∷ []) → done ++ with_steps left ≡ all → pushed ++ with_steps next ≡ all
moved done left all pushed next a e f h =
    rw (f, append_assoc done (with_steps (a ∷ [])) (with_steps next), ← with_steps-append (a ∷ []) next)
    (ap (λ xs. done ++ with_steps xs) (sym e) ∙ h)

finished : (done left all : List Shape) → left ≡ [] → done ++ with_steps left ≡ all → done ≡ all
finished done left all e h = sym (append-nil done) ∙ (ap (λ xs. done ++ with_steps xs) (sym e) ∙ h)

pub numbers-moved : (ds : List Decl) (is : List IntTerm) (i : ℕ) (d : IntTerm) (done all pushed : List Shape) → i < length is
    → pushed ≡ done ++ with_steps (shape_in ds (get_or is i d) ∷ [])
    → done ++ with_steps (numbers ds (drop i is)) ≡ all → pushed ++ with_steps (numbers ds (drop (i + 1) is)) ≡ all
numbers-moved ds is i d done all pushed h f e =
    moved done (numbers ds (drop i is)) all pushed (numbers ds (drop (i + 1) is)) (shape_in ds (get_or is i d)) (ap (numbers ds) (drop_more is i d h)) f e

pub numbers-finished : (ds : List Decl) (is : List IntTerm) (i : ℕ) (done all : List Shape) → length is ≤ i
    → done ++ with_steps (numbers ds (drop i is)) ≡ all → done ≡ all
numbers-finished ds is i done all h e = finished done (numbers ds (drop i is)) all (ap (numbers ds) (drop_all i is h)) e

pub scaled_numbers-moved : (ds : List Decl) (cs : List ℤ) (is : List IntTerm) (i : ℕ) (c : ℤ) (d : IntTerm) (done all pushed : List Shape)
    → i < length cs → i < length is → pushed ≡ done ++ with_steps (scaled (get_or cs i c) (shape_in ds (get_or is i d)) ∷ [])
    → done ++ with_steps (scaled_numbers ds (drop i cs) (drop i is)) ≡ all
    → pushed ++ with_steps (scaled_numbers ds (drop (i + 1) cs) (drop (i + 1) is)) ≡ all
scaled_numbers-moved ds cs is i c d done all pushed h k f e =
    moved done (scaled_numbers ds (drop i cs) (drop i is)) all pushed (scaled_numbers ds (drop (i + 1) cs) (drop (i + 1) is)) (scaled (get_or cs i c) (shape_in ds (get_or is i d)))
    (rw (drop_more cs i c h, drop_more is i d k) refl) f e

scaled_numbers-nil : (ds : List Decl) (cs : List ℤ) → scaled_numbers ds cs [] ≡ []
scaled_numbers-nil ds [] = refl
scaled_numbers-nil ds (c ∷ cs) = refl

pub scaled_numbers-finished : (ds : List Decl) (cs : List ℤ) (is : List IntTerm) (i : ℕ) (done all : List Shape) → min (length cs) (length is) ≤ i
    → done ++ with_steps (scaled_numbers ds (drop i cs) (drop i is)) ≡ all → done ≡ all
scaled_numbers-finished ds cs is i done all h e = finished done (scaled_numbers ds (drop i cs) (drop i is)) all none e
  where
    none : scaled_numbers ds (drop i cs) (drop i is) ≡ []
    none = elim (cases_lt i (length cs)) [
      | inl short ↦ ap (scaled_numbers ds (drop i cs)) (drop_all i is (omega arith)) ∙ scaled_numbers-nil ds (drop i cs)
      | inr past ↦ ap (λ ks. scaled_numbers ds ks (drop i is)) (drop_all i cs past)
    ]

pub scaled_truths-moved : (cs : List ℤ) (xs : List BoolTerm) (i : ℕ) (c : ℤ) (d : BoolTerm) (done all pushed : List Shape)
    → i < length cs → i < length xs → pushed ≡ done ++ with_steps (scaled (get_or cs i c) (unit_steps 1) ∷ [])
    → done ++ with_steps (scaled_truths (drop i cs) (drop i xs)) ≡ all
    → pushed ++ with_steps (scaled_truths (drop (i + 1) cs) (drop (i + 1) xs)) ≡ all
scaled_truths-moved cs xs i c d done all pushed h k f e =
    moved done (scaled_truths (drop i cs) (drop i xs)) all pushed (scaled_truths (drop (i + 1) cs) (drop (i + 1) xs)) (scaled (get_or cs i c) (unit_steps 1))
    (rw (drop_more cs i c h, drop_more xs i d k) refl) f e

scaled_truths-nil : (cs : List ℤ) → scaled_truths cs [] ≡ []
scaled_truths-nil [] = refl
scaled_truths-nil (c ∷ cs) = refl

pub scaled_truths-finished : (cs : List ℤ) (xs : List BoolTerm) (i : ℕ) (done all : List Shape) → min (length cs) (length xs) ≤ i
    → done ++ with_steps (scaled_truths (drop i cs) (drop i xs)) ≡ all → done ≡ all
scaled_truths-finished cs xs i done all h e = finished done (scaled_truths (drop i cs) (drop i xs)) all none e
  where
    none : scaled_truths (drop i cs) (drop i xs) ≡ []
    none = elim (cases_lt i (length cs)) [
      | inl short ↦ ap (scaled_truths (drop i cs)) (drop_all i xs (omega arith)) ∙ scaled_truths-nil (drop i cs)
      | inr past ↦ ap (λ ks. scaled_truths ks (drop i xs)) (drop_all i cs past)
    ]
