-- What is left under a name in a list of files, and after its first bytes are gone.
use Rattle.std.proofs.Common.{◌≡◌, ℕ, suc, ◌<◌, ◌+◌, List, [], ◌∷◌, length, drop, map, set, get_or, Bool, true, false, cond, arith, refl, ap, sym, ◌∙◌, inl, inr, Some, None, add-zero}
use Rattle.std.specs.Prelude.{◌≢◌, ◌⊎◌, bytes_eq}
use Rattle.std.proofs.Common.{subst}
use Rattle.std.specs.List.{position_from}
use Rattle.std.proofs.lemmas.Slice.Eq.{bytes_eq-Decides}
use Rattle.bee_outside.specs.MemShelf.{left_under, without_front}

-- a test holds or not
pub holds_or_not : (b : Bool) → (b ≡ true) ⊎ (b ≡ false)
holds_or_not true = inl refl
holds_or_not false = inr refl

-- a file of one name is not of another
bytes_eq-other : (file name other : List ℕ) → bytes_eq file name ≡ true → other ≢ name → bytes_eq file other ≡ false
bytes_eq-other file name other e ne =
    elim (holds_or_not (bytes_eq file other)) as (λ _. bytes_eq file other ≡ false) [
      | inl t ↦ absurd (ne (sym ((bytes_eq-Decides file other).0 t) ∙ (bytes_eq-Decides file name).0 e))
      | inr f ↦ f
    ]

-- under another name the same is left
pub left_under-other : (files : List (List ℕ × List ℕ)) (name other : List ℕ) (count : ℕ) → other ≢ name → left_under (without_front files name count) other ≡ left_under files other
left_under-other [] name other count ne = refl
left_under-other (file ∷ files) name other count ne =
    elim (holds_or_not (bytes_eq file.0 name)) as (λ _. left_under (without_front (file ∷ files) name count) other ≡ left_under (file ∷ files) other) [
      | inl t ↦ rw t (rw (bytes_eq-other file.0 name other t ne) refl)
      | inr f ↦ rw f (ap (cond (bytes_eq file.0 other) (Some file.1)) (left_under-other files name other count ne))
    ]

-- under the name itself the bytes behind those are left
pub left_under-same : (files : List (List ℕ × List ℕ)) (name bytes : List ℕ) (count : ℕ) → left_under files name ≡ Some bytes → left_under (without_front files name count) name ≡ Some (drop count bytes)
left_under-same [] name bytes count h = cc
left_under-same (file ∷ files) name bytes count h =
    elim (holds_or_not (bytes_eq file.0 name)) as (λ _. left_under (without_front (file ∷ files) name count) name ≡ Some (drop count bytes)) [
      | inl t ↦ rw (t, t) (let e : file.1 ≡ bytes = cc (rw t at h) in ap (λ z. Some (drop count z)) e)
      | inr f ↦ rw (f, f) (left_under-same files name bytes count (rw f at h))
    ]

-- the first element with the name stands at i: what is left under the name, and what a change of it makes
pub record FirstAt {X : Type 0} (v : X → List ℕ × List ℕ) (name : List ℕ) (xs : List X) (i : ℕ) : Type 0 where
  pub below : i < length xs
  pub left : (d : X) → left_under (map v xs) name ≡ Some (v (get_or xs i d)).1
  pub changed : (d y : X) (count : ℕ) → v y ≡ ((v (get_or xs i d)).0, drop count (v (get_or xs i d)).1) → map v (set xs i y) ≡ without_front (map v xs) name count

-- it is the first of the list
first_here : {X : Type 0} (v : X → List ℕ × List ℕ) (name : List ℕ) (x : X) (xs : List X) → bytes_eq (v x).0 name ≡ true → FirstAt v name (x ∷ xs) 0
first_here v name x xs t = record {
  below = omega arith;
  left = λ d. rw t refl;
  changed = λ d y count e. rw t (ap (λ z. z ∷ map v xs) e);
}

-- it stands behind the first of the list
first_later : {X : Type 0} (v : X → List ℕ × List ℕ) (name : List ℕ) (x : X) (xs : List X) (i : ℕ) → bytes_eq (v x).0 name ≡ false → FirstAt v name xs i → FirstAt v name (x ∷ xs) (suc i)
first_later v name x xs i f first = record {
  below = omega (arith, first.below);
  left = λ d. rw f (first.left d);
  changed = λ d y count e. rw f (ap (λ zs. v x ∷ zs) (first.changed d y count e));
}

-- what the search for a name finds
first_found : {X : Type 0} (v : X → List ℕ × List ℕ) (name : List ℕ) (xs : List X) (from i : ℕ) → position_from (λ x. bytes_eq (v x).0 name) from xs ≡ Some i → (k : ℕ) × ((i ≡ from + k) × FirstAt v name xs k)
first_found v name [] from i h = cc
first_found v name (x ∷ xs) from i h =
    elim (holds_or_not (bytes_eq (v x).0 name)) as (λ _. (k : ℕ) × ((i ≡ from + k) × FirstAt v name (x ∷ xs) k)) [
      | inl t ↦ (0, (let e : from ≡ i = cc (rw t at h) in sym e ∙ sym (add-zero from), first_here v name x xs t))
      | inr f ↦ let later = first_found v name xs (from + 1) i (rw f at h) in
          (suc later.0, (omega (arith, later.1.0), first_later v name x xs later.0 f later.1.1))
    ]

-- the first element with the name, where the search began at the list's start
pub FirstAt-from_position : {X : Type 0} (v : X → List ℕ × List ℕ) (name : List ℕ) (xs : List X) (i : ℕ) → position_from (λ x. bytes_eq (v x).0 name) 0 xs ≡ Some i → FirstAt v name xs i
FirstAt-from_position v name xs i h =
    let found = first_found v name xs 0 i h in
    let e : found.0 ≡ i = omega (arith, found.1.0) in
    subst (λ k. FirstAt v name xs k) e found.1.1

-- nothing is told under a name that the search doesn't find
pub left_under-missing : {X : Type 0} (v : X → List ℕ × List ℕ) (name : List ℕ) (xs : List X) (from : ℕ) → position_from (λ x. bytes_eq (v x).0 name) from xs ≡ None → left_under (map v xs) name ≡ None
left_under-missing v name [] from h = refl
left_under-missing v name (x ∷ xs) from h =
    elim (holds_or_not (bytes_eq (v x).0 name)) as (λ _. left_under (map v (x ∷ xs)) name ≡ None) [
      | inl t ↦ let e : Some from ≡ None = rw t at h in cc
      | inr f ↦ rw f (left_under-missing v name xs (from + 1) (rw f at h))
    ]
