-- Whether a name is new, by a look-up.
use Rattle.std.proofs.Common.{◌≡◌, ℕ, true, false, List, [], ◌∷◌, sym, ◌∙◌, ⊎_elim}
use Rattle.std.specs.List.{list_any}
use Rattle.std.specs.Str.{bytes_eq}
use Rattle.std.proofs.lemmas.Bool.{true≢false, false≢true, or_cases, or_parts}
use Rattle.std.proofs.lemmas.Slice.Eq.{bytes_eq-Decides}
use Rattle.bumblebee_reader.specs.Names.{IsNew}

pub known_not_new : (name : List ℕ) (names : List (List ℕ)) → list_any (bytes_eq name) names ≡ true → IsNew name names → ⊥
known_not_new name [] h new = false≢true h
known_not_new name (n ∷ names) h new = ⊎_elim
    (λ (e : bytes_eq name n ≡ true). new.0 ((bytes_eq-Decides name n).0 e))
    (λ (e : list_any (bytes_eq name) names ≡ true). known_not_new name names e new.1)
    (or_cases (bytes_eq name n) (list_any (bytes_eq name) names) h)

pub unknown_new : (name : List ℕ) (names : List (List ℕ)) → list_any (bytes_eq name) names ≡ false → IsNew name names
unknown_new name [] h = tt
unknown_new name (n ∷ names) h =
    let parts = or_parts (bytes_eq name n) (list_any (bytes_eq name) names) h in
    ((λ e. true≢false (sym ((bytes_eq-Decides name n).1 e) ∙ parts.0)), unknown_new name names parts.1)
