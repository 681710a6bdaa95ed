-- What a part of the declarations keeps of all.
use Rattle.std.proofs.Common.{ℕ, zero, suc, List, [], ◌∷◌, take, drop, inl, inr, ⊎_elim}
use Rattle.model_meaning.specs.declared.model.Decl.{Decl}
use Rattle.model_meaning.specs.Limits.{DeclsInLimit}
use Rattle.wish_text.specs.Wishes.{TellsValue}

take-limits : (n : ℕ) (ds : List Decl) → DeclsInLimit ds → DeclsInLimit (take n ds)
take-limits zero ds h = tt
take-limits (suc n) [] h = tt
take-limits (suc n) (d ∷ ds) h = (h.0, take-limits n ds h.1)

drop-limits : (n : ℕ) (ds : List Decl) → DeclsInLimit ds → DeclsInLimit (drop n ds)
drop-limits zero ds h = h
drop-limits (suc n) [] h = tt
drop-limits (suc n) (d ∷ ds) h = drop-limits n ds h.1

pub slice-limits : (m n : ℕ) (ds : List Decl) → DeclsInLimit ds → DeclsInLimit (take m (drop n ds))
slice-limits m n ds h = take-limits m (drop n ds) (drop-limits n ds h)

module _ (line : List ℕ) where
  take-told : (n : ℕ) (ds : List Decl) → TellsValue (take n ds) line → TellsValue ds line
  take-told zero ds h = absurd h
  take-told (suc n) [] h = absurd h
  take-told (suc n) (d ∷ ds) (inl h) = inl h
  take-told (suc n) (d ∷ ds) (inr h) = inr (take-told n ds h)

  drop-told : (n : ℕ) (ds : List Decl) → TellsValue (drop n ds) line → TellsValue ds line
  drop-told zero ds h = h
  drop-told (suc n) [] h = absurd h
  drop-told (suc n) (d ∷ ds) h = inr (drop-told n ds h)

  pub slice-told : (m n : ℕ) (ds : List Decl) → TellsValue (take m (drop n ds)) line → TellsValue ds line
  slice-told m n ds h = drop-told n ds (take-told m (drop n ds) h)
