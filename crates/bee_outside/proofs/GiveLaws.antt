-- What is given from the front of a file.
use Rattle.std.proofs.Common.{◌≡◌, ℕ, ◌≤◌, List, ◌++◌, length, take, drop, map, set, get_or, min, arith, refl, ap, sym, ◌∙◌, Some}
use Rattle.std.proofs.lemmas.List.{take_at, drop_at}
use Rattle.bee_outside.specs.MemShelf.{left_under}
use Rattle.bee_outside.specs.MemFiles.{GivesFront}
use Rattle.std.proofs.lemmas.List.{length-take-le, take-append-drop}
use Rattle.std.proofs.Common.{subst}
use Rattle.std.specs.Prelude.{◌≢◌, ◌↔◌}
use Rattle.bee_outside.specs.Bytes.{IsTold, in_front}
use Rattle.bee_outside.proofs.NameLaws.{FirstAt, left_under-same, left_under-other}

-- the first file with the name lost a piece of the right size from its front
pub GivesFront-from_moved : {X : Type 0} (v : X → List ℕ × List ℕ) (name : List ℕ) (xs : List X) (i step : ℕ) (d y : X) (into piece later : List ℕ) (size : ℕ) → FirstAt v name xs i → (v y).0 ≡ (v (get_or xs i d)).0 → (v y).1 ≡ later → (v (get_or xs i d)).1 ≡ piece ++ later → length piece ≡ size → size ≡ min (min (length into) step) (length (v (get_or xs i d)).1) → GivesFront (map v xs) step name (map v (set xs i y)) into (piece ++ drop size into) size
GivesFront-from_moved v name xs i step d y into piece later size first same_name left moved long amount =
    let file = v (get_or xs i d) in
    let gone : drop size file.1 ≡ later = ap (drop size) moved ∙ drop_at piece later size long in
    let came : take size file.1 ≡ piece = ap (take size) moved ∙ take_at piece later size long in
    let changed : v y ≡ (file.0, drop size file.1) =
    ap (λ z. (z, (v y).1)) same_name ∙ ap (λ z. (file.0, z)) (left ∙ sym gone) in
    record {
      bytes = file.1;
      found = first.left d;
      amount = amount;
      files = first.changed d y size changed;
      slice = ap (λ z. z ++ drop size into) (sym came);
    }

-- a step along equal lists of files
pub GivesFront-along : (before before' : List (List ℕ × List ℕ)) (step : ℕ) (name : List ℕ) (after after' : List (List ℕ × List ℕ)) (into into' : List ℕ) (size : ℕ) → before ≡ before' → after' ≡ after → GivesFront before step name after into into' size → GivesFront before' step name after' into into' size
GivesFront-along before before' step name after after' into into' size e e' gives =
    subst (λ z. GivesFront z step name after' into into' size) e (subst (λ z. GivesFront before step name z into into' size) (sym e') gives)

module _ (before : List (List ℕ × List ℕ)) (step : ℕ) (name : List ℕ) (after : List (List ℕ × List ℕ)) (into into' : List ℕ) (size : ℕ) (gives : GivesFront before step name after into into' size) where
  -- what is left afterwards
  pub left-given : left_under after name ≡ Some (drop size gives.bytes)
  left-given = ap (λ z. left_under z name) gives.files ∙ left_under-same before name gives.bytes size gives.found

  -- no more are given than are left
  pub size-given : size ≤ length gives.bytes
  size-given = omega (arith, gives.amount)

  -- what came is the front of what was left
  pub moved-given : left_under before name ≡ in_front (take size into') (left_under after name)
  moved-given =
      let long : length (take size gives.bytes) ≡ size = length-take-le size gives.bytes size-given in
      let came : take size into' ≡ take size gives.bytes = ap (take size) gives.slice ∙ take_at (take size gives.bytes) (drop size into) size long in
      gives.found ∙ ap Some (sym (take-append-drop size gives.bytes)) ∙ ap (λ z. Some (z ++ drop size gives.bytes)) (sym came)
      ∙ ap (in_front (take size into')) (sym left-given)

  -- the name stays told
  pub told-given : IsTold (left_under after name) ↔ IsTold (left_under before name)
  told-given = (λ _. rw gives.found refl, λ _. rw left-given refl)

  -- under another name the same is left
  pub others-given : (other : List ℕ) → other ≢ name → left_under after other ≡ left_under before other
  others-given other ne = ap (λ z. left_under z other) gives.files ∙ left_under-other before name other size ne
