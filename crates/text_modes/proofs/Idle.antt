-- Where memory is wanting before a mode begins, nothing was read and nothing written.
use Rattle.std.proofs.Common.{◌≡◌, ℕ, ◌≤◌, List, [], length, Option, Some, None, IfSome, refl, ap, subst, inl, arith}
use Rattle.bee_outside.specs.Bytes.{in_front, TookPiece}
use Rattle.text_modes.specs.Seen.{ShelfShown, Seen, Untouched}
use Rattle.text_modes.specs.Promises.{TookUnder}
use Rattle.text_modes.specs.OneText.{OneTextRun}
use Rattle.text_modes.specs.NoText.{NoTextRun}
use Rattle.text_modes.specs.TwoTexts.{Texts, TwoTextRun}
use Rattle.text_modes.specs.declared.ends.Outcome.{Outcome}
use Rattle.text_modes.specs.declared.ends.End.TheVariants.{Memory}

nothing_in_front : (left : Option (List ℕ)) → left ≡ in_front [] left
nothing_in_front None = refl
nothing_in_front (Some bytes) = refl

nothing_taken : (limit : Option ℕ) (left : Option (List ℕ)) → TookPiece left left limit
nothing_taken limit left = record { piece = []; moved = nothing_in_front left; within = within limit }
  where
    within : (o : Option ℕ) → IfSome o (λ n. length {A = ℕ} [] ≤ n)
    within None = tt
    within (Some n) = omega arith

-- nothing is read where nothing is asked for
pub untouched : (name : List ℕ) (limit : Option ℕ) (s : ShelfShown) → TookUnder name limit s s
untouched name limit s = record { front = nothing_taken limit (s.left name); others_stay = λ other _. refl }

pub none_idle : {F : Type 0} (Gives : Outcome → List ℕ → Type 0) (seen : Seen) → Untouched seen → NoTextRun {F = F} Gives Memory seen
none_idle Gives seen same = record {
  says = tt;
  silent = λ _. ap (λ s. s.taken) same.out;
  write_faults = ap (λ s. s.faults) same.out;
  unasked = same.shelf;
}

module _ {F : Type 0} (limit : Option ℕ) (HasFault : List ℕ → F → Type 0) (seen : Seen) (same : Untouched seen) where
  pub one_idle : (Gives : List ℕ → Outcome → List ℕ → Type 0) (input : List ℕ) → OneTextRun limit Gives HasFault input Memory seen
  one_idle Gives input =
      let P : ShelfShown → Type 0 = λ s. TookUnder input limit s seen.shelf_after in
      let took = subst P same.shelf (untouched input limit seen.shelf_after) in
      record {
        says = tt;
        silent = λ _. ap (λ s. s.taken) same.out;
        read_faults = ap (λ s. s.faults input) same.shelf;
        write_faults = ap (λ s. s.faults) same.out;
        bounded = took.front;
        others_stay = took.others_stay;
      }

  pub two_idle : (IsFit : List ℕ → Type 0) (Gives : Texts → Outcome → List ℕ → Type 0) (input second : List ℕ) → TwoTextRun limit IsFit Gives HasFault input second Memory seen
  two_idle IsFit Gives input second =
      let P : ShelfShown → Type 0 = λ s. TookUnder input limit s seen.shelf_after in
      record {
        between = seen.shelf_after;
        says = tt;
        silent = λ _. ap (λ s. s.taken) same.out;
        read_faults = inl (λ name. ap (λ s. s.faults name) same.shelf, λ name. refl);
        write_faults = ap (λ s. s.faults) same.out;
        first_taken = subst P same.shelf (untouched input limit seen.shelf_after);
        second_taken = untouched second None seen.shelf_after;
      }
