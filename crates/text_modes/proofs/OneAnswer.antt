-- What each end of a run over one text says decides which end a told text has.
use Rattle.std.proofs.Common.{◌≡◌, ℕ, List, Option, refl, subst, inl, inr}
use Rattle.text_modes.specs.Seen.{Seen}
use Rattle.text_modes.specs.Promises.{ReadWithin, ToldUnder, ReadFailed, ReadFaulty, Answers}
use Rattle.text_modes.specs.OneText.{Says}
use Rattle.text_modes.specs.declared.ends.Outcome.{Outcome}
use Rattle.text_modes.specs.declared.ends.End.{End}
use Rattle.text_modes.specs.declared.ends.End.TheVariants.{Wrote, Fault, Read, Write, Memory}
use Rattle.text_modes.proofs.Answering.{told_whole, told_front, OneEnd, met, failed, wanting}

-- a text that was read and is told is the one told
pub told_same : (input : List ℕ) (limit : Option ℕ) (seen : Seen) (text t : List ℕ) → ToldUnder input seen text → ReadWithin input limit seen.shelf_before seen.shelf_after t → t ≡ text
told_same input limit seen text t told r = told_whole text t (seen.shelf_before.left input) (seen.shelf_after.left input) told r.read

-- Where texts have one end, which is the one by which the text that is given for them, or their fault, ends a run, a told text's end comes.
module _ {F : Type 0} (limit : Option ℕ) (Gives : List ℕ → Outcome → List ℕ → Type 0) (HasFault : List ℕ → F → Type 0) (HasEnd : List ℕ → End F → Type 0) (one : OneEnd HasEnd)
    (given : (text : List ℕ) (outcome : Outcome) (written : List ℕ) → Gives text outcome written → HasEnd text (Wrote outcome)) (had : (text : List ℕ) (fault : F) → HasFault text fault → HasEnd text (Fault fault))
    (input : List ℕ) (seen : Seen) where
  abbrev Promised : End F → Type 0
  Promised end = Answers (ToldUnder input seen) HasEnd (ReadFailed input seen) end seen

  faulty : (fault : F) → ReadFaulty input limit seen.shelf_before seen.shelf_after HasFault fault → Promised (Fault fault)
  faulty fault (inl s) =
      met (ToldUnder input seen) HasEnd (ReadFailed input seen) (Fault fault) seen one
      (λ text told. (Fault fault, had text fault (s.has text (told_front text s.text (seen.shelf_before.left input) (seen.shelf_after.left input) told s.moved)), inl refl))
  faulty fault (inr s) =
      met (ToldUnder input seen) HasEnd (ReadFailed input seen) (Fault fault) seen one
      (λ text told. (Fault fault, subst (λ (t : List ℕ). HasEnd t (Fault fault)) (told_same input limit seen text s.text told s.read) (had s.text fault s.has), inl refl))

  pub answers : (end : End F) → Says limit Gives HasFault input end seen → Promised end
  answers (Wrote outcome) s =
      met (ToldUnder input seen) HasEnd (ReadFailed input seen) (Wrote outcome) seen one
      (λ text told. (Wrote outcome, subst (λ (t : List ℕ). HasEnd t (Wrote outcome)) (told_same input limit seen text s.texts told s.read) (given s.texts outcome s.written s.gives), inl refl))
  answers (Fault fault) s = faulty fault s
  answers Read s = failed (ToldUnder input seen) HasEnd (ReadFailed input seen) Read seen s
  answers Write s =
      let end : End F = Wrote s.0.gives.0 in
      met (ToldUnder input seen) HasEnd (ReadFailed input seen) Write seen one
      (λ text told. (end, subst (λ (t : List ℕ). HasEnd t end) (told_same input limit seen text s.0.texts told s.0.read) (given s.0.texts s.0.gives.0 s.0.written s.0.gives.1), inr (λ quiet. quiet, s.1)))
  answers Memory s = wanting (ToldUnder input seen) HasEnd (ReadFailed input seen) seen
