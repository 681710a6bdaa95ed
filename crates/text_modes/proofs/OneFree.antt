-- What each end of a run over one text says decides which fault a told text has, and that one that is fit ends in a text.
use Rattle.std.proofs.Common.{◌≡◌, ℕ, List, Option, refl, sym, ap, subst, ◌∙◌, inl, inr}
use Rattle.text_modes.specs.Seen.{Seen}
use Rattle.text_modes.specs.Ends.{IsFaultEnd}
use Rattle.text_modes.specs.Promises.{ReadWithin, ToldUnder, ReadFailed, ReadFaulty, Answers, Finishes}
use Rattle.text_modes.specs.OneText.{Says}
use Rattle.text_modes.specs.declared.ends.Outcome.{Outcome}
use Rattle.text_modes.specs.declared.ends.End.{End}
use Rattle.text_modes.specs.declared.ends.End.TheVariants.{Wrote, Fault, Read, Write, Memory}
use Rattle.text_modes.proofs.Answering.{told_front, OneEnd, met, never, failed, wanting}
use Rattle.text_modes.proofs.OneAnswer.{told_same}

-- Where a text that has a text given for it is fit, and one that is fit has no fault.
module _ {F : Type 0} (limit : Option ℕ) (Gives : List ℕ → Outcome → List ℕ → Type 0) (HasFault : List ℕ → F → Type 0) (IsFit : List ℕ → Type 0)
    (fit : (text : List ℕ) (outcome : Outcome) (written : List ℕ) → Gives text outcome written → IsFit text) (fit_or_fault : (text : List ℕ) (fault : F) → IsFit text → HasFault text fault → ⊥)
    (one_fault : (text : List ℕ) (f g : F) → HasFault text f → HasFault text g → f ≡ g) (input : List ℕ) (seen : Seen) where
  is_fault : (text : List ℕ) (end : End F) → IsFaultEnd HasFault text end → (fault : F) × HasFault text fault × (end ≡ Fault fault)
  is_fault text (Fault fault) h = (fault, h, refl)
  is_fault text end h = absurd h

  one_faulty : OneEnd (IsFaultEnd HasFault)
  one_faulty text a b h k =
      let p = is_fault text a h in
      let q = is_fault text b k in
      p.2 ∙ ap Fault (one_fault text p.0 q.0 p.1 q.1) ∙ sym q.2

  -- a told text has the fault that was found
  told_fault : (text : List ℕ) (fault : F) → ToldUnder input seen text → ReadFaulty input limit seen.shelf_before seen.shelf_after HasFault fault → HasFault text fault
  told_fault text fault told (inl s) = s.has text (told_front text s.text (seen.shelf_before.left input) (seen.shelf_after.left input) told s.moved)
  told_fault text fault told (inr s) = subst (λ (t : List ℕ). HasFault t fault) (told_same input limit seen text s.text told s.read) s.has

  abbrev Faulty : End F → Type 0
  Faulty end = Answers (ToldUnder input seen) (IsFaultEnd HasFault) (ReadFailed input seen) end seen

  faultless : (end : End F) (t : List ℕ) → ReadWithin input limit seen.shelf_before seen.shelf_after t → IsFit t → Faulty end
  faultless end t read is =
      never (ToldUnder input seen) (IsFaultEnd HasFault) (ReadFailed input seen) end seen
      (λ text answer told has. (let f = is_fault text answer has in fit_or_fault text f.0 (subst IsFit (told_same input limit seen text t told read) is) f.1))

  -- a told text with a fault ends by it
  pub faulty : (end : End F) → Says limit Gives HasFault input end seen → Faulty end
  faulty (Wrote outcome) s = faultless (Wrote outcome) s.texts s.read (fit s.texts outcome s.written s.gives)
  faulty (Fault fault) s =
      met (ToldUnder input seen) (IsFaultEnd HasFault) (ReadFailed input seen) (Fault fault) seen one_faulty
      (λ text told. (Fault fault, told_fault text fault told s, inl refl))
  faulty Read s = failed (ToldUnder input seen) (IsFaultEnd HasFault) (ReadFailed input seen) Read seen s
  faulty Write s = faultless Write s.0.texts s.0.read (fit s.0.texts s.0.gives.0 s.0.written s.0.gives.1)
  faulty Memory s = wanting (ToldUnder input seen) (IsFaultEnd HasFault) (ReadFailed input seen) seen

  -- a told text that is fit ends by a text
  pub finishes : (end : End F) → Says limit Gives HasFault input end seen → Finishes (ToldUnder input seen) IsFit (ReadFailed input seen) end seen
  finishes (Wrote outcome) s = record { complete = λ text told is read write. inl (outcome, refl) }
  finishes (Fault fault) s = record { complete = λ text told is read write. absurd (fit_or_fault text fault is (told_fault text fault told s)) }
  finishes Read s = record { complete = λ text told is read write. absurd (read s) }
  finishes Write s = record { complete = λ text told is read write. absurd (write s.1) }
  finishes Memory s = record { complete = λ text told is read write. inr refl }
