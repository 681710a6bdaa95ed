-- What each end of a run over two texts says decides which fault a told first text has, and that two texts end in a text where the first is fit.
use Rattle.std.proofs.Common.{◌≡◌, ℕ, List, Option, refl, sym, ap, subst, ◌∙◌, inl, inr}
use Rattle.text_modes.specs.Seen.{ShelfShown, Seen}
use Rattle.text_modes.specs.Ends.{IsFaultEnd}
use Rattle.text_modes.specs.Promises.{ReadWithin, ToldUnder, ReadFailed, ReadFaulty, Answers, Finishes}
use Rattle.text_modes.specs.TwoTexts.{Texts, ToldBoth, EitherFailed, Says}
use Rattle.text_modes.specs.declared.ends.Outcome.{Outcome}
use Rattle.text_modes.specs.declared.ends.End.{End}
use Rattle.text_modes.specs.declared.ends.End.TheVariants.{Wrote, Fault, Read, Write, Memory}
use Rattle.text_modes.proofs.Answering.{told_whole, told_front, OneEnd, met, never, failed, wanting}

-- Where the first text has one fault, and none where it is fit, as it is where a text is given for two.
module _ {F : Type 0} (limit : Option ℕ) (IsFit : List ℕ → Type 0) (Gives : Texts → Outcome → List ℕ → Type 0) (HasFault : List ℕ → F → Type 0)
    (fit_or_fault : (text : List ℕ) (fault : F) → IsFit text → HasFault text fault → ⊥) (one_fault : (text : List ℕ) (f g : F) → HasFault text f → HasFault text g → f ≡ g)
    (fit : (texts : Texts) (outcome : Outcome) (written : List ℕ) → Gives texts outcome written → IsFit texts.first) (input second : List ℕ) (seen : Seen) where
  is_fault : (text : List ℕ) (end : End F) → IsFaultEnd HasFault text end → (fault : F) × HasFault text fault × (end ≡ Fault fault)
  is_fault text (Fault fault) h = (fault, h, refl)
  is_fault text end h = absurd h

  one_faulty : OneEnd (IsFaultEnd HasFault)
  one_faulty text a b h k =
      let p = is_fault text a h in
      let q = is_fault text b k in
      p.2 ∙ ap Fault (one_fault text p.0 q.0 p.1 q.1) ∙ sym q.2

  pub first_same : (between : ShelfShown) (text t : List ℕ) → ToldUnder input seen text → ReadWithin input limit seen.shelf_before between t → t ≡ text
  first_same between text t told r = told_whole text t (seen.shelf_before.left input) (between.left input) told r.read

  -- a told first text has the fault that was found
  pub told_fault : (between : ShelfShown) (text : List ℕ) (fault : F) → ToldUnder input seen text → ReadFaulty input limit seen.shelf_before between HasFault fault → HasFault text fault
  told_fault between text fault told (inl s) = s.has text (told_front text s.text (seen.shelf_before.left input) (between.left input) told s.moved)
  told_fault between text fault told (inr s) = subst (λ (t : List ℕ). HasFault t fault) (first_same between text s.text told s.read) s.has

  abbrev Faulty : End F → Type 0
  Faulty end = Answers (ToldUnder input seen) (IsFaultEnd HasFault) (ReadFailed input seen) end seen

  faultless : (end : End F) (between : ShelfShown) (t : List ℕ) → ReadWithin input limit seen.shelf_before between t → IsFit t → Faulty end
  faultless end between t read is =
      never (ToldUnder input seen) (IsFaultEnd HasFault) (ReadFailed input seen) end seen
      (λ text answer told has. (let f = is_fault text answer has in fit_or_fault text f.0 (subst IsFit (first_same between text t told read) is) f.1))

  -- a told first text with a fault ends by it
  pub faulty : (between : ShelfShown) (end : End F) → Says limit IsFit Gives HasFault input second between end seen → Faulty end
  faulty between (Wrote outcome) s = faultless (Wrote outcome) between s.texts.first s.read.first_read (fit s.texts outcome s.written s.gives)
  faulty between (Fault fault) s =
      met (ToldUnder input seen) (IsFaultEnd HasFault) (ReadFailed input seen) (Fault fault) seen one_faulty
      (λ text told. (Fault fault, told_fault between text fault told s.faulty, inl refl))
  faulty between Read (inl s) = failed (ToldUnder input seen) (IsFaultEnd HasFault) (ReadFailed input seen) Read seen s
  faulty between Read (inr s) = faultless Read between s.text s.read s.fit
  faulty between Write s = faultless Write between s.0.texts.first s.0.read.first_read (fit s.0.texts s.0.gives.0 s.0.written s.0.gives.1)
  faulty between Memory s = wanting (ToldUnder input seen) (IsFaultEnd HasFault) (ReadFailed input seen) seen

  -- told texts of which the first is fit end by a text
  pub finishes : (between : ShelfShown) (end : End F) → Says limit IsFit Gives HasFault input second between end seen
      → Finishes (ToldBoth input second seen) (λ texts. IsFit texts.first) (EitherFailed input second seen) end seen
  finishes between (Wrote outcome) s = record { complete = λ texts told is read write. inl (outcome, refl) }
  finishes between (Fault fault) s =
      record { complete = λ texts told is read write. absurd (fit_or_fault texts.first fault is (told_fault between texts.first fault told.first_told s.faulty)) }
  finishes between Read (inl s) = record { complete = λ texts told is read write. absurd (read (inl s)) }
  finishes between Read (inr s) = record { complete = λ texts told is read write. absurd (read (inr s.failed)) }
  finishes between Write s = record { complete = λ texts told is read write. absurd (write s.1) }
  finishes between Memory s = record { complete = λ texts told is read write. inr refl }
