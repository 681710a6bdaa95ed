-- What each end of a run over two texts says decides which end told texts have.
use Rattle.std.proofs.Common.{◌≡◌, ◌≢◌, ◌⊎◌, ℕ, List, [], Option, Some, None, refl, sym, ap, subst, ◌∙◌, inl, inr}
use Rattle.text_modes.specs.Seen.{ShelfShown, Seen}
use Rattle.text_modes.specs.Ends.{IsFaultEnd}
use Rattle.text_modes.specs.Promises.{ReadWhole, ReadWithin, ToldUnder, ReadFailed, ReadFaulty, Answers, Finishes}
use Rattle.text_modes.specs.TwoTexts.{Texts, ReadBoth, ToldBoth, EitherFailed, Says}
use Rattle.text_modes.specs.declared.ends.Outcome.{Outcome}
use Rattle.text_modes.specs.declared.ends.End.{End}
use Rattle.text_modes.specs.declared.ends.End.TheVariants.{Wrote, Fault, Read, Write, Memory}
use Rattle.text_modes.proofs.Answering.{told_whole, OneEnd, met, never, failed, wanting}
use Rattle.text_modes.proofs.TwoFree as free

-- nothing is left behind what was told and read whole
nothing_behind : (before after : Option (List ℕ)) (text t : List ℕ) → before ≡ Some text → ReadWhole before after t → after ≡ Some []
nothing_behind before None text t e read = absurd (let c = sym e ∙ read.moved in cc)
nothing_behind before (Some rest) text t e read = ap Some read.whole

-- Where the first text has one fault, and none where it is fit, and two texts of which the first is fit have one end, by which the text
-- that is given for them ends a run, the end of told texts comes.
module _ {F : Type 0} (limit : Option ℕ) (IsFit : List ℕ → Type 0) (Gives : Texts → Outcome → List ℕ → Type 0) (HasFault : List ℕ → F → Type 0) (HaveEnd : Texts → End F → Type 0)
    (fit_or_fault : (text : List ℕ) (fault : F) → IsFit text → HasFault text fault → ⊥) (one_fault : (text : List ℕ) (f g : F) → HasFault text f → HasFault text g → f ≡ g)
    (given : (texts : Texts) (outcome : Outcome) (written : List ℕ) → Gives texts outcome written → IsFit texts.first × HaveEnd texts (Wrote outcome))
    (fit : (texts : Texts) (end : End F) → HaveEnd texts end → IsFit texts.first) (one : OneEnd HaveEnd) (input second : List ℕ) (seen : Seen) where
  fit_given : (texts : Texts) (outcome : Outcome) (written : List ℕ) → Gives texts outcome written → IsFit texts.first
  fit_given texts outcome written gives = (given texts outcome written gives).0

  first_same : (between : ShelfShown) (text t : List ℕ) → ToldUnder input seen text → ReadWithin input limit seen.shelf_before between t → t ≡ text
  first_same = free.first_same limit IsFit Gives HasFault fit_or_fault one_fault fit_given input second seen

  told_fault : (between : ShelfShown) (text : List ℕ) (fault : F) → ToldUnder input seen text → ReadFaulty input limit seen.shelf_before between HasFault fault → HasFault text fault
  told_fault = free.told_fault limit IsFit Gives HasFault fit_or_fault one_fault fit_given input second seen

  -- the end of a first text that has a fault
  pub faulty : (between : ShelfShown) (end : End F) → Says limit IsFit Gives HasFault input second between end seen
      → Answers (ToldUnder input seen) (IsFaultEnd HasFault) (ReadFailed input seen) end seen
  faulty = free.faulty limit IsFit Gives HasFault fit_or_fault one_fault fit_given input second seen

  -- told texts of which the first is fit end by a text
  pub finishes : (between : ShelfShown) (end : End F) → Says limit IsFit Gives HasFault input second between end seen
      → Finishes (ToldBoth input second seen) (λ texts. IsFit texts.first) (EitherFailed input second seen) end seen
  finishes = free.finishes limit IsFit Gives HasFault fit_or_fault one_fault fit_given input second seen

  -- the end of two texts

  abbrev Promised : End F → Type 0
  Promised end = Answers (ToldBoth input second seen) HaveEnd (EitherFailed input second seen) end seen

  module _ (between : ShelfShown) (stays : (other : List ℕ) → other ≢ input → between.left other ≡ seen.shelf_before.left other) where
    texts_same : (texts told : Texts) → ToldBoth input second seen told → ReadBoth input second limit between seen texts → texts ≡ told
    texts_same texts told h r =
        let first : texts.first ≡ told.first = first_same between told.first texts.first h.first_told r.first_read in
        let later : texts.second ≡ told.second = by h.second_told in
        λ i. record { first = first i; second = later i }
      where
        by : ((second ≡ input) × (told.second ≡ [])) ⊎ ((second ≢ input) × ToldUnder second seen told.second) → texts.second ≡ told.second
        by (inl p) =
            let empty : between.left second ≡ Some [] =
            ap between.left p.0 ∙ nothing_behind (seen.shelf_before.left input) (between.left input) told.first texts.first h.first_told r.first_read.read in
            told_whole [] texts.second (between.left second) (seen.shelf_after.left second) empty r.second_read ∙ sym p.1
        by (inr p) = told_whole told.second texts.second (between.left second) (seen.shelf_after.left second) (stays second p.0 ∙ p.1) r.second_read

    told_end : (texts told : Texts) (outcome : Outcome) (written : List ℕ) → ToldBoth input second seen told → ReadBoth input second limit between seen texts → Gives texts outcome written
        → HaveEnd told (Wrote outcome)
    told_end texts told outcome written h r gives = subst (λ (x : Texts). HaveEnd x (Wrote outcome)) (texts_same texts told h r) (given texts outcome written gives).1

    pub answers : (end : End F) → Says limit IsFit Gives HasFault input second between end seen → Promised end
    answers (Wrote outcome) s =
        met (ToldBoth input second seen) HaveEnd (EitherFailed input second seen) (Wrote outcome) seen one
        (λ told h. (Wrote outcome, told_end s.texts told outcome s.written h s.read s.gives, inl refl))
    answers (Fault fault) s =
        never (ToldBoth input second seen) HaveEnd (EitherFailed input second seen) (Fault fault) seen
        (λ told answer h has. fit_or_fault told.first fault (fit told answer has) (told_fault between told.first fault h.first_told s.faulty))
    answers Read (inl s) = failed (ToldBoth input second seen) HaveEnd (EitherFailed input second seen) Read seen (inl s)
    answers Read (inr s) = failed (ToldBoth input second seen) HaveEnd (EitherFailed input second seen) Read seen (inr s.failed)
    answers Write s =
        met (ToldBoth input second seen) HaveEnd (EitherFailed input second seen) Write seen one
        (λ told h. (Wrote s.0.gives.0, told_end s.0.texts told s.0.gives.0 s.0.written h s.0.read s.0.gives.1, inr (λ quiet. quiet, s.1)))
    answers Memory s = wanting (ToldBoth input second seen) HaveEnd (EitherFailed input second seen) seen
