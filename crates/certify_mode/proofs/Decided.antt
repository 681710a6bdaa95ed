-- Told texts end in the answer exactly where the second one shows it.
use Rattle.std.proofs.Common.{◌≡◌, ◌≢◌, ◌⊎◌, ℕ, ◌+◌, ◌++◌, ◌^◌, ◌≤◌, List, [], Option, Some, None, refl, sym, ap, subst, ◌∙◌, inl, inr, ⊎_elim, arith}
use Rattle.std.proofs.lemmas.List.{append-nil}
use Rattle.text_modes.specs.Seen.{ShelfShown, Seen}
use Rattle.text_modes.specs.Promises.{ReadWhole, ToldUnder, Finishes}
use Rattle.text_modes.specs.TwoTexts.{Texts, ReadBoth, ToldBoth, EitherFailed, Says}
use Rattle.text_modes.specs.declared.ends.Outcome.{Outcome}
use Rattle.text_modes.specs.declared.ends.Outcome.TheVariants.{Done, Refused, Unknown}
use Rattle.text_modes.specs.declared.ends.End.{End}
use Rattle.text_modes.specs.declared.ends.End.TheVariants.{Wrote, Memory}
use Rattle.model_texts.specs.ModelTexts.{longest_text}
use Rattle.answer_document.specs.Valid.{numbers_given}
use Rattle.answer_import.specs.FindingLaws.{ShowsOrFails, FailsOnce}
use Rattle.certify_mode.specs.declared.fault.CertifyFault.{CertifyFault}
use Rattle.certify_mode.specs.declared.holding.HeldCompilation.{HeldCompilation}
use Rattle.certify_mode.specs.Holding.{HoldsCompiled, HasFault}
use Rattle.certify_mode.specs.Certified.{sought, TellsFinding, TellsRefusal, Gives}
use Rattle.certify_mode.specs.CertifyMode.{HasModel, IsDecided, DecidesBy, Decides}

-- what was read whole is what was told
told-whole : (text t : List ℕ) (before after : Option (List ℕ)) → before ≡ Some text → ReadWhole before after t → t ≡ text
told-whole text t before None e r = let c = sym e ∙ r.moved in cc
told-whole text t before (Some rest) e r =
    let c : Some text ≡ Some (t ++ rest) = sym e ∙ r.moved in
    let d : text ≡ t ++ rest = cc in
    sym (append-nil t) ∙ ap (λ l. t ++ l) (sym r.whole) ∙ sym d

-- nothing is left behind what was told and read whole
nothing-behind : (before after : Option (List ℕ)) (text t : List ℕ) → before ≡ Some text → ReadWhole before after t → after ≡ Some []
nothing-behind before None text t e read = absurd (let c = sym e ∙ read.moved in cc)
nothing-behind before (Some rest) text t e read = ap Some read.whole

module _ (either : ShowsOrFails) (once : FailsOnce) where
  -- by what is written
  module _ (held : HeldCompilation) (few : (sought held).cnf.vars ≤ 2 ^ 27) (text written : List ℕ) where
    shown-decided : TellsFinding held text written → IsDecided held text (Wrote Done)
    shown-decided h = record {
      shows = λ v given shows. refl;
      fails = λ line fails. absurd (either (sought held) few text h.verdict (numbers_given h.is.document.assignment) line h.is.shows fails);
    }

    refused-decided : (n : ℕ) → TellsRefusal held text written n → IsDecided held text (Wrote (Refused n))
    refused-decided n h = record {
      shows = λ v given shows. absurd (either (sought held) few text v given n shows h.fails);
      fails = λ line fails. ap (λ (k : ℕ). Wrote (Refused k)) (once (sought held) few text n line h.fails fails);
    }

  few-of : (text : List ℕ) (held : HeldCompilation) → HoldsCompiled text held → (sought held).cnf.vars ≤ 2 ^ 27
  few-of text held h = omega (arith, h.light.fits.vars)

  given-decided : (texts : Texts) (outcome : Outcome) (written : List ℕ) → Gives texts outcome written → DecidesBy texts (Wrote outcome)
  given-decided texts Done written h = record {
    held = h.held;
    holds = h.holds;
    decided = shown-decided h.held (few-of texts.first h.held h.holds) texts.second written h.tells;
  }
  given-decided texts (Refused n) written h = record {
    held = h.held;
    holds = h.holds;
    decided = refused-decided h.held (few-of texts.first h.held h.holds) texts.second written n h.tells;
  }
  given-decided texts (Unknown count) written h = absurd h

  module _ (input second : List ℕ) (seen : Seen) (between : ShelfShown) (stays : (other : List ℕ) → other ≢ input → between.left other ≡ seen.shelf_before.left other) where
    -- the texts that were read are those that are told
    texts-same : (texts told : Texts) → ToldBoth input second seen told → ReadBoth input second (Some (longest_text + 1)) between seen texts → texts ≡ told
    texts-same texts told h r =
        let first : texts.first ≡ told.first = told-whole told.first texts.first (seen.shelf_before.left input) (between.left input) h.first_told r.first_read.read in
        let later : texts.second ≡ told.second = by h.second_told in
        λ i. record { first = first i; second = later i }
      where
        by : ((second ≡ input) × (told.second ≡ [])) ⊎ ((second ≢ input) × ToldUnder second seen told.second) → texts.second ≡ told.second
        by (inl p) =
            let empty : between.left second ≡ Some [] =
            ap between.left p.0 ∙ nothing-behind (seen.shelf_before.left input) (between.left input) told.first texts.first h.first_told r.first_read.read in
            told-whole [] texts.second (between.left second) (seen.shelf_after.left second) empty r.second_read ∙ sym p.1
        by (inr p) = told-whole told.second texts.second (between.left second) (seen.shelf_after.left second) (stays second p.0 ∙ p.1) r.second_read

    written-decided : (texts : Texts) (outcome : Outcome) → ToldBoth input second seen texts
        → Says (Some (longest_text + 1)) HasModel Gives HasFault input second between (Wrote outcome) seen → DecidesBy texts (Wrote outcome)
    written-decided texts outcome told s =
        subst (λ (t : Texts). DecidesBy t (Wrote outcome)) (texts-same s.texts texts told s.read) (given-decided s.texts outcome s.written s.gives)

    pub decides : (end : End CertifyFault) → Says (Some (longest_text + 1)) HasModel Gives HasFault input second between end seen
        → Finishes (ToldBoth input second seen) (λ (texts : Texts). HasModel texts.first) (EitherFailed input second seen) end seen → Decides input second end seen
    decides end says done texts told is read write =
        ⊎_elim
        (λ (p : (outcome : Outcome) × (end ≡ Wrote outcome)).
        inl (subst (DecidesBy texts) (sym p.1)
        (written-decided texts p.0 told
        (subst (λ (e : End CertifyFault). Says (Some (longest_text + 1)) HasModel Gives HasFault input second between e seen) p.1 says))))
        (λ (wanting : end ≡ Memory). inr wanting) (done.complete texts told is read write)
