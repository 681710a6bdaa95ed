-- The texts that were read are those that are told.
use Rattle.std.proofs.Common.{◌≡◌, ◌≢◌, ◌⊎◌, ℕ, ◌+◌, ◌++◌, List, [], Option, Some, None, sym, ap, ◌∙◌, inl, inr}
use Rattle.std.proofs.lemmas.List.{append-nil}
use Rattle.text_modes.specs.Seen.{ShelfShown, Seen}
use Rattle.text_modes.specs.Promises.{ReadWhole, ToldUnder}
use Rattle.text_modes.specs.TwoTexts.{Texts, ReadBoth, ToldBoth}

-- what was read whole is what was told
told-whole : (text t : List ℕ) (before after : Option (List ℕ)) → before ≡ Some text → ReadWhole before after t → t ≡ text
told-whole text t before None e r = let c = sym e ∙ r.moved in cc
told-whole text t before (Some rest) e r =
    let c : Some text ≡ Some (t ++ rest) = sym e ∙ r.moved in
    let d : text ≡ t ++ rest = cc in
    sym (append-nil t) ∙ ap (λ l. t ++ l) (sym r.whole) ∙ sym d

-- nothing is left behind what was told and read whole
nothing-behind : (before after : Option (List ℕ)) (text t : List ℕ) → before ≡ Some text → ReadWhole before after t → after ≡ Some []
nothing-behind before None text t e read = absurd (let c = sym e ∙ read.moved in cc)
nothing-behind before (Some rest) text t e read = ap Some read.whole

module _ (input second : List ℕ) (limit : Option ℕ) (seen : Seen) (between : ShelfShown) (stays : (other : List ℕ) → other ≢ input → between.left other ≡ seen.shelf_before.left other) where
  pub texts_same : (texts told : Texts) → ToldBoth input second seen told → ReadBoth input second limit between seen texts → texts ≡ told
  texts_same texts told h r =
      let first : texts.first ≡ told.first = told-whole told.first texts.first (seen.shelf_before.left input) (between.left input) h.first_told r.first_read.read in
      let later : texts.second ≡ told.second = by h.second_told in
      λ i. record { first = first i; second = later i }
    where
      by : ((second ≡ input) × (told.second ≡ [])) ⊎ ((second ≢ input) × ToldUnder second seen told.second) → texts.second ≡ told.second
      by (inl p) =
          let empty : between.left second ≡ Some [] =
          ap between.left p.0 ∙ nothing-behind (seen.shelf_before.left input) (between.left input) told.first texts.first h.first_told r.first_read.read in
          told-whole [] texts.second (between.left second) (seen.shelf_after.left second) empty r.second_read ∙ sym p.1
      by (inr p) = told-whole told.second texts.second (between.left second) (seen.shelf_after.left second) (stays second p.0 ∙ p.1) r.second_read
