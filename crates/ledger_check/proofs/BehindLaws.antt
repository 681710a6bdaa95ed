-- What the lines behind the values say.
use Rattle.std.proofs.Common.{◌≡◌, ℕ, ◌+◌, ◌<◌, Bool, true, false, List, [], ◌∷◌, ◌++◌, get_or, codes, Option, None, Some, refl, sym, ap, ◌∙◌, arith}
use Rattle.std.specs.List.{list_all}
use Rattle.std.specs.Char.{is_ascii_digit}
use Rattle.std.specs.Fmt.{decimal}
use Rattle.std.proofs.lemmas.Bool.{true≢false, false≢true, and_parts}
use Rattle.bee_text.specs.Words.{IsWord}
use Rattle.bee_text.proofs.NumberLemmas.{decimal_digits, decimal_word}
use Rattle.model_meaning.specs.declared.model.Model.{Model}
use Rattle.ledger_text.specs.declared.line.Line.{Line}
use Rattle.ledger_text.specs.declared.line.Line.TheVariants.{Equate, Split, Encode}
use Rattle.ledger_text.specs.Steps.{step_text, IsReadableStep}
use Rattle.proof_check.specs.declared.line.ProofLine.{ProofLine}
use Rattle.proof_check.specs.declared.line.ProofLine.TheVariants.{Add, Delete}
use Rattle.proof_check.specs.Lines.{line_bytes, IsReadable, AreBytesOf}
use Rattle.answer_document.specs.Verdicts.{is_certified}
use Rattle.ledger_check.specs.declared.part.Part.TheVariants as part
use Rattle.ledger_check.specs.declared.fault.Why.{Why}
use Rattle.ledger_check.specs.declared.fault.Why.TheVariants.{Shape}
use Rattle.ledger_check.specs.Items.{Item, Value, LedgerBegins, Step, ProofBegins, Derived, SecondBegins, End, Standing, item_line, MayStandIn, IsNameLeft, may_have_second, must_have_second}
use Rattle.ledger_check.specs.Tests.{taken_in}
use Rattle.ledger_check.specs.Taken.{Took, Takes}
use Rattle.ledger_check.proofs.Takings.{nothing-said, said}

some-same : {A : Type 0} (x y : A) → ◌≡◌ {A = Option A} (Some x) (Some y) → x ≡ y
some-same x y e = cc

none-some : {A : Type 0} (x : A) → ◌≡◌ {A = Option A} None (Some x) → ⊥
none-some x e = cc

other-byte : (a b : ℕ) → a < b → a ≡ b → ⊥
other-byte a b less e = omega arith

abbrev first_byte : List ℕ → ℕ
first_byte w = get_or w 0 0

-- a step is spelled by its own words
step-proof : (l : Line) → codes "proof" ≡ step_text l → ⊥
step-proof (Equate id e) is = other-byte 101 112 (omega arith) (sym (ap first_byte is))
step-proof (Split id) is = other-byte 112 115 (omega arith) (ap first_byte is)
step-proof (Encode id) is = other-byte 101 112 (omega arith) (sym (ap first_byte is))

-- a line of a derivation begins with a digit
digit-first : (w behind : List ℕ) → IsWord w → list_all is_ascii_digit w ≡ true → is_ascii_digit (get_or (w ++ behind) 0 0) ≡ true
digit-first [] behind word digits = absurd (false≢true word)
digit-first (b ∷ w) behind word digits = (and_parts (is_ascii_digit b) (list_all is_ascii_digit w) digits).0

line-digit : (l : ProofLine) → IsReadable l → is_ascii_digit (get_or (line_bytes l) 0 0) ≡ true
line-digit (Add id lits hints) h = digit-first (decimal id) _ (decimal_word id (omega (arith, h.0.1))) (decimal_digits id (omega (arith, h.0.1)))
line-digit (Delete at ids) h = digit-first (decimal at) _ (decimal_word at (omega (arith, h.0))) (decimal_digits at (omega (arith, h.0)))

line-second : (l : ProofLine) → IsReadable l → codes "second" ≡ line_bytes l → ⊥
line-second l h is = false≢true (ap (λ w. is_ascii_digit (get_or w 0 0)) is ∙ line-digit l h)

line-end : (l : ProofLine) → IsReadable l → codes "end" ≡ line_bytes l → ⊥
line-end l h is = false≢true (ap (λ w. is_ascii_digit (get_or w 0 0)) is ∙ line-digit l h)

second-end : codes "second" ≡ codes "end" → ⊥
second-end e = other-byte 101 115 (omega arith) (sym (ap first_byte e))

both-ways : (b : Bool) → b ≡ true → b ≡ false → ⊥
both-ways b e f = true≢false (sym e ∙ f)

module _ (model : Model) (s : Standing) (line : List ℕ) (t : Standing) where
  -- behind the last value
  module _ (here : s.part ≡ part.Values) (left : IsNameLeft model s.values → ⊥) where
    pub values-ledger : (o : Option Why) → is_certified s.verdict ≡ true → line ≡ codes "ledger" → Took (taken_in model s part.Values LedgerBegins) t o → Takes model s line t o
    values-ledger o certified is took = said model s line t part.Values here LedgerBegins (left, certified) is alone o took
      where
        alone : (item : Item) → MayStandIn model s part.Values item → line ≡ item_line model s item → item ≡ LedgerBegins
        alone (Value told) may spelled = absurd (left may.0)
        alone LedgerBegins may spelled = refl
        alone End may spelled = absurd (both-ways (is_certified s.verdict) certified may.1)
        alone item may spelled = absurd may

    pub no-ledger : is_certified s.verdict ≡ true → (line ≡ codes "ledger" → ⊥) → Takes model s line t (Some Shape)
    no-ledger certified other = nothing-said model s line t part.Values here none
      where
        none : (item : Item) → MayStandIn model s part.Values item → line ≡ item_line model s item → ⊥
        none (Value told) may is = left may.0
        none LedgerBegins may is = other is
        none End may is = both-ways (is_certified s.verdict) certified may.1
        none item may is = may

    pub values-end : (o : Option Why) → is_certified s.verdict ≡ false → line ≡ codes "end" → Took (taken_in model s part.Values End) t o → Takes model s line t o
    values-end o certified is took = said model s line t part.Values here End (left, certified) is alone o took
      where
        alone : (item : Item) → MayStandIn model s part.Values item → line ≡ item_line model s item → item ≡ End
        alone (Value told) may spelled = absurd (left may.0)
        alone LedgerBegins may spelled = absurd (both-ways (is_certified s.verdict) may.1 certified)
        alone End may spelled = refl
        alone item may spelled = absurd may

    pub no-end : is_certified s.verdict ≡ false → (line ≡ codes "end" → ⊥) → Takes model s line t (Some Shape)
    no-end certified other = nothing-said model s line t part.Values here none
      where
        none : (item : Item) → MayStandIn model s part.Values item → line ≡ item_line model s item → ⊥
        none (Value told) may is = left may.0
        none LedgerBegins may is = both-ways (is_certified s.verdict) may.1 certified
        none End may is = other is
        none item may is = may

  -- the ledger
  module _ (here : s.part ≡ part.Ledger) where
    pub ledger-proof : (o : Option Why) → line ≡ codes "proof" → Took (taken_in model s part.Ledger ProofBegins) t o → Takes model s line t o
    ledger-proof o is took = said model s line t part.Ledger here ProofBegins tt is alone o took
      where
        alone : (item : Item) → MayStandIn model s part.Ledger item → line ≡ item_line model s item → item ≡ ProofBegins
        alone (Step l) may spelled = absurd (step-proof l (sym is ∙ spelled))
        alone ProofBegins may spelled = refl
        alone item may spelled = absurd may

    pub no-step : (line ≡ codes "proof" → ⊥) → ((l : Line) → IsReadableStep l → line ≡ step_text l → None ≡ Some l) → Takes model s line t (Some Shape)
    no-step other complete = nothing-said model s line t part.Ledger here none
      where
        none : (item : Item) → MayStandIn model s part.Ledger item → line ≡ item_line model s item → ⊥
        none (Step l) may is = none-some l (complete l may is)
        none ProofBegins may is = other is
        none item may is = may

    pub a-step : (l : Line) (o : Option Why) → IsReadableStep l → line ≡ step_text l → ((k : Line) → IsReadableStep k → line ≡ step_text k → Some l ≡ Some k)
        → Took (taken_in model s part.Ledger (Step l)) t o → Takes model s line t o
    a-step l o may is complete took = said model s line t part.Ledger here (Step l) may is alone o took
      where
        alone : (item : Item) → MayStandIn model s part.Ledger item → line ≡ item_line model s item → item ≡ Step l
        alone (Step k) may spelled = ap Step (sym (some-same l k (complete k may spelled)))
        alone ProofBegins may spelled = absurd (step-proof l (sym spelled ∙ is))
        alone item may spelled = absurd may

  -- the derivation
  module _ (here : s.part ≡ part.Proof) where
    pub a-line : (l : ProofLine) (o : Option Why) → AreBytesOf l line → ((k : ProofLine) → AreBytesOf k line → l ≡ k) → Took (taken_in model s part.Proof (Derived l)) t o → Takes model s line t o
    a-line l o bytes complete took = said model s line t part.Proof here (Derived l) bytes.0 bytes.1 alone o took
      where
        alone : (item : Item) → MayStandIn model s part.Proof item → line ≡ item_line model s item → item ≡ Derived l
        alone (Derived k) may spelled = ap Derived (sym (complete k (may, spelled)))
        alone SecondBegins may spelled = absurd (line-second l bytes.0 (sym spelled ∙ bytes.1))
        alone End may spelled = absurd (line-end l bytes.0 (sym spelled ∙ bytes.1))
        alone item may spelled = absurd may

    module _ (other : (l : ProofLine) → AreBytesOf l line → ⊥) where
      pub proof-second : (o : Option Why) → may_have_second s.verdict ≡ true → line ≡ codes "second" → Took (taken_in model s part.Proof SecondBegins) t o → Takes model s line t o
      proof-second o two is took = said model s line t part.Proof here SecondBegins two is alone o took
        where
          alone : (item : Item) → MayStandIn model s part.Proof item → line ≡ item_line model s item → item ≡ SecondBegins
          alone (Derived k) may spelled = absurd (other k (may, spelled))
          alone SecondBegins may spelled = refl
          alone End may spelled = absurd (second-end (sym is ∙ spelled))
          alone item may spelled = absurd may

      pub proof-end : (o : Option Why) → must_have_second s.verdict ≡ false → line ≡ codes "end" → Took (taken_in model s part.Proof End) t o → Takes model s line t o
      proof-end o two is took = said model s line t part.Proof here End two is alone o took
        where
          alone : (item : Item) → MayStandIn model s part.Proof item → line ≡ item_line model s item → item ≡ End
          alone (Derived k) may spelled = absurd (other k (may, spelled))
          alone SecondBegins may spelled = absurd (second-end (sym spelled ∙ is))
          alone End may spelled = refl
          alone item may spelled = absurd may

      -- nothing that may stand here, since each word that is said isn't this line or may not stand
      pub no-line : (may_have_second s.verdict ≡ true → line ≡ codes "second" → ⊥) → (must_have_second s.verdict ≡ false → line ≡ codes "end" → ⊥) → Takes model s line t (Some Shape)
      no-line second end = nothing-said model s line t part.Proof here none
        where
          none : (item : Item) → MayStandIn model s part.Proof item → line ≡ item_line model s item → ⊥
          none (Derived k) may is = other k (may, is)
          none SecondBegins may is = second may is
          none End may is = end may is
          none item may is = may

  -- the second derivation
  module _ (here : s.part ≡ part.Second) where
    pub a-second-line : (l : ProofLine) (o : Option Why) → AreBytesOf l line → ((k : ProofLine) → AreBytesOf k line → l ≡ k) → Took (taken_in model s part.Second (Derived l)) t o → Takes model s line t o
    a-second-line l o bytes complete took = said model s line t part.Second here (Derived l) bytes.0 bytes.1 alone o took
      where
        alone : (item : Item) → MayStandIn model s part.Second item → line ≡ item_line model s item → item ≡ Derived l
        alone (Derived k) may spelled = ap Derived (sym (complete k (may, spelled)))
        alone End may spelled = absurd (line-end l bytes.0 (sym spelled ∙ bytes.1))
        alone item may spelled = absurd may

    module _ (other : (l : ProofLine) → AreBytesOf l line → ⊥) where
      pub second-ends : (o : Option Why) → line ≡ codes "end" → Took (taken_in model s part.Second End) t o → Takes model s line t o
      second-ends o is took = said model s line t part.Second here End tt is alone o took
        where
          alone : (item : Item) → MayStandIn model s part.Second item → line ≡ item_line model s item → item ≡ End
          alone (Derived k) may spelled = absurd (other k (may, spelled))
          alone End may spelled = refl
          alone item may spelled = absurd may

      pub no-second-line : (line ≡ codes "end" → ⊥) → Takes model s line t (Some Shape)
      no-second-line end = nothing-said model s line t part.Second here none
        where
          none : (item : Item) → MayStandIn model s part.Second item → line ≡ item_line model s item → ⊥
          none (Derived k) may is = other k (may, is)
          none End may is = end is
          none item may is = may

  -- nothing stands behind the end
  pub nothing-behind : s.part ≡ part.End → Takes model s line t (Some Shape)
  nothing-behind here = nothing-said model s line t part.End here none
    where
      none : (item : Item) → MayStandIn model s part.End item → line ≡ item_line model s item → ⊥
      none item may is = may
