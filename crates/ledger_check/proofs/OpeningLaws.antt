-- What the lines up to the last value say.
use Rattle.std.proofs.Common.{◌≡◌, ℕ, ◌<◌, Bool, true, false, List, ◌++◌, get_or, length, codes, Option, None, Some, refl, sym, ap, ◌∙◌, subst, arith}
use Rattle.std.specs.Prelude.{slice_get, if◌then◌else◌}
use Rattle.model_meaning.specs.declared.model.Decl.{Decl}
use Rattle.model_meaning.specs.declared.model.Model.{Model}
use Rattle.answer_document.specs.Goals.{has_second}
use Rattle.answer_document.specs.declared.verdict.Bounds.{Bounds}
use Rattle.answer_document.specs.declared.verdict.Verdict.{Verdict}
use Rattle.answer_document.specs.Verdicts.{verdict_text}
use Rattle.answer_document.specs.DocumentText.{best_line}
use Rattle.ledger_check.specs.declared.part.Part.TheVariants as part
use Rattle.ledger_check.specs.declared.fault.Why.{Why}
use Rattle.ledger_check.specs.declared.fault.Why.TheVariants.{Shape}
use Rattle.ledger_check.specs.declared.told.Told.{Told}
use Rattle.ledger_check.specs.Items.{Item, Version, Answer, Best, Value, LedgerBegins, End, Standing, item_line, told_line, told_word, MayStandIn, HaveNumbers, IsVerdictLine, IsToldValue, IsNameLeft}
use Rattle.ledger_check.specs.Tests.{taken_in, with_value, told_of, told_number}
use Rattle.ledger_check.specs.Taken.{Took, Takes}
use Rattle.ledger_check.proofs.Takings.{nothing-said, said}

some-same : {A : Type 0} (x y : A) → ◌≡◌ {A = Option A} (Some x) (Some y) → x ≡ y
some-same x y e = cc

none-some : {A : Type 0} (x : A) → ◌≡◌ {A = Option A} None (Some x) → ⊥
none-some x e = cc

pub other-byte : (a b : ℕ) → a < b → a ≡ b → ⊥
other-byte a b less e = omega arith

abbrev pub first_byte : List ℕ → ℕ
first_byte w = get_or w 0 0

pub ledger-best : (b : Bounds) → codes "ledger" ≡ best_line b → ⊥
ledger-best b e = other-byte 98 108 (omega arith) (sym (ap first_byte e))

-- the two versions are spelled apart
pub version-two : (two : Bool) → codes "bee 2" ≡ (if two then codes "bee 2" else codes "bee 1") → two ≡ true
version-two true e = refl
version-two false e = absurd (other-byte 49 50 (omega arith) (sym (ap (λ w. get_or w 4 0) e)))

pub version-one : (two : Bool) → codes "bee 1" ≡ (if two then codes "bee 2" else codes "bee 1") → two ≡ false
version-one true e = absurd (other-byte 49 50 (omega arith) (ap (λ w. get_or w 4 0) e))
version-one false e = refl

pub version-none : (line : List ℕ) → (line ≡ codes "bee 2" → ⊥) → (line ≡ codes "bee 1" → ⊥) → (two : Bool) → line ≡ (if two then codes "bee 2" else codes "bee 1") → ⊥
version-none line a b true e = a e
version-none line a b false e = b e

module _ (model : Model) (s : Standing) (line : List ℕ) (t : Standing) where
  pub no-version : s.part ≡ part.Version → ((two : Bool) → line ≡ (if two then codes "bee 2" else codes "bee 1") → None ≡ Some two) → Takes model s line t (Some Shape)
  no-version here complete = nothing-said model s line t part.Version here none
    where
      none : (item : Item) → MayStandIn model s part.Version item → line ≡ item_line model s item → ⊥
      none (Version two) may is = none-some two (complete two is)
      none item may is = may

  pub a-version : (two : Bool) (o : Option Why) → s.part ≡ part.Version → line ≡ (if two then codes "bee 2" else codes "bee 1")
      → ((b : Bool) → line ≡ (if b then codes "bee 2" else codes "bee 1") → Some two ≡ Some b) → Took (taken_in model s part.Version (Version two)) t o → Takes model s line t o
  a-version two o here is complete took = said model s line t part.Version here (Version two) tt is alone o took
    where
      alone : (item : Item) → MayStandIn model s part.Version item → line ≡ item_line model s item → item ≡ Version two
      alone (Version b) may is = ap Version (sym (some-same two b (complete b is)))
      alone item may is = absurd may

  pub no-verdict : s.part ≡ part.Verdict → ((v : Verdict) → IsVerdictLine (has_second model.goal) v → line ≡ verdict_text v → None ≡ Some v) → Takes model s line t (Some Shape)
  no-verdict here complete = nothing-said model s line t part.Verdict here none
    where
      none : (item : Item) → MayStandIn model s part.Verdict item → line ≡ item_line model s item → ⊥
      none (Answer v) may is = none-some v (complete v may is)
      none item may is = may

  pub a-verdict : (v : Verdict) (o : Option Why) → s.part ≡ part.Verdict → IsVerdictLine (has_second model.goal) v → line ≡ verdict_text v
      → ((u : Verdict) → IsVerdictLine (has_second model.goal) u → line ≡ verdict_text u → Some v ≡ Some u) → Took (taken_in model s part.Verdict (Answer v)) t o → Takes model s line t o
  a-verdict v o here may is complete took = said model s line t part.Verdict here (Answer v) may is alone o took
    where
      alone : (item : Item) → MayStandIn model s part.Verdict item → line ≡ item_line model s item → item ≡ Answer v
      alone (Answer u) may is = ap Answer (sym (some-same v u (complete u may is)))
      alone item may is = absurd may

  pub best-ledger : s.part ≡ part.Best → line ≡ codes "ledger" → Took (taken_in model s part.Best LedgerBegins) t None → Takes model s line t None
  best-ledger here is took = said model s line t part.Best here LedgerBegins tt is alone None took
    where
      alone : (item : Item) → MayStandIn model s part.Best item → line ≡ item_line model s item → item ≡ LedgerBegins
      alone (Best b) may spelled = absurd (ledger-best b (sym is ∙ spelled))
      alone LedgerBegins may spelled = refl
      alone item may spelled = absurd may

  pub no-best : s.part ≡ part.Best → (line ≡ codes "ledger" → ⊥) → ((b : Bounds) → HaveNumbers (has_second model.goal) b → line ≡ best_line b → None ≡ Some b) → Takes model s line t (Some Shape)
  no-best here other complete = nothing-said model s line t part.Best here none
    where
      none : (item : Item) → MayStandIn model s part.Best item → line ≡ item_line model s item → ⊥
      none (Best b) may is = none-some b (complete b may is)
      none LedgerBegins may is = other is
      none item may is = may

  pub a-best : (b : Bounds) (o : Option Why) → s.part ≡ part.Best → HaveNumbers (has_second model.goal) b → line ≡ best_line b
      → ((c : Bounds) → HaveNumbers (has_second model.goal) c → line ≡ best_line c → Some b ≡ Some c) → Took (taken_in model s part.Best (Best b)) t o → Takes model s line t o
  a-best b o here may is complete took = said model s line t part.Best here (Best b) may is alone o took
    where
      alone : (item : Item) → MayStandIn model s part.Best item → line ≡ item_line model s item → item ≡ Best b
      alone (Best c) may spelled = ap Best (sym (some-same b c (complete c may spelled)))
      alone LedgerBegins may spelled = absurd (ledger-best b (sym spelled ∙ is))
      alone item may spelled = absurd may

  pub unanswered-ledger : s.part ≡ part.Unanswered → line ≡ codes "ledger" → Took (taken_in model s part.Unanswered LedgerBegins) t None → Takes model s line t None
  unanswered-ledger here is took = said model s line t part.Unanswered here LedgerBegins tt is alone None took
    where
      alone : (item : Item) → MayStandIn model s part.Unanswered item → line ≡ item_line model s item → item ≡ LedgerBegins
      alone LedgerBegins may spelled = refl
      alone item may spelled = absurd may

  pub no-unanswered : s.part ≡ part.Unanswered → (line ≡ codes "ledger" → ⊥) → Takes model s line t (Some Shape)
  no-unanswered here other = nothing-said model s line t part.Unanswered here none
    where
      none : (item : Item) → MayStandIn model s part.Unanswered item → line ≡ item_line model s item → ⊥
      none LedgerBegins may is = other is
      none item may is = may

  module _ (d : Decl) (turn : slice_get model.decls (length s.values) ≡ Some d) (here : s.part ≡ part.Values) (left : IsNameLeft model s.values) where
    told-is : (told : Told) → line ≡ item_line model s (Value told) → line ≡ d.name ++ (codes " = " ++ told_word told)
    told-is told is = is ∙ ap (λ x. told_line x told) turn

    pub no-value : ((told : Told) → IsToldValue told → line ≡ d.name ++ (codes " = " ++ told_word told) → None ≡ Some told) → Takes model s line t (Some Shape)
    no-value complete = nothing-said model s line t part.Values here none
      where
        none : (item : Item) → MayStandIn model s part.Values item → line ≡ item_line model s item → ⊥
        none (Value told) may is = none-some told (complete told may.1 (told-is told is))
        none LedgerBegins may is = may.0 left
        none End may is = may.0 left
        none item may is = may

    pub a-value : (told : Told) (o : Option Why) → IsToldValue told → line ≡ d.name ++ (codes " = " ++ told_word told)
        → ((other : Told) → IsToldValue other → line ≡ d.name ++ (codes " = " ++ told_word other) → Some told ≡ Some other)
        → Took (with_value s (told_number d.kind told)) t o → Takes model s line t o
    a-value told o form is complete took =
        said model s line t part.Values here (Value told) (left, form) (is ∙ sym (ap (λ x. told_line x told) turn)) alone o
        (subst (λ x. Took (with_value s (told_of x told)) t o) (sym turn) took)
      where
        alone : (item : Item) → MayStandIn model s part.Values item → line ≡ item_line model s item → item ≡ Value told
        alone (Value other) may spelled = ap Value (sym (some-same told other (complete other may.1 (told-is other spelled))))
        alone LedgerBegins may spelled = absurd (may.0 left)
        alone End may spelled = absurd (may.0 left)
        alone item may spelled = absurd may
