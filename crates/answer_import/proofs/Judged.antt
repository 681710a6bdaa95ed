-- What a text comes to, from what its parts come to.
use Rattle.std.proofs.Common.{◌≡◌, ℕ, ◌+◌, Bool, true, false, List, [], ◌∷◌, ◌++◌, Option, Some, refl, sym, ap, subst, ◌∙◌, inl, inr}
use Rattle.bee_text.specs.Lines.{join_lines}
use Rattle.order_ints.specs.Numbers.{numbers_of}
use Rattle.order_ints.specs.Truth.{valuation_of}
use Rattle.model_meaning.specs.declared.model.Assignment.{Assignment}
use Rattle.model_meaning.specs.declared.model.Goal.{Goal}
use Rattle.model_meaning.specs.declared.model.Goal.TheVariants.{Satisfy, Minimize, Maximize}
use Rattle.dimacs_read.specs.Values.{IsValues, ValuesFail}
use Rattle.answer_document.specs.Valid.{numbers_given}
use Rattle.answer_import.specs.declared.cut.Front.{Front}
use Rattle.answer_import.specs.declared.judging.Found.{Found}
use Rattle.answer_import.specs.declared.judging.Found.TheVariants.{Shown, Refused}
use Rattle.answer_import.specs.Fronts.{IsCut}
use Rattle.answer_import.specs.Cutting.{HasCut}
use Rattle.answer_import.specs.Imports.{Sought, TextFails, IsFound}
use Rattle.answer_import.specs.Judging.{FoundFor, IsFoundBehind, IsFoundBest, IsFoundAlone, IsFoundRefuted}

-- a line stands in a text that is not empty
line-there : (line behind : List ℕ) → line ++ 10 ∷ behind ≡ [] → ⊥
line-there [] behind e = absurd (cc)
line-there (b ∷ line) behind e = absurd (cc)

pub some-text : (text line behind : List ℕ) → text ≡ line ++ 10 ∷ behind → text ≡ [] → ⊥
some-text text line behind is none = line-there line behind (sym is ∙ none)

-- behind values, by what is sought
module _ (s : Sought) (values : List Bool) (rest : List ℕ) (lines : ℕ) (given : Assignment) (numbers : given.values ≡ numbers_of (valuation_of values) s.entries) where
  given-numbers : (a : Option Assignment) → a ≡ Some given → numbers_given a ≡ Some (numbers_of (valuation_of values) s.entries)
  given-numbers a e = ap numbers_given e ∙ ap (λ (ns : _). Some ns) numbers

  any-found : (f : Found) → IsFoundAlone rest lines given f → FoundFor s values rest lines Satisfy f
  any-found (Shown v a proof) h = ((h.0, h.1), given-numbers a h.2)
  any-found (Refused line) h = (1, (h.0, refl), h.1)

  least-found : (place : ℕ) (second : Option ℕ) (f : Found) → IsFoundBest s values rest lines given f → FoundFor s values rest lines (Minimize place second) f
  least-found place second (Shown v a proof) h = ((h.0, h.1), given-numbers a h.2)
  least-found place second (Refused line) h = (h.0, h.1, h.2)

  greatest-found : (place : ℕ) (second : Option ℕ) (f : Found) → IsFoundBest s values rest lines given f → FoundFor s values rest lines (Maximize place second) f
  greatest-found place second (Shown v a proof) h = ((h.0, h.1), given-numbers a h.2)
  greatest-found place second (Refused line) h = (h.0, h.1, h.2)

  pub any-behind : s.goal ≡ Satisfy → (f : Found) → IsFoundAlone rest lines given f → IsFoundBehind s values rest lines f
  any-behind e f h = subst (λ (g : Goal). FoundFor s values rest lines g f) (sym e) (any-found f h)

  pub least-behind : (place : ℕ) (second : Option ℕ) → s.goal ≡ Minimize place second → (f : Found) → IsFoundBest s values rest lines given f → IsFoundBehind s values rest lines f
  least-behind place second e f h = subst (λ (g : Goal). FoundFor s values rest lines g f) (sym e) (least-found place second f h)

  pub greatest-behind : (place : ℕ) (second : Option ℕ) → s.goal ≡ Maximize place second → (f : Found) → IsFoundBest s values rest lines given f → IsFoundBehind s values rest lines f
  greatest-behind place second e f h = subst (λ (g : Goal). FoundFor s values rest lines g f) (sym e) (greatest-found place second f h)

-- a whole text
module _ (s : Sought) (text : List ℕ) (front : Front) (rest : List ℕ) (h : HasCut text front rest) where
  cut-as : (b : Bool) → front.told ≡ b → IsCut text h.lines b rest
  cut-as b e = subst (λ (told : Bool). IsCut text h.lines told rest) e h.cut

  module _ (told : front.told ≡ true) where
    pub values-found : (values : List Bool) → IsValues s.cnf front.text.items values → (f : Found) → IsFoundBehind s values rest front.lines f → IsFound s text f
    values-found values are (Shown v a proof) k =
        let here : IsValues s.cnf (join_lines h.lines) values = subst (λ (t : List ℕ). IsValues s.cnf t values) h.gathered.text are in
        record { lines = h.lines; told = true; rest = rest; cut = cut-as true told; shows = record { values = values; are = here; behind = k.0; given_is = k.1 } }
    values-found values are (Refused line) k =
        let here : IsValues s.cnf (join_lines h.lines) values = subst (λ (t : List ℕ). IsValues s.cnf t values) h.gathered.text are in
        record {
          lines = h.lines;
          told = true;
          rest = rest;
          cut = cut-as true told;
          fails = inr (record { values = values; are = here; place = k.0; fails = k.1; line_is = k.2 ∙ ap (λ (n : ℕ). n + k.0) h.gathered.count });
        }

    pub values-fail : (line : ℕ) → ValuesFail s.cnf front.text.items line → TextFails s text line
    values-fail line k = record {
      lines = h.lines;
      told = true;
      rest = rest;
      cut = cut-as true told;
      fails = inl (subst (λ (t : List ℕ). ValuesFail s.cnf t line) h.gathered.text k);
    }

  pub alone-found : front.told ≡ false → (f : Found) → IsFoundRefuted s.cnf text f → IsFound s text f
  alone-found told (Shown v a proof) k = record { lines = h.lines; told = false; rest = rest; cut = cut-as false told; shows = (k.0, k.1, ap numbers_given k.2) }
  alone-found told (Refused line) k = record { lines = h.lines; told = false; rest = rest; cut = cut-as false told; fails = k }
