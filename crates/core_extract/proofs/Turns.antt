-- What comes of a statement in the last pass.
use Rattle.std.proofs.Common.{◌≡◌, ℕ, ◌+◌, ◌<◌, Bool, true, false, List, [], ◌∷◌, ◌++◌, length, refl, sym, ap, ◌∙◌, subst, arith}
use Rattle.std.proofs.lemmas.List.{get_or-set_same, length-set}
use Rattle.std.specs.Prelude.{slice_index_or, slice_set}
use Rattle.core_forms.specs.declared.equation.Equation.{Equation}
use Rattle.core_forms.specs.declared.form.Core.{Core}
use Rattle.model_meaning.specs.declared.model.Model.{Model}
use Rattle.model_meaning.specs.declared.model.Assignment.{Assignment}
use Rattle.model_meaning.specs.Solutions.{IsSolution}
use Rattle.model_parts.specs.Only.{numbers_of}
use Rattle.search_options.specs.declared.options.SearchOptions.{SearchOptions}
use Rattle.core_extract.specs.declared.reduction.Reduction.{Reduction}
use Rattle.core_extract.specs.declared.reduction.SpentPart.{SpentPart}
use Rattle.core_extract.specs.declared.reduction.Attempt.{Attempt}
use Rattle.core_extract.specs.declared.choosing.Choice.{Choice}
use Rattle.core_extract.specs.declared.choosing.Choice.TheVariants as choice
use Rattle.core_extract.specs.declared.settling.Progress.{Progress}
use Rattle.core_extract.specs.declared.settling.Turn.{Turn}
use Rattle.core_extract.specs.declared.settling.Turn.TheVariants as turn
use Rattle.core_extract.specs.Parts.{whole_of, part_of, MeetsOthers, AreFound, numbers_before}
use Rattle.core_extract.specs.Extracted.{IsReduced, IsSameModel, IsSpentPart, IsAttempt, IsChoice, IsProgress, GoesOn, IsTurn}
use Rattle.core_extract.proofs.Marks.{found-fewer, found-more, solved-meets, before-set, before-out, before-kept}

pub attempt-as : (told : Core → Equation → Type 0) (options : SearchOptions) (old : Reduction) (out : List Bool) (a b : Attempt) → a ≡ b → IsAttempt told options old out a → IsAttempt told options old out b
attempt-as told options old out a b e h = subst (IsAttempt told options old out) e h

pub turn-as : (told : Core → Equation → Type 0) (options : SearchOptions) (place : ℕ) (old : Reduction) (a b : Turn) → a ≡ b → GoesOn told options place old a → GoesOn told options place old b
turn-as told options place old a b e h = subst (GoesOn told options place old) e h

pub meets-as : (p q : Model) (m n : ℕ) (a : Assignment) → p ≡ q → m ≡ n → MeetsOthers p m a → MeetsOthers q n a
meets-as p q m n a e f h = subst (λ (x : ℕ). MeetsOthers q x a) f (subst (λ (x : Model). MeetsOthers x m a) e h)

pub same-behind : (a b c : Reduction) → IsSameModel a b → IsSameModel b c → IsSameModel a c
same-behind a b c h k = record { whole = k.whole ∙ h.whole; count = k.count ∙ h.count }

-- a search that was given up, of another part of the same model
pub spent-of : (told : Core → Equation → Type 0) (options : SearchOptions) (a b : Model) (s : SpentPart) → a ≡ b → IsSpentPart told a options s → IsSpentPart told b options s
spent-of told options a b s e h = subst (λ (m : Model). IsSpentPart told m options s) e h

pub choice-behind : (told : Core → Equation → Type 0) (options : SearchOptions) (a b : Reduction) (c : Choice) → IsSameModel a b → IsChoice told options b c → IsChoice told options a c
choice-behind told options a b (choice.Part r) same h = (h.0, same-behind a b r same h.1)
choice-behind told options a b (choice.Spent r s) same h = (spent-of told options (whole_of b.model) (whole_of a.model) s same.whole h.0, h.1 ∙ same.whole)

set-length : (out : List Bool) (i : ℕ) → length (slice_set out i true) ≡ length out
set-length out i = length-set out i true

-- what was found, in a part that is the same
found-at : (i : ℕ) (m n : Model) (o q : List Bool) (gs hs : List Assignment) → m ≡ n → o ≡ q → gs ≡ hs → AreFound (part_of n q) (numbers_before i q n.stmts) hs
    → AreFound (part_of m o) (numbers_before i o m.stmts) gs
found-at i m n o q gs hs e f h is =
    subst (λ (x : Model). AreFound (part_of x o) (numbers_before i o x.stmts) gs) (sym e)
    (subst (λ (x : List Bool). AreFound (part_of n x) (numbers_before i x n.stmts) gs) (sym f)
    (subst (λ (x : List Assignment). AreFound (part_of n q) (numbers_before i q n.stmts) x) (sym h) is))

module _ (told : Core → Equation → Type 0) (options : SearchOptions) (place : ℕ) (old : Progress) (is : IsProgress told options place old) (below : place < length old.reduction.out.items) where
  abbrev pub whole : Model
  whole = whole_of old.reduction.model

  abbrev pub out : List Bool
  out = old.reduction.out.items

  -- it was left out before
  pub passed : slice_index_or out place false ≡ true → IsTurn told options (place + 1) old (turn.Next old)
  passed marked = (
    record { reduced = is.reduced; found = subst (λ (ns : List ℕ). AreFound (part_of whole out) ns old.given.items) (sym (before-out place out whole.stmts below marked)) is.found },
    record { whole = refl; count = refl },
  )

  -- it leaves the part
  pub left : (p : Progress) → IsReduced told options p.reduction → whole_of p.reduction.model ≡ whole → p.reduction.out.items ≡ slice_set out place true → p.given.items ≡ old.given.items
      → IsTurn told options (place + 1) old (turn.Next p)
  left p reduced same marks given =
      let set : slice_index_or (slice_set out place true) place false ≡ true = get_or-set_same out place true false below in
      let longer : place < length (slice_set out place true) = omega (arith, below, set-length out place) in
      let front : numbers_before (place + 1) (slice_set out place true) whole.stmts ≡ numbers_before place out whole.stmts =
      before-out place (slice_set out place true) whole.stmts longer set ∙ before-set place out whole.stmts in
      let found : AreFound (part_of whole (slice_set out place true)) (numbers_before (place + 1) (slice_set out place true) whole.stmts) old.given.items =
      subst (λ (ns : List ℕ). AreFound (part_of whole (slice_set out place true)) ns old.given.items) (sym front) (found-fewer whole out place (numbers_before place out whole.stmts) old.given.items is.found) in (
        record {
          reduced = reduced;
          found = found-at (place + 1) (whole_of p.reduction.model) whole p.reduction.out.items (slice_set out place true) p.given.items old.given.items same marks given found;
        },
        record { whole = same; count = ap length marks ∙ set-length out place },
      )

  module _ (kept : slice_index_or out place false ≡ false) (named : place < length (numbers_of whole.stmts)) (d : ℕ) where
    abbrev pub n : ℕ
    n = slice_index_or (numbers_of whole.stmts) place d

    -- it has its assignment
    pub given-one : (p : Progress) (a : Assignment) → IsReduced told options p.reduction → whole_of p.reduction.model ≡ whole → p.reduction.out.items ≡ out → p.given.items ≡ old.given.items ++ a ∷ []
        → MeetsOthers (part_of whole out) n a → IsTurn told options (place + 1) old (turn.Next p)
    given-one p a reduced same marks given meets =
        let found : AreFound (part_of whole out) (numbers_before (place + 1) out whole.stmts) (old.given.items ++ a ∷ []) =
        subst (λ (ns : List ℕ). AreFound (part_of whole out) ns (old.given.items ++ a ∷ [])) (sym (before-kept d place out whole.stmts below named kept))
        (found-more (part_of whole out) n a (numbers_before place out whole.stmts) old.given.items is.found meets) in (
          record {
            reduced = reduced;
            found = found-at (place + 1) (whole_of p.reduction.model) whole p.reduction.out.items out p.given.items (old.given.items ++ a ∷ []) same marks given found;
          },
          record { whole = same; count = ap length marks },
        )

    pub solved-one : (p : Progress) (a : Assignment) → IsReduced told options p.reduction → whole_of p.reduction.model ≡ whole → p.reduction.out.items ≡ out → p.given.items ≡ old.given.items ++ a ∷ []
        → IsSolution (part_of whole (slice_set out place true)) a.values → IsTurn told options (place + 1) old (turn.Next p)
    solved-one p a reduced same marks given solution =
        given-one p a reduced same marks given (solved-meets whole d out place a below solution)
