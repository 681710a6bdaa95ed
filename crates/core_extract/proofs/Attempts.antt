-- What comes of a query about another part.
use Rattle.std.proofs.Common.{◌≡◌, ℕ, Bool, List, sym, ap, ◌∙◌, subst}
use Rattle.core_forms.specs.declared.equation.Equation.{Equation}
use Rattle.core_forms.specs.declared.form.Core.{Core}
use Rattle.model_meaning.specs.declared.model.Model.{Model}
use Rattle.model_meaning.specs.declared.model.Assignment.{Assignment}
use Rattle.model_meaning.specs.Solutions.{IsSolution}
use Rattle.model_parts.specs.declared.divided.DividedModel.{DividedModel}
use Rattle.model_parts.specs.Only.{numbers_of}
use Rattle.search_options.specs.declared.options.SearchOptions.{SearchOptions}
use Rattle.core_extract.specs.declared.reply.Reply.{Reply}
use Rattle.core_extract.specs.declared.reduction.Reduction.{Reduction}
use Rattle.core_extract.specs.declared.reduction.SpentPart.{SpentPart}
use Rattle.core_extract.specs.declared.reduction.Attempt.TheVariants as attempt
use Rattle.core_extract.specs.declared.choosing.Choice.{Choice}
use Rattle.core_extract.specs.declared.choosing.Leaving.{Leaving}
use Rattle.core_extract.specs.declared.trimming.Trimming.{Trimming}
use Rattle.core_extract.specs.Parts.{whole_of, part_of, IsAnew}
use Rattle.core_extract.specs.Extracted.{IsReply, IsRefutation, IsGivenUp, IsReduced, IsAttempt, IsChoice, IsTrimming, IsLeaving}
use Rattle.core_extract.proofs.Divisions.{anew-part}

pub anew-behind : (a b c : DividedModel) (x y : List Bool) → IsAnew a x b → IsAnew b y c → IsAnew a y c
anew-behind a b c x y h k = record { fit = k.fit; whole = k.whole ∙ h.whole; out = k.out }

pub anew-as : (a b : DividedModel) (x y : List Bool) → x ≡ y → IsAnew a x b → IsAnew a y b
anew-as a b x y e h = subst (λ (z : List Bool). IsAnew a z b) e h

-- a reply about a part, by the same marks
pub reply-as : (told : Core → Equation → Type 0) (options : SearchOptions) (m : Model) (x y : List Bool) (r s : Reply) → x ≡ y → r ≡ s → IsReply told (part_of m x) options r → IsReply told (part_of m y) options s
reply-as told options m x y r s e f h =
    subst (λ (z : List Bool). IsReply told (part_of m z) options s) e (subst (IsReply told (part_of m x) options) f h)

-- the numbers of a part
pub numbers-as : (old d : DividedModel) (out : List Bool) (ns : List ℕ) → IsAnew old out d → ns ≡ numbers_of d.part.stmts → ns ≡ numbers_of (part_of (whole_of old) out).stmts
numbers-as old d out ns h e = e ∙ ap (λ (m : Model). numbers_of m.stmts) (anew-part old d out h)

-- a part by other marks, which was refuted
pub reduced-anew : (told : Core → Equation → Type 0) (options : SearchOptions) (old : DividedModel) (r : Reduction) (out : List Bool) → IsAnew old out r.model → r.out.items ≡ out
    → IsRefutation told (part_of (whole_of old) out) options r.certificate → IsReduced told options r
reduced-anew told options old r out h e shown = record {
  fit = h.fit;
  out = h.out ∙ sym e;
  refutation =
      subst (λ (m : Model). IsRefutation told (part_of m r.out.items) options r.certificate) (sym h.whole)
      (subst (λ (o : List Bool). IsRefutation told (part_of (whole_of old) o) options r.certificate) (sym e) shown);
}

module _ (told : Core → Equation → Type 0) (options : SearchOptions) (old : Reduction) where
  pub smaller : (r : Reduction) (out : List Bool) → IsAnew old.model out r.model → r.out.items ≡ out → IsRefutation told (part_of (whole_of old.model) out) options r.certificate → IsAttempt told options old out (attempt.Smaller r)
  smaller r out h e shown = (reduced-anew told options old.model r out h e shown, h.whole, e)

  -- this part stays
  stays : (r : Reduction) → IsReduced told options old → IsAnew old.model old.out.items r.model → r.out.items ≡ old.out.items → r.certificate ≡ old.certificate → IsReduced told options r
  stays r is h e same =
      reduced-anew told options old.model r old.out.items h e
      (subst (IsRefutation told (part_of (whole_of old.model) old.out.items) options) (sym same) is.refutation)

  pub solved : (r : Reduction) (out : List Bool) (a : Assignment) → IsReduced told options old → IsAnew old.model old.out.items r.model → r.out.items ≡ old.out.items → r.certificate ≡ old.certificate
      → IsSolution (part_of (whole_of old.model) out) a.values → IsAttempt told options old out (attempt.Solved r a)
  solved r out a is h e same solution = (stays r is h e same, h.whole, e, solution)

  pub spent : (r : Reduction) (s : SpentPart) (out : List Bool) → IsReduced told options old → IsAnew old.model old.out.items r.model → r.out.items ≡ old.out.items → r.certificate ≡ old.certificate
      → s.statements ≡ numbers_of (part_of (whole_of old.model) out).stmts → IsGivenUp told (part_of (whole_of old.model) out) options s.certificate → IsAttempt told options old out (attempt.Spent r s)
  spent r s out is h e same numbers given = (stays r is h e same, h.whole, e, record { out = out; numbers = numbers; given_up = given })

-- what was chosen, at a value that is known
pub choice-as : (told : Core → Equation → Type 0) (options : SearchOptions) (old : Reduction) (a b : Choice) → a ≡ b → IsChoice told options old a → IsChoice told options old b
choice-as told options old a b e h = subst (IsChoice told options old) e h

pub trimming-as : (told : Core → Equation → Type 0) (options : SearchOptions) (old : Reduction) (a b : Trimming) → a ≡ b → IsTrimming told options old a → IsTrimming told options old b
trimming-as told options old a b e h = subst (IsTrimming told options old) e h

pub leaving-as : (told : Core → Equation → Type 0) (options : SearchOptions) (old : Reduction) (a b : Leaving) → a ≡ b → IsLeaving told options old a → IsLeaving told options old b
leaving-as told options old a b e h = subst (IsLeaving told options old) e h
