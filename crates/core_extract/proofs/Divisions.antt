-- A model that is divided anew, and its part.
use Rattle.std.proofs.Common.{◌≡◌, Bool, List, [], Result, Ok, Err, refl, ap, sym, ◌∙◌, subst}
use Rattle.std.specs.Prelude.{IfOk}
use Rattle.std.specs.declared.alloc.AllocError.{AllocError}
use Rattle.model_meaning.specs.declared.model.Model.{Model}
use Rattle.model_meaning.specs.Limits.{InLimits}
use Rattle.model_meaning.specs.WellTyped.{WellTyped}
use Rattle.model_parts.specs.declared.divided.DividedModel.{DividedModel}
use Rattle.model_parts.specs.Only.{numbers_of}
use Rattle.model_parts.specs.Sides.{kept_of, woven, IsDivided, IsMoved}
use Rattle.model_parts.proofs.Typed.{only-typed, only-limits}
use Rattle.model_parts.proofs.Weaving.{woven-sides, part-only}
use Rattle.core_extract.specs.Parts.{satisfying, whole_of, part_of, IsFit, IsAnew}

pub model-same : (a b : Model) → a.decls ≡ b.decls → a.stmts ≡ b.stmts → a.goal ≡ b.goal → a ≡ b
model-same a b d s g = λ i. record { decls = d i; stmts = s i; goal = g i }

moved-whole : (old new : DividedModel) (marks : List Bool) → IsMoved old marks new → whole_of new ≡ whole_of old
moved-whole old new marks m =
    let stmts : woven new.out.items new.part.stmts new.left.items ≡ woven old.out.items old.part.stmts old.left.items =
    rw (m.out, m.kept, m.left) (woven-sides marks (woven old.out.items old.part.stmts old.left.items)) in
    model-same (whole_of new) (whole_of old) m.decls stmts refl

pub anew : (old : DividedModel) (marks out : List Bool) (r : Result DividedModel AllocError) → marks ≡ out → IsFit old
    → IfOk r (IsDivided (whole_of old)) → IfOk r (IsMoved old marks) → IfOk r (IsAnew old out)
anew old marks out (Err e) same fit d m = tt
anew old marks out (Ok new) same fit d m =
    let whole : whole_of new ≡ whole_of old = moved-whole old new marks m in
    record {
      fit = record {
        divided = subst (λ (w : Model). IsDivided w new) (sym whole) d;
        typed = subst WellTyped (sym whole) fit.typed;
        limits = subst InLimits (sym whole) fit.limits;
      };
      whole = whole;
      out = m.out ∙ same;
    }

-- what was just divided, of a model that is well typed and in the limits
pub new-whole : (model : Model) (d : DividedModel) → IsDivided model d → d.out.items ≡ [] → whole_of d ≡ satisfying model
new-whole model d h none =
    let kept : d.part.stmts ≡ model.stmts = h.kept ∙ ap (λ (ms : List Bool). kept_of ms model.stmts) none in
    let stmts : woven d.out.items d.part.stmts d.left.items ≡ model.stmts = ap (λ (ms : List Bool). woven ms d.part.stmts d.left.items) none ∙ kept in
    model-same (whole_of d) (satisfying model) h.decls stmts refl

satisfied-typed : (model : Model) → WellTyped model → WellTyped (satisfying model)
satisfied-typed model h = record { decls = h.decls; stmts = h.stmts; shares = h.shares; goal = tt }

satisfied-limits : (model : Model) → InLimits model → InLimits (satisfying model)
satisfied-limits model h = h

pub new-fit : (model : Model) (d : DividedModel) → WellTyped model → InLimits model → IsDivided model d → d.out.items ≡ [] → IsFit d
new-fit model d typed limits h none =
    let whole = new-whole model d h none in
    record {
      divided = subst (λ (w : Model). IsDivided w d) (sym whole) (record { decls = h.decls; goal = h.goal; kept = h.kept; left = h.left });
      typed = subst WellTyped (sym whole) (satisfied-typed model typed);
      limits = subst InLimits (sym whole) (satisfied-limits model limits);
    }

-- its part

pub part-is : (d : DividedModel) → IsFit d → d.part ≡ part_of (whole_of d) d.out.items
part-is d fit = model-same d.part (part_of (whole_of d) d.out.items) fit.divided.decls fit.divided.kept fit.divided.goal

pub part-typed : (d : DividedModel) → IsFit d → WellTyped d.part
part-typed d fit =
    subst WellTyped (sym (part-only (whole_of d) d fit.typed fit.divided)) (only-typed (whole_of d) (numbers_of d.part.stmts) fit.typed)

pub part-limits : (d : DividedModel) → IsFit d → InLimits d.part
part-limits d fit =
    subst InLimits (sym (part-only (whole_of d) d fit.typed fit.divided)) (only-limits (whole_of d) (numbers_of d.part.stmts) fit.limits)

pub anew-part : (old d : DividedModel) (out : List Bool) → IsAnew old out d → d.part ≡ part_of (whole_of old) out
anew-part old d out h =
    part-is d h.fit ∙ (ap (λ (m : Model). part_of m d.out.items) h.whole ∙ ap (part_of (whole_of old)) h.out)
