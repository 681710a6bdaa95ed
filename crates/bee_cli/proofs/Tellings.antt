-- What a sink took of what is told, one piece more.
use Rattle.std.proofs.Common.{◌≡◌, ℕ, ◌+◌, ◌≤◌, Bool, true, false, List, [], ◌++◌, length, take, Option, Some, None, refl, sym, ap, ◌∙◌, append_assoc, length-append, arith}
use Rattle.std.proofs.Math.Logic.{∥∥₁_elim, ∥∥₁_prop}
use Rattle.std.proofs.Math.Seq.{take-append-add, take-length}
use Rattle.bee_outside.specs.Bytes.{grown}
use Rattle.bee_cli.specs.Telling.{IsPiece, nothing, more, TookAs, IsTelling}
use Rattle.bee_cli.proofs.Fronts.{grown-nil}

grown-both : (o : Option (List ℕ)) (xs ys : List ℕ) → grown (grown o xs) ys ≡ grown o (xs ++ ys)
grown-both None xs ys = refl
grown-both (Some bytes) xs ys = ap Some (append_assoc bytes xs ys)

pub telling-none : (before after : Option (List ℕ)) → before ≡ after → IsTelling true 0 before after
telling-none before after e = record { last = 0; text = []; told = nothing; most = omega arith; took = sym e ∙ sym (grown-nil before) }

took-more : (went : Bool) (before after later : Option (List ℕ)) (text piece : List ℕ) → after ≡ grown before text → TookAs went after piece later → TookAs went before (text ++ piece) later
took-more true before after later text piece e h = h ∙ ap (λ (o : Option (List ℕ)). grown o piece) e ∙ grown-both before text piece
took-more false before after later text piece e h = record {
  count = length text + h.count;
  within = omega (arith, h.within, length-append text piece);
  grew =
      h.grew ∙ ap (λ (o : Option (List ℕ)). grown o (take h.count piece)) e ∙ grown-both before text (take h.count piece)
      ∙ ap (grown before) (sym (take-append-add text piece h.count));
}

pub telling-more : (went : Bool) (learned : ℕ) (before after later : Option (List ℕ)) (piece : List ℕ) → IsTelling true learned before after → IsPiece learned piece → TookAs went after piece later
    → IsTelling went learned before later
telling-more went learned before after later piece h is took = record {
  last = learned;
  text = h.text ++ piece;
  told = more h.last learned h.text piece h.most h.told is;
  most = omega arith;
  took = took-more went before after later h.text piece h.took took;
}

-- where nothing more is told
pub telling-ends : (learned : ℕ) (before after : Option (List ℕ)) → IsTelling true learned before after → IsTelling false learned before after
telling-ends learned before after h = record {
  last = h.last;
  text = h.text;
  told = h.told;
  most = h.most;
  took = record { count = length h.text; within = omega arith; grew = h.took ∙ ap (grown before) (sym (take-length h.text)) };
}

-- where more clauses were learned
pub telling-later : (speaks : Bool) (learned later : ℕ) (before after : Option (List ℕ)) → learned ≤ later → IsTelling speaks learned before after → IsTelling speaks later before after
telling-later speaks learned later before after most h = record { last = h.last; text = h.text; told = h.told; most = omega (arith, most, h.most); took = h.took }

-- the same of what is known to be so in some way
pub telling-on : (P Q : Type 0) → (P → Q) → ∥ P ∥₁ → ∥ Q ∥₁
telling-on P Q f h = ∥∥₁_elim h ∥∥₁_prop (λ p. ∣ f p ∣₁)
