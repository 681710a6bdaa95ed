use Rattle.std.proofs.Common.{◌≡◌, ◌<◌, Bool, true, false, not, refl, sym, ap, ◌∙◌, arith, ⊎_elim}
use Rattle.std.proofs.lemmas.Bool.{false≢true, cases_lt}
use Rattle.index_ring.specs.Lists.{times}
use Rattle.fixpoint_queue.proofs.Ids.{in-queue}
use Rattle.fixpoint_queue.proofs.id_ring.IdRing.has.Goals as goal

turned : (b : Bool) → (b ≡ true → ⊥) → not b ≡ true
turned true never = absurd (never refl)
turned false never = refl

pub returns : goal.returns
returns c =
    let counted = in-queue c.self.inside.rings c.args.self.now c.args.id c.self.invariant c.self.view_is in (
      λ is.
          ⊎_elim
          (λ (none : times c.args.id c.args.self.now.queued < 1). absurd (false≢true (sym (ap not (c.is_free.ensures.free.1 (omega (arith, none, counted)))) ∙ is)))
          (λ some. some)
          (cases_lt (times c.args.id c.args.self.now.queued) 1),
      λ some. turned c.is_free.result (λ free. omega (arith, some, counted, c.is_free.ensures.free.0 free)),
    )
