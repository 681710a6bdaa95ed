-- More places leave what stands in them.
use Rattle.std.proofs.Common.{◌≡◌, ℕ, Bool, List, [], length, replicate, refl, sym, ap, ◌∙◌, subst, arith, Contains}
use Rattle.std.proofs.lemmas.List.{length-append}
use Rattle.core_forms.specs.declared.equation.Equation.{Equation}
use Rattle.core_forms.specs.declared.form.Core.{Core}
use Rattle.core_occurrences.specs.Lists.{OccurrenceLists, IsOccurrences, cores_at, grown}
use Rattle.core_occurrences.proofs.Lawful.{grown_stays}
use Rattle.index_ring.specs.Lists.{times}
use Rattle.step_kernel.specs.Kernel.{Kernel}
use Rattle.fixpoint_queue.specs.IdQueue.{Ids}
use Rattle.fixpoint_queue.specs.Listed.{IsListed}
use Rattle.fixpoint_queue.specs.Waits.{IsSaturation, Waits}
use Rattle.fixpoint_queue.specs.Wider.{AreWider, IsWider}

pub wider-same : (occurs : OccurrenceLists) → IsOccurrences occurs → AreWider occurs occurs
wider-same occurs is = record { at = λ v. refl; lists = omega arith; ids = omega arith; occurrences = is }

pub wider-grown : (old new : OccurrenceLists) (vars ids nodes : ℕ) → new ≡ grown old vars ids nodes → IsOccurrences new → AreWider old new
wider-grown old new vars ids nodes is occurrences = record {
  at = λ v. ap (λ (o : OccurrenceLists). cores_at o v) is ∙ grown_stays old vars ids nodes v;
  lists = omega (arith, ap (λ (o : OccurrenceLists). length o.lists) is, length-append old.lists (replicate {A = List ℕ} vars []));
  ids = omega (arith, ap (λ (o : OccurrenceLists). o.ids) is);
  occurrences = occurrences;
}

pub listed-wider : (k : Kernel) (old new : OccurrenceLists) → AreWider old new → IsListed k old → IsListed k new
listed-wider k old new wider h = record {
  occurrences = wider.occurrences;
  vars = omega (arith, h.vars, wider.lists);
  ids = omega (arith, h.ids, wider.ids);
  there = λ v id low. (
    λ o. (h.there v id low).0 (subst (λ (l : List ℕ). Contains l id) (wider.at v) o),
    λ has. subst (λ (l : List ℕ). Contains l id) (sym (wider.at v)) ((h.there v id low).1 has),
  );
}

pub saturation-wider : (told : Core → Equation → Type 0) (k : Kernel) (occurs next : OccurrenceLists) (queue wide : Ids) (marks longer : List Bool) → IsSaturation told k occurs queue marks → IsWider occurs next queue wide marks longer → IsSaturation told k next wide longer
saturation-wider told k occurs next queue wide marks longer saturation wider = record {
  kernel = saturation.kernel;
  listed = listed-wider k occurs next wider.occurs saturation.listed;
  places = omega (arith, saturation.places, wider.places);
  queued = wider.is;
  pending = λ id there. saturation.pending id (omega (arith, there, same id));
  waits = subst (Waits told k) (sym wider.queued) saturation.waits;
  mark_places = omega (arith, saturation.mark_places, wider.marks.length);
  marked = λ id none. wider.marks.mark id ∙ saturation.marked id (omega (arith, none, same id));
}
  where
    same : (id : ℕ) → times id wide.queued ≡ times id queue.queued
    same id = ap (times id) wider.queued
