-- Cores that come behind others, one of which takes over what one of these had.
use Rattle.std.proofs.Common.{◌≡◌, ◌⊎◌, inl, inr, ℕ, ◌+◌, ◌≤◌, ◌<◌, List, length, take, sym, ap, ◌∙◌, subst, arith, ⊎_elim, Option}
use Rattle.std.specs.Prelude.{Contains}
use Rattle.std.proofs.lemmas.Option.{none-some}
use Rattle.std.proofs.lemmas.Bool.{cases_eq}
use Rattle.std.proofs.lemmas.List.{take_all}
use Rattle.core_forms.specs.declared.form.Core.{Core}
use Rattle.core_occurrences.specs.Lists.{OccurrenceLists, Occurs}
use Rattle.step_kernel.specs.Kernel.{Kernel, core_at}
use Rattle.step_kernel.proofs.LeastCompound.{core_at-next}
use Rattle.fixpoint_queue.specs.IdQueue.{Ids}
use Rattle.fixpoint_queue.specs.Handed.{IsHanded, Holds, AreComing, HaveCome}
use Rattle.fixpoint_queue.specs.Standing.{HasVarAt, IsThere, Stand, StandBut, AreVarsFrom, AreEntered, all_counted}
use Rattle.fixpoint_queue.proofs.Entries.{none-behind, length-taken}
use Rattle.fixpoint_queue.proofs.Stood.{stand-held}

-- where all are listed, all but one are
pub listed-but : (cores : List (Option Core)) (before held : ℕ) (lists : List (List ℕ)) → AreVarsFrom cores before 0 lists → AreVarsFrom cores before held lists
listed-but cores before held lists are i lt = let at = are i lt in (at.0, at.1, λ apart. at.2 (λ e. omega (arith, e)))

module _ (new : Kernel) (before gone place unlisted : ℕ) (come : List ℕ) (lists : List (List ℕ)) (occurs : OccurrenceLists) (queue : Ids) (p : AreComing new before gone place unlisted come lists occurs queue) where
  -- the core at the place
  rest : place < length lists → IsThere new.cores (before + place + 1)
  rest inside = let part = p.listed place inside in (part.0, core_at-next new.cores (before + place) ∙ part.1)

  -- what comes are variables
  pub come-range : (v : ℕ) → Contains come v → (1 ≤ v) × (v ≤ length occurs.lists)
  come-range v there =
      let from = p.from v there in
      (from.0, omega (arith, from.1, p.vars))

  -- no variable occurs in a core that comes
  pub come-absent : (v id : ℕ) → before < id → ¬ Occurs occurs v id
  come-absent v id past =
      none-behind gone (take before new.cores) occurs id (omega (arith, past, length-taken new.cores before (omega (arith, p.many)))) (λ e. omega (arith, e, past, p.bounds.1)) p.stand v

  pub come-room : length come ≤ occurs.room
  come-room = omega (arith, p.room)

  module _ (handed : OccurrenceLists) (held : ℕ) (h : IsHanded occurs handed gone held) (room : occurs.room ≤ handed.room + length come) where
    pub handed-stand : StandBut held (take before new.cores) handed
    handed-stand v id low apart = ⊎_elim at_gone other (cases_eq id gone)
      where
        at_gone : id ≡ gone → (Occurs handed v id → IsThere (take before new.cores) id) × (HasVarAt (take before new.cores) id v → Occurs handed v id)
        at_gone e = (
          λ o. absurd (h.nothing v (subst (Occurs handed v) e o)),
          λ has. absurd (none-some has.0 (sym (ap (core_at (take before new.cores)) e ∙ p.empty) ∙ has.1)),
        )

        other : (id ≡ gone → ⊥) → (Occurs handed v id → IsThere (take before new.cores) id) × (HasVarAt (take before new.cores) id v → Occurs handed v id)
        other n =
            let stand = p.stand v id low n in
            let same = h.others v id low n apart in
            (λ o. stand.0 (same.0 o), λ has. same.1 (stand.1 has))

    pub handed-vars : length new.view ≤ length handed.lists
    handed-vars = omega (arith, p.vars, h.lists)

    pub handed-ids : before + length lists ≤ handed.ids
    handed-ids = omega (arith, p.ids, h.ids)

    pub handed-room : all_counted lists ≤ handed.room
    handed-room = omega (arith, p.room, room)

    module _ (holds : Holds occurs handed gone before place (length lists) come held) (next : OccurrenceLists) (next-queue : Ids) (entered : AreEntered held new.cores before (length lists) handed next queue next-queue) where
      whole : take (before + length lists) new.cores ≡ new.cores
      whole = ap (λ (n : ℕ). take n new.cores) (sym p.many) ∙ take_all (length new.cores) new.cores (omega arith)

      own : (held ≡ 0) ⊎ (IsThere new.cores held × ((v : ℕ) → 1 ≤ v → HasVarAt new.cores held v → Occurs next v held))
      own = ⊎_elim (λ (z : held ≡ 0). inl z) (λ (k : (place < length lists) × (held ≡ before + place + 1) × ((v : ℕ) → 1 ≤ v → Contains come v ⊎ Occurs occurs v gone → Occurs handed v held)). inr (taken k)) holds
        where
          taken : (place < length lists) × (held ≡ before + place + 1) × ((v : ℕ) → 1 ≤ v → Contains come v ⊎ Occurs occurs v gone → Occurs handed v held) → IsThere new.cores held × ((v : ℕ) → 1 ≤ v → HasVarAt new.cores held v → Occurs next v held)
          taken k = (
            subst (IsThere new.cores) (sym k.1) (rest k.0),
            λ v low has. entered.keeps v held low (k.2 v low (p.all k.0 v (subst (λ (i : ℕ). HasVarAt new.cores i v) k.1 has))),
          )

      stand : Stand new.cores next
      stand = stand-held held new.cores next entered.occurrences own (subst (λ (cs : List (Option Core)). StandBut held cs next) whole entered.stand)

      pub have-come : HaveCome new before (length lists) next queue next-queue
      have-come = record {
        listed = record {
          occurrences = entered.occurrences;
          vars = omega (arith, handed-vars, entered.lists);
          ids = omega (arith, p.many, handed-ids, entered.ids);
          there = stand;
        };
        places = entered.places;
        queued = entered.queued;
        stays = entered.stays;
        come = entered.come;
        only = entered.only;
      }
