-- Occurrences that are handed on.
use Rattle.std.proofs.Common.{◌≡◌, ◌↔◌, ◌⊎◌, inl, inr, ℕ, zero, suc, ◌+◌, ◌≤◌, ◌<◌, List, [], length, get_or, map, refl, sym, ap, ◌∙◌, subst, arith, ⊎_elim, Some}
use Rattle.std.specs.Prelude.{Contains}
use Rattle.std.specs.List.{All}
use Rattle.std.proofs.lemmas.List.{length-map}
use Rattle.core_forms.specs.declared.form.Core.{Core}
use Rattle.core_forms.specs.Variables.{core_vars}
use Rattle.core_occurrences.specs.Lists.{OccurrenceLists, Occurs, IsOccurrences, cores_at, added, removed}
use Rattle.core_occurrences.specs.Bodies.{swapped, exchanged}
use Rattle.core_occurrences.proofs.Exchanges.{exchanged_occurs, swapped-other, swapped-at-first, swapped-at-second}
use Rattle.core_occurrences.proofs.Lawful.{removed_occurs}
use Rattle.core_occurrences.proofs.Listed.{length-with_id}
use Rattle.step_kernel.specs.Kernel.{Kernel, core_at}
use Rattle.fixpoint_queue.specs.Handed.{IsRest, IsHanded}
use Rattle.fixpoint_queue.proofs.Entries.{all-of}
use Rattle.fixpoint_queue.proofs.NextSaturation.{mapped}
use Rattle.fixpoint_queue.proofs.Stood.{occurs-added}
use Rattle.fixpoint_queue.proofs.Waking.{contains-none}

module _ (old : OccurrenceLists) (gone held : ℕ) (come : List ℕ) (range : (v : ℕ) → Contains come v → (1 ≤ v) × (v ≤ length old.lists)) where
  abbrev swap : OccurrenceLists
  swap = exchanged old gone held

  long : length swap.lists ≡ length old.lists
  long = length-map old.lists (map (swapped gone held))

  swap-range : (v : ℕ) → Contains come v → (1 ≤ v) × (v ≤ length swap.lists)
  swap-range v c = let r = range v c in (r.0, omega (arith, r.1, long))

  pub come-all : All (λ (v : ℕ). (1 ≤ v) × (v ≤ length swap.lists)) come
  come-all = all-of (λ (v : ℕ). (1 ≤ v) × (v ≤ length swap.lists)) come swap-range

  -- the other one has what the one had
  pub held-has : (v : ℕ) → Occurs old v gone → Occurs swap v held
  held-has v o = (exchanged_occurs old gone held v held).1 (subst (Occurs old v) (sym (swapped-at-second gone held)) o)

  pub come-fresh : ((v : ℕ) → Contains come v → cores_at old v ≡ []) → (v : ℕ) → Contains come v → ¬ Occurs swap v held
  come-fresh bare v c o =
      let was : Occurs old v gone = subst (Occurs old v) (swapped-at-second gone held) ((exchanged_occurs old gone held v held).0 o) in
      contains-none gone (subst (λ (l : List ℕ). Contains l gone) (bare v c) was)

  module _ (new : OccurrenceLists) (is : new ≡ added swap held come) (occurrences : IsOccurrences new) where
    occurs-new : (v id : ℕ) → 1 ≤ v → Occurs new v id ↔ (Occurs swap v id ⊎ ((id ≡ held) × Contains come v))
    occurs-new v id low = subst (λ (o : OccurrenceLists). Occurs o v id ↔ (Occurs swap v id ⊎ ((id ≡ held) × Contains come v))) (sym is) (occurs-added swap held come (λ w c. (swap-range w c).1) v id low)

    module _ (apart : gone ≡ held → ⊥) (absent : (v : ℕ) → ¬ Occurs old v held) where
      none-gone : (v : ℕ) → 1 ≤ v → ¬ Occurs new v gone
      none-gone v low o =
          ⊎_elim
          (λ (s : Occurs swap v gone). absent v (subst (Occurs old v) (swapped-at-first gone held) ((exchanged_occurs old gone held v gone).0 s)))
          (λ (h : (gone ≡ held) × Contains come v). apart h.0)
          ((occurs-new v gone low).0 o)

      all-gone : (v : ℕ) → ¬ Occurs new v gone
      all-gone zero o = none-gone 1 (omega arith) o
      all-gone (suc v) o = none-gone (suc v) (omega arith) o

      others-stay : (v id : ℕ) → 1 ≤ v → (id ≡ gone → ⊥) → (id ≡ held → ⊥) → Occurs new v id ↔ Occurs old v id
      others-stay v id low n m =
          let same : swapped gone held id ≡ id = swapped-other gone held id n m in (
            λ o. ⊎_elim (λ (s : Occurs swap v id). subst (Occurs old v) same ((exchanged_occurs old gone held v id).0 s)) (λ (h : (id ≡ held) × Contains come v). absurd (m h.0)) ((occurs-new v id low).0 o),
            λ o. (occurs-new v id low).1 (inl ((exchanged_occurs old gone held v id).1 (subst (Occurs old v) (sym same) o))),
          )

      pub handed-on : IsHanded old new gone held
      handed-on = record {
        nothing = all-gone;
        others = others-stay;
        lists = ap (λ (o : OccurrenceLists). length o.lists) is ∙ length-with_id held come 1 swap.lists ∙ long;
        ids = ap (λ (o : OccurrenceLists). o.ids) is;
        occurrences = occurrences;
      }

    pub holds-on : (v : ℕ) → 1 ≤ v → Contains come v ⊎ Occurs old v gone → Occurs new v held
    holds-on v low h = (occurs-new v held low).1 (⊎_elim (λ (c : Contains come v). inr (refl, c)) (λ (o : Occurs old v gone). inl (held-has v o)) h)

    pub room-on : old.room ≤ new.room + length come
    room-on = omega (arith, ap (λ (o : OccurrenceLists). o.room) is)

-- the occurrences are taken away
pub handed-none : (old new : OccurrenceLists) (gone : ℕ) → new ≡ removed old gone → IsOccurrences new → IsHanded old new gone 0
handed-none old new gone is occurrences = record {
  nothing = λ v o. ((occurs-left v gone).0 o).1 refl;
  others = λ v id low n m. (λ o. ((occurs-left v id).0 o).0, λ o. (occurs-left v id).1 (o, n));
  lists = ap (λ (o : OccurrenceLists). length o.lists) is ∙ mapped gone old.lists;
  ids = ap (λ (o : OccurrenceLists). o.ids) is;
  occurrences = occurrences;
}
  where
    occurs-left : (v id : ℕ) → Occurs new v id ↔ (Occurs old v id × (id ≡ gone → ⊥))
    occurs-left v id = subst (λ (o : OccurrenceLists). Occurs o v id ↔ (Occurs old v id × (id ≡ gone → ⊥))) (sym is) (removed_occurs old gone v id)

-- ---- which variables come

pub some-rest : (k : Kernel) (id : ℕ) (lists : List (List ℕ)) (place : ℕ) (come : List ℕ) (core : Core) (vars known : List ℕ) → place < length lists → length come ≤ 64 → core_at k.cores id ≡ Some core → vars ≡ get_or lists place []
    → ((v : ℕ) → Contains come v → Contains vars v) → ((v : ℕ) → Contains vars v → Contains come v ⊎ Contains known v) → ((v : ℕ) → Contains known v → Contains (core_vars core) v) → IsRest k id lists place come
some-rest k id lists place come core vars known inside few at is from all exact = record {
  few = few;
  from = λ v c. (inside, subst (λ (l : List ℕ). Contains l v) is (from v c));
  all = λ lt v there.
      ⊎_elim (λ (c : Contains come v). inl c) (λ (h : Contains known v). inr (core, at, exact v h)) (all v (subst (λ (l : List ℕ). Contains l v) (sym is) there));
}

pub no-rest : (k : Kernel) (id : ℕ) (lists : List (List ℕ)) (place : ℕ) (come : List ℕ) → length lists ≤ place → come ≡ [] → IsRest k id lists place come
no-rest k id lists place come past none = record {
  few = omega (arith, ap length none);
  from = λ v c. absurd (contains-none v (subst (λ (l : List ℕ). Contains l v) none c));
  all = λ lt. absurd (omega (arith, lt, past));
}
