-- The state after a split.
use Rattle.std.proofs.Common.{◌≡◌, ◌⊎◌, inl, inr, ℕ, zero, suc, ◌+◌, ◌-◌, ◌≤◌, ◌<◌, ◌^◌, ◌==◌, Bool, true, false, List, [], ◌∷◌, ◌++◌, map, length, get_or, set, take, refl, sym, ap, ◌∙◌, subst, arith, ⊎_elim, Option, Some, None, Result, Ok, Err}
use Rattle.std.specs.Prelude.{Contains, option_map, if◌then◌else◌}
use Rattle.std.proofs.lemmas.Bool.{cases_eq, cond-false, ne_eqb}
use Rattle.std.proofs.lemmas.Bool.Decides.{nat_tests}
use Rattle.std.proofs.lemmas.List.{length-set, length-append, length-map, get_or_append_left, get_or-append-add}
use Rattle.std.proofs.Math.Seq.{take-append_seam}
use Rattle.order_ints.specs.declared.atom.Atom.{Atom}
use Rattle.order_ints.specs.Label.{own_labels, with_own_labels}
use Rattle.order_ints.proofs.Labels.{length-own_labels}
use Rattle.core_forms.specs.declared.equation.Equation.{Equation}
use Rattle.core_forms.specs.declared.form.Core.{Core}
use Rattle.core_forms.specs.Trimmed.{trimmed_core}
use Rattle.core_forms.specs.Variables.{core_vars}
use Rattle.part_base.specs.declared.parts.Parts.{Parts}
use Rattle.ledger_text.specs.declared.line.Line.TheVariants.{Split}
use Rattle.core_occurrences.specs.Lists.{OccurrenceLists, Occurs}
use Rattle.index_ring.specs.Lists.{times, without as without_id}
use Rattle.index_ring.proofs.Times.{times-without}
use Rattle.step_kernel.specs.declared.fault.StepFault.{StepFault}
use Rattle.step_kernel.specs.declared.fault.StepFault.TheVariants.{AfterBottom, NotCompound}
use Rattle.step_kernel.specs.Kernel.{Kernel, core_at, trimmed_at, IsKernel}
use Rattle.core_parts.specs.Parts.{parts_at}
use Rattle.step_kernel.specs.SplitAt.{ArePartsAt}
use Rattle.step_kernel.specs.Steps.{step, step_at, unless_fault, divided, without}
use Rattle.step_kernel.proofs.Costs.{trimmed-more}
use Rattle.step_kernel.proofs.Holes.{below-there}
use Rattle.step_kernel.proofs.LeastCompound.{core_at-next}
use Rattle.step_kernel.proofs.Splits.{at-bounds, there-bounds, divided-room}
use Rattle.step_kernel.proofs.StepLaws.{step-kept}
use Rattle.step_kernel.proofs.There.{there-divided}
use Rattle.fixpoint_queue.specs.IdQueue.{Ids, IsIds}
use Rattle.fixpoint_queue.specs.Listed.{HasVar}
use Rattle.fixpoint_queue.specs.Handed.{IsRest, AreComing, HaveCome}
use Rattle.fixpoint_queue.specs.Standing.{HasVarAt, StandBut, AreVars, AreAllVars, AreVarsFrom}
use Rattle.fixpoint_queue.specs.Waits.{IsSaturation}
use Rattle.fixpoint_queue.specs.Wider.{IsWider, HasRoom}
use Rattle.fixpoint_queue.proofs.Entries.{core-bounds}
use Rattle.fixpoint_queue.proofs.QueueSizes.{queue-grows}
use Rattle.fixpoint_queue.proofs.NextSaturation.{Goes, Queues, saturation-next, marked-gone}
use Rattle.fixpoint_queue.proofs.Stood.{core_at-without, core_at-gone, stand-without, some-of}
use Rattle.fixpoint_queue.proofs.Widened.{saturation-wider}

ok-of : (x y : Kernel) → ◌≡◌ {A = Result Kernel StepFault} (Ok x) (Ok y) → x ≡ y
ok-of x y h = cc

pub divided-is : (k new : Kernel) (id : ℕ) (parts : Parts) → k.bottom ≡ false → ArePartsAt k id parts → step k (Split id) ≡ Ok new → new ≡ divided k id parts
divided-is k new id parts running at is =
    ok-of new (divided k id (parts_at (length k.view + 1) at.core))
    (sym is
    ∙ ap (λ (b : Bool). if b then Err AfterBottom else step_at k (Split id) (trimmed_at k id)) running
    ∙ ap (step_at k (Split id)) at.there
    ∙ ap (λ (b : Bool). unless_fault (if b then None else Some NotCompound) (divided k id (parts_at (length k.view + 1) at.core))) at.compound)
    ∙ ap (divided k id) (sym at.are)

-- the state after it
pub kernel-split : (k new : Kernel) (id : ℕ) → IsKernel k → step k (Split id) ≡ Ok new → IsKernel new
kernel-split k new id is stepped = (step-kept k new (Split id) is stepped).kernel

-- there are not too many variables with the fresh ones
pub fresh-bound : (k : Kernel) (id : ℕ) (parts : Parts) → IsKernel k → ArePartsAt k id parts → length k.view + parts.fresh ≤ 2 ^ 27
fresh-bound k id parts is at =
    divided-room k id parts
    (subst (λ (p : Parts). IsKernel (divided k id p)) (sym at.are) (there-divided k id at.core is at.there at.compound))

-- the core at a place among parts, and its listed variables
pub part : (lists : List (List ℕ)) (cores : List Core) → AreAllVars lists cores → (i : ℕ) → i < length lists → (core : Core) × (get_or (map Some cores) i None ≡ Some core) × AreVars (get_or lists i []) core
part [] cores h i less = absurd (omega (arith, less))
part (l ∷ lists) [] h i less = absurd h
part (l ∷ lists) (c ∷ cores) h zero less = (c, refl, h.0)
part (l ∷ lists) (c ∷ cores) h (suc i) less = part lists cores h.1 i (omega (arith, less))

-- as many lists as parts
pub as-many : (lists : List (List ℕ)) (cores : List Core) → AreAllVars lists cores → length lists ≡ length cores
as-many [] [] h = refl
as-many [] (c ∷ cores) h = absurd h
as-many (l ∷ lists) [] h = absurd h
as-many (l ∷ lists) (c ∷ cores) h = ap suc (as-many lists cores h.1)

core_at-left : (xs ys : List (Option Core)) (id : ℕ) → id ≤ length xs → core_at (xs ++ ys) id ≡ core_at xs id
core_at-left xs ys zero high = refl
core_at-left xs ys (suc i) high =
    let e : suc i ≡ i + 1 = omega arith in
    ap (core_at (xs ++ ys)) e ∙ core_at-next (xs ++ ys) i ∙ get_or_append_left xs ys None i (omega (arith, high)) ∙ sym (core_at-next xs i) ∙ sym (ap (core_at xs) e)

-- Listed variables of parts that come behind the cores of a state, but for those of one id, and what comes to the part at a place, if there
-- is one, beside what a pending core has.
pub record AreListed (k : Kernel) (id : ℕ) (parts : Parts) (place unlisted : ℕ) (come : List ℕ) (lists : List (List ℕ)) : Type 0 where
  pub many : length lists ≡ length parts.cores
  pub listed : (i : ℕ) → i < length lists → (core : Core) × (get_or (map Some parts.cores) i None ≡ Some core) × ((length k.cores + i + 1 ≡ unlisted → ⊥) → AreVars (get_or lists i []) core)
  pub from : (v : ℕ) → Contains come v → (1 ≤ v) × (v ≤ length k.view + parts.fresh)
  pub all : place < length lists → (core : Core) → get_or (map Some parts.cores) place None ≡ Some core → (v : ℕ) → Contains (core_vars core) v → Contains come v ⊎ HasVar k id v

-- the longest of them has no others than those that come, and those of the core that is split
pub listed-whole : (k : Kernel) (id : ℕ) (parts : Parts) (place : ℕ) (come : List ℕ) (lists : List (List ℕ)) → IsKernel (divided k id parts) → AreAllVars lists parts.cores → IsRest k id lists place come → AreListed k id parts place 0 come lists
listed-whole k id parts place come lists kernel are rest = record {
  many = as-many lists parts.cores are;
  listed = λ i lt. let p = part lists parts.cores are i lt in (p.0, p.1, λ apart. p.2);
  from = from;
  all = λ inside core at v there.
      let p = part lists parts.cores are place inside in
      let same : p.0 ≡ core = some-of p.0 core (sym p.1 ∙ at) in
      rest.all inside v ((p.2.exact v).1 (subst (λ (c : Core). Contains (core_vars c) v) (sym same) there));
}
  where
    from : (v : ℕ) → Contains come v → (1 ≤ v) × (v ≤ length k.view + parts.fresh)
    from v there =
        let f = rest.from v there in
        let p = part lists parts.cores are place f.0 in
        let at : core_at (divided k id parts).cores (length (without k.cores id) + place + 1) ≡ Some p.0 =
        core_at-next (divided k id parts).cores (length (without k.cores id) + place) ∙ get_or-append-add (without k.cores id) (map Some parts.cores) place None ∙ p.1 in
        let b = core-bounds (divided k id parts) kernel (length (without k.cores id) + place + 1) p.0 at v ((p.2.exact v).0 f.1) in
        (b.0, omega (arith, b.1, length-append k.view (own_labels (length k.view + 1) parts.fresh), length-own_labels (length k.view + 1) parts.fresh))

-- what there is after a split
pub record HasSplit (told : Core → Equation → Type 0) (k new : Kernel) (next : OccurrenceLists) (queue next-queue : Ids) (marks : List Bool) : Type 0 where
  pub saturation : IsSaturation told new next next-queue marks
  pub queued : (other : ℕ) → 1 ≤ times other next-queue.queued → (1 ≤ times other queue.queued) ⊎ (length k.cores < other)
  pub grows : length next-queue.queued + length k.cores ≤ length queue.queued + length new.cores

module _ (told : Core → Equation → Type 0) (k new : Kernel) (id : ℕ) (parts : Parts) (lists : List (List ℕ)) (place unlisted : ℕ) (come : List ℕ)
    (first wide : OccurrenceLists) (queue wide-queue left-queue : Ids) (marks wide-marks left-marks : List Bool)
    (start : IsSaturation told k first queue marks) (wider : IsWider first wide queue wide-queue marks wide-marks) (room : HasRoom k parts.fresh (length come) lists wide wide-queue wide-marks)
    (at : ArePartsAt k id parts) (are : AreListed k id parts place unlisted come lists) (is : new ≡ divided k id parts)
    (queued : left-queue.queued ≡ without_id id wide-queue.queued) (places : left-queue.places ≡ wide-queue.places)
    (ids : IsIds left-queue) (marks-are : left-marks ≡ set wide-marks (id - 1) false) (kernel : IsKernel new)
  where
    saturation : IsSaturation told k wide wide-queue wide-marks
    saturation = saturation-wider told k first wide queue wide-queue marks wide-marks start wider

    bounds : (1 ≤ id) × (id ≤ length k.cores)
    bounds = at-bounds k id at.core at.there

    cores-are : new.cores ≡ without k.cores id ++ map Some parts.cores
    cores-are = ap (λ (kk : Kernel). kk.cores) is

    view-is : new.view ≡ with_own_labels k.view parts.fresh
    view-is = ap (λ (kk : Kernel). kk.view) is

    front : length (without k.cores id) ≡ length k.cores
    front = length-set k.cores (id - 1) None

    many : length new.cores ≡ length k.cores + length lists
    many = ap length cores-are ∙ length-append (without k.cores id) (map Some parts.cores) ∙ (let e = length-map parts.cores (λ (c : Core). Some c) in omega (arith, front, e, are.many))

    -- a part stands behind the other cores
    behind : (i : ℕ) → get_or new.cores (length k.cores + i) None ≡ get_or (map Some parts.cores) i None
    behind i =
        ap (λ (cs : List (Option Core)). get_or cs (length k.cores + i) None) cores-are
        ∙ ap (λ (n : ℕ). get_or (without k.cores id ++ map Some parts.cores) (n + i) None) (sym front)
        ∙ get_or-append-add (without k.cores id) (map Some parts.cores) i None

    lists-from : AreVarsFrom new.cores (length k.cores) unlisted lists
    lists-from i lt = let p = are.listed i lt in (p.0, behind i ∙ p.1, p.2)

    view-long : length new.view ≡ length k.view + parts.fresh
    view-long = ap length view-is ∙ length-append k.view (own_labels (length k.view + 1) parts.fresh) ∙ ap (λ (n : ℕ). length k.view + n) (length-own_labels (length k.view + 1) parts.fresh)

    taken : take (length k.cores) new.cores ≡ without k.cores id
    taken =
        ap (take (length k.cores)) cores-are
        ∙ ap (λ (n : ℕ). take n (without k.cores id ++ map Some parts.cores)) (sym front)
        ∙ take-append_seam (without k.cores id) (map Some parts.cores)

    -- the others stand as they did
    stand : StandBut id (take (length k.cores) new.cores) wide
    stand = subst (λ (cs : List (Option Core)). StandBut id cs wide) (sym taken) (stand-without k.cores wide id bounds.0 saturation.listed.there)

    empty : core_at (take (length k.cores) new.cores) id ≡ None
    empty = ap (λ (cs : List (Option Core)). core_at cs id) taken ∙ core_at-gone k.cores id bounds.0

    -- a variable of the core that has gone occurs in it
    had : place < length lists → (v : ℕ) → HasVarAt new.cores (length k.cores + place + 1) v → Contains come v ⊎ Occurs wide v id
    had inside v there =
        ⊎_elim (λ (c : Contains come v). inl c) (λ (h : HasVar k id v). inr ((saturation.listed.there v id (core-bounds k start.kernel id h.0 h.1 v h.2).0).1 h))
        (are.all inside there.0 (sym (behind place) ∙ sym (core_at-next new.cores (length k.cores + place)) ∙ there.1) v there.2)

    pub coming : AreComing new (length k.cores) id place unlisted come lists wide left-queue
    coming = record {
      kernel = kernel;
      listed = lists-from;
      many = many;
      bounds = bounds;
      empty = empty;
      stand = stand;
      occurrences = saturation.listed.occurrences;
      vars = omega (arith, view-long, room.vars);
      ids = room.ids;
      room = room.room;
      places = omega (arith, places, room.places);
      queued = ids;
      from = λ v there. let f = are.from v there in (f.0, omega (arith, f.1, view-long));
      all = had;
    }

    module _ (next : OccurrenceLists) (next-queue : Ids) (entered : HaveCome new (length k.cores) (length lists) next left-queue next-queue)
      where
        here : (other : ℕ) → (other ≡ id → ⊥) → other ≤ length k.cores → core_at new.cores other ≡ core_at k.cores other
        here other n within =
            ap (λ (cs : List (Option Core)). core_at cs other) cores-are
            ∙ core_at-left (without k.cores id) (map Some parts.cores) other (omega (arith, within, front))
            ∙ core_at-without k.cores id other bounds.0 n

        trimmed-same : (other : ℕ) → (other ≡ id → ⊥) → other ≤ length k.cores → trimmed_at new other ≡ trimmed_at k other
        trimmed-same other n within =
            ap (option_map (trimmed_core new.view)) (here other n within) ∙ ap (λ (v : List Atom). option_map (trimmed_core v) (core_at k.cores other)) view-is
            ∙ by (core_at k.cores other) refl
          where
            by : (o : Option Core) → core_at k.cores other ≡ o → option_map (trimmed_core (with_own_labels k.view parts.fresh)) o ≡ option_map (trimmed_core k.view) o
            by None e = refl
            by (Some core) e = ap Some (trimmed-more (length k.view + 1) k.view parts.fresh core (below-there k.cores other core e (length k.view + 1) start.kernel.below).0)

        goes-split : Goes k new id
        goes-split = record {
          kernel = kernel;
          longer = omega (arith, many);
          empty = ap (λ (cs : List (Option Core)). core_at cs id) cores-are
              ∙ core_at-left (without k.cores id) (map Some parts.cores) id (omega (arith, bounds.1, front))
              ∙ core_at-gone k.cores id bounds.0;
          at = λ other within n. here other n within;
          trimmed = λ other within n. trimmed-same other n within;
        }

        times-left : (other : ℕ) → (other ≡ id → ⊥) → times other left-queue.queued ≡ times other queue.queued
        times-left other n = ap (times other) queued ∙ times-without id other wide-queue.queued ∙ other-times ∙ ap (times other) wider.queued
          where
            other-times : (if other == id then 0 else times other wide-queue.queued) ≡ times other wide-queue.queued
            other-times = cond-false (other == id) 0 (times other wide-queue.queued) (ne_eqb other id n)

        gone-times : (other : ℕ) → other ≡ id → times other left-queue.queued ≡ 0
        gone-times other e =
            let yes : (other == id) ≡ true = grind (arith, nat_tests, e) in
            ap (times other) queued ∙ times-without id other wide-queue.queued ∙ ap (λ (t : Bool). if t then 0 else times other wide-queue.queued) yes

        part-there : (other : ℕ) → length k.cores < other → other ≤ length k.cores + length lists → (core : Core) × (core_at new.cores other ≡ Some core)
        part-there other past within =
            let i = other - length k.cores - 1 in
            let p = lists-from i (omega (arith, past, within)) in
            let e : other ≡ length k.cores + i + 1 = omega (arith, past) in
            (p.0, ap (core_at new.cores) e ∙ core_at-next new.cores (length k.cores + i) ∙ p.1)

        only-left : (other : ℕ) → 1 ≤ times other left-queue.queued → (other ≡ id → ⊥) × (1 ≤ times other queue.queued)
        only-left other there =
            ⊎_elim
            (λ (e : other ≡ id). absurd (omega (arith, there, gone-times other e)))
            (λ (n : other ≡ id → ⊥). (n, omega (arith, there, times-left other n)))
            (cases_eq other id)

        queues-split : Queues k new id queue next-queue
        queues-split = record {
          ids = entered.queued;
          places = omega (arith, many, places, room.places, entered.places);
          stays = λ other n there. entered.stays other (omega (arith, there, times-left other n));
          come = λ other core past is-there. entered.come other past (omega (arith, many, (there-bounds new.cores other core is-there).1));
          only = λ other there.
              ⊎_elim
              (λ (old : 1 ≤ times other left-queue.queued). inl (only-left other old))
              (λ (b : (length k.cores < other) × (other ≤ length k.cores + length lists)). inr (part-there other b.0 b.1))
              (entered.only other there);
        }

        saturation-split : IsSaturation told new next next-queue left-marks
        saturation-split =
            saturation-next told k new id first next queue next-queue marks left-marks start goes-split entered.listed queues-split
            (marked-gone k new id marks wide-marks left-marks bounds.0 wider.marks.mark marks-are (omega (arith, many, room.marks)))

        -- only the parts come into the queue
        only-parts : (other : ℕ) → 1 ≤ times other next-queue.queued → (1 ≤ times other queue.queued) ⊎ (length k.cores < other)
        only-parts other there =
            ⊎_elim
            (λ (old : 1 ≤ times other left-queue.queued). inl (only-left other old).1)
            (λ (b : (length k.cores < other) × (other ≤ length k.cores + length lists)). inr b.0)
            (entered.only other there)

        -- the queue grows by no more than the cores
        no-more : length next-queue.queued + length k.cores ≤ length queue.queued + length new.cores
        no-more =
            queue-grows (length k.cores) (length new.cores) queue.queued next-queue.queued (omega (arith, many))
            (λ other there. let p = start.pending other there in let b = there-bounds k.cores other p.0 p.1 in (b.0, omega (arith, b.1, many)))
            (λ other there. let p = saturation-split.pending other there in there-bounds new.cores other p.0 p.1)
            entered.queued.once
            only-parts

        pub has-split : HasSplit told k new next queue next-queue left-marks
        has-split = record { saturation = saturation-split; queued = only-parts; grows = no-more }
