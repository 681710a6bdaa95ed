-- Going back to where a learned clause is unit.
use Rattle.std.proofs.Common.{◌≡◌, ℕ, suc, ◌≤◌, ◌<◌, true, false, List, [], ◌∷◌, ◌++◌, length, drop, Option, Some, None, refl, ap, sym, ◌∙◌, subst, arith, ⊎_elim, inl, inr}
use Rattle.std.specs.Prelude.{Contains}
use Rattle.std.proofs.lemmas.Bool.{cases_lt}
use Rattle.order_ints.specs.declared.literal.Lit.{Lit}
use Rattle.literal_trail.specs.declared.entry.Entry.{Entry}
use Rattle.literal_trail.specs.Trail.{Trail, IsTrail, entry_at, entry_of, truth_in, up_to, implied, cut_back}
use Rattle.literal_trail.specs.Standing.{IsUnit}
use Rattle.literal_trail.proofs.Entries.{truth_in-none, truth_in-same, truth_in-stays}
use Rattle.literal_trail.proofs.Levels.{entry_of-up_to, entry_of-above, take-up_to, up_to-up_to, decision_behind, up_to-kept, up_to-cut}
use Rattle.clause_arena.specs.Clauses.{lit_in}
use Rattle.clause_rings.specs.Clauses.{MayCome}
use Rattle.conflict_analysis.specs.Learned.{AreKept, IsFalseAt, IsSecond}
use Rattle.learning_solver.specs.Height.{height}
use Rattle.learning_solver.specs.Searching.{IsAssumed}
use Rattle.learning_solver.proofs.HeightLaws.{height-falls}
use Rattle.learning_solver.proofs.ReasonLaws.{level-entry, member-first, member-cases, at-place}

module _ (t : Trail) (is : IsTrail t) (first : Lit) (others : List Lit) (jump : ℕ) (kept : AreKept t.entries t.level first others jump) where
  -- the first literal is free there
  pub first-free : entry_of (up_to jump t.entries) first.var ≡ None
  first-free =
      let w = level-entry t.entries first.var t.level kept.now.of_level in
      entry_of-above jump t.entries first.var w.0 w.1 (omega (arith, w.2, kept.below))

  -- and the others are false
  low-false : (n : ℕ) (l : Lit) → n ≤ jump → IsFalseAt t.entries n l → truth_in (up_to jump t.entries) l ≡ Some false
  low-false n l low false_at =
      let w = level-entry t.entries l.var n false_at.of_level in
      truth_in-same (up_to jump t.entries) t.entries l (entry_of-up_to jump t.entries 0 t.level l.var w.0 is.levelled w.1 (omega (arith, w.2, low)) ∙ sym w.1) ∙ false_at.is_false

  pub unit-there : IsUnit (up_to jump t.entries) (first ∷ others) first
  unit-there = record {
    is_in = member-first first others;
    free = truth_in-none (up_to jump t.entries) first first-free;
    others = λ l has ne.
        ⊎_elim
        (λ (same : first ≡ l). absurd (ne (sym same)))
        (λ (there : Contains others l). let w = kept.lower l there in low-false w.level l w.up_to w.at)
        (member-cases first others l has);
  }

  -- so the clause may come
  pub may-come : MayCome (cut_back t jump) (first ∷ others)
  may-come = by-others others kept.second
    where
      by-others : (ls : List Lit) → IsSecond t.entries jump ls → MayCome (cut_back t jump) (first ∷ ls)
      by-others [] second = inl second
      by-others (l ∷ ls) second =
          let w = level-entry t.entries l.var jump second.of_level in
          let there = entry_of-up_to jump t.entries 0 t.level l.var w.0 is.levelled w.1 (omega (arith, w.2)) in
          inr (record {
            one = 0;
            other = 1;
            apart = λ e. omega arith;
            one_in = omega arith;
            other_in = omega arith;
            one_late = λ e found fails. let none : None ≡ Some e = sym first-free ∙ found in cc;
            other_late = λ e found fails. let same : Some w.0 ≡ Some e = sym there ∙ found in let one : w.0 ≡ e = cc in ap (λ (x : Entry). x.level) (sym one) ∙ w.2;
          })

  -- and the trail's number falls
  pub number-falls : (c : ℕ) → height (implied (cut_back t jump) first c) < height t
  number-falls c =
      let m = length (up_to jump t.entries) in
      let behind = decision_behind jump t.entries 0 t.level is.levelled (omega arith) kept.below in
      let whole : t.entries ≡ up_to jump t.entries ++ entry_at t.entries m ∷ drop (suc m) t.entries
      = at-place t.entries m behind.below ∙ ap (λ (l : List Entry). l ++ entry_at t.entries m ∷ drop (suc m) t.entries) (take-up_to jump t.entries) in
      let falls = height-falls t.vars (up_to jump t.entries) (entry_at t.entries m) (drop (suc m) t.entries) (record { lit = first; level = jump; reason = Some c }) c (omega (arith, behind.below, is.fits)) behind.decided refl in
      let same = ap (λ (es : List Entry). height (record { vars = t.vars; entries = es; level = t.level })) whole in
      omega (arith, falls, same)

-- a prefix of more entries is that of fewer, and perhaps more
front-more : (k : ℕ) (es more : List Entry) → (rest : List Entry) × (up_to k (es ++ more) ≡ up_to k es ++ rest)
front-more k [] more = (up_to k more, refl)
front-more k (e ∷ es) more =
    ⊎_elim
    (λ (cut : k < e.level).
    let none : List Entry = [] in
    (none, up_to-cut k e (es ++ more) cut ∙ sym (ap (λ (l : List Entry). l ++ []) (up_to-cut k e es cut))))
    (λ (kept : e.level ≤ k).
    let w = front-more k es more in
    (w.0, up_to-kept k e (es ++ more) kept ∙ ap (λ (l : List Entry). e ∷ l) w.1 ∙ sym (ap (λ (l : List Entry). l ++ w.0) (up_to-kept k e es kept))))
    (cases_lt k e.level)

-- what is true by level 1 is so with more entries
pub assumed-more : (t : Trail) (u : Trail) (more : List Entry) (a : Option Lit) → u.entries ≡ t.entries ++ more → IsAssumed t a → IsAssumed u a
assumed-more t u more None e was = tt
assumed-more t u more (Some l) e was =
    let w = front-more 1 t.entries more in
    let P : List Entry → Type 0 = λ es. truth_in es l ≡ Some true in
    subst P (sym (ap (up_to 1) e ∙ w.1)) (truth_in-stays (up_to 1 t.entries) w.0 l true was)

-- and after a jump to level 1 or above
pub assumed-cut : (t : Trail) (jump : ℕ) (a : Option Lit) → 1 ≤ jump → IsAssumed t a → IsAssumed (cut_back t jump) a
assumed-cut t jump None low was = tt
assumed-cut t jump (Some l) low was =
    let P : List Entry → Type 0 = λ es. truth_in es l ≡ Some true in subst P (sym (up_to-up_to 1 jump t.entries low)) was

-- the same, of values that are equal to these
module _ (t : Trail) (is : IsTrail t) (first : Lit) (others : List Lit) (jump : ℕ) (kept : AreKept t.entries t.level first others jump) (u : Trail) (back : u ≡ cut_back t jump) (ls : List Lit) (shape : ls ≡ first ∷ others) where
  pub may-come-then : MayCome u ls
  may-come-then =
      let P : Trail → Type 0 = λ x. MayCome x ls in
      let Q : List Lit → Type 0 = MayCome (cut_back t jump) in
      subst P (sym back) (subst Q (sym shape) (may-come t is first others jump kept))

  pub free-then : (l : Lit) → l ≡ first → entry_of u.entries l.var ≡ None
  free-then l same =
      ap (λ (x : Trail). entry_of x.entries l.var) back ∙ ap (λ (x : Lit). entry_of (up_to jump t.entries) x.var) same ∙ first-free t is first others jump kept

  pub unit-then : (l : Lit) → l ≡ first → IsUnit u.entries ls l
  unit-then l same =
      let P : Trail → Type 0 = λ x. IsUnit x.entries ls l in
      let Q : List Lit → Type 0 = λ xs. IsUnit (up_to jump t.entries) xs l in
      let R : Lit → Type 0 = IsUnit (up_to jump t.entries) (first ∷ others) in
      subst P (sym back) (subst Q (sym shape) (subst R (sym same) (unit-there t is first others jump kept)))

  turned-trail : (l : Lit) (c : ℕ) → l ≡ first → implied u l c ≡ implied (cut_back t jump) first c
  turned-trail l c same = ap (λ (x : Trail). implied x l c) back ∙ ap (λ (x : Lit). implied (cut_back t jump) x c) same

  pub falls-then : (l : Lit) (c : ℕ) (v : Trail) → l ≡ first → v ≡ implied u l c → height v < height t
  falls-then l c v same now =
      let e : v ≡ implied (cut_back t jump) first c = now ∙ turned-trail l c same in
      omega (arith, ap height e, number-falls t is first others jump kept c)

  pub assumed-then : (l : Lit) (c : ℕ) (v : Trail) → l ≡ first → v ≡ implied u l c → (a : Option Lit) → (1 ≤ t.level → IsAssumed t a) → 1 ≤ v.level → IsAssumed v a
  assumed-then l c v same now a was above =
      let e : v ≡ implied (cut_back t jump) first c = now ∙ turned-trail l c same in
      let P : Trail → Type 0 = λ x. IsAssumed x a in
      let high : 1 ≤ jump = omega (arith, above, ap (λ (x : Trail). x.level) e) in
      subst P (sym e)
      (assumed-more (cut_back t jump) (implied (cut_back t jump) first c) (record { lit = first; level = jump; reason = Some c } ∷ []) a refl
      (assumed-cut t jump a high (was (omega (arith, kept.below)))))

-- the first literal of a clause
pub first-of : (ls : List Lit) (first : Lit) (others : List Lit) (l : Lit) → l ≡ lit_in ls 0 → ls ≡ first ∷ others → l ≡ first
first-of ls first others l is shape = is ∙ ap (λ (xs : List Lit). lit_in xs 0) shape

pub has-first : (ls : List Lit) (first : Lit) (others : List Lit) (l : Lit) → l ≡ first → ls ≡ first ∷ others → Contains ls l
has-first ls first others l same shape =
    let P : List Lit → Type 0 = λ xs. Contains xs l in
    let Q : Lit → Type 0 = Contains (first ∷ others) in
    subst P (sym shape) (subst Q (sym same) (member-first first others))
