-- Implied variables are resolved from the end of their list.
use Rattle.std.proofs.Common.{◌≡◌, ◌≢◌, ◌⊎◌, ℕ, ◌+◌, ◌<◌, List, [], ◌∷◌, ◌++◌, length, get_or, sym, ap, ◌∙◌, subst, inl, inr, arith}
use Rattle.std.specs.List.{Contains}
use Rattle.std.proofs.lemmas.Bool.{cases_eq}
use Rattle.order_ints.specs.declared.literal.Lit.{Lit}
use Rattle.literal_trail.specs.Trail.{Trail, IsTrail}
use Rattle.proof_check.specs.Named.{Named}
use Rattle.conflict_analysis.specs.declared.marks.Mark.{Mark}
use Rattle.conflict_analysis.specs.declared.marks.Mark.TheVariants.{Blank, Met, Resolved, Kept, Implied}
use Rattle.conflict_analysis.specs.Marking.{mark_at}
use Rattle.conflict_analysis.specs.Reasons.{AreReasons, HasReason, reason_at}
use Rattle.conflict_analysis.specs.Walking.{resolved_by}
use Rattle.conflict_analysis.specs.Resolving.{IsFollowing}
use Rattle.conflict_analysis.specs.Seeking.{IsOrdered, AreOrdered}
use Rattle.conflict_analysis.proofs.Places.{reason-of, in-range}
use Rattle.conflict_analysis.proofs.Resolves.{met-not-blank, After, its_own, marked, unmarked, now_met, after-all, resolving-next}
use Rattle.conflict_analysis.proofs.Seeks.{reason-live}

-- a listed variable is in range, and has a reason that lives
module _ (t : Trail) (tr : IsTrail t) (named : ℕ → Named) (first minimiser : List Mark) (order : List ℕ) (o : AreOrdered t.entries named first minimiser order) (k : ℕ) (inside : k < length order) where
  pub ordered-low : get_or order k 0 < t.vars + 1
  ordered-low =
      let m = (o.each k inside).may_enter in
      let b = in-range t tr (get_or order k 0) m.entry m.found in
      omega arith

  pub ordered-reason : (lives : ℕ → Type 0) (rs : AreReasons t.entries named lives) → HasReason t.entries lives (get_or order k 0)
  ordered-reason lives rs =
      let m = (o.each k inside).may_enter in
      record { entry = m.entry; found = m.found; reference = m.reference; because = m.because; live = reason-live t tr named lives rs (get_or order k 0) m.reference m.entry m.found m.because }

module _ (t : Trail) (tr : IsTrail t) (named : ℕ → Named) (lives : ℕ → Type 0) (rs : AreReasons t.entries named lives) (first : List Mark) (minimiser : List Mark) (order : List ℕ)
    (o : AreOrdered t.entries named first minimiser order) (spare : List Lit) (bound : ℕ) (conflict : Named) (cells : List Mark) (hints : List ℕ) (k : ℕ) (inside : k < length order)
    (h : IsFollowing t.entries named spare bound conflict minimiser order cells hints (k + 1)) where
  -- one that isn't met is passed
  pub following-pass : mark_at cells (get_or order k 0) ≢ Met → IsFollowing t.entries named spare bound conflict minimiser order cells hints k
  following-pass n = record {
    resolving = h.resolving;
    ahead = λ i l. h.ahead i (omega arith);
    met = λ v m. elim (h.met v m) [
      | inl f ↦ inl f
      | inr r ↦
          let low : r.0 < k + 1 = r.1 in
          elim (cases_eq r.0 k) [
            | inl e ↦ absurd (n (ap (mark_at cells) (ap (λ (j : ℕ). get_or order j 0) (sym e) ∙ r.2) ∙ m))
            | inr d ↦ inr (r.0, omega arith, r.2)
          ]
    ];
    kept = h.kept;
  }

  -- one that is met is resolved
  module _ (met : mark_at cells (get_or order k 0) ≡ Met) (size : length cells ≡ t.vars + 1) where
    abbrev v : ℕ
    v = get_or order k 0

    is : IsOrdered t.entries named first minimiser order k
    is = o.each k inside

    reason : reason_at named t.entries (get_or order k 0) ≡ named is.may_enter.reference
    reason = reason-of named t.entries (get_or order k 0) is.may_enter.reference is.may_enter.entry is.may_enter.found is.may_enter.because

    -- what its reason needs is met, or not met yet
    free : (l : Lit) → Contains (named is.may_enter.reference).lits l → l.var ≢ get_or order k 0 → (mark_at cells l.var ≡ Blank) ⊎ (mark_at cells l.var ≡ Met)
    free l c n = elim (is.others l (subst (λ (r : Named). Contains r.lits l) (sym reason) c)) [
      | inl e ↦ absurd (n e)
      | inr r ↦ elim r [
        | inl f ↦ inr (h.kept l.var f)
        | inr j ↦
            let low : j.0 < k = j.1 in
            subst (λ (x : ℕ). (mark_at cells x ≡ Blank) ⊎ (mark_at cells x ≡ Met)) j.2 (h.ahead j.0 (omega arith))
      ]
    ]

    abbrev new : List Mark
    new = resolved_by cells (get_or order k 0) (named is.may_enter.reference).lits

    after : (w : ℕ) → After t.entries (named is.may_enter.reference).lits cells (resolved_by cells (get_or order k 0) (named is.may_enter.reference).lits) (get_or order k 0) w
    after w = after-all t tr named lives rs cells size (get_or order k 0) is.may_enter.reference is.may_enter.entry is.may_enter.found is.may_enter.because w

    pub following-next : (cells_after : List Mark) (hints_after : List ℕ) → cells_after ≡ resolved_by cells (get_or order k 0) (reason_at named t.entries (get_or order k 0)).lits
        → hints_after ≡ hints ++ (reason_at named t.entries (get_or order k 0)).id ∷ [] → IsFollowing t.entries named spare bound conflict minimiser order cells_after hints_after k
    following-next cells_after hints_after e f = rw (e, f, reason) (record {
      resolving = resolving-next t tr named lives rs cells size (get_or order k 0) is.may_enter.reference is.may_enter.entry is.may_enter.found is.may_enter.because
          spare bound conflict hints h.resolving met free;
      ahead = λ i l.
          let low : i < k + 1 = omega arith in
          let differs : get_or order i 0 ≢ get_or order k 0 = λ q. let z : i ≡ k = o.once i k (omega arith) inside q in omega arith in
          elim (after (get_or order i 0)) [
            | its_own s q ↦ absurd (differs s)
            | marked d b q ↦ elim (h.ahead i low) [ inl x ↦ absurd (b x) | inr x ↦ inr (q ∙ x) ]
            | unmarked d b q ↦ inl q
            | now_met d b q p l' f' s ↦ inr q
          ];
      met = λ w m. met-next w m (after w);
      kept = λ w q.
          let was : mark_at cells w ≡ Met = h.kept w q in
          let differs : w ≢ get_or order k 0 = λ s. let z : Kept ≡ Implied = sym q ∙ ap (mark_at minimiser) s ∙ is.marked in cc in
          elim (after w) [
            | its_own s p ↦ absurd (differs s)
            | marked d b p ↦ p ∙ was
            | unmarked d b p ↦ absurd (met-not-blank (mark_at cells w) was b)
            | now_met d b p x l f' s ↦ p
          ];
    })
      where
        new-one : (w : ℕ) → w ≢ get_or order k 0 → (l : Lit) → Contains (named is.may_enter.reference).lits l → l.var ≡ w → (mark_at minimiser w ≡ Kept) ⊎ ((i : ℕ) × (i < k) × (get_or order i 0 ≡ w))
        new-one w d l c s = elim (is.others l (subst (λ (r : Named). Contains r.lits l) (sym reason) c)) [
          | inl e ↦ absurd (d (sym s ∙ e))
          | inr r ↦ elim r [
            | inl f' ↦ inl (ap (mark_at minimiser) (sym s) ∙ f')
            | inr j ↦ inr (j.0, j.1, j.2 ∙ s)
          ]
        ]

        met-next : (w : ℕ) → mark_at (resolved_by cells (get_or order k 0) (named is.may_enter.reference).lits) w ≡ Met → After t.entries (named is.may_enter.reference).lits cells (resolved_by cells (get_or order k 0) (named is.may_enter.reference).lits) (get_or order k 0) w
            → (mark_at minimiser w ≡ Kept) ⊎ ((i : ℕ) × (i < k) × (get_or order i 0 ≡ w))
        met-next w m a = elim a [
          | its_own s q ↦ let z : Met ≡ Resolved = sym m ∙ q in absurd cc
          | marked d b q ↦ elim (h.met w (sym q ∙ m)) [
            | inl f' ↦ inl f'
            | inr r ↦
                let low : r.0 < k + 1 = r.1 in
                let n : r.0 ≢ k = λ x. d (sym r.2 ∙ ap (λ (j : ℕ). get_or order j 0) x) in
                inr (r.0, omega arith, r.2)
          ]
          | unmarked d b q ↦ let z : Met ≡ Blank = sym m ∙ q in absurd cc
          | now_met d b q p l c s ↦ new-one w d l c s
        ]
