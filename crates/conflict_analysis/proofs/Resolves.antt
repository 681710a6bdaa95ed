-- What one more resolved literal leaves.
use Rattle.std.proofs.Common.{◌≡◌, ◌≢◌, ◌⊎◌, ℕ, ◌+◌, ◌<◌, false, List, [], ◌∷◌, ◌++◌, length, set, Some, refl, sym, ap, ◌∙◌, subst, inl, inr, arith}
use Rattle.std.specs.List.{Contains}
use Rattle.std.proofs.lemmas.List.{length-set, get_or_past}
use Rattle.std.proofs.lemmas.Bool.{cases_eq, cases_lt}
use Rattle.order_ints.specs.declared.literal.Lit.{Lit}
use Rattle.order_ints.specs.Truth.{not_lit}
use Rattle.literal_trail.specs.declared.entry.Entry.{Entry}
use Rattle.literal_trail.specs.Trail.{Trail, IsTrail, entry_of, truth_in}
use Rattle.proof_check.specs.Named.{Named}
use Rattle.conflict_analysis.specs.declared.marks.Mark.{Mark}
use Rattle.conflict_analysis.specs.declared.marks.Mark.TheVariants.{Blank, Met, Resolved}
use Rattle.conflict_analysis.specs.Marking.{mark_at}
use Rattle.conflict_analysis.specs.Reasons.{AreReasons, place_of}
use Rattle.conflict_analysis.specs.Learned.{Step, IsStep}
use Rattle.conflict_analysis.specs.Walking.{resolved_by}
use Rattle.conflict_analysis.specs.Resolving.{IsResolving, Known}
use Rattle.conflict_analysis.proofs.Cells.{at-same, at-other, blank-cases, in-cells}
use Rattle.conflict_analysis.proofs.Members.{contains-cases}
use Rattle.conflict_analysis.proofs.Literals.{not-lit-flip}
use Rattle.conflict_analysis.proofs.Places.{entry-place, in-range, false-entry, reason-lits}
use Rattle.conflict_analysis.proofs.Meets.{met-stays, met-new, met-all, length-met}
use Rattle.conflict_analysis.proofs.Derived.{derives-more, no-step-var}

pub met-not-blank : (m : Mark) → m ≡ Met → m ≢ Blank
met-not-blank m e b = let x : Met ≡ Blank = sym e ∙ b in cc

pub resolved-not-blank : (m : Mark) → m ≡ Resolved → m ≢ Blank
resolved-not-blank m e b = let x : Resolved ≡ Blank = sym e ∙ b in cc

pub met-not-resolved : (m : Mark) → m ≡ Met → m ≢ Resolved
met-not-resolved m e b = let x : Met ≡ Resolved = sym e ∙ b in cc

-- what a mark is after a variable is resolved
pub data After (entries : List Entry) (lits : List Lit) (cells new : List Mark) (v w : ℕ) : Type 0 where
  its_own : w ≡ v → mark_at new w ≡ Resolved → After entries lits cells new v w
  marked : w ≢ v → mark_at cells w ≢ Blank → mark_at new w ≡ mark_at cells w → After entries lits cells new v w
  unmarked : w ≢ v → mark_at cells w ≡ Blank → mark_at new w ≡ Blank → After entries lits cells new v w
  now_met : w ≢ v → mark_at cells w ≡ Blank → mark_at new w ≡ Met → place_of entries w < place_of entries v → (l : Lit) → Contains lits l → l.var ≡ w → After entries lits cells new v w

module _ (t : Trail) (tr : IsTrail t) (named : ℕ → Named) (lives : ℕ → Type 0) (rs : AreReasons t.entries named lives) (cells : List Mark) (size : length cells ≡ t.vars + 1)
    (v c : ℕ) (e : Entry) (found : entry_of t.entries v ≡ Some e) (because : e.reason ≡ Some c) where
  low : v < length cells
  low = let r = in-range t tr v e found in omega arith

  size-set : length (set cells v Resolved) ≡ t.vars + 1
  size-set = length-set cells v Resolved ∙ size

  own-var : e.lit.var ≡ v
  own-var = (entry-place t.entries v e found).2

  -- a literal of the reason but its own is false and older
  pub older : (l : Lit) → Contains (named c).lits l → l.var ≢ v → (truth_in t.entries l ≡ Some false) × (place_of t.entries l.var < place_of t.entries v)
  older l has n = elim ((reason-lits t tr named lives rs v c e found because).1 l has) [
    | inl s ↦ absurd (n (ap (λ (x : Lit). x.var) s ∙ own-var))
    | inr r ↦ r
  ]

  pub after-size : length (resolved_by cells v (named c).lits) ≡ length cells
  after-size = length-met (set cells v Resolved) v (named c).lits ∙ length-set cells v Resolved

  own-now : mark_at (set cells v Resolved) v ≡ Resolved
  own-now = at-same cells v Resolved low

  pub after : (w : ℕ) → w < length cells → After t.entries (named c).lits cells (resolved_by cells v (named c).lits) v w
  after w lw = elim (cases_eq w v) [
    | inl s ↦
        let r : mark_at (resolved_by cells v (named c).lits) v ≡ Resolved = met-stays (set cells v Resolved) v (named c).lits v (resolved-not-blank (mark_at (set cells v Resolved) v) own-now) ∙ own-now in
        its_own s (ap (mark_at (resolved_by cells v (named c).lits)) s ∙ r)
    | inr n ↦
        let same : mark_at (set cells v Resolved) w ≡ mark_at cells w = at-other cells v w Resolved n in
        elim (blank-cases (mark_at cells w)) [
          | inl b ↦ elim (met-new (set cells v Resolved) v (named c).lits w (rw (length-set cells v Resolved) lw) (same ∙ b)) [
            | inl k ↦ unmarked n b k
            | inr k ↦
                let o = older k.2.0 k.2.1 (λ q. n (sym k.2.2 ∙ q)) in
                now_met n b k.0 (subst (λ (x : ℕ). place_of t.entries x < place_of t.entries v) k.2.2 o.1) k.2.0 k.2.1 k.2.2
          ]
          | inr b ↦ marked n b (met-stays (set cells v Resolved) v (named c).lits w (λ q. b (sym same ∙ q)) ∙ same)
        ]
  ]

  pub after-all : (w : ℕ) → After t.entries (named c).lits cells (resolved_by cells v (named c).lits) v w
  after-all w = elim (cases_lt w (length cells)) [
    | inl l ↦ after w l
    | inr l ↦
        let n : w ≢ v = λ q. let k : v < length cells = low in omega arith in
        let k : length (resolved_by cells v (named c).lits) ≡ length cells = after-size in
        unmarked n (get_or_past cells w Blank l) (get_or_past (resolved_by cells v (named c).lits) w Blank (omega arith))
  ]

  pub after-met : (l : Lit) → Contains (named c).lits l → l.var ≢ v → (mark_at cells l.var ≡ Blank) ⊎ (mark_at cells l.var ≡ Met) → mark_at (resolved_by cells v (named c).lits) l.var ≡ Met
  after-met l has n was =
      let f = false-entry t.entries l (older l has n).0 in
      let r = in-range t tr l.var f.0 f.1 in
      let lw : l.var < length (set cells v Resolved) = rw (length-set cells v Resolved) (omega arith) in
      let same : mark_at (set cells v Resolved) l.var ≡ mark_at cells l.var = at-other cells v l.var Resolved n in
      elim was [
        | inl b ↦ met-all (set cells v Resolved) v (named c).lits l has n lw (same ∙ b)
        | inr m ↦ met-stays (set cells v Resolved) v (named c).lits l.var (met-not-blank (mark_at (set cells v Resolved) l.var) (same ∙ m)) ∙ same ∙ m
      ]

  module _ (spare : List Lit) (bound : ℕ) (conflict : Named) (hints : List ℕ) (h : IsResolving t.entries named spare bound conflict cells hints)
      (met : mark_at cells v ≡ Met)
      (free : (l : Lit) → Contains (named c).lits l → l.var ≢ v → (mark_at cells l.var ≡ Blank) ⊎ (mark_at cells l.var ≡ Met)) where
    abbrev step : Step
    step = record { lit = e.lit; reason = named c }

    still : (l : Lit) → Known t.entries spare cells l → Known t.entries spare (resolved_by cells v (named c).lits) l ⊎ (l ≡ not_lit e.lit)
    still l k = elim k [
      | inl s ↦ inl (inl s)
      | inr m ↦ elim (cases_eq l.var v) [
        | inl s ↦
            let f = false-entry t.entries l m.1 in
            let same : f.0 ≡ e = let q : Some f.0 ≡ Some e = sym f.1 ∙ ap (entry_of t.entries) s ∙ found in cc in
            inr (not-lit-flip e.lit l (ap (λ (x : Entry). x.lit) (sym same) ∙ f.2))
        | inr n ↦
            let same : mark_at (set cells v Resolved) l.var ≡ mark_at cells l.var = at-other cells v l.var Resolved n in
            inl (inr (met-stays (set cells v Resolved) v (named c).lits l.var (met-not-blank (mark_at (set cells v Resolved) l.var) (same ∙ m.0)) ∙ same ∙ m.0, m.1))
      ]
    ]

    leads : (l : Lit) → Contains (named c).lits l → (l ≡ e.lit) ⊎ Known t.entries spare (resolved_by cells v (named c).lits) l
    leads l has = elim ((reason-lits t tr named lives rs v c e found because).1 l has) [
      | inl s ↦ inl s
      | inr r ↦
          let n : l.var ≢ v = λ q. let k : place_of t.entries v < place_of t.entries v = subst (λ (x : ℕ). place_of t.entries x < place_of t.entries v) q r.1 in omega arith in
          inr (inr (after-met l has n (free l has n), r.0))
    ]

    old-var : (s : Step) → Contains h.steps s → v ≢ s.lit.var
    old-var s k q = met-not-resolved (mark_at cells v) met (ap (mark_at cells) q ∙ h.resolved s k)

    old-resolved : (s : Step) → Contains h.steps s → mark_at (resolved_by cells v (named c).lits) s.lit.var ≡ Resolved
    old-resolved s k =
        let n : s.lit.var ≢ v = λ q. old-var s k (sym q) in
        let same : mark_at (set cells v Resolved) s.lit.var ≡ mark_at cells s.lit.var = at-other cells v s.lit.var Resolved n in
        met-stays (set cells v Resolved) v (named c).lits s.lit.var (resolved-not-blank (mark_at (set cells v Resolved) s.lit.var) (same ∙ h.resolved s k)) ∙ same ∙ h.resolved s k

    own-resolved : mark_at (resolved_by cells v (named c).lits) e.lit.var ≡ Resolved
    own-resolved = ap (mark_at (resolved_by cells v (named c).lits)) own-var ∙ met-stays (set cells v Resolved) v (named c).lits v (resolved-not-blank (mark_at (set cells v Resolved) v) own-now) ∙ own-now

    pub resolving-next : IsResolving t.entries named spare bound conflict (resolved_by cells v (named c).lits) (hints ++ (named c).id ∷ [])
    resolving-next = record {
      steps = step ∷ h.steps;
      told = ap (λ (ids : List ℕ). ids ++ (named c).id ∷ []) h.told;
      derives = (
        record { has = (reason-lits t tr named lives rs v c e found because).0; others = leads },
        derives-more (Known t.entries spare cells) (λ l. Known t.entries spare (resolved_by cells v (named c).lits) l ⊎ (l ≡ not_lit e.lit)) still h.steps conflict.lits h.derives,
      );
      of_trail = λ s k. elim (contains-cases step s h.steps k) [
        | inl q ↦ subst (λ (x : Step). IsStep t.entries named x) q (record { entry = e; found = ap (entry_of t.entries) own-var ∙ found; same = refl; reference = c; because = because; names = refl })
        | inr k' ↦ h.of_trail s k'
      ];
      resolved = λ s k. elim (contains-cases step s h.steps k) [
        | inl q ↦ subst (λ (x : Step). mark_at (resolved_by cells v (named c).lits) x.lit.var ≡ Resolved) q own-resolved
        | inr k' ↦ old-resolved s k'
      ];
      differ = (no-step-var e.lit.var h.steps (λ s k q. old-var s k (sym own-var ∙ q)), h.differ);
      inside = λ w r.
          let lw : w < length cells = subst (λ (n : ℕ). w < n) after-size (in-cells (resolved_by cells v (named c).lits) w r) in
          elim (after w lw) [
            | its_own s k ↦ subst (λ (x : ℕ). place_of t.entries x < bound) (sym s) (h.inside v (met-not-blank (mark_at cells v) met))
            | marked n k q ↦ h.inside w k
            | unmarked n k q ↦ absurd (r q)
            | now_met n k q p l f s ↦ let b : place_of t.entries v < bound = h.inside v (met-not-blank (mark_at cells v) met) in omega arith
          ];
    }
