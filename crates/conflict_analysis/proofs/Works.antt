-- What the parts of an analysis come to.
use Rattle.std.proofs.Common.{◌≡◌, ◌≢◌, ◌⊎◌, ℕ, ◌+◌, ◌<◌, ◌≤◌, false, List, [], ◌∷◌, length, set, reverse, replicate, get_or, Some, refl, sym, ap, ◌∙◌, subst, inl, inr, arith}
use Rattle.std.specs.List.{Contains, All}
use Rattle.std.proofs.lemmas.List.{length-replicate, get_or_default, get_or_past}
use Rattle.std.proofs.lemmas.Bool.{cases_eq, cases_lt}
use Rattle.std.proofs.lemmas.List.Elements.{Contains-get_or}
use Rattle.order_ints.specs.declared.literal.Lit.{Lit}
use Rattle.order_ints.specs.Truth.{not_lit}
use Rattle.literal_trail.specs.declared.entry.Entry.{Entry}
use Rattle.literal_trail.specs.Trail.{Trail, IsTrail, entry_of, truth_in}
use Rattle.proof_check.specs.Named.{Named}
use Rattle.proof_check.specs.Values.{VarsDiffer}
use Rattle.conflict_analysis.specs.declared.marks.Mark.{Mark}
use Rattle.conflict_analysis.specs.declared.marks.Mark.TheVariants.{Blank, Met, Resolved, Entered, Kept, Failed, Implied}
use Rattle.conflict_analysis.specs.declared.minimiser.Frame.{Frame}
use Rattle.conflict_analysis.specs.Marking.{mark_at}
use Rattle.conflict_analysis.specs.Reasons.{AreReasons, the_entry, level_at, place_of}
use Rattle.conflict_analysis.specs.Learned.{IsLearned, AreKept}
use Rattle.conflict_analysis.specs.Walking.{met_by}
use Rattle.conflict_analysis.specs.Resolving.{IsResolving, IsFollowing, IsWalked, Known}
use Rattle.conflict_analysis.specs.Seeking.{IsSeeking, AreOrdered, AreRoots, AllKnown, StayKept}
use Rattle.conflict_analysis.specs.Working.{AreWalked, IsDerived, IsEnded, AreFewer, IsLearning, IsBottom, IsSpared}
use Rattle.conflict_analysis.specs.Collecting.{IsCollected}
use Rattle.conflict_analysis.specs.Analysis.{Analysis, IsAnalysed, IsRefuted, IsFalseAtBottom, IsForced}
use Rattle.conflict_analysis.proofs.Cells.{at-same, at-other, at-blank}
use Rattle.conflict_analysis.proofs.Members.{contains-here, contains-nil, contains-cases}
use Rattle.conflict_analysis.proofs.Literals.{not-lit-flip}
use Rattle.conflict_analysis.proofs.Places.{entry-place, place-entry, false-entry, the-entry, level-of, level-in, in-range, reason-lits, level-rises}
use Rattle.conflict_analysis.proofs.Derived.{derives-more, hints-backward, no-lit-var}
use Rattle.conflict_analysis.proofs.Resolves.{met-not-blank, met-not-resolved, resolved-not-blank}
use Rattle.conflict_analysis.proofs.Meets.{met-new, met-all, length-met}

module _ (entries : List Entry) (named : ℕ → Named) (cells minimiser : List Mark) (order : List ℕ) (h : IsSeeking entries named cells minimiser [] order) where
  -- what was found is listed in order
  pub sought-ordered : AreOrdered entries named cells minimiser order
  sought-ordered = record { each = h.ordered; once = h.once }

  -- a variable that is met stays or is listed
  known-outcome : (v : ℕ) → mark_at cells v ≡ Met → (m : Mark) → mark_at minimiser v ≡ m → mark_at minimiser v ≢ Blank → (mark_at minimiser v ≡ Kept) ⊎ Contains order v
  known-outcome v met Blank e n = absurd (n e)
  known-outcome v met Met e n = absurd ((h.proper v).0 e)
  known-outcome v met Resolved e n = absurd ((h.proper v).1 e)
  known-outcome v met Entered e n = let k = h.entered v e in let l : k.0 < length {A = Frame} [] = k.1 in absurd (omega arith)
  known-outcome v met Kept e n = inl e
  known-outcome v met Failed e n = absurd ((h.failed v e).0 met)
  known-outcome v met Implied e n = inr (h.implied v e)

  -- before the listed ones are followed
  pub following-start : (spare : List Lit) (bound : ℕ) (conflict : Named) (hints : List ℕ) → AreWalked cells → AllKnown cells minimiser → IsResolving entries named spare bound conflict cells hints
      → IsFollowing entries named spare bound conflict minimiser order cells hints (length order)
  following-start spare bound conflict hints walked known r = record {
    resolving = r;
    ahead = λ i l. elim (walked (get_or order i 0)) [
      | inl b ↦ inl b
      | inr x ↦ elim x [
        | inl m ↦ inr m
        | inr m ↦ let b : level_at entries (get_or order i 0) < level_at entries (get_or order i 0) = (h.ordered i l).below (get_or order i 0) m in absurd (omega arith)
      ]
    ];
    met = λ v m. elim (known-outcome v m (mark_at minimiser v) refl (known v m)) [
      | inl k ↦ inl k
      | inr c ↦ inr (c.0, c.1, get_or_default order c.0 0 v c.1 ∙ c.2)
    ];
    kept = λ v k. (h.kept v k).0;
  }

  -- behind them: what is met stays
  module _ (spare : List Lit) (bound : ℕ) (conflict : Named) (new : List Mark) (hints : List ℕ) (f : IsFollowing entries named spare bound conflict minimiser order new hints 0) where
    stays : (v : ℕ) → mark_at new v ≡ Met → mark_at minimiser v ≡ Kept
    stays v m = elim (f.met v m) [ inl k ↦ k | inr r ↦ let l : r.0 < 0 = r.1 in absurd (omega arith) ]

    pub followed-ended : (turned : List ℕ) → turned ≡ reverse hints → (minimiser_before : List Mark) → StayKept minimiser_before minimiser → IsEnded entries named spare bound conflict cells minimiser_before new turned
    followed-ended turned e before keep = record {
      derived = record {
        steps = f.resolving.steps;
        told = e ∙ ap reverse f.resolving.told ∙ hints-backward f.resolving.steps conflict;
        derives = f.resolving.derives;
        of_trail = f.resolving.of_trail;
        resolved = f.resolving.resolved;
        differ = f.resolving.differ;
        inside = f.resolving.inside;
      };
      fewer = λ v m. h.kept v (stays v m);
      kept = λ v k. f.kept v (keep v k);
    }

-- a search that hasn't begun: nothing is known, or that one stays
pub seeking-none : (entries : List Entry) (named : ℕ → Named) (cells minimiser : List Mark) (n : ℕ) → minimiser ≡ replicate n Blank → IsSeeking entries named cells minimiser [] []
seeking-none entries named cells minimiser n e =
    let nothing : (v : ℕ) → mark_at minimiser v ≡ Blank = λ v. rw e (at-blank n v) in
    record {
      frames = λ k l. absurd (omega arith);
      entered = λ v f. let z : Entered ≡ Blank = sym f ∙ nothing v in absurd cc;
      falling = λ i j l m. absurd (omega arith);
      ordered = λ i l. absurd (omega arith);
      implied = λ v f. let z : Implied ≡ Blank = sym f ∙ nothing v in absurd cc;
      kept = λ v f. let z : Kept ≡ Blank = sym f ∙ nothing v in absurd cc;
      failed = λ v f. let z : Failed ≡ Blank = sym f ∙ nothing v in absurd cc;
      once = λ i j l m q. absurd (omega arith);
      proper = λ v. ((λ f. let z : Met ≡ Blank = sym f ∙ nothing v in cc), (λ f. let z : Resolved ≡ Blank = sym f ∙ nothing v in cc));
    }

pub seeking-one : (entries : List Entry) (named : ℕ → Named) (cells minimiser : List Mark) (n u : ℕ) → minimiser ≡ set (replicate n Blank) u Kept → u < n → mark_at cells u ≡ Met → 1 ≤ level_at entries u → IsSeeking entries named cells minimiser [] []
seeking-one entries named cells minimiser n u e low met above =
    let size : length (replicate n Blank) ≡ n = length-replicate n Blank in
    let its : mark_at (set (replicate n Blank) u Kept) u ≡ Kept = at-same (replicate n Blank) u Kept (omega arith) in
    let other : (v : ℕ) → v ≢ u → mark_at (set (replicate n Blank) u Kept) v ≡ Blank = λ v d. at-other (replicate n Blank) u v Kept d ∙ at-blank n v in
    let either : (v : ℕ) → (mark_at minimiser v ≡ Blank) ⊎ ((v ≡ u) × (mark_at minimiser v ≡ Kept)) = λ v. elim (cases_eq v u) [
      | inl s ↦ inr (s, rw e (ap (mark_at (set (replicate n Blank) u Kept)) s ∙ its))
      | inr d ↦ inl (rw e (other v d))
    ] in
    record {
      frames = λ k l. absurd (omega arith);
      entered = λ v f. elim (either v) [ inl b ↦ let z : Entered ≡ Blank = sym f ∙ b in absurd cc | inr k ↦ let z : Entered ≡ Kept = sym f ∙ k.1 in absurd cc ];
      falling = λ i j l m. absurd (omega arith);
      ordered = λ i l. absurd (omega arith);
      implied = λ v f. elim (either v) [ inl b ↦ let z : Implied ≡ Blank = sym f ∙ b in absurd cc | inr k ↦ let z : Implied ≡ Kept = sym f ∙ k.1 in absurd cc ];
      kept = λ v f. elim (either v) [ inl b ↦ let z : Kept ≡ Blank = sym f ∙ b in absurd cc | inr k ↦ (ap (mark_at cells) k.0 ∙ met, subst (λ (x : ℕ). 1 ≤ level_at entries x) (sym k.0) above) ];
      failed = λ v f. elim (either v) [ inl b ↦ let z : Failed ≡ Blank = sym f ∙ b in absurd cc | inr k ↦ let z : Failed ≡ Kept = sym f ∙ k.1 in absurd cc ];
      once = λ i j l m q. absurd (omega arith);
      proper = λ v. ((λ f. elim (either v) [ inl b ↦ let z : Met ≡ Blank = sym f ∙ b in cc | inr k ↦ let z : Met ≡ Kept = sym f ∙ k.1 in cc ]), (λ f. elim (either v) [ inl b ↦ let z : Resolved ≡ Blank = sym f ∙ b in cc | inr k ↦ let z : Resolved ≡ Kept = sym f ∙ k.1 in cc ]));
    }

-- behind the walk
module _ (t : Trail) (tr : IsTrail t) (named : ℕ → Named) (conflict : Named) (cells : List Mark) (hints : List ℕ) (first : Lit) (h : IsWalked t named conflict cells hints first) (above : 0 < t.level) where
  pub walked-marks : AreWalked cells
  walked-marks v = elim (h.marks v) [ inl b ↦ inl b | inr r ↦ elim r [ inl m ↦ inr (inl m.0) | inr m ↦ inr (inr m.0) ] ]

  first-entry : (e : Entry) × (entry_of t.entries first.var ≡ Some e) × (e.lit ≡ not_lit first)
  first-entry = false-entry t.entries first h.is_false

  first-level : level_at t.entries first.var ≡ t.level
  first-level =
      let q : Some first-entry.0.level ≡ Some t.level = sym (level-in t.entries first.var first-entry.0 first-entry.1) ∙ h.now in
      let r : first-entry.0.level ≡ t.level = cc in
      level-of t.entries first.var first-entry.0 first-entry.1 ∙ r

  pub first-low : first.var < t.vars + 1
  first-low = let b = in-range t tr first.var first-entry.0 first-entry.1 in omega arith

  pub first-is : first ≡ not_lit (the_entry t.entries first.var).lit
  first-is = not-lit-flip (the_entry t.entries first.var).lit first (ap (λ (x : Entry). x.lit) (the-entry t.entries first.var first-entry.0 first-entry.1) ∙ first-entry.2)

  pub walked-seeking : (minimiser : List Mark) (n : ℕ) → n ≡ t.vars + 1 → minimiser ≡ set (replicate n Blank) first.var Kept → IsSeeking t.entries named cells minimiser [] []
  walked-seeking minimiser n size e = seeking-one t.entries named cells minimiser n first.var e (let l : first.var < t.vars + 1 = first-low in omega arith) h.met (let l : level_at t.entries first.var ≡ t.level = first-level in omega arith)

  pub walked-roots : (minimiser : List Mark) (n : ℕ) → n ≡ t.vars + 1 → minimiser ≡ set (replicate n Blank) first.var Kept → AreRoots t.entries cells minimiser
  walked-roots minimiser n size e v met blank =
      let p = place-entry t.entries v (h.resolving.inside v (met-not-blank (mark_at cells v) met)) in
      let size' : length (replicate n Blank) ≡ n = length-replicate n Blank in
      let l : first.var < t.vars + 1 = first-low in
      let differs : v ≢ first.var = λ s. let z : Blank ≡ Kept = sym blank ∙ ap (mark_at minimiser) s ∙ ap (λ (c : List Mark). mark_at c first.var) e ∙ at-same (replicate n Blank) first.var Kept (omega arith) in cc in
      record {
        entry = p.0;
        found = p.1;
        below = λ w r.
            let lw : level_at t.entries w ≡ t.level = elim (h.marks w) [
              | inl b ↦ let z : Resolved ≡ Blank = sym r ∙ b in absurd cc
              | inr x ↦ elim x [ inl m ↦ let z : Resolved ≡ Met = sym r ∙ m.0 in absurd cc | inr m ↦ m.1 ]
            ] in
            let lv : level_at t.entries v < t.level = elim (h.marks v) [
              | inl b ↦ let z : Met ≡ Blank = sym met ∙ b in absurd cc
              | inr x ↦ elim x [
                | inl m ↦ elim m.1 [ inl s ↦ absurd (differs s) | inr k ↦ k ]
                | inr m ↦ let z : Met ≡ Resolved = sym met ∙ m.0 in absurd cc
              ]
            ] in
            omega arith;
      }

  -- what is left when the implied ones are resolved
  learning : (new : List Mark) (turned : List ℕ) → AreFewer t.entries cells new → mark_at new first.var ≡ Met → IsDerived t.entries named [] (length t.entries) conflict new turned → IsLearning t named conflict new turned first
  learning new turned fewer met d = record {
    derived = d;
    left = record {
      entry = λ v m. d.inside v (met-not-blank (mark_at new v) m);
      above = λ v m. (fewer v m).1;
      below = λ v m. elim (h.marks v) [
        | inl b ↦ let z : Met ≡ Blank = sym (fewer v m).0 ∙ b in absurd cc
        | inr x ↦ elim x [ inl k ↦ k.1 | inr k ↦ let z : Met ≡ Resolved = sym (fewer v m).0 ∙ k.0 in absurd cc ]
      ];
      now = first-level;
      met = met;
    };
    is_false = h.is_false;
    now = h.now;
  }

  pub walked-learning : (minimiser : List Mark) (n : ℕ) → n ≡ t.vars + 1 → minimiser ≡ set (replicate n Blank) first.var Kept → (new : List Mark) (turned : List ℕ) → IsEnded t.entries named [] (length t.entries) conflict cells minimiser new turned → IsLearning t named conflict new turned first
  walked-learning minimiser n size e new turned ended =
      let l : first.var < t.vars + 1 = first-low in
      let size' : length (replicate n Blank) ≡ n = length-replicate n Blank in
      learning new turned ended.fewer (ended.kept first.var (rw e (at-same (replicate n Blank) first.var Kept (omega arith)))) ended.derived

-- the clause that is collected is learned
module _ (t : Trail) (tr : IsTrail t) (named : ℕ → Named) (conflict : Named) (cells : List Mark) (hints : List ℕ) (first : Lit) (h : IsLearning t named conflict cells hints first) where
  pub learning-first : first ≡ not_lit (the_entry t.entries first.var).lit
  learning-first =
      let f = false-entry t.entries first h.is_false in
      not-lit-flip (the_entry t.entries first.var).lit first (ap (λ (x : Entry). x.lit) (the-entry t.entries first.var f.0 f.1) ∙ f.2)

  module _ (lits : List Lit) (jump : ℕ) (c : IsCollected t cells first lits jump) where
    -- what is false and met is one of the literals
    in-clause : (l : Lit) → Known t.entries [] cells l → Contains lits l
    in-clause l k = elim k [
      | inl n ↦ absurd (contains-nil l n)
      | inr m ↦
          let f = false-entry t.entries l m.1 in
          let same : not_lit (the_entry t.entries l.var).lit ≡ l = sym (not-lit-flip (the_entry t.entries l.var).lit l (ap (λ (x : Entry). x.lit) (the-entry t.entries l.var f.0 f.1) ∙ f.2)) in
          subst (λ (x : Lit). Contains lits x) same (c.all l.var m.0)
    ]

    pub learning-learned : IsLearned t.entries named conflict h.derived.steps lits
    learning-learned = record {
      of_trail = h.derived.of_trail;
      derives = derives-more (Known t.entries [] cells) (Contains lits) in-clause h.derived.steps conflict.lits h.derived.derives;
      differ = c.differ;
      steps_differ = h.derived.differ;
      apart = λ s k. no-lit-var s.lit.var lits (λ l q e. met-not-resolved (mark_at cells l.var) (c.met l q) (ap (mark_at cells) (sym e) ∙ h.derived.resolved s k));
    }

    pub analysed : (found : Analysis) → found.lits ≡ lits → found.hints ≡ hints → found.jump ≡ jump → All (λ (v : ℕ). v ≤ t.vars) found.seen → IsAnalysed t named conflict found
    analysed found e f j seen = record {
      steps = h.derived.steps;
      learned = subst (λ (ls : List Lit). IsLearned t.entries named conflict h.derived.steps ls) (sym e) learning-learned;
      told = f ∙ h.derived.told;
      first = first;
      others = c.others;
      shape = e ∙ c.shape;
      kept = subst (λ (n : ℕ). AreKept t.entries t.level first c.others n) (sym j) (record {
        now = record { is_false = h.is_false; of_level = h.now };
        lower = c.lower;
        second = c.second;
        below = c.below;
      });
      seen_vars = seen;
    }

    pub lits-low : All (λ (l : Lit). l.var ≤ t.vars) lits
    lits-low k d low =
        let m = c.met (get_or lits k d) (Contains-get_or lits k d low) in
        let e = place-entry t.entries (get_or lits k d).var (h.left.entry (get_or lits k d).var m) in
        (in-range t tr (get_or lits k d).var e.0 e.1).1

-- at level 0
module _ (t : Trail) (tr : IsTrail t) (named : ℕ → Named) (lives : ℕ → Type 0) (rs : AreReasons t.entries named lives) (conflict : Named) (over : ℕ) (bottom : IsBottom t.entries over conflict.lits) (cells : List Mark) (n : ℕ) (size : n ≡ t.vars + 1) (blank : cells ≡ replicate n Blank) where
  nothing : (v : ℕ) → mark_at cells v ≡ Blank
  nothing v = rw blank (at-blank n v)

  cells-size : length cells ≡ t.vars + 1
  cells-size = ap length blank ∙ length-replicate n Blank ∙ size

  -- what is met has a false literal in the clause
  bottom-cases : (v : ℕ) → (mark_at (met_by cells over conflict.lits) v ≡ Blank) ⊎ ((mark_at (met_by cells over conflict.lits) v ≡ Met) × (v ≢ over) × ((l : Lit) × Contains conflict.lits l × (l.var ≡ v)))
  bottom-cases v = elim (cases_lt v (length cells)) [
    | inl low ↦ met-new cells over conflict.lits v low (nothing v)
    | inr high ↦ let s : length (met_by cells over conflict.lits) ≡ length cells = length-met cells over conflict.lits in inl (get_or_past (met_by cells over conflict.lits) v Blank (omega arith))
  ]

  bottom-entry : (l : Lit) → Contains conflict.lits l → l.var ≢ over → (e : Entry) × (entry_of t.entries l.var ≡ Some e) × (level_at t.entries l.var ≡ 0)
  bottom-entry l c d =
      let b = bottom l c d in
      let f = false-entry t.entries l b.0 in
      let q : Some f.0.level ≡ Some 0 = sym (level-in t.entries l.var f.0 f.1) ∙ b.1 in
      let z : f.0.level ≡ 0 = cc in
      (f.0, f.1, level-of t.entries l.var f.0 f.1 ∙ z)

  pub bottom-marks : AreWalked (met_by cells over conflict.lits)
  bottom-marks v = elim (bottom-cases v) [ inl b ↦ inl b | inr m ↦ inr (inl m.0) ]

  pub bottom-roots : (minimiser : List Mark) → AreRoots t.entries (met_by cells over conflict.lits) minimiser
  bottom-roots minimiser v met b = elim (bottom-cases v) [
    | inl z ↦ let q : Met ≡ Blank = sym met ∙ z in absurd cc
    | inr m ↦
        let e = bottom-entry m.2.0 m.2.1 (λ q. m.1 (sym m.2.2 ∙ q)) in
        record {
          entry = e.0;
          found = ap (entry_of t.entries) (sym m.2.2) ∙ e.1;
          below = λ w r. elim (bottom-cases w) [
            | inl z ↦ let q : Resolved ≡ Blank = sym r ∙ z in absurd cc
            | inr k ↦ let q : Resolved ≡ Met = sym r ∙ k.0 in absurd cc
          ];
        }
  ]

  pub bottom-resolving : (spare : List Lit) (bound : ℕ) (hints : List ℕ) → IsSpared t.entries spare bound over conflict.lits → hints ≡ conflict.id ∷ [] → IsResolving t.entries named spare bound conflict (met_by cells over conflict.lits) hints
  bottom-resolving spare bound hints s e = record {
    steps = [];
    told = e;
    derives = λ l c. elim (cases_eq l.var over) [
      | inl q ↦ inl (s.spared l c q)
      | inr d ↦
          let f = false-entry t.entries l (bottom l c d).0 in
          let r = in-range t tr l.var f.0 f.1 in
          let k : length cells ≡ t.vars + 1 = cells-size in
          inr (met-all cells over conflict.lits l c d (omega arith) (nothing l.var), (bottom l c d).0)
    ];
    of_trail = λ x k. absurd (contains-nil x k);
    resolved = λ x k. absurd (contains-nil x k);
    differ = tt;
    inside = λ v r. elim (bottom-cases v) [
      | inl z ↦ absurd (r z)
      | inr m ↦ subst (λ (x : ℕ). place_of t.entries x < bound) m.2.2 (s.before m.2.0 m.2.1 (λ q. m.1 (sym m.2.2 ∙ q)))
    ];
  }

  -- nothing of level 0 stays
  pub bottom-none : (new : List Mark) → AreFewer t.entries (met_by cells over conflict.lits) new → (v : ℕ) → mark_at new v ≢ Met
  bottom-none new fewer v m = elim (bottom-cases v) [
    | inl z ↦ let q : Met ≡ Blank = sym (fewer v m).0 ∙ z in cc
    | inr k ↦
        let e = bottom-entry k.2.0 k.2.1 (λ q. k.1 (sym k.2.2 ∙ q)) in
        let a : 1 ≤ level_at t.entries v = (fewer v m).1 in
        let z : level_at t.entries v ≡ 0 = ap (level_at t.entries) (sym k.2.2) ∙ e.2 in
        omega arith
  ]

  pub bottom-inside : over ≤ t.vars → All (λ (l : Lit). l.var < length cells) conflict.lits
  bottom-inside o k d low =
      let s : length cells ≡ t.vars + 1 = cells-size in
      elim (cases_eq (get_or conflict.lits k d).var over) [
        | inl q ↦ omega arith
        | inr n ↦
            let f = false-entry t.entries (get_or conflict.lits k d) (bottom (get_or conflict.lits k d) (Contains-get_or conflict.lits k d low) n).0 in
            let r = in-range t tr (get_or conflict.lits k d).var f.0 f.1 in
            omega arith
      ]

  -- all literals may be spared
  pub bottom-some : IsSpared t.entries conflict.lits (length t.entries) over conflict.lits
  bottom-some = record {
    spared = λ l c q. c;
    before = λ l c n. let f = false-entry t.entries l (bottom l c n).0 in (entry-place t.entries l.var f.0 f.1).0;
  }

-- where nothing is met, what is spared is the clause
pub refuted : (t : Trail) (named : ℕ → Named) (conflict : Named) (spare : List Lit) (bound : ℕ) (cells : List Mark) (hints : List ℕ) → IsDerived t.entries named spare bound conflict cells hints → ((v : ℕ) → mark_at cells v ≢ Met)
    → VarsDiffer spare → ((l : Lit) → Contains spare l → bound ≤ place_of t.entries l.var) → (found : Analysis) → found.lits ≡ spare → found.hints ≡ hints → IsRefuted t named conflict spare found
refuted t named conflict spare bound cells hints d none differ far found e f = record {
  steps = d.steps;
  learned = record {
    of_trail = d.of_trail;
    derives = derives-more (Known t.entries spare cells) (Contains spare) (λ l k. elim k [ inl s ↦ s | inr m ↦ absurd (none l.var m.0) ]) d.steps conflict.lits d.derives;
    differ = differ;
    steps_differ = d.differ;
    apart = λ s k. no-lit-var s.lit.var spare (λ l c q.
        let i : place_of t.entries s.lit.var < bound = d.inside s.lit.var (resolved-not-blank (mark_at cells s.lit.var) (d.resolved s k)) in
        let b : bound ≤ place_of t.entries l.var = far l c in
        let z : place_of t.entries s.lit.var ≡ place_of t.entries l.var = ap (place_of t.entries) q in
        omega arith);
  };
  told = f ∙ d.told;
  same = e;
}

-- the premises of the two clauses of level 0
module _ (t : Trail) (tr : IsTrail t) where
  pub conflict-bottom : (lits : List Lit) → IsFalseAtBottom t.entries lits → IsBottom t.entries 0 lits
  conflict-bottom lits h l c n = ((h l c).is_false, (h l c).of_level)

  pub conflict-spared : (lits : List Lit) → IsFalseAtBottom t.entries lits → IsSpared t.entries [] (length t.entries) 0 lits
  conflict-spared lits h = record {
    spared = λ l c z.
        let f = false-entry t.entries l (h l c).is_false in
        let r = in-range t tr l.var f.0 f.1 in
        let one : 1 ≤ l.var = r.0 in
        absurd (omega arith);
    before = λ l c n. let f = false-entry t.entries l (h l c).is_false in (entry-place t.entries l.var f.0 f.1).0;
  }

  module _ (named : ℕ → Named) (lives : ℕ → Type 0) (rs : AreReasons t.entries named lives) (literal : Lit) (c : ℕ) (e : Entry) (is : IsForced t.entries literal.var e c) (same : e.lit ≡ literal) where
    reason-case : (l : Lit) → Contains (named c).lits l → (l ≡ literal) ⊎ ((truth_in t.entries l ≡ Some false) × (place_of t.entries l.var < place_of t.entries literal.var))
    reason-case l has = elim ((reason-lits t tr named lives rs literal.var c e is.found is.because).1 l has) [ inl s ↦ inl (s ∙ same) | inr o ↦ inr o ]

    pub forced-bottom : IsBottom t.entries literal.var (named c).lits
    forced-bottom l has n = elim (reason-case l has) [
      | inl s ↦ absurd (n (ap (λ (x : Lit). x.var) s))
      | inr o ↦
          let f = false-entry t.entries l o.0 in
          let deep : place_of t.entries l.var < place_of t.entries literal.var = o.1 in
          let r : f.0.level ≤ e.level = level-rises t tr l.var literal.var f.0 e f.1 is.found (omega arith) in
          let z : e.level ≡ 0 = is.bottom in
          let q : f.0.level ≡ 0 = omega arith in
          (o.0, level-in t.entries l.var f.0 f.1 ∙ ap Some q)
    ]

    pub forced-spared : IsSpared t.entries (literal ∷ []) (place_of t.entries literal.var) literal.var (named c).lits
    forced-spared = record {
      spared = λ l has q. elim (reason-case l has) [
        | inl s ↦ subst (λ (x : Lit). Contains (literal ∷ []) x) (sym s) (contains-here literal [])
        | inr o ↦ let z : place_of t.entries l.var ≡ place_of t.entries literal.var = ap (place_of t.entries) q in let deep : place_of t.entries l.var < place_of t.entries literal.var = o.1 in absurd (omega arith)
      ];
      before = λ l has n. elim (reason-case l has) [ inl s ↦ absurd (n (ap (λ (x : Lit). x.var) s)) | inr o ↦ o.1 ];
    }

    pub forced-low : literal.var ≤ t.vars
    forced-low = (in-range t tr literal.var e is.found).1

    pub forced-far : (l : Lit) → Contains (literal ∷ []) l → place_of t.entries literal.var ≤ place_of t.entries l.var
    forced-far l has = elim (contains-cases literal l [] has) [
      | inl s ↦ let z : place_of t.entries literal.var ≡ place_of t.entries l.var = ap (λ (x : Lit). place_of t.entries x.var) s in omega arith
      | inr k ↦ absurd (contains-nil l k)
    ]
