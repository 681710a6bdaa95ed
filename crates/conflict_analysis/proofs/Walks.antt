-- The walk down the trail: its start, an entry that is passed, one that is resolved, and its end.
use Rattle.std.proofs.Common.{◌≡◌, ◌≢◌, ◌⊎◌, ◌==◌, ◌&&◌, ℕ, ◌+◌, ◌-◌, ◌<◌, ◌≤◌, Bool, true, false, cond, List, [], ◌∷◌, ◌++◌, length, set, take, replicate, get_or, Option, Some, None, refl, sym, ap, ◌∙◌, subst, inl, inr, arith}
use Rattle.std.specs.List.{Contains, All}
use Rattle.std.proofs.lemmas.List.{length-set, get_or_past, take_more, take_all, length-replicate, length-take-le, get_or-take}
use Rattle.std.proofs.lemmas.Bool.{cases_eq, cases_lt, eqb-true, eq-eqb}
use Rattle.std.proofs.lemmas.List.Elements.{Contains-get_or}
use Rattle.order_ints.specs.declared.literal.Lit.{Lit}
use Rattle.order_ints.specs.Truth.{not_lit}
use Rattle.literal_trail.specs.declared.entry.Entry.{Entry}
use Rattle.literal_trail.specs.Trail.{Trail, IsTrail, no_entry, entry_at, entry_of}
use Rattle.literal_trail.specs.Standing.{IsFalse}
use Rattle.proof_check.specs.Named.{Named}
use Rattle.conflict_analysis.specs.declared.marks.Mark.{Mark}
use Rattle.conflict_analysis.specs.declared.marks.Mark.TheVariants.{Blank, Met, Resolved}
use Rattle.conflict_analysis.specs.Marking.{mark_at, is_met}
use Rattle.conflict_analysis.specs.Reasons.{AreReasons, HasReason, place_of, level_at, reason_at}
use Rattle.conflict_analysis.specs.Learned.{IsConflict}
use Rattle.conflict_analysis.specs.Walking.{met_by, resolved_by, counts, met_of_level}
use Rattle.conflict_analysis.specs.Resolving.{IsWalking, IsWalked}
use Rattle.conflict_analysis.proofs.Cells.{at-blank, met-is}
use Rattle.conflict_analysis.proofs.Members.{contains-nil}
use Rattle.conflict_analysis.proofs.Literals.{not-not-lit}
use Rattle.conflict_analysis.proofs.Places.{entry-place, place-entry, entry-take, in-range, false-entry, entry-false, reason-lits, reason-of, at-place, level-of, level-in, level-top}
use Rattle.conflict_analysis.proofs.Meets.{met-new, met-all, length-met}
use Rattle.conflict_analysis.proofs.Counting.{Distinct, distinct-fresh, distinct-take, count-absent, count-met, count-append, count-some, count-none, count-blank, count-fits}
use Rattle.conflict_analysis.proofs.Resolves.{its_own, marked, unmarked, now_met, older, after-size, after-all, resolving-next}

abbrev ThreeMarks : Trail → List Mark → ℕ → ℕ → Type 0
ThreeMarks t cells place v = (mark_at cells v ≡ Blank) ⊎ ((mark_at cells v ≡ Met) × (place_of t.entries v < place)) ⊎ ((mark_at cells v ≡ Resolved) × (place ≤ place_of t.entries v) × (level_at t.entries v ≡ t.level))

one-weight : (a b : Bool) → (◌≡◌ {A = ℕ} (cond (a && b) 1 0) 0) ⊎ ((◌≡◌ {A = ℕ} (cond (a && b) 1 0) 1) × (a ≡ true) × (b ≡ true))
one-weight true true = inr (refl, refl, refl)
one-weight true false = inl refl
one-weight false b = inl refl

zero-or-more : (n : ℕ) → (n ≡ 0) ⊎ (0 < n)
zero-or-more n = elim (cases_lt 0 n) [ inl l ↦ inr l | inr l ↦ inl (omega arith) ]

reason-cases : (o : Option ℕ) → (o ≡ None) ⊎ ((c : ℕ) × (o ≡ Some c))
reason-cases None = inl refl
reason-cases (Some c) = inr (c, refl)

module _ (t : Trail) (tr : IsTrail t) (named : ℕ → Named) (lives : ℕ → Type 0) (rs : AreReasons t.entries named lives) (conflict : Named) where
  -- the conflict's variables are met
  module _ (cells : List Mark) (blank : cells ≡ replicate (t.vars + 1) Blank) (h : IsConflict t conflict.lits) where
    nothing : (v : ℕ) → mark_at cells v ≡ Blank
    nothing v = rw blank (at-blank (t.vars + 1) v)

    size-start : length cells ≡ t.vars + 1
    size-start = ap length blank ∙ length-replicate (t.vars + 1) Blank

    in-start : (l : Lit) → Contains conflict.lits l → (1 ≤ l.var) × (l.var < length cells)
    in-start l c =
        let f = false-entry t.entries l (h.is_false l c) in
        let r = in-range t tr l.var f.0 f.1 in
        let a : 1 ≤ l.var = r.0 in
        let s : length cells ≡ t.vars + 1 = size-start in
        (a, omega arith)

    met-start : (l : Lit) → Contains conflict.lits l → mark_at (met_by cells 0 conflict.lits) l.var ≡ Met
    met-start l c =
        let r = in-start l c in
        let a : 1 ≤ l.var = r.0 in
        met-all cells 0 conflict.lits l c (λ e. omega arith) r.1 (nothing l.var)

    cases-start : (v : ℕ) → (mark_at (met_by cells 0 conflict.lits) v ≡ Blank) ⊎ ((mark_at (met_by cells 0 conflict.lits) v ≡ Met) × (place_of t.entries v < length t.entries))
    cases-start v = elim (cases_lt v (length cells)) [
      | inl low ↦ elim (met-new cells 0 conflict.lits v low (nothing v)) [
        | inl b ↦ inl b
        | inr m ↦
            let f = false-entry t.entries m.2.0 (h.is_false m.2.0 m.2.1) in
            inr (m.0, subst (λ (x : ℕ). place_of t.entries x < length t.entries) m.2.2 (entry-place t.entries m.2.0.var f.0 f.1).0)
      ]
      | inr high ↦ let s : length (met_by cells 0 conflict.lits) ≡ length cells = length-met cells 0 conflict.lits in inl (get_or_past (met_by cells 0 conflict.lits) v Blank (omega arith))
    ]

    count-start : met_of_level t.level (met_by cells 0 conflict.lits) (take (length t.entries) t.entries) ≡ counts t.entries t.level cells 0 conflict.lits
    count-start =
        let d : Distinct t.entries = distinct-fresh t.entries tr.fresh in
        let m : met_of_level t.level (met_by cells 0 conflict.lits) t.entries ≡ counts t.entries t.level cells 0 conflict.lits + met_of_level t.level cells t.entries =
        count-met t.entries t.level t.entries d cells 0 conflict.lits (λ l c n. let f = false-entry t.entries l (h.is_false l c) in (f.0, f.1, level-of t.entries l.var f.0 f.1, (in-start l c).1)) in
        let z : met_of_level t.level cells t.entries ≡ 0 = count-blank t.level cells t.entries nothing in
        let w : take (length t.entries) t.entries ≡ t.entries = take_all (length t.entries) t.entries (omega arith) in
        rw w (omega arith)

    some-start : 0 < counts t.entries t.level cells 0 conflict.lits
    some-start = elim (zero-or-more (counts t.entries t.level cells 0 conflict.lits)) [
      | inr p ↦ p
      | inl z ↦
          let f = false-entry t.entries h.here (h.is_false h.here h.has) in
          let p = entry-place t.entries h.here.var f.0 f.1 in
          let lev : f.0.level ≡ t.level = let q : Some f.0.level ≡ Some t.level = sym (level-in t.entries h.here.var f.0 f.1) ∙ h.now in cc in
          let w : take (length t.entries) t.entries ≡ t.entries = take_all (length t.entries) t.entries (omega arith) in
          let n : met_of_level t.level (met_by cells 0 conflict.lits) t.entries ≡ 0 = ap (met_of_level t.level (met_by cells 0 conflict.lits)) (sym w) ∙ count-start ∙ z in
          let none = count-none t.level (met_by cells 0 conflict.lits) t.entries (place_of t.entries h.here.var) n p.0 (ap (λ (x : Entry). x.level) p.1 ∙ lev) in
          absurd (none (ap (mark_at (met_by cells 0 conflict.lits)) (ap (λ (x : Entry). x.lit.var) p.1 ∙ p.2) ∙ met-start h.here h.has))
    ]

    pub walking-start : IsWalking t named conflict (met_by cells 0 conflict.lits) (conflict.id ∷ []) (length t.entries) (counts t.entries t.level cells 0 conflict.lits)
    walking-start = record {
      resolving = record {
        steps = [];
        told = refl;
        derives = λ l c. inr (met-start l c, h.is_false l c);
        of_trail = λ s k. absurd (contains-nil s k);
        resolved = λ s k. absurd (contains-nil s k);
        differ = tt;
        inside = λ v r. elim (cases-start v) [ inl b ↦ absurd (r b) | inr m ↦ m.1 ];
      };
      marks = λ v. elim (cases-start v) [ inl b ↦ inl b | inr m ↦ inr (inl m) ];
      count = sym count-start;
      some = some-start;
      inside = omega arith;
      size = length-met cells 0 conflict.lits ∙ size-start;
    }

  -- at an entry
  module _ (cells : List Mark) (hints : List ℕ) (p ahead : ℕ) (h : IsWalking t named conflict cells hints (p + 1) ahead) where
    in-trail : p < length t.entries
    in-trail = let i : p + 1 ≤ length t.entries = h.inside in omega arith

    abbrev here : Entry
    here = entry_at t.entries p

    here-found : entry_of t.entries (entry_at t.entries p).lit.var ≡ Some (entry_at t.entries p)
    here-found = (at-place t tr p in-trail).0

    here-place : place_of t.entries (entry_at t.entries p).lit.var ≡ p
    here-place = (at-place t tr p in-trail).1

    pub here-low : (entry_at t.entries p).lit.var < length cells
    here-low = let r = in-range t tr (entry_at t.entries p).lit.var (entry_at t.entries p) here-found in let s : length cells ≡ t.vars + 1 = h.size in omega arith

    split : met_of_level t.level cells (take (p + 1) t.entries) ≡ met_of_level t.level cells (take p t.entries) + cond (((entry_at t.entries p).level == t.level) && is_met (mark_at cells (entry_at t.entries p).lit.var)) 1 0
    split =
        let w : take (p + 1) t.entries ≡ take p t.entries ++ entry_at t.entries p ∷ [] = take_more t.entries p no_entry in-trail in
        let s : met_of_level t.level cells (take p t.entries ++ entry_at t.entries p ∷ []) ≡ met_of_level t.level cells (take p t.entries) + met_of_level t.level cells (entry_at t.entries p ∷ []) = count-append t.level cells (take p t.entries) (entry_at t.entries p ∷ []) in
        rw w (omega arith)

    at-here : (v : ℕ) → place_of t.entries v < p + 1 → v ≢ (entry_at t.entries p).lit.var → place_of t.entries v < p
    at-here v l n = elim (cases_lt (place_of t.entries v) p) [
      | inl k ↦ k
      | inr k ↦
          let e : place_of t.entries v ≡ p = omega arith in
          let f = place-entry t.entries v (rw e in-trail) in
          let q = entry-place t.entries v f.0 f.1 in
          absurd (n (sym (ap (λ (x : ℕ). (entry_at t.entries x).lit.var) (sym e) ∙ ap (λ (x : Entry). x.lit.var) q.1 ∙ q.2)))
    ]

    -- one that isn't met is passed
    pub walking-pass : mark_at cells (entry_at t.entries p).lit.var ≢ Met → IsWalking t named conflict cells hints p ahead
    walking-pass unmet = record {
      resolving = h.resolving;
      marks = λ v. elim (h.marks v) [
        | inl b ↦ inl b
        | inr r ↦ elim r [
          | inl m ↦ inr (inl (m.0, at-here v m.1 (λ e. unmet (ap (mark_at cells) (sym e) ∙ m.0))))
          | inr m ↦ let k : p + 1 ≤ place_of t.entries v = m.1 in inr (inr (m.0, omega arith, m.2))
        ]
      ];
      count =
          let c : ahead ≡ met_of_level t.level cells (take (p + 1) t.entries) = h.count in
          let s : met_of_level t.level cells (take (p + 1) t.entries) ≡ met_of_level t.level cells (take p t.entries) + cond (((entry_at t.entries p).level == t.level) && is_met (mark_at cells (entry_at t.entries p).lit.var)) 1 0 = split in
          elim (one-weight ((entry_at t.entries p).level == t.level) (is_met (mark_at cells (entry_at t.entries p).lit.var))) [
            | inl z ↦ omega arith
            | inr o ↦ absurd (unmet (met-is (mark_at cells (entry_at t.entries p).lit.var) o.2))
          ];
      some = h.some;
      inside = let i : p + 1 ≤ length t.entries = h.inside in omega arith;
      size = h.size;
    }

    before : 0 < met_of_level t.level cells (take p t.entries) → (j : ℕ) × (j < p) × ((entry_at t.entries j).level ≡ t.level)
    before some =
        let b = count-some t.level cells (take p t.entries) some in
        let n : length (take p t.entries) ≡ p = length-take-le p t.entries (let i : p < length t.entries = in-trail in omega arith) in
        let low : b.0 < length (take p t.entries) = b.1 in
        let j : b.0 < p = omega arith in
        (b.0, j, ap (λ (x : Entry). x.level) (sym (get_or-take p t.entries b.0 no_entry j)) ∙ b.2)

    module _ (met : mark_at cells (entry_at t.entries p).lit.var ≡ Met) where
      -- what is met here is of the current level, since something of it is here or before
      here-now : (entry_at t.entries p).level ≡ t.level
      here-now =
          let s : met_of_level t.level cells (take (p + 1) t.entries) ≡ met_of_level t.level cells (take p t.entries) + cond (((entry_at t.entries p).level == t.level) && is_met (mark_at cells (entry_at t.entries p).lit.var)) 1 0 = split in
          let c : ahead ≡ met_of_level t.level cells (take (p + 1) t.entries) = h.count in
          let some : 0 < ahead = h.some in
          elim (one-weight ((entry_at t.entries p).level == t.level) (is_met (mark_at cells (entry_at t.entries p).lit.var))) [
            | inr o ↦ eqb-true (entry_at t.entries p).level t.level o.1
            | inl z ↦
                let b = before (omega arith) in
                let low : b.0 < p = b.1 in
                let up : (entry_at t.entries b.0).level ≤ (entry_at t.entries p).level = tr.rising b.0 p (omega arith) in-trail in
                let top : (entry_at t.entries p).level ≤ t.level = tr.top p in-trail in
                let same : (entry_at t.entries b.0).level ≡ t.level = b.2 in
                omega arith
          ]

      rest : ahead ≡ met_of_level t.level cells (take p t.entries) + 1
      rest =
          let s : met_of_level t.level cells (take (p + 1) t.entries) ≡ met_of_level t.level cells (take p t.entries) + cond (((entry_at t.entries p).level == t.level) && is_met (mark_at cells (entry_at t.entries p).lit.var)) 1 0 = split in
          let c : ahead ≡ met_of_level t.level cells (take (p + 1) t.entries) = h.count in
          let l : ((entry_at t.entries p).level == t.level) ≡ true = eq-eqb (entry_at t.entries p).level t.level here-now in
          let m : is_met (mark_at cells (entry_at t.entries p).lit.var) ≡ true = ap is_met met in
          let w : ◌≡◌ {A = ℕ} (cond (((entry_at t.entries p).level == t.level) && is_met (mark_at cells (entry_at t.entries p).lit.var)) 1 0) 1 = (λ i. cond (l i && m i) 1 0) in
          omega arith

      level-now : level_at t.entries (entry_at t.entries p).lit.var ≡ t.level
      level-now = level-of t.entries (entry_at t.entries p).lit.var (entry_at t.entries p) here-found ∙ here-now

      -- it is the last one
      pub walking-end : ahead - 1 ≡ 0 → IsWalked t named conflict cells hints (not_lit (entry_at t.entries p).lit)
      walking-end last = record {
        resolving = h.resolving;
        marks = λ v. elim (h.marks v) [
          | inl b ↦ inl b
          | inr r ↦ elim r [
            | inl m ↦ inr (inl (
              m.0,
              elim (cases_eq v (entry_at t.entries p).lit.var) [
                | inl e ↦ inl e
                | inr n ↦ inr (lower v m.0 (at-here v m.1 n))
              ],
            ))
            | inr m ↦ inr (inr (m.0, m.2))
          ]
        ];
        met = met;
        is_false = entry-false t.entries (not_lit (entry_at t.entries p).lit) (entry_at t.entries p) here-found (sym (not-not-lit (entry_at t.entries p).lit));
        now = level-in t.entries (entry_at t.entries p).lit.var (entry_at t.entries p) here-found ∙ ap Some here-now;
        size = h.size;
      }
        where
          lower : (v : ℕ) → mark_at cells v ≡ Met → place_of t.entries v < p → level_at t.entries v < t.level
          lower v m l =
              let i : p < length t.entries = in-trail in
              let f = place-entry t.entries v (omega arith) in
              let q = entry-place t.entries v f.0 f.1 in
              let r : ahead ≡ met_of_level t.level cells (take p t.entries) + 1 = rest in
              let n : length (take p t.entries) ≡ p = length-take-le p t.entries (omega arith) in
              let at : entry_at (take p t.entries) (place_of t.entries v) ≡ f.0 = get_or-take p t.entries (place_of t.entries v) no_entry l ∙ q.1 in
              let none = count-none t.level cells (take p t.entries) (place_of t.entries v) (omega arith) (omega arith) in
              let differs : f.0.level ≢ t.level = λ e. none (ap (λ (x : Entry). x.level) at ∙ e) (ap (λ (x : Entry). mark_at cells x.lit.var) at ∙ ap (mark_at cells) q.2 ∙ m) in
              let top : f.0.level ≤ t.level = level-top t tr v f.0 f.1 in
              let lev : level_at t.entries v ≡ f.0.level = level-of t.entries v f.0 f.1 in
              omega arith

      -- others are ahead, so it has a reason
      module _ (more : 0 < ahead - 1) where
        others : 0 < met_of_level t.level cells (take p t.entries)
        others = let r : ahead ≡ met_of_level t.level cells (take p t.entries) + 1 = rest in omega arith

        here-because : (c : ℕ) × ((entry_at t.entries p).reason ≡ Some c)
        here-because = elim (reason-cases (entry_at t.entries p).reason) [
          | inr r ↦ r
          | inl n ↦
              let b = before others in
              let k : (entry_at t.entries b.0).level < (entry_at t.entries p).level = tr.begins b.0 p b.1 in-trail n in
              let same : (entry_at t.entries b.0).level ≡ t.level = b.2 in
              let now : (entry_at t.entries p).level ≡ t.level = here-now in
              absurd (omega arith)
        ]

        pub walking-reason : HasReason t.entries lives (entry_at t.entries p).lit.var
        walking-reason = record {
          entry = entry_at t.entries p;
          found = here-found;
          reference = here-because.0;
          because = here-because.1;
          live = rs.live p here-because.0 in-trail here-because.1;
        }

        free : (l : Lit) → Contains (named here-because.0).lits l → l.var ≢ (entry_at t.entries p).lit.var → (mark_at cells l.var ≡ Blank) ⊎ (mark_at cells l.var ≡ Met)
        free l c n =
            let o = older t tr named lives rs cells h.size (entry_at t.entries p).lit.var here-because.0 (entry_at t.entries p) here-found here-because.1 l c n in
            let k : place_of t.entries l.var < place_of t.entries (entry_at t.entries p).lit.var = o.1 in
            let q : place_of t.entries (entry_at t.entries p).lit.var ≡ p = here-place in
            elim (h.marks l.var) [
              | inl b ↦ inl b
              | inr r ↦ elim r [
                | inl m ↦ inr m.0
                | inr m ↦ let z : p + 1 ≤ place_of t.entries l.var = m.1 in absurd (omega arith)
              ]
            ]

        next-count : met_of_level t.level (resolved_by cells (entry_at t.entries p).lit.var (named here-because.0).lits) (take p t.entries)
            ≡ counts t.entries t.level (set cells (entry_at t.entries p).lit.var Resolved) (entry_at t.entries p).lit.var (named here-because.0).lits + met_of_level t.level cells (take p t.entries)
        next-count =
            let d : Distinct (take p t.entries) = distinct-take t.entries p (distinct-fresh t.entries tr.fresh) in
            let a : met_of_level t.level (set cells (entry_at t.entries p).lit.var Resolved) (take p t.entries) ≡ met_of_level t.level cells (take p t.entries) =
            count-absent t.level cells (take p t.entries) (entry_at t.entries p).lit.var Resolved (tr.fresh p in-trail) in
            let m = count-met t.entries t.level (take p t.entries) d (set cells (entry_at t.entries p).lit.var Resolved) (entry_at t.entries p).lit.var (named here-because.0).lits
            (λ l c n.
            let o = older t tr named lives rs cells h.size (entry_at t.entries p).lit.var here-because.0 (entry_at t.entries p) here-found here-because.1 l c n in
            let f = false-entry t.entries l o.0 in
            let r = in-range t tr l.var f.0 f.1 in
            let s : length cells ≡ t.vars + 1 = h.size in
            let low : l.var < length cells = omega arith in
            (f.0, entry-take t.entries p l.var f.0 f.1 (subst (λ (x : ℕ). place_of t.entries l.var < x) here-place o.1), level-of t.entries l.var f.0 f.1, rw (length-set cells (entry_at t.entries p).lit.var Resolved) low)) in
            m ∙ ap (λ (x : ℕ). counts t.entries t.level (set cells (entry_at t.entries p).lit.var Resolved) (entry_at t.entries p).lit.var (named here-because.0).lits + x) a

        next-marks : (v : ℕ) → ThreeMarks t (resolved_by cells (entry_at t.entries p).lit.var (named here-because.0).lits) p v
        next-marks v =
            let q : place_of t.entries (entry_at t.entries p).lit.var ≡ p = here-place in
            elim (after-all t tr named lives rs cells h.size (entry_at t.entries p).lit.var here-because.0 (entry_at t.entries p) here-found here-because.1 v) [
              | its_own s k ↦
                  let z : place_of t.entries v ≡ p = ap (place_of t.entries) s ∙ q in
                  inr (inr (k, omega arith, ap (level_at t.entries) s ∙ level-now))
              | marked n b k ↦ elim (h.marks v) [
                | inl c ↦ absurd (b c)
                | inr r ↦ elim r [
                  | inl m ↦ inr (inl (k ∙ m.0, at-here v m.1 n))
                  | inr m ↦ let z : p + 1 ≤ place_of t.entries v = m.1 in inr (inr (k ∙ m.0, omega arith, m.2))
                ]
              ]
              | unmarked n b k ↦ inl k
              | now_met n b k o l f s ↦ let z : place_of t.entries v < place_of t.entries (entry_at t.entries p).lit.var = o in inr (inl (k, omega arith))
            ]

        pub walking-next : IsWalking t named conflict
            (resolved_by cells (entry_at t.entries p).lit.var (reason_at named t.entries (entry_at t.entries p).lit.var).lits)
            (hints ++ (reason_at named t.entries (entry_at t.entries p).lit.var).id ∷ []) p
            (ahead - 1 + counts t.entries t.level (set cells (entry_at t.entries p).lit.var Resolved) (entry_at t.entries p).lit.var (reason_at named t.entries (entry_at t.entries p).lit.var).lits)
        walking-next = rw (reason-of named t.entries (entry_at t.entries p).lit.var here-because.0 (entry_at t.entries p) here-found here-because.1) (record {
          resolving = resolving-next t tr named lives rs cells h.size (entry_at t.entries p).lit.var here-because.0 (entry_at t.entries p) here-found here-because.1
              [] (length t.entries) conflict hints h.resolving met free;
          marks = next-marks;
          count = let r : ahead ≡ met_of_level t.level cells (take p t.entries) + 1 = rest in
              let n : met_of_level t.level (resolved_by cells (entry_at t.entries p).lit.var (named here-because.0).lits) (take p t.entries)
              ≡ counts t.entries t.level (set cells (entry_at t.entries p).lit.var Resolved) (entry_at t.entries p).lit.var (named here-because.0).lits + met_of_level t.level cells (take p t.entries) = next-count in
              omega arith;
          some = let m : 0 < ahead - 1 = more in omega arith;
          inside = let i : p < length t.entries = in-trail in omega arith;
          size = after-size t tr named lives rs cells h.size (entry_at t.entries p).lit.var here-because.0 (entry_at t.entries p) here-found here-because.1 ∙ h.size;
        })

        -- the count stays within the trail
        pub walking-fits : ahead - 1 + counts t.entries t.level (set cells (entry_at t.entries p).lit.var Resolved) (entry_at t.entries p).lit.var (reason_at named t.entries (entry_at t.entries p).lit.var).lits ≤ p
        walking-fits =
            let w = walking-next in
            let f : met_of_level t.level (resolved_by cells (entry_at t.entries p).lit.var (reason_at named t.entries (entry_at t.entries p).lit.var).lits) (take p t.entries) ≤ length (take p t.entries) =
            count-fits t.level (resolved_by cells (entry_at t.entries p).lit.var (reason_at named t.entries (entry_at t.entries p).lit.var).lits) (take p t.entries) in
            let n : length (take p t.entries) ≡ p = length-take-le p t.entries (let i : p < length t.entries = in-trail in omega arith) in
            omega (arith, w.count)

  -- the variables of a reason are in range, so they have marks
  pub reason-vars : (v : ℕ) → HasReason t.entries lives v → All (λ (l : Lit). l.var < t.vars + 1) (reason_at named t.entries v).lits
  reason-vars v r = rw (reason-of named t.entries v r.reference r.entry r.found r.because) (λ k d low. each (get_or (named r.reference).lits k d) (Contains-get_or (named r.reference).lits k d low))
    where
      each : (l : Lit) → Contains (named r.reference).lits l → l.var < t.vars + 1
      each l c = elim ((reason-lits t tr named lives rs v r.reference r.entry r.found r.because).1 l c) [
        | inl s ↦
            let b = in-range t tr v r.entry r.found in
            let q = entry-place t.entries v r.entry r.found in
            let e : l.var ≡ v = ap (λ (x : Lit). x.var) s ∙ q.2 in
            omega arith
        | inr o ↦
            let f = false-entry t.entries l o.0 in
            let b = in-range t tr l.var f.0 f.1 in
            omega arith
      ]

  pub reason-inside : (cells : List Mark) → length cells ≡ t.vars + 1 → (v : ℕ) → HasReason t.entries lives v → All (λ (l : Lit). l.var < length cells) (reason_at named t.entries v).lits
  reason-inside cells size v r = subst (λ (n : ℕ). All (λ (l : Lit). l.var < n) (reason_at named t.entries v).lits) (sym size) (reason-vars v r)

  pub conflict-inside : (cells : List Mark) → length cells ≡ t.vars + 1 → IsFalse t.entries conflict.lits → All (λ (l : Lit). l.var < length cells) conflict.lits
  conflict-inside cells size f k d low =
      let e = false-entry t.entries (get_or conflict.lits k d) (f (get_or conflict.lits k d) (Contains-get_or conflict.lits k d low)) in
      let b = in-range t tr (get_or conflict.lits k d).var e.0 e.1 in
      omega arith

  -- the same, at an entry that was read
  module _ (cells : List Mark) (hints : List ℕ) (place ahead : ℕ) (h : IsWalking t named conflict cells hints place ahead) (x : Entry) (is : x ≡ entry_at t.entries (place - 1)) where
    some-place : (n : ℕ) → n ≡ place → 0 < n
    some-place n e = elim (zero-or-more n) [
      | inr p ↦ p
      | inl z ↦
          let c : ahead ≡ met_of_level t.level cells (take 0 t.entries) = h.count ∙ ap (λ (k : ℕ). met_of_level t.level cells (take k t.entries)) (sym e ∙ z) in
          let s : 0 < ahead = h.some in
          omega arith
    ]

    back : place ≡ (place - 1) + 1
    back = let p : 0 < place = some-place place refl in omega arith

    walking : IsWalking t named conflict cells hints ((place - 1) + 1) ahead
    walking = subst (λ (n : ℕ). IsWalking t named conflict cells hints n ahead) back h

    pub step-low : x.lit.var < length cells
    step-low = subst (λ (y : Entry). y.lit.var < length cells) (sym is) (here-low cells hints (place - 1) ahead walking)

    pub step-pass : mark_at cells x.lit.var ≢ Met → IsWalking t named conflict cells hints (place - 1) ahead
    step-pass n = walking-pass cells hints (place - 1) ahead walking (subst (λ (y : Entry). mark_at cells y.lit.var ≢ Met) is n)

    module _ (met : mark_at cells x.lit.var ≡ Met) where
      here-met : mark_at cells (entry_at t.entries (place - 1)).lit.var ≡ Met
      here-met = subst (λ (y : Entry). mark_at cells y.lit.var ≡ Met) is met

      pub step-end : ahead - 1 ≡ 0 → (first : Lit) → first ≡ not_lit x.lit → IsWalked t named conflict cells hints first
      step-end z first e =
          subst (λ (l : Lit). IsWalked t named conflict cells hints l) (sym (e ∙ ap (λ (y : Entry). not_lit y.lit) is)) (walking-end cells hints (place - 1) ahead walking here-met z)

      module _ (more : 0 < ahead - 1) where
        pub step-reason : HasReason t.entries lives x.lit.var
        step-reason = subst (λ (y : Entry). HasReason t.entries lives y.lit.var) (sym is) (walking-reason cells hints (place - 1) ahead walking here-met more)

        module _ (new : List Mark) (ids : List ℕ) (n : ℕ) (cells_are : new ≡ resolved_by cells x.lit.var (reason_at named t.entries x.lit.var).lits)
            (ids_are : ids ≡ hints ++ (reason_at named t.entries x.lit.var).id ∷ [])
            (count_is : n ≡ counts t.entries t.level (set cells x.lit.var Resolved) x.lit.var (reason_at named t.entries x.lit.var).lits) where
          pub step-next : IsWalking t named conflict new ids (place - 1) (ahead - 1 + n)
          step-next = rw (cells_are, ids_are, count_is, is) (walking-next cells hints (place - 1) ahead walking here-met more)

          pub step-fits : ahead - 1 + n ≤ place - 1
          step-fits = rw (count_is, is) (walking-fits cells hints (place - 1) ahead walking here-met more)

  pub step-start : (cells new : List Mark) (hints : List ℕ) (n height : ℕ) → cells ≡ replicate (t.vars + 1) Blank → IsConflict t conflict.lits → new ≡ met_by cells 0 conflict.lits → hints ≡ conflict.id ∷ []
      → n ≡ counts t.entries t.level cells 0 conflict.lits → height ≡ length t.entries → IsWalking t named conflict new hints height n
  step-start cells new hints n height blank h e f k q = rw (e, f, k, q) (walking-start cells blank h)
