-- The ends of a step of the search.
use Rattle.std.proofs.Common.{◌≡◌, ◌≢◌, ℕ, ◌+◌, ◌<◌, ◌≤◌, true, false, List, [], ◌∷◌, ◌++◌, length, set, get_or, Some, refl, sym, ap, ◌∙◌, subst, inl, inr, arith}
use Rattle.std.specs.List.{Contains}
use Rattle.std.proofs.lemmas.List.{length-set, length_push, get_or_default}
use Rattle.std.proofs.lemmas.Bool.{cases_eq, cases_lt}
use Rattle.order_ints.specs.declared.literal.Lit.{Lit}
use Rattle.literal_trail.specs.declared.entry.Entry.{Entry}
use Rattle.literal_trail.specs.Trail.{Trail, IsTrail, entry_of, truth_in}
use Rattle.proof_check.specs.Named.{Named}
use Rattle.conflict_analysis.specs.declared.marks.Mark.{Mark}
use Rattle.conflict_analysis.specs.declared.marks.Mark.TheVariants.{Blank, Entered, Implied}
use Rattle.conflict_analysis.specs.declared.minimiser.Frame.{Frame}
use Rattle.conflict_analysis.specs.Marking.{mark_at, is_covered_mark}
use Rattle.conflict_analysis.specs.Reasons.{AreReasons, place_of, level_at, reason_at}
use Rattle.conflict_analysis.specs.Seeking.{IsSeeking, IsStepped, MayEnter, IsRoot, StayMarked, StayKept, blanks, is_covered, lit_in, no_lit, frame_in, outcome_of}
use Rattle.conflict_analysis.proofs.Cells.{at-same, at-other}
use Rattle.conflict_analysis.proofs.Places.{in-range, level-of}
use Rattle.conflict_analysis.proofs.Seeks.{top-cases, kept-set, blanks-over, blanks-less, outcome-real, uncovered, seeking-give-up, seeking-enter, top-frame, top-deeper, seeking-on, seeking-pop, seeking-cover, literal-older, literal-below, fail-above}

-- a mark that is set stays one
pub stay-set : (cells : List Mark) (v : ℕ) (m : Mark) → v < length cells → m ≢ Blank → StayMarked cells (set cells v m)
stay-set cells v m low real w r = elim (cases_eq w v) [
  | inl e ↦ λ b. real (sym (at-same cells v m low) ∙ ap (mark_at (set cells v m)) (sym e) ∙ b)
  | inr n ↦ λ b. r (sym (at-other cells v w m n) ∙ b)
]

module _ (t : Trail) (tr : IsTrail t) (named : ℕ → Named) (lives : ℕ → Type 0) (rs : AreReasons t.entries named lives)
    (cells minimiser : List Mark) (stack : List Frame) (order : List ℕ) (f : Frame) (h : IsSeeking t.entries named cells minimiser (stack ++ f ∷ []) order) (size : length minimiser ≡ t.vars + 1) (low : f.var < t.vars + 1)
    (lits : List Lit) (is : lits ≡ (reason_at named t.entries f.var).lits) (place : ℕ) (inside : place ≤ length lits)
    (covered : (j : ℕ) → f.place ≤ j → j < place → is_covered minimiser f.var (lit_in lits j).var ≡ true) where
  low-top : f.var < length minimiser
  low-top = omega arith

  pub top-inside : f.place ≤ length lits
  top-inside = rw is (top-frame t.entries named cells minimiser stack order f h low-top).inside

  entered-real : mark_at minimiser f.var ≢ Blank
  entered-real b = let z : Entered ≡ Blank = sym (top-frame t.entries named cells minimiser stack order f h low-top).entered ∙ b in cc

  before : (j : ℕ) → j < place → is_covered minimiser f.var (lit_in (reason_at named t.entries f.var).lits j).var ≡ true
  before j l = elim (cases_lt j f.place) [
    | inl k ↦ (top-frame t.entries named cells minimiser stack order f h low-top).covered j k
    | inr k ↦ subst (λ (x : List Lit). is_covered minimiser f.var (lit_in x j).var ≡ true) is (covered j k l)
  ]

  top-loose : is_covered_mark (mark_at minimiser f.var) ≡ false
  top-loose = ap is_covered_mark (top-frame t.entries named cells minimiser stack order f h low-top).entered

  height : length (stack ++ f ∷ []) ≡ length stack + 1
  height = length_push stack f

  -- all its literals are covered
  pub stepped-cover : place ≡ length lits → (new : List Mark) (rest : List Frame) (more : List ℕ) → new ≡ set minimiser f.var Implied → rest ≡ stack → more ≡ order ++ f.var ∷ []
      → IsStepped t.entries named cells minimiser (stack ++ f ∷ []) new rest more
  stepped-cover all new rest more e k q = rw (e, k, q) (record {
    seeking = seeking-cover t.entries named cells minimiser stack order f h low-top (λ l c.
        let w : place ≡ length (reason_at named t.entries f.var).lits = all ∙ ap (λ (x : List Lit). length x) is in
        let lk : c.0 < length (reason_at named t.entries f.var).lits = c.1 in
        let lp : c.0 < place = omega arith in
        subst (λ (x : Lit). is_covered minimiser f.var x.var ≡ true) (get_or_default (reason_at named t.entries f.var).lits c.0 no_lit l c.1 ∙ c.2) (before c.0 lp));
    fewer = let b : blanks (set minimiser f.var Implied) ≡ blanks minimiser = blanks-over minimiser f.var Implied entered-real refl in let n : length (stack ++ f ∷ []) ≡ length stack + 1 = height in omega arith;
    stay = stay-set minimiser f.var Implied low-top (λ z. cc);
    keep = kept-set minimiser f.var Implied low-top top-loose;
    size = length-set minimiser f.var Implied;
  })

  module _ (short : place < length lits) (stops : is_covered minimiser f.var (lit_in lits place).var ≡ false) (l : Lit) (same-lit : l ≡ lit_in lits place) where
    read : l ≡ get_or lits place l
    read = same-lit ∙ get_or_default lits place no_lit l short

    in-reason : Contains (reason_at named t.entries f.var).lits l
    in-reason = subst (λ (x : List Lit). Contains x l) is (place, short, sym read)

    loose : is_covered minimiser f.var l.var ≡ false
    loose = ap (λ (x : Lit). is_covered minimiser f.var x.var) same-lit ∙ stops

    older : (e : Entry) × (entry_of t.entries l.var ≡ Some e) × (place_of t.entries l.var < place_of t.entries f.var) × (level_at t.entries l.var ≤ level_at t.entries f.var) × (truth_in t.entries l ≡ Some false)
    older = literal-older t tr named lives rs f.var (top-frame t.entries named cells minimiser stack order f h low-top).may_enter l in-reason (uncovered minimiser f.var l.var loose).0

    pub next-low : l.var < length minimiser
    next-low = let b = in-range t tr l.var older.0 older.1 in omega arith

    -- it was looked at already
    pub stepped-fail : mark_at minimiser l.var ≢ Blank → (new : List Mark) (rest : List Frame) (same : List ℕ) → new ≡ set minimiser f.var (outcome_of (mark_at cells f.var)) → rest ≡ stack → same ≡ order
        → IsStepped t.entries named cells minimiser (stack ++ f ∷ []) new rest same
    stepped-fail known new rest same e k q = rw (e, k, q) (record {
      seeking = seeking-pop t.entries named cells minimiser stack order f h low-top (fail-above t tr named lives rs cells minimiser stack order f h low-top l in-reason loose known);
      fewer = let b : blanks (set minimiser f.var (outcome_of (mark_at cells f.var))) ≡ blanks minimiser = blanks-over minimiser f.var (outcome_of (mark_at cells f.var)) entered-real (outcome-real (mark_at cells f.var)).1 in let n : length (stack ++ f ∷ []) ≡ length stack + 1 = height in omega arith;
      stay = stay-set minimiser f.var (outcome_of (mark_at cells f.var)) low-top (outcome-real (mark_at cells f.var)).0;
      keep = kept-set minimiser f.var (outcome_of (mark_at cells f.var)) low-top top-loose;
      size = length-set minimiser f.var (outcome_of (mark_at cells f.var));
    })

    module _ (blank : mark_at minimiser l.var ≡ Blank) where
      again : IsSeeking t.entries named cells minimiser (stack ++ record { var = f.var; place = place } ∷ []) order
      again = seeking-on t.entries named cells minimiser stack order f h low-top place (subst (λ (x : List Lit). place ≤ length x) is inside) before

      -- it is sought
      pub stepped-enter : MayEnter t.entries l.var → (new : List Mark) (rest : List Frame) (same : List ℕ) → new ≡ set minimiser l.var Entered
          → rest ≡ (stack ++ record { var = f.var; place = place } ∷ []) ++ record { var = l.var; place = 0 } ∷ [] → same ≡ order
          → IsStepped t.entries named cells minimiser (stack ++ f ∷ []) new rest same
      stepped-enter may new rest same e k q = rw (e, k, q) (record {
        seeking = seeking-enter t.entries named cells minimiser (stack ++ record { var = f.var; place = place } ∷ []) order again l.var next-low blank may
            (literal-below t tr named lives rs cells f.var l.var (top-frame t.entries named cells minimiser stack order f h low-top).below older.3)
            (λ j lj. elim (top-cases stack (record { var = f.var; place = place }) j lj) [
              | inl b ↦
                  let d : place_of t.entries f.var < place_of t.entries (frame_in stack j).var = top-deeper t.entries named cells minimiser stack order f h low-top j b.0 in
                  let o : place_of t.entries l.var < place_of t.entries f.var = older.2 in
                  subst (λ (g : Frame). place_of t.entries l.var < place_of t.entries g.var) (sym b.1) (omega arith)
              | inr b ↦ subst (λ (g : Frame). place_of t.entries l.var < place_of t.entries g.var) (sym b.1) older.2
            ]);
        fewer =
            let b : blanks (set minimiser l.var Entered) + 1 ≡ blanks minimiser = blanks-less minimiser l.var Entered next-low blank refl in
            let n : length (stack ++ f ∷ []) ≡ length stack + 1 = height in
            let m : length (stack ++ record { var = f.var; place = place } ∷ []) ≡ length stack + 1 = length_push stack (record { var = f.var; place = place }) in
            let o : length ((stack ++ record { var = f.var; place = place } ∷ []) ++ record { var = l.var; place = 0 } ∷ []) ≡ length (stack ++ record { var = f.var; place = place } ∷ []) + 1 = length_push (stack ++ record { var = f.var; place = place } ∷ []) (record { var = l.var; place = 0 }) in
            omega arith;
        stay = stay-set minimiser l.var Entered next-low (λ z. cc);
        keep = kept-set minimiser l.var Entered next-low (ap is_covered_mark blank);
        size = length-set minimiser l.var Entered;
      })

      -- it fails at once
      pub stepped-up : ((e : Entry) → entry_of t.entries l.var ≡ Some e → 1 ≤ e.level) → (new : List Mark) (rest : List Frame) (same : List ℕ) → new ≡ set minimiser l.var (outcome_of (mark_at cells l.var))
          → rest ≡ stack ++ record { var = f.var; place = place } ∷ [] → same ≡ order → IsStepped t.entries named cells minimiser (stack ++ f ∷ []) new rest same
      stepped-up above new rest same e k q = rw (e, k, q) (record {
        seeking = seeking-give-up t.entries named cells minimiser (stack ++ record { var = f.var; place = place } ∷ []) order again l.var next-low blank
            (let a : 1 ≤ older.0.level = above older.0 older.1 in let b : level_at t.entries l.var ≡ older.0.level = level-of t.entries l.var older.0 older.1 in omega arith);
        fewer =
            let b : blanks (set minimiser l.var (outcome_of (mark_at cells l.var))) + 1 ≡ blanks minimiser = blanks-less minimiser l.var (outcome_of (mark_at cells l.var)) next-low blank (outcome-real (mark_at cells l.var)).1 in
            let n : length (stack ++ f ∷ []) ≡ length stack + 1 = height in
            let m : length (stack ++ record { var = f.var; place = place } ∷ []) ≡ length stack + 1 = length_push stack (record { var = f.var; place = place }) in
            omega arith;
        stay = stay-set minimiser l.var (outcome_of (mark_at cells l.var)) next-low (outcome-real (mark_at cells l.var)).0;
        keep = kept-set minimiser l.var (outcome_of (mark_at cells l.var)) next-low (ap is_covered_mark blank);
        size = length-set minimiser l.var (outcome_of (mark_at cells l.var));
      })

-- the first variable that is sought
module _ (t : Trail) (tr : IsTrail t) (named : ℕ → Named) (cells minimiser : List Mark) (order : List ℕ) (h : IsSeeking t.entries named cells minimiser [] order) (size : length minimiser ≡ t.vars + 1)
    (root : ℕ) (is : IsRoot t.entries cells root) (blank : mark_at minimiser root ≡ Blank) where
  pub root-low : root < t.vars + 1
  root-low = let b = in-range t tr root is.entry is.found in omega arith

  low-root : root < length minimiser
  low-root = let l : root < t.vars + 1 = root-low in omega arith

  pub root-enter : MayEnter t.entries root → (new : List Mark) (stack : List Frame) (same : List ℕ) (old : List Frame) → new ≡ set minimiser root Entered → stack ≡ old ++ record { var = root; place = 0 } ∷ [] → old ≡ [] → same ≡ order
      → IsSeeking t.entries named cells new stack same
  root-enter may new stack same old e k z q = rw (e, k, z, q) (seeking-enter t.entries named cells minimiser [] order h root low-root blank may is.below (λ j l. absurd (omega arith)))

  pub root-up : ((e : Entry) → entry_of t.entries root ≡ Some e → 1 ≤ e.level) → (new : List Mark) (same : List ℕ) → new ≡ set minimiser root (outcome_of (mark_at cells root)) → same ≡ order → IsSeeking t.entries named cells new [] same
  root-up above new same e q = rw (e, q) (seeking-give-up t.entries named cells minimiser [] order h root low-root blank
      (let a : 1 ≤ is.entry.level = above is.entry is.found in let b : level_at t.entries root ≡ is.entry.level = level-of t.entries root is.entry is.found in omega arith))

  pub root-known : (m : Mark) (new : List Mark) → m ≢ Blank → new ≡ set minimiser root m → mark_at new root ≢ Blank
  root-known m new real e b = real (sym (at-same minimiser root m low-root) ∙ ap (λ (c : List Mark). mark_at c root) (sym e) ∙ b)

  pub root-stay : (m : Mark) (new : List Mark) → m ≢ Blank → new ≡ set minimiser root m → StayMarked minimiser new
  root-stay m new real e = rw e (stay-set minimiser root m low-root real)

  pub root-keep : (m : Mark) (new : List Mark) → new ≡ set minimiser root m → StayKept minimiser new
  root-keep m new e = rw e (kept-set minimiser root m low-root (ap is_covered_mark blank))
