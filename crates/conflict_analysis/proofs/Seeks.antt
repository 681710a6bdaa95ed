-- The search along reasons: what each move of it keeps.
use Rattle.std.proofs.Common.{◌≡◌, ◌≢◌, ◌⊎◌, ◌==◌, ◌||◌, ℕ, zero, suc, ◌+◌, ◌<◌, ◌≤◌, Bool, true, false, List, [], ◌∷◌, ◌++◌, length, set, get_or, Some, refl, sym, ap, ◌∙◌, subst, inl, inr, arith}
use Rattle.std.specs.List.{Contains}
use Rattle.std.proofs.lemmas.List.{length_push, get_or_push, get_or_append_left, get_or_default}
use Rattle.std.proofs.lemmas.List.Elements.{Contains-push, Contains-append_left}
use Rattle.std.proofs.lemmas.Bool.{cases_eq, cases_lt, cases_Bool, eqb-true, eq-eqb}
use Rattle.order_ints.specs.declared.literal.Lit.{Lit}
use Rattle.literal_trail.specs.declared.entry.Entry.{Entry}
use Rattle.literal_trail.specs.Trail.{Trail, IsTrail, entry_of, truth_in}
use Rattle.proof_check.specs.Named.{Named}
use Rattle.conflict_analysis.specs.declared.marks.Mark.{Mark}
use Rattle.conflict_analysis.specs.declared.marks.Mark.TheVariants.{Blank, Met, Resolved, Entered, Kept, Failed, Implied}
use Rattle.conflict_analysis.specs.declared.minimiser.Frame.{Frame}
use Rattle.conflict_analysis.specs.Marking.{mark_at, is_blank, is_met, is_covered_mark}
use Rattle.conflict_analysis.specs.Reasons.{AreReasons, place_of, level_at, reason_at}
use Rattle.conflict_analysis.specs.Seeking.{IsSeeking, IsFrame, IsOrdered, MayEnter, IsBelow, blanks, is_covered, lit_in, frame_in, outcome_of}
use Rattle.conflict_analysis.proofs.Cells.{at-same, at-other, covered-is, met-is, met-isn't}
use Rattle.conflict_analysis.proofs.Touched.{once-push}
use Rattle.conflict_analysis.proofs.Places.{entry-place, false-entry, reason-lits, reason-of, level-of, level-rises}

-- marks that differ
pub marks-differ : (m a b : Mark) → (a ≡ b → ⊥) → m ≡ a → m ≡ b → ⊥
marks-differ m a b h e f = h (sym e ∙ f)

-- the frames of a stack with one more on top
pub top-cases : (stack : List Frame) (f : Frame) (k : ℕ) → k < length (stack ++ f ∷ []) → ((k < length stack) × (frame_in (stack ++ f ∷ []) k ≡ frame_in stack k)) ⊎ ((k ≡ length stack) × (frame_in (stack ++ f ∷ []) k ≡ f))
top-cases stack f k l =
    let n : length (stack ++ f ∷ []) ≡ length stack + 1 = length_push stack f in
    elim (cases_lt k (length stack)) [
      | inl low ↦ inl (low, get_or_append_left stack (f ∷ []) (record { var = 0; place = 0 }) k low)
      | inr high ↦ let e : k ≡ length stack = omega arith in inr (e, get_or_push stack f (record { var = 0; place = 0 }) k (sym e))
    ]

pub top-below : (stack : List Frame) (f : Frame) (k : ℕ) → k < length stack → (k < length (stack ++ f ∷ [])) × (frame_in (stack ++ f ∷ []) k ≡ frame_in stack k)
top-below stack f k l =
    let n : length (stack ++ f ∷ []) ≡ length stack + 1 = length_push stack f in
    (omega arith, get_or_append_left stack (f ∷ []) (record { var = 0; place = 0 }) k l)

pub top-is : (stack : List Frame) (f : Frame) → (length stack < length (stack ++ f ∷ [])) × (frame_in (stack ++ f ∷ []) (length stack) ≡ f)
top-is stack f =
    let n : length (stack ++ f ∷ []) ≡ length stack + 1 = length_push stack f in
    (omega arith, get_or_push stack f (record { var = 0; place = 0 }) (length stack) refl)

-- how many marks are blank when one is set
pub blanks-over : (cells : List Mark) (v : ℕ) (m : Mark) → mark_at cells v ≢ Blank → is_blank m ≡ false → blanks (set cells v m) ≡ blanks cells
blanks-over [] v m h r = refl
blanks-over (x ∷ cells) zero m h r = let was : is_blank x ≡ false = not-blank x h in rw (r, was) refl
  where
    not-blank : (y : Mark) → y ≢ Blank → is_blank y ≡ false
    not-blank Blank n = absurd (n refl)
    not-blank Met n = refl
    not-blank Resolved n = refl
    not-blank Entered n = refl
    not-blank Kept n = refl
    not-blank Failed n = refl
    not-blank Implied n = refl
blanks-over (x ∷ cells) (suc v) m h r = let e : blanks (set cells v m) ≡ blanks cells = blanks-over cells v m h r in omega arith

pub blanks-less : (cells : List Mark) (v : ℕ) (m : Mark) → v < length cells → mark_at cells v ≡ Blank → is_blank m ≡ false → blanks (set cells v m) + 1 ≡ blanks cells
blanks-less [] v m l h r = absurd (omega arith)
blanks-less (x ∷ cells) zero m l h r = let was : is_blank x ≡ true = ap is_blank h in rw (r, was) (omega arith)
blanks-less (x ∷ cells) (suc v) m l h r = let e : blanks (set cells v m) + 1 ≡ blanks cells = blanks-less cells v m (omega arith) h r in omega arith

-- a variable that is covered
pub covered-cases : (minimiser : List Mark) (v u : ℕ) → is_covered minimiser v u ≡ true → (u ≡ v) ⊎ (mark_at minimiser u ≡ Kept) ⊎ (mark_at minimiser u ≡ Implied)
covered-cases minimiser v u h = elim (cases_Bool (u == v)) [
  | inl p ↦ inl (eqb-true u v p)
  | inr p ↦ elim (covered-is (mark_at minimiser u) (drop-or (u == v) (is_covered_mark (mark_at minimiser u)) p h)) [ inl k ↦ inr (inl k) | inr k ↦ inr (inr k) ]
]
  where
    drop-or : (a b : Bool) → a ≡ false → (a || b) ≡ true → b ≡ true
    drop-or true b p q = cc
    drop-or false b p q = q

pub uncovered : (minimiser : List Mark) (v u : ℕ) → is_covered minimiser v u ≡ false → (u ≢ v) × (mark_at minimiser u ≢ Kept) × (mark_at minimiser u ≢ Implied)
uncovered minimiser v u h =
    let parts = split (u == v) (is_covered_mark (mark_at minimiser u)) h in (
      (λ e. let p : (u == v) ≡ true = eq-eqb u v e in cc),
      (λ e. let p : is_covered_mark (mark_at minimiser u) ≡ true = ap is_covered_mark e in let q : is_covered_mark (mark_at minimiser u) ≡ false = parts.1 in cc),
      (λ e. let p : is_covered_mark (mark_at minimiser u) ≡ true = ap is_covered_mark e in let q : is_covered_mark (mark_at minimiser u) ≡ false = parts.1 in cc),
    )
  where
    split : (a b : Bool) → (a || b) ≡ false → (a ≡ false) × (b ≡ false)
    split true b h = cc
    split false b h = (refl, h)

is-covered : (minimiser : List Mark) (v u : ℕ) → (u ≡ v) ⊎ (is_covered_mark (mark_at minimiser u) ≡ true) → is_covered minimiser v u ≡ true
is-covered minimiser v u h = elim h [
  | inl e ↦ let p : (u == v) ≡ true = eq-eqb u v e in rw p refl
  | inr e ↦ rw e (or-true (u == v))
]
  where
    or-true : (a : Bool) → (a || true) ≡ true
    or-true true = refl
    or-true false = refl

-- what a outcome is when a mark is set that covered nothing
module _ (minimiser : List Mark) (u : ℕ) (m : Mark) (low : u < length minimiser) (loose : is_covered_mark (mark_at minimiser u) ≡ false) where
  pub set-same : mark_at (set minimiser u m) u ≡ m
  set-same = at-same minimiser u m low

  pub covered-set : (v w : ℕ) → is_covered minimiser v w ≡ true → is_covered (set minimiser u m) v w ≡ true
  covered-set v w h = elim (covered-cases minimiser v w h) [
    | inl e ↦ is-covered (set minimiser u m) v w (inl e)
    | inr r ↦
        let s : is_covered_mark (mark_at minimiser w) ≡ true = elim r [ inl k ↦ ap is_covered_mark k | inr k ↦ ap is_covered_mark k ] in
        let n : w ≢ u = λ e. let q : is_covered_mark (mark_at minimiser w) ≡ false = ap (λ (x : ℕ). is_covered_mark (mark_at minimiser x)) e ∙ loose in cc in
        is-covered (set minimiser u m) v w (inr (ap is_covered_mark (at-other minimiser u w m n) ∙ s))
  ]

  pub kept-set : (w : ℕ) → mark_at minimiser w ≡ Kept → mark_at (set minimiser u m) w ≡ Kept
  kept-set w k =
      let n : w ≢ u = λ e. let q : is_covered_mark (mark_at minimiser w) ≡ false = ap (λ (x : ℕ). is_covered_mark (mark_at minimiser x)) e ∙ loose in let p : is_covered_mark (mark_at minimiser w) ≡ true = ap is_covered_mark k in cc in
      at-other minimiser u w m n ∙ k

  implied-set : (w : ℕ) → mark_at minimiser w ≡ Implied → mark_at (set minimiser u m) w ≡ Implied
  implied-set w k =
      let n : w ≢ u = λ e. let q : is_covered_mark (mark_at minimiser w) ≡ false = ap (λ (x : ℕ). is_covered_mark (mark_at minimiser x)) e ∙ loose in let p : is_covered_mark (mark_at minimiser w) ≡ true = ap is_covered_mark k in cc in
      at-other minimiser u w m n ∙ k

  pub frame-set : (entries : List Entry) (named : ℕ → Named) (cells : List Mark) (f : Frame) → f.var ≢ u → IsFrame entries named cells minimiser f → IsFrame entries named cells (set minimiser u m) f
  frame-set entries named cells f n h = record {
    may_enter = h.may_enter;
    below = h.below;
    inside = h.inside;
    covered = λ j l. covered-set f.var (lit_in (reason_at named entries f.var).lits j).var (h.covered j l);
    entered = at-other minimiser u f.var m n ∙ h.entered;
  }

  pub ordered-set : (entries : List Entry) (named : ℕ → Named) (cells : List Mark) (order : List ℕ) (i : ℕ) → IsOrdered entries named cells minimiser order i → IsOrdered entries named cells (set minimiser u m) order i
  ordered-set entries named cells order i h = record {
    may_enter = h.may_enter;
    below = h.below;
    others = λ l c. elim (h.others l c) [
      | inl e ↦ inl e
      | inr r ↦ elim r [ inl k ↦ inr (inl (kept-set l.var k)) | inr j ↦ inr (inr j) ]
    ];
    marked = implied-set (get_or order i 0) h.marked;
  }

outcome-cases : (m : Mark) → ((m ≡ Met) × (outcome_of m ≡ Kept)) ⊎ ((m ≢ Met) × (outcome_of m ≡ Failed))
outcome-cases m = elim (cases_Bool (is_met m)) [
  | inl p ↦ inl (met-is m p, rw p refl)
  | inr p ↦ inr (met-isn't m p, rw p refl)
]

pub outcome-real : (m : Mark) → (outcome_of m ≢ Blank) × (is_blank (outcome_of m) ≡ false)
outcome-real m = elim (cases_Bool (is_met m)) [
  | inl p ↦ (rw p (λ e. cc), rw p refl)
  | inr p ↦ (rw p (λ e. cc), rw p refl)
]

-- a mark that isn't the one that was set was there before
pub old-mark : (minimiser : List Mark) (u : ℕ) (m : Mark) → u < length minimiser → (v : ℕ) (k : Mark) → mark_at (set minimiser u m) v ≡ k → (m ≡ k → ⊥) → mark_at minimiser v ≡ k
old-mark minimiser u m low v k e n = elim (cases_eq v u) [
  | inl s ↦ absurd (n (sym (at-same minimiser u m low) ∙ ap (mark_at (set minimiser u m)) (sym s) ∙ e))
  | inr d ↦ sym (at-other minimiser u v m d) ∙ e
]

module _ (entries : List Entry) (named : ℕ → Named) (cells minimiser : List Mark) (stack : List Frame) (order : List ℕ) where
  -- a variable gets a mark that isn't one of these that are listed: the frames stay
  module _ (h : IsSeeking entries named cells minimiser stack order) (u : ℕ) (low : u < length minimiser) (blank : mark_at minimiser u ≡ Blank) where
    loose : is_covered_mark (mark_at minimiser u) ≡ false
    loose = ap is_covered_mark blank

    apart : (k : ℕ) → k < length stack → (frame_in stack k).var ≢ u
    apart k l e = let q : Entered ≡ Blank = sym (h.frames k l).entered ∙ ap (mark_at minimiser) e ∙ blank in cc

    -- it isn't implied
    pub seeking-give-up : 1 ≤ level_at entries u → IsSeeking entries named cells (set minimiser u (outcome_of (mark_at cells u))) stack order
    seeking-give-up above = record {
      frames = λ k l. frame-set minimiser u (outcome_of (mark_at cells u)) low loose entries named cells (frame_in stack k) (apart k l) (h.frames k l);
      entered = λ v e. h.entered v (old-mark minimiser u (outcome_of (mark_at cells u)) low v Entered e (λ q. elim (outcome-cases (mark_at cells u)) [ inl f ↦ let z : Kept ≡ Entered = sym f.1 ∙ q in cc | inr f ↦ let z : Failed ≡ Entered = sym f.1 ∙ q in cc ]));
      falling = h.falling;
      ordered = λ i l. ordered-set minimiser u (outcome_of (mark_at cells u)) low loose entries named cells order i (h.ordered i l);
      implied = λ v e. h.implied v (old-mark minimiser u (outcome_of (mark_at cells u)) low v Implied e (λ q. elim (outcome-cases (mark_at cells u)) [ inl f ↦ let z : Kept ≡ Implied = sym f.1 ∙ q in cc | inr f ↦ let z : Failed ≡ Implied = sym f.1 ∙ q in cc ]));
      kept = λ v e. elim (cases_eq v u) [
        | inl s ↦ elim (outcome-cases (mark_at cells u)) [
          | inl f ↦ (ap (mark_at cells) s ∙ f.0, subst (λ (x : ℕ). 1 ≤ level_at entries x) (sym s) above)
          | inr f ↦ let z : Failed ≡ Kept = sym f.1 ∙ sym (at-same minimiser u (outcome_of (mark_at cells u)) low) ∙ ap (mark_at (set minimiser u (outcome_of (mark_at cells u)))) (sym s) ∙ e in absurd cc
        ]
        | inr n ↦ h.kept v (sym (at-other minimiser u v (outcome_of (mark_at cells u)) n) ∙ e)
      ];
      failed = λ v e. elim (cases_eq v u) [
        | inl s ↦ elim (outcome-cases (mark_at cells u)) [
          | inr f ↦ ((λ q. f.0 (ap (mark_at cells) (sym s) ∙ q)), subst (λ (x : ℕ). 1 ≤ level_at entries x) (sym s) above)
          | inl f ↦ let z : Kept ≡ Failed = sym f.1 ∙ sym (at-same minimiser u (outcome_of (mark_at cells u)) low) ∙ ap (mark_at (set minimiser u (outcome_of (mark_at cells u)))) (sym s) ∙ e in absurd cc
        ]
        | inr n ↦ h.failed v (sym (at-other minimiser u v (outcome_of (mark_at cells u)) n) ∙ e)
      ];
      once = h.once;
      proper = λ v. elim (cases_eq v u) [
        | inl s ↦
            let is : mark_at (set minimiser u (outcome_of (mark_at cells u))) v ≡ outcome_of (mark_at cells u) = ap (mark_at (set minimiser u (outcome_of (mark_at cells u)))) s ∙ at-same minimiser u (outcome_of (mark_at cells u)) low in
            elim (outcome-cases (mark_at cells u)) [
              | inl f ↦ ((λ q. let z : Kept ≡ Met = sym f.1 ∙ sym is ∙ q in cc), (λ q. let z : Kept ≡ Resolved = sym f.1 ∙ sym is ∙ q in cc))
              | inr f ↦ ((λ q. let z : Failed ≡ Met = sym f.1 ∙ sym is ∙ q in cc), (λ q. let z : Failed ≡ Resolved = sym f.1 ∙ sym is ∙ q in cc))
            ]
        | inr n ↦ ((λ q. (h.proper v).0 (sym (at-other minimiser u v (outcome_of (mark_at cells u)) n) ∙ q)), (λ q. (h.proper v).1 (sym (at-other minimiser u v (outcome_of (mark_at cells u)) n) ∙ q)))
      ];
    }

    -- it is sought
    pub seeking-enter : MayEnter entries u → IsBelow entries cells u → ((k : ℕ) → k < length stack → place_of entries u < place_of entries (frame_in stack k).var)
        → IsSeeking entries named cells (set minimiser u Entered) (stack ++ record { var = u; place = 0 } ∷ []) order
    seeking-enter may below deep = record {
      frames = λ k l. elim (top-cases stack (record { var = u; place = 0 }) k l) [
        | inl r ↦ subst (λ (f : Frame). IsFrame entries named cells (set minimiser u Entered) f) (sym r.1) (frame-set minimiser u Entered low loose entries named cells (frame_in stack k) (apart k r.0) (h.frames k r.0))
        | inr r ↦ subst (λ (f : Frame). IsFrame entries named cells (set minimiser u Entered) f) (sym r.1) (record {
          may_enter = may;
          below = below;
          inside = omega arith;
          covered = λ j l'. absurd (omega arith);
          entered = at-same minimiser u Entered low;
        })
      ];
      entered = λ v e. elim (cases_eq v u) [
        | inl s ↦ let t = top-is stack (record { var = u; place = 0 }) in (length stack, t.0, ap (λ (f : Frame). f.var) t.1 ∙ sym s)
        | inr n ↦
            let k = h.entered v (sym (at-other minimiser u v Entered n) ∙ e) in
            let t = top-below stack (record { var = u; place = 0 }) k.0 k.1 in
            (k.0, t.0, ap (λ (f : Frame). f.var) t.1 ∙ k.2)
      ];
      falling = λ i j l m. elim (top-cases stack (record { var = u; place = 0 }) j m) [
        | inl r ↦
            let lj : j < length stack = r.0 in
            let low-i : i < length stack = omega arith in
            let t = top-below stack (record { var = u; place = 0 }) i low-i in
            subst (λ (f : Frame). place_of entries (frame_in (stack ++ record { var = u; place = 0 } ∷ []) j).var < place_of entries f.var) (sym t.1)
            (subst (λ (f : Frame). place_of entries f.var < place_of entries (frame_in stack i).var) (sym r.1) (h.falling i j l r.0))
        | inr r ↦
            let ej : j ≡ length stack = r.0 in
            let low-i : i < length stack = omega arith in
            let t = top-below stack (record { var = u; place = 0 }) i low-i in
            subst (λ (f : Frame). place_of entries (frame_in (stack ++ record { var = u; place = 0 } ∷ []) j).var < place_of entries f.var) (sym t.1)
            (subst (λ (f : Frame). place_of entries f.var < place_of entries (frame_in stack i).var) (sym r.1) (deep i low-i))
      ];
      ordered = λ i l. ordered-set minimiser u Entered low loose entries named cells order i (h.ordered i l);
      implied = λ v e. h.implied v (old-mark minimiser u Entered low v Implied e (λ q. cc));
      kept = λ v e. h.kept v (old-mark minimiser u Entered low v Kept e (λ q. cc));
      failed = λ v e. h.failed v (old-mark minimiser u Entered low v Failed e (λ q. cc));
      once = h.once;
      proper = λ v. ((λ q. (h.proper v).0 (old-mark minimiser u Entered low v Met q (λ z. cc))), (λ q. (h.proper v).1 (old-mark minimiser u Entered low v Resolved q (λ z. cc))));
    }

  -- the frame on top
  module _ (f : Frame) (h : IsSeeking entries named cells minimiser (stack ++ f ∷ []) order) (low : f.var < length minimiser) where
    pub top-frame : IsFrame entries named cells minimiser f
    top-frame = let t = top-is stack f in subst (λ (g : Frame). IsFrame entries named cells minimiser g) t.1 (h.frames (length stack) t.0)

    pub frame-below : (k : ℕ) → k < length stack → IsFrame entries named cells minimiser (frame_in stack k)
    frame-below k l = let t = top-below stack f k l in subst (λ (g : Frame). IsFrame entries named cells minimiser g) t.1 (h.frames k t.0)

    pub top-deeper : (k : ℕ) → k < length stack → place_of entries f.var < place_of entries (frame_in stack k).var
    top-deeper k l =
        let t = top-is stack f in
        let b = top-below stack f k l in
        subst (λ (g : Frame). place_of entries f.var < place_of entries g.var) b.1
        (subst (λ (g : Frame). place_of entries g.var < place_of entries (frame_in (stack ++ f ∷ []) k).var) t.1 (h.falling k (length stack) l t.0))

    top-apart : (k : ℕ) → k < length stack → (frame_in stack k).var ≢ f.var
    top-apart k l e =
        let d : place_of entries f.var < place_of entries (frame_in stack k).var = top-deeper k l in
        let q : place_of entries (frame_in stack k).var ≡ place_of entries f.var = ap (place_of entries) e in
        omega arith

    top-loose : is_covered_mark (mark_at minimiser f.var) ≡ false
    top-loose = ap is_covered_mark top-frame.entered

    falling-below : (i j : ℕ) → i < j → j < length stack → place_of entries (frame_in stack j).var < place_of entries (frame_in stack i).var
    falling-below i j l m =
        let li : i < length stack = omega arith in
        let bi = top-below stack f i li in
        let bj = top-below stack f j m in
        subst (λ (g : Frame). place_of entries (frame_in stack j).var < place_of entries g.var) bi.1
        (subst (λ (g : Frame). place_of entries g.var < place_of entries (frame_in (stack ++ f ∷ []) i).var) bj.1 (h.falling i j l bj.0))

    -- the others are entered still when the one on top is done with
    entered-below : (m : Mark) → (m ≡ Entered → ⊥) → (v : ℕ) → mark_at (set minimiser f.var m) v ≡ Entered → (k : ℕ) × (k < length stack) × ((frame_in stack k).var ≡ v)
    entered-below m n v e =
        let k = h.entered v (old-mark minimiser f.var m low v Entered e n) in
        elim (top-cases stack f k.0 k.1) [
          | inl r ↦ (k.0, r.0, ap (λ (g : Frame). g.var) (sym r.1) ∙ k.2)
          | inr r ↦
              let s : f.var ≡ v = ap (λ (g : Frame). g.var) (sym r.1) ∙ k.2 in
              absurd (n (sym (at-same minimiser f.var m low) ∙ ap (mark_at (set minimiser f.var m)) s ∙ e))
        ]

    -- the literals up to a greater place are covered
    pub seeking-on : (place : ℕ) → place ≤ length (reason_at named entries f.var).lits → ((j : ℕ) → j < place → is_covered minimiser f.var (lit_in (reason_at named entries f.var).lits j).var ≡ true)
        → IsSeeking entries named cells minimiser (stack ++ record { var = f.var; place = place } ∷ []) order
    seeking-on place inside covered = record {
      frames = λ k l. elim (top-cases stack (record { var = f.var; place = place }) k l) [
        | inl r ↦ subst (λ (g : Frame). IsFrame entries named cells minimiser g) (sym r.1) (frame-below k r.0)
        | inr r ↦ subst (λ (g : Frame). IsFrame entries named cells minimiser g) (sym r.1) (record {
          may_enter = top-frame.may_enter;
          below = top-frame.below;
          inside = inside;
          covered = covered;
          entered = top-frame.entered;
        })
      ];
      entered = λ v e.
          let k = h.entered v e in
          elim (top-cases stack f k.0 k.1) [
            | inl r ↦ let b = top-below stack (record { var = f.var; place = place }) k.0 r.0 in (k.0, b.0, ap (λ (g : Frame). g.var) (b.1 ∙ sym r.1) ∙ k.2)
            | inr r ↦ let t = top-is stack (record { var = f.var; place = place }) in (length stack, t.0, ap (λ (g : Frame). g.var) t.1 ∙ ap (λ (g : Frame). g.var) (sym r.1) ∙ k.2)
          ];
      falling = λ i j l m. elim (top-cases stack (record { var = f.var; place = place }) j m) [
        | inl r ↦
            let lj : j < length stack = r.0 in
            let li : i < length stack = omega arith in
            let b = top-below stack (record { var = f.var; place = place }) i li in
            subst (λ (g : Frame). place_of entries (frame_in (stack ++ record { var = f.var; place = place } ∷ []) j).var < place_of entries g.var) (sym b.1)
            (subst (λ (g : Frame). place_of entries g.var < place_of entries (frame_in stack i).var) (sym r.1) (falling-below i j l r.0))
        | inr r ↦
            let ej : j ≡ length stack = r.0 in
            let li : i < length stack = omega arith in
            let b = top-below stack (record { var = f.var; place = place }) i li in
            subst (λ (g : Frame). place_of entries (frame_in (stack ++ record { var = f.var; place = place } ∷ []) j).var < place_of entries g.var) (sym b.1)
            (subst (λ (g : Frame). place_of entries g.var < place_of entries (frame_in stack i).var) (sym r.1) (top-deeper i li))
      ];
      ordered = h.ordered;
      implied = h.implied;
      kept = h.kept;
      failed = h.failed;
      once = h.once;
      proper = h.proper;
    }

    -- it isn't implied
    pub seeking-pop : 1 ≤ level_at entries f.var → IsSeeking entries named cells (set minimiser f.var (outcome_of (mark_at cells f.var))) stack order
    seeking-pop above = record {
      frames = λ k l. frame-set minimiser f.var (outcome_of (mark_at cells f.var)) low top-loose entries named cells (frame_in stack k) (top-apart k l) (frame-below k l);
      entered = entered-below (outcome_of (mark_at cells f.var)) (λ q. elim (outcome-cases (mark_at cells f.var)) [ inl g ↦ let z : Kept ≡ Entered = sym g.1 ∙ q in cc | inr g ↦ let z : Failed ≡ Entered = sym g.1 ∙ q in cc ]);
      falling = falling-below;
      ordered = λ i l. ordered-set minimiser f.var (outcome_of (mark_at cells f.var)) low top-loose entries named cells order i (h.ordered i l);
      implied = λ v e. h.implied v (old-mark minimiser f.var (outcome_of (mark_at cells f.var)) low v Implied e (λ q. elim (outcome-cases (mark_at cells f.var)) [ inl g ↦ let z : Kept ≡ Implied = sym g.1 ∙ q in cc | inr g ↦ let z : Failed ≡ Implied = sym g.1 ∙ q in cc ]));
      kept = λ v e. elim (cases_eq v f.var) [
        | inl s ↦ elim (outcome-cases (mark_at cells f.var)) [
          | inl g ↦ (ap (mark_at cells) s ∙ g.0, subst (λ (x : ℕ). 1 ≤ level_at entries x) (sym s) above)
          | inr g ↦ let z : Failed ≡ Kept = sym g.1 ∙ sym (at-same minimiser f.var (outcome_of (mark_at cells f.var)) low) ∙ ap (mark_at (set minimiser f.var (outcome_of (mark_at cells f.var)))) (sym s) ∙ e in absurd cc
        ]
        | inr n ↦ h.kept v (sym (at-other minimiser f.var v (outcome_of (mark_at cells f.var)) n) ∙ e)
      ];
      failed = λ v e. elim (cases_eq v f.var) [
        | inl s ↦ elim (outcome-cases (mark_at cells f.var)) [
          | inr g ↦ ((λ q. g.0 (ap (mark_at cells) (sym s) ∙ q)), subst (λ (x : ℕ). 1 ≤ level_at entries x) (sym s) above)
          | inl g ↦ let z : Kept ≡ Failed = sym g.1 ∙ sym (at-same minimiser f.var (outcome_of (mark_at cells f.var)) low) ∙ ap (mark_at (set minimiser f.var (outcome_of (mark_at cells f.var)))) (sym s) ∙ e in absurd cc
        ]
        | inr n ↦ h.failed v (sym (at-other minimiser f.var v (outcome_of (mark_at cells f.var)) n) ∙ e)
      ];
      once = h.once;
      proper = λ v. elim (cases_eq v f.var) [
        | inl s ↦
            let is : mark_at (set minimiser f.var (outcome_of (mark_at cells f.var))) v ≡ outcome_of (mark_at cells f.var) = ap (mark_at (set minimiser f.var (outcome_of (mark_at cells f.var)))) s ∙ at-same minimiser f.var (outcome_of (mark_at cells f.var)) low in
            elim (outcome-cases (mark_at cells f.var)) [
              | inl g ↦ ((λ q. let z : Kept ≡ Met = sym g.1 ∙ sym is ∙ q in cc), (λ q. let z : Kept ≡ Resolved = sym g.1 ∙ sym is ∙ q in cc))
              | inr g ↦ ((λ q. let z : Failed ≡ Met = sym g.1 ∙ sym is ∙ q in cc), (λ q. let z : Failed ≡ Resolved = sym g.1 ∙ sym is ∙ q in cc))
            ]
        | inr n ↦ ((λ q. (h.proper v).0 (sym (at-other minimiser f.var v (outcome_of (mark_at cells f.var)) n) ∙ q)), (λ q. (h.proper v).1 (sym (at-other minimiser f.var v (outcome_of (mark_at cells f.var)) n) ∙ q)))
      ];
    }

    order-push : (i : ℕ) → i < length order → get_or (order ++ f.var ∷ []) i 0 ≡ get_or order i 0
    order-push i l = get_or_append_left order (f.var ∷ []) 0 i l

    order-last : get_or (order ++ f.var ∷ []) (length order) 0 ≡ f.var
    order-last = get_or_push order f.var 0 (length order) refl

    not-listed : Contains order f.var → ⊥
    not-listed c =
        let o = h.ordered c.0 c.1 in
        let at : get_or order c.0 0 ≡ f.var = get_or_default order c.0 0 f.var c.1 ∙ c.2 in
        let z : Entered ≡ Implied = sym top-frame.entered ∙ ap (mark_at minimiser) (sym at) ∙ o.marked in
        cc

    -- all its reason's other literals are covered, so it is implied
    pub seeking-cover : ((l : Lit) → Contains (reason_at named entries f.var).lits l → is_covered minimiser f.var l.var ≡ true)
        → IsSeeking entries named cells (set minimiser f.var Implied) stack (order ++ f.var ∷ [])
    seeking-cover covered = record {
      frames = λ k l. frame-set minimiser f.var Implied low top-loose entries named cells (frame_in stack k) (top-apart k l) (frame-below k l);
      entered = entered-below Implied (λ q. cc);
      falling = falling-below;
      ordered = λ i l.
          let n : length (order ++ f.var ∷ []) ≡ length order + 1 = length_push order f.var in
          elim (cases_lt i (length order)) [
            | inl li ↦ keep i li (ordered-set minimiser f.var Implied low top-loose entries named cells order i (h.ordered i li))
            | inr hi ↦ let e : i ≡ length order = omega arith in subst (λ (k : ℕ). IsOrdered entries named cells (set minimiser f.var Implied) (order ++ f.var ∷ []) k) (sym e) last
          ];
      implied = λ v e. elim (cases_eq v f.var) [
        | inl s ↦ subst (λ (x : ℕ). Contains (order ++ f.var ∷ []) x) (sym s) (Contains-push order f.var)
        | inr n ↦ Contains-append_left order (f.var ∷ []) v (h.implied v (sym (at-other minimiser f.var v Implied n) ∙ e))
      ];
      kept = λ v e. h.kept v (old-mark minimiser f.var Implied low v Kept e (λ q. cc));
      failed = λ v e. h.failed v (old-mark minimiser f.var Implied low v Failed e (λ q. cc));
      once = once-push order f.var h.once not-listed;
      proper = λ v. ((λ q. (h.proper v).0 (old-mark minimiser f.var Implied low v Met q (λ z. cc))), (λ q. (h.proper v).1 (old-mark minimiser f.var Implied low v Resolved q (λ z. cc))));
    }
      where
        keep : (i : ℕ) → i < length order → IsOrdered entries named cells (set minimiser f.var Implied) order i → IsOrdered entries named cells (set minimiser f.var Implied) (order ++ f.var ∷ []) i
        keep i li o = record {
          may_enter = subst (λ (x : ℕ). MayEnter entries x) (sym (order-push i li)) o.may_enter;
          below = subst (λ (x : ℕ). IsBelow entries cells x) (sym (order-push i li)) o.below;
          others = λ l c. elim (o.others l (subst (λ (x : ℕ). Contains (reason_at named entries x).lits l) (order-push i li) c)) [
            | inl e ↦ inl (e ∙ sym (order-push i li))
            | inr r ↦ elim r [
              | inl k ↦ inr (inl k)
              | inr j ↦ let lj : j.0 < i = j.1 in let lo : j.0 < length order = omega arith in inr (inr (j.0, j.1, order-push j.0 lo ∙ j.2))
            ]
          ];
          marked = ap (mark_at (set minimiser f.var Implied)) (order-push i li) ∙ o.marked;
        }

        last : IsOrdered entries named cells (set minimiser f.var Implied) (order ++ f.var ∷ []) (length order)
        last = record {
          may_enter = subst (λ (x : ℕ). MayEnter entries x) (sym order-last) top-frame.may_enter;
          below = subst (λ (x : ℕ). IsBelow entries cells x) (sym order-last) top-frame.below;
          others = λ l c. elim (covered-cases minimiser f.var l.var (covered l (subst (λ (x : ℕ). Contains (reason_at named entries x).lits l) order-last c))) [
            | inl e ↦ inl (e ∙ sym order-last)
            | inr r ↦ elim r [
              | inl k ↦ inr (inl (kept-set minimiser f.var Implied low top-loose l.var k))
              | inr k ↦ let m = h.implied l.var k in inr (inr (m.0, m.1, order-push m.0 m.1 ∙ get_or_default order m.0 0 l.var m.1 ∙ m.2))
            ]
          ];
          marked = ap (mark_at (set minimiser f.var Implied)) order-last ∙ at-same minimiser f.var Implied low;
        }

-- a look at the literal that stops the one on top
module _ (t : Trail) (tr : IsTrail t) (named : ℕ → Named) (lives : ℕ → Type 0) (rs : AreReasons t.entries named lives) where
  -- the clause of an entry is the reason
  pub reason-is : (v c : ℕ) (e : Entry) → entry_of t.entries v ≡ Some e → e.reason ≡ Some c → reason_at named t.entries v ≡ named c
  reason-is v c e found because = reason-of named t.entries v c e found because

  pub reason-live : (v c : ℕ) (e : Entry) → entry_of t.entries v ≡ Some e → e.reason ≡ Some c → lives c
  reason-live v c e found because =
      let p = entry-place t.entries v e found in
      rs.live (place_of t.entries v) c p.0 (ap (λ (x : Entry). x.reason) p.1 ∙ because)

  -- a literal of a reason but its own: it has an entry, older and of no greater level
  pub literal-older : (v : ℕ) (m : MayEnter t.entries v) (l : Lit) → Contains (reason_at named t.entries v).lits l → l.var ≢ v
      → (e : Entry) × (entry_of t.entries l.var ≡ Some e) × (place_of t.entries l.var < place_of t.entries v) × (level_at t.entries l.var ≤ level_at t.entries v) × (truth_in t.entries l ≡ Some false)
  literal-older v m l c n =
      let has : Contains (named m.reference).lits l = subst (λ (r : Named). Contains r.lits l) (reason-of named t.entries v m.reference m.entry m.found m.because) c in
      elim ((reason-lits t tr named lives rs v m.reference m.entry m.found m.because).1 l has) [
        | inl s ↦ absurd (n (ap (λ (x : Lit). x.var) s ∙ (entry-place t.entries v m.entry m.found).2))
        | inr o ↦
            let f = false-entry t.entries l o.0 in
            let deep : place_of t.entries l.var < place_of t.entries v = o.1 in
            let k : f.0.level ≤ m.entry.level = level-rises t tr l.var v f.0 m.entry f.1 m.found (omega arith) in
            let a : level_at t.entries l.var ≡ f.0.level = level-of t.entries l.var f.0 f.1 in
            let b : level_at t.entries v ≡ m.entry.level = level-of t.entries v m.entry m.found in
            (f.0, f.1, o.1, omega arith, o.0)
      ]

  -- so what is resolved is of higher levels than it
  pub literal-below : (cells : List Mark) (v w : ℕ) → IsBelow t.entries cells v → level_at t.entries w ≤ level_at t.entries v → IsBelow t.entries cells w
  literal-below cells v w b l u r = let k : level_at t.entries v < level_at t.entries u = b u r in omega arith

  module _ (cells minimiser : List Mark) (stack : List Frame) (order : List ℕ) (f : Frame) (h : IsSeeking t.entries named cells minimiser (stack ++ f ∷ []) order) (low : f.var < length minimiser) where
    -- where it is looked at already, and didn't cover, the one on top fails, above level 0
    pub fail-above : (l : Lit) → Contains (reason_at named t.entries f.var).lits l → is_covered minimiser f.var l.var ≡ false → mark_at minimiser l.var ≢ Blank → 1 ≤ level_at t.entries f.var
    fail-above l c s n =
        let u = uncovered minimiser f.var l.var s in
        let o = literal-older f.var (top-frame t.entries named cells minimiser stack order f h low).may_enter l c u.0 in
        let lev : level_at t.entries l.var ≤ level_at t.entries f.var = o.3 in
        by-mark (mark_at minimiser l.var) refl
      where
        by-mark : (m : Mark) → mark_at minimiser l.var ≡ m → 1 ≤ level_at t.entries f.var
        by-mark Blank e = absurd (n e)
        by-mark Met e = absurd ((h.proper l.var).0 e)
        by-mark Resolved e = absurd ((h.proper l.var).1 e)
        by-mark Kept e = absurd ((uncovered minimiser f.var l.var s).1 e)
        by-mark Implied e = absurd ((uncovered minimiser f.var l.var s).2 e)
        by-mark Failed e =
            let o = literal-older f.var (top-frame t.entries named cells minimiser stack order f h low).may_enter l c (uncovered minimiser f.var l.var s).0 in
            let lev : level_at t.entries l.var ≤ level_at t.entries f.var = o.3 in
            let a : 1 ≤ level_at t.entries l.var = (h.failed l.var e).1 in
            omega arith
        by-mark Entered e =
            let o = literal-older f.var (top-frame t.entries named cells minimiser stack order f h low).may_enter l c (uncovered minimiser f.var l.var s).0 in
            let deep : place_of t.entries l.var < place_of t.entries f.var = o.2 in
            let k = h.entered l.var e in
            elim (top-cases stack f k.0 k.1) [
              | inl r ↦
                  let d : place_of t.entries f.var < place_of t.entries (frame_in stack k.0).var = top-deeper t.entries named cells minimiser stack order f h low k.0 r.0 in
                  let q : place_of t.entries (frame_in stack k.0).var ≡ place_of t.entries l.var = ap (place_of t.entries) (ap (λ (g : Frame). g.var) (sym r.1) ∙ k.2) in
                  absurd (omega arith)
              | inr r ↦ absurd ((uncovered minimiser f.var l.var s).0 (sym (ap (λ (g : Frame). g.var) (sym r.1) ∙ k.2)))
            ]
