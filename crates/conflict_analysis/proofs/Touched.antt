-- The list of what has a mark, as marks are set and taken away.
use Rattle.std.proofs.Common.{◌≡◌, ◌≢◌, ℕ, ◌+◌, ◌<◌, List, [], ◌∷◌, ◌++◌, length, set, get_or, replicate, refl, sym, ap, ◌∙◌, subst, arith, inl, inr, ◌⊎◌}
use Rattle.std.specs.List.{Contains, All}
use Rattle.std.proofs.lemmas.List.{length-set, length_push, get_or_push, get_or_append_left, get_or_default}
use Rattle.std.proofs.lemmas.List.Elements.{All-push, All-weaker, All-contains, Contains-push, Contains-append_left, Contains-push_cases}
use Rattle.std.proofs.lemmas.Bool.{cases_eq, cases_lt}
use Rattle.conflict_analysis.specs.declared.marks.Mark.{Mark}
use Rattle.conflict_analysis.specs.declared.marks.Mark.TheVariants.{Blank}
use Rattle.conflict_analysis.specs.Marking.{mark_at, IsTouched, Once}
use Rattle.conflict_analysis.proofs.Cells.{at-same, at-other, all-blank, blank-cases}

-- a new number behind the list
pub once-push : (vs : List ℕ) (v : ℕ) → Once vs → (Contains vs v → ⊥) → Once (vs ++ v ∷ [])
once-push vs v once new i j li lj e =
    let n : length (vs ++ v ∷ []) ≡ length vs + 1 = length_push vs v in
    elim (cases_lt i (length vs)) [
      | inl hi ↦ elim (cases_lt j (length vs)) [
        | inl hj ↦ once i j hi hj (sym (get_or_append_left vs (v ∷ []) 0 i hi) ∙ e ∙ get_or_append_left vs (v ∷ []) 0 j hj)
        | inr hj ↦
            let k : length vs ≡ j = omega arith in
            let at : get_or vs i 0 ≡ v = sym (get_or_append_left vs (v ∷ []) 0 i hi) ∙ e ∙ get_or_push vs v 0 j k in
            absurd (new (i, hi, get_or_default vs i v 0 hi ∙ at))
      ]
      | inr hi ↦ elim (cases_lt j (length vs)) [
        | inl hj ↦
            let k : length vs ≡ i = omega arith in
            let at : get_or vs j 0 ≡ v = sym (get_or_append_left vs (v ∷ []) 0 j hj) ∙ sym e ∙ get_or_push vs v 0 i k in
            absurd (new (j, hj, get_or_default vs j v 0 hj ∙ at))
        | inr hj ↦ omega arith
      ]
    ]

module _ (cells : List Mark) (touched : List ℕ) (v : ℕ) (m : Mark) (h : IsTouched cells touched) (low : v < length cells) (real : m ≢ Blank) where
  inside-set : (vs : List ℕ) → All (λ w. w < length cells) vs → All (λ w. w < length (set cells v m)) vs
  inside-set vs a = All-weaker (λ w. w < length cells) (λ w. w < length (set cells v m)) (λ w l. rw (length-set cells v m) l) vs a

  real-set : (w : ℕ) → mark_at cells w ≢ Blank → mark_at (set cells v m) w ≢ Blank
  real-set w r = elim (cases_eq w v) [
    | inl e ↦ subst (λ (x : ℕ). mark_at (set cells v m) x ≢ Blank) (sym e) (λ b. real (sym (at-same cells v m low) ∙ b))
    | inr ne ↦ λ b. r (sym (at-other cells v w m ne) ∙ b)
  ]

  -- a mark is set where one was
  pub touched-over : mark_at cells v ≢ Blank → IsTouched (set cells v m) touched
  touched-over was = record {
    listed = λ w r. elim (cases_eq w v) [
      | inl e ↦ subst (λ (x : ℕ). Contains touched x) (sym e) (h.listed v was)
      | inr ne ↦ h.listed w (λ b. r (at-other cells v w m ne ∙ b))
    ];
    inside = inside-set touched h.inside;
    marked = All-weaker (λ w. mark_at cells w ≢ Blank) (λ w. mark_at (set cells v m) w ≢ Blank) real-set touched h.marked;
    once = h.once;
  }

  -- a mark is set where there was none
  pub touched-push : mark_at cells v ≡ Blank → IsTouched (set cells v m) (touched ++ v ∷ [])
  touched-push was = record {
    listed = λ w r. elim (cases_eq w v) [
      | inl e ↦ subst (λ (x : ℕ). Contains (touched ++ v ∷ []) x) (sym e) (Contains-push touched v)
      | inr ne ↦ Contains-append_left touched (v ∷ []) w (h.listed w (λ b. r (at-other cells v w m ne ∙ b)))
    ];
    inside = All-push (λ w. w < length (set cells v m)) touched v (inside-set touched h.inside) (rw (length-set cells v m) low);
    marked = All-push (λ w. mark_at (set cells v m) w ≢ Blank) touched v
        (All-weaker (λ w. mark_at cells w ≢ Blank) (λ w. mark_at (set cells v m) w ≢ Blank) real-set touched h.marked)
        (λ b. real (sym (at-same cells v m low) ∙ b));
    once = once-push touched v h.once (λ c. All-contains (λ w. mark_at cells w ≢ Blank) touched v h.marked c was);
  }

-- what is marked still, as marks are taken away from the end of the list
pub record IsClearing (size : ℕ) (cells : List Mark) (touched : List ℕ) : Type 0 where
  pub listed : (v : ℕ) → mark_at cells v ≢ Blank → Contains touched v
  pub inside : All (λ v. v < length cells) touched
  pub size_is : length cells ≡ size

pub clearing-start : (cells : List Mark) (touched : List ℕ) → IsTouched cells touched → IsClearing (length cells) cells touched
clearing-start cells touched h = record { listed = h.listed; inside = h.inside; size_is = refl }

pub clearing-low : (size : ℕ) (cells : List Mark) (touched rest : List ℕ) (v : ℕ) → IsClearing size cells touched → touched ≡ rest ++ v ∷ [] → v < length cells
clearing-low size cells touched rest v h e = All-contains (λ w. w < length cells) touched v h.inside (subst (λ (vs : List ℕ). Contains vs v) (sym e) (Contains-push rest v))

pub clearing-next : (size : ℕ) (cells : List Mark) (touched rest : List ℕ) (v : ℕ) → IsClearing size cells touched → touched ≡ rest ++ v ∷ [] → IsClearing size (set cells v Blank) rest
clearing-next size cells touched rest v h e =
    let low : v < length cells = clearing-low size cells touched rest v h e in
    record {
      listed = λ w r. elim (cases_eq w v) [
        | inl k ↦ absurd (r (ap (mark_at (set cells v Blank)) k ∙ at-same cells v Blank low))
        | inr ne ↦ elim (Contains-push_cases rest v w (subst (λ (vs : List ℕ). Contains vs w) e (h.listed w (λ b. r (at-other cells v w Blank ne ∙ b))))) [
          | inl c ↦ c
          | inr k ↦ absurd (ne (sym k))
        ]
      ];
      inside = λ k d l.
          let a : All (λ w. w < length cells) (rest ++ v ∷ []) = subst (λ (vs : List ℕ). All (λ w. w < length cells) vs) e h.inside in
          let n : length (rest ++ v ∷ []) ≡ length rest + 1 = length_push rest v in
          let low' : k < length (rest ++ v ∷ []) = omega arith in
          rw (length-set cells v Blank) (subst (λ (x : ℕ). x < length cells) (get_or_append_left rest (v ∷ []) d k l) (a k d low'));
      size_is = length-set cells v Blank ∙ h.size_is;
    }

pub clearing-end : (size : ℕ) (cells : List Mark) → IsClearing size cells [] → cells ≡ replicate size Blank
clearing-end size cells h =
    subst (λ (n : ℕ). cells ≡ replicate n Blank) h.size_is
    (all-blank cells (λ v l. elim (is-blank v) [ inl e ↦ e | inr r ↦ absurd (none v (h.listed v r)) ]))
  where
    none : (v : ℕ) → Contains {X = ℕ} [] v → ⊥
    none v c = omega (arith, c.1)

    is-blank : (v : ℕ) → (mark_at cells v ≡ Blank) ⊎ (mark_at cells v ≢ Blank)
    is-blank v = blank-cases (mark_at cells v)
