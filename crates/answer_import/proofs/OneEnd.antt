-- A text shows one verdict, or one line of it is the first that fails.
use Rattle.std.proofs.Common.{◌≡◌, ℕ, ◌+◌, ◌^◌, ◌≤◌, ◌<◌, Bool, true, false, List, ℤ, Option, Some, Ok, length, sym, ap, subst, ◌∙◌, inl, inr, arith}
use Rattle.bee_text.specs.Lines.{join_lines}
use Rattle.order_ints.specs.Numbers.{numbers_of}
use Rattle.order_ints.specs.Truth.{valuation_of}
use Rattle.sat_front.specs.Closed.{closed}
use Rattle.model_meaning.specs.declared.model.Goal.{Goal}
use Rattle.model_meaning.specs.declared.model.Goal.TheVariants.{Satisfy, Minimize, Maximize}
use Rattle.dimacs_read.specs.Values.{IsValues}
use Rattle.dimacs_read.proofs.Exact as values
use Rattle.lrat_check.specs.Laws.{ProofsFit, OneFails}
use Rattle.proof_import.specs.Refutations.{IsRefutation, RefutationFails}
use Rattle.answer_document.specs.declared.verdict.Verdict.{Verdict}
use Rattle.answer_import.specs.Imports.{Sought, better_cnf, ShowsBehind, FailsBehind, ShowsValues, FailsPast, ShowsFrom, FailsFrom, TextShows, TextFails}
use Rattle.answer_import.proofs.OneCut.{SameCut, cut-same}
use Rattle.answer_import.proofs.OneRefutation.{fails-closed, refutation-fits, refutation-line}

module _ (proofs : ProofsFit) (faults : OneFails) (s : Sought) (few : s.cnf.vars ≤ 2 ^ 27) where
  small : s.cnf.vars < 2 ^ 32
  small = omega (arith, few)

  values-same : (front : List ℕ) (a b : List Bool) → IsValues s.cnf front a → IsValues s.cnf front b → a ≡ b
  values-same front a b p q = values.values_complete s.cnf small front (λ (x : List Bool). x) (Ok a) p tt b q

  -- What stands behind values, which is the same but for a last line feed.
  module _ (rest later : List ℕ) (same : closed later ≡ closed rest) (vs : List Bool) where
    better-or-fails : (line : ℕ) → IsRefutation (better_cnf s vs) rest → RefutationFails (better_cnf s vs) later line → ⊥
    better-or-fails line h k = refutation-fits proofs faults (better_cnf s vs) few rest line h (fails-closed (better_cnf s vs) later rest same line k)

    behind-or-fails : (goal : Goal) (v : Verdict) (line : ℕ) → ShowsBehind s vs rest goal v → FailsBehind s vs later goal line → ⊥
    behind-or-fails Satisfy v line h k = k.0 (same ∙ h.0)
    behind-or-fails (Minimize place second) v line h k = better-or-fails line h.0 k
    behind-or-fails (Maximize place second) v line h k = better-or-fails line h.0 k

    better-line : (m n : ℕ) → RefutationFails (better_cnf s vs) rest m → RefutationFails (better_cnf s vs) later n → m ≡ n
    better-line m n h k = refutation-line proofs faults (better_cnf s vs) few rest m n h (fails-closed (better_cnf s vs) later rest same n k)

    behind-line : (goal : Goal) (m n : ℕ) → FailsBehind s vs rest goal m → FailsBehind s vs later goal n → m ≡ n
    behind-line Satisfy m n h k = h.1 ∙ sym k.1
    behind-line (Minimize place second) m n h k = better-line m n h k
    behind-line (Maximize place second) m n h k = better-line m n h k

    behind-verdict : (goal : Goal) (v w : Verdict) → ShowsBehind s vs rest goal v → ShowsBehind s vs later goal w → v ≡ w
    behind-verdict Satisfy v w h k = h.1 ∙ sym k.1
    behind-verdict (Minimize place second) v w h k = h.1 ∙ sym k.1
    behind-verdict (Maximize place second) v w h k = h.1 ∙ sym k.1

  module _ (text : List ℕ) (lines : List (List ℕ)) (rest later : List ℕ) (same : closed later ≡ closed rest) where
    past-or-fails : (v : Verdict) (a : Option (List ℤ)) (line : ℕ) → ShowsValues s (join_lines lines) rest v a → FailsPast s (join_lines lines) later (length lines) line → ⊥
    past-or-fails v a line h k =
        let one : k.values ≡ h.values = values-same (join_lines lines) k.values h.values k.are h.are in
        behind-or-fails rest later same h.values s.goal v k.place h.behind (subst (λ (vs : List Bool). FailsBehind s vs later s.goal k.place) one k.fails)

    from-or-fails : (told : Bool) (v : Verdict) (a : Option (List ℤ)) (line : ℕ) → ShowsFrom told s text lines rest v a → FailsFrom told s text lines later line → ⊥
    from-or-fails false v a line h k = refutation-fits proofs faults s.cnf few text line h.0 k
    from-or-fails true v a line h (inl k) = values.values_fit s.cnf small (join_lines lines) h.values line h.are k
    from-or-fails true v a line h (inr k) = past-or-fails v a line h k

    past-line : (m n : ℕ) → FailsPast s (join_lines lines) rest (length lines) m → FailsPast s (join_lines lines) later (length lines) n → m ≡ n
    past-line m n h k =
        let one : k.values ≡ h.values = values-same (join_lines lines) k.values h.values k.are h.are in
        let place : h.place ≡ k.place =
        behind-line rest later same h.values s.goal h.place k.place h.fails (subst (λ (vs : List Bool). FailsBehind s vs later s.goal k.place) one k.fails) in
        h.line_is ∙ ap (λ (p : ℕ). length lines + p) place ∙ sym k.line_is

    from-line : (told : Bool) (m n : ℕ) → FailsFrom told s text lines rest m → FailsFrom told s text lines later n → m ≡ n
    from-line false m n h k = refutation-line proofs faults s.cnf few text m n h k
    from-line true m n (inl h) (inl k) = values.line_same s.cnf small (join_lines lines) m n h k
    from-line true m n (inl h) (inr k) = absurd (values.values_fit s.cnf small (join_lines lines) k.values m k.are h)
    from-line true m n (inr h) (inl k) = absurd (values.values_fit s.cnf small (join_lines lines) h.values n h.are k)
    from-line true m n (inr h) (inr k) = past-line m n h k

    from-verdict : (told : Bool) (v w : Verdict) (a b : Option (List ℤ)) → ShowsFrom told s text lines rest v a → ShowsFrom told s text lines later w b → (v ≡ w) × (a ≡ b)
    from-verdict false v w a b h k = (h.1 ∙ sym k.1, h.2 ∙ sym k.2)
    from-verdict true v w a b h k =
        let one : k.values ≡ h.values = values-same (join_lines lines) k.values h.values k.are h.are in (
          behind-verdict rest later same h.values s.goal v w h.behind (subst (λ (vs : List Bool). ShowsBehind s vs later s.goal w) one k.behind),
          h.given_is ∙ ap (λ (vs : List Bool). Some (numbers_of (valuation_of vs) s.entries)) (sym one) ∙ sym k.given_is,
        )

  -- The same cut of both.
  module _ (text : List ℕ) (lines others : List (List ℕ)) (told tells : Bool) (rest later : List ℕ) (c : SameCut lines others told tells rest later) where
    shows-there : (w : Verdict) (b : Option (List ℤ)) → ShowsFrom tells s text others later w b → ShowsFrom told s text lines later w b
    shows-there w b h =
        subst (λ (x : Bool). ShowsFrom x s text lines later w b) (sym c.told_same) (subst (λ (ls : List (List ℕ)). ShowsFrom tells s text ls later w b) (sym c.lines_same) h)

    fails-there : (n : ℕ) → FailsFrom tells s text others later n → FailsFrom told s text lines later n
    fails-there n h =
        subst (λ (x : Bool). FailsFrom x s text lines later n) (sym c.told_same) (subst (λ (ls : List (List ℕ)). FailsFrom tells s text ls later n) (sym c.lines_same) h)

  pub shows-or-fails : (text : List ℕ) (v : Verdict) (a : Option (List ℤ)) (line : ℕ) → TextShows s text v a → TextFails s text line → ⊥
  shows-or-fails text v a line p q =
      let c = cut-same text p.rest q.rest p.lines q.lines p.told q.told p.cut q.cut in
      from-or-fails text p.lines p.rest q.rest (sym c.behind) p.told v a line p.shows (fails-there text p.lines q.lines p.told q.told p.rest q.rest c line q.fails)

  pub fails-once : (text : List ℕ) (m n : ℕ) → TextFails s text m → TextFails s text n → m ≡ n
  fails-once text m n p q =
      let c = cut-same text p.rest q.rest p.lines q.lines p.told q.told p.cut q.cut in
      from-line text p.lines p.rest q.rest (sym c.behind) p.told m n p.fails (fails-there text p.lines q.lines p.told q.told p.rest q.rest c n q.fails)

  pub shows-one : (text : List ℕ) (v w : Verdict) (a b : Option (List ℤ)) → TextShows s text v a → TextShows s text w b → (v ≡ w) × (a ≡ b)
  shows-one text v w a b p q =
      let c = cut-same text p.rest q.rest p.lines q.lines p.told q.told p.cut q.cut in
      from-verdict text p.lines p.rest q.rest (sym c.behind) p.told v w a b p.shows (shows-there text p.lines q.lines p.told q.told p.rest q.rest c w b q.shows)
