-- Steps of an integer that are read.
use Rattle.std.proofs.Common.{◌≡◌, ℕ, ◌+◌, ◌-◌, ◌^◌, ◌<◌, ◌≤◌, ◌==◌, true, false, not, List, [], ◌∷◌, ◌++◌, length, map, take, drop, get_or, position, Some, None, refl, sym, ap, subst, ◌∙◌, arith}
use Rattle.std.specs.Fmt.{decimal}
use Rattle.std.proofs.lemmas.Bool.{true≢false, and_right}
use Rattle.std.proofs.lemmas.List.{map-append, append-nil, append_assoc}
use Rattle.std.proofs.lemmas.List.Folds.{list_all-append}
use Rattle.bee_text.specs.Lines.{lacks}
use Rattle.bee_text.proofs.SearchLemmas.{separator_cut, none_at}
use Rattle.order_ints.specs.declared.atom.Atom.{Atom}
use Rattle.order_ints.specs.OrderRange.{weights}
use Rattle.order_ints.specs.Place.{AtomBelow, StepsBelow}
use Rattle.ledger_text.specs.Words.{atom_word}
use Rattle.ledger_text.proofs.Spelled.{atom_no_colon}
use Rattle.dimacs_out.specs.CompiledText.{step_word, WeightsCount}
use Rattle.dimacs_out.proofs.WordsTell.{cut_tells}
use Rattle.dimacs_read.specs.Steps.{IsReadableStepWord, AreReadableWeights}

-- the word of a step is cut at its first colon
pub record StepCut (word : List ℕ) (i : ℕ) (s : Atom × ℕ) : Type 0 where
  pub front : take i word ≡ atom_word s.0
  pub back : take (length word - (i + 1)) (drop (i + 1) word) ≡ decimal s.1

pub step_cut : (word : List ℕ) (i : ℕ) (s : Atom × ℕ) → IsReadableStepWord s → word ≡ step_word s → position (λ b. b == 58) word ≡ Some i → StepCut word i s
step_cut word i s h e found =
    let cut = separator_cut 58 word i found in
    let both = cut_tells 58 (take i word) (atom_word s.0) (take (length word - (i + 1)) (drop (i + 1) word)) (decimal s.1) cut.0 (atom_no_colon (2 ^ 27 + 1) s.0 (omega arith) h.0) (sym cut.1 ∙ e) in
    record { front = both.0; back = both.1 }

pub step_has_colon : (word : List ℕ) (s : Atom × ℕ) → word ≡ step_word s → position (λ b. b == 58) word ≡ None → ⊥
step_has_colon word s e none =
    let lacking : lacks 58 (step_word s) ≡ true = ap (lacks 58) (sym e) ∙ none_at (λ b. b == 58) word none in
    let has : lacks 58 (step_word s) ≡ false = list_all-append (λ b. not (b == 58)) (atom_word s.0) (58 ∷ decimal s.1) ∙ and_right (lacks 58 (atom_word s.0)) false refl in
    true≢false (sym lacking ∙ has)

weights-push : (steps : List (Atom × ℕ)) (s : Atom × ℕ) → weights (steps ++ s ∷ []) ≡ weights steps + s.1
weights-push [] s = omega arith
weights-push (t ∷ steps) s = omega (arith, weights-push steps s)

below-push : (n : ℕ) (steps : List (Atom × ℕ)) (s : Atom × ℕ) → StepsBelow n steps → AtomBelow n s.0 → StepsBelow n (steps ++ s ∷ [])
below-push n [] s h a = (a, tt)
below-push n (t ∷ steps) s h a = (h.0, below-push n steps s h.1 a)

count-push : (steps : List (Atom × ℕ)) (s : Atom × ℕ) → WeightsCount steps → 1 ≤ s.1 → s.1 < 2 ^ 128 → WeightsCount (steps ++ s ∷ [])
count-push [] s h low high = (low, high, tt)
count-push (t ∷ steps) s h low high = (h.0, h.1, count-push steps s h.2 low high)

-- the steps that are still to come behind steps that raise so much
pub record StepsLeft (total : ℕ) (words : List (List ℕ)) : Type 0 where
  pub left : List (Atom × ℕ)
  pub spelled : words ≡ map step_word left
  pub below : StepsBelow (2 ^ 27 + 1) left
  pub weights_count : WeightsCount left
  pub most : total + weights left ≤ 2 ^ 31

pub steps_all : (steps : List (Atom × ℕ)) (words : List (List ℕ)) → AreReadableWeights steps → words ≡ map step_word steps → StepsLeft 0 words
steps_all steps words h e = record { left = steps; spelled = e; below = h.below; weights_count = h.weights_count; most = omega (arith, h.most) }

pub left_next : (total after : ℕ) (w : List ℕ) (ws : List (List ℕ)) (s : Atom × ℕ) → ((r : Atom × ℕ) → IsReadableStepWord r → w ≡ step_word r → r ≡ s) → after ≡ total + s.1
    → StepsLeft total (w ∷ ws) → StepsLeft after ws
left_next total after w ws s one e h = by h.left h.spelled h.below h.weights_count h.most
  where
    by : (left : List (Atom × ℕ)) → w ∷ ws ≡ map step_word left → StepsBelow (2 ^ 27 + 1) left → WeightsCount left → total + weights left ≤ 2 ^ 31 → StepsLeft after ws
    by [] same below count most = absurd (cc)
    by (r ∷ left) same below count most =
        let is : r ≡ s = one r (below.0, count.0, omega arith) (ap (λ vs. get_or vs 0 []) same) in
        let weight : r.1 ≡ s.1 = ap (λ x. x.1) is in
        record { left = left; spelled = ap (drop 1) same; below = below.1; weights_count = count.2; most = omega arith }

pub left_misfit : (total : ℕ) (w : List ℕ) (ws : List (List ℕ)) → ((r : Atom × ℕ) → IsReadableStepWord r → w ≡ step_word r → total + r.1 ≤ 2 ^ 31 → ⊥) → StepsLeft total (w ∷ ws) → ⊥
left_misfit total w ws none h = by h.left h.spelled h.below h.weights_count h.most
  where
    by : (left : List (Atom × ℕ)) → w ∷ ws ≡ map step_word left → StepsBelow (2 ^ 27 + 1) left → WeightsCount left → total + weights left ≤ 2 ^ 31 → ⊥
    by [] same below count most = absurd (cc)
    by (r ∷ left) same below count most = none r (below.0, count.0, omega arith) (ap (λ vs. get_or vs 0 []) same) (omega arith)

-- so many steps are read
pub record StepsSoFar (all words : List (List ℕ)) (steps : List (Atom × ℕ)) (total : ℕ) : Type 0 where
  pub readable : AreReadableWeights steps
  pub spelled : all ≡ map step_word steps ++ words
  pub total_is : total ≡ weights steps
  pub left : (ss : List (Atom × ℕ)) → AreReadableWeights ss → all ≡ map step_word ss → StepsLeft total words

pub no_steps : (all : List (List ℕ)) → StepsSoFar all all [] 0
no_steps all = record {
  readable = record { below = tt; weights_count = tt; most = omega arith };
  spelled = refl;
  total_is = refl;
  left = λ ss h e. steps_all ss all h e;
}

pub step_read : (all words : List (List ℕ)) (steps after : List (Atom × ℕ)) (total more : ℕ) (w : List ℕ) (ws : List (List ℕ)) (s : Atom × ℕ) → StepsSoFar all words steps total
    → words ≡ w ∷ ws → IsReadableStepWord s → w ≡ step_word s → ((r : Atom × ℕ) → IsReadableStepWord r → w ≡ step_word r → r ≡ s) → more ≡ total + s.1 → more ≤ 2 ^ 31
    → after ≡ steps ++ s ∷ [] → StepsSoFar all ws after more
step_read all words steps after total more w ws s h cut readable spelled one more_is most after_is =
    let P : List (Atom × ℕ) → Type 0 = λ xs. StepsSoFar all ws xs more in
    subst P (sym after_is) (record {
      readable = record {
        below = below-push (2 ^ 27 + 1) steps s h.readable.below readable.0;
        weights_count = count-push steps s h.readable.weights_count readable.1 (omega (arith, readable.2));
        most = omega (arith, weights-push steps s, h.total_is);
      };
      spelled = h.spelled ∙ ap (λ vs. map step_word steps ++ vs) (cut ∙ ap (λ v. v ∷ ws) spelled) ∙ sym (append_assoc (map step_word steps) (step_word s ∷ []) ws) ∙ ap (λ vs. vs ++ ws) (sym (map-append step_word steps (s ∷ [])));
      total_is = omega (arith, weights-push steps s, h.total_is);
      left = λ ss r e. left_next total more w ws s one more_is (let Q : List (List ℕ) → Type 0 = λ vs. StepsLeft total vs in subst Q cut (h.left ss r e));
    })

pub steps_misfit : (all words : List (List ℕ)) (steps : List (Atom × ℕ)) (total : ℕ) (w : List ℕ) (ws : List (List ℕ)) → StepsSoFar all words steps total → words ≡ w ∷ ws
    → ((r : Atom × ℕ) → IsReadableStepWord r → w ≡ step_word r → total + r.1 ≤ 2 ^ 31 → ⊥) → (ss : List (Atom × ℕ)) → AreReadableWeights ss → all ≡ map step_word ss → ⊥
steps_misfit all words steps total w ws h cut none ss readable e =
    let Q : List (List ℕ) → Type 0 = λ vs. StepsLeft total vs in
    left_misfit total w ws none (subst Q cut (h.left ss readable e))

pub steps_whole : (all words : List (List ℕ)) (steps : List (Atom × ℕ)) (total : ℕ) → StepsSoFar all words steps total → words ≡ [] → all ≡ map step_word steps
steps_whole all words steps total h none = h.spelled ∙ ap (λ vs. map step_word steps ++ vs) none ∙ append-nil (map step_word steps)
