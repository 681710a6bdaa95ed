-- What is spelled is read as what it is.
use Rattle.std.proofs.Common.{◌≡◌, ℕ, max, ℤ, pos, neg_ℤ, ◌+ℤ◌, ◌-ℤ◌, ◌≤ℤ◌, Bool, true, false, List, [], ◌∷◌, ◌++◌, refl, sym, ap, subst, ◌∙◌, append_assoc, arith}
use Rattle.std.specs.Prelude.{Option, Some, None, Result, Ok, Err, int_le, int_lt, if◌then◌else◌}
use Rattle.std.proofs.lemmas.Int.{ints}
use Rattle.std.proofs.lemmas.List.{append-nil}
use Rattle.opb_front.specs.declared.items.Term.{Term}
use Rattle.opb_front.specs.declared.items.Constraint.{Constraint}
use Rattle.opb_front.specs.declared.items.Objective.{Objective}
use Rattle.opb_front.specs.declared.items.Comparison.{Comparison}
use Rattle.opb_front.specs.declared.items.Opb.{Opb}
use Rattle.opb_front.specs.declared.tokens.Token.{Token}
use Rattle.opb_front.specs.declared.tokens.Token.TheVariants.{Min, Semicolon, Compare, Number, Of}
use Rattle.opb_front.specs.declared.places.Place.{Place}
use Rattle.opb_front.specs.declared.places.Place.TheVariants.{First, Objectives, ObjectiveNumber, Terms, TermNumber, Bound, End}
use Rattle.opb_front.specs.declared.fault.Misfit.{Misfit}
use Rattle.opb_front.specs.Words.{text_lines}
use Rattle.opb_front.specs.Tokens.{most_number, text_tokens}
use Rattle.opb_front.specs.Grammar.{terms_tokens, objective_tokens, constraint_tokens, constraints_tokens, opb_tokens, sum_above, sum_below, SumsFit, ObjectiveFits, terms_index, greatest_index, IsOpbText}
use Rattle.opb_front.specs.Steps.{Draft, nothing_read, sum_passes, move_to, run_behind, run, run_lines, IsEnded}
use Rattle.opb_front.specs.Outcomes.{opb_of}
use Rattle.opb_front.proofs.Spelled.{draft, IsSpelled}
use Rattle.opb_front.proofs.Told.{part_above, part_below, SumsAt, IsTold, told_start, told_run}
use Rattle.opb_front.proofs.ByLines.{taken_lines, lines_taken}

max-behind : (a b c : ℕ) → max (max a b) c ≡ max a (max b c)
max-behind a b c = omega arith

max-none : (a : ℕ) → a ≡ max a 0
max-none a = omega arith

-- terms of a constraint, and constraints

module _ (low high : ℤ) (o : Option Objective) where
  terms-run : (cs : List Constraint) (vars : ℕ) (terms ts : List Term) (rest : List Token)
      → run (draft Terms terms low high o cs vars) (terms_tokens ts ++ rest) ≡ run (draft Terms (terms ++ ts) low high o cs (max vars (terms_index ts))) rest
  terms-run cs vars terms [] rest = λ i. run (draft Terms (sym (append-nil terms) i) low high o cs (max-none vars i)) rest
  terms-run cs vars terms (t ∷ ts) rest =
      terms-run cs (max vars t.literal.index) (terms ++ t ∷ []) ts rest
      ∙ (λ i. run (draft Terms (append_assoc terms (t ∷ []) ts i) low high o cs (max-behind vars t.literal.index (terms_index ts) i)) rest)

  constraint-run : (cs : List Constraint) (vars : ℕ) (c : Constraint) (rest : List Token)
      → run (draft Terms [] low high o cs vars) (constraint_tokens c ++ rest) ≡ run (draft Terms [] low high o (cs ++ c ∷ []) (max vars (terms_index c.terms))) rest
  constraint-run cs vars c rest =
      let last = Compare c.comparison ∷ Number c.bound ∷ Semicolon ∷ [] in
      ap (run (draft Terms [] low high o cs vars)) (append_assoc (terms_tokens c.terms) last rest) ∙ terms-run cs vars [] c.terms (last ++ rest)

  constraints-run : (ks cs : List Constraint) (vars : ℕ)
      → (n : ℕ) × (run (draft Terms [] low high o cs vars) (constraints_tokens ks) ≡ Ok (draft Terms [] low high o (cs ++ ks) n))
  constraints-run [] cs vars = (vars, λ i. Ok (draft Terms [] low high o (sym (append-nil cs) i) vars))
  constraints-run (k ∷ ks) cs vars =
      let rest = constraints-run ks (cs ++ k ∷ []) (max vars (terms_index k.terms)) in
      (rest.0, constraint-run cs vars k (constraints_tokens ks) ∙ rest.1 ∙ (λ i. Ok (draft Terms [] low high o (append_assoc cs (k ∷ []) ks i) rest.0)))

-- terms of the objective

module _ (a : ℤ) where
  sum-at-least : (x s : ℤ) (b : Bool) → b ≡ int_le (pos 0) x → pos 0 ≤ℤ s → pos 0 ≤ℤ ((if b then x else pos 0) +ℤ s)
  sum-at-least x s true e h = grind (arith, ints)
  sum-at-least x s false e h = omega (arith, ints)

  sum-at-most : (x s : ℤ) (b : Bool) → b ≡ int_le (pos 0) x → s ≤ℤ pos 0 → ((if b then pos 0 else x) +ℤ s) ≤ℤ pos 0
  sum-at-most x s true e h = omega (arith, ints)
  sum-at-most x s false e h = grind (arith, ints)

above-positive : (ts : List Term) → pos 0 ≤ℤ sum_above ts
above-positive [] = omega (arith, ints)
above-positive (t ∷ ts) = sum-at-least (pos 0) t.coefficient (sum_above ts) (int_le (pos 0) t.coefficient) refl (above-positive ts)

below-negative : (ts : List Term) → sum_below ts ≤ℤ pos 0
below-negative [] = omega (arith, ints)
below-negative (t ∷ ts) = sum-at-most (pos 0) t.coefficient (sum_below ts) (int_le (pos 0) t.coefficient) refl (below-negative ts)

no-more-above : (most high z s : ℤ) → (high +ℤ (z +ℤ s)) ≤ℤ most → pos 0 ≤ℤ s → int_lt (most -ℤ high) z ≡ false
no-more-above most high z s h k = grind (arith, ints)

no-more-below : (least low z s : ℤ) → least ≤ℤ (low +ℤ (z +ℤ s)) → s ≤ℤ pos 0 → int_lt z (least -ℤ low) ≡ false
no-more-below least low z s h k = grind (arith, ints)

passes-not : (low high z above below : ℤ) (b : Bool) → pos 0 ≤ℤ above → below ≤ℤ pos 0
    → (high +ℤ ((if b then z else pos 0) +ℤ above)) ≤ℤ pos most_number → neg_ℤ (pos most_number) ≤ℤ (low +ℤ ((if b then pos 0 else z) +ℤ below))
    → (if b then int_lt (pos most_number -ℤ high) z else int_lt z (neg_ℤ (pos most_number) -ℤ low)) ≡ false
passes-not low high z above below true p q h k = no-more-above (pos most_number) high z above h p
passes-not low high z above below false p q h k = no-more-below (neg_ℤ (pos most_number)) low z below k q

regroup : (a b c : ℤ) → a +ℤ (b +ℤ c) ≡ (a +ℤ b) +ℤ c
regroup a b c = omega (arith, ints)

none-more : (a : ℤ) → a ≡ a +ℤ pos 0
none-more a = omega (arith, ints)

new-high : (high z : ℤ) (b : Bool) → (if b then high +ℤ z else high) ≡ high +ℤ (if b then z else pos 0)
new-high high z true = refl
new-high high z false = none-more high

new-low : (low z : ℤ) (b : Bool) → (if b then low else low +ℤ z) ≡ low +ℤ (if b then pos 0 else z)
new-low low z true = none-more low
new-low low z false = refl

objective-run : (ts terms : List Term) (low high : ℤ) (vars : ℕ) (rest : List Token)
    → (high +ℤ sum_above ts) ≤ℤ pos most_number → neg_ℤ (pos most_number) ≤ℤ (low +ℤ sum_below ts)
    → (n : ℕ) × (run (draft Objectives terms low high None [] vars) (terms_tokens ts ++ rest) ≡ run (draft Objectives (terms ++ ts) (low +ℤ sum_below ts) (high +ℤ sum_above ts) None [] n) rest)
objective-run [] terms low high vars rest h k =
    (vars, λ i. run (draft Objectives (sym (append-nil terms) i) (none-more low i) (none-more high i) None [] vars) rest)
objective-run (t ∷ ts) terms low high vars rest h k =
    let z = t.coefficient in
    let b = int_le (pos 0) z in
    let low2 : ℤ = (if b then low else low +ℤ z) in
    let high2 : ℤ = (if b then high +ℤ z else high) in
    let s = draft Objectives terms low high None [] vars in
    let fits : sum_passes low high z ≡ false = passes-not low high z (sum_above ts) (sum_below ts) b (above-positive ts) (below-negative ts) h k in
    let highs : high2 +ℤ sum_above ts ≡ high +ℤ (part_above z +ℤ sum_above ts) = ap (λ (x : ℤ). x +ℤ sum_above ts) (new-high high z b) ∙ sym (regroup high (part_above z) (sum_above ts)) in
    let lows : low2 +ℤ sum_below ts ≡ low +ℤ (part_below z +ℤ sum_below ts) = ap (λ (x : ℤ). x +ℤ sum_below ts) (new-low low z b) ∙ sym (regroup low (part_below z) (sum_below ts)) in
    let on = objective-run ts (terms ++ t ∷ []) low2 high2 (max vars t.literal.index) rest
    (subst (λ (x : ℤ). x ≤ℤ pos most_number) (sym highs) h) (subst (λ (x : ℤ). neg_ℤ (pos most_number) ≤ℤ x) (sym lows) k) in (
      on.0,
      ap (λ (w : Bool). run_behind (move_to (Some (ObjectiveNumber z)) w s (Number z)) (λ u. run u (Of t.literal ∷ (terms_tokens ts ++ rest)))) fits
          ∙ on.1 ∙ (λ i. run (draft Objectives (append_assoc terms (t ∷ []) ts i) (lows i) (highs i) None [] on.0) rest),
    )

-- the whole

first-run : (ts : List Term) (c : Comparison) (z : ℤ) (rest : List Token)
    → run nothing_read ((terms_tokens ts ++ (Compare c ∷ Number z ∷ Semicolon ∷ [])) ++ rest)
    ≡ run (draft Terms [] (pos 0) (pos 0) None [] 0) ((terms_tokens ts ++ (Compare c ∷ Number z ∷ Semicolon ∷ [])) ++ rest)
first-run [] c z rest = refl
first-run (t ∷ ts) c z rest = refl

-- the reading of what is spelled
pub record Reads (o : Option Objective) (cs : List Constraint) : Type 0 where
  pub stands : Draft
  pub run_is : run nothing_read (opb_tokens o cs) ≡ Ok stands
  pub ended : IsEnded stands
  pub objective : stands.objective ≡ o
  pub constraints : stands.constraints ≡ cs

from-zero : (s t : ℤ) → t ≡ s → pos 0 +ℤ s ≡ t
from-zero s t e = omega (arith, ints)

pub reads : (o : Option Objective) (cs : List Constraint) → ObjectiveFits o → Reads o cs
reads None [] h = record { stands = nothing_read; run_is = refl; ended = (tt, refl); objective = refl; constraints = refl }
reads None (c ∷ cs) h =
    let on = constraints-run (pos 0) (pos 0) None (c ∷ cs) [] 0 in
    record {
      stands = draft Terms [] (pos 0) (pos 0) None (c ∷ cs) on.0;
      run_is = first-run c.terms c.comparison c.bound (constraints_tokens cs) ∙ on.1;
      ended = (tt, refl);
      objective = refl;
      constraints = refl;
    }
reads (Some o) cs h =
    let lows = from-zero (sum_below o.terms) o.low h.low in
    let highs = from-zero (sum_above o.terms) o.high h.high in
    let first = objective-run o.terms [] (pos 0) (pos 0) 0 (Semicolon ∷ constraints_tokens cs)
    (subst (λ (x : ℤ). x ≤ℤ pos most_number) (sym highs) h.most) (subst (λ (x : ℤ). neg_ℤ (pos most_number) ≤ℤ x) (sym lows) h.least) in
    let low = pos 0 +ℤ sum_below o.terms in
    let high = pos 0 +ℤ sum_above o.terms in
    let made : Objective = record { terms = o.terms; low = low; high = high } in
    let on = constraints-run low high (Some made) cs [] first.0 in
    record {
      stands = draft Terms [] low high (Some made) cs on.0;
      run_is = ap (λ xs. run (draft Objectives [] (pos 0) (pos 0) None [] 0) xs) (append_assoc (terms_tokens o.terms) (Semicolon ∷ []) (constraints_tokens cs)) ∙ first.1 ∙ on.1;
      ended = (tt, refl);
      objective = λ i. Some (record { terms = o.terms; low = lows i; high = highs i });
      constraints = refl;
    }

-- texts

opb-same : (x y : Opb) → x.vars ≡ y.vars → x.objective ≡ y.objective → x.constraints ≡ y.constraints → x ≡ y
opb-same x y p q r = λ i. record { vars = p i; objective = q i; constraints = r i }

pub record Said (text : List ℕ) (opb : Opb) : Type 0 where
  pub stands : Draft
  pub run_is : run_lines 1 nothing_read (text_lines text) ≡ Ok stands
  pub ended : IsEnded stands
  pub opb_is : opb ≡ opb_of stands

no-terms : (vars g : ℕ) (ts : List Term) → vars ≡ max g (terms_index ts) → ts ≡ [] → vars ≡ g
no-terms vars g ts e none = e ∙ ap (λ xs. max g (terms_index xs)) none ∙ sym (max-none g)

pub said_run : (text : List ℕ) (opb : Opb) → IsOpbText text opb → Said text opb
said_run text opb h =
    let r = reads opb.objective opb.constraints h.sums in
    let taken : run nothing_read (text_tokens text) ≡ Ok r.stands = ap (run nothing_read) h.tokens ∙ r.run_is in
    let told = told_run nothing_read [] (text_tokens text) r.stands told_start taken in
    let vars : r.stands.vars ≡ opb.vars =
    no-terms r.stands.vars (greatest_index r.stands.objective r.stands.constraints) r.stands.terms told.index r.ended.1
    ∙ (λ i. greatest_index (r.objective i) (r.constraints i)) ∙ sym h.vars in
    record {
      stands = r.stands;
      run_is = lines_taken 1 nothing_read (text_lines text) r.stands taken;
      ended = r.ended;
      opb_is = opb-same opb (opb_of r.stands) (sym vars) (sym r.objective) (sym r.constraints);
    }

module _ (ts : List Token) (low high : ℤ) (o : Option Objective) (cs : List Constraint) (vars : ℕ) where
  ended-tokens : (terms : List Term) → terms ≡ [] → objective_tokens o ++ (constraints_tokens cs ++ (terms_tokens terms ++ [])) ≡ ts → ts ≡ opb_tokens o cs
  ended-tokens terms none e =
      sym e ∙ ap (λ xs. objective_tokens o ++ (constraints_tokens cs ++ (terms_tokens xs ++ []))) none ∙ ap (λ xs. objective_tokens o ++ xs) (append-nil (constraints_tokens cs))

  ended-at : (q : Place) (terms : List Term) → IsSpelled (draft q terms low high o cs vars) ts → SumsAt q (draft q terms low high o cs vars) → IsEnded (draft q terms low high o cs vars)
      → (ts ≡ opb_tokens o cs) × ObjectiveFits o
  ended-at First terms h k e = (ended-tokens terms e.1 h.tokens, subst ObjectiveFits (sym h.clear.1.0) tt)
  ended-at Terms terms h k e = (ended-tokens terms e.1 h.tokens, k)
  ended-at Objectives terms h k e = absurd e.0
  ended-at (ObjectiveNumber z) terms h k e = absurd e.0
  ended-at (TermNumber z) terms h k e = absurd e.0
  ended-at (Bound c) terms h k e = absurd e.0
  ended-at (End c z) terms h k e = absurd e.0

pub run_said : (text : List ℕ) (s : Draft) → run_lines 1 nothing_read (text_lines text) ≡ Ok s → IsEnded s → IsOpbText text (opb_of s)
run_said text s e ended =
    let told = told_run nothing_read [] (text_tokens text) s told_start (taken_lines 1 nothing_read (text_lines text) s e) in
    let at = ended-at (text_tokens text) s.low s.high s.objective s.constraints s.vars s.place s.terms told.spelled told.sums ended in
    record {
      tokens = at.0;
      sums = at.1;
      vars = no-terms s.vars (greatest_index s.objective s.constraints) s.terms told.index ended.1;
    }
