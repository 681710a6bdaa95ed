-- What is known behind tokens: they are spelled by it, its sums are those of the objective, and its index is the greatest.
use Rattle.std.proofs.Common.{◌≡◌, ℕ, max, ℤ, pos, neg_ℤ, ◌+ℤ◌, ◌-ℤ◌, ◌≤ℤ◌, Bool, true, false, List, [], ◌∷◌, ◌++◌, map, refl, sym, ap, subst, ◌∙◌, append_assoc, arith}
use Rattle.std.specs.Prelude.{Option, Some, None, Result, Ok, Err, int_le, int_lt, if◌then◌else◌}
use Rattle.std.proofs.lemmas.Int.{ints}
use Rattle.std.proofs.lemmas.List.{append-nil}
use Rattle.opb_front.specs.declared.items.Term.{Term}
use Rattle.opb_front.specs.declared.items.Literal.{Literal}
use Rattle.opb_front.specs.declared.items.Constraint.{Constraint}
use Rattle.opb_front.specs.declared.items.Objective.{Objective}
use Rattle.opb_front.specs.declared.items.Comparison.{Comparison}
use Rattle.opb_front.specs.declared.tokens.Token.{Token}
use Rattle.opb_front.specs.declared.tokens.Token.TheVariants.{Min, Semicolon, Compare, Number, PastNumber, Of, PastIndex, Unknown}
use Rattle.opb_front.specs.declared.places.Place.{Place}
use Rattle.opb_front.specs.declared.places.Place.TheVariants.{First, Objectives, ObjectiveNumber, Terms, TermNumber, Bound, End}
use Rattle.opb_front.specs.declared.fault.Misfit.{Misfit}
use Rattle.opb_front.specs.Tokens.{most_number}
use Rattle.opb_front.specs.Grammar.{sum_above, sum_below, SumsFit, ObjectiveFits, terms_index, objective_index, constraints_index, greatest_index}
use Rattle.opb_front.specs.Steps.{sized, step_sized, step, Draft, nothing_read, with_token, at_place, sum_passes, passes, move, run}
use Rattle.opb_front.proofs.Spelled.{draft, draft_tokens, IsClear, IsSpelled, none_some, some_same, spelled_next}
use Rattle.opb_front.proofs.Begun.{Moved, moved, moved_sized, Cut, run_cut, ok_same}

-- the sums with one term more

abbrev pub part_above : ℤ → ℤ
part_above z = if int_le (pos 0) z then z else pos 0

abbrev pub part_below : ℤ → ℤ
part_below z = if int_le (pos 0) z then pos 0 else z

last-sum : (z : ℤ) → z +ℤ pos 0 ≡ pos 0 +ℤ z
last-sum z = omega (arith, ints)

next-sum : (x s z t : ℤ) → t ≡ s +ℤ z → x +ℤ t ≡ (x +ℤ s) +ℤ z
next-sum x s z t e = omega (arith, ints)

pub above_push : (ts : List Term) (t : Term) → sum_above (ts ++ t ∷ []) ≡ sum_above ts +ℤ part_above t.coefficient
above_push [] t = last-sum (part_above t.coefficient)
above_push (u ∷ ts) t = next-sum (part_above u.coefficient) (sum_above ts) (part_above t.coefficient) (sum_above (ts ++ t ∷ [])) (above_push ts t)

pub below_push : (ts : List Term) (t : Term) → sum_below (ts ++ t ∷ []) ≡ sum_below ts +ℤ part_below t.coefficient
below_push [] t = last-sum (part_below t.coefficient)
below_push (u ∷ ts) t = next-sum (part_below u.coefficient) (sum_below ts) (part_below t.coefficient) (sum_below (ts ++ t ∷ [])) (below_push ts t)

-- the sums at a place; the sums of a coefficient are there before its literal

abbrev pub SumsAt : Place → Draft → Type 0
SumsAt First s = (s.low ≡ pos 0) × (s.high ≡ pos 0)
SumsAt Objectives s = SumsFit (record { terms = s.terms; low = s.low; high = s.high })
SumsAt (ObjectiveNumber z) s = (l : Literal) → SumsFit (record { terms = s.terms ++ record { coefficient = z; literal = l } ∷ []; low = s.low; high = s.high })
SumsAt p s = ObjectiveFits s.objective

start-fits : (terms : List Term) (low high : ℤ) → terms ≡ [] → low ≡ pos 0 → high ≡ pos 0 → SumsFit (record { terms = terms; low = low; high = high })
start-fits terms low high none e f = record {
  low = e ∙ ap sum_below (sym none);
  high = f ∙ ap sum_above (sym none);
  least = omega (arith, ints, e);
  most = omega (arith, ints, f);
}

module _ (most low high z : ℤ) where
  most-kept : int_lt (most -ℤ high) z ≡ false → (high +ℤ z) ≤ℤ most
  most-kept e = grind (arith, ints)

  least-kept : int_lt z (most -ℤ low) ≡ false → most ≤ℤ (low +ℤ z)
  least-kept e = grind (arith, ints)

  stays : low ≡ low +ℤ pos 0
  stays = omega (arith, ints)

fits-by : (terms : List Term) (low high z : ℤ) (l : Literal) (b : Bool) → SumsFit (record { terms = terms; low = low; high = high })
    → (if b then int_lt (pos most_number -ℤ high) z else int_lt z (neg_ℤ (pos most_number) -ℤ low)) ≡ false
    → sum_below (terms ++ record { coefficient = z; literal = l } ∷ []) ≡ sum_below terms +ℤ (if b then pos 0 else z)
    → sum_above (terms ++ record { coefficient = z; literal = l } ∷ []) ≡ sum_above terms +ℤ (if b then z else pos 0)
    → SumsFit (record { terms = terms ++ record { coefficient = z; literal = l } ∷ []; low = (if b then low else low +ℤ z); high = (if b then high +ℤ z else high) })
fits-by terms low high z l true h e f g = record {
  low = stays (pos 0) low high z ∙ ap (λ s. s +ℤ pos 0) h.low ∙ sym f;
  high = ap (λ s. s +ℤ z) h.high ∙ sym g;
  least = h.least;
  most = most-kept (pos most_number) low high z e;
}
fits-by terms low high z l false h e f g = record {
  low = ap (λ s. s +ℤ z) h.low ∙ sym f;
  high = stays (pos 0) high low z ∙ ap (λ s. s +ℤ pos 0) h.high ∙ sym g;
  least = least-kept (neg_ℤ (pos most_number)) low high z e;
  most = h.most;
}

module _ (terms : List Term) (low high : ℤ) (o : Option Objective) (cs : List Constraint) (vars : ℕ) where
  abbrev Sums : Place → Token → Place → Type 0
  Sums q t p = SumsAt p (with_token (draft q terms low high o cs vars) t)

  to : (q : Place) (t : Token) (r p : Place) → Some r ≡ Some p → Sums q t r → Sums q t p
  to q t r p e h = subst (Sums q t) (some_same r p e) h

  none : (q : Place) (t : Token) (p : Place) → None ≡ Some p → Sums q t p
  none q t p e = absurd (none_some p e)

  no-objective : o ≡ None → ObjectiveFits o
  no-objective e = subst ObjectiveFits (sym e) tt

  sums_at : (q : Place) (t : Token) (p : Place) → IsClear q (draft q terms low high o cs vars) → SumsAt q (draft q terms low high o cs vars) → step_sized q t ≡ Some p
      → passes (draft q terms low high o cs vars) t ≡ false → Sums q t p
  sums_at First Min p c h e w = to First Min Objectives p e (start-fits terms low high c.0 h.0 h.1)
  sums_at First (Number z) p c h e w = to First (Number z) (TermNumber z) p e (no-objective c.1.0)
  sums_at First (Compare k) p c h e w = to First (Compare k) (Bound k) p e (no-objective c.1.0)
  sums_at Objectives (Number z) p c h e w =
      to Objectives (Number z) (ObjectiveNumber z) p e
      (λ l. fits-by terms low high z l (int_le (pos 0) z) h w (below_push terms (record { coefficient = z; literal = l })) (above_push terms (record { coefficient = z; literal = l })))
  sums_at Objectives Semicolon p c h e w = to Objectives Semicolon Terms p e h
  sums_at (ObjectiveNumber z) (Of l) p c h e w = to (ObjectiveNumber z) (Of l) Objectives p e (h l)
  sums_at Terms (Number z) p c h e w = to Terms (Number z) (TermNumber z) p e h
  sums_at Terms (Compare k) p c h e w = to Terms (Compare k) (Bound k) p e h
  sums_at (TermNumber z) (Of l) p c h e w = to (TermNumber z) (Of l) Terms p e h
  sums_at (Bound k) (Number z) p c h e w = to (Bound k) (Number z) (End k z) p e h
  sums_at (End k z) Semicolon p c h e w = to (End k z) Semicolon Terms p e h
  sums_at First t p c h e w = none First t p e
  sums_at Objectives t p c h e w = none Objectives t p e
  sums_at (ObjectiveNumber z) t p c h e w = none (ObjectiveNumber z) t p e
  sums_at Terms t p c h e w = none Terms t p e
  sums_at (TermNumber z) t p c h e w = none (TermNumber z) t p e
  sums_at (Bound k) t p c h e w = none (Bound k) t p e
  sums_at (End k z) t p c h e w = none (End k z) t p e

-- the greatest index

max-behind : (a b c : ℕ) → max (max a b) c ≡ max a (max b c)
max-behind a b c = omega arith

pub index_push : (ts : List Term) (t : Term) → terms_index (ts ++ t ∷ []) ≡ max (terms_index ts) t.literal.index
index_push [] t = omega arith
index_push (u ∷ ts) t = ap (max u.literal.index) (index_push ts t) ∙ sym (max-behind u.literal.index (terms_index ts) t.literal.index)

pub indices_push : (cs : List Constraint) (c : Constraint) → constraints_index (cs ++ c ∷ []) ≡ max (constraints_index cs) (terms_index c.terms)
indices_push [] c = omega arith
indices_push (d ∷ cs) c = ap (max (terms_index d.terms)) (indices_push cs c) ∙ sym (max-behind (terms_index d.terms) (constraints_index cs) (terms_index c.terms))

abbrev pub IndexFits : Draft → Type 0
IndexFits s = s.vars ≡ max (greatest_index s.objective s.constraints) (terms_index s.terms)

term-index : (vars g i j k : ℕ) → vars ≡ max g i → k ≡ max i j → max vars j ≡ max g k
term-index vars g i j k e f = omega arith

constraint-index : (vars o i j k : ℕ) → vars ≡ max (max o i) j → k ≡ max i j → vars ≡ max (max o k) 0
constraint-index vars o i j k e f = omega arith

objective-index : (vars o i j : ℕ) → vars ≡ max (max o i) j → o ≡ 0 → vars ≡ max (max j i) 0
objective-index vars o i j e f = omega arith

module _ (terms : List Term) (low high : ℤ) (o : Option Objective) (cs : List Constraint) (vars : ℕ) where
  index_at : (q : Place) (t : Token) (p : Place) → IsClear q (draft q terms low high o cs vars) → IndexFits (draft q terms low high o cs vars) → step_sized q t ≡ Some p
      → IndexFits (at_place (with_token (draft q terms low high o cs vars) t) p)
  index_at Objectives Semicolon p c h e = objective-index vars (objective_index o) (constraints_index cs) (terms_index terms) h (ap objective_index c.0)
  index_at (ObjectiveNumber z) (Of l) p c h e =
      term-index vars (greatest_index o cs) (terms_index terms) l.index _ h (index_push terms (record { coefficient = z; literal = l }))
  index_at (TermNumber z) (Of l) p c h e =
      term-index vars (greatest_index o cs) (terms_index terms) l.index _ h (index_push terms (record { coefficient = z; literal = l }))
  index_at (End k z) Semicolon p c h e =
      constraint-index vars (objective_index o) (constraints_index cs) (terms_index terms) _ h (indices_push cs (record { terms = terms; comparison = k; bound = z }))
  index_at First Min p c h e = h
  index_at First (Number z) p c h e = h
  index_at First (Compare k) p c h e = h
  index_at Objectives (Number z) p c h e = h
  index_at Terms (Number z) p c h e = h
  index_at Terms (Compare k) p c h e = h
  index_at (Bound k) (Number z) p c h e = h
  index_at First t p c h e = absurd (none_some p e)
  index_at Objectives t p c h e = absurd (none_some p e)
  index_at (ObjectiveNumber z) t p c h e = absurd (none_some p e)
  index_at Terms t p c h e = absurd (none_some p e)
  index_at (TermNumber z) t p c h e = absurd (none_some p e)
  index_at (Bound k) t p c h e = absurd (none_some p e)
  index_at (End k z) t p c h e = absurd (none_some p e)

-- all of it

pub record IsTold (s : Draft) (ts : List Token) : Type 0 where
  pub spelled : IsSpelled s ts
  pub sums : SumsAt s.place s
  pub index : IndexFits s

pub told_start : IsTold nothing_read []
told_start = record { spelled = record { tokens = refl; clear = (refl, (refl, refl)) }; sums = (refl, refl); index = refl }

told_at : (s : Draft) (ts : List Token) (t : Token) (p : Place) → IsTold s ts → step_sized s.place t ≡ Some p → passes s t ≡ false → IsTold (at_place (with_token s t) p) (ts ++ t ∷ [])
told_at s ts t p h e w = record {
  spelled = spelled_next s ts t p h.spelled e;
  sums = again p (sums_at s.terms s.low s.high s.objective s.constraints s.vars s.place t p h.spelled.clear h.sums e w);
  index = index_at s.terms s.low s.high s.objective s.constraints s.vars s.place t p h.spelled.clear h.index e;
}
  where
    again : (q : Place) → SumsAt q (with_token s t) → SumsAt q (at_place (with_token s t) p)
    again First h = h
    again Objectives h = h
    again (ObjectiveNumber z) h = h
    again Terms h = h
    again (TermNumber z) h = h
    again (Bound c) h = h
    again (End c z) h = h

pub told_next : (s : Draft) (ts : List Token) (t : Token) (u : Draft) → IsTold s ts → Moved s t u → IsTold u (ts ++ t ∷ [])
told_next s ts t u h m =
    let e : step_sized s.place t ≡ Some m.place = ap (step_sized s.place) (sym (moved_sized s t u m)) ∙ m.step in
    subst (λ (d : Draft). IsTold d (ts ++ t ∷ [])) (sym m.is) (told_at s ts t m.place h e m.within)

pub told_run : (s : Draft) (xs ts : List Token) (u : Draft) → IsTold s xs → run s ts ≡ Ok u → IsTold u (xs ++ ts)
told_run s xs [] u h e = let all : xs ≡ xs ++ [] = sym (append-nil xs) in
    subst (λ (d : Draft). IsTold d (xs ++ [])) (ok_same s u e) (subst (IsTold s) all h)
told_run s xs (t ∷ ts) u h e =
    let cut = run_cut (move s t) (λ v. run v ts) u e in
    let next = told_next s xs t cut.between h (moved s t cut.between cut.before) in
    subst (IsTold u) (append_assoc xs (t ∷ []) ts) (told_run cut.between (xs ++ t ∷ []) ts u next cut.behind)
