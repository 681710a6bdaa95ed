-- The tokens that are read so far, as what is known of them spells them.
use Rattle.std.proofs.Common.{◌≡◌, ℕ, ℤ, pos, Bool, true, false, List, [], ◌∷◌, ◌++◌, map, refl, sym, ap, subst, ◌∙◌, append_assoc}
use Rattle.std.specs.Prelude.{Option, Some, None}
use Rattle.std.proofs.lemmas.List.{append-nil}
use Rattle.opb_front.specs.declared.items.Term.{Term}
use Rattle.opb_front.specs.declared.items.Constraint.{Constraint}
use Rattle.opb_front.specs.declared.items.Objective.{Objective}
use Rattle.opb_front.specs.declared.items.Literal.{Literal}
use Rattle.opb_front.specs.declared.items.Comparison.{Comparison}
use Rattle.opb_front.specs.declared.items.Comparison.TheVariants.{AtLeast}
use Rattle.opb_front.specs.declared.tokens.Token.{Token}
use Rattle.opb_front.specs.declared.tokens.Token.TheVariants.{Min, Semicolon, Compare, Number, PastNumber, Of, PastIndex, Unknown}
use Rattle.opb_front.specs.declared.places.Place.{Place}
use Rattle.opb_front.specs.declared.places.Place.TheVariants.{First, Objectives, ObjectiveNumber, Terms, TermNumber, Bound, End}
use Rattle.opb_front.specs.Grammar.{terms_tokens, objective_tokens, constraint_tokens, constraints_tokens, opb_tokens}
use Rattle.opb_front.specs.Steps.{sized, step_sized, Draft, with_token, at_place}

-- the tokens that stand behind the terms of the sum that is open
abbrev pub behind : Place → List Token
behind First = []
behind Objectives = []
behind (ObjectiveNumber z) = Number z ∷ []
behind Terms = []
behind (TermNumber z) = Number z ∷ []
behind (Bound c) = Compare c ∷ []
behind (End c z) = Compare c ∷ Number z ∷ []

-- the tokens before the constraints
abbrev pub front : Place → Option Objective → List Token
front Objectives o = Min ∷ []
front (ObjectiveNumber z) o = Min ∷ []
front p o = objective_tokens o

abbrev pub draft_tokens : Draft → List Token
draft_tokens s = front s.place s.objective ++ (constraints_tokens s.constraints ++ (terms_tokens s.terms ++ behind s.place))

-- at the start nothing is known, and in the objective no constraint
abbrev pub IsClear : Place → Draft → Type 0
IsClear First s = (s.terms ≡ []) × ((s.objective ≡ None) × (s.constraints ≡ []))
IsClear Objectives s = (s.objective ≡ None) × (s.constraints ≡ [])
IsClear (ObjectiveNumber z) s = (s.objective ≡ None) × (s.constraints ≡ [])
IsClear p s = Unit {0}

pub record IsSpelled (s : Draft) (ts : List Token) : Type 0 where
  pub tokens : draft_tokens s ≡ ts
  pub clear : IsClear s.place s

-- a draft by its fields
abbrev pub draft : Place → List Term → ℤ → ℤ → Option Objective → List Constraint → ℕ → Draft
draft p terms low high o cs vars = record { place = p; terms = terms; low = low; high = high; objective = o; constraints = cs; vars = vars }

pub none_some : {X : Type 0} (x : X) → None ≡ Some x → ⊥
none_some x e = cc

pub some_same : {X : Type 0} (x y : X) → Some x ≡ Some y → x ≡ y
some_same x y e = cc

-- one token more

push_behind : (a b c d : List Token) (t : Token) → a ++ (b ++ (c ++ (d ++ t ∷ []))) ≡ (a ++ (b ++ (c ++ d))) ++ t ∷ []
push_behind a b c d t = sym (simp append_assoc)

pub terms_push : (ts : List Term) (t : Term) (rest : List Token) → terms_tokens (ts ++ t ∷ []) ++ rest ≡ terms_tokens ts ++ (Number t.coefficient ∷ Of t.literal ∷ rest)
terms_push [] t rest = refl
terms_push (u ∷ ts) t rest = ap (λ xs. Number u.coefficient ∷ Of u.literal ∷ xs) (terms_push ts t rest)

pub constraints_push : (cs : List Constraint) (c : Constraint) → constraints_tokens (cs ++ c ∷ []) ≡ constraints_tokens cs ++ constraint_tokens c
constraints_push [] c = append-nil (constraint_tokens c)
constraints_push (d ∷ cs) c =
    ap (λ xs. constraint_tokens d ++ xs) (constraints_push cs c) ∙ sym (append_assoc (constraint_tokens d) (constraints_tokens cs) (constraint_tokens c))

module _ (terms : List Term) (low high : ℤ) (o : Option Objective) (cs : List Constraint) (vars : ℕ) (ts : List Token) where
  -- what a token leads to
  abbrev Leads : Place → Token → Place → Type 0
  Leads q t p = IsSpelled (at_place (with_token (draft q terms low high o cs vars) t) p) (ts ++ t ∷ [])

  to : (q : Place) (t : Token) (r p : Place) → Some r ≡ Some p → Leads q t r → Leads q t p
  to q t r p e h = subst (Leads q t) (some_same r p e) h

  none : (q : Place) (t : Token) (p : Place) → None ≡ Some p → Leads q t p
  none q t p e = absurd (none_some p e)

  -- a token that is kept in the place alone
  kept : (a d : List Token) (t : Token) → a ++ (constraints_tokens cs ++ (terms_tokens terms ++ d)) ≡ ts → a ++ (constraints_tokens cs ++ (terms_tokens terms ++ (d ++ t ∷ []))) ≡ ts ++ t ∷ []
  kept a d t e = push_behind a (constraints_tokens cs) (terms_tokens terms) d t ∙ ap (λ xs. xs ++ t ∷ []) e

  -- a literal
  literal : (a : List Token) (z : ℤ) (l : Literal) → a ++ (constraints_tokens cs ++ (terms_tokens terms ++ Number z ∷ [])) ≡ ts
      → a ++ (constraints_tokens cs ++ (terms_tokens (terms ++ record { coefficient = z; literal = l } ∷ []) ++ [])) ≡ ts ++ Of l ∷ []
  literal a z l e =
      ap (λ xs. a ++ (constraints_tokens cs ++ xs)) (terms_push terms (record { coefficient = z; literal = l }) [])
      ∙ kept a (Number z ∷ []) (Of l) e

  -- the first token of an objective
  begun : IsClear First (draft First terms low high o cs vars) → front First o ++ (constraints_tokens cs ++ (terms_tokens terms ++ [])) ≡ ts
      → (Min ∷ []) ++ (constraints_tokens cs ++ (terms_tokens terms ++ [])) ≡ ts ++ Min ∷ []
  begun clear e =
      let nothing : [] ≡ ts = sym (λ i. objective_tokens (clear.1.0 i) ++ (constraints_tokens (clear.1.1 i) ++ (terms_tokens (clear.0 i) ++ []))) ∙ e in
      (λ i. Min ∷ (constraints_tokens (clear.1.1 i) ++ (terms_tokens (clear.0 i) ++ []))) ∙ ap (λ xs. xs ++ Min ∷ []) nothing

  -- the end of an objective
  ended : (b : Objective) → b.terms ≡ terms → cs ≡ [] → (Min ∷ []) ++ (constraints_tokens cs ++ (terms_tokens terms ++ [])) ≡ ts
      → objective_tokens (Some b) ++ (constraints_tokens cs ++ []) ≡ ts ++ Semicolon ∷ []
  ended b same clear e =
      (λ i. (Min ∷ (terms_tokens (same i) ++ Semicolon ∷ [])) ++ (constraints_tokens (clear i) ++ []))
      ∙ append-nil (Min ∷ (terms_tokens terms ++ Semicolon ∷ []))
      ∙ ap (λ xs. Min ∷ (xs ++ Semicolon ∷ [])) (sym (append-nil (terms_tokens terms)))
      ∙ ap (λ (ks : List Constraint). (Min ∷ (constraints_tokens ks ++ (terms_tokens terms ++ []))) ++ Semicolon ∷ []) (sym clear)
      ∙ ap (λ xs. xs ++ Semicolon ∷ []) e

  -- the end of a constraint
  closed : (c : Comparison) (z : ℤ) → front Terms o ++ (constraints_tokens cs ++ (terms_tokens terms ++ (Compare c ∷ Number z ∷ []))) ≡ ts
      → front Terms o ++ (constraints_tokens (cs ++ record { terms = terms; comparison = c; bound = z } ∷ []) ++ []) ≡ ts ++ Semicolon ∷ []
  closed c z e =
      ap (λ xs. front Terms o ++ xs) (append-nil (constraints_tokens (cs ++ record { terms = terms; comparison = c; bound = z } ∷ [])) ∙ constraints_push cs (record { terms = terms; comparison = c; bound = z }))
      ∙ kept (front Terms o) (Compare c ∷ Number z ∷ []) Semicolon e

  pub spelled_at : (q : Place) (t : Token) (p : Place) → IsSpelled (draft q terms low high o cs vars) ts → step_sized q t ≡ Some p
      → IsSpelled (at_place (with_token (draft q terms low high o cs vars) t) p) (ts ++ t ∷ [])
  spelled_at First Min p h e = to First Min Objectives p e (record { tokens = begun h.clear h.tokens; clear = h.clear.1 })
  spelled_at First (Number z) p h e = to First (Number z) (TermNumber z) p e (record { tokens = kept (objective_tokens o) [] (Number z) h.tokens; clear = tt })
  spelled_at First (Compare c) p h e = to First (Compare c) (Bound c) p e (record { tokens = kept (objective_tokens o) [] (Compare c) h.tokens; clear = tt })
  spelled_at Objectives (Number z) p h e = to Objectives (Number z) (ObjectiveNumber z) p e (record { tokens = kept (Min ∷ []) [] (Number z) h.tokens; clear = h.clear })
  spelled_at Objectives Semicolon p h e =
      to Objectives Semicolon Terms p e (record { tokens = ended (record { terms = terms; low = low; high = high }) refl h.clear.1 h.tokens; clear = tt })
  spelled_at (ObjectiveNumber z) (Of l) p h e = to (ObjectiveNumber z) (Of l) Objectives p e (record { tokens = literal (Min ∷ []) z l h.tokens; clear = h.clear })
  spelled_at Terms (Number z) p h e = to Terms (Number z) (TermNumber z) p e (record { tokens = kept (objective_tokens o) [] (Number z) h.tokens; clear = tt })
  spelled_at Terms (Compare c) p h e = to Terms (Compare c) (Bound c) p e (record { tokens = kept (objective_tokens o) [] (Compare c) h.tokens; clear = tt })
  spelled_at (TermNumber z) (Of l) p h e = to (TermNumber z) (Of l) Terms p e (record { tokens = literal (objective_tokens o) z l h.tokens; clear = tt })
  spelled_at (Bound c) (Number z) p h e = to (Bound c) (Number z) (End c z) p e (record { tokens = kept (objective_tokens o) (Compare c ∷ []) (Number z) h.tokens; clear = tt })
  spelled_at (End c z) Semicolon p h e = to (End c z) Semicolon Terms p e (record { tokens = closed c z h.tokens; clear = tt })
  spelled_at First t p h e = none First t p e
  spelled_at Objectives t p h e = none Objectives t p e
  spelled_at (ObjectiveNumber z) t p h e = none (ObjectiveNumber z) t p e
  spelled_at Terms t p h e = none Terms t p e
  spelled_at (TermNumber z) t p h e = none (TermNumber z) t p e
  spelled_at (Bound c) t p h e = none (Bound c) t p e
  spelled_at (End c z) t p h e = none (End c z) t p e

pub spelled_next : (s : Draft) (ts : List Token) (t : Token) (p : Place) → IsSpelled s ts → step_sized s.place t ≡ Some p → IsSpelled (at_place (with_token s t) p) (ts ++ t ∷ [])
spelled_next s ts t p h e = spelled_at s.terms s.low s.high s.objective s.constraints s.vars ts s.place t p h e

-- tokens that others complete

pub record Completes (ts : List Token) : Type 0 where
  pub behind : List Token
  pub objective : Option Objective
  pub constraints : List Constraint
  pub spelled : ts ++ behind ≡ opb_tokens objective constraints

one_more : (ts : List Token) (t : Token) → Completes (ts ++ t ∷ []) → Completes ts
one_more ts t h = record { behind = t ∷ h.behind; objective = h.objective; constraints = h.constraints; spelled = sym (append_assoc ts (t ∷ []) h.behind) ∙ h.spelled }

module _ (low high : ℤ) (vars : ℕ) where
  whole : (o : Option Objective) (cs : List Constraint) (ts : List Token) → IsSpelled (draft Terms [] low high o cs vars) ts → Completes ts
  whole o cs ts h = record {
    behind = [];
    objective = o;
    constraints = cs;
    spelled = append-nil ts ∙ sym h.tokens ∙ ap (λ xs. objective_tokens o ++ xs) (append-nil (constraints_tokens cs));
  }

  complete_end : (terms : List Term) (o : Option Objective) (cs : List Constraint) (c : Comparison) (z : ℤ) (ts : List Token) → IsSpelled (draft (End c z) terms low high o cs vars) ts → Completes ts
  complete_end terms o cs c z ts h =
      one_more ts Semicolon (whole o (cs ++ record { terms = terms; comparison = c; bound = z } ∷ []) (ts ++ Semicolon ∷ [])
      (spelled_at terms low high o cs vars ts (End c z) Semicolon Terms h refl))

  complete_bound : (terms : List Term) (o : Option Objective) (cs : List Constraint) (c : Comparison) (ts : List Token) → IsSpelled (draft (Bound c) terms low high o cs vars) ts → Completes ts
  complete_bound terms o cs c ts h =
      one_more ts (Number (pos 0)) (complete_end terms o cs c (pos 0) (ts ++ Number (pos 0) ∷ [])
      (spelled_at terms low high o cs vars ts (Bound c) (Number (pos 0)) (End c (pos 0)) h refl))

  complete_terms : (terms : List Term) (o : Option Objective) (cs : List Constraint) (ts : List Token) → IsSpelled (draft Terms terms low high o cs vars) ts → Completes ts
  complete_terms terms o cs ts h =
      one_more ts (Compare AtLeast) (complete_bound terms o cs AtLeast (ts ++ Compare AtLeast ∷ [])
      (spelled_at terms low high o cs vars ts Terms (Compare AtLeast) (Bound AtLeast) h refl))

  complete_objective : (terms : List Term) (o : Option Objective) (cs : List Constraint) (ts : List Token) → IsSpelled (draft Objectives terms low high o cs vars) ts → Completes ts
  complete_objective terms o cs ts h =
      one_more ts Semicolon (whole (Some (record { terms = terms; low = low; high = high })) cs (ts ++ Semicolon ∷ [])
      (spelled_at terms low high o cs vars ts Objectives Semicolon Terms h refl))

abbrev one : Literal
one = record { index = 1; positive = true }

pub complete_at : (q : Place) (terms : List Term) (low high : ℤ) (o : Option Objective) (cs : List Constraint) (vars : ℕ) (ts : List Token) → IsSpelled (draft q terms low high o cs vars) ts → Completes ts
complete_at First terms low high o cs vars ts h =
    one_more ts (Compare AtLeast) (complete_bound low high vars terms o cs AtLeast (ts ++ Compare AtLeast ∷ [])
    (spelled_at terms low high o cs vars ts First (Compare AtLeast) (Bound AtLeast) h refl))
complete_at Objectives terms low high o cs vars ts h = complete_objective low high vars terms o cs ts h
complete_at (ObjectiveNumber z) terms low high o cs vars ts h =
    let s = at_place (with_token (draft (ObjectiveNumber z) terms low high o cs vars) (Of one)) Objectives in
    one_more ts (Of one) (complete_objective low high s.vars s.terms o cs (ts ++ Of one ∷ [])
    (spelled_at terms low high o cs vars ts (ObjectiveNumber z) (Of one) Objectives h refl))
complete_at Terms terms low high o cs vars ts h = complete_terms low high vars terms o cs ts h
complete_at (TermNumber z) terms low high o cs vars ts h =
    let s = at_place (with_token (draft (TermNumber z) terms low high o cs vars) (Of one)) Terms in
    one_more ts (Of one) (complete_terms low high s.vars s.terms o cs (ts ++ Of one ∷ [])
    (spelled_at terms low high o cs vars ts (TermNumber z) (Of one) Terms h refl))
complete_at (Bound c) terms low high o cs vars ts h = complete_bound low high vars terms o cs c ts h
complete_at (End c z) terms low high o cs vars ts h = complete_end low high vars terms o cs c z ts h

pub completes : (s : Draft) (ts : List Token) → IsSpelled s ts → Completes ts
completes s ts h = complete_at s.place s.terms s.low s.high s.objective s.constraints s.vars ts h
