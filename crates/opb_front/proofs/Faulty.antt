-- Tokens at fault are those that aren't taken.
use Rattle.std.proofs.Common.{◌≡◌, ◌⊎◌, inl, inr, ℕ, ℤ, pos, neg_ℤ, ◌+ℤ◌, ◌-ℤ◌, ◌<ℤ◌, ◌≤ℤ◌, Bool, true, false, List, [], ◌∷◌, ◌++◌, map, drop, refl, sym, ap, subst, ◌∙◌, append_assoc, arith}
use Rattle.std.specs.Prelude.{Option, Some, None, Result, Ok, Err, int_le, int_lt, if◌then◌else◌}
use Rattle.std.specs.Option.{option_and_then}
use Rattle.std.proofs.lemmas.Int.{ints}
use Rattle.std.proofs.lemmas.Bool.{true≢false, false≢true}
use Rattle.std.proofs.lemmas.List.{append-nil}
use Rattle.opb_front.specs.declared.items.Term.{Term}
use Rattle.opb_front.specs.declared.items.Literal.{Literal}
use Rattle.opb_front.specs.declared.items.Constraint.{Constraint}
use Rattle.opb_front.specs.declared.items.Objective.{Objective}
use Rattle.opb_front.specs.declared.tokens.Token.{Token}
use Rattle.opb_front.specs.declared.tokens.Token.TheVariants.{Min, Semicolon, Compare, Number, PastNumber, Of, PastIndex, Unknown}
use Rattle.opb_front.specs.declared.places.Place.{Place}
use Rattle.opb_front.specs.declared.places.Place.TheVariants.{First, Objectives, ObjectiveNumber, Terms, TermNumber, Bound, End}
use Rattle.opb_front.specs.declared.fault.Misfit.{Misfit}
use Rattle.opb_front.specs.declared.fault.Misfit.TheVariants as misfit
use Rattle.opb_front.specs.Tokens.{most_number}
use Rattle.opb_front.specs.Grammar.{terms_tokens, constraints_tokens, sum_above, sum_below, SumsFit}
use Rattle.opb_front.specs.Steps.{sized, step, Draft, nothing_read, passes_at, passes, move_to, move, run_behind, run}
use Rattle.opb_front.specs.Faults.{Begins, SumPasses, IsPast, IsAtFault, HasNoFault}
use Rattle.opb_front.proofs.Spelled.{draft, IsSpelled, none_some, some_same, spelled_next, completes}
use Rattle.opb_front.proofs.Begun.{places, objective-places, IsLive, spelled-places, places-append, places-front, places-sized, err_ok, ok_same, err_same, Cut, run_cut, run-append, run-places, run-sized}
use Rattle.opb_front.proofs.Told.{above_push, below_push, SumsAt, IsTold, told_start, told_run}

map-append : (f : Token → Token) (xs ys : List Token) → map f (xs ++ ys) ≡ map f xs ++ map f ys
map-append f [] ys = refl
map-append f (x ∷ xs) ys = ap (λ zs. f x ∷ zs) (map-append f xs ys)

one-live : (o : Option Place) → IsLive (option_and_then (λ q. Some q) o) → IsLive o
one-live None h = absurd (none_some h.0 h.1)
one-live (Some p) h = (p, refl)

term_same : (x y : Term) → x.coefficient ≡ y.coefficient → x.literal ≡ y.literal → x ≡ y
term_same x y p q = λ i. record { coefficient = p i; literal = q i }

-- tokens tell the terms that they spell
pub terms_same : (xs ys : List Term) → terms_tokens xs ≡ terms_tokens ys → xs ≡ ys
terms_same [] [] e = refl
terms_same [] (y ∷ ys) e = absurd (cc)
terms_same (x ∷ xs) [] e = absurd (cc)
terms_same (x ∷ xs) (y ∷ ys) e =
    let number : x.coefficient ≡ y.coefficient = cc in
    let literal : x.literal ≡ y.literal = cc in
    let first = term_same x y number literal in
    let rest = terms_same xs ys (ap (drop 2) e) in
    (λ i. first i ∷ rest i)

-- a coefficient with which a sum passes the limit

abbrev Past : List Term → Term → Type 0
Past ts t = (sum_below (ts ++ t ∷ []) <ℤ neg_ℤ (pos most_number)) ⊎ (pos most_number <ℤ sum_above (ts ++ t ∷ []))

module _ (most high z : ℤ) where
  above : (s t : ℤ) → high ≡ s → t ≡ s +ℤ z → int_lt (most -ℤ high) z ≡ true → most <ℤ t
  above s t e f g = grind (arith, ints)

  above-back : (s t : ℤ) → high ≡ s → t ≡ s +ℤ z → most <ℤ t → int_lt (most -ℤ high) z ≡ true
  above-back s t e f g = grind (arith, ints)

  below : (s t : ℤ) → high ≡ s → t ≡ s +ℤ z → int_lt z (most -ℤ high) ≡ true → t <ℤ most
  below s t e f g = grind (arith, ints)

  below-back : (s t : ℤ) → high ≡ s → t ≡ s +ℤ z → t <ℤ most → int_lt z (most -ℤ high) ≡ true
  below-back s t e f g = grind (arith, ints)

  not-above : (t : ℤ) → t ≡ high +ℤ pos 0 → high ≤ℤ most → most <ℤ t → ⊥
  not-above t e f g = omega (arith, ints)

  not-below : (t : ℤ) → t ≡ high +ℤ pos 0 → most ≤ℤ high → t <ℤ most → ⊥
  not-below t e f g = omega (arith, ints)

abbrev passes_by : Bool → ℤ → ℤ → ℤ → Bool
passes_by b low high z = if b then int_lt (pos most_number -ℤ high) z else int_lt z (neg_ℤ (pos most_number) -ℤ low)

module _ (terms : List Term) (low high : ℤ) (h : SumsFit (record { terms = terms; low = low; high = high })) (t : Term) where
  past-by : (b : Bool) → sum_below (terms ++ t ∷ []) ≡ sum_below terms +ℤ (if b then pos 0 else t.coefficient)
      → sum_above (terms ++ t ∷ []) ≡ sum_above terms +ℤ (if b then t.coefficient else pos 0) → passes_by b low high t.coefficient ≡ true → Past terms t
  past-by true e f w = inr (above (pos most_number) high t.coefficient (sum_above terms) _ h.high f w)
  past-by false e f w = inl (below (neg_ℤ (pos most_number)) low t.coefficient (sum_below terms) _ h.low e w)

  back-by : (b : Bool) → sum_below (terms ++ t ∷ []) ≡ sum_below terms +ℤ (if b then pos 0 else t.coefficient)
      → sum_above (terms ++ t ∷ []) ≡ sum_above terms +ℤ (if b then t.coefficient else pos 0) → Past terms t → passes_by b low high t.coefficient ≡ true
  back-by true e f (inl p) = absurd (not-below (neg_ℤ (pos most_number)) low t.coefficient _ (e ∙ ap (λ s. s +ℤ pos 0) (sym h.low)) h.least p)
  back-by true e f (inr p) = above-back (pos most_number) high t.coefficient (sum_above terms) _ h.high f p
  back-by false e f (inl p) = below-back (neg_ℤ (pos most_number)) low t.coefficient (sum_below terms) _ h.low e p
  back-by false e f (inr p) = absurd (not-above (pos most_number) high t.coefficient _ (f ∙ ap (λ s. s +ℤ pos 0) (sym h.high)) h.most p)

abbrev some_literal : Literal
some_literal = record { index = 1; positive = true }

module _ (terms : List Term) (low high : ℤ) (o : Option Objective) (cs : List Constraint) (vars : ℕ) (ts : List Token) (z : ℤ) where
  objective-is : IsSpelled (draft Objectives terms low high o cs vars) ts → ts ≡ Min ∷ terms_tokens terms
  objective-is h =
      sym h.tokens ∙ (λ i. Min ∷ (constraints_tokens (h.clear.1 i) ++ (terms_tokens terms ++ []))) ∙ ap (λ xs. Min ∷ xs) (append-nil (terms_tokens terms))

  past-at : (q : Place) → IsSpelled (draft q terms low high o cs vars) ts → SumsAt q (draft q terms low high o cs vars) → passes_at q low high z ≡ true → SumPasses ts (Number z)
  past-at Objectives h k w =
      let t : Term = record { coefficient = z; literal = some_literal } in
      record {
        terms = terms;
        term = t;
        tokens = objective-is h;
        number = refl;
        past = past-by terms low high k t (int_le (pos 0) z) (below_push terms t) (above_push terms t) w;
      }
  past-at First h k w = absurd (false≢true w)
  past-at (ObjectiveNumber y) h k w = absurd (false≢true w)
  past-at Terms h k w = absurd (false≢true w)
  past-at (TermNumber y) h k w = absurd (false≢true w)
  past-at (Bound c) h k w = absurd (false≢true w)
  past-at (End c y) h k w = absurd (false≢true w)

  back-at : (q : Place) → Some Objectives ≡ Some q → IsSpelled (draft q terms low high o cs vars) ts → SumsAt q (draft q terms low high o cs vars)
      → (others : List Term) (t : Term) → ts ≡ Min ∷ terms_tokens others → z ≡ t.coefficient → Past others t → passes_at q low high z ≡ true
  back-at Objectives e h k others t is number past =
      let same : others ≡ terms = terms_same others terms (ap (drop 1) (sym is ∙ objective-is h)) in
      let p : Past terms t = subst (λ (xs : List Term). Past xs t) same past in
      ap (λ y. passes_at Objectives low high y) number ∙ back-by terms low high k t (int_le (pos 0) t.coefficient) (below_push terms t) (above_push terms t) p
  back-at First e h k others t is number past = absurd (cc)
  back-at (ObjectiveNumber y) e h k others t is number past = absurd (cc)
  back-at Terms e h k others t is number past = absurd (cc)
  back-at (TermNumber y) e h k others t is number past = absurd (cc)
  back-at (Bound c) e h k others t is number past = absurd (cc)
  back-at (End c y) e h k others t is number past = absurd (cc)

-- Behind tokens that are taken, a token is at fault exactly where it isn't taken.
module _ (ts : List Token) (s : Draft) (e : run nothing_read ts ≡ Ok s) where
  told : IsTold s ts
  told = told_run nothing_read [] ts s told_start e

  plain : map sized ts ≡ ts
  plain = run-sized nothing_read ts s e

  begun : Begins ts
  begun =
      let c = completes s ts told.spelled in
      record { behind = c.behind; objective = c.objective; constraints = c.constraints; spelled = ap (λ xs. xs ++ c.behind) plain ∙ c.spelled }

  module _ (t : Token) where
    next-begins : (p : Place) → step s.place t ≡ Some p → Begins (ts ++ t ∷ [])
    next-begins p g =
        let c = completes _ (ts ++ sized t ∷ []) (spelled_next s ts (sized t) p told.spelled g) in
        record {
          behind = c.behind;
          objective = c.objective;
          constraints = c.constraints;
          spelled = ap (λ xs. xs ++ c.behind) (map-append sized ts (t ∷ []) ∙ ap (λ xs. xs ++ sized t ∷ []) plain) ∙ c.spelled;
        }

    begins-live : Begins (ts ++ t ∷ []) → IsLive (step s.place t)
    begins-live b =
        let l = spelled-places b.objective b.constraints in
        let front = places-front First (map sized (ts ++ t ∷ [])) b.behind (l.0, ap (places First) b.spelled ∙ l.1) in
        let on : places First (ts ++ t ∷ []) ≡ places s.place (t ∷ []) =
        places-append First ts (t ∷ []) ∙ ap (option_and_then (λ q. places q (t ∷ []))) (run-places nothing_read ts s e) in
        one-live (step s.place t) (front.0, sym on ∙ sym (places-sized First (ts ++ t ∷ [])) ∙ front.1)

    is-past : passes s t ≡ true → IsPast ts t
    is-past w = by t w
      where
        by : (u : Token) → passes s u ≡ true → IsPast ts u
        by PastNumber w = inl (inl refl)
        by PastIndex w = inl (inr refl)
        by (Number z) w = inr (past-at s.terms s.low s.high s.objective s.constraints s.vars ts z s.place told.spelled told.sums w)
        by Min w = absurd (false≢true w)
        by Semicolon w = absurd (false≢true w)
        by (Compare c) w = absurd (false≢true w)
        by (Of l) w = absurd (false≢true w)
        by Unknown w = absurd (false≢true w)

    passes-past : IsPast ts t → passes s t ≡ true
    passes-past (inl (inl p)) = ap (passes s) p
    passes-past (inl (inr p)) = ap (passes s) p
    passes-past (inr p) =
        let there : places First (Min ∷ terms_tokens p.terms) ≡ Some Objectives =
        ap (places Objectives) (sym (append-nil (terms_tokens p.terms))) ∙ objective-places p.terms [] in
        let place : Some Objectives ≡ Some s.place = sym there ∙ ap (places First) (sym p.tokens) ∙ run-places nothing_read ts s e in
        ap (passes s) p.number
        ∙ back-at s.terms s.low s.high s.objective s.constraints s.vars ts p.term.coefficient s.place place told.spelled told.sums p.terms p.term p.tokens refl p.past

    fault-by : (o : Option Place) (b : Bool) → step s.place t ≡ o → passes s t ≡ b → (m : Misfit) → move_to o b s t ≡ Err m → IsAtFault m ts t
    fault-by None b g w m is =
        subst (λ (n : Misfit). IsAtFault n ts t) (err_same misfit.Syntax m is) (begun, λ more. let l = begins-live more in none_some l.0 (sym g ∙ l.1))
    fault-by (Some p) true g w m is = subst (λ (n : Misfit). IsAtFault n ts t) (err_same misfit.Number m is) (next-begins p g, is-past w)
    fault-by (Some p) false g w m is = absurd (err_ok _ m (sym is))

    pub fault_of : (m : Misfit) → move s t ≡ Err m → IsAtFault m ts t
    fault_of m is = fault-by (step s.place t) (passes s t) refl refl m is

    back-none : (o : Option Place) → step s.place t ≡ o → (Begins (ts ++ t ∷ []) → ⊥) → move_to o (passes s t) s t ≡ Err misfit.Syntax
    back-none None g other = refl
    back-none (Some p) g other = absurd (other (next-begins p g))

    pub fault_back : (m : Misfit) → IsAtFault m ts t → move s t ≡ Err m
    fault_back misfit.Syntax h = back-none (step s.place t) refl h.1
    fault_back misfit.Number h =
        let l = begins-live h.0 in
        let w = passes-past h.1 in
        (λ i. move_to (l.1 i) (w i) s t)

-- the first token that isn't taken

pub record Stop (s : Draft) (ts : List Token) (m : Misfit) : Type 0 where
  pub before : List Token
  pub token : Token
  pub behind : List Token
  pub stands : Draft
  pub parts : ts ≡ before ++ token ∷ behind
  pub taken : run s before ≡ Ok stands
  pub stop : move stands token ≡ Err m

pub first_stop : (s : Draft) (ts : List Token) (m : Misfit) → run s ts ≡ Err m → Stop s ts m
first_stop s [] m e = absurd (err_ok s m (sym e))
first_stop s (t ∷ ts) m e = by (λ u f. first_stop u ts m f) (move s t) refl e
  where
    by : ((u : Draft) → run u ts ≡ Err m → Stop u ts m) → (r : Result Draft Misfit) → move s t ≡ r → run_behind r (λ u. run u ts) ≡ Err m → Stop s (t ∷ ts) m
    by rest (Ok u) is e =
        let h = rest u e in
        record {
          before = t ∷ h.before;
          token = h.token;
          behind = h.behind;
          stands = h.stands;
          parts = ap (λ xs. t ∷ xs) h.parts;
          taken = ap (λ r. run_behind r (λ v. run v h.before)) is ∙ h.taken;
          stop = h.stop;
        }
    by rest (Err n) is e = record { before = []; token = t; behind = ts; stands = s; parts = refl; taken = refl; stop = is ∙ e }

pub run_taken : (ts : List Token) → HasNoFault ts → (s : Draft) × (run nothing_read ts ≡ Ok s)
run_taken ts h = by (run nothing_read ts) refl
  where
    by : (r : Result Draft Misfit) → run nothing_read ts ≡ r → (s : Draft) × (run nothing_read ts ≡ Ok s)
    by (Ok s) e = (s, e)
    by (Err m) e =
        let k = first_stop nothing_read ts m e in
        absurd (h m k.before k.token k.behind k.parts (fault_of k.before k.stands k.taken k.token m k.stop))

pub taken_run : (ts : List Token) (s : Draft) → run nothing_read ts ≡ Ok s → HasNoFault ts
taken_run ts s e m before t behind parts fault =
    let all : run_behind (run nothing_read before) (λ u. run u (t ∷ behind)) ≡ Ok s = sym (run-append nothing_read before (t ∷ behind)) ∙ ap (run nothing_read) (sym parts) ∙ e in
    let cut = run_cut (run nothing_read before) (λ u. run u (t ∷ behind)) s all in
    let next = run_cut (move cut.between t) (λ u. run u behind) s cut.behind in
    err_ok next.between m (sym (fault_back before cut.between cut.before t m fault) ∙ next.before)
