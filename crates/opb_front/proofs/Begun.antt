-- Tokens that begin a text lead from place to place.
use Rattle.std.proofs.Common.{◌≡◌, ℕ, ℤ, Bool, true, false, List, [], ◌∷◌, ◌++◌, map, refl, sym, ap, subst, ◌∙◌, append_assoc}
use Rattle.std.specs.Prelude.{Option, Some, None, Result, Ok, Err}
use Rattle.std.specs.Option.{option_and_then}
use Rattle.std.proofs.lemmas.Bool.{true≢false}
use Rattle.opb_front.specs.declared.items.Term.{Term}
use Rattle.opb_front.specs.declared.items.Constraint.{Constraint}
use Rattle.opb_front.specs.declared.items.Objective.{Objective}
use Rattle.opb_front.specs.declared.items.Comparison.{Comparison}
use Rattle.opb_front.specs.declared.tokens.Token.{Token}
use Rattle.opb_front.specs.declared.tokens.Token.TheVariants.{Min, Semicolon, Compare, Number, PastNumber, Of, PastIndex, Unknown}
use Rattle.opb_front.specs.declared.places.Place.{Place}
use Rattle.opb_front.specs.declared.places.Place.TheVariants.{First, Objectives, ObjectiveNumber, Terms, TermNumber, Bound, End}
use Rattle.opb_front.specs.declared.fault.Misfit.{Misfit}
use Rattle.opb_front.specs.Grammar.{terms_tokens, objective_tokens, constraint_tokens, constraints_tokens, opb_tokens}
use Rattle.opb_front.specs.Steps.{sized, step_sized, step, Draft, with_token, at_place, passes, move_to, move, run_behind, run}
use Rattle.opb_front.proofs.Spelled.{none_some, some_same}

-- the place behind tokens, if each may stand next
abbrev pub places : Place → List Token → Option Place
places p [] = Some p
places p (t ∷ ts) = option_and_then (λ q. places q ts) (step p t)

-- what is spelled leads to a place

terms-places : (ts : List Term) (rest : List Token) → places Terms (terms_tokens ts ++ rest) ≡ places Terms rest
terms-places [] rest = refl
terms-places (t ∷ ts) rest = terms-places ts rest

pub objective-places : (ts : List Term) (rest : List Token) → places Objectives (terms_tokens ts ++ rest) ≡ places Objectives rest
objective-places [] rest = refl
objective-places (t ∷ ts) rest = objective-places ts rest

constraints-places : (cs : List Constraint) → places Terms (constraints_tokens cs) ≡ Some Terms
constraints-places [] = refl
constraints-places (c ∷ cs) =
    let last = Compare c.comparison ∷ Number c.bound ∷ Semicolon ∷ [] in
    ap (places Terms) (append_assoc (terms_tokens c.terms) last (constraints_tokens cs)) ∙ terms-places c.terms (last ++ constraints_tokens cs) ∙ constraints-places cs

first-places : (ts : List Term) (c : Comparison) (z : ℤ) (rest : List Token)
    → places First ((terms_tokens ts ++ (Compare c ∷ Number z ∷ Semicolon ∷ [])) ++ rest) ≡ places Terms ((terms_tokens ts ++ (Compare c ∷ Number z ∷ Semicolon ∷ [])) ++ rest)
first-places [] c z rest = refl
first-places (t ∷ ts) c z rest = refl

abbrev pub IsLive : Option Place → Type 0
IsLive o = (q : Place) × (o ≡ Some q)

pub spelled-places : (o : Option Objective) (cs : List Constraint) → IsLive (places First (opb_tokens o cs))
spelled-places None [] = (First, refl)
spelled-places None (c ∷ cs) = (Terms, first-places c.terms c.comparison c.bound (constraints_tokens cs) ∙ constraints-places (c ∷ cs))
spelled-places (Some o) cs = (
  Terms,
  ap (places Objectives) (append_assoc (terms_tokens o.terms) (Semicolon ∷ []) (constraints_tokens cs))
      ∙ objective-places o.terms (Semicolon ∷ constraints_tokens cs) ∙ constraints-places cs,
)

-- tokens behind tokens

pub places-append : (p : Place) (xs ys : List Token) → places p (xs ++ ys) ≡ option_and_then (λ q. places q ys) (places p xs)
places-append p [] ys = refl
places-append p (x ∷ xs) ys = by (λ q. places-append q xs ys) (step p x)
  where
    by : ((q : Place) → places q (xs ++ ys) ≡ option_and_then (λ r. places r ys) (places q xs)) → (o : Option Place) → option_and_then (λ q. places q (xs ++ ys)) o ≡ option_and_then (λ q. places q ys) (option_and_then (λ q. places q xs) o)
    by rest None = refl
    by rest (Some q) = rest q

live-front : (ys : List Token) (o : Option Place) → IsLive (option_and_then (λ q. places q ys) o) → IsLive o
live-front ys None h = absurd (none_some h.0 h.1)
live-front ys (Some p) h = (p, refl)

pub places-front : (p : Place) (xs ys : List Token) → IsLive (places p (xs ++ ys)) → IsLive (places p xs)
places-front p xs ys h = live-front ys (places p xs) (h.0, sym (places-append p xs ys) ∙ h.1)

-- the size of tokens makes no difference

pub sized-twice : (t : Token) → sized (sized t) ≡ sized t
sized-twice Min = refl
sized-twice Semicolon = refl
sized-twice (Compare c) = refl
sized-twice (Number z) = refl
sized-twice PastNumber = refl
sized-twice (Of l) = refl
sized-twice PastIndex = refl
sized-twice Unknown = refl

pub places-sized : (p : Place) (ts : List Token) → places p (map sized ts) ≡ places p ts
places-sized p [] = refl
places-sized p (t ∷ ts) = ap (λ u. option_and_then (λ q. places q (map sized ts)) (step_sized p u)) (sized-twice t) ∙ by (λ q. places-sized q ts) (step p t)
  where
    by : ((q : Place) → places q (map sized ts) ≡ places q ts) → (o : Option Place) → option_and_then (λ q. places q (map sized ts)) o ≡ option_and_then (λ q. places q ts) o
    by rest None = refl
    by rest (Some q) = rest q

-- a token that is taken

pub record Moved (s : Draft) (t : Token) (u : Draft) : Type 0 where
  pub place : Place
  pub step : step s.place t ≡ Some place
  pub within : passes s t ≡ false
  pub is : u ≡ at_place (with_token s t) place

pub err_ok : {X Y : Type 0} (x : X) (y : Y) → Err y ≡ Ok x → ⊥
err_ok x y e = cc

pub ok_same : {X Y : Type 0} (x y : X) → (let r : Result X Y = Ok x in r ≡ Ok y) → x ≡ y
ok_same x y e = cc

pub err_same : {X Y : Type 0} (x y : Y) → (let r : Result X Y = Err x in r ≡ Err y) → x ≡ y
err_same x y e = cc

module _ (s : Draft) (t : Token) where
  pub moved-by : (o : Option Place) (b : Bool) (u : Draft) → step s.place t ≡ o → passes s t ≡ b → move_to o b s t ≡ Ok u → Moved s t u
  moved-by None b u e f g = absurd (err_ok u _ g)
  moved-by (Some p) true u e f g = absurd (err_ok u _ g)
  moved-by (Some p) false u e f g = record { place = p; step = e; within = f; is = sym (ok_same _ _ g) }

  pub moved : (u : Draft) → move s t ≡ Ok u → Moved s t u
  moved u e = moved-by (step s.place t) (passes s t) u refl refl e

within-sized : (s : Draft) (t : Token) → passes s t ≡ false → sized t ≡ t
within-sized s Min e = refl
within-sized s Semicolon e = refl
within-sized s (Compare c) e = refl
within-sized s (Number z) e = refl
within-sized s PastNumber e = absurd (true≢false e)
within-sized s (Of l) e = refl
within-sized s PastIndex e = absurd (true≢false e)
within-sized s Unknown e = refl

-- a token that is taken is in its limit
pub moved_sized : (s : Draft) (t : Token) (u : Draft) → Moved s t u → sized t ≡ t
moved_sized s t u h = within-sized s t h.within

-- tokens that are taken

pub record Cut (r : Result Draft Misfit) (next : Draft → Result Draft Misfit) (u : Draft) : Type 0 where
  pub between : Draft
  pub before : r ≡ Ok between
  pub behind : next between ≡ Ok u

pub run_cut : (r : Result Draft Misfit) (next : Draft → Result Draft Misfit) (u : Draft) → run_behind r next ≡ Ok u → Cut r next u
run_cut (Ok s) next u e = record { between = s; before = refl; behind = e }
run_cut (Err m) next u e = absurd (err_ok u m e)

pub run-append : (s : Draft) (xs ys : List Token) → run s (xs ++ ys) ≡ run_behind (run s xs) (λ u. run u ys)
run-append s [] ys = refl
run-append s (x ∷ xs) ys = by (λ v. run-append v xs ys) (move s x)
  where
    by : ((v : Draft) → run v (xs ++ ys) ≡ run_behind (run v xs) (λ u. run u ys)) → (r : Result Draft Misfit) → run_behind r (λ u. run u (xs ++ ys)) ≡ run_behind (run_behind r (λ u. run u xs)) (λ u. run u ys)
    by rest (Ok u) = rest u
    by rest (Err m) = refl

pub run-places : (s : Draft) (ts : List Token) (u : Draft) → run s ts ≡ Ok u → places s.place ts ≡ Some u.place
run-places s [] u e = ap (λ d. Some d.place) (ok_same s u e)
run-places s (t ∷ ts) u e =
    let cut = run_cut (move s t) (λ v. run v ts) u e in
    let m = moved s t cut.between cut.before in
    ap (option_and_then (λ q. places q ts)) m.step ∙ ap (λ d. places d.place ts) (sym m.is) ∙ run-places cut.between ts u cut.behind

pub run-sized : (s : Draft) (ts : List Token) (u : Draft) → run s ts ≡ Ok u → map sized ts ≡ ts
run-sized s [] u e = refl
run-sized s (t ∷ ts) u e =
    let cut = run_cut (move s t) (λ v. run v ts) u e in
    let first = moved_sized s t cut.between (moved s t cut.between cut.before) in
    let rest = run-sized cut.between ts u cut.behind in
    (λ i. first i ∷ rest i)
