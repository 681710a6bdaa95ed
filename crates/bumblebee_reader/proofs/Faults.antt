-- The first fault of tokens, and what an outcome says of it.
use Rattle.std.proofs.Common.{◌≡◌, ◌⊎◌, ℕ, Bool, true, false, cond, Option, Some, None, Ok, Err, List, [], ◌∷◌, ◌++◌, refl, sym, ap, ◌∙◌, inl, inr, ⊎_elim, subst, ◌&&◌, not, is_none}
use Rattle.std.specs.Option.{option_map}
use Rattle.std.proofs.lemmas.Bool.{false≢true}
use Rattle.bumblebee_reader.specs.declared.syntax.Item.{Item}
use Rattle.bumblebee_reader.specs.declared.fault.ReadFault.{ReadFault}
use Rattle.bumblebee_reader.specs.declared.fault.ReadFault.TheVariants as fault
use Rattle.bumblebee_reader.specs.Tokens.{Token, TokenAt}
use Rattle.bumblebee_reader.specs.Numeral.{is_too_great}
use Rattle.bumblebee_reader.specs.Grammar.{AllWithin, kinds}
use Rattle.bumblebee_reader.specs.Reading.{Place, AtItem, BehindObjective, Move, Misfit, Go, Done, Outcome, move, turn, with_item, ended, outcome_from}
use Rattle.bumblebee_reader.proofs.Machine.{accepts, accept_turn, accept_end, lives, live_turn}

-- from a place, a token on this line is the first that does not fit
pub record MisfitFrom (p : Place) (ts : List TokenAt) (line : ℕ) : Type 0 where
  pub before : List TokenAt
  pub token : TokenAt
  pub behind : List TokenAt
  pub whole : ts ≡ before ++ token ∷ behind
  pub fits : lives p (kinds before) ≡ true
  pub misfit : lives p (kinds (before ++ token ∷ [])) ≡ false
  pub within : AllWithin (kinds before)
  pub line_is : line ≡ token.line

-- from a place, the tokens fit and end too early
pub record EndsFrom (p : Place) (end : ℕ) (ts : List TokenAt) (line : ℕ) : Type 0 where
  pub fits : lives p (kinds ts) ≡ true
  pub early : accepts p (kinds ts) ≡ None
  pub within : AllWithin (kinds ts)
  pub line_is : line ≡ end

-- from a place, a numeral on this line is the first that is too great
pub record NumberFrom (p : Place) (ts : List TokenAt) (line : ℕ) : Type 0 where
  pub before : List TokenAt
  pub token : TokenAt
  pub behind : List TokenAt
  pub whole : ts ≡ before ++ token ∷ behind
  pub fits : lives p (kinds (before ++ token ∷ [])) ≡ true
  pub within : AllWithin (kinds before)
  pub too_great : is_too_great token.token ≡ true
  pub line_is : line ≡ token.line

-- a token leads from one place to another
record Leads (p : Place) (t : Token) (q : Place) : Type 0 where
  lives_on : (ts : List Token) → lives p (t ∷ ts) ≡ lives q ts
  none : (ts : List Token) → accepts q ts ≡ None → accepts p (t ∷ ts) ≡ None

leads_go : (p : Place) (t : Token) (q : Place) → move p t ≡ Go q → Leads p t q
leads_go p t q e = record { lives_on = λ ts. rw e refl; none = λ ts h. rw e h }

leads_done : (p : Place) (t : Token) (i : Item) (q : Place) → move p t ≡ Done i q → Leads p t q
leads_done p t i q e = record { lives_on = λ ts. rw e refl; none = λ ts h. rw (e, h) refl }

misfit_behind : (p q : Place) (t : TokenAt) (ts : List TokenAt) (line : ℕ) → Leads p t.token q → is_too_great t.token ≡ false → MisfitFrom q ts line → MisfitFrom p (t ∷ ts) line
misfit_behind p q t ts line leads small f = record {
  before = t ∷ f.before;
  token = f.token;
  behind = f.behind;
  whole = ap (λ l. t ∷ l) f.whole;
  fits = leads.lives_on (kinds f.before) ∙ f.fits;
  misfit = leads.lives_on (kinds (f.before ++ f.token ∷ [])) ∙ f.misfit;
  within = (small, f.within);
  line_is = f.line_is;
}

ends_behind : (p q : Place) (end : ℕ) (t : TokenAt) (ts : List TokenAt) (line : ℕ) → Leads p t.token q → is_too_great t.token ≡ false → EndsFrom q end ts line → EndsFrom p end (t ∷ ts) line
ends_behind p q end t ts line leads small f = record {
  fits = leads.lives_on (kinds ts) ∙ f.fits;
  early = leads.none (kinds ts) f.early;
  within = (small, f.within);
  line_is = f.line_is;
}

number_fault_behind : (p q : Place) (t : TokenAt) (ts : List TokenAt) (line : ℕ) → Leads p t.token q → is_too_great t.token ≡ false → NumberFrom q ts line → NumberFrom p (t ∷ ts) line
number_fault_behind p q t ts line leads small f = record {
  before = t ∷ f.before;
  token = f.token;
  behind = f.behind;
  whole = ap (λ l. t ∷ l) f.whole;
  fits = leads.lives_on (kinds (f.before ++ f.token ∷ [])) ∙ f.fits;
  within = (small, f.within);
  too_great = f.too_great;
  line_is = f.line_is;
}

number_here : (p q : Place) (t : TokenAt) (ts : List TokenAt) → Leads p t.token q → is_too_great t.token ≡ true → NumberFrom p (t ∷ ts) t.line
number_here p q t ts leads great = record {
  before = [];
  token = t;
  behind = ts;
  whole = refl;
  fits = leads.lives_on [];
  within = tt;
  too_great = great;
  line_is = refl;
}

-- what an outcome's fault says
abbrev FaultFrom : Place → ℕ → List TokenAt → ReadFault → Type 0
FaultFrom p end ts (fault.Syntax line) = MisfitFrom p ts line ⊎ EndsFrom p end ts line
FaultFrom p end ts (fault.Number line) = NumberFrom p ts line
FaultFrom p end ts fault.Memory = ⊥

fault_behind : (p q : Place) (end : ℕ) (t : TokenAt) (ts : List TokenAt) (f : ReadFault) → Leads p t.token q → is_too_great t.token ≡ false → FaultFrom q end ts f → FaultFrom p end (t ∷ ts) f
fault_behind p q end t ts (fault.Syntax line) leads small h =
    ⊎_elim (λ f. inl (misfit_behind p q t ts line leads small f)) (λ f. inr (ends_behind p q end t ts line leads small f)) h
fault_behind p q end t ts (fault.Number line) leads small h = number_fault_behind p q t ts line leads small h
fault_behind p q end t ts fault.Memory leads small h = h

err_is : (f g : ReadFault) → ◌≡◌ {A = Outcome} (Err f) (Err g) → f ≡ g
err_is f g h = cc

-- the fault of a token that leads on: it is too great, or the fault comes behind it
fault_bounded : (p q : Place) (end : ℕ) (t : TokenAt) (ts : List TokenAt) (f : ReadFault) (b : Bool) (o : Outcome) → Leads p t.token q → is_too_great t.token ≡ b → cond b (Err (fault.Number t.line)) o ≡ Err f → (o ≡ Err f → FaultFrom q end ts f) → FaultFrom p end (t ∷ ts) f
fault_bounded p q end t ts f true o leads e h rest =
    subst (λ g. FaultFrom p end (t ∷ ts) g) (err_is (fault.Number t.line) f h) (number_here p q t ts leads e)
fault_bounded p q end t ts f false o leads e h rest = fault_behind p q end t ts f leads e (rest h)

with_item_err : (i : Item) (o : Outcome) (f : ReadFault) → with_item i o ≡ Err f → o ≡ Err f
with_item_err i (Ok is) f h = cc
with_item_err i (Err g) f h = h

misfit_here : (p : Place) (end : ℕ) (t : TokenAt) (ts : List TokenAt) → move p t.token ≡ Misfit → FaultFrom p end (t ∷ ts) (fault.Syntax t.line)
misfit_here p end t ts e = inl (record {
  before = [];
  token = t;
  behind = ts;
  whole = refl;
  fits = refl;
  misfit = rw e refl;
  within = tt;
  line_is = refl;
})

outcome_fault-turn : (p : Place) (end : ℕ) (t : TokenAt) (ts : List TokenAt) (f : ReadFault) (m : Move) → move p t.token ≡ m → turn m t (λ q. outcome_from q end ts) ≡ Err f → ((q : Place) → outcome_from q end ts ≡ Err f → FaultFrom q end ts f) → FaultFrom p end (t ∷ ts) f
outcome_fault-turn p end t ts f Misfit e h rest =
    subst (λ g. FaultFrom p end (t ∷ ts) g) (err_is (fault.Syntax t.line) f h) (misfit_here p end t ts e)
outcome_fault-turn p end t ts f (Go q) e h rest =
    fault_bounded p q end t ts f (is_too_great t.token) (outcome_from q end ts) (leads_go p t.token q e) refl h (rest q)
outcome_fault-turn p end t ts f (Done i q) e h rest =
    fault_bounded p q end t ts f (is_too_great t.token) (with_item i (outcome_from q end ts)) (leads_done p t.token i q e) refl h (λ o. rest q (with_item_err i (outcome_from q end ts) f o))

early_here : (p : Place) (end : ℕ) → accept_end p ≡ None → FaultFrom p end [] (fault.Syntax end)
early_here p end e = inr (record { fits = refl; early = e; within = tt; line_is = refl })

early_end : (p : Place) (end : ℕ) → accept_end p ≡ None → ended p end ≡ Err (fault.Syntax end)
early_end AtItem end h = cc
early_end (BehindObjective kind name) end h = cc
early_end _ end h = refl

-- a text may end, or it ends too early
whole_or_early : (p : Place) (end : ℕ) → ((items : List Item) × (ended p end ≡ Ok items)) ⊎ (accept_end p ≡ None)
whole_or_early AtItem end = inl (_, refl)
whole_or_early (BehindObjective kind name) end = inl (_, refl)
whole_or_early _ end = inr refl

not_ok : (o : Outcome) (items : List Item) (f : ReadFault) → o ≡ Ok items → o ≡ Err f → ⊥
not_ok o items f a b = cc

outcome_fault-end : (p : Place) (end : ℕ) (f : ReadFault) → ended p end ≡ Err f → FaultFrom p end [] f
outcome_fault-end p end f h =
    ⊎_elim (λ e. absurd (not_ok (ended p end) e.0 f e.1 h)) (λ e. subst (λ g. FaultFrom p end [] g) (err_is (fault.Syntax end) f (sym (early_end p end e) ∙ h)) (early_here p end e)) (whole_or_early p end)

pub outcome_fault : (ts : List TokenAt) (p : Place) (end : ℕ) (f : ReadFault) → outcome_from p end ts ≡ Err f → FaultFrom p end ts f
outcome_fault [] p end f h = outcome_fault-end p end f h
outcome_fault (t ∷ ts) p end f h =
    outcome_fault-turn p end t ts f (move p t.token) refl h (λ q e. outcome_fault ts q end f e)

-- the other way: each of the three decides the outcome

pass : (t : TokenAt) (o : Outcome) (f : ReadFault) → is_too_great t.token ≡ false → o ≡ Err f → cond (is_too_great t.token) (Err (fault.Number t.line)) o ≡ Err f
pass t o f small e = rw small e

-- a fault that comes behind a token that fits and is not too great
behind-turn : (m : Move) (t : TokenAt) (live : Place → Bool) (next : Place → Outcome) (f : ReadFault) → live_turn m live ≡ true → is_too_great t.token ≡ false → ((q : Place) → live q ≡ true → next q ≡ Err f) → turn m t next ≡ Err f
behind-turn Misfit t live next f h small rest = absurd (false≢true h)
behind-turn (Go q) t live next f h small rest = rw small (rest q h)
behind-turn (Done i q) t live next f h small rest = rw (small, rest q h) refl

dead-turn : (m : Move) (t : TokenAt) (next : Place → Outcome) → live_turn m (λ q. true) ≡ false → turn m t next ≡ Err (fault.Syntax t.line)
dead-turn Misfit t next h = refl
dead-turn (Go q) t next h = absurd (false≢true (sym h))
dead-turn (Done i q) t next h = absurd (false≢true (sym h))

great-turn : (m : Move) (t : TokenAt) (next : Place → Outcome) → live_turn m (λ q. true) ≡ true → is_too_great t.token ≡ true → turn m t next ≡ Err (fault.Number t.line)
great-turn Misfit t next h great = absurd (false≢true h)
great-turn (Go q) t next h great = rw great refl
great-turn (Done i q) t next h great = rw great refl

-- both tests of a move at once
both-turn : (m : Move) (a b : Place → Bool) → live_turn m a ≡ true → live_turn m b ≡ false → live_turn m (λ q. a q && not (b q)) ≡ true
both-turn Misfit a b h k = h
both-turn (Go q) a b h k = rw (h, k) refl
both-turn (Done i q) a b h k = rw (h, k) refl

both_are : (x y : Bool) → (x && not y) ≡ true → (x ≡ true) × (y ≡ false)
both_are true true h = absurd (false≢true h)
both_are true false h = (refl, refl)
both_are false y h = absurd (false≢true h)

pub misfit_outcome : (before : List TokenAt) (t : TokenAt) (behind : List TokenAt) (p : Place) (end : ℕ) → lives p (kinds before) ≡ true → lives p (kinds (before ++ t ∷ [])) ≡ false → AllWithin (kinds before) → outcome_from p end (before ++ t ∷ behind) ≡ Err (fault.Syntax t.line)
misfit_outcome [] t behind p end fits misfit within = dead-turn (move p t.token) t (λ q. outcome_from q end behind) misfit
misfit_outcome (u ∷ before) t behind p end fits misfit within =
    behind-turn (move p u.token) u (λ q. lives q (kinds before) && not (lives q (kinds (before ++ t ∷ [])))) (λ q. outcome_from q end (before ++ t ∷ behind)) (fault.Syntax t.line) (both-turn (move p u.token) (λ q. lives q (kinds before)) (λ q. lives q (kinds (before ++ t ∷ []))) fits misfit) within.0 (λ q h.
    let d = both_are (lives q (kinds before)) (lives q (kinds (before ++ t ∷ []))) h in
    misfit_outcome before t behind q end d.0 d.1 within.1)

pub number_outcome : (before : List TokenAt) (t : TokenAt) (behind : List TokenAt) (p : Place) (end : ℕ) → lives p (kinds (before ++ t ∷ [])) ≡ true → AllWithin (kinds before) → is_too_great t.token ≡ true → outcome_from p end (before ++ t ∷ behind) ≡ Err (fault.Number t.line)
number_outcome [] t behind p end fits within great = great-turn (move p t.token) t (λ q. outcome_from q end behind) fits great
number_outcome (u ∷ before) t behind p end fits within great =
    behind-turn (move p u.token) u (λ q. lives q (kinds (before ++ t ∷ []))) (λ q. outcome_from q end (before ++ t ∷ behind)) (fault.Number t.line) fits within.0 (λ q h. number_outcome before t behind q end h within.1 great)

option_map_none : (i : Item) (o : Option (List Item)) → option_map (λ is. i ∷ is) o ≡ None → o ≡ None
option_map_none i None h = refl
option_map_none i (Some is) h = cc

none-turn : (m : Move) (ts : List Token) → live_turn m (λ q. lives q ts) ≡ true → accept_turn m (λ q. accepts q ts) ≡ None → live_turn m (λ q. lives q ts && is_none (accepts q ts)) ≡ true
none-turn Misfit ts h k = h
none-turn (Go q) ts h k = rw (h, k) refl
none-turn (Done i q) ts h k = rw (h, option_map_none i (accepts q ts) k) refl

none_are : (x : Bool) (o : Option (List Item)) → (x && is_none o) ≡ true → (x ≡ true) × (o ≡ None)
none_are true None h = (refl, refl)
none_are true (Some is) h = absurd (false≢true h)
none_are false o h = absurd (false≢true h)

pub ends_outcome : (ts : List TokenAt) (p : Place) (end : ℕ) → lives p (kinds ts) ≡ true → accepts p (kinds ts) ≡ None → AllWithin (kinds ts) → outcome_from p end ts ≡ Err (fault.Syntax end)
ends_outcome [] p end fits early within = early_end p end early
ends_outcome (t ∷ ts) p end fits early within =
    behind-turn (move p t.token) t (λ q. lives q (kinds ts) && is_none (accepts q (kinds ts))) (λ q. outcome_from q end ts) (fault.Syntax end) (none-turn (move p t.token) (kinds ts) fits early) within.0 (λ q h.
    let d = none_are (lives q (kinds ts)) (accepts q (kinds ts)) h in
    ends_outcome ts q end d.0 d.1 within.1)
