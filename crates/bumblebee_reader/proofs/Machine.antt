-- The reading without lines and without the bound of numerals: what tokens give from a place, and whether they fit.
use Rattle.std.proofs.Common.{◌≡◌, ℕ, Bool, true, false, cond, Option, Some, None, Ok, Err, List, [], ◌∷◌, ◌++◌, refl, sym, ap, ◌∙◌}
use Rattle.std.specs.Option.{option_map}
use Rattle.bumblebee_reader.specs.declared.syntax.Item.{Item}
use Rattle.bumblebee_reader.specs.declared.syntax.Item.TheVariants.{Goal}
use Rattle.bumblebee_reader.specs.declared.fault.ReadFault.TheVariants as fault
use Rattle.bumblebee_reader.specs.Tokens.{Token, TokenAt}
use Rattle.bumblebee_reader.specs.Numeral.{is_too_great}
use Rattle.bumblebee_reader.specs.Grammar.{AllWithin, kinds}
use Rattle.bumblebee_reader.specs.Reading.{Place, AtItem, BehindObjective, Move, Misfit, Go, Done, Outcome, move, turn, with_item, ended, outcome_from}

abbrev pub accept_turn : Move → (Place → Option (List Item)) → Option (List Item)
accept_turn Misfit next = None
accept_turn (Go p) next = next p
accept_turn (Done i p) next = option_map (λ is. i ∷ is) (next p)

abbrev pub accept_end : Place → Option (List Item)
accept_end AtItem = Some []
accept_end (BehindObjective kind name) = Some (Goal kind (Some name) None ∷ [])
accept_end _ = None

-- the items that the tokens complete from a place
abbrev pub accepts : Place → List Token → Option (List Item)
accepts p [] = accept_end p
accepts p (t ∷ ts) = accept_turn (move p t) (λ q. accepts q ts)

abbrev pub live_turn : Move → (Place → Bool) → Bool
live_turn Misfit next = false
live_turn (Go p) next = next p
live_turn (Done i p) next = next p

-- each of the tokens fits
abbrev pub lives : Place → List Token → Bool
lives p [] = true
lives p (t ∷ ts) = live_turn (move p t) (λ q. lives q ts)

ended_ok : (p : Place) (end : ℕ) (items : List Item) → ended p end ≡ Ok items → accept_end p ≡ Some items
ended_ok AtItem end items h = cc
ended_ok (BehindObjective kind name) end items h = cc
ended_ok _ end items h = cc

bounded_ok : (t : TokenAt) (b : Bool) (o : Outcome) (items : List Item) → cond b (Err (fault.Number t.line)) o ≡ Ok items → (b ≡ false) × (o ≡ Ok items)
bounded_ok t true o items h = cc
bounded_ok t false o items h = (refl, h)

with_item_ok : (i : Item) (o : Outcome) (items : List Item) → with_item i o ≡ Ok items → (is : List Item) × (o ≡ Ok is) × (items ≡ i ∷ is)
with_item_ok i (Ok is) items h = (is, refl, cc)
with_item_ok i (Err f) items h = cc

-- what an outcome that has items accepts
OutcomeOk : Place → ℕ → List TokenAt → Type 0
OutcomeOk p end ts = (items : List Item) → outcome_from p end ts ≡ Ok items → (accepts p (kinds ts) ≡ Some items) × AllWithin (kinds ts)

outcome_ok-turn : (m : Move) (t : TokenAt) (end : ℕ) (ts : List TokenAt) (items : List Item) → turn m t (λ q. outcome_from q end ts) ≡ Ok items → ((q : Place) → OutcomeOk q end ts) → (accept_turn m (λ q. accepts q (kinds ts)) ≡ Some items) × ((is_too_great t.token ≡ false) × AllWithin (kinds ts))
unfolding OutcomeOk
outcome_ok-turn Misfit t end ts items h rest = cc
outcome_ok-turn (Go q) t end ts items h rest =
    let b = bounded_ok t (is_too_great t.token) (outcome_from q end ts) items h in
    let r = rest q items b.1 in
    (r.0, (b.0, r.1))
outcome_ok-turn (Done i q) t end ts items h rest =
    let b = bounded_ok t (is_too_great t.token) (with_item i (outcome_from q end ts)) items h in
    let w = with_item_ok i (outcome_from q end ts) items b.1 in
    let r = rest q w.0 w.1 in
    (ap (option_map (λ is. i ∷ is)) r.0 ∙ ap Some (sym w.2), (b.0, r.1))

pub outcome_ok : (p : Place) (end : ℕ) (ts : List TokenAt) (items : List Item) → outcome_from p end ts ≡ Ok items → (accepts p (kinds ts) ≡ Some items) × AllWithin (kinds ts)
unfolding OutcomeOk
outcome_ok p end [] items h = (ended_ok p end items h, tt)
outcome_ok p end (t ∷ ts) items h = outcome_ok-turn (move p t.token) t end ts items h (λ q. outcome_ok q end ts)

ok_from_accept_end : (p : Place) (end : ℕ) (items : List Item) → accept_end p ≡ Some items → ended p end ≡ Ok items
ok_from_accept_end AtItem end items h = cc
ok_from_accept_end (BehindObjective kind name) end items h = cc
ok_from_accept_end _ end items h = cc

pub option_map_cons : (i : Item) (o : Option (List Item)) (items : List Item) → option_map (λ is. i ∷ is) o ≡ Some items → (is : List Item) × (o ≡ Some is) × (items ≡ i ∷ is)
option_map_cons i (Some is) items h = (is, refl, cc)
option_map_cons i None items h = cc

accepts_outcome-turn : (m : Move) (t : TokenAt) (end : ℕ) (ts : List TokenAt) (items : List Item) → accept_turn m (λ q. accepts q (kinds ts)) ≡ Some items → is_too_great t.token ≡ false → ((q : Place) (is : List Item) → accepts q (kinds ts) ≡ Some is → outcome_from q end ts ≡ Ok is) → turn m t (λ q. outcome_from q end ts) ≡ Ok items
accepts_outcome-turn Misfit t end ts items h small rest = cc
accepts_outcome-turn (Go q) t end ts items h small rest = rw small (rest q items h)
accepts_outcome-turn (Done i q) t end ts items h small rest =
    let w = option_map_cons i (accepts q (kinds ts)) items h in
    rw (small, rest q w.0 w.1) (ap Ok (sym w.2))

pub accepts_outcome : (p : Place) (end : ℕ) (ts : List TokenAt) (items : List Item) → accepts p (kinds ts) ≡ Some items → AllWithin (kinds ts) → outcome_from p end ts ≡ Ok items
accepts_outcome p end [] items h small = ok_from_accept_end p end items h
accepts_outcome p end (t ∷ ts) items h small =
    accepts_outcome-turn (move p t.token) t end ts items h small.0 (λ q is e. accepts_outcome q end ts is e small.1)

-- tokens that are accepted fit, also the first of them
lives_front-turn : (m : Move) (ts us : List Token) (items : List Item) → accept_turn m (λ q. accepts q (ts ++ us)) ≡ Some items → ((q : Place) (is : List Item) → accepts q (ts ++ us) ≡ Some is → lives q ts ≡ true) → live_turn m (λ q. lives q ts) ≡ true
lives_front-turn Misfit ts us items h rest = cc
lives_front-turn (Go q) ts us items h rest = rest q items h
lives_front-turn (Done i q) ts us items h rest =
    let w = option_map_cons i (accepts q (ts ++ us)) items h in
    rest q w.0 w.1

pub lives_front : (p : Place) (ts us : List Token) (items : List Item) → accepts p (ts ++ us) ≡ Some items → lives p ts ≡ true
lives_front p [] us items h = refl
lives_front p (t ∷ ts) us items h = lives_front-turn (move p t) ts us items h (λ q is e. lives_front q ts us is e)
