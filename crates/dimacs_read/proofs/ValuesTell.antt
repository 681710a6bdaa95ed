-- Each line of values leads to one standing alone.
use Rattle.std.proofs.Common.{◌≡◌, ℕ, ◌+◌, ◌-◌, ◌^◌, ◌<◌, ◌≤◌, inl, inr, Bool, true, false, List, [], ◌∷◌, codes, length, get_or, drop, sym, ap, subst, ◌∙◌, arith, length-set}
use Rattle.std.proofs.lemmas.Bool.{true≢false}
use Rattle.std.proofs.lemmas.Option.{slice_get_within}
use Rattle.bee_text.specs.Gaps.{words_of}
use Rattle.bee_text.proofs.NumberLemmas.{decimal_leads_by_zero}
use Rattle.order_ints.specs.declared.literal.Lit.{Lit}
use Rattle.order_ints.specs.declared.cnf.Cnf.{Cnf}
use Rattle.order_ints.specs.Place.{LitBelow}
use Rattle.ledger_text.specs.Words.{literal_word}
use Rattle.ledger_text.proofs.Spelled.{signed_word, literal_word_tells}
use Rattle.dimacs_read.specs.declared.values.Stage.{Stage}
use Rattle.dimacs_read.specs.declared.values.Stage.TheVariants.{Before, Listing, Ended}
use Rattle.dimacs_read.specs.Values.{Known, Told, IsNew, with_literal, Tell, Stands, IsTold, Says, NextValues}

-- a literal that is new is over the variables
pub new_below : (k : Known) (l : Lit) → IsNew k l → LitBelow (length k.listed + 1) l
new_below k l h = (h.0, omega (arith, slice_get_within k.listed (l.var - 1) false h.1, h.0))

-- no literal is spelled by 0
signed_nonzero : (p : Bool) (v : ℕ) → 1 ≤ v → v < 10 ^ 64 → signed_word p v ≡ codes "0" → ⊥
signed_nonzero true v low small e =
    let zero : v ≡ 0 = decimal_leads_by_zero v small (ap (λ t. get_or t 0 0) e) in
    omega arith
signed_nonzero false v low small e = absurd (omega (arith, ap (λ t. get_or t 0 0) e))

pub literal_nonzero : (n : ℕ) (l : Lit) → n ≤ 2 ^ 32 → LitBelow n l → literal_word l ≡ codes "0" → ⊥
literal_nonzero n l bound below e = signed_nonzero l.positive l.var below.0 (omega (arith, below.1)) e

abbrev pub Fits : Known → Type 0
Fits k = length k.listed < 2 ^ 32

pub with_literal-fits : (k : Known) (l : Lit) → Fits k → Fits (with_literal k l)
with_literal-fits k l h = omega (arith, length-set k.listed (l.var - 1) true)

pub record SameTold (e f : Bool) (a b : Known) : Type 0 where
  pub ends_same : e ≡ f
  pub known_same : a ≡ b

pub tell_same : (k : Known) (ws : List (List ℕ)) (e f : Bool) (a b : Known) → Fits k → Tell k ws e a → Tell k ws f b → SameTold e f a b
tell_same k [] e f a b fits p q = record { ends_same = p.0 ∙ sym q.0; known_same = p.1 ∙ sym q.1 }
tell_same k (w ∷ ws) e f a b fits (inl p) (inl q) = record { ends_same = p.2 ∙ sym q.2; known_same = p.3 ∙ sym q.3 }
tell_same k (w ∷ ws) e f a b fits (inl p) (inr q) =
    absurd (literal_nonzero (length k.listed + 1) q.0 (omega arith) (new_below k q.0 q.2) (sym q.1 ∙ p.0))
tell_same k (w ∷ ws) e f a b fits (inr p) (inl q) =
    absurd (literal_nonzero (length k.listed + 1) p.0 (omega arith) (new_below k p.0 p.2) (sym p.1 ∙ q.0))
tell_same k (w ∷ ws) e f a b fits (inr p) (inr q) =
    let n = length k.listed + 1 in
    let same : p.0 ≡ q.0 = literal_word_tells n n p.0 q.0 (omega arith) (omega arith) (new_below k p.0 p.2) (new_below k q.0 q.2) (sym p.1 ∙ q.1) in
    let P : Lit → Type 0 = λ l. Tell (with_literal k l) ws f b in
    tell_same (with_literal k p.0) ws e f a b (with_literal-fits k p.0 fits) p.3 (subst P (sym same) q.3)

pub tell_fits : (k : Known) (ws : List (List ℕ)) (e : Bool) (a : Known) → Fits k → Tell k ws e a → Fits a
tell_fits k [] e a fits p = subst Fits (sym p.1) fits
tell_fits k (w ∷ ws) e a fits (inl p) = subst Fits (sym p.3) fits
tell_fits k (w ∷ ws) e a fits (inr p) = tell_fits (with_literal k p.0) ws e a (with_literal-fits k p.0 fits) p.3

abbrev pub FitsTold : Told → Type 0
FitsTold t = Fits t.known

stands_fits : (cnf : Cnf) (e : Bool) (k : Known) (t : Told) → Fits k → Stands cnf e k t → FitsTold t
stands_fits cnf false k t fits h = subst FitsTold (sym h) fits
stands_fits cnf true k t fits h = subst FitsTold (sym h.1) fits

stands_same : (cnf : Cnf) (e : Bool) (k : Known) (t u : Told) → Stands cnf e k t → Stands cnf e k u → t ≡ u
stands_same cnf false k t u p q = p ∙ sym q
stands_same cnf true k t u p q = p.1 ∙ sym q.1

told_same : (cnf : Cnf) (k : Known) (ws : List (List ℕ)) (t u : Told) → Fits k → IsTold cnf k ws t → IsTold cnf k ws u → t ≡ u
told_same cnf k ws t u fits p q =
    let same = tell_same k ws p.ends q.ends p.known q.known fits p.tell q.tell in
    let P : Bool → Type 0 = λ e. Stands cnf e q.known u in
    let Q : Known → Type 0 = λ j. Stands cnf p.ends j u in
    stands_same cnf p.ends p.known t u p.stands (subst Q (sym same.known_same) (subst P (sym same.ends_same) q.stands))

says_same : (cnf : Cnf) (s : Stage) (k : Known) (ws : List (List ℕ)) (t u : Told) → Fits k → Says cnf s k ws t → Says cnf s k ws u → t ≡ u
says_same cnf Before k ws t u fits p q = p.1 ∙ sym q.1
says_same cnf Listing k ws t u fits p q =
    let same : p.behind ≡ q.behind = ap (drop 1) (sym p.words_are ∙ q.words_are) in
    let P : List (List ℕ) → Type 0 = λ b. IsTold cnf k b u in
    told_same cnf k p.behind t u fits p.tells (subst P (sym same) q.tells)
says_same cnf Ended k ws t u fits p q = absurd p

says_fits : (cnf : Cnf) (s : Stage) (k : Known) (ws : List (List ℕ)) (t : Told) → Fits k → Says cnf s k ws t → FitsTold t
says_fits cnf Before k ws t fits p = subst FitsTold (sym p.1) fits
says_fits cnf Listing k ws t fits p = stands_fits cnf p.tells.ends p.tells.known t (tell_fits k p.behind p.tells.ends p.tells.known fits p.tells.tell) p.tells.stands
says_fits cnf Ended k ws t fits p = absurd p

pub next_same : (cnf : Cnf) (s t u : Told) (line : List ℕ) → FitsTold s → NextValues cnf s line t → NextValues cnf s line u → t ≡ u
next_same cnf s t u line fits (inl p) (inl q) = p.1 ∙ sym q.1
next_same cnf s t u line fits (inl p) (inr q) = absurd (true≢false (sym p.0 ∙ q.0))
next_same cnf s t u line fits (inr p) (inl q) = absurd (true≢false (sym q.0 ∙ p.0))
next_same cnf s t u line fits (inr p) (inr q) = says_same cnf s.stage s.known (words_of line) t u fits p.1 q.1

pub next_fits : (cnf : Cnf) (s t : Told) (line : List ℕ) → FitsTold s → NextValues cnf s line t → FitsTold t
next_fits cnf s t line fits (inl p) = subst FitsTold (sym p.1) fits
next_fits cnf s t line fits (inr p) = says_fits cnf s.stage s.known (words_of line) t fits p.1
