-- Each line leads to one standing alone.
use Rattle.std.proofs.Common.{◌≡◌, ℕ, ◌≤◌, inl, inr, Bool, true, false, List, [], get_or, drop, sym, ap, subst, ◌∙◌, arith}
use Rattle.std.specs.Prelude.{Option, Some, None, IfSome}
use Rattle.std.proofs.lemmas.Bool.{true≢false}
use Rattle.bee_text.specs.Gaps.{words_of}
use Rattle.bee_text.proofs.NumberLemmas.{decimal_injective_wide}
use Rattle.sat_front.specs.CnfLines.{Draft, AreNumbers, IsHeader, Tells, Says, NextAt, NextLine}
use Rattle.sat_front.proofs.Lists.{lists_same}

-- the number of variables is in the limit
abbrev pub IsFew : Option ℕ → Type 0
IsFew vars = IfSome vars (λ n. n ≤ 67108864)

abbrev pub FitsDraft : Draft → Type 0
FitsDraft s = IsFew s.vars

numbers_same : (words : List (List ℕ)) (m n : ℕ) → AreNumbers words m → AreNumbers words n → m ≡ n
numbers_same words m n p q =
    decimal_injective_wide m n (omega (arith, p.vars_fit)) (omega (arith, q.vars_fit)) (ap (λ ws. get_or ws 0 []) (sym p.words_are ∙ q.words_are))

header_same : (words : List (List ℕ)) (m n : ℕ) → IsHeader words m → IsHeader words n → m ≡ n
header_same words m n p q =
    let same : p.behind ≡ q.behind = ap (drop 2) (sym p.words_are ∙ q.words_are) in
    numbers_same q.behind m n (subst (λ (ws : List (List ℕ)). AreNumbers ws m) same p.numbers) q.numbers

tells_same : (vars : Option ℕ) → IsFew vars → (s : Draft) (words : List (List ℕ)) (t u : Draft) → Tells vars s words t → Tells vars s words u → t ≡ u
tells_same None few s words t u p q =
    p.after ∙ ap (λ n. record { vars = Some n; listed = s.listed; ended = false }) (header_same words p.vars q.vars p.header q.header) ∙ sym q.after
tells_same (Some n) few s words t u p q =
    p.after ∙ ap (λ l. record { vars = Some n; listed = l; ended = false }) (lists_same n few s.listed words p.listed q.listed p.lists q.lists) ∙ sym q.after

tells_few : (vars : Option ℕ) → IsFew vars → (s : Draft) (words : List (List ℕ)) (t : Draft) → Tells vars s words t → FitsDraft t
tells_few None few s words t p = subst FitsDraft (sym p.after) p.header.numbers.vars_fit
tells_few (Some n) few s words t p = subst FitsDraft (sym p.after) few

says_same : (s : Draft) → FitsDraft s → (words : List (List ℕ)) (t u : Draft) → Says s words t → Says s words u → t ≡ u
says_same s few words t u (inl p) (inl q) = p.1 ∙ sym q.1
says_same s few words t u (inl p) (inr q) = absurd (true≢false (sym p.0 ∙ q.0))
says_same s few words t u (inr p) (inl q) = absurd (true≢false (sym q.0 ∙ p.0))
says_same s few words t u (inr p) (inr q) = tells_same s.vars few s words t u p.1 q.1

says_few : (s : Draft) → FitsDraft s → (words : List (List ℕ)) (t : Draft) → Says s words t → FitsDraft t
says_few s few words t (inl p) = subst FitsDraft (sym p.1) few
says_few s few words t (inr p) = tells_few s.vars few s words t p.1

at_same : (ended : Bool) (s : Draft) → FitsDraft s → (line : List ℕ) (t u : Draft) → NextAt ended s line t → NextAt ended s line u → t ≡ u
at_same true s few line t u p q = p.1 ∙ sym q.1
at_same false s few line t u (inl p) (inl q) = p.1 ∙ sym q.1
at_same false s few line t u (inl p) (inr q) = absurd (true≢false (sym p.0 ∙ q.0))
at_same false s few line t u (inr p) (inl q) = absurd (true≢false (sym q.0 ∙ p.0))
at_same false s few line t u (inr p) (inr q) = says_same s few (words_of line) t u p.1 q.1

at_few : (ended : Bool) (s : Draft) → FitsDraft s → (line : List ℕ) (t : Draft) → NextAt ended s line t → FitsDraft t
at_few true s few line t p = subst FitsDraft (sym p.1) few
at_few false s few line t (inl p) = subst FitsDraft (sym p.1) few
at_few false s few line t (inr p) = says_few s few (words_of line) t p.1

pub next_same : (s t u : Draft) (line : List ℕ) → FitsDraft s → NextLine s line t → NextLine s line u → t ≡ u
next_same s t u line few p q = at_same s.ended s few line t u p q

pub next_few : (s t : Draft) (line : List ℕ) → FitsDraft s → NextLine s line t → FitsDraft t
next_few s t line few p = at_few s.ended s few line t p
