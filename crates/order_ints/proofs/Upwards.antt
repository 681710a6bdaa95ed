-- The turn of a loop that makes the steps between listed values.
use Rattle.std.proofs.Common.{◌≡◌, ℕ, ◌+◌, ◌<◌, ◌^◌, List, [], ◌∷◌, ◌++◌, length, get_or, drop, ℤ, ◌-ℤ◌, ◌<ℤ◌, sym, ap, subst, ◌∙◌, arith}
use Rattle.std.specs.Prelude.{unsigned_abs}
use Rattle.std.proofs.lemmas.List.{append_assoc, at_drop_more}
use Rattle.order_ints.specs.Label.{variable}
use Rattle.order_ints.specs.declared.atom.Atom.{Atom}
use Rattle.order_ints.specs.OrderMade.{steps_between, AscendFrom, AreSmall, AreVars}

-- the values that are left are the next one and those behind it
left : (values : List ℤ) (i : ℕ) (d next : ℤ) → i < length values → next ≡ get_or values i d → drop i values ≡ next ∷ drop (i + 1) values
left values i d next h e = at_drop_more (λ (vs : List ℤ). vs) values i d h ∙ ap (λ (z : ℤ). z ∷ drop (i + 1) values) (sym e)

pub ascends-next : (value : ℤ) (values : List ℤ) (i : ℕ) (d next : ℤ) → i < length values → next ≡ get_or values i d → AscendFrom value (drop i values) → (value <ℤ next) × AscendFrom next (drop (i + 1) values)
ascends-next value values i d next h e all = subst (λ (vs : List ℤ). AscendFrom value vs) (left values i d next h e) all

pub small-next : (values : List ℤ) (i : ℕ) (d next : ℤ) → i < length values → next ≡ get_or values i d → AreSmall (drop i values) → (unsigned_abs next < 2 ^ 100) × AreSmall (drop (i + 1) values)
small-next values i d next h e all = subst (λ (vs : List ℤ). AreSmall vs) (left values i d next h e) all

pub vars-next : (values : List ℤ) (i : ℕ) (d next : ℤ) (var : ℕ) → i < length values → next ≡ get_or values i d → AreVars var (length (drop i values)) → AreVars (var + 1) (length (drop (i + 1) values))
vars-next values i d next var h e all = λ some.
    let more = ap length (left values i d next h e) in
    let both = all (omega (arith, more)) in
    (omega arith, omega (arith, more, both.1))

pub step_is : (a b : Atom) (m n : ℕ) → a ≡ b → m ≡ n → ◌≡◌ {A = Atom × ℕ} (a, m) (b, n)
step_is a b m n e f = ap (λ (x : Atom). (x, m)) e ∙ ap (λ (k : ℕ). (b, k)) f

-- one more step is made
pub steps_between-turn : (front more all : List (Atom × ℕ)) (s : Atom × ℕ) (value : ℤ) (values : List ℤ) (i : ℕ) (d next : ℤ) (var : ℕ) → i < length values → next ≡ get_or values i d → more ≡ front ++ s ∷ [] → s ≡ (variable var, unsigned_abs (next -ℤ value)) → front ++ steps_between value (drop i values) var ≡ all → more ++ steps_between next (drop (i + 1) values) (var + 1) ≡ all
steps_between-turn front more all s value values i d next var h e pushed is so_far =
    rw (pushed, append_assoc front (s ∷ []) (steps_between next (drop (i + 1) values) (var + 1)), is)
    (ap (λ (vs : List ℤ). front ++ steps_between value vs var) (sym (left values i d next h e)) ∙ so_far)
