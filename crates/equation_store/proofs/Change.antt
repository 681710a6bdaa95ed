-- What a change is: it makes two labels one.
use Rattle.std.proofs.Common.{◌≡◌, ℕ, ◌≤◌, ◌<◌, Bool, true, false, not, max, List, refl, ap, sym, ◌∙◌, subst, arith, ⊎_elim, inl, inr, Some, None}
use Rattle.std.specs.Prelude.{if◌then◌else◌, ◌==◌, ◌⊎◌, nat_lt, MatchOption}
use Rattle.std.proofs.lemmas.Bool.{false≢true, cases_Bool, eq-eqb, ne_eqb, eqb-true, eqb-false, cond-true, ltb-true, ltb-false}
use Rattle.order_ints.specs.declared.literal.Lit.{Lit}
use Rattle.order_ints.specs.declared.atom.Atom.{Atom}
use Rattle.order_ints.specs.declared.atom.Atom.TheVariants.{True, False, Of}
use Rattle.order_ints.specs.Truth.{Valuation, atom_truth, not_atom}
use Rattle.equation_store.specs.declared.relabel.Change.{Change}
use Rattle.order_ints.specs.Label.{IsLabel}
use Rattle.equation_store.specs.Class.{is_of, class_size}
use Rattle.equation_store.specs.Merge.{signed, replaced, losing, change_to, change_of, IsReplacement}
use Rattle.equation_store.specs.Laws.{IsConstant, size_at}
use Rattle.equation_store.proofs.Negation.{not-not, not_atom-not_atom, truth-signed}
use Rattle.equation_store.proofs.Resolve.{IsLabel-signed}
use Rattle.equation_store.proofs.Replaced.{replaced-own, replaced-other}

-- a change makes the labels a and b one, which are neither equal nor opposite; its class is not the greater one
pub record IsChange (view : List Atom) (a b : Atom) (c : Change) : Type 0 where
  pub replacement : IsReplacement view c.loser c.label
  pub joins : replaced c.loser c.label a ≡ replaced c.loser c.label b
  pub truth_from : (σ : Valuation) → σ c.loser ≡ atom_truth σ c.label → atom_truth σ a ≡ atom_truth σ b
  pub truth_to : (σ : Valuation) → atom_truth σ a ≡ atom_truth σ b → σ c.loser ≡ atom_truth σ c.label
  pub smaller : IsConstant c.label ⊎ (class_size view c.loser ≤ size_at view c.label)
  pub differs : a ≡ b → ⊥
  pub not_opposite : a ≡ not_atom b → ⊥

pub is_of-signed : (x : ℕ) (p : Bool) (a : Atom) → is_of x (signed p a) ≡ is_of x a
is_of-signed x true a = refl
is_of-signed x false True = refl
is_of-signed x false False = refl
is_of-signed x false (Of l) = refl

pub size_at-signed : (view : List Atom) (p : Bool) (a : Atom) → size_at view (signed p a) ≡ size_at view a
size_at-signed view true a = refl
size_at-signed view false True = refl
size_at-signed view false False = refl
size_at-signed view false (Of l) = refl

pub IsConstant-signed : (p : Bool) (a : Atom) → IsConstant a → IsConstant (signed p a)
IsConstant-signed true a h = h
IsConstant-signed false True h = tt
IsConstant-signed false False h = tt
IsConstant-signed false (Of l) h = h

signed-signed : (p : Bool) (a : Atom) → signed p (signed p a) ≡ a
signed-signed true a = refl
signed-signed false a = not_atom-not_atom a

-- a signed truth moves to the other side
sign_to : (p s t : Bool) → (if p then s else not s) ≡ t → s ≡ (if p then t else not t)
sign_to true s t e = e
sign_to false s t e = sym (not-not s) ∙ ap not e

sign_from : (p s t : Bool) → s ≡ (if p then t else not t) → (if p then s else not s) ≡ t
sign_from true s t e = e
sign_from false s t e = ap not e ∙ not-not t

-- a literal against an atom of another variable
IsChange-change_to : (view : List Atom) (l : Lit) (a : Atom) → IsLabel view (Of l) → IsLabel view a → is_of l.var a ≡ false → IsConstant a ⊎ (class_size view l.var ≤ size_at view a) → IsChange view (Of l) a (change_to l a)
IsChange-change_to view l a of_l of_a other size = record {
  replacement = record {
    low = of_l.0;
    high = of_l.1;
    own = of_l.2;
    label = IsLabel-signed view l.positive a of_a;
    other = is_of-signed l.var l.positive a ∙ other;
  };
  joins =
      replaced-own l.var (signed l.positive a) l refl
      ∙ signed-signed l.positive a
      ∙ sym (replaced-other l.var (signed l.positive a) a other);
  truth_from = λ σ e. sign_from l.positive (σ l.var) (atom_truth σ a) (e ∙ truth-signed σ l.positive a);
  truth_to = λ σ e. sign_to l.positive (σ l.var) (atom_truth σ a) e ∙ sym (truth-signed σ l.positive a);
  smaller = ⊎_elim (λ h. inl (IsConstant-signed l.positive a h)) (λ h. inr (subst (λ (n : ℕ). class_size view l.var ≤ n) (sym (size_at-signed view l.positive a)) h)) size;
  differs = λ e. false≢true (sym other ∙ sym (ap (is_of l.var) e) ∙ eq-eqb l.var l.var refl);
  not_opposite = λ e. false≢true (sym other ∙ sym (is_of-signed l.var false a) ∙ sym (ap (is_of l.var) e) ∙ eq-eqb l.var l.var refl);
}

IsChange-flip : (view : List Atom) (a b : Atom) (c : Change) → IsChange view a b c → IsChange view b a c
IsChange-flip view a b c h = record {
  replacement = h.replacement;
  joins = sym h.joins;
  truth_from = λ σ e. sym (h.truth_from σ e);
  truth_to = λ σ e. h.truth_to σ (sym e);
  smaller = h.smaller;
  differs = λ e. h.differs (sym e);
  not_opposite = λ e. h.not_opposite (sym (not_atom-not_atom a) ∙ sym (ap not_atom e));
}

-- where the first of two variables loses, its class is not the greater one; and where the other does
losing-first : (view : List Atom) (x y : ℕ) → (x ≡ y → ⊥) → losing view x y ≡ x → class_size view x ≤ class_size view y
losing-first view x y ne = by_tests (nat_lt n m) (nat_lt m n) (λ e. ltb-true n m e) (λ e. ltb-false m n e)
  where
    n : ℕ
    n = class_size view x

    m : ℕ
    m = class_size view y

    by_tests : (s t : Bool) → (s ≡ true → n < m) → (t ≡ false → n ≤ m) → (if s then x else (if t then y else max x y)) ≡ x → n ≤ m
    by_tests true t less none e = let h : n < m = less refl in omega arith
    by_tests false true less none e = absurd (ne (sym e))
    by_tests false false less none e = none refl

losing-second : (view : List Atom) (x y : ℕ) → (losing view x y ≡ x → ⊥) → class_size view y ≤ class_size view x
losing-second view x y ne = ⊎_elim (λ e. absurd (ne (cond-true _ _ _ e))) (λ e. ltb-false _ _ e) (cases_Bool (nat_lt (class_size view x) (class_size view y)))

-- two literals of one variable are equal or opposite
equal_or_opposite : (l m : Lit) → l.var ≡ m.var → (Of l ≡ Of m) ⊎ (Of l ≡ not_atom (Of m))
equal_or_opposite l m e = ⊎_elim (λ h. inl (at_var ∙ ap with_sign h)) (λ h. inr (at_var ∙ ap with_sign h)) (signs l.positive m.positive)
  where
    with_sign : Bool → Atom
    with_sign p = Of (record { var = m.var; positive = p })

    signs : (p q : Bool) → (p ≡ q) ⊎ (p ≡ not q)
    signs true true = inl refl
    signs true false = inr refl
    signs false true = inr refl
    signs false false = inl refl

    at_var : Of l ≡ Of (record { var = m.var; positive = l.positive })
    at_var = ap (λ (v : ℕ). Of (record { var = v; positive = l.positive })) e

-- no change comes exactly for labels that are equal or opposite, and each change is one
pub change_of-is : (view : List Atom) (a b : Atom) → IsLabel view a → IsLabel view b → MatchOption (change_of view a b) ((a ≡ b) ⊎ (a ≡ not_atom b)) (IsChange view a b)
change_of-is view True True of_a of_b = inl refl
change_of-is view True False of_a of_b = inr refl
change_of-is view False True of_a of_b = inr refl
change_of-is view False False of_a of_b = inl refl
change_of-is view (Of l) True of_a of_b = IsChange-change_to view l True of_a of_b refl (inl tt)
change_of-is view (Of l) False of_a of_b = IsChange-change_to view l False of_a of_b refl (inl tt)
change_of-is view True (Of m) of_a of_b = IsChange-flip view (Of m) True _ (IsChange-change_to view m True of_b of_a refl (inl tt))
change_of-is view False (Of m) of_a of_b = IsChange-flip view (Of m) False _ (IsChange-change_to view m False of_b of_a refl (inl tt))
change_of-is view (Of l) (Of m) of_a of_b = by_test (l.var == m.var) (λ e. eqb-true l.var m.var e) (λ e. eqb-false l.var m.var e)
  where
    by_loser : (s : Bool) → (l.var ≡ m.var → ⊥) → (s ≡ true → losing view l.var m.var ≡ l.var) → (s ≡ false → losing view l.var m.var ≡ l.var → ⊥) → IsChange view (Of l) (Of m) (if s then change_to l (Of m) else change_to m (Of l))
    by_loser true ne when other = IsChange-change_to view l (Of m) of_a of_b (ne_eqb m.var l.var (λ e. ne (sym e))) (inr (losing-first view l.var m.var ne (when refl)))
    by_loser false ne when other = IsChange-flip view (Of m) (Of l) (change_to m (Of l)) (IsChange-change_to view m (Of l) of_b of_a (ne_eqb l.var m.var ne) (inr (losing-second view l.var m.var (other refl))))

    by_test : (t : Bool) → (t ≡ true → l.var ≡ m.var) → (t ≡ false → l.var ≡ m.var → ⊥) → MatchOption (if t then None else Some (if losing view l.var m.var == l.var then change_to l (Of m) else change_to m (Of l))) ((Of l ≡ Of m) ⊎ (Of l ≡ not_atom (Of m))) (IsChange view (Of l) (Of m))
    by_test true when other = equal_or_opposite l m (when refl)
    by_test false when other = by_loser (losing view l.var m.var == l.var) (other refl) (λ e. eqb-true _ _ e) (λ e. eqb-false _ _ e)
