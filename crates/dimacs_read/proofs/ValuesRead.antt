-- Words and lines of values that are read.
use Rattle.std.proofs.Common.{◌≡◌, ℕ, inl, inr, Bool, true, false, not, List, [], ◌∷◌, codes, drop, refl, sym, ap, subst, Option, Some, None, MatchOption}
use Rattle.std.specs.Prelude.{is_some}
use Rattle.std.proofs.lemmas.Bool.{true≢false, false≢true}
use Rattle.order_ints.specs.declared.cnf.Cnf.{Cnf}
use Rattle.order_ints.specs.declared.literal.Lit.{Lit}
use Rattle.ledger_text.specs.Words.{literal_word}
use Rattle.dimacs_read.specs.Values.{Known, Told, IsNew, with_literal, Tell, IsAnswer, Stands, IsTold, IsList, Says}
use Rattle.dimacs_read.specs.declared.values.Stage.{Stage}
use Rattle.dimacs_read.specs.declared.values.Stage.TheVariants.{Listing}

-- the words that are left tell behind what is known what all told behind what was
pub record TellAlike (was : Known) (all : List (List ℕ)) (known : Known) (left : List (List ℕ)) : Type 0 where
  pub back : (e : Bool) (k : Known) → Tell known left e k → Tell was all e k
  pub on : (e : Bool) (k : Known) → Tell was all e k → Tell known left e k

pub alike_start : (k : Known) (ws : List (List ℕ)) → TellAlike k ws k ws
alike_start k ws = record { back = λ e j t. t; on = λ e j t. t }

pub alike_next : (was : Known) (all : List (List ℕ)) (k : Known) (left : List (List ℕ)) (w : List ℕ) (ws : List (List ℕ)) (l : Lit) → TellAlike was all k left → left ≡ w ∷ ws
    → w ≡ literal_word l → IsNew k l → (w ≡ codes "0" → ⊥) → ((m : Lit) → IsNew k m → w ≡ literal_word m → m ≡ l) → TellAlike was all (with_literal k l) ws
alike_next was all k left w ws l h cut spelled new nonzero one = record {
  back = λ e j t. h.back e j (let P : List (List ℕ) → Type 0 = λ vs. Tell k vs e j in subst P (sym cut) (inr (l, spelled, new, t)));
  on = λ e j t. (let P : List (List ℕ) → Type 0 = λ vs. Tell k vs e j in behind e j (subst P cut (h.on e j t)));
}
  where
    behind : (e : Bool) (j : Known) → Tell k (w ∷ ws) e j → Tell (with_literal k l) ws e j
    behind e j (inl p) = absurd (nonzero p.0)
    behind e j (inr p) = let P : Lit → Type 0 = λ m. Tell (with_literal k m) ws e j in subst P (one p.0 p.2 p.1) p.3

-- a word that fits nowhere
pub alike_misfit : (was : Known) (all : List (List ℕ)) (k : Known) (left : List (List ℕ)) (w : List ℕ) (ws : List (List ℕ)) → TellAlike was all k left → left ≡ w ∷ ws
    → (w ≡ codes "0" → ws ≡ [] → ⊥) → ((m : Lit) → IsNew k m → w ≡ literal_word m → ⊥) → (e : Bool) (j : Known) → Tell was all e j → ⊥
alike_misfit was all k left w ws h cut ends none e j t = let P : List (List ℕ) → Type 0 = λ vs. Tell k vs e j in by (subst P cut (h.on e j t))
  where
    by : Tell k (w ∷ ws) e j → ⊥
    by (inl p) = ends p.0 p.1
    by (inr p) = none p.0 p.2 p.1

pub alike_end : (was : Known) (all : List (List ℕ)) (k : Known) (left : List (List ℕ)) → TellAlike was all k left → left ≡ [] → Tell was all false k
alike_end was all k left h none = h.back false k (let P : List (List ℕ) → Type 0 = λ vs. Tell k vs false k in subst P (sym none) (refl, refl))

pub alike_ended : (was : Known) (all : List (List ℕ)) (k : Known) (left : List (List ℕ)) (w : List ℕ) (ws : List (List ℕ)) → TellAlike was all k left → left ≡ w ∷ ws
    → w ≡ codes "0" → ws ≡ [] → Tell was all true k
alike_ended was all k left w ws h cut zero none = h.back true k (let P : List (List ℕ) → Type 0 = λ vs. Tell k vs true k in subst P (sym cut) (inl (zero, none, refl, refl)))

-- there is a word, so there are words
pub some_words : {X : Type 0} (o : Option X) (ws : List (List ℕ)) (first : X → List ℕ) (later : X → List (List ℕ)) (none : Bool) → MatchOption o (ws ≡ []) (λ x. ws ≡ first x ∷ later x)
    → is_some o ≡ not none → none ≡ false → ws ≡ [] → ⊥
some_words None ws first later true m e f z = true≢false f
some_words None ws first later false m e f z = false≢true e
some_words (Some x) ws first later none m e f z = absurd (cc)

-- a found literal is one alone
pub some_same : {X : Type 0} (a b : X) → Some a ≡ Some b → a ≡ b
some_same a b e = cc

pub none_some : {X : Type 0} (o : Option X) (a : X) → o ≡ None → o ≡ Some a → ⊥
none_some o a e f = absurd (cc)

-- what all tell is what is known
pub alone_end : (was : Known) (all : List (List ℕ)) (k : Known) (left : List (List ℕ)) → TellAlike was all k left → left ≡ [] → (e : Bool) (j : Known) → Tell was all e j → (e ≡ false) × (j ≡ k)
alone_end was all k left h none e j t = let P : List (List ℕ) → Type 0 = λ vs. Tell k vs e j in subst P none (h.on e j t)

pub alone_ended : (was : Known) (all : List (List ℕ)) (k : Known) (left : List (List ℕ)) (w : List ℕ) (ws : List (List ℕ)) → TellAlike was all k left → left ≡ w ∷ ws
    → ((m : Lit) → IsNew k m → w ≡ literal_word m → ⊥) → (e : Bool) (j : Known) → Tell was all e j → (e ≡ true) × (j ≡ k)
alone_ended was all k left w ws h cut none e j t = let P : List (List ℕ) → Type 0 = λ vs. Tell k vs e j in by (subst P cut (h.on e j t))
  where
    by : Tell k (w ∷ ws) e j → (e ≡ true) × (j ≡ k)
    by (inl p) = (p.2, p.3)
    by (inr p) = absurd (none p.0 p.2 p.1)

-- the words behind `v` tell nothing
pub no_list : (cnf : Cnf) (s : Stage) (k : Known) (first : List ℕ) (behind : List (List ℕ)) (t : Told) → s ≡ Listing → ((u : Told) → IsTold cnf k behind u → ⊥)
    → Says cnf s k (first ∷ behind) t → ⊥
no_list cnf s k first behind t is none h =
    let P : Stage → Type 0 = λ g. Says cnf g k (first ∷ behind) t in
    let list : IsList cnf k (first ∷ behind) t = subst P is h in
    let Q : List (List ℕ) → Type 0 = λ b. IsTold cnf k b t in
    none t (subst Q (sym (ap (drop 1) list.words_are)) list.tells)

-- values that ended and are no answer
pub no_answer : (cnf : Cnf) (e : Bool) (k known : Known) (t : Told) → Stands cnf e k t → e ≡ true → k ≡ known → (IsAnswer cnf known → ⊥) → ⊥
no_answer cnf false k known t h e same none = false≢true e
no_answer cnf true k known t h e same none = let P : Known → Type 0 = λ j. IsAnswer cnf j in none (subst P same h.0)
