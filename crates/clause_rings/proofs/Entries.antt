-- What entries say of a variable, in a longer trail and in a prefix.
use Rattle.std.proofs.Common.{◌≡◌, ℕ, suc, ◌≤◌, ◌<◌, Bool, true, false, not, List, [], ◌∷◌, ◌++◌, length, refl, ap, sym, ◌∙◌, subst, arith, ◌⊎◌, inl, inr, ⊎_elim, Option, Some, None}
use Rattle.std.specs.Prelude.{if◌then◌else◌, ◌==◌, nat_le}
use Rattle.std.specs.Option.{option_map}
use Rattle.std.proofs.lemmas.Bool.{leb-true, leb-false}
use Rattle.order_ints.specs.declared.literal.Lit.{Lit}
use Rattle.literal_trail.specs.declared.entry.Entry.{Entry}
use Rattle.literal_trail.specs.Trail.{entry_at, entry_of, truth_in, up_to}

-- what an entry says stays when entries follow
pub entry-append : (xs ys : List Entry) (v : ℕ) (e : Entry) → entry_of xs v ≡ Some e → entry_of (xs ++ ys) v ≡ Some e
entry-append [] ys v e h = cc
entry-append (x ∷ xs) ys v e h = step (x.lit.var == v) (entry-append xs ys v e) h
  where
    step : (b : Bool) → (entry_of xs v ≡ Some e → entry_of (xs ++ ys) v ≡ Some e) → (if b then Some x else entry_of xs v) ≡ Some e → (if b then Some x else entry_of (xs ++ ys) v) ≡ Some e
    step true rest h = h
    step false rest h = rest h

-- what is free takes what follows
pub entry-append_free : (xs ys : List Entry) (v : ℕ) → entry_of xs v ≡ None → entry_of (xs ++ ys) v ≡ entry_of ys v
entry-append_free [] ys v h = refl
entry-append_free (x ∷ xs) ys v h = step (x.lit.var == v) (entry-append_free xs ys v) h
  where
    step : (b : Bool) → (entry_of xs v ≡ None → entry_of (xs ++ ys) v ≡ entry_of ys v) → (if b then Some x else entry_of xs v) ≡ None → (if b then Some x else entry_of (xs ++ ys) v) ≡ entry_of ys v
    step true rest h = cc
    step false rest h = rest h

-- an option is none or some
pub option-cases : {X : Type 0} → (o : Option X) → (o ≡ None) ⊎ ((x : X) × (o ≡ Some x))
option-cases None = inl refl
option-cases (Some x) = inr (x, refl)

-- what is free is free in each front
pub entry-front_free : (xs ys : List Entry) (v : ℕ) → entry_of (xs ++ ys) v ≡ None → entry_of xs v ≡ None
entry-front_free xs ys v h = ⊎_elim (λ (e : entry_of xs v ≡ None). e) (λ (s : (x : Entry) × (entry_of xs v ≡ Some x)). let more : entry_of (xs ++ ys) v ≡ Some s.0 = entry-append xs ys v s.0 s.1 in cc) (option-cases (entry_of xs v))

-- the truth by an entry
pub truth-entry : (es : List Entry) (l : Lit) (e : Entry) → entry_of es l.var ≡ Some e → truth_in es l ≡ Some (if l.positive then e.lit.positive else not e.lit.positive)
truth-entry es l e h = ap (λ (o : Option Entry). option_map (λ (b : Bool). if l.positive then b else not b) (option_map (λ (x : Entry). x.lit.positive) o)) h

pub truth-free : (es : List Entry) (l : Lit) → entry_of es l.var ≡ None → truth_in es l ≡ None
truth-free es l h = ap (λ (o : Option Entry). option_map (λ (b : Bool). if l.positive then b else not b) (option_map (λ (x : Entry). x.lit.positive) o)) h

pub truth-same : (es more : List Entry) (l : Lit) → entry_of es l.var ≡ entry_of more l.var → truth_in es l ≡ truth_in more l
truth-same es more l h = ap (λ (o : Option Entry). option_map (λ (b : Bool). if l.positive then b else not b) (option_map (λ (x : Entry). x.lit.positive) o)) h

-- a literal that is true or false has an entry
pub truth-has : (es : List Entry) (l : Lit) (b : Bool) → truth_in es l ≡ Some b → (e : Entry) × (entry_of es l.var ≡ Some e)
truth-has es l b h = ⊎_elim (λ (n : entry_of es l.var ≡ None). let none : truth_in es l ≡ None = truth-free es l n in absurd (let no : None ≡ Some b = sym none ∙ h in cc)) (λ (s : (e : Entry) × (entry_of es l.var ≡ Some e)). s) (option-cases (entry_of es l.var))

pub truth-none : (es : List Entry) (l : Lit) → truth_in es l ≡ None → entry_of es l.var ≡ None
truth-none es l h = ⊎_elim (λ (n : entry_of es l.var ≡ None). n) (λ (s : (e : Entry) × (entry_of es l.var ≡ Some e)). let some : truth_in es l ≡ Some (if l.positive then s.0.lit.positive else not s.0.lit.positive) = truth-entry es l s.0 s.1 in absurd (let no : None ≡ Some (if l.positive then s.0.lit.positive else not s.0.lit.positive) = sym h ∙ some in cc)) (option-cases (entry_of es l.var))

-- a truth value stays
pub truth-append : (xs ys : List Entry) (l : Lit) (b : Bool) → truth_in xs l ≡ Some b → truth_in (xs ++ ys) l ≡ Some b
truth-append xs ys l b h =
    let e = truth-has xs l b h in
    truth-same (xs ++ ys) xs l (entry-append xs ys l.var e.0 e.1 ∙ sym e.1) ∙ h

-- a literal that is free in a longer trail was free
pub truth-front_free : (xs ys : List Entry) (l : Lit) → truth_in (xs ++ ys) l ≡ None → truth_in xs l ≡ None
truth-front_free xs ys l h = truth-free xs l (entry-front_free xs ys l.var (truth-none (xs ++ ys) l h))

-- a literal is free, false or true
pub truth-cases : (es : List Entry) (l : Lit) → (truth_in es l ≡ None) ⊎ ((truth_in es l ≡ Some false) ⊎ (truth_in es l ≡ Some true))
truth-cases es l = cases (truth_in es l) refl
  where
    cases : (o : Option Bool) → truth_in es l ≡ o → (truth_in es l ≡ None) ⊎ ((truth_in es l ≡ Some false) ⊎ (truth_in es l ≡ Some true))
    cases None h = inl h
    cases (Some false) h = inr (inl h)
    cases (Some true) h = inr (inr h)

-- the prefix is a front
pub up-front : (k : ℕ) (es : List Entry) → (rest : List Entry) × (es ≡ up_to k es ++ rest)
up-front k [] = ([], refl)
up-front k (e ∷ es) = step (nat_le e.level k) (up-front k es)
  where
    step : (b : Bool) → ((rest : List Entry) × (es ≡ up_to k es ++ rest)) → (rest : List Entry) × (e ∷ es ≡ (if b then e ∷ up_to k es else []) ++ rest)
    step true r = (r.0, ap (λ (l : List Entry). e ∷ l) r.1)
    step false r = (e ∷ es, refl)

-- what the prefix says, the trail says, by a level that is not above
pub up-entry : (k : ℕ) (es : List Entry) (v : ℕ) (s : Entry) → entry_of (up_to k es) v ≡ Some s → (entry_of es v ≡ Some s) × (s.level ≤ k)
up-entry k [] v s h = absurd (let no : None ≡ Some s = h in cc)
up-entry k (e ∷ es) v s h = test (up-entry k es v s) (nat_le e.level k) refl h
  where
    there : (b : Bool) → (entry_of (up_to k es) v ≡ Some s → (entry_of es v ≡ Some s) × (s.level ≤ k)) → e.level ≤ k → (if b then Some e else entry_of (up_to k es) v) ≡ Some s → ((if b then Some e else entry_of es v) ≡ Some s) × (s.level ≤ k)
    there true rest low h = (h, let same : e ≡ s = cc in subst (λ (x : Entry). x.level ≤ k) same low)
    there false rest low h = rest h

    test : (entry_of (up_to k es) v ≡ Some s → (entry_of es v ≡ Some s) × (s.level ≤ k)) → (b : Bool) → nat_le e.level k ≡ b → entry_of (if b then e ∷ up_to k es else []) v ≡ Some s → (entry_of (e ∷ es) v ≡ Some s) × (s.level ≤ k)
    test rest true is h = there (e.lit.var == v) rest (leb-true e.level k is) h
    test rest false is h = absurd (let no : None ≡ Some s = h in cc)

-- no entry has a level below m
abbrev pub AreFrom : ℕ → List Entry → Type 0
AreFrom m es = (j : ℕ) → j < length es → m ≤ (entry_at es j).level

-- levels never fall
abbrev pub AreRising : List Entry → Type 0
AreRising es = (i j : ℕ) → i ≤ j → j < length es → (entry_at es i).level ≤ (entry_at es j).level

pub from-entry : (m : ℕ) (es : List Entry) (v : ℕ) (s : Entry) → AreFrom m es → entry_of es v ≡ Some s → m ≤ s.level
from-entry m [] v s high h = absurd (let no : None ≡ Some s = h in cc)
from-entry m (e ∷ es) v s high h = there (from-entry m es v s (λ j lt. high (suc j) (omega arith))) (e.lit.var == v) h
  where
    there : (entry_of es v ≡ Some s → m ≤ s.level) → (b : Bool) → (if b then Some e else entry_of es v) ≡ Some s → m ≤ s.level
    there rest true h = let same : e ≡ s = cc in subst (λ (x : Entry). m ≤ x.level) same (high 0 (omega arith))
    there rest false h = rest h

-- an entry that is not above k is in the prefix
pub up-low : (k : ℕ) (es : List Entry) (v : ℕ) (s : Entry) → AreRising es → entry_of es v ≡ Some s → s.level ≤ k → entry_of (up_to k es) v ≡ Some s
up-low k [] v s up h low = h
up-low k (e ∷ es) v s up h low = test (up-low k es v s (λ i j le lt. up (suc i) (suc j) (omega arith) (omega arith))) (nat_le e.level k) refl
  where
    first_low : (b : Bool) → (if b then Some e else entry_of es v) ≡ Some s → e.level ≤ s.level
    first_low true h = let same : e ≡ s = cc in subst (λ (x : Entry). e.level ≤ x.level) same (omega arith)
    first_low false h = from-entry e.level es v s (λ j lt. up 0 (suc j) (omega arith) (omega arith)) h

    there : (entry_of es v ≡ Some s → s.level ≤ k → entry_of (up_to k es) v ≡ Some s) → (b : Bool) → (if b then Some e else entry_of es v) ≡ Some s → (if b then Some e else entry_of (up_to k es) v) ≡ Some s
    there rest true h = h
    there rest false h = rest h low

    test : (entry_of es v ≡ Some s → s.level ≤ k → entry_of (up_to k es) v ≡ Some s) → (b : Bool) → nat_le e.level k ≡ b → entry_of (if b then e ∷ up_to k es else []) v ≡ Some s
    test rest true is = there rest (e.lit.var == v) h
    test rest false is = absurd (let lower : e.level ≤ s.level = first_low (e.lit.var == v) h in let high : k < e.level = leb-false e.level k is in omega arith)

-- an entry above k is not in the prefix
pub up-high : (k : ℕ) (es : List Entry) (v : ℕ) (s : Entry) → entry_of es v ≡ Some s → k < s.level → entry_of (up_to k es) v ≡ None
up-high k es v s h high = ⊎_elim (λ (n : entry_of (up_to k es) v ≡ None). n) there (option-cases (entry_of (up_to k es) v))
  where
    there : (x : Entry) × (entry_of (up_to k es) v ≡ Some x) → entry_of (up_to k es) v ≡ None
    there (x, is) = let e = up-entry k es v x is in
        let same : x ≡ s = (let both : Some x ≡ Some s = sym e.0 ∙ h in cc) in
        absurd (let low : s.level ≤ k = subst (λ (y : Entry). y.level ≤ k) same e.1 in omega arith)

-- what is free is free in the prefix
pub up-free : (k : ℕ) (es : List Entry) (v : ℕ) → entry_of es v ≡ None → entry_of (up_to k es) v ≡ None
up-free k es v h = let r = up-front k es in entry-front_free (up_to k es) r.0 v (subst (λ (l : List Entry). entry_of l v ≡ None) r.1 h)

-- an entry above k behind changes no prefix
pub up-push : (k : ℕ) (es : List Entry) (e : Entry) → k < e.level → up_to k (es ++ e ∷ []) ≡ up_to k es
up-push k [] e high = step (nat_le e.level k) refl
  where
    step : (b : Bool) → nat_le e.level k ≡ b → (if b then e ∷ [] else []) ≡ []
    step true is = absurd (let low : e.level ≤ k = leb-true e.level k is in omega arith)
    step false is = refl
up-push k (x ∷ es) e high = ap (λ (l : List Entry). if nat_le x.level k then x ∷ l else []) (up-push k es e high)

-- where no entry is above k, the prefix is the whole
pub up-whole : (k : ℕ) (es : List Entry) → ((j : ℕ) → j < length es → (entry_at es j).level ≤ k) → up_to k es ≡ es
up-whole k [] low = refl
up-whole k (e ∷ es) low = step (up-whole k es (λ j lt. low (suc j) (omega arith))) (nat_le e.level k) refl
  where
    step : up_to k es ≡ es → (b : Bool) → nat_le e.level k ≡ b → (if b then e ∷ up_to k es else []) ≡ e ∷ es
    step rest true is = ap (λ (l : List Entry). e ∷ l) rest
    step rest false is = absurd (let high : k < e.level = leb-false e.level k is in let low0 : e.level ≤ k = low 0 (omega arith) in omega arith)

-- the prefix of a prefix
pub up-up : (j k : ℕ) (es : List Entry) → j ≤ k → up_to j (up_to k es) ≡ up_to j es
up-up j k [] le = refl
up-up j k (e ∷ es) le = test (up-up j k es le) (nat_le e.level k) refl
  where
    low : (b : Bool) → nat_le e.level j ≡ b → k < e.level → [] ≡ (if b then e ∷ up_to j es else [])
    low true is high = absurd (let at : e.level ≤ j = leb-true e.level j is in omega arith)
    low false is high = refl

    test : up_to j (up_to k es) ≡ up_to j es → (b : Bool) → nat_le e.level k ≡ b → up_to j (if b then e ∷ up_to k es else []) ≡ (if nat_le e.level j then e ∷ up_to j es else [])
    test rest true is = ap (λ (l : List Entry). if nat_le e.level j then e ∷ l else []) rest
    test rest false is = low (nat_le e.level j) refl (leb-false e.level k is)

-- the entry of a variable stands at a place
pub place-of-entry : (es : List Entry) (v : ℕ) (e : Entry) → entry_of es v ≡ Some e → (j : ℕ) × (j < length es) × (entry_at es j ≡ e)
place-of-entry [] v e h = absurd (let no : None ≡ Some e = h in cc)
place-of-entry (x ∷ es) v e h = step (place-of-entry es v e) (x.lit.var == v) h
  where
    step : (entry_of es v ≡ Some e → (j : ℕ) × (j < length es) × (entry_at es j ≡ e)) → (b : Bool) → (if b then Some x else entry_of es v) ≡ Some e → (j : ℕ) × (j < length (x ∷ es)) × (entry_at (x ∷ es) j ≡ e)
    step rest true k = (0, omega arith, let same : x ≡ e = cc in same)
    step rest false k = let r = rest k in (suc r.0, omega (arith, r.1), r.2)
