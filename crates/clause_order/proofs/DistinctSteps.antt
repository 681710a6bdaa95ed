-- Steps of the loop that keeps each clause once.
use Rattle.std.proofs.Common.{◌≡◌, Bool, true, false, not, ◌||◌, cond, List, [], ◌∷◌, ◌++◌, ◌⊎◌, inl, inr, map, filter, Vec, refl, sym, ap, ◌∙◌, if◌then◌else◌}
use Rattle.std.specs.Global.{Global}
use Rattle.std.specs.List.{list_any}
use Rattle.std.specs.Cmp.Lexicographic.{pointwise}
use Rattle.std.proofs.lemmas.Bool.{cases_Bool, true≢false, false≢true}
use Rattle.std.proofs.lemmas.List.{append-nil, map-append, append_assoc}
use Rattle.order_ints.specs.declared.literal.Lit.{Lit}
use Rattle.order_ints.specs.OrderedClauses.{same_lit, same_clause, distinct}
use Rattle.order_ints.proofs.ClauseSteps.{same_clause-decides, is_other}

-- the literals in a vector
abbrev pub literals_of : Vec Lit Global → List Lit
literals_of v = v.items

-- the clause is one of those
abbrev pub has_clause : List Lit → List (List Lit) → Bool
has_clause c = list_any (same_clause c)

-- clauses with one more, unless it is there
abbrev pub with_clause : List (List Lit) → List Lit → List (List Lit)
with_clause ks c = if has_clause c ks then ks else ks ++ c ∷ []

list_any-literals_of : (v : Vec Lit Global) (ks : List (Vec Lit Global)) → list_any (λ k. pointwise same_lit v.items k.items) ks ≡ has_clause v.items (map literals_of ks)
list_any-literals_of v [] = refl
list_any-literals_of v (k ∷ ks) = ap (λ b. pointwise same_lit v.items k.items || b) (list_any-literals_of v ks)

-- what an insert into the set leaves
pub with_clause-insert : (ks : List (Vec Lit Global)) (v : Vec Lit Global) → map literals_of (cond (list_any (λ k. pointwise same_lit v.items k.items) ks) ks (ks ++ v ∷ [])) ≡ with_clause (map literals_of ks) v.items
with_clause-insert ks v = by (list_any (λ k. pointwise same_lit v.items k.items) ks) (has_clause v.items (map literals_of ks)) (list_any-literals_of v ks)
  where
    by : (a b : Bool) → a ≡ b → map literals_of (cond a ks (ks ++ v ∷ [])) ≡ cond b (map literals_of ks) (map literals_of ks ++ v.items ∷ [])
    by true true e = refl
    by false false e = map-append literals_of ks (v ∷ [])
    by true false e = absurd (true≢false e)
    by false true e = absurd (false≢true e)

-- each clause of a list, one after another
abbrev pub with_each : List (List Lit) → List (List Lit) → List (List Lit)
with_each ks [] = ks
with_each ks (d ∷ ds) = with_each (with_clause ks d) ds

-- none of those clauses
abbrev pub is_new : List (List Lit) → List Lit → Bool
is_new ks d = not (has_clause d ks)

-- those that are new are other than one that is there
filter-is_new-there : (ks : List (List Lit)) (c : List Lit) (ds : List (List Lit)) → has_clause c ks ≡ true → filter (is_new ks) (filter (is_other c) ds) ≡ filter (is_new ks) ds
filter-is_new-there ks c [] h = refl
filter-is_new-there ks c (d ∷ ds) h = by (cases_Bool (same_clause d c)) (filter-is_new-there ks c ds h)
  where
    by : ((same_clause d c ≡ true) ⊎ (same_clause d c ≡ false)) → filter (is_new ks) (filter (is_other c) ds) ≡ filter (is_new ks) ds → filter (is_new ks) (filter (is_other c) (d ∷ ds)) ≡ filter (is_new ks) (d ∷ ds)
    by (inl t) r =
        let e : d ≡ c = (same_clause-decides d c).0 t in
        let n : has_clause d ks ≡ true = ap (λ x. has_clause x ks) e ∙ h in
        ap (λ b. filter (is_new ks) (cond (not b) (d ∷ filter (is_other c) ds) (filter (is_other c) ds))) t ∙ r ∙ sym (ap (λ b. cond (not b) (d ∷ filter (is_new ks) ds) (filter (is_new ks) ds)) n)
    by (inr f) r =
        ap (λ b. filter (is_new ks) (cond (not b) (d ∷ filter (is_other c) ds) (filter (is_other c) ds))) f ∙ ap (λ xs. cond (is_new ks d) (d ∷ xs) xs) r

has_clause-push : (d : List Lit) (ks : List (List Lit)) (c : List Lit) → has_clause d (ks ++ c ∷ []) ≡ (has_clause d ks || same_clause d c)
has_clause-push d [] c = by (same_clause d c)
  where
    by : (b : Bool) → (b || false) ≡ b
    by true = refl
    by false = refl
has_clause-push d (k ∷ ks) c = by (same_clause d k) (has_clause d (ks ++ c ∷ [])) (has_clause d ks) (same_clause d c) (has_clause-push d ks c)
  where
    by : (a b x y : Bool) → b ≡ (x || y) → (a || b) ≡ ((a || x) || y)
    by true b x y e = refl
    by false b x y e = e

-- those that are new beside one more are new and other than it
filter-is_new-push : (ks : List (List Lit)) (c : List Lit) (ds : List (List Lit)) → filter (is_new (ks ++ c ∷ [])) ds ≡ filter (is_new ks) (filter (is_other c) ds)
filter-is_new-push ks c [] = refl
filter-is_new-push ks c (d ∷ ds) =
    ap (λ b. cond (not b) (d ∷ filter (is_new (ks ++ c ∷ [])) ds) (filter (is_new (ks ++ c ∷ [])) ds)) (has_clause-push d ks c) ∙ ap (λ xs. cond (not (has_clause d ks || same_clause d c)) (d ∷ xs) xs) (filter-is_new-push ks c ds) ∙ by (same_clause d c) (cases_Bool (has_clause d ks))
  where
    by : (y : Bool) → ((has_clause d ks ≡ true) ⊎ (has_clause d ks ≡ false)) → cond (not (has_clause d ks || y)) (d ∷ filter (is_new ks) (filter (is_other c) ds)) (filter (is_new ks) (filter (is_other c) ds)) ≡ filter (is_new ks) (cond (not y) (d ∷ filter (is_other c) ds) (filter (is_other c) ds))
    by true (inl t) = ap (λ b. cond (not (b || true)) (d ∷ filter (is_new ks) (filter (is_other c) ds)) (filter (is_new ks) (filter (is_other c) ds))) t
    by true (inr f) = ap (λ b. cond (not (b || true)) (d ∷ filter (is_new ks) (filter (is_other c) ds)) (filter (is_new ks) (filter (is_other c) ds))) f
    by false (inl t) = ap (λ b. cond (not (b || false)) (d ∷ filter (is_new ks) (filter (is_other c) ds)) (filter (is_new ks) (filter (is_other c) ds))) t ∙ sym (ap (λ b. cond (not b) (d ∷ filter (is_new ks) (filter (is_other c) ds)) (filter (is_new ks) (filter (is_other c) ds))) t)
    by false (inr f) = ap (λ b. cond (not (b || false)) (d ∷ filter (is_new ks) (filter (is_other c) ds)) (filter (is_new ks) (filter (is_other c) ds))) f ∙ sym (ap (λ b. cond (not b) (d ∷ filter (is_new ks) (filter (is_other c) ds)) (filter (is_new ks) (filter (is_other c) ds))) f)

with_each-distinct : (ds ks : List (List Lit)) → with_each ks ds ≡ ks ++ filter (is_new ks) (distinct ds)
with_each-distinct [] ks = sym (append-nil ks)
with_each-distinct (d ∷ ds) ks = by (cases_Bool (has_clause d ks)) (λ js. with_each-distinct ds js)
  where
    by : ((has_clause d ks ≡ true) ⊎ (has_clause d ks ≡ false)) → ((js : List (List Lit)) → with_each js ds ≡ js ++ filter (is_new js) (distinct ds)) → with_each (with_clause ks d) ds ≡ ks ++ filter (is_new ks) (distinct (d ∷ ds))
    by (inl t) r =
        ap (λ b. with_each (cond b ks (ks ++ d ∷ [])) ds) t ∙ r ks ∙ ap (λ xs. ks ++ xs) (sym (filter-is_new-there ks d (distinct ds) t) ∙ sym (ap (λ b. cond (not b) (d ∷ filter (is_new ks) (filter (is_other d) (distinct ds))) (filter (is_new ks) (filter (is_other d) (distinct ds)))) t))
    by (inr f) r =
        ap (λ b. with_each (cond b ks (ks ++ d ∷ [])) ds) f ∙ r (ks ++ d ∷ []) ∙ append_assoc ks (d ∷ []) (filter (is_new (ks ++ d ∷ [])) (distinct ds)) ∙ ap (λ xs. ks ++ d ∷ xs) (filter-is_new-push ks d (distinct ds)) ∙ ap (λ xs. ks ++ xs) (sym (ap (λ b. cond (not b) (d ∷ filter (is_new ks) (filter (is_other d) (distinct ds))) (filter (is_new ks) (filter (is_other d) (distinct ds)))) f))

filter-all : (ds : List (List Lit)) → filter (is_new []) ds ≡ ds
filter-all [] = refl
filter-all (d ∷ ds) = ap (λ xs. d ∷ xs) (filter-all ds)

-- the clauses of a list, one after another from none, each once
pub each_once : (ds : List (List Lit)) → with_each [] ds ≡ distinct ds
each_once ds = with_each-distinct ds [] ∙ filter-all (distinct ds)

-- a clause of those that are left goes into the set
pub clause_taken : (before after : List (List Lit)) (c : List Lit) (left rest all : List (List Lit)) → left ≡ c ∷ rest → after ≡ with_clause before c → with_each before left ≡ with_each [] all → with_each after rest ≡ with_each [] all
clause_taken before after c left rest all l a h = ap (λ ks. with_each ks rest) a ∙ ap (with_each before) (sym l) ∙ h
