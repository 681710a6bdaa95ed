-- Words that list clauses, as they are read.
use Rattle.std.proofs.Common.{◌≡◌, ℕ, ◌+◌, ◌^◌, ◌<◌, ◌≤◌, inl, inr, Bool, true, false, List, [], ◌∷◌, ◌++◌, codes, get_or, map, filter_map, refl, sym, ap, subst, ◌∙◌, arith, append_assoc}
use Rattle.std.specs.Prelude.{Option, Some, None, MatchBool, ◌⊎◌, is_some, IsTrue}
use Rattle.std.proofs.lemmas.Bool.{true≢false, false≢true, cases_Bool}
use Rattle.std.specs.Str.{bytes_eq}
use Rattle.bee_text.specs.Gaps.{words_of}
use Rattle.std.proofs.lemmas.List.{append-nil}
use Rattle.std.proofs.lemmas.Slice.Eq.{bytes_eq-Decides}
use Rattle.std.specs.List.{cons_option}
use Rattle.order_ints.specs.declared.atom.Atom.TheVariants.{Of}
use Rattle.order_ints.specs.OrderedClauses.{ordered_clause}
use Rattle.bee_text.proofs.NumberLemmas.{decimal_leads_by_zero}
use Rattle.order_ints.specs.declared.literal.Lit.{Lit}
use Rattle.order_ints.specs.Place.{LitBelow}
use Rattle.ledger_text.specs.Words.{literal_word}
use Rattle.ledger_text.proofs.Spelled.{signed_word, literal_word_tells}
use Rattle.sat_front.specs.CnfLines.{Listed, with_literal, with_end, Lists, Draft, IsHeader, TellsVars, Tells, is_last, is_skipped, Says, NextAt, NextLine}

-- no literal is spelled by 0
signed_nonzero : (p : Bool) (v : ℕ) → 1 ≤ v → v < 10 ^ 64 → signed_word p v ≡ codes "0" → ⊥
signed_nonzero true v low small e =
    let zero : v ≡ 0 = decimal_leads_by_zero v small (ap (λ t. get_or t 0 0) e) in
    omega arith
signed_nonzero false v low small e = absurd (omega (arith, ap (λ t. get_or t 0 0) e))

pub literal_nonzero : (n : ℕ) (l : Lit) → n ≤ 2 ^ 32 → LitBelow n l → literal_word l ≡ codes "0" → ⊥
literal_nonzero n l bound below e = signed_nonzero l.positive l.var below.0 (omega (arith, below.1)) e

-- the words that are left list behind what is listed what all listed behind what was
pub record ListsAlike (vars : ℕ) (was : Listed) (all : List (List ℕ)) (now : Listed) (left : List (List ℕ)) : Type 0 where
  pub back : (t : Listed) → Lists vars now left t → Lists vars was all t
  pub on : (t : Listed) → Lists vars was all t → Lists vars now left t

pub alike_start : (vars : ℕ) (s : Listed) (ws : List (List ℕ)) → ListsAlike vars s ws s ws
alike_start vars s ws = record { back = λ t h. h; on = λ t h. h }

module _ (vars : ℕ) (small : vars ≤ 67108864) (was : Listed) (all : List (List ℕ)) (now : Listed) (left : List (List ℕ)) (w : List ℕ) (ws : List (List ℕ)) (h : ListsAlike vars was all now left) (cut : left ≡ w ∷ ws) where
  cut_back : (t : Listed) → Lists vars now (w ∷ ws) t → Lists vars was all t
  cut_back t k = h.back t (subst (λ (vs : List (List ℕ)). Lists vars now vs t) (sym cut) k)

  cut_on : (t : Listed) → Lists vars was all t → Lists vars now (w ∷ ws) t
  cut_on t k = subst (λ (vs : List (List ℕ)). Lists vars now vs t) cut (h.on t k)

  -- a clause ends
  pub alike_end : (next : Listed) → w ≡ codes "0" → next ≡ with_end now → ListsAlike vars was all next ws
  alike_end next zero is =
      subst (λ (s : Listed). ListsAlike vars was all s ws) (sym is)
      (record { back = λ t k. cut_back t (inl (zero, k)); on = λ t k. behind t (cut_on t k) })
    where
      behind : (t : Listed) → Lists vars now (w ∷ ws) t → Lists vars (with_end now) ws t
      behind t (inl p) = p.1
      behind t (inr p) = absurd (literal_nonzero (vars + 1) p.0 (omega arith) p.2 (sym p.1 ∙ zero))

  -- a literal comes
  pub alike_literal : (next : Listed) (l : Lit) → (w ≡ codes "0" → ⊥) → w ≡ literal_word l → LitBelow (vars + 1) l → next ≡ with_literal now l → ListsAlike vars was all next ws
  alike_literal next l nonzero spelled below is =
      subst (λ (s : Listed). ListsAlike vars was all s ws) (sym is)
      (record { back = λ t k. cut_back t (inr (l, spelled, below, k)); on = λ t k. behind t (cut_on t k) })
    where
      behind : (t : Listed) → Lists vars now (w ∷ ws) t → Lists vars (with_literal now l) ws t
      behind t (inl p) = absurd (nonzero p.0)
      behind t (inr p) =
          let n = vars + 1 in
          let same : p.0 ≡ l = literal_word_tells n n p.0 l (omega arith) (omega arith) p.2 below (sym p.1 ∙ spelled) in
          subst (λ (m : Lit). Lists vars (with_literal now m) ws t) same p.3

  -- a word that fits nowhere
  pub alike_misfit : (w ≡ codes "0" → ⊥) → ((l : Lit) → LitBelow (vars + 1) l → w ≡ literal_word l → ⊥) → (t : Listed) → Lists vars was all t → ⊥
  alike_misfit nonzero none t k = by (cut_on t k)
    where
      by : Lists vars now (w ∷ ws) t → ⊥
      by (inl p) = nonzero p.0
      by (inr p) = none p.0 p.2 p.1

-- no word is left
pub alike_all : (vars : ℕ) (was : Listed) (all : List (List ℕ)) (now : Listed) (left : List (List ℕ)) → ListsAlike vars was all now left → left ≡ [] → Lists vars was all now
alike_all vars was all now left h none = h.back now (subst (λ (vs : List (List ℕ)). Lists vars now vs now) (sym none) refl)

-- words list one thing
pub lists_same : (vars : ℕ) → vars ≤ 67108864 → (s : Listed) (ws : List (List ℕ)) (t u : Listed) → Lists vars s ws t → Lists vars s ws u → t ≡ u
lists_same vars small s [] t u p q = p ∙ sym q
lists_same vars small s (w ∷ ws) t u (inl p) (inl q) = lists_same vars small (with_end s) ws t u p.1 q.1
lists_same vars small s (w ∷ ws) t u (inl p) (inr q) = absurd (literal_nonzero (vars + 1) q.0 (omega arith) q.2 (sym q.1 ∙ p.0))
lists_same vars small s (w ∷ ws) t u (inr p) (inl q) = absurd (literal_nonzero (vars + 1) p.0 (omega arith) p.2 (sym p.1 ∙ q.0))
lists_same vars small s (w ∷ ws) t u (inr p) (inr q) =
    let n = vars + 1 in
    let same : p.0 ≡ q.0 = literal_word_tells n n p.0 q.0 (omega arith) (omega arith) p.2 q.2 (sym p.1 ∙ q.1) in
    lists_same vars small (with_literal s p.0) ws t u p.3 (subst (λ (l : Lit). Lists vars (with_literal s l) ws u) (sym same) q.3)

pub none_some : {X : Type 0} (o : Option X) (a : X) → o ≡ None → o ≡ Some a → ⊥
none_some o a e f = absurd (cc)

-- nothing is missing exactly where each clause has ended, once the variables were told
pub complete_exactly : (vars : Option ℕ) (begun : List Lit) (ended : Bool) → is_some vars ≡ true → (IsTrue ended → begun ≡ []) × (begun ≡ [] → IsTrue ended)
    → (IsTrue ended → ((n : ℕ) × (vars ≡ Some n)) × (begun ≡ [])) × (((n : ℕ) × (vars ≡ Some n)) × (begun ≡ []) → IsTrue ended)
complete_exactly None begun ended some h = absurd (false≢true some)
complete_exactly (Some n) begun ended some h = ((λ e. ((n, refl), h.0 e)), (λ k. h.1 k.1))

-- a line that is no header, where one must stand
pub no_header : (s : Draft) (words : List (List ℕ)) (first : List ℕ) (behind : List (List ℕ)) (t : Draft) → s.vars ≡ None → words ≡ first ∷ behind → (first ≡ codes "%" → ⊥)
    → ((n : ℕ) → IsHeader (first ∷ behind) n → ⊥) → Says s words t → ⊥
no_header s words first behind t none cut other misfit (inl p) = other ((bytes_eq-Decides first (codes "%")).0 (ap is_last (sym cut) ∙ p.0))
no_header s words first behind t none cut other misfit (inr p) =
    let h : TellsVars s words t = subst (λ (o : Option ℕ). Tells o s words t) none p.1 in
    misfit h.vars (subst (λ (ws : List (List ℕ)). IsHeader ws h.vars) cut h.header)

-- a line that says something is the next one exactly where it says what may stand next
next_as : (ended : Bool) (s : Draft) (line : List ℕ) → ended ≡ false → is_skipped (words_of line) ≡ false → (t : Draft)
    → (Says s (words_of line) t → NextAt ended s line t) × (NextAt ended s line t → Says s (words_of line) t)
next_as true s line going said t = absurd (true≢false going)
next_as false s line going said t = ((λ h. inr (said, h)), back)
  where
    back : NextAt false s line t → Says s (words_of line) t
    back (inl p) = absurd (true≢false (sym p.0 ∙ said))
    back (inr p) = p.1

not_skipped : (first : List ℕ) (behind words : List (List ℕ)) → words ≡ first ∷ behind → (first ≡ codes "c" → ⊥) → is_skipped words ≡ false
not_skipped first behind words cut other = by (cases_Bool (bytes_eq first (codes "c")))
  where
    by : ((bytes_eq first (codes "c") ≡ true) ⊎ (bytes_eq first (codes "c") ≡ false)) → is_skipped words ≡ false
    by (inl e) = absurd (other ((bytes_eq-Decides first (codes "c")).0 e))
    by (inr e) = ap is_skipped cut ∙ e

pub said_next : (s : Draft) (line first : List ℕ) (behind : List (List ℕ)) (t : Draft) (taken : Bool) → s.ended ≡ false → words_of line ≡ first ∷ behind → (first ≡ codes "c" → ⊥)
    → MatchBool taken (Says s (words_of line) t) ((u : Draft) → Says s (words_of line) u → ⊥) → MatchBool taken (NextLine s line t) ((u : Draft) → NextLine s line u → ⊥)
said_next s line first behind t true going cut other h = (next_as s.ended s line going (not_skipped first behind (words_of line) cut other) t).0 h
said_next s line first behind t false going cut other h = λ u next. h u ((next_as s.ended s line going (not_skipped first behind (words_of line) cut other) u).1 next)

-- clauses put in order, one after another
abbrev pub ordered_each : List (List Lit) → List (List Lit)
ordered_each cs = filter_map (ordered_clause []) (map (map Of) cs)

filter-first : {X Y : Type 0} (f : X → Option Y) (x : X) (xs : List X) → filter_map f (x ∷ xs) ≡ filter_map f (x ∷ []) ++ filter_map f xs
filter-first {X} {Y} f x xs = by (f x) (filter_map f xs)
  where
    by : (o : Option Y) (ys : List Y) → cons_option o ys ≡ cons_option o [] ++ ys
    by None ys = refl
    by (Some y) ys = refl

pub ordered_next : (kept next : List (List Lit)) (c : List Lit) (left rest all : List (List Lit)) → left ≡ c ∷ rest → next ≡ kept ++ filter_map (ordered_clause []) (map Of c ∷ [])
    → kept ++ ordered_each left ≡ all → next ++ ordered_each rest ≡ all
ordered_next kept next c left rest all cut is inv =
    ap (λ ks. ks ++ ordered_each rest) is
    ∙ append_assoc kept (filter_map (ordered_clause []) (map Of c ∷ [])) (ordered_each rest)
    ∙ ap (λ ks. kept ++ ks) (sym (filter-first (ordered_clause []) (map Of c) (map (map Of) rest)))
    ∙ ap (λ ls. kept ++ ordered_each ls) (sym cut) ∙ inv

pub ordered_all : (kept left all : List (List Lit)) → left ≡ [] → kept ++ ordered_each left ≡ all → kept ≡ all
ordered_all kept left all none inv = sym (append-nil kept) ∙ ap (λ ls. kept ++ ordered_each ls) (sym none) ∙ inv
