-- Guards of watched literals, and how each clause is attended, through the moves.
use Rattle.std.proofs.Common.{◌≡◌, ◌≢◌, ℕ, ◌+◌, ◌*◌, ◌≤◌, ◌<◌, Bool, true, false, not, List, [], ◌∷◌, ◌++◌, refl, ap, sym, ◌∙◌, subst, arith, inl, inr, ⊎_elim, Some, None}
use Rattle.std.specs.Prelude.{if◌then◌else◌, ◌==◌}
use Rattle.std.specs.List.Sorted.{IsPermutation}
use Rattle.std.proofs.lemmas.Bool.{cases_lt, eqb-true}
use Rattle.order_ints.specs.declared.literal.Lit.{Lit}
use Rattle.order_ints.specs.Truth.{not_lit}
use Rattle.literal_trail.specs.declared.entry.Entry.{Entry}
use Rattle.literal_trail.specs.Trail.{entry_of, truth_in, up_to}
use Rattle.literal_trail.specs.Standing.{HasTrue}
use Rattle.clause_arena.specs.Clauses.{Clause, lit_in}
use Rattle.clause_arena.specs.Codes.{code_of}
use Rattle.index_ring.specs.Lists.{RingLists, Stands}
use Rattle.clause_rings.specs.Watches.{IsGuarded, IsWatched, IsWaiting, IsIdle, IsAttended}
use Rattle.clause_rings.proofs.Entries.{entry-append, entry-append_free, option-cases, truth-entry, truth-same, truth-append, up-low, AreRising}
use Rattle.clause_rings.proofs.Literals.{true-append, true-permuted}
use Rattle.clause_rings.proofs.Nodes.{OthersStand}

-- two literals of one variable and one sign
pub lit-same : (a b : Lit) → a.var ≡ b.var → a.positive ≡ b.positive → a ≡ b
lit-same a b e f =
    let first : a ≡ record { var = b.var; positive = a.positive } = ap (λ (v : ℕ). let l : Lit = record { var = v; positive = a.positive } in l) e in
    first ∙ ap (λ (p : Bool). let l : Lit = record { var = b.var; positive = p } in l) f

-- literals of one number are one
pub code-same : (a b : Lit) → code_of a ≡ code_of b → a ≡ b
code-same a b e = let s = parts a.positive b.positive refl refl in lit-same a b s.0 s.1
  where
    parts : (p q : Bool) → a.positive ≡ p → b.positive ≡ q → (a.var ≡ b.var) × (a.positive ≡ b.positive)
    parts p q ap_is bq_is = cases p q (subst (λ (x : Bool). 2 * a.var + (if x then 1 else 0) ≡ 2 * b.var + (if q then 1 else 0)) ap_is (subst (λ (x : Bool). 2 * a.var + (if a.positive then 1 else 0) ≡ 2 * b.var + (if x then 1 else 0)) bq_is e)) ap_is bq_is
      where
        cases : (p q : Bool) → 2 * a.var + (if p then 1 else 0) ≡ 2 * b.var + (if q then 1 else 0) → a.positive ≡ p → b.positive ≡ q → (a.var ≡ b.var) × (a.positive ≡ b.positive)
        cases true true k f g = (omega arith, f ∙ sym g)
        cases true false k f g = absurd (omega arith)
        cases false true k f g = absurd (omega arith)
        cases false false k f g = (omega arith, f ∙ sym g)

-- an entry of a literal's variable that makes it false is of its negation
pub false-by : (w e : Lit) → e.var ≡ w.var → (if w.positive then e.positive else not e.positive) ≡ false → w ≡ not_lit e
false-by w e v h = lit-same w (not_lit e) (sym v) (sign w.positive e.positive h)
  where
    sign : (p q : Bool) → (if p then q else not q) ≡ false → p ≡ not q
    sign true true k = k
    sign true false k = refl
    sign false true k = refl
    sign false false k = cc

-- a literal that an entry of its negation makes false
pub made-false : (es : List Entry) (e : Entry) → entry_of es e.lit.var ≡ Some e → truth_in es (not_lit e.lit) ≡ Some false
made-false es e h = truth-entry es (not_lit e.lit) e h ∙ ap (λ (b : Bool). Some b) (sign e.lit.positive)
  where
    sign : (q : Bool) → (if not q then q else not q) ≡ false
    sign true = refl
    sign false = refl

pub guarded-append : (es more done : List Entry) (ls : List Lit) (w : Lit) → IsGuarded es done ls w → IsGuarded (es ++ more) done ls w
guarded-append es more done ls w h s at f = true-append es more ls s.level (h s at f)

pub guarded-permuted : (es done : List Entry) (ls ms : List Lit) (w : Lit) → IsPermutation ls ms → IsGuarded es done ls w → IsGuarded es done ms w
guarded-permuted es done ls ms w p h s at f = true-permuted es ls ms s.level p (h s at f)

-- a literal that isn't false needs no guard
pub guarded-open : (es done rest : List Entry) (ls : List Lit) (w : Lit) → es ≡ done ++ rest → truth_in es w ≢ Some false → IsGuarded es done ls w
guarded-open es done rest ls w cut ne s at f = absurd (ne (ap (λ (l : List Entry). truth_in l w) cut ∙ truth-append done rest w false f))

-- one entry more is worked off
pub guarded-next : (es done : List Entry) (e : Entry) (ls : List Lit) (w : Lit) → IsGuarded es done ls w → (w ≡ not_lit e.lit → HasTrue es ls e.level) → IsGuarded es (done ++ e ∷ []) ls w
guarded-next es done e ls w h new s at f = ⊎_elim none some (option-cases (entry_of done w.var))
  where
    some : (x : Entry) × (entry_of done w.var ≡ Some x) → HasTrue es ls s.level
    some (x, is) =
        let stays : entry_of (done ++ e ∷ []) w.var ≡ Some x = entry-append done (e ∷ []) w.var x is in
        let same : Some x ≡ Some s = sym stays ∙ at in
        h s (is ∙ same) (truth-same done (done ++ e ∷ []) w (is ∙ sym stays) ∙ f)

    last : (b : Bool) → (e.lit.var == w.var) ≡ b → (if b then Some e else None) ≡ Some s → HasTrue es ls s.level
    last false is k = absurd (let no : None ≡ Some s = k in cc)
    last true is k =
        let same : e ≡ s = cc in
        let same_var : e.lit.var ≡ w.var = eqb-true e.lit.var w.var is in
        let truth : truth_in (done ++ e ∷ []) w ≡ Some (if w.positive then s.lit.positive else not s.lit.positive) = truth-entry (done ++ e ∷ []) w s at in
        let both : Some (if w.positive then s.lit.positive else not s.lit.positive) ≡ Some false = sym truth ∙ f in
        let sign : (if w.positive then s.lit.positive else not s.lit.positive) ≡ false = cc in
        subst (λ (x : Entry). HasTrue es ls x.level) same (new (false-by w e.lit same_var (subst (λ (x : Entry). (if w.positive then x.lit.positive else not x.lit.positive) ≡ false) (sym same) sign)))

    none : entry_of done w.var ≡ None → HasTrue es ls s.level
    none free = last (e.lit.var == w.var) refl (sym (entry-append_free done (e ∷ []) w.var free) ∙ at)

-- a literal that is true by a level stays so where the trail is cut back to it or above
pub true-cut : (es : List Entry) (ls : List Lit) (j k : ℕ) → AreRising es → j ≤ k → HasTrue es ls j → HasTrue (up_to k es) ls j
true-cut es ls j k up le h =
    let there : entry_of (up_to k es) h.lit.var ≡ Some h.entry = up-low k es h.lit.var h.entry up h.given (let low : h.entry.level ≤ j = h.low in omega arith) in
    record {
      lit = h.lit;
      is_in = h.is_in;
      entry = h.entry;
      given = there;
      is_true = truth-same (up_to k es) es h.lit (there ∙ sym h.given) ∙ h.is_true;
      low = h.low;
    }

-- what is worked off of a trail that is cut back was worked off before, by a level that is not above
abbrev pub IsFrontUpTo : ℕ → List Entry → List Entry → Type 0
IsFrontUpTo k done less = (v : ℕ) (s : Entry) → entry_of less v ≡ Some s → (entry_of done v ≡ Some s) × (s.level ≤ k)

pub guarded-cut : (es done less : List Entry) (ls : List Lit) (w : Lit) (k : ℕ) → AreRising es → IsFrontUpTo k done less → IsGuarded es done ls w → IsGuarded (up_to k es) less ls w
guarded-cut es done less ls w k up front h s at f =
    let was = front w.var s at in
    true-cut es ls s.level k up was.1 (h s was.0 (truth-same done less w (was.0 ∙ sym at) ∙ f))

-- how a clause is attended, in a longer trail
pub attended-append : (x : Clause) (rings : RingLists) (es more done : List Entry) (c : ℕ) → IsAttended x rings es done c → IsAttended x rings (es ++ more) done c
attended-append x rings es more done c h = ⊎_elim watched (⊎_elim (λ (w : IsWaiting x rings c). inr (inl w)) idle) h
  where
    watched : IsWatched x rings es done c → IsAttended x rings (es ++ more) done c
    watched w = inl (record { live = w.live; two = w.two; stands = w.stands; guarded = λ i lt. guarded-append es more done x.lits (lit_in x.lits i) (w.guarded i lt) })

    idle : IsIdle x rings es c → IsAttended x rings (es ++ more) done c
    idle d = inr (inr (record { done = λ live. true-append es more x.lits 0 (d.done live); first = d.first; second = d.second }))

-- with one entry more worked off
pub attended-next : (x : Clause) (rings : RingLists) (es done : List Entry) (e : Entry) (c : ℕ) → ((i : ℕ) → i < 2 → Stands rings (code_of (not_lit e.lit)) (2 * c + i) → HasTrue es x.lits e.level) → IsAttended x rings es done c → IsAttended x rings es (done ++ e ∷ []) c
attended-next x rings es done e c new h = ⊎_elim watched (⊎_elim (λ (w : IsWaiting x rings c). inr (inl w)) (λ (d : IsIdle x rings es c). inr (inr d))) h
  where
    watched : IsWatched x rings es done c → IsAttended x rings es (done ++ e ∷ []) c
    watched w = inl (record {
      live = w.live;
      two = w.two;
      stands = w.stands;
      guarded = λ i lt. guarded-next es done e x.lits (lit_in x.lits i) (w.guarded i lt) (λ is. new i lt (subst (λ (l : Lit). Stands rings (code_of l) (2 * c + i)) is (w.stands i lt)));
    })

-- where another clause's node has moved
pub attended-elsewhere : (x : Clause) (old new : RingLists) (es done : List Entry) (c v : ℕ) → OthersStand old new v → 2 * c ≢ v → 2 * c + 1 ≢ v → IsAttended x old es done c → IsAttended x new es done c
attended-elsewhere x old new es done c v others first second h = ⊎_elim watched (⊎_elim waiting idle) h
  where
    node : (i : ℕ) → i < 2 → 2 * c + i ≢ v
    node i lt e = ⊎_elim (λ (small : i < 1). first (omega arith)) (λ (big : 1 ≤ i). second (omega arith)) (cases_lt i 1)

    watched : IsWatched x old es done c → IsAttended x new es done c
    watched w = inl (record { live = w.live; two = w.two; stands = λ i lt. others.stand (2 * c + i) (code_of (lit_in x.lits i)) (node i lt) (w.stands i lt); guarded = w.guarded })

    waiting : IsWaiting x old c → IsAttended x new es done c
    waiting w = inr (inl (record { live = w.live; stands = others.stand (2 * c) 0 first w.stands; free = others.free (2 * c + 1) second w.free }))

    idle : IsIdle x old es c → IsAttended x new es done c
    idle d = inr (inr (record { done = d.done; first = others.free (2 * c) first d.first; second = others.free (2 * c + 1) second d.second }))

-- in a trail that is cut back
pub attended-cut : (x : Clause) (rings : RingLists) (es done less : List Entry) (c k : ℕ) → AreRising es → IsFrontUpTo k done less → IsAttended x rings es done c → IsAttended x rings (up_to k es) less c
attended-cut x rings es done less c k up front h = ⊎_elim watched (⊎_elim (λ (w : IsWaiting x rings c). inr (inl w)) idle) h
  where
    watched : IsWatched x rings es done c → IsAttended x rings (up_to k es) less c
    watched w = inl (record { live = w.live; two = w.two; stands = w.stands; guarded = λ i lt. guarded-cut es done less x.lits (lit_in x.lits i) k up front (w.guarded i lt) })

    idle : IsIdle x rings es c → IsAttended x rings (up_to k es) less c
    idle d = inr (inr (record { done = λ live. true-cut es x.lits 0 k up (omega arith) (d.done live); first = d.first; second = d.second }))
