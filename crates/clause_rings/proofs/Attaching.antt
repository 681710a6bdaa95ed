-- Why a clause that waits may be watched by its two literals of the highest ranks.
use Rattle.std.proofs.Common.{◌≡◌, ◌≢◌, ℕ, zero, suc, ◌^◌, ◌≤◌, ◌<◌, Bool, true, false, not, List, [], ◌∷◌, ◌++◌, length, refl, ap, sym, ◌∙◌, arith, ◌⊎◌, inl, inr, ⊎_elim, Option, Some, None}
use Rattle.std.specs.Prelude.{if◌then◌else◌, ◌==◌}
use Rattle.std.specs.List.{Contains}
use Rattle.std.proofs.lemmas.Bool.{cases_lt, eqb-true}
use Rattle.order_ints.specs.declared.literal.Lit.{Lit}
use Rattle.literal_trail.specs.declared.entry.Entry.{Entry}
use Rattle.literal_trail.specs.Trail.{Trail, IsTrail, entry_at, entry_of, truth_in, up_to, implied}
use Rattle.literal_trail.specs.Standing.{HasTrue, IsUnit, IsFalse}
use Rattle.clause_arena.specs.Clauses.{Clause, IsLive, lits_of, lit_in}
use Rattle.clause_rings.specs.Clauses.{IsDb}
use Rattle.clause_rings.specs.Looks.{rank_of, rank_by, no_level}
use Rattle.clause_rings.specs.Attaching.{AreRanked, IsAttached, IsAlone}
use Rattle.clause_rings.proofs.Entries.{option-cases, truth-entry, truth-free, truth-has, truth-none, truth-same, place-of-entry, up-low, up-high, up-free, entry-append, entry-append_free}
use Rattle.clause_rings.proofs.Literals.{contains-at}
use Rattle.clause_rings.proofs.Looking.{AreFalseBut, false-at, unit-at}
use Rattle.clause_rings.proofs.Looked.{true-implied}

-- the rank by an entry
pub rank-by_sign : (e p : Bool) (n : ℕ) → (((if p then e else not e) ≡ false) × ((if p then (if e then no_level else n) else (if e then n else no_level)) ≡ n)) ⊎ (((if p then e else not e) ≡ true) × ((if p then (if e then no_level else n) else (if e then n else no_level)) ≡ no_level))
rank-by_sign true true n = inr (refl, refl)
rank-by_sign true false n = inl (refl, refl)
rank-by_sign false true n = inl (refl, refl)
rank-by_sign false false n = inr (refl, refl)

pub rank-some : (e : Entry) (p : Bool) → rank_by (Some e) p ≡ (if p then (if e.lit.positive then no_level else e.level) else (if e.lit.positive then e.level else no_level))
rank-some e true = refl
rank-some e false = refl

-- a literal is false by an entry of its rank's level, or has the highest rank
pub record IsFalseBy (es : List Entry) (l : Lit) (m : ℕ) : Type 0 where
  pub entry : Entry
  pub given : entry_of es l.var ≡ Some entry
  pub is_false : truth_in es l ≡ Some false
  pub low : entry.level ≤ m

pub rank-cases : (es : List Entry) (l : Lit) → ((e : Entry) × (entry_of es l.var ≡ Some e) × (truth_in es l ≡ Some false) × (rank_of es l ≡ e.level)) ⊎ ((truth_in es l ≢ Some false) × (rank_of es l ≡ no_level))
rank-cases es l = ⊎_elim free given (option-cases (entry_of es l.var))
  where
    free : entry_of es l.var ≡ None → ((e : Entry) × (entry_of es l.var ≡ Some e) × (truth_in es l ≡ Some false) × (rank_of es l ≡ e.level)) ⊎ ((truth_in es l ≢ Some false) × (rank_of es l ≡ no_level))
    free n = inr ((λ f. let no : None ≡ Some false = sym (truth-free es l n) ∙ f in cc), ap (λ (o : Option Entry). rank_by o l.positive) n)

    given : (x : Entry) × (entry_of es l.var ≡ Some x) → ((e : Entry) × (entry_of es l.var ≡ Some e) × (truth_in es l ≡ Some false) × (rank_of es l ≡ e.level)) ⊎ ((truth_in es l ≢ Some false) × (rank_of es l ≡ no_level))
    given (e, is) =
        let rank : rank_of es l ≡ (if l.positive then (if e.lit.positive then no_level else e.level) else (if e.lit.positive then e.level else no_level)) = ap (λ (o : Option Entry). rank_by o l.positive) is ∙ rank-some e l.positive in
        let truth : truth_in es l ≡ Some (if l.positive then e.lit.positive else not e.lit.positive) = truth-entry es l e is in
        ⊎_elim
        (λ (s : ((if l.positive then e.lit.positive else not e.lit.positive) ≡ false) × ((if l.positive then (if e.lit.positive then no_level else e.level) else (if e.lit.positive then e.level else no_level)) ≡ e.level)). inl (e, is, truth ∙ ap (λ (b : Bool). Some b) s.0, rank ∙ s.1))
        (λ (s : ((if l.positive then e.lit.positive else not e.lit.positive) ≡ true) × ((if l.positive then (if e.lit.positive then no_level else e.level) else (if e.lit.positive then e.level else no_level)) ≡ no_level)). inr ((λ f. let no : Some true ≡ Some false = sym (truth ∙ ap (λ (b : Bool). Some b) s.0) ∙ f in cc), rank ∙ s.1))
        (rank-by_sign e.lit.positive l.positive e.level)

-- a rank below the highest is the level of an entry that makes the literal false
pub rank-low : (es : List Entry) (l : Lit) (m : ℕ) → rank_of es l ≤ m → m < no_level → IsFalseBy es l m
rank-low es l m le lt = ⊎_elim
    (λ (s : (e : Entry) × (entry_of es l.var ≡ Some e) × (truth_in es l ≡ Some false) × (rank_of es l ≡ e.level)). record { entry = s.0; given = s.1; is_false = s.2; low = omega (arith, s.3) })
    (λ (s : (truth_in es l ≢ Some false) × (rank_of es l ≡ no_level)). absurd (omega (arith, s.1))) (rank-cases es l)

pub rank-false : (es : List Entry) (l : Lit) (e : Entry) → entry_of es l.var ≡ Some e → truth_in es l ≡ Some false → rank_of es l ≡ e.level
rank-false es l e is f = ⊎_elim
    (λ (s : (x : Entry) × (entry_of es l.var ≡ Some x) × (truth_in es l ≡ Some false) × (rank_of es l ≡ x.level)). let both : Some s.0 ≡ Some e = sym s.1 ∙ is in let same : s.0 ≡ e = cc in s.3 ∙ ap (λ (x : Entry). x.level) same)
    (λ (s : (truth_in es l ≢ Some false) × (rank_of es l ≡ no_level)). absurd (s.0 f)) (rank-cases es l)

-- levels are below the highest rank
pub level-small : (t : Trail) (v : ℕ) (e : Entry) → IsTrail t → entry_of t.entries v ≡ Some e → (e.level ≤ t.level) × (t.level < no_level)
level-small t v e trail is =
    let at = place-of-entry t.entries v e is in
    let top : (entry_at t.entries at.0).level ≤ t.level = trail.top at.0 at.1 in
    let same : (entry_at t.entries at.0).level ≡ e.level = ap (λ (x : Entry). x.level) at.2 in
    let high : t.level ≤ length t.entries = trail.high in
    let fits : length t.entries ≤ t.vars = trail.fits in
    let few : t.vars ≤ 2 ^ 27 = trail.few in
    (omega arith, omega arith)

-- each literal but the first is false by a level up to m
abbrev pub AreFalseBy : List Entry → List Lit → ℕ → Type 0
AreFalseBy es ls m = (k : ℕ) → 1 ≤ k → k < length ls → IsFalseBy es (lit_in ls k) m

pub false-but-first : (es : List Entry) (ls : List Lit) (m : ℕ) → AreFalseBy es ls m → AreFalseBut es ls 0
false-but-first es ls m h = record { each = λ k lt ne. (h k (omega arith) lt).is_false }

-- the first literal isn't free longer than the others are false, else the clause had been unit at the end of that level
pub apex : (cs : List Clause) (t : Trail) (c m : ℕ) → IsDb cs t → IsLive cs c → 1 ≤ length (lits_of cs c) → AreFalseBy t.entries (lits_of cs c) m → m < t.level → entry_of (up_to m t.entries) (lit_in (lits_of cs c) 0).var ≡ None → ⊥
apex cs t c m db live some others below free = (db.below m below c live).not_unit (lit_in (lits_of cs c) 0) (unit-at (up_to m t.entries) (lits_of cs c) 0 some (truth-free (up_to m t.entries) (lit_in (lits_of cs c) 0) free) (record { each = each }))
  where
    each : (k : ℕ) → k < length (lits_of cs c) → k ≢ 0 → truth_in (up_to m t.entries) (lit_in (lits_of cs c) k) ≡ Some false
    each k lt ne =
        let f = others k (omega arith) lt in
        let there : entry_of (up_to m t.entries) (lit_in (lits_of cs c) k).var ≡ Some f.entry = up-low m t.entries (lit_in (lits_of cs c) k).var f.entry db.trail.rising f.given f.low in
        truth-same (up_to m t.entries) t.entries (lit_in (lits_of cs c) k) (there ∙ sym f.given) ∙ f.is_false

-- a first literal that is true is true by that level
pub apex-true : (cs : List Clause) (t : Trail) (c m : ℕ) → IsDb cs t → IsLive cs c → 1 ≤ length (lits_of cs c) → AreFalseBy t.entries (lits_of cs c) m → truth_in t.entries (lit_in (lits_of cs c) 0) ≡ Some true → HasTrue t.entries (lits_of cs c) m
apex-true cs t c m db live some others is =
    let e = truth-has t.entries (lit_in (lits_of cs c) 0) true is in
    record { lit = lit_in (lits_of cs c) 0; is_in = contains-at (lits_of cs c) 0 some; entry = e.0; given = e.1; is_true = is; low = low e.0 e.1 }
  where
    low : (e : Entry) → entry_of t.entries (lit_in (lits_of cs c) 0).var ≡ Some e → e.level ≤ m
    low e given = ⊎_elim (λ (lt : m < e.level). let small = level-small t (lit_in (lits_of cs c) 0).var e db.trail given in absurd (apex cs t c m db live some others (omega (arith, small.0)) (up-high m t.entries (lit_in (lits_of cs c) 0).var e given lt))) (λ (le : e.level ≤ m). le) (cases_lt m e.level)

-- a first literal that is free is made true by that level
pub apex-free : (cs : List Clause) (t : Trail) (c m : ℕ) → IsDb cs t → IsLive cs c → 1 ≤ length (lits_of cs c) → AreFalseBy t.entries (lits_of cs c) m → truth_in t.entries (lit_in (lits_of cs c) 0) ≡ None → HasTrue (implied t (lit_in (lits_of cs c) 0) c).entries (lits_of cs c) m
apex-free cs t c m db live some others is =
    let free = truth-none t.entries (lit_in (lits_of cs c) 0) is in
    let low : t.level ≤ m = ⊎_elim (λ (lt : m < t.level). absurd (apex cs t c m db live some others lt (up-free m t.entries (lit_in (lits_of cs c) 0).var free))) (λ (le : t.level ≤ m). le) (cases_lt m t.level) in
    true-implied t (lits_of cs c) (lit_in (lits_of cs c) 0) c m low (contains-at (lits_of cs c) 0 some) free

-- where the second literal is false, each other one but the first is, by its level
pub ranked-false : (t : Trail) (ls : List Lit) (s : Entry) → IsTrail t → AreRanked t.entries ls → entry_of t.entries (lit_in ls 1).var ≡ Some s → truth_in t.entries (lit_in ls 1) ≡ Some false → AreFalseBy t.entries ls s.level
ranked-false t ls s trail ranked given f k ge lt =
    let small = level-small t (lit_in ls 1).var s trail given in
    rank-low t.entries (lit_in ls k) s.level (omega (arith, ranked.second k ge lt, rank-false t.entries (lit_in ls 1) s given f)) (omega (arith, small.0, small.1))

-- where the first literal is false, each is
pub ranked-fails : (t : Trail) (ls : List Lit) → IsTrail t → AreRanked t.entries ls → truth_in t.entries (lit_in ls 0) ≡ Some false → IsFalse t.entries ls
ranked-fails t ls trail ranked f =
    let e = truth-has t.entries (lit_in ls 0) false f in
    let small = level-small t (lit_in ls 0).var e.0 trail e.1 in
    false-at t.entries ls 0 f (record { each = λ k lt ne. (rank-low t.entries (lit_in ls k) e.0.level (omega (arith, ranked.first k lt, rank-false t.entries (lit_in ls 0) e.0 e.1 f)) (omega (arith, small.0, small.1))).is_false })

pub attached-open : (es : List Entry) (ls : List Lit) → truth_in es (lit_in ls 0) ≢ Some false → truth_in es (lit_in ls 1) ≢ Some false → length ls ≢ 1 → IsAttached es ls
attached-open es ls first second two = record { first = first; second = λ s given f le. absurd (second f); alone = λ one. absurd (two one) }

pub attached-true : (cs : List Clause) (t : Trail) (c : ℕ) → IsDb cs t → IsLive cs c → 1 ≤ length (lits_of cs c) → AreRanked t.entries (lits_of cs c) → truth_in t.entries (lit_in (lits_of cs c) 0) ≡ Some true → IsAttached t.entries (lits_of cs c)
attached-true cs t c db live some ranked is = record {
  first = λ f. let no : Some true ≡ Some false = sym is ∙ f in cc;
  second = λ s given f le. apex-true cs t c s.level db live some (ranked-false t (lits_of cs c) s db.trail ranked given f) is;
  alone = λ one. apex-true cs t c 0 db live some (λ k ge lt. absurd (omega arith)) is;
}

-- the first literal has been made true
pub attached-forced : (cs : List Clause) (t : Trail) (c : ℕ) → IsDb cs t → IsLive cs c → 1 ≤ length (lits_of cs c) → AreRanked t.entries (lits_of cs c) → truth_in t.entries (lit_in (lits_of cs c) 0) ≡ None → IsAttached (implied t (lit_in (lits_of cs c) 0) c).entries (lits_of cs c)
attached-forced cs t c db live some ranked is = record {
  first = λ f. first f;
  second = second;
  alone = λ one. apex-free cs t c 0 db live some (λ k ge lt. absurd (omega arith)) is;
}
  where
    x : Entry
    x = record { lit = lit_in (lits_of cs c) 0; level = t.level; reason = Some c }

    made : HasTrue (t.entries ++ x ∷ []) (lit_in (lits_of cs c) 0 ∷ []) t.level
    made = true-implied t (lit_in (lits_of cs c) 0 ∷ []) (lit_in (lits_of cs c) 0) c t.level (omega arith) (contains-at (lit_in (lits_of cs c) 0 ∷ []) 0 (omega arith)) (truth-none t.entries (lit_in (lits_of cs c) 0) is)

    first : truth_in (t.entries ++ x ∷ []) (lit_in (lits_of cs c) 0) ≡ Some false → ⊥
    first f = let no : Some true ≡ Some false = sym (now (place made.is_in)) ∙ f in cc
      where
        place : Contains (lit_in (lits_of cs c) 0 ∷ []) made.lit → made.lit ≡ lit_in (lits_of cs c) 0
        place (zero, lt, e) = sym e
        place (suc k, lt, e) = absurd (omega arith)

        now : made.lit ≡ lit_in (lits_of cs c) 0 → truth_in (t.entries ++ x ∷ []) (lit_in (lits_of cs c) 0) ≡ Some true
        now e = ap (λ (l : Lit). truth_in (t.entries ++ x ∷ []) l) (sym e) ∙ made.is_true

    second : (s : Entry) → entry_of (t.entries ++ x ∷ []) (lit_in (lits_of cs c) 1).var ≡ Some s → truth_in (t.entries ++ x ∷ []) (lit_in (lits_of cs c) 1) ≡ Some false → 2 ≤ length (lits_of cs c) → HasTrue (t.entries ++ x ∷ []) (lits_of cs c) s.level
    second s given f le = ⊎_elim new old (option-cases (entry_of t.entries (lit_in (lits_of cs c) 1).var))
      where
        last : (b : Bool) → ((lit_in (lits_of cs c) 0).var == (lit_in (lits_of cs c) 1).var) ≡ b → (if b then Some x else None) ≡ Some s → HasTrue (t.entries ++ x ∷ []) (lits_of cs c) s.level
        last true e k = absurd (let no : 0 ≡ 1 = db.apart c live 0 1 some (omega arith) (eqb-true (lit_in (lits_of cs c) 0).var (lit_in (lits_of cs c) 1).var e) in omega arith)
        last false e k = absurd (let no : None ≡ Some s = k in cc)

        new : entry_of t.entries (lit_in (lits_of cs c) 1).var ≡ None → HasTrue (t.entries ++ x ∷ []) (lits_of cs c) s.level
        new none = last ((lit_in (lits_of cs c) 0).var == (lit_in (lits_of cs c) 1).var) refl (sym (entry-append_free t.entries (x ∷ []) (lit_in (lits_of cs c) 1).var none) ∙ given)

        old : (e : Entry) × (entry_of t.entries (lit_in (lits_of cs c) 1).var ≡ Some e) → HasTrue (t.entries ++ x ∷ []) (lits_of cs c) s.level
        old (e, there) =
            let stays : entry_of (t.entries ++ x ∷ []) (lit_in (lits_of cs c) 1).var ≡ Some e = entry-append t.entries (x ∷ []) (lit_in (lits_of cs c) 1).var e there in
            let both : Some e ≡ Some s = sym stays ∙ given in
            let was : truth_in t.entries (lit_in (lits_of cs c) 1) ≡ Some false = truth-same t.entries (t.entries ++ x ∷ []) (lit_in (lits_of cs c) 1) (there ∙ sym stays) ∙ f in
            apex-free cs t c s.level db live some (ranked-false t (lits_of cs c) s db.trail ranked (there ∙ both) was) is

-- a clause whose first literal is free and whose others are false is unit
pub alone-unit : (cs : List Clause) (t : Trail) (c : ℕ) → IsDb cs t → 1 ≤ length (lits_of cs c) → AreRanked t.entries (lits_of cs c) → IsAlone t.entries (lits_of cs c) → truth_in t.entries (lit_in (lits_of cs c) 0) ≡ None → IsUnit t.entries (lits_of cs c) (lit_in (lits_of cs c) 0)
alone-unit cs t c db some ranked alone free = unit-at t.entries (lits_of cs c) 0 some free (⊎_elim one second alone)
  where
    one : length (lits_of cs c) ≡ 1 → AreFalseBut t.entries (lits_of cs c) 0
    one e = record { each = λ k lt ne. absurd (omega arith) }

    second : truth_in t.entries (lit_in (lits_of cs c) 1) ≡ Some false → AreFalseBut t.entries (lits_of cs c) 0
    second f = let s = truth-has t.entries (lit_in (lits_of cs c) 1) false f in false-but-first t.entries (lits_of cs c) s.0.level (ranked-false t (lits_of cs c) s.0 db.trail ranked s.1 f)
