-- The clauses of a table of places: after a change of one, and with one more.
use Rattle.std.proofs.Common.{◌≡◌, ℕ, zero, suc, ◌+◌, ◌-◌, ◌*◌, ◌/◌, ◌%◌, ◌<◌, ◌≤◌, Bool, true, false, List, [], ◌∷◌, ◌++◌, length, map, get_or, set, take, drop, arith, refl, sym, ap, ◌∙◌, subst}
use Rattle.std.specs.Prelude.{if◌then◌else◌, slice_range}
use Rattle.std.proofs.lemmas.List.{map-set, get_or-map, length-map, length-append, drop_at, take_all, drop-append-le, take-append-le, length-drop, map-append}
use Rattle.std.proofs.lemmas.Bool.{eq-eqb, ne_eqb}
use Rattle.std.proofs.Math.Seq.{map-set_same}
use Rattle.order_ints.specs.declared.literal.Lit.{Lit}
use Rattle.proof_check.specs.declared.arena.Place.{Place}
use Rattle.proof_check.specs.Arena.{Kept, Ascend, AreWithin, IsArena, kept_at, kept_in, place_ids, kept_ids, nth_kept, no_kept, with_life, packed, unpacked, last_from}
use Rattle.proof_check.proofs.Ascending.{ascend-more}

-- the ids of the clauses are those of the places
pub ids-kept : (codes : List ℕ) (places : List Place) → kept_ids (kept_in codes places) ≡ place_ids places
ids-kept codes [] = refl
ids-kept codes (p ∷ ps) = ap (λ (ids : List ℕ). p.id ∷ ids) (ids-kept codes ps)

-- the clause at a place
pub nth-placed : (codes : List ℕ) (places : List Place) (i : ℕ) (p : Place) → i < length places → p ≡ get_or places i p →
    nth_kept (kept_in codes places) i ≡ kept_at codes p
nth-placed codes places i p lt is = get_or-map (kept_at codes) places i p no_kept lt ∙ ap (kept_at codes) (sym is)

-- a place lies within
pub within-at : (codes : List ℕ) (places : List Place) (i : ℕ) (p : Place) → AreWithin codes places → i < length places → p ≡ get_or places i p →
    p.start + p.len ≤ length codes
within-at codes [] i p all lt is = absurd (omega arith)
within-at codes (q ∷ ps) zero p all lt is = let P : Place → Type 0 = λ x. x.start + x.len ≤ length codes in subst P (sym is) all.0
within-at codes (q ∷ ps) (suc i) p all lt is = within-at codes ps i p all.1 (omega (arith, lt)) is

-- a place that is marked otherwise
abbrev pub marked : Place → Bool → Place
marked p b = record { id = p.id; start = p.start; len = p.len; live = b }

pub kept-marked : (codes : List ℕ) (places : List Place) (i : ℕ) (p : Place) (b : Bool) → i < length places → p ≡ get_or places i p →
    kept_in codes (set places i (marked p b)) ≡ set (kept_in codes places) i (with_life b (nth_kept (kept_in codes places) i))
kept-marked codes places i p b lt is =
    map-set (kept_at codes) places i (marked p b)
    ∙ ap (λ (k : Kept). set (kept_in codes places) i (with_life b k)) (sym (nth-placed codes places i p lt is))

within-marked : (codes : List ℕ) (places : List Place) (i : ℕ) (p : Place) (b : Bool) → AreWithin codes places → i < length places → p ≡ get_or places i p →
    AreWithin codes (set places i (marked p b))
within-marked codes [] i p b all lt is = absurd (omega arith)
within-marked codes (q ∷ ps) zero p b all lt is = (let P : Place → Type 0 = λ x. x.start + x.len ≤ length codes in subst P (sym is) all.0, all.1)
within-marked codes (q ∷ ps) (suc i) p b all lt is = (all.0, within-marked codes ps i p b all.1 (omega (arith, lt)) is)

pub arena-marked : (codes : List ℕ) (places : List Place) (i : ℕ) (p : Place) (b : Bool) → IsArena codes places → i < length places → p ≡ get_or places i p →
    IsArena codes (set places i (marked p b))
arena-marked codes places i p b inv lt is = record {
  within = within-marked codes places i p b inv.within lt is;
  ascend = let P : List ℕ → Type 0 = λ ids. Ascend 0 ids in
      subst P (sym (map-set_same (λ (x : Place). x.id) places i (marked p b) p (ap (λ (x : Place). x.id) is))) inv.ascend;
}

-- a literal is told by its number
pub unpacked-packed : (l : Lit) → unpacked (packed l) ≡ l
unpacked-packed l = by_sign l.positive refl
  where
    by_sign : (b : Bool) → l.positive ≡ b → unpacked (packed l) ≡ l
    by_sign true e =
        λ i. record {
          var = (let v : packed l / 2 ≡ l.var = (let n : packed l ≡ 2 * l.var + 1 = ap (λ (t : Bool). 2 * l.var + (if t then 1 else 0)) e in omega (arith, n)) in v) i;
          positive = (eq-eqb (packed l % 2) 1 (let n : packed l ≡ 2 * l.var + 1 = ap (λ (t : Bool). 2 * l.var + (if t then 1 else 0)) e in omega (arith, n)) ∙ sym e) i;
        }
    by_sign false e =
        λ i. record {
          var = (let v : packed l / 2 ≡ l.var = (let n : packed l ≡ 2 * l.var + 0 = ap (λ (t : Bool). 2 * l.var + (if t then 1 else 0)) e in omega (arith, n)) in v) i;
          positive = (ne_eqb (packed l % 2) 1 (let n : packed l ≡ 2 * l.var + 0 = ap (λ (t : Bool). 2 * l.var + (if t then 1 else 0)) e in λ q. omega (arith, n, q)) ∙ sym e) i;
        }

pub all-unpacked : (ls : List Lit) → map unpacked (map packed ls) ≡ ls
all-unpacked [] = refl
all-unpacked (l ∷ ls) = ap (λ (m : Lit). m ∷ map unpacked (map packed ls)) (unpacked-packed l) ∙ ap (λ (ms : List Lit). l ∷ ms) (all-unpacked ls)

-- literals behind those that are there change no clause
range-longer : (codes more : List ℕ) (i j : ℕ) → i ≤ j → j ≤ length codes → slice_range (codes ++ more) i j ≡ slice_range codes i j
range-longer codes more i j le inside =
    ap (take (j - i)) (drop-append-le i codes more (omega (arith, le, inside)))
    ∙ take-append-le (j - i) (drop i codes) more (omega (arith, le, inside, length-drop i codes))

pub kept-longer : (codes more : List ℕ) (places : List Place) → AreWithin codes places → kept_in (codes ++ more) places ≡ kept_in codes places
kept-longer codes more [] all = refl
kept-longer codes more (p ∷ ps) all =
    ap (λ (xs : List ℕ). record { clause = record { id = p.id; lits = map unpacked xs }; live = p.live } ∷ kept_in (codes ++ more) ps)
    (range-longer codes more p.start (p.start + p.len) (omega arith) all.0)
    ∙ ap (λ (ks : List Kept). kept_at codes p ∷ ks) (kept-longer codes more ps all.1)

within-longer : (codes more : List ℕ) (places : List Place) (p : Place) → AreWithin codes places → p.start + p.len ≤ length codes + length more →
    AreWithin (codes ++ more) (places ++ p ∷ [])
within-longer codes more [] p all new = (omega (arith, new, length-append codes more), tt)
within-longer codes more (q ∷ ps) p all new = (omega (arith, all.0, length-append codes more), within-longer codes more ps p all.1 new)

-- a clause that is put at the end
abbrev pub placed_last : List ℕ → ℕ → List Lit → Place
placed_last codes id lits = record { id = id; start = length codes; len = length lits; live = true }

last-range : (codes more : List ℕ) (n : ℕ) → length more ≡ n → slice_range (codes ++ more) (length codes) (length codes + n) ≡ more
last-range codes more n e =
    ap (λ (t : ℕ). take t (drop (length codes) (codes ++ more))) (let s : length codes + n - length codes ≡ n = omega arith in s)
    ∙ ap (take n) (drop_at codes more (length codes) refl) ∙ take_all n more (omega (arith, e))

pub kept-put : (codes : List ℕ) (places : List Place) (id : ℕ) (lits : List Lit) → AreWithin codes places →
    kept_in (codes ++ map packed lits) (places ++ placed_last codes id lits ∷ [])
    ≡ kept_in codes places ++ record { clause = record { id = id; lits = lits }; live = true } ∷ []
kept-put codes places id lits all =
    map-append (kept_at (codes ++ map packed lits)) places (placed_last codes id lits ∷ [])
    ∙ ap (λ (ks : List Kept). ks ++ kept_at (codes ++ map packed lits) (placed_last codes id lits) ∷ []) (kept-longer codes (map packed lits) places all)
    ∙ ap (λ (ls : List Lit). kept_in codes places ++ record { clause = record { id = id; lits = ls }; live = true } ∷ [])
    (ap (map unpacked) (last-range codes (map packed lits) (length lits) (length-map lits packed)) ∙ all-unpacked lits)

pub arena-put : (codes : List ℕ) (places : List Place) (id : ℕ) (lits : List Lit) → IsArena codes places → last_from 0 (kept_ids (kept_in codes places)) < id →
    IsArena (codes ++ map packed lits) (places ++ placed_last codes id lits ∷ [])
arena-put codes places id lits inv above = record {
  within = within-longer codes (map packed lits) places (placed_last codes id lits) inv.within (omega (arith, length-map lits packed));
  ascend = let P : List ℕ → Type 0 = λ ids. Ascend 0 ids in
      subst P (sym (map-append (λ (x : Place). x.id) places (placed_last codes id lits ∷ [])))
      (ascend-more 0 (place_ids places) id inv.ascend (omega (arith, above, ap (last_from 0) (ids-kept codes places))));
}
