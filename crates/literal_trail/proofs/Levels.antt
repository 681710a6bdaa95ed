-- Levels along entries, and the prefix up to a level.
use Rattle.std.proofs.Common.{◌≡◌, ℕ, zero, suc, ◌+◌, ◌<◌, ◌≤◌, Bool, true, false, cond, leb, eqb, List, [], ◌∷◌, ◌++◌, length, take, Option, Some, None, refl, ap, sym, ◌∙◌, subst, arith, ⊎_elim}
use Rattle.std.proofs.lemmas.Bool.{le-leb, lt-leb, cond-true, cond-false, cases_lt}
use Rattle.literal_trail.specs.declared.entry.Entry.{Entry}
use Rattle.literal_trail.specs.Trail.{entry_at, entry_of, up_to, level_behind, AreLevelled}
use Rattle.literal_trail.proofs.Entries.{entry_of-found}

-- entries behind others go on from the last level
pub levelled-append : (es more : List Entry) (n m last : ℕ) → AreLevelled n es m → AreLevelled m more last → AreLevelled n (es ++ more) last
levelled-append [] more n m last h g = subst (λ (k : ℕ). AreLevelled k more last) (sym h) g
levelled-append (e ∷ es) more n m last h g = (h.0, levelled-append es more e.level m last h.1 g)

behind-low : (n : ℕ) (reason : Option ℕ) → n ≤ level_behind n reason
behind-low n None = omega arith
behind-low n (Some c) = omega arith

behind-high : (n : ℕ) (reason : Option ℕ) → level_behind n reason ≤ n + 1
behind-high n None = omega arith
behind-high n (Some c) = omega arith

-- levels never fall
pub levelled-low : (es : List Entry) (n last : ℕ) → AreLevelled n es last → n ≤ last
levelled-low [] n last h = omega (arith, h)
levelled-low (e ∷ es) n last h = omega (arith, h.0, behind-low n e.reason, levelled-low es e.level last h.1)

pub levelled-from : (es : List Entry) (n last : ℕ) → AreLevelled n es last → (j : ℕ) → j < length es → n ≤ (entry_at es j).level
levelled-from [] n last h j low = absurd (omega (arith, low))
levelled-from (e ∷ es) n last h zero low = omega (arith, h.0, behind-low n e.reason)
levelled-from (e ∷ es) n last h (suc j) low = omega (arith, h.0, behind-low n e.reason, levelled-from es e.level last h.1 j (omega (arith, low)))

pub levelled-top : (es : List Entry) (n last : ℕ) → AreLevelled n es last → (j : ℕ) → j < length es → (entry_at es j).level ≤ last
levelled-top [] n last h j low = absurd (omega (arith, low))
levelled-top (e ∷ es) n last h zero low = levelled-low es e.level last h.1
levelled-top (e ∷ es) n last h (suc j) low = levelled-top es e.level last h.1 j (omega (arith, low))

pub levelled-rising : (es : List Entry) (n last : ℕ) → AreLevelled n es last → (i j : ℕ) → i ≤ j → j < length es → (entry_at es i).level ≤ (entry_at es j).level
levelled-rising [] n last h i j order low = absurd (omega (arith, low))
levelled-rising (e ∷ es) n last h zero zero order low = omega arith
levelled-rising (e ∷ es) n last h zero (suc j) order low = levelled-from es e.level last h.1 j (omega (arith, low))
levelled-rising (e ∷ es) n last h (suc i) zero order low = absurd (omega (arith, order))
levelled-rising (e ∷ es) n last h (suc i) (suc j) order low = levelled-rising es e.level last h.1 i j (omega (arith, order)) (omega (arith, low))

-- a decision stands above the level at which it comes
decides : (n level : ℕ) (reason : Option ℕ) → level ≡ level_behind n reason → reason ≡ None → n < level
decides n level None is none = omega (arith, is)
decides n level (Some c) is none = absurd (cc)

pub levelled-above : (es : List Entry) (n last : ℕ) → AreLevelled n es last → (j : ℕ) → j < length es → (entry_at es j).reason ≡ None → n < (entry_at es j).level
levelled-above [] n last h j low none = absurd (omega (arith, low))
levelled-above (e ∷ es) n last h zero low none = decides n e.level e.reason h.0 none
levelled-above (e ∷ es) n last h (suc j) low none =
    omega (arith, h.0, behind-low n e.reason, levelled-above es e.level last h.1 j (omega (arith, low)) none)

pub levelled-begins : (es : List Entry) (n last : ℕ) → AreLevelled n es last → (i j : ℕ) → i < j → j < length es → (entry_at es j).reason ≡ None → (entry_at es i).level < (entry_at es j).level
levelled-begins [] n last h i j order low none = absurd (omega (arith, low))
levelled-begins (e ∷ es) n last h i zero order low none = absurd (omega (arith, order))
levelled-begins (e ∷ es) n last h zero (suc j) order low none = levelled-above es e.level last h.1 j (omega (arith, low)) none
levelled-begins (e ∷ es) n last h (suc i) (suc j) order low none = levelled-begins es e.level last h.1 i j (omega (arith, order)) (omega (arith, low)) none

-- each level has an entry
pub levelled-count : (es : List Entry) (n last : ℕ) → AreLevelled n es last → last ≤ n + length es
levelled-count [] n last h = omega (arith, h)
levelled-count (e ∷ es) n last h = omega (arith, h.0, behind-high n e.reason, levelled-count es e.level last h.1)

-- the prefix up to a level keeps an entry or ends before it
pub up_to-kept : (k : ℕ) (e : Entry) (es : List Entry) → e.level ≤ k → up_to k (e ∷ es) ≡ e ∷ up_to k es
up_to-kept k e es low = cond-true {A = List Entry} (leb e.level k) (e ∷ up_to k es) [] (le-leb e.level k low)

pub up_to-cut : (k : ℕ) (e : Entry) (es : List Entry) → k < e.level → up_to k (e ∷ es) ≡ []
up_to-cut k e es high = cond-false {A = List Entry} (leb e.level k) (e ∷ up_to k es) [] (lt-leb e.level k high)

-- whether an entry is within a level
by_level : {P : Type 0} (k : ℕ) (e : Entry) → (e.level ≤ k → P) → (k < e.level → P) → P
by_level k e low high = ⊎_elim high low (cases_lt k e.level)

-- the prefix is a front
front_kept : (e : Entry) (es xs ys : List Entry) → ys ≡ e ∷ xs → take (length xs) es ≡ xs → take (length ys) (e ∷ es) ≡ ys
front_kept e es xs ys is h = subst (λ (zs : List Entry). take (length zs) (e ∷ es) ≡ zs) (sym is) (ap (λ (zs : List Entry). e ∷ zs) h)

front_cut : (es ys : List Entry) → ys ≡ [] → take (length ys) es ≡ ys
front_cut es ys is = subst (λ (zs : List Entry). take (length zs) es ≡ zs) (sym is) refl

pub take-up_to : (k : ℕ) (es : List Entry) → take (length (up_to k es)) es ≡ up_to k es
take-up_to k [] = refl
take-up_to k (e ∷ es) =
    by_level k e
    (λ low. front_kept e es (up_to k es) (up_to k (e ∷ es)) (up_to-kept k e es low) (take-up_to k es))
    (λ high. front_cut (e ∷ es) (up_to k (e ∷ es)) (up_to-cut k e es high))

pub length-up_to : (k : ℕ) (es : List Entry) → length (up_to k es) ≤ length es
length-up_to k [] = omega arith
length-up_to k (e ∷ es) =
    by_level k e
    (λ low. omega (arith, ap (length {A = Entry}) (up_to-kept k e es low), length-up_to k es))
    (λ high. omega (arith, ap (length {A = Entry}) (up_to-cut k e es high)))

-- at the last level the prefix is the whole
pub up_to-whole : (k : ℕ) (es : List Entry) (n last : ℕ) → AreLevelled n es last → last ≤ k → up_to k es ≡ es
up_to-whole k [] n last h high = refl
up_to-whole k (e ∷ es) n last h high =
    up_to-kept k e es (omega (arith, levelled-low es e.level last h.1)) ∙ ap (λ (xs : List Entry). e ∷ xs) (up_to-whole k es e.level last h.1 high)

pub up_to-up_to : (j k : ℕ) (es : List Entry) → j ≤ k → up_to j (up_to k es) ≡ up_to j es
up_to-up_to j k [] order = refl
up_to-up_to j k (e ∷ es) order =
    by_level k e
    (λ low. ap (up_to j) (up_to-kept k e es low) ∙
    by_level j e
    (λ lower. up_to-kept j e (up_to k es) lower ∙ ap (λ (xs : List Entry). e ∷ xs) (up_to-up_to j k es order) ∙ sym (up_to-kept j e es lower))
    (λ higher. up_to-cut j e (up_to k es) higher ∙ sym (up_to-cut j e es higher)))
    (λ high. ap (up_to j) (up_to-cut k e es high) ∙ sym (up_to-cut j e es (omega arith)))

pub up_to-push : (k : ℕ) (es : List Entry) (e : Entry) → k < e.level → up_to k (es ++ e ∷ []) ≡ up_to k es
up_to-push k [] e high = up_to-cut k e [] high
up_to-push k (f ∷ es) e high =
    by_level k f
    (λ low. up_to-kept k f (es ++ e ∷ []) low ∙ ap (λ (xs : List Entry). f ∷ xs) (up_to-push k es e high) ∙ sym (up_to-kept k f es low))
    (λ cut_off. up_to-cut k f (es ++ e ∷ []) cut_off ∙ sym (up_to-cut k f es cut_off))

-- the prefix leads to its level
pub levelled-up_to : (k : ℕ) (es : List Entry) (n last : ℕ) → AreLevelled n es last → n ≤ k → k ≤ last → AreLevelled n (up_to k es) k
levelled-up_to k [] n last h low high = omega (arith, h)
levelled-up_to k (e ∷ es) n last h low high =
    by_level k e
    (λ within. subst (λ (xs : List Entry). AreLevelled n xs k) (sym (up_to-kept k e es within)) (h.0, levelled-up_to k es e.level last h.1 within high))
    (λ above. let is : n ≡ k = omega (arith, h.0, behind-high n e.reason) in subst (λ (xs : List Entry). AreLevelled n xs k) (sym (up_to-cut k e es above)) is)

-- a place is in the prefix exactly where its level isn't above
pub in_prefix : (k : ℕ) (es : List Entry) (n last : ℕ) → AreLevelled n es last → (j : ℕ) → j < length es → (entry_at es j).level ≤ k → j < length (up_to k es)
in_prefix k [] n last h j below low = absurd (omega (arith, below))
in_prefix k (e ∷ es) n last h zero below low =
    let is = ap (length {A = Entry}) (up_to-kept k e es low) in omega (arith, is)
in_prefix k (e ∷ es) n last h (suc j) below low =
    let from : e.level ≤ (entry_at es j).level = levelled-from es e.level last h.1 j (omega (arith, below)) in
    let is = ap (length {A = Entry}) (up_to-kept k e es (omega arith)) in
    omega (arith, is, in_prefix k es e.level last h.1 j (omega (arith, below)) low)

pub of_prefix : (k : ℕ) (es : List Entry) (j : ℕ) → j < length (up_to k es) → (entry_at es j).level ≤ k
of_prefix k [] j below = absurd (omega (arith, below))
of_prefix k (e ∷ es) zero below =
    by_level k e (λ low. low) (λ high. let is = ap (length {A = Entry}) (up_to-cut k e es high) in absurd (omega (arith, is, below)))
of_prefix k (e ∷ es) (suc j) below =
    by_level k e
    (λ low. let is = ap (length {A = Entry}) (up_to-kept k e es low) in of_prefix k es j (omega (arith, is, below)))
    (λ high. let is = ap (length {A = Entry}) (up_to-cut k e es high) in absurd (omega (arith, is, below)))

-- behind the prefix stands the decision that begins the next level
pub record Behind (k : ℕ) (es : List Entry) (m : ℕ) : Type 0 where
  pub below : m < length es
  pub next : (entry_at es m).level ≡ k + 1
  pub decided : (entry_at es m).reason ≡ None

begun : (n level : ℕ) (reason : Option ℕ) → level ≡ level_behind n reason → n < level → (level ≡ n + 1) × (reason ≡ None)
begun n level None is above = (is, refl)
begun n level (Some c) is above = absurd (omega (arith, is))

pub decision_behind : (k : ℕ) (es : List Entry) (n last : ℕ) → AreLevelled n es last → n ≤ k → k < last → Behind k es (length (up_to k es))
decision_behind k [] n last h low high = absurd (omega (arith, h))
decision_behind k (e ∷ es) n last h low high =
    by_level k e
    (λ within.
    let rest = decision_behind k es e.level last h.1 within high in
    subst (Behind k (e ∷ es)) (sym (ap (length {A = Entry}) (up_to-kept k e es within)))
    (record { below = omega (arith, rest.below); next = rest.next; decided = rest.decided }))
    (λ above.
    let first = begun n e.level e.reason h.0 (omega arith) in
    subst (Behind k (e ∷ es)) (sym (ap (length {A = Entry}) (up_to-cut k e es above)))
    (record { below = omega arith; next = omega (arith, first.0); decided = first.1 }))

-- the entry of a variable in the prefix
kept_step : (k : ℕ) (f : Entry) (fs : List Entry) (last v : ℕ) (e : Entry) → AreLevelled f.level fs last → e.level ≤ k → (entry_of fs v ≡ Some e → entry_of (up_to k fs) v ≡ Some e) → (b : Bool) → eqb f.lit.var v ≡ b → cond b (Some f) (entry_of fs v) ≡ Some e → entry_of (up_to k (f ∷ fs)) v ≡ Some e
kept_step k f fs last v e h low more true is given =
    let same : f ≡ e = cc in
    let within : f.level ≤ k = subst (λ (x : Entry). x.level ≤ k) (sym same) low in
    ap (λ (xs : List Entry). entry_of xs v) (up_to-kept k f fs within) ∙ cond-true {A = Option Entry} (eqb f.lit.var v) (Some f) (entry_of (up_to k fs) v) is ∙ given
kept_step k f fs last v e h low more false is given =
    let found = entry_of-found fs v e given in
    let from : f.level ≤ (entry_at fs found.place).level = levelled-from fs f.level last h found.place found.below in
    let up : f.level ≤ e.level = subst (λ (x : Entry). f.level ≤ x.level) found.is from in
    ap (λ (xs : List Entry). entry_of xs v) (up_to-kept k f fs (omega arith)) ∙ cond-false {A = Option Entry} (eqb f.lit.var v) (Some f) (entry_of (up_to k fs) v) is ∙ more given

pub entry_of-up_to : (k : ℕ) (es : List Entry) (n last v : ℕ) (e : Entry) → AreLevelled n es last → entry_of es v ≡ Some e → e.level ≤ k → entry_of (up_to k es) v ≡ Some e
entry_of-up_to k [] n last v e h given low = absurd (cc)
entry_of-up_to k (f ∷ fs) n last v e h given low =
    kept_step k f fs last v e h.1 low (λ more. entry_of-up_to k fs f.level last v e h.1 more low) (eqb f.lit.var v) refl given

cut_step : (k : ℕ) (f e : Entry) (x y : Option Entry) → f.level ≤ k → k < e.level → (x ≡ Some e → y ≡ None) → (b : Bool) → cond b (Some f) x ≡ Some e → cond b (Some f) y ≡ None
cut_step k f e x y within above more true given =
    let same : f ≡ e = cc in
    absurd (omega (arith, ap (λ (z : Entry). z.level) same))
cut_step k f e x y within above more false given = more given

pub entry_of-above : (k : ℕ) (es : List Entry) (v : ℕ) (e : Entry) → entry_of es v ≡ Some e → k < e.level → entry_of (up_to k es) v ≡ None
entry_of-above k [] v e given above = absurd (cc)
entry_of-above k (f ∷ fs) v e given above =
    by_level k f
    (λ within.
    ap (λ (xs : List Entry). entry_of xs v) (up_to-kept k f fs within) ∙
    cut_step k f e (entry_of fs v) (entry_of (up_to k fs) v) within above (λ more. entry_of-above k fs v e more above) (eqb f.lit.var v) given)
    (λ cut_off. ap (λ (xs : List Entry). entry_of xs v) (up_to-cut k f fs cut_off))
