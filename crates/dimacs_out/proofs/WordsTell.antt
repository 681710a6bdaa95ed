-- A word of a compiled text tells the literal, the atom, the step that it spells.
use Rattle.std.proofs.Common.{◌≡◌, ℕ, ◌^◌, ◌<◌, ◌≤◌, true, not, ◌==◌, List, [], ◌∷◌, ◌++◌, map, drop, get_or, refl, sym, ap, arith}
use Rattle.std.specs.Fmt.{decimal}
use Rattle.std.proofs.lemmas.Bool.{and_parts, not-true, eqb-false}
use Rattle.bee_text.specs.Lines.{lacks}
use Rattle.bee_text.proofs.NumberLemmas.{decimal_injective_wide}
use Rattle.order_ints.specs.declared.literal.Lit.{Lit}
use Rattle.order_ints.specs.declared.atom.Atom.{Atom}
use Rattle.order_ints.specs.Place.{AtomBelow, StepsBelow, ClauseBelow}
use Rattle.ledger_text.specs.Words.{literal_word, atom_word}
use Rattle.ledger_text.proofs.Spelled.{atom_no_colon, literal_word_tells, atom_word_tells}
use Rattle.dimacs_out.specs.CompiledText.{step_word, WeightsCount}

-- two texts before the first byte of a kind, and behind it
pub cut_tells : (b : ℕ) (xs ys r s : List ℕ) → lacks b xs ≡ true → lacks b ys ≡ true → xs ++ b ∷ r ≡ ys ++ b ∷ s → (xs ≡ ys) × (r ≡ s)
cut_tells b [] [] r s p q e = (refl, ap (drop 1) e)
cut_tells b [] (y ∷ ys) r s p q e =
    let parts = and_parts (not (y == b)) (lacks b ys) q in
    absurd (eqb-false y b (not-true (y == b) parts.0) (sym (ap (λ t. get_or t 0 0) e)))
cut_tells b (x ∷ xs) [] r s p q e =
    let parts = and_parts (not (x == b)) (lacks b xs) p in
    absurd (eqb-false x b (not-true (x == b) parts.0) (ap (λ t. get_or t 0 0) e))
cut_tells b (x ∷ xs) (y ∷ ys) r s p q e =
    let ps = and_parts (not (x == b)) (lacks b xs) p in
    let qs = and_parts (not (y == b)) (lacks b ys) q in
    let rest = cut_tells b xs ys r s ps.1 qs.1 (ap (drop 1) e) in
    let first : x ≡ y = ap (λ t. get_or t 0 0) e in
    (λ i. first i ∷ rest.0 i, rest.1)

step_word_tells : (n m : ℕ) (s t : Atom × ℕ) → n ≤ 2 ^ 32 → m ≤ 2 ^ 32 → AtomBelow n s.0 → AtomBelow m t.0 → s.1 < 2 ^ 128 → t.1 < 2 ^ 128
    → step_word s ≡ step_word t → s ≡ t
step_word_tells n m s t bn bm p q sw tw e =
    let both = cut_tells 58 (atom_word s.0) (atom_word t.0) (decimal s.1) (decimal t.1) (atom_no_colon n s.0 bn p) (atom_no_colon m t.0 bm q) e in
    let atom : s.0 ≡ t.0 = atom_word_tells n m s.0 t.0 bn bm p q both.0 in
    let weight : s.1 ≡ t.1 = decimal_injective_wide s.1 t.1 (omega arith) (omega arith) both.1 in
    λ i. (atom i, weight i)

pub step_words_tell : (n m : ℕ) (ss ts : List (Atom × ℕ)) → n ≤ 2 ^ 32 → m ≤ 2 ^ 32 → StepsBelow n ss → StepsBelow m ts → WeightsCount ss → WeightsCount ts
    → map step_word ss ≡ map step_word ts → ss ≡ ts
step_words_tell n m [] [] bn bm p q pw qw e = refl
step_words_tell n m [] (t ∷ ts) bn bm p q pw qw e = absurd (cc)
step_words_tell n m (s ∷ ss) [] bn bm p q pw qw e = absurd (cc)
step_words_tell n m (s ∷ ss) (t ∷ ts) bn bm p q pw qw e =
    let first = step_word_tells n m s t bn bm p.0 q.0 pw.1 qw.1 (ap (λ ws. get_or ws 0 []) e) in
    let rest = step_words_tell n m ss ts bn bm p.1 q.1 pw.2 qw.2 (ap (drop 1) e) in
    λ i. first i ∷ rest i

pub literal_words_tell : (n m : ℕ) (ls ks : List Lit) → n ≤ 2 ^ 32 → m ≤ 2 ^ 32 → ClauseBelow n ls → ClauseBelow m ks
    → map literal_word ls ≡ map literal_word ks → ls ≡ ks
literal_words_tell n m [] [] bn bm p q e = refl
literal_words_tell n m [] (k ∷ ks) bn bm p q e = absurd (cc)
literal_words_tell n m (l ∷ ls) [] bn bm p q e = absurd (cc)
literal_words_tell n m (l ∷ ls) (k ∷ ks) bn bm p q e =
    let first = literal_word_tells n m l k bn bm p.0 q.0 (ap (λ ws. get_or ws 0 []) e) in
    let rest = literal_words_tell n m ls ks bn bm p.1 q.1 (ap (drop 1) e) in
    λ i. first i ∷ rest i
