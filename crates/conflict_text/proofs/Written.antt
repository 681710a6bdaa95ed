-- What is written one after another.
use Rattle.std.proofs.Common.{◌≡◌, ℕ, zero, suc, ◌+◌, ◌<◌, ◌≤◌, ℤ, List, [], ◌∷◌, ◌++◌, map, drop, length, refl, ap, sym, ◌∙◌, append_assoc, add-one, arith}
use Rattle.std.specs.Prelude.{slice_index_or}
use Rattle.bee_text.specs.Lines.{join_lines}
use Rattle.bee_text.proofs.LineLemmas.{join_lines-append}
use Rattle.model_meaning.specs.declared.model.Decl.{Decl}
use Rattle.model_meaning.specs.declared.model.Assignment.{Assignment}
use Rattle.name_map.specs.ValueLines.{declared_lines}
use Rattle.conflict_text.specs.ConflictLines.{statement_line, without_line}
use Rattle.conflict_text.specs.ConflictDocuments.{witness_lines, AreWhole}

pub joined : (old : List ℕ) (xs ys : List (List ℕ)) → (old ++ join_lines xs) ++ join_lines ys ≡ old ++ join_lines (xs ++ ys)
joined old xs ys = append_assoc old (join_lines xs) (join_lines ys) ∙ ap (λ (t : List ℕ). old ++ t) (sym (join_lines-append xs ys))

pub two : (old a new : List ℕ) (xs ys : List (List ℕ)) → a ≡ old ++ join_lines xs → new ≡ a ++ join_lines ys → new ≡ old ++ join_lines (xs ++ ys)
two old a new xs ys e f = f ∙ (ap (λ (t : List ℕ). t ++ join_lines ys) e ∙ joined old xs ys)

pub three : (old a b new : List ℕ) (xs ys zs : List (List ℕ)) → a ≡ old ++ join_lines xs → b ≡ a ++ join_lines ys → new ≡ b ++ join_lines zs → new ≡ old ++ join_lines (xs ++ (ys ++ zs))
three old a b new xs ys zs e f g = two old a new xs (ys ++ zs) e (two a b new ys zs f g)

-- the lines of statements, one more
pub statements-step : (old new whole : List ℕ) (ns : List ℕ) (i n : ℕ) → i < length ns → n ≡ slice_index_or ns i 0 → new ≡ old ++ join_lines (statement_line n ∷ [])
    → old ++ join_lines (map statement_line (drop i ns)) ≡ whole → new ++ join_lines (map statement_line (drop (i + 1) ns)) ≡ whole
statements-step old new whole ns i n l e f inv =
    ap (λ (t : List ℕ). t ++ join_lines (map statement_line (drop (i + 1) ns))) f
    ∙ (joined old (statement_line n ∷ []) (map statement_line (drop (i + 1) ns))
    ∙ (ap (λ (m : ℕ). old ++ join_lines (map statement_line (m ∷ drop (i + 1) ns))) e
    ∙ (ap (λ (ms : List ℕ). old ++ join_lines (map statement_line ms)) (sym (drop-at ns i l)) ∙ inv)))
  where
    drop-at : (ms : List ℕ) (i : ℕ) → i < length ms → drop i ms ≡ slice_index_or ms i 0 ∷ drop (i + 1) ms
    drop-at ms i h = rw add-one (at ms i h)
      where
        at : (ms : List ℕ) (i : ℕ) → i < length ms → drop i ms ≡ slice_index_or ms i 0 ∷ drop (suc i) ms
        at [] i h = absurd (omega arith)
        at (m ∷ ms) zero h = refl
        at (m ∷ ms) (suc i) h = at ms i (omega arith)

-- Statements with their assignments.

pub whole-at : (decls : List Decl) (given : List Assignment) (i : ℕ) (a : Assignment) → AreWhole decls given → i < length given → a ≡ slice_index_or given i a → length decls ≡ length a.values
whole-at decls [] i a h l e = absurd (omega arith)
whole-at decls (b ∷ given) zero a h l e = h.0 ∙ ap (λ (c : Assignment). length c.values) (sym e)
whole-at decls (b ∷ given) (suc i) a h l e = whole-at decls given i a h.1 (omega arith) e

pub none-left : (decls : List Decl) (ns : List ℕ) (given : List Assignment) (i : ℕ) → length given ≤ i → witness_lines decls (drop i ns) (drop i given) ≡ []
none-left decls ns given i l = rw (drop-all given i l) (none (drop i ns))
  where
    drop-all : (given : List Assignment) (i : ℕ) → length given ≤ i → drop i given ≡ []
    drop-all [] zero l = refl
    drop-all [] (suc i) l = refl
    drop-all (a ∷ given) zero l = absurd (omega arith)
    drop-all (a ∷ given) (suc i) l = drop-all given i (omega arith)

    none : (ms : List ℕ) → witness_lines decls ms [] ≡ []
    none [] = refl
    none (m ∷ ms) = refl

witness-cut : (decls : List Decl) (ns : List ℕ) (given : List Assignment) (i : ℕ) (a : Assignment) → i < length ns → i < length given → a ≡ slice_index_or given i a
    → witness_lines decls (drop i ns) (drop i given) ≡ (without_line (slice_index_or ns i 0) ∷ declared_lines decls a.values) ++ witness_lines decls (drop (suc i) ns) (drop (suc i) given)
witness-cut decls [] given i a l k e = absurd (omega arith)
witness-cut decls (n ∷ ns) [] i a l k e = absurd (omega arith)
witness-cut decls (n ∷ ns) (b ∷ given) zero a l k e =
    ap (λ (c : Assignment). without_line n ∷ (declared_lines decls c.values ++ witness_lines decls ns given)) (sym e)
witness-cut decls (n ∷ ns) (b ∷ given) (suc i) a l k e = witness-cut decls ns given i a (omega arith) (omega arith) e

pub witness-step : (decls : List Decl) (old new whole : List ℕ) (ns : List ℕ) (given : List Assignment) (i : ℕ) (a : Assignment) (values : List ℤ) → i < length ns → i < length given
    → a ≡ slice_index_or given i a → values ≡ a.values → new ≡ old ++ join_lines (without_line (slice_index_or ns i 0) ∷ declared_lines decls values)
    → old ++ join_lines (witness_lines decls (drop i ns) (drop i given)) ≡ whole → new ++ join_lines (witness_lines decls (drop (i + 1) ns) (drop (i + 1) given)) ≡ whole
witness-step decls old new whole ns given i a values l k e v f inv =
    let first : List (List ℕ) = without_line (slice_index_or ns i 0) ∷ declared_lines decls a.values in
    let written : new ≡ old ++ join_lines first = f ∙ ap (λ (zs : List ℤ). old ++ join_lines (without_line (slice_index_or ns i 0) ∷ declared_lines decls zs)) v in
    rw add-one
    (ap (λ (t : List ℕ). t ++ join_lines (witness_lines decls (drop (suc i) ns) (drop (suc i) given))) written
    ∙ (joined old first (witness_lines decls (drop (suc i) ns) (drop (suc i) given))
    ∙ (ap (λ (ls : List (List ℕ)). old ++ join_lines ls) (sym (witness-cut decls ns given i a l k e)) ∙ inv)))
