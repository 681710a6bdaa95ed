-- A text has one first line that fails, or none fails.
use Rattle.std.proofs.Common.{◌≡◌, ℕ, suc, ◌+◌, List, [], ◌∷◌, ◌++◌, length, refl, sym, ap, subst, ◌∙◌}
use Rattle.bee_text.specs.Lines.{lines_of}
use Rattle.model_meaning.specs.declared.model.Decl.{Decl}
use Rattle.wish_text.specs.Wishes.{Fails, NoneFails, FirstFails}

-- none of a list fails, so none of its parts
among : (decls : List Decl) (before : List (List ℕ)) (line : List ℕ) (left : List (List ℕ)) → NoneFails decls (before ++ line ∷ left) → Fails decls line → ⊥
among decls [] line left none fails = none.0 fails
among decls (l ∷ before) line left none fails = among decls before line left none.1 fails

pub none_or_first : (decls : List Decl) (text : List ℕ) (number : ℕ) → NoneFails decls (lines_of text) → FirstFails decls text number → ⊥
none_or_first decls text number none first = among decls first.before first.line first.left (subst (NoneFails decls) first.parts none) first.fails

head-same : (l k : List ℕ) (ls ks : List (List ℕ)) → l ∷ ls ≡ k ∷ ks → l ≡ k
head-same l k ls ks e = cc

tail-same : (l k : List ℕ) (ls ks : List (List ℕ)) → l ∷ ls ≡ k ∷ ks → ls ≡ ks
tail-same l k ls ks e = cc

-- two fronts of a list before lines that fail, in which none fails, are as long
same-length : (decls : List Decl) (before : List (List ℕ)) (line : List ℕ) (left other : List (List ℕ)) (found : List ℕ) (rest : List (List ℕ)) → before ++ line ∷ left ≡ other ++ found ∷ rest
    → NoneFails decls before → NoneFails decls other → Fails decls line → Fails decls found → length before ≡ length other
same-length decls [] line left [] found rest e p q f g = refl
same-length decls [] line left (o ∷ other) found rest e p q f g = absurd (q.0 (subst (Fails decls) (head-same line o left (other ++ found ∷ rest) e) f))
same-length decls (b ∷ before) line left [] found rest e p q f g = absurd (p.0 (subst (Fails decls) (sym (head-same b found (before ++ line ∷ left) rest e)) g))
same-length decls (b ∷ before) line left (o ∷ other) found rest e p q f g =
    ap suc (same-length decls before line left other found rest (tail-same b o (before ++ line ∷ left) (other ++ found ∷ rest) e) p.1 q.1 f g)

pub one_line : (decls : List Decl) (text : List ℕ) (m n : ℕ) → FirstFails decls text m → FirstFails decls text n → m ≡ n
one_line decls text m n h k =
    let same = same-length decls h.before h.line h.left k.before k.line k.left (sym h.parts ∙ k.parts) h.none_before k.none_before h.fails k.fails in
    h.number_is ∙ ap (λ (l : ℕ). l + 1) same ∙ sym k.number_is
