-- A text that is read up to a line, and none of its lines fails so far.
use Rattle.std.proofs.Common.{◌≡◌, ℕ, ◌+◌, List, [], ◌∷◌, ◌++◌, length, refl, sym, ap, subst, ◌∙◌, arith, append_assoc, length-append}
use Rattle.std.proofs.lemmas.List.{append-nil}
use Rattle.bee_text.specs.Lines.{lines_of}
use Rattle.model_meaning.specs.declared.model.Decl.{Decl}
use Rattle.wish_text.specs.Wishes.{Fails, NoneFails, FirstFails}

-- so many lines are read, the rest is left, and none fails
pub record ReadTo (decls : List Decl) (text rest : List ℕ) (read : ℕ) : Type 0 where
  pub before : List (List ℕ)
  pub parts : lines_of text ≡ before ++ lines_of rest
  pub count : read ≡ length before
  pub none : NoneFails decls before

none-push : (decls : List Decl) (before : List (List ℕ)) (line : List ℕ) → NoneFails decls before → (Fails decls line → ⊥) → NoneFails decls (before ++ line ∷ [])
none-push decls [] line p q = (q, tt)
none-push decls (l ∷ before) line p q = (p.0, none-push decls before line p.1 q)

pub nothing-read : (decls : List Decl) (text rest : List ℕ) (read : ℕ) → rest ≡ text → read ≡ 0 → ReadTo decls text rest read
nothing-read decls text rest read same none = record { before = []; parts = ap lines_of (sym same); count = none; none = tt }

pub line-read : (decls : List Decl) (text rest line later : List ℕ) (read after : ℕ) → ReadTo decls text rest read → lines_of rest ≡ line ∷ lines_of later → after ≡ read + 1
    → (Fails decls line → ⊥) → ReadTo decls text later after
line-read decls text rest line later read after h cut n passes = record {
  before = h.before ++ line ∷ [];
  parts = h.parts ∙ ap (λ ls. h.before ++ ls) cut ∙ sym (append_assoc h.before (line ∷ []) (lines_of later));
  count = omega (arith, n, h.count, length-append h.before (line ∷ []));
  none = none-push decls h.before line h.none passes;
}

pub line-fails : (decls : List Decl) (text rest line later : List ℕ) (read number : ℕ) → ReadTo decls text rest read → lines_of rest ≡ line ∷ lines_of later → number ≡ read + 1
    → Fails decls line → FirstFails decls text number
line-fails decls text rest line later read number h cut n fails = record {
  before = h.before;
  line = line;
  left = lines_of later;
  parts = h.parts ∙ ap (λ ls. h.before ++ ls) cut;
  number_is = n ∙ ap (λ (l : ℕ). l + 1) h.count;
  none_before = h.none;
  fails = fails;
}

pub all-read : (decls : List Decl) (text rest : List ℕ) (read : ℕ) → ReadTo decls text rest read → lines_of rest ≡ [] → NoneFails decls (lines_of text)
all-read decls text rest read h none =
    subst (NoneFails decls) (sym (h.parts ∙ ap (λ ls. h.before ++ ls) none ∙ append-nil h.before)) h.none
