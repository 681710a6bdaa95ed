-- Lines before a refutation, gathered one after another.
use Rattle.std.proofs.Common.{◌≡◌, ◌⊎◌, ℕ, ◌+◌, Bool, true, false, List, [], ◌∷◌, ◌++◌, codes, refl, sym, ap, subst, ◌∙◌, inl, inr, ⊎_elim, append_assoc, length-append}
use Rattle.std.specs.List.{list_all}
use Rattle.std.proofs.lemmas.Bool.{and_from}
use Rattle.std.proofs.lemmas.List.Folds.{list_all-append}
use Rattle.bee_text.specs.Gaps.{words_of}
use Rattle.bee_text.specs.Lines.{lacks, IsLine, AreLines, join_lines}
use Rattle.bee_text.proofs.LineLemmas.{join_lines-append}
use Rattle.sat_front.specs.Closed.{closed}
use Rattle.answer_import.specs.declared.cut.Front.{Front}
use Rattle.answer_import.specs.Fronts.{IsComment, IsTelling, IsOther, AreBefore, AreComments, SomeTell, IsToldBy}
use Rattle.answer_import.specs.Cutting.{pushed, IsBefore, Takes, IsGathered, IsCutTo, HasCut}

-- a line by its first word
module _ (words : List (List ℕ)) (w : List ℕ) (ws : List (List ℕ)) (cut : words ≡ w ∷ ws) where
  pub comment-at : w ≡ codes "c" → IsComment words
  comment-at e = subst IsComment (sym cut) e

  pub telling-at : (w ≡ codes "s") ⊎ (w ≡ codes "v") → IsTelling words
  telling-at e = subst IsTelling (sym cut) e

  pub other-at : (w ≡ codes "c" → ⊥) → (w ≡ codes "s" → ⊥) → (w ≡ codes "v" → ⊥) → IsOther words
  other-at c s v = subst IsOther (sym cut) (c, λ t. ⊎_elim s v t)

pub comment-none : (words : List (List ℕ)) → words ≡ [] → IsComment words
comment-none words e = subst IsComment (sym e) tt

before-line : (b : Bool) (words : List (List ℕ)) → IsBefore b words → IsComment words ⊎ IsTelling words
before-line true words h = inr h
before-line false words h = inl h

pub before-more : (ls : List (List ℕ)) (l : List ℕ) → AreBefore ls → IsComment (words_of l) ⊎ IsTelling (words_of l) → AreBefore (ls ++ l ∷ [])
before-more [] l h k = (k, tt)
before-more (x ∷ ls) l h k = (h.0, before-more ls l h.1 k)

tell-front : (ls : List (List ℕ)) (l : List ℕ) → SomeTell ls → SomeTell (ls ++ l ∷ [])
tell-front [] l h = absurd h
tell-front (x ∷ ls) l (inl h) = inl h
tell-front (x ∷ ls) l (inr h) = inr (tell-front ls l h)

tell-last : (ls : List (List ℕ)) (l : List ℕ) → IsTelling (words_of l) → SomeTell (ls ++ l ∷ [])
tell-last [] l h = inl h
tell-last (x ∷ ls) l h = inr (tell-last ls l h)

comments-more : (ls : List (List ℕ)) (l : List ℕ) → AreComments ls → IsComment (words_of l) → AreComments (ls ++ l ∷ [])
comments-more [] l h k = (k, tt)
comments-more (x ∷ ls) l h k = (h.0, comments-more ls l h.1 k)

told-more : (told tells : Bool) (ls : List (List ℕ)) (l : List ℕ) → IsToldBy told ls → IsBefore tells (words_of l) → IsToldBy (pushed told tells) (ls ++ l ∷ [])
told-more true tells ls l h k = tell-front ls l h
told-more false true ls l h k = tell-last ls l k
told-more false false ls l h k = comments-more ls l h k

pub cut-none : (text : List ℕ) (front : Front) → front.text.items ≡ [] → front.lines ≡ 0 → front.told ≡ false → IsCutTo text front text
cut-none text front items lines told = record {
  lines = [];
  gathered = record { are_lines = refl; text = items; count = lines; before = tt; told = subst (λ (b : Bool). IsToldBy b []) (sym told) tt };
  parts = refl;
}

pub lines-more : (lines : List (List ℕ)) (line : List ℕ) → AreLines lines → IsLine line → AreLines (lines ++ line ∷ [])
lines-more lines line are one =
    list_all-append (lacks 10) lines (line ∷ []) ∙ and_from (list_all (lacks 10) lines) (list_all (lacks 10) (line ∷ [])) are (and_from (lacks 10 line) true one refl)

gathered-more : (lines : List (List ℕ)) (old new : Front) (line : List ℕ) → IsGathered lines old → IsLine line → Takes old line new → IsGathered (lines ++ line ∷ []) new
gathered-more lines old new line g one t = record {
  are_lines = lines-more lines line g.are_lines one;
  text = t.text ∙ append_assoc old.text.items line (10 ∷ []) ∙ ap (λ (xs : List ℕ). xs ++ (line ++ 10 ∷ [])) g.text ∙ sym (join_lines-append lines (line ∷ []));
  count = t.lines ∙ ap (λ (n : ℕ). n + 1) g.count ∙ sym (length-append lines (line ∷ []));
  before = before-more lines line g.before (before-line t.tells (words_of line) t.is);
  told = subst (λ (b : Bool). IsToldBy b (lines ++ line ∷ [])) (sym t.told) (told-more old.told t.tells lines line g.told t.is);
}

pub cut-more : (text rest line behind : List ℕ) (old new : Front) → IsCutTo text old rest → IsLine line → closed rest ≡ line ++ 10 ∷ closed behind → Takes old line new → IsCutTo text new behind
cut-more text rest line behind old new h one cut t =
    let joined : join_lines (h.lines ++ line ∷ []) ++ closed behind ≡ join_lines h.lines ++ (line ++ 10 ∷ closed behind) =
    ap (λ (xs : List ℕ). xs ++ closed behind) (join_lines-append h.lines (line ∷ [])) ∙ append_assoc (join_lines h.lines) (line ++ 10 ∷ []) (closed behind)
    ∙ ap (λ (xs : List ℕ). join_lines h.lines ++ xs) (append_assoc line (10 ∷ []) (closed behind)) in
    record {
      lines = h.lines ++ line ∷ [];
      gathered = gathered-more h.lines old new line h.gathered one t;
      parts = h.parts ∙ ap (λ (xs : List ℕ). join_lines h.lines ++ xs) cut ∙ sym joined;
    }

pub cut-whole : (text rest : List ℕ) (front : Front) → IsCutTo text front rest → closed rest ≡ [] → HasCut text front rest
cut-whole text rest front h none = record {
  lines = h.lines;
  gathered = h.gathered;
  cut = record { are_lines = h.gathered.are_lines; parts = h.parts; before = h.gathered.before; told_is = h.gathered.told; behind = inl none };
}

pub cut-here : (text rest line behind : List ℕ) (old new : Front) → IsCutTo text old rest → IsLine line → closed rest ≡ line ++ 10 ∷ closed behind → new ≡ old → IsOther (words_of line)
    → HasCut text new rest
cut-here text rest line behind old new h one cut same other =
    subst (λ (f : Front). HasCut text f rest) (sym same) (record {
      lines = h.lines;
      gathered = h.gathered;
      cut = record {
        are_lines = h.gathered.are_lines;
        parts = h.parts;
        before = h.gathered.before;
        told_is = h.gathered.told;
        behind = inr (record { line = line; left = closed behind; one = one; is = cut; other = other });
      };
    })
