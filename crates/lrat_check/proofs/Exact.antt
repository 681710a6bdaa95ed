-- A text is a proof, or one line of it is the first that fails.
use Rattle.std.proofs.Common.{◌≡◌, ℕ, List, Some, refl, sym, ap, ◌∙◌, inl, inr}
use Rattle.std.proofs.lemmas.Bool.{true≢false}
use Rattle.bee_text.specs.Gaps.{words_of}
use Rattle.bee_text.specs.Words.{join_words}
use Rattle.bee_text.specs.Lines.{unfinished}
use Rattle.order_ints.specs.declared.cnf.Cnf.{Cnf}
use Rattle.line_texts.proofs.Leads.{whole_fits}
use Rattle.line_texts.proofs.Fronts.{misfit_same}
use Rattle.proof_check.specs.declared.line.ProofLine.{ProofLine}
use Rattle.proof_check.specs.Lines.{AreBytesOf}
use Rattle.proof_check.specs.Laws.{BytesTellLine}
use Rattle.sat_front.specs.Closed.{closed}
use Rattle.lrat_check.specs.LratLines.{SoFar, start_of, after_line, Says, NextProof, IsRefuted, IsLrat, LratFails}

some-same : {X : Type 0} (a b : X) → Some a ≡ Some b → a ≡ b
some-same a b e = cc

abbrev AnyStanding : SoFar → Type 0
AnyStanding s = Unit {0}

-- a line leads to one standing alone
module _ (tells : BytesTellLine) (cnf : Cnf) where
  line-same : (bytes : List ℕ) (l m : ProofLine) → AreBytesOf l bytes → AreBytesOf m bytes → l ≡ m
  line-same bytes l m p q = tells l m p.0 q.0 (sym p.1 ∙ q.1)

  says-same : (s t u : SoFar) (words : List (List ℕ)) → Says cnf s words t → Says cnf s words u → t ≡ u
  says-same s t u words p q =
      some-same t u (sym p.after ∙ ap (after_line cnf s) (line-same (join_words words) p.line q.line p.spelled q.spelled) ∙ q.after)

  next-same : (s t u : SoFar) (line : List ℕ) → NextProof cnf s line t → NextProof cnf s line u → t ≡ u
  next-same s t u line (inl p) (inl q) = p.1 ∙ sym q.1
  next-same s t u line (inl p) (inr q) = absurd (true≢false (sym p.0 ∙ q.0))
  next-same s t u line (inr p) (inl q) = absurd (true≢false (sym q.0 ∙ p.0))
  next-same s t u line (inr p) (inr q) = says-same s t u (words_of line) p.1 q.1

  module _ (text : List ℕ) where
    keeps : (s t : SoFar) (line : List ℕ) → AnyStanding s → NextProof cnf s line t → AnyStanding t
    keeps s t line any next = tt

    one : (s t u : SoFar) (line : List ℕ) → AnyStanding s → NextProof cnf s line t → NextProof cnf s line u → t ≡ u
    one s t u line any = next-same s t u line

    pub proof-fits : (line : ℕ) → IsLrat cnf text → LratFails cnf text line → ⊥
    proof-fits line p m = whole_fits (NextProof cnf) AnyStanding keeps one IsRefuted (start_of cnf) tt (closed text) p.0 m.stands m.before m.left p.1 m.parts m.lead m.misfit

    pub fault-same : (m n : ℕ) → LratFails cnf text m → LratFails cnf text n → m ≡ n
    fault-same m n p q = misfit_same (NextProof cnf) AnyStanding keeps one IsRefuted (start_of cnf) tt (unfinished (closed text)) (closed text) m n refl p q
