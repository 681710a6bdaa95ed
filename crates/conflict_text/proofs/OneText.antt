-- A text is whole in one way, or has one first line that fails, and never both.
use Rattle.std.proofs.Common.{◌≡◌, inl, inr, ℕ, List, Option, Some, None, refl, sym, ap, subst}
use Rattle.model_meaning.specs.declared.model.Model.{Model}
use Rattle.model_meaning.specs.Limits.{InLimits, DeclsInLimit}
use Rattle.line_texts.specs.LineByLine.{IsWhole, FirstMisfit}
use Rattle.line_texts.proofs.Leads.{whole_same, whole_fits}
use Rattle.line_texts.proofs.Fronts.{misfit_same}
use Rattle.conflict_text.specs.declared.part.Part.{Part}
use Rattle.conflict_text.specs.declared.part.Part.TheVariants as part
use Rattle.conflict_text.specs.ConflictLines.{Standing, start_standing, Continues, next_without, NextIn, IsNext, IsEnd}
use Rattle.conflict_text.proofs.OneLine.{one-next}

-- the declarations stay

abbrev Stays : Standing → Standing → Type 0
Stays s t = t.model.decls ≡ s.model.decls

continued : (s t : Standing) (o : Option ℕ) (line : List ℕ) → Continues s o line t → Stays s t
continued s t (Some n) line h = ap (λ (u : Standing). u.model.decls) h.1
continued s t None line h = ap (λ (u : Standing). u.model.decls) h.1

stays-in : (s t : Standing) (line : List ℕ) (p : Part) → NextIn s p line t → Stays s t
stays-in s t line part.Version h = ap (λ (u : Standing). u.model.decls) h.1
stays-in s t line part.Verdict h = ap (λ (u : Standing). u.model.decls) h.behind
stays-in s t line part.Statements (inl h) = ap (λ (u : Standing). u.model.decls) h.behind
stays-in s t line part.Statements (inr h) = ap (λ (u : Standing). u.model.decls) h.behind
stays-in s t line part.Ledger (inl h) = ap (λ (u : Standing). u.model.decls) h.behind
stays-in s t line part.Ledger (inr h) = ap (λ (u : Standing). u.model.decls) h.behind
stays-in s t line part.Proof (inl h) = ap (λ (u : Standing). u.model.decls) h.behind
stays-in s t line part.Proof (inr h) = continued s t (next_without s.verdict s.conflict s.begun) line h.1
stays-in s t line part.Values (inl h) = ap (λ (u : Standing). u.model.decls) h.behind
stays-in s t line part.Values (inr h) = continued s t (next_without s.verdict s.conflict s.begun) line h.1
stays-in s t line part.End h = absurd h

abbrev Good : Standing → Type 0
Good s = DeclsInLimit s.model.decls

keeps : (s t : Standing) (line : List ℕ) → Good s → IsNext s line t → Good t
keeps s t line good next = subst DeclsInLimit (sym (stays-in s t line s.part next)) good

one : (s t u : Standing) (line : List ℕ) → Good s → IsNext s line t → IsNext s line u → t ≡ u
one s t u line good p q = one-next s t u line good p q

pub one-conflict : (model : Model) (text : List ℕ) (s t : Standing) → InLimits model → IsWhole IsNext IsEnd (start_standing model) text s → IsWhole IsNext IsEnd (start_standing model) text t → s ≡ t
one-conflict model text s t limits p q = whole_same IsNext Good keeps one IsEnd (start_standing model) limits.0 text s t p q

pub one-misfit : (model : Model) (text : List ℕ) (m n : ℕ) → InLimits model → FirstMisfit IsNext IsEnd (start_standing model) text m → FirstMisfit IsNext IsEnd (start_standing model) text n → m ≡ n
one-misfit model text m n limits p q = misfit_same IsNext Good keeps one IsEnd (start_standing model) limits.0 _ text m n refl p q

pub no-misfit : (model : Model) (text : List ℕ) (s : Standing) (n : ℕ) → InLimits model → IsWhole IsNext IsEnd (start_standing model) text s → FirstMisfit IsNext IsEnd (start_standing model) text n → ⊥
no-misfit model text s n limits whole m = whole_fits IsNext Good keeps one IsEnd (start_standing model) limits.0 text s m.stands m.before m.left whole m.parts m.lead m.misfit
