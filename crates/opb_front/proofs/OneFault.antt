-- A text says something or has one fault, as its reader tells it.
use Rattle.std.proofs.Common.{◌≡◌, ◌⊎◌, inl, inr, ℕ, List, refl, ap}
use Rattle.opb_front.specs.declared.items.Opb.{Opb}
use Rattle.opb_front.specs.declared.fault.Misfit.{Misfit}
use Rattle.opb_front.specs.declared.fault.Misfit.TheVariants as misfit
use Rattle.opb_front.specs.declared.fault.OpbFault.{OpbFault}
use Rattle.opb_front.specs.declared.fault.OpbFault.TheVariants.{Syntax, Number, Memory}
use Rattle.opb_front.specs.Grammar.{IsOpbText}
use Rattle.opb_front.specs.Faults.{OpbFails, IsFaultOf}
use Rattle.opb_front.proofs.Ends.{said_fails, fails_same, each_text}

pub said_or_fault : (text : List ℕ) (opb : Opb) (f : OpbFault) → IsOpbText text opb → IsFaultOf text f → ⊥
said_or_fault text opb (Syntax line) h k = said_fails text opb misfit.Syntax line h k
said_or_fault text opb (Number line) h k = said_fails text opb misfit.Number line h k
said_or_fault text opb Memory h k = k

apart : misfit.Syntax ≡ misfit.Number → ⊥
apart e = cc

pub fault_same : (text : List ℕ) (f g : OpbFault) → IsFaultOf text f → IsFaultOf text g → f ≡ g
fault_same text (Syntax line) (Syntax other) h k = ap (λ n. Syntax n) (fails_same text misfit.Syntax misfit.Syntax line other h k).1
fault_same text (Number line) (Number other) h k = ap (λ n. Number n) (fails_same text misfit.Number misfit.Number line other h k).1
fault_same text (Syntax line) (Number other) h k = absurd (apart (fails_same text misfit.Syntax misfit.Number line other h k).0)
fault_same text (Number line) (Syntax other) h k = absurd (apart (fails_same text misfit.Syntax misfit.Number other line k h).0)
fault_same text Memory g h k = absurd h
fault_same text f Memory h k = absurd k

pub said_or_faulty : (text : List ℕ) → ((opb : Opb) × IsOpbText text opb) ⊎ ((f : OpbFault) × IsFaultOf text f)
said_or_faulty text = either (each_text text)
  where
    failed : (m : Misfit) (line : ℕ) → OpbFails text m line → (f : OpbFault) × IsFaultOf text f
    failed misfit.Syntax line h = (Syntax line, h)
    failed misfit.Number line h = (Number line, h)

    either : (((opb : Opb) × IsOpbText text opb) ⊎ ((m : Misfit) × ((line : ℕ) × OpbFails text m line))) → ((opb : Opb) × IsOpbText text opb) ⊎ ((f : OpbFault) × IsFaultOf text f)
    either (inl p) = inl p
    either (inr p) = inr (failed p.0 p.1.0 p.1.1)
