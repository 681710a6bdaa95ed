use Rattle.std.proofs.Common.{◌≡◌, ℕ, ◌+◌, ◌^◌, ◌≤◌, ℤ, pos, List, MatchOption, sym, subst}
use Rattle.std.specs.Prelude.{unsigned_abs, ◌+ℤ◌}
use Rattle.std.specs.Int.{w128}
use Rattle.std.proofs.lemmas.Int.{to_z-of_z}
use Rattle.order_ints.specs.declared.atom.Atom.{Atom}
use Rattle.order_ints.specs.declared.order_int.OrdInt.{OrdInt}
use Rattle.dimacs_read.proofs.Taken.{int_taken, some_steps, fits_small, FoundSteps}
use Rattle.dimacs_read.proofs.entry.read_int.Goals as goal

pub returns : goal.returns
returns c =
    let rest = c.next_word.new.self in
    let base = c.in-Some-read_signed.base in
    let low = c.in-Some-read_signed.ensures.read.0 in
    let total = c.in-Some-2.found.total in
    let found = some_steps (λ s. s.steps.items) (λ s. s.total) rest c.in_ok-found.field-0 c.in-Some-2.found c.in_ok-found.ensures c.in-Some-2.is in
    let P : List (Atom × ℕ) → Type 0 = λ ss. FoundSteps rest ss total in
    let steps = subst P (sym c.from_vec-steps.ensures) found in
    let same = to_z-of_z w128 base (fits_small base low) in
    let H : ℤ → Type 0 = λ z. MatchOption c.limited.result (2 ^ 30 + 1 ≤ unsigned_abs (z +ℤ pos total))
    (λ (a : OrdInt). (unsigned_abs (z +ℤ pos total) ≤ 2 ^ 30) × (a ≡ record { base = z; steps = c.from_vec-steps.result })) in
    let i : OrdInt = record { base = base; steps = c.from_vec-steps.result } in
    int_taken c.limited.result i c.args.words.now rest c.in-Some.word.now total c.in-Some.ensures.piece low c.in-Some-read_signed.ensures.read.1
    steps.readable steps.spelled steps.total_is (subst H same c.limited.ensures)
