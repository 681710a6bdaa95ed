use Rattle.std.proofs.Common.{◌≡◌, ◌++◌, length, codes, Some, refl, sym, ap, ◌∙◌, arith}
use Rattle.std.specs.Prelude.{slice_get}
use Rattle.std.proofs.lemmas.Option.{slice_get_read}
use Rattle.ledger_check.specs.Items.{told_word}
use Rattle.ledger_check.specs.Taken.{standing_of}
use Rattle.ledger_check.proofs.OpeningLaws.{a-value}
use Rattle.ledger_check.proofs.reading.Reading.name_line.Goals as goal

pub returns-in-Some-clause-takes : goal.returns-in-Some-clause-takes
returns-in-Some-clause-takes c =
    let d = c.index-as_slice-len.result in
    let many : c.len.result ≡ length c.args.self.now.values.items = c.len.ensures ∙ c.args.self.now.values.ok.0 in
    let read : slice_get c.as_slice.result.now c.len.result ≡ Some d =
    slice_get_read c.as_slice.result.now (length c.as_slice.result.now) c.len.result d refl (omega (arith, many, ap length c.as_slice.ensures, c.requires.left)) c.index-as_slice-len.is in
    let turn : slice_get c.args.model.now.decls (length c.args.self.now.values.items) ≡ Some d =
    ap (λ ds. slice_get ds (length c.args.self.now.values.items)) (sym c.as_slice.ensures) ∙ ap (slice_get c.as_slice.result.now) (sym many) ∙ read in
    a-value c.args.model.now (standing_of c.args.self.now) c.args.line.now (standing_of c.take_value.new.self) d turn c.requires.part c.requires.left c.in-Some.told c.in_ok-taken-in-Some.taken
    c.in-Some.ensures.read.1 (c.in-Some.ensures.read.0 ∙ ap (λ n. n ++ (codes " = " ++ told_word c.in-Some.told)) c.as_bytes.ensures)
    (λ u form is. c.in-Some.ensures.complete u form (is ∙ ap (λ n. n ++ (codes " = " ++ told_word u)) (sym c.as_bytes.ensures))) c.in_ok-taken-in-Some.ensures.took
