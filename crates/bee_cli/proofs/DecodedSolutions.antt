-- The values that are written for a compiled text are an assignment that it stands for.
use Rattle.std.proofs.Common.{List, ℕ, refl, sym, subst}
use Rattle.order_ints.specs.Truth.{valuation_of}
use Rattle.order_ints.specs.Numbers.{numbers_of}
use Rattle.name_map.specs.Values.{values_of}
use Rattle.dimacs_out.specs.TextSolutions.{StandsFor}
use Rattle.dimacs_read.proofs.Lawful.{read_is_writable, values_give_assignment}
use Rattle.text_modes.specs.TwoTexts.{Texts}
use Rattle.decode_mode.specs.Decoded.{IsDecoded}
use Rattle.bee_cli.specs.DecodeLaws.{TellsAssignment, DecodedSolves}

stands : (texts : Texts) (written : List ℕ) (d : IsDecoded texts written) → StandsFor texts.first (numbers_of (valuation_of d.tells.values) (values_of d.held.entries))
stands texts written d =
    subst (λ (t : List ℕ). StandsFor t (numbers_of (valuation_of d.tells.values) (values_of d.held.entries))) (sym d.form.spelled)
    (values_give_assignment d.held texts.second d.tells.values (read_is_writable d.held d.form.readable) d.tells.told)

told : (texts : Texts) (written : List ℕ) (d : IsDecoded texts written) → TellsAssignment texts.first written (numbers_of (valuation_of d.tells.values) (values_of d.held.entries))
told texts written d =
    record { held = d.held; form = d.form; valuation = valuation_of d.tells.values; gives = refl; writes = d.tells.writes }

pub decoded_solves : DecodedSolves
decoded_solves model texts written exact d =
    let a = numbers_of (valuation_of d.tells.values) (values_of d.held.entries) in
    (a, ((exact a).0 (stands texts written d), told texts written d))
