use Rattle.network_encode.proofs.CutLaws.{parity_is_cut, amo_is_cut}
use Rattle.network_encode.proofs.cuts.cut.Goals as goal

pub returns-in_ok-cut_parity-in-Parity : goal.returns-in_ok-cut_parity-in-Parity
returns-in_ok-cut_parity-in-Parity c =
    parity_is_cut c.args.next_var c.args.core.now c.in-Parity.atoms c.in-Parity.field-1 c.as_slice.result.now c.in_ok-cut_parity-in-Parity.field-0 c.in-Parity.is c.requires c.as_slice.ensures c.in_ok-cut_parity-in-Parity.ensures

pub returns-in_ok-cut_amo-in-Amo : goal.returns-in_ok-cut_amo-in-Amo
returns-in_ok-cut_amo-in-Amo c =
    amo_is_cut c.args.next_var c.args.core.now c.in-Amo.atoms c.as_slice-in-Amo.result.now c.in_ok-cut_amo-in-Amo.field-0 c.in-Amo.is c.requires c.as_slice-in-Amo.ensures c.in_ok-cut_amo-in-Amo.ensures
