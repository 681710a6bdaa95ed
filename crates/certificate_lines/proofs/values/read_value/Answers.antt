use Rattle.certificate_lines.proofs.LineLaws.{no-value, other-value}
use Rattle.certificate_lines.proofs.values.read_value.Goals as goal

pub returns-in_err-number : goal.returns-in_err-number
returns-in_err-number c =
    rw c.from_residual.ensures
    (no-value c.args.decl.now c.args.line.now c.as_bytes.result.now c.is_boolean_kind-is_boolean.result c.requires c.as_bytes.ensures c.is_boolean_kind-is_boolean.ensures c.in_err-number.ensures)

pub returns-else-is_value : goal.returns-else-is_value
returns-else-is_value c = λ z h.
    other-value c.args.decl.now c.args.line.now c.as_bytes.result.now c.is_boolean_kind-is_boolean.result c.requires c.as_bytes.ensures c.is_boolean_kind-is_boolean.ensures
    c.in_ok-number.number c.in_ok-value.value z c.is_value.result c.in_ok-number.ensures.0 c.in_ok-number.ensures.1 c.in_ok-value.ensures c.is_value.ensures c.if-is_value.false h
