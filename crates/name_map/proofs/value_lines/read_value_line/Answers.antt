use Rattle.name_map.proofs.LinesTell.{line_read, line_unread}
use Rattle.name_map.proofs.value_lines.read_value_line.Goals as goal

pub returns-in-Some : goal.returns-in-Some
returns-in-Some c =
    line_read c.args.line.now c.args.name.now c.in_ok-told.told.now c.in-Some.word.now c.args.is_boolean c.args.most c.read_number_word.result c.in_ok-told.ensures c.in-Some.ensures c.read_number_word.ensures

pub returns-in-None : goal.returns-in-None
returns-in-None c = λ z t e. line_unread c.args.line.now c.args.name.now c.in_ok-told.told.now c.args.is_boolean z c.in_ok-told.ensures c.in-None.ensures e
