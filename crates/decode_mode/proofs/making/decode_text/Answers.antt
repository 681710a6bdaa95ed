use Rattle.decode_mode.proofs.Bounds.{bounded}
use Rattle.decode_mode.proofs.making.decode_text.Goals as goal

pub write_values-requires : goal.write_values-requires
write_values-requires c = rw c.as_slice.ensures (bounded c.args.held.now.entries c.requires.entries)
