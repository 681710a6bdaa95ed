use Rattle.std.proofs.Common.{◌++◌, ◌∷◌, []}
use Rattle.bumblebee_reader.proofs.Pulled.{one_more_taken}
use Rattle.model_texts.proofs.model_text.take_items.Goals as goal

pub loop-typing-preserved : goal.loop-typing-preserved
loop-typing-preserved c =
    let i = c.loop-typing.invariant in
    let read = rw c.in-Some.is at c.in_ok-item.ensures.read in
    (i.0 ++ c.in-Some.item ∷ [], one_more_taken _ i.0 c.in-Some.item _ _ i.1 read, c.in_ok-take_item.ensures.taken i.0 i.2)
