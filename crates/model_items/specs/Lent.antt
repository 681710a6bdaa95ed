-- An item of a model that is lent, as the item.
use Rattle.model_items.specs.declared.items.Item.{Item}
use Rattle.model_items.specs.declared.items.Item.TheVariants as lent
use Rattle.model_items.specs.Items.{ModelItem, Declaration, Statement, Definition}

abbrev pub lent_item : Item → ModelItem
lent_item (lent.Declaration d) = Declaration d.now
lent_item (lent.Statement s) = Statement s.now
lent_item (lent.Definition d s) = Definition d.now s.now
