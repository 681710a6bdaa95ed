-- Items in the limits of a text.
use Rattle.std.specs.Prelude.{List, [], ◌∷◌}
use Rattle.model_meaning.specs.Limits.{KindInLimit, WhatInLimit}
use Rattle.model_items.specs.Items.{ModelItem, Declaration, Statement, Definition}

-- the domain of a declaration, and the numbers of a statement and its members
abbrev pub ItemInLimit : ModelItem → Type 0
ItemInLimit (Declaration d) = KindInLimit d.kind
ItemInLimit (Statement s) = WhatInLimit s.what
ItemInLimit (Definition d s) = WhatInLimit s.what

abbrev pub ItemsInLimit : List ModelItem → Type 0
ItemsInLimit [] = Unit {0}
ItemsInLimit (i ∷ items) = ItemInLimit i × ItemsInLimit items
