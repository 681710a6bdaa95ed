-- Whether the words ask that the progress of a search is told.
use Rattle.std.specs.Prelude.{Bool, false, Option, Some}
use Rattle.command_words.specs.Request.{Request, Solve, Queens, Sat, Opb, All, Core, Resume}

abbrev pub asks : Option Request → Bool
asks (Some (Solve input options)) = options.progress
asks (Some (Queens size options)) = options.progress
asks (Some (Sat input options)) = options.progress
asks (Some (Opb input options)) = options.progress
asks (Some (All input options)) = options.progress
asks (Some (Core input options)) = options.progress
asks (Some (Resume input second options)) = options.progress
asks request = false
