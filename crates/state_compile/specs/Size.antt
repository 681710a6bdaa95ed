-- What a split makes smaller.
use Rattle.std.specs.Prelude.{ℕ, map}
use Rattle.core_forms.specs.Trimmed.{trimmed_core}
use Rattle.core_parts.specs.Size.{sizes_of}
use Rattle.step_kernel.specs.Kernel.{Kernel, pending}

-- the sizes of the pending cores, as the store has them: no equation raises this, and each split makes it smaller
abbrev pub left_to_split : Kernel → ℕ
left_to_split k = sizes_of (map (trimmed_core k.view) (pending k.cores))
