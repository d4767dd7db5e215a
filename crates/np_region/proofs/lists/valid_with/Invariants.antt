use Rattle.std.proofs.Common.{take}
use Rattle.std.specs.Prelude.{◌&&◌}
use Rattle.np_space.specs.Header.{is_valid_header}
use Rattle.np_space.specs.Block.{address_number}
use Rattle.np_space.specs.Patterns.{any_pattern_has}
use Rattle.np_region.specs.BlockLists.{IsListOf}
use Rattle.np_region.proofs.lists.valid_with.Given as goal

abbrev pub invariant-loop-pattern : goal.invariant-loop-pattern
invariant-loop-pattern l =
    IsListOf (λ h. is_valid_header h && any_pattern_has (take l.pattern-index l.patterns) (address_number l.field h)) l.blocks.items
