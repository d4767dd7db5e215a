-- Blocks as tests of valid headers.
use Rattle.std.specs.Prelude.{◌≡◌, Bool, ◌&&◌}
use Rattle.np_space.specs.Header.{is_valid_header}
use Rattle.np_space.specs.Block.{block_has}
use Rattle.np_space.specs.declared.headers.Header.{Header}
use Rattle.np_space.specs.declared.blocks.Block.{Block}

-- of the valid headers the block has those that pass the test
abbrev pub TestsOnValid : Block → (Header → Bool) → Type 0
TestsOnValid block test = (h : Header) → (is_valid_header h && block_has block h) ≡ (is_valid_header h && test h)
