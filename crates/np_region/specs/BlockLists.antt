-- Lists of blocks that stand for regions.
use Rattle.std.specs.Prelude.{◌≡◌, ℕ, ◌+◌, Bool, false, IsTrue, List, Option, MatchOption, Contains}
use Rattle.std.specs.List.{All}
use Rattle.np_space.specs.Header.{IsValid, IsLeast}
use Rattle.np_space.specs.Block.{block_has, block_numbers, valid_table, count_having, any_has, AreDisjoint}
use Rattle.np_space.specs.declared.headers.Header.{Header}
use Rattle.np_space.specs.declared.blocks.Block.{Block}

-- one of the blocks of the valid headers has all headers of the block
pub record LiesInValidBlock (b : Block) : Type 0 where
  pub whole : Block
  pub listed : Contains valid_table (block_numbers whole)
  pub inside : (h : Header) → IsTrue (block_has b h) → IsTrue (block_has whole h)

-- disjoint blocks, each of which lies in a block of valid headers, so that each header is valid
pub record IsBlockList (blocks : List Block) : Type 0 where
  pub disjoint : AreDisjoint blocks
  pub inside : All LiesInValidBlock blocks
  pub only_valid : (h : Header) → IsTrue (any_has blocks h) → IsValid h

-- such blocks, which together have exactly the headers that pass the test
pub record IsListOf (test : Header → Bool) (blocks : List Block) : Type 0 where
  pub list : IsBlockList blocks
  pub exact : (h : Header) → any_has blocks h ≡ test h

-- of each header as many more blocks than before as the function says, none of them outside the blocks
-- of valid headers
pub record HasAdded (more : Header → ℕ) (old new : List Block) : Type 0 where
  pub count : (h : Header) → count_having new h ≡ count_having old h + more h
  pub inside : All LiesInValidBlock old → All LiesInValidBlock new

-- the least header that passes the test, if any does
abbrev pub IsLeastIfAny : (Header → Bool) → Option Header → Type 0
IsLeastIfAny test best = MatchOption best ((h : Header) → test h ≡ false) (λ x. IsLeast test x)
