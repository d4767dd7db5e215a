use Rattle.std.proofs.Common.{ℕ, ◌+◌, ◌<◌, ◌≤◌, vec_len}
use Rattle.np_space.specs.Ternary.{IsNarrower, SameBit}
use Rattle.np_space.specs.Block.{HasMoved, block_has, has_with_address}
use Rattle.np_space.proofs.algebra.push_addresses.Given as goal

abbrev pub invariant-loop-bit : goal.invariant-loop-bit
invariant-loop-bit l = record {
  narrower : IsNarrower l.part l.rest;
  same : (i : ℕ) → i < l.bit → SameBit l.rest l.part i;
  moved : HasMoved (block_has l.whole) (has_with_address l.field l.rest l.whole) l.initial.pieces.items l.pieces.items;
  len : vec_len l.pieces ≤ vec_len l.initial.pieces + l.bit;
}
