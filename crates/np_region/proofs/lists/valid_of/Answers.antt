use Rattle.std.proofs.Common.{◌*◌, ◌∙◌, ap}
use Rattle.std.specs.Prelude.{◌&&◌}
use Rattle.np_space.specs.Flag.{flag_number}
use Rattle.np_space.specs.Header.{is_valid_header}
use Rattle.np_space.specs.Block.{block_has, count_having}
use Rattle.np_region.proofs.BlockListLemmas.{made, whole_listed, flag_times, and_turned}
use Rattle.np_region.proofs.lists.valid_of.Goals as goal

pub push_meets-requires : goal.push_meets-requires
push_meets-requires c = (whole_listed c.valid_blocks.result c.valid_blocks.ensures.listed c.valid_blocks.ensures.once).list.inside

pub returns : goal.returns
returns c =
    made (λ h. flag_number (block_has c.args.block.now h) * count_having c.valid_blocks.result h) (λ h. is_valid_header h && block_has c.args.block.now h) _ _
    c.in_ok-push_meets.ensures c.new-blocks.ensures.items
    (λ h.
    ap (λ n. flag_number (block_has c.args.block.now h) * n) (c.valid_blocks.ensures.once h)
    ∙ flag_times (block_has c.args.block.now h) (is_valid_header h)
    ∙ ap flag_number (and_turned (block_has c.args.block.now h) (is_valid_header h)))
