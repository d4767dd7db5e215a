use Rattle.std.specs.Prelude.{◌≡◌}
use Rattle.std.proofs.lemmas.Result.{IfOk-weaker}
use Rattle.np_space.specs.Header.{is_valid_header}
use Rattle.np_region.specs.BlockLists.{IsListOf}
use Rattle.np_region.proofs.BlockListLemmas.{whole_listed}
use Rattle.np_region.proofs.lists.all_valid.Goals as goal

pub returns : goal.returns
returns c =
    IfOk-weaker c.from_slice.result (λ v. v.items ≡ c.valid_blocks.result) (λ v. IsListOf is_valid_header v.items)
    (λ v e. rw e (whole_listed c.valid_blocks.result c.valid_blocks.ensures.listed c.valid_blocks.ensures.once))
    c.from_slice.ensures.items
