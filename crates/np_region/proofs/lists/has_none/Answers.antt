use Rattle.std.proofs.Common.{List, length, sym, ◌∙◌, ap, nat_eq}
use Rattle.np_space.specs.declared.blocks.Block.{Block}
use Rattle.np_region.proofs.BlockListLemmas.{empty_has_none, nothing}
use Rattle.np_region.proofs.lists.has_none.Goals as goal

pub returns : goal.returns
returns c = (
  (λ e. empty_has_none c.args.blocks.now (sym c.is_empty.ensures ∙ e)),
  (λ none. c.is_empty.ensures ∙ ap (λ (l : List Block). nat_eq (length l) 0) (nothing c.args.blocks.now none)),
)
