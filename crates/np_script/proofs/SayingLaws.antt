-- What statements say grows by one statement at a time.
use Rattle.std.proofs.Common.{◌≡◌, List, [], ◌∷◌, ◌++◌, Option, Some, None, refl, append-nil}
use Rattle.std.proofs.lemmas.List.Elements.{filter_map-append}
use Rattle.std.specs.List.{filter_map}
use Rattle.np_lines.specs.Declaring.{GrowsBy}
use Rattle.np_lines.proofs.LastLaws.{last_more}
use Rattle.np_script.specs.declared.statement.Statement.TheVariants as statement
use Rattle.np_script.specs.Saying.{added, draft_of, move_in, start_in}

pub one_more : GrowsBy draft_of added
unfolding draft_of
one_more before (statement.Begin start) =
    rw (
      filter_map-append start_in before (statement.Begin start ∷ []),
      filter_map-append move_in before (statement.Begin start ∷ []),
      append-nil (filter_map move_in before),
      last_more None (filter_map start_in before) start,
    ) refl
one_more before (statement.Move motion) =
    rw (
      filter_map-append start_in before (statement.Move motion ∷ []),
      filter_map-append move_in before (statement.Move motion ∷ []),
      append-nil (filter_map start_in before),
    ) refl
