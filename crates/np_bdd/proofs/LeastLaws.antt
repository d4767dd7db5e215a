-- The header at the end of the way is the least that the node has.
use Rattle.std.proofs.Common.{◌≢◌, ℕ, ◌<◌, ◌≤◌, List, length}
use Rattle.std.proofs.lemmas.Bool.{and_parts, and_from}
use Rattle.np_space.specs.Header.{HasWidths, has_widths, zeros, IsLeast}
use Rattle.np_space.specs.declared.headers.Header.{Header}
use Rattle.np_bdd.specs.declared.views.Node.{Node}
use Rattle.np_bdd.specs.declared.views.View.{View}
use Rattle.np_bdd.specs.Views.{bits_of_header, leads_to_yes, node_has}
use Rattle.np_bdd.specs.Diagram.{bit_at_place, IsDiagram}
use Rattle.np_bdd.specs.Walking.{IsWay}
use Rattle.np_bdd.proofs.HeaderOfBits.{widths_true, widths_of}
use Rattle.np_bdd.proofs.SetBits.{zeros_clear}
use Rattle.np_bdd.proofs.WayLemmas.{way_starts, way_leads, way_least}
use Rattle.np_bdd.proofs.BitsInOrder.{le_by_bits}

-- the way starts with the header of zeros
pub zeros_start : (views : List View) → IsDiagram views → (x : ℕ) → x < length views → x ≢ 0 → IsWay views x x (bits_of_header zeros)
zeros_start views d x there some = way_starts views d x there some (bits_of_header zeros) zeros_clear

-- and ends with the least one
pub least_at_end : (views : List View) → IsDiagram views → (x : Node) (at : ℕ) (g : Header) → HasWidths g → IsWay views x.at at (bits_of_header g) → 111 ≤ bit_at_place views at → IsLeast (node_has views x) g
least_at_end views d x at g widths way ends = record {
  has = and_from (has_widths g) (leads_to_yes views (bits_of_header g) x.at) (widths_true g widths) (way_leads views d x.at at (bits_of_header g) way ends);
  least = λ h has.
      let parts = and_parts (has_widths h) (leads_to_yes views (bits_of_header h) x.at) has in
      le_by_bits g h widths (widths_of h parts.0) (way_least views d x.at at (bits_of_header g) way ends (bits_of_header h) parts.1);
}
