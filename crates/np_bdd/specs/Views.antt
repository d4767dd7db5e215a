-- What stands at the places of a diagram, and where bits lead.
use Rattle.std.specs.Prelude.{ℕ, zero, suc, Bool, true, false, ◌==◌, ◌&&◌, List, slice_index_or, if◌then◌else◌}
use Rattle.np_space.specs.Bits.{header_bits}
use Rattle.np_space.specs.Header.{has_widths}
use Rattle.np_space.specs.declared.headers.Header.{Header}
use Rattle.np_bdd.specs.declared.views.Node.{Node}
use Rattle.np_bdd.specs.declared.views.View.{View}
use Rattle.np_bdd.specs.declared.views.View.TheVariants.{No, Yes, Test}

-- Bits by their numbers, which count from 0: whether each is 1.
abbrev pub Bits : Type 0
Bits = ℕ → Bool

-- the bits of a header: bit 0 is the highest of `src`, and bit 110 the lowest of `dscp`
unfoldable pub bits_of_header : Header → Bits
bits_of_header h i = slice_index_or (header_bits h) i 0 == 1

-- the view at a place
abbrev pub view_at : List View → ℕ → View
view_at views at = slice_index_or views at No

-- the place to which the view at a place sends the bits; without a test they stay
abbrev pub sent_by : View → Bits → ℕ → ℕ
sent_by No bits at = at
sent_by Yes bits at = at
sent_by (Test bit low high) bits at = if bits bit then high.at else low.at

-- the place where the bits stand after so many steps
unfoldable pub place_after : ℕ → List View → Bits → ℕ → ℕ
place_after zero views bits at = at
place_after (suc n) views bits at = place_after n views bits (sent_by (view_at views at) bits at)

-- the view is Yes
abbrev pub is_yes : View → Bool
is_yes No = false
is_yes Yes = true
is_yes (Test bit low high) = false

-- the bits lead from the place to Yes, in one step for each bit at most
unfoldable pub leads_to_yes : List View → Bits → ℕ → Bool
leads_to_yes views bits at = is_yes (view_at views (place_after 111 views bits at))

-- the fields of a header are of their widths, and its bits lead from the node to Yes
abbrev pub node_has : List View → Node → Header → Bool
node_has views x h = has_widths h && leads_to_yes views (bits_of_header h) x.at
