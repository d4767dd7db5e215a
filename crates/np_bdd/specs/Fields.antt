-- The fields of a header among its bits.
use Rattle.std.specs.Prelude.{◌≡◌, ℕ, ◌+◌, ◌-◌, ◌<◌, ◌^◌, Bool, ◌&&◌, ◌||◌, nat_le, nat_lt, List}
use Rattle.np_space.specs.Bit.{has_bit}
use Rattle.np_bdd.specs.declared.views.View.{View}
use Rattle.std.specs.List.{list_any}
use Rattle.np_space.specs.Flag.{flag_number, same_flag}
use Rattle.np_space.specs.Span.{span_has}
use Rattle.np_space.specs.Ternary.{agrees_below}
use Rattle.np_space.specs.declared.patterns.Ternary.{Ternary}
use Rattle.np_space.specs.Header.{HasWidths}
use Rattle.np_space.specs.declared.headers.Header.{Header}
use Rattle.np_space.specs.declared.blocks.Block.{Block}
use Rattle.np_bdd.specs.Views.{Bits, bits_of_header, leads_to_yes}
use Rattle.np_bdd.specs.Nodes.{StartsAt}

-- from the first bit on, as many as the width says, the bits are those of the number, its highest bit first
pub record AreBitsOf (bits : Bits) (first width n : ℕ) : Type 0 where
  pub small : n < 2 ^ width
  pub each : (i : ℕ) → i < width → bits (first + i) ≡ has_bit n (width - 1 - i)

-- from the place the bits lead to Yes where the number of the field passes the test and they do so from the tail
abbrev pub TestsField : (ℕ → Bool) → ℕ → ℕ → List View → ℕ → ℕ → Type 0
TestsField test first width views tail x = (bits : Bits) (n : ℕ) → AreBitsOf bits first width n → leads_to_yes views bits x ≡ (test n && leads_to_yes views bits tail)

-- the block has the header's fields after its addresses
abbrev pub lower_has : Block → Header → Bool
lower_has b h = span_has b.proto h.proto && span_has b.a h.a && span_has b.b h.b && span_has b.est (flag_number h.est) && span_has b.dscp h.dscp

-- from the place the bits of a header whose fields are of their widths lead to Yes where the header passes the test
abbrev pub HasHeaders : (Header → Bool) → List View → ℕ → Type 0
HasHeaders test views x = (h : Header) → HasWidths h → leads_to_yes views (bits_of_header h) x ≡ test h

-- a place that tests no bit, from which all bits lead to the same answer
pub record AlwaysAnswers (answer : Bool) (views : List View) (x : ℕ) : Type 0 where
  pub starts : StartsAt views 111 x
  pub leads : (bits : Bits) → leads_to_yes views bits x ≡ answer

-- a place that tests no bit before the field's first, and tests the field
pub record IsField (test : ℕ → Bool) (first width : ℕ) (views : List View) (tail x : ℕ) : Type 0 where
  pub starts : StartsAt views first x
  pub tests : TestsField test first width views tail x

-- the number is one of those from the first on, up to the one before the end
abbrev pub range_has : ℕ → ℕ → ℕ → Bool
range_has low end n = nat_le low n && nat_lt n end

-- the number agrees with the pattern on as many of its lowest bits
abbrev pub pattern_below : Ternary → ℕ → ℕ → Bool
pattern_below p k n = agrees_below p.value p.wild n k

-- it does so with some of the patterns
abbrev pub any_below : List Ternary → ℕ → ℕ → Bool
any_below patterns k n = list_any (λ p. pattern_below p k n) patterns

-- the pattern has numbers with this bit
abbrev pub allows : ℕ → Bool → Ternary → Bool
allows i bit p = has_bit p.wild i || same_flag bit (has_bit p.value i)
