-- What two diagrams are combined to.
use Rattle.std.specs.Prelude.{◌≡◌, ℕ, ◌≤◌, ◌<◌, Bool, ◌&&◌, ◌||◌, not, List, length, min}
use Rattle.np_bdd.specs.declared.views.View.{View}
use Rattle.np_bdd.specs.declared.combining.Operation.{Operation}
use Rattle.np_bdd.specs.declared.combining.Operation.TheVariants.{Meet, Minus, Join}
use Rattle.np_bdd.specs.declared.combining.Halves.{Halves}
use Rattle.np_bdd.specs.Views.{Bits, leads_to_yes}
use Rattle.np_bdd.specs.Diagram.{bit_at_place}
use Rattle.np_bdd.specs.Nodes.{IsSplit}

-- what the operation makes of two answers
abbrev pub combined : Operation → Bool → Bool → Bool
combined Meet x y = x && y
combined Minus x y = x && not y
combined Join x y = x || y

-- a place from which bits lead to Yes where the operation says so of the other two places; it tests no bit before both of theirs
pub record IsCombined (operation : Operation) (views : List View) (x y z : ℕ) : Type 0 where
  pub there : z < length views
  pub from : (bit : ℕ) → bit ≤ bit_at_place views x → bit ≤ bit_at_place views y → bit ≤ bit_at_place views z
  pub exact : (bits : Bits) → leads_to_yes views bits z ≡ combined operation (leads_to_yes views bits x) (leads_to_yes views bits y)

-- bits that lead from the first place to Yes do so from the second
pub record IsPart (views : List View) (x y : ℕ) : Type 0 where
  pub part : (bits : Bits) → (leads_to_yes views bits x && leads_to_yes views bits y) ≡ leads_to_yes views bits x

-- the lesser of the bits that two places test
abbrev pub lesser_bit : List View → ℕ → ℕ → ℕ
lesser_bit views x y = min (bit_at_place views x) (bit_at_place views y)

-- two places split at the lesser of their bits
pub record AreHalves (views : List View) (x y : ℕ) (halves : Halves) : Type 0 where
  pub bit : halves.bit ≡ lesser_bit views x y
  pub fits : halves.bit < 111
  pub first : IsSplit views halves.bit halves.x.low.at halves.x.high.at x
  pub second : IsSplit views halves.bit halves.y.low.at halves.y.high.at y
