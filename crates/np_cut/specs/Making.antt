-- Regions of addresses that were made before.
use Rattle.std.specs.Prelude.{◌≡◌, ℕ, Bool, ◌&&◌, List}
use Rattle.std.specs.List.{All}
use Rattle.np_space.specs.Block.{address_number}
use Rattle.np_space.specs.Header.{is_valid_header}
use Rattle.np_space.specs.Patterns.{any_pattern_has}
use Rattle.np_space.specs.declared.blocks.AddressField.{AddressField}
use Rattle.np_space.specs.declared.headers.Header.{Header}
use Rattle.np_space.specs.declared.patterns.Ternary.{Ternary}
use Rattle.np_cut.specs.declared.made_regions.Made.{Made}

-- a region that fits, of exactly the valid headers whose address of this kind is in one of the patterns
pub record IsOfAddresses {S R : Type 0} (fits : S → R → Type 0) (has : S → R → Header → Bool) (field : AddressField) (patterns : List Ternary) (s : S) (x : R) : Type 0 where
  pub fit : fits s x
  pub exact : (h : Header) → has s x h ≡ (is_valid_header h && any_pattern_has patterns (address_number field h))

-- each of these regions is that of its addresses
abbrev pub AreMade : {S R : Type 0} → (S → R → Type 0) → (S → R → Header → Bool) → S → List (Made R) → Type 0
AreMade fits has s all = All (λ one. IsOfAddresses fits has one.field one.addresses s one.region) all
