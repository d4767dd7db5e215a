-- Regions of addresses that were made before, as a store goes on.
use Rattle.std.proofs.Common.{◌≡◌, List, [], ◌∷◌, ◌++◌, get_or, ◌∙◌}
use Rattle.std.specs.Prelude.{Bool}
use Rattle.std.proofs.lemmas.List.Elements.{All-push}
use Rattle.np_space.specs.declared.blocks.AddressField.{AddressField}
use Rattle.np_space.specs.declared.headers.Header.{Header}
use Rattle.np_space.specs.declared.patterns.Ternary.{Ternary}
use Rattle.np_region.specs.Keeping.{KeepsRegions}
use Rattle.np_cut.specs.declared.made_regions.Made.{Made}
use Rattle.np_cut.specs.Making.{AreMade, IsOfAddresses}

module _ {S R : Type 0} (fits : S → R → Type 0) (has : S → R → Header → Bool) where
  -- the region of addresses is theirs after a call that keeps it
  pub of_addresses_kept : (field : AddressField) (patterns : List Ternary) (s t : S) (x : R) → KeepsRegions fits has s t → IsOfAddresses fits has field patterns s x → IsOfAddresses fits has field patterns t x
  of_addresses_kept field patterns s t x k made = record { fit = k.fit x made.fit; exact = λ h. k.same x made.fit h ∙ made.exact h }

  -- so are all that were made
  pub made_kept : (s t : S) (all : List (Made R)) → KeepsRegions fits has s t → AreMade fits has s all → AreMade fits has t all
  made_kept s t all k each = λ i d l. let one = get_or all i d in of_addresses_kept one.field one.addresses s t one.region k (each i d l)

  -- and one more
  pub made_more : (s : S) (all : List (Made R)) (one : Made R) → AreMade fits has s all → IsOfAddresses fits has one.field one.addresses s one.region → AreMade fits has s (all ++ one ∷ [])
  made_more s all one each made = All-push (λ (m : Made R). IsOfAddresses fits has m.field m.addresses s m.region) all one each made
