-- What is cut out of the valid headers, an entry of a list at a time.
use Rattle.std.specs.Prelude.{◌≡◌, Bool, ◌&&◌, List}
use Rattle.np_space.specs.Header.{is_valid_header}
use Rattle.np_space.specs.declared.headers.Header.{Header}
use Rattle.np_space.specs.declared.spans.Span.{Span}
use Rattle.np_acl.specs.declared.entries.Entry.{Entry}
use Rattle.np_acl.specs.Entries.{entry_matches, any_matches, first_says}
use Rattle.np_region.specs.Keeping.{KeepsRegions}

-- what an entry would match with these spans for its ports
abbrev pub matches_with : Entry → List Span → List Span → Header → Bool
matches_with e a b h = entry_matches (record e { a = a; b = b }) h

-- Between two stores the regions are kept, and this one has exactly the headers that pass the test.
pub record IsRegionOf {S R : Type 0} (fits : S → R → Type 0) (has : S → R → Header → Bool) (test : Header → Bool) (old new : S) (x : R) : Type 0 where
  pub kept : KeepsRegions fits has old new
  pub fit : fits new x
  pub exact : (h : Header) → has new x h ≡ test h

-- two regions that fit: of the valid headers those that some of the entries matches, and those that the entries permit
pub record IsPartOf {S R : Type 0} (fits : S → R → Type 0) (has : S → R → Header → Bool) (s : S) (entries : List Entry) (matched permitted : R) : Type 0 where
  pub matched_fits : fits s matched
  pub permitted_fits : fits s permitted
  pub matches : (h : Header) → has s matched h ≡ (is_valid_header h && any_matches entries h)
  pub permits : (h : Header) → has s permitted h ≡ (is_valid_header h && first_says entries h)
