-- What the store's calls keep of its regions, and which headers a node has.
use Rattle.std.proofs.Common.{◌≡◌, ◌<◌, Bool, true, false, List, length, refl, sym, ◌∙◌, ap, arith, inl, inr}
use Rattle.std.specs.Prelude.{◌&&◌, ◌⊎◌}
use Rattle.std.proofs.lemmas.Bool.{and_parts}
use Rattle.np_space.specs.Header.{is_valid_header, IsValid, has_widths, HasWidths}
use Rattle.np_space.specs.declared.headers.Header.{Header}
use Rattle.np_space.specs.Block.{address_number, block_has}
use Rattle.np_space.specs.Patterns.{any_pattern_has}
use Rattle.np_space.specs.declared.blocks.Block.{Block}
use Rattle.np_space.specs.declared.blocks.AddressField.{AddressField}
use Rattle.np_space.specs.declared.patterns.Ternary.{Ternary}
use Rattle.np_space.proofs.HeaderLemmas.{valid_widths}
use Rattle.np_region.specs.Keeping.{KeepsRegions}
use Rattle.np_bdd.specs.declared.views.Node.{Node}
use Rattle.np_bdd.specs.declared.views.View.{View}
use Rattle.np_bdd.specs.Views.{bits_of_header, leads_to_yes, node_has}
use Rattle.np_bdd.specs.Diagram.{IsRegion}
use Rattle.np_bdd.specs.Nodes.{KeepsNodes}
use Rattle.np_bdd.specs.Fields.{HasHeaders, AlwaysAnswers}
use Rattle.np_bdd.specs.declared.combining.Operation.{Operation}
use Rattle.np_bdd.specs.declared.combining.Operation.TheVariants.{Meet, Minus, Join}
use Rattle.np_bdd.specs.Combining.{combined, IsCombined}
use Rattle.np_bdd.proofs.HeaderOfBits.{widths_of, widths_true}
use Rattle.np_bdd.specs.Store.{IsValidNode}

-- a header whose fields are of their widths is in a node where its bits lead to Yes
pub node_leads : (views : List View) (x : Node) (h : Header) → HasWidths h → leads_to_yes views (bits_of_header h) x.at ≡ node_has views x h
node_leads views x h w = rw (widths_true h w) refl

-- ---- what is kept

pub node_kept : (old new : List View) → KeepsNodes old new → (x : Node) → x.at < length old → (h : Header) → node_has new x h ≡ node_has old x h
node_kept old new k x there h = ap (λ b. has_widths h && b) (k.same x.at there (bits_of_header h))

pub regions_kept : (old new : List View) → KeepsNodes old new → KeepsRegions IsRegion node_has old new
regions_kept old new k =
    record {
      fit = λ x r. record { there = k.there x.at r.there; only_valid = λ h has. r.only_valid h (sym (node_kept old new k x r.there h) ∙ has) };
      same = λ x r h. node_kept old new k x r.there h;
    }

pub valid_kept : (old new : List View) → KeepsNodes old new → (x : Node) → IsValidNode old x → IsValidNode new x
valid_kept old new k x v =
    record {
      starts = record { there = k.there x.at v.starts.there; from = rw (k.bit x.at v.starts.there) v.starts.from };
      exact = λ h w. k.same x.at v.starts.there (bits_of_header h) ∙ v.exact h w;
    }

-- ---- regions of given headers

-- a test that no header passes but valid ones
abbrev pub PassesValidAlone : (Header → Bool) → Type 0
PassesValidAlone test = (h : Header) → test h ≡ true → IsValid h

has_as_tested : (test : Header → Bool) → PassesValidAlone test → (h : Header) (leads : Bool) → (HasWidths h → leads ≡ test h) → (b : Bool) → has_widths h ≡ b → (b && leads) ≡ test h
has_as_tested test valid h leads e true w = e (widths_of h w)
has_as_tested test valid h leads e false w = out (test h) refl
  where
    out : (t : Bool) → test h ≡ t → false ≡ t
    out false p = refl
    out true p = sym w ∙ widths_true h (valid_widths h (valid h p))

pub has_exactly : (test : Header → Bool) → PassesValidAlone test → (views : List View) (x : Node) → HasHeaders test views x.at → (h : Header) → node_has views x h ≡ test h
has_exactly test valid views x e h = has_as_tested test valid h (leads_to_yes views (bits_of_header h) x.at) (e h) (has_widths h) refl

pub region_of : (test : Header → Bool) → PassesValidAlone test → (views : List View) (x : Node) → x.at < length views → HasHeaders test views x.at → IsRegion views x
region_of test valid views x there e = record { there = there; only_valid = λ h has. valid h (sym (has_exactly test valid views x e h) ∙ has) }

-- the valid headers of a block
pub block_valid : (b : Block) → PassesValidAlone (λ h. is_valid_header h && block_has b h)
block_valid b h p = (and_parts (is_valid_header h) (block_has b h) p).0

pub all_valid : PassesValidAlone is_valid_header
all_valid h p = p

pub has_valid : (views : List View) (x : Node) → HasHeaders is_valid_header views x.at → (h : Header) → node_has views x h ≡ is_valid_header h
has_valid views x e = has_exactly is_valid_header all_valid views x e

pub has_block : (b : Block) (views : List View) (x : Node) → HasHeaders (λ h. is_valid_header h && block_has b h) views x.at → (h : Header) → node_has views x h ≡ (is_valid_header h && block_has b h)
has_block b views x e = has_exactly (λ h. is_valid_header h && block_has b h) (block_valid b) views x e

-- the valid headers with one of many addresses
abbrev pub with_address : AddressField → List Ternary → Header → Bool
with_address field ps h = is_valid_header h && any_pattern_has ps (address_number field h)

address_valid : (field : AddressField) (ps : List Ternary) → PassesValidAlone (with_address field ps)
address_valid field ps h p = (and_parts (is_valid_header h) (any_pattern_has ps (address_number field h)) p).0

pub has_addresses : (field : AddressField) (ps : List Ternary) (views : List View) (x : Node) → HasHeaders (λ h. is_valid_header h && any_pattern_has ps (address_number field h)) views x.at
    → (h : Header) → node_has views x h ≡ (is_valid_header h && any_pattern_has ps (address_number field h))
has_addresses field ps views x e = has_exactly (with_address field ps) (address_valid field ps) views x e

pub addresses_region : (field : AddressField) (ps : List Ternary) (views : List View) (x : Node) → x.at < length views
    → HasHeaders (λ h. is_valid_header h && any_pattern_has ps (address_number field h)) views x.at → IsRegion views x
addresses_region field ps views x there e = region_of (with_address field ps) (address_valid field ps) views x there e

-- ---- what two regions are combined to

widths_of_both : (operation : Operation) (w x y : Bool) → (w && combined operation x y) ≡ combined operation (w && x) (w && y)
widths_of_both Meet true x y = refl
widths_of_both Meet false x y = refl
widths_of_both Minus true x y = refl
widths_of_both Minus false x y = refl
widths_of_both Join true x y = refl
widths_of_both Join false x y = refl

one_has : (operation : Operation) (x y : Bool) → combined operation x y ≡ true → (x ≡ true) ⊎ (y ≡ true)
one_has operation true y e = inl refl
one_has Meet false y e = inl e
one_has Minus false y e = inl e
one_has Join false y e = inr e

pub combined_has : (operation : Operation) (old new : List View) → KeepsNodes old new → (x y z : Node) → x.at < length old → y.at < length old → IsCombined operation new x.at y.at z.at
    → (h : Header) → node_has new z h ≡ combined operation (node_has old x h) (node_has old y h)
combined_has operation old new k x y z x_there y_there c h =
    ap (λ b. has_widths h && b) (c.exact (bits_of_header h))
    ∙ widths_of_both operation (has_widths h) (leads_to_yes new (bits_of_header h) x.at) (leads_to_yes new (bits_of_header h) y.at)
    ∙ (λ i. combined operation (node_kept old new k x x_there h i) (node_kept old new k y y_there h i))

valid_in_either : (old : List View) (x y : Node) → IsRegion old x → IsRegion old y → (h : Header) → (node_has old x h ≡ true) ⊎ (node_has old y h ≡ true) → IsValid h
valid_in_either old x y r s h (inl has) = r.only_valid h has
valid_in_either old x y r s h (inr has) = s.only_valid h has

pub combined_region : (operation : Operation) (old new : List View) → KeepsNodes old new → (x y z : Node) → IsRegion old x → IsRegion old y → IsCombined operation new x.at y.at z.at → IsRegion new z
combined_region operation old new k x y z r s c =
    record {
      there = c.there;
      only_valid =
          λ h has. valid_in_either old x y r s h (one_has operation (node_has old x h) (node_has old y h) (sym (combined_has operation old new k x y z r.there s.there c h) ∙ has));
    }

-- ---- a node from which no bits lead to Yes

pub has_none : (views : List View) (x : Node) → AlwaysAnswers false views x.at → (h : Header) → node_has views x h ≡ false
has_none views x none h = ap (λ b. has_widths h && b) (none.leads (bits_of_header h)) ∙ never (has_widths h)
  where
    never : (b : Bool) → (b && false) ≡ false
    never true = refl
    never false = refl

false_is_valid : (h : Header) → false ≡ true → IsValid h
false_is_valid h e = grind arith

pub none_region : (views : List View) (x : Node) → AlwaysAnswers false views x.at → IsRegion views x
none_region views x none = record { there = none.starts.there; only_valid = λ h has. false_is_valid h (sym (has_none views x none h) ∙ has) }
