-- What the headers of nodes say of their places.
use Rattle.std.proofs.Common.{◌≡◌, ◌<◌, Bool, true, false, List, [], ◌∷◌, length, slice_get, Some, refl, sym, ◌∙◌, ap, arith}
use Rattle.std.specs.Prelude.{◌&&◌}
use Rattle.np_space.specs.Header.{has_widths}
use Rattle.np_space.specs.declared.headers.Header.{Header}
use Rattle.np_bdd.specs.declared.views.Node.{Node}
use Rattle.np_bdd.specs.declared.views.View.{View}
use Rattle.np_bdd.specs.declared.views.View.TheVariants.{No}
use Rattle.np_bdd.specs.Views.{Bits, bits_of_header, view_at, leads_to_yes, node_has}
use Rattle.np_bdd.specs.Diagram.{IsDiagram}
use Rattle.np_bdd.proofs.PlaceLemmas.{leads_at_no}
use Rattle.np_bdd.proofs.CanonicalLaws.{reads_from, alike_same}
use Rattle.np_bdd.proofs.HeaderOfBits.{header_of, header_widths, header_of_bits, widths_true}

-- where the header of the bits leads, the bits lead
leads_as_header : (views : List View) → IsDiagram views → (f : Bits) (x : Node) → x.at < length views → node_has views x (header_of f) ≡ leads_to_yes views f x.at
leads_as_header views d f x there =
    ap (λ w. w && leads_to_yes views (bits_of_header (header_of f)) x.at) (widths_true (header_of f) (header_widths f))
    ∙ reads_from views d 0 (bits_of_header (header_of f)) f (λ i m l. header_of_bits f i l) x.at there (omega arith)

-- nodes with the same headers stand at the same place
pub same_headers : (views : List View) → IsDiagram views → (x y : Node) → x.at < length views → y.at < length views → ((h : Header) → node_has views x h ≡ node_has views y h) → x.at ≡ y.at
same_headers views d x y tx ty same =
    alike_same views d x.at y.at tx ty (λ f. sym (leads_as_header views d f x tx) ∙ same (header_of f) ∙ leads_as_header views d f y ty)

-- ---- nodes without headers

-- what stands first in a list
pub first_view : (views : List View) → slice_get views 0 ≡ Some No → (view_at views 0 ≡ No) × (0 < length views)
first_view [] e = absurd (cc)
first_view (v ∷ views) e = let same : v ≡ No = cc in (same, omega arith)

-- No has none
pub no_headers : (views : List View) → IsDiagram views → (x : Node) → x.at ≡ 0 → (h : Header) → node_has views x h ≡ false
no_headers views d x e h =
    ap (λ n. has_widths h && leads_to_yes views (bits_of_header h) n) e
    ∙ ap (λ b. has_widths h && b) (leads_at_no views (bits_of_header h) 0 (first_view views d.no_first).0)
    ∙ never (has_widths h)
  where
    never : (b : Bool) → (b && false) ≡ false
    never false = refl
    never true = refl

-- and is the only node that has none
pub none_is_no : (views : List View) → IsDiagram views → (x : Node) → x.at < length views → ((h : Header) → node_has views x h ≡ false) → x.at ≡ 0
none_is_no views d x there none =
    same_headers views d x (record { at = 0 }) there (first_view views d.no_first).1 (λ h. none h ∙ sym (no_headers views d (record { at = 0 }) refl h))
