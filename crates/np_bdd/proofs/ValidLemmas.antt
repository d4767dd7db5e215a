-- The headers of combined places, and those of blocks that are joined one after another.
use Rattle.std.proofs.Common.{◌≡◌, ℕ, ◌+◌, ◌<◌, ◌≤◌, ◌^◌, Bool, true, false, List, [], ◌∷◌, length, take, get_or, refl, sym, ◌∙◌, ap, arith}
use Rattle.std.specs.Prelude.{◌&&◌, ◌||◌, map}
use Rattle.std.specs.List.{list_any}
use Rattle.std.proofs.lemmas.Bool.{lt-ltb}
use Rattle.std.proofs.lemmas.List.{take_all}
use Rattle.std.proofs.lemmas.List.Folds.{list_any_more}
use Rattle.np_space.specs.Block.{block_has, block_numbers, anywhere, valid_table, any_has}
use Rattle.np_space.specs.Flag.{flag_number}
use Rattle.np_space.specs.Span.{span_has}
use Rattle.np_space.specs.Header.{HasWidths, is_valid_header}
use Rattle.np_space.specs.Ternary.{pattern_has, ternary_has}
use Rattle.np_space.specs.declared.headers.Header.{Header}
use Rattle.np_space.specs.declared.patterns.Ternary.{Ternary}
use Rattle.np_space.specs.declared.blocks.Block.{Block}
use Rattle.np_space.proofs.MadeLemmas.{widest_has}
use Rattle.np_bdd.specs.declared.views.View.{View}
use Rattle.np_bdd.specs.declared.combining.Operation.{Operation}
use Rattle.np_bdd.specs.Views.{bits_of_header}
use Rattle.np_bdd.specs.Combining.{combined, IsCombined}
use Rattle.np_bdd.specs.Nodes.{KeepsNodes, StartsAt}
use Rattle.np_bdd.specs.Fields.{AlwaysAnswers, HasHeaders, lower_has}
use Rattle.np_bdd.proofs.KeepingLemmas.{keeps_nodes_itself, keeps_nodes_chained}
use Rattle.np_bdd.proofs.FieldLemmas.{starts_kept, headers_kept}

-- ---- two places

-- what they are combined to starts where both do
pub combined_starts : (operation : Operation) (bit : ℕ) (old new : List View) (x y z : ℕ) → KeepsNodes old new → StartsAt old bit x → StartsAt old bit y
    → IsCombined operation new x y z → StartsAt new bit z
combined_starts operation bit old new x y z kept sx sy is = record {
  there = is.there;
  from = is.from bit (starts_kept old new bit x kept sx).from (starts_kept old new bit y kept sy).from;
}

-- and has the headers of which the operation says so
pub combined_has : (operation : Operation) (first second : Header → Bool) (old new : List View) (x y z : ℕ) → KeepsNodes old new → x < length old → y < length old
    → HasHeaders first old x → HasHeaders second old y → IsCombined operation new x y z → HasHeaders (λ h. combined operation (first h) (second h)) new z
combined_has operation first second old new x y z kept x_there y_there x_has y_has is h w =
    is.exact (bits_of_header h)
    ∙ (λ i. combined operation (headers_kept first old new x kept x_there x_has h w i) (headers_kept second old new y kept y_there y_has h w i))

-- ---- blocks with any addresses

-- every address is in a pattern without fixed bits
any_true : (p : Ternary) (x : ℕ) → p.value ≡ 0 → p.wild ≡ 0xffff_ffff → x < 2 ^ 32 → ternary_has p x ≡ true
any_true p x value wild l = (λ i. pattern_has (value i) (wild i) x) ∙ widest_has x ∙ lt-ltb x (2 ^ 32) l

-- so such a block has what its other fields have
anywhere_lower : (b : Block) (h : Header) (first last most flags : ℕ) → block_numbers b ≡ anywhere first last most flags → HasWidths h → block_has b h ≡ lower_has b h
unfolding block_has
anywhere_lower b h first last most flags e w =
    let src_value : b.src.value ≡ 0 = cc in
    let src_wild : b.src.wild ≡ 0xffff_ffff = cc in
    let dst_value : b.dst.value ≡ 0 = cc in
    let dst_wild : b.dst.wild ≡ 0xffff_ffff = cc in
    with_addresses (span_has b.proto h.proto) (span_has b.a h.a) (span_has b.b h.b) (span_has b.est (flag_number h.est)) (span_has b.dscp h.dscp)
    (any_true b.src h.src src_value src_wild w.src) (any_true b.dst h.dst dst_value dst_wild w.dst)
  where
    with_addresses : {s d : Bool} (p a b e c : Bool) → s ≡ true → d ≡ true → (s && d && p && a && b && e && c) ≡ (p && a && b && e && c)
    with_addresses p a b e c es ed = λ i. es i && ed i && p && a && b && e && c

-- the rows of a table are of blocks with any addresses
data AreAnywhere : List (List ℕ) → Type 0 where
  none : AreAnywhere []
  more : {first last most flags : ℕ} {rows : List (List ℕ)} → AreAnywhere rows → AreAnywhere (anywhere first last most flags ∷ rows)

-- those of the valid headers are
valid_anywhere : AreAnywhere valid_table
valid_anywhere = more (more (more (more (more (more (more none))))))

-- some of the blocks has the fields after the addresses
abbrev pub any_lower : List Block → Header → Bool
any_lower blocks h = list_any (λ b. lower_has b h) blocks

-- so it is where some block has the header
lower_any : (blocks : List Block) (rows : List (List ℕ)) → map block_numbers blocks ≡ rows → AreAnywhere rows → (h : Header) → HasWidths h → any_lower blocks h ≡ any_has blocks h
lower_any [] rows e any h w = refl
lower_any (b ∷ blocks) [] e any h w = absurd (cc)
lower_any (b ∷ blocks) (_ ∷ rows) e (more {first = first} {last = last} {most = most} {flags = flags} any) h w =
    let here : block_numbers b ≡ anywhere first last most flags = cc in
    let there : map block_numbers blocks ≡ rows = cc in
    λ i. sym (anywhere_lower b h first last most flags here w) i || lower_any blocks rows there any h w i

-- ---- the loop

-- the node so far is of the blocks that were joined
pub record IsJoined (blocks : List Block) (k : ℕ) (old views : List View) (x : ℕ) : Type 0 where
  pub kept : KeepsNodes old views
  pub starts : StartsAt views 64 x
  pub has : HasHeaders (any_lower (take k blocks)) views x

-- before the first
pub joined_none : (blocks : List Block) (old : List View) (x : ℕ) → AlwaysAnswers false old x → IsJoined blocks 0 old old x
joined_none blocks old x never = record {
  kept = keeps_nodes_itself old;
  starts = record { there = never.starts.there; from = omega (arith, never.starts.from) };
  has = λ h w. never.leads (bits_of_header h);
}

-- after one more
pub joined_more : (blocks : List Block) (k : ℕ) (d : Block) (old views new : List View) (x z : ℕ) → k < length blocks → IsJoined blocks k old views x
    → KeepsNodes views new → StartsAt new 64 z → HasHeaders (λ h. any_lower (take k blocks) h || lower_has (get_or blocks k d) h) new z → IsJoined blocks (k + 1) old new z
joined_more blocks k d old views new x z within joined kept starts has = record {
  kept = keeps_nodes_chained old views new joined.kept kept;
  starts = starts;
  has = λ h w. has h w ∙ sym (list_any_more (λ b. lower_has b h) blocks k d within);
}

-- after the last
pub joined_all : (blocks : List Block) (k : ℕ) (old views : List View) (x : ℕ) → map block_numbers blocks ≡ valid_table → ((h : Header) → any_has blocks h ≡ is_valid_header h)
    → length blocks ≤ k → IsJoined blocks k old views x → HasHeaders is_valid_header views x
joined_all blocks k old views x listed together last joined h w =
    joined.has h w ∙ ap (λ bs. any_lower bs h) (take_all k blocks last) ∙ lower_any blocks valid_table listed valid_anywhere h w ∙ together h
