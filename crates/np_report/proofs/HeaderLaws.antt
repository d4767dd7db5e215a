-- How the words of a header, which are appended in three parts, leave the bytes when memory runs out.
use Rattle.std.proofs.Common.{◌≡◌, ℕ, List, [], ◌∷◌, ◌++◌, sym, ap, subst, ◌∙◌}
use Rattle.std.specs.Fmt.{decimal}
use Rattle.std.proofs.lemmas.Grind.{flat_map-append}
use Rattle.np_space.specs.Flag.{flag_number}
use Rattle.np_space.specs.declared.headers.Header.{Header}
use Rattle.np_text.specs.Addresses.{dotted}
use Rattle.np_text.specs.Appending.{AppendsFront}
use Rattle.np_text.proofs.AppendLaws.{AppendsFront-more, AppendsFront-after}
use Rattle.np_net_text.specs.CanonicalText.{spaced}
use Rattle.np_script.specs.Written.{dscp_words, header_words}

abbrev end_words : Header → List (List ℕ)
end_words h = dotted h.src ∷ dotted h.dst ∷ decimal h.proto ∷ []

abbrev number_words : Header → List (List ℕ)
number_words h = decimal h.a ∷ decimal h.b ∷ decimal (flag_number h.est) ∷ []

-- the three parts are all of them
parts : (h : Header) → spaced (header_words h) ≡ spaced (end_words h) ++ (spaced (number_words h) ++ spaced (dscp_words h.dscp))
parts h = flat_map-append (λ word. 32 ∷ word) (end_words h) (number_words h ++ dscp_words h.dscp) ∙ ap (λ t. spaced (end_words h) ++ t) (flat_map-append (λ word. 32 ∷ word) (number_words h) (dscp_words h.dscp))

-- the first part failed
pub ends_front : (h : Header) (old new : List ℕ) → AppendsFront old new (spaced (end_words h)) → AppendsFront old new (spaced (header_words h))
ends_front h old new front = subst (AppendsFront old new) (sym (parts h)) (AppendsFront-more (spaced (number_words h) ++ spaced (dscp_words h.dscp)) front)

-- the second part did
pub numbers_front : (h : Header) (old middle new : List ℕ) → middle ≡ old ++ spaced (end_words h) → AppendsFront middle new (spaced (number_words h)) → AppendsFront old new (spaced (header_words h))
numbers_front h old middle new ends front =
    subst (AppendsFront old new) (sym (parts h)) (AppendsFront-after old middle (spaced (end_words h)) ends (AppendsFront-more (spaced (dscp_words h.dscp)) front))

-- the third part did
pub dscp_front : (h : Header) (old middle last new : List ℕ) → middle ≡ old ++ spaced (end_words h) → last ≡ middle ++ spaced (number_words h) → AppendsFront last new (spaced (dscp_words h.dscp)) →
    AppendsFront old new (spaced (header_words h))
dscp_front h old middle last new ends numbers front =
    subst (AppendsFront old new) (sym (parts h)) (AppendsFront-after old middle (spaced (end_words h)) ends (AppendsFront-after middle last (spaced (number_words h)) numbers front))
