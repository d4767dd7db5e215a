-- The files of a shelf in memory, after one more is put behind them.
use Rattle.std.proofs.Common.{◌≡◌, ℕ, zero, suc, ◌+◌, ◌<◌, Bool, true, false, cond, List, [], ◌∷◌, ◌++◌, Option, Some, None, IfSome, map, reverse, length, get_or, take, drop, refl, sym, ap, ◌∙◌, arith}
use Rattle.std.specs.Option.{option_map, ForSome}
use Rattle.std.specs.Ordering.{nat_cmp}
use Rattle.std.specs.Str.{bytes_eq}
use Rattle.std.specs.Cmp.Lexicographic.{slice_cmp, nat_list_cmp_total, texts_ties}
use Rattle.std.specs.FinMap.{get, insert, empty, from_entries, get-insert}
use Rattle.std.proofs.lemmas.List.{map-append, reverse-append, take_more}
use Rattle.np_outside.specs.Files.{Files}
use Rattle.np_outside.specs.MemFiles.{entry, files_of, bytes_at, rest_of}
use Rattle.np_outside.specs.declared.mem_shelf.NamedFile.{NamedFile}
use Rattle.np_outside.specs.declared.mem_shelf.Place.{Place}

pub files_of-nil : files_of [] ≡ empty
unfolding files_of
files_of-nil = refl

pub files_of-push : (fs : List NamedFile) (f : NamedFile) → files_of (fs ++ f ∷ []) ≡ insert (files_of fs) f.name.items f.bytes.items
unfolding files_of
files_of-push fs f =
    ap (λ (es : List (List ℕ × List ℕ)). from_entries {R = slice_cmp nat_cmp} es)
    (ap (λ (es : List (List ℕ × List ℕ)). reverse es) (map-append entry fs (f ∷ [])) ∙ reverse-append (map entry fs) (entry f ∷ []))

-- a file behind the others is found under its name, and the others under theirs
pub get-files_of-push : (fs : List NamedFile) (f : NamedFile) (name : List ℕ)
    → get (files_of (fs ++ f ∷ [])) name ≡ cond (bytes_eq name f.name.items) (Some f.bytes.items) (get (files_of fs) name)
get-files_of-push fs f name =
    ap (λ (m : Files). get m name) (files_of-push fs f)
    ∙ get-insert nat_list_cmp_total (files_of fs) f.name.items f.bytes.items name
    ∙ ap (λ (b : Bool). cond b (Some f.bytes.items) (get (files_of fs) name)) (sym (texts_ties name f.name.items))

-- the files before it keep their bytes
pub bytes_at-append : (fs more : List NamedFile) (i : ℕ) → i < length fs → bytes_at (fs ++ more) i ≡ bytes_at fs i
unfolding bytes_at
bytes_at-append [] more i within = absurd (omega arith)
bytes_at-append (f ∷ fs) more zero within = refl
bytes_at-append (f ∷ fs) more (suc i) within = bytes_at-append fs more i (omega arith)

pub bytes_at-get_or : (fs : List NamedFile) (i : ℕ) (f : NamedFile) → i < length fs → bytes_at fs i ≡ (get_or fs i f).bytes.items
unfolding bytes_at
bytes_at-get_or [] i f within = absurd (omega arith)
bytes_at-get_or (g ∷ fs) zero f within = refl
bytes_at-get_or (g ∷ fs) (suc i) f within = bytes_at-get_or fs i f (omega arith)

one_of : (b : Bool) (fs : List NamedFile) (i : ℕ) (bytes : List ℕ) (found : Option ℕ) → bytes_at fs i ≡ bytes
    → cond b (Some bytes) (option_map (bytes_at fs) found) ≡ option_map (bytes_at fs) (cond b (Some i) found)
one_of true fs i bytes found is = ap Some (sym is)
one_of false fs i bytes found is = refl

-- the search for a name, one file further
pub found_further : (fs : List NamedFile) (i : ℕ) (f : NamedFile) (name : List ℕ) (found : Option ℕ) (same : Bool) (text : List ℕ) → i < length fs → f ≡ get_or fs i f
    → same ≡ bytes_eq name text → text ≡ f.name.items → get (files_of (take i fs)) name ≡ option_map (bytes_at fs) found
    → get (files_of (take (i + 1) fs)) name ≡ option_map (bytes_at fs) (cond same (Some i) found)
found_further fs i f name found same text within read tested named before =
    ap (λ (xs : List NamedFile). get (files_of xs) name) (take_more fs i f within ∙ ap (λ (g : NamedFile). take i fs ++ g ∷ []) (sym read))
    ∙ get-files_of-push (take i fs) f name
    ∙ ap (λ (rest : Option (List ℕ)). cond (bytes_eq name f.name.items) (Some f.bytes.items) rest) before
    ∙ ap (λ (b : Bool). cond b (Some f.bytes.items) (option_map (bytes_at fs) found)) (sym (tested ∙ ap (bytes_eq name) named))
    ∙ one_of same fs i f.bytes.items found (bytes_at-get_or fs i f within ∙ ap (λ (g : NamedFile). g.bytes.items) (sym read))

-- files that a push may have failed to add to keep their bytes
pub bytes_at-maybe : (added : Bool) (fs more : List NamedFile) (i : ℕ) → i < length fs → bytes_at (cond added (fs ++ more) fs) i ≡ bytes_at fs i
bytes_at-maybe true fs more i within = bytes_at-append fs more i within
bytes_at-maybe false fs more i within = refl

-- and so does the file that is begun
pub rest_of-append : (fs : List NamedFile) (begun : Option Place) → ForSome begun (λ p. p.file < length fs) → (more : List NamedFile) → rest_of (fs ++ more) begun ≡ rest_of fs begun
rest_of-append fs None there more = refl
rest_of-append fs (Some p) there more = ap (λ (bytes : List ℕ). Some (drop p.at bytes)) (bytes_at-append fs more p.file (there p refl))

-- what a push of a file leaves of both
pub pushed : (fs now : List NamedFile) (f : NamedFile) (begun : Option Place) (name bytes : List ℕ) → now ≡ fs ++ f ∷ [] → f.name.items ≡ name → f.bytes.items ≡ bytes
    → ForSome begun (λ p. p.file < length fs) → (files_of now ≡ insert (files_of fs) name bytes) × (rest_of now begun ≡ rest_of fs begun)
pushed fs now f begun name bytes is named filled there = (
  ap files_of is ∙ files_of-push fs f ∙ ap (λ (key : List ℕ). insert (files_of fs) key f.bytes.items) named ∙ ap (λ (value : List ℕ). insert (files_of fs) name value) filled,
  ap (λ (xs : List NamedFile). rest_of xs begun) is ∙ rest_of-append fs begun there (f ∷ []),
)

-- an index that was found stays below the next one
pub below_next : (found : Option ℕ) (i : ℕ) → IfSome found (λ k. k < i) → IfSome found (λ k. k < i + 1)
below_next None i below = tt
below_next (Some k) i below = omega arith
