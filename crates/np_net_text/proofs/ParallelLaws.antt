-- The lines of two lists side by side: of interfaces with their slots' flags, and of interfaces with their tables.
use Rattle.std.proofs.Common.{◌≡◌, ℕ, ◌+◌, ◌-◌, ◌<◌, ◌≤◌, Bool, false, List, [], ◌∷◌, ◌++◌, length, codes, get_or, take, drop, refl, sym, ap, ◌∙◌, append_assoc, append-nil, arith, suc, add-one}
use Rattle.std.proofs.Math.Seq.{take-length, drop-cons}
use Rattle.std.proofs.lemmas.List.{drop_all}
use Rattle.std.proofs.lemmas.Grind.{flat_map-append}
use Rattle.np_net.specs.Network.{AreTables, IsTable}
use Rattle.np_net.specs.Plan.{Plan}
use Rattle.np_net.specs.declared.filtering.Interface.{Interface}
use Rattle.np_net.specs.declared.associations.Sa.{Sa}
use Rattle.np_net.specs.declared.associations.Table.{Table}
use Rattle.np_net_text.specs.Canonical.{slot_line, free_lines, table_lines, rule_lines}
use Rattle.np_net_text.specs.CanonicalText.{line_text, lines_text}

-- ---- what is appended, with what is left

abbrev Lines : Type 0
Lines = List (List (List ℕ))

-- the next lines are appended
pub left_step : (out next whole : List ℕ) (lines left : Lines) → out ++ lines_text (lines ++ left) ≡ whole → next ≡ out ++ lines_text lines → next ++ lines_text left ≡ whole
left_step out next whole lines left before new =
    ap (λ text. text ++ lines_text left) new
    ∙ append_assoc out (lines_text lines) (lines_text left)
    ∙ ap (λ text. out ++ text) (sym (flat_map-append line_text lines left))
    ∙ before

-- no line is left
pub none_left : (out whole : List ℕ) (left : Lines) → out ++ lines_text left ≡ whole → left ≡ [] → out ≡ whole
none_left out whole left before none = sym (append-nil out) ∙ ap (λ lines. out ++ lines_text lines) (sym none) ∙ before

-- the item at this index, and those after it
pub drop-item : {X : Type 0} (xs : List X) (i : ℕ) (x : X) → i < length xs → x ≡ get_or xs i x → drop i xs ≡ x ∷ drop (i + 1) xs
drop-item xs i x lt e = rw (add-one i) (drop-cons xs i x lt ∙ ap (λ y. y ∷ drop (suc i) xs) (sym e))

-- ---- interfaces and flags

pub free_lines-short : (net : Plan) (interfaces : List Interface) (flags : List Bool) → length flags < 2 → free_lines net interfaces flags ≡ []
free_lines-short net [] flags h = refl
free_lines-short net (interface ∷ interfaces) [] h = refl
free_lines-short net (interface ∷ interfaces) (inward ∷ []) h = refl
free_lines-short net (interface ∷ interfaces) (inward ∷ outward ∷ flags) h = absurd (omega arith)

pub free_lines-end : (net : Plan) (interfaces : List Interface) (i : ℕ) (flags : List Bool) → length interfaces ≤ i → free_lines net (drop i interfaces) flags ≡ []
free_lines-end net interfaces i flags h = rw (drop_all i interfaces h) refl

free_lines-first : (net : Plan) (interface : Interface) (interfaces : List Interface) (flags : List Bool) → 2 ≤ length flags → free_lines net (interface ∷ interfaces) flags ≡ slot_line net interface (codes "in") (get_or flags 0 false) ++ (slot_line net interface (codes "out") (get_or flags 1 false) ++ free_lines net interfaces (take (length flags - 2) (drop 2 flags)))
free_lines-first net interface interfaces [] h = absurd (omega arith)
free_lines-first net interface interfaces (inward ∷ []) h = absurd (omega arith)
free_lines-first net interface interfaces (inward ∷ outward ∷ flags) h =
    let n : length (inward ∷ outward ∷ flags) - 2 ≡ length flags = omega arith in rw (n, take-length flags) refl

pub free_lines-step : (net : Plan) (interfaces : List Interface) (i : ℕ) (interface : Interface) (flags : List Bool) → i < length interfaces → interface ≡ get_or interfaces i interface → 2 ≤ length flags → free_lines net (drop i interfaces) flags ≡ slot_line net interface (codes "in") (get_or flags 0 false) ++ (slot_line net interface (codes "out") (get_or flags 1 false) ++ free_lines net (drop (i + 1) interfaces) (take (length flags - 2) (drop 2 flags)))
free_lines-step net interfaces i interface flags lt e h = rw (drop-item interfaces i interface lt e) (free_lines-first net interface (drop (i + 1) interfaces) flags h)

-- ---- interfaces and tables

pub rule_lines-short : (net : Plan) (interfaces : List Interface) (tables : List Table) → length tables < 1 → rule_lines net interfaces tables ≡ []
rule_lines-short net [] tables h = refl
rule_lines-short net (interface ∷ interfaces) [] h = refl
rule_lines-short net (interface ∷ interfaces) (table ∷ tables) h = absurd (omega arith)

pub rule_lines-end : (net : Plan) (interfaces : List Interface) (i : ℕ) (tables : List Table) → length interfaces ≤ i → rule_lines net (drop i interfaces) tables ≡ []
rule_lines-end net interfaces i tables h = rw (drop_all i interfaces h) refl

rule_lines-first : (net : Plan) (interface : Interface) (interfaces : List Interface) (tables : List Table) (table : Table) → 1 ≤ length tables → table ≡ get_or tables 0 table → rule_lines net (interface ∷ interfaces) tables ≡ table_lines net interface table ++ rule_lines net interfaces (take (length tables - 1) (drop 1 tables))
rule_lines-first net interface interfaces [] table h e = absurd (omega arith)
rule_lines-first net interface interfaces (first ∷ tables) table h e =
    let same : table ≡ first = e in
    let n : length (first ∷ tables) - 1 ≡ length tables = omega arith in
    rw (same, n, take-length tables) refl

pub rule_lines-step : (net : Plan) (interfaces : List Interface) (i : ℕ) (interface : Interface) (tables : List Table) (table : Table) → i < length interfaces → interface ≡ get_or interfaces i interface → 1 ≤ length tables → table ≡ get_or tables 0 table → rule_lines net (drop i interfaces) tables ≡ table_lines net interface table ++ rule_lines net (drop (i + 1) interfaces) (take (length tables - 1) (drop 1 tables))
rule_lines-step net interfaces i interface tables table lt e h f = rw (drop-item interfaces i interface lt e) (rule_lines-first net interface (drop (i + 1) interfaces) tables table h f)

-- the tables that are left, where there is one
AreTables-first : (sas : List Sa) (interface : Interface) (interfaces : List Interface) (tables : List Table) (table : Table) → AreTables sas (interface ∷ interfaces) tables → 1 ≤ length tables → table ≡ get_or tables 0 table → IsTable sas interface.device table × AreTables sas interfaces (take (length tables - 1) (drop 1 tables))
AreTables-first sas interface interfaces [] table all h e = absurd (omega arith)
AreTables-first sas interface interfaces (first ∷ tables) table all h e =
    let same : table ≡ first = e in
    let n : length (first ∷ tables) - 1 ≡ length tables = omega arith in
    rw (same, n, take-length tables) all

pub AreTables-step : (sas : List Sa) (interfaces : List Interface) (i : ℕ) (interface : Interface) (tables : List Table) (table : Table) → AreTables sas (drop i interfaces) tables → i < length interfaces → interface ≡ get_or interfaces i interface → 1 ≤ length tables → table ≡ get_or tables 0 table → IsTable sas interface.device table × AreTables sas (drop (i + 1) interfaces) (take (length tables - 1) (drop 1 tables))
AreTables-step sas interfaces i interface tables table all lt e h f =
    AreTables-first sas interface (drop (i + 1) interfaces) tables table (rw (drop-item interfaces i interface lt e) at all) h f
