-- How many lines of the report on goals are lines of hops.
use Rattle.std.proofs.Common.{◌≡◌, ℕ, suc, ◌+◌, ◌<◌, ◌≤◌, Bool, true, false, List, [], ◌∷◌, ◌++◌, length, get_or, drop, codes, refl, sym, ap, ◌∙◌, add-one, arith}
use Rattle.std.specs.Prelude.{count_by, if◌then◌else◌}
use Rattle.std.proofs.lemmas.List.{append_assoc, append-nil, drop_all}
use Rattle.std.proofs.lemmas.List.Sums.{sum_by-append}
use Rattle.std.proofs.Math.Seq.{drop-cons}
use Rattle.std.specs.Fmt.{decimal}
use Rattle.np_space.specs.declared.headers.Header.{Header}
use Rattle.np_net.specs.Plan.{Plan}
use Rattle.np_net.specs.declared.paths.Path.{Path}
use Rattle.np_net_text.specs.CanonicalText.{line_text}
use Rattle.np_goals.specs.declared.verdicts.Verdict.{Verdict}
use Rattle.np_goals.specs.declared.verdicts.Verdict.TheVariants.{Violated}
use Rattle.np_report.specs.Summary.{hop_count, is_hop_line, is_violated, summary_text}
use Rattle.np_report.specs.Verdicts.{all_hold, goals_lines, verdict_lines}
use Rattle.np_script.specs.Written.{header_words}
use Rattle.np_text.specs.Joined.{text_of_lines}
use Rattle.np_report.specs.Words.{hop_lines, hop_words}
use Rattle.np_report.proofs.TextLaws.{lines_appended}

-- how many of some items pass, and of others
counted_joined : {X : Type 0} (test : X → Bool) (xs ys : List X) → count_by test (xs ++ ys) ≡ count_by test xs + count_by test ys
counted_joined test xs ys = sum_by-append (λ x. if test x then 1 else 0) xs ys

-- each hop has a line
hops_counted : (net : Plan) (hops : List (ℕ × ℕ)) → count_by is_hop_line (hop_lines net hops) ≡ length hops
hops_counted net [] = refl
hops_counted net (hop ∷ hops) =
    counted_joined is_hop_line (hop_words net hop ∷ []) (hop_lines net hops)
    ∙ ap (λ n. 1 + n) (hops_counted net hops)
    ∙ omega arith

-- a goal that is violated has its path's hops
pub goal_hops : (net : Plan) (k : ℕ) (header : Header) (path : Path) → count_by is_hop_line (verdict_lines net k (Violated header path)) ≡ length path.hops
goal_hops net k header path =
    counted_joined is_hop_line ((codes "goal" ∷ decimal k ∷ codes "violated" ∷ header_words header) ∷ []) (hop_lines net path.hops)
    ∙ ap (λ n. 0 + n) (hops_counted net path.hops)
    ∙ omega arith

-- the hops of the goals that are left are those of the next one and of the others
pub hops_next : (net : Plan) (n k : ℕ) (verdicts : List Verdict) (d : Verdict) → n < length verdicts →
    count_by is_hop_line (goals_lines net k (drop n verdicts)) ≡ count_by is_hop_line (verdict_lines net k (get_or verdicts n d)) + count_by is_hop_line (goals_lines net (k + 1) (drop (n + 1) verdicts))
hops_next net n k verdicts d within =
    rw (add-one n, drop-cons verdicts n d within) (counted_joined is_hop_line (verdict_lines net k (get_or verdicts n d)) (goals_lines net (k + 1) (drop (suc n) verdicts)))

-- with the hops of the next goal counted, those of the goals after it are left
pub hops_step : (net : Plan) (n : ℕ) (verdicts : List Verdict) (d : Verdict) (count more all : ℕ) → n < length verdicts →
    count + count_by is_hop_line (goals_lines net (n + 1) (drop n verdicts)) ≡ all → count_by is_hop_line (verdict_lines net (n + 1) (get_or verdicts n d)) ≡ more →
    (count + more) + count_by is_hop_line (goals_lines net (n + 1 + 1) (drop (n + 1) verdicts)) ≡ all
hops_step net n verdicts d count more all within so_far here = let next = hops_next net n (n + 1) verdicts d within in omega arith

-- at the end none are left
pub hops_ended : (net : Plan) (n : ℕ) (verdicts : List Verdict) (count all : ℕ) → length verdicts ≤ n → count + count_by is_hop_line (goals_lines net (n + 1) (drop n verdicts)) ≡ all → all ≡ count
hops_ended net n verdicts count all past so_far = let whole = rw (drop_all n verdicts past) at so_far in omega arith

-- the last line is no hop's
pub all_hops : (net : Plan) (verdicts : List Verdict) → hop_count net verdicts ≡ count_by is_hop_line (goals_lines net 1 verdicts)
unfolding hop_count
all_hops net verdicts =
    counted_joined is_hop_line (goals_lines net 1 verdicts) (((if all_hold verdicts then codes "holds" else codes "fails") ∷ []) ∷ [])
    ∙ ap (λ n. count_by is_hop_line (goals_lines net 1 verdicts) + n) (none (all_hold verdicts))
    ∙ omega arith
  where
    none : (all : Bool) → count_by is_hop_line (((if all then codes "holds" else codes "fails") ∷ []) ∷ []) ≡ 0
    none true = refl
    none false = refl

-- five lines, appended one after another
five_lines : (o k l m n p : List ℕ) (a b c d e : List (List ℕ)) → o ≡ [] → k ≡ o ++ line_text a → l ≡ k ++ line_text b → m ≡ l ++ line_text c → n ≡ m ++ line_text d → p ≡ n ++ line_text e → p ≡ text_of_lines (a ∷ b ∷ c ∷ d ∷ e ∷ [])
five_lines o k l m n p a b c d e none first second third fourth fifth =
    rw (fifth, fourth, third, second, first, none) (joined (line_text a) (line_text b) (line_text c) (line_text d) (line_text e)) ∙ sym (lines_appended (a ∷ b ∷ c ∷ d ∷ e ∷ []))
  where
    joined : (a b c d e : List ℕ) → (((a ++ b) ++ c) ++ d) ++ e ≡ a ++ (b ++ (c ++ (d ++ (e ++ []))))
    joined a b c d e = simp (append_assoc, append-nil)

-- the line of the network's sizes
abbrev sizes_words : Plan → List (List ℕ)
sizes_words net =
    codes "areas" ∷ decimal (length net.areas) ∷ codes "devices" ∷ decimal (length net.devices)
    ∷ codes "interfaces" ∷ decimal (length net.interfaces) ∷ codes "goals" ∷ decimal (length net.goals) ∷ []

-- the five lines are the summary
pub summary_appended : (o k l m n p : List ℕ) (seed : ℕ) (net : Plan) (atoms : ℕ) (verdicts : List Verdict) (s v h : ℕ) → s ≡ seed → v ≡ count_by is_violated verdicts → hop_count net verdicts ≡ h →
    o ≡ [] → k ≡ o ++ line_text (codes "gen" ∷ decimal s ∷ []) → l ≡ k ++ line_text (sizes_words net) → m ≡ l ++ line_text (codes "atoms" ∷ decimal atoms ∷ [])
    → n ≡ m ++ line_text (codes "violated" ∷ decimal v ∷ []) → p ≡ n ++ line_text (codes "hops" ∷ decimal h ∷ []) → p ≡ summary_text seed net atoms verdicts
summary_appended o k l m n p seed net atoms verdicts s v h is_s is_v is_h none first second third fourth fifth =
    five_lines o k l m n p
    (codes "gen" ∷ decimal s ∷ []) (sizes_words net) (codes "atoms" ∷ decimal atoms ∷ []) (codes "violated" ∷ decimal v ∷ []) (codes "hops" ∷ decimal h ∷ [])
    none first second third fourth fifth
    ∙ ap (λ s. text_of_lines ((codes "gen" ∷ decimal s ∷ []) ∷ sizes_words net ∷ (codes "atoms" ∷ decimal atoms ∷ []) ∷ (codes "violated" ∷ decimal v ∷ []) ∷ (codes "hops" ∷ decimal h ∷ []) ∷ [])) is_s
    ∙ ap (λ v. text_of_lines ((codes "gen" ∷ decimal seed ∷ []) ∷ sizes_words net ∷ (codes "atoms" ∷ decimal atoms ∷ []) ∷ (codes "violated" ∷ decimal v ∷ []) ∷ (codes "hops" ∷ decimal h ∷ []) ∷ [])) is_v
    ∙ ap (λ h. text_of_lines ((codes "gen" ∷ decimal seed ∷ []) ∷ sizes_words net ∷ (codes "atoms" ∷ decimal atoms ∷ []) ∷ (codes "violated" ∷ decimal (count_by is_violated verdicts) ∷ []) ∷ (codes "hops" ∷ decimal h ∷ []) ∷ [])) (sym is_h)
