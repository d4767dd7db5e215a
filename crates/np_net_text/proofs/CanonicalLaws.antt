-- The canonical text of a network, word by word and line by line, is that of its definition.
use Rattle.std.proofs.Common.{◌≡◌, ℕ, ◌<◌, ◌≤◌, Bool, false, List, [], ◌∷◌, ◌++◌, length, get_or, take, refl, sym, ap, subst, ◌∙◌, append_assoc, arith, zero, suc}
use Rattle.std.specs.List.{flat_map, AllByRecursion}
use Rattle.std.proofs.lemmas.List.{take_all}
use Rattle.std.proofs.lemmas.List.Folds.{flat_map-map}
use Rattle.std.proofs.lemmas.Grind.{flat_map-append}
use Rattle.np_text.specs.Joined.{joined_line, text_of_lines}
use Rattle.np_text.proofs.JoinedLaws.{join_with_byte-flat_map}
use Rattle.np_pred.specs.declared.predicate.Pred.{Pred}
use Rattle.np_pred.specs.Canonical.{pred_words, pred_text}
use Rattle.np_pred.proofs.CanonicalLaws.{IsWritten, written_inductive}
use Rattle.np_pred.proofs.Induction.{by_induction}
use Rattle.np_net.specs.Plan.{Plan}
use Rattle.np_net.specs.declared.filtering.Area.{Area}
use Rattle.np_net.specs.declared.filtering.Device.{Device}
use Rattle.np_net.specs.declared.filtering.Goal.{Goal}
use Rattle.np_net.specs.declared.filtering.Interface.{Interface}
use Rattle.np_net.specs.declared.associations.IpGoal.{IpGoal}
use Rattle.np_net.specs.declared.associations.Sa.{Sa}
use Rattle.np_net.specs.declared.associations.Table.{Table}
use Rattle.np_net_text.specs.Canonical as canonical
use Rattle.np_net_text.specs.CanonicalText.{spaced, line_text, lines_text}

-- a predicate has words, and so its text after a space is each of its words after one
pub spaced_pred : (p : Pred) → spaced (pred_words p) ≡ 32 ∷ pred_text p
spaced_pred p = let some = (by_induction IsWritten written_inductive p).0 in rw some.2 (ap (λ text. 32 ∷ text) (sym (join_with_byte-flat_map 32 some.0 some.1)))

-- ---- lines

pub line_text-joined : (words : List (List ℕ)) → line_text words ≡ joined_line false words ++ 10 ∷ []
line_text-joined [] = refl
line_text-joined (word ∷ words) =
    rw (join_with_byte-flat_map 32 word words) (sym (append_assoc word (spaced words) (10 ∷ [])))

pub lines_text-joined : (lines : List (List (List ℕ))) → lines_text lines ≡ text_of_lines lines
lines_text-joined [] = refl
lines_text-joined (words ∷ lines) = rw (line_text-joined words, lines_text-joined lines) refl

pub lines_text-append : (before behind : List (List (List ℕ))) → lines_text (before ++ behind) ≡ lines_text before ++ lines_text behind
lines_text-append before behind = flat_map-append line_text before behind

-- the whole text is that of the filtering part, and after it that of the IPsec part
pub net_text-parts : (net : Plan) → canonical.net_text net ≡ lines_text (canonical.filtering_lines net) ++ lines_text (canonical.ipsec_lines net)
net_text-parts net = sym (lines_text-joined (canonical.net_lines net)) ∙ lines_text-append (canonical.filtering_lines net) (canonical.ipsec_lines net)

-- ---- the rules of an interface

pub table_text : (net : Plan) (interface : Interface) (table : Table) → lines_text (canonical.table_lines net interface table) ≡ flat_map (λ sa. line_text (canonical.pop_words net interface sa)) table.pops ++ (flat_map (λ rule. line_text (canonical.in_rule_words net interface rule)) table.ins ++ flat_map (λ rule. line_text (canonical.out_rule_words net interface rule)) table.outs)
table_text net interface table = simp (flat_map-append, flat_map-map)

-- ---- what holds of each item holds of the one at this index

pub AllByRecursion-at : {X : Type 0} (P : X → Type 0) (xs : List X) (i : ℕ) (x : X) → AllByRecursion P xs → i < length xs → x ≡ get_or xs i x → P x
AllByRecursion-at P [] i x all lt e = absurd (omega arith)
AllByRecursion-at P (y ∷ ys) zero x all lt e = subst P (sym e) all.0
AllByRecursion-at P (y ∷ ys) (suc i) x all lt e = AllByRecursion-at P ys i x all.1 (omega arith) e

-- ---- one text after another

pub appended-three : (o a b d k l m : List ℕ) → k ≡ o ++ a → l ≡ k ++ b → m ≡ l ++ d → m ≡ o ++ (a ++ (b ++ d))
appended-three o a b d k l m first second third = rw (third, second, first) (simp append_assoc)

-- ---- the two parts, group by group

pub filtering_text : (net : Plan) →
    lines_text (canonical.filtering_lines net) ≡
    line_text (canonical.depth_words net.depth) ++
    (flat_map (λ area. line_text (canonical.area_words area)) net.areas ++
    (flat_map (λ device. line_text (canonical.device_words device)) net.devices ++
    (flat_map (λ interface. line_text (canonical.interface_words net interface)) net.interfaces ++
    (lines_text (canonical.free_lines net net.interfaces net.free) ++
    flat_map (λ goal. line_text (canonical.goal_words net goal)) net.goals))))
filtering_text net = simp (flat_map-append, flat_map-map)

pub ipsec_text : (net : Plan) →
    lines_text (canonical.ipsec_lines net) ≡
    flat_map (λ sa. line_text (canonical.sa_words net sa)) net.sas ++
    (lines_text (canonical.rule_lines net net.interfaces net.tables) ++
    flat_map (λ goal. line_text (canonical.ipgoal_words net goal)) net.ipgoals)
ipsec_text net = simp (flat_map-append, flat_map-map)

-- ---- the two parts, appended group by group: each list is one of the network's

pub appended-six : (o a b d e f g k l m n p q : List ℕ) → k ≡ o ++ a → l ≡ k ++ b → m ≡ l ++ d → n ≡ m ++ e → p ≡ n ++ f → q ≡ p ++ g → q ≡ o ++ (a ++ (b ++ (d ++ (e ++ (f ++ g)))))
appended-six o a b d e f g k l m n p q first second third fourth fifth sixth =
    rw (sixth, fifth, fourth, third, second, first) (simp append_assoc)

pub filtering_appended : (net : Plan) (o k l m n p q : List ℕ) (depth : ℕ) (areas : List Area) (devices : List Device) (interfaces again : List Interface) (free : List Bool) (goals : List Goal) →
    depth ≡ net.depth → areas ≡ net.areas → devices ≡ net.devices → interfaces ≡ net.interfaces → again ≡ net.interfaces → free ≡ net.free → goals ≡ net.goals →
    k ≡ o ++ line_text (canonical.depth_words depth) →
    l ≡ k ++ flat_map (λ area. line_text (canonical.area_words area)) areas →
    m ≡ l ++ flat_map (λ device. line_text (canonical.device_words device)) devices →
    n ≡ m ++ flat_map (λ interface. line_text (canonical.interface_words net interface)) interfaces →
    p ≡ n ++ lines_text (canonical.free_lines net again free) →
    q ≡ p ++ flat_map (λ goal. line_text (canonical.goal_words net goal)) goals →
    q ≡ o ++ lines_text (canonical.filtering_lines net)
filtering_appended net o k l m n p q depth areas devices interfaces again free goals of-depth of-areas of-devices of-interfaces of-again of-free of-goals first second third fourth fifth sixth =
    appended-six o _ _ _ _ _ _ k l m n p q (rw of-depth at first) (rw of-areas at second) (rw of-devices at third) (rw of-interfaces at fourth) (rw (of-again, of-free) at fifth) (rw of-goals at sixth)
    ∙ ap (λ text. o ++ text) (sym (filtering_text net))

pub ipsec_appended : (net : Plan) (o k l m : List ℕ) (sas : List Sa) (interfaces : List Interface) (tables : List Table) (goals : List IpGoal) →
    sas ≡ net.sas → interfaces ≡ net.interfaces → tables ≡ net.tables → goals ≡ net.ipgoals →
    k ≡ o ++ flat_map (λ sa. line_text (canonical.sa_words net sa)) sas →
    l ≡ k ++ lines_text (canonical.rule_lines net interfaces tables) →
    m ≡ l ++ flat_map (λ goal. line_text (canonical.ipgoal_words net goal)) goals →
    m ≡ o ++ lines_text (canonical.ipsec_lines net)
ipsec_appended net o k l m sas interfaces tables goals of-sas of-interfaces of-tables of-goals first second third =
    appended-three o _ _ _ k l m (rw of-sas at first) (rw (of-interfaces, of-tables) at second) (rw of-goals at third)
    ∙ ap (λ text. o ++ text) (sym (ipsec_text net))

pub net_text-made : (net : Plan) (o k l : List ℕ) → o ≡ [] → k ≡ o ++ lines_text (canonical.filtering_lines net) → l ≡ k ++ lines_text (canonical.ipsec_lines net) → l ≡ canonical.net_text net
net_text-made net o k l none first second =
    second
    ∙ ap (λ text. text ++ lines_text (canonical.ipsec_lines net)) (first ∙ ap (λ text. text ++ lines_text (canonical.filtering_lines net)) none)
    ∙ sym (net_text-parts net)

-- ---- a loop that has come to the end of its list

pub all_taken : {X : Type 0} (f : X → List ℕ) (xs : List X) (i : ℕ) (start out : List ℕ) → out ≡ start ++ flat_map f (take i xs) → length xs ≤ i → out ≡ start ++ flat_map f xs
all_taken f xs i start out before past = before ∙ ap (λ ys. start ++ flat_map f ys) (take_all i xs past)
