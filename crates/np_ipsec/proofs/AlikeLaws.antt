-- Rules say the same of headers that a network takes alike.
use Rattle.std.proofs.Common.{◌≡◌, ℕ, ◌<◌, List, [], ◌∷◌, length, Option, refl}
use Rattle.std.specs.List.{AllByRecursion}
use Rattle.std.proofs.lemmas.List.Elements.{recursion_from_All}
use Rattle.np_space.specs.declared.headers.Header.{Header}
use Rattle.np_net.specs.Plan.{Plan}
use Rattle.np_net.specs.declared.associations.InRule.{InRule}
use Rattle.np_net.specs.declared.associations.OutRule.{OutRule}
use Rattle.np_net.specs.declared.associations.Match.{Match}
use Rattle.np_net.specs.declared.associations.Match.TheVariants as matches
use Rattle.np_ipsec.specs.Alike.{AreTakenAlike, FitsAlike}
use Rattle.np_ipsec.specs.Tables.{fits_top, in_action_by, in_action_of, out_action_by, out_action_of, table_at}
use Rattle.np_ipsec.specs.declared.tables.Top.TheVariants as tops

-- one rule's match fits both
fits_same : (rule : Match) (h k : Header) → FitsAlike rule h k → fits_top rule (tops.Plain h) ≡ fits_top rule (tops.Plain k)
fits_same (matches.Plain pred) h k alike = alike
fits_same (matches.Under n) h k alike = refl
fits_same matches.Every h k alike = refl

-- inward rules say the same of both
in_same : (rules : List InRule) (h k : Header) (mark : Option ℕ) → AllByRecursion (λ rule. FitsAlike rule.top h k) rules → in_action_by rules (tops.Plain h) mark ≡ in_action_by rules (tops.Plain k) mark
in_same [] h k mark alike = refl
in_same (rule ∷ rules) h k mark alike =
    let fits = fits_same rule.top h k alike.0 in
    let later = in_same rules h k mark alike.1 in
    rw (fits, later) refl

-- outward rules do
out_same : (rules : List OutRule) (h k : Header) → AllByRecursion (λ rule. FitsAlike rule.top h k) rules → out_action_by rules (tops.Plain h) ≡ out_action_by rules (tops.Plain k)
out_same [] h k alike = refl
out_same (rule ∷ rules) h k alike =
    let fits = fits_same rule.top h k alike.0 in
    let later = out_same rules h k alike.1 in
    rw (fits, later) refl

module _ (net : Plan) (h k : Header) (alike : AreTakenAlike net h k) (i : ℕ) (within : i < length net.interfaces) where
  -- an interface's inward rules say the same of both
  pub in_alike : (mark : Option ℕ) → in_action_of net i (tops.Plain h) mark ≡ in_action_of net i (tops.Plain k) mark
  in_alike mark = in_same (table_at net i).ins h k mark (recursion_from_All (λ rule. FitsAlike rule.top h k) (table_at net i).ins (alike.ins i within))

  -- its outward rules do
  pub out_alike : out_action_of net i (tops.Plain h) ≡ out_action_of net i (tops.Plain k)
  out_alike = out_same (table_at net i).outs h k (recursion_from_All (λ rule. FitsAlike rule.top h k) (table_at net i).outs (alike.outs i within))
