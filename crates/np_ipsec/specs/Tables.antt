-- What the tables of a network say of a packet.
use Rattle.std.specs.Prelude.{ℕ, ◌==◌, ◌&&◌, Bool, true, false, List, [], ◌∷◌, Option, Some, None, if◌then◌else◌, slice_index_or}
use Rattle.std.specs.List.{list_any}
use Rattle.np_pred.specs.Meaning.{pred_holds}
use Rattle.np_net.specs.Network.{sa_at}
use Rattle.np_net.specs.Plan.{Plan}
use Rattle.np_net.specs.declared.associations.Kind.{Kind}
use Rattle.np_net.specs.declared.associations.Kind.TheVariants as kinds
use Rattle.np_net.specs.declared.associations.Match.{Match}
use Rattle.np_net.specs.declared.associations.Match.TheVariants as matches
use Rattle.np_net.specs.declared.associations.MarkTest.{MarkTest}
use Rattle.np_net.specs.declared.associations.MarkTest.TheVariants as marks
use Rattle.np_net.specs.declared.associations.InAction.{InAction}
use Rattle.np_net.specs.declared.associations.InAction.TheVariants as ins
use Rattle.np_net.specs.declared.associations.OutAction.{OutAction}
use Rattle.np_net.specs.declared.associations.OutAction.TheVariants as outs
use Rattle.np_net.specs.declared.associations.InRule.{InRule}
use Rattle.np_net.specs.declared.associations.OutRule.{OutRule}
use Rattle.np_net.specs.declared.associations.Table.{Table}
use Rattle.np_ipsec.specs.declared.tables.Top.{Top}
use Rattle.np_ipsec.specs.declared.tables.Top.TheVariants as tops

-- ---- rules

-- a rule's match fits the outermost header: `plain` a plain one for which the predicate holds, `under` that of the association, `every` all
abbrev pub fits_top : Match → Top → Bool
fits_top (matches.Plain pred) (tops.Plain h) = pred_holds pred h
fits_top (matches.Plain pred) (tops.Under k) = false
fits_top (matches.Under n) (tops.Plain h) = false
fits_top (matches.Under n) (tops.Under k) = k == n
fits_top matches.Every top = true

-- a rule's mark fits the association whose header was removed last, or that none was
abbrev pub fits_mark : MarkTest → Option ℕ → Bool
fits_mark marks.Unmarked None = true
fits_mark marks.Unmarked (Some k) = false
fits_mark (marks.Popped n) None = false
fits_mark (marks.Popped n) (Some k) = k == n
fits_mark marks.AnyMark mark = true

-- the action of the first inward rule that fits; `discard` where none does
abbrev pub in_action_by : List InRule → Top → Option ℕ → InAction
in_action_by [] top mark = ins.Discard
in_action_by (rule ∷ rules) top mark = if fits_mark rule.mark mark && fits_top rule.top top then rule.action else in_action_by rules top mark

-- the action of the first outward rule that fits; `discard` where none does
abbrev pub out_action_by : List OutRule → Top → OutAction
out_action_by [] top = outs.Discard
out_action_by (rule ∷ rules) top = if fits_top rule.top top then rule.action else out_action_by rules top

-- ---- the tables of a network

-- the table of an interface
abbrev pub table_at : Plan → ℕ → Table
table_at net i = slice_index_or net.tables i record { pops = []; ins = []; outs = [] }

-- a pop rule for the association stands at the interface
abbrev pub has_pop : Plan → ℕ → ℕ → Bool
has_pop net i k = list_any (λ n. n == k) (table_at net i).pops

-- what becomes of a packet that came in by the interface
abbrev pub in_action_of : Plan → ℕ → Top → Option ℕ → InAction
in_action_of net i top mark = in_action_by (table_at net i).ins top mark

-- what becomes of a packet that is to go out by the interface
abbrev pub out_action_of : Plan → ℕ → Top → OutAction
out_action_of net i top = out_action_by (table_at net i).outs top

-- ---- associations

-- a device is trusted
abbrev pub is_trusted_device : Plan → ℕ → Bool
is_trusted_device net d = (slice_index_or net.devices d record { name = []; config = None; trusted = false }).trusted

-- both ends are trusted
abbrev pub is_good : Plan → ℕ → Bool
is_good net k = is_trusted_device net (sa_at net.sas k).from && is_trusted_device net (sa_at net.sas k).to

-- kinds that give integrity
abbrev pub has_integrity : Kind → Bool
has_integrity kinds.Esp = true
has_integrity kinds.EspEnc = false
has_integrity kinds.EspNull = true
has_integrity kinds.Ah = true

-- kinds that hide what they carry
abbrev pub has_secrecy : Kind → Bool
has_secrecy kinds.Esp = true
has_secrecy kinds.EspEnc = true
has_secrecy kinds.EspNull = false
has_secrecy kinds.Ah = false

-- both ends are trusted, and a packet can't be forged
abbrev pub is_sound : Plan → ℕ → Bool
is_sound net k = is_good net k && has_integrity (sa_at net.sas k).kind

-- both ends are trusted, and a packet can't be read
abbrev pub is_secret : Plan → ℕ → Bool
is_secret net k = is_good net k && has_secrecy (sa_at net.sas k).kind
