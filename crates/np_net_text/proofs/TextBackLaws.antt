-- The canonical text of a network is read as this network.
use Rattle.std.proofs.Common.{◌≡◌, ℕ, ◌+◌, ◌*◌, ◌≤◌, List, [], length, map, Some, Ok, refl, ap, ◌∙◌, arith}
use Rattle.np_text.specs.Lines.{lines_of}
use Rattle.np_text.specs.Words.{words_of}
use Rattle.np_net.specs.Network.{IsNetwork}
use Rattle.np_net.specs.Plan.{Plan}
use Rattle.np_net_read.specs.declared.declared.Declared.{Declared}
use Rattle.np_net_read.specs.declared.statement.Statement.TheVariants as statement
use Rattle.np_net_text.specs.Canonical.{net_lines, net_text, filtering_lines, ipsec_lines, area_words, device_words, interface_words, free_lines, goal_words}
use Rattle.np_net_read.specs.Declaring.{declared_by_network, network_of}
use Rattle.np_net_read.specs.Reading.{net_of}
use Rattle.np_net_text.proofs.ChainLaws.{ArePlainLines, plain_lines_append, ReadsInto, then_reads, net_of_plain, words_of_plain}
use Rattle.np_net_text.proofs.FreeLines.{free_slots, flags_back, free_read}
use Rattle.np_net_text.proofs.IpsecLines.{ipsec_read, later}
use Rattle.np_net_text.proofs.PlainIpsec.{ipsec_plain}
use Rattle.np_net_text.proofs.PlainLines.{filtering_plain}
use Rattle.np_net_text.proofs.StatementLines.{depth_read, areas_read, devices_read, interfaces_read, goals_read, stage}

-- ---- each of its lines is of plain words

lines_plain : (net : Plan) → IsNetwork net → ArePlainLines (net_lines net)
lines_plain net is = plain_lines_append (filtering_lines net) (ipsec_lines net) (filtering_plain net is) (ipsec_plain net is)

pub words_of_text : (net : Plan) → IsNetwork net → map words_of (lines_of (net_text net)) ≡ net_lines net
words_of_text net is = words_of_plain (net_lines net) (lines_plain net is)

-- ---- its lines declare it

-- the first of a list's items stand after none
room : {X : Type 0} (xs : List X) {limit : ℕ} → length xs ≤ limit → 0 + length xs ≤ limit
room xs h = omega arith

module _ (net : Plan) (is : IsNetwork net) where
  -- what the lines of the filtering part declare
  filtered : Declared
  filtered = stage net net.interfaces (free_slots 0 net.free) net.goals

  -- and all lines
  whole : Declared
  whole = later net is (free_slots 0 net.free) net.sas net.tables net.ipgoals

  begun : Declared
  begun = record { areas = []; devices = []; interfaces = []; freed = []; goals = []; sas = []; tables = []; ipgoals = []; depth = Some net.depth }

  filtering_read : ReadsInto (declared_by_network []) (filtering_lines net) filtered
  unfolding declared_by_network filtered begun
  filtering_read =
      let goals = goals_read net is (free_slots 0 net.free) [] net.goals is.goals (room net.goals is.limits.goals) in
      let free = then_reads _ _ filtered (free_lines net net.interfaces net.free) (map (goal_words net) net.goals) (free_read net is) goals in
      let interfaces = then_reads _ _ filtered (map (interface_words net) net.interfaces) _ (interfaces_read net is [] net.interfaces is.names.interfaces is.interfaces (room net.interfaces is.limits.interfaces)) free in
      let devices = then_reads (record begun { areas = net.areas }) _ filtered (map device_words net.devices) _ (devices_read (record begun { areas = net.areas }) net.devices is.names.devices is.devices (room net.devices is.limits.devices)) interfaces in
      let areas = then_reads begun _ filtered (map area_words net.areas) _ (areas_read begun net.areas is.names.areas is.areas (room net.areas is.limits.areas)) devices in
      (statement.Depth net.depth, depth_read (declared_by_network []) net.depth record { new = refl; shallow = is.shallow; deep = is.deep }, areas)

  lines_read : ReadsInto (declared_by_network []) (net_lines net) whole
  unfolding filtered whole
  lines_read = then_reads (declared_by_network []) filtered whole (filtering_lines net) (ipsec_lines net) filtering_read (ipsec_read net is (free_slots 0 net.free))

  same_plan : network_of whole ≡ net
  unfolding network_of whole
  same_plan = rw (flags_back net.free (2 * length net.interfaces) is.free) refl

pub net_of_text : (net : Plan) → IsNetwork net → net_of (net_text net) ≡ Ok net
net_of_text net is = net_of_plain (net_lines net) (whole net is) (lines_plain net is) (lines_read net is) ∙ ap (λ n. Ok n) (same_plan net is)
