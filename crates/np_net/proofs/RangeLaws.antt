-- The numbers of a network are in range.
use Rattle.std.proofs.Common.{◌≡◌, ℕ, ◌*◌, ◌/◌, ◌<◌, List, [], ◌∷◌, length, get_or, refl, arith}
use Rattle.np_net.specs.declared.associations.Sa.{Sa}
use Rattle.np_net.specs.declared.associations.Table.{Table}
use Rattle.np_net.specs.declared.filtering.Goal.{Goal}
use Rattle.np_net.specs.declared.filtering.Interface.{Interface}
use Rattle.np_net.specs.Network.{AreTables, IsGoal, IsInterface, IsNetwork}
use Rattle.np_net.specs.Path.{interface_at, device_of, area_of}
use Rattle.np_net.specs.Plan.{Plan}
use Rattle.np_net.proofs.ListLaws.{all_at, all_index}

module _ (net : Plan) (is : IsNetwork net) where
  module _ (n : ℕ) (lt : n < length net.interfaces) where
    -- the interface of this number
    interface_is : IsInterface (length net.devices) (length net.areas) (interface_at net.interfaces n)
    interface_is = all_index (λ interface. IsInterface (length net.devices) (length net.areas) interface) net.interfaces n (record { name = []; device = 0; area = 0 }) lt is.interfaces

    -- the device of an interface
    pub device_in_range : device_of net.interfaces n < length net.devices
    device_in_range = interface_is.device

    -- the area of an interface
    pub area_in_range : area_of net.interfaces n < length net.areas
    area_in_range = interface_is.area

  -- the areas of a goal
  pub goal_in_range : (n : ℕ) (goal : Goal) → n < length net.goals → goal ≡ get_or net.goals n goal → IsGoal (length net.areas) goal
  goal_in_range n goal lt at = all_at (λ goal. IsGoal (length net.areas) goal) net.goals n goal lt at is.goals

  -- two flags for each interface
  pub free_count : length net.free ≡ 2 * length net.interfaces
  free_count = is.free

  -- the interface of a slot
  pub slot_in_range : (slot : ℕ) → slot < length net.free → slot / 2 < length net.interfaces
  slot_in_range slot lt = let flags = free_count in omega arith

-- tables go with interfaces one by one
one_table_each : (sas : List Sa) (interfaces : List Interface) (tables : List Table) → AreTables sas interfaces tables → length tables ≡ length interfaces
one_table_each sas [] [] h = refl
one_table_each sas [] (t ∷ tables) h = absurd h
one_table_each sas (i ∷ interfaces) [] h = absurd h
one_table_each sas (i ∷ interfaces) (t ∷ tables) h = let rest = one_table_each sas interfaces tables h.1 in omega arith

-- one table for each interface
pub table_count : (net : Plan) → IsNetwork net → length net.tables ≡ length net.interfaces
table_count net is = one_table_each net.sas net.interfaces net.tables is.tables

-- the table of an interface
pub table_in_range : (net : Plan) → IsNetwork net → (n : ℕ) → n < length net.interfaces → n < length net.tables
table_in_range net is n lt = let same = table_count net is in omega arith
