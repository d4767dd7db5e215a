-- The words of the lines of a generated network's text.
use Rattle.std.specs.Prelude.{ℕ, ◌+◌, ◌%◌, List, [], ◌∷◌, ◌++◌, codes, map}
use Rattle.std.specs.Fmt.{decimal}
use Rattle.std.specs.List.{flat_map, range_with_len}
use Rattle.np_generate.specs.declared.drawn.DrawnGoal.{DrawnGoal}
use Rattle.np_generate.specs.Drawn.{DrawnNet, near_area}

-- the name of an area, as `a7`
abbrev pub area_name : ℕ → List ℕ
area_name k = codes "a" ++ decimal k

-- the name of a device, as `d7`
abbrev pub device_name : ℕ → List ℕ
device_name k = codes "d" ++ decimal k

-- the addresses of an area, as `10.7.0.0/16`
abbrev pub prefix_word : ℕ → List ℕ
prefix_word k = codes "10." ++ (decimal k ++ codes ".0.0/16")

-- an area with its addresses
unfoldable pub area_line : ℕ → List (List ℕ)
area_line k = codes "area" ∷ area_name k ∷ prefix_word k ∷ []

-- a device with the name of its configuration's file, as `d7.cfg`
unfoldable pub device_line : ℕ → List (List ℕ)
device_line k = codes "device" ∷ device_name k ∷ codes "config" ∷ (device_name k ++ codes ".cfg") ∷ []

-- the name of an interface of a device, as `e1`
abbrev pub interface_name : ℕ → List ℕ
interface_name n = codes "e" ++ decimal n

-- an interface of a device, on an area
unfoldable pub interface_line : ℕ → ℕ → ℕ → List (List ℕ)
interface_line k n area = codes "interface" ∷ device_name k ∷ interface_name n ∷ area_name area ∷ []

-- the two interfaces of a device, which joins these areas
abbrev pub interface_lines : ℕ → ℕ → ℕ → List (List (List ℕ))
interface_lines k one other = interface_line k 0 one ∷ interface_line k 1 other ∷ []

-- a device of the ring joins the area of its number and the next one
abbrev pub ring_lines : ℕ → List (List (List ℕ))
ring_lines k = interface_lines k k ((k + 1) % 16)

-- the devices across the ring, from this number on, each with the other area that is drawn for it
abbrev pub chord_lines : ℕ → List ℕ → List (List (List ℕ))
chord_lines k [] = []
chord_lines k (far ∷ far_areas) = interface_lines k (near_area k) far ++ chord_lines (k + 1) far_areas

-- a goal from the area of this number: no TCP to a port
unfoldable pub goal_line : ℕ → DrawnGoal → List (List ℕ)
goal_line k goal =
    codes "goal" ∷ area_name k ∷ area_name goal.to ∷ codes "never" ∷ codes "and" ∷ codes "tcp" ∷ codes "dport" ∷ decimal goal.port ∷ []

-- the goals from the area of this number and those after it
abbrev pub goal_lines : ℕ → List DrawnGoal → List (List (List ℕ))
goal_lines k [] = []
goal_lines k (goal ∷ goals) = goal_line k goal ∷ goal_lines (k + 1) goals

-- the areas
unfoldable pub areas_lines : List (List (List ℕ))
areas_lines = map area_line (range_with_len 0 16)

-- the devices
unfoldable pub devices_lines : List (List (List ℕ))
devices_lines = map device_line (range_with_len 0 24)

-- the interfaces of the devices of the ring
unfoldable pub rings_lines : List (List (List ℕ))
rings_lines = flat_map ring_lines (range_with_len 0 16)

-- the words of each line: the depth, the areas, the devices, the interfaces of the devices of the ring and of those across it, and the goals
unfoldable pub net_lines : DrawnNet → List (List (List ℕ))
net_lines drawn =
    (codes "depth" ∷ codes "8" ∷ [])
    ∷ (areas_lines ++ (devices_lines ++ (rings_lines ++ (chord_lines 16 drawn.far_areas ++ goal_lines 0 drawn.goals))))
