-- The lines of reports, as lists of words.
use Rattle.std.specs.Prelude.{ℕ, List, [], ◌∷◌, codes, map}
use Rattle.np_net.specs.Naming.{device_name, interface_name}
use Rattle.np_net.specs.Path.{device_of}
use Rattle.np_net.specs.Plan.{Plan}

-- the words of a hop: its device, the interface by which it comes in, and the one by which it goes out
abbrev pub hop_words : Plan → ℕ × ℕ → List (List ℕ)
hop_words net hop =
    codes "hop" ∷ device_name net (device_of net.interfaces hop.0) ∷ interface_name net hop.0 ∷ interface_name net hop.1 ∷ []

-- a line for each hop
abbrev pub hop_lines : Plan → List (ℕ × ℕ) → List (List (List ℕ))
hop_lines net hops = map (hop_words net) hops
