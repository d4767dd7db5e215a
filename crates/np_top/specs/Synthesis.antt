-- What `synth` writes of a network and the configurations of its devices.
use Rattle.std.specs.Prelude.{◌≡◌, ◌⊎◌, ℕ, ◌*◌, ◌<◌, Bool, false, List, [], length, map, slice_index_or}
use Rattle.np_space.specs.Header.{IsValid, zeros}
use Rattle.np_space.specs.Classes.{AreLeasts, IsAlike}
use Rattle.np_space.specs.declared.headers.Header.{Header}
use Rattle.np_acl_read.specs.declared.config.Config.{Config}
use Rattle.np_net.specs.Plan.{Plan}
use Rattle.np_net.specs.declared.paths.Path.{Path}
use Rattle.np_cut.specs.Applying.{slot_lets}
use Rattle.np_synth.specs.Choosing.{is_free}
use Rattle.np_synth.specs.Dropping.{IsDropped, nothing}
use Rattle.np_synth.specs.Headers.{forbidding, IsSynthesised, IsUnattained, IsMaximalOver}
use Rattle.np_synth.specs.declared.chosen.Dropped.{Dropped}
use Rattle.np_report.specs.Synthesis.{chosen_text, unattainable_text}
use Rattle.np_top.specs.Report.{cuts_of}
use Rattle.np_top.specs.declared.status.Status.{Status}
use Rattle.np_top.specs.declared.status.Status.TheVariants.{Holds, Fails}

-- for each slot which of the headers cross it
pub record AreShown (slots : ℕ) (leasts : List Header) (chosen : ℕ → Header → Bool) (sets : List (List Bool)) : Type 0 where
  pub each : length sets ≡ slots
  pub shown : (slot : ℕ) → slot < slots → slice_index_or sets slot [] ≡ map (chosen slot) leasts

-- The report on a synthesised posture: the atoms of the filter cuts, which of them cross each free slot, and why the others don't.
pub record IsChosenReport (net : Plan) (configs : List Config) (text : List ℕ) (status : Status) : Type 0 where
  pub leasts : List Header
  pub least : AreLeasts (cuts_of net configs) leasts
  pub chosen : ℕ → Header → Bool
  pub drops : List Dropped
  pub synthesised : IsSynthesised net (slot_lets net.interfaces configs) leasts chosen drops
  pub sets : List (List Bool)
  pub shown : AreShown (2 * length net.interfaces) leasts chosen sets
  pub text_is : text ≡ chosen_text net leasts sets drops
  pub status_is : status ≡ Holds

-- The report on goals that can't be attained.
pub record IsUnattainedReport (net : Plan) (configs : List Config) (text : List ℕ) (status : Status) : Type 0 where
  pub goal : ℕ
  pub header : Header
  pub path : Path
  pub unattained : IsUnattained net (slot_lets net.interfaces configs) goal header path
  pub text_is : text ≡ unattainable_text net goal header path.hops
  pub status_is : status ≡ Fails

-- the report on a synthesis: a goal is broken with the free slots shut, or there is a chosen posture
abbrev pub IsSynthesisReport : Plan → List Config → List ℕ → Status → Type 0
IsSynthesisReport net configs text status = IsUnattainedReport net configs text status ⊎ IsChosenReport net configs text status

-- The text is that of a maximal posture: the slots that aren't free let cross what the configurations do; no valid header breaks a goal; for
-- every valid header and every free slot that doesn't let it cross, letting that one header cross there as well breaks a goal; what is written
-- of an atom at a slot is so for each of its headers, and so is why the slot drops it: the first goal that would be broken, and its first path.
pub record IsMaximalText (net : Plan) (configs : List Config) (text : List ℕ) : Type 0 where
  pub leasts : List Header
  pub least : AreLeasts (cuts_of net configs) leasts
  pub chosen : ℕ → Header → Bool
  pub fixed : (slot : ℕ) (h : Header) → slot < 2 * length net.interfaces → is_free net.free slot ≡ false → IsValid h → chosen slot h ≡ slot_lets net.interfaces configs slot h
  pub maximal : IsMaximalOver net chosen
  pub atoms : (slot : ℕ) (h k : Header) → slot < 2 * length net.interfaces → IsValid h → IsValid k → IsAlike (cuts_of net configs) h k → chosen slot h ≡ chosen slot k
  pub drops : List Dropped
  pub reasons : (n : ℕ) (h : Header) → n < length drops → IsValid h → IsAlike (cuts_of net configs) (slice_index_or leasts (slice_index_or drops n nothing).atom zeros) h → IsDropped net.interfaces net.goals (forbidding net.goals h) net.free (λ s. chosen s h) (slice_index_or drops n nothing).slot (slice_index_or drops n nothing).goal (slice_index_or drops n nothing).path.hops
  pub sets : List (List Bool)
  pub shown : AreShown (2 * length net.interfaces) leasts chosen sets
  pub text_is : text ≡ chosen_text net leasts sets drops
