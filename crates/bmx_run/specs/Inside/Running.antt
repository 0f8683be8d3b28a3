-- A run between two events.
use Rattle.std.specs.Prelude.{◌≡◌, ℕ, ◌^◌, ◌<◌, ◌≤◌, ◌⊎◌, List, [], ◌∷◌, ◌++◌, length, slice_get, Some, false, Contains, string_bytes}
use Rattle.bmx_types.specs.Openings.{IsOpening, bunches_of}
use Rattle.rand_pcg.specs.Lcg.{advance}
use Rattle.rand_pcg.specs.Pcg.{multiplier_64}
use Rattle.bmx_script.specs.declared.lines.Line.{Line}
use Rattle.bmx_protocol.specs.declared.events.Event.{Event}
use Rattle.bmx_protocol.specs.Nodes.{Setting}
use Rattle.bmx_protocol.specs.Histories.{in_flight}
use Rattle.bmx_protocol.specs.Runs.Programs.{Order, Stage, stages, BeginsStage, DoesStage}
use Rattle.bmx_protocol.specs.Runs.Turns.{TakesTurns, generator}
use Rattle.bmx_node.specs.Seen.{FitsCommand}
use Rattle.bmx_legal.specs.Growing.{Leads}
use Rattle.bmx_legal.specs.Inside.Spots.{Finds}
use Rattle.bmx_turns.specs.Inside.Growing.{Comes}
use Rattle.bmx_lanes.specs.Sending.{lane_of}
use Rattle.bmx_world.specs.Scripts.{body_of, setting_of_script}
use Rattle.bmx_world.specs.Texts.{text_of}
use Rattle.bmx_world.specs.Runs.{stamps_behind}
use Rattle.bmx_run.specs.declared.seats.Seat.{Seat}
use Rattle.bmx_run.specs.declared.runner.Runner.{Runner}
use Rattle.bmx_run.specs.Inside.Seats.{AreSeats}
use Rattle.bmx_run.specs.Inside.Steps.{AreNodes, nodes_in, stamps_in}

-- where a run is: its script and its seed, the events of earlier phases and of this one, this phase and those behind it
pub record Point : Type 0 where
  pub lines : List Line
  pub seed : ℕ
  pub past : List Event
  pub part : List Event
  pub stage : Stage
  pub rest : List Stage

abbrev pub store_of : Point → Setting
store_of p = setting_of_script p.lines

abbrev pub history_of : Point → List Event
history_of p = p.past ++ p.part

-- with one event more
abbrev pub with_event : Point → Event → Point
with_event p e = record p { part = p.part ++ e ∷ [] }

-- a runner has this history, which is legal, its nodes are what it leads to, and its text is what it prints
pub record IsWhole (lines : List Line) (events : List Event) (r : Runner) : Type 0 where
  pub history : r.history.items ≡ events
  pub few : length events ≤ r.budget
  pub small : r.budget < 2 ^ 55
  pub opens : IsOpening (setting_of_script lines).nodes (setting_of_script lines).limit (setting_of_script lines).births
  pub nodes : AreNodes (setting_of_script lines) r.nodes.items
  pub leads : Leads (setting_of_script lines) events (nodes_in (setting_of_script lines) r.nodes.items) (stamps_in r.nodes.items)
  pub stamped : stamps_in r.nodes.items ≡ stamps_behind (λ _. 0) events
  pub text : string_bytes r.text ≡ text_of lines events

-- commands may be given to the nodes of a store
pub record IsGiven (st : Setting) (g : Order) : Type 0 where
  pub a_node : g.node < st.nodes
  pub fits : FitsCommand (bunches_of st.births) g.command

abbrev pub AreGiven : Setting → List Order → Type 0
AreGiven st orders = (g : Order) → Contains orders g → IsGiven st g

-- its seats have these commands of the phase, and its lanes lead to the letters in flight
pub record IsReady (lines : List Line) (orders : List Order) (past part : List Event) (r : Runner) : Type 0 where
  pub given : AreGiven (setting_of_script lines) orders
  pub seats : AreSeats (setting_of_script lines).nodes orders part (past ++ part) r.seats.items
  pub lanes : (from to : ℕ) → Finds (past ++ part) (lane_of r.lanes from to) (in_flight from to (past ++ part))

-- the next word is the generator's of this number
abbrev pub Draws : ℕ → ℕ → Runner → Type 0
Draws seed i r = r.generator ≡ advance 64 multiplier_64 i (generator seed)

-- the phases before were done, each as soon as it could be, and the events of this one follow its programs by turns
pub record IsInPhase (p : Point) : Type 0 where
  pub comes : Comes (store_of p) p.seed (stages (body_of p.lines)) p.past (p.stage ∷ p.rest)
  pub begun : BeginsStage p.stage p.part
  pub turns : TakesTurns (store_of p) p.seed p.past p.stage p.part

-- a runner is there, and can go on
pub record IsAt (p : Point) (r : Runner) : Type 0 where
  pub whole : IsWhole p.lines (history_of p) r
  pub ready : IsReady p.lines p.stage.commands p.past p.part r
  pub phase : IsInPhase p

-- a runner is there, whether it can go on or not
pub record IsStopped (p : Point) (r : Runner) : Type 0 where
  pub whole : IsWhole p.lines (history_of p) r
  pub phase : IsInPhase p

-- the phase isn't done
abbrev pub IsOpen : Point → Type 0
IsOpen p = DoesStage (store_of p) p.past p.stage p.part → ⊥

-- a runner went on by an event
pub record Turned (p : Point) (r : Runner) : Type 0 where
  pub event : Event
  pub is_at : IsAt (with_event p event) r

-- or it stopped, before an event or behind it
pub record Halted (p : Point) (r : Runner) : Type 0 where
  pub at : Point
  pub same : (at ≡ p) ⊎ ((e : Event) × (at ≡ with_event p e))
  pub stopped : IsStopped at r

-- between two phases: the seats have the first commands of the phase that comes, and none waits
pub record IsBetween (lines : List Line) (seed : ℕ) (past : List Event) (orders : List Order) (to_come : List Stage) (r : Runner) : Type 0 where
  pub whole : IsWhole lines past r
  pub ready : IsReady lines orders past [] r
  pub calm : (n : ℕ) (s : Seat) → slice_get r.seats.items n ≡ Some s → s.waits ≡ false
  pub comes : Comes (setting_of_script lines) seed (stages (body_of lines)) past to_come
  pub draws : Draws seed (length past) r
