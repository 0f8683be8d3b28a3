-- Where nothing can go on, nodes wait for names that other nodes hold.
use Rattle.std.specs.Prelude.{◌≡◌, ◌≢◌, ℕ, ◌<◌, false, List, [], None, Some, IsSome}
use Rattle.bmx_types.specs.declared.numbers.Mode.{Mode}
use Rattle.bmx_types.specs.declared.commands.Command.{Command}
use Rattle.bmx_protocol.specs.declared.events.Event.{Event}
use Rattle.bmx_protocol.specs.Nodes.{Setting, Known}
use Rattle.bmx_protocol.specs.Histories.{waits_with}
use Rattle.bmx_protocol.specs.Worlds.{World}
use Rattle.bmx_protocol.specs.Runs.Programs.{CanServe}
use Rattle.bmx_protocol.specs.Runs.Turns.{is_ready}
use Rattle.bmx_coherence.specs.Waits.{WaitsFor}

-- no letter is in flight, nothing can be served, and the token that no waiting command takes is ready
pub record IsStuck (st : Setting) (w : World) (history : List Event) : Type 0 where
  pub no_letter : (n m : ℕ) → w.channel n m ≡ []
  pub no_serve : (n x : ℕ) → n < st.nodes → CanServe n (w.state n) x → ⊥
  pub not_ready : (n : ℕ) (c : Command) → n < st.nodes → waits_with n None history ≡ Some c → is_ready n (w.state n) c ≡ false

-- another node than n holds x
pub record IsHeldElsewhere (w : World) (n x : ℕ) : Type 0 where
  pub holder : ℕ
  pub other : holder ≢ n
  pub known : Known
  pub knows : (w.state holder).known x ≡ Some known
  pub holds : IsSome known.part.held

-- where nothing can go on, each name that a waiting command wants is held by another node
abbrev pub StuckNamesHolders : Setting → World → List Event → Type 0
StuckNamesHolders st w history = IsStuck st w history → (n : ℕ) (m : Mode) (x : ℕ) → n < st.nodes → WaitsFor w history n m x → IsHeldElsewhere w n x
