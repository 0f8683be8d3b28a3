-- What a node keeps of references between bunches, beside its state: a stub and a scion for each, and how many
-- tables it has made. A store and a grant make them.
use Rattle.std.specs.Prelude.{◌≡◌, refl, ℕ, ◌+◌, ◌<◌, if◌then◌else◌, List, [], ◌∷◌, filter_map, Option, None}
use Rattle.std.specs.Option.{option_map, option_map_or}
use Rattle.std.specs.List.{fold}
use Rattle.bmx_types.specs.declared.addresses.Info.{Info}
use Rattle.bmx_types.specs.declared.commands.Command.{Command}
use Rattle.bmx_graph.specs.Step.{effect}
use Rattle.bmx_graph.specs.declared.effects.Effect.{Effect}
use Rattle.bmx_graph.specs.declared.effects.Effect.TheVariants as graph_effect
use Rattle.bmx_msg.specs.declared.letters.Field.{Field}
use Rattle.bmx_msg.specs.declared.letters.Field.TheVariants as msg_field
use Rattle.bmx_msg.specs.declared.letters.Msg.{Msg}
use Rattle.bmx_inter.specs.declared.inter.Stub.{Stub}
use Rattle.bmx_inter.specs.declared.inter.Scion.{Scion}
use Rattle.bmx_inter.specs.Order.{IsInOrder}
use Rattle.bmx_inter.specs.Inter.{stub_pair, scion_pair, stub_of, stubs_with, scions_with}
use Rattle.bmx_barrier.specs.Barrier.{needs_pair}
use Rattle.bmx_protocol.specs.declared.inputs.Input.{Input}
use Rattle.bmx_protocol.specs.declared.inputs.Input.TheVariants as input
use Rattle.bmx_protocol.specs.declared.inputs.NodeAnswer.{NodeAnswer}
use Rattle.bmx_protocol.specs.Nodes.{NodeState, AreNumbers, seen_graph, field_of}
use Rattle.bmx_protocol.specs.Rules.{told_field, grant_in, info_in}
use Rattle.bmx_protocol.specs.Steps.{is_nil, is_taken, nowhere}

-- the stubs and scions of a node, each by source and then by target, and how many tables it has made for a node
pub record Links : Type 0 where
  pub stubs : List Stub
  pub scions : List Scion
  pub tables : ℕ → ℕ

-- a node opens with neither stub nor scion, and has made no table
abbrev pub no_links : Links
no_links = record { stubs = []; scions = []; tables = λ n. 0 }

-- the view of a node's links: its stubs, its scions, and how many tables it made for each node
pub record LinkView : Type 0 where
  pub stubs : List Stub
  pub scions : List Scion
  pub tables : List ℕ

-- a view shows the links of a node of so many: it lists the stubs and the scions, in order, and a number of tables for
-- each node
pub record ShowsLinks (nodes : ℕ) (view : LinkView) (l : Links) : Type 0 where
  pub all_stubs : view.stubs ≡ l.stubs
  pub all_scions : view.scions ≡ l.scions
  pub stubs_in_order : IsInOrder stub_pair view.stubs
  pub scions_in_order : IsInOrder scion_pair view.scions
  pub made : AreNumbers nodes view.tables l.tables

-- links of nodes of so many are one but for tables for what is no node: the same stubs and scions, and as many tables
-- for each node
pub record AreShownAlike (nodes : ℕ) (l m : Links) : Type 0 where
  pub stubs : l.stubs ≡ m.stubs
  pub scions : l.scions ≡ m.scions
  pub tables : (n : ℕ) → n < nodes → l.tables n ≡ m.tables n

-- ## pairs

-- a reference needs its pair: stub and scion stand from now on, the scion with the number of this step
abbrev pub with_pair : ℕ → Links → Stub → Links
with_pair clock l s = record l {
  stubs = stubs_with s.source s.bunch s.target l.stubs;
  scions = scions_with s.source s.bunch s.target clock l.scions;
}

-- the reference in a field of an object of the bunch, None where it needs no pair
abbrev pub pair_in : ℕ → ℕ → Field → Option Stub
pair_in source bunch f = if needs_pair bunch f then option_map (λ (i : Info). stub_of source bunch i.name) (info_in f) else None

-- the references in fields of an object of the bunch that need pairs
abbrev pub pairs_in : ℕ → ℕ → List Field → List Stub
pairs_in source bunch fields = filter_map (pair_in source bunch) fields

-- the bunch of an object that the node knows
abbrev pub bunch_at : NodeState → ℕ → ℕ
bunch_at s name = option_map_or (λ k. k.bunch) (s.known name) 0

-- what an effect of the graph stores in a copy: one reference, or none
abbrev pub pairs_of_effect : NodeState → Effect → List Stub
pairs_of_effect s graph_effect.Nothing = []
pairs_of_effect s (graph_effect.Makes register bunch size) = []
pairs_of_effect s (graph_effect.Sets register v) = []
pairs_of_effect s (graph_effect.Stores name index v) = pairs_in name (bunch_at s name) (told_field s (λ _. nowhere) (field_of v) ∷ [])
pairs_of_effect s (graph_effect.Holds name hold) = []

-- a command that was done needs the pair of what it stored
abbrev pub pairs_of_command : ℕ → NodeState → Command → List Stub
pairs_of_command me s c = pairs_of_effect s (effect (seen_graph me s) me c)

-- a grant that was taken needs the pairs of the fields that it brings
abbrev pub pairs_of_message : Msg → List Stub
pairs_of_message m = option_map_or (λ (g : Info × List Field). pairs_in g.0.name g.0.bunch g.1) (grant_in m) []

-- the references that need pairs by an input that was answered so
abbrev pub pairs_of : ℕ → NodeState → Input → NodeAnswer → List Stub
pairs_of me s (input.Do c) a = if is_nil a then pairs_of_command me s c else []
pairs_of me s (input.Serve name) a = []
pairs_of me s (input.Take from letter) a = if is_taken a then pairs_of_message letter.msg else []

-- the links after such an input, in the step of the next number
abbrev pub links_after : ℕ → NodeState → Links → Input → NodeAnswer → Links
links_after me s l i a = fold (with_pair (s.clock + 1)) l (pairs_of me s i a)

-- ## cases

-- an object of bunch 1
an_object : Info
an_object = record { name = 9; bunch = 1; size = 1; place = nowhere }

-- of the fields of object 3 those need a pair that lead into another bunch; both its fields that do have one pair
across : (pairs_in 3 0 (msg_field.Null ∷ msg_field.Ref an_object ∷ []) ≡ stub_of 3 0 9 ∷ []) × (pairs_in 3 1 (msg_field.Ref an_object ∷ []) ≡ [])
unfolding an_object
across = (refl, refl)

one_pair : fold (with_pair 7) no_links (pairs_in 3 0 (msg_field.Ref an_object ∷ msg_field.Ref an_object ∷ []))
    ≡ record { stubs = stub_of 3 0 9 ∷ []; scions = record { target = 9; source = 3; bunch = 0; clock = 7 } ∷ []; tables = λ n. 0 }
unfolding an_object
one_pair = refl
