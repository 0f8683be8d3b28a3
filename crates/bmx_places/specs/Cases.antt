-- Histories worked by hand: a legal one to which the laws apply, and one with an outcome changed, in which each of
-- them fails.
use Rattle.std.specs.Prelude.{◌≡◌, ◌≢◌, false, [], ◌∷◌, replicate, Contains, Some, refl}
use Rattle.bmx_types.specs.Openings.{IsOpening}
use Rattle.bmx_types.specs.Updates.{put}
use Rattle.bmx_types.specs.declared.addresses.Info.{Info}
use Rattle.bmx_types.specs.declared.commands.Command.TheVariants as command
use Rattle.bmx_msg.specs.declared.letters.Field.TheVariants as told
use Rattle.bmx_msg.specs.declared.letters.Letter.{Letter}
use Rattle.bmx_msg.specs.declared.letters.Msg.TheVariants as msg
use Rattle.bmx_protocol.specs.declared.inputs.Input.TheVariants as input
use Rattle.bmx_protocol.specs.declared.inputs.NodeAnswer.TheVariants as answer
use Rattle.bmx_protocol.specs.declared.inputs.Done.{Done}
use Rattle.bmx_protocol.specs.declared.events.Event.{Event}
use Rattle.bmx_protocol.specs.Rules.{Reaction, infos}
use Rattle.bmx_protocol.specs.Strays.{some_clash}
use Rattle.bmx_protocol.specs.Steps.{Node, letter_in, rule, IsStep}
use Rattle.bmx_protocol.specs.Histories.{in_flight, IsLegal}
use Rattle.bmx_protocol.specs.Worlds.{World, world_of}
use Rattle.bmx_protocol.specs.Cases.{Play, Do, Serve, Next, input_of, told_at, played, with_outcome, with_input, one_bunch, anchor, r0, the_anchor, the_object, told_of_the_object}
use Rattle.bmx_places.specs.Ledger.{HasLedger}
use Rattle.bmx_places.specs.Laws.{ShapesAgree, PlacesAgree}

abbrev pub world_in : Play → World
world_in p = world_of p.nodes p.past

-- ## a legal one

-- 0.2 is stored in 0.1, and a grant of 0.1 is in flight to node 1
abbrev pub granted : Play
granted = played (one_bunch 2) (
    Do 0 (command.New 0 0 1) ∷ Do 0 (command.Write anchor) ∷ Do 0 (command.Set anchor 0 r0) ∷ Do 0 (command.Done anchor)
    ∷ Do 1 (command.Read anchor) ∷ Next 1 0 ∷ Serve 0 1 ∷ [])

abbrev pub the_grant : Letter
the_grant = record { seq = 1; stamp = 6; msg = msg.ReadGrant the_anchor (told.Ref the_object ∷ replicate 31 told.Null) }

-- the laws speak of something: that history is legal, its letter in flight tells where 0.2 lies, which is where it lies
-- at node 0, and the event that takes the letter makes of it a longer one, which is legal too
pub record LawsApply : Type 0 where
  pub opening : IsOpening (one_bunch 2).nodes (one_bunch 2).limit (one_bunch 2).births
  pub legal : IsLegal (one_bunch 2) granted.past
  pub letter : in_flight 0 1 granted.past ≡ the_grant ∷ []
  pub told : Contains (infos the_grant.msg) the_object
  pub kept : ((world_in granted).places 0).place 2 ≡ Some the_object.place
  pub longer : IsLegal (one_bunch 2) told_of_the_object.past
  pub takes : (e : Event) × Contains told_of_the_object.past e × (letter_in e.input ≡ Some (0, the_grant))

-- ## one by a wrong rule

-- node 1 takes the grant, but learns no places from it
abbrev pub unlearnt : Play
unlearnt = record (told_of_the_object) {
  nodes = put told_of_the_object.nodes 1 (record { state = (told_of_the_object.nodes 1).state; places = (granted.nodes 1).places });
}

-- ## one with an outcome changed

-- node 1 asks for the anchor to write it
abbrev pub asked : Play
asked = played (one_bunch 2) (Do 1 (command.Write anchor) ∷ Next 1 0 ∷ [])

-- node 0 serves it as it must, but for what the letter says
abbrev pub served : Reaction
served = rule (one_bunch 2) 0 (asked.nodes 0).state (told_at (one_bunch 2) 0 (asked.nodes 0) (input.Serve 1)) (input.Serve 1)

-- the anchor with a field too few, at an address at which it doesn't lie
abbrev pub mistold_anchor : Info
mistold_anchor = record (the_anchor) { size = 31; place = record { address = 0x100000024; moves = 0 } }

abbrev pub mistold_grant : Letter
mistold_grant = record { seq = 1; stamp = 3; msg = msg.WriteGrant mistold_anchor (replicate 32 told.Null) }

abbrev pub mistold : Play
mistold = with_outcome asked 0 3 (input.Serve 1) (record (served) { drafts = record { to = 1; msg = mistold_grant.msg } ∷ [] })

-- node 1 answers as its rule says
abbrev pub strayed : Play
strayed = with_input (one_bunch 2) mistold 1 (input_of mistold.past (Next 0 1))

-- the letter told of is the one in flight
mistold_is_in_flight : in_flight 0 1 mistold.past ≡ mistold_grant ∷ []
mistold_is_in_flight = refl

-- and each statement fails there, so the history isn't legal; and where no places are learnt, one is without its place
pub record LawsFail : Type 0 where
  pub illegal : IsLegal (one_bunch 2) strayed.past → ⊥
  pub stray : (e : Event) × Contains strayed.past e × (e.done.answer ≡ answer.Stray)
  pub ledger : HasLedger (one_bunch 2) (world_in mistold) → ⊥
  pub shapes : ShapesAgree (world_in mistold) → ⊥
  pub places : PlacesAgree (world_in mistold) → ⊥
  pub unplaced : PlacesAgree (world_in unlearnt) → ⊥
  pub clash : some_clash 0 1 ((world_in mistold).state 1).known ((world_in mistold).places 1) (infos mistold_grant.msg) ≢ false
  pub next : (done : Done) × (after : Node) × IsStep (one_bunch 2) 1 (mistold.nodes 1) 4 (input.Take 0 mistold_grant) done after × (done.answer ≡ answer.Stray)

-- each law holds of something, and not of everything
abbrev pub LawsTell : Type 0
LawsTell = LawsApply × LawsFail
