-- Letters as a node takes them in.
use Rattle.std.specs.Prelude.{◌≡◌, ℕ, ◌+◌, ◌^◌, ◌<◌, ◌==◌, true, if◌then◌else◌, List, length}
use Rattle.std.specs.Option.{option_map_or}
use Rattle.bmx_types.specs.declared.addresses.Info.{Info}
use Rattle.bmx_msg.specs.declared.letters.Field.{Field}
use Rattle.bmx_msg.specs.declared.letters.Msg.{Msg}
use Rattle.bmx_protocol.specs.declared.inputs.Done.{Done}
use Rattle.bmx_protocol.specs.Places.{with_all_learnt}
use Rattle.bmx_protocol.specs.Rules.{grant_in, infos}
use Rattle.bmx_protocol.specs.Steps.{is_taken}
use Rattle.bmx_mail.specs.Mails.{taken_of}
use Rattle.bmx_node.specs.declared.holdings.Holdings.{Holdings}
use Rattle.bmx_node.specs.Seen.{state_of, places_of}
use Rattle.bmx_node.specs.Inside.Reacting.{Reacts, letter_on}
use Rattle.bmx_node.specs.Inside.Hearing.{CanHear}

-- a letter that isn't stray brings a grant that the node can hear of
pub record CanTake (h : Holdings) (from : ℕ) (m : Msg) : Type 0 where
  pub can : CanHear h from (infos m)
  pub fields : option_map_or (λ (g : Info × List Field). length g.1 == g.0.size) (grant_in m) true ≡ true

-- a letter's number is the next from its sender
abbrev pub IsNext : Holdings → ℕ → ℕ → Type 0
IsNext h from seq = (seq ≡ taken_of h.mail from + 1) × (seq < 2 ^ 64)

-- a letter's reaction, with the places that it leads to
pub record Took (stamp : ℕ) (old : Holdings) (from seq : ℕ) (m : Msg) (done : Done) (new : Holdings) : Type 0 where
  pub reacts : Reacts stamp (state_of old) (letter_on old from seq m) done (state_of new)
  pub places : places_of new ≡ (if is_taken done.answer then with_all_learnt (places_of old) (infos m) else places_of old)
