-- What the model of one object sees of a store: of each node what it has of the object, and of each
-- letter what it says of it.
use Rattle.std.specs.Prelude.{ℕ, ◌==◌, Bool, false, if◌then◌else◌, List, [], map, Option, Some, None}
use Rattle.std.specs.Option.{option_map, option_map_or}
use Rattle.std.specs.List.{list_any}
use Rattle.bmx_types.specs.declared.addresses.Info.{Info}
use Rattle.bmx_msg.specs.declared.letters.Field.{Field}
use Rattle.bmx_msg.specs.declared.letters.Msg.{Msg}
use Rattle.bmx_msg.specs.declared.letters.Letter.{Letter}
use Rattle.bmx_msg.specs.Letters.{targets}
use Rattle.bmx_owner.specs.declared.entering.Record.{Record}
use Rattle.bmx_token.specs.Transitions.{Share, Note}
use Rattle.bmx_token_model.specs.Machine.{Message, Numbers, Object, Unnumbered}
use Rattle.bmx_protocol.specs.Nodes.{Setting, Known, share_of}
use Rattle.bmx_protocol.specs.Rules.{Draft, name_in, note_in, grant_in}
use Rattle.bmx_protocol.specs.Steps.{first_node}
use Rattle.bmx_protocol.specs.Worlds.{World, world_of}

-- ## a letter

-- names have x
abbrev pub has_name : ℕ → List ℕ → Bool
has_name x names = list_any (λ y. y == x) names

-- the note on x in a message, where the message is about x
abbrev pub seen_note : ℕ → Msg → Option Note
seen_note x m = if name_in m == x then Some (note_in m) else None

-- a message tells of x: it brings a field that refers to x
abbrev pub tells_of : ℕ → Msg → Bool
tells_of x m = option_map_or (λ (g : Info × List Field). has_name x (targets g.1)) (grant_in m) false

-- a letter, with its number
abbrev pub seen_message : ℕ → Letter → Message
seen_message x l = record { seq = l.seq; note = seen_note x l.msg; tells = tells_of x l.msg }

-- a letter before it has its number
abbrev pub seen_draft : ℕ → Draft → Unnumbered
seen_draft x d = record { to = d.to; note = seen_note x d.msg; tells = tells_of x d.msg }

-- ## a store

-- what is known of an object
abbrev pub seen_known : Option Known → Option Share
seen_known k = option_map share_of k

-- the numbers of an entering record
abbrev pub seen_record : Option Record → Option Numbers
seen_record r = option_map (λ (q : Record). record { sent = q.sent; got = q.got }) r

-- the object x over all nodes of a store
abbrev pub seen : ℕ → World → Object
seen x w = record {
  holds = λ n. seen_known ((w.state n).known x);
  channel = λ n m. map (seen_message x) (w.channel n m);
  entering = λ n m. seen_record ((w.state n).entering x m);
  issued = λ n m. (w.state n).issued m;
  taken = λ n m. (w.state n).taken m;
}

-- the world at the opening
abbrev pub first_world : Setting → World
first_world st = world_of (first_node st) []
