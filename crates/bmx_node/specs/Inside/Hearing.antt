-- When a node can hear of objects.
use Rattle.std.specs.Prelude.{◌≡◌, ℕ, ◌+◌, ◌≤◌, ◌<◌, ◌^◌, true, false, List, All, Option, Some, None, IsSome, is_some}
use Rattle.std.specs.Option.{option_map_or}
use Rattle.bmx_types.specs.Words.{name_word, anchor_of}
use Rattle.bmx_token.specs.declared.parts.Part.{Part}
use Rattle.bmx_token.specs.declared.parts.Role.TheVariants.{Owner}
use Rattle.bmx_tokens.specs.Tables.{part_of}
use Rattle.bmx_memory.specs.Shown.{Object, shown}
use Rattle.bmx_node.specs.Inside.Keeping.{IsFit}
use Rattle.bmx_types.specs.Words.{maker, count_of}
use Rattle.bmx_types.specs.declared.addresses.Info.{Info}
use Rattle.bmx_protocol.specs.Strays.{some_clash}
use Rattle.bmx_memory.specs.Contents.{room_of}
use Rattle.bmx_node.specs.declared.holdings.Holdings.{Holdings}
use Rattle.bmx_node.specs.Seen.{state_of, places_of}

-- the name is none of the node's own that it hasn't made
abbrev pub IsNotToCome : ℕ → ℕ → ℕ → Type 0
IsNotToCome me made name = maker name ≡ me → count_of name ≤ made

-- objects of which a node hears one after another clash with nothing, are no larger than an object may be, and
-- their names are made
pub record CanHear (h : Holdings) (from : ℕ) (infos : List Info) : Type 0 where
  pub fits : some_clash h.me from (state_of h).known (places_of h) infos ≡ false
  pub small : All (λ (i : Info). i.size ≤ 32) infos
  pub made : All (λ (i : Info). IsNotToCome h.me h.made i.name) infos

-- there is room to hear of so many
pub record Rooms (h : Holdings) (n : ℕ) : Type 0 where
  pub objects : n ≤ room_of h.memory
  pub tokens : n ≤ h.tokens.spare

-- the objects and the tokens of names go together, but that the owner of one name may lack its copy
pub record AgreeBut (but me made bunches : ℕ) (object : ℕ → Option Object) (part : ℕ → Option Part) : Type 0 where
  pub same : (name : ℕ) → is_some (part name) ≡ is_some (object name)
  pub fit : (name : ℕ) (p : Part) → part name ≡ Some p → IsFit p
  pub owners : (name : ℕ) (p : Part) → (but ≡ name → ⊥) → part name ≡ Some p → p.role ≡ Owner → option_map_or (λ (o : Object). is_some o.copy) (object name) false ≡ true
  pub fresh : (count : ℕ) → made < count → count < 2 ^ 56 → object (name_word me count) ≡ None
  pub anchors : (bunch : ℕ) → bunch < bunches → IsSome (object (anchor_of bunch))

-- holdings between the change of a token and that of its copy
pub record KeepsBut (but : ℕ) (h : Holdings) : Type 0 where
  pub me : (shown h.memory).me ≡ h.me
  pub tokens : h.tokens.me ≡ h.me
  pub few : h.made ≤ h.clock + 320001
  pub agree : AgreeBut but h.me h.made h.store.bunches (shown h.memory).object (part_of h.tokens)

-- the same, whichever name that is
abbrev pub KeepsMost : Holdings → Type 0
KeepsMost h = (but : ℕ) × KeepsBut but h

-- all is as it was, but for the room that there is
abbrev pub OnlyRoom : Holdings → Holdings → Type 0
OnlyRoom old new =
    (new ≡ record old { memory = new.memory; tokens = record old.tokens { spare = new.tokens.spare }; mail = record old.mail { spare = new.mail.spare } })
    × (shown new.memory ≡ shown old.memory)
