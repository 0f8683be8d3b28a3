-- When a letter is stray, whatever it says: its sender, number or stamp is wrong, it names what the
-- store doesn't have, or what it tells of objects doesn't fit what the node knows.
use Rattle.std.specs.Prelude.{ℕ, ◌+◌, ◌^◌, ◌==◌, ◌&&◌, ◌||◌, not, nat_lt, nat_le, Bool, false, List, [], ◌∷◌, length, Option, Some, None}
use Rattle.std.specs.Option.{option_map_or}
use Rattle.std.specs.List.{list_any}
use Rattle.bmx_types.specs.Words.{maker, count_of, home_of}
use Rattle.bmx_types.specs.Openings.{bunches_of}
use Rattle.bmx_types.specs.declared.addresses.Info.{Info}
use Rattle.bmx_msg.specs.declared.letters.Field.{Field}
use Rattle.bmx_msg.specs.declared.letters.Msg.{Msg}
use Rattle.bmx_msg.specs.declared.letters.Msg.TheVariants as msg
use Rattle.bmx_msg.specs.declared.letters.Letter.{Letter}
use Rattle.bmx_protocol.specs.Nodes.{Setting, Known, NodeState}
use Rattle.bmx_protocol.specs.Places.{Places, differs, clashes_at, with_learnt}
use Rattle.bmx_protocol.specs.Changes.{heard}
use Rattle.bmx_protocol.specs.Rules.{infos, name_in, grant_in}

-- the first stamp, and the first number of moves, that no letter may have
abbrev pub too_large : ℕ
too_large = 2 ^ 62

-- it is no node of the store
abbrev pub is_no_node : Setting → ℕ → Bool
is_no_node st n = nat_le st.nodes n

-- the name's maker is no node, or the name is one of this node's own that it hasn't made
abbrev pub is_no_name : Setting → ℕ → NodeState → ℕ → Bool
is_no_name st me s name = is_no_node st (maker name) || (maker name == me && nat_lt s.made (count_of name))

-- an Info has a name, a bunch, a home, a size or moves that can't be
abbrev pub is_bad_info : Setting → ℕ → NodeState → Info → Bool
is_bad_info st me s info =
    is_no_name st me s info.name
    || nat_le (bunches_of st.births) info.bunch
    || is_no_node st (home_of info.place.address)
    || nat_lt 32 info.size
    || nat_le too_large info.place.moves

-- the node for which a message asks
abbrev pub asker_in : Msg → Option ℕ
asker_in (msg.ReadReq name asker) = Some asker
asker_in (msg.WriteReq name asker) = Some asker
asker_in (msg.ReadGrant info fields) = None
asker_in (msg.WriteGrant info fields) = None
asker_in (msg.Inval name) = None
asker_in (msg.InvAck name) = None

-- a message names what can't be, or a grant has more or fewer fields than its size
abbrev pub is_bad_msg : Setting → ℕ → NodeState → Msg → Bool
is_bad_msg st me s m =
    is_no_name st me s (name_in m)
    || option_map_or (is_no_node st) (asker_in m) false
    || option_map_or (λ (g : Info × List Field). not (length g.1 == g.0.size)) (grant_in m) false
    || list_any (is_bad_info st me s) (infos m)

-- a letter from a node is bad by itself: its sender is this node or none, its number isn't the next,
-- its stamp is too large, or its message is bad
abbrev pub is_bad_letter : Setting → ℕ → NodeState → ℕ → Letter → Bool
is_bad_letter st me s from letter =
    from == me
    || is_no_node st from
    || not (letter.seq == s.taken from + 1)
    || nat_le too_large letter.stamp
    || is_bad_msg st me s letter.msg

-- an Info clashes with what a node knows and where it lies there
abbrev pub clashes : ℕ → (ℕ → Option Known) → Places → Info → Bool
clashes me known a info = option_map_or (λ k. differs k info) (known info.name) false || clashes_at me a info (a.place info.name)

-- one of the Infos from a node clashes with the node or with an earlier one, as they are learnt one
-- after another
abbrev pub some_clash : ℕ → ℕ → (ℕ → Option Known) → Places → List Info → Bool
some_clash me from known a [] = false
some_clash me from known a (info ∷ more) =
    clashes me known a info || some_clash me from (heard from known info) (with_learnt a info) more
