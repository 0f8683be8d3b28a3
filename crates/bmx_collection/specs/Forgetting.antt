-- What a collection makes of a node's state: the entries of the bunch that aren't kept are forgotten, and so are the
-- stubs of references that nothing kept has.
use Rattle.std.specs.Prelude.{◌≡◌, refl, true, false, ℕ, ◌==◌, ◌&&◌, not, Bool, if◌then◌else◌, List, Option, Some, None}
use Rattle.bmx_owner.specs.Records.{is_listed}
use Rattle.bmx_inter.specs.Inter.{stubs_kept}
use Rattle.bmx_protocol.specs.Nodes.{NodeState, Known}
use Rattle.bmx_collection.specs.Links.{Links}
use Rattle.bmx_collection.specs.Reach.{is_entry, refers}
use Rattle.bmx_token.specs.Tokens.{owner_part}

-- an entry of the bunch goes where it isn't kept
abbrev pub goes : NodeState → ℕ → List ℕ → ℕ → Bool
goes s bunch kept name = is_entry s bunch name && not (is_listed kept name)

-- what stays of what is known of a name
abbrev pub known_left : ℕ → Bool → Option Known → Option Known
known_left bunch kept None = None
known_left bunch kept (Some k) = if k.bunch == bunch && not kept then None else Some k

-- the state once the entries of the bunch that aren't kept are forgotten
abbrev pub forgotten : ℕ → List ℕ → NodeState → NodeState
forgotten bunch kept s = record s { known = λ name. known_left bunch (is_listed kept name) (s.known name) }

-- the links then: stubs of the bunch stay where their source is kept and refers to the target
abbrev pub links_kept : ℕ → List ℕ → NodeState → Links → Links
links_kept bunch kept s l = record l { stubs = stubs_kept bunch (is_listed kept) (refers s) l.stubs }

-- ## cases

-- an entry of bunch 0 stays where it is kept, and by a collection of another bunch
an_entry : Known
an_entry = record { bunch = 0; size = 1; copy = None; part = owner_part }

kept_or_not :
    (known_left 0 true (Some an_entry) ≡ Some an_entry) × (known_left 0 false (Some an_entry) ≡ None)
    × (known_left 1 false (Some an_entry) ≡ Some an_entry)
unfolding an_entry
kept_or_not = (refl, refl, refl)
