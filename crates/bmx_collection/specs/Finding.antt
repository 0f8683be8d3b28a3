-- The lists that a collector's step is told, found by looking at the first so many names, nodes, bunches and segments.
-- Runs worked by hand are told these; where a node has no others they are the ones that the rules ask for.
use Rattle.std.specs.Prelude.{ℕ, zero, suc, ◌+◌, ◌==◌, ◌&&◌, ◌||◌, not, Bool, true, false, if◌then◌else◌, List, [], ◌∷◌, map, filter, filter_map, is_some}
use Rattle.std.specs.Option.{option_map_or}
use Rattle.std.specs.List.{list_any, flat_map}
use Rattle.bmx_types.specs.Words.{anchor_of, address_word, home_of, segment_of}
use Rattle.bmx_types.specs.declared.values.Val.{Val}
use Rattle.bmx_types.specs.declared.values.Val.TheVariants as val
use Rattle.bmx_owner.specs.declared.entering.Record.{Record}
use Rattle.bmx_owner.specs.Records.{is_listed}
use Rattle.bmx_protocol.specs.Nodes.{NodeState}
use Rattle.bmx_protocol.specs.Places.{Places, any_below}
use Rattle.bmx_collection.specs.Links.{Links}
use Rattle.bmx_collection.specs.Reach.{is_known_as, is_entry, is_owned, is_child, is_busy, refers}
use Rattle.bmx_collection.specs.Forgetting.{goes}
use Rattle.bmx_collection.specs.Sweeps.{has_object}
use Rattle.bmx_collection.specs.Steps.{LinkedNode, CollectorInput, Collect, Sweep, MakeTable, TakeTable, CollectorTold}

-- of n numbers from k on those that pass a test, rising
abbrev pub passing : (ℕ → Bool) → ℕ → ℕ → List ℕ
passing test k zero = []
passing test k (suc n) = if test k then k ∷ passing test (k + 1) n else passing test (k + 1) n

-- the numbers below n
abbrev pub below : ℕ → List ℕ
below n = passing (λ k. true) 0 n

-- a register holds a reference to the object of a name
abbrev pub is_value_of : ℕ → Val → Bool
is_value_of name val.Null = false
is_value_of name (val.Int k) = false
is_value_of name (val.Ref other) = other == name

-- a name is a root of the bunch, as far as nodes below n have records of it
abbrev pub is_root : ℕ → NodeState → Links → ℕ → ℕ → Bool
is_root n s l bunch name =
    any_below 16 (λ r. is_value_of name (s.register r))
    || name == anchor_of bunch
    || is_known_as (λ k. is_busy k.part) s name
    || any_below n (λ node. is_some (s.entering name node))
    || list_any (λ c. c.target == name) l.scions

-- the names below n that are reached from roots in so many steps
abbrev pub reached_in : ℕ → ℕ → NodeState → Links → ℕ → List ℕ
reached_in zero n s l bunch = passing (λ name. is_entry s bunch name && is_root n s l bunch name) 0 n
reached_in (suc steps) n s l bunch =
    let reached : List ℕ = reached_in steps n s l bunch in
    passing (λ name. is_entry s bunch name && (is_listed reached name || list_any (λ from. refers s from name) reached)) 0 n

-- the records of names below n from nodes below n, in order
abbrev pub records_below : ℕ → NodeState → List Record
records_below n s = flat_map (λ name. filter_map (s.entering name) (below n)) (below n)

-- a sweep drops the segment of this first word, as far as bunches below n have one open
abbrev pub is_dropped : ℕ → ℕ → Places → ℕ → Bool
is_dropped n me a first =
    a.mapped (home_of first) (segment_of first)
    && not (home_of first == me && any_below n (λ bunch. option_map_or (λ segment. segment == segment_of first) (a.opened bunch) false))
    && not (has_object a (home_of first) (segment_of first))

-- the first words of so many segments of so many homes, rising
abbrev pub first_words : ℕ → ℕ → List ℕ
first_words homes segments = flat_map (λ home. map (λ segment. address_word home segment 0) (below segments)) (below homes)

-- told no list
abbrev pub told_nothing : CollectorTold
told_nothing = record { kept = []; owned = []; gone = []; children = []; records = []; dropped = [] }

-- a collection is told these, where the kept names are so
abbrev pub told_kept : ℕ → LinkedNode → ℕ → List ℕ → CollectorTold
told_kept n node bunch kept = record told_nothing {
  kept = kept;
  owned = passing (is_owned node.state bunch) 0 n;
  gone = passing (goes node.state bunch kept) 0 n;
}

-- what an input is told at node me
abbrev pub found : ℕ → ℕ → LinkedNode → CollectorInput → CollectorTold
found n me node (Collect bunch) = told_kept n node bunch (reached_in n n node.state node.links bunch)
found n me node Sweep = record told_nothing { dropped = filter (is_dropped n me node.places) (first_words n n) }
found n me node (MakeTable bunch to) = record told_nothing { children = passing (is_child node.state bunch to) 0 n }
found n me node (TakeTable table) = record told_nothing { records = records_below n node.state }
