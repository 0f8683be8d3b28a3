-- What holds of the steps of a node with a collector by the definitions alone, whatever came before them, and of legal
-- histories of such nodes.
use Rattle.std.specs.Prelude.{◌≡◌, ℕ, ◌+◌, ◌^◌, ◌++◌, ◌<◌, ◌≤◌, ◌↔◌, false, true, List, [], ◌∷◌, length, map, Some, None}
use Rattle.bmx_types.specs.Openings.{IsOpening}
use Rattle.bmx_table.specs.declared.tables.Table.{Table}
use Rattle.bmx_clean.specs.declared.cleaner.Applied.TheVariants.{Early, Removed}
use Rattle.bmx_protocol.specs.Nodes.{Setting, NodeState, Known, AreAll}
use Rattle.bmx_protocol.specs.Places.{Places}
use Rattle.bmx_protocol.specs.declared.events.Event.{Event}
use Rattle.bmx_protocol.specs.Histories.{issued, AreAfter, IsLegal}
use Rattle.bmx_protocol.specs.Runs.Programs.{CanServe}
use Rattle.bmx_protocol.specs.Laws.{IsRefusal}
use Rattle.bmx_collection.specs.Links.{Links, LinkView, ShowsLinks, AreShownAlike}
use Rattle.bmx_collection.specs.Reach.{is_entry, refers, is_busy, IsRoot, IsReachedHere, MayBeKept}
use Rattle.bmx_collection.specs.Steps.{LinkedNode, unlinked, first_linked, CollectorInput, Collect, Sweep, TakeTable, CollectorAnswer, Forgot, Swept, Cleaned, Nil, Refused, Stray, CollectorDone, MakeTable, IsCollectorTold, IsCollectorStep, counted}
use Rattle.bmx_owner.specs.declared.entering.Record.{Record}
use Rattle.bmx_collection.specs.Windows.{IsReachedIn, window_of_one}
use Rattle.bmx_collection.specs.Finding.{found}
use Rattle.bmx_collection.specs.Histories.{Deed, Plain, Collector, input_of, LinkedEvent, plainly, plain_events, IsDeed, ReplaysLinked, IsLegalLinked, IsWithoutCollector}
use Rattle.bmx_collection.specs.Worlds.{LinkedWorld, linked_world_of, PairsStand, StubsHaveScions, NoTableEndsAScion}

-- ## one step

-- a step makes one outcome and one node of a node, an input and a stamp
abbrev pub CollectorStepIsDetermined : Type 0
CollectorStepIsDetermined =
    (st : Setting) (me stamp : ℕ) (i : CollectorInput) (n n' m' : LinkedNode) (c d : CollectorDone) →
    IsCollectorStep st me n stamp i c n' → IsCollectorStep st me n stamp i d m' → (c ≡ d) × (n' ≡ m')

-- the answers of a step that is refused: segments are lacking, or the table doesn't fit
abbrev pub IsCollectorRefusal : CollectorAnswer → Type 0
IsCollectorRefusal (Forgot entries) = ⊥
IsCollectorRefusal (Swept segments) = ⊥
IsCollectorRefusal (Cleaned what) = ⊥
IsCollectorRefusal Nil = ⊥
IsCollectorRefusal (Refused why) = Unit {0}
IsCollectorRefusal Stray = Unit {0}

-- a refused step makes no table, and changes nothing of the node but that it is counted
abbrev pub CollectorRefusalKeeps : Type 0
CollectorRefusalKeeps =
    (st : Setting) (me stamp : ℕ) (i : CollectorInput) (n n' : LinkedNode) (d : CollectorDone) →
    IsCollectorStep st me n stamp i d n' → IsCollectorRefusal d.answer → (d.table ≡ None) × (n' ≡ counted n)

-- ## one step, by any input

-- a step makes one outcome and one node of a node, an input and a stamp, whichever input it is
abbrev pub EachStepIsDetermined : Type 0
EachStepIsDetermined =
    (st : Setting) (me stamp : ℕ) (n n' m' : LinkedNode) (c d : Deed) → input_of c ≡ input_of d →
    IsDeed st me n stamp c n' → IsDeed st me n stamp d m' → (c ≡ d) × (n' ≡ m')

-- what a node did was refused
abbrev pub IsRefusedDeed : Deed → Type 0
IsRefusedDeed (Plain i d) = IsRefusal d.answer
IsRefusedDeed (Collector i d) = IsCollectorRefusal d.answer

-- no letter was issued, and no table made
abbrev pub IsSilentDeed : Deed → Type 0
IsSilentDeed (Plain i d) = d.letters ≡ []
IsSilentDeed (Collector i d) = d.table ≡ None

-- a refused step, by whatever input, issues no letter, makes no table, and changes nothing of the node but that it is
-- counted
abbrev pub EachRefusalKeeps : Type 0
EachRefusalKeeps =
    (st : Setting) (me stamp : ℕ) (n n' : LinkedNode) (d : Deed) →
    IsDeed st me n stamp d n' → IsRefusedDeed d → IsSilentDeed d × (n' ≡ counted n)

-- ## tokens

-- the node issued no letter and took none, its registers are as before, and it made no name
pub record IsSilent (old new : NodeState) : Type 0 where
  pub issued : new.issued ≡ old.issued
  pub taken : new.taken ≡ old.taken
  pub registers : new.register ≡ old.register
  pub made : new.made ≡ old.made
  pub clock : new.clock ≡ old.clock + 1

-- no token is touched: an entry that stands is as it was, its token and its fields among it, and of one that goes
-- nothing was going on, and no record of it stood
pub record LeavesTokens (old new : NodeState) : Type 0 where
  pub stands : (name : ℕ) (k : Known) → new.known name ≡ Some k → old.known name ≡ Some k
  pub idle : (name : ℕ) (k : Known) → old.known name ≡ Some k → new.known name ≡ None → is_busy k.part ≡ false
  pub unrecorded : (name node : ℕ) (k : Known) → old.known name ≡ Some k → new.known name ≡ None → old.entering name node ≡ None

-- a collector's step issues no letter and touches no token
abbrev pub CollectorTouchesNoToken : Type 0
CollectorTouchesNoToken =
    (st : Setting) (me stamp : ℕ) (i : CollectorInput) (n n' : LinkedNode) (d : CollectorDone) →
    IsCollectorStep st me n stamp i d n' → IsSilent n.state n'.state × LeavesTokens n.state n'.state

-- ## what is kept

-- the local reach may be kept
abbrev pub ReachMayBeKept : Type 0
ReachMayBeKept = (s : NodeState) (l : Links) (bunch : ℕ) (kept : List ℕ) → AreAll (IsReachedHere s l bunch) kept → MayBeKept s l bunch kept

-- where no copy refers to anything, what is reached are the roots
abbrev pub ReachWithoutReferencesIsRoots : Type 0
ReachWithoutReferencesIsRoots =
    (s : NodeState) (l : Links) (bunch : ℕ) → ((from name : ℕ) → refers s from name ≡ false) →
    (name : ℕ) → IsReachedHere s l bunch name → (is_entry s bunch name ≡ true) × IsRoot s l bunch name

-- what a collection of the bunch with that window leaves of a node that was so just before it was finished: each entry
-- that was reached then, none of the bunch that wasn't reached in the window, and all others
pub record KeepsItsReach (old new : LinkedNode) (window : List LinkedNode) (bunch : ℕ) : Type 0 where
  pub kept : (name : ℕ) → IsReachedHere old.state old.links bunch name → new.state.known name ≡ old.state.known name
  pub no_more : (name : ℕ) → is_entry new.state bunch name ≡ true → IsReachedIn window bunch name
  pub others : (name : ℕ) → is_entry old.state bunch name ≡ false → new.state.known name ≡ old.state.known name

-- a collection that forgot so many entries kept its reach, and nothing outside its window; and the window of one in one
-- event holds its reach and nothing else
pub record CollectionKeepsItsReach : Type 0 where
  pub finished : (st : Setting) (me stamp bunch entries : ℕ) (n n' : LinkedNode) (d : CollectorDone) →
      IsCollectorStep st me n stamp (Collect bunch) d n' → d.answer ≡ Forgot entries → KeepsItsReach n n' (window_of_one n) bunch
  pub window : (n : LinkedNode) (bunch name : ℕ) → IsReachedIn (window_of_one n) bunch name ↔ IsReachedHere n.state n.links bunch name

-- ## tables

-- nothing was removed: the table was stray or early, or removed none
abbrev pub RemovedNothing : CollectorAnswer → Type 0
RemovedNothing (Forgot entries) = ⊥
RemovedNothing (Swept segments) = ⊥
RemovedNothing (Cleaned Early) = Unit {0}
RemovedNothing (Cleaned (Removed many)) = many ≡ 0
RemovedNothing Nil = ⊥
RemovedNothing (Refused why) = ⊥
RemovedNothing Stray = Unit {0}

-- a table that is taken twice in a row removes nothing the second time, and the node is as before but for the count
abbrev pub SecondTakingRemovesNothing : Type 0
SecondTakingRemovesNothing =
    (st : Setting) (me stamp later : ℕ) (t : Table) (n m n' : LinkedNode) (c d : CollectorDone) →
    IsCollectorStep st me n stamp (TakeTable t) c m → IsCollectorStep st me m later (TakeTable t) d n' →
    RemovedNothing d.answer × (n' ≡ counted m)

-- ## lists found by looking

-- a record is one of a name and a node, both below n
pub record IsRecordBelow (n name node : ℕ) (r : Record) : Type 0 where
  pub of_name : r.name ≡ name
  pub of_node : r.from ≡ node
  pub name_below : name < n
  pub node_below : node < n

-- all names that a node knows or has records of, and the nodes of these, are below n
pub record IsWithin (n : ℕ) (s : NodeState) : Type 0 where
  pub names : (name : ℕ) (k : Known) → s.known name ≡ Some k → name < n
  pub records : (name node : ℕ) (r : Record) → s.entering name node ≡ Some r → IsRecordBelow n name node r

-- all segments that are mapped, their homes, and the bunches that have one open, are below n
pub record AreWithin (n : ℕ) (a : Places) : Type 0 where
  pub mapped : (home segment : ℕ) → a.mapped home segment ≡ true → (home < n) × (segment < n)
  pub opened : (bunch segment : ℕ) → a.opened bunch ≡ Some segment → bunch < n

-- what is found below n is what a collector's step is to be told, where the node has nothing else
pub record FoundIsTold : Type 0 where
  pub collections : (n me bunch : ℕ) (node : LinkedNode) → IsWithin n node.state →
      IsCollectorTold me node (Collect bunch) (found n me node (Collect bunch))
  pub sweeps : (n me : ℕ) (node : LinkedNode) → n ≤ 2 ^ 24 → AreWithin n node.places →
      IsCollectorTold me node Sweep (found n me node Sweep)
  pub tables : (n me bunch to : ℕ) (node : LinkedNode) → IsWithin n node.state →
      IsCollectorTold me node (MakeTable bunch to) (found n me node (MakeTable bunch to))
  pub takings : (n me : ℕ) (t : Table) (node : LinkedNode) → IsWithin n node.state →
      IsCollectorTold me node (TakeTable t) (found n me node (TakeTable t))

-- ## histories

-- each prefix of a legal history with collectors is legal
abbrev pub PrefixIsLegalLinked : Type 0
PrefixIsLegalLinked = (st : Setting) (past rest : List LinkedEvent) → IsLegalLinked st (past ++ rest) → IsLegalLinked st past

-- such a history leads to one world of nodes
abbrev pub LinkedReplayIsDetermined : Type 0
LinkedReplayIsDetermined =
    (st : Setting) (history : List LinkedEvent) (nodes others : ℕ → LinkedNode) →
    ReplaysLinked st (first_linked st) history nodes → ReplaysLinked st (first_linked st) history others → nodes ≡ others

-- the other laws of histories stand with collectors as without: that of no event is legal; no stamp of a legal one is larger
-- than its event's place; a node counts the letters that its history issued; the names that can be served can be listed
pub record LawsOfHistoriesStand : Type 0 where
  pub empty : (st : Setting) → IsLegalLinked st []
  pub stamps : (st : Setting) (past rest : List LinkedEvent) (e : LinkedEvent) → IsLegalLinked st (past ++ e ∷ rest) → e.stamp ≤ length past + 1
  pub letters : (st : Setting) (history : List LinkedEvent) (nodes : ℕ → LinkedNode) → ReplaysLinked st (first_linked st) history nodes →
      (n m : ℕ) → (nodes n).state.issued m ≡ length (issued n m (plain_events history))
  pub serves : (st : Setting) (history : List LinkedEvent) (nodes : ℕ → LinkedNode) → ReplaysLinked st (first_linked st) history nodes →
      (n : ℕ) → (names : List ℕ) × AreAll (CanServe n (nodes n).state) names

-- a history without collectors is legal exactly where its events are legal by the rules without them, and leads to
-- nodes of the same states and places; each history by those rules is such a one
pub record WithoutCollectorsAlike : Type 0 where
  pub legal : (st : Setting) (history : List LinkedEvent) → IsWithoutCollector history → IsLegalLinked st history ↔ IsLegal st (plain_events history)
  pub nodes : (st : Setting) (history : List LinkedEvent) (nodes : ℕ → LinkedNode) → IsWithoutCollector history →
      ReplaysLinked st (first_linked st) history nodes → AreAfter st (plain_events history) (λ n. unlinked (nodes n))
  pub each : (history : List Event) → IsWithoutCollector (map plainly history) × (plain_events (map plainly history) ≡ history)

-- what holds of the world after each legal history with collectors
abbrev pub AlwaysLinked : (LinkedWorld → Type 0) → Type 0
AlwaysLinked Holds =
    (st : Setting) (history : List LinkedEvent) (nodes : ℕ → LinkedNode) → IsLegalLinked st history →
    ReplaysLinked st (first_linked st) history nodes → Holds (linked_world_of nodes history)

-- the homes of mapped segments, and the bunches that have one open, are below n
pub record AreOfFew (n : ℕ) (a : Places) : Type 0 where
  pub homes : (home segment : ℕ) → a.mapped home segment ≡ true → home < n
  pub bunches : (bunch segment : ℕ) → a.opened bunch ≡ Some segment → bunch < n

-- after each legal history each node has finitely many names, homes and bunches; and so there is what its collector is told
-- of each input: whatever came before, it has a step by it
pub record CollectorsCanStep : Type 0 where
  pub names : AlwaysLinked (λ w. (node : ℕ) → (n : ℕ) × IsWithin n (w.world.state node))
  pub places : AlwaysLinked (λ w. (node : ℕ) → (n : ℕ) × AreOfFew n (w.world.places node))
  pub steps : (st : Setting) (history : List LinkedEvent) (nodes : ℕ → LinkedNode) → IsLegalLinked st history →
      ReplaysLinked st (first_linked st) history nodes → (me stamp : ℕ) (i : CollectorInput) →
      (d : CollectorDone) × (n : LinkedNode) × IsCollectorStep st me (nodes me) stamp i d n

-- each stub has its scion
abbrev pub StubsAreAnswered : Type 0
StubsAreAnswered = AlwaysLinked StubsHaveScions

-- no table that was made so far, however late and often it comes, ends a scion whose stub stands
abbrev pub ScionsAreSafe : Type 0
ScionsAreSafe = AlwaysLinked NoTableEndsAScion

-- what copies refer to is known at their nodes, and has its pair there where it is of another bunch
abbrev pub PairsAlwaysStand : Type 0
PairsAlwaysStand =
    (st : Setting) (history : List LinkedEvent) (nodes : ℕ → LinkedNode) → IsOpening st.nodes st.limit st.births → IsLegalLinked st history →
    ReplaysLinked st (first_linked st) history nodes → PairsStand st (linked_world_of nodes history)

-- ## links

-- a node's links have at most one view, a view shows one value of links, and after each legal history the links of each
-- node have one
pub record LinksHaveOneView : Type 0 where
  pub one_view : (nodes : ℕ) (l : Links) (v w : LinkView) → ShowsLinks nodes v l → ShowsLinks nodes w l → v ≡ w
  pub one_value : (nodes : ℕ) (v : LinkView) (l m : Links) → ShowsLinks nodes v l → ShowsLinks nodes v m → AreShownAlike nodes l m
  pub always : AlwaysLinked (λ w. (n nodes : ℕ) → (v : LinkView) × ShowsLinks nodes v (w.links n))
