-- What holds as histories grow.
use Rattle.std.specs.Prelude.{◌≡◌, ℕ, ◌+◌, ◌^◌, ◌<◌, List, [], ◌∷◌, ◌++◌, length, drop}
use Rattle.bmx_types.specs.Openings.{IsOpening}
use Rattle.bmx_types.specs.Updates.{put}
use Rattle.bmx_protocol.specs.declared.events.Event.{Event}
use Rattle.bmx_protocol.specs.Nodes.{Setting}
use Rattle.bmx_protocol.specs.Steps.{Node, first_node, stamp_after}
use Rattle.bmx_protocol.specs.Histories.{issued, arrived, in_flight, AreAfter, IsLegal}
use Rattle.bmx_legal.specs.Growing.{Leads, MayFollow}

-- as a store opens, the history of no event leads to the first nodes, with no stamp
abbrev pub HistoryBegins : Type 0
HistoryBegins = (st : Setting) → Leads st [] (first_node st) (λ n. 0)

-- a legal history grows by a step that takes the first letter in flight
abbrev pub HistoryGrows : Type 0
HistoryGrows =
    (st : Setting) (past : List Event) (nodes : ℕ → Node) (stamps : ℕ → ℕ) (e : Event) (n : Node) →
    IsOpening st.nodes st.limit st.births → Leads st past nodes stamps → MayFollow st past nodes stamps e n → length past + 1 < 2 ^ 55 →
    Leads st (past ++ e ∷ []) (put nodes e.node n) (put stamps e.node e.stamp)

-- an event of a legal history takes its letter, if it takes one, from the front of those in flight, and adds those that it
-- issues at their end
abbrev pub FlightGrows : Type 0
FlightGrows =
    (st : Setting) (past : List Event) (e : Event) → IsOpening st.nodes st.limit st.births → IsLegal st (past ++ e ∷ []) → (n m : ℕ) →
    in_flight n m (past ++ e ∷ []) ≡ drop (length (arrived n m (e ∷ []))) (in_flight n m past) ++ issued n m (e ∷ [])

-- and no other way: each event of a legal history may come next after those before it, if it has the stamp that a driver gives it
abbrev pub EachMayFollow : Type 0
EachMayFollow =
    (st : Setting) (past rest : List Event) (nodes : ℕ → Node) (stamps : ℕ → ℕ) (e : Event) →
    IsOpening st.nodes st.limit st.births → IsLegal st (past ++ e ∷ rest) → AreAfter st past nodes →
    e.stamp ≡ stamp_after (stamps e.node) e.input → (n : Node) × MayFollow st past nodes stamps e n
