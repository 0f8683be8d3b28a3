-- What an event makes of the lanes that lead to the letters in flight.
use Rattle.std.proofs.Common.{◌≡◌, ℕ, refl, ap, sym, ◌∙◌, subst, Bool, false, cond, List, [], ◌∷◌, ◌++◌, length, Some, None}
use Rattle.std.specs.Prelude.{◌==◌, ◌≢◌, drop}
use Rattle.std.proofs.lemmas.List.{append-nil}
use Rattle.bmx_types.specs.Openings.{IsOpening}
use Rattle.bmx_types.specs.Updates.{put_at}
use Rattle.bmx_msg.specs.declared.letters.Letter.{Letter}
use Rattle.bmx_protocol.specs.declared.inputs.Input.{Input}
use Rattle.bmx_protocol.specs.declared.inputs.Input.TheVariants as input
use Rattle.bmx_protocol.specs.declared.inputs.Sending.{Sending}
use Rattle.bmx_protocol.specs.declared.events.Event.{Event}
use Rattle.bmx_protocol.specs.Nodes.{Setting}
use Rattle.bmx_protocol.specs.Steps.{letter_in}
use Rattle.bmx_protocol.specs.Histories.{IsLegal, in_flight, letter_from, letters_to}
use Rattle.bmx_protocol.proofs.Basics.{Two, Same, Apart, two, eqb_same, put_at_else, put_at_row, put_same, put_apart}
use Rattle.bmx_legal.specs.Inside.Spots.{Finds, spots_to}
use Rattle.bmx_legal.proofs.Spots.{finds_more, finds_grown, finds_new, finds_drop}
use Rattle.bmx_legal.proofs.Flight.{flight_sent, flight_apart, flight_kept, flight_taken, never_own}

-- lanes lead to the letters in flight
abbrev pub AllFound : List Event → (ℕ → ℕ → List (ℕ × ℕ)) → Type 0
AllFound history lane = (from to : ℕ) → Finds history (lane from to) (in_flight from to history)

-- the spots that an event's letters add
abbrev pub added : ℕ → ℕ → List Sending → ℕ → ℕ → List (ℕ × ℕ)
added n place letters from to = cond (from == n) (spots_to to place 0 letters) []

-- a lane of the node itself
own_lane : (st : Setting) (past : List Event) (e : Event) (to : ℕ) (spots all : List (ℕ × ℕ)) → IsOpening st.nodes st.limit st.births → IsLegal st (past ++ e ∷ []) →
    Finds past spots (in_flight e.node to past) → all ≡ spots ++ added e.node (length past) e.done.letters e.node to →
    Finds (past ++ e ∷ []) all (in_flight e.node to (past ++ e ∷ []))
own_lane st past e to spots all opening legal found is =
    subst (λ (l : List Letter). Finds (past ++ e ∷ []) all l) (sym (flight_sent st past e opening legal to))
    (subst (λ (s : List (ℕ × ℕ)). Finds (past ++ e ∷ []) s (in_flight e.node to past ++ letters_to to e.done.letters)) (sym (is ∙ same))
    (finds_more (past ++ e ∷ []) spots (spots_to to (length past) 0 e.done.letters) (in_flight e.node to past) (letters_to to e.done.letters)
    (finds_grown past (e ∷ []) spots (in_flight e.node to past) found) (finds_new past e to)))
  where
    same : spots ++ added e.node (length past) e.done.letters e.node to ≡ spots ++ spots_to to (length past) 0 e.done.letters
    same = ap (λ (b : Bool). spots ++ cond b (spots_to to (length past) 0 e.done.letters) []) (eqb_same e.node)

-- a lane of another node, whose letters in flight are these
other_lane : (past : List Event) (e : Event) (from to : ℕ) (spots all : List (ℕ × ℕ)) (letters : List Letter) → (from == e.node) ≡ false →
    Finds past spots letters → in_flight from to (past ++ e ∷ []) ≡ letters → all ≡ spots ++ added e.node (length past) e.done.letters from to →
    Finds (past ++ e ∷ []) all (in_flight from to (past ++ e ∷ []))
other_lane past e from to spots all letters apart found flight is =
    subst (λ (l : List Letter). Finds (past ++ e ∷ []) all l) (sym flight)
    (subst (λ (s : List (ℕ × ℕ)). Finds (past ++ e ∷ []) s letters) (sym (is ∙ same)) (finds_grown past (e ∷ []) spots letters found))
  where
    same : spots ++ added e.node (length past) e.done.letters from to ≡ spots
    same = ap (λ (b : Bool). spots ++ cond b (spots_to to (length past) 0 e.done.letters) []) apart ∙ append-nil spots

apart_of : (n m : ℕ) → n ≢ m → m ≢ n
apart_of n m q e = q (sym e)

-- an event that takes no letter
pub lanes_sent : (st : Setting) (past : List Event) (e : Event) (lane all : ℕ → ℕ → List (ℕ × ℕ)) → IsOpening st.nodes st.limit st.births → IsLegal st (past ++ e ∷ []) →
    letter_in e.input ≡ None → AllFound past lane → ((from to : ℕ) → all from to ≡ lane from to ++ added e.node (length past) e.done.letters from to) →
    AllFound (past ++ e ∷ []) all
lanes_sent st past e lane all opening legal none found is from to = by (two from e.node)
  where
    untaken : letter_from from e.input ≡ None
    untaken = none_from e.input none
      where
        none_from : (i : Input) → letter_in i ≡ None → letter_from from i ≡ None
        none_from (input.Do c) h = refl
        none_from (input.Serve name) h = refl
        none_from (input.Take m l) h = absurd (cc)

    by : Two from e.node → Finds (past ++ e ∷ []) (all from to) (in_flight from to (past ++ e ∷ []))
    by (Same q) =
        subst (λ (n : ℕ). Finds (past ++ e ∷ []) (all n to) (in_flight n to (past ++ e ∷ []))) (sym q)
        (own_lane st past e to (lane e.node to) (all e.node to) opening legal (found e.node to) (is e.node to))
    by (Apart t q) =
        other_lane past e from to (lane from to) (all from to) (in_flight from to past) t (found from to)
        (flight_kept st past e opening legal from to (apart_of from e.node q) untaken) (is from to)

-- an event that takes the first letter of a lane
pub lanes_taken : (st : Setting) (past : List Event) (e : Event) (sender : ℕ) (l : Letter) (rest : List Letter) (lane all : ℕ → ℕ → List (ℕ × ℕ)) →
    IsOpening st.nodes st.limit st.births → IsLegal st (past ++ e ∷ []) → e.input ≡ input.Take sender l → in_flight sender e.node past ≡ l ∷ rest →
    AllFound past lane →
    ((from to : ℕ) → all from to ≡ put_at lane sender e.node (drop 1 (lane sender e.node)) from to ++ added e.node (length past) e.done.letters from to) →
    AllFound (past ++ e ∷ []) all
lanes_taken st past e sender l rest lane all opening legal takes first found is from to = by (two from e.node) (two sender from) (two e.node to)
  where
    popped : ℕ → ℕ → List (ℕ × ℕ)
    popped = put_at lane sender e.node (drop 1 (lane sender e.node))

    not_own : sender ≢ e.node
    not_own = never_own st past e sender l opening legal takes

    elsewhere : (n m : ℕ) → (sender == n) ≡ false → popped n m ≡ lane n m
    elsewhere n m t = put_at_else lane sender e.node n m (drop 1 (lane sender e.node)) t

    untaken : (n : ℕ) → (sender == n) ≡ false → letter_from n e.input ≡ None
    untaken n t = ap (letter_from n) takes ∙ ap (λ (b : Bool). cond b (Some l) None) t

    by : Two from e.node → Two sender from → Two e.node to → Finds (past ++ e ∷ []) (all from to) (in_flight from to (past ++ e ∷ []))
    by (Same q) (Same r) u = absurd (not_own (r ∙ q))
    by (Same q) (Apart t r) u =
        subst (λ (n : ℕ). Finds (past ++ e ∷ []) (all n to) (in_flight n to (past ++ e ∷ []))) (sym q)
        (own_lane st past e to (lane e.node to) (all e.node to) opening legal (found e.node to)
        (is e.node to ∙ ap (λ (s : List (ℕ × ℕ)). s ++ added e.node (length past) e.done.letters e.node to) (elsewhere e.node to (subst (λ (n : ℕ). (sender == n) ≡ false) q t))))
    by (Apart t q) (Apart u r) v =
        other_lane past e from to (lane from to) (all from to) (in_flight from to past) t (found from to)
        (flight_kept st past e opening legal from to (apart_of from e.node q) (untaken from u))
        (is from to ∙ ap (λ (s : List (ℕ × ℕ)). s ++ added e.node (length past) e.done.letters from to) (elsewhere from to u))
    by (Apart t q) (Same r) (Apart u v) =
        other_lane past e from to (lane from to) (all from to) (in_flight from to past) t (found from to)
        (flight_apart st past e opening legal from to (apart_of from e.node q) v)
        (is from to ∙ ap (λ (s : List (ℕ × ℕ)). s ++ added e.node (length past) e.done.letters from to)
        (subst (λ (n : ℕ). popped n to ≡ lane n to) r (put_at_row lane sender e.node to (drop 1 (lane sender e.node)) ∙ put_apart (lane sender) e.node to (drop 1 (lane sender e.node)) u)))
    by (Apart t q) (Same r) (Same v) =
        other_lane past e from to (drop 1 (lane from to)) (all from to) rest t
        (subst (λ (x : List Letter). Finds past (drop 1 (lane from to)) (drop 1 x)) here (finds_drop past 1 (lane from to) (in_flight from to past) (found from to)))
        (subst (λ (n : ℕ). in_flight n to (past ++ e ∷ []) ≡ rest) r (subst (λ (m : ℕ). in_flight sender m (past ++ e ∷ []) ≡ rest) v (flight_taken st past e sender l rest opening legal takes first)))
        (is from to ∙ ap (λ (s : List (ℕ × ℕ)). s ++ added e.node (length past) e.done.letters from to) popped_here)
      where
        here : in_flight from to past ≡ l ∷ rest
        here = subst (λ (n : ℕ). in_flight n to past ≡ l ∷ rest) r (subst (λ (m : ℕ). in_flight sender m past ≡ l ∷ rest) v first)

        popped_here : popped from to ≡ drop 1 (lane from to)
        popped_here =
            subst (λ (n : ℕ). popped n to ≡ drop 1 (lane n to)) r
            (subst (λ (m : ℕ). popped sender m ≡ drop 1 (lane sender m)) v
            (put_at_row lane sender e.node e.node (drop 1 (lane sender e.node)) ∙ put_same (lane sender) e.node (drop 1 (lane sender e.node))))
