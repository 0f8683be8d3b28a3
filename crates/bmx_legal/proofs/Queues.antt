-- What a driver keeps as its history grows: for each two nodes the spots of the letters in flight from one to the other, and
-- for each node the command that it waits with.
use Rattle.std.proofs.Common.{◌≡◌, ◌≢◌, ℕ, refl, ap, sym, subst, ◌∙◌, Bool, cond, List, [], ◌∷◌, ◌++◌, length, drop}
use Rattle.std.specs.Prelude.{◌==◌, Option, Some, None, slice_get}
use Rattle.bmx_types.specs.Openings.{IsOpening}
use Rattle.bmx_types.specs.declared.commands.Command.{Command}
use Rattle.bmx_msg.specs.declared.letters.Letter.{Letter}
use Rattle.bmx_protocol.specs.declared.inputs.Input.TheVariants as input
use Rattle.bmx_protocol.specs.declared.inputs.Sending.{Sending}
use Rattle.bmx_protocol.specs.declared.events.Event.{Event}
use Rattle.bmx_protocol.specs.Nodes.{Setting}
use Rattle.bmx_protocol.specs.Histories.{letters_to, letter_from, issued, arrived, in_flight, waits_after, waits_with, IsLegal}
use Rattle.bmx_protocol.proofs.Basics.{two, Two, Same, Apart, eqb_of}
use Rattle.bmx_legal.specs.Growing.{TakesFirst}
use Rattle.bmx_legal.specs.Inside.Spots.{Finds, spots_to}
use Rattle.bmx_legal.proofs.Spots.{Front, finds_first, finds_drop, finds_more, finds_grown, finds_new, found}
use Rattle.bmx_legal.proofs.Flight.{flight_grows, flight_shorter, flight_sent, flight_apart, flight_kept, issued_here, issued_elsewhere}

-- ## one queue

-- the letter at the first spot is the first in flight
pub takes_first : (past : List Event) (n m : ℕ) (spot : ℕ × ℕ) (spots : List (ℕ × ℕ)) (e : Event) (s : Sending) → Finds past (spot ∷ spots) (in_flight n m past) →
    slice_get past spot.0 ≡ Some e → slice_get e.done.letters spot.1 ≡ Some s → TakesFirst past m (input.Take n s.letter)
takes_first past n m spot spots e s finds there among =
    let front : Front past spot spots (in_flight n m past) = finds_first past spot spots (in_flight n m past) finds in
    ap (λ (letters : List Letter). slice_get letters 0) front.all ∙ ap Some (sym (found past spot front.letter e s front.stands there among))

module _ (st : Setting) (past : List Event) (e : Event) (opening : IsOpening st.nodes st.limit st.births) (legal : IsLegal st (past ++ e ∷ [])) where
  -- each queue after an event
  pub queue_grows : (n m : ℕ) (spots : List (ℕ × ℕ)) → Finds past spots (in_flight n m past) →
      Finds (past ++ e ∷ []) (drop (length (arrived n m (e ∷ []))) spots ++ cond (e.node == n) (spots_to m (length past) 0 e.done.letters) []) (in_flight n m (past ++ e ∷ []))
  queue_grows n m spots finds =
      subst (Finds (past ++ e ∷ []) (drop (length (arrived n m (e ∷ []))) spots ++ cond (e.node == n) (spots_to m (length past) 0 e.done.letters) []))
      (sym (flight_grows st past e opening legal n m))
      (finds_more (past ++ e ∷ []) (drop (length (arrived n m (e ∷ []))) spots) (cond (e.node == n) (spots_to m (length past) 0 e.done.letters) [])
      (drop (length (arrived n m (e ∷ []))) (in_flight n m past)) (issued n m (e ∷ []))
      (finds_drop (past ++ e ∷ []) (length (arrived n m (e ∷ []))) spots (in_flight n m past) (finds_grown past (e ∷ []) spots (in_flight n m past) finds))
      (new (two e.node n)))
    where
      new : Two e.node n → Finds (past ++ e ∷ []) (cond (e.node == n) (spots_to m (length past) 0 e.done.letters) []) (issued n m (e ∷ []))
      new (Same a) = subst (Finds (past ++ e ∷ []) (cond (e.node == n) (spots_to m (length past) 0 e.done.letters) [])) (sym (issued_here n m e a))
          (subst (λ (b : Bool). Finds (past ++ e ∷ []) (cond b (spots_to m (length past) 0 e.done.letters) []) (letters_to m e.done.letters)) (sym (eqb_of a)) (finds_new past e m))
      new (Apart h d) = subst (Finds (past ++ e ∷ []) (cond (e.node == n) (spots_to m (length past) 0 e.done.letters) [])) (sym (issued_elsewhere n m e d))
          (subst (λ (b : Bool). Finds (past ++ e ∷ []) (cond b (spots_to m (length past) 0 e.done.letters) []) []) (sym h) tt)

  -- the queue from which it takes loses its first spot
  pub queue_taken : (from : ℕ) (l : Letter) (spot : ℕ × ℕ) (spots : List (ℕ × ℕ)) → e.input ≡ input.Take from l →
      Finds past (spot ∷ spots) (in_flight from e.node past) → Finds (past ++ e ∷ []) spots (in_flight from e.node (past ++ e ∷ []))
  queue_taken from l spot spots is finds =
      let front : Front past spot spots (in_flight from e.node past) = finds_first past spot spots (in_flight from e.node past) finds in
      subst (Finds (past ++ e ∷ []) spots) (sym (flight_shorter st past e from l front.letter front.rest opening legal is front.all))
      (finds_grown past (e ∷ []) spots front.rest front.finds)

  -- those to which it sends get the new spots
  pub queue_sent : (m : ℕ) (spots : List (ℕ × ℕ)) → Finds past spots (in_flight e.node m past) →
      Finds (past ++ e ∷ []) (spots ++ spots_to m (length past) 0 e.done.letters) (in_flight e.node m (past ++ e ∷ []))
  queue_sent m spots finds =
      subst (Finds (past ++ e ∷ []) (spots ++ spots_to m (length past) 0 e.done.letters)) (sym (flight_sent st past e opening legal m))
      (finds_more (past ++ e ∷ []) spots (spots_to m (length past) 0 e.done.letters) (in_flight e.node m past) (letters_to m e.done.letters)
      (finds_grown past (e ∷ []) spots (in_flight e.node m past) finds) (finds_new past e m))

  -- all others stay: between other nodes, and from those from which it doesn't take
  pub queue_apart : (n m : ℕ) (spots : List (ℕ × ℕ)) → e.node ≢ n → e.node ≢ m → Finds past spots (in_flight n m past) →
      Finds (past ++ e ∷ []) spots (in_flight n m (past ++ e ∷ []))
  queue_apart n m spots not_from not_to finds =
      subst (Finds (past ++ e ∷ []) spots) (sym (flight_apart st past e opening legal n m not_from not_to)) (finds_grown past (e ∷ []) spots (in_flight n m past) finds)

  pub queue_kept : (n m : ℕ) (spots : List (ℕ × ℕ)) → e.node ≢ n → letter_from n e.input ≡ None → Finds past spots (in_flight n m past) →
      Finds (past ++ e ∷ []) spots (in_flight n m (past ++ e ∷ []))
  queue_kept n m spots not_from untaken finds =
      subst (Finds (past ++ e ∷ []) spots) (sym (flight_kept st past e opening legal n m not_from untaken)) (finds_grown past (e ∷ []) spots (in_flight n m past) finds)

-- ## what nodes wait with

-- the node of an event waits as the event says, and the others as before
pub waits_more : (n : ℕ) (w : Option Command) (past : List Event) (e : Event) →
    waits_with n w (past ++ e ∷ []) ≡ cond (e.node == n) (waits_after (waits_with n w past) e.input e.done.answer) (waits_with n w past)
waits_more n w [] e = refl
waits_more n w (f ∷ past) e = waits_more n (cond (f.node == n) (waits_after w f.input f.done.answer) w) past e
