-- What follows from what stands: each name that stands somewhere has its current copy at its owner, and so has each name
-- that was made and each that is reached; what copies and letters refer to is known; wants are waited for, and where nothing
-- can go on what is waited for is held elsewhere.
use Rattle.bmx_store_laws.proofs.Words.{◌≡◌, ℕ, refl, ap, sym, subst, ◌∙◌, Bool, true, false, List, [], ◌∷◌, map, ◌<◌, arith, zero, suc, inl, inr, nat_tests, option_map_or, Option, Some, None, is_some, unwrap_or}
use Rattle.bmx_store_laws.proofs.Words.{◌||◌, Contains, IsSome, count_by, name_word, anchor_of, Command, Operand, Mode, Val, targets, given, Field, Letter, Msg, Record, State, target_of, Note, can_serve, is_request_of, is_grant_of, Ask}
use Rattle.bmx_store_laws.proofs.Words.{IsAsking, IsRequested, requested_run, gifts_are_recorded, each_owes_one_answer, RecordsAreKept, owes, waits_for, AnswersAreOwed}
use Rattle.bmx_store_laws.proofs.Words.{Numbers, Object, IsFirst, Run, eqb_same, some_same, none_some, eqb_of, in_flight, waits_with, Setting, NodeState, Known, fields_known, value_in, seen_graph, share_of, grant_in, knows, is_ready, Node, world_of}
use Rattle.bmx_store_laws.proofs.Words.{IsCurrent, World, Sent, names_in, IsSomewhere, IsReached, fields_of, Share, Event, ViewField, some_or_none, some_is, contains_map, each_name, one_seat, wants_stand_once, Every, ◌≢◌, every_there, HandsAmong, among, HasNo, notes_give, seen_known}
use Rattle.bmx_store_laws.proofs.Words.{has_name, seen, seen_record, seen_message, Spot, Asked, Queued, Granted, letters_about, times_at, StandsOnce, IsFree, IsUnborn}
use Rattle.bmx_store_laws.proofs.Words.val
use Rattle.bmx_store_laws.proofs.Words.msg_field
use Rattle.bmx_store_laws.proofs.Words.Reached
use Rattle.bmx_store_laws.proofs.Words.field
use Rattle.bmx_store_laws.proofs.Words.seated
use Rattle.bmx_protocol.specs.Worlds.{Kept, At, Between, IsMoving}
use Rattle.bmx_coherence.specs.Graphs.{graph_after}
use Rattle.bmx_coherence.specs.Copies.{AreCurrent, HasRecord, TargetsAreKnown}
use Rattle.bmx_coherence.specs.Waits.{taking, WaitsFor, Wants, WantsAreWaitedFor}
use Rattle.bmx_coherence.specs.Stuck.{IsStuck, IsHeldElsewhere, StuckNamesHolders}
use Rattle.std.specs.Prelude.{IfSome}
use Rattle.bmx_coherence.proofs.Events.{Stands, came, knows_it, real, sound}
use Rattle.bmx_coherence.proofs.Parts.{want_of, IsWaiting, wanted_at, held_of, values_told, known_of, waiting_token, waited, seen_target}

-- ## lists

-- what no field refers to is among no values
refers_in : (y : ℕ) (fields : List ViewField) → HasNo y fields → Every (λ (v : Val). v ≢ val.Ref y) (map value_in fields)
refers_in y [] none = tt
refers_in y (f ∷ fields) none = (λ e. none.0 (grind (arith, e)), refers_in y fields none.1)

-- what the fields of a letter refer to is among names that have their targets
told_in : (fields : List Field) (names : List ℕ) → ((y : ℕ) → Contains (targets fields) y → Contains names y) →
    Every (λ (v : Val). (y : ℕ) → v ≡ val.Ref y → Contains names y) (values_told fields)
told_in [] names among = tt
told_in (msg_field.Ref info ∷ fields) names among =
    (λ y e. among y (0, omega arith, (let same : info.name ≡ y = cc in same)), told_in fields names (λ y c. among y (suc c.0, omega (arith, c.1), c.2)))
told_in (f ∷ fields) names among = (λ y e. absurd cc, told_in fields names among)

has_it : (y : ℕ) (names : List ℕ) → Contains names y → has_name y names ≡ true
has_it y [] c = absurd (omega (arith, c.1))
has_it y (z ∷ names) (zero, below, here) = λ i. eqb_of here i || has_name y names
has_it y (z ∷ names) (suc k, below, there) = grind (arith, nat_tests, has_it y names (k, omega arith, there))

-- a token that makes a name wanted in a mode is of this name and mode
wanted_is : (t : Option (Mode × ℕ)) (m : Mode) (x : ℕ) → wanted_at t x ≡ Some m → t ≡ Some (m, x)
wanted_is t m x e = grind (arith, nat_tests)

-- a token that a command takes is ready where the command is
unready : (n x : ℕ) (s : NodeState) (k : Known) (c : Command) (m : Mode) (on : Operand) → taking c ≡ Some (m, on) → target_of (seen_graph n s) n on ≡ Some x →
    s.known x ≡ Some k → is_ready n s c ≡ false → k.part.ready ≡ false
unready n x s k c m on takes means is not = grind arith

-- where nobody is waited for and a queue's head can't be served, the token is held there
queue_kept : (at : ℕ) (h : Share) → h.part.ready ≡ false → IsAsking at (Some h) → (can_serve at h.part ≡ true → ⊥) → (h.part.queue ≡ [] → ⊥) →
    h.part.waiting ≡ [] → is_some h.part.held ≡ true
queue_kept at h unready asks idle some nobody = grind (arith, asks.empty)

-- a queue in which one is counted isn't empty
in_queue : (k : Option Known) (p : Ask → Bool) → option_map_or (λ j. count_by p j.part.queue) k 0 ≡ 1 → (j : Known) × (k ≡ Some j) × (j.part.queue ≡ [] → ⊥)
in_queue None p one = absurd (omega (arith, one))
in_queue (Some j) p one = (j, refl, λ none. omega (arith, one, ap (count_by p) none))

-- who owes an answer at its release knows the object
due_of : (k : Option Known) (at : ℕ) → owes (seen_known k) at ≡ true → (l : Known) × (k ≡ Some l) × (l.part.due ≡ Some at)
due_of None at e = absurd cc
due_of (Some l) at e = (l, refl, grind (arith, nat_tests))

-- a record that is seen is there
record_of : (q : Option Record) (r : Numbers) → seen_record q ≡ Some r → (e : Record) × (q ≡ Some e) × (e.sent ≡ r.sent)
record_of None r is = none_some is
record_of (Some e) r is = (e, refl, ap (λ (n : Numbers). n.sent) (some_same is))

-- the values in the fields of a copy
abbrev copied : Known → List Val
copied k = map value_in (unwrap_or k.copy [])

-- ## current copies

module _ (st : Setting) (past : List Event) (nodes : ℕ → Node) (stands : Stands st past nodes) where
  abbrev w : World
  w = world_of nodes past

  abbrev g : State
  g = graph_after st past

  abbrev known_at : ℕ → ℕ → Option Known
  known_at n x = (nodes n).state.known x

  known_there : (n y : ℕ) → n < st.nodes → is_some (known_at n y) ≡ true → IsSomewhere st w y
  known_there n y below knows = (let k = some_is (known_at n y) knows in At n k.0 below k.1)

  -- where an object isn't known nothing refers to it
  unreferred : (n y : ℕ) → n < st.nodes → (IsFree y (nodes n).state × IsUnborn st y → ⊥) → is_some (known_at n y) ≡ true
  unreferred n y below refers = knows_it (known_at n y) (λ at. refers ((came st past nodes stands.now y).aware n below (ap seen_known at)))

  -- what a copy refers to is known
  target_known : (n x y : ℕ) (k : Known) → n < st.nodes → known_at n x ≡ Some k → Contains (copied k) (val.Ref y) → is_some (known_at n y) ≡ true
  target_known n x y k below is refers = unreferred n y below (λ aware.
      every_there _ (copied k) (val.Ref y) (refers_in y (unwrap_or k.copy []) (aware.0.fields x k is)) refers refl)

  -- what stands somewhere is current, and the targets of its fields stand
  whole : (x : ℕ) → IsSomewhere st w x → IsCurrent w g x × ((y : ℕ) → Contains (fields_of g x) (val.Ref y) → IsSomewhere st w y)
  whole x somewhere = elim (one_seat st past nodes stands.now.opening stands.now.legal stands.now.after x somewhere) [
    | seated.At n k below has others none ↦
        let shown : fields_known (Some k) ≡ Some (copied k) = grind (arith, (sound st past nodes stands.now n x k has.known).owner_has has.owns) in
        let there : g.object x ≡ Some (copied k) = ((stands.parts n).known x).fields _ (ap fields_known has.known ∙ shown) in (
          record { fields = copied k; in_graph = there; at_owner = Kept n k has shown },
          rw there (λ y refers. known_there n y below (target_known n x y k below has.known refers)),
        )
    | seated.Moving from to below above one elsewhere nobody ↦
        let h : HandsAmong x (in_flight from to past) = among x (in_flight from to past) (omega (arith, one)) in
        let moves : IsMoving w x from to h.letter h.info h.fields = record { there = h.there; grants = h.grants; named = h.named } in
        let there : g.object x ≡ Some (values_told h.fields) =
        ap g.object (sym h.named) ∙ stands.grants from to h.letter h.there h.info h.fields (ap grant_in h.grants) in (
          record { fields = values_told h.fields; in_graph = there; at_owner = Sent from to h.letter h.info h.fields moves refl },
          rw there (λ y refers. Between from to h.letter below above h.there
              (every_there (λ (v : Val). (z : ℕ) → v ≡ val.Ref z → Contains (names_in h.letter.msg) z) _ (val.Ref y) (told_in h.fields (names_in h.letter.msg)
              (λ z c. subst (λ (m : Msg). Contains (names_in m) z) (sym h.grants) (suc c.0, omega (arith, c.1), c.2))) refers y refl)),
        )
  ]

  reached_stands : (x : ℕ) → IsReached st g x → IsSomewhere st w x
  reached_stands x (Reached.InRegister n r below few refers) = known_there n x below (unreferred n x below (λ aware. aware.0.registers r ((stands.parts n).register r ∙ refers)))
  reached_stands x (Reached.Anchor b below) = known_there 0 (anchor_of b) stands.now.opening.a_node (unreferred 0 (anchor_of b) stands.now.opening.a_node (λ aware. aware.1 b below refl))
  reached_stands y (Reached.InField x reached refers) = (whole x (reached_stands x reached)).1 y refers

  pub are_current : AreCurrent st w g
  are_current = record {
    made = λ n count below one most. (whole (name_word n count) (known_there n (name_word n count) below (stands.makers n count one most))).0;
    reached = λ x reached. (whole x (reached_stands x reached)).0;
  }

  -- what a law of one object says of x
  law : (Law : Object → Type 0) → ((o p : Object) → IsFirst o → Run o p → Law p) → (x : ℕ) → Law (seen x w)
  law Law holds x = each_name Law holds st past nodes stands.now.opening stands.now.legal stands.now.after x

  -- ## what letters give

  given_known : (n m y : ℕ) (l : Letter) → Contains (in_flight n m past) l → Contains (given l.msg) y → IsSome (known_at n y) × HasRecord w y n m l.seq
  given_known n m y l there names =
      let gift = (law RecordsAreKept gifts_are_recorded y).gifts n m (seen_message y l) (contains_map (seen_message y) (in_flight n m past) l there)
      (notes_give y l.msg ∙ has_it y (given l.msg) names) in
      let r = record_of ((nodes n).state.entering y m) gift.1 gift.2 in
      (grind (arith, gift.0), record { entry = r.0; there = r.1; late = omega (arith, gift.3, r.2) })

  pub targets_are_known : TargetsAreKnown st w
  targets_are_known = record {
    copies = λ n x y k fields below is has refers. target_known n x y k below is (rw has (contains_map value_in fields (field.Ref y) refers));
    letters = given_known;
  }

  -- ## wants

  abbrev want_at : ℕ → ℕ → Option Mode
  want_at n x = want_of (known_at n x)

  -- the token that is wanted is that of the command which is waited with
  wanted_token : (n x : ℕ) (m : Mode) → want_at n x ≡ Some m → waited g n (waits_with n None past) ≡ Some (m, x)
  wanted_token n x m want = wanted_is _ m x (sym ((stands.parts n).known x).want ∙ want)

  waits_by : (n : ℕ) (c : Command) (i : IsWaiting g n c) → waits_with n None past ≡ Some c → WaitsFor w past n i.mode i.name
  waits_by n c i is =
      record { command = c; operand = i.operand; waits = is; takes = i.takes; means = seen_target n (nodes n).state g _ (stands.parts n) i.operand ∙ i.means }

  -- who wants a token waits for it, and doesn't hold it
  waits_for_it : (n x : ℕ) (m : Mode) → want_at n x ≡ Some m → WaitsFor w past n m x × (held_of (known_at n x) ≡ None)
  waits_for_it n x m want = by_waiting (waits_with n None past) refl (stands.waits n) (wanted_token n x m want)
    where
      by_waiting : (v : Option Command) → waits_with n None past ≡ v → IfSome v (IsWaiting g n) → waited g n v ≡ Some (m, x) →
          WaitsFor w past n m x × (held_of (known_at n x) ≡ None)
      by_waiting None is i token = none_some token
      by_waiting (Some c) is i token = subst (λ (p : Mode × ℕ). WaitsFor w past n p.0 p.1 × (held_of ((nodes n).state.known p.1) ≡ None))
          (some_same (sym (waiting_token g n c i) ∙ token)) (waits_by n c i is, ((stands.parts n).known i.name).held ∙ i.unheld)

  -- who waits for a token wants it
  waiting_wants : (n x : ℕ) (m : Mode) → WaitsFor w past n m x → Wants w n m x
  waiting_wants n x m i =
      let means : target_of g n i.operand ≡ Some x = sym (seen_target n (nodes n).state g _ (stands.parts n) i.operand) ∙ i.means in
      let k = known_of (λ j. j.part.want) (known_at n x) m (((stands.parts n).known x).want ∙ grind (arith, nat_tests, i.waits, i.takes, means)) in
      record { known = k.0; knows = k.1; want = k.2 }

  pub wants_waited_for : WantsAreWaitedFor st w past
  wants_waited_for = record {
    wanted = λ n m x below wants. (waits_for_it n x m (ap want_of wants.knows ∙ wants.want)).0;
    waited = λ n c below is.
        (let i : IsWaiting g n c = subst (λ (v : Option Command). IfSome v (IsWaiting g n)) is (stands.waits n) in
        (i.mode, i.name, waits_by n c i is, waiting_wants n i.name i.mode (waits_by n c i is)));
    one = λ n m k x y below a b.
        (let same : (m, x) ≡ (k, y) = some_same (sym (wanted_token n x m (ap want_of a.knows ∙ a.want)) ∙ wanted_token n y k (ap want_of b.knows ∙ b.want)) in
        (ap (λ (p : Mode × ℕ). p.1) same, ap (λ (p : Mode × ℕ). p.0) same));
  }

  -- ## where nothing can go on

  module _ (stuck : IsStuck st w past) where
    requested : (n x : ℕ) (k : Known) → known_at n x ≡ Some k → IsAsking n (Some (share_of k))
    requested n x k is = subst (IsAsking n) (ap seen_known is) ((law IsRequested requested_run x).nodes n)

    -- no token that is wanted is ready, and so none is
    never_ready : (n x : ℕ) (k : Known) → known_at n x ≡ Some k → k.part.ready ≡ false
    never_ready n x k is = elim (some_or_none k.part.want) [
      | inl none ↦ (requested n x k is).calm none
      | inr m ↦ (let i : WaitsFor w past n m.0 x = (waits_for_it n x m.0 (ap want_of is ∙ m.1)).0 in
          unready n x (nodes n).state k i.command m.0 i.operand i.takes i.means is (stuck.not_ready n i.command (real st past nodes stands.now n x k is) i.waits))
    ]

    -- a node that doesn't hold x
    module _ (n x : ℕ) (unheld : held_of (known_at n x) ≡ None) where
      held_there : (at : ℕ) (j : Known) → known_at at x ≡ Some j → is_some j.part.held ≡ true → IsHeldElsewhere w n x
      held_there at j there held = record { holder = at; other = λ same. grind (arith, same, there, held, unheld); known = j; knows = there; holds = held }

      -- who is waited for holds the object: its answer is due, since no letter is in flight
      waited_for : (at r : ℕ) → waits_for (seen_known (known_at at x)) r ≡ true → IsHeldElsewhere w n x
      waited_for at r waits =
          let l = due_of (known_at r x) at (grind (arith, law AnswersAreOwed each_owes_one_answer x at r, waits, stuck.no_letter at r, stuck.no_letter r at)) in
          elim (some_or_none l.0.part.held) [
            | inl none ↦ absurd (cc ((sound st past nodes stands.now r x l.0 l.1).due_holds at l.2 none, never_ready r x l.0 l.1))
            | inr h ↦ held_there r l.0 l.1 (rw h.1 refl)
          ]

      -- a want that stands in a queue: its head isn't served, since the token is held there, or answers are waited for
      queued : (at : ℕ) (j : Known) → known_at at x ≡ Some j → (j.part.queue ≡ [] → ⊥) → (ws : List ℕ) → j.part.waiting ≡ ws → IsHeldElsewhere w n x
      queued at j there some [] nobody = held_there at j there (queue_kept at (share_of j) (never_ready at x j there) (requested at x j there)
          (λ e. stuck.no_serve at x (real st past nodes stands.now at x j there) (rw there e)) some nobody)
      queued at j there some (r ∷ rest) waits = waited_for at r (rw (there, waits, eqb_same) refl)

    holders : (n : ℕ) (m : Mode) (x : ℕ) → n < st.nodes → WaitsFor w past n m x → IsHeldElsewhere w n x
    holders n m x below waits = by_spot once.spot once.once
      where
        wanted : Wants w n m x
        wanted = waiting_wants n x m waits

        once : StandsOnce w x m n
        once = (wants_stand_once st past nodes stands.now.opening stands.now.legal stands.now.after x).waits m n
            (record { known = wanted.known; knows = wanted.knows; want = wanted.want; unready = never_ready n x wanted.known wanted.knows })

        none_about : (test : Note → Bool) (from to : ℕ) → letters_about x test (w.channel from to) ≡ 0
        none_about test from to = ap (letters_about x test) (stuck.no_letter from to)

        by_spot : (s : Spot) → times_at w x m n s ≡ 1 → IsHeldElsewhere w n x
        by_spot (Asked from to) one = absurd (omega (arith, one, none_about (is_request_of m n) from to))
        by_spot (Granted from) one = absurd (omega (arith, one, none_about (is_grant_of m) from n))
        by_spot (Queued at) one =
            let j = in_queue (known_at at x) _ one in
            queued n x (waits_for_it n x m (ap want_of wanted.knows ∙ wanted.want)).1 at j.0 j.1 j.2 j.0.part.waiting refl

  pub stuck_names_holders : StuckNamesHolders st w past
  stuck_names_holders stuck = holders stuck
