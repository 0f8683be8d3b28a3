-- The first letter in flight between two nodes is taken: nothing that makes a letter stray can be said of it.
use Rattle.bmx_store_laws.proofs.Words.{◌≡◌, ℕ, refl, ap, sym, subst, ◌∙◌, true, false, cond, List, [], ◌∷◌, map, ◌<◌, arith, drop, length, zero, suc, ◌+◌, ◌≤◌, ◌≢◌, ◌^◌, ltb-true, ltb-false, nat_tests, sum_by-cons, list_any, option_map, option_map_or}
use Rattle.bmx_store_laws.proofs.Words.{Option, Some, None, is_some, slice_get, ◌==◌, ◌&&◌, nat_lt, not, ◌||◌, IsSome, IsOpening, bunches_of, maker, count_of, home_of, Info, Mode, Read, Write, Field, Letter, Msg, ReadReq, WriteReq, ReadGrant, WriteGrant, Note}
use Rattle.bmx_store_laws.proofs.Words.{Asks, Transition, note_transition, is_request_of, nobody_asks_itself, NoneIsStray, IsApart, hears, said_transition, eqb_same, some_same, none_some, eqb_of, Every, every_append, in_flight, taken, letters_to, issued}
use Rattle.bmx_store_laws.proofs.Words.{AreAfter, IsLegal, Setting, NodeState, share_of, grant_in, name_in, note_in, infos, Node, is_no_node, is_bad_msg, is_bad_letter, some_clash, is_no_name, is_bad_info, asker_in, world_of, World, Event, Sending}
use Rattle.bmx_store_laws.proofs.Words.{inl, inr, Contains, tested, every_there, contains_drop, numbered_at, some_is, either, first_there, issued_to, each_name, Came, came_after, wants_stand_once, names_are_counted, seen_known, seen, seen_message, first_world, Asked, letters_about, times_at, IsCounted}
use Rattle.bmx_token_model.proofs.Stated.{no_letter_is_stray}
use Rattle.bmx_protocol.specs.Worlds.{Between}
use Rattle.bmx_places.specs.Ledger.{Block, IsBlock, AreBlocks, block_of}
use Rattle.bmx_places.proofs.Blocks.{Keeps, hears_all, IsTold}
use Rattle.bmx_places.proofs.Outcomes.{IsRight}

-- ## letters of a history

-- a letter that was issued says what is right, and its stamp isn't too large
pub record IsIssued (blocks : ℕ → Option Block) (l : Letter) : Type 0 where
  pub right : IsRight blocks l.msg
  pub stamp : l.stamp < 2 ^ 62

-- letters that go out, and those that an event issues, are so
abbrev pub Goes : (ℕ → Option Block) → Sending → Type 0
Goes blocks l = IsIssued blocks l.letter

abbrev pub IssuesRight : (ℕ → Option Block) → Event → Type 0
IssuesRight blocks e = Every (Goes blocks) e.done.letters

abbrev pub EachIssued : (ℕ → Option Block) → List Event → Type 0
EachIssued blocks past = Every (IssuesRight blocks) past

pub every_at : {A : Type 0} (P : A → Type 0) (a : List A) (i : ℕ) (x : A) → Every P a → slice_get a i ≡ Some x → P x
every_at P [] i x h e = none_some e
every_at P (y ∷ a) zero x h e = subst P (some_same e) h.0
every_at P (y ∷ a) (suc i) x h e = every_at P a i x h.1 e

pub all_issued : (P : Letter → Type 0) (n m : ℕ) (past : List Event) → Every (λ (e : Event). Every (λ (l : Sending). P l.letter) e.done.letters) past → Every P (issued n m past)
all_issued P n m [] h = tt
all_issued P n m (e ∷ past) h = (let rest : Every P (issued n m past) = all_issued P n m past h.1 in
    either (Every P) (e.node == n) _ _ (λ _. every_append P (letters_to m e.done.letters) (issued n m past) (issued_to P m e.done.letters h.0) rest) (λ _. rest))

-- so is each letter in flight
pub flight_right : (blocks : ℕ → Option Block) (past : List Event) → EachIssued blocks past → (n m : ℕ) (l : Letter) → Contains (in_flight n m past) l → IsIssued blocks l
flight_right blocks past each n m l there = every_there (IsIssued blocks) (issued n m past) l (all_issued (IsIssued blocks) n m past each) (contains_drop _ _ l there)

drop_get : {A : Type 0} (xs : List A) (i : ℕ) (x : A) (rest : List A) → drop i xs ≡ x ∷ rest → slice_get xs i ≡ Some x
drop_get (y ∷ xs) zero x rest e = (let same : y ≡ x = cc in ap (λ z. Some z) same)
drop_get (y ∷ xs) (suc i) x rest e = drop_get xs i x rest e
drop_get [] zero x rest e = absurd cc
drop_get [] (suc i) x rest e = absurd cc

-- ## numbers

no_node : (st : Setting) (n : ℕ) → n < st.nodes → is_no_node st n ≡ false
no_node st n h = grind (arith, nat_tests)

no_name : (st : Setting) (me : ℕ) (s : NodeState) (y : ℕ) → maker y < st.nodes → (maker y ≡ me → count_of y ≤ s.made) → is_no_name st me s y ≡ false
no_name st me s y real made = grind (arith, nat_tests)

not_bad : (st : Setting) (me : ℕ) (s : NodeState) (info : Info) → is_no_name st me s info.name ≡ false → info.bunch < bunches_of st.births → home_of info.place.address < st.nodes →
    info.size ≤ 32 → info.place.moves ≡ 0 → is_bad_info st me s info ≡ false
not_bad st me s info name bunch home size moves = grind (arith, nat_tests)

good_letter : (st : Setting) (me from : ℕ) (s : NodeState) (l : Letter) → from ≢ me → from < st.nodes → l.seq ≡ s.taken from + 1 → l.stamp < 2 ^ 62 → is_bad_msg st me s l.msg ≡ false →
    is_bad_letter st me s from l ≡ false
good_letter st me from s l apart real number stamp fine = grind (arith, nat_tests)

asker_fits : (st : Setting) (m : Msg) → ((k : Mode) (a : ℕ) → note_in m ≡ Asks k a → is_no_node st a ≡ false) → option_map_or (is_no_node st) (asker_in m) false ≡ false
asker_fits st (ReadReq name a) asks = asks Read a refl
asker_fits st (WriteReq name a) asks = asks Write a refl
asker_fits st _ asks = refl

full_fits : (m : Msg) → ((g : Info × List Field) → grant_in m ≡ Some g → length g.1 ≡ g.0.size) → option_map_or (λ (g : Info × List Field). not (length g.1 == g.0.size)) (grant_in m) false ≡ false
full_fits (ReadGrant info fields) full = λ i. not (eqb_of (full (info, fields) refl) i)
full_fits (WriteGrant info fields) full = λ i. not (eqb_of (full (info, fields) refl) i)
full_fits _ full = refl

mapped_some : {A B : Type 0} (f : A → B) (o : Option A) → IsSome (option_map f o) → is_some o ≡ true
mapped_some f None h = h
mapped_some f (Some a) h = refl

request_of : (m : Mode) (a : ℕ) → is_request_of m a (Asks m a) ≡ true
request_of Read a = eqb_same a
request_of Write a = eqb_same a

-- ## the letter

-- what taking a letter needs: another sender, nothing bad, no clash, and a transition
pub record IsTakeable (st : Setting) (blocks : ℕ → Option Block) (me from : ℕ) (n : Node) (l : Letter) : Type 0 where
  pub issued : IsIssued blocks l
  pub good : is_bad_letter st me n.state from l ≡ false
  pub calm : some_clash me from n.state.known n.places (infos l.msg) ≡ false
  pub turn : Transition
  pub turns : note_transition me from (note_in l.msg) (option_map share_of (n.state.known (name_in l.msg))) ≡ Some turn

module _ (st : Setting) (past : List Event) (nodes : ℕ → Node) (opening : IsOpening st.nodes st.limit st.births) (legal : IsLegal st past) (after : AreAfter st past nodes)
    (blocks : ℕ → Option Block) (are : AreBlocks st (world_of nodes past) blocks) (still : (a : ℕ) (b : Block) → blocks a ≡ Some b → b.moves ≡ 0)
    (me from : ℕ) (keeps : Keeps blocks (nodes me).state.known (nodes me).places) (letters : EachIssued blocks past)
    (l : Letter) (rest : List Letter) (first : in_flight from me past ≡ l ∷ rest) (real_me : me < st.nodes) (real : from < st.nodes) where
  abbrev w : World
  w = world_of nodes past

  abbrev s : NodeState
  s = (nodes me).state

  abbrev x : ℕ
  x = name_in l.msg

  came : Came st x (seen x (first_world st)) past nodes
  came = came_after st past nodes opening legal after x

  its_note : (seen_message x l).note ≡ Some (note_in l.msg)
  its_note = λ i. cond (eqb_same x i) (Some (note_in l.msg)) None

  seen_first : (seen x w).channel from me ≡ seen_message x l ∷ map (seen_message x) rest
  seen_first = ap (map (seen_message x)) first

  -- its sender is another node
  apart : from ≢ me
  apart e =
      let of : IsApart (seen x w) = each_name IsApart nobody_asks_itself st past nodes opening legal after x in
      let here : (seen x w).channel me me ≡ seen_message x l ∷ map (seen_message x) rest = subst (λ (n : ℕ). (seen x w).channel n me ≡ seen_message x l ∷ map (seen_message x) rest) e seen_first in
      none_some (sym (of.letters me (seen_message x l) (first_there _ _ _ here)) ∙ its_note)

  its : IsIssued blocks l
  its = flight_right blocks past letters from me l (first_there _ _ _ first)

  -- a name that was counted can be
  name_not : (y : ℕ) → IsCounted st w y → is_no_name st me s y ≡ false
  name_not y c = no_name st me s y c.by_a_node (λ e. subst (λ (n : ℕ). count_of y ≤ (nodes n).state.made) e c.made)

  -- what it tells of can be
  info_not : (info : Info) → IsTold blocks info → is_bad_info st me s info ≡ false
  info_not info told =
      let b : IsBlock st w info.place.address (block_of info) = are.each info.place.address (block_of info) told in
      not_bad st me s info (name_not info.name b.counted) b.bunch b.home b.size (still info.place.address (block_of info) told)

  infos_not : (more : List Info) → Every (IsTold blocks) more → list_any (is_bad_info st me s) more ≡ false
  infos_not [] told = refl
  infos_not (info ∷ more) told = λ i. info_not info told.0 i || infos_not more told.1 i

  -- who asks is a node of the store
  asks_not : (m : Mode) (a : ℕ) → note_in l.msg ≡ Asks m a → is_no_node st a ≡ false
  asks_not m a e = elim (tested (nat_lt a st.nodes)) [
    | inl h ↦ no_node st a (ltb-true a st.nodes h)
    | inr h ↦ (let self : is_request_of m a (Asks m a) ≡ true = request_of m a in
        let counted : letters_about x (is_request_of m a) (in_flight from me past) ≡ 1 + letters_about x (is_request_of m a) rest =
        ap (letters_about x (is_request_of m a)) first
        ∙ sum_by-cons (λ (k : Letter). cond {A = ℕ} ((name_in k.msg == x) && is_request_of m a (note_in k.msg)) 1 0) l rest
        ∙ (λ i. cond {A = ℕ} (eqb_same x i && (ap (is_request_of m a) e ∙ self) i) 1 0 + letters_about x (is_request_of m a) rest) in
        let none : times_at w x m a (Asked from me) ≡ 0 = (wants_stand_once st past nodes opening legal after x).others m a
        (λ waits. none_some (sym (came.beyond a (λ less. omega (arith, less, ltb-false a st.nodes h))) ∙ ap seen_known waits.knows)) (Asked from me) in
        absurd (omega (arith, none, counted)))
  ]

  -- it has its transition
  its_turn : (t : Transition) × (note_transition me from (note_in l.msg) (option_map share_of (s.known x)) ≡ Some t)
  its_turn = some_is (note_transition me from (note_in l.msg) (option_map share_of (s.known x))) (mapped_some (λ (t : Transition). record t { after = hears (seen_message x l).tells from t.after }) _
      (subst (λ (n : Option Note). IsSome (option_map (λ (t : Transition). record t { after = hears (seen_message x l).tells from t.after }) (said_transition me from n (seen_known (s.known x))))) its_note
      (each_name NoneIsStray no_letter_is_stray st past nodes opening legal after x from me (seen_message x l) (map (seen_message x) rest) apart seen_first)))

  pub next_is_takeable : IsTakeable st blocks me from (nodes me) l
  next_is_takeable =
      let number : l.seq ≡ s.taken from + 1 = omega (
        arith,
        numbered_at (issued from me past) 0 (length (taken from me past)) l (came.channels.numbers from me) (drop_get (issued from me past) _ l rest first),
        came.channels.counts from me,
      ) in
      let named : is_no_name st me s x ≡ false =
      name_not x (names_are_counted st past nodes opening legal after x (Between from me l real real_me (first_there _ _ _ first) (0, omega arith, refl))) in
      record {
        issued = its;
        good = good_letter st me from s l apart real number its.stamp
            (λ i. named i || asker_fits st l.msg asks_not i || full_fits l.msg its.right.full i || infos_not (infos l.msg) its.right.told i);
        calm = (hears_all st w blocks are me from (infos l.msg) s (nodes me).places its.right.told keeps (λ n. refl)).0;
        turn = its_turn.0;
        turns = its_turn.1;
      }
