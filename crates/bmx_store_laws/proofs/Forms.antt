-- Proofs by cases of a test and an option, at the number where a function changed, of what is in lists, and along a history.
use Rattle.std.proofs.Common.{◌≡◌, ◌⊎◌, inl, inr, ℕ, ◌+◌, ◌≤◌, arith, refl, ap, sym, subst, ◌∙◌, Bool, true, false, cond, List, [], ◌∷◌, ◌++◌, map, length, drop, zero, suc, length-append}
use Rattle.std.specs.Prelude.{◌==◌, Option, Some, None, is_some, Contains}
use Rattle.std.proofs.lemmas.List.{append-nil, drop-append-le, drop-drop}
use Rattle.std.proofs.lemmas.List.Elements.{Contains-append_cases}
use Rattle.bmx_types.specs.declared.addresses.Info.{Info}
use Rattle.bmx_types.specs.Updates.{put}
use Rattle.bmx_msg.specs.declared.letters.Letter.{Letter}
use Rattle.bmx_protocol.specs.declared.events.Event.{Event}
use Rattle.bmx_protocol.specs.Nodes.{Setting, Known, NodeState}
use Rattle.bmx_protocol.specs.Changes.{Change, Gets, Takes, heard_of, heard, after_changes, with_step}
use Rattle.bmx_protocol.specs.Steps.{Node, first_node, rule, numbered, letters_of, sent_changes, closed, IsStep}
use Rattle.bmx_protocol.specs.Histories.{letters_to, issued, taken, in_flight, Fits, Replays, AreAfter, IsLegal}
use Rattle.bmx_protocol.proofs.Basics.{eqb_is, put_same, put_apart, Every}
use Rattle.bmx_protocol.proofs.Prefixes.{joined, prefix_is_legal}
use Rattle.bmx_store_laws.proofs.Channels.{letters_by, issued_more, taken_more}
use Rattle.bmx_store_laws.proofs.Histories.{replay_more}
use Rattle.std.specs.List.{flat_map}
use Rattle.bmx_types.specs.declared.numbers.Mode.TheVariants.{Write}
use Rattle.bmx_token.specs.Transitions.{Note, Grants}
use Rattle.bmx_protocol.specs.declared.inputs.Input.{Input}
use Rattle.bmx_protocol.specs.declared.inputs.Done.{Done}
use Rattle.bmx_protocol.specs.declared.inputs.Sending.{Sending}
use Rattle.bmx_protocol.specs.Rules.{Draft, Reaction, got_change}
use Rattle.bmx_protocol.proofs.Changing.{Each, each_append, after_append}
use Rattle.bmx_store_laws.proofs.Sends.{IsLeft, letters_left}

-- ## cases

-- a test passes or fails
pub tested : (b : Bool) → (b ≡ true) ⊎ (b ≡ false)
tested true = inl refl
tested false = inr refl

-- an option has nothing, or something
pub some_or_none : {A : Type 0} (o : Option A) → (o ≡ None) ⊎ ((a : A) × (o ≡ Some a))
some_or_none None = inl refl
some_or_none (Some a) = inr (a, refl)

pub some_is : {A : Type 0} (o : Option A) → is_some o ≡ true → (a : A) × (o ≡ Some a)
some_is None e = absurd cc
some_is (Some a) e = (a, refl)

-- one of two, by a test
pub either : {A : Type 0} (P : A → Type 0) (b : Bool) (x y : A) → (b ≡ true → P x) → (b ≡ false → P y) → P (cond b x y)
either P true x y h k = h refl
either P false x y h k = k refl

-- ## functions of numbers

-- what holds of a number, and of each apart from it, holds of each
pub at_each_number : (P : ℕ → Type 0) (x : ℕ) → P x → ((y : ℕ) → (x == y) ≡ false → P y) → (y : ℕ) → P y
at_each_number P x here else y = elim (tested (x == y)) [ inl e ↦ subst P (eqb_is x y e) here | inr e ↦ else y e ]

-- what holds where a function changed, and of it elsewhere, holds after the change
pub put_each : {A : Type 0} (P : ℕ → A → Type 0) (f : ℕ → A) (x : ℕ) (v : A) → P x v → ((y : ℕ) → (x == y) ≡ false → P y (f y)) → (y : ℕ) → P y (put f x v y)
put_each P f x v here else = at_each_number (λ y. P y (put f x v y)) x (rw (put_same f x v) here) (λ y h. rw (put_apart f x y v h) (else y h))

-- what holds of each that is known, and of an object that is heard of where it isn't, holds once it was heard of
pub heard_each : (P : ℕ → Option Known → Type 0) (from : ℕ) (known : ℕ → Option Known) (info : Info) → (known info.name ≡ None → P info.name (Some (heard_of from info))) →
    ((x : ℕ) → P x (known x)) → (x : ℕ) → P x (heard from known info x)
heard_each P from known info new each = either (λ (f : ℕ → Option Known). (x : ℕ) → P x (f x)) (is_some (known info.name)) known _ (λ _. each)
    (λ none. put_each P known info.name (Some (heard_of from info)) (new (unknown (known info.name) none)) (λ x _. each x))
  where
    unknown : (k : Option Known) → is_some k ≡ false → k ≡ None
    unknown None e = refl
    unknown (Some k) e = absurd cc

-- ## lists

-- what follows for one follows for each of a list
pub every_map : {A : Type 0} (P Q : A → Type 0) → ((x : A) → P x → Q x) → (xs : List A) → Every P xs → Every Q xs
every_map P Q f [] h = tt
every_map P Q f (x ∷ xs) h = (f x h.0, every_map P Q f xs h.1)

pub every_there : {A : Type 0} (P : A → Type 0) (xs : List A) (x : A) → Every P xs → Contains xs x → P x
every_there P [] x h c = absurd (omega (arith, c.1))
every_there P (y ∷ xs) x h (zero, below, is) = subst P is h.0
every_there P (y ∷ xs) x h (suc k, below, is) = every_there P xs x h.1 (k, omega arith, is)

pub first_there : {A : Type 0} (xs : List A) (x : A) (rest : List A) → xs ≡ x ∷ rest → Contains xs x
first_there xs x rest e = rw e (0, omega arith, refl)

-- what is in the rest of a list is in the list
pub contains_drop : {A : Type 0} (n : ℕ) (xs : List A) (x : A) → Contains (drop n xs) x → Contains xs x
contains_drop zero xs x c = c
contains_drop (suc n) [] x c = c
contains_drop (suc n) (y ∷ xs) x c = (let d : Contains xs x = contains_drop n xs x c in (suc d.0, omega (arith, d.1), d.2))

pub contains_map : {A B : Type 0} (f : A → B) (xs : List A) (x : A) → Contains xs x → Contains (map f xs) (f x)
contains_map f [] x c = absurd (omega (arith, c.1))
contains_map f (y ∷ xs) x (zero, below, is) = (0, omega arith, ap f is)
contains_map f (y ∷ xs) x (suc k, below, is) = (let c : Contains (map f xs) (f x) = contains_map f xs x (k, omega arith, is) in (suc c.0, omega (arith, c.1), c.2))

-- ## steps

-- what a step makes of a node, and what the letters that it issues leave of the state after its rule's changes
module _ {st : Setting} {me stamp : ℕ} {old new : Node} {i : Input} {done : Done} (step : IsStep st me old stamp i done new) (o : Reaction) (is : o ≡ rule st me old.state step.told i) where
  pub step_state : new.state ≡ closed stamp old.state o
  step_state = step.state ∙ ap (closed stamp old.state) (sym is)

  pub step_letters : done.letters ≡ letters_of stamp old.state o
  step_letters = ap (λ (d : Done). d.letters) step.outcome ∙ ap (letters_of stamp old.state) (sym is)

  pub step_answer : done.answer ≡ o.answer
  step_answer = ap (λ (d : Done). d.answer) step.outcome ∙ ap (λ (p : Reaction). p.answer) (sym is)

  pub step_leaves : IsLeft (after_changes old.state o.changes) new.state
  step_leaves =
      let own : NodeState = after_changes old.state o.changes in
      let last : NodeState = after_changes own (flat_map sent_changes (letters_of stamp old.state o)) in
      let left : IsLeft own last = letters_left (letters_of stamp old.state o) own in
      let leads : new.state ≡ with_step last = step_state ∙ ap with_step (after_append old.state o.changes (flat_map sent_changes (letters_of stamp old.state o))) in
      record {
        known = ap (λ (t : NodeState). t.known) leads ∙ left.known;
        register = ap (λ (t : NodeState). t.register) leads ∙ left.register;
        taken = ap (λ (t : NodeState). t.taken) leads ∙ left.taken;
        made = ap (λ (t : NodeState). t.made) leads ∙ left.made;
      }

-- the changes of a letter that is taken, but for what is heard
pub taking_each : (Has : Change → Type 0) (from seq name : ℕ) (n : Note) (known : List Change) → Each Has known → (n ≡ Grants Write → Has (Gets name from seq)) → Has (Takes from) →
    Each Has (known ++ (got_change from seq name n ++ Takes from ∷ []))
taking_each Has from seq name n known each gets takes = each_append Has known _ each (by_note n gets)
  where
    by_note : (n : Note) → (n ≡ Grants Write → Has (Gets name from seq)) → Each Has (got_change from seq name n ++ Takes from ∷ [])
    by_note (Grants Write) gets = (gets refl, (takes, tt))
    by_note _ gets = (takes, tt)

-- what holds of each draft as a letter, whatever its number, holds of the letters, and of those to a node
pub numbered_each : (P : Letter → Type 0) (stamp : ℕ) (drafts : List Draft) (issued : ℕ → ℕ) → Every (λ (d : Draft). (seq : ℕ) → P (record { seq = seq; stamp = stamp; msg = d.msg })) drafts →
    Every (λ (l : Sending). P l.letter) (numbered issued stamp drafts)
numbered_each P stamp [] issued each = tt
numbered_each P stamp (d ∷ drafts) issued each = (each.0 (issued d.to + 1), numbered_each P stamp drafts (put issued d.to (issued d.to + 1)) each.1)

pub issued_to : (P : Letter → Type 0) (m : ℕ) (letters : List Sending) → Every (λ (l : Sending). P l.letter) letters → Every P (letters_to m letters)
issued_to P m [] h = tt
issued_to P m (l ∷ letters) h = (let rest : Every P (letters_to m letters) = issued_to P m letters h.1 in either (Every P) (l.to == m) _ _ (λ _. (h.0, rest)) (λ _. rest))

-- ## along a history

-- a letter in flight was in flight before, or was issued now
pub flight_more : (n m : ℕ) (past : List Event) (e : Event) (l : Letter) → length (taken n m past) ≤ length (issued n m past) →
    Contains (in_flight n m (past ++ e ∷ [])) l → Contains (in_flight n m past) l ⊎ ((e.node ≡ n) × Contains (letters_to m e.done.letters) l)
flight_more n m past e l within c = elim (Contains-append_cases (drop i (issued n m past)) (letters_by e n m) l later) [
  | inl there ↦ inl there
  | inr new ↦ inr (either (λ zs. Contains zs l → (e.node ≡ n) × Contains (letters_to m e.done.letters) l) (e.node == n) _ _
      (λ is there. (eqb_is e.node n is, there)) (λ _ there. absurd (omega (arith, there.1))) new)
]
  where
    i : ℕ
    i = length (taken n m past)

    j : ℕ
    j = length (taken n m (e ∷ []))

    same : in_flight n m (past ++ e ∷ []) ≡ drop j (drop i (issued n m past ++ letters_by e n m))
    same = (λ k. drop (length (taken_more n m past e k)) (issued_more n m past e k)) ∙ ap (λ (k : ℕ). drop k (issued n m past ++ letters_by e n m)) (length-append (taken n m past) (taken n m (e ∷ [])))
        ∙ sym (drop-drop j i (issued n m past ++ letters_by e n m))

    later : Contains (drop i (issued n m past) ++ letters_by e n m) l
    later = subst (λ zs. Contains zs l) (drop-append-le i (issued n m past) (letters_by e n m) within) (contains_drop j _ l (subst (λ zs. Contains zs l) same c))

-- one event more after a legal history: it fits, and is a step
pub record IsOneMore (st : Setting) (past : List Event) (nodes : ℕ → Node) (e : Event) (n : Node) : Type 0 where
  pub legal : IsLegal st past
  pub reached : AreAfter st past nodes
  pub fits : Fits st past e
  pub step : IsStep st e.node (nodes e.node) e.stamp e.input e.done n
  pub then_legal : IsLegal st (past ++ e ∷ [])
  pub then_reached : AreAfter st (past ++ e ∷ []) (put nodes e.node n)

-- what holds as a store opens, and after one event more wherever it held before, holds after each legal history
module _ (st : Setting) (P : List Event → (ℕ → Node) → Type 0)
    (more : (past : List Event) (nodes : ℕ → Node) (e : Event) (n : Node) → IsOneMore st past nodes e n → P past nodes → P (past ++ e ∷ []) (put nodes e.node n)) where
  along : (rest past : List Event) (nodes last : ℕ → Node) → IsLegal st (past ++ rest) → AreAfter st past nodes → P past nodes → Replays st nodes rest last → P (past ++ rest) last
  along [] past nodes last legal reached held replay = subst (λ (h : List Event). P h last) (sym (append-nil past)) (subst (P past) replay held)
  along (e ∷ rest) past nodes last legal reached held replay =
      let next : past ++ e ∷ rest ≡ (past ++ e ∷ []) ++ rest = sym (joined past (e ∷ []) rest) in
      let whole : IsLegal st ((past ++ e ∷ []) ++ rest) = subst (IsLegal st) next legal in
      let one : IsOneMore st past nodes e replay.0 = record {
        legal = prefix_is_legal st past (e ∷ rest) legal;
        reached = reached;
        fits = legal.fits past rest e refl;
        step = replay.1;
        then_legal = prefix_is_legal st (past ++ e ∷ []) rest whole;
        then_reached = replay_more st past e (first_node st) nodes replay.0 reached replay.1;
      } in
      subst (λ (h : List Event). P h last) (sym next) (along rest (past ++ e ∷ []) (put nodes e.node replay.0) last whole one.then_reached (more past nodes e replay.0 one held) replay.2)

  pub along_history : P [] (first_node st) → (history : List Event) (nodes : ℕ → Node) → IsLegal st history → AreAfter st history nodes → P history nodes
  along_history first history nodes legal after = along history [] (first_node st) nodes legal refl first after
