-- A grant for which the token waits, from the change of the token to the end.
use Rattle.std.proofs.lemmas.Bool.{cases_eq, eqb-true, false≢true}
use Rattle.std.proofs.lemmas.List.Sums.{fold-append}
use Rattle.std.proofs.Common.{◌≡◌, ℕ, ◌+◌, ◌≤◌, ◌==◌, Bool, true, false, List, [], ◌∷◌, ◌++◌, length, map, filter_map, Option, Some, None, IsSome, is_some, unwrap_or, refl, sym, ◌∙◌, ap, subst, ⊎_elim, arith}
use Rattle.std.specs.Option.{option_map, option_map_or}
use Rattle.bmx_types.specs.Updates.{put}
use Rattle.bmx_types.specs.declared.addresses.Info.{Info}
use Rattle.bmx_types.specs.declared.addresses.Place.{Place}
use Rattle.bmx_types.specs.declared.numbers.Mode.{Mode}
use Rattle.bmx_types.specs.declared.numbers.Mode.TheVariants as mode
use Rattle.bmx_msg.specs.declared.letters.Field.{Field}
use Rattle.bmx_msg.specs.declared.letters.Msg.{Msg}
use Rattle.bmx_msg.specs.declared.letters.Msg.TheVariants as msg
use Rattle.bmx_msg.specs.Letters.{targets}
use Rattle.bmx_token.specs.declared.parts.Part.{Part}
use Rattle.bmx_token.specs.Tokens.{owner_part, granted}
use Rattle.bmx_token.specs.Transitions.{Share, Note, Grants, note_transition, grant_taken, with_copy, saying}
use Rattle.bmx_tokens.specs.Tables.{Table, part_of, part_at, Becomes}
use Rattle.bmx_protocol.specs.declared.inputs.NodeAnswer.TheVariants as answer
use Rattle.bmx_protocol.specs.declared.inputs.Done.{Done}
use Rattle.bmx_protocol.specs.Nodes.{NodeState, Known, share_of}
use Rattle.bmx_protocol.specs.Places.{Places, with_all_learnt}
use Rattle.bmx_protocol.specs.Changes.{Change, Knows, Hears, Gets, Takes, after_change, after_changes}
use Rattle.bmx_protocol.specs.Rules.{Reaction, name_in, note_in, grant_in, infos, info_in, heard_field, got_change, take_rule}
use Rattle.bmx_protocol.specs.Steps.{Node, nowhere}
use Rattle.bmx_memory.specs.Contents.{Contents}
use Rattle.bmx_memory.specs.Shown.{Object, Shown, shown, known_with, known_as}
use Rattle.bmx_mail.specs.Mails.{MailState, entering_of, issued_of, taken_of, with_mail, Tracks, KnowsBunch}
use Rattle.bmx_node.specs.declared.holdings.Holdings.{Holdings}
use Rattle.bmx_node.specs.Seen.{state_of, places_of, limit_of, node_of}
use Rattle.bmx_node.specs.Inside.Keeping.{IsFit, Agree, Keeps, Frame}
use Rattle.bmx_node.specs.Inside.Hearing.{CanHear, Rooms, AgreeBut, KeepsBut, OnlyRoom}
use Rattle.bmx_node.specs.Inside.Reacting.{Reacts, grant_msg, letter_on}
use Rattle.bmx_node.specs.Inside.Taking.{CanTake, Took}
use Rattle.bmx_node.proofs.Puts.{put_here, put_apart}
use Rattle.bmx_node.proofs.Agreeing.{some_same}
use Rattle.bmx_node.proofs.Fitting.{fit_granted}
use Rattle.bmx_node.proofs.Turning.{Turns, turns_token, turned_state, turned_places}
use Rattle.bmx_node.proofs.Reactions.{reacts_silently}
use Rattle.bmx_node.proofs.Operating.{object_there, known_here, unknown_here}
use Rattle.bmx_node.proofs.Notes.{part_there, rule_taken, stray_rule, takes_stray, takes_unknown}
use Rattle.bmx_node.proofs.Bringing.{can_still, hears_under, same_shape}

-- ## what a grant says

pub grant_name : (m : Mode) (info : Info) (fields : List Field) → name_in (grant_msg m info fields) ≡ info.name
grant_name mode.Read info fields = refl
grant_name mode.Write info fields = refl

pub grant_note : (m : Mode) (info : Info) (fields : List Field) → note_in (grant_msg m info fields) ≡ Grants m
grant_note mode.Read info fields = refl
grant_note mode.Write info fields = refl

pub grant_infos : (m : Mode) (info : Info) (fields : List Field) → infos (grant_msg m info fields) ≡ info ∷ filter_map info_in fields
grant_infos mode.Read info fields = refl
grant_infos mode.Write info fields = refl

pub grant_can : (h : Holdings) (from : ℕ) (m : Mode) (info : Info) (fields : List Field) → CanTake h from (grant_msg m info fields) → CanHear h from (info ∷ filter_map info_in fields)
grant_can h from m info fields can = subst (CanHear h from) (grant_infos m info fields) can.can

pub grant_size : (h : Holdings) (from : ℕ) (m : Mode) (info : Info) (fields : List Field) → CanTake h from (grant_msg m info fields) → length fields ≡ info.size
grant_size h from mode.Read info fields can = eqb-true (length fields) info.size can.fields
grant_size h from mode.Write info fields can = eqb-true (length fields) info.size can.fields

grant_rule : (me : ℕ) (s : NodeState) (lies : ℕ → Place) (from seq : ℕ) (m : Mode) (info : Info) (fields : List Field) (k : Known) (q : Part) →
    s.known info.name ≡ Some k → note_transition me from (Grants m) (Some (share_of k)) ≡ Some (saying (with_copy q) []) →
    take_rule me s lies from seq (grant_msg m info fields)
    ≡ record {
      changes = map (Hears from) (info ∷ filter_map info_in fields) ++ (Knows info.name (record k { copy = Some (map heard_field fields); part = q }) ∷ (got_change from seq info.name (Grants m) ++ Takes from ∷ []));
      drafts = [];
      answer = answer.Nil;
    }
grant_rule me s lies from seq mode.Read info fields k q known is = rule_taken me s lies from seq (msg.ReadGrant info fields) k (with_copy q) [] known is
grant_rule me s lies from seq mode.Write info fields k q known is = rule_taken me s lies from seq (msg.WriteGrant info fields) k (with_copy q) [] known is

-- ## a grant that is stray

pub grant_unknown : (stamp : ℕ) (h : Holdings) (from seq : ℕ) (m : Mode) (info : Info) (fields : List Field) → Keeps h → part_of h.tokens info.name ≡ None →
    Took stamp h from seq (grant_msg m info fields) (record { answer = answer.Stray; letters = [] }) h
grant_unknown stamp h from seq m info fields keeps none = takes_unknown stamp h from seq (grant_msg m info fields) info.name (Grants m) keeps (grant_name m info fields) (grant_note m info fields) none refl

pub grant_unwanted : (stamp : ℕ) (h : Holdings) (from seq : ℕ) (m : Mode) (info : Info) (fields : List Field) (p : Part) → Keeps h → part_of h.tokens info.name ≡ Some p → (granted p from m).1 ≡ false →
    Took stamp h from seq (grant_msg m info fields) (record { answer = answer.Stray; letters = [] }) h
grant_unwanted stamp h from seq m info fields p keeps has no_more =
    let here : (o : Object) × ((shown h.memory).object info.name ≡ Some o) = object_there h info.name p keeps has in
    takes_stray stamp h h from seq (grant_msg m info fields)
    (stray_rule h.me (state_of h) (λ n. unwrap_or ((places_of h).place n) nowhere) from seq (grant_msg m info fields) info.name (Grants m) (Some (known_as p here.0)) (grant_name m info fields) (grant_note m info fields)
    (known_here h info.name p here.0 has here.1) (ap (grant_taken (granted p from m).0) no_more)) refl refl

-- ## room

module _ (h r : Holdings) (only : OnlyRoom h r) where
  room_state : state_of r ≡ state_of h
  unfolding state_of
  room_state = ap state_of only.0 ∙ ap (λ (m : Shown). record { known = known_with m.object (part_at h.tokens); register = m.register; entering = entering_of h.mail; issued = issued_of h.mail; taken = taken_of h.mail; clock = h.clock; made = h.made }) only.1

  room_places : places_of r ≡ places_of h
  unfolding places_of
  room_places = ap (λ (m : Shown). m.places) only.1

  pub room_node : node_of r ≡ node_of h
  room_node = λ i. record { state = room_state i; places = room_places i }

  pub room_keeps : Keeps h → Keeps r
  room_keeps keeps = subst Keeps (sym only.0) (record {
    me = ap (λ (m : Shown). m.me) only.1 ∙ keeps.me;
    tokens = keeps.tokens;
    few = keeps.few;
    agree = subst (λ (m : Shown). Agree h.me h.made h.store.bunches m.object (part_of h.tokens)) (sym only.1) keeps.agree;
  })

  pub room_frame : Frame h r
  unfolding limit_of
  room_frame = record { me = ap (λ (x : Holdings). x.me) only.0; store = ap (λ (x : Holdings). x.store) only.0; limit = ap (λ (m : Shown). m.limit) only.1; clock = ap (λ (x : Holdings). x.clock) only.0 }

  pub room_part : part_of r.tokens ≡ part_of h.tokens
  room_part = ap (λ (x : Holdings). part_of x.tokens) only.0

  pub room_can : (from : ℕ) (all : List Info) → CanHear h from all → CanHear r from all
  room_can from all can = subst (λ (x : Holdings). CanHear x from all) (sym only.0) (record { fits = room_fits from all can; small = can.small; made = can.made })
    where
      room_fits : (from : ℕ) (all : List Info) → CanHear h from all →
          Rattle.bmx_protocol.specs.Strays.some_clash h.me from (state_of (record h { memory = r.memory; tokens = record h.tokens { spare = r.tokens.spare }; mail = record h.mail { spare = r.mail.spare } })).known
          (places_of (record h { memory = r.memory; tokens = record h.tokens { spare = r.tokens.spare }; mail = record h.mail { spare = r.mail.spare } })) all ≡ false
      room_fits from all can =
          (λ i. Rattle.bmx_protocol.specs.Strays.some_clash h.me from (sym (ap state_of only.0) i).known (sym (ap places_of only.0) i) all)
          ∙ (λ i. Rattle.bmx_protocol.specs.Strays.some_clash h.me from (room_state i).known (room_places i) all) ∙ can.fits

  pub room_taken : (from : ℕ) → taken_of r.mail from ≡ taken_of h.mail from
  room_taken from = ap (λ (x : Holdings). taken_of x.mail from) only.0

  -- what is made of a letter with the room is made of it without
  pub room_took : (stamp from seq : ℕ) (m : Msg) (d : Done) (new : Holdings) → Took stamp r from seq m d new → Took stamp h from seq m d new
  room_took stamp from seq m d new took = record {
    reacts =
        subst (λ (s : NodeState). Reacts stamp s (take_rule h.me s (λ n. unwrap_or ((places_of h).place n) nowhere) from seq m) d (state_of new)) room_state
        (subst (λ (a : Places). Reacts stamp (state_of r) (take_rule h.me (state_of r) (λ n. unwrap_or (a.place n) nowhere) from seq m) d (state_of new)) room_places
        (subst (λ (me : ℕ). Reacts stamp (state_of r) (take_rule me (state_of r) (λ n. unwrap_or ((places_of r).place n) nowhere) from seq m) d (state_of new)) (ap (λ (x : Holdings). x.me) only.0) took.reacts));
    places = took.places ∙ ap (λ (a : Places). Rattle.std.proofs.Common.cond (Rattle.bmx_protocol.specs.Steps.is_taken d.answer) (with_all_learnt a (infos m)) a) room_places;
  }

-- ## the token, and then the rest

agree_but : (me made bunches : ℕ) (object : ℕ → Option Object) (part : ℕ → Option Part) (name : ℕ) (p q : Part) → Agree me made bunches object part → part name ≡ Some p → IsFit q →
    AgreeBut name me made bunches object (put part name (Some q))
agree_but me made bunches object part name p q old has fit = record {
  same = λ x. ⊎_elim
      (λ (e : name ≡ x). ap is_some (put_here part name x (Some q) e) ∙ sym (ap is_some has) ∙ ap (λ (y : ℕ). is_some (part y)) e ∙ old.same x)
      (λ (ne : name ≡ x → ⊥). ap is_some (put_apart part name x (Some q) ne) ∙ old.same x)
      (cases_eq name x);
  fit = λ x y is. ⊎_elim
      (λ (e : name ≡ x). subst IsFit (some_same q y (sym (put_here part name x (Some q) e) ∙ is)) fit)
      (λ (ne : name ≡ x → ⊥). old.fit x y (sym (put_apart part name x (Some q) ne) ∙ is))
      (cases_eq name x);
  owners = λ x y ne is own. old.owners x y (sym (put_apart part name x (Some q) ne) ∙ is) own;
  fresh = old.fresh;
  anchors = old.anchors;
}

module _ (stamp : ℕ) (r : Holdings) (from seq : ℕ) (m : Mode) (info : Info) (fields : List Field) (keeps : Keeps r) (can : CanHear r from (info ∷ filter_map info_in fields))
    (there : IsSome (part_of r.tokens info.name)) (awaits : (granted (part_at r.tokens info.name) from m).1 ≡ true)
    (t : Table) (becomes : Becomes r.tokens t info.name (granted (part_at r.tokens info.name) from m).0) where
  has : part_of r.tokens info.name ≡ Some (part_at r.tokens info.name)
  has = part_there r info.name there

  here : (o : Object) × ((shown r.memory).object info.name ≡ Some o)
  here = object_there r info.name (part_at r.tokens info.name) keeps has

  known : (state_of r).known info.name ≡ Some (known_as (part_at r.tokens info.name) here.0)
  known = known_here r info.name (part_at r.tokens info.name) here.0 has here.1

  turned : Turns r (record r { tokens = t }) info.name (granted (part_at r.tokens info.name) from m).0 here.0
  turned = turns_token r t info.name (granted (part_at r.tokens info.name) from m).0 here.0 here.1 becomes

  state : state_of (record r { tokens = t }) ≡ after_change (state_of r) (Knows info.name (known_as (granted (part_at r.tokens info.name) from m).0 here.0))
  unfolding state_of
  state = turned_state r (record r { tokens = t }) info.name (granted (part_at r.tokens info.name) from m).0 here.0 turned

  pub granted_can : CanHear (record r { tokens = t }) from (info ∷ filter_map info_in fields)
  granted_can = can_still r (record r { tokens = t }) from (info ∷ filter_map info_in fields) info.name (known_as (part_at r.tokens info.name) here.0) (granted (part_at r.tokens info.name) from m).0 can refl refl known state
      (turned_places r (record r { tokens = t }) info.name (granted (part_at r.tokens info.name) from m).0 here.0 turned)

  pub granted_keeps : KeepsBut info.name (record r { tokens = t })
  granted_keeps = record {
    me = keeps.me;
    tokens = becomes.me ∙ keeps.tokens;
    few = keeps.few;
    agree = subst (AgreeBut info.name r.me r.made r.store.bunches (shown r.memory).object) (sym becomes.part)
        (agree_but r.me r.made r.store.bunches (shown r.memory).object (part_of r.tokens) info.name (part_at r.tokens info.name) (granted (part_at r.tokens info.name) from m).0 keeps.agree has
        (fit_granted (part_at r.tokens info.name) from m (keeps.agree.fit info.name (part_at r.tokens info.name) has)));
  }

  pub granted_there : IsSome (part_of t info.name)
  granted_there = ap is_some (ap (λ (f : ℕ → Option Part). f info.name) becomes.part ∙ put_here (part_of r.tokens) info.name info.name (Some (granted (part_at r.tokens info.name) from m).0) refl)

  pub granted_rooms : (n : ℕ) → Rooms r n → Rooms (record r { tokens = t }) n
  granted_rooms n rooms = record { objects = rooms.objects; tokens = subst (λ (x : ℕ). n ≤ x) (sym becomes.spare) rooms.tokens }

  module _ (new : Holdings) (mail : MailState)
      (brought : (k : Known) → (state_of (record r { tokens = t })).known info.name ≡ Some k →
      state_of new ≡ after_change (after_changes (state_of (record r { tokens = t })) (map (Hears from) (info ∷ filter_map info_in fields))) (Knows info.name (record k { copy = Some (map heard_field fields) })))
      (places : places_of new ≡ with_all_learnt (places_of (record r { tokens = t })) (info ∷ filter_map info_in fields))
      (noted : Tracks new.mail mail (got_change from seq info.name (Grants m) ++ Takes from ∷ []) (KnowsBunch info.name info.bunch)) where
    last : Known
    last = record { bunch = here.0.bunch; size = here.0.size; copy = Some (map heard_field fields); part = (granted (part_at r.tokens info.name) from m).0 }

    came : state_of new ≡ after_change (after_changes (state_of r) (map (Hears from) (info ∷ filter_map info_in fields))) (Knows info.name (record { bunch = here.0.bunch; size = here.0.size; copy = Some (map heard_field fields); part = (granted (part_at r.tokens info.name) from m).0 }))
    came =
        let k : Known = known_as (part_at r.tokens info.name) here.0 in
        let q : Known = known_as (granted (part_at r.tokens info.name) from m).0 here.0 in
        let b : Known = record q { copy = Some (map heard_field fields) } in
        brought q (ap (λ (s : NodeState). s.known info.name) state ∙ put_here (state_of r).known info.name info.name (Some q) refl)
        ∙ ap (λ (s : NodeState). after_change (after_changes s (map (Hears from) (info ∷ filter_map info_in fields))) (Knows info.name b)) state
        ∙ hears_under (state_of r) from (info ∷ filter_map info_in fields) info.name k q b known

    bunch : KnowsBunch info.name info.bunch (state_of new)
    bunch =
        let b : Known = record { bunch = here.0.bunch; size = here.0.size; copy = Some (map heard_field fields); part = (granted (part_at r.tokens info.name) from m).0 } in
        ap (λ (s : NodeState). option_map_or (λ (k : Known). k.bunch) (s.known info.name) 0) came
        ∙ ap (λ (o : Option Known). option_map_or (λ (k : Known). k.bunch) o 0) (put_here (after_changes (state_of r) (map (Hears from) (info ∷ filter_map info_in fields))).known info.name info.name (Some b) refl)
        ∙ (same_shape r from info (filter_map info_in fields) (known_as (part_at r.tokens info.name) here.0) can known).0

    ends : state_of (record new { mail = mail }) ≡ after_changes (state_of new) (got_change from seq info.name (Grants m) ++ Takes from ∷ [])
    unfolding state_of
    ends = sym (noted (state_of new) bunch)

    pub granted_took : Took stamp r from seq (grant_msg m info fields) (record { answer = answer.Nil; letters = [] }) (record new { mail = mail })
    unfolding places_of
    granted_took =
        let k : Known = known_as (part_at r.tokens info.name) here.0 in
        let b : Known = record { bunch = here.0.bunch; size = here.0.size; copy = Some (map heard_field fields); part = (granted (part_at r.tokens info.name) from m).0 } in
        let heard : List Change = map (Hears from) (info ∷ filter_map info_in fields) in
        let rest : List Change = got_change from seq info.name (Grants m) ++ Takes from ∷ [] in
        let rule : letter_on r from seq (grant_msg m info fields) ≡ record { changes = heard ++ (Knows info.name b ∷ rest); drafts = []; answer = answer.Nil } =
        grant_rule r.me (state_of r) (λ n. unwrap_or ((places_of r).place n) nowhere) from seq m info fields k (granted (part_at r.tokens info.name) from m).0 known (ap (grant_taken (granted (part_at r.tokens info.name) from m).0) awaits) in
        record {
          reacts = subst (λ (x : Reaction). Reacts stamp (state_of r) x (record { answer = answer.Nil; letters = [] }) (state_of (record new { mail = mail }))) (sym rule)
              (reacts_silently stamp (state_of r) (state_of (record new { mail = mail })) (heard ++ (Knows info.name b ∷ rest)) answer.Nil
              (ends ∙ ap (λ (s : NodeState). after_changes s rest) came ∙ sym (fold-append after_change (state_of r) heard (Knows info.name b ∷ rest))));
          places = places ∙ ap (with_all_learnt (places_of r)) (sym (grant_infos m info fields))
              ∙ ap (λ (a : Places). a) refl;
        }

-- ## with the room

pub OnErr-from : {T E P : Type 0} (r : Rattle.std.specs.Prelude.Result T E) → P → Rattle.std.specs.Prelude.OnErr r P
OnErr-from (Rattle.std.specs.Prelude.Ok x) p = tt
OnErr-from (Rattle.std.specs.Prelude.Err e) p = p

module _ (h r : Holdings) (only : OnlyRoom h r) (name : ℕ) where
  pub room_there : IsSome (part_of h.tokens name) → IsSome (part_of r.tokens name)
  room_there there = subst (λ (f : ℕ → Option Part). IsSome (f name)) (sym (room_part h r only)) there

  pub room_awaits : (from : ℕ) (m : Mode) → (granted (part_at h.tokens name) from m).1 ≡ true → (granted (part_at r.tokens name) from m).1 ≡ true
  room_awaits from m awaits = subst (λ (f : ℕ → Option Part). (granted (unwrap_or (f name) owner_part) from m).1 ≡ true) (sym (room_part h r only)) awaits

-- as many names as a grant brings
pub rooms_for : (r : Holdings) (names : ℕ) (fields slice : List Field) → slice ≡ fields → names ≡ 1 + length (targets slice) → Rooms r names → Rooms r (length (filter_map info_in fields) + 1)
rooms_for r names fields slice sliced is rooms =
    let told : length (targets slice) ≡ length (filter_map info_in fields) = ap (λ (l : List Field). length (targets l)) sliced ∙ Rattle.bmx_node.proofs.Bringing.targets_told fields in
    let same : names ≡ length (filter_map info_in fields) + 1 = omega (arith, is, told) in
    subst (Rooms r) same rooms

-- ## the record of who handed it over

module _ (old new : MailState) (from seq name bunch : ℕ) where
  pub noted_read : Tracks old new (Takes from ∷ []) (λ _. Unit {0}) → Tracks old new (got_change from seq name (Grants mode.Read) ++ Takes from ∷ []) (KnowsBunch name bunch)
  noted_read change s knows = change s tt

  pub noted_write : (mid : MailState) → Tracks old mid (Takes from ∷ []) (λ _. Unit {0}) → Tracks mid new (Gets name from seq ∷ []) (KnowsBunch name bunch) →
      Tracks old new (got_change from seq name (Grants mode.Write) ++ Takes from ∷ []) (KnowsBunch name bunch)
  noted_write mid change got s knows = ap (λ (y : NodeState). after_change y (Gets name from seq)) (change s tt) ∙ got s knows
