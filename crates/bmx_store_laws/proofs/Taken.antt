-- Taking a letter, seen for one name: the model's transition by what the letter says of it.
use Rattle.std.proofs.Common.{◌≡◌, ◌⊎◌, inl, inr, ℕ, ◌+◌, refl, ap, sym, subst, ◌∙◌, Bool, true, false, cond, List, [], ◌∷◌, ◌++◌, map}
use Rattle.std.specs.Prelude.{◌==◌, ◌||◌, Option, Some, None, is_some, filter_map}
use Rattle.std.specs.Option.{option_map, option_map_or}
use Rattle.std.specs.List.{list_any}
use Rattle.bmx_types.specs.declared.addresses.Info.{Info}
use Rattle.bmx_types.specs.declared.addresses.Place.{Place}
use Rattle.bmx_types.specs.declared.numbers.Mode.TheVariants as mode
use Rattle.bmx_types.specs.Updates.{put}
use Rattle.bmx_msg.specs.declared.letters.Field.{Field}
use Rattle.bmx_msg.specs.declared.letters.Field.TheVariants as msg_field
use Rattle.bmx_msg.specs.declared.letters.Msg.{Msg}
use Rattle.bmx_msg.specs.declared.letters.Msg.TheVariants as msg
use Rattle.bmx_msg.specs.Letters.{targets}
use Rattle.bmx_owner.specs.Records.{blank, got_by}
use Rattle.bmx_token.specs.Transitions.{Share, Note, Asks, Grants, Recalls, Returns, Send, Transition, note_transition}
use Rattle.bmx_token_model.specs.Machine.{Message, Numbers, draft, is_handover, got_in, hears, said_transition, letter_transition}
use Rattle.bmx_protocol.specs.declared.inputs.NodeAnswer.TheVariants as answer
use Rattle.bmx_protocol.specs.declared.views.ViewField.{ViewField}
use Rattle.bmx_protocol.specs.Nodes.{NodeState, Known, share_of}
use Rattle.bmx_protocol.specs.Changes.{Change, Sets, Makes, Knows, Hears, Gives, Gets, Issues, Takes, record_of, after_change, after_changes}
use Rattle.bmx_protocol.specs.Rules.{Draft, Reaction, only, name_in, note_in, info_in, infos, told_fields, known_change, copy_after, got_change, took, take_rule}
use Rattle.bmx_protocol.proofs.Changing.{after_append, Each}
use Rattle.bmx_store_laws.specs.Inside.Seen.{has_name, seen_note, tells_of, seen_draft, seen_known, seen_record}
use Rattle.bmx_protocol.proofs.Basics.{eqb_of, eqb_same, Two, Same, Apart, two}
use Rattle.bmx_store_laws.proofs.Sends.{records_of, numbers_in, record_at, got_is}
use Rattle.bmx_store_laws.proofs.Shares.{shares_after, shares_append, heard_all}
use Rattle.bmx_store_laws.proofs.Copies.{IsCopied, copy_by, note_copied, NoGrants, GrantsNothing, note_grants}
use Rattle.bmx_store_laws.proofs.Ruled.{Silent, drafts_same, notes_silent, known_apart, known_same}

-- ## what a letter tells

-- the Infos of fields name what the fields refer to
fields_named : (x : ℕ) (fields : List Field) → list_any (λ (i : Info). i.name == x) (filter_map info_in fields) ≡ has_name x (targets fields)
fields_named x [] = refl
fields_named x (msg_field.Null ∷ fields) = fields_named x fields
fields_named x (msg_field.Int k ∷ fields) = fields_named x fields
fields_named x (msg_field.Ref info ∷ fields) = ap (λ (b : Bool). (info.name == x) || b) (fields_named x fields)

-- a letter about another object tells of x just if x is among its Infos
infos_named : (x : ℕ) (m : Msg) → (name_in m == x) ≡ false → list_any (λ (i : Info). i.name == x) (infos m) ≡ tells_of x m
infos_named x (msg.ReadReq name asker) h = refl
infos_named x (msg.WriteReq name asker) h = refl
infos_named x (msg.ReadGrant info fields) h = λ i. h i || fields_named x fields i
infos_named x (msg.WriteGrant info fields) h = λ i. h i || fields_named x fields i
infos_named x (msg.Inval name) h = refl
infos_named x (msg.InvAck name) h = refl

-- ## what a letter is for a name

-- the records of x at a node, once letter number seq from another brought it or not
abbrev pub got_records : Bool → (ℕ → Option Numbers) → ℕ → ℕ → ℕ → Option Numbers
got_records b f from seq n = cond b (cond (from == n) (Some (got_in seq (f from))) (f n)) (f n)

-- the messages are the model's, or they are about another object and it has none
pub data Says (x : ℕ) (drafts : List Draft) (sends : List Send) : Type 0 where
  Own : map (seen_draft x) drafts ≡ map (draft false) sends → Says x drafts sends
  Others : sends ≡ [] → Silent x drafts → Says x drafts sends

-- letter number seq from a node is taken, of which the model makes a transition
pub record Took (x me from seq : ℕ) (s : NodeState) (m : Msg) (o : Reaction) : Type 0 where
  pub transition : Transition
  pub makes : (l : Message) → l.note ≡ seen_note x m → l.tells ≡ tells_of x m → letter_transition me from l (seen_known (s.known x)) ≡ Some transition
  pub after : shares_after x (seen_known (s.known x)) o.changes ≡ transition.after
  pub says : Says x o.drafts transition.sends
  pub entering : (n : ℕ) → records_of x (after_changes s o.changes) n ≡ got_records (option_map_or is_handover (seen_note x m) false) (records_of x s) from seq n
  pub taken : (after_changes s o.changes).taken ≡ put s.taken from (s.taken from + 1)
  pub made : (after_changes s o.changes).made ≡ s.made

-- the letter is stray, or taken
pub data Taken (x me from seq : ℕ) (s : NodeState) (m : Msg) (o : Reaction) : Type 0 where
  Strayed : o ≡ only answer.Stray → Taken x me from seq s m o
  Taking : o.answer ≡ answer.Nil → Took x me from seq s m o → Taken x me from seq s m o

-- ## records and counts

-- a change of what is known alone
abbrev IsKnowing : Change → Type 0
IsKnowing (Sets register v) = ⊥
IsKnowing Makes = ⊥
IsKnowing (Knows name k) = Unit {0}
IsKnowing (Hears from info) = Unit {0}
IsKnowing (Gives name to seq) = ⊥
IsKnowing (Gets name from seq) = ⊥
IsKnowing (Issues to) = ⊥
IsKnowing (Takes from) = ⊥

record IsBeside (s t : NodeState) : Type 0 where
  entering : t.entering ≡ s.entering
  taken : t.taken ≡ s.taken
  made : t.made ≡ s.made

beside : (changes : List Change) → Each IsKnowing changes → (s t : NodeState) → IsBeside s t → IsBeside s (after_changes t changes)
beside [] each s t b = b
beside (c ∷ changes) each s t b = beside changes each.1 s (after_change t c) (by_change c each.0)
  where
    by_change : (c : Change) → IsKnowing c → IsBeside s (after_change t c)
    by_change (Sets register v) is = absurd is
    by_change Makes is = absurd is
    by_change (Knows name k) is = record { entering = b.entering; taken = b.taken; made = b.made }
    by_change (Hears from info) is = record { entering = b.entering; taken = b.taken; made = b.made }
    by_change (Gives name to seq) is = absurd is
    by_change (Gets name from seq) is = absurd is
    by_change (Issues to) is = absurd is
    by_change (Takes from) is = absurd is

hears_known : (from : ℕ) (more : List Info) → Each IsKnowing (map (Hears from) more)
hears_known from [] = tt
hears_known from (info ∷ more) = (tt, hears_known from more)

knows_known : (name : ℕ) (k : Option Known) (fields : Option (List ViewField)) (h : Option Share) → Each IsKnowing (known_change name k fields h)
knows_known name None fields h = tt
knows_known name (Some k) fields None = tt
knows_known name (Some k) fields (Some h) = (tt, tt)

-- the records after the record of who hands an object over is written
got_numbers : (x from seq name : ℕ) (n : Note) (s : NodeState) (k : ℕ) →
    records_of x (after_changes s (got_change from seq name n)) k ≡ got_records (option_map_or is_handover (cond (name == x) (Some n) None) false) (records_of x s) from seq k
got_numbers x from seq name n s k = by_note n
  where
    none : (b : Bool) (n : Note) → is_handover n ≡ false → option_map_or is_handover (cond b (Some n) None) false ≡ false
    none true n h = h
    none false n h = refl

    stays : (n : Note) → is_handover n ≡ false → records_of x s k ≡ got_records (option_map_or is_handover (cond (name == x) (Some n) None) false) (records_of x s) from seq k
    stays n h = λ i. got_records (sym (none (name == x) n h) i) (records_of x s) from seq k

    by_two : Two name x →
        cond (name == x) (cond (from == k) (Some (numbers_in (got_by seq (record_of s name from)))) (records_of x s k)) (records_of x s k)
        ≡ got_records (option_map_or is_handover (cond (name == x) (Some (Grants mode.Write)) None) false) (records_of x s) from seq k
    by_two (Same e) =
        (λ i. cond (eqb_of e i) (cond (from == k) (Some (got_is seq (s.entering name from) (blank name (option_map_or (λ (j : Known). j.bunch) (s.known name) 0) from) refl i)) (records_of x s k)) (records_of x s k))
        ∙ (λ i. cond (from == k) (Some (got_in seq (records_of (e i) s from))) (records_of x s k))
        ∙ (λ i. got_records (option_map_or is_handover (cond (sym (eqb_of e) i) (Some (Grants mode.Write)) None) false) (records_of x s) from seq k)
    by_two (Apart h d) =
        (λ i. cond (h i) (cond (from == k) (Some (numbers_in (got_by seq (record_of s name from)))) (records_of x s k)) (records_of x s k))
        ∙ (λ i. got_records (option_map_or is_handover (cond (sym h i) (Some (Grants mode.Write)) None) false) (records_of x s) from seq k)

    by_note : (n : Note) → records_of x (after_changes s (got_change from seq name n)) k
        ≡ got_records (option_map_or is_handover (cond (name == x) (Some n) None) false) (records_of x s) from seq k
    by_note (Asks m asker) = stays (Asks m asker) refl
    by_note (Grants mode.Read) = stays (Grants mode.Read) refl
    by_note (Grants mode.Write) = record_at s name from x k (got_by seq (record_of s name from)) ∙ by_two (two name x)
    by_note Recalls = stays Recalls refl
    by_note Returns = stays Returns refl

-- the state after a letter was taken
module _ (s : NodeState) (lies : ℕ → Place) (from seq : ℕ) (m : Msg) (k : Option Known) (t : Transition) where
  abbrev o : Reaction
  o = took s lies from seq m k (Some t)

  -- once its Infos were heard, and its name is known as it is then
  abbrev heard_changes : List Change
  heard_changes = map (Hears from) (infos m)

  abbrev known_changes : List Change
  known_changes = known_change (name_in m) k (copy_after m k) t.after

  abbrev known_state : NodeState
  known_state = after_changes (after_changes s heard_changes) known_changes

  abbrev got_changes : List Change
  got_changes = got_change from seq (name_in m) (note_in m)

  splits : after_changes s o.changes ≡ after_change (after_changes known_state got_changes) (Takes from)
  splits =
      after_append s heard_changes (known_changes ++ (got_changes ++ Takes from ∷ []))
      ∙ after_append (after_changes s heard_changes) known_changes (got_changes ++ Takes from ∷ [])
      ∙ after_append known_state got_changes (Takes from ∷ [])

  known_beside : IsBeside s known_state
  known_beside = beside known_changes (knows_known (name_in m) k (copy_after m k) t.after) s (after_changes s heard_changes)
      (beside heard_changes (hears_known from (infos m)) s s (record { entering = refl; taken = refl; made = refl }))

  -- the record of who hands over leaves the counts
  got_leaves : (n : Note) (u : NodeState) → ((after_changes u (got_change from seq (name_in m) n)).taken ≡ u.taken) × ((after_changes u (got_change from seq (name_in m) n)).made ≡ u.made)
  got_leaves (Asks a asker) u = (refl, refl)
  got_leaves (Grants mode.Read) u = (refl, refl)
  got_leaves (Grants mode.Write) u = (refl, refl)
  got_leaves Recalls u = (refl, refl)
  got_leaves Returns u = (refl, refl)

  pub took_entering : (x n : ℕ) → records_of x (after_changes s o.changes) n ≡ got_records (option_map_or is_handover (seen_note x m) false) (records_of x s) from seq n
  took_entering x n =
      ap (λ (u : NodeState). records_of x u n) splits
      ∙ got_numbers x from seq (name_in m) (note_in m) known_state n
      ∙ (λ i. got_records (option_map_or is_handover (seen_note x m) false) (λ j. seen_record (known_beside.entering i x j)) from seq n)

  pub took_taken : (after_changes s o.changes).taken ≡ put s.taken from (s.taken from + 1)
  took_taken =
      ap (λ (u : NodeState). u.taken) splits
      ∙ ap (λ (f : ℕ → ℕ). put f from (f from + 1)) ((got_leaves (note_in m) known_state).0 ∙ known_beside.taken)

  pub took_made : (after_changes s o.changes).made ≡ s.made
  took_made = ap (λ (u : NodeState). u.made) splits ∙ (got_leaves (note_in m) known_state).1 ∙ known_beside.made

  -- what a node has of x: what it was told, and then what the transition leaves of its name
  got_spares : (x : ℕ) (h : Option Share) (n : Note) → shares_after x h (got_change from seq (name_in m) n ++ Takes from ∷ []) ≡ h
  got_spares x h (Asks a asker) = refl
  got_spares x h (Grants mode.Read) = refl
  got_spares x h (Grants mode.Write) = refl
  got_spares x h Recalls = refl
  got_spares x h Returns = refl

  pub took_shares : (x : ℕ) (h : Option Share) →
      shares_after x h o.changes ≡ shares_after x (hears (list_any (λ (i : Info). i.name == x) (infos m)) from h) known_changes
  took_shares x h =
      shares_append x h heard_changes (known_changes ++ (got_changes ++ Takes from ∷ []))
      ∙ shares_append x (shares_after x h heard_changes) known_changes (got_changes ++ Takes from ∷ [])
      ∙ got_spares x (shares_after x (shares_after x h heard_changes) known_changes) (note_in m)
      ∙ ap (λ (g : Option Share). shares_after x g known_changes) (heard_all x from (infos m) h)

-- ## about x

-- a note that is taken by a node that doesn't know the object is a recall, and tells of nothing
none_told : (x me from : ℕ) (m : Msg) (t : Transition) → note_transition me from (note_in m) None ≡ Some t → (tells_of x m ≡ false) × ((list_any (λ (i : Info). i.name == x) (infos m) ≡ false) × (t.after ≡ None))
none_told x me from (msg.ReadReq name asker) t does = absurd cc
none_told x me from (msg.WriteReq name asker) t does = absurd cc
none_told x me from (msg.ReadGrant info fields) t does = absurd cc
none_told x me from (msg.WriteGrant info fields) t does = absurd cc
none_told x me from (msg.Inval name) t does = (refl, (refl, sym (ap (λ (u : Option Transition). after_of u) does)))
  where
    after_of : Option Transition → Option Share
    after_of None = None
    after_of (Some u) = u.after
none_told x me from (msg.InvAck name) t does = absurd cc

-- the copy that a message leaves
copy_is : (m : Msg) (k : Known) → is_some (copy_after m (Some k)) ≡ copy_by (note_in m) (is_some k.copy)
copy_is (msg.ReadReq name asker) k = refl
copy_is (msg.WriteReq name asker) k = refl
copy_is (msg.ReadGrant info fields) k = refl
copy_is (msg.WriteGrant info fields) k = refl
copy_is (msg.Inval name) k = refl
copy_is (msg.InvAck name) k = refl

-- without a grant among them, drafts are the same whether a field refers to the object or not
drafts_alike : (b : Bool) (sends : List Send) → NoGrants sends → map (draft b) sends ≡ map (draft false) sends
drafts_alike true [] none = refl
drafts_alike true (n ∷ sends) none = λ i. record { to = n.to; note = Some n.note; tells = none.0 i } ∷ drafts_alike true sends none.1 i
drafts_alike false sends none = refl

heard_still : (b : Bool) (from : ℕ) (h : Share) → hears b from (Some h) ≡ Some h
heard_still true from h = refl
heard_still false from h = refl

-- the model's transition by a letter with a note
letter_makes : (me from : ℕ) (l : Message) (says : Option Note) (tells : Bool) (h : Option Share) (t : Transition) → l.note ≡ says → l.tells ≡ tells →
    said_transition me from says h ≡ Some t → letter_transition me from l h ≡ Some (record t { after = hears tells from t.after })
letter_makes me from l says tells h t is told does =
    (λ i. option_map (λ (u : Transition). record u { after = hears (told i) from u.after }) (said_transition me from (is i) h))
    ∙ ap (option_map (λ (u : Transition). record u { after = hears tells from u.after })) does

about_x : (me from seq : ℕ) (s : NodeState) (lies : ℕ → Place) (m : Msg) (k : Option Known) (t : Transition) → s.known (name_in m) ≡ k →
    note_transition me from (note_in m) (seen_known k) ≡ Some t → NoGrants t.sends → Took (name_in m) me from seq s m (took s lies from seq m k (Some t))
about_x me from seq s lies m k t is does none = record {
  transition = record t { after = hears (tells_of x m) from t.after };
  makes = λ l note tells. letter_makes me from l (Some (note_in m)) (tells_of x m) (seen_known (s.known x)) t
      (note ∙ (λ i. cond (eqb_same x i) (Some (note_in m)) None)) tells (ap (λ (j : Option Known). note_transition me from (note_in m) (seen_known j)) is ∙ does);
  after = took_shares s lies from seq m k t x (seen_known (s.known x)) ∙ ap (λ (j : Option Known). by_after j) is ∙ by_known k does;
  says = Own (drafts_same x s lies t.sends ∙ drafts_alike (has_name x (targets (told_fields s lies x))) t.sends none);
  entering = λ n. took_entering s lies from seq m k t x n;
  taken = took_taken s lies from seq m k t;
  made = took_made s lies from seq m k t;
}
  where
    x : ℕ
    x = name_in m

    by_after : Option Known → Option Share
    by_after j = shares_after x (hears (list_any (λ (i : Info). i.name == x) (infos m)) from (seen_known j)) (known_change x k (copy_after m k) t.after)

    by_known : (k : Option Known) → note_transition me from (note_in m) (seen_known k) ≡ Some t →
        shares_after x (hears (list_any (λ (i : Info). i.name == x) (infos m)) from (seen_known k)) (known_change x k (copy_after m k) t.after)
        ≡ hears (tells_of x m) from t.after
    by_known None does =
        let n : (tells_of x m ≡ false) × ((list_any (λ (i : Info). i.name == x) (infos m) ≡ false) × (t.after ≡ None)) = none_told x me from m t does in
        (λ i. hears (n.1.0 i) from None) ∙ sym n.1.1 ∙ (λ i. hears (sym n.0 i) from t.after)
    by_known (Some k) does =
        let c : IsCopied (copy_by (note_in m) (is_some k.copy)) (Some t) = subst (IsCopied (copy_by (note_in m) (is_some k.copy))) does (note_copied me from (note_in m) (share_of k)) in
        ap (λ (h : Option Share). shares_after x (hears (list_any (λ (i : Info). i.name == x) (infos m)) from (Some (share_of k))) (known_change x (Some k) (copy_after m (Some k)) h)) c.1
        ∙ known_same x k (copy_after m (Some k)) c.0 _ (copied c.0 c.2)
        ∙ sym (heard_still (tells_of x m) from c.0) ∙ ap (hears (tells_of x m) from) (sym c.1)
      where
        copied : (h : Share) → (h.copy ≡ copy_by (note_in m) (is_some k.copy)) ⊎ (h.copy ≡ false) → (h.copy ≡ is_some (copy_after m (Some k))) ⊎ (h.copy ≡ false)
        copied h (inl e) = inl (e ∙ sym (copy_is m k))
        copied h (inr e) = inr e

-- ## about another

about_other : (x me from seq : ℕ) (s : NodeState) (lies : ℕ → Place) (m : Msg) (k : Option Known) (t : Transition) → (name_in m == x) ≡ false → NoGrants t.sends →
    Took x me from seq s m (took s lies from seq m k (Some t))
about_other x me from seq s lies m k t apart none = record {
  transition = record { after = hears (tells_of x m) from (seen_known (s.known x)); sends = [] };
  makes = λ l note tells. letter_makes me from l None (tells_of x m) (seen_known (s.known x)) (record { after = seen_known (s.known x); sends = [] })
      (note ∙ (λ i. cond (apart i) (Some (note_in m)) None)) tells refl;
  after = took_shares s lies from seq m k t x (seen_known (s.known x))
      ∙ known_apart x (name_in m) k (copy_after m k) t.after _ apart
      ∙ (λ i. hears (infos_named x m apart i) from (seen_known (s.known x)));
  says = Others refl (notes_silent x (name_in m) s lies t.sends apart none);
  entering = λ n. took_entering s lies from seq m k t x n;
  taken = took_taken s lies from seq m k t;
  made = took_made s lies from seq m k t;
}

-- ## the letter

pub take_taken : (x me : ℕ) (s : NodeState) (lies : ℕ → Place) (from seq : ℕ) (m : Msg) → Taken x me from seq s m (take_rule me s lies from seq m)
take_taken x me s lies from seq m =
    by_transition (note_transition me from (note_in m) (seen_known (s.known (name_in m)))) refl (note_grants me from (note_in m) (seen_known (s.known (name_in m)))) (two (name_in m) x)
  where
    by_transition : (t : Option Transition) → note_transition me from (note_in m) (seen_known (s.known (name_in m))) ≡ t → GrantsNothing t → Two (name_in m) x →
        Taken x me from seq s m (took s lies from seq m (s.known (name_in m)) t)
    by_transition None does none q = Strayed refl
    by_transition (Some t) does none (Same e) = Taking refl (subst (λ (y : ℕ). Took y me from seq s m (took s lies from seq m (s.known (name_in m)) (Some t))) e
        (about_x me from seq s lies m (s.known (name_in m)) t refl does none))
    by_transition (Some t) does none (Apart h d) = Taking refl (about_other x me from seq s lies m (s.known (name_in m)) t h none)
