-- What a letter changes in the state of a node, and letters posted one after another.
use Rattle.std.proofs.Common.{◌≡◌, ℕ, ◌+◌, ◌<◌, List, [], ◌∷◌, ◌++◌, length, map, slice_index, slice_set, Some, refl, sym, ap, ◌∙◌, subst, filter_map}
use Rattle.std.specs.List.{flat_map}
use Rattle.std.proofs.Math.Path.{fun_ext}
use Rattle.std.proofs.lemmas.Grind.{flat_map-append}
use Rattle.bmx_types.specs.declared.addresses.Info.{Info}
use Rattle.bmx_types.specs.Updates.{put, put_at}
use Rattle.bmx_msg.specs.declared.letters.Field.{Field}
use Rattle.bmx_msg.specs.declared.letters.Field.TheVariants as field
use Rattle.bmx_msg.specs.declared.letters.Msg.{Msg}
use Rattle.bmx_msg.specs.declared.letters.Msg.TheVariants.{ReadReq, WriteReq, ReadGrant, WriteGrant, Inval, InvAck}
use Rattle.bmx_msg.specs.Letters.{targets, given}
use Rattle.bmx_graph.proofs.States.{get_or-set_put}
use Rattle.bmx_owner.specs.declared.entering.Record.{Record}
use Rattle.bmx_owner.specs.Records as owner
use Rattle.bmx_owner.specs.Records.{find_record, sent_by, record_or_blank}
use Rattle.bmx_owner.proofs.Found.{find_record-given}
use Rattle.bmx_protocol.specs.declared.inputs.Sending.{Sending}
use Rattle.bmx_protocol.specs.Nodes.{NodeState}
use Rattle.bmx_protocol.specs.Changes.{Change, Gives, Issues, after_change, after_changes}
use Rattle.bmx_protocol.specs.Rules.{Draft, info_in}
use Rattle.bmx_protocol.specs.Steps.{numbered, sent_changes}
use Rattle.bmx_protocol.proofs.Changing.{after_append}
use Rattle.bmx_mail.specs.Mails.{MailState, issued_of, taken_of, with_mail, Tracks, AreOfBunches, TellsBunches, given_infos, with_names_given, next_letter}
use Rattle.bmx_mail.specs.Inside.Posts.{TellBunches, issued_after, Posts}

-- one count of a list changes
pub counted : (counts : List ℕ) (node count : ℕ) → node < length counts → slice_index (slice_set counts node count) ≡ put (slice_index counts) node count
counted counts node count there = fun_ext (λ m. get_or-set_put counts node count 0 m there)

-- ## one letter

-- the names that a message gives are those of what it tells
targets_told : (fields : List Field) → targets fields ≡ map (λ (i : Info). i.name) (filter_map info_in fields)
targets_told [] = refl
targets_told (field.Null ∷ fields) = targets_told fields
targets_told (field.Int n ∷ fields) = targets_told fields
targets_told (field.Ref info ∷ fields) = ap (λ l. info.name ∷ l) (targets_told fields)

pub names_given : (m : Msg) → given m ≡ map (λ (i : Info). i.name) (given_infos m)
names_given (ReadReq name asker) = refl
names_given (WriteReq name asker) = refl
names_given (ReadGrant info fields) = ap (λ l. info.name ∷ l) (targets_told fields)
names_given (WriteGrant info fields) = targets_told fields
names_given (Inval name) = refl
names_given (InvAck name) = refl

bunches_given : (s : NodeState) (m : Msg) → TellsBunches s m → AreOfBunches s (given_infos m)
bunches_given s (ReadReq name asker) h = tt
bunches_given s (WriteReq name asker) h = tt
bunches_given s (ReadGrant info fields) h = h
bunches_given s (WriteGrant info fields) h = h.1
bunches_given s (Inval name) h = tt
bunches_given s (InvAck name) h = tt

-- names are given one after another
module _ (s : NodeState) (issued taken : ℕ → ℕ) (to seq : ℕ) where
  at : List Record → NodeState
  at records = record s { entering = find_record records; issued = issued; taken = taken }

  changes_given : List Info → List Change
  changes_given given = map (λ name. Gives name to seq) (map (λ (i : Info). i.name) given)

  one_given : (records : List Record) (info : Info) → AreOfBunches s (info ∷ []) → after_change (at records) (Gives info.name to seq) ≡ at (owner.given records info.name info.bunch to seq)
  unfolding at
  one_given records info h =
      let entering : _ ≡ find_record (owner.given records info.name info.bunch to seq) =
      ap (λ b. put_at (find_record records) info.name to (Some (sent_by seq (record_or_blank records info.name b to)))) h.0
      ∙ sym (find_record-given records info.name info.bunch to seq) in
      ap (λ (e : ℕ → ℕ → _). record s { entering = e; issued = issued; taken = taken }) entering

  all_given : (given : List Info) (records : List Record) → AreOfBunches s given → after_changes (at records) (changes_given given) ≡ at (with_names_given records given to seq)
  unfolding changes_given
  all_given [] records h = refl
  all_given (info ∷ given) records h =
      ap (λ (t : NodeState). after_changes t (changes_given given)) (one_given records info (h.0, tt))
      ∙ all_given given (owner.given records info.name info.bunch to seq) h.1

-- a letter is recorded and counted
pub letter_tracked : (old new : MailState) (stamp to : ℕ) (msg : Msg) →
    new.records ≡ with_names_given old.records (given_infos msg) to (issued_of old to + 1) →
    issued_of new ≡ put (issued_of old) to (issued_of old to + 1) → new.taken ≡ old.taken →
    Tracks old new (sent_changes (next_letter old stamp to msg)) (λ s. TellsBunches s msg)
unfolding at changes_given
letter_tracked old new stamp to msg records issued taken s h =
    let seq : ℕ = issued_of old to + 1 in
    let names : List Change = map (λ name. Gives name to seq) (given msg) in
    let recorded : after_changes (with_mail s old) names ≡ record s { entering = find_record (with_names_given old.records (given_infos msg) to seq); issued = issued_of old; taken = taken_of old } =
    ap (λ l. after_changes (with_mail s old) (map (λ name. Gives name to seq) l)) (names_given msg)
    ∙ all_given s (issued_of old) (taken_of old) to seq (given_infos msg) old.records (bunches_given s msg h) in
    after_append (with_mail s old) names (Issues to ∷ [])
    ∙ ap (λ (t : NodeState). after_change t (Issues to)) recorded
    ∙ (λ j. record s { entering = find_record (sym records j); issued = sym issued j; taken = slice_index (sym taken j) })

-- so it is by a mail that was looked at, and of which the records and one count were written
pub posted : (view old : MailState) (records : List Record) (spare stamp to read written : ℕ) (msg : Msg) → view ≡ old → read ≡ to → written ≡ to →
    to < length view.issued → records ≡ with_names_given view.records (given_infos msg) to (issued_of view read + 1) →
    Tracks old (record { records = records; spare = spare; issued = slice_set view.issued written (issued_of view read + 1); taken = view.taken })
    (sent_changes (next_letter old stamp to msg)) (λ s. TellsBunches s msg)
posted view old records spare stamp to read written msg same here there few given =
    let new : MailState = record { records = records; spare = spare; issued = slice_set view.issued written (issued_of view read + 1); taken = view.taken } in
    let count : issued_of new ≡ put (issued_of view) to (issued_of view to + 1) =
    (λ j. slice_index (slice_set view.issued (there j) (issued_of view (here j) + 1))) ∙ counted view.issued to (issued_of view to + 1) few in
    subst (λ (m : MailState). Tracks m new (sent_changes (next_letter m stamp to msg)) (λ s. TellsBunches s msg)) same
    (letter_tracked view new stamp to msg (given ∙ ap (λ (n : ℕ). with_names_given view.records (given_infos msg) to (issued_of view n + 1)) here) count refl)

-- ## letters one after another

-- drafts that were numbered, and one more
numbered-more : (issued : ℕ → ℕ) (stamp : ℕ) (drafts : List Draft) (d : Draft) →
    numbered issued stamp (drafts ++ d ∷ [])
    ≡ numbered issued stamp drafts ++ record { to = d.to; letter = record { seq = issued_after issued drafts d.to + 1; stamp = stamp; msg = d.msg } } ∷ []
numbered-more issued stamp [] d = refl
numbered-more issued stamp (x ∷ drafts) d = ap (λ (l : List Sending). record { to = x.to; letter = record { seq = issued x.to + 1; stamp = stamp; msg = x.msg } } ∷ l) (numbered-more (put issued x.to (issued x.to + 1)) stamp drafts d)

issued_after-more : (issued : ℕ → ℕ) (drafts : List Draft) (d : Draft) →
    issued_after issued (drafts ++ d ∷ []) ≡ put (issued_after issued drafts) d.to (issued_after issued drafts d.to + 1)
issued_after-more issued [] d = refl
issued_after-more issued (x ∷ drafts) d = issued_after-more (put issued x.to (issued x.to + 1)) drafts d

tell-front : (s : NodeState) (drafts : List Draft) (d : Draft) → TellBunches s (drafts ++ d ∷ []) → TellBunches s drafts × TellsBunches s d.msg
tell-front s [] d h = (tt, h.0)
tell-front s (x ∷ drafts) d h = let rest = tell-front s drafts d h.1 in ((h.0, rest.0), rest.1)

append_nil : (xs : List Change) → xs ++ [] ≡ xs
append_nil [] = refl
append_nil (x ∷ xs) = ap (λ l. x ∷ l) (append_nil xs)

-- nothing is posted yet
pub posts-none : (m : MailState) (stamp : ℕ) → Posts m m stamp [] []
posts-none m stamp = record { letters_are = refl; issued = refl; change = λ s h. refl }

-- one draft more is posted
pub posts-more : (old now new : MailState) (stamp : ℕ) (drafts : List Draft) (letters : List Sending) (d : Draft) →
    Posts old now stamp drafts letters →
    issued_of new ≡ put (issued_of now) d.to (issued_of now d.to + 1) →
    Tracks now new (sent_changes (next_letter now stamp d.to d.msg)) (λ s. TellsBunches s d.msg) →
    Posts old new stamp (drafts ++ d ∷ []) (letters ++ next_letter now stamp d.to d.msg ∷ [])
posts-more old now new stamp drafts letters d before issued change =
    let l : Sending = next_letter now stamp d.to d.msg in
    record {
      letters_are =
          ap (λ (ls : List Sending). ls ++ l ∷ []) before.letters_are
          ∙ ap (λ (f : ℕ → ℕ). numbered (issued_of old) stamp drafts ++ record { to = d.to; letter = record { seq = f d.to + 1; stamp = stamp; msg = d.msg } } ∷ []) before.issued
          ∙ sym (numbered-more (issued_of old) stamp drafts d);
      issued =
          issued
          ∙ ap (λ (f : ℕ → ℕ). put f d.to (f d.to + 1)) before.issued
          ∙ sym (issued_after-more (issued_of old) drafts d);
      change = λ s h.
          let tell = tell-front s drafts d h in
          let both : flat_map sent_changes (letters ++ l ∷ []) ≡ flat_map sent_changes letters ++ sent_changes l =
          flat_map-append sent_changes letters (l ∷ []) ∙ ap (λ c. flat_map sent_changes letters ++ c) (append_nil (sent_changes l)) in
          ap (after_changes (with_mail s old)) both
          ∙ after_append (with_mail s old) (flat_map sent_changes letters) (sent_changes l)
          ∙ ap (λ (t : NodeState). after_changes t (sent_changes l)) (before.change s tell.0)
          ∙ change s tell.1;
    }
