-- The laws of one object with tables, over legal histories with collectors.
use Rattle.std.proofs.Common.{◌≡◌, ℕ, arith, refl, ap, sym, subst, ◌∙◌, Bool, true, false, List, [], ◌∷◌, ◌++◌, map, Contains, ◌⊎◌, inl, inr}
use Rattle.std.specs.Prelude.{Option, Some, None, IsSome, is_some}
use Rattle.std.proofs.lemmas.List.{map-append}
use Rattle.bmx_types.specs.declared.numbers.Mode.{Mode}
use Rattle.bmx_table.specs.declared.tables.Table.{Table}
use Rattle.bmx_msg.specs.declared.letters.Letter.{Letter}
use Rattle.bmx_msg.specs.Letters.{given}
use Rattle.bmx_owner.specs.declared.entering.Record.{Record}
use Rattle.bmx_owner.specs.Records.{is_listed}
use Rattle.bmx_clean.specs.Cleaning.{ends_record}
use Rattle.bmx_token_model.specs.Machine.{Message, IsUnneededRecord, gives, brings}
use Rattle.bmx_token_model.proofs.Requests.{IsRequested, IsCalm, requested_run}
use Rattle.bmx_token_model.proofs.Cleaning.{cleaned_unneeded}
use Rattle.bmx_protocol.specs.declared.events.Event.{Event}
use Rattle.bmx_protocol.specs.Nodes.{Setting, share_of}
use Rattle.bmx_protocol.specs.Steps.{Node}
use Rattle.bmx_protocol.specs.Worlds.{World, world_of, IsHandedOver}
use Rattle.bmx_collection.specs.Steps.{unlinked}
use Rattle.bmx_collection.specs.Histories.{plain_events, tables_made}
use Rattle.bmx_collection.specs.Worlds.{IsRecordNeeded, ByItsParent, ByALetter}
use Rattle.bmx_collection.proofs.Listing.{clash, behind, first_of, one_of}
use Rattle.bmx_collection.proofs.Rising.{listed}
use Rattle.bmx_collection.proofs.Pairing.{scions_are_safe}
use Rattle.bmx_store_laws.specs.Inside.Seen.{seen, seen_known, seen_record, seen_note, tells_of, seen_message, first_world}
use Rattle.bmx_store_laws.proofs.Sends.{notes_give}
use Rattle.bmx_store_laws.proofs.Openings.{is_first}
use Rattle.bmx_store_laws.proofs.Owners.{is_hand, counted, HandsAmong, among}
use Rattle.bmx_collection_laws.specs.Laws.{ReadyIsAlwaysWanted, RecordsAreSafe, TablesDoNoHarm}
use Rattle.bmx_collection_laws.proofs.Came.{view, tabled, HasRun, Kept, Nowhere, Somewhere}
use Rattle.bmx_collection_laws.proofs.Collecting.{Ends, ends_so, viewed}
use Rattle.bmx_collection_laws.proofs.Always.{came_always, each_name_always}

-- ## tokens

pub ready_is_wanted : ReadyIsAlwaysWanted
ready_is_wanted st history nodes opening legal r n name k knows ready = by k.part.want refl
  where
    requested : IsRequested (seen name (world_of (λ k. unlinked (nodes k)) (plain_events history)))
    requested = each_name_always IsRequested requested_run st history nodes opening legal r name

    calm : k.part.want ≡ None → k.part.ready ≡ false
    calm = subst IsCalm (ap seen_known knows) (requested.nodes n).calm

    by : (w : Option Mode) → k.part.want ≡ w → IsSome k.part.want
    by (Some m) is = ap (λ (o : Option Mode). is_some o) is
    by None is = absurd (clash k.part.ready ready (calm is))

-- ## letters, seen and back

-- a letter that is seen is one in flight
seen_letter : (x : ℕ) (letters : List Letter) (before : List Message) (l : Message) (after : List Message) → map (seen_message x) letters ≡ before ++ l ∷ after →
    (k : Letter) × Contains letters k × (seen_message x k ≡ l)
seen_letter x [] [] l after e = cc
seen_letter x [] (b ∷ before) l after e = cc
seen_letter x (k ∷ letters) [] l after e = (k, first_of k letters, cc)
seen_letter x (k ∷ letters) (b ∷ before) l after e =
    let rest : map (seen_message x) letters ≡ before ++ l ∷ after = cc in
    let it : (j : Letter) × Contains letters j × (seen_message x j ≡ l) = seen_letter x letters before l after rest in
    (it.0, behind k it.0 letters it.1, it.2)

cut_at : {A : Type 0} (xs : List A) (x : A) → Contains xs x → (before : List A) × (after : List A) × (xs ≡ before ++ x ∷ after)
cut_at [] x c = absurd (omega (arith, c.1))
cut_at (y ∷ xs) x c = by (one_of y x xs c) (cut_at xs x)
  where
    by : (y ≡ x) ⊎ Contains xs x → (Contains xs x → (before : List _) × (after : List _) × (xs ≡ before ++ x ∷ after)) → (before : List _) × (after : List _) × (y ∷ xs ≡ before ++ x ∷ after)
    by (inl same) rest = ([], xs, ap (λ z. z ∷ xs) same)
    by (inr later) rest = (let it : (before : List _) × (after : List _) × (xs ≡ before ++ x ∷ after) = rest later in (y ∷ it.0, it.1, ap (λ l. y ∷ l) it.2))

-- a letter that brings ownership hands it over
hands_over : (w : World) (x from to : ℕ) (before : List Message) (l : Message) (after : List Message) → (seen x w).channel from to ≡ before ++ l ∷ after → brings l ≡ true → IsHandedOver w x from to
hands_over w x from to before l after at brings_it =
    let k : (k : Letter) × Contains (w.channel from to) k × (seen_message x k ≡ l) = seen_letter x (w.channel from to) before l after at in
    let h : HandsAmong x (w.channel from to) = among x (w.channel from to) (counted x (w.channel from to) k.0 k.1 (sym (is_hand x k.0) ∙ ap brings k.2 ∙ brings_it)) in
    record { letter = h.letter; info = h.info; fields = h.fields; moves = record { there = h.there; grants = h.grants; named = h.named } }

-- ## records

module _ (st : Setting) (x b : ℕ) (past : List Event) (nodes : ℕ → Node) (made : List Table) (has : HasRun st b x past nodes made) (t : Table) (r : Record) (there : Contains made t)
    (at : (nodes t.to).state.entering x t.from ≡ Some r) (e : Ends ((nodes t.to).state.taken t.from) t r) (of : t.bunch ≡ b) where
  abbrev w : World
  w = world_of nodes past

  unneeded : IsUnneededRecord (seen x w) t.to t.from
  unneeded = cleaned_unneeded (seen x (first_world st)) (tabled b x past nodes made) (is_first st x) has.run t.to t.from (record {
    table = view x t;
    numbers = record { sent = r.sent; got = r.got };
    made = viewed b x t.from t.to made t there refl refl of;
    unlisted = ap (is_listed t.names) (sym ((has.says.nodes_say t.to).records t.from r at).of_name) ∙ e.unlisted;
    has = ap seen_record at;
    taken = e.in_time;
    sent = e.sent;
    got = e.got;
  })

  not_needed : IsRecordNeeded w t.to t.from x → ⊥
  not_needed (ByItsParent k parent not_handed) =
      let it : (l : Message) × (before : List Message) × (after : List Message) × ((seen x w).channel t.from t.to ≡ before ++ l ∷ after) × (brings l ≡ true) =
      unneeded.no_child (share_of k) (ap seen_known parent.known) parent.asks in
      not_handed (hands_over w x t.from t.to it.1 it.0 it.2 it.3 it.4)
  not_needed (ByALetter l in_flight gives_it) =
      let c : (before : List Letter) × (after : List Letter) × (w.channel t.to t.from ≡ before ++ l ∷ after) = cut_at (w.channel t.to t.from) l in_flight in
      let none : gives (seen_note x l.msg) (tells_of x l.msg) ≡ false =
      unneeded.no_gift (seen_message x l) (map (seen_message x) c.0) (map (seen_message x) c.1) (ap (map (seen_message x)) c.2 ∙ map-append (seen_message x) c.0 (l ∷ c.1)) in
      clash (gives (seen_note x l.msg) (tells_of x l.msg)) (notes_give x l.msg ∙ listed (given l.msg) x gives_it) none

pub records_are_safe : RecordsAreSafe
records_are_safe st history nodes opening legal r t there x q at needed = by (ends_record ((nodes t.to).state.taken t.from) t q) refl
  where
    by_kept : Ends ((nodes t.to).state.taken t.from) t q → Kept st x (plain_events history) (λ k. unlinked (nodes k)) (tables_made history) → ⊥
    by_kept e (Nowhere nowhere all) =
        not_needed st x t.bunch (plain_events history) (λ k. unlinked (nodes k)) (tables_made history) (all t.bunch) t q there at e refl needed
    by_kept e (Somewhere c b has) =
        not_needed st x b (plain_events history) (λ k. unlinked (nodes k)) (tables_made history) has t q there at e (sym e.bunch ∙ ((has.says.nodes_say t.to).records t.from q at).of_bunch) needed

    by : (a : Bool) → ends_record ((nodes t.to).state.taken t.from) t q ≡ a → a ≡ false
    by false is = refl
    by true is = absurd (by_kept (ends_so ((nodes t.to).state.taken t.from) t q is) (came_always st history nodes opening legal r x).kept)

pub tables_do_no_harm : TablesDoNoHarm
tables_do_no_harm st history nodes opening legal r = (records_are_safe st history nodes opening legal r, scions_are_safe st history nodes legal r)
