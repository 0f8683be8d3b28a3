-- What has come about after every legal history of a store, seen for one name.
use Rattle.std.proofs.Common.{◌≡◌, ℕ, ◌+◌, ◌^◌, ◌<◌, ◌≤◌, ◌==◌, arith, refl, ap, sym, subst, ◌∙◌, Bool, true, false, cond, List, [], ◌∷◌, ◌++◌, length, inl, inr}
use Rattle.std.specs.Prelude.{Option, Some, None, count_by}
use Rattle.std.specs.List.{cons_option}
use Rattle.std.proofs.lemmas.List.{append-nil}
use Rattle.std.proofs.lemmas.List.Elements.{filter_map-append}
use Rattle.bmx_types.specs.Openings.{IsOpening}
use Rattle.bmx_types.specs.Updates.{put}
use Rattle.bmx_types.specs.declared.openings.Birth.{Birth}
use Rattle.bmx_table.specs.declared.tables.Table.{Table}
use Rattle.bmx_owner.specs.declared.entering.Record.{Record}
use Rattle.bmx_owner.specs.Records.{blank}
use Rattle.bmx_token_model.specs.Machine.{Object, Numbers, Run, IsNowhere, IsFirst, Absent, Born, IsUntouched}
use Rattle.bmx_token_model.specs.Tables.{Stays}
use Rattle.bmx_token_model.proofs.Cleaning.{table_run}
use Rattle.std.specs.Option.{option_map, option_map_or}
use Rattle.std.specs.Prelude.{◌&&◌, nat_lt}
use Rattle.bmx_protocol.specs.declared.events.Event.{Event}
use Rattle.bmx_protocol.specs.Nodes.{Setting, Known, is_anchor, birth_of, owned_birth, heard_birth}
use Rattle.bmx_protocol.specs.Steps.{Node, first_node}
use Rattle.bmx_protocol.specs.Worlds.{world_of}
use Rattle.bmx_protocol.proofs.Basics.{some_same, none_some}
use Rattle.bmx_collection.specs.Steps.{LinkedNode, unlinked, first_linked, CollectorInput, Collect, Sweep, MakeTable, TakeTable, CollectorDone}
use Rattle.bmx_collection.specs.Histories.{Deed, Plain, Collector, LinkedEvent, plain_event, plain_events, tables_made, FitsCollector, FitsLinked, IsDeed, ReplaysLinked, IsLegalLinked}
use Rattle.bmx_collection.proofs.Listing.{append_nil}
use Rattle.bmx_collection.proofs.Replayed.{joined}
use Rattle.bmx_collection.proofs.Pairing.{AllSafe, tables_one_more, event_safe, first_safe}
use Rattle.bmx_collection.proofs.Standing.{IsWhole, AllWhole, first_whole, event_whole}
use Rattle.bmx_store_laws.specs.Inside.Seen.{seen, seen_known, seen_record, first_world}
use Rattle.bmx_store_laws.proofs.Openings.{IsNamed, is_first, named_first, channels_first}
use Rattle.bmx_collection_laws.proofs.Bunches.{IsRecordOf, SaysBunch}
use Rattle.bmx_collection_laws.proofs.Came.{HasRun, Kept, Nowhere, Somewhere, Came, some_run, IsSure}
use Rattle.bmx_collection_laws.proofs.Plainly.{came_plainly}
use Rattle.bmx_collection_laws.proofs.Collecting.{IsForIt, came_by_collector}

abbrev pub CameLinked : Setting → ℕ → List LinkedEvent → (ℕ → LinkedNode) → Type 0
CameLinked st x past nodes = Came st x (plain_events past) (λ k. unlinked (nodes k)) (tables_made past)

-- ## as a store opens

module _ (st : Setting) (x : ℕ) where
  abbrev born_of : ℕ
  born_of = option_map_or (λ (b : Birth). b.bunch) (birth_of st x) 0

  first_says : (n : ℕ) → SaysBunch born_of x (first_node st n).state
  first_says n = record {
    entries = λ k e. entry (n == 0) (nat_lt n st.nodes && is_anchor st x) (birth_of st x) k e;
    records = λ m r e. entered m (n == 0) (nat_lt 0 m) (nat_lt m st.nodes) (is_anchor st x) (birth_of st x) r e;
  }
    where
      entry : (t a : Bool) (o : Option Birth) (k : Known) → cond t (option_map owned_birth o) (cond a (option_map heard_birth o) None) ≡ Some k →
          k.bunch ≡ option_map_or (λ (b : Birth). b.bunch) o 0
      entry true a (Some b) k e = ap (λ (j : Known). j.bunch) (some_same (sym e))
      entry true a None k e = none_some e
      entry false true (Some b) k e = ap (λ (j : Known). j.bunch) (some_same (sym e))
      entry false true None k e = none_some e
      entry false false o k e = none_some e

      entered : (m : ℕ) (t u v a : Bool) (o : Option Birth) (r : Record) → cond (t && u && v && a) (option_map (λ (b : Birth). blank x b.bunch m) o) None ≡ Some r →
          IsRecordOf (option_map_or (λ (b : Birth). b.bunch) o 0) x m r
      entered m true true true true (Some b) r e = subst (IsRecordOf b.bunch x m) (some_same e) (record { of_bunch = refl; of_name = refl; of_node = refl })
      entered m true true true true None r e = none_some e
      entered m true true true false o r e = none_some e
      entered m true true false a o r e = none_some e
      entered m true false v a o r e = none_some e
      entered m false u v a o r e = none_some e

  -- what is nowhere at first may come to be of any bunch
  nowhere_says : (b n : ℕ) → IsNowhere (seen x (first_world st)) → SaysBunch b x (first_node st n).state
  nowhere_says b n nowhere = record {
    entries = λ k e. none_some (sym (nowhere.unknown n) ∙ ap seen_known e);
    records = λ m r e. no_record m (is_first st x) (record { sent = r.sent; got = r.got }) (ap seen_record e);
  }
    where
      untouched : IsFirst (seen x (first_world st)) → IsUntouched (seen x (first_world st))
      untouched (Absent u none) = u
      untouched (Born u born) = u

      no_record : {A : Type 0} (m : ℕ) → IsFirst (seen x (first_world st)) → (q : Numbers) → (seen x (first_world st)).entering n m ≡ Some q → A
      no_record m first q e = none_some (sym (nowhere.unknown m) ∙ ((untouched first).records n m q e).heard)

  first_came : IsOpening st.nodes st.limit st.births → CameLinked st x [] (first_linked st)
  first_came opening = record { channels = channels_first st; kept = by (named_first st opening x) }
    where
      by : IsNamed st x (first_node st) [] → Kept st x [] (first_node st) []
      by (inl counted) = Somewhere counted born_of (record { says = record { nodes_say = first_says; letters_say = λ n m. tt }; run = Stays })
      by (inr nowhere) = Nowhere nowhere (λ b. record { says = record { nodes_say = λ n. nowhere_says b n nowhere; letters_say = λ n m. tt }; run = Stays })

-- ## one more event

plain_nodes : (nodes : ℕ → LinkedNode) (me : ℕ) (n : LinkedNode) → (λ k. unlinked (put nodes me n k)) ≡ put (λ k. unlinked (nodes k)) me (unlinked n)
plain_nodes nodes me n i k = by (me == k) i
  where
    by : (t : Bool) → unlinked (cond t n (nodes k)) ≡ cond t (unlinked n) (unlinked (nodes k))
    by true = refl
    by false = refl

came_at : (st : Setting) (x : ℕ) (past more : List Event) (nodes others : ℕ → Node) (made given : List Table) → past ≡ more → nodes ≡ others → made ≡ given →
    Came st x past nodes made → Came st x more others given
came_at st x past more nodes others made given p q r came =
    subst (λ (l : List Event). Came st x l others given) p (subst (λ (f : ℕ → Node). Came st x past f given) q (subst (λ (ts : List Table). Came st x past nodes ts) r came))

-- a node refers to what it knows, and may count one name more
sure_of : (st : Setting) (past : List LinkedEvent) (nodes : ℕ → LinkedNode) (me : ℕ) → IsOpening st.nodes st.limit st.births → me < st.nodes →
    count_by (λ (f : LinkedEvent). f.node == me) past + 1 < 2 ^ 55 → AllWhole st nodes past → IsSure (nodes me).state
sure_of st past nodes me opening real few all =
    let w : IsWhole st me (count_by (λ (f : LinkedEvent). f.node == me) past) (nodes me) = all me real in
    let births : length st.births ≤ 320000 = opening.born.few in
    let made : (nodes me).state.made ≤ length st.births + (nodes me).state.clock = w.few in
    let clock : (nodes me).state.clock ≡ count_by (λ (f : LinkedEvent). f.node == me) past = w.clock in
    record { targets = w.stand.targets; few = omega (arith, births, made, clock, few) }

for_it : (st : Setting) (past : List LinkedEvent) (me stamp : ℕ) (i : CollectorInput) (d : CollectorDone) → FitsCollector st past me stamp (Collector i d) i → IsForIt (tables_made past) me i
for_it st past me stamp (Collect bunch) d fits = tt
for_it st past me stamp Sweep d fits = tt
for_it st past me stamp (MakeTable bunch to) d fits = tt
for_it st past me stamp (TakeTable t) d fits = (fits.table.made, fits.table.here)

deed_came : (st : Setting) (x : ℕ) (past : List LinkedEvent) (nodes : ℕ → LinkedNode) (me stamp : ℕ) (n : LinkedNode) (d : Deed) → IsOpening st.nodes st.limit st.births →
    FitsLinked st past (record { node = me; stamp = stamp; deed = d }) → IsDeed st me (nodes me) stamp d n → AllWhole st nodes past → CameLinked st x past nodes →
    CameLinked st x (past ++ record { node = me; stamp = stamp; deed = d } ∷ []) (put nodes me n)
deed_came st x past nodes me stamp n (Plain i d) opening fits step all came =
    let e : LinkedEvent = record { node = me; stamp = stamp; deed = Plain i d } in
    let f : Event = record { node = me; stamp = stamp; input = i; done = d } in
    came_at st x (plain_events past ++ f ∷ []) (plain_events (past ++ e ∷ [])) (put (λ k. unlinked (nodes k)) me (unlinked n)) (λ k. unlinked (put nodes me n k)) (tables_made past) (tables_made (past ++ e ∷ []))
    (sym (filter_map-append plain_event past (e ∷ []))) (sym (plain_nodes nodes me n)) (sym (append-nil (tables_made past)) ∙ sym (tables_one_more past e))
    (came_plainly st x (plain_events past) (λ k. unlinked (nodes k)) (tables_made past) f (unlinked n) came step.step fits.a_node fits.deed.next
    (sure_of st past nodes me opening fits.a_node fits.few all))
deed_came st x past nodes me stamp n (Collector i d) opening fits step all came =
    let e : LinkedEvent = record { node = me; stamp = stamp; deed = Collector i d } in
    came_at st x (plain_events past) (plain_events (past ++ e ∷ [])) (put (λ k. unlinked (nodes k)) me (unlinked n)) (λ k. unlinked (put nodes me n k)) (tables_made past ++ cons_option d.table []) (tables_made (past ++ e ∷ []))
    (sym (append-nil (plain_events past)) ∙ sym (filter_map-append plain_event past (e ∷ []))) (sym (plain_nodes nodes me n)) (sym (tables_one_more past e))
    (came_by_collector st x me stamp (plain_events past) nodes (tables_made past) i d n step (for_it st past me stamp i d fits.deed) came)

-- ## histories

all_came : (st : Setting) (x : ℕ) (history : List LinkedEvent) → IsOpening st.nodes st.limit st.births → IsLegalLinked st history → (past rest : List LinkedEvent) (nodes last : ℕ → LinkedNode) →
    past ++ rest ≡ history → AllSafe nodes (tables_made past) → AllWhole st nodes past → CameLinked st x past nodes → ReplaysLinked st nodes rest last → CameLinked st x history last
all_came st x history opening legal past [] nodes last whole safe all came r =
    subst (λ (h : List LinkedEvent). CameLinked st x h last) (sym (append_nil past) ∙ whole) (subst (CameLinked st x past) r came)
all_came st x history opening legal past (e ∷ rest) nodes last whole safe all came r =
    all_came st x history opening legal (past ++ e ∷ []) rest (put nodes e.node r.0) last (joined past (e ∷ []) rest ∙ whole)
    (event_safe st nodes past e r.0 (legal.fits past rest e whole).deed r.1 safe)
    (event_whole st nodes past e r.0 opening (legal.fits past rest e whole) r.1 safe all)
    (deed_came st x past nodes e.node e.stamp r.0 e.deed opening (legal.fits past rest e whole) r.1 all came) r.2

pub came_always : (st : Setting) (history : List LinkedEvent) (nodes : ℕ → LinkedNode) → IsOpening st.nodes st.limit st.births → IsLegalLinked st history →
    ReplaysLinked st (first_linked st) history nodes → (x : ℕ) → CameLinked st x history nodes
came_always st history nodes opening legal r x =
    all_came st x history opening legal [] history (first_linked st) nodes refl (first_safe st) (λ k less. first_whole st opening k less) (first_came st x opening) r

-- what holds of the model's object after each run from a first one holds of each name after a legal history
pub each_name_always : (Holds : Object → Type 0) → ((o p : Object) → IsFirst o → Run o p → Holds p) →
    (st : Setting) (history : List LinkedEvent) (nodes : ℕ → LinkedNode) → IsOpening st.nodes st.limit st.births → IsLegalLinked st history →
    ReplaysLinked st (first_linked st) history nodes → (x : ℕ) → Holds (seen x (world_of (λ k. unlinked (nodes k)) (plain_events history)))
each_name_always Holds law st history nodes opening legal r x =
    let came : CameLinked st x history nodes = came_always st history nodes opening legal r x in
    let has : (b : ℕ) × HasRun st b x (plain_events history) (λ k. unlinked (nodes k)) (tables_made history) =
    some_run st x (plain_events history) (λ k. unlinked (nodes k)) (tables_made history) came.kept in
    law (seen x (first_world st)) (seen x (world_of (λ k. unlinked (nodes k)) (plain_events history))) (is_first st x) (table_run (seen x (first_world st)) _ (is_first st x) (has.1).run).0
