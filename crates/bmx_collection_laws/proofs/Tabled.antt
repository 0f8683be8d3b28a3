-- No table that is taken in a legal history of a store is stray: each that was made is from a node of the store, of a small
-- stamp, and lists in order.
use Rattle.std.proofs.Common.{◌≡◌, ℕ, zero, suc, ◌+◌, ◌*◌, ◌^◌, ◌<◌, ◌≤◌, ◌==◌, ◌&&◌, ◌||◌, not, nat_lt, nat_le, arith, refl, sym, subst, ◌∙◌, Bool, true, false, cond, List, [], ◌∷◌, ◌++◌, map, filter, length, length-append, Contains, AllPairs, ⊎_elim}
use Rattle.std.specs.Prelude.{Option, Some, None, IfSome, count_by}
use Rattle.std.specs.List.{cons_option}
use Rattle.std.proofs.lemmas.Bool.Decides.{nat_tests}
use Rattle.std.proofs.lemmas.List.Sums.{sum_by-append}
use Rattle.std.proofs.lemmas.List.Elements.{Contains-append_cases}
use Rattle.std.proofs.lemmas.List.Kept.{AllPairs-from_increasing}
use Rattle.bmx_types.specs.Openings.{IsOpening}
use Rattle.bmx_types.specs.declared.commands.Refusal.TheVariants as refusal
use Rattle.bmx_types.specs.Updates.{put}
use Rattle.bmx_table.specs.declared.tables.Table.{Table}
use Rattle.bmx_owner.proofs.Parts.{AllPairs-tail}
use Rattle.bmx_inter.specs.declared.inter.Stub.{Stub}
use Rattle.bmx_inter.specs.Order.{is_ahead, IsInOrder}
use Rattle.bmx_inter.specs.Inter.{stub_pair}
use Rattle.bmx_inter.proofs.Found.{IsInOrder-filter}
use Rattle.bmx_protocol.specs.Nodes.{Setting, AreAll}
use Rattle.bmx_protocol.proofs.Basics.{eqb_of}
use Rattle.bmx_collection.specs.ToSpaces.{is_too_large}
use Rattle.bmx_collection.specs.Tables.{rises, is_stray_table, pairs_out_of, table_of}
use Rattle.bmx_collection.specs.Steps.{LinkedNode, first_linked, CollectorInput, Collect, Sweep, MakeTable, TakeTable, CollectorAnswer, Refused, Stray, CollectorTold, CollectorReaction, CollectorDone, unchanged, collector_rule, IsToList}
use Rattle.bmx_collection.specs.Histories.{Deed, Plain, Collector, LinkedEvent, table_made, tables_made, table_taken, IsTableOf, FitsDeed, FitsLinked, IsDeed, ReplaysLinked, IsLegalLinked}
use Rattle.bmx_collection.proofs.Listing.{nothing_in, one_of, append_nil}
use Rattle.bmx_collection.proofs.Replayed.{joined}
use Rattle.bmx_collection.proofs.Pairing.{tables_one_more}
use Rattle.bmx_collection.proofs.Views.{AreInOrder, AllInOrder, deed_ordered, order_either, first_ordered}
use Rattle.bmx_collection_laws.specs.Laws.{IsStrayTable, NoTableIsStray, NoTableStrays}

-- ## lists that rise

names_rise : (xs : List ℕ) → AllPairs (λ x y. x < y) xs → rises nat_lt xs ≡ true
names_rise [] h = refl
names_rise (x ∷ []) h = refl
names_rise (x ∷ y ∷ more) h =
    let less : x < y = h 0 1 x (omega arith) (omega arith) in
    let e : nat_lt x y ≡ true = grind (arith, nat_tests, less) in
    (λ i. e i && rises nat_lt (y ∷ more)) ∙ names_rise (y ∷ more) (AllPairs-tail (λ a b. a < b) x (y ∷ more) h)

pairs_rise : (xs : List Stub) → IsInOrder stub_pair xs → rises is_ahead (map stub_pair xs) ≡ true
pairs_rise [] h = refl
pairs_rise (x ∷ []) h = refl
pairs_rise (x ∷ y ∷ more) h =
    let e : is_ahead (stub_pair x) (stub_pair y) ≡ true = h 0 1 x (omega arith) (omega arith) in
    (λ i. e i && rises is_ahead (map stub_pair (y ∷ more)))
    ∙ pairs_rise (y ∷ more) (AllPairs-tail (λ a b. is_ahead (stub_pair a) (stub_pair b) ≡ true) x (y ∷ more) h)

-- ## a table

-- a table that no node of the store finds stray that it was made for
record IsGood (st : Setting) (t : Table) : Type 0 where
  maker : t.from < st.nodes
  stamp : t.stamp < 2 ^ 62
  names : rises nat_lt t.names ≡ true
  stubs : rises is_ahead t.stubs ≡ true
  intra : rises is_ahead t.intra ≡ true

good_fits : (st : Setting) (me : ℕ) (t : Table) → IsGood st t → t.to ≡ me → is_stray_table st me t ≡ false
good_fits st me t g here =
    let to : (t.to == me) ≡ true = eqb_of here in
    let from : nat_le st.nodes t.from ≡ false = (let real : t.from < st.nodes = g.maker in grind (arith, nat_tests, real)) in
    let stamp : nat_le (2 ^ 62) t.stamp ≡ false = (let small : t.stamp < 2 ^ 62 = g.stamp in grind (arith, nat_tests, small)) in
    λ i. not (to i) || from i || stamp i || not (g.names i) || not (g.stubs i) || not (g.intra i)

table_good : (st : Setting) (me stamp bunch to : ℕ) (n : LinkedNode) (children : List ℕ) → me < st.nodes → stamp < 2 ^ 62 → AllPairs (λ x y. x < y) children → AreInOrder n.links →
    IsGood st (table_of me n.state n.links stamp bunch to children)
table_good st me stamp bunch to n children real small rise order = record {
  maker = real;
  stamp = small;
  names = names_rise children rise;
  stubs = own (me == to);
  intra = refl;
}
  where
    own : (b : Bool) → rises is_ahead (cond b (pairs_out_of bunch n.links) []) ≡ true
    own true = pairs_rise (filter (λ s. s.bunch == bunch) n.links.stubs) (IsInOrder-filter stub_pair (λ s. s.bunch == bunch) n.links.stubs order.stubs)
    own false = refl

-- ## a step

module _ (st : Setting) (past : List LinkedEvent) (me stamp : ℕ) (n m : LinkedNode) (real : me < st.nodes) (small : stamp < 2 ^ 62) (order : AreInOrder n.links)
    (good : (t : Table) → Contains (tables_made past) t → IsGood st t) where
  abbrev MadeGood : CollectorReaction → Type 0
  MadeGood r = IfSome r.table (λ t. IsGood st t)

  abbrev Answered : CollectorAnswer → Type 0
  Answered a = a ≡ Stray → ⊥

  abbrev IsRight : CollectorReaction → Type 0
  IsRight r = MadeGood r × Answered r.answer

  either : (b : Bool) (r q : CollectorReaction) → IsRight r → IsRight q → IsRight (cond b r q)
  either true r q x y = x
  either false r q x y = y

  other : (b : Bool) (r q : CollectorReaction) → b ≡ false → IsRight q → IsRight (cond b r q)
  other true r q e x = absurd cc
  other false r q e x = x

  rule_right : (told : CollectorTold) (i : CollectorInput) (d : CollectorDone) → AreAll (IsToList n i) told.children → IfSome (table_taken (Collector i d)) (IsTableOf past me stamp) →
      IsRight (collector_rule st me n told stamp i)
  rule_right told (Collect bunch) d all fits =
      either (is_too_large st.limit n.state n.places told.owned) (unchanged n (Refused refusal.Full)) _ (tt, λ e. cc) (tt, λ e. cc)
  rule_right told Sweep d all fits = (tt, λ e. cc)
  rule_right told (MakeTable bunch to) d all fits = (table_good st me stamp bunch to n told.children real small (AllPairs-from_increasing told.children all.rising) order, λ e. cc)
  rule_right told (TakeTable t) d all fits =
      other (is_stray_table st me t) (unchanged n Stray) _ (good_fits st me t (good t fits.made) fits.here) (tt, λ e. cc)

  deed_right : (d : Deed) → FitsDeed st past me stamp d → IsDeed st me n stamp d m → IfSome (table_made d) (λ t. IsGood st t) × (IsStrayTable d → ⊥)
  deed_right (Plain i d) fits step = (tt, λ e. e)
  deed_right (Collector i d) fits step =
      subst (λ (x : CollectorDone). IfSome x.table (λ t. IsGood st t) × Answered x.answer) (sym step.outcome) (rule_right step.told i d step.is_told.children fits.table)

-- ## how many events there are

abbrev steps_of : ℕ → List LinkedEvent → ℕ
steps_of n past = count_by (λ f. f.node == n) past

steps_more : (n : ℕ) (past : List LinkedEvent) (e : LinkedEvent) → steps_of n (past ++ e ∷ []) ≡ steps_of n past + (0 + cond (e.node == n) 1 0)
steps_more n past e = sum_by-append (λ (f : LinkedEvent). cond (f.node == n) 1 0) past (e ∷ [])

-- the events of the first nodes
abbrev total : ℕ → List LinkedEvent → ℕ
total zero past = 0
total (suc k) past = total k past + steps_of k past

together : (n k : ℕ) → cond {A = ℕ} (nat_lt n (suc k)) 1 0 ≡ cond {A = ℕ} (nat_lt n k) 1 0 + cond {A = ℕ} (n == k) 1 0
together n k = grind (arith, nat_tests)

total_more : (k : ℕ) (past : List LinkedEvent) (e : LinkedEvent) → total k (past ++ e ∷ []) ≡ total k past + cond (nat_lt e.node k) 1 0
total_more zero past e = grind (arith, nat_tests)
total_more (suc k) past e = omega (arith, together e.node k, total_more k past e, steps_more k past e)

total_few : (k : ℕ) (past : List LinkedEvent) → ((n : ℕ) → steps_of n past ≤ 2 ^ 55) → total k past ≤ k * 2 ^ 55
total_few zero past few = omega arith
total_few (suc k) past few = omega (arith, total_few k past few, few k)

few_more : (n me a b : ℕ) → b ≡ a + (0 + cond (me == n) 1 0) → (me ≡ n → a + 1 < 2 ^ 55) → a ≤ 2 ^ 55 → b ≤ 2 ^ 55
few_more n me a b is few old = grind (arith, nat_tests)

none_yet : (k : ℕ) → 0 ≡ total k []
none_yet zero = refl
none_yet (suc k) = omega (arith, none_yet k)

-- ## along a history

record Right (st : Setting) (past : List LinkedEvent) (nodes : ℕ → LinkedNode) : Type 0 where
  order : AllInOrder nodes
  good : (t : Table) → Contains (tables_made past) t → IsGood st t
  none : NoTableIsStray past
  few : (n : ℕ) → steps_of n past ≤ 2 ^ 55
  all : length past ≡ total st.nodes past

first_right : (st : Setting) → Right st [] (first_linked st)
first_right st = record {
  order = first_ordered st;
  good = λ t c. absurd (nothing_in t c);
  none = λ e c. absurd (nothing_in e c);
  few = λ n. omega arith;
  all = none_yet st.nodes;
}

module _ (st : Setting) (opening : IsOpening st.nodes st.limit st.births) (past : List LinkedEvent) (nodes : ℕ → LinkedNode) (e : LinkedEvent) (after : LinkedNode)
    (fits : FitsLinked st past e) (step : IsDeed st e.node (nodes e.node) e.stamp e.deed after) (k : Right st past nodes) where
  small : e.stamp < 2 ^ 62
  small =
      let few : total st.nodes past ≤ st.nodes * 2 ^ 55 = total_few st.nodes past k.few in
      omega (arith, few, k.all, fits.early, opening.few_nodes)

  right : IfSome (table_made e.deed) (λ t. IsGood st t) × (IsStrayTable e.deed → ⊥)
  right = deed_right st past e.node e.stamp (nodes e.node) after fits.a_node small (k.order e.node) k.good e.deed fits.deed step

  made_good : (o : Option Table) → IfSome o (λ t. IsGood st t) → (t : Table) → Contains (cons_option o []) t → IsGood st t
  made_good None g t c = absurd (nothing_in t c)
  made_good (Some u) g t c = ⊎_elim (λ same. subst (IsGood st) same g) (λ none. absurd (nothing_in t none)) (one_of u t [] c)

  one_more : Right st (past ++ e ∷ []) (put nodes e.node after)
  one_more = record {
    order = λ j. order_either (e.node == j) after (nodes j) (deed_ordered st e.node e.stamp (nodes e.node) after e.deed step (k.order e.node)) (k.order j);
    good = λ t c. ⊎_elim (k.good t) (made_good (table_made e.deed) right.0 t)
        (Contains-append_cases (tables_made past) (cons_option (table_made e.deed) []) t (subst (λ (ts : List Table). Contains ts t) (tables_one_more past e) c));
    none = λ f c. ⊎_elim (k.none f)
        (λ last. ⊎_elim (λ same. subst (λ (g : LinkedEvent). IsStrayTable g.deed → ⊥) same right.1) (λ none. absurd (nothing_in f none)) (one_of e f [] last))
        (Contains-append_cases past (e ∷ []) f c);
    few = λ n. few_more n e.node (steps_of n past) (steps_of n (past ++ e ∷ [])) (steps_more n past e) (λ q. subst (λ (j : ℕ). steps_of j past + 1 < 2 ^ 55) q fits.few) (k.few n);
    all =
        (let below : nat_lt e.node st.nodes ≡ true = (let real : e.node < st.nodes = fits.a_node in grind (arith, nat_tests)) in
        let more : total st.nodes (past ++ e ∷ []) ≡ total st.nodes past + 1 = total_more st.nodes past e ∙ (λ i. total st.nodes past + cond {A = ℕ} (below i) 1 0) in
        omega (arith, more, k.all, length-append past (e ∷ [])));
  }

replay_right : (st : Setting) (history : List LinkedEvent) → IsOpening st.nodes st.limit st.births → IsLegalLinked st history → (past rest : List LinkedEvent) (nodes last : ℕ → LinkedNode) →
    past ++ rest ≡ history → Right st past nodes → ReplaysLinked st nodes rest last → NoTableIsStray history
replay_right st history opening legal past [] nodes last whole k r = subst NoTableIsStray (sym (append_nil past) ∙ whole) k.none
replay_right st history opening legal past (e ∷ rest) nodes last whole k r =
    replay_right st history opening legal (past ++ e ∷ []) rest (put nodes e.node r.0) last (joined past (e ∷ []) rest ∙ whole)
    (one_more st opening past nodes e r.0 (legal.fits past rest e whole) r.1 k) r.2

pub no_table_strays : NoTableStrays
no_table_strays st history nodes opening legal r = replay_right st history opening legal [] history (first_linked st) nodes refl (first_right st) r
