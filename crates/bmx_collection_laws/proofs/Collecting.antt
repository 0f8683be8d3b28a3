-- One more event of a collector: what has come about stays so. A collection forgets what the model may forget, and a
-- table clears what it may clear.
use Rattle.std.proofs.Common.{◌≡◌, ◌≢◌, ℕ, ◌<◌, ◌≤◌, ◌==◌, ◌&&◌, ◌||◌, ◌⊎◌, inl, inr, not, nat_lt, nat_le, arith, refl, ap, sym, subst, ◌∙◌, Bool, true, false, cond, List, [], ◌∷◌, ◌++◌, length, Contains}
use Rattle.std.specs.Prelude.{Option, Some, None, is_some}
use Rattle.std.specs.Option.{option_map_or}
use Rattle.std.specs.List.{cons_option}
use Rattle.std.proofs.lemmas.Bool.Decides.{nat_tests}
use Rattle.std.proofs.lemmas.List.{append-nil}
use Rattle.std.proofs.lemmas.List.Elements.{filter_map-append}
use Rattle.bmx_types.specs.declared.commands.Refusal.TheVariants as refusal
use Rattle.bmx_types.specs.Words.{maker, count_of}
use Rattle.bmx_types.specs.Updates.{put, put_at}
use Rattle.bmx_table.specs.declared.tables.Table.{Table}
use Rattle.bmx_owner.specs.declared.entering.Record.{Record}
use Rattle.bmx_owner.specs.Records.{is_listed, is_under, is_settled}
use Rattle.bmx_clean.specs.Cleaning.{is_early, ends_record, record_left}
use Rattle.bmx_token.specs.declared.parts.Part.{Part}
use Rattle.bmx_token.specs.declared.parts.Role.{Role}
use Rattle.bmx_token.specs.declared.parts.Role.TheVariants as role
use Rattle.bmx_token.specs.Tokens.{parent_of}
use Rattle.bmx_token.specs.Transitions.{Share}
use Rattle.bmx_token_model.specs.Machine.{Numbers, Object, IsNowhere, IsIdle, with_holding}
use Rattle.bmx_token_model.specs.Tables as model
use Rattle.bmx_token_model.specs.Tables.{Tabled, TableRun, Goes, Forgets, Tabulates, Clears, MayForget, MayClear, looks_as, looks_to, untabled}
use Rattle.bmx_protocol.specs.declared.events.Event.{Event}
use Rattle.bmx_protocol.specs.Nodes.{Setting, NodeState, Known, share_of}
use Rattle.bmx_protocol.specs.Changes.{with_step}
use Rattle.bmx_protocol.specs.Steps.{Node}
use Rattle.bmx_protocol.specs.Worlds.{world_of}
use Rattle.bmx_protocol.proofs.Basics.{eqb_is, eqb_of, eqb_same, Two, Same, Apart, two, at_each, none_some}
use Rattle.bmx_collection.specs.Reach.{is_child, is_busy}
use Rattle.bmx_collection.specs.ToSpaces.{is_too_large}
use Rattle.bmx_collection.specs.Tables.{table_of, is_stray_table}
use Rattle.bmx_collection.specs.Steps.{LinkedNode, unlinked, CollectorInput, Collect, Sweep, MakeTable, TakeTable, CollectorTold, CollectorReaction, CollectorDone, Refused, Stray, unchanged, collector_rule, IsCollectorTold, IsCollectorStep}
use Rattle.bmx_collection.specs.Laws.{IsSilent, LeavesTokens}
use Rattle.bmx_collection.proofs.Listing.{both, clash, behind, first_of, one_of}
use Rattle.bmx_collection.proofs.Rising.{listed, listed_there}
use Rattle.bmx_collection.proofs.Tokens.{collector_touches_no_token}
use Rattle.bmx_store_laws.specs.Laws.{IsCounted}
use Rattle.bmx_store_laws.specs.Inside.Seen.{seen, seen_known, seen_record, first_world}
use Rattle.bmx_collection_laws.proofs.Moves.{Leads, beside}
use Rattle.bmx_collection_laws.proofs.Bunches.{IsRecordOf, SaysBunch}
use Rattle.bmx_collection_laws.proofs.Came.{view, view_from, views, SaysAll, HasRun, Kept, Nowhere, Somewhere, Came}

-- ## tests

less_is : (a c : ℕ) → a < c → nat_lt a c ≡ true
less_is a c less = grind (arith, nat_tests, less)

not_less : (a c : ℕ) → nat_lt a c ≡ false → c ≤ a
not_less a c e = grind (arith, nat_tests, e)

at_most_is : (a c : ℕ) → nat_le a c ≡ true → a ≤ c
at_most_is a c e = grind (arith, nat_tests, e)

none_of : {A : Type 0} (o : Option A) → is_some o ≡ false → o ≡ None
none_of None e = refl
none_of (Some x) e = cc

nil_of : {A : Type 0} (xs : List A) → nat_lt 0 (length xs) ≡ false → xs ≡ []
nil_of [] e = refl
nil_of (x ∷ xs) e = absurd (clash (nat_lt 0 (length (x ∷ xs))) (less_is 0 (length (x ∷ xs)) (omega arith)) e)

five : (a b c d f : Bool) → (a || b || c || d || f) ≡ false → (a ≡ false) × (b ≡ false) × (c ≡ false) × (d ≡ false) × (f ≡ false)
five false false false false false e = (refl, refl, refl, refl, refl)
five true b c d f e = absurd cc
five false true c d f e = absurd cc
five false false true d f e = absurd cc
five false false false true f e = absurd cc
five false false false false true e = absurd cc

-- what isn't busy is idle
idle_of : (p : Part) → is_busy p ≡ false → IsIdle p
idle_of p e =
    let all : (is_some p.held ≡ false) × (is_some p.want ≡ false) × (is_some p.due ≡ false) × (nat_lt 0 (length p.queue) ≡ false) × (nat_lt 0 (length p.waiting) ≡ false) =
    five (is_some p.held) (is_some p.want) (is_some p.due) (nat_lt 0 (length p.queue)) (nat_lt 0 (length p.waiting)) e in
    record {
      held = none_of p.held all.0;
      want = none_of p.want all.1;
      due = none_of p.due all.2;
      queue = nil_of p.queue all.3;
      waiting = nil_of p.waiting all.4;
    }

-- what a record's end says
pub record Ends (taken : ℕ) (t : Table) (r : Record) : Type 0 where
  pub in_time : t.sent ≤ taken
  pub bunch : r.bunch ≡ t.bunch
  pub from : r.from ≡ t.from
  pub sent : r.sent ≤ t.got
  pub got : r.got ≤ t.sent
  pub unlisted : is_listed t.names r.name ≡ false

pub ends_so : (taken : ℕ) (t : Table) (r : Record) → ends_record taken t r ≡ true → Ends taken t r
ends_so taken t r e =
    let all : (not (is_early taken t) ≡ true) × (((is_under t.bunch t.from r && is_settled t.sent t.got r) && not (is_listed t.names r.name)) ≡ true) =
    both (not (is_early taken t)) ((is_under t.bunch t.from r && is_settled t.sent t.got r) && not (is_listed t.names r.name)) e in
    let rest : ((is_under t.bunch t.from r && is_settled t.sent t.got r) ≡ true) × (not (is_listed t.names r.name) ≡ true) =
    both (is_under t.bunch t.from r && is_settled t.sent t.got r) (not (is_listed t.names r.name)) all.1 in
    let two_tests : (is_under t.bunch t.from r ≡ true) × (is_settled t.sent t.got r ≡ true) = both (is_under t.bunch t.from r) (is_settled t.sent t.got r) rest.0 in
    let under : ((r.bunch == t.bunch) ≡ true) × ((r.from == t.from) ≡ true) = both (r.bunch == t.bunch) (r.from == t.from) two_tests.0 in
    let settled : (nat_le r.sent t.got ≡ true) × (nat_le r.got t.sent ≡ true) = both (nat_le r.sent t.got) (nat_le r.got t.sent) two_tests.1 in
    record {
      in_time = not_less taken t.sent (no (is_early taken t) all.0);
      bunch = eqb_is r.bunch t.bunch under.0;
      from = eqb_is r.from t.from under.1;
      sent = at_most_is r.sent t.got settled.0;
      got = at_most_is r.got t.sent settled.1;
      unlisted = no (is_listed t.names r.name) rest.1;
    }
  where
    no : (b : Bool) → not b ≡ true → b ≡ false
    no false e = refl
    no true e = cc

-- what is left of a record was it
left_record : (taken : ℕ) (t : Table) (o : Option Record) (r : Record) → record_left taken t o ≡ Some r → o ≡ Some r
left_record taken t None r e = e
left_record taken t (Some q) r e = by (ends_record taken t q) e
  where
    by : (b : Bool) → cond b None (Some q) ≡ Some r → Some q ≡ Some r
    by true e = none_some e
    by false e = e

-- a record of another node than the table's maker stays
other_left : (taken : ℕ) (t : Table) (o : Option Record) → ((r : Record) → o ≡ Some r → r.from ≢ t.from) → record_left taken t o ≡ o
other_left taken t None other = refl
other_left taken t (Some r) other = by (ends_record taken t r) refl
  where
    by : (b : Bool) → ends_record taken t r ≡ b → cond b None (Some r) ≡ Some r
    by true e = absurd (other r refl (ends_so taken t r e).from)
    by false e = refl

-- a table that a node made is among its views
pub viewed : (b x m n : ℕ) (made : List Table) (t : Table) → Contains made t → t.from ≡ m → t.to ≡ n → t.bunch ≡ b → Contains (views b x made m n) (view x t)
viewed b x m n [] t c from to of = absurd (omega (arith, c.1))
viewed b x m n (u ∷ made) t c from to of = by (one_of u t made c) (λ later. viewed b x m n made t later from to of)
  where
    shown : u ≡ t → view_from b x m n u ≡ Some (view x t)
    shown same = ap (view_from b x m n) same ∙ (λ i. cond ((eqb_of from i && eqb_of to i) && eqb_of of i) (Some (view x t)) None)

    more : (o : Option model.Table) → Contains (views b x made m n) (view x t) → Contains (cons_option o (views b x made m n)) (view x t)
    more None later = later
    more (Some v) later = behind v (view x t) (views b x made m n) later

    by : (u ≡ t) ⊎ Contains made t → (Contains made t → Contains (views b x made m n) (view x t)) → Contains (views b x (u ∷ made) m n) (view x t)
    by (inl same) rest = subst (λ (o : Option model.Table). Contains (cons_option o (views b x made m n)) (view x t)) (sym (shown same)) (first_of (view x t) (views b x made m n))
    by (inr later) rest = more (view_from b x m n u) (rest later)

-- ## what a collector's step is for x

-- records stay; or a table that is taken ends some, and entries stay
pub data Touches (made : List Table) (me : ℕ) (s u : NodeState) : Type 0 where
  Keeps : u.entering ≡ s.entering → Touches made me s u
  Cleans : (t : Table) → Contains made t → t.to ≡ me → u.known ≡ s.known →
      ((name node : ℕ) → u.entering name node ≡ record_left (s.taken t.from) t (s.entering name node)) → Touches made me s u

-- the table that is taken was made for the node
abbrev pub IsForIt : List Table → ℕ → CollectorInput → Type 0
IsForIt made me (Collect bunch) = Unit {0}
IsForIt made me Sweep = Unit {0}
IsForIt made me (MakeTable bunch to) = Unit {0}
IsForIt made me (TakeTable t) = Contains made t × (t.to ≡ me)

either_touches : (made : List Table) (me : ℕ) (s : NodeState) (b : Bool) (r q : CollectorReaction) → Touches made me s (with_step r.node.state) → Touches made me s (with_step q.node.state) →
    Touches made me s (with_step (cond b r q).node.state)
either_touches made me s true r q f g = f
either_touches made me s false r q f g = g

touches : (st : Setting) (me stamp : ℕ) (made : List Table) (n : LinkedNode) (told : CollectorTold) (i : CollectorInput) → IsForIt made me i →
    Touches made me n.state (with_step (collector_rule st me n told stamp i).node.state)
touches st me stamp made n told (Collect bunch) fit = either_touches made me n.state (is_too_large st.limit n.state n.places told.owned) (unchanged n (Refused refusal.Full)) _ (Keeps refl) (Keeps refl)
touches st me stamp made n told Sweep fit = Keeps refl
touches st me stamp made n told (MakeTable bunch to) fit = Keeps refl
touches st me stamp made n told (TakeTable t) fit = either_touches made me n.state (is_stray_table st me t) (unchanged n Stray) _ (Keeps refl) (Cleans t fit.0 fit.1 refl (λ name node. refl))

-- the table that a step made, if any: it lists what the node would ask there for
pub data MakesTable (me : ℕ) (s u : NodeState) (o : Option Table) : Type 0 where
  NoTable : o ≡ None → MakesTable me s u o
  OneTable : (t : Table) → o ≡ Some t → t.from ≡ me → t.sent ≡ s.issued t.to → t.got ≡ s.taken t.to →
      ((name : ℕ) → is_listed t.names name ≡ is_child s t.bunch t.to name) → u.known ≡ s.known → u.entering ≡ s.entering → MakesTable me s u o

same_bools : (a b : Bool) → (a ≡ true → b ≡ true) → (b ≡ true → a ≡ true) → a ≡ b
same_bools true b f g = sym (f refl)
same_bools false true f g = g refl
same_bools false false f g = refl

either_none : (b : Bool) (r q : CollectorReaction) → r.table ≡ None → q.table ≡ None → (cond b r q).table ≡ None
either_none true r q f g = f
either_none false r q f g = g

makes_table : (st : Setting) (me stamp : ℕ) (n : LinkedNode) (told : CollectorTold) (i : CollectorInput) → IsCollectorTold me n i told →
    MakesTable me n.state (with_step (collector_rule st me n told stamp i).node.state) (collector_rule st me n told stamp i).table
makes_table st me stamp n told (Collect bunch) is = NoTable (either_none (is_too_large st.limit n.state n.places told.owned) (unchanged n (Refused refusal.Full)) _ refl refl)
makes_table st me stamp n told Sweep is = NoTable refl
makes_table st me stamp n told (MakeTable bunch to) is =
    OneTable (table_of me n.state n.links stamp bunch to told.children) refl refl refl refl
    (λ name. same_bools (is_listed told.children name) (is_child n.state bunch to name)
    (λ e. (is.children.all name).0 (listed_there told.children name e)) (λ e. listed told.children name ((is.children.all name).1 e))) refl refl
makes_table st me stamp n told (TakeTable t) is = NoTable (either_none (is_stray_table st me t) (unchanged n Stray) _ refl refl)

-- a table of the bunch lists x exactly where the node looks there for it
looks_so : (b x to : ℕ) (s : NodeState) → SaysBunch b x s → is_child s b to x ≡ looks_to (seen_known (s.known x)) to
looks_so b x to s says = by (s.known x) refl
  where
    by_role : (r : Role) → option_map_or (λ n. n == to) (parent_of r) false ≡ looks_as r to
    by_role role.Owner = refl
    by_role (role.Parent p) = refl

    by : (k : Option Known) → s.known x ≡ k →
        option_map_or (λ (j : Known). j.bunch == b && option_map_or (λ n. n == to) (parent_of j.part.role) false) k false ≡ looks_to (seen_known k) to
    by None is = refl
    by (Some k) is = (λ i. eqb_of (says.entries k is) i && option_map_or (λ n. n == to) (parent_of k.part.role) false) ∙ by_role k.part.role

-- ## what has come about after it

module _ (st : Setting) (x me : ℕ) (past : List Event) (nodes : ℕ → Node) (made : List Table) (after : Node)
    (silent : IsSilent (nodes me).state after.state) (leaves : LeavesTokens (nodes me).state after.state) where
  abbrev s : NodeState
  s = (nodes me).state

  abbrev u : NodeState
  u = after.state

  abbrev before : Object
  before = seen x (world_of nodes past)

  abbrev start : Tabled
  start = untabled (seen x (first_world st))

  abbrev then_seen : Object
  then_seen = seen x (world_of (put nodes me after) past)

  same_at : (n : ℕ) → Two me n → ((m : ℕ) → (put nodes me after n).state.issued m ≡ (nodes n).state.issued m) × ((m : ℕ) → (put nodes me after n).state.taken m ≡ (nodes n).state.taken m)
  same_at n (Same a) = subst (λ (z : ℕ). ((m : ℕ) → (put nodes me after z).state.issued m ≡ (nodes z).state.issued m) × ((m : ℕ) → (put nodes me after z).state.taken m ≡ (nodes z).state.taken m)) a
      ((λ m. (λ i. (cond (eqb_same me i) after (nodes me)).state.issued m) ∙ (λ i. silent.issued i m)), (λ m. (λ i. (cond (eqb_same me i) after (nodes me)).state.taken m) ∙ (λ i. silent.taken i m)))
  same_at n (Apart h d) = ((λ m. (λ i. (cond (h i) after (nodes n)).state.issued m)), (λ m. (λ i. (cond (h i) after (nodes n)).state.taken m)))

  -- what is seen then, by what the node has and its records
  seen_is : (holds : ℕ → Option Share) (entering : ℕ → ℕ → Option Numbers) →
      seen_known (u.known x) ≡ holds me → ((n : ℕ) → (me == n) ≡ false → before.holds n ≡ holds n) →
      ((m : ℕ) → seen_record (u.entering x m) ≡ entering me m) → ((n m : ℕ) → (me == n) ≡ false → before.entering n m ≡ entering n m) →
      then_seen ≡ record before { holds = holds; entering = entering }
  seen_is holds entering here else_holds at else_at = λ i. record {
    holds = λ n. has n (two me n) i;
    channel = before.channel;
    entering = λ n m. records n m (two me n) i;
    issued = λ n m. (same_at n (two me n)).0 m i;
    taken = λ n m. (same_at n (two me n)).1 m i;
  }
    where
      has : (n : ℕ) → Two me n → then_seen.holds n ≡ holds n
      has n (Same a) = subst (λ (z : ℕ). then_seen.holds z ≡ holds z) a ((λ i. seen_known ((cond (eqb_same me i) after (nodes me)).state.known x)) ∙ here)
      has n (Apart h d) = (λ i. seen_known ((cond (h i) after (nodes n)).state.known x)) ∙ else_holds n h

      records : (n m : ℕ) → Two me n → then_seen.entering n m ≡ entering n m
      records n m (Same a) = subst (λ (z : ℕ). then_seen.entering z m ≡ entering z m) a ((λ i. seen_record ((cond (eqb_same me i) after (nodes me)).state.entering x m)) ∙ at m)
      records n m (Apart h d) = (λ i. seen_record ((cond (h i) after (nodes n)).state.entering x m)) ∙ else_at n m h

  -- where the node has what it had
  same_seen : seen_known (u.known x) ≡ seen_known (s.known x) → ((m : ℕ) → u.entering x m ≡ s.entering x m) → then_seen ≡ before
  same_seen known entering = seen_is before.holds before.entering known (λ n h. refl) (λ m. ap seen_record (entering m)) (λ n m h. refl)

  -- ## what all say

  says_after : (b : ℕ) → Touches made me s u → SaysAll b x past nodes → SaysAll b x past (put nodes me after)
  says_after b kind all = record {
    nodes_say = λ n. at_each (λ (k : Node). SaysBunch b x k.state) nodes me after (record {
      entries = λ k is. (all.nodes_say me).entries k (leaves.stands x k is);
      records = records kind;
    }) n (all.nodes_say n);
    letters_say = all.letters_say;
  }
    where
      records : Touches made me s u → (m : ℕ) (r : Record) → u.entering x m ≡ Some r → IsRecordOf b x m r
      records (Keeps same) m r is = (all.nodes_say me).records m r ((λ i. sym same i x m) ∙ is)
      records (Cleans t there to known left) m r is = (all.nodes_say me).records m r (left_record (s.taken t.from) t (s.entering x m) r (sym (left x m) ∙ is))

  -- ## the run

  forgets_run : (b : ℕ) → (k : Option Known) → s.known x ≡ k → (j : Option Known) → u.known x ≡ j → u.entering ≡ s.entering → Leads start (views b x made) before → Leads start (views b x made) then_seen
  forgets_run b k was (Some j) is same run = subst (Leads start (views b x made)) (sym (same_seen (ap seen_known (is ∙ sym (leaves.stands x j is))) (λ m. (λ i. same i x m)))) run
  forgets_run b None was None is same run = subst (Leads start (views b x made)) (sym (same_seen (ap seen_known (is ∙ sym was)) (λ m. (λ i. same i x m)))) run
  forgets_run b (Some k) was None is same run = Goes run (Forgets me (share_of k) (record {
    has = ap seen_known was;
    idle = idle_of k.part (leaves.idle x k was is);
    no_record = λ m. ap seen_record (leaves.unrecorded x m k was is);
  }) gone refl)
    where
      gone : then_seen ≡ with_holding before me None
      gone = seen_is (put before.holds me None) before.entering
          (ap seen_known is ∙ (λ i. cond (sym (eqb_same me) i) None (before.holds me)))
          (λ n h. (λ i. cond (sym h i) None (before.holds n))) (λ m. (λ i. seen_record (same i x m))) (λ n m h. refl)

  clears_run : (b : ℕ) (t : Table) → SaysAll b x past nodes → Contains made t → t.to ≡ me → u.known ≡ s.known →
      ((name node : ℕ) → u.entering name node ≡ record_left (s.taken t.from) t (s.entering name node)) → Leads start (views b x made) before → Leads start (views b x made) then_seen
  clears_run b t all there to known left run = by (s.entering x t.from) refl
    where
      -- records of other nodes stay
      others : (m : ℕ) → m ≢ t.from → u.entering x m ≡ s.entering x m
      others m apart = left x m ∙ other_left (s.taken t.from) t (s.entering x m) (λ r at from. apart (sym ((all.nodes_say me).records m r at).of_node ∙ from))

      has : seen_known (u.known x) ≡ seen_known (s.known x)
      has i = seen_known (known i x)

      stays : u.entering x t.from ≡ s.entering x t.from → Leads start (views b x made) then_seen
      stays same = subst (Leads start (views b x made)) (sym (same_seen has (λ m. by_two m (two t.from m)))) run
        where
          by_two : (m : ℕ) → Two t.from m → u.entering x m ≡ s.entering x m
          by_two m (Same a) = subst (λ (z : ℕ). u.entering x z ≡ s.entering x z) a same
          by_two m (Apart h d) = others m (λ e. d (sym e))

      goes : (r : Record) → s.entering x t.from ≡ Some r → ends_record (s.taken t.from) t r ≡ true → Leads start (views b x made) then_seen
      goes r at ended = Goes run (Clears me t.from (record {
        table = view x t;
        numbers = record { sent = r.sent; got = r.got };
        made = viewed b x t.from me made t there refl to (sym e.bunch ∙ is.of_bunch);
        unlisted = ap (is_listed t.names) (sym is.of_name) ∙ e.unlisted;
        has = ap seen_record at;
        taken = e.in_time;
        sent = e.sent;
        got = e.got;
      }) gone refl)
        where
          e : Ends (s.taken t.from) t r
          e = ends_so (s.taken t.from) t r ended

          is : IsRecordOf b x t.from r
          is = (all.nodes_say me).records t.from r at

          none : u.entering x t.from ≡ None
          none = left x t.from ∙ ap (record_left (s.taken t.from) t) at ∙ (λ i. cond (ended i) None (Some r))

          row : (m : ℕ) → Two t.from m → seen_record (u.entering x m) ≡ put_at before.entering me t.from None me m
          row m (Same a) = subst (λ (z : ℕ). seen_record (u.entering x z) ≡ put_at before.entering me t.from None me z) a
              (ap seen_record none ∙ (λ i. cond (sym (eqb_same t.from) i) None (before.entering me t.from))
              ∙ (λ i. cond (sym (eqb_same me) i) (put (before.entering me) t.from None) (before.entering me) t.from))
          row m (Apart h d) = ap seen_record (others m (λ f. d (sym f))) ∙ (λ i. cond (sym h i) None (before.entering me m)) ∙ (λ i. cond (sym (eqb_same me) i) (put (before.entering me) t.from None) (before.entering me) m)

          gone : then_seen ≡ record before { entering = put_at before.entering me t.from None }
          gone = seen_is before.holds (put_at before.entering me t.from None) has (λ n h. refl) (λ m. row m (two t.from m))
              (λ n m h. (λ i. cond (sym h i) (put (before.entering me) t.from None) (before.entering n) m))

      by : (o : Option Record) → s.entering x t.from ≡ o → Leads start (views b x made) then_seen
      by None at = stays (left x t.from ∙ ap (record_left (s.taken t.from) t) at ∙ sym at)
      by (Some r) at = by_test (ends_record (s.taken t.from) t r) refl
        where
          by_test : (c : Bool) → ends_record (s.taken t.from) t r ≡ c → Leads start (views b x made) then_seen
          by_test true ended = goes r at ended
          by_test false ended = stays (left x t.from ∙ ap (record_left (s.taken t.from) t) at ∙ (λ i. cond (ended i) None (Some r)) ∙ sym at)

  touched_run : (b : ℕ) → SaysAll b x past nodes → Touches made me s u → Leads start (views b x made) before → Leads start (views b x made) then_seen
  touched_run b all (Keeps same) run = forgets_run b (s.known x) refl (u.known x) refl same run
  touched_run b all (Cleans t there to known left) run = clears_run b t all there to known left run

  -- ## the table that was made

  abbrev seen_with : (ℕ → ℕ → List model.Table) → Tabled
  seen_with tables = beside tables then_seen

  -- its view stands last among those of its pair
  tables_after : (b : ℕ) (t : Table) → t.from ≡ me → t.bunch ≡ b → (m n : ℕ) → views b x (made ++ t ∷ []) m n ≡ put_at (views b x made) me t.to (views b x made me t.to ++ view x t ∷ []) m n
  tables_after b t from of m n = filter_map-append (view_from b x m n) made (t ∷ []) ∙ by (two me m) (two t.to n)
    where
      shown : (a c d : Bool) → (t.from == m) ≡ a → (t.to == n) ≡ c → (t.bunch == b) ≡ d → views b x made m n ++ cons_option (view_from b x m n t) [] ≡ views b x made m n ++ cons_option (cond ((a && c) && d) (Some (view x t)) None) []
      shown a c d ea ec ed = λ i. views b x made m n ++ cons_option (cond ((ea i && ec i) && ed i) (Some (view x t)) None) []

      by : Two me m → Two t.to n → views b x made m n ++ cons_option (view_from b x m n t) [] ≡ put_at (views b x made) me t.to (views b x made me t.to ++ view x t ∷ []) m n
      by (Same a) (Same c) = shown true true true (eqb_of (from ∙ a)) (eqb_of c) (eqb_of of)
          ∙ (λ i. views b x made (sym a i) (sym c i) ++ view x t ∷ [])
          ∙ (λ i. cond (sym (eqb_of c) i) (views b x made me t.to ++ view x t ∷ []) (views b x made me n))
          ∙ (λ i. cond (sym (eqb_of a) i) (put (views b x made me) t.to (views b x made me t.to ++ view x t ∷ [])) (views b x made m) n)
      by (Same a) (Apart h d) = shown true false true (eqb_of (from ∙ a)) h (eqb_of of) ∙ append-nil (views b x made m n)
          ∙ (λ i. views b x made (sym a i) n)
          ∙ (λ i. cond (sym h i) (views b x made me t.to ++ view x t ∷ []) (views b x made me n))
          ∙ (λ i. cond (sym (eqb_of a) i) (put (views b x made me) t.to (views b x made me t.to ++ view x t ∷ [])) (views b x made m) n)
      by (Apart h d) c = shown false (t.to == n) true (ap (λ (z : ℕ). z == m) from ∙ h) refl (eqb_of of) ∙ append-nil (views b x made m n)
          ∙ (λ i. cond (sym h i) (put (views b x made me) t.to (views b x made me t.to ++ view x t ∷ [])) (views b x made m) n)

  -- one of another bunch isn't seen
  other_tables : (b : ℕ) (t : Table) → (t.bunch == b) ≡ false → (m n : ℕ) → views b x made m n ≡ views b x (made ++ t ∷ []) m n
  other_tables b t other m n = sym (filter_map-append (view_from b x m n) made (t ∷ []) ∙ (λ i. views b x made m n ++ cons_option (cond ((t.from == m && t.to == n) && other i) (Some (view x t)) None) []) ∙ by (t.from == m && t.to == n))
    where
      by : (c : Bool) → views b x made m n ++ cons_option (cond (c && false) (Some (view x t)) None) [] ≡ views b x made m n
      by true = append-nil (views b x made m n)
      by false = append-nil (views b x made m n)

  table_run : (b : ℕ) (t : Table) → SaysAll b x past nodes → t.from ≡ me → t.sent ≡ s.issued t.to → t.got ≡ s.taken t.to →
      ((name : ℕ) → is_listed t.names name ≡ is_child s t.bunch t.to name) → then_seen ≡ before → Leads start (views b x made) before →
      TableRun start (seen_with (views b x (made ++ t ∷ [])))
  table_run b t all from sent got lists same run = by (two t.bunch b)
    where
      by : Two t.bunch b → TableRun start (seen_with (views b x (made ++ t ∷ [])))
      by (Same of) = Goes run (Tabulates me t.to same
          ((λ i m n. tables_after b t from of m n i)
          ∙ (λ i. put_at (views b x made) me t.to (views b x made me t.to ++ record {
            sent = sent i;
            got = got i;
            lists = (lists x ∙ ap (λ (c : ℕ). is_child s c t.to x) of ∙ looks_so b x t.to s (all.nodes_say me)) i;
          } ∷ []))))
      by (Apart other d) = subst (TableRun start) (λ i. beside (λ m n. other_tables b t other m n i) (sym same i)) run

  -- ## one more event

  has_after : (b : ℕ) (o : Option Table) → Touches made me s u → MakesTable me s u o → HasRun st b x past nodes made → HasRun st b x past (put nodes me after) (made ++ cons_option o [])
  has_after b o kind makes has = record { says = says_after b kind has.says; run = by makes }
    where
      by : MakesTable me s u o → TableRun start (seen_with (views b x (made ++ cons_option o [])))
      by (NoTable none) = subst (λ (ts : List Table). TableRun start (seen_with (views b x ts))) (sym (append-nil made) ∙ (λ i. made ++ cons_option (sym none i) [])) (touched_run b has.says kind has.run)
      by (OneTable t is from sent got lists known entering) = subst (λ (p : Option Table). TableRun start (seen_with (views b x (made ++ cons_option p [])))) (sym is)
          (table_run b t has.says from sent got lists (same_seen (λ i. seen_known (known i x)) (λ m. (λ i. entering i x m))) has.run)

  still_nowhere : IsNowhere before → IsNowhere then_seen
  still_nowhere nowhere = record { unknown = λ n. by n (two me n); untold = nowhere.untold }
    where
      gone : (o : Option Known) → u.known x ≡ o → seen_known o ≡ None
      gone None is = refl
      gone (Some k) is = (let both_known : None ≡ Some (share_of k) = sym (nowhere.unknown me) ∙ ap seen_known (leaves.stands x k is) in none_some both_known)

      by : (n : ℕ) → Two me n → then_seen.holds n ≡ None
      by n (Same a) = subst (λ (z : ℕ). then_seen.holds z ≡ None) a ((λ i. seen_known ((cond (eqb_same me i) after (nodes me)).state.known x)) ∙ gone (u.known x) refl)
      by n (Apart h d) = (λ i. seen_known ((cond (h i) after (nodes n)).state.known x)) ∙ nowhere.unknown n

  counted_after : IsCounted st (world_of nodes past) x → IsCounted st (world_of (put nodes me after) past) x
  counted_after counted = record { by_a_node = counted.by_a_node; from_one = counted.from_one; made = by (two me (maker x)) }
    where
      by : Two me (maker x) → count_of x ≤ (put nodes me after (maker x)).state.made
      by (Same a) = subst (λ (c : Bool). count_of x ≤ (cond c after (nodes (maker x))).state.made) (sym (eqb_of a))
          (subst (λ (c : ℕ). count_of x ≤ c) (ap (λ (z : ℕ). (nodes z).state.made) (sym a) ∙ sym silent.made) counted.made)
      by (Apart h d) = subst (λ (c : Bool). count_of x ≤ (cond c after (nodes (maker x))).state.made) (sym h) counted.made

  pub came_collecting : (o : Option Table) → Touches made me s u → MakesTable me s u o → Came st x past nodes made → Came st x past (put nodes me after) (made ++ cons_option o [])
  came_collecting o kind makes came = record {
    channels = record {
      counts = λ n m. (same_at m (two me m)).1 n ∙ came.channels.counts n m;
      within = came.channels.within;
      numbers = came.channels.numbers;
    };
    kept = by came.kept;
  }
    where
      by : Kept st x past nodes made → Kept st x past (put nodes me after) (made ++ cons_option o [])
      by (Nowhere nowhere all) = Nowhere (still_nowhere nowhere) (λ b. has_after b o kind makes (all b))
      by (Somewhere counted b has) = Somewhere (counted_after counted) b (has_after b o kind makes has)

-- after a collector's step
pub came_by_collector : (st : Setting) (x me stamp : ℕ) (past : List Event) (nodes : ℕ → LinkedNode) (made : List Table) (i : CollectorInput) (d : CollectorDone) (n : LinkedNode) →
    IsCollectorStep st me (nodes me) stamp i d n → IsForIt made me i → Came st x past (λ k. unlinked (nodes k)) made →
    Came st x past (put (λ k. unlinked (nodes k)) me (unlinked n)) (made ++ cons_option d.table [])
came_by_collector st x me stamp past nodes made i d n step fit came =
    let calm : IsSilent (nodes me).state n.state × LeavesTokens (nodes me).state n.state = collector_touches_no_token st me stamp i (nodes me) n d step in
    came_collecting st x me past (λ k. unlinked (nodes k)) made (unlinked n) calm.0 calm.1 d.table
    (subst (λ (m : LinkedNode). Touches made me (nodes me).state m.state) (sym step.node) (touches st me stamp made (nodes me) step.told i fit))
    (subst (λ (m : LinkedNode). MakesTable me (nodes me).state m.state d.table) (sym step.node)
    (subst (λ (e : CollectorDone). MakesTable me (nodes me).state (with_step (collector_rule st me (nodes me) step.told stamp i).node.state) e.table) (sym step.outcome)
    (makes_table st me stamp (nodes me) step.told i step.is_told)))
    came
