-- In every legal history what copies refer to is known at their nodes, and has its pair where it is of another bunch.
use Rattle.std.proofs.Common.{◌≡◌, ◌≢◌, ℕ, zero, suc, ◌+◌, ◌-◌, ◌^◌, ◌<◌, ◌≤◌, ◌==◌, ◌&&◌, ◌||◌, ◌⊎◌, inl, inr, ⊎_elim, not, nat_lt, nat_le, Bool, true, false, cond, List, [], ◌∷◌, ◌++◌, map, length, fold, find, slice_get, count_by, flat_map, Contains, IsSome, refl, ap, sym, ◌∙◌, subst, arith}
use Rattle.std.specs.Prelude.{Option, Some, None, is_some}
use Rattle.std.specs.Option.{option_map, option_map_or}
use Rattle.std.specs.List.{list_any}
use Rattle.std.proofs.lemmas.Bool.Decides.{nat_tests}
use Rattle.bmx_types.specs.Words.{maker, count_of, anchor_of}
use Rattle.bmx_types.specs.Openings.{IsOfBunch, IsOpening, bunches_of}
use Rattle.bmx_types.specs.declared.openings.Birth.{Birth}
use Rattle.bmx_types.specs.declared.names.Pair.{Pair}
use Rattle.bmx_types.specs.declared.values.Val.{Val}
use Rattle.bmx_types.specs.declared.values.Val.TheVariants as val
use Rattle.bmx_types.specs.declared.commands.Refusal.TheVariants as refusal
use Rattle.bmx_types.specs.Updates.{put}
use Rattle.bmx_msg.specs.Letters.{given}
use Rattle.bmx_owner.specs.Records.{is_listed}
use Rattle.bmx_inter.specs.declared.inter.Stub.{Stub}
use Rattle.bmx_inter.specs.declared.inter.Scion.{Scion}
use Rattle.bmx_inter.specs.Order.{is_same, find_one}
use Rattle.bmx_inter.specs.Inter.{stub_pair, scion_pair, is_kept}
use Rattle.bmx_inter.proofs.Keys.{is_same-true, is_same-itself}
use Rattle.bmx_protocol.specs.declared.inputs.Sending.{Sending}
use Rattle.bmx_protocol.specs.Nodes.{Setting, NodeState, Known, field_of, is_anchor, birth_of, owned_birth, heard_birth, first_known}
use Rattle.bmx_protocol.specs.Changes.{Change, Sets, Makes, Knows, Hears, Gives, Gets, Issues, Takes, after_change, after_changes, with_step}
use Rattle.bmx_protocol.specs.Rules.{Reaction}
use Rattle.bmx_protocol.specs.Steps.{rule, letters_of, sent_changes, changes_of, closed}
use Rattle.bmx_protocol.proofs.Basics.{eqb_is, eqb_of, Two, Same, Apart, two, some_same}
use Rattle.bmx_protocol.proofs.Changing.{Each, each_append, kept_by_each, after_append}
use Rattle.bmx_collection.specs.Links.{Links, with_pair, pairs_of}
use Rattle.bmx_collection.specs.Reach.{is_entry, is_reference_to, refers, IsRoot, InRegister, IsAnchor, HasScion, MayBeKept}
use Rattle.bmx_collection.specs.Forgetting.{known_left, forgotten, links_kept}
use Rattle.bmx_collection.specs.ToSpaces.{is_too_large}
use Rattle.bmx_collection.specs.Tables.{is_stray_table}
use Rattle.bmx_collection.specs.Steps.{LinkedNode, first_linked, CollectorInput, Collect, Sweep, MakeTable, TakeTable, CollectorTold, CollectorReaction, Refused, Stray, unchanged, collector_rule, counted, IsCollectorTold}
use Rattle.bmx_collection.specs.Histories.{Deed, Plain, Collector, LinkedEvent, FitsDeed, FitsLinked, IsDeed, tables_made, ReplaysLinked, IsLegalLinked}
use Rattle.bmx_collection.specs.Laws.{PairsAlwaysStand}
use Rattle.bmx_collection.proofs.Rising.{listed, listed_there}
use Rattle.bmx_collection.proofs.Tokens.{left_was, stands_kept}
use Rattle.bmx_collection.proofs.Reaching.{reach_may_be_kept}
use Rattle.bmx_collection.proofs.Listing.{clash, append_nil, behind, in_filter}
use Rattle.bmx_collection.proofs.Replayed.{joined}
use Rattle.bmx_collection.proofs.References.{holds, HasStub, Stand, the_known}
use Rattle.bmx_collection.proofs.Referring.{Left, rule_left}
use Rattle.bmx_collection.proofs.Pairing.{IsSafe, AllSafe, clock_after, passes_found, found_passes, event_safe, first_safe}

-- ## what letters that are issued change

-- the same is known, in registers and made
record AreSame (s u : NodeState) : Type 0 where
  known : u.known ≡ s.known
  registers : u.register ≡ s.register
  made : u.made ≡ s.made

abbrev IsSent : Change → Type 0
IsSent (Sets register v) = ⊥
IsSent Makes = ⊥
IsSent (Knows name k) = ⊥
IsSent (Hears from info) = ⊥
IsSent (Gives name to seq) = Unit {0}
IsSent (Gets name from seq) = ⊥
IsSent (Issues to) = Unit {0}
IsSent (Takes from) = ⊥

sent_same : (s u : NodeState) (c : Change) → IsSent c → AreSame s u → AreSame s (after_change u c)
sent_same s u (Sets register v) sent same = absurd sent
sent_same s u Makes sent same = absurd sent
sent_same s u (Knows name k) sent same = absurd sent
sent_same s u (Hears from info) sent same = absurd sent
sent_same s u (Gives name to seq) sent same = record { known = same.known; registers = same.registers; made = same.made }
sent_same s u (Gets name from seq) sent same = absurd sent
sent_same s u (Issues to) sent same = record { known = same.known; registers = same.registers; made = same.made }
sent_same s u (Takes from) sent same = absurd sent

gives_sent : (to seq : ℕ) (names : List ℕ) → Each IsSent (map (λ name. Gives name to seq) names)
gives_sent to seq [] = tt
gives_sent to seq (x ∷ names) = (tt, gives_sent to seq names)

all_sent : (letters : List Sending) → Each IsSent (flat_map sent_changes letters)
all_sent [] = tt
all_sent (l ∷ letters) =
    each_append IsSent (sent_changes l) (flat_map sent_changes letters)
    (each_append IsSent (map (λ name. Gives name l.to l.letter.seq) (given l.letter.msg)) (Issues l.to ∷ []) (gives_sent l.to l.letter.seq (given l.letter.msg)) (tt, tt))
    (all_sent letters)

closed_same : (stamp : ℕ) (s : NodeState) (o : Reaction) → AreSame (after_changes s o.changes) (closed stamp s o)
closed_same stamp s o =
    let it : AreSame (after_changes s o.changes) (after_changes (after_changes s o.changes) (flat_map sent_changes (letters_of stamp s o))) =
    kept_by_each (AreSame (after_changes s o.changes)) IsSent (sent_same (after_changes s o.changes)) (flat_map sent_changes (letters_of stamp s o)) (all_sent (letters_of stamp s o))
    (after_changes s o.changes) (record { known = refl; registers = refl; made = refl }) in
    subst (λ (u : NodeState). AreSame (after_changes s o.changes) (with_step u)) (sym (after_append s o.changes (flat_map sent_changes (letters_of stamp s o))))
    (record { known = it.known; registers = it.registers; made = it.made })

-- ## a node

-- a node of so many events: what it refers to stands, and it made no more names than it has births and steps
pub record IsWhole (st : Setting) (me count : ℕ) (n : LinkedNode) : Type 0 where
  pub stand : Stand st me n.state.made n.state.known n.state.register n.links.stubs
  pub few : n.state.made ≤ length st.births + n.state.clock
  pub clock : n.state.clock ≡ count

-- the same stands of a node that has the same entries, registers and stubs
same_stand : (st : Setting) (me : ℕ) (s u : NodeState) (stubs : List Stub) → AreSame s u → Stand st me s.made s.known s.register stubs → Stand st me u.made u.known u.register stubs
same_stand st me s u stubs same w =
    subst (λ (made : ℕ). Stand st me made u.known u.register stubs) (sym same.made)
    (subst (λ (register : ℕ → Val). Stand st me s.made u.known register stubs) (sym same.registers)
    (subst (λ (known : ℕ → Option Known). Stand st me s.made known s.register stubs) (sym same.known) w))

-- ## a collection

module _ (st : Setting) (me bunch : ℕ) (s : NodeState) (l : Links) (kept : List ℕ) (may : MayBeKept s l bunch kept)
    (answered : (x : Stub) → Contains l.stubs x → IsSome (find_one scion_pair l.scions x.source x.target)) (w : Stand st me s.made s.known s.register l.stubs) where
  entry_of : (x : ℕ) (k : Known) → s.known x ≡ Some k → k.bunch ≡ bunch → is_entry s bunch x ≡ true
  entry_of x k e same = ap (λ (o : Option Known). option_map_or (λ (j : Known). j.bunch == bunch) o false) e ∙ eqb_of same

  refers_of : (y z : ℕ) (j : Known) → s.known y ≡ Some j → holds j z ≡ true → refers s y z ≡ true
  refers_of y z j e h = ap (λ (o : Option Known). option_map_or (λ (i : Known). option_map_or (list_any (is_reference_to z)) i.copy false) o false) e ∙ h

  -- what is kept where it is of the bunch stays
  stays : (x : ℕ) (k : Known) → s.known x ≡ Some k → (k.bunch ≡ bunch → Contains kept x) → (forgotten bunch kept s).known x ≡ Some k
  stays x k e is_kept_here = ap (known_left bunch (is_listed kept x)) e ∙ by (two k.bunch bunch)
    where
      none_go : (a b : Bool) → (a ≡ false) ⊎ (b ≡ true) → cond (a && not b) None (Some k) ≡ Some k
      none_go false b e = refl
      none_go true true e = refl
      none_go true false e = ⊎_elim (λ f. cc) (λ f. cc) e

      by : Two k.bunch bunch → known_left bunch (is_listed kept x) (Some k) ≡ Some k
      by (Same same) = none_go (k.bunch == bunch) (is_listed kept x) (inr (listed kept x (is_kept_here same)))
      by (Apart other differ) = none_go (k.bunch == bunch) (is_listed kept x) (inl other)

  stays_some : (x : ℕ) → IsSome (s.known x) → ((k : Known) → s.known x ≡ Some k → k.bunch ≡ bunch → Contains kept x) → IsSome ((forgotten bunch kept s).known x)
  stays_some x some is_kept_here =
      let k : (k : Known) × (s.known x ≡ Some k) = the_known (s.known x) some in
      ap (λ (o : Option Known). is_some o) (stays x k.0 k.1 (is_kept_here k.0 k.1))

  was : (x : ℕ) (k : Known) → (forgotten bunch kept s).known x ≡ Some k → s.known x ≡ Some k
  was x k e = left_was bunch (is_listed kept x) (s.known x) k e

  -- an entry of the bunch that stands was kept
  kept_where_left : (y : ℕ) (j : Known) → (forgotten bunch kept s).known y ≡ Some j → j.bunch ≡ bunch → Contains kept y
  kept_where_left y j e same =
      let stands : is_entry (forgotten bunch kept s) bunch y ≡ true = ap (λ (o : Option Known). option_map_or (λ (i : Known). i.bunch == bunch) o false) e ∙ eqb_of same in
      listed_there kept y (stands_kept bunch (is_listed kept y) (s.known y) stands)

  -- the target of a stub is a root
  targeted : (y z b : ℕ) → HasStub l.stubs y z b → IsRoot s l bunch z
  targeted y z b h =
      let c : (q : Scion) × Contains l.scions q × (is_same (scion_pair q) (stub_pair h.stub) ≡ true) =
      found_passes (λ q. is_same (scion_pair q) (stub_pair h.stub)) l.scions (answered h.stub h.there) in
      let same : scion_pair c.0 ≡ record { source = y; target = z } = is_same-true (scion_pair c.0) (stub_pair h.stub) c.2 ∙ h.pair in
      HasScion c.0 c.1 (ap (λ (p : Pair). p.target) same)

  collected_stand : Stand st me s.made (forgotten bunch kept s).known s.register (links_kept bunch kept s l).stubs
  collected_stand = record {
    counted = λ x j e mine. w.counted x j (was x j e) mine;
    anchors = λ b less.
        let a : (k : Known) × (s.known (anchor_of b) ≡ Some k) × (k.bunch ≡ b) = w.anchors b less in
        (a.0, stays (anchor_of b) a.0 a.1 (λ same. may.rooted (anchor_of b) (entry_of (anchor_of b) a.0 a.1 same) (IsAnchor (ap anchor_of (sym a.2 ∙ same)))), a.2);
    registers = λ r x less e. stays_some x (w.registers r x less e) (λ k is same. may.rooted x (entry_of x k is same) (InRegister r less e));
    targets = λ y z j e h. stays_some z (w.targets y z j (was y j e) h) (λ k is same. by_bunch y z j k e h is same (two j.bunch bunch));
    pairs = λ y z j k ey ez h apart. keeps y z j ey h (w.pairs y z j k (was y j ey) (was z k ez) h apart);
  }
    where
      by_bunch : (y z : ℕ) (j k : Known) → (forgotten bunch kept s).known y ≡ Some j → holds j z ≡ true → s.known z ≡ Some k → k.bunch ≡ bunch → Two j.bunch bunch → Contains kept z
      by_bunch y z j k e h is same (Same here) = may.closed y z (kept_where_left y j e here) (entry_of z k is same) (refers_of y z j (was y j e) h)
      by_bunch y z j k e h is same (Apart other differ) =
          may.rooted z (entry_of z k is same) (targeted y z j.bunch (w.pairs y z j k (was y j e) is h (λ q. differ (q ∙ same))))

      keeps : (y z : ℕ) (j : Known) → (forgotten bunch kept s).known y ≡ Some j → holds j z ≡ true → HasStub l.stubs y z j.bunch → HasStub (links_kept bunch kept s l).stubs y z j.bunch
      keeps y z j e h x = record {
        stub = x.stub;
        there = in_filter (is_kept bunch (is_listed kept) (refers s)) l.stubs x.stub x.there (kept_one (two j.bunch bunch));
        pair = x.pair;
        of_bunch = x.of_bunch;
      }
        where
          source : x.stub.source ≡ y
          source = ap (λ (p : Pair). p.source) x.pair

          target : x.stub.target ≡ z
          target = ap (λ (p : Pair). p.target) x.pair

          one : (a b c : Bool) → (a ≡ false) ⊎ ((b ≡ true) × (c ≡ true)) → (not a || (b && c)) ≡ true
          one false b c e = refl
          one true true true e = refl
          one true b c e = ⊎_elim (λ f. cc) (λ f. (λ i. f.0 i && f.1 i)) e

          kept_one : Two j.bunch bunch → is_kept bunch (is_listed kept) (refers s) x.stub ≡ true
          kept_one (Same here) =
              one (x.stub.bunch == bunch) (is_listed kept x.stub.source) (refers s x.stub.source x.stub.target)
              (inr (ap (is_listed kept) source ∙ listed kept y (kept_where_left y j e here), (λ i. refers s (source i) (target i)) ∙ refers_of y z j (was y j e) h))
          kept_one (Apart other differ) =
              one (x.stub.bunch == bunch) (is_listed kept x.stub.source) (refers s x.stub.source x.stub.target) (inl (ap (λ (b : ℕ). b == bunch) x.of_bunch ∙ other))

-- ## a step

whole_more : (st : Setting) (me count : ℕ) (n : LinkedNode) (s : NodeState) (stubs : List Stub) (links : Links) (m : LinkedNode) → IsWhole st me count n →
    Stand st me m.state.made m.state.known m.state.register m.links.stubs → m.state.made ≤ n.state.made + 1 → m.state.clock ≡ n.state.clock + 1 → IsWhole st me (count + 1) m
whole_more st me count n s stubs links m k stand less clock = record {
  stand = stand;
  few = (let was : n.state.made ≤ length st.births + n.state.clock = k.few in omega (arith, was, less, clock));
  clock = (let is : n.state.clock ≡ count = k.clock in omega (arith, is, clock));
}

plain_whole : (st : Setting) (past : List LinkedEvent) (me stamp count : ℕ) (n m : LinkedNode) (i : _) (d : _) → IsOpening st.nodes st.limit st.births → count + 1 < 2 ^ 55 →
    FitsDeed st past me stamp (Plain i d) → IsDeed st me n stamp (Plain i d) m → IsWhole st me count n → IsWhole st me (count + 1) m
plain_whole st past me stamp count n m i d opening few fits step k =
    let o : Reaction = rule st me n.state step.step.told i in
    let births : length st.births ≤ 320000 = opening.born.few in
    let was : n.state.made ≤ length st.births + n.state.clock = k.few in
    let steps : n.state.clock ≡ count = k.clock in
    let small : n.state.made + 1 < 2 ^ 56 = omega (arith, births, was, steps, few) in
    let left : Left st me n.links (n.state.clock + 1) n.state.made (pairs_of me n.state i o.answer) (after_changes n.state o.changes) =
    rule_left st me n.state n.links (n.state.clock + 1) k.stand n.places step.step.told i fits.an_input step.step.is_told small in
    let same : AreSame (after_changes n.state o.changes) m.state = subst (AreSame (after_changes n.state o.changes)) (sym step.step.state) (closed_same stamp n.state o) in
    let stubs : m.links.stubs ≡ (fold (with_pair (n.state.clock + 1)) n.links (pairs_of me n.state i o.answer)).stubs =
    ap (λ (l : Links). l.stubs) step.links ∙ ap (λ (a : _). (fold (with_pair (n.state.clock + 1)) n.links (pairs_of me n.state i a)).stubs) (ap (λ (x : _). x.answer) step.step.outcome) in
    let made : m.state.made ≤ n.state.made + 1 = subst (λ (x : ℕ). x ≤ n.state.made + 1) (sym same.made) left.at_most in
    let clock : m.state.clock ≡ n.state.clock + 1 =
    ap (λ (s : NodeState). s.clock) step.step.state ∙ ap (λ (c : ℕ). c + 1) (clock_after (changes_of stamp n.state o) n.state) in
    whole_more st me count n n.state [] n.links m k
    (subst (λ (xs : List Stub). Stand st me m.state.made m.state.known m.state.register xs) (sym stubs) (same_stand st me (after_changes n.state o.changes) m.state _ same left.stand)) made clock

-- what a collector's rule leaves, before it is counted
record LeftBy (st : Setting) (me : ℕ) (n m : LinkedNode) : Type 0 where
  stand : Stand st me m.state.made m.state.known m.state.register m.links.stubs
  made : m.state.made ≡ n.state.made
  clock : m.state.clock ≡ n.state.clock

either_by : (st : Setting) (me : ℕ) (n : LinkedNode) (b : Bool) (r q : CollectorReaction) → LeftBy st me n r.node → LeftBy st me n q.node → LeftBy st me n (cond b r q).node
either_by st me n true r q x y = x
either_by st me n false r q x y = y

rule_by : (st : Setting) (me stamp : ℕ) (n : LinkedNode) (told : CollectorTold) (i : CollectorInput) → IsCollectorTold me n i told →
    ((x : Stub) → Contains n.links.stubs x → IsSome (find_one scion_pair n.links.scions x.source x.target)) → Stand st me n.state.made n.state.known n.state.register n.links.stubs →
    LeftBy st me n (collector_rule st me n told stamp i).node
rule_by st me stamp n told (Collect bunch) is answered w =
    either_by st me n (is_too_large st.limit n.state n.places told.owned) (unchanged n (Refused refusal.Full)) _ (record { stand = w; made = refl; clock = refl })
    (record { stand = collected_stand st me bunch n.state n.links told.kept (reach_may_be_kept n.state n.links bunch told.kept is.kept) answered w; made = refl; clock = refl })
rule_by st me stamp n told Sweep is answered w = record { stand = w; made = refl; clock = refl }
rule_by st me stamp n told (MakeTable bunch to) is answered w = record { stand = w; made = refl; clock = refl }
rule_by st me stamp n told (TakeTable t) is answered w =
    either_by st me n (is_stray_table st me t) (unchanged n Stray) _ (record { stand = w; made = refl; clock = refl }) (record { stand = w; made = refl; clock = refl })

deed_whole : (st : Setting) (past : List LinkedEvent) (me stamp count : ℕ) (n m : LinkedNode) (d : Deed) → IsOpening st.nodes st.limit st.births → count + 1 < 2 ^ 55 →
    FitsDeed st past me stamp d → IsDeed st me n stamp d m → IsSafe me n.state.clock n.links (tables_made past) → IsWhole st me count n → IsWhole st me (count + 1) m
deed_whole st past me stamp count n m (Plain i d) opening few fits step safe k = plain_whole st past me stamp count n m i d opening few fits step k
deed_whole st past me stamp count n m (Collector i d) opening few fits step safe k =
    let left : LeftBy st me n (collector_rule st me n step.told stamp i).node = rule_by st me stamp n step.told i step.is_told safe.answered k.stand in
    subst (IsWhole st me (count + 1)) (sym step.node)
    (whole_more st me count n n.state [] n.links (counted (collector_rule st me n step.told stamp i).node) k left.stand
    (let e : (collector_rule st me n step.told stamp i).node.state.made ≡ n.state.made = left.made in omega (arith, e)) (ap (λ (c : ℕ). c + 1) left.clock))

-- ## as a store opens

place_of : {X : Type 0} (xs : List X) (i : ℕ) → i < length xs → (x : X) × (slice_get xs i ≡ Some x)
place_of [] i less = absurd (omega (arith, less))
place_of (x ∷ xs) zero less = (x, refl)
place_of (x ∷ xs) (suc i) less = place_of xs i (omega (arith, less))

is_within : {X : Type 0} (xs : List X) (i : ℕ) (x : X) → slice_get xs i ≡ Some x → i < length xs
is_within [] i x e = cc
is_within (y ∷ xs) zero x e = omega arith
is_within (y ∷ xs) (suc i) x e = (let less : i < length xs = is_within xs i x e in omega (arith, less))

is_there : {X : Type 0} (xs : List X) (i : ℕ) (x : X) → slice_get xs i ≡ Some x → Contains xs x
is_there [] i x e = cc
is_there (y ∷ xs) zero x e = (0, omega arith, some_same e)
is_there (y ∷ xs) (suc i) x e = behind y x xs (is_there xs i x e)

-- a birth that is found stands at a place, and one that stands at a place is found
birth_place : (bs : List Birth) (x : ℕ) (b : Birth) → find (λ b. b.name == x) bs ≡ Some b → (i : ℕ) × (slice_get bs i ≡ Some b) × (b.name ≡ x)
birth_place [] x b e = cc
birth_place (c ∷ bs) x b e = by (c.name == x) refl e (birth_place bs x b)
  where
    by : (t : Bool) → (c.name == x) ≡ t → cond t (Some c) (find (λ b. b.name == x) bs) ≡ Some b →
        (find (λ b. b.name == x) bs ≡ Some b → (i : ℕ) × (slice_get bs i ≡ Some b) × (b.name ≡ x)) → (i : ℕ) × (slice_get (c ∷ bs) i ≡ Some b) × (b.name ≡ x)
    by true is e rest = (0, e, ap (λ (z : Birth). z.name) (sym (some_same e)) ∙ eqb_is c.name x is)
    by false is e rest = (let r : (i : ℕ) × (slice_get bs i ≡ Some b) × (b.name ≡ x) = rest e in (suc r.0, r.1, r.2))

birth_found : (bs : List Birth) (i x : ℕ) (b : Birth) → slice_get bs i ≡ Some b → b.name ≡ x → (c : Birth) × (find (λ b. b.name == x) bs ≡ Some c)
birth_found [] i x b e named = cc
birth_found (c ∷ bs) i x b e named = by (c.name == x) refl i e (birth_found bs)
  where
    by : (t : Bool) → (c.name == x) ≡ t → (i : ℕ) → slice_get (c ∷ bs) i ≡ Some b →
        ((i x : ℕ) (b : Birth) → slice_get bs i ≡ Some b → b.name ≡ x → (d : Birth) × (find (λ b. b.name == x) bs ≡ Some d)) → (d : Birth) × (cond t (Some c) (find (λ b. b.name == x) bs) ≡ Some d)
    by true is i e rest = (c, refl)
    by false is zero e rest = absurd (clash (c.name == x) (eqb_of (ap (λ (z : Birth). z.name) (some_same e) ∙ named)) is)
    by false is (suc i) e rest = rest i x b e named

born_refers : (fields : List Val) (z : ℕ) → list_any (is_reference_to z) (map field_of fields) ≡ true → Contains fields (val.Ref z)
born_refers [] z e = cc
born_refers (v ∷ fields) z e = by v e (born_refers fields z)
  where
    by : (v : Val) → (is_reference_to z (field_of v) || list_any (is_reference_to z) (map field_of fields)) ≡ true →
        (list_any (is_reference_to z) (map field_of fields) ≡ true → Contains fields (val.Ref z)) → Contains (v ∷ fields) (val.Ref z)
    by val.Null e rest = behind val.Null (val.Ref z) fields (rest e)
    by (val.Int k) e rest = behind (val.Int k) (val.Ref z) fields (rest e)
    by (val.Ref y) e rest = here (y == z) refl e
      where
        here : (b : Bool) → (y == z) ≡ b → (b || list_any (is_reference_to z) (map field_of fields)) ≡ true → Contains (val.Ref y ∷ fields) (val.Ref z)
        here true is e = (0, omega arith, ap val.Ref (eqb_is y z is))
        here false is e = behind (val.Ref y) (val.Ref z) fields (rest e)

-- what a node knows at first is of a birth: node 0 owns each, another has heard of the anchors
data IsBorn (st : Setting) (me x : ℕ) (k : Known) : Type 0 where
  Owned : (b : Birth) → birth_of st x ≡ Some b → (me == 0) ≡ true → k ≡ owned_birth b → IsBorn st me x k
  Told : (b : Birth) → birth_of st x ≡ Some b → (me == 0) ≡ false → is_anchor st x ≡ true → k ≡ heard_birth b → IsBorn st me x k

born_so : (st : Setting) (me x : ℕ) (k : Known) → first_known st me x ≡ Some k → IsBorn st me x k
born_so st me x k e = by (me == 0) (nat_lt me st.nodes) (is_anchor st x) (birth_of st x) refl refl refl e
  where
    by : (t a c : Bool) (o : Option Birth) → (me == 0) ≡ t → is_anchor st x ≡ c → birth_of st x ≡ o →
        cond t (option_map owned_birth o) (cond (a && c) (option_map heard_birth o) None) ≡ Some k → IsBorn st me x k
    by true a c None here anchor at e = cc
    by true a c (Some b) here anchor at e = Owned b at here (sym (some_same e))
    by false true true (Some b) here anchor at e = Told b at here anchor (sym (some_same e))
    by false true true None here anchor at e = cc
    by false true false o here anchor at e = cc
    by false false c o here anchor at e = cc

module _ (st : Setting) (opening : IsOpening st.nodes st.limit st.births) (me : ℕ) (real : me < st.nodes) where
  -- the birth of a name within, and the bunch of what is known of it
  named_birth : (x : ℕ) → 0 < x → x ≤ length st.births → (b : Birth) × (birth_of st x ≡ Some b) × (slice_get st.births (x - 1) ≡ Some b)
  named_birth x some less =
      let at : (b : Birth) × (slice_get st.births (x - 1) ≡ Some b) = place_of st.births (x - 1) (omega (arith, some, less)) in
      let name : at.0.name ≡ x - 1 + 1 = opening.born.named (x - 1) at.0 at.1 in
      let is : at.0.name ≡ x = omega (arith, name, some) in
      let c : (c : Birth) × (birth_of st x ≡ Some c) = birth_found st.births (x - 1) x at.0 at.1 is in
      let p : (i : ℕ) × (slice_get st.births i ≡ Some c.0) × (c.0.name ≡ x) = birth_place st.births x c.0 c.1 in
      let same_name : c.0.name ≡ p.0 + 1 = opening.born.named p.0 c.0 p.1 in
      let found_name : c.0.name ≡ x = p.2 in
      let index : p.0 ≡ x - 1 = omega (arith, same_name, found_name) in
      (c.0, c.1, subst (λ (i : ℕ). slice_get st.births i ≡ Some c.0) {x = p.0} index p.1)

  known_of : (x : ℕ) (b : Birth) → birth_of st x ≡ Some b → ((me == 0) ≡ true) ⊎ (is_anchor st x ≡ true) → (k : Known) × (first_known st me x ≡ Some k) × (k.bunch ≡ b.bunch)
  known_of x b at told = by (me == 0) (nat_lt me st.nodes) (is_anchor st x) (birth_of st x) at (is_less me st.nodes real) told
    where
      is_less : (a c : ℕ) → a < c → nat_lt a c ≡ true
      is_less a c less = grind (arith, nat_tests, less)

      by : (t a c : Bool) (o : Option Birth) → o ≡ Some b → a ≡ true → (t ≡ true) ⊎ (c ≡ true) →
          (k : Known) × (cond t (option_map owned_birth o) (cond (a && c) (option_map heard_birth o) None) ≡ Some k) × (k.bunch ≡ b.bunch)
      by t a c None e f told = cc
      by true a c (Some d) e f told = (owned_birth d, refl, ap (λ (z : Birth). z.bunch) (some_same e))
      by false true true (Some d) e f told = (heard_birth d, refl, ap (λ (z : Birth). z.bunch) (some_same e))
      by false true false (Some d) e f told = ⊎_elim (λ g. cc) (λ g. cc) told
      by false false c (Some d) e f told = cc

  birth_at : (x : ℕ) (b : Birth) → birth_of st x ≡ Some b → (0 < x) × (x ≤ length st.births)
  birth_at x b at =
      let p : (i : ℕ) × (slice_get st.births i ≡ Some b) × (b.name ≡ x) = birth_place st.births x b at in
      let name : b.name ≡ p.0 + 1 = opening.born.named p.0 b p.1 in
      let is : b.name ≡ x = p.2 in
      let less : p.0 < length st.births = is_within st.births p.0 b p.1 in
      (omega (arith, name, is), omega (arith, name, is, less))

  -- what a birth refers to is a birth of its bunch
  born_target : (y z : ℕ) (b : Birth) → birth_of st y ≡ Some b → holds (owned_birth b) z ≡ true → (c : Birth) × (birth_of st z ≡ Some c) × (c.bunch ≡ b.bunch)
  born_target y z b at h =
      let p : (i : ℕ) × (slice_get st.births i ≡ Some b) × (b.name ≡ y) = birth_place st.births y b at in
      let o : IsOfBunch st.births b.bunch z = opening.born.closed b z (is_there st.births p.0 b p.1) (born_refers b.fields z h) in
      let c : (c : Birth) × (birth_of st z ≡ Some c) × (slice_get st.births (z - 1) ≡ Some c) = named_birth z o.named o.there in
      (c.0, c.1, o.same c.0 c.2)

  pub first_whole : IsWhole st me 0 (first_linked st me)
  first_whole = record {
    stand = record {
      counted = λ x k e mine. count x k mine (born_so st me x k e);
      anchors = λ b less.
          let c : (c : Birth) × (birth_of st (anchor_of b) ≡ Some c) × (slice_get st.births (anchor_of b - 1) ≡ Some c) = named_birth (anchor_of b) (omega arith) (all_anchors b less) in
          let bunch : c.0.bunch ≡ b = (let index : anchor_of b - 1 ≡ b = omega arith in opening.born.first b c.0 less (subst (λ (i : ℕ). slice_get st.births i ≡ Some c.0) index c.2)) in
          let k : (k : Known) × (first_known st me (anchor_of b) ≡ Some k) × (k.bunch ≡ c.0.bunch) = known_of (anchor_of b) c.0 c.1 (inr (an_anchor b less)) in
          (k.0, k.1, k.2 ∙ bunch);
      registers = λ r x less e. cc;
      targets = λ y z j e h. target y z j h (born_so st me y j e);
      pairs = λ y z j k ey ez h apart. absurd (alone y z j k ez h apart (born_so st me y j ey));
    };
    few = made_few (me == 0);
    clock = refl;
  }
    where
      all_anchors : (b : ℕ) → b < bunches_of st.births → anchor_of b ≤ length st.births
      all_anchors b less = (let most : bunches_of st.births ≤ length st.births = opening.born.anchors in omega (arith, less, most))

      an_anchor : (b : ℕ) → b < bunches_of st.births → is_anchor st (anchor_of b) ≡ true
      an_anchor b less = grind (arith, nat_tests, less)

      made_few : (t : Bool) → cond t (length st.births) 0 ≤ length st.births + 0
      made_few true = omega arith
      made_few false = omega arith

      anchor_small : (x : ℕ) → is_anchor st x ≡ true → x ≤ bunches_of st.births
      anchor_small x e = by (nat_lt 0 x) (nat_le x (bunches_of st.births)) refl e
        where
          by : (a b : Bool) → nat_le x (bunches_of st.births) ≡ b → (a && b) ≡ true → x ≤ bunches_of st.births
          by true true is e = grind (arith, nat_tests, is)
          by true false is e = cc
          by false b is e = cc

      count : (x : ℕ) (k : Known) → maker x ≡ me → IsBorn st me x k → count_of x ≤ cond (me == 0) (length st.births) 0
      count x k mine (Owned b at here is) =
          let less : (0 < x) × (x ≤ length st.births) = birth_at x b at in
          let most : x ≤ length st.births = less.1 in
          subst (λ (t : Bool). count_of x ≤ cond t (length st.births) 0) (sym here) (omega (arith, most))
      count x k mine (Told b at here anchor is) =
          let most : x ≤ bunches_of st.births = anchor_small x anchor in
          let few : bunches_of st.births ≤ 16 = opening.born.bunches in
          let zeroth : maker x ≡ 0 = omega (arith, most, few) in
          absurd (clash (me == 0) (eqb_of (sym mine ∙ zeroth)) here)

      target : (y z : ℕ) (j : Known) → holds j z ≡ true → IsBorn st me y j → IsSome (first_known st me z)
      target y z j h (Owned b at here is) =
          let c : (c : Birth) × (birth_of st z ≡ Some c) × (c.bunch ≡ b.bunch) = born_target y z b at (ap (λ (i : Known). holds i z) (sym is) ∙ h) in
          let k : (k : Known) × (first_known st me z ≡ Some k) × (k.bunch ≡ c.0.bunch) = known_of z c.0 c.1 (inl here) in
          ap (λ (o : Option Known). is_some o) k.1
      target y z j h (Told b at here anchor is) = (let none : false ≡ true = ap (λ (i : Known). holds i z) (sym is) ∙ h in cc)

      alone : (y z : ℕ) (j k : Known) → first_known st me z ≡ Some k → holds j z ≡ true → j.bunch ≢ k.bunch → IsBorn st me y j → ⊥
      alone y z j k ez h apart (Owned b at here is) =
          let c : (c : Birth) × (birth_of st z ≡ Some c) × (c.bunch ≡ b.bunch) = born_target y z b at (ap (λ (i : Known). holds i z) (sym is) ∙ h) in
          let d : (k : Known) × (first_known st me z ≡ Some k) × (k.bunch ≡ c.0.bunch) = known_of z c.0 c.1 (inl here) in
          apart (ap (λ (i : Known). i.bunch) is ∙ sym c.2 ∙ sym d.2 ∙ ap (λ (i : Known). i.bunch) (some_same (sym d.1 ∙ ez)))
      alone y z j k ez h apart (Told b at here anchor is) = (let none : false ≡ true = ap (λ (i : Known). holds i z) (sym is) ∙ h in cc)

-- ## all nodes

abbrev pub AllWhole : Setting → (ℕ → LinkedNode) → List LinkedEvent → Type 0
AllWhole st nodes past = (k : ℕ) → k < st.nodes → IsWhole st k (count_by (λ (f : LinkedEvent). f.node == k) past) (nodes k)

count_more : (k a : ℕ) (past : List LinkedEvent) (e : LinkedEvent) →
    fold (λ c (f : LinkedEvent). c + cond (f.node == k) 1 0) a (past ++ e ∷ []) ≡ fold (λ c (f : LinkedEvent). c + cond (f.node == k) 1 0) a past + cond (e.node == k) 1 0
count_more k a [] e = refl
count_more k a (f ∷ past) e = count_more k (a + cond (f.node == k) 1 0) past e

pub event_whole : (st : Setting) (nodes : ℕ → LinkedNode) (past : List LinkedEvent) (e : LinkedEvent) (n : LinkedNode) → IsOpening st.nodes st.limit st.births → FitsLinked st past e →
    IsDeed st e.node (nodes e.node) e.stamp e.deed n → AllSafe nodes (tables_made past) → AllWhole st nodes past → AllWhole st (put nodes e.node n) (past ++ e ∷ [])
event_whole st nodes past e n opening fits step safe all k less =
    subst (λ (c : ℕ). IsWhole st k c (put nodes e.node n k)) (sym (count_more k 0 past e)) (by (two e.node k))
  where
    by : Two e.node k → IsWhole st k (count_by (λ (f : LinkedEvent). f.node == k) past + cond (e.node == k) 1 0) (put nodes e.node n k)
    by (Same same) =
        subst (λ (x : ℕ). IsWhole st x (count_by (λ (f : LinkedEvent). f.node == x) past + cond (e.node == x) 1 0) (put nodes e.node n x)) same
        (subst (λ (b : Bool). IsWhole st e.node (count_by (λ (f : LinkedEvent). f.node == e.node) past + cond b 1 0) (cond b n (nodes e.node))) (sym (eqb_of refl))
        (deed_whole st past e.node e.stamp (count_by (λ (f : LinkedEvent). f.node == e.node) past) (nodes e.node) n e.deed opening fits.few fits.deed step (safe e.node) (all e.node fits.a_node)))
    by (Apart apart other) =
        subst (λ (b : Bool). IsWhole st k (count_by (λ (f : LinkedEvent). f.node == k) past + cond b 1 0) (cond b n (nodes k))) (sym apart)
        (subst (λ (c : ℕ). IsWhole st k c (nodes k)) (plus_none (count_by (λ (f : LinkedEvent). f.node == k) past)) (all k less))
      where
        plus_none : (c : ℕ) → c ≡ c + 0
        plus_none c = omega arith

replay_whole : (st : Setting) (history : List LinkedEvent) → IsOpening st.nodes st.limit st.births → IsLegalLinked st history → (past rest : List LinkedEvent) (nodes last : ℕ → LinkedNode) →
    past ++ rest ≡ history → AllSafe nodes (tables_made past) → AllWhole st nodes past → ReplaysLinked st nodes rest last → AllSafe last (tables_made history) × AllWhole st last history
replay_whole st history opening legal past [] nodes last whole safe all r =
    subst (λ (h : List LinkedEvent). AllSafe last (tables_made h) × AllWhole st last h) (sym (append_nil past) ∙ whole)
    (subst (λ (f : ℕ → LinkedNode). AllSafe f (tables_made past) × AllWhole st f past) r (safe, all))
replay_whole st history opening legal past (e ∷ rest) nodes last whole safe all r =
    replay_whole st history opening legal (past ++ e ∷ []) rest (put nodes e.node r.0) last (joined past (e ∷ []) rest ∙ whole)
    (event_safe st nodes past e r.0 (legal.fits past rest e whole).deed r.1 safe)
    (event_whole st nodes past e r.0 opening (legal.fits past rest e whole) r.1 safe all) r.2

-- a reference is of a copy
from_refers : (s : NodeState) (y z : ℕ) → refers s y z ≡ true → (j : Known) × (s.known y ≡ Some j) × (holds j z ≡ true)
from_refers s y z e = by (s.known y) refl e
  where
    by : (o : Option Known) → s.known y ≡ o → option_map_or (λ (k : Known). option_map_or (list_any (is_reference_to z)) k.copy false) o false ≡ true →
        (j : Known) × (s.known y ≡ Some j) × (holds j z ≡ true)
    by None at e = cc
    by (Some j) at e = (j, at, e)

pub pairs_always_stand : PairsAlwaysStand
pairs_always_stand st history nodes opening legal r = record {
  entries = λ n y z less ref.
      let j : (j : Known) × ((nodes n).state.known y ≡ Some j) × (holds j z ≡ true) = from_refers (nodes n).state y z ref in
      (ends.1 n less).stand.targets y z j.0 j.1 j.2;
  pairs = λ n y z from to less ey ez apart ref.
      let j : (j : Known) × ((nodes n).state.known y ≡ Some j) × (holds j z ≡ true) = from_refers (nodes n).state y z ref in
      let is : j.0 ≡ from = some_same (sym j.1 ∙ ey) in
      let x : HasStub (nodes n).links.stubs y z from.bunch = (ends.1 n less).stand.pairs y z from to ey ez (ap (λ (i : Known). holds i z) (sym is) ∙ j.2) apart in
      let source : x.stub.source ≡ y = ap (λ (p : Pair). p.source) x.pair in
      let target : x.stub.target ≡ z = ap (λ (p : Pair). p.target) x.pair in
      record {
        stub = passes_found (λ s. is_same (stub_pair s) (record { source = y; target = z })) (nodes n).links.stubs x.stub x.there
            (ap (λ (p : Pair). is_same p (record { source = y; target = z })) x.pair ∙ is_same-itself (record { source = y; target = z }));
        scion = subst (λ (a : ℕ). IsSome (find_one scion_pair (nodes n).links.scions a z)) source
            (subst (λ (b : ℕ). IsSome (find_one scion_pair (nodes n).links.scions x.stub.source b)) target ((ends.0 n).answered x.stub x.there));
      };
}
  where
    ends : AllSafe nodes (tables_made history) × AllWhole st nodes history
    ends = replay_whole st history opening legal [] history (first_linked st) nodes refl (first_safe st) (λ k less. first_whole st opening k less) r
