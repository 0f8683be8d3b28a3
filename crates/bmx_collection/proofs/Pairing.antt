-- In every legal history each stub has its scion, and no table ends a scion whose stub stands.
use Rattle.std.proofs.Common.{◌≡◌, ℕ, ◌+◌, ◌<◌, ◌≤◌, ◌==◌, ◌&&◌, ◌||◌, ◌⊎◌, inl, inr, ⊎_elim, not, nat_le, Bool, true, false, cond, List, [], ◌∷◌, ◌++◌, map, filter, find, fold, Contains, IsSome, refl, ap, sym, ◌∙◌, subst, arith}
use Rattle.std.specs.Prelude.{Option, Some, None, is_some, IfSome}
use Rattle.std.specs.List.{cons_option}
use Rattle.std.proofs.lemmas.Bool.Decides.{nat_tests}
use Rattle.std.proofs.lemmas.List.Elements.{filter_map-append, Contains-append_cases}
use Rattle.bmx_types.specs.declared.names.Pair.{Pair}
use Rattle.bmx_types.specs.declared.commands.Refusal.TheVariants as refusal
use Rattle.bmx_types.specs.Updates.{put}
use Rattle.bmx_table.specs.declared.tables.Table.{Table}
use Rattle.bmx_table.specs.Tables.{own_alone}
use Rattle.bmx_inter.specs.declared.inter.Stub.{Stub}
use Rattle.bmx_inter.specs.declared.inter.Scion.{Scion}
use Rattle.bmx_inter.specs.Order.{is_ahead, is_same, is_listed, find_one, with_one}
use Rattle.bmx_inter.specs.Inter.{stub_pair, scion_pair, stubs_with, scions_with, scion_of, is_stale}
use Rattle.bmx_inter.proofs.Keys.{is_same-true, is_same-itself, is_same-ahead, is_same-behind}
use Rattle.bmx_inter.proofs.Found.{find_one-with_one, find_one-with_other}
use Rattle.bmx_clean.specs.Cleaning.{is_early, ends_scion, scions_left}
use Rattle.bmx_protocol.specs.Nodes.{Setting, NodeState}
use Rattle.bmx_protocol.specs.Changes.{Change, Sets, Makes, Knows, Hears, Gives, Gets, Issues, Takes, after_change, after_changes}
use Rattle.bmx_protocol.specs.Steps.{rule, changes_of}
use Rattle.bmx_protocol.proofs.Basics.{eqb_of, Two, Same, Apart, two}
use Rattle.bmx_collection.specs.Links.{Links, with_pair, pairs_of, links_after}
use Rattle.bmx_collection.specs.Forgetting.{links_kept}
use Rattle.bmx_collection.specs.Tables.{pairs_out_of, table_of, links_cleaned}
use Rattle.bmx_collection.specs.ToSpaces.{is_too_large}
use Rattle.bmx_collection.specs.Tables.{is_stray_table}
use Rattle.bmx_collection.specs.Steps.{LinkedNode, first_linked, CollectorInput, Collect, Sweep, MakeTable, TakeTable, CollectorTold, CollectorReaction, Refused, Stray, CollectorDone, unchanged, collector_rule}
use Rattle.bmx_collection.specs.Histories.{Deed, Plain, Collector, LinkedEvent, table_made, tables_made, table_taken, IsTableOf, FitsDeed, IsDeed, ReplaysLinked, IsLegalLinked}
use Rattle.bmx_collection.specs.Laws.{ScionsAreSafe, StubsAreAnswered}
use Rattle.bmx_collection.proofs.Listing.{clash, append_nil, nothing_in, first_of, behind, one_of, from_filter, in_filter}
use Rattle.bmx_collection.proofs.Replayed.{joined}

-- ## lists with one of each pair

module _ {X : Type 0} (pair_of : X → Pair) where
  -- what stands with one more is it, or stood before and is of another pair
  in_with_one : (x : X) (xs : List X) (y : X) → Contains (with_one pair_of x xs) y → (y ≡ x) ⊎ (Contains xs y × (is_same (pair_of x) (pair_of y) ≡ false))
  in_with_one x xs y c = ⊎_elim
      (λ front. let it : Contains xs y × (is_ahead (pair_of y) (pair_of x) ≡ true) = from_filter (λ z. is_ahead (pair_of z) (pair_of x)) xs y front in
      inr (it.0, is_same-behind (pair_of x) (pair_of y) it.1))
      (λ rest. ⊎_elim
      (λ here. inl (sym here))
      (λ back. let it : Contains xs y × (is_ahead (pair_of x) (pair_of y) ≡ true) = from_filter (λ z. is_ahead (pair_of x) (pair_of z)) xs y back in
      inr (it.0, is_same-ahead (pair_of x) (pair_of y) it.1))
      (one_of x y (filter (λ z. is_ahead (pair_of x) (pair_of z)) xs) rest))
      (Contains-append_cases (filter (λ z. is_ahead (pair_of z) (pair_of x)) xs) (x ∷ filter (λ z. is_ahead (pair_of x) (pair_of z)) xs) y c)

-- what passes is found, and what is found passes
pub passes_found : {X : Type 0} (p : X → Bool) (xs : List X) (x : X) → Contains xs x → p x ≡ true → IsSome (find p xs)
passes_found p [] x c e = absurd (nothing_in x c)
passes_found p (y ∷ xs) x c e = by (p y) refl (λ there. passes_found p xs x there e)
  where
    by : (b : Bool) → p y ≡ b → (Contains xs x → IsSome (find p xs)) → IsSome (cond b (Some y) (find p xs))
    by true is rest = refl
    by false is rest = ⊎_elim
        (λ here. absurd (clash (p x) e (sym (ap p here) ∙ is)))
        rest
        (one_of y x xs c)

pub found_passes : {X : Type 0} (p : X → Bool) (xs : List X) → IsSome (find p xs) → (x : X) × Contains xs x × (p x ≡ true)
found_passes p [] e = cc
found_passes p (y ∷ xs) e = by (p y) refl e (found_passes p xs)
  where
    by : (b : Bool) → p y ≡ b → IsSome (cond b (Some y) (find p xs)) → (IsSome (find p xs) → (x : _) × Contains xs x × (p x ≡ true)) →
        (x : _) × Contains (y ∷ xs) x × (p x ≡ true)
    by true is e rest = (y, first_of y xs, is)
    by false is e rest = (let it : (x : _) × Contains xs x × (p x ≡ true) = rest e in (it.0, behind y it.0 xs it.1, it.2))

-- ## a node

-- of a node with so many steps: its tables were made by then; none that it made for itself ends a scion whose stub
-- stands; a stub has its scion's bunch, and has one
pub record IsSafe (me clock : ℕ) (l : Links) (tables : List Table) : Type 0 where
  pub early : (t : Table) → Contains tables t → t.from ≡ me → t.clock ≤ clock
  pub safe : (t : Table) (q : Scion) (s : Stub) → Contains tables t → t.from ≡ me → t.to ≡ me → Contains l.scions q → Contains l.stubs s →
      stub_pair s ≡ scion_pair q → is_stale t.bunch t.clock t.stubs q ≡ false
  pub alike : (q : Scion) (s : Stub) → Contains l.scions q → Contains l.stubs s → stub_pair s ≡ scion_pair q → s.bunch ≡ q.bunch
  pub answered : (s : Stub) → Contains l.stubs s → IsSome (find_one scion_pair l.scions s.source s.target)

-- a scion that was stored later isn't stale
later_stays : (bunch clock : ℕ) (listed : List Pair) (q : Scion) → clock < q.clock → is_stale bunch clock listed q ≡ false
later_stays bunch clock listed q less =
    let e : nat_le q.clock clock ≡ false = grind (arith, nat_tests, less) in
    by (q.bunch == bunch) (nat_le q.clock clock) (not (is_listed listed (scion_pair q))) e
  where
    by : (a b c : Bool) → b ≡ false → ((a && b) && c) ≡ false
    by true false c e = refl
    by false b c e = refl
    by true true c e = cc

one_step_more : (me clock : ℕ) (l : Links) (tables : List Table) → IsSafe me clock l tables → IsSafe me (clock + 1) l tables
one_step_more me clock l tables k = record {
  early = λ t there from. (let before : t.clock ≤ clock = k.early t there from in omega (arith, before));
  safe = k.safe;
  alike = k.alike;
  answered = k.answered;
}

-- ## a pair more

pair_safe : (me clock : ℕ) (l : Links) (tables : List Table) (x : Stub) → IsSafe me clock l tables → IsSafe me clock (with_pair (clock + 1) l x) tables
pair_safe me clock l tables x k = record { early = k.early; safe = safe; alike = alike; answered = answered }
  where
    old_stub : (s : Stub) → Contains (stubs_with x.source x.bunch x.target l.stubs) s → (s ≡ x) ⊎ (Contains l.stubs s × (is_same (stub_pair x) (stub_pair s) ≡ false))
    old_stub s c = in_with_one stub_pair x l.stubs s c

    old_scion : (q : Scion) → Contains (scions_with x.source x.bunch x.target (clock + 1) l.scions) q →
        (q ≡ (scion_of x.source x.bunch x.target (clock + 1))) ⊎ (Contains l.scions q × (is_same (stub_pair x) (scion_pair q) ≡ false))
    old_scion q c = in_with_one scion_pair (scion_of x.source x.bunch x.target (clock + 1)) l.scions q c

    safe : (t : Table) (q : Scion) (s : Stub) → Contains tables t → t.from ≡ me → t.to ≡ me → Contains (with_pair (clock + 1) l x).scions q →
        Contains (with_pair (clock + 1) l x).stubs s → stub_pair s ≡ scion_pair q → is_stale t.bunch t.clock t.stubs q ≡ false
    safe t q s there from to cq cs same = ⊎_elim
        (λ new. let before : t.clock ≤ clock = k.early t there from in
        let less : t.clock < clock + 1 = omega (arith, before) in
        subst (λ (z : Scion). is_stale t.bunch t.clock t.stubs z ≡ false) (sym new) (later_stays t.bunch t.clock t.stubs (scion_of x.source x.bunch x.target (clock + 1)) less))
        (λ old. ⊎_elim
        (λ new. absurd (clash (is_same (stub_pair x) (scion_pair q))
        (ap (λ (z : Pair). is_same (stub_pair x) z) (sym same ∙ ap stub_pair new) ∙ is_same-itself (stub_pair x)) old.1))
        (λ older. k.safe t q s there from to old.0 older.0 same)
        (old_stub s cs))
        (old_scion q cq)

    alike : (q : Scion) (s : Stub) → Contains (with_pair (clock + 1) l x).scions q → Contains (with_pair (clock + 1) l x).stubs s → stub_pair s ≡ scion_pair q → s.bunch ≡ q.bunch
    alike q s cq cs same = ⊎_elim
        (λ new. ⊎_elim
        (λ newer. ap (λ (z : Stub). z.bunch) newer ∙ sym (ap (λ (z : Scion). z.bunch) new))
        (λ older. absurd (clash (is_same (stub_pair x) (stub_pair s))
        (ap (λ (z : Pair). is_same (stub_pair x) z) (same ∙ ap scion_pair new) ∙ is_same-itself (stub_pair x)) older.1))
        (old_stub s cs))
        (λ old. ⊎_elim
        (λ newer. absurd (clash (is_same (stub_pair x) (scion_pair q))
        (ap (λ (z : Pair). is_same (stub_pair x) z) (sym same ∙ ap stub_pair newer) ∙ is_same-itself (stub_pair x)) old.1))
        (λ older. k.alike q s old.0 older.0 same)
        (old_stub s cs))
        (old_scion q cq)

    answered : (s : Stub) → Contains (with_pair (clock + 1) l x).stubs s → IsSome (find_one scion_pair (with_pair (clock + 1) l x).scions s.source s.target)
    answered s cs = ⊎_elim
        (λ new. subst (λ (z : Stub). IsSome (find_one scion_pair (with_pair (clock + 1) l x).scions z.source z.target)) (sym new)
        (ap (λ (o : Option Scion). is_some o) (find_one-with_one scion_pair (scion_of x.source x.bunch x.target (clock + 1)) l.scions)))
        (λ older. ap (λ (o : Option Scion). is_some o) (find_one-with_other scion_pair (scion_of x.source x.bunch x.target (clock + 1)) l.scions (stub_pair s) older.1) ∙ k.answered s older.0)
        (old_stub s cs)

pairs_safe : (me clock : ℕ) (tables : List Table) (xs : List Stub) (l : Links) → IsSafe me clock l tables → IsSafe me clock (fold (with_pair (clock + 1)) l xs) tables
pairs_safe me clock tables [] l k = k
pairs_safe me clock tables (x ∷ xs) l k = pairs_safe me clock tables xs (with_pair (clock + 1) l x) (pair_safe me clock l tables x k)

-- ## a collector

kept_safe : (me clock bunch : ℕ) (kept : List ℕ) (s : NodeState) (l : Links) (tables : List Table) → IsSafe me clock l tables → IsSafe me clock (links_kept bunch kept s l) tables
kept_safe me clock bunch kept s l tables k = record {
  early = k.early;
  safe = λ t q x there from to cq cs same. k.safe t q x there from to cq (from_filter _ l.stubs x cs).0 same;
  alike = λ q x cq cs same. k.alike q x cq (from_filter _ l.stubs x cs).0 same;
  answered = λ x cs. k.answered x (from_filter _ l.stubs x cs).0;
}

-- a table that the node made ends no scion whose stub stands
ends_none : (me clock taken : ℕ) (l : Links) (tables : List Table) (t : Table) (q : Scion) (x : Stub) → IsSafe me clock l tables → Contains tables t → t.to ≡ me →
    Contains l.scions q → Contains l.stubs x → stub_pair x ≡ scion_pair q → ends_scion taken t q ≡ false
ends_none me clock taken l tables t q x k there to cq cs same = by (two t.from t.to)
  where
    none : (a b c : Bool) → (b ≡ false) ⊎ (c ≡ false) → (a && (b && c)) ≡ false
    none true true c e = ⊎_elim (λ f. cc) (λ f. f) e
    none true false c e = refl
    none false b c e = refl

    by : Two t.from t.to → ends_scion taken t q ≡ false
    by (Same e) = none (not (is_early taken t)) (t.from == t.to) (is_stale t.bunch t.clock t.stubs q) (inr (k.safe t q x there (e ∙ to) to cq cs same))
    by (Apart e differ) = none (not (is_early taken t)) (t.from == t.to) (is_stale t.bunch t.clock t.stubs q) (inl e)

cleaned_safe : (me clock : ℕ) (s : NodeState) (l : Links) (tables : List Table) (t : Table) → Contains tables t → t.to ≡ me → IsSafe me clock l tables →
    IsSafe me clock (links_cleaned t s l) tables
cleaned_safe me clock s l tables t there to k = record {
  early = k.early;
  safe = λ u q x was from at cq cs same. k.safe u q x was from at (from_filter _ l.scions q cq).0 cs same;
  alike = λ q x cq cs same. k.alike q x (from_filter _ l.scions q cq).0 cs same;
  answered = λ x cs.
      let is_it : Scion → Bool = λ q. is_same (scion_pair q) (stub_pair x) in
      let found : (q : Scion) × Contains l.scions q × (is_same (scion_pair q) (stub_pair x) ≡ true) = found_passes is_it l.scions (k.answered x cs) in
      let same : scion_pair found.0 ≡ stub_pair x = is_same-true (scion_pair found.0) (stub_pair x) found.2 in
      let stays : not (ends_scion (s.taken t.from) t found.0) ≡ true =
      ap not (ends_none me clock (s.taken t.from) l tables t found.0 x k there to found.1 cs (sym same)) in
      passes_found is_it (scions_left (s.taken t.from) t l.scions) found.0
      (in_filter (λ q. not (ends_scion (s.taken t.from) t q)) l.scions found.0 found.1 stays) found.2;
}

-- the pair of a stub of the bunch is listed
listed_pair : (bunch : ℕ) (stubs : List Stub) (x : Stub) → Contains stubs x → x.bunch ≡ bunch → is_listed (map stub_pair (filter (λ s. s.bunch == bunch) stubs)) (stub_pair x) ≡ true
listed_pair bunch stubs x c same = there (filter (λ s. s.bunch == bunch) stubs) (in_filter (λ s. s.bunch == bunch) stubs x c (eqb_of same))
  where
    there : (ys : List Stub) → Contains ys x → is_listed (map stub_pair ys) (stub_pair x) ≡ true
    there [] c = absurd (nothing_in x c)
    there (y ∷ ys) c = ⊎_elim
        (λ here. first (is_same (stub_pair y) (stub_pair x)) (is_listed (map stub_pair ys) (stub_pair x)) (ap (λ (z : Stub). is_same (stub_pair z) (stub_pair x)) here ∙ is_same-itself (stub_pair x)))
        (λ rest. later (is_same (stub_pair y) (stub_pair x)) (is_listed (map stub_pair ys) (stub_pair x)) (there ys rest))
        (one_of y x ys c)
      where
        first : (b r : Bool) → b ≡ true → (b || r) ≡ true
        first true r e = refl
        first false r e = cc

        later : (b r : Bool) → r ≡ true → (b || r) ≡ true
        later true r e = refl
        later false r e = e

table_safe : (me stamp bunch to : ℕ) (children : List ℕ) (s : NodeState) (l : Links) (tables : List Table) → IsSafe me s.clock l tables →
    IsSafe me (s.clock + 1) l (tables ++ table_of me s l stamp bunch to children ∷ [])
table_safe me stamp bunch to children s l tables k = record {
  early = λ t there from. ⊎_elim
      (λ old. let before : t.clock ≤ s.clock = k.early t old from in omega (arith, before))
      (λ new. subst (λ (u : Table). u.clock ≤ s.clock + 1) (is_new t new) (omega arith))
      (Contains-append_cases tables (table_of me s l stamp bunch to children ∷ []) t there);
  safe = λ t q x there from at cq cs same. ⊎_elim
      (λ old. k.safe t q x old from at cq cs same)
      (λ new. let is : table_of me s l stamp bunch to children ≡ t = is_new t new in
      subst (λ (u : Table). is_stale u.bunch u.clock u.stubs q ≡ false) is (by q x cq cs same (ap (λ (u : Table). u.to) is ∙ at)))
      (Contains-append_cases tables (table_of me s l stamp bunch to children ∷ []) t there);
  alike = k.alike;
  answered = k.answered;
}
  where
    is_new : (t : Table) → Contains (table_of me s l stamp bunch to children ∷ []) t → table_of me s l stamp bunch to children ≡ t
    is_new t c = ⊎_elim (λ same. same) (λ none. absurd (nothing_in t none)) (one_of (table_of me s l stamp bunch to children) t [] c)

    last_no : (a b : Bool) → b ≡ true → (a && not b) ≡ false
    last_no true true e = refl
    last_no false b e = refl
    last_no true false e = cc

    first_no : (a b c : Bool) → a ≡ false → ((a && b) && c) ≡ false
    first_no false b c e = refl
    first_no true b c e = cc

    by : (q : Scion) (x : Stub) → Contains l.scions q → Contains l.stubs x → stub_pair x ≡ scion_pair q → to ≡ me → is_stale bunch (s.clock + 1) (table_of me s l stamp bunch to children).stubs q ≡ false
    by q x cq cs same at = here (two q.bunch bunch)
      where
        own : own_alone me to (pairs_out_of bunch l) ≡ pairs_out_of bunch l
        own = ap (λ (b : Bool). cond b (pairs_out_of bunch l) []) (eqb_of (sym at))

        here : Two q.bunch bunch → is_stale bunch (s.clock + 1) (table_of me s l stamp bunch to children).stubs q ≡ false
        here (Apart e differ) = first_no (q.bunch == bunch) (nat_le q.clock (s.clock + 1)) (not (is_listed (table_of me s l stamp bunch to children).stubs (scion_pair q))) e
        here (Same e) =
            let listed : is_listed (pairs_out_of bunch l) (stub_pair x) ≡ true = listed_pair bunch l.stubs x cs (k.alike q x cq cs same ∙ e) in
            last_no (q.bunch == bunch && nat_le q.clock (s.clock + 1)) (is_listed (table_of me s l stamp bunch to children).stubs (scion_pair q))
            (ap (λ (ps : List Pair). is_listed ps (scion_pair q)) own ∙ ap (is_listed (pairs_out_of bunch l)) (sym same) ∙ listed)

-- ## a step

-- a node after a step that made a table or none
abbrev SafeAfter : ℕ → List Table → CollectorReaction → Type 0
SafeAfter me tables r = IsSafe me (r.node.state.clock + 1) r.node.links (tables ++ cons_option r.table [])

nothing_more : (me clock : ℕ) (l : Links) (tables : List Table) → IsSafe me clock l tables → IsSafe me clock l (tables ++ [])
nothing_more me clock l tables k = subst (IsSafe me clock l) (sym (append_nil tables)) k

either_safe : (me : ℕ) (tables : List Table) (b : Bool) (r q : CollectorReaction) → SafeAfter me tables r → SafeAfter me tables q → SafeAfter me tables (cond b r q)
either_safe me tables true r q x y = x
either_safe me tables false r q x y = y

rule_safe : (st : Setting) (me stamp : ℕ) (n : LinkedNode) (told : CollectorTold) (i : CollectorInput) (tables : List Table) (d : CollectorDone) →
    IfSome (table_taken (Collector i d)) (λ t. Contains tables t × (t.to ≡ me)) → IsSafe me n.state.clock n.links tables → SafeAfter me tables (collector_rule st me n told stamp i)
rule_safe st me stamp n told (Collect bunch) tables d taken k =
    either_safe me tables (is_too_large st.limit n.state n.places told.owned) (unchanged n (Refused refusal.Full)) _
    (nothing_more me (n.state.clock + 1) n.links tables (one_step_more me n.state.clock n.links tables k))
    (nothing_more me (n.state.clock + 1) (links_kept bunch told.kept n.state n.links) tables
    (one_step_more me n.state.clock (links_kept bunch told.kept n.state n.links) tables (kept_safe me n.state.clock bunch told.kept n.state n.links tables k)))
rule_safe st me stamp n told Sweep tables d taken k =
    nothing_more me (n.state.clock + 1) n.links tables (one_step_more me n.state.clock n.links tables k)
rule_safe st me stamp n told (MakeTable bunch to) tables d taken k =
    (let it : IsSafe me (n.state.clock + 1) n.links (tables ++ table_of me n.state n.links stamp bunch to told.children ∷ []) =
    table_safe me stamp bunch to told.children n.state n.links tables k in
    record { early = it.early; safe = it.safe; alike = it.alike; answered = it.answered })
rule_safe st me stamp n told (TakeTable t) tables d taken k =
    either_safe me tables (is_stray_table st me t) (unchanged n Stray) _
    (nothing_more me (n.state.clock + 1) n.links tables (one_step_more me n.state.clock n.links tables k))
    (nothing_more me (n.state.clock + 1) (links_cleaned t n.state n.links) tables
    (one_step_more me n.state.clock (links_cleaned t n.state n.links) tables (cleaned_safe me n.state.clock n.state n.links tables t taken.0 taken.1 k)))

pub clock_after : (cs : List Change) (s : NodeState) → (after_changes s cs).clock ≡ s.clock
clock_after [] s = refl
clock_after (c ∷ cs) s = clock_after cs (after_change s c) ∙ one c
  where
    one : (c : Change) → (after_change s c).clock ≡ s.clock
    one (Sets register v) = refl
    one Makes = refl
    one (Knows name k) = refl
    one (Hears from info) = refl
    one (Gives name to seq) = refl
    one (Gets name from seq) = refl
    one (Issues to) = refl
    one (Takes from) = refl

-- a deed leaves its node safe, with the table that it made
deed_safe : (st : Setting) (past : List LinkedEvent) (me stamp : ℕ) (n m : LinkedNode) (d : Deed) → FitsDeed st past me stamp d → IsDeed st me n stamp d m →
    IsSafe me n.state.clock n.links (tables_made past) → IsSafe me m.state.clock m.links (tables_made past ++ cons_option (table_made d) [])
deed_safe st past me stamp n m (Plain i d) fits step k =
    let clock : m.state.clock ≡ n.state.clock + 1 =
    ap (λ (s : NodeState). s.clock) step.step.state
    ∙ ap (λ (c : ℕ). c + 1) (clock_after (changes_of stamp n.state (rule st me n.state step.step.told i)) n.state) in
    nothing_more me m.state.clock m.links (tables_made past)
    (subst (λ (c : ℕ). IsSafe me c m.links (tables_made past)) (sym clock) (subst (λ (l : Links). IsSafe me (n.state.clock + 1) l (tables_made past)) (sym step.links)
    (one_step_more me n.state.clock (links_after me n.state n.links i d.answer) (tables_made past) (pairs_safe me n.state.clock (tables_made past) (pairs_of me n.state i d.answer) n.links k))))
deed_safe st past me stamp n m (Collector i d) fits step k =
    let r : CollectorReaction = collector_rule st me n step.told stamp i in
    let after : SafeAfter me (tables_made past) r = rule_safe st me stamp n step.told i (tables_made past) d (may_take (table_taken (Collector i d)) fits.table) k in
    subst (λ (x : LinkedNode). IsSafe me x.state.clock x.links (tables_made past ++ cons_option d.table [])) (sym step.node)
    (subst (λ (x : CollectorDone). IsSafe me (r.node.state.clock + 1) r.node.links (tables_made past ++ cons_option x.table [])) (sym step.outcome) after)
  where
    may_take : (o : Option Table) → IfSome o (IsTableOf past me stamp) → IfSome o (λ t. Contains (tables_made past) t × (t.to ≡ me))
    may_take None h = tt
    may_take (Some t) h = (h.made, h.here)

-- a table of another node changes nothing of what holds here
other_safe : (me clock : ℕ) (l : Links) (tables : List Table) (o : Option Table) → IfSome o (λ t. t.from ≡ me → ⊥) → IsSafe me clock l tables → IsSafe me clock l (tables ++ cons_option o [])
other_safe me clock l tables None other k = nothing_more me clock l tables k
other_safe me clock l tables (Some made) other k = record {
  early = λ t there from. k.early t (old t there from) from;
  safe = λ t q x there from at cq cs same. k.safe t q x (old t there from) from at cq cs same;
  alike = k.alike;
  answered = k.answered;
}
  where
    old : (t : Table) → Contains (tables ++ made ∷ []) t → t.from ≡ me → Contains tables t
    old t there from = ⊎_elim
        (λ was. was)
        (λ new. ⊎_elim (λ same. absurd (other (ap (λ (u : Table). u.from) same ∙ from))) (λ none. absurd (nothing_in t none)) (one_of made t [] new))
        (Contains-append_cases tables (made ∷ []) t there)

-- a table is made by the node of its event
by_its_maker : (st : Setting) (me stamp : ℕ) (n m : LinkedNode) (d : Deed) → IsDeed st me n stamp d m → IfSome (table_made d) (λ t. t.from ≡ me)
by_its_maker st me stamp n m (Plain i d) step = tt
by_its_maker st me stamp n m (Collector i d) step =
    subst (λ (x : CollectorDone). IfSome x.table (λ t. t.from ≡ me)) (sym step.outcome) (by i)
  where
    one : (b : Bool) (r q : CollectorReaction) → IfSome r.table (λ t. t.from ≡ me) → IfSome q.table (λ t. t.from ≡ me) → IfSome (cond b r q).table (λ t. t.from ≡ me)
    one true r q x y = x
    one false r q x y = y

    by : (i : CollectorInput) → IfSome (collector_rule st me n step.told stamp i).table (λ t. t.from ≡ me)
    by (Collect bunch) = one (is_too_large st.limit n.state n.places step.told.owned) (unchanged n (Refused refusal.Full)) _ tt tt
    by Sweep = tt
    by (MakeTable bunch to) = refl
    by (TakeTable t) = one (is_stray_table st me t) (unchanged n Stray) _ tt tt

-- ## all nodes

abbrev pub AllSafe : (ℕ → LinkedNode) → List Table → Type 0
AllSafe nodes tables = (k : ℕ) → IsSafe k (nodes k).state.clock (nodes k).links tables

pub tables_one_more : (past : List LinkedEvent) (e : LinkedEvent) → tables_made (past ++ e ∷ []) ≡ tables_made past ++ cons_option (table_made e.deed) []
tables_one_more past e = filter_map-append (λ (f : LinkedEvent). table_made f.deed) past (e ∷ [])

pub event_safe : (st : Setting) (nodes : ℕ → LinkedNode) (past : List LinkedEvent) (e : LinkedEvent) (n : LinkedNode) → FitsDeed st past e.node e.stamp e.deed →
    IsDeed st e.node (nodes e.node) e.stamp e.deed n → AllSafe nodes (tables_made past) → AllSafe (put nodes e.node n) (tables_made (past ++ e ∷ []))
event_safe st nodes past e n fits step all k =
    subst (IsSafe k (put nodes e.node n k).state.clock (put nodes e.node n k).links) (sym (tables_one_more past e)) (by (two e.node k))
  where
    by : Two e.node k → IsSafe k (put nodes e.node n k).state.clock (put nodes e.node n k).links (tables_made past ++ cons_option (table_made e.deed) [])
    by (Same same) = subst (λ (x : ℕ). IsSafe x (put nodes e.node n x).state.clock (put nodes e.node n x).links (tables_made past ++ cons_option (table_made e.deed) [])) same
        (subst (λ (b : Bool). IsSafe e.node (cond b n (nodes e.node)).state.clock (cond b n (nodes e.node)).links (tables_made past ++ cons_option (table_made e.deed) [])) (sym (eqb_of refl))
        (deed_safe st past e.node e.stamp (nodes e.node) n e.deed fits step (all e.node)))
    by (Apart apart other) =
        subst (λ (b : Bool). IsSafe k (cond b n (nodes k)).state.clock (cond b n (nodes k)).links (tables_made past ++ cons_option (table_made e.deed) [])) (sym apart)
        (other_safe k (nodes k).state.clock (nodes k).links (tables_made past) (table_made e.deed) (not_mine (table_made e.deed) (by_its_maker st e.node e.stamp (nodes e.node) n e.deed step)) (all k))
      where
        not_mine : (o : Option Table) → IfSome o (λ t. t.from ≡ e.node) → IfSome o (λ t. t.from ≡ k → ⊥)
        not_mine None h = tt
        not_mine (Some t) h = λ from. other (sym h ∙ from)

replay_safe : (st : Setting) (history : List LinkedEvent) → IsLegalLinked st history → (past rest : List LinkedEvent) (nodes last : ℕ → LinkedNode) → past ++ rest ≡ history →
    AllSafe nodes (tables_made past) → ReplaysLinked st nodes rest last → AllSafe last (tables_made history)
replay_safe st history legal past [] nodes last whole all r =
    subst (λ (h : List LinkedEvent). AllSafe last (tables_made h)) (sym (append_nil past) ∙ whole) (subst (λ (f : ℕ → LinkedNode). AllSafe f (tables_made past)) r all)
replay_safe st history legal past (e ∷ rest) nodes last whole all r =
    replay_safe st history legal (past ++ e ∷ []) rest (put nodes e.node r.0) last (joined past (e ∷ []) rest ∙ whole)
    (event_safe st nodes past e r.0 (legal.fits past rest e whole).deed r.1 all) r.2

pub first_safe : (st : Setting) → AllSafe (first_linked st) []
first_safe st k = record {
  early = λ t there from. absurd (nothing_in t there);
  safe = λ t q x there from at cq cs same. absurd (nothing_in t there);
  alike = λ q x cq cs same. absurd (nothing_in q cq);
  answered = λ x cs. absurd (nothing_in x cs);
}

always_safe : (st : Setting) (history : List LinkedEvent) (nodes : ℕ → LinkedNode) → IsLegalLinked st history → ReplaysLinked st (first_linked st) history nodes →
    AllSafe nodes (tables_made history)
always_safe st history nodes legal r = replay_safe st history legal [] history (first_linked st) nodes refl (first_safe st) r

pub scions_are_safe : ScionsAreSafe
scions_are_safe st history nodes legal r t there c at stands =
    let k : IsSafe t.to (nodes t.to).state.clock (nodes t.to).links (tables_made history) = always_safe st history nodes legal r t.to in
    let s : (s : Stub) × Contains (nodes t.to).links.stubs s × (is_same (stub_pair s) (scion_pair c) ≡ true) =
    found_passes (λ s. is_same (stub_pair s) (scion_pair c)) (nodes t.to).links.stubs stands in
    ends_none t.to (nodes t.to).state.clock ((nodes t.to).state.taken t.from) (nodes t.to).links (tables_made history) t c s.0 k there refl at s.1
    (is_same-true (stub_pair s.0) (scion_pair c) s.2)

pub stubs_are_answered : StubsAreAnswered
stubs_are_answered st history nodes legal r n s there = (always_safe st history nodes legal r n).answered s there
