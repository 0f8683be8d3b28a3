-- What is found by looking at all names and segments of a node is what a collector's step is to be told.
use Rattle.std.proofs.Common.{◌≡◌, ℕ, zero, suc, ◌+◌, ◌^◌, ◌<◌, ◌≤◌, ◌==◌, ◌&&◌, ◌||◌, ◌⊎◌, inl, inr, ⊎_elim, not, nat_lt, Bool, true, false, List, [], ◌∷◌, length, map, filter, filter_map, slice_index_or, AllPairs, Contains, refl, ap, sym, ◌∙◌, subst, arith}
use Rattle.std.specs.Prelude.{Option, Some, None, is_some}
use Rattle.std.proofs.lemmas.List.Elements.{All-contains_itself}
use Rattle.std.proofs.lemmas.List.Kept.{AllPairs-filter}
use Rattle.std.specs.Option.{option_map_or}
use Rattle.std.specs.List.{list_any}
use Rattle.std.specs.List.Sorted.{IsStrictlyIncreasing}
use Rattle.std.proofs.lemmas.Bool.Decides.{nat_tests}
use Rattle.bmx_types.specs.Words.{anchor_of, address_word, home_of, segment_of}
use Rattle.bmx_types.specs.declared.values.Val.{Val}
use Rattle.bmx_types.specs.declared.values.Val.TheVariants as val
use Rattle.bmx_owner.specs.declared.entering.Record.{Record}
use Rattle.bmx_owner.specs.Records.{is_listed, is_of, is_ahead, IsBefore, IsInOrder, find_record}
use Rattle.bmx_inter.specs.declared.inter.Scion.{Scion}
use Rattle.bmx_protocol.specs.Nodes.{NodeState, Known, AreAll}
use Rattle.bmx_protocol.specs.Places.{Places, any_below}
use Rattle.bmx_collection.specs.Links.{Links}
use Rattle.bmx_collection.specs.Reach.{is_known_as, is_entry, is_owned, is_child, is_busy, refers, IsRoot, InRegister, IsAnchor, IsBusy, IsRecorded, HasScion, IsReachedHere, Root, InField}
use Rattle.bmx_collection.specs.Forgetting.{goes}
use Rattle.bmx_collection.specs.Sweeps.{has_object, first_word, IsDropped}
use Rattle.bmx_collection.specs.Finding.{is_value_of, is_root, reached_in, below, records_below, is_dropped, first_words}
use Rattle.bmx_collection.specs.Laws.{IsRecordBelow, IsWithin, FoundIsTold}
use Rattle.bmx_collection.proofs.Rising.{listed, listed_there}
use Rattle.bmx_collection.proofs.Settling.{settles}
use Rattle.bmx_collection.proofs.Passing.{passing_rises, passes, passed, are_all, none_has}
use Rattle.bmx_collection.proofs.Listing.{both, clash, behind, in_flat, from_flat, flat_in_order, in_given, from_given, given_in_order, map_is_given, in_filter, from_filter, find_one_of, find_no, rises_by_pairs}

-- ## tests

pass_both : (a b : Bool) → a ≡ true → b ≡ true → (a && b) ≡ true
pass_both true b e f = f
pass_both false b e f = cc

one_passes : (a b : Bool) → (a || b) ≡ true → (a ≡ true) ⊎ (b ≡ true)
one_passes true b e = inl refl
one_passes false b e = inr e

pass_first : (a b : Bool) → a ≡ true → (a || b) ≡ true
pass_first true b e = refl
pass_first false b e = cc

pass_second : (a b : Bool) → b ≡ true → (a || b) ≡ true
pass_second true b e = refl
pass_second false b e = e

-- some number below n passes
some_below : (n : ℕ) (test : ℕ → Bool) → any_below n test ≡ true → (k : ℕ) × (k < n) × (test k ≡ true)
some_below zero test e = cc
some_below (suc n) test e =
    ⊎_elim (λ here. (n, omega arith, here))
    (λ rest. let k : (k : ℕ) × (k < n) × (test k ≡ true) = some_below n test rest in (let lt : k.0 < n = k.1 in (k.0, omega (arith, lt), k.2)))
    (one_passes (test n) (any_below n test) e)

below_some : (n : ℕ) (test : ℕ → Bool) (k : ℕ) → k < n → test k ≡ true → any_below n test ≡ true
below_some zero test k lt e = absurd (omega (arith, lt))
below_some (suc n) test k lt e = by (k == n) refl (below_some n test k)
  where
    by : (b : Bool) → (k == n) ≡ b → (k < n → test k ≡ true → any_below n test ≡ true) → (test n || any_below n test) ≡ true
    by true is rest = (let same : k ≡ n = grind (arith, nat_tests, is) in pass_first (test n) (any_below n test) (ap test (sym same) ∙ e))
    by false is rest = (let less : k < n = grind (arith, nat_tests, is) in pass_second (test n) (any_below n test) (rest less e))

-- some element passes
some_in : {X : Type 0} (test : X → Bool) (xs : List X) → list_any test xs ≡ true → (x : X) × Contains xs x × (test x ≡ true)
some_in test [] e = cc
some_in test (x ∷ xs) e =
    ⊎_elim (λ here. (x, (0, omega arith, refl), here))
    (λ rest. let it : (y : _) × Contains xs y × (test y ≡ true) = some_in test xs rest in
    (it.0, behind x it.0 xs it.1, it.2))
    (one_passes (test x) (list_any test xs) e)

in_some : {X : Type 0} (test : X → Bool) (xs : List X) (x : X) → Contains xs x → test x ≡ true → list_any test xs ≡ true
in_some test [] x (k, lt, is) e = absurd (omega (arith, lt))
in_some test (y ∷ ys) x (zero, lt, is) e = pass_first (test y) (list_any test ys) (ap test is ∙ e)
in_some test (y ∷ ys) x (suc k, lt, is) e = pass_second (test y) (list_any test ys) (in_some test ys x (k, omega (arith, lt), is) e)

-- what is known as something is known
known_so : (test : Known → Bool) (s : NodeState) (name : ℕ) → is_known_as test s name ≡ true → (k : Known) × (s.known name ≡ Some k) × (test k ≡ true)
known_so test s name e = by (s.known name) refl e
  where
    by : (o : Option Known) → s.known name ≡ o → option_map_or test o false ≡ true → (k : Known) × (s.known name ≡ Some k) × (test k ≡ true)
    by None is e = cc
    by (Some k) is e = (k, is, e)

known_as : (test : Known → Bool) (s : NodeState) (name : ℕ) (k : Known) → s.known name ≡ Some k → test k ≡ true → is_known_as test s name ≡ true
known_as test s name k is e = ap (λ (o : Option Known). option_map_or test o false) is ∙ e

module _ (n : ℕ) (s : NodeState) (within : IsWithin n s) where
  known_within : (test : Known → Bool) (name : ℕ) → is_known_as test s name ≡ true → name < n
  known_within test name e = (let k : (k : Known) × (s.known name ≡ Some k) × (test k ≡ true) = known_so test s name e in within.names name k.0 k.1)

-- ## roots

value_is : (name : ℕ) (v : Val) → is_value_of name v ≡ true → v ≡ val.Ref name
value_is name val.Null e = cc
value_is name (val.Int k) e = cc
value_is name (val.Ref other) e = (let same : other ≡ name = grind (arith, nat_tests, e) in ap val.Ref same)

is_value : (name : ℕ) (v : Val) → v ≡ val.Ref name → is_value_of name v ≡ true
is_value name v e = (let same : (name == name) ≡ true = grind (arith, nat_tests) in ap (is_value_of name) e ∙ same)

module _ (n : ℕ) (s : NodeState) (l : Links) (bunch : ℕ) where
  in_register : ℕ → Bool
  in_register name = any_below 16 (λ r. is_value_of name (s.register r))

  recorded : ℕ → Bool
  recorded name = any_below n (λ node. is_some (s.entering name node))

  targeted : ℕ → Bool
  targeted name = list_any (λ c. c.target == name) l.scions

  busy : ℕ → Bool
  busy name = is_known_as (λ k. is_busy k.part) s name

  record_in : (o : Option Record) → is_some o ≡ true → (r : Record) × (o ≡ Some r)
  record_in None e = cc
  record_in (Some r) e = (r, refl)

  is_anchor : ℕ → Bool
  is_anchor name = name == anchor_of bunch

  is_held : ℕ → Bool
  is_held name = in_register name || is_anchor name

  is_used : ℕ → Bool
  is_used name = is_held name || busy name

  is_told : ℕ → Bool
  is_told name = is_used name || recorded name

  root_found : (name : ℕ) → is_root n s l bunch name ≡ true → IsRoot s l bunch name
  unfolding in_register recorded targeted busy is_anchor is_held is_used is_told
  root_found name e =
      ⊎_elim
      (λ e. ⊎_elim
      (λ e. ⊎_elim
      (λ e. ⊎_elim
      (λ h. let r : (r : ℕ) × (r < 16) × (is_value_of name (s.register r) ≡ true) = some_below 16 (λ r. is_value_of name (s.register r)) h in
      InRegister r.0 r.1 (value_is name (s.register r.0) r.2))
      (λ h. let is : name ≡ anchor_of bunch = grind (arith, nat_tests, h) in IsAnchor is)
      (one_passes (in_register name) (is_anchor name) e))
      (λ h. let k : (k : Known) × (s.known name ≡ Some k) × (is_busy k.part ≡ true) = known_so (λ k. is_busy k.part) s name h in IsBusy k.0 k.1 k.2)
      (one_passes (is_held name) (busy name) e))
      (λ h. let m : (m : ℕ) × (m < n) × (is_some (s.entering name m) ≡ true) = some_below n (λ m. is_some (s.entering name m)) h in
      let r : (r : Record) × (s.entering name m.0 ≡ Some r) = record_in (s.entering name m.0) m.2 in IsRecorded m.0 r.0 r.1)
      (one_passes (is_used name) (recorded name) e))
      (λ h. let c : (c : Scion) × Contains l.scions c × ((c.target == name) ≡ true) = some_in (λ c. c.target == name) l.scions h in
      let here : (c.0.target == name) ≡ true = c.2 in
      let is : c.0.target ≡ name = grind (arith, nat_tests, here) in HasScion c.0 c.1 is)
      (one_passes (is_told name) (targeted name) e)

  -- one of the tests passes
  held_passes : (name : ℕ) → is_held name ≡ true → is_root n s l bunch name ≡ true
  unfolding in_register recorded targeted busy is_anchor is_held is_used is_told
  held_passes name h =
      pass_first (is_told name) (targeted name) (pass_first (is_used name) (recorded name) (pass_first (is_held name) (busy name) h))

  found_root : IsWithin n s → (name : ℕ) → IsRoot s l bunch name → is_root n s l bunch name ≡ true
  unfolding in_register recorded targeted busy is_anchor is_held is_used is_told
  found_root within name (InRegister r lt is) =
      held_passes name (pass_first (in_register name) (is_anchor name) (below_some 16 (λ r. is_value_of name (s.register r)) r lt (is_value name (s.register r) is)))
  found_root within name (IsAnchor is) =
      (let e : (name == anchor_of bunch) ≡ true = grind (arith, nat_tests, is) in held_passes name (pass_second (in_register name) (is_anchor name) e))
  found_root within name (IsBusy k is h) =
      pass_first (is_told name) (targeted name) (pass_first (is_used name) (recorded name) (pass_second (is_held name) (busy name)
      (known_as (λ k. is_busy k.part) s name k is h)))
  found_root within name (IsRecorded node r is) =
      pass_first (is_told name) (targeted name) (pass_second (is_used name) (recorded name)
      (below_some n (λ m. is_some (s.entering name m)) node (within.records name node r is).node_below (ap (λ (o : Option Record). is_some o) is)))
  found_root within name (HasScion c has is) =
      (let e : (c.target == name) ≡ true = grind (arith, nat_tests, is) in
      pass_second (is_told name) (targeted name) (in_some (λ c. c.target == name) l.scions c has e))

  -- ## reach

  -- what is found is reached
  sound : (steps name : ℕ) → Contains (reached_in steps n s l bunch) name → IsReachedHere s l bunch name
  sound zero name c =
      let e : (is_entry s bunch name ≡ true) × (is_root n s l bunch name ≡ true) =
      both (is_entry s bunch name) (is_root n s l bunch name) (passes (λ x. is_entry s bunch x && is_root n s l bunch x) 0 n name c) in
      Root e.0 (root_found name e.1)
  sound (suc steps) name c =
      let reached : List ℕ = reached_in steps n s l bunch in
      let e : (is_entry s bunch name ≡ true) × ((is_listed reached name || list_any (λ from. refers s from name) reached) ≡ true) =
      both (is_entry s bunch name) (is_listed reached name || list_any (λ from. refers s from name) reached)
      (passes (λ x. is_entry s bunch x && (is_listed reached x || list_any (λ from. refers s from x) reached)) 0 n name c) in
      ⊎_elim
      (λ h. sound steps name (listed_there reached name h))
      (λ h. let f : (f : ℕ) × Contains reached f × (refers s f name ≡ true) = some_in (λ from. refers s from name) reached h in
      InField f.0 e.0 (sound steps f.0 f.1) f.2)
      (one_passes (is_listed reached name) (list_any (λ from. refers s from name) reached) e.1)

  module _ (within : IsWithin n s) where
    entry_within : (name : ℕ) → is_entry s bunch name ≡ true → name < n
    entry_within name e = known_within n s within (λ k. k.bunch == bunch) name e

    -- a root is found at once, and what was found stays
    roots_in : (steps name : ℕ) → is_entry s bunch name ≡ true → IsRoot s l bunch name → Contains (reached_in steps n s l bunch) name
    roots_in zero name entry root =
        passed (λ x. is_entry s bunch x && is_root n s l bunch x) 0 n name (omega arith) (omega (arith, entry_within name entry))
        (pass_both (is_entry s bunch name) (is_root n s l bunch name) entry (found_root within name root))
    roots_in (suc steps) name entry root =
        let reached : List ℕ = reached_in steps n s l bunch in
        passed (λ x. is_entry s bunch x && (is_listed reached x || list_any (λ from. refers s from x) reached)) 0 n name
        (omega arith) (omega (arith, entry_within name entry))
        (pass_both (is_entry s bunch name) (is_listed reached name || list_any (λ from. refers s from name) reached) entry
        (pass_first (is_listed reached name) (list_any (λ from. refers s from name) reached) (listed reached name (roots_in steps name entry root))))

    next_in : (steps from name : ℕ) → is_entry s bunch name ≡ true → Contains (reached_in steps n s l bunch) from → refers s from name ≡ true →
        Contains (reached_in (suc steps) n s l bunch) name
    next_in steps from name entry c ref =
        let reached : List ℕ = reached_in steps n s l bunch in
        passed (λ x. is_entry s bunch x && (is_listed reached x || list_any (λ from. refers s from x) reached)) 0 n name
        (omega arith) (omega (arith, entry_within name entry))
        (pass_both (is_entry s bunch name) (is_listed reached name || list_any (λ from. refers s from name) reached) entry
        (pass_second (is_listed reached name) (list_any (λ from. refers s from name) reached) (in_some (λ from. refers s from name) reached from c ref)))

    -- so what is reached is found, where a step more finds nothing else
    complete : (steps : ℕ) → reached_in (suc steps) n s l bunch ≡ reached_in steps n s l bunch →
        (name : ℕ) → IsReachedHere s l bunch name → Contains (reached_in steps n s l bunch) name
    complete steps settled name (Root entry root) = roots_in steps name entry root
    complete steps settled name (InField from entry reached ref) =
        subst (λ (xs : List ℕ). Contains xs name) settled (next_in steps from name entry (complete steps settled from reached) ref)

    are_reached : (steps : ℕ) → reached_in (suc steps) n s l bunch ≡ reached_in steps n s l bunch → AreAll (IsReachedHere s l bunch) (reached_in steps n s l bunch)
    are_reached steps settled = record {
      rising = rises steps;
      all = λ name. (sound steps name, complete steps settled name);
    }
      where
        rises : (steps : ℕ) → IsStrictlyIncreasing (reached_in steps n s l bunch)
        rises zero = passing_rises (λ x. is_entry s bunch x && is_root n s l bunch x) 0 n
        rises (suc k) =
            passing_rises (λ x. is_entry s bunch x && (is_listed (reached_in k n s l bunch) x || list_any (λ from. refers s from x) (reached_in k n s l bunch))) 0 n

-- ## records

find_record_of : (n : ℕ) (s : NodeState) (within : IsWithin n s) (name node : ℕ) → find_record (records_below n s) name node ≡ s.entering name node
find_record_of n s within name node = by (s.entering name node) refl
  where
    -- a record that is listed is that of its name and node
    listed_is : (r : Record) → Contains (records_below n s) r → s.entering r.name r.from ≡ Some r
    listed_is r c =
        let a : (x : ℕ) × (0 ≤ x) × (x < 0 + n) × Contains (filter_map (s.entering x) (below n)) r = from_flat (λ x. filter_map (s.entering x) (below n)) 0 n r c in
        let b : (m : ℕ) × (0 ≤ m) × (m < 0 + n) × (s.entering a.0 m ≡ Some r) = from_given (s.entering a.0) 0 n r a.3 in
        let is : IsRecordBelow n a.0 b.0 r = within.records a.0 b.0 r b.3 in
        subst (λ (x : ℕ). s.entering x r.from ≡ Some r) (sym is.of_name) (subst (λ (m : ℕ). s.entering a.0 m ≡ Some r) (sym is.of_node) b.3)

    found_is : (r : Record) → Contains (records_below n s) r → is_of name node r ≡ true → s.entering name node ≡ Some r
    found_is r c pass =
        let both : ((r.name == name) ≡ true) × ((r.from == node) ≡ true) = both (r.name == name) (r.from == node) pass in
        let e : (r.name == name) ≡ true = both.0 in
        let f : (r.from == node) ≡ true = both.1 in
        let x : r.name ≡ name = grind (arith, nat_tests, e) in
        let m : r.from ≡ node = grind (arith, nat_tests, f) in
        subst (λ (x : ℕ). s.entering x node ≡ Some r) x (subst (λ (m : ℕ). s.entering r.name m ≡ Some r) m (listed_is r c))

    by : (o : Option Record) → s.entering name node ≡ o → find_record (records_below n s) name node ≡ o
    by None e = find_no (is_of name node) (records_below n s) (λ r c pass. none_is (sym e ∙ found_is r c pass))
      where
        none_is : {r : Record} → None ≡ Some r → ⊥
        none_is e = cc
    by (Some r) e =
        let is : IsRecordBelow n name node r = within.records name node r e in
        let nb : name < n = is.name_below in
        let mb : node < n = is.node_below in
        let name_is : (r.name == name) ≡ true = (let i : r.name ≡ name = is.of_name in grind (arith, nat_tests, i)) in
        let node_is : (r.from == node) ≡ true = (let i : r.from ≡ node = is.of_node in grind (arith, nat_tests, i)) in
        let there : Contains (records_below n s) r =
        in_flat (λ x. filter_map (s.entering x) (below n)) 0 n name r (omega arith) (omega (arith, nb))
        (in_given (s.entering name) 0 n node r (omega arith) (omega (arith, mb)) e) in
        find_one_of (is_of name node) (records_below n s) r there (pass_both (r.name == name) (r.from == node) name_is node_is)
        (λ q c pass. some_is (sym (found_is q c pass) ∙ e))
      where
        some_is : {q r : Record} → Some q ≡ Some r → q ≡ r
        some_is e = cc

records_in_order : (n : ℕ) (s : NodeState) → IsWithin n s → IsInOrder (records_below n s)
records_in_order n s within =
    flat_in_order (λ x. filter_map (s.entering x) (below n)) IsBefore
    (λ x. given_in_order (s.entering x) IsBefore (λ i j q r lt a b. by_node x i j q r lt (within.records x i q a) (within.records x j r b)) 0 n)
    (λ x y lt i d within_x i' d' within_y.
    by_name x y (slice_index_or (filter_map (s.entering x) (below n)) i d) (slice_index_or (filter_map (s.entering y) (below n)) i' d') lt
    (of_name x (slice_index_or (filter_map (s.entering x) (below n)) i d) (All-at x i d within_x))
    (of_name y (slice_index_or (filter_map (s.entering y) (below n)) i' d') (All-at y i' d' within_y)))
    0 n
  where
    by_node : (x i j : ℕ) (q r : Record) → i < j → IsRecordBelow n x i q → IsRecordBelow n x j r → is_ahead r.name r.from q ≡ true
    by_node x i j q r lt a b =
        let names : q.name ≡ r.name = a.of_name ∙ sym b.of_name in
        let less : q.from < r.from = (let f : q.from ≡ i = a.of_node in let g : r.from ≡ j = b.of_node in omega (arith, lt, f, g)) in
        let same : (q.name == r.name) ≡ true = grind (arith, nat_tests, names) in
        let before : nat_lt q.from r.from ≡ true = grind (arith, nat_tests, less) in
        pass_second (nat_lt q.name r.name) (q.name == r.name && nat_lt q.from r.from) (pass_both (q.name == r.name) (nat_lt q.from r.from) same before)

    of_name : (x : ℕ) (q : Record) → Contains (filter_map (s.entering x) (below n)) q → q.name ≡ x
    of_name x q c =
        let b : (m : ℕ) × (0 ≤ m) × (m < 0 + n) × (s.entering x m ≡ Some q) = from_given (s.entering x) 0 n q c in
        (within.records x b.0 q b.3).of_name

    All-at : (x i : ℕ) (d : Record) → i < length (filter_map (s.entering x) (below n)) →
        Contains (filter_map (s.entering x) (below n)) (slice_index_or (filter_map (s.entering x) (below n)) i d)
    All-at x i d lt = All-contains_itself (filter_map (s.entering x) (below n)) i d lt

    by_name : (x y : ℕ) (q r : Record) → x < y → q.name ≡ x → r.name ≡ y → is_ahead r.name r.from q ≡ true
    by_name x y q r lt a b =
        let before : nat_lt q.name r.name ≡ true = (let less : q.name < r.name = omega (arith, lt, a, b) in grind (arith, nat_tests, less)) in
        pass_first (nat_lt q.name r.name) (q.name == r.name && nat_lt q.from r.from) before

-- ## segments

home_of_first : (h g : ℕ) → g < 2 ^ 24 → home_of (address_word h g 0) ≡ h
home_of_first h g p = omega arith

segment_of_first : (h g : ℕ) → g < 2 ^ 24 → segment_of (address_word h g 0) ≡ g
segment_of_first h g p = omega arith

-- the first words of the segments below n of one home
abbrev at_home : ℕ → ℕ → List ℕ
at_home n home = map (λ segment. address_word home segment 0) (below n)

is_at_home : (n home x : ℕ) → Contains (at_home n home) x → (g : ℕ) × (g < n) × (address_word home g 0 ≡ x)
is_at_home n home x c =
    let d : Contains (filter_map (λ g. Some (address_word home g 0)) (below n)) x = subst (λ (l : List ℕ). Contains l x) (map_is_given (λ g. address_word home g 0) (below n)) c in
    let b : (g : ℕ) × (0 ≤ g) × (g < 0 + n) × (Some (address_word home g 0) ≡ Some x) = from_given (λ g. Some (address_word home g 0)) 0 n x d in
    (let lt : b.0 < 0 + n = b.2 in (b.0, omega (arith, lt), some_is b.3))
  where
    some_is : {a b : ℕ} → Some a ≡ Some b → a ≡ b
    some_is e = cc

in_first_words : (m n home g : ℕ) → home < m → g < n → Contains (first_words m n) (address_word home g 0)
in_first_words m n home g hb gb =
    in_flat (at_home n) 0 m home (address_word home g 0) (omega arith) (omega (arith, hb))
    (subst (λ (l : List ℕ). Contains l (address_word home g 0)) (sym (map_is_given (λ g. address_word home g 0) (below n)))
    (in_given (λ g. Some (address_word home g 0)) 0 n g (address_word home g 0) (omega arith) (omega (arith, gb)) refl))

is_first_word : (m n x : ℕ) → Contains (first_words m n) x → (home : ℕ) × (g : ℕ) × (g < n) × (address_word home g 0 ≡ x)
is_first_word m n x c =
    let a : (h : ℕ) × (0 ≤ h) × (h < 0 + m) × Contains (at_home n h) x = from_flat (at_home n) 0 m x c in
    let b : (g : ℕ) × (g < n) × (address_word a.0 g 0 ≡ x) = is_at_home n a.0 x a.3 in
    (a.0, b.0, b.1, b.2)

first_words_rise : (m n : ℕ) → n ≤ 2 ^ 24 → AllPairs (λ x y. x < y) (first_words m n)
first_words_rise m n small =
    flat_in_order (at_home n) (λ x y. x < y)
    (λ h. subst (AllPairs (λ x y. x < y)) (sym (map_is_given (λ g. address_word h g 0) (below n)))
    (given_in_order (λ g. Some (address_word h g 0)) (λ x y. x < y) (λ i j x y lt a b. rise h i j x y lt a b) 0 n))
    (λ h j lt i d within i' d' within'.
    apart h j (slice_index_or (at_home n h) i d) (slice_index_or (at_home n j) i' d') lt
    (is_at_home n h (slice_index_or (at_home n h) i d) (All-contains_itself (at_home n h) i d within))
    (is_at_home n j (slice_index_or (at_home n j) i' d') (All-contains_itself (at_home n j) i' d' within')))
    0 m
  where
    rise : (h i j x y : ℕ) → i < j → Some (address_word h i 0) ≡ Some x → Some (address_word h j 0) ≡ Some y → x < y
    rise h i j x y lt a b =
        let p : address_word h i 0 ≡ x = cc in
        let q : address_word h j 0 ≡ y = cc in
        omega (arith, lt, p, q)

    apart : (h j x y : ℕ) → h < j → (g : ℕ) × (g < n) × (address_word h g 0 ≡ x) → (g : ℕ) × (g < n) × (address_word j g 0 ≡ y) → x < y
    apart h j x y lt a b =
        let p : address_word h a.0 0 ≡ x = a.2 in
        let q : address_word j b.0 0 ≡ y = b.2 in
        let l : a.0 < n = a.1 in
        omega (arith, lt, p, q, l, small)

-- the number of a segment is of 24 bits
below_words : (word : ℕ) → segment_of word < 2 ^ 24
below_words word = omega arith

not_true : (b : Bool) → not b ≡ true → b ≡ false
not_true true e = cc
not_true false e = refl

not_false : (b : Bool) → (b ≡ true → ⊥) → not b ≡ true
not_false true never = absurd (never refl)
not_false false never = refl

module _ (n segments me : ℕ) (a : Places) (small : segments ≤ 2 ^ 24) (opened_below : (bunch segment : ℕ) → a.opened bunch ≡ Some segment → bunch < n)
    (mapped_below : (home segment : ℕ) → segment < 2 ^ 24 → a.mapped home segment ≡ true → (home < n) × (segment < segments)) where
  -- some bunch has the segment open
  abbrev open_here : ℕ → Bool
  open_here first = home_of first == me && any_below n (λ bunch. option_map_or (λ segment. segment == segment_of first) (a.opened bunch) false)

  opened_is : (first : ℕ) (o : Option ℕ) → option_map_or (λ segment. segment == segment_of first) o false ≡ true → o ≡ Some (segment_of first)
  opened_is first None e = cc
  opened_is first (Some g) e = (let same : g ≡ segment_of first = grind (arith, nat_tests, e) in ap Some same)

  is_opened : (first : ℕ) (o : Option ℕ) → o ≡ Some (segment_of first) → option_map_or (λ segment. segment == segment_of first) o false ≡ true
  is_opened first o e =
      let same : (segment_of first == segment_of first) ≡ true = grind (arith, nat_tests) in
      ap (λ (o : Option ℕ). option_map_or (λ segment. segment == segment_of first) o false) e ∙ same

  dropped_passes : (first : ℕ) → IsDropped me a first → is_dropped n me a first ≡ true
  dropped_passes first d =
      pass_both (a.mapped (home_of first) (segment_of first) && not (open_here first)) (not (has_object a (home_of first) (segment_of first)))
      (pass_both (a.mapped (home_of first) (segment_of first)) (not (open_here first)) d.mapped (not_false (open_here first) closed))
      (ap not d.empty)
    where
      closed : open_here first ≡ true → ⊥
      closed e =
          let both : ((home_of first == me) ≡ true) × (any_below n (λ bunch. option_map_or (λ segment. segment == segment_of first) (a.opened bunch) false) ≡ true) =
          both (home_of first == me) (any_below n (λ bunch. option_map_or (λ segment. segment == segment_of first) (a.opened bunch) false)) e in
          let home : (home_of first == me) ≡ true = both.0 in
          let is : home_of first ≡ me = grind (arith, nat_tests, home) in
          let some : (k : ℕ) × (k < n) × (option_map_or (λ segment. segment == segment_of first) (a.opened k) false ≡ true) =
          some_below n (λ bunch. option_map_or (λ segment. segment == segment_of first) (a.opened bunch) false) both.1 in
          d.closed some.0 is (opened_is first (a.opened some.0) some.2)

  passes_dropped : (first : ℕ) → first_word first ≡ first → is_dropped n me a first ≡ true → IsDropped me a first
  passes_dropped first is_first e =
      let one : ((a.mapped (home_of first) (segment_of first) && not (open_here first)) ≡ true) × (not (has_object a (home_of first) (segment_of first)) ≡ true) =
      both (a.mapped (home_of first) (segment_of first) && not (open_here first)) (not (has_object a (home_of first) (segment_of first))) e in
      let two : (a.mapped (home_of first) (segment_of first) ≡ true) × (not (open_here first) ≡ true) =
      both (a.mapped (home_of first) (segment_of first)) (not (open_here first)) one.0 in
      record {
        is_first = is_first;
        mapped = two.0;
        closed = λ bunch home opened. clash (open_here first) (opens_here bunch home opened) (not_true (open_here first) two.1);
        empty = not_true (has_object a (home_of first) (segment_of first)) one.1;
      }
    where
      opens_here : (bunch : ℕ) → home_of first ≡ me → a.opened bunch ≡ Some (segment_of first) → open_here first ≡ true
      opens_here bunch home opened =
          let at : (home_of first == me) ≡ true = grind (arith, nat_tests, home) in
          pass_both (home_of first == me) (any_below n (λ bunch. option_map_or (λ segment. segment == segment_of first) (a.opened bunch) false)) at
          (below_some n (λ bunch. option_map_or (λ segment. segment == segment_of first) (a.opened bunch) false) bunch
          (opened_below bunch (segment_of first) opened) (is_opened first (a.opened bunch) opened))

  pub dropped_found : AreAll (IsDropped me a) (filter (is_dropped n me a) (first_words n segments))
  dropped_found = record {
    rising = rises_by_pairs (filter (is_dropped n me a) (first_words n segments))
        (AllPairs-filter (λ x y. x < y) (is_dropped n me a) (first_words n segments) (first_words_rise n segments small));
    all = λ first. (is first, has first);
  }
    where
      is : (first : ℕ) → Contains (filter (is_dropped n me a) (first_words n segments)) first → IsDropped me a first
      is first c =
          let both : Contains (first_words n segments) first × (is_dropped n me a first ≡ true) = from_filter (is_dropped n me a) (first_words n segments) first c in
          let w : (home : ℕ) × (g : ℕ) × (g < segments) × (address_word home g 0 ≡ first) = is_first_word n segments first both.0 in
          let lt : w.1 < segments = w.2 in
          let less : w.1 < 2 ^ 24 = omega (arith, lt, small) in
          let again : first_word (address_word w.0 w.1 0) ≡ address_word w.0 w.1 0 =
          (λ j. address_word (home_of_first w.0 w.1 less j) (segment_of_first w.0 w.1 less j) 0) in
          passes_dropped first (subst (λ (x : ℕ). first_word x ≡ x) w.3 again) both.1

      has : (first : ℕ) → IsDropped me a first → Contains (filter (is_dropped n me a) (first_words n segments)) first
      has first d =
          let within_both : (home_of first < n) × (segment_of first < segments) = mapped_below (home_of first) (segment_of first) (below_words first) d.mapped in
          in_filter (is_dropped n me a) (first_words n segments) first
          (subst (Contains (first_words n segments)) d.is_first (in_first_words n segments (home_of first) (segment_of first) within_both.0 within_both.1))
          (dropped_passes first d)

-- ## the law

pub found_is_told : FoundIsTold
found_is_told = record {
  collections = λ n me bunch node within.
      let kept : List ℕ = reached_in n n node.state node.links bunch in
      record {
        kept = are_reached n node.state node.links bunch within n (settles n node.state node.links bunch);
        owned = are_all (is_owned node.state bunch) n (λ x e. known_within n node.state within _ x e);
        gone = are_all (goes node.state bunch kept) n (λ x e. entry_within n node.state node.links bunch within x (both (is_entry node.state bunch x) (not (is_listed kept x)) e).0);
        children = none_has;
        records = refl;
        dropped = none_has;
      };
  tables = λ n me bunch to node within.
      record {
        kept = none_has;
        owned = none_has;
        gone = none_has;
        children = are_all (is_child node.state bunch to) n (λ x e. known_within n node.state within _ x e);
        records = refl;
        dropped = none_has;
      };
  sweeps = λ n me node small within.
      record { kept = none_has; owned = none_has; gone = none_has; children = none_has; records = refl; dropped = dropped_found n n me node.places small within.opened (λ home segment lt e. within.mapped home segment e) };
  takings = λ n me t node within.
      record {
        kept = none_has;
        owned = none_has;
        gone = none_has;
        children = none_has;
        records = record { in_order = records_in_order n node.state within; all = find_record_of n node.state within };
        dropped = none_has;
      };
}
