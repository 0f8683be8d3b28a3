-- The opening of a store, seen for one name: nowhere, or one that the store opens with.
use Rattle.std.proofs.Common.{◌≡◌, ℕ, ◌+◌, ◌-◌, ◌^◌, ◌<◌, ◌≤◌, arith, refl, ap, sym, subst, ◌∙◌, Bool, true, false, cond, List, [], ◌∷◌, ◌++◌, map, length, zero, suc, get_or}
use Rattle.std.specs.Prelude.{◌==◌, ◌||◌, ◌&&◌, ◌≢◌, ◌⊎◌, nat_lt, Option, Some, None, is_some, find, slice_get, Contains}
use Rattle.std.specs.Option.{option_map}
use Rattle.std.proofs.Common.{inl, inr}
use Rattle.std.proofs.lemmas.Bool.Decides.{nat_tests}
use Rattle.std.proofs.lemmas.Option.{slice_get_within, get_or_from_slice_get, slice_get_cases}
use Rattle.std.proofs.lemmas.List.Elements.{Contains-get_or, Contains-append_left, Contains-append_right, Contains-push}
use Rattle.bmx_types.specs.Words.{maker, count_of, anchor_of}
use Rattle.bmx_types.specs.Openings.{IsOfBunch, IsOpening, bunches_of}
use Rattle.bmx_types.specs.declared.openings.Birth.{Birth}
use Rattle.bmx_types.specs.declared.values.Val.{Val}
use Rattle.bmx_types.specs.declared.values.Val.TheVariants as val
use Rattle.bmx_owner.specs.Records.{blank}
use Rattle.bmx_protocol.specs.declared.views.ViewField.TheVariants as field
use Rattle.bmx_protocol.specs.Nodes.{Setting, Known, field_of, birth_of, is_anchor, owned_birth, heard_birth, first_known}
use Rattle.bmx_protocol.specs.Steps.{first_node}
use Rattle.bmx_token.specs.Transitions.{Share, made_share, heard_share}
use Rattle.bmx_token_model.specs.Machine.{Message, Numbers, no_numbers, IsNowhere, IsFirstRecord, IsUntouched, IsFirst, Absent, Born, IsFirstElsewhere, Unknown, Heard}
use Rattle.bmx_protocol.specs.declared.events.Event.{Event}
use Rattle.bmx_protocol.specs.Nodes.{NodeState}
use Rattle.bmx_protocol.specs.Steps.{Node}
use Rattle.bmx_protocol.specs.Worlds.{world_of}
use Rattle.bmx_store_laws.specs.Laws.{IsCounted}
use Rattle.bmx_store_laws.specs.Inside.Seen.{seen, seen_known, seen_record, first_world}
use Rattle.bmx_protocol.proofs.Basics.{eqb_of, eqb_is, eqb_apart}
use Rattle.bmx_store_laws.proofs.Ruled.{HasNo, NoRefs, FreeOf}
use Rattle.bmx_store_laws.proofs.Free.{IsFree, IsUnborn, null_free}
use Rattle.bmx_store_laws.proofs.Channels.{Channels}

-- where x is unknown at a node, nothing there refers to it, and it is no anchor
abbrev pub IsAware : Setting → ℕ → NodeState → Type 0
IsAware st x s = seen_known (s.known x) ≡ None → IsFree x s × IsUnborn st x

-- a node has counted x among its names, or x stands nowhere
abbrev pub IsNamed : Setting → ℕ → (ℕ → Node) → List Event → Type 0
IsNamed st x nodes past = IsCounted st (world_of nodes past) x ⊎ IsNowhere (seen x (world_of nodes past))

-- ## births

found_birth : (births : List Birth) (x : ℕ) (b : Birth) → find (λ b. b.name == x) births ≡ Some b →
    (i : ℕ) × (slice_get births i ≡ Some b) × (b.name ≡ x)
found_birth [] x b h = absurd (cc)
found_birth (c ∷ births) x b h = by_test (c.name == x) (eqb_is c.name x) h (found_birth births x b)
  where
    by_test : (t : Bool) → (t ≡ true → c.name ≡ x) → cond t (Some c) (find (λ b. b.name == x) births) ≡ Some b →
        (find (λ b. b.name == x) births ≡ Some b → (i : ℕ) × (slice_get births i ≡ Some b) × (b.name ≡ x)) →
        (i : ℕ) × (slice_get (c ∷ births) i ≡ Some b) × (b.name ≡ x)
    by_test true q e rest =
        let same : c ≡ b = cc in
        (0, e, ap (λ (z : Birth). z.name) (sym same) ∙ q refl)
    by_test false q e rest =
        let r : (i : ℕ) × (slice_get births i ≡ Some b) × (b.name ≡ x) = rest e in
        (suc r.0, r.1, r.2)

pub finds_birth : (births : List Birth) (x i : ℕ) (b : Birth) → slice_get births i ≡ Some b → b.name ≡ x → is_some (find (λ b. b.name == x) births) ≡ true
finds_birth [] x i b h n = absurd (cc)
finds_birth (c ∷ births) x zero b h n =
    let same : c ≡ b = cc in
    let is : (c.name == x) ≡ true = eqb_of (ap (λ (z : Birth). z.name) same ∙ n) in
    ap (λ (t : Bool). is_some (cond t (Some c) (find (λ b. b.name == x) births))) is
finds_birth (c ∷ births) x (suc i) b h n = by_test (c.name == x) (finds_birth births x i b h n)
  where
    by_test : (t : Bool) → is_some (find (λ b. b.name == x) births) ≡ true → is_some (cond t (Some c) (find (λ b. b.name == x) births)) ≡ true
    by_test true e = refl
    by_test false e = e

-- a name from 1 to the number of births is a birth's
numbered_birth : (st : Setting) → IsOpening st.nodes st.limit st.births → (x i : ℕ) → i < length st.births → x ≡ i + 1 → birth_of st x ≡ None → ⊥
numbered_birth st opening x i below is none = by_cases (slice_get_cases st.births i).1
  where
    by_cases : ((b : Birth) × (i < length st.births) × (slice_get st.births i ≡ Some b) × (get_or st.births i b ≡ b)) ⊎ ((length st.births ≤ i) × (slice_get st.births i ≡ None)) → ⊥
    by_cases (inl at) =
        let some : is_some (birth_of st x) ≡ true = finds_birth st.births x i at.0 at.2 (opening.born.named i at.0 at.2 ∙ sym is) in
        let both : false ≡ true = ap (λ (k : Option Birth). is_some k) (sym none) ∙ some in
        cc
    by_cases (inr past) = absurd (omega arith)

-- ## where a name is

-- a node of the store is told of an anchor at first
abbrev is_told : Setting → ℕ → ℕ → Bool
is_told st n x = nat_lt n st.nodes && is_anchor st x

known_at : (st : Setting) (x n : ℕ) (b : Option Birth) → birth_of st x ≡ b →
    first_known st n x ≡ cond (n == 0) (option_map owned_birth b) (cond (is_told st n x) (option_map heard_birth b) None)
known_at st x n b is = ap (λ (k : Option Birth). cond (n == 0) (option_map owned_birth k) (cond (is_told st n x) (option_map heard_birth k) None)) is

none_at : (a b : Bool) → cond a (option_map owned_birth None) (cond b (option_map heard_birth None) None) ≡ None
none_at true b = refl
none_at false true = refl
none_at false false = refl

unknown_at : (st : Setting) (x n : ℕ) → birth_of st x ≡ None → seen_known (first_known st n x) ≡ None
unknown_at st x n none = ap seen_known (known_at st x n None none ∙ none_at (n == 0) (is_told st n x))

no_numbers_there : (r : Numbers) → None ≡ Some r → ⊥
no_numbers_there r is = cc

no_holding : (h : Share) → None ≡ Some h → ⊥
no_holding h is = cc

elsewhere : (b : Birth) (n : ℕ) (a t : Bool) → t ≡ false →
    IsFirstElsewhere (seen_known (cond t (Some (owned_birth b)) (cond a (Some (heard_birth b)) None)))
elsewhere b n a true h = absurd (cc)
elsewhere b n true false h = Heard refl
elsewhere b n false false h = Unknown refl

-- a record that stands at first, by the tests that it stands under
first_record : (st : Setting) (x n m : ℕ) (r : Numbers) (b : Option Birth) → birth_of st x ≡ b → (t u v a : Bool) → (n == 0) ≡ t → nat_lt 0 m ≡ u → nat_lt m st.nodes ≡ v → is_anchor st x ≡ a →
    seen_record (cond (t && u && v && a) (option_map (λ (c : Birth). blank x c.bunch m) b) None) ≡ Some r →
    IsFirstRecord (seen x (first_world st)) n m r
first_record st x n m r (Some b) is true true true true here above there anchor at = record {
  here = eqb_is n 0 here;
  heard = ap seen_known (known_at st x m (Some b) is
      ∙ (λ i. cond (not_first i) (Some (owned_birth b)) (cond (there i && anchor i) (Some (heard_birth b)) None)));
  numbers = same no_numbers r at;
}
  where
    not_first : (m == 0) ≡ false
    not_first = grind (arith, nat_tests)

    same : (c d : Numbers) → Some c ≡ Some d → d ≡ c
    same c d h = cc
first_record st x n m r None is true true true true here above there anchor at = absurd (no_numbers_there r at)
first_record st x n m r b is true true true false here above there anchor at = absurd (no_numbers_there r at)
first_record st x n m r b is true true false a here above there anchor at = absurd (no_numbers_there r at)
first_record st x n m r b is true false v a here above there anchor at = absurd (no_numbers_there r at)
first_record st x n m r b is false u v a here above there anchor at = absurd (no_numbers_there r at)

first_untouched : (st : Setting) (x : ℕ) → IsUntouched (seen x (first_world st))
first_untouched st x = record {
  channel = λ n m. refl;
  issued = λ n m. refl;
  taken = λ n m. refl;
  records = λ n m r at. first_record st x n m r (birth_of st x) refl (n == 0) (nat_lt 0 m) (nat_lt m st.nodes) (is_anchor st x) refl refl refl refl at;
}

owned_is_not_heard : {A : Type 0} → Some made_share ≡ Some (heard_share 0) → A
owned_is_not_heard e =
    let both : Some true ≡ Some false = ap (option_map (λ (h : Share). h.copy)) e in
    absurd cc

none_is_not_heard : {A : Type 0} → None ≡ Some (heard_share 0) → A
none_is_not_heard e = absurd cc

recorded : (st : Setting) (x n : ℕ) (b : Birth) → birth_of st x ≡ Some b → (t : Bool) → (n == 0) ≡ t → (v : Bool) → nat_lt n st.nodes ≡ v → (a : Bool) → is_anchor st x ≡ a →
    seen_known (cond (n == 0) (Some (owned_birth b)) (cond (is_told st n x) (Some (heard_birth b)) None)) ≡ Some (heard_share 0) →
    (seen x (first_world st)).entering 0 n ≡ Some no_numbers
recorded st x n b is true here v there a anchor h =
    owned_is_not_heard ((λ i. seen_known (cond (sym here i) (Some (owned_birth b)) (cond (is_told st n x) (Some (heard_birth b)) None))) ∙ h)
recorded st x n b is false here true there true anchor h =
    let above : nat_lt 0 n ≡ true = grind (arith, nat_tests) in
    (λ i. seen_record (cond (above i && there i && anchor i) (option_map (λ (c : Birth). blank x c.bunch n) (birth_of st x)) None))
    ∙ ap (λ k. seen_record (option_map (λ (c : Birth). blank x c.bunch n) k)) is
recorded st x n b is false here true there false anchor h =
    none_is_not_heard ((λ i. seen_known (cond (sym here i) (Some (owned_birth b)) (cond (sym there i && sym anchor i) (Some (heard_birth b)) None))) ∙ h)
recorded st x n b is false here false there a anchor h =
    none_is_not_heard ((λ i. seen_known (cond (sym here i) (Some (owned_birth b)) (cond (sym there i && is_anchor st x) (Some (heard_birth b)) None))) ∙ h)

pub is_first : (st : Setting) (x : ℕ) → IsFirst (seen x (first_world st))
is_first st x = by_birth (birth_of st x) refl
  where
    by_birth : (b : Option Birth) → birth_of st x ≡ b → IsFirst (seen x (first_world st))
    by_birth None is = Absent (first_untouched st x) (λ n. unknown_at st x n is)
    by_birth (Some b) is = Born (first_untouched st x) (record {
      owner = ap seen_known (known_at st x 0 (Some b) is);
      others = λ n d. subst (λ (k : Option Known). IsFirstElsewhere (seen_known k)) (sym (known_at st x n (Some b) is))
          (elsewhere b n (is_told st n x) (n == 0) (eqb_apart n 0 d));
      recorded = λ n heard. recorded st x n b is (n == 0) refl (nat_lt n st.nodes) refl (is_anchor st x) refl
          (ap seen_known (sym (known_at st x n (Some b) is)) ∙ heard);
    })

-- ## fields

fields_free : (x : ℕ) (fields : List Val) → (Contains fields (val.Ref x) → ⊥) → HasNo x (map field_of fields)
fields_free x [] none = tt
fields_free x (v ∷ fields) none = (
  here v (λ e. none (subst (Contains (v ∷ fields)) e (Contains-append_left (v ∷ []) fields v (Contains-push [] v)))),
  fields_free x fields (λ c. none (Contains-append_right (v ∷ []) fields (val.Ref x) c)),
)
  where
    here : (v : Val) → (v ≡ val.Ref x → ⊥) → field_of v ≢ field.Ref x
    here val.Null h = λ e. cc
    here (val.Int k) h = λ e. cc
    here (val.Ref y) h = λ e. h (ref e)
      where
        ref : field.Ref y ≡ field.Ref x → val.Ref y ≡ val.Ref x
        ref e =
            let same : y ≡ x = cc in
            ap (λ (z : ℕ). val.Ref z) same

birth_free : (st : Setting) → IsOpening st.nodes st.limit st.births → (x : ℕ) → birth_of st x ≡ None → (b : Birth) → Contains st.births b → HasNo x (map field_of b.fields)
birth_free st opening x none b in_births = fields_free x b.fields (λ c.
    let born : IsOfBunch st.births b.bunch x = opening.born.closed b x in_births c in
    numbered_birth st opening x (x - 1) (omega (arith, born.named, born.there)) (omega (arith, born.named)) none)

first_free : (st : Setting) → IsOpening st.nodes st.limit st.births → (x n : ℕ) → ((n == 0) ≡ true → birth_of st x ≡ None) → FreeOf x (first_known st n)
first_free st opening x n none y k is = by_birth (birth_of st y) refl
  where
    by_birth : (b : Option Birth) → birth_of st y ≡ b → NoRefs x k
    by_birth None at =
        let both : None ≡ Some k = sym (known_at st y n None at ∙ none_at (n == 0) (is_told st n y)) ∙ is in
        absurd (cc)
    by_birth (Some b) at = by_tests (n == 0) (is_told st n y) none (sym (known_at st y n (Some b) at) ∙ is)
      where
        some_is : (j : Known) → Some j ≡ Some k → j ≡ k
        some_is j h = cc

        inside : Contains st.births b
        inside =
            let f : (i : ℕ) × (slice_get st.births i ≡ Some b) × (b.name ≡ y) = found_birth st.births y b at in
            subst (Contains st.births) (get_or_from_slice_get st.births f.0 b b f.1)
            (Contains-get_or st.births f.0 b (slice_get_within st.births f.0 b f.1))

        by_tests : (t a : Bool) → (t ≡ true → birth_of st x ≡ None) → cond t (Some (owned_birth b)) (cond a (Some (heard_birth b)) None) ≡ Some k → NoRefs x k
        by_tests true a q h = subst (NoRefs x) (some_is (owned_birth b) h) (birth_free st opening x (q refl) b inside)
        by_tests false true q h = subst (NoRefs x) (some_is (heard_birth b) h) tt
        by_tests false false q h = absurd (cc)

-- an anchor's name is one
anchor_is : (st : Setting) (x b : ℕ) → b < bunches_of st.births → x ≡ anchor_of b → is_anchor st x ≡ true
anchor_is st x b below is = grind (arith, nat_tests)

-- ## the invariants

pub aware_first : (st : Setting) → IsOpening st.nodes st.limit st.births → (x n : ℕ) → n < st.nodes → IsAware st x (first_node st n).state
aware_first st opening x n real none = (
  record { fields = first_free st opening x n (λ here. unborn_at here (birth_of st x) refl); registers = λ r. null_free x },
  λ b below is. unborn b below is (birth_of st x) refl,
)
  where
    -- who knows a name at first
    known : (b : Birth) → birth_of st x ≡ Some b → (t a : Bool) → (n == 0) ≡ t → is_told st n x ≡ a → (t || a) ≡ true → ⊥
    known b at true a here anchor h =
        let some : seen_known (first_known st n x) ≡ Some made_share = ap seen_known (known_at st x n (Some b) at
        ∙ (λ i. cond (here i) (Some (owned_birth b)) (cond (is_told st n x) (Some (heard_birth b)) None))) in
        no_holding made_share (sym none ∙ some)
    known b at false true here anchor h =
        let some : seen_known (first_known st n x) ≡ Some (heard_share 0) = ap seen_known (known_at st x n (Some b) at
        ∙ (λ i. cond (here i) (Some (owned_birth b)) (cond (anchor i) (Some (heard_birth b)) None))) in
        no_holding (heard_share 0) (sym none ∙ some)
    known b at false false here anchor h = cc

    unborn_at : (n == 0) ≡ true → (b : Option Birth) → birth_of st x ≡ b → birth_of st x ≡ None
    unborn_at here None at = at
    unborn_at here (Some b) at = absurd (known b at true (is_told st n x) here refl refl)

    told : (b : ℕ) → b < bunches_of st.births → x ≡ anchor_of b → is_told st n x ≡ true
    told b below is =
        let here : nat_lt n st.nodes ≡ true = grind (arith, nat_tests) in
        (λ i. here i && anchor_is st x b below is i)

    unborn : (b : ℕ) → b < bunches_of st.births → x ≡ anchor_of b → (c : Option Birth) → birth_of st x ≡ c → ⊥
    unborn b below is None at = numbered_birth st opening x b (omega (arith, opening.born.anchors)) is at
    unborn b below is (Some c) at = by_test (n == 0) refl
      where
        by_test : (t : Bool) → (n == 0) ≡ t → ⊥
        by_test true here = known c at true true here (told b below is) refl
        by_test false here = known c at false true here (told b below is) refl

nowhere_first : (st : Setting) (x : ℕ) → birth_of st x ≡ None → IsNowhere (seen x (first_world st))
nowhere_first st x none = record {
  unknown = λ n. unknown_at st x n none;
  untold = λ n m l before after is. absurd (empty before l after is);
}
  where
    empty : (before : List Message) (l : Message) (after : List Message) → [] ≡ before ++ l ∷ after → ⊥
    empty [] l after is = cc
    empty (b ∷ before) l after is = cc

pub named_first : (st : Setting) → IsOpening st.nodes st.limit st.births → (x : ℕ) → IsNamed st x (first_node st) []
named_first st opening x = by_birth (birth_of st x) refl
  where
    by_birth : (b : Option Birth) → birth_of st x ≡ b → IsNamed st x (first_node st) []
    by_birth None is = inr (nowhere_first st x is)
    by_birth (Some b) is = inl (record {
      by_a_node = omega (arith, by_first, opening.a_node);
      from_one = omega (arith, one_or_more, tiny);
      made = subst (λ (z : ℕ). count_of x ≤ cond (z == 0) (length st.births) 0) (sym by_first) at_most;
    })
      where
        at : (i : ℕ) × (slice_get st.births i ≡ Some b) × (b.name ≡ x)
        at = found_birth st.births x b is

        small : x ≤ length st.births
        small =
            let number : b.name ≡ at.0 + 1 = opening.born.named at.0 b at.1 in
            let below : at.0 < length st.births = slice_get_within st.births at.0 b at.1 in
            let same : b.name ≡ x = at.2 in
            omega arith

        one_or_more : 1 ≤ x
        one_or_more =
            let number : b.name ≡ at.0 + 1 = opening.born.named at.0 b at.1 in
            let same : b.name ≡ x = at.2 in
            omega arith

        tiny : x < 2 ^ 56
        tiny = omega (arith, small, opening.born.few)

        by_first : maker x ≡ 0
        by_first = omega (arith, tiny)

        at_most : count_of x ≤ length st.births
        at_most = omega (arith, small, tiny)

pub beyond_first : (st : Setting) → IsOpening st.nodes st.limit st.births → (x n : ℕ) → (n < st.nodes → ⊥) → seen_known ((first_node st n).state.known x) ≡ None
beyond_first st opening x n none = λ i. seen_known (cond (here i) (option_map owned_birth (birth_of st x)) (cond (there i && is_anchor st x) (option_map heard_birth (birth_of st x)) None))
  where
    here : (n == 0) ≡ false
    here = eqb_apart n 0 (λ is. none (omega (arith, is, opening.a_node)))

    there : nat_lt n st.nodes ≡ false
    there = by_test (nat_lt n st.nodes) (lt_is n st.nodes)
      where
        lt_is : (a b : ℕ) → nat_lt a b ≡ true → a < b
        lt_is a b h = grind (arith, nat_tests)

        by_test : (t : Bool) → (t ≡ true → n < st.nodes) → t ≡ false
        by_test true q = absurd (none (q refl))
        by_test false q = refl

pub channels_first : (st : Setting) → Channels [] (first_node st)
channels_first st = record { counts = λ n m. refl; within = λ n m. omega arith; numbers = λ n m. tt }

pub few_first : (st : Setting) → IsOpening st.nodes st.limit st.births → (n : ℕ) → (first_node st n).state.made ≤ 320000
few_first st opening n = by_test (n == 0)
  where
    by_test : (b : Bool) → cond b (length st.births) 0 ≤ 320000
    by_test true = opening.born.few
    by_test false = omega arith
