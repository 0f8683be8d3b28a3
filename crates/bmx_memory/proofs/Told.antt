-- What a letter tells of an object, by what a memory shows.
use Rattle.std.proofs.Common.{◌≡◌, ℕ, ◌+◌, ◌≤◌, zero, suc, Bool, true, false, List, [], ◌∷◌, ◌++◌, length, take, map, Option, Some, None, is_some, slice_get, unwrap_or, option_and_then, refl, sym, ap, subst, ◌∙◌, arith}
use Rattle.std.specs.Option.{option_map, option_map_or}
use Rattle.std.specs.Prelude.{if◌then◌else◌}
use Rattle.std.proofs.lemmas.Bool.{false≢true}
use Rattle.std.proofs.lemmas.Option.{none-some, same_Some}
use Rattle.bmx_types.specs.declared.values.Val.{Val}
use Rattle.bmx_types.specs.declared.values.Val.TheVariants as val
use Rattle.bmx_types.specs.declared.addresses.Place.{Place}
use Rattle.bmx_types.specs.declared.addresses.Info.{Info}
use Rattle.bmx_segment.specs.Blocks.{Block}
use Rattle.bmx_segment.specs.declared.headers.Header.{Header}
use Rattle.bmx_token.specs.declared.parts.Part.{Part}
use Rattle.bmx_replica.specs.declared.directory.Slot.{Slot}
use Rattle.bmx_replica.specs.Replicas.{Entry, IsReplica, target_in, entry_of, entry_in, field_at}
use Rattle.bmx_replica.specs.Replicas.{values_of as values_in}
use Rattle.bmx_replica.proofs.Fielded.{length-values_of}
use Rattle.bmx_protocol.specs.declared.views.ViewField.{ViewField}
use Rattle.bmx_protocol.specs.declared.views.ViewField.TheVariants as field
use Rattle.bmx_protocol.specs.Nodes.{Known, NodeState, field_of, value_in}
use Rattle.bmx_protocol.specs.Rules.{told_field, told_fields}
use Rattle.bmx_protocol.specs.Rules.{info_of as info_by_rule}
use Rattle.bmx_memory.specs.Contents.{Contents}
use Rattle.bmx_memory.specs.Shown.{Shown, Object, Sees, HasEntry, shown, object_of, known_as, lies_in, info_of, value_of, has_copy}
use Rattle.bmx_memory.proofs.Reached.{entry_stands}

-- ## an object

by_object : (s : NodeState) (lies : ℕ → Place) (name : ℕ) (place : Place) (o : Option Object) (p : Part) (k : Option Known) → k ≡ option_map (known_as p) o → lies name ≡ place → (i : Info)
    → option_map (λ (b : Object). record { name = name; bunch = b.bunch; size = b.size; place = place }) o ≡ Some i
    → record { name = name; bunch = option_map_or (λ (x : Known). x.bunch) k 0; size = option_map_or (λ (x : Known). x.size) k 0; place = lies name } ≡ i
by_object s lies name place None p k known at i told = absurd (none-some i told)
by_object s lies name place (Some b) p k known at i told =
    (λ j. let x : Info = record { name = name; bunch = option_map_or (λ (x : Known). x.bunch) (known j) 0; size = option_map_or (λ (x : Known). x.size) (known j) 0; place = at j } in x)
    ∙ same_Some _ i told

-- the rules tell of an object what a memory tells
pub info_told : (m : Shown) (s : NodeState) (lies : ℕ → Place) (name : ℕ) (i : Info) → Sees m s lies → info_of m name ≡ Some i → info_by_rule s lies name ≡ i
info_told m s lies name i sees told = by_object s lies name (lies_in m.places name) (m.object name) (sees.parts name) (s.known name) (ap (λ (f : ℕ → Option Known). f name) sees.known) (sees.places name) i told

info_missing : (name : ℕ) (place : Place) (o : Option Object) → option_map (λ (b : Object). let i : Info = record { name = name; bunch = b.bunch; size = b.size; place = place } in i) o ≡ None → is_some o ≡ false
info_missing name place None none = refl
info_missing name place (Some b) none = absurd (none-some _ (sym none))

-- of what has an entry something is told
pub entry_told : (m : Shown) (v : Val) (name : ℕ) → HasEntry m v → v ≡ val.Ref name → info_of m name ≡ None → ⊥
entry_told m v name has is none =
    let there : is_some (m.object name) ≡ true = subst (HasEntry m) is has in
    false≢true (sym (info_missing name (lies_in m.places name) (m.object name) none) ∙ there)

-- a value with that target refers to it
pub target_is : (v : Val) (name : ℕ) → target_in v ≡ Some name → v ≡ val.Ref name
target_is val.Null name is = absurd (none-some name is)
target_is (val.Int k) name is = absurd (none-some name is)
target_is (val.Ref n) name is = ap val.Ref (same_Some n name is)

-- ## its fields

-- the fields in a name's copy, none without one
abbrev pub copied_in : Option Object → List ViewField
copied_in o = option_map_or (λ (b : Object). unwrap_or b.copy []) o []

abbrev pub copied : Shown → ℕ → List ViewField
copied m name = copied_in (m.object name)

by_known : (o : Option Object) (p : Part) → option_map_or (λ (k : Known). unwrap_or k.copy []) (option_map (known_as p) o) [] ≡ copied_in o
by_known None p = refl
by_known (Some b) p = refl

-- the rules tell these
pub fields_told : (m : Shown) (s : NodeState) (lies : ℕ → Place) (name : ℕ) → Sees m s lies → told_fields s lies name ≡ map (told_field s lies) (copied m name)
fields_told m s lies name sees =
    ap (λ (k : Option Known). map (told_field s lies) (option_map_or (λ (x : Known). unwrap_or x.copy []) k [])) (ap (λ (f : ℕ → Option Known). f name) sees.known)
    ∙ ap (map (told_field s lies)) (by_known (m.object name) (sees.parts name))

as_field : (f : ViewField) → field_of (value_in f) ≡ f
as_field field.Null = refl
as_field (field.Int k) = refl
as_field (field.Ref name) = refl

take_next : (l : List ViewField) (i : ℕ) (v : Val) → slice_get (map value_in l) i ≡ Some v → take (i + 1) l ≡ take i l ++ field_of v ∷ []
take_next [] i v got = absurd (none-some v got)
take_next (f ∷ l) zero v got = λ k. (sym (as_field f) ∙ ap field_of (same_Some (value_in f) v got)) k ∷ []
take_next (f ∷ l) (suc i) v got = ap (λ (n : ℕ). take n (f ∷ l)) (after i) ∙ (λ k. f ∷ take_next l i v got k)
  where
    after : (i : ℕ) → suc i + 1 ≡ suc (i + 1)
    after i = omega arith

take_all : (l : List ViewField) (i : ℕ) → slice_get (map value_in l) i ≡ None → take i l ≡ l
take_all [] zero past = refl
take_all [] (suc i) past = refl
take_all (f ∷ l) zero past = absurd (none-some _ (sym past))
take_all (f ∷ l) (suc i) past = λ k. f ∷ take_all l i past k

take_none : (i : ℕ) → (let l : List ViewField = [] in take i l ≡ l)
take_none zero = refl
take_none (suc i) = refl

-- one more field
pub one_more : (m : Shown) (name i : ℕ) (v : Val) → value_of m name i ≡ Some v → take (i + 1) (copied m name) ≡ take i (copied m name) ++ field_of v ∷ []
one_more m name i v got = by (m.object name) got
  where
    by_copy : (c : Option (List ViewField)) → option_and_then (λ l. slice_get l i) (option_map (map value_in) c) ≡ Some v → take (i + 1) (unwrap_or c []) ≡ take i (unwrap_or c []) ++ field_of v ∷ []
    by_copy None got = absurd (none-some v got)
    by_copy (Some l) got = take_next l i v got

    by : (o : Option Object) → option_and_then (λ l. slice_get l i) (option_and_then (λ (b : Object). option_map (map value_in) b.copy) o) ≡ Some v → take (i + 1) (copied_in o) ≡ take i (copied_in o) ++ field_of v ∷ []
    by None got = absurd (none-some v got)
    by (Some b) got = by_copy b.copy got

-- no more fields
pub no_more : (m : Shown) (name i : ℕ) → value_of m name i ≡ None → take i (copied m name) ≡ copied m name
no_more m name i past = by (m.object name) past
  where
    by_copy : (c : Option (List ViewField)) → option_and_then (λ l. slice_get l i) (option_map (map value_in) c) ≡ None → take i (unwrap_or c []) ≡ unwrap_or c []
    by_copy None past = take_none i
    by_copy (Some l) past = take_all l i past

    by : (o : Option Object) → option_and_then (λ l. slice_get l i) (option_and_then (λ (b : Object). option_map (map value_in) b.copy) o) ≡ None → take i (copied_in o) ≡ copied_in o
    by None past = take_none i
    by (Some b) past = by_copy b.copy past

-- nothing is known of it
pub none_copied : (m : Shown) (name : ℕ) → info_of m name ≡ None → copied m name ≡ []
none_copied m name none = by (m.object name) none
  where
    by : (o : Option Object) → option_map (λ (b : Object). let i : Info = record { name = name; bunch = b.bunch; size = b.size; place = lies_in m.places name } in i) o ≡ None → copied_in o ≡ []
    by None none = refl
    by (Some b) none = absurd (none-some _ (sym none))

uncopied : (o : Option Object) → option_map_or (λ (b : Object). is_some b.copy) o false ≡ false → copied_in o ≡ []
uncopied None none = refl
uncopied (Some b) none = by b.copy none
  where
    by : (c : Option (List ViewField)) → is_some c ≡ false → unwrap_or c [] ≡ []
    by None none = refl
    by (Some l) none = absurd (false≢true (sym none))

-- it has no copy
pub not_copied : (m : Shown) (name : ℕ) → has_copy m name ≡ false → copied m name ≡ []
not_copied m name none = uncopied (m.object name) none

-- ## how many fields

length_mapped : {A B : Type 0} (f : A → B) (l : List A) → length (map f l) ≡ length l
length_mapped f [] = refl
length_mapped f (x ∷ l) = let rest = length_mapped f l in omega (arith, rest)

past_end : {A : Type 0} (l : List A) (i : ℕ) → length l ≤ i → take i l ≡ l
past_end [] zero many = refl
past_end [] (suc i) many = refl
past_end (x ∷ l) zero many = absurd (omega arith)
past_end (x ∷ l) (suc i) many = λ k. x ∷ past_end l i (omega (arith, many)) k

copy_sized : (blocks : List Block) (s : Slot) (h : Header) → length (copied_in (Some (object_of (entry_in blocks s h)))) ≤ h.size
copy_sized blocks s h = by s.has_copy
  where
    by : (b : Bool) → length (unwrap_or (option_map (map field_of) (if b then Some (values_in (field_at blocks s.address h) h.size) else None)) []) ≤ h.size
    by true = let many = length_mapped field_of (values_in (field_at blocks s.address h) h.size) in let size = length-values_of (field_at blocks s.address h) h.size in omega (arith, many, size)
    by false = omega arith

-- a copy has as many fields as its object
pub all_copied : (m : Contents) (name : ℕ) (i : Info) → IsReplica m.replica.slots m.replica.heap.blocks → info_of (shown m) name ≡ Some i → take i.size (copied (shown m) name) ≡ copied (shown m) name
unfolding shown
all_copied m name i kept told = by (entry_of m.replica name) refl told
  where
    by : (o : Option Entry) → entry_of m.replica name ≡ o
        → option_map (λ (b : Object). let x : Info = record { name = name; bunch = b.bunch; size = b.size; place = lies_in (shown m).places name } in x) (option_map object_of o) ≡ Some i
        → take i.size (copied_in (option_map object_of o)) ≡ copied_in (option_map object_of o)
    by None is told = absurd (none-some i told)
    by (Some e) is told =
        let st = entry_stands m.replica name e kept is in
        let size : e.size ≡ i.size = ap (λ (x : Info). x.size) (same_Some _ i told) in
        let P : Entry → Type 0 = λ x. length (copied_in (Some (object_of x))) ≤ x.size in
        let few : P e = subst P st.entry (copy_sized m.replica.heap.blocks st.slot st.header) in
        past_end (copied_in (Some (object_of e))) i.size (omega (arith, few, size))
