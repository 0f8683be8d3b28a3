-- What a view lists of names.
use Rattle.std.proofs.Common.{◌≡◌, ◌↔◌, ℕ, ◌+◌, ◌<◌, ◌≤◌, Bool, true, false, cond, eqb, List, [], ◌∷◌, ◌++◌, length, take, get_or, map, Option, Some, None, IsSome, is_some, Contains, find, Result, Ok, Err, IfOk, filter_map, unwrap_or, refl, sym, ap, ◌∙◌, subst, ⊎_elim, arith, add-one}
use Rattle.std.specs.List.{AllPairs, cons_option}
use Rattle.std.specs.List.Sorted.{IsStrictlyIncreasing}
use Rattle.std.specs.Option.{option_map, option_map_or, option_and_then}
use Rattle.std.proofs.lemmas.Bool.{cases_Bool, cases_eq, eqb-true, eq-eqb, ne_eqb, false≢true}
use Rattle.std.proofs.lemmas.List.{get_or-map, length-map, take_more}
use Rattle.std.proofs.lemmas.List.Elements.{filter_map-append}
use Rattle.std.proofs.lemmas.List.Kept.{AllPairs-from_increasing}
use Rattle.bmx_types.specs.declared.addresses.Place.{Place}
use Rattle.bmx_types.specs.declared.values.Val.TheVariants as val
use Rattle.bmx_token.specs.declared.parts.Part.{Part}
use Rattle.bmx_token.specs.Tokens.{owner_part}
use Rattle.bmx_tokens.proofs.Index.{has, has-Contains}
use Rattle.bmx_memory.specs.Shown.{Shown, Object, known_as, known_with, lies_in, has_copy, Sees}
use Rattle.bmx_protocol.specs.declared.views.Entry.{Entry}
use Rattle.bmx_protocol.specs.declared.views.ViewField.{ViewField}
use Rattle.bmx_protocol.specs.declared.views.ViewField.TheVariants as field
use Rattle.bmx_protocol.specs.Nodes.{NodeState, Known, entry_of}
use Rattle.bmx_protocol.specs.Rules.{told_field, told_fields, heard_field}
use Rattle.bmx_node.specs.Inside.Viewing.{entry_with}

-- ## copies

-- some state that knows what a memory shows
abbrev pub some_state : Shown → NodeState
some_state m = record {
  known = known_with m.object (λ _. owner_part);
  register = λ _. val.Null;
  entering = λ _ _. None;
  issued = λ _. 0;
  taken = λ _. 0;
  clock = 0;
  made = 0;
}

pub some_sees : (m : Shown) → Sees m (some_state m) (lies_in m.places)
some_sees m = record { parts = λ _. owner_part; known = refl; places = λ _. refl }

-- fields that are told are heard as they were
heard_told : (s : NodeState) (lies : ℕ → Place) (fields : List ViewField) → map heard_field (map (told_field s lies) fields) ≡ fields
heard_told s lies [] = refl
heard_told s lies (field.Null ∷ fields) = ap (λ l. field.Null ∷ l) (heard_told s lies fields)
heard_told s lies (field.Int k ∷ fields) = ap (λ l. field.Int k ∷ l) (heard_told s lies fields)
heard_told s lies (field.Ref name ∷ fields) = ap (λ l. field.Ref name ∷ l) (heard_told s lies fields)

-- so those of a copy are
pub copy_heard : (m : Shown) (name : ℕ) → has_copy m name ≡ true →
    Some (map heard_field (told_fields (some_state m) (lies_in m.places) name)) ≡ option_and_then (λ (o : Object). o.copy) (m.object name)
copy_heard m name there = by_object (m.object name) there
  where
    by_copy : (bunch size : ℕ) (copy : Option (List ViewField)) → is_some copy ≡ true →
        Some (map heard_field (map (told_field (some_state m) (lies_in m.places)) (unwrap_or copy []))) ≡ copy
    by_copy bunch size None h = absurd (false≢true h)
    by_copy bunch size (Some fields) h = ap Some (heard_told (some_state m) (lies_in m.places) fields)

    by_object : (o : Option Object) → option_map_or (λ (o : Object). is_some o.copy) o false ≡ true →
        Some (map heard_field (map (told_field (some_state m) (lies_in m.places)) (option_map_or (λ (k : Known). unwrap_or k.copy []) (option_map (known_as owner_part) o) []))) ≡ option_and_then (λ (o : Object). o.copy) o
    by_object None h = absurd (false≢true h)
    by_object (Some o) h = by_copy o.bunch o.size o.copy h

-- who has no copy shows none
pub no_copy_shown : (m : Shown) (name : ℕ) → has_copy m name ≡ false → None ≡ option_and_then (λ (o : Object). o.copy) (m.object name)
no_copy_shown m name none = by_object (m.object name) none
  where
    by_copy : (copy : Option (List ViewField)) → is_some copy ≡ false → None ≡ copy
    by_copy None h = refl
    by_copy (Some fields) h = absurd (false≢true (sym h))

    by_object : (o : Option Object) → option_map_or (λ (o : Object). is_some o.copy) o false ≡ false → None ≡ option_and_then (λ (o : Object). o.copy) o
    by_object None h = refl
    by_object (Some o) h = by_copy o.copy h

-- ## entries

-- what holds of what comes of a call follows from what it says
pub IfOk-from : {T E : Type 0} {P Q : T → Type 0} (r : Result T E) → ((x : T) → P x → Q x) → IfOk r P → IfOk r Q
IfOk-from (Ok x) then h = then x h
IfOk-from (Err e) then h = tt

append_nil : (xs : List Entry) → xs ++ [] ≡ xs
append_nil [] = refl
append_nil (x ∷ xs) = ap (λ l. x ∷ l) (append_nil xs)

module _ (object : ℕ → Option Object) (part : ℕ → Option Part) where
  -- one name more
  module _ (names : List ℕ) (k x : ℕ) (lt : k < length names) (is : x ≡ get_or names k x) (entries : List Entry) (so_far : entries ≡ filter_map (entry_with object part) (take k names)) where
    more : filter_map (entry_with object part) (take (k + 1) names) ≡ entries ++ filter_map (entry_with object part) (x ∷ [])
    more =
        ap (filter_map (entry_with object part)) (take_more names k x lt)
        ∙ filter_map-append (entry_with object part) (take k names) (get_or names k x ∷ [])
        ∙ ap (λ (y : ℕ). filter_map (entry_with object part) (take k names) ++ filter_map (entry_with object part) (y ∷ [])) (sym is)
        ∙ ap (λ (l : List Entry). l ++ filter_map (entry_with object part) (x ∷ [])) (sym so_far)

    pub one_more : (now : List Entry) (e : Entry) (p : Part) → part x ≡ Some p → entry_with object (λ _. Some p) x ≡ Some e → now ≡ entries ++ e ∷ [] →
        now ≡ filter_map (entry_with object part) (take (k + 1) names)
    one_more now e p had makes pushed =
        let it : entry_with object part x ≡ Some e =
        ap (λ (q : Option Part). option_and_then (λ (p : Part). option_map (λ (o : Object). entry_of x (known_as p o)) (object x)) q) had ∙ makes in
        pushed ∙ ap (λ (o : Option Entry). entries ++ cons_option o []) (sym it) ∙ sym more

    pub none_more : (now : List Entry) → part x ≡ None → now ≡ entries → now ≡ filter_map (entry_with object part) (take (k + 1) names)
    none_more now none kept =
        let it : entry_with object part x ≡ None =
        ap (λ (q : Option Part). option_and_then (λ (p : Part). option_map (λ (o : Object). entry_of x (known_as p o)) (object x)) q) none in
        kept ∙ sym (append_nil entries) ∙ ap (λ (o : Option Entry). entries ++ cons_option o []) (sym it) ∙ sym more

  -- an entry has its name
  named : (name : ℕ) (e : Entry) → entry_with object part name ≡ Some e → e.name ≡ name
  named name e is = by (part name) (object name) is
    where
      by : (p : Option Part) (o : Option Object) → option_and_then (λ p. option_map (λ o. entry_of name (known_as p o)) o) p ≡ Some e → e.name ≡ name
      by None o h = cc
      by (Some p) None h = cc
      by (Some p) (Some o) h = let is_it : entry_of name (known_as p o) ≡ e = cc in ap (λ (x : Entry). x.name) (sym is_it)

  none_either : (b : Bool) (o : Option Entry) → o ≡ None → cond b o None ≡ o
  none_either true o none = refl
  none_either false o none = sym none

  -- what is found among the entries of names
  find_listed : (names : List ℕ) (x : ℕ) → find (λ e. eqb e.name x) (filter_map (entry_with object part) names) ≡ cond (has names x) (entry_with object part x) None
  find_listed [] x = refl
  find_listed (n ∷ ns) x = step (entry_with object part n) refl (eqb n x) refl (find_listed ns x)
    where
      step : (o : Option Entry) → entry_with object part n ≡ o → (b : Bool) → eqb n x ≡ b →
          find (λ e. eqb e.name x) (filter_map (entry_with object part) ns) ≡ cond (has ns x) (entry_with object part x) None →
          find (λ e. eqb e.name x) (cons_option o (filter_map (entry_with object part) ns)) ≡ cond (cond b true (has ns x)) (entry_with object part x) None
      step None is true q later =
          let it : entry_with object part x ≡ None = ap (entry_with object part) (sym (eqb-true n x q)) ∙ is in
          later ∙ none_either (has ns x) (entry_with object part x) it
      step None is false q later = later
      step (Some e) is true q later =
          ap (λ (b : Bool). cond b (Some e) (find (λ e. eqb e.name x) (filter_map (entry_with object part) ns))) (ap (λ (y : ℕ). eqb y x) (named n e is) ∙ q)
          ∙ sym is ∙ ap (entry_with object part) (eqb-true n x q)
      step (Some e) is false q later =
          ap (λ (b : Bool). cond b (Some e) (find (λ e. eqb e.name x) (filter_map (entry_with object part) ns))) (ap (λ (y : ℕ). eqb y x) (named n e is) ∙ q)
          ∙ later

  module _ (same : (name : ℕ) → is_some (part name) ≡ is_some (object name)) where
    -- the entry of a name is that of what is known of it
    entry_is : (name : ℕ) → entry_with object part name ≡ option_map (entry_of name) (known_with object (λ x. unwrap_or (part x) owner_part) name)
    entry_is name = by (part name) (object name) (same name)
      where
        by : (p : Option Part) (o : Option Object) → is_some p ≡ is_some o →
            option_and_then (λ p. option_map (λ o. entry_of name (known_as p o)) o) p ≡ option_map (entry_of name) (option_map (known_as (unwrap_or p owner_part)) o)
        by None None h = refl
        by None (Some o) h = absurd (false≢true h)
        by (Some p) None h = refl
        by (Some p) (Some o) h = refl

    -- names that have a token are listed as they are
    all_named : (names : List ℕ) → ((x : ℕ) → Contains names x → IsSome (part x)) → map (λ (e : Entry). e.name) (filter_map (entry_with object part) names) ≡ names
    all_named [] have = refl
    all_named (n ∷ ns) have = by (part n) (object n) (same n) (have n (0, omega arith, refl))
        (all_named ns (λ x there. have x (there.0 + 1, omega (arith, there.1), rw add-one there.2)))
      where
        by : (p : Option Part) (o : Option Object) → is_some p ≡ is_some o → IsSome p → map (λ (e : Entry). e.name) (filter_map (entry_with object part) ns) ≡ ns →
            map (λ (e : Entry). e.name) (cons_option (option_and_then (λ p. option_map (λ o. entry_of n (known_as p o)) o) p) (filter_map (entry_with object part) ns)) ≡ n ∷ ns
        by None o s h later = absurd (false≢true h)
        by (Some p) None s h later = absurd (false≢true (sym s))
        by (Some p) (Some o) s h later = ap (λ (l : List ℕ). n ∷ l) later

    module _ (names : List ℕ) (all : (x : ℕ) → Contains names x ↔ IsSome (part x)) where
      -- the entries rise by name
      pub entries_rise : (entries : List Entry) → IsStrictlyIncreasing names → entries ≡ filter_map (entry_with object part) names → AllPairs (λ (d e : Entry). d.name < e.name) entries
      entries_rise entries rise are i j d low high =
          let names_are : map (λ (e : Entry). e.name) entries ≡ names =
          ap (map (λ (e : Entry). e.name)) are ∙ all_named names (λ x there. (all x).0 there) in
          let many : length (map (λ (e : Entry). e.name) entries) ≡ length entries = length-map entries (λ (e : Entry). e.name) in
          let pairs : AllPairs (λ (x y : ℕ). x < y) (map (λ (e : Entry). e.name) entries) =
          subst (AllPairs (λ (x y : ℕ). x < y)) (sym names_are) (AllPairs-from_increasing names rise) in
          let below : get_or (map (λ (e : Entry). e.name) entries) i d.name < get_or (map (λ (e : Entry). e.name) entries) j d.name = pairs i j d.name low (omega (arith, many)) in
          let at_i : get_or (map (λ (e : Entry). e.name) entries) i d.name ≡ (get_or entries i d).name = get_or-map (λ (e : Entry). e.name) entries i d d.name (omega arith) in
          let at_j : get_or (map (λ (e : Entry). e.name) entries) j d.name ≡ (get_or entries j d).name = get_or-map (λ (e : Entry). e.name) entries j d d.name high in
          subst (λ (x : ℕ). x < (get_or entries j d).name) at_i (subst (λ (y : ℕ). get_or (map (λ (e : Entry). e.name) entries) i d.name < y) at_j below)

      -- and are those of what is known
      pub entries_exact : (entries : List Entry) → entries ≡ filter_map (entry_with object part) names → (x : ℕ) →
          find (λ e. eqb e.name x) entries ≡ option_map (entry_of x) (known_with object (λ y. unwrap_or (part y) owner_part) x)
      entries_exact entries are x =
          ap (find (λ e. eqb e.name x)) are ∙ find_listed names x ∙ by (has names x) refl ∙ entry_is x
        where
          none_of : (o : Option Part) → (IsSome o → ⊥) → o ≡ None
          none_of None h = refl
          none_of (Some p) h = absurd (h refl)

          by : (b : Bool) → has names x ≡ b → cond b (entry_with object part x) None ≡ entry_with object part x
          by true q = refl
          by false q =
              let none : part x ≡ None = none_of (part x) (λ some. false≢true (sym q ∙ has-Contains names x ((all x).1 some))) in
              sym (ap (λ (q : Option Part). option_and_then (λ (p : Part). option_map (λ (o : Object). entry_of x (known_as p o)) (object x)) q) none)
