-- Infos that are learned one after another.
use Rattle.std.proofs.Common.{◌≡◌, ◌≢◌, ◌⊎◌, ℕ, ◌+◌, ◌<◌, ◌≤◌, suc, length, take, drop, get_or, append_assoc, ◌&&◌, Bool, true, false, List, [], ◌∷◌, ◌++◌, Option, Some, None, refl, sym, ap, subst, ◌∙◌, inl, inr, arith}
use Rattle.std.specs.Prelude.{◌==◌, ◌↔◌, nat_lt, not, if◌then◌else◌, filter_map, All}
use Rattle.std.proofs.lemmas.List.{take_more, take-append-drop}
use Rattle.std.proofs.lemmas.List.Elements.{filter_map-append}
use Rattle.bmx_msg.specs.declared.letters.Field.{Field}
use Rattle.bmx_msg.specs.declared.letters.Field.TheVariants as msg_field
use Rattle.bmx_msg.specs.declared.letters.Field.TheVariants.{Ref}
use Rattle.std.specs.Option.{option_map}
use Rattle.std.proofs.lemmas.Bool.{cases_eq, cases_lt, false≢true, eq-eqb, ne_eqb, eqb-true, lt-ltb, le-ltb, and_from, and_parts}
use Rattle.std.proofs.lemmas.Option.{same_Some}
use Rattle.bmx_types.specs.Words.{index_of}
use Rattle.bmx_types.specs.declared.addresses.Info.{Info}
use Rattle.bmx_segment.specs.declared.headers.Header.{Header}
use Rattle.bmx_segment.specs.Stores.{key_at}
use Rattle.bmx_replica.specs.Layouts.{Ground, LiesOn, blank_header}
use Rattle.bmx_replica.specs.Replicas.{Entry, info_in, learned, at_place, AcceptsOn}
use Rattle.bmx_replica.specs.Letters.{Sketch, info_told, is_newer, with_object, with_learned, CanLearn}
use Rattle.bmx_replica.specs.Inside.Letters.{after, brings_place, known_with, known_after, told_beside, Admits, Clears}
use Rattle.bmx_replica.specs.declared.letters.News.TheVariants.{Clash, Old, New}

-- ---- more of them

pub after-append : (s : Sketch) (xs ys : List Info) → after s (xs ++ ys) ≡ after (after s xs) ys
after-append s [] ys = refl
after-append s (i ∷ xs) ys = after-append (with_learned s i) xs ys

pub CanLearn-append : (s : Sketch) (xs ys : List Info) → CanLearn s xs → CanLearn (after s xs) ys → CanLearn s (xs ++ ys)
CanLearn-append s [] ys one more = more
CanLearn-append s (i ∷ xs) ys one more = (one.0, CanLearn-append (with_learned s i) xs ys one.1 more)

pub CanLearn-front : (s : Sketch) (xs ys : List Info) → CanLearn s (xs ++ ys) → CanLearn s xs
CanLearn-front s [] ys all = tt
CanLearn-front s (i ∷ xs) ys all = (all.0, CanLearn-front (with_learned s i) xs ys all.1)

pub CanLearn-rest : (s : Sketch) (xs ys : List Info) → CanLearn s (xs ++ ys) → CanLearn (after s xs) ys
CanLearn-rest s [] ys all = all
CanLearn-rest s (i ∷ xs) ys all = CanLearn-rest (with_learned s i) xs ys all.1

-- ---- what is known of a name

known_moved : (b : Bool) (n : ℕ) (i : Info) (e : Entry) → info_in n (if b then at_place i.place e else e) ≡ (let k : Info = info_in n e in if b then record k { place = i.place } else k)
known_moved true n i e = refl
known_moved false n i e = refl

known_learned : (n : ℕ) (i : Info) (o : Option Entry) → i.name ≡ n → info_in n (learned i o) ≡ known_with i (option_map (info_in n) o)
known_learned n i None same = ap (λ (m : ℕ). let k : Info = record i { name = m } in k) (sym same)
known_learned n i (Some e) same = known_moved (nat_lt e.place.moves i.place.moves) n i e

known_step : (s : Sketch) (n : ℕ) (i : Info) → option_map (info_in n) ((with_learned s i).entry n) ≡ (if i.name == n then Some (known_with i (option_map (info_in n) (s.entry n))) else option_map (info_in n) (s.entry n))
known_step s n i =
    elim (cases_eq i.name n) [
      | inl same ↦
          ap (λ b. option_map (info_in n) (if b then Some (learned i (s.entry i.name)) else s.entry n)) (eq-eqb i.name n same)
          ∙ ap Some (known_learned n i (s.entry i.name) same ∙ ap (λ m. known_with i (option_map (info_in n) (s.entry m))) same)
          ∙ sym (ap (λ b. if b then Some (known_with i (option_map (info_in n) (s.entry n))) else option_map (info_in n) (s.entry n)) (eq-eqb i.name n same))
      | inr other ↦
          ap (λ b. option_map (info_in n) (if b then Some (learned i (s.entry i.name)) else s.entry n)) (ne_eqb i.name n other)
          ∙ sym (ap (λ b. if b then Some (known_with i (option_map (info_in n) (s.entry n))) else option_map (info_in n) (s.entry n)) (ne_eqb i.name n other))
    ]

pub known_after-is : (s : Sketch) (n : ℕ) (is : List Info) → option_map (info_in n) ((after s is).entry n) ≡ known_after (option_map (info_in n) (s.entry n)) n is
known_after-is s n [] = refl
known_after-is s n (i ∷ more) = known_after-is (with_learned s i) n more ∙ ap (λ o. known_after o n more) (known_step s n i)

pub known_after-append : (o : Option Info) (n : ℕ) (xs ys : List Info) → known_after o n (xs ++ ys) ≡ known_after (known_after o n xs) n ys
known_after-append o n [] ys = refl
known_after-append o n (i ∷ xs) ys = known_after-append (if i.name == n then Some (known_with i o) else o) n xs ys

pub brings_place-is : (i : Info) (n : ℕ) (o : Option Entry) → is_newer i o ≡ brings_place i (option_map (info_in n) o)
brings_place-is i n None = refl
brings_place-is i n (Some e) = refl

-- ---- what an Info tells

admits : (g : Ground) (i : Info) (e : Entry) (like newer at : Bool) → ((e.bunch ≡ i.bunch) × (e.size ≡ i.size) → like ≡ true) → (like ≡ true → (e.bunch ≡ i.bunch) × (e.size ≡ i.size)) → nat_lt e.place.moves i.place.moves ≡ newer
    → (at ≡ true → e.place.address ≡ i.place.address) → (at ≡ false → e.place.address ≢ i.place.address)
    → AcceptsOn g i (Some e) ↔ Admits (if not like then Clash else (if not newer then Old else (if at then Clash else New))) (LiesOn g i.place.address i.name i.size)
admits g i e false newer at must may is same differs = (λ a. false≢true (must (a.0, a.1)), λ x. absurd x)
admits g i e true false at must may is same differs =
    (λ a. tt, λ x. let l = may refl in (l.0, l.1, λ lt. absurd (false≢true (sym is ∙ lt-ltb e.place.moves i.place.moves lt))))
admits g i e true true true must may is same differs =
    (λ a. (a.2 (from_true is)).0 (same refl), λ x. absurd x)
  where
    from_true : nat_lt e.place.moves i.place.moves ≡ true → e.place.moves < i.place.moves
    from_true t = elim (cases_lt e.place.moves i.place.moves) [ inl lt ↦ lt | inr ge ↦ absurd (false≢true (sym (le-ltb e.place.moves i.place.moves ge) ∙ t)) ]
admits g i e true true false must may is same differs =
    (λ a. (a.2 (from_true is)).1, λ x. let l = may refl in (l.0, l.1, λ lt. (differs refl, x)))
  where
    from_true : nat_lt e.place.moves i.place.moves ≡ true → e.place.moves < i.place.moves
    from_true t = elim (cases_lt e.place.moves i.place.moves) [ inl lt ↦ lt | inr ge ↦ absurd (false≢true (sym (le-ltb e.place.moves i.place.moves ge) ∙ t)) ]

pub AcceptsOn-told : (g : Ground) (i : Info) (n : ℕ) (o : Option Entry) → AcceptsOn g i o ↔ Admits (told_beside i (option_map (info_in n) o)) (LiesOn g i.place.address i.name i.size)
AcceptsOn-told g i n None = (λ x. x, λ x. x)
AcceptsOn-told g i n (Some e) =
    admits g i e (e.bunch == i.bunch && e.size == i.size) (nat_lt e.place.moves i.place.moves) (e.place.address == i.place.address)
    (λ a. and_from _ _ (eq-eqb e.bunch i.bunch a.0) (eq-eqb e.size i.size a.1))
    (λ t. let p = and_parts (e.bunch == i.bunch) (e.size == i.size) t in (eqb-true e.bunch i.bunch p.0, eqb-true e.size i.size p.1))
    refl (λ t. eqb-true e.place.address i.place.address t) (λ f is. false≢true (sym f ∙ eq-eqb e.place.address i.place.address is))

old_parts : (like newer at : Bool) → (if not like then Clash else (if not newer then Old else (if at then Clash else New))) ≡ Old → (like ≡ true) × (newer ≡ false)
old_parts false newer at e = absurd (cc)
old_parts true false at e = (refl, refl)
old_parts true true true e = absurd (cc)
old_parts true true false e = absurd (cc)

-- what isn't newer than an entry
older : (i : Info) (n : ℕ) (e : Entry) → told_beside i (Some (info_in n e)) ≡ Old → (e.bunch ≡ i.bunch) × (e.size ≡ i.size) × (i.place.moves ≤ e.place.moves)
older i n e is =
    let p = old_parts (e.bunch == i.bunch && e.size == i.size) (nat_lt e.place.moves i.place.moves) (e.place.address == i.place.address) is in
    let q = and_parts (e.bunch == i.bunch) (e.size == i.size) p.0 in
    (eqb-true e.bunch i.bunch q.0, eqb-true e.size i.size q.1, elim (cases_lt e.place.moves i.place.moves) [ inl lt ↦ absurd (false≢true (sym p.1 ∙ lt-ltb e.place.moves i.place.moves lt)) | inr ge ↦ ge ])

-- an entry keeps its bunch and its size, and never moves back
pub record Grows (e f : Entry) : Type 0 where
  pub bunch : f.bunch ≡ e.bunch
  pub size : f.size ≡ e.size
  pub moves : e.place.moves ≤ f.place.moves

Grows-learned : (i : Info) (e : Entry) → Grows e (learned i (Some e))
Grows-learned i e =
    elim (cases_lt e.place.moves i.place.moves) [
      | inl lt ↦ rw (lt-ltb e.place.moves i.place.moves lt) (record { bunch = refl; size = refl; moves = omega arith })
      | inr ge ↦ rw (le-ltb e.place.moves i.place.moves ge) (record { bunch = refl; size = refl; moves = omega arith })
    ]

grows_one : (s : Sketch) (i : Info) (n : ℕ) (e : Entry) → s.entry n ≡ Some e → (f : Entry) × ((with_learned s i).entry n ≡ Some f) × Grows e f
grows_one s i n e is =
    elim (cases_eq i.name n) [
      | inl same ↦ (
        learned i (Some e),
        ap (λ b. if b then Some (learned i (s.entry i.name)) else s.entry n) (eq-eqb i.name n same) ∙ ap (λ o. Some (learned i o)) (ap s.entry same ∙ is),
        Grows-learned i e,
      )
      | inr other ↦ (
        e,
        ap (λ b. if b then Some (learned i (s.entry i.name)) else s.entry n) (ne_eqb i.name n other) ∙ is,
        record { bunch = refl; size = refl; moves = omega arith },
      )
    ]

grows : (s : Sketch) (n : ℕ) (e : Entry) (is : List Info) → s.entry n ≡ Some e → (f : Entry) × ((after s is).entry n ≡ Some f) × Grows e f
grows s n e [] there = (e, there, record { bunch = refl; size = refl; moves = omega arith })
grows s n e (i ∷ more) there =
    let one = grows_one s i n e there in
    let all = grows (with_learned s i) n one.0 more one.1 in
    let first = one.2.moves in
    let second = all.2.moves in
    (all.0, all.1, record { bunch = all.2.bunch ∙ one.2.bunch; size = all.2.size ∙ one.2.size; moves = omega arith })

-- what is old stays so
pub AcceptsOn-old : (s : Sketch) (i : Info) (is : List Info) → told_beside i (option_map (info_in i.name) (s.entry i.name)) ≡ Old → AcceptsOn (after s is).ground i ((after s is).entry i.name)
AcceptsOn-old s i is old = by (s.entry i.name) refl
  where
    by : (o : Option Entry) → s.entry i.name ≡ o → AcceptsOn (after s is).ground i ((after s is).entry i.name)
    by None e = absurd (new_is_not_old (sym (ap (λ o. told_beside i (option_map (info_in i.name) o)) e) ∙ old))
      where
        new_is_not_old : New ≡ Old → ⊥
        new_is_not_old e = cc
    by (Some x) e =
        let p = older i i.name x (sym (ap (λ o. told_beside i (option_map (info_in i.name) o)) e) ∙ old) in
        let f = grows s i.name x is e in
        let moves = f.2.moves in
        let least = p.2 in
        let P : Option Entry → Type 0 = λ o. AcceptsOn (after s is).ground i o in
        subst P (sym f.1) (f.2.bunch ∙ p.0, f.2.size ∙ p.1, λ lt. absurd (omega arith))

-- ---- where objects can lie

there_or : (g : Ground) (j : Info) (x : ℕ) (o : Header) → (with_object g j).header x ≡ Some o → ((j.place.address ≡ x) × (o ≡ blank_header j)) ⊎ ((j.place.address ≢ x) × (g.header x ≡ Some o))
there_or g j x o e =
    elim (cases_eq j.place.address x) [
      | inl at ↦ inl (at, same_Some o (blank_header j) (sym e ∙ ap (λ b. if b then Some (blank_header j) else g.header x) (eq-eqb j.place.address x at)))
      | inr off ↦ inr (off, sym (ap (λ b. if b then Some (blank_header j) else g.header x) (ne_eqb j.place.address x off)) ∙ e)
    ]

begins : (g : Ground) (j : Info) (x : ℕ) → j.place.address ≡ x → (with_object g j).header x ≡ Some (blank_header j)
begins g j x at = ap (λ b. if b then Some (blank_header j) else g.header x) (eq-eqb j.place.address x at)

stays : (g : Ground) (j : Info) (x : ℕ) → j.place.address ≢ x → (with_object g j).header x ≡ g.header x
stays g j x off = ap (λ b. if b then Some (blank_header j) else g.header x) (ne_eqb j.place.address x off)

-- an object that can lie beside a new one could lie before
LiesOn-before : (g : Ground) (j : Info) (a name size : ℕ) → LiesOn g j.place.address j.name j.size → LiesOn (with_object g j) a name size → LiesOn g a name size
LiesOn-before g j a name size new l = record {
  inside = l.inside;
  alone = λ x o key index e off.
      elim (cases_eq j.place.address x) [
        | inl at ↦
            let like = new.same o (ap g.header at ∙ e) in
            let apart = l.alone x (blank_header j) key index (begins g j x at) off in
            let size = like.1 in
            elim apart [ inl before ↦ inl (omega arith) | inr behind ↦ inr behind ]
        | inr away ↦ l.alone x o key index (stays g j x away ∙ e) off
      ];
  same = λ o e.
      elim (cases_eq j.place.address a) [
        | inl at ↦
            let like = new.same o (ap g.header at ∙ e) in
            let there = l.same (blank_header j) (begins g j a at) in
            (like.0 ∙ there.0, like.1 ∙ there.1)
        | inr away ↦ l.same o (stays g j a away ∙ e)
      ];
  handed = l.handed;
}

-- and is left its place by it
Clears-new : (g : Ground) (j i : Info) → index_of j.place.address < 1024 → LiesOn (with_object g j) i.place.address i.name i.size → Clears j i
Clears-new g j i small l = record {
  alone = λ key off. l.alone j.place.address (blank_header j) key small (begins g j j.place.address refl) off;
  same = λ at. l.same (blank_header j) (begins g j i.place.address at);
}

LiesOn-beside : (g : Ground) (j i : Info) → Clears j i → LiesOn g i.place.address i.name i.size → LiesOn (with_object g j) i.place.address i.name i.size
LiesOn-beside g j i clears l = record {
  inside = l.inside;
  alone = λ x o key index e off.
      elim (there_or g j x o e) [
        | inl there ↦
            let at = there.0 in
            let size : o.size ≡ j.size = ap (λ (h : Header). h.size) there.1 in
            elim (clears.alone (ap key_at at ∙ key) (λ is. off (sym at ∙ is))) [ inl before ↦ inl (omega arith) | inr behind ↦ inr (omega arith) ]
        | inr there ↦ l.alone x o key index there.1 off
      ];
  same = λ o e.
      elim (there_or g j i.place.address o e) [
        | inl there ↦
            let like = clears.same there.0 in
            (ap (λ (h : Header). h.name) there.1 ∙ like.0, ap (λ (h : Header). h.size) there.1 ∙ like.1)
        | inr there ↦ l.same o there.1
      ];
  handed = l.handed;
}

-- what is newer beside an entry that it fits can lie at its place
newer_lies : (g : Ground) (i : Info) (o : Option Entry) → AcceptsOn g i o → is_newer i o ≡ true → LiesOn g i.place.address i.name i.size
newer_lies g i None a newer = a
newer_lies g i (Some e) a newer = (a.2 (elim (cases_lt e.place.moves i.place.moves) [ inl lt ↦ lt | inr ge ↦ absurd (false≢true (sym (le-ltb e.place.moves i.place.moves ge) ∙ newer)) ])).1

ground_case : (b : Bool) (g k : Ground) → ((b ≡ true) × ((if b then g else k) ≡ g)) ⊎ ((b ≡ false) × ((if b then g else k) ≡ k))
ground_case true g k = inl (refl, refl)
ground_case false g k = inr (refl, refl)

module _ (s : Sketch) (j : Info) (accepted : AcceptsOn s.ground j (s.entry j.name)) where
  pub LiesOn-back : (a name size : ℕ) → LiesOn (with_learned s j).ground a name size → LiesOn s.ground a name size
  LiesOn-back a name size l =
      let P : Ground → Type 0 = λ g. LiesOn g a name size in
      elim (ground_case (is_newer j (s.entry j.name)) (with_object s.ground j) s.ground) [
        | inl t ↦ LiesOn-before s.ground j a name size (newer_lies s.ground j (s.entry j.name) accepted t.0) (subst P t.1 l)
        | inr t ↦ subst P t.1 l
      ]

  pub Clears-learned : (i : Info) → index_of j.place.address < 1024 → is_newer j (s.entry j.name) ≡ true → LiesOn (with_learned s j).ground i.place.address i.name i.size → Clears j i
  Clears-learned i small new l =
      let P : Ground → Type 0 = λ g. LiesOn g i.place.address i.name i.size in
      Clears-new s.ground j i small (subst P (ap (λ b. if b then with_object s.ground j else s.ground) new) l)

  pub LiesOn-learned : (i : Info) → (is_newer j (s.entry j.name) ≡ true → Clears j i) → LiesOn s.ground i.place.address i.name i.size → LiesOn (with_learned s j).ground i.place.address i.name i.size
  LiesOn-learned i clears l =
      let P : Ground → Type 0 = λ g. LiesOn g i.place.address i.name i.size in
      elim (ground_case (is_newer j (s.entry j.name)) (with_object s.ground j) s.ground) [
        | inl t ↦ subst P (sym t.1) (LiesOn-beside s.ground j i (clears t.0) l)
        | inr t ↦ subst P (sym t.1) l
      ]

pub LiesOn-first : (s : Sketch) (is : List Info) (a name size : ℕ) → CanLearn s is → LiesOn (after s is).ground a name size → LiesOn s.ground a name size
LiesOn-first s [] a name size all l = l
LiesOn-first s (i ∷ more) a name size all l = LiesOn-back s i all.0 a name size (LiesOn-first (with_learned s i) more a name size all.1 l)

-- ---- the Infos of fields, one more at a time

pub told_more : (fields : List Field) (k : ℕ) (f : Field) → k < length fields → f ≡ get_or fields k f → filter_map info_told (take (k + 1) fields) ≡ filter_map info_told (take k fields) ++ filter_map info_told (f ∷ [])
told_more fields k f lt is =
    ap (filter_map info_told) (take_more fields k f lt)
    ∙ filter_map-append info_told (take k fields) (get_or fields k f ∷ [])
    ∙ ap (λ x. filter_map info_told (take k fields) ++ filter_map info_told (x ∷ [])) (sym is)

-- the Infos in front of a field, its own, and those behind it
pub told_rest : (fields : List Field) (k : ℕ) (f : Field) (i : Info) → k < length fields → f ≡ get_or fields k f → f ≡ Ref i
    → filter_map info_told fields ≡ filter_map info_told (take k fields) ++ (i ∷ filter_map info_told (drop (k + 1) fields))
told_rest fields k f i lt is ref =
    ap (filter_map info_told) (sym (take-append-drop (k + 1) fields))
    ∙ filter_map-append info_told (take (k + 1) fields) (drop (k + 1) fields)
    ∙ ap (λ l. l ++ filter_map info_told (drop (k + 1) fields)) (told_more fields k f lt is ∙ ap (λ x. filter_map info_told (take k fields) ++ filter_map info_told (x ∷ [])) ref)
    ∙ append_assoc (filter_map info_told (take k fields)) (i ∷ []) (filter_map info_told (drop (k + 1) fields))

-- a field with no Info tells none
pub told_none : (f : Field) → ((i : Info) → f ≡ Ref i → ⊥) → filter_map info_told (f ∷ []) ≡ []
told_none msg_field.Null not = refl
told_none (msg_field.Int k) not = refl
told_none (msg_field.Ref i) not = absurd (not i refl)

append_nil : (xs : List Info) → xs ++ [] ≡ xs
append_nil [] = refl
append_nil (x ∷ xs) = ap (λ l. x ∷ l) (append_nil xs)

pub All-tail : {A : Type 0} (P : A → Type 0) (x : A) (xs : List A) → All P (x ∷ xs) → All P xs
All-tail P x xs all = λ k d lt. all (suc k) d (omega arith)

pub All-middle : {A : Type 0} (P : A → Type 0) (xs : List A) (x : A) (ys : List A) → All P (xs ++ (x ∷ ys)) → P x
All-middle P [] x ys all = all 0 x (omega arith)
All-middle P (y ∷ xs) x ys all = All-middle P xs x ys (All-tail P y (xs ++ (x ∷ ys)) all)

pub All-told : (P : Info → Type 0) (object : Info) (fields : List Field) (k : ℕ) (f : Field) (i : Info) → k < length fields → f ≡ get_or fields k f → f ≡ Ref i → All P (object ∷ filter_map info_told fields) → P i
All-told P object fields k f i lt is ref all =
    All-middle P (filter_map info_told (take k fields)) i (filter_map info_told (drop (k + 1) fields))
    (subst (All P) (told_rest fields k f i lt is ref) (All-tail P object (filter_map info_told fields) all))

module _ (s : Sketch) (fields : List Field) (k : ℕ) (f : Field) (lt : k < length fields) (is : f ≡ get_or fields k f) where
  abbrev before : Sketch
  before = after s (filter_map info_told (take k fields))

  -- one Info among others
  pub CanLearn-at : (i : Info) → f ≡ Ref i → CanLearn s (filter_map info_told fields) → AcceptsOn before.ground i (before.entry i.name)
  CanLearn-at i ref all =
      (CanLearn-rest s (filter_map info_told (take k fields)) (i ∷ filter_map info_told (drop (k + 1) fields)) (subst (CanLearn s) (told_rest fields k f i lt is ref) all)).0

  pub Clears-at : (j i : Info) → f ≡ Ref j → index_of j.place.address < 1024 → CanLearn s (filter_map info_told fields) → is_newer j (before.entry j.name) ≡ true
      → LiesOn (after s (filter_map info_told fields)).ground i.place.address i.name i.size → Clears j i
  Clears-at j i ref small all new l =
      let xs : List Info = filter_map info_told (take k fields) in
      let ys : List Info = filter_map info_told (drop (k + 1) fields) in
      let e : filter_map info_told fields ≡ xs ++ (j ∷ ys) = told_rest fields k f j lt is ref in
      let rest : CanLearn before (j ∷ ys) = CanLearn-rest s xs (j ∷ ys) (subst (CanLearn s) e all) in
      let L : Sketch → Type 0 = λ t. LiesOn t.ground i.place.address i.name i.size in
      let last : L (after (with_learned before j) ys) = subst L (ap (after s) e ∙ after-append s xs (j ∷ ys)) l in
      Clears-learned before j rest.0 i small new (LiesOn-first (with_learned before j) ys i.place.address i.name i.size rest.1 last)

  -- one more
  pub after_one : (i : Info) → f ≡ Ref i → after s (filter_map info_told (take (k + 1) fields)) ≡ with_learned before i
  after_one i ref =
      ap (after s) (told_more fields k f lt is ∙ ap (λ x. filter_map info_told (take k fields) ++ filter_map info_told (x ∷ [])) ref)
      ∙ after-append s (filter_map info_told (take k fields)) (i ∷ [])

  pub after_none : ((i : Info) → f ≡ Ref i → ⊥) → filter_map info_told (take (k + 1) fields) ≡ filter_map info_told (take k fields)
  after_none not = told_more fields k f lt is ∙ ap (λ l. filter_map info_told (take k fields) ++ l) (told_none f not) ∙ append_nil (filter_map info_told (take k fields))

  pub CanLearn-one : (i : Info) → f ≡ Ref i → CanLearn s (filter_map info_told (take k fields)) → AcceptsOn before.ground i (before.entry i.name) → CanLearn s (filter_map info_told (take (k + 1) fields))
  CanLearn-one i ref all one =
      subst (CanLearn s) (sym (told_more fields k f lt is ∙ ap (λ x. filter_map info_told (take k fields) ++ filter_map info_told (x ∷ [])) ref))
      (CanLearn-append s (filter_map info_told (take k fields)) (i ∷ []) all (one, tt))

  pub LiesOn-one : (j i : Info) → f ≡ Ref j → CanLearn s (filter_map info_told fields) → (is_newer j (before.entry j.name) ≡ true → Clears j i) → LiesOn before.ground i.place.address i.name i.size
      → LiesOn (after s (filter_map info_told (take (k + 1) fields))).ground i.place.address i.name i.size
  LiesOn-one j i ref all clears l =
      let L : Sketch → Type 0 = λ t. LiesOn t.ground i.place.address i.name i.size in
      subst L (sym (after_one j ref)) (LiesOn-learned before j (CanLearn-at j ref all) i clears l)
