-- A live object that stands where none of another name did, with the header that its name had forwarded
-- to it.
use Rattle.std.proofs.Common.{◌≡◌, ◌≢◌, ◌⊎◌, ℕ, ◌+◌, ◌*◌, ◌^◌, ◌<◌, true, false, List, ◌∷◌, Option, Some, None, IsSome, is_some, zero, suc, arith, refl, sym, ap, subst, ◌∙◌, inl, inr}
use Rattle.std.proofs.Math.Logic.{∥∥₁_map}
use Rattle.std.specs.Prelude.{◌==◌, if◌then◌else◌, unwrap_or, IsSomeAnd, MatchOption}
use Rattle.std.specs.Int.{w64, cast_signed}
use Rattle.std.specs.Option.{option_map, option_and_then}
use Rattle.std.proofs.lemmas.Bool.{cases_eq, false≢true, eq-eqb, ne_eqb}
use Rattle.std.proofs.lemmas.Option.{none-some, same_Some}
use Rattle.bmx_types.specs.declared.values.Val.{Val}
use Rattle.bmx_types.specs.declared.values.Val.TheVariants as val
use Rattle.bmx_segment.specs.Headers.{kind_of}
use Rattle.bmx_segment.specs.Blocks.{Block}
use Rattle.bmx_segment.specs.Stores.{header_at, word_at}
use Rattle.bmx_segment.specs.declared.headers.Header.{Header}
use Rattle.bmx_segment.specs.declared.headers.State.{State}
use Rattle.bmx_segment.specs.declared.headers.State.TheVariants.{Live, Forwarded, Dead}
use Rattle.bmx_replica.specs.Slots.{slot_of, address_of}
use Rattle.bmx_replica.specs.Inside.Slots.{PutsSlot}
use Rattle.bmx_replica.specs.Chains.{is_live, name_at, living, living_at, Ends, EndsLive, Means, Reaches}
use Rattle.bmx_replica.specs.Layouts.{kinds_in, moves_in}
use Rattle.bmx_replica.specs.Replicas.{Holding, KeepsWords, IsObject, IfObject, IsReplica, IsField, Entry, entry_in, entry_at, field_at, value_in, values_of}
use Rattle.bmx_replica.specs.Inside.Replicas.{IsFound}
use Rattle.bmx_replica.specs.declared.directory.Slot.{Slot}
use Rattle.bmx_replica.proofs.Chained.{map_some, named, name_at-from, alive, living_at-from, not_live, Lives, Lives-here, Lives-on, Leads-kept, Leads-name, Leads-there, Means-from, name_at-means}

-- an object stands at the address of a new slot of its name
pub record Stands (slots' : List (ℕ × Slot)) (slots : List (ℕ × Slot)) (old new : List Block) (n : ℕ) (s : Slot) (h : Header) : Type 0 where
  pub was : IsReplica slots old
  pub puts : PutsSlot slots slots' n (Some s)
  pub there : header_at new s.address ≡ Some h
  pub live : is_live h.state ≡ true
  pub name : h.name ≡ n
  pub before : (t : Header) → header_at old s.address ≡ Some t → t.name ≡ n
  pub headers : (x : ℕ) → x ≢ s.address → (address_of slots n ≡ Some x → ⊥) → header_at new x ≡ header_at old x
  pub gone : (x : ℕ) → x ≢ s.address → address_of slots n ≡ Some x → (t : Header) × (header_at new x ≡ Some t) × (t.state ≡ Forwarded s.address) × (t.name ≡ n)
  pub words : (x i : ℕ) (t : Header) → x ≢ s.address → (address_of slots n ≡ Some x → ⊥) → header_at old x ≡ Some t → is_live t.state ≡ true → i < t.size → word_at new (x + 4 + i) ≡ word_at old (x + 4 + i)
  pub own : (i : ℕ) → i < h.size → IsField old (kind_of (kinds_in h.state) i) (word_at new (s.address + 4 + i))
  pub small : kinds_in h.state < 2 ^ (2 * h.size)
  pub blank : s.has_copy ≡ false → kinds_in h.state ≡ 0

is_it : (o : Option ℕ) (x : ℕ) → (o ≡ Some x) ⊎ (o ≡ Some x → ⊥)
is_it None x = inr (none-some x)
is_it (Some y) x = elim (cases_eq y x) [ inl same ↦ inl (ap Some same) | inr other ↦ inr (λ e. other (same_Some y x e)) ]

-- what the map of addresses becomes
pub address_same : (slots slots' : List (ℕ × Slot)) (n m : ℕ) (o : Option Slot) → PutsSlot slots slots' n o → n ≡ m → slot_of slots' m ≡ o
address_same slots slots' n m o puts same = puts m ∙ ap (λ b. if b then o else slot_of slots m) (eq-eqb n m same)

pub address_other : (slots slots' : List (ℕ × Slot)) (n m : ℕ) (o : Option Slot) → PutsSlot slots slots' n o → n ≢ m → slot_of slots' m ≡ slot_of slots m
address_other slots slots' n m o puts other = puts m ∙ ap (λ b. if b then o else slot_of slots m) (ne_eqb n m other)

-- values that agree are the same
pub values_of-same : (f g : ℕ → Val) (n : ℕ) → ((i : ℕ) → i < n → f i ≡ g i) → values_of f n ≡ values_of g n
values_of-same f g zero same = refl
values_of-same f g (suc n) same = λ j. same 0 (omega arith) j ∷ values_of-same (λ i. f (i + 1)) (λ i. g (i + 1)) n (λ i lt. same (i + 1) (omega arith)) j

-- a word that holds a value holds it where its address has the same name
pub value_in-same : (old new : List Block) (kind w : ℕ) → IsField old kind w → ((x m : ℕ) → name_at old x ≡ Some m → name_at new x ≡ Some m) → value_in new kind w ≡ value_in old kind w
value_in-same old new kind w field names =
    elim (cases_eq kind 2) [
      | inl ref ↦
          let t = map_some (λ (h : Header). h.name) (header_at old w) _ (name_some (header_at old w) (field.there ref)) in
          let is = names w _ (name_some (header_at old w) (field.there ref)) in
          ap (λ (o : Option ℕ). if kind == 1 then val.Int (cast_signed w64 w) else (if kind == 2 then val.Ref (unwrap_or o 0) else val.Null)) (is ∙ sym (name_some (header_at old w) (field.there ref)))
      | inr other ↦
          ap (λ b. if kind == 1 then val.Int (cast_signed w64 w) else (if b then val.Ref (unwrap_or (name_at new w) 0) else val.Null)) (ne_eqb kind 2 other)
          ∙ sym (ap (λ b. if kind == 1 then val.Int (cast_signed w64 w) else (if b then val.Ref (unwrap_or (name_at old w) 0) else val.Null)) (ne_eqb kind 2 other))
    ]
  where
    name_some : (o : Option Header) → IsSome o → option_map (λ (h : Header). h.name) o ≡ Some (unwrap_or (option_map (λ (h : Header). h.name) o) 0)
    name_some None there = absurd (false≢true there)
    name_some (Some h) there = refl

pub IsField-same : (old new : List Block) (kind w : ℕ) → ((x m : ℕ) → name_at old x ≡ Some m → name_at new x ≡ Some m) → IsField old kind w → IsField new kind w
IsField-same old new kind w names field = record {
  known = field.known;
  null = field.null;
  address = field.address;
  there = λ ref. still (header_at old w) (field.there ref) (λ m e. names w m e);
}
  where
    still : (o : Option Header) → IsSome o → ((m : ℕ) → option_map (λ (h : Header). h.name) o ≡ Some m → name_at new w ≡ Some m) → IsSome (header_at new w)
    still None there f = absurd (false≢true there)
    still (Some h) there f = let t = named new w h.name (f h.name refl) in ap is_some t.1

with_fields : Slot → Header → List Val → Entry
with_fields t x fields = record { bunch = x.bunch; size = x.size; place = record { address = t.address; moves = moves_in x.state }; copy = if t.has_copy then Some fields else None }

-- an entry whose words stay is the same
pub with_fields-same : (old new : List Block) (t : Slot) (x : Header)
    → ((i : ℕ) → i < x.size → word_at new (t.address + 4 + i) ≡ word_at old (t.address + 4 + i))
    → ((i : ℕ) → i < x.size → IsField old (kind_of (kinds_in x.state) i) (word_at old (t.address + 4 + i)))
    → ((y m : ℕ) → name_at old y ≡ Some m → name_at new y ≡ Some m) → entry_in new t x ≡ entry_in old t x
unfolding with_fields
with_fields-same old new t x words fields names =
    ap (with_fields t x) (values_of-same (field_at new t.address x) (field_at old t.address x) x.size
    (λ i lt. ap (value_in new (kind_of (kinds_in x.state) i)) (words i lt) ∙ value_in-same old new (kind_of (kinds_in x.state) i) (word_at old (t.address + 4 + i)) (fields i lt) names))

pub entry_from : (sl : List (ℕ × Slot)) (blocks : List Block) (m : ℕ) (t : Slot) (x : Header) → slot_of sl m ≡ Some t → header_at blocks t.address ≡ Some x → entry_at sl blocks m ≡ Some (entry_in blocks t x)
entry_from sl blocks m t x slot there =
    ap (option_and_then (λ (y : Slot). option_map (entry_in blocks y) (header_at blocks y.address))) slot
    ∙ ap (option_map (entry_in blocks t)) there

pub entry_none : (sl : List (ℕ × Slot)) (blocks : List Block) (m : ℕ) → slot_of sl m ≡ None → entry_at sl blocks m ≡ None
entry_none sl blocks m slot = ap (option_and_then (λ (y : Slot). option_map (entry_in blocks y) (header_at blocks y.address))) slot

pub slot_cases : (o : Option Slot) → (o ≡ None) ⊎ ((t : Slot) × (o ≡ Some t))
slot_cases None = inl refl
slot_cases (Some t) = inr (t, refl)

module _ (slots slots' : List (ℕ × Slot)) (old new : List Block) (n : ℕ) (s : Slot) (h : Header) (so : Stands slots' slots old new n s h) where
  -- the old place of the name had its live header
  was_there : (x : ℕ) → address_of slots n ≡ Some x → living_at old x ≡ Some n
  was_there x e = (so.was.entries n x).0 e

  living_name : (x m : ℕ) → living_at old x ≡ Some m → name_at old x ≡ Some m
  living_name x m e = let t = alive old x m e in name_at-from old x t.0 t.1 ∙ ap Some t.3

  named_there : name_at new s.address ≡ Some n
  named_there = name_at-from new s.address h so.there ∙ ap Some so.name

  -- each header keeps its name
  pub names_kept : (x m : ℕ) → name_at old x ≡ Some m → name_at new x ≡ Some m
  names_kept x m e =
      elim (cases_eq x s.address) [
        | inl at ↦
            let t = named old x m e in
            let same : t.0.name ≡ n = so.before t.0 (ap (header_at old) (sym at) ∙ t.1) in
            ap (name_at new) at ∙ named_there ∙ ap Some (sym same ∙ t.2)
        | inr off ↦
            elim (is_it (address_of slots n) x) [
              | inl held ↦
                  let t = so.gone x off held in
                  let same : m ≡ n = same_Some m n (sym e ∙ living_name x n (was_there x held)) in
                  name_at-from new x t.0 t.1 ∙ ap Some (t.3 ∙ sym same)
              | inr not ↦ ap (option_map (λ (h : Header). h.name)) (so.headers x off not) ∙ e
            ]
      ]

  -- each header that changes leads to a live one
  kept : (x : ℕ) → (header_at new x ≡ header_at old x) ⊎ Lives new x
  kept x =
      elim (cases_eq x s.address) [
        | inl at ↦ let L : ℕ → Type 0 = Lives new in inr (subst L (sym at) (Lives-here new s.address h so.there so.live))
        | inr off ↦
            elim (is_it (address_of slots n) x) [
              | inl held ↦ let t = so.gone x off held in inr (Lives-on new x s.address t.0 t.1 t.2 (Lives-here new s.address h so.there so.live))
              | inr not ↦ inl (so.headers x off not)
            ]
      ]

  stands_now : address_of slots' n ≡ Some s.address
  stands_now = ap (option_map (λ (t : Slot). t.address)) (address_same slots slots' n n (Some s) so.puts refl)

  others_now : (m : ℕ) → n ≢ m → address_of slots' m ≡ address_of slots m
  others_now m off = ap (option_map (λ (t : Slot). t.address)) (address_other slots slots' n m (Some s) so.puts off)

  living_there : living_at new s.address ≡ Some n
  living_there = living_at-from new s.address h so.there so.live ∙ ap Some so.name

  -- the forwarded header isn't live
  dead_there : (x m : ℕ) → x ≢ s.address → address_of slots n ≡ Some x → living_at new x ≡ Some m → ⊥
  dead_there x m off held e =
      let t = so.gone x off held in
      let u = alive new x m e in
      not_live u.0.state s.address (ap (λ (y : Header). y.state) (same_Some u.0 t.0 (sym u.1 ∙ t.1)) ∙ t.2) u.2

  living_kept : (x : ℕ) → x ≢ s.address → (address_of slots n ≡ Some x → ⊥) → living_at new x ≡ living_at old x
  living_kept x off not = ap (option_and_then living) (so.headers x off not)

  new_entries : (m a : ℕ) → (address_of slots' m ≡ Some a → living_at new a ≡ Some m) × (living_at new a ≡ Some m → address_of slots' m ≡ Some a)
  new_entries m a =
      elim (cases_eq n m) [
        | inl same ↦ (
          λ e.
              let at : s.address ≡ a = same_Some s.address a (sym stands_now ∙ ap (address_of slots') same ∙ e) in
              ap (living_at new) (sym at) ∙ living_there ∙ ap Some same,
          λ e. elim (cases_eq a s.address) [
            | inl at ↦ ap (address_of slots') (sym same) ∙ stands_now ∙ ap Some (sym at)
            | inr off ↦
                elim (is_it (address_of slots n) a) [
                  | inl held ↦ absurd (dead_there a m off held e)
                  | inr not ↦ absurd (not ((so.was.entries n a).1 (sym (living_kept a off not) ∙ e ∙ ap Some (sym same))))
                ]
          ],
        )
        | inr other ↦ (
          λ e.
              let was : living_at old a ≡ Some m = (so.was.entries m a).0 (sym (others_now m other) ∙ e) in
              elim (cases_eq a s.address) [
                | inl at ↦
                    let t = alive old a m was in
                    absurd (other (sym (so.before t.0 (ap (header_at old) (sym at) ∙ t.1)) ∙ t.3))
                | inr off ↦
                    elim (is_it (address_of slots n) a) [
                      | inl held ↦ absurd (other (same_Some n m (sym (was_there a held) ∙ was)))
                      | inr not ↦ living_kept a off not ∙ was
                    ]
              ],
          λ e. elim (cases_eq a s.address) [
            | inl at ↦ absurd (other (same_Some n m (sym living_there ∙ ap (living_at new) (sym at) ∙ e)))
            | inr off ↦
                elim (is_it (address_of slots n) a) [
                  | inl held ↦ absurd (dead_there a m off held e)
                  | inr not ↦ others_now m other ∙ (so.was.entries m a).1 (sym (living_kept a off not) ∙ e)
                ]
          ],
        )
      ]

  new_forwards : (a c : ℕ) (x : Header) → header_at new a ≡ Some x → x.state ≡ Forwarded c → name_at new c ≡ Some x.name
  new_forwards a c x e f =
      elim (cases_eq a s.address) [
        | inl at ↦
            let is : h ≡ x = same_Some h x (sym so.there ∙ ap (header_at new) (sym at) ∙ e) in
            absurd (not_live h.state c (ap (λ (y : Header). y.state) is ∙ f) so.live)
        | inr off ↦
            elim (is_it (address_of slots n) a) [
              | inl held ↦
                  let t = so.gone a off held in
                  let is : t.0 ≡ x = same_Some t.0 x (sym t.1 ∙ e) in
                  let to : c ≡ s.address = same_to (sym f ∙ sym (ap (λ (y : Header). y.state) is) ∙ t.2) in
                  ap (name_at new) to ∙ named_there ∙ ap Some (sym t.3 ∙ ap (λ (y : Header). y.name) is)
              | inr not ↦ names_kept c x.name (so.was.forwards a c x (sym (so.headers a off not) ∙ e) f)
            ]
      ]
    where
      to_of : State → ℕ
      to_of (Live moves kinds) = 0
      to_of (Forwarded to) = to
      to_of Dead = 0

      same_to : {c b : ℕ} → Forwarded c ≡ Forwarded b → c ≡ b
      same_to e = cc

  new_ends : (a : ℕ) (x : Header) → header_at new a ≡ Some x → ∥ Ends new a ∥₁
  new_ends a x e =
      elim (kept a) [
        | inr l ↦ ∣ l.end ∣₁
        | inl same ↦
            ∥∥₁_map (so.was.ends a x (sym same ∙ e))
            (λ (end : Ends old a).
            elim (Leads-kept old new end.at end.header a kept end.leads) [
              | inl l ↦ let r : Ends new a = record { at = end.at; header = end.header; leads = l } in r
              | inr l ↦ l.end
            ])
      ]

  new_fields : (a i : ℕ) (x : Header) → header_at new a ≡ Some x → is_live x.state ≡ true → i < x.size → IsField new (kind_of (kinds_in x.state) i) (word_at new (a + 4 + i))
  new_fields a i x e live lt =
      elim (cases_eq a s.address) [
        | inl at ↦
            let is : h ≡ x = same_Some h x (sym so.there ∙ ap (header_at new) (sym at) ∙ e) in
            let P : Header → Type 0 = λ y. i < y.size → IsField new (kind_of (kinds_in y.state) i) (word_at new (a + 4 + i)) in
            let Q : ℕ → Type 0 = λ b. IsField old (kind_of (kinds_in h.state) i) (word_at new (b + 4 + i)) in
            let held : P h = λ lt. IsField-same old new (kind_of (kinds_in h.state) i) (word_at new (a + 4 + i)) names_kept (subst Q (sym at) (so.own i lt)) in
            subst P is held lt
        | inr off ↦
            elim (is_it (address_of slots n) a) [
              | inl held ↦
                  let t = so.gone a off held in
                  absurd (not_live x.state s.address (ap (λ (y : Header). y.state) (same_Some x t.0 (sym e ∙ t.1)) ∙ t.2) live)
              | inr not ↦
                  let had : header_at old a ≡ Some x = sym (so.headers a off not) ∙ e in
                  let P : ℕ → Type 0 = λ w. IsField new (kind_of (kinds_in x.state) i) w in
                  subst P (sym (so.words a i x off not had live lt)) (IsField-same old new (kind_of (kinds_in x.state) i) (word_at old (a + 4 + i)) names_kept (so.was.fields a i x had live lt))
            ]
      ]

  unmoved : (m a : ℕ) → n ≢ m → address_of slots m ≡ Some a → (a ≢ s.address) × (address_of slots n ≡ Some a → ⊥)
  unmoved m a other place =
      let was : living_at old a ≡ Some m = (so.was.entries m a).0 place in (
        λ at. let t = alive old a m was in other (sym (so.before t.0 (ap (header_at old) (sym at) ∙ t.1)) ∙ t.3),
        λ held. other (same_Some n m (sym (was_there a held) ∙ was)),
      )

  new_small : (a : ℕ) (x : Header) → header_at new a ≡ Some x → is_live x.state ≡ true → kinds_in x.state < 2 ^ (2 * x.size)
  new_small a x e live =
      elim (cases_eq a s.address) [
        | inl at ↦
            let is : h ≡ x = same_Some h x (sym so.there ∙ ap (header_at new) (sym at) ∙ e) in
            let P : Header → Type 0 = λ y. kinds_in y.state < 2 ^ (2 * y.size) in
            subst P is so.small
        | inr off ↦
            elim (is_it (address_of slots n) a) [
              | inl held ↦
                  let t = so.gone a off held in
                  absurd (not_live x.state s.address (ap (λ (y : Header). y.state) (same_Some x t.0 (sym e ∙ t.1)) ∙ t.2) live)
              | inr not ↦ so.was.small a x (sym (so.headers a off not) ∙ e) live
            ]
      ]

  new_blank : (m : ℕ) (t : Slot) (x : Header) → slot_of slots' m ≡ Some t → t.has_copy ≡ false → header_at new t.address ≡ Some x → kinds_in x.state ≡ 0
  new_blank m t x e none is =
      elim (cases_eq n m) [
        | inl same ↦
            let slot : s ≡ t = same_Some s t (sym (address_same slots slots' n m (Some s) so.puts same) ∙ e) in
            let head : h ≡ x = same_Some h x (sym so.there ∙ ap (λ (y : Slot). header_at new y.address) slot ∙ is) in
            sym (ap (λ (y : Header). kinds_in y.state) head) ∙ so.blank (ap (λ (y : Slot). y.has_copy) slot ∙ none)
        | inr other ↦
            let had : slot_of slots m ≡ Some t = sym (address_other slots slots' n m (Some s) so.puts other) ∙ e in
            let place : address_of slots m ≡ Some t.address = ap (option_map (λ (y : Slot). y.address)) had in
            let away = unmoved m t.address other place in
            so.was.blank m t x had none (sym (so.headers t.address away.0 away.1) ∙ is)
      ]

  -- the replica is one
  pub IsReplica-stands : IsReplica slots' new
  IsReplica-stands = record {
    entries = new_entries;
    forwards = new_forwards;
    ends = new_ends;
    fields = new_fields;
    small = new_small;
    blank = new_blank;
  }

  -- words mean what they meant
  pub Means-stands : (w m : ℕ) → Means old w m → Means new w m
  Means-stands w m means = Means-from slots' new IsReplica-stands w m means.address (names_kept w m (name_at-means slots old so.was w m means.ends))

  -- and reach what they reached
  pub Reaches-stands : (w m : ℕ) → Reaches old w m → Reaches new w m
  Reaches-stands w m reaches = record {
    address = reaches.address;
    ends = ∥∥₁_map reaches.ends (λ (e : EndsLive old w m).
        elim (Leads-kept old new e.end.at e.end.header w kept e.end.leads) [
          | inl l ↦
              let end : Ends new w = record { at = e.end.at; header = e.end.header; leads = l } in
              let r : EndsLive new w m = record { end = end; named = e.named; live = e.live } in r
          | inr l ↦
              let first = Leads-there e.end.leads in
              let is : name_at old w ≡ Some m = name_at-from old w first.0 first.1 ∙ ap Some (sym (Leads-name old so.was.forwards e.end.at e.end.header w first.0 e.end.leads first.1) ∙ e.named) in
              let now = named new w m (names_kept w m is) in
              let r : EndsLive new w m = record { end = l.end; named = Leads-name new new_forwards l.end.at l.end.header w now.0 l.end.leads now.1 ∙ now.2; live = l.live } in r
        ]);
  }

  same_entry : (t : Slot) (x : Header) → t.address ≢ s.address → (address_of slots n ≡ Some t.address → ⊥) → header_at old t.address ≡ Some x → is_live x.state ≡ true → entry_in new t x ≡ entry_in old t x
  same_entry t x off not had live =
      with_fields-same old new t x (λ i lt. so.words t.address i x off not had live lt) (λ i lt. so.was.fields t.address i x had live lt) names_kept

  others_entry : (m : ℕ) → n ≢ m → entry_at slots' new m ≡ entry_at slots old m
  others_entry m other =
      let same = address_other slots slots' n m (Some s) so.puts other in
      elim (slot_cases (slot_of slots m)) [
        | inl none ↦ entry_none slots' new m (same ∙ none) ∙ sym (entry_none slots old m none)
        | inr some ↦
            let t = some.0 in
            let place : address_of slots m ≡ Some t.address = ap (option_map (λ (y : Slot). y.address)) some.1 in
            let away = unmoved m t.address other place in
            let was = alive old t.address m ((so.was.entries m t.address).0 place) in
            entry_from slots' new m t was.0 (same ∙ some.1) (so.headers t.address away.0 away.1 ∙ was.1)
            ∙ ap Some (same_entry t was.0 away.0 away.1 was.1 was.2)
            ∙ sym (entry_from slots old m t was.0 some.1 was.1)
      ]

  -- the name has that entry, and each other name has what it had
  pub Puts-stands : (e : Option Entry) → Some (entry_in new s h) ≡ e → (q : ℕ) → entry_at slots' new q ≡ (if n == q then e else entry_at slots old q)
  Puts-stands e is q =
      elim (cases_eq n q) [
        | inl same ↦
            entry_from slots' new q s h (address_same slots slots' n q (Some s) so.puts same) so.there ∙ is
            ∙ sym (ap (λ b. if b then e else entry_at slots old q) (eq-eqb n q same))
        | inr other ↦ others_entry q other ∙ sym (ap (λ b. if b then e else entry_at slots old q) (ne_eqb n q other))
      ]

-- what all that keeps
pub Keeps-stands : (old new : Holding) (n : ℕ) (s : Slot) (h : Header) → Stands new.slots old.slots old.heap.blocks new.heap.blocks n s h → KeepsWords old new
Keeps-stands old new n s h so = record {
  names = λ x m e. names_kept old.slots new.slots old.heap.blocks new.heap.blocks n s h so x m e;
  meaning = λ x m e. Means-stands old.slots new.slots old.heap.blocks new.heap.blocks n s h so x m e;
  reach = λ x m e. Reaches-stands old.slots new.slots old.heap.blocks new.heap.blocks n s h so x m e;
}

-- what holds of the object that is found
pub of_object : (r : Holding) (n : ℕ) (s : Slot) (h : Header) (P : ℕ → Header → Type 0) → IsFound r.slots r.heap.blocks n s h → P s.address h → IsObject r n P
of_object r n s h P found holds =
    let place : address_of r.slots n ≡ Some s.address = ap (option_map (λ (t : Slot). t.address)) found.slot in
    let Q : Option Header → Type 0 = λ o. IsSomeAnd o (P s.address) in
    let at : Q (header_at r.heap.blocks s.address) = subst Q (sym found.there) holds in
    let R : Option ℕ → Type 0 = λ o. IsSomeAnd o (λ a. IsSomeAnd (header_at r.heap.blocks a) (P a)) in
    subst R (sym place) at

pub if_object : (r : Holding) (n : ℕ) (s : Slot) (h : Header) (none : Type 0) (P : ℕ → Header → Type 0) → IsFound r.slots r.heap.blocks n s h → P s.address h → IfObject r n none P
if_object r n s h none P found holds =
    let place : address_of r.slots n ≡ Some s.address = ap (option_map (λ (t : Slot). t.address)) found.slot in
    let Q : Option Header → Type 0 = λ o. IsSomeAnd o (P s.address) in
    let at : Q (header_at r.heap.blocks s.address) = subst Q (sym found.there) holds in
    let R : Option ℕ → Type 0 = λ o. MatchOption o none (λ a. IsSomeAnd (header_at r.heap.blocks a) (P a)) in
    subst R (sym place) at

pub if_none : (r : Holding) (n : ℕ) (none : Type 0) (P : ℕ → Header → Type 0) → slot_of r.slots n ≡ None → none → IfObject r n none P
if_none r n none P absent holds =
    let R : Option ℕ → Type 0 = λ o. MatchOption o none (λ a. IsSomeAnd (header_at r.heap.blocks a) (P a)) in
    subst R (sym (ap (option_map (λ (t : Slot). t.address)) absent)) holds

-- the object of a slot
pub found_at : (slots : List (ℕ × Slot)) (blocks : List Block) (n : ℕ) (s : Slot) → IsReplica slots blocks → slot_of slots n ≡ Some s → (h : Header) × IsFound slots blocks n s h
found_at slots blocks n s kept slot =
    let t = alive blocks s.address n ((kept.entries n s.address).0 (ap (option_map (λ (y : Slot). y.address)) slot)) in
    (t.0, record { slot = slot; there = t.1; live = t.2; named = t.3 })

pub IsFound-named : (slots : List (ℕ × Slot)) (blocks : List Block) (n : ℕ) (s : Slot) (h : Header) → IsFound slots blocks n s h → IsFound slots blocks h.name s h
IsFound-named slots blocks n s h f = let P : ℕ → Type 0 = λ m. IsFound slots blocks m s h in subst P (sym f.named) f
