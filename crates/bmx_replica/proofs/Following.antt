-- What can be learned once an Info was learned.
use Rattle.std.proofs.Common.{◌≡◌, ◌≢◌, ℕ, Bool, true, false, List, [], ◌∷◌, Option, Some, None, IsSomeAnd, refl, sym, ap, subst, ◌∙◌, inl, inr, arith}
use Rattle.std.specs.Prelude.{◌==◌, ◌↔◌, if◌then◌else◌}
use Rattle.std.specs.Bool.{MatchBool}
use Rattle.std.specs.Option.{option_map}
use Rattle.std.proofs.lemmas.Bool.{cases_eq, cases_lt, lt-ltb, le-ltb, eq-eqb, ne_eqb}
use Rattle.std.proofs.lemmas.Option.{none-some, same_Some}
use Rattle.bmx_types.specs.declared.addresses.Info.{Info}
use Rattle.bmx_types.specs.Words.{segment_of}
use Rattle.bmx_segment.specs.declared.headers.Header.{Header}
use Rattle.bmx_segment.specs.declared.headers.State.TheVariants.{Live, Forwarded}
use Rattle.bmx_segment.specs.declared.segments.Own.{Own}
use Rattle.bmx_segment.specs.Blocks.{Block}
use Rattle.bmx_segment.specs.Stores.{header_at, Lays}
use Rattle.bmx_segment.specs.Heaps.{Heap, handed_in, own_at}
use Rattle.bmx_replica.specs.Slots.{slot_of, address_of}
use Rattle.bmx_replica.specs.Layouts.{Ground, ground_of, LiesOn, MapsThen, Moves, blank_header, kinds_in}
use Rattle.bmx_replica.specs.Replicas.{Holding, Entry, IsReplica, IsObject, Learns, TakesPlace, Accepts, AcceptsOn, entry_of, entry_in, learned}
use Rattle.bmx_replica.specs.Letters.{Sketch, sketch_of, is_newer, with_object, with_learned, CanLearn}
use Rattle.bmx_replica.specs.Inside.Replicas.{IsFound}
use Rattle.bmx_replica.specs.declared.directory.Slot.{Slot}
use Rattle.bmx_replica.proofs.Chained.{map_some}
use Rattle.bmx_replica.proofs.Standing.{found_at}
use Rattle.bmx_replica.proofs.Fielded.{entry_at-found}

-- the name and the size in a header
abbrev shape : Header → ℕ × ℕ
shape h = (h.name, h.size)

-- objects can lie on both alike
record IsLike (g k : Ground) : Type 0 where
  me : k.me ≡ g.me
  given_out : (n : ℕ) → k.given_out n ≡ g.given_out n
  header : (x : ℕ) → option_map shape (k.header x) ≡ option_map shape (g.header x)

turned : {g k : Ground} → IsLike g k → IsLike k g
turned like = record { me = sym like.me; given_out = λ n. sym (like.given_out n); header = λ x. sym (like.header x) }

LiesOn-like : (g k : Ground) (a name size : ℕ) → IsLike g k → LiesOn g a name size → LiesOn k a name size
LiesOn-like g k a name size like l =
    let there : (x : ℕ) (o : Header) → k.header x ≡ Some o → (p : Header) × (g.header x ≡ Some p) × (shape p ≡ shape o) = λ x o e. map_some shape (g.header x) (shape o) (sym (like.header x) ∙ ap (option_map shape) e) in
    record {
      inside = l.inside;
      alone = λ x o key index e off.
          let p = there x o e in
          let same : p.0.size ≡ o.size = ap (λ (s : ℕ × ℕ). s.1) p.2 in
          elim (l.alone x p.0 key index p.1 off) [ inl before ↦ inl (omega arith) | inr behind ↦ inr behind ];
      same = λ o e.
          let p = there a o e in
          let is = l.same p.0 p.1 in
          (sym (ap (λ (s : ℕ × ℕ). s.0) p.2) ∙ is.0, sym (ap (λ (s : ℕ × ℕ). s.1) p.2) ∙ is.1);
      handed = λ home.
          let h = l.handed (home ∙ like.me) in
          let n = like.given_out (segment_of a) in
          omega arith;
    }

AcceptsOn-like : (g k : Ground) (i : Info) (o : Option Entry) → IsLike g k → AcceptsOn g i o → AcceptsOn k i o
AcceptsOn-like g k i None like a = LiesOn-like g k i.place.address i.name i.size like a
AcceptsOn-like g k i (Some e) like a = (a.0, a.1, λ lt. let l = a.2 lt in (l.0, LiesOn-like g k i.place.address i.name i.size like l.1))

-- and Infos can be learned alike
record Alike (s t : Sketch) : Type 0 where
  entry : (n : ℕ) → t.entry n ≡ s.entry n
  ground : IsLike s.ground t.ground

with_object-like : (b : Bool) (g k : Ground) (i : Info) → IsLike g k → IsLike (if b then with_object g i else g) (if b then with_object k i else k)
with_object-like false g k i like = like
with_object-like true g k i like = record {
  me = like.me;
  given_out = like.given_out;
  header = λ x. by (i.place.address == x) (k.header x) (g.header x) (like.header x);
}
  where
    by : (b : Bool) (o p : Option Header) → option_map shape o ≡ option_map shape p → option_map shape (if b then Some (blank_header i) else o) ≡ option_map shape (if b then Some (blank_header i) else p)
    by true o p e = refl
    by false o p e = e

with_learned-alike : (s t : Sketch) (i : Info) → Alike s t → Alike (with_learned s i) (with_learned t i)
with_learned-alike s t i like =
    let B : Bool → Type 0 = λ b. IsLike (if is_newer i (s.entry i.name) then with_object s.ground i else s.ground) (if b then with_object t.ground i else t.ground) in
    record {
      entry = λ n.
          ap (λ o. if i.name == n then Some (learned i o) else t.entry n) (like.entry i.name)
          ∙ ap (λ o. if i.name == n then Some (learned i (s.entry i.name)) else o) (like.entry n);
      ground = subst B (sym (ap (is_newer i) (like.entry i.name))) (with_object-like (is_newer i (s.entry i.name)) s.ground t.ground i like.ground);
    }

CanLearn-alike : (s t : Sketch) (is : List Info) → Alike s t → CanLearn s is → CanLearn t is
CanLearn-alike s t [] like all = tt
CanLearn-alike s t (i ∷ more) like all =
    let A : Option Entry → Type 0 = λ o. AcceptsOn t.ground i o in
    (subst A (sym (like.entry i.name)) (AcceptsOn-like s.ground t.ground i (s.entry i.name) like.ground all.0), CanLearn-alike (with_learned s i) (with_learned t i) more (with_learned-alike s t i like) all.1)

-- ---- what learning makes of a replica

from_object : (r : Holding) (n : ℕ) (P : ℕ → Header → Type 0) (s : Slot) (h : Header) → IsFound r.slots r.heap.blocks n s h → IsObject r n P → P s.address h
from_object r n P s h found holds =
    let place : address_of r.slots n ≡ Some s.address = ap (option_map (λ (t : Slot). t.address)) found.slot in
    let R : Option ℕ → Type 0 = λ o. IsSomeAnd o (λ a. IsSomeAnd (header_at r.heap.blocks a) (P a)) in
    let Q : Option Header → Type 0 = λ o. IsSomeAnd o (P s.address) in
    subst Q found.there (subst R place holds)

same_rest : (old new : Heap) (a : ℕ) (change : List Block → List Block → Type 0) → MapsThen old new a change → (new.me ≡ old.me) × ((n : ℕ) → handed_in (own_at new.own n) ≡ handed_in (own_at old.own n))
same_rest old new a change m = (
  ap (λ (h : Heap). h.me) m.rest ∙ ap (λ (h : Heap). h.me) m.maps.rest,
  λ n. ap (λ (os : List Own). handed_in (own_at os n)) (ap (λ (h : Heap). h.own) m.rest ∙ ap (λ (h : Heap). h.own) m.maps.rest),
)

put_there : (a x : ℕ) (h : Header) (o : Option Header) → a ≡ x → (if a == x then Some h else o) ≡ Some h
put_there a x h o at = ap (λ b. if b then Some h else o) (eq-eqb a x at)

put_other : (a x : ℕ) (h : Header) (o : Option Header) → a ≢ x → (if a == x then Some h else o) ≡ o
put_other a x h o off = ap (λ b. if b then Some h else o) (ne_eqb a x off)

module _ (old new : Holding) (i : Info) (kept : IsReplica old.slots old.heap.blocks) where
  of_new : MapsThen old.heap new.heap i.place.address (λ before after. Lays before after i.place.address (blank_header i) (λ _. 0)) → IsLike (with_object (ground_of old.heap) i) (ground_of new.heap)
  of_new m =
      let rest = same_rest old.heap new.heap i.place.address _ m in
      record {
        me = rest.0;
        given_out = rest.1;
        header = λ x. ap (option_map shape) (m.changes.headers x ∙ ap (λ o. if i.place.address == x then Some (blank_header i) else o) (m.maps.mapped.headers x));
      }

  of_moved : (s : Slot) (h : Header) → IsFound old.slots old.heap.blocks i.name s h → s.address ≢ i.place.address → h.size ≡ i.size → MapsThen old.heap new.heap i.place.address (λ before after. Moves before after s.address i.place h) → IsLike (with_object (ground_of old.heap) i) (ground_of new.heap)
  of_moved s h found off size m =
      let rest = same_rest old.heap new.heap i.place.address _ m in
      let to : Header = record h { state = Live i.place.moves (kinds_in h.state) } in
      let gone : Header = record h { state = Forwarded i.place.address } in
      let there : (if i.place.address == s.address then Some (blank_header i) else header_at old.heap.blocks s.address) ≡ Some h = put_other i.place.address s.address (blank_header i) _ (λ e. off (sym e)) ∙ found.there in
      record {
        me = rest.0;
        given_out = rest.1;
        header = λ x.
            elim (cases_eq s.address x) [
              | inl at ↦
                  ap (option_map shape) (m.changes.forwards.headers x ∙ put_there s.address x gone _ at)
                  ∙ sym (ap (option_map shape) (ap (λ y. if i.place.address == y then Some (blank_header i) else header_at old.heap.blocks y) (sym at) ∙ there))
              | inr away ↦
                  ap (option_map shape) (m.changes.forwards.headers x ∙ put_other s.address x gone _ away ∙ m.changes.lays.headers x)
                  ∙ elim (cases_eq i.place.address x) [
                    | inl here ↦
                        ap (option_map shape) (put_there i.place.address x to _ here)
                        ∙ (λ k. Some (found.named k, size k))
                        ∙ sym (ap (option_map shape) (put_there i.place.address x (blank_header i) (header_at old.heap.blocks x) here))
                    | inr out ↦
                        ap (option_map shape) (put_other i.place.address x to _ out ∙ m.maps.mapped.headers x ∙ sym (put_other i.place.address x (blank_header i) (header_at old.heap.blocks x) out))
                  ]
            ];
      }

  of_none : (o : Option Entry) → entry_of old i.name ≡ o → Accepts old.heap i o → TakesPlace old new i o → IsLike (if is_newer i o then with_object (ground_of old.heap) i else ground_of old.heap) (ground_of new.heap)
  of_none None is a placed = of_new placed
  of_none (Some e) is a placed =
      elim (cases_lt e.place.moves i.place.moves) [
        | inl lt ↦
            let test = lt-ltb e.place.moves i.place.moves lt in
            let M : Bool → Type 0 = λ b. MatchBool b (IsObject old i.name (λ a h. MapsThen old.heap new.heap i.place.address (λ before after. Moves before after a i.place h))) (new ≡ old) in
            let moved : M true = subst M test placed in
            let f = some_slot (slot_of old.slots i.name) refl in
            let found = found_at old.slots old.heap.blocks i.name f.0 kept f.1 in
            let same : entry_in old.heap.blocks f.0 found.0 ≡ e = same_Some _ e (sym (entry_at-found old.slots old.heap.blocks i.name f.0 found.0 found.1) ∙ is) in
            let off : f.0.address ≢ i.place.address = λ at. (a.2 lt).0 (sym (ap (λ (x : Entry). x.place.address) same) ∙ at) in
            let L : Bool → Type 0 = λ b. IsLike (if b then with_object (ground_of old.heap) i else ground_of old.heap) (ground_of new.heap) in
            subst L (sym test) (of_moved f.0 found.0 found.1 off (ap (λ (x : Entry). x.size) same ∙ a.1) (from_object old i.name _ f.0 found.0 found.1 moved))
        | inr ge ↦
            let test = le-ltb e.place.moves i.place.moves ge in
            let M : Bool → Type 0 = λ b. MatchBool b (IsObject old i.name (λ a h. MapsThen old.heap new.heap i.place.address (λ before after. Moves before after a i.place h))) (new ≡ old) in
            let stays : M false = subst M test placed in
            let L : Bool → Type 0 = λ b. IsLike (if b then with_object (ground_of old.heap) i else ground_of old.heap) (ground_of new.heap) in
            let H : Holding → Type 0 = λ r. IsLike (ground_of old.heap) (ground_of r.heap) in
            subst L (sym test) (subst H (sym stays) (record { me = refl; given_out = λ n. refl; header = λ x. refl }))
      ]
    where
      some_slot : (o : Option Slot) → slot_of old.slots i.name ≡ o → (s : Slot) × (slot_of old.slots i.name ≡ Some s)
      some_slot (Some s) e = (s, e)
      some_slot None e = absurd (none-some _ (sym (ap (λ (o : Option Slot). none_of o) e) ∙ is))
        where
          none_of : Option Slot → Option Entry
          none_of None = None
          none_of (Some s) = option_map (entry_in old.heap.blocks s) (header_at old.heap.blocks s.address)

  Alike-learned : Learns old new i → Alike (with_learned (sketch_of old) i) (sketch_of new)
  Alike-learned l = record { entry = λ n. l.entry n; ground = of_none (entry_of old i.name) refl l.accepted l.places }

back : {s t : Sketch} → Alike s t → Alike t s
back like = record { entry = λ n. sym (like.entry n); ground = turned like.ground }

-- the others can be learned before an Info was as after it
pub CanLearn-goes_on : (old new : Holding) (i : Info) (more : List Info) → IsReplica old.slots old.heap.blocks → Learns old new i → CanLearn (sketch_of old) (i ∷ more) ↔ CanLearn (sketch_of new) more
CanLearn-goes_on old new i more kept l =
    let like = Alike-learned old new i kept l in (
      λ all. CanLearn-alike (with_learned (sketch_of old) i) (sketch_of new) more like all.1,
      λ rest. (l.accepted, CanLearn-alike (sketch_of new) (with_learned (sketch_of old) i) more (back like) rest),
    )
