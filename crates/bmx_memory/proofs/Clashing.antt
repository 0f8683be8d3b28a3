-- What a replica says of Infos that come one after another is what the rules say of them.
use Rattle.std.proofs.Common.{◌≡◌, ◌≢◌, ℕ, Bool, true, false, List, [], ◌∷◌, Option, Some, None, refl, sym, ap, subst, ◌∙◌, inl, inr}
use Rattle.std.specs.Prelude.{◌==◌, ◌||◌, ◌&&◌, ◌↔◌, not, nat_lt, if◌then◌else◌, is_some, unwrap_or, filter_map}
use Rattle.std.specs.Option.{option_map, option_map_or}
use Rattle.std.proofs.lemmas.Bool.{cases_eq, cases_lt, cases_Bool, false≢true, or_parts, or_from, and_parts, and_from, eq-eqb, ne_eqb, eqb-true, lt-ltb, le-ltb}
use Rattle.std.proofs.lemmas.Option.{none-some, same_Some}
use Rattle.bmx_types.specs.Updates.{put}
use Rattle.bmx_types.specs.declared.addresses.Info.{Info}
use Rattle.bmx_types.specs.declared.addresses.Place.{Place}
use Rattle.bmx_msg.specs.declared.letters.Field.{Field}
use Rattle.bmx_msg.specs.declared.letters.Field.TheVariants as msg_field
use Rattle.bmx_msg.specs.declared.letters.Msg.{Msg}
use Rattle.bmx_msg.specs.declared.letters.Msg.TheVariants as msg
use Rattle.bmx_segment.specs.Stores.{header_at}
use Rattle.bmx_segment.specs.declared.headers.Header.{Header as HeaderWords}
use Rattle.bmx_token.specs.declared.parts.Part.{Part}
use Rattle.bmx_replica.specs.Layouts.{Ground, LiesOn, blank_header}
use Rattle.bmx_replica.specs.Replicas.{Holding, Entry, entry_of, learned, at_place, AcceptsOn}
use Rattle.bmx_replica.specs.Letters.{Sketch, sketch_of, is_newer, with_learned, CanLearn, infos_in, info_told}
use Rattle.bmx_replica.specs.Letters.{with_object as with_begun}
use Rattle.bmx_protocol.specs.Nodes.{Known}
use Rattle.bmx_protocol.specs.Places.{Places, Header, Lives, with_object, with_went, with_learnt, learn_at, differs, clashes_at, is_barred}
use Rattle.bmx_protocol.specs.Changes.{heard, heard_of}
use Rattle.bmx_protocol.specs.Rules.{infos, info_in}
use Rattle.bmx_protocol.specs.Strays.{clashes, some_clash}
use Rattle.bmx_memory.specs.Shown.{known_with, known_as, object_of, places_of, header_of}
use Rattle.bmx_memory.proofs.Barred.{IsGround, outline, outline_in, lies_on, not_barred, not_false}

-- the bunch and the size of what is known, and of an entry
abbrev pub extent : Option Known → Option (ℕ × ℕ)
extent o = option_map (λ (k : Known). (k.bunch, k.size)) o

abbrev pub extent_in : Option Entry → Option (ℕ × ℕ)
extent_in o = option_map (λ (e : Entry). (e.bunch, e.size)) o

abbrev pub place_in : Option Entry → Option Place
place_in o = option_map (λ (e : Entry). e.place) o

-- a sketch is one of what is known and of where objects lie
pub record IsSketch (me : ℕ) (known : ℕ → Option Known) (a : Places) (s : Sketch) : Type 0 where
  pub extents : (n : ℕ) → extent (known n) ≡ extent_in (s.entry n)
  pub places : (n : ℕ) → a.place n ≡ place_in (s.entry n)
  pub ground : IsGround me a s.ground

-- ## one Info

accepted : (me : ℕ) (a : Places) (g : Ground) (i : Info) (known : Option Known) (place : Option Place) (entry : Option Entry)
    → extent known ≡ extent_in entry → place ≡ place_in entry → IsGround me a g
    → (option_map_or (λ k. differs k i) known false || clashes_at me a i place) ≡ false → AcceptsOn g i entry
accepted me a g i None place None extents places is fails = lies_on me a g is i.name i.size i.place.address (sym (ap (clashes_at me a i) places) ∙ fails)
accepted me a g i (Some k) place None extents places is fails = absurd (none-some (k.bunch, k.size) (sym extents))
accepted me a g i None place (Some e) extents places is fails = absurd (none-some (e.bunch, e.size) extents)
accepted me a g i (Some k) place (Some e) extents places is fails =
    let same : (k.bunch, k.size) ≡ (e.bunch, e.size) = same_Some (k.bunch, k.size) (e.bunch, e.size) extents in
    let parts = or_parts (differs k i) (clashes_at me a i place) fails in
    let like = and_parts (k.bunch == i.bunch) (k.size == i.size) (not_false (k.bunch == i.bunch && k.size == i.size) parts.0) in
    let at = sym (ap (clashes_at me a i) places) ∙ parts.1 in (
      sym (ap (λ (s : ℕ × ℕ). s.0) same) ∙ eqb-true k.bunch i.bunch like.0,
      sym (ap (λ (s : ℕ × ℕ). s.1) same) ∙ eqb-true k.size i.size like.1,
      λ newer. by_address (e.place.address == i.place.address) refl (sym (ap (λ b. if b then (if e.place.address == i.place.address then true else is_barred me a i.name i.size i.place.address) else false) (lt-ltb e.place.moves i.place.moves newer)) ∙ at),
    )
  where
    by_address : (b : Bool) → (e.place.address == i.place.address) ≡ b → (if b then true else is_barred me a i.name i.size i.place.address) ≡ false
        → (e.place.address ≢ i.place.address) × LiesOn g i.place.address i.name i.size
    by_address true same fails = absurd (false≢true (sym fails))
    by_address false other fails = (λ same. false≢true (sym other ∙ eq-eqb e.place.address i.place.address same), lies_on me a g is i.name i.size i.place.address fails)

no_clash : (me : ℕ) (a : Places) (g : Ground) (i : Info) (known : Option Known) (place : Option Place) (entry : Option Entry)
    → extent known ≡ extent_in entry → place ≡ place_in entry → IsGround me a g
    → AcceptsOn g i entry → (option_map_or (λ k. differs k i) known false || clashes_at me a i place) ≡ false
no_clash me a g i None place None extents places is accepts = ap (clashes_at me a i) places ∙ not_barred me a g is i.name i.size i.place.address accepts
no_clash me a g i (Some k) place None extents places is accepts = absurd (none-some (k.bunch, k.size) (sym extents))
no_clash me a g i None place (Some e) extents places is accepts = absurd (none-some (e.bunch, e.size) extents)
no_clash me a g i (Some k) place (Some e) extents places is accepts =
    let same : (k.bunch, k.size) ≡ (e.bunch, e.size) = same_Some (k.bunch, k.size) (e.bunch, e.size) extents in
    let like = and_from (k.bunch == i.bunch) (k.size == i.size) (eq-eqb k.bunch i.bunch (ap (λ (s : ℕ × ℕ). s.0) same ∙ accepts.0)) (eq-eqb k.size i.size (ap (λ (s : ℕ × ℕ). s.1) same ∙ accepts.1)) in
    or_from (differs k i) (clashes_at me a i place) (ap not like) (ap (clashes_at me a i) places ∙ by_moves)
  where
    by_moves : clashes_at me a i (Some e.place) ≡ false
    by_moves =
        elim (cases_lt e.place.moves i.place.moves) [
          | inl newer ↦
              let free = accepts.2 newer in
              ap (λ b. if b then (if e.place.address == i.place.address then true else is_barred me a i.name i.size i.place.address) else false) (lt-ltb e.place.moves i.place.moves newer)
              ∙ ap (λ b. if b then true else is_barred me a i.name i.size i.place.address) (ne_eqb e.place.address i.place.address free.0)
              ∙ not_barred me a g is i.name i.size i.place.address free.1
          | inr old ↦ ap (λ b. if b then (if e.place.address == i.place.address then true else is_barred me a i.name i.size i.place.address) else false) (le-ltb e.place.moves i.place.moves old)
        ]

-- an Info clashes with nothing exactly where a replica accepts it
pub accepts_unless : (me : ℕ) (known : ℕ → Option Known) (a : Places) (s : Sketch) (i : Info) → IsSketch me known a s → clashes me known a i ≡ false → AcceptsOn s.ground i (s.entry i.name)
accepts_unless me known a s i is fails = accepted me a s.ground i (known i.name) (a.place i.name) (s.entry i.name) (is.extents i.name) (is.places i.name) is.ground fails

pub unless_accepts : (me : ℕ) (known : ℕ → Option Known) (a : Places) (s : Sketch) (i : Info) → IsSketch me known a s → AcceptsOn s.ground i (s.entry i.name) → clashes me known a i ≡ false
unless_accepts me known a s i is accepts = no_clash me a s.ground i (known i.name) (a.place i.name) (s.entry i.name) (is.extents i.name) (is.places i.name) is.ground accepts

-- ## once an Info is learnt

-- what a name has then
abbrev then_at : {A : Type 0} → ℕ → ℕ → A → Option A → Option A
then_at name n v o = if name == n then Some v else o

heard_extent : (from : ℕ) (known : ℕ → Option Known) (i : Info) (n : ℕ) (o : Option Known) → known i.name ≡ o
    → extent ((if is_some o then known else put known i.name (Some (heard_of from i))) n) ≡ then_at i.name n (unwrap_or (extent o) (i.bunch, i.size)) (extent (known n))
heard_extent from known i n None none = by (i.name == n) refl
  where
    by : (b : Bool) → (i.name == n) ≡ b → extent (if b then Some (heard_of from i) else known n) ≡ (if b then Some (i.bunch, i.size) else extent (known n))
    by true e = refl
    by false e = refl
heard_extent from known i n (Some k) some = by (i.name == n) refl
  where
    by : (b : Bool) → (i.name == n) ≡ b → extent (known n) ≡ (if b then Some (k.bunch, k.size) else extent (known n))
    by true e = ap (λ m. extent (known m)) (sym (eqb-true i.name n e)) ∙ ap extent some
    by false e = refl

learned_extent : (i : Info) (o : Option Entry) (b : Bool) (e : Option Entry) → extent_in (if b then Some (learned i o) else e) ≡ (if b then Some (unwrap_or (extent_in o) (i.bunch, i.size)) else extent_in e)
learned_extent i None true e = refl
learned_extent i None false e = refl
learned_extent i (Some x) false e = refl
learned_extent i (Some x) true e = by (nat_lt x.place.moves i.place.moves)
  where
    by : (b : Bool) → extent_in (Some (if b then at_place i.place x else x)) ≡ Some (x.bunch, x.size)
    by true = refl
    by false = refl

-- the place that is kept
abbrev kept : Info → Option Place → Place
kept i None = i.place
kept i (Some old) = if nat_lt old.moves i.place.moves then i.place else old

learnt_place : (a : Places) (i : Info) (n : ℕ) (o : Option Place) → a.place i.name ≡ o → (learn_at a i o).place n ≡ then_at i.name n (kept i o) (a.place n)
learnt_place a i n None none = refl
learnt_place a i n (Some old) some = by_moves (nat_lt old.moves i.place.moves)
  where
    by_name : (b : Bool) → (i.name == n) ≡ b → a.place n ≡ (if b then Some old else a.place n)
    by_name true e = ap a.place (sym (eqb-true i.name n e)) ∙ some
    by_name false e = refl

    by_moves : (b : Bool) → (if b then with_object (with_went a old.address i.place.address) i.name i.size i.place else a).place n ≡ then_at i.name n (if b then i.place else old) (a.place n)
    by_moves true = refl
    by_moves false = by_name (i.name == n) refl

learned_place : (i : Info) (o : Option Entry) (b : Bool) (e : Option Entry) → place_in (if b then Some (learned i o) else e) ≡ (if b then Some (kept i (place_in o)) else place_in e)
learned_place i None true e = refl
learned_place i None false e = refl
learned_place i (Some x) false e = refl
learned_place i (Some x) true e = by (nat_lt x.place.moves i.place.moves)
  where
    by : (b : Bool) → place_in (Some (if b then at_place i.place x else x)) ≡ Some (if b then i.place else x.place)
    by true = refl
    by false = refl

-- the place in an Info is taken
abbrev takes : Info → Option Place → Bool
takes i None = true
takes i (Some old) = nat_lt old.moves i.place.moves

went_outline : (a : Places) (old new x : ℕ) → outline ((with_went a old new).header x) ≡ outline (a.header x)
went_outline a old new x =
    elim (cases_eq old x) [
      | inl same ↦ subst (λ z. outline ((with_went a old new).header z) ≡ outline (a.header z)) same (at_old (a.header old) refl)
      | inr other ↦ rw (ne_eqb old x other) refl
    ]
  where
    at_old : (o : Option Header) → a.header old ≡ o → outline ((with_went a old new).header old) ≡ outline (a.header old)
    at_old None is = rw (is, eq-eqb old old refl) refl
    at_old (Some h) is = rw (is, eq-eqb old old refl) refl

learnt_handed : (a : Places) (i : Info) (o : Option Place) (k : ℕ) → (learn_at a i o).handed k ≡ a.handed k
learnt_handed a i None k = refl
learnt_handed a i (Some old) k = by (nat_lt old.moves i.place.moves)
  where
    by : (b : Bool) → (if b then with_object (with_went a old.address i.place.address) i.name i.size i.place else a).handed k ≡ a.handed k
    by true = refl
    by false = refl

-- the outline of a header that begins at an address, where the place in an Info is taken
abbrev begun : Info → Bool → ℕ → Option (ℕ × ℕ) → Option (ℕ × ℕ)
begun i false x o = o
begun i true x o = then_at i.place.address x (i.name, i.size) o

object_outline : (a : Places) (i : Info) (x : ℕ) → outline ((with_object a i.name i.size i.place).header x) ≡ begun i true x (outline (a.header x))
object_outline a i x = by (i.place.address == x)
  where
    by : (b : Bool) → outline (if b then Some (record { name = i.name; size = i.size; standing = Lives i.place.moves }) else a.header x) ≡ (if b then Some (i.name, i.size) else outline (a.header x))
    by true = refl
    by false = refl

learnt_outline : (a : Places) (i : Info) (o : Option Place) (x : ℕ) → outline ((learn_at a i o).header x) ≡ begun i (takes i o) x (outline (a.header x))
learnt_outline a i None x = object_outline a i x
learnt_outline a i (Some old) x = by (nat_lt old.moves i.place.moves)
  where
    by : (b : Bool) → outline ((if b then with_object (with_went a old.address i.place.address) i.name i.size i.place else a).header x) ≡ begun i b x (outline (a.header x))
    by true = object_outline (with_went a old.address i.place.address) i x ∙ ap (begun i true x) (went_outline a old.address i.place.address x)
    by false = refl

newer_takes : (i : Info) (o : Option Entry) → is_newer i o ≡ takes i (place_in o)
newer_takes i None = refl
newer_takes i (Some e) = refl

begun_outline : (g : Ground) (i : Info) (b : Bool) (x : ℕ) → outline_in ((if b then with_begun g i else g).header x) ≡ begun i b x (outline_in (g.header x))
begun_outline g i false x = refl
begun_outline g i true x = by (i.place.address == x)
  where
    by : (b : Bool) → outline_in (if b then Some (blank_header i) else g.header x) ≡ (if b then Some (i.name, i.size) else outline_in (g.header x))
    by true = refl
    by false = refl

begun_me : (g : Ground) (i : Info) (b : Bool) → (if b then with_begun g i else g).me ≡ g.me
begun_me g i true = refl
begun_me g i false = refl

begun_handed : (g : Ground) (i : Info) (b : Bool) (k : ℕ) → (if b then with_begun g i else g).given_out k ≡ g.given_out k
begun_handed g i true k = refl
begun_handed g i false k = refl

pub learnt_sketch : (me from : ℕ) (known : ℕ → Option Known) (a : Places) (s : Sketch) (i : Info) → IsSketch me known a s → IsSketch me (heard from known i) (with_learnt a i) (with_learned s i)
learnt_sketch me from known a s i is = record {
  extents = λ n.
      heard_extent from known i n (known i.name) refl
      ∙ ap (λ o. then_at i.name n (unwrap_or o (i.bunch, i.size)) (extent (known n))) (is.extents i.name)
      ∙ ap (λ o. then_at i.name n (unwrap_or (extent_in (s.entry i.name)) (i.bunch, i.size)) o) (is.extents n)
      ∙ sym (learned_extent i (s.entry i.name) (i.name == n) (s.entry n));
  places = λ n.
      learnt_place a i n (a.place i.name) refl
      ∙ ap (λ o. then_at i.name n (kept i o) (a.place n)) (is.places i.name)
      ∙ ap (λ o. then_at i.name n (kept i (place_in (s.entry i.name))) o) (is.places n)
      ∙ sym (learned_place i (s.entry i.name) (i.name == n) (s.entry n));
  ground = record {
    home = begun_me s.ground i (is_newer i (s.entry i.name)) ∙ is.ground.home;
    handed = λ k. learnt_handed a i (a.place i.name) k ∙ is.ground.handed k ∙ sym (begun_handed s.ground i (is_newer i (s.entry i.name)) k);
    headers = λ x.
        learnt_outline a i (a.place i.name) x
        ∙ ap (λ b. begun i b x (outline (a.header x))) (ap (takes i) (is.places i.name) ∙ sym (newer_takes i (s.entry i.name)))
        ∙ ap (begun i (is_newer i (s.entry i.name)) x) (is.ground.headers x)
        ∙ sym (begun_outline s.ground i (is_newer i (s.entry i.name)) x);
  };
}

-- ## Infos one after another

pub learns_unless : (me from : ℕ) (known : ℕ → Option Known) (a : Places) (s : Sketch) (is : List Info) → IsSketch me known a s → some_clash me from known a is ≡ false → CanLearn s is
learns_unless me from known a s [] sketch fails = tt
learns_unless me from known a s (i ∷ more) sketch fails =
    let parts = or_parts (clashes me known a i) (some_clash me from (heard from known i) (with_learnt a i) more) fails in
    (accepts_unless me known a s i sketch parts.0, learns_unless me from (heard from known i) (with_learnt a i) (with_learned s i) more (learnt_sketch me from known a s i sketch) parts.1)

pub unless_learns : (me from : ℕ) (known : ℕ → Option Known) (a : Places) (s : Sketch) (is : List Info) → IsSketch me known a s → CanLearn s is → some_clash me from known a is ≡ false
unless_learns me from known a s [] sketch can = refl
unless_learns me from known a s (i ∷ more) sketch can =
    or_from (clashes me known a i) (some_clash me from (heard from known i) (with_learnt a i) more)
    (unless_accepts me known a s i sketch can.0)
    (unless_learns me from (heard from known i) (with_learnt a i) (with_learned s i) more (learnt_sketch me from known a s i sketch) can.1)

-- ## a replica

-- a replica's sketch is one of what it shows, beside any tokens
pub shown_sketch : (r : Holding) (parts : ℕ → Part) → IsSketch r.heap.me (known_with (λ n. option_map object_of (entry_of r n)) parts) (places_of r) (sketch_of r)
shown_sketch r parts = record {
  extents = λ n. extents (parts n) (entry_of r n);
  places = λ n. refl;
  ground = record { home = refl; handed = λ k. refl; headers = λ x. outlines (header_at r.heap.blocks x) };
}
  where
    extents : (p : Part) (o : Option Entry) → extent (option_map (known_as p) (option_map object_of o)) ≡ extent_in o
    extents p None = refl
    extents p (Some e) = refl

    outlines : (o : Option HeaderWords) → outline (option_map header_of o) ≡ outline_in o
    outlines None = refl
    outlines (Some h) = refl

-- ## messages

info_same : (f : Field) → info_told f ≡ info_in f
info_same msg_field.Null = refl
info_same (msg_field.Int k) = refl
info_same (msg_field.Ref i) = refl

-- the rules and the replica have the same Infos in a message
pub infos_same : (m : Msg) → infos_in m ≡ infos m
infos_same (msg.ReadReq name asker) = refl
infos_same (msg.WriteReq name asker) = refl
infos_same (msg.ReadGrant info fields) = λ k. info ∷ filter_map (λ f. info_same f k) fields
infos_same (msg.WriteGrant info fields) = λ k. info ∷ filter_map (λ f. info_same f k) fields
infos_same (msg.Inval name) = refl
infos_same (msg.InvAck name) = refl

-- a test that fails exactly where the Infos of a message can be learnt is the rules' test of a clash
pub clashes_same : (r : Holding) (m : Msg) (from : ℕ) (parts : ℕ → Part) (b : Bool) → (b ≡ false) ↔ CanLearn (sketch_of r) (infos_in m)
    → b ≡ some_clash r.heap.me from (known_with (λ n. option_map object_of (entry_of r n)) parts) (places_of r) (infos m)
clashes_same r m from parts b tells = by b tells
  where
    known : ℕ → Option Known
    known = known_with (λ n. option_map object_of (entry_of r n)) parts

    can : some_clash r.heap.me from known (places_of r) (infos m) ≡ false → CanLearn (sketch_of r) (infos_in m)
    can fails = subst (CanLearn (sketch_of r)) (sym (infos_same m)) (learns_unless r.heap.me from known (places_of r) (sketch_of r) (infos m) (shown_sketch r parts) fails)

    by : (b : Bool) → (b ≡ false) ↔ CanLearn (sketch_of r) (infos_in m) → b ≡ some_clash r.heap.me from known (places_of r) (infos m)
    by false tells = sym (unless_learns r.heap.me from known (places_of r) (sketch_of r) (infos m) (shown_sketch r parts) (subst (CanLearn (sketch_of r)) (infos_same m) (tells.0 refl)))
    by true tells =
        elim (cases_Bool (some_clash r.heap.me from known (places_of r) (infos m))) [
          | inl clash ↦ sym clash
          | inr fails ↦ absurd (false≢true (sym (tells.1 (can fails))))
        ]
