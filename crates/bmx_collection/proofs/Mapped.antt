-- The segments that are mapped stay below a bound: as a store opens, where places below it are made or learnt, by a
-- collection into segments below it, and by a sweep.
use Rattle.std.proofs.Common.{◌≡◌, ℕ, zero, suc, ◌+◌, ◌<◌, ◌==◌, ◌&&◌, ◌⊎◌, inl, inr, nat_lt, Bool, true, false, cond, List, [], ◌∷◌, length, filter, fold, refl, ap, sym, ◌∙◌, subst, arith}
use Rattle.std.specs.Prelude.{Option, Some, None, is_some}
use Rattle.bmx_types.specs.Words.{address_word, home_of, segment_of}
use Rattle.bmx_types.specs.Openings.{bunches_of}
use Rattle.bmx_types.specs.declared.addresses.Info.{Info}
use Rattle.bmx_types.specs.declared.addresses.Place.{Place}
use Rattle.bmx_types.specs.declared.openings.Birth.{Birth}
use Rattle.bmx_types.specs.declared.commands.Command.TheVariants as command
use Rattle.bmx_types.specs.Updates.{put, put_at}
use Rattle.bmx_owner.specs.Records.{is_listed}
use Rattle.bmx_protocol.specs.declared.inputs.Input.{Input}
use Rattle.bmx_protocol.specs.declared.inputs.Input.TheVariants as input
use Rattle.bmx_protocol.specs.declared.inputs.NodeAnswer.{NodeAnswer}
use Rattle.bmx_protocol.specs.Nodes.{Setting, NodeState, is_anchor}
use Rattle.bmx_protocol.specs.Places.{Places, has_room, with_segment, with_room, with_object, with_placed, with_made, with_went, learn_at, with_learnt, with_all_learnt, no_places, with_births, by_bunch, owner_places, told_place, with_told, first_places}
use Rattle.bmx_protocol.specs.Rules.{infos, next_name}
use Rattle.bmx_protocol.specs.Steps.{Node, is_nil, is_taken}
use Rattle.bmx_protocol.specs.Cases.{places_after}
use Rattle.bmx_protocol.proofs.Basics.{eqb_is}
use Rattle.bmx_collection.specs.ToSpaces.{with_dead_at, with_dead, size_at, words_for, with_segments, Filling, segment_at, moved_to, move, opened_last, places_collected}
use Rattle.bmx_space.specs.Spaces.{segments_for}
use Rattle.bmx_collection.specs.Sweeps.{swept}
use Rattle.bmx_collection.specs.Laws.{AreWithin}
use Rattle.bmx_collection.proofs.Listing.{both}
use Rattle.bmx_collection.proofs.Within.{is_less}

-- what is mapped, and open, is below n
abbrev MappedBelow : ℕ → (ℕ → ℕ → Bool) → Type 0
MappedBelow n mapped = (home segment : ℕ) → mapped home segment ≡ true → (home < n) × (segment < n)

abbrev OpenedBelow : ℕ → (ℕ → Option ℕ) → Type 0
OpenedBelow n opened = (bunch segment : ℕ) → opened bunch ≡ Some segment → bunch < n

mapped_more : (n home segment : ℕ) (mapped : ℕ → ℕ → Bool) → home < n → segment < n → MappedBelow n mapped → MappedBelow n (put_at mapped home segment true)
mapped_more n home segment mapped a b was h g e = by (home == h) (segment == g) refl refl e
  where
    by : (t u : Bool) → (home == h) ≡ t → (segment == g) ≡ u → cond t (λ (x : ℕ). cond (segment == x) true (mapped home x)) (mapped h) g ≡ true → (h < n) × (g < n)
    by true true same_home same_segment e = (subst (λ (x : ℕ). x < n) (eqb_is home h same_home) a, subst (λ (x : ℕ). x < n) (eqb_is segment g same_segment) b)
    by true false same_home other e =
        let it : mapped home g ≡ true = sym (ap (λ (t : Bool). cond t true (mapped home g)) other) ∙ e in
        let w : (home < n) × (g < n) = was home g it in
        (subst (λ (x : ℕ). x < n) (eqb_is home h same_home) w.0, w.1)
    by false u other place e = was h g e

opened_more : (n bunch : ℕ) (o : Option ℕ) (opened : ℕ → Option ℕ) → bunch < n → OpenedBelow n opened → OpenedBelow n (put opened bunch o)
opened_more n bunch o opened less was b g e = by (bunch == b) refl e
  where
    by : (t : Bool) → (bunch == b) ≡ t → cond t o (opened b) ≡ Some g → b < n
    by true is e = subst (λ (x : ℕ). x < n) (eqb_is bunch b is) less
    by false is e = was b g e

-- ## an object lies at an address

unfoldable pub address_below : ℕ → ℕ → Bool
address_below n address = nat_lt (home_of address) n && nat_lt (segment_of address) n

object_within : (n : ℕ) (a : Places) (name size : ℕ) (p : Place) → address_below n p.address ≡ true → AreWithin n a → AreWithin n (with_object a name size p)
unfolding address_below
object_within n a name size p ok w =
    let less : (nat_lt (home_of p.address) n ≡ true) × (nat_lt (segment_of p.address) n ≡ true) = both (nat_lt (home_of p.address) n) (nat_lt (segment_of p.address) n) ok in
    record {
      mapped = mapped_more n (home_of p.address) (segment_of p.address) a.mapped (is_less (home_of p.address) n less.0) (is_less (segment_of p.address) n less.1) w.mapped;
      opened = w.opened;
    }

-- ## making

unfoldable pub placed_below : ℕ → ℕ → Places → Option ℕ → Bool
placed_below n me a None = true
placed_below n me a (Some segment) = address_below n (address_word me segment (a.handed segment))

placed_within : (n me name size : ℕ) (a : Places) (o : Option ℕ) → placed_below n me a o ≡ true → AreWithin n a → AreWithin n (with_placed me a name size o)
unfolding placed_below
placed_within n me name size a None ok w = w
placed_within n me name size a (Some segment) ok w =
    object_within n (record a { handed = put a.handed segment (a.handed segment + (4 + size)) }) name size
    (record { address = address_word me segment (a.handed segment); moves = 0 }) ok (record { mapped = w.mapped; opened = w.opened })

unfoldable pub made_below : ℕ → ℕ → Places → ℕ → ℕ → Bool
made_below n me a bunch size =
    (nat_lt me n && nat_lt bunch n) && (nat_lt (a.made + 1) n && placed_below n me (with_room me a bunch size) ((with_room me a bunch size).opened bunch))

pub made_within : (n me name bunch size : ℕ) (a : Places) → made_below n me a bunch size ≡ true → AreWithin n a → AreWithin n (with_made me a name bunch size)
unfolding made_below
made_within n me name bunch size a ok w =
    let halves : ((nat_lt me n && nat_lt bunch n) ≡ true) × ((nat_lt (a.made + 1) n && placed_below n me (with_room me a bunch size) ((with_room me a bunch size).opened bunch)) ≡ true) =
    both (nat_lt me n && nat_lt bunch n) (nat_lt (a.made + 1) n && placed_below n me (with_room me a bunch size) ((with_room me a bunch size).opened bunch)) ok in
    let first : (nat_lt me n ≡ true) × (nat_lt bunch n ≡ true) = both (nat_lt me n) (nat_lt bunch n) halves.0 in
    let second : (nat_lt (a.made + 1) n ≡ true) × (placed_below n me (with_room me a bunch size) ((with_room me a bunch size).opened bunch) ≡ true) =
    both (nat_lt (a.made + 1) n) (placed_below n me (with_room me a bunch size) ((with_room me a bunch size).opened bunch)) halves.1 in
    placed_within n me name size (with_room me a bunch size) ((with_room me a bunch size).opened bunch) second.1
    (room (has_room a (a.opened bunch) (4 + size)) (is_less me n first.0) (is_less bunch n first.1) (is_less (a.made + 1) n second.0))
  where
    room : (t : Bool) → me < n → bunch < n → a.made + 1 < n → AreWithin n (cond t a (with_segment me a bunch))
    room true m b g = w
    room false m b g = record { mapped = mapped_more n me (a.made + 1) a.mapped m g w.mapped; opened = opened_more n bunch (Some (a.made + 1)) a.opened b w.opened }

-- ## learning

unfoldable pub infos_below : ℕ → List Info → Bool
infos_below n [] = true
infos_below n (info ∷ more) = address_below n info.place.address && infos_below n more

learnt_within : (n : ℕ) (a : Places) (info : Info) (o : Option Place) → address_below n info.place.address ≡ true → AreWithin n a → AreWithin n (learn_at a info o)
learnt_within n a info None ok w = object_within n a info.name info.size info.place ok w
learnt_within n a info (Some old) ok w = by (nat_lt old.moves info.place.moves)
  where
    by : (t : Bool) → AreWithin n (cond t (with_object (with_went a old.address info.place.address) info.name info.size info.place) a)
    by true = object_within n (with_went a old.address info.place.address) info.name info.size info.place ok (record { mapped = w.mapped; opened = w.opened })
    by false = w

all_learnt_within : (n : ℕ) (more : List Info) (a : Places) → infos_below n more ≡ true → AreWithin n a → AreWithin n (with_all_learnt a more)
unfolding infos_below
all_learnt_within n [] a ok w = w
all_learnt_within n (info ∷ more) a ok w =
    let split : (address_below n info.place.address ≡ true) × (infos_below n more ≡ true) = both (address_below n info.place.address) (infos_below n more) ok in
    all_learnt_within n more (with_learnt a info) split.1 (learnt_within n a info (a.place info.name) split.0 w)

-- ## a step without a collector

unfoldable pub input_below : ℕ → ℕ → Node → Input → Bool
input_below n me x (input.Do (command.New register bunch size)) = made_below n me x.places bunch size
input_below n me x (input.Do c) = true
input_below n me x (input.Serve name) = true
input_below n me x (input.Take from l) = infos_below n (infos l.msg)

either_within : (n : ℕ) (a b : Places) (t : Bool) → AreWithin n a → AreWithin n b → AreWithin n (cond t a b)
either_within n a b true p q = p
either_within n a b false p q = q

pub step_within : (n me : ℕ) (x : Node) (i : Input) (answer : NodeAnswer) → input_below n me x i ≡ true → AreWithin n x.places → AreWithin n (places_after me x i answer)
unfolding input_below
step_within n me x (input.Do (command.New register bunch size)) answer ok w =
    either_within n (with_made me x.places (next_name me x.state) bunch size) x.places (is_nil answer) (made_within n me (next_name me x.state) bunch size x.places ok w) w
step_within n me x (input.Do c) answer ok w = either_within n x.places x.places (is_nil answer) w w
step_within n me x (input.Serve name) answer ok w = w
step_within n me x (input.Take from l) answer ok w =
    either_within n (with_all_learnt x.places (infos l.msg)) x.places (is_taken answer) (all_learnt_within n (infos l.msg) x.places ok w) w

-- ## a collection

dead_within : (n : ℕ) (gone : List ℕ) (a : Places) → AreWithin n a → AreWithin n (fold with_dead a gone)
dead_within n [] a w = w
dead_within n (x ∷ gone) a w = dead_within n gone (with_dead a x) (by (a.place x))
  where
    by : (o : Option Place) → AreWithin n (with_dead_at a x o)
    by None = w
    by (Some p) = record { mapped = w.mapped; opened = w.opened }

segments_within : (n me more : ℕ) (a : Places) → me < n → (more ≡ 0) ⊎ (a.made + more < n) → AreWithin n a → AreWithin n (with_segments me a more)
segments_within n me zero a m g w = w
segments_within n me (suc more) a m g w =
    segments_within n me more (record a { mapped = put_at a.mapped me (a.made + 1) true; handed = put a.handed (a.made + 1) 0; made = a.made + 1 }) m
    (inr (omega (arith, less))) (record { mapped = mapped_more n me (a.made + 1) a.mapped m (omega (arith, less)) w.mapped; opened = w.opened })
  where
    less : a.made + suc more < n
    less = by g
      where
        by : (suc more ≡ 0) ⊎ (a.made + suc more < n) → a.made + suc more < n
        by (inl e) = absurd (omega (arith, e))
        by (inr e) = e

unfoldable pub to_below : ℕ → ℕ → Places → ℕ → Option Place → Bool
to_below n me a segment None = true
to_below n me a segment (Some old) = address_below n (address_word me segment (a.handed segment))

to_within : (n me segment name size : ℕ) (a : Places) (o : Option Place) → to_below n me a segment o ≡ true → AreWithin n a → AreWithin n (moved_to me a segment name size o)
unfolding to_below
to_within n me segment name size a None ok w = w
to_within n me segment name size a (Some old) ok w =
    object_within n (with_went (record a { handed = put a.handed segment (a.handed segment + (4 + size)) }) old.address (address_word me segment (a.handed segment))) name size
    (record { address = address_word me segment (a.handed segment); moves = old.moves + 1 }) ok (record { mapped = w.mapped; opened = w.opened })

unfoldable pub moves_below : ℕ → ℕ → NodeState → Filling → List ℕ → Bool
moves_below n me s f [] = true
moves_below n me s f (x ∷ xs) =
    to_below n me f.places (segment_at f.places f.at (4 + size_at s x)) (f.places.place x) && moves_below n me s (move me s f x) xs

moves_within : (n me : ℕ) (s : NodeState) (xs : List ℕ) (f : Filling) → moves_below n me s f xs ≡ true → AreWithin n f.places → AreWithin n (fold (move me s) f xs).places
unfolding moves_below
moves_within n me s [] f ok w = w
moves_within n me s (x ∷ xs) f ok w =
    let split : (to_below n me f.places (segment_at f.places f.at (4 + size_at s x)) (f.places.place x) ≡ true) × (moves_below n me s (move me s f x) xs ≡ true) =
    both (to_below n me f.places (segment_at f.places f.at (4 + size_at s x)) (f.places.place x)) (moves_below n me s (move me s f x) xs) ok in
    moves_within n me s xs (move me s f x) split.1 (to_within n me (segment_at f.places f.at (4 + size_at s x)) x (size_at s x) f.places (f.places.place x) split.0 w)

-- the places into which a collection moves
abbrev to_space : ℕ → NodeState → Places → List ℕ → List ℕ → Filling
to_space me s a owned gone = record { places = with_segments me (fold with_dead a gone) (segments_for (words_for s owned)); at = a.made + 1; used = None }

unfoldable pub collection_below : ℕ → ℕ → NodeState → Places → ℕ → List ℕ → List ℕ → List ℕ → Bool
collection_below n me s a bunch owned gone moved =
    (nat_lt me n && nat_lt bunch n) && (nat_lt ((fold with_dead a gone).made + segments_for (words_for s owned)) n && moves_below n me s (to_space me s a owned gone) moved)

pub collection_within : (n me : ℕ) (s : NodeState) (a : Places) (bunch : ℕ) (owned gone moved : List ℕ) → collection_below n me s a bunch owned gone moved ≡ true →
    AreWithin n a → AreWithin n (places_collected me s a bunch owned gone moved)
unfolding collection_below
collection_within n me s a bunch owned gone moved ok w =
    let halves : ((nat_lt me n && nat_lt bunch n) ≡ true)
    × ((nat_lt ((fold with_dead a gone).made + segments_for (words_for s owned)) n && moves_below n me s (to_space me s a owned gone) moved) ≡ true) =
    both (nat_lt me n && nat_lt bunch n) (nat_lt ((fold with_dead a gone).made + segments_for (words_for s owned)) n && moves_below n me s (to_space me s a owned gone) moved) ok in
    let first : (nat_lt me n ≡ true) × (nat_lt bunch n ≡ true) = both (nat_lt me n) (nat_lt bunch n) halves.0 in
    let second : (nat_lt ((fold with_dead a gone).made + segments_for (words_for s owned)) n ≡ true) × (moves_below n me s (to_space me s a owned gone) moved ≡ true) =
    both (nat_lt ((fold with_dead a gone).made + segments_for (words_for s owned)) n) (moves_below n me s (to_space me s a owned gone) moved) halves.1 in
    let made : AreWithin n (to_space me s a owned gone).places =
    segments_within n me (segments_for (words_for s owned)) (fold with_dead a gone) (is_less me n first.0)
    (inr (is_less ((fold with_dead a gone).made + segments_for (words_for s owned)) n second.0)) (dead_within n gone a w) in
    opens (fold (move me s) (to_space me s a owned gone) moved) (is_less bunch n first.1) (moves_within n me s moved (to_space me s a owned gone) second.1 made)
  where
    opens : (f : Filling) → bunch < n → AreWithin n f.places → AreWithin n (opened_last f bunch)
    opens f less w = by (is_some (f.places.opened bunch))
      where
        by : (t : Bool) → AreWithin n (cond t f.places (record f.places { opened = put f.places.opened bunch f.used }))
        by true = w
        by false = record { mapped = w.mapped; opened = opened_more n bunch f.used f.places.opened less w.opened }

-- ## a sweep

pub swept_within : (n : ℕ) (dropped : List ℕ) (a : Places) → AreWithin n a → AreWithin n (swept dropped a)
swept_within n dropped a w = record { mapped = λ h g e. by h g (is_listed dropped (address_word h g 0)) e; opened = w.opened }
  where
    by : (h g : ℕ) (t : Bool) → cond t false (a.mapped h g) ≡ true → (h < n) × (g < n)
    by h g true e = cc
    by h g false e = w.mapped h g e

-- ## as a store opens

unfoldable pub births_made_below : ℕ → Places → List Birth → Bool
births_made_below n a [] = true
births_made_below n a (b ∷ bs) = made_below n 0 a b.bunch (length b.fields) && births_made_below n (with_made 0 a b.name b.bunch (length b.fields)) bs

births_within : (n : ℕ) (bs : List Birth) (a : Places) → births_made_below n a bs ≡ true → AreWithin n a → AreWithin n (with_births a bs)
unfolding births_made_below
births_within n [] a ok w = w
births_within n (b ∷ bs) a ok w =
    let split : (made_below n 0 a b.bunch (length b.fields) ≡ true) × (births_made_below n (with_made 0 a b.name b.bunch (length b.fields)) bs ≡ true) =
    both (made_below n 0 a b.bunch (length b.fields)) (births_made_below n (with_made 0 a b.name b.bunch (length b.fields)) bs) ok in
    births_within n bs (with_made 0 a b.name b.bunch (length b.fields)) split.1 (made_within n 0 b.name b.bunch (length b.fields) a split.0 w)

unfoldable pub place_below : ℕ → Option Place → Bool
place_below n None = true
place_below n (Some p) = address_below n p.address

unfoldable pub told_below : ℕ → Places → List Birth → Bool
told_below n told [] = true
told_below n told (b ∷ bs) = place_below n (told.place b.name) && told_below n told bs

told_within : (n : ℕ) (told : Places) (bs : List Birth) (a : Places) → told_below n told bs ≡ true → AreWithin n a → AreWithin n (with_told told a bs)
unfolding told_below place_below
told_within n told [] a ok w = w
told_within n told (b ∷ bs) a ok w =
    let split : (place_below n (told.place b.name) ≡ true) × (told_below n told bs ≡ true) = both (place_below n (told.place b.name)) (told_below n told bs) ok in
    told_within n told bs (told_place a (told.place b.name) b) split.1 (one (told.place b.name) split.0)
  where
    one : (o : Option Place) → place_below n o ≡ true → AreWithin n (told_place a o b)
    one None ok = w
    one (Some p) ok = object_within n a b.name (length b.fields) p ok w

none_within : (n : ℕ) → AreWithin n no_places
none_within n = record { mapped = λ h g e. cc; opened = λ b g e. cc }

unfoldable pub opening_below : ℕ → Setting → Bool
opening_below n st =
    births_made_below n no_places (by_bunch st.births (bunches_of st.births))
    && told_below n (owner_places st) (filter (λ (b : Birth). is_anchor st b.name) st.births)

pub first_placed : (n : ℕ) (st : Setting) (me : ℕ) → opening_below n st ≡ true → AreWithin n (first_places st me)
unfolding opening_below
first_placed n st me ok =
    let split : (births_made_below n no_places (by_bunch st.births (bunches_of st.births)) ≡ true)
    × (told_below n (owner_places st) (filter (λ (b : Birth). is_anchor st b.name) st.births) ≡ true) =
    both (births_made_below n no_places (by_bunch st.births (bunches_of st.births))) (told_below n (owner_places st) (filter (λ (b : Birth). is_anchor st b.name) st.births)) ok in
    either_within n (owner_places st)
    (cond (nat_lt me st.nodes) (with_told (owner_places st) no_places (filter (λ (b : Birth). is_anchor st b.name) st.births)) no_places) (me == 0)
    (births_within n (by_bunch st.births (bunches_of st.births)) no_places split.0 (none_within n))
    (either_within n (with_told (owner_places st) no_places (filter (λ (b : Birth). is_anchor st b.name) st.births)) no_places (nat_lt me st.nodes)
    (told_within n (owner_places st) (filter (λ (b : Birth). is_anchor st b.name) st.births) no_places split.1 (none_within n)) (none_within n))
