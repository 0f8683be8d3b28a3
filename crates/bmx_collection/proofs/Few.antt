-- After each legal history each node has mapped segments of finitely many homes, and finitely many bunches have one open; so
-- there is what a sweep is told.
use Rattle.std.proofs.Common.{◌≡◌, ℕ, zero, suc, ◌+◌, ◌<◌, ◌==◌, nat_lt, Bool, true, false, cond, List, [], ◌∷◌, length, filter, fold, refl, sym, subst, arith}
use Rattle.std.specs.Prelude.{Option, Some, None, is_some}
use Rattle.bmx_types.specs.Words.{address_word, home_of, segment_of}
use Rattle.bmx_types.specs.Openings.{bunches_of}
use Rattle.bmx_types.specs.Updates.{put, put_at}
use Rattle.bmx_types.specs.declared.addresses.Info.{Info}
use Rattle.bmx_types.specs.declared.addresses.Place.{Place}
use Rattle.bmx_types.specs.declared.openings.Birth.{Birth}
use Rattle.bmx_types.specs.declared.commands.Command.{Command}
use Rattle.bmx_types.specs.declared.commands.Command.TheVariants as command
use Rattle.bmx_types.specs.declared.commands.Refusal.TheVariants as refusal
use Rattle.bmx_owner.specs.Records.{is_listed}
use Rattle.bmx_protocol.specs.declared.inputs.Input.{Input}
use Rattle.bmx_protocol.specs.declared.inputs.Input.TheVariants as input
use Rattle.bmx_protocol.specs.declared.inputs.NodeAnswer.{NodeAnswer}
use Rattle.bmx_protocol.specs.Nodes.{Setting, NodeState, is_anchor}
use Rattle.bmx_protocol.specs.Places.{Places, has_room, with_segment, with_room, with_object, with_placed, with_made, with_went, learn_at, with_learnt, with_all_learnt, no_places, with_births, by_bunch, owner_places, told_place, with_told, first_places}
use Rattle.bmx_protocol.specs.Rules.{infos, next_name}
use Rattle.bmx_protocol.specs.Steps.{Node, Told, is_nil, is_taken, made_places, MovesTo}
use Rattle.bmx_space.specs.Spaces.{segments_for}
use Rattle.bmx_collection.specs.ToSpaces.{with_dead_at, with_dead, size_at, words_for, with_segments, Filling, segment_at, moved_to, move, opened_last, places_collected, is_too_large}
use Rattle.bmx_collection.specs.Sweeps.{swept}
use Rattle.bmx_collection.specs.Tables.{is_stray_table}
use Rattle.bmx_collection.specs.Steps.{LinkedNode, unlinked, first_linked, CollectorInput, Collect, Sweep, MakeTable, TakeTable, CollectorTold, CollectorReaction, Refused, Stray, unchanged, collector_rule}
use Rattle.bmx_collection.specs.Histories.{Deed, Plain, Collector, LinkedEvent, IsDeed, ReplaysLinked}
use Rattle.bmx_collection.specs.Laws.{AreOfFew}
use Rattle.bmx_protocol.proofs.Basics.{eqb_is}

-- homes and bunches below some number
abbrev pub Few : Places → Type 0
Few a = (n : ℕ) × AreOfFew n a

either_few : (t : Bool) (a b : Places) → Few a → Few b → Few (cond t a b)
either_few true a b x y = x
either_few false a b x y = y

-- ## one home more, one bunch more

homes_more : (n home segment : ℕ) (mapped : ℕ → ℕ → Bool) → ((h g : ℕ) → mapped h g ≡ true → h < n) → (h g : ℕ) → put_at mapped home segment true h g ≡ true → h < n + home + 1
homes_more n home segment mapped was h g e = by (home == h) refl e
  where
    by : (t : Bool) → (home == h) ≡ t → cond t (λ (x : ℕ). cond (segment == x) true (mapped home x)) (mapped h) g ≡ true → h < n + home + 1
    by true is e = (let same : home ≡ h = eqb_is home h is in omega (arith, same))
    by false is e = (let less : h < n = was h g e in omega (arith, less))

bunches_more : (n bunch : ℕ) (o : Option ℕ) (opened : ℕ → Option ℕ) → ((b g : ℕ) → opened b ≡ Some g → b < n) → (b g : ℕ) → put opened bunch o b ≡ Some g → b < n + bunch + 1
bunches_more n bunch o opened was b g e = by (bunch == b) refl e
  where
    by : (t : Bool) → (bunch == b) ≡ t → cond t o (opened b) ≡ Some g → b < n + bunch + 1
    by true is e = (let same : bunch ≡ b = eqb_is bunch b is in omega (arith, same))
    by false is e = (let less : b < n = was b g e in omega (arith, less))

few_object : (a : Places) (name size : ℕ) (p : Place) → Few a → Few (with_object a name size p)
few_object a name size p k = (
  k.0 + home_of p.address + 1,
  record {
    homes = homes_more k.0 (home_of p.address) (segment_of p.address) a.mapped k.1.homes;
    bunches = λ b g e. (let less : b < k.0 = k.1.bunches b g e in omega (arith, less));
  },
)

-- ## making and learning

few_room : (t : Bool) (me bunch : ℕ) (a : Places) → Few a → Few (cond t a (with_segment me a bunch))
few_room true me bunch a k = k
few_room false me bunch a k = (
  k.0 + me + 1 + bunch + 1,
  record {
    homes = λ h g e. (let less : h < k.0 + me + 1 = homes_more k.0 me (a.made + 1) a.mapped k.1.homes h g e in omega (arith, less));
    bunches = λ b g e. (let less : b < k.0 + bunch + 1 = bunches_more k.0 bunch (Some (a.made + 1)) a.opened k.1.bunches b g e in omega (arith, less));
  },
)

few_placed : (me name size : ℕ) (a : Places) (o : Option ℕ) → Few a → Few (with_placed me a name size o)
few_placed me name size a None k = k
few_placed me name size a (Some segment) k =
    few_object (record a { handed = put a.handed segment (a.handed segment + (4 + size)) }) name size
    (record { address = address_word me segment (a.handed segment); moves = 0 }) (k.0, record { homes = k.1.homes; bunches = k.1.bunches })

few_made : (me name bunch size : ℕ) (a : Places) → Few a → Few (with_made me a name bunch size)
few_made me name bunch size a k =
    few_placed me name size (with_room me a bunch size) ((with_room me a bunch size).opened bunch) (few_room (has_room a (a.opened bunch) (4 + size)) me bunch a k)

few_learnt : (a : Places) (info : Info) (o : Option Place) → Few a → Few (learn_at a info o)
few_learnt a info None k = few_object a info.name info.size info.place k
few_learnt a info (Some old) k =
    either_few (nat_lt old.moves info.place.moves) (with_object (with_went a old.address info.place.address) info.name info.size info.place) a
    (few_object (with_went a old.address info.place.address) info.name info.size info.place (k.0, record { homes = k.1.homes; bunches = k.1.bunches })) k

few_all_learnt : (more : List Info) (a : Places) → Few a → Few (with_all_learnt a more)
few_all_learnt [] a k = k
few_all_learnt (info ∷ more) a k = few_all_learnt more (with_learnt a info) (few_learnt a info (a.place info.name) k)

few_makes : (me : ℕ) (x : Node) (c : Command) → Few x.places → Few (made_places me x c)
few_makes me x (command.New register bunch size) k = few_made me (next_name me x.state) bunch size x.places k
few_makes me x c k = k

few_moved : (me : ℕ) (x : Node) (t : Told) (i : Input) (a : NodeAnswer) (places : Places) → MovesTo me x t i a places → Few x.places → Few places
few_moved me x t (input.Do c) a places moved k = subst Few (sym moved) (either_few (is_nil a) (made_places me x c) x.places (few_makes me x c k) k)
few_moved me x t (input.Serve name) a places moved k = subst Few (sym moved) k
few_moved me x t (input.Take from l) a places moved k =
    subst Few (sym moved) (either_few (is_taken a) (with_all_learnt x.places (infos l.msg)) x.places (few_all_learnt (infos l.msg) x.places k) k)

-- ## a collector

few_dead : (gone : List ℕ) (a : Places) → Few a → Few (fold with_dead a gone)
few_dead [] a k = k
few_dead (x ∷ gone) a k = few_dead gone (with_dead a x) (by (a.place x))
  where
    by : (o : Option Place) → Few (with_dead_at a x o)
    by None = k
    by (Some p) = (k.0, record { homes = k.1.homes; bunches = k.1.bunches })

few_segments : (me more : ℕ) (a : Places) → Few a → Few (with_segments me a more)
few_segments me zero a k = k
few_segments me (suc more) a k =
    few_segments me more (record a { mapped = put_at a.mapped me (a.made + 1) true; handed = put a.handed (a.made + 1) 0; made = a.made + 1 }) (
      k.0 + me + 1,
      record {
        homes = homes_more k.0 me (a.made + 1) a.mapped k.1.homes;
        bunches = λ b g e. (let less : b < k.0 = k.1.bunches b g e in omega (arith, less));
      },
    )

few_to : (me segment name size : ℕ) (a : Places) (o : Option Place) → Few a → Few (moved_to me a segment name size o)
few_to me segment name size a None k = k
few_to me segment name size a (Some old) k =
    few_object (with_went (record a { handed = put a.handed segment (a.handed segment + (4 + size)) }) old.address (address_word me segment (a.handed segment))) name size
    (record { address = address_word me segment (a.handed segment); moves = old.moves + 1 }) (k.0, record { homes = k.1.homes; bunches = k.1.bunches })

few_moves : (me : ℕ) (s : NodeState) (xs : List ℕ) (f : Filling) → Few f.places → Few (fold (move me s) f xs).places
few_moves me s [] f k = k
few_moves me s (x ∷ xs) f k =
    few_moves me s xs (move me s f x) (few_to me (segment_at f.places f.at (4 + size_at s x)) x (size_at s x) f.places (f.places.place x) k)

few_opens : (f : Filling) (bunch : ℕ) → Few f.places → Few (opened_last f bunch)
few_opens f bunch k = either_few (is_some (f.places.opened bunch)) f.places (record f.places { opened = put f.places.opened bunch f.used }) k (
  k.0 + bunch + 1,
  record {
    homes = λ h g e. (let less : h < k.0 = k.1.homes h g e in omega (arith, less));
    bunches = bunches_more k.0 bunch f.used f.places.opened k.1.bunches;
  },
)

few_collected : (me : ℕ) (s : NodeState) (a : Places) (bunch : ℕ) (owned gone moved : List ℕ) → Few a → Few (places_collected me s a bunch owned gone moved)
few_collected me s a bunch owned gone moved k =
    let f : Filling = record { places = with_segments me (fold with_dead a gone) (segments_for (words_for s owned)); at = a.made + 1; used = None } in
    few_opens (fold (move me s) f moved) bunch (few_moves me s moved f (few_segments me (segments_for (words_for s owned)) (fold with_dead a gone) (few_dead gone a k)))

few_swept : (dropped : List ℕ) (a : Places) → Few a → Few (swept dropped a)
few_swept dropped a k = (k.0, record { homes = λ h g e. by h g (is_listed dropped (address_word h g 0)) e; bunches = k.1.bunches })
  where
    by : (h g : ℕ) (t : Bool) → cond t false (a.mapped h g) ≡ true → h < k.0
    by h g true e = cc
    by h g false e = k.1.homes h g e

-- ## a step

either_reaction : (b : Bool) (r q : CollectorReaction) → Few r.node.places → Few q.node.places → Few (cond b r q).node.places
either_reaction true r q x y = x
either_reaction false r q x y = y

rule_few : (st : Setting) (me stamp : ℕ) (n : LinkedNode) (t : CollectorTold) (i : CollectorInput) → Few n.places → Few (collector_rule st me n t stamp i).node.places
rule_few st me stamp n t (Collect bunch) k =
    either_reaction (is_too_large st.limit n.state n.places t.owned) (unchanged n (Refused refusal.Full)) _ k
    (few_collected me n.state n.places bunch t.owned t.gone (filter (is_listed t.kept) t.owned) k)
rule_few st me stamp n t Sweep k = few_swept t.dropped n.places k
rule_few st me stamp n t (MakeTable bunch to) k = k
rule_few st me stamp n t (TakeTable table) k = either_reaction (is_stray_table st me table) (unchanged n Stray) _ k k

deed_few : (st : Setting) (me stamp : ℕ) (n m : LinkedNode) (d : Deed) → IsDeed st me n stamp d m → Few n.places → Few m.places
deed_few st me stamp n m (Plain i d) step k = few_moved me (unlinked n) step.step.told i d.answer m.places step.step.places k
deed_few st me stamp n m (Collector i d) step k = subst (λ (x : LinkedNode). Few x.places) (sym step.node) (rule_few st me stamp n step.told i k)

-- ## as a store opens

few_births : (bs : List Birth) (a : Places) → Few a → Few (with_births a bs)
few_births [] a k = k
few_births (b ∷ bs) a k = few_births bs (with_made 0 a b.name b.bunch (length b.fields)) (few_made 0 b.name b.bunch (length b.fields) a k)

few_told : (told : Places) (bs : List Birth) (a : Places) → Few a → Few (with_told told a bs)
few_told told [] a k = k
few_told told (b ∷ bs) a k = few_told told bs (told_place a (told.place b.name) b) (one (told.place b.name))
  where
    one : (o : Option Place) → Few (told_place a o b)
    one None = k
    one (Some p) = few_object a b.name (length b.fields) p k

few_none : Few no_places
few_none = (0, record { homes = λ h g e. cc; bunches = λ b g e. cc })

first_few : (st : Setting) (me : ℕ) → Few (first_places st me)
first_few st me =
    let told : Places = with_told (owner_places st) no_places (filter (λ (b : Birth). is_anchor st b.name) st.births) in
    either_few (me == 0) (owner_places st) (cond (nat_lt me st.nodes) told no_places)
    (few_births (by_bunch st.births (bunches_of st.births)) no_places few_none)
    (either_few (nat_lt me st.nodes) told no_places (few_told (owner_places st) (filter (λ (b : Birth). is_anchor st b.name) st.births) no_places few_none) few_none)

-- ## a history

abbrev EachFew : (ℕ → LinkedNode) → Type 0
EachFew nodes = (k : ℕ) → Few (nodes k).places

few_either : (b : Bool) (n m : LinkedNode) → Few n.places → Few m.places → Few (cond b n m).places
few_either true n m x y = x
few_either false n m x y = y

replay_few : (st : Setting) (events : List LinkedEvent) (nodes last : ℕ → LinkedNode) → EachFew nodes → ReplaysLinked st nodes events last → EachFew last
replay_few st [] nodes last all r = subst EachFew r all
replay_few st (e ∷ events) nodes last all r =
    replay_few st events (put nodes e.node r.0) last
    (λ k. few_either (e.node == k) r.0 (nodes k) (deed_few st e.node e.stamp (nodes e.node) r.0 e.deed r.1 (all e.node)) (all k)) r.2

pub always_few : (st : Setting) (history : List LinkedEvent) (nodes : ℕ → LinkedNode) → ReplaysLinked st (first_linked st) history nodes → (k : ℕ) → Few (nodes k).places
always_few st history nodes r = replay_few st history (first_linked st) nodes (λ k. first_few st k) r
