-- Links have one view, and after each legal history the links of each node have it.
use Rattle.std.proofs.Common.{◌≡◌, ℕ, zero, suc, ◌+◌, ◌<◌, ◌==◌, not, Bool, true, false, cond, List, [], ◌∷◌, length, refl, ap, sym, ◌∙◌, subst, arith}
use Rattle.std.specs.Prelude.{Some, slice_get}
use Rattle.std.specs.List.{fold}
use Rattle.bmx_types.specs.declared.commands.Refusal.TheVariants as refusal
use Rattle.bmx_types.specs.Updates.{put}
use Rattle.bmx_owner.specs.Records.{is_listed}
use Rattle.bmx_inter.specs.declared.inter.Stub.{Stub}
use Rattle.bmx_inter.specs.Order.{IsInOrder}
use Rattle.bmx_inter.specs.Inter.{stub_pair, scion_pair, stub_of, scion_of, is_kept}
use Rattle.bmx_inter.proofs.Found.{IsInOrder-with_one, IsInOrder-filter}
use Rattle.bmx_clean.specs.Cleaning.{ends_scion}
use Rattle.bmx_protocol.specs.Nodes.{Setting, AreNumbers}
use Rattle.bmx_collection.specs.Links.{Links, LinkView, ShowsLinks, AreShownAlike, with_pair, pairs_of}
use Rattle.bmx_collection.specs.Reach.{refers}
use Rattle.bmx_collection.specs.ToSpaces.{is_too_large}
use Rattle.bmx_collection.specs.Tables.{is_stray_table}
use Rattle.bmx_collection.specs.Steps.{LinkedNode, first_linked, CollectorInput, Collect, Sweep, MakeTable, TakeTable, CollectorTold, CollectorReaction, Refused, Stray, unchanged, collector_rule}
use Rattle.bmx_collection.specs.Histories.{Deed, Plain, Collector, LinkedEvent, IsDeed, ReplaysLinked}
use Rattle.bmx_collection.specs.Laws.{LinksHaveOneView}

-- ## numbers of nodes

same_at : (xs ys : List ℕ) → length xs ≡ length ys → ((k : ℕ) → k < length xs → slice_get xs k ≡ slice_get ys k) → xs ≡ ys
same_at [] [] e h = refl
same_at [] (y ∷ ys) e h = absurd (omega (arith, e))
same_at (x ∷ xs) [] e h = absurd (omega (arith, e))
same_at (x ∷ xs) (y ∷ ys) e h =
    let first : Some x ≡ Some y = h 0 (omega arith) in
    let heads : x ≡ y = cc in
    let tails : xs ≡ ys = same_at xs ys (omega (arith, e)) (λ k less. h (suc k) (omega arith)) in
    cc

numbers_same : (nodes : ℕ) (xs ys : List ℕ) (f : ℕ → ℕ) → AreNumbers nodes xs f → AreNumbers nodes ys f → xs ≡ ys
numbers_same nodes xs ys f a b =
    same_at xs ys (a.each ∙ sym b.each)
    (λ k less. let below : k < nodes = omega (arith, a.each) in a.same k below ∙ sym (b.same k below))

numbers_tell : (nodes : ℕ) (xs : List ℕ) (f g : ℕ → ℕ) → AreNumbers nodes xs f → AreNumbers nodes xs g → (n : ℕ) → n < nodes → f n ≡ g n
numbers_tell nodes xs f g a b n less = (let both : Some (f n) ≡ Some (g n) = sym (a.same n less) ∙ b.same n less in cc)

-- the numbers of so many nodes from one on
from : (ℕ → ℕ) → ℕ → ℕ → List ℕ
from f k zero = []
from f k (suc n) = f k ∷ from f (k + 1) n

as_many : (f : ℕ → ℕ) (k n : ℕ) → length (from f k n) ≡ n
unfolding from
as_many f k zero = refl
as_many f k (suc n) = (let rest : length (from f (k + 1) n) ≡ n = as_many f (k + 1) n in omega (arith, rest))

each_at : (f : ℕ → ℕ) (k n m : ℕ) → m < n → slice_get (from f k n) m ≡ Some (f (k + m))
unfolding from
each_at f k zero m less = absurd (omega (arith, less))
each_at f k (suc n) zero less = (let is : k ≡ k + 0 = omega arith in ap (λ (x : ℕ). Some (f x)) is)
each_at f k (suc n) (suc m) less = (let is : (k + 1) + m ≡ k + suc m = omega arith in each_at f (k + 1) n m (omega (arith, less)) ∙ ap (λ (x : ℕ). Some (f x)) is)

are_numbers : (nodes : ℕ) (f : ℕ → ℕ) → AreNumbers nodes (from f 0 nodes) f
are_numbers nodes f = record { each = as_many f 0 nodes; same = λ m less. each_at f 0 nodes m less ∙ ap (λ (x : ℕ). Some (f x)) (omega arith) }

-- ## lists in order

pub record AreInOrder (l : Links) : Type 0 where
  pub stubs : IsInOrder stub_pair l.stubs
  pub scions : IsInOrder scion_pair l.scions

pairs_ordered : (clock : ℕ) (xs : List Stub) (l : Links) → AreInOrder l → AreInOrder (fold (with_pair clock) l xs)
pairs_ordered clock [] l k = k
pairs_ordered clock (x ∷ xs) l k = pairs_ordered clock xs (with_pair clock l x) (record {
  stubs = IsInOrder-with_one stub_pair (stub_of x.source x.bunch x.target) l.stubs k.stubs;
  scions = IsInOrder-with_one scion_pair (scion_of x.source x.bunch x.target clock) l.scions k.scions;
})

either_ordered : (b : Bool) (r q : CollectorReaction) → AreInOrder r.node.links → AreInOrder q.node.links → AreInOrder (cond b r q).node.links
either_ordered true r q x y = x
either_ordered false r q x y = y

rule_ordered : (st : Setting) (me stamp : ℕ) (n : LinkedNode) (t : CollectorTold) (i : CollectorInput) → AreInOrder n.links → AreInOrder (collector_rule st me n t stamp i).node.links
rule_ordered st me stamp n t (Collect bunch) k =
    either_ordered (is_too_large st.limit n.state n.places t.owned) (unchanged n (Refused refusal.Full)) _ k
    (record { stubs = IsInOrder-filter stub_pair (is_kept bunch (is_listed t.kept) (refers n.state)) n.links.stubs k.stubs; scions = k.scions })
rule_ordered st me stamp n t Sweep k = k
rule_ordered st me stamp n t (MakeTable bunch to) k = record { stubs = k.stubs; scions = k.scions }
rule_ordered st me stamp n t (TakeTable table) k =
    either_ordered (is_stray_table st me table) (unchanged n Stray) _ k
    (record { stubs = k.stubs; scions = IsInOrder-filter scion_pair (λ q. not (ends_scion (n.state.taken table.from) table q)) n.links.scions k.scions })

pub deed_ordered : (st : Setting) (me stamp : ℕ) (n m : LinkedNode) (d : Deed) → IsDeed st me n stamp d m → AreInOrder n.links → AreInOrder m.links
deed_ordered st me stamp n m (Plain i d) step k = subst AreInOrder (sym step.links) (pairs_ordered (n.state.clock + 1) (pairs_of me n.state i d.answer) n.links k)
deed_ordered st me stamp n m (Collector i d) step k = subst (λ (x : LinkedNode). AreInOrder x.links) (sym step.node) (rule_ordered st me stamp n step.told i k)

pub order_either : (b : Bool) (n m : LinkedNode) → AreInOrder n.links → AreInOrder m.links → AreInOrder (cond b n m).links
order_either true n m x y = x
order_either false n m x y = y

abbrev pub AllInOrder : (ℕ → LinkedNode) → Type 0
AllInOrder nodes = (k : ℕ) → AreInOrder (nodes k).links

replay_ordered : (st : Setting) (events : List LinkedEvent) (nodes last : ℕ → LinkedNode) → AllInOrder nodes → ReplaysLinked st nodes events last → AllInOrder last
replay_ordered st [] nodes last all r = subst AllInOrder r all
replay_ordered st (e ∷ events) nodes last all r =
    replay_ordered st events (put nodes e.node r.0) last
    (λ k. order_either (e.node == k) r.0 (nodes k) (deed_ordered st e.node e.stamp (nodes e.node) r.0 e.deed r.1 (all e.node)) (all k)) r.2

pub first_ordered : (st : Setting) → AllInOrder (first_linked st)
first_ordered st k = record { stubs = λ i j d less within. absurd (omega (arith, within)); scions = λ i j d less within. absurd (omega (arith, within)) }

-- ## views

the_view : (nodes : ℕ) (l : Links) → AreInOrder l → (v : LinkView) × ShowsLinks nodes v l
the_view nodes l k = (
  record { stubs = l.stubs; scions = l.scions; tables = from l.tables 0 nodes },
  record {
    all_stubs = refl;
    all_scions = refl;
    stubs_in_order = k.stubs;
    scions_in_order = k.scions;
    made = are_numbers nodes l.tables;
  },
)

one_view : (nodes : ℕ) (l : Links) (v w : LinkView) → ShowsLinks nodes v l → ShowsLinks nodes w l → v ≡ w
one_view nodes l v w a b =
    let stubs : v.stubs ≡ w.stubs = a.all_stubs ∙ sym b.all_stubs in
    let scions : v.scions ≡ w.scions = a.all_scions ∙ sym b.all_scions in
    let tables : v.tables ≡ w.tables = numbers_same nodes v.tables w.tables l.tables a.made b.made in
    λ i. record { stubs = stubs i; scions = scions i; tables = tables i }

one_value : (nodes : ℕ) (v : LinkView) (l m : Links) → ShowsLinks nodes v l → ShowsLinks nodes v m → AreShownAlike nodes l m
one_value nodes v l m a b = record {
  stubs = sym a.all_stubs ∙ b.all_stubs;
  scions = sym a.all_scions ∙ b.all_scions;
  tables = numbers_tell nodes v.tables l.tables m.tables a.made b.made;
}

pub links_have_one_view : LinksHaveOneView
links_have_one_view = record {
  one_view = one_view;
  one_value = one_value;
  always = λ st history nodes legal r n many. the_view many (nodes n).links (replay_ordered st history (first_linked st) nodes (first_ordered st) r n);
}
