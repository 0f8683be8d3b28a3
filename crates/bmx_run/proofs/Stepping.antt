-- What a node's step makes of a whole run.
use Rattle.std.proofs.Common.{◌≡◌, ℕ, ◌+◌, ◌<◌, ◌≤◌, ◌^◌, arith, refl, ap, sym, ◌∙◌, subst, List, [], ◌∷◌, ◌++◌, length, Option, Some, None}
use Rattle.std.specs.Prelude.{slice_get, slice_set, string_bytes}
use Rattle.std.specs.Option.{option_map_or}
use Rattle.std.proofs.lemmas.Option.{slice_get_within}
use Rattle.std.proofs.lemmas.List.{length-append}
use Rattle.bmx_types.specs.Updates.{put}
use Rattle.bmx_script.specs.declared.lines.Line.{Line}
use Rattle.bmx_protocol.specs.declared.inputs.Input.{Input}
use Rattle.bmx_protocol.specs.declared.events.Event.{Event}
use Rattle.bmx_protocol.specs.Nodes.{Setting}
use Rattle.bmx_protocol.specs.Steps.{Node, first_node, IsStep, stamp_after}
use Rattle.bmx_protocol.specs.Histories.{IsInputOf, IsAgain, waits_with}
use Rattle.bmx_protocol.proofs.Basics.{Two, Same, Apart, two, some_same}
use Rattle.bmx_node.specs.Stamped.{Stamped}
use Rattle.bmx_node.specs.Seen.{node_of, Suits}
use Rattle.bmx_legal.specs.Growing.{Leads, MayFollow, TakesFirst}
use Rattle.bmx_legal.proofs.Growing.{history_grows}
use Rattle.bmx_world.specs.Scripts.{setting_of_script}
use Rattle.bmx_world.specs.Texts.{text_of}
use Rattle.bmx_world.specs.Runs.{stamps_behind}
use Rattle.bmx_run.specs.declared.runner.Runner.{Runner}
use Rattle.bmx_run.specs.Inside.Steps.{nodes_in, stamps_in, AreNodes, Steps, event_of}
use Rattle.bmx_run.specs.Inside.Running.{IsWhole}
use Rattle.bmx_run.proofs.Listing.{got_same, got_other, length_set, seen_set}

-- a node is one of the store
pub is_node : (st : Setting) (nodes : List Stamped) (n : ℕ) (d : Stamped) → AreNodes st nodes → slice_get nodes n ≡ Some d → n < st.nodes
is_node st nodes n d are there =
    let short : n < length nodes = slice_get_within nodes n d there in
    omega (arith, short, are.each)

pub node_here : (st : Setting) (nodes : List Stamped) (n : ℕ) (d : Stamped) → slice_get nodes n ≡ Some d → nodes_in st nodes n ≡ node_of d.holdings
node_here st nodes n d there = ap (λ (o : Option Stamped). option_map_or (λ (x : Stamped). node_of x.holdings) o (first_node st n)) there

stamp_here : (nodes : List Stamped) (n : ℕ) (d : Stamped) → slice_get nodes n ≡ Some d → stamps_in nodes n ≡ d.stamp
stamp_here nodes n d there = ap (λ (o : Option Stamped). option_map_or (λ (x : Stamped). x.stamp) o 0) there

-- nodes of which one changes
pub set_nodes : (st : Setting) (nodes : List Stamped) (n : ℕ) (d : Stamped) → AreNodes st nodes → n < length nodes → d.holdings.me ≡ n → Suits st d.holdings →
    AreNodes st (slice_set nodes n d)
set_nodes st nodes n d are there me suits = record {
  each = length_set nodes n d ∙ are.each;
  me = λ m x got. of_me m x got (two n m);
  suits = λ m x got. of_suits m x got (two n m);
}
  where
    same : (m : ℕ) (x : Stamped) → slice_get (slice_set nodes n d) m ≡ Some x → n ≡ m → d ≡ x
    same m x got e = some_same (sym (got_same nodes n d there) ∙ ap (slice_get (slice_set nodes n d)) e ∙ got)

    of_me : (m : ℕ) (x : Stamped) → slice_get (slice_set nodes n d) m ≡ Some x → Two n m → x.holdings.me ≡ m
    of_me m x got (Same e) = ap (λ (y : Stamped). y.holdings.me) (sym (same m x got e)) ∙ me ∙ e
    of_me m x got (Apart t q) = are.me m x (sym (got_other nodes n m d q) ∙ got)

    of_suits : (m : ℕ) (x : Stamped) → slice_get (slice_set nodes n d) m ≡ Some x → Two n m → Suits st x.holdings
    of_suits m x got (Same e) = subst (λ (y : Stamped). Suits st y.holdings) (same m x got e) suits
    of_suits m x got (Apart t q) = are.suits m x (sym (got_other nodes n m d q) ∙ got)

-- the nodes after a step
pub nodes_grow : (st : Setting) (old : Runner) (n : ℕ) (i : Input) (new : Runner) → AreNodes st old.nodes.items → Steps st old n i new → AreNodes st new.nodes.items
nodes_grow st old n i new are s =
    subst (AreNodes st) (sym s.nodes)
    (set_nodes st old.nodes.items n s.behind are (slice_get_within old.nodes.items n s.before s.there) s.same s.suits)

-- a step may follow
pub may_follow : (st : Setting) (past : List Event) (old : Runner) (n : ℕ) (i : Input) (new : Runner) →
    AreNodes st old.nodes.items → (s : Steps st old n i new) → IsInputOf st i → TakesFirst past n i → IsAgain (waits_with n None past) i →
    MayFollow st past (nodes_in st old.nodes.items) (stamps_in old.nodes.items) (event_of n i s.behind s.done) (node_of s.behind.holdings)
may_follow st past old n i new are s of_store first again = record {
  a_node = is_node st old.nodes.items n s.before are s.there;
  an_input = of_store;
  step = subst (λ (m : Node). IsStep st n m s.behind.stamp i s.done (node_of s.behind.holdings)) (sym (node_here st old.nodes.items n s.before s.there)) s.step;
  stamp = s.stamped ∙ ap (λ (k : ℕ). stamp_after k i) (sym (stamp_here old.nodes.items n s.before s.there));
  first = first;
  again = again;
}

-- stamps behind one event more
stamps_more : (stamps : ℕ → ℕ) (events : List Event) (e : Event) → stamps_behind stamps (events ++ e ∷ []) ≡ put (stamps_behind stamps events) e.node e.stamp
stamps_more stamps [] e = refl
stamps_more stamps (f ∷ events) e = stamps_more (put stamps f.node f.stamp) events e

-- a whole run with a step more
pub whole_grows : (lines : List Line) (history : List Event) (old : Runner) (n : ℕ) (i : Input) (new : Runner) →
    IsWhole lines history old → (s : Steps (setting_of_script lines) old n i new) →
    IsInputOf (setting_of_script lines) i → TakesFirst history n i → IsAgain (waits_with n None history) i →
    length history < old.budget → (last : Runner) → last.history.items ≡ new.history.items → last.nodes.items ≡ new.nodes.items → last.budget ≡ old.budget →
    string_bytes last.text ≡ text_of lines (history ++ event_of n i s.behind s.done ∷ []) →
    IsWhole lines (history ++ event_of n i s.behind s.done ∷ []) last
whole_grows lines history old n i new w s of_store first again room last same_history same_nodes same_budget text = record {
  history = same_history ∙ s.history ∙ ap (λ (l : List Event). l ++ e ∷ []) w.history;
  few = shorter;
  small = subst (λ (k : ℕ). k < 2 ^ 55) (sym same_budget) w.small;
  opens = w.opens;
  nodes = subst (AreNodes st) (sym same_nodes) (nodes_grow st old n i new w.nodes s);
  leads = subst (λ (l : List Stamped). Leads st (history ++ e ∷ []) (nodes_in st l) (stamps_in l)) (sym (same_nodes ∙ s.nodes)) set;
  stamped =
      ap stamps_in (same_nodes ∙ s.nodes)
      ∙ seen_set (λ (d : Stamped). d.stamp) (λ m. 0) old.nodes.items n s.behind there
      ∙ ap (λ (f : ℕ → ℕ). put f n s.behind.stamp) w.stamped
      ∙ sym (stamps_more (λ _. 0) history e);
  text = text;
}
  where
    st : Setting
    st = setting_of_script lines

    e : Event
    e = event_of n i s.behind s.done

    there : n < length old.nodes.items
    there = slice_get_within old.nodes.items n s.before s.there

    long : length (history ++ e ∷ []) ≡ length history + 1
    long = length-append history (e ∷ [])

    shorter : length (history ++ e ∷ []) ≤ last.budget
    shorter = omega (arith, long, room, same_budget)

    grown : Leads st (history ++ e ∷ []) (put (nodes_in st old.nodes.items) n (node_of s.behind.holdings)) (put (stamps_in old.nodes.items) n s.behind.stamp)
    grown =
        history_grows st history (nodes_in st old.nodes.items) (stamps_in old.nodes.items) e (node_of s.behind.holdings) w.opens w.leads
        (may_follow st history old n i new w.nodes s of_store first again) (omega (arith, room, w.small))

    set : Leads st (history ++ e ∷ []) (nodes_in st (slice_set old.nodes.items n s.behind)) (stamps_in (slice_set old.nodes.items n s.behind))
    set =
        subst (λ (f : ℕ → Node). Leads st (history ++ e ∷ []) f (stamps_in (slice_set old.nodes.items n s.behind)))
        (sym (seen_set (λ (d : Stamped). node_of d.holdings) (first_node st) old.nodes.items n s.behind there))
        (subst (λ (f : ℕ → ℕ). Leads st (history ++ e ∷ []) (put (nodes_in st old.nodes.items) n (node_of s.behind.holdings)) f)
        (sym (seen_set (λ (d : Stamped). d.stamp) (λ m. 0) old.nodes.items n s.behind there)) grown)
